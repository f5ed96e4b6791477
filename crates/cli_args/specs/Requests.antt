-- The arguments as texts, and their request.
use Rattle.std.specs.Prelude.{ℕ, ◌^◌, ◌≡◌, Bool, false, if◌then◌else◌, List, [], ◌∷◌, map, Option}
use Rattle.std.specs.Prelude.{Some, None, option_map, option_and_then, unwrap_or, codes, Result, Ok}
use Rattle.std.specs.Prelude.{Err, String, string_bytes}
use Rattle.std.specs.Str.{bytes_eq}
use Rattle.std.specs.Str.Parse.{digits_value, without_leading_plus}
use Rattle.std.specs.declared.alloc.Global.{Global}
use Rattle.clap.specs.ValueTests.{accepts}
use Rattle.clap.specs.Words.{Row, first_of, found_of, one_of, rows_of, subcommand_rows_of}
use Rattle.clap.specs.declared.builder.value_parser.ValueParser.TheVariants.{Unsigned}
use Rattle.clap.specs.declared.parser.matches.ArgMatches.{ArgMatches}
use Rattle.cli_spec.specs.CommandLine.{Argument, flag, option, optional, wanted, number, Asking}
use Rattle.cli_spec.specs.CommandLine.{form_of}
use Rattle.cli_spec.specs.CommandLine as outcome
use Rattle.cli_spec.specs.declared.read_options.ReadOptions.{ReadOptions}
use Rattle.cli_spec.specs.declared.style.Style.{Style}
use Rattle.cli_args.specs.declared.request_parser.Request.{Request}
use Rattle.cli_args.specs.declared.request_parser.Request.TheVariants as requests
use Rattle.cli_args.specs.declared.request_parser.ArgumentsError.{ArgumentsError}
use Rattle.cli_args.specs.declared.request_parser.ArgumentsError.TheVariants.{Usage, Memory}

abbrev pub texts : List (String Global) → List (List ℕ)
texts command_line = map (λ word. string_bytes word) command_line

abbrev pub request_of : Request → outcome.Request
request_of (requests.Check file type lines reading) =
    outcome.report outcome.the_verdict file.now type.now lines reading
request_of (requests.Show file type style lines reading) =
    outcome.report (outcome.the_text style) file.now type.now lines reading
request_of (requests.Get file type path style lines reading) =
    outcome.get file.now type.now path.now style lines reading
request_of (requests.Edit file type script compat lines decimal reading) =
    outcome.edit file.now type.now script.now compat lines decimal reading
request_of (requests.Trees file type lines reading) =
    outcome.report outcome.the_trees file.now type.now lines reading
request_of (requests.Dump reading) = outcome.dump reading
request_of (requests.Same reading) = outcome.compare reading
request_of (requests.Build file type lines decimal) =
    outcome.own (outcome.build file.now type.now lines decimal)
request_of (requests.Verify file type certificate lines reading) =
    outcome.own (outcome.verify file.now type.now certificate.now lines reading)
request_of (requests.Certify file type lines reading) =
    outcome.own (outcome.certify file.now type.now lines reading)
request_of (requests.Generate n count type) = outcome.own (outcome.generate n count type.now)
request_of (requests.Scan limit) = outcome.own (outcome.scan limit)

-- The request of `check`, with or without a certificate.
abbrev pub check_asks : Bool → (file type : List ℕ) → Bool → ReadOptions → outcome.Request
check_asks certified file type lines reading =
    if certified then outcome.own (outcome.certify file type lines reading)
    else outcome.report outcome.the_verdict file type lines reading

-- The arguments that clap found for a command, as rows.
abbrev pub arguments_of : ArgMatches → List Row
arguments_of matches = rows_of (found_of matches)

-- The argument with the name `name`, or the empty text if the argument is absent.
abbrev pub word_in : List Row → List ℕ → List ℕ
word_in rows name = unwrap_or (first_of name rows) []

-- True if the flag with the name `name` is used.
abbrev pub flag_in : List Row → List ℕ → Bool
flag_in rows name = bytes_eq (word_in rows name) (codes "true")

-- The style for printing values.
abbrev pub style_in : List Row → Style
style_in rows =
    outcome.styled_by (flag_in rows (codes "pretty")) (flag_in rows (codes "decimal"))

-- The 64-bit number in a text, or `None` if the text has no such number.
abbrev pub number_of : Option (List ℕ) → Option ℕ
number_of None = None
number_of (Some text) =
    if accepts false (Unsigned 0 (2 ^ 64)) text
    then Some (digits_value 10 (without_leading_plus text))
    else None

-- The number with the name `name`, or `None` if the number is not given.
abbrev pub given_in : List Row → List ℕ → Option ℕ
given_in rows name = number_of (one_of name rows)

-- The number with the name `name`, or 0 if the number is not given.
abbrev pub number_in : List Row → List ℕ → ℕ
number_in rows name = unwrap_or (given_in rows name) 0

-- The options for reading values, where `only` is the number for `--only`.
abbrev pub choosing_in : List Row → Option ℕ → ReadOptions
choosing_in rows only =
    outcome.read_by (number_in rows (codes "limit")) (number_in rows (codes "skip")) only

-- The options for reading all values.
abbrev pub reading_in : List Row → ReadOptions
reading_in rows = choosing_in rows None

abbrev pub command_sum_in : List Row → ReadOptions
command_sum_in rows = choosing_in rows (given_in rows (codes "only"))

-- The request of a command whose arguments are all present.
abbrev pub asked : (arguments : List Argument) → Asking arguments → List Row → outcome.Request
asked [] asks rows = asks
asked (flag name ∷ rest) asks rows = asked rest (asks (flag_in rows name)) rows
asked (option name greatest usual ∷ rest) asks rows = asked rest (asks (number_in rows name)) rows
asked (optional name greatest ∷ rest) asks rows = asked rest (asks (given_in rows name)) rows
asked (wanted name ∷ rest) asks rows = asked rest (asks (word_in rows name)) rows
asked (number name greatest ∷ rest) asks rows = asked rest (asks (number_in rows name)) rows

-- The request of the command with the given name.
abbrev pub asked_by : List ℕ → List Row → Option outcome.Request
asked_by command rows = option_map (λ form. asked form.arguments form.asks rows) (form_of command)

-- The request, or `None` if the request is a certificate of a single value.
abbrev pub if_whole : outcome.Request → Option outcome.Request
if_whole request = if outcome.is_whole request then Some request else None

-- The result is the request of the command with the arguments `rows`.
abbrev pub ReadsBy : List ℕ → List Row → Option Request → Type 0
ReadsBy command rows result =
    option_and_then if_whole (asked_by command rows) ≡ option_map request_of result

-- The result is the request of the command that clap found.
abbrev pub ReadsMet : ArgMatches → Option Request → Type 0
ReadsMet matches result =
    (command : List ℕ) (rows : List Row) → subcommand_rows_of matches ≡ Some (command, rows)
    → ReadsBy command rows result

-- The result is the request of the command that clap found, or `Usage` if there is no request.
abbrev pub ReadsAsked : ArgMatches → Result Request ArgumentsError → Type 0
ReadsAsked matches (Ok request) = ReadsMet matches (Some request)
ReadsAsked matches (Err Usage) = ReadsMet matches None
ReadsAsked matches (Err Memory) = ⊥

-- The result is the request of the arguments. If the arguments make no request, the result is
-- `Usage`. If memory ran out, nothing is specified.
abbrev pub ReadsArguments : List (List ℕ) → Result Request ArgumentsError → Type 0
ReadsArguments command_line (Ok request) = outcome.Asks command_line (request_of request)
ReadsArguments command_line (Err Usage) = outcome.IsUsage command_line
ReadsArguments command_line (Err Memory) = Unit {0}
