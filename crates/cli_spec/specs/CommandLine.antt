-- The command line as a table: the configuration of `clap`, the arguments that are accepted, and
-- the request of each command line in plain form.
use Rattle.std.specs.Prelude.{ℕ, ◌-◌, ◌^◌, ◌≤◌, ◌≡◌, ◌≢◌, ◌⊎◌, Bool, true, false, if◌then◌else◌}
use Rattle.std.specs.Prelude.{List, [], ◌∷◌, ◌++◌, map, find, Option, None, Some, is_some}
use Rattle.std.specs.Prelude.{option_map, unwrap_or, not, codes}
use Rattle.std.specs.List.{flat_map, list_any}
use Rattle.std.specs.Str.{bytes_eq}
use Rattle.std.specs.Str.Parse.{IsNumeral, digits_value, without_leading_plus}
use Rattle.clap.specs.Words.{App, Row, Rule, Shape, fault_of, first_of, new_rule, one_of}
use Rattle.clap.specs.Words.{subcommand_of}
use Rattle.clap.specs.Simple.{new_shape}
use Rattle.clap.specs.declared.builder.action.ArgAction.TheVariants.{SetTrue}
use Rattle.clap.specs.declared.builder.value_parser.ValueParser.TheVariants.{Unsigned}
use Rattle.cli_spec.specs.declared.read_options.ReadOptions.{ReadOptions}
use Rattle.cli_spec.specs.declared.style.Style.{Style}

-- ---- requests

-- The default style: text on one line, doubles printed as their bits.
abbrev pub plain : Style
plain = record { pretty = false; decimal = false }

-- The options that read all of the input under the limit `limit`, and report each value.
abbrev pub all_under : (limit : ℕ) → ReadOptions
all_under limit = record { limit = limit; skip = 0; only = None }

-- The query about a value at a type: whether the value has the type, the value's text, the text of
-- the part at a path, or whether the value's search trees are valid. If the value does not have the
-- type, the output reports the reason.
pub data Query : Type 0 where
  the_verdict : Query
  the_text : Style → Query
  the_part : (path : List ℕ) → Style → Query
  the_trees : Query

-- The request of a command that is defined in a command set of its own.
pub data OwnRequest : Type 0 where
  build : (file type : List ℕ) → (lines decimal : Bool) → OwnRequest
  generate : (number count : ℕ) → (type : List ℕ) → OwnRequest
  verify : (file type certificate : List ℕ) → (lines : Bool) → ReadOptions → OwnRequest
  certify : (file type : List ℕ) → (lines : Bool) → ReadOptions → OwnRequest
  scan : (limit : ℕ) → OwnRequest

-- The request of a command line. `lines` is true if positions in texts are reported by line and
-- column. `decimal` is true if decimals stand for doubles in the texts of values that are read. The
-- `ReadOptions` holds the options for reading values.
pub data Request : Type 0 where
  report : Query → (file type : List ℕ) → (lines : Bool) → ReadOptions → Request
  get : (file type path : List ℕ) → Style → (lines : Bool) → ReadOptions → Request
  edit : (file type script : List ℕ) → (compat lines decimal : Bool) → ReadOptions → Request
  dump : ReadOptions → Request
  compare : ReadOptions → Request
  own : OwnRequest → Request

-- TYPE with two options. If `lines` is true, a refusal of FILE, TYPE or SCRIPT reports its position
-- by line and column. If `decimal` is true, decimals stand for doubles in the texts of values that
-- are read.
pub record AskedType : Type 0 where
  pub text : List ℕ
  pub lines : Bool
  pub decimal : Bool

abbrev pub asked_with : List ℕ → (lines decimal : Bool) → AskedType
asked_with text lines decimal = record { text = text; lines = lines; decimal = decimal }

-- TYPE for a command that reads no texts of values, where `decimal` is false.
abbrev pub asked_type : List ℕ → Bool → AskedType
asked_type text lines = asked_with text lines false

-- FILE and TYPE of a request, or `None` if the command reads no values at a type.
abbrev pub typed_by : Request → Option (List ℕ × AskedType)
typed_by (report query file type lines reading) = Some (file, asked_type type lines)
typed_by (get file type path style lines reading) = Some (file, asked_type type lines)
typed_by (edit file type script compat lines decimal reading) =
    Some (file, asked_with type lines decimal)
typed_by (dump reading) = None
typed_by (compare reading) = None
typed_by (own request) = None

-- PATH of a request, or `None` if the command has no PATH.
abbrev pub path_of : Request → Option (List ℕ)
path_of (get file type path style lines reading) = Some path
path_of request = None

-- SCRIPT of a request, or `None` if the command has no SCRIPT.
abbrev pub script_of : Request → Option (List ℕ)
script_of (edit file type script compat lines decimal reading) = Some script
script_of request = None

-- The options for reading values, or `all_under 0` if the command reads no values.
abbrev pub reading_of : Request → ReadOptions
reading_of (report query file type lines reading) = reading
reading_of (get file type path style lines reading) = reading
reading_of (edit file type script compat lines decimal reading) = reading
reading_of (dump reading) = reading
reading_of (compare reading) = reading
reading_of (own (verify file type certificate lines reading)) = reading
reading_of (own (certify file type lines reading)) = reading
reading_of request = all_under 0

-- The limit of 64-bit words in a value, for a command that reads values.
abbrev pub limit_of : Request → ℕ
limit_of request = (reading_of request).limit

-- The limit of 64-bit words in a value for the command `scan`, which searches the input for values.
-- If the command is not `scan`, the result is `None`.
abbrev pub searched_by : Request → Option ℕ
searched_by (own (scan limit)) = Some limit
searched_by request = None

-- ---- the commands

-- An argument of a command:
--
-- - `flag`: `--NAME`, which is used or not;
-- - `option`: `--NAME N`, a number up to `greatest`, with the default `usual`;
-- - `optional`: `--NAME N`, a number up to `greatest`, without a default;
-- - `wanted`: a required positional argument;
-- - `number`: a required positional number up to `greatest`.
pub data Argument : Type 0 where
  flag : (name : List ℕ) → Argument
  option : (name : List ℕ) → (greatest : ℕ) → (usual : List ℕ) → Argument
  optional : (name : List ℕ) → (greatest : ℕ) → Argument
  wanted : (name : List ℕ) → Argument
  number : (name : List ℕ) → (greatest : ℕ) → Argument

-- A function from the values of the arguments, in order, to the request.
abbrev pub Asking : List Argument → Type 0
Asking [] = Request
Asking (flag name ∷ rest) = Bool → Asking rest
Asking (option name greatest usual ∷ rest) = ℕ → Asking rest
Asking (optional name greatest ∷ rest) = Option ℕ → Asking rest
Asking (wanted name ∷ rest) = List ℕ → Asking rest
Asking (number name greatest ∷ rest) = ℕ → Asking rest

-- A command: its name, its arguments and its request.
pub record Form : Type 0 where
  pub name : List ℕ
  pub arguments : List Argument
  pub asks : Asking arguments

abbrev pub row : (name : List ℕ) (arguments : List Argument) → Asking arguments → Form
row name arguments asks = record { name = name; arguments = arguments; asks = asks }

-- The maximum and the default of the limit of 64-bit words in a value.
abbrev pub greatest_limit : ℕ
greatest_limit = 2 ^ 40

abbrev pub usual_limit : List ℕ
usual_limit = codes "134217728"

-- The maximum number of bytes to skip.
abbrev pub greatest_skip : ℕ
greatest_skip = 2 ^ 48

-- The maximum number of a value for `--only`, which is the maximum number of a value in a script.
abbrev pub greatest_only : ℕ
greatest_only = 2 ^ 63 - 1

-- The options `--limit N`, `--skip N`, `--only K`, `--compat32`, `--cert`, `--pretty`, `--decimal`
-- and `--lines`.
abbrev pub limit_option : Argument
limit_option = option (codes "limit") greatest_limit usual_limit

abbrev pub skip_option : Argument
skip_option = option (codes "skip") greatest_skip (codes "0")

abbrev pub only_option : Argument
only_option = optional (codes "only") greatest_only

abbrev pub compat_flag : Argument
compat_flag = flag (codes "compat32")

abbrev pub cert_flag : Argument
cert_flag = flag (codes "cert")

abbrev pub pretty_flag : Argument
pretty_flag = flag (codes "pretty")

abbrev pub decimal_flag : Argument
decimal_flag = flag (codes "decimal")

abbrev pub lines_flag : Argument
lines_flag = flag (codes "lines")

-- The style that the flags `--pretty` and `--decimal` select.
abbrev pub styled_by : (pretty decimal : Bool) → Style
styled_by pretty decimal = record { pretty = pretty; decimal = decimal }

-- The reading options that `--limit`, `--skip` and `--only` select.
abbrev pub read_by : (limit skip : ℕ) → (only : Option ℕ) → ReadOptions
read_by limit skip only = record { limit = limit; skip = skip; only = only }

-- Prepends `--limit` and `--skip` to the arguments `more`.
abbrev pub valued : List Argument → List Argument
valued more = limit_option ∷ skip_option ∷ more

-- Prepends FILE and TYPE to the arguments `more`.
abbrev pub file_and_type : List Argument → List Argument
file_and_type more = wanted (codes "FILE") ∷ wanted (codes "TYPE") ∷ more

-- Prepends `--lines`, `--limit`, `--skip`, FILE and TYPE to the arguments `more`.
abbrev pub typed : List Argument → List Argument
typed more = lines_flag ∷ valued (file_and_type more)

-- The maximum NUMBER of a generated value, and the maximum COUNT of its items.
abbrev pub greatest_number : ℕ
greatest_number = 2147483647

abbrev pub greatest_count : ℕ
greatest_count = 1000000

-- The table of all commands, one form for each command.
abbrev pub forms : List Form
forms =
    row (codes "check") (cert_flag ∷ only_option ∷ typed [])
    (λ cert only lines n skip file type.
    if cert then own (certify file type lines (read_by n skip only))
    else report the_verdict file type lines (read_by n skip only))
    ∷ row (codes "show") (pretty_flag ∷ decimal_flag ∷ only_option ∷ typed [])
    (λ pretty decimal only lines n skip file type.
    report (the_text (styled_by pretty decimal)) file type lines (read_by n skip only))
    ∷ row (codes "get")
    (pretty_flag ∷ decimal_flag ∷ only_option ∷ typed (wanted (codes "PATH") ∷ []))
    (λ pretty decimal only lines n skip file type path.
    get file type path (styled_by pretty decimal) lines (read_by n skip only))
    ∷ row (codes "edit") (decimal_flag ∷ typed (wanted (codes "SCRIPT") ∷ compat_flag ∷ []))
    (λ decimal lines n skip file type script compat.
    edit file type script compat lines decimal (read_by n skip None))
    ∷ row (codes "trees") (typed [])
    (λ lines n skip file type. report the_trees file type lines (read_by n skip None))
    ∷ row (codes "dump") (only_option ∷ valued []) (λ only n skip. dump (read_by n skip only))
    ∷ row (codes "same") (valued []) (λ n skip. compare (read_by n skip None))
    ∷ row (codes "build") (decimal_flag ∷ lines_flag ∷ file_and_type [])
    (λ decimal lines file type. own (build file type lines decimal))
    ∷ row (codes "verify") (typed (wanted (codes "CERT") ∷ []))
    (λ lines n skip file type certificate.
    own (verify file type certificate lines (read_by n skip None)))
    ∷ row (codes "gen")
    (number (codes "NUMBER") greatest_number ∷ number (codes "COUNT") greatest_count
    ∷ wanted (codes "TYPE") ∷ [])
    (λ n count type. own (generate n count type))
    ∷ row (codes "scan") (limit_option ∷ []) (λ n. own (scan n))
    ∷ []

-- The command with the name `name`, or `None` if no command has the name.
abbrev pub form_of : List ℕ → Option Form
form_of name = find (λ form. bytes_eq form.name name) forms

-- ---- the configuration of clap

-- The clap rule of an argument.
abbrev pub rule_for : Argument → Rule
rule_for (flag name) = record (new_rule name) { long = Some name; action = Some SetTrue }
rule_for (option name greatest usual) = record (new_rule name) {
  long = Some name;
  parser = Some (Unsigned 0 greatest);
  defaults = usual ∷ [];
}
rule_for (optional name greatest) =
    record (new_rule name) { long = Some name; parser = Some (Unsigned 0 greatest) }
rule_for (wanted name) = record (new_rule name) { required = true }
rule_for (number name greatest) =
    record (new_rule name) { parser = Some (Unsigned 0 greatest); required = true }

-- The clap description of a command.
abbrev pub shape_for : List ℕ → List Argument → Shape
shape_for name arguments = record (new_shape name) { rules = map rule_for arguments }

-- The clap description of the program. A command is required. The arguments do not begin with the
-- program's name. There is no help command or flag.
abbrev pub command_set : App
command_set = record {
  top = record (new_shape (codes "omarshal")) {
    is_leaf = false;
    no_binary_name = true;
    subcommand_required = true;
    disable_help_flag = true;
    disable_help_subcommand = true;
  };
  subs = map (λ form. shape_for form.name form.arguments) forms;
}

-- ---- accepted arguments

-- clap reports no error, and parses the arguments as the command `command` with the values `rows`.
abbrev pub Accepted : List (List ℕ) → List ℕ → List Row → Type 0
Accepted command_line command rows =
    (fault_of command_set command_line ≡ [])
    × (subcommand_of command_set command_line ≡ Some (command, rows))

-- The argument with the name `name` has the text `text`.
abbrev pub HasWord : List Row → List ℕ → List ℕ → Type 0
HasWord rows name text = first_of name rows ≡ Some text

-- The flag with the name `name` is used if and only if `used` is true. clap represents a flag by
-- the text `true` or `false`.
abbrev pub HasFlag : List Row → List ℕ → Bool → Type 0
HasFlag rows name used = HasWord rows name (if used then codes "true" else codes "false")

-- The argument with the name `name` is the number `n`, at most `greatest`. The text of the number
-- is decimal digits, optionally after a plus sign.
abbrev pub HasNumber : List Row → List ℕ → ℕ → ℕ → Type 0
HasNumber rows name greatest n =
    (text : List ℕ) × (one_of name rows ≡ Some text) × IsNumeral 10 (without_leading_plus text)
    × (digits_value 10 (without_leading_plus text) ≡ n) × (n ≤ greatest)

-- The option with the given name is not used, or is a number as in `HasNumber`.
abbrev pub MayHaveNumber : List Row → List ℕ → ℕ → Option ℕ → Type 0
MayHaveNumber rows name greatest None = one_of name rows ≡ None
MayHaveNumber rows name greatest (Some n) = HasNumber rows name greatest n

-- All arguments are present, and the values of the arguments give the request.
abbrev pub HasArguments : (arguments : List Argument) → Asking arguments → List Row → Request
    → Type 0
HasArguments [] asked rows request = asked ≡ request
HasArguments (flag name ∷ rest) asks rows request =
    (used : Bool) × HasFlag rows name used × HasArguments rest (asks used) rows request
HasArguments (option name greatest usual ∷ rest) asks rows request =
    (n : ℕ) × HasNumber rows name greatest n × HasArguments rest (asks n) rows request
HasArguments (optional name greatest ∷ rest) asks rows request =
    (n : Option ℕ) × MayHaveNumber rows name greatest n × HasArguments rest (asks n) rows request
HasArguments (wanted name ∷ rest) asks rows request =
    (text : List ℕ) × HasWord rows name text × HasArguments rest (asks text) rows request
HasArguments (number name greatest ∷ rest) asks rows request =
    (n : ℕ) × HasNumber rows name greatest n × HasArguments rest (asks n) rows request

-- The command `command` with the argument values `rows` makes the request `request`.
abbrev pub AsksBy : List ℕ → List Row → Request → Type 0
AsksBy command rows request =
    (form : Form) × (form_of command ≡ Some form)
    × HasArguments form.arguments form.asks rows request

-- clap accepts the arguments, and the arguments parse to the request `request`.
unfoldable pub AreReadAs : List (List ℕ) → Request → Type 0
AreReadAs command_line request =
    (command : List ℕ) × (rows : List Row) × Accepted command_line command rows
    × AsksBy command rows request

-- Returns false only if the request is a certificate of a single value.
abbrev pub is_whole : Request → Bool
is_whole (own (certify file type lines reading)) = not (is_some reading.only)
is_whole request = true

-- The arguments make the request `request`. A certificate of a single value cannot be requested.
unfoldable pub Asks : List (List ℕ) → Request → Type 0
Asks command_line request = AreReadAs command_line request × (is_whole request ≡ true)

-- The arguments make no request.
abbrev pub IsUsage : List (List ℕ) → Type 0
IsUsage command_line = (request : Request) → Asks command_line request → ⊥

-- ---- command lines in plain form

-- An argument that is not empty and does not begin with `-`.
abbrev pub IsArgument : List ℕ → Type 0
IsArgument [] = ⊥
IsArgument (first ∷ rest) = first ≢ 45

-- One use of an option: `--NAME`, or `--NAME TEXT`.
pub data Use : Type 0 where
  alone : (name : List ℕ) → Use
  given : (name text : List ℕ) → Use

-- The arguments that make up one use of an option.
abbrev pub arguments_for : Use → List (List ℕ)
arguments_for (alone name) = (codes "--" ++ name) ∷ []
arguments_for (given name text) = (codes "--" ++ name) ∷ text ∷ []

-- The name of the option that is used.
abbrev pub used_in : Use → List ℕ
used_in (alone name) = name
used_in (given name text) = name

-- The use is one of the given argument: a flag alone, or an option with decimal digits up to its
-- maximum.
abbrev pub IsUse : Use → Argument → Type 0
IsUse (alone name) (flag other) = name ≡ other
IsUse (given name text) (option other greatest usual) =
    (name ≡ other) × IsNumeral 10 text × (digits_value 10 text ≤ greatest)
IsUse (given name text) (optional other greatest) =
    (name ≡ other) × IsNumeral 10 text × (digits_value 10 text ≤ greatest)
IsUse one argument = ⊥

-- The use is one of an argument in the list.
abbrev pub IsUseAmong : List Argument → Use → Type 0
IsUseAmong [] one = ⊥
IsUseAmong (argument ∷ rest) one = IsUse one argument ⊎ IsUseAmong rest one

-- Returns true if one of the uses is that of the option `name`.
abbrev pub is_used : List ℕ → List Use → Bool
is_used name uses = list_any (λ one. bytes_eq (used_in one) name) uses

-- Each use is that of an argument in the list, and no option is used twice.
abbrev pub ArePlainUses : List Argument → List Use → Type 0
ArePlainUses arguments [] = Unit {0}
ArePlainUses arguments (one ∷ more) =
    IsUseAmong arguments one × (is_used (used_in one) more ≡ false) × ArePlainUses arguments more

-- The text after the option `name`, or `None` if no use of the option has a text.
abbrev pub text_after : List ℕ → List Use → Option (List ℕ)
text_after name [] = None
text_after name (alone other ∷ uses) = text_after name uses
text_after name (given other text ∷ uses) =
    if bytes_eq other name then Some text else text_after name uses

-- The given uses of options, followed by exactly the given positional arguments, make the request.
abbrev pub ArePlainArguments : (arguments : List Argument) → Asking arguments → List Use
    → List (List ℕ) → Request → Type 0
ArePlainArguments [] asked uses [] request = asked ≡ request
ArePlainArguments [] asked uses (text ∷ texts) request = ⊥
ArePlainArguments (flag name ∷ rest) asks uses texts request =
    ArePlainArguments rest (asks (is_used name uses)) uses texts request
ArePlainArguments (option name greatest usual ∷ rest) asks uses texts request =
    ArePlainArguments rest (asks (digits_value 10 (unwrap_or (text_after name uses) usual))) uses
    texts request
ArePlainArguments (optional name greatest ∷ rest) asks uses texts request =
    ArePlainArguments rest (asks (option_map (digits_value 10) (text_after name uses))) uses texts
    request
ArePlainArguments (wanted name ∷ rest) asks uses [] request = ⊥
ArePlainArguments (wanted name ∷ rest) asks uses (text ∷ texts) request =
    IsArgument text × ArePlainArguments rest (asks text) uses texts request
ArePlainArguments (number name greatest ∷ rest) asks uses [] request = ⊥
ArePlainArguments (number name greatest ∷ rest) asks uses (text ∷ texts) request =
    IsNumeral 10 text × (digits_value 10 text ≤ greatest)
    × ArePlainArguments rest (asks (digits_value 10 text)) uses texts request

-- A command line in plain form and its request. The command line consists of a command's name, uses
-- of the command's options, and the command's positional arguments.
abbrev pub ArePlain : List (List ℕ) → Request → Type 0
ArePlain command_line request =
    (form : Form) × (form_of form.name ≡ Some form)
    × (uses : List Use) × ArePlainUses form.arguments uses
    × (texts : List (List ℕ)) × ArePlainArguments form.arguments form.asks uses texts request
    × (is_whole request ≡ true) × (command_line ≡ form.name ∷ flat_map arguments_for uses ++ texts)
