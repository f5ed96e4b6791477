-- Accepted arguments make at most one request.
use Rattle.std.proofs.Common.{◌≡◌, ◌∙◌, ◌<◌, ◌^◌, ℕ, Bool, true, false, List, [], ◌∷◌, Option, Some, None, codes, refl, sym, ap, ap₂, unwrap_or, arith}
use Rattle.std.specs.Prelude.{if◌then◌else◌, option_map}
use Rattle.std.specs.Str.{bytes_eq}
use Rattle.std.specs.Str.Parse.{digits_value, without_leading_plus}
use Rattle.clap.specs.ValueTests.{accepts}
use Rattle.clap.specs.Words.{Row, subcommand_of}
use Rattle.clap.specs.declared.builder.value_parser.ValueParser.TheVariants.{Unsigned}
use Rattle.clap.proofs.ValueTestLemmas.{Accepts-accepts}
use Rattle.cli_spec.specs.CommandLine.{Accepted, Argument, flag, option, optional, wanted, number, Asking, Form, HasArguments, HasFlag, HasNumber, HasWord, MayHaveNumber, Request, AreReadAs, AsksBy, Asks, command_set, is_whole}
use Rattle.cli_args.specs.Requests.{asked, asked_by, flag_in, given_in, number_in, number_of, word_in}
use Rattle.cli_args.proofs.ArgumentsSetLemmas.{form_fits}
use Rattle.cli_args.proofs.ArgumentsTableLemmas.{are_lawful, both, is_lawful, lawful_rest, small_number, small_option, small_optional}

-- ---- the arguments of a command determine its request

word_known : (rows : List Row) (name text : List ℕ) → HasWord rows name text → text ≡ word_in rows name
word_known rows name text has = ap (λ (o : Option (List ℕ)). unwrap_or o []) (sym has)

flag_read : (used : Bool) → used ≡ bytes_eq (if used then codes "true" else codes "false") (codes "true")
flag_read true = refl
flag_read false = refl

flag_known : (rows : List Row) (name : List ℕ) (used : Bool) → HasFlag rows name used → used ≡ flag_in rows name
flag_known rows name used has = flag_read used ∙ ap (λ text. bytes_eq text (codes "true")) (word_known rows name _ has)

given_known : (rows : List Row) (name : List ℕ) (greatest n : ℕ) → greatest < 2 ^ 64 → HasNumber rows name greatest n → Some n ≡ given_in rows name
given_known rows name greatest n small (text, has, numeral, writes, least) =
    let accepted : accepts false (Unsigned 0 (2 ^ 64)) text ≡ true =
    Accepts-accepts false (Unsigned 0 (2 ^ 64)) text (numeral, omega (arith, writes, least, small), omega arith, omega (arith, writes, least, small)) in
    let read : number_of (Some text) ≡ Some n =
    ap (λ b. if b then Some (digits_value 10 (without_leading_plus text)) else None) accepted ∙ ap (λ m. Some m) writes in
    sym (ap number_of has ∙ read)

number_known : (rows : List Row) (name : List ℕ) (greatest n : ℕ) → greatest < 2 ^ 64 → HasNumber rows name greatest n → n ≡ number_in rows name
number_known rows name greatest n small has = ap (λ (o : Option ℕ). unwrap_or o 0) (given_known rows name greatest n small has)

optional_known : (rows : List Row) (name : List ℕ) (greatest : ℕ) (o : Option ℕ) → greatest < 2 ^ 64 → MayHaveNumber rows name greatest o → o ≡ given_in rows name
optional_known rows name greatest None small has = sym (ap number_of has)
optional_known rows name greatest (Some n) small has = given_known rows name greatest n small has

pub arguments_known : (arguments : List Argument) (asks : Asking arguments) (rows : List Row) (request : Request) → are_lawful arguments ≡ true → HasArguments arguments asks rows request
    → request ≡ asked arguments asks rows
arguments_known [] asks rows request lawful has = sym has
arguments_known (flag name ∷ rest) asks rows request lawful (used, is, has) =
    arguments_known rest (asks used) rows request (lawful_rest (flag name) rest lawful) has ∙ ap (λ b. asked rest (asks b) rows) (flag_known rows name used is)
arguments_known (option name greatest usual ∷ rest) asks rows request lawful (n, is, has) =
    let small = small_option name greatest usual (both (is_lawful (option name greatest usual)) _ lawful).0 in
    arguments_known rest (asks n) rows request (lawful_rest (option name greatest usual) rest lawful) has
    ∙ ap (λ m. asked rest (asks m) rows) (number_known rows name greatest n small is)
arguments_known (optional name greatest ∷ rest) asks rows request lawful (n, is, has) =
    let small = small_optional name greatest (both (is_lawful (optional name greatest)) _ lawful).0 in
    arguments_known rest (asks n) rows request (lawful_rest (optional name greatest) rest lawful) has
    ∙ ap (λ m. asked rest (asks m) rows) (optional_known rows name greatest n small is)
arguments_known (wanted name ∷ rest) asks rows request lawful (text, is, has) =
    arguments_known rest (asks text) rows request (lawful_rest (wanted name) rest lawful) has ∙ ap (λ t. asked rest (asks t) rows) (word_known rows name text is)
arguments_known (number name greatest ∷ rest) asks rows request lawful (n, is, has) =
    let small = small_number name greatest (both (is_lawful (number name greatest)) _ lawful).0 in
    arguments_known rest (asks n) rows request (lawful_rest (number name greatest) rest lawful) has
    ∙ ap (λ m. asked rest (asks m) rows) (number_known rows name greatest n small is)

pub request_known : (command : List ℕ) (rows : List Row) (request : Request) → AsksBy command rows request → asked_by command rows ≡ Some request
request_known command rows request (form, found, has) =
    ap (option_map (λ (f : Form). asked f.arguments f.asks rows)) found
    ∙ ap (λ r. Some r) (sym (arguments_known form.arguments form.asks rows request (form_fits command form found).0 has))

-- If accepted arguments parse to a request, then the command and its rows determine the request.
pub reads_by : (command_line : List (List ℕ)) (request : Request) (command : List ℕ) (rows : List Row) → Accepted command_line command rows → AsksBy command rows request → AreReadAs command_line request
unfolding AreReadAs
reads_by command_line request command rows accepted by = (command, rows, accepted, by)

pub read_parts : (command_line : List (List ℕ)) (request : Request) → AreReadAs command_line request → (command : List ℕ) × (rows : List Row) × Accepted command_line command rows × AsksBy command rows request
unfolding AreReadAs
read_parts command_line request read = read

-- If arguments parse to a request that is not a certificate of a single value, then the arguments
-- make the request.
pub asks_whole : (command_line : List (List ℕ)) (request : Request) → AreReadAs command_line request → is_whole request ≡ true → Asks command_line request
unfolding Asks
asks_whole command_line request read whole = (read, whole)

pub asked_whole : (command_line : List (List ℕ)) (request : Request) → Asks command_line request → AreReadAs command_line request × (is_whole request ≡ true)
unfolding Asks
asked_whole command_line request asks = asks

-- clap parses arguments to at most one command.
one_read : {X Y : Type 0} (read : Option (X × Y)) (x x' : X) (y y' : Y) → read ≡ Some (x, y) → read ≡ Some (x', y') → (x ≡ x') × (y ≡ y')
one_read {X} {Y} read x x' y y' is is' =
    let e : ◌≡◌ {A = Option (X × Y)} (Some (x, y)) (Some (x', y')) = sym is ∙ is' in
    let pair : ◌≡◌ {A = X × Y} (x, y) (x', y') = cc e in
    (ap (λ (p : X × Y). p.0) pair, ap (λ (p : X × Y). p.1) pair)

pub one_reading : (command_line : List (List ℕ)) (request other : Request) → AreReadAs command_line request → AreReadAs command_line other → request ≡ other
one_reading command_line request other read read' =
    let one = read_parts command_line request read in
    let two = read_parts command_line other read' in
    let same = one_read (subcommand_of command_set command_line) one.0 two.0 one.1 two.1 one.2.1 two.2.1 in
    let known : Some request ≡ Some other = sym (request_known one.0 one.1 request one.3) ∙ (ap₂ asked_by same.0 same.1 ∙ request_known two.0 two.1 other two.3) in
    cc known

pub one_request : (command_line : List (List ℕ)) (request other : Request) → Asks command_line request → Asks command_line other → request ≡ other
one_request command_line request other asks asks' =
    one_reading command_line request other (asked_whole command_line request asks).0 (asked_whole command_line other asks').0
