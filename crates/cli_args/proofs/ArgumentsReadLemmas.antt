-- Parsing of the arguments to a request.
use Rattle.std.proofs.Common.{◌≡◌, ◌≢◌, ◌∙◌, ◌^◌, ℕ, Bool, true, false, List, [], ◌∷◌, Option, Some, None, Result, Ok, Err, refl, sym, ap, subst, inl, inr, unwrap_or, arith}
use Rattle.std.specs.Prelude.{Box, if◌then◌else◌, find, option_and_then, option_map}
use Rattle.std.specs.Box.{box_value}
use Rattle.std.specs.List.{AllByRecursion}
use Rattle.std.specs.Borrow.{Bor}
use Rattle.std.specs.Str.{bytes_eq}
use Rattle.std.specs.Str.Parse.{ParsesUnsigned, digits_value, without_leading_plus}
use Rattle.std.proofs.lemmas.Slice.Eq.{bytes_eq-Decides}
use Rattle.clap.specs.ValueTests.{accepts}
use Rattle.clap.specs.Words.{App, HasKind, HasMatchesOf, IsAmong, ReadsOne, Row, fault_of, first_value, is_simple, is_simple_and_free, kind_of, one_text, rows_of, subcommand_name_of, subcommand_of, subcommand_rows, subcommand_rows_of}
use Rattle.clap.specs.declared.builder.value_parser.ValueParser.TheVariants.{Unsigned}
use Rattle.clap.specs.declared.error.Error.{Error}
use Rattle.clap.specs.declared.error.kind.ErrorKind.TheVariants as kinds
use Rattle.clap.specs.declared.parser.matches.ArgMatches.{ArgMatches}
use Rattle.clap.specs.declared.parser.matches.ArgMatches.TheViews.{out-ArgMatches, out-SubCommand}
use Rattle.clap.specs.declared.parser.matches.SubCommand.{SubCommand}
use Rattle.clap.specs.declared.parser.matches.Found.{Found}
use Rattle.clap.proofs.OnLiterals.{clap_on_literals}
use Rattle.clap.proofs.ValueTestLemmas.{Accepts-accepts, accepts-Accepts}
use Rattle.clap.proofs.WalkLemmas.{first_value-rows, one_text-rows}
use Rattle.cli_spec.specs.CommandLine.{command_set, Form, Request, AreReadAs, Asks, IsUsage, is_whole}
use Rattle.cli_args.specs.declared.request_parser.Request.{Request as Reading}
use Rattle.cli_args.specs.declared.request_parser.ArgumentsError.{ArgumentsError}
use Rattle.cli_args.specs.declared.request_parser.ArgumentsError.TheVariants.{Usage, Memory}
use Rattle.cli_args.specs.Requests.{ReadsAsked, ReadsBy, ReadsMet, ReadsArguments, given_in, if_whole, number_of, request_of, word_in}
use Rattle.cli_args.proofs.ArgumentsAcceptedLemmas.{accepted_arguments_are_read}
use Rattle.cli_args.proofs.RequestLemmas.{asked_whole, asks_whole, one_reading, read_parts, request_known}

-- ---- an argument

-- The getter for texts returns the argument.
pub word_got : (found : Found) (name : List ℕ) (r : Option (Bor (List ℕ))) (usual text : Bor (List ℕ)) → option_map (λ s. s.now) r ≡ first_value found name → usual.now ≡ []
    → text ≡ unwrap_or r usual → text.now ≡ word_in (rows_of found) name
word_got found name r usual text is empty given =
    ap (λ (s : Bor (List ℕ)). s.now) given ∙ (go r ∙ ap (λ (o : Option (List ℕ)). unwrap_or o []) (is ∙ first_value-rows found name))
  where
    go : (r : Option (Bor (List ℕ))) → (unwrap_or r usual).now ≡ unwrap_or (option_map (λ s. s.now) r) []
    go None = empty
    go (Some s) = refl

-- If `parse` satisfies `Gives`, then the getter for numbers returns the number.
module _ {E : Type 0} (Gives : List ℕ → Result ℕ E → Type 0) (parses : (text : List ℕ) (r : Result ℕ E) → Gives text r → ParsesUnsigned 64 10 text r)
    (found : Found) (name : List ℕ) (r : Option ℕ) (none : one_text found name ≡ None → r ≡ None)
    (value : (text : List ℕ) → one_text found name ≡ Some text → ReadsOne Gives text r) where
  parsed_is : (text : List ℕ) (r : Option ℕ) → ReadsOne Gives text r → r ≡ number_of (Some text)
  parsed_is text (Some n) reads =
      let parsed = parses text (Ok n) reads in
      let accepted : accepts false (Unsigned 0 (2 ^ 64)) text ≡ true = Accepts-accepts false (Unsigned 0 (2 ^ 64)) text (parsed.0.0, parsed.0.1, omega arith, omega (arith, parsed.0.1)) in
      ap (λ m. Some m) parsed.1 ∙ sym (ap (λ b. if b then Some (digits_value 10 (without_leading_plus text)) else None) accepted)
  parsed_is text None reads = go (accepts false (Unsigned 0 (2 ^ 64)) text) refl
    where
      go : (b : Bool) → accepts false (Unsigned 0 (2 ^ 64)) text ≡ b → None ≡ (if b then Some (digits_value 10 (without_leading_plus text)) else None)
      go true e = let in_range = accepts-Accepts false (Unsigned 0 (2 ^ 64)) text e in absurd (parses text (Err reads.0) reads.1 (in_range.0, in_range.1))
      go false e = refl

  pub given_got : r ≡ given_in (rows_of found) name
  given_got = go (one_text found name) refl ∙ ap number_of (one_text-rows found name)
    where
      go : (o : Option (List ℕ)) → one_text found name ≡ o → r ≡ number_of (one_text found name)
      go None e = none e ∙ sym (ap number_of e)
      go (Some text) e = parsed_is text r (value text e) ∙ sym (ap number_of e)

-- ---- the command's name

-- If no row of a table has a name, then the lookup of the name fails.
pub name_unknown :
    (name : List ℕ) (all : List Form)
    → AllByRecursion (λ (form : Form). name ≡ form.name → ⊥) all
    → find (λ form. bytes_eq form.name name) all ≡ None
name_unknown name [] others = refl
name_unknown name (form ∷ all) (other, others) =
    go (bytes_eq form.name name) refl (name_unknown name all others)
  where
    go : (b : Bool) → bytes_eq form.name name ≡ b
        → find (λ form. bytes_eq form.name name) all ≡ None
        → find (λ form. bytes_eq form.name name) (form ∷ all) ≡ None
    go true same rest = absurd (other (sym ((bytes_eq-Decides form.name name).0 same)))
    go false disjoint rest = rw disjoint rest

-- ---- the command that clap found

module _ {Z : Type 0} where
  name_in : (o : Option (Box SubCommand Z)) → option_map (λ b. (out-SubCommand (box_value b)).name.now) o ≡ option_map (λ (p : List ℕ × List Row). p.0) (subcommand_rows o)
  name_in None = refl
  name_in (Some b) = refl

name_met : (matches : ArgMatches) → subcommand_name_of matches ≡ option_map (λ (p : List ℕ × List Row). p.0) (subcommand_rows_of matches)
name_met matches = name_in (out-ArgMatches matches).subcommand

pub met_read : (matches : ArgMatches) (name : List ℕ) (arguments : List Row) (result : Option Reading) → Some name ≡ subcommand_name_of matches
    → Some arguments ≡ option_map (λ (p : List ℕ × List Row). p.1) (subcommand_rows_of matches) → ReadsBy name arguments result → ReadsMet matches result
met_read matches name arguments result is_name are_arguments reads command rows is =
    let names : Some name ≡ Some command = is_name ∙ (name_met matches ∙ ap (option_map (λ (p : List ℕ × List Row). p.0)) is) in
    let lists : Some arguments ≡ Some rows = are_arguments ∙ ap (option_map (λ (p : List ℕ × List Row). p.1)) is in
    let same : name ≡ command = cc names in
    let both : arguments ≡ rows = cc lists in
    subst (λ n. ReadsBy n rows result) same (subst (λ l. ReadsBy name l result) both reads)

-- ---- clap's result for the command set

set_is_simple : is_simple command_set ≡ true
unfolding clap_on_literals
set_is_simple = refl

set_is_free : is_simple_and_free command_set ≡ true
unfolding clap_on_literals
set_is_free = refl

-- If `if_whole` returns a request, then the request is not a certificate of a single value.
whole_some : (request other : Request) → if_whole request ≡ Some other → (is_whole request ≡ true) × (request ≡ other)
whole_some request other e = go (is_whole request) refl e
  where
    go : (b : Bool) → is_whole request ≡ b → (if b then Some request else None) ≡ Some other → (is_whole request ≡ true) × (request ≡ other)
    go true is e = (is, cc e)
    go false is e = cc e

whole_none : (request : Request) → if_whole request ≡ None → is_whole request ≡ false
whole_none request e = go (is_whole request) refl e
  where
    go : (b : Bool) → is_whole request ≡ b → (if b then Some request else None) ≡ None → is_whole request ≡ false
    go true is e = cc e
    go false is e = is

module _ (app : App) (set : app ≡ command_set) (command_line : List (List ℕ)) where
  met : (matches : ArgMatches) → HasMatchesOf app command_line matches → subcommand_rows_of matches ≡ subcommand_of command_set command_line
  met matches found = (found (ap is_simple set ∙ set_is_simple)).1 ∙ ap (λ a. subcommand_of a command_line) set

  -- If clap accepts the arguments, then the arguments are read as some request. Unless the request
  -- is a certificate of a single value, the result is the request.
  accepted_read : (matches : ArgMatches) → (is_simple_and_free app ≡ true → fault_of app command_line ≡ []) → HasMatchesOf app command_line matches → (result : Option Reading) → ReadsMet matches result
      → (request : Request) × (if_whole request ≡ option_map request_of result) × AreReadAs command_line request
  accepted_read matches accepts found result reads =
      let read = accepted_arguments_are_read command_line (sym (ap (λ a. fault_of a command_line) set) ∙ accepts (ap is_simple_and_free set ∙ set_is_free)) in
      let by = read_parts command_line read.0 read.1 in
      (read.0, sym (ap (option_and_then if_whole) (request_known by.0 by.1 read.0 by.3)) ∙ reads by.0 by.1 (met matches found ∙ by.2.1), read.1)

  pub asked_read : (matches : ArgMatches) → (is_simple_and_free app ≡ true → fault_of app command_line ≡ []) → HasMatchesOf app command_line matches → (result : Result Reading ArgumentsError)
      → ReadsAsked matches result → ReadsArguments command_line result
  asked_read matches accepts found (Ok reading) asks =
      let one = accepted_read matches accepts found (Some reading) asks in
      let is = whole_some one.0 (request_of reading) one.1 in
      subst (Asks command_line) is.1 (asks_whole command_line one.0 one.2 is.0)
  asked_read matches accepts found (Err Usage) nothing = λ request asks.
      let one = accepted_read matches accepts found None nothing in
      let parts = asked_whole command_line request asks in
      let same = one_reading command_line request one.0 parts.0 one.2 in
      let whole : is_whole one.0 ≡ true = subst (λ r. is_whole r ≡ true) same parts.1 in
      let bad : true ≡ false = sym whole ∙ whole_none one.0 one.1 in
      cc bad
  asked_read matches accepts found (Err Memory) never = absurd never

  -- If clap refuses the arguments and memory did not run out, then the arguments are a usage error.
  pub refused_arguments : (error : Error) → (is_simple_and_free app ≡ true → HasKind (fault_of app command_line) error) → kind_of error ≢ kinds.OutOfMemory → IsUsage command_line
  refused_arguments error refuses not_memory request asks = go (refuses (ap is_simple_and_free set ∙ set_is_free)) where
    none : fault_of app command_line ≡ []
    none = ap (λ a. fault_of a command_line) set ∙ (read_parts command_line request (asked_whole command_line request asks).0).2.0

    go : HasKind (fault_of app command_line) error → ⊥
    go (inl memory) = not_memory memory
    go (inr among) = subst (IsAmong (kind_of error)) none among

  pub refusal_read : (error : Error) → (is_simple_and_free app ≡ true → HasKind (fault_of app command_line) error) → (unread : ArgumentsError) → (unread ≡ Usage → kind_of error ≢ kinds.OutOfMemory)
      → ReadsArguments command_line (Err unread)
  refusal_read error refuses Usage is = refused_arguments error refuses (is refl)
  refusal_read error refuses Memory is = tt
