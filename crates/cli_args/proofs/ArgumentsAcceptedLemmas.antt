-- If clap accepts the arguments, then the arguments parse to some request.
use Rattle.std.proofs.Common.{◌≡◌, ◌∙◌, ◌||◌, ◌&&◌, ℕ, Bool, true, false, not, List, [], ◌∷◌, Option, Some, None, codes, refl, sym, ap, subst, arith}
use Rattle.std.specs.Prelude.{if◌then◌else◌, option_and_then}
use Rattle.std.specs.List.{list_any}
use Rattle.std.specs.Str.{bytes_eq}
use Rattle.std.specs.Str.Parse.{digits_value, without_leading_plus}
use Rattle.std.proofs.lemmas.Slice.Eq.{bytes_eq-Decides}
use Rattle.std.proofs.lemmas.Bool.{or_parts, not-false}
use Rattle.clap.specs.Walk.{Row, Rule, Text, arg_by_id, has_row, nothing_held, one_of, row_text, rows_after, settled, walk}
use Rattle.clap.specs.Takes.{is_given}
use Rattle.clap.specs.Faults.{level_fault}
use Rattle.clap.specs.ValueTests.{accepts}
use Rattle.clap.specs.Words.{fault_of}
use Rattle.clap.specs.declared.builder.value_parser.ValueParser.TheVariants.{Unsigned}
use Rattle.clap.proofs.ValueTestLemmas.{accepts-Accepts}
use Rattle.cli_spec.specs.CommandLine.{Argument, flag, option, optional, wanted, number, Asking, Form, HasArguments, HasFlag, HasNumber, MayHaveNumber, Request, AreReadAs, command_set, form_of}
use Rattle.cli_args.proofs.ArgumentsLevelLemmas.{AreRead, given_has, none_of, row_read}
use Rattle.cli_args.proofs.LevelWalkLemmas.{HaveRows, all_defaults, rows_hold}
use Rattle.cli_args.proofs.RequestLemmas.{reads_by}
use Rattle.cli_args.proofs.ArgumentsSetLemmas.{form_fits, leaf_of, named_fault, named_met, rules_of}
use Rattle.cli_args.proofs.ArgumentsTableLemmas.{AreFound, all_found, each_own, next_position, no_short, ruled, rules_from}
use Rattle.cli_args.proofs.TopLemmas.{both_none, arguments_begin}

-- If clap accepts the text of a number, then the rows have the number.
number_there : (rows : List Row) (name : Text) (greatest : ℕ) (text : Text) → one_of name rows ≡ Some text → accepts false (Unsigned 0 greatest) text ≡ true → (n : ℕ) × HasNumber rows name greatest n
number_there rows name greatest text has accepted =
    let in_range = accepts-Accepts false (Unsigned 0 greatest) text accepted in
    (digits_value 10 (without_leading_plus text), (text, has, in_range.0, refl, in_range.3))

either_word : (text : Text) → (bytes_eq text (codes "true") || bytes_eq text (codes "false")) ≡ true → (used : Bool) × (text ≡ (if used then codes "true" else codes "false"))
either_word text accepted = go (bytes_eq text (codes "true")) (bytes_eq text (codes "false")) refl refl accepted
  where
    go : (a b : Bool) → bytes_eq text (codes "true") ≡ a → bytes_eq text (codes "false") ≡ b → (a || b) ≡ true → (used : Bool) × (text ≡ (if used then codes "true" else codes "false"))
    go true b is other e = (true, (bytes_eq-Decides text (codes "true")).0 is)
    go false true other is e = (false, (bytes_eq-Decides text (codes "false")).0 is)
    go false false other last e = cc e

-- clap's rows contain each argument.
module _ (c : List Rule) (rows : List Row) (are : AreRead c rows) where
  flag_there : (i : ℕ) (name : Text) → has_row name rows ≡ true → arg_by_id c name ≡ Some (ruled i (flag name)) → (used : Bool) × HasFlag rows name used
  flag_there i name has found =
      let read = row_read c name rows are has (ruled i (flag name)) found in
      let known = either_word read.0 read.3 in
      (known.0, read.1 ∙ ap (λ t. Some t) known.1)

  optional_there : (i : ℕ) (name : Text) (greatest : ℕ) → arg_by_id c name ≡ Some (ruled i (optional name greatest)) → (n : Option ℕ) × MayHaveNumber rows name greatest n
  optional_there i name greatest found = go (has_row name rows) refl
    where
      go : (b : Bool) → has_row name rows ≡ b → (n : Option ℕ) × MayHaveNumber rows name greatest n
      go true has =
          let read = row_read c name rows are has (ruled i (optional name greatest)) found in
          let known = number_there rows name greatest read.0 read.2 read.3 in
          (Some known.0, known.1)
      go false absent = (None, ap (option_and_then row_text) (none_of name rows absent))

  pub arguments_there : (i : ℕ) (arguments : List Argument) (asks : Asking arguments) → AreFound c i arguments → HaveRows arguments rows
      → list_any (λ a. a.required && not (is_given a.id rows)) (rules_from i arguments) ≡ false → (request : Request) × HasArguments arguments asks rows request
  arguments_there i [] asked found have given = (asked, refl)
  arguments_there i (flag name ∷ rest) asks (here, more) (has, have) given =
      let known = flag_there i name has here.0 in
      let later = arguments_there (next_position i (flag name)) rest (asks known.0) more have given in
      (later.0, (known.0, known.1, later.1))
  arguments_there i (option name greatest usual ∷ rest) asks (here, more) (has, have) given =
      let read = row_read c name rows are has (ruled i (option name greatest usual)) here.0 in
      let known = number_there rows name greatest read.0 read.2 read.3 in
      let later = arguments_there (next_position i (option name greatest usual)) rest (asks known.0) more have given in
      (later.0, (known.0, known.1, later.1))
  arguments_there i (optional name greatest ∷ rest) asks (here, more) have given =
      let known = optional_there i name greatest here.0 in
      let later = arguments_there (next_position i (optional name greatest)) rest (asks known.0) more have given in
      (later.0, (known.0, known.1, later.1))
  arguments_there i (wanted name ∷ rest) asks (here, more) have given =
      let all = or_parts (not (is_given name rows)) (list_any (λ a. a.required && not (is_given a.id rows)) (rules_from (next_position i (wanted name)) rest)) given in
      let read = row_read c name rows are (given_has name rows (not-false (is_given name rows) all.0)) (ruled i (wanted name)) here.0 in
      let later = arguments_there (next_position i (wanted name)) rest (asks read.0) more have all.1 in
      (later.0, (read.0, read.1, later.1))
  arguments_there i (number name greatest ∷ rest) asks (here, more) have given =
      let all = or_parts (not (is_given name rows)) (list_any (λ a. a.required && not (is_given a.id rows)) (rules_from (next_position i (number name greatest)) rest)) given in
      let read = row_read c name rows are (given_has name rows (not-false (is_given name rows) all.0)) (ruled i (number name greatest)) here.0 in
      let known = number_there rows name greatest read.0 read.2 read.3 in
      let later = arguments_there (next_position i (number name greatest)) rest (asks known.0) more have all.1 in
      (later.0, (known.0, known.1, later.1))

-- If a command's name and arguments give no clap error, then the command has a request.
command_accepted : (form : Form) → form_of form.name ≡ Some form → (rest : List Text) → fault_of command_set (form.name ∷ rest) ≡ [] → (request : Request) × AreReadAs (form.name ∷ rest) request
command_accepted form found rest none =
    let level = (both_none (level_fault (leaf_of form) [] nothing_held rest false []) [] (sym (named_fault form found rest) ∙ none)).0 in
    let fits = form_fits form.name form found in
    let are = all_found 1 form.arguments fits.0 (omega (arith, fits.1)) in
    let hold = rows_hold form.name (rules_of form) (each_own (rules_of form) 1 form.arguments are) (no_short 1 form.arguments) rest level in
    let last = all_defaults (rules_of form) 1 form.arguments are fits.0 (settled (rules_of form) (walk (rules_of form) [] nothing_held rest).held).rows hold.0 in
    let there = arguments_there (rules_of form) (rows_after (rules_of form) [] rest) last.0 1 form.arguments form.asks are last.1 hold.1 in
    (there.0, reads_by (form.name ∷ rest) there.0 form.name (rows_after (rules_of form) [] rest) (none, named_met form found rest) (form, found, there.1))

pub accepted_arguments_are_read : (command_line : List Text) → fault_of command_set command_line ≡ [] → (request : Request) × AreReadAs command_line request
accepted_arguments_are_read command_line none =
    let begin = arguments_begin command_line none in
    let read = command_accepted begin.0 begin.3 begin.1 (subst (λ w. fault_of command_set w ≡ []) begin.2 none) in
    (read.0, subst (λ w. AreReadAs w read.0) (sym begin.2) read.1)
