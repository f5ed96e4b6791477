-- If clap reports no error, then the arguments begin with a command's name.
use Rattle.std.proofs.Common.{◌≡◌, ◌∙◌, ◌⊎◌, inl, inr, ℕ, Bool, true, false, List, [], ◌∷◌, Option, Some, None, codes, length, refl, sym, ap, subst, true≢false}
use Rattle.std.specs.Prelude.{if◌then◌else◌, option_map, slice_get}
use Rattle.std.specs.Option.{option_map_or}
use Rattle.std.specs.Str.{bytes_eq, chars}
use Rattle.std.proofs.lemmas.Slice.Eq.{bytes_eq-Decides}
use Rattle.clap.specs.Lexer.{long_of, short_of}
use Rattle.clap.specs.Walk.{Held, Step, Text, after_flag, bundle, bundle_met, bundle_step, idle, long_or_other, nothing_held, plain, short_or_plain, subcommand_met, subcommand_or_other, trailing, walk_from, walked}
use Rattle.clap.specs.Faults.{built_fault, bundle_fault, bundle_step_fault, flag_word_fault, flags_fault, other_fault, step_fault, turn_fault, walk_fault}
use Rattle.clap.specs.Kinds.{Kinds, or_else}
use Rattle.clap.specs.Words.{fault_of}
use Rattle.clap.specs.declared.error.kind.ErrorKind.TheVariants as kind
use Rattle.clap.proofs.OnLiterals.{clap_on_literals}
use Rattle.cli_spec.specs.CommandLine.{Form, command_set, form_of}
use Rattle.cli_args.proofs.ArgumentsSetLemmas.{command_names, commands, fault_is, found_name, met_by, top}
use Rattle.cli_args.proofs.ArgumentsTableLemmas.{is_text}

-- If two steps together give no error, then neither step gives an error.
pub both_none : (a b : Kinds) → or_else a b ≡ [] → (a ≡ []) × (b ≡ [])
both_none [] b none = (refl, none)
both_none (k ∷ ks) b none = cc none

-- ---- a first argument

-- The argument is a command's name, or clap recognizes no command.
command_or_none : (word : Text) → ((form : Form) × (form_of word ≡ Some form)) ⊎ (subcommand_met command_names idle word ≡ None)
command_or_none word = go (form_of word) refl
  where
    go : (o : Option Form) → form_of word ≡ o → ((form : Form) × (form_of word ≡ Some form)) ⊎ (subcommand_met command_names idle word ≡ None)
    go None e = inr (met_by word ∙ ap (option_map (λ (f : Form). f.name)) e)
    go (Some form) e = inl (form, e)

-- ---- an argument that names no command

-- The error of an argument, followed by the error of the next step.
abbrev fault_then : Kinds → Held × Step → Kinds
fault_then fault met = or_else fault (step_fault top 1 met.0 met.1)

-- A bundle of flags is refused, because no flag is known.
bundle_refused : (word flags : Text) → fault_then (bundle_fault [] false flags nothing_held) (after_flag [] idle word (bundle [] flags nothing_held).0 (bundle [] flags nothing_held).1) ≡ [] → ⊥
unfolding flags_fault bundle_met
bundle_refused word [] none = let bad : kind.UnknownArgument ∷ kind.InvalidSubcommand ∷ [] ≡ [] = none in cc bad
bundle_refused word (x ∷ xs) none = go (slice_get (chars (x ∷ xs)) 0) none
  where
    go : (o : Option ℕ)
        → fault_then (bundle_step_fault [] false o (x ∷ xs) 0 nothing_held (flags_fault [] false (length xs)))
        (after_flag [] idle word (bundle_step [] o (x ∷ xs) 0 plain nothing_held (bundle_met [] (length xs))).0 (bundle_step [] o (x ∷ xs) 0 plain nothing_held (bundle_met [] (length xs))).1) ≡ [] → ⊥
    go None none = let bad : kind.UnknownArgument ∷ kind.InvalidSubcommand ∷ [] ≡ [] = none in cc bad
    go (Some c) none = let bad : kind.UnknownArgument ∷ [] ≡ [] = none in cc bad

short_refused : (word : Text) (flags : Option Text)
    → fault_then (option_map_or (λ f. bundle_fault [] false f nothing_held) flags []) (short_or_plain [] idle word flags nothing_held) ≡ [] → ⊥
short_refused word None none = let bad : kind.UnknownArgument ∷ kind.InvalidSubcommand ∷ [] ≡ [] = none in cc bad
short_refused word (Some flags) none = bundle_refused word flags none

flag_refused : (word : Text) (long : Option (Text × Option Text)) → fault_then (flag_word_fault [] false long word nothing_held) (long_or_other [] idle word long nothing_held) ≡ [] → ⊥
flag_refused word (Some p) none = let bad : kind.UnknownArgument ∷ [] ≡ [] = none in cc bad
flag_refused word None none = short_refused word (short_of word) none

word_refused : (word : Text) → subcommand_met command_names idle word ≡ None → bytes_eq word (codes "--") ≡ false → turn_fault top command_names (walk_from nothing_held) word ≡ [] → ⊥
word_refused word unnamed no_dashes none =
    let at_none : fault_then (other_fault top None word nothing_held) (subcommand_or_other [] None idle 1 word nothing_held) ≡ [] =
    sym (ap (λ o. fault_then (other_fault top o word nothing_held) (subcommand_or_other [] o idle 1 word nothing_held)) unnamed) ∙ none in
    let at_flag : fault_then (flag_word_fault [] false (long_of word) word nothing_held) (long_or_other [] idle word (long_of word) nothing_held) ≡ [] =
    sym (ap (λ b. fault_then (if b then [] else flag_word_fault [] false (long_of word) word nothing_held)
    (if b then (nothing_held, trailing 1) else long_or_other [] idle word (long_of word) nothing_held)) no_dashes) ∙ at_none in
    flag_refused word (long_of word) at_flag

-- After `--`, no argument is accepted. If no argument follows `--`, a command is missing.
dashes_refused : (rest : List Text) → built_fault commands nothing_held (codes "--" ∷ rest) ≡ [] → ⊥
unfolding clap_on_literals
dashes_refused [] none = let bad : kind.MissingSubcommand ∷ [] ≡ [] = none in cc bad
dashes_refused (x ∷ xs) none = let bad : kind.UnknownArgument ∷ kind.InvalidSubcommand ∷ [] ≡ [] = none in cc bad

no_arguments_refused : built_fault commands nothing_held [] ≡ [] → ⊥
unfolding clap_on_literals
no_arguments_refused none = let bad : kind.MissingSubcommand ∷ [] ≡ [] = none in cc bad

first_passes : (word : Text) (rest : List Text) → walk_fault top command_names (walk_from nothing_held) (word ∷ rest) ≡ [] → turn_fault top command_names (walk_from nothing_held) word ≡ []
unfolding walk_fault
first_passes word rest none =
    (both_none (turn_fault top command_names (walk_from nothing_held) word) (walk_fault top command_names (walked [] command_names (walk_from nothing_held) word) rest) none).0

unnamed_refused : (word : Text) (rest : List Text) → subcommand_met command_names idle word ≡ None → built_fault commands nothing_held (word ∷ rest) ≡ [] → ⊥
unnamed_refused word rest unnamed none = go (is_text (codes "--") word)
  where
    go : (word ≡ codes "--") ⊎ (bytes_eq (codes "--") word ≡ false) → ⊥
    go (inl is) = dashes_refused rest (subst (λ w. built_fault commands nothing_held (w ∷ rest) ≡ []) is none)
    go (inr other) = word_refused word unnamed (flipped (bytes_eq word (codes "--")) refl) (first_passes word rest (both_none (walk_fault top command_names (walk_from nothing_held) (word ∷ rest)) _ none).0)
      where
        flipped : (b : Bool) → bytes_eq word (codes "--") ≡ b → bytes_eq word (codes "--") ≡ false
        flipped true e =
            let same : word ≡ codes "--" = (bytes_eq-Decides word (codes "--")).0 e in
            absurd (true≢false (subst (λ w. bytes_eq (codes "--") w ≡ false) same other))
        flipped false e = e

-- If clap reports no error, then the arguments begin with a command's name.
pub arguments_begin : (command_line : List Text) → fault_of command_set command_line ≡ [] → (form : Form) × (rest : List Text) × (command_line ≡ form.name ∷ rest) × (form_of form.name ≡ Some form)
arguments_begin command_line none = go command_line (sym (fault_is command_line) ∙ none)
  where
    go : (command_line : List Text) → built_fault commands nothing_held command_line ≡ [] → (form : Form) × (rest : List Text) × (command_line ≡ form.name ∷ rest) × (form_of form.name ≡ Some form)
    go [] none = absurd (no_arguments_refused none)
    go (word ∷ rest) none = at (command_or_none word)
      where
        at : ((form : Form) × (form_of word ≡ Some form)) ⊎ (subcommand_met command_names idle word ≡ None) → (form : Form) × (rest' : List Text) × (word ∷ rest ≡ form.name ∷ rest') × (form_of form.name ≡ Some form)
        at (inl (form, found)) = let is = found_name word form found in (form, rest, ap (λ w. w ∷ rest) is, subst (λ w. form_of w ≡ Some form) is found)
        at (inr unnamed) = absurd (unnamed_refused word rest unnamed none)
