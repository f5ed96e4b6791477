-- The command set as clap builds the set, and how clap treats a command's name.
use Rattle.std.proofs.Common.{◌≡◌, ◌∙◌, ◌<◌, ◌&&◌, Bool, true, false, List, [], ◌∷◌, ◌++◌, map, length, Option, Some, None, append-nil, append_assoc, codes, is_some, refl, sym, ap, subst}
use Rattle.std.specs.Prelude.{fold, nat_lt, option_map}
use Rattle.std.specs.List.{find, list_all}
use Rattle.std.specs.Option.{option_map_or}
use Rattle.std.specs.Str.{bytes_eq}
use Rattle.std.proofs.lemmas.Bool.{ltb-true}
use Rattle.std.proofs.lemmas.Slice.Eq.{bytes_eq-Decides}
use Rattle.clap.specs.Walk.{Names, Rule, Text, Walk, after_step, answers_to, finished, idle, nothing_held, rows_after, settled, stop_after, subcommand_met, subcommand_or_other, walk, walk_from, walked}
use Rattle.clap.specs.Simple.{App, Shape, built, entered, label_of, names_of, new_shape, rows_at}
use Rattle.clap.specs.Faults.{built_fault, check_fault, defaults_fault, entered_fault, level_fault, other_fault, settle_fault, step_fault, turn_fault, walk_fault}
use Rattle.clap.specs.Kinds.{Kinds, or_else}
use Rattle.clap.specs.Words.{fault_of, subcommand_of}
use Rattle.clap.proofs.FaultLemmas.{stopped_fault}
use Rattle.cli_spec.specs.CommandLine.{Form, command_set, form_of, forms}
use Rattle.cli_args.proofs.ArgumentsTableLemmas.{are_lawful, both, rules_from}
use Rattle.base_data.proofs.model.Lists.{found_passes}

-- ---- clap's internal form

-- A command with the arguments `rules`.
abbrev pub leaf : Text → List Rule → Shape
leaf name rules = record (new_shape name) {
  rules = rules;
  no_binary_name = true;
  disable_help_flag = true;
  disable_help_subcommand = true;
  is_built = true;
}

abbrev pub rules_of : Form → List Rule
rules_of form = rules_from 1 form.arguments

abbrev pub leaf_of : Form → Shape
leaf_of form = leaf form.name (rules_of form)

abbrev pub top : Shape
top = record (new_shape (codes "omarshal")) {
  is_leaf = false;
  no_binary_name = true;
  subcommand_required = true;
  disable_help_flag = true;
  disable_help_subcommand = true;
  is_built = true;
}

abbrev pub commands : App
commands = record { top = top; subs = map leaf_of forms }

abbrev pub command_names : Names
command_names = names_of commands

commands_are_built : built command_set ≡ commands
commands_are_built = refl

pub fault_is : (command_line : List Text) → fault_of command_set command_line ≡ built_fault commands nothing_held command_line
fault_is command_line = ap (λ a. built_fault a nothing_held command_line) commands_are_built

pub met_is : (command_line : List Text) → subcommand_of command_set command_line ≡ entered commands (stop_after [] command_names command_line)
met_is command_line = ap (λ (a : App). entered a (stop_after a.top.rules (names_of a) command_line)) commands_are_built

-- ---- lookup of a command by name

found_all : {X : Type 0} (test all : X → Bool) (xs : List X) (x : X) → list_all all xs ≡ true → find test xs ≡ Some x → all x ≡ true
found_all test all [] x each found = cc found
found_all test all (y ∷ ys) x each found = go (test y) refl (found_all test all ys x (both (all y) (list_all all ys) each).1)
  where
    go : (b : Bool) → test y ≡ b → (find test ys ≡ Some x → all x ≡ true) → all x ≡ true
    go true e later = let is : Some y ≡ Some x = (rw e at found) in let same : y ≡ x = cc is in subst (λ z. all z ≡ true) same (both (all y) (list_all all ys) each).0
    go false e later = later (rw e at found)

-- If the lookup succeeds, then the name is the command's name.
pub found_name : (word : Text) (form : Form) → form_of word ≡ Some form → word ≡ form.name
found_name word form found = sym ((bytes_eq-Decides form.name word).0 (found_passes (λ (f : Form). bytes_eq f.name word) forms form found))

abbrev is_fit : Form → Bool
is_fit form = are_lawful form.arguments && nat_lt (length form.arguments) 900

all_fit : list_all is_fit forms ≡ true
all_fit = refl

pub form_fits : (word : Text) (form : Form) → form_of word ≡ Some form → (are_lawful form.arguments ≡ true) × (length form.arguments < 900)
form_fits word form found =
    let fits = both (are_lawful form.arguments) (nat_lt (length form.arguments) 900) (found_all (λ (f : Form). bytes_eq f.name word) is_fit forms form all_fit found) in
    (fits.0, ltb-true (length form.arguments) 900 fits.1)

names_found : (word : Text) (fs : List Form) → find (answers_to word) (map label_of (map leaf_of fs)) ≡ option_map (λ (f : Form). (f.name, [])) (find (λ (f : Form). bytes_eq f.name word) fs)
names_found word [] = refl
names_found word (f ∷ fs) = go (bytes_eq f.name word) refl (names_found word fs)
  where
    go : (b : Bool) → bytes_eq f.name word ≡ b → find (answers_to word) (map label_of (map leaf_of fs)) ≡ option_map (λ (f : Form). (f.name, [])) (find (λ (f : Form). bytes_eq f.name word) fs)
        → find (answers_to word) (map label_of (map leaf_of (f ∷ fs))) ≡ option_map (λ (f : Form). (f.name, [])) (find (λ (f : Form). bytes_eq f.name word) (f ∷ fs))
    go true e later = rw e refl
    go false e later = rw e later

leaves_found : (word : Text) (fs : List Form) → find (λ s. answers_to word (label_of s)) (map leaf_of fs) ≡ option_map leaf_of (find (λ (f : Form). bytes_eq f.name word) fs)
leaves_found word [] = refl
leaves_found word (f ∷ fs) = go (bytes_eq f.name word) refl (leaves_found word fs)
  where
    go : (b : Bool) → bytes_eq f.name word ≡ b → find (λ s. answers_to word (label_of s)) (map leaf_of fs) ≡ option_map leaf_of (find (λ (f : Form). bytes_eq f.name word) fs)
        → find (λ s. answers_to word (label_of s)) (map leaf_of (f ∷ fs)) ≡ option_map leaf_of (find (λ (f : Form). bytes_eq f.name word) (f ∷ fs))
    go true e later = rw e refl
    go false e later = rw e later

-- The command that clap recognizes at a first argument.
pub met_by : (word : Text) → subcommand_met command_names idle word ≡ option_map (λ (f : Form). f.name) (form_of word)
met_by word = ap (option_map (λ (s : Text × List Text). s.0)) (names_found word forms) ∙ go (form_of word)
  where
    go : (o : Option Form) → option_map (λ (s : Text × List Text). s.0) (option_map (λ (f : Form). (f.name, [])) o) ≡ option_map (λ (f : Form). f.name) o
    go None = refl
    go (Some f) = refl

no_help : (word : Text) (form : Form) → form_of word ≡ Some form → bytes_eq word (codes "help") ≡ false
no_help word form found = go (bytes_eq word (codes "help")) refl
  where
    go : (b : Bool) → bytes_eq word (codes "help") ≡ b → bytes_eq word (codes "help") ≡ false
    go true e =
        let is : word ≡ codes "help" = (bytes_eq-Decides word (codes "help")).0 e in
        let none : form_of (codes "help") ≡ None = refl in
        let bad : None ≡ Some form = sym none ∙ subst (λ w. form_of w ≡ Some form) is found in
        cc bad
    go false e = e

-- ---- a command's name

-- The state in which processing stops at a command's name, with the arguments after the name.
abbrev stopped_at : Walk → Text → List Text → Walk
stopped_at w name rest = record w { stopped = Some (name, rest) }

stopped_walk : (c : List Rule) (names : Names) (w : Walk) (name : Text) (before rest : List Text) → fold (walked c names) (stopped_at w name before) rest ≡ stopped_at w name (before ++ rest)
unfolding walked
stopped_walk c names w name before [] = ap (stopped_at w name) (sym (append-nil before))
stopped_walk c names w name before (word ∷ rest) =
    stopped_walk c names w name (before ++ word ∷ []) rest ∙ ap (stopped_at w name) (append_assoc before (word ∷ []) rest)

-- clap recognizes the name of the command and finds the command.
abbrev IsNamed : Form → Type 0
IsNamed form =
    (subcommand_met command_names idle form.name ≡ Some form.name) × (find (λ s. answers_to form.name (label_of s)) commands.subs ≡ Some (leaf_of form)) × (bytes_eq form.name (codes "help") ≡ false)

-- The error of the whole parse, by the state in which processing ends.
abbrev fault_after : Walk → Kinds
fault_after w =
    or_else (entered_fault commands w.stopped)
    (or_else (settle_fault [] false w.held) (or_else (defaults_fault (settled [] w.held).rows []) (check_fault top (finished [] w.held) (is_some (entered commands w.stopped)))))

abbrev fault_within : List Text → Option Shape → Kinds
fault_within rest found =
    or_else (option_map_or (λ s. level_fault s [] nothing_held rest false []) found [])
    (check_fault top [] (is_some (option_map (λ s. rows_at s rest) found)))

module _ (form : Form) (found : form_of form.name ≡ Some form) where
  abbrev name : Text
  name = form.name

  named : IsNamed form
  named = (
    met_by form.name ∙ ap (option_map (λ (f : Form). f.name)) found,
    leaves_found form.name forms ∙ ap (option_map leaf_of) found,
    no_help form.name form found,
  )

  name_walked : walked [] command_names (walk_from nothing_held) name ≡ stopped_at (walk_from nothing_held) name []
  unfolding walked
  name_walked = ap (λ o. after_step [] name (walk_from nothing_held) (subcommand_or_other [] o idle 1 name nothing_held).0 (subcommand_or_other [] o idle 1 name nothing_held).1) named.0

  name_turn : turn_fault top command_names (walk_from nothing_held) name ≡ []
  name_turn =
      ap (λ o. or_else (other_fault top o name nothing_held) (step_fault top 1 (subcommand_or_other [] o idle 1 name nothing_held).0 (subcommand_or_other [] o idle 1 name nothing_held).1)) named.0
      ∙ (rw named.2 refl)

  module _ (rest : List Text) where
    name_walk : walk [] command_names nothing_held (name ∷ rest) ≡ stopped_at (walk_from nothing_held) name rest
    name_walk = ap (λ w. fold (walked [] command_names) w rest) name_walked ∙ stopped_walk [] command_names (walk_from nothing_held) name [] rest

    name_passes : walk_fault top command_names (walk_from nothing_held) (name ∷ rest) ≡ []
    unfolding walk_fault
    name_passes =
        ap (λ k. or_else k (walk_fault top command_names (walked [] command_names (walk_from nothing_held) name) rest)) name_turn
        ∙ (ap (λ w. walk_fault top command_names w rest) name_walked ∙ stopped_fault top command_names (walk_from nothing_held) (name, []) rest)

    within : fault_after (stopped_at (walk_from nothing_held) name rest) ≡ or_else (level_fault (leaf_of form) [] nothing_held rest false []) []
    unfolding defaults_fault
    within = ap (fault_within rest) named.1

    -- If arguments begin with a command's name, then the error is the command's own error.
    pub named_fault : fault_of command_set (name ∷ rest) ≡ or_else (level_fault (leaf_of form) [] nothing_held rest false []) []
    named_fault =
        fault_is (name ∷ rest)
        ∙ (ap (λ k. or_else k (fault_after (walk [] command_names nothing_held (name ∷ rest)))) name_passes ∙ (ap fault_after name_walk ∙ within))

    -- If arguments begin with a command's name, then the command gets the remaining arguments.
    pub named_met : subcommand_of command_set (name ∷ rest) ≡ Some (name, rows_after (rules_of form) [] rest)
    named_met = met_is (name ∷ rest) ∙ (ap (λ (w : Walk). entered commands w.stopped) name_walk ∙ ap (option_map (λ s. rows_at s rest)) named.1)
