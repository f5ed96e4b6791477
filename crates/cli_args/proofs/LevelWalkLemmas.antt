-- The rows of a command after clap has processed the command's arguments without an error.
use Rattle.std.proofs.Common.{◌≡◌, ◌⊎◌, inl, inr, ◌&&◌, ◌==◌, ℕ, zero, suc, Bool, true, false, not, List, [], ◌∷◌, Option, Some, None, codes, drop, length, is_some, refl, sym, ap, subst}
use Rattle.std.specs.Prelude.{if◌then◌else◌, encode_utf8, fold, slice_get}
use Rattle.std.specs.List.{find, list_any}
use Rattle.std.specs.Option.{option_map_or}
use Rattle.std.specs.Str.{bytes_eq, chars}
use Rattle.clap.specs.Lexer.{long_of, short_of}
use Rattle.clap.specs.Walk.{Held, Outcome, Row, Rule, Step, Text, Waiting, Walk, after_flag, after_step, arg_by_id, arg_by_index, arg_by_long, arg_by_short, bundle, bundle_met, bundle_step, done, finished, flag_met, has_long, has_row, idle, is_pending, long_met, long_or_other, next, nothing_held, option as waits_for, option_met, option_word, plain, plain_word, positional, refused, rows_after, settled, settled_rows, short_met, short_or_plain, subcommand, subcommand_met, subcommand_or_other, takes_several, takes_values, to_positional, trailing, used_by_id, value, waits, walk, walk_from, walked, with_default, word_met}
use Rattle.clap.specs.Takes.{is_given}
use Rattle.clap.specs.Faults.{check_fault, defaults_fault, flag_word_fault, level_fault, long_fault, option_fault, other_fault, positional_fault, react_fault, settle_fault, step_fault, stray_fault, turn_fault, use_fault, walk_fault, word_fault}
use Rattle.clap.specs.Kinds.{or_else}
use Rattle.clap.specs.declared.builder.range.ValueRange.{ValueRange}
use Rattle.clap.specs.declared.error.kind.ErrorKind.TheVariants as kind
use Rattle.cli_spec.specs.CommandLine.{Argument, flag, option, optional, wanted, number}
use Rattle.cli_args.proofs.ArgumentsLevelLemmas.{AreRead, default_has, default_keeps, default_read, no_kinds, use_read}
use Rattle.cli_args.proofs.ArgumentsSetLemmas.{leaf}
use Rattle.cli_args.proofs.ArgumentsTableLemmas.{AreFound, IsFound, IsOwn, TakesOne, IsFlag, both, is_lawful, are_lawful, is_named, name_of, next_position, ruled, rules_from, usual_accepted}
use Rattle.cli_args.proofs.TopLemmas.{both_none}

-- The argument is no subcommand.
abbrev GoesOn : Step → Type 0
GoesOn (next wait) = Unit {0}
GoesOn (trailing n) = Unit {0}
GoesOn (subcommand name) = ⊥
GoesOn value = Unit {0}

-- After an argument, the rows keep their invariant, and processing continues.
abbrev IsFine : List Rule → Held × Step → Type 0
IsFine c met = AreRead c met.0.rows × GoesOn met.1

abbrev at_walk : Held → Waiting → ℕ → Bool → Walk
at_walk h wait n trails = record { held = h; waiting = wait; position = n; is_trailing = trails; stopped = None }

abbrev Stands : List Rule → Walk → Type 0
Stands c w = (w.stopped ≡ None) × AreRead c w.held.rows

no_subcommand : (wait : Waiting) (word : Text) → subcommand_met [] wait word ≡ None
no_subcommand idle word = refl
no_subcommand (waits_for id) word = refl
no_subcommand positional word = refl

takes : (a : Rule) → TakesOne a → takes_values a ≡ true
takes a is = ap (λ (r : ValueRange). not (r.end_inclusive == 0)) is.1

-- A command whose arguments clap finds by their ids.
module _ (name : Text) (own : List Rule) (each : (test : Rule → Bool) (a : Rule) → find test own ≡ Some a → IsOwn own a) (no_short : (x : ℕ) → arg_by_short own x ≡ None) where
  -- ---- the pending argument

  module _ (h : Held) (are : AreRead own h.rows) where
    found_read : (p : Text × List Text) (o : Option Rule) → arg_by_id own p.0 ≡ o → option_map_or (λ a. use_fault false a p.1 h.rows) o [] ≡ [] → AreRead own (used_by_id o p.1 h.rows)
    found_read p None e none = are
    found_read p (Some a) e none = use_read own a (each (λ (r : Rule). bytes_eq r.id p.0) a e) h.rows are p.1 none

    pending_read : (o : Option (Text × List Text)) → option_map_or (λ p. option_map_or (λ a. use_fault false a p.1 h.rows) (arg_by_id own p.0) []) o [] ≡ [] → AreRead own (settled_rows own o h.rows)
    pending_read None none = are
    pending_read (Some p) none = found_read p (arg_by_id own p.0) refl none

    settle_read : settle_fault own false h ≡ [] → AreRead own (settled own h).rows
    settle_read none = pending_read h.pending none

  -- ---- an argument before it is assigned to a positional

  plain_fine : (wait : Waiting) (word : Text) (h : Held) → AreRead own h.rows → IsFine own (plain_word own wait word h)
  plain_fine idle word h are = (are, tt)
  plain_fine positional word h are = (are, tt)
  plain_fine (waits_for id) word h are = go (arg_by_id own id)
    where
      go : (o : Option Rule) → IsFine own ((option_word o id word h).0, next (option_word o id word h).1)
      go None = (are, tt)
      go (Some a) = (are, tt)

  after_fine : (wait : Waiting) (word : Text) (h : Held) (o : Outcome) → AreRead own h.rows → IsFine own (after_flag own wait word h o)
  after_fine wait word h done are = (are, tt)
  after_fine wait word h (waits id) are = (are, tt)
  after_fine wait word h plain are = plain_fine wait word h are
  after_fine wait word h refused are = plain_fine wait word h are

  step_rows : (more : Text → ℕ → Outcome → Held → Held × Outcome) → ((flags : Text) (skip : ℕ) (so_far : Outcome) (h : Held) → (more flags skip so_far h).0.rows ≡ h.rows)
      → (o : Option ℕ) (flags : Text) (skip : ℕ) (so_far : Outcome) (h : Held) → (bundle_step own o flags skip so_far h more).0.rows ≡ h.rows
  step_rows more keeps None flags skip so_far h = refl
  step_rows more keeps (Some x) flags zero so_far h =
      let rest = drop (length (encode_utf8 x)) flags in
      ap (λ (o : Option Rule). (short_met own o rest h (more rest 0 done)).0.rows) (no_short x)
  step_rows more keeps (Some x) flags (suc skip) so_far h = keeps (drop (length (encode_utf8 x)) flags) skip so_far h

  bundle_rows : (k : ℕ) (flags : Text) (skip : ℕ) (so_far : Outcome) (h : Held) → (bundle_met own k flags skip so_far h).0.rows ≡ h.rows
  unfolding bundle_met
  bundle_rows zero flags skip so_far h = refl
  bundle_rows (suc k) flags skip so_far h = step_rows (bundle_met own k) (bundle_rows k) (slice_get (chars flags) 0) flags skip so_far h

  value_fine : (wait : Waiting) (word : Text) (a : Rule) → IsOwn own a → (v : Option Text) (h : Held) → AreRead own h.rows → option_fault own false a v h ≡ []
      → IsFine own (after_flag own wait word (option_met own a v h).0 (option_met own a v h).1)
  value_fine wait word a is None h are none = (settle_read h are none, tt)
  value_fine wait word a is (Some v) h are none =
      let parts = both_none (settle_fault own false h) (use_fault false a (v ∷ []) (settled own h).rows) none in
      (use_read own a is (settled own h).rows (settle_read h are parts.0) (v ∷ []) parts.1, tt)

  used_fine : (wait : Waiting) (word : Text) (name : Text) → IsOwn own (ruled 1 (flag name)) → (v : Option Text) (h : Held) → AreRead own h.rows → long_fault own false (Some (ruled 1 (flag name))) v h ≡ []
      → IsFine own (after_flag own wait word (long_met own (Some (ruled 1 (flag name))) v h).0 (long_met own (Some (ruled 1 (flag name))) v h).1)
  used_fine wait word name is (Some x) h are none = let bad : kind.TooManyValues ∷ [] ≡ [] = none in cc bad
  used_fine wait word name is None h are none =
      let parts = both_none (settle_fault own false h) (use_fault false (ruled 1 (flag name)) [] (settled own h).rows) none in
      (use_read own (ruled 1 (flag name)) is (settled own h).rows (settle_read h are parts.0) [] parts.1, tt)

  taken_fine : (wait : Waiting) (word : Text) (a : Rule) → IsOwn own a → TakesOne a → (v : Option Text) (h : Held) → AreRead own h.rows → long_fault own false (Some a) v h ≡ []
      → IsFine own (after_flag own wait word (long_met own (Some a) v h).0 (long_met own (Some a) v h).1)
  taken_fine wait word a is one v h are none =
      let at_value : option_fault own false a v h ≡ [] =
      subst (λ b. (if b then option_fault own false a v h else (if is_some v then kind.TooManyValues ∷ [] else react_fault own false a [] h)) ≡ []) (takes a one) none in
      subst (λ b. IsFine own (after_flag own wait word (if b then option_met own a v h else flag_met own a v h).0 (if b then option_met own a v h else flag_met own a v h).1)) (sym (takes a one))
      (value_fine wait word a is v h are at_value)

  long_fine : (wait : Waiting) (word : Text) (o : Option Rule) → ((a : Rule) → o ≡ Some a → IsOwn own a) → (v : Option Text) (h : Held) → AreRead own h.rows → long_fault own false o v h ≡ []
      → IsFine own (after_flag own wait word (long_met own o v h).0 (long_met own o v h).1)
  long_fine wait word None each v h are none = cc none
  long_fine wait word (Some a) each v h are none = at (each a refl).1 where
    at : TakesOne a ⊎ IsFlag a → IsFine own (after_flag own wait word (long_met own (Some a) v h).0 (long_met own (Some a) v h).1)
    at (inl one) = taken_fine wait word a (each a refl) one v h are none
    at (inr is) =
        subst (λ r. IsFine own (after_flag own wait word (long_met own (Some r) v h).0 (long_met own (Some r) v h).1)) (sym is.1)
        (used_fine wait word is.0 (subst (IsOwn own) is.1 (each a refl)) v h are (subst (λ r. long_fault own false (Some r) v h ≡ []) is.1 none))

  module _ (wait : Waiting) (n : ℕ) (word : Text) (h : Held) (are : AreRead own h.rows) where
    short_fine : (flags : Option Text) → IsFine own (short_or_plain own wait word flags h)
    short_fine None = plain_fine wait word h are
    short_fine (Some flags) =
        after_fine wait word (bundle own flags h).0 (bundle own flags h).1 (subst (AreRead own) (sym (bundle_rows (length flags) flags h.skip plain (record h { skip = 0 }))) are)

    flag_fine : (long : Option (Text × Option Text)) → flag_word_fault own false long word h ≡ [] → IsFine own (long_or_other own wait word long h)
    flag_fine None none = short_fine (short_of word)
    flag_fine (Some p) none = long_fine wait word (arg_by_long own p.0) (each (λ (r : Rule). not (is_some r.index) && has_long r p.0)) p.1 h are none

    dashes_fine : (b : Bool) → (if b then [] else flag_word_fault own false (long_of word) word h) ≡ [] → IsFine own (if b then (h, trailing n) else long_or_other own wait word (long_of word) h)
    dashes_fine true none = (are, tt)
    dashes_fine false none = flag_fine (long_of word) none

    word_fine : (trails : Bool) → word_fault (leaf name own) [] trails wait word h ≡ [] → IsFine own (word_met own [] trails wait n word h)
    word_fine true none = (are, tt)
    word_fine false none =
        subst (λ o. IsFine own (subcommand_or_other own o wait n word h)) (sym (no_subcommand wait word))
        (dashes_fine (bytes_eq word (codes "--")) (subst (λ o. other_fault (leaf name own) o word h ≡ []) (no_subcommand wait word) none))

  -- ---- one more argument

  module _ (h : Held) (wait : Waiting) (n : ℕ) (trails : Bool) (word : Text) where
    kept_read : (now : Held) → AreRead own now.rows → (b : Bool) → (if b then [] else settle_fault own false now) ≡ [] → AreRead own (if b then now else settled own now).rows
    kept_read now are true none = are
    kept_read now are false none = settle_read now are none

    position_stands : (now : Held) → AreRead own now.rows → (o : Option Rule) → option_map_or (λ a. positional_fault own false a now) o (stray_fault (leaf name own)) ≡ []
        → Stands own (to_positional own o word (at_walk h wait n trails) now)
    position_stands now are None none = (refl, are)
    position_stands now are (Some a) none = (refl, kept_read now are (is_pending a now.pending && takes_several a) none)

    step_stands : (now : Held) (step : Step) → IsFine own (now, step) → step_fault (leaf name own) n now step ≡ [] → Stands own (after_step own word (at_walk h wait n trails) now step)
    step_stands now (next more) fine none = (refl, fine.0)
    step_stands now (trailing m) fine none = (refl, fine.0)
    step_stands now (subcommand met) fine none = absurd fine.1
    step_stands now value fine none = position_stands now fine.0 (arg_by_index own n) none

    turn_stands : AreRead own h.rows → turn_fault (leaf name own) [] (at_walk h wait n trails) word ≡ [] → Stands own (walked own [] (at_walk h wait n trails) word)
    unfolding walked
    turn_stands are none =
        let met = word_met own [] trails wait n word h in
        let parts = both_none (word_fault (leaf name own) [] trails wait word h) (step_fault (leaf name own) n met.0 met.1) none in
        step_stands met.0 met.1 (word_fine wait n word h are trails parts.0) parts.1

  turn_at : (w : Walk) → Stands own w → (word : Text) → turn_fault (leaf name own) [] w word ≡ [] → Stands own (walked own [] w word)
  turn_at w stands word =
      subst (λ o. turn_fault (leaf name own) [] (record w { stopped = o }) word ≡ [] → Stands own (walked own [] (record w { stopped = o }) word)) (sym stands.0)
      (turn_stands w.held w.waiting w.position w.is_trailing word stands.1)

  walk_stands : (command_line : List Text) (w : Walk) → Stands own w → walk_fault (leaf name own) [] w command_line ≡ [] → Stands own (fold (walked own []) w command_line)
  unfolding walk_fault
  walk_stands [] w stands none = stands
  walk_stands (word ∷ rest) w stands none =
      let parts = both_none (turn_fault (leaf name own) [] w word) (walk_fault (leaf name own) [] (walked own [] w word) rest) none in
      walk_stands rest (walked own [] w word) (turn_at w stands word parts.0) parts.1

  -- ---- after all arguments

  -- If there is no error, then the rows keep their invariant, and all required arguments are
  -- present.
  pub rows_hold : (rest : List Text) → level_fault (leaf name own) [] nothing_held rest false [] ≡ []
      → AreRead own (settled own (walk own [] nothing_held rest).held).rows × (list_any (λ a. a.required && not (is_given a.id (rows_after own [] rest))) own ≡ false)
  rows_hold rest none =
      let last : Held = (walk own [] nothing_held rest).held in
      let walks = both_none (walk_fault (leaf name own) [] (walk_from nothing_held) rest)
      (or_else (settle_fault own false last) (or_else (defaults_fault (settled own last).rows own) (check_fault (leaf name own) (finished own last) false))) none in
      let settles = both_none (settle_fault own false last) (or_else (defaults_fault (settled own last).rows own) (check_fault (leaf name own) (finished own last) false)) walks.1 in
      let checks = both_none (defaults_fault (settled own last).rows own) (check_fault (leaf name own) (finished own last) false) settles.1 in
      let stands = walk_stands rest (walk_from nothing_held) (refl, tt) walks.0 in
      (settle_read last stands.1 settles.0, no_kinds (list_any (λ a. a.required && not (is_given a.id (finished own last))) own) kind.MissingRequiredArgument checks.1)

-- ---- the defaults of arguments that are not used

-- Each argument with a default has a row.
abbrev pub HaveRows : List Argument → List Row → Type 0
HaveRows [] rows = Unit {0}
HaveRows (flag name ∷ rest) rows = (has_row name rows ≡ true) × HaveRows rest rows
HaveRows (option name greatest usual ∷ rest) rows = (has_row name rows ≡ true) × HaveRows rest rows
HaveRows (optional name greatest ∷ rest) rows = HaveRows rest rows
HaveRows (wanted name ∷ rest) rows = HaveRows rest rows
HaveRows (number name greatest ∷ rest) rows = HaveRows rest rows

pub no_default : (b : Bool) (rows : List Row) → (if b then rows else rows) ≡ rows
no_default true rows = refl
no_default false rows = refl

module _ (c : List Rule) where
  one_default : (i : ℕ) (a : Argument) → IsFound c i a → is_lawful a ≡ true → (rows : List Row) → AreRead c rows → AreRead c (with_default rows (ruled i a))
  one_default i (flag name) found lawful rows are = default_read c (ruled i (flag name)) (codes "false") found.0 refl rows are
  one_default i (option name greatest usual) found lawful rows are = default_read c (ruled i (option name greatest usual)) usual found.0 (usual_accepted name greatest usual lawful) rows are
  one_default i (optional name greatest) found lawful rows are = subst (AreRead c) (sym (no_default (has_row name rows) rows)) are
  one_default i (wanted name) found lawful rows are = subst (AreRead c) (sym (no_default (has_row name rows) rows)) are
  one_default i (number name greatest) found lawful rows are = subst (AreRead c) (sym (no_default (has_row name rows) rows)) are

  one_keeps : (i : ℕ) (a : Argument) → IsFound c i a → is_lawful a ≡ true → (rows : List Row) (id : Text) → has_row id rows ≡ true → has_row id (with_default rows (ruled i a)) ≡ true
  one_keeps i (flag name) found lawful rows id has = default_keeps c (ruled i (flag name)) (codes "false") found.0 refl rows id has
  one_keeps i (option name greatest usual) found lawful rows id has = default_keeps c (ruled i (option name greatest usual)) usual found.0 (usual_accepted name greatest usual lawful) rows id has
  one_keeps i (optional name greatest) found lawful rows id has = subst (λ rs. has_row id rs ≡ true) (sym (no_default (has_row name rows) rows)) has
  one_keeps i (wanted name) found lawful rows id has = subst (λ rs. has_row id rs ≡ true) (sym (no_default (has_row name rows) rows)) has
  one_keeps i (number name greatest) found lawful rows id has = subst (λ rs. has_row id rs ≡ true) (sym (no_default (has_row name rows) rows)) has

  all_keep : (i : ℕ) (arguments : List Argument) → AreFound c i arguments → are_lawful arguments ≡ true → (rows : List Row) (id : Text) → has_row id rows ≡ true
      → has_row id (fold with_default rows (rules_from i arguments)) ≡ true
  all_keep i [] found lawful rows id has = has
  all_keep i (a ∷ rest) (here, more) lawful rows id has =
      let own = both (is_lawful a) (not (is_named (name_of a) rest) && are_lawful rest) lawful in
      all_keep (next_position i a) rest more (both (not (is_named (name_of a) rest)) (are_lawful rest) own.1).1 (with_default rows (ruled i a)) id (one_keeps i a here own.0 rows id has)

  pub all_defaults : (i : ℕ) (arguments : List Argument) → AreFound c i arguments → are_lawful arguments ≡ true → (rows : List Row) → AreRead c rows
      → AreRead c (fold with_default rows (rules_from i arguments)) × HaveRows arguments (fold with_default rows (rules_from i arguments))
  all_defaults i [] found lawful rows are = (are, tt)
  all_defaults i (a ∷ rest) (here, more) lawful rows are =
      let own = both (is_lawful a) (not (is_named (name_of a) rest) && are_lawful rest) lawful in
      let later = both (not (is_named (name_of a) rest)) (are_lawful rest) own.1 in
      let now : List Row = with_default rows (ruled i a) in
      let done = all_defaults (next_position i a) rest more later.1 now (one_default i a here own.0 rows are) in
      (done.0, here_too i a rest here own.0 rows more later.1 done.1)
    where
      here_too : (i : ℕ) (a : Argument) (rest : List Argument) → IsFound c i a → is_lawful a ≡ true → (rows : List Row) → AreFound c (next_position i a) rest → are_lawful rest ≡ true
          → HaveRows rest (fold with_default (with_default rows (ruled i a)) (rules_from (next_position i a) rest))
          → HaveRows (a ∷ rest) (fold with_default (with_default rows (ruled i a)) (rules_from (next_position i a) rest))
      here_too i (flag name) rest found lawful rows more later have =
          (all_keep i rest more later (with_default rows (ruled i (flag name))) name (default_has c (ruled i (flag name)) (codes "false") found.0 refl rows), have)
      here_too i (option name greatest usual) rest found lawful rows more later have = (
        all_keep i rest more later (with_default rows (ruled i (option name greatest usual))) name
            (default_has c (ruled i (option name greatest usual)) usual found.0 (usual_accepted name greatest usual lawful) rows),
        have,
      )
      here_too i (optional name greatest) rest found lawful rows more later have = have
      here_too i (wanted name) rest found lawful rows more later have = have
      here_too i (number name greatest) rest found lawful rows more later have = have
