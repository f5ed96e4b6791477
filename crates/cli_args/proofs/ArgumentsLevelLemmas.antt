-- If clap reports no error, then each row of a command has one value, which the row's argument
-- accepts.
use Rattle.std.proofs.Common.{◌≡◌, ◌∙◌, inl, inr, ◌==◌, ◌||◌, ◌&&◌, Bool, true, false, not, List, [], ◌∷◌, ◌++◌, Some, None, codes, length, refl, sym, ap, subst, arith}
use Rattle.std.specs.Prelude.{if◌then◌else◌, option_map, slice_get}
use Rattle.std.specs.List.{find}
use Rattle.std.specs.Str.{bytes_eq}
use Rattle.std.proofs.lemmas.Bool.{ne_eqb, or_parts}
use Rattle.std.proofs.lemmas.Slice.Eq.{bytes_eq-Decides}
use Rattle.clap.specs.Facts.{parser_of_value, unwrap_or_range}
use Rattle.clap.specs.Values.{read_as}
use Rattle.clap.specs.Walk.{Row, Rule, Text, action_of, arg_by_id, at_row, first_of, has_row, more_values, one_of, reading_by, used, used_as, values_or_missing, with_values}
use Rattle.clap.specs.Simple.{filled}
use Rattle.clap.specs.Takes.{is_given}
use Rattle.clap.specs.Faults.{action_fault, repeat_fault, use_fault, values_fault}
use Rattle.clap.specs.Kinds.{range_kinds, value_kinds}
use Rattle.clap.specs.ValueTests.{accepts}
use Rattle.clap.specs.declared.builder.action.ArgAction.TheVariants.{Set, SetTrue}
use Rattle.clap.specs.declared.builder.range.ValueRange.{ValueRange}
use Rattle.clap.specs.declared.builder.value_parser.Reading.{Reading}
use Rattle.clap.specs.declared.error.kind.ErrorKind.{ErrorKind}
use Rattle.clap.specs.declared.error.kind.ErrorKind.TheVariants as kind
use Rattle.clap.specs.declared.parser.matches.ValueSource.TheVariants.{CommandLine, DefaultValue}
use Rattle.cli_spec.specs.CommandLine.{flag, rule_for}
use Rattle.cli_args.proofs.ArgumentsTableLemmas.{IsOwn, TakesOne}
use Rattle.cli_args.proofs.TopLemmas.{both_none}

pub no_kinds : (b : Bool) (k : ErrorKind) → (if b then k ∷ [] else []) ≡ [] → b ≡ false
no_kinds true k none = cc none
no_kinds false k none = refl

pub no_kind : (b : Bool) (k : ErrorKind) → (if b then [] else k ∷ []) ≡ [] → b ≡ true
no_kind true k none = refl
no_kind false k none = cc none

-- ---- rows

at_row_past : (id : Text) (change : Row → List Row) (missing : List Row) (r : Row) (rs : List Row) → bytes_eq r.id id ≡ false → at_row id change missing (r ∷ rs) ≡ r ∷ at_row id change missing rs
at_row_past id change missing r rs other = ap (λ b. if b then change r ++ rs else r ∷ at_row id change missing rs) other

-- If no row has a name, then the lookup of the name finds no row.
pub none_of : (name : Text) (rows : List Row) → has_row name rows ≡ false → find (λ r. bytes_eq r.id name) rows ≡ None
none_of name [] absent = refl
none_of name (r ∷ rs) absent = let disjoint = or_parts (bytes_eq r.id name) (has_row name rs) absent in rw disjoint.0 (none_of name rs disjoint.1)

-- If a row has a new name, then the row is added as the last row.
pub added_last : (id : Text) (change : Row → List Row) (new : Row) (rs : List Row) → has_row id rs ≡ false → at_row id change (new ∷ []) rs ≡ rs ++ new ∷ []
added_last id change new [] absent = refl
added_last id change new (r ∷ rs) absent =
    let disjoint = or_parts (bytes_eq r.id id) (has_row id rs) absent in
    at_row_past id change (new ∷ []) r rs disjoint.0 ∙ ap (λ l. r ∷ l) (added_last id change new rs disjoint.1)

pub none_left_out : (id : Text) (rs : List Row) → has_row id rs ≡ false → at_row id (λ _. []) [] rs ≡ rs
none_left_out id [] absent = refl
none_left_out id (r ∷ rs) absent =
    let disjoint = or_parts (bytes_eq r.id id) (has_row id rs) absent in
    at_row_past id (λ _. []) [] r rs disjoint.0 ∙ ap (λ l. r ∷ l) (none_left_out id rs disjoint.1)

pub has_last : (new : Row) (rs : List Row) → has_row new.id (rs ++ new ∷ []) ≡ true
has_last new [] = ap (λ b. b || false) ((bytes_eq-Decides new.id new.id).1 refl)
has_last new (r ∷ rs) = go (bytes_eq r.id new.id) (has_last new rs)
  where
    go : (b : Bool) → has_row new.id (rs ++ new ∷ []) ≡ true → (b || has_row new.id (rs ++ new ∷ [])) ≡ true
    go true later = refl
    go false later = later

-- If a row is changed or added, then the rows with different names stay.
pub has_still : (id : Text) (new : Row) (rs : List Row) → has_row id rs ≡ true → has_row id (rs ++ new ∷ []) ≡ true
has_still id new [] has = cc has
has_still id new (r ∷ rs) has = go (bytes_eq r.id id) has (has_still id new rs)
  where
    go : (b : Bool) → (b || has_row id rs) ≡ true → (has_row id rs ≡ true → has_row id (rs ++ new ∷ []) ≡ true) → (b || has_row id (rs ++ new ∷ [])) ≡ true
    go true here later = refl
    go false here later = later here

pub given_has : (id : Text) (rs : List Row) → is_given id rs ≡ true → has_row id rs ≡ true
given_has id [] given = cc given
given_has id (r ∷ rs) given = go (bytes_eq r.id id) refl (given_has id rs)
  where
    go : (b : Bool) → bytes_eq r.id id ≡ b → (is_given id rs ≡ true → has_row id rs ≡ true) → has_row id (r ∷ rs) ≡ true
    go true e later = rw e refl
    go false e later = rw e (later (rw e at given))

neither_and : (b : Bool) → (b && not false) ≡ false → b ≡ false
neither_and true e = e
neither_and false e = refl

-- If an argument was not used before, then the argument adds a row at the end.
pub set_adds : (values : List Text) (id : Text) (how : Reading) (rows : List Row) → has_row id rows ≡ false
    → with_values id how CommandLine values (at_row id (λ _. []) [] rows) ≡ rows ++ record { id = id; values = values; count = None; source = Some CommandLine; reading = how } ∷ []
set_adds values id how rows absent =
    ap (with_values id how CommandLine values) (none_left_out id rows absent)
    ∙ added_last id (more_values CommandLine values) (record { id = id; values = values; count = None; source = Some CommandLine; reading = how }) rows absent

module _ (c : List Rule) where
  -- The row has one value, which the argument with the row's name accepts.
  abbrev pub IsRead : Row → Type 0
  IsRead r =
      (a : Rule) × (arg_by_id c r.id ≡ Some a) × (text : Text) × (r.values ≡ text ∷ []) × (accepts a.ignore_case (parser_of_value a.parser) text ≡ true)
      × (r.reading ≡ reading_by a)

  abbrev pub AreRead : List Row → Type 0
  AreRead [] = Unit {0}
  AreRead (r ∷ rs) = IsRead r × AreRead rs

  pub read_last : (new : Row) (rs : List Row) → IsRead new → AreRead rs → AreRead (rs ++ new ∷ [])
  read_last new [] read are = (read, tt)
  read_last new (r ∷ rs) read (first, more) = (first, read_last new rs read more)

  -- If a row is present, then clap's result is the one value of the row.
  pub row_read : (id : Text) (rs : List Row) → AreRead rs → has_row id rs ≡ true → (a : Rule) → arg_by_id c id ≡ Some a
      → (text : Text) × (first_of id rs ≡ Some text) × (one_of id rs ≡ Some (read_as (reading_by a) text)) × (accepts a.ignore_case (parser_of_value a.parser) text ≡ true)
  row_read id [] are has a is = cc has
  row_read id (r ∷ rs) (first, more) has a is = go (bytes_eq r.id id) refl (λ has'. row_read id rs more has' a is)
    where
      go : (b : Bool) → bytes_eq r.id id ≡ b
          → (has_row id rs ≡ true → (text : Text) × (first_of id rs ≡ Some text) × (one_of id rs ≡ Some (read_as (reading_by a) text)) × (accepts a.ignore_case (parser_of_value a.parser) text ≡ true))
          → (text : Text) × (first_of id (r ∷ rs) ≡ Some text) × (one_of id (r ∷ rs) ≡ Some (read_as (reading_by a) text)) × (accepts a.ignore_case (parser_of_value a.parser) text ≡ true)
      go true e next =
          let same : r.id ≡ id = (bytes_eq-Decides r.id id).0 e in
          let own : Some first.0 ≡ Some a = sym first.1 ∙ (ap (arg_by_id c) same ∙ is) in
          let rule : first.0 ≡ a = cc own in (
            first.2,
            rw e (ap (λ (vs : List Text). slice_get vs 0) first.3),
            rw e (ap (λ (vs : List Text). option_map (read_as r.reading) (slice_get vs 0)) first.3 ∙ ap (λ how. Some (read_as how first.2)) (first.5 ∙ ap reading_by rule)),
            subst (λ (x : Rule). accepts x.ignore_case (parser_of_value x.parser) first.2 ≡ true) rule first.4,
          )
      go false e next =
          let later = next (rw e at has) in
          (later.0, rw e later.1, rw e later.2, later.3)

  -- ---- a use without errors preserves the invariant of the rows

  one_alone : (values : List Text) → range_kinds 1 1 (length values) ≡ [] → (text : Text) × (values ≡ text ∷ [])
  one_alone [] none = cc none
  one_alone (text ∷ []) none = (text, refl)
  one_alone (text ∷ more ∷ rest) none =
      let some : (length (text ∷ more ∷ rest) == 0) ≡ false = ne_eqb (length (text ∷ more ∷ rest)) 0 (λ e. omega arith) in
      let several : (1 == length (text ∷ more ∷ rest)) ≡ false = ne_eqb 1 (length (text ∷ more ∷ rest)) (λ e. omega arith) in
      let wrong : range_kinds 1 1 (length (text ∷ more ∷ rest)) ≡ kind.WrongNumberOfValues ∷ [] = rw (some, several) refl in
      cc (wrong, none)

  no_value : (values : List Text) → range_kinds 0 0 (length values) ≡ [] → values ≡ []
  no_value [] none = refl
  no_value (text ∷ rest) none =
      let several : (0 == length (text ∷ rest)) ≡ false = ne_eqb 0 (length (text ∷ rest)) (λ e. omega arith) in
      let wrong : range_kinds 0 0 (length (text ∷ rest)) ≡ kind.WrongNumberOfValues ∷ [] = rw several refl in
      cc (wrong, none)

  module _ (a : Rule) (own : arg_by_id c a.id ≡ Some a) (is : TakesOne a) (rows : List Row) (are : AreRead rows) where
    abbrev new_row : Text → Row
    new_row text = record { id = a.id; values = text ∷ []; count = None; source = Some CommandLine; reading = reading_by a }

    set_read : (text : Text) → action_fault Set false a (text ∷ []) rows ≡ [] → AreRead (used_as Set a.id (reading_by a) (text ∷ []) rows)
    set_read text none =
        let parts = both_none (repeat_fault false a.id rows) (values_fault a (text ∷ [])) none in
        let absent = neither_and (has_row a.id rows) (no_kinds (has_row a.id rows && not false) kind.ArgumentConflict parts.0) in
        let accepted = no_kind (accepts a.ignore_case (parser_of_value a.parser) text) _ (both_none (value_kinds a.ignore_case (parser_of_value a.parser) text) [] parts.1).0 in
        subst AreRead (sym (set_adds (text ∷ []) a.id (reading_by a) rows absent)) (read_last (new_row text) rows (a, own, text, refl, accepted, refl) are)

    one_used : (values : List Text) → use_fault false a values rows ≡ [] → AreRead (used a values rows)
    one_used values none =
        let parts = both_none (range_kinds (unwrap_or_range a.range).start_inclusive (unwrap_or_range a.range).end_inclusive (length values))
        (action_fault (action_of a) false a (values_or_missing a values) rows) none in
        let one = one_alone values (subst (λ (r : ValueRange). range_kinds r.start_inclusive r.end_inclusive (length values) ≡ []) is.1 parts.0) in
        let at_one : action_fault (action_of a) false a (one.0 ∷ []) rows ≡ [] = subst (λ vs. action_fault (action_of a) false a (values_or_missing a vs) rows ≡ []) one.1 parts.1 in
        subst (λ vs. AreRead (used a vs rows)) (sym one.1)
        (subst (λ act. AreRead (used_as act a.id (reading_by a) (one.0 ∷ []) rows)) (sym is.0) (set_read one.0 (subst (λ act. action_fault act false a (one.0 ∷ []) rows ≡ []) is.0 at_one)))

  -- If a flag is used without errors, then the rows keep their invariant.
  module _ (name : Text) (own : arg_by_id c name ≡ Some (filled (rule_for (flag name)))) (rows : List Row) (are : AreRead rows) where
    abbrev flag_rule : Rule
    flag_rule = filled (rule_for (flag name))

    abbrev flag_row : Row
    flag_row = record { id = name; values = codes "true" ∷ []; count = None; source = Some CommandLine; reading = reading_by flag_rule }

    flag_set : action_fault SetTrue false flag_rule (codes "true" ∷ []) rows ≡ [] → AreRead (used_as SetTrue name (reading_by flag_rule) (codes "true" ∷ []) rows)
    flag_set none =
        let parts = both_none (repeat_fault false name rows) (values_fault flag_rule (codes "true" ∷ [])) none in
        let absent = neither_and (has_row name rows) (no_kinds (has_row name rows && not false) kind.ArgumentConflict parts.0) in
        subst AreRead (sym (set_adds (codes "true" ∷ []) name (reading_by flag_rule) rows absent)) (read_last flag_row rows (flag_rule, own, codes "true", refl, refl, refl) are)

    flag_use : (values : List Text) → use_fault false flag_rule values rows ≡ [] → AreRead (used flag_rule values rows)
    flag_use values none =
        let parts = both_none (range_kinds 0 0 (length values)) (action_fault SetTrue false flag_rule (values_or_missing flag_rule values) rows) none in
        let empty = no_value values parts.0 in
        subst (λ vs. AreRead (used flag_rule vs rows)) (sym empty)
        (flag_set (subst (λ vs. action_fault SetTrue false flag_rule (values_or_missing flag_rule vs) rows ≡ []) empty parts.1))

  pub use_read : (a : Rule) → IsOwn c a → (rows : List Row) → AreRead rows → (values : List Text) → use_fault false a values rows ≡ [] → AreRead (used a values rows)
  use_read a (own, inl is) rows are values none = one_used a own is rows are values none
  use_read a (own, inr is) rows are values none =
      subst (λ r. AreRead (used r values rows)) (sym is.1)
      (flag_use is.0 (subst (λ (r : Rule). arg_by_id c r.id ≡ Some r) is.1 own) rows are values (subst (λ r. use_fault false r values rows ≡ []) is.1 none))

  -- ---- the default of an argument that is not used

  abbrev pub defaulted : Rule → Text → List Row → List Row
  defaulted a v rows = if has_row a.id rows then rows else with_values a.id (reading_by a) DefaultValue (v ∷ []) rows

  module _ (a : Rule) (v : Text) (own : arg_by_id c a.id ≡ Some a) (accepted : accepts a.ignore_case (parser_of_value a.parser) v ≡ true) (rows : List Row) where
    abbrev default_row : Row
    default_row = record { id = a.id; values = v ∷ []; count = None; source = Some DefaultValue; reading = reading_by a }

    pub default_read : AreRead rows → AreRead (defaulted a v rows)
    default_read are = go (has_row a.id rows) refl
      where
        go : (b : Bool) → has_row a.id rows ≡ b → AreRead (if b then rows else with_values a.id (reading_by a) DefaultValue (v ∷ []) rows)
        go true there = are
        go false absent = subst AreRead (sym (added_last a.id (more_values DefaultValue (v ∷ [])) default_row rows absent)) (read_last default_row rows (a, own, v, refl, accepted, refl) are)

    pub default_has : has_row a.id (defaulted a v rows) ≡ true
    default_has = go (has_row a.id rows) refl
      where
        go : (b : Bool) → has_row a.id rows ≡ b → has_row a.id (if b then rows else with_values a.id (reading_by a) DefaultValue (v ∷ []) rows) ≡ true
        go true there = there
        go false absent = ap (has_row a.id) (added_last a.id (more_values DefaultValue (v ∷ [])) default_row rows absent) ∙ has_last default_row rows

    pub default_keeps : (id : Text) → has_row id rows ≡ true → has_row id (defaulted a v rows) ≡ true
    default_keeps id has = go (has_row a.id rows) refl
      where
        go : (b : Bool) → has_row a.id rows ≡ b → has_row id (if b then rows else with_values a.id (reading_by a) DefaultValue (v ∷ []) rows) ≡ true
        go true there = has
        go false absent = ap (has_row id) (added_last a.id (more_values DefaultValue (v ∷ [])) default_row rows absent) ∙ has_still id default_row rows has
