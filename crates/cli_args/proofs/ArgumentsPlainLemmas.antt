-- If a command line is in plain form, then clap accepts the command line, which makes the request
-- that it states.
use Rattle.std.proofs.Common.{◌≡◌, ◌∙◌, ◌⊎◌, inl, inr, ◌≤◌, ◌<◌, ◌^◌, ◌||◌, ◌&&◌, ℕ, Bool, true, false, true≢false, not, List, [], ◌∷◌, ◌++◌, append-nil, append_assoc, cond, Option, Some, None, codes, is_some, refl, sym, ap, subst, arith}
use Rattle.std.specs.Prelude.{if◌then◌else◌, fold, map, option_and_then, option_map, slice_get, unwrap_or}
use Rattle.std.specs.List.{find, flat_map, list_any}
use Rattle.std.specs.Option.{option_map_or}
use Rattle.std.specs.Str.{bytes_eq}
use Rattle.std.specs.Str.Parse.{IsNumeral, digits_value, without_leading_plus}
use Rattle.std.proofs.lemmas.Slice.Eq.{bytes_eq-Decides}
use Rattle.std.proofs.lemmas.Bool.{or_parts}
use Rattle.clap.specs.Walk.{Held, Row, Rule, Text, Walk, arg_by_id, arg_by_long, finished, has_row, more_values, nothing_held, row_text, rows_after, settled, walk, walk_from, walked, with_default, with_values}
use Rattle.clap.specs.Facts.{explicit_source}
use Rattle.clap.specs.Simple.{Shape}
use Rattle.clap.specs.Takes.{is_given}
use Rattle.clap.specs.Faults.{check_fault, default_fault, defaults_fault, given_default_fault, level_fault, settle_fault, walk_fault}
use Rattle.clap.specs.Kinds.{Kinds, or_else}
use Rattle.clap.specs.declared.builder.action.ArgAction.TheVariants.{Set, SetTrue}
use Rattle.clap.specs.declared.builder.value_parser.Reading.TheVariants.{AsWritten}
use Rattle.clap.specs.declared.builder.value_parser.ValueParser.TheVariants.{Unsigned}
use Rattle.clap.specs.declared.error.kind.ErrorKind.TheVariants as kind
use Rattle.clap.specs.declared.parser.matches.ValueSource.TheVariants.{DefaultValue}
use Rattle.clap.proofs.ValueTestLemmas.{accepts-Accepts}
use Rattle.cli_spec.specs.CommandLine.{Argument, flag, option, optional, wanted, number, Asking, Form, Request, Use, alone, given, arguments_for, used_in, IsUse, IsUseAmong, ArePlain, ArePlainUses, ArePlainArguments, AreReadAs, Asks, HasArguments, HasFlag, HasNumber, MayHaveNumber, form_of, is_used, text_after}
use Rattle.cli_args.proofs.ArgumentsLevelLemmas.{added_last, none_of}
use Rattle.cli_args.proofs.LevelWalkLemmas.{no_default}
use Rattle.cli_args.proofs.PlainWalkLemmas.{Comes, Holds, digits_accepted, digits_are_argument, flag_comes, no_plus, none_comes, number_comes, option_comes, row_at, standing, then_comes, use_row, walk_no_arguments, wanted_comes}
use Rattle.cli_args.proofs.RequestLemmas.{asks_whole, reads_by}
use Rattle.cli_args.proofs.ArgumentsSetLemmas.{form_fits, leaf_of, named_fault, named_met, rules_of}
use Rattle.cli_args.proofs.ArgumentsTableLemmas.{AreFound, IsFound, all_found, are_lawful, both, is_lawful, is_named, fresh_name, lawful_rest, name_of, next_position, ruled, rules_from, same_text, small_number, small_option, small_optional, encodes, taking, usual_accepted, usual_as_is}

-- ---- rows by their names

abbrev row_of : Text → List Row → Option Row
row_of name rows = find (λ r. bytes_eq r.id name) rows

row_or_none : (name : Text) (rows : List Row) → row_of name rows ≡ None → has_row name rows ≡ false
row_or_none name [] none = refl
row_or_none name (r ∷ rs) none = go (bytes_eq r.id name) refl (row_or_none name rs)
  where
    go : (b : Bool) → bytes_eq r.id name ≡ b → (row_of name rs ≡ None → has_row name rs ≡ false) → has_row name (r ∷ rs) ≡ false
    go true e later = let bad : Some r ≡ None = (rw e at none) in cc bad
    go false e later = rw e (later (rw e at none))

row_kept : (name : Text) (r : Row) (rows more : List Row) → row_of name rows ≡ Some r → row_of name (rows ++ more) ≡ Some r
row_kept name r [] more found = cc found
row_kept name r (x ∷ xs) more found = go (bytes_eq x.id name) refl (row_kept name r xs more)
  where
    go : (b : Bool) → bytes_eq x.id name ≡ b → (row_of name xs ≡ Some r → row_of name (xs ++ more) ≡ Some r) → row_of name (x ∷ (xs ++ more)) ≡ Some r
    go true e later = rw e (rw e at found)
    go false e later = rw e (later (rw e at found))

-- If a row with a new name is added, then the lookup of the name finds the new row.
row_last : (name : Text) (r : Row) (rows : List Row) → has_row name rows ≡ false → bytes_eq r.id name ≡ true → row_of name (rows ++ r ∷ []) ≡ Some r
row_last name r [] absent is = rw is refl
row_last name r (x ∷ xs) absent is = let disjoint = or_parts (bytes_eq x.id name) (has_row name xs) absent in rw disjoint.0 (row_last name r xs disjoint.1 is)

-- If a row with a different name is added, then the lookup of a name is unchanged.
row_other : (name : Text) (r : Row) (rows : List Row) → bytes_eq r.id name ≡ false → row_of name (rows ++ r ∷ []) ≡ row_of name rows
row_other name r [] other = rw other refl
row_other name r (x ∷ xs) other = ap (λ o. cond (bytes_eq x.id name) (Some x) o) (row_other name r xs other)

has_other : (name : Text) (r : Row) (rows : List Row) → bytes_eq r.id name ≡ false → has_row name rows ≡ false → has_row name (rows ++ r ∷ []) ≡ false
has_other name r [] other absent = rw other refl
has_other name r (x ∷ xs) other absent = let disjoint = or_parts (bytes_eq x.id name) (has_row name xs) absent in rw disjoint.0 (has_other name r xs other disjoint.1)

none_before : (name : Text) (rows more : List Row) → has_row name rows ≡ false → row_of name (rows ++ more) ≡ row_of name more
none_before name [] more absent = refl
none_before name (x ∷ xs) more absent = let disjoint = or_parts (bytes_eq x.id name) (has_row name xs) absent in rw disjoint.0 (none_before name xs more disjoint.1)

none_after : (name : Text) (rows more : List Row) → has_row name more ≡ false → row_of name (rows ++ more) ≡ row_of name rows
none_after name [] more absent = none_of name more absent
none_after name (x ∷ xs) more absent = ap (λ o. cond (bytes_eq x.id name) (Some x) o) (none_after name xs more absent)

-- Inequality of two texts is symmetric.
disjoint_too : (a b : Text) → bytes_eq a b ≡ false → bytes_eq b a ≡ false
disjoint_too a b e = go (bytes_eq b a) refl
  where
    go : (t : Bool) → bytes_eq b a ≡ t → bytes_eq b a ≡ false
    go true is = absurd (true≢false (sym ((bytes_eq-Decides a b).1 (sym ((bytes_eq-Decides b a).0 is))) ∙ e))
    go false is = is

-- ---- the uses of options

-- The row of an option that is not used, with the default as its value.
abbrev default_at : Text → Text → Row
default_at name text = record { id = name; values = text ∷ []; count = None; source = Some DefaultValue; reading = AsWritten }

module _ (level : Text) (c : List Rule) where
  -- The use is that of a flag or an option that clap finds.
  abbrev IsWritten : Use → Type 0
  IsWritten (alone name) =
      (encodes name ≡ true) × (arg_by_id c name ≡ Some (ruled 1 (flag name))) × (arg_by_long c name ≡ Some (ruled 1 (flag name)))
  IsWritten (given name text) =
      (greatest : ℕ) × (usual : List Text) × (encodes name ≡ true) × (arg_by_id c name ≡ Some (taking name greatest usual))
      × (arg_by_long c name ≡ Some (taking name greatest usual)) × IsNumeral 10 text × (digits_value 10 text ≤ greatest) × (greatest < 2 ^ 64)

  abbrev AreWritten : List Use → Type 0
  AreWritten [] = Unit {0}
  AreWritten (one ∷ uses) = IsWritten one × (is_used (used_in one) uses ≡ false) × AreWritten uses

  written_one : (i : ℕ) (a : Argument) → IsFound c i a → is_lawful a ≡ true → (one : Use) → IsUse one a → IsWritten one
  written_one i (flag other) found lawful (alone name) is = subst (λ m. IsWritten (alone m)) (sym is) (lawful, found.0, found.1)
  written_one i (flag other) found lawful (given name text) is = absurd is
  written_one i (option other greatest usual) found lawful (alone name) is = absurd is
  written_one i (option other greatest usual) found lawful (given name text) (is, numeral, least) =
      subst (λ m. IsWritten (given m text)) (sym is)
      (greatest, usual ∷ [], (both (encodes other) _ lawful).0, found.0, found.1, numeral, least, small_option other greatest usual lawful)
  written_one i (optional other greatest) found lawful (alone name) is = absurd is
  written_one i (optional other greatest) found lawful (given name text) (is, numeral, least) =
      subst (λ m. IsWritten (given m text)) (sym is)
      (greatest, [], (both (encodes other) _ lawful).0, found.0, found.1, numeral, least, small_optional other greatest lawful)
  written_one i (wanted other) found lawful (alone name) is = absurd is
  written_one i (wanted other) found lawful (given name text) is = absurd is
  written_one i (number other greatest) found lawful (alone name) is = absurd is
  written_one i (number other greatest) found lawful (given name text) is = absurd is

  written : (i : ℕ) (arguments : List Argument) → AreFound c i arguments → are_lawful arguments ≡ true → (one : Use) → IsUseAmong arguments one → IsWritten one
  written i [] found lawful one is = absurd is
  written i (a ∷ rest) (here, more) lawful one (inl is) = written_one i a here (both (is_lawful a) _ lawful).0 one is
  written i (a ∷ rest) (here, more) lawful one (inr is) = written (next_position i a) rest more (lawful_rest a rest lawful) one is

  all_written : (arguments : List Argument) → AreFound c 1 arguments → are_lawful arguments ≡ true → (uses : List Use) → ArePlainUses arguments uses → AreWritten uses
  all_written arguments found lawful [] plain = tt
  all_written arguments found lawful (one ∷ uses) (is, once, more) = (written 1 arguments found lawful one is, once, all_written arguments found lawful uses more)

  -- None of the uses has a row yet.
  abbrev AreFresh : List Row → List Use → Type 0
  AreFresh rows [] = Unit {0}
  AreFresh rows (one ∷ uses) = (has_row (used_in one) rows ≡ false) × AreFresh rows uses

  none_fresh : (uses : List Use) → AreFresh [] uses
  none_fresh [] = tt
  none_fresh (one ∷ uses) = (refl, none_fresh uses)

  still_fresh : (r : Row) (rows : List Row) (uses : List Use) → is_used r.id uses ≡ false → AreFresh rows uses → AreFresh (rows ++ r ∷ []) uses
  still_fresh r rows [] once fresh = tt
  still_fresh r rows (one ∷ uses) once (first, more) =
      let disjoint = or_parts (bytes_eq (used_in one) r.id) (is_used r.id uses) once in
      (has_other (used_in one) r rows (disjoint_too (used_in one) r.id disjoint.0) first, still_fresh r rows uses disjoint.1 more)

  use_comes : (one : Use) → IsWritten one → (h : Held) (n : ℕ) (rows : List Row) → Holds level c h rows → has_row (used_in one) rows ≡ false
      → Comes level c h n (arguments_for one) n (rows ++ use_row one ∷ [])
  use_comes (alone name) (in_form, by_id, by_long) h n rows holds absent = flag_comes level c h n rows holds name in_form by_id by_long absent
  use_comes (given name text) (greatest, usual, in_form, by_id, by_long, numeral, least, small) h n rows holds absent =
      option_comes level c h n rows holds name text greatest usual in_form by_id by_long absent (digits_are_argument text numeral) (digits_accepted text greatest numeral least small)

  use_named : (one : Use) → (use_row one).id ≡ used_in one
  use_named (alone name) = refl
  use_named (given name text) = refl

  uses_come : (uses : List Use) → AreWritten uses → (h : Held) (n : ℕ) (rows : List Row) → Holds level c h rows → AreFresh rows uses → Comes level c h n (flat_map arguments_for uses) n (rows ++ map use_row uses)
  uses_come [] written h n rows holds fresh = none_comes level c h n (rows ++ []) (subst (Holds level c h) (sym (append-nil rows)) holds)
  uses_come (one ∷ uses) (is, once, more) h n rows holds (first, fresh) =
      subst (Comes level c h n (arguments_for one ++ flat_map arguments_for uses) n) (append_assoc rows (use_row one ∷ []) (map use_row uses))
      (then_comes level c h n n n (arguments_for one) (flat_map arguments_for uses) (rows ++ use_row one ∷ []) ((rows ++ use_row one ∷ []) ++ map use_row uses) (use_comes one is h n rows holds first)
      (λ h' holds'. uses_come uses more h' n (rows ++ use_row one ∷ []) holds'
      (still_fresh (use_row one) rows uses (subst (λ t. is_used t uses ≡ false) (sym (use_named one)) once) fresh)))

  -- ---- the positional arguments

  abbrev position_rows : List Argument → List Text → List Row
  position_rows [] texts = []
  position_rows (flag name ∷ rest) texts = position_rows rest texts
  position_rows (option name greatest usual ∷ rest) texts = position_rows rest texts
  position_rows (optional name greatest ∷ rest) texts = position_rows rest texts
  position_rows (wanted name ∷ rest) [] = []
  position_rows (wanted name ∷ rest) (text ∷ texts) = row_at name text ∷ position_rows rest texts
  position_rows (number name greatest ∷ rest) [] = []
  position_rows (number name greatest ∷ rest) (text ∷ texts) = row_at name text ∷ position_rows rest texts

  -- None of the positional arguments has a row yet.
  abbrev AreFree : List Row → List Argument → Type 0
  AreFree rows [] = Unit {0}
  AreFree rows (flag name ∷ rest) = AreFree rows rest
  AreFree rows (option name greatest usual ∷ rest) = AreFree rows rest
  AreFree rows (optional name greatest ∷ rest) = AreFree rows rest
  AreFree rows (wanted name ∷ rest) = (has_row name rows ≡ false) × AreFree rows rest
  AreFree rows (number name greatest ∷ rest) = (has_row name rows ≡ false) × AreFree rows rest

  still_free : (r : Row) (rows : List Row) (arguments : List Argument) → is_named r.id arguments ≡ false → AreFree rows arguments → AreFree (rows ++ r ∷ []) arguments
  still_free r rows [] other free = tt
  still_free r rows (flag name ∷ rest) other free = still_free r rows rest (or_parts (bytes_eq r.id name) (is_named r.id rest) other).1 free
  still_free r rows (option name greatest usual ∷ rest) other free = still_free r rows rest (or_parts (bytes_eq r.id name) (is_named r.id rest) other).1 free
  still_free r rows (optional name greatest ∷ rest) other free = still_free r rows rest (or_parts (bytes_eq r.id name) (is_named r.id rest) other).1 free
  still_free r rows (wanted name ∷ rest) other (first, free) =
      let disjoint = or_parts (bytes_eq r.id name) (is_named r.id rest) other in
      (has_other name r rows disjoint.0 first, still_free r rows rest disjoint.1 free)
  still_free r rows (number name greatest ∷ rest) other (first, free) =
      let disjoint = or_parts (bytes_eq r.id name) (is_named r.id rest) other in
      (has_other name r rows disjoint.0 first, still_free r rows rest disjoint.1 free)

  -- The index after the last positional argument.
  abbrev last_position : ℕ → List Argument → ℕ
  last_position n [] = n
  last_position n (a ∷ rest) = last_position (next_position n a) rest

  positions_come : (n : ℕ) (arguments : List Argument) (asks : Asking arguments) (uses : List Use) (texts : List Text) (request : Request) → AreFound c n arguments → are_lawful arguments ≡ true
      → ArePlainArguments arguments asks uses texts request → (h : Held) (rows : List Row) → Holds level c h rows → AreFree rows arguments
      → Comes level c h n texts (last_position n arguments) (rows ++ position_rows arguments texts)
  positions_come n [] asks uses [] request found lawful plain h rows holds free = none_comes level c h n (rows ++ []) (subst (Holds level c h) (sym (append-nil rows)) holds)
  positions_come n [] asks uses (text ∷ texts) request found lawful plain h rows holds free = absurd plain
  positions_come n (flag name ∷ rest) asks uses texts request (here, more) lawful plain h rows holds free =
      positions_come n rest (asks (is_used name uses)) uses texts request more (lawful_rest (flag name) rest lawful) plain h rows holds free
  positions_come n (option name greatest usual ∷ rest) asks uses texts request (here, more) lawful plain h rows holds free =
      positions_come n rest (asks (digits_value 10 (unwrap_or (text_after name uses) usual))) uses texts request more (lawful_rest (option name greatest usual) rest lawful) plain h rows holds free
  positions_come n (optional name greatest ∷ rest) asks uses texts request (here, more) lawful plain h rows holds free =
      positions_come n rest (asks (option_map (digits_value 10) (text_after name uses))) uses texts request more (lawful_rest (optional name greatest) rest lawful) plain h rows holds free
  positions_come n (wanted name ∷ rest) asks uses [] request found lawful plain h rows holds free = absurd plain
  positions_come n (wanted name ∷ rest) asks uses (text ∷ texts) request (here, more) lawful (is, plain) h rows holds (first, free) =
      subst (Comes level c h n (text ∷ texts) (last_position (next_position n (wanted name)) rest)) (append_assoc rows (row_at name text ∷ []) (position_rows rest texts))
      (then_comes level c h n (next_position n (wanted name)) (last_position (next_position n (wanted name)) rest) (text ∷ []) texts (rows ++ row_at name text ∷ []) ((rows ++ row_at name text ∷ []) ++ position_rows rest texts)
      (wanted_comes level c h n rows holds name text here.0 here.1 first is)
      (λ h' holds'. positions_come (next_position n (wanted name)) rest (asks text) uses texts request more (lawful_rest (wanted name) rest lawful) plain h' (rows ++ row_at name text ∷ []) holds'
      (still_free (row_at name text) rows rest (fresh_name (wanted name) rest lawful) free)))
  positions_come n (number name greatest ∷ rest) asks uses [] request found lawful plain h rows holds free = absurd plain
  positions_come n (number name greatest ∷ rest) asks uses (text ∷ texts) request (here, more) lawful (numeral, least, plain) h rows holds (first, free) =
      subst (Comes level c h n (text ∷ texts) (last_position (next_position n (number name greatest)) rest)) (append_assoc rows (row_at name text ∷ []) (position_rows rest texts))
      (then_comes level c h n (next_position n (number name greatest)) (last_position (next_position n (number name greatest)) rest) (text ∷ []) texts (rows ++ row_at name text ∷ [])
      ((rows ++ row_at name text ∷ []) ++ position_rows rest texts)
      (number_comes level c h n rows holds name text greatest here.0 here.1 first (digits_are_argument text numeral)
      (digits_accepted text greatest numeral least (small_number name greatest (both (is_lawful (number name greatest)) _ lawful).0)))
      (λ h' holds'. positions_come (next_position n (number name greatest)) rest (asks (digits_value 10 text)) uses texts request more (lawful_rest (number name greatest) rest lawful) plain h'
      (rows ++ row_at name text ∷ []) holds' (still_free (row_at name text) rows rest (fresh_name (number name greatest) rest lawful) free)))

  -- Each positional argument has its row.
  abbrev HavePositions : List Row → List Argument → List Text → Type 0
  HavePositions rows [] texts = Unit {0}
  HavePositions rows (flag name ∷ rest) texts = HavePositions rows rest texts
  HavePositions rows (option name greatest usual ∷ rest) texts = HavePositions rows rest texts
  HavePositions rows (optional name greatest ∷ rest) texts = HavePositions rows rest texts
  HavePositions rows (wanted name ∷ rest) [] = ⊥
  HavePositions rows (wanted name ∷ rest) (text ∷ texts) = (row_of name rows ≡ Some (row_at name text)) × HavePositions rows rest texts
  HavePositions rows (number name greatest ∷ rest) [] = ⊥
  HavePositions rows (number name greatest ∷ rest) (text ∷ texts) = (row_of name rows ≡ Some (row_at name text)) × HavePositions rows rest texts

  have_positions : (arguments : List Argument) (asks : Asking arguments) (uses : List Use) (texts : List Text) (request : Request) → are_lawful arguments ≡ true
      → ArePlainArguments arguments asks uses texts request → (rows : List Row) → AreFree rows arguments → HavePositions (rows ++ position_rows arguments texts) arguments texts
  have_positions [] asks uses texts request lawful plain rows free = tt
  have_positions (flag name ∷ rest) asks uses texts request lawful plain rows free = have_positions rest (asks (is_used name uses)) uses texts request (lawful_rest (flag name) rest lawful) plain rows free
  have_positions (option name greatest usual ∷ rest) asks uses texts request lawful plain rows free =
      have_positions rest (asks (digits_value 10 (unwrap_or (text_after name uses) usual))) uses texts request (lawful_rest (option name greatest usual) rest lawful) plain rows free
  have_positions (optional name greatest ∷ rest) asks uses texts request lawful plain rows free =
      have_positions rest (asks (option_map (digits_value 10) (text_after name uses))) uses texts request (lawful_rest (optional name greatest) rest lawful) plain rows free
  have_positions (wanted name ∷ rest) asks uses [] request lawful plain rows free = absurd plain
  have_positions (wanted name ∷ rest) asks uses (text ∷ texts) request lawful (is, plain) rows (first, free) = (
    none_before name rows (position_rows (wanted name ∷ rest) (text ∷ texts)) first ∙ (rw (same_text name) refl),
    subst (λ rs. HavePositions rs rest texts) (append_assoc rows (row_at name text ∷ []) (position_rows rest texts))
        (have_positions rest (asks text) uses texts request (lawful_rest (wanted name) rest lawful) plain (rows ++ row_at name text ∷ [])
        (still_free (row_at name text) rows rest (fresh_name (wanted name) rest lawful) free)),
  )
  have_positions (number name greatest ∷ rest) asks uses [] request lawful plain rows free = absurd plain
  have_positions (number name greatest ∷ rest) asks uses (text ∷ texts) request lawful (numeral, least, plain) rows (first, free) = (
    none_before name rows (position_rows (number name greatest ∷ rest) (text ∷ texts)) first ∙ (rw (same_text name) refl),
    subst (λ rs. HavePositions rs rest texts) (append_assoc rows (row_at name text ∷ []) (position_rows rest texts))
        (have_positions rest (asks (digits_value 10 text)) uses texts request (lawful_rest (number name greatest) rest lawful) plain (rows ++ row_at name text ∷ [])
        (still_free (row_at name text) rows rest (fresh_name (number name greatest) rest lawful) free)),
  )

  -- ---- distinct names

  disjoint : (x y : Text) (a b : Rule) → arg_by_id c x ≡ Some a → arg_by_id c y ≡ Some b → (a ≡ b → ⊥) → bytes_eq x y ≡ false
  disjoint x y a b first second differ = go (bytes_eq x y) refl
    where
      go : (t : Bool) → bytes_eq x y ≡ t → bytes_eq x y ≡ false
      go true e =
          let is : Some a ≡ Some b = sym first ∙ (ap (arg_by_id c) ((bytes_eq-Decides x y).0 e) ∙ second) in
          let same : a ≡ b = cc is in
          absurd (differ same)
      go false e = e

  long_disjoint : (x y : Text) (a b : Rule) → arg_by_id c x ≡ Some a → arg_by_id c y ≡ Some b → is_some a.long ≡ true → is_some b.long ≡ false → bytes_eq x y ≡ false
  long_disjoint x y a b first second long short = disjoint x y a b first second (λ e. true≢false (sym long ∙ (ap (λ (r : Rule). is_some r.long) e ∙ short)))

  short_disjoint : (x y : Text) (a b : Rule) → arg_by_id c x ≡ Some a → arg_by_id c y ≡ Some b → is_some a.long ≡ false → is_some b.long ≡ true → bytes_eq x y ≡ false
  short_disjoint x y a b first second short long = disjoint x y a b first second (λ e. true≢false (sym long ∙ (ap (λ (r : Rule). is_some r.long) (sym e) ∙ short)))

  use_disjoint : (one : Use) → IsWritten one → (name : Text) (b : Rule) → arg_by_id c name ≡ Some b → is_some b.long ≡ false → bytes_eq (use_row one).id name ≡ false
  use_disjoint (alone other) written name b found short = long_disjoint other name (ruled 1 (flag other)) b written.1 found refl short
  use_disjoint (given other text) written name b found short = long_disjoint other name (taking other written.0 written.1) b written.3 found refl short

  uses_disjoint : (uses : List Use) → AreWritten uses → (name : Text) (b : Rule) → arg_by_id c name ≡ Some b → is_some b.long ≡ false → has_row name (map use_row uses) ≡ false
  uses_disjoint [] written name b found short = refl
  uses_disjoint (one ∷ uses) (is, once, more) name b found short = rw (use_disjoint one is name b found short) (uses_disjoint uses more name b found short)

  uses_free : (i : ℕ) (arguments : List Argument) → AreFound c i arguments → (uses : List Use) → AreWritten uses → AreFree (map use_row uses) arguments
  uses_free i [] found uses written = tt
  uses_free i (flag name ∷ rest) (here, more) uses written = uses_free (next_position i (flag name)) rest more uses written
  uses_free i (option name greatest usual ∷ rest) (here, more) uses written = uses_free (next_position i (option name greatest usual)) rest more uses written
  uses_free i (optional name greatest ∷ rest) (here, more) uses written = uses_free (next_position i (optional name greatest)) rest more uses written
  uses_free i (wanted name ∷ rest) (here, more) uses written =
      (uses_disjoint uses written name (ruled i (wanted name)) here.0 refl, uses_free (next_position i (wanted name)) rest more uses written)
  uses_free i (number name greatest ∷ rest) (here, more) uses written =
      (uses_disjoint uses written name (ruled i (number name greatest)) here.0 refl, uses_free (next_position i (number name greatest)) rest more uses written)

  positions_disjoint : (name : Text) (a : Rule) → arg_by_id c name ≡ Some a → is_some a.long ≡ true → (i : ℕ) (arguments : List Argument) → AreFound c i arguments → (texts : List Text)
      → has_row name (position_rows arguments texts) ≡ false
  positions_disjoint name a is long i [] found texts = refl
  positions_disjoint name a is long i (flag other ∷ rest) (here, more) texts = positions_disjoint name a is long (next_position i (flag other)) rest more texts
  positions_disjoint name a is long i (option other greatest usual ∷ rest) (here, more) texts = positions_disjoint name a is long (next_position i (option other greatest usual)) rest more texts
  positions_disjoint name a is long i (optional other greatest ∷ rest) (here, more) texts = positions_disjoint name a is long (next_position i (optional other greatest)) rest more texts
  positions_disjoint name a is long i (wanted other ∷ rest) found [] = refl
  positions_disjoint name a is long i (wanted other ∷ rest) (here, more) (text ∷ texts) =
      rw (short_disjoint other name (ruled i (wanted other)) a here.0 is refl long) (positions_disjoint name a is long (next_position i (wanted other)) rest more texts)
  positions_disjoint name a is long i (number other greatest ∷ rest) found [] = refl
  positions_disjoint name a is long i (number other greatest ∷ rest) (here, more) (text ∷ texts) =
      rw (short_disjoint other name (ruled i (number other greatest)) a here.0 is refl long) (positions_disjoint name a is long (next_position i (number other greatest)) rest more texts)

  -- ---- the defaults of options that are not used

  module _ (own text : Text) (rows : List Row) where
    abbrev with_usual : List Row
    with_usual = if has_row own rows then rows else with_values own AsWritten DefaultValue (text ∷ []) rows

    usual_added : has_row own rows ≡ false → with_values own AsWritten DefaultValue (text ∷ []) rows ≡ rows ++ default_at own text ∷ []
    usual_added absent = added_last own (more_values DefaultValue (text ∷ [])) (default_at own text) rows absent

    usual_kept : (name : Text) (r : Row) → row_of name rows ≡ Some r → row_of name with_usual ≡ Some r
    usual_kept name r found = go (has_row own rows) refl
      where
        go : (b : Bool) → has_row own rows ≡ b → row_of name (if b then rows else with_values own AsWritten DefaultValue (text ∷ []) rows) ≡ Some r
        go true e = found
        go false absent = ap (row_of name) (usual_added absent) ∙ row_kept name r rows (default_at own text ∷ []) found

    usual_other : (name : Text) → bytes_eq own name ≡ false → row_of name with_usual ≡ row_of name rows
    usual_other name other = go (has_row own rows) refl
      where
        go : (b : Bool) → has_row own rows ≡ b → row_of name (if b then rows else with_values own AsWritten DefaultValue (text ∷ []) rows) ≡ row_of name rows
        go true e = refl
        go false absent = ap (row_of name) (usual_added absent) ∙ row_other name (default_at own text) rows other

    usual_new : row_of own rows ≡ None → row_of own with_usual ≡ Some (default_at own text)
    usual_new none =
        let absent = row_or_none own rows none in
        ap (λ b. row_of own (if b then rows else with_values own AsWritten DefaultValue (text ∷ []) rows)) absent
        ∙ (ap (row_of own) (usual_added absent) ∙ row_last own (default_at own text) rows absent (same_text own))

  one_kept : (i : ℕ) (a : Argument) (name : Text) (r : Row) (rows : List Row) → row_of name rows ≡ Some r → row_of name (with_default rows (ruled i a)) ≡ Some r
  one_kept i (flag own) name r rows found = usual_kept own (codes "false") rows name r found
  one_kept i (option own greatest usual) name r rows found = usual_kept own usual rows name r found
  one_kept i (optional own greatest) name r rows found = ap (row_of name) (no_default (has_row own rows) rows) ∙ found
  one_kept i (wanted own) name r rows found = ap (row_of name) (no_default (has_row own rows) rows) ∙ found
  one_kept i (number own greatest) name r rows found = ap (row_of name) (no_default (has_row own rows) rows) ∙ found

  one_other : (i : ℕ) (a : Argument) (name : Text) (rows : List Row) → bytes_eq (name_of a) name ≡ false → row_of name (with_default rows (ruled i a)) ≡ row_of name rows
  one_other i (flag own) name rows other = usual_other own (codes "false") rows name other
  one_other i (option own greatest usual) name rows other = usual_other own usual rows name other
  one_other i (optional own greatest) name rows other = ap (row_of name) (no_default (has_row own rows) rows)
  one_other i (wanted own) name rows other = ap (row_of name) (no_default (has_row own rows) rows)
  one_other i (number own greatest) name rows other = ap (row_of name) (no_default (has_row own rows) rows)

  all_kept : (i : ℕ) (arguments : List Argument) (name : Text) (r : Row) (rows : List Row) → row_of name rows ≡ Some r → row_of name (fold with_default rows (rules_from i arguments)) ≡ Some r
  all_kept i [] name r rows found = found
  all_kept i (a ∷ rest) name r rows found = all_kept (next_position i a) rest name r (with_default rows (ruled i a)) (one_kept i a name r rows found)

  all_others : (i : ℕ) (arguments : List Argument) (name : Text) (rows : List Row) → is_named name arguments ≡ false → row_of name (fold with_default rows (rules_from i arguments)) ≡ row_of name rows
  all_others i [] name rows other = refl
  all_others i (a ∷ rest) name rows other =
      let differ = or_parts (bytes_eq name (name_of a)) (is_named name rest) other in
      all_others (next_position i a) rest name (with_default rows (ruled i a)) differ.1 ∙ one_other i a name rows (disjoint_too name (name_of a) differ.0)

  positions_kept : (rows rows' : List Row) → ((name : Text) (r : Row) → row_of name rows ≡ Some r → row_of name rows' ≡ Some r) → (arguments : List Argument) (texts : List Text)
      → HavePositions rows arguments texts → HavePositions rows' arguments texts
  positions_kept rows rows' keeps [] texts have = tt
  positions_kept rows rows' keeps (flag name ∷ rest) texts have = positions_kept rows rows' keeps rest texts have
  positions_kept rows rows' keeps (option name greatest usual ∷ rest) texts have = positions_kept rows rows' keeps rest texts have
  positions_kept rows rows' keeps (optional name greatest ∷ rest) texts have = positions_kept rows rows' keeps rest texts have
  positions_kept rows rows' keeps (wanted name ∷ rest) [] have = have
  positions_kept rows rows' keeps (wanted name ∷ rest) (text ∷ texts) (first, have) = (keeps name (row_at name text) first, positions_kept rows rows' keeps rest texts have)
  positions_kept rows rows' keeps (number name greatest ∷ rest) [] have = have
  positions_kept rows rows' keeps (number name greatest ∷ rest) (text ∷ texts) (first, have) = (keeps name (row_at name text) first, positions_kept rows rows' keeps rest texts have)

  given_all : (i : ℕ) (arguments : List Argument) (texts : List Text) (rows : List Row) → HavePositions rows arguments texts
      → list_any (λ a. a.required && not (is_given a.id rows)) (rules_from i arguments) ≡ false
  given_all i [] texts rows have = refl
  given_all i (flag name ∷ rest) texts rows have = given_all (next_position i (flag name)) rest texts rows have
  given_all i (option name greatest usual ∷ rest) texts rows have = given_all (next_position i (option name greatest usual)) rest texts rows have
  given_all i (optional name greatest ∷ rest) texts rows have = given_all (next_position i (optional name greatest)) rest texts rows have
  given_all i (wanted name ∷ rest) [] rows have = absurd have
  given_all i (wanted name ∷ rest) (text ∷ texts) rows (first, have) =
      ap (λ o. not (option_map_or (λ (r : Row). explicit_source r.source) o false) || list_any (λ a. a.required && not (is_given a.id rows)) (rules_from (next_position i (wanted name)) rest)) first
      ∙ given_all (next_position i (wanted name)) rest texts rows have
  given_all i (number name greatest ∷ rest) [] rows have = absurd have
  given_all i (number name greatest ∷ rest) (text ∷ texts) rows (first, have) =
      ap (λ o. not (option_map_or (λ (r : Row). explicit_source r.source) o false) || list_any (λ a. a.required && not (is_given a.id rows)) (rules_from (next_position i (number name greatest)) rest)) first
      ∙ given_all (next_position i (number name greatest)) rest texts rows have

  one_default_fault : (i : ℕ) (a : Argument) (rows : List Row) → is_lawful a ≡ true → default_fault rows (ruled i a) ≡ []
  one_default_fault i (flag name) rows lawful = go (has_row name rows)
    where
      go : (b : Bool) → (if b || false then [] else given_default_fault (ruled i (flag name)) (codes "false" ∷ [])) ≡ []
      go true = refl
      go false = refl
  one_default_fault i (option name greatest usual) rows lawful = go (has_row name rows)
    where
      go : (b : Bool) → (if b || false then [] else given_default_fault (ruled i (option name greatest usual)) (usual ∷ [])) ≡ []
      go true = refl
      go false = rw (usual_accepted name greatest usual lawful) refl
  one_default_fault i (optional name greatest) rows lawful = go (has_row name rows)
    where
      go : (b : Bool) → (if b || true then [] else given_default_fault (ruled i (optional name greatest)) []) ≡ []
      go true = refl
      go false = refl
  one_default_fault i (wanted name) rows lawful = go (has_row name rows)
    where
      go : (b : Bool) → (if b || true then [] else given_default_fault (ruled i (wanted name)) []) ≡ []
      go true = refl
      go false = refl
  one_default_fault i (number name greatest) rows lawful = go (has_row name rows)
    where
      go : (b : Bool) → (if b || true then [] else given_default_fault (ruled i (number name greatest)) []) ≡ []
      go true = refl
      go false = refl

  no_defaults_fault : (i : ℕ) (arguments : List Argument) (rows : List Row) → are_lawful arguments ≡ true → defaults_fault rows (rules_from i arguments) ≡ []
  unfolding defaults_fault
  no_defaults_fault i [] rows lawful = refl
  no_defaults_fault i (a ∷ rest) rows lawful =
      ap (λ k. or_else k (defaults_fault (with_default rows (ruled i a)) (rules_from (next_position i a) rest))) (one_default_fault i a rows (both (is_lawful a) _ lawful).0)
      ∙ no_defaults_fault (next_position i a) rest (with_default rows (ruled i a)) (lawful_rest a rest lawful)

  -- ---- the values of uses

  flag_row_is : (name : Text) → arg_by_id c name ≡ Some (ruled 1 (flag name)) → (uses : List Use) → AreWritten uses
      → row_of name (map use_row uses) ≡ (if is_used name uses then Some (row_at name (codes "true")) else None)
  flag_row_is name found [] written = refl
  flag_row_is name found (alone other ∷ uses) (is, once, more) = go (bytes_eq other name) refl (flag_row_is name found uses more)
    where
      go : (b : Bool) → bytes_eq other name ≡ b → row_of name (map use_row uses) ≡ (if is_used name uses then Some (row_at name (codes "true")) else None)
          → row_of name (map use_row (alone other ∷ uses)) ≡ (if is_used name (alone other ∷ uses) then Some (row_at name (codes "true")) else None)
      go true e later = rw e (ap (λ n. Some (row_at n (codes "true"))) ((bytes_eq-Decides other name).0 e))
      go false e later = rw e later
  flag_row_is name found (given other text ∷ uses) (is, once, more) =
      rw (disjoint other name (taking other is.0 is.1) (ruled 1 (flag name)) is.3 found (λ e. let bad : Some Set ≡ Some SetTrue = ap (λ (r : Rule). r.action) e in cc bad))
      (flag_row_is name found uses more)

  -- The option is not used, or is used once.
  abbrev IsShown : Text → ℕ → List Use → Type 0
  IsShown name greatest uses =
      ((row_of name (map use_row uses) ≡ None) × (text_after name uses ≡ None))
      ⊎ ((text : Text) × (row_of name (map use_row uses) ≡ Some (row_at name text)) × (text_after name uses ≡ Some text) × IsNumeral 10 text × (digits_value 10 text ≤ greatest))

  option_row_is : (name : Text) (greatest : ℕ) (usual : List Text) → arg_by_id c name ≡ Some (taking name greatest usual) → (uses : List Use) → AreWritten uses → IsShown name greatest uses
  option_row_is name greatest usual found [] written = inl (refl, refl)
  option_row_is name greatest usual found (alone other ∷ uses) (is, once, more) =
      rw (disjoint other name (ruled 1 (flag other)) (taking name greatest usual) is.1 found (λ e. let bad : Some SetTrue ≡ Some Set = ap (λ (r : Rule). r.action) e in cc bad))
      (option_row_is name greatest usual found uses more)
  option_row_is name greatest usual found (given other text ∷ uses) (is, once, more) = go (bytes_eq other name) refl (option_row_is name greatest usual found uses more)
    where
      go : (b : Bool) → bytes_eq other name ≡ b → IsShown name greatest uses → IsShown name greatest (given other text ∷ uses)
      go true e later =
          let same : other ≡ name = (bytes_eq-Decides other name).0 e in
          let rules : Some (taking other is.0 is.1) ≡ Some (taking name greatest usual) = sym is.3 ∙ (ap (arg_by_id c) same ∙ found) in
          let rule : taking other is.0 is.1 ≡ taking name greatest usual = cc rules in
          let parsers : Some (Unsigned 0 is.0) ≡ Some (Unsigned 0 greatest) = ap (λ (r : Rule). r.parser) rule in
          let most : is.0 ≡ greatest = cc parsers in
          let least = is.6 in
          inr (text, (rw e (ap (λ n. Some (row_at n text)) same)), (rw e refl), is.5, omega (arith, most, least))
      go false e later = rw e later

  -- ---- clap's results for the arguments

  number_shown : (rows : List Row) (name : Text) (greatest : ℕ) (text : Text) → row_of name rows ≡ Some (row_at name text) → IsNumeral 10 text → digits_value 10 text ≤ greatest
      → HasNumber rows name greatest (digits_value 10 text)
  number_shown rows name greatest text found numeral least =
      (text, ap (option_and_then row_text) found, subst (IsNumeral 10) (sym (no_plus text numeral)) numeral, ap (digits_value 10) (no_plus text numeral), least)

  usual_shown : (rows : List Row) (name : Text) (greatest : ℕ) (usual : Text) → is_lawful (option name greatest usual) ≡ true → row_of name rows ≡ Some (default_at name usual)
      → HasNumber rows name greatest (digits_value 10 usual)
  usual_shown rows name greatest usual lawful found =
      let same = usual_as_is name greatest usual lawful in
      let value_is : digits_value 10 (without_leading_plus usual) ≡ digits_value 10 usual = ap (digits_value 10) same in
      let in_range = accepts-Accepts false (Unsigned 0 greatest) usual (usual_accepted name greatest usual lawful) in
      let most = in_range.3 in
      (usual, ap (option_and_then row_text) found, in_range.0, value_is, omega (arith, value_is, most))

  module _ (uses : List Use) (written : AreWritten uses) (request : Request) where
    abbrev AreStill : List Row → List Argument → Type 0
    AreStill rows [] = Unit {0}
    AreStill rows (flag name ∷ rest) = (row_of name rows ≡ row_of name (map use_row uses)) × AreStill rows rest
    AreStill rows (option name greatest usual ∷ rest) = (row_of name rows ≡ row_of name (map use_row uses)) × AreStill rows rest
    AreStill rows (optional name greatest ∷ rest) = (row_of name rows ≡ row_of name (map use_row uses)) × AreStill rows rest
    AreStill rows (wanted name ∷ rest) = AreStill rows rest
    AreStill rows (number name greatest ∷ rest) = AreStill rows rest

    still_after : (i : ℕ) (a : Argument) (rows : List Row) (rest : List Argument) → is_named (name_of a) rest ≡ false → AreStill rows rest → AreStill (with_default rows (ruled i a)) rest
    still_after i a rows [] other still = tt
    still_after i a rows (flag name ∷ rest) other (first, still) =
        let differ = or_parts (bytes_eq (name_of a) name) (is_named (name_of a) rest) other in
        (one_other i a name rows differ.0 ∙ first, still_after i a rows rest differ.1 still)
    still_after i a rows (option name greatest usual ∷ rest) other (first, still) =
        let differ = or_parts (bytes_eq (name_of a) name) (is_named (name_of a) rest) other in
        (one_other i a name rows differ.0 ∙ first, still_after i a rows rest differ.1 still)
    still_after i a rows (optional name greatest ∷ rest) other (first, still) =
        let differ = or_parts (bytes_eq (name_of a) name) (is_named (name_of a) rest) other in
        (one_other i a name rows differ.0 ∙ first, still_after i a rows rest differ.1 still)
    still_after i a rows (wanted name ∷ rest) other still = still_after i a rows rest (or_parts (bytes_eq (name_of a) name) (is_named (name_of a) rest) other).1 still
    still_after i a rows (number name greatest ∷ rest) other still = still_after i a rows rest (or_parts (bytes_eq (name_of a) name) (is_named (name_of a) rest) other).1 still

    still_first : (all : List Argument) → AreFound c 1 all → (texts : List Text) → (i : ℕ) (arguments : List Argument) → AreFound c i arguments → AreStill (map use_row uses ++ position_rows all texts) arguments
    still_first all found texts i [] here = tt
    still_first all found texts i (flag name ∷ rest) (here, more) =
        (none_after name (map use_row uses) (position_rows all texts) (positions_disjoint name (ruled 1 (flag name)) here.0 refl 1 all found texts), still_first all found texts (next_position i (flag name)) rest more)
    still_first all found texts i (option name greatest usual ∷ rest) (here, more) = (
      none_after name (map use_row uses) (position_rows all texts) (positions_disjoint name (ruled 1 (option name greatest usual)) here.0 refl 1 all found texts),
      still_first all found texts (next_position i (option name greatest usual)) rest more,
    )
    still_first all found texts i (optional name greatest ∷ rest) (here, more) = (
      none_after name (map use_row uses) (position_rows all texts) (positions_disjoint name (ruled 1 (optional name greatest)) here.0 refl 1 all found texts),
      still_first all found texts (next_position i (optional name greatest)) rest more,
    )
    still_first all found texts i (wanted name ∷ rest) (here, more) = still_first all found texts (next_position i (wanted name)) rest more
    still_first all found texts i (number name greatest ∷ rest) (here, more) = still_first all found texts (next_position i (number name greatest)) rest more

    flag_shown : (i : ℕ) (name : Text) (rest : List Argument) (rows : List Row) (used : Bool) → row_of name rows ≡ (if used then Some (row_at name (codes "true")) else None)
        → HasFlag (fold with_default rows (rules_from i (flag name ∷ rest))) name used
    flag_shown i name rest rows true is =
        ap (option_and_then (λ (r : Row). slice_get r.values 0)) (all_kept i (flag name ∷ rest) name (row_at name (codes "true")) rows is)
    flag_shown i name rest rows false is =
        ap (option_and_then (λ (r : Row). slice_get r.values 0))
        (all_kept (next_position i (flag name)) rest name (default_at name (codes "false")) (with_default rows (ruled i (flag name))) (usual_new name (codes "false") rows is))

    option_shown : (i : ℕ) (name : Text) (greatest : ℕ) (usual : Text) (rest : List Argument) (rows : List Row) → is_lawful (option name greatest usual) ≡ true
        → row_of name rows ≡ row_of name (map use_row uses) → IsShown name greatest uses
        → HasNumber (fold with_default rows (rules_from i (option name greatest usual ∷ rest))) name greatest (digits_value 10 (unwrap_or (text_after name uses) usual))
    option_shown i name greatest usual rest rows lawful same (inl (none, is)) =
        subst (λ t. HasNumber (fold with_default rows (rules_from i (option name greatest usual ∷ rest))) name greatest (digits_value 10 (unwrap_or t usual))) (sym is)
        (usual_shown (fold with_default rows (rules_from i (option name greatest usual ∷ rest))) name greatest usual lawful
        (all_kept (next_position i (option name greatest usual)) rest name (default_at name usual) (with_default rows (ruled i (option name greatest usual))) (usual_new name usual rows (same ∙ none))))
    option_shown i name greatest usual rest rows lawful same (inr (text, found, is, numeral, least)) =
        subst (λ t. HasNumber (fold with_default rows (rules_from i (option name greatest usual ∷ rest))) name greatest (digits_value 10 (unwrap_or t usual))) (sym is)
        (number_shown (fold with_default rows (rules_from i (option name greatest usual ∷ rest))) name greatest text
        (all_kept i (option name greatest usual ∷ rest) name (row_at name text) rows (same ∙ found)) numeral least)

    optional_shown : (i : ℕ) (name : Text) (greatest : ℕ) (rest : List Argument) (rows : List Row) → is_named name rest ≡ false
        → row_of name rows ≡ row_of name (map use_row uses) → IsShown name greatest uses
        → MayHaveNumber (fold with_default rows (rules_from i (optional name greatest ∷ rest))) name greatest (option_map (digits_value 10) (text_after name uses))
    optional_shown i name greatest rest rows other same (inl (none, is)) =
        subst (λ o. MayHaveNumber (fold with_default rows (rules_from i (optional name greatest ∷ rest))) name greatest (option_map (digits_value 10) o)) (sym is)
        (ap (option_and_then row_text)
        (all_others (next_position i (optional name greatest)) rest name (with_default rows (ruled i (optional name greatest))) other
        ∙ (ap (row_of name) (no_default (has_row name rows) rows) ∙ (same ∙ none))))
    optional_shown i name greatest rest rows other same (inr (text, found, is, numeral, least)) =
        subst (λ o. MayHaveNumber (fold with_default rows (rules_from i (optional name greatest ∷ rest))) name greatest (option_map (digits_value 10) o)) (sym is)
        (number_shown (fold with_default rows (rules_from i (optional name greatest ∷ rest))) name greatest text
        (all_kept i (optional name greatest ∷ rest) name (row_at name text) rows (same ∙ found)) numeral least)

    plain_has : (i : ℕ) (arguments : List Argument) (asks : Asking arguments) (texts : List Text) (rows : List Row) → AreFound c i arguments → are_lawful arguments ≡ true → AreStill rows arguments
        → HavePositions rows arguments texts → ArePlainArguments arguments asks uses texts request → HasArguments arguments asks (fold with_default rows (rules_from i arguments)) request
    plain_has i [] asks [] rows found lawful still have plain = plain
    plain_has i [] asks (text ∷ texts) rows found lawful still have plain = absurd plain
    plain_has i (flag name ∷ rest) asks texts rows (here, more) lawful (first, still) have plain = (
      is_used name uses,
      flag_shown i name rest rows (is_used name uses) (first ∙ flag_row_is name here.0 uses written),
      plain_has (next_position i (flag name)) rest (asks (is_used name uses)) texts (with_default rows (ruled i (flag name))) more (lawful_rest (flag name) rest lawful)
          (still_after i (flag name) rows rest (fresh_name (flag name) rest lawful) still)
          (positions_kept rows (with_default rows (ruled i (flag name))) (λ n r e. one_kept i (flag name) n r rows e) rest texts have) plain,
    )
    plain_has i (option name greatest usual ∷ rest) asks texts rows (here, more) lawful (first, still) have plain = (
      digits_value 10 (unwrap_or (text_after name uses) usual),
      option_shown i name greatest usual rest rows (both (is_lawful (option name greatest usual)) _ lawful).0 first (option_row_is name greatest (usual ∷ []) here.0 uses written),
      plain_has (next_position i (option name greatest usual)) rest (asks (digits_value 10 (unwrap_or (text_after name uses) usual))) texts (with_default rows (ruled i (option name greatest usual))) more
          (lawful_rest (option name greatest usual) rest lawful) (still_after i (option name greatest usual) rows rest (fresh_name (option name greatest usual) rest lawful) still)
          (positions_kept rows (with_default rows (ruled i (option name greatest usual))) (λ n r e. one_kept i (option name greatest usual) n r rows e) rest texts have) plain,
    )
    plain_has i (optional name greatest ∷ rest) asks texts rows (here, more) lawful (first, still) have plain = (
      option_map (digits_value 10) (text_after name uses),
      optional_shown i name greatest rest rows (fresh_name (optional name greatest) rest lawful) first (option_row_is name greatest [] here.0 uses written),
      plain_has (next_position i (optional name greatest)) rest (asks (option_map (digits_value 10) (text_after name uses))) texts (with_default rows (ruled i (optional name greatest))) more
          (lawful_rest (optional name greatest) rest lawful) (still_after i (optional name greatest) rows rest (fresh_name (optional name greatest) rest lawful) still)
          (positions_kept rows (with_default rows (ruled i (optional name greatest))) (λ n r e. one_kept i (optional name greatest) n r rows e) rest texts have) plain,
    )
    plain_has i (wanted name ∷ rest) asks [] rows found lawful still have plain = absurd plain
    plain_has i (wanted name ∷ rest) asks (text ∷ texts) rows (here, more) lawful still (first, have) (is, plain) = (
      text,
      ap (option_and_then (λ (r : Row). slice_get r.values 0)) (all_kept i (wanted name ∷ rest) name (row_at name text) rows first),
      plain_has (next_position i (wanted name)) rest (asks text) texts (with_default rows (ruled i (wanted name))) more (lawful_rest (wanted name) rest lawful)
          (still_after i (wanted name) rows rest (fresh_name (wanted name) rest lawful) still)
          (positions_kept rows (with_default rows (ruled i (wanted name))) (λ n r e. one_kept i (wanted name) n r rows e) rest texts have) plain,
    )
    plain_has i (number name greatest ∷ rest) asks [] rows found lawful still have plain = absurd plain
    plain_has i (number name greatest ∷ rest) asks (text ∷ texts) rows (here, more) lawful still (first, have) (numeral, least, plain) = (
      digits_value 10 text,
      number_shown (fold with_default rows (rules_from i (number name greatest ∷ rest))) name greatest text (all_kept i (number name greatest ∷ rest) name (row_at name text) rows first) numeral least,
      plain_has (next_position i (number name greatest)) rest (asks (digits_value 10 text)) texts (with_default rows (ruled i (number name greatest))) more (lawful_rest (number name greatest) rest lawful)
          (still_after i (number name greatest) rows rest (fresh_name (number name greatest) rest lawful) still)
          (positions_kept rows (with_default rows (ruled i (number name greatest))) (λ n r e. one_kept i (number name greatest) n r rows e) rest texts have) plain,
    )

-- ---- a command in plain form

-- The errors of a command, by the state in which processing ends.
level_at : (s : Shape) (command_line : List Text) (w : Walk) → walk s.rules [] nothing_held command_line ≡ w → walk_fault s [] (walk_from nothing_held) command_line ≡ []
    → level_fault s [] nothing_held command_line false []
    ≡ or_else (settle_fault s.rules s.args_override_self w.held) (or_else (defaults_fault (settled s.rules w.held).rows s.rules) (check_fault s (finished s.rules w.held) false))
level_at s command_line w ends none =
    ap (λ k. or_else k (after (walk s.rules [] nothing_held command_line))) none ∙ ap after ends
  where
    after : Walk → Kinds
    after w = or_else (settle_fault s.rules s.args_override_self w.held) (or_else (defaults_fault (settled s.rules w.held).rows s.rules) (check_fault s (finished s.rules w.held) false))

module _ (form : Form) (found : form_of form.name ≡ Some form) (uses : List Use) (plain_uses : ArePlainUses form.arguments uses) (texts : List Text) (request : Request)
    (plain : ArePlainArguments form.arguments form.asks uses texts request) where
  abbrev c : List Rule
  c = rules_of form

  abbrev command_line : List Text
  command_line = flat_map arguments_for uses ++ texts

  abbrev rows : List Row
  rows = map use_row uses ++ position_rows form.name c form.arguments texts

  lawful : are_lawful form.arguments ≡ true
  lawful = (form_fits form.name form found).0

  are : AreFound c 1 form.arguments
  are = let short = (form_fits form.name form found).1 in all_found 1 form.arguments lawful (omega (arith, short))

  uses_written : AreWritten form.name c uses
  uses_written = all_written form.name c form.arguments are lawful uses plain_uses

  free : AreFree form.name c (map use_row uses) form.arguments
  free = uses_free form.name c 1 form.arguments are uses uses_written

  comes : Comes form.name c nothing_held 1 command_line (last_position form.name c 1 form.arguments) rows
  comes =
      then_comes form.name c nothing_held 1 1 (last_position form.name c 1 form.arguments) (flat_map arguments_for uses) texts (map use_row uses) rows
      (uses_come form.name c uses uses_written nothing_held 1 [] (refl, refl) (none_fresh form.name c uses))
      (λ h holds. positions_come form.name c 1 form.arguments form.asks uses texts request are lawful plain h (map use_row uses) holds free)

  abbrev known : List Row
  known = fold with_default rows c

  finished_is : finished c comes.0 ≡ known
  finished_is = ap (λ rs. fold with_default rs c) comes.2.1

  positions : HavePositions form.name c rows form.arguments texts
  positions = have_positions form.name c form.arguments form.asks uses texts request lawful plain (map use_row uses) free

  known_has : HasArguments form.arguments form.asks known request
  known_has =
      plain_has form.name c uses uses_written request 1 form.arguments form.asks texts rows are lawful (still_first form.name c uses uses_written request form.arguments are texts 1 form.arguments are) positions plain

  none_missing : list_any (λ a. a.required && not (is_given a.id known)) c ≡ false
  none_missing =
      given_all form.name c 1 form.arguments texts known
      (positions_kept form.name c rows known (λ n r e. all_kept form.name c 1 form.arguments n r rows e) form.arguments texts positions)

  ends_ok : or_else (settle_fault c false comes.0) (or_else (defaults_fault (settled c comes.0).rows c) (check_fault (leaf_of form) (finished c comes.0) false)) ≡ []
  ends_ok =
      ap (λ k. or_else k (or_else (defaults_fault (settled c comes.0).rows c) (check_fault (leaf_of form) (finished c comes.0) false))) comes.2.0
      ∙ (ap (λ k. or_else k (check_fault (leaf_of form) (finished c comes.0) false)) (no_defaults_fault form.name c 1 form.arguments (settled c comes.0).rows lawful)
      ∙ (ap (λ rs. check_fault (leaf_of form) rs false) finished_is ∙ ap (λ b. if b then kind.MissingRequiredArgument ∷ [] else []) none_missing))

  walks : walk c [] nothing_held command_line ≡ standing comes.0 (last_position form.name c 1 form.arguments)
  walks = ap (λ ws. fold (walked c []) (standing nothing_held 1) ws) (sym (append-nil command_line)) ∙ (comes.1 []).0

  passes : walk_fault (leaf_of form) [] (walk_from nothing_held) command_line ≡ []
  passes =
      subst (λ ws. walk_fault (leaf_of form) [] (standing nothing_held 1) ws ≡ []) (append-nil command_line)
      ((comes.1 []).1 (walk_no_arguments (leaf_of form) (standing comes.0 (last_position form.name c 1 form.arguments))))

  level : level_fault (leaf_of form) [] nothing_held command_line false [] ≡ []
  level = level_at (leaf_of form) command_line (standing comes.0 (last_position form.name c 1 form.arguments)) walks passes ∙ ends_ok

  rows_are : rows_after c [] command_line ≡ known
  rows_are = ap (λ (w : Walk). finished c w.held) walks ∙ finished_is

  form_read : AreReadAs (form.name ∷ command_line) request
  form_read =
      reads_by (form.name ∷ command_line) request form.name (rows_after c [] command_line) (named_fault form found command_line ∙ ap (λ k. or_else k []) level, named_met form found command_line)
      (form, found, subst (λ rs. HasArguments form.arguments form.asks rs request) (sym rows_are) known_has)

pub plain_arguments_ask : (command_line : List (List ℕ)) (request : Request) → ArePlain command_line request → Asks command_line request
plain_arguments_ask arguments_given request (form, found, uses, plain_uses, texts, plain, whole, is) =
    subst (λ ws. Asks ws request) (sym is)
    (asks_whole (form.name ∷ flat_map arguments_for uses ++ texts) request (form_read form found uses plain_uses texts request plain) whole)
