-- The required fields of a value are those whose types restrict their values.
use Rattle.std.proofs.Common.{ℕ, ◌≡◌, ◌∙◌, ◌≤◌, ◌==◌, List, [], ◌∷◌, length, Bool, true, false, cond}
use Rattle.std.proofs.Common.{Option, Some, None, refl, sym, ap, subst, arith, ◌⊎◌, ⊎_elim, inl, inr}
use Rattle.std.specs.Prelude.{Contains, IsTrue, find, option_map, option_and_then, if◌then◌else◌}
use Rattle.std.specs.Prelude.{slice_get, IsSome, pos}
use Rattle.std.proofs.lemmas.Bool.{false≢true}
use Rattle.std.proofs.lemmas.Bool.Decides.{Decides-eqb}
use Rattle.base_data.proofs.model.Options.{Contains-first, Contains-later}
use Rattle.base_data.specs.declared.model.value.Val.{Val}
use Rattle.base_data.specs.declared.model.value.Val.TheVariants as vals
use Rattle.base_data.specs.declared.model.value.Obj.{Obj}
use Rattle.base_data.specs.declared.model.value.Obj.TheVariants as objects
use Rattle.base_data.proofs.model.Lists.{Contains-filter}
use Rattle.types_spec.specs.declared.types.shape.ShapeOf.{ShapeOf}
use Rattle.types_spec.specs.declared.types.shape.ShapeOf.TheVariants as shapes
use Rattle.types_spec.specs.types.Fault.{type_of_field}
use Rattle.types_spec.specs.types.Fitting.{fields_of, is_asked, asked_of, shaped}
use Rattle.types_spec.specs.types.LawfulShapes.{AreLawful}
use Rattle.types_spec.specs.types.Table.{Table, node_or_none, table_shapes, typed_fields, is_asked_in}
use Rattle.types_spec.proofs.types.TypeFaultLemmas.{named_is_needed}
use Rattle.types_spec.proofs.types.TypeListLemmas.{filtered-Contains}

-- No index has two types in the list of fields.
abbrev pub AreOnce : {T : Type 0} → List (ℕ × T) → Type 0
AreOnce {T} fields =
    (i : ℕ) (a b : T) → Contains fields (i, a) → Contains fields (i, b) → a ≡ b

module _ {T : Type 0} (shape : T → ShapeOf T) where
  abbrev Asked : T → Type 0
  Asked t = IsTrue (is_asked (shape t))

  pub asked_is : (fields : List (ℕ × T)) (i : ℕ) (a : T)
      → Contains (asked_of shape fields) (i, a) → Contains fields (i, a) × Asked a
  asked_is fields i a among =
      filtered-Contains (λ (field : ℕ × T). is_asked (shape field.1)) fields (i, a) among

  pub is_needed : (fields : List (ℕ × T)) (i : ℕ) (a : T)
      → Contains fields (i, a) → Asked a → Contains (asked_of shape fields) (i, a)
  is_needed fields i a among asked =
      Contains-filter (λ (field : ℕ × T). is_asked (shape field.1)) fields (i, a) among asked

  -- The required fields of a list are at most as many as all fields of the list.
  pub few_asked : (fields : List (ℕ × T)) → length (asked_of shape fields) ≤ length fields
  few_asked [] = omega arith
  few_asked (field ∷ fields) = by (is_asked (shape field.1)) (few_asked fields) where
    by : (test : Bool) → length (asked_of shape fields) ≤ length fields
        → length (cond test (field ∷ asked_of shape fields) (asked_of shape fields))
        ≤ length (field ∷ fields)
    by true rest = omega (arith, rest)
    by false rest = omega (arith, rest)

  -- The type `a`, or `None` if `a` does not restrict its values.
  abbrev pub if_asked : T → Option T
  if_asked a = if is_asked (shape a) then Some a else None

  -- If no index has two types, then the required type at an index is the field's type, provided
  -- that the field's type restricts its values.
  pub asked_type : (fields : List (ℕ × T)) (i : ℕ) → AreOnce fields
      → type_of_field (asked_of shape fields) i
      ≡ option_and_then if_asked (type_of_field fields i)
  asked_type [] i once = refl
  asked_type ((k, t) ∷ fields) i once =
      at (k == i) (is_asked (shape t)) refl refl (asked_type fields i (λ j a b first second. once j a b
      (Contains-later (k, t) fields (j, a) first)
      (Contains-later (k, t) fields (j, b) second))) where
        -- If two fields have the same index, then they have the same type.
        same_after : (found : Option T) → ((a : T) → found ≡ Some a → t ≡ a)
            → is_asked (shape t) ≡ false → option_and_then if_asked found ≡ None
        same_after None same is = refl
        same_after (Some a) same is =
            ap (λ b. if is_asked (shape b) then Some a else None) (sym (same a refl))
            ∙ ap (λ b. if b then Some a else None) is

        later : k ≡ i → (a : T) → type_of_field fields i ≡ Some a → t ≡ a
        later here a named = once i t a
            (subst (λ n. Contains ((k, t) ∷ fields) (n, t)) here (Contains-first (k, t) fields))
            (Contains-later (k, t) fields (i, a) (named_is_needed fields i a named))

        at : (number asked : Bool) → (k == i) ≡ number → is_asked (shape t) ≡ asked
            → type_of_field (asked_of shape fields) i
            ≡ option_and_then if_asked (type_of_field fields i) → type_of_field (cond asked ((k, t) ∷ asked_of shape fields) (asked_of shape fields)) i
            ≡ option_and_then if_asked
            (option_map (λ (need : ℕ × T). need.1)
            (cond number (Some (k, t)) (find (λ need. need.0 == i) fields)))
        at true true here is rest =
            ap (λ b. option_map (λ (need : ℕ × T). need.1) (cond b (Some (k, t))
            (find (λ need. need.0 == i) (asked_of shape fields)))) here
            ∙ sym (ap (λ b. if b then Some t else None) is)
        at false true here is rest =
            ap (λ b. option_map (λ (need : ℕ × T). need.1) (cond b (Some (k, t))
            (find (λ need. need.0 == i) (asked_of shape fields)))) here
            ∙ rest
        at true false here is rest =
            rest ∙ same_after (type_of_field fields i) (later ((Decides-eqb k i).0 here)) is
            ∙ sym (ap (λ b. if b then Some t else None) is)
        at false false here is rest = rest

-- ---- equal types

no_fields : (T : Type 0) → IsSome {T = List (ℕ × T)} None → ⊥
no_fields T some = false≢true some

module _ {T : Type 0} where
  -- If a representation restricts its values, then a double or an integer does not match the
  -- representation.
  misses : (s : ShapeOf T) → IsTrue (is_asked s)
      → (¬ IsSome (fields_of (objects.Double 0 ∷ []) (vals.Ref 0) s))
      ⊎ (¬ IsSome (fields_of [] (vals.Int (pos 0)) s))
  misses shapes.Double asked = inr (no_fields T)
  misses shapes.Anything asked = absurd (false≢true asked)
  misses s asked = inl (no_fields T)

  -- If a representation restricts nothing, then a double and an integer match the representation.
  double_fits : (s : ShapeOf T) → is_asked s ≡ false
      → IsSome (fields_of (objects.Double 0 ∷ []) (vals.Ref 0) s)
  double_fits shapes.Anything wildcard = refl
  double_fits s wildcard = absurd (false≢true (sym wildcard))

  integer_fits : (s : ShapeOf T) → is_asked s ≡ false
      → IsSome (fields_of [] (vals.Int (pos 0)) s)
  integer_fits shapes.Anything wildcard = refl
  integer_fits s wildcard = absurd (false≢true (sym wildcard))

  -- If representations are lawful and one of two equal types restricts its values, then the other
  -- type restricts its values.
  pub equal_asked : (shape : T → ShapeOf T) (Equal : T → T → Type 0) (InQuestion : T → Type 0)
      → AreLawful (shaped shape Equal) InQuestion → (t u : T) → InQuestion t ⊎ InQuestion u
      → Equal t u → IsTrue (is_asked (shape t)) → IsTrue (is_asked (shape u))
  equal_asked shape Equal InQuestion lawful t u known equal asked =
      by (is_asked (shape u)) refl where
        turned : InQuestion u ⊎ InQuestion t
        turned = ⊎_elim (λ first. inr first) (λ second. inl second) known

        back : Equal u t
        back = lawful.symmetric t u equal

        by : (test : Bool) → is_asked (shape u) ≡ test → IsTrue (is_asked (shape u))
        by true is = is
        by false is = absurd (⊎_elim
            (λ unfit. unfit (lawful.fits (objects.Double 0 ∷ []) (vals.Ref 0) u t turned back
            (double_fits (shape u) is)))
            (λ unfit. unfit (lawful.fits [] (vals.Int (pos 0)) u t turned back
            (integer_fits (shape u) is)))
            (misses (shape t) asked))

-- ---- by the numbers of a table

module _ (table : Table) (graph : List Obj) (v : Val) (t : ℕ) where
  abbrev node : ℕ → ShapeOf ℕ
  node i = node_or_none (slice_get table.nodes i)

  pub need_typed : (i a : ℕ) → Contains ((table_shapes table).needs graph v t) (i, a)
      → Contains (typed_fields table graph v t) (i, a) × IsTrue (is_asked_in table a)
  need_typed i a among = asked_is node (typed_fields table graph v t) i a among

  pub typed_needed : (i a : ℕ) → Contains (typed_fields table graph v t) (i, a)
      → IsTrue (is_asked_in table a) → Contains ((table_shapes table).needs graph v t) (i, a)
  typed_needed i a among asked = is_needed node (typed_fields table graph v t) i a among asked
