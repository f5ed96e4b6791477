-- If finitely many types reach only each other, then a table of the types exists.
use Rattle.std.proofs.Common.{ℕ, suc, ◌≡◌, ◌∙◌, ⊎_elim, inl, inr, List, [], ◌∷◌, Option, Some, None, refl, ap, subst, sym}
use Rattle.std.specs.Prelude.{Contains, map, option_map, slice_get}
use Rattle.std.specs.List.{flat_map}
use Rattle.std.proofs.lemmas.List.{length-map}
use Rattle.std.proofs.lemmas.List.Elements.{Contains-append_left, Contains-append_right}
use Rattle.std.proofs.lemmas.Option.{same_Some}
use Rattle.base_data.proofs.model.Options.{Contains-first, Contains-later, Contains-none, Contains-cases, slice_get-Contains}
use Rattle.types_spec.specs.declared.types.decl.Decl.{Decl}
use Rattle.types_spec.specs.declared.types.shape.Constr.{Constr}
use Rattle.types_spec.specs.declared.types.shape.PolyTag.{PolyTag}
use Rattle.types_spec.specs.declared.types.shape.ShapeOf.{ShapeOf}
use Rattle.types_spec.specs.declared.types.shape.ShapeOf.TheVariants as shapes
use Rattle.types_spec.specs.types.Ty.{Ty}
use Rattle.types_spec.specs.types.Head.{head}
use Rattle.types_spec.specs.types.Shape.{shape}
use Rattle.types_spec.specs.types.Equal.{Equal, Holds}
use Rattle.types_spec.specs.types.Reached.{listed_if, named_in, reached_from}
use Rattle.types_spec.specs.types.Table.{constr_with, tag_with_parts, with_parts, Table, IsTableOf}
use Rattle.types_theory.proofs.equality.EqualLemmas.{equal_itself, equal_turned, equal_joined}
use Rattle.types_theory.proofs.equality.EqualityReachedLemmas.{parts_here, named_here}
use Rattle.types_theory.proofs.equality.EqualityTableLemmas.{slice_get-mapped}
use Rattle.types_theory.proofs.equality.TyEquality.{types_same_or_not}
use Rattle.types_theory.proofs.type_variables.EqualDecided.{OrNot, holds_or_not, AreEqualPairs, equal_pairs}

-- ---- a list mapped twice, given the result for each item

module _ {T U V : Type 0} (f : U → V) (g : T → U) (h : T → V) where
  abbrev Come : List T → Type 0
  Come ts = (t : T) → Contains ts t → f (g t) ≡ h t

  mapped_twice : (ts : List T) → Come ts → map f (map g ts) ≡ map h ts
  mapped_twice [] come = refl
  mapped_twice (t ∷ ts) come =
      ap (λ v. v ∷ map f (map g ts)) (come t (Contains-first t ts))
      ∙ ap (λ vs. h t ∷ vs) (mapped_twice ts (λ u among. come u (Contains-later t ts u among)))

  constrs_twice : (blocks : List (Constr T)) → Come (flat_map (λ (c : Constr T). c.fields) blocks)
      → map (constr_with f) (map (constr_with g) blocks) ≡ map (constr_with h) blocks
  constrs_twice [] come = refl
  constrs_twice (c ∷ blocks) come =
      ap (λ fs. record { mutable = c.mutable; fields = fs } ∷ map (constr_with f) (map (constr_with g) blocks))
      (mapped_twice c.fields (λ t among.
      come t (Contains-append_left c.fields (flat_map (λ (d : Constr T). d.fields) blocks) t among)))
      ∙ ap (λ ds. constr_with h c ∷ ds) (constrs_twice blocks (λ t among.
      come t (Contains-append_right c.fields (flat_map (λ (d : Constr T). d.fields) blocks) t among)))

  argument_twice : (argument : Option T) → Come (listed_if argument) → option_map f (option_map g argument) ≡ option_map h argument
  argument_twice None come = refl
  argument_twice (Some t) come = ap Some (come t (Contains-first t []))

  tags_twice : (tags : List (PolyTag T)) → Come (flat_map (λ (tag : PolyTag T). listed_if tag.arg) tags)
      → map (tag_with_parts f) (map (tag_with_parts g) tags) ≡ map (tag_with_parts h) tags
  tags_twice [] come = refl
  tags_twice (p ∷ tags) come =
      ap (λ a. record { hash = p.hash; arg = a } ∷ map (tag_with_parts f) (map (tag_with_parts g) tags))
      (argument_twice p.arg (λ t among.
      come t (Contains-append_left (listed_if p.arg) (flat_map (λ (q : PolyTag T). listed_if q.arg) tags) t among)))
      ∙ ap (λ qs. tag_with_parts h p ∷ qs) (tags_twice tags (λ t among.
      come t (Contains-append_right (listed_if p.arg) (flat_map (λ (q : PolyTag T). listed_if q.arg) tags) t among)))

  parts_twice : (s : ShapeOf T) → Come (named_in s) → with_parts f (with_parts g s) ≡ with_parts h s
  parts_twice (shapes.Sum constants blocks) come = ap (λ cs. shapes.Sum constants cs) (constrs_twice blocks come)
  parts_twice (shapes.Product mutable ts) come = ap (λ vs. shapes.Product mutable vs) (mapped_twice ts come)
  parts_twice (shapes.ArrayOf t) come = ap (λ v. shapes.ArrayOf v) (come t (Contains-first t []))
  parts_twice (shapes.Poly tags) come = ap (λ qs. shapes.Poly qs) (tags_twice tags come)
  parts_twice shapes.AnyInt come = refl
  parts_twice (shapes.Below k) come = refl
  parts_twice (shapes.Bytes mutable) come = refl
  parts_twice shapes.Double come = refl
  parts_twice shapes.Int32 come = refl
  parts_twice shapes.Int64 come = refl
  parts_twice shapes.Native come = refl
  parts_twice (shapes.FlatFloats mutable n) come = refl
  parts_twice shapes.FloatArray come = refl
  parts_twice shapes.Variable come = refl
  parts_twice shapes.ArrayOfVariable come = refl
  parts_twice shapes.Anything come = refl
  parts_twice (shapes.ArrayOfAnything t) come = ap (λ v. shapes.ArrayOfAnything v) (come t (Contains-first t []))

-- ---- the first index of an element with a property

next_if : {A : Type 0} → OrNot A → ℕ → ℕ
next_if (inl here) n = 0
next_if (inr later) n = suc n

-- If two tests agree and the two later positions are equal, then the two positions are equal.
same_next : {A B : Type 0} (one : OrNot A) (two : OrNot B) (m n : ℕ) → (A → B) → (B → A) → m ≡ n → next_if one m ≡ next_if two n
unfolding next_if
same_next (inl here) (inl there) m n forth back same = refl
same_next (inr never) (inr never') m n forth back same = ap (λ k. suc k) same
same_next (inl here) (inr never) m n forth back same = absurd (never (forth here))
same_next (inr never) (inl there) m n forth back same = absurd (never (back there))

module _ {X : Type 0} where
  first_position : (Q : X → Type 0) → ((x : X) → OrNot (Q x)) → List X → ℕ
  first_position Q test [] = 0
  first_position Q test (x ∷ xs) = next_if (test x) (first_position Q test xs)

  -- The element at index `n` of the list has the property `Q`.
  abbrev IsAt : (X → Type 0) → List X → ℕ → Type 0
  IsAt Q xs n = (x : X) × (slice_get xs n ≡ Some x) × Q x

  at_next : (Q : X → Type 0) (y : X) (xs : List X) (n : ℕ) (found : OrNot (Q y)) → ((Q y → ⊥) → IsAt Q xs n)
      → IsAt Q (y ∷ xs) (next_if found n)
  unfolding next_if
  at_next Q y xs n (inl here) later = (y, refl, here)
  at_next Q y xs n (inr never) later = later never

  placed : (Q : X → Type 0) (test : (x : X) → OrNot (Q x)) (xs : List X) (x : X) → Contains xs x → Q x
      → IsAt Q xs (first_position Q test xs)
  unfolding first_position
  placed Q test [] x among holds = absurd (Contains-none x among)
  placed Q test (y ∷ xs) x among holds = at_next Q y xs (first_position Q test xs) (test y) (λ never. ⊎_elim
      (λ here. absurd (never (subst Q (sym here) holds)))
      (λ later. placed Q test xs x later holds)
      (Contains-cases y xs x among))

  -- If the same elements of a list have two properties, then the first indices for the two
  -- properties are equal.
  same_position : (Q R : X → Type 0) (test : (x : X) → OrNot (Q x)) (other : (x : X) → OrNot (R x)) (xs : List X)
      → ((x : X) → Contains xs x → Q x → R x) → ((x : X) → Contains xs x → R x → Q x)
      → first_position Q test xs ≡ first_position R other xs
  unfolding first_position
  same_position Q R test other [] forth back = refl
  same_position Q R test other (x ∷ xs) forth back =
      same_next (test x) (other x) (first_position Q test xs) (first_position R other xs)
      (forth x (Contains-first x xs)) (back x (Contains-first x xs))
      (same_position Q R test other xs (λ y among. forth y (Contains-later x xs y among))
      (λ y among. back y (Contains-later x xs y among)))

-- ---- the table

module _ (decls : List Decl) (types : List Ty)
    (listed : (u a : Ty) → Contains types u → Contains (reached_from decls u) a → Contains types a) where
  -- Numbers of types.

  position : Ty → ℕ
  position t = first_position (λ u. u ≡ t) (λ u. types_same_or_not u t) types

  position_is : (t : Ty) → Contains types t → slice_get types (position t) ≡ Some t
  unfolding position
  position_is t among =
      let at = placed (λ u. u ≡ t) (λ u. types_same_or_not u t) types t among refl in
      at.1 ∙ ap Some at.2

  node_of : Ty → ShapeOf ℕ
  node_of t = with_parts position (shape decls t)

  node_is : (t : Ty) → Contains types t → with_parts (slice_get types) (node_of t) ≡ with_parts Some (shape decls t)
  unfolding node_of
  node_is t among = parts_twice (slice_get types) position Some (shape decls t)
      (λ a has. position_is a (named_here decls types listed t a among has))

  -- Classes of types.

  equals : AreEqualPairs decls types (parts_here decls types listed)
  equals = equal_pairs decls types (parts_here decls types listed)

  abbrev Same : Ty → Ty → Type 0
  Same t u = Holds equals.pairs t u

  same_equal : (t u : Ty) → Same t u → Equal decls t u
  same_equal t u held = record { pairs = equals.pairs; holds = held; closed = equals.closed }

  class_of : Ty → ℕ
  class_of t = first_position (λ w. Same w t) (λ w. holds_or_not equals.pairs w t) types

  class_is : (t : Ty) → Contains types t → IsAt (λ w. Same w t) types (class_of t)
  unfolding class_of
  class_is t among = placed (λ w. Same w t) (λ w. holds_or_not equals.pairs w t) types t among
      (equals.keeps t t among among (equal_itself (head decls) types (parts_here decls types listed) t among))

  one_class : (t u : Ty) → Contains types t → Contains types u → class_of t ≡ class_of u → Equal decls t u
  one_class t u among among' same =
      let one = class_is t among in
      let other = class_is u among' in
      let middle = same_Some one.0 other.0 (sym one.1 ∙ ap (slice_get types) same ∙ other.1) in
      equal_joined (head decls) types_same_or_not t one.0 u
      (equal_turned (head decls) one.0 t (same_equal one.0 t one.2))
      (same_equal one.0 u (subst (λ w. Same w u) (sym middle) other.2))

  class_same : (t u : Ty) → Contains types t → Contains types u → Equal decls t u → class_of t ≡ class_of u
  unfolding class_of
  class_same t u among among' equal =
      same_position (λ w. Same w t) (λ w. Same w u) (λ w. holds_or_not equals.pairs w t) (λ w. holds_or_not equals.pairs w u) types
      (λ w has held. equals.keeps w u has among'
      (equal_joined (head decls) types_same_or_not w t u (same_equal w t held) equal))
      (λ w has held. equals.keeps w t has among
      (equal_joined (head decls) types_same_or_not w u t (same_equal w u held) (equal_turned (head decls) t u equal)))

  table : Table
  table = record { nodes = map node_of types; classes = map class_of types }

  class_at : (i : ℕ) (t : Ty) → slice_get types i ≡ Some t → slice_get (map class_of types) i ≡ Some (class_of t)
  class_at i t is = slice_get-mapped class_of types i ∙ ap (option_map class_of) is

  pub table_there : (table : Table) × IsTableOf decls types table
  unfolding table
  table_there = (
    table,
    is_table,
  ) where
    is_table : IsTableOf decls types table
    is_table = record {
      many = length-map types class_of;
      nodes = mapped_twice (with_parts (slice_get types)) node_of (λ t. with_parts Some (shape decls t)) types node_is;
      same_class = λ i j t u at at' same.
          one_class t u (slice_get-Contains types i t at) (slice_get-Contains types j u at')
          (same_Some (class_of t) (class_of u) (sym (class_at i t at) ∙ same ∙ class_at j u at'));
      equal_types = λ i j t u at at' equal.
          class_at i t at
          ∙ ap Some (class_same t u (slice_get-Contains types i t at) (slice_get-Contains types j u at') equal)
          ∙ sym (class_at j u at');
    }
