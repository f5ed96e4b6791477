-- The list of the types that a type reaches is closed: the list contains the types that its members
-- reach, and the types at which its members require fields.
use Rattle.std.proofs.Common.{ℕ, zero, suc, ◌≡◌, ◌⊎◌, ⊎_elim, inl, inr, List, [], ◌∷◌, ◌++◌, Bool}
use Rattle.std.proofs.Common.{true}
use Rattle.std.proofs.Common.{false, Option, Some, None, refl, subst, sym}
use Rattle.std.specs.Prelude.{Contains, slice_get, replicate, option_and_then, if◌then◌else◌}
use Rattle.std.specs.List.{flat_map}
use Rattle.std.proofs.lemmas.List.Elements.{Contains-append_left, Contains-append_right}
use Rattle.std.proofs.lemmas.List.Elements.{Contains-append_cases}
use Rattle.base_data.specs.declared.model.value.Val.{Val}
use Rattle.base_data.specs.declared.model.value.Val.TheVariants as vals
use Rattle.base_data.specs.declared.model.value.Obj.{Obj}
use Rattle.base_data.specs.declared.model.value.Obj.TheVariants as objects
use Rattle.types_spec.specs.declared.types.decl.Decl.{Decl}
use Rattle.types_spec.specs.declared.types.shape.Constr.{Constr}
use Rattle.types_spec.specs.declared.types.shape.PolyTag.{PolyTag}
use Rattle.types_spec.specs.declared.types.shape.ShapeOf.{ShapeOf}
use Rattle.types_spec.specs.declared.types.shape.ShapeOf.TheVariants as shapes
use Rattle.types_spec.specs.types.Ty.{Ty}
use Rattle.types_spec.specs.types.Head.{head}
use Rattle.types_spec.specs.types.Shape.{shape}
use Rattle.types_spec.specs.types.Fitting.{tag_with, numbered_from, fields_if, none_if, constr_fields}
use Rattle.types_spec.specs.types.Fitting.{or_none}
use Rattle.types_spec.specs.types.Fitting.{argument_field, tag_fields, block_fields, object_fields}
use Rattle.types_spec.specs.types.Fitting.{fields_of}
use Rattle.types_spec.specs.types.Fitting.{fits_int, fits_atom, is_double, is_bytes, has_doubles, is_int32}
use Rattle.types_spec.specs.types.Fitting.{is_int64, is_native}
use Rattle.types_spec.specs.types.Reached.{listed_if, named_in, parts_of, reached_from, IsWithoutRepeats}
use Rattle.types_spec.specs.types.Reached.{IsReached}
use Rattle.base_data.proofs.model.Options.{Contains-first, Contains-later, Contains-none, Contains-cases, Contains-flat_map, slice_get-Contains}
use Rattle.types_theory.proofs.equality.HeadShapes.{found_is}

-- ---- the list

-- Removing repetitions from a list loses no element.
pub without_repeats_has :
    (all seen others : List Ty) (x : Ty) → IsWithoutRepeats seen all others → Contains all x
    → Contains seen x ⊎ Contains others x
without_repeats_has [] seen others x without among = absurd (Contains-none x among)
without_repeats_has (t ∷ ts) seen others x (inl again) among = ⊎_elim
    (λ here. inl (subst (λ y. Contains seen y) here again.0))
    (λ later. without_repeats_has ts seen others x again.1 later)
    (Contains-cases t ts x among)
without_repeats_has (t ∷ ts) seen others x (inr new) among =
    subst (λ all. Contains seen x ⊎ Contains all x) (sym new.2) (⊎_elim
    (λ here. inr (subst (λ y. Contains (t ∷ new.1) y) here (Contains-first t new.1)))
    (λ later. ⊎_elim
    (λ seen'. ⊎_elim (λ old. inl old) (λ one. inr (only one)) (Contains-append_cases seen (t ∷ []) x
    seen'))
    (λ rest. inr (Contains-later t new.1 x rest))
    (without_repeats_has ts (seen ++ t ∷ []) new.1 x new.3 later))
    (Contains-cases t ts x among)) where
      only : Contains (t ∷ []) x → Contains (t ∷ new.1) x
      only one = ⊎_elim (λ here. subst (λ y. Contains (t ∷ new.1) y) here (Contains-first t new.1))
          (λ never. absurd (Contains-none x never)) (Contains-cases t [] x one)

not_seen : {X : Type 0} (x : X) (A : Type 0) → Contains [] x ⊎ A → A
not_seen x A (inl never) = absurd (Contains-none x never)
not_seen x A (inr a) = a

-- If the types of a list reach only types of the list, then the list contains their parts and the
-- types in their representations.
module _ (decls : List Decl) (types : List Ty)
    (listed : (u a : Ty) → Contains types u → Contains (reached_from decls u) a → Contains types a)
  where
    pub parts_here :
        (u a : Ty) → Contains types u → Contains (parts_of (head decls u)) a → Contains types a
    parts_here u a among has =
        listed u a among (Contains-append_right (named_in (shape decls u)) (parts_of (head decls u)) a has)

    pub named_here :
        (u a : Ty) → Contains types u → Contains (named_in (shape decls u)) a → Contains types a
    named_here u a among has =
        listed u a among (Contains-append_left (named_in (shape decls u)) (parts_of (head decls u)) a has)

module _ (decls : List Decl) (t : Ty) (types : List Ty) (reached : IsReached decls t types) where
  listed : (x : Ty) → Contains (t ∷ flat_map (reached_from decls) types) x → Contains types x
  listed x among =
      not_seen x (Contains types x) (without_repeats_has (t ∷ flat_map (reached_from decls) types)
      [] types x reached.in_order among)

  -- The list of the types that `t` reaches contains `t`.
  pub root_listed : Contains types t
  root_listed = listed t (Contains-first t (flat_map (reached_from decls) types))

  -- The list of the types that `t` reaches contains the types that its members reach.
  pub reached_listed :
      (u a : Ty) → Contains types u → Contains (reached_from decls u) a → Contains types a
  reached_listed u a among has =
      listed a (Contains-later t (flat_map (reached_from decls) types) a
      (Contains-flat_map (reached_from decls) types u a among has))

  pub parts_listed :
      (u a : Ty) → Contains types u → Contains (parts_of (head decls u)) a → Contains types a
  parts_listed u a among has = parts_here decls types reached_listed u a among has

  pub named_listed :
      (u a : Ty) → Contains types u → Contains (named_in (shape decls u)) a → Contains types a
  named_listed u a among has = named_here decls types reached_listed u a among has

-- ---- required types are named

module _ {T : Type 0} where
  -- The types of the fields in `needs` are in the list `types`.
  abbrev Names : List T → Option (List (ℕ × T)) → Type 0
  Names types needs = (i : ℕ) (a : T) → Contains (or_none needs) (i, a) → Contains types a

  numbered_named :
      (k : ℕ) (ts : List T) (i : ℕ) (a : T) → Contains (numbered_from k ts) (i, a) → Contains ts a
  numbered_named k [] i a among = absurd (Contains-none (i, a) among)
  numbered_named k (t ∷ ts) i a among = ⊎_elim
      (λ here. subst (λ (need : ℕ × T). Contains (t ∷ ts) need.1) here (Contains-first t ts))
      (λ later. Contains-later t ts a (numbered_named (suc k) ts i a later))
      (Contains-cases (k, t) (numbered_from (suc k) ts) (i, a) among)

  if_named : (test : Bool) (ts : List T) → Names ts (fields_if test ts)
  if_named true ts i a among = numbered_named 0 ts i a among
  if_named false ts i a among = absurd (Contains-none (i, a) among)

  none_named : (test : Bool) (ts : List T) → Names ts (none_if test)
  none_named true ts i a among = absurd (Contains-none (i, a) among)
  none_named false ts i a among = absurd (Contains-none (i, a) among)

  repeated_is : (n : ℕ) (t a : T) → Contains (replicate n t) a → Contains (t ∷ []) a
  repeated_is zero t a among = absurd (Contains-none a among)
  repeated_is (suc n) t a among = ⊎_elim
      (λ here. subst (λ x. Contains (t ∷ []) x) here (Contains-first t []))
      (λ later. repeated_is n t a later)
      (Contains-cases t (replicate n t) a among)

  constr_named : (blocks : List (Constr T)) (size : ℕ) (found : Option (Constr T))
      → ((c : Constr T) → found ≡ Some c → Contains blocks c)
      → Names (flat_map (λ (c : Constr T). c.fields) blocks) (constr_fields size found)
  constr_named blocks size None there i a among = absurd (Contains-none (i, a) among)
  constr_named blocks size (Some c) there i a among =
      Contains-flat_map (λ (d : Constr T). d.fields) blocks c a (there c refl)
      (if_named _ c.fields i a among)

  argument_named : (arg : Option T) → Names (listed_if arg) (argument_field arg)
  argument_named None i a among = absurd (Contains-none (i, a) among)
  argument_named (Some t) i a among = ⊎_elim
      (λ here. subst (λ (need : ℕ × T). Contains (t ∷ []) need.1) here (Contains-first t []))
      (λ never. absurd (Contains-none (i, a) never))
      (Contains-cases (1, t) [] (i, a) among)

  abbrev its_arguments : List (PolyTag T) → List T
  its_arguments tags = flat_map (λ (tag : PolyTag T). listed_if tag.arg) tags

  found_named : (tags : List (PolyTag T)) (found : Option (PolyTag T))
      → ((tag : PolyTag T) → found ≡ Some tag → Contains tags tag) → Names (its_arguments tags)
      (option_and_then (λ (tag : PolyTag T). argument_field tag.arg) found)
  found_named tags None there i a among = absurd (Contains-none (i, a) among)
  found_named tags (Some tag) there i a among =
      Contains-flat_map (λ (t : PolyTag T). listed_if t.arg) tags tag a (there tag refl)
      (argument_named tag.arg i a among)

  tags_named : (tags : List (PolyTag T)) (values : List Val) → Names (its_arguments tags)
      (tag_fields tags values)
  tags_named tags (vals.Int z ∷ argument ∷ []) i a among =
      found_named tags (tag_with tags z) (λ tag found. (found_is tags z tag found).0) i a among
  tags_named tags values i a among = absurd (Contains-none (i, a) among)

  when_named : (test : Bool) (ts : List T) (needs : Option (List (ℕ × T))) → Names ts needs
      → Names ts (if test then needs else None)
  when_named true ts needs named i a among = named i a among
  when_named false ts needs named i a among = absurd (Contains-none (i, a) among)

  block_named : (s : ShapeOf T) (tag : ℕ) (values : List Val)
      → Names (named_in s) (block_fields s tag values)
  block_named (shapes.Sum k blocks) tag values i a among =
      constr_named blocks _ (slice_get blocks tag) (λ c found. slice_get-Contains blocks tag c
      found) i a among
  block_named (shapes.Product mutable ts) tag values i a among = if_named _ ts i a among
  block_named (shapes.ArrayOf t) tag values i a among =
      repeated_is _ t a (if_named _ (replicate _ t) i a among)
  block_named (shapes.ArrayOfAnything t) tag values i a among =
      repeated_is _ t a (if_named _ (replicate _ t) i a among)
  block_named (shapes.Poly tags) tag values i a among =
      when_named _ (its_arguments tags) (tag_fields tags values) (tags_named tags values) i a among
  block_named s tag values i a among = absurd (Contains-none (i, a) among)

  object_named : (s : ShapeOf T) (object : Obj) → Names (named_in s) (object_fields s object)
  object_named s (objects.Block tag values) i a among = block_named s tag values i a among
  object_named s (objects.Bytes bytes) i a among = none_named (is_bytes s) (named_in s) i a among
  object_named s (objects.Double bits) i a among = none_named (is_double s) (named_in s) i a among
  object_named s (objects.Doubles all) i a among =
      none_named (has_doubles s _) (named_in s) i a among
  object_named s (objects.I32 z) i a among = none_named (is_int32 s) (named_in s) i a among
  object_named s (objects.I64 z) i a among = none_named (is_int64 s) (named_in s) i a among
  object_named s (objects.Native z) i a among = none_named (is_native s) (named_in s) i a among

  at_object : (s : ShapeOf T) (object : Option Obj)
      → Names (named_in s) (option_and_then (object_fields s) object)
  at_object s None i a among = absurd (Contains-none (i, a) among)
  at_object s (Some object) i a among = object_named s object i a among

  -- The types of a value's typed fields occur in the shape.
  pub needs_named :
      (s : ShapeOf T) (graph : List Obj) (v : Val) → Names (named_in s) (fields_of graph v s)
  needs_named s graph (vals.Int z) i a among = none_named (fits_int s z) (named_in s) i a among
  needs_named s graph (vals.Atom tag) i a among =
      none_named (fits_atom s tag) (named_in s) i a among
  needs_named s graph (vals.Ref o) i a among = at_object s (slice_get graph o) i a among
