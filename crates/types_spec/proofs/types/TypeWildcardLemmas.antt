-- Each value has a type that restricts nothing.
use Rattle.std.proofs.Common.{ℕ, ◌≡◌, ◌∙◌, ⊎_elim, List, [], ◌∷◌, true, false, Some, refl, sym, ap, subst}
use Rattle.std.specs.Prelude.{Contains, IsSome, IsSomeAnd, slice_get, option_and_then}
use Rattle.std.proofs.lemmas.Bool.{false≢true}
use Rattle.base_data.proofs.model.Options.{Contains-none, Contains-cases}
use Rattle.base_data.specs.declared.model.value.Val.TheVariants as vals
use Rattle.base_data.specs.declared.model.value.Obj.{Obj}
use Rattle.base_data.specs.declared.model.value.Obj.TheVariants as objects
use Rattle.types_spec.specs.declared.types.shape.ShapeOf.{ShapeOf}
use Rattle.types_spec.specs.declared.types.shape.ShapeOf.TheVariants as shapes
use Rattle.types_spec.specs.types.Fitting.{object_fields, fields_of, or_none, is_asked, asked_of, shaped}
use Rattle.types_spec.specs.types.Typing.{field_at, IsHeld, IsTyping}

pub wildcard_is : {T : Type 0} (s : ShapeOf T) → is_asked s ≡ false → s ≡ shapes.Anything
wildcard_is shapes.Anything wildcard = refl
wildcard_is s wildcard = absurd (false≢true (sym wildcard))

any_object : {T : Type 0} (object : Obj) → object_fields {T = T} shapes.Anything object ≡ Some []
any_object (objects.Block tag values) = refl
any_object (objects.Bytes bytes) = refl
any_object (objects.Double bits) = refl
any_object (objects.Doubles all) = refl
any_object (objects.I32 z) = refl
any_object (objects.I64 z) = refl
any_object (objects.Native z) = refl

-- If a predicate holds for the only pair of a list, then it holds for each pair.
at_pair : {T : Type 0} (o : ℕ) (u : T) (P : ℕ → T → Type 0) → P o u → (p : ℕ) (t : T)
    → Contains {X = ℕ × T} ((o, u) ∷ []) (p, t) → P p t
at_pair {T} o u P here p t among = ⊎_elim
    (λ is. subst (λ (pair : ℕ × T). P pair.0 pair.1) is here)
    (λ later. absurd (Contains-none {X = ℕ × T} (p, t) later))
    (Contains-cases {X = ℕ × T} (o, u) [] (p, t) among)

module _ {T : Type 0} (shape : T → ShapeOf T) (Equal : T → T → Type 0) (graph : List Obj) (u : T)
    (wildcard : is_asked (shape u) ≡ false) (same : Equal u u) where
  pub int_fits : (z : _) → IsSome (fields_of graph (vals.Int z) (shape u))
  int_fits z = subst (λ s. IsSome (fields_of graph (vals.Int z) s)) (sym (wildcard_is (shape u) wildcard)) refl

  pub atom_fits : (tag : ℕ) → IsSome (fields_of graph (vals.Atom tag) (shape u))
  atom_fits tag = subst (λ s. IsSome (fields_of graph (vals.Atom tag) s)) (sym (wildcard_is (shape u) wildcard)) refl

  module _ (o : ℕ) (object : Obj) (at : slice_get graph o ≡ Some object) where
    no_fields_there : fields_of graph (vals.Ref o) (shape u) ≡ Some []
    no_fields_there =
        ap (fields_of graph (vals.Ref o)) (wildcard_is (shape u) wildcard)
        ∙ ap (option_and_then (object_fields shapes.Anything)) at
        ∙ any_object object

    pub object_fits : IsSome (fields_of graph (vals.Ref o) (shape u))
    object_fits = subst IsSome (sym no_fields_there) refl

    -- A single object at a type that restricts nothing is a typing.
    pub pair_typing : IsTyping (shaped shape Equal) graph ((o, u) ∷ [])
    pair_typing = record {
      fits = at_pair o u (λ p t. (shaped shape Equal).fits graph (vals.Ref p) t) object_fits;
      held = λ p t i a among needed. at_pair o u
          (λ p t. Contains ((shaped shape Equal).needs graph (vals.Ref p) t) (i, a)
          → IsSomeAnd (field_at graph p i)
          (λ v. IsHeld (shaped shape Equal) graph ((o, u) ∷ []) v a))
          (λ needed. absurd (Contains-none {X = ℕ × T} (i, a)
          (subst (λ fields. Contains (asked_of shape (or_none fields)) (i, a)) no_fields_there
          needed)))
          p t among needed;
      one_type = λ p t w first second mutable. at_pair o u
          (λ p t. Contains {X = ℕ × T} ((o, u) ∷ []) (p, w) → Equal t w)
          (λ other. at_pair o u (λ q w. Equal u w) same o w other)
          p t first second;
    }
