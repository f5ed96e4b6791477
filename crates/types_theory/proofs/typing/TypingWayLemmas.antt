-- If a fault is least, then each of the fault's paths, without the last step, is the least path to
-- an object, up to equal types. A lesser path to the object would give a lesser fault.
use Rattle.std.proofs.Common.{ℕ, ◌≡◌, ◌∙◌, ◌⊎◌, ⊎_elim, inl, inr, List, [], ◌∷◌, ◌++◌, length, Option, Some, None, refl, sym, ap, subst, arith}
use Rattle.std.specs.Prelude.{option_and_then, option_map}
use Rattle.std.proofs.lemmas.Option.{option_and_then_some, same_Some}
use Rattle.base_data.proofs.model.Options.{IsSomeAnd-some, IsSomeAnd-at}
use Rattle.base_data.specs.declared.model.value.Val.{Val}
use Rattle.base_data.specs.declared.model.value.Val.TheVariants as vals
use Rattle.base_data.specs.declared.model.value.Obj.{Obj}
use Rattle.types_spec.specs.declared.types.fault.Fault.{Fault}
use Rattle.types_spec.specs.declared.types.fault.Fault.TheVariants.{Mismatch, Conflict}
use Rattle.types_spec.specs.types.Shapes.{Shapes}
use Rattle.types_spec.specs.types.LawfulShapes.{Everything, AreLawful}
use Rattle.types_spec.specs.types.Typing.{field_at}
use Rattle.types_spec.specs.types.Fault.{IsLexicallyBefore, IsBefore, type_of_field, step, value_at, IsMismatch, IsConflict}
use Rattle.types_spec.specs.types.LeastFault.{IsLeastFault}
use Rattle.types_spec.proofs.types.TypeFaultLemmas.{named_is_needed, paired}
use Rattle.types_theory.specs.typing.Decidable.{AreDecidable}
use Rattle.types_theory.specs.typing.LeastWay.{IsLeastWay, AreLeastWays}
use Rattle.types_theory.proofs.typing.TypingNeedLemmas.{needed_is_named}
use Rattle.types_theory.proofs.typing.TypingPathLemmas.{value_at-push, paths_compare}
use Rattle.types_theory.proofs.typing.SearchedLemmas.{before_transitive, length_pushed}

-- ---- the order of paths

lexically_push : (p q : List ℕ) (i : ℕ) → length p ≡ length q → IsLexicallyBefore p q → IsLexicallyBefore (p ++ i ∷ []) (q ++ i ∷ [])
lexically_push [] q i same before = absurd before
lexically_push (j ∷ p) [] i same before = absurd before
lexically_push (j ∷ p) (k ∷ q) i same (inl less) = inl less
lexically_push (j ∷ p) (k ∷ q) i same (inr later) = inr (later.0, lexically_push p q i (omega arith) later.1)

-- If a path is before another path, and the two paths are extended by the same step, then the order
-- of the two paths stays the same.
push_before : (p q : List ℕ) (i : ℕ) → IsBefore p q → IsBefore (p ++ i ∷ []) (q ++ i ∷ [])
push_before p q i (inl shorter) = inl (omega (arith, length_pushed p i, length_pushed q i))
push_before p q i (inr equal) = inr (omega (arith, length_pushed p i, length_pushed q i, equal.0), lexically_push p q i equal.0 equal.1)

-- ---- the last step

only_some : {A : Type 0} (o : Option A) → option_and_then Some o ≡ o
only_some None = refl
only_some (Some x) = refl

module _ {T : Type 0} (shapes : Shapes T) (graph : List Obj) where
  -- If a path leads to a position, then the path with one more step leads to the target of the
  -- step.
  step_after :
      (prefix : List ℕ) (v : Val) (t : T) (i : ℕ) (position : Val × T) → value_at shapes graph v t prefix ≡ Some position
      → value_at shapes graph v t (prefix ++ i ∷ []) ≡ step shapes graph position.0 position.1 i
  step_after [] v t i position placed =
      only_some (step shapes graph v t i) ∙ ap (λ (p : Val × T). step shapes graph p.0 p.1 i) (same_Some (v, t) position placed)
  step_after (j ∷ prefix) v t i position placed =
      option_and_then_some (λ q. value_at shapes graph q.0 q.1 prefix) (step shapes graph v t j) position placed (λ q first rest.
      ap (option_and_then (λ (p : Val × T). value_at shapes graph p.0 p.1 (prefix ++ i ∷ []))) first
      ∙ step_after prefix q.0 q.1 i position rest)

module _ {T : Type 0} (shapes : Shapes T) (lawful : AreLawful shapes Everything) (decidable : AreDecidable shapes)
    (graph : List Obj) (root : Val) (t : T) where
  -- From an equal type, the same step leads to the same value at an equal type.
  record SameStep (o : ℕ) (w : T) (i : ℕ) (x : Val) (a : T) : Type 0 where
    type : T
    stepped : step shapes graph (vals.Ref o) w i ≡ Some (x, type)
    equal : shapes.equal a type

  same_step :
      (o : ℕ) (u w : T) (i : ℕ) (x : Val) (a : T) → shapes.equal u w → step shapes graph (vals.Ref o) u i ≡ Some (x, a)
      → SameStep o w i x a
  same_step o u w i x a same stepped =
      option_and_then_some
      (λ y. option_map (λ b. (y, b)) (type_of_field (shapes.needs graph (vals.Ref o) u) i))
      (field_at graph o i) (x, a) stepped (λ y field typed.
      let parts = paired y (type_of_field (shapes.needs graph (vals.Ref o) u) i) (x, a) typed in
      let other = lawful.needs graph (vals.Ref o) u w i a (inl tt) same
      (named_is_needed (shapes.needs graph (vals.Ref o) u) i a parts.0) in
      let named = needed_is_named (shapes.needs graph (vals.Ref o) w) i other.0 other.1 in
      let once : named.0 ≡ other.0 = decidable.once graph (vals.Ref o) w i named.0 other.0
      (named_is_needed (shapes.needs graph (vals.Ref o) w) i named.0 named.1) other.1 in
      record {
        type = named.0;
        stepped =
            ap (option_and_then (λ z. option_map (λ b. (z, b)) (type_of_field (shapes.needs graph (vals.Ref o) w) i)))
            (subst (λ z. field_at graph o i ≡ Some z) parts.1 field)
            ∙ ap (option_map (λ b. (x, b))) named.1;
        equal = subst (λ b. shapes.equal a b) (sym once) other.2;
      })

  -- A path that is before `path` and leads to the same value at an equal type.
  record Lesser (path : List ℕ) (x : Val) (a : T) : Type 0 where
    other : List ℕ
    type : T
    before : IsBefore other path
    placed : value_at shapes graph root t other ≡ Some (x, type)
    equal : shapes.equal a type

  lesser :
      (prefix : List ℕ) (i : ℕ) (x : Val) (a : T) (o : ℕ) (u : T) (other : List ℕ) (w : T)
      → value_at shapes graph root t (prefix ++ i ∷ []) ≡ Some (x, a)
      → value_at shapes graph root t prefix ≡ Some (vals.Ref o, u)
      → value_at shapes graph root t other ≡ Some (vals.Ref o, w) → shapes.equal u w → IsBefore other prefix
      → Lesser (prefix ++ i ∷ []) x a
  lesser prefix i x a o u other w leads at_prefix at_other same before =
      let stepped = sym (step_after shapes graph prefix root t i (vals.Ref o, u) at_prefix) ∙ leads in
      let s = same_step o u w i x a same stepped in
      record {
        other = other ++ i ∷ [];
        type = s.type;
        before = push_before other prefix i before;
        placed = value_at-push shapes graph other root t i (vals.Ref o, w) (x, s.type) at_other s.stepped;
        equal = s.equal;
      }

  -- If a mismatch is the least fault, then its path without the last step is the least path to an
  -- object at a type.
  mismatch_way : (path : List ℕ) → IsLeastFault shapes graph root t (Mismatch path) → IsLeastWay shapes graph root t path
  mismatch_way path least prefix i is o u other w at_prefix at_other same before =
      let mismatch = subst (λ p. IsMismatch shapes graph root t p) is least.is_fault in
      let position = IsSomeAnd-some (value_at shapes graph root t (prefix ++ i ∷ [])) (λ p. ¬ shapes.fits graph p.0 p.1) mismatch in
      let l = lesser prefix i position.0.0 position.0.1 o u other w position.1 at_prefix at_other same before in
      least.least (Mismatch l.other)
      (IsSomeAnd-at (value_at shapes graph root t l.other) (position.0.0, l.type) (λ p. ¬ shapes.fits graph p.0 p.1) l.placed
      (λ fits. position.2 (lawful.fits graph position.0.0 l.type position.0.1 (inl tt) (lawful.symmetric position.0.1 l.type l.equal) fits)))
      (subst (λ p. IsBefore l.other p) (sym is) l.before)

  -- If an object is mutable at a type, then it is mutable at an equal type.
  mutable_at : (o : ℕ) (u w : T) → shapes.equal u w → shapes.mutable graph o u → shapes.mutable graph o w
  mutable_at o u w same mutable = lawful.mutable graph o u w (inl tt) same mutable

  -- No aliasing conflict has a lesser second path, or the same second path and a lesser first path.
  abbrev IsNoLesser : List ℕ → List ℕ → Type 0
  IsNoLesser first second =
      (one other : List ℕ) → IsConflict shapes graph root t one other → ¬ (IsBefore other second ⊎ ((other ≡ second) × IsBefore one first))

  -- Let two paths lead to one object at unequal types. If the object is mutable at one of the two
  -- types, then the two paths form an aliasing conflict.
  conflict_of_two :
      (p q : List ℕ) (o : ℕ) (u w : T) → value_at shapes graph root t p ≡ Some (vals.Ref o, u)
      → value_at shapes graph root t q ≡ Some (vals.Ref o, w) → ¬ shapes.equal u w
      → shapes.mutable graph o u ⊎ shapes.mutable graph o w → IsBefore p q → IsConflict shapes graph root t p q
  conflict_of_two p q o u w at_p at_q unequal mutable before = record {
    object = o;
    one = u;
    other = w;
    before = before;
    at_first = at_p;
    at_second = at_q;
    unequal = unequal;
    mutable = mutable;
  }

  first_way :
      (first second : List ℕ) (c : IsConflict shapes graph root t first second) → IsNoLesser first second
      → IsLeastWay shapes graph root t first
  first_way first second c none prefix i is o u other w at_prefix at_other same before =
      let at_first : value_at shapes graph root t (prefix ++ i ∷ []) ≡ Some (vals.Ref c.object, c.one) =
      subst (λ p. value_at shapes graph root t p ≡ Some (vals.Ref c.object, c.one)) is c.at_first in
      let l = lesser prefix i (vals.Ref c.object) c.one o u other w at_first at_prefix at_other same before in
      let lower : IsBefore l.other first = subst (λ p. IsBefore l.other p) (sym is) l.before in
      none l.other second
      (conflict_of_two l.other second c.object l.type c.other l.placed c.at_second
      (λ equal. c.unequal (lawful.transitive c.one l.type c.other l.equal equal))
      (⊎_elim (λ m. inl (mutable_at c.object c.one l.type l.equal m)) (λ m. inr m) c.mutable)
      (before_transitive l.other first second lower c.before))
      (inr (refl, lower))

  second_way :
      (first second : List ℕ) (c : IsConflict shapes graph root t first second) → IsNoLesser first second
      → IsLeastWay shapes graph root t second
  second_way first second c none prefix i is o u other w at_prefix at_other same before = by_order (paths_compare first l.other) where
    at_second : value_at shapes graph root t (prefix ++ i ∷ []) ≡ Some (vals.Ref c.object, c.other)
    at_second = subst (λ p. value_at shapes graph root t p ≡ Some (vals.Ref c.object, c.other)) is c.at_second

    l : Lesser (prefix ++ i ∷ []) (vals.Ref c.object) c.other
    l = lesser prefix i (vals.Ref c.object) c.other o u other w at_second at_prefix at_other same before

    lower : IsBefore l.other second
    lower = subst (λ p. IsBefore l.other p) (sym is) l.before

    unequal : ¬ shapes.equal c.one l.type
    unequal equal = c.unequal (lawful.transitive c.one l.type c.other equal (lawful.symmetric c.other l.type l.equal))

    mutable : shapes.mutable graph c.object c.one ⊎ shapes.mutable graph c.object l.type
    mutable = ⊎_elim (λ m. inl m) (λ m. inr (mutable_at c.object c.other l.type l.equal m)) c.mutable

    turned : shapes.mutable graph c.object l.type ⊎ shapes.mutable graph c.object c.one
    turned = ⊎_elim (λ m. inr m) (λ m. inl m) mutable

    by_order : IsBefore first l.other ⊎ ((first ≡ l.other) ⊎ IsBefore l.other first) → ⊥
    by_order (inl before') =
        none first l.other (conflict_of_two first l.other c.object c.one l.type c.at_first l.placed unequal mutable before') (inl lower)
    by_order (inr (inl equal)) =
        let position = same_Some (vals.Ref c.object, c.one) (vals.Ref c.object, l.type)
        (sym c.at_first ∙ ap (value_at shapes graph root t) equal ∙ l.placed) in
        unequal (subst (λ b. shapes.equal c.one b) (ap (λ (p : Val × T). p.1) position) (lawful.reflexive c.one tt))
    by_order (inr (inr after)) =
        none l.other first
        (conflict_of_two l.other first c.object l.type c.one l.placed c.at_first
        (λ equal. unequal (lawful.symmetric l.type c.one equal)) turned after)
        (inl c.before)

  pub least_ways : (fault : Fault) → IsLeastFault shapes graph root t fault → AreLeastWays shapes graph root t fault
  least_ways (Mismatch path) least = mismatch_way path least
  least_ways (Conflict first second) least =
      let none : IsNoLesser first second = λ one other is reported. least.least (Conflict one other) is reported in
      (first_way first second least.is_fault none, second_way first second least.is_fault none)
