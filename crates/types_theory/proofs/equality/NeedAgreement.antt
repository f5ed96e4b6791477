-- Two lists of required fields that agree: the same fields are required, at related types.
use Rattle.std.proofs.Common.{ℕ, ◌≡◌, ◌∙◌, ⊎_elim, List, [], ◌∷◌, Option, Some, None, refl, ap}
use Rattle.std.proofs.Common.{subst, sym, Bool, true, false, cond}
use Rattle.std.specs.Prelude.{Contains, IsSome}
use Rattle.std.proofs.lemmas.Bool.{false≢true}
use Rattle.types_spec.specs.declared.types.shape.ShapeOf.{ShapeOf}
use Rattle.types_spec.specs.types.Fitting.{or_none, is_asked, asked_of}
use Rattle.base_data.proofs.model.Options.{Contains-first, Contains-later, Contains-none, Contains-cases}

module _ {T U : Type 0} (Likes : T → U → Type 0) where
  abbrev pub NeedsAgree : List (ℕ × T) → List (ℕ × U) → Type 0
  NeedsAgree [] [] = Unit {0}
  NeedsAgree (n ∷ ns) (m ∷ ms) = (n.0 ≡ m.0) × Likes n.1 m.1 × NeedsAgree ns ms
  NeedsAgree ns ms = ⊥

  -- Either a value matches on neither side, or the value matches on the two sides and the required
  -- fields of the two sides agree.
  abbrev pub FieldsAgree : Option (List (ℕ × T)) → Option (List (ℕ × U)) → Type 0
  FieldsAgree None None = Unit {0}
  FieldsAgree (Some ns) (Some ms) = NeedsAgree ns ms
  FieldsAgree ns ms = ⊥

  pub both_some : (ns : Option (List (ℕ × T))) (ms : Option (List (ℕ × U))) → FieldsAgree ns ms
      → IsSome ns → IsSome ms
  both_some (Some ns) (Some ms) agree some = refl
  both_some None None agree some = some
  both_some None (Some ms) agree some = absurd agree
  both_some (Some ns) None agree some = absurd agree

  pub both_some_back :
      (ns : Option (List (ℕ × T))) (ms : Option (List (ℕ × U))) → FieldsAgree ns ms → IsSome ms
      → IsSome ns
  both_some_back (Some ns) (Some ms) agree some = refl
  both_some_back None None agree some = some
  both_some_back None (Some ms) agree some = absurd agree
  both_some_back (Some ns) None agree some = absurd agree

  -- The list `ms` requires field `i` at a type that is related to `a`.
  abbrev pub Matched : List (ℕ × U) → ℕ → T → Type 0
  Matched ms i a = (b : U) × Contains ms (i, b) × Likes a b

  at_first : (n : ℕ × T) (m : ℕ × U) (ms : List (ℕ × U)) (i : ℕ) (a : T) → n.0 ≡ m.0 → Likes n.1 m.1
      → n ≡ (i, a) → Matched (m ∷ ms) i a
  at_first n m ms i a same likes is =
      let number : m.0 ≡ i = sym same ∙ ap (λ (x : ℕ × T). x.0) is in (
        m.1,
        subst (λ k. Contains (m ∷ ms) (k, m.1)) number (Contains-first m ms),
        subst
            (λ x. Likes x m.1) (ap (λ (x : ℕ × T). x.1) is) likes,
      )

  matched : (ns : List (ℕ × T)) (ms : List (ℕ × U)) → NeedsAgree ns ms → (i : ℕ) (a : T)
      → Contains ns (i, a) → Matched ms i a
  matched [] ms agree i a among = absurd (Contains-none (i, a) among)
  matched (n ∷ ns) [] agree i a among = absurd agree
  matched (n ∷ ns) (m ∷ ms) agree i a among = ⊎_elim
      (λ here. at_first n m ms i a agree.0 agree.1 here)
      (λ later. let found = matched ns ms agree.2 i a later in
      (found.0, Contains-later m ms (i, found.0) found.1, found.2))
      (Contains-cases n ns (i, a) among)

  pub need_matched :
      (ns : Option (List (ℕ × T))) (ms : Option (List (ℕ × U))) → FieldsAgree ns ms
      → (i : ℕ) (a : T) → Contains (or_none ns) (i, a) → Matched (or_none ms) i a
  need_matched None ms agree i a among = absurd (Contains-none (i, a) among)
  need_matched (Some ns) None agree i a among = absurd agree
  need_matched (Some ns) (Some ms) agree i a among = matched ns ms agree i a among

module _ {T U : Type 0} (Likes : T → U → Type 0) where
  turned_needs : (ns : List (ℕ × T)) (ms : List (ℕ × U)) → NeedsAgree Likes ns ms
      → NeedsAgree (λ a b. Likes b a) ms ns
  turned_needs [] [] agree = tt
  turned_needs (n ∷ ns) (m ∷ ms) agree = (sym agree.0, agree.1, turned_needs ns ms agree.2)
  turned_needs [] (m ∷ ms) agree = absurd agree
  turned_needs (n ∷ ns) [] agree = absurd agree

  -- If required fields agree by a relation, then the fields in the other order agree by the
  -- converse relation.
  pub turned_fields :
      (ns : Option (List (ℕ × T))) (ms : Option (List (ℕ × U))) → FieldsAgree Likes ns ms
      → FieldsAgree (λ a b. Likes b a) ms ns
  turned_fields None None agree = tt
  turned_fields (Some ns) (Some ms) agree = turned_needs ns ms agree
  turned_fields None (Some ms) agree = absurd agree
  turned_fields (Some ns) None agree = absurd agree

-- If `is_asked` is the same for related types, and typed fields agree, then the required fields
-- agree.
module _ {T U : Type 0} (Likes : T → U → Type 0) (shape : T → ShapeOf T) (other : U → ShapeOf U)
    (similar : (t : T) (u : U) → Likes t u → is_asked (shape t) ≡ is_asked (other u)) where
  write_agree : (test test' : Bool) (n : ℕ × T) (m : ℕ × U) (ns : List (ℕ × T)) (ms : List (ℕ × U))
      → test ≡ test' → n.0 ≡ m.0 → Likes n.1 m.1 → NeedsAgree Likes ns ms
      → NeedsAgree Likes (cond test (n ∷ ns) ns) (cond test' (m ∷ ms) ms)
  write_agree true true n m ns ms same number likes agree = (number, likes, agree)
  write_agree false false n m ns ms same number likes agree = agree
  write_agree true false n m ns ms same number likes agree = absurd (false≢true (sym same))
  write_agree false true n m ns ms same number likes agree = absurd (false≢true same)

  pub asked_agree : (ns : List (ℕ × T)) (ms : List (ℕ × U)) → NeedsAgree Likes ns ms
      → NeedsAgree Likes (asked_of shape ns) (asked_of other ms)
  asked_agree [] [] agree = tt
  asked_agree (n ∷ ns) (m ∷ ms) agree =
      write_agree (is_asked (shape n.1)) (is_asked (other m.1)) n m (asked_of shape ns)
      (asked_of other ms) (similar n.1 m.1 agree.1) agree.0 agree.1 (asked_agree ns ms agree.2)
  asked_agree [] (m ∷ ms) agree = absurd agree
  asked_agree (n ∷ ns) [] agree = absurd agree
