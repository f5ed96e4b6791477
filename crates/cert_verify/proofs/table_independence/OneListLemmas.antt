-- The list of the types that a type reaches is unique.
use Rattle.std.proofs.Common.{ℕ, zero, suc, ◌≡◌, ◌∙◌, ◌+◌, ◌<◌, ◌≤◌, ◌⊎◌, inl, inr, List, [], ◌∷◌, ◌++◌, length, take, drop, Some, refl, sym, ap, subst, take_all, arith}
use Rattle.std.specs.Prelude.{slice_get, Contains}
use Rattle.std.specs.List.{flat_map}
use Rattle.std.proofs.lemmas.List.{take-append-le, take-append-drop}
use Rattle.std.proofs.lemmas.List.Concat.{flat_map-append}
use Rattle.std.proofs.lemmas.List.Elements.{Contains-append_left, Contains-append_right}
use Rattle.std.proofs.lemmas.Option.{same_Some, slice_get_within}
use Rattle.std.proofs.lemmas.Bool.{cases_lt}
use Rattle.base_data.proofs.model.Options.{Contains-first, Contains-later, Contains-none, Contains-cases, Contains-flat_map, slice_get-Contains, slice_get_there}
use Rattle.base_data.proofs.model.Lists.{slice_get-append_left, Contains-position}
use Rattle.types_spec.specs.declared.types.decl.Decl.{Decl}
use Rattle.types_spec.specs.types.Ty.{Ty}
use Rattle.types_spec.specs.types.Reached.{reached_from, IsWithoutRepeats, IsReached}
use Rattle.types_theory.proofs.equality.EqualityReachedLemmas.{without_repeats_has}

-- ---- positions

in_taken : {X : Type 0} (n : ℕ) (xs : List X) (k : ℕ) (x : X) → k < n → slice_get xs k ≡ Some x
    → slice_get (take n xs) k ≡ Some x
in_taken zero xs k x less at = absurd (omega (arith, less))
in_taken (suc n) [] k x less at = at
in_taken (suc n) (y ∷ xs) zero x less at = at
in_taken (suc n) (y ∷ xs) (suc k) x less at = in_taken n xs k x (omega (arith, less)) at

-- ---- lists without repetitions

-- If repetitions are removed from a list, then the result begins with the result for each prefix of
-- the list.
prefix_left :
    (xs ys seen others : List Ty) → IsWithoutRepeats seen (xs ++ ys) others
    → (left : List Ty) × (rest : List Ty) × (others ≡ left ++ rest) × IsWithoutRepeats seen xs left
prefix_left [] ys seen others h = ([], others, refl, refl)
prefix_left (x ∷ xs) ys seen others (inl (again, h)) =
    let n = prefix_left xs ys seen others h in (n.0, n.1, n.2, inl (again, n.3))
prefix_left (x ∷ xs) ys seen others (inr (new, rest, is, h)) =
    let n = prefix_left xs ys (seen ++ x ∷ []) rest h in
    (x ∷ n.0, n.1, is ∙ ap (λ r. x ∷ r) n.2, inr (new, n.0, refl, n.3))

left_once :
    (xs seen one other : List Ty) → IsWithoutRepeats seen xs one → IsWithoutRepeats seen xs other
    → one ≡ other
left_once [] seen one other h k = h ∙ sym k
left_once (x ∷ xs) seen one other (inl (again, h)) (inl (again', k)) =
    left_once xs seen one other h k
left_once (x ∷ xs) seen one other (inl (again, h)) (inr (new, rest, is, k)) = absurd (new again)
left_once (x ∷ xs) seen one other (inr (new, rest, is, h)) (inl (again, k)) = absurd (new again)
left_once (x ∷ xs) seen one other (inr (new, rest, is, h)) (inr (new', rest', is', k)) =
    is ∙ (ap (λ r. x ∷ r) (left_once xs (seen ++ x ∷ []) rest rest' h k) ∙ sym is')

-- If repetitions are removed from a list, then the result contains no type that was seen before.
left_new :
    (xs seen left : List Ty) → IsWithoutRepeats seen xs left → (u : Ty) → Contains left u
    → Contains seen u → ⊥
left_new [] seen left h u has old = Contains-none u (subst (λ l. Contains l u) h has)
left_new (x ∷ xs) seen left (inl (again, h)) u has old = left_new xs seen left h u has old
left_new (x ∷ xs) seen left (inr (new, rest, is, h)) u has old =
    by (Contains-cases x rest u (subst (λ l. Contains l u) is has))
    (λ later. left_new xs (seen ++ x ∷ []) rest h u later
    (Contains-append_left seen (x ∷ []) u old)) where
      by : (x ≡ u) ⊎ Contains rest u → (Contains rest u → ⊥) → ⊥
      by (inl here) never = new (subst (Contains seen) (sym here) old)
      by (inr later) never = never later

-- If repetitions are removed from a list, then the result has no type twice.
left_apart :
    (xs seen left : List Ty) → IsWithoutRepeats seen xs left → (i j : ℕ) (u : Ty)
    → slice_get left i ≡ Some u → slice_get left j ≡ Some u → i ≡ j
left_apart [] seen left h i j u at_i at_j =
    let none = slice_get_within [] i u (subst (λ l. slice_get l i ≡ Some u) h at_i) in
    absurd (omega (arith, none))
left_apart (x ∷ xs) seen left (inl (again, h)) i j u at_i at_j =
    left_apart xs seen left h i j u at_i at_j
left_apart (x ∷ xs) seen left (inr (new, rest, is, h)) i j u at_i at_j =
    by i j (subst (λ l. slice_get l i ≡ Some u) is at_i)
    (subst (λ l. slice_get l j ≡ Some u) is at_j)
    (λ i j. left_apart xs (seen ++ x ∷ []) rest h i j u) where
      never : (k : ℕ) → Some x ≡ Some u → slice_get rest k ≡ Some u → ⊥
      never k here later =
          left_new xs (seen ++ x ∷ []) rest h u (slice_get-Contains rest k u later)
          (subst (Contains (seen ++ x ∷ [])) (same_Some x u here)
          (Contains-append_right seen (x ∷ []) x (Contains-first x [])))

      by : (i j : ℕ) → slice_get (x ∷ rest) i ≡ Some u → slice_get (x ∷ rest) j ≡ Some u
          → ((i j : ℕ) → slice_get rest i ≡ Some u → slice_get rest j ≡ Some u → i ≡ j) → i ≡ j
      by zero zero one two later = refl
      by zero (suc j) one two later = absurd (never j one two)
      by (suc i) zero one two later = absurd (never i two one)
      by (suc i) (suc j) one two later = ap (λ n. suc n) (later i j one two)

-- ---- the types that a type reaches

module _ (decls : List Decl) (t : Ty) where
  -- The type itself, and the types that the first `n` types reach.
  abbrev reach : ℕ → List Ty → List Ty
  reach n types = t ∷ flat_map (reached_from decls) (take n types)

  module _ (types : List Ty) (reached : IsReached decls t types) where
    -- Each type of the list has one position.
    pub one_position :
        (i j : ℕ) (u : Ty) → slice_get types i ≡ Some u → slice_get types j ≡ Some u → i ≡ j
    one_position = left_apart (t ∷ flat_map (reached_from decls) types) [] types reached.in_order

    abbrev Prefix : ℕ → Type 0
    Prefix n =
        (left : List Ty) × (rest : List Ty) × (types ≡ left ++ rest)
        × IsWithoutRepeats [] (reach n types) left

    prefix : (n : ℕ) → Prefix n
    prefix n =
        prefix_left (reach n types) (flat_map (reached_from decls) (drop n types)) [] types
        (subst (λ l. IsWithoutRepeats [] (t ∷ l) types) parts reached.in_order) where
          parts : flat_map (reached_from decls) types
              ≡ flat_map (reached_from decls) (take n types)
              ++ flat_map (reached_from decls) (drop n types)
          parts =
              ap (flat_map (reached_from decls)) (sym (take-append-drop n types))
              ∙ flat_map-append (reached_from decls) (take n types) (drop n types)

    -- Suppose the type itself and the types that the first `n` types reach are at most `n` types.
    -- Then the list has at most `n` types.
    no_more : (n : ℕ) (f : Prefix n) → length f.0 ≤ n → length types ≤ n
    no_more n f few = by (cases_lt n (length types)) where
      has : (u : Ty) → Contains (reach n types) u → Contains f.0 u
      has u among = unseen (without_repeats_has (reach n types) [] f.0 u f.3 among) where
        unseen : Contains [] u ⊎ Contains f.0 u → Contains f.0 u
        unseen (inl never) = absurd (Contains-none u never)
        unseen (inr there) = there

      some : 0 < n
      some =
          let at = Contains-position f.0 t (has t (Contains-first t (flat_map (reached_from decls) (take n types)))) in
          let within = slice_get_within f.0 at.0 t at.1 in omega (arith, within, few)

      never : n < length types → ⊥
      never less =
          let u = slice_get_there types n less in
          let from = reached.from_earlier n u.0 some u.1 in
          let w = slice_get-Contains (take n types) from.0 from.1
          (in_taken n types from.0 from.1 from.2 from.3) in
          let among = has u.0 (Contains-later t (flat_map (reached_from decls) (take n types)) u.0
          (Contains-flat_map (reached_from decls) (take n types) from.1 u.0 w from.4)) in
          let at = Contains-position f.0 u.0 among in
          let within = slice_get_within f.0 at.0 u.0 at.1 in
          let same = one_position at.0 n u.0
          (subst (λ l. slice_get l at.0 ≡ Some u.0) (sym f.2) (slice_get-append_left f.0 f.1 at.0 u.0 at.1)) u.1 in
          omega (arith, same, within, few)

      by : (n < length types) ⊎ (length types ≤ n) → length types ≤ n
      by (inl less) = absurd (never less)
      by (inr most) = most

  module _ (types others : List Ty) (reached : IsReached decls t types)
      (again : IsReached decls t others) where
    first_same : (n : ℕ) → take n types ≡ take n others
    first_same zero = refl
    first_same (suc n) = by (first_same n) (cases_lt n (length (prefix types reached n).0)) where
      f : Prefix types reached n
      f = prefix types reached n

      g : Prefix others again n
      g = prefix others again n

      same : take n types ≡ take n others → f.0 ≡ g.0
      same before =
          left_once (reach n types) [] f.0 g.0 f.3
          (subst (λ prefix. IsWithoutRepeats [] (t ∷ flat_map (reached_from decls) prefix) g.0)
          (sym before) g.3)

      by : take n types ≡ take n others → (n < length f.0) ⊎ (length f.0 ≤ n)
          → take (suc n) types ≡ take (suc n) others
      by before (inl less) =
          ap (take (suc n)) f.2
          ∙ (take-append-le (suc n) f.0 f.1 (omega (arith, less))
          ∙ (ap (take (suc n)) (same before)
          ∙ sym (ap (take (suc n)) g.2
          ∙ take-append-le (suc n) g.0 g.1
          (subst (λ l. suc n ≤ length l) (same before) (omega (arith, less))))))
      by before (inr few) =
          let one = no_more types reached n f few in
          let other = no_more others again n g (subst (λ l. length l ≤ n) (same before) few) in
          take_all (suc n) types (omega (arith, one))
          ∙ (sym (take_all n types one)
          ∙ (before
          ∙ (take_all n others other ∙ sym (take_all (suc n) others (omega (arith, other))))))

    pub one_list : types ≡ others
    one_list =
        sym (take_all (length types + length others) types (omega arith))
        ∙ (first_same (length types + length others)
        ∙ take_all (length types + length others) others (omega arith))
