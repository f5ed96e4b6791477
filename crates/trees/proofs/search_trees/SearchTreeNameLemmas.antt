-- Names that are compared one after the other.
use Rattle.std.proofs.Common.{ℕ, zero, suc, ◌≡◌, ◌<◌, ◌≤◌, ◌+◌, ◌∙◌, Bool, true, false, List, [], ◌∷◌, length, get_or, drop, map, Bor, not, refl, sym, ap, subst, arith, true≢false}
use Rattle.std.specs.Prelude.{IsTrue, ◌↔◌}
use Rattle.std.specs.Str.{bytes_eq}
use Rattle.std.proofs.lemmas.List.{length-map, drop_all, get_or_default}
use Rattle.std.proofs.lemmas.Slice.Eq.{bytes_eq-Decides}

-- If the two lists agree from index `i` on, then the two lists are equal.
abbrev pub SameFrom : List (List ℕ) → List (List ℕ) → ℕ → Type 0
SameFrom xs ys i = drop i xs ≡ drop i ys → xs ≡ ys

-- If two lists agree at index `i` and from index `i` + 1 on, then the lists agree from index `i`
-- on.
one_before :
    (xs ys : List (List ℕ)) (i : ℕ) → i < length xs → i < length ys → get_or xs i [] ≡ get_or ys i [] → drop (suc i) xs ≡ drop (suc i) ys → drop i xs ≡ drop i ys
one_before [] ys i below under same rest = absurd (omega (arith, below))
one_before (x ∷ xs) [] i below under same rest = absurd (omega (arith, under))
one_before (x ∷ xs) (y ∷ ys) zero below under same rest = ap (λ z. z ∷ xs) same ∙ ap (λ zs. y ∷ zs) rest
one_before (x ∷ xs) (y ∷ ys) (suc i) below under same rest = one_before xs ys i (omega (arith, below)) (omega (arith, under)) same rest

borrowed_at : (ws : List (Bor (List ℕ))) (i : ℕ) (d : Bor (List ℕ)) → i < length ws → get_or (map (λ (name : Bor (List ℕ)). name.now) ws) i [] ≡ (get_or ws i d).now
borrowed_at [] i d below = absurd (omega (arith, below))
borrowed_at (w ∷ ws) zero d below = refl
borrowed_at (w ∷ ws) (suc i) d below = borrowed_at ws i d (omega (arith, below))

abbrev pub borrowed : List (Bor (List ℕ)) → List (List ℕ)
borrowed ws = map (λ (name : Bor (List ℕ)). name.now) ws

same_name : (r : Bool) (a b : List ℕ) → r ≡ false → r ≡ not (bytes_eq a b) → a ≡ b
same_name r a b no' is = (bytes_eq-Decides a b).0 (by_test (bytes_eq a b) (sym no' ∙ is)) where
  by_test : (t : Bool) → false ≡ not t → t ≡ true
  by_test true same = refl
  by_test false same = absurd (true≢false (sym same))

other_name : (r : Bool) (a b : List ℕ) → r ≡ true → r ≡ not (bytes_eq a b) → a ≡ b → ⊥
other_name r a b yes' is same = by_test (bytes_eq a b) ((bytes_eq-Decides a b).1 same) (sym yes' ∙ is) where
  by_test : (t : Bool) → t ≡ true → true ≡ not t → ⊥
  by_test true same is = true≢false is
  by_test false same is = true≢false (sym same)

module _ (xs : List (List ℕ)) (ws : List (Bor (List ℕ))) (i : ℕ) (a : List ℕ) (d : Bor (List ℕ)) (below : i < length xs) (many : length xs ≡ length ws)
    (here : a ≡ get_or xs i a) (r : Bool) (test : r ≡ not (bytes_eq a (get_or ws i d).now)) where
  left_at : get_or xs i [] ≡ a
  left_at = get_or_default xs i [] a below ∙ sym here

  right_at : get_or (borrowed ws) i [] ≡ (get_or ws i d).now
  right_at = borrowed_at ws i d (omega (arith, below, many))

  pub names_more : SameFrom xs (borrowed ws) i → r ≡ false → SameFrom xs (borrowed ws) (i + 1)
  names_more so_far no' rest =
      let next : i + 1 ≡ suc i = omega arith in
      let lengths = length-map ws (λ (name : Bor (List ℕ)). name.now) in
      so_far (one_before xs (borrowed ws) i below (omega (arith, below, many, lengths)) (left_at ∙ same_name r a (get_or ws i d).now no' test ∙ sym right_at)
      (subst (λ n. drop n xs ≡ drop n (borrowed ws)) next rest))

  pub names_differ : r ≡ true → IsTrue false ↔ (xs ≡ borrowed ws)
  names_differ yes' = (
    λ is. absurd (true≢false (sym is)),
    λ same. absurd (other_name r a (get_or ws i d).now yes' test (sym left_at ∙ ap (λ zs. get_or zs i []) same ∙ right_at)),
  )

pub lengths_differ : (xs : List (List ℕ)) (ws : List (Bor (List ℕ))) → (length xs ≡ length ws → ⊥) → IsTrue false ↔ (xs ≡ borrowed ws)
lengths_differ xs ws other = (
  λ is. absurd (true≢false (sym is)),
  λ same. absurd (other (ap length same ∙ length-map ws (λ (name : Bor (List ℕ)). name.now))),
)

pub names_same : (xs : List (List ℕ)) (ws : List (Bor (List ℕ))) (i : ℕ) → SameFrom xs (borrowed ws) i → length xs ≤ i → length xs ≡ length ws → IsTrue true ↔ (xs ≡ borrowed ws)
names_same xs ws i so_far end many = (
  λ is.
      let lengths = length-map ws (λ (name : Bor (List ℕ)). name.now) in
      so_far (drop_all i xs end ∙ sym (drop_all i (borrowed ws) (omega (arith, end, many, lengths)))),
  λ same. refl,
)

pub name_is : (r : Bool) (a b : List ℕ) → r ≡ bytes_eq a b → IsTrue r ↔ (a ≡ b)
name_is r a b is = (λ yes'. (bytes_eq-Decides a b).0 (sym is ∙ yes'), λ same. is ∙ (bytes_eq-Decides a b).1 same)
