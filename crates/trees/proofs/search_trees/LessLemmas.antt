-- The order of elements, and increasing lists.
use Rattle.std.proofs.Common.{ℕ, ◌≡◌, ◌<◌, ◌==◌, ◌∙◌, ◌⊎◌, ⊎_elim, inl, inr, Bool, true, false, List, [], ◌∷◌, ◌++◌, refl, sym, subst, arith, zero, suc, length, drop, min, ap}
use Rattle.std.specs.Prelude.{Contains, IsTrue, ℤ, ◌<ℤ◌, ◌≤ℤ◌, int_lt, nat_lt, ◌&&◌}
use Rattle.std.proofs.lemmas.Int.{ints, by_lt_z}
use Rattle.std.proofs.lemmas.Bool.{false≢true, or_cases, or_left, or_right, and_parts, ltb-true, lt-ltb, cases_lt, and_from}
use Rattle.std.proofs.lemmas.Bool.Decides.{Decides-eqb, nat_tests}
use Rattle.std.proofs.lemmas.List.Elements.{Contains-append_cases, Contains-append_right}
use Rattle.base_data.proofs.model.Options.{Contains-first, Contains-later, Contains-cases, Contains-none}
use Rattle.base_data.specs.declared.model.value.Val.{Val}
use Rattle.base_data.specs.declared.model.value.Obj.{Obj}
use Rattle.trees.specs.search_trees.NodeParts.{Key, number, text, are_before, is_key_less, key_of, is_less}
use Rattle.trees.specs.search_trees.SearchTree.{AreIncreasing}

-- ---- texts

-- The byte `a` is less than `b`, or the bytes are equal and the text `bytes` comes before `others`.
abbrev FirstBefore : ℕ → ℕ → List ℕ → List ℕ → Type 0
FirstBefore a b bytes others = (a < b) ⊎ ((a ≡ b) × IsTrue (are_before bytes others))

first_before : (a b : ℕ) (bytes others : List ℕ) → IsTrue (are_before (a ∷ bytes) (b ∷ others)) → FirstBefore a b bytes others
first_before a b bytes others is = ⊎_elim
    (λ less. inl (ltb-true a b less))
    (λ same. let parts = and_parts (a == b) (are_before bytes others) same in inr ((Decides-eqb a b).0 parts.0, parts.1))
    (or_cases (nat_lt a b) ((a == b) && are_before bytes others) is)

before_first : (a b : ℕ) (bytes others : List ℕ) → FirstBefore a b bytes others → IsTrue (are_before (a ∷ bytes) (b ∷ others))
before_first a b bytes others (inl less) = or_left (nat_lt a b) ((a == b) && are_before bytes others) (lt-ltb a b less)
before_first a b bytes others (inr same) =
    or_right (nat_lt a b) ((a == b) && are_before bytes others)
    (and_from (a == b) (are_before bytes others) ((Decides-eqb a b).1 same.0) same.1)

before_transitive : (one two three : List ℕ) → IsTrue (are_before one two) → IsTrue (are_before two three) → IsTrue (are_before one three)
before_transitive one [] three first second = absurd (false≢true first)
before_transitive one (b ∷ two) [] first second = absurd (false≢true second)
before_transitive [] (b ∷ two) (c ∷ three) first second = refl
before_transitive (a ∷ one) (b ∷ two) (c ∷ three) first second =
    before_first a c one three (joined (before_transitive one two three) (first_before a b one two first) (first_before b c two three second)) where
      joined : (IsTrue (are_before one two) → IsTrue (are_before two three) → IsTrue (are_before one three)) → FirstBefore a b one two → FirstBefore b c two three → FirstBefore a c one three
      joined rest (inl x) (inl y) = inl (omega arith)
      joined rest (inl x) (inr y) = let e = y.0 in inl (omega (arith, e))
      joined rest (inr x) (inl y) = let e = x.0 in inl (omega (arith, e))
      joined rest (inr x) (inr y) = inr (x.0 ∙ y.0, rest x.1 y.1)

not_under_itself : (a : ℕ) → a < a → ⊥
not_under_itself a less = omega (arith, less)

before_itself : (bytes : List ℕ) → IsTrue (are_before bytes bytes) → ⊥
before_itself [] is = false≢true is
before_itself (a ∷ bytes) is = ⊎_elim
    (λ less. not_under_itself a less)
    (λ rest. before_itself bytes rest.1)
    (first_before a a bytes bytes is)

is_false : (b : Bool) → (IsTrue b → ⊥) → false ≡ b
is_false true never = absurd (never refl)
is_false false never = refl

pub same_not_before : (bytes others : List ℕ) → bytes ≡ others → false ≡ are_before bytes others
same_not_before bytes others same = subst (λ x. false ≡ are_before bytes x) same (is_false (are_before bytes bytes) (before_itself bytes))

-- ---- texts with a common prefix

not_under : (n : ℕ) → nat_lt n 0 ≡ false
not_under n = sym (is_false (nat_lt n 0) (λ is. let less = ltb-true n 0 is in omega (arith, less)))

is_over : (n : ℕ) → nat_lt 0 (suc n) ≡ true
is_over n = lt-ltb 0 (suc n) (omega arith)

lengths : (xs ys : List ℕ) (x y : ℕ) → nat_lt (length (x ∷ xs)) (length (y ∷ ys)) ≡ nat_lt (length xs) (length ys)
lengths xs ys x y = grind (arith, nat_tests)

at_end : (xs ys : List ℕ) (i : ℕ) → i ≡ min (length xs) (length ys) → are_before (drop i xs) (drop i ys) ≡ nat_lt (length xs) (length ys)
at_end xs [] i end =
    ap (λ (n : ℕ). are_before (drop n xs) (drop n [])) (let zero_is : i ≡ 0 = omega (arith, end) in zero_is) ∙ sym (not_under (length xs))
at_end [] (y ∷ ys) i end =
    ap (λ (n : ℕ). are_before (drop n []) (drop n (y ∷ ys))) (let zero_is : i ≡ 0 = omega (arith, end) in zero_is) ∙ sym (is_over (length ys))
at_end (x ∷ xs) (y ∷ ys) zero end = absurd (omega (arith, end))
at_end (x ∷ xs) (y ∷ ys) (suc i) end = at_end xs ys i (omega (arith, end)) ∙ sym (lengths xs ys x y)

-- The order of two texts is the order of the two texts without their first `i` bytes.
abbrev pub DecidesFrom : List ℕ → List ℕ → ℕ → Type 0
DecidesFrom xs ys i = are_before xs ys ≡ are_before (drop i xs) (drop i ys)

pub decided_by_length : (xs ys : List ℕ) (i : ℕ) → DecidesFrom xs ys i → i ≡ min (length xs) (length ys) → nat_lt (length xs) (length ys) ≡ are_before xs ys
decided_by_length xs ys i so_far end = sym (so_far ∙ at_end xs ys i end)

data Compared (a b : ℕ) : Type 0 where
  is_under : a < b → Compared a b
  is_same : a ≡ b → Compared a b
  is_above : b < a → Compared a b

compare : (a b : ℕ) → Compared a b
compare a b = ⊎_elim (λ is. is_under is)
    (λ at_least. ⊎_elim (λ is. is_above is) (λ at_most. is_same (omega (arith, at_least, at_most))) (cases_lt b a)) (cases_lt a b)

before_between :
    (one two three : List ℕ) → IsTrue (are_before one three)
    → IsTrue (are_before one two) ⊎ IsTrue (are_before two three)
before_between one two [] is = absurd (false≢true is)
before_between [] [] (c ∷ three) is = inr refl
before_between [] (b ∷ two) (c ∷ three) is = inl refl
before_between (a ∷ one) [] (c ∷ three) is = inr refl
before_between (a ∷ one) (b ∷ two) (c ∷ three) is =
    by_first (before_between one two three) (first_before a c one three is) (compare a b) where
      by_first : (IsTrue (are_before one three) → IsTrue (are_before one two) ⊎ IsTrue (are_before two three))
          → FirstBefore a c one three → Compared a b
          → IsTrue (are_before (a ∷ one) (b ∷ two)) ⊎ IsTrue (are_before (b ∷ two) (c ∷ three))
      by_first rest whole (is_under is) = inl (before_first a b one two (inl is))
      by_first rest (inl whole) (is_same is) = inr (before_first b c two three (inl (omega (arith, whole, is))))
      by_first rest (inr whole) (is_same is) = ⊎_elim
          (λ before. inl (before_first a b one two (inr (is, before))))
          (λ after. inr (before_first b c two three (inr (sym is ∙ whole.0, after))))
          (rest whole.1)
      by_first rest (inl whole) (is_above is) = inr (before_first b c two three (inl (omega (arith, whole, is))))
      by_first rest (inr whole) (is_above is) = let e = whole.0 in inr (before_first b c two three (inl (omega (arith, e, is))))

-- ---- numbers

smaller_transitive : (x y z : ℤ) → int_lt x y ≡ true → int_lt y z ≡ true → int_lt x z ≡ true
smaller_transitive x y z first second = grind (arith, ints)

smaller_itself : (x : ℤ) → int_lt x x ≡ true → ⊥
smaller_itself x is = grind (arith, ints)

smaller_between : (x y z : ℤ) → int_lt x z ≡ true → (int_lt x y ≡ true) ⊎ (int_lt y z ≡ true)
smaller_between x y z is = by_lt_z x y
    (λ first. inl (is_smaller x y first))
    (λ second. inr (at_least y x z second is)) where
      is_smaller : (a b : ℤ) → a <ℤ b → int_lt a b ≡ true
      is_smaller a b is = grind (arith, ints)

      at_least : (a b c : ℤ) → a ≤ℤ b → int_lt b c ≡ true → int_lt a c ≡ true
      at_least a b c is less = grind (arith, ints)

-- ---- elements

key_transitive : (j k l : Key) → IsTrue (is_key_less j k) → IsTrue (is_key_less k l) → IsTrue (is_key_less j l)
key_transitive (number x) (number y) (number z) first second = smaller_transitive x y z first second
key_transitive (number x) (number y) (text z) first second = refl
key_transitive (number x) (text y) (number z) first second = absurd (false≢true second)
key_transitive (number x) (text y) (text z) first second = refl
key_transitive (text x) (number y) l first second = absurd (false≢true first)
key_transitive (text x) (text y) (number z) first second = absurd (false≢true second)
key_transitive (text x) (text y) (text z) first second = before_transitive x y z first second

key_itself : (k : Key) → IsTrue (is_key_less k k) → ⊥
key_itself (number x) is = smaller_itself x is
key_itself (text x) is = before_itself x is

key_between : (j k l : Key) → IsTrue (is_key_less j l) → IsTrue (is_key_less j k) ⊎ IsTrue (is_key_less k l)
key_between (number x) (number y) (number z) is = smaller_between x y z is
key_between (number x) (number y) (text z) is = inr refl
key_between (number x) (text y) l is = inl refl
key_between (text x) k (number z) is = absurd (false≢true is)
key_between (text x) (number y) (text z) is = inr refl
key_between (text x) (text y) (text z) is = before_between x y z is

module _ (graph : List Obj) where
  pub less_transitive : (u v w : Val) → IsTrue (is_less graph u v) → IsTrue (is_less graph v w) → IsTrue (is_less graph u w)
  less_transitive u v w first second = key_transitive (key_of graph u) (key_of graph v) (key_of graph w) first second

  pub less_itself : (v : Val) → IsTrue (is_less graph v v) → ⊥
  less_itself v is = key_itself (key_of graph v) is

  pub less_between : (u v w : Val) → IsTrue (is_less graph u w) → IsTrue (is_less graph u v) ⊎ IsTrue (is_less graph v w)
  less_between u v w is = key_between (key_of graph u) (key_of graph v) (key_of graph w) is

-- ---- lists

-- Each element of the list is less than the value `v`.
abbrev pub AllLess : List Obj → List Val → Val → Type 0
AllLess graph xs v = (x : Val) → Contains xs x → IsTrue (is_less graph x v)

abbrev pub AllMore : List Obj → List Val → Val → Type 0
AllMore graph xs v = (x : Val) → Contains xs x → IsTrue (is_less graph v x)

pub increasing_joined :
    (graph : List Obj) (xs : List Val) (v : Val) (ys : List Val) → AreIncreasing graph xs → AllLess graph xs v → AreIncreasing graph ys → AllMore graph ys v
    → AreIncreasing graph (xs ++ v ∷ ys)
increasing_joined graph [] v ys one less two more = (more, two)
increasing_joined graph (x ∷ xs) v ys one less two more =
    (behind, increasing_joined graph xs v ys one.1 (λ z among. less z (Contains-later x xs z among)) two more) where
      own : IsTrue (is_less graph x v)
      own = less x (Contains-first x xs)

      behind : (w : Val) → Contains (xs ++ v ∷ ys) w → IsTrue (is_less graph x w)
      behind w among = ⊎_elim
          (λ left. one.0 w left)
          (λ right. ⊎_elim
          (λ here. subst (λ u. IsTrue (is_less graph x u)) here own)
          (λ later. less_transitive graph x v w own (more w later))
          (Contains-cases v ys w right))
          (Contains-append_cases xs (v ∷ ys) w among)

-- In an increasing list, the elements before a value are less than the value, and the elements
-- after the value are greater.
pub increasing_less :
    (graph : List Obj) (xs : List Val) (v : Val) (ys : List Val) → AreIncreasing graph (xs ++ v ∷ ys) → AllLess graph xs v
increasing_less graph [] v ys all x among = absurd (Contains-none x among)
increasing_less graph (y ∷ xs) v ys all x among = ⊎_elim
    (λ here. subst (λ z. IsTrue (is_less graph z v)) here (all.0 v (Contains-append_right xs (v ∷ ys) v (Contains-first v ys))))
    (λ later. increasing_less graph xs v ys all.1 x later)
    (Contains-cases y xs x among)

pub increasing_more :
    (graph : List Obj) (xs : List Val) (v : Val) (ys : List Val) → AreIncreasing graph (xs ++ v ∷ ys) → AllMore graph ys v
increasing_more graph [] v ys all = all.0
increasing_more graph (x ∷ xs) v ys all = increasing_more graph xs v ys all.1
