-- The number of heights that are less than a given number.
use Rattle.std.proofs.Common.{ℕ, zero, suc, ◌≡◌, ◌<◌, ◌≤◌, ◌+◌, Bool, true, false, List, [], ◌∷◌, Some, refl, sym, ap, subst, arith}
use Rattle.std.specs.Prelude.{slice_get, ℤ, int_lt, ◌<ℤ◌, ◌≤ℤ◌}
use Rattle.std.proofs.lemmas.Int.{ints}
use Rattle.std.proofs.lemmas.Option.{same_Some, none-some}

abbrev pub one_if : Bool → ℕ
one_if true = 1
one_if false = 0

-- The number of heights in the list that are less than `z`.
abbrev pub lower : List ℤ → ℤ → ℕ
lower [] z = 0
lower (y ∷ heights) z = one_if (int_lt y z) + lower heights z

one_more : (a b : Bool) → (a ≡ true → b ≡ true) → one_if a ≤ one_if b
one_more false b more = omega arith
one_more true b more = subst (λ c. 1 ≤ one_if c) (sym (more refl)) (omega arith)

at_most_one : (a : Bool) → one_if a ≤ 1
at_most_one true = omega arith
at_most_one false = omega arith

less_still : (x y z : ℤ) → y ≤ℤ z → int_lt x y ≡ true → int_lt x z ≡ true
less_still x y z less is = grind (arith, ints)

pub lower_more : (heights : List ℤ) (y z : ℤ) → y ≤ℤ z → lower heights y ≤ lower heights z
lower_more [] y z less = omega arith
lower_more (x ∷ heights) y z less =
    let here = one_more (int_lt x y) (int_lt x z) (less_still x y z less) in
    let rest = lower_more heights y z less in
    omega (arith, here, rest)

not_itself : (z : ℤ) → int_lt z z ≡ false
not_itself z = grind (arith, ints)

is_under : (y z : ℤ) → y <ℤ z → int_lt y z ≡ true
is_under y z less = grind (arith, ints)

under_at_most : (y z : ℤ) → y <ℤ z → y ≤ℤ z
under_at_most y z less = omega (arith, ints)

-- If `x` is one of the heights and less than `z`, then fewer heights are less than `x` than are
-- less than `z`.
pub lower_less : (heights : List ℤ) (i : ℕ) (x z : ℤ) → slice_get heights i ≡ Some x → x <ℤ z → lower heights x < lower heights z
lower_less [] i x z at less = absurd (none-some x at)
lower_less (y ∷ heights) zero x z at less =
    let is : y ≡ x = same_Some y x at in
    let none : one_if (int_lt y x) ≡ 0 = subst (λ w. one_if (int_lt w x) ≡ 0) (sym is) (ap one_if (not_itself x)) in
    let one : one_if (int_lt y z) ≡ 1 = subst (λ w. one_if (int_lt w z) ≡ 1) (sym is) (ap one_if (is_under x z less)) in
    let rest = lower_more heights x z (under_at_most x z less) in
    omega (arith, none, one, rest)
lower_less (y ∷ heights) (suc i) x z at less =
    let here = one_more (int_lt y x) (int_lt y z) (less_still y x z (under_at_most x z less)) in
    let rest = lower_less heights i x z at less in
    omega (arith, here, rest)
