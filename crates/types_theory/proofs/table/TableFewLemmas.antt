-- If the list of the types that a type reaches is short enough, then the type does not reach too
-- many types.
use Rattle.std.proofs.Common.{ℕ, zero, suc, ◌<◌, ◌≤◌, ◌≡◌, ◌∙◌, ⊎_elim, List, [], ◌∷◌, length, Some, refl, sym, ap, subst, arith}
use Rattle.std.specs.Prelude.{Contains, slice_get}
use Rattle.types_spec.specs.declared.types.decl.Decl.{Decl}
use Rattle.types_spec.specs.types.Ty.{Ty}
use Rattle.types_spec.specs.types.Reached.{IsReached, AreDistinct, ReachesTooMany}
use Rattle.types_theory.proofs.typing.Choices.{without}
use Rattle.types_theory.proofs.equality.EqualityReachedLemmas.{root_listed, reached_listed}

abbrev AreAll : List Ty → List Ty → Type 0
AreAll xs ys = (k : ℕ) (x : Ty) → slice_get xs k ≡ Some x → Contains ys x

-- If the elements of `xs` are distinct and all in `ys`, then `xs` is at most as long as `ys`.
distinct_fit : (xs ys : List Ty) → AreDistinct xs → AreAll xs ys → length xs ≤ length ys
distinct_fit [] ys distinct all = omega arith
distinct_fit (x ∷ xs) ys distinct all =
    let w = without ys x (all 0 x refl) in
    let shorter = w.shorter in
    let fewer = distinct_fit xs w.rest
    (λ i j u one other. let same : suc i ≡ suc j = distinct (suc i) (suc j) u one other in omega (arith, same))
    (λ k y at. ⊎_elim
    (λ same. let twice : 0 ≡ suc k = distinct 0 (suc k) x refl (at ∙ ap Some (sym same)) in absurd (omega (arith, twice)))
    (λ later. later)
    (w.others y (all (suc k) y at))) in
    omega (arith, shorter, fewer)

-- If a type reaches too many types, then each of the many types is in the list of reached types.
all_listed : (decls : List Decl) (t : Ty) (types : List Ty) → IsReached decls t types → (many : ReachesTooMany decls t) → (n k : ℕ) (u : Ty) → k < n → slice_get many.types k ≡ Some u
    → Contains types u
all_listed decls t types reached many zero k u less at = absurd (omega (arith, less))
all_listed decls t types reached many (suc n) k u less at = ⊎_elim
    (λ root. subst (λ w. Contains types w) (sym root) (root_listed decls t types reached))
    (λ earlier. let before = earlier.2 in
    reached_listed decls t types reached earlier.1 u (all_listed decls t types reached many n earlier.0 earlier.1 (omega (arith, less, before)) earlier.3) earlier.4)
    (many.reached k u at)

pub few_not_many : (decls : List Decl) (t : Ty) (types : List Ty) → IsReached decls t types → length types ≤ 65536 → ReachesTooMany decls t → ⊥
few_not_many decls t types reached few many =
    let fits = distinct_fit many.types types many.distinct (λ k u at. all_listed decls t types reached many (suc k) k u (omega arith) at) in
    let over = many.many in
    omega (arith, fits, few, over)
