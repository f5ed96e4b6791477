-- Lemmas about the termination measure for heads.
use Rattle.std.proofs.Common.{ℕ, zero, suc, ◌+◌, ◌<◌, ◌≤◌, ◌≡◌, ◌∙◌, List, Option, Some, None}
use Rattle.std.proofs.Common.{refl, ap, arith}
use Rattle.types_spec.specs.declared.types.decl.Decl.{Decl}
use Rattle.types_spec.specs.types.Ty.{Ty, variable, named, tuple, bracket, part, tag, tag_of, including}
use Rattle.types_spec.specs.types.Declarations.{unfolded}
use Rattle.types_spec.specs.types.WellFormed.{AreSound}
use Rattle.types_spec.specs.types.Head.{enough}
use Rattle.types_build.specs.representation.Work.{written_work, work_by, work_within, work}
use Rattle.types_theory.proofs.equality.RankedLemmas.{are_ranked}
use Rattle.types_theory.proofs.equality.WeightLemmas.{AreRanked, heft, falls, bound, by_including, inside, price, priced}

module _ (decls : List Decl) (rank : List ℕ → ℕ) (ranked : AreRanked decls rank) where
  abbrev weight : Ty → ℕ
  weight t = heft decls rank ranked t

  written_same :
      (k : ℕ) (one other : Ty → ℕ) → ((a : Ty) → weight a < k → one a ≡ other a)
      → (t : Ty) → weight t ≤ k → written_work one t ≡ written_work other t
  written_same k one other same (variable x) below = refl
  written_same k one other same (named n) below = refl
  written_same k one other same tuple below = refl
  written_same k one other same bracket below = refl
  written_same k one other same (part t a) below = refl
  written_same k one other same (tag t x) below = ap suc (written_same k one other same t below)
  written_same k one other same (tag_of t x a) below = ap suc (written_same k one other same t below)
  written_same k one other same (including t a) below =
      let first = written_same k one other same t
      (omega (arith, by_including (price decls rank ranked) (priced decls rank ranked) t a)) in
      let later = same a (omega (arith, inside (price decls rank ranked) (priced decls rank ranked) t a)) in
      ap (λ n. suc (suc (n + one a))) first ∙ ap (λ n. suc (suc (written_work other t + n))) later

  by_same :
      (k : ℕ) (one other : Ty → ℕ) → ((a : Ty) → weight a < k → one a ≡ other a)
      → (t : Ty) → weight t ≤ k → (next : Option Ty) → unfolded decls t ≡ next
      → work_by one t next ≡ work_by other t next
  by_same k one other same t below None is = written_same k one other same t below
  by_same k one other same t below (Some u) is =
      ap (λ n. suc (suc n)) (same u (omega (arith, falls decls rank ranked t u is)))

  settled :
      (n m : ℕ) (t : Ty) → weight t < n → weight t < m → work_within decls n t ≡ work_within decls m t
  settled zero m t below below' = absurd (omega arith)
  settled (suc n) zero t below below' = absurd (omega arith)
  settled (suc n) (suc m) t below below' =
      by_same (weight t) (work_within decls n) (work_within decls m)
      (λ a less. settled n m a (omega arith) (omega arith)) t (omega arith) (unfolded decls t) refl

  again : (t u : Ty) → unfolded decls t ≡ Some u → work decls t ≡ suc (suc (work decls u))
  unfolding work
  again t u is =
      settled (enough decls t) (suc (weight t)) t (bound decls rank ranked t) (omega arith)
      ∙ ap (work_by (work_within decls (weight t)) t) is
      ∙ ap (λ n. suc (suc n)) (settled (weight t) (enough decls u) u (falls decls rank ranked t u is) (bound decls rank ranked u))

  plain : (t : Ty) → unfolded decls t ≡ None → work decls t ≡ written_work (work decls) t
  unfolding work
  plain t is =
      settled (enough decls t) (suc (weight t)) t (bound decls rank ranked t) (omega arith)
      ∙ ap (work_by (work_within decls (weight t)) t) is
      ∙ written_same (weight t) (work_within decls (weight t)) (work decls)
      (λ a less. settled (weight t) (enough decls a) a less (bound decls rank ranked a)) t (omega arith)

module _ (decls : List Decl) (sound : AreSound decls) where
  -- An expansion decreases the measure by two.
  pub work_again : (t u : Ty) → unfolded decls t ≡ Some u → work decls t ≡ suc (suc (work decls u))
  work_again t u is = again decls sound.rank (are_ranked decls sound) t u is

  pub work_plain : (t : Ty) → unfolded decls t ≡ None → work decls t ≡ written_work (work decls) t
  work_plain t is = plain decls sound.rank (are_ranked decls sound) t is

  -- The measure of the written items is at most the measure of the type.
  pub written_least : (t : Ty) → written_work (work decls) t ≤ work decls t
  written_least (variable x) = omega arith
  written_least (named n) = omega arith
  written_least tuple = omega arith
  written_least bracket = omega arith
  written_least (part t a) = omega arith
  written_least (tag t x) = let same = work_plain (tag t x) refl in omega (arith, same)
  written_least (tag_of t x a) = let same = work_plain (tag_of t x a) refl in omega (arith, same)
  written_least (including t a) = let same = work_plain (including t a) refl in omega (arith, same)
