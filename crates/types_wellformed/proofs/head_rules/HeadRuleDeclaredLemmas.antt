-- Lemmas about a rule that each declaration keeps or breaks by itself, one declaration at a time.
use Rattle.std.proofs.Common.{ℕ, ◌<◌, ◌≤◌, ◌+◌, ◌≡◌, ◌∙◌, ◌⊎◌, ⊎_elim, inr, Bool, List, Option, Some, length, get_or, refl, sym, ap, subst, arith}
use Rattle.std.specs.Prelude.{slice_get, Contains, IsTrue, ◌↔◌}
use Rattle.std.proofs.lemmas.Option.{same_Some, slice_get_read, slice_get-get_or, slice_get_within}
use Rattle.base_data.proofs.model.Options.{slice_get-Contains}
use Rattle.base_data.proofs.model.Lists.{map-slice_get}
use Rattle.types_spec.specs.declared.types.decl.Decl.{Decl}
use Rattle.types_spec.specs.types.Occurrence.{Placed, DeclPositions}
use Rattle.types_spec.specs.types.Scope.{decls_of, declared_names}
use Rattle.types_resolve.specs.scope.Least.{IsLeast, earliest, position_if}
use Rattle.types_resolve.proofs.scope.ScopeLeastLemmas.{least_same, least_more, least_if, Before}
use Rattle.types_resolve.proofs.scope.ScopeFileLemmas.{decl_at, name_placed}
use Rattle.types_wellformed.specs.head_rules.Rules.{DeclBreaksAt, SomeDeclBreaks}

module _ (Breaks : Decl → Type 0) (decls : List Decl) (names : List Placed) where
  broken_at :
      (i : ℕ) (d : Decl) (p : Placed) (test : Bool) → slice_get decls i ≡ Some d → slice_get names i ≡ Some p
      → IsTrue test ↔ Breaks d
      → IsLeast (DeclBreaksAt Breaks decls names i) (position_if test p.0)
  broken_at i d p test d_is p_is says =
      least_same (λ k. (p.0 ≡ k) × Breaks d) (DeclBreaksAt Breaks decls names i) (position_if test p.0)
      (least_if (Breaks d) test p.0 says.0 says.1)
      (λ k broken. (d, p, d_is, p_is, broken.0, broken.1))
      (λ k at.
      let same_d : at.0 ≡ d = same_Some at.0 d (sym at.2 ∙ d_is) in
      let same_p : at.1 ≡ p = same_Some at.1 p (sym at.3 ∙ p_is) in
      (ap (λ (q : Placed). q.0) (sym same_p) ∙ at.4, subst Breaks same_d at.5))

  -- The invariant of the loop over declarations holds after one more iteration.
  pub more_declared :
      (i : ℕ) (d : Decl) (p : Placed) (test : Bool) (position : ℕ) (best found next : Option ℕ)
      → length decls ≡ length names → i < length decls → d ≡ get_or decls i d → p ≡ get_or names i p
      → position ≡ p.0 → found ≡ position_if test position
      → IsTrue test ↔ Breaks d
      → IsLeast (Before (DeclBreaksAt Breaks decls names) i) best → next ≡ earliest best found
      → IsLeast (Before (DeclBreaksAt Breaks decls names) (i + 1)) next
  more_declared i d p test position best found next counted below d_read p_read position_is found_is says so_far is =
      let within : i < length names = omega arith in
      let here : IsLeast (DeclBreaksAt Breaks decls names i) found =
      subst (IsLeast (DeclBreaksAt Breaks decls names i)) (sym (found_is ∙ ap (position_if test) position_is))
      (broken_at i d p test (slice_get_read decls (length decls) i d refl below d_read)
      (slice_get_read names (length names) i p refl within p_read) says) in
      subst (IsLeast (Before (DeclBreaksAt Breaks decls names) (i + 1))) (sym is)
      (least_more (DeclBreaksAt Breaks decls names) i best found so_far here)

  pub all_declared :
      (i : ℕ) (best : Option ℕ) → i ≤ length decls → length decls ≤ i
      → IsLeast (Before (DeclBreaksAt Breaks decls names) i) best → IsLeast (SomeDeclBreaks Breaks decls names) best
  all_declared i best le ge least = let e : i ≡ length decls = omega arith in
      subst (λ n. IsLeast (Before (DeclBreaksAt Breaks decls names) n) best) e least

-- Some declaration of a file breaks the rule at lexeme `k`.
abbrev BreaksDeclared : (Decl → Type 0) → List DeclPositions → ℕ → Type 0
BreaksDeclared Breaks all k = ⊥ ⊎ ((d : DeclPositions) × Contains all d × ((d.position ≡ k) × Breaks d.decl))

in_file :
    (Breaks : Decl → Type 0) (all : List DeclPositions) (k : ℕ)
    → SomeDeclBreaks Breaks (decls_of all) (declared_names all) k ↔ BreaksDeclared Breaks all k
in_file Breaks all k = (
  λ (i, below, (d, p, d_is, p_is, placed, broken)).
      let x = map-slice_get (λ (e : DeclPositions). e.decl) all i d d_is in
      let p_same : (x.0.position, x.0.decl.name) ≡ p = same_Some (x.0.position, x.0.decl.name) p (sym (name_placed all i x.0 x.1) ∙ p_is) in
      inr (
        x.0,
        slice_get-Contains all i x.0 x.1,
        (ap (λ (q : Placed). q.0) p_same ∙ placed, subst Breaks (sym x.2) broken),
      ),
  λ broken. ⊎_elim
      (λ never. absurd never)
      (λ some.
      let d : DeclPositions = some.0 in
      let i : ℕ = some.1.0 in
      let at : slice_get all i ≡ Some d = slice_get-get_or all i d some.1.1 ∙ ap Some some.1.2 in
      let d_is = decl_at all i d at in (
        i,
        slice_get_within (decls_of all) i d.decl d_is,
        (d.decl, (d.position, d.decl.name), d_is, name_placed all i d at, some.2.0, some.2.1),
      ))
      broken,
)

-- Some declaration breaks the rule if and only if the file breaks the rule.
pub declared_agree :
    (Breaks : List Decl → Decl → Type 0) (decls : List Decl) (names : List Placed) (all : List DeclPositions)
    → decls ≡ decls_of all → names ≡ declared_names all → (k : ℕ)
    → SomeDeclBreaks (Breaks decls) decls names k ↔ BreaksDeclared (Breaks (decls_of all)) all k
declared_agree Breaks decls names all declares named k =
    subst (λ ds. SomeDeclBreaks (Breaks ds) ds names k ↔ BreaksDeclared (Breaks (decls_of all)) all k) (sym declares)
    (subst (λ ns. SomeDeclBreaks (Breaks (decls_of all)) (decls_of all) ns k ↔ BreaksDeclared (Breaks (decls_of all)) all k) (sym named)
    (in_file (Breaks (decls_of all)) all k))
