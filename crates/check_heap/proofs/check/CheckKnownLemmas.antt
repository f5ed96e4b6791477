-- The paths of visits.
use Rattle.std.proofs.Common.{ℕ, ◌<◌, ◌≤◌, ◌≡◌, ◌∙◌, ◌++◌, List, [], ◌∷◌, length, Some, sym, ap, subst, arith}
use Rattle.std.specs.Prelude.{slice_get, reverse}
use Rattle.std.proofs.lemmas.List.{append_assoc, reverse-append}
use Rattle.base_data.proofs.model.Options.{slice_get_there}
use Rattle.check_heap.specs.declared.check.visits.Visit.{Visit}
use Rattle.check_heap.specs.check.KnownVisits.{AreOrdered, IsPathOf, IsRestOf}

-- If `steps` leads from visit `at` to visit `k`, then one more step leads from the parent of `at`.
pub rest_back :
    (all : List Visit) (k at : ℕ) (old new : List ℕ) (v : Visit) → AreOrdered all → IsRestOf all k at (reverse old)
    → 0 < at → slice_get all at ≡ Some v → new ≡ old ++ v.step ∷ [] → IsRestOf all k v.parent (reverse new)
rest_back all k at old new v ordered rest later at_v is =
    let less = ordered at v later at_v in
    let inside = rest.within in
    record {
      within = omega arith;
      rest = λ known e p are at_k at_p.
          let here : at < length known = omega (arith, inside, are.many) in
          let f = slice_get_there known at here in
          rest.rest known e f.0 are at_k f.1
          ∙ ap (λ path. path ++ reverse old) (are.paths at v f.0 p later at_v f.1 at_p)
          ∙ append_assoc p.path (v.step ∷ []) (reverse old)
          ∙ ap (λ steps. p.path ++ steps) (sym (ap reverse is ∙ reverse-append old (v.step ∷ [])));
    }

-- Case: the search for the path back has reached the root.
pub rest_at_root : (all : List Visit) (k at : ℕ) (steps path : List ℕ) → IsRestOf all k at steps → at ≤ 0 → path ≡ steps → IsPathOf all k path
rest_at_root all k at steps path rest root is known e are at_k =
    let inside = rest.within in
    let at_0 : at ≡ 0 = omega arith in
    let here : at < length known = omega (arith, inside, are.many) in
    let f = slice_get_there known at here in
    let empty = are.root f.0 (subst (λ n. slice_get known n ≡ Some f.0) at_0 f.1) in
    sym (rest.rest known e f.0 are at_k f.1 ∙ ap (λ p. p ++ steps) empty ∙ sym is)
