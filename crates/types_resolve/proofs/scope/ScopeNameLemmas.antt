-- Lemmas about tables of names.
use Rattle.std.proofs.Common.{ℕ, ◌+◌, ◌≡◌, ◌≢◌, ⊎_elim, Option, Some, None, List, Bool}
use Rattle.std.proofs.Common.{true, false, cond, length, refl, sym, ap, subst, arith, ◌∙◌}
use Rattle.std.specs.Prelude.{slice_get, unwrap_or, IsTrue, is_some, not, ◌↔◌, Contains}
use Rattle.std.specs.Str.{bytes_eq}
use Rattle.std.proofs.lemmas.Bool.{cases_lt, false≢true}
use Rattle.std.proofs.lemmas.Slice.Eq.{bytes_eq-Decides}
use Rattle.std.proofs.lemmas.Option.{same_Some, slice_get-get_or, get_or_from_slice_get}
use Rattle.types_resolve.specs.scope.NamePositions.{added, IsPosition, ArePositions}

more_positions :
    (names : List (List ℕ)) (n : ℕ) (q name : List ℕ) (found : Option ℕ)
    → slice_get names n ≡ Some name → (name ≡ q → ⊥) → IsPosition names n q found
    → IsPosition names (n + 1) q found
more_positions names n q name None here apart none = λ i below at. ⊎_elim
    (λ before. none i before at)
    (λ last. let e : i ≡ n = omega arith in
    apart (same_Some name q (sym here ∙ subst (λ j. slice_get names j ≡ Some q) e at)))
    (cases_lt i n)
more_positions names n q name (Some j) here apart position =
    record { below = let b = position.below in omega arith; is = position.is; first = position.first }

kept_position :
    (names : List (List ℕ)) (n : ℕ) (name : List ℕ) (found : Option ℕ)
    → slice_get names n ≡ Some name → IsPosition names n name found
    → IsPosition names (n + 1) name (Some (unwrap_or found n))
kept_position names n name None here none = record { below = omega arith; is = here; first = none }
kept_position names n name (Some j) here position =
    record { below = let b = position.below in omega arith; is = position.is; first = position.first }

positions_at :
    (names : List (List ℕ)) (n : ℕ) (name q : List ℕ) (numbers : List ℕ → Option ℕ)
    (same : Bool) → (IsTrue same → name ≡ q) → (name ≡ q → IsTrue same)
    → slice_get names n ≡ Some name → ArePositions names n numbers
    → IsPosition names (n + 1) q (cond same (Some (unwrap_or (numbers name) n)) (numbers q))
positions_at names n name q numbers true to from here positions =
    subst (λ x. IsPosition names (n + 1) x (Some (unwrap_or (numbers name) n))) (to refl)
    (kept_position names n name (numbers name) here (positions name))
positions_at names n name q numbers false to from here positions =
    more_positions names n q name (numbers q) here (λ same. absurd (false≢true (from same))) (positions q)

-- If the next name is added to a table of first indices, then the numbers are first indices of one
-- more name.
pub positions_more :
    (names : List (List ℕ)) (n : ℕ) (name : List ℕ) (numbers next : List ℕ → Option ℕ)
    → slice_get names n ≡ Some name → ArePositions names n numbers
    → ((q : List ℕ) → next q ≡ added numbers name n q) → ArePositions names (n + 1) next
positions_more names n name numbers next here positions is = λ q.
    subst (IsPosition names (n + 1) q) (sym (is q))
    (positions_at names n name q numbers (bytes_eq name q) (bytes_eq-Decides name q).0
    (bytes_eq-Decides name q).1 here positions)

-- If the table of all names does not have a name, then the name is not among the names.
pub absent :
    (names : List (List ℕ)) (name : List ℕ) (found : Option ℕ) (test : Bool)
    → IsPosition names (length names) name found → is_some found ≡ not test
    → IsTrue test ↔ (¬ Contains names name)
absent names name None true finds is = (
  λ yes among. finds among.0 among.1
      (slice_get-get_or names among.0 name among.1 ∙ ap Some among.2),
  λ apart. refl,
)
absent names name None false finds is = absurd (false≢true is)
absent names name (Some j) true finds is = absurd (false≢true (sym is))
absent names name (Some j) false finds is = (
  λ yes. absurd (false≢true yes),
  λ apart. absurd (apart (j, finds.below, get_or_from_slice_get names j name name finds.is)),
)
