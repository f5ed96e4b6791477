-- Names that occur twice in a list.
use Rattle.std.proofs.Common.{ℕ, ◌<◌, ◌+◌, ◌≡◌, ◌≢◌, Option, Some, None, List}
use Rattle.std.proofs.Common.{◌≤◌, length, get_or, refl, sym, ap, subst, arith, ◌∙◌}
use Rattle.std.specs.Prelude.{slice_get, MatchOption, IsTrue, map, is_some, option_map}
use Rattle.std.proofs.lemmas.Option.{slice_get-map, same_Some, slice_get_within, slice_get_read, none-some}
use Rattle.std.proofs.lemmas.Bool.{false≢true}
use Rattle.types_spec.specs.types.Occurrence.{Placed}
use Rattle.types_spec.specs.types.Scope.{IsSecond}
use Rattle.types_resolve.specs.scope.Least.{IsLeast, earliest, position_if}
use Rattle.types_resolve.specs.scope.NamePositions.{IsFirstPosition, ArePositions}
use Rattle.types_resolve.proofs.scope.ScopeLeastLemmas.{least_same, least_if, least_more, Before}

abbrev pub names_of : List Placed → List (List ℕ)
names_of row = map (λ (p : Placed). p.1) row

-- The list contains the name at an index before `j`.
abbrev pub StandsBefore : List Placed → ℕ → List ℕ → Type 0
StandsBefore row j name =
    (i : ℕ) × (i < j) × (position : ℕ) × (slice_get row i ≡ Some (position, name))

abbrev pub SecondAt : List Placed → ℕ → ℕ → Type 0
SecondAt row j k =
    (name : List ℕ) × (slice_get row j ≡ Some (k, name)) × StandsBefore row j name

placed_at :
    (row : List Placed) (i : ℕ) (name : List ℕ) (o : Option Placed) → slice_get row i ≡ o
    → option_map (λ (p : Placed). p.1) o ≡ Some name
    → (position : ℕ) × (slice_get row i ≡ Some (position, name))
placed_at row i name None at named = absurd (none-some name named)
placed_at row i name (Some p) at named =
    (p.0, at ∙ ap (λ x. Some (p.0, x)) (same_Some p.1 name named))

had_is :
    (row : List Placed) (j : ℕ) (name : List ℕ) (had : Option ℕ)
    → MatchOption had ((i : ℕ) → i < j → slice_get (names_of row) i ≢ Some name)
    (IsFirstPosition (names_of row) j name)
    → (IsTrue (is_some had) → StandsBefore row j name)
    × (StandsBefore row j name → IsTrue (is_some had))
had_is row j name None none = (
  λ never. absurd (false≢true never),
  λ before. absurd (none before.0 before.1
      (slice_get-map (λ (p : Placed). p.1) row before.0
      ∙ ap (option_map (λ (p : Placed). p.1)) before.3)),
)
had_is row j name (Some i) first = (
  λ yes. let at = placed_at row i name (slice_get row i) refl
      (sym (slice_get-map (λ (p : Placed). p.1) row i) ∙ first.is) in
      (i, first.below, at.0, at.1),
  λ before. refl,
)

pub second_at :
    (row : List Placed) (j : ℕ) (p : Placed) (numbers : List ℕ → Option ℕ)
    → slice_get row j ≡ Some p → ArePositions (names_of row) j numbers
    → IsLeast (SecondAt row j) (position_if (is_some (numbers p.1)) p.0)
second_at row j p numbers at positions =
    let had = had_is row j p.1 (numbers p.1) (positions p.1) in
    least_same (λ k. (p.0 ≡ k) × StandsBefore row j p.1) (SecondAt row j)
    (position_if (is_some (numbers p.1)) p.0)
    (least_if (StandsBefore row j p.1) (is_some (numbers p.1)) p.0 had.0 had.1)
    (λ k here. (p.1, at ∙ ap (λ x. Some (x, p.1)) here.0, here.1))
    (λ k second. let same : p ≡ (k, second.0) = same_Some p (k, second.0) (sym at ∙ second.1) in
    (ap (λ (x : Placed). x.0) same, subst (StandsBefore row j) (sym (ap (λ (x : Placed). x.1) same)) second.2))

pub seconds_of_row :
    (row : List Placed) (best : Option ℕ) → IsLeast (Before (SecondAt row) (length row)) best
    → IsLeast (IsSecond row) best
seconds_of_row row best least =
    least_same (Before (SecondAt row) (length row)) (IsSecond row) best least
    (λ k some. record {
      earlier = some.2.2.0;
      later = some.0;
      position = some.2.2.2;
      name = some.2.0;
      before = some.2.2.1;
      first = some.2.2.3;
      second = some.2.1;
    })
    (λ k second. (
      second.later,
      slice_get_within row second.later (k, second.name) second.second,
      (second.name, second.second, (second.earlier, second.before, second.position, second.first)),
    ))

-- The invariant of the loop over a list of names holds after one more iteration.
pub more_seconds :
    (row : List Placed) (j : ℕ) (p : Placed) (numbers : List ℕ → Option ℕ)
    (best had found next : Option ℕ) → j < length row → p ≡ get_or row j p
    → ArePositions (names_of row) j numbers → IsLeast (Before (SecondAt row) j) best
    → had ≡ numbers p.1 → found ≡ position_if (is_some had) p.0 → next ≡ earliest best found
    → IsLeast (Before (SecondAt row) (j + 1)) next
more_seconds row j p numbers best had found next below read positions least had_is' found_is is =
    subst (IsLeast (Before (SecondAt row) (j + 1))) (sym is)
    (least_more (SecondAt row) j best found least
    (subst (IsLeast (SecondAt row j)) (sym (found_is ∙ ap (λ o. position_if (is_some o) p.0) had_is'))
    (second_at row j p numbers (slice_get_read row (length row) j p refl below read) positions)))

pub all_seconds :
    (row : List Placed) (j : ℕ) (best : Option ℕ) → j ≤ length row → length row ≤ j
    → IsLeast (Before (SecondAt row) j) best → IsLeast (IsSecond row) best
all_seconds row j best le ge least = let e : j ≡ length row = omega arith in
    seconds_of_row row best (subst (λ n. IsLeast (Before (SecondAt row) n) best) e least)

-- The name at index `j` of the list of names is the name of item `j`.
pub name_at :
    (row : List Placed) (j : ℕ) (p : Placed) → j < length row → p ≡ get_or row j p
    → slice_get (names_of row) j ≡ Some p.1
name_at row j p below read = slice_get-map (λ (x : Placed). x.1) row j
    ∙ ap (option_map (λ (x : Placed). x.1)) (slice_get_read row (length row) j p refl below read)
