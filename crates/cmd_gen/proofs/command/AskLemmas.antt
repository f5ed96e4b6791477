-- The arguments that request `gen` have a number and a count in their ranges.
use Rattle.std.proofs.Common.{◌≡◌, ◌^◌, ◌<◌, ◌≤◌, ℕ, List, [], ◌∷◌, Bool, true, false, Some, subst, arith}
use Rattle.std.specs.Prelude.{find, if◌then◌else◌}
use Rattle.std.specs.Str.{bytes_eq}
use Rattle.clap.specs.Words.{Row}
use Rattle.cli_spec.specs.declared.read_options.ReadOptions.{ReadOptions}
use Rattle.cli_spec.specs.CommandLine.{Request, own, report, the_verdict, certify, generate, read_by, Form, forms, HasArguments, AreReadAs, Asks}

-- If the request is for `gen`, then the number and the count are in range.
abbrev IsRanged : Request → Type 0
IsRanged (own (generate number count type)) = (number < 2 ^ 31) × (count ≤ 1000000)
IsRanged request = Unit {0}

-- The form of arguments requests only numbers in range.
abbrev AsksRanged : Form → Type 0
AsksRanged form = (rows : List Row) (request : Request)
    → HasArguments form.arguments form.asks rows request → IsRanged request

abbrev AllRanged : List Form → Type 0
AllRanged [] = Unit {0}
AllRanged (form ∷ rest) = AsksRanged form × AllRanged rest

found_ranged :
    (test : Form → Bool) (all : List Form) → AllRanged all → (form : Form)
    → find test all ≡ Some form → AsksRanged form
found_ranged test [] ranged form e = absurd (cc e)
found_ranged test (first ∷ rest) ranged form e =
    by (test first) e (found_ranged test rest ranged.1 form) where
      by : (b : Bool) → (if b then Some first else find test rest) ≡ Some form
          → (find test rest ≡ Some form → AsksRanged form) → AsksRanged form
      by true e later = let same : first ≡ form = cc e in subst AsksRanged same ranged.0
      by false e later = later e

below_number : (n : ℕ) → n ≤ 2147483647 → n < 2 ^ 31
below_number n fits = omega arith

-- If two requests are in range, then the chosen request is in range.
either_ranged :
    (used : Bool) (one other : Request) → IsRanged one → IsRanged other
    → IsRanged (if used then one else other)
either_ranged true one other a b = a
either_ranged false one other a b = b

all_ranged : AllRanged forms
all_ranged = (
  λ rows request h.
      let reading : ReadOptions = read_by h.2.2.2.0 h.2.2.2.2.0 h.2.0 in
      subst IsRanged h.2.2.2.2.2.2.2
      (either_ranged h.0 (own (certify h.2.2.2.2.2.0 h.2.2.2.2.2.2.0 h.2.2.0 reading))
      (report the_verdict h.2.2.2.2.2.0 h.2.2.2.2.2.2.0 h.2.2.0 reading) tt tt),
  (
    λ rows request h. subst IsRanged h.2.2.2.2.2.2.2.2 tt,
    (
      λ rows request h. subst IsRanged h.2.2.2.2.2.2.2.2.2 tt,
      (
        λ rows request h. subst IsRanged h.2.2.2.2.2.2.2.2 tt,
        (
          λ rows request h. subst IsRanged h.2.2.2.2.2 tt,
          (
            λ rows request h. subst IsRanged h.2.2.2 tt,
            (
              λ rows request h. subst IsRanged h.2.2 tt,
              (
                λ rows request h. subst IsRanged h.2.2.2.2 tt,
                (
                  λ rows request h. subst IsRanged h.2.2.2.2.2.2 tt,
                  (
                    λ rows request h.
                        subst IsRanged h.2.2.2 (below_number h.0 h.1.4, h.2.1.4),
                    (λ rows request h. subst IsRanged h.2 tt, tt),
                  ),
                ),
              ),
            ),
          ),
        ),
      ),
    ),
  ),
)

pub asked_in_range :
    (words : List (List ℕ)) (number count : ℕ) (type : List ℕ)
    → Asks words (own (generate number count type)) → (number < 2 ^ 31) × (count ≤ 1000000)
unfolding Asks AreReadAs
asked_in_range words number count type ((command, rows, accepted, (form, found, arguments)), whole) =
    found_ranged (λ form. bytes_eq form.name command) forms all_ranged form found rows
    (own (generate number count type)) arguments
