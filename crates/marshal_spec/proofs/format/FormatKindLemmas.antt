-- Lemmas on the table of codes.
use Rattle.std.proofs.Common.{ℕ, ◌<◌, ◌≤◌, ◌%◌, ◌/◌, ◌≡◌, Bool, true, false, List, [], ◌∷◌, Result, Ok, Err, cond, arith, subst, get_or, zero, suc, leb}
use Rattle.std.specs.Prelude.{IfOk}
use Rattle.std.specs.List.{AllByRecursion}
use Rattle.std.proofs.lemmas.Bool.Decides.{nat_tests}
use Rattle.std.proofs.lemmas.List.{get_or_past}
use Rattle.base_data.specs.declared.model.code.CodeKind.{CodeKind}
use Rattle.base_data.specs.declared.model.code.CodeKind.TheVariants.{SmallBlock, SmallInt, SmallString}
use Rattle.base_data.specs.declared.model.code.CodeFault.{CodeFault}
use Rattle.base_data.specs.declared.model.code.CodeFault.TheVariants.{BadCode}
use Rattle.marshal_spec.specs.format.Code.{kind_of, large_kinds, IsKind}

-- If a predicate holds for each entry of a table and for the default, then the predicate holds for
-- each entry found.
found : {X : Type 0} (P : X → Type 0) (d : X) → P d → (xs : List X) → AllByRecursion P xs → (i : ℕ) → P (get_or xs i d)
found P d h [] all i = h
found P d h (x ∷ xs) all zero = all.0
found P d h (x ∷ xs) all (suc i) = found P d h xs all.1 i

-- If the table's entry is a kind, then the kind's numbers are in range.
abbrev pub InRange : Result CodeKind CodeFault → Type 0
InRange result = IfOk result IsKind

one : (1 ≤ 1) × (1 ≤ 8)
one = (omega arith, omega arith)

two : (1 ≤ 2) × (2 ≤ 8)
two = (omega arith, omega arith)

four : (1 ≤ 4) × (4 ≤ 8)
four = (omega arith, omega arith)

eight : (1 ≤ 8) × (8 ≤ 8)
eight = (omega arith, omega arith)

large_in_range : AllByRecursion InRange large_kinds
large_in_range = (
  one,
  (
    two,
    (
      four,
      (
        eight,
        (
          one,
          (
            two,
            (
              four,
              (
                four,
                (
                  four,
                  (
                    one,
                    (
                      four,
                      (
                        tt,
                        (
                          tt,
                          (
                            one,
                            (
                              one,
                              (
                                four,
                                (tt, (tt, (tt, (eight, (eight, (eight, (eight, (eight, (tt, (tt, tt)))))))))),
                              ),
                            ),
                          ),
                        ),
                      ),
                    ),
                  ),
                ),
              ),
            ),
          ),
        ),
      ),
    ),
  ),
)

choose : (b : Bool) (x y : Result CodeKind CodeFault) → InRange x → InRange y → InRange (cond b x y)
choose true x y p q = p
choose false x y p q = q

-- The kind of each code has numbers in range.
pub kind_of-in_range : (code : ℕ) → InRange (kind_of code)
unfolding kind_of
kind_of-in_range code =
    let block : InRange (Ok (SmallBlock (code % 16) (code / 16 % 8))) = (omega arith, omega arith) in
    let int : InRange (Ok (SmallInt (code % 64))) = omega arith in
    let string : InRange (Ok (SmallString (code % 32))) = omega arith in
    let below_32 : InRange (get_or large_kinds code (Err BadCode)) = found InRange (Err BadCode) tt large_kinds large_in_range code in
    let strings : Result CodeKind CodeFault = Ok (SmallString (code % 32)) in
    let ints : Result CodeKind CodeFault = Ok (SmallInt (code % 64)) in
    let blocks : Result CodeKind CodeFault = Ok (SmallBlock (code % 16) (code / 16 % 8)) in
    let large = get_or large_kinds code (Err BadCode) in
    let below_64 = choose (leb 32 code) strings large string below_32 in
    let below_128 = choose (leb 64 code) ints (cond (leb 32 code) strings large) int below_64 in
    choose (leb 128 code) blocks (cond (leb 64 code) ints (cond (leb 32 code) strings large)) block below_128

pub IsKind-kind_of : (code : ℕ) (kind : CodeKind) → kind_of code ≡ Ok kind → IsKind kind
IsKind-kind_of code kind e = subst InRange e (kind_of-in_range code)

-- If a code is from 26 to 31, then the code is a `BadCode`.
pub past_the_table : (code : ℕ) → 26 ≤ code → code < 32 → kind_of code ≡ Err BadCode
unfolding kind_of
past_the_table code past below =
    let e = get_or_past large_kinds code (Err BadCode) past in
    grind (arith, nat_tests, e)
