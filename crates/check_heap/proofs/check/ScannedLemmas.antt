-- The consequences of the types that a scan determines.
use Rattle.std.proofs.Common.{ℕ, zero, suc, ◌+◌, ◌<◌, ◌≡◌, ◌∙◌, List, [], ◌∷◌, length, Option, Some, refl, sym, ap, arith}
use Rattle.std.specs.Prelude.{slice_get, slice_index, map, Contains}
use Rattle.std.proofs.lemmas.Option.{same_Some, none-some}
use Rattle.base_data.proofs.model.Options.{slice_get-Contains}
use Rattle.base_data.specs.declared.model.value.Val.TheVariants as vals
use Rattle.base_data.specs.declared.model.value.Obj.{Obj}
use Rattle.types_spec.specs.types.Fitting.{numbered_from}
use Rattle.types_spec.specs.types.Table.{Table, table_shapes}
use Rattle.types_spec.specs.types.Typing.{HasType}
use Rattle.types_theory.specs.typing.StepLaws.{AreApart, key_of}
use Rattle.check_heap.specs.declared.scan.second_types.SecondTypes.{SecondTypes}
use Rattle.check_heap.specs.scan.Seconds.{noted_in}
use Rattle.check_heap.specs.scan.Scanned.{IsScanned, pairs_with}
use Rattle.check_heap.specs.check.Verdict.{IsYes}
use Rattle.check_heap.proofs.scan.IncreaseLemmas.{numbered}
use Rattle.std.proofs.lemmas.List.{length-append}
use Rattle.base_data.proofs.model.Lists.{slice_get-append_left, slice_get-append_right}
use Rattle.check_heap.proofs.scan.ScanPositionLemmas.{mapped_at}

-- The pair with number `s + k` is at index `k`.
pub numbered_there : (s : ℕ) (ts : List ℕ) (k n : ℕ) → n ≡ s + k → k < length ts → slice_get (numbered_from s ts) k ≡ Some (n, slice_index ts k)
numbered_there s [] k n is less = absurd (omega arith)
numbered_there s (t ∷ ts) zero n is less = let same : s ≡ n = omega (arith, is) in ap (λ m. Some (m, t)) same
numbered_there s (t ∷ ts) (suc k) n is less = numbered_there (suc s) ts k n (omega (arith, is)) (omega arith)

pub length_numbered : (s : ℕ) (ts : List ℕ) → length (numbered_from s ts) ≡ length ts
length_numbered s [] = refl
length_numbered s (t ∷ ts) = ap suc (length_numbered (suc s) ts)

-- ---- types, and objects at further types

pub length_pairs : (types : List ℕ) (seconds : SecondTypes) → length (pairs_with types seconds) ≡ length types + length (noted_in seconds)
length_pairs types seconds = length-append (numbered_from 0 types) (noted_in seconds) ∙ ap (λ n. n + length (noted_in seconds)) (length_numbered 0 types)

pub pair_first :
    (types : List ℕ) (seconds : SecondTypes) (k : ℕ) → k < length types → slice_get (pairs_with types seconds) k ≡ Some (k, slice_index types k)
pair_first types seconds k less =
    slice_get-append_left (numbered_from 0 types) (noted_in seconds) k (k, slice_index types k) (numbered_there 0 types k k (omega arith) less)

pub pair_later :
    (types : List ℕ) (seconds : SecondTypes) (k m : ℕ) (p : ℕ × ℕ) → k ≡ length types + m → slice_get (noted_in seconds) m ≡ Some p
    → slice_get (pairs_with types seconds) k ≡ Some p
pair_later types seconds k m p is at_m =
    ap (slice_get (pairs_with types seconds)) (is ∙ ap (λ n. n + m) (sym (length_numbered 0 types)))
    ∙ slice_get-append_right (numbered_from 0 types) (noted_in seconds) m ∙ at_m

-- ---- consequences for the value

pub first_pair : (types : List ℕ) (t : ℕ) → slice_get types 0 ≡ Some t → Contains (numbered_from 0 types) (0, t)
first_pair [] t at_0 = absurd (none-some t at_0)
first_pair (u ∷ types) t at_0 = slice_get-Contains (numbered_from 0 (u ∷ types)) 0 (0, t) (ap (λ w. Some (0, w)) (same_Some u t at_0))

-- The pairs of a number and a type are distinct, because the numbers are distinct.
pub numbers_apart : (table : Table) (types : List ℕ) → AreApart (map (key_of table) (numbered_from 0 types))
numbers_apart table types j k key at_j at_k =
    let p = mapped_at (key_of table) (numbered_from 0 types) j key at_j in
    let q = mapped_at (key_of table) (numbered_from 0 types) k key at_k in
    let one = numbered 0 types j p.0.0 p.0.1 p.1 in
    let other = numbered 0 types k q.0.0 q.0.1 q.1 in
    let same = ap (λ (x : ℕ × Option ℕ). x.0) (p.2 ∙ sym q.2) in
    omega (arith, one, other, same)

-- If a scan determined all types, then object 0 has type 0.
pub scanned_yes :
    (table : Table) (graph : List Obj) (types : List ℕ) → IsScanned table graph types
    → HasType (table_shapes table) graph (vals.Ref 0) 0 × IsYes table graph (vals.Ref 0) (numbered_from 0 types)
scanned_yes table graph types scanned =
    let pair = first_pair types 0 scanned.root in (
      record { fits = scanned.typing.fits 0 0 pair; typed = (numbered_from 0 types, scanned.typing, pair) },
      record { typing = scanned.typing; rooted = (0, pair, refl); apart = numbers_apart table types },
    )
