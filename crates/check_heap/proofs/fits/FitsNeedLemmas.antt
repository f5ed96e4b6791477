-- The typed fields, by index.
use Rattle.std.proofs.Common.{ℕ, zero, suc, ◌+◌, ◌<◌, ◌≤◌, ◌≡◌, ◌∙◌, ⊎_elim, List, [], ◌∷◌, length}
use Rattle.std.proofs.Common.{Some, None, refl, ap, sym, cond, ◌==◌, arith}
use Rattle.std.specs.Prelude.{slice_get, replicate, option_map, find}
use Rattle.std.proofs.lemmas.Bool.Decides.{eqb_tells}
use Rattle.std.proofs.lemmas.Option.{none-some, same_Some}
use Rattle.std.proofs.lemmas.List.{length-replicate}
use Rattle.types_spec.specs.types.Fault.{type_of_field}
use Rattle.types_spec.specs.types.Fitting.{numbered_from}

pub length-numbered : {T : Type 0} (s : ℕ) (ts : List T) → length (numbered_from s ts) ≡ length ts
length-numbered s [] = refl
length-numbered s (t ∷ ts) = ap suc (length-numbered (suc s) ts)

numbered_from_at : {T : Type 0} (s : ℕ) (ts : List T) (k : ℕ) (t : T) → slice_get ts k ≡ Some t → slice_get (numbered_from s ts) k ≡ Some (s + k, t)
numbered_from_at s [] k t at_k = absurd (none-some t at_k)
numbered_from_at s (u ∷ ts) zero t at_k =
    let number : s ≡ s + 0 = omega arith in
    ap (λ v. Some (s, v)) (same_Some u t at_k) ∙ ap (λ n. Some (n, t)) number
numbered_from_at {T} s (u ∷ ts) (suc k) t at_k =
    let number : suc s + k ≡ s + suc k = omega arith in
    numbered_from_at (suc s) ts k t at_k ∙ ap (λ (n : ℕ). let p : ℕ × T = (n, t) in Some p) number

pub slice_get-numbered : {T : Type 0} (ts : List T) (k : ℕ) (t : T) → slice_get ts k ≡ Some t → slice_get (numbered_from 0 ts) k ≡ Some (k, t)
slice_get-numbered {T} ts k t at_k =
    let number : 0 + k ≡ k = omega arith in
    numbered_from_at 0 ts k t at_k ∙ ap (λ (n : ℕ). let p : ℕ × T = (n, t) in Some p) number

pub slice_get-replicate : {T : Type 0} (n k : ℕ) (t : T) → k < n → slice_get (replicate n t) k ≡ Some t
slice_get-replicate zero k t less = absurd (omega arith)
slice_get-replicate (suc n) zero t less = refl
slice_get-replicate (suc n) (suc k) t less = slice_get-replicate n k t (omega arith)

pub length-each : {T : Type 0} (n : ℕ) (t : T) → length (numbered_from 0 (replicate n t)) ≡ n
length-each n t = length-numbered 0 (replicate n t) ∙ length-replicate n t

-- ---- the type of a field

slice_get-empty : {T : Type 0} (i : ℕ) → None ≡ slice_get {X = T} [] i
slice_get-empty zero = refl
slice_get-empty (suc i) = refl

pub type_of_field-from :
    {T : Type 0} (s : ℕ) (ts : List T) (i n : ℕ) → n ≡ s + i
    → type_of_field (numbered_from s ts) n ≡ slice_get ts i
type_of_field-from s [] i n is = slice_get-empty i
type_of_field-from {T} s (t ∷ ts) zero n is = ⊎_elim
    (λ same. ap (λ test. option_map (λ (need : ℕ × T). need.1)
    (cond test (Some (s, t)) (find (λ need. need.0 == n) (numbered_from (suc s) ts)))) same.0)
    (λ other. absurd (other.1 (omega (arith, is))))
    (eqb_tells s n)
type_of_field-from {T} s (t ∷ ts) (suc i) n is = ⊎_elim
    (λ same. let first : s ≡ n = same.1 in absurd (omega (arith, is, first)))
    (λ other. ap (λ test. option_map (λ (need : ℕ × T). need.1)
    (cond test (Some (s, t)) (find (λ need. need.0 == n) (numbered_from (suc s) ts)))) other.0
    ∙ type_of_field-from (suc s) ts i n (omega (arith, is)))
    (eqb_tells s n)

pub type_of_field-numbered :
    {T : Type 0} (ts : List T) (i : ℕ) → type_of_field (numbered_from 0 ts) i ≡ slice_get ts i
type_of_field-numbered ts i = type_of_field-from 0 ts i i (omega arith)

pub slice_get-replicate_past :
    {T : Type 0} (n k : ℕ) (t : T) → n ≤ k → slice_get (replicate n t) k ≡ None
slice_get-replicate_past zero k t past = sym (slice_get-empty k)
slice_get-replicate_past (suc n) zero t past = absurd (omega arith)
slice_get-replicate_past (suc n) (suc k) t past = slice_get-replicate_past n k t (omega arith)
