-- A list split into three parts, and the list with its middle part replaced.
use Rattle.std.proofs.Common.{◌≡◌, ℕ, ◌+◌, ◌<◌, ◌≤◌, List, [], ◌∷◌, ◌++◌, length, take, drop, refl, sym, ap, ◌∙◌, arith, length-append, take-append-drop}
use Rattle.std.proofs.lemmas.List.{drop-drop, take_all, append_assoc, length-take-le, length-drop}
use Rattle.std.specs.Prelude.{◌-◌, slice_range, slice_set}
use Rattle.std.proofs.Math.Seq.{set_split}
use Prim.Native.Nat.{suc}
use native.Mathlib.Nat.{not-suc-le-zero}
use Rattle.marshal_heap.specs.arena.Region.{overwritten}

pub cut_in_three : (words : List ℕ) (i n : ℕ) → words ≡ take i words ++ (slice_range words i (i + n) ++ drop (i + n) words)
cut_in_three words i n =
    let count : i + n - i ≡ n = omega arith in
    sym (take-append-drop i words) ∙ ap (λ (rest : List ℕ). take i words ++ rest)
    (sym (take-append-drop n (drop i words)) ∙ ap (λ (rest : List ℕ). take n (drop i words) ++ rest) (drop-drop n i words) ∙ ap (λ (k : ℕ). take k (drop i words) ++ drop (i + n) words) (sym count))

pub overwritten_is : (words : List ℕ) (i n : ℕ) (part : List ℕ) → i + n ≤ length words → length part ≡ n → overwritten words i part ≡ take i words ++ (part ++ drop (i + n) words)
overwritten_is words i n part within long =
    let prefix : length (take i words ++ part) ≡ i + n = omega (arith, length-append (take i words) part, length-take-le i words) in
    let all : length (take i words ++ part ++ drop (i + n) words) ≤ length words = omega (arith, length-append (take i words ++ part) (drop (i + n) words), prefix, length-drop (i + n) words) in
    ap (λ (k : ℕ). take (length words) (take i words ++ part ++ drop k words)) prefix ∙ take_all (length words) (take i words ++ part ++ drop (i + n) words) all ∙ append_assoc (take i words) part (drop (i + n) words)

one_set : (part : List ℕ) (w : ℕ) → length part ≡ 1 → slice_set part 0 w ≡ w ∷ []
one_set (v ∷ []) w l = refl
one_set [] w l = let bad : 1 ≤ 0 = omega arith in absurd (not-suc-le-zero bad)
one_set (v ∷ u ∷ part) w l = let bad : suc (length part) ≤ 0 = omega arith in absurd (not-suc-le-zero bad)

suc_is : (i : ℕ) → i + 1 ≡ suc i
suc_is i = omega arith

pub overwritten_one : (words : List ℕ) (i w : ℕ) → i < length words → overwritten words i (slice_set (slice_range words i (i + 1)) 0 w) ≡ slice_set words i w
overwritten_one words i w inside =
    let count : i + 1 - i ≤ length (drop i words) = omega (arith, length-drop i words) in
    let one : length (slice_range words i (i + 1)) ≡ 1 = omega (arith, length-take-le (i + 1 - i) (drop i words) count) in
    ap (overwritten words i) (one_set (slice_range words i (i + 1)) w one) ∙ overwritten_is words i 1 (w ∷ []) (omega arith) refl ∙ ap (λ (k : ℕ). take i words ++ w ∷ drop k words) (suc_is i) ∙ sym (set_split words i w inside)
