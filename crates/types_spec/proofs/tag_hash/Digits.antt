-- Lemmas about appending one digit to a number in base 223.
use Rattle.std.proofs.Common.{◌≡◌, ℕ, ◌+◌, ◌*◌, ◌^◌, ◌%◌, ◌<◌, List, [], ◌∷◌, ◌++◌, length, get_or, take, sym, ap, ◌∙◌, arith, length-append, add-one}
use Rattle.std.proofs.Math.Nat.{mod-add-mod, pow-succ'}
use Rattle.std.proofs.lemmas.Nat.{mul-mod_second}
use Rattle.std.proofs.lemmas.List.{take_more}
use Rattle.types_spec.specs.tag_hash.TagHash.{number_of_tag}

power-step : (x n : ℕ) → x * 223 ^ (n + 1) ≡ 223 * (x * 223 ^ n)
power-step x n = rw (add-one, pow-succ') (omega arith)

number_of_tag-push : (xs : List ℕ) (b : ℕ) → number_of_tag (xs ++ b ∷ []) ≡ 223 * number_of_tag xs + b
number_of_tag-push [] b = omega arith
number_of_tag-push (x ∷ xs) b =
    let e = number_of_tag-push xs b in
    let l : length (xs ++ b ∷ []) ≡ length xs + 1 = omega (arith, length-append xs (b ∷ [])) in
    rw (l, e) (omega (arith, power-step x (length xs)))

-- If the bits above the low 31 bits are dropped before the next digit is appended, then the low 31
-- bits of the result do not change.
keeps-low : (p b : ℕ) → (223 * (p % 2 ^ 31) + b) % 2 ^ 31 ≡ (223 * p + b) % 2 ^ 31
keeps-low p b = sym (mod-add-mod (223 * (p % 2 ^ 31)) (2 ^ 31) b) ∙ ap (λ n. (n + b) % 2 ^ 31) (mul-mod_second 223 p (2 ^ 31)) ∙ mod-add-mod (223 * p) (2 ^ 31) b

-- If `bits` are the low 31 bits of a prefix's number, then one more byte gives the low 31 bits of
-- the longer prefix's number.
pub low-push : (xs : List ℕ) (i bits b : ℕ) → i < length xs → bits ≡ number_of_tag (take i xs) % 2 ^ 31 → b ≡ get_or xs i 0 → (223 * bits + b) % 2 ^ 31 ≡ number_of_tag (take (i + 1) xs) % 2 ^ 31
low-push xs i bits b lt so_far byte = rw (so_far, byte, take_more xs i 0 lt, number_of_tag-push (take i xs) (get_or xs i 0)) (keeps-low (number_of_tag (take i xs)) (get_or xs i 0))
