-- Lemmas about appending one more digit of a number.
use Rattle.std.proofs.Common.{ℕ, ◌+◌, ◌/◌, ◌%◌, ◌^◌, ◌<◌, ◌≤◌, ◌≡◌, ◌∙◌, List, [], ◌∷◌, ◌++◌, sym, ap, append_assoc}
use Rattle.std.specs.Prelude.{decimal}
use Rattle.std.proofs.lemmas.Fmt.{decimal_step}

pub digit_more : (n : ℕ) (old text new : List ℕ) → 10 ≤ n → n < 2 ^ 64 → text ≡ old ++ decimal (n / 10) → new ≡ text ++ (48 + n % 10) ∷ [] → new ≡ old ++ decimal n
digit_more n old text new two few write more =
    more ∙ ap (λ t. t ++ (48 + n % 10) ∷ []) write ∙ append_assoc old (decimal (n / 10)) ((48 + n % 10) ∷ []) ∙ ap (λ t. old ++ t) (sym (decimal_step n two few))
