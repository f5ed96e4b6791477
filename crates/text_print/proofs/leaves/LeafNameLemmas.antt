-- A name of four to eight bytes is written as its first four and its last four bytes.
use Rattle.std.proofs.Common.{ℕ, ◌+◌, ◌-◌, ◌≤◌, ◌≡◌, ◌∙◌, List, [], ◌∷◌, ◌++◌, length, take, get_or, refl, ap, append_assoc, arith}
use Rattle.std.proofs.Math.Seq.{take-append-add}

abbrev pub first_four : List ℕ → List ℕ
first_four name = get_or name 0 0 ∷ get_or name 1 0 ∷ get_or name 2 0 ∷ get_or name 3 0 ∷ []

abbrev pub last_four : List ℕ → List ℕ
last_four name =
    get_or name (length name - 4) 0 ∷ get_or name (length name - 3) 0 ∷ get_or name (length name - 2) 0 ∷ get_or name (length name - 1) 0 ∷ []

both : (name : List ℕ) → 4 ≤ length name → length name ≤ 8 → take (length name - 4) (first_four name) ++ last_four name ≡ name
both [] many few = absurd (omega arith)
both (a ∷ []) many few = absurd (omega arith)
both (a ∷ b ∷ []) many few = absurd (omega arith)
both (a ∷ b ∷ c ∷ []) many few = absurd (omega arith)
both (a ∷ b ∷ c ∷ d ∷ []) many few = refl
both (a ∷ b ∷ c ∷ d ∷ e ∷ []) many few = refl
both (a ∷ b ∷ c ∷ d ∷ e ∷ f ∷ []) many few = refl
both (a ∷ b ∷ c ∷ d ∷ e ∷ f ∷ g ∷ []) many few = refl
both (a ∷ b ∷ c ∷ d ∷ e ∷ f ∷ g ∷ h ∷ []) many few = refl
both (a ∷ b ∷ c ∷ d ∷ e ∷ f ∷ g ∷ h ∷ i ∷ more) many few = absurd (omega arith)

pub name_written : (old name first cut all : List ℕ) (n : ℕ) → 4 ≤ length name → length name ≤ 8 → n ≡ length old + (length name - 4)
    → first ≡ old ++ first_four name → cut ≡ take n first → all ≡ cut ++ last_four name → all ≡ old ++ name
name_written old name first cut all n many few middle is_first is_cut is_all =
    let m = length name - 4 in
    is_all
    ∙ ap (λ t. t ++ last_four name) (is_cut ∙ ap (take n) is_first ∙ ap (λ k. take k (old ++ first_four name)) middle ∙ take-append-add old (first_four name) m)
    ∙ append_assoc old (take m (first_four name)) (last_four name)
    ∙ ap (λ t. old ++ t) (both name many few)
