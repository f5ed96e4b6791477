use Rattle.std.proofs.Common.{◌≡◌, ℕ, suc, ◌-◌, List, [], ◌∷◌, ◌++◌, replicate, ap, ◌∙◌, arith, append_assoc}
use Rattle.marshal_heap.proofs.heap.objects.append_fields.Goals as goal

pub returns-in_default : goal.returns-in_default
returns-in_default c =
    let old = c.args.region.now.words in
    let one : List ℕ = 1 ∷ [] in
    let rest : List ℕ = replicate (c.args.size - 4) 1 in
    let more : suc (suc (suc (suc (c.args.size - 4)))) ≡ c.args.size = omega arith in
    let two = c.append_reserved-in_default-2.ensures.words ∙ ap (λ (xs : List ℕ). xs ++ one) c.append_reserved-in_default.ensures.words in
    let three = c.append_reserved-in_default-3.ensures.words ∙ ap (λ (xs : List ℕ). xs ++ one) two in
    let four = c.append_reserved-in_default-4.ensures.words ∙ ap (λ (xs : List ℕ). xs ++ one) three in
    c.append_run.ensures.words
    ∙ ap (λ (xs : List ℕ). xs ++ rest) four
    ∙ append_assoc (((old ++ one) ++ one) ++ one) one rest
    ∙ append_assoc ((old ++ one) ++ one) one (one ++ rest)
    ∙ append_assoc (old ++ one) one (one ++ (one ++ rest))
    ∙ append_assoc old one (one ++ (one ++ (one ++ rest)))
    ∙ ap (λ (n : ℕ). old ++ replicate n 1) more
