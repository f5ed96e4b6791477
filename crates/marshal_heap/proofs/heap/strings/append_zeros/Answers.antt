use Rattle.std.proofs.Common.{◌≡◌, ℕ, ◌-◌, ◌/◌, ◌%◌, List, [], ◌∷◌, ◌++◌, length, replicate, sym, ap, ap₂, ◌∙◌, arith, append_assoc}
use Rattle.std.proofs.lemmas.List.{take-replicate, length-replicate}
use Rattle.marshal_heap.specs.heap.ObjectWords.{word_of_bytes}
use Rattle.marshal_heap.proofs.heap.HeapStringLemmas.{zero_words}
use Rattle.marshal_heap.proofs.heap.strings.append_zeros.Goals as goal

pub returns : goal.returns
returns c =
    let rest = c.args.len % 8 in
    let word : c.last_word.result ≡ word_of_bytes (replicate rest 0 ++ (replicate (7 - rest) 0 ++ (7 - rest) ∷ [])) =
    c.last_word.ensures
    ∙ ap (λ (xs : List ℕ). word_of_bytes (xs ++ (replicate (7 - length xs) 0 ++ (7 - length xs) ∷ []))) (take-replicate rest 8 0 (omega arith))
    ∙ ap (λ (n : ℕ). word_of_bytes (replicate rest 0 ++ (replicate (7 - n) 0 ++ (7 - n) ∷ []))) (length-replicate rest 0) in
    c.append_reserved.ensures.words
    ∙ ap₂ (λ xs w. xs ++ w ∷ []) c.append_run.ensures.words word
    ∙ append_assoc c.args.region.now.words (replicate (c.args.len / 8) 0) _
    ∙ ap (λ (xs : List ℕ). c.args.region.now.words ++ xs) (sym (zero_words c.args.len))
