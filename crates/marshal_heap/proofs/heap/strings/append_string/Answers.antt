use Rattle.std.proofs.Common.{◌≡◌, ℕ, ◌-◌, ◌*◌, ◌/◌, ◌%◌, List, [], ◌∷◌, ◌++◌, length, map, replicate, drop, sym, ap, ap₂, ◌∙◌, arith, append_assoc, length-drop}
use Rattle.std.specs.List.{range_with_len}
use Rattle.std.proofs.lemmas.List.{take_rest}
use Rattle.std.proofs.lemmas.List.FromFn.{map-range_with_len_more}
use Rattle.marshal_heap.specs.heap.ObjectWords.{padded, word_of_bytes, word_at}
use Rattle.marshal_heap.proofs.heap.HeapStringLemmas.{eight_bytes, string_words_are}
use Rattle.marshal_heap.proofs.heap.strings.append_string.Goals as goal

pub loop-j-preserved : goal.loop-j-preserved
loop-j-preserved c =
    let content = c.args.content.now in
    let j = c.loop-j.j in
    record {
      words =
          c.append_reserved.ensures.words
          ∙ ap₂ (λ xs w. xs ++ w ∷ []) c.loop-j.invariant.words (c.whole_word.ensures ∙ ap word_of_bytes (sym (eight_bytes content j c.loop-j-test.true)))
          ∙ append_assoc c.args.region.now.words (map (word_at (padded content)) (range_with_len 0 j)) _
          ∙ ap (λ (xs : List ℕ). c.args.region.now.words ++ xs) (sym (map-range_with_len_more (word_at (padded content)) 0 j j (omega arith)));
      spare = omega arith;
    }

pub returns : goal.returns
returns c =
    let content = c.args.content.now in
    let whole : c.loop-j.j ≡ length content / 8 = omega arith in
    let few : length (drop (8 * (length content / 8)) content) ≡ length content % 8 = omega (arith, length-drop (8 * (length content / 8)) content) in
    let word : c.last_word.result ≡ word_of_bytes (drop (8 * (length content / 8)) content ++ (replicate (7 - length content % 8) 0 ++ (7 - length content % 8) ∷ [])) =
    c.last_word.ensures
    ∙ ap (λ (xs : List ℕ). word_of_bytes (xs ++ (replicate (7 - length xs) 0 ++ (7 - length xs) ∷ []))) (take_rest content (8 * (length content / 8)))
    ∙ ap (λ (n : ℕ). word_of_bytes (drop (8 * (length content / 8)) content ++ (replicate (7 - n) 0 ++ (7 - n) ∷ []))) few in
    c.append_reserved-2.ensures.words
    ∙ ap₂ (λ xs w. xs ++ w ∷ []) (c.loop-j.invariant.words ∙ ap (λ (n : ℕ). c.args.region.now.words ++ map (word_at (padded content)) (range_with_len 0 n)) whole) word
    ∙ append_assoc c.args.region.now.words (map (word_at (padded content)) (range_with_len 0 (length content / 8))) _
    ∙ ap (λ (xs : List ℕ). c.args.region.now.words ++ xs) (sym (string_words_are content))
