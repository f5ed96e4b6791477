-- The text of the remaining chunks.
use Rattle.std.proofs.Common.{ℕ, ◌≡◌, ◌∙◌, List, [], ◌∷◌, ◌++◌, length, take, refl, sym, ap, append_assoc, append-nil}
use Rattle.std.specs.List.{flat_map}
use Rattle.std.proofs.lemmas.Grind.{flat_map-append}
use Rattle.text_print.specs.show.TextChunks.{TextChunk, chunk_text, labelled, text_of}

pub text_more : (objects : List ℕ) (left now later : List TextChunk) (text new all : List ℕ) → left ≡ now ++ later → new ≡ text ++ flat_map (chunk_text objects) now
    → text ++ flat_map (chunk_text objects) left ≡ all → new ++ flat_map (chunk_text objects) later ≡ all
text_more objects left now later text new all split write is =
    let f = chunk_text objects in
    ap (λ t. t ++ flat_map f later) write
    ∙ append_assoc text (flat_map f now) (flat_map f later)
    ∙ ap (λ t. text ++ t) (sym (flat_map-append f now later))
    ∙ ap (λ ps. text ++ flat_map f ps) (sym split)
    ∙ is

pub text_all : (objects : List ℕ) (left start chunks : List TextChunk) (before text : List ℕ) → left ≡ [] → start ≡ chunks
    → text ++ flat_map (chunk_text objects) left ≡ before ++ flat_map (chunk_text objects) start → text ≡ before ++ flat_map (chunk_text objects) chunks
text_all objects left start chunks before text none begin is =
    sym (append-nil text) ∙ sym (ap (λ ps. text ++ flat_map (chunk_text objects) ps) none) ∙ is
    ∙ ap (λ ps. before ++ flat_map (chunk_text objects) ps) begin

-- If `objects` are the labelled objects of the chunks, then the appended text is the whole text of
-- the chunks.
pub text_whole : (objects : List ℕ) (chunks : List TextChunk) (before text : List ℕ) → objects ≡ labelled chunks → text ≡ before ++ flat_map (chunk_text objects) chunks → text ≡ before ++ text_of chunks
text_whole objects chunks before text labels is = is ∙ ap (λ os. before ++ flat_map (chunk_text os) chunks) labels

pub take_prefix : (xs ys : List ℕ) → take (length xs) (xs ++ ys) ≡ xs
take_prefix [] ys = refl
take_prefix (x ∷ xs) ys = ap (λ zs. x ∷ zs) (take_prefix xs ys)
