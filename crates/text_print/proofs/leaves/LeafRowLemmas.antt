-- Lemmas about a list of parts with one more part.
use Rattle.std.proofs.Common.{ℕ, suc, ◌+◌, ◌<◌, ◌≡◌, ◌∙◌, List, [], ◌∷◌, ◌++◌, length, take, get_or, sym, ap, append_assoc, arith}
use Rattle.std.specs.Prelude.{map}
use Rattle.std.proofs.lemmas.List.{append-nil, map_more, length-map, length-take}
use Rattle.text_print.specs.leaves.Frames.{Frame, before_part, row_from}

-- If a part is appended to a list of parts, then the text is extended by the text before the part
-- and the part.
row_snoc : (frame : Frame) (i : ℕ) (parts : List (List ℕ)) (part : List ℕ) (n : ℕ) → n ≡ i + length parts
    → row_from frame i (parts ++ part ∷ []) ≡ row_from frame i parts ++ (before_part frame n ++ part)
row_snoc frame i [] part n is = let same : i ≡ n = omega (arith, is) in
    append-nil (before_part frame i ++ part) ∙ ap (λ k. before_part frame k ++ part) same
row_snoc frame i (first ∷ parts) part n is =
    ap (λ rest. before_part frame i ++ first ++ rest) (row_snoc frame (suc i) parts part n (omega (arith, is)))
    ∙ sym (append_assoc (before_part frame i ++ first) (row_from frame (suc i) parts) (before_part frame n ++ part))

pub row_more : {X : Type 0} (frame : Frame) (f : X → List ℕ) (xs : List X) (i : ℕ) (d : X) → i < length xs
    → row_from frame 0 (map f (take (i + 1) xs)) ≡ row_from frame 0 (map f (take i xs)) ++ (before_part frame i ++ f (get_or xs i d))
row_more frame f xs i d less =
    ap (row_from frame 0) (map_more f xs i d less)
    ∙ row_snoc frame 0 (map f (take i xs)) (f (get_or xs i d)) i (simp (length-map, length-take) (omega arith))

-- If a loop has appended the first `i` parts and appends one more part, then the first `i + 1`
-- parts are appended.
pub row_step : {X : Type 0} (frame : Frame) (f : X → List ℕ) (xs : List X) (i : ℕ) (x d : X) (old start led all : List ℕ) → i < length xs → x ≡ get_or xs i d
    → start ≡ old ++ row_from frame 0 (map f (take i xs)) → led ≡ start ++ before_part frame i → all ≡ led ++ f x
    → all ≡ old ++ row_from frame 0 (map f (take (i + 1) xs))
row_step frame f xs i x d old start led all less is at_start at_led at_all =
    at_all ∙ ap (λ t. t ++ f x) (at_led ∙ ap (λ t. t ++ before_part frame i) at_start)
    ∙ append_assoc (old ++ row_from frame 0 (map f (take i xs))) (before_part frame i) (f x)
    ∙ append_assoc old (row_from frame 0 (map f (take i xs))) (before_part frame i ++ f x)
    ∙ ap (λ t. old ++ (row_from frame 0 (map f (take i xs)) ++ (before_part frame i ++ f t))) is
    ∙ ap (λ t. old ++ t) (sym (row_more frame f xs i d less))
