-- The steps inside a comment.
use Rattle.std.proofs.Common.{◌≡◌, ℕ, suc, pred, ◌+◌, ◌-◌, ◌<◌, ◌≤◌, List, [], ◌∷◌, length, get_or, drop, Option, Some, None, refl, sym, ap, ◌∙◌, arith, add-one}
use Rattle.std.proofs.lemmas.List.{drop_more, length-drop}
use Rattle.types_lex.specs.declared.comments.CommentDelimiter.{CommentDelimiter}
use Rattle.types_lex.specs.declared.comments.CommentDelimiter.TheVariants.{Opening, Closing, Neither}
use Rattle.types_lex.specs.Lexer.{plus, bracket_of, closing, closing_by}

pub plus-plus : (m n : ℕ) (o : Option ℕ) → plus m (plus n o) ≡ plus (m + n) o
plus-plus m n None = refl
plus-plus m n (Some k) = ap (λ (i : ℕ). Some i) (omega arith)

-- The bytes from position `i` on begin with the bytes at positions `i` and `i + 1`.
at-two : (xs : List ℕ) (i : ℕ) → i + 1 < length xs → drop i xs ≡ get_or xs i 0 ∷ (get_or xs (i + 1) 0 ∷ drop (i + 2) xs)
at-two xs i lt =
    let second = drop_more xs (i + 1) 0 lt in
    let e : i + 1 + 1 ≡ i + 2 = omega arith in
    drop_more xs i 0 (omega arith) ∙ ap (λ t. get_or xs i 0 ∷ t) (second ∙ ap (λ n. get_or xs (i + 1) 0 ∷ drop n xs) e)

-- The meaning of the next two bytes determines the end of the comment.
pub closing-at : (xs : List ℕ) (i depth : ℕ) (b : CommentDelimiter) → i + 1 < length xs → b ≡ bracket_of (get_or xs i 0) (get_or xs (i + 1) 0)
    → closing depth (drop i xs) ≡ closing_by b depth (closing (suc depth) (drop (i + 2) xs)) (closing (pred depth) (drop (i + 2) xs)) (closing depth (drop (i + 1) xs))
unfolding closing
closing-at xs i depth b lt is =
    let both = at-two xs i lt in
    let one : drop (i + 1) xs ≡ get_or xs (i + 1) 0 ∷ drop (i + 2) xs = drop_more xs (i + 1) 0 lt ∙ ap (λ n. get_or xs (i + 1) 0 ∷ drop n xs) (omega arith) in
    rw (both, one, is) refl

closing-short : (ys : List ℕ) (depth : ℕ) → length ys ≤ 1 → closing depth ys ≡ None
unfolding closing
closing-short [] depth le = refl
closing-short (y ∷ []) depth le = refl
closing-short (y ∷ z ∷ ys) depth le = absurd (omega arith)

pub closing-end : (xs : List ℕ) (i depth : ℕ) → length xs ≤ i + 1 → closing depth (drop i xs) ≡ None
closing-end xs i depth le = closing-short (drop i xs) depth (omega (arith, length-drop i xs))

-- The loop invariant: the bytes so far and the bytes up to the end of the comment add up to
-- `total`.
module _ (xs : List ℕ) (i depth : ℕ) (total : Option ℕ) (lt : i + 1 < length xs) (so_far : plus i (closing depth (drop i xs)) ≡ total) where
  pub opens : Opening ≡ bracket_of (get_or xs i 0) (get_or xs (i + 1) 0) → plus (i + 2) (closing (depth + 1) (drop (i + 2) xs)) ≡ total
  opens is =
      ap (λ d. plus (i + 2) (closing d (drop (i + 2) xs))) (add-one depth)
      ∙ sym (plus-plus i 2 (closing (suc depth) (drop (i + 2) xs)))
      ∙ ap (plus i) (sym (closing-at xs i depth Opening lt is))
      ∙ so_far

  pub closes : Closing ≡ bracket_of (get_or xs i 0) (get_or xs (i + 1) 0) → (depth ≡ 0 → ⊥) → plus (i + 2) (closing (depth - 1) (drop (i + 2) xs)) ≡ total
  closes is inner =
      let deep : depth ≡ suc (depth - 1) = omega arith in
      let out : closing depth (drop i xs) ≡ plus 2 (closing (depth - 1) (drop (i + 2) xs)) =
      closing-at xs i depth Closing lt is ∙ ap (λ d. closing_by Closing d (closing (suc d) (drop (i + 2) xs)) (closing (pred d) (drop (i + 2) xs)) (closing d (drop (i + 1) xs))) deep in
      sym (plus-plus i 2 (closing (depth - 1) (drop (i + 2) xs))) ∙ ap (plus i) (sym out) ∙ so_far

  pub ends : Closing ≡ bracket_of (get_or xs i 0) (get_or xs (i + 1) 0) → depth ≡ 0 → Some (i + 2) ≡ total
  ends is outer =
      let out : closing depth (drop i xs) ≡ Some 2 =
      closing-at xs i depth Closing lt is ∙ ap (λ d. closing_by Closing d (closing (suc d) (drop (i + 2) xs)) (closing (pred d) (drop (i + 2) xs)) (closing d (drop (i + 1) xs))) outer in
      ap (plus i) (sym out) ∙ so_far

  pub goes_on : Neither ≡ bracket_of (get_or xs i 0) (get_or xs (i + 1) 0) → plus (i + 1) (closing depth (drop (i + 1) xs)) ≡ total
  goes_on is = sym (plus-plus i 1 (closing depth (drop (i + 1) xs))) ∙ ap (plus i) (sym (closing-at xs i depth Neither lt is)) ∙ so_far
