-- The lexer finds the end of a comment exactly where the brackets of the comment close.
use Rattle.std.proofs.Common.{◌≡◌, ℕ, zero, suc, pred, ◌+◌, false, ◌&&◌, eqb, List, [], ◌∷◌, ◌++◌, length, Option, Some, None, refl, sym, ap, subst, ◌∙◌, arith, inl, inr}
use Rattle.std.specs.List.{flat_map}
use Rattle.std.proofs.lemmas.Bool.{eqb-true, and_parts, or_parts, or_from, cases_Bool}
use Rattle.types_lex.specs.LexText.{Cut, Opens, Closes, Other, cut_bytes, is_bracket, begins_bracket, IsCut, Nests}
use Rattle.types_lex.specs.declared.comments.CommentDelimiter.TheVariants.{Opening, Closing, Neither}
use Rattle.types_lex.specs.Lexer.{plus, bracket_of, closing, closing_by}
use Rattle.types_lex.proofs.CharLaws.{no_value, some_is}

-- ---- brackets

bracket_of-neither : (a b : ℕ) → is_bracket a b ≡ false → bracket_of a b ≡ Neither
bracket_of-neither a b e = let apart = or_parts (eqb a 40 && eqb b 42) (eqb a 42 && eqb b 41) e in rw (apart.0, apart.1) refl

-- What two bytes are in a comment: an opening bracket, a closing bracket, or neither.
data Kind (a b : ℕ) : Type 0 where
  is_open : a ≡ 40 → b ≡ 42 → bracket_of a b ≡ Opening → Kind a b
  is_close : a ≡ 42 → b ≡ 41 → bracket_of a b ≡ Closing → Kind a b
  is_other : is_bracket a b ≡ false → bracket_of a b ≡ Neither → Kind a b

kind_of : (a b : ℕ) → Kind a b
kind_of a b =
    elim (cases_Bool (eqb a 40 && eqb b 42)) [
      | inl e ↦ let p = and_parts (eqb a 40) (eqb b 42) e in is_open (eqb-true a 40 p.0) (eqb-true b 42 p.1) (rw e refl)
      | inr e ↦ elim (cases_Bool (eqb a 42 && eqb b 41)) [
        | inl f ↦ let p = and_parts (eqb a 42) (eqb b 41) f in is_close (eqb-true a 42 p.0) (eqb-true b 41 p.1) (rw (e, f) refl)
        | inr f ↦ let none : is_bracket a b ≡ false = or_from _ _ e f in is_other none (bracket_of-neither a b none)
      ]
    ]

-- ---- the lexer finds the inside of a comment

-- The bytes of the units, followed by the end of the comment.
abbrev pub inside_text : List Cut → List ℕ → List ℕ
inside_text cuts after = flat_map cut_bytes cuts ++ 42 ∷ 41 ∷ after

-- If no bracket begins at a byte, then the byte is skipped.
closing-other : (depth b : ℕ) (rest : List ℕ) → begins_bracket (b ∷ rest) ≡ false → closing depth (b ∷ rest) ≡ plus 1 (closing depth rest)
unfolding closing
closing-other depth b [] e = refl
closing-other depth b (c ∷ cs) e = rw (bracket_of-neither b c e) refl

pub closing-inside : (cuts : List Cut) (depth : ℕ) (after : List ℕ) → Nests depth cuts → IsCut cuts (42 ∷ 41 ∷ after) → closing depth (inside_text cuts after) ≡ Some (length (flat_map cut_bytes cuts) + 2)
unfolding closing
closing-inside [] depth after nests cut = rw nests refl
closing-inside (Opens ∷ cuts) depth after nests cut = rw (closing-inside cuts (suc depth) after nests cut) (ap (λ (n : ℕ). Some n) (omega arith))
closing-inside (Closes ∷ cuts) zero after nests cut = absurd nests
closing-inside (Closes ∷ cuts) (suc depth) after nests cut = rw (closing-inside cuts depth after nests cut) (ap (λ (n : ℕ). Some n) (omega arith))
closing-inside (Other b ∷ cuts) depth after nests cut =
    closing-other depth b (inside_text cuts after) cut.0 ∙ rw (closing-inside cuts depth after nests cut.1) (ap (λ (n : ℕ). Some n) (omega arith))

-- ---- what the lexer finds is the inside of a comment

-- The first `n` bytes are units and the end of the comment. The brackets of the units are balanced
-- if `depth` brackets are open at the start.
pub record IsEnd (depth : ℕ) (text : List ℕ) (n : ℕ) : Type 0 where
  pub cuts : List Cut
  pub after : List ℕ
  pub is : text ≡ inside_text cuts after
  pub long : n ≡ length (flat_map cut_bytes cuts) + 2
  pub nests : Nests depth cuts
  pub cut : IsCut cuts (42 ∷ 41 ∷ after)

plus-some : (k n : ℕ) (o : Option ℕ) → plus k o ≡ Some n → (m : ℕ) × (o ≡ Some m) × (n ≡ k + m)
plus-some k n None e = absurd (no_value e)
plus-some k n (Some m) e = (m, refl, sym (some_is e))

-- If the text after `(*` ends a comment one level deeper, then the text ends the comment.
end-opens : (depth m : ℕ) (bs : List ℕ) → IsEnd (suc depth) bs m → IsEnd depth (40 ∷ 42 ∷ bs) (2 + m)
end-opens depth m bs end = record {
  cuts = Opens ∷ end.cuts;
  after = end.after;
  is = ap (λ t. 40 ∷ 42 ∷ t) end.is;
  long = omega (arith, end.long);
  nests = end.nests;
  cut = end.cut;
}

end-closes : (depth m : ℕ) (bs : List ℕ) → IsEnd depth bs m → IsEnd (suc depth) (42 ∷ 41 ∷ bs) (2 + m)
end-closes depth m bs end = record {
  cuts = Closes ∷ end.cuts;
  after = end.after;
  is = ap (λ t. 42 ∷ 41 ∷ t) end.is;
  long = omega (arith, end.long);
  nests = end.nests;
  cut = end.cut;
}

end-other : (depth m a : ℕ) (bs : List ℕ) → begins_bracket (a ∷ bs) ≡ false → IsEnd depth bs m → IsEnd depth (a ∷ bs) (1 + m)
end-other depth m a bs other end = record {
  cuts = Other a ∷ end.cuts;
  after = end.after;
  is = ap (λ t. a ∷ t) end.is;
  long = omega (arith, end.long);
  nests = end.nests;
  cut = (ap (λ t. begins_bracket (a ∷ t)) (sym end.is) ∙ other, end.cut);
}

end-here : (bs : List ℕ) → IsEnd 0 (42 ∷ 41 ∷ bs) 2
end-here bs = record { cuts = []; after = bs; is = refl; long = refl; nests = refl; cut = tt }

-- Case: the next two bytes are a closing bracket.
at_close : (depth n : ℕ) (bs : List ℕ) (deeper on : Option ℕ) → ((d m : ℕ) → closing d bs ≡ Some m → IsEnd d bs m) → closing_by Closing depth deeper (closing (pred depth) bs) on ≡ Some n → IsEnd depth (42 ∷ 41 ∷ bs) n
at_close zero n bs deeper on others e = subst (IsEnd 0 (42 ∷ 41 ∷ bs)) (some_is e) (end-here bs)
at_close (suc depth) n bs deeper on others e =
    let p = plus-some 2 n (closing depth bs) e in
    rw p.2 (end-closes depth p.0 bs (others depth p.0 p.1))

pub inside-closing : (text : List ℕ) (depth n : ℕ) → closing depth text ≡ Some n → IsEnd depth text n
unfolding closing
inside-closing [] depth n e = absurd (no_value e)
inside-closing (a ∷ []) depth n e = absurd (no_value e)
inside-closing (a ∷ b ∷ bs) depth n e =
    elim (kind_of a b) [
      | is_open first second bracket ↦
          let p = plus-some 2 n (closing (suc depth) bs) (rw bracket at e) in
          rw (first, second, p.2) (end-opens depth p.0 bs (inside-closing bs (suc depth) p.0 p.1))
      | is_close first second bracket ↦
          rw (first, second) (at_close depth n bs (closing (suc depth) bs) (closing depth (b ∷ bs)) (λ d m h. inside-closing bs d m h) (rw bracket at e))
      | is_other other bracket ↦
          let p = plus-some 1 n (closing depth (b ∷ bs)) (rw bracket at e) in
          rw p.2 (end-other depth p.0 a (b ∷ bs) other (inside-closing (b ∷ bs) depth p.0 p.1))
    ]
