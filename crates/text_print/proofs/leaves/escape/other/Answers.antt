use Rattle.std.proofs.Common.{◌≡◌, ℕ, ◌==◌, ◌<◌, ◌≤◌, Bool, true, false, List, [], ◌∷◌, map, cond, get_or, refl, ap, sym, subst, ◌∙◌, ⊎_elim, arith}
use Rattle.std.proofs.lemmas.Bool.Decides.{eqb_tells}
use Rattle.std.proofs.lemmas.List.FromFn.{get_or-map-range_with_len}
use Rattle.std.specs.List.{range_with_len}
use Rattle.text_print.specs.leaves.LeafTexts.{escaped}
use Rattle.text_print.specs.declared.leaves.escape.TheConstants.{OTHERS}
use Rattle.text_print.proofs.leaves.escape.other.Goals as goal

-- The list consists of the byte `b` alone.
abbrev is_one : List ℕ → ℕ → Bool
is_one [] b = false
is_one (x ∷ []) b = x == b
is_one (x ∷ y ∷ ys) b = false

one_is : (xs : List ℕ) (b : ℕ) → is_one xs b ≡ true → xs ≡ b ∷ []
one_is [] b is = absurd (cc)
one_is (x ∷ []) b is = ⊎_elim (λ same. ap (λ y. y ∷ []) same.1) (λ other. absurd (cc)) (eqb_tells x b)
one_is (x ∷ y ∷ ys) b is = absurd (cc)

abbrev mark : ℕ → ℕ
mark b = cond (is_one (escaped 34 b) b) 0 1

-- The table contains the mark of each byte.
table_is : OTHERS ≡ map mark (range_with_len 0 256)
table_is = refl

read : (b : ℕ) → b < 256 → get_or OTHERS b 0 ≡ mark b
read b less = ap (λ t. get_or t b 0) table_is ∙ get_or-map-range_with_len mark 0 256 b b 0 less (omega arith)

mark_one : (t : Bool) → cond t 0 1 ≤ 1
mark_one true = omega arith
mark_one false = omega arith

mark_none : (t : Bool) (n : ℕ) → n ≡ cond t 0 1 → n ≡ 0 → t ≡ true
mark_none true n is none = refl
mark_none false n is none = absurd (omega (arith, is, none))

pub returns : goal.returns
returns c =
    let byte = c.args.byte in
    let bare = is_one (escaped 34 byte) byte in
    rw c.from.ensures (record {
      one = subst (λ (n : ℕ). n ≤ 1) (sym (read byte (omega arith))) (mark_one bare);
      plain = λ none. one_is (escaped 34 byte) byte (mark_none bare (get_or OTHERS byte 0) (read byte (omega arith)) none);
    })
