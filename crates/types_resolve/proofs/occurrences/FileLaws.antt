-- Counting gives the occurrences of rows of fields, of constructors and of declarations.
use Rattle.std.proofs.Common.{ℕ, ◌+◌, ◌≡◌, ◌∙◌, false, List, [], ◌∷◌, ◌++◌, length, drop}
use Rattle.std.proofs.Common.{refl, ap, arith, append_assoc, length-append}
use Rattle.std.specs.Prelude.{map}
use Rattle.std.proofs.lemmas.List.{drop_at}
use Rattle.types_lex.specs.declared.lexeme.LexemeKind.{LexemeKind}
use Rattle.types_parse.specs.grammar.Grammar.{Kinds, each_after}
use Rattle.types_resolve.specs.occurrences.Counted.{opens_item, after, marks}
use Rattle.types_resolve.specs.occurrences.CountedFile.{along, count_all}
use Rattle.types_resolve.specs.occurrences.InFile.{spread}
use Rattle.types_resolve.proofs.occurrences.OccurrenceStandLemmas.{IsSilent, IsClosed, closed_last, after_append, marks_append}

-- ---- rows

-- Counting the marks of an element gives the occurrences of the element by its lexemes.
pub record IsCounted {T X Y : Type 0} (encoded : T → Kinds) (made : T → X) (count : X → ℕ)
    (of : List ℕ → X → List Y) (in' : ℕ → T → List Y) : Type 0 where
  pub closed : (t : T) → IsClosed (encoded t)
  pub counted : (k : ℕ) (t : T) → length (marks k false (encoded t)) ≡ count (made t)
  pub seen : (k : ℕ) (t : T) (rest : List ℕ) → of (marks k false (encoded t) ++ rest) (made t) ≡ in' k t

-- Let one lexeme separate neighbouring elements, and let no item begin after the separating lexeme.
module _ {T X Y : Type 0} (encoded : T → Kinds) (made : T → X) (count : X → ℕ)
    (of : List ℕ → X → List Y) (in' : ℕ → T → List Y) (is : IsCounted encoded made count of in')
    (before : LexemeKind) (silent : IsSilent (before ∷ []))
    (agree : (k : ℕ) (t : T) → marks k (opens_item before) (encoded t) ≡ marks k false (encoded t)) where
  abbrev others : List T → Kinds
  others ts = each_after (before ∷ []) encoded ts

  marks_next :
      (k : ℕ) (t : T) (ts : List T)
      → marks k false (others (t ∷ ts))
      ≡ marks (k + 1) false (encoded t) ++ marks (k + 1 + length (encoded t)) false (others ts)
  marks_next k t ts =
      let one = before ∷ [] in
      let f : k + length (one ++ encoded t) ≡ k + 1 + length (encoded t) = omega (arith, length-append one (encoded t)) in
      marks_append k false (one ++ encoded t) (others ts)
      ∙ ap (λ g. marks k false (one ++ encoded t) ++ marks (k + length (one ++ encoded t)) g (others ts))
      (closed_last one (encoded t) (is.closed t) false)
      ∙ ap (λ l. l ++ marks (k + length (one ++ encoded t)) false (others ts))
      (marks_append k false one (encoded t)
      ∙ ap (λ l. l ++ marks (k + 1) (opens_item before) (encoded t)) (silent k false) ∙ agree (k + 1) t)
      ∙ ap (λ n. marks (k + 1) false (encoded t) ++ marks n false (others ts)) f

  pub more_counted : (k : ℕ) (ts : List T) → length (marks k false (others ts)) ≡ count_all count (map made ts)
  more_counted k [] = refl
  more_counted k (t ∷ ts) =
      let j = k + 1 + length (encoded t) in
      ap length (marks_next k t ts)
      ∙ length-append (marks (k + 1) false (encoded t)) (marks j false (others ts))
      ∙ ap (λ n. n + length (marks j false (others ts))) (is.counted (k + 1) t)
      ∙ ap (λ n. count (made t) + n) (more_counted j ts)

  -- The results for a list are the results for its first element and the results for the other
  -- elements.
  pub then_along :
      (k j : ℕ) (t : T) (ts : List T) (rest : List ℕ)
      → along count of (marks j false (others ts) ++ rest) (map made ts) ≡ spread (λ x. length (encoded x)) in' j ts
      → along count of ((marks k false (encoded t) ++ marks j false (others ts)) ++ rest) (map made (t ∷ ts))
      ≡ in' k t ++ spread (λ x. length (encoded x)) in' j ts
  then_along k j t ts rest later =
      let more = marks j false (others ts) ++ rest in
      ap (λ ms. along count of ms (map made (t ∷ ts)))
      (append_assoc (marks k false (encoded t)) (marks j false (others ts)) rest)
      ∙ ap (λ l. l ++ along count of (drop (count (made t)) (marks k false (encoded t) ++ more)) (map made ts))
      (is.seen k t more)
      ∙ ap (λ ms. in' k t ++ along count of ms (map made ts))
      (drop_at (marks k false (encoded t)) more (count (made t)) (is.counted k t))
      ∙ ap (λ l. in' k t ++ l) later

  pub more_seen :
      (k : ℕ) (ts : List T) (rest : List ℕ)
      → along count of (marks k false (others ts) ++ rest) (map made ts) ≡ spread (λ x. length (encoded x)) in' k ts
  more_seen k [] rest = refl
  more_seen k (t ∷ ts) rest =
      ap (λ ms. along count of (ms ++ rest) (map made (t ∷ ts))) (marks_next k t ts)
      ∙ then_along (k + 1) (k + 1 + length (encoded t)) t ts rest (more_seen (k + 1 + length (encoded t)) ts rest)

  -- The marks of a row that begins with lexeme `k`.
  row_marks :
      (k : ℕ) (t : T) (ts : List T)
      → marks k false (encoded t ++ others ts)
      ≡ marks k false (encoded t) ++ marks (k + length (encoded t)) false (others ts)
  row_marks k t ts = marks_append k false (encoded t) (others ts)
      ∙ ap (λ g. marks k false (encoded t) ++ marks (k + length (encoded t)) g (others ts)) (is.closed t false)

  pub row_counted :
      (k : ℕ) (t : T) (ts : List T)
      → length (marks k false (encoded t ++ others ts)) ≡ count_all count (map made (t ∷ ts))
  row_counted k t ts =
      let j = k + length (encoded t) in
      ap length (row_marks k t ts)
      ∙ length-append (marks k false (encoded t)) (marks j false (others ts))
      ∙ ap (λ n. n + length (marks j false (others ts))) (is.counted k t)
      ∙ ap (λ n. count (made t) + n) (more_counted j ts)

  pub row_seen :
      (k : ℕ) (t : T) (ts : List T) (rest : List ℕ)
      → along count of (marks k false (encoded t ++ others ts) ++ rest) (map made (t ∷ ts))
      ≡ in' k t ++ spread (λ x. length (encoded x)) in' (k + length (encoded t)) ts
  row_seen k t ts rest =
      ap (λ ms. along count of (ms ++ rest) (map made (t ∷ ts))) (row_marks k t ts)
      ∙ then_along k (k + length (encoded t)) t ts rest (more_seen (k + length (encoded t)) ts rest)

  -- After a row of elements, no item begins.
  pub others_closed : (ts : List T) → after false (others ts) ≡ false
  others_closed [] = refl
  others_closed (t ∷ ts) =
      after_append false (before ∷ [] ++ encoded t) (others ts)
      ∙ ap (λ g. after g (others ts)) (closed_last (before ∷ []) (encoded t) (is.closed t) false) ∙ others_closed ts

  pub row_closed : (t : T) (ts : List T) → IsClosed (encoded t ++ others ts)
  row_closed t ts fresh = after_append fresh (encoded t) (others ts)
      ∙ ap (λ g. after g (others ts)) (is.closed t fresh) ∙ others_closed ts
