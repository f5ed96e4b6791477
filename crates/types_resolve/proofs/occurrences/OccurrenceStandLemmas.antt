-- The lexemes of a type, or of its parts, with the occurrences in the type. The lemmas serve the
-- law `TypesAreCounted`.
use Rattle.std.proofs.Common.{ℕ, suc, ◌+◌, ◌≡◌, ◌∙◌, Bool, false, List, [], ◌∷◌, ◌++◌, length, drop}
use Rattle.std.proofs.Common.{refl, sym, ap, arith, append_assoc, length-append}
use Rattle.std.specs.Prelude.{◌&&◌, slice_index}
use Rattle.std.proofs.lemmas.List.{drop_at, get_or_at, append-nil}
use Rattle.types_lex.specs.declared.lexeme.LexemeKind.{LexemeKind}
use Rattle.types_parse.specs.grammar.Grammar.{Name, Kinds}
use Rattle.types_spec.specs.types.Ty.{Ty, part, tag, parts}
use Rattle.types_spec.specs.types.Occurrence.{Occurrence, PlacedItem, use_of}
use Rattle.types_resolve.specs.occurrences.Counted.{is_marked, opens_item, begins_type, after, one_if, marks}
use Rattle.types_resolve.specs.occurrences.Counted.{own_count, inner_count, items_in, begins, inner, in_type}

-- ---- marks

pub after_append : (fresh : Bool) (xs ys : Kinds) → after fresh (xs ++ ys) ≡ after (after fresh xs) ys
after_append fresh [] ys = refl
after_append fresh (x ∷ xs) ys = after_append (opens_item x) xs ys

pub marks_append :
    (k : ℕ) (fresh : Bool) (xs ys : Kinds)
    → marks k fresh (xs ++ ys) ≡ marks k fresh xs ++ marks (k + length xs) (after fresh xs) ys
marks_append k fresh [] ys = let e : k ≡ k + 0 = omega arith in ap (λ j. marks j fresh ys) e
marks_append k fresh (x ∷ xs) ys =
    let e : suc k + length xs ≡ k + suc (length xs) = omega arith in
    let first = one_if (begins_type x && fresh) k in
    let second = one_if (is_marked x) k in
    let others = marks (suc k) (opens_item x) xs in
    let rest = marks (k + suc (length xs)) (after (opens_item x) xs) ys in
    ap (λ l. first ++ (second ++ l)) (marks_append (suc k) (opens_item x) xs ys
    ∙ ap (λ j. others ++ marks j (after (opens_item x) xs) ys) e)
    ∙ ap (λ l. first ++ l) (sym (append_assoc second others rest))
    ∙ sym (append_assoc first (second ++ others) rest)

-- The lexemes `gap` have no mark.
abbrev pub IsSilent : Kinds → Type 0
IsSilent gap = (j : ℕ) (fresh : Bool) → marks j fresh gap ≡ []

-- No item begins directly after the lexemes `xs`.
abbrev pub IsClosed : Kinds → Type 0
IsClosed xs = (fresh : Bool) → after fresh xs ≡ false

pub closed_last : (xs ys : Kinds) → IsClosed ys → IsClosed (xs ++ ys)
closed_last xs ys closed fresh = after_append fresh xs ys ∙ closed (after fresh xs)

pub marks_before :
    (k : ℕ) (fresh : Bool) (xs gap : Kinds) → IsSilent gap → marks k fresh (xs ++ gap) ≡ marks k fresh xs
marks_before k fresh xs gap silent = marks_append k fresh xs gap
    ∙ ap (λ l. marks k fresh xs ++ l) (silent (k + length xs) (after fresh xs)) ∙ append-nil (marks k fresh xs)

pub marks_after :
    (k : ℕ) (fresh : Bool) (gap ys : Kinds) → IsSilent gap
    → marks k fresh (gap ++ ys) ≡ marks (k + length gap) (after fresh gap) ys
marks_after k fresh gap ys silent = marks_append k fresh gap ys
    ∙ ap (λ l. l ++ marks (k + length gap) (after fresh gap) ys) (silent k fresh)

-- If a lexeme without a mark is between lexemes, then the marks are those of the lexemes on its two
-- sides.
pub marks_over :
    (k : ℕ) (fresh : Bool) (xs : Kinds) (x : LexemeKind) (ys : Kinds) → IsSilent (x ∷ [])
    → marks k fresh ((xs ++ x ∷ []) ++ ys)
    ≡ marks k fresh xs ++ marks (k + length xs + 1) (opens_item x) ys
marks_over k fresh xs x ys silent =
    let e : k + length (xs ++ x ∷ []) ≡ k + length xs + 1 = omega (arith, length-append xs (x ∷ [])) in
    marks_append k fresh (xs ++ x ∷ []) ys
    ∙ ap (λ l. l ++ marks (k + length (xs ++ x ∷ [])) (after fresh (xs ++ x ∷ [])) ys)
    (marks_before k fresh xs (x ∷ []) silent)
    ∙ ap (λ f. marks k fresh xs ++ marks (k + length (xs ++ x ∷ [])) f ys) (after_append fresh xs (x ∷ []))
    ∙ ap (λ j. marks k fresh xs ++ marks j (opens_item x) ys) e

-- ---- types

abbrev pub total : Ty → ℕ
total t = inner_count t + own_count t

-- `ms` are the marks of the type `t`, and `all` are the occurrences in `t`.
pub record Stands (b : Bool) (ms : List ℕ) (t : Ty) (all : List Occurrence) : Type 0 where
  pub counted : length ms ≡ total t
  pub seen : (rest : List ℕ) → in_type (ms ++ rest) b t ≡ all

-- `ms` are the marks of the parts of the type `t`, and `all` are the occurrences in the parts.
pub record Inside (b : Bool) (ms : List ℕ) (t : Ty) (all : List Occurrence) : Type 0 where
  pub counted : length ms ≡ inner_count t
  pub seen : (rest : List ℕ) → inner (ms ++ rest) b t ≡ all

-- If a type without marks is extended by a first part, then the marks are the marks of the part.
pub first_part :
    (b : Bool) (ms : List ℕ) (w a : Ty) (all : List Occurrence) → inner_count w ≡ 0
    → ((ns : List ℕ) → inner ns b w ≡ []) → Stands b ms a all → Inside b ms (part w a) all
first_part b ms w a all none empty s = record {
  counted = let e : total a ≡ inner_count w + total a = omega arith in s.counted ∙ e;
  seen = λ rest. let ns = ms ++ rest in
      ap (λ l. l ++ in_type (drop (inner_count w) ns) b a) (empty ns)
      ∙ ap (λ n. in_type (drop n ns) b a) none ∙ s.seen rest;
}

-- If a type is extended by one more part, then the marks of the part follow the marks of the type.
pub next_part :
    (b : Bool) (ms ns : List ℕ) (w a whole : Ty) (one other : List Occurrence)
    → inner_count whole ≡ inner_count w + total a
    → ((all : List ℕ) → inner all b whole ≡ inner all b w ++ in_type (drop (inner_count w) all) b a)
    → Inside b ms w one → Stands b ns a other → Inside b (ms ++ ns) whole (one ++ other)
next_part b ms ns w a whole one other count write i s = record {
  counted = length-append ms ns ∙ ap (λ n. n + length ns) i.counted
      ∙ ap (λ n. inner_count w + n) s.counted ∙ sym count;
  seen = λ rest. let more = ns ++ rest in
      ap (λ l. inner l b whole) (append_assoc ms ns rest)
      ∙ write (ms ++ more)
      ∙ ap (λ l. l ++ in_type (drop (inner_count w) (ms ++ more)) b a) (i.seen more)
      ∙ ap (λ l. one ++ in_type l b a) (drop_at ms more (inner_count w) i.counted)
      ∙ ap (λ l. one ++ l) (s.seen rest);
}

-- If a type has no occurrence of its own, then its marks are the marks of its parts.
pub alone :
    (b : Bool) (ms : List ℕ) (t : Ty) (all : List Occurrence) → own_count t ≡ 0
    → ((j : ℕ) (arguments : List Ty) (items : List PlacedItem) → begins j b arguments items t ≡ [])
    → Inside b ms t all → Stands b ms t all
alone b ms t all none empty i = record {
  counted = let e : inner_count t ≡ total t = omega arith in i.counted ∙ e;
  seen = λ rest. let ns = ms ++ rest in
      ap (λ l. l ++ inner ns b t) (empty (slice_index ns (inner_count t)) (parts t) (items_in ns t))
      ∙ i.seen rest;
}

-- If a type begins with a name, then the mark of the name follows the marks of the name's
-- arguments.
pub with_name :
    (b : Bool) (ms : List ℕ) (j : ℕ) (name : Name) (t : Ty) (all : List Occurrence) → own_count t ≡ 1
    → ((i : ℕ) (arguments : List Ty) (items : List PlacedItem)
    → begins i b arguments items t ≡ use_of i name arguments b ∷ [])
    → Inside b ms t all → Stands b (ms ++ j ∷ []) t (use_of j name (parts t) b ∷ all)
with_name b ms j name t all one named i = record {
  counted = let e : inner_count t + 1 ≡ total t = omega arith in
      length-append ms (j ∷ []) ∙ ap (λ n. n + 1) i.counted ∙ e;
  seen = λ rest. let ns = ms ++ j ∷ rest in
      ap (λ l. in_type l b t) (append_assoc ms (j ∷ []) rest)
      ∙ ap (λ l. l ++ inner ns b t) (named (slice_index ns (inner_count t)) (parts t) (items_in ns t))
      ∙ ap (λ n. use_of n name (parts t) b ∷ inner ns b t)
      (get_or_at ms j rest 0 (inner_count t) i.counted)
      ∙ ap (λ l. use_of j name (parts t) b ∷ l) (i.seen (j ∷ rest));
}

-- ---- items of a bracket

-- `ms` are the marks of the bracket `w`, and `items` are the items of `w`.
abbrev pub WritesOrFails : List ℕ → Ty → List PlacedItem → Type 0
WritesOrFails ms w items = (rest : List ℕ) → items_in (ms ++ rest) w ≡ items

-- If a bracket is extended by a tag without an argument, then the mark of the tag follows.
pub next_tag :
    (b : Bool) (ms : List ℕ) (j : ℕ) (name : Name) (w : Ty) (one : List Occurrence)
    → Inside b ms w one → Inside b (ms ++ j ∷ []) (tag w name) (one ++ [])
next_tag b ms j name w one i = record {
  counted = length-append ms (j ∷ []) ∙ ap (λ n. n + 1) i.counted;
  seen = λ rest. ap (λ l. inner l b w) (append_assoc ms (j ∷ []) rest)
      ∙ i.seen (j ∷ rest) ∙ sym (append-nil one);
}

-- If a bracket is extended by a tag with an argument, or by an included type, then the marks of the
-- item follow.
pub next_item :
    (b c : Bool) (ms : List ℕ) (j : ℕ) (ns : List ℕ) (w a whole : Ty) (one other : List Occurrence)
    → inner_count whole ≡ inner_count w + 1 + total a
    → ((all : List ℕ) → inner all b whole ≡ inner all b w ++ in_type (drop (inner_count w + 1) all) c a)
    → Inside b ms w one → Stands c ns a other → Inside b (ms ++ j ∷ ns) whole (one ++ other)
next_item b c ms j ns w a whole one other count write i s = record {
  counted = let e : inner_count w + suc (total a) ≡ inner_count w + 1 + total a = omega arith in
      length-append ms (j ∷ ns) ∙ ap (λ n. n + suc (length ns)) i.counted
      ∙ ap (λ n. inner_count w + suc n) s.counted ∙ e ∙ sym count;
  seen = λ rest. let more = ns ++ rest in
      let long : length (ms ++ j ∷ []) ≡ inner_count w + 1 =
      length-append ms (j ∷ []) ∙ ap (λ n. n + 1) i.counted in
      ap (λ l. inner l b whole) (append_assoc ms (j ∷ ns) rest)
      ∙ write (ms ++ j ∷ more)
      ∙ ap (λ l. l ++ in_type (drop (inner_count w + 1) (ms ++ j ∷ more)) c a) (i.seen (j ∷ more))
      ∙ ap (λ l. one ++ in_type (drop (inner_count w + 1) l) c a) (sym (append_assoc ms (j ∷ []) more))
      ∙ ap (λ l. one ++ in_type l c a) (drop_at (ms ++ j ∷ []) more (inner_count w + 1) long)
      ∙ ap (λ l. one ++ l) (s.seen rest);
}

pub written_last :
    (b : Bool) (ms : List ℕ) (j : ℕ) (ns : List ℕ) (w whole item : Ty) (one : List Occurrence)
    (items : List PlacedItem)
    → ((all : List ℕ) → items_in all whole ≡ items_in all w ++ (slice_index all (inner_count w), item) ∷ [])
    → Inside b ms w one → WritesOrFails ms w items → WritesOrFails (ms ++ j ∷ ns) whole (items ++ (j, item) ∷ [])
written_last b ms j ns w whole item one items write i writes rest =
    let more = ns ++ rest in
    ap (λ l. items_in l whole) (append_assoc ms (j ∷ ns) rest)
    ∙ write (ms ++ j ∷ more)
    ∙ ap (λ n. items_in (ms ++ j ∷ more) w ++ (n, item) ∷ []) (get_or_at ms j more 0 (inner_count w) i.counted)
    ∙ ap (λ l. l ++ (j, item) ∷ []) (writes (j ∷ more))
