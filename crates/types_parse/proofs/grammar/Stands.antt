-- The position of a list of lexemes in a longer list, with the types that end inside the list.
use Rattle.std.proofs.Common.{
  ℕ,
  zero,
  suc,
  ◌+◌,
  ◌-◌,
  ◌≡◌,
  ◌≤◌,
  ◌<◌,
  ◌∙◌,
  Bool,
  true,
  false,
  List,
  [],
  ◌∷◌,
  ◌++◌,
  length,
  refl,
  sym,
  ap,
  subst,
  arith,
  max,
  replicate,
  append_assoc,
  append-nil,
  length-append,
  le_refl,
  le_trans,
}
use Rattle.std.specs.Prelude.{slice_index}
use Rattle.std.proofs.lemmas.List.{get_or-append-add, get_or_append_left}
use Rattle.std.proofs.Math.Seq.{get_or-append_seam}
use Rattle.types_lex.specs.declared.lexeme.Symbol.TheVariants as symbols
use Rattle.types_parse.specs.grammar.Grammar.{
  Kinds,
  Texpr,
  App,
  Texprs,
  Items,
  ItemTree,
  simple,
  applied,
  variable,
  named,
  grouped,
  arguments,
  bracket,
  mark,
  lower,
  bar_if,
  texpr,
  app,
  texprs,
  items,
  item,
}
use Rattle.types_parse.specs.grammar.Depths.{
  app_depth,
  texpr_ends,
  app_ends,
  texprs_ends,
  items_ends,
  item_ends,
  at_last,
  no_end,
}
use Rattle.types_parse.specs.grammar.Holes.{whole, first_part, first_item}
use Rattle.types_parse.specs.grammar.Alone.{end, types}
use Rattle.types_parse.proofs.grammar.MachineLemmas.{leads_length}
use Rattle.types_parse.proofs.grammar.HolesLead.{
  texpr_leads,
  app_leads,
  texprs_leads,
  items_leads,
  item_leads,
}

-- The list `all` contains the lexemes `inner` after `before`, and `depths` are the depths of the
-- types that end in `inner`.
pub record Stands (before inner : Kinds) (depths : List ℕ) (all : Kinds) (ends : List ℕ) : Type 0
  where
    pub rest : Kinds
    pub encoded : all ≡ before ++ inner ++ rest
    pub even : length ends ≡ length all
    pub deep : (j : ℕ) → j < length inner → slice_index depths j ≤ slice_index ends
        (length before + j)

pub even_both : (xs ys : List ℕ) (zs ws : Kinds) → length xs ≡ length zs → length ys ≡ length ws →
    length (xs ++ ys) ≡ length (zs ++ ws)
even_both xs ys zs ws e f = simp length-append (cc)

pub alone : (inner : Kinds) (depths : List ℕ) → length depths ≡ length inner →
    Stands [] inner depths inner depths
alone inner depths e = record {
  rest = [];
  encoded = sym (append-nil inner);
  even = e;
  deep =
      λ j h. subst (λ n. slice_index depths j ≤ slice_index depths n) (let k : j ≡ 0 + j =
      omega arith in k) (le_refl (slice_index depths j));
}

pub after : (before inner : Kinds) (others depths : List ℕ) → length others ≡ length before →
    length depths ≡ length inner → Stands before inner depths (before ++ inner) (others ++ depths)
after before inner others depths e f = record {
  rest = [];
  encoded = sym (append-nil (before ++ inner));
  even = even_both others depths before inner e f;
  deep = λ j h. let f : slice_index (others ++ depths) (length others + j) ≡ slice_index depths j =
      get_or-append-add others depths j 0 in
      subst (λ n. slice_index depths j ≤ slice_index (others ++ depths) (n + j)) e (omega arith);
}

pub followed : {before inner all : Kinds} {depths ends : List ℕ} (last : Kinds) (others : List ℕ) →
    length others ≡ length last → Stands before inner depths all ends → Stands before inner depths
    (all ++ last) (ends ++ others)
followed {before} {inner} {all} {depths} {ends} last others e s = record {
  rest = s.rest ++ last;
  encoded = ap (λ xs. xs ++ last) s.encoded ∙ append_assoc (before ++ inner) s.rest last;
  even = even_both ends others all last s.even e;
  deep = λ j h.
      let fits : length all ≡ length before + length inner + length s.rest = ap length s.encoded
      ∙ simp length-append in
      let f : slice_index (ends ++ others) (length before + j) ≡ slice_index ends
      (length before + j) = get_or_append_left ends others 0 (length before + j)
      (omega (arith, s.even)) in
      let g : slice_index depths j ≤ slice_index ends (length before + j) = s.deep j h in
      omega arith;
}

pub at_last_more : (n : ℕ) (ends : List ℕ) (j : ℕ) → slice_index ends j ≤ slice_index
    (at_last n ends) j
at_last_more n [] j = omega arith
at_last_more n (m ∷ []) zero = omega arith
at_last_more n (m ∷ []) (suc j) = omega arith
at_last_more n (m ∷ k ∷ ms) zero = omega arith
at_last_more n (m ∷ k ∷ ms) (suc j) = at_last_more n (k ∷ ms) j

pub at_last_length : (n : ℕ) (ends : List ℕ) → length (at_last n ends) ≡ length ends
at_last_length n [] = refl
at_last_length n (m ∷ []) = refl
at_last_length n (m ∷ k ∷ ms) = ap suc (at_last_length n (k ∷ ms))

pub deepened : {before inner all : Kinds} {depths ends : List ℕ} (n : ℕ) →
    Stands before inner depths all ends → Stands before inner depths all (at_last n ends)
deepened {before} {ends = ends} n s = record {
  rest = s.rest;
  encoded = s.encoded;
  even =
      at_last_length n ends ∙ s.even;
  deep = λ j h. le_trans (s.deep j h)
      (at_last_more n ends (length before + j));
}

pub within : {before inner around mid all : Kinds} {depths mids ends : List ℕ} →
    Stands before inner depths mid mids → Stands around mid mids all ends →
    Stands (around ++ before) inner depths all ends
within {before} {inner} {around} {mid} {all} {depths} {mids} {ends} s o = record {
  rest = s.rest ++ o.rest;
  encoded = o.encoded ∙ ap (λ m. around ++ m ++ o.rest) s.encoded ∙ regroup around before inner
      s.rest o.rest;
  even = o.even;
  deep = λ j h.
      let fits : length mid ≡ length before + length inner + length s.rest = ap length s.encoded
      ∙ simp length-append in
      let f : slice_index depths j ≤ slice_index mids (length before + j) = s.deep j h in
      let g : slice_index mids (length before + j) ≤ slice_index ends
      (length around + (length before + j)) = o.deep (length before + j) (omega arith) in
      let k : length (around ++ before) + j ≡ length around + (length before + j) =
      ap (λ n. n + j) (length-append around before) ∙ omega arith in
      subst (λ n. slice_index depths j ≤ slice_index ends n) (sym k) (le_trans f g);
}
  where
    regroup : (a b i r o : Kinds) → a ++ (b ++ i ++ r) ++ o ≡ a ++ b ++ i ++ (r ++ o)
    regroup a b i r o = simp append_assoc

-- ---- as many depths as lexemes

pub texpr_even : (t : Texpr) → length (texpr_ends t) ≡ length (texpr t)
texpr_even t = leads_length (texpr_leads types t (whole end))

pub app_even : (a : App) → length (app_ends a) ≡ length (app a)
app_even a = leads_length (app_leads types a (first_part (whole end)))

pub item_even : (i : ItemTree) → length (item_ends i) ≡ length (item i)
item_even i = leads_length (item_leads types i (first_item (first_part (whole end)) false))

pub tuple_even : (t : Texpr) → length (texpr_ends t ++ no_end)
    ≡ length (texpr t ++ mark symbols.Star)
tuple_even t = even_both (texpr_ends t) no_end (texpr t) (mark symbols.Star) (texpr_even t) refl

pub arguments_even : (ts : Texprs) → length (no_end ++ texprs_ends ts ++ no_end)
    ≡ length (mark symbols.OpenParen ++ texprs ts ++ mark symbols.Comma)
arguments_even ts = ap suc (even_both (texprs_ends ts) no_end (texprs ts) (mark symbols.Comma)
    (leads_length (texprs_leads types ts (first_part (whole end)))) refl)

pub bar_even : (bar : Bool) → length (no_end ++ replicate (length (bar_if bar)) 0)
    ≡ length (mark symbols.OpenBracket ++ bar_if bar)
bar_even true = refl
bar_even false = refl

pub items_even : (before : Items) → length (items_ends before ++ no_end)
    ≡ length (items before ++ mark symbols.Bar)
items_even before = even_both (items_ends before) no_end (items before) (mark symbols.Bar)
    (leads_length (items_leads types before (first_part (whole end)) false)) refl

-- ---- the last lexeme

pub last_of : (xs : List ℕ) (n m : ℕ) → length (xs ++ n ∷ []) ≡ m → n ≤ slice_index (xs ++ n ∷ [])
    (m - 1)
last_of xs n m e = let f : slice_index (xs ++ n ∷ []) (length xs) ≡ n = get_or-append_seam xs n []
    0 in let k : m - 1 ≡ length xs = omega (arith, length-append xs (n ∷ [])) in
    subst (λ i. n ≤ slice_index (xs ++ n ∷ []) i) (sym k) (omega arith)

pub raised_last : (n : ℕ) (ends : List ℕ) (m : ℕ) → length (at_last n ends) ≡ m → 0 < m →
    n ≤ slice_index (at_last n ends) (m - 1)
raised_last n [] m e h = absurd (omega arith)
raised_last n (k ∷ []) m e h = subst (λ i. n ≤ slice_index (max k n ∷ []) (i - 1)) e (omega arith)
raised_last n (k ∷ l ∷ ms) m e h =
    let f : n ≤ slice_index (at_last n (l ∷ ms)) (m - 1 - 1) = raised_last n (l ∷ ms) (m - 1)
    (omega arith) (omega (arith, at_last_length n (l ∷ ms))) in
    let i : m - 1 ≡ suc (m - 1 - 1) = omega (arith, at_last_length n (l ∷ ms)) in
    subst (λ i. n ≤ slice_index (k ∷ at_last n (l ∷ ms)) i) (sym i) f

pub app_some : (a : App) → 0 < length (app a)
app_some (simple (variable x)) = omega arith
app_some (simple (named x)) = omega arith
app_some (simple (grouped t)) = omega arith
app_some (simple (arguments ts t x)) = omega arith
app_some (simple (bracket bar all)) = omega arith
app_some (applied a x) = omega (arith, length-append (app a) (lower x))

pub app_last : (a : App) → app_depth a ≤ slice_index (app_ends a) (length (app a) - 1)
app_last (simple (variable x)) = omega arith
app_last (simple (named x)) = omega arith
app_last (simple (grouped t)) = last_of (no_end ++ texpr_ends t) _ _ (app_even (simple (grouped t)))
app_last (simple (arguments ts t x)) = last_of (no_end ++ texprs_ends ts ++ no_end ++ texpr_ends t
    ++ no_end) _ _ (app_even (simple (arguments ts t x)))
app_last (simple (bracket bar all)) = last_of (no_end ++ replicate (length (bar_if bar)) 0
    ++ items_ends all) _ _ (app_even (simple (bracket bar all)))
app_last (applied a x) = last_of (app_ends a) _ _ (app_even (applied a x))

pub deep_there : {before inner all : Kinds} {depths ends : List ℕ} (n : ℕ) →
    Stands before inner depths all ends → 0 < length inner →
    n ≤ slice_index depths (length inner - 1) → n ≤ slice_index ends (length (before ++ inner) - 1)
deep_there {before} {inner} {ends = ends} n s h d =
    let k : length (before ++ inner) - 1 ≡ length before + (length inner - 1) =
    omega (arith, length-append before inner) in
    subst (λ i. n ≤ slice_index ends i) (sym k)
    (le_trans d (s.deep (length inner - 1) (omega arith)))
