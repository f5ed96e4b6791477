-- Counting gives the occurrences of types, by the productions of the grammar.
use Rattle.std.proofs.Common.{ℕ, suc, ◌+◌, ◌≡◌, ◌∙◌, Bool, true, false, List, [], ◌∷◌, ◌++◌, length}
use Rattle.std.proofs.Common.{refl, sym, ap, subst, arith, length-append}
use Rattle.std.specs.Prelude.{slice_index}
use Rattle.std.proofs.lemmas.List.{append-nil}
use Rattle.types_lex.specs.declared.lexeme.LexemeKind.TheVariants as kinds
use Rattle.types_lex.specs.declared.lexeme.Symbol.TheVariants as symbols
use Rattle.types_parse.specs.grammar.Grammar.{Name, Texpr, App, Simple, Texprs, Items, ItemTree, texpr, app, simple_kinds}
use Rattle.types_parse.specs.grammar.Grammar.{texprs, items, item, mark, lower, bar_if}
use Rattle.types_parse.specs.grammar.Grammar as trees
use Rattle.types_spec.specs.types.Ty.{Ty, named, tuple, bracket, part, tag, tag_of, including, parts}
use Rattle.types_spec.specs.types.Occurrence.{Occurrence, PlacedItem, use_of, bracket_of}
use Rattle.types_parse.specs.parse.WrittenTrees.{type_of_texpr, tuple_of, type_of_app, applied_to, type_of_items}
use Rattle.types_parse.specs.parse.WrittenTrees.{with_item, type_of_simple}
use Rattle.types_parse.specs.parse.TypeShown.{types_of_texprs}
use Rattle.types_resolve.specs.occurrences.InText.{placed_items, in_texpr, in_app, in_simple, in_texprs, in_items}
use Rattle.types_resolve.specs.occurrences.InText.{in_item}
use Rattle.types_resolve.specs.occurrences.Counted.{marks, own_count, inner_count, items_in, begins, inner, in_type}
use Rattle.types_resolve.specs.occurrences.Laws.{TypesAreCounted}
use Rattle.types_resolve.proofs.occurrences.OccurrenceStandLemmas.{IsSilent, IsClosed, closed_last, marks_append, marks_before}
use Rattle.types_resolve.proofs.occurrences.OccurrenceStandLemmas.{marks_over, Stands, Inside, WritesOrFails, first_part, next_part, alone}
use Rattle.types_resolve.proofs.occurrences.OccurrenceStandLemmas.{with_name, next_tag, next_item, written_last}

-- ---- the beginnings of types

tuple_own : (t : Texpr) → own_count (tuple_of t) ≡ 0
tuple_own (trees.single a) = refl
tuple_own (trees.starred t a) = tuple_own t

tuple_begins :
    (j : ℕ) (b : Bool) (arguments : List Ty) (items : List PlacedItem) (t : Texpr)
    → begins j b arguments items (tuple_of t) ≡ []
tuple_begins j b arguments items (trees.single a) = refl
tuple_begins j b arguments items (trees.starred t a) = tuple_begins j b arguments items t

applied_own : (name : Name) (ts : Texprs) → own_count (applied_to name ts) ≡ 1
applied_own name (trees.first t) = refl
applied_own name (trees.further ts t) = applied_own name ts

applied_begins :
    (j : ℕ) (b : Bool) (arguments : List Ty) (items : List PlacedItem) (name : Name) (ts : Texprs)
    → begins j b arguments items (applied_to name ts) ≡ use_of j name arguments b ∷ []
applied_begins j b arguments items name (trees.first t) = refl
applied_begins j b arguments items name (trees.further ts t) =
    applied_begins j b arguments items name ts

applied_parts : (name : Name) (ts : Texprs) → parts (applied_to name ts) ≡ types_of_texprs ts
applied_parts name (trees.first t) = refl
applied_parts name (trees.further ts t) = ap (λ all. all ++ type_of_texpr t ∷ []) (applied_parts name ts)

item_own : (w : Ty) (i : ItemTree) → own_count (with_item w i) ≡ own_count w
item_own w (trees.tag name) = refl
item_own w (trees.tag_of name t) = refl
item_own w (trees.included a) = refl

items_own : (all : Items) → own_count (type_of_items all) ≡ 0
items_own (trees.one i) = item_own bracket i
items_own (trees.more all i) = item_own (type_of_items all) i ∙ items_own all

item_begins :
    (j : ℕ) (b : Bool) (arguments : List Ty) (items : List PlacedItem) (w : Ty) (i : ItemTree)
    → begins j b arguments items (with_item w i) ≡ begins j b arguments items w
item_begins j b arguments items w (trees.tag name) = refl
item_begins j b arguments items w (trees.tag_of name t) = refl
item_begins j b arguments items w (trees.included a) = refl

items_begin :
    (j : ℕ) (b : Bool) (arguments : List Ty) (items : List PlacedItem) (all : Items)
    → begins j b arguments items (type_of_items all) ≡ bracket_of items ∷ []
items_begin j b arguments items (trees.one i) = item_begins j b arguments items bracket i
items_begin j b arguments items (trees.more all i) =
    item_begins j b arguments items (type_of_items all) i ∙ items_begin j b arguments items all

-- ---- lexemes between types

a_star : IsSilent (mark symbols.Star)
a_star j fresh = refl

a_comma : IsSilent (mark symbols.Comma)
a_comma j fresh = refl

a_bar : IsSilent (mark symbols.Bar)
a_bar j fresh = refl

a_closing : IsSilent (mark symbols.CloseParen)
a_closing j fresh = refl

a_bracket_closing : IsSilent (mark symbols.CloseBracket)
a_bracket_closing j fresh = refl

-- After the lexemes of a type, no item begins.
simple_closed : (s : Simple) → IsClosed (simple_kinds s)
simple_closed (trees.variable name) fresh = refl
simple_closed (trees.named name) fresh = refl
simple_closed (trees.grouped t) fresh =
    closed_last (mark symbols.OpenParen ++ texpr t) (mark symbols.CloseParen) (λ f. refl) fresh
simple_closed (trees.arguments ts t name) fresh =
    closed_last (mark symbols.OpenParen ++ texprs ts ++ mark symbols.Comma ++ texpr t ++ mark symbols.CloseParen) (lower name)
    (λ f. refl) fresh
simple_closed (trees.bracket bar all) fresh =
    closed_last (mark symbols.OpenBracket ++ bar_if bar ++ items all) (mark symbols.CloseBracket) (λ f. refl) fresh

pub app_closed : (a : App) → IsClosed (app a)
app_closed (trees.simple s) fresh = simple_closed s fresh
app_closed (trees.applied a name) fresh = closed_last (app a) (lower name) (λ f. refl) fresh

pub texpr_closed : (t : Texpr) → IsClosed (texpr t)
texpr_closed (trees.single a) fresh = app_closed a fresh
texpr_closed (trees.starred t a) fresh = closed_last (texpr t ++ mark symbols.Star) (app a) (app_closed a) fresh

-- If a bracket includes a type, then the type has one more mark, at its first lexeme.
simple_included : (k : ℕ) (s : Simple) → marks k true (simple_kinds s) ≡ k ∷ marks k false (simple_kinds s)
simple_included k (trees.variable name) = refl
simple_included k (trees.named name) = refl
simple_included k (trees.grouped t) = refl
simple_included k (trees.arguments ts t name) = refl
simple_included k (trees.bracket bar all) = refl

-- The marks of a name after its single argument.
applied_marks :
    (k : ℕ) (fresh : Bool) (a : App) (name : Name)
    → marks k fresh (app a ++ lower name) ≡ marks k fresh (app a) ++ (k + length (app a)) ∷ []
applied_marks k fresh a name = marks_append k fresh (app a) (lower name)
    ∙ ap (λ f. marks k fresh (app a) ++ marks (k + length (app a)) f (lower name)) (app_closed a fresh)

app_included : (k : ℕ) (a : App) → marks k true (app a) ≡ k ∷ marks k false (app a)
app_included k (trees.simple s) = simple_included k s
app_included k (trees.applied a name) =
    applied_marks k true a name
    ∙ ap (λ l. l ++ (k + length (app a)) ∷ []) (app_included k a)
    ∙ ap (λ l. k ∷ l) (sym (applied_marks k false a name))

-- ---- the productions

closed_bracket :
    (b : Bool) (ms : List ℕ) (all : Items) (placed : List PlacedItem) (one : List Occurrence)
    → Inside b ms (type_of_items all) one → WritesOrFails ms (type_of_items all) placed
    → Stands b ms (type_of_items all) (bracket_of placed ∷ one)
closed_bracket b ms all placed one i writes = record {
  counted = let none = items_own all in
      let e : inner_count (type_of_items all) ≡ inner_count (type_of_items all) + own_count (type_of_items all) =
      omega arith in i.counted ∙ e;
  seen = λ rest. let ns = ms ++ rest in let w = type_of_items all in
      ap (λ l. l ++ inner ns b w) (items_begin (slice_index ns (inner_count w)) b (parts w) (items_in ns w) all)
      ∙ ap (λ l. bracket_of l ∷ inner ns b w) (writes rest)
      ∙ ap (λ l. bracket_of placed ∷ l) (i.seen rest);
}

-- The marks of a bracket are the marks of the bracket's items.
bracket_marks :
    (k : ℕ) (bar : Bool) (all : Items)
    → marks k false (simple_kinds (trees.bracket bar all)) ≡ marks (k + length (bar_if bar) + 1) true (items all)
bracket_marks k true all =
    let e : suc (suc k) ≡ k + 1 + 1 = omega arith in
    marks_before k false (mark symbols.OpenBracket ++ bar_if true ++ items all) (mark symbols.CloseBracket) a_bracket_closing
    ∙ ap (λ j. marks j true (items all)) e
bracket_marks k false all =
    let e : suc k ≡ k + 0 + 1 = omega arith in
    marks_before k false (mark symbols.OpenBracket ++ bar_if false ++ items all) (mark symbols.CloseBracket) a_bracket_closing
    ∙ ap (λ j. marks j true (items all)) e

-- The marks of a name after its several arguments in parentheses.
arguments_marks :
    (k : ℕ) (ts : Texprs) (t : Texpr) (name : Name)
    → marks k false (simple_kinds (trees.arguments ts t name))
    ≡ (marks (k + 1) false (texprs ts) ++ marks (k + length (texprs ts) + 2) false (texpr t))
    ++ (k + length (texprs ts) + length (texpr t) + 3) ∷ []
arguments_marks k ts t name =
    let prefix = mark symbols.OpenParen ++ texprs ts in
    let inside = prefix ++ mark symbols.Comma ++ texpr t in
    let one : suc k ≡ k + 1 = omega arith in
    let two : k + length prefix + 1 ≡ k + length (texprs ts) + 2 = omega arith in
    let at : k + length inside + 1 ≡ k + length (texprs ts) + length (texpr t) + 3 =
    omega (arith, length-append (prefix ++ mark symbols.Comma) (texpr t), length-append prefix (mark symbols.Comma)) in
    marks_over k false inside (kinds.Symbol symbols.CloseParen) (lower name) a_closing
    ∙ ap (λ l. l ++ (k + length inside + 1) ∷ [])
    (marks_over k false prefix (kinds.Symbol symbols.Comma) (texpr t) a_comma
    ∙ ap (λ j. marks j false (texprs ts) ++ marks (k + length prefix + 1) false (texpr t)) one
    ∙ ap (λ j. marks (k + 1) false (texprs ts) ++ marks j false (texpr t)) two)
    ∙ ap (λ j. (marks (k + 1) false (texprs ts) ++ marks (k + length (texprs ts) + 2) false (texpr t)) ++ j ∷ []) at

-- The marks of a tuple that is extended by one more component.
tuple_next :
    (k : ℕ) (b : Bool) (t : Texpr) (a : App)
    → Inside b (marks k false (texpr t)) (tuple_of t) (in_texpr k b t)
    → Stands b (marks (k + length (texpr t) + 1) false (app a)) (type_of_app a) (in_app (k + length (texpr t) + 1) b a)
    → Inside b (marks k false (texpr (trees.starred t a))) (part (tuple_of t) (type_of_app a)) (in_texpr k b (trees.starred t a))
tuple_next k b t a before last =
    let j = k + length (texpr t) + 1 in
    let whole = part (tuple_of t) (type_of_app a) in
    subst (λ ms. Inside b ms whole (in_texpr k b t ++ in_app j b a))
    (sym (marks_over k false (texpr t) (kinds.Symbol symbols.Star) (app a) a_star))
    (next_part b (marks k false (texpr t)) (marks j false (app a)) (tuple_of t) (type_of_app a) whole
    (in_texpr k b t) (in_app j b a) refl (λ ms. refl) before last)

mutual
  pub texpr_stands :
      (k : ℕ) (b : Bool) (t : Texpr) → Stands b (marks k false (texpr t)) (type_of_texpr t) (in_texpr k b t)
  texpr_stands k b (trees.single a) = app_stands k b a
  texpr_stands k b (trees.starred t a) =
      alone b (marks k false (texpr (trees.starred t a))) (part (tuple_of t) (type_of_app a)) (in_texpr k b (trees.starred t a))
      (tuple_own t) (λ j arguments items. tuple_begins j b arguments items t)
      (tuple_next k b t a (tuple_inside k b t) (app_stands (k + length (texpr t) + 1) b a))

  tuple_inside :
      (k : ℕ) (b : Bool) (t : Texpr) → Inside b (marks k false (texpr t)) (tuple_of t) (in_texpr k b t)
  tuple_inside k b (trees.single a) =
      first_part b (marks k false (app a)) tuple (type_of_app a) (in_app k b a) refl (λ ms. refl) (app_stands k b a)
  tuple_inside k b (trees.starred t a) =
      tuple_next k b t a (tuple_inside k b t) (app_stands (k + length (texpr t) + 1) b a)

  pub app_stands : (k : ℕ) (b : Bool) (a : App) → Stands b (marks k false (app a)) (type_of_app a) (in_app k b a)
  app_stands k b (trees.simple s) = simple_stands k b s
  app_stands k b (trees.applied a name) =
      let whole = part (named name) (type_of_app a) in
      subst (λ ms. Stands b ms whole (in_app k b (trees.applied a name))) (sym (applied_marks k false a name))
      (with_name b (marks k false (app a)) (k + length (app a)) name whole (in_app k b a) refl (λ i arguments items. refl)
      (first_part b (marks k false (app a)) (named name) (type_of_app a) (in_app k b a) refl (λ ms. refl) (app_stands k b a)))

  simple_stands :
      (k : ℕ) (b : Bool) (s : Simple) → Stands b (marks k false (simple_kinds s)) (type_of_simple s) (in_simple k b s)
  simple_stands k b (trees.variable name) = record { counted = refl; seen = λ rest. refl }
  simple_stands k b (trees.named name) = record { counted = refl; seen = λ rest. refl }
  simple_stands k b (trees.grouped t) =
      let one : suc k ≡ k + 1 = omega arith in
      subst (λ ms. Stands b ms (type_of_texpr t) (in_texpr (k + 1) b t))
      (sym (marks_before k false (mark symbols.OpenParen ++ texpr t) (mark symbols.CloseParen) a_closing
      ∙ ap (λ j. marks j false (texpr t)) one)) (texpr_stands (k + 1) b t)
  simple_stands k b (trees.arguments ts t name) =
      let w = part (applied_to name ts) (type_of_texpr t) in
      let i = k + length (texprs ts) + 2 in
      let j = k + length (texprs ts) + length (texpr t) + 3 in
      let all = in_texprs (k + 1) b ts ++ in_texpr i b t in
      let ms = marks (k + 1) false (texprs ts) in
      let ns = marks i false (texpr t) in
      subst (λ l. Stands b (marks k false (simple_kinds (trees.arguments ts t name))) w
      (use_of j name (l ++ type_of_texpr t ∷ []) b ∷ all)) (applied_parts name ts)
      (subst (λ l. Stands b l w (use_of j name (parts w) b ∷ all)) (sym (arguments_marks k ts t name))
      (with_name b (ms ++ ns) j name w all (applied_own name ts)
      (λ n arguments items. applied_begins n b arguments items name ts)
      (next_part b ms ns (applied_to name ts) (type_of_texpr t) w (in_texprs (k + 1) b ts) (in_texpr i b t) refl (λ l. refl)
      (texprs_inside (k + 1) b name ts) (texpr_stands i b t))))
  simple_stands k b (trees.bracket bar all) =
      let j = k + length (bar_if bar) + 1 in
      subst (λ ms. Stands b ms (type_of_items all) (bracket_of (placed_items j all) ∷ in_items j b all))
      (sym (bracket_marks k bar all))
      (closed_bracket b (marks j true (items all)) all (placed_items j all) (in_items j b all)
      (items_inside j b all) (items_written j b all))

  texprs_inside :
      (k : ℕ) (b : Bool) (name : Name) (ts : Texprs)
      → Inside b (marks k false (texprs ts)) (applied_to name ts) (in_texprs k b ts)
  texprs_inside k b name (trees.first t) =
      first_part b (marks k false (texpr t)) (named name) (type_of_texpr t) (in_texpr k b t) refl (λ ms. refl)
      (texpr_stands k b t)
  texprs_inside k b name (trees.further ts t) =
      let j = k + length (texprs ts) + 1 in
      let whole = part (applied_to name ts) (type_of_texpr t) in
      subst (λ ms. Inside b ms whole (in_texprs k b ts ++ in_texpr j b t))
      (sym (marks_over k false (texprs ts) (kinds.Symbol symbols.Comma) (texpr t) a_comma))
      (next_part b (marks k false (texprs ts)) (marks j false (texpr t)) (applied_to name ts) (type_of_texpr t) whole
      (in_texprs k b ts) (in_texpr j b t) refl (λ ms. refl) (texprs_inside k b name ts) (texpr_stands j b t))

  items_inside :
      (k : ℕ) (b : Bool) (all : Items)
      → Inside b (marks k true (items all)) (type_of_items all) (in_items k b all)
  items_inside k b (trees.one i) =
      item_inside k b [] bracket [] i (record { counted = refl; seen = λ rest. refl })
  items_inside k b (trees.more all i) =
      let j = k + length (items all) + 1 in
      subst (λ ms. Inside b ms (with_item (type_of_items all) i) (in_items k b all ++ in_item j b i))
      (sym (marks_over k true (items all) (kinds.Symbol symbols.Bar) (item i) a_bar))
      (item_inside j b (marks k true (items all)) (type_of_items all) (in_items k b all) i (items_inside k b all))

  item_inside :
      (j : ℕ) (b : Bool) (ms : List ℕ) (w : Ty) (one : List Occurrence) (i : ItemTree) → Inside b ms w one
      → Inside b (ms ++ marks j true (item i)) (with_item w i) (one ++ in_item j b i)
  item_inside j b ms w one (trees.tag name) before = next_tag b ms j name w one before
  item_inside j b ms w one (trees.tag_of name t) before =
      let two : suc (suc j) ≡ j + 2 = omega arith in
      let a = type_of_texpr t in
      subst (λ n. Inside b (ms ++ j ∷ marks n false (texpr t)) (tag_of w name a) (one ++ in_texpr (j + 2) true t)) (sym two)
      (next_item b true ms j (marks (j + 2) false (texpr t)) w a (tag_of w name a) one (in_texpr (j + 2) true t) refl
      (λ all. refl) before (texpr_stands (j + 2) true t))
  item_inside j b ms w one (trees.included a) before =
      let u = type_of_app a in
      subst (λ l. Inside b (ms ++ l) (including w u) (one ++ in_app j b a)) (sym (app_included j a))
      (next_item b b ms j (marks j false (app a)) w u (including w u) one (in_app j b a) refl (λ all. refl) before
      (app_stands j b a))

  items_written :
      (k : ℕ) (b : Bool) (all : Items)
      → WritesOrFails (marks k true (items all)) (type_of_items all) (placed_items k all)
  items_written k b (trees.one i) =
      item_written k b [] bracket [] [] i (record { counted = refl; seen = λ rest. refl }) (λ rest. refl)
  items_written k b (trees.more all i) =
      let j = k + length (items all) + 1 in
      subst (λ ms. WritesOrFails ms (with_item (type_of_items all) i) (placed_items k all ++ (j, with_item bracket i) ∷ []))
      (sym (marks_over k true (items all) (kinds.Symbol symbols.Bar) (item i) a_bar))
      (item_written j b (marks k true (items all)) (type_of_items all) (in_items k b all) (placed_items k all) i
      (items_inside k b all) (items_written k b all))

  item_written :
      (j : ℕ) (b : Bool) (ms : List ℕ) (w : Ty) (one : List Occurrence) (placed : List PlacedItem) (i : ItemTree)
      → Inside b ms w one → WritesOrFails ms w placed
      → WritesOrFails (ms ++ marks j true (item i)) (with_item w i) (placed ++ (j, with_item bracket i) ∷ [])
  item_written j b ms w one placed (trees.tag name) before written =
      written_last b ms j [] w (tag w name) (tag bracket name) one placed (λ all. refl) before written
  item_written j b ms w one placed (trees.tag_of name t) before written =
      let a = type_of_texpr t in
      written_last b ms j (marks (suc (suc j)) false (texpr t)) w (tag_of w name a) (tag_of bracket name a) one placed
      (λ all. refl) before written
  item_written j b ms w one placed (trees.included a) before written =
      let u = type_of_app a in
      subst (λ l. WritesOrFails (ms ++ l) (including w u) (placed ++ (j, including bracket u) ∷ [])) (sym (app_included j a))
      (written_last b ms j (marks j false (app a)) w (including w u) (including bracket u) one placed (λ all. refl) before
      written)

pub types_are_counted : TypesAreCounted
types_are_counted k b t =
    ap (λ ms. in_type ms b (type_of_texpr t)) (sym (append-nil (marks k false (texpr t)))) ∙ (texpr_stands k b t).seen []
