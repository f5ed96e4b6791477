-- The lexemes of a tree lead the table to the tree. A type that ends at a lexeme is at most as deep
-- as the state at the lexeme reports.
use Rattle.std.proofs.Common.{
  ℕ,
  ◌≡◌,
  ◌≤◌,
  Bool,
  true,
  false,
  List,
  length,
  Some,
  refl,
  arith,
  replicate,
}
use Rattle.types_lex.specs.declared.lexeme.LexemeKind.TheVariants as kinds
use Rattle.types_lex.specs.declared.lexeme.Symbol.TheVariants as symbols
use Rattle.types_parse.specs.grammar.Grammar.{
  Kinds,
  Texpr,
  App,
  Simple,
  Texprs,
  Items,
  ItemTree,
  single,
  starred,
  simple,
  applied,
  variable,
  named,
  grouped,
  arguments,
  bracket,
  first,
  further,
  one,
  more,
  tag,
  tag_of,
  included,
  bar_if,
  texpr,
  app,
  simple_kinds,
  texprs,
  items,
  item,
}
use Rattle.types_parse.specs.grammar.Depths.{
  app_depth,
  texpr_ends,
  app_ends,
  simple_ends,
  texprs_ends,
  items_ends,
  item_ends,
}
use Rattle.types_parse.specs.grammar.TypeMachine.{Leads, stop, go}
use Rattle.types_parse.specs.grammar.Holes.{
  Outer,
  alone,
  TypeHole,
  PartHole,
  ItemHole,
  HoleState,
  group,
  argument,
  of_tag,
  first_part,
  next_part,
  inclusion,
  first_item,
  next_item,
  due,
  read,
  name_due,
  tag_read,
  after_item,
  step,
  part_ended,
  ended,
}
use Rattle.types_parse.proofs.grammar.MachineLemmas.{onward, one_more, one_deep, raised}

module _ {W P O : Type 0} where
  -- ---- the state after a tree

  abbrev pub type_read : TypeHole W P → Texpr → HoleState W P O
  type_read h (single a) = read (first_part h) a
  type_read h (starred t a) = read (next_part h t) a

  abbrev pub texprs_read : PartHole W P → Texprs → HoleState W P O
  texprs_read p (first t) = type_read (group p) t
  texprs_read p (further ts t) = type_read (argument p ts) t

  abbrev pub item_read : ItemHole W P → ItemTree → HoleState W P O
  item_read h (tag x) = tag_read h x
  item_read h (tag_of x t) = type_read (of_tag h x) t
  item_read h (included a) = read (inclusion h) a

  abbrev pub items_read : PartHole W P → Bool → Items → HoleState W P O
  items_read p bar (one i) = item_read (first_item p bar) i
  items_read p bar (more before i) = item_read (next_item p bar before) i

module _ {W P O Text : Type 0} (o : Outer W P O Text) where
  abbrev pub Led : HoleState W P O → Kinds → List ℕ → HoleState W P O → Type 0
  Led = Leads (step o) ended

  -- ---- the next lexeme after a tree

  star_next : (h : TypeHole W P) (t : Texpr) → step o (type_read h t) (kinds.Symbol symbols.Star)
      ≡ Some (due (next_part h t))
  star_next h (single a) = refl
  star_next h (starred t a) = refl

  group_next : (p : PartHole W P) (t : Texpr) → step o (type_read (group p) t)
      (kinds.Symbol symbols.CloseParen) ≡ Some (read p (simple (grouped t)))
  group_next p (single a) = refl
  group_next p (starred t a) = refl

  arguments_next : (p : PartHole W P) (ts : Texprs) (t : Texpr) →
      step o (type_read (argument p ts) t) (kinds.Symbol symbols.CloseParen)
      ≡ Some (name_due p ts t)
  arguments_next p ts (single a) = refl
  arguments_next p ts (starred t a) = refl

  comma_next : (p : PartHole W P) (ts : Texprs) → step o (texprs_read p ts)
      (kinds.Symbol symbols.Comma) ≡ Some (due (first_part (argument p ts)))
  comma_next p (first (single a)) = refl
  comma_next p (first (starred t a)) = refl
  comma_next p (further ts (single a)) = refl
  comma_next p (further ts (starred t a)) = refl

  bar_after : (h : ItemHole W P) (i : ItemTree) → step o (item_read h i) (kinds.Symbol symbols.Bar)
      ≡ after_item h i (kinds.Symbol symbols.Bar)
  bar_after h (tag x) = refl
  bar_after h (tag_of x (single a)) = refl
  bar_after h (tag_of x (starred t a)) = refl
  bar_after h (included a) = refl

  bar_next : (p : PartHole W P) (bar : Bool) (before : Items) → step o (items_read p bar before)
      (kinds.Symbol symbols.Bar) ≡ Some (due (inclusion (next_item p bar before)))
  bar_next p bar (one i) = bar_after (first_item p bar) i
  bar_next p bar (more before i) = bar_after (next_item p bar before) i

  end_after : (h : ItemHole W P) (i : ItemTree) →
      step o (item_read h i) (kinds.Symbol symbols.CloseBracket)
      ≡ after_item h i (kinds.Symbol symbols.CloseBracket)
  end_after h (tag x) = refl
  end_after h (tag_of x (single a)) = refl
  end_after h (tag_of x (starred t a)) = refl
  end_after h (included a) = refl

  end_next : (p : PartHole W P) (bar : Bool) (all : Items) → step o (items_read p bar all)
      (kinds.Symbol symbols.CloseBracket) ≡ Some (read p (simple (bracket bar all)))
  end_next p bar (one i) = end_after (first_item p bar) i
  end_next p bar (more before i) = end_after (next_item p bar before) i

  -- The lexemes before the first item of a bracket lead to the state that expects the item.
  bar_leads : (p : PartHole W P) (bar : Bool) → Led (due (inclusion (first_item p false)))
      (bar_if bar) (replicate (length (bar_if bar)) 0) (due (inclusion (first_item p bar)))
  bar_leads p true = one_more refl
  bar_leads p false = stop

  deep_enough : (p : PartHole W P) (a : App) → app_depth a ≤ part_ended p a
  deep_enough (first_part h) a = omega arith
  deep_enough (next_part h t) a = omega arith
  deep_enough (inclusion h) a = omega arith
  deep_enough (alone q) a = omega arith

  -- ---- by the productions

  mutual
    pub texpr_leads : (t : Texpr) (h : TypeHole W P) → Led (due (first_part h)) (texpr t)
        (texpr_ends t) (type_read h t)
    texpr_leads (single a) h = app_leads a (first_part h)
    texpr_leads (starred t a) h = raised _ (omega arith)
        (onward (onward (texpr_leads t h) (one_more (star_next h t))) (app_leads a (next_part h t)))

    pub app_leads : (a : App) (p : PartHole W P) → Led (due p) (app a) (app_ends a) (read p a)
    app_leads (simple s) p = simple_leads s p
    app_leads (applied a x) p = onward (app_leads a p) (one_deep refl (deep_enough p (applied a x)))

    pub simple_leads : (s : Simple) (p : PartHole W P) → Led (due p) (simple_kinds s)
        (simple_ends s) (read p (simple s))
    simple_leads (variable x) p = one_deep refl (deep_enough p (simple (variable x)))
    simple_leads (named x) p = one_deep refl (deep_enough p (simple (named x)))
    simple_leads (grouped t) p = onward (onward (one_more refl) (texpr_leads t (group p)))
        (one_deep (group_next p t) (deep_enough p (simple (grouped t))))
    simple_leads (arguments ts t x) p =
        onward (onward (onward (onward (onward (one_more refl) (texprs_leads ts p))
        (one_more (comma_next p ts))) (texpr_leads t (argument p ts)))
        (one_more (arguments_next p ts t)))
        (one_deep refl (deep_enough p (simple (arguments ts t x))))
    simple_leads (bracket bar all) p =
        onward (onward (onward (one_more refl) (bar_leads p bar)) (items_leads all p bar))
        (one_deep (end_next p bar all) (deep_enough p (simple (bracket bar all))))

    pub texprs_leads : (ts : Texprs) (p : PartHole W P) → Led (due (first_part (group p)))
        (texprs ts) (texprs_ends ts) (texprs_read p ts)
    texprs_leads (first t) p = texpr_leads t (group p)
    texprs_leads (further ts t) p = onward (onward (texprs_leads ts p) (one_more (comma_next p ts)))
        (texpr_leads t (argument p ts))

    pub items_leads : (all : Items) (p : PartHole W P) (bar : Bool) →
        Led (due (inclusion (first_item p bar))) (items all) (items_ends all) (items_read p bar all)
    items_leads (one i) p bar = item_leads i (first_item p bar)
    items_leads (more before i) p bar =
        onward (onward (items_leads before p bar) (one_more (bar_next p bar before)))
        (item_leads i (next_item p bar before))

    pub item_leads : (i : ItemTree) (h : ItemHole W P) → Led (due (inclusion h)) (item i) (item_ends i)
        (item_read h i)
    item_leads (tag x) h = one_more refl
    item_leads (tag_of x t) h = go refl (omega arith)
        (go refl (omega arith) (texpr_leads t (of_tag h x)))
    item_leads (included a) h = app_leads a (inclusion h)
