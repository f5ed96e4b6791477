-- The states of the parsing table inside a type. A state consists of the tree that was read last
-- and the context read so far. The context of the whole type, or of a type that is not a tuple,
-- belongs to another grammar and is a parameter.
use Rattle.std.specs.Prelude.{ℕ, suc, Bool, true, false, Option, Some, None, [], ◌∷◌, ◌++◌}
use Rattle.types_lex.specs.declared.lexeme.LexemeKind.{LexemeKind}
use Rattle.types_lex.specs.declared.lexeme.LexemeKind.TheVariants as kinds
use Rattle.types_lex.specs.declared.lexeme.Keyword.TheVariants as keywords
use Rattle.types_lex.specs.declared.lexeme.Symbol.TheVariants as symbols
use Rattle.types_parse.specs.grammar.Grammar.{
  Name,
  Kinds,
  Texpr,
  App,
  Texprs,
  Items,
  ItemTree,
  single,
  starred,
  simple,
  applied,
  variable,
  named,
  grouped,
  arguments,
  bracket,
  first,
  further,
  one,
  more,
  tag,
  tag_of,
  included,
  mark,
  bar_if,
  texpr,
  app,
  texprs,
  items,
}
use Rattle.types_parse.specs.grammar.Depths.{texpr_depth, app_depth}

mutual
  -- The context of a type that is being read.
  pub data TypeHole (W P : Type 0) : Type 0 where
    whole : W → TypeHole W P
    group : PartHole W P → TypeHole W P
    argument : PartHole W P → Texprs → TypeHole W P
    of_tag : ItemHole W P → Name → TypeHole W P

  -- The context of a component of a type.
  pub data PartHole (W P : Type 0) : Type 0 where
    first_part : TypeHole W P → PartHole W P
    next_part : TypeHole W P → Texpr → PartHole W P
    inclusion : ItemHole W P → PartHole W P
    alone : P → PartHole W P

  -- The context of an item of a bracket.
  pub data ItemHole (W P : Type 0) : Type 0 where
    first_item : PartHole W P → Bool → ItemHole W P
    next_item : PartHole W P → Bool → Items → ItemHole W P

pub data HoleState (W P O : Type 0) : Type 0 where
  due : PartHole W P → HoleState W P O
  read : PartHole W P → App → HoleState W P O
  -- The state after the parenthesis that closes several arguments.
  name_due : PartHole W P → Texprs → Texpr → HoleState W P O
  tag_read : ItemHole W P → Name → HoleState W P O
  outside : O → HoleState W P O

-- The grammar outside of types: the steps, the lexemes read, the open brackets and the closed
-- texts.
pub record Outer (W P O Text : Type 0) : Type 0 where
  pub type_step : W → Texpr → LexemeKind → Option (HoleState W P O)
  pub part_step : P → App → LexemeKind → Option (HoleState W P O)
  pub outside_step : O → LexemeKind → Option (HoleState W P O)
  pub prefix_of_type : W → Kinds
  pub prefix_of_part : P → Kinds
  pub prefix_of_outside : O → Kinds
  pub open_of_type : W → ℕ
  pub open_of_part : P → ℕ
  pub open_of_outside : O → ℕ
  pub closed_round_type : W → Texpr → Text
  pub closed_round_part : P → App → Text

module _ {W P : Type 0} where
  -- The depth of the deepest type that ends at the last lexeme.
  abbrev pub part_ended : PartHole W P → App → ℕ
  part_ended (first_part h) a = app_depth a
  part_ended (next_part h t) a = texpr_depth (starred t a)
  part_ended (inclusion h) a = app_depth a
  part_ended (alone q) a = app_depth a

module _ {W P O : Type 0} where
  -- ---- the table

  abbrev pub begin_item : PartHole W P → LexemeKind → Option (HoleState W P O)
  begin_item (inclusion h) (kinds.Tag x) = Some (tag_read h x)
  begin_item (inclusion (first_item p false)) (kinds.Symbol symbols.Bar) =
      Some (due (inclusion (first_item p true)))
  begin_item p kind = None

  abbrev pub begin : PartHole W P → LexemeKind → Option (HoleState W P O)
  begin p (kinds.Variable x) = Some (read p (simple (variable x)))
  begin p (kinds.Lower x) = Some (read p (simple (named x)))
  begin p (kinds.Symbol symbols.OpenParen) = Some (due (first_part (group p)))
  begin p (kinds.Symbol symbols.OpenBracket) = Some (due (inclusion (first_item p false)))
  begin p kind = begin_item p kind

  abbrev pub after_items : PartHole W P → Bool → Items → LexemeKind → Option (HoleState W P O)
  after_items p bar all (kinds.Symbol symbols.Bar) = Some (due (inclusion (next_item p bar all)))
  after_items p bar all (kinds.Symbol symbols.CloseBracket) =
      Some (read p (simple (bracket bar all)))
  after_items p bar all kind = None

  abbrev pub after_item : ItemHole W P → ItemTree → LexemeKind → Option (HoleState W P O)
  after_item (first_item p bar) i kind = after_items p bar (one i) kind
  after_item (next_item p bar before) i kind = after_items p bar (more before i) kind

  abbrev pub ended : HoleState W P O → ℕ
  ended (due p) = 0
  ended (read p a) = part_ended p a
  ended (name_due p ts t) = 0
  ended (tag_read h x) = 0
  ended (outside q) = 0

module _ {W P O Text : Type 0} (o : Outer W P O Text) where
  abbrev pub close_type : TypeHole W P → Texpr → LexemeKind → Option (HoleState W P O)
  close_type (group p) t (kinds.Symbol symbols.CloseParen) = Some (read p (simple (grouped t)))
  close_type (group p) t (kinds.Symbol symbols.Comma) =
      Some (due (first_part (argument p (first t))))
  close_type (argument p ts) t (kinds.Symbol symbols.CloseParen) = Some (name_due p ts t)
  close_type (argument p ts) t (kinds.Symbol symbols.Comma) =
      Some (due (first_part (argument p (further ts t))))
  close_type (of_tag h x) t kind = after_item h (tag_of x t) kind
  close_type (whole w) t kind = o.type_step w t kind
  close_type h t kind = None

  abbrev pub after_type : TypeHole W P → Texpr → LexemeKind → Option (HoleState W P O)
  after_type h t (kinds.Symbol symbols.Star) = Some (due (next_part h t))
  after_type h t kind = close_type h t kind

  abbrev pub close_part : PartHole W P → App → LexemeKind → Option (HoleState W P O)
  close_part (first_part h) a kind = after_type h (single a) kind
  close_part (next_part h t) a kind = after_type h (starred t a) kind
  close_part (inclusion h) a kind = after_item h (included a) kind
  close_part (alone q) a kind = o.part_step q a kind

  abbrev pub after_part : PartHole W P → App → LexemeKind → Option (HoleState W P O)
  after_part p a (kinds.Lower x) = Some (read p (applied a x))
  after_part p a kind = close_part p a kind

  abbrev pub take_name : PartHole W P → Texprs → Texpr → LexemeKind → Option (HoleState W P O)
  take_name p ts t (kinds.Lower x) = Some (read p (simple (arguments ts t x)))
  take_name p ts t kind = None

  abbrev pub after_tag : ItemHole W P → Name → LexemeKind → Option (HoleState W P O)
  after_tag h x (kinds.Keyword keywords.Of) = Some (due (first_part (of_tag h x)))
  after_tag h x kind = after_item h (tag x) kind

  abbrev pub step : HoleState W P O → LexemeKind → Option (HoleState W P O)
  step (due p) kind = begin p kind
  step (read p a) kind = after_part p a kind
  step (name_due p ts t) kind = take_name p ts t kind
  step (tag_read h x) kind = after_tag h x kind
  step (outside q) kind = o.outside_step q kind

  -- ---- the lexemes that a state has read

  abbrev mutual
    pub type_prefix : TypeHole W P → Kinds
    type_prefix (whole w) = o.prefix_of_type w
    type_prefix (group p) = part_prefix p ++ mark symbols.OpenParen
    type_prefix (argument p ts) = part_prefix p ++ (mark symbols.OpenParen ++ texprs ts
        ++ mark symbols.Comma)
    type_prefix (of_tag h x) = item_prefix h ++ kinds.Tag x ∷ kinds.Keyword keywords.Of ∷ []

    pub part_prefix : PartHole W P → Kinds
    part_prefix (first_part h) = type_prefix h
    part_prefix (next_part h t) = type_prefix h ++ (texpr t ++ mark symbols.Star)
    part_prefix (inclusion h) = item_prefix h
    part_prefix (alone q) = o.prefix_of_part q

    pub item_prefix : ItemHole W P → Kinds
    item_prefix (first_item p bar) = part_prefix p ++ (mark symbols.OpenBracket ++ bar_if bar)
    item_prefix (next_item p bar before) = part_prefix p ++ (mark symbols.OpenBracket ++ bar_if bar
        ++ (items before ++ mark symbols.Bar))

  abbrev pub prefix : HoleState W P O → Kinds
  prefix (due p) = part_prefix p
  prefix (read p a) = part_prefix p ++ app a
  prefix (name_due p ts t) = part_prefix p ++ (mark symbols.OpenParen ++ texprs ts
      ++ mark symbols.Comma ++ texpr t ++ mark symbols.CloseParen)
  prefix (tag_read h x) = item_prefix h ++ kinds.Tag x ∷ []
  prefix (outside q) = o.prefix_of_outside q

  -- The number of brackets that are open in a context.
  abbrev mutual
    pub type_open : TypeHole W P → ℕ
    type_open (whole w) = o.open_of_type w
    type_open (group p) = suc (part_open p)
    type_open (argument p ts) = suc (part_open p)
    type_open (of_tag h x) = item_open h

    pub part_open : PartHole W P → ℕ
    part_open (first_part h) = type_open h
    part_open (next_part h t) = type_open h
    part_open (inclusion h) = item_open h
    part_open (alone q) = o.open_of_part q

    pub item_open : ItemHole W P → ℕ
    item_open (first_item p bar) = suc (part_open p)
    item_open (next_item p bar before) = suc (part_open p)

  abbrev pub still_open : HoleState W P O → ℕ
  still_open (due p) = part_open p
  still_open (read p a) = part_open p
  still_open (name_due p ts t) = part_open p
  still_open (tag_read h x) = item_open h
  still_open (outside q) = o.open_of_outside q

  -- ---- texts obtained by closing every open construct at once

  abbrev mutual
    pub closed_type : TypeHole W P → Texpr → Text
    closed_type (whole w) t = o.closed_round_type w t
    closed_type (group p) t = closed_part p (simple (grouped t))
    closed_type (argument p ts) t = closed_part p (simple (arguments ts t []))
    closed_type (of_tag h x) t = closed_item h (tag_of x t)

    pub closed_part : PartHole W P → App → Text
    closed_part (first_part h) a = closed_type h (single a)
    closed_part (next_part h t) a = closed_type h (starred t a)
    closed_part (inclusion h) a = closed_item h (included a)
    closed_part (alone q) a = o.closed_round_part q a

    pub closed_item : ItemHole W P → ItemTree → Text
    closed_item (first_item p bar) i = closed_part p (simple (bracket bar (one i)))
    closed_item (next_item p bar before) i = closed_part p (simple (bracket bar (more before i)))
