-- Each step appends its lexeme to the lexemes read, and changes the number of open brackets as the
-- lexeme requires.
use Rattle.std.proofs.Common.{
  ℕ,
  suc,
  ◌≡◌,
  Bool,
  false,
  [],
  ◌∷◌,
  ◌++◌,
  Option,
  refl,
  sym,
  subst,
  arith,
  append_assoc,
  append-nil,
}
use Rattle.std.specs.Prelude.{IfSome}
use Rattle.types_lex.specs.declared.lexeme.LexemeKind.{LexemeKind}
use Rattle.types_lex.specs.declared.lexeme.LexemeKind.TheVariants as kinds
use Rattle.types_lex.specs.declared.lexeme.Keyword.TheVariants as keywords
use Rattle.types_lex.specs.declared.lexeme.Symbol.TheVariants as symbols
use Rattle.types_parse.specs.grammar.Grammar.{
  Name,
  Kinds,
  Texpr,
  App,
  Texprs,
  Items,
  ItemTree,
  single,
  starred,
  one,
  more,
  tag,
  tag_of,
  included,
  mark,
  bar_if,
  texpr,
  app,
  items,
  item,
}
use Rattle.types_parse.proofs.grammar.TypeGrammarTableLemmas.{Adds}
use Rattle.types_parse.specs.grammar.Holes.{
  Outer,
  alone,
  outside,
  TypeHole,
  PartHole,
  ItemHole,
  HoleState,
  whole,
  group,
  argument,
  of_tag,
  first_part,
  next_part,
  inclusion,
  first_item,
  next_item,
  due,
  read,
  name_due,
  tag_read,
  begin_item,
  begin,
  after_items,
  after_item,
  close_type,
  after_type,
  close_part,
  after_part,
  take_name,
  after_tag,
  step,
  type_prefix,
  part_prefix,
  item_prefix,
  prefix,
  type_open,
  part_open,
  item_open,
  still_open,
}

module _ {W P O Text : Type 0} (o : Outer W P O Text) where
  abbrev pub AddsIf : Kinds → ℕ → LexemeKind → Option (HoleState W P O) → Type 0
  AddsIf before brackets kind next = IfSome next (λ s. Adds (prefix o) (still_open o) before brackets
      kind s)

  begin_item_adds : (p : PartHole W P) (kind : LexemeKind) → AddsIf (part_prefix o p) (part_open o p)
      kind (begin_item p kind)
  begin_item_adds (inclusion h) (kinds.Tag x) = record { prefixes = refl; opens = refl }
  begin_item_adds (inclusion (first_item p false)) (kinds.Symbol symbols.Bar) =
      record { prefixes = simp (append_assoc, append-nil); opens = refl }
  begin_item_adds p kind = tt

  pub begin_adds : (p : PartHole W P) (kind : LexemeKind) → AddsIf (part_prefix o p) (part_open o p)
      kind (begin p kind)
  begin_adds p (kinds.Variable x) = record { prefixes = refl; opens = refl }
  begin_adds p (kinds.Lower x) = record { prefixes = refl; opens = refl }
  begin_adds p (kinds.Symbol symbols.OpenParen) = record { prefixes = refl; opens = refl }
  begin_adds p (kinds.Symbol symbols.OpenBracket) = record {
    prefixes = simp append-nil;
    opens =
        refl;
  }
  begin_adds p kind = begin_item_adds p kind

  after_items_adds : (p : PartHole W P) (bar : Bool) (all : Items) (kind : LexemeKind) →
      AddsIf (part_prefix o p ++ (mark symbols.OpenBracket ++ bar_if bar ++ items all))
      (suc (part_open o p)) kind (after_items p bar all kind)
  after_items_adds p bar all (kinds.Symbol symbols.Bar) = record {
    prefixes = simp append_assoc;
    opens = refl;
  }
  after_items_adds p bar all (kinds.Symbol symbols.CloseBracket) =
      record { prefixes = simp append_assoc; opens = omega arith }
  after_items_adds p bar all kind = tt

  after_item_adds : (h : ItemHole W P) (i : ItemTree) (kind : LexemeKind) →
      AddsIf (item_prefix o h ++ item i) (item_open o h) kind (after_item h i kind)
  after_item_adds (first_item p bar) i kind =
      rw (append_assoc (part_prefix o p) (mark symbols.OpenBracket ++ bar_if bar) (item i))
      (after_items_adds p bar (one i) kind)
  after_item_adds (next_item p bar before) i kind =
      subst (λ f. AddsIf f (suc (part_open o p)) kind (after_items p bar (more before i) kind))
      (regroup (part_prefix o p) (mark symbols.OpenBracket ++ bar_if bar) (items before)
      (mark symbols.Bar) (item i)) (after_items_adds p bar (more before i) kind)
    where
      regroup : (f o before m i : Kinds) → f ++ (o ++ (before ++ m ++ i)) ≡ f
          ++ (o ++ (before ++ m)) ++ i
      regroup f o before m i = simp append_assoc

  module _ (type_adds : (w : W) (t : Texpr) (kind : LexemeKind) →
      AddsIf (o.prefix_of_type w ++ texpr t) (o.open_of_type w) kind (o.type_step w t kind))
      (part_adds : (q : P) (a : App) (kind : LexemeKind) → AddsIf (o.prefix_of_part q ++ app a)
      (o.open_of_part q) kind (o.part_step q a kind))
      (outside_adds : (q : O) (kind : LexemeKind) → AddsIf (o.prefix_of_outside q)
      (o.open_of_outside q) kind (o.outside_step q kind)) where
    close_type_adds : (h : TypeHole W P) (t : Texpr) (kind : LexemeKind) →
        AddsIf (type_prefix o h ++ texpr t) (type_open o h) kind (close_type o h t kind)
    close_type_adds (group p) t (kinds.Symbol symbols.CloseParen) =
        record { prefixes = simp append_assoc; opens = omega arith }
    close_type_adds (group p) t (kinds.Symbol symbols.Comma) = record {
      prefixes = simp append_assoc;
      opens = refl;
    }
    close_type_adds (argument p ts) t (kinds.Symbol symbols.CloseParen) =
        record { prefixes = simp append_assoc; opens = omega arith }
    close_type_adds (argument p ts) t (kinds.Symbol symbols.Comma) =
        record { prefixes = simp append_assoc; opens = refl }
    close_type_adds (of_tag h x) t kind =
        rw (append_assoc (item_prefix o h) (kinds.Tag x ∷ kinds.Keyword keywords.Of ∷ []) (texpr t))
        (after_item_adds h (tag_of x t) kind)
    close_type_adds (whole w) t kind = type_adds w t kind
    close_type_adds h t kind = tt

    after_type_adds : (h : TypeHole W P) (t : Texpr) (kind : LexemeKind) →
        AddsIf (type_prefix o h ++ texpr t) (type_open o h) kind (after_type o h t kind)
    after_type_adds h t (kinds.Symbol symbols.Star) = record {
      prefixes = simp append_assoc;
      opens =
          refl;
    }
    after_type_adds h t kind = close_type_adds h t kind

    close_part_adds : (p : PartHole W P) (a : App) (kind : LexemeKind) →
        AddsIf (part_prefix o p ++ app a) (part_open o p) kind (close_part o p a kind)
    close_part_adds (first_part h) a kind = after_type_adds h (single a) kind
    close_part_adds (next_part h t) a kind =
        subst (λ before. AddsIf before (type_open o h) kind (after_type o h (starred t a) kind))
        (sym (append_assoc (type_prefix o h) (texpr t ++ mark symbols.Star) (app a)))
        (after_type_adds h (starred t a) kind)
    close_part_adds (inclusion h) a kind = after_item_adds h (included a) kind
    close_part_adds (alone q) a kind = part_adds q a kind

    after_part_adds : (p : PartHole W P) (a : App) (kind : LexemeKind) →
        AddsIf (part_prefix o p ++ app a) (part_open o p) kind (after_part o p a kind)
    after_part_adds p a (kinds.Lower x) = record { prefixes = simp append_assoc; opens = refl }
    after_part_adds p a kind = close_part_adds p a kind

    take_name_adds : (p : PartHole W P) (ts : Texprs) (t : Texpr) (kind : LexemeKind) →
        AddsIf (prefix o (name_due p ts t)) (part_open o p) kind (take_name o p ts t kind)
    take_name_adds p ts t (kinds.Lower x) = record { prefixes = simp append_assoc; opens = refl }
    take_name_adds p ts t kind = tt

    after_tag_adds : (h : ItemHole W P) (x : Name) (kind : LexemeKind) →
        AddsIf (prefix o (tag_read h x)) (item_open o h) kind (after_tag o h x kind)
    after_tag_adds h x (kinds.Keyword keywords.Of) = record {
      prefixes = simp append_assoc;
      opens =
          refl;
    }
    after_tag_adds h x kind = after_item_adds h (tag x) kind

    pub step_adds : (s : HoleState W P O) (kind : LexemeKind) → AddsIf (prefix o s) (still_open o s) kind
        (step o s kind)
    step_adds (due p) kind = begin_adds p kind
    step_adds (read p a) kind = after_part_adds p a kind
    step_adds (name_due p ts t) kind = take_name_adds p ts t kind
    step_adds (tag_read h x) kind = after_tag_adds h x kind
    step_adds (outside q) kind = outside_adds q kind
