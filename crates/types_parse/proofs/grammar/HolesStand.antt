-- For each state of the table, some text begins with the lexemes that the state has read. If a type
-- of the text ends at the last lexeme read, the type is at least as deep as the state records.
use Rattle.std.proofs.Common.{
  ℕ,
  ◌-◌,
  ◌≡◌,
  ◌≤◌,
  ◌<◌,
  ◌∙◌,
  false,
  List,
  [],
  ◌∷◌,
  ◌++◌,
  length,
  refl,
  sym,
  ap,
  subst,
  arith,
  replicate,
  append_assoc,
  length-append,
}
use Rattle.std.specs.Prelude.{slice_index}
use Rattle.types_lex.specs.declared.lexeme.LexemeKind.TheVariants as kinds
use Rattle.types_lex.specs.declared.lexeme.Keyword.TheVariants as keywords
use Rattle.types_lex.specs.declared.lexeme.Symbol.TheVariants as symbols
use Rattle.types_parse.specs.grammar.Grammar.{
  Kinds,
  Texpr,
  App,
  ItemTree,
  single,
  starred,
  simple,
  variable,
  grouped,
  arguments,
  bracket,
  one,
  more,
  tag,
  tag_of,
  included,
  mark,
  lower,
  bar_if,
  texpr,
  app,
  texprs,
  items,
  item,
}
use Rattle.types_parse.specs.grammar.Depths.{
  texpr_depth,
  app_depth,
  texpr_ends,
  app_ends,
  texprs_ends,
  items_ends,
  item_ends,
  no_end,
}
use Rattle.types_parse.specs.grammar.Holes.{
  Outer,
  alone,
  outside,
  TypeHole,
  PartHole,
  ItemHole,
  HoleState,
  whole,
  group,
  argument,
  of_tag,
  first_part,
  next_part,
  inclusion,
  first_item,
  next_item,
  due,
  read,
  name_due,
  tag_read,
  type_prefix,
  part_prefix,
  item_prefix,
  prefix,
  ended,
  closed_type,
  closed_part,
  closed_item,
}
use Rattle.types_parse.proofs.grammar.MachineLemmas.{leads_length}
use Rattle.types_parse.proofs.grammar.TypeGrammarTableLemmas.{Completes}
use Rattle.types_parse.proofs.grammar.HolesLead.{items_leads}
use Rattle.types_parse.specs.grammar.Alone.{end, types}
use Rattle.types_parse.proofs.grammar.Stands.{
  Stands,
  after,
  followed,
  deepened,
  within,
  texpr_even,
  app_even,
  item_even,
  tuple_even,
  arguments_even,
  bar_even,
  items_even,
  raised_last,
  app_some,
  app_last,
  deep_there,
}

module _ {W P O Text : Type 0} (o : Outer W P O Text) (encoded : Text → Kinds) (ends : Text →
    List ℕ) where
  abbrev pub Completed : HoleState W P O → Type 0
  Completed = Completes encoded ends (prefix o) ended

  module _ (whole_stands : (w : W) (t : Texpr) → Stands (o.prefix_of_type w) (texpr t) (texpr_ends t)
      (encoded (o.closed_round_type w t)) (ends (o.closed_round_type w t)))
      (alone_stands : (q : P) (a : App) → Stands (o.prefix_of_part q) (app a) (app_ends a)
      (encoded (o.closed_round_part q a)) (ends (o.closed_round_part q a)))
      (outside_completes : (q : O) → Completed (outside q)) where
    mutual
      pub type_stands : (h : TypeHole W P) (t : Texpr) → Stands (type_prefix o h) (texpr t)
          (texpr_ends t) (encoded (closed_type o h t)) (ends (closed_type o h t))
      type_stands (whole w) t = whole_stands w t
      type_stands (group p) t = within (followed (mark symbols.CloseParen) _ refl
          (after (mark symbols.OpenParen) (texpr t) no_end (texpr_ends t) refl (texpr_even t)))
          (part_stands p (simple (grouped t)))
      type_stands (argument p ts) t =
          within (followed (lower []) _ refl (followed (mark symbols.CloseParen) _ refl
          (after (mark symbols.OpenParen ++ texprs ts ++ mark symbols.Comma) (texpr t)
          (no_end ++ texprs_ends ts ++ no_end) (texpr_ends t) (arguments_even ts)
          (texpr_even t))))
          (part_stands p (simple (arguments ts t [])))
      type_stands (of_tag h x) t = within (after (kinds.Tag x ∷ kinds.Keyword keywords.Of ∷ [])
          (texpr t) (no_end ++ no_end) (texpr_ends t) refl (texpr_even t))
          (item_stands h (tag_of x t))

      pub part_stands : (p : PartHole W P) (a : App) → Stands (part_prefix o p) (app a) (app_ends a)
          (encoded (closed_part o p a)) (ends (closed_part o p a))
      part_stands (first_part h) a = type_stands h (single a)
      part_stands (next_part h t) a = within
          (deepened _ (after (texpr t ++ mark symbols.Star) (app a) (texpr_ends t ++ no_end)
          (app_ends a) (tuple_even t) (app_even a))) (type_stands h (starred t a))
      part_stands (inclusion h) a = item_stands h (included a)
      part_stands (alone q) a = alone_stands q a

      pub item_stands : (h : ItemHole W P) (i : ItemTree) → Stands (item_prefix o h) (item i)
          (item_ends i) (encoded (closed_item o h i)) (ends (closed_item o h i))
      item_stands (first_item p bar) i =
          within (followed (mark symbols.CloseBracket) _ refl
          (after (mark symbols.OpenBracket ++ bar_if bar) (item i)
          (no_end ++ replicate (length (bar_if bar)) 0) (item_ends i) (bar_even bar)
          (item_even i)))
          (part_stands p (simple (bracket bar (one i))))
      item_stands (next_item p bar before) i =
          within
          (within
          (after (items before ++ mark symbols.Bar) (item i) (items_ends before ++ no_end)
          (item_ends i) (items_even before) (item_even i))
          (followed (mark symbols.CloseBracket) _ refl
          (after (mark symbols.OpenBracket ++ bar_if bar) (items (more before i))
          (no_end ++ replicate (length (bar_if bar)) 0) (items_ends (more before i))
          (bar_even bar) (leads_length (items_leads types (more before i)
          (first_part (whole end)) false)))))
          (part_stands p (simple (bracket bar (more before i))))

    read_completes : (p : PartHole W P) (a : App) → Completed (read p a)
    read_completes (first_part h) a = let s = part_stands (first_part h) a in
        record {
          text = closed_part o (first_part h) a;
          rest = s.rest;
          begins = s.encoded;
          deep =
              deep_there (app_depth a) s (app_some a) (app_last a);
        }
    read_completes (next_part h t) a =
        let s = type_stands h (starred t a) in
        let e : type_prefix o h ++ texpr (starred t a) ≡ part_prefix o (next_part h t) ++ app a =
        sym (append_assoc (type_prefix o h) (texpr t ++ mark symbols.Star) (app a)) in
        let some : 0 < length (texpr (starred t a)) =
        omega (arith, length-append (texpr t ++ mark symbols.Star) (app a), app_some a) in
        record {
          text = closed_type o h (starred t a);
          rest = s.rest;
          begins = s.encoded ∙ ap (λ xs. xs ++ s.rest) e;
          deep = subst (λ xs. texpr_depth (starred t a) ≤ slice_index
              (ends (closed_type o h (starred t a))) (length xs - 1)) e
              (deep_there (texpr_depth (starred t a)) s some
              (raised_last (texpr_depth (starred t a)) (texpr_ends t ++ no_end ++ app_ends a)
              (length (texpr (starred t a))) (texpr_even (starred t a)) some));
        }
    read_completes (alone q) a = let s = alone_stands q a in
        record {
          text = o.closed_round_part q a;
          rest = s.rest;
          begins = s.encoded;
          deep =
              deep_there (app_depth a) s (app_some a) (app_last a);
        }
    read_completes (inclusion h) a = let s = part_stands (inclusion h) a in
        record {
          text = closed_part o (inclusion h) a;
          rest = s.rest;
          begins = s.encoded;
          deep =
              deep_there (app_depth a) s (app_some a) (app_last a);
        }

    pub completes : (s : HoleState W P O) → Completed s
    completes (due p) = let s = part_stands p (simple (variable [])) in
        record {
          text = closed_part o p (simple (variable []));
          rest = kinds.Variable [] ∷ s.rest;
          begins = s.encoded ∙ append_assoc (part_prefix o p) (kinds.Variable [] ∷ []) s.rest;
          deep =
              omega arith;
        }
    completes (read p a) = read_completes p a
    completes (name_due p ts t) = let s = part_stands p (simple (arguments ts t [])) in
        record {
          text = closed_part o p (simple (arguments ts t []));
          rest = lower [] ++ s.rest;
          begins = s.encoded ∙ simp append_assoc;
          deep = omega arith;
        }
    completes (tag_read h x) = let s = item_stands h (tag x) in
        record {
          text = closed_item o h (tag x);
          rest = s.rest;
          begins = s.encoded;
          deep =
              omega arith;
        }
    completes (outside q) = outside_completes q
