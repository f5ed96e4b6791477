-- Lemmas on a literal that is given by its first lexeme and its node.
use Rattle.std.proofs.Common.{arith, add-one, refl, sym, ap, ◌∙◌, set}
use Rattle.std.specs.Prelude.{ℕ, suc, ◌+◌, ◌<◌, ◌≡◌, Option, Some, None, List, [], ◌∷◌, ◌++◌, length, replicate, slice_get, unwrap_or}
use Rattle.std.proofs.lemmas.List.{length-append}
use Rattle.types_lex.specs.declared.lexeme.LexemeKind.TheVariants as kinds
use Rattle.types_lex.specs.declared.lexeme.Symbol.TheVariants as symbols
use Rattle.types_parse.specs.grammar.Grammar.{Name}
use Rattle.types_spec.specs.declared.types.names.Names.{Names}
use Rattle.types_spec.specs.declared.types.shape.ShapeOf.{ShapeOf}
use Rattle.types_spec.specs.types.Names.{no_names}
use Rattle.types_spec.specs.types.Table.{node_or_none}
use Rattle.types_table.specs.declared.type_table.tabled.Tabled.{Tabled}
use Rattle.text_literal.specs.parser.LiteralAnswers.{shape_in, names_in}
use Rattle.text_literal.specs.declared.literal_grammar.literal_node.NodeForm.TheVariants as forms
use Rattle.text_literal.specs.literal_grammar.Literal.{LiteralHead, upper_head, tag_head, cons_head, empty_head, ref_head, Literal, Plain, constant, applied, fields, tuple, empty_array, array, Parts, FieldRows}
use Rattle.text_literal.specs.literal_grammar.LiteralNodes.{count, rows_count}
use Rattle.text_literal.specs.parser.Pending.{parts_of, listed_parts, listed_rows}
use Rattle.text_literal.specs.parser.NodesOf.{form_of}
use Rattle.text_literal.specs.parser.LiteralLeaves.{lead_of}
use Rattle.text_literal.specs.parser.Standing.{lead_of_owner}
use Rattle.text_literal.proofs.parser.NodesLemmas.{count_parts, count_rows}

-- No head begins with a brace.
no_brace : (h : LiteralHead) → kinds.Symbol symbols.OpenBrace ≡ lead_of h → ⊥
no_brace (upper_head x) e = absurd (cc)
no_brace (tag_head x) e = absurd (cc)
no_brace cons_head e = absurd (cc)
no_brace empty_head e = absurd (cc)
no_brace ref_head e = absurd (cc)

pub owner_none : (P : Option LiteralHead → Type 0) → P None → (o : Option LiteralHead) → kinds.Symbol symbols.OpenBrace ≡ lead_of_owner o → P o
owner_none P f None e = f
owner_none P f (Some h) e = absurd (no_brace h e)

-- ---- literals with parts

one_last : {T : Type 0} (xs : List T) (x : T) (n : ℕ) → length xs ≡ n → length (xs ++ x ∷ []) ≡ suc n
one_last xs x n e = omega (arith, length-append xs (x ∷ []), e)

module _ (P : Plain → Type 0) (n q : ℕ) where
  pub tuple_only : ((ps : Parts) (u v : Literal) → n ≡ suc (suc (count ps)) → P (tuple ps u v)) → (p : Plain) → forms.Tuple ≡ form_of p → n ≡ length (parts_of q p) → P p
  tuple_only f (tuple ps u v) e many =
      f ps u v (many ∙ one_last (listed_parts symbols.Comma (q + 1) ps ++ _ ∷ []) _ (suc (count ps)) (one_last (listed_parts symbols.Comma (q + 1) ps) _ (count ps) (count_parts symbols.Comma (q + 1) ps)))
  tuple_only f p e many = absurd (cc)

  pub applied_only : ((h : LiteralHead) (ps : Parts) (v : Literal) → n ≡ suc (count ps) → P (applied h ps v)) → (p : Plain) → forms.Named ≡ form_of p → n ≡ length (parts_of q p) → 0 < n → P p
  applied_only f (applied h ps v) e many some = f h ps v (many ∙ one_last (listed_parts symbols.Comma _ ps) _ (count ps) (count_parts symbols.Comma _ ps))
  applied_only f (constant h) e many some = absurd (omega arith)
  applied_only f p e many some = absurd (cc)

  pub array_only : ((ps : Parts) (v : Literal) → P (array ps v)) → (p : Plain) → forms.Array ≡ form_of p → n ≡ length (parts_of q p) → 0 < n → P p
  array_only f (array ps v) e many some = f ps v
  array_only f empty_array e many some = absurd (omega arith)
  array_only f p e many some = absurd (cc)

  pub fields_only : ((o : Option LiteralHead) (rs : FieldRows) (x : Name) (v : Literal) → n ≡ suc (rows_count rs) → P (fields o rs x v)) → (p : Plain) → forms.Fields ≡ form_of p → n ≡ length (parts_of q p) → P p
  fields_only f (fields o rs x v) e many = f o rs x v (many ∙ one_last (listed_rows _ rs) _ (rows_count rs) (count_rows _ rs))
  fields_only f p e many = absurd (cc)

pub no_other :
    (n q : ℕ) (p : Plain) → n ≡ length (parts_of q p) → 0 < n → (forms.Tuple ≡ form_of p → ⊥) → (forms.Named ≡ form_of p → ⊥) → (forms.Array ≡ form_of p → ⊥)
    → (forms.Fields ≡ form_of p → ⊥) → ⊥
no_other n q (tuple ps u v) many some a b c d = a refl
no_other n q (applied h ps v) many some a b c d = b refl
no_other n q (constant h) many some a b c d = b refl
no_other n q (array ps v) many some a b c d = c refl
no_other n q empty_array many some a b c d = c refl
no_other n q (fields o rs x v) many some a b c d = d refl
no_other n q p many some a b c d = omega arith

-- ---- the first value of a block

pub first_set : {T : Type 0} (n : ℕ) (z v : T) → set (replicate (n + 1) z) 0 v ≡ v ∷ replicate n z
first_set n z v = ap (λ m. set (replicate m z) 0 v) (add-one n)

-- ---- a type of the table

pub shape_known : (table : Tabled) (t : ℕ) (shape : ShapeOf ℕ) → Some shape ≡ slice_get table.nodes t → shape_in table t ≡ shape
shape_known table t shape e = ap node_or_none (sym e)

pub names_known : (table : Tabled) (t : ℕ) (names : Names) → slice_get table.names t ≡ Some names → names_in table t ≡ names
names_known table t names e = ap (λ o. unwrap_or o no_names) e
