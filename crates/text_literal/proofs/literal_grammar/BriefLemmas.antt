-- The brief form of a lexeme has the same effect on the parser as the lexeme.
use Rattle.std.proofs.Common.{ℕ, ◌+◌, ◌^◌, ◌≡◌, ◌∙◌, ◌<◌, ◌≤◌, List, [], ◌∷◌, ◌++◌, length, Option, Some, None, refl, sym, ap, subst, inl, inr, ◌||◌}
use Rattle.std.specs.Prelude.{Ok, option_map}
use Rattle.std.specs.Str.{bytes_eq}
use Rattle.std.proofs.lemmas.Bool.{or_parts, cases_Bool}
use Rattle.types_lex.specs.declared.lexeme.Lexeme.{Lexeme}
use Rattle.types_lex.specs.declared.lexeme.LexemeKind.{LexemeKind}
use Rattle.types_lex.specs.declared.lexeme.LexemeKind.TheVariants as kinds
use Rattle.types_lex.specs.declared.lexeme.LexemeSpan.{LexemeSpan}
use Rattle.types_lex.specs.Brief.{begins_literal, brief_name, brief_kind, IsBrief, IsBriefNext}
use Rattle.types_lex.specs.Lexemes as lex
use Rattle.types_lex.specs.Lexemes.{lexeme_from, IsNext}
use Rattle.text_literal.specs.declared.literal_grammar.literal_node.NodeForm.{NodeForm}
use Rattle.text_literal.specs.declared.literal_grammar.literal_node.NodeForm.TheVariants as forms
use Rattle.text_literal.specs.declared.literal_grammar.literal_node.LiteralNode.{LiteralNode}
use Rattle.text_literal.specs.declared.literal_grammar.pending_node.OpenKind.{OpenKind}
use Rattle.text_literal.specs.declared.literal_grammar.pending_node.OpenKind.TheVariants as brackets
use Rattle.text_literal.specs.declared.literal_grammar.pending_node.PendingNode.{PendingNode}
use Rattle.text_literal.specs.declared.literal_grammar.pending_node.Stage.{Stage}
use Rattle.text_literal.specs.declared.literal_grammar.pending_node.Stage.TheVariants as stages
use Rattle.text_literal.specs.declared.literal_grammar.placed_nodes.PlacedFault.{PlacedFault}
use Rattle.text_literal.specs.literal_grammar.Literal.{true_name, false_name, ref_name}
use Rattle.text_literal.specs.literal_grammar.LiteralCode.{Code, word_form, begun_as, close_in, close_code, step_code, Steps}
use Rattle.text_literal.specs.literal_grammar.PlacedLiterals.{lexemes_at, Stopped, IsPlacedFault}
use Rattle.text_literal.proofs.literal_grammar.LiteralGrammarPlacedLemmas.{Prefix, prefix_goes, prefix_stops}

-- ---- the end of a literal

close_same : (ns : List LiteralNode) (os : List PendingNode) (k j : LexemeKind) → ((b : OpenKind) (ps : List PendingNode) (o : PendingNode) → close_in b ns ps o k ≡ close_in b ns ps o j) → close_code ns os k ≡ close_code ns os j
close_same ns [] k j e = refl
close_same ns (o ∷ os) k j e = e o.bracket os o

closes_upper : (ns : List LiteralNode) (x y : List ℕ) (b : OpenKind) (ps : List PendingNode) (o : PendingNode) → close_in b ns ps o (kinds.Upper x) ≡ close_in b ns ps o (kinds.Upper y)
closes_upper ns x y brackets.Arguments ps o = refl
closes_upper ns x y brackets.Parens ps o = refl
closes_upper ns x y brackets.Array ps o = refl
closes_upper ns x y brackets.Fields ps o = refl

closes_lower : (ns : List LiteralNode) (x y : List ℕ) (b : OpenKind) (ps : List PendingNode) (o : PendingNode) → close_in b ns ps o (kinds.Lower x) ≡ close_in b ns ps o (kinds.Lower y)
closes_lower ns x y brackets.Arguments ps o = refl
closes_lower ns x y brackets.Parens ps o = refl
closes_lower ns x y brackets.Array ps o = refl
closes_lower ns x y brackets.Fields ps o = refl

closes_text : (ns : List LiteralNode) (x y : List ℕ) (b : OpenKind) (ps : List PendingNode) (o : PendingNode) → close_in b ns ps o (kinds.Text x) ≡ close_in b ns ps o (kinds.Text y)
closes_text ns x y brackets.Arguments ps o = refl
closes_text ns x y brackets.Parens ps o = refl
closes_text ns x y brackets.Array ps o = refl
closes_text ns x y brackets.Fields ps o = refl

-- ---- the beginning of a literal

brief_form : (x : List ℕ) → word_form (brief_name x) ≡ word_form x
brief_form x =
    elim (cases_Bool (begins_literal x)) [
      | inl e ↦ rw e refl
      | inr e ↦
          let outer = or_parts (bytes_eq x true_name || bytes_eq x false_name) (bytes_eq x ref_name) e in
          let inner = or_parts (bytes_eq x true_name) (bytes_eq x false_name) outer.0 in
          rw (inner.0, inner.1, outer.1) refl
    ]

begun_lower : (ns : List LiteralNode) (os : List PendingNode) (first : ℕ) (label : Option ℕ) (x y : List ℕ) (o : Option NodeForm) → option_map (begun_as ns os first label (kinds.Lower x)) o ≡ option_map (begun_as ns os first label (kinds.Lower y)) o
begun_lower ns os first label x y None = refl
begun_lower ns os first label x y (Some forms.Integer) = refl
begun_lower ns os first label x y (Some forms.Character) = refl
begun_lower ns os first label x y (Some forms.Text) = refl
begun_lower ns os first label x y (Some forms.Double) = refl
begun_lower ns os first label x y (Some forms.Truth) = refl
begun_lower ns os first label x y (Some forms.Unit) = refl
begun_lower ns os first label x y (Some forms.Named) = refl
begun_lower ns os first label x y (Some forms.Fields) = refl
begun_lower ns os first label x y (Some forms.Tuple) = refl
begun_lower ns os first label x y (Some forms.Array) = refl
begun_lower ns os first label x y (Some forms.Again) = refl

plain_lower : (ns : List LiteralNode) (os : List PendingNode) (first : ℕ) (label : Option ℕ) (x : List ℕ)
    → option_map (begun_as ns os first label (kinds.Lower (brief_name x))) (word_form (brief_name x)) ≡ option_map (begun_as ns os first label (kinds.Lower x)) (word_form x)
plain_lower ns os first label x =
    ap (option_map (begun_as ns os first label (kinds.Lower (brief_name x)))) (brief_form x) ∙ begun_lower ns os first label (brief_name x) x (word_form x)

-- ---- lexemes

lower_same : (ns : List LiteralNode) (os : List PendingNode) (stage : Stage) (n : ℕ) (x : List ℕ) → step_code ns os stage n (kinds.Lower (brief_name x)) ≡ step_code ns os stage n (kinds.Lower x)
lower_same ns os stages.Due n x = plain_lower ns os n None x
lower_same ns os (stages.Hash first) n x = refl
lower_same ns os (stages.Number first m) n x = close_same _ os _ _ (closes_lower _ (brief_name x) x)
lower_same ns os (stages.PlainDue first m) n x = plain_lower ns os first (Some m) x
lower_same ns os (stages.Bracket index node) n x = refl
lower_same ns os (stages.Head index node) n x = close_same ns os _ _ (closes_lower ns (brief_name x) x)
lower_same ns os (stages.FieldDue index node) n x = refl
lower_same ns os (stages.NameRead index node) n x = refl
lower_same ns os stages.Whole n x = close_same ns os _ _ (closes_lower ns (brief_name x) x)

upper_same : (ns : List LiteralNode) (os : List PendingNode) (stage : Stage) (n : ℕ) (x : List ℕ) → step_code ns os stage n (kinds.Upper []) ≡ step_code ns os stage n (kinds.Upper x)
upper_same ns os stages.Due n x = refl
upper_same ns os (stages.Hash first) n x = refl
upper_same ns os (stages.Number first m) n x = close_same _ os _ _ (closes_upper _ [] x)
upper_same ns os (stages.PlainDue first m) n x = refl
upper_same ns os (stages.Bracket index node) n x = refl
upper_same ns os (stages.Head index node) n x = close_same ns os _ _ (closes_upper ns [] x)
upper_same ns os (stages.FieldDue index node) n x = refl
upper_same ns os (stages.NameRead index node) n x = refl
upper_same ns os stages.Whole n x = close_same ns os _ _ (closes_upper ns [] x)

text_same : (ns : List LiteralNode) (os : List PendingNode) (stage : Stage) (n : ℕ) (x : List ℕ) → step_code ns os stage n (kinds.Text []) ≡ step_code ns os stage n (kinds.Text x)
text_same ns os stages.Due n x = refl
text_same ns os (stages.Hash first) n x = refl
text_same ns os (stages.Number first m) n x = close_same _ os _ _ (closes_text _ [] x)
text_same ns os (stages.PlainDue first m) n x = refl
text_same ns os (stages.Bracket index node) n x = refl
text_same ns os (stages.Head index node) n x = close_same ns os _ _ (closes_text ns [] x)
text_same ns os (stages.FieldDue index node) n x = refl
text_same ns os (stages.NameRead index node) n x = refl
text_same ns os stages.Whole n x = close_same ns os _ _ (closes_text ns [] x)

kind_same : (ns : List LiteralNode) (os : List PendingNode) (stage : Stage) (n : ℕ) (kind : LexemeKind) → step_code ns os stage n (brief_kind kind) ≡ step_code ns os stage n kind
kind_same ns os stage n (kinds.Keyword k) = refl
kind_same ns os stage n (kinds.Lower x) = lower_same ns os stage n x
kind_same ns os stage n (kinds.Upper x) = upper_same ns os stage n x
kind_same ns os stage n (kinds.Tag x) = refl
kind_same ns os stage n (kinds.Variable x) = refl
kind_same ns os stage n (kinds.Character c) = refl
kind_same ns os stage n (kinds.Integer i) = refl
kind_same ns os stage n (kinds.Text x) = text_same ns os stage n x
kind_same ns os stage n (kinds.Double d) = refl
kind_same ns os stage n (kinds.Symbol s) = refl

brief_same : (ns : List LiteralNode) (os : List PendingNode) (stage : Stage) (n : ℕ) (kind brief : LexemeKind) → IsBrief kind brief → step_code ns os stage n brief ≡ step_code ns os stage n kind
brief_same ns os stage n kind brief (inl e) = ap (step_code ns os stage n) e
brief_same ns os stage n kind brief (inr e) = ap (step_code ns os stage n) e ∙ kind_same ns os stage n kind

brief_next : (text : List ℕ) (at : ℕ) (l : Lexeme) → IsBriefNext text at l → IsNext text at (lexeme_from text l.span.first)
brief_next text at l b = record {
  onward = subst (λ (s : LexemeSpan). at < s.first + s.len) (sym b.span) b.onward;
  within = subst (λ (s : LexemeSpan). s.first + s.len ≤ length text) (sym b.span) b.within;
  behind = subst (λ (s : LexemeSpan). at ≤ s.first) (sym b.span) b.behind;
  is = ap (λ (s : LexemeSpan). lexeme_from text s.first) b.span;
}

module _ (text : List ℕ) (at : ℕ) (positions : List ℕ) (ns : List LiteralNode) (os : List PendingNode) (stage : Stage) (prefix : Prefix text at positions ns os stage)
    (short : length text < 2 ^ 32) (l : Lexeme) (next : IsBriefNext text at l)
    (on : lex.Reached text ((lexeme_from text l.span.first).span.first + (lexeme_from text l.span.first).span.len) (lexemes_at text positions ++ lexeme_from text l.span.first ∷ [])) where
  -- The text up to the end of the lexeme consists of the lexemes before and this lexeme.
  pub brief_reached : lex.Reached text (l.span.first + l.span.len) (lexemes_at text positions ++ lexeme_from text l.span.first ∷ [])
  brief_reached = subst (λ (s : LexemeSpan). lex.Reached text (s.first + s.len) (lexemes_at text positions ++ lexeme_from text l.span.first ∷ [])) next.span on

  pub brief_goes : (ms : List LiteralNode) (ps : List PendingNode) (o : Option Stage) (then : Stage) (more : List ℕ)
      → Steps (Ok o) ms ps (step_code ns os stage (length positions) l.kind) → o ≡ Some then → more ≡ positions ++ l.span.first ∷ []
      → Prefix text (l.span.first + l.span.len) more ms ps then
  brief_goes ms ps o then more steps e is =
      subst (λ (s : LexemeSpan). Prefix text (s.first + s.len) more ms ps then) next.span
      (prefix_goes text at positions ns os stage prefix short (lexeme_from text l.span.first) (brief_next text at l next) on ms ps o then more
      (subst (λ (k : Option Code). Steps (Ok o) ms ps k) (brief_same ns os stage (length positions) (lexeme_from text l.span.first).kind l.kind next.kind) steps) e
      (is ∙ ap (λ (s : LexemeSpan). positions ++ s.first ∷ []) (sym next.span)))

  pub brief_stops : (ms : List LiteralNode) (ps : List PendingNode) (o : Option Stage) (f : PlacedFault)
      → Steps (Ok o) ms ps (step_code ns os stage (length positions) l.kind) → o ≡ None → Stopped text (lexemes_at text positions ++ lexeme_from text l.span.first ∷ []) l.span.first f
      → IsPlacedFault text f
  brief_stops ms ps o f steps e is =
      prefix_stops text at positions ns os stage prefix short (lexeme_from text l.span.first) (brief_next text at l next) on ms ps o f
      (subst (λ (k : Option Code). Steps (Ok o) ms ps k) (brief_same ns os stage (length positions) (lexeme_from text l.span.first).kind l.kind next.kind) steps) e
      (subst (λ (s : LexemeSpan). Stopped text (lexemes_at text positions ++ lexeme_from text l.span.first ∷ []) s.first f) (sym next.span) is)
