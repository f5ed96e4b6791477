-- The parsing table on indices of nodes, that is, what the executable parser does at a lexeme.
use Rattle.std.specs.Prelude.{ℕ, suc, ◌-◌, ◌^◌, ◌≡◌, ◌==◌, nat_lt, Bool, false, if◌then◌else◌}
use Rattle.std.specs.Prelude.{Option, Some, None, option_map, Result, Ok, Err, List, [], ◌∷◌, ◌++◌}
use Rattle.std.specs.Prelude.{length, slice_set, ⊤}
use Rattle.std.specs.Str.{bytes_eq}
use Rattle.types_lex.specs.declared.lexeme.LexemeKind.{LexemeKind}
use Rattle.types_lex.specs.declared.lexeme.LexemeKind.TheVariants as kinds
use Rattle.types_lex.specs.declared.lexeme.Symbol.TheVariants as symbols
use Rattle.base_data.specs.declared.model.out_of_memory.Memory.{Memory}
use Rattle.text_literal.specs.declared.literal_grammar.literal_node.NodeForm.{NodeForm}
use Rattle.text_literal.specs.declared.literal_grammar.literal_node.NodeForm.TheVariants as forms
use Rattle.text_literal.specs.declared.literal_grammar.literal_node.LiteralNode.{LiteralNode}
use Rattle.text_literal.specs.declared.literal_grammar.pending_node.OpenKind.{OpenKind}
use Rattle.text_literal.specs.declared.literal_grammar.pending_node.OpenKind.TheVariants as brackets
use Rattle.text_literal.specs.declared.literal_grammar.pending_node.PendingNode.{PendingNode}
use Rattle.text_literal.specs.declared.literal_grammar.pending_node.Stage.{Stage}
use Rattle.text_literal.specs.declared.literal_grammar.pending_node.Stage.TheVariants as stages
use Rattle.text_literal.specs.literal_grammar.Literal.{true_name, false_name, ref_name}
use Rattle.types_parse.specs.grammar.LexemeKinds.{number_of}

pub data Code : Type 0 where
  code : (nodes : List LiteralNode) (opens : List PendingNode) (stage : Stage) → Code

-- ---- nodes

abbrev pub bare_node : NodeForm → Option ℕ → ℕ → LiteralNode
bare_node form label first = record { form = form; label = label; first = first; parts = 0 }

-- The number `n` plus one, saturating at the greatest number.
abbrev pub next_number : ℕ → ℕ
next_number n = if nat_lt n (2 ^ 64 - 1) then suc n else n

abbrev pub with_part : LiteralNode → LiteralNode
with_part n =
    record { form = n.form; label = n.label; first = n.first; parts = next_number n.parts }

abbrev pub with_form : NodeForm → LiteralNode → LiteralNode
with_form form n = record { form = form; label = n.label; first = n.first; parts = n.parts }

abbrev pub opened : OpenKind → ℕ → LiteralNode → PendingNode
opened bracket index node = record { bracket = bracket; index = index; node = node }

-- ---- the beginning of a literal

abbrev pub word_form : List ℕ → Option NodeForm
word_form x =
    if bytes_eq x true_name then Some forms.Truth
    else (if bytes_eq x false_name then Some forms.Truth
    else (if bytes_eq x ref_name then Some forms.Named else None))

abbrev pub form_of : LexemeKind → Option NodeForm
form_of (kinds.Integer i) = Some forms.Integer
form_of (kinds.Character c) = Some forms.Character
form_of (kinds.Text s) = Some forms.Text
form_of (kinds.Double d) = Some forms.Double
form_of (kinds.Lower x) = word_form x
form_of (kinds.Upper x) = Some forms.Named
form_of (kinds.Tag x) = Some forms.Named
form_of (kinds.Symbol symbols.DoubleColon) = Some forms.Named
form_of (kinds.Symbol symbols.OpenBracket) = Some forms.Named
form_of (kinds.Symbol symbols.OpenParen) = Some forms.Unit
form_of (kinds.Symbol symbols.OpenArray) = Some forms.Array
form_of (kinds.Symbol symbols.OpenBrace) = Some forms.Fields
form_of kind = None

abbrev pub head_stage : LexemeKind → ℕ → LiteralNode → Stage
head_stage (kinds.Symbol symbols.OpenBracket) index node = stages.Bracket index node
head_stage kind index node = stages.Head index node

abbrev pub entered : List LiteralNode → List PendingNode → LexemeKind → ℕ → LiteralNode → NodeForm
    → Code
entered ns os kind index node forms.Named = code ns os (head_stage kind index node)
entered ns os kind index node forms.Unit =
    code ns (opened brackets.Parens index node ∷ os) stages.Due
entered ns os kind index node forms.Array =
    code ns (opened brackets.Array index node ∷ os) stages.Due
entered ns os kind index node forms.Fields = code ns os (stages.FieldDue index node)
entered ns os kind index node form = code ns os stages.Whole

abbrev pub begun_as : List LiteralNode → List PendingNode → ℕ → Option ℕ → LexemeKind → NodeForm
    → Code
begun_as ns os first label kind form =
    entered (ns ++ bare_node form label first ∷ []) os kind (length ns) (bare_node form label first)
    form

abbrev pub begin_plain_code : List LiteralNode → List PendingNode → ℕ → Option ℕ → LexemeKind
    → Option Code
begin_plain_code ns os first label kind =
    option_map (begun_as ns os first label kind) (form_of kind)

abbrev pub is_unit : OpenKind → ℕ → Bool
is_unit brackets.Parens parts = parts == 0
is_unit bracket parts = false

abbrev pub is_empty_array : OpenKind → ℕ → Bool
is_empty_array brackets.Array parts = parts == 0
is_empty_array bracket parts = false

abbrev pub close_unit_code : List LiteralNode → List PendingNode → Option Code
close_unit_code ns [] = None
close_unit_code ns (o ∷ os) =
    if is_unit o.bracket o.node.parts then Some (code ns os stages.Whole) else None

abbrev pub close_empty_code : List LiteralNode → List PendingNode → Option Code
close_empty_code ns [] = None
close_empty_code ns (o ∷ os) =
    if is_empty_array o.bracket o.node.parts then Some (code ns os stages.Whole) else None

abbrev pub begin_code : List LiteralNode → List PendingNode → ℕ → LexemeKind → Option Code
begin_code ns os position (kinds.Symbol symbols.Hash) = Some (code ns os (stages.Hash position))
begin_code ns os position (kinds.Symbol symbols.CloseParen) = close_unit_code ns os
begin_code ns os position (kinds.Symbol symbols.CloseArray) = close_empty_code ns os
begin_code ns os position kind = begin_plain_code ns os position None kind

-- ---- the end of a literal

abbrev pub next_code : List LiteralNode → List PendingNode → PendingNode → Option Code
next_code ns os o = Some (code ns (opened o.bracket o.index (with_part o.node) ∷ os) stages.Due)

abbrev pub shut_code : List LiteralNode → List PendingNode → PendingNode → Option Code
shut_code ns os o = Some (code (slice_set ns o.index (with_part o.node)) os stages.Whole)

abbrev pub shut_tuple_code : List LiteralNode → List PendingNode → PendingNode → Option Code
shut_tuple_code ns os o = if o.node.parts == 0 then None
    else Some
    (code (slice_set ns o.index (with_form forms.Tuple (with_part o.node))) os stages.Whole)

abbrev pub close_arguments_code : List LiteralNode → List PendingNode → PendingNode → LexemeKind
    → Option Code
close_arguments_code ns os o (kinds.Symbol symbols.Comma) = next_code ns os o
close_arguments_code ns os o (kinds.Symbol symbols.CloseParen) = shut_code ns os o
close_arguments_code ns os o kind = None

abbrev pub close_parens_code : List LiteralNode → List PendingNode → PendingNode → LexemeKind
    → Option Code
close_parens_code ns os o (kinds.Symbol symbols.Comma) = next_code ns os o
close_parens_code ns os o (kinds.Symbol symbols.CloseParen) = shut_tuple_code ns os o
close_parens_code ns os o kind = None

abbrev pub close_array_code : List LiteralNode → List PendingNode → PendingNode → LexemeKind
    → Option Code
close_array_code ns os o (kinds.Symbol symbols.Semicolon) = next_code ns os o
close_array_code ns os o (kinds.Symbol symbols.CloseArray) = shut_code ns os o
close_array_code ns os o kind = None

abbrev pub close_fields_code : List LiteralNode → List PendingNode → PendingNode → LexemeKind
    → Option Code
close_fields_code ns os o (kinds.Symbol symbols.Semicolon) =
    Some (code ns os (stages.FieldDue o.index (with_part o.node)))
close_fields_code ns os o (kinds.Symbol symbols.CloseBrace) = shut_code ns os o
close_fields_code ns os o kind = None

abbrev pub close_in : OpenKind → List LiteralNode → List PendingNode → PendingNode → LexemeKind
    → Option Code
close_in brackets.Arguments ns os o kind = close_arguments_code ns os o kind
close_in brackets.Parens ns os o kind = close_parens_code ns os o kind
close_in brackets.Array ns os o kind = close_array_code ns os o kind
close_in brackets.Fields ns os o kind = close_fields_code ns os o kind

abbrev pub close_code : List LiteralNode → List PendingNode → LexemeKind → Option Code
close_code ns [] kind = None
close_code ns (o ∷ os) kind = close_in o.bracket ns os o kind

-- ---- the other stages

abbrev pub take_number_code : List LiteralNode → List PendingNode → ℕ → LexemeKind → Option Code
take_number_code ns os first kind =
    option_map (λ n. code ns os (stages.Number first n)) (number_of kind)

abbrev pub after_number_code : List LiteralNode → List PendingNode → ℕ → ℕ → LexemeKind
    → Option Code
after_number_code ns os first n (kinds.Symbol symbols.Equals) =
    Some (code ns os (stages.PlainDue first n))
after_number_code ns os first n kind =
    close_code (ns ++ bare_node forms.Again (Some n) first ∷ []) os kind

abbrev pub after_bracket_code : List LiteralNode → List PendingNode → ℕ → LiteralNode → LexemeKind
    → Option Code
after_bracket_code ns os index node (kinds.Symbol symbols.CloseBracket) =
    Some (code ns os (stages.Head index node))
after_bracket_code ns os index node kind = None

abbrev pub after_head_code : List LiteralNode → List PendingNode → ℕ → LiteralNode → LexemeKind
    → Option Code
after_head_code ns os index node (kinds.Symbol symbols.OpenParen) =
    Some (code ns (opened brackets.Arguments index node ∷ os) stages.Due)
after_head_code ns os index node (kinds.Symbol symbols.OpenBrace) =
    Some (code ns os (stages.FieldDue index (with_form forms.Fields node)))
after_head_code ns os index node kind = close_code ns os kind

abbrev pub take_name_code : List LiteralNode → List PendingNode → ℕ → LiteralNode → LexemeKind
    → Option Code
take_name_code ns os index node (kinds.Lower x) = Some (code ns os (stages.NameRead index node))
take_name_code ns os index node kind = None

abbrev pub take_equals_code : List LiteralNode → List PendingNode → ℕ → LiteralNode → LexemeKind
    → Option Code
take_equals_code ns os index node (kinds.Symbol symbols.Equals) =
    Some (code ns (opened brackets.Fields index node ∷ os) stages.Due)
take_equals_code ns os index node kind = None

-- The step of the parser on the lexeme with index `position`.
abbrev pub step_code : List LiteralNode → List PendingNode → Stage → ℕ → LexemeKind → Option Code
step_code ns os stages.Due position kind = begin_code ns os position kind
step_code ns os (stages.Hash first) position kind = take_number_code ns os first kind
step_code ns os (stages.Number first n) position kind = after_number_code ns os first n kind
step_code ns os (stages.PlainDue first n) position kind = begin_plain_code ns os first (Some n) kind
step_code ns os (stages.Bracket index node) position kind = after_bracket_code ns os index node kind
step_code ns os (stages.Head index node) position kind = after_head_code ns os index node kind
step_code ns os (stages.FieldDue index node) position kind = take_name_code ns os index node kind
step_code ns os (stages.NameRead index node) position kind = take_equals_code ns os index node kind
step_code ns os stages.Whole position kind = close_code ns os kind

-- The nodes of the literal that ends at this stage, or `None` if no literal can end at this stage.
abbrev pub end_code : List LiteralNode → List PendingNode → Stage → Option (List LiteralNode)
end_code ns [] stages.Whole = Some ns
end_code ns [] (stages.Head index node) = Some ns
end_code ns [] (stages.Number first n) = Some (ns ++ bare_node forms.Again (Some n) first ∷ [])
end_code ns os stage = None

-- ---- the result of a function

abbrev pub Steps : Result (Option Stage) Memory → List LiteralNode → List PendingNode → Option Code
    → Type 0
Steps (Ok (Some stage)) ns os c = c ≡ Some (code ns os stage)
Steps (Ok None) ns os c = c ≡ None
Steps (Err e) ns os c = ⊤
