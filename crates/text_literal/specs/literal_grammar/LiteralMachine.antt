-- The parsing table, which reads a literal's lexemes one by one. A state holds the open brackets,
-- the innermost bracket first, and what was read last.
use Rattle.std.specs.Prelude.{ℕ, true, false, if◌then◌else◌, Option, Some, None, option_map, List}
use Rattle.std.specs.Prelude.{[], ◌∷◌, ◌++◌, map}
use Rattle.std.specs.Str.{bytes_eq}
use Rattle.types_lex.specs.declared.lexeme.LexemeKind.{LexemeKind}
use Rattle.types_lex.specs.declared.lexeme.LexemeKind.TheVariants as kinds
use Rattle.types_lex.specs.declared.lexeme.Symbol.TheVariants as symbols
use Rattle.types_parse.specs.grammar.Grammar.{Name, Kinds, mark}
use Rattle.types_parse.specs.grammar.LexemeKinds.{number_of}
use Rattle.text_literal.specs.literal_grammar.Literal.{LiteralHead, upper_head, tag_head, cons_head}
use Rattle.text_literal.specs.literal_grammar.Literal.{empty_head}
use Rattle.text_literal.specs.literal_grammar.Literal.{ref_head, Literal, labelled, again, Plain}
use Rattle.text_literal.specs.literal_grammar.Literal.{integer}
use Rattle.text_literal.specs.literal_grammar.Literal.{character, string, double, truth, unit}
use Rattle.text_literal.specs.literal_grammar.Literal.{constant}
use Rattle.text_literal.specs.literal_grammar.Literal.{applied, fields, tuple, empty_array, array}
use Rattle.text_literal.specs.literal_grammar.Literal.{Parts}
use Rattle.text_literal.specs.literal_grammar.Literal.{no_parts, more_parts, FieldRows, no_rows}
use Rattle.text_literal.specs.literal_grammar.Literal.{more_rows}
use Rattle.text_literal.specs.literal_grammar.Literal.{reference, label_kinds, true_name}
use Rattle.text_literal.specs.literal_grammar.Literal.{false_name}
use Rattle.text_literal.specs.literal_grammar.Literal.{ref_name, head_kinds, owner_kinds, row_start}
use Rattle.text_literal.specs.literal_grammar.Literal.{literal_kinds, parts_kinds, rows_kinds}

-- An open bracket around a literal, with the label of the enclosing literal and the parts before.
pub data LiteralFrame : Type 0 where
  in_arguments : Option ℕ → LiteralHead → Parts → LiteralFrame
  in_parens : Option ℕ → Parts → LiteralFrame
  in_array : Option ℕ → Parts → LiteralFrame
  in_fields : Option ℕ → Option LiteralHead → FieldRows → Name → LiteralFrame

-- What the table read last, with the label before it.
pub data Phase : Type 0 where
  due : Phase
  hash_read : Phase
  number_read : ℕ → Phase
  -- The table has read `#k=`, and a plain literal must follow.
  plain_due : ℕ → Phase
  bracket_read : Option ℕ → Phase
  head_read : Option ℕ → LiteralHead → Phase
  field_due : Option ℕ → Option LiteralHead → FieldRows → Phase
  name_read : Option ℕ → Option LiteralHead → FieldRows → Name → Phase
  whole : Literal → Phase

pub data LiteralState : Type 0 where
  at : List LiteralFrame → Phase → LiteralState

abbrev pub start : LiteralState
start = at [] due

-- ---- the table

abbrev pub read : List LiteralFrame → Option ℕ → Plain → Option LiteralState
read fs l p = Some (at fs (whole (labelled l p)))

abbrev pub begin_word : List LiteralFrame → Option ℕ → Name → Option LiteralState
begin_word fs l x =
    if bytes_eq x true_name then read fs l (truth true)
    else (if bytes_eq x false_name then read fs l (truth false)
    else (if bytes_eq x ref_name then Some (at fs (head_read l ref_head)) else None))

abbrev pub begin_plain : List LiteralFrame → Option ℕ → LexemeKind → Option LiteralState
begin_plain fs l (kinds.Integer i) = read fs l (integer i)
begin_plain fs l (kinds.Character c) = read fs l (character c)
begin_plain fs l (kinds.Text s) = read fs l (string s)
begin_plain fs l (kinds.Double d) = read fs l (double d)
begin_plain fs l (kinds.Lower x) = begin_word fs l x
begin_plain fs l (kinds.Upper x) = Some (at fs (head_read l (upper_head x)))
begin_plain fs l (kinds.Tag x) = Some (at fs (head_read l (tag_head x)))
begin_plain fs l (kinds.Symbol symbols.DoubleColon) = Some (at fs (head_read l cons_head))
begin_plain fs l (kinds.Symbol symbols.OpenBracket) = Some (at fs (bracket_read l))
begin_plain fs l (kinds.Symbol symbols.OpenParen) = Some (at (in_parens l no_parts ∷ fs) due)
begin_plain fs l (kinds.Symbol symbols.OpenArray) = Some (at (in_array l no_parts ∷ fs) due)
begin_plain fs l (kinds.Symbol symbols.OpenBrace) = Some (at fs (field_due l None no_rows))
begin_plain fs l kind = None

-- The state after parentheses close without parts.
abbrev pub close_unit : List LiteralFrame → Option LiteralState
close_unit (in_parens l no_parts ∷ fs) = read fs l unit
close_unit fs = None

abbrev pub close_empty : List LiteralFrame → Option LiteralState
close_empty (in_array l no_parts ∷ fs) = read fs l empty_array
close_empty fs = None

abbrev pub begin : List LiteralFrame → LexemeKind → Option LiteralState
begin fs (kinds.Symbol symbols.Hash) = Some (at fs hash_read)
begin fs (kinds.Symbol symbols.CloseParen) = close_unit fs
begin fs (kinds.Symbol symbols.CloseArray) = close_empty fs
begin fs kind = begin_plain fs None kind

abbrev pub close_arguments : List LiteralFrame → Option ℕ → LiteralHead → Parts → Literal
    → LexemeKind
    → Option LiteralState
close_arguments fs l h ps v (kinds.Symbol symbols.Comma) =
    Some (at (in_arguments l h (more_parts ps v) ∷ fs) due)
close_arguments fs l h ps v (kinds.Symbol symbols.CloseParen) = read fs l (applied h ps v)
close_arguments fs l h ps v kind = None

abbrev pub close_tuple : List LiteralFrame → Option ℕ → Parts → Literal → Option LiteralState
close_tuple fs l no_parts v = None
close_tuple fs l (more_parts ps u) v = read fs l (tuple ps u v)

abbrev pub close_parens : List LiteralFrame → Option ℕ → Parts → Literal → LexemeKind
    → Option LiteralState
close_parens fs l ps v (kinds.Symbol symbols.Comma) =
    Some (at (in_parens l (more_parts ps v) ∷ fs) due)
close_parens fs l ps v (kinds.Symbol symbols.CloseParen) = close_tuple fs l ps v
close_parens fs l ps v kind = None

abbrev pub close_array : List LiteralFrame → Option ℕ → Parts → Literal → LexemeKind
    → Option LiteralState
close_array fs l ps v (kinds.Symbol symbols.Semicolon) =
    Some (at (in_array l (more_parts ps v) ∷ fs) due)
close_array fs l ps v (kinds.Symbol symbols.CloseArray) = read fs l (array ps v)
close_array fs l ps v kind = None

abbrev pub close_fields : List LiteralFrame → Option ℕ → Option LiteralHead → FieldRows → Name
    → Literal → LexemeKind
    → Option LiteralState
close_fields fs l o rs x v (kinds.Symbol symbols.Semicolon) =
    Some (at fs (field_due l o (more_rows rs x v)))
close_fields fs l o rs x v (kinds.Symbol symbols.CloseBrace) = read fs l (fields o rs x v)
close_fields fs l o rs x v kind = None

abbrev pub close : List LiteralFrame → Literal → LexemeKind → Option LiteralState
close [] v kind = None
close (in_arguments l h ps ∷ fs) v kind = close_arguments fs l h ps v kind
close (in_parens l ps ∷ fs) v kind = close_parens fs l ps v kind
close (in_array l ps ∷ fs) v kind = close_array fs l ps v kind
close (in_fields l o rs x ∷ fs) v kind = close_fields fs l o rs x v kind

abbrev pub take_number : List LiteralFrame → LexemeKind → Option LiteralState
take_number fs kind = option_map (λ n. at fs (number_read n)) (number_of kind)

abbrev pub after_number : List LiteralFrame → ℕ → LexemeKind → Option LiteralState
after_number fs k (kinds.Symbol symbols.Equals) = Some (at fs (plain_due k))
after_number fs k kind = close fs (again k) kind

abbrev pub after_bracket : List LiteralFrame → Option ℕ → LexemeKind → Option LiteralState
after_bracket fs l (kinds.Symbol symbols.CloseBracket) = Some (at fs (head_read l empty_head))
after_bracket fs l kind = None

abbrev pub after_head : List LiteralFrame → Option ℕ → LiteralHead → LexemeKind
    → Option LiteralState
after_head fs l h (kinds.Symbol symbols.OpenParen) = Some (at (in_arguments l h no_parts ∷ fs) due)
after_head fs l h (kinds.Symbol symbols.OpenBrace) = Some (at fs (field_due l (Some h) no_rows))
after_head fs l h kind = close fs (labelled l (constant h)) kind

abbrev pub take_name : List LiteralFrame → Option ℕ → Option LiteralHead → FieldRows → LexemeKind
    → Option LiteralState
take_name fs l o rs (kinds.Lower x) = Some (at fs (name_read l o rs x))
take_name fs l o rs kind = None

abbrev pub take_equals : List LiteralFrame → Option ℕ → Option LiteralHead → FieldRows → Name
    → LexemeKind
    → Option LiteralState
take_equals fs l o rs x (kinds.Symbol symbols.Equals) = Some (at (in_fields l o rs x ∷ fs) due)
take_equals fs l o rs x kind = None

abbrev pub step : LiteralState → LexemeKind → Option LiteralState
step (at fs due) kind = begin fs kind
step (at fs hash_read) kind = take_number fs kind
step (at fs (number_read k)) kind = after_number fs k kind
step (at fs (plain_due k)) kind = begin_plain fs (Some k) kind
step (at fs (bracket_read l)) kind = after_bracket fs l kind
step (at fs (head_read l h)) kind = after_head fs l h kind
step (at fs (field_due l o rs)) kind = take_name fs l o rs kind
step (at fs (name_read l o rs x)) kind = take_equals fs l o rs x kind
step (at fs (whole v)) kind = close fs v kind

abbrev pub accepted : LiteralState → Option Literal
accepted (at [] (whole v)) = Some v
accepted (at [] (number_read k)) = Some (again k)
accepted (at [] (head_read l h)) = Some (labelled l (constant h))
accepted s = None

-- ---- the lexemes that a state has read

abbrev pub frame_kinds : LiteralFrame → Kinds
frame_kinds (in_arguments l h ps) =
    label_kinds l ++ (head_kinds h ++ mark symbols.OpenParen ++ parts_kinds symbols.Comma ps)
frame_kinds (in_parens l ps) =
    label_kinds l ++ (mark symbols.OpenParen ++ parts_kinds symbols.Comma ps)
frame_kinds (in_array l ps) =
    label_kinds l ++ (mark symbols.OpenArray ++ parts_kinds symbols.Semicolon ps)
frame_kinds (in_fields l o rs x) =
    label_kinds l ++ (owner_kinds o ++ mark symbols.OpenBrace ++ rows_kinds rs ++ row_start x)

abbrev pub frames_prefix : List LiteralFrame → Kinds
frames_prefix [] = []
frames_prefix (f ∷ fs) = frames_prefix fs ++ frame_kinds f

abbrev pub phase_kinds : Phase → Kinds
phase_kinds due = []
phase_kinds hash_read = mark symbols.Hash
phase_kinds (number_read k) = reference k
phase_kinds (plain_due k) = label_kinds (Some k)
phase_kinds (bracket_read l) = label_kinds l ++ mark symbols.OpenBracket
phase_kinds (head_read l h) = label_kinds l ++ head_kinds h
phase_kinds (field_due l o rs) =
    label_kinds l ++ (owner_kinds o ++ mark symbols.OpenBrace ++ rows_kinds rs)
phase_kinds (name_read l o rs x) =
    label_kinds l
    ++ (owner_kinds o ++ mark symbols.OpenBrace ++ rows_kinds rs ++ kinds.Lower x ∷ [])
phase_kinds (whole v) = literal_kinds v

abbrev pub prefix : LiteralState → Kinds
prefix (at fs phase) = frames_prefix fs ++ phase_kinds phase

-- The number of closed types at each lexeme, which is 0 because no lexeme of a literal ends a type.
abbrev pub zeros : Kinds → List ℕ
zeros lexemes = map (λ (kind : LexemeKind). 0) lexemes

abbrev pub ends : Literal → List ℕ
ends v = zeros (literal_kinds v)
