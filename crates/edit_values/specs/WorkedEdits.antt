-- Worked edits: the results of edits for a value at its type. Some results have the type, and some
-- do not.
use Rattle.std.specs.Prelude.{pos, false, Ok, Err, List, [], ◌∷◌, codes}
use Rattle.base_data.specs.declared.model.value.Val.TheVariants.{Int, Ref}
use Rattle.base_data.specs.declared.model.value.Obj.{Obj}
use Rattle.base_data.specs.declared.model.value.Obj.TheVariants.{Block, Bytes}
use Rattle.types_lex.specs.declared.lexeme.LexemeKind.TheVariants as kinds
use Rattle.types_lex.specs.declared.lexeme.Suffix.TheVariants as suffixes
use Rattle.types_lex.specs.declared.lexeme.Symbol.TheVariants as symbols
use Rattle.types_spec.specs.types.Equal.{Equal}
use Rattle.types_spec.specs.types.Names.{names_of}
use Rattle.types_spec.specs.types.Shape.{shape}
use Rattle.types_spec.specs.types.Ty.{Ty, named}
use Rattle.text_literal.specs.literal_grammar.WorkedTrees.{symbol as mark}
use Rattle.text_literal.specs.parser.LiteralReading.{mismatch_at, int_range_at}
use Rattle.text_literal.specs.parser.WorkedLiterals.{int, one, pair, number, lexemes_of}
use Rattle.text_path.specs.declared.edits.Edit.{Edit}
use Rattle.text_path.specs.declared.edits.Edit.TheVariants.{Set, Link, Unshare}
use Rattle.edit_values.specs.declared.edit_refusal.EditSide.TheVariants.{Left, Right}
use Rattle.edit_values.specs.EditedValues.{EditAnswer, IsMade}
use Rattle.edit_values.specs.Reasons.{no_field, not_block, misread}

abbrev pub string : Ty
string = named (codes "string")

abbrev pub int_list : Ty
int_list = one (codes "list") int

abbrev pub options : Ty
options = pair (one (codes "option") int) (one (codes "option") (named (codes "bool")))

-- The result of an edit without declarations. The root is object 0.
abbrev pub Makes : Ty → List Obj → Edit → EditAnswer Ty → Type 0
Makes t graph edit made = IsMade (shape []) (names_of []) (Equal []) t edit graph (Ref 0) made

-- The list of the items 1 and 2.
abbrev pub two_items : List Obj
two_items = Block 0 (Int (pos 1) ∷ Ref 1 ∷ []) ∷ Block 0 (Int (pos 2) ∷ Int (pos 0) ∷ []) ∷ []

-- A pair with the same object twice.
abbrev pub shared_pair : List Obj
shared_pair = Block 0 (Ref 1 ∷ Ref 1 ∷ []) ∷ Block 0 (Int (pos 0) ∷ []) ∷ []

abbrev pub a_string : List Obj
a_string = Bytes (codes "abc") ∷ []

pub record WorkedEditRows : Type 0 where
  -- The edit `0 set .1 = ::(7, [])`. The new object is the last object.
  pub new_rest : Makes int_list two_items
      (Set (1 ∷ [])
      (lexemes_of
      ((11, mark symbols.DoubleColon) ∷ (13, mark symbols.OpenParen)
      ∷ (14, number false (pos 7) suffixes.Absent) ∷ (15, mark symbols.Comma)
      ∷ (17, mark symbols.OpenBracket) ∷ (18, mark symbols.CloseBracket)
      ∷ (19, mark symbols.CloseParen) ∷ []))
      20)
      (Ok (
        Block 0 (Int (pos 1) ∷ Ref 2 ∷ []) ∷ Block 0 (Int (pos 2) ∷ Int (pos 0) ∷ [])
            ∷ Block 0 (Int (pos 7) ∷ Int (pos 0) ∷ []) ∷ [],
        Ref 0,
      ))
  -- The edit `0 set .2 = 1`.
  pub no_such_field : Makes int_list two_items
      (Set (2 ∷ []) (lexemes_of ((11, number false (pos 1) suffixes.Absent) ∷ [])) 12)
      (Err (no_field Left 0))
  -- The edit `0 set .1.1.0 = 1`. The path leads beyond the last item.
  pub no_such_step : Makes int_list two_items
      (Set (1 ∷ 1 ∷ 0 ∷ []) (lexemes_of ((15, number false (pos 1) suffixes.Absent) ∷ [])) 16)
      (Err (no_field Left 2))
  -- The edit `0 link . = .5`.
  pub no_such_source : Makes int_list two_items (Link [] (5 ∷ [])) (Err (no_field Right 0))
  -- The edit `0 link .2 = .5`. The left path is checked first.
  pub left_first : Makes int_list two_items (Link (2 ∷ []) (5 ∷ [])) (Err (no_field Left 0))
  -- The edit `0 unshare .0`.
  pub an_integer : Makes int_list two_items (Unshare (0 ∷ [])) (Err not_block)
  -- The edit `0 set .0 = 4611686018427387904`.
  pub out_of_range : Makes int_list two_items
      (Set (0 ∷ []) (lexemes_of ((11, number false (pos 4611686018427387904) suffixes.Absent) ∷ []))
      30)
      (Err (misread (int_range_at 11)))
  -- The edit `0 link .1.1 = .`. The list becomes cyclic.
  pub goes_round : Makes int_list two_items (Link (1 ∷ 1 ∷ []) [])
      (Ok (Block 0 (Int (pos 1) ∷ Ref 1 ∷ []) ∷ Block 0 (Int (pos 2) ∷ Ref 0 ∷ []) ∷ [], Ref 0))
  -- The edit `0 set .0.0 = 5`. The second part of the pair is the changed object, too, so it
  -- changes and no longer has its type.
  pub both_change : Makes options shared_pair
      (Set (0 ∷ 0 ∷ []) (lexemes_of ((13, number false (pos 5) suffixes.Absent) ∷ [])) 14)
      (Ok (Block 0 (Ref 1 ∷ Ref 1 ∷ []) ∷ Block 0 (Int (pos 5) ∷ []) ∷ [], Ref 0))
  -- The edit `0 unshare .1`.
  pub parted : Makes options shared_pair (Unshare (1 ∷ []))
      (Ok (
        Block 0 (Ref 1 ∷ Ref 2 ∷ []) ∷ Block 0 (Int (pos 0) ∷ []) ∷ Block 0 (Int (pos 0) ∷ [])
            ∷ [],
        Ref 0,
      ))
  -- The edit `0 unshare .`. The objects to which the root refers are not copied.
  pub root_alone : Makes options shared_pair (Unshare [])
      (Ok (
        Block 0 (Ref 1 ∷ Ref 1 ∷ []) ∷ Block 0 (Int (pos 0) ∷ []) ∷ Block 0 (Ref 1 ∷ Ref 1 ∷ [])
            ∷ [],
        Ref 2,
      ))
  -- The edit `0 set . = "xyz!"`.
  pub new_root : Makes string a_string
      (Set [] (lexemes_of ((10, kinds.Text (codes "xyz!")) ∷ [])) 16)
      (Ok (Bytes (codes "abc") ∷ Bytes (codes "xyz!") ∷ [], Ref 1))
  -- The edit `0 set . = 5`.
  pub no_string : Makes string a_string
      (Set [] (lexemes_of ((10, number false (pos 5) suffixes.Absent) ∷ [])) 11)
      (Err (misread (mismatch_at 10 string)))
  -- The edit `0 unshare .`. A string is an object, so it is copied.
  pub string_copied : Makes string a_string (Unshare [])
      (Ok (Bytes (codes "abc") ∷ Bytes (codes "abc") ∷ [], Ref 1))
