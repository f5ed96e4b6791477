-- Worked literals: the literals' lexemes, each with the offset of its first byte, and the literals'
-- readings at a type in an empty heap.
use Rattle.std.specs.Prelude.{ℕ, ℤ, pos, negsuc, ◌≡◌, Bool, true, false, Option, Some, option_map}
use Rattle.std.specs.Prelude.{Result, Ok, Err, List, [], ◌∷◌, map, codes}
use Rattle.text_literal.specs.literal_grammar.WorkedTrees.{symbol as mark, reading as tree_of}
use Rattle.base_data.specs.declared.model.value.Val.TheVariants.{Int, Atom, Ref}
use Rattle.base_data.specs.declared.model.value.Obj.TheVariants.{Block, Bytes, Double, Doubles, I32}
use Rattle.base_data.specs.declared.model.value.Obj.TheVariants.{I64}
use Rattle.base_data.specs.declared.model.value.Obj.TheVariants.{Native}
use Rattle.types_lex.specs.declared.lexeme.Lexeme.{Lexeme}
use Rattle.types_lex.specs.declared.lexeme.LexemeKind.{LexemeKind}
use Rattle.types_lex.specs.declared.lexeme.LexemeKind.TheVariants as kinds
use Rattle.types_lex.specs.declared.lexeme.Suffix.{Suffix}
use Rattle.types_lex.specs.declared.lexeme.Suffix.TheVariants as suffixes
use Rattle.types_lex.specs.declared.lexeme.Symbol.TheVariants as symbols
use Rattle.types_spec.specs.declared.types.decl.Field.{Field}
use Rattle.types_spec.specs.declared.types.decl.Arguments.TheVariants as arguments
use Rattle.types_spec.specs.declared.types.decl.Body.TheVariants as bodies
use Rattle.types_spec.specs.declared.types.decl.Decl.{Decl}
use Rattle.types_spec.specs.types.Ty.{Ty, variable, named, tuple, bracket, part, tag, tag_of}
use Rattle.types_spec.specs.types.Shape.{shape}
use Rattle.types_spec.specs.types.Names.{names_of}
use Rattle.types_parse.specs.grammar.LexemeKinds.{kinds_of}
use Rattle.text_literal.specs.parser.LiteralReading.{LiteralReading, LiteralRefusal, mismatch_at}
use Rattle.text_literal.specs.parser.LiteralReading.{int_range_at, label_at}
use Rattle.text_literal.specs.parser.LiteralReading.{reading}
use Rattle.text_literal.specs.parser.LiteralReading.{literal_read}
use Rattle.text_literal.specs.parser.LiteralAnswers.{in_bytes}

-- ---- types

abbrev pub one : List ℕ → Ty → Ty
one name t = part (named name) t

abbrev pub int : Ty
int = named (codes "int")

abbrev pub pair : Ty → Ty → Ty
pair t u = part (part tuple t) u

abbrev pub a_variable : Ty
a_variable = variable (codes "a")

abbrev pub field : List ℕ → Ty → Field
field name t = record { name = name; mutable = false; ty = t }

-- A record, a flat float record, and the variant `A | B of {x : int; y : string} | C of int *
-- bool`.
abbrev pub decls : List Decl
decls =
    record {
      name = codes "r";
      parameters = [];
      body = bodies.Record (field (codes "x") int ∷ field (codes "y") int ∷ []);
      group = 0;
    }
    ∷ record {
      name = codes "f";
      parameters = [];
      body = bodies.Record
          (field (codes "x") (named (codes "float")) ∷ field (codes "y") (named (codes "float"))
          ∷ []);
      group = 1;
    }
    ∷ record {
      name = codes "v";
      parameters = [];
      body = bodies.Variant (
          record { name = codes "A"; arguments = arguments.Constant }
          ∷ record {
            name = codes "B";
            arguments = arguments.Inline
                (field (codes "x") int ∷ field (codes "y") (named (codes "string")) ∷ []);
          }
          ∷ record
          { name = codes "C"; arguments = arguments.Listed (int ∷ named (codes "bool") ∷ []) }
          ∷ []);
      group = 2;
    }
    ∷ []

-- ---- lexemes

abbrev pub number : Bool → ℤ → Suffix → LexemeKind
number minus value suffix = kinds.Integer (record { minus = minus; value = value; suffix = suffix })

-- A lexeme at a byte offset, with length 0, because only the offset of the first byte matters.
abbrev pub lexeme : ℕ × LexemeKind → Lexeme
lexeme l = record { kind = l.1; span = record { first = l.0; len = 0 } }

abbrev pub lexemes_of : List (ℕ × LexemeKind) → List Lexeme
lexemes_of all = map lexeme all

-- ---- results

abbrev pub placed : List Lexeme → Result LiteralReading (LiteralRefusal Ty)
    → Result LiteralReading (LiteralRefusal Ty)
placed lexemes (Ok r) = Ok r
placed lexemes (Err refusal) = Err (in_bytes lexemes 0 refusal)

abbrev pub judged : List (ℕ × LexemeKind) → Ty → Option (Result LiteralReading (LiteralRefusal Ty))
judged lexemes t =
    option_map
    (λ v. placed (lexemes_of lexemes) (literal_read (shape decls) (names_of decls) 0 v 0 [] t))
    (tree_of (kinds_of (lexemes_of lexemes)))

pub record WorkedLiteralRows : Type 0 where
  -- `::(7, [])`
  pub one_item : judged
      ((0, mark symbols.DoubleColon) ∷ (2, mark symbols.OpenParen)
      ∷ (3, number false (pos 7) suffixes.Absent) ∷ (4, mark symbols.Comma)
      ∷ (6, mark symbols.OpenBracket) ∷ (7, mark symbols.CloseBracket)
      ∷ (8, mark symbols.CloseParen) ∷ [])
      (one (codes "list") int)
      ≡ Some (Ok (reading (Ref 0 ∷ []) (Block 0 (Int (pos 7) ∷ Int (pos 0) ∷ []) ∷ []) []))
  -- `#0=::(1, #0)`
  pub cyclic : judged
      ((0, mark symbols.Hash) ∷ (1, number false (pos 0) suffixes.Absent) ∷ (2, mark symbols.Equals)
      ∷ (3, mark symbols.DoubleColon) ∷ (5, mark symbols.OpenParen)
      ∷ (6, number false (pos 1) suffixes.Absent) ∷ (7, mark symbols.Comma)
      ∷ (9, mark symbols.Hash) ∷ (10, number false (pos 0) suffixes.Absent)
      ∷ (11, mark symbols.CloseParen) ∷ [])
      (one (codes "list") int)
      ≡ Some (Ok (reading (Ref 0 ∷ []) (Block 0 (Int (pos 1) ∷ Ref 0 ∷ []) ∷ []) (0 ∷ [])))
  -- `(#0=ref(0), #0)`
  pub shared : judged
      ((0, mark symbols.OpenParen) ∷ (1, mark symbols.Hash)
      ∷ (2, number false (pos 0) suffixes.Absent) ∷ (3, mark symbols.Equals)
      ∷ (4, kinds.Lower (codes "ref")) ∷ (7, mark symbols.OpenParen)
      ∷ (8, number false (pos 0) suffixes.Absent) ∷ (9, mark symbols.CloseParen)
      ∷ (10, mark symbols.Comma) ∷ (12, mark symbols.Hash)
      ∷ (13, number false (pos 0) suffixes.Absent) ∷ (14, mark symbols.CloseParen) ∷ [])
      (pair (one (codes "ref") int) (one (codes "ref") int))
      ≡ Some
      (Ok
      (reading (Ref 0 ∷ []) (Block 0 (Ref 1 ∷ Ref 1 ∷ []) ∷ Block 0 (Int (pos 0) ∷ []) ∷ [])
      (1 ∷ [])))
  -- `(#1=ref(0), #1)`
  pub wrong_number : judged
      ((0, mark symbols.OpenParen) ∷ (1, mark symbols.Hash)
      ∷ (2, number false (pos 1) suffixes.Absent) ∷ (3, mark symbols.Equals)
      ∷ (4, kinds.Lower (codes "ref")) ∷ (7, mark symbols.OpenParen)
      ∷ (8, number false (pos 0) suffixes.Absent) ∷ (9, mark symbols.CloseParen)
      ∷ (10, mark symbols.Comma) ∷ (12, mark symbols.Hash)
      ∷ (13, number false (pos 1) suffixes.Absent) ∷ (14, mark symbols.CloseParen) ∷ [])
      (pair (one (codes "ref") int) (one (codes "ref") int))
      ≡ Some (Err (label_at 1))
  -- `(#0, #0=ref(0))`
  pub used_before : judged
      ((0, mark symbols.OpenParen) ∷ (1, mark symbols.Hash)
      ∷ (2, number false (pos 0) suffixes.Absent) ∷ (3, mark symbols.Comma)
      ∷ (5, mark symbols.Hash) ∷ (6, number false (pos 0) suffixes.Absent)
      ∷ (7, mark symbols.Equals) ∷ (8, kinds.Lower (codes "ref")) ∷ (11, mark symbols.OpenParen)
      ∷ (12, number false (pos 0) suffixes.Absent) ∷ (13, mark symbols.CloseParen)
      ∷ (14, mark symbols.CloseParen) ∷ [])
      (pair (one (codes "ref") int) (one (codes "ref") int))
      ≡ Some (Err (label_at 1))
  -- `#0=5`
  pub labelled_integer : judged
      ((0, mark symbols.Hash) ∷ (1, number false (pos 0) suffixes.Absent) ∷ (2, mark symbols.Equals)
      ∷ (3, number false (pos 5) suffixes.Absent) ∷ [])
      int
      ≡ Some (Err (label_at 0))
  -- `#0=true`
  pub labelled_mismatch : judged
      ((0, mark symbols.Hash) ∷ (1, number false (pos 0) suffixes.Absent) ∷ (2, mark symbols.Equals)
      ∷ (3, kinds.Lower (codes "true")) ∷ [])
      int
      ≡ Some (Err (mismatch_at 3 int))
  -- `4611686018427387903`
  pub greatest : judged ((0, number false (pos 4611686018427387903) suffixes.Absent) ∷ []) int
      ≡ Some (Ok (reading (Int (pos 4611686018427387903) ∷ []) [] []))
  -- `4611686018427387904`
  pub too_great : judged ((0, number false (pos 4611686018427387904) suffixes.Absent) ∷ []) int
      ≡ Some (Err (int_range_at 0))
  -- `-4611686018427387905`
  pub too_small : judged ((0, number true (negsuc 4611686018427387904) suffixes.Absent) ∷ []) int
      ≡ Some (Err (int_range_at 0))
  -- `true`
  pub another_form : judged ((0, kinds.Lower (codes "true")) ∷ []) int
      ≡ Some (Err (mismatch_at 0 int))
  -- `(1, 'a', true)`
  pub first_part : judged
      ((0, mark symbols.OpenParen) ∷ (1, number false (pos 1) suffixes.Absent)
      ∷ (2, mark symbols.Comma) ∷ (4, kinds.Character 97) ∷ (7, mark symbols.Comma)
      ∷ (9, kinds.Lower (codes "true")) ∷ (13, mark symbols.CloseParen) ∷ [])
      (part (pair int int) int)
      ≡ Some (Err (mismatch_at 4 int))
  -- `(1, 2)`
  pub two_of_three : judged
      ((0, mark symbols.OpenParen) ∷ (1, number false (pos 1) suffixes.Absent)
      ∷ (2, mark symbols.Comma) ∷ (4, number false (pos 2) suffixes.Absent)
      ∷ (5, mark symbols.CloseParen) ∷ [])
      (part (pair int int) int)
      ≡ Some (Err (mismatch_at 0 (part (pair int int) int)))
  -- `5l`
  pub int32 : judged ((0, number false (pos 5) suffixes.Int32) ∷ []) (named (codes "int32"))
      ≡ Some (Ok (reading (Ref 0 ∷ []) (I32 (pos 5) ∷ []) []))
  -- `5`
  pub no_suffix : judged ((0, number false (pos 5) suffixes.Absent) ∷ []) (named (codes "int32"))
      ≡ Some (Err (mismatch_at 0 (named (codes "int32"))))
  -- `2147483648l`
  pub int32_range : judged ((0, number false (pos 2147483648) suffixes.Int32) ∷ [])
      (named (codes "int32"))
      ≡ Some (Err (int_range_at 0))
  -- `-5L`
  pub int64 : judged ((0, number true (negsuc 4) suffixes.Int64) ∷ []) (named (codes "int64"))
      ≡ Some (Ok (reading (Ref 0 ∷ []) (I64 (negsuc 4) ∷ []) []))
  -- `5n`
  pub native : judged ((0, number false (pos 5) suffixes.Native) ∷ []) (named (codes "nativeint"))
      ≡ Some (Ok (reading (Ref 0 ∷ []) (Native (pos 5) ∷ []) []))
  -- `$3ff0000000000000`
  pub float : judged ((0, kinds.Double 4607182418800017408) ∷ []) (named (codes "float"))
      ≡ Some (Ok (reading (Ref 0 ∷ []) (Double 4607182418800017408 ∷ []) []))
  -- `[|$3ff0000000000000; $0000000000000000|]`
  pub floats : judged
      ((0, mark symbols.OpenArray) ∷ (2, kinds.Double 4607182418800017408)
      ∷ (19, mark symbols.Semicolon) ∷ (21, kinds.Double 0) ∷ (38, mark symbols.CloseArray)
      ∷ [])
      (one (codes "array") (named (codes "float")))
      ≡ Some (Ok (reading (Ref 0 ∷ []) (Doubles (4607182418800017408 ∷ 0 ∷ []) ∷ []) []))
  -- `[|$3ff0000000000000; 1|]`
  pub no_float : judged
      ((0, mark symbols.OpenArray) ∷ (2, kinds.Double 4607182418800017408)
      ∷ (19, mark symbols.Semicolon) ∷ (21, number false (pos 1) suffixes.Absent)
      ∷ (22, mark symbols.CloseArray) ∷ [])
      (one (codes "array") (named (codes "float")))
      ≡ Some (Err (mismatch_at 0 (one (codes "array") (named (codes "float")))))
  -- `[|#0=$3ff0000000000000|]`
  pub labelled_float : judged
      ((0, mark symbols.OpenArray) ∷ (2, mark symbols.Hash)
      ∷ (3, number false (pos 0) suffixes.Absent) ∷ (4, mark symbols.Equals)
      ∷ (5, kinds.Double 4607182418800017408) ∷ (22, mark symbols.CloseArray) ∷ [])
      (one (codes "array") (named (codes "float")))
      ≡ Some (Err (mismatch_at 0 (one (codes "array") (named (codes "float")))))
  -- `{x = $3ff0000000000000; y = $4000000000000000}`
  pub flat : judged
      ((0, mark symbols.OpenBrace) ∷ (1, kinds.Lower (codes "x")) ∷ (3, mark symbols.Equals)
      ∷ (5, kinds.Double 4607182418800017408) ∷ (22, mark symbols.Semicolon)
      ∷ (24, kinds.Lower (codes "y")) ∷ (26, mark symbols.Equals)
      ∷ (28, kinds.Double 4611686018427387904) ∷ (45, mark symbols.CloseBrace) ∷ [])
      (named (codes "f"))
      ≡ Some
      (Ok
      (reading (Ref 0 ∷ []) (Doubles (4607182418800017408 ∷ 4611686018427387904 ∷ []) ∷ [])
      []))
  -- `{x = 1; y = 2}`
  pub fields : judged
      ((0, mark symbols.OpenBrace) ∷ (1, kinds.Lower (codes "x")) ∷ (3, mark symbols.Equals)
      ∷ (5, number false (pos 1) suffixes.Absent) ∷ (6, mark symbols.Semicolon)
      ∷ (8, kinds.Lower (codes "y")) ∷ (10, mark symbols.Equals)
      ∷ (12, number false (pos 2) suffixes.Absent) ∷ (13, mark symbols.CloseBrace) ∷ [])
      (named (codes "r"))
      ≡ Some (Ok (reading (Ref 0 ∷ []) (Block 0 (Int (pos 1) ∷ Int (pos 2) ∷ []) ∷ []) []))
  -- `{y = 1; x = 2}`
  pub other_order : judged
      ((0, mark symbols.OpenBrace) ∷ (1, kinds.Lower (codes "y")) ∷ (3, mark symbols.Equals)
      ∷ (5, number false (pos 1) suffixes.Absent) ∷ (6, mark symbols.Semicolon)
      ∷ (8, kinds.Lower (codes "x")) ∷ (10, mark symbols.Equals)
      ∷ (12, number false (pos 2) suffixes.Absent) ∷ (13, mark symbols.CloseBrace) ∷ [])
      (named (codes "r"))
      ≡ Some (Err (mismatch_at 0 (named (codes "r"))))
  -- `A`
  pub constant : judged ((0, kinds.Upper (codes "A")) ∷ []) (named (codes "v"))
      ≡ Some (Ok (reading (Int (pos 0) ∷ []) [] []))
  -- `C(1, true)`
  pub two : judged
      ((0, kinds.Upper (codes "C")) ∷ (1, mark symbols.OpenParen)
      ∷ (2, number false (pos 1) suffixes.Absent) ∷ (3, mark symbols.Comma)
      ∷ (5, kinds.Lower (codes "true")) ∷ (9, mark symbols.CloseParen) ∷ [])
      (named (codes "v"))
      ≡ Some (Ok (reading (Ref 0 ∷ []) (Block 1 (Int (pos 1) ∷ Int (pos 1) ∷ []) ∷ []) []))
  -- `B{x = 1; y = "a"}`
  pub inline : judged
      ((0, kinds.Upper (codes "B")) ∷ (1, mark symbols.OpenBrace) ∷ (2, kinds.Lower (codes "x"))
      ∷ (4, mark symbols.Equals) ∷ (6, number false (pos 1) suffixes.Absent)
      ∷ (7, mark symbols.Semicolon) ∷ (9, kinds.Lower (codes "y")) ∷ (11, mark symbols.Equals)
      ∷ (13, kinds.Text (codes "a")) ∷ (16, mark symbols.CloseBrace) ∷ [])
      (named (codes "v"))
      ≡ Some
      (Ok (reading (Ref 0 ∷ []) (Block 0 (Int (pos 1) ∷ Ref 1 ∷ []) ∷ Bytes (97 ∷ []) ∷ []) []))
  -- `B(1, "a")`
  pub no_inline : judged
      ((0, kinds.Upper (codes "B")) ∷ (1, mark symbols.OpenParen)
      ∷ (2, number false (pos 1) suffixes.Absent) ∷ (3, mark symbols.Comma)
      ∷ (5, kinds.Text (codes "a")) ∷ (8, mark symbols.CloseParen) ∷ [])
      (named (codes "v"))
      ≡ Some (Err (mismatch_at 0 (named (codes "v"))))
  -- `Some(())`
  pub some : judged
      ((0, kinds.Upper (codes "Some")) ∷ (4, mark symbols.OpenParen) ∷ (5, mark symbols.OpenParen)
      ∷ (6, mark symbols.CloseParen) ∷ (7, mark symbols.CloseParen) ∷ [])
      (one (codes "option") (named (codes "unit")))
      ≡ Some (Ok (reading (Ref 0 ∷ []) (Block 0 (Int (pos 0) ∷ []) ∷ []) []))
  -- The tag `On`.
  pub bare : judged ((0, kinds.Tag (codes "On")) ∷ [])
      (tag (tag bracket (codes "Off")) (codes "On"))
      ≡ Some (Ok (reading (Int (pos 17727) ∷ []) [] []))
  -- The tag `On` with the argument 3.
  pub carrying : judged
      ((0, kinds.Tag (codes "On")) ∷ (3, mark symbols.OpenParen)
      ∷ (4, number false (pos 3) suffixes.Absent) ∷ (5, mark symbols.CloseParen) ∷ [])
      (tag_of bracket (codes "On") int)
      ≡ Some (Ok (reading (Ref 0 ∷ []) (Block 0 (Int (pos 17727) ∷ Int (pos 3) ∷ []) ∷ []) []))
  -- `[|'a'; 'b'|]`
  pub array : judged
      ((0, mark symbols.OpenArray) ∷ (2, kinds.Character 97) ∷ (5, mark symbols.Semicolon)
      ∷ (7, kinds.Character 98) ∷ (10, mark symbols.CloseArray) ∷ [])
      (one (codes "array") (named (codes "char")))
      ≡ Some (Ok (reading (Ref 0 ∷ []) (Block 0 (Int (pos 97) ∷ Int (pos 98) ∷ []) ∷ []) []))
  -- `[||]`
  pub empty : judged ((0, mark symbols.OpenArray) ∷ (2, mark symbols.CloseArray) ∷ [])
      (one (codes "array") int)
      ≡ Some (Ok (reading (Atom 0 ∷ []) [] []))
  -- `#0=[||]`
  pub labelled_atom : judged
      ((0, mark symbols.Hash) ∷ (1, number false (pos 0) suffixes.Absent) ∷ (2, mark symbols.Equals)
      ∷ (3, mark symbols.OpenArray) ∷ (5, mark symbols.CloseArray) ∷ [])
      (one (codes "array") int)
      ≡ Some (Err (label_at 0))
  -- `[||]`
  pub variable : judged ((0, mark symbols.OpenArray) ∷ (2, mark symbols.CloseArray) ∷ [])
      (variable (codes "a"))
      ≡ Some (Err (mismatch_at 0 (variable (codes "a"))))
  -- `("a", "b")`
  pub two_objects : judged
      ((0, mark symbols.OpenParen) ∷ (1, kinds.Text (codes "a")) ∷ (4, mark symbols.Comma)
      ∷ (6, kinds.Text (codes "b")) ∷ (9, mark symbols.CloseParen) ∷ [])
      (pair (named (codes "string")) (named (codes "string")))
      ≡ Some
      (Ok
      (reading (Ref 0 ∷ [])
      (Block 0 (Ref 1 ∷ Ref 2 ∷ []) ∷ Bytes (97 ∷ []) ∷ Bytes (98 ∷ []) ∷ []) []))
  -- `Some(Some("a"))`
  pub nested : judged
      ((0, kinds.Upper (codes "Some")) ∷ (4, mark symbols.OpenParen)
      ∷ (5, kinds.Upper (codes "Some")) ∷ (9, mark symbols.OpenParen)
      ∷ (10, kinds.Text (codes "a")) ∷ (13, mark symbols.CloseParen)
      ∷ (14, mark symbols.CloseParen) ∷ [])
      (one (codes "option") (one (codes "option") (named (codes "string"))))
      ≡ Some
      (Ok
      (reading (Ref 0 ∷ [])
      (Block 0 (Ref 1 ∷ []) ∷ Block 0 (Ref 2 ∷ []) ∷ Bytes (97 ∷ []) ∷ []) []))
  -- `(#0="a", (#1="b", #0))`
  pub two_labels : judged
      ((0, mark symbols.OpenParen) ∷ (1, mark symbols.Hash)
      ∷ (2, number false (pos 0) suffixes.Absent) ∷ (3, mark symbols.Equals)
      ∷ (4, kinds.Text (codes "a")) ∷ (7, mark symbols.Comma) ∷ (9, mark symbols.OpenParen)
      ∷ (10, mark symbols.Hash) ∷ (11, number false (pos 1) suffixes.Absent)
      ∷ (12, mark symbols.Equals) ∷ (13, kinds.Text (codes "b")) ∷ (16, mark symbols.Comma)
      ∷ (18, mark symbols.Hash) ∷ (19, number false (pos 0) suffixes.Absent)
      ∷ (20, mark symbols.CloseParen) ∷ (21, mark symbols.CloseParen) ∷ [])
      (pair (named (codes "string")) (pair (named (codes "string")) (named (codes "string"))))
      ≡ Some
      (Ok
      (reading (Ref 0 ∷ [])
      (Block 0 (Ref 1 ∷ Ref 2 ∷ []) ∷ Bytes (97 ∷ []) ∷ Block 0 (Ref 3 ∷ Ref 1 ∷ [])
      ∷ Bytes (98 ∷ []) ∷ [])
      (1 ∷ 3 ∷ [])))
  -- `(#0="a", #0)`
  pub shared_string : judged
      ((0, mark symbols.OpenParen) ∷ (1, mark symbols.Hash)
      ∷ (2, number false (pos 0) suffixes.Absent) ∷ (3, mark symbols.Equals)
      ∷ (4, kinds.Text (codes "a")) ∷ (7, mark symbols.Comma) ∷ (9, mark symbols.Hash)
      ∷ (10, number false (pos 0) suffixes.Absent) ∷ (11, mark symbols.CloseParen) ∷ [])
      (pair (named (codes "string")) (named (codes "string")))
      ≡ Some
      (Ok (reading (Ref 0 ∷ []) (Block 0 (Ref 1 ∷ Ref 1 ∷ []) ∷ Bytes (97 ∷ []) ∷ []) (1 ∷ [])))
  -- `(#0=ref(0), #0)`
  pub another_type : judged
      ((0, mark symbols.OpenParen) ∷ (1, mark symbols.Hash)
      ∷ (2, number false (pos 0) suffixes.Absent) ∷ (3, mark symbols.Equals)
      ∷ (4, kinds.Lower (codes "ref")) ∷ (7, mark symbols.OpenParen)
      ∷ (8, number false (pos 0) suffixes.Absent) ∷ (9, mark symbols.CloseParen)
      ∷ (10, mark symbols.Comma) ∷ (12, mark symbols.Hash)
      ∷ (13, number false (pos 0) suffixes.Absent) ∷ (14, mark symbols.CloseParen) ∷ [])
      (pair (one (codes "ref") int) (one (codes "option") (named (codes "bool"))))
      ≡ Some
      (Ok
      (reading (Ref 0 ∷ []) (Block 0 (Ref 1 ∷ Ref 1 ∷ []) ∷ Block 0 (Int (pos 0) ∷ []) ∷ [])
      (1 ∷ [])))
  -- `(#0="a", #0="b")`
  pub label_twice : judged
      ((0, mark symbols.OpenParen) ∷ (1, mark symbols.Hash)
      ∷ (2, number false (pos 0) suffixes.Absent) ∷ (3, mark symbols.Equals)
      ∷ (4, kinds.Text (codes "a")) ∷ (7, mark symbols.Comma) ∷ (9, mark symbols.Hash)
      ∷ (10, number false (pos 0) suffixes.Absent) ∷ (11, mark symbols.Equals)
      ∷ (12, kinds.Text (codes "b")) ∷ (15, mark symbols.CloseParen) ∷ [])
      (pair (named (codes "string")) (named (codes "string")))
      ≡ Some (Err (label_at 9))
  -- `#0=4611686018427387904`
  pub labelled_range : judged
      ((0, mark symbols.Hash) ∷ (1, number false (pos 0) suffixes.Absent) ∷ (2, mark symbols.Equals)
      ∷ (3, number false (pos 4611686018427387904) suffixes.Absent) ∷ [])
      int
      ≡ Some (Err (int_range_at 3))
  -- `#1=true`
  pub number_before_form : judged
      ((0, mark symbols.Hash) ∷ (1, number false (pos 1) suffixes.Absent) ∷ (2, mark symbols.Equals)
      ∷ (3, kinds.Lower (codes "true")) ∷ [])
      int
      ≡ Some (Err (label_at 0))
  -- `::(1)`
  pub one_of_two : judged
      ((0, mark symbols.DoubleColon) ∷ (2, mark symbols.OpenParen)
      ∷ (3, number false (pos 1) suffixes.Absent) ∷ (4, mark symbols.CloseParen) ∷ [])
      (one (codes "list") int)
      ≡ Some (Err (mismatch_at 0 (one (codes "list") int)))
  -- `C(1, true, 2)`
  pub too_many : judged
      ((0, kinds.Upper (codes "C")) ∷ (1, mark symbols.OpenParen)
      ∷ (2, number false (pos 1) suffixes.Absent) ∷ (3, mark symbols.Comma)
      ∷ (5, kinds.Lower (codes "true")) ∷ (9, mark symbols.Comma)
      ∷ (11, number false (pos 2) suffixes.Absent) ∷ (12, mark symbols.CloseParen) ∷ [])
      (named (codes "v"))
      ≡ Some (Err (mismatch_at 0 (named (codes "v"))))
  -- ``On(1, 2)`
  pub tag_with_two : judged
      ((0, kinds.Tag (codes "On")) ∷ (3, mark symbols.OpenParen)
      ∷ (4, number false (pos 1) suffixes.Absent) ∷ (5, mark symbols.Comma)
      ∷ (7, number false (pos 2) suffixes.Absent) ∷ (8, mark symbols.CloseParen) ∷ [])
      (tag_of bracket (codes "On") int)
      ≡ Some (Err (mismatch_at 0 (tag_of bracket (codes "On") int)))
  -- ``On`
  pub tag_alone : judged ((0, kinds.Tag (codes "On")) ∷ []) (tag_of bracket (codes "On") int)
      ≡ Some (Err (mismatch_at 0 (tag_of bracket (codes "On") int)))
  -- `(1, 2)`
  pub tuple_for_record : judged
      ((0, mark symbols.OpenParen) ∷ (1, number false (pos 1) suffixes.Absent)
      ∷ (2, mark symbols.Comma) ∷ (4, number false (pos 2) suffixes.Absent)
      ∷ (5, mark symbols.CloseParen) ∷ [])
      (named (codes "r"))
      ≡ Some (Err (mismatch_at 0 (named (codes "r"))))
  -- `-4611686018427387904`
  pub least : judged ((0, number true (negsuc 4611686018427387903) suffixes.Absent) ∷ []) int
      ≡ Some (Ok (reading (Int (negsuc 4611686018427387903) ∷ []) [] []))
  -- `-2147483648l`
  pub least_int32 : judged ((0, number true (negsuc 2147483647) suffixes.Int32) ∷ [])
      (named (codes "int32"))
      ≡ Some (Ok (reading (Ref 0 ∷ []) (I32 (negsuc 2147483647) ∷ []) []))
  -- `{x = 1; y = true}`
  pub later_field : judged
      ((0, mark symbols.OpenBrace) ∷ (1, kinds.Lower (codes "x")) ∷ (3, mark symbols.Equals)
      ∷ (5, number false (pos 1) suffixes.Absent) ∷ (6, mark symbols.Semicolon)
      ∷ (8, kinds.Lower (codes "y")) ∷ (10, mark symbols.Equals)
      ∷ (12, kinds.Lower (codes "true")) ∷ (16, mark symbols.CloseBrace) ∷ [])
      (named (codes "r"))
      ≡ Some (Err (mismatch_at 12 int))
  -- `(#0=$0000000000000000, [|#0|])`
  pub used_in_floats : judged
      ((0, mark symbols.OpenParen) ∷ (1, mark symbols.Hash)
      ∷ (2, number false (pos 0) suffixes.Absent) ∷ (3, mark symbols.Equals)
      ∷ (4, kinds.Double 0) ∷ (21, mark symbols.Comma) ∷ (23, mark symbols.OpenArray)
      ∷ (25, mark symbols.Hash) ∷ (26, number false (pos 0) suffixes.Absent)
      ∷ (27, mark symbols.CloseArray) ∷ (29, mark symbols.CloseParen) ∷ [])
      (pair (named (codes "float")) (one (codes "array") (named (codes "float"))))
      ≡ Some (Err (mismatch_at 23 (one (codes "array") (named (codes "float")))))
  -- `{x = #0=$0000000000000000; y = $0000000000000000}`
  pub labelled_flat : judged
      ((0, mark symbols.OpenBrace) ∷ (1, kinds.Lower (codes "x")) ∷ (3, mark symbols.Equals)
      ∷ (5, mark symbols.Hash) ∷ (6, number false (pos 0) suffixes.Absent)
      ∷ (7, mark symbols.Equals) ∷ (8, kinds.Double 0) ∷ (25, mark symbols.Semicolon)
      ∷ (27, kinds.Lower (codes "y")) ∷ (29, mark symbols.Equals) ∷ (31, kinds.Double 0)
      ∷ (48, mark symbols.CloseBrace) ∷ [])
      (named (codes "f"))
      ≡ Some (Err (mismatch_at 0 (named (codes "f"))))
  -- `[|1|]`
  pub items_of_variable : judged
      ((0, mark symbols.OpenArray) ∷ (2, number false (pos 1) suffixes.Absent)
      ∷ (3, mark symbols.CloseArray) ∷ [])
      (one (codes "array") a_variable)
      ≡ Some (Err (mismatch_at 0 (one (codes "array") a_variable)))
  -- `[||]`
  pub none_of_variable : judged ((0, mark symbols.OpenArray) ∷ (2, mark symbols.CloseArray) ∷ [])
      (one (codes "array") a_variable)
      ≡ Some (Ok (reading (Atom 0 ∷ []) [] []))
