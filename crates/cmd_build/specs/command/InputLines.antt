-- The meaning of a line of the input at a declared type.
use Rattle.std.specs.Prelude.{ℕ, ◌≡◌, ◌≢◌, ◌⊎◌, Bool, if◌then◌else◌, Ok, Err, List, [], length}
use Rattle.base_data.specs.declared.model.value.Val.{Val}
use Rattle.base_data.specs.declared.model.value.Obj.{Obj}
use Rattle.types_lex.specs.declared.lexeme.Lexeme.{Lexeme}
use Rattle.types_lex.specs.declared.lexeme.LexFault.{LexFault}
use Rattle.types_lex.specs.LexText.{Lexes, Faults}
use Rattle.types_spec.specs.types.Equal.{declared_shapes}
use Rattle.types_spec.specs.types.Names.{names_of}
use Rattle.types_spec.specs.types.Shape.{shape}
use Rattle.types_spec.specs.types.Ty.{Ty}
use Rattle.types_spec.specs.types.TypeText.{type_text}
use Rattle.types_spec.specs.types.Typing.{HasType}
use Rattle.types_spec.specs.types.VerdictText.{IsNoLine}
use Rattle.types_theory.specs.type_variables.TypeVariables.{HasEachInstance}
use Rattle.marshal_spec.specs.format.Canonical.{canon}
use Rattle.marshal_spec.specs.format.Isomorphism.{IsTreeOf}
use Rattle.marshal_spec.specs.format.Tree.{Tree}
use Rattle.base_data.specs.lines.Lines.{position_on}
use Rattle.types_wellformed.specs.declarations.DeclarationFaultText.{lexer_text}
use Rattle.text_decimal.specs.declared.texts.decimals.Decimal.{Decimal}
use Rattle.text_decimal.specs.texts.PlainTexts.{decimals_in, plain_text, given_position}
use Rattle.edit_values.specs.EditedValues.{EditAnswer, IsLiteral, IsNoLiteral, IsMisread}
use Rattle.edit_values.specs.Reasons.{Reason, no_literal, misread, literal_text}
use Rattle.run_types.specs.Language.{TypeOver}
use Rattle.cmd_build.specs.spec.InputTexts.{Built, blank, made, refused, untyped}

module _ (t : TypeOver) where
  -- If the answer is a value, the lexemes are a literal at the type, and the literal's value has
  -- the given objects. If the answer is an error, the lexemes are no literal of the type, and the
  -- error is the first one. Positions are byte offsets, also the end of the text.
  abbrev pub AreText : List Lexeme → ℕ → EditAnswer Ty → Type 0
  AreText lexemes end (Ok built) =
      IsLiteral (shape t.decls) (names_of t.decls) t.type lexemes 0 built.0 built.1
  AreText lexemes end (Err (no_literal position)) =
      IsNoLiteral (shape t.decls) (names_of t.decls) lexemes end position
  AreText lexemes end (Err (misread refusal)) =
      IsMisread (shape t.decls) (names_of t.decls) t.type lexemes end 0 refusal
  AreText lexemes end (Err reason) = ⊥

  module _ (line : List ℕ) where
    -- The line has lexemes whose meaning is the answer `answer`.
    pub record IsText (answer : EditAnswer Ty) : Type 0 where
      pub lexemes : List Lexeme
      pub lexes : Lexes line lexemes
      pub some : lexemes ≢ []
      pub are : AreText lexemes (length line) answer

    -- The line denotes a value that has the type and each closed instance of the type, and `bytes`
    -- are the value's canonical bytes.
    pub record IsMade (bytes : List ℕ) : Type 0 where
      pub graph : List Obj
      pub root : Val
      pub is_text : IsText (Ok (graph, root))
      pub has : HasType (declared_shapes t.decls) graph root t.type
      pub each : HasEachInstance t.decls graph root t.type
      pub tree : Tree
      pub of : IsTreeOf graph root tree
      pub are : bytes ≡ canon tree

    -- The line denotes a value that lacks the type and some closed instance of the type, and
    -- `fault` is the output line of the first fault.
    pub record IsUntyped (fault : List ℕ) : Type 0 where
      pub graph : List Obj
      pub root : Val
      pub is_text : IsText (Ok (graph, root))
      pub why : IsNoLine (declared_shapes t.decls) type_text graph root t.type fault
      pub some_not : ¬ HasEachInstance t.decls graph root t.type

    -- The line has a lexical error, or its lexemes are no literal of the type. The error text
    -- depends on the line number and on the form of positions.
    abbrev pub IsRefused : (known : ℕ → ℕ → List ℕ) → (ℕ → List ℕ) → Type 0
    IsRefused known refusal =
        ((fault : LexFault) × Faults line fault
        × (refusal ≡ λ number. lexer_text (known number) fault))
        ⊎ ((reason : Reason Ty) × IsText (Err reason)
        × (refusal ≡ λ number. literal_text type_text (known number) reason))

-- The meaning of a line without decimals, where `known` is the form of positions.
abbrev pub plain_texts : TypeOver → (known : ℕ → ℕ → List ℕ) → List ℕ → Built → Type 0
plain_texts t known line blank = Lexes line []
plain_texts t known line (made bytes) = IsMade t line bytes
plain_texts t known line (refused refusal) = IsRefused t line known refusal
plain_texts t known line (untyped fault) = IsUntyped t line fault

-- ---- decimals

-- The decimals of a line, if decimals may denote doubles.
abbrev pub decimals_if : Bool → List ℕ → List Decimal
decimals_if decimal line = if decimal then decimals_in line else []

abbrev pub plain_if : Bool → List ℕ → List ℕ
plain_if decimal line = if decimal then plain_text line else line

-- The text of a position in the plain text, reported as a position in the line with the given
-- decimals and number.
abbrev pub known_on : (lines : Bool) → List Decimal → (number : ℕ) → ℕ → List ℕ
known_on lines decimals number =
    λ position. position_on lines number (given_position decimals position)

-- The meaning of a line of the input, in which decimals may occur.
abbrev pub declared_texts : TypeOver → List ℕ → Built → Type 0
declared_texts t line built =
    plain_texts t (known_on t.lines (decimals_if t.decimal line)) (plain_if t.decimal line) built
