-- The result of the code for a line: a value or an error, and bytes or an error.
use Rattle.std.proofs.Common.{ℕ, ◌≡◌, ◌+◌, Bool, false, List, length, Option, Some, None, Result, Ok, Err, inl, inr, refl, sym, ap, ◌∙◌, subst}
use Rattle.std.specs.Prelude.{IfOk, IsErrAnd}
use Rattle.base_data.specs.declared.model.out_of_memory.Memory.{Memory}
use Rattle.base_data.specs.declared.model.value.Val.{Val}
use Rattle.base_data.specs.declared.model.value.Obj.{Obj}
use Rattle.marshal_spec.specs.format.Canonical.{canon}
use Rattle.marshal_spec.specs.format.Isomorphism.{IsTreeOf}
use Rattle.marshal_spec.specs.format.Compat.{TooLargeFor32, too_large_for_32}
use Rattle.marshal_spec.specs.format.Tree.{Tree}
use Rattle.types_spec.specs.types.TypeText.{type_text}
use Rattle.types_table.specs.declared.type_table.tabled.Tabled.{Tabled}
use Rattle.types_lex.specs.declared.lexeme.LexFault.TheVariants as lexer
use Rattle.text_literal.specs.declared.parser.literal_fault.LiteralFault.TheVariants as literals
use Rattle.base_data.specs.lines.Lines.{position_on}
use Rattle.text_decimal.specs.declared.texts.decimals.Decimal.{Decimal}
use Rattle.types_wellformed.specs.declarations.DeclarationFaultText.{lexer_text}
use Rattle.edit_values.specs.Reasons.{literal_text}
use Rattle.cli_spec.specs.Outcome.{Unedited}
use Rattle.cli_spec.specs.declared.exit.Exit.TheVariants.{Text as text_line, Memory as out_of_memory}
use Rattle.base_io.specs.StreamState.{ByteState, Change, change}
use Rattle.run_spec.proofs.runs.RunWriteLemmas.{writes_nothing}
use Rattle.cli_errors.specs.declared.exit_line.Error.{Error}
use Rattle.cli_errors.specs.declared.exit_line.Error.TheVariants as aborts
use Rattle.text_roundtrip.specs.declared.text_lines.text_reader.TextFault.{TextFault}
use Rattle.text_roundtrip.specs.declared.text_lines.text_reader.TextFault.TheVariants as faults
use Rattle.text_roundtrip.specs.text_lines.TextAnswers.{ReadsText}
use Rattle.run_types.specs.ValueBytes.{WritesBytes}
use Rattle.run_types.specs.Checked.{ChecksType}
use Rattle.run_types.specs.Language.{TypeOver, bytes_for, AreBytesOf}
use Rattle.run_types.specs.RequestedTexts.{type_over, IsReady}
use Rattle.run_types.specs.declared.requested.Prepared.{Prepared}
use Rattle.cmd_build.specs.spec.InputTexts.{made, refused, untyped, write_bytes}
use Rattle.cmd_build.specs.command.GivenLines.{given_fault}
use Rattle.cmd_build.specs.command.InputLines.{IsText, IsMade, plain_texts, decimals_if, plain_if, known_on}
use Rattle.cmd_build.specs.command.LineSteps.{IsFaultText, ReadsLine, AbortsBy, WritesValue, WritesBy, WritesLine}
use Rattle.cmd_build.proofs.command.BuildAgreeLemmas.{value_agree, fault_agree}

module _ (r : Prepared) (ready : IsReady r) (known : ℕ → ℕ → List ℕ) (line : List ℕ)
    (new : List Obj) where
  -- ---- parsing

  pub line_read :
      (number : ℕ) (value : Option Val) → ReadsText r.table line new (Ok value)
      → ReadsLine (type_over r) known line number new (Ok value)
  line_read number None (none, is) = is
  line_read number (Some root) (valid, (lexemes, lexes, some, are)) = (
    valid,
    record {
      lexemes = lexemes;
      lexes = lexes;
      some = some;
      are = value_agree (type_over r) r.table ready.made lexemes (length line) (new, root) are;
    },
  )

  -- If parsing reports an error, then the line is refused with the text of the error.
  pub line_refused :
      (number : ℕ) (fault : TextFault) (text : List ℕ)
      → IsFaultText r.table (known number) fault text
      → ReadsText r.table line new (Err fault)
      → (refusal : ℕ → List ℕ) × plain_texts (type_over r) known line (refused refusal)
      × (text ≡ refusal number)
  line_refused number (faults.Lex fault) text encoded (none, is) =
      (λ n. lexer_text (known n) fault, inl (fault, is, refl), encoded)
  line_refused number (faults.Literal fault) text encoded (none, (lexemes, lexes, full, is)) =
      let reason = fault_agree (type_over r) r.table ready.made lexemes (length line) fault is in (
        λ n. literal_text type_text (known n) reason.0,
        inr (
          reason.0,
          record { lexemes = lexemes; lexes = lexes; some = full; are = reason.1 },
          refl,
        ),
        encoded ∙ reason.2 (known number),
      )
  line_refused number faults.Memory text encoded is = absurd encoded

  pub line_exits :
      (number : ℕ) (fault : TextFault) (text : List ℕ)
      → IsFaultText r.table (known number) fault text
      → ReadsText r.table line new (Err fault)
      → ReadsLine (type_over r) known line number new (Err (aborts.Exit (text_line number text)))
  line_exits number fault text encoded reads =
      let why = line_refused number fault text encoded reads in
      inr (why.0, why.1, ap (λ t. text_line number t) why.2)

-- The text of a mapped error equals the text of the error with mapped positions.
pub known_moved :
    (table : Tabled) (lines : Bool) (decimals : List Decimal) (number : ℕ) (fault : TextFault)
    (result : Result (List ℕ) Memory)
    → IfOk result (IsFaultText table (position_on lines number) (given_fault decimals fault))
    → IfOk result (IsFaultText table (known_on lines decimals number) fault)
known_moved table lines decimals number fault (Err e) is = tt
known_moved table lines decimals number (faults.Lex (lexer.BadByte p)) (Ok text) is = is
known_moved table lines decimals number (faults.Lex (lexer.OpenString p)) (Ok text) is = is
known_moved table lines decimals number (faults.Lex (lexer.OpenComment p)) (Ok text) is = is
known_moved table lines decimals number (faults.Lex (lexer.TooBig p)) (Ok text) is = is
known_moved table lines decimals number (faults.Lex lexer.Memory) (Ok text) is = is
known_moved table lines decimals number (faults.Literal (literals.Syntax p)) (Ok text) is = is
known_moved table lines decimals number (faults.Literal (literals.Mismatch p i)) (Ok text) is = is
known_moved table lines decimals number (faults.Literal (literals.IntRange p)) (Ok text) is = is
known_moved table lines decimals number (faults.Literal (literals.Label p)) (Ok text) is = is
known_moved table lines decimals number (faults.Literal literals.Memory) (Ok text) is = is
known_moved table lines decimals number faults.Memory (Ok text) is = is

-- ---- the output

plain_bytes : (tree : Tree) (large : Option TooLargeFor32) → bytes_for false tree large ≡ Ok (canon tree)
plain_bytes tree None = refl
plain_bytes tree (Some large) = refl

-- The bytes of a value are the canonical bytes, independently of the reader.
pub bytes_plain :
    (graph : List Obj) (root : Val) (bytes : List ℕ) → AreBytesOf false graph root (Ok bytes)
    → (tree : Tree) × IsTreeOf graph root tree × (bytes ≡ canon tree)
bytes_plain graph root bytes (tree, of, is) =
    let e : ◌≡◌ {A = Result (List ℕ) Unedited} (Ok bytes) (Ok (canon tree)) =
    is ∙ plain_bytes tree (too_large_for_32 tree) in
    (tree, of, cc e)

pub never_none :
    (graph : List Obj) (root : Val) (why : Unedited) → AreBytesOf false graph root (Err why) → ⊥
never_none graph root why (tree, of, is) =
    let e : ◌≡◌ {A = Result (List ℕ) Unedited} (Err why) (Ok (canon tree)) =
    is ∙ plain_bytes tree (too_large_for_32 tree) in cc e

module _ (r : Prepared) (k : ℕ) (graph : List Obj) (root : Val) where
  -- If the check of a value fails, then the value lacks the type, or memory ran out.
  pub check_aborts :
      (known : ℕ → ℕ → List ℕ) (line : List ℕ) (number : ℕ)
      → IsText (type_over r) line (Ok (graph, root))
      → (out : ByteState) (error : Error) (result : Result (Unit {0}) Error)
      → IsErrAnd result (λ h. h ≡ error)
      → ChecksType {U = Unit {0}} r k graph root (Err error)
      → WritesValue (plain_texts (type_over r) known line) number k (change out out) result
  check_aborts known line number text out error (Ok unit) is c = absurd is
  check_aborts known line number text out error (Err h) is c =
      subst (AbortsBy (plain_texts (type_over r) known line) number k (change out out)) (sym is)
      (at error c) where
        at : (error : Error) → ChecksType {U = Unit {0}} r k graph root (Err error)
            → AbortsBy (plain_texts (type_over r) known line) number k (change out out) error
        at aborts.WriteFault never = absurd never
        at (aborts.Exit exit) (inl memory) = (inl memory, writes_nothing out)
        at (aborts.Exit exit) (inr (text', why, some_not, encoded)) = (
          inr (
            untyped text',
            record { graph = graph; root = root; is_text = text; why = why; some_not = some_not },
            encoded,
          ),
          writes_nothing out,
        )

  pub value_writes :
      (known : ℕ → ℕ → List ℕ) (line : List ℕ) (number : ℕ)
      → IsText (type_over r) line (Ok (graph, root))
      → ChecksType {U = Unit {0}} r k graph root (Ok tt)
      → (out : Change ByteState) (result : Result (Unit {0}) Error)
      → WritesBytes false k graph root out result
      → WritesValue (plain_texts (type_over r) known line) number k out result
  value_writes known line number text has out (Ok unit) (bytes, are, write) =
      (bytes, is_made bytes are, write) where
        is_made : (bytes : List ℕ) → AreBytesOf false graph root (Ok bytes)
            → IsMade (type_over r) line bytes
        is_made bytes are =
            let b = bytes_plain graph root bytes are in record {
              graph = graph;
              root = root;
              is_text = text;
              has = has.0;
              each = has.1;
              tree = b.0;
              of = b.1;
              are = b.2;
            }
  value_writes known line number text has out (Err (aborts.Exit exit)) (inl memory, write) = (inl memory, write)
  value_writes known line number text has out (Err (aborts.Exit exit)) (inr (why, none, encoded), write) =
      absurd (never_none graph root why none)
  value_writes known line number text has out (Err aborts.WriteFault) (bytes, are, part) =
      let b = bytes_plain graph root bytes are in (
        made bytes,
        record {
          graph = graph;
          root = root;
          is_text = text;
          has = has.0;
          each = has.1;
          tree = b.0;
          of = b.1;
          are = b.2;
        },
        write_bytes bytes,
        refl,
        part,
      )

-- ---- a line

module _ (r : Prepared) (known : ℕ → ℕ → List ℕ) (line : List ℕ) (number k : ℕ) where
  -- If a step fails, then `?` propagates the error of the step.
  pub line_aborts :
      (out : Change ByteState) (error : Error) (result : Result ℕ Error)
      → IsErrAnd result (λ h. h ≡ error)
      → AbortsBy (plain_texts (type_over r) known line) number k out error
      → WritesBy (plain_texts (type_over r) known line) number k out result
  line_aborts out error (Ok texts) is h = absurd is
  line_aborts out error (Err e) is h =
      subst (AbortsBy (plain_texts (type_over r) known line) number k out) (sym is) h

  -- If parsing a line fails, then the error ends the run.
  pub read_aborts :
      (new : List Obj) (out : ByteState) (error : Error)
      → ReadsLine (type_over r) known line number new (Err error)
      → AbortsBy (plain_texts (type_over r) known line) number k (change out out) error
  read_aborts new out aborts.WriteFault never = absurd never
  read_aborts new out (aborts.Exit exit) (inl memory) = (inl memory, writes_nothing out)
  read_aborts new out (aborts.Exit exit) (inr (refusal, is, encoded)) =
      (inr (refused refusal, is, encoded), writes_nothing out)

  pub value_counts :
      (out : Change ByteState)
      → WritesValue {U = Unit {0}} (plain_texts (type_over r) known line) number k out (Ok tt)
      → WritesBy (plain_texts (type_over r) known line) number k out (Ok (k + 1))
  value_counts out (bytes, is, write) = (made bytes, is, write_bytes bytes, refl, write, refl)

  -- If memory runs out, nothing is written.
  pub memory_aborts :
      (out : ByteState) → AbortsBy (plain_texts (type_over r) known line) number k (change out out)
      (aborts.Exit out_of_memory)
  memory_aborts out = (inl refl, writes_nothing out)

-- ---- decimals

module _ (t : TypeOver) (line : List ℕ) (number k : ℕ) (out : Change ByteState)
    (result : Result ℕ Error) where
  -- The meaning of a line is the meaning of the line's plain text, with or without decimals.
  pub line_written :
      (decimal : Bool) → t.decimal ≡ decimal
      → WritesBy (plain_texts t (known_on t.lines (decimals_if decimal line)) (plain_if decimal line))
      number k out result
      → WritesLine t line number k out result
  line_written decimal is writes =
      subst (λ b. WritesBy (plain_texts t (known_on t.lines (decimals_if b line)) (plain_if b line))
      number k out result) (sym is) writes
