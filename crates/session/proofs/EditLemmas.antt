-- Editing a value: the type, the lines, and the bytes.
use Rattle.std.proofs.Common.{◌≡◌, ◌∙◌, ◌==◌, ◌≢◌, ℕ, Bool, true, false, cond, List, [], ◌∷◌, length, Option, None, Some, Result, Ok, Err, inl, inr, refl, sym, ap, subst, eq-eqb}
use Rattle.std.specs.Prelude.{filter, IsErrAnd, OnOk, option_map, if◌then◌else◌, codes}
use Rattle.base_data.specs.declared.model.value.Val.{Val}
use Rattle.base_data.specs.declared.model.value.Obj.{Obj}
use Rattle.base_data.specs.model.Graph.{IsValue}
use Rattle.types_spec.specs.types.Ty.{Ty}
use Rattle.types_spec.specs.types.TypeText.{type_text}
use Rattle.check_fault.specs.FaultText.{text_at}
use Rattle.marshal_spec.specs.format.Tree.{Tree}
use Rattle.base_io.specs.StreamState.{ByteState, Change, change}
use Rattle.edit_values.specs.EditedValues.{EditAnswer, Edited}
use Rattle.edit_values.specs.Grafts.{Other}
use Rattle.edit_values.specs.Laws.{SayTheSame}
use Rattle.edit_values.specs.LineLaws.{IsDeclaredLine, IsLineAnswerIn, IsLineApplied, IsLineRefusedFor, TablesAnswerLinesAgree}
use Rattle.base_data.specs.lines.Lines.{position_on}
use Rattle.edit_values.specs.Reasons.{Reason, no_field, no_literal, misread, ill_typed, reason_text, reason_or_none, literal_reason, reason_of}
use Rattle.edit_values.specs.declared.edit_refusal.EditRefusal.{EditRefusal}
use Rattle.edit_values.specs.declared.edit_refusal.EditRefusal.TheVariants as refusals
use Rattle.edit_values.specs.declared.edit_refusal.EditSide.{EditSide}
use Rattle.types_spec.specs.declared.types.fault.Fault.{Fault}
use Rattle.text_literal.specs.parser.LiteralReading.{mismatch_at, int_range_at, label_at}
use Rattle.text_literal.specs.declared.parser.literal_fault.LiteralFault.{LiteralFault}
use Rattle.text_literal.specs.declared.parser.literal_fault.LiteralFault.TheVariants as literals
use Rattle.text_path.specs.declared.edits.ScriptLine.{ScriptLine}
use Rattle.marshal_read.specs.declared.returned_value.Value.{Value}
use Rattle.cli_spec.specs.Outcome.{Unedited, untyped, refused_line, line_past, outputs, nothing_output, ends_script}
use Rattle.cli_spec.specs.Outcome as outcome
use Rattle.cli_spec.specs.declared.exit.Exit.{Exit}
use Rattle.cli_spec.specs.declared.exit.Exit.TheVariants.{Script as script_line}
use Rattle.session.specs.declared.edit_lines.Edits.{Edits}
use Rattle.cli_errors.specs.declared.exit_line.Error.{Error}
use Rattle.cli_errors.specs.declared.exit_line.Error.TheVariants as aborts
use Rattle.cli_errors.specs.Exits.{IsOrMemory}
use Rattle.run_types.specs.declared.requested.Prepared.{Prepared}
use Rattle.session.specs.Edits.{Edit, EditsOn, IsReasonExit, IsRefusedLine, EditsLine, EditsAll, EditsLines, WritesEdited, AnswersOf, IsPast}
use Rattle.run_types.specs.Language.{declared_types, AreBytesOf, lines_of_value}
use Rattle.run_types.specs.RequestedTexts.{IsReady}
use Rattle.session.specs.InputValues.{EndsScript}
use Rattle.run_spec.proofs.runs.RunWriteLemmas.{writes_nothing}
use Rattle.run_types.specs.Checked.{ChecksType}
use Rattle.run_types.specs.ValueBytes.{WritesBytes}

-- ---- lines

module _ (r : Prepared) (others : List Other) (k : ℕ) (line : ScriptLine) where
  -- A line whose value is `k` is one of the lines that edit value `k`.

  module _ (ready : IsReady r) (agree : TablesAnswerLinesAgree) (own : line.value ≡ k) (old : Value) where
    own_line : (rest : List ScriptLine) (all : Edited Ty) → Edit r others (line ∷ lines_of_value k rest) old.heap old.root all → Edit r others (lines_of_value k (line ∷ rest)) old.heap old.root all
    own_line rest all edits = subst (λ b. Edit r others (if b then line ∷ lines_of_value k rest else lines_of_value k rest) old.heap old.root all) (sym (eq-eqb line.value k own)) edits

    -- The result of an edit by the table is the result of the edit at the type.
    pub line_applied : (new : Value) → IsValue (length new.heap) new.root → IsLineApplied r.table others line.action old.heap old.root new.heap new.root (Ok tt) → EditsOn r others k line old new
    line_applied new valid applied = at (agree r.decls r.ty r.table ready.made others line.action old.heap old.root (Ok (new.heap, new.root)) applied) where
      at : (other : EditAnswer Ty) × IsDeclaredLine r.decls r.ty others line.action old.heap old.root other × SayTheSame r.table (Ok (new.heap, new.root)) other → EditsOn r others k line old new
      at (Err reason, is, never) = absurd never
      at (Ok edited, is, same) = record {
        valid = valid;
        goes_on = λ rest all edits. own_line rest all (Ok edited, is, subst (λ (e : List Obj × Val). Edit r others (lines_of_value k rest) e.0 e.1 all) same edits);
      }

    pub line_refused : (reason : Reason ℕ) (exit : Exit) → exit ≡ script_line line.number (reason_text (text_at r.table) (position_on r.lines line.number) reason) → IsLineAnswerIn r.table others line.action old.heap old.root (Err reason)
        → IsRefusedLine r others k line old exit
    line_refused reason exit known is = at (agree r.decls r.ty r.table ready.made others line.action old.heap old.root (Err reason) is) where
      at : (other : EditAnswer Ty) × IsDeclaredLine r.decls r.ty others line.action old.heap old.root other × SayTheSame r.table (Err reason) other → IsRefusedLine r others k line old exit
      at (Ok edited, is, never) = absurd never
      at (Err other, is, same) = (
        other,
        (λ rest. own_line rest (Err (line.number, other)) (Err other, is, refl)),
        known ∙ ap (λ t. script_line line.number t) (same (position_on r.lines line.number)),
      )

    -- If a line is refused, then the exit reason states the reason of the refusal.
    pub refused_by : (new : Value) (refusal : EditRefusal) (exit : Exit) → IsReasonExit r line.number (reason_of refusal) exit → IsLineApplied r.table others line.action old.heap old.root new.heap new.root (Err refusal)
        → IsRefusedLine r others k line old exit
    refused_by new refusal exit known (same, same_root, is) = at (reason_of refusal) known is where
      at : (reason : Option (Reason ℕ)) → IsReasonExit r line.number reason exit → IsLineRefusedFor r.table others line.action old.heap old.root reason → IsRefusedLine r others k line old exit
      at None known is = absurd known
      at (Some reason) known is = line_refused reason exit known is

-- If the error of a literal is not out of memory, then the error has a reason.
pub literal_known : (fault : LiteralFault) → fault ≢ literals.Memory → (reason : Reason ℕ) × (literal_reason fault ≡ Some reason)
literal_known (literals.Syntax position) some = (no_literal position, refl)
literal_known (literals.Mismatch position t) some = (misread (mismatch_at position t), refl)
literal_known (literals.IntRange position) some = (misread (int_range_at position), refl)
literal_known (literals.Label position) some = (misread (label_at position), refl)
literal_known literals.Memory some = absurd (some refl)

-- A missing step and a value that would lose its type have reasons.
pub step_known : (refusal : EditRefusal) (side : EditSide) (step : ℕ) → refusal ≡ refusals.NoField side step → (reason : Reason ℕ) × (reason_of refusal ≡ Some reason)
step_known refusal side step is = (no_field side step, ap reason_of is)

pub type_known : (refusal : EditRefusal) (fault : Fault) → refusal ≡ refusals.IllTyped fault → (reason : Reason ℕ) × (reason_of refusal ≡ Some reason)
type_known refusal fault is = (ill_typed fault, ap reason_of is)

-- If a refusal is not out of memory, then the exit reason states the reason of the refusal.
pub reason_exit : (r : Prepared) (number : ℕ) (refusal : EditRefusal) (text : List ℕ) → (reason : Reason ℕ) × (reason_of refusal ≡ Some reason) → text ≡ reason_or_none (text_at r.table) (position_on r.lines number) (reason_of refusal)
    → IsReasonExit r number (reason_of refusal) (script_line number text)
reason_exit r number refusal text (reason, is) encoded = at (reason_of refusal) is encoded where
  at : (known : Option (Reason ℕ)) → known ≡ Some reason → text ≡ reason_or_none (text_at r.table) (position_on r.lines number) known → IsReasonExit r number known (script_line number text)
  at None is encoded = absurd (cc is)
  at (Some other) is encoded = ap (λ t. script_line number t) encoded

-- The result of the lines applied up to now leads to the result of all lines.
pub record EditedSoFar (r : Prepared) (others : List Other) (k : ℕ) (lines rest : List ScriptLine) (old value : Value) : Type 0 where
  pub valid : IsValue (length value.heap) value.root
  pub goes_on : (all : Edited Ty) → Edit r others (lines_of_value k rest) value.heap value.root all → Edit r others (lines_of_value k lines) old.heap old.root all

-- Filtering a list twice gives the result of filtering the list once.
same_kept : {X : Type 0} (test : X → Bool) (xs : List X) → filter test (filter test xs) ≡ filter test xs
same_kept test [] = refl
same_kept test (x ∷ xs) = at (same_kept test xs) (test x) refl where
  at : filter test (filter test xs) ≡ filter test xs → (b : Bool) → test x ≡ b → filter test (cond b (x ∷ filter test xs) (filter test xs)) ≡ cond b (x ∷ filter test xs) (filter test xs)
  at rest true is = rw is (ap (λ l. x ∷ l) rest)
  at rest false is = rest

module _ (r : Prepared) (others : List Other) (k : ℕ) (lines : List ScriptLine) (old : Value) where
  -- Only the lines of a value edit the value.
  pub edits_begin : IsValue (length old.heap) old.root → (own : List ScriptLine) → own ≡ lines_of_value k lines → EditedSoFar r others k lines own old old
  edits_begin valid own are = record {
    valid = valid;
    goes_on = λ all edits. subst (λ l. Edit r others l old.heap old.root all) (ap (lines_of_value k) are ∙ same_kept (λ line. line.value == k) lines) edits;
  }

  module _ (rest : List ScriptLine) (value : Value) (s : EditedSoFar r others k lines rest old value) (line : ScriptLine) (more : List ScriptLine) (is : rest ≡ line ∷ more) where
    pub edits_more : (new : Value) → EditsOn r others k line value new → EditedSoFar r others k lines more old new
    edits_more new e = record {
      valid = e.valid;
      goes_on = λ all edits. s.goes_on all (subst (λ l. Edit r others (lines_of_value k l) value.heap value.root all) (sym is) (e.goes_on more all edits));
    }

    pub edits_error : (new : Value) (error : Error) (result : Result (Unit {0}) Error) → IsErrAnd result (λ h. h ≡ error) → EditsLine {U = Unit {0}} r others k line value new (Err error) → EditsLines r others k lines old new result
    edits_error new error (Ok unit) same e = absurd same
    edits_error new error (Err h) same e = subst (λ h. EditsLines {U = Unit {0}} r others k lines old new (Err h)) (sym same) (at error e) where
      at : (error : Error) → EditsLine {U = Unit {0}} r others k line value new (Err error) → EditsLines {U = Unit {0}} r others k lines old new (Err error)
      at aborts.WriteFault never = never
      at (aborts.Exit exit) (inl memory) = inl memory
      at (aborts.Exit exit) (inr (reason, refused, known)) =
          inr (line.number, reason, s.goes_on (Err (line.number, reason)) (subst (λ l. Edit r others (lines_of_value k l) value.heap value.root (Err (line.number, reason))) (sym is) (refused more)), known)

  pub edits_end : (rest : List ScriptLine) (value : Value) → EditedSoFar r others k lines rest old value → rest ≡ [] → EditsAll r others k lines old value
  edits_end rest value s none = record {
    valid = s.valid;
    made = s.goes_on (Ok (value.heap, value.root)) (subst (λ l. Edit r others (lines_of_value k l) value.heap value.root (Ok (value.heap, value.root))) (sym none) refl);
  }

-- ---- the value

module _ (e : Edits) (others : List Other) (k : ℕ) (old : Value) where
  -- If the value lacks the type, or memory ran out, then nothing is written.
  pub checked_error : (out : ByteState) (error : Error) (result : Result (Unit {0}) Error) → IsErrAnd result (λ h. h ≡ error) → ChecksType {U = Unit {0}} e.requested.now k old.heap old.root (Err error)
      → WritesEdited e others k old.heap old.root (change out out) result
  checked_error out error (Ok unit) is c = absurd is
  checked_error out error (Err h) is c = subst (λ h. WritesEdited {U = Unit {0}} e others k old.heap old.root (change out out) (Err h)) (sym is) (at error c) where
    at : (error : Error) → ChecksType {U = Unit {0}} e.requested.now k old.heap old.root (Err error) → WritesEdited {U = Unit {0}} e others k old.heap old.root (change out out) (Err error)
    at aborts.WriteFault never = absurd never
    at (aborts.Exit exit) (inl memory) = (inl memory, writes_nothing out)
    at (aborts.Exit exit) (inr (text, why, some_not, known)) = (inr (untyped text, inr (record { text = text; why = why; some_not = some_not; is = refl }), known), writes_nothing out)

  module _ (has : ChecksType {U = Unit {0}} e.requested.now k old.heap old.root (Ok tt)) where
    -- If a line is refused, or memory ran out, then nothing is written.
    pub lines_error : (new : Value) (out : ByteState) (error : Error) (result : Result (Unit {0}) Error) → IsErrAnd result (λ h. h ≡ error) → EditsLines {U = Unit {0}} e.requested.now others k e.script.now.lines old new (Err error)
        → WritesEdited e others k old.heap old.root (change out out) result
    lines_error new out error (Ok unit) is l = absurd is
    lines_error new out error (Err h) is l = subst (λ h. WritesEdited {U = Unit {0}} e others k old.heap old.root (change out out) (Err h)) (sym is) (at error l) where
      at : (error : Error) → EditsLines {U = Unit {0}} e.requested.now others k e.script.now.lines old new (Err error) → WritesEdited {U = Unit {0}} e others k old.heap old.root (change out out) (Err error)
      at aborts.WriteFault never = absurd never
      at (aborts.Exit exit) (inl memory) = (inl memory, writes_nothing out)
      at (aborts.Exit exit) (inr (number, reason, refused, known)) =
          (inr (refused_line number (reason_text type_text (position_on e.requested.now.lines number) reason), inl (record { has = has.0; each = has.1; edited = Err (number, reason); made = refused; bytes = refl }), known), writes_nothing out)

    -- The result of the lines is written.
    pub edited_writes : (new : Value) → EditsAll e.requested.now others k e.script.now.lines old new → (out : Change ByteState) (result : Result (Unit {0}) Error) → WritesBytes e.compat k new.heap new.root out result
        → WritesEdited e others k old.heap old.root out result
    edited_writes new all out result p = at result p where
      lifted : (answer : Result (List ℕ) Unedited) → AreBytesOf e.compat new.heap new.root answer → AnswersOf e others k old.heap old.root answer
      lifted answer bytes = inl (record { has = has.0; each = has.1; edited = Ok (new.heap, new.root); made = all.made; bytes = bytes })

      at : (result : Result (Unit {0}) Error) → WritesBytes e.compat k new.heap new.root out result → WritesEdited e others k old.heap old.root out result
      at (Ok unit) (bytes, are, write) = (bytes, lifted (Ok bytes) are, write)
      at (Err (aborts.Exit exit)) (inl memory, none) = (inl memory, none)
      at (Err (aborts.Exit exit)) (inr (why, is, known), none) = (inr (why, lifted (Err why) is, known), none)
      at (Err aborts.WriteFault) (bytes, are, part) = (bytes, lifted (Ok bytes) are, part)

-- If a statement holds, then the statement holds whenever the result is `Ok`.
pub made_where_written : {P : Type 0} (result : Result (Unit {0}) Error) → P → OnOk result P
made_where_written (Ok unit) made = made
made_where_written (Err error) made = tt

-- ---- the end

module _ (e : Edits) (trees : List Tree) (ok : Bool) (n : ℕ) (counted : n ≡ length trees) (lines : List ScriptLine) (are : lines ≡ e.script.now.lines) where
  past_is : (number : Option ℕ) → IsPast lines n number → number ≡ option_map (λ line. line.number) (line_past declared_types e.script.now.lines (length trees))
  past_is number is = is ∙ (ap (λ m. option_map (λ (line : ScriptLine). line.number) (line_past declared_types lines m)) counted ∙ ap (λ l. option_map (λ (line : ScriptLine). line.number) (line_past declared_types l (length trees))) are)

  pub script_ended : IsPast lines n None → EndsScript e trees ok (Ok ok)
  script_ended is = (at (line_past declared_types e.script.now.lines (length trees)) refl (past_is None is), refl) where
    at : (line : Option ScriptLine) → line_past declared_types e.script.now.lines (length trees) ≡ line → None ≡ option_map (λ line. line.number) (line_past declared_types e.script.now.lines (length trees))
        → outputs nothing_output ≡ ends_script declared_types (line_past declared_types e.script.now.lines (length trees))
    at None same none = sym (ap (ends_script declared_types) same)
    at (Some line) same none = let no : ◌≡◌ {A = Option ℕ} None (Some line.number) = none ∙ ap (option_map (λ line. line.number)) same in absurd (cc no)

  pub script_past : (number : ℕ) → IsPast lines n (Some number) → (exit : Exit) → IsOrMemory (script_line number (codes "NoValue")) exit → EndsScript e trees ok (Err (aborts.Exit exit))
  script_past number is exit (inr memory) = inr memory
  script_past number is exit (inl known) =
      inl (ap (λ s. outcome.exits s) known ∙ at (line_past declared_types e.script.now.lines (length trees)) refl (past_is (Some number) is)) where
        at : (line : Option ScriptLine) → line_past declared_types e.script.now.lines (length trees) ≡ line → Some number ≡ option_map (λ line. line.number) (line_past declared_types e.script.now.lines (length trees))
            → outcome.exits (script_line number (codes "NoValue")) ≡ ends_script declared_types (line_past declared_types e.script.now.lines (length trees))
        at None same none = let no : ◌≡◌ {A = Option ℕ} (Some number) None = none ∙ ap (option_map (λ line. line.number)) same in absurd (cc no)
        at (Some line) same some =
            let known : ◌≡◌ {A = Option ℕ} (Some number) (Some line.number) = some ∙ ap (option_map (λ line. line.number)) same in
            let is : number ≡ line.number = cc known in
            ap (λ m. outcome.exits (script_line m (codes "NoValue"))) is ∙ sym (ap (ends_script declared_types) same)
