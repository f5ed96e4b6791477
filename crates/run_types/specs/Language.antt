-- The language of declared types: FILE contains declarations, TYPE is a type over them, and SCRIPT
-- is a list of edits.
use Rattle.std.specs.Prelude.{ℕ, ◌≤◌, ◌≡◌, ◌==◌, ◌≢◌, ◌⊎◌, Bool, true, false, if◌then◌else◌, List}
use Rattle.std.specs.Prelude.{[], ◌∷◌, ◌++◌, length, filter, Option, Some, None, option_map, Result}
use Rattle.std.specs.Prelude.{Ok, Err, codes}
use Rattle.base_data.specs.declared.model.value.Val.{Val}
use Rattle.base_data.specs.declared.model.value.Obj.{Obj}
use Rattle.types_spec.specs.declared.types.decl.Decl.{Decl}
use Rattle.types_spec.specs.types.Ty.{Ty}
use Rattle.types_spec.specs.types.Equal.{Equal, declared_shapes}
use Rattle.types_spec.specs.types.Names.{names_of}
use Rattle.types_spec.specs.types.Reached.{IsReached, ReachesTooMany}
use Rattle.types_spec.specs.types.Shape.{shape}
use Rattle.types_spec.specs.types.TypeText.{type_text}
use Rattle.types_spec.specs.types.Typing.{HasType}
use Rattle.types_spec.specs.types.VerdictText.{IsNoLine}
use Rattle.types_theory.specs.type_variables.TypeVariables.{HasEachInstance}
use Rattle.marshal_spec.specs.format.Canonical.{canon}
use Rattle.marshal_spec.specs.format.Compat.{TooLargeFor32, too_large_for_32}
use Rattle.marshal_spec.specs.format.Isomorphism.{IsTreeOf}
use Rattle.marshal_spec.specs.format.Tree.{Tree, root, objects_of}
use Rattle.text_decimal.specs.scripts.Scripts.{AreGivenEdits}
use Rattle.text_decimal.specs.texts.Texts.{decimal_text}
use Rattle.types_wellformed.specs.declarations.DeclarationAnswer.{DeclarationAnswer, accepted}
use Rattle.types_wellformed.specs.declarations.DeclarationAnswer.{IsFileAnswer, IsTypeAnswer}
use Rattle.types_wellformed.specs.declarations.Read.{IsDeclared, IsTypeOf}
use Rattle.types_wellformed.specs.declarations.DeclarationFaultText.{answer_text, lexer_text}
use Rattle.types_wellformed.specs.declarations.DeclarationFaultText.{placed_text}
use Rattle.edit_values.specs.EditedLines.{AreEdited}
use Rattle.edit_values.specs.EditedValues.{Edited}
use Rattle.edit_values.specs.Grafts.{Other}
use Rattle.edit_values.specs.Reasons.{reason_text}
use Rattle.base_data.specs.lines.Lines.{position_on}
use Rattle.text_path.specs.ParserAnswer.{IsAnswer}
use Rattle.text_path.specs.declared.path_fault.PathFault.{PathFault}
use Rattle.text_path.specs.declared.path_fault.PathFault.TheVariants as path_faults
use Rattle.text_path.specs.ScriptAnswer.{ScriptEdits, AreEdits}
use Rattle.text_path.specs.declared.edits.ScriptFault.{ScriptFault}
use Rattle.text_path.specs.declared.edits.ScriptFault.TheVariants as script_faults
use Rattle.text_path.specs.declared.edits.ScriptLine.{ScriptLine}
use Rattle.text_pretty.specs.PrettyLines.{pretty}
use Rattle.text_print.specs.show.DumpedGraph.{dump_text}
use Rattle.text_print.specs.show.ShownValues.{shown_text, shown_at}
use Rattle.trees.specs.search_trees.Laws.{IsVerdictOf}
use Rattle.trees.specs.declared.search_trees.tree_verdict.TreeVerdict.{TreeVerdict}
use Rattle.trees.specs.value_verdict.TreeVerdictText.{is_sound, verdict_text}
use Rattle.cli_spec.specs.declared.style.Style.{Style}
use Rattle.cli_spec.specs.RefusalText.{compat_text}
use Rattle.cli_spec.specs.Outcome.{AskedType, Language, Output, Query, the_verdict, the_text}
use Rattle.cli_spec.specs.Outcome.{the_part, the_trees, Unedited, untyped, refused_line}
use Rattle.cli_spec.specs.Outcome.{too_large, line}

-- A type over declarations. If `lines` is true, positions in refused texts are reported as line and
-- column. If `decimal` is true, texts that are parsed at this type may contain doubles as decimals.
pub record TypeOver : Type 0 where
  pub decls : List Decl
  pub type : Ty
  pub lines : Bool
  pub decimal : Bool

-- ---- output lines

-- The text in a style: with doubles as decimals, or over several lines, if the style requests it.
abbrev pub styled : Style → List ℕ → List ℕ
styled style text =
    let write = if style.decimal then decimal_text text else text in
    if style.pretty then pretty write else write

-- The text of a part, or `none`, which is an error.
abbrev pub part_or_none : Option (List ℕ) → Output
part_or_none None = record { text = codes "none"; ok = false }
part_or_none (Some text) = record { text = text; ok = true }

-- The output for a verdict on sets and maps: the text of the verdict. The output is without errors
-- if the verdict is `sound`.
abbrev pub judged : TreeVerdict → Output
judged verdict = record { text = verdict_text verdict; ok = is_sound verdict }

-- The output for a value that has the type, by query: `yes`, the value's text, the text of the part
-- at the path, or the verdict on the value's sets and maps.
abbrev pub IsKnownOf : Query → TypeOver → List Obj → Val → Output → Type 0
IsKnownOf the_verdict t graph v output = output ≡ record { text = codes "yes"; ok = true }
IsKnownOf (the_text style) t graph v output = output ≡ record {
  text = styled style (shown_text (shape t.decls) (names_of t.decls) graph v t.type);
  ok = true;
}
IsKnownOf (the_part path style) t graph v output =
    output
    ≡ part_or_none (option_map (styled style)
    (shown_at (shape t.decls) (names_of t.decls) graph (Equal t.decls) v t.type path))
IsKnownOf the_trees t graph v output =
    (verdict : TreeVerdict) × IsVerdictOf t.decls graph v t.type verdict × (output ≡ judged verdict)

-- The value has the type and each closed instance of the type. `text` and `ok` are the output for
-- the value.
pub record IsKnown (query : Query) (t : TypeOver) (graph : List Obj) (v : Val) (text : List ℕ)
    (ok : Bool) : Type 0 where
  pub has : HasType (declared_shapes t.decls) graph v t.type
  pub each : HasEachInstance t.decls graph v t.type
  pub known : IsKnownOf query t graph v (record { text = text; ok = ok })

-- The value does not have the type, nor every closed instance of the type. The output is the line
-- of the first fault, for each query.
pub record IsRefuted (t : TypeOver) (graph : List Obj) (v : Val) (text : List ℕ) (ok : Bool)
    : Type 0 where
  pub why : IsNoLine (declared_shapes t.decls) type_text graph v t.type text
  pub some_not : ¬ HasEachInstance t.decls graph v t.type
  pub is_all_ok : ok ≡ false

-- `text` is the output line of the value at the type. `ok` is true if the line reports no error.
abbrev pub IsTypeLine : Query → TypeOver → List Obj → Val → List ℕ → Bool → Type 0
IsTypeLine query t graph v text ok =
    IsKnown query t graph v text ok ⊎ IsRefuted t graph v text ok

-- `text` is the output line of the value at the type, with a line feed. `ok` is true if the line
-- reports no error.
abbrev pub OutputsLine : Query → TypeOver → List Obj → Val → List ℕ → Bool → Type 0
OutputsLine query t graph v text ok =
    (output : List ℕ) × IsTypeLine query t graph v output ok × (text ≡ line output)

-- ---- edits

-- The canonical bytes of a tree. If `compat` is true and the tree is too large for a 32-bit reader,
-- then the result is what is too large.
abbrev pub bytes_for : Bool → Tree → Option TooLargeFor32 → Result (List ℕ) Unedited
bytes_for compat tree None = Ok (canon tree)
bytes_for false tree (Some large) = Ok (canon tree)
bytes_for true tree (Some large) = Err (too_large (compat_text large))

-- The result is the bytes of the value, or what is too large for a 32-bit reader.
abbrev pub AreBytesOf : Bool → List Obj → Val → Result (List ℕ) Unedited → Type 0
AreBytesOf compat graph v answer =
    (tree : Tree) × IsTreeOf graph v tree × (answer ≡ bytes_for compat tree (too_large_for_32 tree))

-- The result for an edited value: the bytes of the value, or the script line that is refused.
abbrev pub AreBytesAfter : (lines compat : Bool) → Edited Ty → Result (List ℕ) Unedited → Type 0
AreBytesAfter lines compat (Ok edited) answer = AreBytesOf compat edited.0 edited.1 answer
AreBytesAfter lines compat (Err refused) answer =
    answer
    ≡ Err (refused_line refused.0 (reason_text type_text (position_on lines refused.0) refused.1))

-- The value has the type and each closed instance of the type. The result is the bytes of the value
-- after the script lines, which may refer to the earlier values `others`.
pub record IsEdited (t : TypeOver) (others : List Other) (lines : List ScriptLine) (compat : Bool)
    (graph : List Obj) (v : Val) (answer : Result (List ℕ) Unedited) : Type 0 where
  pub has : HasType (declared_shapes t.decls) graph v t.type
  pub each : HasEachInstance t.decls graph v t.type
  pub edited : Edited Ty
  pub made : AreEdited (shape t.decls) (names_of t.decls) (Equal t.decls) t.type others lines graph
      v edited
  pub bytes : AreBytesAfter t.lines compat edited answer

-- The value does not have the type, nor every closed instance of the type.
pub record IsUntyped (t : TypeOver) (graph : List Obj) (v : Val) (answer : Result (List ℕ) Unedited)
    : Type 0 where
  pub text : List ℕ
  pub why : IsNoLine (declared_shapes t.decls) type_text graph v t.type text
  pub some_not : ¬ HasEachInstance t.decls graph v t.type
  pub is : answer ≡ Err (untyped text)

-- The result of script lines on a value at a type. The lines may refer to the earlier values
-- `others`.
abbrev pub IsBytesLine : TypeOver → List Other → List ScriptLine → Bool → List Obj → Val
    → Result (List ℕ) Unedited → Type 0
IsBytesLine t others lines compat graph v answer =
    IsEdited t others lines compat graph v answer ⊎ IsUntyped t graph v answer

-- The lines that edit value `k`, in their order.
abbrev pub lines_of_value : ℕ → List ScriptLine → List ScriptLine
lines_of_value k script = filter (λ line. line.value == k) script

-- `others` is `done`, followed by the values of `trees` after their edits. Each value is edited by
-- the script lines for its index.
abbrev pub AreDone : TypeOver → List ScriptLine → List Other → List Tree → List Other → Type 0
AreDone t script done [] others = others ≡ done
AreDone t script done (tree ∷ trees) others =
    (made : List Obj × Val)
    × AreEdited (shape t.decls) (names_of t.decls) (Equal t.decls) t.type done
    (lines_of_value (length done) script) (objects_of tree 0) (root tree 0) (Ok made)
    × AreDone t script (done ++ made ∷ []) trees others

-- The result of a script on a value at a type, after the values `earlier`.
abbrev pub AreBytesIn : TypeOver → List ScriptLine → Bool → (earlier : List Tree) → Tree
    → Result (List ℕ) Unedited → Type 0
AreBytesIn t script compat earlier tree answer =
    (others : List Other) × AreDone t script [] earlier others
    × IsBytesLine t others (lines_of_value (length earlier) script) compat (objects_of tree 0)
    (root tree 0) answer

-- ---- parsing

-- The refusal is the text of a parse result of `text` that accepts nothing.
pub record IsRefusal {T : Type 0} (lines : Bool) (text : List ℕ) (Is : DeclarationAnswer T → Type 0)
    (refusal : List ℕ)
    : Type 0 where
  pub answer : DeclarationAnswer T
  pub is : Is answer
  pub refuses : (tree : T) → answer ≢ accepted tree
  pub encoded : refusal ≡ answer_text lines text answer

abbrev pub ReadsDeclarations : (lines : Bool) → List ℕ → Result (List Decl) (List ℕ) → Type 0
ReadsDeclarations lines text (Ok decls) = IsDeclared text decls
ReadsDeclarations lines text (Err refusal) =
    IsRefusal lines text (IsFileAnswer text) refusal

-- The type reaches these types, at most 65,536.
pub record ReachesWithinTable (decls : List Decl) (t : Ty) : Type 0 where
  pub types : List Ty
  pub reached : IsReached decls t types
  pub few : length types ≤ 65536

-- The text is a type that reaches too many types.
pub record IsTooMuch (decls : List Decl) (text refusal : List ℕ) : Type 0 where
  pub type : Ty
  pub written : IsTypeOf decls text type
  pub many : ReachesTooMany decls type
  pub encoded : refusal ≡ codes "TooManyTypes"

-- The requested text denotes the type `t` over these declarations, and the type reaches at most
-- 65,536 types. `t` has the settings of the request.
pub record IsAccepted (decls : List Decl) (asked : AskedType) (t : TypeOver) : Type 0 where
  pub over : t.decls ≡ decls
  pub written : IsTypeOf decls asked.text t.type
  pub few : ReachesWithinTable decls t.type
  pub lined : t.lines ≡ asked.lines
  pub decimaled : t.decimal ≡ asked.decimal

abbrev pub ReadsType : List Decl → AskedType → Result TypeOver (List ℕ) → Type 0
ReadsType decls asked (Ok t) = IsAccepted decls asked t
ReadsType decls asked (Err refusal) =
    IsRefusal asked.lines asked.text (IsTypeAnswer decls asked.text) refusal
    ⊎ IsTooMuch decls asked.text refusal

-- The text denotes this path, or is no path.
abbrev pub ReadsPath : List ℕ → Option (List ℕ) → Type 0
ReadsPath text (Some path) = IsAnswer text (Ok path)
ReadsPath text None = (fault : PathFault) × (fault ≢ path_faults.Memory) × IsAnswer text (Err fault)

-- The line number and the text of a fault in a script. If memory ran out, there is no fault.
abbrev pub script_refusal : (lines : Bool) → ScriptFault → Option (ℕ × List ℕ)
script_refusal lines (script_faults.Lex number fault) =
    Some (number, lexer_text (position_on lines number) fault)
script_refusal lines (script_faults.Syntax number position) =
    Some (number, placed_text (codes "Syntax") (position_on lines number position))
script_refusal lines (script_faults.Later number) = Some (number, codes "Later")
script_refusal lines script_faults.Memory = None

-- The edits of a script, or the fault of the script. If `decimal` is true, then these are the edits
-- of the script's plain text, with the positions of the given text.
abbrev pub AreEditsOf : (decimal : Bool) → List ℕ → ScriptEdits → Type 0
AreEditsOf false text all = AreEdits 1 text all
AreEditsOf true text all = AreGivenEdits text all

-- The text is a script with these lines, or it has this fault.
abbrev pub ReadsScript : (lines decimal : Bool) → List ℕ → Result (List ScriptLine) (ℕ × List ℕ)
    → Type 0
ReadsScript lines decimal text (Ok edits) = AreEditsOf decimal text (Ok edits)
ReadsScript lines decimal text (Err refusal) =
    (fault : ScriptFault) × AreEditsOf decimal text (Err fault)
    × (script_refusal lines fault ≡ Some refusal)

abbrev pub declared_types : Language (List Decl) TypeOver ScriptLine
declared_types = record {
  ReadsDeclarations = ReadsDeclarations;
  ReadsType = ReadsType;
  ReadsScript = ReadsScript;
  ReadsPath = ReadsPath;
  line_number = λ line. line.number;
  line_value = λ line. line.value;
  LineOf =
      λ query t tree text ok. IsTypeLine query t (objects_of tree 0) (root tree 0) text ok;
  BytesOf = AreBytesIn;
  lines_of = λ tree. dump_text (objects_of tree 0) (root tree 0);
}
