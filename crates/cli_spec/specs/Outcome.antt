-- The specification of a run: the stages in order, an output for each value, and a final output.
-- Each command adds the syntax of its arguments, the files that the command opens, an output for a
-- value, exit reasons at a value, and a final output. The stages, the exit reasons, their error
-- lines and their statuses are defined once, in this file.
use Rattle.std.specs.Prelude.{ℕ, ◌<◌, ◌≡◌, ◌≢◌, ◌↔◌, ◌⊎◌, Bool, true, false, IsTrue, ◌&&◌, not}
use Rattle.std.specs.Prelude.{nat_lt, if◌then◌else◌, List, [], ◌∷◌, ◌++◌, length, find, Option}
use Rattle.std.specs.Prelude.{Some, None, Result, Ok, Err, MatchResult, codes, decimal}
use Rattle.cli_spec.specs.declared.status.Status.{Status}
use Rattle.cli_spec.specs.declared.status.Status.TheVariants as statuses
use Rattle.cli_spec.specs.declared.exit.Exit.{Exit}
use Rattle.cli_spec.specs.declared.exit.Exit.TheVariants.{Usage as usage, BadPath as bad_path}
use Rattle.cli_spec.specs.declared.exit.Exit.TheVariants.{NotTwoValues as not_two_values}
use Rattle.cli_spec.specs.declared.exit.Exit.TheVariants.{CannotOpen as cannot_open}
use Rattle.cli_spec.specs.declared.exit.Exit.TheVariants.{Declarations as declarations}
use Rattle.cli_spec.specs.declared.exit.Exit.TheVariants.{RequestedType as requested_type}
use Rattle.cli_spec.specs.declared.exit.Exit.TheVariants.{Value as value, Script as script_line}
use Rattle.cli_spec.specs.declared.exit.Exit.TheVariants.{Text as text_line}
use Rattle.cli_spec.specs.declared.exit.Exit.TheVariants.{Untyped as untyped_value}
use Rattle.cli_spec.specs.declared.exit.Exit.TheVariants.{LargeValue as large_value}
use Rattle.cli_spec.specs.declared.exit.Exit.TheVariants.{Certificate as certificate_line}
use Rattle.cli_spec.specs.declared.exit.Exit.TheVariants.{Uncertified as uncertified_value}
use Rattle.cli_spec.specs.declared.exit.Exit.TheVariants.{SectionsLeft as sections_left}
use Rattle.cli_spec.specs.declared.exit.Exit.TheVariants.{Short as short_input}
use Rattle.cli_spec.specs.declared.exit.Exit.TheVariants.{Finished as finished}
use Rattle.cli_spec.specs.declared.exit.Exit.TheVariants.{ReadFault as read_fault}
use Rattle.cli_spec.specs.declared.exit.Exit.TheVariants.{TooLong as too_long}
use Rattle.cli_spec.specs.declared.exit.Exit.TheVariants.{Memory as out_of_memory}
pub use Rattle.cli_spec.specs.CommandLine.{Query, plain, all_under, the_verdict, the_text}
pub use Rattle.cli_spec.specs.CommandLine.{the_part, the_trees, Request, report, get, edit, dump}
pub use Rattle.cli_spec.specs.CommandLine.{compare, own, OwnRequest, build, generate, verify}
pub use Rattle.cli_spec.specs.CommandLine.{Asks, IsUsage, AskedType, asked_with, asked_type}
pub use Rattle.cli_spec.specs.CommandLine.{typed_by, path_of, script_of, reading_of, limit_of}
use Rattle.cli_spec.specs.RefusalText.{refusal_text, truncated_text}
use Rattle.marshal_spec.specs.format.Isomorphism.{Isomorphism}
use Rattle.marshal_spec.specs.format.Tree.{Tree, root, objects_of}
use Rattle.marshal_spec.specs.format.Stream.{EncodeAll, StreamEnd, clean, refused, cut, IsTail}

-- ---- input from the environment

-- Why reading ended: at the end of the data, after a failed call, at 2^48 bytes or more, or because
-- no more bytes were requested.
pub data ReadingEnd : Type 0 where
  at_end : ReadingEnd
  at_fault : ReadingEnd
  at_length : ReadingEnd
  unasked : ReadingEnd

-- The bytes that were read from the input or from a file.
pub record Taken : Type 0 where
  pub bytes : List ℕ
  pub until : ReadingEnd

-- The result of a reading that reads no bytes and requests none.
abbrev pub nothing : Taken
nothing = record { bytes = []; until = unasked }

-- The result of a reading that reads all bytes up to the end.
abbrev pub whole : List ℕ → Taken
whole bytes = record { bytes = bytes; until = at_end }

-- The result of fetching a file: the file's bytes, no such file, a failure, or nothing. If the file
-- was not requested or memory ran out, the result is `unfetched`.
pub data Found : Type 0 where
  opened : Taken → Found
  missing : Found
  failed : Found
  unfetched : Found

-- The results of fetching FILE and SCRIPT by name. The two files are fetched one after the other,
-- and equal names may give two different results.
pub record FetchResults : Type 0 where
  pub file : List ℕ → Found
  pub script : List ℕ → Found

-- Everything that a run receives: the results of fetching its files, and the input.
pub record Received : Type 0 where
  pub files : FetchResults
  pub input : Taken

-- ---- exit reasons

abbrev pub status_of : Exit → Status
status_of usage = statuses.Usage
status_of bad_path = statuses.Usage
status_of not_two_values = statuses.Usage
status_of (cannot_open name) = statuses.OpenFault
status_of (declarations refusal) = statuses.Types
status_of (requested_type refusal) = statuses.Types
status_of (value number refusal) = statuses.Value
status_of (script_line number refusal) = statuses.Script
status_of (text_line number refusal) = statuses.Script
status_of (untyped_value number fault) = statuses.No
status_of (large_value number refusal) = statuses.Compat
status_of (certificate_line number) = statuses.Certificate
status_of (uncertified_value number reason) = statuses.Certificate
status_of sections_left = statuses.Certificate
status_of (short_input taken) = statuses.Value
status_of (finished ok) = if ok then statuses.AllOk else statuses.No
status_of read_fault = statuses.ReadFault
status_of too_long = statuses.TooLong
status_of out_of_memory = statuses.Memory

-- The error text for the value with the number `number`.
abbrev pub value_text : ℕ → List ℕ → List ℕ
value_text number text = codes "value " ++ decimal number ++ codes ": " ++ text

abbrev pub exit_text : Exit → List ℕ
exit_text usage = codes "usage"
exit_text bad_path = codes "bad path"
exit_text not_two_values = codes "not two values"
exit_text (cannot_open name) = codes "cannot open " ++ name
exit_text (declarations refusal) = codes "types: " ++ refusal
exit_text (requested_type refusal) = codes "type: " ++ refusal
exit_text (value number refusal) = value_text number refusal
exit_text (script_line number refusal) =
    codes "script line " ++ decimal number ++ codes ": " ++ refusal
exit_text (text_line number refusal) = codes "text line " ++ decimal number ++ codes ": " ++ refusal
exit_text (untyped_value number fault) = value_text number fault
exit_text (large_value number refusal) = value_text number refusal
exit_text (certificate_line number) =
    codes "certificate line " ++ decimal number ++ codes ": Syntax"
exit_text (uncertified_value number reason) = value_text number reason
exit_text sections_left = codes "sections left"
exit_text (short_input taken) = codes "skip: " ++ truncated_text taken
exit_text (finished ok) = []
exit_text read_fault = codes "read fault"
exit_text too_long = codes "input too long"
exit_text out_of_memory = codes "out of memory"

-- ---- the end of a run

-- The text followed by a line feed.
abbrev pub line : List ℕ → List ℕ
line text = text ++ 10 ∷ []

-- The text as a line on standard error, after the program's name.
abbrev pub err_line : List ℕ → List ℕ
err_line text = codes "omarshal: " ++ line text

-- The error line of an exit reason. The exit reason `finished` has no line.
abbrev pub exit_line : Exit → List ℕ
exit_line (finished ok) = []
exit_line exit = err_line (exit_text exit)

-- The ending of a run: the bytes written to standard output and to standard error, and the exit
-- status.
pub record Ending : Type 0 where
  pub out : List ℕ
  pub err : List ℕ
  pub status : Status

-- The output for a value. `ok` is true if the value has no fault.
pub record Output : Type 0 where
  pub text : List ℕ
  pub ok : Bool

-- The empty output, which reports no fault.
abbrev pub nothing_output : Output
nothing_output = record { text = []; ok = true }

-- The final reply. `outputs` is output after all values, and the run reaches its end. `exits` is an
-- exit reason.
pub data Reply : Type 0 where
  outputs : Output → Reply
  exits : Exit → Reply

-- The outputs for the values, in order, and the final reply.
pub record Replies : Type 0 where
  pub output : List Output
  pub last : Reply

-- The replies that consist of the given outputs and the given final reply.
abbrev pub replies : List Output → Reply → Replies
replies output last = record { output = output; last = last }

-- The replies of a run that ends before the first value.
abbrev pub stopped : Exit → Replies
stopped exit = replies [] (exits exit)

-- All outputs in order, including the output of the final reply.
abbrev pub all_output : Replies → List Output
all_output all = all.output ++ output_last all.last where
  output_last : Reply → List Output
  output_last (outputs output) = output ∷ []
  output_last (exits exit) = []

-- The texts of the outputs, concatenated.
abbrev pub texts_of : List Output → List ℕ
texts_of [] = []
texts_of (output ∷ rest) = output.text ++ texts_of rest

-- Returns true if no output in the list reports a fault.
abbrev pub all_ok : List Output → Bool
all_ok [] = true
all_ok (output ∷ rest) = output.ok && all_ok rest

-- The end of a run. Standard output holds the texts of all outputs. If there is an exit reason, the
-- exit reason determines the error line and the status. If there is no exit reason, the status is
-- `No` if some output reports a fault, and `AllOk` if none does.
abbrev pub ending_of : Replies → Ending
ending_of all = ends all.last where
  ends : Reply → Ending
  ends (outputs output) =
      record {
        out = texts_of (all_output all);
        err = [];
        status = if all_ok (all_output all)
            then statuses.AllOk
            else statuses.No;
      }
  ends (exits exit) =
      record
      { out = texts_of (all_output all); err = exit_line exit; status = status_of exit }

-- ---- stages

-- Two stages in sequence. The first stage passes its result to the second, or ends the run with an
-- exit reason.
abbrev pub Then : {X Y : Type 0} → (Result X Exit → Type 0) → (X → Result Y Exit → Type 0)
    → Result Y Exit → Type 0
Then {X} first next result =
    (given : Result X Exit) × first given
    × MatchResult given (λ x. next x result) (λ exit. result ≡ Err exit)

-- The result of reading a text. `exit` turns a refusal into an exit reason.
abbrev pub OrRefusal : {X R : Type 0} → (Result X R → Type 0) → (R → Exit) → Result X Exit → Type 0
OrRefusal Reads exit (Ok x) = Reads (Ok x)
OrRefusal {X} {R} Reads exit (Err s) = (refusal : R) × Reads (Err refusal) × (s ≡ exit refusal)

-- ---- the arguments

-- The first stage: parses the arguments to a request, or ends with `usage`.
abbrev pub ReadsArguments : List (List ℕ) → Result Request Exit → Type 0
ReadsArguments command_line (Ok request) = Asks command_line request
ReadsArguments command_line (Err exit) = IsUsage command_line × (exit ≡ usage)

-- ---- the files

-- The exit reason if reading failed or the data is too long.
abbrev pub fault_of : ReadingEnd → Option Exit
fault_of at_end = None
fault_of at_fault = Some read_fault
fault_of at_length = Some too_long
fault_of unasked = None

-- Opens a file and reads it to its end.
abbrev pub ReadsFile : List ℕ → Found → Result (List ℕ) Exit → Type 0
ReadsFile name found (Ok bytes) = found ≡ opened (whole bytes)
ReadsFile name (opened taken) (Err exit) = fault_of taken.until ≡ Some exit
ReadsFile name missing (Err exit) = exit ≡ cannot_open name
ReadsFile name failed (Err exit) = exit ≡ cannot_open name
ReadsFile name unfetched (Err exit) = ⊥

-- ---- the types

-- Why a value is not edited: it does not have the type, a script line is refused (with its number),
-- or the edited value is too large for a 32-bit reader.
pub data Unedited : Type 0 where
  untyped : (fault : List ℕ) → Unedited
  refused_line : (number : ℕ) → (refusal : List ℕ) → Unedited
  too_large : (refusal : List ℕ) → Unedited

-- The languages of a run, with declarations `D`, types `T` and script lines `E`.
--
-- - `ReadsDeclarations`, `ReadsType` and `ReadsScript` give the result of parsing FILE, TYPE and
--   SCRIPT, or the text of the refusal. For SCRIPT, a refusal includes the number of its line.
-- - `ReadsPath` gives the path that PATH denotes, if it denotes one.
-- - `line_number` and `line_value` give the number of a script line and the number of the value
--   that it edits.
-- - `LineOf` gives the output line for a value at a type, and a flag that is true if the value has
--   no fault.
-- - `BytesOf` gives the bytes of the value after the script's edits, or the reason why it is not
--   edited. The earlier values determine the number of the value. If `compat` is true, a 32-bit
--   reader must be able to hold the result.
-- - `lines_of` gives the lines of a value without a type.
--
-- If `lines` is true, a refusal reports its position by line and column. A type keeps this option
-- for refusals at that type. If `decimal` is true, decimals stand for doubles in SCRIPT.
pub record Language (D T E : Type 0) : Type 1 where
  pub ReadsDeclarations : (lines : Bool) → List ℕ → Result D (List ℕ) → Type 0
  pub ReadsType : D → AskedType → Result T (List ℕ) → Type 0
  pub ReadsScript : (lines decimal : Bool) → List ℕ → Result (List E) (ℕ × List ℕ) → Type 0
  pub ReadsPath : List ℕ → Option (List ℕ) → Type 0
  pub line_number : E → ℕ
  pub line_value : E → ℕ
  pub LineOf : Query → T → Tree → List ℕ → Bool → Type 0
  pub BytesOf : T → (script : List E) → (compat : Bool) → (earlier : List Tree) → Tree
      → Result (List ℕ) Unedited → Type 0
  pub lines_of : Tree → List ℕ

-- Opens and reads FILE, parses the declarations of FILE, and parses TYPE.
abbrev pub ReadsTypeOf : {D T E : Type 0} → Language D T E → (List ℕ → Found) → List ℕ × AskedType
    → Result T Exit → Type 0
ReadsTypeOf language file typed =
    Then (ReadsFile typed.0 (file typed.0)) (λ text.
    Then (OrRefusal (language.ReadsDeclarations typed.1.lines text) declarations) (λ decls.
    OrRefusal (language.ReadsType decls typed.1) requested_type))

-- Parses PATH, or ends the run with `bad_path`.
abbrev pub ReadsPathOf : {D T E : Type 0} → Language D T E → List ℕ → Result (List ℕ) Exit → Type 0
ReadsPathOf language text (Ok path) = language.ReadsPath text (Some path)
ReadsPathOf language text (Err exit) = language.ReadsPath text None × (exit ≡ bad_path)

-- Opens and reads SCRIPT, and parses the lines of SCRIPT.
abbrev pub ReadsScriptOf : {D T E : Type 0} → Language D T E → (lines decimal : Bool)
    → (List ℕ → Found) → List ℕ → Result (List E) Exit → Type 0
ReadsScriptOf language lines decimal script name =
    Then (ReadsFile name (script name)) (λ text.
    OrRefusal (language.ReadsScript lines decimal text)
    (λ refusal. script_line refusal.0 refusal.1))

-- The operation for each value, after the arguments, the files and the type have been read.
pub data ValueWork (T E : Type 0) : Type 0 where
  reports : Query → T → ValueWork T E
  edits : T → (script : List E) → (compat : Bool) → ValueWork T E
  dumps : ValueWork T E
  compares : ValueWork T E

-- The operation answers the given query for each value at the type.
abbrev pub ReportsAt : {D T E : Type 0} → Language D T E → (List ℕ → Found) → List ℕ × AskedType
    → Query → Result (ValueWork T E) Exit → Type 0
ReportsAt language file typed query result =
    Then (ReadsTypeOf language file typed) (λ type found. found ≡ Ok (reports query type)) result

-- The operation edits the values at the type by the lines of SCRIPT.
abbrev pub EditsBy : {D T E : Type 0} → Language D T E → FetchResults → List ℕ × AskedType → List ℕ
    → Bool → Result (ValueWork T E) Exit → Type 0
EditsBy language files typed script_name compat result =
    Then (ReadsTypeOf language files.file typed) (λ type.
    Then (ReadsScriptOf language typed.1.lines typed.1.decimal files.script script_name)
    (λ script found. found ≡ Ok (edits type script compat))) result

-- The stage that finds the operation of a request. PATH is parsed before FILE is read, and SCRIPT
-- is read after TYPE. `dump` and `same` read no PATH, FILE, TYPE or SCRIPT. A command in a command
-- set of its own has no operation in this definition.
abbrev pub FindsWork : {D T E : Type 0} → Language D T E → FetchResults → Request
    → Result (ValueWork T E) Exit → Type 0
FindsWork language files (report query name type_text lines reading) result =
    ReportsAt language files.file (name, asked_type type_text lines) query result
FindsWork language files (get name type_text path_text style lines reading) result =
    Then (ReadsPathOf language path_text)
    (λ path. ReportsAt language files.file (name, asked_type type_text lines) (the_part path style))
    result
FindsWork language files (edit name type_text script_name compat lines decimal reading) result =
    EditsBy language files (name, asked_with type_text lines decimal) script_name compat result
FindsWork language files (dump reading) result = result ≡ Ok dumps
FindsWork language files (compare reading) result = result ≡ Ok compares
FindsWork language files (own request) result = ⊥

-- ---- all stages before the values

-- The operation for the values, and the limit of 64-bit words in each value.
pub record Task (T E : Type 0) : Type 0 where
  pub work : ValueWork T E
  pub limit : ℕ

abbrev pub task : {T E : Type 0} → ValueWork T E → ℕ → Task T E
task work limit = record { work = work; limit = limit }

abbrev pub Prepares : {D T E : Type 0} → Language D T E → List (List ℕ) → FetchResults
    → Result (Task T E) Exit → Type 0
Prepares language command_line files =
    Then (ReadsArguments command_line) (λ request.
    Then (FindsWork language files request) (λ work result.
    result ≡ Ok (task work (limit_of request))))

-- ---- the values

-- The first script line that does not edit any of the first `n` values.
abbrev pub line_past : {D T E : Type 0} → Language D T E → List E → ℕ → Option E
line_past language script n = find (λ line. not (nat_lt (language.line_value line) n)) script

-- The output for a value after the values `earlier`. `same` reads two values and has no output for
-- the two values before the end of the input.
abbrev pub Outputs : {D T E : Type 0} → Language D T E → ValueWork T E → (earlier : List Tree)
    → Tree
    → Output
    → Type 0
Outputs language (reports query type) earlier tree output =
    (text : List ℕ) × language.LineOf query type tree text output.ok × (output.text ≡ line text)
Outputs language (edits type script compat) earlier tree output =
    language.BytesOf type script compat earlier tree (Ok output.text) × (output.ok ≡ true)
Outputs language dumps earlier tree output =
    (output.text ≡ language.lines_of tree) × (output.ok ≡ true)
Outputs language compares earlier tree output = (length earlier < 2) × (output ≡ nothing_output)

-- The outputs for the values `trees` after the values `earlier`.
abbrev pub AllPrint : {D T E : Type 0} → Language D T E → ValueWork T E
    → (earlier trees : List Tree)
    → List Output → Type 0
AllPrint language work earlier [] [] = Unit {0}
AllPrint language work earlier [] (output ∷ more) = ⊥
AllPrint language work earlier (tree ∷ trees) [] = ⊥
AllPrint language work earlier (tree ∷ trees) (output ∷ more) =
    Outputs language work earlier tree output
    × AllPrint language work (earlier ++ tree ∷ []) trees more

-- The exit reason if value `k` is not edited.
abbrev pub unedited_exit : ℕ → Unedited → Exit
unedited_exit k (untyped fault) = untyped_value k fault
unedited_exit k (refused_line number refusal) = script_line number refusal
unedited_exit k (too_large refusal) = large_value k refusal

-- The bytes after the values `earlier` begin with a value that is not edited.
pub record IsUnedited {D T E : Type 0} (language : Language D T E) (type : T) (script : List E)
    (compat : Bool) (limit : ℕ) (earlier : List Tree) (bytes : List ℕ) (exit : Exit)
    : Type 0 where
  pub tree : Tree
  pub more : List ℕ
  pub encoded : EncodeAll limit bytes (tree ∷ []) more
  pub why : Unedited
  pub refused : language.BytesOf type script compat earlier tree (Err why)
  pub exits : exit ≡ unedited_exit (length earlier) why

-- After the given values, the command ends at the bytes `rest`, whatever comes after the part that
-- the command reads. `edit` ends at a value that is not edited. `same` ends at any bytes after two
-- values.
abbrev pub ExitsAt : {D T E : Type 0} → Language D T E → ValueWork T E → ℕ → List Tree → List ℕ
    → Exit
    → Type 0
ExitsAt language (reports query type) limit trees rest exit = ⊥
ExitsAt language (edits type script compat) limit trees rest exit =
    IsUnedited language type script compat limit trees rest exit
ExitsAt language dumps limit trees rest exit = ⊥
ExitsAt language compares limit trees rest exit =
    (length trees ≡ 2) × (rest ≢ []) × (exit ≡ not_two_values)

-- The values of the two trees are equal, which means that their graphs are isomorphic.
abbrev pub AreSame : Tree → Tree → Type 0
AreSame first second =
    Isomorphism (objects_of first 0) (root first 0) (objects_of second 0) (root second 0)

-- The output line for two compared values, where `ok` is true if the two values are equal.
abbrev pub comparison : Bool → Output
comparison true = record { text = line (codes "same"); ok = true }
comparison false = record { text = line (codes "differ"); ok = false }

-- If a script line edits no value of the input, the script line is the exit reason of the run.
abbrev pub ends_script : {D T E : Type 0} → Language D T E → Option E → Reply
ends_script language None = outputs nothing_output
ends_script language (Some line) = exits (script_line (language.line_number line) (codes "NoValue"))

-- The command's final reply, if the input ends cleanly after the given values.
abbrev pub Finishes : {D T E : Type 0} → Language D T E → ValueWork T E → List Tree → Reply → Type 0
Finishes language (reports query type) trees last = last ≡ outputs nothing_output
Finishes language (edits type script compat) trees last =
    last ≡ ends_script language (line_past language script (length trees))
Finishes language dumps trees last = last ≡ outputs nothing_output
Finishes language compares (first ∷ second ∷ []) last =
    (agree : Bool) × (IsTrue agree ↔ AreSame first second) × (last ≡ outputs (comparison agree))
Finishes language compares trees last = last ≡ exits not_two_values

-- The final reply after the given values. If bytes are refused as a value, the run reads no more
-- and ends with the refusal. A run that ends with a refusal had no failed call on the input, and
-- the input is not too long. If no bytes are refused, the end of the input or a failure of the
-- input decides.
abbrev pub Closes : {D T E : Type 0} → Language D T E → ValueWork T E → List Tree → ReadingEnd
    → StreamEnd
    → Reply → Type 0
Closes language work trees at_end clean last = Finishes language work trees last
Closes language work trees at_end (cut n) last =
    last ≡ exits (value (length trees) (truncated_text n))
Closes language work trees at_end (refused refusal) last =
    last ≡ exits (value (length trees) (refusal_text refusal))
Closes language work trees unasked (refused refusal) last =
    last ≡ exits (value (length trees) (refusal_text refusal))
Closes language work trees unasked clean last = ⊥
Closes language work trees unasked (cut n) last = ⊥
Closes language work trees at_fault (refused refusal) last = ⊥
Closes language work trees at_fault clean last = last ≡ exits read_fault
Closes language work trees at_fault (cut n) last = last ≡ exits read_fault
Closes language work trees at_length (refused refusal) last = ⊥
Closes language work trees at_length clean last = last ≡ exits too_long
Closes language work trees at_length (cut n) last = last ≡ exits too_long

-- The bytes begin with the values `trees`, whose outputs are `output`, and `rest` follows the
-- values.
pub record PrintFirst {D T E : Type 0} (language : Language D T E) (task : Task T E)
    (bytes : List ℕ)
    (trees : List Tree) (output : List Output) (rest : List ℕ) : Type 0 where
  pub encoded : EncodeAll task.limit bytes trees rest
  pub all_print : AllPrint language task.work [] trees output

-- The values and outputs before the final reply, and the reason for the final reply: an exit reason
-- of the command, or the end of the values in the input.
pub record ValuesReply {D T E : Type 0} (language : Language D T E) (task : Task T E)
    (input : Taken) (all : Replies) : Type 0 where
  pub trees : List Tree
  pub rest : List ℕ
  pub first : PrintFirst language task input.bytes trees all.output rest
  pub last :
      ((exit : Exit) × ExitsAt language task.work task.limit trees rest exit
      × (fault_of input.until ≡ None) × (all.last ≡ exits exit))
      ⊎ ((end : StreamEnd) × IsTail task.limit rest end
      × ((exit : Exit) → ExitsAt language task.work task.limit trees rest exit → ⊥)
      × Closes language task.work trees input.until end all.last)

-- ---- the whole run

-- The replies of a run, if memory suffices and all output is written.
abbrev pub RunReplies : {D T E : Type 0} → Language D T E → List (List ℕ) → Received → Replies
    → Type 0
RunReplies {D} {T} {E} language command_line given all =
    (prepared : Result (Task T E) Exit) × Prepares language command_line given.files prepared
    × MatchResult prepared (λ task. ValuesReply language task given.input all)
    (λ exit. all ≡ stopped exit)

-- The outputs for some first values of the input.
abbrev pub OutputsOfFirst : {D T E : Type 0} → Language D T E → List (List ℕ) → Received
    → List Output
    → Type 0
OutputsOfFirst {D} {T} {E} language command_line given output =
    (task : Task T E) × Prepares language command_line given.files (Ok task)
    × (trees : List Tree) × (rest : List ℕ)
    × PrintFirst language task given.input.bytes trees output rest

-- ---- the outcome for known arguments, files and input

abbrev pub found_of : Option (List ℕ) → Found
found_of None = missing
found_of (Some bytes) = opened (whole bytes)

-- The fetches of FILE and SCRIPT from one lookup by name.
abbrev pub fetches_of : (List ℕ → Option (List ℕ)) → FetchResults
fetches_of files =
    record { file = λ name. found_of (files name); script = λ name. found_of (files name) }

-- The outcome of a run, where `files` maps names to bytes. If `files` does not contain FILE or
-- SCRIPT, the missing file cannot be opened.
abbrev pub Outcome : {D T E : Type 0} → Language D T E → List (List ℕ) → (List ℕ → Option (List ℕ))
    → List ℕ → Replies → Type 0
Outcome language command_line files bytes =
    RunReplies language command_line (record { files = fetches_of files; input = whole bytes })
