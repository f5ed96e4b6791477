-- Proves `Account` for a run, from the result of each stage.
use Rattle.std.proofs.Common.{◌≡◌, ◌⊎◌, ℕ, zero, suc, Bool, true, List, Option, Result, Ok, Err, inl, inr, refl, sym, ap, subst}
use Rattle.cli_spec.specs.declared.status.Status.{Status}
use Rattle.std.specs.Borrow.{Bor}
use Rattle.cli_spec.specs.Outcome.{Found, unfetched, AskedType, asked_with, Request, get, edit, dump, compare, Asks, ReadsTypeOf, ReadsScriptOf, dumps, compares}
use Rattle.cli_spec.specs.declared.read_options.ReadOptions.{ReadOptions}
use Rattle.cli_spec.specs.declared.style.Style.{Style}
use Rattle.cli_spec.specs.declared.exit.Exit.{Exit}
use Rattle.cli_spec.specs.declared.exit.Exit.TheVariants.{BadPath as bad_path, Memory as out_of_memory}
use Rattle.base_io.specs.StreamState.{ByteState, SourceState, FilesState, Change, change}
use Rattle.text_path.specs.ParserAnswer.{IsAnswer, UnlessMemory}
use Rattle.text_path.specs.ScriptAnswer.{AreEdits, AreInTime}
use Rattle.text_path.specs.declared.edits.Script.{Script}
use Rattle.text_path.specs.declared.edits.ScriptLine.{ScriptLine}
use Rattle.text_path.specs.declared.path_fault.PathFault.{PathFault}
use Rattle.run_spec.specs.runs.Call.{call}
use Rattle.run_spec.specs.runs.Account.{FetchesFor, Account}
use Rattle.run_spec.specs.runs.Commands.{Fetches, Prepares}
use Rattle.run_types.specs.declared.requested.Prepared.{Prepared}
use Rattle.session.specs.declared.input_values.ValueTask.{ValueTask}
use Rattle.session.specs.declared.input_values.ValueTask.TheVariants as value_tasks
use Rattle.session.specs.declared.value_output.Query.{Query}
use Rattle.session.specs.declared.value_output.Printing.TheVariants as printings
use Rattle.run_spec.specs.runs.Given.{Fetched}
use Rattle.run_types.specs.Language.{declared_types}
use Rattle.cli_errors.specs.Exits.{Reports}
use Rattle.opt_skip_only.specs.skip_spec.SkipRequests.{passed_by}
use Rattle.opt_skip_only.specs.skip_spec.Skipping.{SkippedBytes}
use Rattle.opt_skip_only.proofs.skip_spec.SkipFetchLemmas.{fetches_after}
use Rattle.opt_skip_only.specs.only_spec.OnlyRequests.{picked_by}
use Rattle.opt_skip_only.proofs.only_spec.OnlyFetchLemmas.{fetches_picked}
use Rattle.session.specs.All.{on_values, on_values_picked, on_values_after}
use Rattle.session.proofs.SessionPartLemmas.{values_in_turns}
use Rattle.session.specs.Reporting.{passed_in, AsksToReport, AsksToEdit}
use Rattle.run_types.specs.RequestedTexts.{type_over, IsPathExit, GivesType, GivesScript}
use Rattle.session.specs.InputValues.{task_of}
use Rattle.session.specs.ValueOutput.{query_of}
use Rattle.run_types.proofs.RunTypesScriptLemmas.{script_in_time}
use Rattle.run_types.proofs.RequestedTypeLemmas.{given_decimal, given_lines, path_refused}
use Rattle.run_spec.specs.value_commands.Tasks.{by_turns, WantsFile, WantsScript}
use Rattle.run_loop.specs.work.Reported.{HasAccount}
use Rattle.run_spec.proofs.value_commands.ValueCommandFetchLemmas.{wants_file, wants_script, new_fetches}
use Rattle.run_loop.proofs.work.ExitLemmas.{nothing_found, none_fetched as nothing_fetched, exit_account}

-- ---- the values

-- The command on values performs the operation `value_task` on the values of the input.
abbrev DoesValueTask : ValueTask → SkippedBytes → Option ℕ → Change SourceState → Change ByteState → Change ByteState → Status → Type 0
DoesValueTask value_task over only = HasAccount on_values_after (over, (only, task_of value_task))

-- ---- the arguments

-- The result of fetching the first file in turn 0, and of fetching the second file in a later turn.
abbrev two_found : Found → Found → ℕ → List ℕ → Found
two_found first second zero name = first
two_found first second (suc turn) name = second

-- If the state of the files is unchanged, then no file was fetched.
none_fetched : (arguments : List (List ℕ)) (files : FilesState) → FetchesFor on_values_after arguments (change files files) nothing_found
none_fetched arguments = nothing_fetched on_values_after arguments 2 values_in_turns

-- If PATH is not a path, or memory ran out, then the run has an `Account`.
pub path_account : (arguments : List (List ℕ)) (name type text : List ℕ) (style : Style) (lines : Bool) (reading : ReadOptions) → Asks arguments (get name type text style lines reading)
    → (fault : PathFault) → UnlessMemory (λ f. IsAnswer text (Err f)) fault → (exit : Exit) → IsPathExit fault exit
    → (input : SourceState) (out : ByteState) (files : FilesState) (err : Change ByteState) (status : Status)
    → Reports exit err status → Account on_values_after arguments (call (change input input) (change files files) (change out out) err status)
path_account arguments name type text style lines reading asks fault refused exit is input out files err status r =
    exit_account on_values_after arguments nothing_found input out (change files files) (none_fetched arguments files) err status exit (why is) r where
      why : IsPathExit fault exit → Prepares on_values_after arguments nothing_found (Err exit) ⊎ (exit ≡ out_of_memory)
      why (inl (memory, is)) = inr is
      why (inr (some, is)) =
          inl (subst (λ s. Prepares on_values_after arguments nothing_found (Err s)) (sym is)
          (Ok (get name type text style lines reading), asks, (Err bad_path, (Err bad_path, (path_refused text fault some refused, refl), refl), refl)))

module _ (arguments : List (List ℕ)) (name : List ℕ) (type : AskedType) (query : Query) (reading : ReadOptions) (asks : AsksToReport arguments name type (query_of query) reading) (files : Change FilesState) (found : Found) (fetched : Fetched files name found) where
  is_wanted : WantsFile declared_types asks.request name
  is_wanted = record { has_path = asks.has_path; type = type; typed = asks.typed }

  abbrev all_found : Fetches
  all_found = two_found found unfetched

  fetches : FetchesFor on_values_after arguments files all_found
  fetches =
      fetches_after passed_by on_values_picked arguments all_found files
      (fetches_picked picked_by on_values arguments all_found files
      (new_fetches declared_types arguments all_found files.before files.after files.after
      (inl (name, wants_file declared_types arguments all_found asks.request asks.asks name is_wanted, fetched)) (inr (refl, λ script is. refl))))

  prepared_ok : (t : Bor Prepared) → ReadsTypeOf declared_types (λ name. found) (name, type) (Ok (type_over t.now))
      → Prepares on_values_after arguments all_found (Ok (passed_in reading, (reading.only, task_of (value_tasks.Print (printings.Report t query) reading.limit))))
  prepared_ok t reads =
      let known = task_of (value_tasks.Print (printings.Report t query) reading.limit) in
      (Ok asks.request, asks.asks, (sym asks.passes, (sym asks.picks, (Ok known.work, asks.finds (by_turns all_found) (Ok known.work) (Ok (type_over t.now), reads, refl), ap (λ n. Ok (record { work = known.work; limit = n })) (sym asks.limited)))))

  prepared_err : (s : Exit) → ReadsTypeOf declared_types (λ name. found) (name, type) (Err s) → Prepares on_values_after arguments all_found (Err s)
  prepared_err s reads = (Ok asks.request, asks.asks, (Err s, asks.finds (by_turns all_found) (Err s) (Err s, reads, refl), refl))

  gives_err : (exit : Exit) → GivesType name type found (Err exit) → Prepares on_values_after arguments all_found (Err exit) ⊎ (exit ≡ out_of_memory)
  gives_err exit (inl reads) = inl (prepared_err _ reads)
  gives_err exit (inr memory) = inr memory

  -- If FILE and TYPE give no type, then the run has an `Account`.
  pub type_account : (exit : Exit) → GivesType name type found (Err exit) → (input : SourceState) (out : ByteState) (err : Change ByteState) (status : Status)
      → Reports exit err status → Account on_values_after arguments (call (change input input) files (change out out) err status)
  type_account exit gives input out err status r =
      exit_account on_values_after arguments all_found input out files fetches err status exit (gives_err exit gives) r

  -- If the report on the values at the type is written, then the run has an `Account`.
  pub known_account : (t : Bor Prepared) → GivesType name type found (Ok t.now) → (input : Change SourceState) (out err : Change ByteState) (status : Status)
      → DoesValueTask (value_tasks.Print (printings.Report t query) reading.limit) (passed_in reading) reading.only input out err status → Account on_values_after arguments (call input files out err status)
  known_account t gives input out err status does = does arguments all_found files fetches (prepared_ok t gives.0)

-- ---- SCRIPT

-- Lemmas on a run of `edit` in which FILE or TYPE cannot be read.
module _ (arguments : List (List ℕ)) (file type script : List ℕ) (compat lines decimal : Bool) (reading : ReadOptions) (asks : Asks arguments (edit file type script compat lines decimal reading)) (files : Change FilesState) (found : Found)
    (fetched : Fetched files file found) where
  abbrev file_found : Fetches
  file_found = two_found found unfetched

  file_wanted : WantsFile declared_types (edit file type script compat lines decimal reading) file
  file_wanted = record { has_path = tt; type = asked_with type lines decimal; typed = refl }

  file_fetches : FetchesFor on_values_after arguments files file_found
  file_fetches =
      fetches_after passed_by on_values_picked arguments file_found files
      (fetches_picked picked_by on_values arguments file_found files
      (new_fetches declared_types arguments file_found files.before files.after files.after
      (inl (file, wants_file declared_types arguments file_found (edit file type script compat lines decimal reading) asks file file_wanted, fetched)) (inr (refl, λ name is. refl))))

  file_gives : (exit : Exit) → GivesType file (asked_with type lines decimal) found (Err exit) → Prepares on_values_after arguments file_found (Err exit) ⊎ (exit ≡ out_of_memory)
  file_gives exit (inl reads) = inl (Ok (edit file type script compat lines decimal reading), asks, (Err exit, (Err exit, reads, refl), refl))
  file_gives exit (inr memory) = inr memory

  pub file_account : (exit : Exit) → GivesType file (asked_with type lines decimal) found (Err exit) → (input : SourceState) (out : ByteState) (err : Change ByteState) (status : Status)
      → Reports exit err status → Account on_values_after arguments (call (change input input) files (change out out) err status)
  file_account exit gives input out err status r = exit_account on_values_after arguments file_found input out files file_fetches err status exit (file_gives exit gives) r

-- Lemmas on a run of `edit` in which FILE and TYPE are read, and SCRIPT is next.
module _ (arguments : List (List ℕ)) (r : Bor Prepared) (script : List ℕ) (compat : Bool) (reading : ReadOptions) (a b c : FilesState) (asks : AsksToEdit arguments r.now script compat reading (change a b))
    (found : Found) (fetched : Fetched (change b c) script found) where
  abbrev both_found : Fetches
  both_found = two_found asks.found found

  abbrev request : Request
  request = edit asks.file asks.type script compat asks.lines asks.decimal reading

  edit_wanted : WantsFile declared_types request asks.file
  edit_wanted = record { has_path = tt; type = asked_with asks.type asks.lines asks.decimal; typed = refl }

  script_wanted : WantsScript declared_types request both_found script
  script_wanted = record {
    scripted = refl;
    typed = (asks.file, asked_with asks.type asks.lines asks.decimal);
    is_typed = refl;
    type = type_over r.now;
    reads = asks.gives.0;
  }

  both_fetched : FetchesFor on_values_after arguments (change a c) both_found
  both_fetched =
      fetches_after passed_by on_values_picked arguments both_found (change a c)
      (fetches_picked picked_by on_values arguments both_found (change a c)
      (new_fetches declared_types arguments both_found a b c
      (inl (asks.file, wants_file declared_types arguments both_found request asks.asks asks.file edit_wanted, asks.fetched))
      (inl (script, wants_script declared_types arguments both_found request asks.asks script script_wanted, fetched))))

  -- Positions in SCRIPT are reported in the form of positions in FILE and TYPE, and decimals are
  -- read as requested.
  as_asked : (result : Result (List ScriptLine) Exit) → ReadsScriptOf declared_types r.now.lines r.now.decimal (λ name. found) script result
      → ReadsScriptOf declared_types asks.lines asks.decimal (λ name. found) script result
  as_asked result reads =
      let asked = asked_with asks.type asks.lines asks.decimal in
      subst (λ d. ReadsScriptOf declared_types asks.lines d (λ name. found) script result) (given_decimal asks.file asked asks.found r.now asks.gives)
      (subst (λ l. ReadsScriptOf declared_types l r.now.decimal (λ name. found) script result) (given_lines asks.file asked asks.found r.now asks.gives) reads)

  script_gives : (exit : Exit) → GivesScript r.now.lines r.now.decimal script found (Err exit) → Prepares on_values_after arguments both_found (Err exit) ⊎ (exit ≡ out_of_memory)
  script_gives exit (inl reads) =
      let known = as_asked (Err exit) reads in
      inl (Ok request, asks.asks, (Err exit, (Ok (type_over r.now), asks.gives.0, (Err exit, known, refl)), refl))
  script_gives exit (inr memory) = inr memory

  pub script_account : (exit : Exit) → GivesScript r.now.lines r.now.decimal script found (Err exit) → (input : SourceState) (out : ByteState) (err : Change ByteState) (status : Status)
      → Reports exit err status → Account on_values_after arguments (call (change input input) (change a c) (change out out) err status)
  script_account exit gives input out err status reports =
      exit_account on_values_after arguments both_found input out (change a c) both_fetched err status exit (script_gives exit gives) reports

  -- If the values are edited, then the run has an `Account`.
  pub edits_account : (s : Bor Script) → GivesScript r.now.lines r.now.decimal script found (Ok s.now) → (input : Change SourceState) (out err : Change ByteState) (status : Status)
      → DoesValueTask (value_tasks.Edit (record { requested = r; script = s; compat = compat }) reading.limit) (record { bytes = reading.skip; copied = true }) reading.only input out err status → Account on_values_after arguments (call input (change a c) out err status)
  edits_account s gives input out err status does =
      let value_task = value_tasks.Edit (record { requested = r; script = s; compat = compat }) reading.limit in
      let read = as_asked (Ok s.now.lines) gives in
      does arguments both_found (change a c) both_fetched
      (Ok request, asks.asks, (refl, (refl, (Ok (task_of value_task).work, (Ok (type_over r.now), asks.gives.0, (Ok s.now.lines, read, refl)), refl))))

module _ (arguments : List (List ℕ)) (reading : ReadOptions) (files : FilesState) (input : Change SourceState) (out err : Change ByteState) (status : Status) where
  -- If the untyped dumps of the values are written, then the run has an `Account`.
  pub dump_account : Asks arguments (dump reading) → DoesValueTask (value_tasks.Print printings.Dump reading.limit) (passed_in reading) reading.only input out err status → Account on_values_after arguments (call input (change files files) out err status)
  dump_account asks does = does arguments nothing_found (change files files) (none_fetched arguments files) (Ok (dump reading), asks, (refl, (refl, (Ok dumps, refl, refl))))

  -- If two values are compared, then the run has an `Account`.
  pub compare_account : Asks arguments (compare reading) → DoesValueTask (value_tasks.Compare reading.limit) (passed_in reading) reading.only input out err status → Account on_values_after arguments (call input (change files files) out err status)
  compare_account asks does = does arguments nothing_found (change files files) (none_fetched arguments files) (Ok (compare reading), asks, (refl, (refl, (Ok compares, refl, refl))))

-- ---- the lines

-- Each line that a script file gives copies only from values before the edited value.
pub given_in_time : ((text : List ℕ) (lines : List ScriptLine) → AreEdits 1 text (Ok lines) → AreInTime lines) → (lines decimal : Bool) (name : List ℕ) (found : Found) (script : Script) → GivesScript lines decimal name found (Ok script) → AreInTime script.lines
given_in_time law lines decimal name found script (Ok text, read, is) = script_in_time law lines decimal text script.lines is
given_in_time law lines decimal name found script (Err exit, read, is) = absurd (cc is)
