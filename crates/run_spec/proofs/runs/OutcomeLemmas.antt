-- If the files and the input are read without faults, then their known contents determine the
-- outcome of the run.
use Rattle.std.proofs.Common.{◌≡◌, ◌≢◌, ◌⊎◌, ℕ, List, ◌++◌, Some, Result, Ok, Err, inl, inr, refl, sym, ap, ◌∙◌, subst, length, arith}
use Rattle.std.specs.Prelude.{MatchResult}
use Rattle.base_data.specs.model.Bytes.{AreBytes}
use Rattle.cli_spec.specs.declared.status.Status.{Status}
use Rattle.cli_spec.specs.declared.status.Status.TheVariants as statuses
use Rattle.cli_spec.specs.Outcome.{ReadingEnd, at_end, at_fault, at_length, unasked, whole, ending_of, ReadsFile, exits, Replies, replies, stopped}
use Rattle.cli_spec.specs.declared.exit.Exit.{Exit}
use Rattle.base_io.specs.Files.{File, contents_of}
use Rattle.run_spec.specs.runs.Account.{IsWanted, MayBe}
use Rattle.run_spec.specs.runs.Call.{Call}
use Rattle.run_spec.specs.runs.RunCauses.{IsDecided, IsExact, IsComplete}
use Rattle.run_spec.specs.runs.Commands.{Given, Commands, Prepares, GoesOn, IsLast, Closes, OutputsAll, Answers, RunReplies, Outcome}
use Rattle.run_spec.specs.runs.Given.{TakesFrom, ReportsBytes, IsMeasured, is_fault}
use Rattle.run_spec.specs.runs.Lawful.{IsWhole, AreLawfulAt, AreLawful}
use Rattle.run_spec.specs.runs.Environment.{IsOkRead}
use Rattle.run_spec.specs.runs.RunSpec.{known_files, Headline, Gives}
use Rattle.run_spec.proofs.runs.RunFileLemmas.{all_of, not_shorter, whole_known, ok_known, found_in, measured_in}
use Rattle.run_spec.proofs.runs.FailedLemmas.{took_fails, read_fails, open_fails}
use Rattle.run_spec.proofs.runs.HoldLemmas.{first_stays}
use Rattle.run_spec.proofs.runs.RunOnceLemmas.{replies_once}
use Rattle.run_spec.proofs.runs.RunSettledLemmas.{Goes}
use Rattle.run_spec.proofs.runs.RunKnownLemmas.{lawful_at}

pub is_memory : (s : Status) → (s ≡ statuses.Memory) ⊎ (s ≢ statuses.Memory)
is_memory statuses.Memory = inl refl
is_memory statuses.AllOk = inr (λ e. cc e)
is_memory statuses.No = inr (λ e. cc e)
is_memory statuses.Usage = inr (λ e. cc e)
is_memory statuses.Types = inr (λ e. cc e)
is_memory statuses.Value = inr (λ e. cc e)
is_memory statuses.Script = inr (λ e. cc e)
is_memory statuses.ReadFault = inr (λ e. cc e)
is_memory statuses.WriteFault = inr (λ e. cc e)
is_memory statuses.OpenFault = inr (λ e. cc e)
is_memory statuses.TooLong = inr (λ e. cc e)
is_memory statuses.Compat = inr (λ e. cc e)
is_memory statuses.Certificate = inr (λ e. cc e)

module _ {A : Type 0} (c : Commands A) (arguments : List (List ℕ)) (call : Call) (lawful : AreLawful c)
    (input : List ℕ) (files : List File) (ok : IsOkRead call input files)
    (given : Given) (may_be : MayBe c arguments call given) where
  -- ---- the files

  same_file :
      (turn : ℕ) (name : List ℕ) → IsWanted c arguments given.files turn name
      → (result : Result A Exit)
      → IsWhole (given.files turn name)
      ⊎ ((exit : Exit) × ReadsFile name (given.files turn name) (Err exit) × (result ≡ Err exit))
      → given.files turn name ≡ known_files files turn name
  same_file turn name wanted result (inl is) =
      whole_known (contents_of files name) (given.files turn name)
      (found_in c arguments call.files given.files may_be.files lawful turn name wanted files
      ok.files_known) is
  same_file turn name wanted result (inr (exit, fault, e)) =
      ok_known (contents_of files name) name (given.files turn name)
      (found_in c arguments call.files given.files may_be.files lawful turn name wanted files
      ok.files_known)
      (measured_in c arguments call.files given.files may_be.files lawful turn name wanted)
      (λ bytes is. ok.files_short name bytes is)
      (λ e. ok.opens
      (open_fails c arguments call.files given.files may_be.files lawful (turn, name, wanted, e)))
      (λ e. ok.reads
      (read_fails c arguments call.files given.files may_be.files lawful (turn, name, wanted, e)))
      exit fault

  -- If the task was prepared from the files of the run, then the known files determine the task.
  pub prepares_known :
      (found : Result A Exit) → Prepares c arguments given.files found
      → Prepares c arguments (known_files files) found
  prepares_known found (Err exit, none, same) = (Err exit, none, same)
  prepares_known found (Ok request, asks, finds) = (
    Ok request,
    asks,
    lawful.by_wanted request given.files (known_files files) found
        (λ turn name wants. same_file turn name
        (record { request = request; asks = asks; wants = wants }) found
        (lawful.reads_wanted request given.files found finds turn name wants)) finds,
  )

  -- ---- the input

  pub taken_rest :
      (rest : List ℕ) × TakesFrom input given.input rest × (call.input.after.bytes ≡ Some rest)
  taken_rest = rw ok.input_known at may_be.input.known

  module _ (a : A) (law : AreLawfulAt c a) (all : Replies) where
    outputs_known : OutputsAll c a given.input all → OutputsAll c a (whole input) all
    outputs_known s = go s.last where
      rest : List ℕ
      rest = taken_rest.0

      prefix : input ≡ given.input.bytes ++ rest
      prefix = taken_rest.1.prefix

      closed : (u : ReadingEnd) → given.input.until ≡ u → GoesOn c a s.items s.rest
          → Closes c a s.items s.rest u all.last → OutputsAll c a (whole input) all
      closed at_end e on closes =
          subst (λ b. OutputsAll c a (whole b) all)
          (sym (all_of input given.input rest taken_rest.1 e))
          (record { items = s.items; rest = s.rest; first = s.first; last = inr (on, closes) })
      closed at_fault e on closes = absurd (ok.takes (took_fails call.input.before.calls call.input.after.calls given.input may_be.input.called (ap is_fault e)))
      closed at_length e on closes =
          let m : IsMeasured at_length (length given.input.bytes) =
          subst (λ u. IsMeasured u (length given.input.bytes)) e may_be.input.measured in
          let long = not_shorter input given.input rest taken_rest.1 m.0 in
          let few = ok.input_short in absurd (omega (arith, long, few))
      closed unasked e on closes = absurd closes

      go : IsLast c a s.items s.rest given.input.until all.last → OutputsAll c a (whole input) all
      go (inl (exit, at, fine, is)) =
          subst (λ b. OutputsAll c a (whole b) all) (sym prefix) (record {
            items = s.items;
            rest = s.rest ++ rest;
            first = first_stays c a law given.input.bytes s.items all.output s.rest rest s.first;
            last = inl (exit, law.exit_stays s.items s.rest rest exit at, refl, is);
          })
      go (inr (on, closes)) = closed given.input.until refl on closes

    answers_known : Answers c a given.input all → Answers c a (whole input) all
    answers_known (inl (reads, s)) = inl (reads, outputs_known s)
    answers_known (inr alone) = inr alone

  -- The output for what was provided is the outcome of the known contents.
  pub outcome_known :
      (all : Replies) → RunReplies c arguments given all → Outcome c arguments (contents_of files) input all
  outcome_known all (found, p, m) = (found, prepares_known found p, goes found p m) where
    goes : (found : Result A Exit) → Prepares c arguments given.files found → Goes c given all found
        → MatchResult found (λ a. Answers c a (whole input) all) (λ exit. all ≡ stopped exit)
    goes (Ok a) p m = answers_known a (lawful_at c arguments call lawful given.files a p) all m
    goes (Err exit) p m = m

-- If the input determines a status, then replies with the status answer the input.
pub answers_of :
    {A : Type 0} (c : Commands A) (a : A) (input : List ℕ) (status : Status) → Gives c a input status
    → (all : Replies) × Answers c a (whole input) all × ((ending_of all).status ≡ status)
answers_of c a input status (inl (reads, exit, is, h)) = (
  replies h.output (exits exit),
  inl (
    reads,
    record {
      items = h.items;
      rest = h.rest;
      first = h.first;
      last = inl (exit, h.at, refl, refl);
    },
  ),
  is,
)
answers_of c a input status (inr (all, is, inl (reads, h))) = (
  all,
  inl (
    reads,
    record {
      items = h.items;
      rest = h.rest;
      first = h.first;
      last = inr (h.goes_on, h.ends);
    },
  ),
  is,
)
answers_of c a input status (inr (all, is, inr alone)) = (all, inr alone, is)

module _ {A : Type 0} (c : Commands A) (arguments : List (List ℕ)) (call : Call)
    (lawful : AreLawful c) where
  -- ---- a fault-free run

  module _ (reports : ReportsBytes call.input) (line : Headline c arguments call) where
    pub decided : IsDecided c arguments call
    decided input files honest some all outcome =
        let are_bytes : AreBytes input = rw honest.ok_read.input_known at reports in
        let o = line input files honest some in
        let same = replies_once c lawful arguments
        (record { files = known_files files; input = whole input }) are_bytes
        o.all all o.outcome outcome in
        o.status ∙ ap (λ all. (ending_of all).status) same

    pub exact : IsExact c arguments call
    exact input files honest some a status prepared gives =
        let o = answers_of c a input status gives in
        decided input files honest some o.0 (Ok a, prepared, o.1) ∙ o.2

    pub complete : IsComplete c arguments call
    complete input files honest a prepared given = decide (is_memory call.status) where
      decide : (call.status ≡ statuses.Memory) ⊎ (call.status ≢ statuses.Memory)
          → (call.status ≡ statuses.AllOk) ⊎ (call.status ≡ statuses.Memory)
      decide (inl memory) = inr memory
      decide (inr some) = inl (exact input files honest some a statuses.AllOk prepared given)
