-- Each status has its cause, and each cause leads to its status, by the specification of a run.
use Rattle.std.proofs.Common.{◌≡◌, ◌≢◌, ◌⊎◌, ◌^◌, ℕ, List, [], append-nil, take, Option, Some, None, Result, Ok, Err, inl, inr, refl, sym, ap, ◌∙◌, subst}
use Rattle.std.specs.Prelude.{◌↔◌, IfSome}
use Rattle.base_data.specs.model.Bytes.{AreBytes}
use Rattle.cli_spec.specs.declared.status.Status.{Status}
use Rattle.cli_spec.specs.declared.status.Status.TheVariants as statuses
use Rattle.cli_spec.specs.Outcome.{ReadingEnd, at_end, at_fault, at_length, unasked, Taken, exits, opened, whole, status_of, ending_of, Replies, stopped}
use Rattle.cli_spec.specs.declared.exit.Exit.{Exit}
use Rattle.cli_spec.specs.declared.exit.Exit.TheVariants.{Usage as usage, BadPath as bad_path, ReadFault as read_fault, TooLong as too_long}
use Rattle.base_io.specs.Files.{File, contents_of}
use Rattle.base_io.specs.History.{bytes_of}
use Rattle.run_spec.specs.runs.Account.{MayBe}
use Rattle.run_spec.specs.runs.Answered.{AnswersWhole}
use Rattle.run_spec.specs.runs.Call.{Call}
use Rattle.run_spec.specs.runs.RunCauses.{AreAsKnown, AreMeant, IfArguments, IfFiles, IsDecided}
use Rattle.run_spec.specs.runs.Commands.{Fetches, Given, Commands, GoesOn, Closes, Prepares, HaveExit, IsLast, OutputsAll, Answers, RunReplies}
use Rattle.run_spec.specs.runs.Given.{IsFoundOf, ReportsBytes}
use Rattle.run_spec.specs.runs.Lawful.{AreLawful}
use Rattle.run_spec.specs.runs.Environment.{IsWriteOrMemoryError, IsEnvironment}
use Rattle.run_spec.specs.runs.RunSpec.{known_files, HoldEnd, HasOutcome, Headline, ExitsBefore, Means, IfExit, IfEnd, IfUsage}
use Rattle.run_spec.proofs.runs.CallLemmas.{input_of}
use Rattle.run_spec.proofs.runs.RunFileLemmas.{all_of}
use Rattle.run_spec.proofs.runs.RunOnceLemmas.{prepares_once, replies_once}
use Rattle.run_spec.proofs.runs.OutcomeLemmas.{is_memory, answers_of}
use Rattle.run_spec.proofs.runs.RunSettledLemmas.{Goes, IsStatus, settled, exit_status}
use Rattle.run_spec.proofs.runs.RunKnownLemmas.{lawful_at, either, exit_comes, end_comes}
use Rattle.run_spec.specs.exit_causes.Causes.{Tables, AreExact, Show, IsBarred, IsCaused, OnlyCaused, IfBadArguments, IfBarred, IsToBeDone, IfShown, IsDue, HasWhatIsDue, HasWhatIsDueAtEnd}
use Rattle.run_spec.proofs.exit_causes.ExitCauseTableLemmas.{bar_of, bar_found, exit_with, exit_held, end_with, end_held, shows_given, gives_shown}

-- If a file was read completely, then the text read is the whole text that the file map has for the
-- file's name.
read_whole :
    (contents : Option (List ℕ)) (text : List ℕ) → IsFoundOf contents (opened (whole text))
    → contents ≡ Some text
read_whole None text h = absurd h
read_whole (Some bytes) text (rest, takes) =
    ap (λ b. Some b) (all_of bytes (whole text) rest takes refl)

module _ {A : Type 0} (c : Commands A) (tables : Tables A) (exact : AreExact c tables)
    (arguments : List (List ℕ)) (call : Call) where
  -- ---- a status has its cause

  barred :
      (status : Status) → AreAsKnown c arguments call
      → ExitsBefore c arguments call status → IsBarred c tables arguments call status
  barred status as_known b = record {
    found = b.found;
    fetches = b.files;
    request = b.request;
    asks = b.asks;
    bar = subst (tables.Bar b.request b.found) b.is (bar_of c tables exact b.request b.found b.exit b.finds);
    is_known = λ turn name text wants read. is_known turn name text read call.files.before.map
        (as_known b.found b.files turn name
        (record { request = b.request; asks = b.asks; wants = wants }));
  } where
    is_known : (turn : ℕ) (name text : List ℕ) → b.found turn name ≡ opened (whole text)
        → (map : Option (List File))
        → IfSome map (λ all. IsFoundOf (contents_of all name) (b.found turn name))
        → IfSome map (λ all. contents_of all name ≡ Some text)
    is_known turn name text read None h = tt
    is_known turn name text read (Some all) h =
        read_whole (contents_of all name) text
        (subst (IsFoundOf (contents_of all name)) read h)

  -- The bytes that were read lead to the status of the replies.
  module _ (a : A) (taken : Taken) (all : Replies) (s : OutputsAll c a taken all)
      (are_bytes : AreBytes taken.bytes) where
    exit_shown :
        (exit : Exit) → c.Exits a s.items s.rest exit → all.last ≡ exits exit
        → Show c tables a taken.bytes (ending_of all).status
    exit_shown exit at is =
        inl (subst (tables.ExitWith a taken.bytes) (sym (exit_status all exit is))
        (exit_with c tables exact a taken.bytes exit (record {
          items = s.items;
          output = all.output;
          rest = s.rest;
          first = s.first;
          at = at;
        })))

    end_shown :
        GoesOn c a s.items s.rest → c.Ends a s.items s.rest all.last
        → Show c tables a taken.bytes (ending_of all).status
    end_shown on closes =
        inr (end_with c tables exact a taken.bytes are_bytes all.output all.last (record {
          items = s.items;
          rest = s.rest;
          first = s.first;
          goes_on = on;
          ends = closes;
        }))

    shown :
        (ending_of all).status ≢ statuses.ReadFault → (ending_of all).status ≢ statuses.TooLong
        → Show c tables a taken.bytes (ending_of all).status
    shown not_read not_long = by s.last where
      closed : (u : ReadingEnd) → GoesOn c a s.items s.rest
          → Closes c a s.items s.rest u all.last
          → Show c tables a taken.bytes (ending_of all).status
      closed at_end on closes = end_shown on closes
      closed at_fault on closes = absurd (not_read (exit_status all read_fault closes))
      closed at_length on closes = absurd (not_long (exit_status all too_long closes))
      closed unasked on closes = absurd closes

      by : IsLast c a s.items s.rest taken.until all.last
          → Show c tables a taken.bytes (ending_of all).status
      by (inl (exit, at, fine, is)) = exit_shown exit at is
      by (inr (on, closes)) = closed taken.until on closes

  module _ (as_known : AreAsKnown c arguments call) where
    -- If the status is that of an outcome, then the status has a cause, even if the input is not
    -- known.
    inconclusive :
        (given : Given) → MayBe c arguments call given
        → IfSome call.input.before.bytes (λ bytes. bytes ≡ given.input.bytes) → (all : Replies)
        → RunReplies c arguments given all
        → (ending_of all).status ≢ statuses.ReadFault → (ending_of all).status ≢ statuses.TooLong
        → IsCaused c tables arguments call (ending_of all).status
    inconclusive given may_be known all (Ok a, p, inr alone) not_read not_long = absurd (alone.unread (exact.read a))
    inconclusive given may_be known all (Ok a, p, inl (reads, s)) not_read not_long =
        inr (inr (
          given.files,
          may_be.files,
          a,
          p,
          given.input.bytes,
          known,
          input_of call.input given.input may_be.input.called given.input.bytes []
              (sym (append-nil given.input.bytes)) (λ e. refl),
          (may_be.input.are_bytes, shown a given.input all s may_be.input.are_bytes not_read not_long),
        ))
    inconclusive given may_be known all (Err exit, (Ok request, asks, finds), m) not_read not_long =
        inr (inl (barred (ending_of all).status as_known (record {
          found = given.files;
          files = may_be.files;
          request = request;
          asks = asks;
          exit = exit;
          finds = finds;
          is = sym (ap (λ all. (ending_of all).status) m);
        })))
    inconclusive given may_be known all (Err other, (Err exit, (none, is), same), m) not_read not_long =
        let e : other ≡ usage = (let k : other ≡ exit = cc same in k ∙ is) in
        inl (none, ap (λ all. (ending_of all).status) m ∙ ap status_of e)

    pub only :
        AreMeant c arguments call → ReportsBytes call.input
        → IsStatus c arguments call → OnlyCaused c tables arguments call
    only meant reports p status not_read not_long not_unsaid e =
        by call.input.before.bytes refl where
          caused : (bytes : List ℕ) → call.input.before.bytes ≡ Some bytes
              → Means c arguments call status → IsCaused c tables arguments call status
          caused bytes known (inl none) = inl none
          caused bytes known (inr (inl before)) = inr (inl (barred status as_known before))
          caused bytes known (inr (inr (found, files, a, prepared, input, is, begins, gives))) =
              let same : bytes ≡ input = rw known at is in
              let are_bytes : AreBytes bytes = rw known at reports in
              inr (inr (
                found,
                files,
                a,
                prepared,
                input,
                is,
                begins,
                (subst AreBytes same are_bytes, shows_given c tables exact a input status (subst AreBytes same are_bytes) gives),
              ))

          some : IsStatus c arguments call → call.input.before.bytes ≡ None
              → IsCaused c tables arguments call status
          some (inr write_or_memory_error) none = absurd (not_unsaid (subst IsWriteOrMemoryError e write_or_memory_error))
          some (inl o) none =
              let same : (ending_of o.all).status ≡ status = sym o.is ∙ e in
              subst (IsCaused c tables arguments call) same (inconclusive o.given o.may_be
              (subst (λ b. IfSome b (λ bytes. bytes ≡ o.given.input.bytes)) (sym none) tt) o.all
              o.outcome (λ k. not_read (sym same ∙ k)) (λ k. not_long (sym same ∙ k)))

          by : (o : Option (List ℕ)) → call.input.before.bytes ≡ o
              → IsCaused c tables arguments call status
          by (Some bytes) known = caused bytes known (meant status not_read not_long not_unsaid e)
          by None none = some p none

  -- ---- a cause leads to its status

  pub bad_arguments :
      IfUsage c arguments call → IfArguments c arguments call
      → IfBadArguments c tables arguments call
  bad_arguments usage_if arguments_if (inl none) = usage_if none
  bad_arguments usage_if arguments_if (inr (request, asks, none)) =
      arguments_if bad_path
      (λ files. (Ok request, asks, exact.bad_arguments request none files))

  pub if_barred : IfFiles c arguments call → IfBarred c tables arguments call
  if_barred files_if files request status map short asks bar =
      let s = bar_found c tables exact request (known_files files) status bar in
      subst (λ s. (call.status ≡ s) ⊎ IsEnvironment call.status) s.1
      (files_if files s.0 map short (Ok request, asks, s.2))

  module _ (lawful : AreLawful c) (p : IsStatus c arguments call)
      (a : A)
      (any : (files : Fetches) → Prepares c arguments files (Ok a)) where
    -- If `Holds` is true of the replies to the input, then `Holds` is true of the replies of each
    -- outcome, whatever the files are.
    any_comes :
        (Holds : Status → Type 0)
        → ((given : Given) (may_be : MayBe c arguments call given) (all : Replies)
        → OutputsAll c a given.input all → Holds (ending_of all).status)
        → Holds call.status ⊎ IsWriteOrMemoryError call.status
    any_comes Holds comes =
        settled c arguments call p Holds
        (λ given may_be all outcome. by given may_be all outcome.0
        (prepares_once c lawful arguments given.files (Ok a) outcome.0
        (any given.files) outcome.1) outcome.2) where
          answered : (given : Given) → MayBe c arguments call given → (all : Replies)
              → Answers c a given.input all → Holds (ending_of all).status
          answered given may_be all (inl (reads, s)) = comes given may_be all s
          answered given may_be all (inr alone) = absurd (alone.unread (exact.read a))

          by : (given : Given) → MayBe c arguments call given → (all : Replies)
              → (found : Result (A) Exit) → Ok a ≡ found
              → Goes c given all found → Holds (ending_of all).status
          by given may_be all (Err exit) e m = absurd (cc e)
          by given may_be all (Ok b) e m =
              let same : b ≡ a = cc e in
              answered given may_be all
              (subst (λ b. Answers c b given.input all) same m)

  pub if_shown :
      AreLawful c → IsStatus c arguments call
      → ReportsBytes call.input → IfExit c arguments call
      → IfEnd c arguments call → IfShown c tables arguments call
  if_shown lawful p reports exit_if end_if a bytes status to_do is_known (inl stopping) = by to_do where
    s : (exit : Exit) × (status_of exit ≡ status)
        × HaveExit c a (take (2 ^ 48) bytes) exit
    s = exit_held c tables exact a (take (2 ^ 48) bytes) status stopping

    comes : (given : Given) (may_be : MayBe c arguments call given) (all : Replies)
        → (found : (files : Fetches) → Prepares c arguments files (Ok a))
        → OutputsAll c a given.input all
        → ((ending_of all).status ≡ status_of s.0) ⊎ IsEnvironment (ending_of all).status
    comes given may_be all found output =
        exit_comes c arguments call lawful reports bytes is_known given.input may_be.input a
        (lawful_at c arguments call lawful given.files a (found given.files)) all output
        s.0 s.2

    stopped_so : (call.status ≡ status_of s.0) ⊎ IsEnvironment call.status
        → (call.status ≡ status) ⊎ IsEnvironment call.status
    stopped_so = subst (λ s. (call.status ≡ s) ⊎ IsEnvironment call.status) s.1

    by : IsToBeDone c tables arguments call a → (call.status ≡ status) ⊎ IsEnvironment call.status
    by (inl any) =
        stopped_so (either c arguments call lawful
        (any_comes lawful p a any
        (λ s'. (s' ≡ status_of s.0) ⊎ IsEnvironment s')
        (λ given may_be all output. comes given may_be all any output)))
    by (inr (files, map, short, prepared)) =
        stopped_so (exit_if a bytes s.0 (record {
          files = files;
          map = map;
          short = short;
          prepared = prepared;
          reads = exact.read a;
          input = is_known;
        }) s.2)
  if_shown lawful p reports exit_if end_if a bytes status to_do is_known (inr (short_bytes, ends)) =
      by to_do where
        are_bytes : AreBytes bytes
        are_bytes = rw is_known at reports

        e : (all : Replies) × ((ending_of all).status ≡ status)
            × HoldEnd c a bytes all.output all.last
        e = end_held c tables exact a bytes status are_bytes ends

        comes : (given : Given) (may_be : MayBe c arguments call given) (all : Replies)
            → (found : (files : Fetches) → Prepares c arguments files (Ok a))
            → OutputsAll c a given.input all
            → ((ending_of all).status ≡ (ending_of e.0).status) ⊎ IsEnvironment (ending_of all).status
        comes given may_be all found output =
            end_comes c arguments call lawful reports bytes is_known given.input may_be.input a
            (lawful_at c arguments call lawful given.files a (found given.files)) all output
            e.0 short_bytes e.2

        ended_so : (call.status ≡ (ending_of e.0).status) ⊎ IsEnvironment call.status
            → (call.status ≡ status) ⊎ IsEnvironment call.status
        ended_so = subst (λ s. (call.status ≡ s) ⊎ IsEnvironment call.status) e.1

        by : IsToBeDone c tables arguments call a → (call.status ≡ status) ⊎ IsEnvironment call.status
        by (inl any) =
            ended_so (either c arguments call lawful
            (any_comes lawful p a any
            (λ s'. (s' ≡ (ending_of e.0).status) ⊎ IsEnvironment s')
            (λ given may_be all output. comes given may_be all any output)))
        by (inr (files, map, short, prepared)) =
            ended_so (end_if a bytes e.0 (record {
              files = files;
              map = map;
              short = short;
              prepared = prepared;
              reads = exact.read a;
              input = is_known;
            }) short_bytes e.2)

  -- ---- a whole input

  module _ (input : List ℕ) (found : Fetches) (are_bytes : AreBytes input) where
    abbrev provided : Given
    provided = record { files = found; input = whole input }

    -- If the replies `all` are an outcome, then `IsDue` holds for the status of the replies.
    due_of :
        (all : Replies) → RunReplies c arguments provided all
        → IsDue c tables arguments input found (ending_of all).status
    due_of all (Ok a, prepared, inr alone) = absurd (alone.unread (exact.read a))
    due_of all (Ok a, prepared, inl (reads, s)) = inr (inr (a, prepared, by s.last)) where
      by : IsLast c a s.items s.rest at_end all.last
          → Show c tables a input (ending_of all).status
      by (inl (exit, at, fine, is)) = exit_shown a (whole input) all s are_bytes exit at is
      by (inr (on, closes)) = end_shown a (whole input) all s are_bytes on closes
    due_of all (Err exit, (Ok request, asks, finds), m) =
        inr (inl (
          request,
          asks,
          subst (tables.Bar request found) (sym (ap (λ all. (ending_of all).status) m))
              (bar_of c tables exact request found exit finds),
        ))
    due_of all (Err other, (Err exit, (none, is), same), m) =
        let e : other ≡ usage = (let k : other ≡ exit = cc same in k ∙ is) in
        inl (none, ap (λ all. (ending_of all).status) m ∙ ap status_of e)

    -- If `IsDue` holds for a status, then an outcome has the status.
    due_outcome :
        (status : Status) → IsDue c tables arguments input found status
        → (all : Replies) × RunReplies c arguments provided all × ((ending_of all).status ≡ status)
    due_outcome status (inl (none, is)) =
        (stopped usage, (Err usage, (Err usage, (none, refl), refl), refl), sym is)
    due_outcome status (inr (inl (request, asks, bar))) =
        let s = bar_found c tables exact request found status bar in
        (stopped s.0, (Err s.0, (Ok request, asks, s.2), refl), s.1)
    due_outcome status (inr (inr (a, prepared, shows))) =
        let o = answers_of c a input status (gives_shown c tables exact a input status are_bytes shows) in
        (o.0, (Ok a, prepared, o.1), o.2)

  -- A run that found the end of its input has the status that the bytes of its calls determine.
  pub due_at_end :
      AreLawful c → AnswersWhole c arguments call → HasWhatIsDueAtEnd c tables arguments call
  due_at_end lawful answers unbroken new are ended =
      let g = answers unbroken new are ended in
      let input : List ℕ = bytes_of new in
      let are_bytes : AreBytes input = g.1.input.are_bytes in (
        g.0,
        g.1.files,
        λ status. (
          λ e. subst (IsDue c tables arguments input g.0) (sym g.2.status ∙ e)
              (due_of input g.0 are_bytes g.2.all g.2.outcome),
          λ due.
              let o = due_outcome input g.0 are_bytes status due in
              let same : g.2.all ≡ o.0 =
              replies_once c lawful arguments (provided input g.0 are_bytes) are_bytes g.2.all o.0 g.2.outcome o.1 in
              g.2.status ∙ (ap (λ (all : Replies). (ending_of all).status) same ∙ o.2),
        ),
      )

  -- ---- a fault-free run

  pub due :
      ReportsBytes call.input → Headline c arguments call → IsDecided c arguments call
      → HasWhatIsDue c tables arguments call
  due reports headline decided input files honest = by (is_memory call.status) where
    are_bytes : AreBytes input
    are_bytes = rw honest.ok_read.input_known at reports

    by : (call.status ≡ statuses.Memory) ⊎ (call.status ≢ statuses.Memory)
        → (call.status ≡ statuses.Memory)
        ⊎ ((status : Status) → (call.status ≡ status) ↔ IsDue c tables arguments input (known_files files) status)
    by (inl memory) = inl memory
    by (inr some) = inr (λ status. (
      λ e. comes status e (headline input files honest some),
      λ due.
          let o = due_outcome input (known_files files) are_bytes status due in
          decided input files honest some o.0 o.1 ∙ o.2,
    )) where
      comes : (status : Status) → call.status ≡ status
          → HasOutcome c arguments call input files
          → IsDue c tables arguments input (known_files files) status
      comes status e o =
          subst (IsDue c tables arguments input (known_files files)) (sym o.status ∙ e)
          (due_of input (known_files files) are_bytes o.all o.outcome)
