-- The status that a run must have, given the known files and the known input.
use Rattle.std.proofs.Common.{◌≡◌, ◌⊎◌, ◌<◌, ◌≤◌, ◌+◌, ◌-◌, ◌^◌, ℕ, List, [], ◌++◌, Some, None, Result, Ok, Err, inl, inr, refl, sym, ap, ◌∙◌, subst, length, take, arith}
use Rattle.std.proofs.lemmas.List.{take-append-le}
use Rattle.std.proofs.Math.Seq.{take-append_seam, take-append-add}
use Rattle.std.proofs.lemmas.List.Elements.{All-take}
use Rattle.base_data.specs.model.Bytes.{AreBytes}
use Rattle.cli_spec.specs.declared.status.Status.{Status}
use Rattle.cli_spec.specs.declared.status.Status.TheVariants as statuses
use Rattle.cli_spec.specs.Outcome.{ReadingEnd, at_end, at_fault, at_length, unasked, Taken, Request, Asks, status_of, ending_of, fault_of, ReadsFile, Output, Replies, replies, stopped}
use Rattle.cli_spec.specs.declared.exit.Exit.{Exit}
use Rattle.cli_spec.specs.declared.exit.Exit.TheVariants.{ReadFault as read_fault, TooLong as too_long}
use Rattle.cli_args.proofs.RequestLemmas.{one_request}
use Rattle.base_io.specs.Files.{File, contents_of}
use Rattle.run_spec.specs.runs.Account.{IsWanted, MayBe, HaveNoExit}
use Rattle.run_spec.specs.runs.Call.{Call}
use Rattle.run_spec.specs.runs.Commands.{Given, Commands, Prepares, OutputsFirst, GoesOn, HaveExit, IsLast, Closes, OutputsAll, Answers, RunReplies, Fetches}
use Rattle.run_spec.specs.runs.Given.{TakesFrom, Gathers, ReportsBytes, IsMeasured}
use Rattle.run_spec.specs.runs.Lawful.{IsWhole, IsInner, FailsAtFile, AreLawfulAt, AreLawful}
use Rattle.run_spec.specs.runs.Environment.{IsWriteOrMemoryError, IsEnvironment, AreShort}
use Rattle.run_spec.specs.runs.RunSpec.{known_files, HoldEnd}
use Rattle.run_spec.proofs.runs.RunFileLemmas.{all_of, not_shorter, IsFault, whole_known, fault_environment, found_in, measured_in}
use Rattle.run_spec.proofs.runs.HoldLemmas.{hold_stays, hold_all, hold_once, hold_or_on, on_stuck}
use Rattle.run_spec.proofs.runs.RunOnceLemmas.{prepared_found, split_bytes, stuck_once}
use Rattle.run_spec.proofs.runs.RunSettledLemmas.{Goes, exit_status, file_outer}

pub prefix_bytes : (prefix more : List ℕ) → AreBytes (prefix ++ more) → AreBytes prefix
prefix_bytes prefix more h =
    subst AreBytes (take-append_seam prefix more)
    (All-take (λ b. b < 256) (length prefix) (prefix ++ more) h)

-- The environment or too many bytes caused the status.
abbrev pub IsFaultOrLong : Status → Type 0
IsFaultOrLong status = IsEnvironment status ⊎ (status ≡ statuses.TooLong)

-- If a file is short enough, then the environment caused the status of the file's fault.
pub short_faults :
    (all : List File) → AreShort all → (name : List ℕ) (exit : Exit)
    → IsFault (contents_of all name) exit → IsEnvironment (status_of exit)
short_faults all short name exit (inl out) = out
short_faults all short name exit (inr (long, (bytes, is, many))) =
    let few = short name bytes is in absurd (omega (arith, few, many))

pub long_faults :
    (all : List File) (name : List ℕ) (exit : Exit) → IsFault (contents_of all name) exit
    → IsFaultOrLong (status_of exit)
long_faults all name exit (inl out) = inl out
long_faults all name exit (inr (long, more)) = inr long

take_longer :
    (n : ℕ) (xs ys : List ℕ) → length xs ≤ n
    → take n (xs ++ ys) ≡ xs ++ take (n - length xs) ys
take_longer n xs ys fits =
    let e : n ≡ length xs + (n - length xs) = omega (arith, fits) in
    ap (λ k. take k (xs ++ ys)) e ∙ take-append-add xs ys (n - length xs)

module _ {A : Type 0} (c : Commands A) (arguments : List (List ℕ)) (call : Call) (lawful : AreLawful c) where
  pub lawful_at : (files : Fetches) (a : A) → Prepares c arguments files (Ok a) → AreLawfulAt c a
  lawful_at files a p = lawful.at a (prepared_found c lawful arguments files a p)

  -- All requested files are read completely.
  abbrev AreWhole : Request → Fetches → Type 0
  AreWhole request files =
      (turn : ℕ) (name : List ℕ) → c.Wants request files turn name → IsWhole (files turn name)

  -- All requested files are read completely, or one requested file is not read completely and ends
  -- the run.
  wholes_or_fails :
      (request : Request) (files : Fetches) (found : Result A Exit) → c.Finds request files found
      → AreWhole request files ⊎ FailsAtFile c request files found
  wholes_or_fails request files (Ok a) finds =
      inl (λ turn name wants.
      go turn name (lawful.reads_wanted request files (Ok a) finds turn name wants)) where
        go : (turn : ℕ) (name : List ℕ)
            → IsWhole (files turn name)
            ⊎ ((exit : Exit) × ReadsFile name (files turn name) (Err exit)
            × (◌≡◌ {A = Result A Exit} (Ok a) (Err exit)))
            → IsWhole (files turn name)
        go turn name (inl whole) = whole
        go turn name (inr (exit, fault, e)) = absurd (cc e)
  wholes_or_fails request files (Err exit) finds =
      by (lawful.finds_inside request files exit finds) where
        by : IsInner exit ⊎ FailsAtFile c request files (Err exit)
            → AreWhole request files ⊎ FailsAtFile c request files (Err exit)
        by (inr fails) = inr fails
        by (inl inner) = inl (λ turn name wants.
            go turn name (lawful.reads_wanted request files (Err exit) finds turn name wants)) where
              go : (turn : ℕ) (name : List ℕ)
                  → IsWhole (files turn name)
                  ⊎ ((other : Exit) × ReadsFile name (files turn name) (Err other)
                  × (◌≡◌ {A = Result A Exit} (Err exit) (Err other)))
                  → IsWhole (files turn name)
              go turn name (inl whole) = whole
              go turn name (inr (other, fault, e)) =
                  let same : exit ≡ other = cc e in
                  absurd (file_outer (files turn name) name other fault (subst IsInner same inner))

  -- ---- the known files

  module _ (given : Given) (may_be : MayBe c arguments call given) (all : List File)
      (map : call.files.before.map ≡ Some all) where
    -- The known files determine the task, or one of the files was not read.
    abbrev IsKnownOr : (Status → Type 0) → Result A Exit → Result A Exit → Type 0
    IsKnownOr Faults found result =
        (found ≡ result) ⊎ ((exit : Exit) × (found ≡ Err exit) × Faults (status_of exit))

    fails_so :
        (request : Request) → Asks arguments request → (found : Result A Exit)
        → (fails : FailsAtFile c request given.files found)
        → IsFault (contents_of all fails.name) fails.exit
    fails_so request asks found fails =
        let wanted : IsWanted c arguments given.files fails.turn fails.name =
        record { request = request; asks = asks; wants = fails.wants } in
        fault_environment (contents_of all fails.name) fails.name (given.files fails.turn fails.name)
        (found_in c arguments call.files given.files may_be.files lawful fails.turn fails.name wanted all map)
        (measured_in c arguments call.files given.files may_be.files lawful fails.turn fails.name wanted)
        fails.exit fails.fault

    module _ (Faults : Status → Type 0) (may : (name : List ℕ) (exit : Exit) → IsFault (contents_of all name) exit → Faults (status_of exit))
        (result : Result A Exit) where
      known_found :
          Prepares c arguments (known_files all) result → (found : Result A Exit)
          → Prepares c arguments given.files found → IsKnownOr Faults found result
      known_found (Ok asked, asks', finds') found (Ok request, asks, finds) =
          go (wholes_or_fails request given.files found finds) where
            go : AreWhole request given.files ⊎ FailsAtFile c request given.files found
                → IsKnownOr Faults found result
            go (inl wholes) =
                let same = λ (turn : ℕ) (name : List ℕ) (wants : c.Wants request given.files turn name).
                whole_known (contents_of all name) (given.files turn name)
                (found_in c arguments call.files given.files may_be.files lawful turn name
                (record { request = request; asks = asks; wants = wants }) all map)
                (wholes turn name wants) in
                let there = lawful.by_wanted request given.files (known_files all) found same finds in
                inl (lawful.finds_once request (known_files all) found result there
                (subst (λ q. c.Finds q (known_files all) result)
                (one_request arguments asked request asks' asks) finds'))
            go (inr fails) =
                inr (fails.exit, fails.is, may fails.name fails.exit (fails_so request asks found fails))
      known_found (Ok asked, asks', finds') found (Err exit, (none, is), same) =
          absurd (none asked asks')
      known_found (Err other, (none, is), same) found (Ok request, asks, finds) =
          absurd (none request asks)
      known_found (Err other, (none, is), same) found (Err exit, (none', is'), same') =
          inl (same' ∙ (ap (λ s. Err s) (is' ∙ sym is) ∙ sym same))

  -- ---- the resulting status

  pub either :
      {P : Type 0} → (P ⊎ IsEnvironment call.status) ⊎ IsWriteOrMemoryError call.status → P ⊎ IsEnvironment call.status
  either (inl h) = h
  either (inr write_or_memory_error) = inr (inr (inr write_or_memory_error))

  -- If `Holds` is true of the task's statuses and of the statuses of file faults, then `Holds` is
  -- true of the run's status.
  module _ (Holds : Status → Type 0) (all : List File) (map : call.files.before.map ≡ Some all) (a : A)
      (prepared : Prepares c arguments (known_files all) (Ok a))
      (may : (name : List ℕ) (exit : Exit) → IsFault (contents_of all name) exit → Holds (status_of exit))
      (comes : (given : Given) → MayBe c arguments call given → AreLawfulAt c a → (replies : Replies)
      → Answers c a given.input replies → Holds (ending_of replies).status) where
    pub comes_of :
        (given : Given) (may_be : MayBe c arguments call given) (all_replies : Replies)
        → RunReplies c arguments given all_replies → Holds (ending_of all_replies).status
    comes_of given may_be all_replies (found, p, m) =
        go (known_found given may_be all map Holds may (Ok a) prepared found p) where
          go : (found ≡ Ok a) ⊎ ((exit : Exit) × (found ≡ Err exit) × Holds (status_of exit))
              → Holds (ending_of all_replies).status
          go (inr (exit, e, out)) =
              let is : all_replies ≡ stopped exit = subst (Goes c given all_replies) e m in
              subst (λ all. Holds (ending_of all).status) (sym is) out
          go (inl e) =
              let law = lawful_at given.files a (subst (λ f. Prepares c arguments given.files f) e p) in
              let answers : Answers c a given.input all_replies = subst (Goes c given all_replies) e m in
              comes given may_be law all_replies answers

  -- ---- the known input

  module _ (reports : ReportsBytes call.input) (bytes : List ℕ) (known : call.input.before.bytes ≡ Some bytes) where
    are_bytes : AreBytes bytes
    are_bytes = rw known at reports

    module _ (taken : Taken) (took : Gathers call.input taken) (a : A) (law : AreLawfulAt c a)
        (all : Replies) (s : OutputsAll c a taken all) where
      taken_prefix :
          (rest : List ℕ) × TakesFrom bytes taken rest × (call.input.after.bytes ≡ Some rest)
      taken_prefix = rw known at took.known

      all_taken : taken.until ≡ at_end → bytes ≡ taken.bytes
      all_taken e = all_of bytes taken taken_prefix.0 taken_prefix.1 e

      taken_bytes : AreBytes taken.bytes
      taken_bytes =
          prefix_bytes taken.bytes taken_prefix.0 (subst AreBytes taken_prefix.1.prefix are_bytes)

      measured : (u : ReadingEnd) → taken.until ≡ u → IsMeasured u (length taken.bytes)
      measured u e = subst (λ u. IsMeasured u (length taken.bytes)) e took.measured

      -- If an exit reason ends the replies, then the input contains the exit reason.
      exit_there :
          (exit : Exit) → c.Exits a s.items s.rest exit
          → HaveExit c a taken.bytes exit × HaveExit c a bytes exit
      exit_there exit at =
          let here : HaveExit c a taken.bytes exit =
          record { items = s.items; output = all.output; rest = s.rest; first = s.first; at = at } in (
            here,
            subst (λ b. HaveExit c a b exit) (sym taken_prefix.1.prefix)
                (hold_stays c a law taken.bytes taken_prefix.0 exit here),
          )

      -- If the input contains an exit reason, then the replies end with the exit reason, or an
      -- operation failed.
      pub exit_comes :
          (exit : Exit) → HaveExit c a (take (2 ^ 48) bytes) exit
          → ((ending_of all).status ≡ status_of exit) ⊎ IsEnvironment (ending_of all).status
      exit_comes exit holds = go s.last where
        in_all : HaveExit c a bytes exit
        in_all = hold_all c a law (2 ^ 48) bytes exit holds

        not_on : GoesOn c a s.items s.rest → HaveExit c a taken.bytes exit → ⊥
        not_on on held =
            hold_or_on c a law taken.bytes exit taken_bytes held s.items all.output s.rest s.first on

        closed : (u : ReadingEnd) → taken.until ≡ u → GoesOn c a s.items s.rest
            → Closes c a s.items s.rest u all.last
            → ((ending_of all).status ≡ status_of exit) ⊎ IsEnvironment (ending_of all).status
        closed at_end e on closes =
            absurd (not_on on (subst (λ b. HaveExit c a b exit) (all_taken e) in_all))
        closed at_fault e on closes = inr (inl (exit_status all read_fault closes))
        closed at_length e on closes =
            let long = (measured at_length e).0 in
            let same : take (2 ^ 48) bytes ≡ take (2 ^ 48) taken.bytes =
            ap (λ b. take (2 ^ 48) b) taken_prefix.1.prefix
            ∙ take-append-le (2 ^ 48) taken.bytes taken_prefix.0 long in
            absurd (not_on on (hold_all c a law (2 ^ 48) taken.bytes exit
            (subst (λ b. HaveExit c a b exit) same holds)))
        closed unasked e on closes = absurd closes

        go : IsLast c a s.items s.rest taken.until all.last
            → ((ending_of all).status ≡ status_of exit) ⊎ IsEnvironment (ending_of all).status
        go (inl (other, at, fine, is)) =
            inl (exit_status all other is ∙ ap status_of
            (hold_once c a law bytes are_bytes other exit (exit_there other at).1 in_all))
        go (inr (on, closes)) = closed taken.until refl on closes

      -- If the input ends with a reply, then the replies end with the status of the reply, or an
      -- operation failed.
      pub end_comes :
          (known_all : Replies) → length bytes < 2 ^ 48
          → HoldEnd c a bytes known_all.output known_all.last
          → ((ending_of all).status ≡ (ending_of known_all).status) ⊎ IsEnvironment (ending_of all).status
      end_comes known_all short h = go s.last where
        closed : (u : ReadingEnd) → taken.until ≡ u → GoesOn c a s.items s.rest
            → Closes c a s.items s.rest u all.last
            → ((ending_of all).status ≡ (ending_of known_all).status)
            ⊎ IsEnvironment (ending_of all).status
        closed at_end e on closes =
            let split = subst (λ b. OutputsFirst c a b s.items all.output s.rest) (sym (all_taken e)) s.first in
            let one = stuck_once c a law [] bytes s.items h.items s.rest h.rest all.output known_all.output
            are_bytes split.split split.all_print (on_stuck c a law s.items s.rest on)
            h.first.split h.first.all_print (on_stuck c a law h.items h.rest h.goes_on) in
            let rest = split_bytes c a law [] bytes s.items s.rest are_bytes split.split in
            let last : all.last ≡ known_all.last =
            law.ends_once s.items s.rest rest all.last known_all.last closes
            (subst (λ r. c.Ends a s.items r known_all.last) (sym one.1)
            (subst (λ i. c.Ends a i h.rest known_all.last) (sym one.0) h.ends)) in
            inl (ap (λ output. (ending_of (replies output all.last)).status) one.2
            ∙ ap (λ last. (ending_of (replies known_all.output last)).status) last)
        closed at_fault e on closes = inr (inl (exit_status all read_fault closes))
        closed at_length e on closes =
            let long = not_shorter bytes taken taken_prefix.0 taken_prefix.1 (measured at_length e).0 in
            absurd (omega (arith, short, long))
        closed unasked e on closes = absurd closes

        go : IsLast c a s.items s.rest taken.until all.last
            → ((ending_of all).status ≡ (ending_of known_all).status)
            ⊎ IsEnvironment (ending_of all).status
        go (inl (other, at, fine, is)) =
            absurd (hold_or_on c a law bytes other are_bytes (exit_there other at).1
            h.items known_all.output h.rest h.first h.goes_on)
        go (inr (on, closes)) = closed taken.until refl on closes

      -- If nothing ends the run in the bytes that can be read, and the input has 2^48 bytes or
      -- more, then the input is too long.
      pub long_comes :
          (output : List Output) → 2 ^ 48 ≤ length bytes
          → HaveNoExit c a (take (2 ^ 48 + 65535) bytes) output
          → IsEnvironment (ending_of all).status ⊎ ((ending_of all).status ≡ statuses.TooLong)
      long_comes output many h = go s.last where
        prefix : List ℕ
        prefix = take (2 ^ 48 + 65535) bytes

        not_all : taken.until ≡ at_end → ⊥
        not_all e =
            let size : length bytes ≡ length taken.bytes = ap length (all_taken e) in
            let few = measured at_end e in omega (arith, size, few, many)

        -- If the bytes that were read are few enough, then they are a prefix of the first `2 ^ 48 +
        -- 65535` bytes.
        in_prefix : length taken.bytes < 2 ^ 48 + 65536 → (more : List ℕ) × (prefix ≡ taken.bytes ++ more)
        in_prefix few = (
          take (2 ^ 48 + 65535 - length taken.bytes) taken_prefix.0,
          ap (λ b. take (2 ^ 48 + 65535) b) taken_prefix.1.prefix
              ∙ take_longer (2 ^ 48 + 65535) taken.bytes taken_prefix.0 (omega (arith, few)),
        )

        no_exit : (u : ReadingEnd) → taken.until ≡ u → fault_of u ≡ None
            → (exit : Exit) → HaveExit c a taken.bytes exit → ⊥
        no_exit at_end e fine exit held = not_all e
        no_exit at_fault e fine exit held = cc fine
        no_exit at_length e fine exit held = cc fine
        no_exit unasked e fine exit held =
            let more = in_prefix (measured unasked e) in
            let there : HaveExit c a prefix exit =
            subst (λ b. HaveExit c a b exit) (sym more.1)
            (hold_stays c a law taken.bytes more.0 exit held) in
            let bytes_there : AreBytes prefix = All-take (λ b. b < 256) (2 ^ 48 + 65535) bytes are_bytes in
            hold_or_on c a law prefix exit bytes_there there h.items output h.rest h.first h.goes_on

        closed : (u : ReadingEnd) → taken.until ≡ u → Closes c a s.items s.rest u all.last
            → IsEnvironment (ending_of all).status ⊎ ((ending_of all).status ≡ statuses.TooLong)
        closed at_end e closes = absurd (not_all e)
        closed at_fault e closes = inl (inl (exit_status all read_fault closes))
        closed at_length e closes = inr (exit_status all too_long closes)
        closed unasked e closes = absurd closes

        go : IsLast c a s.items s.rest taken.until all.last
            → IsEnvironment (ending_of all).status ⊎ ((ending_of all).status ≡ statuses.TooLong)
        go (inl (exit, at, fine, is)) =
            absurd (no_exit taken.until refl fine exit (exit_there exit at).0)
        go (inr (on, closes)) = closed taken.until refl closes
