-- Files that are requested turn by turn: the known contents of the first files determine the next
-- request.
use Rattle.std.proofs.Common.{◌≡◌, ◌⊎◌, ◌<◌, ◌≤◌, ◌^◌, ℕ, zero, suc, List, Option, Some, None, Result, Ok, Err, inl, inr, refl, sym, ap, ◌∙◌, subst, length, arith}
use Rattle.std.specs.Prelude.{IsSome, IsSomeAnd}
use Rattle.std.proofs.lemmas.Bool.{cases_lt}
use Rattle.cli_spec.specs.declared.status.Status.{Status}
use Rattle.cli_spec.specs.declared.status.Status.TheVariants as statuses
use Rattle.cli_spec.specs.Outcome.{ReadingEnd, at_end, at_fault, at_length, unasked, fault_of, whole, Found, opened, missing, failed, unfetched, found_of, Request, Asks, status_of, ending_of, ReadsFile, Replies, stopped}
use Rattle.cli_spec.specs.declared.exit.Exit.{Exit}
use Rattle.cli_spec.specs.declared.exit.Exit.TheVariants.{ReadFault as read_fault, TooLong as too_long}
use Rattle.cli_args.proofs.RequestLemmas.{one_request}
use Rattle.base_io.specs.Files.{File, contents_of}
use Rattle.base_io.specs.StreamState.{change}
use Rattle.run_spec.specs.runs.Account.{IsWanted, FetchesIn, MayBe}
use Rattle.run_spec.specs.runs.Call.{Call}
use Rattle.run_spec.specs.runs.RunCauses.{IsSought, OnlyOpenFault, IfMissing, IfFileTooLong, IfFiles}
use Rattle.run_spec.specs.runs.Commands.{Fetches, Given, Commands, RunReplies}
use Rattle.run_spec.specs.runs.Given.{IsFoundOf, IsMeasuredFile, has_open_fault}
use Rattle.run_spec.specs.runs.Lawful.{AreLawful, AreInTurns}
use Rattle.run_spec.specs.runs.Environment.{IsWriteOrMemoryError, IsEnvironment, CannotOpen}
use Rattle.run_spec.specs.runs.RunSpec.{known_files}
use Rattle.run_spec.proofs.runs.FailedLemmas.{open_fails_at}
use Rattle.run_spec.proofs.runs.RunFileLemmas.{IsFault, whole_known, fault_environment, found_in, measured_in, missing_known}
use Rattle.run_spec.proofs.runs.RunSettledLemmas.{Goes, IsOuter, reply_inside, exit_status, open_output, Cause, by_reply, by_file, by_input, cause_of, IsStatus, settled, if_arguments}
use Rattle.run_spec.proofs.runs.RunKnownLemmas.{IsFaultOrLong, long_faults}

last_or_before : (n m : ℕ) → n < suc m → (n < m) ⊎ (n ≡ m)
last_or_before n m less = go (cases_lt n m) where
  go : (n < m) ⊎ (m ≤ n) → (n < m) ⊎ (n ≡ m)
  go (inl before) = inl before
  go (inr same) = inr (omega arith)

less_later : (n m : ℕ) → n < m → n < suc m
less_later n m less = omega arith

module _ {A : Type 0} (c : Commands A) (lawful : AreLawful c) (turns : AreInTurns c)
    (request : Request) (files others : Fetches) where
  -- The files `files` and `others` agree on each file that is requested before the turn.
  abbrev pub Agree : ℕ → Type 0
  Agree turn = (earlier : ℕ) (name : List ℕ) → earlier < turn
      → c.Wants request files earlier name → files earlier name ≡ others earlier name

  -- If the earlier files agree, then a name that is requested with `others` is requested with
  -- `files`.
  pub wanted_too :
      (turn : ℕ) → Agree turn → (earlier : ℕ) (name : List ℕ) → earlier < suc turn
      → c.Wants request others earlier name → c.Wants request files earlier name
  wanted_too zero agree earlier name less wants =
      let first : earlier ≡ zero = omega arith in
      turns.by_earlier request others files earlier name
      (λ t n before w. absurd (none t earlier before first)) wants where
        none : (t earlier : ℕ) → t < earlier → earlier ≡ zero → ⊥
        none t earlier before first = omega arith
  wanted_too (suc turn) agree earlier name less wants =
      go (λ t n before w.
      let also = wanted_too turn (λ t n before w. agree t n (less_later t turn before) w) t n before w in
      also) where
        go : ((t : ℕ) (n : List ℕ) → t < suc turn → c.Wants request others t n → c.Wants request files t n)
            → c.Wants request files earlier name
        go also =
            turns.by_earlier request others files earlier name
            (λ t n before w. sym (agree t n (within t before) (also t n (within t before) w))) wants where
              within : (t : ℕ) → t < earlier → t < suc turn
              within t before = omega (arith, less)

  agree_before : (turn : ℕ) → Agree (suc turn) → Agree turn
  agree_before turn agree earlier name less wants =
      agree earlier name (less_later earlier turn less) wants

  agree_more :
      (turn : ℕ) → Agree turn
      → ((name : List ℕ) → c.Wants request files turn name → files turn name ≡ others turn name)
      → Agree (suc turn)
  agree_more turn agree here earlier name less wants = go (last_or_before earlier turn less) where
    go : (earlier < turn) ⊎ (earlier ≡ turn) → files earlier name ≡ others earlier name
    go (inl before) = agree earlier name before wants
    go (inr same) =
        subst (λ t. files t name ≡ others t name) (sym same)
        (here name (subst (λ t. c.Wants request files t name) same wants))

-- If a file does not exist and was not read, then it cannot be opened.
missing_open :
    (contents : Option (List ℕ)) (name : List ℕ) (found : Found) → contents ≡ None
    → IsFoundOf contents found → (exit : Exit) → ReadsFile name found (Err exit)
    → status_of exit ≡ statuses.OpenFault
missing_open None name (opened taken) none is exit fault = absurd is
missing_open (Some bytes) name (opened taken) none is exit fault = absurd (cc none)
missing_open contents name missing none is exit fault = ap status_of fault
missing_open contents name failed none is exit fault = ap status_of fault
missing_open contents name unfetched none is exit fault = absurd fault

missing_or : (found : Found) → (found ≡ missing) ⊎ (found ≡ missing → ⊥)
missing_or (opened taken) = inr (λ e. cc e)
missing_or missing = inl refl
missing_or failed = inr (λ e. cc e)
missing_or unfetched = inr (λ e. cc e)

module _ {A : Type 0} (c : Commands A) (arguments : List (List ℕ)) (call : Call) (lawful : AreLawful c)
    (turns : AreInTurns c) where
  module _ (given : Given) (may_be : MayBe c arguments call given) (all : List File)
      (map : call.files.before.map ≡ Some all) (request : Request) (asks : Asks arguments request)
      (found : Result A Exit) (finds : c.Finds request given.files found) where
    -- A file that is requested before the turn, also by the known contents, was not read, which
    -- ended the run.
    record IsFaultBefore (turn : ℕ) : Type 0 where
      pub earlier : ℕ
      pub before : earlier < turn
      pub name : List ℕ
      pub wanted : IsWanted c arguments (known_files all) earlier name
      pub exit : Exit
      pub is : found ≡ Err exit
      pub fault : IsFault (contents_of all name) exit

    abbrev Agrees : ℕ → Type 0
    Agrees turn = Agree c lawful turns request given.files (known_files all) turn

    is_wanted :
        (turn : ℕ) (name : List ℕ) → c.Wants request given.files turn name
        → IsWanted c arguments given.files turn name
    is_wanted turn name wants = record { request = request; asks = asks; wants = wants }

    found_there :
        (turn : ℕ) (name : List ℕ) → c.Wants request given.files turn name
        → IsFoundOf (contents_of all name) (given.files turn name)
    found_there turn name wants =
        found_in c arguments call.files given.files may_be.files lawful turn name
        (is_wanted turn name wants) all map

    measured_there :
        (turn : ℕ) (name : List ℕ) → c.Wants request given.files turn name
        → IsMeasuredFile (given.files turn name)
    measured_there turn name wants =
        measured_in c arguments call.files given.files may_be.files lawful turn name
        (is_wanted turn name wants)

    fault_before :
        (turn : ℕ) → Agrees turn → (name : List ℕ) → c.Wants request given.files turn name
        → (exit : Exit) → ReadsFile name (given.files turn name) (Err exit) → found ≡ Err exit
        → IsFaultBefore (suc turn)
    fault_before turn matching name wants exit fault is = record {
      earlier = turn;
      before = omega arith;
      name = name;
      wanted = record {
        request = request;
        asks = asks;
        wants = turns.by_earlier request given.files (known_files all) turn name matching wants;
      };
      exit = exit;
      is = is;
      fault = fault_environment (contents_of all name) name (given.files turn name)
          (found_there turn name wants) (measured_there turn name wants) exit fault;
    }

    -- A file that is requested in a turn has its known contents, or was not read.
    read_there :
        (turn : ℕ) (name : List ℕ) → c.Wants request given.files turn name
        → (given.files turn name ≡ known_files all turn name)
        ⊎ ((exit : Exit) × ReadsFile name (given.files turn name) (Err exit) × (found ≡ Err exit))
    read_there turn name wants =
        go (turns.reads request given.files found finds turn name wants)
        (missing_or (given.files turn name)) where
          go : ((bytes : List ℕ) × (given.files turn name ≡ opened (whole bytes)))
              ⊎ ((exit : Exit) × ReadsFile name (given.files turn name) (Err exit) × (found ≡ Err exit))
              → (given.files turn name ≡ missing) ⊎ (given.files turn name ≡ missing → ⊥)
              → (given.files turn name ≡ known_files all turn name)
              ⊎ ((exit : Exit) × ReadsFile name (given.files turn name) (Err exit) × (found ≡ Err exit))
          go (inl read) other =
              inl (whole_known (contents_of all name) (given.files turn name)
              (found_there turn name wants) (inl read))
          go (inr exits) (inl gone) =
              inl (whole_known (contents_of all name) (given.files turn name)
              (found_there turn name wants) (inr gone))
          go (inr exits) (inr there) = inr exits

    agree_or : (turn : ℕ) → Agrees turn ⊎ IsFaultBefore turn
    agree_or zero = inl (λ earlier name less wants. absurd (omega arith))
    agree_or (suc turn) = step (agree_or turn) where
      -- If nothing was fetched in a turn, then nothing is requested in the turn.
      unread :
          (name : List ℕ) → c.Wants request given.files turn name
          → given.files turn name ≡ unfetched → ⊥
      unread name wants e = go (turns.reads request given.files found finds turn name wants) where
        go : ((bytes : List ℕ) × (given.files turn name ≡ opened (whole bytes)))
            ⊎ ((exit : Exit) × ReadsFile name (given.files turn name) (Err exit)
            × (found ≡ Err exit)) → ⊥
        go (inl (bytes, is)) =
            let no : unfetched ≡ opened (whole bytes) = sym e ∙ is in cc no
        go (inr (exit, fault, is)) = subst (λ o. ReadsFile name o (Err exit)) e fault

      one : Agrees turn
          → FetchesIn c arguments
          (change (may_be.files.state turn) (may_be.files.state (suc turn))) given.files turn
          → Agrees (suc turn) ⊎ IsFaultBefore (suc turn)
      one matching (inr (same, none)) =
          inl (agree_more c lawful turns request given.files (known_files all) turn matching
          (λ name wants. absurd (unread name wants (none name (is_wanted turn name wants)))))
      one matching (inl (name, wanted, fetched)) = at (read_there turn name wants) where
        wants : c.Wants request given.files turn name
        wants =
            subst (λ q. c.Wants q given.files turn name)
            (one_request arguments wanted.request request wanted.asks asks) wanted.wants

        at : (given.files turn name ≡ known_files all turn name)
            ⊎ ((exit : Exit) × ReadsFile name (given.files turn name) (Err exit)
            × (found ≡ Err exit))
            → Agrees (suc turn) ⊎ IsFaultBefore (suc turn)
        at (inr (exit, fault, is)) = inr (fault_before turn matching name wants exit fault is)
        at (inl same) =
            inl (agree_more c lawful turns request given.files (known_files all) turn matching
            (λ other also.
            subst (λ n. given.files turn n ≡ known_files all turn n)
            (lawful.wants_once request given.files turn name other wants also) same))

      by : Agrees turn → (turn < may_be.files.turns) ⊎ (may_be.files.turns ≤ turn)
          → Agrees (suc turn) ⊎ IsFaultBefore (suc turn)
      by matching (inl fits) = one matching (may_be.files.each turn fits)
      by matching (inr past) =
          inl (agree_more c lawful turns request given.files (known_files all) turn matching
          (λ name wants.
          let less = may_be.files.all turn name (is_wanted turn name wants) in
          absurd (omega (arith, less, past))))

      step : Agrees turn ⊎ IsFaultBefore turn → Agrees (suc turn) ⊎ IsFaultBefore (suc turn)
      step (inl matching) = by matching (cases_lt turn may_be.files.turns)
      step (inr fault) = inr (record {
        earlier = fault.earlier;
        before = less_later fault.earlier turn fault.before;
        name = fault.name;
        wanted = fault.wanted;
        exit = fault.exit;
        is = fault.is;
        fault = fault.fault;
      })

  -- ---- the resulting status

  fault_short :
      (contents : Option (List ℕ)) (exit : Exit)
      → ((bytes : List ℕ) → contents ≡ Some bytes → length bytes < 2 ^ 48)
      → IsFault contents exit → IsEnvironment (status_of exit)
  fault_short contents exit short (inl out) = out
  fault_short contents exit short (inr (long, (bytes, is, many))) =
      let few = short bytes is in absurd (omega (arith, few, many))

  -- If `Holds` holds for the status of each run that `asked` requests, then it holds for the status
  -- of each run of the arguments.
  module _ (Holds : Status → Type 0) (asked : Request) (asks' : Asks arguments asked)
      (comes : (given : Given) → MayBe c arguments call given → (found : Result A Exit)
      → c.Finds asked given.files found → (all : Replies) → Goes c given all found
      → Holds (ending_of all).status) where
    comes_asked :
        (given : Given) → MayBe c arguments call given → (all : Replies) → RunReplies c arguments given all
        → Holds (ending_of all).status
    comes_asked given may_be all (found, (Err exit, (none, is), same), m) = absurd (none asked asks')
    comes_asked given may_be all (found, (Ok request, asks, finds), m) =
        comes given may_be found
        (subst (λ q. c.Finds q given.files found) (one_request arguments request asked asks asks') finds)
        all m

  stopped_status :
      (given : Given) (all : Replies) (found : Result A Exit) (exit : Exit) → Goes c given all found
      → found ≡ Err exit → (ending_of all).status ≡ status_of exit
  stopped_status given all found exit m e =
      let is : all ≡ stopped exit = subst (Goes c given all) e m in
      ap (λ all. (ending_of all).status) is

  module _ (status : IsStatus c arguments call) where
    -- ---- status 10

    pub if_file_too_long : IfFileTooLong c arguments call
    if_file_too_long turn name bytes known contents many =
        turned (settled c arguments call status IsFaultOrLong
        (comes_asked IsFaultOrLong known.wanted.request known.wanted.asks go)) where
          turned : IsFaultOrLong call.status ⊎ IsWriteOrMemoryError call.status
              → (call.status ≡ statuses.TooLong) ⊎ IsEnvironment call.status
          turned (inl (inl out)) = inr out
          turned (inl (inr long)) = inl long
          turned (inr write_or_memory_error) = inr (inr (inr write_or_memory_error))

          go : (given : Given) → MayBe c arguments call given → (found : Result A Exit)
              → c.Finds known.wanted.request given.files found → (all : Replies)
              → Goes c given all found → IsFaultOrLong (ending_of all).status
          go given may_be found finds all m =
              at (agree_or given may_be known.files known.map known.wanted.request known.wanted.asks found
              finds (suc turn)) where
                -- The known contents and the fetched result of the file disagree, because the file
                -- is too long.
                not_agree :
                    Agree c lawful turns known.wanted.request given.files (known_files known.files) (suc turn)
                    → ⊥
                not_agree matching =
                    let wants = wanted_too c lawful turns known.wanted.request given.files
                    (known_files known.files) turn
                    (agree_before c lawful turns known.wanted.request given.files
                    (known_files known.files) turn matching) turn name (omega arith) known.wanted.wants in
                    let same : given.files turn name ≡ found_of (Some bytes) =
                    matching turn name (omega arith) wants ∙ ap found_of contents in
                    let m : IsMeasuredFile (given.files turn name) =
                    measured_there given may_be known.files known.map known.wanted.request known.wanted.asks
                    found finds turn name wants in
                    let few : length bytes < 2 ^ 48 = subst IsMeasuredFile same m in
                    absurd (omega (arith, few, many))

                at : Agree c lawful turns known.wanted.request given.files (known_files known.files) (suc turn)
                    ⊎ IsFaultBefore given may_be known.files known.map known.wanted.request known.wanted.asks
                    found finds (suc turn)
                    → IsFaultOrLong (ending_of all).status
                at (inl matching) = absurd (not_agree matching)
                at (inr fault) =
                    subst IsFaultOrLong (sym (stopped_status given all found fault.exit m fault.is))
                    (long_faults known.files fault.name fault.exit fault.fault)

    -- ---- status 8

    -- The file could not be opened, an earlier file was not read, or the reply could not be
    -- completed.
    abbrev IsOpenOr : ℕ → Status → Type 0
    IsOpenOr turn status = (status ≡ statuses.OpenFault)
        ⊎ (((status ≡ statuses.ReadFault) × (0 < turn)) ⊎ IsWriteOrMemoryError status)

    open_or : (turn earlier : ℕ) → earlier < turn → (s : Status) → IsEnvironment s → IsOpenOr turn s
    open_or turn earlier before s (inl read) = inr (inl (read, omega arith))
    open_or turn earlier before s (inr (inl open_fault)) = inl open_fault
    open_or turn earlier before s (inr (inr write_or_memory_error)) = inr (inr write_or_memory_error)

    pub if_missing : IfMissing c arguments call
    if_missing turn name known short gone =
        turned (settled c arguments call status (IsOpenOr turn)
        (comes_asked (IsOpenOr turn) known.wanted.request known.wanted.asks go)) where
          turned : IsOpenOr turn call.status ⊎ IsWriteOrMemoryError call.status → IsOpenOr turn call.status
          turned (inl h) = h
          turned (inr write_or_memory_error) = inr (inr write_or_memory_error)

          go : (given : Given) → MayBe c arguments call given → (found : Result A Exit)
              → c.Finds known.wanted.request given.files found → (all : Replies)
              → Goes c given all found → IsOpenOr turn (ending_of all).status
          go given may_be found finds all m =
              at (agree_or given may_be known.files known.map known.wanted.request known.wanted.asks found
              finds turn) where
                unopened :
                    IsFoundOf (contents_of known.files name) (given.files turn name)
                    → ((bytes : List ℕ) × (given.files turn name ≡ opened (whole bytes)))
                    ⊎ ((exit : Exit) × ReadsFile name (given.files turn name) (Err exit)
                    × (found ≡ Err exit))
                    → (ending_of all).status ≡ statuses.OpenFault
                unopened is (inl (bytes, e)) =
                    absurd (subst (λ o. IsFoundOf o (opened (whole bytes))) gone
                    (subst (λ o. IsFoundOf (contents_of known.files name) o) e is))
                unopened is (inr (exit, fault, e)) =
                    stopped_status given all found exit m e
                    ∙ missing_open (contents_of known.files name) name (given.files turn name) gone is exit
                    fault

                at : Agree c lawful turns known.wanted.request given.files (known_files known.files) turn
                    ⊎ IsFaultBefore given may_be known.files known.map known.wanted.request known.wanted.asks
                    found finds turn
                    → IsOpenOr turn (ending_of all).status
                at (inl matching) =
                    let wants = wanted_too c lawful turns known.wanted.request given.files
                    (known_files known.files) turn matching turn name (omega arith) known.wanted.wants in
                    inl (unopened
                    (found_there given may_be known.files known.map known.wanted.request known.wanted.asks found
                    finds turn name wants)
                    (turns.reads known.wanted.request given.files found finds turn name wants))
                at (inr fault) =
                    subst (IsOpenOr turn) (sym (stopped_status given all found fault.exit m fault.is))
                    (open_or turn fault.earlier fault.before (status_of fault.exit)
                    (fault_short (contents_of known.files fault.name) fault.exit
                    (λ bytes is. short fault.earlier fault.name bytes fault.before fault.wanted is)
                    fault.fault))

    -- ---- the files end the run

    pub if_files : IfFiles c arguments call
    if_files files exit map short (Err other, (none, is), same) =
        turned (if_arguments c arguments call lawful status exit (λ files. (Err other, (none, is), same)))
      where
        turned : (call.status ≡ status_of exit) ⊎ IsWriteOrMemoryError call.status
            → (call.status ≡ status_of exit) ⊎ IsEnvironment call.status
        turned (inl e) = inl e
        turned (inr write_or_memory_error) = inr (inr (inr write_or_memory_error))
    if_files files exit map short (Ok request, asks, known) =
        turned (settled c arguments call status (λ s. (s ≡ status_of exit) ⊎ IsEnvironment s)
        (comes_asked (λ s. (s ≡ status_of exit) ⊎ IsEnvironment s) request asks go)) where
          turned : ((call.status ≡ status_of exit) ⊎ IsEnvironment call.status) ⊎ IsWriteOrMemoryError call.status
              → (call.status ≡ status_of exit) ⊎ IsEnvironment call.status
          turned (inl h) = h
          turned (inr write_or_memory_error) = inr (inr (inr write_or_memory_error))

          go : (given : Given) → MayBe c arguments call given → (found : Result A Exit)
              → c.Finds request given.files found → (all : Replies) → Goes c given all found
              → ((ending_of all).status ≡ status_of exit) ⊎ IsEnvironment (ending_of all).status
          go given may_be found finds all m =
              at (agree_or given may_be files map request asks found finds may_be.files.turns) where
                at : Agree c lawful turns request given.files (known_files files) may_be.files.turns
                    ⊎ IsFaultBefore given may_be files map request asks found finds may_be.files.turns
                    → ((ending_of all).status ≡ status_of exit) ⊎ IsEnvironment (ending_of all).status
                at (inl matching) =
                    let there = lawful.by_wanted request given.files (known_files files) found
                    (λ turn name wants. matching turn name
                    (may_be.files.all turn name
                    (record { request = request; asks = asks; wants = wants })) wants) finds in
                    inl (stopped_status given all found exit m
                    (lawful.finds_once request (known_files files) found (Err exit) there known))
                at (inr fault) =
                    let out = fault_short (contents_of files fault.name) fault.exit
                    (λ bytes is. short may_be.files.turns fault.earlier fault.name bytes fault.before
                    fault.wanted is) fault.fault in
                    inr (subst IsEnvironment (sym (stopped_status given all found fault.exit m fault.is)) out)

-- ---- a file that cannot be opened

end_open :
    (u : ReadingEnd) (exit : Exit) → fault_of u ≡ Some exit → status_of exit ≡ statuses.OpenFault
    → ⊥
end_open at_end exit f e = cc f
end_open at_fault exit f e =
    let s : read_fault ≡ exit = cc f in
    let never : statuses.ReadFault ≡ statuses.OpenFault = ap status_of s ∙ e in cc never
end_open at_length exit f e =
    let s : too_long ≡ exit = cc f in
    let never : statuses.TooLong ≡ statuses.OpenFault = ap status_of s ∙ e in cc never
end_open unasked exit f e = cc f

file_open :
    (name : List ℕ) (found : Found) (exit : Exit) → ReadsFile name found (Err exit)
    → status_of exit ≡ statuses.OpenFault → (found ≡ missing) ⊎ (found ≡ failed)
file_open name (opened taken) exit fault e = absurd (end_open taken.until exit fault e)
file_open name missing exit fault e = inl refl
file_open name failed exit fault e = inr refl
file_open name unfetched exit fault e = absurd fault

module _ {A : Type 0} (c : Commands A) (arguments : List (List ℕ)) (call : Call) (lawful : AreLawful c)
    (turns : AreInTurns c) where
  module _ (given : Given) (may_be : MayBe c arguments call given) (request : Request)
      (asks : Asks arguments request) (turn : ℕ) (name : List ℕ)
      (wants : c.Wants request given.files turn name) where
    wanted : IsWanted c arguments given.files turn name
    wanted = record { request = request; asks = asks; wants = wants }

    not_there :
        given.files turn name ≡ missing → (m : Option (List File)) → call.files.before.map ≡ m
        → IsSome m → IsSomeAnd m (λ all. contents_of all name ≡ None)
    not_there e None known some = absurd (cc some)
    not_there e (Some all) known some =
        subst (λ o. IsFoundOf (contents_of all name) o) e
        (found_in c arguments call.files given.files may_be.files lawful turn name wanted all known)

    cannot :
        (given.files turn name ≡ missing) ⊎ (given.files turn name ≡ failed)
        → CannotOpen call.files name
    cannot (inl e) =
        inr (not_there e call.files.before.map refl
        (missing_known c arguments call.files given.files may_be.files lawful turn name wanted e))
    cannot (inr e) =
        inl (open_fails_at c arguments call.files given.files may_be.files lawful turn name wanted
        (ap has_open_fault e))

  pub only_open_fault : IsStatus c arguments call → OnlyOpenFault c arguments call
  only_open_fault (inr write_or_memory_error) e = absurd (open_output (subst IsWriteOrMemoryError e write_or_memory_error))
  only_open_fault (inl o) e = by (cause_of c arguments lawful o.given o.all o.outcome) where
    status : (ending_of o.all).status ≡ statuses.OpenFault
    status = sym o.is ∙ e

    by : Cause c arguments o.given o.all
        → (name : List ℕ) × IsSought c arguments call.files name × CannotOpen call.files name
    by (by_reply inside) =
        absurd (reply_inside o.all.output o.all.last inside (subst IsOuter (sym status) tt))
    by (by_file request asks exit p f is) =
        let both : ◌≡◌ {A = Result A Exit} (Err exit) (Err f.exit) = f.is in
        let same : exit ≡ f.exit = cc both in
        let here : status_of f.exit ≡ statuses.OpenFault =
        sym (ap (λ all. (ending_of all).status) is ∙ ap status_of same) ∙ status in (
          f.name,
          record {
            found = o.given.files;
            fetches = o.may_be.files;
            turn = f.turn;
            wanted = record { request = request; asks = asks; wants = f.wants };
          },
          cannot o.given o.may_be request asks f.turn f.name f.wants
              (file_open f.name (o.given.files f.turn f.name) f.exit f.fault here),
        )
    by (by_input a p reads s exit f last) =
        absurd (end_open o.given.input.until exit f (sym (exit_status o.all exit last) ∙ status))
