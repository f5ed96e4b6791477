-- If commands are lawful, then the commands with an additional part are lawful. If the arguments
-- determine no part, then the specifications of a run agree.
use Rattle.std.proofs.Common.{◌≡◌, ◌⊎◌, ℕ, List, Result, Ok, Err, inl, inr, refl, sym, ap, ◌∙◌, subst}
use Rattle.base_io.specs.StreamState.{FilesState, Change}
use Rattle.cli_spec.specs.Outcome.{opened, whole, Request, Asks, ReadsFile}
use Rattle.cli_spec.specs.declared.exit.Exit.{Exit}
use Rattle.run_spec.specs.runs.Account.{FetchesFor, Account}
use Rattle.run_spec.specs.runs.Call.{Call}
use Rattle.run_spec.specs.runs.Commands.{Fetches, Commands}
use Rattle.run_spec.specs.runs.Lawful.{IsOnce, IsInner, IsWhole, FailsAtFile, IsFound, AreLawfulAt, AreLawful, AreInTurns}
use Rattle.run_spec.specs.runs.RunSpec.{RunSpec}
use Rattle.run_spec.specs.command_sum.Beside.{Finds}
use Rattle.run_spec.specs.command_sum.CommandSum.{IsIdleAt, AreDisjoint}
use Rattle.run_spec.proofs.command_sum.CommandSumAgreeLemmas.{Agrees, Agree, agree_back, wanted_fetches, account_too, run_spec_too}

module _ {A B : Type 0} (part_by : Request → B) (c : Commands A) (d : Commands (B × A)) where
  -- The commands that request the files of `c` and have the outputs of `d`.
  abbrev beside : Commands (B × A)
  beside = record {
    Wants = c.Wants;
    Finds = Finds part_by c;
    Reads = d.Reads;
    IsFirst = d.IsFirst;
    Outputs = d.Outputs;
    Exits = d.Exits;
    Ends = d.Ends;
  }

  -- ---- the arguments and the files

  abbrev found : B → A → Result (B × A) Exit
  found part a = Ok (part, a)

  abbrev stopped : Exit → Result (B × A) Exit
  stopped exit = Err exit

  finds_once :
      AreLawful c → (request : Request) (files : Fetches) → IsOnce (Finds part_by c request files)
  finds_once law request files (Ok (part, a)) (Ok (other, b)) (is, h) (same, k) =
      let e : ◌≡◌ {A = Result A Exit} (Ok a) (Ok b) =
      law.finds_once request files (Ok a) (Ok b) h k in
      let same_act : a ≡ b = cc e in
      let same_part : part ≡ other = is ∙ sym same in
      ap (λ p. found p a) same_part ∙ ap (λ b. found other b) same_act
  finds_once law request files (Ok (part, a)) (Err t) (is, h) k =
      let e : ◌≡◌ {A = Result A Exit} (Ok a) (Err t) =
      law.finds_once request files (Ok a) (Err t) h k in absurd (cc e)
  finds_once law request files (Err s) (Ok (other, b)) h (is, k) =
      let e : ◌≡◌ {A = Result A Exit} (Err s) (Ok b) =
      law.finds_once request files (Err s) (Ok b) h k in absurd (cc e)
  finds_once law request files (Err s) (Err t) h k =
      let e : ◌≡◌ {A = Result A Exit} (Err s) (Err t) =
      law.finds_once request files (Err s) (Err t) h k in
      let same_exit : s ≡ t = cc e in ap stopped same_exit

  by_wanted :
      AreLawful c → (request : Request) (files others : Fetches) (result : Result (B × A) Exit)
      → ((turn : ℕ) (name : List ℕ) → c.Wants request files turn name
      → files turn name ≡ others turn name)
      → Finds part_by c request files result → Finds part_by c request others result
  by_wanted law request files others (Ok (part, a)) same (is, h) =
      (is, law.by_wanted request files others (Ok a) same h)
  by_wanted law request files others (Err s) same h =
      law.by_wanted request files others (Err s) same h

  -- If a file is read or its exit reason is the result, then the file is read or the result is the
  -- exit reason for the extended commands.
  exit_there :
      {P : Type 0} (Fails : Exit → Type 0) (result : Result A Exit) (other : Result (B × A) Exit)
      → ((exit : Exit) → result ≡ Err exit → other ≡ Err exit)
      → P ⊎ ((exit : Exit) × Fails exit × (result ≡ Err exit))
      → P ⊎ ((exit : Exit) × Fails exit × (other ≡ Err exit))
  exit_there Fails result other same (inl read) = inl read
  exit_there Fails result other same (inr (exit, fails, is)) = inr (exit, fails, same exit is)

  same_exit :
      (s exit : Exit) → ◌≡◌ {A = Result A Exit} (Err s) (Err exit) → stopped s ≡ stopped exit
  same_exit s exit e = let one : s ≡ exit = cc e in ap stopped one

  reads_wanted :
      AreLawful c → (request : Request) (files : Fetches) (result : Result (B × A) Exit)
      → Finds part_by c request files result → (turn : ℕ) (name : List ℕ)
      → c.Wants request files turn name
      → IsWhole (files turn name)
      ⊎ ((exit : Exit) × ReadsFile name (files turn name) (Err exit) × (result ≡ Err exit))
  reads_wanted law request files (Ok (part, a)) (is, h) turn name w =
      exit_there (λ exit. ReadsFile name (files turn name) (Err exit)) (Ok a) (Ok (part, a))
      (λ exit e. absurd (cc e)) (law.reads_wanted request files (Ok a) h turn name w)
  reads_wanted law request files (Err s) h turn name w =
      exit_there (λ exit. ReadsFile name (files turn name) (Err exit)) (Err s) (Err s) (same_exit s)
      (law.reads_wanted request files (Err s) h turn name w)

  fails :
      (request : Request) (files : Fetches) (s : Exit) → FailsAtFile c request files (Err s)
      → FailsAtFile beside request files (Err s)
  fails request files s f = record {
    turn = f.turn;
    name = f.name;
    wants = f.wants;
    exit = f.exit;
    fault = f.fault;
    is = same_exit s f.exit f.is;
  }

  finds_inside :
      AreLawful c → (request : Request) (files : Fetches) (exit : Exit)
      → c.Finds request files (Err exit)
      → IsInner exit ⊎ FailsAtFile beside request files (Err exit)
  finds_inside law request files exit h = from (law.finds_inside request files exit h) where
    from : IsInner exit ⊎ FailsAtFile c request files (Err exit)
        → IsInner exit ⊎ FailsAtFile beside request files (Err exit)
    from (inl inner) = inl inner
    from (inr f) = inr (fails request files exit f)

  -- If each task is lawful, then the extended commands are lawful.
  module _ (lawful_at : (part : B) (a : A) → AreLawfulAt c a → AreLawfulAt beside (part, a)) where
    at_act : AreLawful c → (act : B × A) → IsFound beside act → AreLawfulAt beside act
    at_act law (part, a) (request, files, (is, h)) =
        lawful_at part a (law.at a (request, files, h))

    pub lawful_beside : AreLawful c → AreLawful beside
    lawful_beside law = record {
      wants_once = law.wants_once;
      finds_once = finds_once law;
      by_wanted = by_wanted law;
      reads_wanted = reads_wanted law;
      finds_inside = finds_inside law;
      at = at_act law;
    }

  reads :
      AreInTurns c → (request : Request) (files : Fetches) (result : Result (B × A) Exit)
      → Finds part_by c request files result → (turn : ℕ) (name : List ℕ)
      → c.Wants request files turn name
      → ((bytes : List ℕ) × (files turn name ≡ opened (whole bytes)))
      ⊎ ((exit : Exit) × ReadsFile name (files turn name) (Err exit) × (result ≡ Err exit))
  reads turns request files (Ok (part, a)) (is, h) turn name w =
      exit_there (λ exit. ReadsFile name (files turn name) (Err exit)) (Ok a) (Ok (part, a))
      (λ exit e. absurd (cc e)) (turns.reads request files (Ok a) h turn name w)
  reads turns request files (Err s) h turn name w =
      exit_there (λ exit. ReadsFile name (files turn name) (Err exit)) (Err s) (Err s) (same_exit s)
      (turns.reads request files (Err s) h turn name w)

  pub turns_beside : AreInTurns c → AreInTurns beside
  turns_beside turns =
      record { by_earlier = turns.by_earlier; reads = reads turns; after_read = turns.after_read }

  pub fetches_beside :
      (arguments : List (List ℕ)) (files : Change FilesState) (found : Fetches)
      → FetchesFor c arguments files found → FetchesFor beside arguments files found
  fetches_beside arguments files found h =
      wanted_fetches c beside arguments (λ request asks files turn name. (λ w. w, λ w. w)) files found h

  -- ---- other commands

  pub idle_beside : (request : Request) → IsIdleAt c request → IsIdleAt beside request
  idle_beside request none = record { unwanted = none.unwanted; unfound = unfound } where
    unfound : (files : Fetches) (result : Result (B × A) Exit)
        → Finds part_by c request files result → ⊥
    unfound files (Ok (part, a)) (is, h) = none.unfound files (Ok a) h
    unfound files (Err s) h = none.unfound files (Err s) h

  pub disjoint_beside : {C : Type 0} (e : Commands C) → AreDisjoint c e → AreDisjoint beside e
  disjoint_beside e of_c request = from (of_c request) where
    from : IsIdleAt c request ⊎ IsIdleAt e request → IsIdleAt beside request ⊎ IsIdleAt e request
    from (inl none) = inl (idle_beside request none)
    from (inr none) = inr none

  -- ---- the arguments determine no part

  module _ (arguments : List (List ℕ)) (IsNone : B → Type 0)
      (none : (request : Request) → Asks arguments request → IsNone (part_by request))
      (same : (part : B) (a : A) → IsNone part → Agrees c beside a (part, a)) where
    finds_back :
        (request : Request) → Asks arguments request → (files : Fetches) (act : B × A)
        → Finds part_by c request files (Ok act)
        → (a : A) × Agrees c beside a act × c.Finds request files (Ok a)
    finds_back request asks files (part, a) (is, h) =
        (a, same part a (subst IsNone (sym is) (none request asks)), h)

    agree : Agree c beside (Asks arguments)
    agree = record {
      wants = λ request asks files turn name. (λ w. w, λ w. w);
      finds = λ request asks files a h.
          ((part_by request, a), same (part_by request) a (none request asks), (refl, h));
      finds_back = finds_back;
      exits = λ request asks files exit. (λ h. h, λ h. h);
    }

    pub account_beside : (call : Call) → Account c arguments call → Account beside arguments call
    account_beside call h = account_too c beside arguments agree call h

    pub run_spec_beside : (call : Call) → RunSpec beside arguments call → RunSpec c arguments call
    run_spec_beside call h =
        run_spec_too beside c arguments (agree_back c beside (Asks arguments) agree) call h
