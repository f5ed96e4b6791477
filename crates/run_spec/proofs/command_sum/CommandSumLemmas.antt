-- If two sets of lawful commands are disjoint, then their sum is lawful.
use Rattle.std.proofs.Common.{◌≡◌, ◌⊎◌, ◌<◌, ℕ, List, Result, Ok, Err, inl, inr, ap}
use Rattle.cli_spec.specs.Outcome.{opened, whole, Request, ReadsFile}
use Rattle.cli_spec.specs.declared.exit.Exit.{Exit}
use Rattle.run_spec.specs.runs.Commands.{Fetches, Commands}
use Rattle.run_spec.specs.runs.Lawful.{IsOnce, IsInner, IsWhole, FailsAtFile, IsFound, AreLawfulAt, AreLawful, AreInTurns}
use Rattle.run_spec.specs.command_sum.CommandSum.{Wants, Finds, command_sum, IsIdleAt, AreDisjoint}

-- If a set finds an exit reason, then the sum finds the exit reason.
exit_of : {A B : Type 0} (s exit : Exit) → ◌≡◌ {A = Result A Exit} (Err s) (Err exit) → ◌≡◌ {A = Result B Exit} (Err s) (Err exit)
exit_of s exit e = let same : s ≡ exit = cc e in ap (λ s. Err s) same

module _ {A B : Type 0} (c : Commands A) (d : Commands B) (disjoint : AreDisjoint c d) where
  abbrev both : Commands (A ⊎ B)
  both = command_sum c d

  -- No request belongs to both sets.
  not_wanted : {P : Type 0} (request : Request) (files others : Fetches) (turn later : ℕ) (name other : List ℕ)
      → c.Wants request files turn name → d.Wants request others later other → P
  not_wanted {P} request files others turn later name other w v = from (disjoint request) where
    from : IsIdleAt c request ⊎ IsIdleAt d request → P
    from (inl idle) = absurd (idle.unwanted files turn name w)
    from (inr idle) = absurd (idle.unwanted others later other v)

  not_found : {P : Type 0} (request : Request) (files others : Fetches) (r : Result A Exit) (s : Result B Exit)
      → c.Finds request files r → d.Finds request others s → P
  not_found {P} request files others r s h k = from (disjoint request) where
    from : IsIdleAt c request ⊎ IsIdleAt d request → P
    from (inl idle) = absurd (idle.unfound files r h)
    from (inr idle) = absurd (idle.unfound others s k)

  not_first : {P : Type 0} (request : Request) (files others : Fetches) (r : Result A Exit) (turn : ℕ) (name : List ℕ)
      → c.Finds request files r → d.Wants request others turn name → P
  not_first {P} request files others r turn name h w = from (disjoint request) where
    from : IsIdleAt c request ⊎ IsIdleAt d request → P
    from (inl idle) = absurd (idle.unfound files r h)
    from (inr idle) = absurd (idle.unwanted others turn name w)

  not_second : {P : Type 0} (request : Request) (files others : Fetches) (s : Result B Exit) (turn : ℕ) (name : List ℕ)
      → d.Finds request files s → c.Wants request others turn name → P
  not_second {P} request files others s turn name h w = from (disjoint request) where
    from : IsIdleAt c request ⊎ IsIdleAt d request → P
    from (inl idle) = absurd (idle.unwanted others turn name w)
    from (inr idle) = absurd (idle.unfound files s h)

  -- The file is read, or the file ends the run.
  abbrev Read : {X : Type 0} → Type 0 → List ℕ → Fetches → ℕ → Result X Exit → Type 0
  Read Held name files turn result =
      Held ⊎ ((exit : Exit) × ReadsFile name (files turn name) (Err exit) × (result ≡ Err exit))

  never_ok : {X Y : Type 0} (Held : Type 0) (name : List ℕ) (files : Fetches) (turn : ℕ) (x : X) (y : Y)
      → Read Held name files turn (Ok x) → Read Held name files turn (Ok y)
  never_ok Held name files turn x y (inl held) = inl held
  never_ok Held name files turn x y (inr (exit, fault, is)) = absurd (cc is)

  exits_too : {X Y : Type 0} (Held : Type 0) (name : List ℕ) (files : Fetches) (turn : ℕ) (s : Exit)
      → Read {X = X} Held name files turn (Err s) → Read {X = Y} Held name files turn (Err s)
  exits_too Held name files turn s (inl held) = inl held
  exits_too Held name files turn s (inr (exit, fault, is)) = inr (exit, fault, exit_of s exit is)

  module _ (of_c : AreLawful c) (of_d : AreLawful d) where
    wants_once : (request : Request) (files : Fetches) (turn : ℕ) → IsOnce (Wants c d request files turn)
    wants_once request files turn x y (inl w) (inl v) = of_c.wants_once request files turn x y w v
    wants_once request files turn x y (inr w) (inr v) = of_d.wants_once request files turn x y w v
    wants_once request files turn x y (inl w) (inr v) = not_wanted request files files turn turn x y w v
    wants_once request files turn x y (inr w) (inl v) = not_wanted request files files turn turn y x v w

    finds_once : (request : Request) (files : Fetches) → IsOnce (Finds c d request files)
    finds_once request files (Ok (inl a)) (Ok (inl b)) h k =
        let same : a ≡ b = cc (of_c.finds_once request files (Ok a) (Ok b) h k) in ap (λ a. Ok (inl a)) same
    finds_once request files (Ok (inr a)) (Ok (inr b)) h k =
        let same : a ≡ b = cc (of_d.finds_once request files (Ok a) (Ok b) h k) in ap (λ a. Ok (inr a)) same
    finds_once request files (Ok (inl a)) (Ok (inr b)) h k = not_found request files files (Ok a) (Ok b) h k
    finds_once request files (Ok (inr a)) (Ok (inl b)) h k = not_found request files files (Ok b) (Ok a) k h
    finds_once request files (Ok (inl a)) (Err s) h (inl k) = absurd (cc (of_c.finds_once request files (Ok a) (Err s) h k))
    finds_once request files (Ok (inl a)) (Err s) h (inr k) = not_found request files files (Ok a) (Err s) h k
    finds_once request files (Ok (inr a)) (Err s) h (inl k) = not_found request files files (Err s) (Ok a) k h
    finds_once request files (Ok (inr a)) (Err s) h (inr k) = absurd (cc (of_d.finds_once request files (Ok a) (Err s) h k))
    finds_once request files (Err s) (Ok (inl b)) (inl h) k = absurd (cc (of_c.finds_once request files (Err s) (Ok b) h k))
    finds_once request files (Err s) (Ok (inl b)) (inr h) k = not_found request files files (Ok b) (Err s) k h
    finds_once request files (Err s) (Ok (inr b)) (inl h) k = not_found request files files (Err s) (Ok b) h k
    finds_once request files (Err s) (Ok (inr b)) (inr h) k = absurd (cc (of_d.finds_once request files (Err s) (Ok b) h k))
    finds_once request files (Err s) (Err t) (inl h) (inl k) = exit_of s t (of_c.finds_once request files (Err s) (Err t) h k)
    finds_once request files (Err s) (Err t) (inr h) (inr k) = exit_of s t (of_d.finds_once request files (Err s) (Err t) h k)
    finds_once request files (Err s) (Err t) (inl h) (inr k) = not_found request files files (Err s) (Err t) h k
    finds_once request files (Err s) (Err t) (inr h) (inl k) = not_found request files files (Err t) (Err s) k h

    by_wanted : (request : Request) (files others : Fetches) (result : Result (A ⊎ B) Exit)
        → ((turn : ℕ) (name : List ℕ) → Wants c d request files turn name → files turn name ≡ others turn name)
        → Finds c d request files result → Finds c d request others result
    by_wanted request files others (Ok (inl a)) same h =
        of_c.by_wanted request files others (Ok a) (λ turn name w. same turn name (inl w)) h
    by_wanted request files others (Ok (inr a)) same h =
        of_d.by_wanted request files others (Ok a) (λ turn name w. same turn name (inr w)) h
    by_wanted request files others (Err s) same (inl h) =
        inl (of_c.by_wanted request files others (Err s) (λ turn name w. same turn name (inl w)) h)
    by_wanted request files others (Err s) same (inr h) =
        inr (of_d.by_wanted request files others (Err s) (λ turn name w. same turn name (inr w)) h)

    reads_wanted : (request : Request) (files : Fetches) (result : Result (A ⊎ B) Exit)
        → Finds c d request files result → (turn : ℕ) (name : List ℕ) → Wants c d request files turn name
        → Read (IsWhole (files turn name)) name files turn result
    reads_wanted request files (Ok (inl a)) h turn name (inl w) =
        never_ok (IsWhole (files turn name)) name files turn a (inl a) (of_c.reads_wanted request files (Ok a) h turn name w)
    reads_wanted request files (Ok (inl a)) h turn name (inr w) = not_first request files files (Ok a) turn name h w
    reads_wanted request files (Ok (inr a)) h turn name (inl w) = not_second request files files (Ok a) turn name h w
    reads_wanted request files (Ok (inr a)) h turn name (inr w) =
        never_ok (IsWhole (files turn name)) name files turn a (inr a) (of_d.reads_wanted request files (Ok a) h turn name w)
    reads_wanted request files (Err s) (inl h) turn name (inl w) =
        exits_too (IsWhole (files turn name)) name files turn s (of_c.reads_wanted request files (Err s) h turn name w)
    reads_wanted request files (Err s) (inl h) turn name (inr w) = not_first request files files (Err s) turn name h w
    reads_wanted request files (Err s) (inr h) turn name (inl w) = not_second request files files (Err s) turn name h w
    reads_wanted request files (Err s) (inr h) turn name (inr w) =
        exits_too (IsWhole (files turn name)) name files turn s (of_d.reads_wanted request files (Err s) h turn name w)

    finds_inside : (request : Request) (files : Fetches) (exit : Exit) → Finds c d request files (Err exit)
        → IsInner exit ⊎ FailsAtFile both request files (Err exit)
    finds_inside request files exit (inl h) = from (of_c.finds_inside request files exit h) where
      from : IsInner exit ⊎ FailsAtFile c request files (Err exit) → IsInner exit ⊎ FailsAtFile both request files (Err exit)
      from (inl inner) = inl inner
      from (inr f) = inr (record { turn = f.turn; name = f.name; wants = inl f.wants; exit = f.exit; fault = f.fault; is = exit_of exit f.exit f.is })
    finds_inside request files exit (inr h) = from (of_d.finds_inside request files exit h) where
      from : IsInner exit ⊎ FailsAtFile d request files (Err exit) → IsInner exit ⊎ FailsAtFile both request files (Err exit)
      from (inl inner) = inl inner
      from (inr f) = inr (record { turn = f.turn; name = f.name; wants = inr f.wants; exit = f.exit; fault = f.fault; is = exit_of exit f.exit f.is })

    at : (a : A ⊎ B) → IsFound both a → AreLawfulAt both a
    at (inl a) (request, files, found) = let l = of_c.at a (request, files, found) in record {
      first_once = l.first_once;
      outputs_once = l.outputs_once;
      exits_once = l.exits_once;
      ends_once = l.ends_once;
      prefix = l.prefix;
      item_stays = l.item_stays;
      exit_stays = l.exit_stays;
      exits_inside = l.exits_inside;
      ends_inside = l.ends_inside;
      disjoint = l.disjoint;
    }
    at (inr a) (request, files, found) = let l = of_d.at a (request, files, found) in record {
      first_once = l.first_once;
      outputs_once = l.outputs_once;
      exits_once = l.exits_once;
      ends_once = l.ends_once;
      prefix = l.prefix;
      item_stays = l.item_stays;
      exit_stays = l.exit_stays;
      exits_inside = l.exits_inside;
      ends_inside = l.ends_inside;
      disjoint = l.disjoint;
    }

    pub lawful : AreLawful both
    lawful = record {
      wants_once = wants_once;
      finds_once = finds_once;
      by_wanted = by_wanted;
      reads_wanted = reads_wanted;
      finds_inside = finds_inside;
      at = at;
    }

  module _ (turns_c : AreInTurns c) (turns_d : AreInTurns d) where
    by_earlier : (request : Request) (files others : Fetches) (turn : ℕ) (name : List ℕ)
        → ((earlier : ℕ) (other : List ℕ) → earlier < turn → Wants c d request files earlier other
        → files earlier other ≡ others earlier other)
        → Wants c d request files turn name → Wants c d request others turn name
    by_earlier request files others turn name same (inl w) =
        inl (turns_c.by_earlier request files others turn name (λ earlier other less v. same earlier other less (inl v)) w)
    by_earlier request files others turn name same (inr w) =
        inr (turns_d.by_earlier request files others turn name (λ earlier other less v. same earlier other less (inr v)) w)

    reads : (request : Request) (files : Fetches) (result : Result (A ⊎ B) Exit)
        → Finds c d request files result → (turn : ℕ) (name : List ℕ) → Wants c d request files turn name
        → Read ((bytes : List ℕ) × (files turn name ≡ opened (whole bytes))) name files turn result
    reads request files (Ok (inl a)) h turn name (inl w) =
        never_ok ((bytes : List ℕ) × (files turn name ≡ opened (whole bytes))) name files turn a (inl a) (turns_c.reads request files (Ok a) h turn name w)
    reads request files (Ok (inl a)) h turn name (inr w) = not_first request files files (Ok a) turn name h w
    reads request files (Ok (inr a)) h turn name (inl w) = not_second request files files (Ok a) turn name h w
    reads request files (Ok (inr a)) h turn name (inr w) =
        never_ok ((bytes : List ℕ) × (files turn name ≡ opened (whole bytes))) name files turn a (inr a) (turns_d.reads request files (Ok a) h turn name w)
    reads request files (Err s) (inl h) turn name (inl w) =
        exits_too ((bytes : List ℕ) × (files turn name ≡ opened (whole bytes))) name files turn s (turns_c.reads request files (Err s) h turn name w)
    reads request files (Err s) (inl h) turn name (inr w) = not_first request files files (Err s) turn name h w
    reads request files (Err s) (inr h) turn name (inl w) = not_second request files files (Err s) turn name h w
    reads request files (Err s) (inr h) turn name (inr w) =
        exits_too ((bytes : List ℕ) × (files turn name ≡ opened (whole bytes))) name files turn s (turns_d.reads request files (Err s) h turn name w)

    after_read : (request : Request) (files : Fetches) (turn later : ℕ) (name other : List ℕ)
        → turn < later → Wants c d request files turn name → Wants c d request files later other
        → (bytes : List ℕ) × (files turn name ≡ opened (whole bytes))
    after_read request files turn later name other less (inl w) (inl v) =
        turns_c.after_read request files turn later name other less w v
    after_read request files turn later name other less (inr w) (inr v) =
        turns_d.after_read request files turn later name other less w v
    after_read request files turn later name other less (inl w) (inr v) =
        not_wanted request files files turn later name other w v
    after_read request files turn later name other less (inr w) (inl v) =
        not_wanted request files files later turn other name v w

    pub in_turns : AreInTurns both
    in_turns = record { by_earlier = by_earlier; reads = reads; after_read = after_read }
