-- The sum of two command sets, where each request belongs to at most one set.
use Rattle.std.specs.Prelude.{ℕ, ◌⊎◌, List, Result, Ok, Err}
use Rattle.std.proofs.Common.{inl, inr}
use Rattle.cli_spec.specs.Outcome.{Request, Asks, Output, Reply}
use Rattle.cli_spec.specs.declared.exit.Exit.{Exit}
use Rattle.run_spec.specs.runs.Account.{Account}
use Rattle.run_spec.specs.runs.Call.{Call}
use Rattle.run_spec.specs.runs.Commands.{Item, Fetches, Commands}
use Rattle.run_spec.specs.runs.RunSpec.{RunSpec}

module _ {A B : Type 0} (c : Commands A) (d : Commands B) where
  abbrev pub Wants : Request → Fetches → ℕ → List ℕ → Type 0
  Wants request files turn name =
      c.Wants request files turn name ⊎ d.Wants request files turn name

  abbrev pub Finds : Request → Fetches → Result (A ⊎ B) Exit → Type 0
  Finds request files (Ok (inl a)) = c.Finds request files (Ok a)
  Finds request files (Ok (inr b)) = d.Finds request files (Ok b)
  Finds request files (Err exit) =
      c.Finds request files (Err exit) ⊎ d.Finds request files (Err exit)

  abbrev pub Reads : A ⊎ B → Type 0
  Reads (inl a) = c.Reads a
  Reads (inr b) = d.Reads b

  abbrev pub IsFirst : A ⊎ B → List Item → List ℕ → Item → List ℕ → Type 0
  IsFirst (inl a) = c.IsFirst a
  IsFirst (inr b) = d.IsFirst b

  abbrev pub Outputs : A ⊎ B → List Item → Item → Output → Type 0
  Outputs (inl a) = c.Outputs a
  Outputs (inr b) = d.Outputs b

  abbrev pub Exits : A ⊎ B → List Item → List ℕ → Exit → Type 0
  Exits (inl a) = c.Exits a
  Exits (inr b) = d.Exits b

  abbrev pub Ends : A ⊎ B → List Item → List ℕ → Reply → Type 0
  Ends (inl a) = c.Ends a
  Ends (inr b) = d.Ends b

  -- The commands of the sets `c` and `d` in one set.
  abbrev pub command_sum : Commands (A ⊎ B)
  command_sum = record {
    Wants = Wants;
    Finds = Finds;
    Reads = Reads;
    IsFirst = IsFirst;
    Outputs = Outputs;
    Exits = Exits;
    Ends = Ends;
  }

-- The command set ignores the request: the set requests no file and finds no task.
pub record IsIdleAt {A : Type 0} (c : Commands A) (request : Request) : Type 0 where
  pub unwanted : (files : Fetches) (turn : ℕ) (name : List ℕ)
      → c.Wants request files turn name → ⊥
  pub unfound : (files : Fetches) (result : Result A Exit) → c.Finds request files result → ⊥

-- The sets are disjoint: no request belongs to both.
abbrev pub AreDisjoint : {A B : Type 0} → Commands A → Commands B → Type 0
AreDisjoint c d = (request : Request) → IsIdleAt c request ⊎ IsIdleAt d request

-- The arguments request nothing of the commands `c`.
abbrev pub AskNothingOf : {A : Type 0} → Commands A → List (List ℕ) → Type 0
AskNothingOf c arguments = (request : Request) → Asks arguments request → IsIdleAt c request

module _ {A B : Type 0} (c : Commands A) (d : Commands B) where
  -- If both sets ignore a request, then the sum ignores the request.
  abbrev pub AreIdleTogether : Type 0
  AreIdleTogether = (request : Request) → IsIdleAt c request → IsIdleAt d request
      → IsIdleAt (command_sum c d) request

  -- If the arguments request nothing of the second set, then an account by the first set is an
  -- account by the sum.
  abbrev pub HaveAccountsOfFirst : Type 0
  HaveAccountsOfFirst = (arguments : List (List ℕ)) (call : Call) → AskNothingOf d arguments
      → Account c arguments call → Account (command_sum c d) arguments call

  -- If the arguments request nothing of the second set, then the specification by the sum implies
  -- the specification by the first set.
  abbrev pub SpecifyAsFirst : Type 0
  SpecifyAsFirst = (arguments : List (List ℕ)) (call : Call) → AskNothingOf d arguments
      → RunSpec (command_sum c d) arguments call → RunSpec c arguments call

  -- If the arguments request nothing of the first set, then an account by the second set is an
  -- account by the sum.
  abbrev pub HaveAccountsOfSecond : Type 0
  HaveAccountsOfSecond = (arguments : List (List ℕ)) (call : Call) → AskNothingOf c arguments
      → Account d arguments call → Account (command_sum c d) arguments call

  abbrev pub SpecifyAsSecond : Type 0
  SpecifyAsSecond = (arguments : List (List ℕ)) (call : Call) → AskNothingOf c arguments
      → RunSpec (command_sum c d) arguments call → RunSpec d arguments call
