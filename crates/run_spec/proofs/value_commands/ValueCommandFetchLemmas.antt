-- FILE and SCRIPT are requested in the first two turns.
use Rattle.std.proofs.Common.{ℕ, zero, suc, ◌<◌, List, inl, inr, refl, arith}
use Rattle.base_io.specs.StreamState.{FilesState, Change, change}
use Rattle.cli_spec.specs.Outcome.{Request, Asks, Language}
use Rattle.run_spec.specs.runs.Account.{IsWanted, FetchesIn, FetchesFor}
use Rattle.run_spec.specs.runs.Commands.{Fetches}
use Rattle.run_spec.specs.value_commands.Tasks.{WantsFile, WantsScript, Wants, commands}

module _ {D T E : Type 0} (language : Language D T E) (arguments : List (List ℕ)) (found : Fetches)
  where
    abbrev Wanted : ℕ → List ℕ → Type 0
    Wanted turn name = IsWanted (commands language) arguments found turn name

    abbrev FetchedIn : Change FilesState → ℕ → Type 0
    FetchedIn files turn = FetchesIn (commands language) arguments files found turn

    pub wants_file :
        (request : Request) → Asks arguments request → (name : List ℕ)
        → WantsFile language request name → Wanted 0 name
    wants_file request asks name is =
        record { request = request; asks = asks; wants = inl (refl, is) }

    pub wants_script :
        (request : Request) → Asks arguments request → (name : List ℕ)
        → WantsScript language request found name → Wanted 1 name
    wants_script request asks name is =
        record { request = request; asks = asks; wants = inr (refl, is) }

    wanted_soon : (turn : ℕ) (name : List ℕ) → Wanted turn name → turn < 2
    wanted_soon turn name w = from w.wants where
      from : Wants language w.request found turn name → turn < 2
      from (inl (first, f)) = omega (arith, first)
      from (inr (second, s)) = omega (arith, second)

    -- If files are fetched in turn 0 and turn 1, then the requested files are fetched.
    pub new_fetches :
        (before between after : FilesState)
        → FetchedIn (change before between) 0 → FetchedIn (change between after) 1
        → FetchesFor (commands language) arguments (change before after) found
    new_fetches before between after first second = record {
      turns = 2;
      state = state;
      begins = refl;
      ends = refl;
      each = each;
      all = wanted_soon;
    } where
      state : ℕ → FilesState
      state zero = before
      state (suc zero) = between
      state (suc (suc n)) = after

      each : (turn : ℕ) → turn < 2 → FetchedIn (change (state turn) (state (suc turn))) turn
      each zero less = first
      each (suc zero) less = second
      each (suc (suc n)) less = absurd (omega (arith, less))
