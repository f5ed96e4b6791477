-- The account of a run by commands in the general form: what the environment provided, the output
-- for what was provided, and how much of the output was written.
use Rattle.std.specs.Prelude.{ℕ, suc, ◌<◌, ◌≤◌, ◌≡◌, ◌⊎◌, Bool, List, [], ◌∷◌, ◌++◌, length, Ok}
use Rattle.cli_spec.specs.declared.status.Status.TheVariants.{WriteFault}
use Rattle.cli_spec.specs.Outcome.{Taken, unasked, nothing, unfetched, Request, Asks, ending_of}
use Rattle.cli_spec.specs.Outcome.{Output, outputs, exits, Reply, replies, texts_of}
use Rattle.cli_spec.specs.declared.exit.Exit.TheVariants.{Finished as finished}
use Rattle.cli_spec.specs.declared.exit.Exit.TheVariants.{Memory as out_of_memory}
use Rattle.base_io.specs.Sink.{Writes}
use Rattle.base_io.specs.StreamState.{FilesState, Change, change}
use Rattle.run_spec.specs.runs.Call.{Call}
use Rattle.run_spec.specs.runs.Commands.{Item, Fetches, Given, Commands, Prepares, OutputsFirst}
use Rattle.run_spec.specs.runs.Commands.{GoesOn}
use Rattle.run_spec.specs.runs.Commands.{RunReplies}
use Rattle.run_spec.specs.runs.Given.{chunk_limit, Gathers, Fetched}
use Rattle.run_spec.specs.runs.Environment.{WritesLine, WritesPartAfter}

module _ {A : Type 0} (c : Commands A) where
  -- The run does not end within the bytes `bytes`, and `output` is the output for the items of the
  -- bytes.
  pub record HaveNoExit (a : A) (bytes : List ℕ) (output : List Output) : Type 0 where
    pub items : List Item
    pub rest : List ℕ
    pub first : OutputsFirst c a bytes items output rest
    pub goes_on : GoesOn c a items rest

  -- After the output `before`, one more item ends. After the item, the run is finished, whatever
  -- bytes follow, and no more input was requested.
  pub record IsFinishedBehind (a : A) (taken : Taken) (before output : List Output) : Type 0 where
    pub next : Output
    pub output_are : output ≡ before ++ next ∷ []
    pub items : List Item
    pub rest : List ℕ
    pub first : OutputsFirst c a taken.bytes items output rest
    pub ok : Bool
    pub at : c.Exits a items rest (finished ok)
    pub no_more : taken.until ≡ unasked

  -- The run requests no further chunk once something ends the run. Without its last bytes, at most
  -- one chunk, the input that was read contains no exit reason. `output` is the output for the
  -- items of the input, and for one more item if the run is finished after the item. If more input
  -- was requested, then all input that was read contains no exit reason.
  pub record IsPaced (a : A) (taken : Taken) (output : List Output) : Type 0 where
    pub earlier : List ℕ
    pub buffered : List ℕ
    pub bytes_are : taken.bytes ≡ earlier ++ buffered
    pub before : List Output
    pub holds : HaveNoExit a earlier before
    pub output_are : (output ≡ before) ⊎ IsFinishedBehind a taken before output
    pub chunk : length buffered ≤ chunk_limit
    pub asked : (taken.until ≡ unasked) ⊎ (buffered ≡ [])

module _ {A : Type 0} (c : Commands A) (arguments : List (List ℕ)) where
  -- The arguments request the file with the name `name` in the turn `turn`.
  pub record IsWanted (found : Fetches) (turn : ℕ) (name : List ℕ) : Type 0 where
    pub request : Request
    pub asks : Asks arguments request
    pub wants : c.Wants request found turn name

  -- If a file is requested in a turn, the file is fetched. If no file is requested, or if memory
  -- ran out before, nothing is fetched.
  abbrev pub FetchesIn : Change FilesState → Fetches → ℕ → Type 0
  FetchesIn files found turn =
      ((name : List ℕ) × IsWanted found turn name × Fetched files name (found turn name))
      ⊎ ((files.after ≡ files.before)
      × ((name : List ℕ) → IsWanted found turn name → found turn name ≡ unfetched))

  -- The requested files are fetched turn by turn, and no further files are fetched.
  pub record FetchesFor (files : Change FilesState) (found : Fetches) : Type 0 where
    pub turns : ℕ
    pub state : ℕ → FilesState
    pub begins : state 0 ≡ files.before
    pub ends : state turns ≡ files.after
    pub each : (turn : ℕ) → turn < turns
        → FetchesIn (change (state turn) (state (suc turn))) found turn
    pub all : (turn : ℕ) (name : List ℕ) → IsWanted found turn name → turn < turns

  -- The environment may have provided `given` in the run.
  pub record MayBe (call : Call) (given : Given) : Type 0 where
    pub input : Gathers call.input given.input
    pub files : FetchesFor call.files given.files
    -- If no input is to be read, then no byte of the input was read.
    pub untaken : ((a : A) → Prepares c arguments given.files (Ok a) → c.Reads a → ⊥)
        → given.input ≡ nothing

  -- `output` is the output for the items of the input, if the run read items. If the run ended
  -- before, or has no input, then there is no output and no input was read.
  abbrev pub IsOutputFirst : Given → List Output → Type 0
  IsOutputFirst given output =
      ((given.input ≡ nothing) × (output ≡ []))
      ⊎ ((a : A) × Prepares c arguments given.files (Ok a) × c.Reads a
      × IsPaced c a given.input output)

  -- `output` is the output for some first items of the input.
  abbrev pub OutputsOfFirst : Given → List Output → Type 0
  OutputsOfFirst given output =
      (a : A) × Prepares c arguments given.files (Ok a) × c.Reads a
      × (items : List Item) × (rest : List ℕ) × OutputsFirst c a given.input.bytes items output rest

  -- After the output `output`, all texts of the final reply were written, except perhaps the
  -- reply's line. The final reply follows from what was provided, or memory ran out.
  pub record Completes (given : Given) (output : List Output) (call : Call) : Type 0 where
    pub last : Reply
    pub may_end : RunReplies c arguments given (replies output last) ⊎ (last ≡ exits out_of_memory)
    pub out : Writes call.out (ending_of (replies output last)).out
    pub line : WritesLine call.err call.status (ending_of (replies output last))

  -- After the output `output`, writing to `out` failed within the next text. Nothing was written to
  -- `err`.
  pub record Breaks (given : Given) (output : List Output) (call : Call) : Type 0 where
    pub next : Output
    pub is_next : OutputsOfFirst given (output ++ next ∷ [])
        ⊎ RunReplies c arguments given (replies output (outputs next))
    pub out : WritesPartAfter call.out (texts_of output) next.text
    pub err : Writes call.err []
    pub status : call.status ≡ WriteFault

  -- The account of the run: what the environment provided, and what was written.
  pub record Account (call : Call) : Type 0 where
    pub given : Given
    pub may_be : MayBe call given
    pub output : List Output
    pub first : IsOutputFirst given output
    pub ends : Completes given output call ⊎ Breaks given output call
