-- The output for items, which is collected before the output is written.
use Rattle.std.specs.Prelude.{ℕ, ◌<◌, ◌≤◌, ◌≡◌, ◌⊎◌, Bool, List, [], ◌∷◌, ◌++◌, length, take, drop}
use Rattle.std.specs.Prelude.{Option, Some, None, Result, Ok, Err, if◌then◌else◌}
use Rattle.cli_spec.specs.Outcome.{Output, texts_of}
use Rattle.cli_spec.specs.declared.exit.Exit.{Exit}
use Rattle.cli_spec.specs.declared.exit.Exit.TheVariants.{Finished as finished}
use Rattle.cli_spec.specs.declared.exit.Exit.TheVariants.{Memory as out_of_memory}
use Rattle.base_io.specs.IoFaults.{last_count}
use Rattle.base_io.specs.StreamState.{ByteState, change}
use Rattle.cli_errors.specs.declared.exit_line.Error.{Error}
use Rattle.cli_errors.specs.declared.exit_line.Error.TheVariants as aborts
use Rattle.run_spec.specs.runs.Account.{HaveNoExit}
use Rattle.run_spec.specs.runs.Commands.{Item, Commands, OutputsFirst}
use Rattle.run_loop.specs.declared.work.passed_bytes.PassedBytes.{PassedBytes}
use Rattle.run_loop.specs.work.Works.{Has, AreOutput, FinishesIn}

-- A text in memory, as the state of a sink. The count of faults is at its maximum, because failures
-- of memory are not counted.
abbrev pub text_state : List ℕ → ByteState
text_state text = record { bytes = Some text; faults = last_count }

-- The output for bytes that were consumed at once.
abbrev pub text_passed : PassedBytes → List ℕ → List ℕ
text_passed passed buffered = if passed.copied then take passed.bytes buffered else []

module _ {A : Type 0} (c : Commands A) (a : A) where
  -- Writing may fail in the output `next` for the item after the outputs `first`. The bytes before
  -- the item do not end the run.
  pub record MayBreakAt (bytes : List ℕ) (output : List Output) (buffered : List ℕ)
      (first : List Output) (next : Output) : Type 0 where
    pub done : List ℕ
    pub rest : List ℕ
    pub split : buffered ≡ done ++ rest
    pub holds : HaveNoExit c a (bytes ++ done) (output ++ first)
    pub are_output : AreOutput c a (bytes ++ buffered) ((output ++ first) ++ next ∷ [])

  -- Writing may fail in any of the outputs `more`.
  abbrev pub MayBreak : List ℕ → List Output → List ℕ → List Output → Type 0
  MayBreak bytes output buffered more =
      (first later : List Output) (next : Output) → more ≡ first ++ next ∷ later
      → MayBreakAt bytes output buffered first next

  -- The first `n` current bytes are consumed, and `text` is the output for the items that end in
  -- the consumed bytes.
  pub record GathersTo (has : Has) (buffered : List ℕ) (n : ℕ) (text bytes : List ℕ)
      (output : List Output) : Type 0 where
    pub more : List Output
    pub there : has (bytes ++ take n buffered) (output ++ more)
    pub text_is : text ≡ texts_of more
    pub may_break : MayBreak bytes output buffered more

  -- Either some current bytes are consumed at once, or no byte is consumed.
  abbrev pub Passes : Has → Has → List ℕ → Option PassedBytes → Type 0
  Passes before after buffered None =
      (bytes : List ℕ) (output : List Output) → before bytes output → after bytes output
  Passes before after buffered (Some passed) =
      (0 < passed.bytes) × (passed.bytes ≤ length buffered)
      × ((bytes : List ℕ) (output : List Output) → before bytes output
      → GathersTo after buffered passed.bytes (text_passed passed buffered) bytes output)

  -- Some current bytes are consumed. At the end of the consumed bytes the run ends, or memory ran
  -- out.
  pub record GathersUntil (buffered : List ℕ) (exit : Exit) (text bytes : List ℕ)
      (output : List Output) : Type 0 where
    pub n : ℕ
    pub more : List Output
    pub holds : HaveNoExit c a (bytes ++ take n buffered) (output ++ more)
    pub why : c.Exits a holds.items (holds.rest ++ drop n buffered) exit
        ⊎ (exit ≡ out_of_memory)
    pub text_is : text ≡ texts_of more
    pub may_break : MayBreak bytes output buffered more

  -- Some current bytes and one more item are consumed. The run is finished after the item.
  pub record GathersLast (buffered : List ℕ) (exit : Exit) (text bytes : List ℕ)
      (output : List Output)
      : Type 0 where
    pub n : ℕ
    pub more : List Output
    pub holds : HaveNoExit c a (bytes ++ take n buffered) (output ++ more)
    pub next : Output
    pub items : List Item
    pub rest : List ℕ
    pub first : OutputsFirst c a (bytes ++ buffered) items ((output ++ more) ++ next ∷ []) rest
    pub ok : Bool
    pub at : c.Exits a items rest (finished ok)
    pub is : aborts.Exit exit ≡ aborts.Exit (finished ok)
    pub text_is : text ≡ texts_of (more ++ next ∷ [])
    pub may_break : MayBreak bytes output buffered (more ++ next ∷ [])

  -- If the result is a number, at least one current byte is consumed, and the output for the items
  -- that end in the consumed bytes is collected. If the result is an error, the run ends.
  abbrev pub Gathers : Has → Has → List ℕ → List ℕ → Result ℕ Error → Type 0
  Gathers before after buffered text (Ok n) =
      (0 < n) × (n ≤ length buffered)
      × ((bytes : List ℕ) (output : List Output) → before bytes output
      → GathersTo after buffered n text bytes output)
  Gathers before after buffered text (Err (aborts.Exit exit)) =
      (bytes : List ℕ) (output : List Output) → before bytes output
      → GathersUntil buffered exit text bytes output ⊎ GathersLast buffered exit text bytes output
  Gathers before after buffered text (Err aborts.WriteFault) = ⊥

  -- If the result is a number, at least one current byte is consumed, and at most one item ends.
  -- The output of the item is appended to a text. If the result is an error, the run ends.
  abbrev pub GathersOne : Has → Has → List ℕ → List ℕ → List ℕ → Result ℕ Error → Type 0
  GathersOne before after buffered old new (Ok n) =
      (0 < n) × (n ≤ length buffered)
      × ((bytes : List ℕ) (output : List Output) → before bytes output
      → HaveNoExit c a bytes output
      × (more : List Output) × (length more ≤ 1)
      × after (bytes ++ take n buffered) (output ++ more)
      × HaveNoExit c a (bytes ++ take n buffered) (output ++ more) × (new ≡ old ++ texts_of more))
  GathersOne before after buffered old new (Err (aborts.Exit exit)) =
      (bytes : List ℕ) (output : List Output) → before bytes output
      → ((holds : HaveNoExit c a bytes output)
      × (c.Exits a holds.items (holds.rest ++ buffered) exit ⊎ (exit ≡ out_of_memory))
      × (new ≡ old))
      ⊎ FinishesIn c a bytes buffered output (change (text_state old) (text_state new))
      (aborts.Exit exit)
  GathersOne before after buffered old new (Err aborts.WriteFault) = ⊥

  -- If the result is a number, at least one current byte is consumed, and any number of items may
  -- end. The outputs of the items are appended to a text. If the result is an error, the run ends.
  abbrev pub GathersSome : Has → Has → List ℕ → List ℕ → List ℕ → Result ℕ Error → Type 0
  GathersSome before after buffered old new (Ok n) =
      (0 < n) × (n ≤ length buffered)
      × ((bytes : List ℕ) (output : List Output) → before bytes output
      → (text : List ℕ) × GathersTo after buffered n text bytes output × (new ≡ old ++ text))
  GathersSome before after buffered old new (Err error) =
      GathersOne before after buffered old new (Err error)
