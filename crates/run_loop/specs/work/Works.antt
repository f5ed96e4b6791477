-- A command, and the bytes of the command's input as they arrive.
use Rattle.std.specs.Prelude.{ℕ, ◌<◌, ◌≤◌, ◌≡◌, ◌⊎◌, Bool, List, [], ◌∷◌, ◌++◌, length, take}
use Rattle.std.specs.Prelude.{Result, Ok, Err}
use Rattle.cli_spec.specs.Outcome.{Output, outputs, exits, texts_of, all_ok}
use Rattle.cli_spec.specs.declared.exit.Exit.TheVariants.{Finished as finished}
use Rattle.cli_spec.specs.declared.exit.Exit.TheVariants.{Memory as out_of_memory}
use Rattle.base_io.specs.Sink.{Writes, WritesPart}
use Rattle.base_io.specs.StreamState.{ByteState, Change, change}
use Rattle.cli_errors.specs.declared.exit_line.Error.{Error}
use Rattle.cli_errors.specs.declared.exit_line.Error.TheVariants as aborts
use Rattle.run_spec.specs.runs.Account.{HaveNoExit}
use Rattle.run_spec.specs.runs.Commands.{Item, Commands, OutputsFirst}

-- A relation between the consumed bytes and the outputs for the items of the consumed bytes.
abbrev pub Has : Type 1
Has = List ℕ → List Output → Type 0

module _ {A : Type 0} (c : Commands A) (a : A) where
  -- An item stays an item if more bytes follow.
  abbrev pub ItemsStay : Type 0
  ItemsStay = (items : List Item) (bytes : List ℕ) (item : Item) (more later : List ℕ)
      → c.IsFirst a items bytes item more → c.IsFirst a items (bytes ++ later) item (more ++ later)

  -- The outputs are the outputs for the first items of the bytes.
  abbrev pub AreOutput : List ℕ → List Output → Type 0
  AreOutput bytes output =
      (items : List Item) × (rest : List ℕ) × OutputsFirst c a bytes items output rest

  -- ---- the run within a chunk

  -- The bytes `earlier` do not end the run. If the error is an exit reason, the run ends with the
  -- current bytes, or memory ran out. If the error is a failed write, the next item ends, and the
  -- output of the item could not be written completely.
  abbrev pub AbortsIn : List ℕ → List ℕ → List Output → Change ByteState → Error → Type 0
  AbortsIn earlier buffered output out (aborts.Exit exit) =
      (holds : HaveNoExit c a earlier output)
      × (c.Exits a holds.items (holds.rest ++ buffered) exit
      ⊎ (exit ≡ out_of_memory))
      × Writes out []
  AbortsIn earlier buffered output out aborts.WriteFault =
      HaveNoExit c a earlier output
      × (next : Output) × AreOutput (earlier ++ buffered) (output ++ next ∷ [])
      × WritesPart out next.text

  -- One more item ends in the current bytes, and the output of the item is written. The run ends
  -- after the item with the exit reason `error`.
  pub record FinishesIn (earlier buffered : List ℕ) (output : List Output) (out : Change ByteState)
      (error : Error) : Type 0 where
    pub holds : HaveNoExit c a earlier output
    pub next : Output
    pub items : List Item
    pub rest : List ℕ
    pub first : OutputsFirst c a (earlier ++ buffered) items (output ++ next ∷ []) rest
    pub ok : Bool
    pub at : c.Exits a items rest (finished ok)
    pub is : error ≡ aborts.Exit (finished ok)
    pub write : Writes out next.text

  abbrev pub Aborts : List ℕ → List ℕ → List Output → Change ByteState → Error → Type 0
  Aborts earlier buffered output out error =
      AbortsIn earlier buffered output out error ⊎ FinishesIn earlier buffered output out error

  -- If the result is a number, at least one current byte is consumed, and at most one item ends in
  -- the consumed bytes. The output of the item is written. If the result is an error, the run ends.
  abbrev pub Feeds : Has → Has → List ℕ → Change ByteState → Result ℕ Error → Type 0
  Feeds before after buffered out (Ok n) =
      (0 < n) × (n ≤ length buffered)
      × ((bytes : List ℕ) (output : List Output) → before bytes output
      → (more : List Output) × (length more ≤ 1)
      × after (bytes ++ take n buffered) (output ++ more) × Writes out (texts_of more))
  Feeds before after buffered out (Err error) =
      (bytes : List ℕ) (output : List Output) → before bytes output
      → Aborts bytes buffered output out error

  -- The run ends within a chunk. The outputs for the items that end before the exit are written.
  pub record AbortsWithin (bytes : List ℕ) (output : List Output) (chunk : List ℕ)
      (out : Change ByteState) (error : Error) : Type 0 where
    pub done : List ℕ
    pub buffered : List ℕ
    pub split : chunk ≡ done ++ buffered
    pub more : List Output
    pub between : ByteState
    pub write : Writes (change out.before between) (texts_of more)
    pub aborts : AbortsIn (bytes ++ done) buffered (output ++ more) (change between out.after) error

  -- The run is finished within a chunk. The outputs for the items that end in the consumed bytes
  -- are written, and the run ends after the last item.
  pub record FinishesWithin (bytes : List ℕ) (output : List Output) (chunk : List ℕ)
      (out : Change ByteState) (error : Error) : Type 0 where
    pub done : List ℕ
    pub buffered : List ℕ
    pub split : chunk ≡ done ++ buffered
    pub more : List Output
    pub holds : HaveNoExit c a (bytes ++ done) (output ++ more)
    pub next : Output
    pub items : List Item
    pub rest : List ℕ
    pub first : OutputsFirst c a (bytes ++ chunk) items ((output ++ more) ++ next ∷ []) rest
    pub ok : Bool
    pub at : c.Exits a items rest (finished ok)
    pub is : error ≡ aborts.Exit (finished ok)
    pub write : Writes out (texts_of (more ++ next ∷ []))

  abbrev pub AbortsSo : List ℕ → List Output → List ℕ → Change ByteState → Error → Type 0
  AbortsSo bytes output chunk out error =
      AbortsWithin bytes output chunk out error ⊎ FinishesWithin bytes output chunk out error

  -- If the result is a number, at least one current byte is consumed, and the outputs for the items
  -- that end in the consumed bytes are written. If the result is an error, the run ends within the
  -- current bytes.
  abbrev pub FeedsSome : Has → Has → List ℕ → Change ByteState → Result ℕ Error → Type 0
  FeedsSome before after buffered out (Ok n) =
      (0 < n) × (n ≤ length buffered)
      × ((bytes : List ℕ) (output : List Output) → before bytes output
      → (more : List Output) × after (bytes ++ take n buffered) (output ++ more)
      × Writes out (texts_of more))
  FeedsSome before after buffered out (Err error) =
      (bytes : List ℕ) (output : List Output) → before bytes output
      → AbortsSo bytes output buffered out error

  -- If the result is `Ok`, a whole chunk is consumed, and the outputs for the items that end in the
  -- chunk are written. If the result is an error, the run ends within the chunk.
  abbrev pub FeedsAll :
      {U : Type 0} → Has → Has → List ℕ → Change ByteState → Result U Error → Type 0
  FeedsAll before after chunk out (Ok done) =
      (bytes : List ℕ) (output : List Output) → before bytes output
      → (more : List Output) × after (bytes ++ chunk) (output ++ more) × Writes out (texts_of more)
  FeedsAll before after chunk out (Err error) =
      (bytes : List ℕ) (output : List Output) → before bytes output
      → AbortsSo bytes output chunk out error

  -- ---- the run at the end of the input

  -- How the final reply is written. If the result is `Ok`, the final output is written, and the
  -- result states whether no output has an error. If the result is an exit reason, the final reply
  -- is that exit reason, or memory ran out. If the result is a failed write, the output could not
  -- be written completely.
  abbrev pub WritesLast :
      List Output → List Item → List ℕ → Change ByteState → Result Bool Error → Type 0
  WritesLast output items rest out (Ok ok) =
      (final : Output) × c.Ends a items rest (outputs final)
      × (ok ≡ all_ok (output ++ final ∷ [])) × Writes out final.text
  WritesLast output items rest out (Err (aborts.Exit exit)) =
      (c.Ends a items rest (exits exit) ⊎ (exit ≡ out_of_memory)) × Writes out []
  WritesLast output items rest out (Err aborts.WriteFault) =
      (final : Output) × c.Ends a items rest (outputs final) × WritesPart out final.text

  -- The input ends after the consumed bytes.
  abbrev pub EndsAt : Has → Change ByteState → Result Bool Error → Type 0
  EndsAt has out result =
      (bytes : List ℕ) (output : List Output) → has bytes output
      → (holds : HaveNoExit c a bytes output) × WritesLast output holds.items holds.rest out result
