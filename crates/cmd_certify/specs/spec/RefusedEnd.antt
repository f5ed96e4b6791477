-- Definitions for a command that has an output for each value by the value's number. The
-- definitions state how the input ends, which bytes of the input are refused, and what the status
-- tables state about the input.
use Rattle.std.specs.Prelude.{ℕ, ◌≡◌, ◌⊎◌, List, [], length}
use Rattle.base_data.specs.declared.model.refusal.ReadRefusal.{ReadRefusal}
use Rattle.marshal_spec.specs.format.Stream.{EncodeAll, StreamEnd, clean, refused, cut, IsTail}
use Rattle.marshal_spec.specs.format.Tree.{Tree}
use Rattle.cli_spec.specs.declared.status.Status.{Status}
use Rattle.cli_spec.specs.declared.status.Status.TheVariants.{Value}
use Rattle.cli_spec.specs.Outcome.{Reply, exits}
use Rattle.cli_spec.specs.RefusalText.{refusal_text, truncated_text}
use Rattle.cli_spec.specs.declared.exit.Exit.{Exit}
use Rattle.cli_spec.specs.declared.exit.Exit.TheVariants.{Value as value}
use Rattle.run_spec.specs.runs.Commands.{Item}
use Rattle.run_spec.specs.exit_statuses.NumberedItems.{HoldsOfAll}

-- After `number` values, the bytes that follow are refused.
pub record ComesRefused (limit number : ℕ) (bytes : List ℕ) (exit : Exit) : Type 0 where
  pub refusal : ReadRefusal
  pub tail : IsTail limit bytes (refused refusal)
  pub is : exit ≡ value number (refusal_text refusal)

module _ (limit : ℕ) (EndsClean : ℕ → Reply → Type 0) where
  -- The final reply after `number` values, for each way in which the bytes end.
  abbrev pub EndsBy : ℕ → StreamEnd → Reply → Type 0
  EndsBy number clean last = EndsClean number last
  EndsBy number (refused refusal) last = ⊥
  EndsBy number (cut n) last = last ≡ exits (value number (truncated_text n))

  abbrev pub EndsHere : List Item → List ℕ → Reply → Type 0
  EndsHere items bytes last =
      (end : StreamEnd) × IsTail limit bytes end × EndsBy (length items) end last

-- ---- the tables, for values that have a property

module _ (limit : ℕ) (Has : ℕ → Tree → Type 0) where
  -- The bytes begin with values with the property, and the bytes after the values are refused.
  pub record HoldRefusal (bytes : List ℕ) : Type 0 where
    pub trees : List Tree
    pub rest : List ℕ
    pub refusal : ReadRefusal
    pub encoded : EncodeAll limit bytes trees rest
    pub certified : HoldsOfAll Has 0 trees
    pub tail : IsTail limit rest (refused refusal)

  -- The bytes begin with values with the property, and end inside one more value.
  pub record AreSplit (bytes : List ℕ) : Type 0 where
    pub trees : List Tree
    pub rest : List ℕ
    pub n : ℕ
    pub encoded : EncodeAll limit bytes trees rest
    pub certified : HoldsOfAll Has 0 trees
    pub tail : IsTail limit rest (cut n)

  module _ (Finish : List Tree → Status → Type 0) where
    -- The bytes are whole values, and a run whose input ends after these values has this status.
    pub record AreFinished (bytes : List ℕ) (status : Status) : Type 0 where
      pub trees : List Tree
      pub encoded : EncodeAll limit bytes trees []
      pub finishes : Finish trees status

    -- If the input consists of these bytes, then the run has this status at the end of the input.
    -- If a value is truncated, the status is 4.
    abbrev pub EndWith : List ℕ → Status → Type 0
    EndWith bytes status = AreFinished bytes status ⊎ ((status ≡ Value) × AreSplit bytes)
