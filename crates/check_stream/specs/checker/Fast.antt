-- The state of the pass while the state is in local variables.
use Rattle.std.specs.Prelude.{ℕ, ◌+◌, ◌≡◌, ◌++◌, ◌∷◌, []}
use Rattle.std.specs.Global.{Vec}
use Rattle.base_data.specs.declared.model.code.Measure.{Measure}
use Rattle.marshal_spec.specs.format.Words.{words32, words64}
use Rattle.check_stream.specs.declared.checker.open_positions.BlockPositions.{BlockPositions}
use Rattle.check_stream.specs.declared.checker.check_state.CheckState.{CheckState}
use Rattle.check_stream.specs.declared.checker.stated_words.Words.{Words}

-- The state of the pass with these open positions, types and remaining words.
abbrev pub held : BlockPositions → Vec BlockPositions → Vec ℕ → Words → CheckState
held now waiting types words =
    record { positions = record { now = now; waiting = waiting }; types = types; words = words }

-- The type of one more object is added to the types, and the object's words are subtracted from the
-- remaining words.
pub record IsLeafAdded
    (type : ℕ) (measure : Measure) (old new : Vec ℕ) (before after : Words)
    : Type 0 where
  pub types : new.items ≡ old.items ++ type ∷ []
  pub w32 : after.w32 + words32 measure ≡ before.w32
  pub w64 : after.w64 + words64 measure ≡ before.w64
