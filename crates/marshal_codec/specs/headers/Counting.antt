-- The objects whose sizes can be computed.
use Rattle.std.specs.Prelude.{◌^◌, ◌<◌, ◌≤◌}
use Rattle.base_data.specs.declared.model.code.Measure.{Measure}
use Rattle.base_data.specs.declared.model.code.Measure.TheVariants.{Block, Bytes, Double, Doubles}
use Rattle.base_data.specs.declared.model.code.Measure.TheVariants.{Custom}

-- The number of fields or bytes is less than 2^60, and a custom block has at most eight bytes of
-- data.
abbrev pub IsCountable : Measure → Type 0
IsCountable (Block n) = n < 2 ^ 60
IsCountable (Bytes n) = n < 2 ^ 60
IsCountable Double = Unit {0}
IsCountable (Doubles n) = n < 2 ^ 60
IsCountable (Custom a b) = (a ≤ 8) × (b ≤ 8)
