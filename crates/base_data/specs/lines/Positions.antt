-- The printed forms of positions, for values of the type in the code.
use Rattle.std.specs.Prelude.{ℕ, true, List, decimal}
use Rattle.base_data.specs.lines.Lines.{position_in, position_on}
use Rattle.base_data.specs.declared.lines.position_style.PositionStyle.{PositionStyle}
use Rattle.base_data.specs.declared.lines.position_style.PositionStyle.TheVariants as positions

abbrev pub reported_by : PositionStyle → ℕ → List ℕ
reported_by positions.Bytes = λ position. decimal position
reported_by (positions.Text text) = position_in true text.now
reported_by (positions.Line number) = position_on true number
