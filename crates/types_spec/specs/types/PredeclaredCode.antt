-- The rows of the table in code, in terms of the definitions.
use Rattle.std.specs.Prelude.{ℕ, List, map}
use Rattle.std.specs.Borrow.{Bor}
use Rattle.types_spec.specs.declared.types.predeclared.BlockRow.{BlockRow}
use Rattle.types_spec.specs.declared.types.predeclared.SumRow.{SumRow}
use Rattle.types_spec.specs.declared.types.predeclared.RowMeaning.{RowMeaning}
use Rattle.types_spec.specs.declared.types.predeclared.RowMeaning.TheVariants as meanings
use Rattle.types_spec.specs.declared.types.predeclared.TableRow.{TableRow}
use Rattle.types_spec.specs.types.Predeclared.{SumBlock, Sum, Meaning, PredeclaredRow, base, sum}

abbrev pub texts_of : List (Bor (List ℕ)) → List (List ℕ)
texts_of names = map (λ (name : Bor (List ℕ)). name.now) names

abbrev pub block_row : BlockRow → SumBlock
block_row row = record { name = row.name.now; mutable = row.mutable; fields = row.fields.now }

abbrev pub sum_row_of : SumRow → Sum
sum_row_of row = record {
  parameters = row.parameters;
  constants = texts_of row.constants.now;
  blocks = map block_row row.blocks.now;
}

abbrev pub meaning_row : RowMeaning → Meaning
meaning_row (meanings.Base known) = base known
meaning_row (meanings.Sum row) = sum (sum_row_of row)

abbrev pub table_row : TableRow → PredeclaredRow
table_row row = record { name = row.name.now; meaning = meaning_row row.meaning }
