-- Sums over tokens.
use Rattle.std.specs.Prelude.{ℕ, ◌≤◌, ◌^◌, List, Option, sum_by}
use Rattle.base_data.specs.declared.model.code.Measure.{Measure}
use Rattle.marshal_spec.specs.format.Words.{of_object, fields, Sums as Defined}
use Rattle.test_oracles.specs.declared.words.Sums.{Sums}

-- The number of fields of all blocks.
abbrev pub all_fields : List (Option Measure) → ℕ
all_fields tokens = sum_by (of_object fields) tokens

-- The four sums as a record of the definitions.
abbrev pub sums_in : Sums → Defined
sums_in s = record { objects = s.objects; pending = s.pending; w32 = s.w32; w64 = s.w64 }

-- The sums are so small that one more token causes no overflow.
abbrev pub AreFew : Sums → Type 0
AreFew s = (s.objects ≤ 2 ^ 127) × (s.pending ≤ 2 ^ 127) × (s.w32 ≤ 2 ^ 127) × (s.w64 ≤ 2 ^ 127)
