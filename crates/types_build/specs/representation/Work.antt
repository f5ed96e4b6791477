-- A termination measure for heads. Each expansion and each gathered item decreases the measure.
use Rattle.std.specs.Prelude.{ℕ, zero, suc, ◌+◌, List, Option, Some, None}
use Rattle.types_spec.specs.declared.types.decl.Decl.{Decl}
use Rattle.types_spec.specs.types.Ty.{Ty, tag, tag_of, including}
use Rattle.types_spec.specs.types.Declarations.{unfolded}
use Rattle.types_spec.specs.types.Head.{enough}

-- The measure of a written bracket: one for each item, and for an included type one more, plus the
-- measure of the included type.
abbrev pub written_work : (Ty → ℕ) → Ty → ℕ
written_work w (tag whole x) = suc (written_work w whole)
written_work w (tag_of whole x argument) = suc (written_work w whole)
written_work w (including whole included) = suc (suc (written_work w whole + w included))
written_work w t = 0

-- The measure of a type: an expansion at the head counts two, plus the measure of the expanded
-- type.
abbrev pub work_by : (Ty → ℕ) → Ty → Option Ty → ℕ
work_by w t (Some u) = suc (suc (w u))
work_by w t None = written_work w t

abbrev pub work_within : List Decl → ℕ → Ty → ℕ
work_within decls zero t = 0
work_within decls (suc n) t = work_by (work_within decls n) t (unfolded decls t)

unfoldable pub work : List Decl → Ty → ℕ
work decls t = work_within decls (enough decls t) t
