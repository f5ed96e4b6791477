-- The progress of a token's steps in the available bytes.
use Rattle.std.specs.Prelude.{ℕ, Bool, true, false, nat_lt, List, [], ◌∷◌, Option, Some, None}
use Rattle.std.specs.Prelude.{Result, Ok, Err}
use Rattle.base_data.specs.declared.model.refusal.ReadRefusal.{ReadRefusal}
use Rattle.marshal_spec.specs.format.Step.{Step}
use Rattle.marshal_read.specs.declared.unread.Unread.{Unread}
use Rattle.marshal_read.specs.declared.unread.Unread.TheVariants.{NeedMore, Refused}

-- The progress of steps: every step is passed, a step is not decided yet, or a step fails.
pub data Progress : Type 0 where
  passed : Progress
  waiting : Progress
  failed : ReadRefusal → Progress

-- The progress of two parts. If the first part is passed, the result is the progress of the second
-- part. If not, the result is the progress of the first part.
abbrev pub and_then : Progress → Progress → Progress
and_then passed next = next
and_then waiting next = waiting
and_then (failed r) next = failed r

-- The progress of a decided step with this refusal.
abbrev pub of_refusal : Option ReadRefusal → Progress
of_refusal None = passed
of_refusal (Some r) = failed r

-- The progress of one step. If the flag is `true`, the step is not decided yet.
abbrev pub once : Bool → Option ReadRefusal → Progress
once true refusal = waiting
once false refusal = of_refusal refusal

-- The progress of the steps, one after another, in `n` bytes.
abbrev pub progress : ℕ → List Step → Progress
progress n [] = passed
progress n (s ∷ steps) = and_then (once (nat_lt n s.ends) s.refusal) (progress n steps)

-- The progress that a result of the executable code reports.
abbrev pub answered : {X : Type 0} → Result X Unread → Progress
answered (Ok x) = passed
answered (Err NeedMore) = waiting
answered (Err (Refused r)) = failed r
