-- The tasks of a traversal of a type.
use Rattle.std.specs.Prelude.{ℕ, suc, ◌+◌, ◌<◌, Bool, true, false, List, [], ◌∷◌, ◌++◌, drop}
use Rattle.std.specs.Prelude.{if◌then◌else◌}
use Rattle.types_spec.specs.types.Ty.{Ty, variable, named, tuple, bracket, part, tag, tag_of}
use Rattle.types_spec.specs.types.Ty.{including}
use Rattle.types_spec.specs.declared.types.ty.TypeTreeNode.{TypeTreeNode}
use Rattle.types_spec.specs.declared.types.ty.TypeTreeNode.TheVariants as nodes
use Rattle.types_spec.specs.types.TypeNodes.{type_at}
use Rattle.types_spec.specs.types.Occurrence.{Occurrence}
use Rattle.types_resolve.specs.occurrences.Counted.{inner, own}
use Rattle.types_resolve.specs.declared.occurrences.fact.Facts.{Facts}
use Rattle.types_resolve.specs.occurrences.Facts.{fact_at, capped}
use Rattle.types_resolve.specs.declared.occurrences.walk.WalkTask.{WalkTask}

-- ---- the tasks of a node's parts, with the first one to visit last in the list

abbrev pub inner_task : WalkTask → ℕ → WalkTask
inner_task task w = record { node = w; first = task.first; in_tag = task.in_tag; whole = false }

abbrev pub whole_task : ℕ → ℕ → Bool → WalkTask
whole_task a first in_tag = record { node = a; first = first; in_tag = in_tag; whole = true }

-- The index of the first mark after the marks in the parts of node `w`.
abbrev pub behind : List Facts → WalkTask → ℕ → ℕ
behind facts task w = capped (task.first + (fact_at facts w).inner)

abbrev pub tasks_of : List Facts → WalkTask → TypeTreeNode → List WalkTask
tasks_of facts task (nodes.Part w a) =
    whole_task a (behind facts task w) task.in_tag ∷ inner_task task w ∷ []
tasks_of facts task (nodes.Including w u) =
    whole_task u (capped (behind facts task w + 1)) task.in_tag ∷ inner_task task w ∷ []
tasks_of facts task (nodes.TagOf w x a) =
    whole_task a (capped (behind facts task w + 1)) true ∷ inner_task task w ∷ []
tasks_of facts task (nodes.Tag w x) = inner_task task w ∷ []
tasks_of facts task node = []

-- ---- the remaining occurrences

-- The number of tasks in the traversal of a type or of its parts.
abbrev pub weight : Ty → ℕ
weight (variable x) = 1
weight (named x) = 1
weight tuple = 1
weight bracket = 1
weight (part whole added) = suc (weight whole + weight added)
weight (tag whole x) = suc (weight whole)
weight (tag_of whole x argument) = suc (weight whole + weight argument)
weight (including whole included) = suc (weight whole + weight included)

module _ (types : List Ty) (marks : List ℕ) where
  -- The occurrence with which the task's type begins, if the task's `whole` is true.
  abbrev pub task_own : WalkTask → List Occurrence
  task_own task =
      if task.whole then own (drop task.first marks) task.in_tag (type_at types task.node) else []

  abbrev pub task_inner : WalkTask → List Occurrence
  task_inner task = inner (drop task.first marks) task.in_tag (type_at types task.node)

  abbrev pub task_seen : WalkTask → List Occurrence
  task_seen task = task_own task ++ task_inner task

  -- The occurrences of a stack of tasks. The last task is visited first.
  abbrev pub stack_seen : List WalkTask → List Occurrence
  stack_seen [] = []
  stack_seen (task ∷ tasks) = stack_seen tasks ++ task_seen task

abbrev pub stack_weight : List Ty → List WalkTask → ℕ
stack_weight types [] = 0
stack_weight types (task ∷ tasks) = weight (type_at types task.node) + stack_weight types tasks

abbrev pub AreBelow : ℕ → List WalkTask → Type 0
AreBelow n [] = Unit {0}
AreBelow n (task ∷ tasks) = (task.node < n) × AreBelow n tasks
