-- Lemmas about the remaining occurrences of a traversal, step by step.
use Rattle.std.proofs.Common.{ℕ, ◌+◌, ◌<◌, ◌≡◌, ◌∙◌, ⊎_elim, Bool, true, List, [], ◌∷◌, ◌++◌}
use Rattle.std.proofs.Common.{length, drop, take, ◌-◌, refl, sym, ap, subst, arith, append_assoc, get_or}
use Rattle.std.specs.Prelude.{slice_index}
use Rattle.std.proofs.lemmas.Bool.{cases_lt}
use Rattle.std.proofs.lemmas.List.{append-nil, drop_all, drop-drop, get_or-drop, get_or_past, nil_from_length}
use Rattle.std.proofs.lemmas.Option.{slice_get_read, get_or_from_slice_get}
use Rattle.types_spec.specs.types.Ty.{Ty, tuple}
use Rattle.types_spec.specs.declared.types.ty.TypeTreeNode.{TypeTreeNode}
use Rattle.types_spec.specs.declared.types.ty.TypeTreeNode.TheVariants as nodes
use Rattle.types_spec.specs.types.TypeNodes.{type_at, types_of, type_of, type_of_node, IsBelow, AreOrdered}
use Rattle.types_spec.proofs.types.TypeNodeLemmas.{types_of-at}
use Rattle.types_resolve.specs.occurrences.Counted.{inner_count, inner, own}
use Rattle.types_resolve.specs.declared.occurrences.fact.Facts.{Facts}
use Rattle.types_resolve.specs.declared.occurrences.walk.WalkTask.{WalkTask}
use Rattle.types_resolve.specs.occurrences.Facts.{capped, fact_at, AreFacts}
use Rattle.types_resolve.specs.occurrences.Walk.{inner_task, whole_task, behind, tasks_of, weight, task_own, task_inner}
use Rattle.types_resolve.specs.occurrences.Walk.{task_seen, stack_seen, stack_weight, AreBelow}

-- ---- marks beyond the end

pub drop_capped : (n : ℕ) (ms : List ℕ) → length ms < 18446744073709551616 → drop (capped n) ms ≡ drop n ms
drop_capped n ms small = ⊎_elim
    (λ below. let e : capped n ≡ n = omega arith in ap (λ m. drop m ms) e)
    (λ past. drop_all (capped n) ms (omega arith) ∙ sym (drop_all n ms (omega arith)))
    (cases_lt n 18446744073709551615)

pub index_capped :
    (n : ℕ) (ms : List ℕ) → length ms < 18446744073709551616 → slice_index ms (capped n) ≡ slice_index ms n
index_capped n ms small = ⊎_elim
    (λ below. let e : capped n ≡ n = omega arith in ap (λ m. slice_index ms m) e)
    (λ past. get_or_past ms (capped n) 0 (omega arith) ∙ sym (get_or_past ms n 0 (omega arith)))
    (cases_lt n 18446744073709551615)

-- The mark with index `n` after the first `first` marks is the mark with index `first + n` of all
-- marks.
pub position_of :
    (first inside n : ℕ) (ms : List ℕ) → length ms < 18446744073709551616 → inside ≡ capped n
    → slice_index ms (capped (first + inside)) ≡ slice_index (drop first ms) n
position_of first inside n ms small is =
    let e : capped (first + inside) ≡ capped (first + n) = omega arith in
    ap (λ m. slice_index ms m) e ∙ index_capped (first + n) ms small ∙ sym (get_or-drop first ms n 0)

-- The marks after the first `first + n` marks are the marks that remain after dropping `first`
-- marks and then `n` marks.
behind_part :
    (first inside n : ℕ) (ms : List ℕ) → length ms < 18446744073709551616 → inside ≡ capped n
    → drop (capped (first + inside)) ms ≡ drop n (drop first ms)
behind_part first inside n ms small is =
    let e : capped (first + inside) ≡ capped (first + n) = omega arith in
    ap (λ m. drop m ms) e ∙ drop_capped (first + n) ms small ∙ sym (drop-drop n first ms)

behind_tag :
    (first inside n : ℕ) (ms : List ℕ) → length ms < 18446744073709551616 → inside ≡ capped n
    → drop (capped (capped (first + inside) + 1)) ms ≡ drop (n + 1) (drop first ms)
behind_tag first inside n ms small is =
    let e : capped (capped (first + inside) + 1) ≡ capped (first + (n + 1)) = omega arith in
    ap (λ m. drop m ms) e ∙ drop_capped (first + (n + 1)) ms small ∙ sym (drop-drop (n + 1) first ms)

-- ---- the type of a node

pub type_at-node :
    (all : List TypeTreeNode) (i : ℕ) (node : TypeTreeNode) → AreOrdered all → i < length all → node ≡ get_or all i node
    → type_at (types_of all) i ≡ type_of_node (types_of all) node
type_at-node all i node ordered below read =
    get_or_from_slice_get (types_of all) i (type_of_node (types_of all) node) tuple
    (types_of-at all i node ordered (slice_get_read all (length all) i node refl below read))

pub node_below :
    (all : List TypeTreeNode) (i : ℕ) (node : TypeTreeNode) → AreOrdered all → i < length all → node ≡ get_or all i node
    → IsBelow i node
node_below all i node ordered below read =
    ordered i node (slice_get_read all (length all) i node refl below read)

-- A list without nodes denotes the empty tuple.
pub no_nodes : (all : List TypeTreeNode) (t : Ty) → length all ≡ 0 → type_of all ≡ t → t ≡ tuple
unfolding type_of types_of
no_nodes all t none is = sym is ∙ ap (λ l. type_of l) (nil_from_length all none)

pub last_type : (all : List TypeTreeNode) (t : Ty) → type_of all ≡ t → type_at (types_of all) (length all - 1) ≡ t
unfolding type_of
last_type all t is = is

-- ---- one task at a time

stack_seen-append :
    (types : List Ty) (ms : List ℕ) (xs ys : List WalkTask)
    → stack_seen types ms (xs ++ ys) ≡ stack_seen types ms ys ++ stack_seen types ms xs
stack_seen-append types ms [] ys = sym (append-nil (stack_seen types ms ys))
stack_seen-append types ms (x ∷ xs) ys =
    ap (λ l. l ++ task_seen types ms x) (stack_seen-append types ms xs ys)
    ∙ append_assoc (stack_seen types ms ys) (stack_seen types ms xs) (task_seen types ms x)

stack_weight-append :
    (types : List Ty) (xs ys : List WalkTask)
    → stack_weight types (xs ++ ys) ≡ stack_weight types xs + stack_weight types ys
stack_weight-append types [] ys = omega arith
stack_weight-append types (x ∷ xs) ys =
    let e : stack_weight types (xs ++ ys) ≡ stack_weight types xs + stack_weight types ys =
    stack_weight-append types xs ys in omega arith

AreBelow-append : (n : ℕ) (xs ys : List WalkTask) → AreBelow n xs → AreBelow n ys → AreBelow n (xs ++ ys)
AreBelow-append n [] ys first second = second
AreBelow-append n (x ∷ xs) ys first second = (first.0, AreBelow-append n xs ys first.1 second)

AreBelow-prefix : (n : ℕ) (xs ys : List WalkTask) → AreBelow n (xs ++ ys) → AreBelow n xs
AreBelow-prefix n [] ys below = tt
AreBelow-prefix n (x ∷ xs) ys below = (below.0, AreBelow-prefix n xs ys below.1)

AreBelow-back : (n : ℕ) (xs ys : List WalkTask) → AreBelow n (xs ++ ys) → AreBelow n ys
AreBelow-back n [] ys below = below
AreBelow-back n (x ∷ xs) ys below = AreBelow-back n xs ys below.1

-- ---- the tasks of a node

module _ (types : List Ty) (facts : List Facts) (n : ℕ) (are : AreFacts types n facts) (ms : List ℕ)
    (small : length ms < 18446744073709551616) (task : WalkTask) where
  abbrev from : List ℕ
  from = drop task.first ms

  -- If a part has the marks `at`, then the occurrences of the part's task are those of the part.
  part_seen :
      (w a first : ℕ) (in_tag : Bool) (at : List ℕ) → drop first ms ≡ at
      → stack_seen types ms (whole_task a first in_tag ∷ inner_task task w ∷ [])
      ≡ inner from task.in_tag (type_at types w) ++ (own at in_tag (type_at types a) ++ inner at in_tag (type_at types a))
  part_seen w a first in_tag at is = ap (λ l. inner from task.in_tag (type_at types w)
      ++ (own l in_tag (type_at types a) ++ inner l in_tag (type_at types a))) is

  parts_seen :
      (node : TypeTreeNode) → IsBelow task.node node → task.node < n
      → stack_seen types ms (tasks_of facts task node) ≡ inner from task.in_tag (type_of_node types node)
  parts_seen (nodes.Variable x) below within = refl
  parts_seen (nodes.Named x) below within = refl
  parts_seen nodes.Tuple below within = refl
  parts_seen nodes.Bracket below within = refl
  parts_seen (nodes.Part w a) below within =
      let known = (are.are w (omega (arith, below.0))).inner_is in
      part_seen w a (behind facts task w) task.in_tag (drop (inner_count (type_at types w)) from)
      (behind_part task.first (fact_at facts w).inner (inner_count (type_at types w)) ms small known)
  parts_seen (nodes.Tag w x) below within = refl
  parts_seen (nodes.TagOf w x a) below within =
      let known = (are.are w (omega (arith, below.0))).inner_is in
      part_seen w a (capped (behind facts task w + 1)) true (drop (inner_count (type_at types w) + 1) from)
      (behind_tag task.first (fact_at facts w).inner (inner_count (type_at types w)) ms small known)
  parts_seen (nodes.Including w u) below within =
      let known = (are.are w (omega (arith, below.0))).inner_is in
      part_seen w u (capped (behind facts task w + 1)) task.in_tag (drop (inner_count (type_at types w) + 1) from)
      (behind_tag task.first (fact_at facts w).inner (inner_count (type_at types w)) ms small known)

parts_weight :
    (types : List Ty) (facts : List Facts) (task : WalkTask) (node : TypeTreeNode)
    → stack_weight types (tasks_of facts task node) < weight (type_of_node types node)
parts_weight types facts task (nodes.Variable x) = omega arith
parts_weight types facts task (nodes.Named x) = omega arith
parts_weight types facts task nodes.Tuple = omega arith
parts_weight types facts task nodes.Bracket = omega arith
parts_weight types facts task (nodes.Part w a) = omega arith
parts_weight types facts task (nodes.Tag w x) = omega arith
parts_weight types facts task (nodes.TagOf w x a) = omega arith
parts_weight types facts task (nodes.Including w u) = omega arith

parts_below :
    (facts : List Facts) (n : ℕ) (task : WalkTask) (node : TypeTreeNode) → IsBelow task.node node → task.node < n
    → AreBelow n (tasks_of facts task node)
parts_below facts n task (nodes.Variable x) below within = tt
parts_below facts n task (nodes.Named x) below within = tt
parts_below facts n task nodes.Tuple below within = tt
parts_below facts n task nodes.Bracket below within = tt
parts_below facts n task (nodes.Part w a) below within =
    let i = below.0 in let j = below.1 in (omega arith, (omega arith, tt))
parts_below facts n task (nodes.Tag w x) below within = (omega arith, tt)
parts_below facts n task (nodes.TagOf w x a) below within =
    let i = below.0 in let j = below.1 in (omega arith, (omega arith, tt))
parts_below facts n task (nodes.Including w u) below within =
    let i = below.0 in let j = below.1 in (omega arith, (omega arith, tt))

-- ---- the next step of the traversal

-- The node of the task that was popped exists.
pub popped_below :
    (n : ℕ) (tasks kept : List WalkTask) (task : WalkTask) → tasks ≡ kept ++ task ∷ [] → AreBelow n tasks
    → task.node < n
popped_below n tasks kept task popped below =
    (AreBelow-back n kept (task ∷ []) (subst (AreBelow n) popped below)).0

-- If the loop ends, then no task is left.
pub none_left :
    (tasks kept : List WalkTask) (n : ℕ) → tasks ≡ kept ++ [] → kept ≡ take (n - 1) tasks → n ≡ 0 → tasks ≡ []
none_left tasks kept n popped rest none =
    let e : n - 1 ≡ 0 = omega arith in
    popped ∙ ap (λ l. l ++ []) (rest ∙ ap (λ m. take m tasks) e)

module _ (nodes : List TypeTreeNode) (ordered : AreOrdered nodes) (facts : List Facts)
    (are : AreFacts (types_of nodes) (length nodes) facts) (task : WalkTask) (node : TypeTreeNode)
    (read : node ≡ get_or nodes task.node node) (tasks kept next : List WalkTask) (popped : tasks ≡ kept ++ task ∷ [])
    (pushed : next ≡ kept ++ tasks_of facts task node) (below : AreBelow (length nodes) tasks) where
  abbrev types : List Ty
  types = types_of nodes

  task_below : task.node < length nodes
  task_below = popped_below (length nodes) tasks kept task popped below

  type_is : type_at types task.node ≡ type_of_node types node
  type_is = type_at-node nodes task.node node ordered task_below read

  pub next_below : AreBelow (length nodes) next
  next_below = subst (AreBelow (length nodes)) (sym pushed)
      (AreBelow-append (length nodes) kept (tasks_of facts task node)
      (AreBelow-prefix (length nodes) kept (task ∷ []) (subst (AreBelow (length nodes)) popped below))
      (parts_below facts (length nodes) task node (node_below nodes task.node node ordered task_below read) task_below))

  pub next_weight : stack_weight types next < stack_weight types tasks
  next_weight =
      let first : stack_weight types tasks ≡ stack_weight types kept + (weight (type_of_node types node) + 0) =
      ap (stack_weight types) popped ∙ stack_weight-append types kept (task ∷ [])
      ∙ ap (λ t. stack_weight types kept + (weight t + 0)) type_is in
      let second : stack_weight types next ≡ stack_weight types kept + stack_weight types (tasks_of facts task node) =
      ap (stack_weight types) pushed ∙ stack_weight-append types kept (tasks_of facts task node) in
      let less = parts_weight types facts task node in
      omega arith

  pub next_seen :
      (ms : List ℕ) → length ms < 18446744073709551616
      → stack_seen types ms tasks ≡ task_own types ms task ++ stack_seen types ms next
  next_seen ms small =
      let own = task_own types ms task in
      let rest = stack_seen types ms kept in
      let inside : stack_seen types ms (tasks_of facts task node) ≡ task_inner types ms task =
      parts_seen types facts (length nodes) are ms small task node
      (node_below nodes task.node node ordered task_below read) task_below
      ∙ ap (inner (drop task.first ms) task.in_tag) (sym type_is) in
      ap (stack_seen types ms) popped ∙ stack_seen-append types ms kept (task ∷ [])
      ∙ append_assoc own (task_inner types ms task) rest
      ∙ ap (λ l. own ++ (l ++ rest)) (sym inside)
      ∙ ap (λ l. own ++ l) (sym (stack_seen-append types ms kept (tasks_of facts task node)) ∙ sym (ap (stack_seen types ms) pushed))
