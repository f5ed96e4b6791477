-- The position of a walk among the tokens of a value.
use Rattle.std.specs.Prelude.{ℕ, suc, ◌+◌, ◌-◌, ◌*◌, ◌<◌, ◌≤◌, ◌≡◌, ◌==◌, true, List, [], ◌∷◌, ◌++◌}
use Rattle.std.specs.Prelude.{length, map, drop, All, Option, None, Some, slice_get, slice_index}
use Rattle.std.specs.Prelude.{slice_set, vec_len, vec_capacity, if◌then◌else◌}
use Rattle.std.specs.List.{AllZip}
use Rattle.base_data.specs.declared.model.value.Val.{Val}
use Rattle.base_data.specs.declared.model.value.Obj.{Obj}
use Rattle.base_data.specs.model.Graph.{IsValue}
use Rattle.marshal_spec.specs.format.Tree.{Tree, Forest, tokens, forest_tokens, AreTrees}
use Rattle.marshal_spec.specs.format.Tree.{AllReferBack, roots}
use Rattle.marshal_spec.specs.format.Tree.{objects_of, all_objects}
use Rattle.marshal_spec.specs.format.Isomorphism.{Agree, IsTreeOf}
use Rattle.marshal_spec.specs.canonical.Numbering.{numbered, IsNumbering}
use Rattle.marshal_heap.specs.heap.Heap.{object_at, fields_of, IsHeap, position, word_of}
use Rattle.marshal_write.specs.write.Marks.{marks_of}
use Rattle.marshal_write.specs.write.WriteStep.{token_in, object_token}
use Rattle.marshal_write.specs.declared.write.write_walk.WriteStep.{WriteStep}
use Rattle.marshal_write.specs.declared.write.write_walk.RemainingFields.{RemainingFields}
use Rattle.marshal_write.specs.declared.write.write_walk.WriteWalk.{WriteWalk}

-- ---- the remaining values

-- The remaining field values of a block.
abbrev pub fields_left : List Obj → RemainingFields → List Val
fields_left g frame =
    drop (length (fields_of (object_at g frame.block)) - length frame.rest.now)
    (fields_of (object_at g frame.block))

-- The remaining words of the frame are the words of the frame's remaining field values.
pub record IsFrame (g : List Obj) (frame : RemainingFields) : Type 0 where
  pub words : frame.rest.now ≡ map (word_of g) (fields_left g frame)
  pub valid : All (IsValue (length g)) (fields_left g frame)

-- An outer block has at least one remaining field.
abbrev pub IsOuter : List Obj → RemainingFields → Type 0
IsOuter g frame = IsFrame g frame × (0 < length frame.rest.now)

-- The remaining values of all blocks. The values of the last block come first.
abbrev pub left_in : List Obj → List RemainingFields → List Val
left_in g [] = []
left_in g (frame ∷ frames) = left_in g frames ++ fields_left g frame

abbrev pub left_of : List Obj → WriteWalk → List Val
left_of g walk = fields_left g walk.last ++ left_in g walk.frames.items

-- The result is the word of the first remaining value, or `None` if no value remains.
abbrev pub Takes : List Obj → List Val → List Val → Option ℕ → Type 0
Takes g old new None = (old ≡ []) × (new ≡ [])
Takes g old new (Some word) =
    (v : Val) × (old ≡ v ∷ new) × IsValue (length g) v × (word ≡ word_of g v)

abbrev pub root_left : WriteWalk → List Val
root_left walk = if walk.given == 0 then walk.root ∷ [] else []

abbrev pub pending : List Obj → WriteWalk → List Val
pending g walk = root_left walk ++ left_of g walk

-- ---- first visits

pub record IsMet (g : List Obj) (k : ℕ) (old new : WriteWalk) (step : WriteStep) : Type 0 where
  pub root : new.root ≡ old.root
  pub given : new.given ≡ old.given
  pub count : new.count ≡ old.count + 1
  pub marks : marks_of new.marks ≡ slice_set (marks_of old.marks) k (old.count + 1)
  pub met : new.marks.ordered ≡ true → new.marks.met ≡ new.count
  pub again : new.again ≡ old.again
  pub was : new.marks.ordered ≡ true → old.marks.ordered ≡ true
  pub next : new.marks.ordered ≡ true → new.next ≡ 8 * position g new.count
  pub left : left_of g new ≡ fields_of (object_at g k) ++ left_of g old
  pub last : IsFrame g new.last
  pub frames : All (IsOuter g) new.frames.items
  pub many_marks : length (marks_of new.marks) ≡ length (marks_of old.marks)
  pub depth : vec_len new.frames ≤ vec_len old.frames + 1
  pub capacity : vec_capacity new.frames ≡ vec_capacity old.frames
  pub token : token_in g step ≡ object_token (object_at g k)

-- The marks of the first `c` visited objects are their positions, counted from 1. The marks of all
-- other objects are 0.
pub record AreMarked (g : List Obj) (ks : List ℕ) (c : ℕ) (marks : List ℕ) : Type 0 where
  pub size : length marks ≡ length g
  pub found : (i k : ℕ) → i < c → slice_get ks i ≡ Some k → slice_index marks k ≡ suc i
  pub named : (i k : ℕ) → slice_index marks k ≡ suc i → (i < c) × (slice_get ks i ≡ Some k)

-- The objects are visited in the order of their numbers.
abbrev pub AreInOrder : List ℕ → Type 0
AreInOrder ks = (i k : ℕ) → slice_get ks i ≡ Some k → k ≡ i

-- ---- the position in the tree

-- After `c` objects, the trees of `forest` remain, and they are the trees of `values`.
pub record AreLeft (tree : Tree) (ks : List ℕ) (c : ℕ) (forest : Forest) (values : List Val)
    : Type 0 where
  pub are_trees : AreTrees forest
  pub back : AllReferBack forest c
  pub objects : drop c (objects_of tree 0) ≡ all_objects forest c
  pub agree : AllZip (Agree (numbered ks)) values (roots forest c)

pub record IsAt (g : List Obj) (tree : Tree) (walk : WriteWalk) : Type 0 where
  pub ks : List ℕ
  pub numbering : IsNumbering g walk.root tree ks
  pub forest : Forest
  pub tokens_left : drop walk.given (tokens tree) ≡ forest_tokens forest
  pub within : walk.given ≤ length (tokens tree)
  pub left : AreLeft tree ks walk.count forest (pending g walk)
  pub marked : AreMarked g ks walk.count (marks_of walk.marks)
  pub order : walk.again ≡ true → walk.marks.ordered ≡ true → AreInOrder ks

-- The invariant of a walk: for each tree of the walk's root, the walk is at a position among the
-- tokens of the tree. The root has exactly one tree.
pub record IsWalk (g : List Obj) (walk : WriteWalk) : Type 0 where
  pub heap : IsHeap g
  pub value : IsValue (length g) walk.root
  pub last : IsFrame g walk.last
  pub frames : All (IsOuter g) walk.frames.items
  pub depth : vec_len walk.frames ≤ walk.count
  pub marks : length (marks_of walk.marks) ≡ length g
  pub met : walk.marks.ordered ≡ true → walk.marks.met ≡ walk.count
  pub next : walk.marks.ordered ≡ true → walk.next ≡ 8 * position g walk.count
  pub room : length g ≤ vec_capacity walk.frames
  pub at : (tree : Tree) → IsTreeOf g walk.root tree → IsAt g tree walk
