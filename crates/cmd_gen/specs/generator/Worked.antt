-- Worked examples of generated values and their lines.
use Rattle.std.specs.Prelude.{ℕ, ◌≡◌, [], ◌∷◌, replicate, pos, codes}
use Rattle.base_data.specs.declared.model.value.Val.TheVariants as vals
use Rattle.base_data.specs.declared.model.value.Obj.TheVariants as objects
use Rattle.marshal_spec.specs.format.Isomorphism.{IsTreeOf}
use Rattle.marshal_spec.specs.format.Token.{integer, block, leaf}
use Rattle.marshal_spec.specs.format.Tree.{Tree, node, none, more}
use Rattle.cmd_gen.specs.generator.Generated.{generated}
use Rattle.cmd_gen.specs.generator.ValueLine.{generated_text}

-- `an_int`: the tree of an integer. `a_cell`: the tree of a list cell.
abbrev pub an_int : ℕ → Tree
an_int n = node (integer (pos n)) none

abbrev pub a_cell : Tree → Tree → Tree
a_cell first rest = node (block 0 2) (more first (more rest none))

-- The tree of a `Text` item with 38 bytes `c`.
abbrev pub a_text : Tree
a_text = node (block 1 1) (more (node (leaf (objects.Bytes (replicate 38 99))) none) none)

-- The tree of the list of `Nil`, `Nil` and the `Text` item `a_text`.
abbrev pub three : Tree
three = a_cell (an_int 0) (a_cell (an_int 0) (a_cell a_text (an_int 0)))

pub record WorkedValues : Type 0 where
  -- Number 1 with no items generates the empty list.
  pub none_at_all : generated 1 0 ≡ ([], vals.Int (pos 0))
  -- Number 1 with three items generates the list `three`.
  pub three_items : generated 1 3 ≡ (
    objects.Bytes (replicate 38 99) ∷ objects.Block 1 (vals.Ref 0 ∷ [])
        ∷ objects.Block 0 (vals.Ref 1 ∷ vals.Int (pos 0) ∷ [])
        ∷ objects.Block 0 (vals.Int (pos 0) ∷ vals.Ref 2 ∷ [])
        ∷ objects.Block 0 (vals.Int (pos 0) ∷ vals.Ref 3 ∷ []) ∷ [],
    vals.Ref 4,
  )
  -- `an_int 0` and `three` are the trees of the two generated values.
  pub empty_tree : IsTreeOf (generated 1 0).0 (generated 1 0).1 (an_int 0)
  pub three_tree : IsTreeOf (generated 1 3).0 (generated 1 3).1 three
  -- The output lines for the two generated values, if the verdict is `yes`.
  pub empty_line : generated_text (an_int 0) (codes "yes")
      ≡ codes "bytes 21 sum 702 objects 0 words 0 yes"
  pub three_line : generated_text three (codes "yes")
      ≡ codes "bytes 67 sum 5354 objects 5 words 17 yes"
