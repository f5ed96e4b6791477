-- The output line for a generated value.
use Rattle.std.specs.Prelude.{ℕ, ◌^◌, ◌<◌, ◌≤◌, ◌≡◌, List, []}
use Rattle.base_data.specs.declared.model.value.Val.{Val}
use Rattle.base_data.specs.declared.model.value.Obj.{Obj}
use Rattle.marshal_spec.specs.format.Isomorphism.{IsTreeOf}
use Rattle.marshal_spec.specs.format.Tree.{Tree, root, objects_of}
use Rattle.cli_spec.specs.Outcome.{Output, the_verdict, line}
use Rattle.run_types.specs.declared.requested.Prepared.{Prepared}
use Rattle.run_types.specs.Language.{TypeOver, IsTypeLine}
use Rattle.run_types.specs.RequestedTexts.{type_over, IsReady}
use Rattle.cmd_gen.specs.generator.ValueLine.{generated_text}
use Rattle.cmd_gen.specs.spec.GenSpec.{Making}
use Rattle.cmd_gen.specs.declared.command.verdict_line.Line.{Line}

-- The text of the line and whether the value is ok, as an `Output`.
abbrev pub output_of : Line → Output
output_of line = record { text = line.text.items; ok = line.ok }

-- The task of generating a value from `number` with `count` items, at the type of `r`.
abbrev pub making_of : (number count : ℕ) → Prepared → Making TypeOver
making_of number count r = record { number = number; count = count; type = type_over r }

-- The output is the line for a value of a graph. The numbers and the verdict in the line are those
-- of a tree of the value.
pub record IsGraphLine (t : TypeOver) (graph : List Obj) (v : Val) (output : Output) : Type 0 where
  pub tree : Tree
  pub is_tree : IsTreeOf graph v tree
  pub verdict : List ℕ
  pub is_verdict : IsTypeLine the_verdict t (objects_of tree 0) (root tree 0) verdict output.ok
  pub text_is : output.text ≡ line (generated_text tree verdict)

-- The command has consumed no input and written no output. `number` and `count` are in range, and
-- the type of `r` is ready for checks.
pub record HasNothing (number count : ℕ) (r : Prepared) (bytes : List ℕ) (output : List Output)
    : Type 0 where
  pub none : bytes ≡ []
  pub silent : output ≡ []
  pub number_fits : number < 2 ^ 31
  pub count_fits : count ≤ 1000000
  pub ready : IsReady r
