-- The command `gen` in the general form of `Commands`. The command requests no file and reads no
-- input. The final reply is the line of the generated value.
use Rattle.std.specs.Prelude.{ℕ, ◌≡◌, false, List, [], Option, Some, None, Result, Ok}
use Rattle.marshal_spec.specs.format.Isomorphism.{IsTreeOf}
use Rattle.marshal_spec.specs.format.Tree.{Tree}
use Rattle.cli_spec.specs.Outcome.{Request, asked_type, own, generate, Output, Reply, outputs}
use Rattle.cli_spec.specs.Outcome.{exits}
use Rattle.cli_spec.specs.Outcome.{Language, the_verdict, Then, OrRefusal, line}
use Rattle.cli_spec.specs.declared.exit.Exit.{Exit}
use Rattle.cli_spec.specs.declared.exit.Exit.TheVariants.{Declarations as declarations}
use Rattle.cli_spec.specs.declared.exit.Exit.TheVariants.{RequestedType as requested_type}
use Rattle.cmd_gen.specs.generator.Generated.{item_declarations, generated}
use Rattle.cmd_gen.specs.generator.ValueLine.{generated_text}
use Rattle.run_spec.specs.runs.Commands.{Item, Fetches, Commands}

-- The parsed arguments: the number, the count of items, and the text TYPE.
pub record GenArguments : Type 0 where
  pub number : ℕ
  pub count : ℕ
  pub type : List ℕ

abbrev pub generated_by : Request → Option GenArguments
generated_by (own (generate number count type)) =
    Some (record { number = number; count = count; type = type })
generated_by request = None

-- The task of the command: to print the line for the value that is generated from the number, at a
-- type.
pub record Making (T : Type 0) : Type 0 where
  pub number : ℕ
  pub count : ℕ
  pub type : T

-- The task for the type that TYPE denotes.
abbrev pub making : {T : Type 0} → GenArguments → T → Making T
making asked type = record { number = asked.number; count = asked.count; type = type }

-- The tree is a tree of the generated value.
abbrev pub IsMadeTree : (number count : ℕ) → Tree → Type 0
IsMadeTree number count tree = IsTreeOf (generated number count).0 (generated number count).1 tree

module _ {D T E : Type 0} (language : Language D T E) where
  -- The result of parsing TYPE over the declarations of the items. Errors in TYPE are reported with
  -- their byte numbers.
  abbrev pub ReadsItemType : List ℕ → Result T Exit → Type 0
  ReadsItemType text =
      Then (OrRefusal (language.ReadsDeclarations false item_declarations) declarations) (λ decls.
      OrRefusal (language.ReadsType decls (asked_type text false)) requested_type)

  abbrev pub Finds : Request → Fetches → Result (Making T) Exit → Type 0
  Finds request files result =
      (asked : GenArguments) × (generated_by request ≡ Some asked)
      × Then (ReadsItemType asked.type) (λ type found. found ≡ Ok (making asked type)) result

  -- The output for the generated value: the numbers of its canonical bytes, and its verdict.
  pub record IsMadeLine (a : Making T) (output : Output) : Type 0 where
    pub tree : Tree
    pub is_tree : IsMadeTree a.number a.count tree
    pub verdict : List ℕ
    pub is_verdict : language.LineOf the_verdict a.type tree verdict output.ok
    pub text_is : output.text ≡ line (generated_text tree verdict)

  -- The final reply is the line of the generated value, before any byte of the input. The final
  -- reply is never an exit reason.
  abbrev pub EndsWithLine : Making T → List Item → List ℕ → Reply → Type 0
  EndsWithLine a items bytes (outputs output) = (items ≡ []) × (bytes ≡ []) × IsMadeLine a output
  EndsWithLine a items bytes (exits exit) = ⊥

  abbrev pub gen_spec : Commands (Making T)
  gen_spec = record {
    Wants = λ request files turn name. ⊥;
    Finds = Finds;
    Reads = λ a. ⊥;
    IsFirst = λ a items bytes item more. ⊥;
    Outputs = λ a items item output. ⊥;
    Exits = λ a items bytes exit. ⊥;
    Ends = EndsWithLine;
  }
