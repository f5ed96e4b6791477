-- The requests of the command `gen`, and a language that reads each type.
use Rattle.std.specs.Prelude.{ℕ, ◌≡◌, ◌≤◌, Bool, List, Some}
use Rattle.cli_spec.specs.CommandLine.{greatest_count}
use Rattle.cli_spec.specs.Outcome.{Request, AskedType, Language}
use Rattle.cmd_gen.specs.spec.GenSpec.{GenArguments, generated_by}
use Rattle.thm_outcome.specs.Total.{NotNone}

-- Each text is read as declarations or refused, and each text is read as a type or refused.
pub record ReadsEachType {D T E : Type 0} (language : Language D T E) : Type 0 where
  pub declarations_some : (lined : Bool) (text : List ℕ)
      → NotNone (language.ReadsDeclarations lined text)
  pub type_some : (d : D) (asked : AskedType) → NotNone (language.ReadsType d asked)

-- The request is a request of `gen`.
abbrev pub IsMadeRequest : Request → Type 0
IsMadeRequest request = (asked : GenArguments) × (generated_by request ≡ Some asked)

-- The request is a request of `gen` with at most the maximum COUNT.
abbrev pub IsMadeInRange : Request → Type 0
IsMadeInRange request =
    (asked : GenArguments) × (generated_by request ≡ Some asked) × (asked.count ≤ greatest_count)
