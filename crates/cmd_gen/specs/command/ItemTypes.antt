-- The meaning of TYPE over the declarations of the items.
use Rattle.std.specs.Prelude.{ℕ, ◌≡◌, ◌⊎◌, List, Result, Ok, Err}
use Rattle.cli_spec.specs.declared.exit.Exit.{Exit}
use Rattle.cli_spec.specs.declared.exit.Exit.TheVariants.{Memory as out_of_memory}
use Rattle.run_types.specs.declared.requested.Prepared.{Prepared}
use Rattle.run_types.specs.Language.{declared_types}
use Rattle.run_types.specs.RequestedTexts.{type_over, IsReady}
use Rattle.cmd_gen.specs.spec.GenSpec.{ReadsItemType}

-- The result contains the type that TYPE denotes, or the exit reason if TYPE is refused. The exit
-- reason may also be that memory ran out.
abbrev pub GivesItemType : List ℕ → Result Prepared Exit → Type 0
GivesItemType text (Ok r) = ReadsItemType declared_types text (Ok (type_over r)) × IsReady r
GivesItemType text (Err exit) =
    ReadsItemType declared_types text (Err exit) ⊎ (exit ≡ out_of_memory)
