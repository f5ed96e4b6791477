use Rattle.std.proofs.Common.{[], None, List, reverse}
use Rattle.types_spec.specs.declared.types.head.TagOf.{TagOf}
use Rattle.types_spec.specs.types.Ty.{Ty}
use Rattle.types_table.specs.store.Held.{Grows}
use Rattle.types_build.specs.representation.Tags.{tags_of_entries}
use Rattle.types_build.specs.representation.AbbreviationWay.{AreKnown}
use Rattle.types_build.specs.representation.RepresentationSteps.{AreGathered, steps_work}
use Rattle.types_build.proofs.representation.bracket.gather_all.Given as goal

abbrev pub invariant-step : goal.invariant-step
invariant-step l = record {
  grown : Grows l.fn.types l.types;
  known : AreKnown l.decls None l.known;
  gathered : (all : List (TagOf Ty))
      → AreGathered l.decls l.fn.types (tags_of_entries l.fn.tags.entries) [] (reverse l.fn.waiting.items) all
      → AreGathered l.decls l.types (tags_of_entries l.tags.entries) l.settled.keys (reverse l.waiting.items) all;
}

abbrev pub decreases-step : goal.decreases-step
decreases-step l = steps_work l.decls l.types (reverse l.waiting.items)
