use Rattle.std.proofs.Common.{◌<◌, length, All}
use Rattle.types_spec.specs.types.TypeNodes.{type_at}
use Rattle.types_build.specs.representation.Tags.{tags_at, tags_of_entries}
use Rattle.types_build.specs.representation.RepresentationSteps.{AreSettled, AreEachThere, EachBringsNone, numbers_work}
use Rattle.types_build.proofs.representation.settled_abbreviations.are_there.Given as goal

abbrev pub invariant-next : goal.invariant-next
invariant-next l = record {
  within : All (λ n. n < length l.t.types.now) l.waiting.items;
  there :
      AreSettled l.decls (tags_at l.t.types.now (tags_of_entries l.tags.entries)) l.settled.keys
      → AreEachThere l.decls l.t.types.now (tags_at l.t.types.now (tags_of_entries l.tags.entries)) l.waiting.items
      → EachBringsNone l.decls (tags_at l.t.types.now (tags_of_entries l.tags.entries)) (type_at l.t.types.now l.t.number);
}

abbrev pub decreases-next : goal.decreases-next
decreases-next l = numbers_work l.decls l.t.types.now l.waiting.items
