use Rattle.std.proofs.Common.{◌≡◌, ◌<◌, ◌≤◌, ◌+◌, List, length, All}
use Rattle.types_spec.specs.declared.types.decl.Decl.{Decl}
use Rattle.types_spec.specs.types.TypeNodes.{type_at}
use Rattle.types_build.specs.representation.Tags.{has_bracket, tags_at, tags_of_entries}
use Rattle.types_build.specs.representation.Work.{work, written_work}
use Rattle.types_build.specs.representation.RepresentationSteps.{AreEachThere, numbers_work}
use Rattle.types_build.proofs.representation.RepresentationSettledLemmas.{EachWrittenThere}
use Rattle.types_build.proofs.representation.settled_abbreviations.items_are_there.Given as goal

abbrev pub invariant-whole : goal.invariant-whole
invariant-whole l = record {
  within : l.at < length l.t.types.now;
  waiting : All (λ n. n < length l.t.types.now) l.waiting.items;
  same : has_bracket (type_at l.t.types.now l.at) ≡ has_bracket (type_at l.t.types.now l.t.number);
  there :
      (decls : List Decl)
      → AreEachThere decls l.t.types.now (tags_at l.t.types.now (tags_of_entries l.tags.entries)) l.waiting.items
      → AreEachThere decls l.t.types.now (tags_at l.t.types.now (tags_of_entries l.tags.entries)) l.initial.waiting.items
      × (EachWrittenThere decls (tags_at l.t.types.now (tags_of_entries l.tags.entries)) (type_at l.t.types.now l.at)
      → EachWrittenThere decls (tags_at l.t.types.now (tags_of_entries l.tags.entries)) (type_at l.t.types.now l.t.number));
  work :
      (decls : List Decl)
      → numbers_work decls l.t.types.now l.waiting.items + written_work (work decls) (type_at l.t.types.now l.at)
      ≤ numbers_work decls l.t.types.now l.initial.waiting.items + written_work (work decls) (type_at l.t.types.now l.t.number);
}

abbrev pub decreases-whole : goal.decreases-whole
decreases-whole l = l.at
