use Rattle.std.proofs.Common.{◌≡◌, ◌<◌, ◌+◌, List, length, reverse}
use Rattle.types_spec.specs.declared.types.decl.Decl.{Decl}
use Rattle.types_spec.specs.declared.types.head.TagOf.{TagOf}
use Rattle.types_spec.specs.types.Ty.{Ty}
use Rattle.types_spec.specs.types.TypeNodes.{type_at}
use Rattle.types_spec.specs.types.Head.{head}
use Rattle.types_build.specs.representation.Tags.{items, with_items}
use Rattle.types_build.specs.representation.Work.{work, written_work}
use Rattle.types_build.specs.representation.RepresentationSteps.{AreLeft, steps_work}
use Rattle.types_build.proofs.representation.bracket.push_items.Given as goal

abbrev pub invariant-loop-whole : goal.invariant-loop-whole
invariant-loop-whole l = record {
  within : l.at < length l.t.types.now;
  left :
      (decls : List Decl) (tags all : List (TagOf Ty))
      → AreLeft decls l.t.types.now (with_items (head decls) tags (items (type_at l.t.types.now l.t.number))) (reverse l.initial.waiting.items) all
      → AreLeft decls l.t.types.now (with_items (head decls) tags (items (type_at l.t.types.now l.at))) (reverse l.waiting.items) all;
  work :
      (decls : List Decl)
      → steps_work decls l.t.types.now (reverse l.waiting.items) + written_work (work decls) (type_at l.t.types.now l.at)
      ≡ steps_work decls l.t.types.now (reverse l.initial.waiting.items) + written_work (work decls) (type_at l.t.types.now l.t.number);
}

abbrev pub decreases-loop-whole : goal.decreases-loop-whole
decreases-loop-whole l = l.at
