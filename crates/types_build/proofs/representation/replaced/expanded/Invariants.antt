use Rattle.std.proofs.Common.{◌≡◌, ◌<◌, length, None}
use Rattle.types_spec.specs.types.TypeNodes.{type_at}
use Rattle.types_spec.specs.types.Head.{head}
use Rattle.types_table.specs.store.Held.{Grows}
use Rattle.types_build.specs.representation.AbbreviationWay.{AreKnown}
use Rattle.types_build.proofs.representation.RepresentationReplacedLemmas.{ComesTo}
use Rattle.types_build.specs.representation.Work.{work}
use Rattle.types_build.proofs.representation.replaced.expanded.Given as goal

abbrev pub invariant-next : goal.invariant-next
invariant-next l = record {
  within : l.at < length l.types;
  grown : Grows l.initial.types l.types;
  head : head l.decls (type_at l.types l.at) ≡ head l.decls (type_at l.initial.types l.number);
  comes : ComesTo l.decls (type_at l.initial.types l.number) (type_at l.types l.at);
  known : AreKnown l.decls None l.known;
}

abbrev pub decreases-next : goal.decreases-next
decreases-next l = work l.decls (type_at l.types l.at)
