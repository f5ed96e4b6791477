use Rattle.std.proofs.Common.{◌<◌, Some, length}
use Rattle.std.specs.Prelude.{◌↔◌}
use Rattle.types_spec.specs.types.TypeNodes.{type_at}
use Rattle.types_spec.specs.types.Scope.{IsThrough}
use Rattle.types_table.specs.store.Held.{Grows}
use Rattle.types_build.specs.representation.AbbreviationWay.{AreKnown}
use Rattle.types_build.specs.representation.Work.{work}
use Rattle.types_wellformed.proofs.head_rules.flat_records.is_through.Given as goal

abbrev pub invariant-next : goal.invariant-next
invariant-next l = record {
  within : l.at < length l.types;
  grown : Grows l.fn.types l.types;
  known : AreKnown l.decls (Some l.group) l.known;
  same : IsThrough l.decls l.group (type_at l.types l.at) ↔ IsThrough l.decls l.group l.t;
}

abbrev pub decreases-next : goal.decreases-next
decreases-next l = work l.decls (type_at l.types l.at)
