use Rattle.std.proofs.Common.{take}
use Rattle.std.specs.Prelude.{All}
use Rattle.types_table.specs.store.Held.{Grows}
use Rattle.types_wellformed.specs.head_rules.Apart.{HasBody}
use Rattle.types_wellformed.proofs.head_rules.apart.add_bodies.Given as goal

abbrev pub invariant-loop-decl : goal.invariant-loop-decl
invariant-loop-decl l = record {
  grown : Grows l.initial.types l.types;
  there : All (HasBody l.types) (take l.decl-index l.decls);
}
