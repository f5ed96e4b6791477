use Rattle.std.proofs.Common.{◌≡◌}
use Rattle.cmd_gen.specs.generator.Generated.{items_made}
use Rattle.cmd_gen.specs.generator.GeneratedItems.{made_of, AreSound}
use Rattle.cmd_gen.proofs.generator.generated_value.generate.Given as goal

abbrev pub invariant-loop-item : goal.invariant-loop-item
invariant-loop-item l = (made_of l.items ≡ items_made l.number l._item) × AreSound l.items
