use Rattle.std.proofs.Common.{[], refl, arith}
use Rattle.test_units.proofs.environment_tests.works.feeds_nothing.Goals as goal

pub feed-fed-requires-clause-has : goal.feed-fed-requires-clause-has
feed-fed-requires-clause-has c = ([], [], (refl, refl), omega (arith, c.type_inv))
