use Rattle.std.proofs.Common.{◌≡◌, map, take}
use Rattle.marshal_spec.specs.format.Raw.{raw_measure}
use Rattle.test_oracles.proofs.prefix.measures.Given as goal

abbrev pub invariant-loop-token : goal.invariant-loop-token
invariant-loop-token l = l.all.items ≡ map raw_measure (take l.token-index l.tokens)
