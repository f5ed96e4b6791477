use Rattle.std.proofs.Common.{◌≡◌, ◌≤◌, take, map}
use Rattle.test_oracles.specs.Token.{token_of}
use Rattle.test_oracles.specs.Graph.{all_made}
use Rattle.test_oracles.proofs.build.all_made.Given as goal

abbrev pub invariant-loop-token : goal.invariant-loop-token
invariant-loop-token l = (l.made ≡ all_made (map token_of (take l.token-index l.tokens))) × (l.made ≤ l.token-index)
