use Rattle.std.proofs.Common.{◌≡◌, take}
use Rattle.check_stream.proofs.mismatch_search.way.copy_to.Given as goal

-- The copy contains the links that were visited.
abbrev pub invariant-links : goal.invariant-links
invariant-links l = l.copy.items ≡ take l.link-index l.links
