use Rattle.marshal_write.proofs.canonical_check.CanonicalLemmas.{CanonicalUpTo}
use Rattle.marshal_write.proofs.canonical_check.canonical_tokens.are_canonical.Given as goal

-- The first `at` bytes are the canonical encodings of tokens.
abbrev pub invariant-loop-turn : goal.invariant-loop-turn
invariant-loop-turn l = CanonicalUpTo l.at l.bytes
