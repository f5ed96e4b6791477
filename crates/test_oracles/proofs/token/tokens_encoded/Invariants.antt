use Rattle.std.proofs.Common.{take, map}
use Rattle.std.specs.List.{AllZip}
use Rattle.marshal_spec.specs.format.Token.{Encodes}
use Rattle.test_oracles.specs.Token.{token_of}
use Rattle.test_oracles.proofs.token.tokens_encoded.Given as goal

-- The byte strings before the current byte string encode the tokens found so far.
abbrev pub invariant-loop-chunk : goal.invariant-loop-chunk
invariant-loop-chunk l = AllZip Encodes (map token_of l.tokens.items) (take l.chunk-index l.chunks)
