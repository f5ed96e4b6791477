-- What bytes begin with: a token, a part of a token, or no token.
use Rattle.std.specs.Prelude.{ℕ, ◌<◌, List, length}
use Rattle.marshal_spec.specs.format.Raw.{raw_length}
use Rattle.marshal_codec.specs.declared.token.token_step.TokenStep.{TokenStep}
use Rattle.marshal_codec.specs.declared.token.token_step.TokenStep.TheVariants as steps
use Rattle.marshal_codec.specs.token.Summary.{IsSummaryBy, HasFewFields}
use Rattle.marshal_codec.specs.token.TokenFault.{IsFaultBy}

-- The meaning of a result:
--
-- - `Token`: the first `n` bytes encode a token with this summary,
-- - `More`: the bytes end before the token that they begin with ends,
-- - `Fault`: as many bytes are present as their sizes require, but the bytes encode no token
--   because of this fault.
abbrev pub IsStep : List ℕ → TokenStep → Type 0
IsStep bytes (steps.Token summary n) = IsSummaryBy bytes summary n × HasFewFields summary
IsStep bytes steps.More = length bytes < raw_length bytes
IsStep bytes (steps.Fault fault) = IsFaultBy bytes fault
