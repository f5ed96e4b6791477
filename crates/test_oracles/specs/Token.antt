-- The tokens of the definitions.
use Rattle.marshal_spec.specs.format.Token.{Token as Encoded, integer, atom, shared, block, leaf}
use Rattle.test_oracles.specs.declared.token.Token.{Token}
use Rattle.test_oracles.specs.declared.token.Token.TheVariants.{Integer, Atom, Shared, Block, Leaf}

-- The token of the definitions that this token represents.
abbrev pub token_of : Token → Encoded
token_of (Integer z) = integer z
token_of (Atom tag) = atom tag
token_of (Shared offset) = shared offset
token_of (Block tag size) = block tag size
token_of (Leaf object) = leaf object
