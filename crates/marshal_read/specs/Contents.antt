-- The bytes after the code of a complete token.
use Rattle.std.specs.Prelude.{ℕ, List}
use Rattle.base_data.specs.declared.model.code.CodeKind.{CodeKind}
use Rattle.marshal_spec.specs.format.Token.{Token, IsToken, EncodesAfter}
use Rattle.marshal_spec.specs.format.Tree.{RefersBack}

-- The bytes after a code of this kind encode a token that may follow `n` objects.
abbrev pub EncodesTokenAfter : CodeKind → List ℕ → ℕ → Type 0
EncodesTokenAfter kind rest n = (t : Token) × EncodesAfter kind rest t × IsToken t × RefersBack t n
