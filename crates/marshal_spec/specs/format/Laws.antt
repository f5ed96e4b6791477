-- Laws of the format, for all byte strings.
use Rattle.std.specs.Prelude.{ℕ, ◌≡◌, List, [], ◌++◌}
use Rattle.base_data.specs.model.Bytes.{AreBytes}
use Rattle.marshal_spec.specs.format.Token.{Token, Encodes}
use Rattle.marshal_spec.specs.format.Judgement.{Judgement, IsJudgement}

-- Under each limit, every byte string has exactly one judgement: it is incomplete, or it begins
-- with a value, or it begins with refused bytes.
abbrev pub HasOneJudgement : Type 0
HasOneJudgement =
    (limit : ℕ) (bytes : List ℕ) → AreBytes bytes
    → (judgement : Judgement) × IsJudgement limit bytes judgement

-- If an encoding of a token is a prefix of an encoding of a token, then both encodings and both
-- tokens are equal.
abbrev pub NoEncodingBeginsAnother : Type 0
NoEncodingBeginsAnother =
    (t u : Token) (xs ys : List ℕ) → Encodes t xs → Encodes u (xs ++ ys) → (ys ≡ []) × (t ≡ u)

-- Bytes encode at most one token.
abbrev pub EncodesOneToken : Type 0
EncodesOneToken = (t u : Token) (bytes : List ℕ) → Encodes t bytes → Encodes u bytes → t ≡ u
