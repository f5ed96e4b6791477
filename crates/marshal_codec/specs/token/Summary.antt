-- The summary of a token: the token, up to the contents of an object without fields.
use Rattle.std.specs.Prelude.{ℕ, ◌^◌, ◌<◌, ◌≤◌, ◌≡◌, List, length, take, Option, ℤ, Some, None}
use Rattle.base_data.specs.declared.model.code.CodeKind.{CodeKind}
use Rattle.base_data.specs.declared.model.code.CustomKind.{CustomKind}
use Rattle.base_data.specs.declared.model.code.CustomKind.TheVariants as customs
use Rattle.base_data.specs.declared.model.code.Measure.{Measure}
use Rattle.base_data.specs.declared.model.code.Measure.TheVariants as measures
use Rattle.base_data.specs.declared.model.value.Obj.{Obj}
use Rattle.base_data.specs.declared.model.value.Obj.TheVariants as objects
use Rattle.marshal_spec.specs.format.Token.{Token, integer, atom, shared, block, leaf, IsToken}
use Rattle.marshal_spec.specs.format.Token.{Encodes, EncodesAfter}
use Rattle.marshal_codec.specs.declared.token.summary.Summary.{Summary}
use Rattle.marshal_codec.specs.declared.token.summary.Summary.TheVariants as summaries

-- The object of a custom block.
abbrev pub custom_leaf : CustomKind → ℤ → Obj
custom_leaf customs.Int32 z = objects.I32 z
custom_leaf customs.Int64 z = objects.I64 z
custom_leaf customs.Native z = objects.Native z

-- The token has this summary.
abbrev pub IsSummary : Summary → Token → Type 0
IsSummary (summaries.Integer z) token = token ≡ integer z
IsSummary (summaries.Atom tag) token = token ≡ atom tag
IsSummary (summaries.Shared offset) token = token ≡ shared offset
IsSummary (summaries.Block tag size) token = token ≡ block tag size
IsSummary (summaries.Bytes n) token =
    (all : List ℕ) × (length all ≡ n) × (token ≡ leaf (objects.Bytes all))
IsSummary summaries.Double token = (bits : ℕ) × (token ≡ leaf (objects.Double bits))
IsSummary (summaries.Doubles n) token =
    (all : List ℕ) × (length all ≡ n) × (token ≡ leaf (objects.Doubles all))
IsSummary (summaries.Custom kind) token = (z : ℤ) × (token ≡ leaf (custom_leaf kind z))

-- A block has fewer than 2^60 fields.
abbrev pub HasFewFields : Summary → Type 0
HasFewFields (summaries.Integer z) = Unit {0}
HasFewFields (summaries.Atom tag) = Unit {0}
HasFewFields (summaries.Shared offset) = Unit {0}
HasFewFields (summaries.Block tag size) = size < 2 ^ 60
HasFewFields (summaries.Bytes n) = Unit {0}
HasFewFields summaries.Double = Unit {0}
HasFewFields (summaries.Doubles n) = Unit {0}
HasFewFields (summaries.Custom kind) = Unit {0}

-- The object of the token is small enough for its words to be counted.
abbrev pub IsFair : Summary → Type 0
IsFair (summaries.Integer z) = Unit {0}
IsFair (summaries.Atom tag) = Unit {0}
IsFair (summaries.Shared offset) = Unit {0}
IsFair (summaries.Block tag size) = size < 2 ^ 60
IsFair (summaries.Bytes n) = n < 2 ^ 60
IsFair summaries.Double = Unit {0}
IsFair (summaries.Doubles n) = n < 2 ^ 60
IsFair (summaries.Custom kind) = Unit {0}

-- The bytes after a code of this kind encode a token with this summary.
pub record IsSummaryAfter (kind : CodeKind) (chunk : List ℕ) (summary : Summary) : Type 0 where
  pub token : Token
  pub encodes : EncodesAfter kind chunk token
  pub is_token : IsToken token
  pub is_summary : IsSummary summary token

-- The first `n` bytes encode a token with this summary.
pub record IsSummaryBy (bytes : List ℕ) (summary : Summary) (n : ℕ) : Type 0 where
  pub some : 0 < n
  pub within : n ≤ length bytes
  pub token : Token
  pub encodes : Encodes token (take n bytes)
  pub is_token : IsToken token
  pub is_summary : IsSummary summary token

-- The number of fields of the token.
abbrev pub summary_fields : Summary → ℕ
summary_fields (summaries.Block tag size) = size
summary_fields summary = 0

-- The measure of a custom block.
abbrev pub custom_measure : CustomKind → Measure
custom_measure customs.Int32 = measures.Custom 4 4
custom_measure customs.Int64 = measures.Custom 8 8
custom_measure customs.Native = measures.Custom 4 8

abbrev pub summary_measure : Summary → Option Measure
summary_measure (summaries.Integer z) = None
summary_measure (summaries.Atom tag) = None
summary_measure (summaries.Shared offset) = None
summary_measure (summaries.Block tag size) = Some (measures.Block size)
summary_measure (summaries.Bytes n) = Some (measures.Bytes n)
summary_measure summaries.Double = Some measures.Double
summary_measure (summaries.Doubles n) = Some (measures.Doubles n)
summary_measure (summaries.Custom kind) = Some (custom_measure kind)
