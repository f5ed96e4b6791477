-- The text of the summary of a token, and the result of testing it against a type.
use Rattle.std.specs.Prelude.{ℕ, ◌≡◌, List, [], ◌++◌, length, codes, decimal, Bool, true, false}
use Rattle.std.specs.Fmt.{signed_decimal}
use Rattle.base_data.specs.declared.model.code.CustomKind.TheVariants as customs
use Rattle.base_data.specs.declared.model.code.CustomKind.{CustomKind}
use Rattle.types_spec.specs.declared.types.shape.ShapeOf.{ShapeOf}
use Rattle.types_spec.specs.types.Fitting.{is_int32, is_int64, is_native}
use Rattle.types_spec.specs.types.Table.{Table}
use Rattle.marshal_spec.specs.format.Token.{Token}
use Rattle.marshal_codec.specs.declared.token.summary.Summary.{Summary}
use Rattle.marshal_codec.specs.declared.token.summary.Summary.TheVariants as summaries
use Rattle.check_stream.specs.theory.AskedNeeds.{of_type, values_in}
use Rattle.check_stream.specs.mismatch_theory.PassedBut.{MadeObject, positions_of, IsPlain, Takes}
use Rattle.check_stream.specs.mismatch_theory.PassedBut.{Misses}
use Rattle.check_stream.specs.checker.OpenPositions.{open_needs}
use Rattle.check_stream.specs.declared.mismatch_search.token_judgement.TokenJudgement.{TokenJudgement}
use Rattle.check_stream.specs.declared.mismatch_search.token_judgement.TokenJudgement.TheVariants as judged

-- The text of the token in the output line of a mismatch.
abbrev pub summary_text : Summary → List ℕ
summary_text (summaries.Integer z) = codes "int " ++ signed_decimal z
summary_text (summaries.Atom tag) = codes "atom " ++ decimal tag
summary_text (summaries.Shared offset) = []
summary_text (summaries.Block tag size) =
    codes "block " ++ decimal tag ++ codes " of " ++ decimal size
summary_text (summaries.Bytes n) = codes "string"
summary_text summaries.Double = codes "float"
summary_text (summaries.Doubles n) = codes "float array of " ++ decimal n
summary_text (summaries.Custom customs.Int32) = codes "int32"
summary_text (summaries.Custom customs.Int64) = codes "int64"
summary_text (summaries.Custom customs.Native) = codes "nativeint"

-- Returns true if a custom matches the shape.
abbrev pub has_custom : ShapeOf ℕ → CustomKind → Bool
has_custom shape customs.Int32 = is_int32 shape
has_custom shape customs.Int64 = is_int64 shape
has_custom shape customs.Native = is_native shape

abbrev pub judged_by : Bool → TokenJudgement
judged_by true = judged.Fits
judged_by false = judged.Misses

-- The token is not a reference.
abbrev pub IsNoBack : Summary → Type 0
IsNoBack (summaries.Shared offset) = ⊥
IsNoBack summary = Unit {0}

-- The result of the test is possible for the token. Only a block opens positions, and only a
-- reference leads back.
abbrev pub IsApt : Summary → TokenJudgement → Type 0
IsApt summary judged.Fits = IsNoBack summary
IsApt summary (judged.Opens open') =
    (tag : ℕ) × (size : ℕ) × (summary ≡ summaries.Block tag size)
    × (values_in (open_needs open') ≡ size)
IsApt summary (judged.Back offset) = summary ≡ summaries.Shared offset
IsApt summary judged.Misses = Unit {0}
IsApt summary judged.Unknown = Unit {0}

-- What each `TokenJudgement` means. `Fits` and `Opens`: the token matches the type. `Back`: the
-- token is a reference. `Misses`: the token does not match the type. `Unknown` states nothing.
abbrev pub IsJudged : Table → ℕ → Token → TokenJudgement → Type 0
IsJudged table t token judged.Fits =
    (back : List ℕ) (tokens : List Token) (made : List MadeObject) (trail : List (ℕ × ℕ))
    → Takes back table (IsPlain table tokens) made trail (of_type t) token []
IsJudged table t token (judged.Opens open') =
    (back : List ℕ) (tokens : List Token) (made : List MadeObject) (trail : List (ℕ × ℕ))
    → Takes back table (IsPlain table tokens) made trail (of_type t) token
    (positions_of (length made) trail 0 (open_needs open'))
IsJudged table t token (judged.Back offset) = Unit {0}
IsJudged table t token judged.Misses = Misses table t token
IsJudged table t token judged.Unknown = Unit {0}
