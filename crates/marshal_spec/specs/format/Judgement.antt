-- The judgement on bytes that are read as a value.
use Rattle.std.specs.Prelude.{ℕ, ◌≤◌, ◌≡◌, List, length, take}
use Rattle.base_data.specs.declared.model.refusal.ReadRefusal.{ReadRefusal}
use Rattle.marshal_spec.specs.format.Tree.{Tree}
use Rattle.marshal_spec.specs.format.Encoded.{EncodedUnder}
use Rattle.marshal_spec.specs.format.Prefix.{IsPrefix, IsRefused}

-- A judgement on bytes: the bytes are incomplete, their first `n` bytes encode a value, or their
-- first `n` bytes are refused.
pub data Judgement : Type 0 where
  prefix : Judgement
  value : ℕ → Tree → Judgement
  refused : ℕ → ReadRefusal → Judgement

abbrev pub Judges : ℕ → List ℕ → Judgement → Type 0
Judges limit bytes prefix = IsPrefix limit bytes
Judges limit bytes (value n tree) = (n ≤ length bytes) × EncodedUnder limit (take n bytes) tree
Judges limit bytes (refused n refusal) = (n ≤ length bytes) × IsRefused limit (take n bytes) refusal

-- The judgement holds for the bytes, and no other judgement holds for the bytes.
pub record IsJudgement (limit : ℕ) (bytes : List ℕ) (judgement : Judgement) : Type 0 where
  pub holds : Judges limit bytes judgement
  pub only : (other : Judgement) → Judges limit bytes other → other ≡ judgement
