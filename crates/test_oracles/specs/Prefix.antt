-- The prefixes of bytes that are refused.
use Rattle.std.specs.Prelude.{ℕ, ◌≡◌, ◌<◌, ◌≤◌, List, length, take, Option, Some, None}
use Rattle.base_data.specs.declared.model.refusal.ReadRefusal.{ReadRefusal}
use Rattle.marshal_spec.specs.format.Step.{Context, first_refusal, token_steps}
use Rattle.test_oracles.specs.declared.prefix.Decided.{Decided}
use Rattle.test_oracles.specs.Refusal.{refusal_of}

-- The refusal of the first step that these bytes of a token decide and fail.
abbrev pub refusal_at : Context → List ℕ → Option ReadRefusal
refusal_at c token = first_refusal (length token) (token_steps c token)

-- The first `count` bytes are refused, and no shorter prefix of the bytes is refused.
pub record IsDecided (refuse : List ℕ → Option ReadRefusal) (bytes : List ℕ) (d : Decided)
    : Type 0 where
  pub within : d.count ≤ length bytes
  pub refused : refuse (take d.count bytes) ≡ Some (refusal_of d.refusal)
  pub fewer : (k : ℕ) → k < d.count → refuse (take k bytes) ≡ None

-- The result is the shortest refused prefix, or `None` if no prefix is refused.
abbrev pub FirstRefused : (List ℕ → Option ReadRefusal) → List ℕ → Option Decided → Type 0
FirstRefused refuse bytes None = refuse bytes ≡ None
FirstRefused refuse bytes (Some d) = IsDecided refuse bytes d
