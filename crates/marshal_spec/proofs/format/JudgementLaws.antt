-- Every byte string has exactly one judgement.
use Rattle.std.proofs.Common.{◌≡◌, ℕ, ◌≤◌, ◌<◌, List, length, take, refl, ap, ◌∙◌, length-append, arith}
use Rattle.std.specs.List.{concat}
use Rattle.base_data.specs.declared.model.refusal.ReadRefusal.{ReadRefusal}
use Rattle.marshal_spec.specs.format.Tree.{Tree}
use Rattle.marshal_spec.specs.format.Encoded.{EncodedUnder}
use Rattle.marshal_spec.specs.format.Prefix.{IsPrefix, IsRefused}
use Rattle.marshal_spec.specs.format.Judgement.{Judgement, prefix, value, refused, Judges, IsJudgement}
use Rattle.marshal_spec.specs.format.Laws.{HasOneJudgement}
use Rattle.marshal_spec.proofs.format.OneJudgement.{Closed, prefix_or_closed, prefix_or_refused, closed_or_refused, closed_at_once, refused_at_once}
use Rattle.marshal_spec.proofs.format.EncodeTrees.{PassesWhole, PassesWhole-encoded, tree-same}
use Rattle.marshal_spec.proofs.format.FormatStandLemmas.{Judges-some}
use Rattle.marshal_spec.proofs.format.TokenStepLemmas.{header_length-from}

-- An encoded value has at least one byte.
pub encoded_some :
    (limit : ℕ) (bytes : List ℕ) (tree : Tree) → EncodedUnder limit bytes tree → 0 < length bytes
encoded_some limit bytes tree s =
    omega (
      arith,
      header_length-from s.header,
      s.encodes.is_header.whole,
      ap length s.bytes_are ∙ length-append s.header (concat s.chunks),
    )

-- An encoded value is a header and the tokens of one value, all of which pass (`Closed`).
pub Closed-encoded : (limit : ℕ) (bytes : List ℕ) (tree : Tree) (s : EncodedUnder limit bytes tree) → Closed limit bytes s.header s.chunks
Closed-encoded limit bytes tree s =
    let w : PassesWhole limit s.header s.chunks = PassesWhole-encoded limit bytes tree s in
    record { bytes_are = s.bytes_are; header_passes = w.header_passes; tokens_pass = w.tokens_pass; none_pending = w.whole }

-- If bytes are incomplete, then the bytes do not begin with a value.
pub prefix_or_value : (limit : ℕ) (bytes : List ℕ) (n : ℕ) (tree : Tree) → IsPrefix limit bytes → EncodedUnder limit (take n bytes) tree → ⊥
prefix_or_value limit bytes n tree f s = prefix_or_closed limit bytes n s.header s.chunks f (Closed-encoded limit (take n bytes) tree s)

-- If bytes begin with a value, then the bytes do not begin with refused bytes.
pub value_or_refused : (limit : ℕ) (bytes : List ℕ) (n m : ℕ) (tree : Tree) (r : ReadRefusal) → EncodedUnder limit (take n bytes) tree → IsRefused limit (take m bytes) r → ⊥
value_or_refused limit bytes n m tree r s f =
    closed_or_refused limit bytes n m s.header s.chunks r (Closed-encoded limit (take n bytes) tree s) f

-- If bytes begin with two values, then the two values are equal.
pub value_at_once : (limit : ℕ) (bytes : List ℕ) (n m : ℕ) (t u : Tree) → n ≤ length bytes → m ≤ length bytes
    → EncodedUnder limit (take n bytes) t → EncodedUnder limit (take m bytes) u → (n ≡ m) × (t ≡ u)
value_at_once limit bytes n m t u p q s v =
    let same = closed_at_once limit bytes n m s.header v.header s.chunks v.chunks p q
    (Closed-encoded limit (take n bytes) t s) (Closed-encoded limit (take m bytes) u v) in
    (same.0, tree-same limit limit (take n bytes) (take m bytes) t u s v same.2)

-- If two judgements hold for bytes, then the judgements are equal.
pub Judges-same : (limit : ℕ) (bytes : List ℕ) (j k : Judgement) → Judges limit bytes j → Judges limit bytes k → j ≡ k
Judges-same limit bytes prefix prefix p q = refl
Judges-same limit bytes prefix (value m u) p q = absurd (prefix_or_value limit bytes m u p q.1)
Judges-same limit bytes prefix (refused m s) p q = absurd (prefix_or_refused limit bytes m s p q.1)
Judges-same limit bytes (value n t) prefix p q = absurd (prefix_or_value limit bytes n t q p.1)
Judges-same limit bytes (value n t) (value m u) p q =
    let same = value_at_once limit bytes n m t u p.0 q.0 p.1 q.1 in λ i. value (same.0 i) (same.1 i)
Judges-same limit bytes (value n t) (refused m s) p q = absurd (value_or_refused limit bytes n m t s p.1 q.1)
Judges-same limit bytes (refused n r) prefix p q = absurd (prefix_or_refused limit bytes n r q p.1)
Judges-same limit bytes (refused n r) (value m u) p q = absurd (value_or_refused limit bytes m n u r q.1 p.1)
Judges-same limit bytes (refused n r) (refused m s) p q =
    let same = refused_at_once limit bytes n m r s p.0 q.0 p.1 q.1 in λ i. refused (same.0 i) (same.1 i)

-- If a judgement holds for bytes, then no other judgement holds for the bytes.
pub IsJudgement-holds : (limit : ℕ) (bytes : List ℕ) (j : Judgement) → Judges limit bytes j → IsJudgement limit bytes j
IsJudgement-holds limit bytes j p = record { holds = p; only = λ k q. Judges-same limit bytes k j q p }

pub one_judgement_lem : HasOneJudgement
one_judgement_lem limit bytes a = let some = Judges-some limit bytes a in (some.0, IsJudgement-holds limit bytes some.0 some.1)
