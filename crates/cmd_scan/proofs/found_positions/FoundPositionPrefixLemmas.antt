-- If bytes begin with a value, then they are no value prefix and are not refused. If bytes are
-- refused, then they are no value prefix.
use Rattle.std.proofs.Common.{◌≡◌, ℕ, ◌<◌, List, [], ◌∷◌, ◌++◌, length, take, drop, refl, sym, ap, ◌∙◌, subst, append_assoc, length-append, take-append-drop, arith}
use Rattle.std.proofs.lemmas.List.{take-append-le}
use Rattle.marshal_spec.specs.format.Prefix.{IsPrefix, IsRefused}
use Rattle.marshal_spec.proofs.format.JudgementLaws.{Closed-encoded, encoded_some}
use Rattle.marshal_spec.proofs.format.OneJudgement.{prefix_excludes_closed, closed_excludes_refused, prefix_or_refused}
use Rattle.cmd_scan.specs.found_positions.InputParts.{InputPart, passed, sighted, bytes_of, part_bytes, BeginNoValue, AreRefused, AreParts, IsStretch}

module _ (limit : ℕ) (bytes : List ℕ) where
  pub prefix_no_value : IsPrefix limit bytes → BeginNoValue limit bytes
  prefix_no_value prefix value rest tree e s =
      prefix_excludes_closed limit bytes value rest s.header s.chunks e prefix
      (Closed-encoded limit value tree s)

  pub refused_no_value : AreRefused limit bytes → BeginNoValue limit bytes
  refused_no_value (n, refusal, within, refused) value rest tree e s =
      closed_excludes_refused limit bytes value (take n bytes) rest (drop n bytes) s.header s.chunks
      refusal e (sym (take-append-drop n bytes)) (Closed-encoded limit value tree s) refused

  pub refused_no_prefix : AreRefused limit bytes → IsPrefix limit bytes → ⊥
  refused_no_prefix (n, refusal, within, refused) prefix =
      prefix_or_refused limit bytes n refusal prefix refused

  -- If bytes are refused, then the bytes with more bytes after them are refused.
  pub refused_after : (later : List ℕ) → AreRefused limit bytes → AreRefused limit (bytes ++ later)
  refused_after later (n, refusal, within, refused) = (
    n,
    refusal,
    omega (arith, within, length-append bytes later),
    subst (λ b. IsRefused limit b refusal) (sym (take-append-le n bytes later within)) refused,
  )

-- If no value is encoded at the start of some bytes, then none is encoded at the start of a prefix
-- of the bytes.
pub none_before :
    (limit : ℕ) (bytes later : List ℕ) → BeginNoValue limit (bytes ++ later)
    → BeginNoValue limit bytes
none_before limit bytes later none value rest tree e =
    none value (rest ++ later) tree (ap (λ b. b ++ later) e ∙ append_assoc value rest later)

-- A part has at least one byte.
pub part_some :
    (limit : ℕ) (None : List ℕ → Type 0) (part : InputPart) (parts : List InputPart) (rest : List ℕ)
    → AreParts limit None (part ∷ parts) rest → 0 < length (part_bytes part)
part_some limit None (passed byte) parts rest are = omega arith
part_some limit None (sighted value tree) parts rest are = encoded_some limit value tree are.0

-- If bytes begin with a part, then they are no value prefix.
pub no_prefix :
    (limit : ℕ) (bytes : List ℕ) (part : InputPart) (parts : List InputPart) (rest later : List ℕ)
    → bytes ≡ (bytes_of (part ∷ parts) ++ rest) ++ later
    → AreParts limit (AreRefused limit) (part ∷ parts) rest → IsPrefix limit bytes → ⊥
no_prefix limit bytes (passed byte) parts rest later e are prefix =
    refused_no_prefix limit bytes
    (subst (AreRefused limit) (sym e)
    (refused_after limit (byte ∷ (bytes_of parts ++ rest)) later are.0))
    prefix
no_prefix limit bytes (sighted value tree) parts rest later e are prefix =
    prefix_no_value limit bytes prefix value ((bytes_of parts ++ rest) ++ later) tree
    (e ∙ (ap (λ b. b ++ later) (append_assoc value (bytes_of parts) rest)
    ∙ append_assoc value (bytes_of parts ++ rest) later))
    are.0

-- If bytes begin with a stretch, then they are no value prefix.
pub stretch_no_prefix :
    (limit : ℕ) (parts : List InputPart) (pending later : List ℕ) → IsStretch limit parts pending
    → IsPrefix limit ((bytes_of parts ++ pending) ++ later) → ⊥
stretch_no_prefix limit [] pending later s prefix = s.none s.is_prefix
stretch_no_prefix limit (part ∷ parts) pending later s prefix =
    no_prefix limit ((bytes_of (part ∷ parts) ++ pending) ++ later) part parts pending later refl s.are
    prefix
