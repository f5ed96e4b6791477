-- A value has the length and the number of words that its header states.
use Rattle.std.proofs.Common.{◌≡◌, ℕ, ◌+◌, ◌-◌, ◌<◌, ◌≤◌, cond, List, ◌++◌, length, take, refl, sym, ap, ◌∙◌, append_assoc, length-append, take_at, arith}
use Rattle.std.specs.Prelude.{IsTrue, nat_lt}
use Rattle.std.proofs.lemmas.Bool.Decides.{Decides-ltb}
use Rattle.std.specs.List.{concat}
use Rattle.marshal_read.proofs.ReaderHeadLemmas.{start_length}
use Rattle.base_data.specs.declared.model.header.Head.{Head}
use Rattle.marshal_spec.specs.format.Header.{header_length, head_of}
use Rattle.marshal_spec.specs.format.Encoded.{EncodedUnder}
use Rattle.marshal_spec.specs.format.Tree.{Tree}
use Rattle.marshal_spec.proofs.format.OneJudgement.{header_length-append}
use Rattle.marshal_spec.proofs.format.TokenStepLemmas.{head_of-take}
use Rattle.cmd_scan.specs.found_positions.InputParts.{BeginNoValue}

pub start_of :
    (bytes : List ℕ) (head : Head) (start : ℕ) → head ≡ head_of bytes
    → start ≡ cond {A = ℕ} head.big 32 20 → start ≡ header_length bytes
start_of bytes head start is e =
    e ∙ (ap (λ h. cond {A = ℕ} h.big 32 20) is ∙ start_length bytes)

-- If bytes begin with a value, then the bytes begin with the header of the value.
module _ (limit : ℕ) (bytes value rest : List ℕ) (tree : Tree) (e : bytes ≡ value ++ rest)
    (s : EncodedUnder limit value tree) where
  split : bytes ≡ s.header ++ (concat s.chunks ++ rest)
  split = e ∙ (ap (λ v. v ++ rest) s.bytes_are ∙ append_assoc s.header (concat s.chunks) rest)

  pub same_length : header_length bytes ≡ length s.header
  same_length =
      let whole = s.encodes.is_header.whole in
      ap (λ b. header_length b) split
      ∙ (header_length-append s.header (concat s.chunks ++ rest) whole ∙ sym whole)

  pub same_head : head_of s.header ≡ head_of bytes
  same_head =
      let prefix : take (length s.header) bytes ≡ s.header =
      ap (take (length s.header)) split
      ∙ take_at s.header (concat s.chunks ++ rest) (length s.header) refl in
      ap (λ b. head_of b) (sym prefix)
      ∙ head_of-take (length s.header) bytes (omega (arith, same_length))

pub no_value :
    (limit : ℕ) (bytes : List ℕ) (head : Head) → head ≡ head_of bytes
    → length bytes < header_length bytes + head.length → BeginNoValue limit bytes
no_value limit bytes head is more value rest tree e s =
    let chunks = concat s.chunks in
    let long = same_length limit bytes value rest tree e s in
    let size : head.length ≡ length chunks =
    ap (λ h. h.length) (is ∙ sym (same_head limit bytes value rest tree e s)) ∙ s.encodes.length in
    omega (
      arith,
      more,
      long,
      size,
      ap length e,
      length-append value rest,
      ap length s.bytes_are ∙ length-append s.header chunks,
    )

-- If a header states more data than the bytes after it contain, then no value begins there.
pub claims_none :
    (limit : ℕ) (bytes : List ℕ) (head : Head) (start : ℕ) → head ≡ head_of bytes
    → start ≡ header_length bytes → header_length bytes ≤ length bytes
    → IsTrue (nat_lt (length bytes - start) head.length) → BeginNoValue limit bytes
claims_none limit bytes head start is start_is fits more =
    let less : length bytes - start < head.length =
    (Decides-ltb (length bytes - start) head.length).0 more in
    no_value limit bytes head is (omega (arith, less, start_is, fits))
