-- Parts are consumed one after another.
use Rattle.std.proofs.Common.{◌≡◌, ℕ, ◌+◌, ◌<◌, ◌≤◌, List, [], ◌∷◌, ◌++◌, length, drop, refl, sym, ap, ◌∙◌, subst, append_assoc, append-nil, length-append, drop_at, arith}
use Rattle.std.specs.Prelude.{Ok}
use Rattle.std.proofs.lemmas.List.{nil_from_length}
use Rattle.marshal_spec.specs.format.Prefix.{IsPrefix}
use Rattle.marshal_read.specs.declared.reader.Reader.{Reader}
use Rattle.marshal_read.specs.Reader.{LeadsReader}
use Rattle.cmd_scan.specs.found_positions.InputParts.{passed, bytes_of, BeginNoValue, AreRefused, AreParts}
use Rattle.cmd_scan.specs.found_positions.ValuePositions.{positions_of, lines_of}
use Rattle.cmd_scan.proofs.found_positions.FoundPositionPrefixLemmas.{prefix_no_value}
use Rattle.cmd_scan.proofs.found_positions.FoundPositionOnceLemmas.{nothing_prefix}
use Rattle.cmd_scan.proofs.found_positions.FoundPositionLemmas.{lines_of_parts}
use Rattle.cmd_scan.proofs.found_positions.SomeLemmas.{bytes_of-append, parts-append, undecided}
use Rattle.cmd_scan.specs.declared.sweep.next_part.NextPart.{NextPart}
use Rattle.cmd_scan.specs.declared.sweep.next_part.NextPart.TheVariants.{Decided, Waits}
use Rattle.cmd_scan.specs.sweep.Swept.{WritesParts, Takes, IsNext, IsLast}

module _ (limit at : ℕ) (bytes old : List ℕ) (None : List ℕ → Type 0) where
  -- Initially, no byte is consumed.
  pub begins : Takes limit at bytes old old None 0 bytes
  begins =
      (record { parts = []; bytes_are = refl; are = tt; text_is = sym (append-nil old) }, refl)

  module _ (mid : List ℕ) (n : ℕ) (rest : List ℕ) (t : Takes limit at bytes old mid None n rest)
    where
      pub rest_is : drop n bytes ≡ rest
      rest_is = ap (drop n) t.0.bytes_are ∙ drop_at (bytes_of t.0.parts) rest n (sym t.1)

      pub within : n + length rest ≡ length bytes
      within = omega (arith, t.1, ap length t.0.bytes_are, length-append (bytes_of t.0.parts) rest)

      -- If parts are consumed, and then more parts of the remaining bytes are consumed, then all
      -- these parts are consumed.
      pub one_more :
          (new : List ℕ) (m : ℕ) (more : List ℕ) → Takes limit (at + n) rest mid new None m more
          → Takes limit at bytes old new None (n + m) more
      one_more new m more (u, size) =
          let xs = t.0.parts in
          let ys = u.parts in
          let bytes_are = bytes_of-append xs ys in (
            record {
              parts = xs ++ ys;
              bytes_are =
                  t.0.bytes_are
                  ∙ (ap (λ b. bytes_of xs ++ b) u.bytes_are
                  ∙ (sym (append_assoc (bytes_of xs) (bytes_of ys) more)
                  ∙ ap (λ b. b ++ more) (sym bytes_are)));
              are =
                  parts-append limit None xs ys more
                  (subst (AreParts limit None xs) u.bytes_are t.0.are) u.are;
              text_is = text_is;
            },
            omega
                (arith, t.1, size, ap length bytes_are, length-append (bytes_of xs) (bytes_of ys)),
          )
        where
          text_is : new ≡ old ++ lines_of (positions_of at (t.0.parts ++ u.parts))
          text_is =
              u.text_is
              ∙ (ap (λ text. text ++ lines_of (positions_of (at + n) u.parts)) t.0.text_is
              ∙ (append_assoc old (lines_of (positions_of at t.0.parts))
              (lines_of (positions_of (at + n) u.parts))
              ∙ ap (λ text. old ++ text)
              (ap (λ k. lines_of (positions_of at t.0.parts) ++ lines_of (positions_of (at + k) u.parts)) t.1
              ∙ sym (lines_of_parts at t.0.parts u.parts))))

-- If parts are determined by refusals, then they are parts if no more bytes follow.
pub at_end :
    (limit at : ℕ) (bytes old new : List ℕ) (n : ℕ) (rest : List ℕ)
    → Takes limit at bytes old new (AreRefused limit) n rest
    → Takes limit at bytes old new (BeginNoValue limit) n rest
at_end limit at bytes old new n rest (p, size) = (
  record {
    parts = p.parts;
    bytes_are = p.bytes_are;
    are = undecided limit p.parts rest p.are;
    text_is = p.text_is;
  },
  size,
)

-- If no value begins at the first byte, then the first byte is skipped.
pub none_passed :
    (limit at : ℕ) (bytes old new : List ℕ) → 0 < length bytes → BeginNoValue limit bytes
    → new ≡ old
    → (0 < 1) × (rest : List ℕ) × Takes limit at bytes old new (BeginNoValue limit) 1 rest
none_passed limit at [] old new some none same = absurd (omega (arith, some))
none_passed limit at (b ∷ rest) old new some none same = (
  omega arith,
  rest,
  (
    record {
      parts = passed b ∷ [];
      bytes_are = refl;
      are = (none, tt);
      text_is = same ∙ sym (append-nil old);
    },
    refl,
  ),
)

-- If no more bytes follow, then the next part is determined: a determined part, or one skipped byte
-- of bytes that might still become a value.
pub last_of :
    (E : Type 0) (limit at : ℕ) (bytes old new : List ℕ) (next : NextPart) (n : ℕ) → 0 < length bytes
    → IsNext limit at bytes old new {E = E} (Ok next) → IsLast next n
    → (0 < n) × (rest : List ℕ) × Takes limit at bytes old new (BeginNoValue limit) n rest
last_of E limit at bytes old new (Decided m) n bytes_some (some, rest, t) is =
    subst
    (λ k. (0 < k) × (rest : List ℕ) × Takes limit at bytes old new (BeginNoValue limit) k rest)
    (sym is) (some, rest, at_end limit at bytes old new m rest t)
last_of E limit at bytes old new (Waits reader) n bytes_some (waits, same) is =
    subst
    (λ k. (0 < k) × (rest : List ℕ) × Takes limit at bytes old new (BeginNoValue limit) k rest)
    (sym is)
    (none_passed limit at bytes old new bytes_some (prefix_no_value limit bytes waits.0) same)

module _ (limit at : ℕ) (bytes old mid new : List ℕ) (n : ℕ) (slice : List ℕ)
    (slice_is : slice ≡ drop n bytes) where
  -- If parts of a slice of the remaining bytes are consumed, then parts of all bytes are consumed.
  slice_more :
      (None : List ℕ → Type 0) (rest : List ℕ) → Takes limit at bytes old mid None n rest → (m : ℕ)
      → (more : List ℕ) × Takes limit (at + n) slice mid new None m more
      → (more : List ℕ) × Takes limit at bytes old new None (n + m) more
  slice_more None rest t m (more, u) =
      let is = slice_is ∙ rest_is limit at bytes old None mid n rest t in (
        more,
        one_more limit at bytes old None mid n rest t new m more
            (subst (λ b. Takes limit (at + n) b mid new None m more) is u),
      )

  pub decided_more :
      (rest : List ℕ) → Takes limit at bytes old mid (AreRefused limit) n rest → (m : ℕ)
      → (more : List ℕ) × Takes limit (at + n) slice mid new (AreRefused limit) m more
      → (more : List ℕ) × Takes limit at bytes old new (AreRefused limit) (n + m) more
  decided_more = slice_more (AreRefused limit)

  -- If no more bytes follow, and parts of a slice of the remaining bytes are consumed, then parts
  -- of all bytes are consumed.
  pub ended_more :
      (rest : List ℕ) → Takes limit at bytes old mid (BeginNoValue limit) n rest → (m : ℕ)
      → (more : List ℕ) × Takes limit (at + n) slice mid new (BeginNoValue limit) m more
      → (more : List ℕ) × Takes limit at bytes old new (BeginNoValue limit) (n + m) more
  ended_more = slice_more (BeginNoValue limit)

  -- If the reader has taken a slice of the remaining bytes, then it has taken the remaining bytes.
  pub rest_waits :
      (rest : List ℕ) → Takes limit at bytes old mid (AreRefused limit) n rest → (reader : Reader)
      → IsPrefix limit slice → LeadsReader limit slice reader → new ≡ mid
      → (rest : List ℕ) × Takes limit at bytes old new (AreRefused limit) n rest
      × (IsPrefix limit rest × LeadsReader limit rest reader)
  rest_waits rest t reader prefix leads same =
      let is = slice_is ∙ rest_is limit at bytes old (AreRefused limit) mid n rest t in (
        rest,
        subst (λ text. Takes limit at bytes old text (AreRefused limit) n rest) (sym same) t,
        (subst (IsPrefix limit) is prefix, subst (λ b. LeadsReader limit b reader) is leads),
      )

-- If `n` bytes are consumed and the bytes are at most `n`, then no byte remains.
none_left :
    (limit at : ℕ) (bytes old new : List ℕ) (None : List ℕ → Type 0) (n : ℕ) (rest : List ℕ)
    → Takes limit at bytes old new None n rest → length bytes ≤ n → rest ≡ []
none_left limit at bytes old new None n rest t all =
    nil_from_length rest (omega (arith, within limit at bytes old None new n rest t, all))

-- If all bytes are consumed, then a reader that has taken no byte has taken the remaining bytes.
pub nothing_waits :
    (limit at : ℕ) (bytes old new : List ℕ) (n : ℕ) (rest : List ℕ) (reader : Reader)
    → Takes limit at bytes old new (AreRefused limit) n rest → length bytes ≤ n
    → LeadsReader limit [] reader
    → (rest : List ℕ) × Takes limit at bytes old new (AreRefused limit) n rest
    × (IsPrefix limit rest × LeadsReader limit rest reader)
nothing_waits limit at bytes old new n rest reader t all leads =
    let none = none_left limit at bytes old new (AreRefused limit) n rest t all in (
      rest,
      t,
      (
        subst (IsPrefix limit) (sym none) (nothing_prefix limit),
        subst (λ b. LeadsReader limit b reader) (sym none) leads,
      ),
    )

-- If the parts have as many bytes as there are, then all bytes are parts.
pub all_parts :
    (limit at : ℕ) (bytes old new : List ℕ) (n : ℕ) (rest : List ℕ)
    → Takes limit at bytes old new (BeginNoValue limit) n rest → length bytes ≤ n
    → WritesParts limit (BeginNoValue limit) at bytes [] old new
all_parts limit at bytes old new n rest t all =
    let none = none_left limit at bytes old new (BeginNoValue limit) n rest t all in
    subst (λ r. WritesParts limit (BeginNoValue limit) at bytes r old new) none t.0
