-- The result of the steps of a header.
use Rattle.std.proofs.Common.{ℕ, ◌≡◌, ◌≢◌, ◌⊎◌, inl, inr, ⊎_elim, ◌+◌, ◌<◌, ◌≤◌, List, [], ◌∷◌, length, take, Bool, true, false, cond, eqb, ltb, Some, None, Option, Result, Ok, Err, arith, refl, ap, sym, ◌∙◌, subst}
use Rattle.std.proofs.lemmas.Bool.{le-ltb, lt-ltb, cases_lt}
use Rattle.std.proofs.lemmas.Bool.Decides.{nat_tests}
use Rattle.std.proofs.lemmas.List.{length-take-le}
use Rattle.base_data.specs.declared.model.header.Head.{Head}
use Rattle.base_data.specs.declared.model.refusal.ReadRefusal.{ReadRefusal}
use Rattle.base_data.specs.declared.model.refusal.ReadRefusal.TheVariants.{BadMagic, Compressed, TooLarge, Overlong}
use Rattle.base_data.specs.declared.model.refusal.StatedNumber.TheVariants.{Words, Length}
use Rattle.marshal_spec.specs.format.Header.{magic, small_magic, big_magic, compressed_magic, header_length, head_of, small_head, big_head}
use Rattle.marshal_spec.specs.format.Step.{Step, step, fails_if, or_else, first_refusal, length_limit, magic_refusal, header_steps}
use Rattle.marshal_spec.specs.format.Prefix.{context, header_refusal}
use Rattle.marshal_spec.proofs.format.EncodeHeaders.{none_from_magic}
use Rattle.marshal_spec.proofs.format.TokenStepLemmas.{head_of-take, header_length-from}
use Rattle.marshal_codec.specs.headers.Parsing.{HasMagic, wanted}
use Rattle.marshal_read.specs.declared.read_totals.ReadTotals.{ReadTotals}
use Rattle.marshal_read.specs.Totals.{AreTotals}
use Rattle.marshal_read.specs.declared.unread.Unread.{Unread}
use Rattle.marshal_read.specs.declared.unread.Unread.TheVariants.{NeedMore, Refused}
use Rattle.marshal_read.specs.JudgedHeader.{stated_steps, start_of, Begins, JudgedHeader}

bad : (m : ℕ) → m ≢ small_magic → m ≢ big_magic → m ≢ compressed_magic → magic_refusal m ≡ Some (BadMagic m)
bad m s b c =
    let t : eqb m small_magic ≡ false = grind (arith, nat_tests) in
    let u : eqb m big_magic ≡ false = grind (arith, nat_tests) in
    let v : eqb m compressed_magic ≡ false = grind (arith, nat_tests) in
    rw (v, t, u) refl

-- If `n` bytes decide the first step, then the first refusal is that of the first step or of the
-- next steps.
decided : (n k : ℕ) (r : Option ReadRefusal) (steps : List Step) → k ≤ n → first_refusal n (step k r ∷ steps) ≡ or_else r (first_refusal n steps)
decided n k r steps h = rw (le-ltb n k h) refl

undecided : (n k : ℕ) (r : Option ReadRefusal) (steps : List Step) → n < k → first_refusal n (step k r ∷ steps) ≡ None
undecided n k r steps h = rw (lt-ltb n k h) refl

-- The steps of a header after the step of the magic number.
abbrev after_magic : ℕ → List ℕ → List Step
after_magic limit bytes =
    step (header_length bytes) (fails_if (ltb limit (head_of bytes).w64) (TooLarge Words (head_of bytes).w64 limit))
    ∷ step (header_length bytes) (fails_if (ltb length_limit (head_of bytes).length) (TooLarge Length (head_of bytes).length length_limit))
    ∷ step (header_length bytes) (fails_if (eqb (head_of bytes).length 0) (Overlong (header_length bytes) 1 0))
    ∷ []

first_decided : (limit : ℕ) (bytes : List ℕ) → 4 ≤ length bytes → header_refusal limit bytes ≡ or_else (magic_refusal (magic bytes)) (first_refusal (length bytes) (after_magic limit bytes))
unfolding header_steps
first_decided limit bytes h = decided (length bytes) 4 (magic_refusal (magic bytes)) (after_magic limit bytes) h

pub first_undecided : (limit : ℕ) (bytes : List ℕ) → length bytes < 4 → header_refusal limit bytes ≡ None
unfolding header_steps
first_undecided limit bytes h = undecided (length bytes) 4 (magic_refusal (magic bytes)) (after_magic limit bytes) h

pub header_bad : (limit : ℕ) (bytes : List ℕ) → 4 ≤ length bytes → magic bytes ≢ small_magic → magic bytes ≢ big_magic → magic bytes ≢ compressed_magic
    → header_refusal limit bytes ≡ Some (BadMagic (magic bytes))
header_bad limit bytes h s b c = first_decided limit bytes h ∙ ap (λ r. or_else r (first_refusal (length bytes) (after_magic limit bytes))) (bad (magic bytes) s b c)

pub header_compressed : (limit : ℕ) (bytes : List ℕ) → 4 ≤ length bytes → magic bytes ≡ compressed_magic → header_refusal limit bytes ≡ Some Compressed
header_compressed limit bytes h e = first_decided limit bytes h ∙ ap (λ m. or_else (magic_refusal m) (first_refusal (length bytes) (after_magic limit bytes))) e

-- If the magic number is valid, then the header's refusal is the refusal of the steps after the
-- magic number.
after_good : (limit : ℕ) (bytes : List ℕ) → HasMagic bytes → 4 ≤ length bytes → header_refusal limit bytes ≡ first_refusal (length bytes) (after_magic limit bytes)
after_good limit bytes h four = first_decided limit bytes four ∙ ap (λ r. or_else r (first_refusal (length bytes) (after_magic limit bytes))) (none_from_magic (magic bytes) h)

-- If the magic number is valid and the header is incomplete, then no step refuses the header.
waits : (limit : ℕ) (bytes : List ℕ) → (4 ≤ length bytes → HasMagic bytes) → length bytes < header_length bytes → (4 ≤ length bytes) ⊎ (length bytes < 4)
    → header_refusal limit bytes ≡ None
waits limit bytes h short (inl four) =
    let head = head_of bytes in
    after_good limit bytes (h four) four
    ∙ undecided (length bytes) (header_length bytes) (fails_if (ltb limit head.w64) (TooLarge Words head.w64 limit))
    (step (header_length bytes) (fails_if (ltb length_limit head.length) (TooLarge Length head.length length_limit))
    ∷ step (header_length bytes) (fails_if (eqb head.length 0) (Overlong (header_length bytes) 1 0)) ∷ []) short
waits limit bytes h short (inr few) = first_undecided limit bytes few

four_or_few : (n : ℕ) → (4 ≤ n) ⊎ (n < 4)
four_or_few n = ⊎_elim inr inl (cases_lt n 4)

pub header_waits : (limit : ℕ) (bytes : List ℕ) (k : ℕ) → (4 ≤ length bytes → HasMagic bytes) → 0 < k → length bytes + k ≡ wanted bytes
    → (header_refusal limit bytes ≡ None) × (length bytes < header_length bytes)
header_waits limit bytes k h some e =
    let from = header_length-from bytes in
    let short : length bytes < header_length bytes = grind (arith, nat_tests) in
    (waits limit bytes h short (four_or_few (length bytes)), short)

-- ---- a complete header

start_is : (b : Bool) (big small : Head) → big.big ≡ true → small.big ≡ false → cond {A = ℕ} (cond b big small).big 32 20 ≡ cond {A = ℕ} b 32 20
start_is true big small p q = rw p refl
start_is false big small p q = rw q refl

-- The length of a header is 32 bytes if the header is big, and 20 bytes if the header is small.
pub start_length : (bytes : List ℕ) → cond {A = ℕ} (head_of bytes).big 32 20 ≡ header_length bytes
unfolding head_of
start_length bytes = start_is (eqb (magic bytes) big_magic) (big_head bytes) (small_head bytes) refl refl

same_steps : (n k : ℕ) (a b c : Option ReadRefusal) → k ≤ n → first_refusal n (step k a ∷ step k b ∷ step k c ∷ []) ≡ first_refusal 0 (step 0 a ∷ step 0 b ∷ step 0 c ∷ [])
same_steps n k a b c h = rw (le-ltb n k h) refl

pub header_states : (limit : ℕ) (bytes : List ℕ) → HasMagic bytes → header_length bytes ≤ length bytes
    → header_refusal limit bytes ≡ first_refusal 0 (stated_steps limit (head_of bytes))
header_states limit bytes h whole =
    let from = header_length-from bytes in
    let head = head_of bytes in
    after_good limit bytes h (omega arith)
    ∙ same_steps (length bytes) (header_length bytes) (fails_if (ltb limit head.w64) (TooLarge Words head.w64 limit))
    (fails_if (ltb length_limit head.length) (TooLarge Length head.length length_limit)) (fails_if (eqb head.length 0) (Overlong (header_length bytes) 1 0)) whole
    ∙ ap (λ (n : ℕ). first_refusal 0 (step 0 (fails_if (ltb limit head.w64) (TooLarge Words head.w64 limit))
    ∷ step 0 (fails_if (ltb length_limit head.length) (TooLarge Length head.length length_limit)) ∷ step 0 (fails_if (eqb head.length 0) (Overlong n 1 0)) ∷ [])) (sym (start_length bytes))

pub header_position : (bytes : List ℕ) (position : ReadTotals) → header_length bytes ≤ length bytes → start_of (head_of bytes) position
    → AreTotals position (context (take (header_length bytes) bytes) [])
header_position bytes position whole s =
    record {
      head = head_of-take (header_length bytes) bytes (omega arith) ∙ sym s.0;
      start = length-take-le (header_length bytes) bytes whole ∙ sym (start_length bytes) ∙ sym s.1;
      taken = sym s.2;
      objects = sym s.3;
      pending = sym s.4;
      w32 = sym s.5;
      w64 = sym s.6;
    }

pub header_bad_at : (limit : ℕ) (bytes : List ℕ) (m : ℕ) → 4 ≤ length bytes → m ≡ magic bytes → m ≢ small_magic → m ≢ big_magic → m ≢ compressed_magic
    → header_refusal limit bytes ≡ Some (BadMagic m)
header_bad_at limit bytes m four e s b c =
    header_bad limit bytes four (λ x. s (e ∙ x)) (λ x. b (e ∙ x)) (λ x. c (e ∙ x)) ∙ ap (λ n. Some (BadMagic n)) (sym e)

pub header_begins : (limit : ℕ) (bytes : List ℕ) (head : Head) (result : Result ReadTotals Unread) → HasMagic bytes → header_length bytes ≤ length bytes → head ≡ head_of bytes
    → Begins limit head result → JudgedHeader limit bytes result
header_begins limit bytes head (Err (Refused r)) m whole e h =
    header_states limit bytes m whole ∙ ap (λ (x : Head). first_refusal 0 (stated_steps limit x)) (sym e) ∙ h
header_begins limit bytes head (Err NeedMore) m whole e h = absurd h
header_begins limit bytes head (Ok position) m whole e h = (
  header_states limit bytes m whole ∙ ap (λ (x : Head). first_refusal 0 (stated_steps limit x)) (sym e) ∙ h.0,
  whole,
  header_position bytes position whole (subst (λ x. start_of x position) e h.1),
)
