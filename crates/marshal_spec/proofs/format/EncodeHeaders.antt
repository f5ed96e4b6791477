-- The steps of a header pass if and only if the bytes are a header whose length and words are
-- within the limits.
use Rattle.std.proofs.Common.{ℕ, ◌^◌, ◌<◌, ◌≤◌, ◌≡◌, not, ◌||◌, ltb, eqb, List, length, None, ◌⊎◌, inl, inr, refl, sym, arith, ltb-false, le-ltb, eqb-true, ne_eqb, pos_of_ne-zero, le_of_eq}
use Rattle.std.proofs.lemmas.Bool.{cases_Bool, eqb-false, not-false, or_cases}
use Rattle.base_data.specs.declared.model.refusal.ReadRefusal.TheVariants.{BadMagic, TooLarge, Overlong}
use Rattle.base_data.specs.declared.model.refusal.StatedNumber.TheVariants.{Words, Length}
use Rattle.marshal_spec.specs.format.Header.{magic, small_magic, big_magic, compressed_magic, header_length, head_of}
use Rattle.marshal_spec.specs.format.Step.{magic_refusal, length_limit}
use Rattle.marshal_spec.specs.format.Prefix.{HeaderPasses}
use Rattle.marshal_spec.specs.format.Encoded.{IsHeader}
use Rattle.marshal_spec.proofs.format.TokenStepLemmas.{header_length-from, header_steps_of, header_steps_is}
use Rattle.marshal_spec.proofs.format.EncodeSteps.{AllStepsPass, no_refusal, steps_pass, fails_if_none, none_fails_if}

-- The facts of a header that passes its steps.
pub record HeaderFacts (limit : ℕ) (header : List ℕ) : Type 0 where
  pub is_header : IsHeader header
  pub words : (head_of header).w64 ≤ limit
  pub small : (head_of header).length < 2 ^ 48
  pub some : 0 < (head_of header).length

-- ---- the magic number

-- If no step refuses a magic number, then the number is the small or the big magic number.
magic_from_none : (m : ℕ) → magic_refusal m ≡ None → (m ≡ small_magic) ⊎ (m ≡ big_magic)
magic_from_none m e =
    elim (cases_Bool (eqb m compressed_magic)) [
      | inl t ↦ absurd (let none = rw t at e in cc (none))
      | inr f ↦
          let test = none_fails_if (not (eqb m small_magic || eqb m big_magic)) (BadMagic m) (rw f at e) in
          elim (or_cases (eqb m small_magic) (eqb m big_magic) (not-false (eqb m small_magic || eqb m big_magic) test)) [
            | inl s ↦ inl (eqb-true m small_magic s)
            | inr b ↦ inr (eqb-true m big_magic b)
          ]
    ]

-- The small and the big magic numbers are not refused.
pub none_from_magic : (m : ℕ) → (m ≡ small_magic) ⊎ (m ≡ big_magic) → magic_refusal m ≡ None
none_from_magic m (inl e) = rw e refl
none_from_magic m (inr e) = rw e refl

-- ---- the steps

-- If all steps of a whole header pass, then the facts of the header hold.
facts_of_steps : (limit : ℕ) (header : List ℕ) → length header ≡ header_length header → AllStepsPass (header_steps_of limit (magic header) (header_length header) (head_of header)) → HeaderFacts limit header
facts_of_steps limit header e p =
    let head = head_of header in
    let n = header_length header in
    record {
      is_header = record { magic_is = magic_from_none (magic header) p.0; whole = e };
      words = ltb-false limit head.w64 (none_fails_if (ltb limit head.w64) (TooLarge Words head.w64 limit) p.1.0);
      small = omega (arith, ltb-false length_limit head.length (none_fails_if (ltb length_limit head.length) (TooLarge Length head.length length_limit) p.1.1.0));
      some = pos_of_ne-zero (eqb-false head.length 0 (none_fails_if (eqb head.length 0) (Overlong n 1 0) p.1.1.1.0));
    }

-- If the facts of a header hold, then all steps of the header pass.
steps_of_facts : (limit : ℕ) (header : List ℕ) → HeaderFacts limit header → AllStepsPass (header_steps_of limit (magic header) (header_length header) (head_of header))
steps_of_facts limit header f =
    let head = head_of header in
    let n = header_length header in (
      none_from_magic (magic header) f.is_header.magic_is,
      (
        fails_if_none (ltb limit head.w64) (TooLarge Words head.w64 limit) (le-ltb limit head.w64 f.words),
        (
          fails_if_none (ltb length_limit head.length) (TooLarge Length head.length length_limit) (le-ltb length_limit head.length (omega (arith, f.small))),
          (fails_if_none (eqb head.length 0) (Overlong n 1 0) (ne_eqb head.length 0 (λ e. omega (arith, f.some))), tt),
        ),
      ),
    )

-- If a header passes its steps, then the facts of the header hold.
pub HeaderFacts-passes : (limit : ℕ) (header : List ℕ) → HeaderPasses limit header → HeaderFacts limit header
HeaderFacts-passes limit header p =
    let n = header_length header in
    facts_of_steps limit header p.raw
    (steps_pass (length header) (header_steps_of limit (magic header) n (head_of header))
    (omega (arith, header_length-from header, p.raw), (le_of_eq (sym p.raw), (le_of_eq (sym p.raw), (le_of_eq (sym p.raw), tt))))
    (rw header_steps_is at p.passes))

-- If the facts of a header hold, then the header passes its steps.
pub HeaderPasses-facts : (limit : ℕ) (header : List ℕ) → HeaderFacts limit header → HeaderPasses limit header
HeaderPasses-facts limit header f = record {
  raw = f.is_header.whole;
  passes = rw header_steps_is (no_refusal (length header) (header_steps_of limit (magic header) (header_length header) (head_of header)) (steps_of_facts limit header f));
}
