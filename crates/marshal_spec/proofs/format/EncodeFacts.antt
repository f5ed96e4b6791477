-- A token passes its steps if and only if certain facts about the token's numbers hold.
use Rattle.std.proofs.Common.{ℕ, ℤ, ◌+◌, ◌%◌, ◌<◌, ◌≤◌, ◌≡◌, Bool, true, false, not, ◌&&◌, ◌||◌, ltb, eqb, List, take, slice_index, Option, Some, None, is_none, ◌⊎◌, inl, inr, refl, arith, ltb-false, le-ltb, eqb-true, eq-eqb, ne_eqb, pos_of_ne-zero, le_of_eq, le_refl, subst}
use Rattle.std.proofs.lemmas.Bool.{cond_both, cases_eq, eqb-false, not-false, and_left, and_right, not_from_true, or_parts, or_from}
use Rattle.base_data.specs.declared.model.refusal.ReadRefusal.TheVariants.{OtherCustom, BadTag, BadShared, NoTable, BadNative, IntRange, ZeroArray, Overlong, SizeMismatch, CountMismatch, LengthMismatch}
use Rattle.base_data.specs.declared.model.refusal.WordSum.TheVariants.{W32, W64}
use Rattle.base_data.specs.declared.model.header.Head.{Head}
use Rattle.base_data.specs.declared.model.code.CodeKind.{CodeKind}
use Rattle.base_data.specs.declared.model.code.CodeKind.TheVariants as kinds
use Rattle.base_data.specs.declared.model.code.CustomKind.{CustomKind}
use Rattle.base_data.specs.declared.model.code.CustomKind.TheVariants as customs
use Rattle.base_data.specs.model.Bytes.{number, signed}
use Rattle.marshal_spec.specs.format.Code.{custom_of, native_bytes}
use Rattle.marshal_spec.specs.format.Raw.{fixed_bytes, sizing_bytes, variable_bytes, measure_after}
use Rattle.marshal_spec.specs.format.Words.{Sums, one_more}
use Rattle.marshal_spec.specs.format.Step.{fails_if, first_refusal, Context, position, left_after, overlong, is_integer, integer_refusal, field_refusal, variable_steps, words32_refusal, words64_refusal, nat_ne, end_steps, closing_steps, steps_after}
use Rattle.marshal_spec.proofs.format.RawLemmas.{fields_fit, sizing_fits}
use Rattle.marshal_spec.proofs.format.EncodeSteps.{AllStepsPass, AllEndWithin, no_refusal, steps_pass, fails_if_none, none_fails_if, or_else_none, or_else_parts, AllStepsPass-append, AllStepsPass-parts, AllEndWithin-append, AllStepsPass-cond, AllStepsPass-when, AllEndWithin-cond}
use Rattle.marshal_spec.proofs.format.EncodeFields.{IsKnownData, AreSoundFields}

-- The token's variable bytes fit the data bytes that are left.
abbrev pub VariableFits : Context → CodeKind → Option CustomKind → List ℕ → Type 0
VariableFits c (kinds.Custom old) (Some customs.Native) rest =
    (1 ≤ left_after c 4) × (0 < native_bytes (slice_index rest 3)) × (native_bytes (slice_index rest 3) ≤ left_after c 5)
VariableFits c kind custom rest = variable_bytes kind rest ≤ left_after c (1 + fixed_bytes kind)

-- The facts after the last token of a value: `n` is the token's number of bytes, and `all` has the
-- sums of all tokens.
pub record EndFacts (c : Context) (n : ℕ) (all : Sums) : Type 0 where
  pub left : left_after c n ≡ 0
  pub w32 : c.head.big ≡ false → c.head.w32 ≡ all.w32
  pub w64 : c.head.w64 ≡ all.w64
  pub count : (c.head.objects ≡ 0) ⊎ (c.head.objects ≡ all.objects)

-- The length of a token, in bytes.
abbrev pub token_length : CodeKind → List ℕ → ℕ
token_length kind rest = 1 + fixed_bytes kind + variable_bytes kind rest

abbrev pub up_to : Context → CodeKind → List ℕ → Sums
up_to c kind rest = one_more c.sums (measure_after kind rest)

pub record TokenFacts (c : Context) (kind : CodeKind) (rest : List ℕ) : Type 0 where
  pub fixed : fixed_bytes kind ≤ left_after c 1
  pub fields : AreSoundFields kind rest (c.sums.objects) c.head.objects
  pub variable : VariableFits c kind (custom_of (take 3 rest)) rest
  pub room : (up_to c kind rest).pending ≤ left_after c (token_length kind rest)
  pub w32 : c.head.big ≡ false → (up_to c kind rest).w32 ≤ c.head.w32
  pub w64 : (up_to c kind rest).w64 ≤ c.head.w64
  pub end : (up_to c kind rest).pending ≡ 0 → EndFacts c (token_length kind rest) (up_to c kind rest)

-- ---- each step

-- If the `overlong` test refuses nothing, then enough bytes are left.
pub room_from_none : (c : Context) (need n : ℕ) → overlong c need n ≡ None → need ≤ left_after c n
room_from_none c need n e = ltb-false (left_after c n) need (none_fails_if (ltb (left_after c n) need) (Overlong (position c) need (left_after c n)) e)

-- If enough bytes are left, then the `overlong` test refuses nothing.
pub none_from_room : (c : Context) (need n : ℕ) → need ≤ left_after c n → overlong c need n ≡ None
none_from_room c need n h = fails_if_none (ltb (left_after c n) need) (Overlong (position c) need (left_after c n)) (le-ltb (left_after c n) need h)

-- If the steps on the variable bytes pass, then the variable bytes fit.
variable_from_steps : (c : Context) (kind : CodeKind) (custom : Option CustomKind) (rest : List ℕ) → AllStepsPass (variable_steps c kind custom rest) → VariableFits c kind custom rest
variable_from_steps c (kinds.Custom old) (Some customs.Native) rest p =
    let kind = slice_index rest 3 in
    let some : (native_bytes kind ≡ 0) → ⊥ = eqb-false (native_bytes kind) 0 (none_fails_if (eqb (native_bytes kind) 0) (BadNative (position c) kind) p.1.0) in
    (room_from_none c 1 4 p.0, pos_of_ne-zero some, room_from_none c (native_bytes kind) 5 p.1.1.0)
variable_from_steps c kind custom rest p = room_from_none c (variable_bytes kind rest) (1 + fixed_bytes kind) p.0

-- If the variable bytes fit, then the steps on the variable bytes pass.
steps_from_variable : (c : Context) (kind : CodeKind) (custom : Option CustomKind) (rest : List ℕ) → VariableFits c kind custom rest → AllStepsPass (variable_steps c kind custom rest)
steps_from_variable c (kinds.Custom old) (Some customs.Native) rest f =
    let kind = slice_index rest 3 in
    (none_from_room c 1 4 f.0, (fails_if_none (eqb (native_bytes kind) 0) (BadNative (position c) kind) (ne_eqb (native_bytes kind) 0 (λ e. omega (arith, f.1))), (none_from_room c (native_bytes kind) 5 f.2, tt)))
steps_from_variable c kind custom rest f = (none_from_room c (variable_bytes kind rest) (1 + fixed_bytes kind) f, tt)

-- If the test whether a number is 0 fails, then the number is positive.
zero_from_test : (n : ℕ) → eqb n 0 ≡ false → 0 < n
zero_from_test n e = pos_of_ne-zero (eqb-false n 0 e)

-- If a number is positive, then the test whether the number is 0 fails.
test_from_positive : (n : ℕ) → 0 < n → eqb n 0 ≡ false
test_from_positive n h = ne_eqb n 0 (λ e. omega arith)

-- If a custom block's identifier is known and its variable bytes fit, then the custom block's data
-- are valid.
known_data : (old : Bool) (c : Context) (known : Option CustomKind) (rest : List ℕ) → is_none known ≡ false → VariableFits c (kinds.Custom old) known rest → IsKnownData known (slice_index rest 3)
known_data old c None rest e f = absurd (cc)
known_data old c (Some customs.Int32) rest e f = tt
known_data old c (Some customs.Int64) rest e f = tt
known_data old c (Some customs.Native) rest e f = f.1

-- If the data belong to a known identifier, then the test for an unknown identifier fails.
data_known : (known : Option CustomKind) (kind : ℕ) → IsKnownData known kind → is_none known ≡ false
data_known None kind d = absurd d
data_known (Some custom) kind d = refl

-- If the steps do not refuse an integer, then the integer fits 63 bits.
integer_small : (c : Context) (z : ℤ) → integer_refusal c z ≡ None → is_integer z ≡ true
integer_small c z e = not-false (is_integer z) (none_fails_if (not (is_integer z)) (IntRange (position c) z) e)

-- If an integer fits 63 bits, then the steps do not refuse the integer.
small_integer : (c : Context) (z : ℤ) → is_integer z ≡ true → integer_refusal c z ≡ None
small_integer c z e = fails_if_none (not (is_integer z)) (IntRange (position c) z) (not_from_true (is_integer z) e)

-- If the steps do not refuse a token's fields, then the fields are valid.
pub fields_from_none : (c : Context) (code : ℕ) (kind : CodeKind) (rest : List ℕ) → field_refusal c code kind rest ≡ None → VariableFits c kind (custom_of (take 3 rest)) rest → AreSoundFields kind rest (c.sums.objects) c.head.objects
fields_from_none c code (kinds.SmallBlock tag size) rest e f = tt
fields_from_none c code (kinds.SmallInt n) rest e f = tt
fields_from_none c code (kinds.SmallString n) rest e f = tt
fields_from_none c code (kinds.Int width) rest e f =
    λ w. integer_small c (signed (take 8 rest)) (rw (eq-eqb width 8 w) at e)
fields_from_none c code (kinds.Shared width) rest e f =
    let offset = number (take width rest) in
    let both = or_else_parts (fails_if (eqb offset 0 || ltb (c.sums.objects) offset) (BadShared (position c) offset (c.sums.objects))) (fails_if (eqb c.head.objects 0) (NoTable (position c))) e in
    let tests = or_parts (eqb offset 0) (ltb (c.sums.objects) offset) (none_fails_if (eqb offset 0 || ltb (c.sums.objects) offset) (BadShared (position c) offset (c.sums.objects)) both.0) in
    (zero_from_test offset tests.0, ltb-false (c.sums.objects) offset tests.1, zero_from_test c.head.objects (none_fails_if (eqb c.head.objects 0) (NoTable (position c)) both.1))
fields_from_none c code (kinds.Block width) rest e f =
    let tag = number (take width rest) % 256 in
    ltb-false 243 tag (none_fails_if (ltb 243 tag) (BadTag (position c) tag) e)
fields_from_none c code (kinds.Str width) rest e f = tt
fields_from_none c code (kinds.Double little) rest e f = tt
fields_from_none c code (kinds.Doubles width little) rest e f =
    zero_from_test (number (take width rest)) (none_fails_if (eqb (number (take width rest)) 0) (ZeroArray (position c)) e)
fields_from_none c code (kinds.Custom old) rest e f =
    known_data old c (custom_of (take 3 rest)) rest (none_fails_if (is_none (custom_of (take 3 rest))) (OtherCustom (position c) code) e) f

-- If a token's fields are valid, then the steps do not refuse the fields.
none_from_fields : (c : Context) (code : ℕ) (kind : CodeKind) (rest : List ℕ) → AreSoundFields kind rest (c.sums.objects) c.head.objects → field_refusal c code kind rest ≡ None
none_from_fields c code (kinds.SmallBlock tag size) rest s = refl
none_from_fields c code (kinds.SmallInt n) rest s = refl
none_from_fields c code (kinds.SmallString n) rest s = refl
none_from_fields c code (kinds.Int width) rest s =
    cond_both (eqb width 8) (integer_refusal c (signed (take 8 rest))) None (λ r. r ≡ None) (λ e. small_integer c (signed (take 8 rest)) (s (eqb-true width 8 e))) (λ _. refl)
none_from_fields c code (kinds.Shared width) rest s =
    let offset = number (take width rest) in
    or_else_none (fails_if (eqb offset 0 || ltb (c.sums.objects) offset) (BadShared (position c) offset (c.sums.objects))) (fails_if (eqb c.head.objects 0) (NoTable (position c)))
    (fails_if_none (eqb offset 0 || ltb (c.sums.objects) offset) (BadShared (position c) offset (c.sums.objects)) (or_from (eqb offset 0) (ltb (c.sums.objects) offset) (test_from_positive offset s.0) (le-ltb (c.sums.objects) offset s.1)))
    (fails_if_none (eqb c.head.objects 0) (NoTable (position c)) (test_from_positive c.head.objects s.2))
none_from_fields c code (kinds.Block width) rest s =
    let tag = number (take width rest) % 256 in
    fails_if_none (ltb 243 tag) (BadTag (position c) tag) (le-ltb 243 tag s)
none_from_fields c code (kinds.Str width) rest s = refl
none_from_fields c code (kinds.Double little) rest s = refl
none_from_fields c code (kinds.Doubles width little) rest s =
    fails_if_none (eqb (number (take width rest)) 0) (ZeroArray (position c)) (test_from_positive (number (take width rest)) s)
none_from_fields c code (kinds.Custom old) rest s =
    fails_if_none (is_none (custom_of (take 3 rest))) (OtherCustom (position c) code) (data_known (custom_of (take 3 rest)) (slice_index rest 3) s)

-- If the test of a number in a small header finds no difference, then the numbers agree. A big
-- header skips the test.
spared : (big differ : Bool) → (not big && differ) ≡ false → big ≡ false → differ ≡ false
spared true differ e b = absurd (cc)
spared false differ e b = e

-- If the numbers of a small header agree, then the test finds no difference.
test_spared : (big differ : Bool) → (big ≡ false → differ ≡ false) → (not big && differ) ≡ false
test_spared true differ f = refl
test_spared false differ f = f refl

-- If the test of the number `n` passes, then `n` is 0 or equal to `m`.
zero_or_same : (n m : ℕ) → (not (eqb n 0) && nat_ne n m) ≡ false → (n ≡ 0) ⊎ (n ≡ m)
zero_or_same n m e =
    elim (cases_eq n 0) [
      | inl z ↦ inl z
      | inr z ↦ inr (eqb-true n m (not-false (eqb n m) (rw (ne_eqb n 0 z) at e)))
    ]

-- If the number `n` is 0 or equal to `m`, then the test of `n` passes.
test_zero_or_same : (n m : ℕ) → (n ≡ 0) ⊎ (n ≡ m) → (not (eqb n 0) && nat_ne n m) ≡ false
test_zero_or_same n m (inl z) = and_left (not (eqb n 0)) (nat_ne n m) (not_from_true (eqb n 0) (eq-eqb n 0 z))
test_zero_or_same n m (inr e) = and_right (not (eqb n 0)) (nat_ne n m) (not_from_true (eqb n m) (eq-eqb n m e))

-- If the test finds no difference of two numbers, then the numbers are equal.
same_from_ne : (n m : ℕ) → nat_ne n m ≡ false → n ≡ m
same_from_ne n m e = eqb-true n m (not-false (eqb n m) e)

-- If two numbers are equal, then the test finds no difference.
ne_from_same : (n m : ℕ) → n ≡ m → nat_ne n m ≡ false
ne_from_same n m e = not_from_true (eqb n m) (eq-eqb n m e)

-- If a sum of words on 32 bits is not refused under a small header, then the comparison `differ`
-- finds no difference.
words32_test : (differ : ℕ → ℕ → Bool) (p : ℕ) (head : Head) (found : ℕ) → words32_refusal differ p head found ≡ None → head.big ≡ false → differ head.w32 found ≡ false
words32_test differ p head found e =
    spared head.big (differ head.w32 found) (none_fails_if (not head.big && differ head.w32 found) (SizeMismatch p W32 head.w32 found) e)

-- If `differ` finds no difference in a small header's words on 32 bits, then the sum of words is
-- not refused.
words32_none : (differ : ℕ → ℕ → Bool) (p : ℕ) (head : Head) (found : ℕ) → (head.big ≡ false → differ head.w32 found ≡ false) → words32_refusal differ p head found ≡ None
words32_none differ p head found f =
    fails_if_none (not head.big && differ head.w32 found) (SizeMismatch p W32 head.w32 found) (test_spared head.big (differ head.w32 found) f)

-- If a sum of words on 64 bits is not refused, then the comparison `differ` finds no difference.
words64_test : (differ : ℕ → ℕ → Bool) (p : ℕ) (head : Head) (found : ℕ) → words64_refusal differ p head found ≡ None → differ head.w64 found ≡ false
words64_test differ p head found e = none_fails_if (differ head.w64 found) (SizeMismatch p W64 head.w64 found) e

-- If `differ` finds no difference in the words on 64 bits, then the sum of words is not refused.
words64_none : (differ : ℕ → ℕ → Bool) (p : ℕ) (head : Head) (found : ℕ) → differ head.w64 found ≡ false → words64_refusal differ p head found ≡ None
words64_none differ p head found e = fails_if_none (differ head.w64 found) (SizeMismatch p W64 head.w64 found) e

-- ---- the steps of the end

-- If the steps of the end pass, then the header agrees with the sums of all tokens.
end_from_steps : (c : Context) (n : ℕ) (all : Sums) → AllStepsPass (end_steps c n all) → EndFacts c n all
end_from_steps c n all p =
    let p' = position c + n in
    let count = not (eqb c.head.objects 0) && nat_ne c.head.objects all.objects in
    let nothing : left_after c n ≤ 0 = ltb-false 0 (left_after c n) (none_fails_if (ltb 0 (left_after c n)) (LengthMismatch p' (left_after c n)) p.0) in
    record {
      left = omega (arith, nothing);
      w32 = λ b. same_from_ne c.head.w32 all.w32 (words32_test nat_ne p' c.head all.w32 p.1.0 b);
      w64 = same_from_ne c.head.w64 all.w64 (words64_test nat_ne p' c.head all.w64 p.1.1.0);
      count = zero_or_same c.head.objects all.objects (none_fails_if count (CountMismatch p' c.head.objects all.objects) p.1.1.1.0);
    }

-- If the header agrees with the sums of all tokens, then the steps of the end pass.
steps_from_end : (c : Context) (n : ℕ) (all : Sums) → EndFacts c n all → AllStepsPass (end_steps c n all)
steps_from_end c n all f =
    let p' = position c + n in
    let count = not (eqb c.head.objects 0) && nat_ne c.head.objects all.objects in (
      fails_if_none (ltb 0 (left_after c n)) (LengthMismatch p' (left_after c n)) (le-ltb 0 (left_after c n) (le_of_eq f.left)),
      (
        words32_none nat_ne p' c.head all.w32 (λ b. ne_from_same c.head.w32 all.w32 (f.w32 b)),
        (
          words64_none nat_ne p' c.head all.w64 (ne_from_same c.head.w64 all.w64 f.w64),
          (fails_if_none count (CountMismatch p' c.head.objects all.objects) (test_zero_or_same c.head.objects all.objects f.count), tt),
        ),
      ),
    )

-- ---- the steps of a token

-- If the steps of a token pass, then the facts of the token hold.
pub facts_from_steps : (c : Context) (code : ℕ) (kind : CodeKind) (rest : List ℕ) → AllStepsPass (steps_after c code kind rest) → TokenFacts c kind rest
facts_from_steps c code kind rest p =
    let n = token_length kind rest in
    let all = up_to c kind rest in
    let parts = AllStepsPass-parts (variable_steps c kind (custom_of (take 3 rest)) rest) (closing_steps c kind rest) p.1.1 in
    let fits : VariableFits c kind (custom_of (take 3 rest)) rest = variable_from_steps c kind (custom_of (take 3 rest)) rest parts.0 in
    record {
      fixed = room_from_none c (fixed_bytes kind) 1 p.0;
      fields = fields_from_none c code kind rest p.1.0 fits;
      variable = fits;
      room = room_from_none c all.pending n parts.1.0;
      w32 = λ b. ltb-false c.head.w32 all.w32 (words32_test ltb (position c) c.head all.w32 parts.1.1.0 b);
      w64 = ltb-false c.head.w64 all.w64 (words64_test ltb (position c) c.head all.w64 parts.1.1.1.0);
      end = λ e. end_from_steps c n all (AllStepsPass-when (eqb all.pending 0) (end_steps c n all) parts.1.1.1.1 (eq-eqb all.pending 0 e));
    }

-- If the facts of a token hold, then the steps of the token pass.
pub steps_from_facts : (c : Context) (code : ℕ) (kind : CodeKind) (rest : List ℕ) → TokenFacts c kind rest → AllStepsPass (steps_after c code kind rest)
steps_from_facts c code kind rest f =
    let n = token_length kind rest in
    let all = up_to c kind rest in (
      none_from_room c (fixed_bytes kind) 1 f.fixed,
      (
        none_from_fields c code kind rest f.fields,
        AllStepsPass-append (variable_steps c kind (custom_of (take 3 rest)) rest) (closing_steps c kind rest)
            (steps_from_variable c kind (custom_of (take 3 rest)) rest f.variable) (
              none_from_room c all.pending n f.room,
              (
                words32_none ltb (position c) c.head all.w32 (λ b. le-ltb c.head.w32 all.w32 (f.w32 b)),
                (
                  words64_none ltb (position c) c.head all.w64 (le-ltb c.head.w64 all.w64 f.w64),
                  AllStepsPass-cond (eqb all.pending 0) (end_steps c n all) (λ e. steps_from_end c n all (f.end (eqb-true all.pending 0 e))),
                ),
              ),
            ),
      ),
    )

-- ---- a whole token decides all its steps

-- The token's bytes decide the steps on the variable bytes.
variable_steps_end : (n : ℕ) (c : Context) (kind : CodeKind) (custom : Option CustomKind) (rest : List ℕ) → custom ≡ custom_of (take 3 rest) → n ≡ token_length kind rest → AllEndWithin n (variable_steps c kind custom rest)
variable_steps_end n c (kinds.Custom old) (Some customs.Native) rest e h =
    let long : 5 ≤ n = omega (arith, rw (← e) at h) in
    (omega arith, (long, (long, tt)))
variable_steps_end n c kind custom rest e h = (omega (arith, fields_fit kind), tt)

-- The token's bytes decide the steps of the end.
end_steps_end : (c : Context) (n : ℕ) (all : Sums) → AllEndWithin n (end_steps c n all)
end_steps_end c n all = (le_refl n, (le_refl n, (le_refl n, (le_refl n, tt))))

-- The token's bytes decide all steps of the token.
steps_end : (c : Context) (code : ℕ) (kind : CodeKind) (rest : List ℕ) → AllEndWithin (token_length kind rest) (steps_after c code kind rest)
steps_end c code kind rest =
    let n = token_length kind rest in
    let all = up_to c kind rest in
    let sized : 1 + sizing_bytes kind rest ≤ n = omega (arith, sizing_fits kind rest) in (
      omega arith,
      (
        omega (arith, fields_fit kind),
        AllEndWithin-append n (variable_steps c kind (custom_of (take 3 rest)) rest) (closing_steps c kind rest)
            (variable_steps_end n c kind (custom_of (take 3 rest)) rest refl refl)
            (sized, (sized, (sized, AllEndWithin-cond n (eqb all.pending 0) (end_steps c n all) (end_steps_end c n all)))),
      ),
    )

-- If a whole token is not refused, then the facts of the token hold.
pub facts_from_none : (c : Context) (code : ℕ) (kind : CodeKind) (rest : List ℕ) (n : ℕ) → n ≡ token_length kind rest → first_refusal n (steps_after c code kind rest) ≡ None → TokenFacts c kind rest
facts_from_none c code kind rest n e p =
    facts_from_steps c code kind rest (steps_pass (token_length kind rest) (steps_after c code kind rest) (steps_end c code kind rest) (subst (λ m. first_refusal m (steps_after c code kind rest) ≡ None) e p))

-- If the facts of a token hold, then no step refuses the token.
pub none_from_facts : (c : Context) (code : ℕ) (kind : CodeKind) (rest : List ℕ) (n : ℕ) → TokenFacts c kind rest → first_refusal n (steps_after c code kind rest) ≡ None
none_from_facts c code kind rest n f = no_refusal n (steps_after c code kind rest) (steps_from_facts c code kind rest f)
