-- If a raw token passes its steps, then the raw token encodes a token. If an encoded token fits,
-- then the token passes its steps.
use Rattle.std.proofs.Common.{ℕ, ◌+◌, ◌-◌, ◌<◌, ◌≤◌, ◌≡◌, false, List, [], ◌∷◌, ◌++◌, length, take, map, slice_index, Option, Some, None, Result, Ok, Err, ◌⊎◌, refl, sym, ◌∙◌, subst, arith}
use Rattle.std.proofs.lemmas.List.Elements.{All-tail}
use Rattle.std.specs.List.{concat}
use Rattle.base_data.specs.declared.model.header.Head.{Head}
use Rattle.base_data.specs.declared.model.code.CodeKind.{CodeKind}
use Rattle.base_data.specs.declared.model.code.CodeKind.TheVariants as kinds
use Rattle.base_data.specs.declared.model.code.CodeFault.{CodeFault}
use Rattle.base_data.specs.declared.model.code.CustomKind.{CustomKind}
use Rattle.base_data.specs.declared.model.code.CustomKind.TheVariants as customs
use Rattle.base_data.specs.declared.model.code.Measure.{Measure}
use Rattle.base_data.specs.model.Bytes.{AreBytes}
use Rattle.marshal_spec.specs.format.Code.{kind_of, custom_of, native_bytes}
use Rattle.marshal_spec.specs.format.Header.{head_of}
use Rattle.marshal_spec.specs.format.Raw.{fixed_bytes, length_after, measure_from, raw_measure, IsRaw}
use Rattle.marshal_spec.specs.format.Words.{Sums, sums_of, one_more, of_object, words32, words64, objects, pending}
use Rattle.marshal_spec.specs.format.Step.{first_refusal, Context, left_after, steps_from, token_steps}
use Rattle.marshal_spec.specs.format.Prefix.{context, token_refusal, IsOpen}
use Rattle.marshal_spec.specs.format.Token.{Token, EncodesFrom, Encodes}
use Rattle.marshal_spec.specs.format.Tree.{RefersBack}
use Rattle.marshal_spec.specs.format.Encoded.{IsNoReference}
use Rattle.std.proofs.lemmas.List.Sums.{sum_by_push}
use Rattle.marshal_spec.proofs.format.Pending.{pending_push}
use Rattle.marshal_spec.proofs.format.EncodeLemmas.{encoded_length}
use Rattle.marshal_spec.proofs.format.EncodeSteps.{steps_pass}
use Rattle.marshal_spec.proofs.format.FormatKindLemmas.{InRange, kind_of-in_range}
use Rattle.marshal_spec.proofs.format.EncodeFields.{AreSoundFields, IsTokenThere, encoded_of, sound_of}
use Rattle.marshal_spec.proofs.format.EncodeFacts.{VariableFits, token_length, up_to, TokenFacts, facts_from_none, none_from_facts}

-- The header agrees with the sums of all tokens. The last token ends after `n` bytes of the data.
pub record EndsWith (head : Head) (n : ℕ) (all : Sums) : Type 0 where
  pub length : head.length ≡ n
  pub w32 : head.big ≡ false → head.w32 ≡ all.w32
  pub w64 : head.w64 ≡ all.w64
  pub count : (head.objects ≡ 0) ⊎ (head.objects ≡ all.objects)

-- A token that ends after `n` bytes of the data fits the header. The sums `all` are over all tokens
-- up to this token.
pub record FitsWith (head : Head) (n : ℕ) (all : Sums) : Type 0 where
  pub within : n ≤ head.length
  pub room : all.pending ≤ head.length - n
  pub w32 : head.big ≡ false → all.w32 ≤ head.w32
  pub w64 : all.w64 ≤ head.w64
  pub end : all.pending ≡ 0 → EndsWith head n all

-- The header agrees with the tokens whose measures are `all`.
abbrev pub EndsAt : Head → ℕ → List (Option Measure) → Type 0
EndsAt head n all = EndsWith head n (sums_of all)

abbrev pub FitsUpTo : Head → ℕ → List (Option Measure) → Type 0
FitsUpTo head n all = FitsWith head n (sums_of all)

-- The token `chunk` fits the header after the tokens `before`.
abbrev pub FitsAfter : Head → List (List ℕ) → List ℕ → Type 0
FitsAfter head before chunk = FitsUpTo head (length (concat before) + length chunk) (map raw_measure before ++ raw_measure chunk ∷ [])

-- ---- from the steps

-- If the facts of a token hold, then the token ends within the data.
within_from_facts : (c : Context) (kind : CodeKind) (custom : Option CustomKind) (rest : List ℕ) → custom ≡ custom_of (take 3 rest) → c.taken < c.head.length → fixed_bytes kind ≤ left_after c 1 → VariableFits c kind custom rest → c.taken + token_length kind rest ≤ c.head.length
within_from_facts c (kinds.Custom old) (Some customs.Native) rest e more fixed f = rw (← e) (omega (arith, f.0, f.1, f.2))
within_from_facts c kind custom rest e more fixed f = omega arith

-- If the facts of a token hold, then the token fits the header.
fits_from_facts : (c : Context) (kind : CodeKind) (rest : List ℕ) (n : ℕ) → n ≡ token_length kind rest → c.taken < c.head.length → TokenFacts c kind rest → FitsWith c.head (c.taken + n) (up_to c kind rest)
fits_from_facts c kind rest n e more f =
    let within : c.taken + token_length kind rest ≤ c.head.length = within_from_facts c kind (custom_of (take 3 rest)) rest refl more f.fixed f.variable in
    rw e (record {
      within = within;
      room = f.room;
      w32 = f.w32;
      w64 = f.w64;
      end = λ p. record { length = omega (arith, (f.end p).left); w32 = (f.end p).w32; w64 = (f.end p).w64; count = (f.end p).count };
    })

-- The bytes after a code encode a token that is allowed in the context `c`.
abbrev PassesAs : Context → Result CodeKind CodeFault → List ℕ → Type 0
PassesAs c r rest =
    (t : Token) × EncodesFrom r rest t × IsTokenThere t (c.sums.objects) c.head.objects

-- If the bytes after a code pass the steps, then the bytes encode a token, by the code's entry in
-- the table.
token_after : (c : Context) (code : ℕ) (r : Result CodeKind CodeFault) (rest : List ℕ) → InRange r → AreBytes rest → length rest ≡ length_after r rest → first_refusal (length (code ∷ rest)) (steps_from c code r rest) ≡ None → PassesAs c r rest
token_after c code (Ok kind) rest k a l p =
    let facts = facts_from_none c code kind rest (length (code ∷ rest)) (omega arith) p in
    encoded_of kind rest (c.sums.objects) c.head.objects k a l facts.fields
token_after c code (Err fault) rest k a l p =
    absurd (let none = (steps_pass (length (code ∷ rest)) (steps_from c code (Err fault) rest) (omega arith, tt) p).0 in cc (none))

-- If the bytes after a code pass the steps, then the token fits the header, by the code's entry in
-- the table.
fits_after : (c : Context) (code : ℕ) (r : Result CodeKind CodeFault) (rest : List ℕ) → length rest ≡ length_after r rest → first_refusal (length (code ∷ rest)) (steps_from c code r rest) ≡ None → c.taken < c.head.length → FitsWith c.head (c.taken + length (code ∷ rest)) (one_more c.sums (measure_from r rest))
fits_after c code (Ok kind) rest l p more =
    fits_from_facts c kind rest (length (code ∷ rest)) (omega arith) more (facts_from_none c code kind rest (length (code ∷ rest)) (omega arith) p)
fits_after c code (Err fault) rest l p more =
    absurd (let none = (steps_pass (length (code ∷ rest)) (steps_from c code (Err fault) rest) (omega arith, tt) p).0 in cc (none))

-- ---- to the steps

-- If a token ends within the data, then the token's variable bytes fit.
variable_from_within : (c : Context) (kind : CodeKind) (custom : Option CustomKind) (rest : List ℕ) → custom ≡ custom_of (take 3 rest) → AreSoundFields kind rest (c.sums.objects) c.head.objects → c.taken + token_length kind rest ≤ c.head.length → VariableFits c kind custom rest
variable_from_within c (kinds.Custom old) (Some customs.Native) rest e s h =
    let some : 0 < native_bytes (slice_index rest 3) = rw (← e) at s in
    let all : c.taken + (1 + 3 + (1 + native_bytes (slice_index rest 3))) ≤ c.head.length = rw (← e) at h in
    (omega arith, some, omega arith)
variable_from_within c kind custom rest e s h = omega arith

-- If a token fits the header, then the facts of the token hold.
facts_from_fits : (c : Context) (kind : CodeKind) (rest : List ℕ) (n : ℕ) → n ≡ token_length kind rest → AreSoundFields kind rest (c.sums.objects) c.head.objects → FitsWith c.head (c.taken + n) (up_to c kind rest) → TokenFacts c kind rest
facts_from_fits c kind rest n e s fits =
    let f : FitsWith c.head (c.taken + token_length kind rest) (up_to c kind rest) = subst (λ m. FitsWith c.head (c.taken + m) (up_to c kind rest)) e fits in
    record {
      fixed = omega (arith, f.within);
      fields = s;
      variable = variable_from_within c kind (custom_of (take 3 rest)) rest refl s f.within;
      room = f.room;
      w32 = f.w32;
      w64 = f.w64;
      end = λ p. record { left = omega (arith, (f.end p).length); w32 = (f.end p).w32; w64 = (f.end p).w64; count = (f.end p).count };
    }

-- If an encoded token fits the header, then no step refuses the token, by the code's entry in the
-- table.
no_refusal_after : (c : Context) (code : ℕ) (r : Result CodeKind CodeFault) (rest : List ℕ) (t : Token) → EncodesFrom r rest t → IsTokenThere t (c.sums.objects) c.head.objects → FitsWith c.head (c.taken + length (code ∷ rest)) (one_more c.sums (measure_from r rest)) → first_refusal (length (code ∷ rest)) (steps_from c code r rest) ≡ None
no_refusal_after c code (Ok kind) rest t s there fits =
    let l = encoded_length kind rest t s in
    none_from_facts c code kind rest (length (code ∷ rest))
    (facts_from_fits c kind rest (length (code ∷ rest)) (omega arith) (sound_of kind rest t (c.sums.objects) c.head.objects s there) fits)
no_refusal_after c code (Err fault) rest t s there fits = absurd s

-- ---- whole chunks

-- The first refusal of a token's steps is the first refusal of the steps for its code's entry in
-- the table.
token_steps-are : (c : Context) (code : ℕ) (rest : List ℕ) (n : ℕ) → first_refusal n (token_steps c (code ∷ rest)) ≡ first_refusal n (steps_from c code (kind_of code) rest)
unfolding token_steps
token_steps-are c code rest n = refl

-- The number of bytes of a raw token after its code is determined by the code and these bytes.
after_code : (code : ℕ) (rest : List ℕ) → IsRaw (code ∷ rest) → length rest ≡ length_after (kind_of code) rest
after_code code rest raw = omega (arith, raw)

-- The token that `chunk` encodes, and that is allowed after the chunks `before`.
pub record EncodedThere (header : List ℕ) (before : List (List ℕ)) (chunk : List ℕ) : Type 0 where
  pub token : Token
  pub encodes : Encodes token chunk
  pub refers_back : RefersBack token (objects (map raw_measure before))
  pub table : (head_of header).objects ≡ 0 → IsNoReference token

-- If a raw token passes its steps, then its bytes encode a token.
pub EncodedThere-passes : (header : List ℕ) (before : List (List ℕ)) (chunk : List ℕ) → AreBytes chunk → IsRaw chunk → token_refusal header before chunk ≡ None → EncodedThere header before chunk
EncodedThere-passes header before [] a raw p = absurd (omega (arith, raw))
EncodedThere-passes header before (code ∷ rest) a raw p =
    let c = context header before in
    let t = token_after c code (kind_of code) rest (kind_of-in_range code) (All-tail (λ b. b < 256) code rest a) (after_code code rest raw) (sym (token_steps-are c code rest (length (code ∷ rest))) ∙ p) in
    record { token = t.0; encodes = (t.2.is_token, t.1); refers_back = t.2.refers_back; table = t.2.table }

-- If at least one value is expected after tokens, then `one_more` computes the sums after one more
-- token.
pub sums_of-push : (ms : List (Option Measure)) (m : Option Measure) → 0 < pending ms → sums_of (ms ++ m ∷ []) ≡ one_more (sums_of ms) m
sums_of-push ms m open_before =
    let o = sum_by_push (of_object (λ _. 1)) ms m in
    let p = pending_push ms m open_before in
    let a = sum_by_push (of_object words32) ms m in
    let b = sum_by_push (of_object words64) ms m in
    λ i. record { objects = o i; pending = p i; w32 = a i; w64 = b i }

-- If a token passes its steps and data bytes are left for the token, then the token fits the
-- header.
pub FitsAfter-passes : (header : List ℕ) (before : List (List ℕ)) (chunk : List ℕ) → IsOpen before → IsRaw chunk → token_refusal header before chunk ≡ None → length (concat before) < (head_of header).length → FitsAfter (head_of header) before chunk
FitsAfter-passes header before [] is_open raw p more = absurd (omega (arith, raw))
FitsAfter-passes header before (code ∷ rest) is_open raw p more =
    let c = context header before in
    subst (FitsWith (head_of header) (length (concat before) + length (code ∷ rest))) (sym (sums_of-push (map raw_measure before) (raw_measure (code ∷ rest)) is_open))
    (fits_after c code (kind_of code) rest (after_code code rest raw) (sym (token_steps-are c code rest (length (code ∷ rest))) ∙ p) more)

-- If an encoded token fits the header, then the token passes its steps.
pub passes-encoded : (header : List ℕ) (before : List (List ℕ)) (t : Token) (chunk : List ℕ) → IsOpen before → Encodes t chunk → RefersBack t (objects (map raw_measure before)) → ((head_of header).objects ≡ 0 → IsNoReference t) → FitsAfter (head_of header) before chunk → token_refusal header before chunk ≡ None
passes-encoded header before t [] is_open s back table fits = absurd s
passes-encoded header before t (code ∷ rest) is_open s back table fits =
    let c = context header before in
    token_steps-are c code rest (length (code ∷ rest)) ∙ no_refusal_after c code (kind_of code) rest t s.1 (record { is_token = s.0; refers_back = back; table = table })
    (subst (FitsWith (head_of header) (length (concat before) + length (code ∷ rest))) (sums_of-push (map raw_measure before) (raw_measure (code ∷ rest)) is_open) fits)
