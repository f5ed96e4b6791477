-- If a token is complete, then the token's own bytes pass the steps that these bytes decide.
use Rattle.std.proofs.Common.{ℕ, ℤ, zero, suc, ◌+◌, ◌%◌, ◌/◌, ◌<◌, ◌≤◌, ◌≡◌, ◌∙◌, Bool, true, false, not, eqb, ltb, List, [], ◌∷◌, ◌++◌, length, take, drop, slice_index, Option, Some, None, is_none, if◌then◌else◌, Result, Ok, Err, inl, inr, refl, sym, ap, ap₂, subst, arith, le_refl, take_all, length-take-le, eqb-true, ne_eqb, le-ltb}
use Rattle.std.proofs.lemmas.List.{take-append-drop}
use Rattle.base_data.specs.declared.model.refusal.ReadRefusal.{ReadRefusal}
use Rattle.base_data.specs.declared.model.refusal.ReadRefusal.TheVariants.{IntRange, BadTag, ZeroArray, OtherCustom, BadNative}
use Rattle.base_data.specs.declared.model.value.Obj.{Obj}
use Rattle.base_data.specs.declared.model.value.Obj.TheVariants as objects
use Rattle.base_data.specs.declared.model.code.CodeKind.{CodeKind}
use Rattle.base_data.specs.declared.model.code.CodeKind.TheVariants as kinds
use Rattle.base_data.specs.declared.model.code.CodeFault.{CodeFault}
use Rattle.base_data.specs.declared.model.code.CustomKind.{CustomKind}
use Rattle.base_data.specs.declared.model.code.CustomKind.TheVariants as customs
use Rattle.base_data.specs.declared.model.code.Measure.{Measure}
use Rattle.base_data.specs.model.Bytes.{number, signed}
use Rattle.marshal_spec.specs.format.Code.{kind_of, custom_of, native_bytes}
use Rattle.marshal_spec.specs.format.Raw.{fixed_bytes, field_bytes, sizing_bytes, variable_bytes, measure_after, raw_length, raw_measure}
use Rattle.marshal_spec.specs.format.Words.{one_more}
use Rattle.marshal_spec.specs.format.Step.{Step, step, fails_if, or_else, first_refusal, Context, position, overlong, is_integer, integer_refusal, shared_refusal, field_refusal, variable_steps, words32_refusal, words64_refusal, end_steps, closing_steps, steps_after, token_steps}
use Rattle.marshal_spec.specs.format.Token.{Token, integer, shared, block, leaf, IsToken, block_or_atom, word_token, EncodesCustom, EncodesAfter, EncodesFrom, Encodes}
use Rattle.marshal_spec.specs.format.Tree.{RefersBack}
use Rattle.marshal_spec.specs.format.Encoded.{IsNoReference}
use Rattle.marshal_spec.proofs.format.RawLemmas.{fields_fit, sizing_fits, raw_length-append, raw_measure-take}
use Rattle.marshal_spec.proofs.format.FormatStepLemmas.{first_refusal-decided, EndWithin-high}
use Rattle.marshal_spec.proofs.format.TokenStepLemmas.{token_steps-take, token_steps-ok, token_steps-within}
use Rattle.marshal_spec.proofs.format.EncodeFacts.{none_from_room}
use Rattle.marshal_spec.proofs.format.EncodeFields.{IsKnownData, IsTokenThere, sound_of}
use Rattle.marshal_spec.proofs.format.EncodeLemmas.{encoded_length, encoded_measure, IsRaw-encoded, raw_measure-encoded}
use Rattle.marshal_codec.specs.declared.token.summary.Summary.{Summary}
use Rattle.marshal_codec.specs.declared.token.summary.Summary.TheVariants as summaries
use Rattle.marshal_codec.specs.token.Summary.{IsSummary, IsSummaryBy, summary_measure}
use Rattle.marshal_codec.specs.token.RemainingSteps.{reference_refusal, closing, remaining_steps}
use Rattle.marshal_codec.proofs.token.SummaryLemmas.{measured}
use Rattle.marshal_codec.proofs.token.TokenFaultLemmas.{after_pass}

-- ---- the fields of a token

abbrev token_reference : Context → Token → Option ReadRefusal
token_reference c (shared offset) = shared_refusal c offset
token_reference c token = None

-- The refusal of a reference depends only on the token that has the summary.
reference_of : (c : Context) (summary : Summary) (t : Token) → IsSummary summary t → reference_refusal c summary ≡ token_reference c t
reference_of c (summaries.Integer z) t its = ap (token_reference c) (sym its)
reference_of c (summaries.Atom tag) t its = ap (token_reference c) (sym its)
reference_of c (summaries.Shared offset) t its = ap (token_reference c) (sym its)
reference_of c (summaries.Block tag size) t its = ap (token_reference c) (sym its)
reference_of c (summaries.Bytes n) t its = ap (token_reference c) (sym its.2)
reference_of c summaries.Double t its = ap (token_reference c) (sym its.1)
reference_of c (summaries.Doubles n) t its = ap (token_reference c) (sym its.2)
reference_of c (summaries.Custom kind) t its = ap (token_reference c) (sym its.1)

block_reference : (c : Context) (tag size : ℕ) → None ≡ token_reference c (block_or_atom tag size)
block_reference c tag zero = refl
block_reference c tag (suc size) = refl

-- If a token is no reference, then the token is allowed anywhere.
there_plain : (t u : Token) → t ≡ u → IsToken t → RefersBack u 0 → IsNoReference u → IsTokenThere t 0 0
there_plain t u is token back plain =
    subst (λ v. IsTokenThere v 0 0) (sym is) (record { is_token = subst IsToken is token; refers_back = back; table = λ _. plain })

block_plain : (tag size : ℕ) → RefersBack (block_or_atom tag size) 0 × IsNoReference (block_or_atom tag size)
block_plain tag zero = (tt, tt)
block_plain tag (suc size) = (tt, tt)

-- If bytes encode a custom block, then the token is a leaf with an object.
custom_object : (rest : List ℕ) (t : Token) → EncodesCustom rest t → (object : Obj) × (t ≡ leaf object)
custom_object rest t (inl s) = (objects.I32 (signed s.0), s.3)
custom_object rest t (inr (inl s)) = (objects.I64 (signed s.0), s.3)
custom_object rest t (inr (inr (inl s))) = (objects.Native (signed s.0), s.3)
custom_object rest t (inr (inr (inr s))) = (objects.Native (signed s.0), s.3)

integer_none : (b : Bool) (c : Context) (z : ℤ) → (b ≡ true → is_integer z ≡ true) → (if b then integer_refusal c z else None) ≡ None
integer_none true c z fits = ap (λ x. fails_if (not x) (IntRange (position c) z)) (fits refl)
integer_none false c z fits = refl

known_some : (known : Option CustomKind) (b : ℕ) → IsKnownData known b → is_none known ≡ false
known_some None b its = absurd its
known_some (Some kind) b its = refl

-- The refusal of the fields of a complete token is the refusal of a reference, or none.
field_token : (c : Context) (code : ℕ) (kind : CodeKind) (rest : List ℕ) (t : Token) → EncodesAfter kind rest t → IsToken t → field_refusal c code kind rest ≡ token_reference c t
field_token c code (kinds.SmallBlock tag size) rest t s token = block_reference c tag size ∙ ap (token_reference c) (sym s.1)
field_token c code (kinds.SmallInt n) rest t s token = ap (token_reference c) (sym s.1)
field_token c code (kinds.SmallString n) rest t s token = ap (token_reference c) (sym s.1)
field_token c code (kinds.Int width) rest t s token =
    let sound = sound_of (kinds.Int width) rest t 0 0 s (there_plain t (integer (signed rest)) s.1 token tt tt) in
    integer_none (eqb width 8) c (signed (take 8 rest)) (λ e. sound (eqb-true width 8 e)) ∙ ap (token_reference c) (sym s.1)
field_token c code (kinds.Shared width) rest t s token =
    ap (λ xs. shared_refusal c (number xs)) (take_all width rest (omega (arith, s.0))) ∙ ap (token_reference c) (sym s.1)
field_token c code (kinds.Block width) rest t s token =
    let plain = block_plain (number rest % 256) (number rest / 1024) in
    let sound = sound_of (kinds.Block width) rest t 0 0 s (there_plain t (word_token (number rest)) s.1 token plain.0 plain.1) in
    let tag : ℕ = number (take width rest) % 256 in
    ap (λ b. fails_if b (BadTag (position c) tag)) (le-ltb 243 tag sound) ∙ (block_reference c (number rest % 256) (number rest / 1024) ∙ ap (token_reference c) (sym s.1))
field_token c code (kinds.Str width) rest t s token = ap (token_reference c) (sym s.2)
field_token c code (kinds.Double little) rest t s token = ap (token_reference c) (sym s.1)
field_token c code (kinds.Doubles width little) rest t s token =
    let sound = sound_of (kinds.Doubles width little) rest t 0 0 s (there_plain t (leaf (objects.Doubles s.0)) s.4 token tt tt) in
    ap (λ b. fails_if b (ZeroArray (position c))) (ne_eqb (number (take width rest)) 0 (λ e. omega (arith, e, sound))) ∙ ap (token_reference c) (sym s.4)
field_token c code (kinds.Custom old) rest t s token =
    let object = custom_object rest t s in
    let sound = sound_of (kinds.Custom old) rest t 0 0 s (there_plain t (leaf object.0) object.1 token tt tt) in
    ap (λ b. fails_if b (OtherCustom (position c) code)) (known_some (custom_of (take 3 rest)) (slice_index rest 3) sound) ∙ ap (token_reference c) (sym object.1)

-- ---- the bytes after the fixed ones

variable_pass : (c : Context) (kind : CodeKind) (custom : Option CustomKind) (rest : List ℕ) (n : ℕ) (more : List Step) → custom ≡ custom_of (take 3 rest) → length rest ≡ fixed_bytes kind + variable_bytes kind rest
    → (custom ≡ Some customs.Native → (old : Bool) → kind ≡ kinds.Custom old → 0 < native_bytes (slice_index rest 3))
    → c.taken + (1 + length rest) ≤ c.head.length → 1 + length rest ≤ n → first_refusal n (variable_steps c kind custom rest ++ more) ≡ first_refusal n more
variable_pass c (kinds.Custom old) (Some customs.Native) rest n more is whole known room long =
    let kind = slice_index rest 3 in
    let some : 0 < native_bytes kind = known refl old refl in
    let size : length rest ≡ 3 + (1 + native_bytes kind) = rw (← is) at whole in
    let none : fails_if (eqb (native_bytes kind) 0) (BadNative (position c) kind) ≡ None =
    ap (λ b. fails_if b (BadNative (position c) kind)) (ne_eqb (native_bytes kind) 0 (λ e. omega (arith, e, some))) in
    let last = step 5 (overlong c (native_bytes kind) 5) ∷ more in
    after_pass n 4 (overlong c 1 4) (step 5 (fails_if (eqb (native_bytes kind) 0) (BadNative (position c) kind)) ∷ last) (omega (arith, long, size, some)) (none_from_room c 1 4 (omega (arith, room, size, some)))
    ∙ (after_pass n 5 (fails_if (eqb (native_bytes kind) 0) (BadNative (position c) kind)) last (omega (arith, long, size, some)) none
    ∙ after_pass n 5 (overlong c (native_bytes kind) 5) more (omega (arith, long, size, some)) (none_from_room c (native_bytes kind) 5 (omega (arith, room, size))))
variable_pass c kind custom rest n more is whole known room long =
    after_pass n (1 + field_bytes kind) (overlong c (variable_bytes kind rest) (1 + fixed_bytes kind)) more (omega (arith, long, whole, fields_fit kind))
    (none_from_room c (variable_bytes kind rest) (1 + fixed_bytes kind) (omega (arith, room, whole)))

-- If the bytes encode a `Nativeint`, then the kind byte is known.
native_known : (kind : CodeKind) (rest : List ℕ) (t : Token) → EncodesAfter kind rest t → IsToken t → custom_of (take 3 rest) ≡ Some customs.Native → (old : Bool) → kind ≡ kinds.Custom old → 0 < native_bytes (slice_index rest 3)
native_known kind rest t s token is old same =
    let own : EncodesCustom rest t = subst (λ k. EncodesAfter k rest t) same s in
    let object = custom_object rest t own in
    let sound = sound_of (kinds.Custom old) rest t 0 0 own (there_plain t (leaf object.0) object.1 token tt tt) in
    let data' : IsKnownData (Some customs.Native) (slice_index rest 3) = subst (λ k. IsKnownData k (slice_index rest 3)) is sound in
    data'

-- ---- the closing steps

-- If all bytes of a step are present, then the first refusal does not depend on the number of bytes
-- that decide the step.
resized : (m sized : ℕ) (o : Option ReadRefusal) (xs ys : List Step) → sized ≤ m → first_refusal m xs ≡ first_refusal m ys → first_refusal m (step sized o ∷ xs) ≡ first_refusal m (step m o ∷ ys)
resized m sized o xs ys d e =
    first_refusal-decided m (step sized o) xs d ∙ (ap (or_else o) e ∙ sym (first_refusal-decided m (step m o) ys (le_refl m)))

closing_resized : (c : Context) (m sized n : ℕ) (measure : Option Measure) → sized ≤ m → first_refusal m (closing c sized n measure) ≡ first_refusal m (closing c m n measure)
closing_resized c m sized n measure d =
    let all = one_more c.sums measure in
    let o = overlong c all.pending n in
    let w = words32_refusal ltb (position c) c.head all.w32 in
    let v = words64_refusal ltb (position c) c.head all.w64 in
    let end = (if eqb all.pending 0 then end_steps c n all else []) in
    resized m sized o (step sized w ∷ step sized v ∷ end) (step m w ∷ step m v ∷ end) d
    (resized m sized w (step sized v ∷ end) (step m v ∷ end) d (resized m sized v end end d refl))

-- ---- all steps

complete_after : (c : Context) (code : ℕ) (kind : CodeKind) (rest : List ℕ) (t : Token) (summary : Summary) (n : ℕ) → EncodesAfter kind rest t → IsToken t → IsSummary summary t → c.taken + (1 + length rest) ≤ c.head.length → n ≡ 1 + length rest
    → first_refusal n (steps_after c code kind rest) ≡ first_refusal n (remaining_steps c summary n)
complete_after c code kind rest t summary n s token its room is =
    let whole = encoded_length kind rest t s in
    let fit = fields_fit kind in
    let sized : 1 + sizing_bytes kind rest ≤ n = omega (arith, sizing_fits kind rest, whole, is) in
    let len : 1 + fixed_bytes kind + variable_bytes kind rest ≡ n = omega (arith, whole, is) in
    let measure : measure_after kind rest ≡ summary_measure summary = encoded_measure kind rest t s ∙ measured summary (summary_measure summary) refl t its in
    let own : field_refusal c code kind rest ≡ reference_refusal c summary = field_token c code kind rest t s token ∙ sym (reference_of c summary t its) in
    let more = variable_steps c kind (custom_of (take 3 rest)) rest ++ closing_steps c kind rest in
    let last : first_refusal n (closing_steps c kind rest) ≡ first_refusal n (closing c n n (summary_measure summary)) =
    closing_resized c n (1 + sizing_bytes kind rest) (1 + fixed_bytes kind + variable_bytes kind rest) (measure_after kind rest) sized
    ∙ ap₂ (λ k m. first_refusal n (closing c n k m)) len measure in
    let rest' : first_refusal n more ≡ first_refusal n (closing c n n (summary_measure summary)) =
    variable_pass c kind (custom_of (take 3 rest)) rest n (closing_steps c kind rest) refl whole (native_known kind rest t s token) room (omega (arith, is)) ∙ last in
    after_pass n 1 (overlong c (fixed_bytes kind) 1) (step (1 + field_bytes kind) (field_refusal c code kind rest) ∷ more) (omega (arith, is)) (none_from_room c (fixed_bytes kind) 1 (omega (arith, room, whole)))
    ∙ (first_refusal-decided n (step (1 + field_bytes kind) (field_refusal c code kind rest)) more (omega (arith, is, whole, fit))
    ∙ (ap₂ or_else own rest'
    ∙ sym (first_refusal-decided n (step n (reference_refusal c summary)) (closing c n n (summary_measure summary)) (le_refl n))))

complete_from : (c : Context) (code : ℕ) (r : Result CodeKind CodeFault) (rest : List ℕ) (t : Token) (summary : Summary) (n : ℕ) → kind_of code ≡ r → EncodesFrom r rest t → IsToken t → IsSummary summary t → c.taken + (1 + length rest) ≤ c.head.length → n ≡ 1 + length rest
    → first_refusal n (token_steps c (code ∷ rest)) ≡ first_refusal n (remaining_steps c summary n)
complete_from c code (Ok kind) rest t summary n is s token its room long =
    ap (first_refusal n) (token_steps-ok c code kind rest is) ∙ complete_after c code kind rest t summary n s token its room long
complete_from c code (Err fault) rest t summary n is s token its room long = absurd s

complete_chunk : (c : Context) (chunk : List ℕ) (t : Token) (summary : Summary) (n : ℕ) → Encodes t chunk → IsSummary summary t → n ≡ length chunk → c.taken + n ≤ c.head.length → first_refusal n (token_steps c chunk) ≡ first_refusal n (remaining_steps c summary n)
complete_chunk c [] t summary n s its long room = absurd s
complete_chunk c (code ∷ rest) t summary n s its long room =
    complete_from c code (kind_of code) rest t summary n refl s.1 s.0 its (omega (arith, long, room)) (omega (arith, long))

-- ---- a token with this summary

-- The length of a token with a summary is `n` bytes.
pub complete_length : (bytes : List ℕ) (summary : Summary) (n : ℕ) → IsSummaryBy bytes summary n → raw_length bytes ≡ n
complete_length bytes summary n by =
    let raw = IsRaw-encoded by.token (take n bytes) by.encodes in
    ap raw_length (sym (take-append-drop n bytes)) ∙ (raw_length-append (take n bytes) (drop n bytes) raw ∙ (sym raw ∙ length-take-le n bytes by.within))

-- The measure of the object that a token makes is the measure of the token's summary.
pub complete_measure : (bytes : List ℕ) (summary : Summary) (n : ℕ) → IsSummaryBy bytes summary n → raw_measure bytes ≡ summary_measure summary
complete_measure bytes summary n by =
    let size = complete_length bytes summary n by in
    sym (raw_measure-take n bytes (omega (arith, size)))
    ∙ (raw_measure-encoded by.token (take n bytes) by.encodes ∙ measured summary (summary_measure summary) refl by.token by.is_summary)

-- The first refusal of a token is the first refusal of the steps that the token's own bytes do not
-- decide.
pub complete_steps : (c : Context) (bytes : List ℕ) (summary : Summary) (n : ℕ) → IsSummaryBy bytes summary n → c.taken + n ≤ c.head.length → first_refusal (length bytes) (token_steps c bytes) ≡ first_refusal n (remaining_steps c summary n)
complete_steps c bytes summary n by room =
    let size = complete_length bytes summary n by in
    let long = length-take-le n bytes by.within in
    EndWithin-high 1 (raw_length bytes) (length bytes) (token_steps c bytes) (token_steps-within c bytes) (let within = by.within in omega (arith, size, within))
    ∙ (ap (λ k. first_refusal k (token_steps c bytes)) size
    ∙ (sym (token_steps-take c n n bytes (le_refl n))
    ∙ complete_chunk c (take n bytes) by.token summary n by.encodes by.is_summary (sym long) room))
