-- The summary of a token, by its kind and the bytes after its code.
use Rattle.std.proofs.Common.{ℕ, suc, pos, ◌+◌, ◌-◌, ◌%◌, ◌<◌, ◌≤◌, ◌≡◌, ◌∙◌, Bool, true, false, not, eqb, List, [], ◌∷◌, length, take, drop, get_or, Option, Some, None, Ok, refl, sym, ap, subst, arith, take_all, length-drop, eq-eqb, pos_of_ne-zero}
use Rattle.std.specs.Prelude.{ℤ, slice_index, replicate}
use Rattle.std.proofs.lemmas.Bool.{not-false, eqb-false}
use Rattle.std.proofs.lemmas.List.{length-replicate}
use Rattle.base_data.specs.declared.model.value.Obj.TheVariants as objects
use Rattle.base_data.specs.declared.model.code.CodeKind.{CodeKind}
use Rattle.base_data.specs.declared.model.code.CodeKind.TheVariants as kinds
use Rattle.base_data.specs.declared.model.code.CustomKind.{CustomKind}
use Rattle.base_data.specs.declared.model.code.CustomKind.TheVariants as customs
use Rattle.base_data.specs.declared.model.code.Measure.{Measure}
use Rattle.base_data.specs.declared.model.code.Measure.TheVariants as measures
use Rattle.base_data.specs.model.Bytes.{AreBytes, number, number_in, signed}
use Rattle.marshal_spec.specs.format.Code.{IsKind, kind_of, custom_of, native_bytes}
use Rattle.marshal_spec.specs.format.Raw.{fixed_bytes, variable_bytes}
use Rattle.marshal_spec.specs.format.Step.{is_integer}
use Rattle.marshal_spec.specs.format.Token.{Token, integer, atom, shared, block, leaf, block_or_atom, word_token, Encodes, EncodesFrom, EncodesAfter, measure_of}
use Rattle.marshal_spec.proofs.format.EncodeFields.{AreSoundFields, IsKnownData, encoded_of}
use Rattle.marshal_spec.proofs.format.ContentLemmas.{EncodesData, data_at}
use Rattle.marshal_codec.specs.declared.token.summary.Summary.{Summary}
use Rattle.marshal_codec.specs.declared.token.summary.Summary.TheVariants as summaries
use Rattle.marshal_codec.specs.declared.token.token_fault.TokenFault.{TokenFault}
use Rattle.marshal_codec.specs.declared.token.token_fault.TokenFault.TheVariants as faults
use Rattle.marshal_codec.specs.token.Summary.{custom_leaf, IsSummary, IsSummaryAfter, IsSummaryBy, custom_measure, summary_measure}
use Rattle.marshal_codec.specs.token.TokenFault.{fault_if, integer_fault, custom_fault}

-- ---- no fault

none_fault : (b : Bool) (fault : TokenFault) → fault_if b fault ≡ None → b ≡ false
none_fault true fault e = absurd (cc)
none_fault false fault e = refl

-- If an integer of eight bytes has no fault, then it fits into 63 bits.
integer_sound : (width : ℕ) (z : ℤ) → integer_fault width z ≡ None → width ≡ 8 → is_integer z ≡ true
integer_sound width z fits e =
    let same : fault_if (not (is_integer z)) (faults.Integer z) ≡ None = rw (eq-eqb width 8 e) at fits in
    not-false (is_integer z) (none_fault (not (is_integer z)) (faults.Integer z) same)

-- If a known custom block has no fault, then its data are known.
data_sound : (kind : CustomKind) (b : ℕ) → custom_fault (Some kind) b ≡ None → IsKnownData (Some kind) b
data_sound customs.Int32 b fits = tt
data_sound customs.Int64 b fits = tt
data_sound customs.Native b fits = pos_of_ne-zero (eqb-false (native_bytes b) 0 (none_fault (eqb (native_bytes b) 0) (faults.Native b) fits))

data_summary : (kind : CustomKind) (chunk : List ℕ) (t : Token) → EncodesData (Some kind) chunk t → IsSummary (summaries.Custom kind) t
data_summary customs.Int32 chunk t data' = (signed (drop 3 chunk), data'.1)
data_summary customs.Int64 chunk t data' = (signed (drop 3 chunk), data'.1)
data_summary customs.Native chunk t data' = (signed (drop 4 chunk), data'.2)

-- ---- each kind

module _ (kind : CodeKind) (chunk : List ℕ) (known : IsKind kind) (bytes : AreBytes chunk) (whole : length chunk ≡ fixed_bytes kind + variable_bytes kind chunk) where
  long_of : (other : CodeKind) → kind ≡ other → length chunk ≡ fixed_bytes other + variable_bytes other chunk
  long_of other is = subst (λ k. length chunk ≡ fixed_bytes k + variable_bytes k chunk) is whole

  summary_by : (other : CodeKind) → kind ≡ other → AreSoundFields other chunk 0 0 → (summary : Summary) → ((t : Token) → EncodesAfter other chunk t → IsSummary summary t) → IsSummaryAfter kind chunk summary
  summary_by other is sound summary each =
      let s = encoded_of other chunk 0 0 (subst IsKind is known) bytes (long_of other is) sound in
      let own : IsSummaryAfter other chunk summary = record { token = s.0; encodes = s.1; is_token = s.2.is_token; is_summary = each s.0 s.1 } in
      subst (λ k. IsSummaryAfter k chunk summary) (sym is) own

  pub small_block : (tag size : ℕ) (summary : Summary) → kind ≡ kinds.SmallBlock tag size → IsSummary summary (block_or_atom tag size) → IsSummaryAfter kind chunk summary
  small_block tag size summary is its = summary_by (kinds.SmallBlock tag size) is tt summary (λ t s. subst (IsSummary summary) (sym s.1) its)

  pub small_int : (n : ℕ) → kind ≡ kinds.SmallInt n → IsSummaryAfter kind chunk (summaries.Integer (pos n))
  small_int n is = summary_by (kinds.SmallInt n) is tt (summaries.Integer (pos n)) (λ t s. s.1)

  pub small_string : (n : ℕ) → kind ≡ kinds.SmallString n → IsSummaryAfter kind chunk (summaries.Bytes n)
  small_string n is =
      let long : length chunk ≡ 0 + n = long_of (kinds.SmallString n) is in
      summary_by (kinds.SmallString n) is tt (summaries.Bytes n) (λ t s. (chunk, omega (arith, long), s.1))

  pub int : (width : ℕ) (summary : Summary) → kind ≡ kinds.Int width → integer_fault width (signed chunk) ≡ None → summary ≡ summaries.Integer (signed chunk) → IsSummaryAfter kind chunk summary
  int width summary is fits same =
      let long : length chunk ≡ width + 0 = long_of (kinds.Int width) is in
      let sound : width ≡ 8 → is_integer (signed (take 8 chunk)) ≡ true = λ e.
      let all : take 8 chunk ≡ chunk = take_all 8 chunk (omega (arith, long, e)) in
      subst (λ xs. is_integer (signed xs) ≡ true) (sym all) (integer_sound width (signed chunk) fits e) in
      subst (IsSummaryAfter kind chunk) (sym same)
      (summary_by (kinds.Int width) is sound (summaries.Integer (signed chunk)) (λ t s. s.1))

  -- The bytes after the code of a reference encode a reference. The caller compares the reference's
  -- offset with the number of objects.
  pub back : (width : ℕ) → kind ≡ kinds.Shared width → IsSummaryAfter kind chunk (summaries.Shared (number chunk))
  back width is =
      let long : length chunk ≡ width + 0 = long_of (kinds.Shared width) is in
      let own : IsSummaryAfter (kinds.Shared width) chunk (summaries.Shared (number chunk)) = record { token = shared (number chunk); encodes = (omega (arith, long), refl); is_token = tt; is_summary = refl } in
      subst (λ k. IsSummaryAfter k chunk (summaries.Shared (number chunk))) (sym is) own

  pub word : (width : ℕ) (summary : Summary) → kind ≡ kinds.Block width → number chunk % 256 ≤ 243 → IsSummary summary (word_token (number chunk)) → IsSummaryAfter kind chunk summary
  word width summary is tag its =
      let long : length chunk ≡ width + 0 = long_of (kinds.Block width) is in
      let all : take width chunk ≡ chunk = take_all width chunk (omega (arith, long)) in
      summary_by (kinds.Block width) is (subst (λ xs. number xs % 256 ≤ 243) (sym all) tag) summary (λ t s. subst (IsSummary summary) (sym s.1) its)

  pub str : (width len : ℕ) → kind ≡ kinds.Str width → len ≡ length chunk - width → IsSummaryAfter kind chunk (summaries.Bytes len)
  str width len is long =
      summary_by (kinds.Str width) is tt (summaries.Bytes len) (λ t s. (drop width chunk, length-drop width chunk ∙ sym long, s.2))

  pub double : (little : Bool) → kind ≡ kinds.Double little → IsSummaryAfter kind chunk summaries.Double
  double little is = summary_by (kinds.Double little) is tt summaries.Double (λ t s. (number_in little chunk, s.1))

  pub doubles : (width count : ℕ) (little : Bool) (summary : Summary) → kind ≡ kinds.Doubles width little → number (take width chunk) ≡ count → 0 < count → summary ≡ summaries.Doubles count → IsSummaryAfter kind chunk summary
  doubles width count little summary is many some same =
      subst (IsSummaryAfter kind chunk) (sym same)
      (summary_by (kinds.Doubles width little) is (omega (arith, many, some)) (summaries.Doubles count) (λ t s. (s.0, s.2 ∙ many, s.4)))

  pub custom : (by : Bool) (summary : Summary) (named : CustomKind) → kind ≡ kinds.Custom by → custom_of (take 3 chunk) ≡ Some named → custom_fault (Some named) (slice_index chunk 3) ≡ None → summary ≡ summaries.Custom named → IsSummaryAfter kind chunk summary
  custom by summary named is its fits same =
      let sound : IsKnownData (custom_of (take 3 chunk)) (slice_index chunk 3) = subst (λ k. IsKnownData k (slice_index chunk 3)) (sym its) (data_sound named (slice_index chunk 3) fits) in
      subst (IsSummaryAfter kind chunk) (sym same)
      (summary_by (kinds.Custom by) is sound (summaries.Custom named) (λ t s. data_summary named chunk t (data_at (Some named) chunk t s (sym its))))

-- If the bytes after the code encode a token with the summary, then the code and the bytes encode
-- the token.
pub with_code : (rest : List ℕ) (kind : CodeKind) (len : ℕ) (summary : Summary) → 0 < length rest → kind_of (get_or rest 0 0) ≡ Ok kind → len ≤ length (drop 1 rest) → IsSummaryAfter kind (take len (drop 1 rest)) summary → IsSummaryBy rest summary (1 + len)
with_code [] kind len summary some is within p = absurd (omega arith)
with_code (code ∷ rest) kind len summary some is within p =
    let next : suc len ≡ 1 + len = omega arith in
    record {
      some = omega arith;
      within = omega (arith, within);
      token = p.token;
      encodes = subst (λ n. Encodes p.token (take n (code ∷ rest))) next (p.is_token, subst (λ r. EncodesFrom r (take len rest) p.token) (sym is) p.encodes);
      is_token = p.is_token;
      is_summary = p.is_summary;
    }

-- ---- each summary is that of some token

pub some_token : (summary : Summary) → (token : Token) × IsSummary summary token
some_token (summaries.Integer z) = (integer z, refl)
some_token (summaries.Atom tag) = (atom tag, refl)
some_token (summaries.Shared offset) = (shared offset, refl)
some_token (summaries.Block tag size) = (block tag size, refl)
some_token (summaries.Bytes n) = (leaf (objects.Bytes (replicate n 0)), (replicate n 0, length-replicate n 0, refl))
some_token summaries.Double = (leaf (objects.Double 0), (0, refl))
some_token (summaries.Doubles n) = (leaf (objects.Doubles (replicate n 0)), (replicate n 0, length-replicate n 0, refl))
some_token (summaries.Custom kind) = (leaf (custom_leaf kind (pos 0)), (pos 0, refl))

-- ---- the summary determines the measure

measure_summary : (summary : Summary) (token : Token) → IsSummary summary token → measure_of token ≡ summary_measure summary
measure_summary (summaries.Integer z) token its = ap measure_of its
measure_summary (summaries.Atom tag) token its = ap measure_of its
measure_summary (summaries.Shared offset) token its = ap measure_of its
measure_summary (summaries.Block tag size) token its = ap measure_of its
measure_summary (summaries.Bytes n) token its = ap measure_of its.2 ∙ ap (λ k. Some (measures.Bytes k)) its.1
measure_summary summaries.Double token its = ap measure_of its.1
measure_summary (summaries.Doubles n) token its = ap measure_of its.2 ∙ ap (λ k. Some (measures.Doubles k)) its.1
measure_summary (summaries.Custom kind) token its = ap measure_of its.1 ∙ custom_summary kind its.0 where
  custom_summary : (kind : CustomKind) (z : ℤ) → measure_of (leaf (custom_leaf kind z)) ≡ Some (custom_measure kind)
  custom_summary customs.Int32 z = refl
  custom_summary customs.Int64 z = refl
  custom_summary customs.Native z = refl

pub measured : (summary : Summary) (measure : Option Measure) → measure ≡ summary_measure summary → (token : Token) → IsSummary summary token → measure_of token ≡ measure
measured summary measure is token its = measure_summary summary token its ∙ sym is
