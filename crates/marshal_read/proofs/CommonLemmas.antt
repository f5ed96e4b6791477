-- Tokens that are read on the fast path.
use Rattle.std.proofs.Common.{ℕ, suc, ◌≡◌, ◌+◌, ◌-◌, ◌<◌, ◌≤◌, List, [], ◌∷◌, ◌++◌, length, take, drop, get_or, Option, Some, Ok, None, true, arith, ap, ◌∙◌, subst, subst₂, take-take}
use Rattle.std.proofs.lemmas.List.{length-take}
use Rattle.base_data.specs.model.Bytes.{AreBytes}
use Rattle.base_data.specs.declared.model.code.CodeKind.{CodeKind}
use Rattle.base_data.specs.declared.model.code.Measure.{Measure}
use Rattle.marshal_spec.specs.format.Code.{kind_of}
use Rattle.marshal_spec.specs.format.Raw.{fixed_bytes, variable_bytes, measure_after, raw_length}
use Rattle.marshal_spec.specs.format.Step.{field_refusal}
use Rattle.marshal_spec.specs.format.Token.{Token, Encodes, EncodesFrom, EncodesAfter}
use Rattle.marshal_spec.specs.format.Prefix.{context}
use Rattle.marshal_read.specs.declared.read_totals.ReadTotals.{ReadTotals}
use Rattle.marshal_read.specs.Totals.{AreTotals, PassesTo, Advances, context_of, moved, IsPlain}
use Rattle.marshal_read.specs.Build.{Bounded, Fits, absorb_in}
use Rattle.marshal_read.specs.Reading.{BuildsGraph, TakesOne}
use Rattle.marshal_read.specs.Chunks.{LeadsAs, TakesCommon}
use Rattle.marshal_read.proofs.TotalsLemmas.{next_there}
use Rattle.marshal_read.proofs.ReaderStepLemmas.{bytes_length}
use Rattle.marshal_read.proofs.PassingLemmas.{passes_next}
use Rattle.marshal_read.proofs.ReaderNextLemmas.{words_built, next_leads, next_encoded}
use Rattle.marshal_spec.proofs.format.EncodeValues.{IsToken-encoded}
use Rattle.marshal_read.specs.Contents.{EncodesTokenAfter}
use Rattle.marshal_read.proofs.ChunksLemmas.{token_is_read, length_rest, taken_on}

-- If the totals advance by a token, then there is room for the token's object.
pub advance_fits : (header : List ℕ) (before : List (List ℕ)) (position next : ReadTotals) (state : Bounded) (n : ℕ) (measure : Option Measure) → BuildsGraph header before position state
    → AreTotals next (moved (context_of position) n measure) → Fits state measure
advance_fits header before position next state n measure h m =
    let words = words_built header before position state h in
    let room : state.room ≡ next.head.w64 = h.room ∙ ap (λ x. x.w64) m.head in
    omega (arith, m.w64, h.sums.w64, next.within64)

-- If bytes begin with a token's encoding, then the bytes after the code encode the token by the
-- code's kind.
encoded_after : (bytes : List ℕ) (kind : CodeKind) (t : Token) → 0 < length bytes → kind_of (get_or bytes 0 0) ≡ Ok kind
    → Encodes t (take (raw_length bytes) bytes) → EncodesAfter kind (take (fixed_bytes kind + variable_bytes kind (drop 1 bytes)) (drop 1 bytes)) t
encoded_after [] kind t some k s = absurd (omega arith)
encoded_after (code ∷ rest) kind t some k s =
    let n = fixed_bytes kind + variable_bytes kind rest in
    let len : raw_length (code ∷ rest) ≡ suc n = omega (arith, bytes_length (code ∷ rest) kind some k) in
    let whole : Encodes t (code ∷ take n rest) = subst (λ (m : ℕ). Encodes t (take m (code ∷ rest))) len s in
    subst (λ r. EncodesFrom r (take n rest) t) k whole.1

module _ (header : List ℕ) (before : List (List ℕ)) (position next : ReadTotals) (state state' : Bounded) (bytes : List ℕ) (valid : AreBytes bytes) (some : 0 < length bytes) (is_open : 0 < position.pending) (h : BuildsGraph header before position state) where
  -- If a token of a common kind passes, then reading the token leads to the next state.
  pub common_taken : (kind : CodeKind) (n : ℕ) → n ≡ 1 + fixed_bytes kind + variable_bytes kind (drop 1 bytes) → kind_of (get_or bytes 0 0) ≡ Ok kind → PassesTo position (get_or bytes 0 0) kind (drop 1 bytes) next
      → ((t : Token) → EncodesAfter kind (take (fixed_bytes kind + variable_bytes kind (drop 1 bytes)) (drop 1 bytes)) t → state' ≡ absorb_in state t)
      → TakesOne header before bytes position state next state' n
  common_taken kind n e k p adds =
      let j = next_there position (context header before) bytes (Ok next) h.sums (passes_next position next bytes kind some k p) in (
        λ none. absurd (omega arith),
        λ _. (
          omega (arith, p.next_is.taken),
          λ last. (p.ends last).taken,
          (j.0, j.1, next_leads header before position next state state' bytes valid is_open h j.0 j.1 j.2 (λ t s. adds t (encoded_after bytes kind t some k s))),
        ),
      )

  pub common_encoded : (kind : CodeKind) → kind_of (get_or bytes 0 0) ≡ Ok kind → PassesTo position (get_or bytes 0 0) kind (drop 1 bytes) next
      → EncodesTokenAfter kind (take (fixed_bytes kind + variable_bytes kind (drop 1 bytes)) (drop 1 bytes)) (length state.built.objects)
  common_encoded kind k p =
      let j = next_there position (context header before) bytes (Ok next) h.sums (passes_next position next bytes kind some k p) in
      let s = next_encoded header before position state bytes valid h j.0 j.1 in
      (s.0, encoded_after bytes kind s.0 some k s.1, IsToken-encoded s.0 (take (raw_length bytes) bytes) s.1, s.2)

-- ---- one token after another

pub one_taken : (limit : ℕ) (taken bytes : List ℕ) (position next : ReadTotals) (state state' : Bounded) (n : ℕ) → 0 < position.pending → (l : LeadsAs (Some position) limit taken state []) → 0 < n
    → TakesOne l.0 l.1 bytes position state next state' n → TakesCommon limit taken bytes next state' n
one_taken limit taken bytes position next state state' n is_open l some takes =
    let m = takes.1 some in
    let r = token_is_read limit taken [] bytes l.0 l.1 position state l.2 is_open next state' m.2 in
    let e : next.taken - position.taken - 0 ≡ n = omega (arith, m.0) in
    (omega (arith, e, r.1), λ last. (some, m.1 last), subst (λ k. LeadsAs (Some next) limit (taken ++ take k bytes) state' []) e r.2)

pub one_more_taken : (limit : ℕ) (taken bytes : List ℕ) (position next : ReadTotals) (state state' : Bounded) (a n : ℕ) → 0 < position.pending → (t : TakesCommon limit taken bytes position state a) → 0 < n
    → TakesOne t.2.0 t.2.1 (take (length bytes - a) (drop a bytes)) position state next state' n → TakesCommon limit taken bytes next state' (a + n)
one_more_taken limit taken bytes position next state state' a n is_open t some takes =
    let rest = take (length bytes - a) (drop a bytes) in
    let r = one_taken limit (taken ++ take a bytes) rest position next state state' n is_open t.2 some takes in
    (omega (arith, r.0, t.0, length_rest bytes a), λ last. (omega (arith, some), (r.1 last).1), subst (λ xs. LeadsAs (Some next) limit xs state' []) (taken_on taken bytes a n) r.2)

-- If tokens are read from a prefix of the bytes, then the tokens are read from all of the bytes.
pub prefix_taken : (limit : ℕ) (taken bytes : List ℕ) (most : ℕ) (next : ReadTotals) (state : Bounded) (n : ℕ) → TakesCommon limit taken (take most bytes) next state n
    → TakesCommon limit taken bytes next state n
prefix_taken limit taken bytes most next state n t =
    let few = length-take most bytes in
    let same : take n (take most bytes) ≡ take n bytes = take-take n most bytes (omega (arith, t.0, few)) in
    (omega (arith, t.0, few), t.1, subst (λ xs. LeadsAs (Some next) limit (taken ++ xs) state []) same t.2)

-- ---- the result of a token by its kind and the bytes after its code

-- If a token's fields are sound and the totals advance by the token, then the token passes to the
-- new totals.
pub passes_from : (position next : ReadTotals) (code : ℕ) (kind : CodeKind) (rest : List ℕ) (len : ℕ) (measure : Option Measure) → len ≡ fixed_bytes kind + variable_bytes kind rest → len ≤ length rest → IsPlain kind
    → field_refusal (context_of position) code kind rest ≡ None → measure ≡ measure_after kind rest → Advances position (1 + len) measure next true → PassesTo position code kind rest next
passes_from position next code kind rest len measure l within plain sound m a =
    let n : 1 + len ≡ 1 + fixed_bytes kind + variable_bytes kind rest = omega arith in
    record {
      whole = omega arith;
      plain = plain;
      sound = sound;
      ends = a.0;
      next_is = subst₂ (λ (k : ℕ) (o : Option Measure). AreTotals next (moved (context_of position) k o)) n m a.1;
    }
