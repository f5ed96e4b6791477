-- The next token of a value.
use Rattle.std.proofs.Common.{ℕ, ◌≡◌, ◌+◌, ◌^◌, ◌<◌, ◌≤◌, List, [], ◌∷◌, ◌++◌, length, take, map, None, Result, Ok, Err, IsErr, arith, refl, ap, length-append, sym, ◌∙◌, subst}
use Rattle.std.specs.List.{concat}
use Rattle.std.proofs.lemmas.List.{map-append, length-take-le}
use Rattle.std.proofs.lemmas.List.Elements.{All-push}
use Rattle.base_data.specs.model.Bytes.{AreBytes}
use Rattle.marshal_spec.specs.format.Words.{sums_of, one_more, of_object, fields, objects, all_words64}
use Rattle.marshal_spec.specs.format.Raw.{raw_length, raw_measure}
use Rattle.marshal_spec.specs.format.Token.{Token, IsToken, Encodes}
use Rattle.marshal_spec.specs.format.Tree.{RefersBack}
use Rattle.marshal_spec.specs.format.Step.{Context, first_refusal, token_steps}
use Rattle.marshal_spec.specs.format.Prefix.{with_next, context, IsOpen}
use Rattle.marshal_spec.proofs.format.RawLemmas.{raw_measure-take}
use Rattle.marshal_spec.proofs.format.FormatNextLemmas.{next_passes}
use Rattle.base_data.proofs.model.Lists.{AllZip-push}
use Rattle.marshal_spec.proofs.format.FormatReadingLemmas.{concat-push}
use Rattle.marshal_spec.proofs.format.EncodeTokens.{EncodedThere-passes, sums_of-push}
use Rattle.marshal_spec.proofs.format.EncodeValues.{raw_measures-encoded, IsToken-encoded}
use Rattle.marshal_spec.proofs.format.FormatStandLemmas.{AreBytes-take}
use Rattle.marshal_read.specs.declared.read_totals.ReadTotals.{ReadTotals}
use Rattle.marshal_read.specs.declared.unread.Unread.{Unread}
use Rattle.marshal_read.specs.declared.unread.Unread.TheVariants.{NeedMore, Refused}
use Rattle.marshal_read.specs.Totals.{AreTotals, IsNext, after}
use Rattle.marshal_read.specs.Build.{Building, Bounded, start, absorb, absorb_in, Fits}
use Rattle.marshal_read.specs.Reading.{BuildsGraph, NextOf}
use Rattle.marshal_heap.specs.heap.Heap.{heap_words}
use Rattle.marshal_read.proofs.BuildLemmas.{length-from_start, absorb_all_push}
use Rattle.marshal_read.proofs.ReaderRoomLemmas.{heap_words-from_start}

-- ---- the totals after the next token

-- The context after the next token is the context of all tokens including the next token.
pub context_after : (header : List ℕ) (before : List (List ℕ)) (rest : List ℕ) → IsOpen before → raw_length rest ≤ length rest
    → after (context header before) rest ≡ context header (with_next before rest)
context_after header before rest is_open h =
    let chunk = take (raw_length rest) rest in
    let len : length (concat before) + raw_length rest ≡ length (concat (before ++ chunk ∷ [])) =
    sym (ap length (concat-push before chunk) ∙ length-append (concat before) chunk ∙ ap (λ n. length (concat before) + n) (length-take-le (raw_length rest) rest h)) in
    let measures : map raw_measure before ++ raw_measure rest ∷ [] ≡ map raw_measure (before ++ chunk ∷ []) =
    sym (map-append raw_measure before (chunk ∷ []) ∙ ap (λ m. map raw_measure before ++ m ∷ []) (raw_measure-take (raw_length rest) rest (omega arith))) in
    let all : one_more (sums_of (map raw_measure before)) (raw_measure rest) ≡ sums_of (map raw_measure (before ++ chunk ∷ [])) =
    sym (sums_of-push (map raw_measure before) (raw_measure rest) is_open) ∙ ap sums_of measures in
    λ i. record (context header before) { taken = len i; sums = all i }

-- The totals after the next token have consumed the bytes of the next token.
pub next_taken : (c : Context) (rest : List ℕ) (position next : ReadTotals) → AreTotals position c → AreTotals next (after c rest) → next.taken ≡ position.taken + raw_length rest
next_taken c rest position next s t = let e = s.taken in let f = t.taken in omega arith

-- The next token has fewer than 2 ^ 53 fields.
pub next_fields : (c : Context) (rest : List ℕ) (position next : ReadTotals) → AreTotals position c → AreTotals next (after c rest) → 0 < position.pending → next.pending < 2 ^ 53
    → of_object fields (raw_measure rest) < 2 ^ 53
next_fields c rest position next s t some few =
    let e = s.pending in
    let f = t.pending in
    omega arith

-- ---- the value of the next token

-- The graph under construction has as many objects as the tokens before made.
pub objects_built : (header : List ℕ) (before : List (List ℕ)) (position : ReadTotals) (state : Bounded) → BuildsGraph header before position state
    → length state.built.objects ≡ objects (map raw_measure before)
objects_built header before position state h =
    ap (λ (b : Building). length b.objects) h.builds ∙ length-from_start h.tokens h.are_tokens ∙ ap objects (sym (raw_measures-encoded h.tokens before h.encodes))

-- The objects of the graph have as many words on 64 bits as the tokens before.
pub words_built : (header : List ℕ) (before : List (List ℕ)) (position : ReadTotals) (state : Bounded) → BuildsGraph header before position state
    → heap_words state.built.objects ≡ all_words64 (map raw_measure before)
words_built header before position state h =
    ap (λ (b : Building). heap_words b.objects) h.builds ∙ heap_words-from_start h.tokens h.are_tokens ∙ ap all_words64 (sym (raw_measures-encoded h.tokens before h.encodes))

-- If the words after the next token are within the header's number, then the object of the next
-- token fits.
pub next_fits : (header : List ℕ) (before : List (List ℕ)) (position next : ReadTotals) (state : Bounded) (rest : List ℕ) → BuildsGraph header before position state
    → AreTotals next (after (context header before) rest) → next.w64 ≤ next.head.w64 → Fits state (raw_measure rest)
next_fits header before position next state rest h sums within =
    let words = words_built header before position state h in
    let same : next.head ≡ position.head = sym sums.head ∙ h.sums.head in
    let room : state.room ≡ next.head.w64 = h.room ∙ ap (λ x. x.w64) (sym same) in
    omega (arith, sums.w64)

-- If the next token is complete and not refused, then its bytes encode a token that refers back.
pub next_encoded : (header : List ℕ) (before : List (List ℕ)) (position : ReadTotals) (state : Bounded) (rest : List ℕ) → AreBytes rest → BuildsGraph header before position state
    → first_refusal (length rest) (token_steps (context header before) rest) ≡ None → raw_length rest ≤ length rest
    → (t : Token) × Encodes t (take (raw_length rest) rest) × RefersBack t (length state.built.objects)
next_encoded header before position state rest bytes h none whole =
    let p = next_passes header before rest none whole in
    let s = EncodedThere-passes header before (take (raw_length rest) rest) (AreBytes-take (raw_length rest) rest bytes) p.raw p.passes in
    (s.token, s.encodes, subst (RefersBack s.token) (sym (objects_built header before position state h)) s.refers_back)

-- If the next token is complete and not refused, then adding the token leads to the next state.
pub next_leads : (header : List ℕ) (before : List (List ℕ)) (position next : ReadTotals) (state state' : Bounded) (rest : List ℕ) → AreBytes rest → 0 < position.pending → BuildsGraph header before position state
    → first_refusal (length rest) (token_steps (context header before) rest) ≡ None → raw_length rest ≤ length rest → AreTotals next (after (context header before) rest)
    → ((t : Token) → Encodes t (take (raw_length rest) rest) → state' ≡ absorb_in state t)
    → BuildsGraph header (with_next before rest) next state'
next_leads header before position next state state' rest bytes some h none whole sums adds =
    let p = next_passes header before rest none whole in
    let s = EncodedThere-passes header before (take (raw_length rest) rest) (AreBytes-take (raw_length rest) rest bytes) p.raw p.passes in
    record {
      tokens = h.tokens ++ s.token ∷ [];
      sums = subst (AreTotals next) (context_after header before rest (omega (arith, h.sums.pending, some)) whole) sums;
      encodes = AllZip-push Encodes h.tokens before s.token (take (raw_length rest) rest) h.encodes s.encodes;
      are_tokens = All-push IsToken h.tokens s.token h.are_tokens (IsToken-encoded s.token (take (raw_length rest) rest) s.encodes);
      builds = ap (λ (b : Bounded). b.built) (adds s.token s.encodes) ∙ ap (λ b. absorb b s.token) h.builds ∙ sym (absorb_all_push start h.tokens s.token);
      room = ap (λ (b : Bounded). b.room) (adds s.token s.encodes) ∙ h.room ∙ ap (λ x. x.w64) (sym h.sums.head ∙ sums.head);
    }

-- ---- incomplete or refused tokens

pub nothing_left : (c : Context) (rest : List ℕ) → length rest ≡ 0 → (first_refusal (length rest) (token_steps c rest) ≡ None) × (length rest < raw_length rest)
unfolding token_steps
nothing_left c [] e = (refl, omega arith)
nothing_left c (b ∷ rest) e = absurd (omega arith)

pub judged_next : (header : List ℕ) (before : List (List ℕ)) (rest : List ℕ) (state : Bounded) (x : Result ReadTotals Unread) → IsErr x
    → IsNext (context header before) rest x → NextOf header before rest state x
judged_next header before rest state (Ok position) e j = cc
judged_next header before rest state (Err NeedMore) e j = j
judged_next header before rest state (Err (Refused r)) e j = λ _. j
