-- Bytes that the streaming check passed are a prefix of a value.
use Rattle.std.proofs.Common.{ℕ, ◌+◌, ◌<◌, ◌≤◌, ◌^◌, ◌≡◌, ◌∙◌, List, ◌++◌, length, take, drop, map, Option, sym, ap, subst, subst₂, arith}
use Rattle.std.specs.List.{concat}
use Rattle.std.proofs.lemmas.List.{append_assoc, length-append, length-take-le, take-append-drop}
use Rattle.base_data.specs.declared.model.header.Head.{Head}
use Rattle.base_data.specs.declared.model.code.Measure.{Measure}
use Rattle.marshal_spec.specs.format.Header.{head_of}
use Rattle.marshal_spec.specs.format.Words.{pending, sums_of}
use Rattle.marshal_spec.specs.format.Step.{Context}
use Rattle.marshal_spec.specs.format.Prefix.{IsPrefix}
use Rattle.marshal_spec.specs.format.Token.{Token, measure_of}
use Rattle.marshal_spec.proofs.format.EncodeValues.{raw_measures-encoded}
use Rattle.check_stream.specs.truncated.Truncated.{HasRoom, IsTruncated}
use Rattle.check_stream.specs.truncated.Laws.{IsUnderway}
use Rattle.check_stream.proofs.truncated.TruncatedPrefixLemmas.{underway_is_prefix}
use Rattle.check_stream.specs.theory.AskedNeeds.{values_in}
use Rattle.check_stream.proofs.theory.OnePassEndLemmas.{passed_many, passed_open}
use Rattle.check_stream.specs.mismatch_theory.PassedBut.{values_at}
use Rattle.check_stream.proofs.mismatch_theory.MismatchStatedLemmas.{passed_many as but_many, passed_open as but_open}
use Rattle.check_stream.specs.chunk_check.Laws.{HasRoomAt, PassingIsPrefix, PassingButIsPrefix}

-- The context after tokens of these measures.
abbrev position_at : Head → ℕ → ℕ → List (Option Measure) → Context
position_at head start taken ms = record { head = head; start = start; taken = taken; sums = sums_of ms }

-- ---- a header and the encodings of the tokens were read

bytes_are : (bytes : List ℕ) (n : ℕ) (header : List ℕ) (chunks : List (List ℕ)) → take n bytes ≡ header ++ concat chunks → bytes ≡ header ++ (concat chunks ++ drop n bytes)
bytes_are bytes n header chunks taken = sym (take-append-drop n bytes) ∙ ap (λ xs. xs ++ drop n bytes) taken ∙ append_assoc header (concat chunks) (drop n bytes)

taken_is : (bytes : List ℕ) (start n : ℕ) (header : List ℕ) (chunks : List (List ℕ)) → n ≤ length bytes → length header ≡ start → take n bytes ≡ header ++ concat chunks → n ≡ start + length (concat chunks)
taken_is bytes start n header chunks within begins taken =
    let prefix = length-take-le n bytes within in
    let both = length-append header (concat chunks) in
    let same = ap length taken in
    omega (arith, prefix, both, same, begins)

prefix_there :
    (limit : ℕ) (bytes : List ℕ) (head : Head) (start n : ℕ) (tokens : List Token) (header : List ℕ) (chunks : List (List ℕ)) (values long few32 few64 : ℕ) → IsUnderway limit bytes header chunks tokens (drop n bytes) → head_of header ≡ head
    → n ≡ start + length (concat chunks) → pending (map measure_of tokens) ≡ values → IsTruncated long few32 few64 (drop n bytes) → HasRoomAt head start n tokens values long few32 few64 → IsPrefix limit bytes
prefix_there limit bytes head start n tokens header chunks values long few32 few64 u head_is taken many truncated r =
    let o = r.open_before in
    let room' = r.room in
    let here : HasRoom (position_at head (length header) (length (concat chunks)) (map measure_of tokens)) long few32 few64 = record {
      open_before = omega (arith, o, many);
      room = omega (arith, room', many, taken);
      w32 = r.w32;
      w64 = r.w64;
    } in
    underway_is_prefix limit bytes header chunks tokens (drop n bytes) long few32 few64 u truncated
    (subst₂ (λ (h : Head) (ms : List (Option Measure)). HasRoom (position_at h (length header) (length (concat chunks)) ms) long few32 few64) (sym head_is) (sym (raw_measures-encoded tokens chunks u.encodes)) here)

-- ---- the laws

pub passing_is_prefix : PassingIsPrefix
passing_is_prefix noted table limit bytes head start n tokens types needs long few32 few64 p truncated room =
    prefix_there limit bytes head start n tokens p.header p.chunks (values_in needs) long few32 few64
    (record {
      bytes_are = bytes_are bytes n p.header p.chunks p.taken;
      is_header = p.is_header;
      words = subst (λ (h : Head). h.w64 ≤ limit) (sym p.head_is) p.words;
      small = subst (λ (h : Head). h.length < 2 ^ 48) (sym p.head_is) p.small;
      encodes = p.encodes;
      open_before = passed_open noted table tokens types needs p.passed;
      refer_back = p.refer_back;
      unshared = λ none. p.unshared (ap (λ (h : Head). h.objects) (sym p.head_is) ∙ none);
    })
    p.head_is (taken_is bytes start n p.header p.chunks p.within p.begins p.taken) (passed_many noted table tokens types needs p.passed) truncated room

pub passing_but_is_prefix : PassingButIsPrefix
passing_but_is_prefix back table limit bytes head start n tokens made positions missed long few32 few64 p truncated room =
    prefix_there limit bytes head start n tokens p.header p.chunks (values_at positions) long few32 few64
    (record {
      bytes_are = bytes_are bytes n p.header p.chunks p.taken;
      is_header = p.is_header;
      words = subst (λ (h : Head). h.w64 ≤ limit) (sym p.head_is) p.words;
      small = subst (λ (h : Head). h.length < 2 ^ 48) (sym p.head_is) p.small;
      encodes = p.encodes;
      open_before = but_open back table tokens made positions missed p.passed;
      refer_back = p.refer_back;
      unshared = λ none. p.unshared (ap (λ (h : Head). h.objects) (sym p.head_is) ∙ none);
    })
    p.head_is (taken_is bytes start n p.header p.chunks p.within p.begins p.taken) (but_many back table tokens made positions missed p.passed) truncated room
