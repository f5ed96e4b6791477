-- The effect of a header, a token, or a part of a header or token on the consumed bytes
-- (`LeadsAs`).
use Rattle.std.proofs.Common.{ℕ, ◌≡◌, inl, inr, ◌+◌, ◌-◌, ◌<◌, ◌≤◌, List, [], ◌++◌, length, take, drop, Option, Some, None, Ok, Err, arith, refl, ap, sym, ◌∙◌, subst, append_assoc, append-nil, length-append, take_at, take_all, take-take, take-add}
use Rattle.std.proofs.Math.Seq.{take-append-add}
use Rattle.std.specs.List.{concat}
use Rattle.std.proofs.lemmas.Bool.{cases_lt}
use Rattle.std.proofs.lemmas.List.{length-take, length-drop, length-take-le, take-append-le, take-append-drop}
use Rattle.std.proofs.lemmas.List.Elements.{All-nil}
use Rattle.base_data.specs.declared.model.refusal.ReadRefusal.{ReadRefusal}
use Rattle.marshal_spec.specs.format.Raw.{raw_length, IsPart}
use Rattle.marshal_spec.specs.format.Token.{IsToken}
use Rattle.marshal_spec.specs.format.Header.{header_length}
use Rattle.marshal_spec.specs.format.Step.{Context, token_steps}
use Rattle.marshal_spec.specs.format.Prefix.{with_next, token_refusal, InHeader, IsRefused}
use Rattle.marshal_spec.proofs.format.RawLemmas.{raw_length-take}
use Rattle.marshal_spec.proofs.format.TokenStepLemmas.{header_length-from, header_length-take}
use Rattle.marshal_spec.proofs.format.FormatReadingLemmas.{concat-push, TokensPass-push}
use Rattle.marshal_spec.proofs.format.FormatNextLemmas.{next_passes, next_refused, header_refused, header_is_refused, header_goes_on, header_passes}
use Rattle.marshal_spec.proofs.format.FormatStandLemmas.{Stands, Stands-refused}
use Rattle.marshal_read.specs.declared.unread.Unread.{Unread}
use Rattle.marshal_read.specs.declared.unread.Unread.TheVariants.{NeedMore, Refused}
use Rattle.marshal_read.specs.declared.read_totals.ReadTotals.{ReadTotals}
use Rattle.marshal_read.specs.declared.reading.Reading.{Reading}
use Rattle.marshal_read.specs.JudgedHeader.{JudgedHeader}
use Rattle.marshal_read.specs.Build.{Bounded, start, in_room}
use Rattle.marshal_read.specs.Reading.{BuildsGraph, NextOf, UnlessMemory, RefusedIn}
use Rattle.marshal_read.specs.declared.chunks.Chunks.{Chunks}
use Rattle.marshal_read.specs.Chunks.{LeadsTokens, LeadsAs, LeadsChunks, IsWhole, NextRead}
use Rattle.marshal_read.proofs.ReaderHeadLemmas.{first_undecided}
use Rattle.marshal_read.proofs.ReaderNextLemmas.{context_after}
use Rattle.marshal_read.proofs.ReaderReadingLemmas.{unless_memory, refusal_is_read}

-- ---- a part and more bytes

take_joined : (part more : List ℕ) (n : ℕ) → length part ≤ n → take n (part ++ more) ≡ part ++ take (n - length part) more
take_joined part more n l =
    let e : n ≡ length part + (n - length part) = omega arith in
    ap (λ k. take k (part ++ more)) e ∙ take-append-add part more (n - length part)

-- A part of a token is shorter than each token that extends the part.
raw_grows : (part more : List ℕ) → IsPart part → length part < raw_length (part ++ more)
raw_grows part more p =
    elim (cases_lt (length part) (raw_length (part ++ more))) [
      | inl u ↦ u
      | inr g ↦
          let e : raw_length (take (length part) (part ++ more)) ≡ raw_length (part ++ more) = raw_length-take (length part) (part ++ more) g in
          let f : raw_length part ≡ raw_length (part ++ more) = sym (ap raw_length (take_at part more (length part) refl)) ∙ e in
          absurd (omega (arith, f, p))
    ]

-- A part of a header is shorter than each header that extends the part.
header_grows : (part more : List ℕ) → length part < header_length part → length part < header_length (part ++ more)
header_grows part more p =
    elim (cases_lt (length part) (header_length (part ++ more))) [
      | inl u ↦ u
      | inr g ↦
          let four : 4 ≤ length part = omega (arith, header_length-from (part ++ more)) in
          let e : header_length (take (length part) (part ++ more)) ≡ header_length (part ++ more) = header_length-take (length part) (part ++ more) four in
          let f : header_length part ≡ header_length (part ++ more) = sym (ap header_length (take_at part more (length part) refl)) ∙ e in
          absurd (omega (arith, f, p))
    ]

-- No step refuses the empty list as a part of a token.
nothing_refused : (header : List ℕ) (before : List (List ℕ)) → token_refusal header before [] ≡ None
unfolding token_steps
nothing_refused header before = refl

-- The empty list is a part of a header.
pub nothing_read : (limit : ℕ) → InHeader limit []
nothing_read limit = header_goes_on limit [] (first_undecided limit [] (omega arith)) (omega (arith, header_length-from []))

-- ---- refusals

-- If `P` implies `Q` and `P` holds unless memory ran out, then `Q` holds unless memory ran out.
UnlessMemory-map : (r : ReadRefusal) (P Q : Type 0) → (P → Q) → UnlessMemory r P → UnlessMemory r Q
UnlessMemory-map r P Q f h = (unless_memory r Q).0 (λ ne. elim ((unless_memory r P).1 h) [ inl e ↦ absurd (ne e) | inr p ↦ f p ])

pub refused_more : (limit : ℕ) (bytes more : List ℕ) (r : ReadRefusal) → RefusedIn limit bytes r → RefusedIn limit (bytes ++ more) r
refused_more limit bytes more r h =
    UnlessMemory-map r ((n : ℕ) × (n ≤ length bytes) × IsRefused limit (take n bytes) r) ((n : ℕ) × (n ≤ length (bytes ++ more)) × IsRefused limit (take n (bytes ++ more)) r)
    (λ x. (x.0, omega (arith, x.1, length-append bytes more), subst (λ xs. IsRefused limit xs r) (sym (take-append-le x.0 bytes more x.1)) x.2)) h

-- ---- the header

module _ (limit : ℕ) (taken part more : List ℕ) (state : Bounded) (h : LeadsAs None limit taken state part) where
  joined : taken ++ more ≡ part ++ more
  joined = ap (λ xs. xs ++ more) h.0

  pub header_stops : (new : Reading) (stop : Unread) → new.totals ≡ None → new.builder ≡ state → JudgedHeader limit (part ++ more) (Err stop) → NextRead limit taken part more new (Err stop)
  header_stops new NeedMore t b j =
      subst (λ (o : Option ReadTotals). LeadsAs o limit (taken ++ more) new.builder (part ++ more)) (sym t)
      (joined, header_goes_on limit (part ++ more) j.0 j.1, ap (λ (s : Bounded). s.built) b ∙ h.2)
  header_stops new (Refused r) t b j =
      subst (λ xs. RefusedIn limit xs r) (sym joined)
      (refusal_is_read limit (part ++ more) r (λ _. let x = header_refused limit (part ++ more) r j in (x.count, x.within, header_is_refused limit (part ++ more) r x)))

  pub header_is_read : (totals : ReadTotals) (new : Bounded) → new ≡ in_room state.built totals.head.w64 → JudgedHeader limit (part ++ more) (Ok totals)
      → (length part < totals.start) × (totals.start ≤ length part + length more) × LeadsAs (Some totals) limit (taken ++ take (totals.start - length part) more) new []
  header_is_read totals new b j =
      let n = header_length (part ++ more) in
      let header = take n (part ++ more) in
      let start_is : n ≡ totals.start = omega (arith, j.2.start, length-take-le n (part ++ more) j.1) in
      let long : length part < n = header_grows part more h.1.part in
      let room : new ≡ in_room start totals.head.w64 = b ∙ ap (λ s. in_room s totals.head.w64) h.2 in (
        omega (arith, start_is, long),
        omega (arith, start_is, j.1, length-append part more),
        (
          header,
          [],
          record {
            bytes_are =
                ap (λ xs. xs ++ take (totals.start - length part) more) h.0
                ∙ sym (take_joined part more totals.start (omega (arith, start_is, long)))
                ∙ ap (λ k. take k (part ++ more)) (sym start_is)
                ∙ sym (append-nil header);
            header_passes = header_passes limit (part ++ more) j.0 j.1;
            tokens_pass = tt;
            builds =
                subst (BuildsGraph header [] totals) (sym room)
                (record { tokens = []; sums = j.2; encodes = tt; are_tokens = All-nil IsToken; builds = refl; room = refl });
            is_part = omega arith;
            passes = nothing_refused header [];
            ends = λ _. refl;
          },
        ),
      )

-- ---- a token

module _ (limit : ℕ) (taken part more header : List ℕ) (before : List (List ℕ)) (totals : ReadTotals) (state : Bounded) (h : LeadsTokens limit taken header before totals state part) (is_open : 0 < totals.pending) where
  all_are : taken ++ more ≡ header ++ (concat before ++ (part ++ more))
  all_are =
      ap (λ xs. xs ++ more) h.bytes_are
      ∙ append_assoc header (concat before ++ part) more
      ∙ ap (λ xs. header ++ xs) (append_assoc (concat before) part more)

  stands : Stands limit (taken ++ more) header before (part ++ more)
  stands = record {
    bytes_are = all_are;
    header_passes = h.header_passes;
    tokens_pass = h.tokens_pass;
    is_open = omega (arith, h.builds.sums.pending);
  }

  pub token_stops : (new : Reading) (stop : Unread) → new.totals ≡ Some totals → (stop ≡ NeedMore → new.builder ≡ state)
      → NextOf header before (part ++ more) new.builder (Err stop) → NextRead limit taken part more new (Err stop)
  token_stops new NeedMore t b n =
      subst (λ (o : Option ReadTotals). LeadsAs o limit (taken ++ more) new.builder (part ++ more)) (sym t) (
        header,
        before,
        record {
          bytes_are = all_are;
          header_passes = h.header_passes;
          tokens_pass = h.tokens_pass;
          builds = subst (BuildsGraph header before totals) (sym (b refl)) h.builds;
          is_part = n.1;
          passes = n.0;
          ends = λ e. absurd (omega (arith, e));
        },
      )
  token_stops new (Refused r) t b n =
      refusal_is_read limit (taken ++ more) r (λ ne.
      let x = next_refused header before (part ++ more) r (n ne) in
      let refused = Stands-refused limit (taken ++ more) header before (part ++ more) r stands x in
      (length header + (length (concat before) + x.count), refused.0, refused.1))

  pub token_taken : (next : ReadTotals) (new : Bounded) → NextOf header before (part ++ more) new (Ok next) → next.taken ≡ totals.taken + raw_length (part ++ more)
  token_taken next new n =
      let e = ap (λ (c : Context). c.taken) (context_after header before (part ++ more) stands.is_open n.1) in
      omega (arith, e, n.2.sums.taken, h.builds.sums.taken)

  pub token_is_read : (next : ReadTotals) (new : Bounded) → NextOf header before (part ++ more) new (Ok next)
      → (length part < next.taken - totals.taken) × (next.taken - totals.taken ≤ length part + length more)
      × LeadsAs (Some next) limit (taken ++ take (next.taken - totals.taken - length part) more) new []
  token_is_read next new n =
      let rest = part ++ more in
      let len : next.taken - totals.taken ≡ raw_length rest = omega (arith, token_taken next new n) in
      let long : length part < raw_length rest = raw_grows part more h.is_part in
      let k = next.taken - totals.taken - length part in
      let p = next_passes header before rest n.0 n.1 in (
        omega (arith, len, long),
        omega (arith, len, n.1, length-append part more),
        (
          header,
          with_next before rest,
          record {
            bytes_are =
                ap (λ xs. xs ++ take k more) h.bytes_are
                ∙ append_assoc header (concat before ++ part) (take k more)
                ∙ ap (λ xs. header ++ xs)
                (append_assoc (concat before) part (take k more)
                ∙ ap (λ xs. concat before ++ xs) (sym (take_joined part more (next.taken - totals.taken) (omega (arith, len, long))) ∙ ap (λ m. take m rest) len)
                ∙ sym (concat-push before (take (raw_length rest) rest))
                ∙ sym (append-nil (concat (with_next before rest))));
            header_passes = h.header_passes;
            tokens_pass = TokensPass-push header [] before (take (raw_length rest) rest) h.tokens_pass (record { open_before = stands.is_open; raw = p.raw; passes = p.passes });
            builds = n.2;
            is_part = omega arith;
            passes = nothing_refused header (with_next before rest);
            ends = λ _. refl;
          },
        ),
      )

-- ---- chunks

-- If bytes lead to `chunks` with the buffered part `part`, then the bytes lead to the builder of
-- `chunks` under its limit.
pub leads_at : (limit : ℕ) (taken : List ℕ) (chunks : Chunks) (part : List ℕ) → LeadsChunks limit taken chunks → chunks.part.items ≡ part
    → LeadsAs chunks.reading.totals chunks.reading.limit taken chunks.reading.builder part
leads_at limit taken chunks part h e =
    subst (λ (k : ℕ). LeadsAs chunks.reading.totals k taken chunks.reading.builder part) (sym h.0)
    (subst (λ (xs : List ℕ). LeadsAs chunks.reading.totals limit taken chunks.reading.builder xs) e h.1)

-- If the fast path read no token, then the bytes still lead to the state of `chunks`.
pub still_leads : (limit : ℕ) (taken rest : List ℕ) (chunks : Chunks) (new : Reading) (n : ℕ) → LeadsChunks limit taken chunks → chunks.part.items ≡ [] → new.limit ≡ chunks.reading.limit → n ≡ 0
    → ((bytes : List ℕ) → LeadsAs chunks.reading.totals chunks.reading.limit bytes chunks.reading.builder []
    → (n ≤ length rest) × LeadsAs new.totals chunks.reading.limit (bytes ++ take n rest) new.builder [])
    → LeadsAs new.totals new.limit taken new.builder []
still_leads limit taken rest chunks new n h none same zero takes =
    let t = (takes taken (leads_at limit taken chunks [] h none)).1 in
    let e : taken ++ take n rest ≡ taken = ap (λ k. taken ++ take k rest) zero ∙ append-nil taken in
    subst (λ (k : ℕ). LeadsAs new.totals k taken new.builder []) (sym same)
    (subst (λ xs. LeadsAs new.totals chunks.reading.limit xs new.builder []) e t)

-- Case: nothing was buffered before the next header or token.
pub next_taken_whole : (limit : ℕ) (taken rest : List ℕ) (len : ℕ) (new : Reading) → NextRead limit taken [] rest new (Ok len)
    → (0 < len) × (len ≤ length rest) × LeadsAs new.totals limit (taken ++ take len rest) new.builder []
next_taken_whole limit taken rest len new n =
    let e : len - 0 ≡ len = omega arith in
    (omega (arith, n.0), omega (arith, n.1), subst (λ k. LeadsAs new.totals limit (taken ++ take k rest) new.builder []) e n.2)

module _ (limit : ℕ) (taken part rest : List ℕ) (most : ℕ) (new : Reading) where
  -- Case: the buffered part and some of the new bytes make a complete header or token.
  pub joined_whole : (len : ℕ) → NextRead limit taken part (take most rest) new (Ok len)
      → (0 < len - length part) × (len - length part ≤ length rest) × LeadsAs new.totals limit (taken ++ take (len - length part) rest) new.builder []
  joined_whole len n =
      let k = len - length part in
      let few = length-take most rest in
      let same : take k (take most rest) ≡ take k rest = take-take k most rest (omega (arith, n.1, few)) in
      (omega (arith, n.0), omega (arith, n.1, few), subst (λ xs. LeadsAs new.totals limit (taken ++ xs) new.builder []) same n.2)

  -- Case: the buffered part and the new bytes do not make a complete header or token yet.
  pub joined_part : 0 < most → 0 < length rest → NextRead limit taken part (take most rest) new (Err NeedMore)
      → (0 < length (take most rest)) × (length (take most rest) ≤ length rest)
      × LeadsAs new.totals limit (taken ++ take (length (take most rest)) rest) new.builder (part ++ take most rest)
  joined_part some more n =
      let few = length-take most rest in
      let same : take (length (take most rest)) rest ≡ take most rest =
      ap (take (length (take most rest))) (sym (take-append-drop most rest)) ∙ take_at (take most rest) (drop most rest) (length (take most rest)) refl in
      (omega (arith, few), omega (arith, few), subst (λ xs. LeadsAs new.totals limit (taken ++ xs) new.builder (part ++ take most rest)) (sym same) n)

  pub joined_refused : (r : ReadRefusal) → RefusedIn limit (taken ++ take most rest) r → RefusedIn limit (taken ++ rest) r
  joined_refused r n =
      let same : (taken ++ take most rest) ++ drop most rest ≡ taken ++ rest =
      append_assoc taken (take most rest) (drop most rest) ∙ ap (λ xs. taken ++ xs) (take-append-drop most rest) in
      subst (λ xs. RefusedIn limit xs r) same (refused_more limit (taken ++ take most rest) (drop most rest) r n)

-- The slice of a chunk from an offset to the end is the chunk without its first bytes.
rest_is : (chunk : List ℕ) (a : ℕ) → take (length chunk - a) (drop a chunk) ≡ drop a chunk
rest_is chunk a = take_all (length chunk - a) (drop a chunk) (omega (arith, length-drop a chunk))

pub length_rest : (chunk : List ℕ) (a : ℕ) → length (take (length chunk - a) (drop a chunk)) ≡ length chunk - a
length_rest chunk a = ap length (rest_is chunk a) ∙ length-drop a chunk

-- If the first `a` bytes of a chunk are taken and the next `b` bytes are taken, then the first `a +
-- b` bytes are taken.
pub taken_on : (taken chunk : List ℕ) (a b : ℕ) → (taken ++ take a chunk) ++ take b (take (length chunk - a) (drop a chunk)) ≡ taken ++ take (a + b) chunk
taken_on taken chunk a b =
    ap (λ xs. (taken ++ take a chunk) ++ take b xs) (rest_is chunk a)
    ∙ append_assoc taken (take a chunk) (take b (drop a chunk))
    ∙ ap (λ xs. taken ++ xs) (sym (take-add a b chunk))

pub rest_on : (taken chunk : List ℕ) (a : ℕ) → (taken ++ take a chunk) ++ take (length chunk - a) (drop a chunk) ≡ taken ++ chunk
rest_on taken chunk a =
    ap (λ xs. (taken ++ take a chunk) ++ xs) (rest_is chunk a)
    ∙ append_assoc taken (take a chunk) (drop a chunk)
    ∙ ap (λ xs. taken ++ xs) (take-append-drop a chunk)

-- If the value is not complete, then a value is pending.
pub open_from : (o : Option ReadTotals) (totals : ReadTotals) → o ≡ Some totals → (IsWhole o → ⊥) → 0 < totals.pending
open_from o totals e open_is =
    let f : totals.pending ≡ 0 → ⊥ = subst (λ (x : Option ReadTotals). IsWhole x → ⊥) e open_is in
    elim (cases_lt 0 totals.pending) [ inl u ↦ u | inr g ↦ absurd (f (omega arith)) ]
