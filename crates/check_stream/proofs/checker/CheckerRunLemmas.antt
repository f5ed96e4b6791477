-- From the header through the tokens to the end.
use Rattle.std.proofs.Common.{ℕ, ◌+◌, ◌-◌, ◌^◌, ◌≤◌, ◌≡◌, ◌∙◌, ◌⊎◌, ⊎_elim, Bool, true, false, inl, inr, List, [], ◌∷◌, ◌++◌, length, take, drop, map, refl, sym, ap, subst, subst₂, arith, take-add, ◌<◌}
use Rattle.std.specs.Prelude.{if◌then◌else◌, ◌==◌, Contains}
use Rattle.std.proofs.lemmas.List.Elements.{Contains-append_left, Contains-append_right, Contains-append_cases}
use Rattle.base_data.proofs.model.Options.{Contains-first, Contains-none, Contains-cases}
use Rattle.std.proofs.lemmas.List.{length-take-le, length-append, length-drop, drop-drop, map-append, append-nil, take-append-le}
use Rattle.std.specs.List.{concat}
use Rattle.std.proofs.lemmas.List.Sums.{sum_by_push}
use Rattle.base_data.specs.declared.model.header.Head.{Head}
use Rattle.types_spec.specs.types.Table.{Table, table_shapes}
use Rattle.types_spec.specs.types.LawfulShapes.{AreLawful, Everything}
use Rattle.marshal_spec.specs.format.Words.{of_object, words32, words64, all_words32, all_words64}
use Rattle.marshal_spec.specs.format.Header.{magic, small_magic, big_magic, header_length, head_of, big_head, small_head}
use Rattle.marshal_spec.specs.format.Token.{Token, shared, measure_of}
use Rattle.marshal_spec.specs.format.Encoded.{StatesWords32}
use Rattle.marshal_spec.proofs.format.TokenStepLemmas.{magic-take, header_length-take, header_length-from, head_of-take}
use Rattle.check_stream.specs.theory.AskedNeeds.{Need, of_type, type_in, IsBackAt}
use Rattle.check_stream.specs.theory.Noted.{IsFlatNoted}
use Rattle.check_stream.specs.theory.OnePass.{IsPassing, IsTypedPrefix}
use Rattle.check_stream.proofs.theory.GrowLemmas.{passing_start, passing_further}
use Rattle.check_stream.proofs.theory.LawLemmas.{noted_passes_type_prefixes}
use Rattle.check_stream.proofs.theory.OnePassWeakerLemmas.{asks_weaker}
use Rattle.check_stream.proofs.theory.OnePassNotedLemmas.{noted_more, passing_more}
use Rattle.check_stream.proofs.checker.CheckerChunkLemmas.{rest_from}
use Rattle.check_stream.proofs.checker.AgainLemmas.{marks_more, marks_push, no_marks}
use Rattle.check_stream.specs.checker.Again.{AreMarks, IsReference, IsKnown}
use Rattle.check_stream.specs.declared.checker.stated_words.Words.{Words}
use Rattle.check_stream.specs.declared.checker.check_state.CheckState.{CheckState}
use Rattle.check_stream.specs.checker.CheckerState.{IsLeft, types_in, needs_in, stated32, TookPrefix, TookFirst, TookTurn, BeginsAs, AreNoted, LeadsPass, IsMarked, IsSpent}

pub words32_push : (tokens : List Token) (token : Token) → all_words32 (map measure_of (tokens ++ token ∷ [])) ≡ all_words32 (map measure_of tokens) + of_object words32 (measure_of token)
words32_push tokens token = ap all_words32 (map-append measure_of tokens (token ∷ [])) ∙ sum_by_push (of_object words32) (map measure_of tokens) (measure_of token)

pub words64_push : (tokens : List Token) (token : Token) → all_words64 (map measure_of (tokens ++ token ∷ [])) ≡ all_words64 (map measure_of tokens) + of_object words64 (measure_of token)
words64_push tokens token = ap all_words64 (map-append measure_of tokens (token ∷ [])) ∙ sum_by_push (of_object words64) (map measure_of tokens) (measure_of token)

-- ---- the header

start_by : (b : Bool) (bytes : List ℕ) → ◌≡◌ {A = ℕ} (if (if b then big_head bytes else small_head bytes).big then 32 else 20) (if b then 32 else 20)
start_by true bytes = refl
start_by false bytes = refl

pub start_is : (bytes : List ℕ) → ◌≡◌ {A = ℕ} (if (head_of bytes).big then 32 else 20) (header_length bytes)
unfolding head_of
start_is bytes = start_by (magic bytes == big_magic) bytes

leads_start :
    (table : Table) (limit : ℕ) (bytes : List ℕ) (head : Head) (start : ℕ) (state : CheckState) → BeginsAs limit bytes head → start ≡ header_length bytes → types_in state ≡ [] → needs_in state ≡ of_type 0 ∷ []
    → state.words.w32 ≡ stated32 head → state.words.w64 ≡ head.w64 → LeadsPass table limit bytes head start start [] [] state
leads_start table limit bytes head start state b start' none root w32 w64 =
    let from = header_length-from bytes in
    let within' : start ≤ length bytes = let whole = b.whole in omega (arith, start', whole) in
    let long : length (take start bytes) ≡ start = length-take-le start bytes within' in
    let same_magic : magic (take start bytes) ≡ magic bytes = magic-take start bytes (let least = from.0 in omega (arith, least, start')) in
    let same_length : header_length (take start bytes) ≡ header_length bytes = header_length-take start bytes (let least = from.0 in omega (arith, least, start')) in
    let same_head : head_of (take start bytes) ≡ head = head_of-take start bytes (omega (arith, start')) ∙ sym b.head_is in
    record {
      tokens = [];
      noted = [];
      passing = subst₂ (IsPassing [] table limit bytes head start start []) (sym none) (sym root)
          (passing_start [] table limit bytes head start within' (record { magic_is = subst (λ m. (m ≡ small_magic) ⊎ (m ≡ big_magic)) (sym same_magic) b.magic_is; whole = long ∙ start' ∙ sym same_length }) same_head long b.words b.small);
      w32 = omega (arith, w32);
      w64 = omega (arith, w64);
      are_noted = λ o t among. absurd (Contains-none {X = ℕ × ℕ} (o, t) among);
      are_marks = no_marks (take start bytes) [];
      are_known = λ o t among. absurd (Contains-none {X = ℕ × ℕ} (o, t) among);
    }

-- ---- a mark

pub leads_marked :
    (table : Table) (limit : ℕ) (bytes : List ℕ) (head : Head) (start n : ℕ) (marks after : List ℕ) (notes : List (ℕ × ℕ)) (state : CheckState) → IsMarked marks n (length (types_in state)) after → LeadsPass table limit bytes head start n marks notes state
    → LeadsPass table limit bytes head start n after notes state
leads_marked table limit bytes head start n marks after notes state is l =
    let p = l.passing in
    record {
      tokens = l.tokens;
      noted = l.noted;
      passing = l.passing;
      w32 = l.w32;
      w64 = l.w64;
      are_noted = l.are_noted;
      are_marks = ⊎_elim
          (λ same. subst (λ ms. AreMarks (take n bytes) ms l.tokens) (sym same) l.are_marks)
          (λ more. subst (λ ms. AreMarks (take n bytes) ms l.tokens) (sym more.1) (marks_push (take n bytes) marks l.tokens n (sym (length-take-le n bytes p.within)) (p.made ∙ more.0) l.are_marks))
          is;
      are_known = l.are_known;
    }

-- The state before the first token, whose offset is marked, satisfies the invariant.
pub leads_begun :
    (table : Table) (limit : ℕ) (bytes : List ℕ) (head : Head) (start : ℕ) (state : CheckState) → BeginsAs limit bytes head → start ≡ header_length bytes → types_in state ≡ [] → needs_in state ≡ of_type 0 ∷ []
    → state.words.w32 ≡ stated32 head → state.words.w64 ≡ head.w64 → LeadsPass table limit bytes head start start (start ∷ []) [] state
leads_begun table limit bytes head start state b start' none root w32 w64 =
    leads_marked table limit bytes head start start [] (start ∷ []) [] state (inr (ap (length {A = ℕ}) none, refl)) (leads_start table limit bytes head start state b start' none root w32 w64)

-- ---- one more token

noted_further : (table : Table) (types later : List ℕ) (noted : List (ℕ × ℕ)) (tokens more : List Token) → AreNoted table types noted tokens → AreNoted table (types ++ later) noted (tokens ++ more)
noted_further table types later noted tokens more are o t among =
    let one = are o t among in
    let long = length-append types later in
    (let here = one.0 in omega (arith, here, long), noted_more table noted noted (λ o t kept. kept) types later tokens more o t one.0 one.1)

pub leads_further :
    (table : Table) (limit : ℕ) (bytes : List ℕ) (head : Head) (start n m : ℕ) (marks : List ℕ) (notes : List (ℕ × ℕ)) (first middle last : CheckState) (need : Need) → LeadsPass table limit bytes head start n marks notes first
    → types_in middle ≡ types_in first → needs_in first ≡ need ∷ needs_in middle → middle.words ≡ first.words → TookPrefix table head.objects middle last need (drop n bytes) m
    → LeadsPass table limit bytes head start (n + m) marks notes last
leads_further table limit bytes head start n m marks notes first middle last need l types needs words prefix =
    let t = prefix.took in
    let token = prefix.token in
    let p : IsPassing l.noted table limit bytes head start n l.tokens (types_in middle) (need ∷ needs_in middle) = subst₂ (IsPassing l.noted table limit bytes head start n l.tokens) (sym types) needs l.passing in
    let within' : n + m ≤ length bytes = let here = p.within in let there = prefix.within in let left = length-drop n bytes in omega (arith, here, there, left) in
    let asks = asks_weaker table [] l.noted (λ o u among. absurd (Contains-none {X = ℕ × ℕ} (o, u) among)) (types_in middle) need token t.next t.asks in
    let further = passing_further l.noted table limit bytes head start n l.tokens (types_in middle) need (needs_in middle) p token t.next m asks within' prefix.encodes prefix.there.back prefix.there.unshared in
    record {
      tokens = l.tokens ++ token ∷ [];
      noted = l.noted;
      passing = subst₂ (IsPassing l.noted table limit bytes head start (n + m) (l.tokens ++ token ∷ [])) (sym t.types) (sym t.needs) further;
      w32 = let one = t.w32 in let before = l.w32 in let same = ap (λ (w : Words). w.w32) words in let both = words32_push l.tokens token in omega (arith, one, before, same, both);
      w64 = let one = t.w64 in let before = l.w64 in let same = ap (λ (w : Words). w.w64) words in let both = words64_push l.tokens token in omega (arith, one, before, same, both);
      are_noted = subst (λ ts. AreNoted table ts l.noted (l.tokens ++ token ∷ [])) (sym t.types)
          (noted_further table (types_in middle) (type_in need token) l.noted l.tokens (token ∷ []) (subst (λ ts. AreNoted table ts l.noted l.tokens) (sym types) l.are_noted));
      are_marks = subst (λ prefix'. AreMarks prefix' marks (l.tokens ++ token ∷ [])) (sym (take-add n m bytes)) (marks_more (take n bytes) (take m (drop n bytes)) marks l.tokens token prefix.encodes l.are_marks);
      are_known = l.are_known;
    }

pub leads_first :
    (table : Table) (limit : ℕ) (bytes : List ℕ) (head : Head) (start n m : ℕ) (marks : List ℕ) (notes : List (ℕ × ℕ)) (first last : CheckState) → LeadsPass table limit bytes head start n marks notes first
    → TookFirst table head.objects first last (drop n bytes) m → LeadsPass table limit bytes head start (n + m) marks notes last
leads_first table limit bytes head start n m marks notes first last l t =
    leads_further table limit bytes head start n m marks notes first t.middle last t.need l t.types t.needs t.words t.took

-- If the types, the open requirements and the words are equal, then the bytes lead to the second
-- state.
pub leads_same :
    (table : Table) (limit : ℕ) (bytes : List ℕ) (head : Head) (start n : ℕ) (marks : List ℕ) (notes : List (ℕ × ℕ)) (first last : CheckState) → LeadsPass table limit bytes head start n marks notes first
    → types_in last ≡ types_in first → needs_in last ≡ needs_in first → last.words ≡ first.words → LeadsPass table limit bytes head start n marks notes last
leads_same table limit bytes head start n marks notes first last l types needs words =
    record {
      tokens = l.tokens;
      noted = l.noted;
      passing = subst₂ (IsPassing l.noted table limit bytes head start n l.tokens) (sym types) (sym needs) l.passing;
      w32 = subst (λ (w : Words). w.w32 + all_words32 (map measure_of l.tokens) ≡ stated32 head) (sym words) l.w32;
      w64 = subst (λ (w : Words). w.w64 + all_words64 (map measure_of l.tokens) ≡ head.w64) (sym words) l.w64;
      are_noted = subst (λ ts. AreNoted table ts l.noted l.tokens) (sym types) l.are_noted;
      are_marks = l.are_marks;
      are_known = l.are_known;
    }

-- ---- the remaining bytes

-- If `n` more bytes were read, then the bytes before the remaining bytes lead to the state.
pub left_further :
    (table : Table) (limit : ℕ) (bytes : List ℕ) (head : Head) (start n : ℕ) (marks : List ℕ) (notes : List (ℕ × ℕ)) (state : CheckState) (rest : List ℕ) → rest ≡ drop (length bytes - length rest) bytes
    → LeadsPass table limit bytes head start (length bytes - length rest + n) marks notes state → IsLeft table limit bytes head start marks notes state (take (length rest - n) (drop n rest))
left_further table limit bytes head start n marks notes state rest same l =
    let p = l.passing in
    let within' = p.within in
    let further = rest_from n rest ∙ ap (drop n) same ∙ drop-drop n (length bytes - length rest) bytes in
    let long = ap length further ∙ length-drop (length bytes - length rest + n) bytes in
    let there : length bytes - length (take (length rest - n) (drop n rest)) ≡ length bytes - length rest + n = omega (arith, within', long) in
    record {
      rest_is = further ∙ ap (λ k. drop k bytes) (sym there);
      short = omega (arith, long);
      leads = subst (λ k. LeadsPass table limit bytes head start k marks notes state) (sym there) l;
    }

-- ---- one more reference

-- If a reference to a noted object is read, then the bytes after the reference lead to the state
-- with the note.
leads_noted :
    (table : Table) (limit : ℕ) (bytes : List ℕ) (head : Head) (start n m : ℕ) (marks : List ℕ) (notes after : List (ℕ × ℕ)) (first middle : CheckState) (t offset : ℕ) → (l : LeadsPass table limit bytes head start n marks notes first)
    → types_in middle ≡ types_in first → needs_in first ≡ of_type t ∷ needs_in middle → middle.words ≡ first.words → 0 < head.objects → IsReference (drop n bytes) offset m
    → (1 ≤ offset) × (offset ≤ length (types_in middle))
    → (more : List (ℕ × ℕ)) → ((o u : ℕ) → Contains l.noted (o, u) → Contains more (o, u)) → IsBackAt more table (types_in middle) t offset → AreNoted table (types_in middle) more (l.tokens ++ shared offset ∷ [])
    → ((o u : ℕ) → Contains after (o, u) → Contains more (o, u))
    → LeadsPass table limit bytes head start (n + m) marks after middle
leads_noted table limit bytes head start n m marks notes after first middle t offset l types needs words some r back more kept is_back are known =
    let token = shared offset in
    let p : IsPassing l.noted table limit bytes head start n l.tokens (types_in middle) (of_type t ∷ needs_in middle) = subst₂ (IsPassing l.noted table limit bytes head start n l.tokens) (sym types) needs l.passing in
    let p' = passing_more table l.noted more kept limit bytes head start n l.tokens (types_in middle) (of_type t ∷ needs_in middle) p in
    let within' : n + m ≤ length bytes = let here = p.within in let there = r.within in let left = length-drop n bytes in omega (arith, here, there, left) in
    let further = passing_further more table limit bytes head start n l.tokens (types_in middle) (of_type t) (needs_in middle) p' token [] m (is_back, refl) within' r.encodes back (λ none. absurd (omega (arith, some, none))) in
    record {
      tokens = l.tokens ++ token ∷ [];
      noted = more;
      passing = subst (λ ts. IsPassing more table limit bytes head start (n + m) (l.tokens ++ token ∷ []) ts (needs_in middle)) (append-nil (types_in middle)) further;
      w32 = let before = l.w32 in let same = ap (λ (w : Words). w.w32) words in let both = words32_push l.tokens token in omega (arith, before, same, both);
      w64 = let before = l.w64 in let same = ap (λ (w : Words). w.w64) words in let both = words64_push l.tokens token in omega (arith, before, same, both);
      are_noted = are;
      are_marks = subst (λ prefix'. AreMarks prefix' marks (l.tokens ++ token ∷ [])) (sym (take-add n m bytes)) (marks_more (take n bytes) (take m (drop n bytes)) marks l.tokens token r.encodes l.are_marks);
      are_known = known;
    }

-- If a valid note is added, then the recorded second types stay valid.
noted_also :
    (table : Table) (types : List ℕ) (noted : List (ℕ × ℕ)) (o t : ℕ) (tokens more : List Token) → o < length types → AreNoted table types noted tokens → IsFlatNoted table types [] tokens o t
    → AreNoted table types (noted ++ (o, t) ∷ []) (tokens ++ more)
noted_also table types noted o t tokens more within are flat p u among =
    let all : types ++ [] ≡ types = append-nil types in
    ⊎_elim
    (λ first. let one = are p u first in
    (one.0, subst (λ ts. IsFlatNoted table ts (noted ++ (o, t) ∷ []) (tokens ++ more) p u) all (noted_more table noted (noted ++ (o, t) ∷ []) (λ q v kept. Contains-append_left noted ((o, t) ∷ []) (q, v) kept) types [] tokens more p u one.0 one.1)))
    (λ last.
    let same : ◌≡◌ {A = ℕ × ℕ} (o, t) (p, u) = ⊎_elim (λ is. is) (λ later. absurd (Contains-none {X = ℕ × ℕ} (p, u) later)) (Contains-cases {X = ℕ × ℕ} (o, t) [] (p, u) last) in
    subst (λ (q : ℕ × ℕ). (q.0 < length types) × IsFlatNoted table types (noted ++ (o, t) ∷ []) (tokens ++ more) q.0 q.1) same
    (within, subst (λ ts. IsFlatNoted table ts (noted ++ (o, t) ∷ []) (tokens ++ more) o t) all (noted_more table [] (noted ++ (o, t) ∷ []) (λ q v kept. absurd (Contains-none {X = ℕ × ℕ} (q, v) kept)) types [] tokens more o t within flat)))
    (Contains-append_cases noted ((o, t) ∷ []) (p, u) among)

-- If a reference leads to an object whose note is already recorded, then the bytes after the
-- reference lead to the state.
leads_back :
    (table : Table) (limit : ℕ) (bytes : List ℕ) (head : Head) (start n m : ℕ) (marks : List ℕ) (notes : List (ℕ × ℕ)) (first middle : CheckState) (t offset : ℕ) → (l : LeadsPass table limit bytes head start n marks notes first)
    → types_in middle ≡ types_in first → needs_in first ≡ of_type t ∷ needs_in middle → middle.words ≡ first.words → 0 < head.objects → IsReference (drop n bytes) offset m
    → (1 ≤ offset) × (offset ≤ length (types_in middle)) → IsBackAt l.noted table (types_in middle) t offset
    → LeadsPass table limit bytes head start (n + m) marks notes middle
leads_back table limit bytes head start n m marks notes first middle t offset l types needs words some r back is_back =
    let are = noted_further table (types_in middle) [] l.noted l.tokens (shared offset ∷ []) (subst (λ ts. AreNoted table ts l.noted l.tokens) (sym types) l.are_noted) in
    leads_noted table limit bytes head start n m marks notes notes first middle t offset l types needs words some r back l.noted (λ o u kept. kept) is_back
    (subst (λ ts. AreNoted table ts l.noted (l.tokens ++ shared offset ∷ [])) (append-nil (types_in middle)) are)
    l.are_known

leads_known :
    (table : Table) (limit : ℕ) (bytes : List ℕ) (head : Head) (start n m : ℕ) (marks : List ℕ) (notes after : List (ℕ × ℕ)) (first middle : CheckState) (t offset : ℕ) → LeadsPass table limit bytes head start n marks notes first
    → types_in middle ≡ types_in first → needs_in first ≡ of_type t ∷ needs_in middle → middle.words ≡ first.words → 0 < head.objects → IsReference (drop n bytes) offset m
    → IsKnown table (types_in middle) (take n bytes) marks notes after t offset
    → LeadsPass table limit bytes head start (n + m) marks after middle
leads_known table limit bytes head start n m marks notes after first middle t offset l types needs words some r (inl back) =
    let none : (o u : ℕ) → Contains [] (o, u) → Contains l.noted (o, u) = λ o u among. absurd (Contains-none {X = ℕ × ℕ} (o, u) among) in
    let asks = asks_weaker table [] l.noted none (types_in middle) (of_type t) (shared offset) [] (back.2, refl) in
    subst (λ ns. LeadsPass table limit bytes head start (n + m) marks ns middle) (sym back.3)
    (leads_back table limit bytes head start n m marks notes first middle t offset l types needs words some r (back.0, back.1) asks.0)
leads_known table limit bytes head start n m marks notes after first middle t offset l types needs words some r (inr (inl back)) =
    let o : ℕ = length (types_in middle) - offset in
    subst (λ ns. LeadsPass table limit bytes head start (n + m) marks ns middle) (sym back.3)
    (leads_back table limit bytes head start n m marks notes first middle t offset l types needs words some r (back.0, back.1)
    (inr record { some = back.0; few = back.1; type = t; at = inr (l.are_known o t back.2); equal = refl }))
leads_known table limit bytes head start n m marks notes after first middle t offset l types needs words some r (inr (inr known)) =
    let o : ℕ = length (types_in middle) - offset in
    let least = known.0 in
    let few = known.1 in
    let more = l.noted ++ (o, t) ∷ [] in
    let last : Contains more (o, t) = Contains-append_right l.noted ((o, t) ∷ []) (o, t) (Contains-first {X = ℕ × ℕ} (o, t) []) in
    leads_noted table limit bytes head start n m marks notes after first middle t offset l types needs words some r (least, few) more (λ p u kept. Contains-append_left l.noted ((o, t) ∷ []) (p, u) kept)
    (inr record { some = least; few = few; type = t; at = inr last; equal = refl })
    (noted_also table (types_in middle) l.noted o t l.tokens (shared offset ∷ []) (omega (arith, least, few)) (subst (λ ts. AreNoted table ts l.noted l.tokens) (sym types) l.are_noted) (known.3 l.tokens l.are_marks))
    (λ p u among.
    ⊎_elim
    (λ before. Contains-append_left l.noted ((o, t) ∷ []) (p, u) (l.are_known p u before))
    (λ same. subst (λ (q : ℕ × ℕ). Contains more q) same last)
    (known.2 p u among))

pub leads_turn :
    (table : Table) (limit : ℕ) (bytes : List ℕ) (head : Head) (start n m : ℕ) (marks : List ℕ) (notes after : List (ℕ × ℕ)) (first middle last : CheckState) (need : Need) → LeadsPass table limit bytes head start n marks notes first
    → types_in middle ≡ types_in first → needs_in first ≡ need ∷ needs_in middle → middle.words ≡ first.words → TookTurn table head.objects middle last need bytes marks notes after n m
    → LeadsPass table limit bytes head start (n + m) marks after last
leads_turn table limit bytes head start n m marks notes after first middle last need l types needs words (inl prefix) =
    subst (λ ns. LeadsPass table limit bytes head start (n + m) marks ns last) (sym prefix.0)
    (leads_further table limit bytes head start n m marks notes first middle last need l types needs words prefix.1)
leads_turn table limit bytes head start n m marks notes after first middle last need l types needs words (inr back) =
    let b = back.1 in
    subst (LeadsPass table limit bytes head start (n + m) marks after) (sym back.0)
    (leads_known table limit bytes head start n m marks notes after first middle b.type b.offset l types (subst (λ u. needs_in first ≡ u ∷ needs_in middle) b.is_asked needs) words b.some b.reference b.known)

-- The bytes that lead to a state contain the header.
pub leads_from : (table : Table) (limit : ℕ) (bytes : List ℕ) (head : Head) (start n : ℕ) (marks : List ℕ) (notes : List (ℕ × ℕ)) (state : CheckState) → LeadsPass table limit bytes head start n marks notes state → start ≤ n
leads_from table limit bytes head start n marks notes state l =
    let p = l.passing in
    let prefix = length-take-le n bytes p.within in
    let both = length-append p.header (concat p.chunks) in
    let same = ap length p.taken in
    let begins = p.begins in
    omega (arith, prefix, both, same, begins)

-- The offset of the first token.
pub start_from : (limit : ℕ) (bytes : List ℕ) (head : Head) (n : ℕ) → BeginsAs limit bytes head → ((head.big ≡ true) × (n ≡ 32)) ⊎ ((head.big ≡ false) × (n ≡ 20)) → n ≡ header_length bytes
start_from limit bytes head n b is =
    let same : ◌≡◌ {A = ℕ} (if head.big then 32 else 20) (header_length bytes) = ap (λ (h : Head). let k : ℕ = (if h.big then 32 else 20) in k) b.head_is ∙ start_is bytes in
    ⊎_elim
    (λ yes'. yes'.1 ∙ ap (λ big. let k : ℕ = (if big then 32 else 20) in k) (sym yes'.0) ∙ same)
    (λ no'. no'.1 ∙ ap (λ big. let k : ℕ = (if big then 32 else 20) in k) (sym no'.0) ∙ same)
    is

-- ---- the end

pub words32_stated : (head : Head) (tokens : List Token) (left : ℕ) (big : Bool) → head.big ≡ big → left + all_words32 (map measure_of tokens) ≡ (if big then 2 ^ 64 - 1 else head.w32) → (big ≡ false → left ≡ 0)
    → StatesWords32 big head.w32 (all_words32 (map measure_of tokens))
words32_stated head tokens left true is sum none = tt
words32_stated head tokens left false is sum none = let zero' = none refl in omega (arith, sum, zero')

pub leads_end :
    (table : Table) (limit : ℕ) (bytes : List ℕ) (head : Head) (start n : ℕ) (marks : List ℕ) (notes : List (ℕ × ℕ)) (state : CheckState) → AreLawful (table_shapes table) Everything → LeadsPass table limit bytes head start n marks notes state
    → needs_in state ≡ [] → IsSpent head start n state.words (length (types_in state)) → IsTypedPrefix table limit n bytes
leads_end table limit bytes head start n marks notes state lawful l none spent =
    noted_passes_type_prefixes l.noted table limit bytes head start n l.tokens (types_in state) lawful
    (subst (IsPassing l.noted table limit bytes head start n l.tokens (types_in state)) none l.passing)
    (record {
      whole = spent.whole;
      w32 = words32_stated head l.tokens state.words.w32 head.big refl l.w32 spent.w32;
      w64 = let sum = l.w64 in let zero' = spent.w64 in omega (arith, sum, zero');
      count = spent.count;
    })
    (λ o t among. (l.are_noted o t among).1)

-- ---- a truncated token

-- If the first open position was taken and is opened again, then the bytes lead to the state.
pub leads_again :
    (table : Table) (limit : ℕ) (bytes : List ℕ) (head : Head) (start n : ℕ) (marks : List ℕ) (notes : List (ℕ × ℕ)) (first middle last : CheckState) (need : Need) → LeadsPass table limit bytes head start n marks notes first
    → types_in middle ≡ types_in first → needs_in first ≡ need ∷ needs_in middle → middle.words ≡ first.words
    → types_in last ≡ types_in middle → needs_in last ≡ need ∷ needs_in middle → last.words ≡ middle.words → LeadsPass table limit bytes head start n marks notes last
leads_again table limit bytes head start n marks notes first middle last need l types needs words types' needs' words' =
    let same_types : types_in first ≡ types_in last = sym types ∙ sym types' in
    let same_words : last.words ≡ first.words = words' ∙ words in
    record {
      tokens = l.tokens;
      noted = l.noted;
      passing = subst₂ (IsPassing l.noted table limit bytes head start n l.tokens) same_types (needs ∙ sym needs') l.passing;
      w32 = subst (λ (w : Words). w.w32 + all_words32 (map measure_of l.tokens) ≡ stated32 head) (sym same_words) l.w32;
      w64 = subst (λ (w : Words). w.w64 + all_words64 (map measure_of l.tokens) ≡ head.w64) (sym same_words) l.w64;
      are_noted = subst (λ ts. AreNoted table ts l.noted l.tokens) same_types l.are_noted;
      are_marks = l.are_marks;
      are_known = l.are_known;
    }

-- If a position is open, then a value is still to be read.
pub some_need : (needs : List Need) (need : Need) (others : List Need) → needs ≡ need ∷ others → 0 < length needs
some_need needs need others same = let size : length needs ≡ length (need ∷ others) = ap length same in omega (arith, size)

-- ---- more bytes

pub leads_longer :
    (table : Table) (limit : ℕ) (bytes more : List ℕ) (head : Head) (start n : ℕ) (marks : List ℕ) (notes : List (ℕ × ℕ)) (state : CheckState) → LeadsPass table limit bytes head start n marks notes state → LeadsPass table limit (bytes ++ more) head start n marks notes state
leads_longer table limit bytes more head start n marks notes state l =
    let p = l.passing in
    let within' = p.within in
    let long = length-append bytes more in
    let same : take n bytes ≡ take n (bytes ++ more) = sym (take-append-le n bytes more within') in
    record {
      tokens = l.tokens;
      noted = l.noted;
      passing = record {
        header = p.header;
        chunks = p.chunks;
        within = omega (arith, within', long);
        is_header = p.is_header;
        head_is = p.head_is;
        begins = p.begins;
        taken = sym same ∙ p.taken;
        encodes = p.encodes;
        refer_back = p.refer_back;
        made = p.made;
        unshared = p.unshared;
        passed = p.passed;
        words = p.words;
        small = p.small;
      };
      w32 = l.w32;
      w64 = l.w64;
      are_noted = l.are_noted;
      are_marks = subst (λ prefix. AreMarks prefix marks l.tokens) same l.are_marks;
      are_known = l.are_known;
    }
