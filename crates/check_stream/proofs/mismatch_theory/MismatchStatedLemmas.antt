-- The theorem for bytes with exactly one mismatch, and the invariant at the start and after one
-- more token.
use Rattle.std.proofs.Common.{ℕ, zero, suc, ◌+◌, ◌-◌, ◌<◌, ◌≤◌, ◌^◌, ◌≡◌, ◌∙◌, ⊎_elim, inl, inr, refl, List, [], ◌∷◌, ◌++◌, length, map, Option, Some, None, sym, ap, subst, subst₂, arith, take-add}
use Rattle.std.specs.Prelude.{replicate, take, drop}
use Rattle.std.specs.List.{concat, AllZip}
use Rattle.std.proofs.lemmas.List.{append_assoc, append-nil, length-append, length-take-le, map-append}
use Rattle.std.proofs.lemmas.List.Elements.{All-nil, All-push, Contains-append_left}
use Rattle.base_data.specs.declared.model.header.Head.{Head}
use Rattle.types_spec.specs.types.Table.{Table}
use Rattle.marshal_spec.specs.format.Words.{objects, of_object, fields, pending}
use Rattle.marshal_spec.specs.format.Header.{head_of}
use Rattle.marshal_spec.specs.format.Token.{Token, integer, atom, shared, block, leaf, Encodes, measure_of}
use Rattle.marshal_spec.specs.format.Tree.{tokens, RefersBack}
use Rattle.marshal_spec.specs.format.Preorder.{OpenBefore, EachRefersBack}
use Rattle.marshal_spec.specs.format.Encoded.{IsHeader, IsNoReference, States}
use Rattle.marshal_spec.proofs.format.Counts.{leaf_fields, objects-tokens-append, objects-tokens-cons}
use Rattle.marshal_spec.proofs.format.Parsed.{tree_from_tokens}
use Rattle.marshal_spec.proofs.format.Pending.{pending_push, OpenBefore-append}
use Rattle.marshal_spec.proofs.format.FormatReadingLemmas.{concat-push, AllZip-push}
use Rattle.marshal_spec.proofs.format.References.{EachRefersBack-append, ReferBack-from_each}
use Rattle.marshal_spec.proofs.format.EncodeValues.{IsToken-encoded, IsToken-all_encoded}
use Rattle.check_stream.specs.theory.AskedNeeds.{Need, of_type, hash_of, values_in}
use Rattle.check_stream.proofs.theory.BlockLemmas.{fields_many}
use Rattle.check_stream.specs.mismatch_theory.MissedPrefix.{IsPassingBut, IsStated, OneMissedPrefixes}
use Rattle.check_stream.specs.mismatch_theory.PassedBut.{OpenPosition, MadeObject, Missed, positions_of, unasked, made_in, IsPlain, IsLedBack, Takes, PassedBut, begin, fitting, missing, below, values_of, values_at}
use Rattle.check_stream.proofs.mismatch_theory.LawLemmas.{only_missed}
use Rattle.check_stream.proofs.mismatch_theory.UnaskedLemmas.{nothing, unasked_are, made_long}

-- ---- open positions and values still to be read

pub values_at-append : (xs ys : List OpenPosition) → values_at (xs ++ ys) ≡ values_at xs + values_at ys
values_at-append [] ys = omega arith
values_at-append (position ∷ xs) ys = let same = values_at-append xs ys in omega (arith, same)

pub values_at-unasked : (n : ℕ) → values_at (replicate n nothing) ≡ n
values_at-unasked zero = refl
values_at-unasked (suc n) = let same = values_at-unasked n in omega (arith, same)

pub values_at-positions : (o : ℕ) (trail : List (ℕ × ℕ)) (k : ℕ) (needs : List Need) → values_at (positions_of o trail k needs) ≡ values_in needs
values_at-positions o trail k [] = refl
values_at-positions o trail k (of_type t ∷ needs) =
    let same = values_at-positions o trail (k + values_in (of_type t ∷ [])) needs in omega (arith, same)
values_at-positions o trail k (hash_of tags ∷ needs) =
    let same = values_at-positions o trail (k + values_in (hash_of tags ∷ [])) needs in omega (arith, same)

need_some : (need : Need) → 0 < values_in (need ∷ [])
need_some (of_type t) = omega arith
need_some (hash_of tags) = omega arith

module _ (back : List ℕ) (table : Table) where
  -- The number of values to be read for the positions that a token opens and for the token's
  -- position.
  taken_many : (Second : ℕ → ℕ → Type 0) (made : List MadeObject) (trail : List (ℕ × ℕ)) (need : Need) (token : Token) (next : List OpenPosition) → Takes back table Second made trail need token next → values_at next + 1 ≡ values_in (need ∷ []) + of_object fields (measure_of token)
  taken_many Second made trail (of_type t) (integer z) next takes = let is = ap values_at takes.1 in omega (arith, is)
  taken_many Second made trail (of_type t) (atom tag) next takes = let is = ap values_at takes.1 in omega (arith, is)
  taken_many Second made trail (of_type t) (shared offset) next takes = let is = ap values_at takes.1 in omega (arith, is)
  taken_many Second made trail (of_type t) (block tag size) next takes =
      let is = ap values_at takes.2 in
      let many = values_at-positions (length made) trail 0 takes.0 in
      let size' = fields_many table t tag size takes.0 takes.1 in
      omega (arith, is, many, size')
  taken_many Second made trail (of_type t) (leaf object) next takes =
      let is = ap values_at takes.1 in let none' = leaf_fields object in omega (arith, is, none')
  taken_many Second made trail (hash_of tags) (integer z) next takes = let is = ap values_at takes.argument in omega (arith, is)
  taken_many Second made trail (hash_of tags) (atom tag) next takes = absurd takes
  taken_many Second made trail (hash_of tags) (shared offset) next takes = absurd takes
  taken_many Second made trail (hash_of tags) (block tag size) next takes = absurd takes
  taken_many Second made trail (hash_of tags) (leaf object) next takes = absurd takes

  unasked_many : (token : Token) → values_at (unasked token) ≡ of_object fields (measure_of token)
  unasked_many token = ap values_at (unasked_are token) ∙ values_at-unasked (of_object fields (measure_of token))

  -- If one more token is read, then the number of pending values agrees with the open positions.
  pushed : (ts : List Token) (token : Token) (position : OpenPosition) (positions next : List OpenPosition) → pending (map measure_of ts) ≡ values_at (position ∷ positions) → 0 < values_of position.asks → values_at next + 1 ≡ values_of position.asks + of_object fields (measure_of token) → pending (map measure_of (ts ++ token ∷ [])) ≡ values_at (next ++ positions)
  pushed ts token position positions next earlier some many =
      let push = pending_push (map measure_of ts) (measure_of token) (omega (arith, earlier, some)) in
      let same = ap pending (map-append measure_of ts (token ∷ [])) in
      let both = values_at-append next positions in
      omega (arith, earlier, some, push, same, many, both)

  one_more : (token : Token) → values_at (unasked token) + 1 ≡ 1 + of_object fields (measure_of token)
  one_more token = let many = unasked_many token in omega (arith, many)

  pub passed_many : (ts : List Token) (made : List MadeObject) (positions : List OpenPosition) (missed : List Missed) → PassedBut back table ts made positions missed → pending (map measure_of ts) ≡ values_at positions
  passed_many ts made positions missed begin = refl
  passed_many ts made positions missed (fitting tokens made' need trail positions' next missed' token before takes) =
      let position : OpenPosition = record { asks = Some need; trail = trail } in
      pushed tokens token position positions' next (passed_many tokens made' (position ∷ positions') missed before) (need_some need) (taken_many (IsPlain table tokens) made' trail need token next takes)
  passed_many ts made positions missed (missing tokens made' t trail positions' missed' token before misses) =
      let position : OpenPosition = record { asks = Some (of_type t); trail = trail } in
      pushed tokens token position positions' (unasked token) (passed_many tokens made' (position ∷ positions') missed' before) (need_some (of_type t)) (one_more token)
  passed_many ts made positions missed (below tokens made' trail positions' missed' token before) =
      let position : OpenPosition = record { asks = None; trail = trail } in
      pushed tokens token position positions' (unasked token) (passed_many tokens made' (position ∷ positions') missed before) (omega arith) (one_more token)

  opened : (ts : List Token) (token : Token) (position : OpenPosition) (positions : List OpenPosition) → pending (map measure_of ts) ≡ values_at (position ∷ positions) → 0 < values_of position.asks → OpenBefore [] ts → OpenBefore [] (ts ++ token ∷ [])
  opened ts token position positions earlier some open' =
      let last : 0 < pending (map measure_of ts) = omega (arith, earlier, some) in
      OpenBefore-append [] ts (token ∷ []) open' (last, tt)

  pub passed_open : (ts : List Token) (made : List MadeObject) (positions : List OpenPosition) (missed : List Missed) → PassedBut back table ts made positions missed → OpenBefore [] ts
  passed_open ts made positions missed begin = tt
  passed_open ts made positions missed (fitting tokens made' need trail positions' next missed' token before takes) =
      let position : OpenPosition = record { asks = Some need; trail = trail } in
      opened tokens token position positions' (passed_many tokens made' (position ∷ positions') missed before) (need_some need) (passed_open tokens made' (position ∷ positions') missed before)
  passed_open ts made positions missed (missing tokens made' t trail positions' missed' token before misses) =
      let position : OpenPosition = record { asks = Some (of_type t); trail = trail } in
      opened tokens token position positions' (passed_many tokens made' (position ∷ positions') missed' before) (need_some (of_type t)) (passed_open tokens made' (position ∷ positions') missed' before)
  passed_open ts made positions missed (below tokens made' trail positions' missed' token before) =
      let position : OpenPosition = record { asks = None; trail = trail } in
      opened tokens token position positions' (passed_many tokens made' (position ∷ positions') missed before) (omega arith) (passed_open tokens made' (position ∷ positions') missed before)

-- ---- the theorem

-- The header states the sizes of the tokens.
states_from : (back : List ℕ) (table : Table) (limit : ℕ) (bytes : List ℕ) (head : Head) (start n : ℕ) (ts : List Token) (made : List MadeObject) (missed : List Missed) → IsPassingBut back table limit bytes head start n ts made [] missed → IsStated head start n ts (length made) → States head ts
states_from back table limit bytes head start n ts made missed p stated = record {
  w32 = stated.w32;
  w64 = stated.w64;
  objects = ⊎_elim (λ none. inr (none, p.unshared none)) (λ same. inl (same ∙ sym p.many)) stated.count;
}

-- The header states the length of the encoded tokens as the number of data bytes.
data_length : (back : List ℕ) (table : Table) (limit : ℕ) (bytes : List ℕ) (head : Head) (start n : ℕ) (ts : List Token) (made : List MadeObject) (missed : List Missed) (p : IsPassingBut back table limit bytes head start n ts made [] missed) → IsStated head start n ts (length made) → head.length ≡ length (concat p.chunks)
data_length back table limit bytes head start n ts made missed p stated =
    let prefix = length-take-le n bytes p.within in
    let both = length-append p.header (concat p.chunks) in
    let same = ap length p.taken in
    let begins = p.begins in
    let whole = stated.whole in
    omega (arith, prefix, both, same, begins, whole)

pub one_missed_prefixes : OneMissedPrefixes
one_missed_prefixes table limit bytes head start n ts back made missed lawful p stated others =
    let whole = passed_many back table ts made [] (missed ∷ []) p.passed in
    let t = tree_from_tokens ts (IsToken-all_encoded ts p.chunks p.encodes) (passed_open back table ts made [] (missed ∷ []) p.passed) whole in
    record {
      within = p.within;
      tree = t.tree;
      encoded = record {
        header = p.header;
        chunks = p.chunks;
        bytes_are = p.taken;
        encodes = record {
          is_tree = t.is_tree;
          refers_back = ReferBack-from_each t.tree 0 (subst (EachRefersBack 0) (sym t.tokens_are) p.refer_back);
          is_header = p.is_header;
          encodes = subst (λ us. AllZip Encodes us p.chunks) (sym t.tokens_are) p.encodes;
          length = ap (λ (h : Head). h.length) p.head_is ∙ data_length back table limit bytes head start n ts made (missed ∷ []) p stated;
          states = subst₂ States (sym p.head_is) (sym t.tokens_are) (states_from back table limit bytes head start n ts made (missed ∷ []) p stated);
        };
        words = subst (λ (h : Head). h.w64 ≤ limit) (sym p.head_is) p.words;
        small = subst (λ (h : Head). h.length < 2 ^ 48) (sym p.head_is) p.small;
      };
      least = only_missed table lawful back t.tree made missed t.is_tree
          (subst (λ us. PassedBut back table us made [] (missed ∷ [])) (sym t.tokens_are) p.passed) others;
    }

-- ---- the start, and one more token

pub but_start :
    (table : Table) (limit : ℕ) (bytes : List ℕ) (head : Head) (n : ℕ) → n ≤ length bytes → IsHeader (take n bytes)
    → head_of (take n bytes) ≡ head → length (take n bytes) ≡ n → head.w64 ≤ limit → head.length < 2 ^ 48
    → IsPassingBut [] table limit bytes head n n [] [] (record { asks = Some (of_type 0); trail = [] } ∷ []) []
but_start table limit bytes head n within is_header head_is begins words small = record {
  header = take n bytes;
  chunks = [];
  within = within;
  is_header = is_header;
  head_is = head_is;
  begins = begins;
  taken = sym (append-nil (take n bytes));
  encodes = tt;
  refer_back = tt;
  many = refl;
  unshared = λ _. All-nil IsNoReference;
  passed = begin;
  words = words;
  small = small;
}

-- If one more token is read, then the invariant holds after the token. The token may add targets of
-- references.
pub but_further :
    (back more : List ℕ) (table : Table) (limit : ℕ) (bytes : List ℕ) (head : Head) (first n : ℕ) (tokens : List Token) (made : List MadeObject) (positions : List OpenPosition) (missed : List Missed)
    → (p : IsPassingBut back table limit bytes head first n tokens made positions missed)
    → (token : Token) (m : ℕ) → n + m ≤ length bytes → Encodes token (take m (drop n bytes)) → RefersBack token (length made)
    → (head.objects ≡ 0 → IsNoReference token)
    → (type : Option ℕ) (trail : List (ℕ × ℕ)) (after : List OpenPosition) (later : List Missed)
    → PassedBut (back ++ more) table (tokens ++ token ∷ []) (made ++ made_in type trail token) after later
    → IsPassingBut (back ++ more) table limit bytes head first (n + m) (tokens ++ token ∷ []) (made ++ made_in type trail token) after later
but_further back more table limit bytes head first n tokens made positions missed p token m within encodes refers unshared type trail after later passed =
    let chunk = take m (drop n bytes) in
    let long = made_long type trail made token (IsToken-encoded token chunk encodes) in
    let both = objects-tokens-append tokens (token ∷ []) in
    let single = objects-tokens-cons token [] in
    let before = p.many in
    record {
      header = p.header;
      chunks = p.chunks ++ chunk ∷ [];
      within = within;
      is_header = p.is_header;
      head_is = p.head_is;
      begins = p.begins;
      taken = take-add n m bytes ∙ ap (λ xs. xs ++ chunk) p.taken ∙ append_assoc p.header (concat p.chunks) chunk ∙ ap (λ xs. p.header ++ xs) (sym (concat-push p.chunks chunk));
      encodes = AllZip-push Encodes tokens p.chunks token chunk p.encodes encodes;
      refer_back = EachRefersBack-append 0 tokens (token ∷ []) p.refer_back (subst (RefersBack token) (omega (arith, before)) refers, tt);
      many = let none : objects (map measure_of []) ≡ 0 = refl in omega (arith, long, both, single, before, none);
      unshared = λ e. All-push IsNoReference tokens token (p.unshared e) (unshared e);
      passed = passed;
      words = p.words;
      small = p.small;
    }

-- ---- references lead back to one more object

module _ (table : Table) (back : List ℕ) (more : List ℕ) where
  led_more : (Second : ℕ → ℕ → Type 0) (made : List MadeObject) (t offset : ℕ) → IsLedBack back table Second made t offset → IsLedBack (back ++ more) table Second made t offset
  led_more Second made t offset led = record {
    some = led.some;
    few = led.few;
    typed = led.typed;
    noted = Contains-append_left back more (length made - offset) led.noted;
  }

  takes_more : (Second : ℕ → ℕ → Type 0) (made : List MadeObject) (trail : List (ℕ × ℕ)) (need : Need) (token : Token) (next : List OpenPosition) → Takes back table Second made trail need token next → Takes (back ++ more) table Second made trail need token next
  takes_more Second made trail (of_type t) (integer z) next takes = takes
  takes_more Second made trail (of_type t) (atom tag) next takes = takes
  takes_more Second made trail (of_type t) (shared offset) next takes =
      (⊎_elim (λ wildcard. inl wildcard) (λ led. inr (led_more Second made t offset led)) takes.0, takes.1)
  takes_more Second made trail (of_type t) (block tag size) next takes = takes
  takes_more Second made trail (of_type t) (leaf object) next takes = takes
  takes_more Second made trail (hash_of tags) (integer z) next takes = takes
  takes_more Second made trail (hash_of tags) (atom tag) next takes = absurd takes
  takes_more Second made trail (hash_of tags) (shared offset) next takes = absurd takes
  takes_more Second made trail (hash_of tags) (block tag size) next takes = absurd takes
  takes_more Second made trail (hash_of tags) (leaf object) next takes = absurd takes

  pub back_more : (ts : List Token) (made : List MadeObject) (positions : List OpenPosition) (missed : List Missed) → PassedBut back table ts made positions missed → PassedBut (back ++ more) table ts made positions missed
  back_more ts made positions missed begin = begin
  back_more ts made positions missed (fitting tokens made' need trail positions' next missed' token before takes) =
      fitting tokens made' need trail positions' next missed token
      (back_more tokens made' (record { asks = Some need; trail = trail } ∷ positions') missed before)
      (takes_more (IsPlain table tokens) made' trail need token next takes)
  back_more ts made positions missed (missing tokens made' t trail positions' missed' token before misses) =
      missing tokens made' t trail positions' missed' token
      (back_more tokens made' (record { asks = Some (of_type t); trail = trail } ∷ positions') missed' before) misses
  back_more ts made positions missed (below tokens made' trail positions' missed' token before) =
      below tokens made' trail positions' missed token
      (back_more tokens made' (record { asks = None; trail = trail } ∷ positions') missed before)
