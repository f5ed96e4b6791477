-- Tokens that lead from the start to the end, described from the first token on.
use Rattle.std.proofs.Common.{ℕ, ◌≡◌, ◌⊎◌, ⊎_elim, inl, inr, List, [], ◌∷◌, ◌++◌, length, Some, None, refl, sym, subst, subst₂, ◌-◌}
use Rattle.std.specs.Prelude.{Contains}
use Rattle.std.proofs.lemmas.List.{append_assoc, append-nil}
use Rattle.std.proofs.lemmas.List.Elements.{Contains-append_left, Contains-append_right, Contains-append_cases}
use Rattle.base_data.proofs.model.Options.{Contains-first, Contains-cases, Contains-none}
use Rattle.types_spec.specs.types.Table.{Table}
use Rattle.marshal_spec.specs.format.Token.{Token, integer, atom, shared, block, leaf}
use Rattle.check_stream.specs.theory.AskedNeeds.{Need, of_type, hash_of}
use Rattle.check_stream.specs.mismatch_theory.PassedBut.{OpenPosition, MadeObject, Missed, unasked, made_in, type_of_need, IsPlain, IsLedBack, Takes, Misses, PassedBut, begin, fitting, missing, below}
use Rattle.check_stream.proofs.mismatch_theory.MismatchPlainLemmas.{plain_more}

-- Object `o` has the second type `t` among the recorded pairs.
abbrev pub Among : List (ℕ × ℕ) → ℕ → ℕ → Type 0
Among noted o t = Contains noted (o, t)

module _ (back : List ℕ) (table : Table) (noted : List (ℕ × ℕ)) (all : List MadeObject) where
  -- Starting with these objects and open positions, the tokens lead to all objects and have the
  -- mismatches `missed`.
  abbrev pub PassesBut : List MadeObject → List OpenPosition → List Token → List Missed → Type 0
  PassesBut made [] [] missed = (made ≡ all) × (missed ≡ [])
  PassesBut made [] (token ∷ tokens) missed = ⊥
  PassesBut made (position ∷ positions) [] missed = ⊥
  PassesBut made (position ∷ positions) (token ∷ tokens) missed =
      ((need : Need) × (position.asks ≡ Some need) × (next : List OpenPosition)
      × Takes back table (Among noted) made position.trail need token next
      × PassesBut (made ++ made_in (type_of_need need) position.trail token) (next ++ positions) tokens missed)
      ⊎ (((t : ℕ) × (position.asks ≡ Some (of_type t)) × Misses table t token × (later : List Missed)
      × (missed ≡ record { trail = position.trail; type = t; token = token } ∷ later)
      × PassesBut (made ++ made_in None position.trail token) (unasked token ++ positions) tokens later)
      ⊎ ((position.asks ≡ None)
      × PassesBut (made ++ made_in None [] token) (unasked token ++ positions) tokens missed))

  abbrev FromStart : List Token → List Missed → Type 0
  FromStart tokens missed = PassesBut [] (record { asks = Some (of_type 0); trail = [] } ∷ []) tokens missed

  rejoined : (prefix : List Token) (token : Token) (rest : List Token) (missed : List Missed) → FromStart (prefix ++ token ∷ rest) missed → FromStart ((prefix ++ token ∷ []) ++ rest) missed
  rejoined prefix token rest missed h = subst (λ ts. FromStart ts missed) (sym (append_assoc prefix (token ∷ []) rest)) h

-- ---- the second types that are used

abbrev Keeps : List (ℕ × ℕ) → List (ℕ × ℕ) → Type 0
Keeps pairs noted = (o t : ℕ) → Contains pairs (o, t) → Contains noted (o, t)

module _ (back : List ℕ) (table : Table) (Second : ℕ → ℕ → Type 0) (made : List MadeObject) where
  -- The token satisfies its requirement if the second types `pairs` are recorded.
  record IsTaken (trail : List (ℕ × ℕ)) (need : Need) (token : Token) (next : List OpenPosition) : Type 0 where
    pairs : List (ℕ × ℕ)
    each : (o t : ℕ) → Contains pairs (o, t) → Second o t
    takes : (noted : List (ℕ × ℕ)) → Keeps pairs noted → Takes back table (Among noted) made trail need token next

  -- If a token satisfies its requirement with any recorded pairs, then no second type is used.
  plain_taken : (trail : List (ℕ × ℕ)) (need : Need) (token : Token) (next : List OpenPosition) → ((noted : List (ℕ × ℕ)) → Takes back table (Among noted) made trail need token next) → IsTaken trail need token next
  plain_taken trail need token next takes = record { pairs = []; each = λ o t among. absurd (Contains-none {X = ℕ × ℕ} (o, t) among); takes = λ noted kept. takes noted }

  led_taken : (trail : List (ℕ × ℕ)) (t offset : ℕ) (next : List OpenPosition) → next ≡ [] → IsLedBack back table Second made t offset → IsTaken trail (of_type t) (shared offset) next
  led_taken trail t offset next ends led = ⊎_elim
      (λ first. plain_taken trail (of_type t) (shared offset) next (λ noted. (inr record { some = led.some; few = led.few; typed = inl first; noted = led.noted }, ends)))
      (λ second. record {
        pairs = (length made - offset, t) ∷ [];
        each = λ o u among. ⊎_elim
            (λ (same : ◌≡◌ {A = ℕ × ℕ} (length made - offset, t) (o, u)). subst (λ (p : ℕ × ℕ). Second p.0 p.1) same second)
            (λ none. absurd (Contains-none {X = ℕ × ℕ} (o, u) none))
            (Contains-cases {X = ℕ × ℕ} (length made - offset, t) [] (o, u) among);
        takes = λ noted kept.
            let there = kept (length made - offset) t (Contains-first {X = ℕ × ℕ} (length made - offset, t) []) in
            (inr record { some = led.some; few = led.few; typed = inr there; noted = led.noted }, ends);
      })
      led.typed

  taken : (trail : List (ℕ × ℕ)) (need : Need) (token : Token) (next : List OpenPosition) → Takes back table Second made trail need token next → IsTaken trail need token next
  taken trail (of_type t) (integer z) next takes = plain_taken trail (of_type t) (integer z) next (λ noted. takes)
  taken trail (of_type t) (atom tag) next takes = plain_taken trail (of_type t) (atom tag) next (λ noted. takes)
  taken trail (of_type t) (shared offset) next (inl wildcard, ends) = plain_taken trail (of_type t) (shared offset) next (λ noted. (inl wildcard, ends))
  taken trail (of_type t) (shared offset) next (inr led, ends) = led_taken trail t offset next ends led
  taken trail (of_type t) (block tag size) next takes = plain_taken trail (of_type t) (block tag size) next (λ noted. takes)
  taken trail (of_type t) (leaf object) next takes = plain_taken trail (of_type t) (leaf object) next (λ noted. takes)
  taken trail (hash_of tags) (integer z) next takes = plain_taken trail (hash_of tags) (integer z) next (λ noted. takes)
  taken trail (hash_of tags) (atom tag) next takes = absurd takes
  taken trail (hash_of tags) (shared offset) next takes = absurd takes
  taken trail (hash_of tags) (block tag size) next takes = absurd takes
  taken trail (hash_of tags) (leaf object) next takes = absurd takes

-- ---- from the beginning

module _ (back : List ℕ) (table : Table) (all : List MadeObject) where
  -- The second types that the tokens `prefix` use, and the objects and positions to which the
  -- tokens lead.
  record IsFronted (prefix : List Token) (made : List MadeObject) (positions : List OpenPosition) (missed : List Missed) : Type 0 where
    pairs : List (ℕ × ℕ)
    each : (o t : ℕ) → Contains pairs (o, t) → IsPlain table prefix o t
    passes : (noted : List (ℕ × ℕ)) → Keeps pairs noted → (rest : List Token) (later : List Missed) → PassesBut back table noted all made positions rest later → FromStart back table noted all (prefix ++ rest) (missed ++ later)

  each_more : (prefix more : List Token) (pairs : List (ℕ × ℕ)) → ((o t : ℕ) → Contains pairs (o, t) → IsPlain table prefix o t) → (o t : ℕ) → Contains pairs (o, t) → IsPlain table (prefix ++ more) o t
  each_more prefix more pairs each o t among = plain_more table prefix more o t (each o t among)

  fronted : (prefix : List Token) (made : List MadeObject) (positions : List OpenPosition) (missed : List Missed) → PassedBut back table prefix made positions missed → IsFronted prefix made positions missed
  fronted prefix made positions missed begin = record { pairs = []; each = λ o t among. absurd (Contains-none {X = ℕ × ℕ} (o, t) among); passes = λ noted kept rest later h. h }
  fronted prefix made positions missed (fitting tokens made' need trail positions' next missed' token before takes) =
      let position : OpenPosition = record { asks = Some need; trail = trail } in
      let r = fronted tokens made' (position ∷ positions') missed before in
      let own = taken back table (IsPlain table tokens) made' trail need token next takes in
      record {
        pairs = r.pairs ++ own.pairs;
        each = λ o t among. plain_more table tokens (token ∷ []) o t (⊎_elim (λ first. r.each o t first) (λ second. own.each o t second) (Contains-append_cases r.pairs own.pairs (o, t) among));
        passes = λ noted kept rest later h.
            rejoined back table noted all tokens token rest (missed ++ later)
            (r.passes noted (λ o t among. kept o t (Contains-append_left r.pairs own.pairs (o, t) among)) (token ∷ rest) later
            (inl (need, refl, next, own.takes noted (λ o t among. kept o t (Contains-append_right r.pairs own.pairs (o, t) among)), h)));
      }
  fronted prefix made positions missed (missing tokens made' t trail positions' missed' token before misses) =
      let position : OpenPosition = record { asks = Some (of_type t); trail = trail } in
      let one : Missed = record { trail = trail; type = t; token = token } in
      let r = fronted tokens made' (position ∷ positions') missed' before in
      record {
        pairs = r.pairs;
        each = each_more tokens (token ∷ []) r.pairs r.each;
        passes = λ noted kept rest later h.
            rejoined back table noted all tokens token rest ((missed' ++ one ∷ []) ++ later)
            (subst (λ ms. FromStart back table noted all (tokens ++ token ∷ rest) ms) (sym (append_assoc missed' (one ∷ []) later))
            (r.passes noted kept (token ∷ rest) (one ∷ later) (inr (inl (t, refl, misses, later, refl, h)))));
      }
  fronted prefix made positions missed (below tokens made' trail positions' missed' token before) =
      let position : OpenPosition = record { asks = None; trail = trail } in
      let r = fronted tokens made' (position ∷ positions') missed before in
      record {
        pairs = r.pairs;
        each = each_more tokens (token ∷ []) r.pairs r.each;
        passes = λ noted kept rest later h.
            rejoined back table noted all tokens token rest (missed ++ later) (r.passes noted kept (token ∷ rest) later (inr (inr (refl, h))));
      }

  -- From the root, the tokens lead to the end of the value and have the mismatches `missed`.
  pub record IsFromStart (tokens : List Token) (missed : List Missed) : Type 0 where
    pub noted : List (ℕ × ℕ)
    pub each : (o t : ℕ) → Contains noted (o, t) → IsPlain table tokens o t
    pub passes : FromStart back table noted all tokens missed

  pub passes_from_start : (tokens : List Token) (missed : List Missed) → PassedBut back table tokens all [] missed → IsFromStart tokens missed
  passes_from_start tokens missed passed =
      let r = fronted tokens all [] missed passed in
      record {
        noted = r.pairs;
        each = r.each;
        passes = subst₂ (FromStart back table r.pairs all) (append-nil tokens) (append-nil missed) (r.passes r.pairs (λ o t among. among) [] [] (refl, refl));
      }
