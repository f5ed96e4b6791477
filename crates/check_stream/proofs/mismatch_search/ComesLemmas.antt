-- The state of the search after one more token, by what the token changes.
use Rattle.std.proofs.Common.{ℕ, zero, suc, ◌+◌, ◌-◌, ◌<◌, ◌≤◌, ◌≡◌, ◌∙◌, ◌⊎◌, ⊎_elim, inl, inr, List, [], ◌∷◌, ◌++◌, length, map, set, Bool, true, false, Option, Some, None, refl, sym, ap, subst, arith}
use Rattle.std.specs.Prelude.{slice_get, replicate, Contains, ℤ, is_some}
use Rattle.std.specs.Global.{Vec}
use Rattle.std.specs.Borrow.{Bor}
use Rattle.std.proofs.lemmas.List.{append-nil, map-append}
use Rattle.std.proofs.lemmas.List.Elements.{Contains-append_right, Contains-append_cases}
use Rattle.std.proofs.lemmas.Option.{same_Some, none-some, slice_get_within}
use Rattle.std.proofs.lemmas.Bool.{cases_lt}
use Rattle.base_data.proofs.model.Lists.{slice_get-append_left}
use Rattle.base_data.proofs.model.Options.{Contains-first, Contains-none, Contains-cases}
use Rattle.base_data.specs.declared.model.code.Measure.{Measure}
use Rattle.types_spec.specs.declared.types.shape.PolyTag.{PolyTag}
use Rattle.types_spec.specs.types.Fitting.{tag_with}
use Rattle.types_spec.specs.types.Table.{Table, table_shapes}
use Rattle.marshal_spec.specs.format.Words.{of_object, words32, words64}
use Rattle.marshal_spec.specs.format.Token.{Token, integer, atom, shared, block, leaf, IsToken, measure_of}
use Rattle.marshal_spec.specs.format.Tree.{RefersBack, made_by}
use Rattle.marshal_spec.specs.format.Encoded.{IsNoReference}
use Rattle.check_stream.specs.theory.AskedNeeds.{of_type, hash_of, IsWildcard}
use Rattle.check_stream.proofs.theory.PassLemmas.{leaf_made}
use Rattle.check_stream.specs.mismatch_theory.PassedBut.{OpenPosition, MadeObject, Missed, field_after, unasked, made_in, IsPlain, HasFirst, IsLedBack, IsTaggedBut, Takes, Misses, PassedBut, fitting, missing, below}
use Rattle.check_stream.proofs.mismatch_theory.UnaskedLemmas.{made_long, made_there}
use Rattle.check_stream.proofs.mismatch_theory.MismatchStatedLemmas.{back_more}
use Rattle.check_stream.specs.declared.checker.stated_words.Words.{Words}
use Rattle.check_stream.specs.checker.CheckerState.{SpendsWords}
use Rattle.check_stream.specs.declared.mismatch_search.reference_targets.Again.{Again}
use Rattle.check_stream.specs.declared.mismatch_search.mismatch.FoundMismatch.{FoundMismatch}
use Rattle.check_stream.specs.declared.mismatch_search.mismatch.Finding.{Finding}
use Rattle.marshal_codec.specs.declared.token.summary.Summary.{Summary}
use Rattle.check_stream.specs.declared.mismatch_search.second.SecondReads.{SecondReads}
use Rattle.marshal_codec.specs.declared.token.summary.Summary.TheVariants as summaries
use Rattle.check_stream.specs.declared.mismatch_search.mismatch.Fast.{Fast}
use Rattle.check_stream.specs.declared.mismatch_search.mismatch.Fast.TheVariants as fasts
use Rattle.check_stream.specs.declared.mismatch_search.way.Expectation.{Expectation}
use Rattle.check_stream.specs.declared.mismatch_search.way.Expectation.TheVariants as asks
use Rattle.check_stream.specs.declared.mismatch_search.way.BlockExpectations.{BlockExpectations}
use Rattle.check_stream.specs.declared.mismatch_search.way.BlockExpectations.TheVariants as lefts
use Rattle.check_stream.specs.declared.mismatch_search.way.Way.{Way}
use Rattle.check_stream.specs.mismatch_search.Judge.{IsNoBack}
use Rattle.marshal_codec.specs.token.Summary.{IsSummary, IsSummaryBy, summary_fields}
use Rattle.check_stream.specs.mismatch_search.SearchTrail.{trail_of, trail_in, position_of, left_values, way_positions, opened_positions, unasked_position, IsWay, OpensAt}
use Rattle.check_stream.specs.mismatch_search.Find.{no_type, type_or_none, AreTypes, AreMarked, AlsoMarks, IsMissedAt, AreMissedAt, IsHeld, HasRoom, Passes, AddsObject, LeadsTo, Comes, Follows, RunsFast, RunsFastBy, unasked_in}
use Rattle.check_stream.specs.mismatch_search.Second.{Knows, Shows}
use Rattle.check_stream.proofs.mismatch_search.MismatchSearchWayLemmas.{none_opened}
use Rattle.marshal_codec.proofs.token.SummaryLemmas.{some_token}

abbrev held_type : MadeObject → ℕ
held_type object = type_or_none object.type

-- The number that is recorded for the type of a token's object.
types_made : (type : Option ℕ) (trail : List (ℕ × ℕ)) (token : Token) → IsToken token → map held_type (made_in type trail token) ≡ replicate (made_by token) (type_or_none type)
types_made type trail (integer z) is = refl
types_made type trail (atom tag) is = refl
types_made type trail (shared offset) is = refl
types_made type trail (block tag size) is = refl
types_made type trail (leaf object) is = ap (λ n. replicate n (type_or_none type)) (sym (leaf_made object is))

module _ (made : List MadeObject) (type : Option ℕ) (trail : List (ℕ × ℕ)) (token : Token) (is : IsToken token) where
  abbrev after : List MadeObject
  after = made ++ made_in type trail token

  -- Each object after the token is an object before the token or the token's object.
  there : (o : ℕ) (object : MadeObject) → slice_get after o ≡ Some object → (slice_get made o ≡ Some object) ⊎ (object ≡ record { type = type; trail = trail })
  there o object at = ⊎_elim
      (λ before. inl (kept o object before at))
      (λ later.
      let short = slice_get_within after o object at in
      let long = made_long type trail made token is in
      inr (same_Some object record { type = type; trail = trail } (sym at ∙ made_there type trail made token is o later (omega (arith, short, long)))))
      (cases_lt o (length made)) where
        kept : (o : ℕ) (object : MadeObject) → o < length made → slice_get (made ++ made_in type trail token) o ≡ Some object → slice_get made o ≡ Some object
        kept o object short at = by made o short at where
          by : (xs : List MadeObject) (o : ℕ) → o < length xs → slice_get (xs ++ made_in type trail token) o ≡ Some object → slice_get xs o ≡ Some object
          by [] o short at = absurd (omega (arith, short))
          by (x ∷ xs) zero short at = at
          by (x ∷ xs) (suc o) short at = by xs o (omega (arith, short)) at

  pub types_after : (types new : List ℕ) → AreTypes types made → new ≡ types ++ replicate (made_by token) (type_or_none type) → ((t : ℕ) → type ≡ Some t → t < no_type) → AreTypes new after
  types_after types new are its some = (
    its ∙ ap (λ xs. xs ++ replicate (made_by token) (type_or_none type)) are.0
        ∙ ap (λ ys. map held_type made ++ ys) (sym (types_made type trail token is))
        ∙ sym (map-append held_type made (made_in type trail token)),
    (λ o t way at. ⊎_elim
        (λ before. are.1 o t way before)
        (λ own. some t (sym (ap (λ (x : MadeObject). x.type) own)))
        (there o record { type = Some t; trail = way } at)),
  )

-- If the token is no reference, then the marks of the targets stay valid.
marked_still : (back : List ℕ) (old new : Again) → AreMarked back old.marks.items → new ≡ old → AreMarked (back ++ []) new.marks.items
marked_still back old new are same =
    subst (λ bs. AreMarked bs new.marks.items) (sym (append-nil back)) (subst (λ (a : Again). AreMarked back a.marks.items) (sym same) are)

many_types : (made : List MadeObject) → length (map held_type made) ≡ length made
many_types [] = refl
many_types (object ∷ made) = ap suc (many_types made)

-- The number of recorded types is the number of objects.
pub many_held : (types : List ℕ) (made : List MadeObject) → AreTypes types made → length types ≡ length made
many_held types made are = ap length are.0 ∙ many_types made

module _ (table : Table) (back : List ℕ) (tokens : List Token) (made : List MadeObject) (missed : List Missed) (token : Token) (is : IsToken token)
    (old new : Finding) (summary : Summary) (left : BlockExpectations) (its : IsSummary summary token) (held : IsHeld back made missed old) (prefix : List ℕ) (known : Knows table prefix tokens old.seconds) where
  -- If at most one object was added, then the new state agrees with the objects.
  held_after : (n : ℕ) (type : Option ℕ) (trail : List (ℕ × ℕ)) (later : List Missed) → AddsObject old n summary left new → n ≡ type_or_none type → ((t : ℕ) → type ≡ Some t → t < no_type) → AreMissedAt new.found later → IsHeld (back ++ []) (made ++ made_in type trail token) later new
  held_after n type trail later adds same some found = record {
    is_way = (adds.opens held.is_way).0;
    types = types_after made type trail token is old.types.items new.types.items held.types (adds.types token its ∙ ap (λ k. old.types.items ++ replicate (made_by token) k) same) some;
    marked = marked_still back old.again new.again held.marked adds.again;
    found = found;
  }

  -- The number of recorded types is the number of objects before the token.
  many_made : length old.types.items ≡ length made
  many_made = many_held old.types.items made held.types

  passed_after : (type : Option ℕ) (trail : List (ℕ × ℕ)) (positions : List OpenPosition) (later : List Missed) → PassedBut back table (tokens ++ token ∷ []) (made ++ made_in type trail token) positions later → way_positions new.way ≡ positions → PassedBut (back ++ []) table (tokens ++ token ∷ []) (made ++ made_in type trail token) (way_positions new.way) later
  passed_after type trail positions later passed same =
      subst (λ (ps : List OpenPosition). PassedBut (back ++ []) table (tokens ++ token ∷ []) (made ++ made_in type trail token) ps later) (sym same)
      (subst (λ bs. PassedBut bs table (tokens ++ token ∷ []) (made ++ made_in type trail token) positions later) (sym (append-nil back)) passed)

  -- Case: the token matches the type that its position expects.
  pub fits_leads : (t : ℕ) → t < no_type → AddsObject old t summary left new → Takes back table (IsPlain table tokens) made (trail_in old.way) (of_type t) token (opened_positions (length made) (trail_in old.way) left)
      → PassedBut back table tokens made (record { asks = Some (of_type t); trail = trail_in old.way } ∷ way_positions old.way) missed → LeadsTo back table prefix tokens made token new
  fits_leads t some adds takes passed =
      let trail = trail_in old.way in
      let next = opened_positions (length made) trail left in
      let positions : way_positions new.way ≡ next ++ way_positions old.way = (adds.opens held.is_way).1 ∙ ap (λ n. opened_positions n trail left ++ way_positions old.way) many_made in
      record {
        more = [];
        type = Some t;
        trail = trail;
        missed = missed;
        passed = passed_after (Some t) trail (next ++ way_positions old.way) missed (fitting tokens made (of_type t) trail (way_positions old.way) next missed token passed takes) positions;
        held = held_after t (Some t) trail missed adds refl (λ u same. subst (λ v. v < no_type) (same_Some t u same) some) (subst (λ (found : Option FoundMismatch). AreMissedAt found missed) (sym adds.found) held.found);
        known = subst (Knows table prefix tokens) (sym adds.seconds) known;
      }

  -- Case: the position of the token expects nothing.
  pub below_leads : AddsObject old no_type summary left new → unasked_in left token → PassedBut back table tokens made (unasked_position ∷ way_positions old.way) missed → LeadsTo back table prefix tokens made token new
  below_leads adds fields passed =
      let positions : way_positions new.way ≡ unasked token ++ way_positions old.way = (adds.opens held.is_way).1 ∙ ap (λ ps. ps ++ way_positions old.way) (fields (length old.types.items) (trail_in old.way)) in
      record {
        more = [];
        type = None;
        trail = [];
        missed = missed;
        passed = passed_after None [] (unasked token ++ way_positions old.way) missed (below tokens made [] (way_positions old.way) missed token passed) positions;
        held = held_after no_type None [] missed adds refl (λ u same. absurd (none-some u same)) (subst (λ (found : Option FoundMismatch). AreMissedAt found missed) (sym adds.found) held.found);
        known = subst (Knows table prefix tokens) (sym adds.seconds) known;
      }

-- Case: the token does not match the expected type, and is the first mismatch.
pub miss_leads :
    (table : Table) (back : List ℕ) (tokens : List Token) (made : List MadeObject) (missed : List Missed) (token : Token) → IsToken token → (old middle new : Finding) (summary : Summary) (left : BlockExpectations) → IsSummary summary token → IsHeld back made missed old
    → (t : ℕ) (found : FoundMismatch) → old.found ≡ None → middle.found ≡ Some found → found.links.items ≡ old.way.links.items → found.ty ≡ t → found.summary ≡ summary
    → middle.way ≡ old.way → middle.types ≡ old.types → middle.again ≡ old.again → middle.seconds ≡ old.seconds → AddsObject middle no_type summary left new → unasked_in left token → Misses table t token
    → (prefix : List ℕ) → Knows table prefix tokens old.seconds
    → PassedBut back table tokens made (record { asks = Some (of_type t); trail = trail_in old.way } ∷ way_positions old.way) missed → LeadsTo back table prefix tokens made token new
miss_leads table back tokens made missed token is old middle new summary left its held t found none' some links type says way types again seconds adds fields misses prefix known passed =
    let trail = trail_in old.way in
    let one : Missed = record { trail = trail; type = t; token = token } in
    let first : missed ≡ [] = subst (λ (f : Option FoundMismatch). AreMissedAt f missed) none' held.found in
    let at : IsMissedAt found one = record { trail = sym (ap trail_of links); type = sym type; summary = subst (λ s. IsSummary s token) (sym says) its } in
    let later : missed ++ one ∷ [] ≡ one ∷ [] = ap (λ ms. ms ++ one ∷ []) first in
    let found_after : AreMissedAt new.found (missed ++ one ∷ []) = subst (λ (f : Option FoundMismatch). AreMissedAt f (missed ++ one ∷ [])) (sym (adds.found ∙ some)) (one, later, at) in
    let types_held : AreTypes middle.types.items made = subst (λ (v : Vec ℕ). AreTypes v.items made) (sym types) held.types in
    let opens = adds.opens (subst IsWay (sym way) held.is_way) in
    let positions : way_positions new.way ≡ unasked token ++ way_positions old.way =
    opens.1 ∙ ap (λ ps. ps ++ way_positions middle.way) (fields (length middle.types.items) (trail_in middle.way)) ∙ ap (λ (w : Way). unasked token ++ way_positions w) way in
    record {
      more = [];
      type = None;
      trail = trail;
      missed = missed ++ one ∷ [];
      passed = subst (λ (ps : List OpenPosition). PassedBut (back ++ []) table (tokens ++ token ∷ []) (made ++ made_in None trail token) ps (missed ++ one ∷ [])) (sym positions)
          (subst (λ bs. PassedBut bs table (tokens ++ token ∷ []) (made ++ made_in None trail token) (unasked token ++ way_positions old.way) (missed ++ one ∷ [])) (sym (append-nil back))
          (missing tokens made t trail (way_positions old.way) missed token passed misses));
      held = record {
        is_way = opens.0;
        types = types_after made None trail token is middle.types.items new.types.items types_held (adds.types token its) (λ u same. absurd (none-some u same));
        marked = marked_still back old.again new.again held.marked (adds.again ∙ again);
        found = found_after;
      };
      known = subst (Knows table prefix tokens) (sym (adds.seconds ∙ seconds)) known;
    }

-- ---- the object that the token adds

-- Case: the token makes no object.
pub adds_none : (old : Finding) (type : ℕ) (summary : Summary) (left : BlockExpectations) → HasRoom summary left → ((token : Token) → IsSummary summary token → measure_of token ≡ None) → AddsObject old type summary left old
adds_none old type summary left room none =
    let some = some_token summary in
    let no_object : (token : Token) → IsSummary summary token → made_by token ≡ 0 = λ token its. ap (of_object (λ _. 1)) (none token its) in
    let no_left : left_values left ≡ 0 = room some.0 some.1 (no_object some.0 some.1) in
    record {
      opens = λ is. (is, sym (ap (λ ps. ps ++ way_positions old.way) (none_opened (length old.types.items) (trail_in old.way) left no_left)));
      found = refl;
      seconds = refl;
      types = λ token its. sym (ap (λ n. old.types.items ++ replicate n type) (no_object token its) ∙ append-nil old.types.items);
      again = refl;
      w32 = λ token its. let plain : of_object words32 (measure_of token) ≡ 0 = ap (of_object words32) (none token its) in omega (arith, plain);
      w64 = λ token its. let plain : of_object words64 (measure_of token) ≡ 0 = ap (of_object words64) (none token its) in omega (arith, plain);
    }

-- Case: the token makes one object.
pub adds_one :
    (old new : Finding) (type : ℕ) (summary : Summary) (left : BlockExpectations) (measure : Measure) → ((token : Token) → IsSummary summary token → measure_of token ≡ Some measure)
    → (IsWay old.way → IsWay new.way × OpensAt old.way (length old.types.items) left new.way)
    → new.found ≡ old.found → new.seconds ≡ old.seconds → new.types.items ≡ old.types.items ++ type ∷ [] → new.again ≡ old.again → SpendsWords old.words measure new.words → AddsObject old type summary left new
adds_one old new type summary left measure is opens found seconds types again spends =
    let one : (token : Token) → IsSummary summary token → made_by token ≡ 1 = λ token its. ap (of_object (λ _. 1)) (is token its) in
    record {
      opens = opens;
      found = found;
      seconds = seconds;
      types = λ token its. types ∙ ap (λ n. old.types.items ++ replicate n type) (sym (one token its));
      again = again;
      w32 = λ token its. let own : of_object words32 (measure_of token) ≡ words32 measure = ap (of_object words32) (is token its) in let left' = spends.w32 in omega (arith, own, left');
      w64 = λ token its. let own : of_object words64 (measure_of token) ≡ words64 measure = ap (of_object words64) (is token its) in let left' = spends.w64 in omega (arith, own, left');
    }

-- If nothing is expected of a token's fields, then the positions of the fields are unasked
-- positions.
fields_unasked : (summary : Summary) (token : Token) → IsSummary summary token → unasked_in (lefts.Unasked (summary_fields summary)) token
fields_unasked (summaries.Integer z) token its object trail = ap unasked (sym its)
fields_unasked (summaries.Atom tag) token its object trail = ap unasked (sym its)
fields_unasked (summaries.Shared offset) token its object trail = ap unasked (sym its)
fields_unasked (summaries.Block tag size) token its object trail = ap unasked (sym its)
fields_unasked (summaries.Bytes m) token its object trail = ap unasked (sym its.2)
fields_unasked summaries.Double token its object trail = ap unasked (sym its.1)
fields_unasked (summaries.Doubles m) token its object trail = ap unasked (sym its.2)
fields_unasked (summaries.Custom kind) token its object trail = ap unasked (sym its.1)

pub unasked_fields : (summary : Summary) (n : ℕ) → n ≡ summary_fields summary → (token : Token) → IsSummary summary token → unasked_in (lefts.Unasked n) token
unasked_fields summary n is token its object trail = ap (λ k. replicate k unasked_position) is ∙ fields_unasked summary token its object trail

fields_none : (summary : Summary) (token : Token) → IsSummary summary token → made_by token ≡ 0 → summary_fields summary ≡ 0
fields_none (summaries.Integer z) token its none = refl
fields_none (summaries.Atom tag) token its none = refl
fields_none (summaries.Shared offset) token its none = refl
fields_none (summaries.Block tag size) token its none = let one : made_by token ≡ 1 = ap made_by its in absurd (omega (arith, one, none))
fields_none (summaries.Bytes m) token its none = refl
fields_none summaries.Double token its none = refl
fields_none (summaries.Doubles m) token its none = refl
fields_none (summaries.Custom kind) token its none = refl

pub unasked_room : (summary : Summary) (n : ℕ) → n ≡ summary_fields summary → HasRoom summary (lefts.Unasked n)
unasked_room summary n is token its none = is ∙ fields_none summary token its none

-- ---- a token at each kind of position

abbrev May : ℕ → ℕ → Token → Type 0
May n stated token = RefersBack token n × (stated ≡ 0 → IsNoReference token)

-- If the summary is no reference, then the token may follow any number of objects.
refers_by : (summary : Summary) (n stated : ℕ) → IsNoBack summary → (token : Token) → IsSummary summary token → May n stated token
refers_by (summaries.Integer z) n stated plain token its = subst (May n stated) (sym its) (tt, λ _. tt)
refers_by (summaries.Atom tag) n stated plain token its = subst (May n stated) (sym its) (tt, λ _. tt)
refers_by (summaries.Shared offset) n stated plain token its = absurd plain
refers_by (summaries.Block tag size) n stated plain token its = subst (May n stated) (sym its) (tt, λ _. tt)
refers_by (summaries.Bytes m) n stated plain token its = subst (May n stated) (sym its.2) (tt, λ _. tt)
refers_by summaries.Double n stated plain token its = subst (May n stated) (sym its.1) (tt, λ _. tt)
refers_by (summaries.Doubles m) n stated plain token its = subst (May n stated) (sym its.2) (tt, λ _. tt)
refers_by (summaries.Custom kind) n stated plain token its = subst (May n stated) (sym its.1) (tt, λ _. tt)

-- If the summary is that of no reference, then the token is no reference.
pub no_back_summary : (summary : Summary) → ((offset : ℕ) → summary ≡ summaries.Shared offset → ⊥) → IsNoBack summary
no_back_summary (summaries.Integer z) plain = tt
no_back_summary (summaries.Atom tag) plain = tt
no_back_summary (summaries.Shared offset) plain = plain offset refl
no_back_summary (summaries.Block tag size) plain = tt
no_back_summary (summaries.Bytes m) plain = tt
no_back_summary summaries.Double plain = tt
no_back_summary (summaries.Doubles m) plain = tt
no_back_summary (summaries.Custom kind) plain = tt

pub none_found : (found : Option FoundMismatch) → is_some found ≡ false → found ≡ None
none_found None none = refl
none_found (Some found) none = absurd (cc)

pub comes_fits :
    (table : Table) (stated : ℕ) (prefix : List ℕ) (old new : Finding) (t : ℕ) (summary : Summary) (left : BlockExpectations) → t < no_type → IsNoBack summary
    → ((token : Token) → IsSummary summary token → (back : List ℕ) (tokens : List Token) (made : List MadeObject) (trail : List (ℕ × ℕ)) → Takes back table (IsPlain table tokens) made trail (of_type t) token (opened_positions (length made) trail left))
    → AddsObject old t summary left new → Comes table stated prefix old (asks.Type t) summary new
comes_fits table stated prefix old new t summary left some plain takes adds = record {
  leads = λ back tokens made missed token is its held known passed.
      fits_leads table back tokens made missed token is old new summary left its held prefix known t some adds (takes token its back tokens made (trail_in old.way)) passed;
  refers = λ token its. refers_by summary (length old.types.items) stated plain token its;
  w32 = adds.w32;
  w64 = adds.w64;
}

pub comes_below :
    (table : Table) (stated : ℕ) (prefix : List ℕ) (old new : Finding) (summary : Summary) (left : BlockExpectations) → ((token : Token) → IsSummary summary token → May (length old.types.items) stated token) → ((token : Token) → IsSummary summary token → unasked_in left token)
    → AddsObject old no_type summary left new → Comes table stated prefix old asks.Nothing summary new
comes_below table stated prefix old new summary left refers fields adds = record {
  leads = λ back tokens made missed token is its held known passed.
      below_leads table back tokens made missed token is old new summary left its held prefix known adds (fields token its) passed;
  refers = refers;
  w32 = adds.w32;
  w64 = adds.w64;
}

-- A reference at a position that expects nothing is consumed and changes nothing.
pub comes_below_back :
    (table : Table) (stated : ℕ) (prefix : List ℕ) (old : Finding) (summary : Summary) (offset : ℕ) → summary ≡ summaries.Shared offset → 0 < stated → 1 ≤ offset → offset ≤ length old.types.items → Comes table stated prefix old asks.Nothing summary old
comes_below_back table stated prefix old summary offset same some first few =
    subst (λ s. Comes table stated prefix old asks.Nothing s old) (sym same)
    (comes_below table stated prefix old old (summaries.Shared offset) (lefts.Unasked 0)
    (λ token its. subst (May (length old.types.items) stated) (sym its) ((first, few), λ none. absurd (omega (arith, some, none))))
    (λ token its object trail. ap unasked (sym its))
    (adds_none old no_type (summaries.Shared offset) (lefts.Unasked 0) (λ token its none. refl) (λ token its. ap measure_of its)))

pub comes_below_other :
    (table : Table) (stated : ℕ) (prefix : List ℕ) (old new : Finding) (summary : Summary) (left : BlockExpectations) → IsNoBack summary → ((token : Token) → IsSummary summary token → unasked_in left token)
    → AddsObject old no_type summary left new → Comes table stated prefix old asks.Nothing summary new
comes_below_other table stated prefix old new summary left plain fields adds =
    comes_below table stated prefix old new summary left (refers_by summary (length old.types.items) stated plain) fields adds

pub comes_miss :
    (table : Table) (stated : ℕ) (prefix : List ℕ) (old middle new : Finding) (t : ℕ) (summary : Summary) (left : BlockExpectations) (found : FoundMismatch) → ((token : Token) → IsSummary summary token → Misses table t token) → old.found ≡ None → middle.found ≡ Some found
    → found.links.items ≡ old.way.links.items → found.ty ≡ t → found.summary ≡ summary → middle.way ≡ old.way → middle.types ≡ old.types → middle.again ≡ old.again → middle.seconds ≡ old.seconds → middle.words ≡ old.words
    → ((token : Token) → IsSummary summary token → unasked_in left token) → AddsObject middle no_type summary left new → Comes table stated prefix old (asks.Type t) summary new
comes_miss table stated prefix old middle new t summary left found misses none some links type says way types again seconds words fields adds = record {
  leads = λ back tokens made missed token is its held known passed.
      miss_leads table back tokens made missed token is old middle new summary left its held t found none some links type says way types again seconds adds (fields token its) (misses token its) prefix known passed;
  refers = refers_by summary (length old.types.items) stated (no_back summary misses);
  w32 = λ token its. adds.w32 token its ∙ ap (λ (w : Words). w.w32) words;
  w64 = λ token its. adds.w64 token its ∙ ap (λ (w : Words). w.w64) words;
} where
  -- If every token with the summary mismatches the type, then the summary is no reference.
  no_back : (s : Summary) → ((token : Token) → IsSummary s token → Misses table t token) → IsNoBack s
  no_back (summaries.Integer z) each = tt
  no_back (summaries.Atom tag) each = tt
  no_back (summaries.Shared offset) each = each (shared offset) refl
  no_back (summaries.Block tag size) each = tt
  no_back (summaries.Bytes m) each = tt
  no_back summaries.Double each = tt
  no_back (summaries.Doubles m) each = tt
  no_back (summaries.Custom kind) each = tt

-- ---- no object is made, and no position is opened except the next one

held_kept : (back : List ℕ) (made : List MadeObject) (missed : List Missed) (old new : Finding) → IsHeld back made missed old → IsWay new.way → new.types ≡ old.types → new.again ≡ old.again → new.found ≡ old.found → IsHeld (back ++ []) (made ++ []) missed new
held_kept back made missed old new held is types again found =
    let same_made : made ≡ made ++ [] = sym (append-nil made) in
    record {
      is_way = is;
      types = subst (AreTypes new.types.items) same_made (subst (λ (v : Vec ℕ). AreTypes v.items made) (sym types) held.types);
      marked = marked_still back old.again new.again held.marked again;
      found = subst (λ f. AreMissedAt f missed) (sym found) held.found;
    }

-- If a token is the hash of a tag, then the position of the tag's argument is opened.
pub comes_hash :
    (table : Table) (stated : ℕ) (prefix : List ℕ) (old new : Finding) (tags : Bor (List (PolyTag ℕ))) (summary : Summary) (z : ℤ) (tag : PolyTag ℕ) (t : ℕ) → summary ≡ summaries.Integer z → tag_with tags.now z ≡ Some tag → tag.arg ≡ Some t
    → (IsWay old.way → IsWay new.way) → way_positions new.way ≡ position_of (asks.Type t) (field_after (trail_in old.way)) ∷ way_positions old.way → new.types ≡ old.types → new.again ≡ old.again → new.seconds ≡ old.seconds → new.words ≡ old.words → new.found ≡ old.found
    → Comes table stated prefix old (asks.Hash tags) summary new
comes_hash table stated prefix old new tags summary z tag t same has_hash has_argument is positions types again seconds words found =
    subst (λ s. Comes table stated prefix old (asks.Hash tags) s new) (sym same) record {
      leads = λ back tokens made missed token is_token its held known passed.
          subst (λ u. LeadsTo back table prefix tokens made u new) (sym its) (leads back tokens made missed held known passed);
      refers = refers_by (summaries.Integer z) (length old.types.items) stated tt;
      w32 = λ token its. let none : of_object words32 (measure_of token) ≡ 0 = ap (λ u. of_object words32 (measure_of u)) its in let kept = ap (λ (w : Words). w.w32) words in omega (arith, none, kept);
      w64 = λ token its. let none : of_object words64 (measure_of token) ≡ 0 = ap (λ u. of_object words64 (measure_of u)) its in let kept = ap (λ (w : Words). w.w64) words in omega (arith, none, kept);
    } where
      leads : (back : List ℕ) (tokens : List Token) (made : List MadeObject) (missed : List Missed) → IsHeld back made missed old → Knows table prefix tokens old.seconds → PassedBut back table tokens made (record { asks = Some (hash_of tags.now); trail = trail_in old.way } ∷ way_positions old.way) missed → LeadsTo back table prefix tokens made (integer z) new
      leads back tokens made missed held known passed =
          let next : List OpenPosition = record { asks = Some (of_type t); trail = field_after (trail_in old.way) } ∷ [] in
          let tagged : IsTaggedBut tags.now z (trail_in old.way) next = record { tag = tag; has_hash = has_hash; type = t; has_argument = has_argument; argument = refl } in
          let further = fitting tokens made (hash_of tags.now) (trail_in old.way) (way_positions old.way) next missed (integer z) passed tagged in
          record {
            more = [];
            type = None;
            trail = [];
            missed = missed;
            passed = subst (λ ps. PassedBut (back ++ []) table (tokens ++ integer z ∷ []) (made ++ []) ps missed) (sym positions)
                (subst (λ bs. PassedBut bs table (tokens ++ integer z ∷ []) (made ++ []) (next ++ way_positions old.way) missed) (sym (append-nil back)) further);
            held = held_kept back made missed old new held (is held.is_way) types again found;
            known = subst (Knows table prefix tokens) (sym seconds) known;
          }

-- An integer is consumed at a position to which the links do not lead.
module _ (table : Table) (old new : Finding) (summary : Summary) (token : Token) (its : IsSummary summary token) (p : Passes table old summary new) where
  is_integer : token ≡ integer p.z
  is_integer = subst (λ s. IsSummary s token) p.its its

  pub passes_leads :
      (back : List ℕ) (tokens : List Token) (made : List MadeObject) (missed : List Missed) (prefix : List ℕ) → IsHeld back made missed old → Knows table prefix tokens old.seconds → PassedBut back table tokens made (way_positions old.way) missed
      → LeadsTo back table prefix tokens made token new
  passes_leads back tokens made missed prefix held known passed =
      let before = subst (λ ps. PassedBut back table tokens made ps missed) p.positions passed in
      let further = fitting tokens made (of_type p.type) p.trail (way_positions new.way) [] missed (integer p.z) before (p.fits, refl) in
      subst (λ u. LeadsTo back table prefix tokens made u new) (sym is_integer) record {
        more = [];
        type = None;
        trail = [];
        missed = missed;
        passed = subst (λ bs. PassedBut bs table (tokens ++ integer p.z ∷ []) (made ++ []) (way_positions new.way) missed) (sym (append-nil back)) further;
        held = held_kept back made missed old new held p.is_way p.types p.again p.found;
        known = subst (Knows table prefix tokens) (sym p.seconds) known;
      }

  pub passes_refers : (n stated : ℕ) → May n stated token
  passes_refers n stated = subst (May n stated) (sym is_integer) (tt, λ _. tt)

  pub passes_w32 : new.words.w32 + of_object words32 (measure_of token) ≡ old.words.w32
  passes_w32 = let none : of_object words32 (measure_of token) ≡ 0 = ap (λ u. of_object words32 (measure_of u)) is_integer in let kept = ap (λ (w : Words). w.w32) p.words in omega (arith, none, kept)

  pub passes_w64 : new.words.w64 + of_object words64 (measure_of token) ≡ old.words.w64
  passes_w64 = let none : of_object words64 (measure_of token) ≡ 0 = ap (λ u. of_object words64 (measure_of u)) is_integer in let kept = ap (λ (w : Words). w.w64) p.words in omega (arith, none, kept)

pub passes_follows : (table : Table) (stated : ℕ) (prefix : List ℕ) (old new : Finding) (summary : Summary) → Passes table old summary new → Follows table stated prefix old summary new
passes_follows table stated prefix old new summary p = record {
  leads = λ back tokens made missed token is_token its held known passed.
      passes_leads table old new summary token its p back tokens made missed prefix held known passed;
  refers = λ token its. passes_refers table old new summary token its p (length old.types.items) stated;
  w32 = λ token its. passes_w32 table old new summary token its p;
  w64 = λ token its. passes_w64 table old new summary token its p;
}

-- If a token is consumed at the position taken last, then the token is consumed at the first open
-- position.
pub came_follows :
    (table : Table) (stated : ℕ) (prefix : List ℕ) (old new : Finding) (taken : Way) (asked : Expectation) (summary : Summary) → IsWay taken → way_positions old.way ≡ position_of asked (trail_in taken) ∷ way_positions taken
    → Comes table stated prefix (record old { way = taken }) asked summary new → Follows table stated prefix old summary new
came_follows table stated prefix old new taken asked summary is positions c = record {
  leads = λ back tokens made missed token is_token its held known passed.
      c.leads back tokens made missed token is_token its (record { is_way = is; types = held.types; marked = held.marked; found = held.found }) known
      (subst (λ ps. PassedBut back table tokens made ps missed) positions passed);
  refers = c.refers;
  w32 = c.w32;
  w64 = c.w64;
}

-- If the bytes begin with a token of the summary, then the result for the summary is the result for
-- the bytes.
pub runs_fast_by : (table : Table) (bytes : List ℕ) (old new : Finding) (summary : Summary) (len : ℕ) (fast : Fast) → IsSummaryBy bytes summary len → RunsFast table old summary len new fast → RunsFastBy table bytes old new fast
runs_fast_by table bytes old new summary len (fasts.Took n) by h = (summary, subst (IsSummaryBy bytes summary) (sym h.0) by, h.1)
runs_fast_by table bytes old new summary len fasts.Kept by h = h
runs_fast_by table bytes old new summary len fasts.Inconclusive by h = tt

-- ---- a reference

module _ (table : Table) (stated : ℕ) (prefix : List ℕ) (old : Finding) (t offset : ℕ) (some : 0 < stated) (first : 1 ≤ offset) (few : offset ≤ length old.types.items) where
  refers_back : (token : Token) → IsSummary (summaries.Shared offset) token → May (length old.types.items) stated token
  refers_back token its = subst (May (length old.types.items) stated) (sym its) ((first, few), λ none. absurd (omega (arith, some, none)))

  -- If a reference is required at the wildcard, then the state of the search after the reference is
  -- the state before it.
  pub comes_wildcard : IsWildcard table t → Comes table stated prefix old (asks.Type t) (summaries.Shared offset) old
  comes_wildcard wildcard = record {
    leads = λ back tokens made missed token is_token its held known passed.
        subst (λ u. LeadsTo back table prefix tokens made u old) (sym its) (leads back tokens made missed held known passed);
    refers = refers_back;
    w32 = λ token its. let none : of_object words32 (measure_of token) ≡ 0 = ap (λ u. of_object words32 (measure_of u)) its in omega (arith, none);
    w64 = λ token its. let none : of_object words64 (measure_of token) ≡ 0 = ap (λ u. of_object words64 (measure_of u)) its in omega (arith, none);
  } where
    leads : (back : List ℕ) (tokens : List Token) (made : List MadeObject) (missed : List Missed) → IsHeld back made missed old → Knows table prefix tokens old.seconds → PassedBut back table tokens made (record { asks = Some (of_type t); trail = trail_in old.way } ∷ way_positions old.way) missed → LeadsTo back table prefix tokens made (shared offset) old
    leads back tokens made missed held known passed =
        let further = fitting tokens made (of_type t) (trail_in old.way) (way_positions old.way) [] missed (shared offset) passed (inl wildcard, refl) in
        record {
          more = [];
          type = None;
          trail = [];
          missed = missed;
          passed = subst (λ bs. PassedBut bs table (tokens ++ shared offset ∷ []) (made ++ []) (way_positions old.way) missed) (sym (append-nil back)) further;
          held = held_kept back made missed old old held held.is_way refl refl refl;
          known = known;
        }

-- If a recorded number is not `no_type`, then the object has the type with this number.
type_there : (made : List MadeObject) (o n : ℕ) → slice_get (map held_type made) o ≡ Some n → (n ≡ no_type → ⊥) → (trail : List (ℕ × ℕ)) × (slice_get made o ≡ Some record { type = Some n; trail = trail })
type_there [] o n at some = absurd (none-some n at)
type_there (object ∷ made) zero n at some = (object.trail, by object.type refl) where
  by : (type : Option ℕ) → object.type ≡ type → Some object ≡ Some record { type = Some n; trail = object.trail }
  by None none = absurd (some (sym (same_Some (held_type object) n at) ∙ ap type_or_none none))
  by (Some u) is =
      let same : u ≡ n = sym (ap type_or_none is) ∙ same_Some (held_type object) n at in
      ap (λ type. Some record { type = type; trail = object.trail }) (is ∙ ap Some same)
type_there (object ∷ made) (suc o) n at some = type_there made o n at some

marks_kept : (marks : List Bool) (o p : ℕ) → slice_get marks p ≡ Some true → slice_get (set marks o true) p ≡ Some true
marks_kept [] o p at = at
marks_kept (mark ∷ marks) zero zero at = refl
marks_kept (mark ∷ marks) zero (suc p) at = at
marks_kept (mark ∷ marks) (suc o) zero at = at
marks_kept (mark ∷ marks) (suc o) (suc p) at = marks_kept marks o p at

mark_there : (marks : List Bool) (o : ℕ) → o < length marks → slice_get (set marks o true) o ≡ Some true
mark_there [] o short = absurd (omega (arith, short))
mark_there (mark ∷ marks) zero short = refl
mark_there (mark ∷ marks) (suc o) short = mark_there marks o (omega (arith, short))

-- If the mark of one more target is set, then the marks stay valid.
marked_more : (back : List ℕ) (marks new : List Bool) (o : ℕ) → AreMarked back marks → AlsoMarks marks o new → AreMarked (back ++ o ∷ []) new
marked_more back marks new o are also p among =
    let far = also.reaches in
    let reached : (q : ℕ) → slice_get marks q ≡ Some true → slice_get also.all q ≡ Some true =
    λ q at. subst (λ ms. slice_get ms q ≡ Some true) (sym far.marks) (slice_get-append_left marks (replicate far.more false) q true at) in
    subst (λ ms. slice_get ms p ≡ Some true) (sym also.marks)
    (⊎_elim
    (λ before. marks_kept also.all o p (reached p (are p before)))
    (λ last.
    let own : o ≡ p = ⊎_elim (λ same. same) (λ none. absurd (Contains-none {X = ℕ} p none)) (Contains-cases {X = ℕ} o [] p last) in
    subst (λ q. slice_get (set also.all o true) q ≡ Some true) own (mark_there also.all o far.within))
    (Contains-append_cases back (o ∷ []) p among))

-- Case: the target of the reference has the type and is marked.
pub comes_back :
    (table : Table) (stated : ℕ) (prefix : List ℕ) (old new : Finding) (t offset object : ℕ) → 0 < stated → 1 ≤ offset → offset ≤ length old.types.items
    → object ≡ length old.types.items - offset
    → ((tokens : List Token) (made : List MadeObject) → AreTypes old.types.items made → Knows table prefix tokens old.seconds → (HasFirst table made object t ⊎ IsPlain table tokens object t) × Knows table prefix tokens new.seconds)
    → AlsoMarks old.again.marks.items object new.again.marks.items
    → new.way ≡ old.way → new.types ≡ old.types → new.words ≡ old.words → new.found ≡ old.found → Comes table stated prefix old (asks.Type t) (summaries.Shared offset) new
comes_back table stated prefix old new t offset object some first few its_object has marks way types words found = record {
  leads = λ back tokens made missed token is_token its held known passed.
      subst (λ u. LeadsTo back table prefix tokens made u new) (sym its) (leads back tokens made missed held known passed);
  refers = refers_back table stated prefix old t offset some first few;
  w32 = λ token its. let none : of_object words32 (measure_of token) ≡ 0 = ap (λ u. of_object words32 (measure_of u)) its in let kept = ap (λ (w : Words). w.w32) words in omega (arith, none, kept);
  w64 = λ token its. let none : of_object words64 (measure_of token) ≡ 0 = ap (λ u. of_object words64 (measure_of u)) its in let kept = ap (λ (w : Words). w.w64) words in omega (arith, none, kept);
} where
  leads : (back : List ℕ) (tokens : List Token) (made : List MadeObject) (missed : List Missed) → IsHeld back made missed old → Knows table prefix tokens old.seconds → PassedBut back table tokens made (record { asks = Some (of_type t); trail = trail_in old.way } ∷ way_positions old.way) missed → LeadsTo back table prefix tokens made (shared offset) new
  leads back tokens made missed held known passed =
      let same_many : length old.types.items ≡ length made = many_held old.types.items made held.types in
      let both = has tokens made held.types known in
      let from : object ≡ length made - offset = its_object ∙ ap (λ n. n - offset) same_many in
      let noted : Contains (back ++ object ∷ []) object = Contains-append_right back (object ∷ []) object (Contains-first {X = ℕ} object []) in
      let led : IsLedBack (back ++ object ∷ []) table (IsPlain table tokens) made t offset = record {
        some = first;
        few = omega (arith, few, same_many);
        typed = subst (λ o. HasFirst table made o t ⊎ IsPlain table tokens o t) from both.0;
        noted = subst (Contains (back ++ object ∷ [])) from noted;
      } in
      let before = back_more table back (object ∷ []) tokens made (record { asks = Some (of_type t); trail = trail_in old.way } ∷ way_positions old.way) missed passed in
      let further = fitting tokens made (of_type t) (trail_in old.way) (way_positions old.way) [] missed (shared offset) before (inr led, refl) in
      record {
        more = object ∷ [];
        type = None;
        trail = [];
        missed = missed;
        passed = subst (λ (w : Way). PassedBut (back ++ object ∷ []) table (tokens ++ shared offset ∷ []) (made ++ []) (way_positions w) missed) (sym way) further;
        held = record {
          is_way = subst IsWay (sym way) held.is_way;
          types = subst (AreTypes new.types.items) (sym (append-nil made)) (subst (λ (v : Vec ℕ). AreTypes v.items made) (sym types) held.types);
          marked = marked_more back old.again.marks.items new.again.marks.items object held.marked marks;
          found = subst (λ f. AreMissedAt f missed) (sym found) held.found;
        };
        known = both.1;
      }

-- The target of the reference has the type as its first type.
pub has_first :
    (table : Table) (prefix : List ℕ) (types : List ℕ) (old new : SecondReads) (t object own : ℕ) → slice_get types object ≡ Some own → (own ≡ no_type → ⊥) → (table_shapes table).equal own t → new ≡ old
    → (tokens : List Token) (made : List MadeObject) → AreTypes types made → Knows table prefix tokens old → (HasFirst table made object t ⊎ IsPlain table tokens object t) × Knows table prefix tokens new
has_first table prefix types old new t object own at typed equal same tokens made are known =
    let there = type_there made object own (ap (λ ts. slice_get ts object) (sym are.0) ∙ at) typed in
    (inl record { type = own; trail = there.0; at = there.1; equal = equal }, subst (Knows table prefix tokens) (sym same) known)

-- The target of the reference has the type as a second type, by its tokens.
pub has_second :
    (table : Table) (prefix : List ℕ) (types : List ℕ) (old new : SecondReads) (t object : ℕ) → Shows table prefix old object t new
    → (tokens : List Token) (made : List MadeObject) → AreTypes types made → Knows table prefix tokens old → (HasFirst table made object t ⊎ IsPlain table tokens object t) × Knows table prefix tokens new
has_second table prefix types old new t object shows tokens made are known = let both = shows tokens known in (inr both.0, both.1)
