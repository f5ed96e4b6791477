-- Links, and the positions to which the links lead.
use Rattle.std.proofs.Common.{ℕ, zero, suc, ◌+◌, ◌-◌, ◌^◌, ◌<◌, ◌≤◌, ◌≡◌, ◌∙◌, ◌⊎◌, ⊎_elim, inl, inr, List, [], ◌∷◌, ◌++◌, length, map, get_or, take, drop, drop-cons, set, Option, Some, None, refl, sym, ap, subst, arith, vec_len}
use Rattle.std.specs.Prelude.{slice_get, replicate, All, MatchOption}
use Rattle.std.specs.Global.{Vec}
use Rattle.std.specs.Borrow.{Bor}
use Rattle.std.proofs.lemmas.List.{append_assoc, append-nil, take-append-le, take_at, length-append, nil_from_length}
use Rattle.std.proofs.lemmas.List.Elements.{All-nil, All-push, All-pop}
use Rattle.std.proofs.lemmas.Option.{none-some, same_Some}
use Rattle.base_data.proofs.model.Lists.{slice_get-last}
use Rattle.check_stream.specs.theory.AskedNeeds.{Need, of_type, hash_of, values_in}
use Rattle.types_spec.specs.declared.types.shape.PolyTag.{PolyTag}
use Rattle.check_stream.specs.declared.checker.open_positions.BlockPositions.{BlockPositions}
use Rattle.check_stream.specs.declared.checker.open_positions.BlockPositions.TheVariants as opens
use Rattle.check_stream.specs.checker.OpenPositions.{open_needs}
use Rattle.check_stream.specs.mismatch_theory.PassedBut.{OpenPosition, positions_of, field_after, values_at}
use Rattle.check_stream.proofs.mismatch_theory.MismatchStatedLemmas.{values_at-append, values_at-unasked}
use Rattle.check_stream.specs.declared.mismatch_search.way.Expectation.{Expectation}
use Rattle.check_stream.specs.declared.mismatch_search.way.Expectation.TheVariants as asks
use Rattle.check_stream.specs.declared.mismatch_search.way.BlockExpectations.{BlockExpectations}
use Rattle.check_stream.specs.declared.mismatch_search.way.BlockExpectations.TheVariants as lefts
use Rattle.check_stream.specs.declared.mismatch_search.way.Link.{Link}
use Rattle.check_stream.specs.declared.mismatch_search.way.Wait.{Wait}
use Rattle.check_stream.specs.declared.mismatch_search.way.Way.{Way}
use Rattle.check_stream.specs.mismatch_search.SearchTrail.{trail_of, trail_in, own_field, position_trail, position_of, unasked_position, positions_asked, positions_left, left_values, wait_positions, waiting_positions, way_positions, opened_positions, AreAround, IsSmall, IsWay, IsSplit, ArePointed, PointsTo, KeepsWaiting, IsAfterHash, OnHash, OpensAt}

abbrev pair : Link → ℕ × ℕ
pair link = (link.object, link.field)

-- If a link is appended to the links, then the trail begins with the appended link.
pub trail_of_push : (links : List Link) (last : Link) → trail_of (links ++ last ∷ []) ≡ pair last ∷ trail_of links
trail_of_push [] last = refl
trail_of_push (link ∷ links) last = ap (λ trail. trail ++ pair link ∷ []) (trail_of_push links last)

-- ---- links that lead to the same positions

-- Up to the given depth, the two lists of links lead to the same positions.
pub record Agree (depth : ℕ) (xs ys : List Link) : Type 0 where
  pub trails : (d k : ℕ) → d ≤ depth → position_trail xs d k ≡ position_trail ys d k

module _ (depth : ℕ) (xs ys : List Link) (agree : Agree depth xs ys) where
  asked_agree : (d k : ℕ) (needs : List Need) → d ≤ depth → positions_asked xs d k needs ≡ positions_asked ys d k needs
  asked_agree d k [] within = refl
  asked_agree d k (need ∷ needs) within =
      let position : ◌≡◌ {A = OpenPosition} record { asks = Some need; trail = position_trail xs d k } record { asks = Some need; trail = position_trail ys d k } =
      ap (λ trail. record { asks = Some need; trail = trail }) (agree.trails d k within) in
      ap (λ p. p ∷ positions_asked xs d (k + values_in (need ∷ [])) needs) position
      ∙ ap (λ ps. record { asks = Some need; trail = position_trail ys d k } ∷ ps) (asked_agree d (k + values_in (need ∷ [])) needs within)

  left_agree : (d k : ℕ) (left : BlockExpectations) → d ≤ depth → positions_left xs d k left ≡ positions_left ys d k left
  left_agree d k (lefts.Asked open') within = asked_agree d k (open_needs open') within
  left_agree d k (lefts.Unasked count) within = refl

  pub wait_agree : (wait : Wait) → wait.depth ≤ depth → wait_positions xs wait ≡ wait_positions ys wait
  wait_agree wait within = left_agree wait.depth wait.next wait.left within

  pub waiting_agree : (waits : List Wait) → AreAround waits depth → waiting_positions xs waits ≡ waiting_positions ys waits
  waiting_agree [] around = refl
  waiting_agree (wait ∷ waits) around =
      let first = around.0 in
      ap (λ ps. ps ++ wait_positions xs wait) (waiting_agree waits around.2)
      ∙ ap (λ ps. waiting_positions ys waits ++ ps) (wait_agree wait (omega (arith, first)))

-- ---- one more link

got_prefix : (xs ys : List Link) (d : ℕ) → d < length xs → slice_get (xs ++ ys) d ≡ slice_get xs d
got_prefix [] ys d short = absurd (omega (arith, short))
got_prefix (x ∷ xs) ys zero short = refl
got_prefix (x ∷ xs) ys (suc d) short = got_prefix xs ys d (omega (arith, short))

pub push_agree : (links more : List Link) → Agree (length links) (links ++ more) links
push_agree links more = record { trails = trails } where
  trails : (d k : ℕ) → d ≤ length links → position_trail (links ++ more) d k ≡ position_trail links d k
  trails zero k within = refl
  trails (suc d) k within =
      ap (λ own. own_field own k ++ trail_of (take d (links ++ more))) (got_prefix links more d (omega (arith, within)))
      ∙ ap (λ prefix. own_field (slice_get links d) k ++ trail_of prefix) (take-append-le d links more (omega (arith, within)))

-- The trail to field `k` of the object of the last link begins with this object and `k`.
pushed_trail : (links : List Link) (last : Link) (k : ℕ) → position_trail (links ++ last ∷ []) (suc (length links)) k ≡ (last.object, k) ∷ trail_of links
pushed_trail links last k =
    ap (λ own. own_field own k ++ trail_of (take (length links) (links ++ last ∷ []))) (slice_get-last links last)
    ∙ ap (λ prefix. (last.object, k) ∷ trail_of prefix) (take_at links (last ∷ []) (length links) refl)

pushed_asked : (links : List Link) (last : Link) (k : ℕ) (needs : List Need) → positions_asked (links ++ last ∷ []) (suc (length links)) k needs ≡ positions_of last.object (trail_of links) k needs
pushed_asked links last k [] = refl
pushed_asked links last k (need ∷ needs) =
    let d = suc (length links) in
    let all = links ++ last ∷ [] in
    let next = k + values_in (need ∷ []) in
    let position : ◌≡◌ {A = OpenPosition} record { asks = Some need; trail = position_trail (links ++ last ∷ []) (suc (length links)) k } record { asks = Some need; trail = (last.object, k) ∷ trail_of links } =
    ap (λ trail. record { asks = Some need; trail = trail }) (pushed_trail links last k) in
    ap (λ p. p ∷ positions_asked all d next needs) position
    ∙ ap (λ ps. record { asks = Some need; trail = (last.object, k) ∷ trail_of links } ∷ ps) (pushed_asked links last next needs)

pub pushed_positions : (links : List Link) (last : Link) (left : BlockExpectations) → positions_left (links ++ last ∷ []) (suc (length links)) 0 left ≡ opened_positions last.object (trail_of links) left
pushed_positions links last (lefts.Asked open') = pushed_asked links last 0 (open_needs open')
pushed_positions links last (lefts.Unasked count) = refl

-- ---- the field of the last block

-- If two lists of links differ only in the field of the last link, then the lists lead to equal
-- positions up to the last link's block.
pub turned_agree : (links : List Link) (one two : Link) → one.object ≡ two.object → Agree (length links + 1) (links ++ two ∷ []) (links ++ one ∷ [])
turned_agree links one two same = record { trails = trails } where
  trails : (d k : ℕ) → d ≤ length links + 1 → position_trail (links ++ two ∷ []) d k ≡ position_trail (links ++ one ∷ []) d k
  trails zero k within = refl
  trails (suc d) k within = by (less_or_same d (length links) (omega (arith, within))) where
    less_or_same : (d n : ℕ) → d ≤ n → (d < n) ⊎ (d ≡ n)
    less_or_same zero zero most = inr refl
    less_or_same zero (suc n) most = inl (omega arith)
    less_or_same (suc d) zero most = absurd (omega (arith, most))
    less_or_same (suc d) (suc n) most = ⊎_elim (λ less. inl (omega (arith, less))) (λ is. inr (ap suc is)) (less_or_same d n (omega (arith, most)))

    by : (d < length links) ⊎ (d ≡ length links) → position_trail (links ++ two ∷ []) (suc d) k ≡ position_trail (links ++ one ∷ []) (suc d) k
    by (inl less) =
        let lower : suc d ≤ length links = omega (arith, less) in
        let first = push_agree links (two ∷ []) in
        let second = push_agree links (one ∷ []) in
        first.trails (suc d) k lower ∙ sym (second.trails (suc d) k lower)
    by (inr is) =
        subst (λ n. position_trail (links ++ two ∷ []) (suc n) k ≡ position_trail (links ++ one ∷ []) (suc n) k) (sym is)
        (pushed_trail links two k ∙ ap (λ o. (o, k) ∷ trail_of links) (sym same) ∙ sym (pushed_trail links one k))

-- ---- the waiting blocks

pub around_within : (waits : List Wait) (d e : ℕ) → d ≤ e → AreAround waits d → AreAround waits e
around_within [] d e less around = tt
around_within (wait ∷ waits) d e less around =
    let first = around.0 in (omega (arith, first, less), around.1, around_within waits d e less around.2)

around_push : (waits : List Wait) (last : Wait) (d : ℕ) → AreAround waits last.depth → last.depth < d → AreAround (waits ++ last ∷ []) d
around_push [] last d around deep = (deep, All-nil (λ (inside : Wait). last.depth < inside.depth), tt)
around_push (wait ∷ waits) last d around deep =
    let first = around.0 in (
      omega (arith, first, deep),
      All-push (λ (inside : Wait). wait.depth < inside.depth) waits last around.1 around.0,
      around_push waits last d around.2 deep,
    )

around_pop : (waits : List Wait) (last : Wait) (d : ℕ) → AreAround (waits ++ last ∷ []) d → (last.depth < d) × AreAround waits last.depth
around_pop [] last d around = (around.0, tt)
around_pop (wait ∷ waits) last d around =
    let later = around_pop waits last d around.2 in
    let both = All-pop (λ (inside : Wait). wait.depth < inside.depth) (waits ++ last ∷ []) waits (Some last) refl around.1 in
    (later.0, (both.1, both.0, later.1))

waiting_push : (links : List Link) (waits : List Wait) (last : Wait) → waiting_positions links (waits ++ last ∷ []) ≡ wait_positions links last ++ waiting_positions links waits
waiting_push links [] last = sym (append-nil (wait_positions links last))
waiting_push links (first ∷ waits) last =
    ap (λ positions. positions ++ wait_positions links first) (waiting_push links waits last) ∙ append_assoc (wait_positions links last) (waiting_positions links waits) (wait_positions links first)

-- ---- no pending value

no_needs : (needs : List Need) → values_in needs ≡ 0 → needs ≡ []
no_needs [] none = refl
no_needs (of_type t ∷ needs) none = absurd (omega (arith, none))
no_needs (hash_of tags ∷ needs) none = absurd (omega (arith, none))

none_left : (links : List Link) (d k : ℕ) (left : BlockExpectations) → left_values left ≡ 0 → positions_left links d k left ≡ []
none_left links d k (lefts.Asked open') none = ap (λ needs. positions_asked links d k needs) (no_needs (open_needs open') none)
none_left links d k (lefts.Unasked count) none = ap (λ n. replicate n unasked_position) none

pub none_opened : (o : ℕ) (trail : List (ℕ × ℕ)) (left : BlockExpectations) → left_values left ≡ 0 → opened_positions o trail left ≡ []
none_opened o trail (lefts.Asked open') none = ap (λ needs. positions_of o trail 0 needs) (no_needs (open_needs open') none)
none_opened o trail (lefts.Unasked count) none = ap (λ n. replicate n unasked_position) none

-- ---- pointing to a position

-- The old links are truncated after the block at depth `d`, and the field of the last link is
-- changed.
record IsTruncated (old : List Link) (d : ℕ) (one two : Link) : Type 0 where
  prefix : List Link
  rest : List Link
  whole : old ≡ (prefix ++ one ∷ []) ++ rest
  long : length prefix ≡ d
  truncated : set (take (suc d) old) d two ≡ prefix ++ two ∷ []

truncated_at : (old : List Link) (d : ℕ) (one two : Link) → slice_get old d ≡ Some one → IsTruncated old d one two
truncated_at [] d one two at = absurd (none-some one at)
truncated_at (link ∷ old) zero one two at =
    record { prefix = []; rest = old; whole = ap (λ l. l ∷ old) (same_Some link one at); long = refl; truncated = refl }
truncated_at (link ∷ old) (suc d) one two at =
    let c = truncated_at old d one two at in
    record {
      prefix = link ∷ c.prefix;
      rest = c.rest;
      whole = ap (λ ls. link ∷ ls) c.whole;
      long = ap suc c.long;
      truncated = ap (λ ls. link ∷ ls) c.truncated;
    }

pub pointed_root : (old : List Link) (field : ℕ) → ArePointed old [] 0 field
pointed_root old field = record { deep = refl; trail = refl; agree = agree } where
  agree : (d k : ℕ) → d ≤ 0 → position_trail [] d k ≡ position_trail old d k
  agree zero k within = refl
  agree (suc d) k within = absurd (omega (arith, within))

pub pointed_at : (old : List Link) (d field : ℕ) (one two : Link) → slice_get old d ≡ Some one → two.object ≡ one.object → two.field ≡ field → ArePointed old (set (take (suc d) old) d two) (suc d) field
pointed_at old d field one two at same is =
    let c = truncated_at old d one two at in
    let turned = turned_agree c.prefix one two (sym same) in
    let pushed = push_agree (c.prefix ++ one ∷ []) c.rest in
    let many : length (c.prefix ++ one ∷ []) ≡ suc d = let both = length-append c.prefix (one ∷ []) in let l = c.long in omega (arith, both, l) in
    let long : length (c.prefix ++ two ∷ []) ≡ suc d = let both = length-append c.prefix (two ∷ []) in let l = c.long in omega (arith, both, l) in
    let before : take d old ≡ c.prefix = ap (take d) (c.whole ∙ append_assoc c.prefix (one ∷ []) c.rest) ∙ take_at c.prefix (one ∷ c.rest) d c.long in
    let trail : trail_of (c.prefix ++ two ∷ []) ≡ position_trail old (suc d) field =
    trail_of_push c.prefix two
    ∙ ap (λ p. p ∷ trail_of c.prefix) (pair_same two one field same is)
    ∙ ap (λ links. (one.object, field) ∷ trail_of links) (sym before)
    ∙ ap (λ own. own_field own field ++ trail_of (take d old)) (sym at) in
    subst (λ new. ArePointed old new (suc d) field) (sym c.truncated) record {
      deep = long;
      trail = trail;
      agree = λ e k within.
          turned.trails e k (let l = c.long in omega (arith, within, l))
          ∙ sym (pushed.trails e k (omega (arith, within, many)))
          ∙ ap (λ links. position_trail links e k) (sym c.whole);
    } where
      pair_same : (two one : Link) (field : ℕ) → two.object ≡ one.object → two.field ≡ field → ◌≡◌ {A = ℕ × ℕ} (two.object, two.field) (one.object, field)
      pair_same two one field same is = ap (λ o. (o, two.field)) same ∙ ap (λ k. (one.object, k)) is

pub points_root : (old new : List Link) (depth field : ℕ) → new ≡ take depth old → depth ≡ 0 → ArePointed old new depth field
points_root old new depth field truncated none =
    let empty : new ≡ [] = truncated ∙ ap (λ d. take d old) none in
    subst (λ d. ArePointed old new d field) (sym none) (subst (λ ls. ArePointed old ls 0 field) (sym empty) (pointed_root old field))

got_take : (xs : List Link) (d : ℕ) → slice_get (take (suc d) xs) d ≡ slice_get xs d
got_take [] d = refl
got_take (x ∷ xs) zero = refl
got_take (x ∷ xs) (suc d) = got_take xs d

pub points_at : (old truncated new : List Link) (d depth field : ℕ) (one two : Link) → truncated ≡ take depth old → suc d ≡ depth → slice_get truncated d ≡ Some one → new ≡ set truncated d two → two.object ≡ one.object → two.field ≡ field → ArePointed old new depth field
points_at old truncated new d depth field one two is next at written same own =
    let all : truncated ≡ take (suc d) old = is ∙ ap (λ n. take n old) (sym next) in
    let there : slice_get old d ≡ Some one = sym (got_take old d) ∙ ap (λ ls. slice_get ls d) (sym all) ∙ at in
    let its : new ≡ set (take (suc d) old) d two = written ∙ ap (λ ls. set ls d two) all in
    subst (λ n. ArePointed old new n field) next (subst (λ ls. ArePointed old ls (suc d) field) (sym its) (pointed_at old d field one two there same own))

-- If the links are pointed to a field, then the open positions stay equal.
module _ (old new : List Link) (depth field : ℕ) (pointed : ArePointed old new depth field) where
  pointed_agree : Agree depth new old
  pointed_agree = record { trails = pointed.agree }

  pub pointed_waiting : (waits : List Wait) → AreAround waits depth → waiting_positions new waits ≡ waiting_positions old waits
  pointed_waiting waits around = waiting_agree depth new old pointed_agree waits around

  pub pointed_left : (k : ℕ) (left : BlockExpectations) → positions_left new depth k left ≡ positions_left old depth k left
  pointed_left k left = left_agree depth new old pointed_agree depth k left (omega arith)

-- ---- the first position of a block

pub first_listed : (types : List ℕ) → 0 < length types → map of_type types ≡ of_type (get_or types 0 0) ∷ map of_type (drop 1 types)
first_listed [] some = absurd (omega (arith, some))
first_listed (t ∷ types) some = refl

pub first_each : (n t : ℕ) → 0 < n → map of_type (replicate n t) ≡ of_type t ∷ map of_type (replicate (n - 1) t)
first_each zero t some = absurd (omega (arith, some))
first_each (suc n) t some = let less : n ≡ suc n - 1 = omega arith in ap (λ m. of_type t ∷ map of_type (replicate m t)) less

pub split_type : (left : BlockExpectations) (open' others : BlockPositions) (t : ℕ) → left ≡ lefts.Asked open' → open_needs open' ≡ of_type t ∷ open_needs others → IsSplit left (asks.Type t) (lefts.Asked others) 1
split_type left open' others t is first = subst (λ l. IsSplit l (asks.Type t) (lefts.Asked others) 1) (sym is) record {
  values = let many : values_in (open_needs open') ≡ suc (values_in (open_needs others)) = ap values_in first in omega (arith, many);
  positions = λ links depth next. ap (λ needs. positions_asked links depth next needs) first;
  hash = tt;
}

split_tagged : (left : BlockExpectations) (tags : Bor (List (PolyTag ℕ))) → left ≡ lefts.Asked (opens.Tagged tags) → IsSplit left (asks.Hash tags) (lefts.Asked (opens.Each 0 0)) 2
split_tagged left tags is = subst (λ l. IsSplit l (asks.Hash tags) (lefts.Asked (opens.Each 0 0)) 2) (sym is) record {
  values = refl;
  positions = λ links depth next. refl;
  hash = (refl, refl);
}

pub split_hash : (positions : BlockPositions) (tags : Bor (List (PolyTag ℕ))) → positions ≡ opens.Tagged tags → IsSplit (lefts.Asked positions) (asks.Hash tags) (lefts.Asked (opens.Each 0 0)) 2
split_hash positions tags is = split_tagged (lefts.Asked positions) tags (ap lefts.Asked is)

-- If the positions of a block are split, then the result of the split is right for the block's
-- expectations.
pub split_same : (left : BlockExpectations) (positions : BlockPositions) (result : Option (Expectation × BlockExpectations × ℕ)) → left ≡ lefts.Asked positions
    → MatchOption result (left_values (lefts.Asked positions) ≡ 0) (λ first. IsSplit (lefts.Asked positions) first.0 first.1 first.2) → MatchOption result (left_values left ≡ 0) (λ first. IsSplit left first.0 first.1 first.2)
split_same left positions None is none = ap left_values is ∙ none
split_same left positions (Some first) is own = subst (λ l. IsSplit l first.0 first.1 first.2) (sym is) own

first_unasked : (n : ℕ) → 0 < n → replicate n unasked_position ≡ unasked_position ∷ replicate (n - 1) unasked_position
first_unasked zero some = absurd (omega (arith, some))
first_unasked (suc n) some = let less : n ≡ suc n - 1 = omega arith in ap (λ m. unasked_position ∷ replicate m unasked_position) less

pub split_unasked : (left : BlockExpectations) (count : ℕ) → left ≡ lefts.Unasked count → 0 < count → IsSplit left asks.Nothing (lefts.Unasked (count - 1)) 1
split_unasked left count is some = subst (λ l. IsSplit l asks.Nothing (lefts.Unasked (count - 1)) 1) (sym is) record {
  values = omega (arith, some);
  positions = λ links depth next. first_unasked count some;
  hash = tt;
}

-- ---- the first open position is taken

-- `new` is `old` without the first open position. The first open position expects `asked`, and the
-- links of `new` lead to the first open position.
pub record IsTaken (old : Way) (asked : Expectation) (new : Way) : Type 0 where
  pub is_way : IsWay new
  pub positions : way_positions old ≡ position_of asked (trail_in new) ∷ way_positions new
  pub hash : OnHash asked (IsAfterHash new)

abbrev pub taken_way : Way → ℕ → BlockExpectations → Way
taken_way pointed next others = record { now = record { depth = pointed.now.depth; next = next; left = others }; waiting = pointed.waiting; links = pointed.links }

-- The trail of field `k + 1` of a block is the trail of the field after field `k`.
after_own : (links : List Link) (d k : ℕ) → d ≤ length links → position_trail links d (suc k) ≡ field_after (position_trail links d k)
after_own links zero k within = refl
after_own links (suc d) k within = by (slice_get links d) refl where
  by : (own : Option Link) → slice_get links d ≡ own → own_field own (suc k) ++ trail_of (take d links) ≡ field_after (own_field own k ++ trail_of (take d links))
  by None none = absurd (none_short links d none (omega (arith, within))) where
    none_short : (xs : List Link) (d : ℕ) → slice_get xs d ≡ None → d < length xs → ⊥
    none_short [] d none short = omega (arith, short)
    none_short (x ∷ xs) zero none short = none-some x (sym none)
    none_short (x ∷ xs) (suc d) none short = none_short xs d none (omega (arith, short))
  by (Some link) is = refl

module _ (old pointed : Way) (asked : Expectation) (others : BlockExpectations) (values : ℕ) (is : IsWay old) (points : PointsTo old old.now.next pointed) (split : IsSplit old.now.left asked others values) where
  abbrev next : ℕ
  next = old.now.next + values

  abbrev new : Way
  new = taken_way pointed next others

  same_depth : pointed.now.depth ≡ old.now.depth
  same_depth = ap (λ (w : Wait). w.depth) points.now

  taken_is_way : IsWay new
  taken_is_way = record {
    deep = let long = points.links.deep in omega (arith, long, same_depth);
    small = let room = is.small in let sum = split.values in omega (arith, room, sum);
    around = subst (AreAround pointed.waiting.items) (sym same_depth) (subst (λ (v : Vec Wait). AreAround v.items old.now.depth) (sym points.waiting) is.around);
    all_small = subst (λ (v : Vec Wait). All IsSmall v.items) (sym points.waiting) is.all_small;
  }

  -- The old and the new links give equal positions after the first open position.
  others_same : way_positions new ≡ positions_left old.links.items old.now.depth next others ++ waiting_positions old.links.items old.waiting.items
  others_same =
      ap (λ d. positions_left pointed.links.items d next others ++ waiting_positions pointed.links.items pointed.waiting.items) same_depth
      ∙ ap (λ (v : Vec Wait). positions_left pointed.links.items old.now.depth next others ++ waiting_positions pointed.links.items v.items) points.waiting
      ∙ ap (λ ps. ps ++ waiting_positions pointed.links.items old.waiting.items) (pointed_left old.links.items pointed.links.items old.now.depth old.now.next points.links next others)
      ∙ ap (λ ps. positions_left old.links.items old.now.depth next others ++ ps) (pointed_waiting old.links.items pointed.links.items old.now.depth old.now.next points.links old.waiting.items is.around)

  taken_positions : way_positions old ≡ position_of asked (trail_in new) ∷ way_positions new
  taken_positions =
      ap (λ ps. ps ++ waiting_positions old.links.items old.waiting.items) (split.positions old.links.items old.now.depth old.now.next)
      ∙ ap (λ trail. position_of asked trail ∷ (positions_left old.links.items old.now.depth next others ++ waiting_positions old.links.items old.waiting.items)) (sym points.links.trail)
      ∙ ap (λ ps. position_of asked (trail_in new) ∷ ps) (sym others_same)

  after_hash : (values ≡ 2) × (left_values others ≡ 0) → IsAfterHash new
  after_hash two =
      let before : next - 1 ≡ suc old.now.next = let v = two.0 in omega (arith, v) in
      let deep : old.now.depth ≤ length pointed.links.items = let long = points.links.deep in omega (arith, long) in
      record {
        none = two.1;
        some = let v = two.0 in omega (arith, v);
        after =
            ap (λ k. position_trail pointed.links.items pointed.now.depth k) before
            ∙ ap (λ d. position_trail pointed.links.items d (suc old.now.next)) same_depth
            ∙ after_own pointed.links.items old.now.depth old.now.next deep
            ∙ ap field_after (points.links.agree old.now.depth old.now.next (omega arith) ∙ sym points.links.trail);
      }

  on_hash : (a : Expectation) → OnHash a ((values ≡ 2) × (left_values others ≡ 0)) → OnHash a (IsAfterHash new)
  on_hash (asks.Type t) two = tt
  on_hash (asks.Hash tags) two = after_hash two
  on_hash asks.Nothing two = tt

  pub taken_first : IsTaken old asked new
  taken_first = record { is_way = taken_is_way; positions = taken_positions; hash = on_hash asked split.hash }

-- If the first open position is removed, then the remaining positions stay equal, and the links do
-- not change.
pub passed_first : (old : Way) (asked : Expectation) (others : BlockExpectations) (values : ℕ) → IsWay old → IsSplit old.now.left asked others values
    → IsWay (taken_way old (old.now.next + values) others) × (way_positions old ≡ position_of asked (position_trail old.links.items old.now.depth old.now.next) ∷ way_positions (taken_way old (old.now.next + values) others))
passed_first old asked others values is split = (
  record {
    deep = is.deep;
    small = let room = is.small in let sum = split.values in omega (arith, room, sum);
    around = is.around;
    all_small = is.all_small;
  },
  ap (λ ps. ps ++ waiting_positions old.links.items old.waiting.items) (split.positions old.links.items old.now.depth old.now.next),
)

-- ---- a block is complete

abbrev pub popped_way : Way → Wait → Vec Wait → Way
popped_way old block waiting = record { now = block; waiting = waiting; links = old.links }

pub popped : (old : Way) (block : Wait) (waiting : Vec Wait) → IsWay old → left_values old.now.left ≡ 0 → old.waiting.items ≡ waiting.items ++ block ∷ [] → IsWay (popped_way old block waiting) × (way_positions (popped_way old block waiting) ≡ way_positions old)
popped old block waiting is none split =
    let both = around_pop waiting.items block old.now.depth (subst (λ ws. AreAround ws old.now.depth) split is.around) in
    let small = All-pop IsSmall old.waiting.items waiting.items (Some block) split is.all_small in (
      record {
        deep = let inside = both.0 in let deep = is.deep in omega (arith, inside, deep);
        small = small.1;
        around = both.1;
        all_small = small.0;
      },
      sym (
          ap (λ ps. ps ++ waiting_positions old.links.items old.waiting.items) (none_left old.links.items old.now.depth old.now.next old.now.left none)
          ∙ ap (waiting_positions old.links.items) split
          ∙ waiting_push old.links.items waiting.items block),
    )

pub all_done : (old : Way) (waiting : Vec Wait) → IsWay old → left_values old.now.left ≡ 0 → old.waiting.items ≡ waiting.items ++ [] → vec_len old.waiting ≡ 0 → IsWay (popped_way old old.now waiting) × (way_positions (popped_way old old.now waiting) ≡ [])
all_done old waiting is none split empty =
    let nothing : old.waiting.items ≡ [] = nil_from_length old.waiting.items (let long = old.waiting.ok.0 in omega (arith, long, empty)) in
    let same : old.waiting.items ≡ waiting.items = split ∙ append-nil waiting.items in (
      record {
        deep = is.deep;
        small = is.small;
        around = subst (λ ws. AreAround ws old.now.depth) same is.around;
        all_small = subst (All IsSmall) same is.all_small;
      },
      ap (λ ps. ps ++ waiting_positions old.links.items waiting.items) (none_left old.links.items old.now.depth old.now.next old.now.left none)
          ∙ ap (waiting_positions old.links.items) (sym same ∙ nothing),
    )

-- ---- the number of pending values

needs_many : (links : List Link) (depth k : ℕ) (needs : List Need) → values_at (positions_asked links depth k needs) ≡ values_in needs
needs_many links depth k [] = refl
needs_many links depth k (of_type t ∷ needs) = let same = needs_many links depth (k + values_in (of_type t ∷ [])) needs in omega (arith, same)
needs_many links depth k (hash_of tags ∷ needs) = let same = needs_many links depth (k + values_in (hash_of tags ∷ [])) needs in omega (arith, same)

left_many : (links : List Link) (depth k : ℕ) (left : BlockExpectations) → values_at (positions_left links depth k left) ≡ left_values left
left_many links depth k (lefts.Asked open') = needs_many links depth k (open_needs open')
left_many links depth k (lefts.Unasked count) = values_at-unasked count

pub way_many : (way : Way) → values_at (way_positions way) ≡ left_values way.now.left + values_at (waiting_positions way.links.items way.waiting.items)
way_many way =
    let links = way.links.items in
    let both = values_at-append (wait_positions links way.now) (waiting_positions links way.waiting.items) in
    let own = left_many links way.now.depth way.now.next way.now.left in
    omega (arith, both, own)

-- The values of one waiting block and the values of the blocks after the block add up.
pub waiting_less :
    (links : List Link) (waits : List Wait) (at n : ℕ) (default : Wait) → at < length waits → n ≡ left_values (get_or waits at default).left
    → values_at (waiting_positions links (drop at waits)) ≡ values_at (waiting_positions links (drop (at + 1) waits)) + n
waiting_less links waits at n default short same =
    let wait : Wait = get_or waits at default in
    let next : suc at ≡ at + 1 = omega arith in
    let split : drop at waits ≡ wait ∷ drop (at + 1) waits = drop-cons waits at default short ∙ ap (λ k. wait ∷ drop k waits) next in
    let own = left_many links wait.depth wait.next wait.left in
    ap (λ blocks. values_at (waiting_positions links blocks)) split
    ∙ values_at-append (waiting_positions links (drop (at + 1) waits)) (wait_positions links wait)
    ∙ ap (λ m. values_at (waiting_positions links (drop (at + 1) waits)) + m) (own ∙ sym same)

-- ---- an object is opened

pub kept_none : (old : Way) → IsWay old → left_values old.now.left ≡ 0 → KeepsWaiting old old
kept_none old is none = record {
  links = refl;
  positions = λ links. sym (ap (λ ps. ps ++ waiting_positions links old.waiting.items) (none_left links old.now.depth old.now.next old.now.left none));
  around = around_within old.waiting.items old.now.depth (old.now.depth + 1) (omega arith) is.around;
  all_small = is.all_small;
}

pub kept_some : (old new : Way) → IsWay old → new.links ≡ old.links → new.waiting.items ≡ old.waiting.items ++ old.now ∷ [] → KeepsWaiting old new
kept_some old new is links pushed = record {
  links = links;
  positions = λ links'. ap (waiting_positions links') pushed ∙ waiting_push links' old.waiting.items old.now;
  around = subst (λ ws. AreAround ws (old.now.depth + 1)) (sym pushed) (around_push old.waiting.items old.now (old.now.depth + 1) is.around (omega arith));
  all_small = subst (All IsSmall) (sym pushed) (All-push IsSmall old.waiting.items old.now is.all_small is.small);
}

pub opened : (old kept new : Way) (object : ℕ) (left : BlockExpectations) → IsWay old → KeepsWaiting old kept → new.links.items ≡ kept.links.items ++ record { object = object; field = 0 } ∷ [] → new.waiting ≡ kept.waiting
    → new.now.depth ≡ length new.links.items → new.now.next ≡ 0 → new.now.left ≡ left → left_values left < 2 ^ 32 → IsWay new × OpensAt old object left new
opened old kept new object left is keeps pushed waiting depth next its small =
    let links = old.links.items in
    let last : Link = record { object = object; field = 0 } in
    let all : new.links.items ≡ links ++ last ∷ [] = pushed ∙ ap (λ (v : Vec Link). v.items ++ last ∷ []) keeps.links in
    let long : length new.links.items ≡ suc (length links) = let both = length-append links (last ∷ []) in let same = ap length all in omega (arith, both, same) in
    let deep : new.now.depth ≡ suc (length links) = depth ∙ long in
    let within = is.deep in
    let around : AreAround kept.waiting.items (suc (length links)) = around_within kept.waiting.items (old.now.depth + 1) (suc (length links)) (omega (arith, within)) keeps.around in
    let agree = push_agree links (last ∷ []) in
    let inside : wait_positions new.links.items new.now ≡ opened_positions object (trail_of links) left =
    ap (λ ls. positions_left ls new.now.depth new.now.next new.now.left) all
    ∙ ap (λ d. positions_left (links ++ last ∷ []) d new.now.next new.now.left) deep
    ∙ ap (λ k. positions_left (links ++ last ∷ []) (suc (length links)) k new.now.left) next
    ∙ ap (positions_left (links ++ last ∷ []) (suc (length links)) 0) its
    ∙ pushed_positions links last left in
    let around_now : waiting_positions new.links.items new.waiting.items ≡ way_positions old =
    ap (λ ls. waiting_positions ls new.waiting.items) all
    ∙ ap (λ (v : Vec Wait). waiting_positions (links ++ last ∷ []) v.items) waiting
    ∙ keeps.positions (links ++ last ∷ [])
    ∙ ap (λ ps. ps ++ waiting_positions (links ++ last ∷ []) old.waiting.items) (wait_agree (length links) (links ++ last ∷ []) links agree old.now within)
    ∙ ap (λ ps. wait_positions links old.now ++ ps) (waiting_agree (length links) (links ++ last ∷ []) links agree old.waiting.items (around_within old.waiting.items old.now.depth (length links) within is.around)) in (
      record {
        deep = omega (arith, depth);
        small = subst (λ k. k + left_values new.now.left < 2 ^ 32) (sym next) (subst (λ (l : BlockExpectations). 0 + left_values l < 2 ^ 32) (sym its) (omega (arith, small)));
        around = subst (AreAround new.waiting.items) (sym deep) (subst (λ (v : Vec Wait). AreAround v.items (suc (length links))) (sym waiting) around);
        all_small = subst (λ (v : Vec Wait). All IsSmall v.items) (sym waiting) keeps.all_small;
      },
      ap (λ ps. ps ++ waiting_positions new.links.items new.waiting.items) inside ∙ ap (λ ps. opened_positions object (trail_of links) left ++ ps) around_now,
    )

-- ---- the argument of a tag

abbrev pub argument_way : Way → ℕ → Way
argument_way old ty = record { now = record { depth = old.now.depth; next = old.now.next - 1; left = lefts.Asked (opens.Each 1 ty) }; waiting = old.waiting; links = old.links }

pub argument_is_way : (old : Way) (ty : ℕ) → IsWay old → IsAfterHash old → IsWay (argument_way old ty)
argument_is_way old ty is hash = record {
  deep = is.deep;
  small = let room = is.small in let none = hash.none in let some = hash.some in omega (arith, room, none, some);
  around = is.around;
  all_small = is.all_small;
}

pub argument_positions : (old : Way) (ty : ℕ) → IsAfterHash old → way_positions (argument_way old ty) ≡ position_of (asks.Type ty) (field_after (trail_in old)) ∷ way_positions old
argument_positions old ty hash =
    ap (λ trail. position_of (asks.Type ty) trail ∷ waiting_positions old.links.items old.waiting.items) hash.after
    ∙ ap (λ ps. position_of (asks.Type ty) (field_after (trail_in old)) ∷ (ps ++ waiting_positions old.links.items old.waiting.items)) (sym (none_left old.links.items old.now.depth old.now.next old.now.left hash.none))
