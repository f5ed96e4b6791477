-- The open positions of a value, each with the path to the position.
use Rattle.std.specs.Prelude.{ℕ, zero, suc, ◌+◌, ◌-◌, ◌<◌, ◌≤◌, ◌^◌, ◌≡◌, List, [], ◌∷◌, ◌++◌}
use Rattle.std.specs.Prelude.{length, take, replicate, slice_get, Option, Some, None, All}
use Rattle.check_stream.specs.theory.AskedNeeds.{Need, of_type, hash_of, values_in}
use Rattle.check_stream.specs.mismatch_theory.PassedBut.{OpenPosition, positions_of, field_after}
use Rattle.check_stream.specs.checker.OpenPositions.{open_needs}
use Rattle.check_stream.specs.declared.mismatch_search.way.Expectation.{Expectation}
use Rattle.check_stream.specs.declared.mismatch_search.way.Expectation.TheVariants as asks
use Rattle.check_stream.specs.declared.mismatch_search.way.BlockExpectations.{BlockExpectations}
use Rattle.check_stream.specs.declared.mismatch_search.way.BlockExpectations.TheVariants as lefts
use Rattle.check_stream.specs.declared.mismatch_search.way.Link.{Link}
use Rattle.check_stream.specs.declared.mismatch_search.way.Wait.{Wait}
use Rattle.check_stream.specs.declared.mismatch_search.way.Way.{Way}

-- The trail of a list of links. The links are ordered from the root on, and the trail begins with
-- the last link.
abbrev pub trail_of : List Link → List (ℕ × ℕ)
trail_of [] = []
trail_of (link ∷ links) = trail_of links ++ (link.object, link.field) ∷ []

abbrev pub own_field : Option Link → ℕ → List (ℕ × ℕ)
own_field None k = []
own_field (Some link) k = (link.object, k) ∷ []

-- The trail of field `k` of the block to which the first `d` links lead. If `d` is 0, the trail is
-- that of the root and is empty.
abbrev pub position_trail : List Link → ℕ → ℕ → List (ℕ × ℕ)
position_trail links zero k = []
position_trail links (suc d) k = own_field (slice_get links d) k ++ trail_of (take d links)

-- A position that expects nothing. The trail of the position is not recorded.
abbrev pub unasked_position : OpenPosition
unasked_position = record { asks = None; trail = [] }

abbrev pub root_position : OpenPosition
root_position = record { asks = Some (of_type 0); trail = [] }

abbrev pub position_of : Expectation → List (ℕ × ℕ) → OpenPosition
position_of (asks.Type t) trail = record { asks = Some (of_type t); trail = trail }
position_of (asks.Hash tags) trail = record { asks = Some (hash_of tags.now); trail = trail }
position_of asks.Nothing trail = unasked_position

-- The positions of a block's fields from field `k` on, with their requirements.
abbrev pub positions_asked : List Link → ℕ → ℕ → List Need → List OpenPosition
positions_asked links depth k [] = []
positions_asked links depth k (need ∷ needs) =
    record { asks = Some need; trail = position_trail links depth k }
    ∷ positions_asked links depth (k + values_in (need ∷ [])) needs

abbrev pub positions_left : List Link → ℕ → ℕ → BlockExpectations → List OpenPosition
positions_left links depth k (lefts.Asked open') = positions_asked links depth k (open_needs open')
positions_left links depth k (lefts.Unasked count) = replicate count unasked_position

abbrev pub left_values : BlockExpectations → ℕ
left_values (lefts.Asked open') = values_in (open_needs open')
left_values (lefts.Unasked count) = count

-- The open positions of the block of `wait`.
abbrev pub wait_positions : List Link → Wait → List OpenPosition
wait_positions links wait = positions_left links wait.depth wait.next wait.left

abbrev pub waiting_positions : List Link → List Wait → List OpenPosition
waiting_positions links [] = []
waiting_positions links (wait ∷ waits) = waiting_positions links waits ++ wait_positions links wait

abbrev pub way_positions : Way → List OpenPosition
way_positions way =
    wait_positions way.links.items way.now ++ waiting_positions way.links.items way.waiting.items

abbrev pub trail_in : Way → List (ℕ × ℕ)
trail_in way = trail_of way.links.items

-- The indices of the remaining fields fit in 32 bits.
abbrev pub IsSmall : Wait → Type 0
IsSmall wait = wait.next + left_values wait.left < 2 ^ 32

-- Each waiting block encloses the waiting blocks after it and the block at depth `depth`.
abbrev pub AreAround : List Wait → ℕ → Type 0
AreAround [] depth = Unit {0}
AreAround (wait ∷ waits) depth =
    (wait.depth < depth) × All (λ (inside : Wait). wait.depth < inside.depth) waits
    × AreAround waits depth

pub record IsWay (way : Way) : Type 0 where
  pub deep : way.now.depth ≤ length way.links.items
  pub small : IsSmall way.now
  pub around : AreAround way.waiting.items way.now.depth
  pub all_small : All IsSmall way.waiting.items

-- The new links lead to field `field` of the block at depth `depth`. Up to the block at depth
-- `depth`, the new links agree with the old links.
pub record ArePointed (old new : List Link) (depth field : ℕ) : Type 0 where
  pub deep : length new ≡ depth
  pub trail : trail_of new ≡ position_trail old depth field
  pub agree : (d k : ℕ) → d ≤ depth → position_trail new d k ≡ position_trail old d k

-- The links lead to field `field` of the innermost block. Nothing else changes.
pub record PointsTo (old : Way) (field : ℕ) (new : Way) : Type 0 where
  pub now : new.now ≡ old.now
  pub waiting : new.waiting ≡ old.waiting
  pub links : ArePointed old.links.items new.links.items old.now.depth field

-- If the innermost block has open positions, the open positions are moved to the waiting positions.
pub record KeepsWaiting (old new : Way) : Type 0 where
  pub links : new.links ≡ old.links
  pub positions :
      (links : List Link)
      → waiting_positions links new.waiting.items
      ≡ wait_positions links old.now ++ waiting_positions links old.waiting.items
  pub around : AreAround new.waiting.items (old.now.depth + 1)
  pub all_small : All IsSmall new.waiting.items

-- The position taken last is the position of a hash. The field after the hash is free.
pub record IsAfterHash (way : Way) : Type 0 where
  pub none : left_values way.now.left ≡ 0
  pub some : 1 ≤ way.now.next
  pub after :
      position_trail way.links.items way.now.depth (way.now.next - 1) ≡ field_after (trail_in way)

-- If the hash of a tag is expected, then `P` holds.
abbrev pub OnHash : Expectation → Type 0 → Type 0
OnHash (asks.Type t) P = Unit {0}
OnHash (asks.Hash tags) P = P
OnHash asks.Nothing P = Unit {0}

-- The first position of `left` expects `asked`. The positions `others` are the positions of `left`
-- after `many` values.
pub record IsSplit (left : BlockExpectations) (asked : Expectation) (others : BlockExpectations)
    (many : ℕ) : Type 0 where
  pub values : left_values left ≡ many + left_values others
  pub positions :
      (links : List Link) (depth next : ℕ)
      → positions_left links depth next left
      ≡ position_of asked (position_trail links depth next)
      ∷ positions_left links depth (next + many) others
  pub hash : OnHash asked ((many ≡ 2) × (left_values others ≡ 0))

-- The open positions of an object that is opened at the end of the trail.
abbrev pub opened_positions : ℕ → List (ℕ × ℕ) → BlockExpectations → List OpenPosition
opened_positions object trail (lefts.Asked open') = positions_of object trail 0 (open_needs open')
opened_positions object trail (lefts.Unasked count) = replicate count unasked_position

abbrev pub OpensAt : Way → ℕ → BlockExpectations → Way → Type 0
OpensAt old object left new =
    way_positions new ≡ opened_positions object (trail_in old) left ++ way_positions old
