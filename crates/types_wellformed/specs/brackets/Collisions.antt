-- The lexemes and the names of tags that have the same hash.
use Rattle.std.specs.Prelude.{ℕ, List, Option, IfSome, option_map}
use Rattle.types_resolve.specs.scope.Least.{IsLeast}
use Rattle.types_wellformed.specs.declared.brackets.tag_item.TagItem.{TagItem}
use Rattle.types_wellformed.specs.declared.brackets.tag_names.Collision.{Collision}
use Rattle.types_wellformed.specs.brackets.TagItems.{CollideIn, CollidesIn}

abbrev pub position_of : Option Collision → Option ℕ
position_of found = option_map (λ (c : Collision). c.position) found

-- The collision `c` is correct: at its lexeme, two tags with its two names have the same hash.
abbrev pub IsCollision : List TagItem → Collision → Type 0
IsCollision items c = CollideIn items c.position c.one.now c.other.now

-- If `found` is `None`, then no two tags have the same hash. If `found` is a collision, then its
-- two tags have the same hash, and no two tags have the same hash at a lesser lexeme.
pub record IsLeastCollision (items : List TagItem) (found : Option Collision) : Type 0 where
  pub least : IsLeast (CollidesIn items) (position_of found)
  pub names : IfSome found (IsCollision items)
