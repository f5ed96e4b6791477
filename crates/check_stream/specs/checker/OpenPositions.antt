-- The requirements of open positions.
use Rattle.std.specs.Prelude.{List, [], ◌∷◌, ◌++◌, map, replicate}
use Rattle.check_stream.specs.theory.AskedNeeds.{Need, of_type, hash_of}
use Rattle.check_stream.specs.declared.checker.open_positions.BlockPositions.{BlockPositions}
use Rattle.check_stream.specs.declared.checker.open_positions.BlockPositions.TheVariants as opens
use Rattle.check_stream.specs.declared.checker.open_positions.Requirement.{Requirement}
use Rattle.check_stream.specs.declared.checker.open_positions.Requirement.TheVariants as asked
use Rattle.check_stream.specs.declared.checker.open_positions.OpenPositions.{OpenPositions}

abbrev pub open_needs : BlockPositions → List Need
open_needs (opens.Listed types) = map of_type types.now
open_needs (opens.Each count t) = map of_type (replicate count t)
open_needs (opens.Tagged tags) = hash_of tags.now ∷ []

abbrev pub need_of : Requirement → Need
need_of (asked.Type t) = of_type t
need_of (asked.Hash tags) = hash_of tags.now

-- The requirements of the positions on the stack. The requirements of the last entry of the stack
-- come first.
abbrev pub waiting_needs : List BlockPositions → List Need
waiting_needs [] = []
waiting_needs (open' ∷ opens') = waiting_needs opens' ++ open_needs open'

abbrev pub positions_needs : OpenPositions → List Need
positions_needs positions = open_needs positions.now ++ waiting_needs positions.waiting.items
