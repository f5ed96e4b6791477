-- The output line of a value whose first fault is a mismatch that the tokens determine.
use Rattle.std.specs.Prelude.{ℕ, List, [], ◌++◌, Some, codes, decimal}
use Rattle.std.specs.Fmt.{signed_decimal}
use Rattle.base_data.specs.model.PathText.{path_text}
use Rattle.base_data.specs.declared.model.value.Val.{Val}
use Rattle.base_data.specs.declared.model.value.Obj.{Obj}
use Rattle.types_spec.specs.types.Table.{Table, table_shapes}
use Rattle.types_spec.specs.types.VerdictText.{object_text, IsNoLine}
use Rattle.marshal_spec.specs.format.Token.{Token, integer, atom, shared, block, leaf}
use Rattle.check_stream.specs.mismatch_theory.OnlyWay.{path_of}
use Rattle.check_stream.specs.mismatch_theory.PassedBut.{Missed}
use Rattle.check_stream.specs.mismatch_theory.MissedLaw.{IsLeastMissed}

-- The text of a value's kind, from the value's token. A reference has an empty text, because a
-- reference is never the mismatch.
abbrev pub token_text : Token → List ℕ
token_text (integer z) = codes "int " ++ signed_decimal z
token_text (atom tag) = codes "atom " ++ decimal tag
token_text (shared offset) = []
token_text (block tag size) = codes "block " ++ decimal tag ++ codes " of " ++ decimal size
token_text (leaf object) = object_text (Some object)

abbrev pub missed_text : (ℕ → List ℕ) → Missed → List ℕ
missed_text type_text missed =
    path_text (path_of missed.trail) ++ codes ": expected " ++ type_text missed.type
    ++ codes ", found " ++ token_text missed.token

-- The trail, the type and the token of the mismatch determine the output line of the value.
abbrev pub MissedHasLine : Type 0
MissedHasLine =
    (table : Table) (graph : List Obj) (root : Val) (missed : Missed) (type_text : ℕ → List ℕ)
    → IsLeastMissed table graph root missed
    → IsNoLine (table_shapes table) type_text graph root 0
    (codes "no " ++ missed_text type_text missed)
