-- The struct `Block` has one field, a pointer. The pointer has no parts of its own.
use Rattle.std.proofs.Common.{refl, [], ◌∷◌}
use seplogic.Ra.Ura.{Ura}
use base.Logic.{ent, emp}
use mir.Val.{Val, vstruct, vcons, vnil}
use types.Logic.{Logic, sem}
use denote.RattleType.{RattleType}
use denote.RawPtr.{Ptr, ptr_val}
use denote.Shadow.{makes_shadow}
use denote.Struct.Struct.{Struct}
use denote.Struct.Owning.{shape}
use Rattle.marshal_heap.specs.contracts.arena.block.Block as C

abbrev pub Field : RattleType
Field = Struct (shape C.the_type)

abbrev pub field_val : Ptr → Val
field_val p = vstruct (vcons (ptr_val p) vnil)

pub field_made : {M : Type 1} {𝓤 : Ura M} (𝓛 : Logic 𝓤) (p : Ptr) → ent 𝓤 (emp 𝓤) (sem 𝓛 (Field.own_val (p, tt) (field_val p ∷ [])))
field_made 𝓛 p = makes_shadow 𝓛 (Field.own_val (p, tt) (field_val p ∷ [])) (λ _. (tt, (tt, tt))) ((ptr_val p ∷ [], tt), (refl, (refl, tt)))
