-- The line of a verdict: `yes`, or `no` and the first fault.
use Rattle.std.specs.Prelude.{ℕ, ◌≡◌, List, [], ◌++◌, length, Option, Some, None, slice_get, codes}
use Rattle.std.specs.Prelude.{decimal}
use Rattle.std.specs.Fmt.{signed_decimal}
use Rattle.base_data.specs.declared.model.value.Val.{Val}
use Rattle.base_data.specs.declared.model.value.Val.TheVariants as vals
use Rattle.base_data.specs.declared.model.value.Obj.{Obj}
use Rattle.base_data.specs.declared.model.value.Obj.TheVariants as objects
use Rattle.types_spec.specs.declared.types.fault.Fault.{Fault}
use Rattle.types_spec.specs.declared.types.fault.Fault.TheVariants.{Mismatch, Conflict}
use Rattle.base_data.specs.model.PathText.{path_text}
use Rattle.types_spec.specs.types.Shapes.{Shapes}
use Rattle.types_spec.specs.types.Fault.{value_at}
use Rattle.types_spec.specs.types.LeastFault.{IsLeastFault}

-- ---- kinds

abbrev pub object_text : Option Obj → List ℕ
object_text None = []
object_text (Some (objects.Block tag values)) =
    codes "block " ++ decimal tag ++ codes " of " ++ decimal (length values)
object_text (Some (objects.Bytes bytes)) = codes "string"
object_text (Some (objects.Double bits)) = codes "float"
object_text (Some (objects.Doubles all)) = codes "float array of " ++ decimal (length all)
object_text (Some (objects.I32 z)) = codes "int32"
object_text (Some (objects.I64 z)) = codes "int64"
object_text (Some (objects.Native z)) = codes "nativeint"

-- A description of a value, independent of its type.
abbrev pub kind_text : List Obj → Val → List ℕ
kind_text graph (vals.Int z) = codes "int " ++ signed_decimal z
kind_text graph (vals.Atom tag) = codes "atom " ++ decimal tag
kind_text graph (vals.Ref o) = object_text (slice_get graph o)

-- ---- faults, generic in the texts of types

-- The text of a type mismatch: the path, the expected type, and the value found.
abbrev pub mismatch_text : {T : Type 0} → (T → List ℕ) → List Obj → List ℕ → Val → T → List ℕ
mismatch_text type_text graph path v t =
    path_text path ++ codes ": expected " ++ type_text t ++ codes ", found " ++ kind_text graph v

-- The text of an aliasing conflict: two paths to one object, each with its type.
abbrev pub conflict_text : {T : Type 0} → (T → List ℕ) → List ℕ → T → List ℕ → T → List ℕ
conflict_text type_text first t second u =
    path_text first ++ codes " and " ++ path_text second ++ codes ": " ++ type_text t
    ++ codes " and " ++ type_text u ++ codes " share a mutable object"

-- The text of a fault, with the values and types at the ends of the fault's paths.
abbrev pub IsFaultText : {T : Type 0} → Shapes T → (T → List ℕ) → List Obj → Val → T → Fault
    → List ℕ → Type 0
IsFaultText {T} shapes type_text graph v t (Mismatch path) text =
    (w : Val) × (u : T) × (value_at shapes graph v t path ≡ Some (w, u))
    × (text ≡ mismatch_text type_text graph path w u)
IsFaultText {T} shapes type_text graph v t (Conflict first second) text =
    (o : Val) × (one other : T) × (value_at shapes graph v t first ≡ Some (o, one))
    × (value_at shapes graph v t second ≡ Some (o, other))
    × (text ≡ conflict_text type_text first one second other)

-- ---- the line

-- A line that begins with `no` and states the first fault of the value.
pub record IsNoLine {T : Type 0} (shapes : Shapes T) (type_text : T → List ℕ) (graph : List Obj)
    (v : Val) (t : T) (line : List ℕ) : Type 0 where
  pub fault : Fault
  pub text : List ℕ
  pub least : IsLeastFault shapes graph v t fault
  pub is_text : IsFaultText shapes type_text graph v t fault text
  pub encoded : line ≡ codes "no " ++ text
