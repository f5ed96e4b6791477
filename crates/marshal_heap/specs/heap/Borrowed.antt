-- "The value is a value of the heap" is a proposition: there is at most one proof.
use Rattle.std.specs.Prelude.{ℕ, pos, negsuc}
use Rattle.std.specs.Coded.{le_prop}
use Rattle.base_data.specs.model.Graph.{IsValue}
use Rattle.base_data.specs.declared.model.value.Val.{Val}
use Rattle.base_data.specs.declared.model.value.Val.TheVariants as vals

pub IsValue-prop : (n : ℕ) (v : Val) → IsProp (IsValue n v)
IsValue-prop n (vals.Int (pos z)) = le_prop
IsValue-prop n (vals.Int (negsuc z)) = le_prop
IsValue-prop n (vals.Atom tag) = le_prop
IsValue-prop n (vals.Ref k) = le_prop
