-- The conditions under which an item is valid.
use Rattle.std.specs.Prelude.{ℕ, ◌^◌, ◌<◌}
use Rattle.cmd_gen.specs.declared.generator.generated_item.GeneratedItem.{GeneratedItem}
use Rattle.cmd_gen.specs.declared.generator.generated_item.GeneratedItem.TheVariants.{Nil, Num}
use Rattle.cmd_gen.specs.declared.generator.generated_item.GeneratedItem.TheVariants.{Text, Pair}
use Rattle.cmd_gen.specs.declared.generator.generated_item.GeneratedItem.TheVariants.{Cell}

-- Item `i` is valid: the item's numbers are in range, and the item refers only to earlier items.
abbrev pub IsItem : ℕ → GeneratedItem → Type 0
IsItem i Nil = Unit {0}
IsItem i (Num n) = n < 2 ^ 23
IsItem i (Text len byte) = (len < 40) × (byte < 2 ^ 8)
IsItem i (Pair j k) = (j < i) × (k < i)
IsItem i (Cell j) = j < i
