-- The refusals of the definitions.
use Rattle.std.specs.Prelude.{◌^◌, ◌<◌, Option, Some, None}
use Rattle.base_data.specs.declared.model.refusal.ReadRefusal.{ReadRefusal}
use Rattle.base_data.specs.declared.model.refusal.ReadRefusal.TheVariants as refusals
use Rattle.test_oracles.specs.declared.refusal.Refusal.{Refusal}
use Rattle.test_oracles.specs.declared.refusal.Refusal.TheVariants.{BadMagic, Compressed, TooLarge}
use Rattle.test_oracles.specs.declared.refusal.Refusal.TheVariants.{BadCode, PointerCode}
use Rattle.test_oracles.specs.declared.refusal.Refusal.TheVariants.{OtherCustom, BadTag, BadShared}
use Rattle.test_oracles.specs.declared.refusal.Refusal.TheVariants.{NoTable, BadNative, IntRange}
use Rattle.test_oracles.specs.declared.refusal.Refusal.TheVariants.{ZeroArray, Overlong}
use Rattle.test_oracles.specs.declared.refusal.Refusal.TheVariants.{SizeMismatch, CountMismatch}
use Rattle.test_oracles.specs.declared.refusal.Refusal.TheVariants.{LengthMismatch}

-- The refusal of the definitions that has the numbers of this refusal.
abbrev pub refusal_of : Refusal → ReadRefusal
refusal_of (BadMagic m) = refusals.BadMagic m
refusal_of Compressed = refusals.Compressed
refusal_of (TooLarge what stated limit) = refusals.TooLarge what stated limit
refusal_of (BadCode p code) = refusals.BadCode p code
refusal_of (PointerCode p code) = refusals.PointerCode p code
refusal_of (OtherCustom p code) = refusals.OtherCustom p code
refusal_of (BadTag p tag) = refusals.BadTag p tag
refusal_of (BadShared p offset found) = refusals.BadShared p offset found
refusal_of (NoTable p) = refusals.NoTable p
refusal_of (BadNative p kind) = refusals.BadNative p kind
refusal_of (IntRange p z) = refusals.IntRange p z
refusal_of (ZeroArray p) = refusals.ZeroArray p
refusal_of (Overlong p need left) = refusals.Overlong p need left
refusal_of (SizeMismatch p sum stated found) = refusals.SizeMismatch p sum stated found
refusal_of (CountMismatch p stated found) = refusals.CountMismatch p stated found
refusal_of (LengthMismatch p left) = refusals.LengthMismatch p left

-- The refusal of the definitions, if the option contains a refusal.
abbrev pub refusal_in : Option Refusal → Option ReadRefusal
refusal_in None = None
refusal_in (Some refusal) = Some (refusal_of refusal)

-- The numbers of the refusal fit the types of a reader. A magic number has 32 bits. Each other
-- number that may be large has 64 bits, except for the number of bytes needed in `Overlong`.
abbrev pub IsNarrow : Refusal → Type 0
IsNarrow (BadMagic m) = m < 2 ^ 32
IsNarrow Compressed = Unit {0}
IsNarrow (TooLarge what stated limit) = Unit {0}
IsNarrow (BadCode p code) = p < 2 ^ 64
IsNarrow (PointerCode p code) = p < 2 ^ 64
IsNarrow (OtherCustom p code) = p < 2 ^ 64
IsNarrow (BadTag p tag) = p < 2 ^ 64
IsNarrow (BadShared p offset found) = (p < 2 ^ 64) × (found < 2 ^ 64)
IsNarrow (NoTable p) = p < 2 ^ 64
IsNarrow (BadNative p kind) = p < 2 ^ 64
IsNarrow (IntRange p z) = p < 2 ^ 64
IsNarrow (ZeroArray p) = p < 2 ^ 64
IsNarrow (Overlong p need left) = (p < 2 ^ 64) × (left < 2 ^ 64)
IsNarrow (SizeMismatch p sum stated found) = (p < 2 ^ 64) × (found < 2 ^ 64)
IsNarrow (CountMismatch p stated found) = (p < 2 ^ 64) × (found < 2 ^ 64)
IsNarrow (LengthMismatch p left) = (p < 2 ^ 64) × (left < 2 ^ 64)
