use Rattle.std.proofs.Common.{ℕ, ◌≡◌, ◌<◌, Some, length}
use Rattle.std.specs.Prelude.{slice_get}
use Rattle.types_spec.specs.declared.types.names.ConstrNames.{ConstrNames}
use Rattle.text_roundtrip.specs.literal_texts.Readable.{IsConstructorName}
use Rattle.cmd_build.proofs.guess.encoded.are_constructors.Given as goal

-- The constructors before index `tag` are readable.
abbrev pub invariant-loop-tag : goal.invariant-loop-tag
invariant-loop-tag l =
    (l.tag-end ≡ length l.names.constructors)
    × ((j : ℕ) (constr : ConstrNames) → j < l.tag → slice_get l.names.constructors j ≡ Some constr → IsConstructorName l.names j constr)
