-- Heads that are remembered by type index.
use Rattle.std.specs.Prelude.{ℕ, ◌≡◌, false, List, length}
use Rattle.types_spec.specs.declared.types.decl.Decl.{Decl}
use Rattle.types_spec.specs.declared.types.head.HeadOf.{HeadOf}
use Rattle.types_spec.specs.declared.types.head.HeadOf.TheVariants as heads
use Rattle.types_spec.specs.types.Ty.{Ty}
use Rattle.types_build.specs.declared.representation.remembered_heads.Heads.{Heads}
use Rattle.types_build.specs.representation.FoundHeads.{AreFound, AreTagsOf}

-- Each remembered type index has one head, and the head is correct.
pub record AreHeads (decls : List Decl) (types : List Ty) (heads : Heads) : Type 0 where
  pub found : AreFound decls types false heads.met.keys heads.heads.items
  pub each : length heads.met.keys ≡ length heads.heads.items

-- If the head has tags, then the tags are the tags of the type `t`.
abbrev pub IsTagsHead : List Decl → List Ty → Ty → HeadOf ℕ → Type 0
IsTagsHead decls types t (heads.Variants tags) = AreTagsOf decls types t tags
IsTagsHead decls types t other = Unit {0}
