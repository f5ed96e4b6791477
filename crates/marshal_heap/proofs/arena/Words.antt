-- Words as elements of a row, under the names that the steps of `std` use.
use Rattle.std.proofs.Common.{◌≡◌, ℕ, ◌≤◌, List, [], ◌∷◌, length, refl, arith}
use Prim.Native.Nat.{suc}
use native.Mathlib.Nat.{not-suc-le-zero}
use denote.Builtin.{u64}
use denote.Param.Laws.{Laws, of_field}
use denote.Param.Shared.{copy_shared}
use denote.Struct.Field.{u64-field}
use denote.Struct.Laws.{u64-laws, u64-copy}
use Rattle.marshal_heap.specs.arena.Block.{chunk}
use Rattle.std.proofs.alloc.Calls.{Al}
use Rattle.std.proofs.VecSteps.El.{El, no_al}

pub u64_laws : Laws u64
u64_laws = of_field u64-field u64-laws refl (copy_shared u64-field u64-copy)

abbrev pub heap : Al
heap = record { row = no_al.row; laws = no_al.laws; g = record { dealloc_token = λ a τ p. chunk τ p }; d = no_al.d; drops = no_al.drops }

abbrev pub E : El
E = record { row = u64; laws = u64_laws; al = heap }

pub no_words : (words : List ℕ) → length words ≤ 0 → words ≡ []
no_words [] le = refl
no_words (w ∷ words) le = let bad : suc (length words) ≤ 0 = omega arith in absurd (not-suc-le-zero bad)
