-- A `&` to a block gives access to the block's words. The `&` gives no access to the room after the
-- words, and no right to free the memory.
use Rattle.std.proofs.Common.{◌≡◌, ℕ, ◌*◌, ◌≤◌, ◌^◌, List, [], ◌∷◌, Bool, true, false, not, T, length, refl, sym, subst}
use Prim.Native.Nat.{zero, ◌-◌}
use lib.Dec.{eqb, eqb→eq}
use seplogic.Ra.Ura.{Ura}
use base.Fraction.{full_share}
use base.Logic.{ent, sep}
use base.Fml.{Lft, ftrue, fsep, flt, fbor}
use mir.Syntax.{ty_array}
use mir.Raw.{raw as bare}
use types.Logic.{Logic, sem, lfts}
use types.Kit.{‵, raw, ◌$◌, !, qed, drop, fjoin, feq_i, updating, done}
use types.Kit.{now as at_once}
use contract.BorrowLft.{⊑_static}
use denote.Steps.{nothing}
use denote.Memory.{lone}
use denote.Array.{Array}
use denote.Builtin.{u64}
use denote.Sharing.{said}
use denote.RawPtr.{Ptr, block_ptr, null_ptr, lies_at, room_for, in_block, ◌+ₚ◌}
use denote.Shares.{Shares-less, Shares-Array}
use denote.Param.Shared.{copy_shared}
use denote.Struct.Field.{RawPtr-field}
use denote.Struct.Laws.{RawPtr-copy}
use denote.Struct.Lending.{lent_at, Lends, Lends-false, Lends-lies, Lends-said, Lends-first, Lends-both, of_Lends}
use Rattle.std.specs.Mem.{type_size}
use Rattle.std.specs.Allocator.{block_with_items}
use Rattle.std.specs.Vec.Ownership.{owns_if}
use Rattle.std.proofs.SharedLaws.{lent_shr_laws}
use Rattle.marshal_heap.specs.arena.Block.{chunk}
use Rattle.marshal_heap.specs.contracts.arena.block.Block as C
use Rattle.marshal_heap.proofs.arena.Words.{u64_laws, no_words}
use Rattle.marshal_heap.proofs.arena.block.Block.TheLaw.Statement.{statement}

module _ {M : Type 1} {𝓤 : Ura M} (𝓛 : Logic 𝓤) (l : Lft) (cap : ℕ) (words : List ℕ) (le : length words ≤ cap) where
  open 𝓛 use {H, A}

  abbrev n : ℕ
  n = length words

  Lends-held : (p : Ptr) (y : Bool) → (T y → cap ≡ 0) → Lends 𝓛 (in_block p (owns_if (not y) (block_with_items chunk u64 p n cap words))) (lent_at (Array u64 n) p words) l
  Lends-held null_ptr y z κ ts inc sp = Lends-false 𝓛 (lent_at (Array u64 n) null_ptr words) l κ ts inc sp
  Lends-held (block_ptr b o) false z κ ts inc sp =
      let p : Ptr = block_ptr b o in
      Lends-first 𝓛 (lies_at (Array u64 n) full_share p words) (fsep (room_for (bare (ty_array (lone u64.mir) (cap - n))) (p +ₚ (n * type_size u64))) (chunk (bare (ty_array (lone u64.mir) cap)) p)) (lent_at (Array u64 n) p words) l
      (Lends-lies 𝓛 (Array u64 n) l p words (Shares-Array 𝓛 u64 tt n l (Shares-less 𝓛 u64 u64.lives l (⊑_static l) (u64_laws.shares 𝓛)) words)) κ ts inc sp
  Lends-held (block_ptr b o) true z κ ts inc sp =
      let empty : cap ≡ 0 = z tt in
      let is : words ≡ [] = no_words words (subst (λ (k : ℕ). n ≤ k) empty le) in
      subst (λ (ws : List ℕ). ent 𝓤 (sep 𝓤 (A.bor κ ftrue) (lfts 𝓛 ts)) (H.⇛ (sep 𝓤 (sem 𝓛 (lent_at (Array u64 (length ws)) (block_ptr b o) ws κ)) (lfts 𝓛 ts)))) (sym is)
      (qed 𝓛 (‵ (fbor κ ftrue) ∷ raw (lfts 𝓛 ts) ∷ []) {P = H.⇛ (sep 𝓤 (sem 𝓛 (lent_at (Array u64 0) (block_ptr b o) [] κ)) (lfts 𝓛 ts))} (
      updating ! $ drop ! $ nothing ! $ feq_i ! ℕ zero 0 refl $ fjoin ! $ nothing ! $ fjoin ! $ at_once ! $ done !))

pub shares : statement
shares = of_Lends C.struct C.the_codes C.the_heap C.the_lent (λ d p. lent_shr_laws u64 u64_laws.shr_laws d.at (length d.words) d.cap d.words)
    (copy_shared RawPtr-field RawPtr-copy, tt)
    (λ M 𝓤 𝓛 d p.
    let l = C.the_row.lives in
    let small = flt (d.cap * type_size u64) (2 ^ 63) in
    Lends-both 𝓛 small (in_block d.at (owns_if (not (eqb d.cap 0)) (block_with_items chunk u64 d.at (length d.words) d.cap d.words))) (said small) (lent_at (Array u64 (length d.words)) d.at d.words) l (Lends-said 𝓛 small tt l)
    (Lends-held 𝓛 l d.cap d.words d.room d.at (eqb d.cap 0) (eqb→eq d.cap 0)))
