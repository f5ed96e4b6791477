-- The names that the proofs about `Block`'s functions use.
pub use Rattle.std.proofs.Common.{◌≡◌, ℕ, ◌+◌, ◌-◌, ◌*◌, ◌^◌, ◌<◌, ◌≤◌, List, [], ◌∷◌, ◌++◌, length, refl, sym, ap, subst, ◌∙◌, arith, lit<, w64, MutBor, length-append}
pub use Rattle.std.proofs.raw_atomic.Walks.{proved}
pub use seplogic.Ra.Ura.{Ura}
pub use base.Fraction.{full_share}
pub use base.Logic.{SProp, ent, never, id⊢}
pub use base.Fml.{Lft, Share, Fml, ftrue, fat, froom, flft, fsep}
pub use mir.Syntax.{ty_int, ty_array, named}
pub use mir.Val.{Val, vunit, vint, vptr, vstruct, vcons, vnil}
pub use contract.Monad.{fact}
pub use contract.Running.{tables}
pub use types.Logic.{Logic, sem}
pub use types.Kit.{‵, raw, ◌⊛◌, some, later, prop, at_ret, ◌$◌, ◌∵◌, !, qed, by, done, move, keep, drop, use0, use1, use2, use3, split, join, fsplit, fsplit3, fjoin, feq_i, flt_i, flt_l, feq_l, pick, await, rewrite, suffices, frame, group}
pub use types.Part.{whole, sub, agg, look_in, store_in}
pub use types.Run.{enter, of_opd, lit, unit_lit, bin, addr, load, look, init, store, stop, fld, hop, no_more, and_then, assigns, assigns_last, first, blocks, exec, returns}
pub use types.ByLocal.{alloc_all, pass_all, free_all, look_at, get, get_in, through, sets, sets_last, env}
pub use denote.Array.{Array}
pub use denote.Builtin.{u64, usize, unit, bool, RefOf}
pub use denote.Exit.{yes}
pub use denote.Laws.{shows}
pub use denote.Memory.{cell_at, part_at, hidden_shr}
pub use denote.Plain.{uint_in, uint_out, uint_vals, uint_Tells}
pub use denote.RattleType.{owns}
pub use denote.RawPtr.{Ptr, block_ptr, in_block, in_a_block}
pub use denote.Ref.{MutRef, mut_vals, mut_Tells, ShrRef, shr_vals, shr_Tells}
pub use denote.Signature.{plain}
pub use denote.Steps.{nothing, owned, opens, closes, heard, peeks}
pub use denote.Triple.Walked.{Stays, walk_of, says, stay_dropped, Goes-dropped, stay_ref, Goes-ref, ends_at}
pub use Rattle.marshal_heap.specs.arena.Block.{chunk}
pub use Rattle.std.specs.Allocator.{block_with_items}
pub use Rattle.std.specs.Vec.Ownership.{vec_owns, owns_if, has_block}
