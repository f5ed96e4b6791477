-- The function `free` returns the memory of the block, with the right to free the memory, to the
-- allocator.
use Rattle.marshal_heap.proofs.arena.Steps.{◌≡◌, ℕ, ◌*◌, ◌^◌, ◌<◌, ◌≤◌, List, [], ◌∷◌, length, refl, sym, ap, subst, arith, lit<, w64, proved, never, id⊢, ftrue, froom, flft, ty_int, ty_array, named, Val, vunit, vint, vptr, fact, tables, ‵, raw, ◌⊛◌, some, later, at_ret, ◌$◌, ◌∵◌, !, qed, done, move, keep, drop, use0, use1, use2, split, join, fsplit, fsplit3, fjoin, feq_i, feq_l, flt_l, pick, await, rewrite, suffices, enter, of_opd, lit, unit_lit, bin, stop, fld, no_more, and_then, first, blocks, exec, returns, alloc_all, pass_all, free_all, look_at, get, sets, env, whole, sub, u64, usize, unit, RefOf, uint_vals, uint_Tells, owns, Ptr, block_ptr, in_block, in_a_block, ShrRef, shr_vals, shr_Tells, plain, nothing, heard, Stays, walk_of, stay_dropped, Goes-dropped, ends_at, chunk, block_with_items, vec_owns, owns_if, has_block}
use base.Logic.{emp}
use lib.Dec.{T}
use mir.Syntax.{Ty, ty_unit}
use mir.Val.{has_ty, WT}
use contract.Monad.{fact_i}
use prog.Memory.{capped}
use prog.Capped.{capped_is}
use prog.Wp.{Env, WpFn}
use types.Kit.{prop, Sq, regoal}
use types.Run.{branches, skips}
use types.ByLocal.{get_in, lands_last}
use denote.Plain.{uint_Makes}
use denote.RawPtr.{rawptr_vals}
use denote.Steps.{owned, only}
use denote.Triple.Call.{calls_at_last}
use denote.Triple.Clauses.{lasts}
use denote.Triple.Spec.{triple_of}
use denote.Triple.Statement.{Contract}
use denote.Triple.Table.{framed}
use Prim.Native.Nat.{zero, suc}
use Rattle.std.proofs.alloc.Calls.{Goes-blank}
use Rattle.std.proofs.VecSteps.Opens.{blk_out}
use Rattle.std.proofs.VecSteps.Rows.{all_room}
use Rattle.marshal_heap.proofs.arena.Field.{field_val}
use Rattle.marshal_heap.proofs.arena.Words.{E}
use Rattle.std_heap.specs.contracts.Global as G
use Rattle.std_heap.specs.contracts.GlobalAllocator.deallocate as g
use Rattle.std_heap.proofs.GlobalAllocator.deallocate.Met.{met}
use Rattle.marshal_heap.specs.contracts.arena.block.Block.free as f
use Rattle.marshal_heap.proofs.arena.block.Block.free.Statement.{statement}
use Rattle.marshal_heap.proofs.arena.block.Block.free.Code as code
use Rattle.marshal_heap.specs.contracts.arena.block.Block.{the_row as R}
use Rattle.marshal_heap.proofs.arena.block.Block.TheLaws.{lowers}

abbrev stayed : Stays f.ended.signature.params f.ended.kept
stayed = (stay_dropped _ f.ended.kept.0, (stay_dropped _ f.ended.kept.1.0, (stay_dropped _ f.ended.kept.1.1.0, tt)))

positive : (c : ℕ) → T (has_block c) → 0 < c
positive zero t = absurd t
positive (suc c) t = omega arith

pub free_spec : {M : Type 1} → statement M
free_spec 𝓤 𝓛 𝓜 𝓡 wired =
    let c = f.clauses 𝓛 𝓜.mem 𝓡.returns in let W = walk_of 𝓛 f.ended stayed c in let 𝓣 = tables 𝓤 𝓛.H 𝓜 𝓡 𝓡.env in
    proved 𝓛 f.ended stayed c 𝓜 𝓡 (Goes-blank 𝓛 1 (plain (λ _. R)) f.ended.kept.0 (λ κs x w. tt), (Goes-dropped 𝓛 1 (RefOf (0 ∷ []) tt (plain (λ _. G.the_row)) (λ _. tt)) f.ended.kept.1.0 (λ κs x w. refl), (Goes-dropped 𝓛 1 (plain (λ _. usize)) f.ended.kept.1.1.0 (λ κs x w. refl), tt)))
    f.Key.name code.function (code.unfolded 𝓤 𝓛.H 𝓜 𝓡 wired)
    (λ κs. ((λ d. lowers.lowered d ∷ []), (shr_vals, (uint_vals w64, tt)))) (λ κs. (lowers.val_is, (shr_Tells (named 0) κs.0 G.the_row, (uint_Tells w64, tt)))) (λ κs qs bounds a _ are.
    let h = a.0 in let heap = a.1.0 in let cap = a.1.1.0 in let words = h.words in let n = length words in let κ = κs.0 in let q = qs.0 in let τ : Ty = ty_array (ty_int w64) cap in
    let y : W.Ghost = ((κs, qs, bounds, a, (lowers.lowered h ∷ [], (shr_vals heap, (uint_vals w64 cap, tt)))), tt) in
    let out : Sq 𝓛 (‵ (flft κ q) ∷ []) (prop (W.post y vunit)) =
    suffices ! _ (ends_at 𝓛 f.ended stayed c y vunit tt (tt, (tt, (tt, tt))) (tt, (tt, (tt, tt)))) $
    nothing ! $ feq_i ! (List Val) (vunit ∷ []) (vunit ∷ []) refl $ nothing ! $ nothing ! $ join ! $ nothing ! $ join ! $ nothing ! $ join ! $ join ! $ nothing ! $ move ! (3 ∷ 0 ∷ []) $ join ! $ join ! $ done ! in
    qed 𝓛 (((‵ (flft κ q) ⊛ ‵ ftrue) ⊛ ‵ (owns (R ∷ ShrRef (named 0) κ G.the_row ∷ usize ∷ []) a y.0.4)) ∷ raw (fact 𝓤 (cap ≡ h.cap)) ∷ []) ∵
    move ! (1 ∷ []) $ heard ! _ (λ asked. split ! $ split ! $ move ! (2 ∷ []) $ fsplit3 ! $ keep ! (0 ∷ 1 ∷ 3 ∷ []) $ fsplit ! $ drop ! $
    rewrite ! 0 (λ (k : ℕ). ‵ (vec_owns chunk u64 h.at n k words)) (sym asked) refl $ fsplit ! $ flt_l ! (λ fit.
    in_a_block ! h.at (λ p. in_block p (owns_if (has_block cap) (block_with_items chunk u64 p n cap words))) (id⊢ 𝓤 (never 𝓤)) (λ b o e. let p = block_ptr b o in
    regoal ! (λ (x : Ptr). prop (WpFn 𝓤 𝓛.H 𝓣.C 𝓣.Λ code.function (field_val x ∷ vptr heap.ref_ptr.0 heap.ref_ptr.1 ∷ vint w64 cap ∷ []) (W.post y))) e refl $
    -- [the block, if there is one; the heap; its token]
    enter ! _ _ _ _ _ $ alloc_all ! (λ l. pass_all ! refl ((tt, (tt, tt)), ((tt, tt), ((tt, record { fits = are.1.1.0.1 }), tt))) $ let En : Env 𝓤 𝓛.H = env code.Mir.locals l in
    sets ! (of_opd ! (get_in ! (fld ! refl (stop !)) (sub ! 0 refl (whole !)))) refl (tt, tt) $ sets ! (bin ! (get ! refl) (lit ! tt) tt) refl (tt, tt) $
    first ! $ branches ! (get ! refl)
    (λ t. let bytes : cap * 8 < 2 ^ 64 = omega arith in let HasLayout : Type 0 = (capped (cap * 8) ≡ cap * 8) × (capped 8 ≡ 8) in
    blk_out E ! tt b o n cap words (positive cap t) $ use2 𝓛 (‵ (froom τ b o)) (all_room E 𝓛 b o n cap words (subst (λ (k : ℕ). n ≤ k) (sym asked) h.room)) $
    blocks ! $ sets ! (of_opd ! (get ! refl)) refl (tt, tt) $ sets ! (bin ! (get ! refl) (lit ! tt) (record { fits = bytes })) refl (tt, record { fits = bytes }) $
    let A : Contract 𝓤 = triple_of 𝓛 g.signature (g.spec 𝓛 𝓜.mem 𝓡.returns) in
    let z : A.Ghost = (((κ, tt), (q, tt), tt, (heap, (p, (cap * 8, (8, tt)))), (shr_vals heap, (rawptr_vals p, (vint w64 (cap * 8) ∷ [], (vint w64 8 ∷ [], tt))))), τ) in
    fjoin ! $ use0 𝓛 (raw (fact 𝓤 HasLayout)) (fact_i 𝓤 HasLayout (emp 𝓤) (capped_is (cap * 8) bytes, refl)) $ join ! $
    nothing ! $ owned ! usize _ (uint_Makes 𝓛 w64) 8 _ (refl, lit< tt) $ fjoin ! $ owned ! usize _ (uint_Makes 𝓛 w64) (cap * 8) _ (refl, bytes) $ fjoin ! $
    feq_i ! (List Val) (rawptr_vals p) (rawptr_vals p) refl $ fjoin ! $ move ! (2 ∷ 0 ∷ []) $ fjoin ! $ nothing ! $ move ! (3 ∷ 0 ∷ []) $ join ! $ join ! $ use2 𝓛 (raw (A.pre z)) (id⊢ 𝓤 _) $
    calls_at_last ! (framed 𝓤 𝓛.H 𝓜 𝓣) A (met 𝓤 𝓛 𝓜 𝓡 (code.calls-std_heap::GlobalAllocator::deallocate 𝓡.env wired)) z (and_then ! (get ! refl) (and_then ! (get ! refl) (and_then ! (get ! refl) (and_then ! (lit ! tt) (no_more !))))) (λ v.
    use1 𝓛 (later (some (λ (r : Unit {0}). ((‵ (flft κ q) ⊛ ‵ ftrue) ⊛ ‵ (unit.own_val r (v ∷ []))) ⊛ some (λ (ws : Unit {0} × (Unit {0} × (Unit {0} × (Unit {0} × Unit {0})))). ‵ (lasts g.ended z.0.0 z.0.3 ws) ⊛ ‵ ftrue)))) (id⊢ 𝓤 _) $
    await ! tt $ pick ! (λ r. split ! $ split ! $ split ! $ move ! (2 ∷ []) $ feq_l ! (λ is_unit.
    lands_last ! refl (subst (λ (u : Val). T (has_ty ty_unit u) × WT u) (sym (ap only is_unit)) (tt, tt)) $
    exec ! 𝓣.C 𝓣.Λ En code.Mir.t-4 (at_ret En (W.post y)) $ sets ! (of_opd ! (unit_lit !)) refl (tt, tt) $ returns ! (look_at ! 0 refl) $ free_all ! refl $ keep ! (0 ∷ []) $ out))))
    (λ t. skips ! $ exec ! 𝓣.C 𝓣.Λ En code.Mir.t-4 (at_ret En (W.post y)) $ sets ! (of_opd ! (unit_lit !)) refl (tt, tt) $ returns ! (look_at ! 0 refl) $ free_all ! refl $ keep ! (2 ∷ []) $ out))))))
