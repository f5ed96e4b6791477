-- `take` asks the allocator for the first block.
use Rattle.marshal_heap.proofs.arena.Steps.{◌≡◌, ℕ, ◌+◌, ◌-◌, ◌*◌, ◌^◌, ◌<◌, ◌≤◌, List, [], ◌∷◌, length, refl, subst, arith, lit<, w64, proved, full_share, never, id⊢, ftrue, froom, flft, ty_int, ty_array, named, sem, Fml, Val, vint, fact, tables, ‵, raw, ◌⊛◌, some, later, at_ret, ◌$◌, ◌∵◌, !, qed, done, move, keep, drop, use0, use1, use2, split, join, fsplit, fsplit3, fjoin, feq_i, flt_i, pick, await, rewrite, suffices, frame, group, enter, of_opd, lit, bin, stop, fld, no_more, and_then, first, exec, returns, alloc_all, pass_all, free_all, look_at, get, through, sets, sets_last, env, whole, sub, Array, u64, usize, RefOf, yes, shows, cell_at, part_at, uint_vals, uint_Tells, owns, block_ptr, MutRef, mut_vals, mut_Tells, ShrRef, shr_vals, shr_Tells, plain, nothing, opens, closes, heard, peeks, Stays, walk_of, says, stay_dropped, Goes-dropped, stay_ref, Goes-ref, ends_at, chunk}
use denote.Triple.Spec.{triple_of}
use denote.Triple.Statement.{Contract}
use base.Logic.{emp, ex, fst∗}
use base.Fml.{fobs, fbor}
use mathlib.Core.Bool.{Bool, true, false, cond}
use mir.Syntax.{Ty}
use mir.Val.{vbool}
use prog.Memory.{capped}
use prog.Capped.{capped_is}
use contract.Monad.{fact_i}
use prog.Wp.{Env, Wp, after_seq, at_return}
use types.Kit.{prop, Sq, split3, any_q, Post as After}
use types.Match.{vrt, in_variant}
use types.Part.{store_in}
use types.Run.{assigns, true_lit, false_lit, switches_on}
use types.ByLocal.{get_in, get_tag, lands_as}
use Rattle.std.proofs.alloc.Shapes.{arm_body}
use types.SemTy.{Body}
use denote.Memory.{mem}
use denote.RawPtr.{null_ptr}
use denote.Plain.{uint_Makes}
use denote.Ref.{mut_at}
use denote.Steps.{owned}
use denote.Triple.Call.{calls_at}
use denote.Triple.Clauses.{lasts}
use denote.Triple.Table.{framed}
use Rattle.std.specs.Allocator.{block_if_ok}
use Rattle.std.proofs.alloc.Calls.{Answer, Answer-typed}
use Rattle.std.proofs.alloc.Resizes.{Flagged, by_flag, flagged}
use Rattle.std.proofs.VecSteps.Opens.{blk_in}
use Rattle.std.proofs.VecSteps.Rows.{empty}
use Rattle.marshal_heap.proofs.arena.Field.{Field, field_val, field_made}
use Rattle.marshal_heap.proofs.arena.Words.{E, no_words}
use Rattle.std_heap.specs.contracts.Global as G
use Rattle.std_heap.specs.contracts.GlobalAllocator.allocate as g
use Rattle.std_heap.proofs.GlobalAllocator.allocate.Met.{met}
use Rattle.marshal_heap.specs.contracts.arena.block.Block.take as f
use Rattle.marshal_heap.proofs.arena.block.Block.take.Statement.{statement}
use Rattle.marshal_heap.proofs.arena.block.Block.take.Code as code
use Rattle.marshal_heap.specs.contracts.arena.block.Block.{the_row as R}
use Rattle.marshal_heap.proofs.arena.block.Block.TheLaws.{lowers}

abbrev stayed : Stays f.ended.signature.params f.ended.kept
stayed = (stay_ref (0 ∷ []) tt (plain (λ _. R)), (stay_dropped _ yes, (stay_dropped _ yes, tt)))

pub take_spec : {M : Type 1} → statement M
take_spec 𝓤 𝓛 𝓜 𝓡 wired =
    let c = f.clauses 𝓛 𝓜.mem 𝓡.returns in let W = walk_of 𝓛 f.ended stayed c in let 𝓣 = tables 𝓤 𝓛.H 𝓜 𝓡 𝓡.env in
    proved 𝓛 f.ended stayed c 𝓜 𝓡 (Goes-ref 𝓛 2 0 tt (plain (λ _. R)), (Goes-dropped 𝓛 2 (RefOf (1 ∷ []) tt (plain (λ _. G.the_row)) (λ _. tt)) yes (λ κs x w. refl), (Goes-dropped 𝓛 2 (plain (λ _. usize)) yes (λ κs x w. refl), tt)))
    f.Key.name code.function (code.unfolded 𝓤 𝓛.H 𝓜 𝓡 wired)
    (λ κs. (mut_vals, (shr_vals, (uint_vals w64, tt)))) (λ κs. (mut_Tells (named 0) κs.0 R, (shr_Tells (named 1) κs.1.0 G.the_row, (uint_Tells w64, tt)))) (λ κs qs bounds a _ are.
    let rb = a.0.ref_ptr.0 in let ro = a.0.ref_ptr.1 in let γ = a.0.ghost_name in let h = a.0.now in let heap = a.1.0 in let n = a.1.1.0 in let κ = κs.1.0 in let q = qs.1.0 in
    let y : W.Ghost = ((κs, qs, bounds, a, (mut_vals a.0, (shr_vals heap, (uint_vals w64 n, tt)))), tt) in
    let τ : Ty = ty_array (ty_int w64) n in
    let A : Contract 𝓤 = triple_of 𝓛 g.signature (g.spec 𝓛 𝓜.mem 𝓡.returns) in
    let z : A.Ghost = (((κ, tt), (q, tt), tt, (heap, (n * 8, (8, tt))), (shr_vals heap, (vint w64 (n * 8) ∷ [], (vint w64 8 ∷ [], tt)))), τ) in
    let F : Answer.Denot → Fml = block_if_ok chunk τ in
    let End = λ (new : R.Denot). ‵ (mut_at a.0 (mut_vals a.0)) ∷ ‵ (fobs γ (R.coded.code new)) ∷ ‵ (fbor κs.0 (Body (mem R) rb ro γ)) ∷ ‵ (flft κs.0 qs.0) ∷ ‵ (flft κ q) ∷ [] in
    let out : (r : Bool) (new : R.Denot) → (new.words ≡ []) × (new.cap ≡ cond r n 0) → Sq 𝓛 (End new) (prop (W.post y (vbool r))) = λ r new is.
    suffices ! _ (ends_at 𝓛 f.ended stayed c y (vbool r) r (new, (tt, (tt, tt))) (tt, (tt, (tt, tt)))) $ says ! is $
    group ! 3 $ nothing ! $ nothing ! $ join ! $ nothing ! $ join ! $ move ! (1 ∷ 0 ∷ []) $ join ! $ nothing ! $ move ! (3 ∷ 0 ∷ []) $ join ! $ move ! (2 ∷ 0 ∷ []) $ join ! $ frame ! $ frame ! $
    feq_i ! _ (vbool r ∷ []) _ refl $ done ! in
    qed 𝓛 (((‵ (flft κs.0 qs.0) ⊛ ‵ (flft κ q) ⊛ ‵ ftrue) ⊛ ‵ (owns (MutRef (named 0) κs.0 R ∷ ShrRef (named 1) κ G.the_row ∷ usize ∷ []) a y.0.4)) ∷ raw (fact 𝓤 ((h.cap ≡ 0) × (0 < n) × (n < 2 ^ 60))) ∷ []) ∵
    move ! (1 ∷ []) $ heard ! _ (λ asked. let bytes : n * 8 < 2 ^ 64 = omega arith in let HasLayout : Type 0 = (capped (n * 8) ≡ n * 8) × (capped 8 ≡ 8) in
    split ! $ split3 ! $ move ! (3 ∷ []) $ fsplit3 ! $ keep ! (0 ∷ 1 ∷ 3 ∷ 4 ∷ []) $
    enter ! _ _ _ _ _ $ alloc_all ! (λ l. pass_all ! refl ((tt, tt), ((tt, tt), ((tt, record { fits = are.1.1.0.1 }), tt))) $
    sets ! (bin ! (get ! refl) (lit ! tt) (record { fits = bytes })) refl (tt, record { fits = bytes }) $
    move ! (1 ∷ 3 ∷ []) $ use0 𝓛 (raw (fact 𝓤 HasLayout)) (fact_i 𝓤 HasLayout (emp 𝓤) (capped_is (n * 8) bytes, refl)) $
    nothing ! $ owned ! usize _ (uint_Makes 𝓛 w64) 8 _ (refl, lit< tt) $ fjoin ! $ owned ! usize _ (uint_Makes 𝓛 w64) (n * 8) _ (refl, bytes) $ fjoin ! $ move ! (2 ∷ 0 ∷ []) $ fjoin ! $
    nothing ! $ move ! (3 ∷ 0 ∷ []) $ join ! $ join ! $ use2 𝓛 (raw (A.pre z)) (id⊢ 𝓤 _) $
    calls_at ! (framed 𝓤 𝓛.H 𝓜 𝓣) A (met 𝓤 𝓛 𝓜 𝓡 (code.calls-std_heap::GlobalAllocator::allocate 𝓡.env wired)) z (and_then ! (get ! refl) (and_then ! (get ! refl) (and_then ! (lit ! tt) (no_more !)))) (λ v.
    use1 𝓛 (later (some (λ (r : Answer.Denot). ((‵ (flft κ q) ⊛ ‵ ftrue) ⊛ ‵ (Answer.own_val r (v ∷ []))) ⊛ some (λ (ws : Unit {0} × (Unit {0} × (Unit {0} × Unit {0}))). ‵ (lasts g.ended z.0.0 z.0.3 ws) ⊛ ‵ (F r))))) (id⊢ 𝓤 _) $
    await ! tt $ pick ! (λ r. split ! $ split ! $ split ! $ move ! (3 ∷ []) $ pick ! (λ ws. split ! $ drop ! $ move ! (3 ∷ 0 ∷ []) $
    use2 𝓛 (raw (ex 𝓤 (Flagged 𝓛 F v))) (by_flag 𝓛 F (fst∗ 𝓤 (never 𝓤) (sem 𝓛 (chunk τ null_ptr))) v r) $
    -- [the answer; the heap's token; nothing; self; its token]
    let En : Env 𝓤 𝓛.H = env code.Mir.locals l in
    let Then : After 𝓤 𝓛.H = any_q (after_seq 𝓤 𝓛.H (Wp 𝓤 𝓛.H 𝓣.C 𝓣.Λ En code.Mir.t-4 (at_return 𝓤 𝓛.H En (W.post y))) (at_return 𝓤 𝓛.H En (W.post y))) in
    flagged ! v F
    (λ b o e. let p = block_ptr b o in let new : R.Denot = record { at = p; cap = n; words = []; room = omega arith } in
    lands_as ! e refl (Answer-typed true b o) $ first ! $ switches_on ! (get_tag ! (vrt ! refl (fld ! refl (stop !))) (whole !)) $ exec ! 𝓣.C 𝓣.Λ En (arm_body 0 code.Mir.s-3) Then $
    sets ! (of_opd ! (get_in ! (vrt ! refl (fld ! refl (stop !))) (in_variant ! 0 0 refl refl (whole !)))) refl (tt, tt) $ sets ! (of_opd ! (get ! refl)) refl (tt, tt) $
    fsplit ! $ move ! (4 ∷ []) $ fsplit3 ! $ move ! (1 ∷ 2 ∷ 7 ∷ []) $ opens ! tt R rb ro (λ us. move ! (1 ∷ []) $ peeks ! R _ (shows 𝓛 R) h us (λ is. drop ! $
    -- [self's cell; its open borrow; obs; auth; its first part; the room; the right to free it; the heap's token; nothing]
    rewrite ! 0 (λ (vs : List Val). ‵ (cell_at full_share R.mir vs rb ro)) (lowers.val_is h us is) refl $
    assigns ! (of_opd ! (get ! refl)) (through ! refl (fld ! refl (stop !))) (store_in ! 0 (sub ! 0 refl (whole !)) (tt, tt)) $
    sets_last ! (of_opd ! (true_lit !)) refl (tt, tt) $ exec ! 𝓣.C 𝓣.Λ En code.Mir.t-4 (at_ret En (W.post y)) $ sets ! (of_opd ! (get ! refl)) refl (tt, tt) $
    let rest : n ≡ n - 0 = omega arith in let place : o ≡ o + 0 * 8 = omega arith in
    move ! (5 ∷ 6 ∷ []) $ rewrite ! 0 (λ (k : ℕ × ℕ). ‵ (froom (ty_array (ty_int w64) k.0) b k.1)) (λ i. (rest i, place i)) refl $ use0 𝓛 (‵ (part_at (Array u64 0) full_share [] b o)) (empty E 𝓛 [] b o refl) $
    blk_in E ! tt b o 0 n [] asked.1 $ flt_i ! (n * 8) (2 ^ 63) (omega arith) $ fjoin ! $
    use0 𝓛 (‵ (Field.own_val (p, tt) (field_val p ∷ []))) (field_made 𝓛 p) $ fjoin ! $ move ! (1 ∷ []) $ closes ! tt R new (field_val p ∷ []) rb ro $
    returns ! (look_at ! 0 refl) $ free_all ! refl $ keep ! (3 ∷ 0 ∷ 1 ∷ 2 ∷ 4 ∷ []) $ out true new (refl, refl))))
    (λ e. lands_as ! e refl (Answer-typed false 0 0) $ first ! $ switches_on ! (get_tag ! (vrt ! refl (fld ! refl (stop !))) (whole !)) $ exec ! 𝓣.C 𝓣.Λ En (arm_body 1 code.Mir.s-3) Then $
    sets_last ! (of_opd ! (false_lit !)) refl (tt, tt) $ exec ! 𝓣.C 𝓣.Λ En code.Mir.t-4 (at_ret En (W.post y)) $ sets ! (of_opd ! (get ! refl)) refl (tt, tt) $
    move ! (3 ∷ []) $ fsplit3 ! $ returns ! (look_at ! 0 refl) $ free_all ! refl $ keep ! (0 ∷ 1 ∷ 2 ∷ 6 ∷ 4 ∷ []) $
    out false h (no_words h.words (subst (λ (k : ℕ). length h.words ≤ k) asked.0 h.room), asked.0))))))))
