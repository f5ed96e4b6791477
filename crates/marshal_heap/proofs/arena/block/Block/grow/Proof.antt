-- `grow` asks the allocator for a larger block with the same words.
use Rattle.marshal_heap.proofs.arena.Steps.{◌≡◌, ℕ, ◌*◌, ◌^◌, ◌<◌, ◌≤◌, List, [], ◌∷◌, length, refl, sym, ap, subst, ◌∙◌, arith, w64, proved, full_share, never, id⊢, ftrue, flft, fsep, named, sem, Fml, Val, fact, tables, ‵, raw, ◌⊛◌, some, later, at_ret, ◌$◌, ◌∵◌, !, qed, done, move, keep, drop, use0, use1, use2, split, join, fsplit, fsplit3, fjoin, feq_i, flt_i, flt_l, pick, await, rewrite, suffices, frame, group, enter, of_opd, load, stop, fld, no_more, and_then, first, blocks, exec, returns, alloc_all, pass_all, free_all, look_at, get, through, sets, sets_last, env, whole, sub, look_in, u64, usize, RefOf, yes, shows, cell_at, uint_vals, uint_Tells, owns, Ptr, block_ptr, in_block, in_a_block, MutRef, mut_vals, mut_Tells, ShrRef, shr_vals, shr_Tells, plain, nothing, opens, closes, heard, peeks, Stays, walk_of, says, stay_dropped, Goes-dropped, stay_ref, Goes-ref, ends_at, chunk, block_with_items, vec_owns, owns_if, has_block}
use denote.Triple.Spec.{triple_of}
use denote.Triple.Statement.{Contract}
use base.Logic.{emp, ex, fst∗}
use base.Fml.{ffalse, fobs, fbor}
use mathlib.Core.Bool.{Bool, true, false, cond}
use mir.Val.{vbool, has_ty, WT}
use lib.Dec.{T}
use contract.Monad.{fact_i}
use contract.BorrowLft.{◌⊑◌, ⊑_refl}
use prog.Wp.{Env, Wp, after_seq, at_return}
use types.Kit.{prop, Sq, split3, any_q, Post as After}
use types.Match.{vrt, in_variant}
use types.Part.{store_in}
use types.Run.{assigns, true_lit, false_lit, switches_on}
use types.ByLocal.{get_in, get_tag, lands_last, is}
use Rattle.std.proofs.alloc.Shapes.{arm_body}
use types.SemTy.{Body}
use denote.Memory.{mem}
use denote.RawPtr.{null_ptr, rawptr_vals}
use denote.Param.{layout}
use denote.Plain.{uint_Makes}
use denote.Ref.{mut_at}
use denote.Steps.{owned}
use denote.Triple.Call.{calls_at_last}
use denote.Triple.Clauses.{lasts}
use denote.Triple.Table.{framed}
use Rattle.std.specs.Allocator.{resized_if_ok, array_of}
use Rattle.std.proofs.alloc.Calls.{Answer, Answer-typed}
use Rattle.std.proofs.alloc.Resizes.{Grows, Flagged, by_flag, flagged}
use Rattle.std.proofs.VecSteps.Opens.{is_live}
use Rattle.marshal_heap.proofs.arena.Field.{Field, field_val, field_made}
use Rattle.marshal_heap.proofs.arena.Words.{u64_laws}
use Rattle.std_heap.specs.contracts.Global as G
use Rattle.std_heap.specs.contracts.GlobalAllocator.grow as g
use Rattle.std_heap.proofs.GlobalAllocator.grow.Met.{met}
use Rattle.marshal_heap.specs.contracts.arena.block.Block.grow as f
use Rattle.marshal_heap.proofs.arena.block.Block.grow.Statement.{statement}
use Rattle.marshal_heap.proofs.arena.block.Block.grow.Code as code
use Rattle.marshal_heap.specs.contracts.arena.block.Block.{the_row as R}
use Rattle.marshal_heap.proofs.arena.block.Block.TheLaws.{lowers}

abbrev stayed : Stays f.ended.signature.params f.ended.kept
stayed = (stay_ref (0 ∷ []) tt (plain (λ _. R)), (stay_dropped _ yes, (stay_dropped _ yes, (stay_dropped _ yes, (stay_dropped _ yes, tt)))))

pub grow_spec : {M : Type 1} → statement M
grow_spec 𝓤 𝓛 𝓜 𝓡 wired =
    let c = f.clauses 𝓛 𝓜.mem 𝓡.returns in let W = walk_of 𝓛 f.ended stayed c in let 𝓣 = tables 𝓤 𝓛.H 𝓜 𝓡 𝓡.env in
    let number = Goes-dropped 𝓛 2 (plain (λ _. usize)) yes (λ κs x w. refl) in
    proved 𝓛 f.ended stayed c 𝓜 𝓡 (Goes-ref 𝓛 2 0 tt (plain (λ _. R)), (Goes-dropped 𝓛 2 (RefOf (1 ∷ []) tt (plain (λ _. G.the_row)) (λ _. tt)) yes (λ κs x w. refl), (number, (number, (number, tt)))))
    f.Key.name code.function (code.unfolded 𝓤 𝓛.H 𝓜 𝓡 wired)
    (λ κs. (mut_vals, (shr_vals, (uint_vals w64, (uint_vals w64, (uint_vals w64, tt)))))) (λ κs. (mut_Tells (named 0) κs.0 R, (shr_Tells (named 1) κs.1.0 G.the_row, (uint_Tells w64, (uint_Tells w64, (uint_Tells w64, tt)))))) (λ κs qs bounds a _ are.
    let rb = a.0.ref_ptr.0 in let ro = a.0.ref_ptr.1 in let γ = a.0.ghost_name in let h = a.0.now in let words = h.words in
    let heap = a.1.0 in let n = a.1.1.0 in let old = a.1.1.1.0 in let cap = a.1.1.1.1.0 in let κ = κs.1.0 in let q = qs.1.0 in
    let y : W.Ghost = ((κs, qs, bounds, a, (mut_vals a.0, (shr_vals heap, (uint_vals w64 n, (uint_vals w64 old, (uint_vals w64 cap, tt)))))), tt) in
    let End = λ (new : R.Denot). ‵ (mut_at a.0 (mut_vals a.0)) ∷ ‵ (fobs γ (R.coded.code new)) ∷ ‵ (fbor κs.0 (Body (mem R) rb ro γ)) ∷ ‵ (flft κs.0 qs.0) ∷ ‵ (flft κ q) ∷ [] in
    let out : (r : Bool) (new : R.Denot) → (new.words ≡ words) × (new.cap ≡ cond r cap old) → Sq 𝓛 (End new) (prop (W.post y (vbool r))) = λ r new is.
    suffices ! _ (ends_at 𝓛 f.ended stayed c y (vbool r) r (new, (tt, (tt, (tt, (tt, tt))))) (tt, (tt, (tt, (tt, (tt, tt)))))) $ says ! is $
    group ! 3 $ nothing ! $ nothing ! $ join ! $ nothing ! $ join ! $ nothing ! $ join ! $ nothing ! $ join ! $ move ! (1 ∷ 0 ∷ []) $ join ! $ nothing ! $ move ! (3 ∷ 0 ∷ []) $ join ! $ move ! (2 ∷ 0 ∷ []) $ join ! $ frame ! $ frame ! $
    feq_i ! _ (vbool r ∷ []) _ refl $ done ! in
    let Asked : Type 0 = (n ≡ length words) × (old ≡ h.cap) × (0 < old) × (old ≤ cap) × (cap < 2 ^ 60) in
    qed 𝓛 (((‵ (flft κs.0 qs.0) ⊛ ‵ (flft κ q) ⊛ ‵ ftrue) ⊛ ‵ (owns (MutRef (named 0) κs.0 R ∷ ShrRef (named 1) κ G.the_row ∷ usize ∷ usize ∷ usize ∷ []) a y.0.4)) ∷ raw (fact 𝓤 Asked) ∷ []) ∵
    move ! (1 ∷ []) $ heard ! Asked (λ asked. let pos : 0 < cap = (let lo = asked.2 in let hi = asked.3 in omega arith) in let fits : cap * 8 < 2 ^ 63 = (let hi = asked.4 in omega arith) in
    split ! $ split3 ! $ move ! (3 ∷ []) $ fsplit3 ! $ keep ! (0 ∷ 1 ∷ 3 ∷ 4 ∷ []) $
    enter ! _ _ _ _ _ $ alloc_all ! (λ l. pass_all ! refl ((tt, tt), ((tt, tt), ((tt, record { fits = are.1.1.0.1 }), ((tt, record { fits = are.1.1.1.0.1 }), ((tt, record { fits = are.1.1.1.1.0.1 }), tt))))) $
    let En : Env 𝓤 𝓛.H = env code.Mir.locals l in
    let Then : After 𝓤 𝓛.H = any_q (after_seq 𝓤 𝓛.H (Wp 𝓤 𝓛.H 𝓣.C 𝓣.Λ En code.Mir.t-4 (at_return 𝓤 𝓛.H En (W.post y))) (at_return 𝓤 𝓛.H En (W.post y))) in
    fsplit3 ! $ move ! (1 ∷ 2 ∷ 4 ∷ []) $ opens ! tt R rb ro (λ us.
    move ! (1 ∷ []) $ peeks ! R _ (shows 𝓛 R) h us (λ is'. fsplit ! $ move ! (1 ∷ []) $
    rewrite ! 0 (λ (k : ℕ × ℕ). ‵ (vec_owns chunk u64 h.at k.0 k.1 words)) (λ i. (sym asked.0 i, sym asked.1 i)) refl $ fsplit ! $ flt_l ! (λ fit.
    in_a_block ! h.at (λ p. in_block p (owns_if (has_block old) (block_with_items chunk u64 p n old words))) (id⊢ 𝓤 (never 𝓤)) (λ b o e. let p = block_ptr b o in
    let word = lowers.val_is h us is' ∙ ap (λ (p : Ptr). lowers.lowered (record h { at = p }) ∷ []) e in
    rewrite ! 0 (λ (w : Bool). ‵ (owns_if w (block_with_items chunk u64 p n old words))) (is_live old asked.2) refl $
    rewrite ! 2 (λ (vs : List Val). ‵ (cell_at full_share R.mir vs rb ro)) word refl $
    -- [the block; the field; self's cell; its open borrow; obs; auth; its first part; the heap; its token]
    first ! $ blocks ! $ sets ! (of_opd ! (load ! (through ! refl (fld ! refl (stop !))) (look_in ! 2 (sub ! 0 refl (whole !))))) refl (tt, tt) $
    let A : Contract 𝓤 = triple_of 𝓛 (g.signature u64) (g.spec u64 𝓛 𝓜.mem 𝓡.returns) in
    let z : A.Ghost = (((κ, ([], tt)), (q, (full_share, tt)), tt, (heap, (p, (n, (old, (cap, tt))))), (shr_vals heap, (rawptr_vals p, (uint_vals w64 n, (uint_vals w64 old, (uint_vals w64 cap, tt)))))), words) in
    let F : Answer.Denot → Fml = resized_if_ok chunk u64 p n old cap words in
    let Sizes : Type 0 = Grows u64 n old cap in
    use0 𝓛 (raw (fact 𝓤 Sizes)) (fact_i 𝓤 Sizes (emp 𝓤) (subst (λ (k : ℕ). k ≤ old) (sym asked.0) (subst (λ (k : ℕ). length words ≤ k) (sym asked.1) h.room), asked.3, fits)) $ join ! $
    use0 𝓛 (raw (fact 𝓤 ([] ⊑ []))) (fact_i 𝓤 ([] ⊑ []) (emp 𝓤) (⊑_refl [])) $ join ! $
    nothing ! $ owned ! usize _ (uint_Makes 𝓛 w64) cap _ (refl, are.1.1.1.1.0.1) $ fjoin ! $ owned ! usize _ (uint_Makes 𝓛 w64) old _ (refl, are.1.1.1.0.1) $ fjoin ! $ owned ! usize _ (uint_Makes 𝓛 w64) n _ (refl, are.1.1.0.1) $ fjoin ! $
    feq_i ! (List Val) (rawptr_vals p) (rawptr_vals p) refl $ fjoin ! $ move ! (8 ∷ 0 ∷ []) $ fjoin ! $
    nothing ! $ use0 𝓛 (‵ (flft [] full_share)) (𝓛.lfts.lft-nil full_share) $ join ! $ move ! (9 ∷ 0 ∷ []) $ join ! $ join ! $ use2 𝓛 (raw (A.pre z)) (id⊢ 𝓤 _) $
    calls_at_last ! (framed 𝓤 𝓛.H 𝓜 𝓣) A (met 𝓤 𝓛 𝓜 𝓡 (code.calls-std_heap::GlobalAllocator::grow 𝓡.env wired) u64 u64_laws) z (and_then ! (get ! refl) (and_then ! (get ! refl) (and_then ! (get ! refl) (and_then ! (get ! refl) (and_then ! (get ! refl) (no_more !)))))) (λ v.
    use1 𝓛 (later (some (λ (r : Answer.Denot). ((‵ (flft κ q) ⊛ ‵ (flft [] full_share) ⊛ ‵ ftrue) ⊛ ‵ (Answer.own_val r (v ∷ []))) ⊛ some (λ (ws : Unit {0} × (Unit {0} × (Unit {0} × (Unit {0} × (Unit {0} × Unit {0}))))). ‵ (lasts (g.ended u64) z.0.0 z.0.3 ws) ⊛ ‵ (F r))))) (id⊢ 𝓤 _) $
    await ! tt $ pick ! (λ r. split ! $ split ! $ split3 ! $ move ! (4 ∷ []) $ pick ! (λ ws. split ! $ drop ! $ move ! (4 ∷ 0 ∷ []) $
    use2 𝓛 (raw (ex 𝓤 (Flagged 𝓛 F v))) (by_flag 𝓛 F (fst∗ 𝓤 (never 𝓤) (sem 𝓛 (fsep ffalse (chunk (array_of u64 cap) null_ptr)))) v r) $
    -- [the answer; the heap's token; two that are spent; the field; self's cell; its open borrow; obs; auth; its first part]
    flagged ! v F
    (λ b' o' e'. let p' = block_ptr b' o' in let new : R.Denot = record { at = p'; cap = cap; words = words; room = subst (λ (k : ℕ). k ≤ cap) asked.0 (let lo = asked.3 in let le = h.room in omega (arith, asked.0, asked.1)) } in
    lands_last ! refl (subst (λ (u : Val). T (has_ty (layout Answer) u) × WT u) (sym e') (Answer-typed true b' o')) $ exec ! 𝓣.C 𝓣.Λ En code.Mir.t-2 (at_ret En (W.post y)) $ sets ! (is ! (of_opd ! (get ! refl)) e') refl (Answer-typed true b' o') $
    first ! $ switches_on ! (get_tag ! (vrt ! refl (fld ! refl (stop !))) (whole !)) $ exec ! 𝓣.C 𝓣.Λ En (arm_body 0 code.Mir.s-3) Then $
    sets ! (of_opd ! (get_in ! (vrt ! refl (fld ! refl (stop !))) (in_variant ! 0 0 refl refl (whole !)))) refl (tt, tt) $
    assigns ! (of_opd ! (get ! refl)) (through ! refl (fld ! refl (stop !))) (store_in ! 5 (sub ! 0 refl (whole !)) (tt, tt)) $
    sets_last ! (of_opd ! (true_lit !)) refl (tt, tt) $ exec ! 𝓣.C 𝓣.Λ En code.Mir.t-4 (at_ret En (W.post y)) $ sets ! (of_opd ! (get ! refl)) refl (tt, tt) $
    rewrite ! 0 (λ (w : Bool). ‵ (owns_if w (block_with_items chunk u64 p' n cap words))) (sym (is_live cap pos)) refl $ flt_i ! (cap * 8) (2 ^ 63) fits $ fjoin ! $
    rewrite ! 0 (λ (k : ℕ). ‵ (vec_owns chunk u64 p' k cap words)) asked.0 refl $
    use0 𝓛 (‵ (Field.own_val (p', tt) (field_val p' ∷ []))) (field_made 𝓛 p') $ fjoin ! $ move ! (5 ∷ 0 ∷ 6 ∷ 7 ∷ 8 ∷ []) $ closes ! tt R new (field_val p' ∷ []) rb ro $
    returns ! (look_at ! 0 refl) $ free_all ! refl $ keep ! (7 ∷ 0 ∷ 1 ∷ 2 ∷ 3 ∷ []) $ out true new (refl, refl))
    (λ e'. lands_last ! refl (subst (λ (u : Val). T (has_ty (layout Answer) u) × WT u) (sym e') (Answer-typed false 0 0)) $ exec ! 𝓣.C 𝓣.Λ En code.Mir.t-2 (at_ret En (W.post y)) $ sets ! (is ! (of_opd ! (get ! refl)) e') refl (Answer-typed false 0 0) $
    first ! $ switches_on ! (get_tag ! (vrt ! refl (fld ! refl (stop !))) (whole !)) $ exec ! 𝓣.C 𝓣.Λ En (arm_body 1 code.Mir.s-3) Then $
    sets_last ! (of_opd ! (false_lit !)) refl (tt, tt) $ exec ! 𝓣.C 𝓣.Λ En code.Mir.t-4 (at_ret En (W.post y)) $ sets ! (of_opd ! (get ! refl)) refl (tt, tt) $
    rewrite ! 0 (λ (w : Bool). ‵ (owns_if w (block_with_items chunk u64 p n old words))) (sym (is_live old asked.2)) refl $ flt_i ! (old * 8) (2 ^ 63) fit $ fjoin ! $
    rewrite ! 0 (λ (k : Ptr × ℕ × ℕ). ‵ (vec_owns chunk u64 k.0 k.1 k.2 words)) (λ i. (sym e i, asked.0 i, asked.1 i)) refl $
    rewrite ! 5 (λ (vs : List Val). ‵ (cell_at full_share R.mir vs rb ro)) (sym word) refl $
    move ! (4 ∷ 0 ∷ []) $ fjoin ! $ move ! (4 ∷ 0 ∷ 5 ∷ 6 ∷ 7 ∷ []) $ closes ! tt R h us rb ro $
    returns ! (look_at ! 0 refl) $ free_all ! refl $ keep ! (6 ∷ 0 ∷ 1 ∷ 2 ∷ 3 ∷ []) $ out false h (refl, sym asked.1))))))))))))
