-- The function `cut` turns the words from `_len` on into room. No code runs.
use Rattle.marshal_heap.proofs.arena.Steps.{◌≡◌, ℕ, ◌*◌, ◌^◌, ◌≤◌, [], ◌∷◌, length, refl, sym, subst, arith, w64, proved, never, id⊢, ftrue, flft, named, vunit, fact, tables, ‵, raw, ◌⊛◌, ◌$◌, ◌∵◌, !, qed, done, move, keep, use1, split, join, fsplit, fsplit3, fjoin, feq_i, flt_i, flt_l, rewrite, suffices, frame, group, enter, of_opd, unit_lit, returns, alloc_all, pass_all, free_all, look_at, sets, u64, usize, yes, shows, uint_vals, uint_Tells, owns, Ptr, block_ptr, in_block, in_a_block, MutRef, mut_vals, mut_Tells, plain, nothing, opens, closes, heard, peeks, Stays, walk_of, says, stay_dropped, Goes-dropped, stay_ref, Goes-ref, ends_at, chunk, block_with_items, vec_owns, owns_if, has_block}
use Rattle.std.proofs.VecSteps.Gaps.{shorter, taken}
use Rattle.std.specs.Prelude.{take}
use Rattle.marshal_heap.proofs.arena.Words.{E}
use Rattle.marshal_heap.specs.contracts.arena.block.Block.cut as f
use Rattle.marshal_heap.proofs.arena.block.Block.cut.Statement.{statement}
use Rattle.marshal_heap.proofs.arena.block.Block.cut.Code as code
use Rattle.marshal_heap.specs.contracts.arena.block.Block.{the_row as R}

abbrev stayed : Stays f.ended.signature.params f.ended.kept
stayed = (stay_ref (0 ∷ []) tt (plain (λ _. R)), (stay_dropped _ yes, tt))

pub cut_spec : {M : Type 1} → statement M
cut_spec 𝓤 𝓛 𝓜 𝓡 wired =
    let c = f.clauses 𝓛 𝓜.mem 𝓡.returns in let W = walk_of 𝓛 f.ended stayed c in let 𝓣 = tables 𝓤 𝓛.H 𝓜 𝓡 𝓡.env in
    proved 𝓛 f.ended stayed c 𝓜 𝓡 (Goes-ref 𝓛 1 0 tt (plain (λ _. R)), (Goes-dropped 𝓛 1 (plain (λ _. usize)) yes (λ κs x w. refl), tt))
    f.Key.name code.function (code.unfolded 𝓤 𝓛.H 𝓜 𝓡 wired)
    (λ κs. (mut_vals, (uint_vals w64, tt))) (λ κs. (mut_Tells (named 0) κs.0 R, (uint_Tells w64, tt))) (λ κs qs bounds a _ are.
    let rb = a.0.ref_ptr.0 in let ro = a.0.ref_ptr.1 in let h = a.0.now in let k = a.1.0 in let words = h.words in let n = length words in let cap = h.cap in
    let y : W.Ghost = ((κs, qs, bounds, a, (mut_vals a.0, (uint_vals w64 k, tt))), tt) in
    qed 𝓛 (((‵ (flft κs.0 qs.0) ⊛ ‵ ftrue) ⊛ ‵ (owns (MutRef (named 0) κs.0 R ∷ usize ∷ []) a y.0.4)) ∷ raw (fact 𝓤 (k ≤ n)) ∷ []) ∵
    move ! (1 ∷ []) $ heard ! _ (λ asked. split ! $ split ! $ move ! (2 ∷ []) $ fsplit ! $ keep ! (0 ∷ 2 ∷ []) $
    enter ! _ _ _ _ _ $ alloc_all ! (λ l. pass_all ! refl ((tt, tt), ((tt, record { fits = are.1.0.1 }), tt)) $ sets ! (of_opd ! (unit_lit !)) refl (tt, tt) $
    fsplit3 ! $ move ! (1 ∷ 2 ∷ 3 ∷ []) $ opens ! tt R rb ro (λ us.
    move ! (1 ∷ []) $ peeks ! R _ (shows 𝓛 R) h us (λ is. fsplit ! $ move ! (1 ∷ []) $ fsplit ! $ flt_l ! (λ fit.
    in_a_block ! h.at (λ p. in_block p (owns_if (has_block cap) (block_with_items chunk u64 p n cap words))) (id⊢ 𝓤 (never 𝓤)) (λ b o e.
    let same : k ≡ length (take k words) = sym (taken words k asked) in
    let new : R.Denot = record { at = h.at; cap = cap; words = take k words; room = subst (λ (j : ℕ). j ≤ cap) same (let le = h.room in omega arith) } in
    use1 𝓛 (‵ (owns_if (has_block cap) (block_with_items chunk u64 (block_ptr b o) k cap new.words))) (shorter E 𝓛 b o tt (has_block cap) n cap k words refl asked h.room) $
    flt_i ! (cap * 8) (2 ^ 63) fit $ fjoin ! $ rewrite ! 0 (λ (p : Ptr × ℕ). ‵ (vec_owns chunk u64 p.0 p.1 cap new.words)) (λ i. (sym e i, same i)) refl $
    move ! (1 ∷ []) $ fjoin ! $ move ! (1 ∷ []) $ closes ! tt R new us rb ro $
    returns ! (look_at ! 0 refl) $ free_all ! refl $ move ! (3 ∷ []) $
    suffices ! _ (ends_at 𝓛 f.ended stayed c y vunit tt (new, (tt, tt)) (tt, (tt, tt))) $ says ! (refl, refl) $
    group ! 3 $ nothing ! $ nothing ! $ join ! $ move ! (1 ∷ 0 ∷ []) $ join ! $ nothing ! $ move ! (2 ∷ 0 ∷ []) $ join ! $ frame ! $ frame ! $
    feq_i ! _ (vunit ∷ []) _ refl $ done !)))))))
