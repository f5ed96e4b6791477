-- `push` writes into the first free word.
use Rattle.marshal_heap.proofs.arena.Steps.{◌≡◌, ℕ, ◌+◌, ◌-◌, ◌*◌, ◌^◌, ◌<◌, List, [], ◌∷◌, ◌++◌, length, refl, sym, ap, ◌∙◌, arith, w64, length-append, proved, full_share, never, id⊢, ftrue, froom, flft, ty_int, ty_array, named, Val, vunit, fact, tables, ‵, raw, ◌⊛◌, at_ret, ◌$◌, ◌∵◌, !, qed, done, move, keep, use1, use2, split, join, fsplit, fsplit3, fjoin, feq_i, flt_i, flt_l, rewrite, suffices, frame, group, enter, of_opd, lit, unit_lit, bin, load, init, stop, fld, assigns_last, first, blocks, exec, returns, alloc_all, pass_all, free_all, look_at, get, through, sets, env, whole, sub, look_in, Array, u64, usize, yes, shows, cell_at, part_at, uint_in, uint_vals, uint_Tells, owns, Ptr, in_block, in_a_block, MutRef, mut_vals, mut_Tells, plain, nothing, opens, closes, heard, peeks, Stays, walk_of, says, stay_dropped, Goes-dropped, stay_ref, Goes-ref, ends_at, chunk, block_with_items, vec_owns, owns_if, has_block}
use Rattle.std.proofs.VecSteps.Opens.{blk_out, blk_in}
use Rattle.std.proofs.VecSteps.Rows.{spare, snoc}
use Rattle.marshal_heap.proofs.arena.Words.{E}
use Rattle.marshal_heap.specs.contracts.arena.block.Block.push as f
use Rattle.marshal_heap.proofs.arena.block.Block.push.Statement.{statement}
use Rattle.marshal_heap.proofs.arena.block.Block.push.Code as code
use Rattle.marshal_heap.specs.contracts.arena.block.Block.{the_row as R}
use Rattle.marshal_heap.proofs.arena.block.Block.TheLaws.{lowers}

abbrev stayed : Stays f.ended.signature.params f.ended.kept
stayed = (stay_ref (0 ∷ []) tt (plain (λ _. R)), (stay_dropped _ yes, (stay_dropped _ yes, tt)))

pub push_spec : {M : Type 1} → statement M
push_spec 𝓤 𝓛 𝓜 𝓡 wired =
    let c = f.clauses 𝓛 𝓜.mem 𝓡.returns in let W = walk_of 𝓛 f.ended stayed c in let 𝓣 = tables 𝓤 𝓛.H 𝓜 𝓡 𝓡.env in
    proved 𝓛 f.ended stayed c 𝓜 𝓡 (Goes-ref 𝓛 1 0 tt (plain (λ _. R)), (Goes-dropped 𝓛 1 (plain (λ _. usize)) yes (λ κs x w. refl), (Goes-dropped 𝓛 1 (plain (λ _. u64)) yes (λ κs x w. refl), tt)))
    f.Key.name code.function (code.unfolded 𝓤 𝓛.H 𝓜 𝓡 wired)
    (λ κs. (mut_vals, (uint_vals w64, (uint_vals w64, tt)))) (λ κs. (mut_Tells (named 0) κs.0 R, (uint_Tells w64, (uint_Tells w64, tt)))) (λ κs qs bounds a _ are.
    let rb = a.0.ref_ptr.0 in let ro = a.0.ref_ptr.1 in let h = a.0.now in let n = a.1.0 in let w = a.1.1.0 in let words = h.words in let cap = h.cap in
    let y : W.Ghost = ((κs, qs, bounds, a, (mut_vals a.0, (uint_vals w64 n, (uint_vals w64 w, tt)))), tt) in
    qed 𝓛 (((‵ (flft κs.0 qs.0) ⊛ ‵ ftrue) ⊛ ‵ (owns (MutRef (named 0) κs.0 R ∷ usize ∷ u64 ∷ []) a y.0.4)) ∷ raw (fact 𝓤 ((n ≡ length words) × (n < cap))) ∷ []) ∵
    move ! (1 ∷ []) $ heard ! _ (λ asked. split ! $ split ! $ move ! (2 ∷ []) $ fsplit ! $ keep ! (0 ∷ 2 ∷ []) $
    enter ! _ _ _ _ _ $ alloc_all ! (λ l. pass_all ! refl ((tt, tt), ((tt, record { fits = are.1.0.1 }), ((tt, record { fits = are.1.1.0.1 }), tt))) $
    fsplit3 ! $ move ! (1 ∷ 2 ∷ 3 ∷ []) $ opens ! tt R rb ro (λ us.
    move ! (1 ∷ []) $ peeks ! R _ (shows 𝓛 R) h us (λ is. fsplit ! $ move ! (1 ∷ []) $
    rewrite ! 0 (λ (k : ℕ). ‵ (vec_owns chunk u64 h.at k cap words)) (sym asked.0) refl $ fsplit ! $ flt_l ! (λ fit.
    in_a_block ! h.at (λ p. in_block p (owns_if (has_block cap) (block_with_items chunk u64 p n cap words))) (id⊢ 𝓤 (never 𝓤)) (λ b o e.
    let pos : 0 < cap = omega arith in let far : n * 8 < 2 ^ 64 = omega arith in
    let longer : n + 1 ≡ length (words ++ w ∷ []) = ap (λ (k : ℕ). k + 1) asked.0 ∙ sym (length-append words (w ∷ [])) in
    let new : R.Denot = record { at = h.at; cap = cap; words = words ++ w ∷ []; room = omega (arith, length-append words (w ∷ [])) } in
    let word = lowers.val_is h us is ∙ ap (λ (p : Ptr). lowers.lowered (record h { at = p }) ∷ []) e in
    blk_out E ! tt b o n cap words pos $ rewrite ! 4 (λ (vs : List Val). ‵ (cell_at full_share R.mir vs rb ro)) word refl $
    move ! (1 ∷ []) $ use1 𝓛 (‵ (froom (ty_int w64) b (n * 8 + o)) ⊛ ‵ (froom (ty_array (ty_int w64) (cap - (n + 1))) b (o + (n + 1) * 8))) (spare E 𝓛 b o n cap asked.1) $ split ! $
    -- [the place; the room after it; the words; the token; the field; its cell; the open borrow; obs; auth]
    first ! $ blocks ! $
    sets ! (of_opd ! (load ! (through ! refl (fld ! refl (stop !))) (look_in ! 5 (sub ! 0 refl (whole !))))) refl (tt, tt) $
    sets ! (bin ! (get ! refl) (lit ! tt) (record { fits = far })) refl (tt, record { fits = far }) $
    sets ! (bin ! (get ! refl) (get ! refl) tt) refl (tt, tt) $
    assigns_last ! (of_opd ! (get ! refl)) (through ! refl (stop !)) (init ! 0 refl (tt, record { fits = are.1.1.0.1 })) $
    exec ! 𝓣.C 𝓣.Λ (env code.Mir.locals l) code.Mir.t-2 (at_ret _ (W.post y)) $
    sets ! (of_opd ! (unit_lit !)) refl (tt, tt) $
    use1 𝓛 (‵ (part_at u64 full_share w b (n * 8 + o))) (uint_in 𝓛 full_share w64 w b (n * 8 + o)) $ move ! (2 ∷ 0 ∷ []) $
    use2 𝓛 (‵ (part_at (Array u64 (n + 1)) full_share (words ++ w ∷ []) b o)) (snoc E 𝓛 b o n words w) $
    blk_in E ! tt b o (n + 1) cap new.words pos $ flt_i ! (cap * 8) (2 ^ 63) fit $ fjoin ! $
    rewrite ! 0 (λ (p : Ptr). ‵ (vec_owns chunk u64 p (n + 1) cap new.words)) (sym e) refl $ rewrite ! 0 (λ (k : ℕ). ‵ (vec_owns chunk u64 h.at k cap new.words)) longer refl $
    rewrite ! 2 (λ (vs : List Val). ‵ (cell_at full_share R.mir vs rb ro)) (sym word) refl $ move ! (1 ∷ []) $ fjoin ! $ move ! (1 ∷ []) $ closes ! tt R new us rb ro $
    returns ! (look_at ! 0 refl) $ free_all ! refl $ move ! (3 ∷ []) $
    suffices ! _ (ends_at 𝓛 f.ended stayed c y vunit tt (new, (tt, (tt, tt))) (tt, (tt, (tt, tt)))) $ says ! (refl, refl) $
    group ! 3 $ nothing ! $ nothing ! $ join ! $ nothing ! $ join ! $ move ! (1 ∷ 0 ∷ []) $ join ! $ nothing ! $ move ! (2 ∷ 0 ∷ []) $ join ! $ frame ! $ frame ! $
    feq_i ! _ (vunit ∷ []) _ refl $ done !)))))))
