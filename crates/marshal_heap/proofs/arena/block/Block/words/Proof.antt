-- The function `words` returns a shared borrow of the words of the borrowed block.
use Rattle.marshal_heap.proofs.arena.Steps.{◌≡◌, ℕ, ◌+◌, ◌*◌, ◌^◌, List, [], ◌∷◌, length, refl, ap, arith, w64, proved, ftrue, flft, named, Ura, Logic, sem, Lft, Val, ent, fact, tables, ‵, raw, ◌⊛◌, at_ret, ◌$◌, ◌∵◌, !, qed, done, move, keep, drop, use1, split, join, fsplit, fjoin, feq_i, flt_i, flt_l, suffices, enter, of_opd, load, look, stop, fld, no_more, and_then, first, blocks, exec, returns, alloc_all, pass_all, free_all, look_at, get, through, sets, sets_last, env, agg, usize, RefOf, yes, uint_vals, uint_Tells, owns, Ptr, ShrRef, shr_vals, shr_Tells, plain, nothing, heard, Stays, walk_of, says, stay_dropped, Goes-dropped, ends_at, hidden_shr}
use base.Logic.{sep}
use base.Fml.{fhide}
use denote.RattleType.{RattleType}
use denote.RawPtr.{RawPtr, InBlock, block_of, count_of, ptr_row_laws}
use denote.Opens.{shr_dup, unhide, hide}
use denote.Slice.{slice_val}
use denote.Struct.Struct.{Struct, Struct-row_laws}
use denote.Struct.Owning.{shape}
use denote.Struct.Lending.{in_block_says, lent_out}
use Rattle.std.proofs.Words.{pointer_in, pointer_out}
use Rattle.marshal_heap.specs.contracts.arena.block.Block.words as f
use Rattle.marshal_heap.proofs.arena.block.Block.words.Statement.{statement}
use Rattle.marshal_heap.proofs.arena.block.Block.words.Code as code
use Rattle.marshal_heap.specs.contracts.arena.block.Block as C
use Rattle.marshal_heap.specs.contracts.arena.block.Block.{the_row as R}

abbrev stayed : Stays f.ended.signature.params f.ended.kept
stayed = (stay_dropped _ yes, (stay_dropped _ yes, tt))

abbrev Field : RattleType
Field = Struct (shape C.the_type)

-- A `&` to the struct gives a `&` to the pointer in the struct.
shows_at : {M : Type 1} {𝓤 : Ura M} (𝓛 : Logic 𝓤) (κ : Lft) (p : Ptr) (b o : ℕ) → ent 𝓤 (sem 𝓛 (hidden_shr Field κ (p, tt) b o)) (sep 𝓤 (sem 𝓛 (hidden_shr RawPtr κ p b (o + 0))) (sem 𝓛 (hidden_shr Field κ (p, tt) b o)))
shows_at 𝓛 κ p b o =
    qed 𝓛 (‵ (hidden_shr Field κ (p, tt) b o) ∷ []) ∵ shr_dup ! Field (Struct-row_laws (shape C.the_type) (ptr_row_laws, tt)) (p, tt) b o κ $
    unhide ! $ fsplit ! $ fsplit ! $ hide ! $ keep ! (0 ∷ 3 ∷ []) $ done !

pub words_spec : {M : Type 1} → statement M
words_spec 𝓤 𝓛 𝓜 𝓡 wired =
    let c = f.clauses 𝓛 𝓜.mem 𝓡.returns in let W = walk_of 𝓛 f.ended stayed c in let 𝓣 = tables 𝓤 𝓛.H 𝓜 𝓡 𝓡.env in
    proved 𝓛 f.ended stayed c 𝓜 𝓡 (Goes-dropped 𝓛 1 (RefOf (0 ∷ []) tt (plain (λ _. R)) (λ _. tt)) yes (λ κs x w. refl), (Goes-dropped 𝓛 1 (plain (λ _. usize)) yes (λ κs x w. refl), tt))
    f.Key.name code.function (code.unfolded 𝓤 𝓛.H 𝓜 𝓡 wired)
    (λ κs. (shr_vals, (uint_vals w64, tt))) (λ κs. (shr_Tells (named 0) κs.0 R, (uint_Tells w64, tt))) (λ κs qs bounds a _ are.
    let κ = κs.0 in let rb = a.0.ref_ptr.0 in let ro = a.0.ref_ptr.1 in let h = a.0.now in let n = a.1.0 in let words = h.words in
    let at : ℕ × ℕ = (block_of h.at, count_of h.at) in
    let y : W.Ghost = ((κs, qs, bounds, a, (shr_vals a.0, (uint_vals w64 n, tt))), tt) in
    qed 𝓛 (((‵ (flft κ qs.0) ⊛ ‵ ftrue) ⊛ ‵ (owns (ShrRef (named 0) κ R ∷ usize ∷ []) a y.0.4)) ∷ raw (fact 𝓤 (n ≡ length words)) ∷ []) ∵
    move ! (1 ∷ []) $ heard ! _ (λ asked. split ! $ split ! $ move ! (2 ∷ []) $ fsplit ! $ fsplit ! $ keep ! (1 ∷ 3 ∷ []) $
    enter ! _ _ _ _ _ $ alloc_all ! (λ l. pass_all ! refl ((tt, tt), ((tt, record { fits = are.1.0.1 }), tt)) $
    use1 𝓛 (‵ (hidden_shr Field κ (h.at, tt) rb ro) ⊛ ‵ (fhide (C.the_lent h h.at κ))) (lent_out 𝓛 C.struct C.the_codes C.the_heap C.the_lent κ h rb ro) $ split ! $
    move ! (1 ∷ []) $ unhide ! $ fsplit ! $ flt_l ! (λ fit. fsplit ! $ use1 𝓛 (raw (fact 𝓤 (InBlock h.at))) (in_block_says 𝓛 h.at) $ heard ! (InBlock h.at) (λ inb. fsplit ! $ drop ! $ hide ! $ move ! (1 ∷ 2 ∷ []) $
    first ! $ blocks ! $ pointer_in ! tt h.at inb rb (ro + 0) (shows_at 𝓛 κ h.at rb ro) (λ _.
    sets ! (of_opd ! (load ! (through ! refl (fld ! refl (stop !))) (look ! 1 refl))) refl (tt, tt) $ pointer_out ! tt h.at inb rb (ro + 0) $ move ! (2 ∷ 0 ∷ []) $
    -- [the words; the token; the `&`]
    sets_last ! (agg ! (and_then ! (get ! refl) (and_then ! (get ! refl) (no_more !)))) refl (tt, (tt, (record { fits = are.1.0.1 }, tt))) $
    exec ! 𝓣.C 𝓣.Λ (env code.Mir.locals l) code.Mir.t-2 (at_ret _ (W.post y)) $ sets ! (of_opd ! (get ! refl)) refl (tt, (tt, (record { fits = are.1.0.1 }, tt))) $
    returns ! (look_at ! 0 refl) $ free_all ! refl $
    flt_i ! (length words * 8) (2 ^ 63) (omega (arith, h.room)) $ flt_i ! (length words) (2 ^ 64) (omega (arith, h.room)) $ fjoin ! $
    feq_i ! (List Val) (slice_val at n ∷ []) (slice_val at (length words) ∷ []) (ap (λ (k : ℕ). slice_val at k ∷ []) asked) $ fjoin ! $ fjoin ! $
    suffices ! _ (ends_at 𝓛 f.ended stayed c y (slice_val at n) (record { ref_ptr = at; now = words }) (tt, (tt, tt)) (tt, (tt, tt))) $ says ! refl $
    nothing ! $ nothing ! $ fjoin ! $ nothing ! $ fjoin ! $ nothing ! $ move ! (3 ∷ 0 ∷ []) $ join ! $ keep ! (0 ∷ 1 ∷ 2 ∷ []) $ done !))))))
