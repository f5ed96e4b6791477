-- The function `part_mut` lends words mutably, and the block receives the words that are written.
use Rattle.marshal_heap.proofs.arena.Steps.{◌≡◌, MutBor, ℕ, ◌+◌, ◌-◌, ◌*◌, ◌^◌, ◌<◌, ◌≤◌, List, [], ◌∷◌, ◌++◌, length, refl, sym, ap, ◌∙◌, arith, w64, proved, full_share, never, id⊢, ftrue, froom, flft, fsep, ty_int, ty_array, named, Ura, Logic, sem, Fml, Val, ent, fact, tables, ‵, raw, ◌⊛◌, some, later, at_ret, ◌$◌, ◌∵◌, !, qed, done, move, keep, drop, use0, use1, use2, split, join, fsplit, fsplit3, fjoin, flt_i, flt_l, pick, await, rewrite, suffices, frame, group, enter, of_opd, lit, bin, load, stop, fld, no_more, and_then, first, blocks, exec, returns, alloc_all, pass_all, free_all, look_at, get, through, sets, sets_last, env, whole, sub, agg, look_in, Array, u64, usize, shows, cell_at, part_at, uint_vals, uint_Tells, owns, Ptr, block_ptr, in_block, in_a_block, MutRef, mut_vals, mut_Tells, plain, nothing, opens, heard, peeks, Stays, walk_of, says, stay_dropped, Goes-dropped, ends_at, chunk, block_with_items, vec_owns, owns_if, has_block}
use base.Logic.{sep, emp}
use base.Fml.{GName}
use lib.Dec.{T}
use mathlib.Core.Bool.{Bool, true, false, not}
use mir.Raw.{raw as bare}
use Prim.Native.Nat.{suc}
use native.Mathlib.Nat.{not-suc-le-zero}
use types.Kit.{given, learn, split3, fjoin3, fpack}
use types.SemTy.{cells}
use denote.Memory.{mem, part_of}
use denote.Index.{row, place, place_is, whole_in, whole_out}
use denote.Slice.{MutSlice, slice_val}
use denote.Follow.{follows}
use denote.FollowSlice.{Elements, lends_Elements}
use denote.Triple.Walked.{Goes-spent_ref}
use Rattle.std.proofs.VecSteps.Opens.{not_live}
use Rattle.std.specs.Prelude.{take, drop as past, slice_range}
use Rattle.std.proofs.lemmas.List.{length-take-le, length-drop}
use Rattle.std.proofs.VecSteps.Rows.{apart, whole as whole_row, row_cut, row_glue}
use Rattle.marshal_heap.proofs.arena.Parts.{cut_in_three, overwritten_is}
use Rattle.std.specs.List.{length_refill}
use Rattle.marshal_heap.specs.arena.Region.{overwritten}
use Rattle.marshal_heap.specs.arena.BorrowedWords.{with_part}
use Rattle.marshal_heap.proofs.arena.Words.{E}
use Rattle.marshal_heap.specs.contracts.arena.block.Block.part_mut as f
use Rattle.marshal_heap.proofs.arena.block.Block.part_mut.Statement.{statement}
use Rattle.marshal_heap.proofs.arena.block.Block.part_mut.Code as code
use Rattle.marshal_heap.specs.contracts.arena.block.Block.{the_row as R}
use Rattle.marshal_heap.proofs.arena.block.Block.TheLaws.{lowers}
use Rattle.marshal_heap.proofs.arena.Field.{Field}

abbrev stayed : Stays f.ended.signature.params f.ended.kept
stayed = (stay_dropped _ f.ended.kept.0, (stay_dropped _ f.ended.kept.1.0, (stay_dropped _ f.ended.kept.1.1.0, tt)))

module _ {M : Type 1} {𝓤 : Ura M} (𝓛 : Logic 𝓤) (h : R.Denot) (i m : ℕ) (within : i + m ≤ length h.words) (rb ro b o : ℕ) (us : List Val) where
  abbrev n : ℕ
  n = length h.words

  abbrev prefix : List ℕ
  prefix = take i h.words

  abbrev part : List ℕ
  part = slice_range h.words i (i + m)

  abbrev rest : List ℕ
  rest = past (i + m) h.words

  -- The offset in bytes of the part's beginning.
  abbrev at : ℕ
  at = i * 8 + o

  long : length part ≡ m
  long = let count : i + m - i ≤ length (past i h.words) = omega (arith, length-drop i h.words) in omega (arith, length-take-le (i + m - i) (past i h.words) count)

  place_at : place 8 o (length prefix) ≡ at
  place_at = (let le : i ≤ n = omega arith in ap (place 8 o) (length-take-le i h.words le)) ∙ place_is 8 o i

  abbrev Held : Bool → List ℕ → Fml
  Held y words = owns_if y (block_with_items chunk u64 (block_ptr b o) n h.cap words)

  -- The memory after the block's words and the right to free the block, if the block has memory.
  abbrev Spare : Bool → Fml
  Spare y = owns_if y (fsep (froom (bare (ty_array (ty_int w64) (h.cap - n))) b (o + n * 8)) (chunk (bare (ty_array (ty_int w64) h.cap)) (block_ptr b o)))

  -- The words of the block before the part and after the part.
  abbrev Around : Fml
  Around = fsep (row u64 full_share prefix b o) (row u64 full_share rest b (place 8 at (length part)))

  no_row : (words : List ℕ) → length words ≡ 0 → ent 𝓤 (emp 𝓤) (sem 𝓛 (row u64 full_share words b o))
  no_row [] e = id⊢ 𝓤 (emp 𝓤)
  no_row (w ∷ words) e = let bad : suc (length words) ≤ 0 = omega arith in absurd (not-suc-le-zero bad)

  rows_out : (y : Bool) → (T (not y) → n ≡ 0) → ent 𝓤 (sem 𝓛 (Held y h.words)) (sep 𝓤 (sem 𝓛 (row u64 full_share h.words b o)) (sem 𝓛 (Spare y)))
  rows_out true none = qed 𝓛 (‵ (Held true h.words) ∷ []) ∵ fsplit ! $ use1 𝓛 (given (length h.words ≡ n) (‵ (row u64 full_share h.words b o))) (apart E 𝓛 full_share n h.words b o) $ learn ! (λ _. done !)
  rows_out false none = qed 𝓛 (‵ ftrue ∷ []) ∵ use0 𝓛 (‵ (row u64 full_share h.words b o)) (no_row h.words (none tt)) $ done !

  rows_in : (y : Bool) (words : List ℕ) → length words ≡ n → ent 𝓤 (sep 𝓤 (sem 𝓛 (row u64 full_share words b o)) (sem 𝓛 (Spare y))) (sem 𝓛 (Held y words))
  rows_in true words l = qed 𝓛 (‵ (row u64 full_share words b o) ∷ ‵ (Spare true) ∷ []) ∵ use1 𝓛 (‵ (part_at (Array u64 n) full_share words b o)) (whole_row E 𝓛 full_share n words b o l) $ done !
  rows_in false words l = qed 𝓛 (‵ (row u64 full_share words b o) ∷ ‵ ftrue ∷ []) ∵ drop ! $ done !

  part_out : ent 𝓤 (sem 𝓛 (row u64 full_share h.words b o)) (sep 𝓤 (sem 𝓛 (row u64 full_share part b at)) (sem 𝓛 Around))
  part_out =
      qed 𝓛 (‵ (row u64 full_share h.words b o) ∷ []) ∵ rewrite ! 0 (λ (ws : List ℕ). ‵ (row u64 full_share ws b o)) (cut_in_three h.words i m) refl $
      use1 𝓛 (‵ (row u64 full_share prefix b o) ⊛ ‵ (row u64 full_share (part ++ rest) b (place 8 o (length prefix)))) (row_cut E 𝓛 full_share prefix (part ++ rest) b o) $ split ! $ move ! (1 ∷ []) $
      rewrite ! 0 (λ (k : ℕ). ‵ (row u64 full_share (part ++ rest) b k)) place_at refl $
      use1 𝓛 (‵ (row u64 full_share part b at) ⊛ ‵ (row u64 full_share rest b (place 8 at (length part)))) (row_cut E 𝓛 full_share part rest b at) $ split ! $ move ! (2 ∷ 1 ∷ []) $ fjoin ! $ move ! (1 ∷ []) $ done !

  part_in : (ws : List ℕ) → length ws ≡ length part → ent 𝓤 (sep 𝓤 (sem 𝓛 (row u64 full_share ws b at)) (sem 𝓛 Around)) (sem 𝓛 (row u64 full_share (overwritten h.words i ws) b o))
  part_in ws l =
      qed 𝓛 (‵ (row u64 full_share ws b at) ∷ ‵ Around ∷ []) ∵ move ! (1 ∷ []) $ fsplit ! $ move ! (2 ∷ 1 ∷ []) $
      rewrite ! 1 (λ (k : ℕ). ‵ (row u64 full_share rest b k)) (ap (place 8 at) (sym l)) refl $ use2 𝓛 (‵ (row u64 full_share (ws ++ rest) b at)) (row_glue E 𝓛 full_share ws rest b at) $
      rewrite ! 0 (λ (k : ℕ). ‵ (row u64 full_share (ws ++ rest) b k)) (sym place_at) refl $ move ! (1 ∷ 0 ∷ []) $
      use2 𝓛 (‵ (row u64 full_share (prefix ++ (ws ++ rest)) b o)) (row_glue E 𝓛 full_share prefix (ws ++ rest) b o) $
      rewrite ! 0 (λ (zs : List ℕ). ‵ (row u64 full_share zs b o)) (sym (overwritten_is h.words i m ws within (l ∙ long))) refl $ done !

  abbrev Rest : Fml
  Rest = fsep (fsep Around (Spare (has_block h.cap))) (fsep (Field.own_val (h.at, tt) us) (cell_at full_share R.mir us rb ro))

  back : h.at ≡ block_ptr b o → h.cap * 8 < 2 ^ 63 → (ws : List ℕ) → length ws ≡ length part
      → ent 𝓤 (sep 𝓤 (sem 𝓛 (cells (mem u64) ws b at)) (sem 𝓛 Rest)) (sem 𝓛 ((mem R).own_at (with_part h i ws) rb ro))
  unfolding part_of
  back e fit ws l =
      let new = with_part h i ws in let same : n ≡ length new.words = length_refill n h.words (prefix ++ ws) refl in
      qed 𝓛 (‵ (cells (mem u64) ws b at) ∷ ‵ Rest ∷ []) ∵ use1 𝓛 (‵ (row u64 full_share ws b at)) (whole_out 𝓛 u64 ws b at) $ move ! (1 ∷ []) $ fsplit3 ! $ fsplit ! $ move ! (4 ∷ 0 ∷ []) $
      use2 𝓛 (‵ (row u64 full_share new.words b o)) (part_in ws l) $ use2 𝓛 (‵ (Held (has_block h.cap) new.words)) (rows_in (has_block h.cap) new.words (sym same)) $ flt_i ! (h.cap * 8) (2 ^ 63) fit $ fjoin ! $
      rewrite ! 0 (λ (p : Ptr × ℕ). ‵ (vec_owns chunk u64 p.0 p.1 h.cap new.words)) (λ j. (sym e j, same j)) refl $ move ! (1 ∷ 0 ∷ []) $ fjoin ! $ move ! (1 ∷ 0 ∷ []) $ fjoin ! $
      fpack ! (List Val) (λ vs. fsep (cell_at full_share R.mir vs rb ro) (R.own_val new vs)) us $ done !

pub part_mut_spec : {M : Type 1} → statement M
part_mut_spec 𝓤 𝓛 𝓜 𝓡 wired =
    let c = f.clauses 𝓛 𝓜.mem 𝓡.returns in let W = walk_of 𝓛 f.ended stayed c in let 𝓣 = tables 𝓤 𝓛.H 𝓜 𝓡 𝓡.env in
    proved 𝓛 f.ended stayed c 𝓜 𝓡 (Goes-spent_ref 𝓛 1 (0 ∷ []) tt (plain (λ _. R)), (Goes-dropped 𝓛 1 (plain (λ _. usize)) f.ended.kept.1.0 (λ κs x w. refl), (Goes-dropped 𝓛 1 (plain (λ _. usize)) f.ended.kept.1.1.0 (λ κs x w. refl), tt)))
    f.Key.name code.function (code.unfolded 𝓤 𝓛.H 𝓜 𝓡 wired)
    (λ κs. (mut_vals, (uint_vals w64, (uint_vals w64, tt)))) (λ κs. (mut_Tells (named 0) κs.0 R, (uint_Tells w64, (uint_Tells w64, tt)))) (λ κs qs bounds a _ are.
    let κ = κs.0 in let q = qs.0 in let rb = a.0.ref_ptr.0 in let ro = a.0.ref_ptr.1 in let γ = a.0.ghost_name in let h = a.0.now in let i = a.1.0 in let m = a.1.1.0 in let words = h.words in let cap = h.cap in
    let y : W.Ghost = ((κs, qs, bounds, a, (mut_vals a.0, (uint_vals w64 i, (uint_vals w64 m, tt)))), tt) in
    qed 𝓛 (((‵ (flft κ q) ⊛ ‵ ftrue) ⊛ ‵ (owns (MutRef (named 0) κ R ∷ usize ∷ usize ∷ []) a y.0.4)) ∷ raw (fact 𝓤 (i + m ≤ length words)) ∷ []) ∵
    move ! (1 ∷ []) $ heard ! _ (λ asked. split ! $ split ! $ move ! (2 ∷ []) $ fsplit ! $ keep ! (0 ∷ 2 ∷ []) $
    enter ! _ _ _ _ _ $ alloc_all ! (λ l. pass_all ! refl ((tt, tt), ((tt, record { fits = are.1.0.1 }), ((tt, record { fits = are.1.1.0.1 }), tt))) $
    fsplit3 ! $ move ! (1 ∷ 2 ∷ 3 ∷ []) $ opens ! tt R rb ro (λ us.
    move ! (1 ∷ []) $ peeks ! R _ (shows 𝓛 R) h us (λ is. fsplit ! $ move ! (1 ∷ []) $ fsplit ! $ flt_l ! (λ fit.
    in_a_block ! h.at (λ p. in_block p (owns_if (has_block cap) (block_with_items chunk u64 p (length words) cap words))) (id⊢ 𝓤 (never 𝓤)) (λ b o e.
    let word = lowers.val_is h us is ∙ ap (λ (p : Ptr). lowers.lowered (record h { at = p }) ∷ []) e in let code' = R.coded.code h in
    let start : ℕ = i * 8 + o in let mid : List ℕ = slice_range words i (i + m) in let same : length mid ≡ m = long 𝓛 h i m asked rb ro b o us in
    let le = h.room in let far : i * 8 < 2 ^ 64 = omega arith in let roomy : length mid < 2 ^ 64 = omega arith in let fitting : length mid * 8 < 2 ^ 63 = omega arith in
    let left = Rest 𝓛 h i m asked rb ro b o us in let way = back 𝓛 h i m asked rb ro b o us e fit in
    rewrite ! 2 (λ (vs : List Val). ‵ (cell_at full_share R.mir vs rb ro)) word refl $
    first ! $ blocks ! $
    sets ! (of_opd ! (load ! (through ! refl (fld ! refl (stop !))) (look_in ! 2 (sub ! 0 refl (whole !))))) refl (tt, tt) $
    sets ! (bin ! (get ! refl) (lit ! tt) (record { fits = far })) refl (tt, record { fits = far }) $ sets ! (bin ! (get ! refl) (get ! refl) tt) refl (tt, tt) $
    sets_last ! (agg ! (and_then ! (get ! refl) (and_then ! (get ! refl) (no_more !)))) refl (tt, (tt, (record { fits = are.1.1.0.1 }, tt))) $
    exec ! 𝓣.C 𝓣.Λ (env code.Mir.locals l) code.Mir.t-2 (at_ret _ (W.post y)) $ sets ! (of_opd ! (get ! refl)) refl (tt, (tt, (record { fits = are.1.1.0.1 }, tt))) $
    rewrite ! 2 (λ (vs : List Val). ‵ (cell_at full_share R.mir vs rb ro)) (sym word) refl $
    use1 𝓛 (‵ (row u64 full_share words b o) ⊛ ‵ (Spare 𝓛 h i m asked rb ro b o us (has_block cap))) (rows_out 𝓛 h i m asked rb ro b o us (has_block cap) (λ t. omega (arith, not_live cap t, h.room))) $ split ! $
    use1 𝓛 (‵ (row u64 full_share mid b start) ⊛ ‵ (Around 𝓛 h i m asked rb ro b o us)) (part_out 𝓛 h i m asked rb ro b o us) $ split ! $
    use1 𝓛 (‵ (cells (mem u64) mid b start)) (whole_in 𝓛 u64 mid b start) $ move ! (1 ∷ 2 ∷ []) $ fjoin ! $ move ! (0 ∷ 2 ∷ 3 ∷ []) $ fjoin3 ! $ move ! (2 ∷ 3 ∷ 4 ∷ 1 ∷ 0 ∷ []) $ group ! 5 $
    use1 𝓛 (later (some (λ (δ : GName). raw (Elements 𝓛 R u64 (with_part h i) (named 0) κ q rb ro b start γ mid (roomy, fitting) (sem 𝓛 left) way δ))))
    (lends_Elements 𝓛 R u64 (with_part h i) (named 0) κ q rb ro b start γ mid (roomy, fitting) (sem 𝓛 left) way code' code') $ await ! tt $ pick ! (λ δ.
    let r : MutBor (List ℕ) = record { ref_ptr = (b, start); ghost_name = δ; now = mid } in
    returns ! (look_at ! 0 refl) $ free_all ! refl $ keep ! (0 ∷ []) $
    use1 𝓛 (‵ ((MutSlice (named 0) κ u64).own_val r (slice_val (b, start) (length mid) ∷ [])) ⊛ ‵ (flft κ q) ⊛ ‵ (follows R (Array u64 0) γ δ (with_part h i))) (id⊢ 𝓤 _) $ split3 ! $
    rewrite ! 0 (λ (k : ℕ). ‵ ((MutSlice (named 0) κ u64).own_val r (slice_val (b, start) k ∷ []))) same refl $
    suffices ! _ (ends_at 𝓛 f.ended stayed c y (slice_val (b, start) m) r (tt, (tt, (tt, tt))) (tt, (tt, (tt, tt)))) $
    nothing ! $ nothing ! $ fjoin ! $ nothing ! $ fjoin ! $ nothing ! $ fjoin ! $ join ! $ nothing ! $ move ! (2 ∷ 0 ∷ []) $ join ! $ join ! $ frame ! $ says ! refl $ done !))))))))
