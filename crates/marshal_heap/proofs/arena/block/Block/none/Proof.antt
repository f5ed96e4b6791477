-- `none` returns a pointer through which nothing is read or written.
use Rattle.marshal_heap.proofs.arena.Steps.{◌*◌, ◌^◌, [], ◌∷◌, refl, arith, proved, ftrue, ‵, raw, ◌$◌, ◌∵◌, !, qed, done, drop, use0, fjoin, flt_i, suffices, enter, addr, stop, no_more, and_then, returns, alloc_all, pass_all, free_all, look_at, get, sets, agg, block_ptr, nothing, Stays, walk_of, says, ends_at}
use denote.Triple.Entry.{on_entry}
use types.Run.{from}
use Rattle.marshal_heap.proofs.arena.Field.{Field, field_val, field_made}
use Rattle.marshal_heap.specs.contracts.arena.block.Block.none as f
use Rattle.marshal_heap.proofs.arena.block.Block.none.Statement.{statement}
use Rattle.marshal_heap.proofs.arena.block.Block.none.Code as code
use Rattle.marshal_heap.specs.contracts.arena.block.Block.{the_row as R}

abbrev stayed : Stays f.ended.signature.params f.ended.kept
stayed = tt

pub none_spec : {M : Type 1} → statement M
none_spec 𝓤 𝓛 𝓜 𝓡 wired =
    let c = f.clauses 𝓛 𝓜.mem 𝓡.returns in let W = walk_of 𝓛 f.ended stayed c in
    proved 𝓛 f.ended stayed c 𝓜 𝓡 tt f.Key.name code.function (code.unfolded 𝓤 𝓛.H 𝓜 𝓡 wired) (λ κs. tt) (λ κs. tt) (λ κs qs bounds a _ are.
    let y : W.Ghost = ((κs, qs, bounds, a, tt), tt) in
    qed 𝓛 (raw (on_entry 𝓛 f.signature κs qs a tt) ∷ ‵ ftrue ∷ []) ∵ drop ! $ drop ! $
    enter ! _ _ _ _ _ $ alloc_all ! (λ l. pass_all ! refl tt $
    sets ! (agg ! (no_more !)) refl (tt, tt) $ sets ! (addr ! (from ! (stop !))) refl (tt, tt) $
    sets ! (agg ! (and_then ! (get ! refl) (no_more !))) refl (tt, (tt, tt)) $
    returns ! (look_at ! 0 refl) $ free_all ! refl $
    let p = block_ptr (l 1) 0 in let new : R.Denot = record { at = p; cap = 0; words = []; room = omega arith } in
    suffices ! _ (ends_at 𝓛 f.ended stayed c y (field_val p) new tt tt) $ says ! (refl, refl) $
    nothing ! $ flt_i ! (0 * 8) (2 ^ 63) (omega arith) $ fjoin ! $ use0 𝓛 (‵ (Field.own_val (p, tt) (field_val p ∷ []))) (field_made 𝓛 p) $ fjoin ! $
    nothing ! $ nothing ! $ done !))
