use Rattle.std.proofs.Common.{◌≡◌, ◌∙◌, ◌+◌, ◌<◌, List, Some, length, refl, sym, ap, subst, arith}
use Rattle.base_io.specs.StreamState.{change}
use Rattle.marshal_read.specs.Reader.{LeadsReader}
use Rattle.text_path.specs.Uses.{IsLastUse}
use Rattle.run_types.specs.Language.{lines_of_value}
use Rattle.session.specs.Earlier.{AreInOrder, AreMade, AreNamed, AreServed, AreEarlier, IsUsedUpTo, all_after, with_made}
use Rattle.session.specs.declared.earlier.Earlier.{Earlier}
use Rattle.session.specs.declared.input_values.ValueTask.TheVariants.{Edit}
use Rattle.session.proofs.EarlierLemmas.{all_stay, last_made, still_made, used_up_to, used_last, more_needed, all_named, all_served}
use Rattle.session.proofs.SessionReadLemmas.{edited_written, edited_aborts, comes_last, all_made, memory_aborts, room_for_one}
use Rattle.session.proofs.input_values.Values.write_edited.Goals as goal

pub overflow_add-self : goal.overflow_add-self
overflow_add-self g c = let room = room_for_one (Edit c.args.edits c.args.limit) c.requires.0 c.requires.1 c.args.self.now c.requires.2 c.requires.3 in omega (arith, room)

pub edit_value-requires-clause-value : goal.edit_value-requires-clause-value
edit_value-requires-clause-value g c =
    let v = c.requires.2 in
    let leads : LeadsReader c.args.limit v.whole c.replace-reader.result = subst (λ r. LeadsReader c.args.limit v.whole r) (sym c.replace-reader.ensures.value) v.leads in
    (c.finish-value.ensures c.args.limit v.whole leads).is_value.valid

pub edit_value-requires-clause-kept : goal.edit_value-requires-clause-kept
edit_value-requires-clause-kept g c =
    let v = c.requires.2 in
    (v.kept.others, subst (λ (kept : List Earlier). AreMade v.kept.others kept) (sym (c.as_slice.ensures.value ∙ c.make_room.ensures.items)) v.kept.kept)

pub edit_value-requires-clause-served : goal.edit_value-requires-clause-served
edit_value-requires-clause-served g c =
    let v = c.requires.2 in
    let lines = c.args.edits.script.now.lines in
    let served : AreServed c.args.self.now.earlier.items (lines_of_value c.args.self.now.count lines) =
    subst (λ n. AreServed c.args.self.now.earlier.items (lines_of_value n lines)) (sym v.counted) (all_served lines (length v.trees) c.args.self.now.earlier.items v.kept.needed v.ready.1) in
    subst (λ (kept : List Earlier). AreServed kept (lines_of_value c.args.self.now.count lines)) (sym (c.as_slice.ensures.value ∙ c.make_room.ensures.items)) served

pub next_reader-requires-clause-room : goal.next_reader-requires-clause-room
next_reader-requires-clause-room g c = c.in_ok-make_room.ensures.room

pub next_reader-requires-clause-order : goal.next_reader-requires-clause-order
next_reader-requires-clause-order g c = subst AreInOrder (sym c.make_room.ensures.items) c.requires.2.kept.needed.in_order

pub next_reader-requires-clause-named : goal.next_reader-requires-clause-named
next_reader-requires-clause-named g c =
    let v = c.requires.2 in
    let lines = c.args.edits.script.now.lines in
    let named : AreNamed c.args.self.now.count (lines_of_value c.args.self.now.count lines) c.args.self.now.earlier.items =
    subst (λ n. AreNamed n (lines_of_value n lines) c.args.self.now.earlier.items) (sym v.counted) (all_named lines (length v.trees) c.args.self.now.earlier.items v.kept.needed) in
    subst (AreNamed c.args.self.now.count (lines_of_value c.args.self.now.count lines)) (sym c.make_room.ensures.items) named

pub returns-in_err-make_room : goal.returns-in_err-make_room
returns-in_err-make_room g c = λ taken output v.
    memory_aborts (Edit c.args.edits c.args.limit) taken output v.trees v.whole (g.K.Sink.state c.args.out.now) _ c.from_residual.result c.from_residual.ensures.1

pub returns-in_err-edit_value : goal.returns-in_err-edit_value
returns-in_err-edit_value g c = λ taken output v.
    let leads : LeadsReader c.args.limit v.whole c.replace-reader.result = subst (λ r. LeadsReader c.args.limit v.whole r) (sym c.replace-reader.ensures.value) v.leads in
    let kept = subst (λ (kept : List Earlier). AreMade v.kept.others kept) (sym (c.as_slice.ensures.value ∙ c.make_room.ensures.items)) v.kept.kept in
    edited_aborts c.args.edits c.args.limit taken output c.args.self.now v c.finish-value.result (c.finish-value.ensures c.args.limit v.whole leads)
    (change (g.K.Sink.state c.args.out.now) (g.K.Sink.state c.edit_value.new.out)) c.in_err-edit_value.field-0.0 _ c.from_residual-in_err-edit_value.result c.from_residual-in_err-edit_value.ensures.1
    (c.in_err-edit_value.ensures.writes v.kept.others kept)

pub returns : goal.returns
returns g c = λ taken output v.
    let leads : LeadsReader c.args.limit v.whole c.replace-reader.result = subst (λ r. LeadsReader c.args.limit v.whole r) (sym c.replace-reader.ensures.value) v.leads in
    let f = c.finish-value.ensures c.args.limit v.whole leads in
    let new = c.edit_value.new.value in
    let others = all_made c.args.edits c.args.limit taken output c.args.self.now v c.finish-value.result f new in
    let kept = subst (λ (kept : List Earlier). AreMade v.kept.others kept) (sym (c.as_slice.ensures.value ∙ c.make_room.ensures.items)) v.kept.kept in
    let all = c.in_ok-edit_value.ensures.made v.kept.others kept in
    let lines = c.args.edits.script.now.lines in
    let made : Earlier = record { number = c.args.self.now.count; last = c.unwrap_or-last.result; value = Some new } in
    let stay = all_stay v.kept.others (new.heap, new.root) c.args.self.now.earlier.items v.kept.kept in
    let last = last_made v.kept.others c.args.self.now.count new all.valid (comes_last c.args.edits c.args.limit taken output c.args.self.now v c.finish-value.result f) in
    let after : c.next_reader.new.kept.items ≡ with_made (all_after c.args.self.now.count c.args.self.now.earlier.items) made =
    c.next_reader.ensures.kept ∙ ap (λ (kept : List Earlier). with_made (all_after c.args.self.now.count kept) made) c.make_room.ensures.items in
    let used : AreMade others c.next_reader.new.kept.items =
    subst (λ (kept : List Earlier). AreMade others kept) (sym after) (still_made others c.args.self.now.count c.args.self.now.earlier.items made stay last) in
    let up_to : IsUsedUpTo lines c.args.self.now.count c.unwrap_or-last.result =
    subst (λ n. IsUsedUpTo lines c.args.self.now.count n) (sym c.unwrap_or-last.ensures) (used_up_to lines c.args.self.now.count c.last_use.result c.last_use.ensures) in
    let is_last : c.args.self.now.count < c.unwrap_or-last.result → IsLastUse lines c.args.self.now.count c.unwrap_or-last.result =
    subst (λ n. c.args.self.now.count < n → IsLastUse lines c.args.self.now.count n) (sym c.unwrap_or-last.ensures) (used_last lines c.args.self.now.count c.last_use.result c.last_use.ensures) in
    let needed = subst (λ n. AreEarlier lines n c.args.self.now.earlier.items) (sym v.counted) v.kept.needed in
    let more : AreEarlier lines (c.args.self.now.count + 1) c.next_reader.new.kept.items =
    subst (λ (kept : List Earlier). AreEarlier lines (c.args.self.now.count + 1) kept) (sym after)
    (more_needed lines c.args.self.now.count c.args.self.now.earlier.items needed made refl refl is_last up_to) in
    edited_written c.args.edits c.args.limit taken output c.args.self.now v c.finish-value.result f new
    (change (g.K.Sink.state c.args.out.now) (g.K.Sink.state c.edit_value.new.out)) (c.in_ok-edit_value.ensures.writes v.kept.others kept) all c.next_reader.result c.next_reader.ensures.leads
    c.next_reader.new.kept used more
