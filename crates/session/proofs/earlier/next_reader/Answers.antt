use Rattle.std.proofs.Common.{◌∙◌, ◌++◌, ◌∷◌, [], List, Some, sym, ap, subst}
use Rattle.text_path.specs.LineOrder.{lines_of}
use Rattle.session.specs.declared.earlier.Earlier.{Earlier}
use Rattle.session.specs.Earlier.{AreInOrder, AreNamed, all_after}
use Rattle.session.proofs.EarlierLemmas.{dropped, is_kept, not_kept}
use Rattle.session.proofs.earlier.next_reader.Goals as goal

pub drop_used-requires-clause-order : goal.drop_used-requires-clause-order
drop_used-requires-clause-order c = subst AreInOrder (sym c.as_mut_slice.ensures.value) c.requires.order

pub drop_used-requires-clause-named : goal.drop_used-requires-clause-named
drop_used-requires-clause-named c =
    subst (AreNamed c.args.number (lines_of c.args.number c.args.script.now.lines)) (sym c.as_mut_slice.ensures.value) c.requires.named

pub keep_made-requires : goal.keep_made-requires
keep_made-requires c = c.requires.room c.if-last-number.false

pub returns-then-last-number-clause-kept : goal.returns-then-last-number-clause-kept
returns-then-last-number-clause-kept c =
    let number = c.args.number in
    let kept = c.args.kept.now in
    dropped kept c.drop_used.new.kept number (c.drop_used.ensures ∙ ap (all_after number) c.as_mut_slice.ensures.value)
    ∙ not_kept (all_after number kept.items) (record { number = number; last = c.args.last; value = Some c.args.value }) c.if-last-number.true

pub returns-clause-kept : goal.returns-clause-kept
returns-clause-kept c =
    let number = c.args.number in
    let kept = c.args.kept.now in
    let made : Earlier = record { number = number; last = c.args.last; value = Some c.args.value } in
    c.keep_made.ensures
    ∙ (ap (λ (l : List Earlier). l ++ made ∷ []) (dropped kept c.drop_used.new.kept number (c.drop_used.ensures ∙ ap (all_after number) c.as_mut_slice.ensures.value))
    ∙ is_kept (all_after number kept.items) made c.if-last-number.false)
