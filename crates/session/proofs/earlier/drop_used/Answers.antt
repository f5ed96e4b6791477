use Rattle.std.proofs.Common.{◌∙◌, List, refl, sym, ap, subst}
use Rattle.text_path.specs.declared.edits.ScriptLine.{ScriptLine}
use Rattle.session.specs.Earlier.{AreInOrder, AreNamed, all_after}
use Rattle.session.proofs.EarlierLemmas.{order_left_by, all_left_by, named_more, none_left}
use Rattle.session.proofs.earlier.drop_used.Goals as goal

pub loop-line-init : goal.loop-line-init
loop-line-init c = (
  c.requires.order,
  refl,
  subst (λ (lines : List ScriptLine). AreNamed c.args.number lines c.args.kept.now) (sym c.lines_of-rest.ensures) c.requires.named,
)

pub let_go_by-requires : goal.let_go_by-requires
let_go_by-requires c = c.loop-line.invariant.0

pub loop-line-preserved : goal.loop-line-preserved
loop-line-preserved c =
    let number = c.args.number in
    let kept = c.loop-line.kept in
    let line = c.in-Some.line.now in
    let rest = c.next.new.self in
    let named = subst (λ (lines : List ScriptLine). AreNamed number lines kept) c.in-Some.ensures c.loop-line.invariant.2 in (
      subst AreInOrder (sym c.let_go_by.ensures) (order_left_by line.action number kept c.loop-line.invariant.0),
      ap (all_after number) c.let_go_by.ensures ∙ (all_left_by line.action number kept ∙ c.loop-line.invariant.1),
      subst (AreNamed number rest) (sym c.let_go_by.ensures) (named_more number line rest kept named),
    )

pub returns : goal.returns
returns c =
    let number = c.args.number in
    let kept = c.loop-line.kept in
    let named = subst (λ (lines : List ScriptLine). AreNamed number lines kept) c.in_default.ensures c.loop-line.invariant.2 in
    sym (none_left number kept named) ∙ c.loop-line.invariant.1
