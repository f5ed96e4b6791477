use Rattle.std.proofs.Common.{◌∙◌, sym, arith, reverse}
use Rattle.std.proofs.lemmas.Result.{on_ok_weaker}
use Rattle.types_spec.specs.types.TypeNodes.{type_at}
use Rattle.types_build.proofs.representation.WorkLemmas.{work_plain}
use Rattle.types_build.proofs.representation.RepresentationGatherLemmas.{include_none, include_items}
use Rattle.types_build.proofs.representation.bracket.write_items.Goals as goal

pub returns-then-not-has_bracket-clause-left : goal.returns-then-not-has_bracket-clause-left
returns-then-not-has_bracket-clause-left c = λ decls tags all sound ended left.
    include_none decls sound c.args.types.now c.args.bracket (reverse c.args.waiting.now.items) tags all left ended
    (sym c.has_bracket.ensures ∙ c.if-not-has_bracket.true)

pub returns-clause-left : goal.returns-clause-left
returns-clause-left c =
    on_ok_weaker c.push_items.result
    (λ write decls tags all sound ended left.
    write decls tags all
    (include_items decls sound c.args.types.now c.args.bracket (reverse c.args.waiting.now.items) tags all left ended
    (sym c.has_bracket.ensures ∙ c.if-not-has_bracket.false)))
    c.push_items.ensures.left

pub returns-clause-work : goal.returns-clause-work
returns-clause-work c =
    on_ok_weaker c.push_items.result
    (λ write decls sound ended.
    let write' = write decls in
    let mine = work_plain decls sound (type_at c.args.types.now c.args.bracket) ended in
    omega (arith, write', mine))
    c.push_items.ensures.work
