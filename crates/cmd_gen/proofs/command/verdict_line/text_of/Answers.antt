use Rattle.std.proofs.Common.{◌∙◌, ◌++◌, ap}
use Rattle.std.specs.Prelude.{codes}
use Rattle.run_types.specs.RequestedTexts.{type_over}
use Rattle.run_types.proofs.RunTypesVerdictLemmas.{yes_declared}
use Rattle.cmd_gen.proofs.command.GenVerdictLemmas.{writes_yes}
use Rattle.cmd_gen.proofs.command.verdict_line.text_of.Goals as goal

pub returns-in_ok-write-in-Yes : goal.returns-in_ok-write-in-Yes
returns-in_ok-write-in-Yes c =
    let both = yes_declared c.args.requested.now c.holds.ensures c.tables_decide.ensures.root
    c.tables_decide.ensures.decide c.args.value.now.heap.now c.args.value.now.root c.args.verdict.now
    c.requires.verdict _ c.in-Yes.is in
    writes_yes (type_over c.args.requested.now) c.args.value.now.heap.now c.args.value.now.root both.0 both.1
    c.write.new.text.items
    (c.in_ok-write-in-Yes.ensures ∙ ap (λ old. old ++ codes "yes") c.new-text.ensures.items)
