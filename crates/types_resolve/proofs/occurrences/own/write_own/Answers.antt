use Rattle.std.proofs.Common.{◌≡◌, ◌<◌, ◌∙◌, true, length, ap, arith}
use Rattle.std.specs.Prelude.{slice_index}
use Rattle.std.proofs.lemmas.Result.{on_ok_weaker}
use Rattle.types_spec.specs.types.TypeNodes.{types_of}
use Rattle.types_resolve.specs.scope.TypeBrackets.{brackets_known}
use Rattle.types_resolve.proofs.occurrences.OwnLemmas.{writes_variable, writes_use, writes_bracket, writes_nothing, skipped_brackets}
use Rattle.types_resolve.proofs.occurrences.OwnLemmas.{variable_brackets, use_brackets, bracket_brackets, nothing_brackets}
use Rattle.types_resolve.proofs.occurrences.own.write_own.Goals as goal

pub returns-then-not-task-clause-brackets : goal.returns-then-not-task-clause-brackets
returns-then-not-task-clause-brackets c =
    let small : length c.args.marks.now < 18446744073709551616 = omega arith in
    skipped_brackets (types_of c.args.nodes.now) (length c.args.nodes.now) c.args.facts.now c.requires.facts
    c.args.marks.now small c.args.task c.requires.task (brackets_known (types_of c.args.nodes.now) c.args.brackets.now)
    c.if-not-task.true

pub returns-in-Variable-clause-site : goal.returns-in-Variable-clause-site
returns-in-Variable-clause-site c =
    let small : length c.args.marks.now < 18446744073709551616 = omega arith in
    let whole : c.args.task.whole ≡ true = c.if-not-task.false in
    on_ok_weaker c.write_variable.result (λ write. writes_variable c.args.nodes.now c.requires.ordered c.args.facts.now c.requires.facts c.args.marks.now small
    c.args.task c.requires.task c.fact_at-known.result c.fact_at-known.ensures c.index-nodes-known.result
    c.index-nodes-known.is whole c.position_at-position.result
    (c.position_at-position.ensures ∙ ap (slice_index c.args.marks.now) c.saturating_add.ensures) c.args.site.now c.write_variable.new.site c.in-Variable.x c.in-Variable.is write) c.write_variable.ensures

pub returns-in-Variable-clause-brackets : goal.returns-in-Variable-clause-brackets
returns-in-Variable-clause-brackets c =
    let small : length c.args.marks.now < 18446744073709551616 = omega arith in
    let whole : c.args.task.whole ≡ true = c.if-not-task.false in
    on_ok_weaker c.write_variable.result (λ write. variable_brackets c.args.nodes.now c.requires.ordered c.args.facts.now c.requires.facts c.args.marks.now small
    c.args.task c.requires.task c.fact_at-known.result c.fact_at-known.ensures c.index-nodes-known.result
    c.index-nodes-known.is whole c.position_at-position.result
    (c.position_at-position.ensures ∙ ap (slice_index c.args.marks.now) c.saturating_add.ensures) c.args.site.now c.write_variable.new.site c.in-Variable.x (brackets_known (types_of c.args.nodes.now) c.args.brackets.now) c.in-Variable.is) c.write_variable.ensures

pub returns-in_ok-copied_name-in-Named-clause-site : goal.returns-in_ok-copied_name-in-Named-clause-site
returns-in_ok-copied_name-in-Named-clause-site c =
    let small : length c.args.marks.now < 18446744073709551616 = omega arith in
    let whole : c.args.task.whole ≡ true = c.if-not-task.false in
    on_ok_weaker c.write_use.result (λ write. writes_use c.args.nodes.now c.requires.ordered c.args.facts.now c.requires.facts c.args.marks.now small
    c.args.task c.requires.task c.fact_at-known.result c.fact_at-known.ensures c.index-nodes-known.result
    c.index-nodes-known.is whole c.position_at-position.result
    (c.position_at-position.ensures ∙ ap (slice_index c.args.marks.now) c.saturating_add.ensures) c.args.site.now c.write_use.new.site c.in-Named.x c.in_ok-copied_name-in-Named.field-0 c.in-Named.is
    c.in_ok-copied_name-in-Named.ensures write) c.write_use.ensures

pub returns-in_ok-copied_name-in-Named-clause-brackets : goal.returns-in_ok-copied_name-in-Named-clause-brackets
returns-in_ok-copied_name-in-Named-clause-brackets c =
    let small : length c.args.marks.now < 18446744073709551616 = omega arith in
    let whole : c.args.task.whole ≡ true = c.if-not-task.false in
    on_ok_weaker c.write_use.result (λ write. use_brackets c.args.nodes.now c.requires.ordered c.args.facts.now c.requires.facts c.args.marks.now small
    c.args.task c.requires.task c.fact_at-known.result c.fact_at-known.ensures c.index-nodes-known.result
    c.index-nodes-known.is whole c.position_at-position.result
    (c.position_at-position.ensures ∙ ap (slice_index c.args.marks.now) c.saturating_add.ensures) c.args.site.now c.write_use.new.site c.in-Named.x (brackets_known (types_of c.args.nodes.now) c.args.brackets.now) c.in-Named.is) c.write_use.ensures

pub returns-in-Bracket-clause-site : goal.returns-in-Bracket-clause-site
returns-in-Bracket-clause-site c =
    let small : length c.args.marks.now < 18446744073709551616 = omega arith in
    let whole : c.args.task.whole ≡ true = c.if-not-task.false in
    on_ok_weaker c.write_bracket.result (λ write. writes_bracket c.args.nodes.now c.requires.ordered c.args.facts.now c.requires.facts c.args.marks.now small
    c.args.task c.requires.task c.fact_at-known.result c.fact_at-known.ensures c.index-nodes-known.result
    c.index-nodes-known.is whole c.position_at-position.result
    (c.position_at-position.ensures ∙ ap (slice_index c.args.marks.now) c.saturating_add.ensures) c.args.site.now c.write_bracket.new.site c.in-Bracket.is write) c.write_bracket.ensures.site

pub returns-in-Bracket-clause-brackets : goal.returns-in-Bracket-clause-brackets
returns-in-Bracket-clause-brackets c =
    let small : length c.args.marks.now < 18446744073709551616 = omega arith in
    let whole : c.args.task.whole ≡ true = c.if-not-task.false in
    on_ok_weaker c.write_bracket.result (λ write. bracket_brackets c.args.nodes.now c.requires.ordered c.args.facts.now c.requires.facts c.args.marks.now small
    c.args.task c.requires.task c.fact_at-known.result c.fact_at-known.ensures c.index-nodes-known.result
    c.index-nodes-known.is whole c.position_at-position.result
    (c.position_at-position.ensures ∙ ap (slice_index c.args.marks.now) c.saturating_add.ensures) c.args.site.now c.write_bracket.new.site (brackets_known (types_of c.args.nodes.now) c.args.brackets.now)
    (brackets_known (types_of c.args.nodes.now) c.write_bracket.new.brackets) c.in-Bracket.is write) c.write_bracket.ensures.brackets

pub returns-in_default-clause-site : goal.returns-in_default-clause-site
returns-in_default-clause-site c =
    let small : length c.args.marks.now < 18446744073709551616 = omega arith in
    let whole : c.args.task.whole ≡ true = c.if-not-task.false in
    writes_nothing c.args.nodes.now c.requires.ordered c.args.facts.now c.requires.facts c.args.marks.now small
    c.args.task c.requires.task c.fact_at-known.result c.fact_at-known.ensures c.index-nodes-known.result
    c.index-nodes-known.is whole c.position_at-position.result
    (c.position_at-position.ensures ∙ ap (slice_index c.args.marks.now) c.saturating_add.ensures) c.args.site.now c.args.site.now c.in_default.not-Variable c.in_default.not-Named c.in_default.not-Bracket

pub returns-in_default-clause-brackets : goal.returns-in_default-clause-brackets
returns-in_default-clause-brackets c =
    let small : length c.args.marks.now < 18446744073709551616 = omega arith in
    let whole : c.args.task.whole ≡ true = c.if-not-task.false in
    nothing_brackets c.args.nodes.now c.requires.ordered c.args.facts.now c.requires.facts c.args.marks.now small
    c.args.task c.requires.task c.fact_at-known.result c.fact_at-known.ensures c.index-nodes-known.result
    c.index-nodes-known.is whole c.position_at-position.result
    (c.position_at-position.ensures ∙ ap (slice_index c.args.marks.now) c.saturating_add.ensures) c.args.site.now c.args.site.now c.in_default.not-Variable c.in_default.not-Named c.in_default.not-Bracket
    (brackets_known (types_of c.args.nodes.now) c.args.brackets.now)
