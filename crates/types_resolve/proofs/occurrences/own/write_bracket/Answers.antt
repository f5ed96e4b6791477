use Rattle.std.proofs.Common.{◌∙◌, ◌++◌, ◌∷◌, List, [], drop, ap}
use Rattle.std.specs.List.{filter_map}
use Rattle.std.proofs.lemmas.Result.{on_ok_weaker}
use Rattle.types_spec.specs.types.TypeNodes.{types_of, type_at}
use Rattle.types_spec.specs.types.Occurrence.{Placed}
use Rattle.types_spec.specs.types.Scope.{written_tag}
use Rattle.types_resolve.specs.occurrences.Counted.{items_in}
use Rattle.types_resolve.specs.scope.TypeBrackets.{items_known}
use Rattle.types_resolve.proofs.occurrences.OccurrenceItemLemmas.{brackets_more}
use Rattle.types_resolve.proofs.occurrences.own.write_bracket.Goals as goal

pub returns-clause-site : goal.returns-clause-site
returns-clause-site c =
    let types = types_of c.args.nodes.now in
    let old = c.args.site.now in
    let row_is = c.in_ok-row_of.ensures
    ∙ ap (λ l. filter_map written_tag (items_known types l)) c.as_slice.ensures
    ∙ ap (λ l. filter_map written_tag l) c.in_ok-items.ensures in
    on_ok_weaker c.push.result (λ pushed.
    c.in_ok-write_row.ensures
    ∙ ap (λ (row : List Placed). record {
      rows = old.rows ++ row ∷ [];
      carrying = old.carrying;
      uses = old.uses;
      variables = old.variables;
    }) row_is) c.push.ensures.ok

pub returns-clause-brackets : goal.returns-clause-brackets
returns-clause-brackets c =
    let types = types_of c.args.nodes.now in
    on_ok_weaker c.push.result (λ pushed.
    brackets_more types c.args.brackets.now c.push.new.self c.in_ok-items.items
    (items_in (drop c.args.task.first c.args.marks.now) (type_at types c.args.task.node)) pushed c.in_ok-items.ensures)
    c.push.ensures.ok
