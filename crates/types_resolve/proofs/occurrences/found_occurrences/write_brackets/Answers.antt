use Rattle.std.proofs.Common.{◌∙◌, ◌++◌, List, sym, ap, subst}
use Rattle.std.specs.Prelude.{All}
use Rattle.std.proofs.lemmas.List.{append-nil, nil_from_length}
use Rattle.std.proofs.lemmas.List.Elements.{All-push}
use Rattle.std.proofs.lemmas.Result.{on_ok_weaker}
use Rattle.types_spec.specs.types.TypeNodes.{types_of}
use Rattle.types_resolve.specs.declared.scope.type_brackets.BracketItem.{BracketItem}
use Rattle.types_resolve.specs.declared.scope.type_brackets.TypeBrackets.{TypeBrackets}
use Rattle.types_resolve.specs.scope.TypeBrackets.{IsOrdered, brackets_known, all_known}
use Rattle.types_resolve.proofs.occurrences.OccurrenceFoundLemmas.{known_more}
use Rattle.types_resolve.proofs.occurrences.found_occurrences.write_brackets.Goals as goal

pub returns-then-len-eq0-clause-brackets : goal.returns-then-len-eq0-clause-brackets
returns-then-len-eq0-clause-brackets c =
    let none = nil_from_length c.args.brackets (sym c.len.ensures ∙ c.if-len-eq0.true) in
    let old = all_known c.args.found.now.brackets in
    sym (append-nil old)
    ∙ ap (λ (l : List (List BracketItem)). old ++ brackets_known (types_of c.args.nodes.now) l) (sym none)

pub returns-clause-ordered : goal.returns-clause-ordered
returns-clause-ordered c =
    let t : TypeBrackets = record { nodes = c.args.nodes; brackets = c.args.brackets } in
    on_ok_weaker c.push.result (λ pushed h. subst (All IsOrdered) (sym pushed)
    (All-push IsOrdered c.args.found.now.brackets t h c.requires)) c.push.ensures.ok

pub returns-clause-brackets : goal.returns-clause-brackets
returns-clause-brackets c =
    let t : TypeBrackets = record { nodes = c.args.nodes; brackets = c.args.brackets } in
    on_ok_weaker c.push.result (λ pushed. ap all_known pushed ∙ known_more c.args.found.now.brackets t) c.push.ensures.ok
