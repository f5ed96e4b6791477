use Rattle.std.proofs.Common.{◌≡◌, ◌<◌, ◌-◌, ◌∙◌, ◌++◌, List, false, [], length, drop, sym, ap, subst, arith}
use Rattle.std.proofs.lemmas.Bool.{eqb-true}
use Rattle.types_spec.specs.types.Ty.{Ty, tuple}
use Rattle.types_spec.specs.types.TypeNodes.{types_of, type_at}
use Rattle.types_resolve.specs.occurrences.Counted.{in_type}
use Rattle.types_resolve.specs.occurrences.CountedFile.{type_count}
use Rattle.types_resolve.specs.declared.occurrences.fact.Facts.{Facts}
use Rattle.types_resolve.specs.declared.scope.site.Site.{Site}
use Rattle.types_resolve.specs.declared.scope.type_brackets.BracketItem.{BracketItem}
use Rattle.types_resolve.specs.occurrences.Adds.{Adds}
use Rattle.types_resolve.specs.scope.TypeBrackets.{brackets_known, brackets_among}
use Rattle.types_resolve.specs.occurrences.FoundOccurrences.{AddsFound}
use Rattle.types_resolve.specs.occurrences.Facts.{total_of, fact_at}
use Rattle.types_resolve.proofs.occurrences.OccurrenceFoundLemmas.{AddsFound-none, AddsFound-type}
use Rattle.types_resolve.proofs.occurrences.FactLemmas.{total_is}
use Rattle.types_resolve.proofs.occurrences.OccurrenceWalkLemmas.{no_nodes, last_type, drop_capped}
use Rattle.types_resolve.proofs.occurrences.walk.write_type.Goals as goal

pub returns-then-is_empty-clause-adds : goal.returns-then-is_empty-clause-adds
returns-then-is_empty-clause-adds c =
    let none = eqb-true (length c.nodes-nodes.result.now) 0 (sym c.if-is_empty.ensures) in
    let is : c.args.ty.now ≡ tuple = no_nodes c.nodes-nodes.result.now c.args.ty.now none c.nodes-nodes.ensures.last in
    subst (λ (t : Ty). AddsFound c.args.found.now c.args.found.now [] [] (in_type c.args.marks.now false t)) (sym is)
    (AddsFound-none c.args.found.now)

pub returns-then-is_empty-clause-rest : goal.returns-then-is_empty-clause-rest
returns-then-is_empty-clause-rest c =
    let none = eqb-true (length c.nodes-nodes.result.now) 0 (sym c.if-is_empty.ensures) in
    let is : c.args.ty.now ≡ tuple = no_nodes c.nodes-nodes.result.now c.args.ty.now none c.nodes-nodes.ensures.last in
    ap (λ (t : Ty). drop (type_count t) c.args.marks.now) (sym is)

pub returns-clause-adds : goal.returns-clause-adds
returns-clause-adds c =
    let types = types_of c.nodes-nodes.result.now in
    let seen = in_type c.args.marks.now false (type_at types (length c.nodes-nodes.result.now - 1)) in
    subst (λ (t : Ty). AddsFound c.args.found.now c.write_brackets.new.found [] [] (in_type c.args.marks.now false t))
    (last_type c.nodes-nodes.result.now c.args.ty.now c.nodes-nodes.ensures.last)
    (AddsFound-type c.args.found.now c.write_brackets.new.found types c.walk.new.brackets seen
    (subst (λ (s : Site). Adds c.args.found.now.site s [] [] seen) (sym c.in_ok-write_brackets.ensures.site) c.in_ok-walk.ensures.site)
    (c.in_ok-walk.ensures.brackets
    ∙ ap (λ (l : List (List BracketItem)). brackets_known types l ++ brackets_among seen) c.new-brackets.ensures)
    c.in_ok-write_brackets.ensures.ordered c.in_ok-write_brackets.ensures.brackets)

pub returns-clause-rest : goal.returns-clause-rest
returns-clause-rest c =
    let nodes = c.nodes-nodes.result.now in
    let n = length nodes - 1 in
    let some : 0 < length nodes = grind arith in
    let below : n < length nodes = omega arith in
    let small : length c.args.marks.now < 18446744073709551616 = omega arith in
    let facts = c.in_ok-facts.facts.items in
    let t = type_at (types_of nodes) n in
    c.skip.ensures
    ∙ ap (λ m. drop m c.args.marks.now) (c.total.ensures ∙ ap (λ (f : Facts). total_of f) c.fact_at.ensures
    ∙ ap (λ fs. total_of (fact_at fs n)) c.as_slice-2.ensures.value
    ∙ total_is (types_of nodes) n t (fact_at facts n) (c.in_ok-facts.ensures.are n below))
    ∙ drop_capped (type_count t) c.args.marks.now small
    ∙ ap (λ (u : Ty). drop (type_count u) c.args.marks.now) (last_type nodes c.args.ty.now c.nodes-nodes.ensures.last)
