use Rattle.std.proofs.Common.{length, subst, Some}
use Rattle.std.proofs.lemmas.Option.{slice_get_within, get_or_from_slice_get}
use Rattle.std.proofs.lemmas.Result.{IfOk-weaker, on_ok_weaker}
use Rattle.types_spec.specs.types.Ty.{Ty, tuple}
use Rattle.types_spec.specs.types.TypeNodes.{type_at}
use Rattle.types_build.specs.representation.AbbreviationWay.{EachLeads}
use Rattle.types_build.proofs.representation.RepresentationKnownLemmas.{some_below, known_added, argument_found}
use Rattle.types_build.proofs.representation.known_abbreviations.inspect.Goals as goal

pub returns-in-Some-clause-known : goal.returns-in-Some-clause-known
returns-in-Some-clause-known c =
    on_ok_weaker c.first_inspect.result
    (λ added. added c.args.decls.now c.args.group
    (slice_get_within c.args.decls.now c.in-Some.other c.in-Some.ensures.decl c.in-Some.ensures.there) c.requires.known)
    c.first_inspect.ensures.known

pub returns-in-Some-clause-below : goal.returns-in-Some-clause-below
returns-in-Some-clause-below c =
    let below = slice_get_within c.args.decls.now c.in-Some.other c.in-Some.ensures.decl c.in-Some.ensures.there in
    IfOk-weaker c.first_inspect.result _ _
    (λ first is. some_below c.in-Some.other (length c.args.decls.now) first below is)
    c.first_inspect.ensures.is

pub returns-in_ok-insert-clause-known : goal.returns-in_ok-insert-clause-known
returns-in_ok-insert-clause-known c =
    let decls = c.args.decls.now in
    let types = c.add.new.self in
    let body = c.in-Abbreviation.body in
    let at = get_or_from_slice_get types c.in_ok-start.start body tuple c.in_ok-start.ensures.ok.there in
    let end = type_at types c.in_ok-end.end in
    known_added decls c.args.group c.args.known.now c.insert.new.self c.args.decl (Some c.in-Some-argument.i) c.requires.known
    c.requires.decl c.insert.ensures.unique c.in_ok-insert.ensures.entries c.in_ok-insert.ensures.updates
    (argument_found decls c.args.group c.args.decl c.in-Some-argument.i c.at.result.now c.at-2.result.now body end
    c.at.ensures c.at-2.ensures c.in-Abbreviation.is
    (subst (λ (t : Ty). EachLeads decls c.args.group t end) at (c.in_ok-end.ensures.leads c.args.group c.requires.known))
    c.in-Some-argument.ensures)
