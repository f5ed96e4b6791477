use Rattle.std.proofs.Common.{sym, ap, ◌∙◌}
use Rattle.std.proofs.lemmas.Option.{get_or_from_slice_get}
use Rattle.types_spec.specs.types.Ty.{tuple}
use Rattle.types_build.specs.representation.Kind.{base_of}
use Rattle.types_table.proofs.store.StoreHeldLemmas.{Grows-then, Holds-grows}
use Rattle.types_build.proofs.representation.RepresentationKindLemmas.{base_by_name, base_no_name}
use Rattle.types_build.proofs.representation.head_kind.expanded_base.Goals as goal

pub returns-in-Some-clause-ok : goal.returns-in-Some-clause-ok
returns-in-Some-clause-ok c =
    let of = get_or_from_slice_get c.add.new.self c.in_ok-number.number c.args.t.now tuple c.in_ok-number.ensures.ok.there in
    c.predeclared.ensures
    ∙ base_by_name c.args.decls.now c.holds.ensures c.expanded.new.types _ c.in_ok-at.at c.in_ok-at.ensures.ok
    c.in-Some.name.now (sym c.in-Some.ensures)
    ∙ ap (base_of c.args.decls.now) of

pub returns-in-None-clause-ok : goal.returns-in-None-clause-ok
returns-in-None-clause-ok c =
    let of = get_or_from_slice_get c.add.new.self c.in_ok-number.number c.args.t.now tuple c.in_ok-number.ensures.ok.there in
    base_no_name c.args.decls.now c.holds.ensures c.expanded.new.types _ c.in_ok-at.at c.in_ok-at.ensures.ok (sym c.in-None.ensures)
    ∙ ap (base_of c.args.decls.now) of

pub returns-in_err-at-clause-grown : goal.returns-in_err-at-clause-grown
returns-in_err-at-clause-grown c =
    Grows-then _ _ _ (Holds-grows _ _ _ _ c.in_ok-number.ensures.ok) c.in_err-at.ensures.grown

pub returns-in-Some-clause-grown : goal.returns-in-Some-clause-grown
returns-in-Some-clause-grown c =
    Grows-then _ _ _ (Holds-grows _ _ _ _ c.in_ok-number.ensures.ok) c.in_ok-at.ensures.grown

pub returns-in-None-clause-grown : goal.returns-in-None-clause-grown
returns-in-None-clause-grown c =
    Grows-then _ _ _ (Holds-grows _ _ _ _ c.in_ok-number.ensures.ok) c.in_ok-at.ensures.grown
