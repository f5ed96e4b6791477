use Rattle.std.proofs.Common.{sym, ap, length, ◌∙◌}
use Rattle.std.proofs.lemmas.Option.{get_or_from_slice_get}
use Rattle.types_spec.specs.types.Declarations.{declaration_of}
use Rattle.types_resolve.specs.scope.Breaks.{names_of_decls}
use Rattle.types_resolve.specs.scope.NamePositions.{number_of}
use Rattle.types_resolve.proofs.scope.ScopeDeclaredLemmas.{find_none, found_at, position_of, nowhere}
use Rattle.types_resolve.proofs.scope.environment.Environment.get.Goals as goal

pub nth-requires : goal.nth-requires
nth-requires c =
    let e = c.self.inside in
    (position_of (names_of_decls e.decls.now) (length e.decls.now) c.args.name.now (number_of e.positions c.args.name.now)
    c.in-Some.j (sym c.in-Some.ensures) (c.self.invariant c.args.name.now)).below

pub returns-in-Some : goal.returns-in-Some
returns-in-Some c =
    let e = c.self.inside in
    let d = c.nth.result.now in
    found_at e.decls.now c.args.name.now c.in-Some.j
    (position_of (names_of_decls e.decls.now) (length e.decls.now) c.args.name.now (number_of e.positions c.args.name.now)
    c.in-Some.j (sym c.in-Some.ensures) (c.self.invariant c.args.name.now))
    d (sym (get_or_from_slice_get e.decls.now c.in-Some.j d d c.nth.ensures))
    ∙ ap (λ ds. declaration_of ds c.args.name.now) c.self.view_is

pub returns-in-None : goal.returns-in-None
returns-in-None c =
    let e = c.self.inside in
    sym (find_none e.decls.now c.args.name.now
    (nowhere (names_of_decls e.decls.now) (length e.decls.now) c.args.name.now (number_of e.positions c.args.name.now)
    (sym c.in-None.ensures) (c.self.invariant c.args.name.now)))
    ∙ ap (λ ds. declaration_of ds c.args.name.now) c.self.view_is
