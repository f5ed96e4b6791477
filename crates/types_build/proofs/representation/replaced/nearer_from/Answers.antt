use Rattle.std.proofs.Common.{◌≡◌, ◌∙◌, length, length-append, sym, ap, arith}
use Rattle.std.proofs.lemmas.List.{nil_from_length}
use Rattle.std.proofs.lemmas.Result.{IfOk-weaker}
use Rattle.types_table.proofs.store.StoreHeldLemmas.{Grows-then}
use Rattle.types_spec.specs.types.TypeNodes.{type_at}
use Rattle.types_build.proofs.representation.NearerLemmas.{later_is, once_is}
use Rattle.types_build.proofs.representation.RepresentationWayLemmas.{is_bare}
use Rattle.types_build.proofs.representation.replaced.nearer_from.Goals as goal

pub returns-in_default-clause-ok : goal.returns-in_default-clause-ok
returns-in_default-clause-ok c =
    IfOk-weaker c.unfolded.result _ _
    (λ next is.
    once_is c.args.decls.now c.args.group c.args.types.now c.unfolded.new.types (type_at c.args.types.now c.args.number) next is)
    c.unfolded.ensures.ok

pub passed-requires : goal.passed-requires
passed-requires c =
    let more = c.inspect_at.ensures.grown in record {
      number = omega (arith, ap length more.kept, length-append c.args.types.now more.added, c.requires.number);
    }

pub returns-clause-ok : goal.returns-clause-ok
returns-clause-ok c =
    IfOk-weaker c.passed.result _ _
    (λ next is.
    later_is c.args.decls.now c.args.group c.args.types.now c.inspect_at.new.types c.passed.new.types c.args.number next
    c.inspect_at.ensures.grown c.requires.number (is c.args.group c.in_ok-inspect_at.ensures.known))
    c.passed.ensures.ok

pub returns-clause-grown : goal.returns-clause-grown
returns-clause-grown c =
    Grows-then c.args.types.now c.inspect_at.new.types c.passed.new.types c.inspect_at.ensures.grown c.passed.ensures.grown

pub returns-then-is_empty-clause-ok : goal.returns-then-is_empty-clause-ok
returns-then-is_empty-clause-ok c =
    IfOk-weaker c.bare_unfolded.result _ _
    (λ next is.
    once_is c.args.decls.now c.args.group c.args.types.now c.bare_unfolded.new.types (type_at c.args.types.now c.args.number) next is)
    c.bare_unfolded.ensures.ok

pub bare_unfolded-requires-clause-bare : goal.bare_unfolded-requires-clause-bare
bare_unfolded-requires-clause-bare c =
    let few : length c.as_slice.result.now ≡ 0 = grind (arith, c.if-is_empty.true, c.is_empty.ensures) in
    is_bare c.args.decls.now c.args.group c.in-Some.decl c.at.result.now c.at.ensures
    (sym c.as_slice.ensures ∙ nil_from_length c.as_slice.result.now few)
