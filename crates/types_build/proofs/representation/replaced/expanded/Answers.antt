use Rattle.std.proofs.Common.{◌∙◌, refl, None}
use Rattle.std.proofs.lemmas.Option.{MatchOption-at_some}
use Rattle.types_spec.specs.types.TypeNodes.{type_at}
use Rattle.types_table.proofs.store.StoreHeldLemmas.{Grows-none, Grows-then}
use Rattle.types_build.proofs.representation.RepresentationReplacedLemmas.{comes_to_itself}
use Rattle.types_build.proofs.representation.NearerLemmas.{nearer_head, nearer_work, nearer_comes}
use Rattle.types_build.proofs.representation.replaced.expanded.Goals as goal

pub next-init : goal.next-init
next-init c = record {
  within = c.requires.number;
  grown = Grows-none c.args.types.now;
  head = refl;
  comes = comes_to_itself c.args.decls.now (type_at c.args.types.now c.args.number);
  known = c.none_known-known.ensures c.args.decls.now None;
}

pub next-smaller : goal.next-smaller
next-smaller c =
    let nearer = MatchOption-at_some _ _ c.in-Some.next c.in-Some.is c.in_ok-next.ensures.ok in
    nearer_work c.args.decls.now None c.holds.ensures c.nearer.new.types (type_at c.next.types c.next.at) c.in-Some.next nearer

pub next-preserved : goal.next-preserved
next-preserved c =
    let decls = c.args.decls.now in
    let t = type_at c.args.types.now c.args.number in
    let u = type_at c.next.types c.next.at in
    let nearer = MatchOption-at_some _ _ c.in-Some.next c.in-Some.is c.in_ok-next.ensures.ok in
    record {
      within = nearer.within;
      grown = Grows-then c.args.types.now c.next.types c.nearer.new.types c.next.invariant.grown c.in_ok-next.ensures.grown;
      head = nearer_head decls None c.holds.ensures c.nearer.new.types u c.in-Some.next nearer ∙ c.next.invariant.head;
      comes = nearer_comes decls None c.nearer.new.types t u c.in-Some.next c.next.invariant.comes nearer;
      known = c.in_ok-next.ensures.known;
    }
