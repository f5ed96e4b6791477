use Rattle.std.proofs.Common.{Some, refl, sym, subst, ◌∙◌}
use Rattle.std.proofs.lemmas.Bool.{false≢true}
use Rattle.std.proofs.lemmas.Option.{MatchOption-at_some, MatchOption-at_none, slice_get_within, get_or_from_slice_get}
use Rattle.types_spec.specs.types.Ty.{Ty, tuple}
use Rattle.types_spec.specs.types.TypeNodes.{type_at}
use Rattle.types_spec.specs.types.Scope.{IsThrough}
use Rattle.types_table.proofs.store.StoreHeldLemmas.{Grows-then, Holds-grows}
use Rattle.types_build.proofs.representation.NearerLemmas.{nearer_work}
use Rattle.types_wellformed.proofs.head_rules.ThroughLemmas.{own_is_through, never_through, nearer_before, nearer_after}
use Rattle.types_wellformed.proofs.head_rules.flat_records.is_through.Goals as goal

pub next-init : goal.next-init
next-init c = record {
  within = slice_get_within c.add.new.self c.in_ok-at.at c.args.t.now c.in_ok-at.ensures.ok.there;
  grown = Holds-grows c.args.types.now c.add.new.self c.args.t.now c.in_ok-at.at c.in_ok-at.ensures.ok;
  known = c.none_known-known.ensures c.args.decls.now (Some c.args.group);
  same =
      let at = get_or_from_slice_get c.add.new.self c.in_ok-at.at c.args.t.now tuple c.in_ok-at.ensures.ok.there in
      let Through : Ty → Type 0 = λ t. IsThrough c.args.decls.now c.args.group t in (
        subst Through at,
        subst Through (sym at),
      );
}

pub next-smaller : goal.next-smaller
next-smaller c =
    let nearer = MatchOption-at_some _ _ c.in-Some.next c.in-Some.is c.in_ok-next.ensures.ok in
    nearer_work c.args.decls.now (Some c.args.group) c.holds.ensures c.nearer.new.types (type_at c.next.types c.next.at)
    c.in-Some.next nearer

pub next-preserved : goal.next-preserved
next-preserved c =
    let decls = c.args.decls.now in
    let u = type_at c.next.types c.next.at in
    let nearer = MatchOption-at_some _ _ c.in-Some.next c.in-Some.is c.in_ok-next.ensures.ok in
    record {
      within = nearer.within;
      grown = Grows-then c.args.types.now c.next.types c.nearer.new.types c.next.invariant.grown c.in_ok-next.ensures.grown;
      known = c.in_ok-next.ensures.known;
      same = (
        λ later. c.next.invariant.same.0 (nearer_before decls c.args.group c.nearer.new.types u c.in-Some.next nearer later),
        λ first. nearer_after decls c.args.group c.nearer.new.types u c.in-Some.next nearer
            (λ own. false≢true (sym c.next-test.true ∙ c.is_own.ensures.1 own)) (c.next.invariant.same.1 first),
      );
    }

pub returns-in-None-clause-ok : goal.returns-in-None-clause-ok
returns-in-None-clause-ok c =
    let none = MatchOption-at_none _ _ c.in-None.is c.in_ok-next.ensures.ok in (
      λ never. absurd (false≢true never),
      λ through. absurd (never_through c.args.decls.now c.args.group (type_at c.next.types c.next.at)
          (λ own. false≢true (sym c.next-test.true ∙ c.is_own.ensures.1 own)) (c.next.invariant.same.1 through) none),
    )

pub returns-clause-ok : goal.returns-clause-ok
returns-clause-ok c = (
  λ yes'. c.next.invariant.same.0
      (own_is_through c.args.decls.now c.args.group (type_at c.next.types c.next.at) (c.is_own.ensures.0 c.next-test.false)),
  λ is. refl,
)
