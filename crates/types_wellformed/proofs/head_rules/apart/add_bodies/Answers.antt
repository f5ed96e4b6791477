use Rattle.types_table.proofs.store.StoreHeldLemmas.{Grows-then}
use Rattle.std.proofs.Common.{take, subst}
use Rattle.std.specs.Prelude.{All}
use Rattle.std.proofs.lemmas.List.{take_all}
use Rattle.types_wellformed.specs.head_rules.Apart.{HasBody}
use Rattle.types_wellformed.proofs.head_rules.HeadRuleApartLemmas.{bodies_kept}
use Rattle.types_wellformed.proofs.head_rules.HeadRuleLoopLemmas.{all_more}
use Rattle.types_wellformed.proofs.head_rules.apart.add_bodies.Goals as goal

pub loop-decl-preserved : goal.loop-decl-preserved
loop-decl-preserved c = record {
  grown = Grows-then c.args.types.now c.loop-decl.types c.add_body.new.types c.loop-decl.invariant.grown
      c.in_ok-add_body.ensures.grown;
  there = all_more (HasBody c.add_body.new.types) c.args.decls.now c.loop-decl.decl-index c.decl-item.result
      c.loop-decl-test.true c.decl-item.is
      (bodies_kept c.loop-decl.types c.add_body.new.types c.in_ok-add_body.ensures.grown
      (take c.loop-decl.decl-index c.args.decls.now) c.loop-decl.invariant.there)
      c.in_ok-add_body.ensures.there;
}

pub returns-clause-there : goal.returns-clause-there
returns-clause-there c =
    subst (All (HasBody c.loop-decl.types)) (take_all c.loop-decl.decl-index c.args.decls.now c.loop-decl-test.false)
    c.loop-decl.invariant.there
