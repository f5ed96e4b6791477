use Rattle.std.proofs.Common.{◌∙◌, arith}
use Rattle.trees.proofs.search_trees.SearchTreeNameLemmas.{names_more, names_differ, names_same, lengths_differ}
use Rattle.trees.proofs.search_trees.set_and_map_types.same_names.Goals as goal

pub returns-then-own-wanted : goal.returns-then-own-wanted
returns-then-own-wanted c = lengths_differ c.args.own.now c.args.wanted.now c.if-own-wanted.true

pub loop-i-init : goal.loop-i-init
loop-i-init c = λ rest. rest

pub returns-then-ne : goal.returns-then-ne
returns-then-ne c =
    names_differ c.args.own.now c.args.wanted.now c.loop-i.i c.as_slice.result.now _ c.loop-i-test.true c.if-own-wanted.false
    (c.as_slice.ensures ∙ grind (arith, c.index-own-i.is, c.as_slice.ensures)) c.ne.result c.ne.ensures c.if-ne.true

pub loop-i-preserved : goal.loop-i-preserved
loop-i-preserved c =
    names_more c.args.own.now c.args.wanted.now c.loop-i.i c.as_slice.result.now _ c.loop-i-test.true c.if-own-wanted.false
    (c.as_slice.ensures ∙ grind (arith, c.index-own-i.is, c.as_slice.ensures)) c.ne.result c.ne.ensures c.loop-i.invariant c.if-ne.false

pub returns : goal.returns
returns c = names_same c.args.own.now c.args.wanted.now c.loop-i.i c.loop-i.invariant (omega arith) c.if-own-wanted.false
