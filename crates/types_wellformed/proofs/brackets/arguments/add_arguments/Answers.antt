use Rattle.std.proofs.Common.{ℕ, List, ◌++◌, take, arith}
use Rattle.types_spec.specs.declared.types.head.TagOf.{TagOf}
use Rattle.types_wellformed.specs.brackets.TagTables.{AreArguments}
use Rattle.types_wellformed.proofs.brackets.BracketTableLemmas.{arguments_added, more_of, all_of}
use Rattle.types_wellformed.proofs.brackets.arguments.add_arguments.Goals as goal

pub loop-tag-preserved : goal.loop-tag-preserved
loop-tag-preserved c = λ seen first.
    let tags = c.args.tags.now in
    let i = c.loop-tag.tag-index in
    let tag = c.tag-item.result in
    more_of (λ all. AreArguments all c.add.new.table) seen tags i tag c.loop-tag-test.true c.tag-item.is
    (arguments_added (seen ++ take i tags) tag c.loop-tag.table c.add.new.table c.as_slice.result.now c.as_slice.ensures
    c.in_ok-add.ensures (c.loop-tag.invariant seen first))

pub returns : goal.returns
returns c = λ seen first.
    all_of (λ (all : List (TagOf ℕ)). AreArguments (seen ++ all) c.loop-tag.table) c.args.tags.now c.loop-tag.tag-index
    (omega arith) (omega arith) (c.loop-tag.invariant seen first)
