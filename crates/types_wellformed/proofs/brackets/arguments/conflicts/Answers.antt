use Rattle.std.proofs.Common.{ℕ, List, sym, refl, arith}
use Rattle.std.proofs.lemmas.Bool.{false≢true}
use Rattle.types_spec.specs.declared.types.head.TagOf.{TagOf}
use Rattle.types_wellformed.specs.brackets.TagTables.{SomeConflicts}
use Rattle.types_wellformed.proofs.brackets.BracketTableLemmas.{argument_says, no_conflict, some_conflict, all_of}
use Rattle.types_wellformed.proofs.brackets.arguments.conflicts.Goals as goal

pub loop-tag-preserved : goal.loop-tag-preserved
loop-tag-preserved c = λ seen reports.
    let tag = c.tag-item.result in
    no_conflict seen c.args.tags.now c.loop-tag.tag-index tag c.other.result c.loop-tag-test.true c.tag-item.is
    (c.loop-tag.invariant seen reports)
    (argument_says seen tag c.args.table.now c.as_slice.result.now c.other.result c.as_slice.ensures c.other.ensures reports)
    c.if-is_some.ensures

pub returns-then-is_some : goal.returns-then-is_some
returns-then-is_some c = λ seen reports.
    let tag = c.tag-item.result in (
      λ yes. some_conflict seen c.args.tags.now c.loop-tag.tag-index tag c.other.result c.loop-tag-test.true c.tag-item.is
          (argument_says seen tag c.args.table.now c.as_slice.result.now c.other.result c.as_slice.ensures c.other.ensures reports)
          (sym c.if-is_some.ensures),
      λ some. refl,
    )

pub returns : goal.returns
returns c = λ seen reports. (
  λ never. absurd (false≢true never),
  λ some. absurd (all_of (λ (all : List (TagOf ℕ)). ¬ SomeConflicts seen all) c.args.tags.now c.loop-tag.tag-index
      (omega arith) (omega arith) (c.loop-tag.invariant seen reports) some),
)
