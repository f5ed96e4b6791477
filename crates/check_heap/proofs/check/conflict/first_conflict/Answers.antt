use Rattle.types_table.specs.type_table.Made.{table_of}
use Rattle.std.proofs.Common.{sym, ◌∙◌, arith}
use Rattle.std.proofs.lemmas.Bool.{false≢true}
use Rattle.check_heap.specs.check.Visits.{listed}
use Rattle.check_heap.proofs.check.ConflictLemmas.{first_conflict_is, none_later, none_more, all_have_first}
use Rattle.check_heap.proofs.check.conflict.first_conflict.Goals as goal

pub returns-then-conflicts_back : goal.returns-then-conflicts_back
returns-then-conflicts_back c =
    first_conflict_is (table_of c.args.table.now) c.args.heap.now (listed c.args.visits.now) c.loop-k.k c.first_of.result c.loop-k.invariant
    (c.conflicts_back.ensures.0 c.if-conflicts_back.true) c.first_of.ensures

pub loop-k-preserved : goal.loop-k-preserved
loop-k-preserved c =
    none_more (table_of c.args.table.now) c.args.heap.now (listed c.args.visits.now)
    (all_have_first (table_of c.args.table.now) c.args.heap.now c.args.visits.now c.requires.linked c.requires.within) c.loop-k.k c.loop-k.invariant
    (λ back. false≢true (sym c.if-conflicts_back.false ∙ c.conflicts_back.ensures.1 back))

pub returns : goal.returns
returns c = λ i k less. c.loop-k.invariant i k (omega (arith, less, c.loop-k-test.false))

pub returns-then-is_untouched : goal.returns-then-is_untouched
returns-then-is_untouched c =
    none_later (table_of c.args.table.now) c.args.heap.now c.args.visits.now c.requires.linked c.requires.within c.holds.ensures.lawful.classed c.requires.apart
    (c.is_untouched.ensures.0 c.if-is_untouched.true)
