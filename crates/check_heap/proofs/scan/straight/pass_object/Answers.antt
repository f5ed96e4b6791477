use Rattle.std.proofs.Common.{◌+◌, ◌≡◌, ◌∙◌, suc, sym, ap, subst, arith}
use Rattle.std.specs.Prelude.{slice_set, IfSome}
use Rattle.marshal_heap.specs.heap.Heap.{key_of}
use Rattle.types_table.specs.type_table.Made.{table_of}
use Rattle.check_heap.specs.scan.Paths.{IsWildcard}
use Rattle.check_heap.specs.scan.Scan.{IsGoing}
use Rattle.check_heap.proofs.scan.NoteLemmas.{passed}
use Rattle.check_heap.proofs.scan.straight.pass_object.Goals as goal

pub returns-clause-going : goal.returns-clause-going
returns-clause-going c =
    let t = table_of c.args._table.now in
    let graph = c.args.heap.now in
    let ty = c.in-Some.ty in
    let wildcard = subst (λ found. IfSome found (IsWildcard t)) c.in-Some.is c.requires.wildcard in
    let key : c.key.result ≡ key_of graph c.args.o = c.key.ensures c.args.o c.requires.object c.word.ensures in
    let mark : c.in-Some-checked_add.mark ≡ suc ty = omega (arith, c.in-Some-checked_add.ensures) in
    subst (λ marks. IsGoing t graph marks c.set-2.new.self c.args._notes.now (c.args.o + 1) c.args._taken.now)
    (sym (c.in_ok-set.ensures ∙ ap (λ k. slice_set c.args.marks.now k c.in-Some-checked_add.mark) key
    ∙ ap (slice_set c.args.marks.now (key_of graph c.args.o)) mark))
    (subst (λ types. IsGoing t graph (slice_set c.args.marks.now (key_of graph c.args.o) (suc ty)) types c.args._notes.now (c.args.o + 1) c.args._taken.now)
    (sym c.in_ok-set-2.ensures)
    (passed t graph c.args.marks.now c.args.types.now c.args._notes.now c.args.o ty c.args._taken.now c.requires.object c.requires.many wildcard
    c.requires.unmarked c.requires.going))
