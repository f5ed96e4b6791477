use Rattle.std.proofs.Common.{◌+◌, ◌≡◌, ◌∙◌, get_or, set, take, Some, sym, ap, subst}
use Rattle.std.specs.Prelude.{slice_get}
use Rattle.std.proofs.lemmas.List.{length-take-le}
use Rattle.marshal_heap.specs.heap.Heap.{object_at}
use Rattle.marshal_write.specs.write.Marks.{marks_of}
use Rattle.marshal_write.specs.graft.Renamed.{blank, renamed_object}
use Rattle.marshal_write.proofs.graft.FillLemmas.{next_blank, next_filled}
use Rattle.marshal_write.proofs.graft.fill.fill_all.Goals as goal

pub fill-requires-clause-blank : goal.fill-requires-clause-blank
fill-requires-clause-blank c =
    let prefix = take c.args.base c.args.heap.now in
    subst (λ h. slice_get h (c.args.base + c.loop-j.j) ≡ Some (blank (object_at c.args.from.now (get_or c.args.objects.now c.loop-j.j 0)))) (sym c.loop-j.invariant)
    (next_blank c.args.base (marks_of c.args.numbers.now.marks) c.args.from.now prefix c.args.objects.now c.loop-j.j c.loop-j-test.true (length-take-le c.args.base c.args.heap.now c.requires.base))

pub loop-j-preserved : goal.loop-j-preserved
loop-j-preserved c =
    let prefix = take c.args.base c.args.heap.now in
    c.fill.ensures
    ∙ ap (λ h. set h (c.args.base + c.loop-j.j) (renamed_object c.args.base (marks_of c.args.numbers.now.marks) (object_at c.args.from.now (get_or c.args.objects.now c.loop-j.j 0)))) c.loop-j.invariant
    ∙ next_filled c.args.base (marks_of c.args.numbers.now.marks) c.args.from.now prefix c.args.objects.now c.loop-j.j c.loop-j-test.true (length-take-le c.args.base c.args.heap.now c.requires.base)
