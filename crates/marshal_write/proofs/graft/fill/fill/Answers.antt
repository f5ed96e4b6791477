use Rattle.std.proofs.Common.{◌<◌, ◌∙◌, length, set, sym, ap, subst, arith}
use Rattle.std.proofs.lemmas.Option.{slice_get_within}
use Rattle.marshal_heap.specs.heap.Heap.{object_at, fields_of, set_field}
use Rattle.marshal_write.specs.write.Marks.{marks_of}
use Rattle.marshal_write.specs.graft.Renamed.{blank, renamed_value}
use Rattle.marshal_write.proofs.graft.FillLemmas.{partly, fill_none, fill_more, fields_there, fill_nothing}
use Rattle.marshal_write.proofs.graft.fill.fill.Goals as goal

pub returns-in_default : goal.returns-in_default
returns-in_default c =
    fill_nothing c.args.base (marks_of c.args.numbers.now.marks) c.args.heap.now c.args.number (object_at c.args.from.now c.args.k) c.kind.result c.kind.ensures.kind c.in_default.not-Block
    c.requires.blank

pub loop-i-init : goal.loop-i-init
loop-i-init c = fill_none c.args.base (marks_of c.args.numbers.now.marks) c.args.heap.now c.args.number (object_at c.args.from.now c.args.k) c.requires.blank

pub set-requires-clause-position : goal.set-requires-clause-position
set-requires-clause-position c =
    let own = object_at c.args.from.now c.args.k in
    let there = slice_get_within c.args.heap.now c.args.number (blank own) c.requires.blank in
    let many = c.in-Block.ensures.object.1 in
    let inside : c.loop-i.i < length (fields_of own) = omega (arith, many) in
    subst (λ h. c.loop-i.i < length (fields_of (object_at h c.args.number))) (sym c.loop-i.invariant)
    (subst (λ n. c.loop-i.i < n)
    (sym (fields_there c.args.base (marks_of c.args.numbers.now.marks) c.args.heap.now c.args.number own c.loop-i.i there (omega (arith, inside)))) inside)

pub loop-i-preserved : goal.loop-i-preserved
loop-i-preserved c =
    let own = object_at c.args.from.now c.args.k in
    let marks = marks_of c.args.numbers.now.marks in
    let there = slice_get_within c.args.heap.now c.args.number (blank own) c.requires.blank in
    let many = c.in-Block.ensures.object.1 in
    let inside : c.loop-i.i < length (fields_of own) = omega (arith, many) in
    c.set.ensures
    ∙ ap (λ h. set_field h c.args.number c.loop-i.i c.renamed_by-v.result) c.loop-i.invariant
    ∙ ap (set_field (set c.args.heap.now c.args.number (partly c.args.base marks c.loop-i.i own)) c.args.number c.loop-i.i)
    (c.renamed_by-v.ensures ∙ ap (renamed_value c.args.base marks) c.field.ensures.field)
    ∙ fill_more c.args.base marks c.args.heap.now c.args.number own c.loop-i.i there inside
