use Rattle.std.proofs.Common.{◌≡◌, ◌%◌, ◌≢◌, ◌∙◌, length, refl, sym, subst, arith}
use Rattle.std.specs.Bool.{OnTrue, OnFalse}
use Rattle.std.proofs.lemmas.Bool.{false≢true}
use Rattle.base_data.specs.model.Graph.{IsValue}
use Rattle.base_data.specs.declared.model.value.Val.{Val}
use Rattle.base_data.specs.declared.model.value.Val.TheVariants as vals
use Rattle.types_table.specs.type_table.Made.{table_of}
use Rattle.std.specs.Prelude.{IsTrue}
use Rattle.types_spec.specs.types.Table.{table_shapes, is_asked_in}
use Rattle.marshal_heap.specs.heap.Heap.{field_at, word_of}
use Rattle.marshal_heap.proofs.heap.HeapReadLemmas.{word_of-inj}
use Rattle.check_heap.proofs.fits.FitsRowLemmas.{is_reference}
use Rattle.check_heap.specs.scan.Scan.{first_of, IsMet, IsOther}
use Rattle.check_heap.proofs.scan.ScanFieldLemmas.{field_valid}
use Rattle.check_heap.proofs.scan.ScanNeedLemmas.{need_field, need_node, shape_asked, shape_wildcard}
use Rattle.check_heap.proofs.scan.ScanPathLemmas.{need_path, typed_asked}
use Rattle.check_heap.proofs.scan.ScanMarkLemmas.{meeting_more, meeting_kept, meeting_noted, word_unfit}
use Rattle.check_heap.proofs.scan.straight.meet_need.Goals as goal

pub meet-requires-clause-word : goal.meet-requires-clause-word
meet-requires-clause-word c =
    let short = need_field (table_of c.args.fitting.table.now) c.args.heap.now c.args.o c.args.ty c.args.position c.args.field c.args.needed c.requires.object c.requires.need in (
      field_at c.args.heap.now c.args.o c.args.field,
      field_valid c.args.heap.now c.args.o c.args.field c.requires.object short c.count-count.ensures.heap.is_graph,
      c.requires.word,
    )

pub meet-requires-clause-node : goal.meet-requires-clause-node
meet-requires-clause-node c =
    need_node (table_of c.args.fitting.table.now) c.args.heap.now c.holds.ensures.lawful c.args.o c.args.ty c.args.position c.args.field c.args.needed c.requires.node c.requires.need

pub meet-requires-clause-paths : goal.meet-requires-clause-paths
meet-requires-clause-paths c = λ asked p inside is.
    let graph = c.args.heap.now in
    let short = need_field (table_of c.args.fitting.table.now) graph c.args.o c.args.ty c.args.position c.args.field c.args.needed c.requires.object c.requires.need in
    let valid = field_valid graph c.args.o c.args.field c.requires.object short c.count-count.ensures.heap.is_graph in
    let same = word_of-inj graph (field_at graph c.args.o c.args.field) (vals.Ref p) c.count-count.ensures.heap.is_graph valid inside (sym c.requires.word ∙ is) in
    need_path (table_of c.args.fitting.table.now) graph (vals.Ref 0) c.args.o c.args.ty c.args.position c.args.field c.args.needed p c.requires.object (c.requires.path (typed_asked (table_of c.args.fitting.table.now) c.args.heap.now c.args.o c.args.ty c.args.position (c.args.field, c.args.needed) c.requires.object c.requires.need)) c.requires.need asked same

pub returns-then-branch-clause-next : goal.returns-then-branch-clause-next
returns-then-branch-clause-next c = λ old before meeting.
    let t = table_of c.args.fitting.table.now in
    let graph = c.args.heap.now in
    let short = need_field t graph c.args.o c.args.ty c.args.position c.args.field c.args.needed c.requires.object c.requires.need in
    let valid = field_valid graph c.args.o c.args.field c.requires.object short c.count-count.ensures.heap.is_graph in
    let met = subst (λ test. OnTrue test (IsTrue (is_asked_in t c.args.needed) → (v : Val) → IsValue (length graph) v → c.args.word ≡ word_of graph v → IsMet t graph c.meet.new.marks v c.args.needed)) c.if-branch.true c.in_ok-meet.ensures.met in
    meeting_more t graph old c.args.marks.now c.meet.new.marks before c.args.notes.now c.args.o c.args.ty c.args.position c.args.field c.args.needed c.args.taken.now
    meeting c.in_ok-meet.ensures.marks c.in_ok-meet.ensures.kept c.requires.need (λ asked. met asked (field_at graph c.args.o c.args.field) valid c.requires.word)

pub returns-then-word-ne0-clause-unfit : goal.returns-then-word-ne0-clause-unfit
returns-then-word-ne0-clause-unfit c =
    let t = table_of c.args.fitting.table.now in
    let graph = c.args.heap.now in
    let short = need_field t graph c.args.o c.args.ty c.args.position c.args.field c.args.needed c.requires.object c.requires.need in
    let valid = field_valid graph c.args.o c.args.field c.requires.object short c.count-count.ensures.heap.is_graph in
    let unmet = subst (λ test. OnFalse test (c.args.word % 8 ≢ 0 → (v : Val) → IsValue (length graph) v → c.args.word ≡ word_of graph v → ¬ (table_shapes t).fits graph v c.args.needed))
    c.if-branch.false c.in_ok-meet.ensures.unmet in (
      λ old before meeting. meeting_kept t graph old c.args.marks.now c.meet.new.marks before c.args.notes.now c.args.o c.args.ty c.args.position c.args.taken.now
          meeting c.in_ok-meet.ensures.marks c.in_ok-meet.ensures.kept,
      word_unfit t graph (field_at graph c.args.o c.args.field) c.args.needed c.args.word c.requires.word c.if-word-ne0.true
          (unmet c.if-word-ne0.true (field_at graph c.args.o c.args.field) valid c.requires.word),
    )

pub note-requires-clause-word : goal.note-requires-clause-word
note-requires-clause-word c =
    let graph = c.args.heap.now in
    let short = need_field (table_of c.args.fitting.table.now) graph c.args.o c.args.ty c.args.position c.args.field c.args.needed c.requires.object c.requires.need in
    let valid = field_valid graph c.args.o c.args.field c.requires.object short c.count-count.ensures.heap.is_graph in
    is_reference graph c.args.word (field_at graph c.args.o c.args.field, valid, c.requires.word) c.if-word-ne0.false

pub note-requires-clause-node : goal.note-requires-clause-node
note-requires-clause-node c =
    let node = need_node (table_of c.args.fitting.table.now) c.args.heap.now c.holds.ensures.lawful c.args.o c.args.ty c.args.position c.args.field c.args.needed c.requires.node c.requires.need in
    let classed = c.holds.ensures.lawful.classed in
    omega (arith, node, classed)

pub returns-clause-next : goal.returns-clause-next
returns-clause-next c = λ old before meeting.
    let t = table_of c.args.fitting.table.now in
    let graph = c.args.heap.now in
    let i = c.args.field in
    let v = field_at graph c.args.o i in
    let short = need_field t graph c.args.o c.args.ty c.args.position i c.args.needed c.requires.object c.requires.need in
    let valid = field_valid graph c.args.o i c.requires.object short c.count-count.ensures.heap.is_graph in
    let node = need_node t graph c.holds.ensures.lawful c.args.o c.args.ty c.args.position i c.args.needed c.requires.node c.requires.need in
    let noted = c.in_ok-note.ensures.noted in
    let asked = shape_asked c.args.fitting.table.now.nodes c.args.needed c.shape.result.now c.shape.ensures (sym c.is_asked.ensures ∙ c.if-not-is_asked.false) in
    let same : v ≡ vals.Ref noted.0 = word_of-inj graph v (vals.Ref noted.0) c.count-count.ensures.heap.is_graph valid noted.1 (sym c.requires.word ∙ noted.2) in
    let path = need_path t graph (vals.Ref 0) c.args.o c.args.ty c.args.position i c.args.needed noted.0 c.requires.object (c.requires.path (typed_asked (table_of c.args.fitting.table.now) c.args.heap.now c.args.o c.args.ty c.args.position (c.args.field, c.args.needed) c.requires.object c.requires.need)) c.requires.need asked same in
    let other = subst (λ test. OnFalse test (c.args.word % 8 ≡ 0 → (w : Val) → IsValue (length graph) w → c.args.word ≡ word_of graph w → IsOther t graph c.meet.new.marks w c.args.needed))
    c.if-branch.false c.in_ok-meet.ensures.other in
    meeting_noted t graph old c.args.marks.now c.meet.new.marks before c.args.notes.now c.note.new.notes c.args.o c.args.ty c.args.position i c.args.needed c.args.taken.now noted.0
    (first_of c.args.o c.args.ty c.args.position i c.args.taken.now) meeting c.in_ok-meet.ensures.marks c.in_ok-meet.ensures.kept c.requires.need asked same noted.1 node path
    (other c.if-word-ne0.false (vals.Ref noted.0) noted.1 noted.2) c.in_ok-note.ensures.valid noted.3 c.in_ok-note.ensures.first refl refl refl refl refl
    (λ never. false≢true never) c.requires.small

-- Case: the field's type does not constrain its values.
pub returns-then-not-is_asked-clause-next : goal.returns-then-not-is_asked-clause-next
returns-then-not-is_asked-clause-next c = λ old before meeting.
    let t = table_of c.args.fitting.table.now in
    let graph = c.args.heap.now in
    let wildcard = shape_wildcard c.args.fitting.table.now.nodes c.args.needed c.shape.result.now c.shape.ensures (sym c.is_asked.ensures ∙ c.if-not-is_asked.true) in
    meeting_more t graph old c.args.marks.now c.meet.new.marks before c.args.notes.now c.args.o c.args.ty c.args.position c.args.field c.args.needed c.args.taken.now
    meeting c.in_ok-meet.ensures.marks c.in_ok-meet.ensures.kept c.requires.need (λ asked. absurd (false≢true (sym wildcard ∙ asked)))

pub shape-requires : goal.shape-requires
shape-requires c =
    need_node (table_of c.args.fitting.table.now) c.args.heap.now c.holds.ensures.lawful c.args.o c.args.ty c.args.position c.args.field c.args.needed c.requires.node c.requires.need
