use Rattle.std.proofs.Common.{◌+◌, ◌≡◌, ◌∙◌, length, refl, ap, subst, arith}
use Rattle.std.specs.Bool.{OnTrue, OnFalse}
use Rattle.std.specs.Prelude.{slice_get}
use Rattle.types_table.specs.type_table.Made.{table_of}
use Rattle.marshal_heap.specs.heap.Heap.{field_at}
use Rattle.check_heap.specs.fits.Needs.{needs_in}
use Rattle.check_heap.specs.scan.Scan.{Continues, IsUnfit}
use Rattle.check_heap.proofs.scan.ScanFieldLemmas.{word_inside, field_word}
use Rattle.check_heap.proofs.scan.ScanNeedLemmas.{need_field, some_fields}
use Rattle.check_heap.proofs.scan.ScanMarkLemmas.{meeting_first, unfit_is_asked}
use Rattle.check_heap.proofs.scan.straight.meet_each.Goals as goal

pub fields_at-words-requires : goal.fields_at-words-requires
fields_at-words-requires c = (
  c.args.o,
  c.requires.object,
  c.requires.word,
  some_fields (table_of c.args.fitting.table.now) c.args.heap.now c.args.o c.args.ty c.requires.object
      (omega (arith, ap length c.requires.needs, c.len.ensures, c.if-len-eq0.false)),
)

pub offset_bounds-words-step : goal.offset_bounds-words-step
offset_bounds-words-step c =
    let at_k = ap (λ needs. slice_get needs c.loop-k.k) c.requires.needs ∙ c.get-step.ensures in
    let short = need_field (table_of c.args.fitting.table.now) c.args.heap.now c.args.o c.args.ty c.loop-k.k c.get-step.result.0 c.get-step.result.1 c.requires.object at_k in
    let inside = word_inside c.args.heap.now c.args.o c.get-step.result.0 c.fields_at-words.result.now (c.fields_at-words.ensures.words c.args.o c.requires.object c.requires.word) short in
    omega (arith, inside, c.type_inv.words)

pub bounds-words-step : goal.bounds-words-step
bounds-words-step c =
    let at_k = ap (λ needs. slice_get needs c.loop-k.k) c.requires.needs ∙ c.get-step.ensures in
    let short = need_field (table_of c.args.fitting.table.now) c.args.heap.now c.args.o c.args.ty c.loop-k.k c.get-step.result.0 c.get-step.result.1 c.requires.object at_k in
    word_inside c.args.heap.now c.args.o c.get-step.result.0 c.fields_at-words.result.now (c.fields_at-words.ensures.words c.args.o c.requires.object c.requires.word) short

pub loop-k-init : goal.loop-k-init
loop-k-init c =
    meeting_first (table_of c.args.fitting.table.now) c.args.heap.now c.args.marks.now c.args.notes.now c.args.o c.args.ty c.args.taken.now c.requires.marks c.requires.noted c.requires.whole

pub meet_need-requires-clause-need : goal.meet_need-requires-clause-need
meet_need-requires-clause-need c = ap (λ needs. slice_get needs c.loop-k.k) c.requires.needs ∙ c.get-step.ensures

pub meet_need-requires-clause-word : goal.meet_need-requires-clause-word
meet_need-requires-clause-word c =
    let at_k = ap (λ needs. slice_get needs c.loop-k.k) c.requires.needs ∙ c.get-step.ensures in
    let short = need_field (table_of c.args.fitting.table.now) c.args.heap.now c.args.o c.args.ty c.loop-k.k c.get-step.result.0 c.get-step.result.1 c.requires.object at_k in
    field_word c.args.heap.now c.args.o c.get-step.result.0 c.requires.object short c.fields_at-words.result.now _ (c.fields_at-words.ensures.words c.args.o c.requires.object c.requires.word) refl

pub meet_need-requires-clause-small : goal.meet_need-requires-clause-small
meet_need-requires-clause-small c =
    let at_k = ap (λ needs. slice_get needs c.loop-k.k) c.requires.needs ∙ c.get-step.ensures in
    let short = need_field (table_of c.args.fitting.table.now) c.args.heap.now c.args.o c.args.ty c.loop-k.k c.get-step.result.0 c.get-step.result.1 c.requires.object at_k in
    let inside = word_inside c.args.heap.now c.args.o c.get-step.result.0 c.fields_at-words.result.now (c.fields_at-words.ensures.words c.args.o c.requires.object c.requires.word) short in
    omega (arith, inside, c.fields_at-words.type_inv)

pub meet_need-requires-clause-marks : goal.meet_need-requires-clause-marks
meet_need-requires-clause-marks c = c.loop-k.invariant.marks

pub meet_need-requires-clause-noted : goal.meet_need-requires-clause-noted
meet_need-requires-clause-noted c = c.loop-k.invariant.noted

pub loop-k-preserved : goal.loop-k-preserved
loop-k-preserved c =
    let next = subst (λ test. OnTrue test (Continues (table_of c.args.fitting.table.now) c.args.heap.now c.loop-k.marks c.meet_need.new.marks c.loop-k.notes c.meet_need.new.notes c.args.o c.args.ty c.args.taken.now c.loop-k.k (c.loop-k.k + 1)))
    c.if-not-branch.false c.in_ok-meet_need.ensures.next in
    next c.args.marks.now c.args.notes.now c.loop-k.invariant

pub returns-then-not-branch-clause-marks : goal.returns-then-not-branch-clause-marks
returns-then-not-branch-clause-marks c =
    let t = table_of c.args.fitting.table.now in
    let graph = c.args.heap.now in
    let unfit = subst (λ test. OnFalse test (Continues t graph c.loop-k.marks c.meet_need.new.marks c.loop-k.notes c.meet_need.new.notes c.args.o c.args.ty c.args.taken.now c.loop-k.k c.loop-k.k
    × IsUnfit t graph (field_at graph c.args.o c.get-step.result.0) c.get-step.result.1)) c.if-not-branch.true c.in_ok-meet_need.ensures.unfit in
    let meeting = unfit.0 c.args.marks.now c.args.notes.now c.loop-k.invariant in
    meeting.marks

pub returns-then-not-branch-clause-kept : goal.returns-then-not-branch-clause-kept
returns-then-not-branch-clause-kept c =
    let t = table_of c.args.fitting.table.now in
    let graph = c.args.heap.now in
    let unfit = subst (λ test. OnFalse test (Continues t graph c.loop-k.marks c.meet_need.new.marks c.loop-k.notes c.meet_need.new.notes c.args.o c.args.ty c.args.taken.now c.loop-k.k c.loop-k.k
    × IsUnfit t graph (field_at graph c.args.o c.get-step.result.0) c.get-step.result.1)) c.if-not-branch.true c.in_ok-meet_need.ensures.unfit in
    let meeting = unfit.0 c.args.marks.now c.args.notes.now c.loop-k.invariant in
    meeting.kept

pub returns-then-not-branch-clause-noted : goal.returns-then-not-branch-clause-noted
returns-then-not-branch-clause-noted c =
    let t = table_of c.args.fitting.table.now in
    let graph = c.args.heap.now in
    let unfit = subst (λ test. OnFalse test (Continues t graph c.loop-k.marks c.meet_need.new.marks c.loop-k.notes c.meet_need.new.notes c.args.o c.args.ty c.args.taken.now c.loop-k.k c.loop-k.k
    × IsUnfit t graph (field_at graph c.args.o c.get-step.result.0) c.get-step.result.1)) c.if-not-branch.true c.in_ok-meet_need.ensures.unfit in
    let meeting = unfit.0 c.args.marks.now c.args.notes.now c.loop-k.invariant in
    meeting.noted

pub returns-then-not-branch-clause-still : goal.returns-then-not-branch-clause-still
returns-then-not-branch-clause-still c =
    let t = table_of c.args.fitting.table.now in
    let graph = c.args.heap.now in
    let unfit = subst (λ test. OnFalse test (Continues t graph c.loop-k.marks c.meet_need.new.marks c.loop-k.notes c.meet_need.new.notes c.args.o c.args.ty c.args.taken.now c.loop-k.k c.loop-k.k
    × IsUnfit t graph (field_at graph c.args.o c.get-step.result.0) c.get-step.result.1)) c.if-not-branch.true c.in_ok-meet_need.ensures.unfit in
    let meeting = unfit.0 c.args.marks.now c.args.notes.now c.loop-k.invariant in
    meeting.still

pub returns-then-not-branch-clause-known : goal.returns-then-not-branch-clause-known
returns-then-not-branch-clause-known c =
    let t = table_of c.args.fitting.table.now in
    let graph = c.args.heap.now in
    let unfit = subst (λ test. OnFalse test (Continues t graph c.loop-k.marks c.meet_need.new.marks c.loop-k.notes c.meet_need.new.notes c.args.o c.args.ty c.args.taken.now c.loop-k.k c.loop-k.k
    × IsUnfit t graph (field_at graph c.args.o c.get-step.result.0) c.get-step.result.1)) c.if-not-branch.true c.in_ok-meet_need.ensures.unfit in
    let meeting = unfit.0 c.args.marks.now c.args.notes.now c.loop-k.invariant in
    meeting.known

pub returns-then-not-branch-clause-met : goal.returns-then-not-branch-clause-met
returns-then-not-branch-clause-met c =
    let t = table_of c.args.fitting.table.now in
    let graph = c.args.heap.now in
    let unfit = subst (λ test. OnFalse test (Continues t graph c.loop-k.marks c.meet_need.new.marks c.loop-k.notes c.meet_need.new.notes c.args.o c.args.ty c.args.taken.now c.loop-k.k c.loop-k.k
    × IsUnfit t graph (field_at graph c.args.o c.get-step.result.0) c.get-step.result.1)) c.if-not-branch.true c.in_ok-meet_need.ensures.unfit in
    let meeting = unfit.0 c.args.marks.now c.args.notes.now c.loop-k.invariant in
    let at_k = ap (λ needs. slice_get needs c.loop-k.k) c.requires.needs ∙ c.get-step.ensures in
    let short = need_field t graph c.args.o c.args.ty c.loop-k.k c.get-step.result.0 c.get-step.result.1 c.requires.object at_k in
    let inside = word_inside graph c.args.o c.get-step.result.0 c.fields_at-words.result.now (c.fields_at-words.ensures.words c.args.o c.requires.object c.requires.word) short in
    record {
      type = c.get-step.result.1;
      at = at_k;
      asked = unfit_is_asked t graph (field_at graph c.args.o c.get-step.result.0) c.get-step.result.1 unfit.1;
      met = meeting.met;
      unfit = λ odd. unfit.1;
      small = omega (arith, inside, c.fields_at-words.type_inv);
    }

pub returns-clause-marks : goal.returns-clause-marks
returns-clause-marks c = c.loop-k.invariant.marks

pub returns-clause-kept : goal.returns-clause-kept
returns-clause-kept c = c.loop-k.invariant.kept

pub returns-clause-noted : goal.returns-clause-noted
returns-clause-noted c = c.loop-k.invariant.noted

pub returns-clause-still : goal.returns-clause-still
returns-clause-still c = c.loop-k.invariant.still

pub returns-clause-known : goal.returns-clause-known
returns-clause-known c = c.loop-k.invariant.known

pub returns-clause-met : goal.returns-clause-met
returns-clause-met c =
    let many : length (needs_in c.args.needs) ≡ c.loop-k.k = omega (arith, c.len-k-end.ensures, c.loop-k.auto.k-end, c.loop-k-test.false) in
    λ j i a less at_j asked. c.loop-k.invariant.met j i a (omega (arith, less, ap length c.requires.needs, many)) at_j asked

pub returns-then-len-eq0-clause-still : goal.returns-then-len-eq0-clause-still
returns-then-len-eq0-clause-still c = λ p among. among

pub returns-then-len-eq0-clause-known : goal.returns-then-len-eq0-clause-known
returns-then-len-eq0-clause-known c =
    (meeting_first (table_of c.args.fitting.table.now) c.args.heap.now c.args.marks.now c.args.notes.now c.args.o c.args.ty c.args.taken.now c.requires.marks c.requires.noted c.requires.whole).known
