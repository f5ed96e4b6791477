use Rattle.std.proofs.Common.{◌-◌, ◌+◌, ◌≡◌, ◌<◌, ◌∙◌, suc, length, take, sym, ap, subst, arith}
use Rattle.std.specs.Prelude.{slice_get, slice_index}
use Rattle.std.proofs.lemmas.Bool.{false≢true, OnTrue_from, OnFalse_from}
use Rattle.std.proofs.lemmas.List.{take_more_set, take-set}
use Rattle.base_data.specs.declared.model.value.Val.TheVariants as vals
use Rattle.marshal_heap.specs.heap.Heap.{key_of}
use Rattle.types_table.specs.type_table.Made.{table_of}
use Rattle.check_heap.specs.scan.Seconds.{noted_in}
use Rattle.check_heap.specs.scan.Scan.{mark_of, IsTried, IsInRow, Stops, AreNotes, IsScanning}
use Rattle.check_heap.proofs.scan.ScanLemmas.{scanning_more, scanning_kept}
use Rattle.check_heap.proofs.scan.ScanPositionLemmas.{slice_set_at}
use Rattle.check_heap.proofs.scan.NoteLemmas.{notes_within, notes_turned, whole_notes}
use Rattle.check_heap.proofs.scan.straight.take_object.Goals as goal

pub meet_all-requires-clause-fits : goal.meet_all-requires-clause-fits
meet_all-requires-clause-fits c = (c.fits_type.ensures (vals.Ref c.args.o) c.requires.object c.word-word.ensures).0 c.if-not-fits_type.false

pub pass_object-requires-clause-unmarked : goal.pass_object-requires-clause-unmarked
pass_object-requires-clause-unmarked c =
    ap (slice_index c.args.marks.now) (sym (c.key.ensures c.args.o c.requires.object c.word-word.ensures)) ∙ sym c.get-mark.ensures ∙ c.if-mark-eq0.true

pub returns-then-not-fits_type-clause-stopped : goal.returns-then-not-fits_type-clause-stopped
returns-then-not-fits_type-clause-stopped c =
    let mark : mark_of c.args.heap.now c.args.marks.now c.args.o ≡ suc (c.get-mark.result - 1) =
    ap (slice_index c.args.marks.now) (sym (c.key.ensures c.args.o c.requires.object c.word-word.ensures)) ∙ omega (arith, c.get-mark.ensures, c.if-mark-eq0.false) in
    let test = c.fits_type.ensures (vals.Ref c.args.o) c.requires.object c.word-word.ensures in
    record {
      scanning = c.requires.going.scanning;
      noted = notes_within (table_of c.args.fitting.table.now) c.args.heap.now c.args.marks.now c.args.types.now c.args.o (c.args.o + 1) c.args.notes.now (omega arith) c.requires.going.noted;
      stops = (c.get-mark.result - 1, mark, λ fits. false≢true (sym c.if-not-fits_type.true ∙ test.1 fits));
      row = tt;
    }

pub returns-clause-stopped : goal.returns-clause-stopped
returns-clause-stopped c = OnFalse_from _ _ (λ is.
    let t = table_of c.args.fitting.table.now in
    let graph = c.args.heap.now in
    let ty = c.get-mark.result - 1 in
    let types = c.args.types.now in
    let mark : mark_of graph c.args.marks.now c.args.o ≡ suc ty =
    ap (slice_index c.args.marks.now) (sym (c.key.ensures c.args.o c.requires.object c.word-word.ensures)) ∙ omega (arith, c.get-mark.ensures, c.if-mark-eq0.false) in
    let marked = c.in_ok-met.ensures.kept (key_of graph c.args.o) (omega (arith, mark)) ∙ mark in
    let inside : c.args.o < length types = omega (arith, c.requires.many, c.requires.object) in
    let fits = (c.fits_type.ensures (vals.Ref c.args.o) c.requires.object c.word-word.ensures).0 c.if-not-fits_type.false in
    let tried = subst (IsTried t graph c.meet_all.new.marks (noted_in c.meet_all.new.notes.seconds) c.args.o ty c.args.taken.now c.meet_all.new.taken c.meet_all.new.stop) is c.in_ok-met.ensures.tried in
    let noted = subst (λ ts. AreNotes t graph c.meet_all.new.marks ts (c.args.o + 1) c.meet_all.new.notes) (sym c.in_ok-set.ensures)
    (notes_turned t graph c.args.marks.now c.meet_all.new.marks types c.args.o ty c.args.taken.now c.in_ok-met.ensures.kept c.in_ok-met.ensures.marks inside marked fits
    c.args.notes.now c.meet_all.new.notes c.requires.going.noted c.requires.going.scanning c.in_ok-met.ensures.noted c.in_ok-met.ensures.known) in
    let same : c.meet_all.new.taken ≡ c.args.taken.now = tried.2.1 in
    record {
      scanning = subst (λ ts. IsScanning t graph c.meet_all.new.marks (noted_in c.meet_all.new.notes.seconds) ts c.args.o c.meet_all.new.taken)
          (sym (ap (take c.args.o) c.in_ok-set.ensures ∙ take-set types c.args.o ty))
          (scanning_kept t graph c.args.marks.now c.meet_all.new.marks (noted_in c.args.notes.now.seconds) (noted_in c.meet_all.new.notes.seconds) (take c.args.o types) c.args.o c.args.taken.now c.meet_all.new.taken
          (omega (arith, same)) c.requires.going.scanning c.in_ok-met.ensures.marks c.in_ok-met.ensures.kept c.in_ok-met.ensures.still);
      noted = noted;
      stops = subst (Stops t graph c.meet_all.new.marks (noted_in c.meet_all.new.notes.seconds) c.args.o) (sym tried.1) (marked, (fits, tried.2.0));
      row = subst (IsInRow c.set.new.self c.args.o) (sym tried.1) (ap (λ ts. slice_get ts c.args.o) c.in_ok-set.ensures ∙ slice_set_at types c.args.o ty inside);
    })

pub returns-clause-going : goal.returns-clause-going
returns-clause-going c = OnTrue_from _ _ (λ is.
    let t = table_of c.args.fitting.table.now in
    let graph = c.args.heap.now in
    let ty = c.get-mark.result - 1 in
    let types = c.args.types.now in
    let mark : mark_of graph c.args.marks.now c.args.o ≡ suc ty =
    ap (slice_index c.args.marks.now) (sym (c.key.ensures c.args.o c.requires.object c.word-word.ensures)) ∙ omega (arith, c.get-mark.ensures, c.if-mark-eq0.false) in
    let marked = c.in_ok-met.ensures.kept (key_of graph c.args.o) (omega (arith, mark)) ∙ mark in
    let inside : c.args.o < length types = omega (arith, c.requires.many, c.requires.object) in
    let fits = (c.fits_type.ensures (vals.Ref c.args.o) c.requires.object c.word-word.ensures).0 c.if-not-fits_type.false in
    let tried = subst (IsTried t graph c.meet_all.new.marks (noted_in c.meet_all.new.notes.seconds) c.args.o ty c.args.taken.now c.meet_all.new.taken c.meet_all.new.stop) is c.in_ok-met.ensures.tried in
    let noted = subst (λ ts. AreNotes t graph c.meet_all.new.marks ts (c.args.o + 1) c.meet_all.new.notes) (sym c.in_ok-set.ensures)
    (notes_turned t graph c.args.marks.now c.meet_all.new.marks types c.args.o ty c.args.taken.now c.in_ok-met.ensures.kept c.in_ok-met.ensures.marks inside marked fits
    c.args.notes.now c.meet_all.new.notes c.requires.going.noted c.requires.going.scanning c.in_ok-met.ensures.noted c.in_ok-met.ensures.known) in
    record {
      scanning = subst (λ ts. IsScanning t graph c.meet_all.new.marks (noted_in c.meet_all.new.notes.seconds) ts (c.args.o + 1) c.meet_all.new.taken)
          (sym (ap (take (c.args.o + 1)) c.in_ok-set.ensures ∙ take_more_set types c.args.o ty inside))
          (scanning_more t graph c.args.marks.now c.meet_all.new.marks (noted_in c.args.notes.now.seconds) (noted_in c.meet_all.new.notes.seconds) (take c.args.o types) c.args.o ty c.args.taken.now c.meet_all.new.taken
          c.requires.object c.requires.going.scanning c.in_ok-met.ensures.marks c.in_ok-met.ensures.kept c.in_ok-met.ensures.still mark fits
          tried.0 (omega (arith, tried.1)));
      noted = noted;
    })

pub meet_all-requires-clause-path : goal.meet_all-requires-clause-path
meet_all-requires-clause-path c =
    let mark : mark_of c.args.heap.now c.args.marks.now c.args.o ≡ suc (c.get-mark.result - 1) =
    ap (slice_index c.args.marks.now) (sym (c.key.ensures c.args.o c.requires.object c.word-word.ensures)) ∙ omega (arith, c.get-mark.ensures, c.if-mark-eq0.false) in
    c.requires.going.scanning.valid.paths c.args.o (c.get-mark.result - 1) c.requires.object mark

pub meet_all-requires-clause-noted : goal.meet_all-requires-clause-noted
meet_all-requires-clause-noted c = c.requires.going.noted.noted

pub meet_all-requires-clause-whole : goal.meet_all-requires-clause-whole
meet_all-requires-clause-whole c = whole_notes (table_of c.args.fitting.table.now) c.args.heap.now c.args.marks.now c.args.types.now c.args.o c.args.notes.now c.requires.going.noted
