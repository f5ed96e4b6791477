use Rattle.std.proofs.Common.{ℕ, ⊎_elim, sym, subst}
use Rattle.std.specs.Prelude.{Contains}
use Rattle.types_table.specs.type_table.Made.{table_of}
use Rattle.check_stream.specs.mismatch_theory.PassedBut.{IsPlain}
use Rattle.check_stream.specs.checker.Again.{AreMarks}
use Rattle.check_stream.proofs.checker.Weaker.{if_true}
use Rattle.check_stream.proofs.mismatch_search.second.SecondReads.show.Goals as goal

pub returns-then-is_noted : goal.returns-then-is_noted
returns-then-is_noted c = λ tokens known.
    let among = if_true c.is_noted.result c.if-is_noted.true c.is_noted.ensures in
    (known.notes c.args.object c.args.ty (subst (λ notes. Contains notes (c.args.object, c.args.ty)) c.as_slice.ensures.value among), known)

pub returns : goal.returns
returns c = λ tokens known.
    let table = table_of c.args.table.now in
    let marks = subst (λ marks. AreMarks c.args.prefix.now marks tokens) (sym c.as_slice-marks.ensures.value) known.marks in
    let flat = if_true c.is_flat.result c.if-not-is_flat.false c.is_flat.ensures tokens marks in (
      flat,
      record {
        marks = known.marks;
        notes = λ o t among. ⊎_elim
            (λ before. known.notes o t before)
            (λ same. subst (λ (pair : ℕ × ℕ). IsPlain table tokens pair.0 pair.1) same flat)
            (c.in_ok-note.ensures o t among);
      },
    )
