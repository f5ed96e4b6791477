use Rattle.std.proofs.Common.{[], ◌∙◌, refl, sym}
use Rattle.std.proofs.lemmas.Bool.{false≢true}
use Rattle.types_spec.specs.types.Table.{table_shapes}
use Rattle.types_table.specs.type_table.Made.{table_of}
use Rattle.check_fault.proofs.NearLemmas.{no_step, step_back, step_there, field_there}
use Rattle.check_fault.proofs.near.unfit_at.Goals as goal

pub returns-in_default : goal.returns-in_default
returns-in_default c = λ mismatch.
    no_step (table_shapes (table_of c.args.tried.now.table.now)) c.args.tried.now.heap.now c.args.tried.now.value c.args.tried.now.at c.args.i []
    c.in_default.ensures.position mismatch

pub returns-then-fits : goal.returns-then-fits
returns-then-fits c = λ mismatch.
    step_back (table_shapes (table_of c.args.tried.now.table.now)) c.args.tried.now.heap.now c.args.tried.now.value c.args.tried.now.at c.args.i [] c.in-Some.value
    c.in-Some.at c.in-Some.ensures.position mismatch (c.fits.ensures.0 c.if-fits.true)

pub returns : goal.returns
returns c = (
  refl,
  step_there (table_shapes (table_of c.args.tried.now.table.now)) c.args.tried.now.heap.now c.args.tried.now.value c.args.tried.now.at c.args.i [] c.in-Some.value
      c.in-Some.at c.in-Some.ensures.position (λ fit. false≢true (sym c.if-fits.false ∙ c.fits.ensures.1 fit)),
  field_there (table_of c.args.tried.now.table.now) c.args.tried.now.heap.now c.args.tried.now.value c.args.tried.now.at c.args.i c.in-Some.value c.in-Some.at
      c.in-Some.ensures.position c.in-Some.ensures.value c.in-Some.ensures.number,
)
