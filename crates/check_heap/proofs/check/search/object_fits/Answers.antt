use Rattle.std.proofs.Common.{◌∙◌, sym, subst, refl}
use Rattle.std.specs.Bool.{OnTrue}
use Rattle.std.proofs.lemmas.Bool.{false≢true}
use Rattle.base_data.specs.declared.model.value.Val.TheVariants as vals
use Rattle.types_table.specs.type_table.Made.{table_of}
use Rattle.check_heap.specs.scan.Scanned.{IsSeenObject}
use Rattle.check_heap.proofs.check.SeenLemmas.{object_taken}
use Rattle.check_heap.proofs.check.search.object_fits.Goals as goal

pub returns-in-Some : goal.returns-in-Some
returns-in-Some c =
    let seen = subst (λ test. OnTrue test (IsSeenObject (table_of c.args.fitting.table.now) c.args.heap.now c.args.taken.now c.args.object c.args.ty)) c.if-seen.true c.requires.seen in
    let fits = object_taken (table_of c.args.fitting.table.now) c.args.heap.now c.args.taken.now c.holds.ensures.lawful c.args.object _ c.args.ty c.requires.taken (sym c.type_of.ensures ∙ c.in-Some.is) seen in
    (λ yes. fits, λ also. refl)

pub returns-then-is_unfit_object : goal.returns-then-is_unfit_object
returns-then-is_unfit_object c =
    let seen = subst (λ test. OnTrue test (IsSeenObject (table_of c.args.fitting.table.now) c.args.heap.now c.args.taken.now c.args.object c.args.ty)) c.if-seen.true c.requires.seen in
    (λ no. absurd (false≢true no), λ fits. absurd (seen.unfit (sym c.is_unfit_object.ensures ∙ c.if-is_unfit_object.true) fits))

pub returns : goal.returns
returns c = c.fits_type.ensures (vals.Ref c.args.object) c.requires.object c.requires.word
