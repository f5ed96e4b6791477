use Rattle.std.proofs.Common.{◌≡◌, ◌∙◌, sym, ap, subst}
use Rattle.types_table.specs.type_table.Made.{table_of}
use Rattle.cert_format.specs.declared.section.Section.TheVariants as sections
use Rattle.cert_verify.specs.certificate.Verified.{IsVerified}
use Rattle.cert_verify.proofs.certificate.entry_verdict.answer_of.Goals as goal

pub returns-in_ok-second-in-Conflict : goal.returns-in_ok-second-in-Conflict
returns-in_ok-second-in-Conflict c =
    let stated : sections.Conflict c.in_ok-first-in-Conflict.first c.in_ok-second-in-Conflict.second ≡ c.args.section.now =
    ap (λ p. sections.Conflict p c.in_ok-second-in-Conflict.second) c.in_ok-first-in-Conflict.ensures
    ∙ (ap (λ p. sections.Conflict c.in-Conflict.first p) c.in_ok-second-in-Conflict.ensures ∙ sym c.in-Conflict.is) in
    subst (λ s. IsVerified (table_of c.args.table.now) c.args.value.now.heap.now c.args.value.now.root s c.verify_fault-in-Conflict.result) stated c.verify_fault-in-Conflict.ensures
