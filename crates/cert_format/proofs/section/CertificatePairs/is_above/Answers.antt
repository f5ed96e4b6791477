use Rattle.std.proofs.Common.{ℕ, ◌-◌, ◌∙◌, sym, ap}
use Rattle.std.specs.Prelude.{slice_get}
use Rattle.cert_format.proofs.SectionLemmas.{above_last}
use Rattle.cert_format.proofs.section.CertificatePairs.is_above.Goals as goal

pub returns : goal.returns
returns c =
    above_last c.args.self.now (c.at.result.0, c.at.result.1) (c.args.object, c.args.ty) c.is_smaller.result c.len-many.ensures.increasing
    (ap (λ (n : ℕ). slice_get c.args.self.now (n - 1)) (sym c.len-many.ensures.count) ∙ c.at.ensures) c.is_smaller.ensures
