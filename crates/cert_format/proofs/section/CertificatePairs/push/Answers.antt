use Rattle.std.proofs.Common.{ℕ, ◌++◌, List, sym, subst}
use Rattle.cert_format.specs.Increasing.{AreIncreasing, IsAbove}
use Rattle.cert_format.proofs.SectionLemmas.{increasing_push}
use Rattle.cert_format.proofs.section.CertificatePairs.push.Goals as goal

pub invariant_of-self-2 : goal.invariant_of-self-2
invariant_of-self-2 c =
    subst AreIncreasing (sym c.in_ok-append.ensures.ok)
    (increasing_push (c.self.inside.small.items ++ c.self.inside.large.items) (c.args.object, c.args.ty) c.self.invariant
    (subst (λ (xs : List (ℕ × ℕ)). IsAbove xs (c.args.object, c.args.ty)) (sym c.self.view_is) c.requires))
