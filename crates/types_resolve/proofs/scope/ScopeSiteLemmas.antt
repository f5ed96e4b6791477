-- Lemmas about the collected data of declarations, in the order of the declarations.
use Rattle.std.proofs.Common.{ℕ, ◌<◌, ◌≤◌, ◌+◌, ◌≡◌, List, Option, Some, length, get_or, refl, sym}
use Rattle.std.proofs.Common.{subst, arith, ◌∙◌}
use Rattle.std.specs.Prelude.{slice_get}
use Rattle.std.proofs.lemmas.Option.{same_Some, slice_get_read}
use Rattle.types_spec.specs.declared.types.decl.Decl.{Decl}
use Rattle.types_resolve.specs.declared.scope.site.Site.{Site}
use Rattle.types_resolve.specs.declared.scope.rule.NameRule.{NameRule}
use Rattle.types_resolve.specs.scope.Breaks.{SiteBreaks, BreaksAt, SitesBreak}
use Rattle.types_resolve.specs.scope.Least.{IsLeast, earliest}
use Rattle.types_resolve.proofs.scope.ScopeLeastLemmas.{least_same, least_more, Before}

module _ (rule : NameRule) (decls : List Decl) (sites : List Site) where
  site_at :
      (i : ℕ) (d : Decl) (site : Site) (found : Option ℕ) → slice_get decls i ≡ Some d
      → slice_get sites i ≡ Some site → IsLeast (SiteBreaks rule decls d site) found
      → IsLeast (BreaksAt rule decls sites i) found
  site_at i d site found d_is site_is least =
      least_same (SiteBreaks rule decls d site) (BreaksAt rule decls sites i) found least
      (λ k breaks. (d, site, d_is, site_is, breaks))
      (λ k at. subst (λ e. SiteBreaks rule decls e site k) (same_Some at.0 d (sym at.2 ∙ d_is))
      (subst (λ s. SiteBreaks rule decls at.0 s k) (same_Some at.1 site (sym at.3 ∙ site_is)) at.4))

  -- The invariant of the loop over the declarations holds after one more iteration.
  pub more_sites :
      (i : ℕ) (d : Decl) (site : Site) (best found next : Option ℕ)
      → length decls ≡ length sites → i < length decls → d ≡ get_or decls i d
      → site ≡ get_or sites i site → IsLeast (Before (BreaksAt rule decls sites) i) best
      → IsLeast (SiteBreaks rule decls d site) found → next ≡ earliest best found
      → IsLeast (Before (BreaksAt rule decls sites) (i + 1)) next
  more_sites i d site best found next counted below d_read site_read so_far here is =
      let within : i < length sites = omega arith in
      subst (IsLeast (Before (BreaksAt rule decls sites) (i + 1))) (sym is)
      (least_more (BreaksAt rule decls sites) i best found so_far
      (site_at i d site found (slice_get_read decls (length decls) i d refl below d_read)
      (slice_get_read sites (length sites) i site refl within site_read) here))

  pub all_sites :
      (i : ℕ) (best : Option ℕ) → i ≤ length decls → length decls ≤ i
      → IsLeast (Before (BreaksAt rule decls sites) i) best
      → IsLeast (SitesBreak rule decls sites) best
  all_sites i best le ge least = let e : i ≡ length decls = omega arith in
      subst (λ n. IsLeast (Before (BreaksAt rule decls sites) n) best) e least
