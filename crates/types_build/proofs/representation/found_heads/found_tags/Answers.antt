use Rattle.std.proofs.Common.{ℕ, ◌≡◌, ◌∙◌, List, get_or, sym, ap, Some, arith, nat_eq}
use Rattle.std.proofs.lemmas.Bool.{eqb-true}
use Rattle.std.proofs.lemmas.List.Quantifiers.{position-Some}
use Rattle.std.proofs.lemmas.Option.{slice_get-get_or}
use Rattle.types_spec.specs.declared.types.head.TagOf.{TagOf}
use Rattle.types_spec.specs.declared.types.head.HeadOf.TheVariants as heads
use Rattle.types_build.proofs.representation.found_heads.found_tags.Goals as goal

pub returns-in-Variants : goal.returns-in-Variants
returns-in-Variants c =
    let keys = c.args.found.now.met.now.keys in
    let location = c.in_ok-location.location in
    let at_location = position-Some (nat_eq c.args.number) keys location 0 (sym c.in_ok-location.ensures.index) in
    let same : c.args.number ≡ get_or keys location 0 = eqb-true c.args.number (get_or keys location 0) at_location.1 in (
      location,
      slice_get-get_or keys location 0 at_location.0 ∙ ap (λ (n : ℕ). Some n) (sym same),
      slice_get-get_or c.args.found.now.heads.now location c.index-found-location.result (omega (arith, c.if-location-found.false))
          ∙ ap (λ h. Some h) (c.in-Variants.is ∙ ap (λ (ts : List (TagOf ℕ)). heads.Variants ts) (sym c.as_slice.ensures)),
    )
