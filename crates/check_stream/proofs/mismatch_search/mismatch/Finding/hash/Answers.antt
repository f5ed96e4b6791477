use Rattle.std.proofs.Common.{rules, ◌≡◌, ◌∙◌, ap, refl, sym, to_z, of_z}
use Rattle.std.specs.Int.{w64}
use Rattle.std.proofs.lemmas.Int.{to_z-of_z}
use Rattle.types_spec.specs.types.Fitting.{tag_with}
use Rattle.check_stream.proofs.mismatch_search.ComesLemmas.{comes_hash}
use Rattle.check_stream.proofs.mismatch_search.mismatch.Finding.hash.Goals as goal

pub returns : goal.returns
returns c = λ table stated prefix.
    let same : to_z w64 (of_z w64 c.in-Integer.z) ≡ c.in-Integer.z = to_z-of_z w64 c.in-Integer.z (search rules) in
    comes_hash table stated prefix c.args.self.now _ c.args.tags c.args.summary c.in-Integer.z c.in-Some.tag.now c.in-Some-arg.ty c.in-Integer.is
    (ap (tag_with c.args.tags.now) (sym same) ∙ sym c.in-Some.ensures) c.in-Some-arg.is c.argument.ensures.is_way c.argument.ensures.argument refl refl refl refl refl
