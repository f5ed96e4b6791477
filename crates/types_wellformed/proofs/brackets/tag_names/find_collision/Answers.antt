use Rattle.std.proofs.Common.{to_z, of_z, w64, rules, FitsSigned}
use Rattle.std.proofs.lemmas.Int.{to_z-of_z}
use Rattle.std.proofs.Common.{ℕ, List, ◌∙◌, sym, refl, arith, Some, None}
use Rattle.types_spec.specs.declared.types.head.TagOf.{TagOf}
use Rattle.types_wellformed.specs.brackets.TagTables.{AreColliding}
use Rattle.types_wellformed.proofs.brackets.BracketTableLemmas.{encoding_says, no_collision, some_collision, all_of}
use Rattle.types_wellformed.proofs.brackets.tag_names.find_collision.Goals as goal

pub loop-tag-preserved : goal.loop-tag-preserved
loop-tag-preserved c = λ seen reports.
    let wide : FitsSigned w64 c.hash.result = search rules in
    no_collision seen c.args.tags.now c.loop-tag.tag-index c.tag-item.result c.as_slice-name.result (to_z w64 (of_z w64 c.hash.result))
    c.loop-tag-test.true c.tag-item.is c.as_slice-name.ensures (to_z-of_z w64 c.hash.result wide ∙ c.hash.ensures) (c.loop-tag.invariant seen reports)
    (encoding_says seen c.args.table.now c.as_slice-name.result (to_z w64 (of_z w64 c.hash.result)) None (sym c.in_default.is ∙ c.other.ensures) reports)

pub returns-in-Some : goal.returns-in-Some
returns-in-Some c = λ seen reports.
    let wide : FitsSigned w64 c.hash.result = search rules in (
      refl,
      some_collision seen c.args.tags.now c.loop-tag.tag-index c.tag-item.result c.as_slice-name.result (to_z w64 (of_z w64 c.hash.result))
          c.in-Some.one c.loop-tag-test.true c.tag-item.is c.as_slice-name.ensures (to_z-of_z w64 c.hash.result wide ∙ c.hash.ensures)
          (encoding_says seen c.args.table.now c.as_slice-name.result (to_z w64 (of_z w64 c.hash.result)) (Some c.in-Some.one) (sym c.in-Some.is ∙ c.other.ensures) reports),
    )

pub returns : goal.returns
returns c = λ seen reports one other.
    all_of (λ (all : List (TagOf ℕ)). ¬ AreColliding seen all one other) c.args.tags.now c.loop-tag.tag-index
    (omega arith) (omega arith) (c.loop-tag.invariant seen reports one other)
