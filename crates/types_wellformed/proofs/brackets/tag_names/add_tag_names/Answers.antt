use Rattle.std.proofs.Common.{to_z, of_z, w64, rules, FitsSigned}
use Rattle.std.proofs.lemmas.Int.{to_z-of_z}
use Rattle.std.proofs.Common.{ℕ, List, ◌++◌, take, arith, ◌∙◌}
use Rattle.types_spec.specs.declared.types.head.TagOf.{TagOf}
use Rattle.types_wellformed.specs.brackets.TagTables.{AreTagNames}
use Rattle.types_wellformed.proofs.brackets.BracketTableLemmas.{tag_names_added, more_of, all_of}
use Rattle.types_wellformed.proofs.brackets.tag_names.add_tag_names.Goals as goal

pub loop-tag-preserved : goal.loop-tag-preserved
loop-tag-preserved c = λ seen first.
    let wide : FitsSigned w64 c.hash.result = search rules in
    let tags = c.args.tags.now in
    let i = c.loop-tag.tag-index in
    let tag = c.tag-item.result in
    more_of (λ all. AreTagNames all c.add.new.table) seen tags i tag c.loop-tag-test.true c.tag-item.is
    (tag_names_added (seen ++ take i tags) tag c.loop-tag.table c.add.new.table c.as_slice-name.result (to_z w64 (of_z w64 c.hash.result))
    c.as_slice-name.ensures (to_z-of_z w64 c.hash.result wide ∙ c.hash.ensures) c.in_ok-add.ensures (c.loop-tag.invariant seen first))

pub returns : goal.returns
returns c = λ seen first.
    all_of (λ (all : List (TagOf ℕ)). AreTagNames (seen ++ all) c.loop-tag.table) c.args.tags.now c.loop-tag.tag-index
    (omega arith) (omega arith) (c.loop-tag.invariant seen first)
