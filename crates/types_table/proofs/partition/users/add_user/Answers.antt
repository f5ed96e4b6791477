use Rattle.std.proofs.Common.{ℕ, ◌≡◌, ◌<◌, ◌∙◌, ◌++◌, length, ap, subst, arith}
use Rattle.std.specs.Prelude.{Contains}
use Rattle.std.proofs.lemmas.List.{take_more}
use Rattle.base_data.proofs.model.Lists.{take-whole}
use Rattle.types_table.specs.partition.Lists.{Has}
use Rattle.types_table.proofs.partition.PartitionLoopLemmas.{uses_more, only_one, arguments, arguments_next}
use Rattle.types_table.proofs.partition.users.add_user.Goals as goal

pub loop-part-preserved : goal.loop-part-preserved
loop-part-preserved c = uses_more _ _ _ _ _ _ c.args.user c.loop-part.invariant c.in_ok-use_part.ensures.keeps
    (λ k among. only_one (λ j. j < length c.loop-part.users.items → Has c.use_part.new.users.items j c.args.user) _ k
    c.in_ok-use_part.ensures.added among)
    (take_more c.as_slice-part-items.result.now c.loop-part.part-index 0 c.loop-part-test.true)

pub loop-tag-preserved : goal.loop-tag-preserved
loop-tag-preserved c = uses_more _ _ _ _ _ _ c.args.user c.loop-tag.invariant c.in_ok-use_argument.ensures.keeps
    c.in_ok-use_argument.ensures.added
    (arguments_next c.args.form.now.parts c.as_slice-tag-items.result.now c.loop-tag.tag-index _ c.loop-tag-test.true)

pub returns-clause-added : goal.returns-clause-added
returns-clause-added c =
    let parts = c.args.form.now.parts in
    let end : c.loop-tag.tag-index ≡ length c.as_slice-tag-items.result.now = omega arith in
    subst (λ l. (k : ℕ) → Contains l k → k < length c.args.users.now.items → Has c.loop-tag.users.items k c.args.user)
    (ap (λ l. parts ++ arguments l) (take-whole c.as_slice-tag-items.result.now c.loop-tag.tag-index end
    ∙ c.as_slice-tag-items.ensures)) c.loop-tag.invariant.has
