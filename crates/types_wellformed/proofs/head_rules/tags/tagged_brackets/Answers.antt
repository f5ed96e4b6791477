use Rattle.types_wellformed.proofs.head_rules.tags.tagged_brackets.Goals as goal

pub all_tagged-requires-clause-heads : goal.all_tagged-requires-clause-heads
all_tagged-requires-clause-heads c = c.no_heads-heads.ensures c.args.decls.now c.args.types.now
