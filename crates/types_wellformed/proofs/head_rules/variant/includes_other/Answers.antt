use Rattle.types_table.proofs.store.StoreHeldLemmas.{Grows-none}
use Rattle.types_wellformed.proofs.head_rules.VariantLemmas.{none_included}
use Rattle.types_wellformed.proofs.head_rules.variant.includes_other.Goals as goal

pub returns-in_default : goal.returns-in_default
returns-in_default c = record {
  ok = none_included c.args.decls.now c.args.types.now c.args.number c.node.result c.node.ensures.is
      c.in_default.not-Including;
  grown = Grows-none c.args.types.now;
}
