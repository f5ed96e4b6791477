use Rattle.thm_outcome.proofs.declared_laws.declared_types_are_each_read.Goals as goal

pub returns : goal.returns
returns c = record {
  declarations_some = c.declarations_are_read_or_refused.ensures;
  type_some = c.types_are_read_or_refused.ensures;
}
