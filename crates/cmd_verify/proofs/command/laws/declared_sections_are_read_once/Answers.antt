use Rattle.marshal_spec.specs.format.Tree.{root, objects_of}
use Rattle.cmd_verify.proofs.command.VerifyOnceLemmas.{sections_once, shown_once}
use Rattle.cmd_verify.proofs.command.laws.declared_sections_are_read_once.Goals as goal

pub returns : goal.returns
returns c = record {
  sections = sections_once c.texts_are_one.ensures.sections c.texts_are_one.ensures.no_fault
      c.texts_are_one.ensures.fault;
  shown = λ type given section tree.
      shown_once c.tables_verify_agree.ensures type section (objects_of tree 0) (root tree 0);
}
