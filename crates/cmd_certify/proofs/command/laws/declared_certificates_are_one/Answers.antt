use Rattle.marshal_spec.specs.format.Tree.{root, objects_of}
use Rattle.cmd_certify.proofs.command.CertifyOnceLemmas.{output_once}
use Rattle.cmd_certify.proofs.command.laws.declared_certificates_are_one.Goals as goal

pub returns : goal.returns
returns c = λ type given number tree.
    output_once c.tables_reach_agree.ensures type (objects_of tree 0) (root tree 0) number
