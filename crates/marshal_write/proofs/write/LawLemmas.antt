-- Reading and writing are inverse to each other.
use Rattle.std.proofs.Common.{◌∙◌, ap}
use Rattle.marshal_spec.proofs.canonical.CanonLemmas.{canon_encodes_lem}
use Rattle.marshal_spec.proofs.canonical.SameTree.{one_tree_only}
use Rattle.marshal_spec.proofs.canonical.TreeGraphs.{own_tree}
use Rattle.marshal_spec.specs.format.Canonical.{canon}
use Rattle.marshal_spec.specs.format.Tree.{objects_of, root}
use Rattle.marshal_write.specs.write.Laws.{WrittenIsRead, ReadIsWritten}

pub written_is_read_lem : WrittenIsRead
written_is_read_lem limit g v tree small is_of words few = (canon_encodes_lem limit tree small is_of.is_tree is_of.refers_back words few, is_of.same)

pub read_is_written_lem : ReadIsWritten
read_is_written_lem limit bytes tree other encoded canonical is_of =
    ap canon (one_tree_only (objects_of tree 0) (root tree 0) other tree is_of
    (own_tree tree encoded.encodes.is_tree encoded.encodes.refers_back)) ∙ canonical
