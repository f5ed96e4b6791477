-- The text of a value is read as the value of the value's tree, which has the value's type, text
-- and bytes.
use Rattle.std.proofs.Common.{sym, subst}
use Rattle.marshal_spec.specs.format.Tree.{root, objects_of}
use Rattle.types_spec.specs.types.Equal.{Equal}
use Rattle.types_spec.specs.types.Names.{names_of}
use Rattle.types_spec.specs.types.Shape.{shape}
use Rattle.marshal_spec.proofs.canonical.TreeGraphs.{own_tree}
use Rattle.text_print.proofs.same_type.KeptLemmas.{type_is_kept}
use Rattle.text_print.proofs.same_type.SameTypeTextLemmas.{text_is_kept}
use Rattle.text_roundtrip.specs.text_lines.Laws.{ReadsAgain}
use Rattle.text_roundtrip.specs.rebuild.Rebuilt.{ValuesAreRebuilt}
use Rattle.text_roundtrip.proofs.rebuild.LawLemmas.{literals_are_read_back}

pub values_are_rebuilt : ValuesAreRebuilt
values_are_rebuilt file_text type_text decls t table declared written well sound is none g v tree of few has =
    let typed = type_is_kept (shape decls) (Equal decls) g (objects_of tree 0) v (root tree 0) t of.same has in
    let kept = text_is_kept (shape decls) (names_of decls) g (objects_of tree 0) v (root tree 0) t of.same in
    record {
      reads = subst (ReadsAgain table tree) (sym kept)
          (literals_are_read_back file_text type_text decls t table declared written well sound is none tree of.is_tree of.refers_back few typed);
      same = of.same;
      typed = typed;
      shown = sym kept;
      bytes = own_tree tree of.is_tree of.refers_back;
    }
