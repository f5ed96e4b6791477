use Rattle.types_spec.specs.types.Equal.{Equal}
use Rattle.types_spec.specs.types.Names.{names_of}
use Rattle.types_spec.specs.types.Shape.{shape}
use Rattle.edit_values.proofs.EditWildcardLemmas.{line_keeps, lines_keep}
use Rattle.edit_values.proofs.laws.edits_leave_wildcards.Goals as goal

pub returns : goal.returns
returns c =
    record {
      by_line = λ decls t others action graph root edited is o object at unreached.
          line_keeps (shape decls) (names_of decls) (Equal decls) t graph root o object at unreached edited others action is;
      by_lines = λ decls t others lines graph root edited is o object at never.
          lines_keep decls t others o object lines graph root edited is at never;
    }
