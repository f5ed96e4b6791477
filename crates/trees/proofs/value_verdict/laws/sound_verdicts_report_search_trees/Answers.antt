use Rattle.types_spec.specs.types.Equal.{Equal}
use Rattle.types_spec.specs.types.Names.{names_of}
use Rattle.types_spec.specs.types.Shape.{shape}
use Rattle.types_table.specs.type_table.Made.{types_of}
use Rattle.trees.specs.search_trees.Laws.{HasSearchTrees}
use Rattle.trees.proofs.value_verdict.TreeVerdictSoundLemmas.{sound_reports}
use Rattle.trees.proofs.value_verdict.laws.sound_verdicts_report_search_trees.Goals as goal

pub returns-clause-types : goal.returns-clause-types
returns-clause-types c decls t types well sound reached graph root has verdict known =
    sound_reports (shape decls) (names_of decls) (Equal decls) graph root t
    (HasSearchTrees decls graph root t)
    (c.sound_trees_are_search_trees.ensures decls t types well sound reached graph root has)
    verdict known

pub returns-clause-table : goal.returns-clause-table
returns-clause-table c decls t table well sound is graph root has verdict known =
    sound_reports (shape decls) (names_of decls) (Equal decls) graph root t
    (HasSearchTrees decls graph root t)
    (c.sound_trees_are_search_trees.ensures decls t (types_of table) well sound is.reached graph
    root has)
    verdict ((c.tables_have_the_verdict.ensures decls t table is graph root verdict).0 known)
