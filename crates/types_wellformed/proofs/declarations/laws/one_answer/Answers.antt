use Rattle.std.proofs.Common.{false}
use Rattle.types_parse.proofs.grammar.LawLemmas.{one_reading}
use Rattle.types_parse.proofs.grammar.AloneTable.{type_table}
use Rattle.types_parse.proofs.grammar.FileTable.{file_table}
use Rattle.types_parse.specs.grammar.Grammar.{texpr, file_kinds}
use Rattle.types_parse.specs.grammar.Depths.{texpr_ends, file_ends}
use Rattle.types_spec.specs.types.Scope.{BreaksInFile, BreaksInType}
use Rattle.types_resolve.specs.occurrences.InFile.{file_positions}
use Rattle.types_resolve.specs.occurrences.InText.{in_texpr}
use Rattle.types_wellformed.proofs.declarations.AnswerLaws.{one_answer}
use Rattle.types_wellformed.proofs.declarations.laws.one_answer.Goals as goal

pub returns : goal.returns
returns c = record {
  files = one_answer file_kinds file_ends (λ tree. BreaksInFile (file_positions tree)) (one_reading file_table);
  types = λ decls. one_answer texpr texpr_ends (λ tree. BreaksInType decls (in_texpr 0 false tree)) (one_reading type_table);
}
