use Rattle.thm_outcome.proofs.declared_laws.declared_types_are_total_by_values.Goals as goal

pub returns : goal.returns
returns c = record {
  declarations_some = c.declarations_are_read_or_refused.ensures;
  type_some = λ lined text decls reads asked. c.types_are_read_or_refused.ensures decls asked;
  script_some = c.scripts_are_read_or_refused.ensures;
  path_some = c.paths_are_read_or_refused.ensures;
  line_some = c.requires.lines;
  bytes_some = c.requires.bytes;
}
