use Rattle.std.proofs.Common.{refl}
use Rattle.std.specs.Fmt.{digits}
use Rattle.hex.specs.Hex.{encode_with}
use Rattle.types_spec.specs.types.Declarations.{predeclared}
use Rattle.types_spec.specs.types.Predeclared.{sum_at, name_at}
use Rattle.types_spec.specs.types.Head.{head}
use Rattle.text_print.specs.show.ShownValues.{shown_text}
use Rattle.text_print.specs.show.DumpedGraph.{dump_text}
use Rattle.text_print.proofs.show.texts_of_worked_values.Goals as goal

pub returns : goal.returns
unfolding head predeclared sum_at name_at shown_text dump_text digits encode_with
returns c = record {
  cyclic = refl;
  shared = refl;
  float = refl;
  flat = refl;
  floats = refl;
  int32 = refl;
  int64 = refl;
  native = refl;
  bare = refl;
  negative = refl;
  carrying = refl;
  char = refl;
  bytes = refl;
  wildcard = refl;
  all_wildcard = refl;
  wildcard_array = refl;
  wildcard_doubles = refl;
  wildcard_part = refl;
  second = refl;
  rest = refl;
  nowhere = refl;
  constant = refl;
  inline = refl;
  two = refl;
  fields = refl;
  array = refl;
  empty = refl;
  option = refl;
  labels = refl;
  dumped = refl;
  all_kinds = refl;
}
