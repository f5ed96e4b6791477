use Rattle.std.proofs.Common.{refl}
use Rattle.std.specs.Fmt.{digits}
use Rattle.marshal_spec.specs.format.Canonical.{canon, header_encoding, integer_encoding, block_encoding, string_prefix}
use Rattle.cmd_gen.proofs.generator.WorkedLemmas.{empty_is, three_is}
use Rattle.cmd_gen.proofs.generator.laws.worked_values_are_generated.Goals as goal

pub returns : goal.returns
unfolding canon header_encoding integer_encoding block_encoding string_prefix digits
returns c = record {
  none_at_all = refl;
  three_items = refl;
  empty_tree = empty_is;
  three_tree = three_is;
  empty_line = refl;
  three_line = refl;
}
