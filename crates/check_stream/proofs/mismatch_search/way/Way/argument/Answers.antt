use Rattle.check_stream.proofs.mismatch_search.MismatchSearchWayLemmas.{argument_is_way, argument_positions}
use Rattle.check_stream.proofs.mismatch_search.way.Way.argument.Goals as goal

pub returns : goal.returns
returns c = record {
  is_way = λ is. argument_is_way c.args.self.now c.args.ty is c.requires;
  argument = argument_positions c.args.self.now c.args.ty c.requires;
}
