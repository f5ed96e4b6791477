use Rattle.marshal_codec.specs.declared.token.summary.Summary.TheVariants as summaries
use Rattle.check_stream.proofs.checker.AgainLemmas.{made_summary}
use Rattle.check_stream.proofs.checker.reread.makes_object.Goals as goal

pub returns-in-Integer : goal.returns-in-Integer
returns-in-Integer c = made_summary c.args.seen (summaries.Integer c.in-Integer.field-0) c.in-Integer.is

pub returns-in-Atom : goal.returns-in-Atom
returns-in-Atom c = made_summary c.args.seen (summaries.Atom c.in-Atom.field-0) c.in-Atom.is

pub returns-in-Shared : goal.returns-in-Shared
returns-in-Shared c = made_summary c.args.seen (summaries.Shared c.in-Shared.field-0) c.in-Shared.is

pub returns-in-Block : goal.returns-in-Block
returns-in-Block c = made_summary c.args.seen (summaries.Block c.in-Block.field-0 c.in-Block.field-1) c.in-Block.is

pub returns-in-Bytes : goal.returns-in-Bytes
returns-in-Bytes c = made_summary c.args.seen (summaries.Bytes c.in-Bytes.field-0) c.in-Bytes.is

pub returns-in-Double : goal.returns-in-Double
returns-in-Double c = made_summary c.args.seen summaries.Double c.in-Double.is

pub returns-in-Doubles : goal.returns-in-Doubles
returns-in-Doubles c = made_summary c.args.seen (summaries.Doubles c.in-Doubles.field-0) c.in-Doubles.is

pub returns-in-Custom : goal.returns-in-Custom
returns-in-Custom c = made_summary c.args.seen (summaries.Custom c.in-Custom.field-0) c.in-Custom.is
