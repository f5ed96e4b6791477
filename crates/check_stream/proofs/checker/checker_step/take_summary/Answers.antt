use Rattle.std.proofs.Common.{rules, subst}
use Rattle.std.proofs.lemmas.Int.{to_z-of_z}
use Rattle.std.specs.Int.{w64}
use Rattle.marshal_spec.specs.format.Token.{integer}
use Rattle.check_stream.specs.checker.CheckerState.{Took}
use Rattle.types_table.specs.type_table.Made.{table_of}
use Rattle.check_stream.specs.checker.OpenPositions.{need_of}
use Rattle.check_stream.proofs.checker.Weaker.{taken_weaker, on_true_weaker}
use Rattle.check_stream.proofs.checker.CheckerTakeLemmas.{took_integer, took_atom, took_block, took_bytes, took_double, took_doubles, took_custom}
use Rattle.check_stream.proofs.checker.checker_step.take_summary.Goals as goal

pub returns-in-Integer : goal.returns-in-Integer
returns-in-Integer c =
    let same = to_z-of_z w64 c.in-Integer.z (search rules) in
    taken_weaker c.integer.result
    (λ took. took_integer (table_of c.args.table.now) c.args.state.now c.integer.new.self (need_of c.args.asked) c.args.summary c.in-Integer.z c.in-Integer.is
    (subst (λ z. Took (table_of c.args.table.now) c.args.state.now c.integer.new.self (need_of c.args.asked) (integer z)) same took))
    c.integer.ensures

pub returns-in-Atom : goal.returns-in-Atom
returns-in-Atom c =
    on_true_weaker c.atom.result
    (took_atom (table_of c.args.table.now) c.args.state.now _ (need_of c.args.asked) c.args.summary c.in-Atom.tag c.in-Atom.is)
    c.atom.ensures

pub returns-in-Block : goal.returns-in-Block
returns-in-Block c =
    taken_weaker c.block.result
    (took_block (table_of c.args.table.now) c.args.state.now _ (need_of c.args.asked) c.args.summary c.in-Block.tag c.in-Block.size c.in-Block.is)
    c.block.ensures

pub returns-in-Bytes : goal.returns-in-Bytes
returns-in-Bytes c =
    taken_weaker c.bytes.result
    (took_bytes (table_of c.args.table.now) c.args.state.now _ (need_of c.args.asked) c.args.summary c.in-Bytes.size c.in-Bytes.is)
    c.bytes.ensures

pub returns-in-Double : goal.returns-in-Double
returns-in-Double c =
    taken_weaker c.double.result
    (took_double (table_of c.args.table.now) c.args.state.now _ (need_of c.args.asked) c.args.summary c.in-Double.is)
    c.double.ensures

pub returns-in-Doubles : goal.returns-in-Doubles
returns-in-Doubles c =
    taken_weaker c.doubles.result
    (took_doubles (table_of c.args.table.now) c.args.state.now _ (need_of c.args.asked) c.args.summary c.in-Doubles.count c.in-Doubles.is)
    c.doubles.ensures

pub returns-in-Custom : goal.returns-in-Custom
returns-in-Custom c =
    taken_weaker c.custom.result
    (took_custom (table_of c.args.table.now) c.args.state.now _ (need_of c.args.asked) c.args.summary c.in-Custom.kind c.in-Custom.is)
    c.custom.ensures
