use Rattle.std.proofs.Common.{ap, ◌∙◌, arith}
use Rattle.std.proofs.lemmas.Result.{on_ok_weaker}
use Rattle.base_data.specs.declared.model.value.Obj.TheVariants as objects
use Rattle.marshal_spec.specs.format.Token.{leaf}
use Rattle.marshal_read.specs.Build.{absorb_in}
use Rattle.marshal_spec.proofs.format.EncodeLemmas.{EncodesDoubles-length, EncodesDoubles-same}
use Rattle.marshal_read.proofs.decode.doubles.Goals as goal

pub doubles-requires-clause-small : goal.doubles-requires-clause-small
doubles-requires-clause-small c =
    omega (arith, c.in_ok-all.all.ok.0, EncodesDoubles-length c.args.little c.in_ok-all.all.items c.args.bytes.now c.in_ok-all.ensures)

pub returns : goal.returns
returns c =
    on_ok_weaker c.doubles.result (λ e all s.
    e ∙ ap (λ ds. absorb_in c.args.builder.now (leaf (objects.Doubles ds))) (EncodesDoubles-same c.args.little c.in_ok-all.all.items all c.args.bytes.now c.in_ok-all.ensures s)) c.doubles.ensures

pub doubles-requires-clause-fits : goal.doubles-requires-clause-fits
doubles-requires-clause-fits c =
    omega (arith, c.in_ok-all.all.ok.0, EncodesDoubles-length c.args.little c.in_ok-all.all.items c.args.bytes.now c.in_ok-all.ensures)
