use Rattle.std.proofs.Common.{ap, ◌∙◌}
use Rattle.base_data.specs.declared.model.value.Obj.TheVariants as objects
use Rattle.marshal_spec.specs.format.Token.{leaf}
use Rattle.marshal_spec.proofs.format.EncodeLemmas.{EncodesDoubles-same}
use Rattle.test_oracles.proofs.token.doubles_token.Goals as goal

pub returns : goal.returns
returns c = λ all s.
    ap (λ ds. leaf (objects.Doubles ds))
    (c.of.ensures ∙ EncodesDoubles-same c.args.little c.in_ok-all.all.items all c.args.bytes.now c.in_ok-all.ensures s)
