use Rattle.std.proofs.Common.{rules, ◌≡◌, subst}
use Rattle.base_data.specs.declared.model.code.CodeKind.{CodeKind}
use Rattle.base_data.specs.declared.model.code.CodeKind.TheVariants as kinds
use Rattle.marshal_spec.specs.format.Token.{EncodesAfter}
use Rattle.marshal_spec.proofs.format.ContentLemmas.{doubles_whole}
use Rattle.test_oracles.proofs.token.token_after.Goals as goal

pub doubles_token-requires : goal.doubles_token-requires
doubles_token-requires c =
    let rest = c.args.rest.now in
    let kind : c.args.kind.kind ≡ kinds.Doubles c.in-Doubles.width c.in-Doubles.little = search rules in
    let encoded : EncodesAfter (kinds.Doubles c.in-Doubles.width c.in-Doubles.little) rest c.requires.encoded.0 =
    subst (λ (k : CodeKind). EncodesAfter k rest c.requires.encoded.0) kind c.requires.encoded.1 in
    let whole = doubles_whole c.in-Doubles.width c.in-Doubles.little rest c.requires.encoded.0 encoded in
    rw (c.skip-bytes.ensures, c.number_of.ensures, c.from-width.ensures) whole

pub returns-in-Custom : goal.returns-in-Custom
returns-in-Custom c = λ u s. c.custom_token.ensures u (subst (λ (k : CodeKind). EncodesAfter k c.args.rest.now u) c.in-Custom.is s)
