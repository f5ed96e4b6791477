use Rattle.std.proofs.Common.{refl}
use Rattle.cli_spec.specs.declared.exit.Exit.TheVariants.{RequestedType as requested_type}
use Rattle.cli_spec.specs.declared.exit.Exit.TheVariants.{RequestedType}
use Rattle.types_wellformed.specs.declarations.DeclarationFault.{known}
use Rattle.types_parse.specs.grammar.Grammar.{Texpr}
use Rattle.types_wellformed.specs.declarations.DeclarationFaultText.{answer_text}
use Rattle.run_types.proofs.RequestedTypeLemmas.{refusal_known, memory_known}
use Rattle.run_types.proofs.requested_texts.type_exit.Goals as goal

pub returns-in-Ok : goal.returns-in-Ok
returns-in-Ok c =
    refusal_known c.args.lines c.args.text.now c.in-Ok.refusal (RequestedType c.in-Ok.refusal) requested_type refl
    (known {Tree = Texpr} c.args.fault.now) c.in-Ok.ensures.types

pub returns-in-Err : goal.returns-in-Err
returns-in-Err c = memory_known (known {Tree = Texpr} c.args.fault.now) (λ answer. requested_type (answer_text c.args.lines c.args.text.now answer))
