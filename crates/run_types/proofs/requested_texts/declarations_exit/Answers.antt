use Rattle.std.proofs.Common.{refl}
use Rattle.cli_spec.specs.declared.exit.Exit.TheVariants.{Declarations as declarations}
use Rattle.cli_spec.specs.declared.exit.Exit.TheVariants.{Declarations}
use Rattle.types_wellformed.specs.declarations.DeclarationFault.{known}
use Rattle.types_parse.specs.grammar.Grammar.{FileTree}
use Rattle.types_wellformed.specs.declarations.DeclarationFaultText.{answer_text}
use Rattle.run_types.proofs.RequestedTypeLemmas.{refusal_known, memory_known}
use Rattle.run_types.proofs.requested_texts.declarations_exit.Goals as goal

pub returns-in-Ok : goal.returns-in-Ok
returns-in-Ok c =
    refusal_known c.args.lines c.args.text.now c.in-Ok.refusal (Declarations c.in-Ok.refusal) declarations refl
    (known {Tree = FileTree} c.args.fault.now) c.in-Ok.ensures.files

pub returns-in-Err : goal.returns-in-Err
returns-in-Err c = memory_known (known {Tree = FileTree} c.args.fault.now) (λ answer. declarations (answer_text c.args.lines c.args.text.now answer))
