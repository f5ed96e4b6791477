-- If the text of a type breaks no scope rule over well-formed declarations, then the type is sound.
use Rattle.std.proofs.Common.{List, false}
use Rattle.types_parse.specs.grammar.Grammar.{Texpr}
use Rattle.types_spec.specs.declared.types.decl.Decl.{Decl}
use Rattle.types_spec.specs.types.WellFormed.{AreWellFormed, IsSoundType}
use Rattle.types_spec.specs.types.Scope.{BreaksInType, KeepsAll}
use Rattle.types_parse.specs.parse.WrittenTrees.{type_of_texpr}
use Rattle.types_resolve.specs.occurrences.InText.{in_texpr}
use Rattle.types_wellformed.proofs.accepted.AcceptedLemmas.{sound_type}
use Rattle.types_wellformed.proofs.declarations.OutsideLemmas.{types_are_types}
use Rattle.types_wellformed.proofs.declarations.DeclarationTypeLemmas.{types_known, types_proper}

pub types_sound :
    (decls : List Decl) (tree : Texpr) → AreWellFormed decls → KeepsAll (BreaksInType decls (in_texpr 0 false tree))
    → IsSoundType decls (type_of_texpr tree)
types_sound decls tree well keeps =
    sound_type decls (in_texpr 0 false tree) (type_of_texpr tree) well (types_proper tree) (types_are_types tree) (types_known 0 false tree) keeps
