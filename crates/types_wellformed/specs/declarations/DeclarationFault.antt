-- The faults that the code returns, and the answer that each fault reports.
use Rattle.std.specs.Prelude.{ℕ, ◌≡◌, List, length, false, Option, Some, None, MatchOption}
use Rattle.types_lex.specs.declared.lexeme.Lexeme.{Lexeme}
use Rattle.types_lex.specs.declared.lexeme.LexFault.{LexFault}
use Rattle.types_lex.specs.declared.lexeme.LexFault.TheVariants as lexer
use Rattle.types_lex.specs.LexText.{Lexes}
use Rattle.types_spec.specs.declared.types.decl.Decl.{Decl}
use Rattle.types_spec.specs.types.Scope as scope
use Rattle.types_parse.specs.grammar.Grammar.{Kinds, file_kinds, texpr}
use Rattle.types_parse.specs.grammar.Depths.{file_ends, texpr_ends}
use Rattle.types_parse.specs.grammar.Refusals.{IsText}
use Rattle.types_parse.specs.declared.parse.refused.ParseFault.{ParseFault}
use Rattle.types_parse.specs.declared.parse.refused.ParseFault.TheVariants as parser
use Rattle.types_parse.specs.grammar.LexemeKinds.{kinds_of}
use Rattle.types_parse.specs.parse.Parsed.{byte_of}
use Rattle.types_resolve.specs.occurrences.InFile.{file_positions}
use Rattle.types_resolve.specs.occurrences.InText.{in_texpr}
use Rattle.types_wellformed.specs.declared.head_rules.broken.HeadBreak.{HeadBreak}
use Rattle.types_wellformed.specs.declared.head_rules.broken.HeadBreak.TheVariants as heads
use Rattle.types_wellformed.specs.head_rules.Broken.{FileHashes, TypeHashes}
use Rattle.types_wellformed.specs.declarations.DeclarationAnswer.{DeclarationAnswer, no_lexemes}
use Rattle.types_wellformed.specs.declarations.DeclarationAnswer.{no_text, too_deep}
use Rattle.types_wellformed.specs.declarations.DeclarationAnswer.{broken}
use Rattle.types_wellformed.specs.declared.declarations.declaration_fault.DeclFault.{DeclFault}
use Rattle.types_wellformed.specs.declared.declarations.declaration_fault.DeclFault.TheVariants as faults
use Rattle.types_resolve.specs.declared.scope.rule.NameRule.{NameRule}
use Rattle.types_resolve.specs.declared.scope.rule.NameRule.TheVariants as rules

-- ---- faults of each stage

abbrev pub lexed : LexFault → DeclFault
lexed lexer.Memory = faults.Memory
lexed fault = faults.Lex fault

abbrev pub parsed : List Lexeme → ℕ → ParseFault → DeclFault
parsed lexemes end (parser.Syntax k) = faults.Syntax (byte_of lexemes end k)
parsed lexemes end (parser.TooDeep k) = faults.TooDeep (byte_of lexemes end k)
parsed lexemes end parser.Memory = faults.Memory

abbrev pub broken_at : NameRule → ℕ → DeclFault
broken_at rules.Twice position = faults.Twice position
broken_at rules.UnknownName position = faults.UnknownName position
broken_at rules.Arity position = faults.Arity position
broken_at rules.UnboundVariable position = faults.UnboundVar position
broken_at rules.Cyclic position = faults.Cyclic position
broken_at rules.Irregular position = faults.Irregular position
broken_at rules.TooManyConstructors position = faults.TooManyConstructors position

abbrev pub head_at : List Lexeme → ℕ → HeadBreak → DeclFault
head_at lexemes end (heads.NotVariant k) = faults.NotVariant (byte_of lexemes end k)
head_at lexemes end (heads.TagClash k) = faults.TagClash (byte_of lexemes end k)
head_at lexemes end (heads.HashClash k one other) =
    faults.HashClash (byte_of lexemes end k) one other
head_at lexemes end (heads.FloatInGroup k) = faults.FloatInGroup (byte_of lexemes end k)
head_at lexemes end (heads.MixedRecord k) = faults.MixedRecord (byte_of lexemes end k)

-- ---- the answer that a fault reports

abbrev pub known : {Tree : Type 0} → DeclFault → Option (DeclarationAnswer Tree)
known (faults.Lex fault) = Some (no_lexemes fault)
known (faults.Syntax position) = Some (no_text position)
known (faults.TooDeep position) = Some (too_deep position)
known (faults.Twice position) = Some (broken scope.twice position)
known (faults.UnknownName position) = Some (broken scope.unknown_name position)
known (faults.Arity position) = Some (broken scope.arity position)
known (faults.UnboundVar position) = Some (broken scope.unbound_variable position)
known (faults.Cyclic position) = Some (broken scope.cyclic position)
known (faults.Irregular position) = Some (broken scope.irregular position)
known (faults.TooManyConstructors position) = Some (broken scope.too_many_constructors position)
known (faults.NotVariant position) = Some (broken scope.not_variant position)
known (faults.TagClash position) = Some (broken scope.tag_clash position)
known (faults.HashClash position one other) = Some (broken scope.hash_clash position)
known (faults.FloatInGroup position) = Some (broken scope.float_in_group position)
known (faults.MixedRecord position) = Some (broken scope.mixed_record position)
known faults.Memory = None

-- If the fault is not a memory fault, then the answer that the fault reports is the answer to the
-- text.
abbrev pub IsRefused : {Tree : Type 0} → (DeclarationAnswer Tree → Type 0) → DeclFault → Type 0
IsRefused Is fault = MatchOption (known fault) (Unit {0}) Is

-- ---- the names in a fault

module _ {Tree : Type 0} (encoded : Tree → Kinds) (ends : Tree → List ℕ)
    (Hashes : Tree → ℕ → List ℕ → List ℕ → Type 0) (text : List ℕ) where
  -- A tree of the text has two tags with the names `one` and `other` and the same hash in one
  -- bracket. The later tag is at the byte offset `position`.
  pub record NameTags (position : ℕ) (one other : List ℕ) : Type 0 where
    pub lexemes : List Lexeme
    pub tree : Tree
    pub lexeme : ℕ
    pub lexed : Lexes text lexemes
    pub reads : IsText encoded ends (kinds_of lexemes) tree
    pub at : byte_of lexemes (length text) lexeme ≡ position
    pub hash : Hashes tree lexeme one other

  abbrev pub HasNames : DeclFault → Type 0
  HasNames (faults.HashClash position one other) = NameTags position one other
  HasNames fault = Unit {0}

abbrev pub HasFileNames : List ℕ → DeclFault → Type 0
HasFileNames = HasNames file_kinds file_ends (λ tree. FileHashes (file_positions tree))

-- If a fault in the text of a type states two names, then two tags with the names have the same
-- hash.
abbrev pub HasTypeNames : List Decl → List ℕ → DeclFault → Type 0
HasTypeNames decls = HasNames texpr texpr_ends (λ tree. TypeHashes decls (in_texpr 0 false tree))
