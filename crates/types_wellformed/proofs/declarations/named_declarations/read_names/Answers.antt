use Rattle.std.proofs.Common.{None, ℕ, ◌∙◌, false, List, length, sym, ap, subst}
use Rattle.types_lex.specs.declared.lexeme.Lexeme.{Lexeme}
use Rattle.types_spec.specs.types.Scope.{Rule, IsFirst, BreaksInFile}
use Rattle.types_spec.specs.types.Occurrence.{DeclPositions}
use Rattle.types_parse.specs.grammar.Grammar.{FileTree, file_kinds}
use Rattle.types_parse.specs.grammar.Depths.{file_ends}
use Rattle.types_parse.specs.grammar.LexemeKinds.{kinds_of}
use Rattle.types_parse.specs.parse.Parsed.{byte_of, IsFault, AreDeclarationsOf}
use Rattle.types_resolve.specs.occurrences.Counted.{marks}
use Rattle.types_resolve.specs.occurrences.CountedFile.{counted_file}
use Rattle.types_resolve.specs.occurrences.InFile.{file_positions}
use Rattle.types_wellformed.specs.declarations.DeclarationAnswer.{IsFileAnswer}
use Rattle.types_wellformed.specs.declarations.DeclarationFault.{parsed, broken_at, IsRefused}
use Rattle.types_resolve.specs.scope.Breaks.{rule_of}
use Rattle.types_resolve.specs.scope.First.{IsFirstBefore}
use Rattle.types_wellformed.proofs.declarations.DeclarationReadLemmas.{lexer_refuses, grammar_refuses, scope_refuses, positions_are}
use Rattle.types_wellformed.proofs.declarations.named_declarations.read_names.Goals as goal

abbrev Breaks : FileTree → Rule → ℕ → Type 0
Breaks tree = BreaksInFile (file_positions tree)

pub returns-in-Err-clause-fault : goal.returns-in-Err-clause-fault
returns-in-Err-clause-fault c =
    subst (IsRefused (IsFileAnswer c.args.text.now)) (sym c.lex_fault.ensures)
    (lexer_refuses file_kinds file_ends Breaks c.args.text.now c.in-Err.fault c.in-Err.ensures.fault)

pub returns-in-Err-parse_file-clause-fault : goal.returns-in-Err-parse_file-clause-fault
returns-in-Err-parse_file-clause-fault c =
    let text = c.args.text.now in
    let lexemes = c.in-Ok.lexemes.items in
    let fault = c.in-Err-parse_file.fault in
    subst (IsRefused (IsFileAnswer text))
    (sym (c.parse_fault.ensures
    ∙ ap (λ (ls : List Lexeme). parsed ls (length text) fault) c.as_slice-in-Err-parse_file.ensures.value))
    (grammar_refuses file_kinds file_ends Breaks text lexemes c.in-Ok.ensures.lexemes fault
    (subst (λ (ls : List Lexeme). IsFault file_kinds file_ends (kinds_of ls) fault) c.as_slice.ensures.value
    c.in-Err-parse_file.ensures.fault))

pub returns-in-Some-clause-fault : goal.returns-in-Some-clause-fault
returns-in-Some-clause-fault c =
    let text = c.args.text.now in
    let lexemes = c.in-Ok.lexemes.items in
    let rule = c.in-Some.broken.rule in
    let k = c.in-Some.broken.position in
    let declared = subst (λ (ls : List Lexeme). AreDeclarationsOf (kinds_of ls) c.in-Ok-parse_file.decls)
    c.as_slice.ensures.value c.in-Ok-parse_file.ensures.declarations in
    let marked = c.as_slice-3.ensures.value ∙ c.in_ok-marks.ensures
    ∙ ap (λ (ls : List Lexeme). marks 0 false (kinds_of ls)) c.as_slice-2.ensures.value in
    let positions = positions_are lexemes c.as_slice-4.result.now c.as_slice-3.result.now declared.tree declared.reads.encodes
    (c.as_slice-4.ensures ∙ declared.stand) marked in
    let first : IsFirst (BreaksInFile (counted_file c.as_slice-3.result.now c.as_slice-4.result.now)) (rule_of rule) k =
    (subst (IsFirstBefore (BreaksInFile (counted_file c.as_slice-3.result.now c.as_slice-4.result.now)) 7)
    c.in-Some.is c.in_ok-broken.ensures).1 in
    subst (IsRefused (IsFileAnswer text))
    (sym (c.scope_fault.ensures
    ∙ ap (λ (ls : List Lexeme). broken_at rule (byte_of ls (length text) k)) c.as_slice-in-Some.ensures.value))
    (scope_refuses file_kinds file_ends Breaks text lexemes c.in-Ok.ensures.lexemes declared.tree declared.reads rule k
    (subst (λ (all : List DeclPositions). IsFirst (BreaksInFile all) (rule_of rule) k) positions first))

pub returns-clause-named : goal.returns-clause-named
returns-clause-named c =
    let lexemes = c.in-Ok.lexemes.items in
    let declared = subst (λ (ls : List Lexeme). AreDeclarationsOf (kinds_of ls) c.in-Ok-parse_file.decls)
    c.as_slice.ensures.value c.in-Ok-parse_file.ensures.declarations in
    let made = c.in_ok-marks.ensures ∙ ap (λ (ls : List Lexeme). marks 0 false (kinds_of ls)) c.as_slice-2.ensures.value in
    let positions = positions_are lexemes c.as_slice-4.result.now c.as_slice-3.result.now declared.tree declared.reads.encodes
    (c.as_slice-4.ensures ∙ declared.stand) (c.as_slice-3.ensures.value ∙ made) in
    record {
      tree = declared.tree;
      lexed = c.in-Ok.ensures.lexemes;
      reads = declared.reads;
      marked = made;
      declared = declared.stand;
      keeps = subst (λ (all : List DeclPositions). IsFirstBefore (BreaksInFile all) 7 None) positions
          (subst (IsFirstBefore (BreaksInFile (counted_file c.as_slice-3.result.now c.as_slice-4.result.now)) 7)
          c.in_default.is c.in_ok-broken.ensures);
    }
