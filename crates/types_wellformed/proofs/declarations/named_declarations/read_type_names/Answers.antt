use Rattle.std.proofs.Common.{None, ℕ, ◌∙◌, false, List, length, sym, ap, subst}
use Rattle.types_lex.specs.declared.lexeme.Lexeme.{Lexeme}
use Rattle.types_spec.specs.types.Scope.{Rule, IsFirst, BreaksInType}
use Rattle.types_spec.specs.types.Occurrence.{Occurrence}
use Rattle.types_spec.specs.declared.types.decl.Decl.{Decl}
use Rattle.types_parse.specs.grammar.Grammar.{Texpr, texpr}
use Rattle.types_parse.specs.grammar.Depths.{texpr_ends}
use Rattle.types_parse.specs.grammar.LexemeKinds.{kinds_of}
use Rattle.types_parse.specs.parse.Parsed.{byte_of, IsFault, IsTypeOf}
use Rattle.types_resolve.specs.occurrences.Counted.{marks, in_type}
use Rattle.types_resolve.specs.occurrences.InText.{in_texpr}
use Rattle.types_wellformed.specs.declarations.DeclarationAnswer.{IsTypeAnswer}
use Rattle.types_wellformed.specs.declarations.DeclarationFault.{parsed, broken_at, IsRefused}
use Rattle.types_resolve.specs.scope.Breaks.{rule_of}
use Rattle.types_resolve.specs.scope.First.{IsFirstBefore}
use Rattle.types_wellformed.proofs.declarations.DeclarationReadLemmas.{lexer_refuses, grammar_refuses, scope_refuses, occurrences_are}
use Rattle.types_wellformed.proofs.declarations.named_declarations.read_type_names.Goals as goal

abbrev Breaks : List Decl → Texpr → Rule → ℕ → Type 0
Breaks decls tree = BreaksInType decls (in_texpr 0 false tree)

pub returns-in-Err-clause-fault : goal.returns-in-Err-clause-fault
returns-in-Err-clause-fault c =
    subst (IsRefused (IsTypeAnswer c.args.decls.now c.args.text.now)) (sym c.lex_fault.ensures)
    (lexer_refuses texpr texpr_ends (Breaks c.args.decls.now) c.args.text.now c.in-Err.fault c.in-Err.ensures.fault)

pub returns-in-Err-parse_type-clause-fault : goal.returns-in-Err-parse_type-clause-fault
returns-in-Err-parse_type-clause-fault c =
    let text = c.args.text.now in
    let lexemes = c.in-Ok.lexemes.items in
    let fault = c.in-Err-parse_type.fault in
    subst (IsRefused (IsTypeAnswer c.args.decls.now text))
    (sym (c.parse_fault.ensures
    ∙ ap (λ (ls : List Lexeme). parsed ls (length text) fault) c.as_slice-in-Err-parse_type.ensures.value))
    (grammar_refuses texpr texpr_ends (Breaks c.args.decls.now) text lexemes c.in-Ok.ensures.lexemes fault
    (subst (λ (ls : List Lexeme). IsFault texpr texpr_ends (kinds_of ls) fault) c.as_slice.ensures.value
    c.in-Err-parse_type.ensures.fault))

pub returns-in-Some-clause-fault : goal.returns-in-Some-clause-fault
returns-in-Some-clause-fault c =
    let decls = c.args.decls.now in
    let text = c.args.text.now in
    let lexemes = c.in-Ok.lexemes.items in
    let t = c.in-Ok-parse_type.ty in
    let rule = c.in-Some.broken.rule in
    let k = c.in-Some.broken.position in
    let read = subst (λ (ls : List Lexeme). IsTypeOf (kinds_of ls) t) c.as_slice.ensures.value c.in-Ok-parse_type.ensures.ty in
    let marked = c.as_slice-3.ensures.value ∙ c.in_ok-marks.ensures
    ∙ ap (λ (ls : List Lexeme). marks 0 false (kinds_of ls)) c.as_slice-2.ensures.value in
    let all = in_type c.as_slice-3.result.now false t in
    let same = occurrences_are lexemes t c.as_slice-3.result.now read.tree read.reads.encodes read.stands marked in
    let first : IsFirst (BreaksInType decls all) (rule_of rule) k =
    (subst (IsFirstBefore (BreaksInType decls all) 7) c.in-Some.is c.in_ok-broken.ensures).1 in
    subst (IsRefused (IsTypeAnswer decls text))
    (sym (c.scope_fault.ensures
    ∙ ap (λ (ls : List Lexeme). broken_at rule (byte_of ls (length text) k)) c.as_slice-in-Some.ensures.value))
    (scope_refuses texpr texpr_ends (Breaks decls) text lexemes c.in-Ok.ensures.lexemes read.tree read.reads rule k
    (subst (λ (os : List Occurrence). IsFirst (BreaksInType decls os) (rule_of rule) k) same first))

pub returns-clause-named : goal.returns-clause-named
returns-clause-named c =
    let decls = c.args.decls.now in
    let lexemes = c.in-Ok.lexemes.items in
    let t = c.in-Ok-parse_type.ty in
    let read = subst (λ (ls : List Lexeme). IsTypeOf (kinds_of ls) t) c.as_slice.ensures.value c.in-Ok-parse_type.ensures.ty in
    let made = c.in_ok-marks.ensures ∙ ap (λ (ls : List Lexeme). marks 0 false (kinds_of ls)) c.as_slice-2.ensures.value in
    let all = in_type c.as_slice-3.result.now false t in
    let same = occurrences_are lexemes t c.as_slice-3.result.now read.tree read.reads.encodes read.stands
    (c.as_slice-3.ensures.value ∙ made) in
    record {
      tree = read.tree;
      lexed = c.in-Ok.ensures.lexemes;
      reads = read.reads;
      marked = made;
      stands = read.stands;
      keeps = subst (λ (os : List Occurrence). IsFirstBefore (BreaksInType decls os) 7 None) same
          (subst (IsFirstBefore (BreaksInType decls all) 7) c.in_default.is c.in_ok-broken.ensures);
    }
