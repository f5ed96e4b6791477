use Rattle.std.proofs.Common.{ℕ, ◌≡◌, ◌∙◌, List, length, Option, Some, None, sym, ap, subst, false}
use Rattle.types_lex.specs.declared.lexeme.Lexeme.{Lexeme}
use Rattle.types_spec.specs.types.WellFormed.{IsSoundType}
use Rattle.types_spec.specs.types.Occurrence.{Occurrence}
use Rattle.types_spec.specs.types.Scope.{Rule, BreaksInType}
use Rattle.types_spec.specs.declared.types.decl.Decl.{Decl}
use Rattle.types_parse.specs.grammar.Depths.{texpr_ends}
use Rattle.types_parse.specs.grammar.Grammar.{Texpr, texpr}
use Rattle.types_resolve.specs.occurrences.Counted.{in_type}
use Rattle.types_resolve.specs.occurrences.InText.{in_texpr}
use Rattle.types_wellformed.specs.declared.head_rules.broken.HeadBreak.{HeadBreak}
use Rattle.types_wellformed.specs.head_rules.Broken.{IsFirstOfHeads, TypeHashes}
use Rattle.types_wellformed.proofs.declarations.DeclarationSoundLemmas.{types_sound}
use Rattle.types_wellformed.specs.declarations.DeclarationAnswer.{IsTypeAnswer}
use Rattle.types_wellformed.specs.declarations.DeclarationFault.{head_at, IsRefused, HasTypeNames}
use Rattle.types_wellformed.specs.declarations.Named.{IsNamedType}
use Rattle.types_wellformed.specs.declared.declarations.named_declarations.NamedType.{NamedType}
use Rattle.types_wellformed.proofs.declarations.DeclarationHeadLemmas.{all_kept, heads_refuse, heads_named, heads_accept}
use Rattle.types_wellformed.proofs.declarations.DeclarationReadLemmas.{occurrences_are}
use Rattle.types_wellformed.proofs.declarations.accept.read_type.Goals as goal

abbrev Breaks : List Decl → Texpr → Rule → ℕ → Type 0
Breaks decls tree = BreaksInType decls (in_texpr 0 false tree)

abbrev Hashes : List Decl → Texpr → ℕ → List ℕ → List ℕ → Type 0
Hashes decls tree = TypeHashes decls (in_texpr 0 false tree)

-- The results of the rules for the found occurrences are the results for the occurrences in the
-- tree.
found_of_tree :
    (decls : List Decl) (text : List ℕ) (named : NamedType) (is : IsNamedType decls text named) (marks : List ℕ) (found shown : Option HeadBreak)
    → marks ≡ named.marks.items
    → IsFirstOfHeads (BreaksInType decls (in_type marks false named.ty)) (TypeHashes decls (in_type marks false named.ty)) found → found ≡ shown
    → IsFirstOfHeads (Breaks decls is.tree) (Hashes decls is.tree) shown
found_of_tree decls text named is marks found shown marked first same =
    let all = in_type marks false named.ty in
    let positions = occurrences_are named.lexemes.items named.ty marks is.tree is.reads.encodes is.stands (marked ∙ is.marked) in
    subst (λ (os : List Occurrence). IsFirstOfHeads (BreaksInType decls os) (TypeHashes decls os) shown) positions
    (subst (IsFirstOfHeads (BreaksInType decls all) (TypeHashes decls all)) same first)

pub returns-in-Some-clause-fault : goal.returns-in-Some-clause-fault
returns-in-Some-clause-fault c =
    let decls = c.args.decls.now in
    let text = c.args.text.now in
    let named = c.in_ok-named.ensures.named in
    let broken = c.in-Some.broken in
    let found = found_of_tree decls text c.in_ok-named.named named c.as_slice.result.now c.in_ok-broken.field-0 (Some broken)
    c.as_slice.ensures.value c.in_ok-broken.ensures c.in-Some.is in
    subst (IsRefused (IsTypeAnswer decls text))
    (sym (c.head_fault.ensures ∙ ap (λ (ls : List Lexeme). head_at ls (length text) broken) c.as_slice-in-Some.ensures.value))
    (heads_refuse texpr texpr_ends (Breaks decls) (Hashes decls) text c.in_ok-named.named.lexemes.items named.lexed named.tree named.reads
    named.keeps broken found)

pub returns-in-Some-clause-names : goal.returns-in-Some-clause-names
returns-in-Some-clause-names c =
    let decls = c.args.decls.now in
    let text = c.args.text.now in
    let named = c.in_ok-named.ensures.named in
    let broken = c.in-Some.broken in
    let found = found_of_tree decls text c.in_ok-named.named named c.as_slice.result.now c.in_ok-broken.field-0 (Some broken)
    c.as_slice.ensures.value c.in_ok-broken.ensures c.in-Some.is in
    subst (HasTypeNames decls text)
    (sym (c.head_fault.ensures ∙ ap (λ (ls : List Lexeme). head_at ls (length text) broken) c.as_slice-in-Some.ensures.value))
    (heads_named texpr texpr_ends (Breaks decls) (Hashes decls) text c.in_ok-named.named.lexemes.items named.lexed named.tree named.reads
    named.keeps broken found)

pub returns-in-None-clause-written : goal.returns-in-None-clause-written
returns-in-None-clause-written c =
    let decls = c.args.decls.now in
    let text = c.args.text.now in
    let named = c.in_ok-named.ensures.named in
    let found = found_of_tree decls text c.in_ok-named.named named c.as_slice.result.now c.in_ok-broken.field-0 None
    c.as_slice.ensures.value c.in_ok-broken.ensures c.in-None.is in
    record {
      tree = named.tree;
      answer = heads_accept texpr texpr_ends (Breaks decls) (Hashes decls) text c.in_ok-named.named.lexemes.items named.lexed named.tree
          named.reads named.keeps found;
      stands = named.stands;
    }

pub returns-in-None-clause-sound : goal.returns-in-None-clause-sound
returns-in-None-clause-sound c =
    let decls = c.args.decls.now in
    let text = c.args.text.now in
    let named = c.in_ok-named.ensures.named in
    let found = found_of_tree decls text c.in_ok-named.named named c.as_slice.result.now c.in_ok-broken.field-0 None
    c.as_slice.ensures.value c.in_ok-broken.ensures c.in-None.is in
    subst (IsSoundType decls) (sym named.stands)
    (types_sound decls named.tree c.requires.well (all_kept (Breaks decls named.tree) (Hashes decls named.tree) named.keeps found))
