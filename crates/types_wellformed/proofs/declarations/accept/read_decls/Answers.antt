use Rattle.std.proofs.Common.{ℕ, ◌≡◌, ◌∙◌, List, length, Option, Some, None, sym, ap, subst}
use Rattle.types_lex.specs.declared.lexeme.Lexeme.{Lexeme}
use Rattle.types_spec.specs.types.WellFormed.{AreSound, AreWellFormed}
use Rattle.types_spec.specs.types.Occurrence.{DeclPositions}
use Rattle.types_spec.specs.types.Scope.{Rule, BreaksInFile}
use Rattle.types_spec.specs.declared.types.decl.Decl.{Decl}
use Rattle.types_parse.specs.grammar.Depths.{file_ends}
use Rattle.types_parse.specs.grammar.Grammar.{FileTree, file_kinds}
use Rattle.types_parse.specs.grammar.LexemeKinds.{kinds_of}
use Rattle.types_resolve.specs.occurrences.CountedFile.{counted_file}
use Rattle.types_resolve.specs.occurrences.InFile.{file_positions}
use Rattle.types_wellformed.specs.declared.head_rules.broken.HeadBreak.{HeadBreak}
use Rattle.types_wellformed.specs.head_rules.Broken.{IsFirstOfHeads, FileHashes}
use Rattle.types_wellformed.proofs.declarations.DeclarationFileLemmas.{names_sound, files_well_formed}
use Rattle.types_wellformed.specs.declarations.DeclarationAnswer.{IsFileAnswer}
use Rattle.types_wellformed.specs.declarations.DeclarationFault.{head_at, IsRefused, HasFileNames}
use Rattle.types_wellformed.specs.declarations.Named.{IsNamed}
use Rattle.types_wellformed.specs.declared.declarations.named_declarations.Named.{Named}
use Rattle.types_wellformed.proofs.declarations.DeclarationHeadLemmas.{all_kept, heads_refuse, heads_named, heads_accept}
use Rattle.types_wellformed.proofs.declarations.DeclarationReadLemmas.{positions_are}
use Rattle.types_wellformed.proofs.declarations.accept.read_decls.Goals as goal

abbrev Breaks : FileTree → Rule → ℕ → Type 0
Breaks tree = BreaksInFile (file_positions tree)

abbrev Hashes : FileTree → ℕ → List ℕ → List ℕ → Type 0
Hashes tree = FileHashes (file_positions tree)

-- The results of the rules for the found occurrences are the results for the occurrences in the
-- tree.
found_of_tree :
    (text : List ℕ) (named : Named) (is : IsNamed text named) (marks : List ℕ) (decls : List Decl) (found shown : Option HeadBreak)
    → marks ≡ named.marks.items → decls ≡ named.decls
    → IsFirstOfHeads (BreaksInFile (counted_file marks decls)) (FileHashes (counted_file marks decls)) found → found ≡ shown
    → IsFirstOfHeads (Breaks is.tree) (Hashes is.tree) shown
found_of_tree text named is marks decls found shown marked declared first same =
    let positions = positions_are named.lexemes.items decls marks is.tree is.reads.encodes (declared ∙ is.declared) (marked ∙ is.marked) in
    subst (λ (all : List DeclPositions). IsFirstOfHeads (BreaksInFile all) (FileHashes all) shown) positions
    (subst (IsFirstOfHeads (BreaksInFile (counted_file marks decls)) (FileHashes (counted_file marks decls))) same first)

pub first_file_head-requires : goal.first_file_head-requires
first_file_head-requires c =
    let named = c.in_ok-named.ensures.named in
    subst AreSound (sym (c.as_slice-2.ensures ∙ named.declared))
    (names_sound (kinds_of c.in_ok-named.named.lexemes.items) named.tree named.reads named.keeps)

pub returns-in-Some-clause-fault : goal.returns-in-Some-clause-fault
returns-in-Some-clause-fault c =
    let text = c.args.text.now in
    let named = c.in_ok-named.ensures.named in
    let broken = c.in-Some.broken in
    let found = found_of_tree text c.in_ok-named.named named c.as_slice.result.now c.as_slice-2.result.now c.in_ok-broken.field-0 (Some broken)
    c.as_slice.ensures.value c.as_slice-2.ensures c.in_ok-broken.ensures c.in-Some.is in
    subst (IsRefused (IsFileAnswer text))
    (sym (c.head_fault.ensures ∙ ap (λ (ls : List Lexeme). head_at ls (length text) broken) c.as_slice-in-Some.ensures.value))
    (heads_refuse file_kinds file_ends Breaks Hashes text c.in_ok-named.named.lexemes.items named.lexed named.tree named.reads named.keeps broken
    found)

pub returns-in-Some-clause-names : goal.returns-in-Some-clause-names
returns-in-Some-clause-names c =
    let text = c.args.text.now in
    let named = c.in_ok-named.ensures.named in
    let broken = c.in-Some.broken in
    let found = found_of_tree text c.in_ok-named.named named c.as_slice.result.now c.as_slice-2.result.now c.in_ok-broken.field-0 (Some broken)
    c.as_slice.ensures.value c.as_slice-2.ensures c.in_ok-broken.ensures c.in-Some.is in
    subst (HasFileNames text)
    (sym (c.head_fault.ensures ∙ ap (λ (ls : List Lexeme). head_at ls (length text) broken) c.as_slice-in-Some.ensures.value))
    (heads_named file_kinds file_ends Breaks Hashes text c.in_ok-named.named.lexemes.items named.lexed named.tree named.reads named.keeps broken
    found)

pub returns-in-None-clause-declared : goal.returns-in-None-clause-declared
returns-in-None-clause-declared c =
    let text = c.args.text.now in
    let named = c.in_ok-named.ensures.named in
    let found = found_of_tree text c.in_ok-named.named named c.as_slice.result.now c.as_slice-2.result.now c.in_ok-broken.field-0 None
    c.as_slice.ensures.value c.as_slice-2.ensures c.in_ok-broken.ensures c.in-None.is in
    record {
      tree = named.tree;
      answer = heads_accept file_kinds file_ends Breaks Hashes text c.in_ok-named.named.lexemes.items named.lexed named.tree named.reads
          named.keeps found;
      stand = named.declared;
    }

pub returns-in-None-clause-well : goal.returns-in-None-clause-well
returns-in-None-clause-well c =
    let text = c.args.text.now in
    let named = c.in_ok-named.ensures.named in
    let found = found_of_tree text c.in_ok-named.named named c.as_slice.result.now c.as_slice-2.result.now c.in_ok-broken.field-0 None
    c.as_slice.ensures.value c.as_slice-2.ensures c.in_ok-broken.ensures c.in-None.is in
    subst AreWellFormed (sym named.declared)
    (files_well_formed (kinds_of c.in_ok-named.named.lexemes.items) named.tree named.reads
    (all_kept (Breaks named.tree) (Hashes named.tree) named.keeps found))
