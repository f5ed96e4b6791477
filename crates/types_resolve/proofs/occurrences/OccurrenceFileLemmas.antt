-- The sites of declarations, one at a time.
use Rattle.std.proofs.Common.{ℕ, zero, suc, ◌+◌, ◌<◌, ◌≤◌, ◌≡◌, ◌∙◌, List, [], ◌∷◌, ◌++◌, Some, length, drop, get_or, false}
use Rattle.std.proofs.Common.{refl, sym, ap, subst, arith, append_assoc}
use Rattle.std.specs.Prelude.{slice_get, slice_index}
use Rattle.std.proofs.lemmas.List.{append-nil, get_or-drop, drop_all}
use Rattle.std.proofs.lemmas.Option.{same_Some, none-some}
use Rattle.types_lex.specs.declared.lexeme.Lexeme.{Lexeme}
use Rattle.types_parse.specs.grammar.Grammar.{Texpr, texpr, FileTree, file_kinds}
use Rattle.types_parse.specs.grammar.LexemeKinds.{kinds_of}
use Rattle.types_parse.specs.parse.WrittenTrees.{type_of_texpr, declarations_of}
use Rattle.types_spec.specs.types.Ty.{Ty}
use Rattle.types_spec.specs.declared.types.decl.Decl.{Decl}
use Rattle.types_spec.specs.types.Occurrence.{Placed, DeclPositions}
use Rattle.types_resolve.specs.declared.scope.site.Site.{Site}
use Rattle.types_resolve.specs.declared.scope.site.TypeSite.{TypeSite}
use Rattle.types_resolve.specs.scope.Sites.{IsSite, AreSites, IsTypeSite}
use Rattle.types_resolve.specs.occurrences.Counted.{marks, in_type}
use Rattle.types_resolve.specs.occurrences.CountedFile.{placed, in_body, decl_count, counted_positions, counted_file}
use Rattle.types_resolve.specs.occurrences.InFile.{file_positions}
use Rattle.types_resolve.specs.occurrences.InText.{in_texpr}
use Rattle.types_resolve.proofs.occurrences.TypeLaws.{types_are_counted}
use Rattle.types_resolve.proofs.occurrences.GroupLaws.{files_are_counted}
use Rattle.types_resolve.specs.declared.scope.type_brackets.TypeBrackets.{TypeBrackets}
use Rattle.types_resolve.specs.scope.TypeBrackets.{AreBrackets, AreFileBrackets}
use Rattle.types_resolve.proofs.occurrences.OccurrenceLoopLemmas.{left_is}

AreSites-none : AreSites [] [] [] []
AreSites-none = record {
  declares = refl;
  declared = refl;
  counted = refl;
  stand = λ i site d site_is d_is. absurd (none-some site site_is);
}

AreSites-cons :
    (decls : List Decl) (names : List Placed) (sites : List Site) (all : List DeclPositions) (site : Site)
    (d : DeclPositions) → IsSite site d → AreSites decls names sites all
    → AreSites (d.decl ∷ decls) ((d.position, d.decl.name) ∷ names) (site ∷ sites) (d ∷ all)
AreSites-cons decls names sites all site d is are = record {
  declares = ap (λ l. d.decl ∷ l) are.declares;
  declared = ap (λ l. (d.position, d.decl.name) ∷ l) are.declared;
  counted = ap suc are.counted;
  stand = stand;
} where
  stand :
      (i : ℕ) (s : Site) (e : DeclPositions) → slice_get (site ∷ sites) i ≡ Some s → slice_get (d ∷ all) i ≡ Some e
      → IsSite s e
  stand zero s e s_is e_is =
      subst (λ x. IsSite x e) (same_Some site s s_is) (subst (IsSite site) (same_Some d e e_is) is)
  stand (suc i) s e s_is e_is = are.stand i s e s_is e_is

-- The collected sites, followed by the sites of the remaining declarations, are the sites of all
-- declarations.
pub record FileFollows (ms : List ℕ) (decls : List Decl) (names : List Placed) (sites : List Site)
    (rest : List ℕ) (left : List Decl) : Type 0 where
  pub are :
      (more : List Placed) (others : List Site) → AreSites left more others (counted_file rest left)
      → AreSites decls (names ++ more) (sites ++ others) (counted_file ms decls)

pub FileFollows-next :
    (ms : List ℕ) (decls : List Decl) (names names' : List Placed) (sites sites' : List Site) (site : Site)
    (rest rest' : List ℕ) (d : Decl) (left : List Decl)
    → FileFollows ms decls names sites rest (d ∷ left) → IsSite site (counted_positions rest d)
    → names' ≡ names ++ placed (drop (length d.parameters) rest) d.name ∷ [] → sites' ≡ sites ++ site ∷ []
    → rest' ≡ drop (decl_count d) rest → FileFollows ms decls names' sites' rest' left
FileFollows-next ms decls names names' sites sites' site rest rest' d left follows is names_are sites_are rest_is =
    let all = counted_file ms decls in
    let name : Placed = (slice_index rest (length d.parameters), d.name) in
    let none : length d.parameters + 0 ≡ length d.parameters = omega arith in
    let name_is : placed (drop (length d.parameters) rest) d.name ≡ name =
    ap (λ (k : ℕ). (k, d.name)) (get_or-drop (length d.parameters) rest 0 0 ∙ ap (slice_index rest) none) in
    let named : names' ≡ names ++ name ∷ [] = names_are ∙ ap (λ (p : Placed). names ++ p ∷ []) name_is in
    subst (λ l. FileFollows ms decls names' sites' l left) (sym rest_is) (record {
      are = λ more others h.
          subst (λ n. AreSites decls n (sites' ++ others) all)
          (sym (ap (λ l. l ++ more) named ∙ append_assoc names (name ∷ []) more))
          (subst (λ s. AreSites decls (names ++ (name ∷ more)) s all)
          (sym (ap (λ l. l ++ others) sites_are ∙ append_assoc sites (site ∷ []) others))
          (follows.are (name ∷ more) (site ∷ others)
          (AreSites-cons left more others (counted_file (drop (decl_count d) rest) left) site (counted_positions rest d) is h)));
    })

pub FileFollows-last :
    (ms : List ℕ) (decls : List Decl) (names : List Placed) (sites : List Site) (rest : List ℕ)
    → FileFollows ms decls names sites rest [] → AreSites decls names sites (counted_file ms decls)
FileFollows-last ms decls names sites rest follows =
    let all = counted_file ms decls in
    subst (λ n. AreSites decls n sites all) (append-nil names)
    (subst (λ s. AreSites decls (names ++ []) s all) (append-nil sites) (follows.are [] [] AreSites-none))

pub FileFollows-step :
    (ms : List ℕ) (decls : List Decl) (names names' : List Placed) (sites sites' : List Site) (site : Site)
    (rest rest' : List ℕ) (d : Decl) (i : ℕ) → i < length decls → d ≡ get_or decls i d
    → FileFollows ms decls names sites rest (drop i decls) → IsSite site (counted_positions rest d)
    → names' ≡ names ++ placed (drop (length d.parameters) rest) d.name ∷ [] → sites' ≡ sites ++ site ∷ []
    → rest' ≡ drop (decl_count d) rest → FileFollows ms decls names' sites' rest' (drop (i + 1) decls)
FileFollows-step ms decls names names' sites sites' site rest rest' d i below read follows is names_are sites_are rest_is =
    FileFollows-next ms decls names names' sites sites' site rest rest' d (drop (i + 1) decls)
    (subst (FileFollows ms decls names sites rest) (left_is decls i d below read) follows) is names_are sites_are rest_is

pub FileFollows-end :
    (ms : List ℕ) (decls : List Decl) (names : List Placed) (sites : List Site) (rest : List ℕ) (i : ℕ)
    → length decls ≤ i → FileFollows ms decls names sites rest (drop i decls)
    → AreSites decls names sites (counted_file ms decls)
FileFollows-end ms decls names sites rest i past follows = FileFollows-last ms decls names sites rest
    (subst (FileFollows ms decls names sites rest) (drop_all i decls past) follows)

-- ---- the brackets of declarations

AreFileBrackets-none : AreFileBrackets [] []
AreFileBrackets-none = record {
  counted = refl;
  stand = λ i brackets d is d_is. absurd (none-some brackets is);
}

AreFileBrackets-cons :
    (found : List (List TypeBrackets)) (all : List DeclPositions) (brackets : List TypeBrackets) (d : DeclPositions)
    → AreBrackets brackets d.occurrences → AreFileBrackets found all → AreFileBrackets (brackets ∷ found) (d ∷ all)
AreFileBrackets-cons found all brackets d is are = record { counted = ap suc are.counted; stand = stand } where
  stand :
      (i : ℕ) (b : List TypeBrackets) (e : DeclPositions) → slice_get (brackets ∷ found) i ≡ Some b
      → slice_get (d ∷ all) i ≡ Some e → AreBrackets b e.occurrences
  stand zero b e b_is e_is =
      subst (λ x. AreBrackets x e.occurrences) (same_Some brackets b b_is)
      (subst (λ (x : DeclPositions). AreBrackets brackets x.occurrences) (same_Some d e e_is) is)
  stand (suc i) b e b_is e_is = are.stand i b e b_is e_is

-- The collected brackets, followed by the brackets of the remaining declarations, are the brackets
-- of all declarations.
pub record BracketsFollow (ms : List ℕ) (decls : List Decl) (found : List (List TypeBrackets)) (rest : List ℕ)
    (left : List Decl) : Type 0 where
  pub are :
      (more : List (List TypeBrackets)) → AreFileBrackets more (counted_file rest left)
      → AreFileBrackets (found ++ more) (counted_file ms decls)

pub BracketsFollow-step :
    (ms : List ℕ) (decls : List Decl) (found found' : List (List TypeBrackets)) (brackets : List TypeBrackets)
    (rest rest' : List ℕ) (d : Decl) (i : ℕ) → i < length decls → d ≡ get_or decls i d
    → BracketsFollow ms decls found rest (drop i decls)
    → AreBrackets brackets (in_body (drop (length d.parameters + 1) rest) d.body)
    → found' ≡ found ++ brackets ∷ [] → rest' ≡ drop (decl_count d) rest
    → BracketsFollow ms decls found' rest' (drop (i + 1) decls)
BracketsFollow-step ms decls found found' brackets rest rest' d i below read follows is found_is rest_is =
    let all = counted_file ms decls in
    let left = drop (i + 1) decls in
    let so_far : BracketsFollow ms decls found rest (d ∷ left) =
    subst (BracketsFollow ms decls found rest) (left_is decls i d below read) follows in
    subst (λ l. BracketsFollow ms decls found' l left) (sym rest_is) (record {
      are = λ more h.
          subst (λ l. AreFileBrackets l all) (sym (ap (λ l. l ++ more) found_is ∙ append_assoc found (brackets ∷ []) more))
          (so_far.are (brackets ∷ more)
          (AreFileBrackets-cons more (counted_file (drop (decl_count d) rest) left) brackets (counted_positions rest d) is h));
    })

pub BracketsFollow-end :
    (ms : List ℕ) (decls : List Decl) (found : List (List TypeBrackets)) (rest : List ℕ) (i : ℕ)
    → length decls ≤ i → BracketsFollow ms decls found rest (drop i decls)
    → AreFileBrackets found (counted_file ms decls)
BracketsFollow-end ms decls found rest i past follows =
    let so_far : BracketsFollow ms decls found rest [] =
    subst (BracketsFollow ms decls found rest) (drop_all i decls past) follows in
    subst (λ l. AreFileBrackets l (counted_file ms decls)) (append-nil found) (so_far.are [] AreFileBrackets-none)

-- ---- a text whose syntax tree is known

module _ (lexemes : List Lexeme) (decls : List Decl) (positions : List ℕ) (tree : FileTree)
    (encoded : file_kinds tree ≡ kinds_of lexemes) (stand : decls ≡ declarations_of tree)
    (marked : positions ≡ marks 0 false (kinds_of lexemes)) where
  file_is : counted_file positions decls ≡ file_positions tree
  file_is =
      ap (λ ms. counted_file ms decls) (marked ∙ ap (marks 0 false) (sym encoded))
      ∙ ap (λ ds. counted_file (marks 0 false (file_kinds tree)) ds) stand
      ∙ files_are_counted.counted tree

  pub file_text :
      (names : List Placed) (sites : List Site) → AreSites decls names sites (counted_file positions decls)
      → AreSites decls names sites (file_positions tree)
  file_text names sites are = subst (AreSites decls names sites) file_is are

  pub file_text_brackets :
      (found : List (List TypeBrackets)) → AreFileBrackets found (counted_file positions decls)
      → AreFileBrackets found (file_positions tree)
  file_text_brackets found are = subst (AreFileBrackets found) file_is are

module _ (lexemes : List Lexeme) (t : Ty) (positions : List ℕ) (tree : Texpr) (encoded : texpr tree ≡ kinds_of lexemes)
    (stands : t ≡ type_of_texpr tree) (marked : positions ≡ marks 0 false (kinds_of lexemes)) where
  type_is : in_type positions false t ≡ in_texpr 0 false tree
  type_is =
      ap (λ ms. in_type ms false t) (marked ∙ ap (marks 0 false) (sym encoded))
      ∙ ap (λ u. in_type (marks 0 false (texpr tree)) false u) stands
      ∙ types_are_counted 0 false tree

  pub type_text :
      (site : TypeSite) → IsTypeSite site (in_type positions false t) → IsTypeSite site (in_texpr 0 false tree)
  type_text site is = subst (IsTypeSite site) type_is is

  pub type_text_brackets :
      (found : List TypeBrackets) → AreBrackets found (in_type positions false t)
      → AreBrackets found (in_texpr 0 false tree)
  type_text_brackets found are = subst (AreBrackets found) type_is are
