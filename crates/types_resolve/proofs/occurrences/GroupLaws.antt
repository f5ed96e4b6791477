-- Counting the marks gives the occurrences of files, group by group.
use Rattle.std.proofs.Common.{ℕ, suc, ◌+◌, ◌≡◌, ◌∙◌, Bool, true, false, List, [], ◌∷◌, ◌++◌, length, drop}
use Rattle.std.proofs.Common.{refl, sym, ap, arith, append_assoc, length-append}
use Rattle.std.specs.Prelude.{map}
use Rattle.std.proofs.lemmas.List.{drop_at, append-nil, map-append, drop-drop, length-map}
use Rattle.types_lex.specs.declared.lexeme.LexemeKind.TheVariants as kinds
use Rattle.types_lex.specs.declared.lexeme.Keyword.TheVariants as keywords
use Rattle.types_lex.specs.declared.lexeme.Symbol.TheVariants as symbols
use Rattle.types_parse.specs.grammar.Grammar.{each_after, word, mark_if, DeclTree, GroupTree, FileTree, decl_kinds}
use Rattle.types_parse.specs.grammar.Grammar.{group_kinds, file_kinds}
use Rattle.types_spec.specs.declared.types.decl.Decl.{Decl}
use Rattle.types_spec.specs.types.Occurrence.{DeclPositions}
use Rattle.types_spec.specs.types.Scope.{decls_of}
use Rattle.types_parse.specs.parse.WrittenTrees.{declaration_of_tree, declarations_after}
use Rattle.types_resolve.specs.occurrences.Counted.{after, marks}
use Rattle.types_resolve.specs.occurrences.CountedFile.{along, count_all, decl_count, counted_positions, counted_file}
use Rattle.types_resolve.specs.occurrences.InFile.{spread, decl_positions, decl_size, group_positions, positions_after}
use Rattle.types_resolve.specs.occurrences.Laws.{FilesAreCounted}
use Rattle.types_resolve.proofs.occurrences.OccurrenceStandLemmas.{IsSilent, after_append, marks_append, marks_before}
use Rattle.types_resolve.proofs.occurrences.FileLaws.{IsCounted, row_counted, row_seen, row_closed}
use Rattle.types_resolve.proofs.occurrences.DeclLaws.{decl_closed, decl_counted, decl_seen}

an_and : IsSilent (word keywords.And)
an_and j fresh = refl

semicolons_if : (ended : Bool) → IsSilent (mark_if ended symbols.DoubleSemicolon)
semicolons_if true j fresh = refl
semicolons_if false j fresh = refl

behind_semicolons : (ended : Bool) → after false (mark_if ended symbols.DoubleSemicolon) ≡ false
behind_semicolons true = refl
behind_semicolons false = refl

abbrev position_of : List ℕ → Decl → List DeclPositions
position_of ms d = counted_positions ms d ∷ []

abbrev positions_at : ℕ → ℕ → DeclTree → List DeclPositions
positions_at group j d = decl_positions group j d ∷ []

decls_counted :
    (group : ℕ) → IsCounted decl_kinds (declaration_of_tree group) decl_count position_of (positions_at group)
decls_counted group = record {
  closed = decl_closed;
  counted = decl_counted group;
  seen = λ k d rest. ap (λ p. p ∷ []) (decl_seen group k d rest);
}

-- ---- groups

group_marks :
    (k : ℕ) (g : GroupTree) → marks k false (group_kinds g)
    ≡ marks (k + 1) false (decl_kinds g.first ++ each_after (word keywords.And) decl_kinds g.more)
group_marks k g =
    let row = decl_kinds g.first ++ each_after (word keywords.And) decl_kinds g.more in
    let one : suc k ≡ k + 1 = omega arith in
    marks_before k false (word keywords.Type ++ row) (mark_if g.ended symbols.DoubleSemicolon) (semicolons_if g.ended)
    ∙ ap (λ n. marks n false row) one

group_closed : (g : GroupTree) → after false (group_kinds g) ≡ false
group_closed g =
    let row = decl_kinds g.first ++ each_after (word keywords.And) decl_kinds g.more in
    after_append false (word keywords.Type ++ row) (mark_if g.ended symbols.DoubleSemicolon)
    ∙ ap (λ f. after f (mark_if g.ended symbols.DoubleSemicolon))
    (row_closed decl_kinds (declaration_of_tree 0) decl_count position_of (positions_at 0) (decls_counted 0)
    (kinds.Keyword keywords.And) an_and (λ j x. refl) g.first g.more false)
    ∙ behind_semicolons g.ended

abbrev group_decls : ℕ → GroupTree → List Decl
group_decls group g = map (declaration_of_tree group) (g.first ∷ g.more)

group_counted :
    (group k : ℕ) (g : GroupTree)
    → length (marks k false (group_kinds g)) ≡ count_all decl_count (group_decls group g)
group_counted group k g = ap length (group_marks k g)
    ∙ row_counted decl_kinds (declaration_of_tree group) decl_count position_of (positions_at group)
    (decls_counted group) (kinds.Keyword keywords.And) an_and (λ j x. refl) (k + 1) g.first g.more

group_seen :
    (group k : ℕ) (g : GroupTree) (rest : List ℕ)
    → along decl_count position_of (marks k false (group_kinds g) ++ rest) (group_decls group g)
    ≡ (group_positions group k g)
group_seen group k g rest =
    ap (λ ms. along decl_count position_of (ms ++ rest) (group_decls group g)) (group_marks k g)
    ∙ row_seen decl_kinds (declaration_of_tree group) decl_count position_of (positions_at group)
    (decls_counted group) (kinds.Keyword keywords.And) an_and (λ j x. refl) (k + 1) g.first g.more rest

-- ---- files

along_append :
    {X Y : Type 0} (count : X → ℕ) (of : List ℕ → X → List Y) (ms : List ℕ) (xs ys : List X)
    → along count of ms (xs ++ ys)
    ≡ along count of ms xs ++ along count of (drop (count_all count xs) ms) ys
along_append count of ms [] ys = refl
along_append count of ms (x ∷ xs) ys =
    ap (λ l. of ms x ++ l) (along_append count of (drop (count x) ms) xs ys)
    ∙ ap (λ l. of ms x ++ (along count of (drop (count x) ms) xs ++ along count of l ys))
    (drop-drop (count_all count xs) (count x) ms)
    ∙ sym (append_assoc (of ms x) (along count of (drop (count x) ms) xs)
    (along count of (drop (count x + count_all count xs) ms) ys))

-- The declarations of groups, if `n` declarations precede the groups.
abbrev decls_after : ℕ → FileTree → List Decl
decls_after n [] = []
decls_after n (g ∷ groups) = group_decls n g ++ decls_after (n + length (g.first ∷ g.more)) groups

decls_are :
    (before : List Decl) (groups : FileTree)
    → declarations_after before groups ≡ before ++ decls_after (length before) groups
decls_are before [] = sym (append-nil before)
decls_are before (g ∷ groups) =
    let n = length before in
    let new = group_decls n g in
    let e : length (before ++ new) ≡ n + length (g.first ∷ g.more) =
    length-append before new ∙ ap (λ m. n + m) (length-map (g.first ∷ g.more) (declaration_of_tree n)) in
    decls_are (before ++ new) groups
    ∙ ap (λ m. (before ++ new) ++ decls_after m groups) e
    ∙ append_assoc before new (decls_after (n + length (g.first ∷ g.more)) groups)

file_seen :
    (n k : ℕ) (groups : FileTree) (rest : List ℕ)
    → along decl_count position_of (marks k false (file_kinds groups) ++ rest) (decls_after n groups)
    ≡ (positions_after n k groups)
file_seen n k [] rest = refl
file_seen n k (g ∷ groups) rest =
    let m = n + length (g.first ∷ g.more) in
    let j = k + length (group_kinds g) in
    let more = marks j false (file_kinds groups) ++ rest in
    let ms = marks k false (group_kinds g) ++ more in
    ap (λ l. along decl_count position_of (l ++ rest) (decls_after n (g ∷ groups)))
    (marks_append k false (group_kinds g) (file_kinds groups)
    ∙ ap (λ f. marks k false (group_kinds g) ++ marks j f (file_kinds groups)) (group_closed g))
    ∙ ap (λ l. along decl_count position_of l (decls_after n (g ∷ groups)))
    (append_assoc (marks k false (group_kinds g)) (marks j false (file_kinds groups)) rest)
    ∙ along_append decl_count position_of ms (group_decls n g) (decls_after m groups)
    ∙ ap (λ l. l ++ along decl_count position_of (drop (count_all decl_count (group_decls n g)) ms) (decls_after m groups))
    (group_seen n k g more)
    ∙ ap (λ l. (group_positions n k g) ++ along decl_count position_of l (decls_after m groups))
    (drop_at (marks k false (group_kinds g)) more (count_all decl_count (group_decls n g)) (group_counted n k g))
    ∙ ap (λ l. (group_positions n k g) ++ l) (file_seen m j groups rest)

-- ---- the declarations themselves

spread_decls :
    (group k : ℕ) (ds : List DeclTree)
    → decls_of (spread decl_size (positions_at group) k ds) ≡ map (declaration_of_tree group) ds
spread_decls group k [] = refl
spread_decls group k (d ∷ ds) =
    ap (λ l. declaration_of_tree group d ∷ l) (spread_decls group (k + 1 + decl_size d) ds)

positions_decls : (n k : ℕ) (groups : FileTree) → decls_of (positions_after n k groups) ≡ decls_after n groups
positions_decls n k [] = refl
positions_decls n k (g ∷ groups) =
    let m = n + length (g.first ∷ g.more) in
    let j = k + length (group_kinds g) in
    map-append (λ (d : DeclPositions). d.decl) (group_positions n k g) (positions_after m j groups)
    ∙ ap (λ l. (declaration_of_tree n g.first ∷ l) ++ decls_of (positions_after m j groups))
    (spread_decls n (k + 1 + decl_size g.first) g.more)
    ∙ ap (λ l. group_decls n g ++ l) (positions_decls m j groups)

pub files_are_counted : FilesAreCounted
files_are_counted = record {
  declared = λ tree. positions_decls 0 0 tree ∙ sym (decls_are [] tree);
  counted = λ tree.
      ap (λ ds. counted_file (marks 0 false (file_kinds tree)) ds) (decls_are [] tree)
      ∙ ap (λ ms. along decl_count position_of ms (decls_after 0 tree)) (sym (append-nil (marks 0 false (file_kinds tree))))
      ∙ file_seen 0 0 tree [];
}
