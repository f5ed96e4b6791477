-- Declarations and types that are read from a text have names that are lexemes.
use Rattle.std.proofs.Common.{◌≡◌, ◌≢◌, ℕ, suc, ◌+◌, ◌≤◌, inl, inr, false, List, [], ◌∷◌, ◌++◌, length, Some, refl, sym, ap, subst, ◌∙◌, arith}
use Rattle.std.specs.Prelude.{slice_get, map}
use Rattle.std.specs.List.{AllByRecursion}
use Rattle.types_lex.specs.declared.lexeme.Lexeme.{Lexeme}
use Rattle.types_lex.specs.declared.lexeme.LexemeKind.{LexemeKind}
use Rattle.types_lex.specs.declared.lexeme.LexemeKind.TheVariants as kinds
use Rattle.types_lex.specs.declared.lexeme.Keyword.TheVariants as keywords
use Rattle.types_lex.specs.declared.lexeme.Symbol.TheVariants as symbols
use Rattle.types_lex.specs.Lexeme.{LexemeForm, Reserved, Lower, Upper, Tag, Variable, Character, Number, Quoted, Double, Mark, form_kind, IsForm}
use Rattle.types_lex.specs.LexText.{TextPart, Separator, Comment, Word, AreParts, Lexes}
use Rattle.types_spec.specs.declared.types.decl.Constructor.{Constructor}
use Rattle.types_spec.specs.declared.types.decl.Decl.{Decl}
use Rattle.types_spec.specs.types.Occurrence.{Placed, DeclPositions}
use Rattle.types_spec.specs.types.Scope.{IsSecond, KeepsAll, BreaksInFile, BreaksInType, twice}
use Rattle.types_spec.specs.types.Ty.{Ty, bracket}
use Rattle.types_parse.specs.grammar.Grammar.{Name, Kinds, mark, lower, Texpr, single, starred, App, simple, Simple, grouped, Texprs, first, further, Items, one, ItemTree, included, texpr, app, simple_kinds, texprs, items, item, FieldTree, RecordTree, ArgumentsTree, no_arguments, inline, listed, ConstrTree, BodyTree, record_body, variant_body, type_body, DeclTree, GroupTree, FileTree, field_kinds, record_kinds, arguments_kinds, constr_kinds, body_kinds, decl_kinds, group_kinds, file_kinds, each_after, mark_if, word_if, word, params_kinds}
use Rattle.types_parse.specs.grammar.Grammar as trees
use Rattle.types_parse.specs.parse.WrittenTrees.{type_of_texpr, tuple_of, type_of_app, type_of_simple, applied_to, type_of_items, with_item, field_of_tree, fields_of_tree, arguments_of_tree, constructor_of_tree, body_of_tree, declaration_of_tree, with_group, declarations_after, declarations_of}
use Rattle.types_resolve.specs.occurrences.InFile.{spread, in_constrs, constr_name, constr_size, decl_size, decl_positions, group_positions, positions_after, file_positions}
use Rattle.types_resolve.specs.occurrences.InText.{in_texpr}
use Rattle.types_parse.specs.grammar.Depths.{texpr_ends, file_ends}
use Rattle.types_parse.specs.grammar.Refusals.{TextReading, text_read, syntax_at, too_deep_at, IsReading}
use Rattle.types_parse.specs.grammar.LexemeKinds.{kinds_of}
use Rattle.types_wellformed.specs.declarations.DeclarationAnswer.{accepted, IsRead, IsLexed}
use Rattle.types_wellformed.specs.declarations.Read.{IsDeclared, IsTypeOf}
use Rattle.types_lex.specs.declared.lexeme.LexFault.{LexFault}
use Rattle.types_lex.specs.LexText.{Outcome}
use Rattle.base_data.proofs.model.Options.{slice_get-Contains}
use Rattle.std.proofs.lemmas.List.{length-map}
use Rattle.std.proofs.Common.{length-append, Result, Ok, Err}
use Rattle.base_data.proofs.model.Lists.{AllByRecursion-append}
use Rattle.text_roundtrip.specs.lexed.Lexed.{kinds_in}
use Rattle.text_roundtrip.proofs.lexed.LexedLemmas.{kinds_lexemes}
use Rattle.text_roundtrip.specs.rebuild.Spoken.{IsSpoken, IsSpokenField, AreSpokenArguments, IsSpokenConstructor, AreOnce, IsSpokenBody, AreSpoken}

-- ---- the lexemes of a text are well-formed

abbrev IsFormKind : LexemeKind → Type 0
IsFormKind (kinds.Lower x) = IsForm (Lower x)
IsFormKind (kinds.Upper x) = IsForm (Upper x)
IsFormKind (kinds.Tag x) = IsForm (Tag x)
IsFormKind kind = Unit {0}

abbrev AreForms : Kinds → Type 0
AreForms all = AllByRecursion IsFormKind all

form_is : (form : LexemeForm) → IsForm form → IsFormKind (form_kind form)
form_is (Reserved k) is = tt
form_is (Lower x) is = is
form_is (Upper x) is = is
form_is (Tag x) is = is
form_is (Variable x) is = tt
form_is (Character c) is = tt
form_is (Number minus ds s) is = tt
form_is (Quoted cs) is = tt
form_is (Double ds) is = tt
form_is (Mark s) is = tt

parts_are_forms : (parts : List TextPart) (rest : List ℕ) → AreParts parts rest → AreForms (kinds_in parts)
parts_are_forms [] rest are = tt
parts_are_forms (Separator b ∷ parts) rest are = parts_are_forms parts rest are.1
parts_are_forms (Comment inside ∷ parts) rest are = parts_are_forms parts rest are.1
parts_are_forms (Word form ∷ parts) rest are = (form_is form are.0.0.written, parts_are_forms parts rest are.1)

pub lexemes_are_forms : (text : List ℕ) (lexemes : List Lexeme) → Lexes text lexemes → AreForms (map (λ (l : Lexeme). l.kind) lexemes)
lexemes_are_forms text lexemes is =
    subst (λ ls. AreForms (map (λ (l : Lexeme). l.kind) ls)) (sym is.3) (subst AreForms (sym (kinds_lexemes is.0 0)) (parts_are_forms is.0 [] is.1))

left : (xs ys : Kinds) → AreForms (xs ++ ys) → AreForms xs
left [] ys all = tt
left (x ∷ xs) ys all = (all.0, left xs ys all.1)

right : (xs ys : Kinds) → AreForms (xs ++ ys) → AreForms ys
right [] ys all = all
right (x ∷ xs) ys all = right xs ys all.1

-- ---- types

mutual
  pub texpr_spoken : (t : Texpr) → AreForms (texpr t) → IsSpoken 0 (type_of_texpr t)
  texpr_spoken (single a) all = app_spoken a all
  texpr_spoken (starred t a) all = (tuple_spoken t 1 (omega arith) (left (texpr t) (mark symbols.Star) (left (texpr t ++ mark symbols.Star) (app a) all)), app_spoken a (right (texpr t ++ mark symbols.Star) (app a) all))

  tuple_spoken : (t : Texpr) (k : ℕ) → 1 ≤ k → AreForms (texpr t) → IsSpoken k (tuple_of t)
  tuple_spoken (single a) k low all = (omega arith, app_spoken a all)
  tuple_spoken (starred t a) k low all = (tuple_spoken t (suc k) (omega arith) (left (texpr t) (mark symbols.Star) (left (texpr t ++ mark symbols.Star) (app a) all)), app_spoken a (right (texpr t ++ mark symbols.Star) (app a) all))

  app_spoken : (a : App) → AreForms (app a) → IsSpoken 0 (type_of_app a)
  app_spoken (simple s) all = simple_spoken s all
  app_spoken (trees.applied a name) all = (tt, app_spoken a (left (app a) (lower name) all))

  simple_spoken : (s : Simple) → AreForms (simple_kinds s) → IsSpoken 0 (type_of_simple s)
  simple_spoken (trees.variable name) all = refl
  simple_spoken (trees.named name) all = tt
  simple_spoken (grouped t) all = texpr_spoken t (right (mark symbols.OpenParen) (texpr t) (left (mark symbols.OpenParen ++ texpr t) (mark symbols.CloseParen) all))
  simple_spoken (trees.arguments ts t name) all =
      let prefix = left (mark symbols.OpenParen ++ texprs ts ++ mark symbols.Comma ++ texpr t) (mark symbols.CloseParen) (left (mark symbols.OpenParen ++ texprs ts ++ mark symbols.Comma ++ texpr t ++ mark symbols.CloseParen) (lower name) all) in
      let first_ones = left (mark symbols.OpenParen ++ texprs ts) (mark symbols.Comma) (left (mark symbols.OpenParen ++ texprs ts ++ mark symbols.Comma) (texpr t) prefix) in
      (applied_spoken name ts 1 (right (mark symbols.OpenParen) (texprs ts) first_ones), texpr_spoken t (right (mark symbols.OpenParen ++ texprs ts ++ mark symbols.Comma) (texpr t) prefix))
  simple_spoken (trees.bracket bar all) forms =
      items_spoken all (right (mark symbols.OpenBracket ++ trees.bar_if bar) (items all) (left (mark symbols.OpenBracket ++ trees.bar_if bar ++ items all) (mark symbols.CloseBracket) forms))

  applied_spoken : (name : Name) (ts : Texprs) (k : ℕ) → AreForms (texprs ts) → IsSpoken k (applied_to name ts)
  applied_spoken name (first t) k all = (tt, texpr_spoken t all)
  applied_spoken name (further ts t) k all = (applied_spoken name ts (suc k) (left (texprs ts) (mark symbols.Comma) (left (texprs ts ++ mark symbols.Comma) (texpr t) all)), texpr_spoken t (right (texprs ts ++ mark symbols.Comma) (texpr t) all))

  items_spoken : (all : Items) → AreForms (items all) → IsSpoken 0 (type_of_items all)
  items_spoken (one i) forms = item_spoken bracket i tt forms
  items_spoken (trees.more all i) forms = item_spoken (type_of_items all) i (items_spoken all (left (items all) (mark symbols.Bar) (left (items all ++ mark symbols.Bar) (item i) forms))) (right (items all ++ mark symbols.Bar) (item i) forms)

  item_spoken : (whole : Ty) (i : ItemTree) → IsSpoken 0 whole → AreForms (item i) → IsSpoken 0 (with_item whole i)
  item_spoken whole (trees.tag name) is forms = (is, forms.0)
  item_spoken whole (trees.tag_of name t) is forms = (is, forms.0, texpr_spoken t forms.1.1)
  item_spoken whole (included a) is forms = (is, app_spoken a forms)

-- ---- lists

each_spoken : {X Y : Type 0} (before : Kinds) (encoded : X → Kinds) (of : X → Y) (P : Y → Type 0) → ((x : X) → AreForms (encoded x) → P (of x)) → (xs : List X) → AreForms (each_after before encoded xs) → AllByRecursion P (map of xs)
each_spoken before encoded of P each [] all = tt
each_spoken before encoded of P each (x ∷ xs) all =
    (each x (right before (encoded x) (left (before ++ encoded x) (each_after before encoded xs) all)), each_spoken before encoded of P each xs (right (before ++ encoded x) (each_after before encoded xs) all))

field_spoken : (f : FieldTree) → AreForms (field_kinds f) → IsSpokenField (field_of_tree f)
field_spoken f all =
    let named = left (word_if f.mutable keywords.Mutable ++ lower f.name) (mark symbols.Colon) (left (word_if f.mutable keywords.Mutable ++ lower f.name ++ mark symbols.Colon) (texpr f.type) all) in
    ((right (word_if f.mutable keywords.Mutable) (lower f.name) named).0, texpr_spoken f.type (right (word_if f.mutable keywords.Mutable ++ lower f.name ++ mark symbols.Colon) (texpr f.type) all))

record_spoken : (r : RecordTree) → AreForms (record_kinds r) → AllByRecursion IsSpokenField (fields_of_tree r)
record_spoken r all =
    let open_kinds = mark symbols.OpenBrace in
    let more_kinds = each_after (mark symbols.Semicolon) field_kinds r.more in
    let both = left (open_kinds ++ field_kinds r.first ++ more_kinds) (mark_if r.closed symbols.Semicolon) (left (open_kinds ++ field_kinds r.first ++ more_kinds ++ mark_if r.closed symbols.Semicolon) (mark symbols.CloseBrace) all) in (
      field_spoken r.first (right open_kinds (field_kinds r.first) (left (open_kinds ++ field_kinds r.first) more_kinds both)),
      each_spoken (mark symbols.Semicolon) field_kinds field_of_tree IsSpokenField field_spoken r.more (right (open_kinds ++ field_kinds r.first) more_kinds both),
    )

arguments_spoken : (a : ArgumentsTree) → AreForms (arguments_kinds a) → AreSpokenArguments (arguments_of_tree a)
arguments_spoken no_arguments all = tt
arguments_spoken (inline r) all = record_spoken r (right (word keywords.Of) (record_kinds r) all)
arguments_spoken (listed a others) all =
    let prefix = word keywords.Of ++ app a in
    let rest = each_after (mark symbols.Star) app others in
    (app_spoken a (right (word keywords.Of) (app a) (left prefix rest all)), each_spoken (mark symbols.Star) app type_of_app (IsSpoken 0) app_spoken others (right prefix rest all))

constr_spoken : (c : ConstrTree) → AreForms (constr_kinds c) → IsSpokenConstructor (constructor_of_tree c)
constr_spoken c all = (all.0, arguments_spoken c.arguments all.1)

-- ---- no constructor occurs twice

get_one : {X : Type 0} (P : X → Type 0) (xs : List X) → ((i : ℕ) (x : X) → slice_get xs i ≡ Some x → P x) → AllByRecursion P xs
get_one P [] each = tt
get_one P (x ∷ xs) each = (each 0 x refl, get_one P xs (λ i y e. each (suc i) y e))

placed_once : (ps : List Placed) → ((k : ℕ) → ¬ IsSecond ps k) → AreOnce (λ (p : Placed). p.1) ps
placed_once [] free = tt
placed_once (p ∷ ps) free = (
  get_one (λ (q : Placed). q.1 ≢ p.1) ps (λ i q at same. free q.0 (record {
    earlier = 0;
    later = suc i;
    position = p.0;
    name = p.1;
    before = omega arith;
    first = refl;
    second = at ∙ ap (λ n. Some (q.0, n)) same;
  })),
  placed_once ps (λ k second. free k (record {
    earlier = suc second.earlier;
    later = suc second.later;
    position = second.position;
    name = second.name;
    before = let h = second.before in omega arith;
    first = second.first;
    second = second.second;
  })),
)

names_apart : {X : Type 0} (key : X → List ℕ) (k : List ℕ) (names : List (List ℕ)) (xs : List X) → names ≡ map key xs → AllByRecursion (λ n. n ≢ k) names → AllByRecursion (λ x. key x ≢ k) xs
names_apart key k [] [] e all = tt
names_apart key k [] (x ∷ xs) e all = absurd cc
names_apart key k (n ∷ ns) [] e all = absurd cc
names_apart key k (n ∷ ns) (x ∷ xs) e all =
    let here : n ≡ key x = cc in
    let there : ns ≡ map key xs = cc in
    (λ same. all.0 (here ∙ same), names_apart key k ns xs there all.1)

once_mapped : {X : Type 0} (key : X → List ℕ) (ps : List Placed) (xs : List X) → map (λ (p : Placed). p.1) ps ≡ map key xs → AreOnce (λ (p : Placed). p.1) ps → AreOnce key xs
once_mapped key [] [] e once = tt
once_mapped key [] (x ∷ xs) e once = absurd cc
once_mapped key (p ∷ ps) [] e once = absurd cc
once_mapped key (p ∷ ps) (x ∷ xs) e once =
    let here : p.1 ≡ key x = cc in
    let there : map (λ (p : Placed). p.1) ps ≡ map key xs = cc in
    (subst (λ k. AllByRecursion (λ x. key x ≢ k) xs) here (names_apart key p.1 (map (λ (p : Placed). p.1) ps) xs there (mapped_apart ps once.0)), once_mapped key ps xs there once.1)
  where
    mapped_apart : (qs : List Placed) → AllByRecursion (λ (q : Placed). q.1 ≢ p.1) qs → AllByRecursion (λ n. n ≢ p.1) (map (λ (p : Placed). p.1) qs)
    mapped_apart [] all = tt
    mapped_apart (q ∷ qs) all = (all.0, mapped_apart qs all.1)

spread_names : (k : ℕ) (cs : List ConstrTree) → map (λ (p : Placed). p.1) (spread constr_size constr_name k cs) ≡ map (λ (c : Constructor). c.name) (map constructor_of_tree cs)
spread_names k [] = refl
spread_names k (c ∷ cs) = ap (λ t. c.name ∷ t) (spread_names (k + 1 + constr_size c) cs)

-- ---- bodies

body_spoken : (k : ℕ) (b : BodyTree) → AreForms (body_kinds b) → ((j : ℕ) → ¬ IsSecond (in_constrs constr_name k b) j) → IsSpokenBody (body_of_tree b)
body_spoken k (record_body r) all free = (omega arith, record_spoken r all)
body_spoken k (type_body t) all free = texpr_spoken t all
body_spoken k (variant_body bar c cs) all free =
    let prefix = mark_if bar symbols.Bar in
    let rest = each_after (mark symbols.Bar) constr_kinds cs in
    let at = k + length prefix in (
      once_mapped (λ (c : Constructor). c.name) (in_constrs constr_name k (variant_body bar c cs)) (map constructor_of_tree (c ∷ cs)) (ap (λ t. c.name ∷ t) (spread_names (at + constr_size c) cs)) (placed_once (in_constrs constr_name k (variant_body bar c cs)) free),
      (constr_spoken c (right prefix (constr_kinds c) (left (prefix ++ constr_kinds c) rest all)), each_spoken (mark symbols.Bar) constr_kinds constructor_of_tree IsSpokenConstructor constr_spoken cs (right (prefix ++ constr_kinds c) rest all)),
    )

-- ---- files

-- No constructor of the declaration is written twice.
abbrev IsFree : DeclPositions → Type 0
IsFree d = (j : ℕ) → ¬ IsSecond d.constructors j

abbrev IsSpokenDecl : Decl → Type 0
IsSpokenDecl d = IsSpokenBody d.body

decl_spoken : (group k : ℕ) (d : DeclTree) → AreForms (decl_kinds d) → IsFree (decl_positions group k d) → IsSpokenDecl (declaration_of_tree group d)
decl_spoken group k d all free = body_spoken _ d.body (right (params_kinds d.params ++ lower d.name ++ mark symbols.Equals) (body_kinds d.body) all) free

more_spoken : (group k : ℕ) (ds : List DeclTree) → AreForms (each_after (word keywords.And) decl_kinds ds) → AllByRecursion IsFree (spread decl_size (λ j d. decl_positions group j d ∷ []) k ds)
    → AllByRecursion IsSpokenDecl (map (declaration_of_tree group) ds)
more_spoken group k [] all free = tt
more_spoken group k (d ∷ ds) all free = (
  decl_spoken group (k + 1) d (right (word keywords.And) (decl_kinds d) (left (word keywords.And ++ decl_kinds d) (each_after (word keywords.And) decl_kinds ds) all)) free.0,
  more_spoken group (k + 1 + decl_size d) ds (right (word keywords.And ++ decl_kinds d) (each_after (word keywords.And) decl_kinds ds) all) free.1,
)

group_spoken : (group k : ℕ) (g : GroupTree) → AreForms (group_kinds g) → AllByRecursion IsFree (group_positions group k g) → AllByRecursion IsSpokenDecl (map (declaration_of_tree group) (g.first ∷ g.more))
group_spoken group k g all free =
    let rest = each_after (word keywords.And) decl_kinds g.more in
    let both = left (word keywords.Type ++ decl_kinds g.first ++ rest) (mark_if g.ended symbols.DoubleSemicolon) all in (
      decl_spoken group (k + 1) g.first (right (word keywords.Type) (decl_kinds g.first) (left (word keywords.Type ++ decl_kinds g.first) rest both)) free.0,
      more_spoken group (k + 1 + decl_size g.first) g.more (right (word keywords.Type ++ decl_kinds g.first) rest both) free.1,
    )

first_all : {X : Type 0} (P : X → Type 0) (xs ys : List X) → AllByRecursion P (xs ++ ys) → AllByRecursion P xs
first_all P [] ys h = tt
first_all P (x ∷ xs) ys h = (h.0, first_all P xs ys h.1)

last_all : {X : Type 0} (P : X → Type 0) (xs ys : List X) → AllByRecursion P (xs ++ ys) → AllByRecursion P ys
last_all P [] ys h = h
last_all P (x ∷ xs) ys h = last_all P xs ys h.1

after_spoken : (groups : FileTree) (before : List Decl) (k : ℕ) → AllByRecursion IsSpokenDecl before → AreForms (file_kinds groups) → AllByRecursion IsFree (positions_after (length before) k groups)
    → AllByRecursion IsSpokenDecl (declarations_after before groups)
after_spoken [] before k spoken all free = spoken
after_spoken (g ∷ groups) before k spoken all free =
    let own = group_positions (length before) k g in
    let others = positions_after (length before + length (g.first ∷ g.more)) (k + length (group_kinds g)) groups in
    let here = group_spoken (length before) k g (left (group_kinds g) (file_kinds groups) all) (first_all IsFree own others free) in
    let long : length before + length (g.first ∷ g.more) ≡ length (with_group before g) =
    sym (length-append before (map (declaration_of_tree (length before)) (g.first ∷ g.more)) ∙ ap (λ n. length before + n) (length-map (g.first ∷ g.more) (declaration_of_tree (length before)))) in
    after_spoken groups (with_group before g) (k + length (group_kinds g)) (AllByRecursion-append IsSpokenDecl before (map (declaration_of_tree (length before)) (g.first ∷ g.more)) spoken here)
    (right (group_kinds g) (file_kinds groups) all)
    (subst (λ n. AllByRecursion IsFree (positions_after n (k + length (group_kinds g)) groups)) long (last_all IsFree own others free))

pub file_spoken : (tree : FileTree) → AreForms (file_kinds tree) → KeepsAll (BreaksInFile (file_positions tree)) → AreSpoken (declarations_of tree)
file_spoken tree all keeps =
    after_spoken tree [] 0 tt all
    (get_one IsFree (file_positions tree) (λ i d at j second. keeps twice j (inr (d, slice_get-Contains (file_positions tree) i d at, inr (inl second)))))

-- ---- accepted texts

pub declared_spoken : (text : List ℕ) (decls : List Decl) → IsDeclared text decls → AreSpoken decls
declared_spoken text decls is = subst AreSpoken (sym is.stand) (by_outcome is.answer.0 is.answer.1 is.answer.2)
  where
    by_reading : (lexemes : List Lexeme) → Lexes text lexemes → (reading : TextReading FileTree) → IsReading file_kinds file_ends (kinds_of lexemes) reading
        → IsRead file_kinds file_ends (λ tree. BreaksInFile (file_positions tree)) lexemes (length text) reading (accepted is.tree) → AreSpoken (declarations_of is.tree)
    by_reading lexemes lexes (text_read tree) reads judged =
        let same : file_kinds is.tree ≡ kinds_of lexemes = ap file_kinds (sym judged.0) ∙ reads.encodes in
        file_spoken is.tree (subst AreForms (sym same) (lexemes_are_forms text lexemes lexes)) (subst (λ t. KeepsAll (BreaksInFile (file_positions t))) judged.0 judged.1)
    by_reading lexemes lexes (syntax_at k) reads judged = absurd cc
    by_reading lexemes lexes (too_deep_at k) reads judged = absurd cc

    by_outcome : (outcome : Result (List Lexeme) LexFault) → Outcome text outcome → IsLexed file_kinds file_ends (λ tree. BreaksInFile (file_positions tree)) (length text) outcome (accepted is.tree) → AreSpoken (declarations_of is.tree)
    by_outcome (Ok lexemes) lexes lexed = by_reading lexemes lexes lexed.0 lexed.1 lexed.2
    by_outcome (Err fault) lexes lexed = absurd cc

pub type_spoken : (decls : List Decl) (text : List ℕ) (t : Ty) → IsTypeOf decls text t → IsSpoken 0 t
type_spoken decls text t is = subst (IsSpoken 0) (sym is.stands) (by_outcome is.answer.0 is.answer.1 is.answer.2)
  where
    by_reading : (lexemes : List Lexeme) → Lexes text lexemes → (reading : TextReading Texpr) → IsReading texpr texpr_ends (kinds_of lexemes) reading
        → IsRead texpr texpr_ends (λ tree. BreaksInType decls (in_texpr 0 false tree)) lexemes (length text) reading (accepted is.tree) → IsSpoken 0 (type_of_texpr is.tree)
    by_reading lexemes lexes (text_read tree) reads judged =
        let same : texpr is.tree ≡ kinds_of lexemes = ap texpr (sym judged.0) ∙ reads.encodes in
        texpr_spoken is.tree (subst AreForms (sym same) (lexemes_are_forms text lexemes lexes))
    by_reading lexemes lexes (syntax_at k) reads judged = absurd cc
    by_reading lexemes lexes (too_deep_at k) reads judged = absurd cc

    by_outcome : (outcome : Result (List Lexeme) LexFault) → Outcome text outcome → IsLexed texpr texpr_ends (λ tree. BreaksInType decls (in_texpr 0 false tree)) (length text) outcome (accepted is.tree) → IsSpoken 0 (type_of_texpr is.tree)
    by_outcome (Ok lexemes) lexes lexed = by_reading lexemes lexes lexed.0 lexed.1 lexed.2
    by_outcome (Err fault) lexes lexed = absurd cc
