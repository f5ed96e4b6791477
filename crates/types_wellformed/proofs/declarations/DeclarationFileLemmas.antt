-- The tree of a text determines the occurrences in its declarations. If no scope rule is broken,
-- then the declarations are well-formed.
use Rattle.std.proofs.Common.{ℕ, ◌≡◌, ◌≤◌, ◌+◌, ◌∙◌, ⊎_elim, false, List, [], ◌∷◌, ◌++◌, length, Some, refl, sym, ap, subst, arith}
use Rattle.std.specs.Prelude.{Contains, map}
use Rattle.std.proofs.lemmas.Option.{none-some, same_Some}
use Rattle.std.proofs.lemmas.List.Elements.{Contains-append_left, Contains-append_right, Contains-append_cases}
use Rattle.base_data.proofs.model.Options.{Contains-first, Contains-later, Contains-none, Contains-cases, Contains-flat_map, map-Contains, flat_map-Contains}
use Rattle.types_lex.specs.declared.lexeme.Keyword.TheVariants as keywords
use Rattle.types_lex.specs.declared.lexeme.Symbol.TheVariants as symbols
use Rattle.types_parse.specs.grammar.Grammar.{Kinds, Texpr, App, single, app, FieldTree, RecordTree, ArgumentsTree, ConstrTree, BodyTree, record_body, variant_body, type_body, DeclTree, GroupTree, FileTree, mark, mark_if, word, word_if, lower, params_kinds, group_kinds, file_kinds}
use Rattle.types_parse.specs.grammar.Grammar as trees
use Rattle.types_parse.specs.grammar.Depths.{texpr_ends, app_ends, silent, each_ends, field_ends, record_ends, arguments_ends, constr_ends, body_ends, decl_ends, group_ends, file_ends}
use Rattle.types_parse.specs.grammar.Refusals.{IsText}
use Rattle.types_parse.proofs.grammar.FileStand.{file_even}
use Rattle.types_spec.specs.declared.types.decl.Field.{Field}
use Rattle.types_spec.specs.declared.types.decl.Constructor.{Constructor}
use Rattle.types_spec.specs.types.WellFormed.{types_of_arguments, types_of_body, names_outside, AreSound, AreWellFormed}
use Rattle.types_spec.specs.types.Declarations.{abbreviated}
use Rattle.types_spec.specs.types.Occurrence.{Occurrence, DeclPositions, use_of}
use Rattle.types_spec.specs.types.Scope.{BreaksInFile, KeepsAll, twice, unknown_name, cyclic}
use Rattle.types_resolve.specs.scope.First.{KeepsBefore}
use Rattle.types_spec.specs.types.Shape.{types_of_fields}
use Rattle.types_spec.specs.types.Ty.{Ty}
use Rattle.types_parse.specs.parse.WrittenTrees.{type_of_texpr, type_of_app, field_of_tree, fields_of_tree, arguments_of_tree, constructor_of_tree, body_of_tree, declarations_of}
use Rattle.types_resolve.specs.occurrences.InText.{in_texpr, in_app}
use Rattle.types_resolve.specs.occurrences.InFile.{spread, field_size, in_fields, field_occurrences, constr_size, arguments_occurrences, constr_occurrences, body_occurrences, decl_positions, decl_size, group_positions, positions_after, file_positions}
use Rattle.types_resolve.proofs.occurrences.GroupLaws.{files_are_counted}
use Rattle.types_wellformed.specs.accepted.KnownThings.{ReportsAll}
use Rattle.types_wellformed.specs.accepted.Accepted.{IsWritten, AreKnownWhole}
use Rattle.types_wellformed.proofs.accepted.AcceptedLemmas.{sound_by_names, well_formed}
use Rattle.types_wellformed.proofs.declarations.DeclarationTypeLemmas.{types_known, types_proper}
use Rattle.types_wellformed.proofs.declarations.OutsideLemmas.{types_used, types_are_types, types_shallow}
use Rattle.types_wellformed.proofs.declarations.DepthLemmas.{types_end, text_is_shallow}

-- ---- the spot of a type

-- `t` is the type of a tree. The occurrences in the tree are among `occurrences`, and the depths of
-- the types that end in the tree are among `ends`.
record Spot (occurrences : List Occurrence) (ends : List ℕ) (t : Ty) : Type 0 where
  tree : Texpr
  position : ℕ
  same : type_of_texpr tree ≡ t
  among : (o : Occurrence) → Contains (in_texpr position false tree) o → Contains occurrences o
  ended : (n : ℕ) → Contains (texpr_ends tree) n → Contains ends n

abbrev Within : {X : Type 0} → List X → List X → Type 0
Within {X} some all = (x : X) → Contains some x → Contains all x

wider :
    {few more : List Occurrence} {short long : List ℕ} {t : Ty} → Spot few short t → Within few more → Within short long → Spot more long t
wider spot occurrences ends = record {
  tree = spot.tree;
  position = spot.position;
  same = spot.same;
  among = λ o here. occurrences o (spot.among o here);
  ended = λ n here. ends n (spot.ended n here);
}

first_part : {X : Type 0} (xs ys : List X) → Within xs (xs ++ ys)
first_part xs ys x here = Contains-append_left xs ys x here

last_part : {X : Type 0} (xs ys : List X) → Within ys (xs ++ ys)
last_part xs ys x here = Contains-append_right xs ys x here

both_parts : {X : Type 0} (xs ys all : List X) → Within xs all → Within ys all → Within (xs ++ ys) all
both_parts xs ys all one other x among = ⊎_elim (one x) (other x) (Contains-append_cases xs ys x among)

itself : {X : Type 0} (xs : List X) → Within xs xs
itself xs x here = here

-- ---- rows

spread_among :
    {X Y : Type 0} (size : X → ℕ) (of : ℕ → X → List Y) (k : ℕ) (xs : List X) (x : X) → Contains xs x
    → (j : ℕ) × Within (of j x) (spread size of k xs)
spread_among size of k [] x among = absurd (Contains-none x among)
spread_among size of k (z ∷ xs) x among = ⊎_elim
    (λ here. (
      k + 1,
      λ y there.
          Contains-append_left (of (k + 1) z) (spread size of (k + 1 + size z) xs) y (subst (λ w. Contains (of (k + 1) w) y) (sym here) there),
    ))
    (λ later.
    let r = spread_among size of (k + 1 + size z) xs x later in
    (r.0, λ y there. Contains-append_right (of (k + 1) z) (spread size of (k + 1 + size z) xs) y (r.1 y there)))
    (Contains-cases z xs x among)

spread_origin :
    {X Y : Type 0} (size : X → ℕ) (of : ℕ → X → List Y) (k : ℕ) (xs : List X) (y : Y) → Contains (spread size of k xs) y
    → (j : ℕ) × (x : X) × Contains xs x × Contains (of j x) y
spread_origin size of k [] y among = absurd (Contains-none y among)
spread_origin size of k (z ∷ xs) y among = ⊎_elim
    (λ here. (k + 1, z, Contains-first z xs, here))
    (λ later.
    let r = spread_origin size of (k + 1 + size z) xs y later in (r.0, r.1, Contains-later z xs r.1 r.2, r.3))
    (Contains-append_cases (of (k + 1) z) (spread size of (k + 1 + size z) xs) y among)

each_among : {X : Type 0} (between : Kinds) (ends : X → List ℕ) (xs : List X) (x : X) → Contains xs x → Within (ends x) (each_ends between ends xs)
each_among between ends xs x among n here =
    Contains-flat_map (λ y. silent between ++ ends y) xs x n among (Contains-append_right (silent between) (ends x) n here)

-- If a type has a spot in one element of a row, wherever the element begins, then the type has a
-- spot in the row.
row_spot :
    {X : Type 0} (size : X → ℕ) (of : ℕ → X → List Occurrence) (between : Kinds) (ends : X → List ℕ) (first : X) (more : List X) (j k : ℕ)
    (t : Ty) (x : X) → Contains (first ∷ more) x → ((i : ℕ) → Spot (of i x) (ends x) t)
    → Spot (of j first ++ spread size of k more) (ends first ++ each_ends between ends more) t
row_spot size of between ends first more j k t x among spot =
    let occurrences = spread size of k more in
    let later_ends = each_ends between ends more in
    ⊎_elim
    (λ here.
    wider (spot j)
    (λ o there. Contains-append_left (of j first) occurrences o (subst (λ w. Contains (of j w) o) (sym here) there))
    (λ n there. Contains-append_left (ends first) later_ends n (subst (λ w. Contains (ends w) n) (sym here) there)))
    (λ later.
    let r = spread_among size of k more x later in
    wider (spot r.0)
    (λ o there. Contains-append_right (of j first) occurrences o (r.1 o there))
    (λ n there. Contains-append_right (ends first) later_ends n (each_among between ends more x later n there)))
    (Contains-cases first more x among)

-- ---- the types of a body

field_spot : (f : FieldTree) (k : ℕ) → Spot (field_occurrences k f) (field_ends f) (type_of_texpr f.type)
field_spot f k =
    record {
      tree = f.type;
      position = k + length (word_if f.mutable keywords.Mutable) + 2;
      same = refl;
      among = λ o here. here;
      ended = last_part (silent (word_if f.mutable keywords.Mutable ++ lower f.name ++ mark symbols.Colon)) (texpr_ends f.type);
    }

app_spot : (a : App) (k : ℕ) → Spot (in_app k false a) (app_ends a) (type_of_app a)
app_spot a k = record { tree = single a; position = k; same = refl; among = λ o here. here; ended = λ n here. here }

renamed : {occurrences : List Occurrence} {ends : List ℕ} {t u : Ty} → t ≡ u → Spot occurrences ends t → Spot occurrences ends u
renamed {occurrences} {ends} same spot = subst (λ w. Spot occurrences ends w) same spot

record_spot :
    (k : ℕ) (r : RecordTree) (t : Ty) → Contains (types_of_fields (fields_of_tree r)) t → Spot (in_fields field_occurrences k r) (record_ends r) t
record_spot k r t among =
    let all = r.first ∷ r.more in
    let field = map-Contains (λ (f : Field). f.ty) (fields_of_tree r) t among in
    let tree = map-Contains field_of_tree all field.0 field.1 in
    let row = field_ends r.first ++ each_ends (mark symbols.Semicolon) field_ends r.more in
    let opened = silent (mark symbols.OpenBrace) in
    let first = opened ++ field_ends r.first in
    let second = first ++ each_ends (mark symbols.Semicolon) field_ends r.more in
    let third = second ++ silent (mark_if r.closed symbols.Semicolon) in
    let last = third ++ silent (mark symbols.CloseBrace) in
    let outer : Within second last = λ n here.
    first_part third (silent (mark symbols.CloseBrace)) n (first_part second (silent (mark_if r.closed symbols.Semicolon)) n here) in
    renamed (ap (λ (f : Field). f.ty) tree.2 ∙ field.2)
    (wider
    (row_spot field_size field_occurrences (mark symbols.Semicolon) field_ends r.first r.more (k + 1) (k + 1 + field_size r.first)
    (type_of_texpr tree.0.type) tree.0 tree.1 (field_spot tree.0))
    (itself (in_fields field_occurrences k r))
    (both_parts (field_ends r.first) (each_ends (mark symbols.Semicolon) field_ends r.more) last
    (λ n here.
    outer n (first_part first (each_ends (mark symbols.Semicolon) field_ends r.more) n (last_part opened (field_ends r.first) n here)))
    (λ n here. outer n (last_part first (each_ends (mark symbols.Semicolon) field_ends r.more) n here))))

arguments_spot :
    (k : ℕ) (arguments : ArgumentsTree) (t : Ty) → Contains (types_of_arguments (arguments_of_tree arguments)) t
    → Spot (arguments_occurrences k arguments) (arguments_ends arguments) t
arguments_spot k trees.no_arguments t among = absurd (Contains-none t among)
arguments_spot k (trees.inline r) t among =
    wider (record_spot k r t among) (itself (in_fields field_occurrences k r)) (last_part (silent (word keywords.Of)) (record_ends r))
arguments_spot k (trees.listed a others) t among =
    let part = map-Contains type_of_app (a ∷ others) t among in
    let more = each_ends (mark symbols.Star) app_ends others in
    let begun = silent (word keywords.Of) ++ app_ends a in
    renamed part.2
    (wider
    (row_spot (λ x. length (app x)) (λ j x. in_app j false x) (mark symbols.Star) app_ends a others k (k + length (app a)) (type_of_app part.0)
    part.0 part.1 (app_spot part.0))
    (itself (arguments_occurrences k (trees.listed a others)))
    (both_parts (app_ends a) more (begun ++ more)
    (λ n here. first_part begun more n (last_part (silent (word keywords.Of)) (app_ends a) n here)) (last_part begun more)))

constr_spot :
    (c : ConstrTree) (t : Ty) → Contains (types_of_arguments (arguments_of_tree c.arguments)) t → (k : ℕ)
    → Spot (constr_occurrences k c) (constr_ends c) t
constr_spot c t among k =
    wider (arguments_spot (k + 2) c.arguments t among) (itself (constr_occurrences k c)) (last_part (0 ∷ []) (arguments_ends c.arguments))

body_spot : (k : ℕ) (body : BodyTree) (t : Ty) → Contains (types_of_body (body_of_tree body)) t → Spot (body_occurrences k body) (body_ends body) t
body_spot k (record_body r) t among = record_spot k r t among
body_spot k (variant_body bar c cs) t among =
    let made = flat_map-Contains (λ (constructor : Constructor). types_of_arguments constructor.arguments) (map constructor_of_tree (c ∷ cs)) t among in
    let tree = map-Contains constructor_of_tree (c ∷ cs) made.0 made.1 in
    let has : Contains (types_of_arguments (arguments_of_tree tree.0.arguments)) t =
    subst (λ (x : Constructor). Contains (types_of_arguments x.arguments) t) (sym tree.2) made.2 in
    let begun = silent (mark_if bar symbols.Bar) in
    let more = each_ends (mark symbols.Bar) constr_ends cs in
    wider
    (row_spot constr_size constr_occurrences (mark symbols.Bar) constr_ends c cs (k + length (mark_if bar symbols.Bar))
    (k + length (mark_if bar symbols.Bar) + constr_size c) t tree.0 tree.1 (constr_spot tree.0 t has))
    (itself (body_occurrences k (variant_body bar c cs)))
    (both_parts (constr_ends c) more (begun ++ constr_ends c ++ more)
    (λ n here. first_part (begun ++ constr_ends c) more n (last_part begun (constr_ends c) n here)) (last_part (begun ++ constr_ends c) more))
body_spot k (type_body x) t among =
    record {
      tree = x;
      position = k;
      same = ⊎_elim (λ here. here) (λ none. absurd (Contains-none t none)) (Contains-cases (type_of_texpr x) [] t among);
      among = λ o here. here;
      ended = λ n here. here;
    }

-- ---- the declarations of a file

record DeclSpot (ends : List ℕ) (d : DeclPositions) : Type 0 where
  tree : DeclTree
  group : ℕ
  position : ℕ
  same : decl_positions group position tree ≡ d
  ended : Within (decl_ends tree) ends

group_spot : (group k : ℕ) (g : GroupTree) (d : DeclPositions) → Contains (group_positions group k g) d → DeclSpot (group_ends g) d
group_spot group k g d among =
    let begun = silent (word keywords.Type) ++ decl_ends g.first in
    let more = each_ends (word keywords.And) decl_ends g.more in
    let ended = silent (mark_if g.ended symbols.DoubleSemicolon) in
    ⊎_elim
    (λ here.
    record {
      tree = g.first;
      group = group;
      position = k + 1;
      same = here;
      ended = λ n there.
          first_part (begun ++ more) ended n
          (first_part begun more n (last_part (silent (word keywords.Type)) (decl_ends g.first) n there));
    })
    (λ later.
    let r = spread_origin decl_size (λ j x. decl_positions group j x ∷ []) (k + 1 + decl_size g.first) g.more d later in
    record {
      tree = r.1;
      group = group;
      position = r.0;
      same = ⊎_elim (λ here. here) (λ none. absurd (Contains-none d none)) (Contains-cases (decl_positions group r.0 r.1) [] d r.3);
      ended = λ n there.
          first_part (begun ++ more) ended n (last_part begun more n (each_among (word keywords.And) decl_ends g.more r.1 r.2 n there));
    })
    (Contains-cases (decl_positions group (k + 1) g.first)
    (spread decl_size (λ j x. decl_positions group j x ∷ []) (k + 1 + decl_size g.first) g.more) d among)

later_spot : {short long : List ℕ} {d : DeclPositions} → DeclSpot short d → Within short long → DeclSpot long d
later_spot spot within = record {
  tree = spot.tree;
  group = spot.group;
  position = spot.position;
  same = spot.same;
  ended = λ n there. within n (spot.ended n there);
}

files_spot : (before k : ℕ) (groups : FileTree) (d : DeclPositions) → Contains (positions_after before k groups) d → DeclSpot (file_ends groups) d
files_spot before k [] d among = absurd (Contains-none d among)
files_spot before k (g ∷ groups) d among =
    let positions = positions_after (before + length (g.first ∷ g.more)) (k + length (group_kinds g)) groups in
    ⊎_elim
    (λ here. later_spot (group_spot before k g d here) (first_part (group_ends g) (file_ends groups)))
    (λ later.
    later_spot (files_spot (before + length (g.first ∷ g.more)) (k + length (group_kinds g)) groups d later)
    (last_part (group_ends g) (file_ends groups)))
    (Contains-append_cases (group_positions before k g) positions d among)

-- Each type in the body of a declaration has a spot.
type_spot :
    {ends : List ℕ} (d : DeclPositions) (t : Ty) → DeclSpot ends d → Contains (types_of_body d.decl.body) t → Spot d.occurrences ends t
type_spot {ends} d t spot among =
    let x = spot.tree in
    let made = decl_positions spot.group spot.position x in
    let name = spot.position + length (params_kinds x.params) in
    let has : Contains (types_of_body made.decl.body) t = subst (λ (e : DeclPositions). Contains (types_of_body e.decl.body) t) (sym spot.same) among in
    let prefix = silent (params_kinds x.params ++ lower x.name ++ mark symbols.Equals) in
    let one : Spot made.occurrences ends t =
    wider (body_spot (name + 2) x.body t has) (itself made.occurrences)
    (λ n there. spot.ended n (last_part prefix (body_ends x.body) n there)) in
    subst (λ (e : DeclPositions). Spot e.occurrences ends t) spot.same one

-- ---- results

spot_reports : (occurrences : List Occurrence) (ends : List ℕ) (t : Ty) → Spot occurrences ends t → ReportsAll occurrences t
spot_reports occurrences ends t spot =
    subst (ReportsAll occurrences) spot.same
    (λ thing among.
    let known = types_known spot.position false spot.tree thing among in (known.0, spot.among known.0 known.1, known.2))

spot_written : (occurrences : List Occurrence) (ends : List ℕ) (t : Ty) → Spot occurrences ends t → ((n : ℕ) → Contains ends n → n ≤ 200) → IsWritten t
spot_written occurrences ends t spot shallow =
    let deepest = types_end spot.tree in
    subst IsWritten spot.same
    (record {
      proper = types_proper spot.tree;
      type = types_are_types spot.tree;
      shallow = omega (arith, types_shallow spot.tree, deepest.2, shallow deepest.0 (spot.ended deepest.0 deepest.1));
    })

abbrev IsUsedBy : DeclPositions → List ℕ → Type 0
IsUsedBy d name = (position : ℕ) × (arguments : List Ty) × Contains d.occurrences (use_of position name arguments false)

abbreviation_uses :
    (k : ℕ) (body : BodyTree) (t : Ty) (name : List ℕ) → abbreviated (body_of_tree body) ≡ Some t → Contains (names_outside t) name
    → (position : ℕ) × (arguments : List Ty) × Contains (body_occurrences k body) (use_of position name arguments false)
abbreviation_uses k (record_body r) t name is among = absurd (none-some t is)
abbreviation_uses k (variant_body bar c cs) t name is among = absurd (none-some t is)
abbreviation_uses k (type_body x) t name is among =
    types_used k x name (subst (λ u. Contains (names_outside u) name) (sym (same_Some (type_of_texpr x) t is)) among)

decl_uses :
    {ends : List ℕ} (d : DeclPositions) (t : Ty) (name : List ℕ) → DeclSpot ends d → abbreviated d.decl.body ≡ Some t → Contains (names_outside t) name
    → IsUsedBy d name
decl_uses d t name spot is among =
    let x = spot.tree in
    let made = decl_positions spot.group spot.position x in
    let here : abbreviated made.decl.body ≡ Some t = ap (λ (e : DeclPositions). abbreviated e.decl.body) spot.same ∙ is in
    subst (λ (e : DeclPositions). IsUsedBy e name) spot.same
    (abbreviation_uses (spot.position + length (params_kinds x.params) + 2) x.body t name here among)

pub files_known : (lexemes : Kinds) (tree : FileTree) → IsText file_kinds file_ends lexemes tree → AreKnownWhole (file_positions tree)
files_known lexemes tree is =
    let spots = files_spot 0 0 tree in
    let shallow = text_is_shallow file_kinds file_ends lexemes tree (file_even tree) is in
    record {
      things = λ d t among has. spot_reports d.occurrences (file_ends tree) t (type_spot d t (spots d among) has);
      uses = λ d t name among is_one used. decl_uses d t name (spots d among) is_one used;
      written = λ d t among has. spot_written d.occurrences (file_ends tree) t (type_spot d t (spots d among) has) shallow;
    }

-- If a text breaks no scope rule, then the declarations of the text are well-formed.
pub files_well_formed :
    (lexemes : Kinds) (tree : FileTree) → IsText file_kinds file_ends lexemes tree → KeepsAll (BreaksInFile (file_positions tree))
    → AreWellFormed (declarations_of tree)
files_well_formed lexemes tree is keeps =
    subst AreWellFormed (files_are_counted.declared tree) (well_formed (file_positions tree) (files_known lexemes tree is) keeps)

-- If a text breaks no rule on names, then the declarations of the text are sound.
pub names_sound :
    (lexemes : Kinds) (tree : FileTree) → IsText file_kinds file_ends lexemes tree → KeepsBefore (BreaksInFile (file_positions tree)) 7
    → AreSound (declarations_of tree)
names_sound lexemes tree is keeps =
    subst AreSound (files_are_counted.declared tree)
    (sound_by_names (file_positions tree) (files_known lexemes tree is)
    (λ k. keeps twice k (omega arith))
    (λ k. keeps unknown_name k (omega arith))
    (λ k. keeps cyclic k (omega arith)))
