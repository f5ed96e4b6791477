-- Counting gives the occurrences of declarations, by the productions of the grammar.
use Rattle.std.proofs.Common.{ℕ, suc, ◌+◌, ◌≡◌, ◌∙◌, Bool, true, false, List, [], ◌∷◌, ◌++◌, length, drop}
use Rattle.std.proofs.Common.{refl, sym, ap, arith, append_assoc, length-append}
use Rattle.std.specs.Prelude.{map, slice_index}
use Rattle.std.proofs.lemmas.List.{drop_at, get_or_at}
use Rattle.types_lex.specs.declared.lexeme.LexemeKind.TheVariants as kinds
use Rattle.types_lex.specs.declared.lexeme.Keyword.TheVariants as keywords
use Rattle.types_lex.specs.declared.lexeme.Symbol.TheVariants as symbols
use Rattle.types_parse.specs.grammar.Grammar.{Name, each_after, texpr, app, mark, lower, word, mark_if, word_if}
use Rattle.types_parse.specs.grammar.Grammar.{Params, no_params, param, params, FieldTree, RecordTree}
use Rattle.types_parse.specs.grammar.Grammar.{ArgumentsTree, ConstrTree, BodyTree, record_body, variant_body}
use Rattle.types_parse.specs.grammar.Grammar.{type_body, DeclTree, variable_kind}
use Rattle.types_parse.specs.grammar.Grammar.{params_kinds, field_kinds, record_kinds, arguments_kinds, constr_kinds}
use Rattle.types_parse.specs.grammar.Grammar.{body_kinds, decl_kinds}
use Rattle.types_parse.specs.grammar.Grammar as trees
use Rattle.types_spec.specs.declared.types.decl.Field.{Field}
use Rattle.types_spec.specs.declared.types.decl.Constructor.{Constructor}
use Rattle.types_spec.specs.declared.types.decl.Decl.{Decl}
use Rattle.types_spec.specs.types.Occurrence.{Placed, Occurrence, DeclPositions}
use Rattle.types_parse.specs.parse.WrittenTrees.{type_of_app, type_of_texpr, parameters_of, field_of_tree, fields_of_tree}
use Rattle.types_parse.specs.parse.WrittenTrees.{arguments_of_tree, constructor_of_tree, body_of_tree, declaration_of_tree}
use Rattle.types_resolve.specs.occurrences.Counted.{after, marks, in_type}
use Rattle.types_resolve.specs.occurrences.CountedFile.{along, count_all, type_count, placed, parameters_in, field_count}
use Rattle.types_resolve.specs.occurrences.CountedFile.{names_of_fields, in_field, arguments_count, constructor_count}
use Rattle.types_resolve.specs.occurrences.CountedFile.{record_in_arguments, in_arguments, carrying_in, of_constructors}
use Rattle.types_resolve.specs.occurrences.CountedFile.{body_count, records_in, in_body, decl_count, counted_positions}
use Rattle.types_resolve.specs.occurrences.InText.{in_app}
use Rattle.types_resolve.specs.occurrences.InFile.{spread, placed_parameters, in_fields, field_name}
use Rattle.types_resolve.specs.occurrences.InFile.{field_occurrences, constr_name, carrying_if, carrying_constr}
use Rattle.types_resolve.specs.occurrences.InFile.{arguments_record, constr_record, arguments_occurrences}
use Rattle.types_resolve.specs.occurrences.InFile.{constr_occurrences, in_constrs, body_records, body_occurrences}
use Rattle.types_resolve.specs.occurrences.InFile.{decl_positions}
use Rattle.types_resolve.proofs.occurrences.OccurrenceStandLemmas.{IsSilent, IsClosed, closed_last, after_append, marks_append, marks_before, marks_after}
use Rattle.types_resolve.proofs.occurrences.TypeLaws.{texpr_stands, app_stands, texpr_closed, app_closed}
use Rattle.types_resolve.proofs.occurrences.FileLaws.{IsCounted, row_counted, row_seen, row_closed}

map_same : {X : Type 0} (xs : List X) → map (λ (x : X). x) xs ≡ xs
map_same [] = refl
map_same (x ∷ xs) = ap (λ l. x ∷ l) (map_same xs)

-- ---- lexemes between elements

a_semicolon : IsSilent (mark symbols.Semicolon)
a_semicolon j fresh = refl

semicolon_if : (closed : Bool) → IsSilent (mark_if closed symbols.Semicolon)
semicolon_if true j fresh = refl
semicolon_if false j fresh = refl

a_brace : IsSilent (mark symbols.CloseBrace)
a_brace j fresh = refl

a_star : IsSilent (mark symbols.Star)
a_star j fresh = refl

a_comma : IsSilent (mark symbols.Comma)
a_comma j fresh = refl

a_bar : IsSilent (mark symbols.Bar)
a_bar j fresh = refl

bar_if : (bar : Bool) → IsSilent (mark_if bar symbols.Bar)
bar_if true j fresh = refl
bar_if false j fresh = refl

behind_mutable : (mutable : Bool) → after false (word_if mutable keywords.Mutable) ≡ false
behind_mutable true = refl
behind_mutable false = refl

a_closing : IsSilent (mark symbols.CloseParen)
a_closing j fresh = refl

mutable_if : (mutable : Bool) → IsSilent (word_if mutable keywords.Mutable)
mutable_if true j fresh = refl
mutable_if false j fresh = refl

-- ---- fields

field_marks :
    (k : ℕ) (f : FieldTree)
    → marks k false (field_kinds f) ≡ (k + length (word_if f.mutable keywords.Mutable))
    ∷ marks (k + length (word_if f.mutable keywords.Mutable) + 2) false (texpr f.type)
field_marks k f =
    let prefix = word_if f.mutable keywords.Mutable in
    let j = k + length prefix in
    let two : suc (suc j) ≡ j + 2 = omega arith in
    ap (λ l. marks k false l) (append_assoc (prefix ++ lower f.name) (mark symbols.Colon) (texpr f.type)
    ∙ append_assoc prefix (lower f.name) (mark symbols.Colon ++ texpr f.type))
    ∙ marks_after k false prefix (lower f.name ++ (mark symbols.Colon ++ texpr f.type)) (mutable_if f.mutable)
    ∙ ap (λ g. marks j g (lower f.name ++ (mark symbols.Colon ++ texpr f.type))) (behind_mutable f.mutable)
    ∙ ap (λ n. j ∷ marks n false (texpr f.type)) two

field_closed : (f : FieldTree) → IsClosed (field_kinds f)
field_closed f = closed_last (word_if f.mutable keywords.Mutable ++ lower f.name ++ mark symbols.Colon) (texpr f.type)
    (texpr_closed f.type)

field_counted : (k : ℕ) (f : FieldTree) → length (marks k false (field_kinds f)) ≡ field_count (field_of_tree f)
field_counted k f =
    let j = k + length (word_if f.mutable keywords.Mutable) in
    let e : suc (type_count (type_of_texpr f.type)) ≡ 1 + type_count (type_of_texpr f.type) = omega arith in
    ap length (field_marks k f) ∙ ap suc (texpr_stands (j + 2) false f.type).counted ∙ e

abbrev name_of_field : List ℕ → Field → List Placed
name_of_field ms f = placed ms f.name ∷ []

field_names : IsCounted field_kinds field_of_tree field_count name_of_field field_name
field_names = record {
  closed = field_closed;
  counted = field_counted;
  seen = λ k f rest. ap (λ ms. name_of_field (ms ++ rest) (field_of_tree f)) (field_marks k f);
}

field_types : IsCounted field_kinds field_of_tree field_count in_field field_occurrences
field_types = record {
  closed = field_closed;
  counted = field_counted;
  seen = λ k f rest. ap (λ ms. in_field (ms ++ rest) (field_of_tree f)) (field_marks k f)
      ∙ (texpr_stands (k + length (word_if f.mutable keywords.Mutable) + 2) false f.type).seen rest;
}

-- ---- records

record_marks :
    (k : ℕ) (r : RecordTree) → marks k false (record_kinds r)
    ≡ marks (k + 1) false (field_kinds r.first ++ each_after (mark symbols.Semicolon) field_kinds r.more)
record_marks k r =
    let row = field_kinds r.first ++ each_after (mark symbols.Semicolon) field_kinds r.more in
    let one : suc k ≡ k + 1 = omega arith in
    marks_before k false (mark symbols.OpenBrace ++ row ++ mark_if r.closed symbols.Semicolon) (mark symbols.CloseBrace) a_brace
    ∙ marks_before k false (mark symbols.OpenBrace ++ row) (mark_if r.closed symbols.Semicolon) (semicolon_if r.closed)
    ∙ ap (λ n. marks n false row) one

record_counted :
    (k : ℕ) (r : RecordTree) → length (marks k false (record_kinds r)) ≡ count_all field_count (fields_of_tree r)
record_counted k r = ap length (record_marks k r)
    ∙ row_counted field_kinds field_of_tree field_count name_of_field field_name field_names
    (kinds.Symbol symbols.Semicolon) a_semicolon (λ j f. refl) (k + 1) r.first r.more

record_names :
    (k : ℕ) (r : RecordTree) (rest : List ℕ)
    → names_of_fields (marks k false (record_kinds r) ++ rest) (fields_of_tree r) ≡ in_fields field_name k r
record_names k r rest = ap (λ ms. names_of_fields (ms ++ rest) (fields_of_tree r)) (record_marks k r)
    ∙ row_seen field_kinds field_of_tree field_count name_of_field field_name field_names
    (kinds.Symbol symbols.Semicolon) a_semicolon (λ j f. refl) (k + 1) r.first r.more rest

record_types :
    (k : ℕ) (r : RecordTree) (rest : List ℕ)
    → along field_count in_field (marks k false (record_kinds r) ++ rest) (fields_of_tree r)
    ≡ (in_fields field_occurrences k r)
record_types k r rest = ap (λ ms. along field_count in_field (ms ++ rest) (fields_of_tree r)) (record_marks k r)
    ∙ row_seen field_kinds field_of_tree field_count in_field field_occurrences field_types
    (kinds.Symbol symbols.Semicolon) a_semicolon (λ j f. refl) (k + 1) r.first r.more rest

-- ---- constructors

listed_types :
    IsCounted app type_of_app type_count (λ at t. in_type at false t) (λ j x. in_app j false x)
listed_types = record {
  closed = app_closed;
  counted = λ k a. (app_stands k false a).counted;
  seen = λ k a rest. (app_stands k false a).seen rest;
}

arguments_counted :
    (k : ℕ) (a : ArgumentsTree)
    → length (marks (suc k) false (arguments_kinds a)) ≡ arguments_count (arguments_of_tree a)
arguments_counted k trees.no_arguments = refl
arguments_counted k (trees.inline r) = record_counted (suc (suc k)) r
arguments_counted k (trees.listed a others) =
    row_counted app type_of_app type_count (λ at t. in_type at false t) (λ j x. in_app j false x) listed_types
    (kinds.Symbol symbols.Star) a_star (λ j x. refl) (suc (suc k)) a others

arguments_types :
    (k : ℕ) (a : ArgumentsTree) (rest : List ℕ)
    → in_arguments (marks (suc k) false (arguments_kinds a) ++ rest) (arguments_of_tree a)
    ≡ (arguments_occurrences (k + 2) a)
arguments_types k trees.no_arguments rest = refl
arguments_types k (trees.inline r) rest =
    let two : suc (suc k) ≡ k + 2 = omega arith in
    record_types (suc (suc k)) r rest ∙ ap (λ n. (in_fields field_occurrences n r)) two
arguments_types k (trees.listed a others) rest =
    let two : suc (suc k) ≡ k + 2 = omega arith in
    row_seen app type_of_app type_count (λ at t. in_type at false t) (λ j x. in_app j false x) listed_types
    (kinds.Symbol symbols.Star) a_star (λ j x. refl) (suc (suc k)) a others rest
    ∙ ap (λ n. (arguments_occurrences n (trees.listed a others))) two

arguments_names :
    (k : ℕ) (a : ArgumentsTree) (rest : List ℕ)
    → record_in_arguments (marks (suc k) false (arguments_kinds a) ++ rest) (arguments_of_tree a)
    ≡ arguments_record (k + 2) a
arguments_names k trees.no_arguments rest = refl
arguments_names k (trees.inline r) rest =
    let two : suc (suc k) ≡ k + 2 = omega arith in
    ap (λ l. l ∷ []) (record_names (suc (suc k)) r rest ∙ ap (λ n. in_fields field_name n r) two)
arguments_names k (trees.listed a others) rest = refl

carried :
    (k : ℕ) (a : ArgumentsTree) (rest : List ℕ)
    → carrying_in (k ∷ rest) (arguments_of_tree a) ≡ carrying_if k a
carried k trees.no_arguments rest = refl
carried k (trees.inline r) rest = refl
carried k (trees.listed a others) rest = refl

constr_counted :
    (k : ℕ) (c : ConstrTree) → length (marks k false (constr_kinds c)) ≡ constructor_count (constructor_of_tree c)
constr_counted k c =
    let n = arguments_count (arguments_of_tree c.arguments) in
    let e : suc n ≡ 1 + n = omega arith in
    ap suc (arguments_counted k c.arguments) ∙ e

arguments_closed : (a : ArgumentsTree) → after false (arguments_kinds a) ≡ false
arguments_closed trees.no_arguments = refl
arguments_closed (trees.inline r) = closed_last (word keywords.Of ++ (mark symbols.OpenBrace ++ field_kinds r.first
    ++ each_after (mark symbols.Semicolon) field_kinds r.more ++ mark_if r.closed symbols.Semicolon)) (mark symbols.CloseBrace)
    (λ f. refl) false
arguments_closed (trees.listed a others) =
    row_closed app type_of_app type_count (λ at t. in_type at false t) (λ j x. in_app j false x) listed_types
    (kinds.Symbol symbols.Star) a_star (λ j x. refl) a others false

constr_closed : (c : ConstrTree) → IsClosed (constr_kinds c)
constr_closed c fresh = arguments_closed c.arguments

abbrev name_of_constructor : List ℕ → Constructor → List Placed
name_of_constructor ms c = placed ms c.name ∷ []

abbrev carrying_of : List ℕ → Constructor → List ℕ
carrying_of ms c = carrying_in ms c.arguments

abbrev record_of : List ℕ → Constructor → List (List Placed)
record_of ms c = record_in_arguments (drop 1 ms) c.arguments

abbrev types_of : List ℕ → Constructor → List Occurrence
types_of ms c = in_arguments (drop 1 ms) c.arguments

constr_names :
    IsCounted constr_kinds constructor_of_tree constructor_count name_of_constructor constr_name
constr_names = record { closed = constr_closed; counted = constr_counted; seen = λ k c rest. refl }

constr_carrying :
    IsCounted constr_kinds constructor_of_tree constructor_count carrying_of carrying_constr
constr_carrying = record {
  closed = constr_closed;
  counted = constr_counted;
  seen = λ k c rest. carried k c.arguments (marks (suc k) false (arguments_kinds c.arguments) ++ rest);
}

constr_records :
    IsCounted constr_kinds constructor_of_tree constructor_count record_of constr_record
constr_records = record {
  closed = constr_closed;
  counted = constr_counted;
  seen = λ k c rest. arguments_names k c.arguments rest;
}

constr_types :
    IsCounted constr_kinds constructor_of_tree constructor_count types_of constr_occurrences
constr_types = record {
  closed = constr_closed;
  counted = constr_counted;
  seen = λ k c rest. arguments_types k c.arguments rest;
}

-- ---- bodies

variant_marks :
    (k : ℕ) (bar : Bool) (c : ConstrTree) (cs : List ConstrTree)
    → marks k false (body_kinds (variant_body bar c cs))
    ≡ marks (k + length (mark_if bar symbols.Bar)) false (constr_kinds c ++ each_after (mark symbols.Bar) constr_kinds cs)
variant_marks k true c cs =
    let one : suc k ≡ k + 1 = omega arith in
    ap (λ n. marks n false (constr_kinds c ++ each_after (mark symbols.Bar) constr_kinds cs)) one
variant_marks k false c cs =
    let none : k ≡ k + 0 = omega arith in
    ap (λ n. marks n false (constr_kinds c ++ each_after (mark symbols.Bar) constr_kinds cs)) none

body_counted : (k : ℕ) (b : BodyTree) → length (marks k false (body_kinds b)) ≡ body_count (body_of_tree b)
body_counted k (record_body r) = record_counted k r
body_counted k (variant_body bar c cs) = ap length (variant_marks k bar c cs)
    ∙ row_counted constr_kinds constructor_of_tree constructor_count name_of_constructor constr_name constr_names
    (kinds.Symbol symbols.Bar) a_bar (λ j x. refl) (k + length (mark_if bar symbols.Bar)) c cs
body_counted k (type_body t) = (texpr_stands k false t).counted

-- A row of constructors.
module _ {Y : Type 0} (of : List ℕ → Constructor → List Y) (in' : ℕ → ConstrTree → List Y)
    (is : IsCounted constr_kinds constructor_of_tree constructor_count of in') where
  constrs_seen :
      (k : ℕ) (bar : Bool) (c : ConstrTree) (cs : List ConstrTree) (rest : List ℕ)
      → along constructor_count of (marks k false (body_kinds (variant_body bar c cs)) ++ rest) (map constructor_of_tree (c ∷ cs))
      ≡ (in_constrs in' k (variant_body bar c cs))
  constrs_seen k bar c cs rest =
      ap (λ ms. along constructor_count of (ms ++ rest) (map constructor_of_tree (c ∷ cs))) (variant_marks k bar c cs)
      ∙ row_seen constr_kinds constructor_of_tree constructor_count of in' is (kinds.Symbol symbols.Bar) a_bar (λ j x. refl)
      (k + length (mark_if bar symbols.Bar)) c cs rest

  body_constructors :
      (k : ℕ) (b : BodyTree) (rest : List ℕ)
      → of_constructors of (marks k false (body_kinds b) ++ rest) (body_of_tree b) ≡ (in_constrs in' k b)
  body_constructors k (record_body r) rest = refl
  body_constructors k (variant_body bar c cs) rest = constrs_seen k bar c cs rest
  body_constructors k (type_body t) rest = refl

body_rows :
    (k : ℕ) (b : BodyTree) (rest : List ℕ)
    → records_in (marks k false (body_kinds b) ++ rest) (body_of_tree b) ≡ body_records k b
body_rows k (record_body r) rest = ap (λ l. l ∷ []) (record_names k r rest)
body_rows k (variant_body bar c cs) rest =
    constrs_seen record_of constr_record constr_records k bar c cs rest
body_rows k (type_body t) rest = refl

body_types :
    (k : ℕ) (b : BodyTree) (rest : List ℕ)
    → in_body (marks k false (body_kinds b) ++ rest) (body_of_tree b) ≡ (body_occurrences k b)
body_types k (record_body r) rest = record_types k r rest
body_types k (variant_body bar c cs) rest =
    constrs_seen types_of constr_occurrences constr_types k bar c cs rest
body_types k (type_body t) rest = (texpr_stands k false t).seen rest

-- ---- parameters

abbrev parameter_in : List ℕ → List ℕ → List Placed
parameter_in ms name = placed ms name ∷ []

abbrev parameter_at : ℕ → List ℕ → List Placed
parameter_at j name = (j, name) ∷ []

one_parameter :
    IsCounted variable_kind (λ (x : List ℕ). x) (λ x. 1) parameter_in parameter_at
one_parameter = record { closed = λ x f. refl; counted = λ k x. refl; seen = λ k x rest. refl }

listed_marks :
    (k : ℕ) (name : Name) (names : List Name)
    → marks k false (params_kinds (params name names))
    ≡ marks (k + 1) false (variable_kind name ++ each_after (mark symbols.Comma) variable_kind names)
listed_marks k name names =
    let row = variable_kind name ++ each_after (mark symbols.Comma) variable_kind names in
    let one : suc k ≡ k + 1 = omega arith in
    marks_before k false (mark symbols.OpenParen ++ row) (mark symbols.CloseParen) a_closing ∙ ap (λ n. marks n false row) one

all_ones : (names : List Name) → count_all (λ (x : Name). 1) names ≡ length names
all_ones [] = refl
all_ones (x ∷ xs) = let later = all_ones xs in let e : 1 + count_all (λ (y : Name). 1) xs ≡ suc (length xs) = omega arith in e

params_counted : (k : ℕ) (p : Params) → length (marks k false (params_kinds p)) ≡ length (parameters_of p)
params_counted k no_params = refl
params_counted k (param name) = refl
params_counted k (params name names) = ap length (listed_marks k name names)
    ∙ row_counted variable_kind (λ (x : List ℕ). x) (λ x. 1) parameter_in parameter_at one_parameter
    (kinds.Symbol symbols.Comma) a_comma (λ j x. refl) (k + 1) name names
    ∙ ap (λ l. count_all (λ (x : Name). 1) l) (map_same (name ∷ names)) ∙ all_ones (name ∷ names)

params_seen :
    (k : ℕ) (p : Params) (rest : List ℕ)
    → parameters_in (marks k false (params_kinds p) ++ rest) (parameters_of p) ≡ placed_parameters k p
params_seen k no_params rest = refl
params_seen k (param name) rest = refl
params_seen k (params name names) rest =
    let two : k + 1 + 1 ≡ k + 2 = omega arith in
    ap (λ ms. parameters_in (ms ++ rest) (name ∷ names)) (listed_marks k name names)
    ∙ ap (λ l. parameters_in (marks (k + 1) false (variable_kind name ++ each_after (mark symbols.Comma) variable_kind names) ++ rest) l)
    (sym (map_same (name ∷ names)))
    ∙ row_seen variable_kind (λ (x : List ℕ). x) (λ x. 1) parameter_in parameter_at one_parameter
    (kinds.Symbol symbols.Comma) a_comma (λ j x. refl) (k + 1) name names rest
    ∙ ap (λ n. (k + 1, name) ∷ spread (λ (x : Name). 1) parameter_at n names) two

-- ---- declarations

params_closed : (p : Params) → after false (params_kinds p) ≡ false
params_closed no_params = refl
params_closed (param name) = refl
params_closed (params name names) =
    closed_last (mark symbols.OpenParen ++ variable_kind name ++ each_after (mark symbols.Comma) variable_kind names)
    (mark symbols.CloseParen) (λ f. refl) false

decl_marks :
    (k : ℕ) (d : DeclTree)
    → marks k false (decl_kinds d)
    ≡ marks k false (params_kinds d.params) ++ (k + length (params_kinds d.params))
    ∷ marks (k + length (params_kinds d.params) + 2) false (body_kinds d.body)
decl_marks k d =
    let prefix = params_kinds d.params in
    let j = k + length prefix in
    let two : suc (suc j) ≡ j + 2 = omega arith in
    ap (λ l. marks k false l) (append_assoc (prefix ++ lower d.name) (mark symbols.Equals) (body_kinds d.body)
    ∙ append_assoc prefix (lower d.name) (mark symbols.Equals ++ body_kinds d.body))
    ∙ marks_append k false prefix (lower d.name ++ (mark symbols.Equals ++ body_kinds d.body))
    ∙ ap (λ g. marks k false prefix ++ marks j g (lower d.name ++ (mark symbols.Equals ++ body_kinds d.body))) (params_closed d.params)
    ∙ ap (λ n. marks k false prefix ++ j ∷ marks n false (body_kinds d.body)) two

body_closed : (b : BodyTree) → after false (body_kinds b) ≡ false
body_closed (record_body r) = closed_last (mark symbols.OpenBrace ++ field_kinds r.first
    ++ each_after (mark symbols.Semicolon) field_kinds r.more ++ mark_if r.closed symbols.Semicolon) (mark symbols.CloseBrace)
    (λ f. refl) false
body_closed (variant_body true c cs) =
    row_closed constr_kinds constructor_of_tree constructor_count name_of_constructor constr_name constr_names
    (kinds.Symbol symbols.Bar) a_bar (λ j x. refl) c cs true
body_closed (variant_body false c cs) =
    row_closed constr_kinds constructor_of_tree constructor_count name_of_constructor constr_name constr_names
    (kinds.Symbol symbols.Bar) a_bar (λ j x. refl) c cs false
body_closed (type_body t) = texpr_closed t false

pub decl_closed : (d : DeclTree) → IsClosed (decl_kinds d)
decl_closed d fresh =
    let prefix = params_kinds d.params ++ lower d.name ++ mark symbols.Equals in
    after_append fresh prefix (body_kinds d.body)
    ∙ ap (λ g. after g (body_kinds d.body)) (closed_last (params_kinds d.params ++ lower d.name) (mark symbols.Equals) (λ f. refl) fresh)
    ∙ body_closed d.body

pub decl_counted :
    (group k : ℕ) (d : DeclTree)
    → length (marks k false (decl_kinds d)) ≡ decl_count (declaration_of_tree group d)
decl_counted group k d =
    let prefix = params_kinds d.params in
    let j = k + length prefix in
    let n = length (parameters_of d.params) in
    let m = body_count (body_of_tree d.body) in
    let e : n + suc m ≡ n + 1 + m = omega arith in
    ap length (decl_marks k d) ∙ length-append (marks k false prefix) (j ∷ marks (j + 2) false (body_kinds d.body))
    ∙ ap (λ l. l + suc (length (marks (j + 2) false (body_kinds d.body)))) (params_counted k d.params)
    ∙ ap (λ l. n + suc l) (body_counted (j + 2) d.body) ∙ e

abbrev made :
    Decl → ℕ → List Placed → List (List Placed) → List Placed → List ℕ → List Occurrence → DeclPositions
made d position parameters records constructors carrying occurrences = record {
  decl = d;
  position = position;
  parameters = parameters;
  records = records;
  constructors = constructors;
  carrying = carrying;
  occurrences = occurrences;
}

-- The occurrences of a declaration, given the declaration's marks and the marks of its body.
abbrev made_from : Decl → List ℕ → List ℕ → DeclPositions
made_from d ms body = made d (slice_index ms (length d.parameters)) (parameters_in ms d.parameters)
    (records_in body d.body) (of_constructors name_of_constructor body d.body)
    (of_constructors carrying_of body d.body) (in_body body d.body)

pub decl_seen :
    (group k : ℕ) (d : DeclTree) (rest : List ℕ)
    → counted_positions (marks k false (decl_kinds d) ++ rest) (declaration_of_tree group d)
    ≡ decl_positions group k d
decl_seen group k d rest =
    let prefix = params_kinds d.params in
    let j = k + length prefix in
    let e = declaration_of_tree group d in
    let n = length e.parameters in
    let inside = marks (j + 2) false (body_kinds d.body) in
    let rests = inside ++ rest in
    let ms = marks k false prefix ++ (j ∷ rests) in
    let long : length (marks k false prefix ++ j ∷ []) ≡ n + 1 =
    length-append (marks k false prefix) (j ∷ []) ∙ ap (λ l. l + 1) (params_counted k d.params) in
    let body_is : drop (n + 1) ms ≡ rests =
    ap (λ l. drop (n + 1) l) (sym (append_assoc (marks k false prefix) (j ∷ []) rests))
    ∙ drop_at (marks k false prefix ++ j ∷ []) rests (n + 1) long in
    let rows = records_in rests e.body in
    let names = of_constructors name_of_constructor rests e.body in
    let with = of_constructors carrying_of rests e.body in
    let all = in_body rests e.body in
    let parameters = placed_parameters k d.params in
    let records = body_records (j + 2) d.body in
    let constructors = in_constrs constr_name (j + 2) d.body in
    let carrying = in_constrs carrying_constr (j + 2) d.body in
    ap (λ l. made_from e (l ++ rest) (drop (n + 1) (l ++ rest))) (decl_marks k d)
    ∙ ap (λ l. made_from e l (drop (n + 1) l)) (append_assoc (marks k false prefix) (j ∷ inside) rest)
    ∙ ap (λ l. made_from e ms l) body_is
    ∙ ap (λ position. made e position (parameters_in ms e.parameters) rows names with all)
    (get_or_at (marks k false prefix) j rests 0 n (params_counted k d.params))
    ∙ ap (λ l. made e j l rows names with all) (params_seen k d.params (j ∷ rests))
    ∙ ap (λ l. made e j parameters l names with all) (body_rows (j + 2) d.body rest)
    ∙ ap (λ l. made e j parameters records l with all)
    (body_constructors name_of_constructor constr_name constr_names (j + 2) d.body rest)
    ∙ ap (λ l. made e j parameters records constructors l all)
    (body_constructors carrying_of carrying_constr constr_carrying (j + 2) d.body rest)
    ∙ ap (λ l. made e j parameters records constructors carrying l) (body_types (j + 2) d.body rest)
