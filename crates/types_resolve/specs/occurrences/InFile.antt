-- The occurrences in a file, by the trees of the grammar, each with the index of its lexeme.
use Rattle.std.specs.Prelude.{ℕ, ◌+◌, List, [], ◌∷◌, ◌++◌, length, false}
use Rattle.types_lex.specs.declared.lexeme.Keyword.TheVariants as keywords
use Rattle.types_lex.specs.declared.lexeme.Symbol.TheVariants as symbols
use Rattle.types_parse.specs.grammar.Grammar.{app, Params, no_params, param, params, FieldTree}
use Rattle.types_parse.specs.grammar.Grammar.{RecordTree}
use Rattle.types_parse.specs.grammar.Grammar.{ArgumentsTree, ConstrTree, BodyTree, record_body}
use Rattle.types_parse.specs.grammar.Grammar.{variant_body}
use Rattle.types_parse.specs.grammar.Grammar.{type_body, DeclTree, GroupTree, FileTree, word_if}
use Rattle.types_parse.specs.grammar.Grammar.{mark_if}
use Rattle.types_parse.specs.grammar.Grammar.{params_kinds, field_kinds, constr_kinds, decl_kinds}
use Rattle.types_parse.specs.grammar.Grammar.{group_kinds}
use Rattle.types_parse.specs.grammar.Grammar as trees
use Rattle.types_spec.specs.types.Occurrence.{Placed, Occurrence, DeclPositions}
use Rattle.types_parse.specs.parse.WrittenTrees.{declaration_of_tree}
use Rattle.types_resolve.specs.occurrences.InText.{in_texpr, in_app}

-- The results of `of` for each element of a list. Lexeme `k` is directly before the first element,
-- and one lexeme separates each two neighbours.
abbrev pub spread : {X Y : Type 0} → (X → ℕ) → (ℕ → X → List Y) → ℕ → List X → List Y
spread size of k [] = []
spread size of k (x ∷ xs) = of (k + 1) x ++ spread size of (k + 1 + size x) xs

abbrev pub placed_parameters : ℕ → Params → List Placed
placed_parameters k no_params = []
placed_parameters k (param name) = (k, name) ∷ []
placed_parameters k (params name names) =
    (k + 1, name) ∷ spread (λ x. 1) (λ j x. (j, x) ∷ []) (k + 2) names

abbrev pub field_size : FieldTree → ℕ
field_size f = length (field_kinds f)

-- The results of `of` for each field of a record whose opening brace is lexeme `k`.
abbrev pub in_fields : {Y : Type 0} → (ℕ → FieldTree → List Y) → ℕ → RecordTree → List Y
in_fields of k r = of (k + 1) r.first ++ spread field_size of (k + 1 + field_size r.first) r.more

abbrev pub field_name : ℕ → FieldTree → List Placed
field_name k f = (k + length (word_if f.mutable keywords.Mutable), f.name) ∷ []

abbrev pub field_occurrences : ℕ → FieldTree → List Occurrence
field_occurrences k f = in_texpr (k + length (word_if f.mutable keywords.Mutable) + 2) false f.type

abbrev pub constr_size : ConstrTree → ℕ
constr_size c = length (constr_kinds c)

abbrev pub constr_name : ℕ → ConstrTree → List Placed
constr_name k c = (k, c.name) ∷ []

abbrev pub carrying_if : ℕ → ArgumentsTree → List ℕ
carrying_if k trees.no_arguments = []
carrying_if k (trees.inline r) = k ∷ []
carrying_if k (trees.listed a others) = k ∷ []

abbrev pub carrying_constr : ℕ → ConstrTree → List ℕ
carrying_constr k c = carrying_if k c.arguments

abbrev pub arguments_record : ℕ → ArgumentsTree → List (List Placed)
arguments_record k trees.no_arguments = []
arguments_record k (trees.inline r) = in_fields field_name k r ∷ []
arguments_record k (trees.listed a others) = []

abbrev pub constr_record : ℕ → ConstrTree → List (List Placed)
constr_record k c = arguments_record (k + 2) c.arguments

abbrev pub arguments_occurrences : ℕ → ArgumentsTree → List Occurrence
arguments_occurrences k trees.no_arguments = []
arguments_occurrences k (trees.inline r) = in_fields field_occurrences k r
arguments_occurrences k (trees.listed a others) =
    in_app k false a
    ++ spread (λ x. length (app x)) (λ j x. in_app j false x) (k + length (app a)) others

abbrev pub constr_occurrences : ℕ → ConstrTree → List Occurrence
constr_occurrences k c = arguments_occurrences (k + 2) c.arguments

-- The results of `of` for each constructor of a body that begins with lexeme `k`.
abbrev pub in_constrs : {Y : Type 0} → (ℕ → ConstrTree → List Y) → ℕ → BodyTree → List Y
in_constrs of k (record_body r) = []
in_constrs of k (variant_body bar c cs) =
    of (k + length (mark_if bar symbols.Bar)) c
    ++ spread constr_size of (k + length (mark_if bar symbols.Bar) + constr_size c) cs
in_constrs of k (type_body t) = []

abbrev pub body_records : ℕ → BodyTree → List (List Placed)
body_records k (record_body r) = in_fields field_name k r ∷ []
body_records k (variant_body bar c cs) = in_constrs constr_record k (variant_body bar c cs)
body_records k (type_body t) = []

abbrev pub body_occurrences : ℕ → BodyTree → List Occurrence
body_occurrences k (record_body r) = in_fields field_occurrences k r
body_occurrences k (variant_body bar c cs) = in_constrs constr_occurrences k (variant_body bar c cs)
body_occurrences k (type_body t) = in_texpr k false t

-- The occurrences of a declaration of the group `group`, if the declaration begins with lexeme `k`.
abbrev pub decl_positions : ℕ → ℕ → DeclTree → DeclPositions
decl_positions group k d =
    let name = k + length (params_kinds d.params) in
    record {
      decl = declaration_of_tree group d;
      position = name;
      parameters = placed_parameters k d.params;
      records = body_records (name + 2) d.body;
      constructors = in_constrs constr_name (name + 2) d.body;
      carrying = in_constrs carrying_constr (name + 2) d.body;
      occurrences = body_occurrences (name + 2) d.body;
    }

abbrev pub decl_size : DeclTree → ℕ
decl_size d = length (decl_kinds d)

abbrev pub group_positions : ℕ → ℕ → GroupTree → List DeclPositions
group_positions group k g =
    decl_positions group (k + 1) g.first
    ∷ spread decl_size (λ j d. decl_positions group j d ∷ []) (k + 1 + decl_size g.first) g.more

-- The occurrences of groups that begin with lexeme `k`, if `before` declarations precede the
-- groups.
abbrev pub positions_after : ℕ → ℕ → FileTree → List DeclPositions
positions_after before k [] = []
positions_after before k (g ∷ groups) =
    group_positions before k g
    ++ positions_after (before + length (g.first ∷ g.more)) (k + length (group_kinds g)) groups

abbrev pub file_positions : FileTree → List DeclPositions
file_positions groups = positions_after 0 0 groups
