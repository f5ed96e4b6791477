-- The scope rules: what breaks each rule and at which lexeme, and which violation is reported (the
-- OCaml manual, "Type definitions"). The order and the positions are this project's own.
use Rattle.std.specs.Prelude.{ℕ, ◌<◌, ◌≤◌, ◌≡◌, ◌≢◌, ◌⊎◌, Bool, true, false, ◌&&◌, ◌||◌}
use Rattle.std.specs.Prelude.{List, [], ◌∷◌, length}
use Rattle.std.specs.Prelude.{map}
use Rattle.std.specs.Prelude.{Option, Some, None, IsSome, slice_get, Contains}
use Rattle.std.specs.List.{filter_map, list_all, list_any}
use Rattle.types_spec.specs.tag_hash.TagHash.{tag_hash}
use Rattle.types_spec.specs.declared.types.decl.Field.{Field}
use Rattle.types_spec.specs.declared.types.decl.Body.{Body}
use Rattle.types_spec.specs.declared.types.decl.Body.TheVariants as bodies
use Rattle.types_spec.specs.declared.types.decl.Decl.{Decl}
use Rattle.types_spec.specs.declared.types.head.TagOf.{TagOf}
use Rattle.types_spec.specs.types.Ty.{Ty, variable, named, tuple, bracket, part, tag, tag_of}
use Rattle.types_spec.specs.types.Ty.{including}
use Rattle.types_spec.specs.types.Ty.{name_of}
use Rattle.types_spec.specs.types.WellFormed.{IsVariable, AreVariants}
use Rattle.types_spec.specs.types.Declarations.{predeclared, arity_of, declaration_of, abbreviated}
use Rattle.types_spec.specs.types.Declarations.{unfolded_times}
use Rattle.types_spec.specs.types.Head.{tags_in, head}
use Rattle.types_spec.specs.types.Shape.{is_float, is_wildcard}
use Rattle.types_spec.specs.types.Occurrence.{Placed, PlacedItem, Occurrence, use_of, variable_at}
use Rattle.types_spec.specs.types.Occurrence.{bracket_of}
use Rattle.types_spec.specs.types.Occurrence.{DeclPositions}

-- ---- rules

pub data Rule : Type 0 where
  -- No type name, parameter, field, constructor or tag is declared twice.
  twice : Rule
  unknown_name : Rule
  arity : Rule
  unbound_variable : Rule
  -- No abbreviation expands to itself.
  cyclic : Rule
  -- In its own group, a type name has no argument that contains a variable, unless the argument is
  -- a variable.
  irregular : Rule
  too_many_constructors : Rule
  -- Every type that a bracket includes is a polymorphic variant.
  not_variant : Rule
  -- If two items of a bracket have a tag with the same name, then the tags have the same argument
  -- type.
  tag_clash : Rule
  hash_clash : Rule
  -- No record is flat because of an abbreviation of the record's own group.
  float_in_group : Rule
  -- No record has fields of type `float` and of type `_`, and no other fields.
  mixed_record : Rule

-- The position of a rule in the order in which the rules are checked.
abbrev pub turn : Rule → ℕ
turn twice = 0
turn unknown_name = 1
turn arity = 2
turn unbound_variable = 3
turn cyclic = 4
turn irregular = 5
turn too_many_constructors = 6
turn not_variant = 7
turn tag_clash = 8
turn hash_clash = 9
turn float_in_group = 10
turn mixed_record = 11

-- The violation that is reported, with its lexeme: the rule is broken at `k` and at no smaller
-- lexeme. No rule with an earlier turn is broken anywhere.
pub record IsFirst (Breaks : Rule → ℕ → Type 0) (rule : Rule) (k : ℕ) : Type 0 where
  pub broken : Breaks rule k
  pub least : (j : ℕ) → j < k → ¬ Breaks rule j
  pub earlier : (other : Rule) (j : ℕ) → turn other < turn rule → ¬ Breaks other j

-- `Breaks` holds for no rule and no lexeme.
abbrev pub KeepsAll : (Rule → ℕ → Type 0) → Type 0
KeepsAll Breaks = (rule : Rule) (k : ℕ) → ¬ Breaks rule k

-- ---- names

-- The list contains the name of lexeme `k` also at an earlier position.
pub record IsSecond (all : List Placed) (k : ℕ) : Type 0 where
  pub earlier : ℕ
  pub later : ℕ
  pub position : ℕ
  pub name : List ℕ
  pub before : earlier < later
  pub first : slice_get all earlier ≡ Some (position, name)
  pub second : slice_get all later ≡ Some (k, name)

-- ---- types

-- The type contains a variable.
abbrev pub HoldsVariable : Ty → Type 0
HoldsVariable (variable x) = Unit {0}
HoldsVariable (named name) = ⊥
HoldsVariable tuple = ⊥
HoldsVariable bracket = ⊥
HoldsVariable (part whole added) = HoldsVariable whole ⊎ HoldsVariable added
HoldsVariable (tag whole x) = HoldsVariable whole
HoldsVariable (tag_of whole x argument) = HoldsVariable whole ⊎ HoldsVariable argument
HoldsVariable (including whole included) = HoldsVariable whole ⊎ HoldsVariable included

-- The expansions at the head of `t` include the expansion of an abbreviation of the group `group`.
pub record IsThrough (decls : List Decl) (group : ℕ) (t : Ty) : Type 0 where
  pub times : ℕ
  pub type : Ty
  pub name : List ℕ
  pub decl : Decl
  pub replaced : unfolded_times decls times t ≡ Some type
  pub named : name_of type ≡ Some name
  pub found : declaration_of decls name ≡ Some decl
  pub abbreviates : IsSome (abbreviated decl.body)
  pub own : decl.group ≡ group

-- ---- brackets

-- The tag that an item writes, or `None` if the item is an included type.
abbrev pub written_tag : PlacedItem → Option Placed
written_tag (k, tag bracket name) = Some (k, name)
written_tag (k, tag_of bracket name argument) = Some (k, name)
written_tag (k, t) = None

-- The tags that an item contributes to its bracket.
abbrev pub tags_of_item : List Decl → Ty → List (TagOf Ty)
tags_of_item decls item = tags_in (head decls item)

-- Item `i` contributes the tag `one`, and item `j`, at lexeme `k`, contributes the tag `other`.
pub record HasTags (decls : List Decl) (items : List PlacedItem) (k i j : ℕ) (one other : TagOf Ty)
    : Type 0 where
  pub position : ℕ
  pub first : Ty
  pub second : Ty
  pub first_is : slice_get items i ≡ Some (position, first)
  pub second_is : slice_get items j ≡ Some (k, second)
  pub one_there : Contains (tags_of_item decls first) one
  pub other_there : Contains (tags_of_item decls second) other

-- Two items of a bracket have a tag with one name and unequal argument types. Argument types are
-- compared as written, with unexpanded abbreviations.
abbrev pub ConflictsAt : List Decl → List PlacedItem → ℕ → Type 0
ConflictsAt decls items k =
    (i j : ℕ) × (one other : TagOf Ty) × HasTags decls items k i j one other
    × (i < j) × (one.name ≡ other.name) × (one.argument ≢ other.argument)

-- Two tags with different names have the same hash. The two tags may come from one included type.
abbrev pub HashesAt : List Decl → List PlacedItem → ℕ → Type 0
HashesAt decls items k =
    (i j : ℕ) × (one other : TagOf Ty) × HasTags decls items k i j one other
    × (i ≤ j) × (one.name ≢ other.name) × (tag_hash one.name ≡ tag_hash other.name)

-- ---- one list of occurrences, with the declarations of some groups visible

module _ (decls : List Decl) (Seen : ℕ → Type 0) (occurrences : List Occurrence) where
  -- Some bracket among the occurrences breaks a rule.
  abbrev pub BracketBreaks : (List PlacedItem → Type 0) → Type 0
  BracketBreaks Breaks =
      (items : List PlacedItem) × Contains occurrences (bracket_of items) × Breaks items

  -- The type name at lexeme `k` breaks a rule.
  abbrev pub UseBreaks : ℕ → (List ℕ → List Ty → Type 0) → Type 0
  UseBreaks k Breaks =
      (name : List ℕ) × (arguments : List Ty) × (in_tag : Bool)
      × Contains occurrences (use_of k name arguments in_tag) × Breaks name arguments

  abbrev pub IsUnseen : List ℕ → Type 0
  IsUnseen name =
      (predeclared name ≡ None)
      × ((decl : Decl) → declaration_of decls name ≡ Some decl → ¬ Seen decl.group)

  abbrev pub BreaksIn : Rule → ℕ → Type 0
  BreaksIn twice k = BracketBreaks (λ items. IsSecond (filter_map written_tag items) k)
  BreaksIn unknown_name k = UseBreaks k (λ name arguments. IsUnseen name)
  BreaksIn arity k =
      UseBreaks k (λ name arguments.
      (n : ℕ) × (arity_of decls name ≡ Some n) × (n ≢ length arguments))
  BreaksIn not_variant k =
      BracketBreaks (λ items.
      (t : Ty) × Contains items (k, including bracket t) × (¬ AreVariants (head decls t)))
  BreaksIn tag_clash k = BracketBreaks (λ items. ConflictsAt decls items k)
  BreaksIn hash_clash k = BracketBreaks (λ items. HashesAt decls items k)
  BreaksIn rule k = ⊥

-- The text of a single type breaks a rule at a lexeme. In the text of a single type, all
-- declarations are visible and all variables are allowed.
abbrev pub BreaksInType : List Decl → List Occurrence → Rule → ℕ → Type 0
BreaksInType decls occurrences rule k = BreaksIn decls (λ group. Unit {0}) occurrences rule k

-- ---- a file

abbrev pub decls_of : List DeclPositions → List Decl
decls_of all = map (λ (d : DeclPositions). d.decl) all

abbrev pub declared_names : List DeclPositions → List Placed
declared_names all = map (λ (d : DeclPositions). (d.position, d.decl.name)) all

-- The abbreviation `one` uses another abbreviation `other` of its group outside tag arguments.
pub record IsStep (all : List DeclPositions) (one other : DeclPositions) : Type 0 where
  pub first : Contains all one
  pub second : Contains all other
  pub one_group : one.decl.group ≡ other.decl.group
  pub one_abbreviates : IsSome (abbreviated one.decl.body)
  pub other_abbreviates : IsSome (abbreviated other.decl.body)
  pub position : ℕ
  pub arguments : List Ty
  pub used : Contains one.occurrences (use_of position other.decl.name arguments false)

-- A sequence of steps (`IsStep`) leads from the declaration `one` through `between` to the
-- declaration `other`.
abbrev pub AreSteps : List DeclPositions → DeclPositions → List DeclPositions → DeclPositions
    → Type 0
AreSteps all one [] other = IsStep all one other
AreSteps all one (next ∷ between) other = IsStep all one next × AreSteps all next between other

-- Each field of the record expands to `float`, and at least one field expands through an
-- abbreviation of the group `group`.
abbrev pub IsFlatThroughGroup : List Decl → ℕ → Body → Type 0
IsFlatThroughGroup decls group (bodies.Record fields) =
    ((f : Field) → Contains fields f → is_float decls f.ty ≡ true)
    × (f : Field) × Contains fields f × IsThrough decls group f.ty
IsFlatThroughGroup decls group body = ⊥

-- Each field passes one of two tests, and each test is passed by some field.
abbrev pub is_mixed_by : (Ty → Bool) → (Ty → Bool) → List Field → Bool
is_mixed_by one other fields =
    list_all (λ (field : Field). one field.ty || other field.ty) fields
    && list_any (λ (field : Field). one field.ty) fields
    && list_any (λ (field : Field). other field.ty) fields

-- Each field expands to `float` or to `_`, and fields of both types occur. If the type that `_`
-- hides is `float`, OCaml stores the record as an array of doubles. If the hidden type is another
-- type, OCaml stores the record as a block.
abbrev pub is_mixed : List Decl → List Field → Bool
is_mixed decls fields = is_mixed_by (is_float decls) (is_wildcard decls) fields

-- Tests whether the body of a declaration is a mixed record. An inline record is never mixed,
-- because an inline record is a block whatever the types of its fields are.
abbrev pub is_mixed_body : List Decl → Body → Bool
is_mixed_body decls (bodies.Record fields) = is_mixed decls fields
is_mixed_body decls body = false

module _ (all : List DeclPositions) where
  -- The name at lexeme `k` is used in its own group with an argument that contains a variable but
  -- is not a variable.
  abbrev pub IsIrregularAt : DeclPositions → ℕ → Type 0
  IsIrregularAt d k =
      UseBreaks (decls_of all) (λ group. Unit {0}) d.occurrences k (λ name arguments.
      (e : DeclPositions) × Contains all e × (e.decl.name ≡ name) × (e.decl.group ≡ d.decl.group)
      × (t : Ty) × Contains arguments t × HoldsVariable t × (¬ IsVariable t))

  -- The declaration `d` breaks a rule. The declarations of the same group and of earlier groups are
  -- visible in `d`.
  abbrev pub BreaksInDecl : DeclPositions → Rule → ℕ → Type 0
  BreaksInDecl d twice k =
      IsSecond d.parameters k ⊎ IsSecond d.constructors k
      ⊎ ((fields : List Placed) × Contains d.records fields × IsSecond fields k)
      ⊎ BreaksIn (decls_of all) (λ group. group ≤ d.decl.group) d.occurrences twice k
  BreaksInDecl d unbound_variable k =
      (name : List ℕ) × Contains d.occurrences (variable_at k name)
      × (¬ Contains d.decl.parameters name)
  BreaksInDecl d cyclic k =
      (d.position ≡ k) × (between : List DeclPositions) × AreSteps all d between d
  BreaksInDecl d irregular k = IsIrregularAt d k
  BreaksInDecl d too_many_constructors k = slice_get d.carrying 244 ≡ Some k
  BreaksInDecl d float_in_group k =
      (d.position ≡ k) × IsFlatThroughGroup (decls_of all) d.decl.group d.decl.body
  BreaksInDecl d mixed_record k =
      (d.position ≡ k) × (is_mixed_body (decls_of all) d.decl.body ≡ true)
  BreaksInDecl d rule k =
      BreaksIn (decls_of all) (λ group. group ≤ d.decl.group) d.occurrences rule k

  -- The declared type names break a rule. Type names must be distinct in the whole file, and no
  -- predeclared name may be declared.
  abbrev pub NamesBreak : Rule → ℕ → Type 0
  NamesBreak twice k =
      IsSecond (declared_names all) k
      ⊎ ((name : List ℕ) × Contains (declared_names all) (k, name) × IsSome (predeclared name))
  NamesBreak rule k = ⊥

  -- The text of a file breaks a rule at lexeme `k`.
  abbrev pub BreaksInFile : Rule → ℕ → Type 0
  BreaksInFile rule k =
      NamesBreak rule k ⊎ ((d : DeclPositions) × Contains all d × BreaksInDecl d rule k)
