-- Small files that break scope rules. Lexemes are numbered from 0. A name comes before its
-- arguments, and a bracket before its items.
use Rattle.std.proofs.Common.{ℕ, ◌≡◌, ⊎_elim, inr, List, [], ◌∷◌, length, true, false, Option}
use Rattle.std.proofs.Common.{Some, None}
use Rattle.std.proofs.Common.{refl, ap, subst, arith}
use Rattle.std.specs.Prelude.{codes, Contains, slice_index}
use Rattle.std.proofs.lemmas.Option.{none-some}
use Rattle.types_spec.specs.declared.types.decl.Field.{Field}
use Rattle.types_spec.specs.declared.types.decl.Arguments.TheVariants as arguments
use Rattle.types_spec.specs.declared.types.decl.Body.{Body}
use Rattle.types_spec.specs.declared.types.decl.Body.TheVariants as bodies
use Rattle.types_spec.specs.declared.types.decl.Decl.{Decl}
use Rattle.types_spec.specs.declared.types.head.TagOf.{TagOf}
use Rattle.types_spec.specs.types.Ty.{Ty, variable, named, bracket, part, tag, tag_of, including}
use Rattle.types_spec.specs.types.Declarations.{predeclared}
use Rattle.types_spec.specs.types.Head.{head}
use Rattle.types_spec.specs.types.Shape.{is_float}
use Rattle.types_spec.specs.types.Occurrence.{Placed, PlacedItem, Occurrence, use_of, variable_at}
use Rattle.types_spec.specs.types.Occurrence.{bracket_of}
use Rattle.types_spec.specs.types.Occurrence.{DeclPositions}
use Rattle.types_spec.specs.types.Scope.{unknown_name, cyclic, irregular, not_variant, tag_clash}
use Rattle.types_spec.specs.types.Scope.{hash_clash}
use Rattle.types_spec.specs.types.Scope.{float_in_group, IsStep, IsThrough, HasTags, BreaksInFile}
use Rattle.types_spec.specs.types.Scope.{BreaksInType, is_mixed_body, mixed_record}
use Rattle.base_data.proofs.model.Options.{Contains-first, Contains-later, Contains-none, Contains-cases}

abbrev declares : List ℕ → List (List ℕ) → Body → ℕ → Decl
declares name parameters body group =
    record { name = name; parameters = parameters; body = body; group = group }

abbrev positions : Decl → ℕ → List Placed → List Occurrence → DeclPositions
positions decl position parameters occurrences = record {
  decl = decl;
  position = position;
  parameters = parameters;
  records = [];
  constructors = [];
  carrying = [];
  occurrences = occurrences;
}

abbrev int : Ty
int = named (codes "int")

-- ---- `type t = t list`

abbrev list_of_t : Ty
list_of_t = part (named (codes "list")) (named (codes "t"))

abbrev uses : List Occurrence
uses = use_of 4 (codes "list") (named (codes "t") ∷ []) false ∷ use_of 3 (codes "t") [] false ∷ []

abbrev looped : DeclPositions
looped = positions (declares (codes "t") [] (bodies.Abbreviation list_of_t) 0) 1 [] uses

step : IsStep (looped ∷ []) looped looped
step = record {
  first = Contains-first looped [];
  second = Contains-first looped [];
  one_group = refl;
  one_abbreviates = refl;
  other_abbreviates = refl;
  position = 3;
  arguments = [];
  used = Contains-later (use_of 4 (codes "list") (named (codes "t") ∷ []) false)
      (use_of 3 (codes "t") [] false ∷ []) (use_of 3 (codes "t") [] false)
      (Contains-first (use_of 3 (codes "t") [] false) []);
}

-- The rule `cyclic` is broken at the declared name.
is_cyclic : BreaksInFile (looped ∷ []) cyclic 1
is_cyclic = inr (looped, Contains-first looped [], (refl, [], step))

-- ---- `type 'a t = N | C of 'a list t`

abbrev a : Ty
a = variable (codes "a")

abbrev list_of_a : Ty
list_of_a = part (named (codes "list")) a

abbrev own_use : Occurrence
own_use = use_of 10 (codes "t") (list_of_a ∷ []) false

abbrev inner : List Occurrence
inner = use_of 9 (codes "list") (a ∷ []) false ∷ variable_at 8 (codes "a") ∷ []

abbrev growing_decl : Decl
growing_decl = declares (codes "t") (codes "a" ∷ [])
    (bodies.Variant (record { name = codes "N"; arguments = arguments.Constant }
    ∷ record {
      name = codes "C";
      arguments = arguments.Listed (part (named (codes "t")) list_of_a ∷ []);
    } ∷ [])) 0

abbrev growing : DeclPositions
growing = record (positions growing_decl 2 ((1, codes "a") ∷ []) (own_use ∷ inner)) {
  constructors = (4, codes "N") ∷ (6, codes "C") ∷ [];
  carrying = 6 ∷ [];
}

-- The rule `irregular` is broken at the use of the name.
is_irregular : BreaksInFile (growing ∷ []) irregular 10
is_irregular = inr (
  growing,
  Contains-first growing [],
  (
    codes "t",
    list_of_a ∷ [],
    false,
    Contains-first own_use inner,
    (
      growing,
      Contains-first growing [],
      refl,
      refl,
      list_of_a,
      Contains-first list_of_a [],
      inr tt,
      λ never. never,
    ),
  ),
)

-- ---- `type r = {x: f} and f = float`

abbrev x : Field
x = record { name = codes "x"; mutable = false; ty = named (codes "f") }

abbrev f_decl : Decl
f_decl = declares (codes "f") [] (bodies.Abbreviation (named (codes "float"))) 0

abbrev r_positions : DeclPositions
r_positions = record (positions (declares (codes "r") [] (bodies.Record (x ∷ [])) 0) 1 []
    (use_of 6 (codes "f") [] false ∷ [])) {
      records = ((4, codes "x") ∷ []) ∷ [];
    }

abbrev f_positions : DeclPositions
f_positions = positions f_decl 9 [] (use_of 11 (codes "float") [] false ∷ [])

abbrev both : List DeclPositions
both = r_positions ∷ f_positions ∷ []

through : IsThrough (r_positions.decl ∷ f_decl ∷ []) 0 (named (codes "f"))
through = record {
  times = 0;
  type = named (codes "f");
  name = codes "f";
  decl = f_decl;
  replaced = refl;
  named = refl;
  found = refl;
  abbreviates = refl;
  own = refl;
}

expands : is_float (r_positions.decl ∷ f_decl ∷ []) (named (codes "f")) ≡ true
unfolding head predeclared
expands = refl

all_expand : (field : Field) → Contains (x ∷ []) field → is_float (r_positions.decl ∷ f_decl ∷ [])
    field.ty ≡ true
all_expand field among = ⊎_elim
    (λ here. subst (λ (g : Field). is_float (r_positions.decl ∷ f_decl ∷ []) g.ty ≡ true) here expands)
    (λ never. absurd (Contains-none field never))
    (Contains-cases x [] field among)

-- The rule `float_in_group` is broken at the record's name.
is_float_in_group : BreaksInFile both float_in_group 1
is_float_in_group =
    inr (
      r_positions,
      Contains-first r_positions (f_positions ∷ []),
      (refl, (all_expand, x, Contains-first x [], through)),
    )

-- ---- `type r = {x: float; y: _}`

abbrev mixed_body : Body
mixed_body =
    bodies.Record (record { name = codes "x"; mutable = false; ty = named (codes "float") }
    ∷ record { name = codes "y"; mutable = false; ty = named (codes "_") } ∷ [])

abbrev mixed : DeclPositions
mixed = record (positions (declares (codes "r") [] mixed_body 0) 1 []
    (use_of 6 (codes "float") [] false ∷ use_of 10 (codes "_") [] false ∷ [])) {
      records = ((4, codes "x") ∷ (8, codes "y") ∷ []) ∷ [];
    }

has_both : is_mixed_body (mixed.decl ∷ []) mixed_body ≡ true
unfolding head predeclared
has_both = refl

-- The rule `mixed_record` is broken at the record's name.
is_mixed_record : BreaksInFile (mixed ∷ []) mixed_record 1
is_mixed_record = inr (mixed, Contains-first mixed [], (refl, has_both))

-- ---- TYPE foo

abbrev foo : Occurrence
foo = use_of 0 (codes "foo") [] false

is_unknown : BreaksInType [] (foo ∷ []) unknown_name 0
unfolding predeclared
is_unknown = (
  codes "foo",
  [],
  false,
  Contains-first foo [],
  (
    refl,
    λ decl found seen.
        none-some decl found,
  ),
)

-- ---- TYPE [ `azdwbie | `c7diagq ]

abbrev first_tag : TagOf Ty
first_tag = record { name = codes "azdwbie"; argument = None }

abbrev second_tag : TagOf Ty
second_tag = record { name = codes "c7diagq"; argument = None }

abbrev hashed : List PlacedItem
hashed = (1, tag bracket (codes "azdwbie")) ∷ (3, tag bracket (codes "c7diagq")) ∷ []

has_tags : HasTags [] hashed 3 0 1 first_tag second_tag
unfolding head
has_tags = record {
  position = 1;
  first = tag bracket (codes "azdwbie");
  second = tag bracket (codes "c7diagq");
  first_is = refl;
  second_is = refl;
  one_there = Contains-first first_tag [];
  other_there = Contains-first second_tag [];
}

names_differ : codes "azdwbie" ≡ codes "c7diagq" → ⊥
names_differ same = let e : 97 ≡ 99 = ap (λ name. slice_index name 0) same in omega (arith, e)

-- The rule `hash_clash` is broken at the later tag.
is_hash_clash : BreaksInType [] (bracket_of hashed ∷ []) hash_clash 3
is_hash_clash = (
  hashed,
  Contains-first (bracket_of hashed) [],
  (0, 1, first_tag, second_tag, has_tags, omega arith, names_differ, refl),
)

-- ---- TYPE [ int | `A ]

abbrev with_int : List PlacedItem
with_int = (1, including bracket int) ∷ (3, tag bracket (codes "A")) ∷ []

abbrev of_with_int : List Occurrence
of_with_int = bracket_of with_int ∷ use_of 1 (codes "int") [] false ∷ []

-- The rule `not_variant` is broken at the included type.
is_not_variant : BreaksInType [] of_with_int not_variant 1
unfolding head predeclared
is_not_variant = (
  with_int,
  Contains-first (bracket_of with_int) (use_of 1 (codes "int") [] false ∷ []),
  (
    int,
    Contains-first (1, including bracket int) ((3, tag bracket (codes "A")) ∷ []),
    λ never.
        never,
  ),
)

-- ---- type t = [ `A of int ] type u = [ t | `A of string ]

abbrev t_decl : Decl
t_decl = declares (codes "t") [] (bodies.Abbreviation (tag_of bracket (codes "A") int)) 0

abbrev conflicting : List PlacedItem
conflicting = (12, including bracket (named (codes "t"))) ∷ (
  14,
  tag_of bracket (codes "A")
      (named (codes "string")),
) ∷ []

abbrev of_int : TagOf Ty
of_int = record { name = codes "A"; argument = Some int }

abbrev of_string : TagOf Ty
of_string = record { name = codes "A"; argument = Some (named (codes "string")) }

abbrev string_use : Occurrence
string_use = use_of 16 (codes "string") [] true

abbrev u_decl : Decl
u_decl = declares (codes "u") []
    (bodies.Abbreviation (tag_of (including bracket (named (codes "t"))) (codes "A")
    (named (codes "string")))) 1

abbrev t_positions : DeclPositions
t_positions = positions t_decl 1 []
    (bracket_of ((4, tag_of bracket (codes "A") int) ∷ []) ∷ use_of 6 (codes "int") [] true ∷ [])

abbrev u_positions : DeclPositions
u_positions = positions u_decl 9 []
    (bracket_of conflicting ∷ use_of 12 (codes "t") [] false ∷ string_use ∷ [])

tags_clash : HasTags (t_decl ∷ u_decl ∷ []) conflicting 14 0 1 of_int of_string
unfolding head
tags_clash = record {
  position = 12;
  first = including bracket (named (codes "t"));
  second = tag_of bracket (codes "A") (named (codes "string"));
  first_is = refl;
  second_is = refl;
  one_there = Contains-first of_int [];
  other_there = Contains-first of_string [];
}

letters : Option Ty → ℕ
letters (Some (named name)) = length name
letters other = 0

arguments_differ : of_int.argument ≡ of_string.argument → ⊥
unfolding letters
arguments_differ same = let e : 3 ≡ 6 = ap letters same in omega (arith, e)

-- The rule `tag_clash` is broken at the later item.
is_tag_clash : BreaksInFile (t_positions ∷ u_positions ∷ []) tag_clash 14
is_tag_clash = inr (
  u_positions,
  Contains-later t_positions (u_positions ∷ []) u_positions (Contains-first u_positions []),
  (
    conflicting,
    Contains-first (bracket_of conflicting) (use_of 12 (codes "t") [] false ∷ string_use ∷ []),
    (0, 1, of_int, of_string, tags_clash, omega arith, refl, arguments_differ),
  ),
)
