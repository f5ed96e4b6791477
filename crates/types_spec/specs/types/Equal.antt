-- Type equality: a finite list of pairs of types justifies each equality, although types can recur
-- through polymorphic variants (Henry, Mauny, Chailloux and Manoury 2012).
use Rattle.std.specs.Prelude.{◌≡◌, List, [], ◌∷◌, Option, Some, None, Contains}
use Rattle.types_spec.specs.declared.types.decl.Decl.{Decl}
use Rattle.types_spec.specs.declared.types.head.TagOf.{TagOf}
use Rattle.types_spec.specs.declared.types.head.HeadOf.{HeadOf}
use Rattle.types_spec.specs.declared.types.head.HeadOf.TheVariants as heads
use Rattle.types_spec.specs.types.Ty.{Ty}
use Rattle.types_spec.specs.types.Head.{head}
use Rattle.types_spec.specs.types.Shape.{shape}
use Rattle.types_spec.specs.types.Shapes.{Shapes}
use Rattle.types_spec.specs.types.Fitting.{shaped}

module _ {T : Type 0} where
  -- The two lists have the same length, and at each position `Similar` relates the two types.
  abbrev pub Pairwise : (T → T → Type 0) → List T → List T → Type 0
  Pairwise Similar [] [] = Unit {0}
  Pairwise Similar (t ∷ ts) (u ∷ us) = Similar t u × Pairwise Similar ts us
  Pairwise Similar ts us = ⊥

  abbrev pub ArgumentsAgree : (T → T → Type 0) → Option T → Option T → Type 0
  ArgumentsAgree Similar None None = Unit {0}
  ArgumentsAgree Similar (Some t) (Some u) = Similar t u
  ArgumentsAgree Similar t u = ⊥

  abbrev pub TagsAgree : (T → T → Type 0) → TagOf T → TagOf T → Type 0
  TagsAgree Similar one other =
      (one.name ≡ other.name) × ArgumentsAgree Similar one.argument other.argument

  -- For each tag of either list, the other list contains a tag with the same name, and `Similar`
  -- relates the arguments of the two tags.
  pub record SameTags (Similar : T → T → Type 0) (tags others : List (TagOf T)) : Type 0 where
    pub there :
        (tag : TagOf T) → Contains tags tag
        → (other : TagOf T) × Contains others other × TagsAgree Similar tag other
    pub back :
        (other : TagOf T) → Contains others other
        → (tag : TagOf T) × Contains tags tag × TagsAgree Similar tag other

  -- Two heads agree: the heads are the same variable, predeclared type or datatype, or tuples of
  -- the same length, or have the same tags. `Similar` relates the parts of the two heads.
  abbrev pub HeadsAgree : (T → T → Type 0) → HeadOf T → HeadOf T → Type 0
  HeadsAgree Similar (heads.Variable x) (heads.Variable y) = x ≡ y
  HeadsAgree Similar (heads.Predeclared b ts) (heads.Predeclared c us) =
      (b ≡ c) × Pairwise Similar ts us
  HeadsAgree Similar (heads.Datatype m ts) (heads.Datatype n us) = (m ≡ n) × Pairwise Similar ts us
  HeadsAgree Similar (heads.Tuple ts) (heads.Tuple us) = Pairwise Similar ts us
  HeadsAgree Similar (heads.Variants tags) (heads.Variants others) = SameTags Similar tags others
  HeadsAgree Similar heads.Absent heads.Absent = Unit {0}
  HeadsAgree Similar one other = ⊥

  -- The list `pairs` contains the pair of `t` and `u`.
  abbrev pub Holds : List (T × T) → T → T → Type 0
  Holds pairs t u = Contains pairs (t, u)

  -- A list of pairs is closed: the heads of each pair agree, and the list contains the pairs of the
  -- heads' parts.
  abbrev pub IsClosed : (T → HeadOf T) → List (T × T) → Type 0
  IsClosed head pairs = (t u : T) → Holds pairs t u → HeadsAgree (Holds pairs) (head t) (head u)

  -- `t` and `u` are equal by their heads: some closed list contains the pair of `t` and `u`.
  pub record EqualBy (head : T → HeadOf T) (t u : T) : Type 0 where
    pub pairs : List (T × T)
    pub holds : Holds pairs t u
    pub closed : IsClosed head pairs

-- Equality of two types over the declarations `decls`.
abbrev pub Equal : List Decl → Ty → Ty → Type 0
Equal decls = EqualBy (head decls)

-- The interface `Shapes` for types over the declarations `decls`.
abbrev pub declared_shapes : List Decl → Shapes Ty
declared_shapes decls = shaped (shape decls) (Equal decls)
