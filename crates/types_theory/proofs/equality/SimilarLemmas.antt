-- Two types are equivalent (`Similar`) if they are equal up to parts that a closed list of pairs
-- makes equal. If two types are equivalent, then the expansions of the abbreviations at their heads
-- are equivalent. Therefore the proof that equal types require fields at equal types does not need
-- regular declarations.
use Rattle.std.proofs.Common.{ℕ, ◌≡◌, ◌⊎◌, ⊎_elim, inl, inr, List, [], ◌∷◌, ◌++◌, Bool, true, false}
use Rattle.std.proofs.Common.{Option, Some, None, refl, ap, subst}
use Rattle.std.specs.Prelude.{cond, option_map}
use Rattle.std.specs.Str.{bytes_eq}
use Rattle.types_spec.specs.declared.types.decl.Body.TheVariants as bodies
use Rattle.types_spec.specs.declared.types.decl.Decl.{Decl}
use Rattle.types_spec.specs.declared.types.decl.Body.{Body}
use Rattle.types_spec.specs.types.Ty.{Ty, variable, named, tuple, bracket, part, tag, tag_of, including}
use Rattle.types_spec.specs.types.Ty.{name_of, parts, instance, argument_for}
use Rattle.types_spec.specs.types.WellFormed.{IsVariable, IsWhole, IsType}
use Rattle.types_spec.specs.types.Declarations.{unfolded, abbreviated_at, abbreviated_by, abbreviated}
use Rattle.types_spec.specs.types.Declarations.{declaration_of}
use Rattle.types_spec.specs.types.Equal.{Pairwise, Holds}

-- If the body is an abbreviation, then the abbreviated type is a type of the grammar.
abbrev pub HasTypes : Body → Type 0
HasTypes (bodies.Abbreviation t) = IsType t
HasTypes (bodies.Record fields) = Unit {0}
HasTypes (bodies.Variant constructors) = Unit {0}

module _ (pairs : List (Ty × Ty)) where
  -- One type equals the other up to parts that are pairs of the list.
  abbrev pub Whole : Ty → Ty → Type 0
  Whole (variable x) (variable y) = x ≡ y
  Whole (named m) (named n) = m ≡ n
  Whole tuple tuple = Unit {0}
  Whole bracket bracket = Unit {0}
  Whole (part t a) (part u b) = Whole t u × (Holds pairs a b ⊎ Whole a b)
  Whole (tag t x) (tag u y) = Whole t u × (x ≡ y)
  Whole (tag_of t x a) (tag_of u y b) = Whole t u × (x ≡ y) × (Holds pairs a b ⊎ Whole a b)
  Whole (including t a) (including u b) = Whole t u × (Holds pairs a b ⊎ Whole a b)
  Whole t u = ⊥

  abbrev pub Similar : Ty → Ty → Type 0
  Similar t u = Holds pairs t u ⊎ Whole t u

  -- ---- instances

  module _ (one other : List ℕ → Ty) (similar : (x : List ℕ) → Similar (one x) (other x)) where
    variables_similar : (t : Ty) → IsVariable t → Similar (instance one t) (instance other t)
    variables_similar (variable x) is = similar x
    variables_similar t is = absurd is

    wholes_similar : (t : Ty) → IsWhole t → Whole (instance one t) (instance other t)
    wholes_similar (variable x) whole = absurd whole
    wholes_similar (named n) whole = refl
    wholes_similar tuple whole = tt
    wholes_similar bracket whole = tt
    wholes_similar (part t a) whole = (
      wholes_similar t whole.0,
      ⊎_elim (λ is. variables_similar a is) (λ is. inr (wholes_similar a is))
          whole.1,
    )
    wholes_similar (tag t x) whole = (wholes_similar t whole, refl)
    wholes_similar (tag_of t x a) whole = (
      wholes_similar t whole.0,
      refl,
      ⊎_elim (λ is. variables_similar a is)
          (λ is. inr (wholes_similar a is)) whole.1,
    )
    wholes_similar (including t a) whole = (
      wholes_similar t whole.0,
      ⊎_elim (λ is. variables_similar a is) (λ is. inr (wholes_similar a is))
          whole.1,
    )

    pub instances_similar : (t : Ty) → IsType t → Similar (instance one t) (instance other t)
    instances_similar t (inl is) = variables_similar t is
    instances_similar t (inr is) = inr (wholes_similar t is)

  chosen_similar : (test : Bool) (t u a b : Ty) → Similar t u → Similar a b
      → Similar (cond test t a) (cond test u b)
  chosen_similar true t u a b first later = first
  chosen_similar false t u a b first later = later

  pub arguments_similar :
      (parameters : List (List ℕ)) (ts us : List Ty) → Pairwise Similar ts us → (x : List ℕ)
      → Similar (argument_for parameters ts x) (argument_for parameters us x)
  arguments_similar [] ts us similar x = inr refl
  arguments_similar (p ∷ ps) [] [] similar x = inr refl
  arguments_similar (p ∷ ps) [] (u ∷ us) similar x = absurd similar
  arguments_similar (p ∷ ps) (t ∷ ts) [] similar x = absurd similar
  arguments_similar (p ∷ ps) (t ∷ ts) (u ∷ us) similar x =
      chosen_similar (bytes_eq p x) t u (argument_for ps ts x) (argument_for ps us x) similar.0
      (arguments_similar ps ts us similar.1 x)

  -- ---- names and parts

  names_same : (t u : Ty) → Whole t u → name_of t ≡ name_of u
  names_same (variable x) (variable y) whole = refl
  names_same (named m) (named n) whole = ap Some whole
  names_same tuple tuple whole = refl
  names_same bracket bracket whole = refl
  names_same (part t a) (part u b) whole = names_same t u whole.0
  names_same (tag t x) (tag u y) whole = refl
  names_same (tag_of t x a) (tag_of u y b) whole = refl
  names_same (including t a) (including u b) whole = refl
  names_same t u whole = absurd whole

  Pairwise-push : (ts us : List Ty) (t u : Ty) → Pairwise Similar ts us → Similar t u
      → Pairwise Similar (ts ++ t ∷ []) (us ++ u ∷ [])
  Pairwise-push [] [] t u similar last = (last, tt)
  Pairwise-push [] (b ∷ us) t u similar last = absurd similar
  Pairwise-push (a ∷ ts) [] t u similar last = absurd similar
  Pairwise-push (a ∷ ts) (b ∷ us) t u similar last = (similar.0, Pairwise-push ts us t u similar.1 last)

  parts_similar : (t u : Ty) → Whole t u → Pairwise Similar (parts t) (parts u)
  parts_similar (variable x) (variable y) whole = tt
  parts_similar (named m) (named n) whole = tt
  parts_similar tuple tuple whole = tt
  parts_similar bracket bracket whole = tt
  parts_similar (part t a) (part u b) whole =
      Pairwise-push (parts t) (parts u) a b (parts_similar t u whole.0) whole.1
  parts_similar (tag t x) (tag u y) whole = tt
  parts_similar (tag_of t x a) (tag_of u y b) whole = tt
  parts_similar (including t a) (including u b) whole = tt
  parts_similar t u whole = absurd whole

  -- ---- abbreviations

  -- Either neither of two types has an abbreviation at its head, or each type has an abbreviation
  -- at its head and the two expansions are equivalent.
  abbrev pub BothUnfold : Option Ty → Option Ty → Type 0
  BothUnfold None None = Unit {0}
  BothUnfold (Some t) (Some u) = Similar t u
  BothUnfold t u = ⊥

  body_unfolds : (body : Body) → HasTypes body → (one other : List ℕ → Ty)
      → ((x : List ℕ) → Similar (one x) (other x))
      → BothUnfold (option_map (instance one) (abbreviated body))
      (option_map (instance other) (abbreviated body))
  body_unfolds (bodies.Abbreviation t) types one other similar =
      instances_similar one other similar t types
  body_unfolds (bodies.Record fields) types one other similar = tt
  body_unfolds (bodies.Variant constructors) types one other similar = tt

  module _ (decls : List Decl) (typed : (name : List ℕ) (d : Decl)
      → declaration_of decls name ≡ Some d → HasTypes d.body) where
    found_unfolds : (found : Option Decl) → ((d : Decl) → found ≡ Some d → HasTypes d.body)
        → (ts us : List Ty) → Pairwise Similar ts us → BothUnfold (abbreviated_at found ts)
        (abbreviated_at found us)
    found_unfolds None known ts us similar = tt
    found_unfolds (Some d) known ts us similar =
        body_unfolds d.body (known d refl) (argument_for d.parameters ts)
        (argument_for d.parameters us) (arguments_similar d.parameters ts us similar)

    name_unfolds : (name : Option (List ℕ)) (ts us : List Ty) → Pairwise Similar ts us
        → BothUnfold (abbreviated_by decls name ts) (abbreviated_by decls name us)
    name_unfolds None ts us similar = tt
    name_unfolds (Some name) ts us similar =
        found_unfolds (declaration_of decls name) (typed name) ts us similar

    pub unfolded_similar : (t u : Ty) → Whole t u → BothUnfold (unfolded decls t) (unfolded decls u)
    unfolded_similar t u whole =
        subst (λ name. BothUnfold (unfolded decls t) (abbreviated_by decls name (parts u)))
        (names_same t u whole) (name_unfolds (name_of t) (parts t) (parts u)
        (parts_similar t u whole))
