-- Predeclared variants are found by their names. The lemmas also concern the instances of their
-- representations, and the types that their representations name.
use Rattle.std.proofs.Common.{ℕ, zero, suc, ◌+◌, ◌≡◌, ◌∙◌, List, [], ◌∷◌, Bool, true, false, ◌&&◌, Option, Some, None, refl, ap, sym, subst, map, length, get_or, arith}
use Rattle.std.specs.Prelude.{slice_get, Contains, ◌==◌}
use Rattle.std.proofs.lemmas.Bool.{false≢true}
use Rattle.std.proofs.lemmas.Bool.Decides.{Decides-eqb}
use Rattle.std.proofs.lemmas.Option.{none-some, same_Some}
use Rattle.base_data.proofs.model.Options.{Contains-first, Contains-later, Contains-none, map-Contains, flat_map-Contains}
use Rattle.types_spec.specs.declared.types.decl.Predeclared.{Predeclared}
use Rattle.types_spec.specs.declared.types.decl.Predeclared.TheVariants as bases
use Rattle.types_spec.specs.declared.types.predeclared.SumField.{SumField}
use Rattle.types_spec.specs.declared.types.predeclared.SumField.TheVariants as members
use Rattle.types_spec.specs.declared.types.shape.Constr.{Constr}
use Rattle.types_spec.specs.declared.types.shape.ShapeOf.TheVariants as shapes
use Rattle.types_spec.specs.types.Ty.{Ty, named, part, instance}
use Rattle.types_spec.specs.types.Declarations.{predeclared}
use Rattle.types_spec.specs.types.Predeclared.{SumBlock, Sum, Meaning, PredeclaredRow, base, sum, rows, sum_of, sum_in, sum_at, name_in, name_at}
use Rattle.types_spec.specs.types.Predeclared.{takes, applied, member_type, constr_of, shape_if, sum_shape}
use Rattle.types_spec.specs.types.Reached.{named_in}
use Rattle.types_spec.specs.types.Table.{constr_with, with_parts}

-- ---- each variant is found by the name in its own row

abbrev is_row : ℕ → Option Predeclared → Bool
is_row k (Some (bases.Sum j)) = j == k
is_row k other = false

row_is : (k : ℕ) (found : Option Predeclared) → is_row k found ≡ true → found ≡ Some (bases.Sum k)
row_is k None is = absurd (false≢true is)
row_is k (Some (bases.Sum j)) is = ap (λ (n : ℕ). Some (bases.Sum n)) ((Decides-eqb j k).0 is)
row_is k (Some other) is = absurd (false≢true is)

abbrev finds : ℕ → List ℕ → Meaning → Bool
finds k name (base known) = true
finds k name (sum known) = is_row k (predeclared name)

abbrev all_find : ℕ → List PredeclaredRow → Bool
all_find k [] = true
all_find k (row ∷ more) = finds k row.name row.meaning && all_find (suc k) more

rows_find : all_find 0 rows ≡ true
unfolding predeclared
rows_find = refl

both : (a b : Bool) → (a && b) ≡ true → (a ≡ true) × (b ≡ true)
both true b is = (refl, is)
both false b is = absurd (false≢true is)

find_at : (k i n : ℕ) (all : List PredeclaredRow) (row : PredeclaredRow) → n ≡ k + i → all_find k all ≡ true → slice_get all i ≡ Some row
    → finds n row.name row.meaning ≡ true
find_at k i n [] row number each at = absurd (none-some row at)
find_at k zero n (first ∷ all) row number each at =
    let e : k ≡ n = omega arith in
    subst (λ (m : ℕ). finds m row.name row.meaning ≡ true) e
    (subst (λ (r : PredeclaredRow). finds k r.name r.meaning ≡ true) (same_Some first row at)
    (both (finds k first.name first.meaning) (all_find (suc k) all) each).0)
find_at k (suc i) n (first ∷ all) row number each at =
    find_at (suc k) i n all row (omega arith) (both (finds k first.name first.meaning) (all_find (suc k) all) each).1 at

by_meaning : (k : ℕ) (name : List ℕ) (meaning : Meaning) (known : Sum) → sum_of meaning ≡ Some known
    → finds k name meaning ≡ true → is_row k (predeclared name) ≡ true
by_meaning k name (base other) known is found = absurd (none-some known is)
by_meaning k name (sum other) known is found = found

-- The name in the row of a variant denotes that variant.
pub sums_are_found : (k : ℕ) (known : Sum) → sum_at k ≡ Some known → predeclared (name_at k) ≡ Some (bases.Sum k)
unfolding sum_at name_at
sums_are_found k known is = go (slice_get rows k) refl
  where
    go : (found : Option PredeclaredRow) → slice_get rows k ≡ found → predeclared (name_in (slice_get rows k)) ≡ Some (bases.Sum k)
    go None at = absurd (none-some known (sym (ap sum_in at) ∙ is))
    go (Some row) at =
        ap (λ (r : Option PredeclaredRow). predeclared (name_in r)) at
        ∙ row_is k (predeclared row.name)
        (by_meaning k row.name row.meaning known (sym (ap sum_in at) ∙ is)
        (find_at 0 k k rows row (omega arith) rows_find at))

-- ---- numbers of arguments

pub takes-map : {T U : Type 0} (f : T → U) (n : ℕ) (ts : List T) → takes n (map f ts) ≡ takes n ts
takes-map f zero [] = refl
takes-map f zero (t ∷ ts) = refl
takes-map f (suc n) [] = refl
takes-map f (suc n) (t ∷ ts) = takes-map f n ts

pub takes_length : {T : Type 0} (n : ℕ) (ts : List T) → takes n ts ≡ true → n ≡ length ts
takes_length zero [] is = refl
takes_length zero (t ∷ ts) is = absurd (false≢true is)
takes_length (suc n) [] is = absurd (false≢true is)
takes_length (suc n) (t ∷ ts) is = ap suc (takes_length n ts is)

-- ---- instances

module _ (value : List ℕ → Ty) where
  abbrev inst : Ty → Ty
  inst t = instance value t

  applied-instance : (whole : Ty) (ts : List Ty) → inst (applied whole ts) ≡ applied (inst whole) (map inst ts)
  applied-instance whole [] = refl
  applied-instance whole (t ∷ ts) = applied-instance (part whole t) ts

  get-instance : (ts : List Ty) (i : ℕ) (d : Ty) → get_or (map inst ts) i (inst d) ≡ inst (get_or ts i d)
  get-instance [] i d = refl
  get-instance (t ∷ ts) zero d = refl
  get-instance (t ∷ ts) (suc i) d = get-instance ts i d

  module _ (name : List ℕ) (ts : List Ty) where
    member-instance : (m : SumField) → member_type name (map inst ts) m ≡ inst (member_type name ts m)
    member-instance (members.Argument i) =
        ap (λ (d : Ty). get_or (map inst ts) i d) (sym (applied-instance (named name) ts))
        ∙ get-instance ts i (applied (named name) ts)
    member-instance members.Itself = sym (applied-instance (named name) ts)

    members-instance : (ms : List SumField) → map (member_type name (map inst ts)) ms ≡ map inst (map (member_type name ts) ms)
    members-instance [] = refl
    members-instance (m ∷ ms) =
        ap (λ (t : Ty). t ∷ map (member_type name (map inst ts)) ms) (member-instance m)
        ∙ ap (λ (all : List Ty). inst (member_type name ts m) ∷ all) (members-instance ms)

    constr-instance : (b : SumBlock) → constr_of name (map inst ts) b ≡ constr_with inst (constr_of name ts b)
    constr-instance b =
        ap (λ (all : List Ty). let c : Constr Ty = record { mutable = b.mutable; fields = all } in c) (members-instance b.fields)

    constrs-instance : (bs : List SumBlock) → map (constr_of name (map inst ts)) bs ≡ map (constr_with inst) (map (constr_of name ts) bs)
    constrs-instance [] = refl
    constrs-instance (b ∷ bs) =
        ap (λ (c : Constr Ty). c ∷ map (constr_of name (map inst ts)) bs) (constr-instance b)
        ∙ ap (λ (all : List (Constr Ty)). constr_with inst (constr_of name ts b) ∷ all) (constrs-instance bs)

    shape_if-instance : (test : Bool) (known : Sum)
        → shape_if test known name (map inst ts) ≡ with_parts inst (shape_if test known name ts)
    shape_if-instance false known = refl
    shape_if-instance true known =
        ap (λ (all : List (Constr Ty)). shapes.Sum (length known.constants) all) (constrs-instance known.blocks)

    -- The representation of an instance of a variant is the instance of the variant's
    -- representation.
    pub sum-instance : (known : Option Sum) → sum_shape known name (map inst ts) ≡ with_parts inst (sum_shape known name ts)
    sum-instance None = refl
    sum-instance (Some known) =
        ap (λ (test : Bool). shape_if test known name (map inst ts)) (takes-map inst known.parameters ts)
        ∙ shape_if-instance (takes known.parameters ts) known

-- ---- the types that a representation names

module _ (P : Ty → Type 0) (name : List ℕ) (ts : List Ty) (each : (t : Ty) → Contains ts t → P t) where
  get_has : (d : Ty) → P d → (i : ℕ) (all : List Ty) → ((t : Ty) → Contains all t → P t) → P (get_or all i d)
  get_has d own i [] all_have = own
  get_has d own zero (t ∷ all) all_have = all_have t (Contains-first t all)
  get_has d own (suc i) (t ∷ all) all_have = get_has d own i all (λ u among. all_have u (Contains-later t all u among))

  member_has : P (applied (named name) ts) → (m : SumField) → P (member_type name ts m)
  member_has own (members.Argument i) = get_has (applied (named name) ts) own i ts each
  member_has own members.Itself = own

  shape_if_has : (test : Bool) (known : Sum) → (test ≡ true → P (applied (named name) ts)) → (a : Ty)
      → Contains (named_in (shape_if test known name ts)) a → P a
  shape_if_has false known own a among = absurd (Contains-none a among)
  shape_if_has true known own a among =
      let block = flat_map-Contains (λ (c : Constr Ty). c.fields) (map (constr_of name ts) known.blocks) a among in
      let source = map-Contains (constr_of name ts) known.blocks block.0 block.1 in
      let listed : Contains (map (member_type name ts) source.0.fields) a =
      subst (λ (c : Constr Ty). Contains c.fields a) (sym source.2) block.2 in
      let member = map-Contains (member_type name ts) source.0.fields a listed in
      subst P member.2 (member_has (own refl) member.0)

  -- If the arguments and the variant itself have a property, then each type that the representation
  -- names has the property.
  pub sum_has : (known : Option Sum)
      → ((s : Sum) → known ≡ Some s → takes s.parameters ts ≡ true → P (applied (named name) ts))
      → (a : Ty) → Contains (named_in (sum_shape known name ts)) a → P a
  sum_has None own a among = absurd (Contains-none a among)
  sum_has (Some s) own a among = shape_if_has (takes s.parameters ts) s (own s refl) a among
