-- The head of a type needs finitely many expansions: each expansion lowers a weight, and the weight
-- is below the bound on expansions.
use Rattle.std.proofs.Common.{ℕ, suc, ◌+◌, ◌-◌, ◌*◌, ◌<◌, ◌≤◌, ◌≡◌, ◌∙◌, ⊎_elim, inl, inr, List, []}
use Rattle.std.proofs.Common.{◌∷◌, length, Bool, true, false, Option, Some, None, refl, sym, ap}
use Rattle.std.proofs.Common.{subst, arith}
use Rattle.std.specs.Prelude.{max, ◌^◌, Contains, cond, option_map}
use Rattle.std.specs.Str.{bytes_eq}
use Rattle.std.proofs.Math.Nat.{le-max_left, le-max_right, max-le, pow-suc, one-le-pow}
use Rattle.std.proofs.Math.Nat.{pow-le-pow_right, mul_assoc}
use Rattle.std.proofs.lemmas.Nat.{mul-le}
use Rattle.std.proofs.lemmas.Option.{same_Some, none-some}
use Rattle.std.proofs.lemmas.List.Elements.{Contains-append_cases}
use Rattle.types_spec.specs.declared.types.decl.Decl.{Decl}
use Rattle.types_spec.specs.types.Ty.{Ty, variable, named, tuple, bracket, part, tag, tag_of, including}
use Rattle.types_spec.specs.types.Ty.{name_of, parts, depth, instance, argument_for}
use Rattle.types_spec.specs.types.WellFormed.{IsVariable, IsWhole, IsType}
use Rattle.types_spec.specs.types.Declarations.{unfolded, abbreviated_at, abbreviated_by, abbreviated}
use Rattle.types_spec.specs.types.Declarations.{declaration_of}
use Rattle.types_spec.specs.types.Head.{enough}
use Rattle.base_data.proofs.model.Options.{Contains-first, Contains-later, Contains-none, Contains-cases}

module _ (cost : List ℕ → ℕ) (positive : (name : List ℕ) → 0 < cost name) where
  -- The cost of the name at the start of a type.
  abbrev own : Ty → ℕ
  own (variable x) = 1
  own (named name) = cost name
  own tuple = 1
  own bracket = 1
  own (part whole added) = own whole
  own (tag whole x) = own whole
  own (tag_of whole x argument) = own whole
  own (including whole included) = own whole

  -- The largest sum of costs along a path down the tree of a type. No path enters a tag argument.
  abbrev pub weight : Ty → ℕ
  weight (variable x) = 0
  weight (named name) = cost name
  weight tuple = 1
  weight bracket = 1
  weight (part whole added) = max (weight whole) (own whole + weight added)
  weight (tag whole x) = weight whole
  weight (tag_of whole x argument) = weight whole
  weight (including whole included) = max (weight whole) (own whole + weight included)

  own_positive : (t : Ty) → 0 < own t
  own_positive (variable x) = omega arith
  own_positive (named name) = positive name
  own_positive tuple = omega arith
  own_positive bracket = omega arith
  own_positive (part whole added) = own_positive whole
  own_positive (tag whole x) = own_positive whole
  own_positive (tag_of whole x argument) = own_positive whole
  own_positive (including whole included) = own_positive whole

  pub by_part : (t a : Ty) → weight t ≤ weight (part t a)
  by_part t a = le-max_left (weight t) (own t + weight a)

  pub by_including : (t a : Ty) → weight t ≤ weight (including t a)
  by_including t a = le-max_left (weight t) (own t + weight a)

  pub inside : (t a : Ty) → weight a < weight (including t a)
  inside t a = omega (arith, own_positive t, le-max_right (weight t) (own t + weight a))

  pub beside : (t a : Ty) → weight a ≤ weight (part t a)
  beside t a = omega (arith, le-max_right (weight t) (own t + weight a))

  -- ---- a name and its arguments

  own_name : (t : Ty) (name : List ℕ) → name_of t ≡ Some name → own t ≡ cost name
  own_name (named n) name is = ap cost (same_Some n name is)
  own_name (part whole added) name is = own_name whole name is
  own_name t name is = absurd (none-some name is)

  name_weight : (t : Ty) (name : List ℕ) → name_of t ≡ Some name → cost name ≤ weight t
  name_weight (named n) name is = omega (arith, ap cost (same_Some n name is))
  name_weight (part whole added) name is =
      omega (arith, name_weight whole name is, by_part whole added)
  name_weight t name is = absurd (none-some name is)

  argument_weight :
      (t : Ty) (name : List ℕ) (a : Ty) → name_of t ≡ Some name → Contains (parts t) a
      → cost name + weight a ≤ weight t
  argument_weight (named n) name a is among = absurd (Contains-none a among)
  argument_weight (part whole added) name a is among = ⊎_elim
      (λ prefix. omega (arith, argument_weight whole name a is prefix, by_part whole added))
      (λ last. ⊎_elim
      (λ here. subst (λ b. cost name + weight b ≤ weight (part whole added)) here
      (omega (
        arith,
        own_name whole name is,
        le-max_right (weight whole)
            (own whole + weight added),
      )))
      (λ never. absurd (Contains-none a never))
      (Contains-cases added [] a last))
      (Contains-append_cases (parts whole) (added ∷ []) a among)
  argument_weight t name a is among = absurd (none-some name is)

  chosen_below : (test : Bool) (t u : Ty) (m : ℕ) → weight t ≤ m → weight u ≤ m
      → weight (cond test t u) ≤ m
  chosen_below true t u m first later = first
  chosen_below false t u m first later = later

  value_below : (parameters : List (List ℕ)) (ts : List Ty) (m : ℕ)
      → ((a : Ty) → Contains ts a → weight a ≤ m) → (x : List ℕ)
      → weight (argument_for parameters ts x) ≤ m
  value_below [] ts m below x = omega arith
  value_below (p ∷ ps) [] m below x = omega arith
  value_below (p ∷ ps) (t ∷ ts) m below x =
      chosen_below (bytes_eq p x) t (argument_for ps ts x) m (below t (Contains-first t ts))
      (value_below ps ts m (λ a among. below a (Contains-later t ts a among)) x)

  -- ---- instances

  module _ (value : List ℕ → Ty) (m : ℕ) (below : (x : List ℕ) → weight (value x) ≤ m) where
    own_instance : (t : Ty) → IsWhole t → own (instance value t) ≡ own t
    own_instance (variable x) whole = absurd whole
    own_instance (named name) whole = refl
    own_instance tuple whole = refl
    own_instance bracket whole = refl
    own_instance (part t a) whole = own_instance t whole.0
    own_instance (tag t x) whole = own_instance t whole
    own_instance (tag_of t x a) whole = own_instance t whole.0
    own_instance (including t a) whole = own_instance t whole.0

    variable_weight : (t : Ty) → IsVariable t → weight (instance value t) ≤ m
    variable_weight (variable x) is = below x
    variable_weight t is = absurd is

    mutual_bound : (t a : Ty) → own (instance value t) ≡ own t → weight (instance value t) ≤ weight
        t + m → weight (instance value a) ≤ weight a + m → max (weight (instance value t))
        (own (instance value t) + weight (instance value a)) ≤ max (weight t) (own t + weight a) + m
    mutual_bound t a same first later = max-le
        (omega (arith, first, le-max_left (weight t) (own t + weight a)))
        (omega (arith, same, later, le-max_right (weight t) (own t + weight a)))

    whole_weight : (t : Ty) → IsWhole t → weight (instance value t) ≤ weight t + m
    whole_weight (variable x) whole = absurd whole
    whole_weight (named name) whole = omega arith
    whole_weight tuple whole = omega arith
    whole_weight bracket whole = omega arith
    whole_weight (part t a) whole =
        mutual_bound t a (own_instance t whole.0) (whole_weight t whole.0)
        (⊎_elim (λ is. omega (arith, variable_weight a is)) (λ is. whole_weight a is) whole.1)
    whole_weight (tag t x) whole = whole_weight t whole
    whole_weight (tag_of t x a) whole = whole_weight t whole.0
    whole_weight (including t a) whole =
        mutual_bound t a (own_instance t whole.0) (whole_weight t whole.0)
        (⊎_elim (λ is. omega (arith, variable_weight a is)) (λ is. whole_weight a is) whole.1)

    pub instance_weight : (t : Ty) → IsType t → weight (instance value t) ≤ weight t + m
    instance_weight t (inl is) = omega (arith, variable_weight t is)
    instance_weight t (inr is) = whole_weight t is

  -- ---- depth

  -- Each name of the type outside tag arguments costs at most `c`.
  abbrev pub CostsWithin : ℕ → Ty → Type 0
  CostsWithin c (variable x) = Unit {0}
  CostsWithin c (named name) = cost name ≤ c
  CostsWithin c tuple = Unit {0}
  CostsWithin c bracket = Unit {0}
  CostsWithin c (part whole added) = CostsWithin c whole × CostsWithin c added
  CostsWithin c (tag whole x) = CostsWithin c whole
  CostsWithin c (tag_of whole x argument) = CostsWithin c whole
  CostsWithin c (including whole included) = CostsWithin c whole × CostsWithin c included

  module _ (c : ℕ) (some : 0 < c) where
    own_within : (t : Ty) → CostsWithin c t → own t ≤ c
    own_within (variable x) within = omega arith
    own_within (named name) within = within
    own_within tuple within = omega arith
    own_within bracket within = omega arith
    own_within (part whole added) within = own_within whole within.0
    own_within (tag whole x) within = own_within whole within
    own_within (tag_of whole x argument) within = own_within whole within
    own_within (including whole included) within = own_within whole within.0

    one_deeper : (t a : Ty) → own t ≤ c → weight t ≤ depth t * c → weight a ≤ depth a * c
        → max (weight t) (own t + weight a) ≤ max (depth t) (suc (depth a)) * c
    one_deeper t a mine first later =
        let d = max (depth t) (suc (depth a)) in
        let left : depth t * c ≤ d * c =
        mul-le (depth t) c d c (le-max_left (depth t) (suc (depth a))) (omega arith) in
        let right : suc (depth a) * c ≤ d * c = mul-le (suc (depth a)) c d c
        (le-max_right (depth t) (suc (depth a))) (omega arith) in
        let more : suc (depth a) * c ≡ c + depth a * c = grind arith in
        max-le (omega (arith, first, left)) (omega (arith, mine, later, right, more))

    depth_positive : (t : Ty) → 0 < depth t
    depth_positive (variable x) = omega arith
    depth_positive (named name) = omega arith
    depth_positive tuple = omega arith
    depth_positive bracket = omega arith
    depth_positive (part whole added) =
        omega (arith, depth_positive whole, le-max_left (depth whole) (suc (depth added)))
    depth_positive (tag whole x) = depth_positive whole
    depth_positive (tag_of whole x argument) =
        omega (arith, depth_positive whole, le-max_left (depth whole) (suc (depth argument)))
    depth_positive (including whole included) =
        omega (arith, depth_positive whole, le-max_left (depth whole) (suc (depth included)))

    depth_weight : (t : Ty) → CostsWithin c t → weight t ≤ depth t * c
    depth_weight (variable x) within = omega arith
    depth_weight (named name) within = omega (arith, within)
    depth_weight tuple within = omega arith
    depth_weight bracket within = omega arith
    depth_weight (part whole added) within =
        one_deeper whole added (own_within whole within.0) (depth_weight whole within.0)
        (depth_weight added within.1)
    depth_weight (tag whole x) within = depth_weight whole within
    depth_weight (tag_of whole x argument) within =
        let more : depth whole * c ≤ max (depth whole) (suc (depth argument)) * c =
        mul-le (depth whole) c (max (depth whole) (suc (depth argument))) c
        (le-max_left (depth whole) (suc (depth argument))) (omega arith) in
        omega (arith, depth_weight whole within, more)
    depth_weight (including whole included) within =
        one_deeper whole included (own_within whole within.0) (depth_weight whole within.0)
        (depth_weight included within.1)

-- ---- ranked abbreviations

-- Consequences of the rule against cycles. Each name has a rank. The rank of an abbreviation is
-- above the ranks of all names that the abbreviation uses outside tag arguments. The expansion of
-- an abbreviation is a written type of depth at most 200.
pub record AreRanked (decls : List Decl) (rank : List ℕ → ℕ) : Type 0 where
  pub bounded : (name : List ℕ) → rank name ≤ length decls
  pub falls : (name : List ℕ) (d : Decl) (t : Ty) → declaration_of decls name ≡ Some d
      → abbreviated d.body ≡ Some t
      → (r : ℕ) × (rank name ≡ suc r) × CostsWithin (λ other. 202 ^ rank other)
      (λ other. one-le-pow (rank other) 202 (omega arith)) (202 ^ r) t × IsType t
      × (depth t ≤ 200)

module _ (decls : List Decl) (rank : List ℕ → ℕ) (ranked : AreRanked decls rank) where
  abbrev pub price : List ℕ → ℕ
  price name = 202 ^ rank name

  pub priced : (name : List ℕ) → 0 < price name
  priced name = one-le-pow (rank name) 202 (omega arith)

  abbrev pub heft : Ty → ℕ
  heft t = weight price priced t

  -- ---- each expansion lowers the weight

  with_body : (t u body : Ty) (name : List ℕ) (d : Decl) → name_of t ≡ Some name
      → declaration_of decls name ≡ Some d → abbreviated d.body ≡ Some body
      → instance (argument_for d.parameters (parts t)) body ≡ u → heft u < heft t
  with_body t u body name d named' found is same =
      let f = ranked.falls name d body found is in
      let c = 202 ^ f.0 in
      let some : 0 < c = one-le-pow f.0 202 (omega arith) in
      let costs : price name ≡ c * 202 = ap (λ n. 202 ^ n) f.1 ∙ pow-suc 202 f.0 in
      let mine = name_weight price priced t name named' in
      let body_heft = depth_weight price priced c some body f.2 in
      let shallow : depth body * c ≤ 200 * c = mul-le (depth body) c 200 c f.4 (omega arith) in
      let m = heft t - price name in
      let arguments = value_below price priced d.parameters (parts t) m
      (λ a among. within a among) in
      let whole = instance_weight price priced (argument_for d.parameters (parts t)) m arguments
      body f.3 in
      subst (λ w. heft w < heft t) same
      (omega (arith, some, costs, mine, body_heft, shallow, whole)) where
        within : (a : Ty) → Contains (parts t) a → heft a ≤ heft t - price name
        within a among = omega (arith, argument_weight price priced t name a named' among)

  -- The body of an abbreviation weighs less than a type with the abbreviation at its head.
  pub body_falls : (t body : Ty) (name : List ℕ) (d : Decl) → name_of t ≡ Some name
      → declaration_of decls name ≡ Some d → abbreviated d.body ≡ Some body → heft body < heft t
  body_falls t body name d named' found is =
      let f = ranked.falls name d body found is in
      let c = 202 ^ f.0 in
      let some : 0 < c = one-le-pow f.0 202 (omega arith) in
      let costs : price name ≡ c * 202 = ap (λ n. 202 ^ n) f.1 ∙ pow-suc 202 f.0 in
      let mine = name_weight price priced t name named' in
      let body_heft = depth_weight price priced c some body f.2 in
      let shallow : depth body * c ≤ 200 * c = mul-le (depth body) c 200 c f.4 (omega arith) in
      omega (arith, some, costs, mine, body_heft, shallow)

  with_found : (t u : Ty) (name : List ℕ) (d : Decl) → name_of t ≡ Some name
      → declaration_of decls name ≡ Some d → (body : Option Ty) → abbreviated d.body ≡ body
      → option_map (instance (argument_for d.parameters (parts t))) body ≡ Some u → heft u < heft t
  with_found t u name d named' found None is stands = absurd (none-some u stands)
  with_found t u name d named' found (Some body) is stands =
      with_body t u body name d named' found is
      (same_Some (instance (argument_for d.parameters (parts t)) body) u stands)

  with_name : (t u : Ty) (name : List ℕ) → name_of t ≡ Some name → (found : Option Decl)
      → declaration_of decls name ≡ found → abbreviated_at found (parts t) ≡ Some u
      → heft u < heft t
  with_name t u name named' None found stands = absurd (none-some u stands)
  with_name t u name named' (Some d) found stands =
      with_found t u name d named' found (abbreviated d.body) refl stands

  by_name_of : (t u : Ty) (name : Option (List ℕ)) → name_of t ≡ name
      → abbreviated_by decls name (parts t) ≡ Some u → heft u < heft t
  by_name_of t u None is stands = absurd (none-some u stands)
  by_name_of t u (Some name) is stands =
      with_name t u name is (declaration_of decls name) refl stands

  pub falls : (t u : Ty) → unfolded decls t ≡ Some u → heft u < heft t
  falls t u stands = by_name_of t u (name_of t) refl stands

  -- ---- the weight is below the bound

  all_within : (t : Ty) → CostsWithin price priced (202 ^ length decls) t
  all_within (variable x) = tt
  all_within (named name) = pow-le-pow_right (omega arith) (ranked.bounded name)
  all_within tuple = tt
  all_within bracket = tt
  all_within (part whole added) = (all_within whole, all_within added)
  all_within (tag whole x) = all_within whole
  all_within (tag_of whole x argument) = all_within whole
  all_within (including whole included) = (all_within whole, all_within included)

  pub bound : (t : Ty) → heft t < enough decls t
  bound t =
      let c = 202 ^ length decls in
      let some : 0 < c = one-le-pow (length decls) 202 (omega arith) in
      let below = depth_weight price priced c some t (all_within t) in
      let deep = depth_positive price priced c some t in
      let product : 1 ≤ depth t * c = mul-le 1 1 (depth t) c deep some in
      let same : enough decls t ≡ depth t * c * 202 =
      ap (λ n. depth t * n) (pow-suc 202 (length decls)) ∙ sym (mul_assoc (depth t) c 202) in
      omega (arith, below, product, same)
