-- Chains of abbreviations in which each abbreviation uses the next abbreviation. If no abbreviation
-- is cyclic, no chain is longer than the number of declarations. The length of the longest chain
-- from a name decreases with each use.
use Rattle.std.proofs.Common.{ℕ, zero, suc, ◌≡◌, ◌<◌, ◌≤◌, ◌∙◌, ◌⊎◌, ⊎_elim, inl, inr, Bool, true, false, cond, List, [], ◌∷◌, length, Option, Some, None, refl, sym, ap, ap₂, subst, arith}
use Rattle.std.specs.Prelude.{map, max, find, Contains, IsSome, is_some, IsTrue, option_map}
use Rattle.std.specs.Str.{bytes_eq}
use Rattle.std.proofs.lemmas.Bool.{false≢true, false_from_ne_true}
use Rattle.std.proofs.lemmas.List.{length-map}
use Rattle.std.proofs.lemmas.Option.{same_Some, none-some}
use Rattle.std.proofs.lemmas.Slice.Eq.{bytes_eq-Decides}
use Rattle.base_data.proofs.model.Options.{none_or_some, true_or_not, Contains-first, Contains-later, Contains-none, Contains-cases, Contains-map}
use Rattle.types_spec.specs.declared.types.decl.Decl.{Decl}
use Rattle.types_spec.specs.types.WellFormed.{names_outside, IsRanking}
use Rattle.types_spec.specs.types.Declarations.{predeclared, declaration_of, abbreviated}
use Rattle.types_spec.specs.types.Occurrence.{DeclPositions, use_of}
use Rattle.types_spec.specs.types.Scope.{twice, unknown_name, cyclic, decls_of, declared_names, AreSteps}
use Rattle.types_spec.specs.types.Ty.{Ty}
use Rattle.types_theory.proofs.typing.Choices.{without}
use Rattle.types_wellformed.specs.accepted.Ranked.{UsesAreKnown, Keeps}

-- ---- the greatest of some numbers

greatest : (List ℕ → ℕ) → List (List ℕ) → ℕ
greatest f [] = 0
greatest f (name ∷ names) = max (f name) (greatest f names)

-- ---- the declaration of a name, with its occurrences

abbrev pub found : List DeclPositions → List ℕ → Option DeclPositions
found all name = find (λ (d : DeclPositions). bytes_eq d.decl.name name) all

abbrev body_of : Option DeclPositions → Option Ty
body_of None = None
body_of (Some d) = abbreviated d.decl.body

-- The type that the name abbreviates, or `None` if the name is not an abbreviation.
abbrev stands_for : List DeclPositions → List ℕ → Option Ty
stands_for all name = body_of (found all name)

-- The length of the longest chain from a name, given the lengths from the names that the type uses.
height_by : (List ℕ → ℕ) → Option Ty → ℕ
height_by f None = 0
height_by f (Some t) = suc (greatest f (names_outside t))

height : List DeclPositions → ℕ → List ℕ → ℕ
height all zero name = 0
height all (suc n) name = height_by (height all n) (stands_for all name)

order : (a b : ℕ) → (a ≤ b) ⊎ (b < a)
order zero b = inl (omega arith)
order (suc a) zero = inr (omega arith)
order (suc a) (suc b) = ⊎_elim (λ le. inl (omega (arith, le))) (λ less. inr (omega (arith, less))) (order a b)

max_is_one : (a b : ℕ) → (max a b ≡ a) ⊎ (max a b ≡ b)
max_is_one a b = ⊎_elim (λ le. inr (omega (arith, le))) (λ less. inl (omega (arith, less))) (order a b)

greatest_within : (f : List ℕ → ℕ) (n : ℕ) (names : List (List ℕ)) → ((x : List ℕ) → Contains names x → f x ≤ n) → greatest f names ≤ n
unfolding greatest
greatest_within f n [] each = omega arith
greatest_within f n (name ∷ names) each =
    omega (arith, each name (Contains-first name names), greatest_within f n names (λ x among. each x (Contains-later name names x among)))

greatest_has : (f : List ℕ → ℕ) (names : List (List ℕ)) (x : List ℕ) → Contains names x → f x ≤ greatest f names
unfolding greatest
greatest_has f [] x among = absurd (Contains-none x among)
greatest_has f (name ∷ names) x among = ⊎_elim
    (λ here. let e : f name ≡ f x = ap f here in omega (arith, e))
    (λ later. omega (arith, greatest_has f names x later))
    (Contains-cases name names x among)

greatest_same : (f g : List ℕ → ℕ) (names : List (List ℕ)) → ((x : List ℕ) → Contains names x → f x ≡ g x) → greatest f names ≡ greatest g names
unfolding greatest
greatest_same f g [] each = refl
greatest_same f g (name ∷ names) each =
    ap₂ max (each name (Contains-first name names)) (greatest_same f g names (λ x among. each x (Contains-later name names x among)))

greatest_reached :
    (f : List ℕ → ℕ) (names : List (List ℕ)) (n : ℕ) → greatest f names ≡ suc n → (x : List ℕ) × Contains names x × (f x ≡ suc n)
unfolding greatest
greatest_reached f [] n is = absurd (omega arith)
greatest_reached f (name ∷ names) n is = ⊎_elim
    (λ first. (name, Contains-first name names, sym first ∙ is))
    (λ rest. let r = greatest_reached f names n (sym rest ∙ is) in (r.0, Contains-later name names r.0 r.1, r.2))
    (max_is_one (f name) (greatest f names))

-- ---- heights

module _ (all : List DeclPositions) where
  height_by_within : (f : List ℕ → ℕ) (n : ℕ) (o : Option Ty) → ((x : List ℕ) → f x ≤ n) → height_by f o ≤ suc n
  unfolding height_by
  height_by_within f n None each = omega arith
  height_by_within f n (Some t) each = omega (arith, greatest_within f n (names_outside t) (λ x among. each x))

  height_within : (n : ℕ) (x : List ℕ) → height all n x ≤ n
  unfolding height
  height_within zero x = omega arith
  height_within (suc n) x = height_by_within (height all n) n (stands_for all x) (height_within n)

  -- If the length of the longest chain is less than the limit, then a greater limit gives the same
  -- length.
  settled_by :
      (f g : List ℕ → ℕ) (n : ℕ) (o : Option Ty) → height_by f o < suc n → ((y : List ℕ) → f y < n → g y ≡ f y)
      → height_by g o ≡ height_by f o
  unfolding height_by
  settled_by f g n None less same = refl
  settled_by f g n (Some t) less same =
      ap suc (greatest_same g f (names_outside t) (λ y among. same y (omega (arith, less, greatest_has f (names_outside t) y among))))

  settled : (n : ℕ) (x : List ℕ) → height all n x < n → height all (suc n) x ≡ height all n x
  unfolding height
  settled zero x less = absurd (omega arith)
  settled (suc n) x less = settled_by (height all n) (height all (suc n)) n (stands_for all x) less (settled n)

  -- ---- chains

  -- The name `x` abbreviates a type that uses the name `y` outside tag arguments.
  record Uses (x y : List ℕ) : Type 0 where
    type : Ty
    is : stands_for all x ≡ Some type
    used : Contains (names_outside type) y

  abbrev IsChain : List ℕ → List (List ℕ) → Type 0
  IsChain x [] = IsSome (stands_for all x)
  IsChain x (y ∷ rest) = Uses x y × IsChain y rest

  record Chain (x : List ℕ) (n : ℕ) : Type 0 where
    rest : List (List ℕ)
    chain : IsChain x rest
    long : suc (length rest) ≡ n

  -- If the length of the longest chain reaches the limit, then some chain is as long as the limit.
  chain_by :
      (n : ℕ) (x : List ℕ) (o : Option Ty) → stands_for all x ≡ o → height_by (height all n) o ≡ suc n
      → ((y : List ℕ) (m : ℕ) → n ≡ suc m → height all n y ≡ n → Chain y n) → Chain x (suc n)
  unfolding height_by
  chain_by n x None is tall later = absurd (omega arith)
  chain_by zero x (Some t) is tall later = record { rest = []; chain = subst IsSome (sym is) refl; long = refl }
  chain_by (suc m) x (Some t) is tall later =
      let r = greatest_reached (height all (suc m)) (names_outside t) m (omega (arith, tall)) in
      let more = later r.0 m refl r.2 in
      record {
        rest = r.0 ∷ more.rest;
        chain = (record { type = t; is = is; used = r.1 }, more.chain);
        long = ap suc more.long;
      }

  chain_of : (n : ℕ) (x : List ℕ) → height all (suc n) x ≡ suc n → Chain x (suc n)
  unfolding height
  chain_of zero x tall = chain_by zero x (stands_for all x) refl tall (λ y m none. absurd (omega arith))
  chain_of (suc n) x tall = chain_by (suc n) x (stands_for all x) refl tall (λ y m is tall'. chain_of n y tall')

-- ---- a list longer than another list that contains all its elements

abbrev Repeats : List (List ℕ) → Type 0
Repeats [] = ⊥
Repeats (x ∷ xs) = Contains xs x ⊎ Repeats xs

pub contains_or_not : (xs : List (List ℕ)) (x : List ℕ) → Contains xs x ⊎ (¬ Contains xs x)
contains_or_not [] x = inr (Contains-none x)
contains_or_not (z ∷ xs) x = at_first (true_or_not (bytes_eq z x)) (contains_or_not xs x) where
  at_first : IsTrue (bytes_eq z x) ⊎ (¬ IsTrue (bytes_eq z x)) → Contains xs x ⊎ (¬ Contains xs x) → Contains (z ∷ xs) x ⊎ (¬ Contains (z ∷ xs) x)
  at_first (inl same) rest = inl (subst (λ y. Contains (z ∷ xs) y) ((bytes_eq-Decides z x).0 same) (Contains-first z xs))
  at_first (inr other) (inl later) = inl (Contains-later z xs x later)
  at_first (inr other) (inr none) = inr (λ among. ⊎_elim (λ here. other ((bytes_eq-Decides z x).1 here)) none (Contains-cases z xs x among))

too_many : (xs ys : List (List ℕ)) → ((x : List ℕ) → Contains xs x → Contains ys x) → length ys < length xs → Repeats xs
too_many [] ys within more = absurd (omega arith)
too_many (x ∷ xs) ys within more = ⊎_elim (λ again. inl again)
    (λ once.
    let w = without ys x (within x (Contains-first x xs)) in
    inr (too_many xs w.rest
    (λ y among. ⊎_elim (λ same. absurd (once (subst (λ z. Contains xs z) (sym same) among))) (λ kept. kept) (w.others y (within y (Contains-later x xs y among))))
    (omega (arith, w.shorter, more))))
    (contains_or_not xs x)

-- ---- declarations and their occurrences

pub found_named : (all : List DeclPositions) (name : List ℕ) (d : DeclPositions) → found all name ≡ Some d → Contains all d × (d.decl.name ≡ name)
found_named [] name d is = absurd (none-some d is)
found_named (first ∷ rest) name d is = by_test (true_or_not (bytes_eq first.decl.name name)) (found_named rest name d) where
  by_test : IsTrue (bytes_eq first.decl.name name) ⊎ (¬ IsTrue (bytes_eq first.decl.name name))
      → (found rest name ≡ Some d → Contains rest d × (d.decl.name ≡ name)) → Contains (first ∷ rest) d × (d.decl.name ≡ name)
  by_test (inl same) later =
      let here : first ≡ d = same_Some first d (sym (ap (λ b. cond b (Some first) (found rest name)) same) ∙ is) in
      (subst (λ e. Contains (first ∷ rest) e) here (Contains-first first rest), ap (λ (e : DeclPositions). e.decl.name) (sym here) ∙ (bytes_eq-Decides first.decl.name name).0 same)
  by_test (inr other) later =
      let false_is : bytes_eq first.decl.name name ≡ false = false_from_ne_true (bytes_eq first.decl.name name) other in
      let more = later (sym (ap (λ b. cond b (Some first) (found rest name)) false_is) ∙ is) in
      (Contains-later first rest d more.0, more.1)

-- The lookup of a name among declarations agrees with the lookup of the name among declarations
-- with their occurrences.
pub found_decl : (all : List DeclPositions) (name : List ℕ) → declaration_of (decls_of all) name ≡ option_map (λ (d : DeclPositions). d.decl) (found all name)
found_decl [] name = refl
found_decl (first ∷ rest) name = at_test (bytes_eq first.decl.name name) (found_decl rest name) where
  at_test : (test : Bool) → declaration_of (decls_of rest) name ≡ option_map (λ (d : DeclPositions). d.decl) (found rest name)
      → cond test (Some first.decl) (declaration_of (decls_of rest) name) ≡ option_map (λ (d : DeclPositions). d.decl) (cond test (Some first) (found rest name))
  at_test true later = refl
  at_test false later = later

-- If a name abbreviates a type, then the name is declared.
declared_name : (all : List DeclPositions) (name : List ℕ) → IsSome (stands_for all name) → (d : DeclPositions) × (found all name ≡ Some d)
declared_name all name is = ⊎_elim
    (λ none. let e : body_of (found all name) ≡ None = ap body_of none in absurd (none_is (stands_for all name) e is))
    (λ some. some)
    (none_or_some (found all name)) where
      none_is : (o : Option Ty) → o ≡ None → IsSome o → ⊥
      none_is o e some = absurd (false≢true (sym (ap is_some e) ∙ some))

module _ (all : List DeclPositions) where
  chain_declared :
      (x : List ℕ) (rest : List (List ℕ)) → IsChain all x rest → (y : List ℕ) → Contains (x ∷ rest) y
      → Contains (map (λ (d : DeclPositions). d.decl.name) all) y
  chain_declared x [] chain y among = ⊎_elim
      (λ here. subst (λ z. Contains (map (λ (d : DeclPositions). d.decl.name) all) z) here (own_name x chain))
      (λ later. absurd (Contains-none y later))
      (Contains-cases x [] y among) where
        own_name : (z : List ℕ) → IsSome (stands_for all z) → Contains (map (λ (d : DeclPositions). d.decl.name) all) z
        own_name z some =
            let d = declared_name all z some in
            let n = found_named all z d.0 d.1 in
            subst (λ w. Contains (map (λ (d : DeclPositions). d.decl.name) all) w) n.1 (Contains-map (λ (d : DeclPositions). d.decl.name) all d.0 n.0)
  chain_declared x (z ∷ rest) chain y among = ⊎_elim
      (λ here.
      let d = declared_name all x (subst IsSome (sym chain.0.is) refl) in
      let n = found_named all x d.0 d.1 in
      subst (λ w. Contains (map (λ (d : DeclPositions). d.decl.name) all) w) (n.1 ∙ here) (Contains-map (λ (d : DeclPositions). d.decl.name) all d.0 n.0))
      (λ later. chain_declared z rest chain.1 y later)
      (Contains-cases x (z ∷ rest) y among)

  -- ---- cycles

  abbrev Leads : List ℕ → List (List ℕ) → List ℕ → Type 0
  Leads x [] z = Uses all x z
  Leads x (y ∷ between) z = Uses all x y × Leads y between z

  leads_to : (x y : List ℕ) (rest : List (List ℕ)) (z : List ℕ) → Uses all x y → IsChain all y rest → Contains (y ∷ rest) z → (between : List (List ℕ)) × Leads x between z
  leads_to x y [] z used chain among = ⊎_elim
      (λ here. ([], subst (Uses all x) here used))
      (λ later. absurd (Contains-none z later))
      (Contains-cases y [] z among)
  leads_to x y (w ∷ rest) z used chain among = ⊎_elim
      (λ here. ([], subst (Uses all x) here used))
      (λ later. let more = leads_to y w rest z chain.0 chain.1 later in (y ∷ more.0, (used, more.1)))
      (Contains-cases y (w ∷ rest) z among)

  cycle_in : (x : List ℕ) (rest : List (List ℕ)) → IsChain all x rest → Repeats (x ∷ rest) → (z : List ℕ) × (between : List (List ℕ)) × Leads z between z
  cycle_in x [] chain (inl again) = absurd (Contains-none x again)
  cycle_in x [] chain (inr later) = absurd later
  cycle_in x (y ∷ rest) chain (inl again) = let l = leads_to x y rest x chain.0 chain.1 again in (x, l.0, l.1)
  cycle_in x (y ∷ rest) chain (inr later) = cycle_in y rest chain.1 later

module _ (all : List DeclPositions) (reported : UsesAreKnown all) (once : Keeps all twice) (known : Keeps all unknown_name)
    (acyclic : Keeps all cyclic) where
  new_name : (y : List ℕ) (e : DeclPositions) → found all y ≡ Some e → predeclared y ≡ None
  new_name y e at_y = ⊎_elim (λ none. none)
      (λ some.
      let n = found_named all y e at_y in
      let listed : Contains (declared_names all) (e.position, y) =
      subst (λ name. Contains (declared_names all) (e.position, name)) n.1 (Contains-map (λ (d : DeclPositions). (d.position, d.decl.name)) all e n.0) in
      absurd (once e.position (inl (inr (y, listed, subst IsSome (sym some.1) refl)))))
      (none_or_some (predeclared y))

  -- The declaration `d` of the name `x` uses the name `y` of the declaration `e`.
  record UsesAt (x y : List ℕ) (d e : DeclPositions) : Type 0 where
    position : ℕ
    arguments : List Ty
    occurs : Contains d.occurrences (use_of position y arguments false)
    group : e.decl.group ≤ d.decl.group
    abbreviates : IsSome (abbreviated d.decl.body)

  uses_at : (x y : List ℕ) (d e : DeclPositions) → Uses all x y → found all x ≡ Some d → found all y ≡ Some e → UsesAt x y d e
  uses_at x y d e used at_x at_y =
      let n = found_named all x d at_x in
      let body : abbreviated d.decl.body ≡ Some used.type = sym (ap body_of at_x) ∙ used.is in
      let one = reported d used.type y n.0 body used.used in
      record {
        position = one.0;
        arguments = one.1;
        occurs = one.2;
        group = ⊎_elim (λ le. le)
            (λ later. absurd (known one.0 (inr (
              d,
              n.0,
              (
                y,
                one.1,
                false,
                one.2,
                (
                  new_name y e at_y,
                  λ decl is seen.
                      let same : e.decl ≡ decl = same_Some e.decl decl (sym (ap (option_map (λ (p : DeclPositions). p.decl)) at_y) ∙ sym (found_decl all y) ∙ is) in
                      let groups : e.decl.group ≡ decl.group = ap (λ (p : Decl). p.group) same in
                      omega (arith, later, seen, groups),
                ),
              ),
            ))))
            (order e.decl.group d.decl.group);
        abbreviates = subst IsSome (sym body) refl;
      }

  -- If uses lead from one declaration to another declaration, then the group of the other
  -- declaration is not later.
  groups_fall :
      (x : List ℕ) (between : List (List ℕ)) (z : List ℕ) (d e : DeclPositions) → Leads all x between z → found all x ≡ Some d
      → found all z ≡ Some e → e.decl.group ≤ d.decl.group
  groups_fall x [] z d e leads at_x at_z = (uses_at x z d e leads at_x at_z).group
  groups_fall x (y ∷ between) z d e leads at_x at_z =
      let f = declared_of_uses y between z leads.1 in
      let first = (uses_at x y d f.0 leads.0 at_x f.1).group in
      omega (arith, first, groups_fall y between z f.0 e leads.1 f.1 at_z) where
        declared_of_uses : (w : List ℕ) (ws : List (List ℕ)) (v : List ℕ) → Leads all w ws v → (f : DeclPositions) × (found all w ≡ Some f)
        declared_of_uses w [] v used = declared_name all w (subst IsSome (sym used.is) refl)
        declared_of_uses w (u ∷ ws) v used = declared_name all w (subst IsSome (sym used.0.is) refl)

  -- If uses lead from a declaration to an abbreviation of the same group or a later group, then the
  -- uses are steps.
  steps_of :
      (x : List ℕ) (between : List (List ℕ)) (z : List ℕ) (d e : DeclPositions) → Leads all x between z → found all x ≡ Some d
      → found all z ≡ Some e → d.decl.group ≤ e.decl.group → IsSome (abbreviated e.decl.body)
      → (ds : List DeclPositions) × AreSteps all d ds e
  steps_of x [] z d e leads at_x at_z within last =
      let u = uses_at x z d e leads at_x at_z in
      let n = found_named all z e at_z in (
        [],
        record {
          first = (found_named all x d at_x).0;
          second = n.0;
          one_group = omega (arith, within, u.group);
          one_abbreviates = u.abbreviates;
          other_abbreviates = last;
          position = u.position;
          arguments = u.arguments;
          used = subst (λ name. Contains d.occurrences (use_of u.position name u.arguments false)) (sym n.1) u.occurs;
        },
      )
  steps_of x (y ∷ between) z d e leads at_x at_z within last =
      let f = declared_of_uses y between z leads.1 in
      let u = uses_at x y d f.0 leads.0 at_x f.1 in
      let n = found_named all y f.0 f.1 in
      let fall = groups_fall y between z f.0 e leads.1 f.1 at_z in
      let more = steps_of y between z f.0 e leads.1 f.1 at_z (omega (arith, within, u.group)) last in (
        f.0 ∷ more.0,
        (
          record {
            first = (found_named all x d at_x).0;
            second = n.0;
            one_group = omega (arith, within, u.group, fall);
            one_abbreviates = u.abbreviates;
            other_abbreviates = f.2;
            position = u.position;
            arguments = u.arguments;
            used = subst (λ name. Contains d.occurrences (use_of u.position name u.arguments false)) (sym n.1) u.occurs;
          },
          more.1,
        ),
      ) where
        declared_of_uses : (w : List ℕ) (ws : List (List ℕ)) (v : List ℕ) → Leads all w ws v → (f : DeclPositions) × (found all w ≡ Some f) × IsSome (abbreviated f.decl.body)
        declared_of_uses w [] v used =
            let f = declared_name all w (subst IsSome (sym used.is) refl) in
            (f.0, f.1, subst IsSome (sym (sym (ap body_of f.1) ∙ used.is)) refl)
        declared_of_uses w (u ∷ ws) v used =
            let f = declared_name all w (subst IsSome (sym used.0.is) refl) in
            (f.0, f.1, subst IsSome (sym (sym (ap body_of f.1) ∙ used.0.is)) refl)

  no_cycle : (z : List ℕ) (between : List (List ℕ)) → Leads all z between z → ⊥
  no_cycle z between leads =
      let own = own_of z between leads in
      let steps = steps_of z between z own.0 own.0 leads own.1 own.1 (omega arith) own.2 in
      acyclic own.0.position (inr (own.0, (found_named all z own.0 own.1).0, (refl, steps.0, steps.1))) where
        own_of : (w : List ℕ) (ws : List (List ℕ)) → Leads all w ws w → (f : DeclPositions) × (found all w ≡ Some f) × IsSome (abbreviated f.decl.body)
        own_of w [] used =
            let f = declared_name all w (subst IsSome (sym used.is) refl) in
            (f.0, f.1, subst IsSome (sym (sym (ap body_of f.1) ∙ used.is)) refl)
        own_of w (u ∷ ws) used =
            let f = declared_name all w (subst IsSome (sym used.0.is) refl) in
            (f.0, f.1, subst IsSome (sym (sym (ap body_of f.1) ∙ used.0.is)) refl)

  -- No chain has more names than there are declarations.
  never_tall : (x : List ℕ) → height all (suc (length all)) x < suc (length all)
  never_tall x = ⊎_elim
      (λ tall.
      let full : height all (suc (length all)) x ≡ suc (length all) = omega (arith, tall, height_within all (suc (length all)) x) in
      let c = chain_of all (length all) x full in
      let again = too_many (x ∷ c.rest) (map (λ (d : DeclPositions). d.decl.name) all) (chain_declared all x c.rest c.chain)
      (omega (arith, c.long, length-map all (λ (d : DeclPositions). d.decl.name))) in
      let cycle = cycle_in all x c.rest c.chain again in
      absurd (no_cycle cycle.0 cycle.1 cycle.2))
      (λ less. less)
      (order (suc (length all)) (height all (suc (length all)) x))

  pub rank : List ℕ → ℕ
  rank = height all (suc (length all))

  rank_settled : (x : List ℕ) → height all (suc (suc (length all))) x ≡ rank x
  unfolding rank
  rank_settled x = settled all (suc (length all)) x (never_tall x)

  stands : (name : List ℕ) (d : Decl) (t : Ty) → declaration_of (decls_of all) name ≡ Some d → abbreviated d.body ≡ Some t → stands_for all name ≡ Some t
  stands name d t is body = by_found (found all name) (sym (found_decl all name) ∙ is) where
    by_found : (o : Option DeclPositions) → option_map (λ (p : DeclPositions). p.decl) o ≡ Some d → body_of o ≡ Some t
    by_found None none = absurd (none-some d none)
    by_found (Some p) some = ap (λ (e : Decl). abbreviated e.body) (same_Some p.decl d some) ∙ body

  rank_is : (name : List ℕ) (t : Ty) → stands_for all name ≡ Some t → rank name ≡ suc (greatest rank (names_outside t))
  unfolding rank height height_by
  rank_is name t is = sym (rank_settled name) ∙ ap (height_by rank) is

  rank_bounded : (name : List ℕ) → rank name ≤ length (decls_of all)
  unfolding rank
  rank_bounded name = omega (arith, never_tall name, length-map all (λ (d : DeclPositions). d.decl))

  pub ranking : IsRanking (decls_of all) rank
  ranking = record {
    bounded = λ name. rank_bounded name;
    positive = λ name d t is body. let r = rank_is name t (stands name d t is body) in omega (arith, r);
    falls = λ name d t is body other used.
        let r = rank_is name t (stands name d t is body) in
        omega (arith, r, greatest_has rank (names_outside t) other used);
  }

pub ranks_follow_lem :
    (all : List DeclPositions) → UsesAreKnown all → Keeps all twice → Keeps all unknown_name → Keeps all cyclic
    → (rank : List ℕ → ℕ) × IsRanking (decls_of all) rank
ranks_follow_lem all reported once known acyclic = (rank all reported once known acyclic, ranking all reported once known acyclic)
