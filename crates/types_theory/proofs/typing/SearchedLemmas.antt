-- Each covered path leads to a value that matches and has an entry, and the entry's path is not
-- after the covered path. The first mismatch that the search meets is the least of infinitely many
-- mismatches.
use Rattle.std.proofs.Common.{ℕ, zero, suc, ◌≡◌, ◌∙◌, ⊎_elim, inl, inr, List, [], ◌∷◌, ◌++◌, length}
use Rattle.std.proofs.Common.{Some, refl, sym, ap, subst, arith}
use Rattle.std.specs.Prelude.{Contains, option_and_then, option_map}
use Rattle.std.proofs.lemmas.Option.{option_and_then_some, same_Some, none-some}
use Rattle.base_data.specs.declared.model.value.Val.{Val}
use Rattle.base_data.specs.declared.model.value.Val.TheVariants as vals
use Rattle.base_data.specs.declared.model.value.Obj.{Obj}
use Rattle.types_spec.specs.types.Shapes.{Shapes}
use Rattle.types_spec.specs.types.LawfulShapes.{Everything, AreLawful}
use Rattle.types_spec.specs.types.Typing.{field_at}
use Rattle.types_spec.specs.types.Fault.{IsLexicallyBefore, IsBefore, type_of_field, step, value_at}
use Rattle.types_spec.specs.types.SearchedPaths.{Entry, IsEntered, IsSearched}
use Rattle.types_spec.proofs.types.TypeFaultLemmas.{named_is_needed, paired}
use Rattle.types_theory.proofs.typing.TypingPathLemmas.{paths_compare}

-- ---- the order of paths

-- Let two paths of equal length be extended by the same step. If the extended paths are in
-- lexicographic order, then the two paths are in lexicographic order.
lexically_pushed :
    (p q : List ℕ) (i : ℕ) → length p ≡ length q → IsLexicallyBefore (p ++ i ∷ []) (q ++ i ∷ [])
    → IsLexicallyBefore p q
lexically_pushed [] [] i same (inl less) = absurd (omega arith)
lexically_pushed [] [] i same (inr later) = absurd later.1
lexically_pushed [] (k ∷ q) i same before = absurd (omega arith)
lexically_pushed (j ∷ p) [] i same before = absurd (omega arith)
lexically_pushed (j ∷ p) (k ∷ q) i same (inl less) = inl less
lexically_pushed (j ∷ p) (k ∷ q) i same (inr later) =
    inr (later.0, lexically_pushed p q i (omega arith) later.1)

pub length_pushed : (p : List ℕ) (i : ℕ) → length (p ++ i ∷ []) ≡ suc (length p)
length_pushed [] i = omega arith
length_pushed (j ∷ p) i = ap suc (length_pushed p i)

pub pushed_before : (p q : List ℕ) (i : ℕ) → IsBefore (p ++ i ∷ []) (q ++ i ∷ []) → IsBefore p q
pushed_before p q i (inl shorter) = inl (omega (arith, length_pushed p i, length_pushed q i))
pushed_before p q i (inr equal) =
    let same : length p ≡ length q = omega (arith, length_pushed p i, length_pushed q i, equal.0) in
    inr (same, lexically_pushed p q i same equal.1)

before_pushed : (p : List ℕ) (i : ℕ) → IsBefore p (p ++ i ∷ [])
before_pushed p i = inl (omega (arith, length_pushed p i))

lexically_transitive :
    (p q r : List ℕ) → IsLexicallyBefore p q → IsLexicallyBefore q r → IsLexicallyBefore p r
lexically_transitive [] q r first second = absurd first
lexically_transitive (i ∷ p) [] r first second = absurd first
lexically_transitive (i ∷ p) (j ∷ q) [] first second = absurd second
lexically_transitive (i ∷ p) (j ∷ q) (k ∷ r) (inl a) (inl b) = inl (omega arith)
lexically_transitive (i ∷ p) (j ∷ q) (k ∷ r) (inl a) (inr b) = inl (omega (arith, b.0))
lexically_transitive (i ∷ p) (j ∷ q) (k ∷ r) (inr a) (inl b) = inl (omega (arith, a.0))
lexically_transitive (i ∷ p) (j ∷ q) (k ∷ r) (inr a) (inr b) =
    inr (a.0 ∙ b.0, lexically_transitive p q r a.1 b.1)

pub before_transitive : (p q r : List ℕ) → IsBefore p q → IsBefore q r → IsBefore p r
before_transitive p q r (inl a) (inl b) = inl (omega arith)
before_transitive p q r (inl a) (inr b) = inl (omega (arith, b.0))
before_transitive p q r (inr a) (inl b) = inl (omega (arith, a.0))
before_transitive p q r (inr a) (inr b) = inr (a.0 ∙ b.0, lexically_transitive p q r a.1 b.1)

lexically_never : (p : List ℕ) → IsLexicallyBefore p p → ⊥
lexically_never [] before = before
lexically_never (i ∷ p) (inl less) = omega arith
lexically_never (i ∷ p) (inr later) = lexically_never p later.1

pub never_before_itself : (p : List ℕ) → IsBefore p p → ⊥
never_before_itself p (inl less) = omega arith
never_before_itself p (inr equal) = lexically_never p equal.1

pub never_before_root : (p : List ℕ) → IsBefore p [] → ⊥
never_before_root [] before = never_before_itself [] before
never_before_root (i ∷ p) (inl less) = omega (arith, less)
never_before_root (i ∷ p) (inr equal) = equal.1

-- If `q` is not before `p`, and `p` with one more step is not before `r`, then `q` with the same
-- step is not before `r`.
pub not_before_through :
    (p q r : List ℕ) (i : ℕ) → (IsBefore q p → ⊥) → (IsBefore (p ++ i ∷ []) r → ⊥)
    → IsBefore (q ++ i ∷ []) r → ⊥
not_before_through p q r i first second before = ⊎_elim
    (λ earlier. first (pushed_before q p i earlier))
    (λ others. ⊎_elim
    (λ same. second (subst (λ path. IsBefore path r) same before))
    (λ later. second (before_transitive (p ++ i ∷ []) (q ++ i ∷ []) r later before))
    others)
    (paths_compare (q ++ i ∷ []) (p ++ i ∷ []))

-- ---- the last step of a path

module _ {T : Type 0} (shapes : Shapes T) (graph : List Obj) where
  record HasLast (v : Val) (t : T) (path : List ℕ) (next : Val × T) : Type 0 where
    prefix : List ℕ
    last : ℕ
    position : Val × T
    is : path ≡ prefix ++ last ∷ []
    placed : value_at shapes graph v t prefix ≡ Some position
    stepped : step shapes graph position.0 position.1 last ≡ Some next

  last_of : (path : List ℕ) (i : ℕ) (v : Val) (t : T) (next : Val × T)
      → value_at shapes graph v t (i ∷ path) ≡ Some next → HasLast v t (i ∷ path) next
  last_of [] i v t next found =
      option_and_then_some (λ p. value_at shapes graph p.0 p.1 []) (step shapes graph v t i) next
      found (λ p stepped rest.
      record {
        prefix = [];
        last = i;
        position = (v, t);
        is = refl;
        placed = refl;
        stepped = stepped
            ∙ rest;
      })
  last_of (j ∷ path) i v t next found =
      option_and_then_some (λ p. value_at shapes graph p.0 p.1 (j ∷ path)) (step shapes graph v t i)
      next found (λ p stepped rest.
      let more = last_of path j p.0 p.1 next rest in
      record {
        prefix = i ∷ more.prefix;
        last = more.last;
        position = more.position;
        is = ap (λ q. i ∷ q) more.is;
        placed = ap (λ x. option_and_then (λ (q : Val × T). value_at shapes graph q.0 q.1
            more.prefix) x) stepped ∙ more.placed;
        stepped = more.stepped;
      })

-- ---- covered paths are entered

module _ {T : Type 0} (shapes : Shapes T) (lawful : AreLawful shapes Everything) (graph : List Obj)
    (root : Val) (t : T) (entries : List (Entry T)) (Seen : List ℕ → Type 0)
    (searched : IsSearched shapes graph root t entries Seen) where
  abbrev Known : List ℕ → Val → T → Type 0
  Known path w u = shapes.fits graph w u × IsEntered shapes entries w u path

  entered_at_equal :
      (w : Val) (u b : T) (path before : List ℕ) → shapes.equal u b
      → ((other : List ℕ) → (IsBefore before other → ⊥) → IsBefore path other → ⊥)
      → IsEntered shapes entries w b before → IsEntered shapes entries w u path
  entered_at_equal (vals.Int z) u b path before same later entered = tt
  entered_at_equal (vals.Atom tag) u b path before same later entered = tt
  entered_at_equal (vals.Ref o) u b path before same later entered = (
    entered.0,
    entered.1,
    entered.2,
    lawful.transitive u b entered.0.type same entered.3,
    later
        entered.0.path entered.4,
  )

  -- If an object has an entry, then each covered step from the object leads to a value that matches
  -- and has an entry.
  from_entry : (prefix : List ℕ) (i o : ℕ) (u : T) (w : Val) (a : T)
      → IsEntered shapes entries (vals.Ref o) u prefix → Seen (prefix ++ i ∷ [])
      → field_at graph o i ≡ Some w → Contains (shapes.needs graph (vals.Ref o) u) (i, a)
      → Known (prefix ++ i ∷ []) w a
  from_entry prefix i o u w a entered seen field need =
      let e = entered.0 in
      let other = lawful.needs graph (vals.Ref o) u e.type i a (inl tt) entered.3 need in
      let need' = subst (λ p. Contains (shapes.needs graph (vals.Ref p) e.type) (i, other.0))
      (sym entered.2) other.1 in
      let field' = subst (λ p. field_at graph p i ≡ Some w) (sym entered.2) field in
      let not_after = λ (before : IsBefore (prefix ++ i ∷ []) (e.path ++ i ∷ [])).
      entered.4 (pushed_before prefix e.path i before) in
      let tested = searched.tested e i other.0 w entered.1 need' field'
      (searched.down (prefix ++ i ∷ []) (e.path ++ i ∷ []) seen not_after) in (
        lawful.fits graph w other.0 a (inl tt) (lawful.symmetric a other.0 other.2) tested.0,
        entered_at_equal w a other.0 (prefix ++ i ∷ []) (e.path ++ i ∷ []) other.2 (λ path later.
            not_before_through e.path prefix path i entered.4 later) tested.1,
      )

  one_more : (prefix : List ℕ) (i : ℕ) (v : Val) (u : T) (w : Val) (a : T) → Known prefix v u
      → Seen (prefix ++ i ∷ []) → step shapes graph v u i ≡ Some (w, a) → Known (prefix ++ i ∷ []) w a
  one_more prefix i (vals.Int z) u w a known seen stepped = absurd (none-some (w, a) stepped)
  one_more prefix i (vals.Atom tag) u w a known seen stepped = absurd (none-some (w, a) stepped)
  one_more prefix i (vals.Ref o) u w a known seen stepped =
      option_and_then_some
      (λ x. option_map (λ b. (x, b)) (type_of_field (shapes.needs graph (vals.Ref o) u) i))
      (field_at graph o i) (w, a) stepped (λ x field typed.
      let parts = paired x (type_of_field (shapes.needs graph (vals.Ref o) u) i) (w, a) typed in
      from_entry prefix i o u w a known.1 seen (subst (λ y. field_at graph o i ≡ Some y) parts.1
      field) (named_is_needed (shapes.needs graph (vals.Ref o) u) i a parts.0))

  known_by_length :
      (n : ℕ) (path : List ℕ) (w : Val) (a : T) → length path ≡ n → Seen path
      → value_at shapes graph root t path ≡ Some (w, a) → Known path w a
  known_by_length n [] w a long seen found =
      subst (λ (p : Val × T). Known [] p.0 p.1) (same_Some (root, t) (w, a) found)
      (searched.root_fits, searched.root_entered)
  known_by_length zero (i ∷ path) w a long seen found = absurd (omega arith)
  known_by_length (suc n) (i ∷ path) w a long seen found =
      let last = last_of shapes graph path i root t (w, a) found in
      let seen' = subst Seen last.is seen in
      let before = before_pushed last.prefix last.last in
      let seen_prefix = searched.down (last.prefix ++ last.last ∷ []) last.prefix seen'
      (λ after. never_before_itself last.prefix
      (before_transitive last.prefix (last.prefix ++ last.last ∷ []) last.prefix before after)) in
      let long' : length last.prefix ≡ n =
      omega (arith, long, ap length last.is, length_pushed last.prefix last.last) in
      let prefix = known_by_length n last.prefix last.position.0 last.position.1 long' seen_prefix
      last.placed in
      subst (λ p. Known p w a) (sym last.is) (one_more last.prefix last.last last.position.0
      last.position.1 w a prefix seen' last.stepped)

  -- If a path is covered, then its value matches and has an entry, and the entry's path is not
  -- after the covered path.
  pub seen_is_known :
      (path : List ℕ) (w : Val) (a : T) → Seen path → value_at shapes graph root t path ≡ Some
      (w, a) → Known path w a
  seen_is_known path w a seen found = known_by_length (length path) path w a refl seen found
