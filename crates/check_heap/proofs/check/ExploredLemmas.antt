-- One more required field is tested.
use Rattle.std.proofs.Common.{ℕ, zero, suc, ◌<◌, ◌≡◌, ◌∙◌, ◌⊎◌, inl, inr, ⊎_elim, ◌++◌, List, [], ◌∷◌, length, Some, refl, sym, ap, subst, arith}
use Rattle.std.specs.Prelude.{slice_get, option_and_then, option_map, IsTrue}
use Rattle.std.proofs.lemmas.Option.{same_Some, slice_get_within}
use Rattle.std.proofs.lemmas.List.Elements.{Contains-append_left, Contains-push}
use Rattle.base_data.specs.declared.model.value.Val.{Val}
use Rattle.base_data.specs.declared.model.value.Val.TheVariants as vals
use Rattle.base_data.specs.declared.model.value.Obj.{Obj}
use Rattle.base_data.proofs.model.Lists.{slice_get-append_left}
use Rattle.base_data.proofs.model.Numbers.{less_same_more}
use Rattle.types_spec.specs.declared.types.shape.ShapeOf.{ShapeOf}
use Rattle.types_spec.specs.types.Fault.{IsBefore, field_of, type_of_field, step, value_at}
use Rattle.types_spec.specs.types.SearchedPaths.{Entry, IsEntered}
use Rattle.types_spec.specs.types.Table.{Table, table_shapes, node_or_none, is_asked_in}
use Rattle.types_theory.proofs.typing.TypingPathLemmas.{OneOfThree, value_at-push}
use Rattle.types_theory.proofs.typing.SearchedLemmas.{before_transitive, never_before_itself}
use Rattle.check_heap.specs.check.Explored.{ComesBefore, entry_fields, IsMetNeed, IsLedTo, AreExplored}
use Rattle.check_heap.proofs.check.CheckOrderLemmas.{both_pushed, pushed_less, root_before}
use Rattle.check_heap.proofs.scan.ScanPathLemmas.{need_is_named}
use Rattle.check_heap.proofs.scan.IncreaseLemmas.{needs_increase}
use Rattle.check_heap.proofs.scan.ScanPositionLemmas.{slice_get-push_cases}

-- ---- the order of fields

pub comes_later : (k j n r : ℕ) → ComesBefore k j n r → ComesBefore k j n (suc r)
comes_later k j n r (inl earlier) = inl earlier
comes_later k j n r (inr same) = inr (same.0, omega (arith, same.1))

abbrev IsThis : ℕ → ℕ → ℕ → ℕ → Type 0
IsThis k j n r = (k ≡ n) × (j ≡ r)

pub needs_compare : (k j n r : ℕ) → OneOfThree (ComesBefore k j n r) (IsThis k j n r) (ComesBefore n r k j)
needs_compare k j n r = by_position (less_same_more k n) (less_same_more j r) where
  by_position : (k < n) ⊎ ((k ≡ n) ⊎ (n < k)) → (j < r) ⊎ ((j ≡ r) ⊎ (r < j)) → OneOfThree (ComesBefore k j n r) (IsThis k j n r) (ComesBefore n r k j)
  by_position (inl less) other = inl (inl less)
  by_position (inr (inr greater)) other = inr (inr (inl greater))
  by_position (inr (inl same)) (inl less) = inl (inr (same, less))
  by_position (inr (inl same)) (inr (inl equal)) = inr (inl (same, equal))
  by_position (inr (inl same)) (inr (inr greater)) = inr (inr (inr (sym same, greater)))

-- If a field precedes field `r + 1` of visit `n`, then the field precedes field `r` or is field
-- `r`.
pub next_cases : (k j n r : ℕ) → ComesBefore k j n (suc r) → ComesBefore k j n r ⊎ IsThis k j n r
next_cases k j n r (inl earlier) = inl (inl earlier)
next_cases k j n r (inr same) = by_need (less_same_more j r) where
  by_need : (j < r) ⊎ ((j ≡ r) ⊎ (r < j)) → ComesBefore k j n r ⊎ IsThis k j n r
  by_need (inl less) = inl (inr (same.0, less))
  by_need (inr (inl equal)) = inr (same.0, equal)
  by_need (inr (inr greater)) = absurd (omega (arith, same.1))

module _ (table : Table) (graph : List Obj) where
  abbrev node : ℕ → ShapeOf ℕ
  node t = node_or_none (slice_get table.nodes t)

  -- ---- the order of paths

  -- The entries are ordered by increasing paths.
  abbrev pub AreInOrder : List (Entry ℕ) → Type 0
  AreInOrder reported =
      (j k : ℕ) (a b : Entry ℕ) → j < k → slice_get reported j ≡ Some a → slice_get reported k ≡ Some b
      → IsBefore a.path b.path

  -- If a field precedes another field, then the path to the first field precedes the path to the
  -- second.
  pub step_before :
      (reported : List (Entry ℕ)) (m j n r i l a b : ℕ) (p e : Entry ℕ) → AreInOrder reported → ComesBefore m j n r
      → slice_get reported m ≡ Some p → slice_get reported n ≡ Some e
      → slice_get (entry_fields table graph p) j ≡ Some (i, a) → slice_get (entry_fields table graph e) r ≡ Some (l, b)
      → IsBefore (p.path ++ i ∷ []) (e.path ++ l ∷ [])
  step_before reported m j n r i l a b p e increasing (inl earlier) at_m at_n at_j at_r =
      both_pushed p.path e.path i l (increasing m n p e earlier at_m at_n)
  step_before reported m j n r i l a b p e increasing (inr same) at_m at_n at_j at_r =
      let is : p ≡ e = same_Some p e (sym at_m ∙ ap (slice_get reported) same.0 ∙ at_n) in
      let at_j' = subst (λ q. slice_get (entry_fields table graph q) j ≡ Some (i, a)) is at_j in
      let less : i < l = needs_increase (node e.type) graph (vals.Ref e.object) j r i l a b same.1 at_j' at_r in
      subst (λ q. IsBefore (q.path ++ i ∷ []) (e.path ++ l ∷ [])) (sym is) (pushed_less e.path i l less)

  -- If the path of a field precedes the path of another field, then the first field precedes the
  -- second.
  pub need_before :
      (reported : List (Entry ℕ)) (m j n r i l a b : ℕ) (p e : Entry ℕ) → AreInOrder reported
      → slice_get reported m ≡ Some p → slice_get reported n ≡ Some e
      → slice_get (entry_fields table graph p) j ≡ Some (i, a) → slice_get (entry_fields table graph e) r ≡ Some (l, b)
      → IsBefore (p.path ++ i ∷ []) (e.path ++ l ∷ []) → ComesBefore m j n r
  need_before reported m j n r i l a b p e increasing at_m at_n at_j at_r before = ⊎_elim
      (λ earlier. earlier)
      (λ others. ⊎_elim
      (λ this.
      let is : p ≡ e = same_Some p e (sym at_m ∙ ap (slice_get reported) this.0 ∙ at_n) in
      let at_j' = subst (λ q. slice_get (entry_fields table graph q) j ≡ Some (i, a)) is at_j in
      let number : i ≡ l = ap (λ (need : ℕ × ℕ). need.0) (same_Some (i, a) (l, b) (sym at_j' ∙ ap (slice_get (entry_fields table graph e)) this.1 ∙ at_r)) in
      let path : p.path ++ i ∷ [] ≡ e.path ++ l ∷ [] = ap (λ q. q.path ++ i ∷ []) is ∙ ap (λ s. e.path ++ s ∷ []) number in
      absurd (never_before_itself (e.path ++ l ∷ []) (subst (λ q. IsBefore q (e.path ++ l ∷ [])) path before)))
      (λ later. absurd (never_before_itself (p.path ++ i ∷ [])
      (before_transitive (p.path ++ i ∷ []) (e.path ++ l ∷ []) (p.path ++ i ∷ []) before
      (step_before reported n r m j l i b a e p increasing later at_n at_m at_r at_j))))
      others)
      (needs_compare m j n r)

  module _ (root : ℕ) (reported : List (Entry ℕ)) (n r : ℕ) (known : AreExplored table graph root reported n r) where
    -- The paths of all known entries precede the path of the next field.
    pub entries_before :
        (i a : ℕ) (e : Entry ℕ) → slice_get reported n ≡ Some e → slice_get (entry_fields table graph e) r ≡ Some (i, a)
        → (k : ℕ) (f : Entry ℕ) → slice_get reported k ≡ Some f → IsBefore f.path (e.path ++ i ∷ [])
    entries_before i a e at_n at_r zero f at_k =
        let is : f.path ≡ [] = ap (λ (g : Entry ℕ). g.path) (same_Some f (record { path = []; object = root; type = 0 }) (sym at_k ∙ known.rooted)) in
        subst (λ p. IsBefore p (e.path ++ i ∷ [])) (sym is) (root_before e.path i)
    entries_before i a e at_n at_r (suc k) f at_k =
        let l = known.led (suc k) f (omega arith) at_k in
        subst (λ p. IsBefore p (e.path ++ i ∷ [])) (sym l.path)
        (step_before reported l.parent l.need n r l.number i l.type a l.entry e known.increasing l.before l.at at_n l.needed at_r)

    -- The path to a required field leads to the field's value.
    pub need_leads :
        (i a : ℕ) (e : Entry ℕ) (w : Val) → slice_get reported n ≡ Some e → slice_get (entry_fields table graph e) r ≡ Some (i, a)
        → IsTrue (is_asked_in table a) → field_of graph (vals.Ref e.object) i ≡ Some w
        → value_at (table_shapes table) graph (vals.Ref root) 0 (e.path ++ i ∷ []) ≡ Some (w, a)
    need_leads i a e w at_n at_r asked field =
        let named = need_is_named table graph e.object e.type r i a at_r asked in
        let stepped : step (table_shapes table) graph (vals.Ref e.object) e.type i ≡ Some (w, a) =
        ap (λ x. option_and_then (λ y. option_map (λ u. (y, u)) (type_of_field ((table_shapes table).needs graph (vals.Ref e.object) e.type) i)) x) field
        ∙ ap (λ u. option_map (λ t. (w, t)) u) named in
        value_at-push (table_shapes table) graph e.path (vals.Ref root) 0 i (vals.Ref e.object, e.type) (w, a) (known.leads n e at_n) stepped

    led_later : (e : Entry ℕ) → IsLedTo table graph reported n r e → IsLedTo table graph reported n (suc r) e
    led_later e l = record {
      parent = l.parent;
      need = l.need;
      entry = l.entry;
      at = l.at;
      before = comes_later l.parent l.need n r l.before;
      number = l.number;
      type = l.type;
      needed = l.needed;
      asked = l.asked;
      path = l.path;
    }

    this_met : (i a j l b : ℕ) (e f : Entry ℕ) (k : ℕ) (more : List (Entry ℕ)) → IsThis k j n r → slice_get reported n ≡ Some e → slice_get reported k ≡ Some f
        → slice_get (entry_fields table graph e) r ≡ Some (i, a) → slice_get (entry_fields table graph f) j ≡ Some (l, b)
        → (IsTrue (is_asked_in table a) → IsMetNeed table graph more e i a) → IsTrue (is_asked_in table b) → IsMetNeed table graph more f l b
    this_met i a j l b e f k more this at_n at_k at_r at_j met =
        let is : e ≡ f = same_Some e f (sym at_n ∙ ap (slice_get reported) (sym this.0) ∙ at_k) in
        let at_r' = subst (λ q. slice_get (entry_fields table graph q) r ≡ Some (i, a)) is at_r in
        let need : ◌≡◌ {A = ℕ × ℕ} (i, a) (l, b) = same_Some (i, a) (l, b) (sym at_r' ∙ ap (slice_get (entry_fields table graph f)) (sym this.1) ∙ at_j) in
        subst (λ (q : ℕ × ℕ). IsTrue (is_asked_in table q.1) → IsMetNeed table graph more f q.0 q.1) need
        (subst (λ g. IsTrue (is_asked_in table a) → IsMetNeed table graph more g i a) is met)

    -- Case: if the field is required, the field was tested, and the field's object was visited
    -- before.
    pub explored_same :
        (i a : ℕ) (e : Entry ℕ) → slice_get reported n ≡ Some e → slice_get (entry_fields table graph e) r ≡ Some (i, a)
        → (IsTrue (is_asked_in table a) → IsMetNeed table graph reported e i a) → AreExplored table graph root reported n (suc r)
    explored_same i a e at_n at_r met = record {
      rooted = known.rooted;
      leads = known.leads;
      fit = known.fit;
      increasing = known.increasing;
      apart = known.apart;
      objects = known.objects;
      types = known.types;
      led = λ k f later at_k. led_later f (known.led k f later at_k);
      done = λ k j l b f before at_k at_j asked. ⊎_elim
          (λ earlier. known.done k j l b f earlier at_k at_j asked)
          (λ this. this_met i a j l b e f k reported this at_n at_k at_r at_j met asked)
          (next_cases k j n r before);
    }

    entered_more : (f : Entry ℕ) (w : Val) (t : ℕ) (path : List ℕ) → IsEntered (table_shapes table) reported w t path → IsEntered (table_shapes table) (reported ++ f ∷ []) w t path
    entered_more f (vals.Int z) t path entered = tt
    entered_more f (vals.Atom tag) t path entered = tt
    entered_more f (vals.Ref o) t path entered =
        (entered.0, Contains-append_left reported (f ∷ []) entered.0 entered.1, entered.2, entered.3, entered.4)

    met_more : (f e : Entry ℕ) (i a : ℕ) → IsMetNeed table graph reported e i a → IsMetNeed table graph (reported ++ f ∷ []) e i a
    met_more f e i a met = record {
      value = met.value;
      there = met.there;
      fits = met.fits;
      entered = entered_more f met.value a (e.path ++ i ∷ []) met.entered;
    }

    led_more : (f e : Entry ℕ) → IsLedTo table graph reported n r e → IsLedTo table graph (reported ++ f ∷ []) n (suc r) e
    led_more f e l = record {
      parent = l.parent;
      need = l.need;
      entry = l.entry;
      at = slice_get-append_left reported (f ∷ []) l.parent l.entry l.at;
      before = comes_later l.parent l.need n r l.before;
      number = l.number;
      type = l.type;
      needed = l.needed;
      asked = l.asked;
      path = l.path;
    }

    -- Case: the field was tested, and the field's object is entered as a new one.
    pub explored_more :
        (i a o : ℕ) (e : Entry ℕ) → slice_get reported n ≡ Some e → slice_get (entry_fields table graph e) r ≡ Some (i, a)
        → IsTrue (is_asked_in table a) → field_of graph (vals.Ref e.object) i ≡ Some (vals.Ref o)
        → (table_shapes table).fits graph (vals.Ref o) a → o < length graph → a < length table.nodes
        → ((k : ℕ) (f : Entry ℕ) → slice_get reported k ≡ Some f → f.object ≡ o → slice_get table.classes f.type ≡ slice_get table.classes a → ⊥)
        → AreExplored table graph root (reported ++ record { path = e.path ++ i ∷ []; object = o; type = a } ∷ []) n (suc r)
    explored_more i a o e at_n at_r asked field fit object type new = record {
      rooted = slice_get-append_left reported (f ∷ []) 0 (record { path = []; object = root; type = 0 }) known.rooted;
      leads = λ k g at_k. ⊎_elim
          (λ before. known.leads k g before)
          (λ last. subst (λ h. value_at (table_shapes table) graph (vals.Ref root) 0 h.path ≡ Some (vals.Ref h.object, h.type)) last.1 (need_leads i a e (vals.Ref o) at_n at_r asked field))
          (slice_get-push_cases reported f k g at_k);
      fit = λ k g at_k. ⊎_elim
          (λ before. known.fit k g before)
          (λ last. subst (λ h. (table_shapes table).fits graph (vals.Ref h.object) h.type) last.1 fit)
          (slice_get-push_cases reported f k g at_k);
      increasing = λ j k g h less at_j at_k. ⊎_elim
          (λ first. ⊎_elim
          (λ second. known.increasing j k g h less first second)
          (λ last. subst (λ q. IsBefore g.path q.path) last.1 (entries_before i a e at_n at_r j g first))
          (slice_get-push_cases reported f k h at_k))
          (λ last. absurd (past j k h last.0 less at_k))
          (slice_get-push_cases reported f j g at_j);
      apart = λ j k g h at_j at_k same equal. ⊎_elim
          (λ first. ⊎_elim
          (λ second. known.apart j k g h first second same equal)
          (λ last. absurd (new j g first (same ∙ ap (λ q. q.object) (sym last.1)) (equal ∙ ap (λ q. slice_get table.classes q.type) (sym last.1))))
          (slice_get-push_cases reported f k h at_k))
          (λ last. ⊎_elim
          (λ second. absurd (new k h second (sym same ∙ ap (λ q. q.object) (sym last.1)) (sym equal ∙ ap (λ q. slice_get table.classes q.type) (sym last.1))))
          (λ other. last.0 ∙ sym other.0)
          (slice_get-push_cases reported f k h at_k))
          (slice_get-push_cases reported f j g at_j);
      objects = λ k g at_k. ⊎_elim
          (λ before. known.objects k g before)
          (λ last. subst (λ h. h.object < length graph) last.1 object)
          (slice_get-push_cases reported f k g at_k);
      types = λ k g at_k. ⊎_elim
          (λ before. known.types k g before)
          (λ last. subst (λ h. h.type < length table.nodes) last.1 type)
          (slice_get-push_cases reported f k g at_k);
      led = λ k g later at_k. ⊎_elim
          (λ before. led_more f g (known.led k g later before))
          (λ last. subst (λ h. IsLedTo table graph (reported ++ f ∷ []) n (suc r) h) last.1 led_here)
          (slice_get-push_cases reported f k g at_k);
      done = λ k j l b g before at_k at_j also. ⊎_elim
          (λ old. ⊎_elim
          (λ earlier. met_more f g l b (known.done k j l b g earlier old at_j also))
          (λ this. this_met i a j l b e g k (reported ++ f ∷ []) this at_n old at_r at_j (λ its. met) also)
          (next_cases k j n r before))
          (λ last. absurd (after k j last.0 before))
          (slice_get-push_cases reported f k g at_k);
    } where
      f : Entry ℕ
      f = record { path = e.path ++ i ∷ []; object = o; type = a }

      past : (j k : ℕ) (h : Entry ℕ) → j ≡ length reported → j < k → slice_get (reported ++ f ∷ []) k ≡ Some h → ⊥
      past j k h last less at_k = ⊎_elim
          (λ before. let within = slice_get_within reported k h before in omega arith)
          (λ here. omega (arith, here.0))
          (slice_get-push_cases reported f k h at_k)

      after : (k j : ℕ) → k ≡ length reported → ComesBefore k j n (suc r) → ⊥
      after k j last (inl earlier) = let within = slice_get_within reported n e at_n in omega arith
      after k j last (inr same) = let within = slice_get_within reported n e at_n in omega (arith, same.0)

      led_here : IsLedTo table graph (reported ++ f ∷ []) n (suc r) f
      led_here = record {
        parent = n;
        need = r;
        entry = e;
        at = slice_get-append_left reported (f ∷ []) n e at_n;
        before = inr (refl, omega arith);
        number = i;
        type = a;
        needed = at_r;
        asked = asked;
        path = refl;
      }

      met : IsMetNeed table graph (reported ++ f ∷ []) e i a
      met = record {
        value = vals.Ref o;
        there = field;
        fits = fit;
        entered = (f, Contains-push reported f, refl, refl, never_before_itself (e.path ++ i ∷ []));
      }

    -- If all fields of a visit were tested, then the next visit follows.
    pub explored_next :
        (e : Entry ℕ) → slice_get reported n ≡ Some e → length (entry_fields table graph e) ≡ r → AreExplored table graph root reported (suc n) 0
    explored_next e at_n all = record {
      rooted = known.rooted;
      leads = known.leads;
      fit = known.fit;
      increasing = known.increasing;
      apart = known.apart;
      objects = known.objects;
      types = known.types;
      led = λ k f later at_k.
          let l = known.led k f later at_k in
          record {
            parent = l.parent;
            need = l.need;
            entry = l.entry;
            at = l.at;
            before = inl (earliest l.parent l.need l.before);
            number = l.number;
            type = l.type;
            needed = l.needed;
            asked = l.asked;
            path = l.path;
          };
      done = λ k j l b f before at_k at_j asked. known.done k j l b f (within k j l b f before at_k at_j) at_k at_j asked;
    } where
      earliest : (k j : ℕ) → ComesBefore k j n r → k < suc n
      earliest k j (inl earlier) = omega arith
      earliest k j (inr same) = omega (arith, same.0)

      within : (k j l b : ℕ) (f : Entry ℕ) → ComesBefore k j (suc n) 0 → slice_get reported k ≡ Some f → slice_get (entry_fields table graph f) j ≡ Some (l, b) → ComesBefore k j n r
      within k j l b f (inl earlier) at_k at_j = ⊎_elim
          (λ less. inl less)
          (λ others. ⊎_elim
          (λ same.
          let is : f ≡ e = same_Some f e (sym at_k ∙ ap (slice_get reported) same ∙ at_n) in
          let few = slice_get_within (entry_fields table graph f) j (l, b) at_j in
          let few' = subst (λ g. j < length (entry_fields table graph g)) is few in
          inr (same, omega (arith, few', all)))
          (λ greater. absurd (omega arith))
          others)
          (less_same_more k n)
      within k j l b f (inr same) at_k at_j = absurd (omega (arith, same.1))
