-- The kept earlier values, as one more value is edited by its lines.
use Rattle.std.proofs.Common.{◌≡◌, ◌∙◌, ◌⊎◌, inl, inr, ⊎_elim, ℕ, zero, suc, ◌+◌, ◌<◌, ◌≤◌, Bool, true, false, ltb, eqb, List, [], ◌∷◌, ◌++◌, length, map, set, get_or, Option, None, Some, Result, Ok, Err, is_some, refl, sym, ap, subst, length-append, eqb-true, eq-eqb, ne_eqb, lt-ltb, le-ltb, arith}
use Rattle.std.proofs.lemmas.Bool.{ltb-true, ltb-false, eqb-false, cases_lt}
use Rattle.std.proofs.lemmas.List.{get_or_append_left, get_or_default, get_or-map, length-map, with_items_is}
use Rattle.std.proofs.lemmas.List.Elements.{All-cons, All-filter, All-map, All-nil, All-push, filter_passes}
use Rattle.std.proofs.lemmas.List.Folds.{map_fixed}
use Rattle.std.proofs.lemmas.List.Quantifiers.{Any-push, all_pairs_push}
use Rattle.std.specs.List.{Contains}
use Rattle.std.specs.List.Sorted.{IsNonDecreasingBy, IsPartitionPoint}
use Rattle.std.specs.Prelude.{All, Any, IfSome, IsSome, MatchOption, nat_eq, nat_lt, slice_get, unwrap_or, is_ok, OnErr, Vec, if◌then◌else◌}
use Rattle.std.specs.Vec.{with_items}
use Rattle.std.specs.declared.alloc.Global.{Global}
use Rattle.base_data.specs.declared.model.value.Val.{Val}
use Rattle.base_data.specs.declared.model.value.Obj.{Obj}
use Rattle.base_data.specs.model.Graph.{IsValue}
use Rattle.base_data.proofs.model.Lists.{Contains-filter, slice_get-append_left, slice_get-last}
use Rattle.types_table.specs.declared.type_table.tabled.Tabled.{Tabled}
use Rattle.text_path.specs.ScriptAnswer.{IsInTime, AreInTime}
use Rattle.text_path.specs.Uses.{CopiesFrom, IsUnused, IsLastUse}
use Rattle.text_path.specs.declared.edits.Action.{Action}
use Rattle.text_path.specs.declared.edits.Action.TheVariants as actions
use Rattle.text_path.specs.declared.edits.Edit.{Edit}
use Rattle.text_path.specs.declared.edits.ScriptLine.{ScriptLine}
use Rattle.run_types.specs.Language.{lines_of_value}
use Rattle.edit_values.specs.declared.edit_refusal.EditRefusal.{EditRefusal}
use Rattle.edit_values.specs.Grafts.{Other, IsGraftApplied, IsNotGraftedFor}
use Rattle.edit_values.specs.LineLaws.{IsLineApplied, IsLineRefusedFor}
use Rattle.edit_values.specs.Reasons.{Reason, reason_of}
use Rattle.edit_values.specs.TableEdits.{IsApplied, IsRefusedFor}
use Rattle.marshal_read.specs.declared.returned_value.Value.{Value}
use Rattle.session.specs.declared.earlier.Earlier.{Earlier}
use Rattle.session.specs.Earlier.{IsMade, AreMade, AreInOrder, IsThere, IsServed, AreServed, IsEntry, AreEarlier, IsUsedUpTo, AreNamed, without, after_value, after_copy, after_action, all_after, with_made}

-- ---- the values after their lines

module _ (others : List Other) where
  one_stays : (made : Other) (number : ℕ) (value : Option Value) → IfSome value (λ v. IsMade others number v) → IfSome value (λ v. IsMade (others ++ made ∷ []) number v)
  one_stays made number None is = tt
  one_stays made number (Some value) is = record {
    valid = is.valid;
    same = slice_get-append_left others (made ∷ []) number (value.heap, value.root) is.same;
  }

  -- If one more value is edited, then the kept values remain valid.
  pub all_stay : (made : Other) (kept : List Earlier) → AreMade others kept → AreMade (others ++ made ∷ []) kept
  all_stay made kept are = λ k d less. one_stays made (get_or kept k d).number (get_or kept k d).value (are k d less)

  -- The value that was edited last satisfies `IsMade`.
  pub last_made : (number : ℕ) (value : Value) → IsValue (length value.heap) value.root → number ≡ length others
      → IsMade (others ++ (value.heap, value.root) ∷ []) number value
  last_made number value valid is = record {
    valid = valid;
    same = subst (λ n. slice_get (others ++ (value.heap, value.root) ∷ []) n ≡ Some (value.heap, value.root)) (sym is) (slice_get-last others (value.heap, value.root));
  }

  abbrev IsMadeEntry : Earlier → Type 0
  IsMadeEntry e = IfSome e.value (λ value. IsMade others e.number value)

  made_or_gone : (e : Earlier) (later : Bool) → IsMadeEntry e → IsMadeEntry (if later then e else without e)
  made_or_gone e true is = is
  made_or_gone e false is = tt

  after_made : (number : ℕ) (kept : List Earlier) → AreMade others kept → AreMade others (all_after number kept)
  after_made number kept are = All-map IsMadeEntry (after_value number) kept
      (λ k d less. made_or_gone (get_or kept k d) (nat_lt number (get_or kept k d).last) (are k d less))

  one_more : (kept : List Earlier) (made : Earlier) (later : Bool) → AreMade others kept → IsMadeEntry made → AreMade others (if later then kept ++ made ∷ [] else kept)
  one_more kept made true are is = All-push IsMadeEntry kept made are is
  one_more kept made false are is = are

  -- If one more value is kept and unneeded values are freed, then all kept values satisfy `IsMade`.
  pub still_made : (number : ℕ) (kept : List Earlier) (made : Earlier) → AreMade others kept → IsMadeEntry made → AreMade others (with_made (all_after number kept) made)
  still_made number kept made are is = one_more (all_after number kept) made (nat_lt made.number made.last) (after_made number kept are) is

-- If a kept value is found by its number, then the value satisfies `IsMade`.
pub found_made : (others : List Other) (kept : List Earlier) (number : ℕ) (value : Value) → AreMade others kept → Any (λ (e : Earlier). (e.number ≡ number) × (e.value ≡ Some value)) kept → IsMade others number value
found_made others kept number value are (k, e, within, at, (same, is)) =
    let made : IfSome e.value (λ v. IsMade others e.number v) = subst (λ (x : Earlier). IfSome x.value (λ v. IsMade others x.number v)) at (are k e within) in
    subst (λ n. IsMade others n value) same (subst (λ (o : Option Value). IfSome o (λ v. IsMade others e.number v)) is made)

-- If a function changes only the entry at index `i`, then applying the function to this entry is
-- the same as mapping the function.
set_is_map : (f : Earlier → Earlier) (kept : List Earlier) (i : ℕ) (d : Earlier) → i < length kept
    → ((k : ℕ) (e : Earlier) → k < length kept → (k ≡ i → ⊥) → f (get_or kept k e) ≡ get_or kept k e) → set kept i (f (get_or kept i d)) ≡ map f kept
set_is_map f [] i d within others = absurd (omega (arith, within))
set_is_map f (e ∷ kept) zero d within others =
    ap (λ (xs : List Earlier). f e ∷ xs) (sym (map_fixed f kept (λ k x inside. others (suc k) x (omega (arith, inside)) (λ same. omega (arith, same)))))
set_is_map f (e ∷ kept) (suc i) d within others =
    ap (λ (x : Earlier). x ∷ set kept i (f (get_or kept i d))) (sym (others 0 e (omega arith) (λ same. omega (arith, same))))
    ∙ ap (λ (xs : List Earlier). f e ∷ xs) (set_is_map f kept i d (omega (arith, within)) (λ k x inside no. others (suc k) x (omega (arith, inside)) (λ same. no (omega (arith, same)))))

-- ---- the search

-- The numbers of the kept entries increase.
pub numbers_rise : (kept : List Earlier) → AreInOrder kept → IsNonDecreasingBy (λ (e : Earlier). e.number) kept
numbers_rise kept ordered i j d to within = ⊎_elim
    (λ less. let rises = ordered i j d less within in omega (arith, rises))
    (λ back. let same : i ≡ j = omega (arith, to, back) in omega (arith, ap (λ k. (get_or kept k d).number) same))
    (cases_lt i j)

module _ (kept : List Earlier) (number : ℕ) (ordered : AreInOrder kept) (i : ℕ) (point : IsPartitionPoint (λ (e : Earlier). ltb e.number number ≡ true) (λ (e : Earlier). ltb e.number number ≡ false) kept i) where
  -- An entry at another index has another number.
  others_differ : (k : ℕ) (d : Earlier) → k < length kept → (k ≡ i → ⊥) → (get_or kept k d).number ≡ number → ⊥
  others_differ k d within other same = ⊎_elim
      (λ before. let less = ltb-true _ _ (point.0 k d (omega arith) before) in omega (arith, less, same))
      (λ from.
      let after : i < k = omega (arith, from, other) in
      let at_least = ltb-false _ _ (point.1 i d (omega arith) (omega (arith, after, within))) in
      let rises = ordered i k d after within in omega (arith, at_least, rises, same))
      (cases_lt k i)

  is_position : (k : ℕ) (e : Earlier) → k < length kept → get_or kept k e ≡ e → e.number ≡ number → k ≡ i
  is_position k e within at is = by (eqb k i) refl where
    by : (b : Bool) → eqb k i ≡ b → k ≡ i
    by true same = eqb-true k i same
    by false differs = absurd (others_differ k e within (eqb-false k i differs) (ap (λ (x : Earlier). x.number) at ∙ is))

  -- If the value is in the list, then the search finds an index within the list.
  pub found_within : IsThere kept number → i < length kept
  found_within (k, e, within, at, (is, some)) =
      let position = is_position k e within at is in omega (arith, position, within)

  found_entry : (k : ℕ) (e : Earlier) → k < length kept → get_or kept k e ≡ e → e.number ≡ number → (d : Earlier) → get_or kept i d ≡ e
  found_entry k e within at is d =
      ap (λ n. get_or kept n d) (sym (is_position k e within at is)) ∙ (get_or_default kept k d e within ∙ at)

  -- If a value is kept, then the entry that the search finds has a value.
  pub found_some : IsThere kept number → (d : Earlier) → (get_or kept i d).value ≡ None → ⊥
  found_some (k, e, within, at, (is, some)) d none =
      let entry = found_entry k e within at is d in
      let no : false ≡ true = ap is_some (sym none ∙ ap (λ (x : Earlier). x.value) entry) ∙ some in absurd (cc no)

  pub found_there : IsThere kept number → (value : Value) (d : Earlier) → (get_or kept i d).value ≡ Some value → Any (λ (e : Earlier). (e.number ≡ number) × (e.value ≡ Some value)) kept
  found_there (k, e, within, at, (is, some)) value d has =
      (k, e, within, at, (is, ap (λ (x : Earlier). x.value) (sym (found_entry k e within at is d)) ∙ has))

  -- ---- the entry that is freed

  other_stays : (after : ℕ) (e : Earlier) → (e.number ≡ number → ⊥) → after_copy number after e ≡ e
  other_stays after e other = ap (λ b. if b then after_value after e else e) (ne_eqb e.number number other)

  pub let_go_at : (after : ℕ) (d : Earlier) → i < length kept → set kept i (after_copy number after (get_or kept i d)) ≡ map (after_copy number after) kept
  let_go_at after d here = set_is_map (after_copy number after) kept i d here
      (λ k e within other. other_stays after (get_or kept k e) (others_differ k e within other))

  pub let_go_none : (after : ℕ) → length kept ≤ i → kept ≡ map (after_copy number after) kept
  let_go_none after past = sym (map_fixed (after_copy number after) kept
      (λ k e within. other_stays after (get_or kept k e) (others_differ k e within (λ same. omega (arith, same, within, past)))))

-- ---- the entry after a value

later_stays : (number : ℕ) (e : Earlier) → number < e.last → after_value number e ≡ e
later_stays number e less = ap (λ b. if b then e else without e) (lt-ltb number e.last less)

past_goes : (number : ℕ) (e : Earlier) → e.last ≤ number → after_value number e ≡ without e
past_goes number e past = ap (λ b. if b then e else without e) (le-ltb number e.last past)

-- If an entry has another number than `from`, then `after_copy` does not change the entry.
pub other_left : (from number : ℕ) (e : Earlier) → (e.number ≡ from → ⊥) → e ≡ after_copy from number e
other_left from number e other = sym (ap (λ b. if b then after_value number e else e) (ne_eqb e.number from other))

that_left : (from number : ℕ) (e : Earlier) → e.number ≡ from → after_value number e ≡ after_copy from number e
that_left from number e is = sym (ap (λ b. if b then after_value number e else e) (eq-eqb e.number from is))

pub later_left : (from number : ℕ) (e : Earlier) → e.number ≡ from → number < e.last → e ≡ after_copy from number e
later_left from number e is less = sym (later_stays number e less) ∙ that_left from number e is

pub past_left : (from number : ℕ) (e : Earlier) → e.number ≡ from → e.last ≤ number → without e ≡ after_copy from number e
past_left from number e is past = sym (past_goes number e past) ∙ that_left from number e is

-- The number of an entry does not change.
number_left : (number : ℕ) (e : Earlier) → (after_value number e).number ≡ e.number
number_left number e = at (nat_lt number e.last) where
  at : (b : Bool) → (if b then e else without e).number ≡ e.number
  at true = refl
  at false = refl

number_by : (action : Action) (number : ℕ) (e : Earlier) → (after_action action number e).number ≡ e.number
number_by (actions.Edit edit) number e = refl
number_by (actions.Graft path from source) number e = at (nat_eq e.number from) where
  at : (b : Bool) → (if b then after_value number e else e).number ≡ e.number
  at true = number_left number e
  at false = refl

-- Freeing an entry twice is the same as freeing it once.
left_twice : (number : ℕ) (e : Earlier) → after_value number (after_value number e) ≡ after_value number e
left_twice number e = at (nat_lt number e.last) refl where
  at : (b : Bool) → nat_lt number e.last ≡ b → after_value number (if b then e else without e) ≡ (if b then e else without e)
  at true later = ap (λ b. if b then e else without e) later
  at false past = ap (λ b. if b then without e else without (without e)) past

left_by : (action : Action) (number : ℕ) (e : Earlier) → after_value number (after_action action number e) ≡ after_value number e
left_by (actions.Edit edit) number e = refl
left_by (actions.Graft path from source) number e = at (nat_eq e.number from) where
  at : (b : Bool) → after_value number (if b then after_value number e else e) ≡ after_value number e
  at true = left_twice number e
  at false = refl

pub all_left_by : (action : Action) (number : ℕ) (kept : List Earlier) → all_after number (map (after_action action number) kept) ≡ all_after number kept
all_left_by action number [] = refl
all_left_by action number (e ∷ kept) =
    ap (λ (x : Earlier). x ∷ all_after number (map (after_action action number) kept)) (left_by action number e)
    ∙ ap (λ (xs : List Earlier). after_value number e ∷ xs) (all_left_by action number kept)

-- A line that does not copy frees nothing.
pub no_copy : (action : Action) (edit : Edit) (number : ℕ) (kept : List Earlier) → action ≡ actions.Edit edit → kept ≡ map (after_action action number) kept
no_copy action edit number kept is =
    subst (λ (a : Action). kept ≡ map (after_action a number) kept) (sym is) (sym (map_fixed (after_action (actions.Edit edit) number) kept (λ k d within. refl)))

-- If a function keeps the numbers of entries, then mapping the function keeps the order of the
-- entries.
order_left : (f : Earlier → Earlier) → ((e : Earlier) → (f e).number ≡ e.number) → (kept : List Earlier) → AreInOrder kept → AreInOrder (map f kept)
order_left f same kept ordered i j d less within =
    let size = length-map kept f in
    let inside : j < length kept = omega (arith, size, within) in
    let first : (get_or (map f kept) i d).number ≡ (get_or kept i d).number = ap (λ (x : Earlier). x.number) (get_or-map f kept i d d (omega (arith, less, inside))) ∙ same (get_or kept i d) in
    let second : (get_or (map f kept) j d).number ≡ (get_or kept j d).number = ap (λ (x : Earlier). x.number) (get_or-map f kept j d d inside) ∙ same (get_or kept j d) in
    let rises = ordered i j d less inside in
    omega (arith, first, second, rises)

pub order_left_by : (action : Action) (number : ℕ) (kept : List Earlier) → AreInOrder kept → AreInOrder (map (after_action action number) kept)
order_left_by action number kept ordered = order_left (after_action action number) (number_by action number) kept ordered

-- ---- the values that the lines of a value name

abbrev Names : ℕ → ScriptLine → Type 0
Names number line = CopiesFrom number line.action

first_or_rest : (P : ScriptLine → Type 0) (line : ScriptLine) (lines : List ScriptLine) → Any P (line ∷ lines) → P line ⊎ Any P lines
first_or_rest P line lines (zero, x, within, at, is) = inl (subst P (sym at) is)
first_or_rest P line lines (suc k, x, within, at, is) = inr (k, x, omega (arith, within), at, is)

in_none : (P : ScriptLine → Type 0) → Any P [] → ⊥
in_none P (k, x, within, at, is) = omega (arith, within)

-- If the value of an entry is still kept after a line, then a later line names the value.
named_by_rest : (action : Action) (number : ℕ) (rest : List ScriptLine) (e : Earlier)
    → (IsSome e.value → e.last ≤ number → CopiesFrom e.number action ⊎ Any (Names e.number) rest)
    → IsSome (after_action action number e).value → (after_action action number e).last ≤ number → Any (Names (after_action action number e).number) rest
named_by_rest (actions.Edit edit) number rest e named some past = ⊎_elim (λ no. absurd no) (λ there. there) (named some past)
named_by_rest (actions.Graft path from source) number rest e named some past = by (nat_eq e.number from) (nat_lt number e.last) refl refl some past where
  by : (b c : Bool) → nat_eq e.number from ≡ b → nat_lt number e.last ≡ c
      → IsSome (if b then (if c then e else without e) else e).value → (if b then (if c then e else without e) else e).last ≤ number
      → Any (Names (if b then (if c then e else without e) else e).number) rest
  by true true same later some past = let less = ltb-true number e.last later in absurd (omega (arith, less, past))
  by true false same gone some past = absurd (cc some)
  by false c differs later some past = ⊎_elim (λ copies. absurd (eqb-false e.number from differs (sym copies))) (λ there. there) (named some past)

pub named_more : (number : ℕ) (line : ScriptLine) (rest : List ScriptLine) (kept : List Earlier) → AreNamed number (line ∷ rest) kept → AreNamed number rest (map (after_action line.action number) kept)
named_more number line rest kept named =
    All-map (λ (e : Earlier). IsSome e.value → e.last ≤ number → Any (Names e.number) rest) (after_action line.action number) kept
    (λ k d within. let e = get_or kept k d in
    named_by_rest line.action number rest e (λ some past. first_or_rest (Names e.number) line rest (named k d within some past)))

abbrev with_value : Earlier → Option Value → Earlier
with_value e value = record { number = e.number; last = e.last; value = value }

-- If no line is left, then no entry is to be freed.
stays_so : (number : ℕ) (e : Earlier) → (IsSome e.value → e.last ≤ number → ⊥) → after_value number e ≡ e
stays_so number e unkept = at (nat_lt number e.last) refl where
  has_none : (o : Option Value) → e.value ≡ o → e.last ≤ number → without e ≡ e
  has_none None none past = ap (with_value e) (sym none)
  has_none (Some value) some past = absurd (unkept (ap is_some some) past)

  at : (b : Bool) → nat_lt number e.last ≡ b → (if b then e else without e) ≡ e
  at true later = refl
  at false gone = has_none e.value refl (ltb-false number e.last gone)

pub none_left : (number : ℕ) (kept : List Earlier) → AreNamed number [] kept → all_after number kept ≡ kept
none_left number kept named = map_fixed (after_value number) kept
    (λ k d within. let e = get_or kept k d in stays_so number e (λ some past. in_none (Names e.number) (named k d within some past)))

-- If the items of a vector are mapped in place, then the vector has the mapped items.
pub dropped : (v : Vec Earlier Global) (ws : List Earlier) (number : ℕ) → ws ≡ all_after number v.items → (with_items v ws).items ≡ all_after number v.items
dropped v ws number is = with_items_is v ws (ap length is ∙ (length-map v.items (after_value number) ∙ sym v.ok.0)) ∙ is

-- If memory is reserved, then appending succeeds.
pub pushed : {E : Type 0} (result : Result (Unit {0}) E) (old new : List Earlier) (made : Earlier) (size room : ℕ) → new ≡ (if is_ok result then old ++ made ∷ [] else old)
    → OnErr result (room ≤ size) → size < room → new ≡ old ++ made ∷ []
pushed (Ok unit) old new made size room is full less = is
pushed (Err e) old new made size room is full less = absurd (omega (arith, full, less))

-- If a value is used later, then the value is kept.
pub is_kept : (kept : List Earlier) (made : Earlier) → made.number < made.last → kept ++ made ∷ [] ≡ with_made kept made
is_kept kept made less = sym (ap (λ b. if b then kept ++ made ∷ [] else kept) (lt-ltb made.number made.last less))

pub not_kept : (kept : List Earlier) (made : Earlier) → made.last ≤ made.number → kept ≡ with_made kept made
not_kept kept made used = at (nat_lt made.number made.last) refl where
  at : (b : Bool) → nat_lt made.number made.last ≡ b → kept ≡ (if b then kept ++ made ∷ [] else kept)
  at true is = let less = ltb-true made.number made.last is in absurd (omega (arith, less, used))
  at false is = refl

-- ---- the values that are needed

-- Before the first value, no value is needed.
pub none_needed : (lines : List ScriptLine) → AreEarlier lines 0 []
none_needed lines = record {
  in_order = λ i j d less within. absurd (omega (arith, within));
  entries = All-nil (IsEntry lines 0);
  needed = λ i d within number copies less after. absurd (omega (arith, less));
}

-- If `last` is the last value into which a value is copied, then no line copies the value into a
-- later value.
pub used_up_to : (lines : List ScriptLine) (number : ℕ) (last : Option ℕ) → MatchOption last (IsUnused lines number) (IsLastUse lines number) → IsUsedUpTo lines number (unwrap_or last 0)
used_up_to lines number None unused = λ i d within copies. absurd (unused i d within copies)
used_up_to lines number (Some last) (some, all) = all

-- If no line copies from a value after `last`, then no line copies from the value after any greater
-- number.
pub used_within : (lines : List ScriptLine) (number last : ℕ) → last ≤ number → IsUsedUpTo lines number last → IsUsedUpTo lines number number
used_within lines number last most used = λ i d within copies. let up_to = used i d within copies in omega (arith, up_to, most)

pub used_last : (lines : List ScriptLine) (number : ℕ) (last : Option ℕ) → MatchOption last (IsUnused lines number) (IsLastUse lines number) → number < unwrap_or last 0 → IsLastUse lines number (unwrap_or last 0)
used_last lines number None unused less = absurd (omega (arith, less))
used_last lines number (Some last) is less = is

there_before : (P : Earlier → Type 0) (xs ys : List Earlier) → Any P xs → Any P (xs ++ ys)
there_before P xs ys (k, e, within, at, is) =
    let size = length-append xs ys in
    (k, e, omega (arith, size, within), get_or_append_left xs ys e k within ∙ at, is)

module _ (lines : List ScriptLine) (n : ℕ) (kept : List Earlier) (are : AreEarlier lines n kept) where
  -- If one more value is edited, then each entry remains a valid entry.
  entry_after : (e : Earlier) → IsEntry lines n e → IsEntry lines (n + 1) (after_value n e)
  entry_after e is = at (nat_lt n e.last) refl where
    at : (b : Bool) → nat_lt n e.last ≡ b → IsEntry lines (n + 1) (if b then e else without e)
    at true later = record {
      before = let less = is.before in omega (arith, less);
      last = is.last;
      used = λ some. let less = ltb-true n e.last later in omega (arith, less);
    }
    at false gone = record {
      before = let less = is.before in omega (arith, less);
      last = is.last;
      used = λ some. absurd (cc some);
    }

  entries_after : All (IsEntry lines (n + 1)) (all_after n kept)
  entries_after = All-map (IsEntry lines (n + 1)) (after_value n) kept (λ k d within. entry_after (get_or kept k d) (are.entries k d within))

  order_after : AreInOrder (all_after n kept)
  order_after = order_left (after_value n) (number_left n) kept are.in_order

  below_after : All (λ (e : Earlier). e.number < n) (all_after n kept)
  below_after = All-map (λ (e : Earlier). e.number < n) (after_value n) kept
      (λ k d within. let same = number_left n (get_or kept k d) in let less = (are.entries k d within).before in omega (arith, same, less))

  -- If a value is copied into a value after the next value, then the value stays kept.
  old_there : (i : ℕ) (d : ScriptLine) → i < length lines → (number : ℕ) → CopiesFrom number (get_or lines i d).action → n + 1 ≤ (get_or lines i d).value
      → IsThere kept number → IsThere (all_after n kept) number
  old_there i d within number copies after (k, e, inside, at, (same, some)) =
      let entry : IsEntry lines n e = subst (IsEntry lines n) at (are.entries k e inside) in
      let up_to = entry.last.1 i d within (subst (λ m. CopiesFrom m (get_or lines i d).action) (sym same) copies) in
      let size = length-map kept (after_value n) in
      let here : get_or (all_after n kept) k e ≡ e = get_or-map (after_value n) kept k e e inside ∙ (ap (after_value n) at ∙ later_stays n e (omega (arith, after, up_to))) in
      (k, e, omega (arith, size, inside), here, (same, some))

  -- Lemmas on the entry of one more value.
  module _ (made : Earlier) (is : made.number ≡ n) (some : IsSome made.value) (last : made.number < made.last → IsLastUse lines n made.last) (used : IsUsedUpTo lines n made.last) where
    new_entry : made.number < made.last → IsEntry lines (n + 1) made
    new_entry less = record {
      before = omega (arith, is);
      last = subst (λ m. IsLastUse lines m made.last) (sym is) (last less);
      used = λ has. omega (arith, is, less);
    }

    in_order_more : (b : Bool) → AreInOrder (if b then all_after n kept ++ made ∷ [] else all_after n kept)
    in_order_more true = all_pairs_push (λ (e later : Earlier). e.number < later.number) (all_after n kept) made order_after
        (λ k d within. let less = below_after k d within in omega (arith, less, is))
    in_order_more false = order_after

    entries_more : (b : Bool) → nat_lt made.number made.last ≡ b → All (IsEntry lines (n + 1)) (if b then all_after n kept ++ made ∷ [] else all_after n kept)
    entries_more true later = All-push (IsEntry lines (n + 1)) (all_after n kept) made entries_after (new_entry (ltb-true made.number made.last later))
    entries_more false past = entries_after

    there_more : (i : ℕ) (d : ScriptLine) → i < length lines → (number : ℕ) → CopiesFrom number (get_or lines i d).action → number < n + 1 → n + 1 ≤ (get_or lines i d).value
        → (b c : Bool) → nat_lt made.number made.last ≡ b → eqb number n ≡ c → IsThere (if b then all_after n kept ++ made ∷ [] else all_after n kept) number
    there_more i d within number copies less after true true later equal =
        Any-push (λ (e : Earlier). (e.number ≡ number) × IsSome e.value) (all_after n kept) made (is ∙ sym (eqb-true number n equal), some)
    there_more i d within number copies less after false true past equal =
        let up_to = used i d within (subst (λ m. CopiesFrom m (get_or lines i d).action) (eqb-true number n equal) copies) in
        let most = ltb-false made.number made.last past in absurd (omega (arith, up_to, most, is, after))
    there_more i d within number copies less after true false later differs =
        let no : number ≡ n → ⊥ = eqb-false number n differs in
        there_before (λ (e : Earlier). (e.number ≡ number) × IsSome e.value) (all_after n kept) (made ∷ [])
        (old_there i d within number copies after (are.needed i d within number copies (omega (arith, less, no)) (omega (arith, after))))
    there_more i d within number copies less after false false past differs =
        let no : number ≡ n → ⊥ = eqb-false number n differs in
        old_there i d within number copies after (are.needed i d within number copies (omega (arith, less, no)) (omega (arith, after)))

    pub more_needed : AreEarlier lines (n + 1) (with_made (all_after n kept) made)
    more_needed = record {
      in_order = in_order_more (nat_lt made.number made.last);
      entries = entries_more (nat_lt made.number made.last) refl;
      needed = λ i d within number copies less after. there_more i d within number copies less after (nat_lt made.number made.last) (eqb number n) refl refl;
    }

  -- If a value is freed after value `n`, then a line of value `n` copies from the value.
  named_now : (number last : ℕ) → last ≡ n → Any (λ (line : ScriptLine). CopiesFrom number line.action × (line.value ≡ last)) lines → Any (λ (line : ScriptLine). CopiesFrom number line.action) (lines_of_value n lines)
  named_now number last is (k, line, within, at, (copies, value)) =
      let own : Contains (lines_of_value n lines) line = Contains-filter (λ (line : ScriptLine). eqb line.value n) lines line (k, within, at) (eq-eqb line.value n (value ∙ is)) in
      (own.0, line, own.1, own.2, copies)

  pub all_named : AreNamed n (lines_of_value n lines) kept
  all_named k d within some past =
      let entry = are.entries k d within in
      let at_least = entry.used some in
      named_now (get_or kept k d).number (get_or kept k d).last (omega (arith, at_least, past)) entry.last.0

  -- If no line edits value `n` and no later line copies from value `n`, then the entries do not
  -- change.
  left_entry : AreNamed n [] kept → All (IsEntry lines (n + 1)) kept
  left_entry named k d within =
      let entry = are.entries k d within in record {
        before = let less = entry.before in omega (arith, less);
        last = entry.last;
        used = λ some. ⊎_elim
            (λ later. omega (arith, later))
            (λ past. absurd (in_none (λ (line : ScriptLine). CopiesFrom (get_or kept k d).number line.action) (named k d within some past)))
            (cases_lt n (get_or kept k d).last);
      }

  pub left_needed : lines_of_value n lines ≡ [] → IsUsedUpTo lines n n → AreEarlier lines (n + 1) kept
  left_needed none used = record {
    in_order = are.in_order;
    entries = left_entry (subst (λ (ls : List ScriptLine). AreNamed n ls kept) none all_named);
    needed = λ i d within number copies less after. ⊎_elim
        (λ before. are.needed i d within number copies before (omega (arith, after)))
        (λ past.
        let same : number ≡ n = omega (arith, less, past) in
        let up_to = used i d within (subst (λ m. CopiesFrom m (get_or lines i d).action) same copies) in
        absurd (omega (arith, up_to, after)))
        (cases_lt number n);
  }

  -- The values from which the lines of the next value copy are kept.
  copies_before : (value number : ℕ) (action : Action) → IsInTime value action → CopiesFrom number action → number < value
  copies_before value number (actions.Edit edit) in_time copies = absurd copies
  copies_before value number (actions.Graft path other source) in_time copies = subst (λ m. m < value) copies in_time

  each_in_time : (lines : List ScriptLine) → AreInTime lines → All (λ (line : ScriptLine). IsInTime line.value line.action) lines
  each_in_time [] in_time = All-nil (λ (line : ScriptLine). IsInTime line.value line.action)
  each_in_time (line ∷ lines) (first, more) = All-cons (λ (line : ScriptLine). IsInTime line.value line.action) line lines first (each_in_time lines more)

  pub all_served : AreInTime lines → AreServed kept (lines_of_value n lines)
  all_served in_time =
      λ k d within. All-filter (λ (line : ScriptLine). eqb line.value n) (λ (line : ScriptLine). eqb line.value n ≡ true → IsServed kept line.action) lines each k d within
      (filter_passes (λ (line : ScriptLine). eqb line.value n) lines k d within) where
        each : All (λ (line : ScriptLine). eqb line.value n ≡ true → IsServed kept line.action) lines
        each i d within own =
            let line = get_or lines i d in
            let same : line.value ≡ n = eqb-true line.value n own in
            record {
              in_order = are.in_order;
              there = λ number copies.
                  let before = copies_before line.value number line.action (each_in_time lines in_time i d within) copies in
                  are.needed i d within number copies (omega (arith, before, same)) (omega (arith, same));
            }

-- ---- the request of a line

module _ (table : Tabled) (others : List Other) (old new : List Obj) (old_root new_root : Val) where
  pub edit_applied : (edit : Edit) (result : Result (Unit {0}) EditRefusal) → IsApplied table edit old old_root new new_root result
      → IsLineApplied table others (actions.Edit edit) old old_root new new_root result
  edit_applied edit (Ok unit) is = is
  edit_applied edit (Err refusal) (same, same_root, is) = (same, same_root, at (reason_of refusal) is) where
    at : (reason : Option (Reason ℕ)) → IsRefusedFor table edit old old_root reason → IsLineRefusedFor table others (actions.Edit edit) old old_root reason
    at None is = is
    at (Some reason) is = is

  pub graft_applied : (path source : List ℕ) (number : ℕ) (value : Value) (result : Result (Unit {0}) EditRefusal) → IsMade others number value
      → IsGraftApplied table path (value.heap, value.root) source old old_root new new_root result
      → IsLineApplied table others (actions.Graft path number source) old old_root new new_root result
  graft_applied path source number value (Ok unit) made is = ((value.heap, value.root), made.same, is)
  graft_applied path source number value (Err refusal) made (same, same_root, is) = (same, same_root, at (reason_of refusal) is) where
    at : (reason : Option (Reason ℕ)) → IsNotGraftedFor table path (value.heap, value.root) source old old_root reason
        → IsLineRefusedFor table others (actions.Graft path number source) old old_root reason
    at None is = is
    at (Some reason) is = ((value.heap, value.root), made.same, is)
