-- The marks of objects that are visited in order.
use Rattle.std.proofs.Common.{ℕ, suc, ◌≡◌, ◌+◌, ◌<◌, ◌≤◌, ◌∙◌, List, [], ◌∷◌, ◌++◌, length, replicate, get_or, set, cond, true, false, sym, ap, ap₂, inl, inr, arith, length-set, get_or-set_same, get_or-set_other}
use Rattle.std.proofs.lemmas.List.{ext_get_or, get_or_past, length-replicate, get_or-replicate}
use Rattle.std.proofs.lemmas.List.FromFn.{length-map-range_with_len, get_or-map-range_with_len, map-range_with_len_more}
use Rattle.std.proofs.lemmas.Bool.{cases_Bool, cases_lt, cases_eq, lt-ltb, le-ltb}
use Rattle.marshal_write.specs.write.Marks.{mark_in_order, in_order, marks_of}
use Rattle.marshal_write.specs.declared.write.marks.Marks.{Marks}

pub length-in_order : (met objects : ℕ) → length (in_order met objects) ≡ objects
length-in_order met objects = length-map-range_with_len (mark_in_order met) 0 objects

pub get_or-in_order : (met objects k : ℕ) → k < objects → get_or (in_order met objects) k 0 ≡ mark_in_order met k
get_or-in_order met objects k inside = get_or-map-range_with_len (mark_in_order met) 0 objects k k 0 inside (omega arith)

-- If objects are visited in order, then the mark of a visited object is its number plus 1.
pub mark_met : (met k : ℕ) → k < met → mark_in_order met k ≡ suc k
mark_met met k less = ap (λ b. cond b (suc k) 0) (lt-ltb k met less)

pub mark_unmet : (met k : ℕ) → met ≤ k → mark_in_order met k ≡ 0
mark_unmet met k past = ap (λ b. cond b (suc k) 0) (le-ltb k met past)

-- If objects are visited in order, then a mark that is not 0 is the number of its object plus 1.
pub met_in_order : (met objects k i : ℕ) → get_or (in_order met objects) k 0 ≡ suc i → k ≡ i
met_in_order met objects k i is = elim (cases_lt k objects) [
  | inl inside ↦ elim (cases_lt k met) [
    | inl less ↦ omega (arith, mark_met met k less, get_or-in_order met objects k inside)
    | inr past ↦ absurd (omega (arith, mark_unmet met k past, get_or-in_order met objects k inside))
  ]
  | inr past ↦ absurd (omega (arith, get_or_past (in_order met objects) k 0 (omega (arith, length-in_order met objects))))
]

pub none_in_order : (objects : ℕ) → in_order 0 objects ≡ replicate objects 0
none_in_order objects =
    ext_get_or 0 (in_order 0 objects) (replicate objects 0) (length-in_order 0 objects ∙ sym (length-replicate {A = ℕ} objects 0))
    (λ k inside.
    let few : k < objects = omega (arith, length-in_order 0 objects) in
    get_or-in_order 0 objects k few ∙ mark_unmet 0 k (omega arith) ∙ sym (get_or-replicate objects k 0 0 few))

pub one_more_in_order : (met objects : ℕ) → met < objects → set (in_order met objects) met (met + 1) ≡ in_order (met + 1) objects
one_more_in_order met objects inside =
    let ms : List ℕ = in_order met objects in
    ext_get_or 0 (set ms met (met + 1)) (in_order (met + 1) objects)
    (length-set ms met (met + 1) ∙ length-in_order met objects ∙ sym (length-in_order (met + 1) objects))
    (λ k here.
    let few : k < objects = omega (arith, length-set ms met (met + 1), length-in_order met objects) in
    elim (cases_eq k met) [
      | inl same ↦
          ap (λ (n : ℕ). get_or (set ms met (met + 1)) n 0) same
          ∙ get_or-set_same ms met (met + 1) 0 (omega (arith, length-in_order met objects))
          ∙ omega (arith, get_or-in_order (met + 1) objects k few, mark_met (met + 1) k (omega arith))
      | inr other ↦
          get_or-set_other ms met k (met + 1) 0 other ∙ get_or-in_order met objects k few
          ∙ elim (cases_lt k met) [
            | inl less ↦ mark_met met k less ∙ sym (mark_met (met + 1) k (omega arith)) ∙ sym (get_or-in_order (met + 1) objects k few)
            | inr past ↦ mark_unmet met k past ∙ sym (mark_unmet (met + 1) k (omega arith)) ∙ sym (get_or-in_order (met + 1) objects k few)
          ]
    ])

pub in_order-push : (met k : ℕ) → in_order met (k + 1) ≡ in_order met k ++ mark_in_order met k ∷ []
in_order-push met k = map-range_with_len_more (mark_in_order met) 0 k k (omega arith)

-- ---- both representations

pub marks_ordered : (m : Marks) → m.ordered ≡ true → marks_of m ≡ in_order m.met m.objects
marks_ordered m ordered = ap (λ b. cond b (in_order m.met m.objects) m.table.items) ordered

pub marks_table : (m : Marks) → m.ordered ≡ false → marks_of m ≡ m.table.items
marks_table m table = ap (λ b. cond b (in_order m.met m.objects) m.table.items) table

pub mark_ordered : (m : Marks) (k : ℕ) → m.ordered ≡ true → k < length (marks_of m) → (k < m.objects) × (mark_in_order m.met k ≡ get_or (marks_of m) k 0)
mark_ordered m k ordered inside =
    let view = marks_ordered m ordered in
    let few : k < m.objects = omega (arith, ap length view, length-in_order m.met m.objects) in
    (few, sym (ap (λ ms. get_or ms k 0) view ∙ get_or-in_order m.met m.objects k few))

pub none_marked : (old new : Marks) → new.objects ≡ old.objects → new.ordered ≡ old.ordered → new.met ≡ 0 → new.table.items ≡ replicate (length old.table.items) 0
    → marks_of new ≡ replicate (length (marks_of old)) 0
none_marked old new objects ordered met items = elim (cases_Bool old.ordered) [
  | inl is ↦
      marks_ordered new (ordered ∙ is) ∙ ap (λ m. in_order m new.objects) met ∙ none_in_order new.objects
      ∙ ap (λ n. replicate n 0) (objects ∙ sym (ap length (marks_ordered old is) ∙ length-in_order old.met old.objects))
  | inr is ↦ marks_table new (ordered ∙ is) ∙ items ∙ ap (λ n. replicate n 0) (sym (ap length (marks_table old is)))
]

pub next_marked : (old new : Marks) (k mark : ℕ) → old.ordered ≡ true → new.objects ≡ old.objects → new.ordered ≡ old.ordered → new.met ≡ mark → k ≡ old.met → mark ≡ k + 1
    → k < length (marks_of old) → marks_of new ≡ set (marks_of old) k mark
next_marked old new k mark is objects ordered met here next inside =
    let few : old.met < old.objects = omega (arith, (mark_ordered old k is inside).0) in
    let last : mark ≡ old.met + 1 = next ∙ ap (λ n. n + 1) here in
    marks_ordered new (ordered ∙ is) ∙ ap₂ in_order (met ∙ last) objects ∙ sym (one_more_in_order old.met old.objects few)
    ∙ ap₂ (λ n m. set (in_order old.met old.objects) n m) (sym here) (sym last) ∙ ap (λ ms. set ms k mark) (sym (marks_ordered old is))
