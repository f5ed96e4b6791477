-- Lemmas on cells: more cells are added, an offset is added, and offsets are removed from the end.
use Rattle.std.proofs.Common.{◌≡◌, ℕ, ◌+◌, ◌-◌, ◌*◌, ◌/◌, ◌%◌, ◌^◌, ◌<◌, ◌≤◌, inl, inr, List, [], ◌∷◌, ◌++◌, length, get_or, take, replicate, All, count_ones, refl, sym, ap, subst, ◌∙◌, arith, pow_pos, pow_mono, mod-eq_of_lt, length-set, length-take, length-append, get_or-take, get_or-set_same, get_or-set_other}
use Rattle.std.proofs.lemmas.List.{length-replicate, get_or-replicate, get_or_append_left, get_or-append_right, length_push, get_or_push}
use Rattle.std.proofs.lemmas.Nat.{mod_below}
use Rattle.std.proofs.lemmas.Bool.{cases_lt, cases_eq, cases_order}
use lib.Count.{ones-ones}
use Rattle.marshal_heap.specs.declared.offsets.cells.Cell.{Cell}
use Rattle.marshal_heap.specs.offsets.Cells.{cell_at, rank, marked, cut, IsRank, IsIndexed}
use Rattle.marshal_heap.proofs.offsets.BitLemmas.{mod-mod_low, bit_above, ones-bit_below, low_from_ones, pow_more}

abbrev empty : ℕ → Cell
empty before = record { bits = 0; before = before }

-- The rank of offset `x` in its cell.
abbrev rank_in : ℕ → Cell → ℕ
rank_in x cell = cell.before + count_ones (cell.bits % 2 ^ (x % 64))

-- The rank of an offset in the set is the offset's index in the list.
pub rank_is : (cells : List Cell) (positions : List ℕ) → IsIndexed cells positions → (k : ℕ) → k < length positions → rank cells (get_or positions k 0) ≡ k
rank_is cells positions indexed k inside =
    let p : ℕ = get_or positions k 0 in
    let n : ℕ = rank cells p in
    let r : IsRank positions p n = indexed.ranks p (indexed.covered k inside) in
    elim (cases_order n k) [
      | inl e ↦ e
      | inr s ↦ elim s [
        | inl less ↦ absurd (omega (arith, r.after n (omega arith) (omega arith), indexed.increasing n k less inside))
        | inr more ↦ absurd (omega (arith, r.before k more))
      ]
    ]

-- If the cells are extended to the cell of `p` by empty cells, then the cells still represent the
-- offsets.
module _ (cells : List Cell) (positions : List ℕ) (p : ℕ) (indexed : IsIndexed cells positions) (below : All (λ q. q < p) positions) where
  abbrev covers : List Cell
  covers = take (p / 64 + 1) cells ++ replicate (p / 64 + 1 - length cells) (empty (length positions))

  length-covers : length covers ≡ p / 64 + 1
  length-covers = omega (arith, length-append (take (p / 64 + 1) cells) (replicate (p / 64 + 1 - length cells) (empty (length positions))), length-take (p / 64 + 1) cells, length-replicate (p / 64 + 1 - length cells) (empty (length positions)))

  old_cell : (x : ℕ) → x / 64 < length cells → x / 64 < p / 64 + 1 → cell_at covers x ≡ cell_at cells x
  old_cell x inside near =
      get_or_append_left (take (p / 64 + 1) cells) _ (empty 0) (x / 64) (omega (arith, length-take (p / 64 + 1) cells))
      ∙ get_or-take (p / 64 + 1) cells (x / 64) (empty 0) near

  new_cell : (x : ℕ) → length cells ≤ x / 64 → x / 64 < p / 64 + 1 → cell_at covers x ≡ empty (length positions)
  new_cell x outside near =
      get_or-append_right (take (p / 64 + 1) cells) _ (length cells) (x / 64) (empty 0) (omega (arith, length-take (p / 64 + 1) cells)) outside
      ∙ get_or-replicate (p / 64 + 1 - length cells) (x / 64 - length cells) (empty (length positions)) (empty 0) (omega arith)

  new_rank : (x : ℕ) → rank_in x (empty (length positions)) ≡ length positions
  new_rank x =
      let e : 0 % 2 ^ (x % 64) ≡ 0 = mod-eq_of_lt (pow_pos (x % 64)) in
      omega (arith, ap count_ones e, ones-ones 0)

  IsIndexed-covers : IsIndexed covers positions
  IsIndexed-covers = record {
    increasing = indexed.increasing;
    covered = λ k l. omega (arith, length-covers, below k 0 l);
    ranks = λ x l. let near : x / 64 < p / 64 + 1 = omega (arith, length-covers) in elim (cases_lt (x / 64) (length cells)) [
      | inl inside ↦ subst (IsRank positions x) (sym (ap (rank_in x) (old_cell x inside near))) (indexed.ranks x (omega arith))
      | inr outside ↦ subst (IsRank positions x) (sym (ap (rank_in x) (new_cell x outside near) ∙ new_rank x)) record {
        in_range = omega arith;
        before = λ k h. omega (arith, indexed.covered k h);
        after = λ k h l. absurd (omega arith);
      }
    ];
    clear = λ x l h. let near : x / 64 < p / 64 + 1 = omega (arith, length-covers) in elim (cases_lt (x / 64) (length cells)) [
      | inl inside ↦ subst (λ (c : Cell). c.bits < 2 ^ (x % 64)) (sym (old_cell x inside near)) (indexed.clear x (omega arith) h)
      | inr outside ↦ subst (λ (c : Cell). c.bits < 2 ^ (x % 64)) (sym (new_cell x outside near)) (pow_pos (x % 64))
    ];
  }

-- If `covered` are the cells extended to the cell of `p` for `n` offsets, then `covered` still
-- represents the offsets.
pub covers_all : (cells covered : List Cell) (positions : List ℕ) (p n : ℕ) → IsIndexed cells positions → All (λ q. q < p) positions → n ≡ length positions
    → covered ≡ take (p / 64 + 1) cells ++ replicate (p / 64 + 1 - length cells) (empty n) → IsIndexed covered positions × (length covered ≡ p / 64 + 1)
covers_all cells covered positions p n indexed below count made =
    let e : covered ≡ take (p / 64 + 1) cells ++ replicate (p / 64 + 1 - length cells) (empty (length positions)) =
    made ∙ ap (λ (m : ℕ). take (p / 64 + 1) cells ++ replicate (p / 64 + 1 - length cells) (empty m)) count in
    (subst (λ (cs : List Cell). IsIndexed cs positions) (sym e) (IsIndexed-covers cells positions p indexed below), ap length e ∙ length-covers cells positions p indexed below)

-- If the bit of `p` is set in the last cell, then the cells represent the offsets and `p`.
module _ (cells : List Cell) (positions : List ℕ) (p : ℕ) (indexed : IsIndexed cells positions) (below : All (λ q. q < p) positions) (last : length cells ≡ p / 64 + 1) where
  abbrev more : List ℕ
  more = positions ++ p ∷ []

  old_position : (k : ℕ) → k < length positions → get_or more k 0 ≡ get_or positions k 0
  old_position k inside = get_or_append_left positions (p ∷ []) 0 k inside

  new_position : get_or more (length positions) 0 ≡ p
  new_position = get_or_push positions p 0 (length positions) refl

  pub clear_bits : (cell_at cells p).bits < 2 ^ (p % 64)
  clear_bits = indexed.clear p (omega arith) (λ k l e. below k 0 l)

  same_cell : (x : ℕ) → x / 64 ≡ p / 64 → cell_at (marked cells p) x ≡ record (cell_at cells x) { bits = (cell_at cells x).bits + 2 ^ (p % 64) }
  same_cell x e =
      ap (λ (i : ℕ). get_or (marked cells p) i (empty 0)) e
      ∙ get_or-set_same cells (p / 64) _ (empty 0) (omega arith)
      ∙ ap (λ (i : ℕ). let c : Cell = get_or cells i (empty 0) in record c { bits = c.bits + 2 ^ (p % 64) }) (sym e)

  other_cell : (x : ℕ) → (x / 64 ≡ p / 64 → ⊥) → cell_at (marked cells p) x ≡ cell_at cells x
  other_cell x ne = get_or-set_other cells (p / 64) (x / 64) _ (empty 0) ne

  rank_below : (x n : ℕ) → x ≤ p → IsRank positions x n → IsRank more x n
  rank_below x n h r = record {
    in_range = omega (arith, r.in_range, length_push positions p);
    before = λ k l. omega (arith, r.before k l, r.in_range, old_position k (omega (arith, r.in_range)));
    after = λ k l s. elim (cases_lt k (length positions)) [
      | inl inside ↦ omega (arith, r.after k l inside, old_position k inside)
      | inr outside ↦ let e : k ≡ length positions = omega (arith, length_push positions p) in omega (arith, ap (λ (i : ℕ). get_or more i 0) e, new_position)
    ];
  }

  rank_above : (x n : ℕ) → p < x → IsRank positions x n → IsRank more x (n + 1)
  rank_above x n h r =
      let whole : n ≡ length positions = elim (cases_lt n (length positions)) [
        | inl inside ↦ absurd (omega (arith, r.after n (omega arith) inside, below n 0 inside))
        | inr outside ↦ omega (arith, r.in_range)
      ] in
      record {
        in_range = omega (arith, length_push positions p);
        before = λ k l. elim (cases_lt k (length positions)) [
          | inl inside ↦ omega (arith, below k 0 inside, old_position k inside)
          | inr outside ↦ let e : k ≡ length positions = omega arith in omega (arith, ap (λ (i : ℕ). get_or more i 0) e, new_position)
        ];
        after = λ k l s. absurd (omega (arith, length_push positions p));
      }

  pub IsIndexed-marked : IsIndexed (marked cells p) more
  IsIndexed-marked = record {
    increasing = λ j k h l. elim (cases_lt k (length positions)) [
      | inl inside ↦ omega (arith, old_position k inside, old_position j (omega arith), indexed.increasing j k h inside)
      | inr outside ↦ let e : k ≡ length positions = omega (arith, length_push positions p) in
          omega (arith, ap (λ (i : ℕ). get_or more i 0) e, new_position, old_position j (omega arith), below j 0 (omega arith))
    ];
    covered = λ k l. elim (cases_lt k (length positions)) [
      | inl inside ↦ omega (arith, old_position k inside, indexed.covered k inside, length-set cells (p / 64) (record (cell_at cells p) { bits = (cell_at cells p).bits + 2 ^ (p % 64) }))
      | inr outside ↦ let e : k ≡ length positions = omega (arith, length_push positions p) in
          omega (arith, ap (λ (i : ℕ). get_or more i 0) e, new_position, length-set cells (p / 64) (record (cell_at cells p) { bits = (cell_at cells p).bits + 2 ^ (p % 64) }))
    ];
    ranks = λ x l.
        let l' : x < 64 * length cells = omega (arith, length-set cells (p / 64) (record (cell_at cells p) { bits = (cell_at cells p).bits + 2 ^ (p % 64) })) in
        let r : IsRank positions x (rank cells x) = indexed.ranks x l' in
        elim (cases_eq (x / 64) (p / 64)) [
          | inl e ↦
              let c : Cell = cell_at cells x in
              let bits : c.bits < 2 ^ (p % 64) = subst (λ (i : ℕ). (get_or cells i (empty 0)).bits < 2 ^ (p % 64)) (sym e) clear_bits in
              elim (cases_lt p x) [
                | inl above ↦ subst (IsRank more x) (sym (ap (rank_in x) (same_cell x e) ∙ omega (arith, ones-bit_below c.bits (p % 64) (x % 64) bits (omega arith)))) (rank_above x (rank cells x) above r)
                | inr under ↦ subst (IsRank more x) (sym (ap (rank_in x) (same_cell x e) ∙ ap (λ (n : ℕ). c.before + count_ones n) (bit_above c.bits (p % 64) (x % 64) (omega arith)))) (rank_below x (rank cells x) under r)
              ]
          | inr ne ↦ subst (IsRank more x) (sym (ap (rank_in x) (other_cell x ne))) (rank_below x (rank cells x) (omega arith) r)
        ];
    clear = λ x l h.
        let l' : x < 64 * length cells = omega (arith, length-set cells (p / 64) (record (cell_at cells p) { bits = (cell_at cells p).bits + 2 ^ (p % 64) })) in
        elim (cases_eq (x / 64) (p / 64)) [
          | inl e ↦
              let c : Cell = cell_at cells x in
              let bits : c.bits < 2 ^ (p % 64) = subst (λ (i : ℕ). (get_or cells i (empty 0)).bits < 2 ^ (p % 64)) (sym e) clear_bits in
              let here : p < x = subst (λ (q : ℕ). q < x) new_position (h (length positions) (omega (arith, length_push positions p)) (ap (λ (q : ℕ). q / 64) new_position ∙ sym e)) in
              subst (λ (c : Cell). c.bits < 2 ^ (x % 64)) (sym (same_cell x e)) (omega (arith, pow_more (p % 64) (x % 64) (omega arith)))
          | inr ne ↦ subst (λ (c : Cell). c.bits < 2 ^ (x % 64)) (sym (other_cell x ne))
              (indexed.clear x l' (λ k inside e. subst (λ (q : ℕ). q < x) (old_position k inside) (h k (omega (arith, length_push positions p)) (ap (λ (q : ℕ). q / 64) (old_position k inside) ∙ e))))
        ];
  }

-- If the bits from the offset `p` at index `n` on are cleared, then the cells represent the first
-- `n` offsets.
module _ (cells : List Cell) (positions : List ℕ) (n : ℕ) (indexed : IsIndexed cells positions) (inside : n < length positions) where
  abbrev p : ℕ
  p = get_or positions n 0

  abbrev prefix : List Cell
  prefix = take (p / 64 + 1) cells

  length-prefix : length prefix ≡ p / 64 + 1
  length-prefix = omega (arith, length-take (p / 64 + 1) cells, indexed.covered n inside)

  length-cut : length (cut prefix p) ≡ p / 64 + 1
  length-cut = length-set prefix (p / 64) _ ∙ length-prefix

  kept_cell : (x : ℕ) → x / 64 < p / 64 + 1 → cell_at prefix x ≡ cell_at cells x
  kept_cell x near = get_or-take (p / 64 + 1) cells (x / 64) (empty 0) near

  last_cell : (x : ℕ) → x / 64 ≡ p / 64 → cell_at (cut prefix p) x ≡ record (cell_at cells x) { bits = (cell_at cells x).bits % 2 ^ (p % 64) }
  last_cell x e =
      ap (λ (i : ℕ). get_or (cut prefix p) i (empty 0)) e
      ∙ get_or-set_same prefix (p / 64) _ (empty 0) (omega (arith, length-prefix))
      ∙ ap (λ (c : Cell). record c { bits = c.bits % 2 ^ (p % 64) }) (kept_cell p (omega arith) ∙ ap (λ (i : ℕ). get_or cells i (empty 0)) (sym e))

  before_cell : (x : ℕ) → x / 64 < p / 64 → cell_at (cut prefix p) x ≡ cell_at cells x
  before_cell x less = get_or-set_other prefix (p / 64) (x / 64) _ (empty 0) (λ e. omega arith) ∙ kept_cell x (omega arith)

  kept : (k : ℕ) → k < n → get_or (take n positions) k 0 ≡ get_or positions k 0
  kept k h = get_or-take n positions k 0 h

  length-kept : length (take n positions) ≡ n
  length-kept = omega (arith, length-take n positions)

  few : (x m : ℕ) → x ≤ p → IsRank positions x m → m ≤ n
  few x m h r = elim (cases_lt n m) [ inl over ↦ absurd (omega (arith, r.before n over)) | inr most ↦ most ]

  rank_kept : (x m : ℕ) → x ≤ p → IsRank positions x m → IsRank (take n positions) x m
  rank_kept x m h r =
      let most = few x m h r in
      record {
        in_range = omega (arith, length-kept);
        before = λ k l. omega (arith, r.before k l, kept k (omega arith));
        after = λ k l s. omega (arith, r.after k l (omega (arith, length-kept)), kept k (omega (arith, length-kept)));
      }

  rank_all : (x : ℕ) → p < x → IsRank (take n positions) x n
  rank_all x h = record {
    in_range = omega (arith, length-kept);
    before = λ k l. omega (arith, kept k l, indexed.increasing k n l inside);
    after = λ k l s. absurd (omega (arith, length-kept));
  }

  rank_p : rank cells p ≡ n
  rank_p = rank_is cells positions indexed n inside

  -- The number of offsets that the last cell counts before `p` is `n`.
  last_rank : (x : ℕ) → x / 64 ≡ p / 64 → (cell_at cells x).before + count_ones ((cell_at cells x).bits % 2 ^ (p % 64)) ≡ n
  last_rank x e = subst (λ (i : ℕ). (get_or cells i (empty 0)).before + count_ones ((get_or cells i (empty 0)).bits % 2 ^ (p % 64)) ≡ n) (sym e) rank_p

  inside_cells : (x : ℕ) → x / 64 < p / 64 + 1 → x < 64 * length cells
  inside_cells x near = omega (arith, indexed.covered n inside)

  -- If all remaining offsets of the last cell are less than `x`, then the remaining bits of the
  -- cell are below `x`.
  last_clear : (x : ℕ) → x / 64 ≡ p / 64 → ((k : ℕ) → k < n → get_or positions k 0 / 64 ≡ x / 64 → get_or positions k 0 < x) → (cell_at cells x).bits % 2 ^ (p % 64) < 2 ^ (x % 64)
  last_clear x e h =
      let c : Cell = cell_at cells x in
      elim (cases_lt x p) [
        | inr above ↦ let le : p % 64 ≤ x % 64 = omega arith in omega (arith, mod_below c.bits (2 ^ (p % 64)) (pow_pos (p % 64)), pow_mono le)
        | inl under ↦
            let r : IsRank positions x (rank cells x) = indexed.ranks x (inside_cells x (omega arith)) in
            let most : rank cells x ≤ n = few x (rank cells x) (omega arith) r in
            let same : rank cells x ≡ n = elim (cases_lt (rank cells x) n) [
              | inl less ↦ absurd (let near = r.after (rank cells x) (omega arith) (omega arith) in
                  let low = indexed.increasing (rank cells x) n less inside in
                  omega (arith, h (rank cells x) less (omega arith)))
              | inr enough ↦ omega arith
            ] in
            low_from_ones (c.bits % 2 ^ (p % 64)) (x % 64) (ap count_ones (mod-mod_low c.bits (p % 64) (x % 64) (omega arith)) ∙ omega (arith, same, last_rank x e))
      ]

  pub IsIndexed-cut : IsIndexed (cut prefix p) (take n positions)
  IsIndexed-cut = record {
    increasing = λ j k h l. omega (arith, length-kept, kept k (omega (arith, length-kept)), kept j (omega (arith, length-kept)), indexed.increasing j k h (omega (arith, length-kept)));
    covered = λ k l. let h : k < n = omega (arith, length-kept) in omega (arith, length-cut, kept k h, indexed.increasing k n h inside);
    ranks = λ x l.
        let near : x / 64 < p / 64 + 1 = omega (arith, length-cut) in
        elim (cases_eq (x / 64) (p / 64)) [
          | inl e ↦
              let c : Cell = cell_at cells x in
              elim (cases_lt p x) [
                | inl above ↦
                    let le : p % 64 ≤ x % 64 = omega arith in
                    let low : c.bits % 2 ^ (p % 64) < 2 ^ (x % 64) = omega (arith, mod_below c.bits (2 ^ (p % 64)) (pow_pos (p % 64)), pow_mono le) in
                    let same : c.bits % 2 ^ (p % 64) % 2 ^ (x % 64) ≡ c.bits % 2 ^ (p % 64) = mod-eq_of_lt low in
                    subst (IsRank (take n positions) x) (sym (ap (rank_in x) (last_cell x e) ∙ ap (λ (m : ℕ). c.before + count_ones m) same ∙ last_rank x e)) (rank_all x above)
                | inr under ↦ subst (IsRank (take n positions) x) (sym (ap (rank_in x) (last_cell x e) ∙ ap (λ (m : ℕ). c.before + count_ones m) (mod-mod_low c.bits (p % 64) (x % 64) (omega arith)))) (rank_kept x (rank cells x) under (indexed.ranks x (inside_cells x near)))
              ]
          | inr ne ↦
              let less : x / 64 < p / 64 = omega arith in
              subst (IsRank (take n positions) x) (sym (ap (rank_in x) (before_cell x less))) (rank_kept x (rank cells x) (omega arith) (indexed.ranks x (inside_cells x near)))
        ];
    clear = λ x l h.
        let near : x / 64 < p / 64 + 1 = omega (arith, length-cut) in
        let h' : (k : ℕ) → k < n → get_or positions k 0 / 64 ≡ x / 64 → get_or positions k 0 < x =
        λ k l e. subst (λ (q : ℕ). q < x) (kept k l) (h k (omega (arith, length-kept)) (ap (λ (q : ℕ). q / 64) (kept k l) ∙ e)) in
        elim (cases_eq (x / 64) (p / 64)) [
          | inl e ↦ subst (λ (c : Cell). c.bits < 2 ^ (x % 64)) (sym (last_cell x e)) (last_clear x e h')
          | inr ne ↦
              let less : x / 64 < p / 64 = omega arith in
              subst (λ (c : Cell). c.bits < 2 ^ (x % 64)) (sym (before_cell x less)) (indexed.clear x (inside_cells x near) (λ k l e. elim (cases_lt k n) [
                | inl below ↦ h' k below e
                | inr above ↦ absurd (elim (cases_eq k n) [
                  | inl same ↦ omega (arith, ap (λ (i : ℕ). get_or positions i 0) same)
                  | inr other ↦ omega (arith, indexed.increasing n k (omega arith) l)
                ])
              ]))
        ];
  }
