-- The table of predeclared types.
use Rattle.std.proofs.Common.{ℕ, suc, ◌+◌, ◌≡◌, ◌∙◌, ◌<◌, ◌≤◌, List, [], Bool, false, cond, Some, None, ap, sym, map, drop, length, get_or, add-one}
use Rattle.std.specs.Prelude.{slice_get, option_map}
use Rattle.std.specs.Str.{bytes_eq}
use Rattle.std.proofs.lemmas.List.{drop_more}
use Rattle.std.proofs.lemmas.Option.{slice_get-get_or, slice_get-map, slice_get_past}
use Rattle.types_spec.specs.declared.types.predeclared.TableRow.{TableRow}
use Rattle.types_spec.specs.types.Predeclared.{PredeclaredRow, rows, meant, predeclared_from, sum_of, sum_in, sum_at, name_in, name_at}
use Rattle.types_spec.specs.types.PredeclaredCode.{table_row}

-- ---- the search for a name

-- If row `k` has another name, then the search for the name continues in row `k + 1`.
pub row_passed : (all : List TableRow) (name : List ℕ) (k : ℕ) (d : TableRow) → k < length all
    → bytes_eq (get_or all k d).name.now name ≡ false
    → predeclared_from (k + 1) (map table_row (drop (k + 1) all)) name
    ≡ predeclared_from k (map table_row (drop k all)) name
row_passed all name k d below other =
    let rest = map table_row (drop (k + 1) all) in
    let row = table_row (get_or all k d) in
    sym (ap (λ (rs : List TableRow). predeclared_from k (map table_row rs) name) (drop_more all k d below)
    ∙ ap (λ (b : Bool). cond b (Some (meant k row.meaning)) (predeclared_from (suc k) rest name)) other
    ∙ ap (λ (n : ℕ). predeclared_from n rest name) (sym (add-one k)))

-- ---- the row with a number

module _ (all : List TableRow) (same : map table_row all ≡ rows) (k : ℕ) where
  row_is : slice_get rows k ≡ option_map table_row (slice_get all k)
  row_is = ap (λ (rs : List PredeclaredRow). slice_get rs k) (sym same) ∙ slice_get-map table_row all k

  module _ (d : TableRow) (below : k < length all) where
    there : slice_get rows k ≡ Some (table_row (get_or all k d))
    there = row_is ∙ ap (option_map table_row) (slice_get-get_or all k d below)

    pub sum_found : sum_of (table_row (get_or all k d)).meaning ≡ sum_at k
    unfolding sum_at
    sum_found = sym (ap sum_in there)

    pub name_found : (get_or all k d).name.now ≡ name_at k
    unfolding name_at
    name_found = sym (ap name_in there)

  pub sum_past : length all ≤ k → None ≡ sum_at k
  unfolding sum_at
  sum_past past = sym (ap sum_in (row_is ∙ ap (option_map table_row) (slice_get_past all k past)))

  pub name_past : length all ≤ k → [] ≡ name_at k
  unfolding name_at
  name_past past = sym (ap name_in (row_is ∙ ap (option_map table_row) (slice_get_past all k past)))
