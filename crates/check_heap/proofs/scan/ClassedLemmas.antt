-- Growing sets of pairs of an object and a class.
use Rattle.std.proofs.Common.{ℕ, suc, ◌≡◌, ◌∙◌, ◌⊎◌, inl, inr, ⊎_elim, Bool, true, false, not, List, Some, refl, sym, ap, subst, arith}
use Rattle.std.specs.Prelude.{◌↔◌, slice_get, slice_set, IsTrue, MatchBool}
use Rattle.std.specs.List.{list_any}
use Rattle.std.specs.BTreeMap.{is_at}
use Rattle.std.specs.BTreeSet.{contains, Updates}
use Rattle.std.proofs.lemmas.Bool.{false≢true}
use Rattle.std.proofs.lemmas.Option.{same_Some, none-some, slice_get_within}
use Rattle.base_data.proofs.model.Options.{same_or_not}
use Rattle.check_heap.specs.declared.scan.classed.Classed.{Classed}
use Rattle.check_heap.specs.scan.Classed.{pair_cmp, IsInCell, Has, IsUntouched, Agree, Inserts}
use Rattle.check_heap.proofs.scan.ScanPositionLemmas.{slice_set_here, slice_set_other, slice_set_at}
use Rattle.check_heap.proofs.scan.ScanSetLemmas.{later_before, later_kept, less_before, less_kept}

pub untouched_none : (classed : Classed) → IsUntouched classed → (o c : ℕ) → ¬ Has classed o c
untouched_none classed untouched o c has = ⊎_elim
    (λ cell. none-some (suc c) (sym (ap (λ cells. slice_get cells o) untouched.0) ∙ cell))
    (λ more. false≢true (sym (ap (λ keys. list_any (is_at (pair_cmp (o, c))) keys) untouched.1) ∙ more))
    has

-- ---- cells

-- A free cell contains no class.
pub free_has_none : (cells : List ℕ) (o c : ℕ) → slice_get cells o ≡ Some 0 → ¬ IsInCell cells o c
free_has_none cells o c free cell = let is = same_Some 0 (suc c) (sym free ∙ cell) in omega (arith, is)

-- If a free cell receives a class, then the cells contain the new pair and the old pairs.
module _ (cells : List ℕ) (o c : ℕ) where
  cell_before : (p d : ℕ) → IsInCell (slice_set cells o (suc c)) p d → IsInCell cells p d ⊎ ((o ≡ p) × (c ≡ d))
  cell_before p d one = ⊎_elim
      (λ same.
      let is = slice_set_here cells o (suc d) (suc c) (subst (λ q. IsInCell (slice_set cells o (suc c)) q d) same one) in
      inr (sym same, omega (arith, is)))
      (λ other. inl (sym (slice_set_other cells o p (suc c) other) ∙ one))
      (same_or_not p o)

  cell_kept : (p d : ℕ) → slice_get cells o ≡ Some 0 → IsInCell cells p d → IsInCell (slice_set cells o (suc c)) p d
  cell_kept p d free one = ⊎_elim
      (λ same. absurd (free_has_none cells o d free (subst (λ q. IsInCell cells q d) same one)))
      (λ other. slice_set_other cells o p (suc c) other ∙ one)
      (same_or_not p o)

-- ---- a pair moves into its cell

module _ (old new : Classed) (o c : ℕ) (free : slice_get old.cells.items o ≡ Some 0) (write : new.cells.items ≡ slice_set old.cells.items o (suc c))
    (there : IsTrue (contains pair_cmp old.more (o, c))) (gone : Updates pair_cmp old.more new.more (o, c) false) where
  pub shifts : (p d : ℕ) → Has old p d ↔ Has new p d
  shifts p d = (
    λ has. ⊎_elim
        (λ one. inl (ap (λ all. slice_get all p) write ∙ cell_kept old.cells.items o c p d free one))
        (λ other. ⊎_elim
        (λ still. inr still)
        (λ own. inl (here p d (ap (λ (x : ℕ × ℕ). x.0) own) (ap (λ (x : ℕ × ℕ). x.1) own)))
        (less_kept old.more new.more (o, c) (p, d) gone other))
        has,
    λ has. ⊎_elim
        (λ one. ⊎_elim
        (λ before. inl before)
        (λ own. inr (subst (λ e. IsTrue (contains pair_cmp old.more (p, e))) own.1 (subst (λ q. IsTrue (contains pair_cmp old.more (q, c))) own.0 there)))
        (cell_before old.cells.items o c p d (subst (λ all. IsInCell all p d) write one)))
        (λ other. inr (less_before old.more new.more (o, c) (p, d) gone other))
        has,
  ) where
    here : (p d : ℕ) → o ≡ p → c ≡ d → IsInCell new.cells.items p d
    here p d object class = subst (λ e. IsInCell new.cells.items p e) class
        (subst (λ q. IsInCell new.cells.items q c) object
        (ap (λ all. slice_get all o) write ∙ slice_set_at old.cells.items o (suc c) (slice_get_within old.cells.items o 0 free)))

module _ (old mid : Classed) (o c : ℕ) (agree : (p d : ℕ) → Has old p d ↔ Has mid p d) where
  pub inserts_after : (new : Classed) → Inserts mid new o c → Inserts old new o c
  inserts_after new inserts = record {
    here = inserts.here;
    kept = λ p d has. inserts.kept p d ((agree p d).0 has);
    only = λ p d has. ⊎_elim (λ before. inl ((agree p d).1 before)) (λ own. inr own) (inserts.only p d has);
  }

  pub added_after : (added : Bool) → MatchBool added (¬ Has mid o c) (Has mid o c) → MatchBool added (¬ Has old o c) (Has old o c)
  added_after true none = λ has. none ((agree o c).0 has)
  added_after false has = (agree o c).1 has

-- ---- one more pair

module _ (old : Classed) (cells : List ℕ) (o c : ℕ) (agree : Agree old.cells.items cells) where
  pub has_none : ¬ IsInCell cells o c → ¬ IsTrue (contains pair_cmp old.more (o, c)) → ¬ Has old o c
  has_none cell more has = ⊎_elim (λ one. cell ((agree o c).0 one)) more has

  pub more_is_new :
      (added : Bool) → ¬ IsInCell cells o c → added ≡ not (contains pair_cmp old.more (o, c)) → MatchBool added (¬ Has old o c) (Has old o c)
  more_is_new added cell is = by_test (contains pair_cmp old.more (o, c)) refl where
    by_test : (test : Bool) → contains pair_cmp old.more (o, c) ≡ test → MatchBool added (¬ Has old o c) (Has old o c)
    by_test true there = subst (λ b. MatchBool b (¬ Has old o c) (Has old o c)) (sym (is ∙ ap not there)) (inr there)
    by_test false never = subst (λ b. MatchBool b (¬ Has old o c) (Has old o c)) (sym (is ∙ ap not never)) (has_none cell (λ there. false≢true (sym never ∙ there)))

  module _ (new : Classed) where
    -- Case: the object's cell already contains the class.
    pub inserts_nothing : IsInCell cells o c → new.cells.items ≡ cells → new.more ≡ old.more → Inserts old new o c
    inserts_nothing cell same more = record {
      here = inl (subst (λ all. IsInCell all o c) (sym same) cell);
      kept = λ p d has. ⊎_elim
          (λ one. inl (subst (λ all. IsInCell all p d) (sym same) ((agree p d).0 one)))
          (λ other. inr (subst (λ set. IsTrue (contains pair_cmp set (p, d))) (sym more) other))
          has;
      only = λ p d has. ⊎_elim
          (λ one. inl (inl ((agree p d).1 (subst (λ all. IsInCell all p d) same one))))
          (λ other. inl (inr (subst (λ set. IsTrue (contains pair_cmp set (p, d))) more other)))
          has;
    }

    -- Case: the object's cell was free.
    module _ (free : slice_get cells o ≡ Some 0) (write : new.cells.items ≡ slice_set cells o (suc c)) (more : new.more ≡ old.more) where
      pub inserts_in_cell : Inserts old new o c
      inserts_in_cell = record {
        here = inl (ap (λ all. slice_get all o) write ∙ slice_set_at cells o (suc c) (slice_get_within cells o 0 free));
        kept = λ p d has. ⊎_elim
            (λ one. inl (ap (λ all. slice_get all p) write ∙ cell_kept cells o c p d free ((agree p d).0 one)))
            (λ other. inr (subst (λ set. IsTrue (contains pair_cmp set (p, d))) (sym more) other))
            has;
        only = λ p d has. ⊎_elim
            (λ one. ⊎_elim
            (λ before. inl (inl ((agree p d).1 before)))
            (λ own. inr own)
            (cell_before cells o c p d (subst (λ all. IsInCell all p d) write one)))
            (λ other. inl (inr (subst (λ set. IsTrue (contains pair_cmp set (p, d))) more other)))
            has;
      }

    -- Case: the class of the pair is in no cell.
    pub inserts_more : new.cells.items ≡ cells → Updates pair_cmp old.more new.more (o, c) true → Inserts old new o c
    inserts_more same updates = record {
      here = inr updates.1;
      kept = λ p d has. ⊎_elim
          (λ one. inl (subst (λ all. IsInCell all p d) (sym same) ((agree p d).0 one)))
          (λ other. inr (later_kept old.more new.more (o, c) (p, d) updates other))
          has;
      only = λ p d has. ⊎_elim
          (λ one. inl (inl ((agree p d).1 (subst (λ all. IsInCell all p d) same one))))
          (λ other. ⊎_elim
          (λ before. inl (inr before))
          (λ own. inr (ap (λ (x : ℕ × ℕ). x.0) own, ap (λ (x : ℕ × ℕ). x.1) own))
          (later_before old.more new.more (o, c) (p, d) updates other))
          has;
    }
