-- Lists of numbers, one list for each class or for each number.
use Rattle.std.proofs.Common.{ℕ, ◌<◌, ◌+◌, ◌≡◌, ◌≢◌, ◌∙◌, ⊎_elim, ◌⊎◌, inl, inr, List, [], ◌∷◌, ◌++◌, Some, refl, sym, ap, subst, length, length-append, get_or, take, set}
use Rattle.std.specs.Prelude.{Contains, slice_get, slice_index}
use Rattle.std.specs.Global.{Vec}
use Rattle.std.proofs.Math.ListN.{length-set}
use Rattle.std.proofs.lemmas.List.{take_more}
use Rattle.std.proofs.lemmas.List.Elements.{Contains-append_left, Contains-push, Contains-push_cases}
use Rattle.std.proofs.lemmas.Option.{same_Some}
use Rattle.base_data.proofs.model.Options.{Contains-none, same_or_not}
use Rattle.base_data.proofs.model.Lists.{slice_get-append_left, slice_get-set_other, slice_get-set_here, slice_get-read, slice_get-push_cases}
use Rattle.types_table.specs.partition.Lists.{Has, Keeps, IsWritten, IsTaken, HasRooms, IsOfClass, IsShorter, KeepsMembers}
use Rattle.types_table.specs.partition.Signature.{IsSetOf}

-- ---- replacing an element

module _ (lists : List (Vec ℕ)) (at : ℕ) (v w : Vec ℕ) (below : at < length lists) (is : v ≡ get_or lists at v) where
  at_read : slice_get lists at ≡ Some v
  at_read = slice_get-read lists at v below is

  pub write_is : (x : ℕ) → w.items ≡ v.items ++ x ∷ [] → IsWritten lists at x (set lists at w)
  write_is x more = record {
    keeps = record { many = length-set lists at w; kept = kept };
    there = (w, slice_get-set_here lists at w below, subst (λ l. Contains l x) (sym more) (Contains-push v.items x));
    back = back;
  } where
    kept : (d y : ℕ) → Has lists d y → Has (set lists at w) d y
    kept d y has = ⊎_elim
        (λ here.
        let same : has.0 ≡ v = same_Some has.0 v (sym has.1 ∙ ap (slice_get lists) here ∙ at_read) in (
          w,
          ap (slice_get (set lists at w)) here ∙ slice_get-set_here lists at w below,
          subst (λ l. Contains l y) (sym more) (Contains-append_left v.items (x ∷ []) y
              (subst (λ (u : Vec ℕ). Contains u.items y) same has.2)),
        ))
        (λ other. (has.0, slice_get-set_other lists at d w other ∙ has.1, has.2))
        (same_or_not d at)

    back : (d y : ℕ) → Has (set lists at w) d y → Has lists d y ⊎ (d ≡ at)
    back d y has = ⊎_elim (λ here. inr here)
        (λ other. inl (has.0, sym (slice_get-set_other lists at d w other) ∙ has.1, has.2)) (same_or_not d at)

  pub taken_is : (taken : List ℕ) → taken ≡ v.items → w.items ≡ [] → IsTaken lists at taken (set lists at w)
  taken_is taken all none = record {
    many = length-set lists at w;
    there = λ y has. subst (λ l. Contains l y) (sym all) (subst (λ (u : Vec ℕ). Contains u.items y)
        (same_Some has.0 v (sym has.1 ∙ at_read)) has.2);
    kept = λ d y other has. (has.0, slice_get-set_other lists at d w other ∙ has.1, has.2);
    back = back;
  } where
    back : (d y : ℕ) → Has (set lists at w) d y → (d ≢ at) × Has lists d y
    back d y has = ⊎_elim
        (λ here. absurd (Contains-none y (subst (λ l. Contains l y) none (subst (λ (u : Vec ℕ). Contains u.items y)
        (same_Some has.0 w (sym has.1 ∙ ap (slice_get (set lists at w)) here ∙ slice_get-set_here lists at w below)) has.2))))
        (λ other. (other, (has.0, sym (slice_get-set_other lists at d w other) ∙ has.1, has.2)))
        (same_or_not d at)

  pub shorter_is : (class shorter : List ℕ) → IsOfClass v.items class at shorter → w.items ≡ shorter
      → IsShorter class at lists (set lists at w)
  shorter_is class shorter held all = record {
    many = length-set lists at w;
    of_class = λ y has. held.is y (subst (λ l. Contains l y) all (subst (λ (u : Vec ℕ). Contains u.items y)
        (same_Some has.0 w (sym has.1 ∙ slice_get-set_here lists at w below)) has.2));
    kept = kept;
  } where
    kept : (y : ℕ) → y < length class → Has lists (slice_index class y) y → Has (set lists at w) (slice_index class y) y
    kept y under has = ⊎_elim
        (λ here. (
          w,
          ap (slice_get (set lists at w)) here ∙ slice_get-set_here lists at w below,
          subst (λ l. Contains l y) (sym all) (held.has y (subst (λ (u : Vec ℕ). Contains u.items y)
              (same_Some has.0 v (sym has.1 ∙ ap (slice_get lists) here ∙ at_read)) has.2) under here),
        ))
        (λ other. (has.0, slice_get-set_other lists at (slice_index class y) w other ∙ has.1, has.2))
        (same_or_not (slice_index class y) at)

pub members_shorter : (class : List ℕ) (wanted : ℕ) (old new : List (Vec ℕ)) → IsShorter class wanted old new
    → KeepsMembers class old new
members_shorter class wanted old new is = record { many = is.many; kept = is.kept }

-- ---- empty lists

pub room_more : (old now new : List (Vec ℕ)) (w : Vec ℕ) (count : ℕ) → HasRooms old count now → w.items ≡ []
    → new ≡ now ++ w ∷ [] → HasRooms old (count + 1) new
room_more old now new w count held none is = record {
  many = ap length is ∙ length-append now (w ∷ []) ∙ ap (λ n. n + 1) held.many;
  there = λ d y has. let before = held.there d y has in
      (before.0, ap (λ l. slice_get l d) is ∙ slice_get-append_left now (w ∷ []) d before.0 before.1, before.2);
  back = λ d y has. ⊎_elim (λ before. held.back d y (has.0, before, has.2))
      (λ last. absurd (Contains-none y (subst (λ l. Contains l y) none
      (subst (λ (u : Vec ℕ). Contains u.items y) (sym last.1) has.2))))
      (slice_get-push_cases now w d has.0 (sym (ap (λ l. slice_get l d) is) ∙ has.1));
}

pub rooms_now : (old : List (Vec ℕ)) → HasRooms old (length old) old
rooms_now old = record { many = refl; there = λ d y has. has; back = λ d y has. has }

-- ---- one more number

pub next_cases : (xs : List ℕ) (i y : ℕ) → i < length xs → Contains (take (i + 1) xs) y
    → Contains (take i xs) y ⊎ (get_or xs i 0 ≡ y)
next_cases xs i y within among =
    Contains-push_cases (take i xs) (get_or xs i 0) y (subst (λ l. Contains l y) (take_more xs i 0 within) among)

pub Keeps-then : (a b c : List (Vec ℕ)) → Keeps a b → Keeps b c → Keeps a c
Keeps-then a b c one two = record { many = two.many ∙ one.many; kept = λ d y has. two.kept d y (one.kept d y has) }

-- ---- numbers of a class

pub of_class_none : (class : List ℕ) (wanted : ℕ) (found : List ℕ) → found ≡ [] → IsOfClass [] class wanted found
of_class_none class wanted found none = record {
  is = λ x among. absurd (Contains-none x (subst (λ l. Contains l x) none among));
  has = λ x among below is. absurd (Contains-none x among);
}

module _ (class : List ℕ) (wanted : ℕ) (numbers : List ℕ) (i : ℕ) (within : i < length numbers)
    (found new : List ℕ) (held : IsOfClass (take i numbers) class wanted found) where
  abbrev at_i : ℕ
  at_i = get_or numbers i 0

  pub of_class_more : new ≡ found ++ at_i ∷ [] → (at_i < length class) × (slice_index class at_i ≡ wanted)
      → IsOfClass (take (i + 1) numbers) class wanted new
  of_class_more is fits = record {
    is = λ y among. ⊎_elim (λ before. held.is y before)
        (λ last. subst (λ n. (n < length class) × (slice_index class n ≡ wanted)) last fits)
        (Contains-push_cases found at_i y (subst (λ l. Contains l y) is among));
    has = λ y among under wants. subst (λ l. Contains l y) (sym is) (⊎_elim
        (λ before. Contains-append_left found (at_i ∷ []) y (held.has y before under wants))
        (λ last. subst (λ n. Contains (found ++ at_i ∷ []) n) last (Contains-push found at_i))
        (next_cases numbers i y within among));
  }

  pub of_class_same : new ≡ found → (¬ ((at_i < length class) × (slice_index class at_i ≡ wanted)))
      → IsOfClass (take (i + 1) numbers) class wanted new
  of_class_same is never = record {
    is = λ y among. held.is y (subst (λ l. Contains l y) is among);
    has = λ y among under wants. subst (λ l. Contains l y) (sym is) (⊎_elim
        (λ before. held.has y before under wants)
        (λ last. absurd (never (
          subst (λ n. n < length class) (sym last) under,
          subst (λ n. slice_index class n ≡ wanted) (sym last) wants,
        )))
        (next_cases numbers i y within among));
  }

pub of_class_set : (numbers class : List ℕ) (wanted : ℕ) (found set' : List ℕ) → IsOfClass numbers class wanted found
    → IsSetOf found set' → IsOfClass numbers class wanted set'
of_class_set numbers class wanted found set' held once = record {
  is = λ x among. held.is x (once.back x among);
  has = λ x among below wants. once.there x (held.has x among below wants);
}
