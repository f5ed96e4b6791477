-- Invariants of the loops over brackets.
use Rattle.std.proofs.Common.{ℕ, ◌<◌, ◌≤◌, ◌+◌, ◌≡◌, ◌∙◌, ◌++◌, ◌⊎◌, ⊎_elim, List, [], ◌∷◌, Option, Some, None, length, get_or, map, take, sym, ap, subst}
use Rattle.std.specs.Prelude.{Contains, All, IfSome}
use Rattle.std.proofs.lemmas.List.{map-append, take_more, take_all}
use Rattle.std.proofs.lemmas.List.Elements.{All-push, All-contains}
use Rattle.types_wellformed.specs.declared.brackets.tag_item.TagItem.{TagItem}
use Rattle.types_wellformed.specs.declared.brackets.tag_names.Collision.{Collision}
use Rattle.types_wellformed.specs.brackets.Collisions.{IsCollision}
use Rattle.types_wellformed.specs.head_rules.Rules.{CollideAmong}

-- ---- tags with the same hash

module _ (brackets : List (List TagItem)) where
  names_among :
      (items : List TagItem) (found : Option Collision) → Contains brackets items → IfSome found (IsCollision items)
      → IfSome found (λ c. CollideAmong brackets c.position c.one.now c.other.now)
  names_among items None among names = tt
  names_among items (Some c) among names = (items, among, names)

  abbrev pub AreNamedAmong : Option Collision → Type 0
  AreNamedAmong found = IfSome found (λ c. CollideAmong brackets c.position c.one.now c.other.now)

  -- The invariant of the loop over brackets holds after one more iteration.
  pub more_names :
      (i : ℕ) (items : List TagItem) (best found next : Option Collision) → i < length brackets
      → items ≡ get_or brackets i items → (next ≡ best) ⊎ (next ≡ found) → AreNamedAmong best
      → IfSome found (IsCollision items) → AreNamedAmong next
  more_names i items best found next below read either so_far here = ⊎_elim
      (λ is. subst AreNamedAmong (sym is) so_far)
      (λ is. subst AreNamedAmong (sym is) (names_among items found (i, below, sym read) here))
      either

-- ---- lists of results

-- The invariant of a loop that builds a list holds after one more iteration.
pub maps_more :
    {X Y Z W : Type 0} (f : W → Z) (h : Y → Z) (g : X → Y) (out : List W) (next : List W) (xs : List X) (k : ℕ)
    (x e : X) (w : W) → k < length xs → x ≡ get_or xs k e → next ≡ out ++ w ∷ [] → f w ≡ h (g x)
    → map f out ≡ map h (map g (take k xs)) → map f next ≡ map h (map g (take (k + 1) xs))
maps_more {X} {Y} {Z} {W} f h g out next xs k x e w below read next_is here so_far =
    ap (map f) next_is
    ∙ map-append f out (w ∷ [])
    ∙ ap (λ zs. zs ++ f w ∷ []) so_far
    ∙ ap (λ z. map h (map g (take k xs)) ++ z ∷ []) (here ∙ ap (λ y. h (g y)) read)
    ∙ sym (map-append h (map g (take k xs)) (g (get_or xs k e) ∷ []))
    ∙ ap (map h) (sym (map-append g (take k xs) (get_or xs k e ∷ [])))
    ∙ ap (λ ys. map h (map g ys)) (sym (take_more xs k e below))

-- ---- properties of each element

pub all_more :
    {X : Type 0} (P : X → Type 0) (xs : List X) (k : ℕ) (x : X) → k < length xs → x ≡ get_or xs k x
    → All P (take k xs) → P x → All P (take (k + 1) xs)
all_more P xs k x below read so_far here =
    subst (All P) (sym (take_more xs k x below ∙ ap (λ y. take k xs ++ y ∷ []) (sym read)))
    (All-push P (take k xs) x so_far here)

pub all_end :
    {X : Type 0} (P : X → Type 0) (xs : List X) (k : ℕ) → length xs ≤ k → All P (take k xs) → (x : X)
    → Contains xs x → P x
all_end P xs k past all x among = All-contains P xs x (subst (All P) (take_all k xs past) all) among
