-- Elements that occur once in a set, and their indices.
use Rattle.std.proofs.Common.{ℕ, ◌+◌, ◌<◌, ◌≡◌, ◌∙◌, ◌⊎◌, inl, inr, Bool, true, false, cond, List, [], ◌∷◌, ◌++◌, length, map, Some, refl, sym, ap, true≢false, arith, length-append}
use Rattle.std.specs.Prelude.{slice_get, position, option_map, nat_eq}
use Rattle.std.specs.Global.{Vec}
use Rattle.std.specs.List.{IsDistinct, list_any}
use Rattle.std.specs.Cmp.Lexicographic.{pointwise, bytes_decides}
use Rattle.std.proofs.lemmas.List.{map-append, append_assoc, append-nil, get_or_append_left}
use Rattle.std.proofs.lemmas.List.Quantifiers.{position-Some}
use Rattle.std.proofs.lemmas.Map.Keys.{apart_from_distinct}
use Rattle.std.proofs.lemmas.Option.{slice_get-map, slice_get_within, slice_get-get_or, get_or_from_slice_get}
use Rattle.base_data.proofs.model.Options.{slice_get_there}
use Rattle.base_data.proofs.model.Lists.{map-slice_get}
use Rattle.indexmap.specs.IndexSet.{insert_key}
use Rattle.types_table.specs.store.Held.{AreDistinct, AddsOnce, Holds, Grows}
use Rattle.types_table.specs.store.StoredTexts.{texts_of}

-- ---- equal keys occur once

module _ {K : Type 0} (eq : K → K → Bool) (ks : List K) (distinct : IsDistinct eq ks) where
  apart :
      (i j : ℕ) (a b : K) → slice_get ks i ≡ Some a → slice_get ks j ≡ Some b → eq a b ≡ true
      → i < j → ⊥
  apart i j a b at_i at_j same before =
      let differ = apart_from_distinct eq ks i j a distinct before (slice_get_within ks j b at_j) in
      let first = get_or_from_slice_get ks i a a at_i in
      let second = get_or_from_slice_get ks j b a at_j in
      true≢false (sym same ∙ sym (λ t. eq (first t) (second t)) ∙ differ)

  pub one_position :
      (i j : ℕ) (a b : K) → slice_get ks i ≡ Some a → slice_get ks j ≡ Some b → eq a b ≡ true
      → eq b a ≡ true → i ≡ j
  one_position i j a b at_i at_j same back =
      let not_before : i < j → ⊥ = apart i j a b at_i at_j same in
      let not_after : j < i → ⊥ = apart j i b a at_j at_i back in
      omega (arith, not_before, not_after)

  pub AreDistinct-keys : ((a : K) → eq a a ≡ true) → AreDistinct ks
  AreDistinct-keys itself i j a at_i at_j = one_position i j a a at_i at_j (itself a) (itself a)

pub get-map :
    {A B : Type 0} (f : A → B) (xs : List A) (i : ℕ) (x : A) → slice_get xs i ≡ Some x
    → slice_get (map f xs) i ≡ Some (f x)
get-map f xs i x is = slice_get-map f xs i ∙ ap (option_map f) is

-- ---- texts

-- If vectors are distinct, then their contents are distinct.
pub AreDistinct-texts :
    (eq : Vec ℕ → Vec ℕ → Bool) → ((a b : Vec ℕ) → a.items ≡ b.items → eq a b ≡ true)
    → (ks : List (Vec ℕ)) → IsDistinct eq ks → AreDistinct (texts_of ks)
AreDistinct-texts eq agree ks distinct i j x at_i at_j =
    let a = map-slice_get (λ (v : Vec ℕ). v.items) ks i x at_i in
    let b = map-slice_get (λ (v : Vec ℕ). v.items) ks j x at_j in
    one_position eq ks distinct i j a.0 b.0 a.1 b.1 (agree a.0 b.0 (a.2 ∙ sym b.2)) (agree b.0 a.0 (b.2 ∙ sym a.2))

pub agree_texts : (a b : Vec ℕ) → a.items ≡ b.items → pointwise nat_eq a.items b.items ≡ true
agree_texts a b same = (bytes_decides a.items b.items).1 same

-- If the search finds a text at index `i`, then the text is at index `i` of the list.
pub text_found :
    (name : List ℕ) (ks : List (Vec ℕ)) (i : ℕ)
    → position (λ (k : Vec ℕ). pointwise nat_eq name k.items) ks ≡ Some i → i < length ks
    → slice_get (texts_of ks) i ≡ Some name
text_found name ks i found below =
    let k = slice_get_there ks i below in
    let passes = position-Some (λ (k : Vec ℕ). pointwise nat_eq name k.items) ks i k.0 found in
    let here = get_or_from_slice_get ks i k.0 k.0 k.1 in
    let same = (bytes_decides name (k.0).items).0 (sym (ap (λ (v : Vec ℕ). pointwise nat_eq name v.items) here) ∙ passes.1) in
    get-map (λ (v : Vec ℕ). v.items) ks i k.0 k.1 ∙ ap Some (sym same)

-- If a text is inserted into a set of texts, then the texts grow by at most one text, as `AddsOnce`
-- states.
pub text_added :
    (eq : Vec ℕ → Vec ℕ → Bool) (old new : List (Vec ℕ)) (value k : Vec ℕ) (i : ℕ) (name : List ℕ)
    → new ≡ insert_key eq old value → slice_get new i ≡ Some k
    → pointwise nat_eq value.items k.items ≡ true → value.items ≡ name
    → AddsOnce (texts_of old) (texts_of new) name i
text_added eq old new value k i name is stored same named =
    record { grown = by (list_any (eq value) old) refl; there = there } where
      there : slice_get (texts_of new) i ≡ Some name
      there =
          get-map (λ (v : Vec ℕ). v.items) new i k stored
          ∙ ap Some (sym ((bytes_decides value.items k.items).0 same) ∙ named)

      by :
          (b : Bool) → list_any (eq value) old ≡ b
          → (texts_of new ≡ texts_of old) ⊎ (texts_of new ≡ texts_of old ++ name ∷ [])
      by true e = inl (ap texts_of (is ∙ ap (λ (b : Bool). cond b old (old ++ value ∷ [])) e))
      by false e = inr (ap texts_of (is ∙ ap (λ (b : Bool). cond b old (old ++ value ∷ [])) e)
          ∙ map-append (λ (v : Vec ℕ). v.items) old (value ∷ [])
          ∙ ap (λ (t : List ℕ). texts_of old ++ t ∷ []) named)

-- If an element is in a list, then the unchanged list satisfies `AddsOnce` for the element.
pub adds_nothing : {T : Type 0} (old : List T) (x : T) (i : ℕ) → slice_get old i ≡ Some x → AddsOnce old old x i
adds_nothing old x i there = record { grown = inl refl; there = there }

-- If a list grew and then received an element, then the result grew from the first list.
pub Grows-held :
    {T : Type 0} (old now new : List T) (x : T) (i : ℕ) → Grows old now → Holds now new x i
    → Grows old new
Grows-held old now new x i grown held = record {
  added = grown.added ++ held.added;
  kept = held.kept ∙ ap (λ ts. ts ++ held.added) grown.kept ∙ append_assoc old grown.added held.added;
}

pub Grows-none : {T : Type 0} (xs : List T) → Grows xs xs
Grows-none xs = record { added = []; kept = sym (append-nil xs) }

pub Grows-then : {T : Type 0} (xs ys zs : List T) → Grows xs ys → Grows ys zs → Grows xs zs
Grows-then xs ys zs first second = record {
  added = first.added ++ second.added;
  kept = second.kept ∙ ap (λ ts. ts ++ second.added) first.kept ∙ append_assoc xs first.added second.added;
}

pub Holds-grows : {T : Type 0} (xs ys : List T) (x : T) (i : ℕ) → Holds xs ys x i → Grows xs ys
Holds-grows xs ys x i held = record { added = held.added; kept = held.kept }

-- If elements are appended to a list, then the earlier elements keep their indices.
pub there_kept :
    {T : Type 0} (xs ys : List T) (i : ℕ) (x : T) → Grows xs ys → slice_get xs i ≡ Some x → slice_get ys i ≡ Some x
there_kept xs ys i x grown is =
    let all = xs ++ grown.added in
    let within : i < length xs = slice_get_within xs i x is in
    let more : length all ≡ length xs + length grown.added = length-append xs grown.added in
    let below : i < length all = omega arith in
    ap (λ ts. slice_get ts i) grown.kept
    ∙ slice_get-get_or all i x below
    ∙ ap Some (get_or_append_left xs grown.added x i within ∙ get_or_from_slice_get xs i x x is)
