-- Lemmas about discovered store numbers, and about the results that refer to discovered types by
-- index.
use Rattle.std.proofs.Common.{ℕ, ◌+◌, ◌<◌, ◌≤◌, ◌≡◌, ◌∙◌, Bool, true, false, cond, List, [], ◌∷◌, ◌++◌, Option, refl, sym, ap, subst, length, take, get_or}
use Rattle.std.specs.Prelude.{map, nat_eq}
use Rattle.std.specs.List.{flat_map, list_any}
use Rattle.std.proofs.lemmas.List.{append-nil, map-append, take_more, take_all}
use Rattle.std.proofs.lemmas.List.Sums.{fold-append}
use Rattle.std.proofs.lemmas.List.Concat.{flat_map-append}
use Rattle.indexmap.specs.IndexSet.{insert_key, insert_all}
use Rattle.types_spec.specs.types.Ty.{Ty}
use Rattle.types_table.specs.store.Held.{Grows}
use Rattle.types_table.proofs.store.StoreHeldLemmas.{Grows-none, Grows-then, there_kept}
use Rattle.types_spec.specs.declared.types.head.TagOf.{TagOf}
use Rattle.types_spec.specs.declared.types.shape.Constr.{Constr}
use Rattle.types_spec.specs.types.Table.{constr_with, tag_with_part}
use Rattle.types_build.specs.builder.PlacedTypes.{SayTheSame, IsPlaced, AreNumbersPlaced, IsOptionPlaced, fields_in, argument_of}

-- ---- numbers are appended

insert_key-grows : (met : List ℕ) (n : ℕ) → Grows met (insert_key nat_eq met n)
insert_key-grows met n = by (list_any (nat_eq n) met) where
  by : (there : Bool) → Grows met (cond there met (met ++ n ∷ []))
  by true = Grows-none met
  by false = record { added = n ∷ []; kept = refl }

insert_all-grows : (met numbers : List ℕ) → Grows met (insert_all nat_eq met numbers)
insert_all-grows met [] = Grows-none met
insert_all-grows met (n ∷ numbers) =
    Grows-then met (insert_key nat_eq met n) (insert_all nat_eq (insert_key nat_eq met n) numbers)
    (insert_key-grows met n) (insert_all-grows (insert_key nat_eq met n) numbers)

-- If two functions agree on all indices of a list, then the two functions agree on the indices of a
-- prefix.
pub SayTheSame-before :
    (before after : List ℕ) (f g : ℕ → Option Ty) → Grows before after → SayTheSame after f g
    → SayTheSame before f g
SayTheSame-before before after f g grown says = record {
  at = λ position number is. says.at position number (there_kept before after position number grown is);
}

module _ {A B : Type 0} (numbers : A → List ℕ) (saying : (ℕ → Option Ty) → A → B) where
  pub IsPlaced-grows :
      (before after : List ℕ) (given made : A) → IsPlaced numbers saying before after given made
      → Grows before after
  IsPlaced-grows before after given made placed =
      let grown = insert_all-grows before (numbers given) in
      record { added = grown.added; kept = placed.met ∙ grown.kept }

  -- ---- lists, from the first on

  module _ (all : List A → List ℕ) where
    abbrev Placed : List ℕ → List ℕ → List A → List A → Type 0
    Placed = IsPlaced {A = List A} {B = List B} all (λ says xs. map (saying says) xs)

    pub placed_none : (met : List ℕ) → all [] ≡ [] → Placed met met [] []
    placed_none met none = record {
      met = ap (λ (ns : List ℕ). insert_all nat_eq met ns) (sym none);
      same = λ f g says. refl;
    }

    pub placed_more :
        (first now after : List ℕ) (given made : List A) (a b : A)
        → all (given ++ a ∷ []) ≡ all given ++ numbers a
        → Placed first now given made → IsPlaced numbers saying now after a b
        → Placed first after (given ++ a ∷ []) (made ++ b ∷ [])
    placed_more first now after given made a b more before one = record {
      met = one.met
          ∙ ap (λ (ns : List ℕ). insert_all nat_eq ns (numbers a)) before.met
          ∙ sym (fold-append (insert_key nat_eq) first (all given) (numbers a))
          ∙ ap (λ (ns : List ℕ). insert_all nat_eq first ns) (sym more);
      same = λ f g says.
          map-append (saying f) made (b ∷ [])
          ∙ ap (λ (ys : List B). ys ++ saying f b ∷ [])
          (before.same f g (SayTheSame-before now after f g (IsPlaced-grows now after a b one) says))
          ∙ ap (λ (y : B). map (saying g) given ++ y ∷ []) (one.same f g says)
          ∙ sym (map-append (saying g) given (a ∷ []));
    }

    pub placed_next :
        (first now after : List ℕ) (given next made : List A) (a b : A) → next ≡ given ++ a ∷ []
        → all (given ++ a ∷ []) ≡ all given ++ numbers a
        → Placed first now given made → IsPlaced numbers saying now after a b
        → Placed first after next (made ++ b ∷ [])
    placed_next first now after given next made a b is more before one =
        subst (λ (xs : List A). Placed first after xs (made ++ b ∷ [])) (sym is)
        (placed_more first now after given made a b more before one)

    pub placed_all :
        (first after : List ℕ) (given made : List A) (k : ℕ) → length given ≤ k
        → Placed first after (take k given) made → Placed first after given made
    placed_all first after given made k past placed =
        subst (λ (xs : List A). Placed first after xs made) (take_all k given past) placed

-- The prefix with `k + 1` elements is the prefix with `k` elements, followed by the element at
-- index `k`.
pub one_longer : {A : Type 0} (xs : List A) (k : ℕ) (x : A) → k < length xs → x ≡ get_or xs k x → take (k + 1) xs ≡ take k xs ++ x ∷ []
one_longer xs k x below is =
    take_more xs k x below ∙ ap (λ y. take k xs ++ y ∷ []) (sym is)

-- If a list is extended by one element, then the numbers of the element follow the numbers of the
-- list.
pub one_more :
    {A B : Type 0} (numbers : A → List B) (given : List A) (a : A)
    → flat_map numbers (given ++ a ∷ []) ≡ flat_map numbers given ++ numbers a
one_more numbers given a =
    flat_map-append numbers given (a ∷ []) ∙ ap (λ ns. flat_map numbers given ++ ns) (append-nil (numbers a))

-- ---- parts of shapes and heads

pub block_placed :
    (before after : List ℕ) (block : Constr ℕ) (fields : List ℕ) → AreNumbersPlaced before after block.fields fields
    → IsPlaced {A = Constr ℕ} {B = Constr (Option Ty)} fields_in (λ f c. constr_with f c) before after block
    (record { mutable = block.mutable; fields = fields })
block_placed before after block fields placed = record {
  met = placed.met;
  same = λ f g says. ap (λ (fs : List (Option Ty)). record { mutable = block.mutable; fields = fs }) (placed.same f g says);
}

pub head_tag_placed :
    (before after : List ℕ) (tag : TagOf ℕ) (argument : Option ℕ) → IsOptionPlaced before after tag.argument argument
    → IsPlaced {A = TagOf ℕ} {B = TagOf (Option Ty)} argument_of (λ f t. tag_with_part f t) before after tag
    (record { name = tag.name; argument = argument })
head_tag_placed before after tag argument placed = record {
  met = placed.met;
  same = λ f g says. ap (λ (a : Option (Option Ty)). record { name = tag.name; argument = a }) (placed.same f g says);
}
