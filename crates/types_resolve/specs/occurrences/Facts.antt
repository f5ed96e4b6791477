-- Facts about each node of a type.
use Rattle.std.specs.Prelude.{ℕ, ◌+◌, ◌<◌, ◌≤◌, ◌≡◌, min, Bool, true, false, not, ◌&&◌, ◌||◌, List}
use Rattle.std.specs.Prelude.{[], ◌∷◌}
use Rattle.std.specs.Prelude.{length, slice_index_or}
use Rattle.types_spec.specs.types.Ty.{Ty, variable, named, tuple, bracket, part, tag, tag_of}
use Rattle.types_spec.specs.types.Ty.{including}
use Rattle.types_spec.specs.types.Ty.{parts}
use Rattle.types_spec.specs.types.TypeNodes.{type_at}
use Rattle.types_spec.specs.declared.types.ty.TypeTreeNode.{TypeTreeNode}
use Rattle.types_spec.specs.declared.types.ty.TypeTreeNode.TheVariants as nodes
use Rattle.types_spec.specs.types.Occurrence.{PlacedItem}
use Rattle.types_resolve.specs.occurrences.Counted.{own_count, inner_count, begins}
use Rattle.types_resolve.specs.declared.occurrences.fact.Facts.{Facts}

-- ---- tests on types

abbrev pub holds : Ty → Bool
holds (variable x) = true
holds (named x) = false
holds tuple = false
holds bracket = false
holds (part whole added) = holds whole || holds added
holds (tag whole x) = holds whole
holds (tag_of whole x argument) = holds whole || holds argument
holds (including whole included) = holds whole || holds included

abbrev pub is_alone : Ty → Bool
is_alone (variable x) = true
is_alone t = false

-- Tests whether one of the types contains a variable but is not a variable.
abbrev pub some_grow : List Ty → Bool
some_grow [] = false
some_grow (t ∷ ts) = (holds t && not (is_alone t)) || some_grow ts

-- ---- facts, capped at the greatest number

abbrev pub capped : ℕ → ℕ
capped n = min n 18446744073709551615

abbrev pub nothing : Facts
nothing =
    record
    { inner = 0; own = 0; arguments = 0; grows = false; holds = false; alone = false; base = 0 }

abbrev pub fact_at : List Facts → ℕ → Facts
fact_at facts n = slice_index_or facts n nothing

abbrev pub leaf : ℕ → Bool → ℕ → Facts
leaf own alone base =
    record {
      inner = 0;
      own = own;
      arguments = 0;
      grows = false;
      holds = alone;
      alone = alone;
      base = base;
    }

abbrev pub whole : Facts → ℕ → ℕ → Bool → Bool → Facts
whole f inner arguments grows holds =
    record {
      inner = inner;
      own = f.own;
      arguments = arguments;
      grows = grows;
      holds = holds;
      alone = false;
      base = f.base;
    }

abbrev pub total_of : Facts → ℕ
total_of g = capped (g.inner + g.own)

abbrev pub facts_of : List Facts → TypeTreeNode → Facts
facts_of facts (nodes.Variable x) = leaf 1 true (length facts)
facts_of facts (nodes.Named x) = leaf 1 false (length facts)
facts_of facts nodes.Tuple = leaf 0 false (length facts)
facts_of facts nodes.Bracket = leaf 0 false (length facts)
facts_of facts (nodes.Part w a) = let f = fact_at facts w in let g = fact_at facts a in
    whole f (capped (f.inner + total_of g)) (capped (f.arguments + 1))
    (f.grows || (g.holds && not g.alone)) (f.holds || g.holds)
facts_of facts (nodes.Tag w x) =
    let f = fact_at facts w in whole f (capped (f.inner + 1)) 0 false f.holds
facts_of facts (nodes.TagOf w x a) = let f = fact_at facts w in let g = fact_at facts a in
    whole f (capped (capped (f.inner + 1) + total_of g)) 0 false (f.holds || g.holds)
facts_of facts (nodes.Including w u) = let f = fact_at facts w in let g = fact_at facts u in
    whole f (capped (capped (f.inner + 1) + total_of g)) 0 false (f.holds || g.holds)

-- ---- the facts of a type

abbrev pub IsLeaf : Ty → Type 0
IsLeaf (variable x) = Unit {0}
IsLeaf (named x) = Unit {0}
IsLeaf tuple = Unit {0}
IsLeaf bracket = Unit {0}
IsLeaf t = ⊥

-- `f` states the facts of the type `t` of node `n`.
pub record IsFacts (types : List Ty) (n : ℕ) (t : Ty) (f : Facts) : Type 0 where
  pub inner_is : f.inner ≡ capped (inner_count t)
  pub own_is : f.own ≡ own_count t
  pub arguments_are : f.arguments ≡ length (parts t)
  pub grows_is : f.grows ≡ some_grow (parts t)
  pub holds_is : f.holds ≡ holds t
  pub alone_is : f.alone ≡ is_alone t
  pub few : length (parts t) ≤ n
  pub base_below : f.base ≤ n
  pub leaf_there : IsLeaf (type_at types f.base)
  pub begins_there :
      (j : ℕ) (b : Bool) (arguments : List Ty) (items : List PlacedItem)
      → begins j b arguments items t ≡ begins j b arguments items (type_at types f.base)

pub record AreFacts (types : List Ty) (n : ℕ) (facts : List Facts) : Type 0 where
  pub counted : length facts ≡ n
  pub are : (i : ℕ) → i < n → IsFacts types i (type_at types i) (fact_at facts i)
