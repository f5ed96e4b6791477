-- Generated values: a list of items that a linear congruential generator modulo 2^31 draws. An item
-- may refer to earlier items, which are shared.
use Rattle.std.specs.Prelude.{ℕ, zero, suc, ◌+◌, ◌*◌, ◌/◌, ◌%◌, ◌^◌, ◌==◌, if◌then◌else◌, List, []}
use Rattle.std.specs.Prelude.{◌∷◌, ◌++◌, length, replicate, slice_index_or, pos, codes}
use Rattle.base_data.specs.declared.model.value.Val.{Val}
use Rattle.base_data.specs.declared.model.value.Val.TheVariants as vals
use Rattle.base_data.specs.declared.model.value.Obj.{Obj}
use Rattle.base_data.specs.declared.model.value.Obj.TheVariants as objects
use Rattle.cmd_gen.specs.declared.generator.generated_item.GeneratedItem.{GeneratedItem}
use Rattle.cmd_gen.specs.declared.generator.generated_item.GeneratedItem.TheVariants.{Nil, Num}
use Rattle.cmd_gen.specs.declared.generator.generated_item.GeneratedItem.TheVariants.{Text, Pair}
use Rattle.cmd_gen.specs.declared.generator.generated_item.GeneratedItem.TheVariants.{Cell}

-- The text of the declaration of the type `item`.
abbrev pub item_declarations : List ℕ
item_declarations =
    codes "type item = Nil | Num of int | Text of string | Pair of item * item | Cell of item ref"

-- ---- draws of the random generator

-- The state of the random generator after one more draw.
abbrev pub next_state : ℕ → ℕ
next_state state = (state * 1103515245 + 12345) % 2 ^ 31

-- The number that a draw returns, computed from the state after the draw.
abbrev pub drawn : ℕ → ℕ
drawn state = state / 256

-- The state of the random generator after `n` draws.
abbrev pub state_after : ℕ → ℕ → ℕ
state_after zero state = state
state_after (suc n) state = next_state (state_after n state)

-- The number that draw `k` from a state returns. Draws are counted from 1.
abbrev pub draw : ℕ → ℕ → ℕ
draw k state = drawn (state_after k state)

-- ---- items

-- Item `i` of the given kind, computed from the drawn numbers `b` and `c`. A pair or a cell refers
-- to earlier items. Item 0 is neither a pair nor a cell.
abbrev pub item_of : (kind i b c : ℕ) → GeneratedItem
item_of kind i b c =
    if kind == 0 then Nil
    else (if kind == 1 then Num b
    else (if kind == 2 then Text (b % 40) (97 + c % 26)
    else (if i == 0 then Nil
    else (if kind == 3 then Pair (b % i) (c % i)
    else Cell (b % i)))))

-- Item `i`, from three draws. The first draw chooses the kind of the item.
abbrev pub item_at : ℕ → ℕ → GeneratedItem
item_at i state = item_of (draw 1 state % 5) i (draw 2 state) (draw 3 state)

-- ---- the objects of items

-- The value of earlier item `i`. If there is no such item, the value is the integer 0.
abbrev pub earlier : List Val → ℕ → Val
earlier values i = slice_index_or values i (vals.Int (pos 0))

-- The objects of an item, numbered from `first`. `values` contains the values of the earlier items.
-- The constructors with arguments are `Num`, `Text`, `Pair` and `Cell`, with tags from 0.
abbrev pub objects_of : (first : ℕ) → List Val → GeneratedItem → List Obj
objects_of first values Nil = []
objects_of first values (Num n) = objects.Block 0 (vals.Int (pos n) ∷ []) ∷ []
objects_of first values (Text len byte) =
    objects.Bytes (replicate len byte) ∷ objects.Block 1 (vals.Ref first ∷ []) ∷ []
objects_of first values (Pair i j) = objects.Block 2 (earlier values i ∷ earlier values j ∷ []) ∷ []
objects_of first values (Cell i) =
    objects.Block 0 (earlier values i ∷ []) ∷ objects.Block 3 (vals.Ref first ∷ []) ∷ []

-- The value of an item. If the value is an object, the object is the last of the item's objects.
abbrev pub value_of : (first : ℕ) → GeneratedItem → Val
value_of first Nil = vals.Int (pos 0)
value_of first (Num n) = vals.Ref first
value_of first (Text len byte) = vals.Ref (first + 1)
value_of first (Pair i j) = vals.Ref first
value_of first (Cell i) = vals.Ref (first + 1)

-- The objects and values of the items so far, and the state of the random generator.
pub record MadeItems : Type 0 where
  pub all : List Obj
  pub values : List Val
  pub state : ℕ

-- The items so far and one more item, with its objects and its value.
abbrev pub with_item : MadeItems → GeneratedItem → MadeItems
with_item made item = record {
  all = made.all ++ objects_of (length made.all) made.values item;
  values = made.values ++ value_of (length made.all) item ∷ [];
  state = state_after 3 made.state;
}

abbrev pub next_made : MadeItems → MadeItems
next_made made = with_item made (item_at (length made.values) made.state)

-- The first `count` items that are generated from `number`.
abbrev pub items_made : ℕ → ℕ → MadeItems
items_made number zero = record { all = []; values = []; state = number }
items_made number (suc count) = next_made (items_made number count)

-- ---- the list of the items

-- The objects and the root of the OCaml list of the values. The objects are `all`, followed by the
-- cells of the list, the last cell first.
abbrev pub listed : List Obj → List Val → List Obj × Val
listed all [] = (all, vals.Int (pos 0))
listed all (v ∷ vs) =
    let rest = listed all vs in
    (rest.0 ++ objects.Block 0 (v ∷ rest.1 ∷ []) ∷ [], vals.Ref (length rest.0))

-- The objects and the root of the value that is generated for NUMBER and COUNT.
abbrev pub generated : ℕ → ℕ → List Obj × Val
generated number count = let made = items_made number count in listed made.all made.values
