-- A graph under construction from tokens that arrive one at a time, in preorder: the state of the
-- reader, and the effect of a token. `intern.c` fills blocks in this order, with its own stack.
use Rattle.std.specs.Prelude.{ℕ, ◌+◌, ◌-◌, ◌<◌, ◌≤◌, ◌≡◌, ◌==◌, if◌then◌else◌, List, [], ◌∷◌, ◌++◌}
use Rattle.std.specs.Prelude.{length, reverse, fold, sum_by, replicate, HoldsAt, All, Option, Some}
use Rattle.std.specs.Prelude.{None, pos}
use Rattle.base_data.specs.declared.model.value.Val.{Val}
use Rattle.base_data.specs.declared.model.value.Val.TheVariants as vals
use Rattle.base_data.specs.declared.model.value.Obj.{Obj}
use Rattle.base_data.specs.declared.model.value.Obj.TheVariants as objects
use Rattle.base_data.specs.declared.model.code.Measure.{Measure}
use Rattle.marshal_spec.specs.format.Words.{of_object, fields, words64}
use Rattle.marshal_spec.specs.format.Token.{Token, integer, atom, shared, block, leaf, measure_of}
use Rattle.marshal_spec.specs.format.Tree.{value_of, object_of}
use Rattle.marshal_heap.specs.heap.Heap.{set_field, heap_words, word_of}
use Rattle.marshal_read.specs.declared.graph_builder.PendingBlock.{PendingBlock}

-- ---- the graph under construction

-- The graph under construction: the objects so far, the open blocks (innermost first), and the root
-- once the root is read.
pub record Building : Type 0 where
  pub objects : List Obj
  pub open_blocks : List PendingBlock
  pub root : Option Val

-- The record of the objects, the open blocks and the root.
abbrev pub building : List Obj → List PendingBlock → Option Val → Building
building all open_blocks root = record { objects = all; open_blocks = open_blocks; root = root }

-- The graph under construction before any token: no objects, no open blocks and no root.
abbrev pub start : Building
start = building [] [] None

-- ---- a value is stored

-- The open blocks after a change of the innermost block `b`: if `b` is full, then `b` is no longer
-- open.
abbrev pub still_open : PendingBlock → List PendingBlock → List PendingBlock
still_open b outer = if b.next == b.size then outer else b ∷ outer

-- The open blocks, innermost first: `inner` if `inner` is not full, followed by the blocks of
-- `outer`, the last block first.
abbrev pub stack : PendingBlock → List PendingBlock → List PendingBlock
stack inner outer = still_open inner (reverse outer)

-- The open block `b` after `n` more of its fields are read.
abbrev pub advanced : PendingBlock → ℕ → PendingBlock
advanced b n = record b { next = b.next + n }

-- Stores a value as the root, or as the next field of the innermost open block.
abbrev pub fill : Val → List Obj → List PendingBlock → Option Val → Building
fill v all [] root = building all [] (Some v)
fill v all (b ∷ outer) root =
    building (set_field all b.object b.next v) (still_open (advanced b 1) outer) root

-- ---- a token is added

-- The initial fields of a block, before their values are read.
abbrev pub blank_fields : Token → List Val
blank_fields token = replicate (of_object fields (measure_of token)) (vals.Int (pos 0))

-- The object that the token makes, with the initial fields, as a list of at most one object.
abbrev pub blank : Token → List Obj
blank token = object_of token (blank_fields token)

-- The block that the token opens, as a list of at most one block. The block becomes object `c`, and
-- the word `at` refers to the block.
abbrev pub opened : Token → ℕ → ℕ → List PendingBlock
opened (integer z) c at = []
opened (atom tag) c at = []
opened (shared offset) c at = []
opened (block tag size) c at = record { object = c; next = 0; size = size; at = at } ∷ []
opened (leaf object) c at = []

-- Adds a token: appends the token's object, stores the token's value, and makes the block that the
-- token opens the innermost block.
abbrev pub absorb : Building → Token → Building
absorb state token =
    let c = length state.objects in
    let all = state.objects ++ blank token in
    let filled = fill (value_of token c) all state.open_blocks state.root in
    record filled { open_blocks = opened token c (word_of all (vals.Ref c)) ++ filled.open_blocks }

-- Adds the tokens one after another.
abbrev pub absorb_all : Building → List Token → Building
absorb_all state tokens = fold absorb state tokens

-- ---- properties of the state

-- The pending values are the root until the root is read, and the fields of the open blocks that
-- are not read.

-- The number of pending roots: 1 until the root is read, and 0 after the root is read.
abbrev pub root_to_come : Option Val → ℕ
root_to_come None = 1
root_to_come (Some v) = 0

-- The number of pending fields of the open blocks.
abbrev pub fields_to_come : List PendingBlock → ℕ
fields_to_come blocks = sum_by (λ b. b.size - b.next) blocks

-- The number of pending values: the root and the fields of the open blocks.
abbrev pub to_come : Building → ℕ
to_come state = root_to_come state.root + fields_to_come state.open_blocks

-- The object is a block with `size` fields.
abbrev pub HasSize : ℕ → Obj → Type 0
HasSize size (objects.Block tag values) = length values ≡ size
HasSize size (objects.Bytes bytes) = ⊥
HasSize size (objects.Double bits) = ⊥
HasSize size (objects.Doubles all) = ⊥
HasSize size (objects.I32 z) = ⊥
HasSize size (objects.I64 z) = ⊥
HasSize size (objects.Native z) = ⊥

-- The object of an open block is a block of the stated size. The next field is one of the block's
-- fields. The word of the open block refers to the object.
pub record IsOpenIn (all : List Obj) (b : PendingBlock) : Type 0 where
  pub object : b.object < length all
  pub next : b.next < b.size
  pub size : HoldsAt (HasSize b.size) all b.object
  pub at : b.at ≡ word_of all (vals.Ref b.object)

-- All blocks of the list are open. Each block's object comes after the objects of the enclosing
-- blocks.
abbrev pub AreOpen : List Obj → List PendingBlock → Type 0
AreOpen all [] = Unit {0}
AreOpen all (b ∷ outer) = IsOpenIn all b × All (λ o. o.object < b.object) outer × AreOpen all outer

-- The open blocks of the state are open in its objects, and the root is read before any block is
-- open.
pub record WellOpen (state : Building) : Type 0 where
  pub are_open : AreOpen state.objects state.open_blocks
  pub rooted : state.root ≡ None → state.open_blocks ≡ []

-- ---- the maximum size

-- The graph under construction, and the maximum number of 64-bit words of the graph's objects.
pub record Bounded : Type 0 where
  pub built : Building
  pub room : ℕ

-- The record of the graph under construction and the maximum number of words.
abbrev pub in_room : Building → ℕ → Bounded
in_room built room = record { built = built; room = room }

-- The state before any token, with `room` as the maximum number of words.
abbrev pub empty : ℕ → Bounded
empty room = in_room start room

-- Stores the value `v` in the graph under construction. The maximum number of words stays.
abbrev pub fill_in : Val → Bounded → Bounded
fill_in v state =
    in_room (fill v state.built.objects state.built.open_blocks state.built.root) state.room

-- The invariant of a builder: the objects' words are within the maximum, and the open blocks are
-- open.
pub record IsBuilt (state : Bounded) : Type 0 where
  pub within : heap_words state.built.objects ≤ state.room
  pub well : WellOpen state.built

-- Adds a token to the graph under construction. The maximum number of words stays.
abbrev pub absorb_in : Bounded → Token → Bounded
absorb_in state token = in_room (absorb state.built token) state.room

-- The objects' words, with the words of one more object of this measure if there is one, are within
-- the maximum.
abbrev pub Fits : Bounded → Option Measure → Type 0
Fits state measure = heap_words state.built.objects + of_object words64 measure ≤ state.room
