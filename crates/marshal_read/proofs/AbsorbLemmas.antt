-- The effect of a single token on a graph under construction.
use Rattle.std.proofs.Common.{ℕ, zero, suc, ◌≡◌, ◌-◌, ◌≤◌, List, [], ◌∷◌, ◌++◌, length, Option, ℤ, arith, ap, sym, subst, append-nil}
use Rattle.base_data.specs.declared.model.value.Val.{Val}
use Rattle.base_data.specs.declared.model.value.Val.TheVariants as vals
use Rattle.base_data.specs.declared.model.value.Obj.{Obj}
use Rattle.marshal_spec.specs.format.Token.{Token, integer, atom, shared, block_or_atom, IsToken}
use Rattle.marshal_read.specs.declared.graph_builder.PendingBlock.{PendingBlock}
use Rattle.marshal_read.specs.Build.{Building, Bounded, building, in_room, fill, fill_in, absorb_in, WellOpen}
use Rattle.marshal_read.proofs.BuildLemmas.{AreOpen-append, WellOpen-fill, WellOpen-absorb}

-- If a token makes no object, then adding the token only stores the token's value.
placed : (s : Bounded) (v : Val) → in_room (fill v (s.built.objects ++ []) s.built.open_blocks s.built.root) s.room ≡ fill_in v s
placed s v = ap (λ all. in_room (fill v all s.built.open_blocks s.built.root) s.room) (append-nil s.built.objects)

pub absorbed_integer : (s : Bounded) (z : ℤ) → absorb_in s (integer z) ≡ fill_in (vals.Int z) s
absorbed_integer s z = placed s (vals.Int z)

pub absorbed_atom : (s : Bounded) (tag : ℕ) → absorb_in s (atom tag) ≡ fill_in (vals.Atom tag) s
absorbed_atom s tag = placed s (vals.Atom tag)

pub absorbed_shared : (s : Bounded) (offset : ℕ) → absorb_in s (shared offset) ≡ fill_in (vals.Ref (length s.built.objects - offset)) s
absorbed_shared s offset = placed s (vals.Ref (length s.built.objects - offset))

-- If more objects are appended, then the open blocks stay open.
pub WellOpen-append : (s : Building) (more : List Obj) → WellOpen s → WellOpen (building (s.objects ++ more) s.open_blocks s.root)
WellOpen-append s more h = record { are_open = AreOpen-append s.objects more s.open_blocks h.are_open; rooted = h.rooted }

pub well_added : (heap new : List Obj) (open_blocks : List PendingBlock) (root : Option Val) (object : Obj) → new ≡ heap ++ object ∷ [] → WellOpen (building heap open_blocks root)
    → WellOpen (building new open_blocks root)
well_added heap new open_blocks root object e h =
    subst (λ (all : List Obj). WellOpen (building all open_blocks root)) (sym e) (WellOpen-append (building heap open_blocks root) (object ∷ []) h)

-- If a value is stored, then the open blocks stay open.
pub well_filled : (v : Val) (all : List Obj) (open_blocks same : List PendingBlock) (root : Option Val) (new : Building) → WellOpen (building all open_blocks root) → same ≡ open_blocks
    → new ≡ fill v all same root → WellOpen new
well_filled v all open_blocks same root new h s e =
    subst WellOpen (sym e) (subst (λ (blocks : List PendingBlock). WellOpen (fill v all blocks root)) (sym s) (WellOpen-fill v all open_blocks root h))

-- If a token is added, then the open blocks stay open.
pub well_absorbed : (inside old new : Bounded) (t : Token) → inside ≡ old → WellOpen inside.built → IsToken t → new ≡ absorb_in old t → WellOpen new.built
well_absorbed inside old new t v h k e =
    subst (λ (s : Bounded). WellOpen s.built) (sym e) (WellOpen-absorb old.built t k (subst (λ (s : Bounded). WellOpen s.built) v h))

-- A block or an atom is a token.
pub block_is_token : (tag size : ℕ) → tag ≤ 243 → IsToken (block_or_atom tag size)
block_is_token tag zero h = h
block_is_token tag (suc n) h = (h, omega arith)
