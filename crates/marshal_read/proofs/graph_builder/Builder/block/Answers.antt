use Rattle.std.proofs.Common.{rules, ◌≡◌, ◌<◌}
use Rattle.marshal_spec.specs.format.Token.{block_or_atom}
use Rattle.marshal_read.specs.Build.{building, stack, in_room, absorb_in}
use Rattle.marshal_read.proofs.AbsorbLemmas.{well_added, well_absorbed, block_is_token}
use Rattle.marshal_read.proofs.ReaderRoomLemmas.{within_block}
use Rattle.marshal_read.proofs.graph_builder.Builder.block.Goals as goal

pub invariant_of-self-2 : goal.invariant_of-self-2
invariant_of-self-2 c =
    let some : 0 < c.args.size = search rules in
    record {
      within = within_block _ _ c.args.tag c.args.size _ _ _ _ c.self.view_is c.in_ok-object.ensures.1 some c.requires.fits;
      well = well_added _ _ _ _ _ c.in_ok-object.ensures.1 c.self.invariant.well;
    }

pub invariant_of-self-3 : goal.invariant_of-self-3
invariant_of-self-3 c =
    let e : in_room (building c.self-2.inside.heap (stack c.open_block.new.inner c.open_block.new.outer.items) c.self-2.inside.root) c.self-2.inside.room ≡ absorb_in c.args.self.now (block_or_atom c.args.tag c.args.size) = search rules in
    record {
      within = c.self-2.invariant.within;
      well = well_absorbed _ c.args.self.now _ (block_or_atom c.args.tag c.args.size) c.self.view_is c.self.invariant.well (block_is_token c.args.tag c.args.size c.requires.range) e;
    }
