use Rattle.std.proofs.Common.{◌≤◌, ◌-◌, length}
use Rattle.types_build.specs.builder.Listed.{AreWithin, IsListingOf}
use Rattle.types_build.proofs.builder.reached_types.listed_by.Given as goal

abbrev pub invariant-loop-alloc : goal.invariant-loop-alloc
invariant-loop-alloc l = record {
  within : AreWithin l.listing.types l.listing.met.keys;
  listed : IsListingOf l.decls l.ty l.listing;
  few : length l.listing.met.keys ≤ 65536;
}

abbrev pub decreases-loop-alloc : goal.decreases-loop-alloc
decreases-loop-alloc l = 65536 - length l.listing.nodes.items
