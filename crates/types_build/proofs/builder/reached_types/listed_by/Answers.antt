use Rattle.std.proofs.Common.{◌<◌, length, arith}
use Rattle.std.proofs.lemmas.List.{length-map}
use Rattle.types_spec.specs.types.TypeNodes.{type_at}
use Rattle.types_build.specs.builder.Listed.{met_types}
use Rattle.types_build.proofs.builder.ListingLemmas.{too_many}
use Rattle.types_build.proofs.builder.reached_types.listed_by.Goals as goal

pub loop-alloc-init : goal.loop-alloc-init
loop-alloc-init c = record {
  within = c.in_ok-listing.ensures.within;
  listed = c.in_ok-listing.ensures.is c.args.decls.now;
  few = omega (arith, c.in_ok-listing.ensures.one);
}

pub returns-then-len-gt-MOST-clause-err : goal.returns-then-len-gt-MOST-clause-err
returns-then-len-gt-MOST-clause-err c =
    let listing = c.go_on.new.listing in
    let many : 65536 < length (met_types listing) =
    omega (arith, length-map listing.met.keys (type_at listing.types), c.if-len-gt-MOST.true, c.len-in-loop-alloc-2.ensures.len) in
    too_many c.args.decls.now c.args.ty.now (length listing.nodes.items) (met_types listing) listing.nodes.items listing.heads.items
    listing.names.items (c.in_ok-go_on.ensures.is c.args.ty.now c.loop-alloc.invariant.listed) many

pub loop-alloc-preserved : goal.loop-alloc-preserved
loop-alloc-preserved c = record {
  within = c.in_ok-go_on.ensures.within;
  listed = c.in_ok-go_on.ensures.is c.args.ty.now c.loop-alloc.invariant.listed;
  few = omega (arith, c.if-len-gt-MOST.false, c.len-in-loop-alloc-2.ensures.len);
}

pub go_on-requires-clause-listed : goal.go_on-requires-clause-listed
go_on-requires-clause-listed c = (c.args.ty.now, c.loop-alloc.invariant.listed)
