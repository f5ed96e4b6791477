use Rattle.std.proofs.Common.{false}
use Rattle.types_build.proofs.representation.RepresentationFoundLemmas.{found_kept}
use Rattle.types_build.proofs.representation.remembered_heads.item_head.Goals as goal

pub keep-requires-clause-heads : goal.keep-requires-clause-heads
keep-requires-clause-heads c =
    let heads = c.args.heads.now in
    record {
      found = found_kept c.args.decls.now c.args.types.now false heads.met.keys heads.heads.items c.head_with.new.types
          c.in_ok-head.ensures.grown c.requires.heads.found;
      each = c.requires.heads.each;
    }
