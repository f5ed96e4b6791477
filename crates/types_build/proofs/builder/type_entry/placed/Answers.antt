use Rattle.types_build.proofs.builder.type_entry.placed.Goals as goal

pub returns : goal.returns
returns c decls named = record {
  middle = c.placed_shape.new.met.keys;
  shape = c.in_ok-shape.ensures;
  head = c.in_ok-head.ensures;
  names = named;
}
