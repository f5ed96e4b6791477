use Rattle.std.proofs.Common.{◌≡◌, rules, arith}
use Rattle.std.proofs.lemmas.Grind.{common_steps}
use Rattle.base_data.specs.declared.model.value.Val.TheVariants as vals
use Rattle.types_spec.specs.types.Fitting.{or_none, fields_of}
use Rattle.check_heap.specs.fits.Needs.{needs_in}
use Rattle.text_print.specs.show.TableShapes.{shape_in}
use Rattle.text_print.proofs.print.PrintWalkLemmas.{open_parts, some_fields}
use Rattle.text_print.proofs.print.print_walk.open_block.Goals as goal

pub returns-clause-open : goal.returns-clause-open
returns-clause-open c =
    let table = c.args.table.now in
    let graph = c.args.placed.now.heap.now in
    let needs : needs_in c.needs_or_none.result ≡ or_none (fields_of graph (vals.Ref c.args.placed.now.object) (shape_in table c.args.at)) =
    first_of (search rules, grind (arith, common_steps)) in record {
      inside = c.args.placed.now.there;
      words = c.fields_at.ensures.words c.args.placed.now.object c.args.placed.now.there c.requires.word;
      valid = c.fields_at.ensures.valid;
      parts = open_parts table graph c.args.placed.now.object c.args.at (needs_in c.needs_or_none.result) c.count-count.ensures.heap.is_graph c.args.placed.now.there c.holds.ensures.lawful c.requires.typed needs;
    }

pub fields_at-requires : goal.fields_at-requires
fields_at-requires c =
    (c.args.placed.now.object, c.args.placed.now.there, c.requires.word, some_fields c.args.table.now c.args.placed.now.heap.now c.args.placed.now.object c.args.tag c.count-count.ensures.heap.is_graph c.args.placed.now.there c.requires.block)
