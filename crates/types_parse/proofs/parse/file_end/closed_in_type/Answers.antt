use Rattle.types_parse.specs.parse.TypeCode.{whole_code}
use Rattle.types_parse.proofs.parse.ParserWholeLemmas.{whole_found}
use Rattle.types_parse.proofs.parse.FileEnd.{readable_closed}
use Rattle.types_parse.proofs.parse.file_end.closed_in_type.Goals as goal

pub of-requires : goal.of-requires
of-requires c =
    readable_closed c.args.so_far.nodes.items c.args.so_far.frames c.args.around c.args.phase c.requires
    c.whole.new.so_far.nodes.items
    (whole_found c.in-Ok-true.field-0 c.whole.new.so_far.nodes.items
    (whole_code c.args.so_far.nodes.items c.args.so_far.frames c.args.phase) c.in-Ok-true.ensures
    c.in-Ok-true.field-0-test)
