use Rattle.std.proofs.Common.{[]}
use Rattle.cmd_gen.proofs.command.GenTypeLemmas.{item_type_given}
use Rattle.cmd_gen.proofs.command.item_types.find_item_type.Goals as goal

pub returns : goal.returns
returns c =
    item_type_given [] c.args.type_text.now c.in-Ok.bytes.items c.in-Ok.ensures
    c.read_gathered.result (c.read_gathered.ensures [])
