use Rattle.text_print.proofs.print.PrintWalkLemmas.{field_word_at}
use Rattle.text_print.proofs.print.print_walk.value_at.Goals as goal

pub value_of-requires : goal.value_of-requires
value_of-requires c = field_word_at c.args.heap.now c.args.fields.now c.args.i c.requires.valid c.requires.inside
