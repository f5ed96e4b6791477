use Rattle.std.proofs.Common.{sym, arith, rules}
use Rattle.std.proofs.lemmas.Grind.{common_steps}
use Rattle.std.proofs.lemmas.List.{append-nil}
use Rattle.text_print.proofs.print.PrintLabelLemmas.{no_label, some_label}
use Rattle.text_print.proofs.print.labels.Labels.write_first.Goals as goal

pub returns-then-number-len : goal.returns-then-number-len
returns-then-number-len c =
    rw (no_label c.args.self.now.objects.items c.args.o c.number_of-number.result c.number_of-number.ensures (omega arith)) (sym (append-nil c.args.text.now.items))

pub returns : goal.returns
returns c =
    rw (some_label c.args.self.now.objects.items c.args.o c.number_of-number.result c.number_of-number.ensures (omega arith)) (first_of (search rules, grind (arith, common_steps)))
