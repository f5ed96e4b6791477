use Rattle.std.proofs.Common.{◌≡◌, take, false, get_or}
use Rattle.std.specs.List.{filter}
use Rattle.text_print.proofs.print.labels.objects_again.Given as goal

abbrev pub invariant-loop-o : goal.invariant-loop-o
invariant-loop-o l = l.objects.items ≡ filter (λ o. get_or l.again o false) (take l.o-index l.order)
