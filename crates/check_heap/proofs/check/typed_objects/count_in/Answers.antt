use Rattle.std.proofs.Common.{◌∙◌, length, sym, ap}
use Rattle.check_heap.specs.check.TypedObjects.{pairs_in}
use Rattle.check_heap.proofs.check.ScannedLemmas.{length_numbered}
use Rattle.check_heap.proofs.check.typed_objects.count_in.Goals as goal

pub returns-in-Scanned : goal.returns-in-Scanned
returns-in-Scanned c =
    c.len-in-Scanned.ensures ∙ sym (ap (λ pairs. length (pairs_in pairs)) c.in-Scanned.is ∙ length_numbered 0 c.in-Scanned.types)

pub returns-in-Settled : goal.returns-in-Settled
returns-in-Settled c = c.len-in-Settled.ensures ∙ sym (ap (λ pairs. length (pairs_in pairs)) c.in-Settled.is)

pub returns-in-Listed : goal.returns-in-Listed
returns-in-Listed c = c.len-in-Listed.ensures ∙ c.in-Listed.pairs.ok.0 ∙ sym (ap (λ pairs. length (pairs_in pairs)) c.in-Listed.is)
