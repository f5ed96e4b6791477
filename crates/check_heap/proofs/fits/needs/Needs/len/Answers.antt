use Rattle.std.proofs.Common.{◌∙◌, length, sym, ap}
use Rattle.check_heap.specs.fits.Needs.{needs_in}
use Rattle.check_heap.proofs.fits.FitsNeedLemmas.{length-numbered, length-each}
use Rattle.check_heap.proofs.fits.needs.Needs.len.Goals as goal

pub returns-in-Listed : goal.returns-in-Listed
returns-in-Listed c = sym (ap (λ n. length (needs_in n)) c.in-Listed.is ∙ length-numbered 0 c.in-Listed.types.now)

pub returns-in-Each : goal.returns-in-Each
returns-in-Each c = sym (ap (λ n. length (needs_in n)) c.in-Each.is ∙ length-each c.in-Each.size c.in-Each.field-1)
