use Rattle.std.proofs.Common.{sym, subst}
use Rattle.session.specs.FastCheck.{IsVerdictOn, no_in}
use Rattle.session.proofs.FastCheckLemmas.{no_prefix}
use Rattle.session.proofs.fast_check.write_missed_line.Goals as goal

pub returns : goal.returns
returns c = λ limit n bytes found.
    let r = c.args.requested.now in
    let write = rw c.clear.ensures.items at c.in_ok-write_missed_no.ensures limit n bytes found in
    subst (λ text. IsVerdictOn r limit n bytes (no_in text)) (sym c.in_ok-push.ensures.items) (no_prefix r limit n bytes c.args.found.now found c.write_missed_no.new.text.items write)
