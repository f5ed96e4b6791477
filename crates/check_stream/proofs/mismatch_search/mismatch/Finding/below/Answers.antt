use Rattle.std.proofs.Common.{rules, ◌<◌, ◌≤◌, length}
use Rattle.check_stream.proofs.checker.Weaker.{taken_weaker}
use Rattle.check_stream.proofs.mismatch_search.ComesLemmas.{comes_below_back, comes_below_other, no_back_summary}
use Rattle.check_stream.proofs.mismatch_search.mismatch.Finding.below.Goals as goal

pub returns-in-Shared : goal.returns-in-Shared
returns-in-Shared c = λ table prefix.
    let some : 0 < c.args.stated = search rules in
    let first : 1 ≤ c.in-Shared.offset = search rules in
    let few : c.in-Shared.offset ≤ length c.args.self.now.types.items = search rules in
    comes_below_back table c.args.stated prefix c.args.self.now c.args.summary c.in-Shared.offset c.in-Shared.is some first few

pub returns : goal.returns
returns c =
    taken_weaker c.add.result
    (λ adds table prefix. comes_below_other table c.args.stated prefix c.args.self.now c.add.new.self c.args.summary c.unasked.result (no_back_summary c.args.summary c.in_default.not-Shared) c.unasked.ensures.fields adds)
    c.add.ensures
