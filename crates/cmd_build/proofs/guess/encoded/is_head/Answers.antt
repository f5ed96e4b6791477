use Rattle.std.proofs.Common.{sym, ◌∙◌}
use Rattle.cmd_build.proofs.guess.GuessEncodedLemmas.{upper_is_head, cons_head_by, empty_head_by}
use Rattle.cmd_build.proofs.guess.encoded.is_head.Goals as goal

pub returns-then-is_upper : goal.returns-then-is_upper
returns-then-is_upper c is = upper_is_head c.args.name.now (c.is_upper.ensures c.if-is_upper.true)

pub returns-then-is_cons : goal.returns-then-is_cons
returns-then-is_cons c is = cons_head_by c.args.name.now (sym c.is_cons.ensures ∙ c.if-is_cons.true)

pub returns : goal.returns
returns c is = empty_head_by c.args.name.now (sym c.is_empty_list.ensures ∙ is)
