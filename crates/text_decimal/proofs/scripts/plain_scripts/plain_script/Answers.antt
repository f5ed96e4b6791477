use Rattle.std.proofs.Common.{take, drop, length, ◌-◌, refl}
use Rattle.std.proofs.lemmas.List.{take_rest}
use Rattle.text_decimal.proofs.scripts.DecimalScriptPlainLemmas.{ended, going, shorter}
use Rattle.text_decimal.proofs.scripts.plain_scripts.plain_script.Goals as goal

pub returns-then-len-rest : goal.returns-then-len-rest
returns-then-len-rest c =
    let text = c.args.text.now in
    let at = c.loop-plain.at in
    ended text at c.loop-plain.plain c.loop-plain.invariant (take (length text - at) (drop at text)) (take_rest text at)
    c.line_len-len.result c.line_len-len.ensures c.write_line.new.plain c.in_ok-write_line.ensures c.if-len-rest.true

pub loop-plain-preserved : goal.loop-plain-preserved
loop-plain-preserved c =
    let text = c.args.text.now in
    let at = c.loop-plain.at in
    let rest = take (length text - at) (drop at text) in
    going text at c.loop-plain.plain c.loop-plain.invariant rest (take_rest text at)
    c.line_len-len.result c.line_len-len.ensures c.write_line.new.plain c.in_ok-write_line.ensures
    (shorter rest c.line_len-len.result c.line_len-len.ensures c.if-len-rest.false)
    (record { text = c.push.new.self; decimals = c.write_line.new.plain.decimals }) c.in_ok-push.ensures.items refl
