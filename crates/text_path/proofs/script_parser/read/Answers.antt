use Rattle.std.proofs.Common.{rules, ◌≡◌, Err, sym, take, drop, length, length-drop, ◌-◌, ◌<◌, arith, ap, subst, ◌∙◌}
use Rattle.std.proofs.lemmas.List.{take_rest}
use Rattle.std.specs.Prelude.{IfErr}
use Rattle.text_path.specs.ScriptAnswer.{AreEdits, UnlessMemory}
use Rattle.text_path.proofs.PathScriptLemmas.{stops_at, ends_here, goes_on, shorter}
use Rattle.text_path.proofs.script_parser.read.Goals as goal

pub returns-in_err-line-clause-fault : goal.returns-in_err-line-clause-fault
returns-in_err-line-clause-fault c =
    let text = c.args.text.now in
    let l = c.loop-lines in
    let h = stops_at text l.at l.number l.lines l.invariant.continues (take (length text - l.at) (drop l.at text)) (take_rest text l.at)
    c.line_len-len.result c.line_len-len.ensures c.in_err-line.field-0.0 c.in_err-line.ensures.fault in
    let same : c.from_residual.result ≡ Err c.in_err-line.field-0.0 = search rules in
    subst (λ r. IfErr r (UnlessMemory (λ fault. AreEdits 1 text (Err fault)))) (sym same) h

pub returns-then-len-rest-clause-lines : goal.returns-then-len-rest-clause-lines
returns-then-len-rest-clause-lines c =
    let text = c.args.text.now in
    let l = c.loop-lines in
    ends_here text l.at l.number l.lines l.invariant.continues (take (length text - l.at) (drop l.at text)) (take_rest text l.at)
    c.line_len-len.result c.line_len-len.ensures c.in_ok-line.line c.in_ok-line.ensures.line c.add.new.lines c.in_ok-add.ensures c.if-len-rest.true

pub loop-lines-preserved : goal.loop-lines-preserved
loop-lines-preserved c =
    let text = c.args.text.now in
    let l = c.loop-lines in
    let rest = take (length text - l.at) (drop l.at text) in
    let further = shorter text l.at l.number l.lines l.invariant.continues rest (take_rest text l.at)
    c.line_len-len.result c.line_len-len.ensures c.in_ok-line.line c.in_ok-line.ensures.line c.add.new.lines c.in_ok-add.ensures c.if-len-rest.false in
    let within : c.line_len-len.result < length text - l.at = subst (λ n. c.line_len-len.result < n) (ap length (take_rest text l.at) ∙ length-drop l.at text) further in
    record {
      within = omega (arith, within, l.invariant.within);
      counted = omega (arith, l.invariant.counted);
      continues = goes_on text l.at l.number l.lines l.invariant.continues rest (take_rest text l.at)
          c.line_len-len.result c.line_len-len.ensures c.in_ok-line.line c.in_ok-line.ensures.line c.add.new.lines c.in_ok-add.ensures further;
    }
