use Rattle.std.proofs.Common.{◌≡◌, ◌≢◌, Some, ap, position, sym, ◌∙◌, rules, arith}
use Rattle.base_io.proofs.Lookup.{is_named, apart_more, first_of_its_name, apart_at_all}
use Rattle.base_io.proofs.memory.MemFiles.have_no_name_twice.Goals as goal

pub loop-i-preserved : goal.loop-i-preserved
loop-i-preserved c =
    let pairs = c.args.pairs.now in
    let pair = c.index-pairs-i.result in
    let index : c.index_of.result ≡ Some c.loop-i.i = search rules in
    let first = ap (λ name. position (is_named name) pairs) (sym c.as_str.ensures.value) ∙ sym c.index_of.ensures ∙ index in
    apart_more pairs c.loop-i.i pair (omega arith) c.index-pairs-i.is first c.loop-i.invariant

pub returns-then-ne : goal.returns-then-ne
returns-then-ne c =
    let pairs = c.args.pairs.now in
    let pair = c.index-pairs-i.result in
    let other : c.index_of.result ≢ Some c.loop-i.i = search rules in (
      λ no. cc,
      λ apart.
          let first = first_of_its_name pairs c.loop-i.i pair (omega arith) c.index-pairs-i.is apart in
          absurd (other (c.index_of.ensures ∙ ap (λ name. position (is_named name) pairs) c.as_str.ensures.value ∙ first)),
    )

pub returns : goal.returns
returns c = (λ _. apart_at_all c.args.pairs.now c.loop-i.i (omega arith) c.loop-i.invariant, λ _. search rules)
