use Rattle.std.proofs.Common.{ap, arith, ◌∙◌, ◌++◌, ◌∷◌, [], List, ◌<◌, length}
use Rattle.types_resolve.specs.occurrences.Facts.{facts_of}
use Rattle.types_resolve.specs.declared.occurrences.fact.Facts.{Facts}
use Rattle.types_resolve.proofs.occurrences.FactLemmas.{facts_more}
use Rattle.types_resolve.proofs.occurrences.fact.all_facts.Goals as goal

pub loop-i-preserved : goal.loop-i-preserved
loop-i-preserved c =
    let small : length c.args.nodes.now < 18446744073709551616 = omega arith in
    facts_more c.args.nodes.now c.loop-i.i c.index-nodes-i.result c.loop-i.facts.items c.push.new.self.items small
    c.requires (omega arith) c.index-nodes-i.is c.loop-i.invariant
    (c.in_ok-push.ensures.items ∙ ap (λ f. c.loop-i.facts.items ++ f ∷ [])
    (c.facts_of-next.ensures ∙ ap (λ (fs : List Facts). facts_of fs c.index-nodes-i.result) c.as_slice.ensures.value))
