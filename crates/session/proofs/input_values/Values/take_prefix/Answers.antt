use Rattle.session.specs.InputValues.{word_limit}
use Rattle.session.proofs.ProgressLemmas.{prefix_taken}
use Rattle.session.proofs.input_values.Values.take_prefix.Goals as goal

pub returns-else-fed : goal.returns-else-fed
returns-else-fed c = λ w taken output h may.
    prefix_taken w taken output c.args.self.now h c.args.prefix.now c.feed.new.self c.in-Ok.fed (c.in-Ok.ensures.feeds (word_limit w) h.prefix h.leads) may c.if-fed.false
