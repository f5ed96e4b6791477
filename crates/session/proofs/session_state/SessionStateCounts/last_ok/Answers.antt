use Rattle.std.proofs.Common.{◌≡◌, ◌∙◌, ◌∷◌, ◌++◌, [], true}
use Rattle.session.specs.InputValues.{last_ok}
use Rattle.session.proofs.SessionReadLemmas.{last_ok-snoc}
use Rattle.session.proofs.session_state.SessionStateCounts.last_ok.Goals as goal

pub returns : goal.returns
returns c = λ taken before next h.
    let is : c.args.self.now.values.last ≡ last_ok true (before ++ next ∷ []) = h.read.last in
    is ∙ last_ok-snoc true before next
