use Rattle.std.proofs.Common.{ℕ, ◌≡◌, ◌≤◌, List, [], sym, subst}
use Rattle.std.specs.Prelude.{All, Any, MatchOption}
use Rattle.text_path.specs.LineOrder.{ScriptLines, IsByValue, positions_of}
use Rattle.text_path.specs.Uses.{IsUnused, IsLastUse}
use Rattle.text_path.proofs.UseLemmas.{last_is}
use Rattle.text_path.proofs.edits.Script.last_use.Goals as goal

pub last_use-requires : goal.last_use-requires
last_use-requires c = subst IsByValue (sym c.as_slice.ensures.value) c.self.invariant.1.by_other

pub returns : goal.returns
returns c =
    let number = c.args.number in
    let result = c.last_use.result in
    let of_uses = λ (uses : List (ℕ × ℕ)). MatchOption result (positions_of number uses ≡ [])
    (λ last. Any (λ used. used.1 ≡ last) (positions_of number uses) × All (λ used. used.1 ≤ last) (positions_of number uses)) in
    subst (λ (s : ScriptLines). MatchOption result (IsUnused s.lines number) (IsLastUse s.lines number)) c.self.view_is
    (last_is c.self.inside.lines c.self.inside.uses.items c.self.invariant.1 number result (subst of_uses c.as_slice.ensures.value c.last_use.ensures))
