use Rattle.std.proofs.Common.{◌∙◌, ◌++◌, ◌∷◌, [], List, ℕ, Option, sym, ap, append_assoc}
use Rattle.std.specs.Global.{Vec}
use Rattle.std.proofs.lemmas.List.{append-nil}
use Rattle.types_build.specs.representation.Tags.{tags_of_entries}
use Rattle.types_build.proofs.representation.bracket.listed.Goals as goal

pub loop-name-init : goal.loop-name-init
loop-name-init c =
    rw c.in_ok-found.ensures.items (ap tags_of_entries c.into_iter-name-iterator.ensures.into_iter_gives.0)

pub loop-name-preserved : goal.loop-name-preserved
loop-name-preserved c =
    let found = c.loop-name.found.items in
    rw (c.in_ok-push.ensures.items, c.of.ensures)
    (append_assoc found (record { name = c.in-Some.name.items; argument = c.in-Some.argument } ∷ []) (tags_of_entries c.next.new.self)
    ∙ ap (λ (es : List (Vec ℕ × Option ℕ)). found ++ tags_of_entries es) (sym c.in-Some.ensures.steps)
    ∙ c.loop-name.invariant)

pub returns : goal.returns
returns c =
    let found = c.loop-name.found.items in
    sym (append-nil found) ∙ ap (λ (es : List (Vec ℕ × Option ℕ)). found ++ tags_of_entries es) (sym c.in-None.ensures.steps.0)
    ∙ c.loop-name.invariant
