use Rattle.std.proofs.Common.{◌≡◌, ◌++◌, take}
use Rattle.std.specs.Prelude.{map}
use Rattle.base_data.specs.model.PathText.{steps_text}
use Rattle.check_stream.specs.declared.mismatch_search.way.Link.{Link}
use Rattle.check_fault.proofs.missed.write_links.Given as goal

-- The text contains the steps of the links that were visited.
abbrev pub invariant-loop-link : goal.invariant-loop-link
invariant-loop-link l =
    l.text.items ≡ l.initial.text.items
    ++ steps_text (map (λ (link : Link). link.field) (take l.link-index l.links))
