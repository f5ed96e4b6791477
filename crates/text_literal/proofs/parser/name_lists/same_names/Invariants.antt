use Rattle.std.proofs.Common.{◌≡◌, map, ◌≤◌, length, drop}
use Rattle.text_literal.specs.parser.Starts as starts
use Rattle.text_literal.proofs.parser.name_lists.same_names.Given as goal

-- The two lists of names are equal if and only if their remaining parts are equal.
abbrev pub invariant-loop-i : goal.invariant-loop-i
invariant-loop-i l =
    (l.i ≤ length l.own) × (length l.own ≡ length l.wanted) × (l.i-end ≡ length l.own)
    × (starts.same_names l.own (map (λ name. name.now) l.wanted) ≡ starts.same_names (drop l.i l.own) (drop l.i (map (λ name. name.now) l.wanted)))
