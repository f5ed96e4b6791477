use Rattle.std.proofs.Common.{◌≡◌, ◌+◌, ◌-◌, Some, [], take, drop}
use Rattle.types_parse.specs.grammar.LexemeKinds.{kinds_of}
use Rattle.text_literal.specs.parser.Bits.{bits_of_nodes}
use Rattle.text_literal.proofs.parser.doubles.all_bits.Given as goal

-- The bits so far and the bits of the remaining nodes are the bits of all nodes.
abbrev pub invariant-loop-k : goal.invariant-loop-k
invariant-loop-k l =
    bits_of_nodes (kinds_of l.lexemes) (Some l.all.items) (take (l.many - l.k) (drop (l.from + l.k) l.nodes))
    ≡ bits_of_nodes (kinds_of l.lexemes) (Some []) (take l.many (drop l.from l.nodes))
