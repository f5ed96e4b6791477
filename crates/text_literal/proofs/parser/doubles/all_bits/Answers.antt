use Rattle.std.proofs.Common.{◌≡◌, ◌+◌, ◌-◌, ◌∙◌, sym, ap, arith, List, [], ℕ, Some, take, drop}
use Rattle.types_parse.specs.grammar.LexemeKinds.{kinds_of}
use Rattle.text_literal.specs.parser.Bits.{bits_of_nodes}
use Rattle.text_literal.proofs.parser.BitsLemmas.{none_here, one_here, none_left}
use Rattle.text_literal.proofs.parser.doubles.all_bits.Goals as goal

pub loop-k-init : goal.loop-k-init
loop-k-init c =
    let none : c.args.many - 0 ≡ c.args.many = omega arith in
    let here : c.args.from + 0 ≡ c.args.from = omega arith in
    ap (λ (own : List ℕ). bits_of_nodes (kinds_of c.args.lexemes.now) (Some own) (take (c.args.many - 0) (drop (c.args.from + 0) c.args.nodes.now))) c.new-all.ensures.items
    ∙ ap (λ m. bits_of_nodes (kinds_of c.args.lexemes.now) (Some []) (take m (drop (c.args.from + 0) c.args.nodes.now))) none
    ∙ ap (λ i. bits_of_nodes (kinds_of c.args.lexemes.now) (Some []) (take c.args.many (drop i c.args.nodes.now))) here

pub returns-in_default : goal.returns-in_default
returns-in_default c =
    none_here (kinds_of c.args.lexemes.now) c.args.nodes.now c.args.from c.args.many c.loop-k.k c.get-node.result c.loop-k.all.items _ c.loop-k-test.true
    c.get-node.ensures (sym c.in_ok-bits.ensures ∙ c.in_default.is) c.loop-k.invariant

pub loop-k-preserved : goal.loop-k-preserved
loop-k-preserved c =
    one_here (kinds_of c.args.lexemes.now) c.args.nodes.now c.args.from c.args.many c.loop-k.k c.in-Some.bits c.get-node.result c.loop-k.all.items _ _ c.loop-k-test.true
    c.get-node.ensures (sym c.in_ok-bits.ensures ∙ c.in-Some.is) c.in_ok-push.ensures.items c.loop-k.invariant

pub returns : goal.returns
returns c = none_left (kinds_of c.args.lexemes.now) c.args.nodes.now c.args.from c.args.many c.loop-k.k c.loop-k.all.items _ (omega (arith, c.loop-k-test.false)) c.loop-k.invariant
