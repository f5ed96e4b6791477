use Rattle.std.proofs.Common.{rules, arith, ◌≡◌, ◌∷◌, List, [], length, map, get_or, refl, ap, subst, ◌∙◌, vec_len}
use Rattle.marshal_spec.specs.format.Tree.{Tree, IsTree, tokens, root}
use Rattle.test_oracles.specs.declared.token.Token.{Token}
use Rattle.test_oracles.specs.Token.{token_of}
use Rattle.test_oracles.proofs.OracleGraphLemmas.{After, After-values, After-objects}
use Rattle.test_oracles.proofs.build.build.Goals as goal
use Rattle.test_oracles.proofs.build.build.Goals.{In_default}

none_of : (left : List Token) → length left ≡ 0 → left ≡ []
none_of [] e = refl
none_of (t ∷ left) e = absurd (omega arith)

-- At the end of the loop no token is left.
whole : (c : In_default) → After c.args.tokens.items [] c.next.values.items c.next.objects.items
whole c =
    let empty : length c.next.tokens.items ≡ 0 = search rules in
    subst (λ left. After c.args.tokens.items left c.next.values.items c.next.objects.items) (none_of c.next.tokens.items empty) c.next.invariant

values_of : (c : In_default) → (tree : Tree) → IsTree tree → map token_of c.args.tokens.items ≡ tokens tree → c.next.values.items ≡ root tree 0 ∷ []
values_of c tree is e = After-values c.args.tokens.items c.next.values.items c.next.objects.items tree (whole c) is e

pub index-requires : goal.index-requires
index-requires c =
    let e = values_of (goal.at.index-requires c).In_default c.requires.0 c.requires.1 c.requires.2 in
    let one : length c.next.values.items ≡ 1 = ap length e in
    let len : vec_len c.next.values ≡ length c.next.values.items = search rules in
    omega arith

pub returns : goal.returns
returns c = λ tree is e.
    let d = (goal.at.returns c).In_default in
    let found = c.index.ensures ∙ ap (λ values. get_or values 0 c.index.result.now) (values_of d tree is e) in
    (found, After-objects c.args.tokens.items c.next.values.items c.next.objects.items tree (whole d) is e)
