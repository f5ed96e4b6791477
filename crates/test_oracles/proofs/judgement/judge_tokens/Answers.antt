use Rattle.std.proofs.Common.{rules, arith, map, ◌≡◌, ◌≤◌, ◌<◌, ◌-◌, ◌^◌, ◌++◌, ◌∷◌, [], length, take, drop, None, subst, subst₂, sym, ◌∙◌, ap}
use Rattle.std.specs.List.{concat, AllZip}
use Rattle.marshal_spec.specs.format.Token.{Encodes}
use Rattle.marshal_spec.specs.format.Tree.{tokens}
use Rattle.marshal_spec.proofs.format.EncodeValues.{tokens-same}
use Rattle.test_oracles.specs.Token.{token_of}
use Rattle.marshal_spec.specs.format.Raw.{raw_length}
use Rattle.marshal_spec.specs.format.Header.{header_length}
use Rattle.marshal_spec.specs.format.Prefix.{with_next, context, token_refusal, IsOpen}
use Rattle.base_data.proofs.model.Numbers.{are_bytes}
use Rattle.marshal_spec.proofs.format.FormatStandLemmas.{Stands, BeginsValue, after_next, Stands-header}
use Rattle.test_oracles.specs.Prefix.{IsDecided, refusal_at}
use Rattle.test_oracles.specs.Step.{context_of}
use Rattle.test_oracles.proofs.OraclePrefixLemmas.{token_decided, next_length, next_stands, next_ends}
use Rattle.test_oracles.proofs.judgement.judge_tokens.Goals as goal
use Rattle.test_oracles.proofs.judgement.judge_tokens.Goals.{After-deref-in-next}

pub next-init : goal.next-init
next-init c =
    let bytes = c.args.bytes.now in
    let n = header_length bytes in
    let h = Stands-header c.args.limit bytes c.requires.passes c.requires.whole in
    let len : n ≡ c.header_length-start.result = sym c.header_length-start.ensures.length in
    let prefix : take n bytes ≡ c.first-header.result.now = ap (λ k. take k bytes) len ∙ sym c.first-header.ensures in
    let rest : drop n bytes ≡ c.skip-rest.result.now = ap (λ k. drop k bytes) len ∙ sym c.skip-rest.ensures in
    let none : [] ≡ c.new-tokens.result.items = sym c.new-tokens.ensures.items in
    subst (λ ts. Stands c.args.limit bytes c.first-header.result.now ts c.skip-rest.result.now) none
    (subst₂ (λ xs ys. Stands c.args.limit bytes xs [] ys) prefix rest h)

pub returns-in-Some : goal.returns-in-Some
returns-in-Some c =
    let at : context_of c.in_ok-c.c ≡ context c.first-header.result.now c.next.tokens.items = search rules in
    let decided : IsDecided (refusal_at (context_of c.in_ok-c.c)) c.next.rest.now c.in-Some.decided = search rules in
    token_decided c.args.limit c.args.bytes.now c.first-header.result.now c.next.tokens.items c.next.rest.now c.next.invariant c.in-Some.decided
    (subst (λ x. IsDecided (refusal_at x) c.next.rest.now c.in-Some.decided) at decided)

-- The next token is not refused.
none_of : (c : After-deref-in-next) → token_refusal c.first-header.result.now c.next.tokens.items c.next.rest.now ≡ None
none_of c =
    let at : context_of c.in_ok-c.c ≡ context c.first-header.result.now c.next.tokens.items = search rules in
    let none : refusal_at (context_of c.in_ok-c.c) c.next.rest.now ≡ None = search rules in
    subst (λ x. refusal_at x c.next.rest.now ≡ None) at none

length_of : (c : After-deref-in-next) → c.raw_length-len.result ≡ raw_length c.next.rest.now
length_of c = c.raw_length-len.ensures.bytes

whole_of : (c : After-deref-in-next) → raw_length c.next.rest.now ≤ length c.next.rest.now
whole_of c = let len = length_of c in omega arith

-- The tokens with the next token are the tokens after the call of `push`.
tokens_of : (c : After-deref-in-next) → with_next c.next.tokens.items c.next.rest.now ≡ c.push.new.tokens.items
tokens_of c =
    let e : c.push.new.tokens.items ≡ c.next.tokens.items ++ take c.raw_length-len.result c.next.rest.now ∷ [] = search rules in
    sym (e ∙ ap (λ n. c.next.tokens.items ++ take n c.next.rest.now ∷ []) (length_of c))

rest_of : (c : After-deref-in-next) → after_next c.next.rest.now ≡ c.skip-rest-in-next.result.now
rest_of c =
    let e : c.skip-rest-in-next.result.now ≡ drop c.raw_length-len.result c.next.rest.now = search rules in
    sym (e ∙ ap (λ n. drop n c.next.rest.now) (length_of c))

pub is_open-requires : goal.is_open-requires
is_open-requires c =
    let d = (goal.at.is_open-requires c).After-deref-in-next in
    let len = next_length c.args.limit c.args.bytes.now c.first-header.result.now c.next.tokens.items c.next.rest.now c.next.invariant (none_of d) (whole_of d) in
    let same : length (concat c.deref-in-next.result.now) ≡ length (concat (with_next c.next.tokens.items c.next.rest.now)) =
    ap (λ ts. length (concat ts)) (c.deref-in-next.ensures.value ∙ sym (tokens_of d)) in
    let short : length c.args.bytes.now < 2 ^ 64 = search rules in
    omega arith

-- If no value is pending after the next token, then the tokens are those of a value.
value_of : (c : After-deref-in-next) → (IsOpen c.push.new.tokens.items → ⊥)
    → BeginsValue c.args.limit c.args.bytes.now (length c.args.bytes.now - length c.skip-rest-in-next.result.now) c.push.new.tokens.items
value_of c closed =
    subst₂ (λ xs ts. BeginsValue c.args.limit c.args.bytes.now (length c.args.bytes.now - length xs) ts) (rest_of c) (tokens_of c)
    (next_ends c.args.limit c.args.bytes.now c.first-header.result.now c.next.tokens.items c.next.rest.now c.next.invariant (none_of c) (whole_of c)
    (are_bytes c.args.bytes.now c.type_inv.bytes) (λ o. closed (subst IsOpen (tokens_of c) o)))

pub tokens_encoded-requires : goal.tokens_encoded-requires
tokens_encoded-requires c =
    let v = value_of (goal.at.tokens_encoded-requires c).After-deref-in-next (search rules) in
    (tokens v.tree, subst (AllZip Encodes (tokens v.tree)) (sym c.deref-then-not-branch.ensures.value) v.encodes)

pub returns-then-not-branch : goal.returns-then-not-branch
returns-then-not-branch c =
    let v = value_of (goal.at.returns-then-not-branch c).After-deref-in-next (search rules) in
    let all = map token_of c.in_ok-tokens_encoded.field-0.items in
    let encoded : AllZip Encodes all c.deref-then-not-branch.result.now = search rules in
    let chunks = c.push.new.tokens.items in
    (v.tree, v.judges, tokens-same all (tokens v.tree) chunks (subst (AllZip Encodes all) c.deref-then-not-branch.ensures.value encoded) v.encodes)

pub next-preserved : goal.next-preserved
next-preserved c =
    let d = (goal.at.next-preserved c).After-deref-in-next in
    let is_open : IsOpen c.push.new.tokens.items = search rules in
    subst₂ (Stands c.args.limit c.args.bytes.now c.first-header.result.now) (tokens_of d) (rest_of d)
    (next_stands c.args.limit c.args.bytes.now c.first-header.result.now c.next.tokens.items c.next.rest.now c.next.invariant (none_of d) (whole_of d)
    (subst IsOpen (sym (tokens_of d)) is_open))
