use Rattle.std.proofs.Common.{rules, ◌≡◌, ◌+◌, ◌<◌, ◌++◌, ◌∷◌, [], length, take, map, ap, sym, subst, subst₂, ◌∙◌}
use Rattle.std.proofs.lemmas.List.{take_more, map-append}
use Rattle.std.specs.List.{AllZip}
use Rattle.marshal_spec.specs.format.Token.{Encodes}
use Rattle.test_oracles.specs.Token.{token_of}
use Rattle.base_data.proofs.model.Lists.{AllZip-push}
use Rattle.test_oracles.proofs.TokenLemmas.{encoded_at}
use Rattle.test_oracles.proofs.token.tokens_encoded.Goals as goal

pub token_encoded-requires : goal.token_encoded-requires
token_encoded-requires c =
    let s = encoded_at c.requires.0 c.args.chunks.now c.loop-chunk.chunk-index c.chunk-item.result c.requires.1 (search rules) in
    let same : c.as_slice.result.now ≡ c.chunk-item.result = search rules in
    (s.0, subst (Encodes s.0) (sym c.chunk-item.is ∙ sym same) s.1)

pub loop-chunk-preserved : goal.loop-chunk-preserved
loop-chunk-preserved c =
    let items : c.push.new.self.items ≡ c.loop-chunk.tokens.items ++ c.in_ok-token_encoded.field-0 ∷ [] = search rules in
    let chunks = c.args.chunks.now in
    let i = c.loop-chunk.chunk-index in
    let chunk = c.chunk-item.result in
    let t = token_of c.in_ok-token_encoded.field-0 in
    let same : c.as_slice.result.now ≡ chunk = search rules in
    let encoded : Encodes t c.as_slice.result.now = search rules in
    let inside : i < length chunks = search rules in
    let more : take (i + 1) chunks ≡ take i chunks ++ chunk ∷ [] =
    take_more chunks i chunk inside ∙ ap (λ p. take i chunks ++ p ∷ []) (sym c.chunk-item.is) in
    let mapped : map token_of c.push.new.self.items ≡ map token_of c.loop-chunk.tokens.items ++ t ∷ [] =
    ap (λ ts. map token_of ts) items ∙ map-append token_of c.loop-chunk.tokens.items (c.in_ok-token_encoded.field-0 ∷ []) in
    subst₂ (AllZip Encodes) (sym mapped) (sym more)
    (AllZip-push Encodes (map token_of c.loop-chunk.tokens.items) (take i chunks) t chunk c.loop-chunk.invariant (subst (Encodes t) same encoded))
