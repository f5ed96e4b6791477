-- No encoding of a token is a proper prefix of another encoding of a token, and each encoding
-- encodes one token.
use Rattle.std.proofs.Common.{◌≡◌, [], ◌++◌, sym, ◌∙◌, subst, append-nil}
use Rattle.std.proofs.lemmas.List.{append_cancel_left}
use Rattle.marshal_spec.specs.format.Token.{Encodes}
use Rattle.marshal_spec.specs.format.Laws.{NoEncodingBeginsAnother, EncodesOneToken}
use Rattle.marshal_spec.proofs.format.RawLemmas.{IsRaw-same}
use Rattle.marshal_spec.proofs.format.EncodeLemmas.{IsRaw-encoded, Encodes-same}

pub no_encoding_begins_another_lem : NoEncodingBeginsAnother
no_encoding_begins_another_lem t u xs ys p q =
    let whole = xs ++ ys in
    let same : xs ≡ whole = IsRaw-same xs whole ys [] (IsRaw-encoded t xs p) (IsRaw-encoded u whole q) (sym (append-nil whole)) in
    (append_cancel_left xs ys [] (sym same ∙ sym (append-nil xs)), Encodes-same t u xs p (subst (λ v. Encodes u v) (sym same) q))

pub one_token_lem : EncodesOneToken
one_token_lem t u bytes p q = Encodes-same t u bytes p q
