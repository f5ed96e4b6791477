use Rattle.std.proofs.Common.{Some, ◌≡◌, subst, arith}
use Rattle.std.specs.Prelude.{slice_get}
use Rattle.base_data.proofs.model.Options.{slice_get-Contains}
use Rattle.cert_verify.proofs.certificate.right.pair_at.Goals as goal

pub word-requires : goal.word-requires
word-requires c = (c.args.stated.there c.position_or_last-position.result _ c.at-object.ensures).0

pub returns : goal.returns
returns c =
    let pair = c.at-object.result in
    record {
      at = λ less. subst (λ n. slice_get c.args.stated.pairs.now n ≡ Some (pair.0, pair.1))
          (c.position_or_last-position.ensures.own (omega (arith, less, c.len.ensures.count))) c.at-object.ensures;
      among = slice_get-Contains c.args.stated.pairs.now c.position_or_last-position.result (pair.0, pair.1) c.at-object.ensures;
      named = c.word.ensures;
    }
