use Rattle.std.proofs.Common.{rules, ◌≡◌, ◌∙◌, ◌-◌, ◌%◌, ◌≤◌, take, length, Some, None, ap, sym, subst}
use Rattle.std.proofs.lemmas.Int.{to_z-of_z}
use Rattle.std.specs.Int.{w64}
use Rattle.base_data.specs.model.Bytes.{number}
use Rattle.base_data.proofs.model.Numbers.{are_bytes}
use Rattle.marshal_spec.specs.format.Token.{block_or_atom, word_token}
use Rattle.marshal_codec.specs.declared.token.summary.Summary.TheVariants as summaries
use Rattle.marshal_codec.specs.token.Summary.{IsSummary, IsSummaryAfter, HasFewFields}
use Rattle.marshal_codec.specs.token.TokenFault.{integer_fault, word_fault, count_fault, chunk_fault}
use Rattle.marshal_codec.proofs.token.ResultLemmas.{result_weaker}
use Rattle.marshal_codec.proofs.token.SummaryLemmas.{small_block, small_string, int, back, word, str, double, doubles, custom}
use Rattle.marshal_codec.proofs.token.token_step.chunk_summary.Goals as goal

pub returns-in-SmallBlock : goal.returns-in-SmallBlock
returns-in-SmallBlock c =
    let own = subst (λ n. IsSummary c.block_summary.result (block_or_atom c.in-SmallBlock.tag n)) c.from.ensures c.block_summary.ensures.summary in
    (small_block c.args.kind.kind c.args.chunk.now c.args.kind.known (are_bytes c.args.chunk.now c.type_inv.chunk) c.requires c.in-SmallBlock.tag c.in-SmallBlock.size c.block_summary.result c.in-SmallBlock.is own, c.block_summary.ensures.few)

pub returns-in-SmallString : goal.returns-in-SmallString
returns-in-SmallString c =
    let same : c.from-in-SmallString.result ≡ c.in-SmallString.len = c.from-in-SmallString.ensures in
    let own = small_string c.args.kind.kind c.args.chunk.now c.args.kind.known (are_bytes c.args.chunk.now c.type_inv.chunk) c.requires c.in-SmallString.len c.in-SmallString.is in
    (subst (λ n. IsSummaryAfter c.args.kind.kind c.args.chunk.now (summaries.Bytes n)) (sym same) own, tt)

pub returns-in-Int : goal.returns-in-Int
returns-in-Int c =
    let same = to_z-of_z w64 c.signed_of.result (search rules) ∙ c.signed_of.ensures in
    let fault = ap (λ k. chunk_fault k c.args.chunk.now) c.in-Int.is in
    result_weaker c.integer_summary.result
    (λ summary own. (
      int c.args.kind.kind c.args.chunk.now c.args.kind.known (are_bytes c.args.chunk.now c.type_inv.chunk) c.requires c.in-Int.width summary c.in-Int.is
          (subst (λ z. integer_fault c.in-Int.width z ≡ None) same own.0) (own.1 ∙ ap (λ z. summaries.Integer z) same),
      subst HasFewFields (sym own.1) tt,
    ))
    (λ f own. fault ∙ subst (λ z. integer_fault c.in-Int.width z ≡ Some f) same own)
    c.integer_summary.ensures

pub returns-in-Shared : goal.returns-in-Shared
returns-in-Shared c =
    let own = back c.args.kind.kind c.args.chunk.now c.args.kind.known (are_bytes c.args.chunk.now c.type_inv.chunk) c.requires c.in-Shared.field-0 c.in-Shared.is in
    (subst (λ n. IsSummaryAfter c.args.kind.kind c.args.chunk.now (summaries.Shared n)) (sym c.number_of.ensures) own, tt)

pub returns-in-Block : goal.returns-in-Block
returns-in-Block c =
    let same : c.number_of-in-Block.result ≡ number c.args.chunk.now = c.number_of-in-Block.ensures in
    let fault = ap (λ k. chunk_fault k c.args.chunk.now) c.in-Block.is in
    result_weaker c.word_summary.result
    (λ summary own. (
      word c.args.kind.kind c.args.chunk.now c.args.kind.known (are_bytes c.args.chunk.now c.type_inv.chunk) c.requires c.in-Block.field-0 summary c.in-Block.is
          (subst (λ n. n % 256 ≤ 243) same own.0) (subst (λ n. IsSummary summary (word_token n)) same own.1),
      own.2,
    ))
    (λ f own. fault ∙ subst (λ n. word_fault n ≡ Some f) same own)
    c.word_summary.ensures

pub returns-in-Str : goal.returns-in-Str
returns-in-Str c =
    let width : c.from-in-Str.result ≡ c.in-Str.width = search rules in (
      str c.args.kind.kind c.args.chunk.now c.args.kind.known (are_bytes c.args.chunk.now c.type_inv.chunk) c.requires c.in-Str.width (length c.args.chunk.now - c.from-in-Str.result) c.in-Str.is (ap (λ n. length c.args.chunk.now - n) width),
      tt,
    )

pub returns-in-Double : goal.returns-in-Double
returns-in-Double c = (double c.args.kind.kind c.args.chunk.now c.args.kind.known (are_bytes c.args.chunk.now c.type_inv.chunk) c.requires c.in-Double.field-0 c.in-Double.is, tt)

pub returns-in-Doubles : goal.returns-in-Doubles
returns-in-Doubles c =
    let many : number (take c.in-Doubles.width c.args.chunk.now) ≡ c.number_of-in-Doubles.result =
    ap (λ n. number (take n c.args.chunk.now)) (sym c.from-in-Doubles.ensures) ∙ sym c.number_of-in-Doubles.ensures in
    let fault = ap (λ k. chunk_fault k c.args.chunk.now) c.in-Doubles.is in
    result_weaker c.doubles_summary.result
    (λ summary own. (doubles c.args.kind.kind c.args.chunk.now c.args.kind.known (are_bytes c.args.chunk.now c.type_inv.chunk) c.requires c.in-Doubles.width c.number_of-in-Doubles.result c.in-Doubles.field-1 summary c.in-Doubles.is many own.0 own.1, subst HasFewFields (sym own.1) tt))
    (λ f own. fault ∙ subst (λ n. count_fault n ≡ Some f) (sym many) own)
    c.doubles_summary.ensures

pub returns-in-Custom : goal.returns-in-Custom
returns-in-Custom c =
    let fault = ap (λ k. chunk_fault k c.args.chunk.now) c.in-Custom.is in
    result_weaker c.custom_summary.result
    (λ summary own. (custom c.args.kind.kind c.args.chunk.now c.args.kind.known (are_bytes c.args.chunk.now c.type_inv.chunk) c.requires c.in-Custom.field-0 summary own.0 c.in-Custom.is own.1 own.2 own.3, subst HasFewFields (sym own.3) tt))
    (λ f own. fault ∙ own)
    c.custom_summary.ensures
