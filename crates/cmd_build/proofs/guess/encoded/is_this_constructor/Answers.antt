use Rattle.std.proofs.Common.{◌≡◌, ◌∙◌, Some, sym, subst}
use Rattle.std.specs.List.{position}
use Rattle.text_roundtrip.specs.literal_texts.Readable.{IsHead, AreFieldNames}
use Rattle.cmd_build.specs.guess.ReadableNames.{has_name}
use Rattle.cmd_build.proofs.guess.GuessEncodedLemmas.{constructor_found}
use Rattle.cmd_build.proofs.guess.encoded.is_this_constructor.Goals as goal

pub returns-then-are_fields : goal.returns-then-are_fields
returns-then-are_fields c is at =
    constructor_found c.args.names.now c.args.tag c.args.constr.now at
    (subst IsHead c.as_slice.ensures (c.is_head.ensures c.if-is_head.true))
    (subst AreFieldNames c.as_slice-then-is_head.ensures (c.are_fields.ensures c.if-are_fields.true))
    (subst (λ name. position (has_name name) c.args.names.now.constructors ≡ Some c.args.tag) c.as_slice-then-are_fields-2.ensures
    (subst (λ all. position (has_name c.as_slice-then-are_fields-2.result.now) all ≡ Some c.args.tag) c.as_slice-then-are_fields.ensures
    (sym c.constructor_index-found.ensures ∙ c.is_index.ensures is)))
