-- The output line of a mismatch, from its token.
use Rattle.std.proofs.Common.{◌≡◌, ◌∙◌, List, ◌++◌, refl, sym, ap}
use Rattle.std.specs.Prelude.{codes, decimal}
use Rattle.base_data.specs.model.PathText.{path_text}
use Rattle.base_data.specs.declared.model.value.Val.{Val}
use Rattle.base_data.specs.declared.model.value.Obj.{Obj}
use Rattle.types_spec.specs.declared.types.fault.Fault.TheVariants.{Mismatch}
use Rattle.types_spec.specs.types.VerdictText.{object_text, kind_text}
use Rattle.marshal_spec.specs.format.Token.{Token, integer, atom, shared, block, leaf}
use Rattle.check_stream.specs.mismatch_theory.OnlyWay.{path_of}
use Rattle.check_stream.specs.mismatch_theory.MissedLaw.{IsEncodedBy}
use Rattle.check_stream.specs.mismatch_theory.MissedLine.{token_text, missed_text, MissedHasLine}

-- The text of a token is the text of the encoded value's kind.
kind_is : (graph : List Obj) (v : Val) (token : Token) → IsEncodedBy graph v token → kind_text graph v ≡ token_text token
kind_is graph v (integer z) is = ap (λ w. kind_text graph w) is
kind_is graph v (atom tag) is = ap (λ w. kind_text graph w) is
kind_is graph v (shared offset) is = absurd is
kind_is graph v (block tag size) (o, values, is, at, long) =
    ap (λ w. kind_text graph w) is ∙ ap object_text at ∙ ap (λ n. codes "block " ++ decimal tag ++ codes " of " ++ decimal n) long
kind_is graph v (leaf object) (o, is, at) = ap (λ w. kind_text graph w) is ∙ ap object_text at

pub missed_has_line : MissedHasLine
missed_has_line table graph root missed type_text is = record {
  fault = Mismatch (path_of missed.trail);
  text = missed_text type_text missed;
  least = is.least;
  is_text = (is.value, missed.type, is.at, ap (λ found. path_text (path_of missed.trail) ++ codes ": expected " ++ type_text missed.type ++ codes ", found " ++ found) (sym (kind_is graph is.value missed.token is.encoded)));
  encoded = refl;
}
