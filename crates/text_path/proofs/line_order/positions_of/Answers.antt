use Rattle.std.proofs.Common.{◌∙◌, ap, sym, subst, ltb, leb, filter, not}
use Rattle.std.proofs.lemmas.List.Kept.{IsNonDecreasingBy-filter}
use Rattle.text_path.specs.LineOrder.{IsByValue}
use Rattle.text_path.proofs.PathOrderLemmas.{value_is}
use Rattle.text_path.proofs.line_order.positions_of.Goals as goal

pub from_value-requires : goal.from_value-requires
from_value-requires c =
    subst IsByValue (sym c.up_to_value.ensures) (IsNonDecreasingBy-filter (λ position. position.0) (λ position. leb position.0 c.args.value) c.args.order.now c.requires)

pub returns : goal.returns
returns c =
    c.from_value.ensures ∙ (ap (filter (λ position. not (ltb position.0 c.args.value))) c.up_to_value.ensures ∙ value_is c.args.value c.args.order.now)
