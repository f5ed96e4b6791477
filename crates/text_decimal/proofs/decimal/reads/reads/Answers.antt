use Rattle.std.proofs.Common.{arith}
use Rattle.std.proofs.lemmas.Bool.{eqb-false}
use Rattle.fast_float.proofs.ExactLemmas.{ten_to_pos}
use Rattle.text_decimal.proofs.decimal.NearestLemmas.{few_powers, one_nearest}
use Rattle.text_decimal.proofs.decimal.reads.reads.Goals.{then-digits-eq0-via-then-digits-eq0, then-digits-eq0-via-else-digits-eq0+then-digits-ge-TOO_MANY, then-digits-eq0-via-else-digits-eq0+else-digits-ge-TOO_MANY+then-power-ge-POWERS}
use Rattle.text_decimal.proofs.decimal.reads.reads.Goals as goal

pub returns-then-digits-eq0-clause-not : goal.returns-then-digits-eq0-clause-not
returns-then-digits-eq0-clause-not c e r =
    elim c.then-digits-eq0.branch [
      | then-digits-eq0-via-then-digits-eq0 w ↦ omega (arith, r.some, w.if-digits-eq0.true)
      | then-digits-eq0-via-else-digits-eq0+then-digits-ge-TOO_MANY w ↦ omega (arith, r.few, w.if-digits-ge-TOO_MANY.true)
      | then-digits-eq0-via-else-digits-eq0+else-digits-ge-TOO_MANY+then-power-ge-POWERS w ↦
          omega (arith, few_powers c.args.size.bits c.args.digits c.args.power c.args.size.some r, w.if-power-ge-POWERS.true)
    ]

pub returns-clause-not : goal.returns-clause-not
returns-clause-not c e r = eqb-false _ _ e (one_nearest _ _ _ _ (ten_to_pos _) c.nearest_bits.ensures r.nearest)
