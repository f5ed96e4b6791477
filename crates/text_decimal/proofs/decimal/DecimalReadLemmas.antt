-- A rounded number is not a NaN.
use Rattle.std.proofs.Common.{ℕ, zero, suc, ◌+◌, ◌*◌, ◌^◌, Bool, true, false, cond, not, T, sym, subst}
use lib.Dec.{ltb}
use lib.Ieee.{Format, inf, prec, low, emax, odd, units, round, is_nan}
use lib.Ieee.Fits.{round_is}

odd_number : (d : ℕ) (s : Bool) (q k l : ℕ) → T (not (is_nan (odd d s q k l)))
unfolding odd is_nan
odd_number d s zero k l = tt
odd_number d s (suc q) k l = tt

inf_number : (s : Bool) → T (not (is_nan (inf s)))
unfolding is_nan
inf_number s = tt

units_number : (f : Format) (s : Bool) (q k : ℕ) → T (not (is_nan (units f s q k)))
unfolding units
units_number f s q k = go (ltb (q * 2 ^ k) (2 ^ (low f + suc (emax f))))
  where
    go : (b : Bool) → T (not (is_nan (cond b (odd (suc (prec f)) s q k (low f)) (inf s))))
    go true = odd_number (suc (prec f)) s q k (low f)
    go false = inf_number s

pub round_number : (f : Format) (s : Bool) (a c : ℕ) → T (not (is_nan (round f s a c)))
round_number f s a c = subst (λ v. T (not (is_nan v))) (sym (round_is f s a c)) (units_number f s _ _)
