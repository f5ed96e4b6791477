use Rattle.std.proofs.Common.{rules, arith, ◌≡◌, [], None, false, ltb, eqb, cond, le_refl, le-ltb}
use Rattle.std.proofs.lemmas.Grind.{common_steps}
use Rattle.marshal_spec.specs.format.Words.{Sums, one_more}
use Rattle.marshal_spec.specs.format.Step.{Context, overlong, words32_refusal, words64_refusal, end_steps, or_else, position}
use Rattle.marshal_codec.specs.token.RemainingSteps.{closing}
use Rattle.marshal_read.specs.Totals.{context_of}
use Rattle.marshal_read.specs.Progress.{answered, of_refusal, progress}
use Rattle.marshal_read.proofs.TotalsLemmas.{go_on, stops_at, not_passed}
use Rattle.std.specs.Prelude.{IsErr}
use Rattle.marshal_read.proofs.read_totals.ReadTotals.finish.Goals as goal
use Rattle.marshal_read.proofs.read_totals.ReadTotals.finish.Goals.{After-end}

-- The result of `end` is the result of all closing steps.
closed : (c : After-end) → answered c.end.result ≡ progress c.args.there (closing (context_of c.args.self.now) c.args.there c.args.n c.args.measure)
closed c =
    let c' : Context = context_of c.args.self.now in
    let all : Sums = one_more c'.sums c.args.measure in
    let d : ltb c.args.there c.args.there ≡ false = le-ltb c.args.there c.args.there (le_refl c.args.there) in
    let o : overlong c' all.pending c.args.n ≡ None = grind (arith, common_steps) in
    let e : or_else (words32_refusal ltb (position c') c'.head all.w32) (words64_refusal ltb (position c') c'.head all.w64) ≡ None = grind (arith, common_steps) in
    let p : answered c.end.result ≡ progress c.args.there (cond (eqb all.pending 0) (end_steps c' c.args.n all) []) =
    grind (arith, common_steps) in
    go_on _ _ _ _ _ _ d o e p

pub returns-in_err-pass-2-clause-steps : goal.returns-in_err-pass-2-clause-steps
returns-in_err-pass-2-clause-steps c =
    let c' : Context = context_of c.args.self.now in
    let all : Sums = one_more c'.sums c.args.measure in
    let d : ltb c.args.there c.args.there ≡ false = le-ltb c.args.there c.args.there (le_refl c.args.there) in
    let o : overlong c' all.pending c.args.n ≡ None = grind (arith, common_steps) in
    let e : c.exceeded.result ≡ or_else (words32_refusal ltb (position c') c'.head all.w32) (words64_refusal ltb (position c') c'.head all.w64) = grind (arith, common_steps) in
    let stop : IsErr c.from_residual-in_err-pass-2.result = search rules in
    let known : answered c.from_residual-in_err-pass-2.result ≡ of_refusal c.exceeded.result = search rules in
    stops_at _ _ _ _ _ _ _ d o e known (not_passed c.from_residual-in_err-pass-2.result stop)

pub returns-in_err-end-clause-steps : goal.returns-in_err-end-clause-steps
returns-in_err-end-clause-steps c = let h = closed (goal.at.returns-in_err-end-clause-steps c).After-end in search rules

pub returns-clause-steps : goal.returns-clause-steps
returns-clause-steps c = let h = closed (goal.at.returns-clause-steps c).After-end in search rules
