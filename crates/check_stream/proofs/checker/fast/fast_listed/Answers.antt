use Rattle.std.proofs.Common.{◌++◌, refl, ap}
use Rattle.check_stream.specs.theory.AskedNeeds.{of_type}
use Rattle.check_stream.specs.checker.Fast.{held}
use Rattle.check_stream.specs.checker.OpenPositions.{waiting_needs}
use Rattle.check_stream.specs.declared.checker.open_positions.BlockPositions.TheVariants as opens
use Rattle.check_stream.specs.declared.checker.check_state.CheckState.{CheckState}
use Rattle.check_stream.proofs.checker.Weaker.{match_option_weaker}
use Rattle.check_stream.proofs.checker.fast.fast_listed.Goals as goal

pub returns : goal.returns
returns c =
    match_option_weaker c.fast_typed.result
    (λ same. ap (λ (s : CheckState). held (opens.Listed c.args.positions) s.positions.waiting s.types s.words) same)
    (λ took prefix. record {
      middle = held c.in-Some.others c.args.waiting.now c.args.types.now c.args.words.now;
      need = of_type c.in-Some.ty;
      types = refl;
      needs = ap (λ needs. needs ++ waiting_needs c.args.waiting.now.items) c.in-Some.ensures;
      words = refl;
      took = prefix;
    })
    c.fast_typed.ensures
