use Rattle.std.proofs.Common.{rules, ◌≡◌, subst, Some}
use Rattle.std.specs.Prelude.{slice_get}
use Rattle.check_stream.proofs.checker.Weaker.{on_true_weaker}
use Rattle.check_stream.specs.mismatch_search.Find.{no_type}
use Rattle.check_stream.proofs.mismatch_search.mismatch.Finding.is_first.Goals as goal

pub returns : goal.returns
returns c =
    let typed : c.type_at-own.result ≡ no_type → ⊥ = search rules in
    let at = subst (λ types. slice_get types c.args.object ≡ Some c.type_at-own.result) c.as_slice.ensures.value c.type_at-own.ensures in
    on_true_weaker c.is_equal.result
    (λ equal. record { own = c.type_at-own.result; at = at; typed = typed; equal = equal })
    c.is_equal.ensures
