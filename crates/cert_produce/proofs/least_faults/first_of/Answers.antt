use Rattle.std.proofs.Common.{ℕ, ◌≡◌, ◌∙◌, false, sym, ap, arith}
use Rattle.std.specs.Cmp.{unsigned_tied}
use Rattle.std.specs.Option.{option_copied}
use Rattle.std.specs.Ordering.{nat_cmp, is_eq}
use Rattle.std.specs.Prelude.{◌==◌}
use Rattle.std.proofs.lemmas.Bool.Decides.{nat_tests}
use Rattle.types_table.specs.type_table.Made.{table_of}
use Rattle.cert_produce.specs.LeastFaults.{noted_in}
use Rattle.cert_produce.proofs.ProducedLeastLemmas.{noted_first}
use Rattle.cert_produce.proofs.least_faults.first_of.Goals as goal

not_same : (c q : ℕ) → ¬ (q ≡ c) → (c == q) ≡ false
not_same c q apart = grind (arith, nat_tests)

apart_at : (c q : ℕ) → ¬ (q ≡ c) → is_eq (nat_cmp c q) ≡ false
apart_at c q apart = unsigned_tied c q ∙ not_same c q apart

pub returns-clause-noted : goal.returns-clause-noted
returns-clause-noted c =
    let none = sym c.get.ensures.value ∙ ap option_copied c.in_default.is in
    noted_first (table_of c.args.table.now) (noted_in c.args.firsts.now) c.args.ty c.class-class.result c.requires.noted c.class-class.ensures none
    (noted_in c.insert.new.self) c.in_ok-insert.ensures.updates.1 (λ q apart. c.in_ok-insert.ensures.updates.2 q (apart_at c.class-class.result q apart))
