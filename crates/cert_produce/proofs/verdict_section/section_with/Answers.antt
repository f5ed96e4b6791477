use Rattle.std.proofs.Common.{ℕ, length, ap, subst, arith}
use Rattle.std.specs.Prelude.{Contains, ◌↔◌, map}
use Rattle.types_table.specs.type_table.Made.{table_of}
use Rattle.check_heap.specs.check.Verdict.{IsVerdict, PairsHavePaths}
use Rattle.cert_format.specs.declared.section.Section.TheVariants as sections
use Rattle.cert_produce.specs.LeastFaults.{at_least}
use Rattle.cert_produce.proofs.CertifiedLemmas.{yes_accepted, accepted_within, are_reached, certified_accepted}
use Rattle.cert_produce.proofs.verdict_section.section_with.Goals as goal

pub normal_pairs-requires : goal.normal_pairs-requires
normal_pairs-requires c = λ o t among.
    let table = table_of c.args.table.now in
    let verdict = subst (IsVerdict table c.args._heap.now c.args._root) c.in-Yes.is c.requires.verdict in
    let inside = accepted_within table c.args._heap.now c.args._root c.in-Yes.typing c.holds.ensures.lawful
    (yes_accepted table c.args._heap.now c.args._root c.in-Yes.typing verdict.0 verdict.1) o t among in
    let many = c.requires.least_faults.many in
    let same = ap (length {A = ℕ}) c.as_slice.ensures in
    omega (arith, inside, many, same)

pub returns-in_ok-pairs-in-Yes-clause-certified : goal.returns-in_ok-pairs-in-Yes-clause-certified
returns-in_ok-pairs-in-Yes-clause-certified c =
    let table = table_of c.args.table.now in
    let graph = c.args._heap.now in
    let verdict = subst (IsVerdict table graph c.args._root) c.in-Yes.is c.requires.verdict in
    let paths = subst (PairsHavePaths table graph c.args._root) c.in-Yes.is c.requires.paths in (
      verdict.0,
      are_reached table graph c.args._root c.args.least_faults.now c.in-Yes.typing c.in_ok-pairs-in-Yes.pairs c.holds.ensures.lawful c.requires.least_faults
          (yes_accepted table graph c.args._root c.in-Yes.typing verdict.0 verdict.1) paths c.in_ok-pairs-in-Yes.ensures.increasing (λ pair.
          subst (λ least_faults. Contains c.in_ok-pairs-in-Yes.pairs pair ↔ Contains (map (at_least least_faults) c.in-Yes.typing) pair) c.as_slice.ensures
          (c.in_ok-pairs-in-Yes.ensures.same pair)),
    )

pub returns-in_ok-pairs-in-Yes-clause-accepted : goal.returns-in_ok-pairs-in-Yes-clause-accepted
returns-in_ok-pairs-in-Yes-clause-accepted c =
    certified_accepted (table_of c.args.table.now) c.holds.ensures.lawful.lawful c.args._heap.now c.args._root (sections.Pairs c.in_ok-pairs-in-Yes.pairs)
    (returns-in_ok-pairs-in-Yes-clause-certified c)
