use Rattle.std.proofs.Common.{inl, sym, subst, ◌∙◌}
use Rattle.base_data.specs.declared.model.value.Val.TheVariants as vals
use Rattle.types_spec.specs.types.Fitting.{numbered_from}
use Rattle.types_spec.specs.types.Table.{table_shapes}
use Rattle.types_spec.specs.types.Typing.{HasType}
use Rattle.types_table.specs.type_table.Made.{table_of}
use Rattle.check_heap.specs.scan.Paths.{HasPath, HavePaths}
use Rattle.check_heap.specs.scan.Scanned.{Reports, IsScanned}
use Rattle.check_heap.specs.check.Verdict.{IsYes}
use Rattle.check_heap.proofs.scan.ScanNeedLemmas.{shape_asked}
use Rattle.check_heap.proofs.scan.ScanLemmas.{pair_at}
use Rattle.check_heap.proofs.check.ScannedLemmas.{scanned_yes}
use Rattle.check_heap.proofs.check.CheckAskedLemmas.{reached_yes, reached_paths}
use Rattle.check_heap.proofs.check.decide.check_object.Goals as goal

pub returns-in-Known-clause-verdict : goal.returns-in-Known-clause-verdict
returns-in-Known-clause-verdict c =
    let table = table_of c.args.table.now in
    let graph = c.args.heap.now in
    let types = c.in-Known.types in
    let scanned = subst (Reports table graph) c.in-Known.is c.in_ok-types.ensures.types in
    let yes = scanned_yes table graph types scanned in
    subst (λ o. HasType (table_shapes table) graph (vals.Ref o) 0 × IsYes table graph (vals.Ref o) c.in_ok-typing-in-Known.typing) (sym c.if-object-ne0.false) (
      yes.0,
      reached_yes table graph c.holds.ensures.lawful types (numbered_from 0 types) c.in_ok-typing-in-Known.typing c.in_ok-typing-in-Known.ensures
          (shape_asked c.args.table.now.nodes 0 c.shape.result.now c.shape.ensures (sym c.is_asked.ensures ∙ c.if-not-is_asked.false)) yes.1,
    )

pub returns-in-Known-clause-paths : goal.returns-in-Known-clause-paths
returns-in-Known-clause-paths c =
    let table = table_of c.args.table.now in
    let graph = c.args.heap.now in
    let types = c.in-Known.types in
    let led = subst (HavePaths table graph) c.in-Known.is c.in_ok-types.ensures.paths in
    λ o t among.
    subst (λ p. HasPath table graph (vals.Ref p) o t) (sym c.if-object-ne0.false)
    (reached_paths table graph c.holds.ensures.lawful types (numbered_from 0 types) c.in_ok-typing-in-Known.typing c.in_ok-typing-in-Known.ensures led
    (λ p u one. inl (pair_at types p u one)) o t among)

pub settle_noted-requires-clause-known : goal.settle_noted-requires-clause-known
settle_noted-requires-clause-known c = subst (Reports (table_of c.args.table.now) c.args.heap.now) c.in-Noted.is c.in_ok-types.ensures.types

pub settle_noted-requires-clause-paths : goal.settle_noted-requires-clause-paths
settle_noted-requires-clause-paths c = subst (HavePaths (table_of c.args.table.now) c.args.heap.now) c.in-Noted.is c.in_ok-types.ensures.paths

pub settle_noted-requires-clause-fits : goal.settle_noted-requires-clause-fits
settle_noted-requires-clause-fits c =
    subst (λ o. (table_shapes (table_of c.args.table.now)).fits c.args.heap.now (vals.Ref o) 0) c.if-object-ne0.false c.requires.fits

pub settle_noted-requires-clause-asked : goal.settle_noted-requires-clause-asked
settle_noted-requires-clause-asked c =
    shape_asked c.args.table.now.nodes 0 c.shape.result.now c.shape.ensures (sym c.is_asked.ensures ∙ c.if-not-is_asked.false)

pub known_typing-requires : goal.known_typing-requires
known_typing-requires c =
    let scanned : IsScanned (table_of c.args.table.now) c.args.heap.now c.in-Known.types =
    subst (Reports (table_of c.args.table.now) c.args.heap.now) c.in-Known.is c.in_ok-types.ensures.types in
    scanned.within
