use Rattle.std.proofs.Common.{◌≡◌, ◌+◌, ◌∙◌, suc, inl, refl, sym, ap, arith}
use Rattle.std.specs.Prelude.{slice_set}
use Rattle.std.specs.Vec.{with_item}
use Rattle.std.proofs.lemmas.Bool.{false≢true}
use Rattle.std.proofs.lemmas.Option.{slice_get_within}
use Rattle.check_heap.proofs.scan.ClassedLemmas.{free_has_none, has_none, more_is_new, inserts_nothing, inserts_in_cell, inserts_more}
use Rattle.check_heap.proofs.scan.classed.Classed.write.Goals as goal

pub returns-then-is_in_cell-clause-inserts : goal.returns-then-is_in_cell-clause-inserts
returns-then-is_in_cell-clause-inserts c =
    inserts_nothing c.args.self.now c.make_cells.new.cells.items c.args.object c.args.class c.in_ok-make_cells.ensures
    (record { cells = c.make_cells.new.cells; more = c.args.self.now.more }) (c.is_in_cell.ensures.0 c.if-is_in_cell.true) refl refl

pub returns-then-is_in_cell-clause-added : goal.returns-then-is_in_cell-clause-added
returns-then-is_in_cell-clause-added c =
    inl ((c.in_ok-make_cells.ensures c.args.object c.args.class).1 (c.is_in_cell.ensures.0 c.if-is_in_cell.true))

pub index_mut-requires : goal.index_mut-requires
index_mut-requires c =
    let inside = slice_get_within c.make_cells.new.cells.items c.args.object 0 (c.has_free_cell.ensures.0 c.if-has_free_cell.true).0 in
    let many = c.make_cells.new.cells.ok.0 in
    omega (arith, inside, many)

pub returns-then-not-contains-clause-inserts : goal.returns-then-not-contains-clause-inserts
returns-then-not-contains-clause-inserts c =
    let cells = c.make_cells.new.cells.items in
    let next : c.args.class + 1 ≡ suc c.args.class = omega arith in
    inserts_in_cell c.args.self.now cells c.args.object c.args.class c.in_ok-make_cells.ensures
    (record { cells = with_item c.make_cells.new.cells c.args.object (c.args.class + 1); more = c.args.self.now.more })
    (c.has_free_cell.ensures.0 c.if-has_free_cell.true).0 (ap (slice_set cells c.args.object) next) refl

pub returns-then-not-contains-clause-added : goal.returns-then-not-contains-clause-added
returns-then-not-contains-clause-added c =
    let cells = c.make_cells.new.cells.items in
    has_none c.args.self.now cells c.args.object c.args.class c.in_ok-make_cells.ensures
    (free_has_none cells c.args.object c.args.class (c.has_free_cell.ensures.0 c.if-has_free_cell.true).0)
    (λ there. false≢true (sym c.if-not-contains.true ∙ c.contains.ensures ∙ there))

pub returns-clause-inserts : goal.returns-clause-inserts
returns-clause-inserts c =
    inserts_more c.args.self.now c.make_cells.new.cells.items c.args.object c.args.class c.in_ok-make_cells.ensures
    (record { cells = c.make_cells.new.cells; more = c.insert.new.self }) refl c.in_ok-insert.ensures.updates

pub returns-clause-added : goal.returns-clause-added
returns-clause-added c =
    more_is_new c.args.self.now c.make_cells.new.cells.items c.args.object c.args.class c.in_ok-make_cells.ensures c.in_ok-insert.field-0
    (λ cell. false≢true (sym c.if-is_in_cell.false ∙ c.is_in_cell.ensures.1 cell)) c.in_ok-insert.ensures.added
