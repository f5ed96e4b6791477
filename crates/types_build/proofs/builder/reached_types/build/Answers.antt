use Rattle.std.proofs.Common.{subst, sym}
use Rattle.types_table.specs.type_table.Made.{IsTypeTable}
use Rattle.types_table.proofs.type_table.TypeTableMadeLemmas.{made_is_checkable}
use Rattle.types_build.proofs.builder.BuilderWholeLemmas.{parts_are_positions, is_table}
use Rattle.types_build.proofs.builder.reached_types.build.Goals as goal

pub finished-requires : goal.finished-requires
finished-requires c =
    parts_are_positions c.args.decls.now c.args.ty.now c.in_ok-listing.listing c.in_ok-listing.ensures.ok

pub new-requires : goal.new-requires
new-requires c =
    made_is_checkable c.args.decls.now c.args.ty.now c.in_ok-of.of c.requires.well c.requires.sound
    (is_table c.args.decls.now c.args.ty.now c.in_ok-listing.listing c.in_ok-listing.ensures.ok c.in_ok-of.of c.in_ok-of.ensures)

pub returns-clause-ok : goal.returns-clause-ok
returns-clause-ok c =
    subst (IsTypeTable c.args.decls.now c.args.ty.now) (sym c.new.ensures)
    (is_table c.args.decls.now c.args.ty.now c.in_ok-listing.listing c.in_ok-listing.ensures.ok c.in_ok-of.of c.in_ok-of.ensures)
