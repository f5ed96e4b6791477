use Rattle.std.proofs.Common.{ℕ, List, ◌++◌, ◌≡◌, subst, arith}
use Rattle.std.specs.Prelude.{MatchOption}
use Rattle.types_spec.specs.declared.types.head.TagOf.{TagOf}
use Rattle.types_wellformed.specs.brackets.TagTables.{AreTagNames, AreColliding}
use Rattle.types_wellformed.proofs.brackets.BracketLemmas.{no_collisions, more_collisions, all_collisions}
use Rattle.types_wellformed.proofs.brackets.BracketTreeLemmas.{least_position_of, least_names_of}
use Rattle.types_wellformed.proofs.brackets.tag_names.least_collision.Goals as goal

pub loop-item-init : goal.loop-item-init
loop-item-init c = no_collisions c.args.items.now c.empty-table.result c.empty-table.ensures

pub loop-item-preserved : goal.loop-item-preserved
loop-item-preserved c =
    more_collisions c.args.items.now c.loop-item.item-index c.item-item.result c.loop-item.table c.add_tag_names.new.table
    c.loop-item.best c.find_collision.result c.nearer-best.result c.loop-item-test.true c.item-item.is c.loop-item.invariant
    (subst (λ (tags : List (TagOf ℕ)). (seen : List (TagOf ℕ)) → AreTagNames seen c.loop-item.table → AreTagNames (seen ++ tags) c.add_tag_names.new.table)
    c.as_slice-tags.ensures c.in_ok-add_tag_names.ensures)
    (subst (λ (tags : List (TagOf ℕ)). (seen : List (TagOf ℕ)) → AreTagNames seen c.add_tag_names.new.table
    → MatchOption c.find_collision.result ((one other : List ℕ) → ¬ AreColliding seen tags one other)
    (λ found. (found.position ≡ c.item-item.result.position) × AreColliding seen tags found.one.now found.other.now))
    c.as_slice-tags.ensures c.find_collision.ensures)
    c.nearer-best.ensures.position c.nearer-best.ensures.either

pub returns : goal.returns
returns c =
    let least = all_collisions c.args.items.now c.loop-item.item-index c.loop-item.table c.loop-item.best (omega arith) (omega arith) c.loop-item.invariant in
    record {
      least = least;
      of_types = record {
        least = λ types decls all are. least_position_of types decls c.args.items.now all are c.loop-item.best least;
        names = λ types decls all are. least_names_of types decls c.args.items.now all are c.loop-item.best least;
      };
    }
