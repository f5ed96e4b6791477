use Rattle.std.proofs.Common.{Some, cond, ap, ◌∙◌}
use Rattle.std.specs.Prelude.{unwrap_or}
use Rattle.std.specs.Str.{bytes_eq}
use Rattle.std.proofs.lemmas.Map.Text.{hash_map_updates_str}
use Rattle.types_resolve.specs.scope.NamePositions.{number_of}
use Rattle.types_resolve.proofs.scope.name_table.add.Goals as goal

pub returns-in_ok-insert-in-None-clause-added : goal.returns-in_ok-insert-in-None-clause-added
returns-in_ok-insert-in-None-clause-added c = λ q.
    hash_map_updates_str c.args.name.now c.args.table.now.entries c.insert.new.self (Some c.args.number) c.in_ok-insert-in-None.ensures.updates q
    ∙ ap (λ o. cond (bytes_eq c.args.name.now q) (Some (unwrap_or o c.args.number)) (number_of c.args.table.now q)) c.in-None.ensures
