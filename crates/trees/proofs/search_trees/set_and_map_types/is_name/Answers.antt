use Rattle.std.proofs.Common.{◌∙◌, ap}
use Rattle.std.specs.Str.{bytes_eq}
use Rattle.trees.proofs.search_trees.SearchTreeNameLemmas.{name_is}
use Rattle.trees.proofs.search_trees.set_and_map_types.is_name.Goals as goal

pub returns : goal.returns
returns c = name_is c.eq.result c.args.own.now c.args.wanted.now (c.eq.ensures ∙ ap (λ a. bytes_eq a c.args.wanted.now) c.as_slice.ensures)
