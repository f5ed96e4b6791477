use Rattle.std.proofs.Common.{◌∙◌}
use Rattle.types_wellformed.proofs.head_rules.first_head_rule.first_head_break.Goals as goal

pub first_of_file-requires : goal.first_of_file-requires
first_of_file-requires g c = (c.in_ok-environment.ensures ∙ c.requires.0, (c.requires.1.0, c.requires.1.1.0))
