use Rattle.std.proofs.Common.{◌∙◌, ap, refl, replicate, arith}
use Rattle.marshal_write.proofs.write.WriterWalkLemmas.{first_walk}
use Rattle.marshal_write.proofs.write.write_walk.WriteWalk.new.Goals as goal

pub returns-clause-walk : goal.returns-clause-walk
returns-clause-walk c =
    first_walk _ _ c.count-objects.ensures.heap c.requires refl refl refl refl c.in_ok-with_capacity.ensures.items c.in_ok-with_capacity.ensures.len
    (c.new.ensures.marks ∙ ap (λ n. replicate n 0) c.count-objects.ensures.count) c.new.ensures.met
    (omega (arith, c.count-objects.ensures.count, c.in_ok-with_capacity.ensures.exact)) refl
