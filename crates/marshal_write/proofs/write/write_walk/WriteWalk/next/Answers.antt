use Rattle.std.proofs.Common.{◌+◌, ap, subst, arith}
use Rattle.base_data.specs.model.Graph.{IsValue}
use Rattle.marshal_write.proofs.write.WriterWalkLemmas.{all_given}
use Rattle.marshal_write.proofs.write.WriterNextLemmas.{still_walk, given_small, integer_advances, integer_walk, atom_advances, atom_walk, mark_behind, frame_room, count_small, marks_many, met_count, next_in_order, reference_follows}
use Rattle.marshal_write.proofs.write.WriterSizeLemmas.{integer_kept}
use Rattle.marshal_write.proofs.write.write_walk.WriteWalk.next.Goals as goal

pub returns-in_default-clause-next : goal.returns-in_default-clause-next
returns-in_default-clause-next c = λ tree is_of. (all_given c.args.heap.now tree c.args.self.now (c.requires.at tree is_of) c.in_default.ensures.value, ap (λ w. w.given) c.in_default.ensures.frame)

pub returns-in_default-clause-walk : goal.returns-in_default-clause-walk
returns-in_default-clause-walk c =
    still_walk _ _ _ c.requires c.in_default.ensures.last c.in_default.ensures.frames c.in_default.ensures.depth c.in_default.ensures.capacity c.in_default.ensures.frame c.in_default.ensures.none

pub overflow_add-self : goal.overflow_add-self
overflow_add-self c = omega (arith, given_small _ _ _ _ c.requires c.in-Some.ensures.value c.in-Some.ensures.last c.in-Some.ensures.frames c.in-Some.ensures.depth c.in-Some.ensures.capacity c.in-Some.ensures.frame)

pub returns-in-Int-clause-walk : goal.returns-in-Int-clause-walk
returns-in-Int-clause-walk c = integer_walk _ _ _ _ c.requires c.in-Some.ensures.value c.in-Some.ensures.last c.in-Some.ensures.frames c.in-Some.ensures.depth c.in-Some.ensures.capacity c.in-Some.ensures.frame c.in-Int.z c.in-Int.is

pub returns-in-Int-clause-next : goal.returns-in-Int-clause-next
returns-in-Int-clause-next c = λ tree is_of. (rw (integer_kept c.in-Int.z (subst (IsValue _) c.in-Int.is c.in-Some.ensures.valid)) (integer_advances _ _ _ _ c.requires c.in-Some.ensures.value c.in-Some.ensures.last c.in-Some.ensures.frames c.in-Some.ensures.depth c.in-Some.ensures.capacity c.in-Some.ensures.frame c.in-Int.z c.in-Int.is tree is_of).at_given, ap (λ w. w.given + 1) c.in-Some.ensures.frame)

pub returns-in-Atom-clause-walk : goal.returns-in-Atom-clause-walk
returns-in-Atom-clause-walk c = atom_walk _ _ _ _ c.requires c.in-Some.ensures.value c.in-Some.ensures.last c.in-Some.ensures.frames c.in-Some.ensures.depth c.in-Some.ensures.capacity c.in-Some.ensures.frame c.in-Atom.tag c.in-Atom.is

pub returns-in-Atom-clause-next : goal.returns-in-Atom-clause-next
returns-in-Atom-clause-next c = λ tree is_of. ((atom_advances _ _ _ _ c.requires c.in-Some.ensures.value c.in-Some.ensures.last c.in-Some.ensures.frames c.in-Some.ensures.depth c.in-Some.ensures.capacity c.in-Some.ensures.frame c.in-Atom.tag c.in-Atom.is tree is_of).at_given, ap (λ w. w.given + 1) c.in-Some.ensures.frame)

pub meet-requires-clause-behind : goal.meet-requires-clause-behind
meet-requires-clause-behind c = mark_behind _ _ _ _ c.requires c.in-Some.ensures.value c.in-Some.ensures.last c.in-Some.ensures.frames c.in-Some.ensures.depth c.in-Some.ensures.capacity c.in-Some.ensures.frame c.in-Ref.k

pub meet-requires-clause-marks : goal.meet-requires-clause-marks
meet-requires-clause-marks c = marks_many _ _ _ _ c.requires c.in-Some.ensures.value c.in-Some.ensures.last c.in-Some.ensures.frames c.in-Some.ensures.depth c.in-Some.ensures.capacity c.in-Some.ensures.frame

pub meet-requires-clause-met : goal.meet-requires-clause-met
meet-requires-clause-met c = met_count _ _ _ _ c.requires c.in-Some.ensures.value c.in-Some.ensures.last c.in-Some.ensures.frames c.in-Some.ensures.depth c.in-Some.ensures.capacity c.in-Some.ensures.frame

pub meet-requires-clause-order : goal.meet-requires-clause-order
meet-requires-clause-order c = next_in_order _ _ _ _ c.requires c.in-Some.ensures.value c.in-Some.ensures.last c.in-Some.ensures.frames c.in-Some.ensures.depth c.in-Some.ensures.capacity c.in-Some.ensures.frame c.in-Ref.k c.in-Ref.is

pub meet-requires-clause-room : goal.meet-requires-clause-room
meet-requires-clause-room c = frame_room _ _ _ _ c.requires c.in-Some.ensures.value c.in-Some.ensures.last c.in-Some.ensures.frames c.in-Some.ensures.depth c.in-Some.ensures.capacity c.in-Some.ensures.frame c.in-Ref.k c.in-Ref.is

pub meet-requires-clause-few : goal.meet-requires-clause-few
meet-requires-clause-few c = count_small _ _ _ _ c.requires c.in-Some.ensures.value c.in-Some.ensures.last c.in-Some.ensures.frames c.in-Some.ensures.depth c.in-Some.ensures.capacity c.in-Some.ensures.frame c.in-Ref.k c.in-Ref.is

pub returns-in_ok-meet-in-Ref-clause-walk : goal.returns-in_ok-meet-in-Ref-clause-walk
returns-in_ok-meet-in-Ref-clause-walk c =
    (reference_follows _ _ _ _ c.requires c.in-Some.ensures.value c.in-Some.ensures.last c.in-Some.ensures.frames c.in-Some.ensures.depth c.in-Some.ensures.capacity c.in-Some.ensures.frame c.in-Ref.k c.meet.new.self c.in_ok-meet-in-Ref.field-0 c.in-Ref.is
    (subst (IsValue _) c.in-Ref.is c.in-Some.ensures.valid) c.in_ok-meet-in-Ref.ensures.met c.in_ok-meet-in-Ref.ensures.again).is_walk

pub returns-in_ok-meet-in-Ref-clause-next : goal.returns-in_ok-meet-in-Ref-clause-next
returns-in_ok-meet-in-Ref-clause-next c = λ tree is_of.
    let a = (reference_follows _ _ _ _ c.requires c.in-Some.ensures.value c.in-Some.ensures.last c.in-Some.ensures.frames c.in-Some.ensures.depth c.in-Some.ensures.capacity c.in-Some.ensures.frame c.in-Ref.k c.meet.new.self c.in_ok-meet-in-Ref.field-0 c.in-Ref.is
    (subst (IsValue _) c.in-Ref.is c.in-Some.ensures.valid) c.in_ok-meet-in-Ref.ensures.met c.in_ok-meet-in-Ref.ensures.again) in
    ((a.advances tree is_of).at_given, a.more_given)
