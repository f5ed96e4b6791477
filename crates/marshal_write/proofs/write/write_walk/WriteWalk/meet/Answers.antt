use Rattle.std.proofs.Common.{◌+◌, ◌*◌, ◌∙◌, arith, length, ap, sym, length-set}
use Rattle.marshal_heap.specs.heap.Heap.{position}
use Rattle.marshal_write.specs.write.Marks.{marks_of}
use Rattle.marshal_write.specs.declared.write.write_walk.WriteWalk.{WriteWalk}
use Rattle.marshal_write.proofs.write.write_walk.WriteWalk.meet.Goals as goal

pub returns-clause-met : goal.returns-clause-met
returns-clause-met c = λ _.
    let same = c.enter.ensures.frame in
    let count = ap (λ (w : WriteWalk). w.count) same in
    let ordered = ap (λ (w : WriteWalk). w.marks.ordered) same in record {
      root = ap (λ (w : WriteWalk). w.root) same;
      given = ap (λ (w : WriteWalk). w.given) same;
      count = count;
      marks = ap (λ (w : WriteWalk). marks_of w.marks) same ∙ c.in_ok-set.ensures.marks;
      met = λ is. ap (λ (w : WriteWalk). w.marks.met) same ∙ c.in_ok-set.ensures.met (sym ordered ∙ is) ∙ sym count;
      again = ap (λ (w : WriteWalk). w.again) same;
      was = λ is. c.in_ok-set.ensures.was (sym ordered ∙ is);
      next = λ is.
          let o = sym ordered ∙ is in
          c.enter.ensures.next ∙ ap (λ n. 8 * position c.args.heap.now n) (omega (arith, c.in_ok-set.ensures.order o, c.requires.met (c.in_ok-set.ensures.was o), count));
      left = c.enter.ensures.left;
      last = c.enter.ensures.last;
      frames = c.enter.ensures.frames;
      many_marks = ap (λ (w : WriteWalk). length (marks_of w.marks)) same ∙ ap length c.in_ok-set.ensures.marks
          ∙ length-set (marks_of c.args.self.now.marks) c.args.k (c.args.self.now.count + 1);
      depth = c.enter.ensures.depth;
      capacity = c.enter.ensures.capacity;
      token = c.enter.ensures.token;
    }
