use Rattle.std.proofs.Common.{◌≤◌, ◌-◌, ◌∙◌, ◌++◌, false, length, take_all, vec_len, ap, arith}
use Rattle.std.specs.Prelude.{replicate}
use Rattle.check_stream.proofs.mismatch_search.reference_targets.Again.reach.Goals as goal

pub returns : goal.returns
returns c =
    let old = c.args.self.now.marks.items in
    let grown = c.in_ok-resize.ensures in
    let long = c.args.self.now.marks.ok.0 in
    let few = c.if-object-len.false in
    let many = c.len.ensures in
    let made = c.requires in
    let less : length old ≤ c.args.made = omega (arith, long, few, many, made) in
    let far = c.resize.new.self.ok.0 in
    let all = grown.len in
    record {
      more = c.args.made - vec_len c.args.self.now.marks;
      marks = grown.items ∙ ap (λ prefix. prefix ++ replicate (c.args.made - vec_len c.args.self.now.marks) false) (take_all c.args.made old less);
      within = omega (arith, far, all, made);
    }
