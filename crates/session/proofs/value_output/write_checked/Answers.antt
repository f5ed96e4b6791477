use Rattle.std.proofs.Common.{ℕ, Bool, List, ◌≡◌, subst}
use Rattle.std.specs.Prelude.{IfOk, MatchBool}
use Rattle.run_types.specs.RequestedTexts.{type_over}
use Rattle.run_types.specs.TypeVerdict.{WritesNo}
use Rattle.session.specs.ValueOutput.{WritesLine, query_of}
use Rattle.session.proofs.SessionVerdictLemmas.{no_line}
use Rattle.session.proofs.value_output.write_checked.Goals as goal

pub returns-then-known : goal.returns-then-known
returns-then-known c =
    let r = c.args.requested.now in
    let old = c.args.text.now.items in
    let new = c.write_soon.new.text.items in
    no_line (query_of c.args.query) r c.args.value.now.heap.now c.args.value.now.root old new
    (subst (λ (known : Bool). MatchBool known (WritesNo (type_over r) c.args.value.now.heap.now c.args.value.now.root old new) (new ≡ old)) c.if-known.true
    c.in_ok-known.ensures)

pub write_known-requires : goal.write_known-requires
write_known-requires c = record { typed = rw c.table.ensures.same at (c.surely_has.ensures.typed c.if-surely_has.true) }

pub returns-then-surely_has : goal.returns-then-surely_has
returns-then-surely_has c =
    let r = c.args.requested.now in
    let old = c.args.text.now.items in
    let mid = c.write_soon.new.text.items in
    let same = subst (λ (known : Bool). MatchBool known (WritesNo (type_over r) c.args.value.now.heap.now c.args.value.now.root old mid) (mid ≡ old)) c.if-known.false
    c.in_ok-known.ensures in
    subst (λ (prefix : List ℕ). IfOk c.write_known.result (WritesLine (query_of c.args.query) (type_over r) c.args.value.now.heap.now c.args.value.now.root prefix c.write_known.new.text.items))
    same c.write_known.ensures

pub returns : goal.returns
returns c =
    let r = c.args.requested.now in
    let old = c.args.text.now.items in
    let mid = c.write_soon.new.text.items in
    let same = subst (λ (known : Bool). MatchBool known (WritesNo (type_over r) c.args.value.now.heap.now c.args.value.now.root old mid) (mid ≡ old)) c.if-known.false
    c.in_ok-known.ensures in
    subst (λ (prefix : List ℕ). IfOk c.write_line.result (WritesLine (query_of c.args.query) (type_over r) c.args.value.now.heap.now c.args.value.now.root prefix c.write_line.new.text.items))
    same c.write_line.ensures
