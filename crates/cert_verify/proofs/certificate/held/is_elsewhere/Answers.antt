use Rattle.std.proofs.Common.{ℕ, ◌∙◌, Some, sym, ap, arith}
use Rattle.std.specs.Prelude.{◌==◌, not}
use Rattle.std.proofs.lemmas.Option.{same_Some}
use Rattle.types_table.specs.type_table.Made.{table_of}
use Rattle.cert_verify.proofs.certificate.EntryHeldLemmas.{differ, known_before, passing_from}
use Rattle.cert_verify.proofs.certificate.held.is_elsewhere.Goals as goal
use Rattle.cert_verify.proofs.certificate.held.is_elsewhere.Goals.{then-i-gt0+else-before-object, else-i-gt0}

pub returns-then-before-object : goal.returns-then-before-object
returns-then-before-object c =
    known_before (table_of c.args.table.now) c.args.pairs.now c.len-many.ensures.increasing c.args.i c.args.object c.args.ty c.at-before.result.1 c.class.result
    c.class-class.result (not (c.class.result == c.class-class.result)) c.requires.at c.if-i-gt0.true
    (c.at-before.ensures ∙ ap (λ (o : ℕ). Some (o, c.at-before.result.1)) c.if-before-object.true) c.requires.settled
    c.class.ensures c.class-class.ensures (differ c.class.result c.class-class.result)

pub is_elsewhere_behind-requires-clause-passing : goal.is_elsewhere_behind-requires-clause-passing
is_elsewhere_behind-requires-clause-passing c =
    elim c.if-i-gt0.branch [
      | then-i-gt0+else-before-object w ↦
          passing_from (table_of c.args.table.now) c.args.pairs.now c.len-many.ensures.increasing c.args.i c.args.object c.args.ty c.requires.at
          (λ s some at. w.if-before-object.false (ap (λ (q : ℕ × ℕ). q.0)
          (same_Some (w.at-before.result.0, w.at-before.result.1) (c.args.object, s) (sym w.at-before.ensures ∙ at))))
      | else-i-gt0 w ↦
          passing_from (table_of c.args.table.now) c.args.pairs.now c.len-many.ensures.increasing c.args.i c.args.object c.args.ty c.requires.at
          (λ s some at. let none = w.if-i-gt0.false in omega (arith, some, none))
    ]
