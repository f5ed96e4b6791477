use Rattle.std.proofs.Common.{ℕ, ◌∙◌, sym, ap, arith}
use Rattle.std.specs.Prelude.{not}
use Rattle.std.proofs.lemmas.Bool.{false≢true, OnTrue_from}
use Rattle.std.proofs.lemmas.Option.{same_Some}
use Rattle.types_table.specs.type_table.Made.{table_of}
use Rattle.cert_verify.specs.certificate.Testing.{IsElsewhere}
use Rattle.cert_verify.proofs.certificate.EntryHeldLemmas.{passing_from}
use Rattle.cert_verify.proofs.certificate.right.is_at_one_type.Goals as goal
use Rattle.cert_verify.proofs.certificate.right.is_at_one_type.Goals.{then-i-gt0+else-before-object, else-i-gt0}

pub is_elsewhere_behind-requires-clause-passing : goal.is_elsewhere_behind-requires-clause-passing
is_elsewhere_behind-requires-clause-passing c =
    elim c.if-i-gt0.branch [
      | then-i-gt0+else-before-object w ↦
          passing_from (table_of c.args.table.now) c.args.pairs.now c.len-many.ensures.increasing c.args.i c.args.object c.args.ty c.requires.at
          (λ s some at. w.if-before-object.false (ap (λ (q : ℕ × ℕ). q.0)
          (same_Some (w.at-before.result.0, w.at-before.result.1) (c.args.object, s) (sym w.at-before.ensures ∙ at))))
      | else-i-gt0 w ↦
          passing_from (table_of c.args.table.now) c.args.pairs.now c.len-many.ensures.increasing c.args.i c.args.object c.args.ty c.requires.at
          (λ s some at. let none = w.if-i-gt0.false in omega (arith, some, none))
    ]

pub returns : goal.returns
returns c = OnTrue_from (not c.is_elsewhere_behind.result) (¬ IsElsewhere (table_of c.args.table.now) c.args.pairs.now c.args.object c.args.ty) (λ yes' elsewhere. false≢true (sym (ap not (c.is_elsewhere_behind.ensures.1 elsewhere)) ∙ yes'))
