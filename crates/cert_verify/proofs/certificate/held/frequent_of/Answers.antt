use Rattle.std.proofs.Common.{ℕ, ◌+◌, ◌∙◌, sym, ap, subst}
use Rattle.std.specs.BTreeSet.{BTreeSet}
use Rattle.std.proofs.lemmas.Option.{same_Some}
use Rattle.types_table.specs.type_table.Made.{table_of}
use Rattle.cert_verify.specs.certificate.Testing.{AreCrowded, is_in}
use Rattle.cert_verify.proofs.certificate.EntryHeldLemmas.{frequent_more, frequent_same}
use Rattle.cert_verify.proofs.certificate.held.frequent_of.Goals as goal
use Rattle.cert_verify.proofs.certificate.held.frequent_of.Goals.{then-before-object+in_ok-insert, else-before-object}

pub loop-i-preserved : goal.loop-i-preserved
loop-i-preserved c =
    let object = c.at-object.result.0 in
    let ty = c.at-object.result.1 in
    elim c.if-before-object.branch [
      | then-before-object+in_ok-insert w ↦
          subst (λ (s : BTreeSet (ℕ × ℕ)). AreCrowded (table_of c.args.table.now) c.args.pairs.now (c.loop-i.i + 1) (is_in s)) (sym w.frequent-is)
          (frequent_more (table_of c.args.table.now) c.args.pairs.now c.loop-i.i object ty w.class.result c.loop-i.frequent w.insert.new.self
          c.loop-i.invariant c.at-object.ensures w.class.ensures w.in_ok-insert.ensures.updates)
      | else-before-object w ↦
          subst (λ (s : BTreeSet (ℕ × ℕ)). AreCrowded (table_of c.args.table.now) c.args.pairs.now (c.loop-i.i + 1) (is_in s)) (sym w.frequent-is)
          (frequent_same (table_of c.args.table.now) c.args.pairs.now c.loop-i.i object ty (is_in c.loop-i.frequent) c.loop-i.invariant c.at-object.ensures
          (λ s at. w.if-before-object.false (ap (λ (q : ℕ × ℕ). q.0)
          (same_Some (c.at-before.result.0, c.at-before.result.1) (object, s) (sym c.at-before.ensures ∙ at)))))
    ]
