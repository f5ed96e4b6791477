use Rattle.std.proofs.Common.{ℕ, List, subst}
use Rattle.std.specs.Prelude.{codes}
use Rattle.base_io.specs.StreamState.{change}
use Rattle.base_io.specs.Sink.{WritesPart}
use Rattle.base_io.proofs.WritesLemmas.{part_more}
use Rattle.cert_format.specs.TextWrites.{WritesAll}
use Rattle.cert_format.proofs.SinkLemmas.{leaves_then, leaves_more, part_then, all_fails, all_then, whole_text}
use Rattle.cert_format.proofs.entry_writer.write_begun.Goals as goal

pub returns-in_err-write_body : goal.returns-in_err-write_body
returns-in_err-write_body g c =
    all_fails _ _ _ c.from_residual.result c.from_residual.ensures.0
    (subst (λ (t : List ℕ). WritesPart (change (g.K.Sink.state c.args.out.now) (g.K.Sink.state c.write_body.new.out)) t)
    (whole_text c.args._number c.args.section.now c.args.text.now.items c.requires.begun)
    (part_more _ _ _ (codes "end\n") c.in_err-write_body.ensures.writes))

pub returns-in_err-make_room : goal.returns-in_err-make_room
returns-in_err-make_room g c =
    all_fails _ _ _ c.from_residual-in_err-make_room.result c.from_residual-in_err-make_room.ensures.0
    (subst (λ (t : List ℕ). WritesPart (change (g.K.Sink.state c.args.out.now) (g.K.Sink.state c.make_room.new.out)) t)
    (whole_text c.args._number c.args.section.now c.args.text.now.items c.requires.begun)
    (part_more _ _ _ (codes "end\n") (part_then _ _ _ _ _ c.in_ok-write_body.ensures.writes c.in_err-make_room.ensures.writes)))

pub returns : goal.returns
returns g c =
    let left = leaves_then _ _ _ _ _ c.in_ok-write_body.ensures.writes _ c.in_ok-make_room.ensures.writes in
    subst (λ (t : List ℕ). WritesAll (change (g.K.Sink.state c.args.out.now) (g.K.Sink.state c.write_all.new.sink)) t c.write_all.result)
    (whole_text c.args._number c.args.section.now c.args.text.now.items c.requires.begun)
    (all_then _ _ _ _ _ c.write_all.result (leaves_more _ _ _ _ _ _ left c.append.ensures.text)
    (subst (λ (t : List ℕ). WritesAll (change (g.K.Sink.state c.make_room.new.out) (g.K.Sink.state c.write_all.new.sink)) t c.write_all.result)
    c.as_slice.ensures.value c.write_all.ensures.writes))
