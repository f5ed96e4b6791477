use Rattle.std.proofs.Common.{rules, ◌≡◌, ◌+◌, ◌-◌, ◌*◌, ◌≤◌, ◌++◌, ◌∷◌, [], length, arith}
use Rattle.marshal_spec.proofs.format.ContentLemmas.{doubles_more}
use Rattle.marshal_read.proofs.content.doubles_of.Goals as goal

pub loop-i-preserved : goal.loop-i-preserved
loop-i-preserved c =
    let bytes = c.args.bytes.now in
    let i = c.loop-i.i in
    let long : 8 * i + 8 ≤ length bytes = omega arith in
    let eight : 8 * i + 8 - 8 * i ≡ 8 = omega arith in
    let bits = rw eight at c.double-bits.ensures in
    let items : c.push.new.self.items ≡ c.loop-i.all.items ++ c.double-bits.result ∷ [] = search rules in
    rw items (doubles_more c.args.little c.loop-i.all.items bytes i c.double-bits.result long c.loop-i.invariant bits)
