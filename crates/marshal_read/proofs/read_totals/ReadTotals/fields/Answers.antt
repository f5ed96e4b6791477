use Rattle.std.proofs.Common.{arith, ◌≡◌, ◌≤◌, ◌+◌, length, None}
use Rattle.std.proofs.lemmas.Grind.{common_steps}
use Rattle.marshal_spec.specs.format.Raw.{fixed_bytes, field_bytes}
use Rattle.marshal_spec.specs.format.Step.{Context, overlong}
use Rattle.marshal_spec.proofs.format.EncodeFacts.{room_from_none}
use Rattle.marshal_read.specs.Totals.{context_of}
use Rattle.marshal_read.proofs.DecodeLemmas.{entry_passes}
use Rattle.marshal_read.proofs.read_totals.ReadTotals.fields.Goals as goal

pub returns-clause-steps : goal.returns-clause-steps
returns-clause-steps c =
    let c' : Context = context_of c.args.self.now in
    let kind = c.args.kind.kind in
    let long : field_bytes kind ≤ length c.args.rest.now = grind (arith, common_steps) in
    let none : overlong c' (fixed_bytes kind) 1 ≡ None = grind (arith, common_steps) in
    let room = c.args.self.now.room in
    let fits : c.args.self.now.taken + (1 + fixed_bytes kind) ≤ c.args.self.now.head.length = omega (arith, room_from_none c' (fixed_bytes kind) 1 none, room, c.requires.«open») in
    entry_passes c' c.args.code kind c.args.rest.now (length c.args.rest.now + 1) (omega (arith, long)) none (c.requires.sound fits long)
