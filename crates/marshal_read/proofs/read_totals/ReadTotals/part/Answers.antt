use Rattle.std.proofs.Common.{rules, ◌≡◌, ◌+◌, ◌-◌, length, subst, ap, sym, ◌∙◌, arith, get_or, refl, Ok, Err, Some}
use Rattle.std.specs.Prelude.{IsErr}
use Rattle.marshal_spec.specs.format.Code.{kind_of}
use Rattle.marshal_spec.specs.format.Step.{token_steps}
use Rattle.marshal_spec.specs.format.Raw.{variable_bytes, raw_length}
use Rattle.marshal_codec.proofs.token.TokenPartLemmas.{more_sound}
use Rattle.marshal_read.specs.Totals.{AreTotals, context_of, after_kind}
use Rattle.marshal_read.specs.Progress.{answered, progress}
use Rattle.marshal_read.proofs.ReaderStepLemmas.{bytes_steps_are, bytes_fault, bytes_length, bytes_after, judged_stop, judged_pass}
use Rattle.marshal_read.proofs.read_totals.ReadTotals.part.Goals as goal
use Rattle.marshal_read.proofs.read_totals.ReadTotals.part.Goals.{After-steps, In_ok-next-in-Ok}

kind_is : (c : After-steps) → kind_of (get_or c.args.bytes.now 0 0) ≡ Ok c.in-Ok.kind
kind_is c = search rules

-- The result of `steps` is the result of the token's steps.
steps_are : (c : After-steps) → answered c.steps.result ≡ progress (length c.args.bytes.now) (token_steps (context_of c.args.self.now) c.args.bytes.now)
steps_are c =
    c.steps.ensures.steps
    ∙ bytes_steps_are (context_of c.args.self.now) c.args.bytes.now (get_or c.args.bytes.now 0 0) c.skip.result.now c.in-Ok.kind c.requires.some refl c.skip.ensures (kind_is c)

pub returns-in_err-next-in-Ok : goal.returns-in_err-next-in-Ok
returns-in_err-next-in-Ok c =
    let c' = context_of c.args.self.now in
    let h = steps_are (goal.at.returns-in_err-next-in-Ok c).After-steps in
    let e : answered c.from_residual.result ≡ progress (length c.args.bytes.now) (token_steps c' c.args.bytes.now) = search rules in
    let err : IsErr c.from_residual.result = search rules in
    judged_stop c' c.args.bytes.now c.from_residual.result e err

pub returns-in-Err : goal.returns-in-Err
returns-in-Err c =
    let fault : kind_of (get_or c.args.bytes.now 0 0) ≡ Err c.in-Err.fault = search rules in
    bytes_fault (context_of c.args.self.now) c.args.bytes.now c.in-Err.fault c.requires.some fault ∙ ap (λ r. Some r) (sym c.code_refusal.ensures)

-- The token is incomplete, so the token's fields have no fault.
pub steps-requires-clause-sound : goal.steps-requires-clause-sound
steps-requires-clause-sound c = λ room fields.
    let kind : kind_of (get_or c.args.bytes.now 0 0) ≡ Ok c.in-Ok.kind = search rules in
    more_sound (context_of c.args.self.now) c.args.bytes.now c.skip.result.now c.in-Ok.kind (c.args.self.now.head.length - c.args.self.now.taken) c.requires.some c.skip.ensures kind c.requires.part (omega (arith, room)) fields

-- The length of the token in bytes.
length_is : (c : In_ok-next-in-Ok) → c.in_ok-next-in-Ok.next.taken ≡ c.args.self.now.taken + raw_length c.args.bytes.now
length_is c =
    let len = bytes_length c.args.bytes.now c.in-Ok.kind c.requires.some (search rules) in
    let rest = ap (λ bytes. variable_bytes c.in-Ok.kind bytes) c.skip.ensures in
    omega (arith, c.in_ok-next-in-Ok.ensures.len)

pub returns-then-bytes-next : goal.returns-then-bytes-next
returns-then-bytes-next c =
    let d = goal.at.returns-then-bytes-next c in
    let h = steps_are d.After-steps in
    (judged_pass (context_of c.args.self.now) c.args.bytes.now (search rules), omega (arith, length_is d.In_ok-next-in-Ok))

pub returns-else-bytes-next : goal.returns-else-bytes-next
returns-else-bytes-next c =
    let c' = context_of c.args.self.now in
    let d = goal.at.returns-else-bytes-next c in
    let h = steps_are d.After-steps in
    let position = ap (after_kind c' c.in-Ok.kind) c.skip.ensures ∙ bytes_after c' c.args.bytes.now c.in-Ok.kind c.requires.some (kind_is d.After-steps) in (
      judged_pass c' c.args.bytes.now (search rules),
      omega (arith, length_is d.In_ok-next-in-Ok),
      subst (AreTotals c.in_ok-next-in-Ok.next) position c.in_ok-next-in-Ok.ensures.next,
    )
