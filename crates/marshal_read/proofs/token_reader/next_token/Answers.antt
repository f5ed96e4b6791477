use Rattle.std.proofs.Common.{rules, arith, ℕ, List, Ok, ◌≡◌, ◌+◌, ◌-◌, ◌<◌, ◌≤◌, ◌^◌, length, take, subst, sym}
use Rattle.std.specs.Prelude.{IsErr}
use Rattle.std.proofs.lemmas.List.{length-take-le}
use Rattle.marshal_spec.specs.format.Raw.{raw_length, raw_measure}
use Rattle.marshal_spec.specs.format.Token.{Token, Encodes}
use Rattle.marshal_spec.specs.format.Tree.{RefersBack}
use Rattle.marshal_spec.specs.format.Words.{of_object, fields}
use Rattle.marshal_spec.specs.format.Prefix.{context}
use Rattle.base_data.proofs.model.Numbers.{are_bytes}
use Rattle.marshal_spec.proofs.format.RawLemmas.{raw_measure-take}
use Rattle.marshal_read.specs.Totals.{IsNext, context_of}
use Rattle.marshal_read.specs.Reading.{BuildsGraph}
use Rattle.marshal_read.proofs.TotalsLemmas.{next_there}
use Rattle.marshal_read.specs.Build.{absorb_in, Fits}
use Rattle.marshal_read.proofs.ReaderNextLemmas.{next_taken, next_fields, next_encoded, next_leads, next_fits, nothing_left, judged_next}
use Rattle.marshal_read.proofs.token_reader.next_token.Goals as goal
use Rattle.marshal_read.proofs.token_reader.next_token.Goals.{In_ok-next}

pub returns-then-is_empty-clause-next : goal.returns-then-is_empty-clause-next
returns-then-is_empty-clause-next c = λ header before h. nothing_left (context header before) c.args.rest.now (search rules)

pub returns-in_err-next-clause-next : goal.returns-in_err-next-clause-next
returns-in_err-next-clause-next c = λ header before h.
    let k : IsNext (context_of c.args.position.now) c.args.rest.now c.from_residual.result = search rules in
    let e : IsErr c.from_residual.result = search rules in
    judged_next header before c.args.rest.now c.args.builder.now c.from_residual.result e
    (next_there c.args.position.now (context header before) c.args.rest.now c.from_residual.result h.sums k)

-- The result of `judge` is the result of the next token in the context of the tokens before.
judged : (c : In_ok-next) (header : List ℕ) (before : List (List ℕ)) → BuildsGraph header before c.args.position.now c.args.builder.now → IsNext (context header before) c.args.rest.now (Ok c.in_ok-next.next)
judged c header before h = next_there c.args.position.now (context header before) c.args.rest.now (Ok c.in_ok-next.next) h.sums c.in_ok-next.ensures

-- The totals after the token have consumed the bytes of the token.
length_is : (c : In_ok-next) → c.in_ok-next.next.taken ≡ c.args.position.now.taken + raw_length c.args.rest.now
length_is c =
    let h = c.requires.leads.2 in
    let at = context c.requires.leads.0 c.requires.leads.1 in
    let j = judged c c.requires.leads.0 c.requires.leads.1 h in
    next_taken at c.args.rest.now c.args.position.now c.in_ok-next.next h.sums j.2

whole : (c : In_ok-next) → raw_length c.args.rest.now ≤ length c.args.rest.now
whole c = (judged c c.requires.leads.0 c.requires.leads.1 c.requires.leads.2).1

pub overflow_sub-len : goal.overflow_sub-len
overflow_sub-len c = omega (arith, length_is (goal.at.overflow_sub-len c).In_ok-next)

pub slice_bounds-add-end : goal.slice_bounds-add-end
slice_bounds-add-end c =
    let d = (goal.at.slice_bounds-add-end c).In_ok-next in
    sym (length-take-le (c.in_ok-next.next.taken - c.args.position.now.taken) c.args.rest.now (omega (arith, length_is d, whole d)))

pub add-requires-clause-small : goal.add-requires-clause-small
add-requires-clause-small c =
    let d = (goal.at.add-requires-clause-small c).In_ok-next in
    let rest = c.args.rest.now in
    let next = c.in_ok-next.next in
    let len : raw_length rest ≡ next.taken - c.args.position.now.taken = omega (arith, length_is d) in
    let few : next.pending < 2 ^ 53 = omega (arith, next.room, next.short) in
    let at = context c.requires.leads.0 c.requires.leads.1 in
    let j = judged d c.requires.leads.0 c.requires.leads.1 c.requires.leads.2 in
    let fits : of_object fields (raw_measure rest) < 2 ^ 53 = next_fields at rest c.args.position.now next c.requires.leads.2.sums j.2 c.requires.«open» few in
    subst (λ n. of_object fields (raw_measure (take n rest)) < 2 ^ 53) len
    (subst (λ m. of_object fields m < 2 ^ 53) (sym (raw_measure-take (raw_length rest) rest (omega arith))) fits)

pub add-requires-clause-fits : goal.add-requires-clause-fits
add-requires-clause-fits c =
    let d = (goal.at.add-requires-clause-fits c).In_ok-next in
    let rest = c.args.rest.now in
    let next = c.in_ok-next.next in
    let len : raw_length rest ≡ next.taken - c.args.position.now.taken = omega (arith, length_is d) in
    let h = c.requires.leads in
    let j = judged d h.0 h.1 h.2 in
    let fits = next_fits h.0 h.1 c.args.position.now next c.args.builder.now rest h.2 j.2 next.within64 in
    subst (λ n. Fits c.args.builder.now (raw_measure (take n rest))) len
    (subst (Fits c.args.builder.now) (sym (raw_measure-take (raw_length rest) rest (omega arith))) fits)

pub add-requires-clause-encoded : goal.add-requires-clause-encoded
add-requires-clause-encoded c =
    let d = (goal.at.add-requires-clause-encoded c).In_ok-next in
    let rest = c.args.rest.now in
    let len : raw_length rest ≡ c.in_ok-next.next.taken - c.args.position.now.taken = omega (arith, length_is d) in
    let bytes = are_bytes rest (λ i. omega (arith, c.type_inv.rest i)) in
    let h = c.requires.leads.2 in
    let j = judged d c.requires.leads.0 c.requires.leads.1 h in
    subst (λ n. (t : Token) × Encodes t (take n rest) × RefersBack t (length c.args.builder.now.built.objects)) len
    (next_encoded c.requires.leads.0 c.requires.leads.1 c.args.position.now c.args.builder.now rest bytes h j.0 j.1)

pub returns-clause-next : goal.returns-clause-next
returns-clause-next c = λ header before h.
    let d = (goal.at.returns-clause-next c).In_ok-next in
    let rest = c.args.rest.now in
    let next = c.in_ok-next.next in
    let len : next.taken - c.args.position.now.taken ≡ raw_length rest = omega (arith, length_is d) in
    let bytes = are_bytes rest (λ i. omega (arith, c.type_inv.rest i)) in
    let j = judged d header before h in
    let adds : (t : Token) → Encodes t (take (next.taken - c.args.position.now.taken) rest) → c.add.new.builder ≡ absorb_in c.args.builder.now t = search rules in (
      j.0,
      j.1,
      next_leads header before c.args.position.now next c.args.builder.now c.add.new.builder rest bytes c.requires.«open» h j.0 j.1 j.2
          (subst (λ n. (t : Token) → Encodes t (take n rest) → c.add.new.builder ≡ absorb_in c.args.builder.now t) len adds),
    )
