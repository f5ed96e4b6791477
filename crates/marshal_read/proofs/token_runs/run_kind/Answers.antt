use Rattle.std.proofs.Common.{rules, ◌≡◌, ℕ, ◌+◌, ◌≤◌, ◌<◌, List, None, true, length, take, drop, get_or, sym, subst, ap, ◌∙◌, arith, refl}
use Rattle.base_data.specs.declared.model.header.Head.{Head}
use Rattle.base_data.proofs.model.Numbers.{are_bytes}
use Rattle.marshal_spec.specs.format.Raw.{fixed_bytes, variable_bytes, measure_after}
use Rattle.marshal_spec.specs.format.Words.{of_object, words32, words64}
use Rattle.marshal_spec.specs.format.Step.{field_refusal}
use Rattle.marshal_spec.specs.format.Token.{Token, EncodesAfter}
use Rattle.marshal_spec.proofs.format.FormatKindLemmas.{IsKind-kind_of}
use Rattle.marshal_spec.proofs.format.RawLemmas.{fields_fit, measure_after-take}
use Rattle.marshal_read.specs.declared.remaining_room.RemainingRoom.{RemainingRoom}
use Rattle.marshal_read.specs.declared.read_totals.ReadTotals.{ReadTotals}
use Rattle.marshal_read.specs.Totals.{PassesTo, Advances, AreFew, context_of, IsPlain}
use Rattle.marshal_read.specs.Build.{Fits, absorb_in}
use Rattle.marshal_read.specs.Left.{LeavesRoom, StandsInRun, RunsTokens, StaysPending, KeepsRoom, HasEnough}
use Rattle.marshal_read.specs.Contents.{EncodesTokenAfter}
use Rattle.marshal_read.proofs.ReaderSizeLemmas.{few_words32, few_words64}
use Rattle.marshal_read.proofs.ReaderRunLemmas.{run_goes_on, extra_room}
use Rattle.marshal_read.proofs.ReaderNextLemmas.{objects_built}
use Rattle.marshal_read.proofs.CommonLemmas.{advance_fits, common_taken, common_encoded, passes_from}
use Rattle.marshal_read.proofs.token_runs.run_kind.Goals as goal
use Rattle.marshal_read.proofs.token_runs.run_kind.Goals.{After-spend}
use Rattle.marshal_read.proofs.token_runs.run_kind.Given.{Over}

-- The kind satisfies its invariant, because some code has the kind.
pub invariant_of-known : goal.invariant_of-known
invariant_of-known g c = record { known = IsKind-kind_of (get_or c.args.bytes.now 0 0) c.args.kind c.requires.kind }

pub spend-requires-clause-room : goal.spend-requires-clause-room
spend-requires-clause-room g c =
    let r = c.requires.runs in
    let rest = c.after_code-rest.result.now in
    let measure : c.measure_at.result ≡ measure_after c.args.kind rest = search rules in
    let words : of_object words32 (measure_after c.args.kind rest) ≤ r.5.w32 = omega (arith, r.8.1, few_words32 c.args.kind rest, c.in-Some.ensures.len, c.in-Some.ensures.room) in
    extra_room r.4 r.5 c.args.now.now (of_object words32 c.measure_at.result) r.7 (subst (λ o. of_object words32 o ≤ r.5.w32) (sym measure) words)

-- The length `len` is the number of fixed and variable bytes after the token's code.
len_is : {g : Over} (c : After-spend g) → c.in-Some.len ≡ fixed_bytes c.args.kind + variable_bytes c.args.kind (drop 1 c.args.bytes.now)
len_is c = let e : c.in-Some.len ≡ fixed_bytes c.args.kind + variable_bytes c.args.kind c.after_code-rest.result.now = search rules in
    subst (λ rest. c.in-Some.len ≡ fixed_bytes c.args.kind + variable_bytes c.args.kind rest) c.after_code-rest.ensures e

-- If the token leaves a value pending in the run, then the totals advance by the token.
moved : {g : Over} (c : After-spend g) → c.spend.result ≡ true → (n : ℕ) (header : List ℕ) (before : List (List ℕ)) (position : ReadTotals) (from left : RemainingRoom) → StandsInRun c.args.first.now n header before position left c.args.builder.now
    → RunsTokens from left c.args.now.now → HasEnough left
    → (next : ReadTotals) × (left' : RemainingRoom) × LeavesRoom c.args.first.now (n + (1 + c.in-Some.len)) next left' × RunsTokens from left' c.spend.new.self × KeepsRoom left (1 + c.in-Some.len) left'
    × Advances position (1 + c.in-Some.len) (measure_after c.args.kind c.after_code-rest.result.now) next true
moved c e n header before position from left h runs enough =
    let rest = c.after_code-rest.result.now in
    let l : 1 + fixed_bytes c.args.kind + variable_bytes c.args.kind rest ≡ 1 + c.in-Some.len = omega (arith, c.in-Some.ensures.len) in
    let goes : StaysPending c.args.now.now (measure_after c.args.kind rest) c.spend.new.self = search rules in
    run_goes_on c.args.first.now position n (1 + c.in-Some.len) from left c.args.now.now c.spend.new.self (measure_after c.args.kind rest) h.leaves runs enough c.requires.«open» (omega arith)
    c.in-Some.ensures.room c.in-Some.ensures.few goes
    (subst (AreFew words32 (measure_after c.args.kind rest)) l (few_words32 c.args.kind rest))
    (subst (AreFew words64 (measure_after c.args.kind rest)) l (few_words64 c.args.kind rest))

-- If the totals advance by the token, then the token passes.
passes : {g : Over} (c : After-spend g) → (n : ℕ) (header : List ℕ) (before : List (List ℕ)) (position next : ReadTotals) (left : RemainingRoom) → StandsInRun c.args.first.now n header before position left c.args.builder.now
    → Advances position (1 + c.in-Some.len) (measure_after c.args.kind c.after_code-rest.result.now) next true → PassesTo position (get_or c.args.bytes.now 0 0) c.args.kind (drop 1 c.args.bytes.now) next
passes c n header before position next left h advances =
    let rest = c.after_code-rest.result.now in
    let l : c.in-Some.len ≡ fixed_bytes c.args.kind + variable_bytes c.args.kind rest = search rules in
    let within : c.in-Some.len ≤ length rest = search rules in
    let plain : IsPlain c.args.kind = search rules in
    let stated = ap (λ (t : Head). t.objects) h.leaves.head in
    let many : position.objects ≡ c.count-objects.result = sym (c.count-objects.ensures ∙ objects_built header before position c.args.builder.now h.builds ∙ h.builds.sums.objects) in
    let sound : field_refusal (context_of position) (get_or c.args.bytes.now 0 0) c.args.kind rest ≡ None = c.in-Some.ensures.sound (context_of position) (get_or c.args.bytes.now 0 0) stated many in
    subst (λ r. PassesTo position (get_or c.args.bytes.now 0 0) c.args.kind r next) c.after_code-rest.ensures
    (passes_from position next (get_or c.args.bytes.now 0 0) c.args.kind rest c.in-Some.len (measure_after c.args.kind rest) l within plain sound refl advances)

-- The first `len` bytes after the code are the token's fixed and variable bytes.
after_code : {g : Over} (c : After-spend g) → take (fixed_bytes c.args.kind + variable_bytes c.args.kind (drop 1 c.args.bytes.now)) (drop 1 c.args.bytes.now) ≡ take c.in-Some.len c.after_code-rest.result.now
after_code c = ap (λ n. take n (drop 1 c.args.bytes.now)) (sym (len_is c)) ∙ ap (take c.in-Some.len) (sym c.after_code-rest.ensures)

pub decode_in_room-requires-clause-fits : goal.decode_in_room-requires-clause-fits
decode_in_room-requires-clause-fits g c =
    let d = (goal.at.decode_in_room-requires-clause-fits g c).After-spend in
    let rest = c.after_code-rest.result.now in
    let r = c.requires.runs in
    let m = moved d (search rules) r.0 r.1 r.2 r.3 r.4 r.5 r.6 r.7 r.8 in
    let fits = advance_fits r.1 r.2 r.3 m.0 c.args.builder.now (1 + c.in-Some.len) (measure_after c.args.kind rest) r.6.builds m.5.1 in
    let l : c.in-Some.len ≡ fixed_bytes c.args.kind + variable_bytes c.args.kind rest = search rules in
    subst (Fits c.args.builder.now) (sym (measure_after-take c.args.kind c.in-Some.len rest (omega (arith, fields_fit c.args.kind)))) fits

pub decode_in_room-requires-clause-encoded : goal.decode_in_room-requires-clause-encoded
decode_in_room-requires-clause-encoded g c =
    let d = (goal.at.decode_in_room-requires-clause-encoded g c).After-spend in
    let r = c.requires.runs in
    let m = moved d (search rules) r.0 r.1 r.2 r.3 r.4 r.5 r.6 r.7 r.8 in
    let is_open : 0 < r.3.pending = omega (arith, r.6.leaves.pending, r.7.pending, c.requires.«open») in
    subst (λ xs. EncodesTokenAfter c.args.kind xs (length c.args.builder.now.built.objects)) (after_code d)
    (common_encoded r.1 r.2 r.3 m.0 c.args.builder.now c.args.builder.now c.args.bytes.now (are_bytes c.args.bytes.now c.type_inv.bytes) c.requires.some is_open r.6.builds
    c.args.kind c.requires.kind (passes d r.0 r.1 r.2 r.3 m.0 r.5 r.6 m.5))

pub returns : goal.returns
returns g c = λ n header before position from left h runs enough.
    let d = (goal.at.returns g c).After-spend in
    let m = moved d (search rules) n header before position from left h runs enough in
    let is_open : 0 < position.pending = omega (arith, h.leaves.pending, runs.pending, c.requires.«open») in
    let goes : StaysPending c.args.now.now (measure_after c.args.kind c.after_code-rest.result.now) c.spend.new.self = search rules in
    let adds : (t : Token) → EncodesAfter c.args.kind (take c.in-Some.len c.after_code-rest.result.now) t → c.decode_in_room.new.builder ≡ absorb_in c.args.builder.now t = search rules in (
      λ none. absurd (omega arith),
      λ some. (
        m.0,
        m.1,
        m.2,
        m.3,
        m.4,
        goes.some,
        common_taken header before position m.0 c.args.builder.now c.decode_in_room.new.builder c.args.bytes.now (are_bytes c.args.bytes.now c.type_inv.bytes) c.requires.some is_open h.builds
            c.args.kind (1 + c.in-Some.len) (omega (arith, len_is d)) c.requires.kind (passes d n header before position m.0 left h m.5) (λ t s. adds t (subst (λ xs. EncodesAfter c.args.kind xs t) (after_code d) s)),
      ),
    )
