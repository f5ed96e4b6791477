use Rattle.std.proofs.Common.{rules, ◌≡◌, ℕ, ◌+◌, ◌≤◌, ◌<◌, List, None, true, length, take, drop, get_or, sym, subst, subst₂, ap, ◌∙◌, Option, arith, refl}
use Rattle.base_data.specs.declared.model.header.Head.{Head}
use Rattle.base_data.specs.declared.model.code.Measure.{Measure}
use Rattle.base_data.proofs.model.Numbers.{are_bytes}
use Rattle.marshal_spec.specs.format.Raw.{fixed_bytes, variable_bytes, measure_after}
use Rattle.marshal_spec.specs.format.Words.{of_object, words32, words64}
use Rattle.marshal_spec.specs.format.Step.{field_refusal}
use Rattle.marshal_spec.specs.format.Token.{Token, EncodesAfter}
use Rattle.marshal_spec.proofs.format.FormatKindLemmas.{IsKind-kind_of}
use Rattle.marshal_spec.proofs.format.RawLemmas.{fields_fit, measure_after-take}
use Rattle.marshal_read.specs.declared.read_totals.ReadTotals.{ReadTotals}
use Rattle.marshal_read.specs.Totals.{PassesTo, Advances, AreFew, context_of, IsPlain}
use Rattle.marshal_read.specs.Build.{Fits, absorb_in}
use Rattle.marshal_read.specs.Left.{LeavesRoom, StandsInRun, SpendsRoom, IsSpent}
use Rattle.marshal_read.specs.Contents.{EncodesTokenAfter}
use Rattle.marshal_read.proofs.ReaderSizeLemmas.{few_words32, few_words64}
use Rattle.marshal_read.proofs.ReaderLeftLemmas.{goes_on}
use Rattle.marshal_read.proofs.ReaderNextLemmas.{objects_built}
use Rattle.marshal_read.proofs.CommonLemmas.{advance_fits, common_taken, common_encoded, passes_from}
use Rattle.marshal_read.proofs.common.take_kind.Goals as goal
use Rattle.marshal_read.proofs.common.take_kind.Goals.{After-is_sound}
use Rattle.marshal_read.proofs.common.take_kind.Given.{Over}

-- The kind satisfies its invariant, because some code has the kind.
pub invariant_of-known : goal.invariant_of-known
invariant_of-known g c = record { known = IsKind-kind_of (get_or c.args.bytes.now 0 0) c.args.kind c.requires.kind }

-- The length `len` is the number of fixed and variable bytes after the token's code.
len_is : {g : Over} (c : After-is_sound g) → c.in-Some.len ≡ fixed_bytes c.args.kind + variable_bytes c.args.kind (drop 1 c.args.bytes.now)
len_is c = let e : c.in-Some.len ≡ fixed_bytes c.args.kind + variable_bytes c.args.kind c.skip-rest.result.now = search rules in
    subst (λ rest. c.in-Some.len ≡ fixed_bytes c.args.kind + variable_bytes c.args.kind rest) c.skip-rest.ensures e

-- The totals count as many objects as the builder has.
counted : {g : Over} (c : After-is_sound g) (n : ℕ) (header : List ℕ) (before : List (List ℕ)) (position : ReadTotals) → StandsInRun c.args.first.now n header before position c.args.left.now c.args.builder.now
    → position.objects ≡ c.count-objects.result
counted c n header before position h = sym (c.count-objects.ensures ∙ objects_built header before position c.args.builder.now h.builds ∙ h.builds.sums.objects)

-- If the token fits the remaining room, then the totals advance by the token.
moved : {g : Over} (c : After-is_sound g) → c.spend.result ≡ true → c.is_sound.result ≡ true → (n : ℕ) (header : List ℕ) (before : List (List ℕ)) (position : ReadTotals) → StandsInRun c.args.first.now n header before position c.args.left.now c.args.builder.now
    → (next : ReadTotals) × LeavesRoom c.args.first.now (n + (1 + c.in-Some.len)) next c.spend.new.self × Advances position (1 + c.in-Some.len) (measure_after c.args.kind c.skip-rest.result.now) next true
moved c e sound n header before position h =
    let rest = c.skip-rest.result.now in
    let l : 1 + fixed_bytes c.args.kind + variable_bytes c.args.kind rest ≡ 1 + c.in-Some.len = omega (arith, c.in-Some.ensures.len) in
    let spends : SpendsRoom c.args.left.now (1 + c.in-Some.len) (measure_after c.args.kind rest) c.spend.new.self = search rules in
    let measure : c.measure_at-measure.result ≡ measure_after c.args.kind rest = search rules in
    let many : position.objects ≡ c.count-objects.result = counted c n header before position h in
    let spent : c.spend.new.self.pending ≡ 0 → IsSpent c.args.first.now.head (position.objects + of_object (λ _. 1) (measure_after c.args.kind rest)) c.spend.new.self =
    λ last. subst₂ (λ (k : ℕ) (o : Option Measure). IsSpent c.args.first.now.head (k + of_object (λ _. 1) o) c.spend.new.self) (sym many) measure (c.is_sound.ensures sound last) in
    goes_on c.args.first.now position n (1 + c.in-Some.len) c.args.left.now c.spend.new.self (measure_after c.args.kind rest) h.leaves c.requires.«open» (omega arith) spends spent
    (subst (AreFew words32 (measure_after c.args.kind rest)) l (few_words32 c.args.kind rest))
    (subst (AreFew words64 (measure_after c.args.kind rest)) l (few_words64 c.args.kind rest))

-- If the totals advance by the token, then the token passes.
passes : {g : Over} (c : After-is_sound g) → (n : ℕ) (header : List ℕ) (before : List (List ℕ)) (position next : ReadTotals) → StandsInRun c.args.first.now n header before position c.args.left.now c.args.builder.now
    → Advances position (1 + c.in-Some.len) (measure_after c.args.kind c.skip-rest.result.now) next true → PassesTo position (get_or c.args.bytes.now 0 0) c.args.kind (drop 1 c.args.bytes.now) next
passes c n header before position next h advances =
    let rest = c.skip-rest.result.now in
    let l : c.in-Some.len ≡ fixed_bytes c.args.kind + variable_bytes c.args.kind rest = search rules in
    let within : c.in-Some.len ≤ length rest = search rules in
    let plain : IsPlain c.args.kind = search rules in
    let stated = ap (λ (t : Head). t.objects) h.leaves.head in
    let many = counted c n header before position h in
    let sound : field_refusal (context_of position) (get_or c.args.bytes.now 0 0) c.args.kind rest ≡ None = c.in-Some.ensures.sound (context_of position) (get_or c.args.bytes.now 0 0) stated many in
    subst (λ r. PassesTo position (get_or c.args.bytes.now 0 0) c.args.kind r next) c.skip-rest.ensures
    (passes_from position next (get_or c.args.bytes.now 0 0) c.args.kind rest c.in-Some.len (measure_after c.args.kind rest) l within plain sound refl advances)

-- The first `len` bytes after the code are the token's fixed and variable bytes.
after_code : {g : Over} (c : After-is_sound g) → take (fixed_bytes c.args.kind + variable_bytes c.args.kind (drop 1 c.args.bytes.now)) (drop 1 c.args.bytes.now) ≡ take c.in-Some.len c.skip-rest.result.now
after_code c = ap (λ n. take n (drop 1 c.args.bytes.now)) (sym (len_is c)) ∙ ap (take c.in-Some.len) (sym c.skip-rest.ensures)

pub decode_in_room-requires-clause-fits : goal.decode_in_room-requires-clause-fits
decode_in_room-requires-clause-fits g c =
    let d = (goal.at.decode_in_room-requires-clause-fits g c).After-is_sound in
    let rest = c.skip-rest.result.now in
    let r = c.requires.stands in
    let m = moved d (search rules) (search rules) r.0 r.1 r.2 r.3 r.4 in
    let fits = advance_fits r.1 r.2 r.3 m.0 c.args.builder.now (1 + c.in-Some.len) (measure_after c.args.kind rest) r.4.builds m.2.1 in
    let l : c.in-Some.len ≡ fixed_bytes c.args.kind + variable_bytes c.args.kind rest = search rules in
    subst (Fits c.args.builder.now) (sym (measure_after-take c.args.kind c.in-Some.len rest (omega (arith, fields_fit c.args.kind)))) fits

pub decode_in_room-requires-clause-encoded : goal.decode_in_room-requires-clause-encoded
decode_in_room-requires-clause-encoded g c =
    let d = (goal.at.decode_in_room-requires-clause-encoded g c).After-is_sound in
    let r = c.requires.stands in
    let m = moved d (search rules) (search rules) r.0 r.1 r.2 r.3 r.4 in
    let is_open : 0 < r.3.pending = omega (arith, r.4.leaves.pending) in
    subst (λ xs. EncodesTokenAfter c.args.kind xs (length c.args.builder.now.built.objects)) (after_code d)
    (common_encoded r.1 r.2 r.3 m.0 c.args.builder.now c.args.builder.now c.args.bytes.now (are_bytes c.args.bytes.now c.type_inv.bytes) c.requires.some is_open r.4.builds
    c.args.kind c.requires.kind (passes d r.0 r.1 r.2 r.3 m.0 r.4 m.2))

pub returns : goal.returns
returns g c = λ n header before position h.
    let d = (goal.at.returns g c).After-is_sound in
    let m = moved d (search rules) (search rules) n header before position h in
    let is_open : 0 < position.pending = omega (arith, h.leaves.pending) in
    let adds : (t : Token) → EncodesAfter c.args.kind (take c.in-Some.len c.skip-rest.result.now) t → c.decode_in_room.new.builder ≡ absorb_in c.args.builder.now t = search rules in (
      λ none. absurd (omega arith),
      λ some. (
        m.0,
        m.1,
        common_taken header before position m.0 c.args.builder.now c.decode_in_room.new.builder c.args.bytes.now (are_bytes c.args.bytes.now c.type_inv.bytes) c.requires.some is_open h.builds
            c.args.kind (1 + c.in-Some.len) (omega (arith, len_is d)) c.requires.kind (passes d n header before position m.0 h m.2) (λ t s. adds t (subst (λ xs. EncodesAfter c.args.kind xs t) (after_code d) s)),
      ),
    )
