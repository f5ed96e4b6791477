-- The result of `decode` on the data of a value agrees with the steps of the token.
use Rattle.std.proofs.Common.{ℕ, ◌≡◌, ◌∙◌, ◌+◌, ◌-◌, ◌^◌, ◌<◌, ◌≤◌, Bool, true, false, eqb, ltb, if◌then◌else◌, List, [], length, take, get_or, Option, Some, None, Result, Ok, Err, refl, sym, ap, ap₂, subst, subst₂, arith, le_refl, le-ltb, length-take, take-take, get_or-take}
use Rattle.std.specs.Prelude.{IfOk}
use Rattle.std.specs.Option.{ForSome}
use Rattle.base_data.specs.declared.model.refusal.ReadRefusal.{ReadRefusal}
use Rattle.base_data.specs.declared.model.code.CodeKind.{CodeKind}
use Rattle.base_data.specs.declared.model.code.CustomKind.{CustomKind}
use Rattle.base_data.specs.declared.model.code.CustomKind.TheVariants as customs
use Rattle.base_data.specs.declared.model.code.Measure.{Measure}
use Rattle.base_data.specs.declared.model.code.Measure.TheVariants as measures
use Rattle.marshal_spec.specs.format.Raw.{fixed_bytes, field_bytes, sizing_bytes, variable_bytes, measure_after, raw_measure}
use Rattle.marshal_spec.specs.format.Words.{one_more, of_object, fields, words32, words64}
use Rattle.marshal_spec.specs.format.Step.{Context, Step, position, overlong, words32_refusal, words64_refusal, end_steps, closing_steps, entry_steps, field_refusal, first_refusal, token_steps}
use Rattle.marshal_spec.specs.format.Token.{Encodes}
use Rattle.marshal_spec.proofs.format.FormatStepLemmas.{EndWithin, first_refusal-more}
use Rattle.marshal_spec.proofs.format.TokenStepLemmas.{token_steps-take}
use Rattle.marshal_codec.specs.headers.Counting.{IsCountable}
use Rattle.marshal_codec.specs.declared.token.summary.Summary.{Summary}
use Rattle.marshal_codec.specs.declared.token.summary.Summary.TheVariants as summaries
use Rattle.marshal_codec.specs.declared.token.token_fault.TokenFault.{TokenFault}
use Rattle.marshal_codec.specs.token.Summary.{IsSummaryBy, HasFewFields, IsFair, custom_measure, summary_measure}
use Rattle.marshal_codec.specs.token.TokenFault.{refusal_of, IsFaultBy}
use Rattle.marshal_codec.specs.token.RemainingSteps.{closing, remaining_steps}
use Rattle.marshal_codec.proofs.token.CompleteLemmas.{complete_length, complete_measure, complete_steps}
use Rattle.marshal_read.specs.declared.unread.Unread.{Unread}
use Rattle.marshal_read.specs.declared.unread.Unread.TheVariants.{NeedMore, Refused}
use Rattle.marshal_read.specs.declared.read_totals.ReadTotals.{ReadTotals}
use Rattle.marshal_read.specs.Totals.{AreTotals, AreFew, IsNext, IsSized, moved}
use Rattle.marshal_read.specs.Progress.{Progress, passed, and_then, once, progress, answered}
use Rattle.marshal_read.proofs.ReaderSizeLemmas.{raw_few32, raw_few64, raw_small}
use Rattle.marshal_read.proofs.ReaderStepLemmas.{Reports, progress-reports, waiting_short}

-- ---- the steps of a part of a token

two_pass : (b d : Bool) (o v : Option ReadRefusal) → b ≡ false → d ≡ false → o ≡ None → v ≡ None → passed ≡ and_then (once b o) (and_then (once d v) passed)
two_pass true d o v f g h k = cc
two_pass false true o v f g h k = cc
two_pass false false (Some r) v f g h k = cc
two_pass false false None (Some r) f g h k = cc
two_pass false false None None f g h k = refl

-- If the fixed bytes are data, and the fields have no fault, then the steps of the fixed bytes and
-- of the fields pass.
pub entry_passes : (c : Context) (code : ℕ) (kind : CodeKind) (rest : List ℕ) (n : ℕ) → 1 + field_bytes kind ≤ n → overlong c (fixed_bytes kind) 1 ≡ None → field_refusal c code kind rest ≡ None → passed ≡ progress n (entry_steps c code kind rest)
entry_passes c code kind rest n long room sound =
    two_pass (ltb n 1) (ltb n (1 + field_bytes kind)) (overlong c (fixed_bytes kind) 1) (field_refusal c code kind rest) (le-ltb n 1 (omega (arith, long))) (le-ltb n (1 + field_bytes kind) long) room sound

-- If the bytes that decide the closing steps have arrived, then the progress does not depend on the
-- number of these bytes.
progress_resized : (c : Context) (there sized n : ℕ) (measure : Option Measure) → sized ≤ there → progress there (closing c there n measure) ≡ progress there (closing c sized n measure)
progress_resized c there sized n measure d =
    let all = one_more c.sums measure in
    let o = overlong c all.pending n in
    let w = words32_refusal ltb (position c) c.head all.w32 in
    let v = words64_refusal ltb (position c) c.head all.w64 in
    let end = (if eqb all.pending 0 then end_steps c n all else []) in
    ap (λ b. and_then (once b o) (and_then (once b w) (and_then (once b v) (progress there end)))) (le-ltb there there (le_refl there) ∙ sym (le-ltb there sized d))

pub closed_as : (c : Context) (kind : CodeKind) (rest : List ℕ) (n there : ℕ) (measure : Option Measure) (p : Progress) → n ≡ 1 + fixed_bytes kind + variable_bytes kind rest → measure ≡ measure_after kind rest → there ≡ length rest + 1 → sizing_bytes kind rest ≤ length rest
    → p ≡ progress there (closing c there n measure) → p ≡ progress (length rest + 1) (closing_steps c kind rest)
closed_as c kind rest n there measure p size same all sized own =
    own
    ∙ (progress_resized c there (1 + sizing_bytes kind rest) n measure (omega (arith, all, sized))
    ∙ (ap₂ (λ k m. progress there (closing c (1 + sizing_bytes kind rest) k m)) size same
    ∙ ap (λ k. progress k (closing_steps c kind rest)) all))

-- ---- a token

-- If the data begin with a token with a summary, then the bytes begin with a token with that
-- summary.
lifted_by : (bytes : List ℕ) (left : ℕ) (summary : Summary) (n : ℕ) → IsSummaryBy (take left bytes) summary n → IsSummaryBy bytes summary n
lifted_by bytes left summary n by =
    let few = by.within in
    let long = length-take left bytes in
    record {
      some = by.some;
      within = omega (arith, few, long);
      token = by.token;
      encodes = subst (Encodes by.token) (take-take n left bytes (omega (arith, few, long))) by.encodes;
      is_token = by.is_token;
      is_summary = by.is_summary;
    }

few_custom : (kind : CustomKind) → fields (custom_measure kind) < 2 ^ 60
few_custom customs.Int32 = omega arith
few_custom customs.Int64 = omega arith
few_custom customs.Native = omega arith

few_summary : (summary : Summary) → HasFewFields summary → of_object fields (summary_measure summary) < 2 ^ 60
few_summary (summaries.Integer z) few = omega arith
few_summary (summaries.Atom tag) few = omega arith
few_summary (summaries.Shared offset) few = omega arith
few_summary (summaries.Block tag size) few = few
few_summary (summaries.Bytes n) few = omega arith
few_summary summaries.Double few = omega arith
few_summary (summaries.Doubles n) few = omega arith
few_summary (summaries.Custom kind) few = few_custom kind

pub fair_of : (summary : Summary) → ForSome (summary_measure summary) IsCountable → IsFair summary
fair_of (summaries.Integer z) each = tt
fair_of (summaries.Atom tag) each = tt
fair_of (summaries.Shared offset) each = tt
fair_of (summaries.Block tag size) each = each (measures.Block size) refl
fair_of (summaries.Bytes n) each = each (measures.Bytes n) refl
fair_of summaries.Double each = tt
fair_of (summaries.Doubles n) each = each (measures.Doubles n) refl
fair_of (summaries.Custom kind) each = tt

-- If the data begin with a token, then the token is sized: the data contain the token, and its
-- object can be counted.
pub decoded : (c : Context) (bytes : List ℕ) (summary : Summary) (n : ℕ) → c.taken ≤ c.head.length → c.head.length < 2 ^ 48 → IsSummaryBy (take (c.head.length - c.taken) bytes) summary n → HasFewFields summary → IsSized c (summary_measure summary) n
decoded c bytes summary n within short own few =
    let left = c.head.length - c.taken in
    let by = lifted_by bytes left summary n own in
    let size = complete_length bytes summary n by in
    let measure = complete_measure bytes summary n by in
    let long = length-take left bytes in
    let enough = own.within in
    let room : c.taken + n ≤ c.head.length = omega (arith, long, enough, within) in
    let small = few_summary summary few in
    let fewer : of_object fields (raw_measure bytes) < 2 ^ 60 = subst (λ m. of_object fields m < 2 ^ 60) (sym measure) small in
    record {
      some = by.some;
      room = room;
      small = small;
      countable = subst (λ m. ForSome m IsCountable) measure (raw_small bytes (omega (arith, size, room, short)) fewer);
      few32 = subst₂ (AreFew words32) measure size (raw_few32 bytes);
      few64 = subst₂ (AreFew words64) measure size (raw_few64 bytes);
    }

end_within : (c : Context) (n : ℕ) (b : Bool) (steps : List Step) → EndWithin 0 n steps → EndWithin 0 n (if b then steps else [])
end_within c n true steps within = within
end_within c n false steps within = tt

-- All remaining steps of a token end within the bytes of the token.
remaining_within : (c : Context) (summary : Summary) (n : ℕ) → EndWithin 0 n (remaining_steps c summary n)
remaining_within c summary n =
    let all = one_more c.sums (summary_measure summary) in
    let zero' : 0 ≤ n = omega arith in
    let same = le_refl n in
    (zero', same, (zero', same, (zero', same, (zero', same, end_within c n (eqb all.pending 0) (end_steps c n all) (zero', same, (zero', same, (zero', same, (zero', same, tt))))))))

pub complete_next : (c : Context) (bytes : List ℕ) (summary : Summary) (n : ℕ) (x : Result ReadTotals Unread) → c.taken + n ≤ c.head.length → IsSummaryBy (take (c.head.length - c.taken) bytes) summary n
    → answered x ≡ progress n (remaining_steps c summary n) → IfOk x (λ next. AreTotals next (moved c n (summary_measure summary))) → IsNext c bytes x
complete_next c bytes summary n (Ok next) room own e next_is =
    let by = lifted_by bytes (c.head.length - c.taken) summary n own in
    let size = complete_length bytes summary n by in
    let measure = complete_measure bytes summary n by in
    let within = by.within in
    let none : first_refusal n (remaining_steps c summary n) ≡ None =
    subst (λ p. Reports p (first_refusal n (remaining_steps c summary n))) (sym e) (progress-reports n (remaining_steps c summary n)) in (
      complete_steps c bytes summary n by room ∙ none,
      omega (arith, size, within),
      subst (AreTotals next) (ap₂ (moved c) (sym size) (sym measure)) next_is,
    )
complete_next c bytes summary n (Err NeedMore) room own e next_is =
    let less : n < n = waiting_short 0 n n (remaining_steps c summary n) (remaining_within c summary n) (sym e) in
    absurd (omega (arith, less))
complete_next c bytes summary n (Err (Refused r)) room own e next_is =
    let by = lifted_by bytes (c.head.length - c.taken) summary n own in
    let some : first_refusal n (remaining_steps c summary n) ≡ Some r =
    subst (λ p. Reports p (first_refusal n (remaining_steps c summary n))) (sym e) (progress-reports n (remaining_steps c summary n)) in
    complete_steps c bytes summary n by room ∙ some

-- ---- no token

pub fault_next : (c : Context) (bytes : List ℕ) (fault : TokenFault) (r : ReadRefusal) → 0 < c.head.length - c.taken → IsFaultBy (take (c.head.length - c.taken) bytes) fault → r ≡ refusal_of fault (position c) (get_or bytes 0 0)
    → first_refusal (length bytes) (token_steps c bytes) ≡ Some r
fault_next c bytes fault r some own is =
    let left = c.head.length - c.taken in
    let there = take left bytes in
    let long = length-take left bytes in
    let whole = own.whole in
    let code : get_or there 0 0 ≡ get_or bytes 0 0 = get_or-take left bytes 0 0 some in
    let refuses = own.refuses c (omega (arith, whole, long, some)) in
    first_refusal-more (length there) (length bytes) (token_steps c bytes) r (omega (arith, long))
    (sym (token_steps-take c (length there) left bytes (omega (arith, long))) ∙ (refuses ∙ ap (λ b. Some (refusal_of fault (position c) b)) code ∙ ap (λ x. Some x) (sym is)))
