-- The steps of a complete token that the token's own bytes do not decide. These steps concern the
-- offset of a reference, the pending values, the words, and the end of the value.
use Rattle.std.specs.Prelude.{ℕ, ◌==◌, nat_lt, List, [], ◌∷◌, Option, None, if◌then◌else◌}
use Rattle.base_data.specs.declared.model.refusal.ReadRefusal.{ReadRefusal}
use Rattle.base_data.specs.declared.model.code.Measure.{Measure}
use Rattle.marshal_spec.specs.format.Words.{one_more}
use Rattle.marshal_spec.specs.format.Step.{Step, step, Context, position, overlong, shared_refusal}
use Rattle.marshal_spec.specs.format.Step.{words32_refusal, words64_refusal, end_steps}
use Rattle.marshal_codec.specs.declared.token.summary.Summary.{Summary}
use Rattle.marshal_codec.specs.declared.token.summary.Summary.TheVariants as summaries
use Rattle.marshal_codec.specs.token.Summary.{summary_measure}

-- The refusal of a reference. Other tokens have no fields that the tokens before them decide.
abbrev pub reference_refusal : Context → Summary → Option ReadRefusal
reference_refusal c (summaries.Shared offset) = shared_refusal c offset
reference_refusal c summary = None

-- The closing steps of a token of `n` bytes whose object has this measure. The first `sized` bytes
-- of the token decide the measure.
abbrev pub closing : Context → ℕ → ℕ → Option Measure → List Step
closing c sized n measure =
    let all = one_more c.sums measure in
    step sized (overlong c all.pending n)
    ∷ step sized (words32_refusal nat_lt (position c) c.head all.w32)
    ∷ step sized (words64_refusal nat_lt (position c) c.head all.w64)
    ∷ (if all.pending == 0 then end_steps c n all else [])

-- The steps of a token of `n` bytes with this summary that the token's own bytes do not decide.
abbrev pub remaining_steps : Context → Summary → ℕ → List Step
remaining_steps c summary n =
    step n (reference_refusal c summary) ∷ closing c n n (summary_measure summary)
