-- The result of the steps of a token.
use Rattle.std.proofs.Common.{ℕ, suc, ◌≡◌, ◌+◌, ◌<◌, ◌≤◌, List, [], ◌∷◌, ◌++◌, length, take, drop, get_or, Bool, true, false, Option, Some, None, Result, Ok, Err, cond, ltb, arith, refl, ap, sym, ◌∙◌, subst, add-one}
use Rattle.std.proofs.lemmas.Bool.{ltb-true, le-ltb}
use Rattle.std.specs.Prelude.{IsErr}
use Rattle.base_data.specs.declared.model.refusal.ReadRefusal.{ReadRefusal}
use Rattle.base_data.specs.declared.model.code.CodeKind.{CodeKind}
use Rattle.base_data.specs.declared.model.code.CodeFault.{CodeFault}
use Rattle.base_data.specs.declared.model.code.Measure.{Measure}
use Rattle.marshal_spec.specs.format.Code.{kind_of, custom_of}
use Rattle.marshal_spec.specs.format.Words.{one_more}
use Rattle.marshal_spec.specs.format.Raw.{raw_length, raw_measure, fixed_bytes, variable_bytes, measure_after}
use Rattle.marshal_spec.specs.format.Step.{Context, Step, position, or_else, first_refusal, token_steps, entry_steps, variable_steps, closing_steps, code_refusal}
use Rattle.marshal_spec.proofs.format.FormatStepLemmas.{EndWithin}
use Rattle.marshal_spec.proofs.format.RawLemmas.{raw_length-ok, raw_measure-ok}
use Rattle.marshal_spec.proofs.format.TokenStepLemmas.{token_steps-ok, token_steps-err, token_steps-within}
use Rattle.marshal_read.specs.declared.unread.Unread.{Unread}
use Rattle.marshal_read.specs.declared.unread.Unread.TheVariants.{NeedMore, Refused}
use Rattle.marshal_read.specs.declared.read_totals.ReadTotals.{ReadTotals}
use Rattle.marshal_read.specs.Totals.{IsNext, after, after_kind}
use Rattle.marshal_read.specs.Progress.{Progress, passed, waiting, failed, and_then, once, progress, answered}
use Rattle.marshal_read.proofs.TotalsLemmas.{progress-append}

-- ---- progress and the first refusal

-- What the progress of steps states about the first refusal of the steps.
abbrev pub Reports : Progress → Option ReadRefusal → Type 0
Reports passed o = o ≡ None
Reports waiting o = o ≡ None
Reports (failed r) o = o ≡ Some r

reports_once : (b : Bool) (o : Option ReadRefusal) (p : Progress) (first : Option ReadRefusal) → Reports p first
    → Reports (and_then (once b o) p) (cond b None (or_else o first))
reports_once true o p first h = refl
reports_once false None p first h = h
reports_once false (Some r) p first h = refl

pub progress-reports : (n : ℕ) (steps : List Step) → Reports (progress n steps) (first_refusal n steps)
progress-reports n [] = refl
progress-reports n (s ∷ steps) = reports_once (ltb n s.ends) s.refusal (progress n steps) (first_refusal n steps) (progress-reports n steps)

-- If a first decided step and other steps wait, then the other steps wait.
waiting_once : (b : Bool) (o : Option ReadRefusal) (p : Progress) → and_then (once b o) p ≡ waiting → (b ≡ true → ⊥) → p ≡ waiting
waiting_once true o p e not_true = absurd (not_true refl)
waiting_once false None p e not_true = e
waiting_once false (Some r) p e not_true = cc

waiting_at : (low high n : ℕ) (s : Step) (steps : List Step) (b : Bool) → ltb n s.ends ≡ b → s.ends ≤ high
    → (progress n steps ≡ waiting → n < high) → and_then (once b s.refusal) (progress n steps) ≡ waiting → n < high
waiting_at low high n s steps true e h more w = let lt : n < s.ends = ltb-true n s.ends e in omega arith
waiting_at low high n s steps false e h more w = more (waiting_once false s.refusal (progress n steps) w (λ t. cc))

pub waiting_short : (low high n : ℕ) (steps : List Step) → EndWithin low high steps → progress n steps ≡ waiting → n < high
waiting_short low high n [] within w = cc
waiting_short low high n (s ∷ steps) within w =
    waiting_at low high n s steps (ltb n s.ends) refl within.1 (waiting_short low high n steps within.2) w

-- ---- a token

-- The progress of the groups of steps, one after another, is the progress of the token's steps.
pub steps_are : (c : Context) (code : ℕ) (kind : CodeKind) (rest : List ℕ) → kind_of code ≡ Ok kind
    → and_then (progress (length rest + 1) (entry_steps c code kind rest))
    (and_then (progress (length rest + 1) (variable_steps c kind (custom_of (take 3 rest)) rest)) (progress (length rest + 1) (closing_steps c kind rest)))
    ≡ progress (length (code ∷ rest)) (token_steps c (code ∷ rest))
steps_are c code kind rest e =
    let n : ℕ = length rest + 1 in
    let two = progress-append n (variable_steps c kind (custom_of (take 3 rest)) rest) (closing_steps c kind rest) in
    let all = progress-append n (entry_steps c code kind rest) (variable_steps c kind (custom_of (take 3 rest)) rest ++ closing_steps c kind rest) in
    sym (ap (and_then (progress n (entry_steps c code kind rest))) two)
    ∙ sym all
    ∙ sym (ap (progress n) (token_steps-ok c code kind rest e))
    ∙ ap (λ m. progress m (token_steps c (code ∷ rest))) (add-one (length rest))

-- Case: the result of a token's steps is an error.
pub judged_stop : (c : Context) (bytes : List ℕ) (x : Result ReadTotals Unread) → answered x ≡ progress (length bytes) (token_steps c bytes) → IsErr x → IsNext c bytes x
judged_stop c bytes (Ok next) e h = cc
judged_stop c bytes (Err NeedMore) e h = (
  subst (λ p. Reports p (first_refusal (length bytes) (token_steps c bytes))) (sym e) (progress-reports (length bytes) (token_steps c bytes)),
  waiting_short 1 (raw_length bytes) (length bytes) (token_steps c bytes) (token_steps-within c bytes) (sym e),
)
judged_stop c bytes (Err (Refused r)) e h =
    subst (λ p. Reports p (first_refusal (length bytes) (token_steps c bytes))) (sym e) (progress-reports (length bytes) (token_steps c bytes))

-- Case: all steps of a token pass.
pub judged_pass : (c : Context) (bytes : List ℕ) → passed ≡ progress (length bytes) (token_steps c bytes) → first_refusal (length bytes) (token_steps c bytes) ≡ None
judged_pass c bytes e = subst (λ p. Reports p (first_refusal (length bytes) (token_steps c bytes))) (sym e) (progress-reports (length bytes) (token_steps c bytes))

-- Case: a code begins no token, and the first step refuses the code.
pub judged_fault : (c : Context) (code : ℕ) (fault : CodeFault) (rest : List ℕ) → kind_of code ≡ Err fault
    → first_refusal (length (code ∷ rest)) (token_steps c (code ∷ rest)) ≡ Some (code_refusal fault (position c) code)
judged_fault c code fault rest e = rw (token_steps-err c code fault rest e) (rw (le-ltb (suc (length rest)) 1 (omega arith)) refl)

-- ---- the same for bytes that begin with the token

pub bytes_steps_are : (c : Context) (bytes : List ℕ) (code : ℕ) (rest : List ℕ) (kind : CodeKind) → 0 < length bytes → code ≡ get_or bytes 0 0 → rest ≡ drop 1 bytes
    → kind_of code ≡ Ok kind
    → and_then (progress (length rest + 1) (entry_steps c code kind rest))
    (and_then (progress (length rest + 1) (variable_steps c kind (custom_of (take 3 rest)) rest)) (progress (length rest + 1) (closing_steps c kind rest)))
    ≡ progress (length bytes) (token_steps c bytes)
bytes_steps_are c [] code rest kind some d r e = absurd (omega arith)
bytes_steps_are c (b ∷ bytes) code rest kind some d r e =
    steps_are c code kind rest e ∙ ap (λ (p : ℕ × List ℕ). progress (length (p.0 ∷ p.1)) (token_steps c (p.0 ∷ p.1))) (let same : (code, rest) ≡ (b, bytes) = cc in same)

pub bytes_fault : (c : Context) (bytes : List ℕ) (fault : CodeFault) → 0 < length bytes → kind_of (get_or bytes 0 0) ≡ Err fault
    → first_refusal (length bytes) (token_steps c bytes) ≡ Some (code_refusal fault (position c) (get_or bytes 0 0))
bytes_fault c [] fault some e = absurd (omega arith)
bytes_fault c (code ∷ rest) fault some e = judged_fault c code fault rest e

pub bytes_length : (bytes : List ℕ) (kind : CodeKind) → 0 < length bytes → kind_of (get_or bytes 0 0) ≡ Ok kind
    → raw_length bytes ≡ 1 + fixed_bytes kind + variable_bytes kind (drop 1 bytes)
bytes_length [] kind some e = absurd (omega arith)
bytes_length (code ∷ rest) kind some e = let h = raw_length-ok code kind rest e in omega arith

pub bytes_after : (c : Context) (bytes : List ℕ) (kind : CodeKind) → 0 < length bytes → kind_of (get_or bytes 0 0) ≡ Ok kind
    → after_kind c kind (drop 1 bytes) ≡ after c bytes
bytes_after c [] kind some e = absurd (omega arith)
bytes_after c (code ∷ rest) kind some e =
    let n = bytes_length (code ∷ rest) kind some e in
    let m = raw_measure-ok code kind rest e in
    ap (λ (p : ℕ × Option Measure). record c { taken = c.taken + p.0; sums = one_more c.sums p.1 })
    (let same : (1 + fixed_bytes kind + variable_bytes kind rest, measure_after kind rest) ≡ (raw_length (code ∷ rest), raw_measure (code ∷ rest)) = cc in same)
