-- The first `n` bytes of a token or header have the refusals of the whole token or header, as far
-- as `n` bytes decide.
use Rattle.std.proofs.Common.{◌≡◌, ℕ, zero, suc, ◌+◌, ◌-◌, ◌<◌, ◌≤◌, ◌==◌, nat_lt, Bool, true, false, List, [], ◌∷◌, ◌++◌, take, drop, Option, Some, None, Result, Ok, Err, inl, inr, refl, sym, ◌∙◌, ap, subst, subst₂, arith, slice_index, take-take, get_or-take, if◌then◌else◌}
use Rattle.std.proofs.lemmas.List.{drop-take}
use Rattle.std.proofs.lemmas.Bool.{cases_lt, cond_both}
use Rattle.base_data.specs.declared.model.refusal.ReadRefusal.{ReadRefusal}
use Rattle.base_data.specs.declared.model.code.CodeKind.{CodeKind}
use Rattle.base_data.specs.declared.model.code.CodeKind.TheVariants as kinds
use Rattle.base_data.specs.declared.model.code.CodeFault.{CodeFault}
use Rattle.base_data.specs.declared.model.code.CustomKind.{CustomKind}
use Rattle.base_data.specs.declared.model.code.CustomKind.TheVariants as customs
use Rattle.base_data.specs.declared.model.code.Measure.{Measure}
use Rattle.marshal_spec.specs.format.Code.{kind_of, custom_of}
use Rattle.marshal_spec.specs.format.Raw.{fixed_bytes, field_bytes, kind_bytes, custom_bytes, sizing_bytes, variable_bytes, measure_after, length_after, raw_length}
use Rattle.base_data.specs.declared.model.refusal.ReadRefusal.TheVariants.{TooLarge, Overlong}
use Rattle.base_data.specs.declared.model.refusal.StatedNumber.TheVariants.{Words, Length}
use Rattle.base_data.specs.declared.model.header.Head.{Head}
use Rattle.base_data.specs.model.Bytes.{number, signed}
use Rattle.marshal_spec.specs.format.Header.{magic, big_magic, header_length, head_of, small_head, big_head}
use Rattle.marshal_spec.specs.format.Words.{Sums, one_more}
use Rattle.marshal_spec.specs.format.Step.{Step, step, Context, position, overlong, fails_if, field_refusal, native_steps, variable_steps, words32_refusal, words64_refusal, end_steps, header_steps, magic_refusal, length_limit, code_refusal, steps_after, steps_from, token_steps, first_refusal, integer_refusal}
use Rattle.marshal_spec.proofs.format.RawLemmas.{fields_fit, sizing_fits, fields_first, custom_take, sizing_bytes-take, measure_after-take, variable_bytes-take}
use Rattle.marshal_spec.proofs.format.FormatStepLemmas.{EndWithin, EndWithin-append, AgreeUpTo, agree_same, agree_refuses}

-- ---- a kind, with the first `m` bytes after the code

-- If the first `m` bytes include an integer's eight bytes, then the first `m` bytes determine the
-- refusal of the integer.
int_guard : (c : Context) (b : Bool) (m : ℕ) (rest : List ℕ) → (if b then 8 else 0) ≤ m
    → (if b then integer_refusal c (signed (take 8 (take m rest))) else None) ≡ (if b then integer_refusal c (signed (take 8 rest)) else None)
int_guard c true m rest l = ap (λ xs. integer_refusal c (signed xs)) (take-take 8 m rest l)
int_guard c false m rest l = refl

-- If the first `m` bytes contain the fields, then the first `m` bytes determine the refusal of the
-- fields.
pub field_refusal-take : (c : Context) (code : ℕ) (kind : CodeKind) (m : ℕ) (rest : List ℕ) → field_bytes kind ≤ m
    → field_refusal c code kind (take m rest) ≡ field_refusal c code kind rest
field_refusal-take c code (kinds.SmallBlock tag size) m rest l = refl
field_refusal-take c code (kinds.SmallInt n) m rest l = refl
field_refusal-take c code (kinds.SmallString n) m rest l = refl
field_refusal-take c code (kinds.Int width) m rest l = int_guard c (width == 8) m rest l
field_refusal-take c code (kinds.Shared width) m rest l = rw take-take
field_refusal-take c code (kinds.Block width) m rest l = rw take-take
field_refusal-take c code (kinds.Str width) m rest l = refl
field_refusal-take c code (kinds.Double little) m rest l = refl
field_refusal-take c code (kinds.Doubles width little) m rest l = rw take-take
field_refusal-take c code (kinds.Custom old) m rest l = rw custom_take

-- If the first `m` bytes determine the size of a custom block, then the first `m` bytes determine
-- the steps on the variable bytes.
custom_steps-take : (old : Bool) (c : Context) (o : Option CustomKind) (m : ℕ) (rest : List ℕ) → 3 + kind_bytes o ≤ m
    → variable_bytes (kinds.Custom old) (take m rest) ≡ variable_bytes (kinds.Custom old) rest
    → variable_steps c (kinds.Custom old) o (take m rest) ≡ variable_steps c (kinds.Custom old) o rest
custom_steps-take old c None m rest l e = ap (λ n. step 4 (overlong c n 4) ∷ []) e
custom_steps-take old c (Some customs.Int32) m rest l e = ap (λ n. step 4 (overlong c n 4) ∷ []) e
custom_steps-take old c (Some customs.Int64) m rest l e = ap (λ n. step 4 (overlong c n 4) ∷ []) e
custom_steps-take old c (Some customs.Native) m rest l e = ap (λ k. native_steps c k) (get_or-take m rest 3 0 (omega arith))

pub variable_steps-take : (c : Context) (kind : CodeKind) (m : ℕ) (rest : List ℕ) → sizing_bytes kind rest ≤ m
    → variable_steps c kind (custom_of (take 3 (take m rest))) (take m rest) ≡ variable_steps c kind (custom_of (take 3 rest)) rest
variable_steps-take c (kinds.SmallBlock tag size) m rest l = refl
variable_steps-take c (kinds.SmallInt n) m rest l = refl
variable_steps-take c (kinds.SmallString n) m rest l = refl
variable_steps-take c (kinds.Int width) m rest l = refl
variable_steps-take c (kinds.Shared width) m rest l = refl
variable_steps-take c (kinds.Block width) m rest l = refl
variable_steps-take c (kinds.Str width) m rest l = rw take-take
variable_steps-take c (kinds.Double little) m rest l = refl
variable_steps-take c (kinds.Doubles width little) m rest l = rw take-take
variable_steps-take c (kinds.Custom old) m rest l =
    ap (λ o. variable_steps c (kinds.Custom old) o (take m rest)) (custom_take m rest (omega arith))
    ∙ custom_steps-take old c (custom_of (take 3 rest)) m rest l (variable_bytes-take (kinds.Custom old) m rest l)

-- The steps after a code, computed from the refusal, lengths and measure that the bytes determine.
steps_of : Context → CodeKind → Option ReadRefusal → List Step → ℕ → ℕ → Option Measure → List Step
steps_of c kind refusal variable n sized measure =
    let all = one_more c.sums measure in
    step 1 (overlong c (fixed_bytes kind) 1)
    ∷ step (1 + field_bytes kind) refusal
    ∷ variable
    ++ step sized (overlong c all.pending n)
    ∷ step sized (words32_refusal nat_lt (position c) c.head all.w32)
    ∷ step sized (words64_refusal nat_lt (position c) c.head all.w64)
    ∷ (if all.pending == 0 then end_steps c n all else [])

steps_after_is : (c : Context) (code : ℕ) (kind : CodeKind) (rest : List ℕ)
    → steps_after c code kind rest
    ≡ steps_of c kind (field_refusal c code kind rest) (variable_steps c kind (custom_of (take 3 rest)) rest)
    (1 + fixed_bytes kind + variable_bytes kind rest) (1 + sizing_bytes kind rest) (measure_after kind rest)
unfolding steps_of
steps_after_is c code kind rest = refl

-- If the first `m` bytes determine the size, then the first `m` bytes determine all steps.
steps_after-take : (c : Context) (code : ℕ) (kind : CodeKind) (m : ℕ) (rest : List ℕ) → sizing_bytes kind rest ≤ m
    → steps_after c code kind (take m rest) ≡ steps_after c code kind rest
steps_after-take c code kind m rest l =
    let f : field_bytes kind ≤ m = omega (arith, fields_first kind rest) in
    let e1 = field_refusal-take c code kind m rest f in
    let e2 = variable_steps-take c kind m rest l in
    let e3 = variable_bytes-take kind m rest l in
    let e4 = sizing_bytes-take kind m rest f in
    let e5 = measure_after-take kind m rest f in
    steps_after_is c code kind (take m rest)
    ∙ ((λ i. steps_of c kind (e1 i) (e2 i) (1 + fixed_bytes kind + e3 i) (1 + e4 i) (e5 i))
    ∙ sym (steps_after_is c code kind rest))

-- The steps of a custom block agree if the identifier is known but the kind byte of a `Nativeint`
-- is missing.
custom_agree : (old : Bool) (c : Context) (o : Option CustomKind) (m : ℕ) (r s : List ℕ) (more rest : List Step) → 3 ≤ m → m < 3 + kind_bytes o
    → AgreeUpTo (suc m) (variable_steps c (kinds.Custom old) o r ++ more) (variable_steps c (kinds.Custom old) o s ++ rest)
custom_agree old c None m r s more rest l h = absurd (omega arith)
custom_agree old c (Some customs.Int32) m r s more rest l h = absurd (omega arith)
custom_agree old c (Some customs.Int64) m r s more rest l h = absurd (omega arith)
custom_agree old c (Some customs.Native) m r s more rest l h = inl (refl, inr (omega arith, omega arith))

variable_agree : (c : Context) (kind : CodeKind) (m : ℕ) (rest : List ℕ) (more others : List Step) → field_bytes kind ≤ m → m < sizing_bytes kind rest
    → AgreeUpTo (suc m) (variable_steps c kind (custom_of (take 3 (take m rest))) (take m rest) ++ more) (variable_steps c kind (custom_of (take 3 rest)) rest ++ others)
variable_agree c (kinds.SmallBlock tag size) m rest more others l h = absurd (omega arith)
variable_agree c (kinds.SmallInt n) m rest more others l h = absurd (omega arith)
variable_agree c (kinds.SmallString n) m rest more others l h = absurd (omega arith)
variable_agree c (kinds.Int width) m rest more others l h = absurd (omega arith)
variable_agree c (kinds.Shared width) m rest more others l h = absurd (omega arith)
variable_agree c (kinds.Block width) m rest more others l h = absurd (omega arith)
variable_agree c (kinds.Str width) m rest more others l h = absurd (omega arith)
variable_agree c (kinds.Double little) m rest more others l h = absurd (omega arith)
variable_agree c (kinds.Doubles width little) m rest more others l h = absurd (omega arith)
variable_agree c (kinds.Custom old) m rest more others l h =
    subst (λ o. AgreeUpTo (suc m) (variable_steps c (kinds.Custom old) o (take m rest) ++ more) (variable_steps c (kinds.Custom old) (custom_of (take 3 rest)) rest ++ others))
    (sym (custom_take m rest l)) (custom_agree old c (custom_of (take 3 rest)) m (take m rest) rest more others l h)

-- If bytes do not include all fields, then the bytes decide only the first step.
steps_of_apart : (c : Context) (kind : CodeKind) (f g : Option ReadRefusal) (v w : List Step) (n n' s s' : ℕ) (e e' : Option Measure) (m : ℕ) → m < field_bytes kind
    → AgreeUpTo (suc m) (steps_of c kind f v n s e) (steps_of c kind g w n' s' e')
unfolding steps_of
steps_of_apart c kind f g v w n n' s s' e e' m l = inl (refl, inr (omega arith, omega arith))

-- If the first `m` bytes include the fields but not the size, then the first `m` bytes have the
-- whole token's decided steps.
steps_after_agree : (c : Context) (code : ℕ) (kind : CodeKind) (m : ℕ) (rest : List ℕ) → field_bytes kind ≤ m → m < sizing_bytes kind rest
    → AgreeUpTo (suc m) (steps_after c code kind (take m rest)) (steps_after c code kind rest)
steps_after_agree c code kind m rest l h =
    inl (refl, inl (ap (step (1 + field_bytes kind)) (field_refusal-take c code kind m rest l), variable_agree c kind m rest _ _ l h))

pub steps_after-agree_take : (c : Context) (code : ℕ) (kind : CodeKind) (m : ℕ) (rest : List ℕ)
    → AgreeUpTo (suc m) (steps_after c code kind (take m rest)) (steps_after c code kind rest)
steps_after-agree_take c code kind m rest =
    elim (cases_lt m (sizing_bytes kind rest)) [
      | inl u ↦ elim (cases_lt m (field_bytes kind)) [
        | inl v ↦ subst₂ (AgreeUpTo (suc m)) (sym (steps_after_is c code kind (take m rest))) (sym (steps_after_is c code kind rest))
            (steps_of_apart c kind _ _ _ _ _ _ _ _ _ _ m v)
        | inr w ↦ steps_after_agree c code kind m rest w u
      ]
      | inr g ↦ agree_same (suc m) (steps_after c code kind (take m rest)) (steps_after c code kind rest) (steps_after-take c code kind m rest g)
    ]

pub steps_from-agree_take : (c : Context) (code : ℕ) (r : Result CodeKind CodeFault) (m : ℕ) (rest : List ℕ)
    → AgreeUpTo (suc m) (steps_from c code r (take m rest)) (steps_from c code r rest)
steps_from-agree_take c code (Ok kind) m rest = steps_after-agree_take c code kind m rest
steps_from-agree_take c code (Err fault) m rest = inl (refl, tt)

-- ---- the number of bytes of the steps

custom_steps-within : (old : Bool) (c : Context) (o : Option CustomKind) (rest : List ℕ) (high : ℕ) → 4 + custom_bytes o (slice_index rest 3) ≤ high
    → EndWithin 1 high (variable_steps c (kinds.Custom old) o rest)
custom_steps-within old c None rest high l = (omega arith, omega arith, tt)
custom_steps-within old c (Some customs.Int32) rest high l = (omega arith, omega arith, tt)
custom_steps-within old c (Some customs.Int64) rest high l = (omega arith, omega arith, tt)
custom_steps-within old c (Some customs.Native) rest high l = (omega arith, omega arith, (omega arith, omega arith, (omega arith, omega arith, tt)))

variable_steps-within : (c : Context) (kind : CodeKind) (rest : List ℕ) → EndWithin 1 (1 + (fixed_bytes kind + variable_bytes kind rest)) (variable_steps c kind (custom_of (take 3 rest)) rest)
variable_steps-within c (kinds.SmallBlock tag size) rest = (omega arith, omega arith, tt)
variable_steps-within c (kinds.SmallInt n) rest = (omega arith, omega arith, tt)
variable_steps-within c (kinds.SmallString n) rest = (omega arith, omega arith, tt)
variable_steps-within c (kinds.Int width) rest = (omega arith, omega (arith, fields_fit (kinds.Int width)), tt)
variable_steps-within c (kinds.Shared width) rest = (omega arith, omega arith, tt)
variable_steps-within c (kinds.Block width) rest = (omega arith, omega arith, tt)
variable_steps-within c (kinds.Str width) rest = (omega arith, omega arith, tt)
variable_steps-within c (kinds.Double little) rest = (omega arith, omega arith, tt)
variable_steps-within c (kinds.Doubles width little) rest = (omega arith, omega arith, tt)
variable_steps-within c (kinds.Custom old) rest =
    custom_steps-within old c (custom_of (take 3 rest)) rest (1 + (3 + custom_bytes (custom_of (take 3 rest)) (slice_index rest 3))) (omega arith)

end_steps-within : (c : Context) (n : ℕ) (all : Sums) (high : ℕ) → 1 ≤ n → n ≤ high → EndWithin 1 high (end_steps c n all)
end_steps-within c n all high l h = (l, h, (l, h, (l, h, (l, h, tt))))

steps_of-within : (c : Context) (kind : CodeKind) (f : Option ReadRefusal) (v : List Step) (n s : ℕ) (e : Option Measure) (high : ℕ)
    → 1 + field_bytes kind ≤ high → EndWithin 1 high v → 1 ≤ n → n ≤ high → 1 ≤ s → s ≤ high → EndWithin 1 high (steps_of c kind f v n s e)
unfolding steps_of
steps_of-within c kind f v n s e high p q a b x y =
    let all = one_more c.sums e in (
      omega arith,
      omega arith,
      (
        omega arith,
        p,
        EndWithin-append 1 high v _ q (
          x,
          y,
          (
            x,
            y,
            (
              x,
              y,
              cond_both (all.pending == 0) (end_steps c n all) [] (λ ss. EndWithin 1 high ss) (λ _. end_steps-within c n all high a b) (λ _. tt),
            ),
          ),
        ),
      ),
    )

pub steps_after-within : (c : Context) (code : ℕ) (kind : CodeKind) (rest : List ℕ) → EndWithin 1 (1 + (fixed_bytes kind + variable_bytes kind rest)) (steps_after c code kind rest)
steps_after-within c code kind rest =
    let high = 1 + (fixed_bytes kind + variable_bytes kind rest) in
    subst (λ ss. EndWithin 1 high ss) (sym (steps_after_is c code kind rest))
    (steps_of-within c kind (field_refusal c code kind rest) (variable_steps c kind (custom_of (take 3 rest)) rest)
    (1 + fixed_bytes kind + variable_bytes kind rest) (1 + sizing_bytes kind rest) (measure_after kind rest) high
    (omega (arith, fields_fit kind)) (variable_steps-within c kind rest)
    (omega arith) (omega arith) (omega arith) (omega (arith, sizing_fits kind rest)))

pub steps_from-within : (c : Context) (code : ℕ) (r : Result CodeKind CodeFault) (rest : List ℕ) → EndWithin 1 (1 + length_after r rest) (steps_from c code r rest)
steps_from-within c code (Ok kind) rest = steps_after-within c code kind rest
steps_from-within c code (Err fault) rest = (omega arith, omega arith, tt)

-- ---- a token

-- A step of a token takes at least one byte, and at most as many bytes as the token has.
pub token_steps-within : (c : Context) (bytes : List ℕ) → EndWithin 1 (raw_length bytes) (token_steps c bytes)
unfolding token_steps
token_steps-within c [] = tt
token_steps-within c (code ∷ rest) = steps_from-within c code (kind_of code) rest

-- If every step takes at least one byte, then zero bytes decide no step.
nothing_agrees : (high : ℕ) (steps : List Step) → EndWithin 1 high steps → AgreeUpTo 0 [] steps
nothing_agrees high [] h = tt
nothing_agrees high (s ∷ steps) h = omega (arith, h.0)

-- The first `n` bytes of a token have the steps of the whole token, as far as `n` bytes decide.
pub token_steps-agree_take : (c : Context) (n : ℕ) (bytes : List ℕ) → AgreeUpTo n (token_steps c (take n bytes)) (token_steps c bytes)
unfolding token_steps
token_steps-agree_take c zero bytes = nothing_agrees (raw_length bytes) (token_steps c bytes) (token_steps-within c bytes)
token_steps-agree_take c (suc m) [] = tt
token_steps-agree_take c (suc m) (code ∷ rest) = steps_from-agree_take c code (kind_of code) m rest

-- If `k` is at most `n`, then the first `n` bytes of a token have the whole token's refusal for `k`
-- bytes.
pub token_steps-take : (c : Context) (k n : ℕ) (bytes : List ℕ) → k ≤ n → first_refusal k (token_steps c (take n bytes)) ≡ first_refusal k (token_steps c bytes)
token_steps-take c k n bytes l = agree_refuses n k (token_steps c (take n bytes)) (token_steps c bytes) (token_steps-agree_take c n bytes) l

-- If a code has the kind `kind`, then the token's steps are the steps after a code of that kind.
pub token_steps-ok : (c : Context) (code : ℕ) (kind : CodeKind) (rest : List ℕ) → kind_of code ≡ Ok kind → token_steps c (code ∷ rest) ≡ steps_after c code kind rest
unfolding token_steps
token_steps-ok c code kind rest e = ap (λ r. steps_from c code r rest) e

pub token_steps-err : (c : Context) (code : ℕ) (fault : CodeFault) (rest : List ℕ) → kind_of code ≡ Err fault
    → token_steps c (code ∷ rest) ≡ step 1 (Some (code_refusal fault (position c) code)) ∷ []
unfolding token_steps
token_steps-err c code fault rest e = ap (λ r. steps_from c code r rest) e

-- ---- a header

-- The first four bytes of a header determine the magic number.
pub magic-take : (n : ℕ) (bytes : List ℕ) → 4 ≤ n → magic (take n bytes) ≡ magic bytes
magic-take n bytes l = ap number (take-take 4 n bytes l)

pub header_length-take : (n : ℕ) (bytes : List ℕ) → 4 ≤ n → header_length (take n bytes) ≡ header_length bytes
header_length-take n bytes l = ap (λ m. if m == big_magic then 32 else 20) (magic-take n bytes l)

pub header_length-from : (bytes : List ℕ) → (20 ≤ header_length bytes) × (header_length bytes ≤ 32)
header_length-from bytes = cond_both (magic bytes == big_magic) 32 20 (λ n. (20 ≤ n) × (n ≤ 32)) (λ _. (omega arith, omega arith)) (λ _. (omega arith, omega arith))

-- If the first `n` bytes include the `k` bytes after the first `a`, then the first `n` bytes
-- determine these `k` bytes.
range-take : (k a n : ℕ) (bytes : List ℕ) → a + k ≤ n → take k (drop a (take n bytes)) ≡ take k (drop a bytes)
range-take k a n bytes l =
    let split : a + (n - a) ≡ n = omega arith in
    ap (λ m. take k (drop a (take m bytes))) (sym split)
    ∙ (ap (take k) (drop-take a (n - a) bytes)
    ∙ take-take k (n - a) (drop a bytes) (omega arith))

small_head-take : (n : ℕ) (bytes : List ℕ) → 20 ≤ n → small_head (take n bytes) ≡ small_head bytes
small_head-take n bytes l =
    let a = range-take 4 4 n bytes (omega arith) in
    let b = range-take 4 8 n bytes (omega arith) in
    let c = range-take 4 12 n bytes (omega arith) in
    let d = range-take 4 16 n bytes (omega arith) in
    λ i. record { big = false; length = number (a i); objects = number (b i); w32 = number (c i); w64 = number (d i) }

big_head-take : (n : ℕ) (bytes : List ℕ) → 32 ≤ n → big_head (take n bytes) ≡ big_head bytes
big_head-take n bytes l =
    let a = range-take 8 8 n bytes (omega arith) in
    let b = range-take 8 16 n bytes (omega arith) in
    let c = range-take 8 24 n bytes (omega arith) in
    λ i. record { big = true; length = number (a i); objects = number (b i); w32 = 0; w64 = number (c i) }

head_by : (b : Bool) (n : ℕ) (bytes : List ℕ) → (if b then 32 else 20) ≤ n
    → (if b then big_head (take n bytes) else small_head (take n bytes)) ≡ (if b then big_head bytes else small_head bytes)
head_by true n bytes l = big_head-take n bytes l
head_by false n bytes l = small_head-take n bytes l

-- If the first `n` bytes include the whole header, then the first `n` bytes determine the header's
-- contents.
pub head_of-take : (n : ℕ) (bytes : List ℕ) → header_length bytes ≤ n → head_of (take n bytes) ≡ head_of bytes
unfolding head_of
head_of-take n bytes l =
    ap (λ m. if m == big_magic then big_head (take n bytes) else small_head (take n bytes)) (magic-take n bytes (omega (arith, header_length-from bytes)))
    ∙ head_by (magic bytes == big_magic) n bytes l

-- The steps of a header, computed from its magic number `m`, its length `n` and its contents.
abbrev pub header_steps_of : ℕ → ℕ → ℕ → Head → List Step
header_steps_of limit m n head =
    step 4 (magic_refusal m)
    ∷ step n (fails_if (nat_lt limit head.w64) (TooLarge Words head.w64 limit))
    ∷ step n (fails_if (nat_lt length_limit head.length) (TooLarge Length head.length length_limit))
    ∷ step n (fails_if (head.length == 0) (Overlong n 1 0))
    ∷ []

pub header_steps_is : (limit : ℕ) (bytes : List ℕ) → header_steps limit bytes ≡ header_steps_of limit (magic bytes) (header_length bytes) (head_of bytes)
unfolding header_steps
header_steps_is limit bytes = refl

header_steps_of-within : (limit m n : ℕ) (head : Head) → 4 ≤ n → EndWithin 4 n (header_steps_of limit m n head)
header_steps_of-within limit m n head l = (omega arith, l, (l, omega arith, (l, omega arith, (l, omega arith, tt))))

-- A step of a header takes at least four bytes, and at most all bytes of the header.
pub header_steps-within : (limit : ℕ) (bytes : List ℕ) → EndWithin 4 (header_length bytes) (header_steps limit bytes)
header_steps-within limit bytes =
    subst (λ ss. EndWithin 4 (header_length bytes) ss) (sym (header_steps_is limit bytes))
    (header_steps_of-within limit (magic bytes) (header_length bytes) (head_of bytes) (omega (arith, header_length-from bytes)))

-- Fewer than four bytes decide no step of a header.
header_apart : (k limit m n m' n' : ℕ) (head head' : Head) → k < 4 → AgreeUpTo k (header_steps_of limit m n head) (header_steps_of limit m' n' head')
header_apart k limit m n m' n' head head' l = inr (l, l)

-- If a header is incomplete, then its bytes decide only the step of the magic number.
header_magic : (k limit m n : ℕ) (head head' : Head) → k < n → AgreeUpTo k (header_steps_of limit m n head) (header_steps_of limit m n head')
header_magic k limit m n head head' l = inl (refl, inr (l, l))

-- The first `n` bytes of a header have the steps of the whole header, as far as `n` bytes decide.
pub header_steps-agree_take : (limit n : ℕ) (bytes : List ℕ) → AgreeUpTo n (header_steps limit (take n bytes)) (header_steps limit bytes)
header_steps-agree_take limit n bytes =
    subst₂ (AgreeUpTo n) (sym (header_steps_is limit (take n bytes))) (sym (header_steps_is limit bytes))
    (elim (cases_lt n 4) [
      | inl u ↦ header_apart n limit (magic (take n bytes)) (header_length (take n bytes)) (magic bytes) (header_length bytes) (head_of (take n bytes)) (head_of bytes) u
      | inr g ↦
          let e1 = magic-take n bytes g in
          let e2 = header_length-take n bytes g in
          elim (cases_lt n (header_length bytes)) [
            | inl v ↦
                subst₂ (λ m k. AgreeUpTo n (header_steps_of limit m k (head_of (take n bytes))) (header_steps_of limit (magic bytes) (header_length bytes) (head_of bytes)))
                (sym e1) (sym e2) (header_magic n limit (magic bytes) (header_length bytes) (head_of (take n bytes)) (head_of bytes) v)
            | inr w ↦
                let e3 = head_of-take n bytes w in
                agree_same n _ _ (λ i. header_steps_of limit (e1 i) (e2 i) (e3 i))
          ]
    ])

-- If `k` is at most `n`, then the first `n` bytes of a header have the whole header's refusal for
-- `k` bytes.
pub header_steps-take : (limit k n : ℕ) (bytes : List ℕ) → k ≤ n → first_refusal k (header_steps limit (take n bytes)) ≡ first_refusal k (header_steps limit bytes)
header_steps-take limit k n bytes l = agree_refuses n k (header_steps limit (take n bytes)) (header_steps limit bytes) (header_steps-agree_take limit n bytes) l
