-- If the data contain the bytes of a token with a fault, then the fault is the first refusal of the
-- token's steps.
use Rattle.std.proofs.Common.{ℕ, suc, ◌+◌, ◌-◌, ◌%◌, ◌<◌, ◌≤◌, ◌≡◌, ◌∙◌, Bool, true, false, not, eqb, ltb, List, [], ◌∷◌, ◌++◌, length, take, drop, get_or, Option, Some, None, Ok, Err, inl, inr, refl, sym, ap, subst, arith, take_all, length-take-le, eq-eqb, ne_eqb}
use Rattle.std.specs.Prelude.{slice_index}
use Rattle.std.proofs.lemmas.Bool.{cases_eq}
use Rattle.base_data.specs.declared.model.refusal.ReadRefusal.{ReadRefusal}
use Rattle.base_data.specs.declared.model.code.CodeKind.{CodeKind}
use Rattle.base_data.specs.declared.model.code.CodeKind.TheVariants as kinds
use Rattle.base_data.specs.declared.model.code.CodeFault.{CodeFault}
use Rattle.base_data.specs.declared.model.code.CustomKind.{CustomKind}
use Rattle.base_data.specs.declared.model.code.CustomKind.TheVariants as customs
use Rattle.base_data.specs.model.Bytes.{number, signed}
use Rattle.marshal_spec.specs.format.Code.{kind_of, custom_of, native_bytes}
use Rattle.marshal_spec.specs.format.Raw.{fixed_bytes, field_bytes, variable_bytes, custom_bytes, length_after, raw_length}
use Rattle.marshal_spec.specs.format.Step.{Step, step, fails_if, or_else, first_refusal, Context, position, overlong, is_integer, field_refusal, native_steps, variable_steps, closing_steps, steps_after, token_steps, code_refusal}
use Rattle.marshal_spec.proofs.format.RawLemmas.{fields_fit, sizing_fits, variable_bytes-take, raw_length-ok}
use Rattle.marshal_spec.proofs.format.FormatStepLemmas.{first_refusal-decided, first_refusal-more}
use Rattle.marshal_spec.proofs.format.TokenStepLemmas.{token_steps-take, token_steps-ok, token_steps-err}
use Rattle.marshal_spec.proofs.format.EncodeFacts.{none_from_room}
use Rattle.marshal_codec.specs.declared.token.token_fault.TokenFault.{TokenFault}
use Rattle.marshal_codec.specs.declared.token.token_fault.TokenFault.TheVariants as faults
use Rattle.marshal_codec.specs.token.TokenFault.{refusal_of, IsFaultBy, fault_if, integer_fault, word_fault, count_fault, native_fault, custom_fault, chunk_fault}

-- ---- lists of steps

-- If the first step is decided and passes, then the first refusal is that of the other steps.
pub after_pass : (n e : ℕ) (o : Option ReadRefusal) (steps : List Step) → e ≤ n → o ≡ None → first_refusal n (step e o ∷ steps) ≡ first_refusal n steps
after_pass n e o steps d none =
    first_refusal-decided n (step e o) steps d ∙ ap (λ x. or_else x (first_refusal n steps)) none

-- If the first step is decided and fails, then the refusal of the first step is the first refusal.
at_fail : (n e : ℕ) (o : Option ReadRefusal) (r : ReadRefusal) (steps : List Step) → e ≤ n → o ≡ Some r → first_refusal n (step e o ∷ steps) ≡ Some r
at_fail n e o r steps d some =
    first_refusal-decided n (step e o) steps d ∙ ap (λ x. or_else x (first_refusal n steps)) some

-- ---- the refusal of a fault

fails_as : (b : Bool) (own fault : TokenFault) (p code : ℕ) → fault_if b own ≡ Some fault → fails_if b (refusal_of own p code) ≡ Some (refusal_of fault p code)
fails_as true own fault p code e = let same : own ≡ fault = cc in ap (λ f. Some (refusal_of f p code)) same
fails_as false own fault p code e = absurd (cc)

integer_fails : (c : Context) (code width : ℕ) (chunk : List ℕ) (fault : TokenFault) → length chunk ≡ width → integer_fault width (signed chunk) ≡ Some fault → field_refusal c code (kinds.Int width) chunk ≡ Some (refusal_of fault (position c) code)
integer_fails c code width chunk fault long e =
    elim (cases_eq width 8) [
      | inl is ↦
          let all : take 8 chunk ≡ chunk = take_all 8 chunk (omega arith) in
          let own : fault_if (not (is_integer (signed chunk))) (faults.Integer (signed chunk)) ≡ Some fault = rw (eq-eqb width 8 is) at e in
          rw (eq-eqb width 8 is, all) (fails_as (not (is_integer (signed chunk))) (faults.Integer (signed chunk)) fault (position c) code own)
      | inr differs ↦ let none : None ≡ Some fault = rw (ne_eqb width 8 differs) at e in absurd (cc)
    ]

word_fails : (c : Context) (code width : ℕ) (chunk : List ℕ) (fault : TokenFault) → length chunk ≡ width → word_fault (number chunk) ≡ Some fault → field_refusal c code (kinds.Block width) chunk ≡ Some (refusal_of fault (position c) code)
word_fails c code width chunk fault long e =
    let all : take width chunk ≡ chunk = take_all width chunk (omega arith) in
    rw all (fails_as (ltb 243 (number chunk % 256)) (faults.Tag (number chunk % 256)) fault (position c) code e)

count_fails : (c : Context) (code width : ℕ) (little : Bool) (chunk : List ℕ) (fault : TokenFault) → count_fault (number (take width chunk)) ≡ Some fault → field_refusal c code (kinds.Doubles width little) chunk ≡ Some (refusal_of fault (position c) code)
count_fails c code width little chunk fault e = fails_as (eqb (number (take width chunk)) 0) faults.Empty fault (position c) code e

-- ---- after a code

-- If the data contain the fixed bytes of a token, then a fault of its fields is the first refusal.
fields_refuse : (c : Context) (code : ℕ) (kind : CodeKind) (rest : List ℕ) (r : ReadRefusal) (n : ℕ) → 1 + fixed_bytes kind ≤ n → c.taken + (1 + fixed_bytes kind) ≤ c.head.length → field_refusal c code kind rest ≡ Some r → first_refusal n (steps_after c code kind rest) ≡ Some r
fields_refuse c code kind rest r n some room e =
    let more = variable_steps c kind (custom_of (take 3 rest)) rest ++ closing_steps c kind rest in
    let fit = fields_fit kind in
    let passes : overlong c (fixed_bytes kind) 1 ≡ None = none_from_room c (fixed_bytes kind) 1 (omega (arith, room)) in
    after_pass n 1 (overlong c (fixed_bytes kind) 1) (step (1 + field_bytes kind) (field_refusal c code kind rest) ∷ more) (omega (arith, some)) passes
    ∙ at_fail n (1 + field_bytes kind) (field_refusal c code kind rest) r more (omega (arith, some, fit)) e

-- If the kind byte of a `Nativeint` is a fault, then the fault is the first refusal.
native_refuses : (c : Context) (code : ℕ) (old : Bool) (rest : List ℕ) (fault : TokenFault) (n : ℕ) → 5 ≤ n → c.taken + 5 ≤ c.head.length → custom_of (take 3 rest) ≡ Some customs.Native → native_fault (slice_index rest 3) ≡ Some fault → first_refusal n (steps_after c code (kinds.Custom old) rest) ≡ Some (refusal_of fault (position c) code)
native_refuses c code old rest fault n some room is e =
    let kind = slice_index rest 3 in
    let r = refusal_of fault (position c) code in
    let fields : Option ReadRefusal = field_refusal c code (kinds.Custom old) rest in
    let closing = closing_steps c (kinds.Custom old) rest in
    let last = step 5 (overlong c (native_bytes kind) 5) ∷ closing in
    let fixed : overlong c 3 1 ≡ None = none_from_room c 3 1 (omega (arith, room)) in
    let sound : field_refusal c code (kinds.Custom old) rest ≡ None = rw is refl in
    let one : overlong c 1 4 ≡ None = none_from_room c 1 4 (omega (arith, room)) in
    let own = fails_as (eqb (native_bytes kind) 0) (faults.Native kind) fault (position c) code e in
    let tail : first_refusal n (native_steps c kind ++ closing) ≡ Some r =
    after_pass n 4 (overlong c 1 4) (step 5 (fails_if (eqb (native_bytes kind) 0) (refusal_of (faults.Native kind) (position c) code)) ∷ last) (omega (arith, some)) one
    ∙ at_fail n 5 (fails_if (eqb (native_bytes kind) 0) (refusal_of (faults.Native kind) (position c) code)) r last some own in
    let steps : variable_steps c (kinds.Custom old) (custom_of (take 3 rest)) rest ≡ native_steps c kind = ap (λ k. variable_steps c (kinds.Custom old) k rest) is in
    let at : first_refusal n (variable_steps c (kinds.Custom old) (custom_of (take 3 rest)) rest ++ closing) ≡ Some r = ap (λ s. first_refusal n (s ++ closing)) steps ∙ tail in
    after_pass n 1 (overlong c 3 1) (step 4 fields ∷ (variable_steps c (kinds.Custom old) (custom_of (take 3 rest)) rest ++ closing)) (omega (arith, some)) fixed
    ∙ (after_pass n 4 fields (variable_steps c (kinds.Custom old) (custom_of (take 3 rest)) rest ++ closing) (omega (arith, some)) sound ∙ at)

-- If the identifier or the data of a custom block is a fault, then the fault is the first refusal.
custom_refuses : (c : Context) (code : ℕ) (old : Bool) (known : Option CustomKind) (rest : List ℕ) (fault : TokenFault) (n : ℕ) → 1 + (3 + custom_bytes known (slice_index rest 3)) ≤ n → c.taken + (1 + (3 + custom_bytes known (slice_index rest 3))) ≤ c.head.length → custom_of (take 3 rest) ≡ known → custom_fault known (slice_index rest 3) ≡ Some fault → first_refusal n (steps_after c code (kinds.Custom old) rest) ≡ Some (refusal_of fault (position c) code)
custom_refuses c code old None rest fault n some room is e =
    let same : faults.Identifier ≡ fault = cc in
    let own : field_refusal c code (kinds.Custom old) rest ≡ Some (refusal_of faults.Identifier (position c) code) = rw is refl in
    fields_refuse c code (kinds.Custom old) rest (refusal_of fault (position c) code) n (omega (arith, some)) (omega (arith, room))
    (own ∙ ap (λ f. Some (refusal_of f (position c) code)) same)
custom_refuses c code old (Some customs.Int32) rest fault n some room is e = absurd (cc)
custom_refuses c code old (Some customs.Int64) rest fault n some room is e = absurd (cc)
custom_refuses c code old (Some customs.Native) rest fault n some room is e =
    native_refuses c code old rest fault n (omega (arith, some)) (omega (arith, room)) is e

-- If the bytes after a code have a fault, then the fault is the first refusal.
chunk_refuses : (c : Context) (code : ℕ) (kind : CodeKind) (chunk : List ℕ) (fault : TokenFault) (n : ℕ) → length chunk ≡ fixed_bytes kind + variable_bytes kind chunk → 1 + length chunk ≤ n → c.taken + (1 + length chunk) ≤ c.head.length → chunk_fault kind chunk ≡ Some fault → first_refusal n (steps_after c code kind chunk) ≡ Some (refusal_of fault (position c) code)
chunk_refuses c code (kinds.SmallBlock tag size) chunk fault n long some room e = absurd (cc)
chunk_refuses c code (kinds.SmallInt i) chunk fault n long some room e = absurd (cc)
chunk_refuses c code (kinds.SmallString i) chunk fault n long some room e = absurd (cc)
chunk_refuses c code (kinds.Int width) chunk fault n long some room e =
    fields_refuse c code (kinds.Int width) chunk (refusal_of fault (position c) code) n (omega (arith, some, long)) (omega (arith, room, long)) (integer_fails c code width chunk fault (omega (arith, long)) e)
chunk_refuses c code (kinds.Shared width) chunk fault n long some room e = absurd (cc)
chunk_refuses c code (kinds.Block width) chunk fault n long some room e =
    fields_refuse c code (kinds.Block width) chunk (refusal_of fault (position c) code) n (omega (arith, some, long)) (omega (arith, room, long)) (word_fails c code width chunk fault (omega (arith, long)) e)
chunk_refuses c code (kinds.Str width) chunk fault n long some room e = absurd (cc)
chunk_refuses c code (kinds.Double little) chunk fault n long some room e = absurd (cc)
chunk_refuses c code (kinds.Doubles width little) chunk fault n long some room e =
    fields_refuse c code (kinds.Doubles width little) chunk (refusal_of fault (position c) code) n (omega (arith, some, long)) (omega (arith, room, long)) (count_fails c code width little chunk fault e)
chunk_refuses c code (kinds.Custom old) chunk fault n long some room e =
    custom_refuses c code old (custom_of (take 3 chunk)) chunk fault n (omega (arith, some, long)) (omega (arith, room, long)) refl e

-- ---- with the code

-- If the bytes after a code are incomplete, then the bytes with the code are incomplete.
pub more_with_code : (rest : List ℕ) (kind : CodeKind) → 0 < length rest → kind_of (get_or rest 0 0) ≡ Ok kind → length (drop 1 rest) < fixed_bytes kind + variable_bytes kind (drop 1 rest) → length rest < raw_length rest
more_with_code [] kind some is short = absurd (omega arith)
more_with_code (code ∷ rest) kind some is short = omega (arith, short, raw_length-ok code kind rest is)

-- If a token is complete, then its bytes after the code are the fixed and the variable bytes.
pub whole_taken : (kind : CodeKind) (rest : List ℕ) (len : ℕ) → len ≤ length rest → len ≡ fixed_bytes kind + variable_bytes kind rest → length (take len rest) ≡ fixed_bytes kind + variable_bytes kind (take len rest)
whole_taken kind rest len within raw =
    let fit = sizing_fits kind rest in
    let same : variable_bytes kind (take len rest) ≡ variable_bytes kind rest = variable_bytes-take kind len rest (omega (arith, raw, fit)) in
    omega (arith, length-take-le len rest within, raw, same)

pub fault_with_code : (rest : List ℕ) (kind : CodeKind) (len : ℕ) (fault : TokenFault) → 0 < length rest → kind_of (get_or rest 0 0) ≡ Ok kind → len ≤ length (drop 1 rest) → len ≡ fixed_bytes kind + variable_bytes kind (drop 1 rest)
    → chunk_fault kind (take len (drop 1 rest)) ≡ Some fault → IsFaultBy rest fault
fault_with_code [] kind len fault some is within raw e = absurd (omega arith)
fault_with_code (code ∷ rest) kind len fault some is within raw e =
    let next : suc len ≡ 1 + len = omega arith in
    let long : length (take len rest) ≡ len = length-take-le len rest within in
    let whole = whole_taken kind rest len within raw in
    let size : raw_length (code ∷ rest) ≡ 1 + len = raw_length-ok code kind rest is ∙ ap (λ n. 1 + n) (sym raw) in
    record {
      whole = omega (arith, size, within);
      refuses = λ c room.
          let r = refusal_of fault (position c) code in
          let own : first_refusal (1 + len) (steps_after c code kind (take len rest)) ≡ Some r =
          chunk_refuses c code kind (take len rest) fault (1 + len) whole (omega (arith, long)) (omega (arith, long, room, size)) e in
          let first : first_refusal (1 + len) (token_steps c (take (1 + len) (code ∷ rest))) ≡ Some r =
          subst (λ m. first_refusal (1 + len) (token_steps c (take m (code ∷ rest))) ≡ Some r) next (ap (first_refusal (1 + len)) (token_steps-ok c code kind (take len rest) is) ∙ own) in
          first_refusal-more (1 + len) (length (code ∷ rest)) (token_steps c (code ∷ rest)) r (omega (arith, within))
          (sym (token_steps-take c (1 + len) (1 + len) (code ∷ rest) (omega arith)) ∙ first);
    }

-- If a code begins no token, then the bytes have the fault of the code.
pub code_fault : (bytes : List ℕ) (fault : CodeFault) → 0 < length bytes → kind_of (get_or bytes 0 0) ≡ Err fault → IsFaultBy bytes (faults.Code fault)
code_fault [] fault some is = absurd (omega arith)
code_fault (code ∷ rest) fault some is =
    let size : raw_length (code ∷ rest) ≡ 1 + 0 = ap (λ r. 1 + length_after r rest) is in
    record {
      whole = omega (arith, size);
      refuses = λ c room.
          ap (first_refusal (length (code ∷ rest))) (token_steps-err c code fault rest is)
          ∙ at_fail (length (code ∷ rest)) 1 (Some (code_refusal fault (position c) code)) (code_refusal fault (position c) code) [] (omega arith) refl;
    }
