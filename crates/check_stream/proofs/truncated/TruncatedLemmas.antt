-- The steps that a part of a token decides.
use Rattle.std.proofs.Common.{ℕ, ◌+◌, ◌*◌, ◌<◌, ◌≤◌, ◌≡◌, ◌≢◌, ◌∙◌, Bool, true, false, cond, ltb, eqb, List, [], ◌∷◌, ◌++◌, length, take, drop, get_or, Option, Some, None, Ok, refl, sym, ap, subst, arith, le-ltb, lt-ltb, ne_eqb}
use Rattle.std.proofs.lemmas.Bool.{cond_both}
use Rattle.base_data.specs.declared.model.refusal.ReadRefusal.{ReadRefusal}
use Rattle.base_data.specs.declared.model.refusal.ReadRefusal.TheVariants.{ZeroArray, SizeMismatch}
use Rattle.base_data.specs.declared.model.refusal.WordSum.TheVariants.{W64}
use Rattle.base_data.specs.declared.model.header.Head.{Head}
use Rattle.base_data.specs.declared.model.code.CodeKind.{CodeKind}
use Rattle.base_data.specs.declared.model.code.CodeKind.TheVariants as kinds
use Rattle.base_data.specs.declared.model.code.CustomKind.TheVariants as customs
use Rattle.base_data.specs.declared.model.code.Measure.{Measure}
use Rattle.base_data.specs.declared.model.code.Measure.TheVariants as measures
use Rattle.base_data.specs.model.Bytes.{number}
use Rattle.marshal_spec.specs.format.Code.{kind_of, custom_of}
use Rattle.marshal_spec.specs.format.Raw.{fixed_bytes, field_bytes, sizing_bytes, variable_bytes, measure_after, length_after, IsPart}
use Rattle.marshal_spec.specs.format.Words.{Sums, one_more, of_object, fields, words32, words64}
use Rattle.marshal_spec.specs.format.Step.{Step, step, or_else, first_refusal, Context, position, overlong, field_refusal, variable_steps, words32_refusal, words64_refusal, end_steps, closing_steps, entry_steps, steps_after, steps_from, token_steps}
use Rattle.marshal_spec.proofs.format.RawLemmas.{fields_fit}
use Rattle.marshal_spec.proofs.format.EncodeFacts.{none_from_room}
use Rattle.marshal_spec.proofs.format.EncodeSteps.{AllStepsPass, or_else_none, fails_if_none}
use Rattle.check_stream.specs.truncated.Truncated.{HasRoom, IsTruncated, IsTruncatedAfter, IsSized}

-- If all steps of a list pass, and the steps after the list do not fail, then no step fails.
none_after : (m : ℕ) (xs ys : List Step) → AllStepsPass xs → first_refusal m ys ≡ None → first_refusal m (xs ++ ys) ≡ None
none_after m [] ys p q = q
none_after m (x ∷ xs) ys p q =
    cond_both (ltb m x.ends) None (or_else x.refusal (first_refusal m (xs ++ ys))) (λ r. r ≡ None) (λ _. refl)
    (λ _. or_else_none x.refusal (first_refusal m (xs ++ ys)) p.0 (none_after m xs ys p.1 q))

-- A step that is not decided yet does not fail.
undecided : (m k : ℕ) (r : Option ReadRefusal) (steps : List Step) → m < k → first_refusal m (step k r ∷ steps) ≡ None
undecided m k r steps h = rw (lt-ltb m k h) refl

-- If the bytes end before the end of the token, then the steps at the end of the token are not
-- decided.
before_end : (m : ℕ) (c : Context) (n : ℕ) (all : Sums) (b : Bool) → m < n → first_refusal m (cond b (end_steps c n all) []) ≡ None
before_end m c n all true h = rw (lt-ltb m n h) refl
before_end m c n all false h = refl

-- If the header allows the sum of the words on 32 bits, then the step for the words does not fail.
words32_allowed : (p : ℕ) (head : Head) (found : ℕ) (big : Bool) → head.big ≡ big → (big ≡ false → found ≤ head.w32) → words32_refusal ltb p head found ≡ None
words32_allowed p head found true e h = rw e refl
words32_allowed p head found false e h =
    let t = le-ltb head.w32 found (h refl) in rw (e, t) refl

words64_allowed : (p : ℕ) (head : Head) (found : ℕ) → found ≤ head.w64 → words64_refusal ltb p head found ≡ None
words64_allowed p head found h = fails_if_none (ltb head.w64 found) (SizeMismatch p W64 head.w64 found) (le-ltb head.w64 found h)

-- ---- incomplete fields

fields_truncated : (c : Context) (code : ℕ) (kind : CodeKind) (rest : List ℕ) (m : ℕ) → m < 1 + field_bytes kind → c.taken + (1 + fixed_bytes kind) ≤ c.head.length → first_refusal m (steps_after c code kind rest) ≡ None
fields_truncated c code kind rest m short room =
    let passes : overlong c (fixed_bytes kind) 1 ≡ None = none_from_room c (fixed_bytes kind) 1 (omega (arith, room)) in
    none_after m (step 1 (overlong c (fixed_bytes kind) 1) ∷ [])
    (step (1 + field_bytes kind) (field_refusal c code kind rest) ∷ (variable_steps c kind (custom_of (take 3 rest)) rest ++ closing_steps c kind rest))
    (passes, tt)
    (undecided m (1 + field_bytes kind) (field_refusal c code kind rest) (variable_steps c kind (custom_of (take 3 rest)) rest ++ closing_steps c kind rest) short)

pub truncated_in_fields : (kind : CodeKind) (rest : List ℕ) (fixed field few32 few64 : ℕ) → fixed ≡ fixed_bytes kind → field ≡ field_bytes kind → length rest < field → IsTruncatedAfter kind rest (1 + fixed) few32 few64
truncated_in_fields kind rest fixed field few32 few64 e f short = record {
  some = omega arith;
  is_part = let fit = fields_fit kind in omega (arith, short, fit, f);
  passes = λ c code room. fields_truncated c code kind rest (1 + length rest) (omega (arith, short, f)) (let r = room.room in let o = room.open_before in omega (arith, r, o, e));
}

-- ---- a token of known size

known_truncated :
    (c : Context) (code : ℕ) (kind : CodeKind) (rest : List ℕ) (measure : Option Measure) (m n few32 few64 : ℕ) → m < n → n ≡ 1 + fixed_bytes kind + variable_bytes kind rest → HasRoom c n few32 few64
    → measure_after kind rest ≡ measure → of_object fields measure ≡ 0 → of_object words32 measure ≤ few32 → of_object words64 measure ≤ few64
    → field_refusal c code kind rest ≡ None
    → variable_steps c kind (custom_of (take 3 rest)) rest ≡ step (1 + field_bytes kind) (overlong c (variable_bytes kind rest) (1 + fixed_bytes kind)) ∷ []
    → first_refusal m (steps_after c code kind rest) ≡ None
known_truncated c code kind rest measure m n few32 few64 short e room is none' words32' words64' sound one =
    let r = room.room in
    let o = room.open_before in
    let v = room.w64 in
    let sized = 1 + sizing_bytes kind rest in
    let long = 1 + fixed_bytes kind + variable_bytes kind rest in
    let all = one_more c.sums (measure_after kind rest) in
    let no_fields : of_object fields (measure_after kind rest) ≡ 0 = ap (of_object fields) is ∙ none' in
    let w32' : of_object words32 (measure_after kind rest) ≡ of_object words32 measure = ap (of_object words32) is in
    let w64' : of_object words64 (measure_after kind rest) ≡ of_object words64 measure = ap (of_object words64) is in
    let first : overlong c (fixed_bytes kind) 1 ≡ None = none_from_room c (fixed_bytes kind) 1 (omega (arith, e, r, o)) in
    let content : overlong c (variable_bytes kind rest) (1 + fixed_bytes kind) ≡ None = none_from_room c (variable_bytes kind rest) (1 + fixed_bytes kind) (omega (arith, e, r, o)) in
    let pending' : overlong c all.pending long ≡ None = none_from_room c all.pending long (omega (arith, e, r, o, no_fields)) in
    let sum32 : words32_refusal ltb (position c) c.head all.w32 ≡ None = words32_allowed (position c) c.head all.w32 c.head.big refl (λ b. let w = room.w32 b in omega (arith, w, words32', w32')) in
    let sum64 : words64_refusal ltb (position c) c.head all.w64 ≡ None = words64_allowed (position c) c.head all.w64 (omega (arith, v, words64', w64')) in
    let tail : List Step = cond (eqb all.pending 0) (end_steps c long all) [] in
    none_after m (entry_steps c code kind rest) (variable_steps c kind (custom_of (take 3 rest)) rest ++ closing_steps c kind rest) (first, (sound, tt))
    (none_after m (variable_steps c kind (custom_of (take 3 rest)) rest) (closing_steps c kind rest) (subst AllStepsPass (sym one) (content, tt))
    (none_after m (step sized (overlong c all.pending long) ∷ step sized (words32_refusal ltb (position c) c.head all.w32) ∷ step sized (words64_refusal ltb (position c) c.head all.w64) ∷ []) tail
    (pending', (sum32, (sum64, tt)))
    (before_end m c long all (eqb all.pending 0) (omega (arith, short, e)))))

pub truncated_in_content :
    (kind : CodeKind) (rest : List ℕ) (fixed variable : ℕ) (measure : Option Measure) (n few32 few64 : ℕ) → fixed ≡ fixed_bytes kind → IsSized kind rest variable measure → n ≡ 1 + fixed + variable → 1 + length rest < n
    → of_object words32 measure ≤ few32 → of_object words64 measure ≤ few64 → IsTruncatedAfter kind rest n few32 few64
truncated_in_content kind rest fixed variable measure n few32 few64 f s e short words32' words64' =
    let long : n ≡ 1 + fixed_bytes kind + variable_bytes kind rest = let v = s.variable_is in omega (arith, e, v, f) in
    record {
      some = omega (arith, short);
      is_part = omega (arith, short, long);
      passes = λ c code room. known_truncated c code kind rest measure (1 + length rest) n few32 few64 short long room s.measure_is s.leaf words32' words64' (s.sound c code) (s.steps c);
    }

-- ---- tokens with their code

-- Case: the bytes contain no byte of the token.
pub truncated_of_nothing : (bytes : List ℕ) (few32 few64 : ℕ) → length bytes ≡ 0 → IsTruncated 1 few32 few64 bytes
unfolding token_steps
truncated_of_nothing [] few32 few64 none' = record { some = omega arith; is_part = omega arith; passes = λ c room. refl }
truncated_of_nothing (code ∷ rest) few32 few64 none' = absurd (omega (arith, none'))

steps_of_kind : (c : Context) (code : ℕ) (kind : CodeKind) (rest : List ℕ) (m : ℕ) → kind_of code ≡ Ok kind → first_refusal m (steps_after c code kind rest) ≡ None → first_refusal m (token_steps c (code ∷ rest)) ≡ None
unfolding token_steps
steps_of_kind c code kind rest m e p = subst (λ k. first_refusal m (steps_from c code k rest) ≡ None) (sym e) p

part_of_kind : (code : ℕ) (kind : CodeKind) (rest : List ℕ) → kind_of code ≡ Ok kind → length rest < fixed_bytes kind + variable_bytes kind rest → IsPart (code ∷ rest)
part_of_kind code kind rest e p = subst (λ k. length (code ∷ rest) < 1 + length_after k rest) (sym e) (omega (arith, p))

truncated_with_code : (code : ℕ) (kind : CodeKind) (rest : List ℕ) (n few32 few64 : ℕ) → kind_of code ≡ Ok kind → IsTruncatedAfter kind rest n few32 few64 → IsTruncated n few32 few64 (code ∷ rest)
truncated_with_code code kind rest n few32 few64 e truncated = record {
  some = truncated.some;
  is_part = part_of_kind code kind rest e truncated.is_part;
  passes = λ c room.
      let same : 1 + length rest ≡ length (code ∷ rest) = omega arith in
      steps_of_kind c code kind rest (length (code ∷ rest)) e (subst (λ m. first_refusal m (steps_after c code kind rest) ≡ None) same (truncated.passes c code room));
}

-- Case: the bytes contain the code of the token.
pub truncated_of_bytes : (bytes : List ℕ) (kind : CodeKind) (n few32 few64 : ℕ) → 0 < length bytes → kind_of (get_or bytes 0 0) ≡ Ok kind → IsTruncatedAfter kind (drop 1 bytes) n few32 few64 → IsTruncated n few32 few64 bytes
truncated_of_bytes [] kind n few32 few64 some e truncated = absurd (omega (arith, some))
truncated_of_bytes (code ∷ rest) kind n few32 few64 some e truncated = truncated_with_code code kind rest n few32 few64 e truncated

-- ---- the size by kind

pub sized_small_string : (kind : CodeKind) (rest : List ℕ) (size n : ℕ) → kind ≡ kinds.SmallString size → n ≡ size → IsSized kind rest n (Some (measures.Bytes n))
sized_small_string kind rest size n is e =
    subst (λ k. IsSized k rest n (Some (measures.Bytes n))) (sym is)
    (record { variable_is = e; measure_is = ap (λ k. Some (measures.Bytes k)) (sym e); leaf = refl; sound = λ c code. refl; steps = λ c. refl })

pub sized_int : (kind : CodeKind) (rest : List ℕ) (width : ℕ) → kind ≡ kinds.Int width → width ≢ 8 → IsSized kind rest 0 None
sized_int kind rest width is other =
    subst (λ k. IsSized k rest 0 None) (sym is)
    (record { variable_is = refl; measure_is = refl; leaf = refl; sound = λ c code. let no' = ne_eqb width 8 other in rw no' refl; steps = λ c. refl })

pub sized_str : (kind : CodeKind) (rest : List ℕ) (width n : ℕ) → kind ≡ kinds.Str width → n ≡ number (take width rest) → IsSized kind rest n (Some (measures.Bytes n))
sized_str kind rest width n is e =
    subst (λ k. IsSized k rest n (Some (measures.Bytes n))) (sym is)
    (record { variable_is = e; measure_is = ap (λ k. Some (measures.Bytes k)) (sym e); leaf = refl; sound = λ c code. refl; steps = λ c. refl })

pub sized_double : (kind : CodeKind) (rest : List ℕ) (little : Bool) → kind ≡ kinds.Double little → IsSized kind rest 0 (Some measures.Double)
sized_double kind rest little is =
    subst (λ k. IsSized k rest 0 (Some measures.Double)) (sym is)
    (record { variable_is = refl; measure_is = refl; leaf = refl; sound = λ c code. refl; steps = λ c. refl })

pub sized_doubles : (kind : CodeKind) (rest : List ℕ) (width : ℕ) (little : Bool) (n : ℕ) → kind ≡ kinds.Doubles width little → n ≡ number (take width rest) → 0 < n → IsSized kind rest (8 * n) (Some (measures.Doubles n))
sized_doubles kind rest width little n is e some =
    subst (λ k. IsSized k rest (8 * n) (Some (measures.Doubles n))) (sym is)
    (record {
      variable_is = ap (λ k. 8 * k) e;
      measure_is = ap (λ k. Some (measures.Doubles k)) (sym e);
      leaf = refl;
      sound = λ c code. fails_if_none (eqb (number (take width rest)) 0) (ZeroArray (position c)) (ne_eqb (number (take width rest)) 0 (λ none'. omega (arith, none', e, some)));
      steps = λ c. refl;
    })

pub sized_int32 : (kind : CodeKind) (rest : List ℕ) (old : Bool) → kind ≡ kinds.Custom old → custom_of (take 3 rest) ≡ Some customs.Int32 → IsSized kind rest 4 (Some (measures.Custom 4 4))
sized_int32 kind rest old is e =
    subst (λ k. IsSized k rest 4 (Some (measures.Custom 4 4))) (sym is)
    (record { variable_is = rw e refl; measure_is = rw e refl; leaf = refl; sound = λ c code. rw e refl; steps = λ c. ap (λ k. variable_steps c (kinds.Custom old) k rest) e })

pub sized_int64 : (kind : CodeKind) (rest : List ℕ) (old : Bool) → kind ≡ kinds.Custom old → custom_of (take 3 rest) ≡ Some customs.Int64 → IsSized kind rest 8 (Some (measures.Custom 8 8))
sized_int64 kind rest old is e =
    subst (λ k. IsSized k rest 8 (Some (measures.Custom 8 8))) (sym is)
    (record { variable_is = rw e refl; measure_is = rw e refl; leaf = refl; sound = λ c code. rw e refl; steps = λ c. ap (λ k. variable_steps c (kinds.Custom old) k rest) e })
