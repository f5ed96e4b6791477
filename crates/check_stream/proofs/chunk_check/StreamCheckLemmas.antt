-- Bytes are a prefix of a value if the bytes are a part of a header, or if the bytes passed up to
-- an incomplete token. The lemmas also show that checks continue with more bytes.
use Rattle.std.proofs.Common.{ℕ, ◌+◌, ◌-◌, ◌^◌, ◌<◌, ◌≤◌, ◌≡◌, ◌⊎◌, inl, inr, false, List, [], ◌∷◌, ◌++◌, length, drop, map, Option, Some, None, refl, sym, ap, subst, subst₂, arith}
use Rattle.std.specs.Prelude.{if◌then◌else◌}
use Rattle.std.proofs.lemmas.List.{length-append}
use Rattle.std.proofs.lemmas.List.Elements.{All-nil, All-append}
use Rattle.std.proofs.lemmas.Bool.{le-ltb, lt-ltb, cases_lt}
use Rattle.std.proofs.lemmas.Bool.Decides.{nat_tests}
use Rattle.base_data.specs.model.Bytes.{AreBytes}
use Rattle.base_data.specs.declared.model.header.Head.{Head}
use Rattle.base_data.specs.declared.model.refusal.ReadRefusal.{ReadRefusal}
use Rattle.types_spec.specs.types.Table.{Table}
use Rattle.marshal_spec.specs.format.Words.{all_words32}
use Rattle.marshal_spec.specs.format.Token.{measure_of}
use Rattle.marshal_spec.specs.format.Header.{magic, header_length}
use Rattle.marshal_spec.specs.format.Step.{Step, step, first_refusal, magic_refusal, header_steps}
use Rattle.marshal_spec.specs.format.Prefix.{IsPrefix, header_refusal}
use Rattle.marshal_spec.proofs.format.EncodeHeaders.{none_from_magic}
use Rattle.marshal_spec.proofs.format.TokenStepLemmas.{header_length-from}
use Rattle.marshal_codec.specs.headers.Parsing.{HasMagic, wanted}
use Rattle.check_stream.specs.mismatch_theory.PassedBut.{values_at}
use Rattle.check_stream.specs.theory.AskedNeeds.{Need, of_type, hash_of, values_in}
use Rattle.check_stream.specs.declared.checker.passing.Passing.{Passing}
use Rattle.check_stream.specs.checker.CheckerState.{needs_in, stated32, IsUnderway}
use Rattle.check_stream.proofs.checker.CheckerRunLemmas.{leads_longer}
use Rattle.check_stream.specs.declared.mismatch_search.mismatch.FoundMismatch.{FoundMismatch}
use Rattle.check_stream.specs.declared.mismatch_search.mismatch.Seeking.{Seeking}
use Rattle.check_stream.specs.mismatch_search.SearchTrail.{way_positions}
use Rattle.check_stream.specs.mismatch_search.Find.{IsSought, IsFound}
use Rattle.check_stream.proofs.mismatch_search.MismatchSearchFindLemmas.{finds_longer}
use Rattle.check_stream.specs.declared.chunk_check.stream_check.StreamCheck.{StreamCheck}
use Rattle.check_stream.specs.declared.chunk_check.value_inspection.Inspecting.{Inspecting}
use Rattle.check_stream.specs.chunk_check.Inspection.{IsInspecting, HasRoomAfter}
use Rattle.check_stream.specs.chunk_check.StreamCheck.{IsStreamCheck, IsMissedNext, held}
use Rattle.check_stream.proofs.chunk_check.LawLemmas.{passing_is_prefix, passing_but_is_prefix}

-- ---- in a header

-- If a step is decided and does not fail, and the steps after the step do not fail, then no step
-- fails.
passed : (n k : ℕ) (r : Option ReadRefusal) (after : List Step) → k ≤ n → r ≡ None → first_refusal n after ≡ None → first_refusal n (step k r ∷ after) ≡ None
passed n k r after whole none others = rw (le-ltb n k whole, none) others

waits : (limit : ℕ) (bytes : List ℕ) → (4 ≤ length bytes → HasMagic bytes) → length bytes < header_length bytes → (length bytes < 4) ⊎ (4 ≤ length bytes) → header_refusal limit bytes ≡ None
unfolding header_steps
waits limit bytes has short (inl few) = rw (lt-ltb (length bytes) 4 few) refl
waits limit bytes has short (inr four) =
    passed (length bytes) 4 (magic_refusal (magic bytes)) (drop 1 (header_steps limit bytes)) four (none_from_magic (magic bytes) (has four)) (rw (lt-ltb (length bytes) (header_length bytes) short) refl)

pub header_prefix : (bytes : List ℕ) (k : ℕ) → (4 ≤ length bytes → HasMagic bytes) → 0 < k → length bytes + k ≡ wanted bytes → (limit : ℕ) → IsPrefix limit bytes
header_prefix bytes k has some sum limit =
    let from = header_length-from bytes in
    let short : length bytes < header_length bytes = grind (arith, nat_tests) in
    inl (record { part = short; passes = waits limit bytes has short (cases_lt (length bytes) 4) })

-- If no byte is buffered, then the state of the check is valid.
pub fresh_stream_check : (g : StreamCheck) → g.kept.items ≡ [] → ((table : Table) (limit : ℕ) (bytes : List ℕ) → IsInspecting table limit bytes g.inspecting) → (table : Table) (limit : ℕ) → IsStreamCheck table limit g
fresh_stream_check g none inspecting table limit = record {
  bytes = subst AreBytes (sym none) (All-nil (λ (b : ℕ). b < 256));
  is_prefix = subst (IsPrefix limit) (sym none) (header_prefix [] 4 (λ four. absurd (omega (arith, four))) (omega arith) refl limit);
  inspecting = inspecting table limit g.kept.items;
}

-- If more bytes are appended, then the state of the check stays valid.
pub inspecting_longer : (table : Table) (limit : ℕ) (bytes more : List ℕ) (inspecting : Inspecting) → IsInspecting table limit bytes inspecting → IsInspecting table limit (bytes ++ more) inspecting
inspecting_longer table limit bytes more inspecting l = record {
  underway = λ begun. let p = inspecting.passing in leads_longer table limit bytes more p.head p.start p.at p.marks.items p.notes.items p.state (l.underway begun);
  sought = λ sought. let s = inspecting.seeking in finds_longer table limit bytes more s.head s.start s.at [] s.finding (l.sought sought);
}

-- If the buffered bytes and the chunk are a prefix of a value, then the new state is valid for all
-- these bytes.
pub more_taken :
    (table : Table) (limit : ℕ) (old new : StreamCheck) (chunk : List ℕ) → AreBytes old.kept.items → AreBytes chunk → new.kept.items ≡ old.kept.items ++ chunk → IsPrefix limit (old.kept.items ++ chunk) → IsInspecting table limit (old.kept.items ++ chunk) new.inspecting
    → (new.kept.items ≡ old.kept.items ++ chunk) × IsStreamCheck table limit new
more_taken table limit old new chunk before bytes kept prefix inspecting = (
  kept,
  record {
    bytes = subst AreBytes (sym kept) (All-append (λ b. b < 256) old.kept.items chunk before bytes);
    is_prefix = subst (IsPrefix limit) (sym kept) prefix;
    inspecting = subst (λ all. IsInspecting table limit all new.inspecting) (sym kept) inspecting;
  },
)

-- If the buffered bytes and the chunk begin with a value with one mismatch, then the next value
-- begins after the value.
pub missed_next :
    (table : Table) (limit : ℕ) (old new : StreamCheck) (chunk bytes : List ℕ) (total n : ℕ) (found : FoundMismatch) → total ≡ length old.kept.items + n → bytes ≡ old.kept.items ++ chunk → 0 < n → held new ≡ Some found → IsFound table limit total bytes found
    → found.ty < length table.nodes → new.kept.items ≡ [] → ((other : Table) (limit' : ℕ) → IsStreamCheck other limit' new) → IsMissedNext table limit old chunk new n
missed_next table limit old new chunk bytes total n found all same some holds is ty none stream_check =
    let here : IsFound table limit (length old.kept.items + n) (old.kept.items ++ chunk) found = subst₂ (λ m bs. IsFound table limit m bs found) all same is in
    record {
      some = some;
      within = let prefix = here.prefix.within in let both = length-append old.kept.items chunk in omega (arith, prefix, both);
      missed = (found, holds, here, ty);
      none = none;
      stream_check = stream_check;
    }

-- ---- among tokens

values_some : (needs : List Need) → 0 < length needs → 0 < values_in needs
values_some [] some = absurd (omega (arith, some))
values_some (of_type t ∷ needs) some = omega arith
values_some (hash_of tags ∷ needs) some = omega arith

words32_within : (head : Head) (all few : ℕ) → few + all ≡ stated32 head → head.big ≡ false → all + few ≤ head.w32
words32_within head all few sum big =
    let is : stated32 head ≡ head.w32 = ap (λ b. let k : ℕ = (if b then 2 ^ 64 - 1 else head.w32) in k) big in
    omega (arith, sum, is)

pub leads_prefix :
    (table : Table) (limit : ℕ) (bytes : List ℕ) (passing : Passing) (most : ℕ) → IsUnderway table limit bytes passing → 0 < length (needs_in passing.state)
    → HasRoomAfter passing.head.length passing.start passing.at passing.state.words.w32 passing.state.words.w64 bytes most → values_in (needs_in passing.state) ≤ most → IsPrefix limit bytes
leads_prefix table limit bytes passing most l some r within =
    let p = passing in
    let words = p.state.words in
    passing_is_prefix l.noted table limit bytes p.head p.start p.at l.tokens _ (needs_in p.state) r.long words.w32 words.w64 l.passing r.truncated
    (record {
      open_before = values_some (needs_in p.state) some;
      room = let room' = r.room in omega (arith, room', within);
      w32 = words32_within p.head (all_words32 (map measure_of l.tokens)) words.w32 l.w32;
      w64 = let sum = l.w64 in omega (arith, sum);
    })

pub missed_prefix :
    (table : Table) (limit : ℕ) (bytes : List ℕ) (seeking : Seeking) (most : ℕ) → IsSought table limit bytes seeking → 0 < values_at (way_positions seeking.finding.way)
    → HasRoomAfter seeking.head.length seeking.start seeking.at seeking.finding.words.w32 seeking.finding.words.w64 bytes most → values_at (way_positions seeking.finding.way) ≤ most → IsPrefix limit bytes
missed_prefix table limit bytes seeking most f some r within =
    let s = seeking in
    let words = s.finding.words in
    passing_but_is_prefix f.back table limit bytes s.head s.start s.at f.tokens f.made (way_positions s.finding.way) f.missed r.long words.w32 words.w64 f.passing r.truncated
    (record {
      open_before = some;
      room = let room' = r.room in omega (arith, room', within);
      w32 = words32_within s.head (all_words32 (map measure_of f.tokens)) words.w32 f.w32;
      w64 = let sum = f.w64 in omega (arith, sum);
    })
