-- The room that remains for tokens that surely pass.
use Rattle.std.proofs.Common.{ℕ, ◌≡◌, inl, inr, ◌+◌, ◌-◌, ◌^◌, ◌<◌, ◌≤◌, List, [], true, false, cond, Option, Some, None, arith, refl, ap, sym, subst, ◌∙◌}
use Rattle.std.proofs.lemmas.Bool.{cases_lt}
use Rattle.base_data.specs.declared.model.header.Head.{Head}
use Rattle.base_data.specs.declared.model.code.Measure.{Measure}
use Rattle.marshal_spec.specs.format.Words.{of_object, fields, words32, words64}
use Rattle.marshal_spec.specs.format.Prefix.{context}
use Rattle.marshal_read.specs.declared.read_totals.ReadTotals.{ReadTotals}
use Rattle.marshal_read.specs.declared.remaining_room.RemainingRoom.{RemainingRoom}
use Rattle.marshal_read.specs.Totals.{AreTotals, AreFew, Advances, EndsValue, context_of}
use Rattle.marshal_read.specs.Build.{Bounded}
use Rattle.marshal_read.specs.Chunks.{LeadsAs}
use Rattle.marshal_read.specs.Left.{LeavesRoom, SpendsRoom, IsSpent, limit_of}
use Rattle.marshal_read.proofs.TotalsLemmas.{totals_are}

-- A token makes at most one object.
one_object : (measure : Option Measure) → of_object (λ _. 1) measure ≤ 1
one_object None = omega arith
one_object (Some m) = omega arith

limit_small : (head : Head) → head.big ≡ false → limit_of head ≡ head.w32
limit_small head e = ap (λ b. cond b (2 ^ 62) head.w32) e

-- If the totals increase by a token, then the remaining room decreases by the token.
module _ (first position : ReadTotals) (n k : ℕ) (left left' : RemainingRoom) (measure : Option Measure) (leaves : LeavesRoom first n position left) (is_open : 0 < left.pending) (some : 0 < k) (spends : SpendsRoom left k measure left')
    (spent : left'.pending ≡ 0 → IsSpent first.head (position.objects + of_object (λ _. 1) measure) left')
    (few32 : AreFew words32 measure k) (few64 : AreFew words64 measure k) where
  next_position : ReadTotals
  next_position = record {
    head = position.head;
    start = position.start;
    taken = position.taken + k;
    objects = position.objects + of_object (λ _. 1) measure;
    pending = position.pending - 1 + of_object fields measure;
    w32 = position.w32 + of_object words32 measure;
    w64 = position.w64 + of_object words64 measure;
    begins = position.begins;
    short = position.short;
    room = omega (arith, leaves.slack, leaves.pending, spends.slack);
    few = omega (arith, position.few, one_object measure);
    words32 = omega (arith, position.words32, few32, leaves.pending);
    words64 = omega (arith, position.words64, few64, leaves.pending);
    within32 = λ e. omega (arith, leaves.w32, spends.w32, limit_small position.head e);
    within64 = omega (arith, leaves.w64, spends.w64);
  }

  ends : next_position.pending ≡ 0 → EndsValue next_position
  unfolding next_position
  ends last =
      let s = spent (omega (arith, leaves.pending, spends.pending, last)) in
      let objects_is = ap (λ (h : Head). h.objects) leaves.head in
      record {
        taken = omega (arith, leaves.slack, leaves.pending, spends.slack, s.slack, last);
        w32 = λ small. omega (arith, leaves.w32, spends.w32, s.w32 (sym (ap (λ (h : Head). h.big) leaves.head) ∙ small), limit_small position.head small);
        w64 = omega (arith, leaves.w64, spends.w64, s.w64);
        count = λ some. objects_is ∙ s.count (omega (arith, objects_is, some));
      }

  pub goes_on : (next : ReadTotals) × LeavesRoom first (n + k) next left' × Advances position k measure next true
  unfolding next_position
  goes_on = (
    next_position,
    record {
      head = leaves.head;
      start = leaves.start;
      taken = omega (arith, leaves.taken);
      slack = omega (arith, leaves.slack, leaves.pending, spends.slack);
      pending = omega (arith, leaves.pending, spends.pending);
      w32 = omega (arith, leaves.w32, spends.w32);
      w64 = omega (arith, leaves.w64, spends.w64);
    },
    (
      ends,
      record { head = refl; start = refl; taken = refl; objects = refl; pending = refl; w32 = refl; w64 = refl },
    ),
  )

-- If data of the value remain, then a value is pending.
pub still_open : (first position : ReadTotals) (n m : ℕ) (left : RemainingRoom) → LeavesRoom first n position left → (position.pending ≡ 0 → position.taken ≡ position.head.length)
    → first.taken + m ≤ first.head.length → n < m → 0 < left.pending
still_open first position n m left leaves ends within lt =
    elim (cases_lt 0 left.pending) [
      | inl some ↦ some
      | inr none ↦ absurd (omega (arith, ends (omega (arith, leaves.pending)), leaves.taken, ap (λ (h : Head). h.length) leaves.head))
    ]

-- If two totals have the same numbers, then bytes that lead to one of the totals lead to the other
-- totals.
pub same_position : (limit : ℕ) (taken : List ℕ) (position position' : ReadTotals) (state : Bounded) → AreTotals position' (context_of position) → LeadsAs (Some position) limit taken state [] → LeadsAs (Some position') limit taken state []
same_position limit taken position position' state same l =
    let h = l.2 in
    let sums : AreTotals position' (context l.0 l.1) = subst (AreTotals position') (sym (totals_are position (context l.0 l.1) h.builds.sums)) same in (
      l.0,
      l.1,
      record {
        bytes_are = h.bytes_are;
        header_passes = h.header_passes;
        tokens_pass = h.tokens_pass;
        builds = record {
          tokens = h.builds.tokens;
          sums = sums;
          encodes = h.builds.encodes;
          are_tokens = h.builds.are_tokens;
          builds = h.builds.builds;
          room = h.builds.room ∙ ap (λ (x : Head). x.w64) same.head;
        };
        is_part = h.is_part;
        passes = h.passes;
        ends = λ _. refl;
      },
    )
