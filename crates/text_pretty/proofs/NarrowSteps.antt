-- Lines are narrow, byte by byte. By the invariant, the line so far has one of these forms:
--
-- - one word,
-- - a line that ends by column 80 with a bracket that fits the line,
-- - a line after a closing bracket by column 80.
use Rattle.std.proofs.Common.{◌≡◌, ◌≢◌, ◌⊎◌, inl, inr, ℕ, suc, ◌+◌, ◌-◌, ◌<◌, ◌≤◌, Bool, true, false, not, ◌&&◌, ◌||◌, ◌==◌, cond, ltb, leb, List, [], ◌∷◌, ◌++◌, Option, Some, None, refl, ap, sym, subst, ◌∙◌, ⊎_elim, arith}
use Rattle.std.specs.Prelude.{option_map}
use Rattle.std.specs.List.{AllByRecursion}
use Rattle.std.proofs.lemmas.Bool.{cond_both, both_ways, false≢true, cond-true, cond-false, eqb-true, leb-true, ltb-false, lt-ltb, le-ltb, and_parts, and_left, and_from, cases_Bool, cases_lt}
use Rattle.text_pretty.specs.declared.break_point.BreakPoint.{BreakPoint}
use Rattle.text_pretty.specs.declared.break_point.BreakPoint.TheVariants as break_points
use Rattle.text_pretty.specs.declared.break_point.ByteRole.{ByteRole}
use Rattle.text_pretty.specs.declared.break_point.ByteRole.TheVariants as marks
use Rattle.text_pretty.specs.declared.broken_bracket.BrokenBracket.{BrokenBracket}
use Rattle.text_pretty.specs.declared.broken_bracket.BrokenBracket.TheVariants as kinds
use Rattle.text_pretty.specs.declared.layout.Layout.{Layout}
use Rattle.text_pretty.specs.BreakPoints.{mark_of, next_break_point}
use Rattle.text_pretty.specs.Fit.{closing_length, depth_after, counted, to_close, within}
use Rattle.text_pretty.specs.Stack.{first, others}
use Rattle.text_pretty.specs.PrettyLines.{inner, base, child_indent, closing_line, line_at, line_before, line_text, left_behind, passed, opened, list_room, marked, behind, laid, start}
use Rattle.text_pretty.specs.Narrow.{is_behind_position, is_before_position, Seen, nothing, seen_more, IsNarrow, AreNarrow, goes_on, bar_goes_on, has_no_blank, follows, is_regular, PrettyIsNarrow}
use Rattle.text_pretty.proofs.FitLemmas.{IsPositive, closing_positive, close_positive}
use Rattle.text_pretty.proofs.NarrowLemmas.{parts_lead, parts_open_nothing, opening_leads_out, goes_byte, goes_line}

-- ---- the invariant before the remaining bytes

record IsFresh (at : Layout) (plain : List ℕ) : Type 0 where
  outside : at.break_point ≡ break_points.Outside
  indent : ℕ
  block : first at.brackets ≡ Some (kinds.Block indent)
  next : has_no_blank plain ≡ true

record Known (at : Layout) (columns : ℕ) (seen : Seen) (plain : List ℕ) : Type 0 where
  left : at.left ≡ 80 - columns
  break_point : seen.break_point ≡ at.break_point
  fresh : at.fresh ≡ true → IsFresh at plain
  regular : is_regular at.break_point plain ≡ true

record IsWord (at : Layout) (seen : Seen) : Type 0 where
  flat : at.flat ≡ 0
  placed : seen.placed ≡ false
  opened : seen.opened ≡ true → at.fresh ≡ true

record IsFlat (at : Layout) (columns : ℕ) (plain : List ℕ) : Type 0 where
  some : 0 < at.flat
  depth : ℕ
  closes : to_close at.break_point depth plain ≡ Some at.flat
  room : columns + at.flat ≤ 80
  stale : at.fresh ≡ false

record IsBar (at : Layout) (columns : ℕ) (plain : List ℕ) : Type 0 where
  flat : at.flat ≤ 1
  room : columns + 1 ≤ 80
  next : bar_goes_on at.break_point plain ≡ true
  stale : at.fresh ≡ false

record IsClosed (at : Layout) (columns : ℕ) (plain : List ℕ) : Type 0 where
  flat : at.flat ≡ 0
  room : columns ≤ 80
  next : goes_on at.break_point plain ≡ true
  stale : at.fresh ≡ false

data Mode (at : Layout) (columns : ℕ) (seen : Seen) (plain : List ℕ) : Type 0 where
  Word : IsWord at seen → Mode at columns seen plain
  Flat : IsFlat at columns plain → Mode at columns seen plain
  Bar : IsBar at columns plain → Mode at columns seen plain
  Closed : IsClosed at columns plain → Mode at columns seen plain

record Goes (at : Layout) (columns : ℕ) (seen : Seen) (plain : List ℕ) : Type 0 where
  known : Known at columns seen plain
  mode : Mode at columns seen plain

narrow_now : (at : Layout) (columns : ℕ) (seen : Seen) (plain : List ℕ) → Mode at columns seen plain → IsNarrow columns seen
narrow_now at columns seen plain (Word word) = inr word.placed
narrow_now at columns seen plain (Flat flat) = inl (omega (arith, flat.room))
narrow_now at columns seen plain (Bar bar) = inl (omega (arith, bar.room))
narrow_now at columns seen plain (Closed closed) = inl closed.room

-- ---- tests of brackets that fit

behind_plain : (line : Option ℕ) (b : ℕ) (bytes : List ℕ) (at : Layout) → at.flat ≡ 0 → marked (mark_of at.break_point b) bytes (passed line b at) ≡ behind line b bytes at
behind_plain line b bytes at none = sym (cond-false (ltb 0 at.flat) (passed line b at) (marked (mark_of at.break_point b) bytes (passed line b at)) (le-ltb 0 at.flat (omega (arith, none))))

behind_flat : (line : Option ℕ) (b : ℕ) (bytes : List ℕ) (at : Layout) → 0 < at.flat → passed line b at ≡ behind line b bytes at
behind_flat line b bytes at some = sym (cond-true (ltb 0 at.flat) (passed line b at) (marked (mark_of at.break_point b) bytes (passed line b at)) (lt-ltb 0 at.flat some))

before_plain : (b : ℕ) (at : Layout) → at.flat ≡ 0 → line_before at b ≡ line_at at (mark_of at.break_point b) b
before_plain b at none = cond-false (ltb 0 at.flat) None (line_at at (mark_of at.break_point b) b) (le-ltb 0 at.flat (omega (arith, none)))

before_flat : (b : ℕ) (at : Layout) → 0 < at.flat → line_before at b ≡ None
before_flat b at some = cond-true (ltb 0 at.flat) None (line_at at (mark_of at.break_point b) b) (lt-ltb 0 at.flat some)

-- ---- opening brackets

room_found : (left : ℕ) (found : Option ℕ) → 0 < within left found → (found ≡ Some (within left found)) × (within left found ≤ left)
room_found left None some = absurd (omega (arith, some))
room_found left (Some n) some =
    cond_both (leb n left) n 0 (λ m. 0 < m → (Some n ≡ Some m) × (m ≤ left)) (λ less _. (refl, leb-true n left less)) (λ _ h. absurd (omega (arith, h))) some

list_found : (at : Layout) (top : Option BrokenBracket) (bytes : List ℕ) → 0 < list_room at top bytes → (to_close at.break_point 0 bytes ≡ Some (list_room at top bytes)) × (list_room at top bytes ≤ at.left)
list_found at None bytes some = room_found at.left (to_close at.break_point 0 bytes) some
list_found at (Some (kinds.Block indent)) bytes some = room_found at.left (to_close at.break_point 0 bytes) some
list_found at (Some (kinds.Chain indent)) bytes some =
    cond_both at.parted 0 (within at.left (to_close at.break_point 0 bytes))
    (λ m. 0 < m → (to_close at.break_point 0 bytes ≡ Some m) × (m ≤ at.left)) (λ _ h. absurd (omega (arith, h)))
    (λ _ h. room_found at.left (to_close at.break_point 0 bytes) h) some

-- The facts after a byte, without regard to the byte's role.
record Passed (at : Layout) (columns : ℕ) (seen : Seen) (plain : List ℕ) : Type 0 where
  left : at.left ≡ 80 - columns
  break_point : seen.break_point ≡ at.break_point
  regular : is_regular at.break_point plain ≡ true
  flat : at.flat ≡ 0
  stale : at.fresh ≡ false

opened_flat : (room : ℕ) (fresh : Bool) (bracket : BrokenBracket) (at : Layout) (columns : ℕ) (seen : Seen) (bytes : List ℕ) → Passed at columns seen bytes → 0 < room → (to_close at.break_point 0 bytes ≡ Some room) × (room ≤ at.left) → Goes (record at { flat = room; parted = false }) columns seen bytes
opened_flat room fresh bracket at columns seen bytes p some found = record {
  known = record { left = p.left; break_point = p.break_point; fresh = λ is. absurd (both_ways at.fresh p.stale is); regular = p.regular };
  mode = Flat (record { some = some; depth = 0; closes = found.0; room = omega (arith, found.1, p.left, some); stale = p.stale });
}

opened_over : (bracket : BrokenBracket) (fresh : Bool) (at : Layout) (columns : ℕ) (seen : Seen) (bytes : List ℕ) → Passed at columns seen bytes → seen.placed ≡ false → (seen.opened ≡ true → fresh ≡ true) → (fresh ≡ true → (at.break_point ≡ break_points.Outside) × (has_no_blank bytes ≡ true) × ((indent : ℕ) × (bracket ≡ kinds.Block indent))) → Goes (record at { fresh = fresh; parted = false; brackets = bracket ∷ at.brackets }) columns seen bytes
opened_over bracket fresh at columns seen bytes p placed opens if_fresh = record {
  known = record {
    left = p.left;
    break_point = p.break_point;
    fresh = λ is. let h = if_fresh is in record { outside = h.0; indent = h.2.0; block = ap (λ (k : BrokenBracket). Some k) h.2.1; next = h.1 };
    regular = p.regular;
  };
  mode = Word (record { flat = p.flat; placed = placed; opened = opens });
}

opened_goes : (room : ℕ) (fresh : Bool) (bracket : BrokenBracket) (at : Layout) (columns : ℕ) (seen : Seen) (bytes : List ℕ) → Passed at columns seen bytes → seen.placed ≡ false → (seen.opened ≡ true → fresh ≡ true) → (fresh ≡ true → (at.break_point ≡ break_points.Outside) × (has_no_blank bytes ≡ true) × ((indent : ℕ) × (bracket ≡ kinds.Block indent))) → (0 < room → (to_close at.break_point 0 bytes ≡ Some room) × (room ≤ at.left)) → Goes (opened room fresh bracket at) columns seen bytes
opened_goes room fresh bracket at columns seen bytes p placed opens if_fresh found =
    cond_both (ltb 0 room) (record at { flat = room; parted = false })
    (record at { fresh = fresh; parted = false; brackets = bracket ∷ at.brackets }) (λ (to : Layout). Goes to columns seen bytes)
    (λ some. let h : 0 < room = omega (arith, ltb_gives room some) in opened_flat room fresh bracket at columns seen bytes p h (found h))
    (λ _. opened_over bracket fresh at columns seen bytes p placed opens if_fresh)
  where
    ltb_gives : (n : ℕ) → ltb 0 n ≡ true → 0 < n
    ltb_gives n h = ⊎_elim (λ less. less) (λ past. absurd (let e : ltb 0 n ≡ false = le-ltb 0 n past in cc)) (cases_lt 0 n)

-- ---- by the role of a byte, before any break position

record IsGoing (mark : ByteRole) (at : Layout) (seen : Seen) (plain : List ℕ) : Type 0 where
  placed : seen.placed ≡ false
  opened : seen.opened ≡ is_before_position mark
  opening : mark ≡ marks.Opens → (at.break_point ≡ break_points.Outside) × (has_no_blank plain ≡ true)

stays_word : (at : Layout) (to : Layout) (columns : ℕ) (seen : Seen) (bytes : List ℕ) → Passed at columns seen bytes → seen.placed ≡ false → seen.opened ≡ false → to.left ≡ at.left → to.break_point ≡ at.break_point → to.flat ≡ at.flat → to.fresh ≡ at.fresh → Goes to columns seen bytes
stays_word at to columns seen bytes p placed opened same_left same_break_point same_flat same_fresh = record {
  known = record {
    left = same_left ∙ p.left;
    break_point = p.break_point ∙ sym same_break_point;
    fresh = λ is. absurd (both_ways to.fresh (same_fresh ∙ p.stale) is);
    regular = ap (λ s. is_regular s bytes) same_break_point ∙ p.regular;
  };
  mode = Word (record { flat = same_flat ∙ p.flat; placed = placed; opened = λ is. absurd (both_ways seen.opened opened is) });
}

marked_goes : (mark : ByteRole) (bytes : List ℕ) (at : Layout) (columns : ℕ) (seen : Seen) → Passed at columns seen bytes → IsGoing mark at seen bytes → Goes (marked mark bytes at) columns seen bytes
marked_goes marks.Opens bytes at columns seen p g =
    opened_goes (within at.left (to_close at.break_point 0 bytes)) true (kinds.Block (child_indent at.parted (first at.brackets))) at columns seen bytes p g.placed (λ _. refl)
    (λ _. ((g.opening refl).0, (g.opening refl).1, (child_indent at.parted (first at.brackets), refl)))
    (room_found at.left (to_close at.break_point 0 bytes))
marked_goes marks.OpensList bytes at columns seen p g =
    opened_goes (list_room at (first at.brackets) bytes) false (kinds.Chain (child_indent at.parted (first at.brackets))) at columns seen bytes p g.placed
    (λ is. absurd (both_ways seen.opened g.opened is)) (λ is. absurd (false≢true is)) (list_found at (first at.brackets) bytes)
marked_goes marks.Parts bytes at columns seen p g = stays_word at (record at { parted = true }) columns seen bytes p g.placed g.opened refl refl refl refl
marked_goes marks.Closes bytes at columns seen p g = stays_word at (record at { parted = false; brackets = others at.brackets }) columns seen bytes p g.placed g.opened refl refl refl refl
marked_goes marks.Other bytes at columns seen p g = stays_word at at columns seen bytes p g.placed g.opened refl refl refl refl

-- ---- the bytes that may follow

follows_opens : (mark : ByteRole) (b : ℕ) (break_point : BreakPoint) (bytes : List ℕ) → follows mark b break_point bytes ≡ true → mark ≡ marks.Opens → has_no_blank bytes ≡ true
follows_opens marks.Opens b break_point bytes h is = h
follows_opens marks.OpensList b break_point bytes h is = absurd (cc)
follows_opens marks.Parts b break_point bytes h is = absurd (cc)
follows_opens marks.Closes b break_point bytes h is = absurd (cc)
follows_opens marks.Other b break_point bytes h is = absurd (cc)

-- The invariant after a closing bracket whose first byte is by column 80.
closing_goes : (b : ℕ) (at : Layout) (columns : ℕ) (seen : Seen) (bytes : List ℕ) → Known at columns seen bytes → at.fresh ≡ false → at.flat ≤ closing_length b - 1 → columns + (closing_length b - 1) ≤ 80 → follows marks.Closes b at.break_point bytes ≡ true → Mode at columns seen bytes
closing_goes b at columns seen bytes known stale flat room next =
    ⊎_elim
    (λ is. let two : closing_length b ≡ 2 = cond-true (b == 124) 2 1 is in
    let on : bar_goes_on at.break_point bytes ≡ true = sym (cond-true (b == 124) (bar_goes_on at.break_point bytes) (goes_on at.break_point bytes) is) ∙ next in
    Bar (record { flat = omega (arith, flat, two); room = omega (arith, room, two); next = on; stale = stale }))
    (λ other. let one : closing_length b ≡ 1 = cond-false (b == 124) 2 1 other in
    let on : goes_on at.break_point bytes ≡ true = sym (cond-false (b == 124) (bar_goes_on at.break_point bytes) (goes_on at.break_point bytes) other) ∙ next in
    Closed (record { flat = omega (arith, flat, one); room = omega (arith, room, one); next = on; stale = stale }))
    (cases_Bool (b == 124))

-- ---- positions at which a line begins or does not

chain_room : (left b : ℕ) (top : Option BrokenBracket) → None ≡ closing_line left b top → closing_length b ≤ left
chain_room left b None is = absurd (cc)
chain_room left b (Some (kinds.Block indent)) is = absurd (cc)
chain_room left b (Some (kinds.Chain indent)) is =
    cond_both (ltb left (closing_length b)) (Some indent) None (λ (o : Option ℕ). None ≡ o → closing_length b ≤ left)
    (λ _ h. absurd (cc)) (λ is_false _. ltb-false left (closing_length b) is_false) is

line_none : (mark : ByteRole) (at : Layout) (b : ℕ) → None ≡ line_at at mark b → ((mark ≡ marks.Closes) × (closing_length b ≤ at.left)) ⊎ (is_behind_position mark ≡ false)
line_none marks.Parts at b is = absurd (cc)
line_none marks.Closes at b is = inl (refl, chain_room at.left b (first at.brackets) is)
line_none marks.Opens at b is = inr refl
line_none marks.OpensList at b is = inr refl
line_none marks.Other at b is = inr refl

begins_fresh : (fresh blank : Bool) (line : Option ℕ) (indent : ℕ) → Some indent ≡ cond (fresh && blank) line None → fresh ≡ true
begins_fresh true blank line indent is = refl
begins_fresh false blank line indent is = absurd (cc)

line_some : (mark : ByteRole) (at : Layout) (b indent : ℕ) → Some indent ≡ line_at at mark b → (is_behind_position mark ≡ true) ⊎ (at.fresh ≡ true)
line_some marks.Parts at b indent is = inl refl
line_some marks.Closes at b indent is = inl refl
line_some marks.Opens at b indent is = inr (begins_fresh at.fresh (not (b == 32)) (Some (inner (base (first at.brackets)))) indent is)
line_some marks.OpensList at b indent is = inr (begins_fresh at.fresh (not (b == 32)) (Some (inner (base (first at.brackets)))) indent is)
line_some marks.Other at b indent is = inr (begins_fresh at.fresh (not (b == 32)) (Some (inner (base (first at.brackets)))) indent is)

fresh_begins : (at : Layout) (b : ℕ) → at.fresh ≡ true → not (b == 32) ≡ true → None ≡ cond (at.fresh && not (b == 32)) (Some (inner (base (first at.brackets)))) None → ⊥
fresh_begins at b fresh no_blank is =
    let line = cond-true (at.fresh && not (b == 32)) (Some (inner (base (first at.brackets)))) None (and_from at.fresh (not (b == 32)) fresh no_blank) in
    cc

fresh_line : (mark : ByteRole) (at : Layout) (b : ℕ) (bytes : List ℕ) → at.fresh ≡ true → IsFresh at (b ∷ bytes) → None ≡ line_at at mark b → ⊥
fresh_line marks.Parts at b bytes fresh h is = absurd (cc)
fresh_line marks.Closes at b bytes fresh h is = let line = ap (λ top. closing_line at.left b top) h.block in absurd (cc)
fresh_line marks.Opens at b bytes fresh h is = fresh_begins at b fresh h.next is
fresh_line marks.OpensList at b bytes fresh h is = fresh_begins at b fresh h.next is
fresh_line marks.Other at b bytes fresh h is = fresh_begins at b fresh h.next is

-- ---- one more byte

abbrev columns_behind : Option ℕ → ℕ → ℕ
columns_behind None columns = columns + 1
columns_behind (Some indent) columns = indent + 1

abbrev seen_behind : Option ℕ → Seen → ℕ → Seen
seen_behind None seen b = seen_more seen b
seen_behind (Some indent) seen b = seen_more nothing b

left_goes : (line : Option ℕ) (left columns : ℕ) → left ≡ 80 - columns → left_behind line left ≡ 80 - columns_behind line columns
left_goes None left columns is = omega (arith, is)
left_goes (Some indent) left columns is = omega arith

placed_not : (begun placed opened position : Bool) → placed ≡ false → opened ≡ false → position ≡ false → (begun && (placed || (opened || position))) ≡ false
placed_not false placed opened position p o q = refl
placed_not true true opened position p o q = absurd (cc)
placed_not true false true position p o q = absurd (cc)
placed_not true false false position p o q = q

module _ (at : Layout) (b : ℕ) (bytes : List ℕ) (columns : ℕ) (seen : Seen) (known : Known at columns seen (b ∷ bytes)) where
  abbrev Next : Option ℕ → Layout → Type 0
  Next line to = Goes to (columns_behind line columns) (seen_behind line seen b) bytes

  following : follows (mark_of at.break_point b) b (next_break_point at.break_point b) bytes ≡ true
  following = (and_parts (follows (mark_of at.break_point b) b (next_break_point at.break_point b) bytes) (is_regular (next_break_point at.break_point b) bytes) known.regular).0

  regular_on : is_regular (next_break_point at.break_point b) bytes ≡ true
  regular_on = (and_parts (follows (mark_of at.break_point b) b (next_break_point at.break_point b) bytes) (is_regular (next_break_point at.break_point b) bytes) known.regular).1

  knows : (line : Option ℕ) → (seen_behind line seen b).break_point ≡ next_break_point at.break_point b → Known (passed line b at) (columns_behind line columns) (seen_behind line seen b) bytes
  knows line same = record {
    left = left_goes line at.left columns known.left;
    break_point = same;
    fresh = λ is. absurd (false≢true is);
    regular = regular_on;
  }

  passes : (line : Option ℕ) → at.flat ≡ 0 → (seen_behind line seen b).break_point ≡ next_break_point at.break_point b → Passed (passed line b at) (columns_behind line columns) (seen_behind line seen b) bytes
  passes line flat same = record {
    left = left_goes line at.left columns known.left;
    break_point = same;
    regular = regular_on;
    flat = omega (arith, flat);
    stale = refl;
  }

  going : (line : Option ℕ) → (seen_behind line seen b).placed ≡ false → (seen_behind line seen b).opened ≡ is_before_position (mark_of at.break_point b) → IsGoing (mark_of at.break_point b) (passed line b at) (seen_behind line seen b) bytes
  going line placed opened = record {
    placed = placed;
    opened = opened;
    opening = λ is. (opening_leads_out at.break_point b is, follows_opens (mark_of at.break_point b) b (next_break_point at.break_point b) bytes following is);
  }

  some_goes : (indent : ℕ) → at.flat ≡ 0 → next_break_point break_points.Outside b ≡ next_break_point at.break_point b → is_before_position (mark_of break_points.Outside b) ≡ is_before_position (mark_of at.break_point b) → Next (Some indent) (behind (Some indent) b bytes at)
  some_goes indent flat same opened =
      subst (λ (to : Layout). Next (Some indent) to) (behind_plain (Some indent) b bytes at flat)
      (marked_goes (mark_of at.break_point b) bytes (passed (Some indent) b at) (indent + 1) (seen_more nothing b) (passes (Some indent) flat same) (going (Some indent) refl opened))

  parts_go : (indent : ℕ) → at.flat ≡ 0 → is_behind_position (mark_of at.break_point b) ≡ true → Next (Some indent) (behind (Some indent) b bytes at)
  parts_go indent flat position =
      some_goes indent flat (sym (parts_lead at.break_point b position)) (parts_open_nothing at.break_point b position ∙ sym (not_both (mark_of at.break_point b) position))
    where
      not_both : (mark : ByteRole) → is_behind_position mark ≡ true → is_before_position mark ≡ false
      not_both marks.Parts h = refl
      not_both marks.Closes h = refl
      not_both marks.Opens h = absurd (false≢true h)
      not_both marks.OpensList h = refl
      not_both marks.Other h = refl

  same_break_point : (seen_more seen b).break_point ≡ next_break_point at.break_point b
  same_break_point = ap (λ s. next_break_point s b) known.break_point

  same_opened : (seen_more seen b).opened ≡ is_before_position (mark_of at.break_point b)
  same_opened = ap (λ s. is_before_position (mark_of s b)) known.break_point

  plain_goes : at.flat ≡ 0 → seen.placed ≡ false → seen.opened ≡ false → is_behind_position (mark_of at.break_point b) ≡ false → Next None (behind None b bytes at)
  plain_goes flat placed opened position =
      let no_position : is_behind_position (mark_of seen.break_point b) ≡ false = ap (λ s. is_behind_position (mark_of s b)) known.break_point ∙ position in
      subst (λ (to : Layout). Next None to) (behind_plain None b bytes at flat)
      (marked_goes (mark_of at.break_point b) bytes (passed None b at) (columns + 1) (seen_more seen b) (passes None flat same_break_point)
      (going None (placed_not seen.begun seen.placed seen.opened (is_behind_position (mark_of seen.break_point b)) placed opened no_position) same_opened))

  closes_follow : mark_of at.break_point b ≡ marks.Closes → follows marks.Closes b (next_break_point at.break_point b) bytes ≡ true
  closes_follow is = sym (ap (λ m. follows m b (next_break_point at.break_point b) bytes) is) ∙ following

  abbrev closed : Layout
  closed = record {
    break_point = next_break_point at.break_point b;
    left = at.left - 1;
    flat = at.flat - 1;
    fresh = false;
    parted = false;
    brackets = others at.brackets;
  }

  closed_known : Known closed (columns + 1) (seen_more seen b) bytes
  closed_known = record {
    left = left_goes None at.left columns known.left;
    break_point = same_break_point;
    fresh = λ is. absurd (false≢true is);
    regular = regular_on;
  }

  chain_goes : at.flat ≡ 0 → mark_of at.break_point b ≡ marks.Closes → closing_length b ≤ at.left → Next None (behind None b bytes at)
  chain_goes flat is room =
      subst (λ (to : Layout). Next None to) (sym (ap (λ m. marked m bytes (passed None b at)) is) ∙ behind_plain None b bytes at flat)
      (record {
        known = closed_known;
        mode = closing_goes b closed (columns + 1) (seen_more seen b) bytes closed_known refl (omega (arith, flat))
            (omega (arith, room, known.left, closing_positive b)) (closes_follow is);
      })

  -- ---- by cases of the invariant

  word_goes : IsWord at seen → (line : Option ℕ) → line ≡ line_before at b → Next line (behind line b bytes at)
  word_goes w (Some indent) is =
      ⊎_elim (λ position. parts_go indent w.flat position)
      (λ fresh. let out : at.break_point ≡ break_points.Outside = (known.fresh fresh).outside in
      some_goes indent w.flat (sym (ap (λ s. next_break_point s b) out)) (sym (ap (λ s. is_before_position (mark_of s b)) out)))
      (line_some (mark_of at.break_point b) at b indent (is ∙ before_plain b at w.flat))
  word_goes w None is =
      let line : None ≡ line_at at (mark_of at.break_point b) b = is ∙ before_plain b at w.flat in
      ⊎_elim (λ chain. chain_goes w.flat chain.0 chain.1)
      (λ position. plain_goes w.flat w.placed
      (⊎_elim (λ opened. let fresh : at.fresh ≡ true = w.opened opened in
      absurd (fresh_line (mark_of at.break_point b) at b bytes fresh (known.fresh fresh) line)) (λ is_false. is_false) (cases_Bool seen.opened)) position)
      (line_none (mark_of at.break_point b) at b line)

  closed_goes : IsClosed at columns (b ∷ bytes) → (line : Option ℕ) → line ≡ line_before at b → Next line (behind line b bytes at)
  closed_goes c (Some indent) is = parts_go indent c.flat c.next
  closed_goes c None is =
      ⊎_elim (λ chain. chain_goes c.flat chain.0 chain.1) (λ is_false. absurd (both_ways (is_behind_position (mark_of at.break_point b)) is_false c.next))
      (line_none (mark_of at.break_point b) at b (is ∙ before_plain b at c.flat))

  stale_none : at.fresh ≡ false → mark_of at.break_point b ≡ marks.Other → line_before at b ≡ None
  stale_none stale other =
      ⊎_elim (λ some. before_flat b at some)
      (λ none. let flat : at.flat ≡ 0 = omega (arith, none) in
      before_plain b at flat ∙ ap (λ m. line_at at m b) other
      ∙ cond-false (at.fresh && not (b == 32)) (Some (inner (base (first at.brackets)))) None (and_left at.fresh (not (b == 32)) stale))
      (cases_lt 0 at.flat)

  other_passes : mark_of at.break_point b ≡ marks.Other → passed None b at ≡ behind None b bytes at
  other_passes other =
      ⊎_elim (λ some. behind_flat None b bytes at some)
      (λ none. let flat : at.flat ≡ 0 = omega (arith, none) in
      sym (ap (λ m. marked m bytes (passed None b at)) other) ∙ behind_plain None b bytes at flat)
      (cases_lt 0 at.flat)

  bar_goes : IsBar at columns (b ∷ bytes) → (line : Option ℕ) → line ≡ line_before at b → Next line (behind line b bytes at)
  bar_goes bar line is = by line is
    where
      parts : ((b == 93) ≡ true) × (goes_on (next_break_point at.break_point b) bytes ≡ true)
      parts = and_parts (b == 93) (goes_on (next_break_point at.break_point b) bytes) bar.next

      at_93 : (break_point : BreakPoint) → mark_of break_point 93 ≡ marks.Other
      at_93 break_points.Outside = refl
      at_93 break_points.Name = refl
      at_93 break_points.Square = refl
      at_93 break_points.Colon = refl
      at_93 break_points.Text = refl
      at_93 break_points.TextEscape = refl
      at_93 break_points.Letter = refl
      at_93 break_points.LetterEscape = refl

      other : mark_of at.break_point b ≡ marks.Other
      other = ap (mark_of at.break_point) (eqb-true b 93 parts.0) ∙ at_93 at.break_point

      by : (l : Option ℕ) → l ≡ line_before at b → Next l (behind l b bytes at)
      by (Some indent) same = let none : line_before at b ≡ None = stale_none bar.stale other in absurd (cc)
      by None same = subst (λ (to : Layout). Next None to) (other_passes other) (record {
        known = knows None same_break_point;
        mode = Closed (record { flat = omega (arith, bar.flat); room = bar.room; next = parts.1; stale = refl });
      })

  flat_goes : IsFlat at columns (b ∷ bytes) → (line : Option ℕ) → line ≡ line_before at b → Next line (behind line b bytes at)
  flat_goes f line is = by line is
    where
      depth_none : (mark : ByteRole) (depth : ℕ) → None ≡ depth_after mark depth → mark ≡ marks.Closes
      depth_none marks.Opens depth h = absurd (cc)
      depth_none marks.OpensList depth h = absurd (cc)
      depth_none marks.Parts depth h = absurd (cc)
      depth_none marks.Closes depth h = refl
      depth_none marks.Other depth h = absurd (cc)

      one_less : (found : Option ℕ) (n : ℕ) → option_map suc found ≡ Some n → found ≡ Some (n - 1)
      one_less None n h = absurd (cc)
      one_less (Some m) n h = let same : suc m ≡ n = cc in let less : m ≡ n - 1 = omega (arith, same) in ap (λ (k : ℕ). Some k) less

      mode_by : (after : Option ℕ) → after ≡ depth_after (mark_of at.break_point b) f.depth → counted (closing_length b) after (λ deeper. to_close (next_break_point at.break_point b) deeper bytes) ≡ Some at.flat → Mode (passed None b at) (columns + 1) (seen_more seen b) bytes
      mode_by None after h =
          let same : closing_length b ≡ at.flat = cc in
          let is_closing : mark_of at.break_point b ≡ marks.Closes = depth_none (mark_of at.break_point b) f.depth after in
          closing_goes b (passed None b at) (columns + 1) (seen_more seen b) bytes (knows None same_break_point) refl (omega (arith, same))
          (omega (arith, same, f.room, f.some)) (closes_follow is_closing)
      mode_by (Some deeper) after h =
          let found : to_close (next_break_point at.break_point b) deeper bytes ≡ Some (at.flat - 1) = one_less (to_close (next_break_point at.break_point b) deeper bytes) at.flat h in
          let some : 0 < at.flat - 1 = subst IsPositive found (close_positive (next_break_point at.break_point b) deeper bytes) in
          Flat (record { some = some; depth = deeper; closes = found; room = omega (arith, f.room, f.some); stale = refl })

      by : (l : Option ℕ) → l ≡ line_before at b → Next l (behind l b bytes at)
      by (Some indent) same = let none : line_before at b ≡ None = before_flat b at f.some in absurd (cc)
      by None same = subst (λ (to : Layout). Next None to) (behind_flat None b bytes at f.some) (record {
        known = knows None same_break_point;
        mode = mode_by (depth_after (mark_of at.break_point b) f.depth) refl f.closes;
      })

  step : Mode at columns seen (b ∷ bytes) → (line : Option ℕ) → line ≡ line_before at b → Next line (behind line b bytes at)
  step (Word w) line is = word_goes w line is
  step (Flat f) line is = flat_goes f line is
  step (Bar bar) line is = bar_goes bar line is
  step (Closed c) line is = closed_goes c line is

-- ---- a whole text

by_line : (line : Option ℕ) (b : ℕ) (text : List ℕ) (columns : ℕ) (seen : Seen) → b ≢ 10 → IsNarrow columns seen → AreNarrow (columns_behind line columns) (seen_behind line seen b) text → AreNarrow columns seen (line_text line ++ b ∷ text)
by_line None b text columns seen no_feed this narrow = goes_byte columns seen b text no_feed narrow
by_line (Some indent) b text columns seen no_feed this narrow = goes_line columns seen indent b text no_feed this narrow

narrow : (plain : List ℕ) (at : Layout) (columns : ℕ) (seen : Seen) → AllByRecursion (λ b. b ≢ 10) plain → Goes at columns seen plain → AreNarrow columns seen (laid at plain)
narrow [] at columns seen one_line goes = narrow_now at columns seen [] goes.mode
narrow (b ∷ bytes) at columns seen one_line goes =
    by_line (line_before at b) b (laid (behind (line_before at b) b bytes at) bytes) columns seen one_line.0
    (narrow_now at columns seen (b ∷ bytes) goes.mode)
    (narrow bytes (behind (line_before at b) b bytes at) (columns_behind (line_before at b) columns) (seen_behind (line_before at b) seen b)
    one_line.1
    (step at b bytes columns seen goes.known goes.mode (line_before at b) refl))

pub pretty_is_narrow_lem : PrettyIsNarrow
pretty_is_narrow_lem plain one_line regular = narrow plain start 0 nothing one_line (record {
  known = record { left = refl; break_point = refl; fresh = λ is. absurd (false≢true is); regular = regular };
  mode = Word (record { flat = refl; placed = refl; opened = λ is. absurd (false≢true is) });
})
