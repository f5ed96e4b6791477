-- The pretty text is at most 42 times as long as the plain text, because no indentation is greater
-- than 40.
use Rattle.std.proofs.Common.{ℕ, suc, ◌+◌, ◌*◌, ◌≤◌, Bool, true, false, not, ◌&&◌, ◌==◌, cond, ltb, List, [], ◌∷◌, ◌++◌, length, Option, Some, None, arith, length-append}
use Rattle.std.proofs.lemmas.Bool.{cond_both, ltb-true}
use Rattle.std.proofs.lemmas.List.{length-replicate}
use Rattle.text_pretty.specs.declared.break_point.ByteRole.{ByteRole}
use Rattle.text_pretty.specs.declared.break_point.ByteRole.TheVariants as marks
use Rattle.text_pretty.specs.declared.broken_bracket.BrokenBracket.{BrokenBracket}
use Rattle.text_pretty.specs.declared.broken_bracket.BrokenBracket.TheVariants as kinds
use Rattle.text_pretty.specs.declared.layout.Layout.{Layout}
use Rattle.text_pretty.specs.Fit.{closing_length, to_close, within}
use Rattle.text_pretty.specs.BreakPoints.{mark_of}
use Rattle.text_pretty.specs.Stack.{first, others}
use Rattle.text_pretty.specs.PrettyLines.{inner, base, child_indent, closing_line, line_at, line_before, line_text, passed, opened, list_room, marked, behind, laid, start}
use Rattle.text_pretty.specs.Laws.{PrettyIsShort}

-- ---- indentations

abbrev AreSmall : List BrokenBracket → Type 0
AreSmall [] = Unit {0}
AreSmall (bracket ∷ outer) = (base (Some bracket) ≤ 40) × AreSmall outer

abbrev IsSmallLine : Option ℕ → Type 0
IsSmallLine None = Unit {0}
IsSmallLine (Some indent) = indent ≤ 40

inner_small : (indent : ℕ) → inner indent ≤ 40
inner_small indent =
    cond_both (ltb indent 38) (indent + 2) 40 (λ n. n ≤ 40) (λ less. omega (arith, ltb-true indent 38 less)) (λ _. omega arith)

base_small : (all : List BrokenBracket) → AreSmall all → base (first all) ≤ 40
base_small [] small = omega arith
base_small (bracket ∷ outer) small = small.0

either_small : (parted : Bool) (n m : ℕ) → n ≤ 40 → m ≤ 40 → cond parted n m ≤ 40
either_small true n m h k = h
either_small false n m h k = k

child_small : (parted : Bool) (all : List BrokenBracket) → AreSmall all → child_indent parted (first all) ≤ 40
child_small parted [] small = omega arith
child_small parted (kinds.Block indent ∷ outer) small = inner_small indent
child_small parted (kinds.Chain indent ∷ outer) small = either_small parted indent (inner indent) small.0 (inner_small indent)

-- ---- lines

line_if : (t : Bool) (x y : Option ℕ) → IsSmallLine x → IsSmallLine y → IsSmallLine (cond t x y)
line_if true x y h k = h
line_if false x y h k = k

closing_small : (left b : ℕ) (all : List BrokenBracket) → AreSmall all → IsSmallLine (closing_line left b (first all))
closing_small left b [] small = omega arith
closing_small left b (kinds.Block indent ∷ outer) small = small.0
closing_small left b (kinds.Chain indent ∷ outer) small = line_if (ltb left (closing_length b)) (Some indent) None small.0 tt

fresh_small : (at : Layout) (b : ℕ) → IsSmallLine (cond (at.fresh && not (b == 32)) (Some (inner (base (first at.brackets)))) None)
fresh_small at b =
    line_if (at.fresh && not (b == 32)) (Some (inner (base (first at.brackets)))) None (inner_small (base (first at.brackets))) tt

at_small : (at : Layout) (mark : ByteRole) (b : ℕ) → AreSmall at.brackets → IsSmallLine (line_at at mark b)
at_small at marks.Parts b small = base_small at.brackets small
at_small at marks.Closes b small = closing_small at.left b at.brackets small
at_small at marks.Opens b small = fresh_small at b
at_small at marks.OpensList b small = fresh_small at b
at_small at marks.Other b small = fresh_small at b

before_small : (at : Layout) (b : ℕ) → AreSmall at.brackets → IsSmallLine (line_before at b)
before_small at b small = line_if (ltb 0 at.flat) None (line_at at (mark_of at.break_point b) b) tt (at_small at (mark_of at.break_point b) b small)

line_short : (line : Option ℕ) → IsSmallLine line → length (line_text line) ≤ 41
line_short None small = omega arith
line_short (Some indent) small = omega (arith, length-replicate {A = ℕ} indent 32)

-- ---- the state after a byte

others_small : (all : List BrokenBracket) → AreSmall all → AreSmall (others all)
others_small [] small = small
others_small (bracket ∷ outer) small = small.1

layout_if : (t : Bool) (x y : Layout) → AreSmall x.brackets → AreSmall y.brackets → AreSmall (cond t x y).brackets
layout_if true x y h k = h
layout_if false x y h k = k

opened_small : (room : ℕ) (fresh : Bool) (bracket : BrokenBracket) (at : Layout) → base (Some bracket) ≤ 40 → AreSmall at.brackets → AreSmall (opened room fresh bracket at).brackets
opened_small room fresh bracket at this small =
    layout_if (ltb 0 room) (record at { flat = room; parted = false })
    (record at { fresh = fresh; parted = false; brackets = bracket ∷ at.brackets }) small (this, small)

marked_small : (mark : ByteRole) (bytes : List ℕ) (at : Layout) → AreSmall at.brackets → AreSmall (marked mark bytes at).brackets
marked_small marks.Opens bytes at small =
    opened_small (within at.left (to_close at.break_point 0 bytes)) true
    (kinds.Block (child_indent at.parted (first at.brackets))) at (child_small at.parted at.brackets small) small
marked_small marks.OpensList bytes at small =
    opened_small (list_room at (first at.brackets) bytes) false
    (kinds.Chain (child_indent at.parted (first at.brackets))) at (child_small at.parted at.brackets small) small
marked_small marks.Parts bytes at small = small
marked_small marks.Closes bytes at small = others_small at.brackets small
marked_small marks.Other bytes at small = small

behind_small : (line : Option ℕ) (b : ℕ) (bytes : List ℕ) (at : Layout) → AreSmall at.brackets → AreSmall (behind line b bytes at).brackets
behind_small line b bytes at small =
    layout_if (ltb 0 at.flat) (passed line b at) (marked (mark_of at.break_point b) bytes (passed line b at)) small
    (marked_small (mark_of at.break_point b) bytes (passed line b at) small)

-- ---- a whole text

longer : (line laid_rest : List ℕ) (b m : ℕ) → length line ≤ 41 → length laid_rest ≤ 42 * m → length (line ++ b ∷ laid_rest) ≤ 42 * suc m
longer line laid_rest b m short rest = omega (arith, length-append line (b ∷ laid_rest))

grows_little : (plain : List ℕ) (at : Layout) → AreSmall at.brackets → length (laid at plain) ≤ 42 * length plain
grows_little [] at small = omega arith
grows_little (b ∷ bytes) at small =
    longer (line_text (line_before at b)) (laid (behind (line_before at b) b bytes at) bytes) b (length bytes)
    (line_short (line_before at b) (before_small at b small))
    (grows_little bytes (behind (line_before at b) b bytes at) (behind_small (line_before at b) b bytes at small))

pub pretty_is_short_lem : PrettyIsShort
pretty_is_short_lem plain = grows_little plain start tt
