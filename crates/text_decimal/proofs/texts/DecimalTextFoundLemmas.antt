-- The decimals of a text, found one after another.
use Rattle.std.proofs.Common.{◌≡◌, ◌∙◌, ℕ, zero, suc, ◌+◌, ◌<◌, ◌≤◌, Bool, true, List, [], ◌∷◌, ◌++◌, length, drop, refl, sym, ap, arith, append-nil, append_assoc, drop-drop}
use Rattle.std.proofs.lemmas.List.{drop_all}
use Rattle.text_decimal.specs.declared.texts.decimals.Decimal.{Decimal}
use Rattle.text_decimal.specs.declared.texts.decimal_prefix.DecimalPrefix.TheVariants as prefixes
use Rattle.text_decimal.specs.texts.PlainTexts.{prefix_at, decimals_by, decimals_from, decimals_in, AreWithin}
use Rattle.text_decimal.proofs.texts.DecimalTextPlainLemmas.{nothing_there}

pub within_more : (from : ℕ) (ds : List Decimal) (end more : ℕ) → AreWithin from ds end → end ≤ more → AreWithin from ds more
within_more from [] end more is le = omega arith
within_more from (d ∷ ds) end more is le = (is.0, is.1, within_more (d.first + d.len) ds end more is.2 le)

within_push : (from : ℕ) (ds : List Decimal) (at : ℕ) (d : Decimal) → AreWithin from ds at → at ≤ d.first → 0 < d.len → AreWithin from (ds ++ d ∷ []) (d.first + d.len)
within_push from [] at d is le some = (omega arith, some, omega arith)
within_push from (e ∷ ds) at d is le some = (is.0, is.1, within_push (e.first + e.len) ds at d is.2 le some)

-- `found` are the decimals before the offset `at`. The number `n` is at least the number of bytes
-- left.
pub record IsFound (text : List ℕ) (at : ℕ) (may : Bool) (found : List Decimal) : Type 0 where
  pub inside : at ≤ length text
  pub n : ℕ
  pub enough : length text ≤ at + n
  pub is : decimals_in text ≡ found ++ decimals_from n at may (drop at text)
  pub within : AreWithin 0 found at

pub found_none : (text : List ℕ) → IsFound text 0 true []
found_none text = record { inside = omega arith; n = length text; enough = omega arith; is = refl; within = omega arith }

-- If bytes are left, then the decimals from the offset on are given by one more step.
left_by : (text : List ℕ) (at n : ℕ) (may : Bool) → at < length text → length text ≤ at + n
    → (m : ℕ) × (length text ≤ at + 1 + m) × (decimals_from n at may (drop at text) ≡ decimals_by at (λ len next. decimals_from m (at + len) next (drop len (drop at text))) (prefix_at may (drop at text)))
unfolding decimals_from
left_by text at zero may below enough = absurd (omega arith)
left_by text at (suc m) may below enough = (m, omega arith, refl)

pub found_double : (text : List ℕ) (at bits len : ℕ) (may : Bool) (found : List Decimal) → at < length text → IsFound text at may found → prefix_at may (drop at text) ≡ prefixes.Double bits len
    → 0 < len → at + len ≤ length text → IsFound text (at + len) true (found ++ record { first = at; len = len; bits = bits } ∷ [])
found_double text at bits len may found below f is some inside =
    let d : Decimal = record { first = at; len = len; bits = bits } in
    let l = left_by text at f.n may below f.enough in
    let step = l.2 ∙ ap (decimals_by at (λ len next. decimals_from l.0 (at + len) next (drop len (drop at text)))) is ∙ ap (λ t. d ∷ decimals_from l.0 (at + len) true t) (drop-drop len at text) in
    record {
      inside = inside;
      n = l.0;
      enough = omega (arith, l.1);
      is = f.is ∙ ap (λ t. found ++ t) step ∙ sym (append_assoc found (d ∷ []) (decimals_from l.0 (at + len) true (drop (at + len) text)));
      within = within_push 0 found at d f.within (omega arith) some;
    }

pub found_kept : (text : List ℕ) (at len : ℕ) (may next : Bool) (found : List Decimal) → at < length text → IsFound text at may found → prefix_at may (drop at text) ≡ prefixes.Kept len next
    → 0 < len → at + len ≤ length text → IsFound text (at + len) next found
found_kept text at len may next found below f is some inside =
    let l = left_by text at f.n may below f.enough in
    let step = l.2 ∙ ap (decimals_by at (λ len next. decimals_from l.0 (at + len) next (drop len (drop at text)))) is ∙ ap (λ t. decimals_from l.0 (at + len) next t) (drop-drop len at text) in
    record {
      inside = inside;
      n = l.0;
      enough = omega (arith, l.1);
      is = f.is ∙ ap (λ t. found ++ t) step;
      within = within_more 0 found at (at + len) f.within (omega arith);
    }

pub found_all : (text : List ℕ) (at : ℕ) (may : Bool) (found : List Decimal) → at < length text → IsFound text at may found → prefix_at may (drop at text) ≡ prefixes.Fault → found ≡ decimals_in text
found_all text at may found below f is =
    let l = left_by text at f.n may below f.enough in
    let none = l.2 ∙ ap (decimals_by at (λ len next. decimals_from l.0 (at + len) next (drop len (drop at text)))) is in
    sym (f.is ∙ ap (λ t. found ++ t) none ∙ append-nil found)

none_left : (n at : ℕ) (may : Bool) → decimals_from n at may [] ≡ []
unfolding decimals_from
none_left zero at may = refl
none_left (suc n) at may = rw (nothing_there may)

pub found_end : (text : List ℕ) (at : ℕ) (may : Bool) (found : List Decimal) → length text ≤ at → IsFound text at may found → found ≡ decimals_in text
found_end text at may found end f =
    sym (f.is ∙ ap (λ t. found ++ decimals_from f.n at may t) (drop_all at text end) ∙ ap (λ t. found ++ t) (none_left f.n at may) ∙ append-nil found)

pub found_within : (text : List ℕ) (at : ℕ) (may : Bool) (found : List Decimal) → IsFound text at may found → AreWithin 0 found (length text)
found_within text at may found f = within_more 0 found at (length text) f.within f.inside
