-- Bytes at which no magic number begins. Each of these bytes is a stretch of its own, without a
-- line.
use Rattle.std.proofs.Common.{◌≡◌, ◌≢◌, ℕ, ◌+◌, ◌*◌, ◌-◌, ◌<◌, ◌≤◌, List, [], ◌∷◌, ◌++◌, length, take, drop, Option, Ok, inl, inr, refl, sym, ap, ◌∙◌, subst, length-append, arith}
use Rattle.std.proofs.lemmas.List.{length-drop, drop-drop, take_at}
use Rattle.std.proofs.lemmas.List.Elements.{All-drop}
use Rattle.std.proofs.lemmas.List.{drop-take}
use Rattle.std.proofs.lemmas.Bool.{cases_lt}
use Rattle.std.proofs.Math.Seq.{drop-append-add}
use Rattle.memchr.specs.Find.{Nowhere, OccursAt}
use Rattle.memchr.proofs.lemmas.MatchLemmas.{OccursAt-from_part}
use Rattle.base_data.specs.model.Bytes.{AreBytes, number}
use Rattle.base_data.specs.declared.model.refusal.ReadRefusal.TheVariants.{BadMagic}
use Rattle.marshal_spec.specs.format.Header.{magic, small_magic, big_magic, compressed_magic, header_length}
use Rattle.marshal_spec.specs.format.Prefix.{IsPrefix, IsRefused}
use Rattle.marshal_spec.proofs.format.EncodeValues.{AreBytes-prefix}
use Rattle.marshal_spec.proofs.format.TokenStepLemmas.{header_length-from}
use Rattle.marshal_read.specs.declared.reader.Reader.{Reader}
use Rattle.marshal_read.specs.Reader.{LeadsReader}
use Rattle.marshal_read.proofs.ReaderHeadLemmas.{first_undecided, header_bad}
use Rattle.cli_spec.specs.Outcome.{Request, Output, texts_of}
use Rattle.run_spec.proofs.runs.RunValueLemmas.{texts_of-one}
use Rattle.run_loop.specs.work.GatheredOutput.{GathersTo, GathersSome}
use Rattle.run_loop.proofs.work.WorkGatherLemmas.{some_of_one, gathers_each}
use Rattle.cmd_scan.specs.found_positions.InputParts.{passed, AreRefused}
use Rattle.cmd_scan.proofs.found_positions.FoundPositionPrefixLemmas.{refused_no_prefix}
use Rattle.cmd_scan.specs.spec.Searching.{searching}
use Rattle.cmd_scan.specs.sweep.Swept.{Takes}
use Rattle.cmd_scan.specs.command.Last.{IsDecided}
use Rattle.cmd_scan.specs.command.Passed.{magic_prefix, AreClear}
use Rattle.cmd_scan.specs.command.SearchOutput.{HasSearched, HasStretch}
use Rattle.cmd_scan.proofs.command.ScanCommandSearchLemmas.{HasKept, kept_of, searched_of, kept_holds, kept_stretch, next_output, text_is, stretch_kept, stretches_stay}

-- ---- four bytes

-- Each number of four bytes from `84 95 A6 00` to `84 95 A6 FF` begins with the bytes `84 95 A6`.
prefix_of :
    (x y z b m t : ℕ) → x < 256 → y < 256 → z < 256 → b < 256 → t < 256
    → x * 16777216 + (y * 65536 + (z * 256 + b)) ≡ m → m ≡ 2224399872 + t
    → (x ≡ 132) × (y ≡ 149) × (z ≡ 166)
prefix_of x y z b m t xs ys zs bs ts e is =
    let first : x ≡ 132 = omega (arith, xs, ys, zs, bs, ts, e, is) in
    let second : y ≡ 149 = omega (arith, xs, ys, zs, bs, ts, e, is, first) in
    (first, second, omega (arith, xs, ys, zs, bs, ts, e, is, first, second))

magic_is :
    (x y z b : ℕ) → magic (x ∷ y ∷ z ∷ b ∷ []) ≡ x * 16777216 + (y * 65536 + (z * 256 + b))
magic_is x y z b = omega arith

-- Fewer than four bytes are a prefix of a value.
pub few_begin : (limit : ℕ) (bytes : List ℕ) → length bytes < 4 → IsPrefix limit bytes
few_begin limit bytes few = inl (record {
  part = omega (arith, few, header_length-from bytes);
  passes = first_undecided limit bytes few;
})

module _ (limit : ℕ) (x y z b : ℕ) (are : AreBytes (x ∷ y ∷ z ∷ b ∷ []))
    (other : x ∷ y ∷ z ∷ [] ≡ magic_prefix → ⊥) where
  abbrev four : List ℕ
  four = x ∷ y ∷ z ∷ b ∷ []

  differs : (m t : ℕ) → t < 256 → m ≡ 2224399872 + t → magic four ≢ m
  differs m t small is e =
      let f = prefix_of x y z b m t (are 0 0 (omega arith)) (are 1 0 (omega arith)) (are 2 0 (omega arith)) (are 3 0 (omega arith)) small (sym (magic_is x y z b) ∙ e) is in
      other (λ i. f.0 i ∷ f.1 i ∷ f.2 i ∷ [])

  -- The fourth byte decides that no value begins.
  refused_here : IsRefused limit four (BadMagic (magic four))
  refused_here = inl (record {
    prefix = x ∷ y ∷ z ∷ [];
    last = b;
    bytes_are = refl;
    in_header = record {
      part = omega (arith, header_length-from (x ∷ y ∷ z ∷ []));
      passes = first_undecided limit (x ∷ y ∷ z ∷ []) (omega arith);
    };
    refused = header_bad limit four (omega arith) (differs small_magic 190 (omega arith) refl)
        (differs big_magic 191 (omega arith) refl) (differs compressed_magic 189 (omega arith) refl);
  })

  four_refused : AreRefused limit four
  four_refused = (4, BadMagic (magic four), omega arith, refused_here)

  four_decided : IsDecided limit four
  four_decided = record {
    none = refused_no_prefix limit four four_refused;
    prefix = x ∷ y ∷ z ∷ [];
    last = b;
    bytes_are = refl;
    before = few_begin limit (x ∷ y ∷ z ∷ []) (omega arith);
  }

  -- The first of the four bytes is skipped, without a line.
  first_passed : (at : ℕ) → Takes limit at four [] [] (AreRefused limit) 1 (y ∷ z ∷ b ∷ [])
  first_passed at = (
    record { parts = passed x ∷ []; bytes_are = refl; are = (four_refused, tt); text_is = refl },
    refl,
  )

  -- If one more byte is taken after three held bytes, then the first held byte is skipped, without
  -- a line.
  pub one_over :
      (limit_by : Request → Option ℕ) (at : ℕ) (bytes : List ℕ) (output : List Output)
      → HasKept limit_by limit (x ∷ y ∷ z ∷ []) at bytes output
      → (next : Output) × ([] ≡ next.text)
      × HasKept limit_by limit (y ∷ z ∷ b ∷ []) (at + 1) (bytes ++ b ∷ []) (output ++ next ∷ [])
  one_over limit_by at bytes output h =
      let s : HasStretch limit_by limit four at (bytes ++ b ∷ []) output =
      kept_stretch limit_by limit (x ∷ y ∷ z ∷ []) at bytes output (b ∷ []) h four_decided in
      let rest = y ∷ z ∷ b ∷ [] in
      let begins = few_begin limit rest (omega arith) in (
        next_output limit_by limit four at (bytes ++ b ∷ []) output s [] 1 rest (first_passed at) begins,
        text_is limit_by limit four at (bytes ++ b ∷ []) output s [] 1 rest (first_passed at) begins,
        stretch_kept limit_by limit four at (bytes ++ b ∷ []) output s [] 1 rest (first_passed at) begins,
      )

-- ---- many bytes

-- The first four bytes of a list.
record FirstFour (bytes : List ℕ) : Type 0 where
  pub x : ℕ
  pub y : ℕ
  pub z : ℕ
  pub b : ℕ
  pub more : List ℕ
  pub is : bytes ≡ x ∷ y ∷ z ∷ b ∷ more

first_four : (bytes : List ℕ) → 4 ≤ length bytes → FirstFour bytes
first_four [] enough = absurd (omega (arith, enough))
first_four (x ∷ []) enough = absurd (omega (arith, enough))
first_four (x ∷ y ∷ []) enough = absurd (omega (arith, enough))
first_four (x ∷ y ∷ z ∷ []) enough = absurd (omega (arith, enough))
first_four (x ∷ y ∷ z ∷ b ∷ more) enough =
    record { x = x; y = y; z = z; b = b; more = more; is = refl }

module _ (limit_by : Request → Option ℕ) (limit : ℕ) (held buffered : List ℕ) (at n : ℕ)
    (three : length held ≡ 3) (are : AreBytes (held ++ buffered)) (fits : n ≤ length buffered)
    (clear : AreClear (held ++ buffered) n) where
  abbrev all : List ℕ
  all = held ++ buffered

  -- The state after `k` skipped bytes.
  abbrev Over : ℕ → List ℕ → List Output → Type 0
  Over k = HasKept limit_by limit (take 3 (drop k all)) (at + k)

  after_held : (k : ℕ) → drop 3 (drop k all) ≡ drop k buffered
  after_held k =
      let same : k + 3 ≡ length held + k = omega (arith, three) in
      drop-drop 3 k all
      ∙ (ap (λ m. drop m all) same
      ∙ drop-append-add held buffered k)

  one_more :
      (k : ℕ) → k < n → (bytes : List ℕ) (output : List Output) → Over k bytes output
      → (next : Output) × ([] ≡ next.text)
      × Over (k + 1) (bytes ++ take 1 (drop k buffered)) (output ++ next ∷ [])
  one_more k less bytes output h =
      let size : length all ≡ 3 + length buffered = length-append held buffered ∙ ap (λ m. m + length buffered) three in
      let f = first_four (drop k all) (omega (arith, length-drop k all, size, less, fits)) in
      let three_bytes : take 3 (drop k all) ≡ f.x ∷ f.y ∷ f.z ∷ [] = ap (take 3) f.is in
      let next : take 3 (drop (k + 1) all) ≡ f.y ∷ f.z ∷ f.b ∷ [] =
      ap (take 3) (sym (drop-drop 1 k all) ∙ ap (drop 1) f.is) in
      let last : take 1 (drop k buffered) ≡ f.b ∷ [] =
      ap (take 1) (sym (after_held k) ∙ ap (drop 3) f.is) in
      let these : AreBytes (f.x ∷ f.y ∷ f.z ∷ f.b ∷ f.more) =
      subst AreBytes f.is (All-drop (λ b. b < 256) k all are) in
      let one = one_over limit f.x f.y f.z f.b (AreBytes-prefix (f.x ∷ f.y ∷ f.z ∷ f.b ∷ []) f.more these)
      (λ e. clear k less (three_bytes ∙ e)) limit_by (at + k) bytes output
      (subst (λ w. HasKept limit_by limit w (at + k) bytes output) three_bytes h) in (
        one.0,
        one.1,
        subst (λ w. HasKept limit_by limit w (at + (k + 1)) (bytes ++ take 1 (drop k buffered)) (output ++ one.0 ∷ [])) (sym next)
            (subst (λ m. HasKept limit_by limit (f.y ∷ f.z ∷ f.b ∷ []) m (bytes ++ take 1 (drop k buffered)) (output ++ one.0 ∷ []))
            (omega arith)
            (subst (λ w. HasKept limit_by limit (f.y ∷ f.z ∷ f.b ∷ []) ((at + k) + 1) (bytes ++ w) (output ++ one.0 ∷ [])) (sym last)
            one.2)),
      )

  each :
      (k : ℕ) → k < n
      → GathersSome (searching limit_by) limit (Over k) (Over (k + 1)) (drop k buffered) [] [] (Ok 1)
  each k less =
      some_of_one (searching limit_by) limit (stretches_stay limit_by limit) (Over k) (Over (k + 1))
      (drop k buffered) [] [] 1 (
        omega arith,
        omega (arith, length-drop k buffered, less, fits),
        λ bytes output h.
            let one = one_more k less bytes output h in (
              kept_holds limit_by limit (take 3 (drop k all)) (at + k) bytes output h,
              one.0 ∷ [],
              omega arith,
              one.2,
              kept_holds limit_by limit (take 3 (drop (k + 1) all)) (at + (k + 1))
                  (bytes ++ take 1 (drop k buffered)) (output ++ one.0 ∷ []) one.2,
              one.1 ∙ sym (texts_of-one one.0),
            ),
      )

  -- If no magic number begins at the first `n` bytes, then the search skips them.
  pub passed_over :
      (reader : Reader) (left : List ℕ) (new : Reader) (position : ℕ)
      → left ≡ take 3 (drop n all) → LeadsReader limit left new → position ≡ at + n
      → (bytes : List ℕ) (output : List Output)
      → HasSearched limit_by limit held reader at bytes output
      → GathersTo (searching limit_by) limit (HasSearched limit_by limit left new position) buffered n
      [] bytes output
  passed_over reader left new position is leads position_is bytes output h =
      let first : Over 0 bytes output =
      subst (λ w. HasKept limit_by limit w (at + 0) bytes output) (sym (take_at held buffered 3 three))
      (subst (λ m. HasKept limit_by limit held m bytes output) (omega arith)
      (kept_of limit_by limit held reader at bytes output h)) in
      let g = gathers_each (searching limit_by) limit Over buffered (λ k. []) refl n each bytes output first in
      record {
        more = g.more;
        there = subst (λ m. HasSearched limit_by limit left new m (bytes ++ take n buffered) (output ++ g.more)) (sym position_is)
            (searched_of limit_by limit left new (at + n) (bytes ++ take n buffered) (output ++ g.more)
            (subst (λ w. HasKept limit_by limit w (at + n) (bytes ++ take n buffered) (output ++ g.more)) (sym is) g.there)
            leads);
        text_is = g.text_is;
        may_break = g.may_break;
      }

-- ---- the search for the three bytes

-- The three bytes that are held after the skipped bytes.
pub last_three :
    (held buffered : List ℕ) (n : ℕ) → length held ≡ 3 → 3 ≤ n
    → drop (n - 3) (take n buffered) ≡ take 3 (drop n (held ++ buffered))
last_three held buffered n three enough =
    let back : n ≡ (n - 3) + 3 = omega (arith, enough) in
    let after : n ≡ length held + (n - 3) = omega (arith, enough, three) in
    ap (λ k. drop (n - 3) (take k buffered)) back
    ∙ (drop-take (n - 3) 3 buffered
    ∙ ap (take 3)
    (sym (ap (λ k. drop k (held ++ buffered)) after ∙ drop-append-add held buffered (n - 3))))

prefix_fits : (bytes : List ℕ) → take 3 bytes ≡ magic_prefix → 3 ≤ length bytes
prefix_fits [] e = absurd (cc e)
prefix_fits (x ∷ []) e = absurd (cc e)
prefix_fits (x ∷ y ∷ []) e = absurd (cc e)
prefix_fits (x ∷ y ∷ z ∷ more) e = omega arith

-- If `magic_prefix` does not occur before offset `n` of the buffered bytes, then no magic number
-- begins at the first `m` bytes.
pub all_clear :
    (held buffered : List ℕ) (n m : ℕ) → length held ≡ 3 → AreClear (held ++ buffered) 3
    → Nowhere (OccursAt buffered magic_prefix) 0 n → m ≤ n + 3 → m ≤ length buffered
    → AreClear (held ++ buffered) m
all_clear held buffered n m three early nowhere few fits k less e =
    elim (cases_lt k 3) [
      | inl below ↦ early k below e
      | inr late ↦
          let after : k ≡ length held + (k - 3) = omega (arith, late, three) in
          let part : take 3 (drop (k - 3) buffered) ≡ magic_prefix =
          ap (take 3)
          (sym (ap (λ j. drop j (held ++ buffered)) after ∙ drop-append-add held buffered (k - 3)))
          ∙ e in
          let long = prefix_fits (drop (k - 3) buffered) part in
          let size = length-drop (k - 3) buffered in
          nowhere (k - 3) (omega arith) (omega (arith, late, less, few))
          (OccursAt-from_part buffered magic_prefix (k - 3) (omega (arith, long, size, less, fits, late)) part)
    ]
