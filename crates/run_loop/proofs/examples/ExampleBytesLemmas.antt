-- Lemmas about the command that reads bytes.
use Rattle.std.proofs.Common.{◌≡◌, ◌≢◌, ℕ, ◌+◌, ◌<◌, ◌≤◌, true, List, [], ◌∷◌, ◌++◌, length, get_or, Ok, inl, inr, refl, sym, ap, ◌∙◌, subst, length-append, arith}
use Rattle.std.specs.Prelude.{◌&&◌}
use Rattle.base_data.specs.declared.model.refusal.ReadRefusal.TheVariants.{Compressed}
use Rattle.cli_spec.specs.Outcome.{Output, nothing_output, all_ok}
use Rattle.cli_spec.specs.RefusalText.{refusal_text}
use Rattle.cli_spec.specs.declared.exit.Exit.{Exit}
use Rattle.cli_spec.specs.declared.exit.Exit.TheVariants.{Value as value}
use Rattle.base_io.specs.Sink.{Writes, WritesPart}
use Rattle.base_io.specs.StreamState.{ByteState, change}
use Rattle.cli_errors.specs.declared.exit_line.Error.TheVariants as aborts
use Rattle.cli_errors.specs.Exits.{IsExitOf}
use Rattle.run_spec.specs.runs.Account.{HaveNoExit}
use Rattle.run_spec.specs.runs.Commands.{Item, text, Split, OutputsFirst}
use Rattle.run_spec.proofs.runs.LengthLemmas.{prefix_byte}
use Rattle.run_spec.proofs.runs.RunWriteLemmas.{writes_nothing}
use Rattle.run_spec.proofs.runs.RunValueLemmas.{all_ok-snoc}
use Rattle.run_loop.specs.work.Works.{ItemsStay, AbortsIn, Feeds, WritesLast}
use Rattle.run_loop.proofs.work.WorkFirstLemmas.{first_stays, first_next}
use Rattle.run_loop.specs.examples.SmallCommands.{fine, bytes_but}
use Rattle.run_loop.specs.examples.TakenItems.{HasBytes}

pub bytes_stay : (refused : ℕ) → ItemsStay bytes_but refused
bytes_stay refused items bytes item more later is = (is.0, ap (λ b. b ++ later) is.1, is.2)

-- There are at most as many items as bytes, because each item has one byte.
few_items :
    (refused : ℕ) (before : List Item) (bytes : List ℕ) (items : List Item) (rest : List ℕ)
    → Split bytes_but refused before bytes items rest → length items ≤ length bytes
few_items refused before bytes [] rest split = omega arith
few_items refused before bytes (item ∷ items) rest (more, is, split) =
    let few = few_items refused (before ++ item ∷ []) more items rest split in
    let size : length bytes ≡ length (is.0 ∷ more) = ap length is.1 in omega (arith, few, size)

module _ (refused count : ℕ) (bytes : List ℕ) (output : List Output)
    (h : HasBytes refused count bytes output) where
  pub count_few : count ≤ length bytes
  count_few =
      let counted = h.counted in
      let few = few_items refused [] bytes h.items [] h.first.split in omega (arith, counted, few)

  abbrev pub bytes_hold : HaveNoExit bytes_but refused bytes output
  bytes_hold = record {
    items = h.items;
    rest = [];
    first = h.first;
    goes_on = record { no_exit = λ exit s. cc s.1; no_item = λ item more is. cc is.1 };
  }

  -- If one more byte is not refused, then the output of the byte is appended to the outputs.
  byte_output :
      (b : ℕ) (more : List ℕ) → b ≢ refused
      → OutputsFirst bytes_but refused (bytes ++ b ∷ more) (h.items ++ text (b ∷ []) ∷ [])
      (output ++ fine (b ∷ []) ∷ []) more
  byte_output b more other =
      first_next bytes_but refused (bytes ++ b ∷ more) h.items output (b ∷ more) (text (b ∷ [])) more
      (fine (b ∷ []))
      (first_stays bytes_but refused (bytes_stay refused) bytes h.items output [] (b ∷ more) h.first)
      (b, refl, refl) (b, other, refl, refl)

  pub byte_taken :
      (b : ℕ) → b ≢ refused
      → HasBytes refused (count + 1) (bytes ++ b ∷ []) (output ++ fine (b ∷ []) ∷ [])
  byte_taken b other =
      let counted = h.counted in
      let size = length-append h.items (text (b ∷ []) ∷ []) in record {
        items = h.items ++ text (b ∷ []) ∷ [];
        first = byte_output b [] other;
        counted = omega (arith, counted, size);
        ok = all_ok-snoc output (fine (b ∷ [])) ∙ ap (λ w. w && true) h.ok;
      }

  pub byte_refused :
      (buffered more : List ℕ) (o : ByteState) (exit : Exit) → IsExitOf count Compressed exit
      → buffered ≡ refused ∷ more
      → AbortsIn bytes_but refused bytes buffered output (change o o) (aborts.Exit exit)
  byte_refused buffered more o exit (inl memory) is =
      (bytes_hold, inr memory, writes_nothing o)
  byte_refused buffered more o exit (inr (some, known)) is = (
    bytes_hold,
    inl (more, is, subst (λ n. exit ≡ value n (refusal_text Compressed)) h.counted known),
    writes_nothing o,
  )

  pub byte_fault :
      (buffered more : List ℕ) (b : ℕ) (o q : ByteState)
      → buffered ≡ b ∷ more → b ≢ refused → WritesPart (change o q) (b ∷ [])
      → AbortsIn bytes_but refused bytes buffered output (change o q) aborts.WriteFault
  byte_fault buffered more b o q begins other part = (
    bytes_hold,
    fine (b ∷ []),
    (
      h.items ++ text (b ∷ []) ∷ [],
      more,
      subst (λ t. OutputsFirst bytes_but refused (bytes ++ t) (h.items ++ text (b ∷ []) ∷ [])
          (output ++ fine (b ∷ []) ∷ []) more) (sym begins) (byte_output b more other),
    ),
    part,
  )

  pub bytes_end :
      (o : ByteState)
      → (holds : HaveNoExit bytes_but refused bytes output)
      × WritesLast bytes_but refused output holds.items holds.rest (change o o) (Ok true)
  bytes_end o = (
    bytes_hold,
    (
      nothing_output,
      refl,
      sym (all_ok-snoc output nothing_output ∙ ap (λ w. w && true) h.ok),
      writes_nothing o,
    ),
  )

pub byte_feeds :
    (refused count : ℕ) (buffered : List ℕ) (o q : ByteState) → 0 < length buffered
    → get_or buffered 0 0 ≢ refused → Writes (change o q) (get_or buffered 0 0 ∷ [])
    → Feeds bytes_but refused (HasBytes refused count) (HasBytes refused (count + 1)) buffered
    (change o q) (Ok 1)
byte_feeds refused count buffered o q some other write = (
  omega arith,
  omega (arith, some),
  λ bytes output h. (
    fine (get_or buffered 0 0 ∷ []) ∷ [],
    omega arith,
    subst (λ t. HasBytes refused (count + 1) (bytes ++ t)
        (output ++ fine (get_or buffered 0 0 ∷ []) ∷ [])) (sym (prefix_byte buffered some).2)
        (byte_taken refused count bytes output h (get_or buffered 0 0) other),
    write,
  ),
)

-- Before the first byte, the state is valid.
pub bytes_begin : (refused : ℕ) → HasBytes refused 0 [] []
bytes_begin refused = record {
  items = [];
  first = record { split = refl; all_print = tt };
  counted = refl;
  ok = refl;
}
