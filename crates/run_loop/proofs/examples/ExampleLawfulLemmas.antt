-- The small commands are lawful for all tasks.
use Rattle.std.proofs.Common.{◌≡◌, ℕ, List, [], ◌∷◌, ◌++◌, sym, ap, ◌∙◌, subst, append_assoc, length-append, arith}
use Rattle.run_spec.specs.runs.Commands.{text}
use Rattle.run_spec.specs.runs.Lawful.{IsInner, AreLawfulAt}
use Rattle.run_spec.proofs.runs.RunLineLemmas.{same_line}
use Rattle.run_loop.specs.examples.SmallCommands.{fine, reporting, lines, bytes_but}
use Rattle.run_loop.proofs.examples.ExampleBytesLemmas.{bytes_stay}
use Rattle.run_loop.proofs.examples.LinesLemmas.{lines_stay}

pub reporting_lawful : (a : List ℕ) → AreLawfulAt reporting a
reporting_lawful a = record {
  first_once = λ items bytes are_bytes item other more rest h k. absurd h;
  outputs_once = λ items item output other h k. absurd h;
  exits_once = λ items bytes are_bytes exit other h k. absurd h;
  ends_once = λ items bytes are_bytes last other h k. h ∙ sym k;
  prefix = λ items bytes item more h. absurd h;
  item_stays = λ items bytes item more later h. h;
  exit_stays = λ items bytes later exit h. h;
  exits_inside = λ items bytes exit h. absurd h;
  ends_inside = λ items bytes exit h. absurd (cc h);
  disjoint = λ items bytes are_bytes item more output exit first h k. k;
}

pub bytes_lawful : (a : ℕ) → AreLawfulAt bytes_but a
bytes_lawful a = record {
  first_once = λ items bytes are_bytes item other more rest h k.
      let is : h.0 ∷ more ≡ k.0 ∷ rest = sym h.1 ∙ k.1 in
      let byte : h.0 ≡ k.0 = cc is in
      let tail : more ≡ rest = cc is in
      (h.2 ∙ (ap (λ b. text (b ∷ [])) byte ∙ sym k.2), tail);
  outputs_once = λ items item output other h k.
      let is : text (h.0 ∷ []) ≡ text (k.0 ∷ []) = sym h.2 ∙ k.2 in
      let byte : h.0 ≡ k.0 = cc is in
      h.3 ∙ (ap (λ b. fine (b ∷ [])) byte ∙ sym k.3);
  exits_once = λ items bytes are_bytes exit other h k. h.2 ∙ sym k.2;
  ends_once = λ items bytes are_bytes last other h k. h ∙ sym k;
  prefix = λ items bytes item more h. (h.0 ∷ [], h.1, omega arith);
  item_stays = bytes_stay a;
  exit_stays = λ items bytes later exit h. (h.0 ++ later, ap (λ x. x ++ later) h.1, h.2);
  exits_inside = λ items bytes exit h. subst IsInner (sym h.2) tt;
  ends_inside = λ items bytes exit h. absurd (cc h);
  disjoint = λ items bytes are_bytes item more output exit first h k.
      let is : first.0 ∷ more ≡ a ∷ k.0 = sym first.1 ∙ k.1 in
      let same : text (first.0 ∷ []) ≡ text (h.0 ∷ []) = sym first.2 ∙ h.2 in
      let byte : h.0 ≡ a = cc (is, same) in h.1 byte;
}

pub lines_lawful : (a : Unit {0}) → AreLawfulAt lines a
lines_lawful a = record {
  first_once = λ items bytes are_bytes item other more rest h k.
      let one = same_line h.line k.line more rest h.unbroken k.unbroken
      (sym h.bytes_are ∙ k.bytes_are) in
      (h.is ∙ (ap (λ l. text l) one.0 ∙ sym k.is), one.1);
  outputs_once = λ items item output other h k.
      let is : text h.0 ≡ text k.0 = sym h.1 ∙ k.1 in
      let same : h.0 ≡ k.0 = cc is in
      h.2 ∙ (ap (λ l. fine (l ++ 10 ∷ [])) same ∙ sym k.2);
  exits_once = λ items bytes are_bytes exit other h k. absurd h;
  ends_once = λ items bytes are_bytes last other h k. h ∙ sym k;
  prefix = λ items bytes item more h. (
    h.line ++ 10 ∷ [],
    h.bytes_are ∙ sym (append_assoc h.line (10 ∷ []) more),
    (let size = length-append h.line (10 ∷ []) in omega (arith, size)),
  );
  item_stays = lines_stay;
  exit_stays = λ items bytes later exit h. h;
  exits_inside = λ items bytes exit h. absurd h;
  ends_inside = λ items bytes exit h. absurd (cc h);
  disjoint = λ items bytes are_bytes item more output exit first h k. k;
}
