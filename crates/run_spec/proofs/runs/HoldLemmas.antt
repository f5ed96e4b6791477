-- Exit reasons remain if more bytes follow, are unique, and come last.
use Rattle.std.proofs.Common.{ℕ, List, [], ◌∷◌, ◌++◌, sym, ap, subst, take, drop}
use Rattle.std.proofs.lemmas.List.{take-append-drop}
use Rattle.base_data.specs.model.Bytes.{AreBytes}
use Rattle.cli_spec.specs.Outcome.{Output}
use Rattle.cli_spec.specs.declared.exit.Exit.{Exit}
use Rattle.run_spec.specs.runs.CommandLaws.{HaveOneExit, ExitsStay, ExitsAreLast}
use Rattle.run_spec.specs.runs.Commands.{Item, Commands, Split, OutputsFirst, GoesOn, HaveExit}
use Rattle.run_spec.specs.runs.Lawful.{IsOnce, AreLawfulAt, AreLawful}
use Rattle.run_spec.proofs.runs.RunOnceLemmas.{IsStuck, split_bytes, stuck_once}

module _ {A : Type 0} (c : Commands A) (a : A) (lawful : AreLawfulAt c a) where
  split_stays :
      (before : List Item) (bytes : List ℕ) (items : List Item) (rest later : List ℕ)
      → Split c a before bytes items rest → Split c a before (bytes ++ later) items (rest ++ later)
  split_stays before bytes [] rest later same = ap (λ b. b ++ later) same
  split_stays before bytes (item ∷ items) rest later (more, is, split) = (
    more ++ later,
    lawful.item_stays before bytes item more later is,
    split_stays (before ++ item ∷ []) more items rest later split,
  )

  pub first_stays :
      (bytes : List ℕ) (items : List Item) (output : List Output) (rest later : List ℕ)
      → OutputsFirst c a bytes items output rest
      → OutputsFirst c a (bytes ++ later) items output (rest ++ later)
  first_stays bytes items output rest later first =
      record { split = split_stays [] bytes items rest later first.split; all_print = first.all_print }

  pub hold_stays :
      (bytes later : List ℕ) (exit : Exit) → HaveExit c a bytes exit
      → HaveExit c a (bytes ++ later) exit
  hold_stays bytes later exit h = record {
    items = h.items;
    output = h.output;
    rest = h.rest ++ later;
    first = first_stays bytes h.items h.output h.rest later h.first;
    at = lawful.exit_stays h.items h.rest later exit h.at;
  }

  -- If the first bytes contain an exit reason, then all bytes contain the exit reason.
  pub hold_all :
      (n : ℕ) (bytes : List ℕ) (exit : Exit)
      → HaveExit c a (take n bytes) exit → HaveExit c a bytes exit
  hold_all n bytes exit h =
      subst (λ b. HaveExit c a b exit) (take-append-drop n bytes)
      (hold_stays (take n bytes) (drop n bytes) exit h)

  pub exit_stuck :
      (items : List Item) (rest : List ℕ) (exit : Exit) → AreBytes rest
      → c.Exits a items rest exit → IsStuck c a lawful items rest
  exit_stuck items rest exit are_bytes at item more output first outputs =
      lawful.disjoint items rest are_bytes item more output exit first outputs at

  pub on_stuck :
      (items : List Item) (rest : List ℕ) → GoesOn c a items rest → IsStuck c a lawful items rest
  on_stuck items rest on item more output first outputs = on.no_item item more first

  -- Bytes contain at most one exit reason.
  pub hold_once : (bytes : List ℕ) → AreBytes bytes → IsOnce (HaveExit c a bytes)
  hold_once bytes are_bytes exit other h k =
      let rest = split_bytes c a lawful [] bytes h.items h.rest are_bytes h.first.split in
      let rest' = split_bytes c a lawful [] bytes k.items k.rest are_bytes k.first.split in
      let one = stuck_once c a lawful [] bytes h.items k.items h.rest k.rest h.output k.output are_bytes
      h.first.split h.first.all_print (exit_stuck h.items h.rest exit rest h.at)
      k.first.split k.first.all_print (exit_stuck k.items k.rest other rest' k.at) in
      lawful.exits_once h.items h.rest rest exit other h.at
      (subst (λ r. c.Exits a h.items r other) (sym one.1)
      (subst (λ i. c.Exits a i k.rest other) (sym one.0) k.at))

  -- If the run needs more bytes after `bytes`, then `bytes` contain no exit reason.
  pub hold_or_on :
      (bytes : List ℕ) (exit : Exit) → AreBytes bytes → HaveExit c a bytes exit
      → (items : List Item) (output : List Output) (rest : List ℕ)
      → OutputsFirst c a bytes items output rest → GoesOn c a items rest → ⊥
  hold_or_on bytes exit are_bytes h items output rest first on =
      let rest' = split_bytes c a lawful [] bytes h.items h.rest are_bytes h.first.split in
      let one = stuck_once c a lawful [] bytes h.items items h.rest rest h.output output are_bytes
      h.first.split h.first.all_print (exit_stuck h.items h.rest exit rest' h.at)
      first.split first.all_print (on_stuck items rest on) in
      on.no_exit exit
      (subst (λ r. c.Exits a items r exit) one.1
      (subst (λ i. c.Exits a i h.rest exit) one.0 h.at))

module _ {A : Type 0} (c : Commands A) (lawful : AreLawful c) where
  pub one_exit : HaveOneExit c
  one_exit a found = hold_once c a (lawful.at a found)

  pub exits_stay : ExitsStay c
  exits_stay a found = hold_all c a (lawful.at a found)

  pub exits_last : ExitsAreLast c
  exits_last a found = hold_or_on c a (lawful.at a found)
