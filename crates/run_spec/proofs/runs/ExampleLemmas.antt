-- The commands of the example are lawful.
use Rattle.std.proofs.Common.{◌≡◌, ◌⊎◌, ◌<◌, ℕ, Bool, true, false, List, [], ◌∷◌, ◌++◌, None, Some, Result, Ok, Err, inl, inr, refl, sym, ap, ◌∙◌, subst, arith}
use Rattle.std.specs.Prelude.{MatchResult}
use Rattle.cli_spec.specs.Outcome.{Found, opened, missing, failed, unfetched, whole, Request, exits, fault_of, ReadsFile}
use Rattle.cli_spec.specs.declared.exit.Exit.{Exit}
use Rattle.run_spec.specs.runs.Commands.{text, Fetches}
use Rattle.run_spec.specs.runs.Example.{example_name, has_bytes, ok_output, IsLine, IsFine, last_output, example, OutputsUnread, OutputsRest}
use Rattle.run_spec.specs.runs.Lawful.{IsOnce, IsInner, IsWhole, FailsAtFile, AreLawfulAt, AreLawful, AreInTurns}
use Rattle.run_spec.proofs.runs.LengthLemmas.{some_line}
use Rattle.run_spec.proofs.runs.RunOnceLemmas.{Then_once}

-- A file has at most one reading.
pub reads_once : (name : List ℕ) (found : Found) → IsOnce (ReadsFile name found)
reads_once name found (Ok x) (Ok y) h k =
    let same : whole x ≡ whole y = cc in ap (λ t. Ok t.bytes) same
reads_once name (opened taken) (Ok x) (Err s) h k =
    let is : taken ≡ whole x = cc in
    let never : None ≡ Some s = subst (λ t. fault_of t.until ≡ Some s) is k in absurd (cc never)
reads_once name missing (Ok x) (Err s) h k = absurd (cc h)
reads_once name failed (Ok x) (Err s) h k = absurd (cc h)
reads_once name unfetched (Ok x) (Err s) h k = absurd k
reads_once name (opened taken) (Err s) (Ok y) h k =
    let is : taken ≡ whole y = cc in
    let never : None ≡ Some s = subst (λ t. fault_of t.until ≡ Some s) is h in absurd (cc never)
reads_once name missing (Err s) (Ok y) h k = absurd (cc k)
reads_once name failed (Err s) (Ok y) h k = absurd (cc k)
reads_once name unfetched (Err s) (Ok y) h k = absurd h
reads_once name (opened taken) (Err s) (Err t) h k = let same : s ≡ t = cc in ap (λ s. Err s) same
reads_once name missing (Err s) (Err t) h k = ap (λ s. Err s) (h ∙ sym k)
reads_once name failed (Err s) (Err t) h k = ap (λ s. Err s) (h ∙ sym k)
reads_once name unfetched (Err s) (Err t) h k = absurd h

-- ---- lines

pub line_once :
    (bytes line other more rest : List ℕ) → IsLine bytes line more → IsLine bytes other rest
    → (line ≡ other) × (more ≡ rest)
line_once [] line other more rest h k = absurd h
line_once (b ∷ bytes) [] [] more rest h k = (refl, sym h.1 ∙ k.1)
line_once (b ∷ bytes) [] (c ∷ other) more rest h k = absurd (k.1 h.0)
line_once (b ∷ bytes) (c ∷ line) [] more rest h k = absurd (h.1 k.0)
line_once (b ∷ bytes) (c ∷ line) (d ∷ other) more rest h k =
    let next = line_once bytes line other more rest h.2 k.2 in
    let first : c ≡ d = sym h.0 ∙ k.0 in
    (ap (λ c. c ∷ line) first ∙ ap (λ line. d ∷ line) next.0, next.1)

pub line_prefix :
    (bytes line more : List ℕ) → IsLine bytes line more → bytes ≡ (line ++ 10 ∷ []) ++ more
line_prefix [] line more h = absurd h
line_prefix (b ∷ bytes) [] more h = ap (λ b. b ∷ bytes) h.0 ∙ ap (λ bytes. 10 ∷ bytes) h.1
line_prefix (b ∷ bytes) (c ∷ line) more h =
    ap (λ b. b ∷ bytes) h.0 ∙ ap (λ bytes. c ∷ bytes) (line_prefix bytes line more h.2)

pub line_stays :
    (bytes line more later : List ℕ) → IsLine bytes line more
    → IsLine (bytes ++ later) line (more ++ later)
line_stays [] line more later h = absurd h
line_stays (b ∷ bytes) [] more later h = (h.0, ap (λ x. x ++ later) h.1)
line_stays (b ∷ bytes) (c ∷ line) more later h = (h.0, h.1, line_stays bytes line more later h.2)

-- If a line is repeated, then the line is not refused.
line_disjoint : (bytes line more rest : List ℕ) → IsLine bytes line more → IsFine line → bytes ≡ 255 ∷ rest → ⊥
line_disjoint [] line more rest h fine e = h
line_disjoint (b ∷ bytes) [] more rest h fine e =
    let is : b ≡ 255 = cc e in let other = h.0 in absurd (omega arith)
line_disjoint (b ∷ bytes) (c ∷ line) more rest h fine e =
    let is : b ≡ 255 = cc e in fine (sym h.0 ∙ is)

lawful_at : (a : Bool) → AreLawfulAt example a
lawful_at a = record {
  first_once = λ items bytes are_bytes item other more rest h k.
      let one = line_once bytes h.0 k.0 more rest h.1 k.1 in
      (h.2 ∙ (ap (λ line. text line) one.0 ∙ sym k.2), one.1);
  outputs_once = λ items item output other h k.
      let is : text h.0 ≡ text k.0 = sym h.2 ∙ k.2 in
      let line : h.0 ≡ k.0 = cc is in
      h.3 ∙ (ap (λ line. ok_output (line ++ 10 ∷ [])) line ∙ sym k.3);
  exits_once = λ items bytes are_bytes exit other h k. h.2 ∙ sym k.2;
  ends_once = λ items bytes are_bytes last other h k. h ∙ sym k;
  prefix = λ items bytes item more h.
      (h.0 ++ 10 ∷ [], line_prefix bytes h.0 more h.1, some_line h.0);
  item_stays = λ items bytes item more later h. (h.0, line_stays bytes h.0 more later h.1, h.2);
  exit_stays = λ items bytes later exit h. (h.0 ++ later, ap (λ x. x ++ later) h.1, h.2);
  exits_inside = λ items bytes exit h. subst IsInner (sym h.2) tt;
  ends_inside = λ items bytes exit h. absurd (never a bytes exit h);
  disjoint = λ items bytes are_bytes item more output exit first h k.
      let same : text first.0 ≡ text h.0 = sym first.2 ∙ h.2 in
      let line : first.0 ≡ h.0 = cc same in
      line_disjoint bytes first.0 more k.0 first.1 (subst IsFine (sym line) h.1) k.1;
} where
  never : (a : Bool) (bytes : List ℕ) (exit : Exit) → exits exit ≡ last_output a bytes → ⊥
  never true bytes exit e = cc e
  never false bytes exit e = cc e

-- ---- the file

-- The file was read completely, or the file ends the run.
abbrev IsRead : Fetches → Result Bool Exit → ℕ → List ℕ → Type 0
IsRead files result turn name = IsWhole (files turn name)
    ⊎ ((exit : Exit) × ReadsFile name (files turn name) (Err exit) × (result ≡ Err exit))

-- The task, given the result of reading the file.
abbrev Goes : Result Bool Exit → Result (List ℕ) Exit → Type 0
Goes result read =
    MatchResult read (λ bytes. result ≡ Ok (has_bytes bytes)) (λ exit. result ≡ Err exit)

is_read :
    (files : Fetches) (result : Result Bool Exit) (read : Result (List ℕ) Exit)
    → ReadsFile example_name (files 0 example_name) read → Goes result read
    → IsRead files result 0 example_name
is_read files result (Ok bytes) reads next = inl (inl (bytes, reads))
is_read files result (Err exit) reads next = inr (exit, reads, next)

fails_at_file :
    (request : Request) (files : Fetches) (exit : Exit) (read : Result (List ℕ) Exit)
    → ReadsFile example_name (files 0 example_name) read → Goes (Err exit) read
    → FailsAtFile example request files (Err exit)
fails_at_file request files exit (Ok bytes) reads next = absurd (cc next)
fails_at_file request files exit (Err s) reads next = record {
  turn = 0;
  name = example_name;
  wants = (refl, refl);
  exit = s;
  fault = reads;
  is = next;
}

pub lawful : AreLawful example
lawful = record {
  wants_once = λ request files turn name other h k. h.1 ∙ sym k.1;
  finds_once = λ request files.
      Then_once (ReadsFile example_name (files 0 example_name))
      (λ text found. found ≡ Ok (has_bytes text))
      (reads_once example_name (files 0 example_name)) (λ text found other h k. h ∙ sym k);
  by_wanted = λ request files others result same h.
      (h.0, subst (λ f. ReadsFile example_name f h.0) (same 0 example_name (refl, refl)) h.1, h.2);
  reads_wanted = λ request files result h turn name wants.
      subst (λ n. IsRead files result turn n) (sym wants.1)
      (subst (λ t. IsRead files result t example_name) (sym wants.0)
      (is_read files result h.0 h.1 h.2));
  finds_inside = λ request files exit h. inr (fails_at_file request files exit h.0 h.1 h.2);
  at = λ a found. lawful_at a;
}

-- The file is read, or the file ends the run.
abbrev IsReadIn : Fetches → Result Bool Exit → ℕ → List ℕ → Type 0
IsReadIn files result turn name = ((bytes : List ℕ) × (files turn name ≡ opened (whole bytes)))
    ⊎ ((exit : Exit) × ReadsFile name (files turn name) (Err exit) × (result ≡ Err exit))

read_in :
    (files : Fetches) (result : Result Bool Exit) (read : Result (List ℕ) Exit)
    → ReadsFile example_name (files 0 example_name) read → Goes result read
    → IsReadIn files result 0 example_name
read_in files result (Ok bytes) reads next = inl (bytes, reads)
read_in files result (Err exit) reads next = inr (exit, reads, next)

pub none_later : (turn later : ℕ) → turn < later → later ≡ 0 → ⊥
none_later turn later less e = omega arith

pub in_turns : AreInTurns example
in_turns = record {
  by_earlier = λ request files others turn name same h. h;
  reads = λ request files result h turn name wants.
      subst (λ n. IsReadIn files result turn n) (sym wants.1)
      (subst (λ t. IsReadIn files result t example_name) (sym wants.0)
      (read_in files result h.0 h.1 h.2));
  after_read = λ request files turn later name other less h k.
      absurd (none_later turn later less k.0);
}

-- ---- the output

pub outputs_unread : OutputsUnread
outputs_unread input = inr (record { unread = λ reads. cc reads; none = refl; last = refl })

pub outputs_rest : OutputsRest
outputs_rest = inl (
  refl,
  record {
    items = text (97 ∷ []) ∷ [];
    rest = 98 ∷ [];
    first = record {
      split = (98 ∷ [], ((97 ∷ []), (refl, (λ e. differ e), (refl, refl)), refl), refl);
      all_print = ((97 ∷ [], (λ e. other e), refl, refl), tt);
    };
    last = inr (record { no_exit = λ exit h. refused h.0 h.1; no_item = λ item more h. unended h.0 more h.1 }, refl);
  },
) where
  differ : ◌≡◌ {A = ℕ} 97 10 → ⊥
  differ e = omega arith

  other : ◌≡◌ {A = ℕ} 97 255 → ⊥
  other e = omega arith

  refused : (more : List ℕ) → ◌≡◌ {A = List ℕ} (98 ∷ []) (255 ∷ more) → ⊥
  refused more e = let is : ◌≡◌ {A = ℕ} 98 255 = cc e in omega arith

  unended : (line more : List ℕ) → IsLine (98 ∷ []) line more → ⊥
  unended [] more h = let is = h.0 in omega arith
  unended (c ∷ line) more h = h.2
