-- If the tables of commands are exact, then the tables of the commands with `--only` are exact.
use Rattle.std.proofs.Common.{◌≡◌, ◌⊎◌, ℕ, List, [], ◌∷◌, ◌++◌, Option, Some, None, inl, inr, refl, sym, ap, ◌∙◌, subst, length, length-append, arith}
use Rattle.std.specs.Prelude.{if◌then◌else◌}
use Rattle.cli_spec.specs.declared.status.Status.{Status}
use Rattle.cli_spec.specs.declared.status.Status.TheVariants as statuses
use Rattle.cli_spec.specs.Outcome.{Request, status_of, Output, Reply, outputs, exits, Replies, replies, ending_of}
use Rattle.cli_spec.specs.declared.exit.Exit.{Exit}
use Rattle.cli_spec.specs.declared.exit.Exit.TheVariants.{Finished as finished}
use Rattle.run_spec.specs.runs.Commands.{Commands, AllPrint, HaveExit}
use Rattle.run_spec.specs.runs.RunSpec.{HoldEnd}
use Rattle.run_spec.specs.exit_causes.Causes.{Tables, HaveExits, HaveEnds, AreExact}
use Rattle.run_spec.proofs.command_sum.CommandSumAgreeLemmas.{Agrees, agrees_back, outputs_first_too, goes_on_too}
use Rattle.opt_skip_only.specs.only_spec.OnlyCommand.{missing, ExitsBy, only_command}
use Rattle.opt_skip_only.specs.only_spec.OnlyOutput.{output_of_one}
use Rattle.opt_skip_only.specs.only_spec.OnlyTables.{ExitUpTo, HaveItem, EndBefore, only_command_tables}
use Rattle.opt_skip_only.proofs.only_spec.EachLemmas.{agree_each}
use Rattle.opt_skip_only.proofs.only_spec.OnlyKnownLemmas.{known_count, print_prefix, print_then, is_known, on_up_to, print_count, first_of_one, split_back, would}

-- ---- all items

module _ {A B : Type 0} (c : Commands A) (d : Commands B) (a : A) (b : B) (same : Agrees c d a b) where
  exit_too : (bytes : List ℕ) (exit : Exit) → HaveExit c a bytes exit → HaveExit d b bytes exit
  exit_too bytes exit h = record {
    items = h.items;
    output = h.output;
    rest = h.rest;
    first = outputs_first_too c d a b same bytes h.items h.output h.rest h.first;
    at = (same.exits h.items h.rest exit).0 h.at;
  }

  end_too : (bytes : List ℕ) (output : List Output) (last : Reply) → HoldEnd c a bytes output last
      → HoldEnd d b bytes output last
  end_too bytes output last h = record {
    items = h.items;
    rest = h.rest;
    first = outputs_first_too c d a b same bytes h.items output h.rest h.first;
    goes_on = goes_on_too c d a b same h.items h.rest h.goes_on;
    ends = (same.ends h.items h.rest last).0 h.ends;
  }

-- ---- one item

-- The status of the reply for a missing item does not depend on the outputs before the reply.
missing_agree : (output : List Output) (n : ℕ) (reply : Reply)
    → (ending_of (replies output (missing n reply))).status
    ≡ (ending_of (replies [] (missing n reply))).status
missing_agree output n (outputs s) = refl
missing_agree output n (exits exit) = refl

module _ {A : Type 0} (picked_by : Request → Option ℕ) (c : Commands A) (a : A) (k : ℕ) where
  abbrev one : Commands (Option ℕ × A)
  one = only_command picked_by c

  -- ---- an exit reason

  abbrev Stopped : List ℕ → Status → Type 0
  Stopped bytes status = ExitUpTo c k a bytes status ⊎ HaveItem c k a bytes status

  exit_there : (bytes : List ℕ) (exit : Exit) (status : Status) → status_of exit ≡ status
      → (h : HaveExit one (Some k, a) bytes exit) → ExitsBy c (Some k) a h.items h.rest exit
      → Stopped bytes status
  exit_there bytes exit status is h (inl (few, at)) =
      let t = would picked_by c a k k [] h.items h.output (omega arith) (omega (arith, few)) h.first.all_print in
      inl (record {
        exit = exit;
        is = is;
        holds = record {
          items = h.items;
          output = t.0;
          rest = h.rest;
          first = record {
            split = split_back picked_by c a k [] bytes h.items h.rest h.first.split;
            all_print = t.1;
          };
          at = at;
        };
        few = few;
      })
  exit_there bytes exit status is h (inr (ok, known, exit_is)) =
      let size = known_count c k a h.items ok known in
      let t = would picked_by c a k k [] h.items h.output (omega arith) (omega (arith, size)) h.first.all_print in
      let f = print_prefix c a [] known.earlier known.item t.0
      (subst (λ i. AllPrint c a [] i t.0) known.items_are t.1) in
      let count = print_count c a [] known.earlier f.0 f.1 in
      inr (record {
        items = h.items;
        earlier = f.0;
        output = known.output;
        rest = h.rest;
        first = record {
          split = split_back picked_by c a k [] bytes h.items h.rest h.first.split;
          all_print = subst (λ i. AllPrint c a [] i (f.0 ++ known.output ∷ [])) (sym known.items_are)
              (print_then c a [] known.earlier known.item f.0 known.output f.1 known.outputs);
        };
        number = sym count ∙ known.number;
        is = ap (λ w. if w then statuses.AllOk else statuses.No) known.ok_is
            ∙ (sym (ap status_of exit_is) ∙ is);
      })

  exit_back : (bytes : List ℕ) (status : Status) (s : ExitUpTo c k a bytes status)
      → HaveExit one (Some k, a) bytes s.exit
  exit_back bytes status s =
      let h = s.holds in
      let few = s.few in
      let count = print_count c a [] h.items h.output h.first.all_print in record {
        items = h.items;
        output = output_of_one k h.output;
        rest = h.rest;
        first = first_of_one picked_by c a k bytes h.items h.output h.rest
            (omega (arith, few, count)) h.first;
        at = inl (few, h.at);
      }

  item_back : (bytes : List ℕ) (status : Status) (i : HaveItem c k a bytes status)
      → HaveExit one (Some k, a) bytes (finished i.output.ok)
  item_back bytes status i =
      let size = length-append i.earlier (i.output ∷ []) in
      let number = i.number in record {
        items = i.items;
        output = output_of_one k (i.earlier ++ i.output ∷ []);
        rest = i.rest;
        first = first_of_one picked_by c a k bytes i.items (i.earlier ++ i.output ∷ []) i.rest
            (omega (arith, size, number)) i.first;
        at = inr (
          i.output.ok,
          is_known c a k i.items i.earlier i.output number i.first.all_print,
          refl,
        );
      }

  -- ---- an end

  abbrev Ended : List ℕ → List Output → Reply → Status → Type 0
  Ended bytes output last status =
      ((ending_of (replies output last)).status ≡ status) × HoldEnd one (Some k, a) bytes output last

  end_there : (bytes : List ℕ) (output : List Output) (last : Reply) (status : Status)
      → (ending_of (replies output last)).status ≡ status
      → (h : HoldEnd one (Some k, a) bytes output last) → one.Ends (Some k, a) h.items h.rest last
      → EndBefore c k a bytes status
  end_there bytes output last status is h (few, reply, ends, last_is) =
      let t = would picked_by c a k k [] h.items output (omega arith) (omega (arith, few)) h.first.all_print in
      record {
        output = t.0;
        reply = reply;
        holds = record {
          items = h.items;
          rest = h.rest;
          first = record {
            split = split_back picked_by c a k [] bytes h.items h.rest h.first.split;
            all_print = t.1;
          };
          goes_on = record {
            no_exit = λ exit at. h.goes_on.no_exit exit (inl (few, at));
            no_item = λ item more first. h.goes_on.no_item item more (few, first);
          };
          ends = ends;
        };
        few = few;
        is = sym (missing_agree output (length h.items) reply)
            ∙ (sym (ap (λ l. (ending_of (replies output l)).status) last_is) ∙ is);
      }

  before_back : (bytes : List ℕ) (status : Status) (e : EndBefore c k a bytes status)
      → Ended bytes (output_of_one k e.output) (missing (length e.holds.items) e.reply) status
  before_back bytes status e =
      let h = e.holds in
      let few = e.few in
      let count = print_count c a [] h.items e.output h.first.all_print in (
        missing_agree (output_of_one k e.output) (length h.items) e.reply ∙ e.is,
        record {
          items = h.items;
          rest = h.rest;
          first = first_of_one picked_by c a k bytes h.items e.output h.rest
              (omega (arith, few, count)) h.first;
          goes_on = on_up_to picked_by c a k h.items h.rest few h.goes_on;
          ends = (few, e.reply, h.ends, refl);
        },
      )

-- ---- the tables together

module _ {A : Type 0} (picked_by : Request → Option ℕ) (c : Commands A) (tables : Tables A) where
  abbrev known : Commands (Option ℕ × A)
  known = only_command picked_by c

  abbrev shown : Tables (Option ℕ × A)
  shown = only_command_tables c tables

  have_exits : HaveExits c tables → HaveExits known shown
  have_exits of_c (None, a) bytes status = (there, back) where
    there : (exit : Exit) × (status_of exit ≡ status) × HaveExit known (None, a) bytes exit
        → shown.ExitWith (None, a) bytes status
    there (exit, is, h) =
        let same = agrees_back c known a (None, a) (agree_each picked_by c a) in
        (of_c a bytes status).0 (exit, is, exit_too known c (None, a) a same bytes exit h)

    back : shown.ExitWith (None, a) bytes status
        → (exit : Exit) × (status_of exit ≡ status) × HaveExit known (None, a) bytes exit
    back at =
        let s = (of_c a bytes status).1 at in
        (s.0, s.1, exit_too c known a (None, a) (agree_each picked_by c a) bytes s.0 s.2)
  have_exits of_c (Some k, a) bytes status = (there, back) where
    there : (exit : Exit) × (status_of exit ≡ status) × HaveExit known (Some k, a) bytes exit
        → shown.ExitWith (Some k, a) bytes status
    there (exit, is, h) = exit_there picked_by c a k bytes exit status is h h.at

    back : shown.ExitWith (Some k, a) bytes status
        → (exit : Exit) × (status_of exit ≡ status) × HaveExit known (Some k, a) bytes exit
    back (inl s) = (s.exit, s.is, exit_back picked_by c a k bytes status s)
    back (inr i) = (finished i.output.ok, i.is, item_back picked_by c a k bytes status i)

  have_ends : HaveEnds c tables → HaveEnds known shown
  have_ends of_c (None, a) bytes status are_bytes = (there, back) where
    there : (all : Replies) × ((ending_of all).status ≡ status)
        × HoldEnd known (None, a) bytes all.output all.last
        → shown.EndWith (None, a) bytes status
    there (all, is, h) =
        let same = agrees_back c known a (None, a) (agree_each picked_by c a) in
        (of_c a bytes status are_bytes).0
        (all, is, end_too known c (None, a) a same bytes all.output all.last h)

    back : shown.EndWith (None, a) bytes status
        → (all : Replies) × ((ending_of all).status ≡ status)
        × HoldEnd known (None, a) bytes all.output all.last
    back at =
        let e = (of_c a bytes status are_bytes).1 at in
        (e.0, e.1, end_too c known a (None, a) (agree_each picked_by c a) bytes e.0.output e.0.last e.2)
  have_ends of_c (Some k, a) bytes status are_bytes = (there, back) where
    there : (all : Replies) × ((ending_of all).status ≡ status)
        × HoldEnd known (Some k, a) bytes all.output all.last
        → shown.EndWith (Some k, a) bytes status
    there (all, is, h) =
        end_there picked_by c a k bytes all.output all.last status is h h.ends

    back : shown.EndWith (Some k, a) bytes status
        → (all : Replies) × ((ending_of all).status ≡ status)
        × HoldEnd known (Some k, a) bytes all.output all.last
    back e =
        let b = before_back picked_by c a k bytes status e in
        (replies (output_of_one k e.output) (missing (length e.holds.items) e.reply), b.0, b.1)

  pub exact : AreExact c tables → AreExact known shown
  exact of_c = record {
    read = λ act. of_c.read act.1;
    exits = have_exits of_c.exits;
    ends = have_ends of_c.ends;
    bars = of_c.bars;
    bad_arguments = of_c.bad_arguments;
  }
