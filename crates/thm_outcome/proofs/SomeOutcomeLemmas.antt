-- Total commands have an outcome. By induction over the length of the input, the input is split into
-- items with outputs, until the run ends or no item follows.
use Rattle.std.proofs.Common.{◌≡◌, ◌<◌, ◌≤◌, ◌+◌, ℕ, zero, suc, List, [], ◌∷◌, ◌++◌, length, Result, Ok, Err, inl, inr, refl, sym, ap, ◌∙◌, subst, append_assoc, append-nil, length-append, arith}
use Rattle.base_data.specs.model.Bytes.{AreBytes}
use Rattle.cli_spec.specs.Outcome.{at_end, Output, Reply, exits, replies, stopped, Request, Asks, found_of}
use Rattle.cli_spec.specs.declared.exit.Exit.{Exit}
use Rattle.cli_spec.specs.declared.exit.Exit.TheVariants.{Usage as usage}
use Rattle.run_spec.specs.runs.CommandLaws.{HaveOneOutcome}
use Rattle.run_spec.specs.runs.Commands.{Item, Commands, Split, AllPrint, IsLast}
use Rattle.run_spec.specs.runs.Lawful.{IsFound, AreLawful}
use Rattle.run_spec.proofs.runs.StreamLemmas.{bytes_after}
use Rattle.opt_skip_only.proofs.only_spec.OnlyKnownLemmas.{print_then}
use Rattle.thm_outcome.specs.Total.{AreTotalAt, AreTotal, HasAnswer, HaveAnOutcome, HaveExactlyOneOutcome}

module _ {A : Type 0} (c : Commands A) (a : A) where
  -- After the items `before`, the bytes are more items with outputs, followed by the final reply.
  record Rest (before : List Item) (bytes : List ℕ) : Type 0 where
    items : List Item
    output : List Output
    rest : List ℕ
    split : Split c a before bytes items rest
    all_print : AllPrint c a before items output
    last : Reply
    is : IsLast c a (before ++ items) rest at_end last

  -- Each item has at least one byte.
  abbrev pub HasPrefix : Type 0
  HasPrefix = (items : List Item) (bytes : List ℕ) (item : Item) (more : List ℕ)
      → c.IsFirst a items bytes item more
      → (first : List ℕ) × (bytes ≡ first ++ more) × (0 < length first)

  module _ (prefix : HasPrefix) (total : AreTotalAt c a) where
    -- If an exit reason comes next, then the exit reason is the final reply.
    exit_next :
        (before : List Item) (bytes : List ℕ) (exit : Exit) → c.Exits a before bytes exit
        → Rest before bytes
    exit_next before bytes exit at = record {
      items = [];
      output = [];
      rest = bytes;
      split = refl;
      all_print = tt;
      last = exits exit;
      is = inl (exit, subst (λ b. c.Exits a b bytes exit) (sym (append-nil before)) at, refl, refl);
    }

    -- If no item follows, then there is a final reply.
    no_first :
        c.Reads a → (before : List Item) (output : List Output) (bytes : List ℕ) → AllPrint c a [] before output
        → AreBytes bytes → (Rest before bytes → ⊥)
        → ((item : Item) (more : List ℕ) → c.IsFirst a before bytes item more → ⊥) → ⊥
    no_first reads before output bytes print are_bytes none no_item =
        let no_exit : (exit : Exit) → c.Exits a before bytes exit → ⊥ = λ exit at. none (exit_next before bytes exit at) in
        total.ends_some reads before output print bytes are_bytes
        (record { no_exit = no_exit; no_item = no_item }) (λ last ends.
        none (record {
          items = [];
          output = [];
          rest = bytes;
          split = refl;
          all_print = tt;
          last = last;
          is = inr (
            record {
              no_exit = λ exit at. no_exit exit (subst (λ b. c.Exits a b bytes exit) (append-nil before) at);
              no_item = λ item more f. no_item item more (subst (λ b. c.IsFirst a b bytes item more) (append-nil before) f);
            },
            subst (λ b. c.Ends a b bytes last) (sym (append-nil before)) ends,
          );
        }))

    rest_in :
        c.Reads a → (fuel : ℕ) (before : List Item) (output : List Output) (bytes : List ℕ)
        → length bytes ≤ fuel → AllPrint c a [] before output → AreBytes bytes
        → (Rest before bytes → ⊥) → ⊥
    rest_in reads zero before output bytes fits print are_bytes none =
        no_first reads before output bytes print are_bytes none (λ item more is.
        let f = prefix before bytes item more is in
        let all : length bytes ≡ length f.0 + length more = ap length f.1 ∙ length-append f.0 more in
        let some = f.2 in
        omega (arith, all, some, fits))
    rest_in reads (suc fuel) before output bytes fits print are_bytes none =
        no_first reads before output bytes print are_bytes none (λ item more is.
        let f = prefix before bytes item more is in
        let all : length bytes ≡ length f.0 + length more = ap length f.1 ∙ length-append f.0 more in
        let some = f.2 in
        total.outputs_some before output print bytes are_bytes item more is
        (λ exit at. none (exit_next before bytes exit at)) (λ one outputs.
        rest_in reads fuel (before ++ item ∷ []) (output ++ one ∷ []) more (omega (arith, all, some, fits))
        (print_then c a [] before item output one print outputs)
        (bytes_after f.0 more (subst AreBytes f.1 are_bytes)) (λ r.
        none (record {
          items = item ∷ r.items;
          output = one ∷ r.output;
          rest = r.rest;
          split = (more, is, r.split);
          all_print = (outputs, r.all_print);
          last = r.last;
          is = subst (λ b. IsLast c a b r.rest at_end r.last) (append_assoc before (item ∷ []) r.items) r.is;
        }))))

    -- The task has an answer to each input.
    pub answer_some : HasAnswer c a
    answer_some input are_bytes none =
        total.alone_some no_read (λ last ends.
        none (replies [] last) (inr (record { unread = no_read; none = refl; last = ends }))) where
          no_read : c.Reads a → ⊥
          no_read reads =
              rest_in reads (length input) [] [] input (omega arith) tt are_bytes (λ r.
              none (replies r.output r.last) (inl (
                reads,
                record {
                  items = r.items;
                  rest = r.rest;
                  first = record { split = r.split; all_print = r.all_print };
                  last = r.is;
                },
              )))

module _ {A : Type 0} (c : Commands A) (Of : Request → Type 0) (lawful : AreLawful c) (total : AreTotal c Of) where
  -- If a request satisfies `Of`, then its task has an answer. If no request is made, then the outcome
  -- is the exit reason `usage`.
  pub outcome_some : HaveAnOutcome c Of
  outcome_some arguments only files input are_bytes none =
      let no_request : (request : Request) → Asks arguments request → ⊥ = λ request asks.
      total.finds_some request (only request asks) files (λ found finds. by request asks found finds) in
      none (stopped usage) (Err usage, (Err usage, (no_request, refl), refl), refl) where
        by : (request : Request) → Asks arguments request → (found : Result A Exit)
            → c.Finds request (λ turn name. found_of (files name)) found → ⊥
        by request asks (Err exit) finds =
            none (stopped exit) (Err exit, (Ok request, asks, finds), refl)
        by request asks (Ok a) finds =
            let is_found : IsFound c a = (request, (λ turn name. found_of (files name)), finds) in
            answer_some c a (lawful.at a is_found).prefix (total.at request (only request asks) files a finds) input are_bytes
            (λ all answers. none all (Ok a, (Ok request, asks, finds), answers))

-- If commands have at most one outcome, and an outcome exists, then exactly one outcome exists.
pub one_outcome : {A : Type 0} (c : Commands A) (Of : Request → Type 0) → HaveOneOutcome c → HaveAnOutcome c Of → HaveExactlyOneOutcome c Of
one_outcome c Of once some = record {
  some = some;
  once = λ arguments files input are_bytes. once arguments _ are_bytes;
}
