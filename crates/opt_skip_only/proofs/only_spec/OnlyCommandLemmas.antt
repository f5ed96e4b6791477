-- Lawful commands are lawful with `--only`.
use Rattle.std.proofs.Common.{◌≡◌, ◌++◌, ◌∷◌, ℕ, List, [], Option, Some, None, inl, inr, refl, sym, ap, ◌∙◌, subst, length, arith}
use Rattle.base_data.specs.model.Bytes.{AreBytes}
use Rattle.cli_spec.specs.Outcome.{Request, Output, outputs, exits}
use Rattle.cli_spec.specs.RefusalText.{truncated_text}
use Rattle.cli_spec.specs.declared.exit.Exit.{Exit}
use Rattle.cli_spec.specs.declared.exit.Exit.TheVariants.{Value as value, Finished as finished}
use Rattle.run_spec.specs.runs.Commands.{Item, Commands}
use Rattle.run_spec.specs.runs.Lawful.{IsOnce, IsInner, AreLawfulAt, AreLawful, AreInTurns}
use Rattle.run_spec.specs.command_sum.CommandSum.{IsIdleAt, AreDisjoint}
use Rattle.run_spec.proofs.command_sum.BesideLemmas.{lawful_beside, turns_beside, idle_beside, disjoint_beside}
use Rattle.opt_skip_only.proofs.only_spec.OnlyKnownLemmas.{known_past}
use Rattle.opt_skip_only.specs.only_spec.OnlyCommand.{missing, FirstBy, OutputsBy, ExitsBy, EndsBy, only_command}

-- The empty list of items does not end with an item.
none_last : (items : List Item) (item : Item) → ◌≡◌ {A = List Item} [] (items ++ item ∷ []) → ⊥
none_last [] item e = cc e
none_last (other ∷ items) item e = cc e

same_last : (items others : List Item) (item other : Item)
    → items ++ item ∷ [] ≡ others ++ other ∷ [] → (items ≡ others) × (item ≡ other)
same_last [] [] item other e = let one : item ≡ other = cc e in (refl, one)
same_last [] (o ∷ others) item other e =
    let rest : ◌≡◌ {A = List Item} [] (others ++ other ∷ []) = cc e in
    absurd (none_last others other rest)
same_last (i ∷ items) [] item other e =
    let rest : ◌≡◌ {A = List Item} (items ++ item ∷ []) [] = cc e in
    absurd (none_last items item (sym rest))
same_last (i ∷ items) (o ∷ others) item other e =
    let one : i ≡ o = cc e in
    let rest : items ++ item ∷ [] ≡ others ++ other ∷ [] = cc e in
    let next = same_last items others item other rest in
    (ap (λ first. first ∷ items) one ∙ ap (λ more. o ∷ more) next.0, next.1)

module _ {A : Type 0} (picked_by : Request → Option ℕ) (c : Commands A) where
  abbrev one : Commands (Option ℕ × A)
  one = only_command picked_by c

  module _ (k : ℕ) (a : A) (law : AreLawfulAt c a) where
    outputs_once : (items : List Item) (item : Item) → IsOnce (OutputsBy c (Some k) a items item)
    outputs_once items item x y (inl (less, known, p, is)) (inl (less', known', q, is')) = is ∙ sym is'
    outputs_once items item x y (inl (less, known, p, is)) (inr (at, q)) = absurd (omega (arith, less, at))
    outputs_once items item x y (inr (at, p)) (inl (less, known, q, is)) = absurd (omega (arith, less, at))
    outputs_once items item x y (inr (at, p)) (inr (at', q)) = law.outputs_once items item x y p q

    exits_once : (items : List Item) (bytes : List ℕ) → AreBytes bytes
        → IsOnce (ExitsBy c (Some k) a items bytes)
    exits_once items bytes are_bytes x y (inl (few, p)) (inl (few', q)) =
        law.exits_once items bytes are_bytes x y p q
    exits_once items bytes are_bytes x y (inl (few, p)) (inr (ok, known, is)) =
        absurd (known_past c k a items ok known few)
    exits_once items bytes are_bytes x y (inr (ok, known, is)) (inl (few, q)) =
        absurd (known_past c k a items ok known few)
    exits_once items bytes are_bytes x y (inr (ok, t, is)) (inr (ok', u, is')) =
        let last = same_last t.earlier u.earlier t.item u.item (sym t.items_are ∙ u.items_are) in
        let outputs : c.Outputs a t.earlier t.item u.output =
        subst (λ i. c.Outputs a i t.item u.output) (sym last.0)
        (subst (λ i. c.Outputs a u.earlier i u.output) (sym last.1) u.outputs) in
        let output = law.outputs_once t.earlier t.item t.output u.output t.outputs outputs in
        let same : ok ≡ ok' = sym t.ok_is ∙ (ap (λ (s : Output). s.ok) output ∙ u.ok_is) in
        is ∙ (ap (λ w. finished w) same ∙ sym is')

    exit_stays : (items : List Item) (bytes later : List ℕ) (exit : Exit)
        → ExitsBy c (Some k) a items bytes exit → ExitsBy c (Some k) a items (bytes ++ later) exit
    exit_stays items bytes later exit (inl (few, p)) =
        inl (few, law.exit_stays items bytes later exit p)
    exit_stays items bytes later exit (inr known) = inr known

    exits_inside : (items : List Item) (bytes : List ℕ) (exit : Exit)
        → ExitsBy c (Some k) a items bytes exit → IsInner exit
    exits_inside items bytes exit (inl (few, p)) = law.exits_inside items bytes exit p
    exits_inside items bytes exit (inr (ok, known, is)) = subst IsInner (sym is) tt

    ends_once : (items : List Item) (bytes : List ℕ) → AreBytes bytes
        → IsOnce (EndsBy c (Some k) a items bytes)
    ends_once items bytes are_bytes x y (few, reply, p, is) (few', other, q, is') =
        is
        ∙ (ap (missing (length items)) (law.ends_once items bytes are_bytes reply other p q)
        ∙ sym is')

    ends_inside : (items : List Item) (bytes : List ℕ) (exit : Exit)
        → EndsBy c (Some k) a items bytes (exits exit) → IsInner exit
    ends_inside items bytes exit (few, outputs output, p, is) =
        let same : exit ≡ value (length items) (truncated_text 0) = cc is in
        subst IsInner (sym same) tt
    ends_inside items bytes exit (few, exits other, p, is) =
        let same : exit ≡ other = cc is in
        subst IsInner (sym same) (law.ends_inside items bytes other p)

    stands_disjoint : (items : List Item) (bytes : List ℕ) → AreBytes bytes
        → (item : Item) (more : List ℕ) (output : Output) (exit : Exit)
        → FirstBy c (Some k) a items bytes item more → OutputsBy c (Some k) a items item output
        → ExitsBy c (Some k) a items bytes exit → ⊥
    stands_disjoint items bytes are_bytes item more output exit (few, p) (inl (less, known, s, is)) (inl (few', at)) =
        law.disjoint items bytes are_bytes item more known exit p s at
    stands_disjoint items bytes are_bytes item more output exit (few, p) (inr (here, s)) (inl (few', at)) =
        law.disjoint items bytes are_bytes item more output exit p s at
    stands_disjoint items bytes are_bytes item more output exit (few, p) s (inr (ok, known, is)) =
        known_past c k a items ok known few

    lawful_of_one : AreLawfulAt one (Some k, a)
    lawful_of_one = record {
      first_once = λ items bytes are_bytes item other more rest p q.
          law.first_once items bytes are_bytes item other more rest p.1 q.1;
      outputs_once = outputs_once;
      exits_once = exits_once;
      ends_once = ends_once;
      prefix = λ items bytes item more p. law.prefix items bytes item more p.1;
      item_stays = λ items bytes item more later p.
          (p.0, law.item_stays items bytes item more later p.1);
      exit_stays = exit_stays;
      exits_inside = exits_inside;
      ends_inside = ends_inside;
      disjoint = stands_disjoint;
    }

  lawful_of_each : (a : A) → AreLawfulAt c a → AreLawfulAt one (None, a)
  lawful_of_each a law = record {
    first_once = law.first_once;
    outputs_once = law.outputs_once;
    exits_once = law.exits_once;
    ends_once = law.ends_once;
    prefix = law.prefix;
    item_stays = law.item_stays;
    exit_stays = law.exit_stays;
    exits_inside = law.exits_inside;
    ends_inside = law.ends_inside;
    disjoint = law.disjoint;
  }

  lawful_at : (picked : Option ℕ) (a : A) → AreLawfulAt c a → AreLawfulAt one (picked, a)
  lawful_at None a law = lawful_of_each a law
  lawful_at (Some k) a law = lawful_of_one k a law

  -- ---- the arguments, the files and other commands

  pub lawful : AreLawful c → AreLawful one
  lawful law = lawful_beside picked_by c one lawful_at law

  pub in_turns : AreInTurns c → AreInTurns one
  in_turns turns = turns_beside picked_by c one turns

  pub idle : (request : Request) → IsIdleAt c request → IsIdleAt one request
  idle request none = idle_beside picked_by c one request none

  pub disjoint : {B : Type 0} (d : Commands B) → AreDisjoint c d → AreDisjoint one d
  disjoint d of_c request = disjoint_beside picked_by c one d of_c request
