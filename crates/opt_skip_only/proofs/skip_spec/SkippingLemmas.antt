-- Lawful commands are lawful after skipped bytes.
use Rattle.std.proofs.Common.{◌≡◌, ◌⊎◌, ◌<◌, ℕ, List, [], ◌∷◌, ◌++◌, inl, inr, sym, ap, ◌∙◌, subst, length, drop, arith}
use Rattle.base_data.specs.model.Bytes.{AreBytes}
use Rattle.cli_spec.specs.Outcome.{Request, Output, exits}
use Rattle.cli_spec.specs.declared.exit.Exit.{Exit}
use Rattle.cli_spec.specs.declared.exit.Exit.TheVariants.{Short as short_input}
use Rattle.run_spec.specs.runs.Commands.{Item, text as text_item, Commands}
use Rattle.run_spec.specs.runs.Lawful.{IsOnce, IsInner, AreLawfulAt, AreLawful, AreInTurns}
use Rattle.run_spec.specs.command_sum.CommandSum.{IsIdleAt, AreDisjoint}
use Rattle.run_spec.proofs.command_sum.BesideLemmas.{lawful_beside, turns_beside, idle_beside, disjoint_beside}
use Rattle.opt_skip_only.specs.skip_spec.Skipping.{SkippedBytes, IsByte, IsFirst, Outputs, Exits, Ends, skipping}

byte_once : (bytes : List ℕ) (item other : Item) (more rest : List ℕ) → IsByte bytes item more → IsByte bytes other rest
    → (item ≡ other) × (more ≡ rest)
byte_once bytes item other more rest p q =
    let same : p.byte ∷ more ≡ q.byte ∷ rest = sym p.bytes_are ∙ q.bytes_are in
    let byte : p.byte ≡ q.byte = cc same in
    let rests : more ≡ rest = cc same in
    (p.is ∙ (ap (λ b. text_item (b ∷ [])) byte ∙ sym q.is), rests)

pub byte_stays : (bytes : List ℕ) (item : Item) (more later : List ℕ) → IsByte bytes item more
    → IsByte (bytes ++ later) item (more ++ later)
byte_stays bytes item more later p = record { byte = p.byte; bytes_are = ap (λ b. b ++ later) p.bytes_are; is = p.is }

module _ {A : Type 0} (passed_by : Request → SkippedBytes) (c : Commands A) where
  abbrev after : Commands (SkippedBytes × A)
  after = skipping passed_by c

  module _ (over : SkippedBytes) (a : A) (law : AreLawfulAt c a) where
    abbrev n : ℕ
    n = over.bytes

    first_once : (items : List Item) (bytes : List ℕ) → AreBytes bytes → (item other : Item) (more rest : List ℕ)
        → IsFirst c (over, a) items bytes item more → IsFirst c (over, a) items bytes other rest
        → (item ≡ other) × (more ≡ rest)
    first_once items bytes are_bytes item other more rest (inl (less, p)) (inl (less', q)) = byte_once bytes item other more rest p q
    first_once items bytes are_bytes item other more rest (inl (less, p)) (inr (few, q)) = absurd (omega (arith, less, few))
    first_once items bytes are_bytes item other more rest (inr (few, p)) (inl (less, q)) = absurd (omega (arith, less, few))
    first_once items bytes are_bytes item other more rest (inr (few, p)) (inr (few', q)) =
        law.first_once (drop n items) bytes are_bytes item other more rest p q

    outputs_once : (items : List Item) (item : Item) → IsOnce (Outputs c (over, a) items item)
    outputs_once items item x y (inl (less, p)) (inl (less', q)) = p ∙ sym q
    outputs_once items item x y (inl (less, p)) (inr (few, q)) = absurd (omega (arith, less, few))
    outputs_once items item x y (inr (few, p)) (inl (less, q)) = absurd (omega (arith, less, few))
    outputs_once items item x y (inr (few, p)) (inr (few', q)) = law.outputs_once (drop n items) item x y p q

    exits_once : (items : List Item) (bytes : List ℕ) → AreBytes bytes → IsOnce (Exits c (over, a) items bytes)
    exits_once items bytes are_bytes x y (few, p) (few', q) = law.exits_once (drop n items) bytes are_bytes x y p q

    ends_once : (items : List Item) (bytes : List ℕ) → AreBytes bytes → IsOnce (Ends c (over, a) items bytes)
    ends_once items bytes are_bytes x y (inl (less, p)) (inl (less', q)) = p ∙ sym q
    ends_once items bytes are_bytes x y (inl (less, p)) (inr (few, q)) = absurd (omega (arith, less, few))
    ends_once items bytes are_bytes x y (inr (few, p)) (inl (less, q)) = absurd (omega (arith, less, few))
    ends_once items bytes are_bytes x y (inr (few, p)) (inr (few', q)) = law.ends_once (drop n items) bytes are_bytes x y p q

    prefix : (items : List Item) (bytes : List ℕ) (item : Item) (more : List ℕ) → IsFirst c (over, a) items bytes item more
        → (first : List ℕ) × (bytes ≡ first ++ more) × (0 < length first)
    prefix items bytes item more (inl (less, p)) = (p.byte ∷ [], p.bytes_are, omega arith)
    prefix items bytes item more (inr (few, p)) = law.prefix (drop n items) bytes item more p

    item_stays : (items : List Item) (bytes : List ℕ) (item : Item) (more later : List ℕ)
        → IsFirst c (over, a) items bytes item more → IsFirst c (over, a) items (bytes ++ later) item (more ++ later)
    item_stays items bytes item more later (inl (less, p)) = inl (less, byte_stays bytes item more later p)
    item_stays items bytes item more later (inr (few, p)) = inr (few, law.item_stays (drop n items) bytes item more later p)

    exit_stays : (items : List Item) (bytes later : List ℕ) (exit : Exit)
        → Exits c (over, a) items bytes exit → Exits c (over, a) items (bytes ++ later) exit
    exit_stays items bytes later exit (few, p) = (few, law.exit_stays (drop n items) bytes later exit p)

    exits_inside : (items : List Item) (bytes : List ℕ) (exit : Exit) → Exits c (over, a) items bytes exit → IsInner exit
    exits_inside items bytes exit (few, p) = law.exits_inside (drop n items) bytes exit p

    ends_inside : (items : List Item) (bytes : List ℕ) (exit : Exit) → Ends c (over, a) items bytes (exits exit) → IsInner exit
    ends_inside items bytes exit (inl (less, p)) =
        let same : exit ≡ short_input (length items) = cc p in subst IsInner (sym same) tt
    ends_inside items bytes exit (inr (few, p)) = law.ends_inside (drop n items) bytes exit p

    stands_disjoint : (items : List Item) (bytes : List ℕ) → AreBytes bytes → (item : Item) (more : List ℕ) (output : Output) (exit : Exit)
        → IsFirst c (over, a) items bytes item more → Outputs c (over, a) items item output → Exits c (over, a) items bytes exit → ⊥
    stands_disjoint items bytes are_bytes item more output exit (inl (less, p)) s (few, at) = absurd (omega (arith, less, few))
    stands_disjoint items bytes are_bytes item more output exit (inr (few, p)) (inl (less, s)) (few', at) = absurd (omega (arith, less, few))
    stands_disjoint items bytes are_bytes item more output exit (inr (few, p)) (inr (few', s)) (few'', at) =
        law.disjoint (drop n items) bytes are_bytes item more output exit p s at

    pub lawful_at : AreLawfulAt after (over, a)
    lawful_at = record {
      first_once = first_once;
      outputs_once = outputs_once;
      exits_once = exits_once;
      ends_once = ends_once;
      prefix = prefix;
      item_stays = item_stays;
      exit_stays = exit_stays;
      exits_inside = exits_inside;
      ends_inside = ends_inside;
      disjoint = stands_disjoint;
    }

  -- ---- the arguments, the files and other commands

  pub lawful : AreLawful c → AreLawful after
  lawful law = lawful_beside passed_by c after lawful_at law

  pub in_turns : AreInTurns c → AreInTurns after
  in_turns turns = turns_beside passed_by c after turns

  pub idle : (request : Request) → IsIdleAt c request → IsIdleAt after request
  idle request none = idle_beside passed_by c after request none

  pub disjoint : {B : Type 0} (d : Commands B) → AreDisjoint c d → AreDisjoint after d
  disjoint d of_c request = disjoint_beside passed_by c after d of_c request

  pub others_disjoint : {B : Type 0} (d : Commands B) → AreDisjoint d c → AreDisjoint d after
  others_disjoint d of_c request = from (of_c request) where
    from : IsIdleAt d request ⊎ IsIdleAt c request → IsIdleAt d request ⊎ IsIdleAt after request
    from (inl none) = inl none
    from (inr none) = inr (idle request none)
