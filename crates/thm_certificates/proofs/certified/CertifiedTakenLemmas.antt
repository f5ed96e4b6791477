-- If each value has an entry that is not rejected, and the certificate has no further entry, then
-- there is output for each value.
use Rattle.std.proofs.Common.{◌≡◌, ◌⊎◌, ◌+◌, ℕ, suc, List, [], ◌∷◌, length, inl, inr, refl, sym, ap, ◌∙◌, subst, length-append, arith}
use Rattle.std.specs.Prelude.{if◌then◌else◌}
use Rattle.std.proofs.lemmas.Bool.{le-ltb}
use Rattle.base_data.specs.model.Bytes.{AreBytes}
use Rattle.marshal_spec.specs.format.Stream.{EncodeAll, StreamEnd, clean, refused, cut}
use Rattle.marshal_spec.specs.format.Tree.{Tree}
use Rattle.cli_spec.specs.Outcome.{at_end, whole, nothing_output, Reply, outputs, exits, Replies, Language}
use Rattle.cli_spec.specs.declared.exit.Exit.TheVariants.{SectionsLeft as sections_left}
use Rattle.run_spec.specs.runs.Commands.{value, IsLast, OutputsAll}
use Rattle.run_spec.proofs.runs.LengthLemmas.{encoded_some}
use Rattle.run_spec.proofs.runs.StreamLemmas.{encode_bytes}
use Rattle.run_spec.proofs.value_commands.ValueCommandItemLemmas.{items_length, value_once, end_once, no_tail}
use Rattle.run_spec.specs.value_commands.Tasks.{items_of}
use Rattle.cmd_verify.specs.spec.Verification.{Shown, Verification, IsUncertified, EndsBy, ends_sections, ReadsSections, verifying}
use Rattle.cmd_verify.proofs.spec.VerifySpecOutputLemmas.{AreOutput, print_first}

-- The empty input encodes no value.
none_encoded : (limit : ℕ) (bytes : List ℕ) (tree : Tree) (trees : List Tree) (rest : List ℕ)
    → bytes ≡ [] → EncodeAll limit bytes (tree ∷ trees) rest → ⊥
none_encoded limit bytes tree trees rest none (first, more, is, encoded, s) =
    let some = encoded_some limit first tree encoded in
    let both : length {A = ℕ} [] ≡ length first + length more =
    ap length (sym none ∙ is) ∙ length-append first more in
    omega (arith, some, both)

module _ {T S : Type 0} (ShownBy : T → S → Tree → Shown → Type 0) (a : Verification T S) where
  -- The certificate has an entry for value `number`, and the entry is not rejected.
  abbrev pub IsGood : ℕ → Tree → Type 0
  IsGood number tree = (reason : List ℕ) → IsUncertified ShownBy a number tree reason → ⊥

  -- The certificate has an entry for each of the values, whose numbers begin at `number`, and no
  -- entry is rejected.
  abbrev pub AreGood : ℕ → List Tree → Type 0
  AreGood number [] = Unit {0}
  AreGood number (tree ∷ trees) = IsGood number tree × AreGood (suc number) trees

  -- The bytes begin with a value, whose number is `number` and whose entry is not rejected.
  pub record ComesGood (number : ℕ) (bytes : List ℕ) : Type 0 where
    pub tree : Tree
    pub more : List ℕ
    pub encoded : EncodeAll a.limit bytes (tree ∷ []) more
    pub good : IsGood number tree

  -- The values `others`, which are encoded so far, are all values, or one more value follows.
  prefix :
      (bytes : List ℕ) → AreBytes bytes → (k n : ℕ) (trees others : List Tree) (rest : List ℕ)
      → n ≡ k + length others → EncodeAll a.limit bytes trees []
      → EncodeAll a.limit bytes others rest → AreGood k trees
      → ((others ≡ trees) × (rest ≡ [])) ⊎ ComesGood n rest
  prefix bytes are_bytes k n [] [] rest at all first good = inl (refl, sym first ∙ all)
  prefix bytes are_bytes k n [] (u ∷ others) rest at all first good =
      absurd (none_encoded a.limit bytes u others rest all first)
  prefix bytes are_bytes k n (t ∷ trees) [] rest at (one, more, is, encoded, all) first good =
      let same : k ≡ n = omega (arith, at) in
      inr (record {
        tree = t;
        more = more;
        encoded = (one, more, sym first ∙ is, encoded, refl);
        good = subst (λ n. IsGood n t) same good.0;
      })
  prefix bytes are_bytes k n (t ∷ trees) (u ∷ others) rest at (one, more, is, encoded, all)
      (one', more', is', encoded', first) good =
      let both = value_once a.limit bytes are_bytes t u more more' (one, more, is, encoded, refl)
      (one', more', is', encoded', refl) in
      let later : AreBytes more =
      encode_bytes a.limit bytes more (t ∷ []) (one, more, is, encoded, refl) are_bytes in
      by both.0 (prefix more later (suc k) n trees others rest (omega (arith, at)) all
      (subst (λ m. EncodeAll a.limit m others rest) (sym both.1) first) good.1) where
        by : t ≡ u → ((others ≡ trees) × (rest ≡ [])) ⊎ ComesGood n rest
            → ((u ∷ others ≡ t ∷ trees) × (rest ≡ [])) ⊎ ComesGood n rest
        by same (inl (rest_same, none)) =
            inl (ap (λ t. t ∷ others) (sym same) ∙ ap (λ rest. t ∷ rest) rest_same, none)
        by same (inr comes) = inr comes

  -- ---- at the end

  no_section_left : (n : ℕ) → n ≡ length a.sections → ends_sections ShownBy a n ≡ outputs nothing_output
  no_section_left n same =
      ap (λ left. if left then exits sections_left else outputs nothing_output)
      (le-ltb n (length a.sections) (omega (arith, same)))

  at_the_end : (number : ℕ) (end : StreamEnd) (last : Reply) → clean ≡ end
      → EndsBy ShownBy a number end last → last ≡ ends_sections ShownBy a number
  at_the_end number clean last e ends = ends
  at_the_end number (refused refusal) last e ends = absurd ends
  at_the_end number (cut n) last e ends = absurd (cc e)

  module _ {D E : Type 0} (language : Language D T E) (Reads : ReadsSections S) (bytes : List ℕ)
      (are_bytes : AreBytes bytes) (trees : List Tree) (encoded : EncodeAll a.limit bytes trees [])
      (good : AreGood 0 trees) (many : length trees ≡ length a.sections) (all : Replies)
      (s : OutputsAll (verifying language Reads ShownBy) a (whole bytes) all) where
    -- Each value has an output, and the reply at the end of the input has no output.
    abbrev pub AreTaken : Type 0
    AreTaken = AreOutput ShownBy a 0 trees all.output × (all.last ≡ outputs nothing_output)

    abbrev Last : Type 0
    Last = IsLast (verifying language Reads ShownBy) a s.items s.rest at_end all.last

    module _ (others : List Tree) (items : s.items ≡ items_of others)
        (first : EncodeAll a.limit bytes others s.rest)
        (output : AreOutput ShownBy a 0 others all.output) where
      number : length s.items ≡ length others
      number = ap length items ∙ items_length others

      rest_bytes : AreBytes s.rest
      rest_bytes = encode_bytes a.limit bytes s.rest others first are_bytes

      ended : others ≡ trees → s.rest ≡ [] → Last → AreTaken
      ended same none (inl (exit, inl c, fine, is)) =
          absurd (none_encoded a.limit s.rest c.tree [] c.more none c.encoded)
      ended same none (inl (exit, inr r, fine, is)) =
          let one = end_once a.limit s.rest rest_bytes clean (refused r.refusal) none r.tail in
          absurd (cc one)
      ended same none (inr (on, (end, tail, ends))) = (
        subst (λ trees. AreOutput ShownBy a 0 trees all.output) same output,
        at_the_end (length s.items) end all.last
            (end_once a.limit s.rest rest_bytes clean end none tail) ends
            ∙ no_section_left (length s.items) (number ∙ (ap length same ∙ many)),
      )

      comes : ComesGood (length s.items) s.rest → Last → AreTaken
      comes next (inl (exit, inl c, fine, is)) =
          let same = (value_once a.limit s.rest rest_bytes c.tree next.tree c.more next.more
          c.encoded next.encoded).0 in
          absurd (next.good c.reason
          (subst (λ t. IsUncertified ShownBy a (length s.items) t c.reason) same c.uncertified))
      comes next (inl (exit, inr r, fine, is)) =
          absurd (no_tail a.limit s.rest rest_bytes next.tree next.more (refused r.refusal)
          next.encoded r.tail)
      comes next (inr (on, closes)) =
          absurd (on.no_item (value next.tree) next.more
          (record { tree = next.tree; is = refl; encoded = next.encoded }))

      by : ((others ≡ trees) × (s.rest ≡ [])) ⊎ ComesGood (length s.items) s.rest → AreTaken
      by (inl (same, none)) = ended same none s.last
      by (inr next) = comes next s.last

      taken : AreTaken
      taken =
          by (prefix bytes are_bytes 0 (length s.items) trees others s.rest (omega (arith, number))
          encoded first good)

    pub all_taken : AreTaken
    all_taken =
        let first = print_first ShownBy a language Reads bytes s.items all.output s.rest s.first in
        taken first.0 first.1 first.2 first.3
