-- If the next item of a command is always a value, then the first values of the bytes are the first
-- items.
use Rattle.std.proofs.Common.{◌≡◌, ℕ, List, [], ◌∷◌, ◌++◌, refl, sym, ap, ◌∙◌, subst}
use Rattle.std.specs.Prelude.{◌↔◌}
use Rattle.marshal_spec.specs.format.Stream.{EncodeAll}
use Rattle.marshal_spec.specs.format.Tree.{Tree}
use Rattle.cli_spec.specs.Outcome.{Language}
use Rattle.run_spec.specs.runs.Commands.{Item, value, Commands, Split}
use Rattle.run_spec.specs.value_commands.Tasks.{items_of, IsFirstValue}

module _ {D T E A : Type 0} (language : Language D T E) (limit : ℕ) (c : Commands A) (a : A)
    (first : (items : List Item) (bytes : List ℕ) (item : Item) (more : List ℕ)
    → c.IsFirst a items bytes item more ↔ IsFirstValue language limit bytes item more) where
  pub split_of :
      (before : List Item) (bytes : List ℕ) (trees : List Tree) (rest : List ℕ)
      → EncodeAll limit bytes trees rest → Split c a before bytes (items_of trees) rest
  split_of before bytes [] rest same = same
  split_of before bytes (tree ∷ trees) rest (prefix, more, same, encoded, all) = (
    more,
    (first before bytes (value tree) more).1
        (record { tree = tree; is = refl; encoded = (prefix, more, same, encoded, refl) }),
    split_of (before ++ value tree ∷ []) more trees rest all,
  )

  pub encoded_of :
      (before : List Item) (bytes : List ℕ) (items : List Item) (rest : List ℕ)
      → Split c a before bytes items rest
      → (trees : List Tree) × (items ≡ items_of trees) × EncodeAll limit bytes trees rest
  encoded_of before bytes [] rest same = ([], refl, same)
  encoded_of before bytes (item ∷ items) rest (more, at, split) =
      let is = (first before bytes item more).0 at in
      let next = encoded_of (before ++ item ∷ []) more items rest split in
      let s = is.encoded in (
        is.tree ∷ next.0,
        ap (λ items. item ∷ items) next.1 ∙ ap (λ item. item ∷ items_of next.0) is.is,
        (s.0, s.1, s.2, s.3, subst (λ m. EncodeAll limit m next.0 rest) (sym s.4) next.2),
      )
