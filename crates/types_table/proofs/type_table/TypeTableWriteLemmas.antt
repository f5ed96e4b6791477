-- The text written and the texts that wait, step by step.
use Rattle.std.proofs.Common.{ℕ, ◌≡◌, ◌∙◌, List, [], ◌∷◌, ◌++◌, Bool, false}
use Rattle.std.proofs.Common.{Some, None, refl, ap, sym, Bor}
use Rattle.std.specs.Prelude.{codes, slice_get}
use Rattle.std.proofs.lemmas.List.{append_assoc, append-nil}
use Rattle.std.proofs.lemmas.Option.{none-some, get_or_from_slice_get}
use Rattle.types_spec.specs.types.Ty.{Ty, variable, named, tuple, bracket}
use Rattle.types_spec.specs.types.TypeNodes.{type_at, type_of_node}
use Rattle.types_spec.specs.types.TypeText.{word, product, brackets, is_product}
use Rattle.types_table.specs.declared.store.stored_node.TypeNode.{TypeNode}
use Rattle.types_table.specs.declared.store.stored_node.TypeNode.TheVariants as borrowed
use Rattle.types_table.specs.store.BorrowedNode.{written_of}
use Rattle.types_table.specs.declared.type_table.waiting.Waiting.{Waiting}
use Rattle.types_table.specs.type_table.PrintedTypes.{whole_of, stem, is_tuple, added_text, text_of_waiting, waiting_text, IsWritten}
use Rattle.types_table.proofs.type_table.TypeTableTextLemmas.{waiting_text-push}

-- ---- one step after another

module _ (types : List Ty) where
  -- Bytes are written first.
  pub write_first :
      (old mid new : List ℕ) (w w' : List Waiting) (before text : List ℕ) → mid ≡ old ++ before
      → IsWritten types mid new w w' text → IsWritten types old new w w' (before ++ text)
  write_first old mid new w w' before text first then =
      then ∙ ap (λ prefix. prefix ++ text ++ waiting_text types w) first
      ∙ ap (λ prefix. prefix ++ waiting_text types w) (append_assoc old before text)

  -- A text waits after it.
  pub wait_first :
      (old new : List ℕ) (w mid w' : List Waiting) (text after : List ℕ)
      → waiting_text types mid ≡ after ++ waiting_text types w → IsWritten types old new mid w' text
      → IsWritten types old new w w' (text ++ after)
  wait_first old new w mid w' text after first then =
      then ∙ ap (λ rest. old ++ text ++ rest) first
      ∙ sym (append_assoc (old ++ text) after (waiting_text types w))
      ∙ ap (λ prefix. prefix ++ waiting_text types w) (append_assoc old text after)

  -- Nothing is written, and one more text waits.
  pub only_wait :
      (old : List ℕ) (w w' : List Waiting) (text : List ℕ)
      → waiting_text types w' ≡ text ++ waiting_text types w → IsWritten types old old w w' text
  only_wait old w w' text is =
      ap (λ rest. old ++ rest) is ∙ sym (append_assoc old text (waiting_text types w))

  -- Nothing is written.
  pub write_nothing : (old : List ℕ) (w : List Waiting) → IsWritten types old old w w []
  write_nothing old w = ap (λ prefix. prefix ++ waiting_text types w) (sym (append-nil old))

  pub write_is :
      (old new : List ℕ) (w w' : List Waiting) (text other : List ℕ) → text ≡ other
      → IsWritten types old new w w' text → IsWritten types old new w w' other
  write_is old new w w' text other same write =
      write ∙ ap (λ t. old ++ t ++ waiting_text types w) same

  -- The item at the top of the stack is written.
  pub write_next :
      (old new : List ℕ) (all w w' : List Waiting) (next : Waiting) (text : List ℕ)
      → all ≡ w ++ next ∷ [] → IsWritten types old new w w' (text_of_waiting types next)
      → old ++ waiting_text types all ≡ text → new ++ waiting_text types w' ≡ text
  write_next old new all w w' next text is write before =
      write ∙ append_assoc old (text_of_waiting types next) (waiting_text types w)
      ∙ ap (λ rest. old ++ rest) (sym (ap (waiting_text types) is ∙ waiting_text-push types w next))
      ∙ before

  -- ---- nodes

  pub stem_is :
      (at number : ℕ) (t : Ty) → slice_get types at ≡ Some t
      → stem (type_at types at) ≡ stem (type_at types number)
      → stem (type_at types number) ≡ stem t
  stem_is at number t is same = sym same ∙ ap stem (get_or_from_slice_get types at t tuple is)

  -- A type without parts has one of four nodes.
  pub no_other :
      (at : ℕ) (node : TypeNode) → slice_get types at ≡ Some (type_of_node types (written_of node))
      → whole_of (type_at types at) ≡ None
      → ((name : Bor (List ℕ)) → node ≡ borrowed.Variable name → ⊥)
      → ((name : Bor (List ℕ)) → node ≡ borrowed.Named name → ⊥)
      → (node ≡ borrowed.Tuple → ⊥) → (node ≡ borrowed.Bracket → ⊥) → ⊥
  no_other at node is first = other node
      (ap whole_of (sym (get_or_from_slice_get types at (type_of_node types (written_of node)) tuple is))
      ∙ first) where
        other : (node : TypeNode) → whole_of (type_of_node types (written_of node)) ≡ None
            → ((name : Bor (List ℕ)) → node ≡ borrowed.Variable name → ⊥)
            → ((name : Bor (List ℕ)) → node ≡ borrowed.Named name → ⊥)
            → (node ≡ borrowed.Tuple → ⊥) → (node ≡ borrowed.Bracket → ⊥) → ⊥
        other (borrowed.Variable name) none as_variable as_named as_tuple as_bracket = as_variable name refl
        other (borrowed.Named name) none as_variable as_named as_tuple as_bracket = as_named name refl
        other borrowed.Tuple none as_variable as_named as_tuple as_bracket = as_tuple refl
        other borrowed.Bracket none as_variable as_named as_tuple as_bracket = as_bracket refl
        other (borrowed.Part whole added) none as_variable as_named as_tuple as_bracket =
            none-some (type_at types whole) (sym none)
        other (borrowed.Tag whole name) none as_variable as_named as_tuple as_bracket =
            none-some (type_at types whole) (sym none)
        other (borrowed.TagOf whole name argument) none as_variable as_named as_tuple as_bracket =
            none-some (type_at types whole) (sym none)
        other (borrowed.Including whole included) none as_variable as_named as_tuple as_bracket =
            none-some (type_at types whole) (sym none)

  -- If a type begins with another node, then it is no tuple.
  pub no_tuple :
      (at number : ℕ) (node : TypeNode)
      → slice_get types at ≡ Some (type_of_node types (written_of node))
      → whole_of (type_at types at) ≡ None
      → stem (type_at types at) ≡ stem (type_at types number)
      → (node ≡ borrowed.Tuple → ⊥) → false ≡ is_tuple (type_at types number)
  unfolding stem
  no_tuple at number node is first same never =
      sym (ap is_product (stem_is at number (type_of_node types (written_of node)) is same)
      ∙ other node (ap whole_of (sym (get_or_from_slice_get types at
      (type_of_node types (written_of node)) tuple is)) ∙ first) never) where
        other : (node : TypeNode) → whole_of (type_of_node types (written_of node)) ≡ None
            → (node ≡ borrowed.Tuple → ⊥) → is_tuple (type_of_node types (written_of node)) ≡ false
        other (borrowed.Variable name) none as_tuple = refl
        other (borrowed.Named name) none as_tuple = refl
        other borrowed.Tuple none as_tuple = absurd (as_tuple refl)
        other borrowed.Bracket none as_tuple = refl
        other (borrowed.Part whole added) none as_tuple =
            absurd (none-some (type_at types whole) (sym none))
        other (borrowed.Tag whole name) none as_tuple =
            absurd (none-some (type_at types whole) (sym none))
        other (borrowed.TagOf whole name argument) none as_tuple =
            absurd (none-some (type_at types whole) (sym none))
        other (borrowed.Including whole included) none as_tuple =
            absurd (none-some (type_at types whole) (sym none))

pub stem-variable : (name : List ℕ) → stem (variable name) ≡ word (codes "'" ++ name)
unfolding stem
stem-variable name = refl

pub stem-named : (name : List ℕ) → stem (named name) ≡ word name
unfolding stem
stem-named name = refl

pub stem-tuple : stem tuple ≡ product
unfolding stem
stem-tuple = refl

pub stem-bracket : stem bracket ≡ brackets
unfolding stem
stem-bracket = refl

-- If a node adds nothing, then its text is empty.
pub added_text-none :
    (types : List Ty) (asked : Bool) (node : TypeNode)
    → ((whole added : ℕ) → node ≡ borrowed.Part whole added → ⊥)
    → ((whole : ℕ) (name : Bor (List ℕ)) → node ≡ borrowed.Tag whole name → ⊥)
    → ((whole : ℕ) (name : Bor (List ℕ)) (argument : ℕ) → node ≡ borrowed.TagOf whole name argument → ⊥)
    → ((whole included : ℕ) → node ≡ borrowed.Including whole included → ⊥)
    → added_text asked (type_of_node types (written_of node)) ≡ []
added_text-none types asked (borrowed.Variable name) p t o i = refl
added_text-none types asked (borrowed.Named name) p t o i = refl
added_text-none types asked borrowed.Tuple p t o i = refl
added_text-none types asked borrowed.Bracket p t o i = refl
added_text-none types asked (borrowed.Part whole added) p t o i = absurd (p whole added refl)
added_text-none types asked (borrowed.Tag whole name) p t o i = absurd (t whole name refl)
added_text-none types asked (borrowed.TagOf whole name argument) p t o i =
    absurd (o whole name argument refl)
added_text-none types asked (borrowed.Including whole included) p t o i =
    absurd (i whole included refl)
