-- If the starts of literals agree at two types, then the readings of literals agree.
use Rattle.std.proofs.Common.{ℕ, suc, ◌+◌, List, [], ◌∷◌, ◌++◌, length, Bool, true, false, Option, Some, None, Result, Ok, Err, refl, ap, subst}
use Rattle.std.specs.Prelude.{slice_get, if◌then◌else◌}
use Rattle.base_data.specs.declared.model.value.Val.{Val}
use Rattle.base_data.specs.declared.model.value.Val.TheVariants as vals
use Rattle.base_data.specs.declared.model.value.Obj.{Obj}
use Rattle.base_data.specs.declared.model.value.Obj.TheVariants as objects
use Rattle.types_lex.specs.declared.lexeme.Symbol.{Symbol}
use Rattle.types_lex.specs.declared.lexeme.Symbol.TheVariants as symbols
use Rattle.types_spec.specs.declared.types.names.Names.{Names}
use Rattle.types_spec.specs.declared.types.shape.ShapeOf.{ShapeOf}
use Rattle.types_parse.specs.grammar.Grammar.{mark}
use Rattle.text_literal.specs.literal_grammar.Literal.{Literal, labelled, again, Plain, applied, fields, tuple, array, Parts, no_parts, more_parts, FieldRows, no_rows, more_rows, label_kinds, head_kinds, owner_kinds, row_start, literal_kinds, parts_kinds, rows_kinds}
use Rattle.text_literal.specs.parser.Starts.{Start, mismatch, out_of_range, small, whole, block, start_at}
use Rattle.text_literal.specs.table_agreement.TableAgreement.{ReadAgree}
use Rattle.text_literal.specs.parser.LiteralReading.{LiteralReading, LiteralRefusal, label_at, reading, is_next, with_label, again_read, small_read, added, and_next, block_read, begun, literal_read, inside, parts_read, rows_read}

module _ {T U : Type 0} (Of : T → U → Type 0) where
  pub data StartsAgree : Start T → Start U → Type 0 where
    same_mismatch : StartsAgree mismatch mismatch
    same_range : StartsAgree out_of_range out_of_range
    same_small : (v : Val) → StartsAgree (small v) (small v)
    same_whole : (object : Obj) → StartsAgree (whole object) (whole object)
    same_block : (tag : ℕ) (prefix : List Val) (types : ℕ → T) (others : ℕ → U) → ((i : ℕ) → Of (types i) (others i))
        → StartsAgree (block tag prefix types) (block tag prefix others)

  again_agree : (k : ℕ) (labels : List ℕ) (o : Option ℕ) → ReadAgree Of (again_read k labels o) (again_read k labels o)
  again_agree k labels None = refl
  again_agree k labels (Some o) = refl

  small_agree : (k : ℕ) (labels : List ℕ) (v : Val) (l : Option ℕ) → ReadAgree Of (small_read k labels v l) (small_read k labels v l)
  small_agree k labels v None = refl
  small_agree k labels v (Some n) = refl

  added_agree : (one : LiteralReading) (a : Result LiteralReading (LiteralRefusal T)) (b : Result LiteralReading (LiteralRefusal U)) → ReadAgree Of a b → ReadAgree Of (added one a) (added one b)
  added_agree one (Ok r) (Ok s) same = ap (λ (r : LiteralReading). reading (one.values ++ r.values) (one.objects ++ r.objects) r.labels) same
  added_agree one (Err r) (Err s) same = same
  added_agree one (Ok r) (Err s) same = absurd same
  added_agree one (Err r) (Ok s) same = absurd same

  abbrev AllOf : (ℕ → T) → (ℕ → U) → Type 0
  AllOf types others = (i : ℕ) → Of (types i) (others i)

  abbrev NextAgree : (ℕ → List ℕ → T → Result LiteralReading (LiteralRefusal T)) → (ℕ → List ℕ → U → Result LiteralReading (LiteralRefusal U)) → Type 0
  NextAgree next other = (c : ℕ) (labels : List ℕ) (t : T) (u : U) → Of t u → ReadAgree Of (next c labels t) (other c labels u)

  next_agree : (c : ℕ) (types : ℕ → T) (others : ℕ → U) → AllOf types others → (a : Result LiteralReading (LiteralRefusal T)) (b : Result LiteralReading (LiteralRefusal U)) → ReadAgree Of a b
      → (next : ℕ → List ℕ → T → Result LiteralReading (LiteralRefusal T)) (other : ℕ → List ℕ → U → Result LiteralReading (LiteralRefusal U)) → NextAgree next other
      → ReadAgree Of (and_next c types a next) (and_next c others b other)
  next_agree c types others all (Ok r) (Ok s) same next other agree =
      subst (λ (s : LiteralReading). ReadAgree Of (and_next c types (Ok r) next) (and_next c others (Ok s) other)) same
      (added_agree r (next (c + length r.objects) r.labels (types (length r.values))) (other (c + length r.objects) r.labels (others (length r.values)))
      (agree (c + length r.objects) r.labels (types (length r.values)) (others (length r.values)) (all (length r.values))))
  next_agree c types others all (Err r) (Err s) same next other agree = same
  next_agree c types others all (Ok r) (Err s) same next other agree = absurd same
  next_agree c types others all (Err r) (Ok s) same next other agree = absurd same

  block_agree : (c tag : ℕ) (prefix : List Val) (a : Result LiteralReading (LiteralRefusal T)) (b : Result LiteralReading (LiteralRefusal U)) → ReadAgree Of a b
      → ReadAgree Of (block_read c tag prefix a) (block_read c tag prefix b)
  block_agree c tag prefix (Ok r) (Ok s) same =
      ap (λ (parts : LiteralReading). reading (vals.Ref c ∷ []) (objects.Block tag (prefix ++ parts.values) ∷ parts.objects) parts.labels) same
  block_agree c tag prefix (Err r) (Err s) same = same
  block_agree c tag prefix (Ok r) (Err s) same = absurd same
  block_agree c tag prefix (Err r) (Ok s) same = absurd same

  abbrev InsideAgree : (List ℕ → (ℕ → T) → Result LiteralReading (LiteralRefusal T)) → (List ℕ → (ℕ → U) → Result LiteralReading (LiteralRefusal U)) → Type 0
  InsideAgree one other = (labels : List ℕ) (types : ℕ → T) (others : ℕ → U) → AllOf types others → ReadAgree Of (one labels types) (other labels others)

  begun_agree : (k p c : ℕ) (labels : List ℕ) (l : Option ℕ) (t : T) (u : U) → Of t u
      → (one : List ℕ → (ℕ → T) → Result LiteralReading (LiteralRefusal T)) (other : List ℕ → (ℕ → U) → Result LiteralReading (LiteralRefusal U)) → InsideAgree one other
      → {s : Start T} {r : Start U} → StartsAgree s r → ReadAgree Of (begun k p c labels l t one s) (begun k p c labels l u other r)
  begun_agree k p c labels l t u of one other agree same_mismatch = (refl, of)
  begun_agree k p c labels l t u of one other agree same_range = refl
  begun_agree k p c labels l t u of one other agree (same_small v) = small_agree k labels v l
  begun_agree k p c labels l t u of one other agree (same_whole object) = refl
  begun_agree k p c labels l t u of one other agree (same_block tag prefix types others all) =
      block_agree c tag prefix (one (with_label labels l c) types) (other (with_label labels l c) others) (agree (with_label labels l c) types others all)

  if_agree : (test : Bool) (k : ℕ) (a : Result LiteralReading (LiteralRefusal T)) (b : Result LiteralReading (LiteralRefusal U)) → ReadAgree Of a b
      → ReadAgree Of (if test then a else Err (label_at k)) (if test then b else Err (label_at k))
  if_agree true k a b same = same
  if_agree false k a b same = refl

  module _ (shape : T → ShapeOf T) (names : T → Names) (shape' : U → ShapeOf U) (names' : U → Names)
      (begin : (t : T) (u : U) → Of t u → (p : Plain) → StartsAgree (start_at t (shape t) (names t) p) (start_at u (shape' u) (names' u) p)) where
    mutual
      pub read_agree : (k : ℕ) (v : Literal) (c : ℕ) (labels : List ℕ) (t : T) (u : U) → Of t u
          → ReadAgree Of (literal_read shape names k v c labels t) (literal_read shape' names' k v c labels u)
      read_agree k (again n) c labels t u of = again_agree k labels (slice_get labels n)
      read_agree k (labelled l p) c labels t u of =
          let first = k + length (label_kinds l) in
          if_agree (is_next labels l) k
          (begun k first c labels l t (inside shape names first p (suc c)) (start_at t (shape t) (names t) p))
          (begun k first c labels l u (inside shape' names' first p (suc c)) (start_at u (shape' u) (names' u) p))
          (begun_agree k first c labels l t u of (inside shape names first p (suc c)) (inside shape' names' first p (suc c))
          (λ ls types others all. inside_agree first p (suc c) ls types others all) (begin t u of p))

      inside_agree : (k : ℕ) (p : Plain) (c : ℕ) (labels : List ℕ) (types : ℕ → T) (others : ℕ → U) → AllOf types others
          → ReadAgree Of (inside shape names k p c labels types) (inside shape' names' k p c labels others)
      inside_agree k (applied h ps v) c labels types others all =
          let first = k + length (head_kinds h ++ mark symbols.OpenParen) in
          let last = k + length (head_kinds h ++ mark symbols.OpenParen ++ parts_kinds symbols.Comma ps) in
          next_agree c types others all
          (parts_read shape names symbols.Comma first ps c labels types) (parts_read shape' names' symbols.Comma first ps c labels others)
          (parts_agree symbols.Comma first ps c labels types others all)
          (literal_read shape names last v) (literal_read shape' names' last v) (λ d ls t u of. read_agree last v d ls t u of)
      inside_agree k (fields o rs x v) c labels types others all =
          let first = k + length (owner_kinds o ++ mark symbols.OpenBrace) in
          let last = k + length (owner_kinds o ++ mark symbols.OpenBrace ++ rows_kinds rs ++ row_start x) in
          next_agree c types others all
          (rows_read shape names first rs c labels types) (rows_read shape' names' first rs c labels others)
          (rows_agree first rs c labels types others all)
          (literal_read shape names last v) (literal_read shape' names' last v) (λ d ls t u of. read_agree last v d ls t u of)
      inside_agree k (tuple ps a v) c labels types others all =
          let middle = k + 1 + length (parts_kinds symbols.Comma ps) in
          let last = k + 1 + length (parts_kinds symbols.Comma ps ++ literal_kinds a ++ mark symbols.Comma) in
          next_agree c types others all
          (and_next c types (parts_read shape names symbols.Comma (k + 1) ps c labels types) (literal_read shape names middle a))
          (and_next c others (parts_read shape' names' symbols.Comma (k + 1) ps c labels others) (literal_read shape' names' middle a))
          (next_agree c types others all
          (parts_read shape names symbols.Comma (k + 1) ps c labels types) (parts_read shape' names' symbols.Comma (k + 1) ps c labels others)
          (parts_agree symbols.Comma (k + 1) ps c labels types others all)
          (literal_read shape names middle a) (literal_read shape' names' middle a) (λ d ls t u of. read_agree middle a d ls t u of))
          (literal_read shape names last v) (literal_read shape' names' last v) (λ d ls t u of. read_agree last v d ls t u of)
      inside_agree k (array ps v) c labels types others all =
          let last = k + 1 + length (parts_kinds symbols.Semicolon ps) in
          next_agree c types others all
          (parts_read shape names symbols.Semicolon (k + 1) ps c labels types) (parts_read shape' names' symbols.Semicolon (k + 1) ps c labels others)
          (parts_agree symbols.Semicolon (k + 1) ps c labels types others all)
          (literal_read shape names last v) (literal_read shape' names' last v) (λ d ls t u of. read_agree last v d ls t u of)
      inside_agree k p c labels types others all = refl

      parts_agree : (separator : Symbol) (k : ℕ) (ps : Parts) (c : ℕ) (labels : List ℕ) (types : ℕ → T) (others : ℕ → U) → AllOf types others
          → ReadAgree Of (parts_read shape names separator k ps c labels types) (parts_read shape' names' separator k ps c labels others)
      parts_agree separator k no_parts c labels types others all = refl
      parts_agree separator k (more_parts ps v) c labels types others all =
          let last = k + length (parts_kinds separator ps) in
          next_agree c types others all
          (parts_read shape names separator k ps c labels types) (parts_read shape' names' separator k ps c labels others)
          (parts_agree separator k ps c labels types others all)
          (literal_read shape names last v) (literal_read shape' names' last v) (λ d ls t u of. read_agree last v d ls t u of)

      rows_agree : (k : ℕ) (rs : FieldRows) (c : ℕ) (labels : List ℕ) (types : ℕ → T) (others : ℕ → U) → AllOf types others
          → ReadAgree Of (rows_read shape names k rs c labels types) (rows_read shape' names' k rs c labels others)
      rows_agree k no_rows c labels types others all = refl
      rows_agree k (more_rows rs x v) c labels types others all =
          let last = k + length (rows_kinds rs ++ row_start x) in
          next_agree c types others all
          (rows_read shape names k rs c labels types) (rows_read shape' names' k rs c labels others)
          (rows_agree k rs c labels types others all)
          (literal_read shape names last v) (literal_read shape' names' last v) (λ d ls t u of. read_agree last v d ls t u of)
