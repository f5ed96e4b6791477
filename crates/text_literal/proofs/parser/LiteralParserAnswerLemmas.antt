-- Lexemes have exactly one answer at a type: the answer of their literal, or their syntax error.
use Rattle.std.proofs.Common.{refl, sym, ap, ◌∙◌, subst, ⊎_elim}
use Rattle.std.specs.Prelude.{ℕ, suc, ◌+◌, ◌≡◌, Bool, true, false, if◌then◌else◌, Option, Some, None, Result, Ok, Err, List, [], ◌∷◌, ◌++◌, length, slice_get}
use Rattle.base_data.specs.declared.model.value.Val.{Val}
use Rattle.base_data.specs.declared.model.value.Obj.{Obj}
use Rattle.types_lex.specs.declared.lexeme.Lexeme.{Lexeme}
use Rattle.types_table.specs.declared.type_table.tabled.Tabled.{Tabled}
use Rattle.types_spec.specs.declared.types.names.Names.{Names}
use Rattle.types_spec.specs.declared.types.shape.ShapeOf.{ShapeOf}
use Rattle.types_parse.specs.grammar.Refusals.{IsSyntax}
use Rattle.types_parse.proofs.grammar.LawLemmas.{one_tree, text_or_syntax, no_syntax}
use Rattle.text_literal.specs.literal_grammar.Literal.{Literal, labelled, again, label_kinds, literal_kinds}
use Rattle.types_parse.specs.grammar.LexemeKinds.{kinds_of}
use Rattle.text_literal.proofs.literal_grammar.LiteralTable.{literal_table}
use Rattle.text_literal.specs.declared.parser.literal_fault.LiteralFault.{LiteralFault}
use Rattle.text_literal.specs.declared.parser.literal_fault.LiteralFault.TheVariants as faults
use Rattle.text_literal.specs.parser.Starts.{Start, mismatch, out_of_range, small, whole, block, start_at}
use Rattle.text_literal.specs.parser.LiteralReading.{LiteralReading, LiteralRefusal, mismatch_at, int_range_at, label_at, reading, is_next, again_read, small_read, block_read, begun, literal_read, inside}
use Rattle.text_literal.specs.parser.LiteralAnswers.{byte_of, in_bytes, fault_of, shape_in, names_in, IsValue, IsMisread, IsAnswer, HasOneAnswer}

-- If lexemes are a literal, then the lexemes have no syntax error.
pub literal_excludes : (lexemes : List Lexeme) (v : Literal) (k : ℕ) → literal_kinds v ≡ kinds_of lexemes
    → IsSyntax literal_kinds (kinds_of lexemes) k → ⊥
literal_excludes lexemes v k encoded s = no_syntax literal_table v k (subst (λ all. IsSyntax literal_kinds all k) (sym encoded) s)

-- ---- the value of a literal is unique

abbrev pub HasOneValue : {T : Type 0} → Result LiteralReading (LiteralRefusal T) → Type 0
HasOneValue (Err refusal) = Unit {0}
HasOneValue (Ok r) = (v : Val) × (r.values ≡ v ∷ [])

again_one : (T : Type 0) (k : ℕ) (labels : List ℕ) (o : Option ℕ) → HasOneValue (again_read {T = T} k labels o)
again_one T k labels None = tt
again_one T k labels (Some o) = (_, refl)

small_one : (T : Type 0) (k : ℕ) (labels : List ℕ) (v : Val) (l : Option ℕ) → HasOneValue (small_read {T = T} k labels v l)
small_one T k labels v None = (v, refl)
small_one T k labels v (Some n) = tt

block_one : (T : Type 0) (c tag : ℕ) (prefix : List Val) (parts : Result LiteralReading (LiteralRefusal T)) → HasOneValue (block_read c tag prefix parts)
block_one T c tag prefix (Err refusal) = tt
block_one T c tag prefix (Ok parts) = (_, refl)

begun_one :
    (T : Type 0) (k p c : ℕ) (labels : List ℕ) (l : Option ℕ) (t : T) (parts : List ℕ → (ℕ → T) → Result LiteralReading (LiteralRefusal T)) (start : Start T)
    → HasOneValue (begun k p c labels l t parts start)
begun_one T k p c labels l t parts mismatch = tt
begun_one T k p c labels l t parts out_of_range = tt
begun_one T k p c labels l t parts (small v) = small_one T k labels v l
begun_one T k p c labels l t parts (whole object) = (_, refl)
begun_one T k p c labels l t parts (block tag prefix types) = block_one T c tag prefix _

if_one : (T : Type 0) (b : Bool) (k : ℕ) (all : Result LiteralReading (LiteralRefusal T)) → HasOneValue all → HasOneValue (if b then all else Err (label_at k))
if_one T true k all one = one
if_one T false k all one = tt

module _ {T : Type 0} (shape : T → ShapeOf T) (names : T → Names) where
  pub literal_one : (k : ℕ) (v : Literal) (c : ℕ) (labels : List ℕ) (t : T) → HasOneValue (literal_read shape names k v c labels t)
  literal_one k (again n) c labels t = again_one T k labels (slice_get labels n)
  literal_one k (labelled l p) c labels t = if_one T (is_next labels l) k _
      (begun_one T k (k + length (label_kinds l)) c labels l t (inside shape names (k + length (label_kinds l)) p (suc c)) (start_at t (shape t) (names t) p))

-- ---- answers for a literal

abbrev pub with_objects : List Obj → List Obj → List Val → Result (List Obj × Val) LiteralFault
with_objects old objects [] = Err faults.Memory
with_objects old objects (v ∷ vs) = Ok (old ++ objects, v)

abbrev pub stated : List Lexeme → ℕ → List Obj → Result LiteralReading (LiteralRefusal ℕ) → Result (List Obj × Val) LiteralFault
stated lexemes end old (Err refusal) = Err (fault_of (in_bytes lexemes end refusal))
stated lexemes end old (Ok r) = with_objects old r.objects r.values

module _ (table : Tabled) (at : ℕ) (lexemes : List Lexeme) (end : ℕ) (old : List Obj) where
  abbrev pub reading_of : Literal → Result LiteralReading (LiteralRefusal ℕ)
  reading_of v = literal_read (shape_in table) (names_in table) 0 v (length old) [] at

  -- If the reading of a literal fails, then the fault of the reading is an answer.
  is_fault : (v : Literal) (refusal : LiteralRefusal ℕ) → literal_kinds v ≡ kinds_of lexemes → reading_of v ≡ Err refusal
      → IsAnswer table at lexemes end old (Err (fault_of (in_bytes lexemes end refusal)))
  is_fault v (mismatch_at k t) encoded e = record { literal = v; refusal = mismatch_at k t; encoded = encoded; refused = e; is = refl }
  is_fault v (int_range_at k) encoded e = record { literal = v; refusal = int_range_at k; encoded = encoded; refused = e; is = refl }
  is_fault v (label_at k) encoded e = record { literal = v; refusal = label_at k; encoded = encoded; refused = e; is = refl }

  stated_answers : (v : Literal) → literal_kinds v ≡ kinds_of lexemes → (r : Result LiteralReading (LiteralRefusal ℕ)) → reading_of v ≡ r → HasOneValue r
      → IsAnswer table at lexemes end old (stated lexemes end old r)
  stated_answers v encoded (Err refusal) e one = is_fault v refusal encoded e
  stated_answers v encoded (Ok r) e (value, single) =
      subst (λ all. IsAnswer table at lexemes end old (with_objects old r.objects all)) (sym single)
      (record {
        literal = v;
        objects = r.objects;
        encoded = encoded;
        read = record { labels = r.labels; read = e ∙ ap (λ all. Ok (reading all r.objects r.labels)) single };
        behind = refl;
      })

  -- If the lexemes of a literal are misread with a fault, then the fault is the literal's answer.
  misread_stated : (v : Literal) (fault : LiteralFault) → literal_kinds v ≡ kinds_of lexemes → IsMisread table at lexemes end (length old) fault
      → Err fault ≡ stated lexemes end old (reading_of v)
  misread_stated v fault encoded m =
      ap Err m.is ∙ ap (stated lexemes end old) (sym (subst (λ u. reading_of u ≡ Err m.refusal) (one_tree literal_table m.literal v (m.encoded ∙ sym encoded)) m.refused))

  value_stated : (v : Literal) (new : List Obj) (value : Val) → literal_kinds v ≡ kinds_of lexemes → IsValue table at lexemes old new value
      → Ok (new, value) ≡ stated lexemes end old (reading_of v)
  value_stated v new value encoded i =
      ap (λ all. Ok (all, value)) i.behind
      ∙ ap (stated lexemes end old) (sym (subst (λ u. reading_of u ≡ Ok (reading (value ∷ []) i.objects i.read.labels)) (one_tree literal_table i.literal v (i.encoded ∙ sym encoded)) i.read.read))

  other_stated : (v : Literal) → literal_kinds v ≡ kinds_of lexemes → (other : Result (List Obj × Val) LiteralFault)
      → IsAnswer table at lexemes end old other → other ≡ stated lexemes end old (reading_of v)
  other_stated v encoded (Ok (new, value)) a = value_stated v new value encoded a
  other_stated v encoded (Err (faults.Syntax position)) a = absurd (literal_excludes lexemes v a.lexeme encoded a.syntax)
  other_stated v encoded (Err (faults.Mismatch position t)) a = misread_stated v _ encoded a
  other_stated v encoded (Err (faults.IntRange position)) a = misread_stated v _ encoded a
  other_stated v encoded (Err (faults.Label position)) a = misread_stated v _ encoded a
  other_stated v encoded (Err faults.Memory) a = absurd a

  -- If the lexemes have a syntax error, then each answer is this syntax error.
  other_syntax : (k : ℕ) → ((j : ℕ) → IsSyntax literal_kinds (kinds_of lexemes) j → j ≡ k) → IsSyntax literal_kinds (kinds_of lexemes) k
      → (other : Result (List Obj × Val) LiteralFault) → IsAnswer table at lexemes end old other → other ≡ Err (faults.Syntax (byte_of lexemes end k))
  other_syntax k same s (Ok (new, value)) a = absurd (literal_excludes lexemes a.literal k a.encoded s)
  other_syntax k same s (Err (faults.Syntax position)) a = ap (λ p. Err (faults.Syntax p)) (a.is ∙ ap (byte_of lexemes end) (same a.lexeme a.syntax))
  other_syntax k same s (Err (faults.Mismatch position t)) a = absurd (literal_excludes lexemes a.literal k a.encoded s)
  other_syntax k same s (Err (faults.IntRange position)) a = absurd (literal_excludes lexemes a.literal k a.encoded s)
  other_syntax k same s (Err (faults.Label position)) a = absurd (literal_excludes lexemes a.literal k a.encoded s)
  other_syntax k same s (Err faults.Memory) a = absurd a

  pub one_answer : HasOneAnswer table at lexemes end old
  one_answer = ⊎_elim
      (λ (v, encoded). (stated lexemes end old (reading_of v), stated_answers v encoded (reading_of v) refl (literal_one (shape_in table) (names_in table) 0 v (length old) [] at), other_stated v encoded))
      (λ (k, s, same). (Err (faults.Syntax (byte_of lexemes end k)), record { lexeme = k; syntax = s; is = refl }, other_syntax k same s))
      (text_or_syntax literal_table (kinds_of lexemes))
