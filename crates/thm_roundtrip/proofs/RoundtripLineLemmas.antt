-- The text of a value at a parsed type is a line, and the canonical bytes of the value are built
-- from the line.
use Rattle.std.proofs.Common.{◌≡◌, ℕ, ◌<◌, ◌^◌, Bool, true, false, true≢false, List, [], length, refl, sym, subst, arith}
use Rattle.std.specs.Prelude.{if◌then◌else◌}
use Rattle.marshal_spec.specs.format.Canonical.{canon}
use Rattle.marshal_spec.specs.format.Encoded.{EncodedUnder}
use Rattle.marshal_spec.specs.format.Tree.{Tree, tokens, root, made, objects_of}
use Rattle.marshal_spec.proofs.format.EncodeValues.{bytes_of_tokens}
use Rattle.marshal_spec.proofs.canonical.CanonLemmas.{made-le}
use Rattle.marshal_spec.proofs.canonical.TreeGraphs.{own_tree}
use Rattle.types_spec.specs.types.WellFormed.{AreWellFormed, IsSoundType}
use Rattle.types_spec.specs.types.Equal.{declared_shapes}
use Rattle.types_spec.specs.types.Names.{names_of}
use Rattle.types_spec.specs.types.Reached.{NoneIsWildcard}
use Rattle.types_spec.specs.types.Shape.{shape}
use Rattle.types_spec.specs.types.Typing.{HasType}
use Rattle.types_theory.proofs.type_variables.VariableStandLemmas.{stands_for_all}
use Rattle.text_print.specs.show.ShownValues.{shown_text}
use Rattle.text_roundtrip.specs.readback.ReadBack.{IsReadBack}
use Rattle.text_roundtrip.specs.rebuild.Laws.{DeclaredTextsAreReadBack}
use Rattle.types_wellformed.specs.declarations.Read.{IsDeclared, IsTypeOf}
use Rattle.run_types.specs.Language.{TypeOver, ReachesWithinTable}
use Rattle.cmd_build.specs.spec.InputTexts.{IsUnbroken}
use Rattle.cmd_build.specs.command.InputLines.{IsMade, plain_if}
use Rattle.cmd_build.proofs.command.GuessLemmas.{lexemes_some}
use Rattle.text_decimal.specs.texts.PlainTexts.{decimals_from}
use Rattle.text_decimal.specs.texts.Texts.{decimal_text}
use Rattle.text_decimal.proofs.texts.DecimalTextFeedLemmas.{decimals_no_feed}
use Rattle.text_decimal.specs.decimal_readback.Laws.{StandsForIt}
use Rattle.text_decimal.proofs.decimal_readback.DecimalReadbackApartLemmas.{texts_are_read_back}

-- ---- an encoded value has few objects

few_objects : (limit : ℕ) (bytes : List ℕ) (tree : Tree) → EncodedUnder limit bytes tree
    → made tree < 2 ^ 63
few_objects limit bytes tree s =
    let long = bytes_of_tokens (tokens tree) s.chunks s.encodes.encodes in
    omega (arith, made-le tree s.encodes.is_tree, long, s.encodes.length, s.small)

-- ---- decimals

-- If a text has no line feed, then the printed text has none, with decimals or without.
stays_unbroken : (decimal : Bool) (text : List ℕ) → IsUnbroken text
    → IsUnbroken (if decimal then decimal_text text else text)
stays_unbroken true text h = decimals_no_feed text h
stays_unbroken false text h = h

-- If decimals are read or were not printed, then the plain text of the printed text is the text
-- itself.
same_plain : (write read : Bool) (text : List ℕ) → (write ≡ true → read ≡ true) → StandsForIt text
    → plain_if read (if write then decimal_text text else text) ≡ text
same_plain true true text reads stands = stands.decimals
same_plain true false text reads stands = absurd (true≢false (sym (reads refl)))
same_plain false true text reads stands = stands.plain
same_plain false false text reads stands = refl

-- The plain text of the empty text is empty.
pub none_plain : (decimal : Bool) → plain_if decimal [] ≡ []
unfolding decimals_from
none_plain true = refl
none_plain false = refl

-- ---- one line

-- The type is sound over well-formed declarations, and reaches few types.
pub record IsSoundOver (t : TypeOver) : Type 0 where
  pub ok : AreWellFormed t.decls
  pub sound : IsSoundType t.decls t.type
  pub few : ReachesWithinTable t.decls t.type

module _ (t : TypeOver) where
  -- The value of the tree has the type `t.type`.
  abbrev pub HasIt : Tree → Type 0
  HasIt tree = HasType (declared_shapes t.decls) (objects_of tree 0) (root tree 0) t.type

  abbrev pub text_of : Tree → List ℕ
  text_of tree =
      shown_text (shape t.decls) (names_of t.decls) (objects_of tree 0) (root tree 0) t.type

  -- The printed text of the tree's value, with decimals if `decimal` is true.
  abbrev pub shown_of : Bool → Tree → List ℕ
  shown_of decimal tree = if decimal then decimal_text (text_of tree) else text_of tree

  -- The printed text of the tree's value is one line, and the canonical bytes of the value are
  -- built from the line.
  pub record IsBuilt (decimal : Bool) (tree : Tree) : Type 0 where
    pub one_line : IsUnbroken (shown_of decimal tree)
    pub is_made : IsMade t (plain_if t.decimal (shown_of decimal tree)) (canon tree)

  module _ (read_back : DeclaredTextsAreReadBack) (contents type : List ℕ)
      (declared : IsDeclared contents t.decls) (written : IsTypeOf t.decls type t.type)
      (sound : IsSoundOver t) (none : NoneIsWildcard t.decls sound.few.types) where
    pub is_built : (decimal : Bool) → (decimal ≡ true → t.decimal ≡ true) → (limit : ℕ)
        → (bytes : List ℕ) (tree : Tree) → EncodedUnder limit bytes tree → HasIt tree
        → IsBuilt decimal tree
    is_built decimal reads limit bytes tree encoded has =
        let is_tree = encoded.encodes.is_tree in
        let back = encoded.encodes.refers_back in
        let few = few_objects limit bytes tree encoded in
        let b : IsReadBack (shape t.decls) (names_of t.decls) tree t.type (text_of tree) =
        read_back contents type t.decls t.type sound.few.types declared written sound.ok
        sound.sound sound.few.reached none tree is_tree back few has in
        let stands = texts_are_read_back t.decls tree t.type (text_of tree) b in
        let plain : IsMade t (text_of tree) (canon tree) = record {
          graph = objects_of tree 0;
          root = root tree 0;
          is_text = record {
            lexemes = b.lexemes;
            lexes = b.lexes;
            some = lexemes_some b.literal b.lexemes b.encoded;
            are = (b.literal, b.encoded, record { labels = b.labels; read = b.reads 0 });
          };
          has = has;
          each = (stands_for_all t.decls t.type sound.few.types sound.ok sound.sound
              sound.few.reached (objects_of tree 0) (root tree 0)).0 has;
          tree = tree;
          of = own_tree tree is_tree back;
          are = refl;
        } in
        record {
          one_line = stays_unbroken decimal (text_of tree) b.one_line;
          is_made =
              subst (λ text. IsMade t text (canon tree))
              (sym (same_plain decimal t.decimal (text_of tree) reads stands)) plain;
        }
