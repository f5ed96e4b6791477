use Rattle.std.specs.Prelude.{◌++◌, ℕ, pos, negsuc, ◌≡◌, false, List, [], ◌∷◌, Option, Some, None}
use Rattle.std.specs.Prelude.{codes}
use Rattle.base_data.specs.declared.model.value.Val.{Val}
use Rattle.base_data.specs.declared.model.value.Val.TheVariants.{Int, Atom, Ref}
use Rattle.base_data.specs.declared.model.value.Obj.{Obj}
use Rattle.base_data.specs.declared.model.value.Obj.TheVariants.{Block, Bytes, Double, Doubles, I32}
use Rattle.base_data.specs.declared.model.value.Obj.TheVariants.{I64}
use Rattle.base_data.specs.declared.model.value.Obj.TheVariants.{Native}
use Rattle.types_spec.specs.declared.types.decl.Field.{Field}
use Rattle.types_spec.specs.declared.types.decl.Arguments.TheVariants as arguments
use Rattle.types_spec.specs.declared.types.decl.Body.TheVariants as bodies
use Rattle.types_spec.specs.declared.types.decl.Decl.{Decl}
use Rattle.types_spec.specs.types.Ty.{Ty, named, tuple, bracket, part, tag, tag_of}
use Rattle.types_spec.specs.types.Shape.{shape}
use Rattle.types_spec.specs.types.Names.{names_of}
use Rattle.text_print.specs.show.ShownValues.{shown_text, shown_at}
use Rattle.text_print.specs.show.DumpedGraph.{dump_text}

abbrev pub one : List ℕ → Ty → Ty
one name t = part (named name) t

abbrev pub int : Ty
int = named (codes "int")

abbrev pub pair : Ty → Ty → Ty
pair t u = part (part tuple t) u

abbrev pub field : List ℕ → Ty → Field
field name t = record { name = name; mutable = false; ty = t }

abbrev pub decls : List Decl
decls =
    record {
      name = codes "r";
      parameters = [];
      body = bodies.Record
          (field (codes "x") (named (codes "float"))
          ∷ field (codes "y") (named (codes "float")) ∷ []);
      group = 0;
    }
    ∷ record {
      name = codes "p";
      parameters = codes "a" ∷ [];
      body = bodies.Variant (
          record { name = codes "A"; arguments = arguments.Constant }
          ∷ record {
            name = codes "B";
            arguments = arguments.Inline
                (field (codes "x") int ∷ field (codes "y") (named (codes "string")) ∷ []);
          }
          ∷ record
          { name = codes "C"; arguments = arguments.Listed (int ∷ named (codes "bool") ∷ []) }
          ∷ []);
      group = 1;
    }
    ∷ record {
      name = codes "q";
      parameters = [];
      body = bodies.Record
          (field (codes "u") (named (codes "unit")) ∷ field (codes "v") int ∷ []);
      group = 2;
    }
    ∷ []

abbrev pub shows : List Obj → Val → Ty → List ℕ
shows graph v t = shown_text (shape decls) (names_of decls) graph v t

abbrev pub gets : List Obj → Val → Ty → List ℕ → Option (List ℕ)
gets graph v t path = shown_at (shape decls) (names_of decls) graph ◌≡◌ v t path

abbrev pub numbers : List Obj
numbers = Block 0 (Int (pos 1) ∷ Ref 1 ∷ []) ∷ Block 0 (Int (pos 2) ∷ Int (pos 0) ∷ []) ∷ []

pub record WorkedTextRows : Type 0 where
  pub cyclic : shows (Block 0 (Int (pos 1) ∷ Ref 0 ∷ []) ∷ []) (Ref 0) (one (codes "list") int)
      ≡ codes "#0=::(1, #0)"
  pub shared : shows (Block 0 (Ref 1 ∷ Ref 1 ∷ []) ∷ Block 0 (Int (pos 0) ∷ []) ∷ []) (Ref 0)
      (pair (one (codes "ref") int) (one (codes "ref") int))
      ≡ codes "(#0=ref(0), #0)"
  pub float : shows (Double 4607182418800017408 ∷ []) (Ref 0) (named (codes "float"))
      ≡ codes "$3ff0000000000000"
  pub flat : shows (Doubles (4607182418800017408 ∷ 4611686018427387904 ∷ []) ∷ []) (Ref 0)
      (named (codes "r"))
      ≡ codes "{x = $3ff0000000000000; y = $4000000000000000}"
  pub floats : shows (Doubles (4607182418800017408 ∷ 0 ∷ []) ∷ []) (Ref 0)
      (one (codes "array") (named (codes "float")))
      ≡ codes "[|$3ff0000000000000; $0000000000000000|]"
  pub int32 : shows (I32 (negsuc 4) ∷ []) (Ref 0) (named (codes "int32")) ≡ codes "-5l"
  pub int64 : shows (I64 (pos 5) ∷ []) (Ref 0) (named (codes "int64")) ≡ codes "5L"
  pub native : shows (Native (pos 5) ∷ []) (Ref 0) (named (codes "nativeint")) ≡ codes "5n"
  pub bare : shows [] (Int (pos 17727)) (tag (tag bracket (codes "Off")) (codes "On")) ≡ codes "`On"
  pub negative : shows [] (Int (negsuc 866639115)) (tag bracket (codes "some")) ≡ codes "`some"
  pub carrying : shows (Block 0 (Int (pos 17727) ∷ Int (pos 3) ∷ []) ∷ []) (Ref 0)
      (tag_of bracket (codes "On") int)
      ≡ codes "`On(3)"
  pub char : shows [] (Int (pos 97)) (named (codes "char")) ≡ codes "'a'"
  pub bytes : shows (Bytes (10 ∷ 34 ∷ 92 ∷ 255 ∷ []) ∷ []) (Ref 0) (named (codes "bytes"))
      ≡ codes "\"\\n\\\"\\\\\\255\""
  -- A hidden part has no label. An object is shown where its type is not a wildcard.
  pub wildcard : shows (Block 0 (Ref 1 ∷ Ref 1 ∷ []) ∷ Block 0 (Int (pos 0) ∷ []) ∷ []) (Ref 0)
      (pair (named (codes "_")) (one (codes "ref") int))
      ≡ codes "(_, ref(0))"
  pub all_wildcard : shows (Block 7 (Ref 0 ∷ []) ∷ []) (Ref 0) (named (codes "_")) ≡ codes "_"
  pub wildcard_array : shows (Block 0 (Int (pos 1) ∷ Ref 0 ∷ []) ∷ []) (Ref 0)
      (one (codes "array") (named (codes "_")))
      ≡ codes "[|_; _|]"
  pub wildcard_doubles : shows (Doubles (0 ∷ 0 ∷ []) ∷ []) (Ref 0)
      (one (codes "array") (named (codes "_")))
      ≡ codes "[|_; _|]"
  pub wildcard_part : gets (Block 0 (Int (pos 1) ∷ Int (pos 2) ∷ []) ∷ []) (Ref 0)
      (pair int (named (codes "_"))) (1 ∷ []) ≡ None
  pub second : gets numbers (Ref 0) (one (codes "list") int) (1 ∷ 0 ∷ []) ≡ Some (codes "2")
  pub rest : gets numbers (Ref 0) (one (codes "list") int) (1 ∷ []) ≡ Some (codes "::(2, [])")
  pub nowhere : gets numbers (Ref 0) (one (codes "list") int) (1 ∷ 1 ∷ 0 ∷ []) ≡ None
  pub constant : shows [] (Int (pos 0)) (one (codes "p") int) ≡ codes "A"
  pub inline : shows (Block 0 (Int (pos 1) ∷ Ref 1 ∷ []) ∷ Bytes (97 ∷ []) ∷ []) (Ref 0)
      (one (codes "p") int)
      ≡ codes "B{x = 1; y = \"a\"}"
  pub two : shows (Block 1 (Int (pos 1) ∷ Int (pos 1) ∷ []) ∷ []) (Ref 0) (one (codes "p") int)
      ≡ codes "C(1, true)"
  pub fields : shows (Block 0 (Int (pos 0) ∷ Int (negsuc 6) ∷ []) ∷ []) (Ref 0) (named (codes "q"))
      ≡ codes "{u = (); v = -7}"
  pub array : shows (Block 0 (Int (pos 4) ∷ Int (pos 5) ∷ []) ∷ []) (Ref 0)
      (one (codes "array") int)
      ≡ codes "[|4; 5|]"
  pub empty : shows [] (Atom 0) (one (codes "array") int) ≡ codes "[||]"
  pub option : shows (Block 0 (Int (pos 4) ∷ []) ∷ []) (Ref 0) (one (codes "option") int)
      ≡ codes "Some(4)"
  -- Labels are numbered by first occurrences. An object that occurs once has no label.
  pub labels : shows
      (Block 0 (Ref 1 ∷ Ref 2 ∷ Ref 3 ∷ Ref 3 ∷ Ref 1 ∷ []) ∷ Bytes [] ∷ Bytes (98 ∷ [])
      ∷ Bytes (99 ∷ []) ∷ [])
      (Ref 0) (one (codes "array") (named (codes "string")))
      ≡ codes "[|#0=\"\"; \"b\"; #1=\"c\"; #1; #0|]"
  pub dumped : dump_text (Block 0 (Ref 1 ∷ Ref 1 ∷ []) ∷ Block 0 (Int (pos 0) ∷ []) ∷ []) (Ref 0)
      ≡ codes "root #0\n#0 block 0: #1 #1\n#1 block 0: 0\n"
  pub all_kinds :
      dump_text (Block 7 (Atom 3 ∷ Int (negsuc 0) ∷ []) ∷ Bytes (34 ∷ []) ∷ Double 1
      ∷ Doubles (2 ∷ 3 ∷ []) ∷ I32 (pos 4) ∷ I64 (pos 5) ∷ Native (negsuc 5) ∷ []) (Atom 0)
      ≡ codes "root @0\n#0 block 7: @3 -1\n#1 string \"\\\"\"\n#2 float $0000000000000001\n"
      ++ codes "#3 floats $0000000000000002 $0000000000000003\n#4 int32 4\n#5 int64 5\n"
      ++ codes "#6 nativeint -6\n"
