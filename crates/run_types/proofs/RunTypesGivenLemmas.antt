-- A parsed type is sound over well-formed declarations, so a value of the type has each closed
-- instance of the type.
use Rattle.std.proofs.Common.{ℕ, Bool, false, List, Ok, Err, refl, sym, subst}
use Rattle.base_data.specs.declared.model.value.Val.{Val}
use Rattle.base_data.specs.declared.model.value.Obj.{Obj}
use Rattle.types_spec.specs.declared.types.decl.Decl.{Decl}
use Rattle.types_spec.specs.declared.types.fault.Fault.{Fault}
use Rattle.types_spec.specs.types.Ty.{Ty}
use Rattle.types_spec.specs.types.WellFormed.{AreWellFormed, IsSoundType}
use Rattle.types_spec.specs.types.Equal.{declared_shapes}
use Rattle.types_spec.specs.types.Fault.{IsFault}
use Rattle.types_spec.specs.types.Scope.{Rule, KeepsAll, BreaksInFile, BreaksInType}
use Rattle.types_spec.specs.types.Typing.{HasType}
use Rattle.types_theory.specs.type_variables.TypeVariables.{HasEachInstance}
use Rattle.types_theory.proofs.type_variables.VariableStandLemmas.{stands_for_all, faults_are_of_instances}
use Rattle.types_table.specs.type_table.Made.{types_of}
use Rattle.types_resolve.specs.occurrences.InFile.{file_positions}
use Rattle.types_resolve.specs.occurrences.InText.{in_texpr}
use Rattle.types_parse.specs.grammar.Grammar.{Kinds, file_kinds, texpr}
use Rattle.types_parse.specs.grammar.Depths.{file_ends, texpr_ends}
use Rattle.types_parse.specs.grammar.Refusals.{IsText, text_read, syntax_at, too_deep_at}
use Rattle.types_parse.specs.grammar.LexemeKinds.{kinds_of}
use Rattle.types_wellformed.specs.declarations.WellFormedLaws.{FilesAreWellFormed, TypesAreSound}
use Rattle.types_wellformed.specs.declarations.DeclarationAnswer.{accepted, IsAnswer}
use Rattle.types_wellformed.specs.declarations.Read.{IsDeclared, IsTypeOf}
use Rattle.types_wellformed.proofs.declarations.DeclarationFileLemmas.{files_well_formed}
use Rattle.types_wellformed.proofs.declarations.DeclarationSoundLemmas as sounds
use Rattle.run_types.specs.declared.requested.Prepared.{Prepared}
use Rattle.cli_spec.specs.Outcome.{AskedType, asked_type, asked_with}
use Rattle.run_types.specs.Language.{TypeOver, declared_types, ReachesWithinTable, IsAccepted}
use Rattle.run_types.specs.RequestedTexts.{IsReady}
use Rattle.run_spec.specs.runs.LawfulLanguage.{IsGiven}

-- ---- accepted texts

-- An accepted tree is the tree of some lexemes, and it breaks no rule.
module _ {Tree : Type 0} (encoded : Tree → Kinds) (ends : Tree → List ℕ) (Breaks : Tree → Rule → ℕ → Type 0) (text : List ℕ) (tree : Tree) where
  record IsKept : Type 0 where
    lexemes : Kinds
    reads : IsText encoded ends lexemes tree
    keeps : KeepsAll (Breaks tree)

  kept : IsAnswer encoded ends Breaks text (accepted tree) → IsKept
  kept (Err fault, lexes, other) = absurd (cc other)
  kept (Ok lexemes, lexes, (syntax_at k, is, other)) = absurd (cc other)
  kept (Ok lexemes, lexes, (too_deep_at k, is, other)) = absurd (cc other)
  kept (Ok lexemes, lexes, (text_read own, is, (same, keeps))) = record {
    lexemes = kinds_of lexemes;
    reads = subst (IsText encoded ends (kinds_of lexemes)) same is;
    keeps = subst (λ t. KeepsAll (Breaks t)) same keeps;
  }

-- ---- parsed types

module _ (files_ok : FilesAreWellFormed) (types_sound : TypesAreSound) where
  -- Parsed declarations are well-formed, and parsed types over them are sound.
  decls_ok : (text : List ℕ) (decls : List Decl) → IsDeclared text decls → AreWellFormed decls
  decls_ok text decls d =
      let k = kept file_kinds file_ends (λ tree. BreaksInFile (file_positions tree)) text d.tree d.answer in
      subst AreWellFormed (sym d.stand) (files_ok k.lexemes d.tree k.reads k.keeps)

  type_sound : (decls : List Decl) (text : List ℕ) (t : Ty) → AreWellFormed decls → IsTypeOf decls text t → IsSoundType decls t
  type_sound decls text t ok is =
      let k = kept texpr texpr_ends (λ tree. BreaksInType decls (in_texpr 0 false tree)) text is.tree is.answer in
      subst (IsSoundType decls) (sym is.stands) (types_sound decls is.tree ok k.keeps)

  -- A parsed type is sound over well-formed declarations, and reaches few types.
  pub record IsSoundOver (t : TypeOver) : Type 0 where
    pub ok : AreWellFormed t.decls
    pub sound : IsSoundType t.decls t.type
    pub few : ReachesWithinTable t.decls t.type

  pub given_sound : (t : TypeOver) → IsGiven declared_types t → IsSoundOver t
  given_sound t (text, type, decls, declared, is) =
      let ok : AreWellFormed t.decls = subst AreWellFormed (sym is.over) (decls_ok text decls declared) in
      let written : IsTypeOf t.decls type.text t.type = subst (λ d. IsTypeOf d type.text t.type) (sym is.over) is.written in
      record { ok = ok; sound = type_sound t.decls type.text t.type ok written; few = subst (λ d. ReachesWithinTable d t.type) (sym is.over) is.few }

-- ---- instances

-- If a value has a parsed type, then it has each closed instance of the type.
pub given_each : (t : TypeOver) → IsGiven declared_types t → (graph : List Obj) (v : Val) → HasType (declared_shapes t.decls) graph v t.type → HasEachInstance t.decls graph v t.type
given_each t given graph v has =
    let s = given_sound files_well_formed sounds.types_sound t given in
    (stands_for_all t.decls t.type s.few.types s.ok s.sound s.few.reached graph v).0 has

module _ (r : Prepared) (ready : IsReady r) (graph : List Obj) (v : Val) where
  pub ready_each : HasType (declared_shapes r.decls) graph v r.ty → HasEachInstance r.decls graph v r.ty
  ready_each has = (stands_for_all r.decls r.ty (types_of r.table) ready.ok ready.sound ready.made.reached graph v).0 has

  -- If a value has a fault, then it does not have every closed instance of the type.
  pub ready_some_not : (fault : Fault) → IsFault (declared_shapes r.decls) graph v r.ty fault → HasEachInstance r.decls graph v r.ty → ⊥
  ready_some_not fault is each = faults_are_of_instances r.decls r.ty (types_of r.table) ready.ok ready.sound ready.made.reached graph v fault is each

-- ---- positions

-- The type with other settings for positions and decimals.
abbrev pub asked_at : TypeOver → (lines decimal : Bool) → TypeOver
asked_at t lines decimal = record { decls = t.decls; type = t.type; lines = lines; decimal = decimal }

pub accepted_at : (decls : List Decl) (asked : AskedType) (t : TypeOver) (lines decimal : Bool) → IsAccepted decls asked t
    → IsAccepted decls (asked_with asked.text lines decimal) (asked_at t lines decimal)
accepted_at decls asked t lines decimal a = record { over = a.over; written = a.written; few = a.few; lined = refl; decimaled = refl }

-- The type without decimals, with another setting for positions.
abbrev pub lined : TypeOver → Bool → TypeOver
lined t lines = asked_at t lines false

pub accepted_lined : (decls : List Decl) (asked : AskedType) (t : TypeOver) (lines : Bool) → IsAccepted decls asked t → IsAccepted decls (asked_type asked.text lines) (lined t lines)
accepted_lined decls asked t lines a = accepted_at decls asked t lines false a
