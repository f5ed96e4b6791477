use Rattle.std.specs.Prelude.{List, Contains}
use Rattle.base_data.specs.declared.model.value.Val.{Val}
use Rattle.base_data.specs.declared.model.value.Obj.{Obj}
use Rattle.types_spec.specs.declared.types.decl.Decl.{Decl}
use Rattle.types_spec.specs.declared.types.fault.Fault.{Fault}
use Rattle.types_spec.specs.types.WellFormed.{AreWellFormed, IsSoundType}
use Rattle.types_spec.specs.types.Fault.{IsFault}
use Rattle.types_spec.specs.types.Reached.{IsReached}
use Rattle.types_spec.specs.types.Ty.{Ty}
use Rattle.types_spec.specs.types.Typing.{HasType}
use Rattle.types_spec.specs.types.Equal.{Equal, declared_shapes}
use Rattle.types_spec.specs.types.Names.{names_of}
use Rattle.types_spec.specs.types.Shape.{shape}
use Rattle.types_spec.proofs.types.TypeFaultLemmas.{fault_excludes_type}
use Rattle.types_theory.proofs.equality.EqualityLawfulLemmas.{reached_lawful}
use Rattle.types_theory.proofs.equality.EqualityReachedLemmas.{root_listed}
use Rattle.types_theory.proofs.equality.EqualitySoundLemmas.{known_by_hash}
use Rattle.edit_values.proofs.ApplyLemmas.{once}
use Rattle.edit_values.proofs.EditLineLemmas.{edited_once}
use Rattle.edit_values.proofs.EditMadeLemmas.{answer_once}
use Rattle.edit_values.proofs.laws.edits_have_one_answer.Goals as goal

never_both : (decls : List Decl) (t : Ty) (types : List Ty) → AreWellFormed decls → IsSoundType decls t → IsReached decls t types
    → (graph : List Obj) (v : Val) (fault : Fault) → IsFault (declared_shapes decls) graph v t fault → HasType (declared_shapes decls) graph v t → ⊥
never_both decls t types well sound reached graph v fault =
    fault_excludes_type (declared_shapes decls) (λ u. Contains types u)
    (reached_lawful decls well.sound t types reached (known_by_hash decls well t sound types reached))
    graph v t fault (root_listed decls t types reached)

pub returns : goal.returns
returns c = record {
  by_numbers = λ table lawful edit graph root. once table lawful edit graph root;
  by_types = λ decls t types well sound reached edit graph root.
      answer_once (shape decls) (names_of decls) (Equal decls) t (never_both decls t types well sound reached) edit graph root;
  in_order = λ decls t types well sound reached others lines graph root.
      edited_once (shape decls) (names_of decls) (Equal decls) t others (never_both decls t types well sound reached) lines graph root;
}
