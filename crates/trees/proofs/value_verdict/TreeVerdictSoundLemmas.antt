-- The meaning of the verdict `sound`.
use Rattle.std.proofs.Common.{List, refl}
use Rattle.std.specs.Prelude.{◌↔◌, IsTrue}
use Rattle.std.proofs.lemmas.Bool.{false≢true}
use Rattle.base_data.specs.declared.model.value.Val.{Val}
use Rattle.base_data.specs.declared.model.value.Obj.{Obj}
use Rattle.types_spec.specs.declared.types.names.Names.{Names}
use Rattle.types_spec.specs.declared.types.shape.ShapeOf.{ShapeOf}
use Rattle.trees.specs.declared.search_trees.tree_verdict.TreeVerdict.{TreeVerdict}
use Rattle.trees.specs.declared.search_trees.tree_verdict.TreeVerdict.TheVariants.{Sound, Faulty}
use Rattle.trees.specs.search_trees.TreeFault.{HasNoTreeFault}
use Rattle.trees.specs.search_trees.TreeVerdict.{IsTreeVerdict}
use Rattle.trees.specs.value_verdict.TreeVerdictText.{is_sound}

module _ {T : Type 0} (shape : T → ShapeOf T) (names : T → Names) (Equal : T → T → Type 0)
    (graph : List Obj) (root : Val) (t : T) (Holds : Type 0)
    (same : HasNoTreeFault shape names Equal graph root t ↔ Holds) where
  pub sound_reports : (verdict : TreeVerdict)
      → IsTreeVerdict shape names Equal graph root t verdict
      → IsTrue (is_sound verdict) ↔ Holds
  sound_reports (Sound n) known = (λ yes. same.0 known.0, λ holds. refl)
  sound_reports (Faulty kind path) known = (
    λ no. absurd (false≢true no),
    λ holds. absurd (same.1 holds kind path known.0),
  )
