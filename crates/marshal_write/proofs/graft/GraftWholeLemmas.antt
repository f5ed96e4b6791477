-- If the objects of a value are appended blank and then filled, then the objects form a copy of the
-- value.
use Rattle.std.proofs.Common.{ℕ, ◌+◌, ◌≤◌, ◌≡◌, ◌∙◌, List, ◌++◌, length, take, length-append, sym, ap, ap₂, subst}
use Rattle.std.specs.Prelude.{All}
use Rattle.std.proofs.lemmas.List.{length-map, take_at}
use Rattle.base_data.specs.declared.model.value.Val.{Val}
use Rattle.base_data.specs.declared.model.value.Obj.{Obj}
use Rattle.base_data.specs.model.Graph.{IsValue}
use Rattle.marshal_heap.specs.heap.Heap.{object_at}
use Rattle.marshal_write.specs.graft.Copies.{IsCopy, HasCopy}
use Rattle.marshal_write.specs.graft.ObjectOrder.{IsOrder}
use Rattle.marshal_write.specs.graft.Renamed.{blank, blanks, renamed_value, renamed_object, renamed, IsMet, IsMetObject}
use Rattle.marshal_write.proofs.graft.GraftCopyLemmas.{has_copy}
use Rattle.marshal_write.proofs.graft.FillLemmas.{met_more, renamed_valid}
use Rattle.marshal_write.proofs.graft.GraftOrderLemmas.{order_met, order_top}
use Rattle.marshal_write.proofs.graft.RenameLemmas.{renamed_copy}

module _ (old blanked from : List Obj) (part : Val) (marks ks : List ℕ) (order : IsOrder from part marks ks) (base : ℕ) (at : base ≡ length old)
    (first : blanked ≡ old ++ blanks from ks) where
  many_blanked : length blanked ≡ base + length ks
  many_blanked =
      ap (λ (g : List Obj). length g) first ∙ length-append old (blanks from ks)
      ∙ ap₂ ◌+◌ (sym at) (length-map ks (λ k. blank (object_at from k)))

  prefix_is : take base blanked ≡ old
  prefix_is = ap (take base) first ∙ take_at old (blanks from ks) base (sym at)

  pub whole_met : All (IsMetObject from marks base (length blanked)) ks
  whole_met = subst (λ n. All (IsMetObject from marks base n) ks) (sym many_blanked) (order_met from part marks ks order base)

  module _ (new : List Obj) (second : new ≡ take base blanked ++ renamed base marks from ks) where
    new_is : new ≡ old ++ renamed base marks from ks
    new_is = second ∙ ap (λ g. g ++ renamed base marks from ks) prefix_is

    many_new : length new ≡ base + length ks
    many_new =
        ap (λ (g : List Obj). length g) new_is ∙ length-append old (renamed base marks from ks)
        ∙ ap₂ ◌+◌ (sym at) (length-map ks (λ k. renamed_object base marks (object_at from k)))

    top_met : IsMet marks base (length new) part
    top_met = subst (λ n. IsMet marks base n part) (sym many_new) (order_top from part marks ks order base)

    pub whole_top : (end : ℕ) → length new ≤ end → IsMet marks base end part
    whole_top end few = met_more base marks part (length new) end few top_met

    module _ (value : Val) (is : value ≡ renamed_value base marks part) where
      pub whole_copy : HasCopy old new from part value
      whole_copy =
          has_copy old new from part (renamed base marks from ks) value
          (subst (λ v. IsCopy from part (length old) (renamed base marks from ks) v) (sym is)
          (subst (λ c. IsCopy from part c (renamed base marks from ks) (renamed_value base marks part)) at
          (renamed_copy from part order.tree ks marks base order.is order.numbering order.marked)))
          new_is

      pub whole_valid : IsValue (length from) part → IsValue (length new) value
      whole_valid valid = subst (IsValue (length new)) (sym is) (renamed_valid base marks part (length new) (length from) valid top_met)
