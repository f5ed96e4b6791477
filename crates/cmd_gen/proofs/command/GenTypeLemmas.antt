-- TYPE denotes over the declarations of the items what TYPE denotes over a file with these
-- declarations.
use Rattle.std.proofs.Common.{◌≡◌, ℕ, false, List, Some, None, Result, Ok, Err, inl, inr, sym, ◌∙◌, ap, subst}
use Rattle.cli_spec.specs.Outcome.{opened, whole, Taken, asked_type, Then, OrRefusal, ReadsTypeOf}
use Rattle.cli_spec.specs.declared.exit.Exit.{Exit}
use Rattle.cli_spec.specs.declared.exit.Exit.TheVariants.{Declarations as declarations, RequestedType as requested_type}
use Rattle.run_types.specs.declared.requested.Prepared.{Prepared}
use Rattle.run_types.specs.Language.{TypeOver, declared_types}
use Rattle.run_types.specs.RequestedTexts.{type_over, GivesType}
use Rattle.cmd_gen.specs.generator.Generated.{item_declarations}
use Rattle.cmd_gen.specs.spec.GenSpec.{ReadsItemType}
use Rattle.cmd_gen.specs.command.ItemTypes.{GivesItemType}

module _ (file type text : List ℕ) (are : text ≡ item_declarations) where
  abbrev ReadsOver : List ℕ → Result TypeOver Exit → Type 0
  ReadsOver text =
      Then (OrRefusal (declared_types.ReadsDeclarations false text) declarations) (λ decls.
      OrRefusal (declared_types.ReadsType decls (asked_type type false)) requested_type)

  as_items :
      (result : Result TypeOver Exit)
      → ReadsTypeOf declared_types (λ name. opened (whole text)) (file, asked_type type false) result
      → ReadsItemType declared_types type result
  as_items result (Err s, fault, same) = let never : None ≡ Some s = fault in absurd (cc never)
  as_items result (Ok read, is, h) =
      let taken : ◌≡◌ {A = Taken} (whole text) (whole read) = cc is in
      let bytes : text ≡ read = ap (λ (t : Taken). t.bytes) taken in
      subst (λ (t : List ℕ). ReadsOver t result) (sym bytes ∙ are) h

  pub item_type_given :
      (result : Result Prepared Exit) → GivesType file (asked_type type false) (opened (whole text)) result
      → GivesItemType type result
  item_type_given (Ok r) (reads, ready) =
      (as_items (Ok (type_over r)) reads, ready)
  item_type_given (Err exit) (inl reads) = inl (as_items (Err exit) reads)
  item_type_given (Err exit) (inr memory) = inr memory
