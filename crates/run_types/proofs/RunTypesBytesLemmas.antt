-- Writing the bytes of a value.
use Rattle.std.proofs.Common.{◌≡◌, ◌∙◌, ℕ, Bool, true, List, [], Option, None, Some, Err, inl, inr, refl, sym, ap, subst}
use Rattle.std.specs.Prelude.{IsSomeAnd}
use Rattle.base_data.specs.declared.model.value.Val.{Val}
use Rattle.base_data.specs.declared.model.value.Obj.{Obj}
use Rattle.base_data.specs.declared.model.value.Obj.TheVariants as objects
use Rattle.marshal_spec.specs.format.Compat.{TooLargeFor32, token, header, too_large_for_32}
use Rattle.marshal_spec.specs.format.Isomorphism.{IsTreeOf}
use Rattle.marshal_spec.specs.format.Token.{integer, atom, shared, block, leaf}
use Rattle.marshal_spec.specs.format.Tree.{Tree}
use Rattle.base_io.specs.Sink.{Writes}
use Rattle.base_io.specs.StreamState.{ByteState, change}
use Rattle.marshal_write.specs.write.Reports.{Reports}
use Rattle.marshal_write.specs.write.WrittenValue.{IsEarly, Writes32}
use Rattle.marshal_write.specs.declared.write.compat.Compat.{Compat}
use Rattle.marshal_write.specs.declared.write.writer32.Write32Error.{Write32Error}
use Rattle.marshal_write.specs.declared.write.writer32.Write32Error.TheVariants as errors32
use Rattle.cli_spec.specs.RefusalText.{compat_text}
use Rattle.cli_spec.specs.Outcome.{too_large}
use Rattle.cli_spec.specs.declared.exit.Exit.{Exit}
use Rattle.cli_spec.specs.declared.exit.Exit.TheVariants.{LargeValue as large_value, Memory as out_of_memory}
use Rattle.cli_errors.specs.declared.exit_line.Error.TheVariants as aborts
use Rattle.run_types.specs.Language.{bytes_for}
use Rattle.cli_errors.specs.Exits.{text_of_compat, IsOrMemory}
use Rattle.run_spec.proofs.runs.RunWriteLemmas.{writes_nothing}
use Rattle.run_types.specs.ValueBytes.{WritesBytes}

-- The specification's text for an item that is too large equals the text that the program prints.
compat_known : (large : TooLargeFor32) (compat : Compat) → Reports large compat → compat_text large ≡ text_of_compat compat
compat_known (token (integer z)) compat is = sym (ap text_of_compat is)
compat_known (token (block tag size)) compat is = sym (ap text_of_compat is)
compat_known (token (leaf (objects.Bytes bytes))) compat is = sym (ap text_of_compat is)
compat_known (token (leaf (objects.Doubles all))) compat is = sym (ap text_of_compat is)
compat_known (token (leaf (objects.Native z))) compat is = sym (ap text_of_compat is)
compat_known (header n) compat is = sym (ap text_of_compat is)
compat_known (token (atom tag)) compat is = absurd is
compat_known (token (shared offset)) compat is = absurd is
compat_known (token (leaf (objects.Block tag values))) compat is = absurd is
compat_known (token (leaf (objects.Double bits))) compat is = absurd is
compat_known (token (leaf (objects.I32 z))) compat is = absurd is
compat_known (token (leaf (objects.I64 z))) compat is = absurd is

module _ (compat : Bool) (k : ℕ) (g : List Obj) (v : Val) where
  pub memory_written : (a b : ByteState) → b ≡ a → WritesBytes {U = Unit {0}} compat k g v (change a b) (Err (aborts.Exit out_of_memory))
  memory_written a b same = (inl refl, subst (λ b. Writes (change a b) []) (sym same) (writes_nothing a))

  pub compat_refused : compat ≡ true → {S : Type 0} (state : S → ByteState) (a b : S) (error : Write32Error) → (IsEarly error → b ≡ a) → (large : Compat) → error ≡ errors32.Compat large
      → (tree : Tree) × IsTreeOf g v tree × Writes32 {A = Unit {0}} (change (state a) (state b)) tree (Err error) → (exit : Exit) → IsOrMemory (large_value k (text_of_compat large)) exit
      → WritesBytes {U = Unit {0}} compat k g v (change (state a) (state b)) (Err (aborts.Exit exit))
  compat_refused asked state a b error untouched large is (tree, of, reports) exit known =
      let reports : IsSomeAnd (too_large_for_32 tree) (λ t. Reports t large) = subst (λ e. Writes32 {A = Unit {0}} (change (state a) (state b)) tree (Err e)) is reports in
      let same : b ≡ a = untouched (subst IsEarly (sym is) tt) in
      at (too_large_for_32 tree) refl reports known (subst (λ b. Writes (change (state a) (state b)) []) (sym same) (writes_nothing (state a))) where
        at : (what : Option TooLargeFor32) → too_large_for_32 tree ≡ what → IsSomeAnd what (λ t. Reports t large) → IsOrMemory (large_value k (text_of_compat large)) exit → Writes (change (state a) (state b)) []
            → WritesBytes {U = Unit {0}} compat k g v (change (state a) (state b)) (Err (aborts.Exit exit))
        at None e reports known none = absurd reports
        at (Some t) e reports (inr memory) none = (inl memory, none)
        at (Some t) e reports (inl output) none = (
          inr (too_large (compat_text t), (tree, of, sym (ap (λ c. bytes_for c tree (too_large_for_32 tree)) asked ∙ ap (bytes_for true tree) e)), output ∙ ap (large_value k) (sym (compat_known t large reports))),
          none,
        )
