-- What `UnlessMemory` states for each refusal.
use Rattle.std.proofs.Common.{ℕ, ◌≡◌, ◌≢◌, ◌⊎◌, inl, inr, ◌≤◌, List, length, take, refl}
use Rattle.base_data.specs.declared.model.refusal.ReadRefusal.{ReadRefusal}
use Rattle.base_data.specs.declared.model.refusal.ReadRefusal.TheVariants as refusals
use Rattle.marshal_spec.specs.format.Prefix.{IsRefused}
use Rattle.marshal_read.specs.Reading.{UnlessMemory, RefusedIn}

-- If the refusal is lack of memory, then `UnlessMemory` states nothing. For every other refusal,
-- `UnlessMemory` states `P`.
pub unless_memory : (r : ReadRefusal) (P : Type 0) → ((r ≢ refusals.Memory → P) → UnlessMemory r P) × (UnlessMemory r P → (r ≡ refusals.Memory) ⊎ P)
unless_memory refusals.Memory P = (λ f. tt, λ p. inl refl)
unless_memory (refusals.BadMagic a) P = (λ f. f (λ e. cc e), λ p. inr p)
unless_memory refusals.Compressed P = (λ f. f (λ e. cc e), λ p. inr p)
unless_memory (refusals.TooLarge a b d) P = (λ f. f (λ e. cc e), λ p. inr p)
unless_memory (refusals.BadCode a b) P = (λ f. f (λ e. cc e), λ p. inr p)
unless_memory (refusals.PointerCode a b) P = (λ f. f (λ e. cc e), λ p. inr p)
unless_memory (refusals.OtherCustom a b) P = (λ f. f (λ e. cc e), λ p. inr p)
unless_memory (refusals.BadTag a b) P = (λ f. f (λ e. cc e), λ p. inr p)
unless_memory (refusals.BadShared a b d) P = (λ f. f (λ e. cc e), λ p. inr p)
unless_memory (refusals.NoTable a) P = (λ f. f (λ e. cc e), λ p. inr p)
unless_memory (refusals.BadNative a b) P = (λ f. f (λ e. cc e), λ p. inr p)
unless_memory (refusals.IntRange a b) P = (λ f. f (λ e. cc e), λ p. inr p)
unless_memory (refusals.ZeroArray a) P = (λ f. f (λ e. cc e), λ p. inr p)
unless_memory (refusals.Overlong a b d) P = (λ f. f (λ e. cc e), λ p. inr p)
unless_memory (refusals.SizeMismatch a b d f) P = (λ f. f (λ e. cc e), λ p. inr p)
unless_memory (refusals.CountMismatch a b d) P = (λ f. f (λ e. cc e), λ p. inr p)
unless_memory (refusals.LengthMismatch a b) P = (λ f. f (λ e. cc e), λ p. inr p)

pub refusal_is_read : (limit : ℕ) (bytes : List ℕ) (r : ReadRefusal) → (r ≢ refusals.Memory → (n : ℕ) × (n ≤ length bytes) × IsRefused limit (take n bytes) r) → RefusedIn limit bytes r
refusal_is_read limit bytes r = (unless_memory r ((n : ℕ) × (n ≤ length bytes) × IsRefused limit (take n bytes) r)).0
