-- The text before a part.
use Rattle.std.proofs.Common.{ℕ, zero, suc, ◌≡◌, ◌==◌, ⊎_elim, cond, [], ◌++◌, refl, sym, ap, arith}
use Rattle.std.specs.Prelude.{if◌then◌else◌}
use Rattle.std.proofs.lemmas.Bool.Decides.{eqb_tells}
use Rattle.text_print.specs.leaves.Frames.{Frame, label_at, before_part}

pub before_is : (frame : Frame) (i : ℕ) → before_part frame i ≡ (if i == 0 then [] else frame.between) ++ label_at frame i
before_is frame zero = refl
before_is frame (suc i) = ⊎_elim
    (λ same. absurd (omega (arith, same.1)))
    (λ other. sym (ap (λ b. cond b [] frame.between ++ label_at frame (suc i)) other.0))
    (eqb_tells (suc i) 0)
