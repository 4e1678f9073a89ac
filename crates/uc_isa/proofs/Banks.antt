-- Runs of registers in a bank.
use Rattle.std.proofs.Common.{◌≡◌, ℕ, ◌+◌, ◌-◌, ◌/◌, ◌≤◌, List, ◌++◌, length, take, drop, ap, sym, ◌∙◌, arith, append_assoc, length-drop}
use Rattle.std.proofs.lemmas.List.{drop-drop, length-take-le}
use borrow.Rule.Slice.PartMut.{put_mid}
use Rattle.nv_base.specs.declared.term.Mem.{Mem}
use Rattle.nv_base.specs.declared.term.Mem.TheVariants.{Sram, Sdram, Scratch}
use Rattle.nv_base.specs.Memories.{IsAccess}
use Rattle.uc_isa.specs.Lawful.{IsRun, IsPaired}
use Rattle.uc_isa.specs.Step.{filled}

-- a lawful run has as many words as an access may have
pub access-of_run : (m : Mem) (r n : ℕ) → IsRun r n → IsPaired m r n → IsAccess m n
access-of_run Sram r n run pairs = (run.0, omega arith)
access-of_run Sdram r n run pairs = (n / 2, omega arith, omega arith, omega arith)
access-of_run Scratch r n run pairs = (run.0, omega arith)

-- the registers of a run are as many as it says
pub length-run : (r n : ℕ) (bank : List ℕ) → length bank ≡ 8 → r + n ≤ 8 → length (take (r + n - r) (drop r bank)) ≡ n
length-run r n bank eight inside =
    let same : r + n - r ≡ n = omega arith in
    let fits : n ≤ length (drop r bank) = omega (arith, length-drop r bank) in
    ap (λ k. length (take k (drop r bank))) same ∙ length-take-le n (drop r bank) fits

-- writing a run's registers
pub put_mid-run : (r n : ℕ) (bank ws : List ℕ) → length ws ≡ n → put_mid r (r + n - r) bank ws ≡ filled bank r ws
put_mid-run r n bank ws len =
    let same : r + n - r ≡ length ws = omega arith in
    ap (λ k. put_mid r k bank ws) same
    ∙ ap (λ rest. take r bank ++ (ws ++ rest)) (drop-drop (length ws) r bank)
    ∙ sym (append_assoc (take r bank) ws (drop (r + length ws) bank))
