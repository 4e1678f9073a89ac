-- New memories.
use Rattle.std.proofs.Common.{◌≡◌, ℕ, ◌*◌, ◌^◌, ◌<◌, ◌≤◌, List, replicate, All, sym, subst, arith}
use Rattle.std.proofs.lemmas.List.{length-replicate}
use Rattle.std.proofs.lemmas.List.Elements.{All-replicate}
use Rattle.nv_base.specs.Memories.{HasSizes, blank}

zeros-fit : (n : ℕ) → All (λ w. w < 2 ^ 32) (replicate n 0)
zeros-fit n = All-replicate (λ w. w < 2 ^ 32) n 0 (omega arith)

pub blank-sizes : (sram sdram : ℕ) → sram ≤ 65536 → sdram ≤ 65536 → HasSizes (blank sram sdram)
blank-sizes sram sdram s d = record {
  sram = (subst (λ n. n ≤ 65536) (sym (length-replicate {A = ℕ} sram 0)) s, zeros-fit sram);
  sdram = (sdram, d, length-replicate {A = ℕ} (2 * sdram) 0, zeros-fit (2 * sdram));
  scratch = (length-replicate {A = ℕ} 1024 0, zeros-fit 1024);
}

pub blank-is : (a b c : List ℕ) (sram sdram : ℕ) → a ≡ replicate sram 0 → b ≡ replicate (2 * sdram) 0 → c ≡ replicate 1024 0
    → record { sram = a; sdram = b; scratch = c } ≡ blank sram sdram
blank-is a b c sram sdram x y z = λ j. record { sram = x j; sdram = y j; scratch = z j }

pub blank-fits : (a b c : List ℕ) (sram sdram : ℕ) → a ≡ replicate sram 0 → b ≡ replicate (2 * sdram) 0 → c ≡ replicate 1024 0 → sram ≤ 65536 → sdram ≤ 65536
    → HasSizes (record { sram = a; sdram = b; scratch = c })
blank-fits a b c sram sdram x y z s d = subst HasSizes (sym (blank-is a b c sram sdram x y z)) (blank-sizes sram sdram s d)
