-- What holds between two runs from a world on, where it holds at each end and is kept by a write: the steps that all forms with jumps share.
use Rattle.std.proofs.Common.{◌≡◌, ℕ, Bool, true, false, List, [], ◌∷◌, Option, Some, None, refl, sym, ◌∙◌, if◌then◌else◌, append-nil}
use Rattle.nv_base.specs.declared.term.Mem.{Mem}
use Rattle.nv_base.specs.declared.outcome.Write.{Write}
use Rattle.nv_base.specs.declared.outcome.Outcome.{Outcome}
use Rattle.nv_base.specs.declared.outcome.Outcome.TheVariants.{Going}
use Rattle.nv_base.specs.Memories.{Memories, fetched, stored}
use Rattle.nv_base.specs.Meanings.{FullOutcome, IsPrefix}
use Rattle.nv_base.specs.Progress.{Before}
use Rattle.nv_base.specs.World.{World, over, after_read, read_words, wrote, after_write, write_words}
use Rattle.nv_base.proofs.Same.{prefix-trans, before-equal, before-going}

pub record IsKept (R : World → FullOutcome → FullOutcome → Type 0) : Type 0 where
  pub same : (w : World) (r : FullOutcome) → r.writes ≡ w.writes → R w r r
  pub later : (m : Mem) (at : ℕ) (ws : List ℕ) (p : Memories) (w : World) (r s : FullOutcome) → R (wrote m at ws p w) r s → R w r s

module _ (R : World → FullOutcome → FullOutcome → Type 0) (k : IsKept R) where
  kept-after-read : (found : Option (List ℕ)) (w : World) (bad : FullOutcome) (f g : List ℕ → FullOutcome) → bad.writes ≡ w.writes → ((ws : List ℕ) → R w (f ws) (g ws)) → R w (after_read found bad f) (after_read found bad g)
  kept-after-read (Some ws) w bad f g e h = h ws
  kept-after-read None w bad f g e h = k.same w bad e

  pub kept-read : (m : Mem) (at n : ℕ) (w : World) (f g : List ℕ → FullOutcome) → ((ws : List ℕ) → R w (f ws) (g ws)) → R w (read_words m at n w f) (read_words m at n w g)
  kept-read m at n w f g h = kept-after-read (fetched m at n w.packet) w _ f g refl h

  kept-after-write : (found : Option Memories) (m : Mem) (at : ℕ) (ws : List ℕ) (w : World) (bad : FullOutcome) (f g : World → FullOutcome) → bad.writes ≡ w.writes → ((v : World) → R v (f v) (g v)) → R w (after_write found bad (λ p. f (wrote m at ws p w))) (after_write found bad (λ p. g (wrote m at ws p w)))
  kept-after-write (Some p) m at ws w bad f g e h = k.later m at ws p w _ _ (h (wrote m at ws p w))
  kept-after-write None m at ws w bad f g e h = k.same w bad e

  pub kept-write : (m : Mem) (at : ℕ) (ws : List ℕ) (w : World) (f g : World → FullOutcome) → ((v : World) → R v (f v) (g v)) → R w (write_words m at ws w f) (write_words m at ws w g)
  kept-write m at ws w f g h = kept-after-write (stored m at ws w.packet) m at ws w _ f g refl h

  pub kept-if : (b : Bool) (w : World) (r s r' s' : FullOutcome) → R w r r' → R w s s' → R w (if b then r else s) (if b then r' else s')
  kept-if true w r s r' s' h g = h
  kept-if false w r s r' s' h g = g

  pub kept-over : (how : Outcome) (w : World) → R w (over how w) (over how w)
  kept-over how w = k.same w (over how w) refl

-- ---- writes are never taken back

abbrev pub Adds : World → FullOutcome → FullOutcome → Type 0
Adds w r s = IsPrefix w.writes r.writes

adds-none : (a b : List Write) → b ≡ a → IsPrefix a b
adds-none a b e = ([], e ∙ sym (append-nil a))

pub adds-kept : IsKept Adds
adds-kept = record {
  same = λ w r e. adds-none w.writes r.writes e;
  later = λ m at ws p w r s h. prefix-trans w.writes (wrote m at ws p w).writes r.writes (record { mem = m; at = at; words = ws } ∷ [], refl) h;
}

-- ---- the second gets at least as far as the first

abbrev pub Gets : World → FullOutcome → FullOutcome → Type 0
Gets w r s = Before r s

pub gets-kept : IsKept Gets
gets-kept = record { same = λ w r e. before-equal r r refl; later = λ m at ws p w r s h. h }

-- where no jump is left, a run is an earlier moment of each that adds to its writes
pub gets-going : (w : World) (s : FullOutcome) → IsPrefix w.writes s.writes → Gets w (over Going w) s
gets-going w s p = before-going (over Going w) s refl p
