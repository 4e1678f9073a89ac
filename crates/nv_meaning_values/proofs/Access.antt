-- Fetches, and how many words an access has.
use Rattle.std.proofs.Common.{◌≡◌, ℕ, ◌≤◌, true, false, List, ap, ◌∙◌, Some, None, if◌then◌else◌}
use Rattle.nv_base.proofs.Operands.{is_access, access_eight}
use Rattle.nv_base.specs.declared.outcome.Outcome.TheVariants as outcome
use Rattle.nv_base.specs.declared.term.Mem.{Mem}
use Rattle.nv_base.specs.Memories.{Memories, fetched}
use Rattle.nv_ast.specs.Faults.{can_move}
use Rattle.nv_meaning_values.specs.Values.{Word, words_value}
use Rattle.nv_meaning_values.specs.Running.{Running, Gives, Halts, fetch, after_fetch}

-- ---- how many words an access may have
pub at_most_eight : (m : Mem) (n : ℕ) → can_move m n ≡ true → n ≤ 8
at_most_eight m n h = access_eight m n (is_access m n h)

-- ---- fetches
pub fetch-refused : (m : Mem) (n place : ℕ) (now : Running) → can_move m n ≡ false → fetch m n place now ≡ Gives (Word 0) now
fetch-refused m n place now h = ap (λ b. if b then after_fetch m place (fetched m place n now.packet) now else Gives (Word 0) now) h

pub fetch-done : (m : Mem) (n place : ℕ) (ws : List ℕ) (p : Memories) (now : Running) → can_move m n ≡ true → now.packet ≡ p → fetched m place n p ≡ Some ws → fetch m n place now ≡ Gives (words_value ws) now
fetch-done m n place ws p now h same e = ap (λ b. if b then after_fetch m place (fetched m place n now.packet) now else Gives (Word 0) now) h ∙ ap (λ q. after_fetch m place (fetched m place n q) now) same ∙ ap (λ o. after_fetch m place o now) e

pub fetch-bad : (m : Mem) (n place : ℕ) (p : Memories) (now : Running) → can_move m n ≡ true → now.packet ≡ p → fetched m place n p ≡ None → fetch m n place now ≡ Halts (outcome.Fault m place) now
fetch-bad m n place p now h same e = ap (λ b. if b then after_fetch m place (fetched m place n now.packet) now else Gives (Word 0) now) h ∙ ap (λ q. after_fetch m place (fetched m place n q) now) same ∙ ap (λ o. after_fetch m place o now) e
