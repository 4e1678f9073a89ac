-- Stores.
use Rattle.std.proofs.Common.{◌≡◌, ℕ, true, false, List, [], ◌∷◌, sym, ap, ◌∙◌, length, Some, None, Ok, Err, if◌then◌else◌, unwrap_or, arith}
use Rattle.nv_base.specs.declared.outcome.Write.{Write}
use Rattle.nv_base.specs.declared.term.Mem.{Mem}
use Rattle.nv_base.specs.Log.{noted_all}
use Rattle.nv_base.specs.Memories.{Memories, stored}
use Rattle.nv_base.specs.Meanings.{source_writes}
use Rattle.nv_ast.specs.declared.token.Span.{Span}
use Rattle.nv_ast.specs.Faults.{can_move}
use Rattle.nv_meaning_values.specs.Notes.{Notes, Stores, traced_all, source_made, made_of_write}
use Rattle.nv_meaning_values.specs.Values.{Scope}
use Rattle.nv_meaning_values.specs.Running.{made_by, GoesOn, store, after_store}
use Rattle.nv_meaning.specs.Meaning.{Declared}
use Rattle.nv_meaning_values.specs.declared.stop.Interruption.TheVariants.{NoMemory, Fault}
use Rattle.nv_meaning.specs.inner.Ran.{At, at, running, IsScope, RanScope, stated_result}
use Rattle.nv_meaning.proofs.Grows.{grown-store}
use Rattle.nv_meaning.proofs.Moments.{ran-here}

-- ---- stores
module _ (d : Declared) (a : At) (text : Span) (s : Scope) (m : Mem) (place : ℕ) (ws : List ℕ) where
  pub store-short : RanScope d a a (Err NoMemory) s (λ call now. store text s m place ws now)
  store-short = ran-here d a (λ call now last. IsScope (Err NoMemory) s last (store text s m place ws now)) (λ call grows x same. grown-store text s m place ws x)

  pub store-refused : can_move m (length ws) ≡ false → RanScope d a a (Ok tt) s (λ call now. store text s m place ws now)
  store-refused h = ran-here d a (λ call now last. IsScope (Ok tt) s last (store text s m place ws now)) (λ call grows x same. ap (λ b. if b then after_store text s m place ws (stored m place ws x.packet) x else GoesOn s x) h)

  pub store-bad : can_move m (length ws) ≡ true → stored m place ws a.packet ≡ None → RanScope d a a (Err (Fault m place)) s (λ call now. store text s m place ws now)
  store-bad h e = ran-here d a (λ call now last. IsScope (Err (Fault m place)) s last (store text s m place ws now))
      (λ call grows x same. ap (λ b. stated_result (if b then after_store text s m place ws (stored m place ws x.packet) x else GoesOn s x)) h ∙ ap (λ q. stated_result (after_store text s m place ws (stored m place ws q) x)) same ∙ ap (λ o. stated_result (after_store text s m place ws o x)) e)

  pub store-written : (p : Memories) (log : Notes) (w : Write) → w ≡ record { mem = m; at = place; words = ws } → can_move m (length ws) ≡ true → stored m place ws a.packet ≡ Some p → Stores a.log text w log → RanScope d a (at a.calls p log) (Ok tt) s (λ call now. store text s m place ws now)
  store-written p log w is h e l = record {
    run = λ depth le c knows before. record {
      wrote = made_by text c m place ws ∷ [];
      change = record {
        calls = omega arith;
        packet = sym (ap (λ o. unwrap_or o a.packet) e);
        log = l.log ∙ ap (λ v. noted_all a.log.log (source_writes (v ∷ []))) is;
        trail = l.trail c knows ∙ ap (λ v. traced_all a.log.trail (source_made (made_of_write text c v ∷ []))) is;
      };
      knows = l.knows c knows;
      comes = ap (λ b. if b then after_store text s m place ws (stored m place ws a.packet) (running a c before) else GoesOn s (running a c before)) h ∙ ap (λ o. after_store text s m place ws o (running a c before)) e;
    };
  }
