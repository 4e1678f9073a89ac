-- A reduced tree does the same.
use Rattle.std.proofs.Common.{◌≡◌, ℕ, ◌+◌, Bool, true, false, List, ap, ◌∙◌, length, All, if◌then◌else◌}
use Rattle.nv_base.specs.Meanings.{FullOutcome}
use Rattle.nv_base.specs.Memories.{HasSizes}
use Rattle.nv_base.specs.Words.{IsWord, Env, IsEnv, assigned, assigned_all, atom_word, atom_words, prim_word, compares}
use Rattle.nv_base.specs.World.{World, over, ended, read_words, write_words, wrote}
use Rattle.nv_base.specs.declared.term.Primitive.{Primitive}
use Rattle.nv_base.proofs.Environments.{assigned-env, assigned-all-env, atoms-fit, prim-fits}
use Rattle.nv_base.proofs.MemoryLemmas.{fetched-words, stored-sizes}
use Rattle.flow_ir.specs.Tree.{Tree}
use Rattle.flow_ir.specs.Meaning.{Next, does}
use Rattle.cps_rules.proofs.Means.{read_alike, write_alike}
use Rattle.flow_words.specs.Tables.{Table, with_known, with_all}
use Rattle.flow_words.specs.Definitions.{of_prim}
use Rattle.flow_words.specs.inner.Reduced.{Holds, Reduced, extra, kept, read, write, choice, jump, halt}
use Rattle.flow_words.proofs.Closing.{Closed, settled_count, closed_made, closed_all}
use Rattle.flow_words.proofs.Holding.{Alike, holds_made, holds_all, old_word, old_words, old_prim, alike_extra, alike_own, alike_all}

either_alike : (b : Bool) (r s r' s' : FullOutcome) → r' ≡ r → s' ≡ s → (if b then r' else s') ≡ (if b then r else s)
either_alike true r s r' s' h k = h
either_alike false r s r' s' h k = k

module _ (P : Table → Primitive → Type 0) (base : ℕ) (f g : Next) (jumps : (l : ℕ) (ws : List ℕ) (w : World) → All IsWord ws → HasSizes w.packet → g l ws w ≡ f l ws w) where
  pub means : (T : Table) (n k : ℕ) (t u : Tree) → Reduced P base T n t u k → (env new : Env) (w : World) → Alike base env new → Closed T → Holds T new → IsEnv new → HasSizes w.packet → does g u new w ≡ does f t env w
  means T n k t u (extra T' n' k' q t' u' le dead settled p rest) env new w alike closed holds words sizes =
      means (with_known T n (of_prim T q)) (n + 1) k t u' rest env (assigned new n (prim_word new q)) w (alike_extra base n (prim_word new q) env new le alike) (closed_made T n q closed settled) (holds_made T n q new words closed holds dead settled)
      (assigned-env new n (prim_word new q) words (prim-fits new q words (settled_count T q settled))) sizes
  means T n k t u (kept T' n' k' x p q t' u' lt dead settled fine old same rest) env new w alike closed holds words sizes =
      let v = prim_word new q in
      let word : v ≡ prim_word env p = same.word new words holds ∙ old_prim base p env new alike old in
      means (with_known T x (of_prim T q)) n k t' u' rest (assigned env x v) (assigned new x v) w (alike_own base x v env new alike) (closed_made T x q closed settled) (holds_made T x q new words closed holds dead settled)
      (assigned-env new x v words (prim-fits new q words (settled_count T q settled))) sizes
      ∙ ap (λ z. does f t' (assigned env x z) w) word
  means T n k t u (read T' n' k' m xs a t' u' old fresh rest) env new w alike closed holds words sizes =
      ap (λ v. read_words m v (length xs) w (λ ws. does g u' (assigned_all new xs ws) w)) (old_word base a env new alike old)
      ∙ read_alike m (atom_word env a) (length xs) w (λ ws. does f t' (assigned_all env xs ws) w) (λ ws. does g u' (assigned_all new xs ws) w)
      (λ ws e. means (with_all T xs) n k t' u' rest (assigned_all env xs ws) (assigned_all new xs ws) w (alike_all base xs ws env new alike) (closed_all T xs closed) (holds_all base T xs ws new closed holds fresh)
      (assigned-all-env new xs ws words (fetched-words m (atom_word env a) (length xs) w.packet ws sizes e).1) sizes)
  means T n k t u (write T' n' k' m a bs t' u' old olds rest) env new w alike closed holds words sizes =
      let vs = atom_words new bs in
      ap (λ v. write_words m v vs w (λ v. does g u' new v)) (old_word base a env new alike old)
      ∙ write_alike m (atom_word env a) vs w (λ v. does f t' env v) (λ v. does g u' new v)
      (λ p e. means T n k t' u' rest env new (wrote m (atom_word env a) vs p w) alike closed holds words (stored-sizes m (atom_word env a) vs w.packet p sizes (atoms-fit new bs words) e))
      ∙ ap (λ v. write_words m (atom_word env a) v w (λ v. does f t' env v)) (old_words base bs env new alike olds)
  means T n k t u (choice T' n' j k' c a b t1 t2 u1 u2 olda oldb left right) env new w alike closed holds words sizes =
      ap (λ v. if compares c v (atom_word new b) then does g u1 new w else does g u2 new w) (old_word base a env new alike olda)
      ∙ ap (λ v. if compares c (atom_word env a) v then does g u1 new w else does g u2 new w) (old_word base b env new alike oldb)
      ∙ either_alike (compares c (atom_word env a) (atom_word env b)) (does f t1 env w) (does f t2 env w) (does g u1 new w) (does g u2 new w)
      (means T n j t1 u1 left env new w alike closed holds words sizes) (means T j k t2 u2 right env new w alike closed holds words sizes)
  means T n k t u (jump T' n' l bs olds) env new w alike closed holds words sizes =
      jumps l (atom_words new bs) w (atoms-fit new bs words) sizes ∙ ap (λ ws. f l ws w) (old_words base bs env new alike olds)
  means T n k t u (halt T' n' e bs olds) env new w alike closed holds words sizes = ap (λ ws. over (ended e ws) w) (old_words base bs env new alike olds)
