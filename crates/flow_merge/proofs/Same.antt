-- A pruned tree does the same where the environments agree on all variables that don't go.
use Rattle.std.proofs.Common.{◌≡◌, ℕ, Bool, true, false, nat_eq, List, [], ◌∷◌, ◌++◌, refl, sym, ap, subst, ◌∙◌, length, if◌then◌else◌, slice_get}
use Rattle.std.proofs.Math.Path.{fun_ext}
use Rattle.std.proofs.lemmas.Bool.{false≢true}
use Rattle.nv_base.specs.Words.{Env, assigned, assigned_all, atom_word, atom_words, prim_word, atom_vars, prim_vars, compares}
use Rattle.nv_base.specs.World.{World, over, ended, read_words, write_words}
use Rattle.nv_base.specs.Sets.{is_in, all_vars, without}
use Rattle.nv_base.proofs.Operands.{atom-same, atoms-same, prim-same}
use Rattle.nv_base.proofs.Sets.{same-number}
use Rattle.flow_ir.specs.Tree.{Tree, Let, Read, Write, If, Jump, Halt, Label}
use Rattle.flow_ir.specs.Meaning.{Next, does}
use Rattle.flow_ir.specs.Wide.{uses}
use Rattle.flow_ir.proofs.Members.{in-left, in-right}
use Rattle.flow_merge.specs.inner.Pruned.{kept_words, params_in, pruned, Clear}
use Rattle.flow_merge.proofs.Keeping.{kept_map, kept_none}

-- ---- environments

abbrev pub AgreesBut : List ℕ → Env → Env → Type 0
AgreesBut gone env new = (y : ℕ) → is_in y gone ≡ false → env y ≡ new y

agrees_both : (gone : List ℕ) (env new : Env) (x v : ℕ) → AgreesBut gone env new → AgreesBut gone (assigned env x v) (assigned new x v)
agrees_both gone env new x v h = λ y o. ap (λ u. if nat_eq y x then v else u) (h y o)

agrees_all : (xs ws gone : List ℕ) (env new : Env) → AgreesBut gone env new → AgreesBut gone (assigned_all env xs ws) (assigned_all new xs ws)
agrees_all [] ws gone env new h = h
agrees_all (x ∷ xs) [] gone env new h = agrees_all xs [] gone (assigned env x 0) (assigned new x 0) (agrees_both gone env new x 0 h)
agrees_all (x ∷ xs) (w ∷ ws) gone env new h = agrees_all xs ws gone (assigned env x w) (assigned new x w) (agrees_both gone env new x w h)

one_gone : (b : Bool) (y p v u n : ℕ) (gone : List ℕ) → nat_eq y p ≡ b → is_in p gone ≡ true → is_in y gone ≡ false → u ≡ n → (if b then v else u) ≡ n
one_gone true y p v u n gone e i o h = absurd (false≢true (sym o ∙ ap (λ z. is_in z gone) (same-number y p e) ∙ i))
one_gone false y p v u n gone e i o h = h

agrees_gone : (gone : List ℕ) (env new : Env) (p v : ℕ) → is_in p gone ≡ true → AgreesBut gone env new → AgreesBut gone (assigned env p v) new
agrees_gone gone env new p v i h = λ y o. one_gone (nat_eq y p) y p v (env y) (new y) gone refl i o (h y o)

abbrev Entered : List ℕ → List ℕ → Env → Env → List ℕ → List ℕ → List ℕ → Type 0
Entered gone ps env new ws xs vs = AgreesBut gone (assigned_all env ps ws) (assigned_all new xs vs)

param_at : (b : Bool) (gone ps : List ℕ) (p w : ℕ) (ws xs vs : List ℕ) (env new : Env) → is_in p gone ≡ b → AgreesBut gone env new → ((e n : Env) → AgreesBut gone e n → Entered gone ps e n ws xs vs) → Entered gone ps (assigned env p w) new ws (if b then xs else p ∷ xs) (if b then vs else w ∷ vs)
param_at true gone ps p w ws xs vs env new i h next = next (assigned env p w) new (agrees_gone gone env new p w i h)
param_at false gone ps p w ws xs vs env new i h next = next (assigned env p w) (assigned new p w) (agrees_both gone env new p w h)

last_at : (b : Bool) (gone ps : List ℕ) (p : ℕ) (xs vs : List ℕ) (env new : Env) → vs ≡ [] → is_in p gone ≡ b → AgreesBut gone env new → ((e n : Env) → AgreesBut gone e n → Entered gone ps e n [] xs vs) → Entered gone ps (assigned env p 0) new [] (if b then xs else p ∷ xs) []
last_at true gone ps p xs vs env new none i h next = subst (Entered gone ps (assigned env p 0) new [] xs) none (next (assigned env p 0) new (agrees_gone gone env new p 0 i h))
last_at false gone ps p xs vs env new none i h next = subst (Entered gone ps (assigned env p 0) (assigned new p 0) [] xs) none (next (assigned env p 0) (assigned new p 0) (agrees_both gone env new p 0 h))

-- the parameters that stay have the same words
pub entry_agrees : (gone ps ws : List ℕ) (env new : Env) → AgreesBut gone env new → AgreesBut gone (assigned_all env ps ws) (assigned_all new (without ps gone) (kept_words gone ps ws))
entry_agrees gone [] ws env new h = h
entry_agrees gone (p ∷ ps) [] env new h = last_at (is_in p gone) gone ps p (without ps gone) (kept_words gone ps []) env new (kept_none gone ps [] refl) refl h (λ e n k. entry_agrees gone ps [] e n k)
entry_agrees gone (p ∷ ps) (w ∷ ws) env new h = param_at (is_in p gone) gone ps p w ws (without ps gone) (kept_words gone ps ws) env new refl h (λ e n k. entry_agrees gone ps ws e n k)

-- ---- trees

module _ (labels : List Label) (gone : ℕ → List ℕ) (f g : Next) (jumps : (l : ℕ) (ws : List ℕ) (w : World) → g l (kept_words (gone l) (params_in (slice_get labels l)) ws) w ≡ f l ws w) (own : List ℕ) where
  pub does_same : (t : Tree) (env new : Env) (w : World) → Clear own (uses (pruned labels gone t)) → AgreesBut own env new → does g (pruned labels gone t) new w ≡ does f t env w
  does_same (Let x p t) env new w clear h =
      let u = pruned labels gone t in
      let word : prim_word new p ≡ prim_word env p = sym (prim-same env new p (λ y i. h y (clear y (in-left y (prim_vars p) (uses u) i)))) in
      ap (λ v. does g u (assigned new x v) w) word
      ∙ does_same t (assigned env x (prim_word env p)) (assigned new x (prim_word env p)) w (λ y i. clear y (in-right y (prim_vars p) (uses u) i)) (agrees_both own env new x (prim_word env p) h)
  does_same (Read m xs a t) env new w clear h =
      let u = pruned labels gone t in
      let at : atom_word new a ≡ atom_word env a = sym (atom-same env new a (λ y i. h y (clear y (in-left y (atom_vars a) (uses u) i)))) in
      ap (λ v. read_words m v (length xs) w (λ ws. does g u (assigned_all new xs ws) w)) at
      ∙ ap (read_words m (atom_word env a) (length xs) w)
      (fun_ext (λ ws. does_same t (assigned_all env xs ws) (assigned_all new xs ws) w (λ y i. clear y (in-right y (atom_vars a) (uses u) i)) (agrees_all xs ws own env new h)))
  does_same (Write m a bs t) env new w clear h =
      let u = pruned labels gone t in
      let os = all_vars (a ∷ bs) in
      let at : atom_word new a ≡ atom_word env a = sym (atom-same env new a (λ y i. h y (clear y (in-left y os (uses u) (in-left y (atom_vars a) (all_vars bs) i))))) in
      let words : atom_words new bs ≡ atom_words env bs = sym (atoms-same env new bs (λ y i. h y (clear y (in-left y os (uses u) (in-right y (atom_vars a) (all_vars bs) i))))) in
      ap (λ v. write_words m v (atom_words new bs) w (λ k. does g u new k)) at ∙ ap (λ v. write_words m (atom_word env a) v w (λ k. does g u new k)) words
      ∙ ap (write_words m (atom_word env a) (atom_words env bs) w) (fun_ext (λ k. does_same t env new k (λ y i. clear y (in-right y os (uses u) i)) h))
  does_same (If c a b t1 t2) env new w clear h =
      let u1 = pruned labels gone t1 in
      let u2 = pruned labels gone t2 in
      let os = all_vars (a ∷ b ∷ []) in
      let rest = uses u1 ++ uses u2 in
      let x : atom_word new a ≡ atom_word env a = sym (atom-same env new a (λ y i. h y (clear y (in-left y os rest (in-left y (atom_vars a) (atom_vars b ++ []) i))))) in
      let z : atom_word new b ≡ atom_word env b = sym (atom-same env new b (λ y i. h y (clear y (in-left y os rest (in-right y (atom_vars a) (atom_vars b ++ []) (in-left y (atom_vars b) [] i)))))) in
      let q = does g u1 new w in
      let r = does g u2 new w in
      let holds = compares c (atom_word env a) (atom_word env b) in
      let one = does_same t1 env new w (λ y i. clear y (in-right y os rest (in-left y (uses u1) (uses u2) i))) h in
      let two = does_same t2 env new w (λ y i. clear y (in-right y os rest (in-right y (uses u1) (uses u2) i))) h in
      ap (λ v. if compares c v (atom_word new b) then q else r) x ∙ ap (λ v. if compares c (atom_word env a) v then q else r) z ∙ ap (λ v. if holds then v else r) one ∙ ap (λ v. if holds then does f t1 env w else v) two
  does_same (Jump l bs) env new w clear h =
      let ps = params_in (slice_get labels l) in
      ap (λ v. g l v w) (sym (atoms-same env new (kept_words (gone l) ps bs) (λ y i. h y (clear y i))) ∙ kept_map (gone l) ps bs env) ∙ jumps l (atom_words env bs) w
  does_same (Halt e bs) env new w clear h = ap (λ v. over (ended e v) w) (sym (atoms-same env new bs (λ y i. h y (clear y i))))
