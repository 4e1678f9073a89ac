-- A simplified tree does the same.
use Rattle.std.proofs.Common.{◌≡◌, ℕ, Bool, true, false, nat_eq, ◌||◌, List, [], ◌∷◌, ◌++◌, Option, Some, None, refl, sym, ap, subst, ◌∙◌, length, All, if◌then◌else◌}
use Rattle.std.proofs.lemmas.Bool.{false≢true, eq-eqb, or_parts, false_from_ne_true}
use Rattle.nv_base.specs.declared.term.Atom.{Atom}
use Rattle.nv_base.specs.declared.term.Atom.TheVariants.{Var}
use Rattle.nv_base.specs.declared.term.Mem.{Mem}
use Rattle.nv_base.specs.declared.term.Primitive.TheVariants.{Same}
use Rattle.nv_base.specs.declared.outcome.Outcome.TheVariants as outcome
use Rattle.nv_base.specs.Memories.{Memories, HasSizes, fetched, stored}
use Rattle.nv_base.specs.Meanings.{FullOutcome}
use Rattle.nv_base.specs.Words.{IsWord, Env, IsEnv, assigned, assigned_all, atom_word, atom_words, prim_word, atom_vars, prim_vars, compares}
use Rattle.nv_base.specs.World.{World, over, ended, after_read, read_words, wrote, after_write, write_words}
use Rattle.nv_base.specs.Sets.{is_in, all_vars, without, Within, AgreeOn}
use Rattle.nv_base.proofs.Sets.{same-number, agree-all, agree-left, agree-right, agree-behind}
use Rattle.nv_base.proofs.Operands.{atom-same, atoms-same, prim-same}
use Rattle.nv_base.proofs.Environments.{assigned-env, assigned-all-env, atoms-fit, prim-fits}
use Rattle.nv_base.proofs.MemoryLemmas.{stored-sizes, fetched-words}
use Rattle.flow_ir.specs.Tree.{Tree, Let, Read, Write, If, Jump, Halt}
use Rattle.flow_ir.specs.Meaning.{Next, does}
use Rattle.flow_ir.specs.Wide.{live, uses}
use Rattle.cps_rules.specs.Rules.{Answers}
use Rattle.flow_ir.specs.Substitution.{Names, renamed, all_renamed, prim_renamed}
use Rattle.cps_rules.specs.inner.Way.{Simplified, same, kept, dropped, read, write, choice, jump, halt}
use Rattle.cps_rules.proofs.Answered.{AllSound, answered_word, answered_uses, answered_count}
use Rattle.flow_ir.proofs.Members.{either, first-or-rest, in-left, in-right, in-not-out}
use Rattle.flow_ir.proofs.Scopes.{not_same, live_uses}
use Rattle.flow_ir.proofs.Renaming.{image_known, prim_image, Agrees, atom_agrees, atoms_agree, prim_agrees, count_renamed}
use Rattle.flow_ir.specs.inner.Scoped.{Fits, Apart}

-- ---- accesses with the same that follows

pub read_alike : (m : Mem) (at n : ℕ) (w : World) (f g : List ℕ → FullOutcome) → ((ws : List ℕ) → fetched m at n w.packet ≡ Some ws → g ws ≡ f ws) → read_words m at n w g ≡ read_words m at n w f
read_alike m at n w f g h = after (fetched m at n w.packet) refl
  where
    after : (found : Option (List ℕ)) → fetched m at n w.packet ≡ found → after_read found (over (outcome.Fault m at) w) g ≡ after_read found (over (outcome.Fault m at) w) f
    after (Some ws) e = h ws e
    after None e = refl

pub write_alike : (m : Mem) (at : ℕ) (ws : List ℕ) (w : World) (f g : World → FullOutcome) → ((p : Memories) → stored m at ws w.packet ≡ Some p → g (wrote m at ws p w) ≡ f (wrote m at ws p w)) → write_words m at ws w g ≡ write_words m at ws w f
write_alike m at ws w f g h = after (stored m at ws w.packet) refl
  where
    after : (found : Option Memories) → stored m at ws w.packet ≡ found → after_write found (over (outcome.Fault m at) w) (λ p. g (wrote m at ws p w)) ≡ after_write found (over (outcome.Fault m at) w) (λ p. f (wrote m at ws p w))
    after (Some p) e = h p e
    after None e = refl

either_alike : (b : Bool) (r s r' s' : FullOutcome) → r' ≡ r → s' ≡ s → (if b then r' else s') ≡ (if b then r else s)
either_alike true r s r' s' h k = h
either_alike false r s r' s' h k = k

-- ---- a tree depends on its live variables

pub depends : (f : Next) (t : Tree) (env env' : Env) (w : World) → AgreeOn (live t) env env' → does f t env w ≡ does f t env' w
depends f (Let x a t) env env' w h =
    let word : prim_word env a ≡ prim_word env' a = prim-same env env' a (agree-left (prim_vars a) (without (live t) (x ∷ [])) env env' h) in
    depends f t (assigned env x (prim_word env a)) (assigned env' x (prim_word env a)) w
    (agree-behind (live t) (x ∷ []) (prim_word env a ∷ []) env env' (agree-right (prim_vars a) (without (live t) (x ∷ [])) env env' h))
    ∙ ap (λ v. does f t (assigned env' x v) w) word
depends f (Read m xs a t) env env' w h =
    let at : atom_word env a ≡ atom_word env' a = atom-same env env' a (agree-left (atom_vars a) (without (live t) xs) env env' h) in
    read_alike m (atom_word env a) (length xs) w (λ ws. does f t (assigned_all env' xs ws) w) (λ ws. does f t (assigned_all env xs ws) w)
    (λ ws e. depends f t (assigned_all env xs ws) (assigned_all env' xs ws) w (agree-behind (live t) xs ws env env' (agree-right (atom_vars a) (without (live t) xs) env env' h)))
    ∙ ap (λ v. read_words m v (length xs) w (λ ws. does f t (assigned_all env' xs ws) w)) at
depends f (Write m a bs t) env env' w h =
    let words = agree-left (all_vars (a ∷ bs)) (live t) env env' h in
    let at : atom_word env a ≡ atom_word env' a = atom-same env env' a (agree-left (atom_vars a) (all_vars bs) env env' words) in
    let vs : atom_words env bs ≡ atom_words env' bs = atoms-same env env' bs (agree-right (atom_vars a) (all_vars bs) env env' words) in
    write_alike m (atom_word env a) (atom_words env bs) w (λ v. does f t env' v) (λ v. does f t env v) (λ p e. depends f t env env' (wrote m (atom_word env a) (atom_words env bs) p w) (agree-right (all_vars (a ∷ bs)) (live t) env env' h))
    ∙ ap (λ v. write_words m v (atom_words env bs) w (λ v. does f t env' v)) at
    ∙ ap (λ v. write_words m (atom_word env' a) v w (λ v. does f t env' v)) vs
depends f (If c a b t u) env env' w h =
    let os = agree-left (all_vars (a ∷ b ∷ [])) (live t ++ live u) env env' h in
    let arms = agree-right (all_vars (a ∷ b ∷ [])) (live t ++ live u) env env' h in
    let first : atom_word env a ≡ atom_word env' a = atom-same env env' a (agree-left (atom_vars a) (all_vars (b ∷ [])) env env' os) in
    let second : atom_word env b ≡ atom_word env' b = atom-same env env' b (agree-left (atom_vars b) [] env env' (agree-right (atom_vars a) (all_vars (b ∷ [])) env env' os)) in
    ap (λ v. if compares c v (atom_word env b) then does f t env w else does f u env w) first
    ∙ ap (λ v. if compares c (atom_word env' a) v then does f t env w else does f u env w) second
    ∙ either_alike (compares c (atom_word env' a) (atom_word env' b)) (does f t env' w) (does f u env' w) (does f t env w) (does f u env w)
    (depends f t env env' w (agree-left (live t) (live u) env env' arms)) (depends f u env env' w (agree-right (live t) (live u) env env' arms))
depends f (Jump l bs) env env' w h = ap (λ ws. f l ws w) (atoms-same env env' bs h)
depends f (Halt n bs) env env' w h = ap (λ ws. over (ended n ws) w) (atoms-same env env' bs h)

-- ---- names and words

-- what stands for a known variable has known variables
abbrev pub AreOwn : List ℕ → Names → Type 0
AreOwn known σ = (x : ℕ) → is_in x known ≡ true → Within (atom_vars (σ x)) known

own_at : (b : Bool) (known : List ℕ) (σ : Names) (x y : ℕ) (a : Atom) → nat_eq y x ≡ b → AreOwn known σ → σ x ≡ a → Within (atom_vars a) (x ∷ known) → (b || is_in y known) ≡ true → Within (atom_vars (σ y)) (x ∷ known)
own_at true known σ x y a e own at within i = λ z j. within z (subst (λ v. is_in z (atom_vars v) ≡ true) (ap σ (same-number y x e) ∙ at) j)
own_at false known σ x y a e own at within i = λ z j. in-right z (x ∷ []) known (own y i z j)

pub own_more : (known : List ℕ) (σ : Names) (x : ℕ) (a : Atom) → AreOwn known σ → σ x ≡ a → Within (atom_vars a) (x ∷ known) → AreOwn (x ∷ known) σ
own_more known σ x a own at within = λ y i. own_at (nat_eq y x) known σ x y a refl own at within i

pub own_var : (x : ℕ) (known : List ℕ) → Within (atom_vars (Var x)) (x ∷ known)
own_var x known = λ y e. first-or-rest y x [] e (λ p. in-left y (x ∷ []) known e) (λ p. absurd (false≢true p))

pub own_list : (known : List ℕ) (σ : Names) (xs : List ℕ) → AreOwn known σ → ((y : ℕ) → is_in y xs ≡ true → σ y ≡ Var y) → AreOwn (xs ++ known) σ
own_list known σ xs own itself =
    λ y i. either y xs known i
    (λ p z j. in-left z xs known (first-or-rest z y [] (subst (λ v. is_in z (atom_vars v) ≡ true) (itself y p) j) (λ q. subst (λ v. is_in v xs ≡ true) (sym (same-number z y q)) p) (λ q. absurd (false≢true q))))
    (λ p z j. in-right z xs known (own y p z j))

same_at : (b : Bool) {known : List ℕ} {σ : Names} {env new : Env} (x y v : ℕ) → nat_eq y x ≡ b → Agrees known σ env new → atom_word new (σ x) ≡ v → (b || is_in y known) ≡ true → atom_word new (σ y) ≡ (if b then v else env y)
same_at true {σ = σ} {new = new} x y v e h word i = ap (λ z. atom_word new (σ z)) (same-number y x e) ∙ word
same_at false x y v e h word i = h.at y i

-- another name more
pub agrees_same : {known : List ℕ} {σ : Names} {env new : Env} (x v : ℕ) → Agrees known σ env new → atom_word new (σ x) ≡ v → Agrees (x ∷ known) σ (assigned env x v) new
agrees_same x v h word = record { at = λ y i. same_at (nat_eq y x) x y v refl h word i }

assigned_other : (env : Env) (x v y : ℕ) → nat_eq y x ≡ false → assigned env x v y ≡ env y
assigned_other env x v y e = ap (λ b. if b then v else env y) e

-- a variable more on both sides
pub agrees_kept : {known : List ℕ} {σ : Names} {env new : Env} (x v : ℕ) → Agrees known σ env new → AreOwn known σ → σ x ≡ Var x → is_in x known ≡ false → Agrees (x ∷ known) σ (assigned env x v) (assigned new x v)
agrees_kept {known} {σ} {env} {new} x v h own itself fresh =
    agrees_same x v
    (record { at = λ y i. atom-same (assigned new x v) new (σ y) (λ z j. assigned_other new x v z (not_same x z known fresh (own y i z j))) ∙ h.at y i })
    (ap (atom_word (assigned new x v)) itself ∙ ap (λ b. if b then v else new x) (eq-eqb x x refl))

outside : (env : Env) (xs ws : List ℕ) (y : ℕ) → is_in y xs ≡ false → assigned_all env xs ws y ≡ env y
outside env [] ws y e = refl
outside env (x ∷ xs) [] y e = let parts = or_parts (nat_eq y x) (is_in y xs) e in outside (assigned env x 0) xs [] y parts.1 ∙ assigned_other env x 0 y parts.0
outside env (x ∷ xs) (w ∷ ws) y e = let parts = or_parts (nat_eq y x) (is_in y xs) e in outside (assigned env x w) xs ws y parts.1 ∙ assigned_other env x w y parts.0

-- several variables more on both sides
pub agrees_read : {known : List ℕ} {σ : Names} {env new : Env} (xs ws : List ℕ) → Agrees known σ env new → AreOwn known σ → ((y : ℕ) → is_in y xs ≡ true → σ y ≡ Var y) → Apart xs known → Agrees (xs ++ known) σ (assigned_all env xs ws) (assigned_all new xs ws)
agrees_read {known} {σ} {env} {new} xs ws h own itself apart = record {
  at = λ y i. either-way y i;
}
  where
    before : (y : ℕ) → is_in y known ≡ true → atom_word (assigned_all new xs ws) (σ y) ≡ assigned_all env xs ws y
    before y i =
        atom-same (assigned_all new xs ws) new (σ y) (λ z j. outside new xs ws z (turned z (own y i z j)))
        ∙ h.at y i ∙ sym (outside env xs ws y (turned y i))
      where
        turned : (z : ℕ) → is_in z known ≡ true → is_in z xs ≡ false
        turned z k = false_from_ne_true (is_in z xs) (λ p. in-not-out z known k (apart z p))

    here : (y : ℕ) → is_in y xs ≡ true → atom_word (assigned_all new xs ws) (σ y) ≡ assigned_all env xs ws y
    here y i =
        ap (atom_word (assigned_all new xs ws)) (itself y i) ∙ agree-all xs ws [] new env (λ z j. absurd (false≢true j)) y (in-left y xs [] i)

    either-way : (y : ℕ) → is_in y (xs ++ known) ≡ true → atom_word (assigned_all new xs ws) (σ y) ≡ assigned_all env xs ws y
    either-way y i = either y xs known i (here y) (before y)

-- ---- trees

module _ (A : Answers) (sound : AllSound A) (σ : Names) (f g : Next) (jumps : (l : ℕ) (ws : List ℕ) (w : World) → All IsWord ws → HasSizes w.packet → g l ws w ≡ f l ws w) where
  pub means : (t u : Tree) (known : List ℕ) → Simplified A σ t u → Fits known t → AreOwn known σ → (env new : Env) (w : World) → Agrees known σ env new → IsEnv new → HasSizes w.packet → does g u new w ≡ does f t env w
  means t u known (same x p a t' u' answered at rest) fits own env new w h words sizes =
      means t' u' (x ∷ known) rest fits.3
      (own_more known σ x a own at (λ y e. in-right y (x ∷ []) known (image_known σ (prim_vars p) known fits.0 own y (prim_image σ p y (answered_uses A sound (prim_renamed σ p) (Same a) answered y e)))))
      (assigned env x (prim_word env p)) new w
      (agrees_same x (prim_word env p) h (ap (atom_word new) at ∙ answered_word A sound (prim_renamed σ p) (Same a) answered new words ∙ prim_agrees h p fits.0)) words sizes
  means t u known (kept x p q t' u' answered other at rest) fits own env new w h words sizes =
      let word : prim_word new q ≡ prim_word env p = answered_word A sound (prim_renamed σ p) q answered new words ∙ prim_agrees h p fits.0 in
      means t' u' (x ∷ known) rest fits.3 (own_more known σ x (Var x) own at (own_var x known)) (assigned env x (prim_word new q)) (assigned new x (prim_word new q)) w
      (agrees_kept x (prim_word new q) h own at fits.2) (assigned-env new x (prim_word new q) words (prim-fits new q words (answered_count A sound (prim_renamed σ p) q answered (count_renamed σ p fits.1)))) sizes
      ∙ ap (λ v. does f t' (assigned env x v) w) word
  means t u known (dropped x p q t' u' answered at unused rest) fits own env new w h words sizes =
      let word : prim_word new q ≡ prim_word env p = answered_word A sound (prim_renamed σ p) q answered new words ∙ prim_agrees h p fits.0 in
      depends g u' new (assigned new x (prim_word new q)) w (λ y i. sym (assigned_other new x (prim_word new q) y (not_same x y (uses u') unused (live_uses u' y i))))
      ∙ means t' u' (x ∷ known) rest fits.3 (own_more known σ x (Var x) own at (own_var x known)) (assigned env x (prim_word new q)) (assigned new x (prim_word new q)) w
      (agrees_kept x (prim_word new q) h own at fits.2) (assigned-env new x (prim_word new q) words (prim-fits new q words (answered_count A sound (prim_renamed σ p) q answered (count_renamed σ p fits.1)))) sizes
      ∙ ap (λ v. does f t' (assigned env x v) w) word
  means t u known (read m xs a t' u' itself rest) fits own env new w h words sizes =
      ap (λ v. read_words m v (length xs) w (λ ws. does g u' (assigned_all new xs ws) w)) (atom_agrees h a fits.0)
      ∙ read_alike m (atom_word env a) (length xs) w (λ ws. does f t' (assigned_all env xs ws) w) (λ ws. does g u' (assigned_all new xs ws) w)
      (λ ws e. means t' u' (xs ++ known) rest fits.2 (own_list known σ xs own itself) (assigned_all env xs ws) (assigned_all new xs ws) w (agrees_read xs ws h own itself fits.1)
      (assigned-all-env new xs ws words (fetched-words m (atom_word env a) (length xs) w.packet ws sizes e).1) sizes)
  means t u known (write m a bs t' u' rest) fits own env new w h words sizes =
      let at = atom_agrees h a (λ y e. fits.0 y (in-left y (atom_vars a) (all_vars bs) e)) in
      let vs = atoms_agree h bs (λ y e. fits.0 y (in-right y (atom_vars a) (all_vars bs) e)) in
      ap (λ v. write_words m v (atom_words new (all_renamed σ bs)) w (λ v. does g u' new v)) at
      ∙ write_alike m (atom_word env a) (atom_words new (all_renamed σ bs)) w (λ v. does f t' env v) (λ v. does g u' new v)
      (λ p e. means t' u' known rest fits.1 own env new (wrote m (atom_word env a) (atom_words new (all_renamed σ bs)) p w) h words
      (stored-sizes m (atom_word env a) (atom_words new (all_renamed σ bs)) w.packet p sizes (atoms-fit new (all_renamed σ bs) words) e))
      ∙ ap (λ v. write_words m (atom_word env a) v w (λ v. does f t' env v)) vs
  means t u known (choice c a b t1 t2 u1 u2 left right) fits own env new w h words sizes =
      ap (λ v. if compares c v (atom_word new (renamed σ b)) then does g u1 new w else does g u2 new w) (atom_agrees h a (λ y e. fits.0 y (in-left y (atom_vars a) (all_vars (b ∷ [])) e)))
      ∙ ap (λ v. if compares c (atom_word env a) v then does g u1 new w else does g u2 new w) (atom_agrees h b (λ y e. fits.0 y (in-right y (atom_vars a) (all_vars (b ∷ [])) (in-left y (atom_vars b) [] e))))
      ∙ either_alike (compares c (atom_word env a) (atom_word env b)) (does f t1 env w) (does f t2 env w) (does g u1 new w) (does g u2 new w)
      (means t1 u1 known left fits.1 own env new w h words sizes) (means t2 u2 known right fits.2 own env new w h words sizes)
  means t u known (jump l bs) fits own env new w h words sizes =
      jumps l (atom_words new (all_renamed σ bs)) w (atoms-fit new (all_renamed σ bs) words) sizes ∙ ap (λ ws. f l ws w) (atoms_agree h bs fits)
  means t u known (halt n bs) fits own env new w h words sizes = ap (λ ws. over (ended n ws) w) (atoms_agree h bs fits)
