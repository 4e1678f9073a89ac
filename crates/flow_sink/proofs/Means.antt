-- A tree whose definitions sink does the same.
use Rattle.std.proofs.Common.{◌≡◌, ℕ, Bool, true, false, not, nat_eq, List, [], ◌∷◌, ◌++◌, refl, sym, ap, subst, ◌∙◌, length, if◌then◌else◌}
use Rattle.std.proofs.Math.Path.{fun_ext}
use Rattle.std.proofs.lemmas.Bool.{and_parts, or_parts, not-true, false≢true}
use Rattle.nv_base.specs.declared.term.Atom.{Atom}
use Rattle.nv_base.specs.declared.term.Primitive.{Primitive}
use Rattle.nv_base.specs.Meanings.{FullOutcome}
use Rattle.nv_base.specs.Sets.{is_in, all_vars}
use Rattle.nv_base.specs.Words.{Env, assigned, assigned_all, atom_word, atom_words, prim_word, atom_vars, prim_vars, compares}
use Rattle.nv_base.specs.World.{World, read_words, wrote, write_words}
use Rattle.nv_base.proofs.Operands.{atom-same, atoms-same, prim-same}
use Rattle.nv_base.proofs.Sets.{same-number}
use Rattle.cps_rules.proofs.Means.{read_alike, write_alike, depends}
use Rattle.flow_ir.specs.Formed.{defined}
use Rattle.flow_ir.specs.Meaning.{Next, does}
use Rattle.flow_ir.specs.Tree.{Tree, Let, Read, Write, If, Jump, Halt}
use Rattle.flow_ir.specs.Wide.{uses}
use Rattle.flow_ir.specs.inner.Scoped.{Apart, Fits}
use Rattle.flow_ir.proofs.Members.{in-first, in-rest, out-both}
use Rattle.flow_ir.proofs.Scopes.{not_same, fits_apart, live_uses}
use Rattle.flow_sink.specs.Sunk.{differ, sinks}
use Rattle.flow_sink.specs.inner.Sinking.{placed, lowered, sunk}
use Rattle.flow_sink.proofs.Lowering.{at_if, placed_at, differ_first, apart_sunk}

-- ---- assignments

pub other : (env : Env) (x v y : ℕ) → nat_eq y x ≡ false → assigned env x v y ≡ env y
other env x v y e = ap (λ b. if b then v else env y) e

others : (xs ws : List ℕ) (env : Env) (y : ℕ) → is_in y xs ≡ false → assigned_all env xs ws y ≡ env y
others [] ws env y e = refl
others (x ∷ xs) [] env y e = let parts = or_parts (nat_eq y x) (is_in y xs) e in others xs [] (assigned env x 0) y parts.1 ∙ other env x 0 y parts.0
others (x ∷ xs) (w ∷ ws) env y e = let parts = or_parts (nat_eq y x) (is_in y xs) e in others xs ws (assigned env x w) y parts.1 ∙ other env x w y parts.0

swap_at : (b c : Bool) (v w u : ℕ) → (b ≡ true → c ≡ true → ⊥) → (if b then v else (if c then w else u)) ≡ (if c then w else (if b then v else u))
swap_at true true v w u h = absurd (h refl refl)
swap_at true false v w u h = refl
swap_at false true v w u h = refl
swap_at false false v w u h = refl

-- in the other order
pub swap : (env : Env) (x z v w : ℕ) → nat_eq x z ≡ false → assigned (assigned env z w) x v ≡ assigned (assigned env x v) z w
swap env x z v w n = fun_ext (λ y. swap_at (nat_eq y x) (nat_eq y z) v w (env y) (λ i j. false≢true (sym n ∙ subst (λ k. nat_eq k z ≡ true) (same-number y x i) j)))

swap_all : (xs ws : List ℕ) (env : Env) (x v : ℕ) → is_in x xs ≡ false → assigned (assigned_all env xs ws) x v ≡ assigned_all (assigned env x v) xs ws
swap_all [] ws env x v n = refl
swap_all (z ∷ xs) [] env x v n = let parts = or_parts (nat_eq x z) (is_in x xs) n in swap_all xs [] (assigned env z 0) x v parts.1 ∙ ap (λ e. assigned_all e xs []) (swap env x z v 0 parts.0)
swap_all (z ∷ xs) (w ∷ ws) env x v n = let parts = or_parts (nat_eq x z) (is_in x xs) n in swap_all xs ws (assigned env z w) x v parts.1 ∙ ap (λ e. assigned_all e xs ws) (swap env x z v w parts.0)

-- ---- operands without x

atom_other : (env : Env) (x v : ℕ) (a : Atom) → is_in x (atom_vars a) ≡ false → atom_word env a ≡ atom_word (assigned env x v) a
atom_other env x v a none = atom-same env (assigned env x v) a (λ y i. sym (other env x v y (not_same x y (atom_vars a) none i)))

atoms_other : (env : Env) (x v : ℕ) (bs : List Atom) → is_in x (all_vars bs) ≡ false → atom_words env bs ≡ atom_words (assigned env x v) bs
atoms_other env x v bs none = atoms-same env (assigned env x v) bs (λ y i. sym (other env x v y (not_same x y (all_vars bs) none i)))

pub prim_other : (env : Env) (x v : ℕ) (p : Primitive) → is_in x (prim_vars p) ≡ false → prim_word env p ≡ prim_word (assigned env x v) p
prim_other env x v p none = prim-same env (assigned env x v) p (λ y i. sym (other env x v y (not_same x y (prim_vars p) none i)))

pub arms_alike : (b : Bool) (r s r' s' : FullOutcome) → r' ≡ r → s' ≡ s → (if b then r' else s') ≡ (if b then r else s)
arms_alike true r s r' s' h k = h
arms_alike false r s r' s' h k = k

-- ---- a definition further down

module _ (f : Next) (x : ℕ) (p : Primitive) where
  lowered_means : (t : Tree) (env : Env) (w : World) → sinks x t ≡ true → is_in x (defined t) ≡ false → Apart (prim_vars p) (defined t) → does f (lowered x p t) env w ≡ does f t (assigned env x (prim_word env p)) w
  lowered_means (Let z q t) env w k n o =
      let v = prim_word env p in
      let on = and_parts (not (is_in x (prim_vars q))) (sinks x t) k in
      let out = or_parts (nat_eq x z) (is_in x (defined t)) n in
      let far : (y : ℕ) → is_in y (prim_vars p) ≡ true → (nat_eq y z ≡ false) × (is_in y (defined t) ≡ false) = λ y i. or_parts (nat_eq y z) (is_in y (defined t)) (o y i) in
      let here = assigned env z (prim_word env q) in
      lowered_means t here w on.1 out.1 (λ y i. (far y i).1)
      ∙ ap (λ u. does f t (assigned here x u) w) (prim-same here env p (λ y i. other env z (prim_word env q) y (far y i).0))
      ∙ ap (λ e. does f t e w) (swap env x z v (prim_word env q) out.0)
      ∙ ap (λ u. does f t (assigned (assigned env x v) z u) w) (prim_other env x v q (not-true (is_in x (prim_vars q)) on.0))
  lowered_means (Read m xs a t) env w k n o =
      let v = prim_word env p in
      let on = and_parts (not (is_in x (atom_vars a))) (sinks x t) k in
      let out = out-both x xs (defined t) n in
      let far : (y : ℕ) → is_in y (prim_vars p) ≡ true → (is_in y xs ≡ false) × (is_in y (defined t) ≡ false) = λ y i. out-both y xs (defined t) (o y i) in
      read_alike m (atom_word env a) (length xs) w (λ ws. does f t (assigned_all (assigned env x v) xs ws) w) (λ ws. does f (lowered x p t) (assigned_all env xs ws) w)
      (λ ws found. lowered_means t (assigned_all env xs ws) w on.1 out.1 (λ y i. (far y i).1)
      ∙ ap (λ u. does f t (assigned (assigned_all env xs ws) x u) w) (prim-same (assigned_all env xs ws) env p (λ y i. others xs ws env y (far y i).0))
      ∙ ap (λ e. does f t e w) (swap_all xs ws env x v out.0))
      ∙ ap (λ at. read_words m at (length xs) w (λ ws. does f t (assigned_all (assigned env x v) xs ws) w)) (atom_other env x v a (not-true (is_in x (atom_vars a)) on.0))
  lowered_means (Write m a bs t) env w k n o =
      let v = prim_word env p in
      let new = assigned env x v in
      let on = and_parts (not (is_in x (all_vars (a ∷ bs)))) (sinks x t) k in
      let none = out-both x (atom_vars a) (all_vars bs) (not-true (is_in x (all_vars (a ∷ bs))) on.0) in
      write_alike m (atom_word env a) (atom_words env bs) w (λ u. does f t new u) (λ u. does f (lowered x p t) env u) (λ q found. lowered_means t env (wrote m (atom_word env a) (atom_words env bs) q w) on.1 n o)
      ∙ ap (λ at. write_words m at (atom_words env bs) w (λ u. does f t new u)) (atom_other env x v a none.0)
      ∙ ap (λ ws. write_words m (atom_word new a) ws w (λ u. does f t new u)) (atoms_other env x v bs none.1)
  lowered_means (If c a b t u) env w k n o =
      let v = prim_word env p in
      let new = assigned env x v in
      let on = and_parts (not (is_in x (all_vars (a ∷ b ∷ [])))) (differ (is_in x (uses t)) (is_in x (uses u))) k in
      let none = out-both x (atom_vars a) (atom_vars b ++ []) (not-true (is_in x (all_vars (a ∷ b ∷ []))) on.0) in
      let last = out-both x (atom_vars b) [] none.1 in
      let out = out-both x (defined t) (defined u) n in
      let far : (y : ℕ) → is_in y (prim_vars p) ≡ true → (is_in y (defined t) ≡ false) × (is_in y (defined u) ≡ false) = λ y i. out-both y (defined t) (defined u) (o y i) in
      let t' = placed x p t (lowered x p t) in
      let u' = placed x p u (lowered x p u) in
      let same : (r : Tree) → is_in x (uses r) ≡ false → does f r env w ≡ does f r new w = λ r i. depends f r env new w (λ y j. sym (other env x v y (not_same x y (uses r) i (live_uses r y j)))) in
      let whole : (r s : Tree) → does f r env w ≡ does f t new w → does f s env w ≡ does f u new w → does f (If c a b r s) env w ≡ does f (If c a b t u) new w =
      λ r s e g.
      arms_alike (compares c (atom_word env a) (atom_word env b)) (does f t new w) (does f u new w) (does f r env w) (does f s env w) e g
      ∙ ap (λ z. if compares c z (atom_word env b) then does f t new w else does f u new w) (atom_other env x v a none.0)
      ∙ ap (λ z. if compares c (atom_word new a) z then does f t new w else does f u new w) (atom_other env x v b last.0) in
      at_if (λ r. does f r env w ≡ does f (If c a b t u) new w) (is_in x (uses t)) (If c a b t' u) (If c a b t u')
      (λ i. whole t' u (placed_at (λ r. does f r env w ≡ does f t new w) x p t (lowered x p t) (λ s. lowered_means t env w s out.0 (λ y j. (far y j).0)) (λ s. refl)) (same u (differ_first (is_in x (uses t)) (is_in x (uses u)) on.1 i)))
      (λ i. whole t u' (same t i) (placed_at (λ r. does f r env w ≡ does f u new w) x p u (lowered x p u) (λ s. lowered_means u env w s out.1 (λ y j. (far y j).1)) (λ s. refl)))
  lowered_means (Jump l bs) env w k n o = absurd (false≢true k)
  lowered_means (Halt e bs) env w k n o = absurd (false≢true k)

-- ---- all of them

-- a definition's variable and operands are defined nowhere below it
pub far_below : (x : ℕ) (p : Primitive) (t : Tree) (known : List ℕ) → Fits known (Let x p t) → (is_in x (defined (sunk t)) ≡ false) × Apart (prim_vars p) (defined (sunk t))
far_below x p t known fits = let out = apart_sunk (x ∷ known) t (fits_apart (x ∷ known) t fits.3) in (out x (in-first x known), λ y i. out y (in-rest y x known (fits.0 y i)))

pub sunk_means : (f : Next) (t : Tree) (known : List ℕ) (env : Env) (w : World) → Fits known t → does f (sunk t) env w ≡ does f t env w
sunk_means f (Let x p t) known env w fits =
    let new = assigned env x (prim_word env p) in
    let far = far_below x p t known fits in
    let below = sunk_means f t (x ∷ known) new w fits.3 in
    placed_at (λ r. does f r env w ≡ does f t new w) x p (sunk t) (lowered x p (sunk t)) (λ s. lowered_means f x p (sunk t) env w s far.0 far.1 ∙ below) (λ s. below)
sunk_means f (Read m xs a t) known env w fits =
    read_alike m (atom_word env a) (length xs) w (λ ws. does f t (assigned_all env xs ws) w) (λ ws. does f (sunk t) (assigned_all env xs ws) w) (λ ws found. sunk_means f t (xs ++ known) (assigned_all env xs ws) w fits.2)
sunk_means f (Write m a bs t) known env w fits =
    write_alike m (atom_word env a) (atom_words env bs) w (λ v. does f t env v) (λ v. does f (sunk t) env v) (λ q found. sunk_means f t known env (wrote m (atom_word env a) (atom_words env bs) q w) fits.1)
sunk_means f (If c a b t u) known env w fits =
    arms_alike (compares c (atom_word env a) (atom_word env b)) (does f t env w) (does f u env w) (does f (sunk t) env w) (does f (sunk u) env w) (sunk_means f t known env w fits.1) (sunk_means f u known env w fits.2)
sunk_means f (Jump l bs) known env w fits = refl
sunk_means f (Halt e bs) known env w fits = refl
