-- A copy does the same, in fewer jumps.
use Rattle.std.proofs.Common.{◌≡◌, ℕ, suc, ◌+◌, ◌<◌, ◌≤◌, Bool, true, false, not, nat_eq, List, [], ◌∷◌, ◌++◌, Option, Some, None, refl, sym, ap, subst, ◌∙◌, length, if◌then◌else◌, slice_get, arith}
use Rattle.std.specs.Prelude.{⊤}
use Rattle.std.specs.List.{range_with_len}
use Rattle.std.proofs.lemmas.Bool.{false≢true, eq-eqb}
use Rattle.std.proofs.lemmas.List.FromFn.{length-range_with_len}
use Rattle.std.proofs.lemmas.Option.{none-some, same_Some}
use Rattle.nv_base.specs.declared.term.Atom.{Atom}
use Rattle.nv_base.specs.declared.term.Atom.TheVariants.{Var, Lit}
use Rattle.nv_base.specs.declared.term.Cmp.{Cmp}
use Rattle.nv_base.specs.declared.term.Mem.{Mem}
use Rattle.nv_base.specs.declared.outcome.Outcome.TheVariants as outcome
use Rattle.nv_base.specs.Memories.{Memories, fetched, stored}
use Rattle.nv_base.specs.Meanings.{FullOutcome}
use Rattle.nv_base.specs.Words.{Env, word, assigned, assigned_all, atom_word, atom_words, prim_word, atom_vars, compares, negated}
use Rattle.nv_base.specs.World.{World, over, ended, after_read, read_words, wrote, after_write, write_words}
use Rattle.nv_base.specs.Sets.{is_in, all_vars, Within}
use Rattle.nv_base.proofs.Sets.{in-later}
use Rattle.nv_base.proofs.WordLemmas.{negated_compares}
use Rattle.flow_ir.specs.Tree.{Tree, Label}
use Rattle.flow_ir.specs.Meaning.{Next, does, blank, enter, run}
use Rattle.flow_ir.specs.Substitution.{Names, renamed, all_renamed, prim_renamed}
use Rattle.flow_ir.proofs.Members.{in-first, in-left, in-right}
use Rattle.flow_ir.proofs.Renaming.{Agrees, atom_agrees, atoms_agree, prim_agrees}
use Rattle.flow_ir.specs.inner.Scoped.{Fits, IsScopedLabel}
use Rattle.flow_merge.proofs.Lookup.{in_other, not_equal, there}
use Rattle.flow_merge.specs.inner.Copied.{named, all_named, numbered, folded, Numbering, Copied, kept, read, write, choice, swapped, first, second, jump, halt, inside}
use Rattle.flow_merge.proofs.Naming.{named_case, named_here, named_else}

-- ---- what stands for known variables is below the numbers to come

abbrev pub IsBelow : ℕ → Atom → Type 0
IsBelow n (Var z) = z < n
IsBelow n (Lit v) = ⊤

abbrev pub Below : List ℕ → Names → ℕ → Type 0
Below known σ n = (y : ℕ) → is_in y known ≡ true → IsBelow n (σ y)

below_later : (a : Atom) (n k : ℕ) → n ≤ k → IsBelow n a → IsBelow k a
below_later (Var z) n k le h = omega arith
below_later (Lit v) n k le h = tt

pub below_more : (known : List ℕ) (σ : Names) (n k : ℕ) → n ≤ k → Below known σ n → Below known σ k
below_more known σ n k le h = λ y i. below_later (σ y) n k le (h y i)

-- a name more for an operand
below_named : (known : List ℕ) (σ : Names) (n x : ℕ) (a : Atom) → IsBelow n a → Below known σ n → Below (x ∷ known) (named σ x a) n
below_named known σ n x a at h =
    λ y i. named_case y x (λ e. subst (IsBelow n) (sym (named_here σ x y a e)) at) (λ e. subst (IsBelow n) (sym (named_else σ x y a e)) (h y (in_other (nat_eq y x) y known e i)))

pub below_kept : (known : List ℕ) (σ : Names) (n x : ℕ) → Below known σ n → Below (x ∷ known) (named σ x (Var n)) (n + 1)
below_kept known σ n x h = below_named known σ (n + 1) x (Var n) (let lt : n < n + 1 = omega arith in lt) (below_more known σ n (n + 1) (omega arith) h)

pub below_numbered : (xs known : List ℕ) (σ : Names) (n : ℕ) → Below known σ n → Below (xs ++ known) (numbered σ n xs) (n + length xs)
below_numbered [] known σ n h = below_more known σ n (n + 0) (omega arith) h
below_numbered (x ∷ xs) known σ n h =
    λ y i.
    let e : n + 1 + length xs ≡ n + suc (length xs) = omega arith in
    subst (λ k. IsBelow k (numbered (named σ x (Var n)) (n + 1) xs y)) e
    (below_numbered xs (x ∷ known) (named σ x (Var n)) (n + 1) (below_kept known σ n x h) y (in-later (nat_eq y x) y xs x known refl i))

abbrev AreBelow : ℕ → List Atom → Type 0
AreBelow n [] = ⊤
AreBelow n (a ∷ as') = IsBelow n a × AreBelow n as'

below_operands : (xs : List ℕ) (as' : List Atom) (known : List ℕ) (σ : Names) (n : ℕ) → AreBelow n as' → Below known σ n → Below (xs ++ known) (all_named σ xs as') n
below_operands [] as' known σ n all h = h
below_operands (x ∷ xs) [] known σ n all h = λ y i. below_operands xs [] (x ∷ known) (named σ x (Lit 0)) n tt (below_named known σ n x (Lit 0) tt h) y (in-later (nat_eq y x) y xs x known refl i)
below_operands (x ∷ xs) (a ∷ as') known σ n all h = λ y i. below_operands xs as' (x ∷ known) (named σ x a) n all.1 (below_named known σ n x a all.0 h) y (in-later (nat_eq y x) y xs x known refl i)

operand_below : (known : List ℕ) (σ : Names) (n : ℕ) (a : Atom) → Within (atom_vars a) known → Below known σ n → IsBelow n (renamed σ a)
operand_below known σ n (Var x) w h = h x (w x (in-first x []))
operand_below known σ n (Lit v) w h = tt

operands_below : (known : List ℕ) (σ : Names) (n : ℕ) (as' : List Atom) → Within (all_vars as') known → Below known σ n → AreBelow n (all_renamed σ as')
operands_below known σ n [] w h = tt
operands_below known σ n (a ∷ as') w h = (operand_below known σ n a (λ x e. w x (in-left x (atom_vars a) (all_vars as') e)) h, operands_below known σ n as' (λ x e. w x (in-right x (atom_vars a) (all_vars as') e)) h)

-- ---- words

below_word : (a : Atom) (n v : ℕ) (new : Env) → IsBelow n a → atom_word (assigned new n v) a ≡ atom_word new a
below_word (Var z) n v new lt = ap (λ b. if b then v else new z) (not_equal z n lt)
below_word (Lit w) n v new lt = refl

var_word : (n v : ℕ) (new : Env) → assigned new n v n ≡ v
var_word n v new = ap (λ b. if b then v else new n) (eq-eqb n n refl)

-- a variable more, under a new number
pub agrees_kept : {known : List ℕ} {σ : Names} {env new : Env} (x n v v' : ℕ) → v' ≡ v → Below known σ n → Agrees known σ env new → Agrees (x ∷ known) (named σ x (Var n)) (assigned env x v) (assigned new n v')
agrees_kept {known} {σ} {env} {new} x n v v' same below h = record {
  at = λ y i.
      named_case y x
      (λ e. ap (atom_word (assigned new n v')) (named_here σ x y (Var n) e) ∙ var_word n v' new ∙ same ∙ sym (ap (λ b. if b then v else env y) e))
      (λ e.
      let known_y = in_other (nat_eq y x) y known e i in
      ap (atom_word (assigned new n v')) (named_else σ x y (Var n) e) ∙ below_word (σ y) n v' new (below y known_y) ∙ h.at y known_y ∙ sym (ap (λ b. if b then v else env y) e));
}

agrees_in : {known more : List ℕ} {σ : Names} {env new : Env} → Within more known → Agrees known σ env new → Agrees more σ env new
agrees_in w h = record { at = λ y i. h.at y (w y i) }

pub agrees_numbered : (xs ws known : List ℕ) (σ : Names) (env new : Env) (n : ℕ) → Below known σ n → Agrees known σ env new → Agrees (xs ++ known) (numbered σ n xs) (assigned_all env xs ws) (assigned_all new (range_with_len n (length xs)) ws)
agrees_numbered [] ws known σ env new n below h = h
agrees_numbered (x ∷ xs) [] known σ env new n below h =
    agrees_in (λ y i. in-later (nat_eq y x) y xs x known refl i) (agrees_numbered xs [] (x ∷ known) (named σ x (Var n)) (assigned env x 0) (assigned new n 0) (n + 1) (below_kept known σ n x below) (agrees_kept x n 0 0 refl below h))
agrees_numbered (x ∷ xs) (w ∷ ws) known σ env new n below h =
    agrees_in (λ y i. in-later (nat_eq y x) y xs x known refl i) (agrees_numbered xs ws (x ∷ known) (named σ x (Var n)) (assigned env x w) (assigned new n w) (n + 1) (below_kept known σ n x below) (agrees_kept x n w w refl below h))

-- a variable more, for which an operand stands
agrees_named : {known : List ℕ} {σ : Names} {env new : Env} (x v : ℕ) (a : Atom) → atom_word new a ≡ v → Agrees known σ env new → Agrees (x ∷ known) (named σ x a) (assigned env x v) new
agrees_named {known} {σ} {env} {new} x v a word h = record {
  at = λ y i.
      named_case y x (λ e. ap (atom_word new) (named_here σ x y a e) ∙ word ∙ sym (ap (λ b. if b then v else env y) e))
      (λ e. ap (atom_word new) (named_else σ x y a e) ∙ h.at y (in_other (nat_eq y x) y known e i) ∙ sym (ap (λ b. if b then v else env y) e));
}

agrees_operands : (xs : List ℕ) (as' : List Atom) (known : List ℕ) (σ : Names) (env new : Env) → Agrees known σ env new → Agrees (xs ++ known) (all_named σ xs as') (assigned_all env xs (atom_words new as')) new
agrees_operands [] as' known σ env new h = h
agrees_operands (x ∷ xs) [] known σ env new h =
    agrees_in (λ y i. in-later (nat_eq y x) y xs x known refl i) (agrees_operands xs [] (x ∷ known) (named σ x (Lit 0)) (assigned env x 0) new (agrees_named x 0 (Lit 0) refl h))
agrees_operands (x ∷ xs) (a ∷ as') known σ env new h =
    agrees_in (λ y i. in-later (nat_eq y x) y xs x known refl i) (agrees_operands xs as' (x ∷ known) (named σ x a) (assigned env x (atom_word new a)) new (agrees_named x (atom_word new a) a refl h))

-- ---- comparisons

folded_compares : (c : Cmp) (a b : Atom) (v : Bool) (env : Env) → folded c a b ≡ Some v → compares c (atom_word env a) (atom_word env b) ≡ v
folded_compares c (Lit x) (Lit y) v env e = same_Some (compares c (word x) (word y)) v e
folded_compares c (Lit x) (Var y) v env e = absurd (none-some v e)
folded_compares c (Var x) b v env e = absurd (none-some v e)

-- ---- where another run comes

-- with some number of jumps it is at r; if r goes on, with at least n
abbrev pub Comes : ℕ → FullOutcome → (ℕ → FullOutcome) → Type 0
Comes n r s = (m : ℕ) × (r.outcome ≡ outcome.Going → n ≤ m) × (s m ≡ r)

comes_always : (n : ℕ) (r : FullOutcome) → Comes n r (λ i. r)
comes_always n r = (n, λ e. omega arith, refl)

comes_at : (n : ℕ) (r r' : FullOutcome) (s : ℕ → FullOutcome) → r ≡ r' → Comes n r s → Comes n r' s
comes_at n r r' s e h = subst (λ q. Comes n q s) e h

comes_read : (n : ℕ) (m : Mem) (at k : ℕ) (w : World) (f : List ℕ → FullOutcome) (s : List ℕ → ℕ → FullOutcome) → ((ws : List ℕ) → Comes n (f ws) (s ws)) → Comes n (read_words m at k w f) (λ i. read_words m at k w (λ ws. s ws i))
comes_read n m at k w f s h = after (fetched m at k w.packet)
  where
    after : (found : Option (List ℕ)) → Comes n (after_read found (over (outcome.Fault m at) w) f) (λ i. after_read found (over (outcome.Fault m at) w) (λ ws. s ws i))
    after (Some ws) = h ws
    after None = comes_always n (over (outcome.Fault m at) w)

comes_write : (n : ℕ) (m : Mem) (at : ℕ) (ws : List ℕ) (w : World) (f : World → FullOutcome) (s : World → ℕ → FullOutcome) → ((v : World) → Comes n (f v) (s v)) → Comes n (write_words m at ws w f) (λ i. write_words m at ws w (λ v. s v i))
comes_write n m at ws w f s h = after (stored m at ws w.packet)
  where
    after : (found : Option Memories) → Comes n (after_write found (over (outcome.Fault m at) w) (λ p. f (wrote m at ws p w))) (λ i. after_write found (over (outcome.Fault m at) w) (λ p. s (wrote m at ws p w) i))
    after (Some p) = h (wrote m at ws p w)
    after None = comes_always n (over (outcome.Fault m at) w)

comes_if : (b : Bool) (n : ℕ) (q r : FullOutcome) (s t : ℕ → FullOutcome) → Comes n q s → Comes n r t → Comes n (if b then q else r) (λ i. if b then s i else t i)
comes_if true n q r s t h k = h
comes_if false n q r s t h k = k

comes_negated : (b : Bool) (n : ℕ) (q r : FullOutcome) (s t : ℕ → FullOutcome) → Comes n q s → Comes n r t → Comes n (if not b then r else q) (λ i. if b then s i else t i)
comes_negated true n q r s t h k = h
comes_negated false n q r s t h k = k

comes_first : (b : Bool) (n : ℕ) (q : FullOutcome) (s t : ℕ → FullOutcome) → b ≡ true → Comes n q s → Comes n q (λ i. if b then s i else t i)
comes_first true n q s t e h = h
comes_first false n q s t e h = absurd (false≢true e)

comes_second : (b : Bool) (n : ℕ) (q : FullOutcome) (s t : ℕ → FullOutcome) → b ≡ false → Comes n q t → Comes n q (λ i. if b then s i else t i)
comes_second true n q s t e h = absurd (false≢true (sym e))
comes_second false n q s t e h = h

-- a jump more
pub comes_jump : (labels : List Label) (n l : ℕ) (o : Option Label) (ws : List ℕ) (w : World) (r : FullOutcome) → slice_get labels l ≡ o → Comes n r (λ i. enter (run labels i) o ws w) → (m : ℕ) × (r.outcome ≡ outcome.Going → suc n ≤ m) × (run labels m l ws w ≡ r)
comes_jump labels n l o ws w r e h = (suc h.0, λ g. let le = h.1 g in omega arith, ap (λ q. enter (run labels h.0) q ws w) e ∙ h.2)

-- ---- copies

pub grows : {labels : List Label} {s : Numbering} (σ : Names) (n k : ℕ) (t u : Tree) → Copied labels s σ n t u k → n ≤ k
grows σ n k t u (kept σ' n' k' x p t' u' rest) = let le = grows (named σ x (Var n)) (n + 1) k t' u' rest in omega arith
grows σ n k t u (read σ' n' k' m xs a t' u' rest) = let le = grows (numbered σ n xs) (n + length xs) k t' u' rest in omega arith
grows σ n k t u (write σ' n' k' m a bs t' u' rest) = grows σ n k t' u' rest
grows σ n k t u (choice σ' n' j k' c a b t1 t2 u1 u2 left right) = let one = grows σ n j t1 u1 left in let two = grows σ j k t2 u2 right in omega arith
grows σ n k t u (swapped σ' n' j k' c a b t1 t2 u1 u2 left right) = let one = grows σ n j t2 u2 left in let two = grows σ j k t1 u1 right in omega arith
grows σ n k t u (first σ' n' k' c a b t1 t2 v e rest) = grows σ n k t1 v rest
grows σ n k t u (second σ' n' k' c a b t1 t2 v e rest) = grows σ n k t2 v rest
grows σ n k t u (jump σ' n' l bs lt stays) = omega arith
grows σ n k t u (halt σ' n' e bs) = omega arith
grows σ n k t u (inside σ' n' k' l bs m v e rest) = grows (all_named σ m.params (all_renamed σ bs)) n k m.body v rest

abbrev pub AllInScope : List Label → Type 0
AllInScope labels = (l : ℕ) (m : Label) → slice_get labels l ≡ Some m → IsScopedLabel m

one-operand : (a b : Atom) (known : List ℕ) → Within (all_vars (a ∷ b ∷ [])) known → Within (atom_vars a) known × Within (atom_vars b) known
one-operand a b known w = (λ y e. w y (in-left y (atom_vars a) (atom_vars b ++ []) e), λ y e. w y (in-right y (atom_vars a) (atom_vars b ++ []) (in-left y (atom_vars b) [] e)))

module _ (labels : List Label) (s : Numbering) (scoped : AllInScope labels) (n : ℕ) (g : Next) (jumps : (l : ℕ) (m : Label) → slice_get labels l ≡ Some m → s.stays l ≡ true → (ws : List ℕ) (w : World) → Comes n (g (s.to l) ws w) (λ i. run labels i l ws w)) where
  pub does_comes : (known : List ℕ) (σ : Names) (a k : ℕ) (t u : Tree) (env new : Env) (w : World) → Copied labels s σ a t u k → Fits known t → Below known σ a → Agrees known σ env new → Comes n (does g u new w) (λ i. does (run labels i) t env w)
  does_comes known σ a k t u env new w (kept σ' a' k' x p t' u' rest) fits below h =
      does_comes (x ∷ known) (named σ x (Var a)) (a + 1) k t' u' (assigned env x (prim_word env p)) (assigned new a (prim_word new (prim_renamed σ p))) w rest fits.3 (below_kept known σ a x below)
      (agrees_kept x a (prim_word env p) (prim_word new (prim_renamed σ p)) (prim_agrees h p fits.0) below h)
  does_comes known σ a k t u env new w (read σ' a' k' m xs b t' u' rest) fits below h =
      let ys = range_with_len a (length xs) in
      let at : atom_word env b ≡ atom_word new (renamed σ b) = sym (atom_agrees h b fits.0) in
      let long : length xs ≡ length ys = sym (length-range_with_len a (length xs)) in
      let go : List ℕ → FullOutcome = λ ws. does g u' (assigned_all new ys ws) w in
      comes_at n (read_words m (atom_word env b) (length xs) w go) (read_words m (atom_word new (renamed σ b)) (length ys) w go) (λ i. does (run labels i) t env w)
      (ap (λ v. read_words m v (length xs) w go) at ∙ ap (λ v. read_words m (atom_word new (renamed σ b)) v w go) long)
      (comes_read n m (atom_word env b) (length xs) w go (λ ws i. does (run labels i) t' (assigned_all env xs ws) w)
      (λ ws. does_comes (xs ++ known) (numbered σ a xs) (a + length xs) k t' u' (assigned_all env xs ws) (assigned_all new ys ws) w rest fits.2 (below_numbered xs known σ a below) (agrees_numbered xs ws known σ env new a below h)))
  does_comes known σ a k t u env new w (write σ' a' k' m b bs t' u' rest) fits below h =
      let at : atom_word env b ≡ atom_word new (renamed σ b) = sym (atom_agrees h b (λ y e. fits.0 y (in-left y (atom_vars b) (all_vars bs) e))) in
      let words : atom_words env bs ≡ atom_words new (all_renamed σ bs) = sym (atoms_agree h bs (λ y e. fits.0 y (in-right y (atom_vars b) (all_vars bs) e))) in
      let go : World → FullOutcome = λ v. does g u' new v in
      comes_at n (write_words m (atom_word env b) (atom_words env bs) w go) (write_words m (atom_word new (renamed σ b)) (atom_words new (all_renamed σ bs)) w go) (λ i. does (run labels i) t env w)
      (ap (λ v. write_words m v (atom_words env bs) w go) at ∙ ap (λ v. write_words m (atom_word new (renamed σ b)) v w go) words)
      (comes_write n m (atom_word env b) (atom_words env bs) w go (λ v i. does (run labels i) t' env v) (λ v. does_comes known σ a k t' u' env new v rest fits.1 below h))
  does_comes known σ a k t u env new w (choice σ' a' j k' c b d t1 t2 u1 u2 left right) fits below h =
      let os = one-operand b d known fits.0 in
      let x : atom_word env b ≡ atom_word new (renamed σ b) = sym (atom_agrees h b os.0) in
      let y : atom_word env d ≡ atom_word new (renamed σ d) = sym (atom_agrees h d os.1) in
      let q = does g u1 new w in
      let r = does g u2 new w in
      comes_at n (if compares c (atom_word env b) (atom_word env d) then q else r) (if compares c (atom_word new (renamed σ b)) (atom_word new (renamed σ d)) then q else r) (λ i. does (run labels i) t env w)
      (ap (λ v. if compares c v (atom_word env d) then q else r) x ∙ ap (λ v. if compares c (atom_word new (renamed σ b)) v then q else r) y)
      (comes_if (compares c (atom_word env b) (atom_word env d)) n q r (λ i. does (run labels i) t1 env w) (λ i. does (run labels i) t2 env w)
      (does_comes known σ a j t1 u1 env new w left fits.1 below h) (does_comes known σ j k t2 u2 env new w right fits.2 (below_more known σ a j (grows σ a j t1 u1 left) below) h))
  does_comes known σ a k t u env new w (swapped σ' a' j k' c b d t1 t2 u1 u2 left right) fits below h =
      let os = one-operand b d known fits.0 in
      let x : atom_word env b ≡ atom_word new (renamed σ b) = sym (atom_agrees h b os.0) in
      let y : atom_word env d ≡ atom_word new (renamed σ d) = sym (atom_agrees h d os.1) in
      let q = does g u1 new w in
      let r = does g u2 new w in
      comes_at n (if not (compares c (atom_word env b) (atom_word env d)) then r else q) (if compares (negated c) (atom_word new (renamed σ b)) (atom_word new (renamed σ d)) then r else q) (λ i. does (run labels i) t env w)
      (ap (λ v. if not (compares c v (atom_word env d)) then r else q) x ∙ ap (λ v. if not (compares c (atom_word new (renamed σ b)) v) then r else q) y
      ∙ ap (λ v. if v then r else q) (sym (negated_compares c (atom_word new (renamed σ b)) (atom_word new (renamed σ d)))))
      (comes_negated (compares c (atom_word env b) (atom_word env d)) n q r (λ i. does (run labels i) t1 env w) (λ i. does (run labels i) t2 env w)
      (does_comes known σ j k t1 u1 env new w right fits.1 (below_more known σ a j (grows σ a j t2 u2 left) below) h) (does_comes known σ a j t2 u2 env new w left fits.2 below h))
  does_comes known σ a k t u env new w (first σ' a' k' c b d t1 t2 v e rest) fits below h =
      let os = one-operand b d known fits.0 in
      let holds : compares c (atom_word env b) (atom_word env d) ≡ true =
      ap (λ z. compares c z (atom_word env d)) (sym (atom_agrees h b os.0)) ∙ ap (λ z. compares c (atom_word new (renamed σ b)) z) (sym (atom_agrees h d os.1)) ∙ folded_compares c (renamed σ b) (renamed σ d) true new e in
      comes_first (compares c (atom_word env b) (atom_word env d)) n (does g u new w) (λ i. does (run labels i) t1 env w) (λ i. does (run labels i) t2 env w) holds (does_comes known σ a k t1 v env new w rest fits.1 below h)
  does_comes known σ a k t u env new w (second σ' a' k' c b d t1 t2 v e rest) fits below h =
      let os = one-operand b d known fits.0 in
      let fails : compares c (atom_word env b) (atom_word env d) ≡ false =
      ap (λ z. compares c z (atom_word env d)) (sym (atom_agrees h b os.0)) ∙ ap (λ z. compares c (atom_word new (renamed σ b)) z) (sym (atom_agrees h d os.1)) ∙ folded_compares c (renamed σ b) (renamed σ d) false new e in
      comes_second (compares c (atom_word env b) (atom_word env d)) n (does g u new w) (λ i. does (run labels i) t1 env w) (λ i. does (run labels i) t2 env w) fails (does_comes known σ a k t2 v env new w rest fits.2 below h)
  does_comes known σ a k t u env new w (jump σ' a' l bs lt stays) fits below h =
      let words : atom_words new (all_renamed σ bs) ≡ atom_words env bs = atoms_agree h bs fits in
      let m = there labels l lt in
      subst (λ ws. Comes n (g (s.to l) (atom_words new (all_renamed σ bs)) w) (λ i. run labels i l ws w)) words (jumps l m.0 m.1 stays (atom_words new (all_renamed σ bs)) w)
  does_comes known σ a k t u env new w (halt σ' a' e bs) fits below h =
      let words : atom_words env bs ≡ atom_words new (all_renamed σ bs) = sym (atoms_agree h bs fits) in
      comes_at n (over (ended e (atom_words env bs)) w) (over (ended e (atom_words new (all_renamed σ bs))) w) (λ i. does (run labels i) t env w) (ap (λ ws. over (ended e ws) w) words) (comes_always n (over (ended e (atom_words env bs)) w))
  does_comes known σ a k t u env new w (inside σ' a' k' l bs m v e rest) fits below h =
      let os = all_renamed σ bs in
      let words : atom_words new os ≡ atom_words env bs = atoms_agree h bs fits in
      let τ = all_named σ m.params os in
      let start : Env = assigned_all blank m.params (atom_words new os) in
      let none : Agrees [] σ blank new = record { at = λ y i. absurd (false≢true i) } in
      let front : Within m.params (m.params ++ []) = λ y i. in-left y m.params [] i in
      let there = does_comes m.params τ a k m.body v start new w rest (scoped l m e) (λ y i. below_operands m.params os [] σ a (operands_below known σ a bs fits below) (λ z j. absurd (false≢true j)) y (front y i)) (agrees_in front (agrees_operands m.params os [] σ blank new none)) in
      let far = comes_jump labels n l (Some m) (atom_words new os) w (does g u new w) e there in
      (far.0, λ i. let le = far.1 i in omega arith, ap (λ ws. run labels far.0 l ws w) (sym words) ∙ far.2)
