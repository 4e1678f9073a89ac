-- A tree whose choices that are decided are made does the same.
use Rattle.std.proofs.Common.{◌≡◌, ℕ, zero, suc, ◌+◌, ◌*◌, ◌≤◌, Bool, true, false, not, nat_eq, nat_le, ◌&&◌, refl, sym, ap, subst, ◌∙◌, List, [], ◌∷◌, ◌++◌, map, length, take, drop, Option, Some, None, slice_get, if◌then◌else◌, All, arith}
use Rattle.std.specs.List.{list_all}
use Rattle.std.proofs.lemmas.Bool.{and_parts, or_parts, false≢true, leb-true, eq-eqb}
use Rattle.std.proofs.lemmas.List.Elements.{All-nil, All-append, All-weaker}
use Rattle.nv_base.specs.declared.term.Atom.{Atom}
use Rattle.nv_base.specs.declared.term.Atom.TheVariants.{Var}
use Rattle.nv_base.specs.declared.term.Cmp.{Cmp}
use Rattle.nv_base.specs.declared.term.Mem.{Mem}
use Rattle.nv_base.specs.declared.term.Mem.TheVariants.{Sram, Sdram, Scratch}
use Rattle.nv_base.specs.declared.term.Primitive.{Primitive}
use Rattle.nv_base.specs.Access.{is_known, all_known, is_primitive, can_move, is_address}
use Rattle.nv_base.specs.Meanings.{AreEqual, FullOutcome}
use Rattle.nv_base.specs.Memories.{Memories, HasSizes, first_word, words_at, with_words, fetched, stored}
use Rattle.nv_base.specs.Sets.{is_in, all_vars, all_different, Within}
use Rattle.nv_base.specs.Words.{Env, IsEnv, IsWord, HasPrimCount, assigned, assigned_all, atom_word, atom_words, atom_vars, prim_word, compares, negated}
use Rattle.nv_base.specs.World.{World, begun, wrote}
use Rattle.nv_base.proofs.Sets.{same-number}
use Rattle.nv_base.proofs.Environments.{assigned-env, assigned-all-env, blank-env, atoms-fit, prim-fits}
use Rattle.nv_base.proofs.WordLemmas.{negated_compares, length-words}
use Rattle.nv_base.proofs.MemoryLemmas.{fetched-words, stored-sizes}
use Rattle.cps_rules.proofs.Means.{read_alike, write_alike}
use Rattle.flow_ir.specs.Formed.{defined as of_tree, is_formed, is_label, is_flow, is_entry}
use Rattle.flow_ir.specs.Meaning.{Next, does, blank, enter, run, flow_meaning, flow_params}
use Rattle.flow_ir.specs.Tree.{Tree, Let, Read, Write, If, Jump, Halt, Label}
use Rattle.flow_ir.specs.inner.Scoped.{Fits}
use Rattle.flow_ir.proofs.Members.{first-or-rest, in-first, in-rest, in-left, in-right, in-or-out, in-not-out}
use Rattle.flow_ir.proofs.Scopes.{label_fits, not_same}
use Rattle.flow_paths.specs.declared.facts.Fact.{Fact}
use Rattle.flow_paths.specs.Ranges.{from}
use Rattle.flow_paths.specs.Decided.{decided, told, accessed, defined, of_prim}
use Rattle.flow_paths.specs.inner.Walked.{chosen, walked, label_walked}
use Rattle.flow_paths.proofs.Bounds.{In}
use Rattle.flow_paths.proofs.Telling.{Holds, decided_word, bound_holds, told_holds, prim_word_in}

-- ---- facts go on

assigned_other : (env : Env) (x v y : ℕ) → nat_eq y x ≡ false → assigned env x v y ≡ env y
assigned_other env x v y e = ap (λ b. if b then v else env y) e

assigned_own : (env : Env) (x v : ℕ) → assigned env x v x ≡ v
assigned_own env x v = ap (λ b. if b then v else env x) (eq-eqb x x refl)

holds_on : {known more : List ℕ} {env : Env} (new : Env) (k : Fact) → ((y : ℕ) → is_in y known ≡ true → new y ≡ env y) → Within known more → Holds known env k → Holds more new k
holds_on new k same within h = record { variable = within k.variable h.variable; word = subst (In k.range) (sym (same k.variable h.variable)) h.word }

holds_let : {known : List ℕ} {env : Env} (x v : ℕ) → is_in x known ≡ false → (above : List Fact) → All (Holds known env) above → All (Holds (x ∷ known) (assigned env x v)) above
holds_let {known} {env} x v fresh above h =
    All-weaker (Holds known env) (Holds (x ∷ known) (assigned env x v)) (λ k. holds_on (assigned env x v) k (λ y i. assigned_other env x v y (not_same x y known fresh i)) (λ y i. in-rest y x known i)) above h

outside : (env : Env) (xs ws : List ℕ) (y : ℕ) → is_in y xs ≡ false → assigned_all env xs ws y ≡ env y
outside env [] ws y e = refl
outside env (x ∷ xs) [] y e = let parts = or_parts (nat_eq y x) (is_in y xs) e in outside (assigned env x 0) xs [] y parts.1 ∙ assigned_other env x 0 y parts.0
outside env (x ∷ xs) (w ∷ ws) y e = let parts = or_parts (nat_eq y x) (is_in y xs) e in outside (assigned env x w) xs ws y parts.1 ∙ assigned_other env x w y parts.0

holds_read : {known : List ℕ} {env : Env} (xs ws : List ℕ) → ((y : ℕ) → is_in y xs ≡ true → is_in y known ≡ false) → (above : List Fact) → All (Holds known env) above → All (Holds (xs ++ known) (assigned_all env xs ws)) above
holds_read {known} {env} xs ws apart above h =
    All-weaker (Holds known env) (Holds (xs ++ known) (assigned_all env xs ws))
    (λ k. holds_on (assigned_all env xs ws) k (λ y i. outside env xs ws y (in-or-out y xs (λ p. in-not-out y known i (apart y p)) (λ p. p))) (λ y i. in-right y xs known i)) above h

only_itself : (x : ℕ) (known : List ℕ) → Within (atom_vars (Var x)) (x ∷ known)
only_itself x known = λ y i. first-or-rest y x [] i (λ p. subst (λ z. is_in z (x ∷ known) ≡ true) (sym (same-number y x p)) (in-first x known)) (λ p. absurd (false≢true p))

holds_defined : (known : List ℕ) (env : Env) (x : ℕ) (p : Primitive) (above : List Fact) → IsEnv env → is_in x known ≡ false → HasPrimCount p → All (Holds known env) above → All (Holds (x ∷ known) (assigned env x (prim_word env p))) (above ++ defined above x p)
holds_defined known env x p above words fresh count h =
    let new = assigned env x (prim_word env p) in
    All-append (Holds (x ∷ known) new) above (defined above x p) (holds_let x (prim_word env p) fresh above h)
    (bound_holds (x ∷ known) new (assigned-env env x (prim_word env p) words (prim-fits env p words count)) (Var x) (of_prim above p) (only_itself x known)
    (subst (In (of_prim above p)) (sym (assigned_own env x (prim_word env p))) (prim_word_in known env words above p count h)))

-- ---- an access

reaches : (m : Mem) (at n : ℕ) (p : Memories) → HasSizes p → can_move m n ≡ true → nat_le (first_word m at + n) (length (words_at m p)) ≡ true → at ≤ 65535
reaches Sram at n p sizes move e =
    let le = sizes.sram.0 in let reach = leb-true (at + n) (length p.sram) e in let least = leb-true 1 n (and_parts (nat_le 1 n) (nat_le n 8) move).0 in omega (arith, le, reach, least)
reaches Scratch at n p sizes move e = let is = sizes.scratch.0 in let reach = leb-true (at + n) (length p.scratch) e in omega (arith, is, reach)
reaches Sdram at n p sizes move e = let le = sizes.sdram.1 in let is = sizes.sdram.2 in let reach = leb-true (2 * at + n) (length p.sdram) e in let least = at_least n move in omega (arith, le, is, reach, least)
  where
    at_least : (n : ℕ) → can_move Sdram n ≡ true → 2 ≤ n
    at_least zero f = absurd (false≢true f)
    at_least (suc zero) f = absurd (false≢true f)
    at_least (suc (suc n)) f = omega arith

read_at : (m : Mem) (at n : ℕ) (p : Memories) (ws : List ℕ) → HasSizes p → can_move m n ≡ true → fetched m at n p ≡ Some ws → at ≤ 65535
read_at m at n p ws sizes move e = by (nat_le (first_word m at + n) (length (words_at m p))) refl e
  where
    by : (b : Bool) → nat_le (first_word m at + n) (length (words_at m p)) ≡ b → (if b then Some (take n (drop (first_word m at) (words_at m p))) else None) ≡ Some ws → at ≤ 65535
    by true f s = reaches m at n p sizes move f
    by false f s = absurd (false≢true (ap (λ (o : Option (List ℕ)). elim o [ Some n ↦ true | None ↦ false ]) s))

written_at : (m : Mem) (at : ℕ) (ws : List ℕ) (p q : Memories) → HasSizes p → can_move m (length ws) ≡ true → stored m at ws p ≡ Some q → at ≤ 65535
written_at m at ws p q sizes move e = by (nat_le (first_word m at + length ws) (length (words_at m p))) refl e
  where
    by : (b : Bool) → nat_le (first_word m at + length ws) (length (words_at m p)) ≡ b → (if b then Some (with_words m p (take (first_word m at) (words_at m p) ++ ws ++ drop (first_word m at + length ws) (words_at m p))) else None) ≡ Some q → at ≤ 65535
    by true f s = reaches m at (length ws) p sizes move f
    by false f s = absurd (false≢true (ap (λ (o : Option Memories). elim o [ Some n ↦ true | None ↦ false ]) s))

holds_accessed : (known : List ℕ) (env : Env) (a : Atom) (above : List Fact) → IsEnv env → Within (atom_vars a) known → All (Holds known env) above → atom_word env a ≤ 65535 → All (Holds known env) (above ++ accessed a)
holds_accessed known env a above words within h le = All-append (Holds known env) above (accessed a) h (bound_holds known env words a (from 0 65535) within (record { low = omega arith; high = le }))

-- ---- choices

arms : (b : Bool) (r s r' s' : FullOutcome) → (b ≡ true → r' ≡ r) → (b ≡ false → s' ≡ s) → (if b then r' else s') ≡ (if b then r else s)
arms true r s r' s' h k = h refl
arms false r s r' s' h k = k refl

-- ---- trees

module _ (labels : List Label) (f g : Next) (jumps : (l : ℕ) (ws : List ℕ) (w : World) → All IsWord ws → HasSizes w.packet → g l ws w ≡ f l ws w) where
  one_of : (o : Option Bool) (c : Cmp) (a b : Atom) (env : Env) (w : World) (t u t' u' t'' u'' : Tree) → ((r : Bool) → o ≡ Some r → compares c (atom_word env a) (atom_word env b) ≡ r)
      → does g t' env w ≡ does f t env w → does g u' env w ≡ does f u env w
      → (compares c (atom_word env a) (atom_word env b) ≡ true → does g t'' env w ≡ does f t env w) → (compares c (atom_word env a) (atom_word env b) ≡ false → does g u'' env w ≡ does f u env w)
      → does g (chosen o t' u' (If c a b t'' u'')) env w ≡ (if compares c (atom_word env a) (atom_word env b) then does f t env w else does f u env w)
  one_of (Some true) c a b env w t u t' u' t'' u'' told p q r s = p ∙ ap (λ b. if b then does f t env w else does f u env w) (sym (told true refl))
  one_of (Some false) c a b env w t u t' u' t'' u'' told p q r s = q ∙ ap (λ b. if b then does f t env w else does f u env w) (sym (told false refl))
  one_of None c a b env w t u t' u' t'' u'' told p q r s = arms (compares c (atom_word env a) (atom_word env b)) (does f t env w) (does f u env w) (does g t'' env w) (does g u'' env w) r s

  pub means : (t : Tree) (above : List Fact) (known : List ℕ) (env : Env) (w : World) → is_formed labels known t ≡ true → Fits known t → All (Holds known env) above → IsEnv env → HasSizes w.packet → does g (walked above t) env w ≡ does f t env w
  means (Let x p t) above known env w formed fits h words sizes =
      let v = prim_word env p in
      means t (above ++ defined above x p) (x ∷ known) (assigned env x v) w (and_parts (is_primitive known p) (is_formed labels (x ∷ known) t) formed).1 fits.3
      (holds_defined known env x p above words fits.2 fits.1 h) (assigned-env env x v words (prim-fits env p words fits.1)) sizes
  means (Read m xs a t) above known env w formed fits h words sizes =
      let one = and_parts (is_known known a) (can_move m (length xs) && (is_address m a (length xs) && is_formed labels (xs ++ known) t)) formed in
      let two = and_parts (can_move m (length xs)) (is_address m a (length xs) && is_formed labels (xs ++ known) t) one.1 in
      let three = and_parts (is_address m a (length xs)) (is_formed labels (xs ++ known) t) two.1 in
      read_alike m (atom_word env a) (length xs) w (λ ws. does f t (assigned_all env xs ws) w) (λ ws. does g (walked (above ++ accessed a) t) (assigned_all env xs ws) w)
      (λ ws e. means t (above ++ accessed a) (xs ++ known) (assigned_all env xs ws) w three.1 fits.2
      (holds_read xs ws fits.1 (above ++ accessed a) (holds_accessed known env a above words fits.0 h (read_at m (atom_word env a) (length xs) w.packet ws sizes two.0 e)))
      (assigned-all-env env xs ws words (fetched-words m (atom_word env a) (length xs) w.packet ws sizes e).1) sizes)
  means (Write m a bs t) above known env w formed fits h words sizes =
      let one = and_parts (is_known known a) (all_known known bs && (can_move m (length bs) && (is_address m a (length bs) && is_formed labels known t))) formed in
      let two = and_parts (all_known known bs) (can_move m (length bs) && (is_address m a (length bs) && is_formed labels known t)) one.1 in
      let three = and_parts (can_move m (length bs)) (is_address m a (length bs) && is_formed labels known t) two.1 in
      let four = and_parts (is_address m a (length bs)) (is_formed labels known t) three.1 in
      let vs = atom_words env bs in
      let move : can_move m (length vs) ≡ true = ap (can_move m) (length-words env bs) ∙ three.0 in
      write_alike m (atom_word env a) vs w (λ v. does f t env v) (λ v. does g (walked (above ++ accessed a) t) env v)
      (λ p e. means t (above ++ accessed a) known env (wrote m (atom_word env a) vs p w) four.1 fits.1
      (holds_accessed known env a above words (λ y i. fits.0 y (in-left y (atom_vars a) (all_vars bs) i)) h (written_at m (atom_word env a) vs w.packet p sizes move e)) words
      (stored-sizes m (atom_word env a) vs w.packet p sizes (atoms-fit env bs words) e))
  means (If c a b t u) above known env w formed fits h words sizes =
      let one = and_parts (is_known known a) (is_known known b && (is_formed labels known t && is_formed labels known u)) formed in
      let two = and_parts (is_known known b) (is_formed labels known t && is_formed labels known u) one.1 in
      let three = and_parts (is_formed labels known t) (is_formed labels known u) two.1 in
      let first : Within (atom_vars a) known = λ y i. fits.0 y (in-left y (atom_vars a) (all_vars (b ∷ [])) i) in
      let second : Within (atom_vars b) known = λ y i. fits.0 y (in-right y (atom_vars a) (all_vars (b ∷ [])) (in-left y (atom_vars b) [] i)) in
      let yes = above ++ told above c a b in
      let no = above ++ told above (negated c) a b in
      let wa = atom_word env a in
      let wb = atom_word env b in
      one_of (decided above c a b) c a b env w t u (walked above t) (walked above u) (walked yes t) (walked no u)
      (λ r e. decided_word known env words above c a b r h e)
      (means t above known env w three.0 fits.1 h words sizes) (means u above known env w three.1 fits.2 h words sizes)
      (λ is. means t yes known env w three.0 fits.1 (told_holds known env words above c a b first second h is) words sizes)
      (λ is. means u no known env w three.1 fits.2 (told_holds known env words above (negated c) a b first second h (negated_compares c wa wb ∙ ap not is)) words sizes)
  means (Jump l bs) above known env w formed fits h words sizes = jumps l (atom_words env bs) w (atoms-fit env bs words) sizes
  means (Halt e bs) above known env w formed fits h words sizes = refl

  enter_means : (ls : List Label) → list_all (is_label labels) ls ≡ true → (i : ℕ) (ws : List ℕ) (w : World) → All IsWord ws → HasSizes w.packet → enter g (slice_get (map label_walked ls) i) ws w ≡ enter f (slice_get ls i) ws w
  enter_means [] e i ws w fit sizes = refl
  enter_means (l ∷ ls) e zero ws w fit sizes =
      let one = (and_parts (is_label labels l) (list_all (is_label labels) ls) e).0 in
      let two = and_parts (is_formed labels l.params l.body) (all_different (l.params ++ of_tree l.body)) one in
      means l.body [] l.params (assigned_all blank l.params ws) w two.0 (label_fits labels l one) (All-nil (Holds l.params (assigned_all blank l.params ws))) (assigned-all-env blank l.params ws blank-env fit) sizes
  enter_means (l ∷ ls) e (suc i) ws w fit sizes = enter_means ls (and_parts (is_label labels l) (list_all (is_label labels) ls) e).1 i ws w fit sizes

run_means : (ls : List Label) → list_all (is_label ls) ls ≡ true → (n l : ℕ) (ws : List ℕ) (w : World) → All IsWord ws → HasSizes w.packet → run (map label_walked ls) n l ws w ≡ run ls n l ws w
run_means ls e zero l ws w fit sizes = refl
run_means ls e (suc n) l ws w fit sizes = enter_means ls (run ls n) (run (map label_walked ls) n) (run_means ls e n) ls e l ws w fit sizes

pub flow_means : (ls : List Label) → is_flow ls ≡ true → AreEqual (flow_params ls) (flow_meaning ls) (flow_meaning (map label_walked ls))
flow_means ls e =
    λ args p arguments sizes n.
    let formed = (and_parts (list_all (is_label ls) ls) (is_entry (slice_get ls 0)) e).0 in
    sym (enter_means ls (run ls n) (run (map label_walked ls) n) (run_means ls formed n) ls formed 0 args (begun p) arguments.1 sizes)
