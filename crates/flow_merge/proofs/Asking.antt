-- Whether a parameter is wanted, node by node.
use Rattle.std.proofs.Common.{◌≡◌, ◌↔◌, ℕ, ◌<◌, ◌≤◌, Bool, true, false, nat_eq, ◌||◌, List, [], ◌∷◌, ◌++◌, Some, refl, sym, ap, subst, ◌∙◌, length, slice_get, get_or, arith, inl, inr, ⊎_elim}
use Rattle.std.specs.declared.vec.Vec.{Vec}
use Rattle.std.specs.declared.alloc.Global.{Global}
use Rattle.std.proofs.lemmas.Bool.{or_left, or_from, false≢true}
use Rattle.std.proofs.lemmas.Option.{slice_get-get_or, slice_get_within}
use Rattle.smallvec.specs.SmallVec.{SmallVec}
use Rattle.nv_base.specs.declared.term.Atom.{Atom}
use Rattle.nv_base.specs.declared.term.Atom.TheVariants.{Var, Lit}
use Rattle.nv_base.specs.Words.{atom_vars, prim_vars}
use Rattle.nv_base.specs.Sets.{is_in, all_vars}
use Rattle.nv_base.proofs.Sets.{in-append, same-number}
use Rattle.flow_ir.specs.Tree as pure
use Rattle.flow_ir.specs.View.{tree_view}
use Rattle.flow_ir.specs.declared.flow.Tree.{Tree, size-Tree}
use Rattle.flow_ir.specs.declared.flow.Tree.TheVariants.{Let', Read', Write', If', Jump, Halt}
use Rattle.flow_ir.specs.declared.flow.Tree.TheViews.{deep-Let', deep-Read', deep-Write', deep-If'}
use Rattle.flow_ir.proofs.Members.{either, in-right}
use Rattle.flow_ir.proofs.Mentions.{smaller, found_front, or_both, or_end}
use Rattle.flow_merge.specs.Wanted.{used, HandsOn}
use Rattle.flow_merge.specs.inner.Ranked.{rank_at, IsFound}

-- ---- a use, or a jump for a parameter of a lower rank

-- what is found in the rest is found in the whole, and nothing is found in front of it
pub record Sought (ranks : List (Vec ℕ Global)) (rank x : ℕ) (t cur : Tree) : Type 0 where
  pub back : IsFound ranks rank x (tree_view cur) → IsFound ranks rank x (tree_view t)
  pub on : IsFound ranks rank x (tree_view t) → IsFound ranks rank x (tree_view cur)
  pub size : size-Tree cur ≤ size-Tree t

found_more : (ranks : List (Vec ℕ Global)) (rank x : ℕ) (t u : pure.Tree) → (is_in x (used t) ≡ true → is_in x (used u) ≡ true) → ((k j : ℕ) → HandsOn x k j t → HandsOn x k j u) → IsFound ranks rank x t → IsFound ranks rank x u
found_more ranks rank x t u f g (inl e) = inl (f e)
found_more ranks rank x t u f g (inr h) = inr (h.0, h.1, g h.0 h.1 h.2, h.3)

sought_on : {ranks : List (Vec ℕ Global)} {rank x : ℕ} {t cur : Tree} (rest part node : Tree) → Sought ranks rank x t cur → cur ≡ node → rest ≡ part → (IsFound ranks rank x (tree_view part) → IsFound ranks rank x (tree_view node)) → (IsFound ranks rank x (tree_view node) → IsFound ranks rank x (tree_view part)) → size-Tree part ≤ size-Tree node → Sought ranks rank x t rest
sought_on {ranks} {rank} {x} {t} {cur} rest part node h is e f g le = record {
  back = λ found. h.back (subst (λ z. IsFound ranks rank x (tree_view z)) (sym is) (f (subst (λ z. IsFound ranks rank x (tree_view z)) e found)));
  on = λ found. subst (λ z. IsFound ranks rank x (tree_view z)) (sym e) (g (subst (λ z. IsFound ranks rank x (tree_view z)) is (h.on found)));
  size = let s = h.size in let less = smaller cur node rest part is e le in omega arith;
}

sought_here : {ranks : List (Vec ℕ Global)} {rank x : ℕ} {t cur : Tree} (node : Tree) → Sought ranks rank x t cur → cur ≡ node → IsFound ranks rank x (tree_view node) → IsFound ranks rank x (tree_view t)
sought_here {ranks} {rank} {x} node h is found = h.back (subst (λ z. IsFound ranks rank x (tree_view z)) (sym is) found)

-- at the node that is left
sought_at : {ranks : List (Vec ℕ Global)} {rank x : ℕ} {t cur : Tree} (node : Tree) → Sought ranks rank x t cur → cur ≡ node → IsFound ranks rank x (tree_view t) → IsFound ranks rank x (tree_view node)
sought_at {ranks} {rank} {x} node h is found = subst (λ z. IsFound ranks rank x (tree_view z)) is (h.on found)

yes : {A : Type 0} → A → true ≡ true ↔ A
yes a = (λ e. a, λ b. refl)

neither : (a b : Bool) → (a || b) ≡ false → (a ≡ false) × (b ≡ false)
neither true b e = absurd (false≢true (sym e))
neither false b e = (refl, e)

not_front : (x : ℕ) (vs ws : List ℕ) (b : Bool) → b ≡ is_in x vs → b ≡ false → is_in x (vs ++ ws) ≡ true → is_in x ws ≡ true
not_front x vs ws b eb fails i = either x vs ws i (λ q. absurd (false≢true (sym fails ∙ eb ∙ q))) (λ q. q)

pub sought_let : {ranks : List (Vec ℕ Global)} {rank x : ℕ} {t cur : Tree} (y : ℕ) (p : _) (q : _) (r rest : Tree) (b : Bool) → Sought ranks rank x t cur → cur ≡ Let' y p q r → rest ≡ r → b ≡ is_in x (prim_vars p) → b ≡ false → Sought ranks rank x t rest
sought_let {ranks} {rank} {x} y p q r rest b h is e eb fails =
    sought_on rest r (Let' y p q r) h is e (found_more ranks rank x (tree_view r) (tree_view (Let' y p q r)) (in-right x (prim_vars p) (used (tree_view r))) (λ k j d. d))
    (found_more ranks rank x (tree_view (Let' y p q r)) (tree_view r) (not_front x (prim_vars p) (used (tree_view r)) b eb fails) (λ k j d. d)) (omega (arith, deep-Let' y p q r))

pub sought_let_found : {ranks : List (Vec ℕ Global)} {rank x : ℕ} {t cur : Tree} (y : ℕ) (p : _) (q : _) (r : Tree) (b : Bool) → Sought ranks rank x t cur → cur ≡ Let' y p q r → b ≡ is_in x (prim_vars p) → b ≡ true → true ≡ true ↔ IsFound ranks rank x (tree_view t)
sought_let_found {ranks} {rank} {x} y p q r b h is eb holds = yes (sought_here (Let' y p q r) h is (inl (found_front x (prim_vars p) (used (tree_view r)) b eb holds)))

pub sought_read : {ranks : List (Vec ℕ Global)} {rank x : ℕ} {t cur : Tree} (m : _) (xs : _) (a : Atom) (q : _) (r rest : Tree) (b : Bool) → Sought ranks rank x t cur → cur ≡ Read' m xs a q r → rest ≡ r → b ≡ is_in x (atom_vars a) → b ≡ false → Sought ranks rank x t rest
sought_read {ranks} {rank} {x} m xs a q r rest b h is e eb fails =
    sought_on rest r (Read' m xs a q r) h is e (found_more ranks rank x (tree_view r) (tree_view (Read' m xs a q r)) (in-right x (atom_vars a) (used (tree_view r))) (λ k j d. d))
    (found_more ranks rank x (tree_view (Read' m xs a q r)) (tree_view r) (not_front x (atom_vars a) (used (tree_view r)) b eb fails) (λ k j d. d)) (omega (arith, deep-Read' m xs a q r))

pub sought_read_found : {ranks : List (Vec ℕ Global)} {rank x : ℕ} {t cur : Tree} (m : _) (xs : _) (a : Atom) (q : _) (r : Tree) (b : Bool) → Sought ranks rank x t cur → cur ≡ Read' m xs a q r → b ≡ is_in x (atom_vars a) → b ≡ true → true ≡ true ↔ IsFound ranks rank x (tree_view t)
sought_read_found {ranks} {rank} {x} m xs a q r b h is eb holds = yes (sought_here (Read' m xs a q r) h is (inl (found_front x (atom_vars a) (used (tree_view r)) b eb holds)))

pub sought_write : {ranks : List (Vec ℕ Global)} {rank x : ℕ} {t cur : Tree} (m : _) (a : Atom) (bs : SmallVec Atom) (q : _) (r rest : Tree) (vs : List Atom) (c d : Bool) → Sought ranks rank x t cur → cur ≡ Write' m a bs q r → rest ≡ r → vs ≡ bs.items → c ≡ is_in x (atom_vars a) → d ≡ is_in x (all_vars vs) → c ≡ false → d ≡ false → Sought ranks rank x t rest
sought_write {ranks} {rank} {x} m a bs q r rest vs c d h is e same ec ed cf df =
    let fails = or_from c d cf df in
    sought_on rest r (Write' m a bs q r) h is e (found_more ranks rank x (tree_view r) (tree_view (Write' m a bs q r)) (in-right x (all_vars (a ∷ bs.items)) (used (tree_view r))) (λ k j n. n))
    (found_more ranks rank x (tree_view (Write' m a bs q r)) (tree_view r) (not_front x (all_vars (a ∷ bs.items)) (used (tree_view r)) (c || d) (or_both x c d (atom_vars a) (all_vars bs.items) ec (ed ∙ ap (λ v. is_in x (all_vars v)) same)) fails) (λ k j n. n)) (omega (arith, deep-Write' m a bs q r))

pub sought_write_found : {ranks : List (Vec ℕ Global)} {rank x : ℕ} {t cur : Tree} (m : _) (a : Atom) (bs : SmallVec Atom) (q : _) (r : Tree) (c d : Bool) → Sought ranks rank x t cur → cur ≡ Write' m a bs q r → c ≡ is_in x (atom_vars a) → d ≡ is_in x (all_vars bs.items) → (c || d) ≡ true → true ≡ true ↔ IsFound ranks rank x (tree_view t)
sought_write_found {ranks} {rank} {x} m a bs q r c d h is ec ed holds = yes (sought_here (Write' m a bs q r) h is (inl (found_front x (all_vars (a ∷ bs.items)) (used (tree_view r)) (c || d) (or_both x c d (atom_vars a) (all_vars bs.items) ec ed) holds)))

-- neither the operands of an `If` use x, nor is it found in the first part
pub sought_if : {ranks : List (Vec ℕ Global)} {rank x : ℕ} {t cur : Tree} (k : _) (a b : Atom) (q q' : _) (f r part rest : Tree) (c d g : Bool) → Sought ranks rank x t cur → cur ≡ If' k a b q f q' r → part ≡ f → rest ≡ r → c ≡ is_in x (atom_vars a) → d ≡ is_in x (atom_vars b) → g ≡ true ↔ IsFound ranks rank x (tree_view part)
    → ((c || d) || g) ≡ false → Sought ranks rank x t rest
sought_if {ranks} {rank} {x} k a b q q' f r part rest c d g h is ef e ec ed eg fails =
    let os = all_vars (a ∷ b ∷ []) in
    let uf = used (tree_view f) in
    let ur = used (tree_view r) in
    let parts = neither (c || d) g fails in
    let none = λ (found : IsFound ranks rank x (tree_view f)). false≢true (sym parts.1 ∙ eg.1 (subst (λ z. IsFound ranks rank x (tree_view z)) (sym ef) found)) in
    sought_on rest r (If' k a b q f q' r) h is e (found_more ranks rank x (tree_view r) (tree_view (If' k a b q f q' r)) (λ i. in-right x os (uf ++ ur) (in-right x uf ur i)) (λ l j n. inr n))
    (λ found.
    ⊎_elim (λ i. either x uf ur (not_front x os (uf ++ ur) (c || d) (or_both x c d (atom_vars a) (atom_vars b ++ []) ec (or_end x d (atom_vars b) ed)) parts.0 i) (λ u. absurd (none (inl u))) (λ u. inl u))
    (λ n. ⊎_elim (λ m. absurd (none (inr (n.0, n.1, m, n.3)))) (λ m. inr (n.0, n.1, m, n.3)) n.2) found)
    (omega (arith, deep-If' k a b q f q' r))

-- the operands of an `If` use x
pub sought_if_operand : {ranks : List (Vec ℕ Global)} {rank x : ℕ} {t cur : Tree} (k : _) (a b : Atom) (q q' : _) (f r : Tree) (c d : Bool) → Sought ranks rank x t cur → cur ≡ If' k a b q f q' r → c ≡ is_in x (atom_vars a) → d ≡ is_in x (atom_vars b) → (c || d) ≡ true → true ≡ true ↔ IsFound ranks rank x (tree_view t)
sought_if_operand {ranks} {rank} {x} k a b q q' f r c d h is ec ed holds =
    yes (sought_here (If' k a b q f q' r) h is (inl (found_front x (all_vars (a ∷ b ∷ [])) (used (tree_view f) ++ used (tree_view r)) (c || d) (or_both x c d (atom_vars a) (atom_vars b ++ []) ec (or_end x d (atom_vars b) ed)) holds)))

-- it is found in the first part
pub sought_if_first : {ranks : List (Vec ℕ Global)} {rank x : ℕ} {t cur : Tree} (k : _) (a b : Atom) (q q' : _) (f r part : Tree) → Sought ranks rank x t cur → cur ≡ If' k a b q f q' r → part ≡ f → IsFound ranks rank x (tree_view part) → true ≡ true ↔ IsFound ranks rank x (tree_view t)
sought_if_first {ranks} {rank} {x} k a b q q' f r part h is ef found =
    yes (sought_here (If' k a b q f q' r) h is
    (found_more ranks rank x (tree_view f) (tree_view (If' k a b q f q' r))
    (λ u. in-right x (all_vars (a ∷ b ∷ [])) (used (tree_view f) ++ used (tree_view r)) (in-append x (used (tree_view f)) (used (tree_view r)) ∙ or_left (is_in x (used (tree_view f))) (is_in x (used (tree_view r))) u)) (λ l j n. inl n)
    (subst (λ z. IsFound ranks rank x (tree_view z)) ef found)))

pub sought_jump : {ranks : List (Vec ℕ Global)} {rank x : ℕ} {t cur : Tree} (k : ℕ) (bs : Vec Atom Global) (vs : List Atom) (b : Bool) → Sought ranks rank x t cur → cur ≡ Jump k bs → vs ≡ bs.items → b ≡ true ↔ ((j : ℕ) × (slice_get vs j ≡ Some (Var x)) × (rank_at ranks k j < rank)) → b ≡ true ↔ IsFound ranks rank x (tree_view t)
sought_jump {ranks} {rank} {x} k bs vs b h is same f = (
  λ holds. let n = f.0 holds in sought_here (Jump k bs) h is (inr (k, n.0, (refl, ap (λ v. slice_get v n.0) (sym same) ∙ n.1), n.2)),
  λ found. ⊎_elim (λ i. absurd (false≢true i)) (λ n. f.1 (n.1, ap (λ v. slice_get v n.1) same ∙ n.2.1, subst (λ z. rank_at ranks z n.1 < rank) (sym n.2.0) n.3)) (sought_at (Jump k bs) h is found),
)

pub sought_halt : {ranks : List (Vec ℕ Global)} {rank x : ℕ} {t cur : Tree} (n : ℕ) (bs : SmallVec Atom) (b : Bool) → Sought ranks rank x t cur → cur ≡ Halt n bs → b ≡ is_in x (all_vars bs.items) → b ≡ true ↔ IsFound ranks rank x (tree_view t)
sought_halt n bs b h is e = (
  λ holds. sought_here (Halt n bs) h is (inl (sym e ∙ holds)),
  λ found. e ∙ ⊎_elim (λ i. i) (λ m. absurd m.2) (sought_at (Halt n bs) h is found),
)

-- ---- words that are handed on

-- an operand that is x is the variable x
pub is_variable : (x : ℕ) (a : Atom) → is_in x (atom_vars a) ≡ true → a ≡ Var x
is_variable x (Var y) e = ap Var (sym (same-number x y (first_of (nat_eq x y) e)))
  where
    first_of : (b : Bool) → (b || false) ≡ true → b ≡ true
    first_of true e = refl
    first_of false e = e
is_variable x (Lit v) e = absurd (false≢true e)

-- none of the words in front of one is x, handed on for a parameter of a lower rank
abbrev pub NotHanded : List (Vec ℕ Global) → ℕ → ℕ → ℕ → List Atom → ℕ → Type 0
NotHanded ranks rank x k bs i = (j : ℕ) → j < i → slice_get bs j ≡ Some (Var x) → rank_at ranks k j < rank → ⊥

pub handed_at : (ranks : List (Vec ℕ Global)) (rank x k j r : ℕ) (bs : List Atom) (d a : Atom) (b c : Bool) → j < length bs → a ≡ get_or bs j d → b ≡ is_in x (atom_vars a) → b ≡ true → r ≡ rank_at ranks k j → r < rank → true ≡ true ↔ ((i : ℕ) × (slice_get bs i ≡ Some (Var x)) × (rank_at ranks k i < rank))
handed_at ranks rank x k j r bs d a b c lt is eb holds er less =
    yes (j, slice_get-get_or bs j d lt ∙ ap Some (sym is ∙ is_variable x a (sym eb ∙ holds)), subst (λ z. z < rank) er less)

pub handed_nowhere : (ranks : List (Vec ℕ Global)) (rank x k j : ℕ) (bs : List Atom) → length bs ≤ j → NotHanded ranks rank x k bs j → false ≡ true ↔ ((i : ℕ) × (slice_get bs i ≡ Some (Var x)) × (rank_at ranks k i < rank))
handed_nowhere ranks rank x k j bs le h = (λ e. absurd (false≢true e), λ n. let lt = slice_get_within bs n.0 (Var x) n.1 in absurd (h n.0 (omega arith) n.1 n.2))
