-- Whether a tree uses a variable, node by node.
use Rattle.std.proofs.Common.{◌≡◌, ℕ, ◌+◌, ◌<◌, ◌≤◌, Bool, true, false, ◌||◌, List, [], ◌∷◌, ◌++◌, refl, sym, ap, ◌∙◌, length, get_or, drop, arith}
use Rattle.std.specs.declared.vec.Vec.{Vec}
use Rattle.std.specs.declared.alloc.Global.{Global}
use Rattle.std.proofs.lemmas.Bool.{or_left, false≢true}
use Rattle.std.proofs.lemmas.List.{drop_more}
use Rattle.smallvec.specs.SmallVec.{SmallVec}
use Rattle.nv_base.specs.declared.term.Atom.{Atom}
use Rattle.nv_base.specs.Words.{atom_vars, prim_vars}
use Rattle.nv_base.specs.Sets.{is_in, all_vars}
use Rattle.nv_base.proofs.Sets.{in-append}
use Rattle.flow_ir.specs.View.{tree_view}
use Rattle.flow_ir.specs.declared.flow.Tree.{Tree, size-Tree}
use Rattle.flow_ir.specs.declared.flow.Tree.TheVariants.{Let', Read', Write', If', Jump, Halt}
use Rattle.flow_ir.specs.declared.flow.Tree.TheViews.{deep-Let', deep-Read', deep-Write', deep-If'}
use Rattle.flow_ir.specs.Wide.{uses}

pub smaller : (cur node rest part : Tree) → cur ≡ node → rest ≡ part → size-Tree part ≤ size-Tree node → size-Tree rest ≤ size-Tree cur
smaller cur node rest part is e le = let a = ap size-Tree is in let b = ap size-Tree e in omega (arith, a, b, le)

pub record Asked (x : ℕ) (t cur : Tree) : Type 0 where
  pub same : is_in x (uses (tree_view cur)) ≡ is_in x (uses (tree_view t))
  pub size : size-Tree cur ≤ size-Tree t

or_none : (a b : Bool) → a ≡ false → (a || b) ≡ b
or_none true b e = absurd (false≢true (sym e))
or_none false b e = refl

-- the front of a node doesn't use x
skipped : (x : ℕ) (front rest : List ℕ) (b : Bool) → b ≡ is_in x front → b ≡ false → is_in x (front ++ rest) ≡ is_in x rest
skipped x front rest b e fails = in-append x front rest ∙ or_none (is_in x front) (is_in x rest) (sym e ∙ fails)

-- the front of a node uses x
pub found_front : (x : ℕ) (front rest : List ℕ) (b : Bool) → b ≡ is_in x front → b ≡ true → is_in x (front ++ rest) ≡ true
found_front x front rest b e holds = in-append x front rest ∙ or_left (is_in x front) (is_in x rest) (sym e ∙ holds)

asked_on : {x : ℕ} {t cur : Tree} (rest : Tree) → Asked x t cur → is_in x (uses (tree_view cur)) ≡ is_in x (uses (tree_view rest)) → size-Tree rest ≤ size-Tree cur → Asked x t rest
asked_on rest h e le = record { same = sym e ∙ h.same; size = let s = h.size in omega arith }

pub asked_let : {x : ℕ} {t cur : Tree} (y : ℕ) (p : _) (q : _) (r rest : Tree) (b : Bool) → Asked x t cur → cur ≡ Let' y p q r → rest ≡ r → b ≡ is_in x (prim_vars p) → b ≡ false → Asked x t rest
asked_let {x} {cur = cur} y p q r rest b h is e eb fails =
    asked_on rest h (ap (λ z. is_in x (uses (tree_view z))) is ∙ skipped x (prim_vars p) (uses (tree_view r)) b eb fails ∙ ap (λ z. is_in x (uses (tree_view z))) (sym e)) (smaller cur (Let' y p q r) rest r is e (omega (arith, deep-Let' y p q r)))

pub asked_let_found : {x : ℕ} {t cur : Tree} (y : ℕ) (p : _) (q : _) (r : Tree) (b : Bool) → Asked x t cur → cur ≡ Let' y p q r → b ≡ is_in x (prim_vars p) → b ≡ true → true ≡ is_in x (uses (tree_view t))
asked_let_found {x} y p q r b h is eb holds = sym (found_front x (prim_vars p) (uses (tree_view r)) b eb holds) ∙ sym (ap (λ z. is_in x (uses (tree_view z))) is) ∙ h.same

pub asked_read : {x : ℕ} {t cur : Tree} (m : _) (xs : _) (a : Atom) (q : _) (r rest : Tree) (b : Bool) → Asked x t cur → cur ≡ Read' m xs a q r → rest ≡ r → b ≡ is_in x (atom_vars a) → b ≡ false → Asked x t rest
asked_read {x} {cur = cur} m xs a q r rest b h is e eb fails =
    asked_on rest h (ap (λ z. is_in x (uses (tree_view z))) is ∙ skipped x (atom_vars a) (uses (tree_view r)) b eb fails ∙ ap (λ z. is_in x (uses (tree_view z))) (sym e)) (smaller cur (Read' m xs a q r) rest r is e (omega (arith, deep-Read' m xs a q r)))

pub asked_read_found : {x : ℕ} {t cur : Tree} (m : _) (xs : _) (a : Atom) (q : _) (r : Tree) (b : Bool) → Asked x t cur → cur ≡ Read' m xs a q r → b ≡ is_in x (atom_vars a) → b ≡ true → true ≡ is_in x (uses (tree_view t))
asked_read_found {x} m xs a q r b h is eb holds = sym (found_front x (atom_vars a) (uses (tree_view r)) b eb holds) ∙ sym (ap (λ z. is_in x (uses (tree_view z))) is) ∙ h.same

pub or_both : (x : ℕ) (c d : Bool) (us vs : List ℕ) → c ≡ is_in x us → d ≡ is_in x vs → (c || d) ≡ is_in x (us ++ vs)
or_both x c d us vs ec ed = ap (λ v. v || d) ec ∙ ap (λ v. is_in x us || v) ed ∙ sym (in-append x us vs)

pub or_end : (x : ℕ) (d : Bool) (vs : List ℕ) → d ≡ is_in x vs → d ≡ is_in x (vs ++ [])
or_end x d vs e = e ∙ sym (in-append x vs [] ∙ no_more (is_in x vs))
  where
    no_more : (b : Bool) → (b || false) ≡ b
    no_more true = refl
    no_more false = refl

pub asked_write : {x : ℕ} {t cur : Tree} (m : _) (a : Atom) (bs : SmallVec Atom) (q : _) (r rest : Tree) (c d : Bool) → Asked x t cur → cur ≡ Write' m a bs q r → rest ≡ r → c ≡ is_in x (atom_vars a) → d ≡ is_in x (all_vars bs.items) → (c || d) ≡ false → Asked x t rest
asked_write {x} {cur = cur} m a bs q r rest c d h is e ec ed fails =
    asked_on rest h
    (ap (λ z. is_in x (uses (tree_view z))) is ∙ skipped x (all_vars (a ∷ bs.items)) (uses (tree_view r)) (c || d) (or_both x c d (atom_vars a) (all_vars bs.items) ec ed) fails ∙ ap (λ z. is_in x (uses (tree_view z))) (sym e))
    (smaller cur (Write' m a bs q r) rest r is e (omega (arith, deep-Write' m a bs q r)))

pub asked_write_found : {x : ℕ} {t cur : Tree} (m : _) (a : Atom) (bs : SmallVec Atom) (q : _) (r : Tree) (c d : Bool) → Asked x t cur → cur ≡ Write' m a bs q r → c ≡ is_in x (atom_vars a) → d ≡ is_in x (all_vars bs.items) → (c || d) ≡ true → true ≡ is_in x (uses (tree_view t))
asked_write_found {x} m a bs q r c d h is ec ed holds =
    sym (found_front x (all_vars (a ∷ bs.items)) (uses (tree_view r)) (c || d) (or_both x c d (atom_vars a) (all_vars bs.items) ec ed) holds) ∙ sym (ap (λ z. is_in x (uses (tree_view z))) is) ∙ h.same

-- whether the operands of an `If` or its first part use x
either_three : (x : ℕ) (a b : Atom) (us : List ℕ) (c d g : Bool) → c ≡ is_in x (atom_vars a) → d ≡ is_in x (atom_vars b) → g ≡ is_in x us → ((c || d) || g) ≡ is_in x (all_vars (a ∷ b ∷ []) ++ us)
either_three x a b us c d g ec ed eg = or_both x (c || d) g (all_vars (a ∷ b ∷ [])) us (or_both x c d (atom_vars a) (atom_vars b ++ []) ec (or_end x d (atom_vars b) ed)) eg

pub asked_if : {x : ℕ} {t cur : Tree} (k : _) (a b : Atom) (q q' : _) (f r part rest : Tree) (c d g : Bool) → Asked x t cur → cur ≡ If' k a b q f q' r → part ≡ f → rest ≡ r → c ≡ is_in x (atom_vars a) → d ≡ is_in x (atom_vars b) → g ≡ is_in x (uses (tree_view part)) → ((c || d) || g) ≡ false → Asked x t rest
asked_if {x} {cur = cur} k a b q q' f r part rest c d g h is ef e ec ed eg fails =
    let os = all_vars (a ∷ b ∷ []) in
    asked_on rest h
    (ap (λ z. is_in x (uses (tree_view z))) is ∙ in-append x os (uses (tree_view f) ++ uses (tree_view r)) ∙ ap (λ v. is_in x os || v) (in-append x (uses (tree_view f)) (uses (tree_view r))) ∙ or_turned (is_in x os) (is_in x (uses (tree_view f))) (is_in x (uses (tree_view r)))
    ∙ or_none (is_in x os || is_in x (uses (tree_view f))) (is_in x (uses (tree_view r))) (sym (in-append x os (uses (tree_view f))) ∙ sym (either_three x a b (uses (tree_view f)) c d g ec ed (eg ∙ ap (λ z. is_in x (uses (tree_view z))) ef)) ∙ fails)
    ∙ ap (λ z. is_in x (uses (tree_view z))) (sym e))
    (smaller cur (If' k a b q f q' r) rest r is e (omega (arith, deep-If' k a b q f q' r)))
  where
    or_turned : (a b c : Bool) → (a || (b || c)) ≡ ((a || b) || c)
    or_turned true b c = refl
    or_turned false b c = refl

pub asked_if_found : {x : ℕ} {t cur : Tree} (k : _) (a b : Atom) (q q' : _) (f r part : Tree) (c d g : Bool) → Asked x t cur → cur ≡ If' k a b q f q' r → part ≡ f → c ≡ is_in x (atom_vars a) → d ≡ is_in x (atom_vars b) → g ≡ is_in x (uses (tree_view part)) → ((c || d) || g) ≡ true → true ≡ is_in x (uses (tree_view t))
asked_if_found {x} k a b q q' f r part c d g h is ef ec ed eg holds =
    let os = all_vars (a ∷ b ∷ []) in
    let uf = uses (tree_view f) in
    let ur = uses (tree_view r) in
    let front : is_in x (os ++ uf) ≡ true = sym (either_three x a b uf c d g ec ed (eg ∙ ap (λ z. is_in x (uses (tree_view z))) ef)) ∙ holds in
    let whole : is_in x (os ++ (uf ++ ur)) ≡ true = in-append x os (uf ++ ur) ∙ three (is_in x os) (is_in x uf) (is_in x (uf ++ ur)) (λ i. in-append x uf ur ∙ or_left (is_in x uf) (is_in x ur) i) (sym (in-append x os uf) ∙ front) in
    sym whole ∙ sym (ap (λ z. is_in x (uses (tree_view z))) is) ∙ h.same
  where
    three : (a b c : Bool) → (b ≡ true → c ≡ true) → (a || b) ≡ true → (a || c) ≡ true
    three true b c f e = refl
    three false b c f e = f e

all_front : (x : ℕ) (a : Atom) (as' bs whole : List Atom) → bs ≡ a ∷ as' → is_in x (all_vars bs) ≡ is_in x (all_vars whole) → is_in x (atom_vars a ++ all_vars as') ≡ is_in x (all_vars whole)
all_front x a as' bs whole is h = sym (ap (λ l. is_in x (all_vars l)) is) ∙ h

-- an operand isn't x
pub all_next : (x : ℕ) (bs : List Atom) (i : ℕ) (d a : Atom) (b : Bool) → i < length bs → a ≡ get_or bs i d → b ≡ is_in x (atom_vars a) → b ≡ false → is_in x (all_vars (drop i bs)) ≡ is_in x (all_vars bs) → is_in x (all_vars (drop (i + 1) bs)) ≡ is_in x (all_vars bs)
all_next x bs i d a b lt is eb fails h =
    sym (skipped x (atom_vars a) (all_vars (drop (i + 1) bs)) b eb fails) ∙ all_front x a (drop (i + 1) bs) (drop i bs) bs (drop_more bs i d lt ∙ ap (λ z. z ∷ drop (i + 1) bs) (sym is)) h

-- an operand is x
pub all_found : (x : ℕ) (bs : List Atom) (i : ℕ) (d a : Atom) (b : Bool) → i < length bs → a ≡ get_or bs i d → b ≡ is_in x (atom_vars a) → b ≡ true → is_in x (all_vars (drop i bs)) ≡ is_in x (all_vars bs) → true ≡ is_in x (all_vars bs)
all_found x bs i d a b lt is eb holds h =
    sym (found_front x (atom_vars a) (all_vars (drop (i + 1) bs)) b eb holds) ∙ all_front x a (drop (i + 1) bs) (drop i bs) bs (drop_more bs i d lt ∙ ap (λ z. z ∷ drop (i + 1) bs) (sym is)) h

pub all_none : (x : ℕ) (bs : List Atom) (i : ℕ) → drop i bs ≡ [] → is_in x (all_vars (drop i bs)) ≡ is_in x (all_vars bs) → false ≡ is_in x (all_vars bs)
all_none x bs i e h = sym (ap (λ l. is_in x (all_vars l)) e) ∙ h

pub asked_jump : {x : ℕ} {t cur : Tree} (l : ℕ) (bs : Vec Atom Global) (b : Bool) → Asked x t cur → cur ≡ Jump l bs → b ≡ is_in x (all_vars bs.items) → b ≡ is_in x (uses (tree_view t))
asked_jump {x} l bs b h is e = e ∙ sym (ap (λ z. is_in x (uses (tree_view z))) is) ∙ h.same

pub asked_halt : {x : ℕ} {t cur : Tree} (n : ℕ) (bs : SmallVec Atom) (b : Bool) → Asked x t cur → cur ≡ Halt n bs → b ≡ is_in x (all_vars bs.items) → b ≡ is_in x (uses (tree_view t))
asked_halt {x} n bs b h is e = e ∙ sym (ap (λ z. is_in x (uses (tree_view z))) is) ∙ h.same
