-- Words under variables that are moved up.
use Rattle.std.proofs.Common.{◌≡◌, ℕ, ◌+◌, ◌≤◌, ◌<◌, nat_eq, List, [], ◌∷◌, if◌then◌else◌, refl, sym, ap, ◌∙◌, ⊎_elim, arith}
use Rattle.std.proofs.lemmas.Bool.{cases_eq, eq-eqb, ne_eqb}
use Rattle.nv_base.specs.declared.term.Atom.{Atom}
use Rattle.nv_base.specs.declared.term.Atom.TheVariants.{Var, Lit}
use Rattle.nv_base.specs.declared.term.Primitive.{Primitive}
use Rattle.nv_base.specs.declared.term.Primitive.TheVariants.{Same, Una as UnaOf, Bin as BinOf}
use Rattle.nv_base.specs.Words.{Env, assigned, assigned_all, atom_word, atom_words, prim_word, una_word, bin_word}
use Rattle.cps_inline.specs.inner.Inlined.{moved, moved_atom, moved_atoms, moved_primitive, behind}

-- ---- numbers

pub eq-moved : (b y x : ℕ) → nat_eq (b + y) (b + x) ≡ nat_eq y x
eq-moved b y x =
    ⊎_elim
    (λ (e : y ≡ x). eq-eqb (b + y) (b + x) (ap (λ z. b + z) e) ∙ sym (eq-eqb y x e))
    (λ (ne : y ≡ x → ⊥). ne_eqb (b + y) (b + x) (λ (e : b + y ≡ b + x). ne (omega arith)) ∙ sym (ne_eqb y x ne))
    (cases_eq y x)

pub behind-moved : (b : ℕ) (xs : List ℕ) (s : ℕ) → behind xs ≤ s → behind (moved b xs) ≤ b + s
behind-moved b [] s le = omega arith
behind-moved b (x ∷ xs) s le =
    let rest : behind (moved b xs) ≤ b + s = behind-moved b xs s (omega arith) in omega arith

-- ---- environments

-- the second has the first one's words, moved up
abbrev pub Agrees : ℕ → Env → Env → Type 0
Agrees b env env' = (x : ℕ) → env' (b + x) ≡ env x

-- from a variable on all words are 0
abbrev pub Zeros : Env → ℕ → Type 0
Zeros env n = (x : ℕ) → n ≤ x → env x ≡ 0

pub assigned-agrees : (b : ℕ) (env env' : Env) (x w : ℕ) → Agrees b env env' → Agrees b (assigned env x w) (assigned env' (b + x) w)
assigned-agrees b env env' x w h y = ap (λ t. if t then w else env' (b + y)) (eq-moved b y x) ∙ ap (λ v. if nat_eq y x then w else v) (h y)

pub all-agree : (b : ℕ) (xs ws : List ℕ) (env env' : Env) → Agrees b env env' → Agrees b (assigned_all env xs ws) (assigned_all env' (moved b xs) ws)
all-agree b [] ws env env' h = h
all-agree b (x ∷ xs) [] env env' h = all-agree b xs [] (assigned env x 0) (assigned env' (b + x) 0) (assigned-agrees b env env' x 0 h)
all-agree b (x ∷ xs) (w ∷ ws) env env' h = all-agree b xs ws (assigned env x w) (assigned env' (b + x) w) (assigned-agrees b env env' x w h)

pub assigned-zeros : (env : Env) (n x w : ℕ) → x < n → Zeros env n → Zeros (assigned env x w) n
assigned-zeros env n x w lt h y le = ap (λ t. if t then w else env y) (ne_eqb y x (λ (e : y ≡ x). omega arith)) ∙ h y le

pub all-zeros : (xs ws : List ℕ) (env : Env) (n : ℕ) → behind xs ≤ n → Zeros env n → Zeros (assigned_all env xs ws) n
all-zeros [] ws env n le h = h
all-zeros (x ∷ xs) [] env n le h = all-zeros xs [] (assigned env x 0) n (omega arith) (assigned-zeros env n x 0 (omega arith) h)
all-zeros (x ∷ xs) (w ∷ ws) env n le h = all-zeros xs ws (assigned env x w) n (omega arith) (assigned-zeros env n x w (omega arith) h)

-- ---- operands

pub atom-moved : (b : ℕ) (env env' : Env) → Agrees b env env' → (a : Atom) → atom_word env' (moved_atom b a) ≡ atom_word env a
atom-moved b env env' h (Var x) = h x
atom-moved b env env' h (Lit v) = refl

pub atoms-moved : (b : ℕ) (env env' : Env) → Agrees b env env' → (as' : List Atom) → atom_words env' (moved_atoms b as') ≡ atom_words env as'
atoms-moved b env env' h [] = refl
atoms-moved b env env' h (a ∷ as') =
    ap (λ v. v ∷ atom_words env' (moved_atoms b as')) (atom-moved b env env' h a) ∙ ap (λ vs. atom_word env a ∷ vs) (atoms-moved b env env' h as')

pub prim-moved : (b : ℕ) (env env' : Env) → Agrees b env env' → (p : Primitive) → prim_word env' (moved_primitive b p) ≡ prim_word env p
prim-moved b env env' h (Same a) = atom-moved b env env' h a
prim-moved b env env' h (UnaOf op a) = ap (una_word op) (atom-moved b env env' h a)
prim-moved b env env' h (BinOf op a c) =
    ap (λ v. bin_word op v (atom_word env' (moved_atom b c))) (atom-moved b env env' h a) ∙ ap (bin_word op (atom_word env a)) (atom-moved b env env' h c)
