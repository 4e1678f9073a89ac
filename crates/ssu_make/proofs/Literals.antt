-- What literals before a node do.
use Rattle.std.proofs.Common.{◌≡◌, ℕ, ◌+◌, ◌*◌, ◌/◌, ◌%◌, ◌^◌, ◌<◌, ◌≤◌, Bool, true, false, List, [], ◌∷◌, map, refl, ap, ◌∙◌, ◌⊎◌, inl, inr, ⊎_elim, if◌then◌else◌, bit_or, arith}
use Rattle.std.proofs.lemmas.Nat.{or_shifted}
use Rattle.nv_base.specs.declared.term.Atom.{Atom}
use Rattle.nv_base.specs.declared.term.Atom.TheVariants.{Var, Lit}
use Rattle.nv_base.specs.Words.{Env, IsWord, word, assigned, atom_word, atom_words}
use Rattle.nv_base.specs.World.{World}
use Rattle.nv_base.proofs.WordLemmas.{word-fits}
use Rattle.ssu_ir.specs.Tree as ssu
use Rattle.ssu_ir.specs.Meaning.{Next, does}
use Rattle.ssu_ir.specs.Single.{is_narrow}
use Rattle.ssu_make.specs.Uses.{Counts, here, occurs}
use Rattle.ssu_make.specs.Made.{high, low, literal, names_taken, last_taken, taken, all_taken, name, names, atom_literal, literals}
use Rattle.std.proofs.lemmas.Bool.{eq-eqb}
use Rattle.ssu_make.proofs.Assigned.{assigned-same, assigned-other}

-- the environment after a literal
abbrev pub halves_env : ℕ → ℕ → Env → Env
halves_env n w e = assigned (assigned e n (word (high w))) (n + 1) (word (low w))

abbrev pub literal_env : Bool → ℕ → ℕ → Env → Env
literal_env true n w e = assigned e n (word w)
literal_env false n w e = assigned (halves_env n w e) (n + 2) (bit_or (halves_env n w e n) (halves_env n w e (n + 1)))

abbrev pub atom_env : ℕ → Atom → Env → Env
atom_env n (Var x) e = e
atom_env n (Lit v) e = literal_env (is_narrow (word v)) n (word v) e

abbrev pub literals_env : ℕ → List Atom → Env → Env
literals_env n [] e = e
literals_env n (a ∷ as') e = literals_env n as' (atom_env (n + all_taken as') a e)

literal-does : (b : Bool) (next : Next) (n v : ℕ) (t : ssu.Tree) (e : Env) (w : World) → does next (literal b n v t) e w ≡ does next t (literal_env b n v e) w
literal-does true next n v t e w = refl
literal-does false next n v t e w = refl

atom-does : (next : Next) (n : ℕ) (a : Atom) (t : ssu.Tree) (e : Env) (w : World) → does next (atom_literal n a t) e w ≡ does next t (atom_env n a e) w
atom-does next n (Var x) t e w = refl
atom-does next n (Lit v) t e w = literal-does (is_narrow (word v)) next n (word v) t e w

pub literals-do : (next : Next) (n : ℕ) (as' : List Atom) (t : ssu.Tree) (e : Env) (w : World) → does next (literals n as' t) e w ≡ does next t (literals_env n as' e) w
literals-do next n [] t e w = refl
literals-do next n (a ∷ as') t e w = atom-does next (n + all_taken as') a (literals n as' t) e w ∙ literals-do next n as' t (atom_env (n + all_taken as') a e) w

-- ---- other names keep their words

literal-other : (b : Bool) (n v z : ℕ) (e : Env) → (z < n) ⊎ (n + names_taken b ≤ z) → literal_env b n v e z ≡ e z
literal-other true n v z e h = assigned-other e n (word v) z (⊎_elim (λ (p : z < n). λ e. omega arith) (λ (p : n + 1 ≤ z). λ e. omega arith) h)
literal-other false n v z e h =
    assigned-other (halves_env n v e) (n + 2) _ z (⊎_elim (λ (p : z < n). λ e. omega arith) (λ (p : n + 3 ≤ z). λ e. omega arith) h)
    ∙ assigned-other (assigned e n (word (high v))) (n + 1) (word (low v)) z (⊎_elim (λ (p : z < n). λ e. omega arith) (λ (p : n + 3 ≤ z). λ e. omega arith) h)
    ∙ assigned-other e n (word (high v)) z (⊎_elim (λ (p : z < n). λ e. omega arith) (λ (p : n + 3 ≤ z). λ e. omega arith) h)

atom-other : (n : ℕ) (a : Atom) (z : ℕ) (e : Env) → (z < n) ⊎ (n + taken a ≤ z) → atom_env n a e z ≡ e z
atom-other n (Var x) z e h = refl
atom-other n (Lit v) z e h = literal-other (is_narrow (word v)) n (word v) z e h

pub literals-other : (n : ℕ) (as' : List Atom) (z : ℕ) (e : Env) → (z < n) ⊎ (n + all_taken as' ≤ z) → literals_env n as' e z ≡ e z
literals-other n [] z e h = refl
literals-other n (a ∷ as') z e h =
    literals-other n as' z (atom_env (n + all_taken as') a e) (⊎_elim (λ (p : z < n). inl p) (λ (p : n + (taken a + all_taken as') ≤ z). inr (omega arith)) h)
    ∙ atom-other (n + all_taken as') a z e (⊎_elim (λ (p : z < n). inl (omega arith)) (λ (p : n + (taken a + all_taken as') ≤ z). inr (omega arith)) h)

-- ---- a literal's name has its word

halves : (w : ℕ) → IsWord w → bit_or (word (high w)) (word (low w)) ≡ w
halves w fits =
    let up : word (high w) ≡ w / 65536 * 2 ^ 16 = omega arith in
    let down : word (low w) ≡ w % 65536 = omega arith in
    let all : w / 65536 * 2 ^ 16 + w % 65536 ≡ w = omega arith in
    ap (λ x. bit_or x (word (low w))) up ∙ ap (λ x. bit_or (w / 65536 * 2 ^ 16) x) down ∙ or_shifted (w / 65536) 16 (w % 65536) (omega arith) ∙ all

literal-word : (b : Bool) (n w : ℕ) (e : Env) → IsWord w → literal_env b n w e (last_taken b n) ≡ w
literal-word true n w e fits = assigned-same e n (word w) ∙ (let same : word w ≡ w = omega arith in same)
literal-word false n w e fits =
    let up : halves_env n w e n ≡ word (high w) = assigned-other (assigned e n (word (high w))) (n + 1) (word (low w)) n (λ e. omega arith) ∙ assigned-same e n (word (high w)) in
    let down : halves_env n w e (n + 1) ≡ word (low w) = assigned-same (assigned e n (word (high w))) (n + 1) (word (low w)) in
    assigned-same (halves_env n w e) (n + 2) (bit_or (halves_env n w e n) (halves_env n w e (n + 1)))
    ∙ ap (λ x. bit_or x (halves_env n w e (n + 1))) up ∙ ap (λ x. bit_or (word (high w)) x) down ∙ halves w fits

-- ---- the names of operands have their words

-- each copy that is still to be used has its variable's word, and lies below m
pub record Agrees (base r : Counts) (m : ℕ) (env e : Env) : Type 0 where
  pub below : (y k : ℕ) → k < r y → base y + k < m
  pub same : (y k : ℕ) → k < r y → e (base y + k) ≡ env y

last-least : (b : Bool) (n : ℕ) → (n ≤ last_taken b n) × (last_taken b n < n + names_taken b)
last-least true n = (omega arith, omega arith)
last-least false n = (omega arith, omega arith)

-- an operand's own place among its uses
here-one : (x : ℕ) → here (Var x) x ≡ 1
here-one x = ap (λ b. if b then 1 else 0) (eq-eqb x x refl)

pub agrees-tail : (base r : Counts) (m n : ℕ) (a : Atom) (as' : List Atom) (env e : Env) → m ≤ n → Agrees base (λ y. occurs (a ∷ as') y + r y) m env e → Agrees base (λ y. occurs as' y + r y) m env (atom_env n a e)
agrees-tail base r m n a as' env e le g = record {
  below = λ y k lt. g.below y k (omega arith);
  same = λ y k lt. let lower = g.below y k (omega arith) in atom-other n a (base y + k) e (inl (omega arith)) ∙ g.same y k (omega arith);
}

-- after the literals of the operands, only what follows is to be used
pub agrees-behind : (base r : Counts) (m n : ℕ) (as' : List Atom) (env e : Env) → m ≤ n → Agrees base (λ y. occurs as' y + r y) m env e → Agrees base r m env (literals_env n as' e)
agrees-behind base r m n as' env e le g = record {
  below = λ y k lt. g.below y k (omega arith);
  same = λ y k lt. let lower = g.below y k (omega arith) in literals-other n as' (base y + k) e (inl (omega arith)) ∙ g.same y k (omega arith);
}

head-word : (base r : Counts) (m n : ℕ) (a : Atom) (as' : List Atom) (env e : Env) → m ≤ n → Agrees base (λ y. occurs (a ∷ as') y + r y) m env e
    → literals_env n as' (atom_env (n + all_taken as') a e) (name base (λ y. occurs as' y + r y) (n + all_taken as') a) ≡ atom_word env a
head-word base r m n (Var x) as' env e le g =
    let one : here (Var x) x ≡ 1 = here-one x in
    let lt : occurs as' x + r x < here (Var x) x + occurs as' x + r x = omega arith in
    let lower = g.below x (occurs as' x + r x) lt in
    literals-other n as' (base x + (occurs as' x + r x)) e (inl (omega arith)) ∙ g.same x (occurs as' x + r x) lt
head-word base r m n (Lit v) as' env e le g =
    let b = is_narrow (word v) in
    let least = last-least b (n + all_taken as') in
    literals-other n as' (last_taken b (n + all_taken as')) (literal_env b (n + all_taken as') (word v) e) (inr least.0)
    ∙ literal-word b (n + all_taken as') (word v) e (word-fits v)

pub names-words : (base r : Counts) (m n : ℕ) (as' : List Atom) (env e : Env) → m ≤ n → Agrees base (λ y. occurs as' y + r y) m env e → map (literals_env n as' e) (names base r n as') ≡ atom_words env as'
names-words base r m n [] env e le g = refl
names-words base r m n (a ∷ as') env e le g =
    let E = literals_env n as' (atom_env (n + all_taken as') a e) in
    let far : m ≤ n + all_taken as' = omega arith in
    ap (λ w. w ∷ map E (names base r n as')) (head-word base r m n a as' env e le g)
    ∙ ap (λ ws. atom_word env a ∷ ws) (names-words base r m n as' env (atom_env (n + all_taken as') a e) le (agrees-tail base r m (n + all_taken as') a as' env e far g))
