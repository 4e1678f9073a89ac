-- Names, one after the other.
use Rattle.std.proofs.Common.{◌≡◌, ℕ, zero, suc, ◌+◌, ◌<◌, Bool, true, false, not, nat_eq, ◌||◌, List, [], ◌∷◌, ◌++◌, refl, sym, ap, subst, ◌∙◌, length, if◌then◌else◌, take, get_or, arith}
use Rattle.std.specs.List.{range_with_len}
use Rattle.std.proofs.Math.Path.{fun_ext}
use Rattle.std.proofs.lemmas.List.{take_more, length-take-le, length_push}
use Rattle.std.proofs.lemmas.Bool.{or_parts, or_from, and_from, not_from_false, false≢true}
use Rattle.nv_base.specs.declared.term.Atom.{Atom}
use Rattle.nv_base.specs.declared.term.Atom.TheVariants.{Var, Lit}
use Rattle.nv_base.specs.Words.{atom_vars}
use Rattle.nv_base.specs.Sets.{is_in, all_different, all_vars, Within}
use Rattle.nv_base.proofs.Sets.{same-number}
use Rattle.flow_ir.specs.Substitution.{Names, look, IsNamed}
use Rattle.flow_ir.proofs.Members.{in-rest, in-left, in-right, in-or-out}
use Rattle.flow_merge.proofs.Lookup.{not_equal}
use Rattle.flow_merge.specs.inner.Copied.{named, all_named, numbered, undone}

-- ---- one more

pub as_named : (σ τ : Names) (x : ℕ) (a : Atom) → IsNamed σ x a τ → τ ≡ named σ x a
as_named σ τ x a h = fun_ext (λ y. h.at y)

back_at : (b : Bool) (σ : Names) (x y : ℕ) (a : Atom) → nat_eq y x ≡ b → (if b then σ x else (if b then a else σ y)) ≡ σ y
back_at true σ x y a e = ap σ (sym (same-number y x e))
back_at false σ x y a e = refl

named_back : (σ : Names) (x : ℕ) (a : Atom) → named (named σ x a) x (σ x) ≡ σ
named_back σ x a = fun_ext (λ y. back_at (nat_eq y x) σ x y a refl)

undone_set : (ss : List (ℕ × Atom)) (σ : Names) (x : ℕ) (a : Atom) → undone (ss ++ (x, σ x) ∷ []) (named σ x a) ≡ undone ss σ
undone_set [] σ x a = named_back σ x a
undone_set (s ∷ ss) σ x a = ap (λ τ. named τ s.0 s.1) (undone_set ss σ x a)

undone_last : (ss : List (ℕ × Atom)) (s : ℕ × Atom) (σ : Names) → undone (ss ++ s ∷ []) σ ≡ undone ss (named σ s.0 s.1)
undone_last [] s σ = refl
undone_last (t ∷ ss) s σ = ap (λ τ. named τ t.0 t.1) (undone_last ss s σ)

-- a name is set, and what it was is saved
pub saved_one : (ss ss' : List (ℕ × Atom)) (σ τ : Names) (x : ℕ) (old a : Atom) → old ≡ σ x → ss' ≡ ss ++ (x, old) ∷ [] → IsNamed σ x a τ → undone ss' τ ≡ undone ss σ
saved_one ss ss' σ τ x old a e push h =
    ap (λ l. undone l τ) (push ∙ ap (λ v. ss ++ (x, v) ∷ []) e) ∙ ap (undone (ss ++ (x, σ x) ∷ [])) (as_named σ τ x a h) ∙ undone_set ss σ x a

-- the last one saved is given up
pub restored_one : (ss more : List (ℕ × Atom)) (s : ℕ × Atom) (σ τ : Names) → ss ≡ more ++ s ∷ [] → IsNamed σ s.0 s.1 τ → undone more τ ≡ undone ss σ
restored_one ss more s σ τ e h = ap (undone more) (as_named σ τ s.0 s.1 h) ∙ sym (undone_last more s σ) ∙ ap (λ l. undone l σ) (sym e)

-- ---- one after the others

pub range_last : (n a : ℕ) → range_with_len a (n + 1) ≡ range_with_len a n ++ (a + n) ∷ []
range_last zero a = let e : a ≡ a + 0 = omega arith in ap (λ z. z ∷ []) e
range_last (suc n) a = let k : suc n + 1 ≡ suc (n + 1) = omega arith in let e : a + 1 + n ≡ a + suc n = omega arith in ap (range_with_len a) k ∙ ap (λ l. a ∷ l) (range_last n (a + 1) ∙ ap (λ z. range_with_len (a + 1) n ++ z ∷ []) e)

pub numbered_last : (xs : List ℕ) (x n : ℕ) (σ : Names) → numbered σ n (xs ++ x ∷ []) ≡ named (numbered σ n xs) x (Var (n + length xs))
numbered_last [] x n σ = let e : n ≡ n + 0 = omega arith in ap (λ k. named σ x (Var k)) e
numbered_last (y ∷ xs) x n σ =
    let e : n + 1 + length xs ≡ n + suc (length xs) = omega arith in
    numbered_last xs x (n + 1) (named σ y (Var n)) ∙ ap (λ k. named (numbered (named σ y (Var n)) (n + 1) xs) x (Var k)) e

pub all_named_last : (xs : List ℕ) (x : ℕ) (as' : List Atom) (σ : Names) → all_named σ (xs ++ x ∷ []) as' ≡ named (all_named σ xs as') x (look as' (length xs))
all_named_last [] x [] σ = refl
all_named_last [] x (a ∷ as') σ = refl
all_named_last (y ∷ xs) x [] σ = all_named_last xs x [] (named σ y (Lit 0))
all_named_last (y ∷ xs) x (a ∷ as') σ = all_named_last xs x as' (named σ y a)

-- ---- ranges

pub range_append : (j k a : ℕ) → range_with_len a (j + k) ≡ range_with_len a j ++ range_with_len (a + j) k
range_append zero k a = let z : 0 + k ≡ k = omega arith in let e : a ≡ a + 0 = omega arith in ap (range_with_len a) z ∙ ap (λ z. range_with_len z k) e
range_append (suc j) k a =
    let s : suc j + k ≡ suc (j + k) = omega arith in
    let e : a + 1 + j ≡ a + suc j = omega arith in
    ap (range_with_len a) s ∙ ap (λ l. a ∷ l) (range_append j k (a + 1) ∙ ap (λ z. range_with_len (a + 1) j ++ range_with_len z k) e)

pub below_range : (n z a : ℕ) → z < a → is_in z (range_with_len a n) ≡ false
below_range zero z a lt = refl
below_range (suc n) z a lt = or_from (nat_eq z a) (is_in z (range_with_len (a + 1) n)) (not_equal z a lt) (below_range n z (a + 1) (omega arith))

pub range_different : (n a : ℕ) → all_different (range_with_len a n) ≡ true
range_different zero a = refl
range_different (suc n) a =
    and_from (not (is_in a (range_with_len (a + 1) n))) (all_different (range_with_len (a + 1) n)) (not_from_false (is_in a (range_with_len (a + 1) n)) (below_range n a (a + 1) (omega arith))) (range_different n (a + 1))

-- ---- what stands for each

named_at : {C : Type 0} (b : Bool) (y x : ℕ) → nat_eq y x ≡ b → (nat_eq y x ≡ true → C) → (nat_eq y x ≡ false → C) → C
named_at true y x e f g = f e
named_at false y x e f g = g e

pub named_case : {C : Type 0} (y x : ℕ) → (nat_eq y x ≡ true → C) → (nat_eq y x ≡ false → C) → C
named_case y x f g = named_at (nat_eq y x) y x refl f g

pub named_here : (σ : Names) (x y : ℕ) (a : Atom) → nat_eq y x ≡ true → named σ x a y ≡ a
named_here σ x y a e = ap (λ b. if b then a else σ y) e

pub named_else : (σ : Names) (x y : ℕ) (a : Atom) → nat_eq y x ≡ false → named σ x a y ≡ σ y
named_else σ x y a e = ap (λ b. if b then a else σ y) e

or_other : (a b : Bool) → (a || b) ≡ true → b ≡ false → a ≡ true
or_other true b e f = refl
or_other false b e f = absurd (false≢true (sym f ∙ e))

pub numbered_out : (xs : List ℕ) (σ : Names) (n y : ℕ) → is_in y xs ≡ false → numbered σ n xs y ≡ σ y
numbered_out [] σ n y e = refl
numbered_out (x ∷ xs) σ n y e = let parts = or_parts (nat_eq y x) (is_in y xs) e in numbered_out xs (named σ x (Var n)) (n + 1) y parts.1 ∙ named_else σ x y (Var n) parts.0

var_itself : (z n : ℕ) (a : Atom) (xs : List ℕ) → a ≡ Var n → is_in z (atom_vars a) ≡ true → is_in z (n ∷ xs) ≡ true
var_itself z n a xs e i = in-left z (n ∷ []) xs (subst (λ b. is_in z (atom_vars b) ≡ true) e i)

pub numbered_in : (xs : List ℕ) (σ : Names) (n y : ℕ) → is_in y xs ≡ true → Within (atom_vars (numbered σ n xs y)) (range_with_len n (length xs))
numbered_in [] σ n y e = absurd (false≢true e)
numbered_in (x ∷ xs) σ n y e =
    λ z i.
    in-or-out y xs (λ p. in-rest z n (range_with_len (n + 1) (length xs)) (numbered_in xs (named σ x (Var n)) (n + 1) y p z i))
    (λ p. var_itself z n (numbered (named σ x (Var n)) (n + 1) xs y) (range_with_len (n + 1) (length xs)) (numbered_out xs (named σ x (Var n)) (n + 1) y p ∙ named_here σ x y (Var n) (or_other (nat_eq y x) (is_in y xs) e p)) i)

pub operands_out : (xs : List ℕ) (as' : List Atom) (σ : Names) (y : ℕ) → is_in y xs ≡ false → all_named σ xs as' y ≡ σ y
operands_out [] as' σ y e = refl
operands_out (x ∷ xs) [] σ y e = let parts = or_parts (nat_eq y x) (is_in y xs) e in operands_out xs [] (named σ x (Lit 0)) y parts.1 ∙ named_else σ x y (Lit 0) parts.0
operands_out (x ∷ xs) (a ∷ as') σ y e = let parts = or_parts (nat_eq y x) (is_in y xs) e in operands_out xs as' (named σ x a) y parts.1 ∙ named_else σ x y a parts.0

pub operands_in : (xs : List ℕ) (as' : List Atom) (σ : Names) (y : ℕ) → is_in y xs ≡ true → Within (atom_vars (all_named σ xs as' y)) (all_vars as')
operands_in [] as' σ y e = absurd (false≢true e)
operands_in (x ∷ xs) [] σ y e =
    λ z i.
    in-or-out y xs (λ p. operands_in xs [] (named σ x (Lit 0)) y p z i)
    (λ p. absurd (false≢true (subst (λ b. is_in z (atom_vars b) ≡ true) (operands_out xs [] (named σ x (Lit 0)) y p ∙ named_here σ x y (Lit 0) (or_other (nat_eq y x) (is_in y xs) e p)) i)))
operands_in (x ∷ xs) (a ∷ as') σ y e =
    λ z i.
    in-or-out y xs (λ p. in-right z (atom_vars a) (all_vars as') (operands_in xs as' (named σ x a) y p z i))
    (λ p. in-left z (atom_vars a) (all_vars as') (subst (λ b. is_in z (atom_vars b) ≡ true) (operands_out xs as' (named σ x a) y p ∙ named_here σ x y a (or_other (nat_eq y x) (is_in y xs) e p)) i))

-- ---- variables get numbers one by one

pub record Set (σ : Names) (n : ℕ) (ss : List (ℕ × Atom)) (xs : List ℕ) (τ : Names) (k : ℕ) (ss' : List (ℕ × Atom)) (ys : List ℕ) : Type 0 where
  pub numbers : ys ≡ range_with_len n (length xs)
  pub next : k ≡ n + length xs
  pub names : τ ≡ numbered σ n xs
  pub saved : undone ss' τ ≡ undone ss σ

pub set_start : (σ : Names) (n : ℕ) (ss : List (ℕ × Atom)) → Set σ n ss [] σ n ss []
set_start σ n ss = record { numbers = refl; next = omega arith; names = refl; saved = refl }

pub set_more : {σ τ : Names} {n k : ℕ} {ss ss' : List (ℕ × Atom)} {ys : List ℕ} (xs : List ℕ) (i d : ℕ) (υ : Names) (y j : ℕ) (ss'' : List (ℕ × Atom)) (zs : List ℕ) → i < length xs → Set σ n ss (take i xs) τ k ss' ys → y ≡ k → j ≡ k + 1 → υ ≡ named τ (get_or xs i d) (Var k) → undone ss'' υ ≡ undone ss' τ → zs ≡ ys ++ y ∷ []
    → Set σ n ss (take (i + 1) xs) υ j ss'' zs
set_more {σ} {τ} {n} {k} {ss} {ss'} {ys} xs i d υ y j ss'' zs lt h ey ej eu es push =
    let x = get_or xs i d in
    let front : take (i + 1) xs ≡ take i xs ++ x ∷ [] = take_more xs i d lt in
    let len : length (take (i + 1) xs) ≡ length (take i xs) + 1 = ap length front ∙ length_push (take i xs) x in
    let next = h.next in
    record {
      numbers = push ∙ ap (λ v. ys ++ v ∷ []) (ey ∙ next) ∙ ap (λ l. l ++ (n + length (take i xs)) ∷ []) h.numbers ∙ sym (range_last (length (take i xs)) n) ∙ ap (range_with_len n) (sym len);
      next = omega (arith, ej, next, len);
      names = eu ∙ ap (λ v. named τ x (Var v)) next ∙ ap (λ v. named v x (Var (n + length (take i xs)))) h.names ∙ sym (numbered_last (take i xs) x n σ) ∙ ap (numbered σ n) (sym front);
      saved = es ∙ h.saved;
    }

pub operands_more : {τ : Names} (σ : Names) (xs : List ℕ) (as' : List Atom) (i d : ℕ) (a : Atom) (υ : Names) → i < length xs → τ ≡ all_named σ (take i xs) as' → a ≡ look as' i → υ ≡ named τ (get_or xs i d) a → υ ≡ all_named σ (take (i + 1) xs) as'
operands_more {τ} σ xs as' i d a υ lt h ea eu =
    let x = get_or xs i d in
    let front : take (i + 1) xs ≡ take i xs ++ x ∷ [] = take_more xs i d lt in
    let len : i ≡ length (take i xs) = sym (length-take-le i xs (omega arith)) in
    eu ∙ ap (named τ x) (ea ∙ ap (look as') len) ∙ ap (λ v. named v x (look as' (length (take i xs)))) h ∙ sym (all_named_last (take i xs) x as' σ) ∙ ap (λ l. all_named σ l as') (sym front)
