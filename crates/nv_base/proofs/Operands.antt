-- Operands, counts of shifts and accesses: their tests, and what they depend on.
use Rattle.std.proofs.Common.{◌≡◌, ℕ, ◌*◌, ◌≤◌, true, false, nat_eq, List, [], ◌∷◌, ◌++◌, refl, sym, ap, subst, ◌∙◌, ⊎_elim, zero, suc, inl, inr, arith}
use Rattle.std.proofs.lemmas.Bool.Decides.{nat_tests}
use Rattle.std.proofs.lemmas.Bool.{cases_eq, and_parts, and_from, or_cases, or_left, false≢true, eq-eqb}
use Rattle.nv_base.specs.declared.term.Atom.{Atom}
use Rattle.nv_base.specs.declared.term.Atom.TheVariants.{Var, Lit}
use Rattle.nv_base.specs.declared.term.Mem.{Mem}
use Rattle.nv_base.specs.declared.term.Mem.TheVariants.{Sram, Sdram, Scratch}
use Rattle.nv_base.specs.declared.term.Primitive.{Primitive}
use Rattle.nv_base.specs.declared.term.Primitive.TheVariants.{Same, Una as UnaOf, Bin as BinOf}
use Rattle.nv_base.specs.declared.term.Una.{Una}
use Rattle.nv_base.specs.declared.term.Una.TheVariants.{Not, Shl, Shr, Rol}
use Rattle.nv_base.specs.Words.{Env, una_word, bin_word, atom_word, atom_words, prim_word, atom_vars, prim_vars, HasCount, HasPrimCount}
use Rattle.nv_base.specs.Memories.{IsAccess}
use Rattle.nv_base.specs.Sets.{is_in, all_vars, Within, AgreeOn}
use Rattle.nv_base.specs.Access.{is_known, all_known, has_count, is_primitive, can_move}
use Rattle.nv_base.proofs.Sets.{same-number, within-left, within-right, within-both, agree-within}

-- ---- operands

pub atom-known : (known : List ℕ) (a : Atom) → is_known known a ≡ true → Within (atom_vars a) known
atom-known known (Var x) e = λ y i. ⊎_elim (λ (p : nat_eq y x ≡ true). subst (λ z. is_in z known ≡ true) (sym (same-number y x p)) e) (λ (p : false ≡ true). absurd (false≢true p)) (or_cases (nat_eq y x) false i)
atom-known known (Lit v) e = λ y i. absurd (false≢true i)

pub atoms-known : (known : List ℕ) (as' : List Atom) → all_known known as' ≡ true → Within (all_vars as') known
atoms-known known [] e = λ y i. absurd (false≢true i)
atoms-known known (a ∷ as') e =
    let parts = and_parts (is_known known a) (all_known known as') e in within-both (atom_vars a) (all_vars as') known (atom-known known a parts.0) (atoms-known known as' parts.1)

pub prim-known : (known : List ℕ) (p : Primitive) → is_primitive known p ≡ true → Within (prim_vars p) known
prim-known known (Same a) e = atom-known known a e
prim-known known (UnaOf op a) e = atom-known known a (and_parts (has_count op) (is_known known a) e).1
prim-known known (BinOf op a b) e = let parts = and_parts (is_known known a) (is_known known b) e in within-both (atom_vars a) (atom_vars b) known (atom-known known a parts.0) (atom-known known b parts.1)

pub atom-same : (env env' : Env) (a : Atom) → AgreeOn (atom_vars a) env env' → atom_word env a ≡ atom_word env' a
atom-same env env' (Var x) h = h x (or_left (nat_eq x x) false (eq-eqb x x refl))
atom-same env env' (Lit v) h = refl

pub atoms-same : (env env' : Env) (as' : List Atom) → AgreeOn (all_vars as') env env' → atom_words env as' ≡ atom_words env' as'
atoms-same env env' [] h = refl
atoms-same env env' (a ∷ as') h =
    ap (λ w. w ∷ atom_words env as') (atom-same env env' a (agree-within (atom_vars a) (atom_vars a ++ all_vars as') env env' (within-left (atom_vars a) (all_vars as')) h))
    ∙ ap (λ ws. atom_word env' a ∷ ws) (atoms-same env env' as' (agree-within (all_vars as') (atom_vars a ++ all_vars as') env env' (within-right (atom_vars a) (all_vars as')) h))

pub prim-same : (env env' : Env) (p : Primitive) → AgreeOn (prim_vars p) env env' → prim_word env p ≡ prim_word env' p
prim-same env env' (Same a) h = atom-same env env' a h
prim-same env env' (UnaOf op a) h = ap (una_word op) (atom-same env env' a h)
prim-same env env' (BinOf op a b) h =
    ap (λ w. bin_word op w (atom_word env b)) (atom-same env env' a (agree-within (atom_vars a) (atom_vars a ++ atom_vars b) env env' (within-left (atom_vars a) (atom_vars b)) h))
    ∙ ap (bin_word op (atom_word env' a)) (atom-same env env' b (agree-within (atom_vars b) (atom_vars a ++ atom_vars b) env env' (within-right (atom_vars a) (atom_vars b)) h))

-- ---- where more variables are known

pub atom-more : (known known' : List ℕ) (a : Atom) → Within known known' → is_known known a ≡ true → is_known known' a ≡ true
atom-more known known' (Var x) h e = h x e
atom-more known known' (Lit v) h e = refl

pub atoms-more : (known known' : List ℕ) (as' : List Atom) → Within known known' → all_known known as' ≡ true → all_known known' as' ≡ true
atoms-more known known' [] h e = refl
atoms-more known known' (a ∷ as') h e =
    let parts = and_parts (is_known known a) (all_known known as') e in and_from (is_known known' a) (all_known known' as') (atom-more known known' a h parts.0) (atoms-more known known' as' h parts.1)

pub prim-more : (known known' : List ℕ) (p : Primitive) → Within known known' → is_primitive known p ≡ true → is_primitive known' p ≡ true
prim-more known known' (Same a) h e = atom-more known known' a h e
prim-more known known' (UnaOf op a) h e = let parts = and_parts (has_count op) (is_known known a) e in and_from (has_count op) (is_known known' a) parts.0 (atom-more known known' a h parts.1)
prim-more known known' (BinOf op a b) h e =
    let parts = and_parts (is_known known a) (is_known known b) e in and_from (is_known known' a) (is_known known' b) (atom-more known known' a h parts.0) (atom-more known known' b h parts.1)

-- ---- the tests tell the rules

sdram-none : (n : ℕ) → (n ≡ 2 → ⊥) → (n ≡ 4 → ⊥) → (n ≡ 6 → ⊥) → (n ≡ 8 → ⊥) → can_move Sdram n ≡ true → ⊥
sdram-none n two four six eight h = grind (arith, nat_tests)

-- where the test passes, it is an access
pub is_access : (m : Mem) (n : ℕ) → can_move m n ≡ true → IsAccess m n
is_access Sram n h = grind (arith, nat_tests)
is_access Scratch n h = grind (arith, nat_tests)
is_access Sdram n h = elim (cases_eq n 2) [
  | inl e ↦ (1, e, omega arith, omega arith)
  | inr two ↦ elim (cases_eq n 4) [
    | inl e ↦ (2, e, omega arith, omega arith)
    | inr four ↦ elim (cases_eq n 6) [
      | inl e ↦ (3, e, omega arith, omega arith)
      | inr six ↦ elim (cases_eq n 8) [
        | inl e ↦ (4, e, omega arith, omega arith)
        | inr eight ↦ absurd (sdram-none n two four six eight h)
      ]
    ]
  ]
]

sdram-moves : (n half : ℕ) → n ≡ 2 * half → 1 ≤ half → half ≤ 4 → can_move Sdram n ≡ true
sdram-moves n zero e least most = absurd (omega arith)
sdram-moves n (suc zero) e least most = let same : n ≡ 2 = e in ap (can_move Sdram) same
sdram-moves n (suc (suc zero)) e least most = let same : n ≡ 4 = e in ap (can_move Sdram) same
sdram-moves n (suc (suc (suc zero))) e least most = let same : n ≡ 6 = e in ap (can_move Sdram) same
sdram-moves n (suc (suc (suc (suc zero)))) e least most = let same : n ≡ 8 = e in ap (can_move Sdram) same
sdram-moves n (suc (suc (suc (suc (suc half))))) e least most = absurd (omega arith)

pub access_moves : (m : Mem) (n : ℕ) → IsAccess m n → can_move m n ≡ true
access_moves Sram n h = grind (arith, nat_tests)
access_moves Scratch n h = grind (arith, nat_tests)
access_moves Sdram n h = sdram-moves n h.0 h.1 h.2 h.3

pub has_its_count : (op : Una) → has_count op ≡ true → HasCount op
has_its_count Not h = tt
has_its_count (Shl k) h = grind (arith, nat_tests)
has_its_count (Shr k) h = grind (arith, nat_tests)
has_its_count (Rol k) h = grind (arith, nat_tests)

pub count_is_had : (op : Una) → HasCount op → has_count op ≡ true
count_is_had Not h = refl
count_is_had (Shl k) h = grind (arith, nat_tests)
count_is_had (Shr k) h = grind (arith, nat_tests)
count_is_had (Rol k) h = grind (arith, nat_tests)

-- an access has at most 8 words
pub access_eight : (m : Mem) (n : ℕ) → IsAccess m n → n ≤ 8
access_eight Sram n h = h.1
access_eight Scratch n h = h.1
access_eight Sdram n h = let e : n ≡ 2 * h.0 = h.1 in let k : h.0 ≤ 4 = h.3 in omega arith

pub count_of_known : (known : List ℕ) (p : Primitive) → is_primitive known p ≡ true → HasPrimCount p
count_of_known known (Same a) h = tt
count_of_known known (UnaOf op a) h = has_its_count op (and_parts (has_count op) (is_known known a) h).0
count_of_known known (BinOf op a b) h = tt
