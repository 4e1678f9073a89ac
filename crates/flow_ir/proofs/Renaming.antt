-- Variables and words of operands with others in their place.
use Rattle.std.proofs.Common.{◌≡◌, ℕ, suc, ◌+◌, ◌≤◌, Bool, true, false, List, [], ◌∷◌, ◌++◌, refl, sym, ap, subst, ◌∙◌, length, if◌then◌else◌, arith}
use Rattle.std.proofs.lemmas.Bool.{and_from, false≢true, false_from_ne_true}
use Rattle.nv_base.specs.declared.term.Atom.{Atom}
use Rattle.nv_base.specs.declared.term.Atom.TheVariants.{Var, Lit}
use Rattle.nv_base.specs.declared.term.Mem.{Mem}
use Rattle.nv_base.specs.declared.term.Mem.TheVariants.{Sram, Sdram, Scratch}
use Rattle.nv_base.specs.declared.term.Primitive.{Primitive}
use Rattle.nv_base.specs.declared.term.Primitive.TheVariants.{Same, Una as UnaOf, Bin as BinOf}
use Rattle.nv_base.specs.Words.{Env, atom_word, atom_words, una_word, bin_word, prim_word, atom_vars, prim_vars, HasPrimCount}
use Rattle.nv_base.specs.Sets.{is_in, all_vars, different, Within, without}
use Rattle.nv_base.specs.Access.{is_known, all_known, is_primitive, has_count, is_address}
use Rattle.nv_base.specs.Measures.{operands_wide, let_wide}
use Rattle.nv_base.proofs.Sets.{same-number, different-below, different-append, within-left, within-right, within-both}
use Rattle.nv_base.proofs.Operands.{count_is_had}
use Rattle.flow_ir.specs.Substitution.{Names, renamed, all_renamed, prim_renamed, look, AreNamed}
use Rattle.flow_ir.proofs.Members.{either, first-or-rest, in-left, in-right, in-first, in-rest, in-not-out, stays, stayed}

-- ---- the variables of what stands for these

abbrev pub image : Names → List ℕ → List ℕ
image σ [] = []
image σ (x ∷ xs) = atom_vars (σ x) ++ image σ xs

-- y is a variable of what stands for one of them
pub record From (σ : Names) (xs : List ℕ) (y : ℕ) : Type 0 where
  pub source : ℕ
  pub among : is_in source xs ≡ true
  pub var : is_in y (atom_vars (σ source)) ≡ true

pub image_from : (σ : Names) (xs : List ℕ) (y : ℕ) → is_in y (image σ xs) ≡ true → From σ xs y
image_from σ [] y e = absurd (false≢true e)
image_from σ (x ∷ xs) y e =
    either y (atom_vars (σ x)) (image σ xs) e (λ p. record { source = x; among = in-first x xs; var = p })
    (λ p. let f = image_from σ xs y p in record { source = f.source; among = in-rest f.source x xs f.among; var = f.var })

pub image_of : (σ : Names) (xs : List ℕ) (y z : ℕ) → is_in z xs ≡ true → is_in y (atom_vars (σ z)) ≡ true → is_in y (image σ xs) ≡ true
image_of σ [] y z e f = absurd (false≢true e)
image_of σ (x ∷ xs) y z e f =
    first-or-rest z x xs e (λ p. in-left y (atom_vars (σ x)) (image σ xs) (subst (λ v. is_in y (atom_vars (σ v)) ≡ true) (same-number z x p) f))
    (λ p. in-right y (atom_vars (σ x)) (image σ xs) (image_of σ xs y z p f))

pub image_within : (σ : Names) (a b : List ℕ) → Within a b → Within (image σ a) (image σ b)
image_within σ a b h = λ y e. let f = image_from σ a y e in image_of σ b y f.source (h f.source f.among) f.var

pub image_both : (σ : Names) (a b c d : List ℕ) → Within a (image σ c) → Within b (image σ d) → Within (a ++ b) (image σ (c ++ d))
image_both σ a b c d p q =
    within-both a b (image σ (c ++ d)) (λ y e. image_within σ c (c ++ d) (within-left c d) y (p y e)) (λ y e. image_within σ d (c ++ d) (within-right c d) y (q y e))

few : (a : Atom) → different (atom_vars a) ≤ 1
few (Var x) = omega arith
few (Lit v) = omega arith

image_at : (σ : Names) (inner : Bool) (x : ℕ) (xs : List ℕ) → is_in x xs ≡ inner → different (image σ xs) ≤ different xs → different (atom_vars (σ x) ++ image σ xs) ≤ (if inner then different xs else 1 + different xs)
image_at σ true x xs i le =
    let same = different-below (atom_vars (σ x) ++ image σ xs) (image σ xs) (within-both (atom_vars (σ x)) (image σ xs) (image σ xs) (λ y e. image_of σ xs y x i e) (λ y e. e)) in
    omega arith
image_at σ false x xs i le =
    let sum = different-append (atom_vars (σ x)) (image σ xs) in
    let one = few (σ x) in
    omega arith

pub image_different : (σ : Names) (xs : List ℕ) → different (image σ xs) ≤ different xs
image_different σ [] = omega arith
image_different σ (x ∷ xs) = image_at σ (is_in x xs) x xs refl (image_different σ xs)

-- where they stand for themselves
pub image_own : (σ : Names) (xs : List ℕ) → ((x : ℕ) → is_in x xs ≡ true → σ x ≡ Var x) → Within (image σ xs) xs
image_own σ xs own =
    λ y e.
    let f = image_from σ xs y e in
    let v : is_in y (f.source ∷ []) ≡ true = subst (λ a. is_in y (atom_vars a) ≡ true) (own f.source f.among) f.var in
    first-or-rest y f.source [] v (λ p. subst (λ z. is_in z xs ≡ true) (sym (same-number y f.source p)) f.among) (λ p. absurd (false≢true p))

pub image_known : (σ : Names) (xs known : List ℕ) → Within xs known → ((x : ℕ) → is_in x known ≡ true → Within (atom_vars (σ x)) known) → Within (image σ xs) known
image_known σ xs known h own = λ y e. let f = image_from σ xs y e in own f.source (h f.source f.among) y f.var

pub atom_image : (σ : Names) (a : Atom) → Within (atom_vars (renamed σ a)) (image σ (atom_vars a))
atom_image σ (Var x) = λ y e. image_of σ (x ∷ []) y x (in-first x []) e
atom_image σ (Lit v) = λ y e. absurd (false≢true e)

pub all_image : (σ : Names) (bs : List Atom) → Within (all_vars (all_renamed σ bs)) (image σ (all_vars bs))
all_image σ [] = λ y e. absurd (false≢true e)
all_image σ (b ∷ bs) = image_both σ (atom_vars (renamed σ b)) (all_vars (all_renamed σ bs)) (atom_vars b) (all_vars bs) (atom_image σ b) (all_image σ bs)

pub prim_image : (σ : Names) (p : Primitive) → Within (prim_vars (prim_renamed σ p)) (image σ (prim_vars p))
prim_image σ (Same a) = atom_image σ a
prim_image σ (UnaOf op a) = atom_image σ a
prim_image σ (BinOf op a b) = image_both σ (atom_vars (renamed σ a)) (atom_vars (renamed σ b)) (atom_vars a) (atom_vars b) (atom_image σ a) (atom_image σ b)

-- ---- where two say the same of these

abbrev pub AreAlike : List ℕ → Names → Names → Type 0
AreAlike xs σ τ = (x : ℕ) → is_in x xs ≡ true → τ x ≡ σ x

pub atom_alike : (σ τ : Names) (a : Atom) → AreAlike (atom_vars a) σ τ → renamed τ a ≡ renamed σ a
atom_alike σ τ (Var x) h = h x (in-first x [])
atom_alike σ τ (Lit v) h = refl

pub all_alike : (σ τ : Names) (bs : List Atom) → AreAlike (all_vars bs) σ τ → all_renamed τ bs ≡ all_renamed σ bs
all_alike σ τ [] h = refl
all_alike σ τ (b ∷ bs) h =
    ap (λ a. a ∷ all_renamed τ bs) (atom_alike σ τ b (λ x e. h x (in-left x (atom_vars b) (all_vars bs) e)))
    ∙ ap (λ l. renamed σ b ∷ l) (all_alike σ τ bs (λ x e. h x (in-right x (atom_vars b) (all_vars bs) e)))

pub prim_alike : (σ τ : Names) (p : Primitive) → AreAlike (prim_vars p) σ τ → prim_renamed τ p ≡ prim_renamed σ p
prim_alike σ τ (Same a) h = ap Same (atom_alike σ τ a h)
prim_alike σ τ (UnaOf op a) h = ap (UnaOf op) (atom_alike σ τ a h)
prim_alike σ τ (BinOf op a b) h =
    ap (λ x. BinOf op x (renamed τ b)) (atom_alike σ τ a (λ x e. h x (in-left x (atom_vars a) (atom_vars b) e)))
    ∙ ap (BinOf op (renamed σ a)) (atom_alike σ τ b (λ x e. h x (in-right x (atom_vars a) (atom_vars b) e)))

pub all_length : (σ : Names) (bs : List Atom) → length (all_renamed σ bs) ≡ length bs
all_length σ [] = refl
all_length σ (b ∷ bs) = ap suc (all_length σ bs)

-- ---- words

-- what stands for each of these variables has the variable's word
pub record Agrees (known : List ℕ) (σ : Names) (env new : Env) : Type 0 where
  pub at : (x : ℕ) → is_in x known ≡ true → atom_word new (σ x) ≡ env x

pub atom_agrees : {known : List ℕ} {σ : Names} {env new : Env} → Agrees known σ env new → (a : Atom) → Within (atom_vars a) known → atom_word new (renamed σ a) ≡ atom_word env a
atom_agrees h (Var x) w = h.at x (w x (in-first x []))
atom_agrees h (Lit v) w = refl

pub atoms_agree : {known : List ℕ} {σ : Names} {env new : Env} → Agrees known σ env new → (bs : List Atom) → Within (all_vars bs) known → atom_words new (all_renamed σ bs) ≡ atom_words env bs
atoms_agree h [] w = refl
atoms_agree {σ = σ} {env = env} {new = new} h (b ∷ bs) w =
    ap (λ v. v ∷ atom_words new (all_renamed σ bs)) (atom_agrees h b (λ x e. w x (in-left x (atom_vars b) (all_vars bs) e)))
    ∙ ap (λ vs. atom_word env b ∷ vs) (atoms_agree h bs (λ x e. w x (in-right x (atom_vars b) (all_vars bs) e)))

pub prim_agrees : {known : List ℕ} {σ : Names} {env new : Env} → Agrees known σ env new → (p : Primitive) → Within (prim_vars p) known → prim_word new (prim_renamed σ p) ≡ prim_word env p
prim_agrees h (Same a) w = atom_agrees h a w
prim_agrees h (UnaOf op a) w = ap (una_word op) (atom_agrees h a w)
prim_agrees {σ = σ} {env = env} {new = new} h (BinOf op a b) w =
    ap (λ v. bin_word op v (atom_word new (renamed σ b))) (atom_agrees h a (λ x e. w x (in-left x (atom_vars a) (atom_vars b) e)))
    ∙ ap (bin_word op (atom_word env a)) (atom_agrees h b (λ x e. w x (in-right x (atom_vars a) (atom_vars b) e)))

-- ---- tests of formed code

pub count_renamed : (σ : Names) (p : Primitive) → HasPrimCount p → HasPrimCount (prim_renamed σ p)
count_renamed σ (Same a) h = h
count_renamed σ (UnaOf op a) h = h
count_renamed σ (BinOf op a b) h = h

pub atom_known : (known : List ℕ) (a : Atom) → Within (atom_vars a) known → is_known known a ≡ true
atom_known known (Var x) h = h x (in-first x [])
atom_known known (Lit v) h = refl

pub atoms_known : (known : List ℕ) (bs : List Atom) → Within (all_vars bs) known → all_known known bs ≡ true
atoms_known known [] h = refl
atoms_known known (b ∷ bs) h =
    and_from (is_known known b) (all_known known bs) (atom_known known b (λ x e. h x (in-left x (atom_vars b) (all_vars bs) e))) (atoms_known known bs (λ x e. h x (in-right x (atom_vars b) (all_vars bs) e)))

pub prim_known : (known : List ℕ) (p : Primitive) → HasPrimCount p → Within (prim_vars p) known → is_primitive known p ≡ true
prim_known known (Same a) count h = atom_known known a h
prim_known known (UnaOf op a) count h = and_from (has_count op) (is_known known a) (count_is_had op count) (atom_known known a h)
prim_known known (BinOf op a b) count h =
    and_from (is_known known a) (is_known known b) (atom_known known a (λ x e. h x (in-left x (atom_vars a) (atom_vars b) e))) (atom_known known b (λ x e. h x (in-right x (atom_vars a) (atom_vars b) e)))

pub address_renamed : (σ : Names) (m : Mem) (a : Atom) (n : ℕ) → is_address m a n ≡ true → is_address m (renamed σ a) n ≡ true
address_renamed σ Scratch (Lit at) n h = h
address_renamed σ Scratch (Var x) n h = absurd (false≢true h)
address_renamed σ Sram a n h = refl
address_renamed σ Sdram a n h = refl

-- ---- widths

pub fewer : (σ : Names) (a b : List ℕ) → Within a (image σ b) → different a ≤ different b
fewer σ a b h = let one = different-below a (image σ b) h in let two = image_different σ b in omega arith

atom_covered : (σ : Names) (a : Atom) → Within (image σ (atom_vars a)) (atom_vars (renamed σ a))
atom_covered σ (Var x) = λ y e. either y (atom_vars (σ x)) [] e (λ p. p) (λ p. absurd (false≢true p))
atom_covered σ (Lit v) = λ y e. absurd (false≢true e)

all_covered : (σ : Names) (bs : List Atom) → Within (image σ (all_vars bs)) (all_vars (all_renamed σ bs))
all_covered σ [] = λ y e. absurd (false≢true e)
all_covered σ (b ∷ bs) =
    λ y e.
    let f = image_from σ (atom_vars b ++ all_vars bs) y e in
    either f.source (atom_vars b) (all_vars bs) f.among
    (λ p. in-left y (atom_vars (renamed σ b)) (all_vars (all_renamed σ bs)) (atom_covered σ b y (image_of σ (atom_vars b) y f.source p f.var)))
    (λ p. in-right y (atom_vars (renamed σ b)) (all_vars (all_renamed σ bs)) (all_covered σ bs y (image_of σ (all_vars bs) y f.source p f.var)))

without_image : (σ : Names) (a b : List ℕ) (bs : List Atom) → Within a (image σ b) → Within (without a (all_vars (all_renamed σ bs))) (image σ (without b (all_vars bs)))
without_image σ a b bs h =
    λ y e.
    let parts = stayed y a (all_vars (all_renamed σ bs)) e in
    let f = image_from σ b y (h y parts.0) in
    image_of σ (without b (all_vars bs)) y f.source
    (stays f.source b (all_vars bs) f.among
    (false_from_ne_true (is_in f.source (all_vars bs)) (λ i. in-not-out y (all_vars (all_renamed σ bs)) (all_covered σ bs y (image_of σ (all_vars bs) y f.source i f.var)) parts.1)))
    f.var

pub operands_image : (σ : Names) (a b : List ℕ) (bs : List Atom) → Within a (image σ b) → operands_wide a (all_renamed σ bs) ≤ operands_wide b bs
operands_image σ a b [] h = fewer σ a b h
operands_image σ a b (c ∷ bs) h =
    let le = fewer σ (without a (all_vars (all_renamed σ (c ∷ bs)))) (without b (all_vars (c ∷ bs))) (without_image σ a b (c ∷ bs) h) in
    let e = all_length σ bs in
    omega arith

pub let_image : (σ : Names) (a b : List ℕ) → Within a (image σ b) → let_wide a ≤ let_wide b
let_image σ a b h = let le = fewer σ a b h in omega arith

-- ---- what references tell

pub renamed_at : {l l' : List Atom} {b : Atom} (a : Atom) → b ≡ renamed (look l) a → l ≡ l' → b ≡ renamed (look l') a
renamed_at a e f = e ∙ ap (λ v. renamed (look v) a) f

pub all_at : {l l' bs bs' cs : List Atom} → cs ≡ all_renamed (look l) bs → l ≡ l' → bs ≡ bs' → cs ≡ all_renamed (look l') bs'
all_at {l' = l'} {bs = bs} e f g = e ∙ ap (λ v. all_renamed (look v) bs) f ∙ ap (all_renamed (look l')) g

pub named_at : {σ τ : Names} {xs ys : List ℕ} → AreNamed σ xs τ → xs ≡ ys → AreNamed σ ys τ
named_at {σ} {τ} h e = subst (λ l. AreNamed σ l τ) e h
