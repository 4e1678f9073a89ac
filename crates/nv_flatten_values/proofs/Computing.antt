-- Steps that only compute, one after another.
use Rattle.std.proofs.Common.{◌≡◌, ◌∙◌, refl, ap, sym, subst, ℕ, zero, suc, ◌+◌, ◌*◌, ◌/◌, ◌^◌, ◌<◌, ◌≤◌, List, [], ◌∷◌, ◌++◌, length, get_or, append_assoc, append-nil, arith, bit_or}
use Rattle.std.proofs.lemmas.Nat.{shr_le, or_of_32, mod_below, pow_pos}
use Rattle.std.proofs.lemmas.List.Elements.{All-cons, All-head}
use Rattle.nv_base.specs.declared.term.Atom.{Atom}
use Rattle.nv_base.specs.declared.term.Atom.TheVariants.{Var}
use Rattle.nv_base.specs.declared.term.Bin.TheVariants.{Or}
use Rattle.nv_base.specs.declared.term.Primitive.{Primitive}
use Rattle.nv_base.specs.declared.term.Primitive.TheVariants.{Bin as BinOf}
use Rattle.nv_base.specs.Words.{Env, assigned, atom_word, atom_words, prim_word, shifted_left, shifted_right}
use Rattle.nv_ast.specs.declared.tree.ShiftOp.{ShiftOp}
use Rattle.nv_ast.specs.declared.tree.ShiftOp.TheVariants.{Left, Right, Rotate}
use Rattle.flat_ir.specs.Spine.{Act, steps_do}
use Rattle.flat_ir.specs.declared.spine.Step.{Step}
use Rattle.flat_ir.specs.declared.spine.Step.TheVariants.{Let}
use Rattle.nv_flatten_values.specs.inner.Code.{Computes, shift_of}
use Rattle.nv_flatten_values.specs.inner.Soundness.{AreWords}
use Rattle.nv_flatten_values.specs.inner.Symbols.{IsOlder, AreOlder, Keeps}
use Rattle.nv_flatten_values.specs.inner.Reads.{Makes}
use Rattle.nv_flatten_values.proofs.Keeping.{older-later, keeps-itself, keeps-then, keeps-operand, keeps-operands}
use Rattle.nv_flatten_values.proofs.Following.{assigned-here, one-older}
use Rattle.nv_flatten_values.proofs.SoundWords.{one-word}
use Rattle.nv_flatten_values.proofs.Fresh.{assigned-other}
use Rattle.flat_ir.proofs.Steps.{steps_do-append}

-- ---- assignments

-- ---- steps
pub computes-none : (low : ℕ) (env : Env) (Holds : Env → Type 0) → Holds env → Computes low [] env Holds
computes-none low env Holds h = record { new = env; does = λ call rest now. refl; keeps = keeps-itself low env; holds = h }

pub computes-let : (n : ℕ) (p : Primitive) (env : Env) (Holds : Env → Type 0) → Holds (assigned env n (prim_word env p)) → Computes n (Let n p ∷ []) env Holds
computes-let n p env Holds h = record { new = assigned env n (prim_word env p); does = λ call rest now. refl; keeps = λ y less. assigned-other env n (prim_word env p) y less; holds = h }

-- steps behind others, from which the others' result is known
pub computes-then : (low mid : ℕ) (xs ys : List Step) (env : Env) (P Q : Env → Type 0) → low ≤ mid → Computes low xs env P → ((new : Env) → Keeps low env new → P new → Computes mid ys new Q) → Computes low (xs ++ ys) env Q
computes-then low mid xs ys env P Q h c f =
    let d : Computes mid ys c.new Q = f c.new c.keeps c.holds in
    record {
      new = d.new;
      does = λ call rest now. ap (λ (act : Act). act env now) (steps_do-append call xs ys rest) ∙ c.does call (steps_do call ys rest) now ∙ d.does call rest now;
      keeps = keeps-then low mid env c.new d.new h c.keeps d.keeps;
      holds = d.holds;
    }

pub computes-so : (low : ℕ) (xs : List Step) (env : Env) (P Q : Env → Type 0) → Computes low xs env P → ((new : Env) → Keeps low env new → P new → Q new) → Computes low xs env Q
computes-so low xs env P Q c f = record { new = c.new; does = c.does; keeps = c.keeps; holds = f c.new c.keeps c.holds }

-- ---- one operand

pub older-two : (n : ℕ) (a b : Atom) → IsOlder n a → IsOlder n b → AreOlder n (a ∷ b ∷ [])
older-two n a b h k = All-cons (IsOlder n) a (b ∷ []) h (one-older n b k)

pub words-two : (w v : ℕ) → w < 2 ^ 32 → v < 2 ^ 32 → AreWords (w ∷ v ∷ [])
words-two w v h k = All-cons (λ w. w < 2 ^ 32) w (v ∷ []) h (one-word v k)

pub words-at : (env : Env) (ws : List Atom) (q : ℕ) (d : Atom) → q < length ws → get_or (atom_words env ws) q 0 ≡ atom_word env (get_or ws q d)
words-at env [] q d h = absurd (omega arith)
words-at env (a ∷ ws) zero d h = refl
words-at env (a ∷ ws) (suc q) d h = words-at env ws q d (omega arith)

-- the same, by the words of other operands
pub makes-of : (fit fit' : Type 0) (low high : ℕ) (few all : List Atom) (old new : List Step) (a : Atom) (f g : List ℕ → ℕ) → Makes fit low high few old new a f → (fit' → fit) → (AreOlder low all → AreOlder low few) → ((env : Env) → AreWords (atom_words env all) → AreWords (atom_words env few)) → (fit' → (env : Env) → AreWords (atom_words env all) → f (atom_words env few) ≡ g (atom_words env all)) → Makes fit' low high all old new a g
makes-of fit fit' low high few all old new a f g m p o w e = record {
  steps = m.steps;
  added = m.added;
  later = m.later;
  older = λ h. m.older (o h);
  by = λ q h env ws. computes-so low m.steps env (λ last. (atom_word last a ≡ f (atom_words env few)) × (atom_word last a < 2 ^ 32)) (λ last. (atom_word last a ≡ g (atom_words env all)) × (atom_word last a < 2 ^ 32))
      (m.by (p q) (o h) env (w env ws)) (λ last k r. (r.0 ∙ e q env ws, r.1));
}

-- no step: an operand that is there
pub makes-there : (fit : Type 0) (low : ℕ) (needs : List Atom) (steps : List Step) (a : Atom) (f : List ℕ → ℕ) → (AreOlder low needs → IsOlder low a) → (fit → (env : Env) → AreWords (atom_words env needs) → (atom_word env a ≡ f (atom_words env needs)) × (atom_word env a < 2 ^ 32)) → Makes fit low low needs steps steps a f
makes-there fit low needs steps a f o h = record {
  steps = [];
  added = sym (append-nil steps);
  later = omega arith;
  older = o;
  by = λ q p env ws. computes-none low env (λ last. (atom_word last a ≡ f (atom_words env needs)) × (atom_word last a < 2 ^ 32)) (h q env ws);
}

-- one Let
pub makes-let : (fit : Type 0) (low : ℕ) (needs : List Atom) (old : List Step) (p : Primitive) (f : List ℕ → ℕ) → (fit → (env : Env) → AreWords (atom_words env needs) → (prim_word env p ≡ f (atom_words env needs)) × (prim_word env p < 2 ^ 32)) → Makes fit low (low + 1) needs old (old ++ Let low p ∷ []) (Var low) f
makes-let fit low needs old p f h = record {
  steps = Let low p ∷ [];
  added = refl;
  later = omega arith;
  older = λ o. (let e : low < low + 1 = omega arith in e);
  by = λ q o env ws.
      let there : assigned env low (prim_word env p) low ≡ prim_word env p = assigned-here env low (prim_word env p) in
      computes-let low p env (λ last. (last low ≡ f (atom_words env needs)) × (last low < 2 ^ 32)) (there ∙ (h q env ws).0, subst (λ w. w < 2 ^ 32) (sym there) (h q env ws).1);
}

-- ---- shifts
abbrev pub shift_word : ShiftOp → ℕ → ℕ → ℕ
shift_word Left n w = shifted_left n w
shift_word Right n w = shifted_right n w
shift_word Rotate n w = prim_word (λ x. w) (shift_of Rotate n (Var 0))

shift-is : (op : ShiftOp) (n : ℕ) (env : Env) (a : Atom) → prim_word env (shift_of op n a) ≡ shift_word op n (atom_word env a)
shift-is Left n env a = refl
shift-is Right n env a = refl
shift-is Rotate n env a = refl

pub left-none : (w : ℕ) → w < 2 ^ 32 → w ≡ shifted_left 0 w
left-none w h = omega arith

pub right-none : (w : ℕ) → w ≡ shifted_right 0 w
right-none w = omega arith

pub left-fits : (n w : ℕ) → shifted_left n w < 2 ^ 32
left-fits n w = mod_below (w * 2 ^ n) (2 ^ 32) (pow_pos 32)

pub right-fits : (n w : ℕ) → w < 2 ^ 32 → shifted_right n w < 2 ^ 32
right-fits n w h = let e : w / 2 ^ n ≤ w = shr_le w n in omega arith

makes-shift : (op : ShiftOp) (n : ℕ) (word a : Atom) (low high : ℕ) (old new : List Step) → ((w : ℕ) → w < 2 ^ 32 → w ≡ shift_word op 0 w) → ((w : ℕ) → w < 2 ^ 32 → shift_word op n w < 2 ^ 32) → n ≤ 31
    → (n ≡ 0 → (a ≡ word) × ((new ≡ old) × (high ≡ low))) → (1 ≤ n → n ≤ 31 → (a ≡ Var low) × ((new ≡ old ++ Let low (shift_of op n word) ∷ []) × (high ≡ low + 1)))
    → Makes (1 ≤ 1) low high (word ∷ []) old new a (λ ws. shift_word op n (get_or ws 0 0))
makes-shift op zero word a low high old new same fits h none some =
    let r = none refl in
    subst (λ (b : Atom). Makes (1 ≤ 1) low high (word ∷ []) old new b (λ ws. shift_word op 0 (get_or ws 0 0))) (sym r.0)
    (subst (λ (ss : List Step). Makes (1 ≤ 1) low high (word ∷ []) old ss word (λ ws. shift_word op 0 (get_or ws 0 0))) (sym r.1.0)
    (subst (λ (k : ℕ). Makes (1 ≤ 1) low k (word ∷ []) old old word (λ ws. shift_word op 0 (get_or ws 0 0))) (sym r.1.1)
    (makes-there (1 ≤ 1) low (word ∷ []) old word (λ ws. shift_word op 0 (get_or ws 0 0)) (λ o. All-head (IsOlder low) word [] o)
    (λ q env ws. (same (atom_word env word) (All-head (λ w. w < 2 ^ 32) (atom_word env word) [] ws), All-head (λ w. w < 2 ^ 32) (atom_word env word) [] ws)))))
makes-shift op (suc n) word a low high old new same fits h none some =
    let r = some (omega arith) h in
    subst (λ (b : Atom). Makes (1 ≤ 1) low high (word ∷ []) old new b (λ ws. shift_word op (suc n) (get_or ws 0 0))) (sym r.0)
    (subst (λ (ss : List Step). Makes (1 ≤ 1) low high (word ∷ []) old ss (Var low) (λ ws. shift_word op (suc n) (get_or ws 0 0))) (sym r.1.0)
    (subst (λ (k : ℕ). Makes (1 ≤ 1) low k (word ∷ []) old (old ++ Let low (shift_of op (suc n) word) ∷ []) (Var low) (λ ws. shift_word op (suc n) (get_or ws 0 0))) (sym r.1.1)
    (makes-let (1 ≤ 1) low (word ∷ []) old (shift_of op (suc n) word) (λ ws. shift_word op (suc n) (get_or ws 0 0))
    (λ q env ws. (shift-is op (suc n) env word, subst (λ w. w < 2 ^ 32) (sym (shift-is op (suc n) env word)) (fits (atom_word env word) (All-head (λ w. w < 2 ^ 32) (atom_word env word) [] ws)))))))

pub makes-left : (n : ℕ) (word a : Atom) (low high : ℕ) (old new : List Step) → n ≤ 31
    → (n ≡ 0 → (a ≡ word) × ((new ≡ old) × (high ≡ low))) → (1 ≤ n → n ≤ 31 → (a ≡ Var low) × ((new ≡ old ++ Let low (shift_of Left n word) ∷ []) × (high ≡ low + 1)))
    → Makes (1 ≤ 1) low high (word ∷ []) old new a (λ ws. shifted_left n (get_or ws 0 0))
makes-left n word a low high old new h none some = makes-shift Left n word a low high old new (λ w s. left-none w s) (λ w s. left-fits n w) h none some

pub makes-right : (n : ℕ) (word a : Atom) (low high : ℕ) (old new : List Step) → n ≤ 31
    → (n ≡ 0 → (a ≡ word) × ((new ≡ old) × (high ≡ low))) → (1 ≤ n → n ≤ 31 → (a ≡ Var low) × ((new ≡ old ++ Let low (shift_of Right n word) ∷ []) × (high ≡ low + 1)))
    → Makes (1 ≤ 1) low high (word ∷ []) old new a (λ ws. shifted_right n (get_or ws 0 0))
makes-right n word a low high old new h none some = makes-shift Right n word a low high old new (λ w s. right-none w) (λ w s. right-fits n w s) h none some

-- ---- two operands
-- an operand by another one
pub makes-then : (fit : Type 0) (low mid high : ℕ) (needs : List Atom) (old middle new : List Step) (a b : Atom) (f g : List ℕ → ℕ) → Makes fit low mid needs old middle a f → Makes (1 ≤ 1) mid high (a ∷ []) middle new b g → Makes fit low high needs old new b (λ ws. g (f ws ∷ []))
makes-then fit low mid high needs old middle new a b f g m n = record {
  steps = m.steps ++ n.steps;
  added = n.added ∙ ap (λ ss. ss ++ n.steps) m.added ∙ append_assoc old m.steps n.steps;
  later = (let p : low ≤ mid = m.later in let q : mid ≤ high = n.later in omega arith);
  older = λ o. n.older (one-older mid a (m.older o));
  by = λ q o env ws. computes-then low mid m.steps n.steps env (λ last. (atom_word last a ≡ f (atom_words env needs)) × (atom_word last a < 2 ^ 32)) (λ last. (atom_word last b ≡ g (f (atom_words env needs) ∷ [])) × (atom_word last b < 2 ^ 32)) m.later (m.by q o env ws)
      (λ new k r. computes-so mid n.steps new (λ last. (atom_word last b ≡ g (atom_word new a ∷ [])) × (atom_word last b < 2 ^ 32)) (λ last. (atom_word last b ≡ g (f (atom_words env needs) ∷ [])) × (atom_word last b < 2 ^ 32))
      (n.by (omega arith) (one-older mid a (m.older o)) new (one-word (atom_word new a) r.1)) (λ last l s. (s.0 ∙ ap (λ w. g (w ∷ [])) r.0, s.1)));
}

-- both, one after the other, and then both joined
pub makes-or : (fit : Type 0) (low mid last : ℕ) (needs : List Atom) (old middle new : List Step) (a b : Atom) (f g : List ℕ → ℕ) → Makes fit low mid needs old middle a f → Makes fit mid last needs middle new b g → Makes fit low (last + 1) needs old (new ++ Let last (BinOf Or a b) ∷ []) (Var last) (λ ws. bit_or (f ws) (g ws))
makes-or fit low mid last needs old middle new a b f g m n =
    let p : low ≤ mid = m.later in
    let q : mid ≤ last = n.later in
    record {
      steps = m.steps ++ (n.steps ++ Let last (BinOf Or a b) ∷ []);
      added = ap (λ ss. ss ++ Let last (BinOf Or a b) ∷ []) (n.added ∙ ap (λ ss. ss ++ n.steps) m.added ∙ append_assoc old m.steps n.steps) ∙ append_assoc old (m.steps ++ n.steps) (Let last (BinOf Or a b) ∷ []) ∙ ap (λ ss. old ++ ss) (append_assoc m.steps n.steps (Let last (BinOf Or a b) ∷ []));
      later = omega arith;
      older = λ o. (let e : last < last + 1 = omega arith in e);
      by = λ r o env ws.
          let H : Env → Type 0 = λ end. (end last ≡ bit_or (f (atom_words env needs)) (g (atom_words env needs))) × (end last < 2 ^ 32) in
          computes-then low mid m.steps (n.steps ++ Let last (BinOf Or a b) ∷ []) env (λ e. (atom_word e a ≡ f (atom_words env needs)) × (atom_word e a < 2 ^ 32)) H p (m.by r o env ws)
          (λ e1 k1 h1.
          let same : atom_words e1 needs ≡ atom_words env needs = keeps-operands low env e1 needs k1 o in
          computes-then mid last n.steps (Let last (BinOf Or a b) ∷ []) e1 (λ e. (atom_word e b ≡ g (atom_words e1 needs)) × (atom_word e b < 2 ^ 32)) H q (n.by r (older-later low mid needs p o) e1 (subst (λ xs. AreWords xs) (sym same) ws))
          (λ e2 k2 h2.
          let av : atom_word e2 a ≡ f (atom_words env needs) = keeps-operand mid e1 e2 a k2 (m.older o) ∙ h1.0 in
          let af : atom_word e2 a < 2 ^ 32 = subst (λ w. w < 2 ^ 32) (sym (keeps-operand mid e1 e2 a k2 (m.older o))) h1.1 in
          let bv : atom_word e2 b ≡ g (atom_words env needs) = h2.0 ∙ ap g same in
          let w : ℕ = bit_or (atom_word e2 a) (atom_word e2 b) in
          let there : assigned e2 last w last ≡ w = assigned-here e2 last w in
          computes-let last (BinOf Or a b) e2 H (there ∙ ap (λ x. bit_or x (atom_word e2 b)) av ∙ ap (λ x. bit_or (f (atom_words env needs)) x) bv, subst (λ x. x < 2 ^ 32) (sym there) (or_of_32 (atom_word e2 a) (atom_word e2 b) af h2.1))));
    }
