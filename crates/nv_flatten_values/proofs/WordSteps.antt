-- Steps that were added and make one word of others: how wide they are, and how many.
use Rattle.std.proofs.Common.{◌≡◌, ◌∙◌, refl, ap, sym, subst, ℕ, zero, suc, ◌+◌, ◌*◌, ◌<◌, ◌≤◌, List, [], ◌∷◌, ◌++◌, append_assoc, append-nil, length, length-append, get_or, arith}
use Rattle.nv_base.specs.declared.term.Atom.{Atom}
use Rattle.nv_base.specs.declared.term.Atom.TheVariants.{Var, Lit}
use Rattle.nv_base.specs.declared.term.Bin.TheVariants.{Or}
use Rattle.nv_base.specs.declared.term.Primitive.{Primitive}
use Rattle.nv_base.specs.declared.term.Primitive.TheVariants.{Bin as BinOf}
use Rattle.nv_base.specs.Words.{atom_vars, prim_vars}
use Rattle.nv_ast.specs.declared.tree.ShiftOp.{ShiftOp}
use Rattle.nv_ast.specs.declared.tree.ShiftOp.TheVariants.{Left, Right, Rotate}
use Rattle.flat_ir.specs.declared.flat.FlatFun.{FlatFun}
use Rattle.flat_ir.specs.declared.spine.Step.{Step}
use Rattle.flat_ir.specs.declared.spine.Step.TheVariants.{Let}
use Rattle.nv_base.specs.Measures.{Bulk, nothing, both}
use Rattle.flat_ir.specs.Bulk.{Bulks}
use Rattle.flat_ir.specs.Pieces.{step_bulk, steps_bulk}
use Rattle.nv_base.specs.Sets.{all_vars}
use Rattle.flat_ir.proofs.Appended.{bulk-append}
use Rattle.nv_flatten_values.specs.inner.Code.{shift_of}
use Rattle.nv_flatten_values.specs.inner.Narrow.{IsWithin}
use Rattle.nv_flatten_values.specs.inner.Small.{AreFewLets, lets}
use Rattle.nv_flatten_values.specs.inner.Adds.{AddsWord}
use Rattle.nv_flatten_values.proofs.Within.{itself, through, together, of-none, into-left, into-right, behind-same, before-same, turned, grows-not, one-operand, one-operand-back}
use Rattle.nv_flatten_values.proofs.NarrowSteps.{no-steps, recast, follow}
use Rattle.nv_flatten_values.proofs.NarrowBits.{one-more}

-- ---- how many
abbrev of_counts : ℕ → ℕ → ℕ → ℕ → ℕ → Bulk
of_counts l j n d u = record { labels = l; jumps = j; nodes = n; defined = d; used = u }

same-counts : {l l' j j' n n' d d' u u' : ℕ} → l ≡ l' → j ≡ j' → n ≡ n' → d ≡ d' → u ≡ u' → of_counts l j n d u ≡ of_counts l' j' n' d' u'
same-counts {l} {l'} {j} {j'} {n} {n'} {d} {d'} {u} {u'} p q r s t =
    ap (λ k. of_counts k j n d u) p ∙ ap (λ k. of_counts l' k n d u) q ∙ ap (λ k. of_counts l' j' k d u) r ∙ ap (λ k. of_counts l' j' n' k u) s ∙ ap (λ k. of_counts l' j' n' d' k) t

both-assoc : (a b c : Bulk) → both a (both b c) ≡ both (both a b) c
both-assoc a b c =
    let e0 : a.labels + (b.labels + c.labels) ≡ (a.labels + b.labels) + c.labels = omega arith in
    let e1 : a.jumps + (b.jumps + c.jumps) ≡ (a.jumps + b.jumps) + c.jumps = omega arith in
    let e2 : a.nodes + (b.nodes + c.nodes) ≡ (a.nodes + b.nodes) + c.nodes = omega arith in
    let e3 : a.defined + (b.defined + c.defined) ≡ (a.defined + b.defined) + c.defined = omega arith in
    let e4 : a.used + (b.used + c.used) ≡ (a.used + b.used) + c.used = omega arith in
    same-counts e0 e1 e2 e3 e4

-- with something after them
pub bulk-and : (funs : List FlatFun) (w : Bulks) (own : ℕ) (a : List Step) (k : Bulk) → steps_bulk funs w own a k ≡ both (steps_bulk funs w own a nothing) k
bulk-and funs w own [] k =
    let e : (n : ℕ) → n ≡ 0 + n = λ n. omega arith in
    same-counts (e k.labels) (e k.jumps) (e k.nodes) (e k.defined) (e k.used)
bulk-and funs w own (s ∷ a) k = ap (both (step_bulk funs w own s)) (bulk-and funs w own a k) ∙ both-assoc (step_bulk funs w own s) (steps_bulk funs w own a nothing) k

lets-sum : (m n : ℕ) → both (lets m) (lets n) ≡ lets (m + n)
lets-sum m n = let e : 2 * m + 2 * n ≡ 2 * (m + n) = omega arith in same-counts refl refl refl refl e

pub few-none : (n : ℕ) → AreFewLets [] n
few-none n = record { count = 0; bulk = λ funs bulks own. refl; few = (let e : 0 ≤ n = omega arith in e) }

pub few-one : (x : ℕ) (p : Primitive) → AreFewLets (Let x p ∷ []) 1
few-one x p = record { count = 1; bulk = λ funs bulks own. refl; few = (let e : 1 ≤ 1 = omega arith in e) }

pub few-then : (ss ts : List Step) (m n most : ℕ) → AreFewLets ss m → AreFewLets ts n → m + n ≤ most → AreFewLets (ss ++ ts) most
few-then ss ts m n most a b le = record {
  count = a.count + b.count;
  bulk = λ funs bulks own.
      bulk-append funs bulks own ss ts nothing ∙ bulk-and funs bulks own ss (steps_bulk funs bulks own ts nothing)
      ∙ ap (λ k. both k (steps_bulk funs bulks own ts nothing)) (a.bulk funs bulks own) ∙ ap (both (lets a.count)) (b.bulk funs bulks own) ∙ lets-sum a.count b.count;
  few = (let e : a.count + b.count ≤ most = omega (arith, a.few, b.few) in e);
}

pub few-so : (ss : List Step) (m n : ℕ) → AreFewLets ss m → m ≤ n → AreFewLets ss n
few-so ss m n a le = record { count = a.count; bulk = a.bulk; few = (let e : a.count ≤ n = omega (arith, a.few) in e) }

-- ---- how wide
pub atom-length : (a : Atom) → length (atom_vars a) ≤ 1
atom-length (Var x) = omega arith
atom-length (Lit v) = omega arith

pub word-none : (needs : List Atom) (steps : List Step) (a : Atom) (m n : ℕ) → IsWithin (atom_vars a) (all_vars needs) → AddsWord needs steps steps a m n
word-none needs steps a m n h = record {
  steps = [];
  added = sym (append-nil steps);
  narrow = λ funs widths own kept inside. no-steps funs widths own kept [] (kept ++ atom_vars a) (length kept + m) (together kept (atom_vars a) kept itself (through h inside));
  few = few-none n;
}

-- a primitive of them
pub word-define : (needs : List Atom) (x y : ℕ) (old new : List Step) (p : Primitive) → y ≡ x → new ≡ old ++ Let x p ∷ [] → IsWithin (prim_vars p) (all_vars needs) → AddsWord needs old new (Var y) 3 1
word-define needs x y old new p is adds h =
    subst (λ (z : ℕ). AddsWord needs old new (Var z) 3 1) (sym is) (record {
      steps = Let x p ∷ [];
      added = adds;
      narrow = λ funs widths own kept inside.
          let le : length kept + 3 ≤ length kept + 3 = omega arith in
          let le0 : 0 + (length kept + 3) ≤ length kept + 3 = omega arith in
          recast funs widths own (Let x p ∷ []) kept [] (x ∷ kept) kept [] (kept ++ atom_vars (Var x)) 0 (length kept + 3) (length kept + 3)
          (one-more funs widths own x p kept (length kept + 3) (through h inside) le)
          itself (grows-not [] [] itself) (turned kept (x ∷ [])) le0;
      few = few-one x p;
    })

-- with the operands of others
pub word-so : (needs needs' : List Atom) (old new : List Step) (a : Atom) (m n k l : ℕ) → AddsWord needs old new a m k → IsWithin (all_vars needs) (all_vars needs') → m ≤ n → k ≤ l → AddsWord needs' old new a n l
word-so needs needs' old new a m n k l v h p q = record {
  steps = v.steps;
  added = v.added;
  narrow = λ funs widths own kept inside.
      let le : 0 + (length kept + m) ≤ length kept + n = omega (arith, p) in
      recast funs widths own v.steps kept [] (kept ++ atom_vars a) kept [] (kept ++ atom_vars a) 0 (length kept + m) (length kept + n)
      (v.narrow funs widths own kept (through h inside)) itself (grows-not [] [] itself) itself le;
  few = few-so v.steps k l v.few q;
}

-- a word, and then another one of it
pub word-then : (needs between : List Atom) (a b : Atom) (m n all k l most : ℕ) (old middle new : List Step) → AddsWord needs old middle a m k → AddsWord between middle new b n l → IsWithin (all_vars between) (all_vars needs ++ atom_vars a)
    → m ≤ all → n + 1 ≤ all → k + l ≤ most → AddsWord needs old new b all most
word-then needs between a b m n all k l most old middle new v w h p q r = record {
  steps = v.steps ++ w.steps;
  added = w.added ∙ ap (λ ss. ss ++ w.steps) v.added ∙ append_assoc old v.steps w.steps;
  narrow = λ funs widths own kept inside.
      let more = kept ++ atom_vars a in
      let le1 : 0 + (length kept + m) ≤ length kept + all = omega (arith, p) in
      let le2 : 0 + (length more + n) ≤ length kept + all = omega (arith, q, length-append kept (atom_vars a), atom-length a) in
      follow funs widths own v.steps w.steps kept [] more (kept ++ atom_vars b) (length kept + all)
      (recast funs widths own v.steps kept [] more kept [] more 0 (length kept + m) (length kept + all) (v.narrow funs widths own kept inside) itself (grows-not [] [] itself) itself le1)
      (recast funs widths own w.steps more [] (more ++ atom_vars b) more [] (kept ++ atom_vars b) 0 (length more + n) (length kept + all)
      (w.narrow funs widths own more (through h (before-same (atom_vars a) (all_vars needs) kept inside))) itself (grows-not [] [] itself)
      (before-same (atom_vars b) kept more (into-left kept kept (atom_vars a) itself)) le2);
  few = few-then v.steps w.steps k l most v.few w.few r;
}

-- ---- shifts
pub shift-vars : (op : ShiftOp) (n : ℕ) (a : Atom) → prim_vars (shift_of op n a) ≡ atom_vars a
shift-vars Left n a = refl
shift-vars Right n a = refl
shift-vars Rotate n a = refl

pub word-shift : (op : ShiftOp) (n : ℕ) (word a : Atom) (low high : ℕ) (old new : List Step) → n ≤ 31
    → (n ≡ 0 → (a ≡ word) × ((new ≡ old) × (high ≡ low))) → (1 ≤ n → n ≤ 31 → (a ≡ Var low) × ((new ≡ old ++ Let low (shift_of op n word) ∷ []) × (high ≡ low + 1)))
    → AddsWord (word ∷ []) old new a 3 1
word-shift op zero word a low high old new h none some =
    let r = none refl in
    subst (λ (b : Atom). AddsWord (word ∷ []) old new b 3 1) (sym r.0)
    (subst (λ (ss : List Step). AddsWord (word ∷ []) old ss word 3 1) (sym r.1.0) (word-none (word ∷ []) old word 3 1 (one-operand word)))
word-shift op (suc n) word a low high old new h none some =
    let r = some (omega arith) h in
    subst (λ (b : Atom). AddsWord (word ∷ []) old new b 3 1) (sym r.0)
    (word-define (word ∷ []) low low old new (shift_of op (suc n) word) refl r.1.0 (subst (λ l. IsWithin l (all_vars (word ∷ []))) (sym (shift-vars op (suc n) word)) (one-operand word)))

-- after one of them
pub then-word : (a : Atom) (vs : List ℕ) → IsWithin (all_vars (a ∷ [])) (vs ++ atom_vars a)
then-word a vs = into-right (all_vars (a ∷ [])) vs (atom_vars a) (one-operand-back a)

-- a word shifted twice
pub word-between : (word raised lowered : Atom) (old middle new : List Step) → AddsWord (word ∷ []) old middle raised 3 1 → AddsWord (raised ∷ []) middle new lowered 3 1 → AddsWord (word ∷ []) old new lowered 4 2
word-between word raised lowered old middle new m n =
    word-then (word ∷ []) (raised ∷ []) raised lowered 3 3 4 1 1 2 old middle new m n (then-word raised (all_vars (word ∷ []))) (omega arith) (omega arith) (omega arith)

-- the bits of two words
pub word-across : (word following high low : Atom) (last x : ℕ) (old m1 m2 new : List Step) → AddsWord (word ∷ []) old m1 high 4 2 → AddsWord (following ∷ []) m1 m2 low 3 1
    → x ≡ last → new ≡ m2 ++ Let last (BinOf Or high low) ∷ [] → AddsWord (word ∷ following ∷ []) old new (Var x) 5 4
word-across word following high low last x old m1 m2 new m n is adds =
    let two : List Atom = word ∷ following ∷ [] in
    let next : List Atom = high ∷ following ∷ [] in
    word-then two next high (Var x) 4 4 5 2 2 4 old m1 new
    (word-so (word ∷ []) two old m1 high 4 4 2 2 m (together (atom_vars word) [] (all_vars two) (into-left (atom_vars word) (atom_vars word) (all_vars (following ∷ [])) itself) (of-none (all_vars two))) (omega arith) (omega arith))
    (word-then next (high ∷ low ∷ []) low (Var x) 3 3 4 1 1 2 m1 m2 new
    (word-so (following ∷ []) next m1 m2 low 3 3 1 1 n (into-right (all_vars (following ∷ [])) (atom_vars high) (all_vars (following ∷ [])) itself) (omega arith) (omega arith))
    (word-define (high ∷ low ∷ []) last x m2 new (BinOf Or high low) is adds (behind-same (atom_vars high) (atom_vars low) (all_vars (low ∷ [])) (one-operand low)))
    (together (atom_vars high) (all_vars (low ∷ [])) (all_vars next ++ atom_vars low)
    (into-left (atom_vars high) (all_vars next) (atom_vars low) (into-left (atom_vars high) (atom_vars high) (all_vars (following ∷ [])) itself)) (then-word low (all_vars next)))
    (omega arith) (omega arith) (omega arith))
    (together (atom_vars high) (all_vars (following ∷ [])) (all_vars two ++ atom_vars high)
    (into-right (atom_vars high) (all_vars two) (atom_vars high) itself)
    (into-left (all_vars (following ∷ [])) (all_vars two) (atom_vars high) (into-right (all_vars (following ∷ [])) (atom_vars word) (all_vars (following ∷ [])) itself)))
    (omega arith) (omega arith) (omega arith)

-- ---- some of the words
pub within-item : (ws : List Atom) (q : ℕ) (d : Atom) → q < length ws → IsWithin (atom_vars (get_or ws q d)) (all_vars ws)
within-item [] q d h = absurd (omega arith)
within-item (a ∷ ws) zero d h = into-left (atom_vars a) (atom_vars a) (all_vars ws) itself
within-item (a ∷ ws) (suc q) d h = into-right (atom_vars (get_or ws q d)) (atom_vars a) (all_vars ws) (within-item ws q d (omega arith))

pub within-at : (ws : List Atom) (q : ℕ) (a : Atom) → a ≡ get_or ws q a → q < length ws → IsWithin (atom_vars a) (all_vars ws)
within-at ws q a e h = subst (λ (b : Atom). IsWithin (atom_vars b) (all_vars ws)) (sym e) (within-item ws q a h)

pub word-at : (ws : List Atom) (word a : Atom) (q m k : ℕ) (old new : List Step) → word ≡ get_or ws q word → q < length ws → AddsWord (word ∷ []) old new a m k → m ≤ 5 → k ≤ 4 → AddsWord ws old new a 5 4
word-at ws word a q m k old new is inside v le few =
    word-so (word ∷ []) ws old new a m 5 k 4 v (together (atom_vars word) [] (all_vars ws) (within-at ws q word is inside) (of-none (all_vars ws))) le few

pub word-at-two : (ws : List Atom) (word following a : Atom) (q : ℕ) (old new : List Step) → word ≡ get_or ws q word → following ≡ get_or ws (suc q) following → suc q < length ws → AddsWord (word ∷ following ∷ []) old new a 5 4 → AddsWord ws old new a 5 4
word-at-two ws word following a q old new is next inside v =
    let first : q < length ws = omega arith in
    word-so (word ∷ following ∷ []) ws old new a 5 5 4 4 v
    (together (atom_vars word) (all_vars (following ∷ [])) (all_vars ws) (within-at ws q word is first)
    (together (atom_vars following) [] (all_vars ws) (within-at ws (suc q) following next inside) (of-none (all_vars ws)))) (omega arith) (omega arith)
