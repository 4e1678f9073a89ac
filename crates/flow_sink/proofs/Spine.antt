-- The spine of a tree, step by step, where it is asked what sinks and how many nodes there are.
use Rattle.std.proofs.Common.{◌≡◌, ℕ, ◌+◌, ◌≤◌, ◌<◌, Bool, true, false, not, ◌&&◌, ◌||◌, List, [], ◌∷◌, refl, sym, ap, ◌∙◌, arith}
use Rattle.std.proofs.lemmas.Bool.{false≢true}
use Rattle.smallvec.specs.SmallVec.{SmallVec}
use Rattle.nv_base.specs.declared.term.Atom.{Atom}
use Rattle.nv_base.specs.declared.term.Cmp.{Cmp}
use Rattle.nv_base.specs.declared.term.Mem.{Mem}
use Rattle.nv_base.specs.declared.term.Primitive.{Primitive}
use Rattle.nv_base.specs.Words.{atom_vars, prim_vars}
use Rattle.nv_base.specs.Sets.{is_in, all_vars}
use Rattle.nv_base.proofs.Sets.{in-append}
use Rattle.flow_ir.specs.Tree as pure
use Rattle.flow_ir.specs.View.{tree_view}
use Rattle.flow_ir.specs.Wide.{uses}
use Rattle.flow_ir.specs.declared.flow.Tree.{Tree, size-Tree}
use Rattle.flow_ir.specs.declared.flow.Tree.TheVariants.{Let', Read', Write', If'}
use Rattle.flow_ir.specs.declared.flow.Tree.TheViews.{deep-Let', deep-Read', deep-Write'}
use Rattle.flow_ir.proofs.Mentions.{smaller}
use Rattle.flow_sink.specs.Sunk.{differ, sinks, nodes}

-- ---- what sinks

pub record Asked (x : ℕ) (t cur : Tree) : Type 0 where
  pub same : sinks x (tree_view cur) ≡ sinks x (tree_view t)
  pub size : size-Tree cur ≤ size-Tree t

pub asked_start : (x : ℕ) (t : Tree) → Asked x t t
asked_start x t = record { same = refl; size = omega arith }

-- a test that fails or holds
past : (b c r : Bool) → b ≡ c → b ≡ false → (not c && r) ≡ r
past true c r e n = absurd (false≢true (sym n))
past false c r e n = ap (λ v. not v && r) (sym e)

stopped : (b c r : Bool) → b ≡ c → b ≡ true → false ≡ (not c && r)
stopped b c r e h = sym (ap (λ v. not v && r) (sym e ∙ h))

pub asked_let : {x : ℕ} {t cur : Tree} (y : ℕ) (p : Primitive) (q : _) (r rest : Tree) (b : Bool) → Asked x t cur → cur ≡ Let' y p q r → rest ≡ r → b ≡ is_in x (prim_vars p) → b ≡ false → Asked x t rest
asked_let {x} {cur = cur} y p q r rest b h is e eb n = record {
  same = ap (λ z. sinks x (tree_view z)) e ∙ sym (past b (is_in x (prim_vars p)) (sinks x (tree_view r)) eb n) ∙ sym (ap (λ z. sinks x (tree_view z)) is) ∙ h.same;
  size = let s = h.size in let le = smaller cur (Let' y p q r) rest r is e (omega (arith, deep-Let' y p q r)) in omega arith;
}

pub asked_let_found : {x : ℕ} {t cur : Tree} (y : ℕ) (p : Primitive) (q : _) (r : Tree) (b : Bool) → Asked x t cur → cur ≡ Let' y p q r → b ≡ is_in x (prim_vars p) → b ≡ true → false ≡ sinks x (tree_view t)
asked_let_found {x} y p q r b h is eb n = stopped b (is_in x (prim_vars p)) (sinks x (tree_view r)) eb n ∙ sym (ap (λ z. sinks x (tree_view z)) is) ∙ h.same

pub asked_read : {x : ℕ} {t cur : Tree} (m : Mem) (xs : _) (a : Atom) (q : _) (r rest : Tree) (b : Bool) → Asked x t cur → cur ≡ Read' m xs a q r → rest ≡ r → b ≡ is_in x (atom_vars a) → b ≡ false → Asked x t rest
asked_read {x} {cur = cur} m xs a q r rest b h is e eb n = record {
  same = ap (λ z. sinks x (tree_view z)) e ∙ sym (past b (is_in x (atom_vars a)) (sinks x (tree_view r)) eb n) ∙ sym (ap (λ z. sinks x (tree_view z)) is) ∙ h.same;
  size = let s = h.size in let le = smaller cur (Read' m xs a q r) rest r is e (omega (arith, deep-Read' m xs a q r)) in omega arith;
}

pub asked_read_found : {x : ℕ} {t cur : Tree} (m : Mem) (xs : _) (a : Atom) (q : _) (r : Tree) (b : Bool) → Asked x t cur → cur ≡ Read' m xs a q r → b ≡ is_in x (atom_vars a) → b ≡ true → false ≡ sinks x (tree_view t)
asked_read_found {x} m xs a q r b h is eb n = stopped b (is_in x (atom_vars a)) (sinks x (tree_view r)) eb n ∙ sym (ap (λ z. sinks x (tree_view z)) is) ∙ h.same

either : (x : ℕ) (a : Atom) (bs : List Atom) (c d : Bool) → c ≡ is_in x (atom_vars a) → d ≡ is_in x (all_vars bs) → (c || d) ≡ is_in x (all_vars (a ∷ bs))
either x a bs c d ec ed = ap (λ v. v || d) ec ∙ ap (λ v. is_in x (atom_vars a) || v) ed ∙ sym (in-append x (atom_vars a) (all_vars bs))

pub asked_write : {x : ℕ} {t cur : Tree} (m : Mem) (a : Atom) (bs : SmallVec Atom) (q : _) (r rest : Tree) (c d : Bool) → Asked x t cur → cur ≡ Write' m a bs q r → rest ≡ r → c ≡ is_in x (atom_vars a) → d ≡ is_in x (all_vars bs.items) → (c || d) ≡ false → Asked x t rest
asked_write {x} {cur = cur} m a bs q r rest c d h is e ec ed n = record {
  same = ap (λ z. sinks x (tree_view z)) e ∙ sym (past (c || d) (is_in x (all_vars (a ∷ bs.items))) (sinks x (tree_view r)) (either x a bs.items c d ec ed) n) ∙ sym (ap (λ z. sinks x (tree_view z)) is) ∙ h.same;
  size = let s = h.size in let le = smaller cur (Write' m a bs q r) rest r is e (omega (arith, deep-Write' m a bs q r)) in omega arith;
}

pub asked_write_found : {x : ℕ} {t cur : Tree} (m : Mem) (a : Atom) (bs : SmallVec Atom) (q : _) (r : Tree) (c d : Bool) → Asked x t cur → cur ≡ Write' m a bs q r → c ≡ is_in x (atom_vars a) → d ≡ is_in x (all_vars bs.items) → (c || d) ≡ true → false ≡ sinks x (tree_view t)
asked_write_found {x} m a bs q r c d h is ec ed n = stopped (c || d) (is_in x (all_vars (a ∷ bs.items))) (sinks x (tree_view r)) (either x a bs.items c d ec ed) n ∙ sym (ap (λ z. sinks x (tree_view z)) is) ∙ h.same

last : (x : ℕ) (b : Atom) (d : Bool) → d ≡ is_in x (atom_vars b) → d ≡ is_in x (all_vars (b ∷ []))
last x b d e = e ∙ sym (in-append x (atom_vars b) [] ∙ no_more (is_in x (atom_vars b)))
  where
    no_more : (v : Bool) → (v || false) ≡ v
    no_more true = refl
    no_more false = refl

-- the operands of an `If` use x
pub asked_if_found : {x : ℕ} {t cur : Tree} (k : Cmp) (a b : Atom) (q q' : _) (f r : Tree) (c d : Bool) → Asked x t cur → cur ≡ If' k a b q f q' r → c ≡ is_in x (atom_vars a) → d ≡ is_in x (atom_vars b) → (c || d) ≡ true → false ≡ sinks x (tree_view t)
asked_if_found {x} k a b q q' f r c d h is ec ed n =
    stopped (c || d) (is_in x (all_vars (a ∷ b ∷ []))) (differ (is_in x (uses (tree_view f))) (is_in x (uses (tree_view r)))) (either x a (b ∷ []) c d ec (last x b d ed)) n ∙ sym (ap (λ z. sinks x (tree_view z)) is) ∙ h.same

-- they don't
pub asked_if : {x : ℕ} {t cur : Tree} (k : Cmp) (a b : Atom) (q q' : _) (f r first second : Tree) (c d g i : Bool) → Asked x t cur → cur ≡ If' k a b q f q' r → first ≡ f → second ≡ r → c ≡ is_in x (atom_vars a) → d ≡ is_in x (atom_vars b) → (c || d) ≡ false → g ≡ is_in x (uses (tree_view first)) → i ≡ is_in x (uses (tree_view second))
    → differ g i ≡ sinks x (tree_view t)
asked_if {x} k a b q q' f r first second c d g i h is ef es ec ed n eg ei =
    ap (λ v. differ v i) (eg ∙ ap (λ z. is_in x (uses (tree_view z))) ef) ∙ ap (λ v. differ (is_in x (uses (tree_view f))) v) (ei ∙ ap (λ z. is_in x (uses (tree_view z))) es)
    ∙ sym (past (c || d) (is_in x (all_vars (a ∷ b ∷ []))) (differ (is_in x (uses (tree_view f))) (is_in x (uses (tree_view r)))) (either x a (b ∷ []) c d ec (last x b d ed)) n)
    ∙ sym (ap (λ z. sinks x (tree_view z)) is) ∙ h.same

-- ---- nodes

-- so many nodes are left where it has come to a part of a tree
pub record Counted (most n : ℕ) (t cur : Tree) : Type 0 where
  pub count : n + nodes (tree_view t) ≡ most + nodes (tree_view cur)
  pub size : size-Tree cur ≤ size-Tree t

some_node : (t : pure.Tree) → 1 ≤ nodes t
some_node (pure.Let x p t) = omega arith
some_node (pure.Read m xs a t) = omega arith
some_node (pure.Write m a bs t) = omega arith
some_node (pure.If c a b t u) = omega arith
some_node (pure.Jump l bs) = omega arith
some_node (pure.Halt e bs) = omega arith

pub none_left : {most n : ℕ} {t cur : Tree} → Counted most n t cur → n ≡ 0 → most < nodes (tree_view t)
none_left {cur = cur} h e = let count = h.count in let some = some_node (tree_view cur) in omega arith
