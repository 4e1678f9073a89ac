-- A run down the tree of a label that lies in slots.
use Rattle.std.proofs.Common.{◌≡◌, ℕ, zero, suc, ◌+◌, ◌<◌, ◌≤◌, ◌^◌, ◌⊎◌, nat_eq, nat_le, true, false, ◌&&◌, inl, inr, List, [], ◌∷◌, ◌++◌, All, length, map, Some, refl, sym, ap, ◌∙◌, subst, arith}
use Rattle.std.specs.Prelude.{slice_get}
use Rattle.std.proofs.lemmas.Bool.{and_parts, or_cases, false≢true}
use Rattle.std.proofs.lemmas.Bool.Decides.{nat_tests}
use Rattle.std.proofs.lemmas.List.Elements.{All-nil, All-cons, All-head, All-tail}
use Rattle.nv_base.specs.Log.{Log}
use Rattle.nv_base.specs.Memories.{Memories}
use Rattle.nv_base.specs.Sets.{is_in}
use Rattle.nv_base.specs.Words.{Env}
use Rattle.nv_base.specs.World.{World}
use Rattle.nv_base.proofs.Sets.{same-number}
use Rattle.ssu_ir.specs.declared.node.NodeId.{NodeId}
use Rattle.ssu_ir.specs.declared.node.SsuNode.{SsuNode}
use Rattle.ssu_ir.specs.declared.node.SsuNode.TheVariants as node
use Rattle.ssu_ir.specs.declared.node.SsuLabel.{SsuLabel}
use Rattle.ssu_ir.specs.declared.ssu.Ssu.{Ssu}
use Rattle.ssu_ir.specs.declared.step.LabelExit.{LabelExit}
use Rattle.ssu_ir.specs.declared.step.NextStep.{NextStep}
use Rattle.ssu_ir.specs.declared.step.NextStep.TheVariants.{On, Left}
use Rattle.ssu_ir.specs.Tree.{Last, Jump, Halt, Tree, Label, Do, If, Node, Does, Forks, Ends, step_values, step_clones}
use Rattle.ssu_ir.specs.Single.{is_step, is_last, are_nodes, are_new, uses_once, takes_as_many, step_names, names}
use Rattle.ssu_ir.specs.Slots.{Slots, slot, node_of, successors_of}
use Rattle.ssu_ir.specs.View.{labels_view}
use Rattle.ssu_ir.specs.Entered.{Exit, tree_exit}
use Rattle.ssu_ir.specs.inner.Checks.{is_node, node_defs}
use Rattle.ssu_ir.specs.inner.Under.{tree_at, weight_at, HasTree, label_of}
use Rattle.ssu_ir.specs.inner.Running.{At, Fits, LastFits, GoesOn, Stepped, LeftBy, HasRoom, went_exit, node_exit, stored_at}
use Rattle.ssu_ir.proofs.Unders.{OneKid, TwoKids, no_kids, one_kid, two_kids, labels-viewed}
use Rattle.ssu_ir.proofs.Runs.{Made, made-do, made-first, made-second, made-few}

-- ---- the children of a node

abbrev Many : List ℕ → Type 0
Many ks = (ks ≡ []) ⊎ (((k : ℕ) × (ks ≡ k ∷ [])) ⊎ ((j : ℕ) × ((k : ℕ) × (ks ≡ j ∷ k ∷ []))))

many : (n : SsuNode) → Many (successors_of n)
many (node.Lit x v k) = inr (inl (k.0, refl))
many (node.Una x op y k) = inr (inl (k.0, refl))
many (node.Bin x op y z k) = inr (inl (k.0, refl))
many (node.Clone xs y k) = inr (inl (k.0, refl))
many (node.Read m xs y k) = inr (inl (k.0, refl))
many (node.Write m y xs k) = inr (inl (k.0, refl))
many (node.If c x y j k) = inr (inr (j.0, (k.0, refl)))
many (node.Jump l xs) = inl refl
many (node.Halt e xs) = inl refl

-- how the run leaves the tree of a number, by the trees of its children
abbrev exits : Slots → ℕ → Env → World → Exit
exits slots j = tree_exit (tree_at slots j)

node-tree : (slots : Slots) (i : ℕ) (n : SsuNode) (env : Env) (w : World) → HasTree slots i → slot slots i ≡ Some n → tree_exit (tree_at slots i) env w ≡ node_exit (node_of n) (successors_of n) (exits slots) env w
node-tree slots i n env w h f = elim (many n) [
  | inl e ↦
      let k = no_kids slots i n h f (sym e) in
      ap (λ t. tree_exit t env w) k.tree ∙ sym (ap (λ x. node_exit x (successors_of n) (exits slots) env w) k.is)
  | inr more ↦ elim more [
    | inl one ↦
        let k = one_kid slots i n one.0 h f (sym one.1) in
        ap (λ t. tree_exit t env w) k.tree ∙ sym (ap (λ x. node_exit x (successors_of n) (exits slots) env w) k.is ∙ ap (λ ks. node_exit (Does k.s) ks (exits slots) env w) one.1)
    | inr two ↦
        let k = two_kids slots i n two.0 two.1.0 h f (sym two.1.1) in
        ap (λ t. tree_exit t env w) k.tree ∙ sym (ap (λ x. node_exit x (successors_of n) (exits slots) env w) k.is ∙ ap (λ ks. node_exit (Forks k.c k.x k.y) ks (exits slots) env w) two.1.1)
  ]
]

-- ---- where a run has come to

-- a run that is left so is at this tree, with this assignment
pub record Came (e : Exit) (log0 : Log) (t : Tree) (env : Env) (p : Memories) (log : Log) : Type 0 where
  pub now : World
  pub at : At log0 p log now
  pub exit : e ≡ tree_exit t env now

-- the run from one number has come to another
pub record Walking (slots : Slots) (labels : List Label) (start : ℕ) (env0 : Env) (p0 : Memories) (log1 : Log) (i : ℕ) (env : Env) (p : Memories) (log : Log) : Type 0 where
  pub has : HasTree slots i
  pub nodes : are_nodes labels (tree_at slots i) ≡ true
  pub once : uses_once (tree_at slots i) ≡ true
  pub made : Made (tree_at slots i) log1.count log.count
  pub ran : (log0 : Log) (w : World) → At log0 p0 log1 w → Came (tree_exit (tree_at slots start) env0 w) log0 (tree_at slots i) env p log

pub came-first : (t : Tree) (env : Env) (p : Memories) (log log0 : Log) (w : World) → At log0 p log w → Came (tree_exit t env w) log0 t env p log
came-first t env p log log0 w a = record { now = w; at = a; exit = refl }

-- ---- what is kept of a child

record ChildOf (slots : Slots) (labels : List Label) (i k start now' : ℕ) : Type 0 where
  has : HasTree slots k
  lighter : weight_at slots k < weight_at slots i
  nodes : are_nodes labels (tree_at slots k) ≡ true
  once : uses_once (tree_at slots k) ≡ true
  made : Made (tree_at slots k) start now'

child-one : (slots : Slots) (labels : List Label) (i k : ℕ) (n : SsuNode) (start now now' : ℕ) → OneKid slots i n k → are_nodes labels (tree_at slots i) ≡ true → uses_once (tree_at slots i) ≡ true → Made (tree_at slots i) start now
    → now' ≤ now + length (stored_at (node_of n)) → All (λ y. y < 2 ^ 32) (stored_at (node_of n)) → ChildOf slots labels i k start now'
child-one slots labels i k n start now now' o a u m l w =
    let t = tree_at slots k in
    let Whole : Tree → Type 0 = λ x. Made x start now in
    let Stores : Node → Type 0 = λ h. (now' ≤ now + length (stored_at h)) × All (λ y. y < 2 ^ 32) (stored_at h) in
    let nodes : are_nodes labels (Do o.s t) ≡ true = sym (ap (are_nodes labels) o.tree) ∙ a in
    let once : uses_once (Do o.s t) ≡ true = sym (ap uses_once o.tree) ∙ u in
    let made : Made (Do o.s t) start now = subst Whole o.tree m in
    let stores : Stores (Does o.s) = subst Stores o.is (l, w) in
    let p = and_parts (is_step o.s) (are_nodes labels t) nodes in
    let q = and_parts (are_new (step_names o.s) (names t)) (uses_once t) once in
    record { has = o.kid.has; lighter = o.kid.lighter; nodes = p.1; once = q.1; made = made-do o.s t start now now' made q.0 stores.0 stores.1 }

child-first : (slots : Slots) (labels : List Label) (i j k : ℕ) (n : SsuNode) (start now now' : ℕ) → TwoKids slots i n j k → are_nodes labels (tree_at slots i) ≡ true → uses_once (tree_at slots i) ≡ true → Made (tree_at slots i) start now
    → now' ≤ now + length (stored_at (node_of n)) → ChildOf slots labels i j start now'
child-first slots labels i j k n start now now' o a u m l =
    let t = tree_at slots j in
    let v = tree_at slots k in
    let Whole : Tree → Type 0 = λ x. Made x start now in
    let Stores : Node → Type 0 = λ h. now' ≤ now + length (stored_at h) in
    let nodes : are_nodes labels (If o.c o.x o.y t v) ≡ true = sym (ap (are_nodes labels) o.tree) ∙ a in
    let once : uses_once (If o.c o.x o.y t v) ≡ true = sym (ap uses_once o.tree) ∙ u in
    let made : Made (If o.c o.x o.y t v) start now = subst Whole o.tree m in
    let stores : now' ≤ now + 0 = subst Stores o.is l in
    let p = and_parts (are_nodes labels t) (are_nodes labels v) nodes in
    let q = and_parts (uses_once t) (uses_once v) (and_parts (are_new (o.x ∷ o.y ∷ []) (names t ++ names v)) (uses_once t && uses_once v) once).1 in
    record { has = o.first.has; lighter = o.first.lighter; nodes = p.0; once = q.0; made = made-first o.c o.x o.y t v start now now' made (omega (arith, stores)) }

child-second : (slots : Slots) (labels : List Label) (i j k : ℕ) (n : SsuNode) (start now now' : ℕ) → TwoKids slots i n j k → are_nodes labels (tree_at slots i) ≡ true → uses_once (tree_at slots i) ≡ true → Made (tree_at slots i) start now
    → now' ≤ now + length (stored_at (node_of n)) → ChildOf slots labels i k start now'
child-second slots labels i j k n start now now' o a u m l =
    let t = tree_at slots j in
    let v = tree_at slots k in
    let Whole : Tree → Type 0 = λ x. Made x start now in
    let Stores : Node → Type 0 = λ h. now' ≤ now + length (stored_at h) in
    let nodes : are_nodes labels (If o.c o.x o.y t v) ≡ true = sym (ap (are_nodes labels) o.tree) ∙ a in
    let once : uses_once (If o.c o.x o.y t v) ≡ true = sym (ap uses_once o.tree) ∙ u in
    let made : Made (If o.c o.x o.y t v) start now = subst Whole o.tree m in
    let stores : now' ≤ now + 0 = subst Stores o.is l in
    let p = and_parts (are_nodes labels t) (are_nodes labels v) nodes in
    let q = and_parts (uses_once t) (uses_once v) (and_parts (are_new (o.x ∷ o.y ∷ []) (names t ++ names v)) (uses_once t && uses_once v) once).1 in
    record { has = o.second.has; lighter = o.second.lighter; nodes = p.1; once = q.1; made = made-second o.c o.x o.y t v start now now' made (omega (arith, stores)) }

at-number : (slots : Slots) (labels : List Label) (i j k start now' : ℕ) → nat_eq k j ≡ true → ChildOf slots labels i j start now' → ChildOf slots labels i k start now'
at-number slots labels i j k start now' e c = let P : ℕ → Type 0 = λ x. ChildOf slots labels i x start now' in subst P (sym (same-number k j e)) c

child : (slots : Slots) (labels : List Label) (i k : ℕ) (n : SsuNode) (start now now' : ℕ) → HasTree slots i → slot slots i ≡ Some n → is_in k (successors_of n) ≡ true → are_nodes labels (tree_at slots i) ≡ true → uses_once (tree_at slots i) ≡ true
    → Made (tree_at slots i) start now → now' ≤ now + length (stored_at (node_of n)) → All (λ y. y < 2 ^ 32) (stored_at (node_of n)) → ChildOf slots labels i k start now'
child slots labels i k n start now now' h f g a u m l w = elim (many n) [
  | inl e ↦ absurd (false≢true (sym (ap (is_in k) e) ∙ g))
  | inr more ↦ elim more [
    | inl one ↦
        let o = one_kid slots i n one.0 h f (sym one.1) in
        elim (or_cases (nat_eq k one.0) false (sym (ap (is_in k) one.1) ∙ g)) [
          | inl e ↦ at-number slots labels i one.0 k start now' e (child-one slots labels i one.0 n start now now' o a u m l w)
          | inr e ↦ absurd (false≢true e)
        ]
    | inr two ↦
        let o = two_kids slots i n two.0 two.1.0 h f (sym two.1.1) in
        elim (or_cases (nat_eq k two.0) (is_in k (two.1.0 ∷ [])) (sym (ap (is_in k) two.1.1) ∙ g)) [
          | inl e ↦ at-number slots labels i two.0 k start now' e (child-first slots labels i two.0 two.1.0 n start now now' o a u m l)
          | inr more ↦ elim (or_cases (nat_eq k two.1.0) false more) [
            | inl e ↦ at-number slots labels i two.1.0 k start now' e (child-second slots labels i two.0 two.1.0 n start now now' o a u m l)
            | inr e ↦ absurd (false≢true e)
          ]
        ]
  ]
]

-- ---- one node more

abbrev pub Steps : SsuNode → Env → Memories → Log → NextStep → List ℕ → Env → Memories → Log → Type 0
Steps n env p log r ws env' p' log' = (log0 : Log) (w : World) → At log0 p log w → Stepped (node_of n) (successors_of n) env log0 w r ws env' p' log'

pub record Onward (slots : Slots) (labels : List Label) (start : ℕ) (env0 : Env) (p0 : Memories) (log1 : Log) (i k : ℕ) (env : Env) (p : Memories) (log : Log) : Type 0 where
  pub walking : Walking slots labels start env0 p0 log1 k env p log
  pub lighter : weight_at slots k < weight_at slots i

pub walk-on : (slots : Slots) (labels : List Label) (start : ℕ) (env0 : Env) (p0 : Memories) (log1 : Log) (i : ℕ) (env : Env) (p : Memories) (log : Log) (n : SsuNode) (r : NextStep) (k : NodeId) (ws : List ℕ) (env' : Env) (p' : Memories) (log' : Log)
    → Walking slots labels start env0 p0 log1 i env p log → slot slots i ≡ Some n → Steps n env p log r ws env' p' log' → r ≡ On k → GoesOn (successors_of n) r
    → log'.count ≤ log.count + length (stored_at (node_of n)) → All (λ y. y < 2 ^ 32) (stored_at (node_of n)) → Onward slots labels start env0 p0 log1 i k.0 env' p' log'
walk-on slots labels start env0 p0 log1 i env p log n r k ws env' p' log' h f s e g l w =
    let Next : NextStep → Type 0 = GoesOn (successors_of n) in
    let c = child slots labels i k.0 n log1.count log.count log'.count h.has f (subst Next e g) h.nodes h.once h.made l w in
    record {
      walking = record {
        has = c.has;
        nodes = c.nodes;
        once = c.once;
        made = c.made;
        ran = λ log0 w a.
            let b = h.ran log0 w a in
            let d = s log0 b.now b.at in
            record {
              now = d.now;
              at = d.at;
              exit = b.exit ∙ node-tree slots i n env b.now h.has f ∙ d.exit (exits slots) ∙ ap (λ x. went_exit x ws env' d.now (exits slots)) e;
            };
      };
      lighter = c.lighter;
    }

pub walk-left : (slots : Slots) (labels : List Label) (start : ℕ) (env0 : Env) (p0 : Memories) (log1 : Log) (i : ℕ) (env : Env) (p : Memories) (log : Log) (n : SsuNode) (r : NextStep) (l : LabelExit) (ws : List ℕ) (env' : Env) (p' : Memories) (log' : Log)
    → Walking slots labels start env0 p0 log1 i env p log → slot slots i ≡ Some n → Steps n env p log r ws env' p' log' → r ≡ Left l
    → (log0 : Log) (w : World) → At log0 p0 log1 w → LeftBy (tree_exit (tree_at slots start) env0 w) log0 l ws p' log'
walk-left slots labels start env0 p0 log1 i env p log n r l ws env' p' log' h f s e log0 w a =
    let b = h.ran log0 w a in
    let d = s log0 b.now b.at in
    record {
      now = d.now;
      at = d.at;
      exit = b.exit ∙ node-tree slots i n env b.now h.has f ∙ d.exit (exits slots) ∙ ap (λ x. went_exit x ws env' d.now (exits slots)) e;
    }

-- ---- that there is room at a node

node-kept : (slots : Slots) (labels : List Label) (i : ℕ) (n : SsuNode) → HasTree slots i → slot slots i ≡ Some n → are_nodes labels (tree_at slots i) ≡ true → is_node labels (node_of n) ≡ true
node-kept slots labels i n h f a = elim (many n) [
  | inl e ↦ let k = no_kids slots i n h f (sym e) in ap (is_node labels) k.is ∙ sym (ap (are_nodes labels) k.tree) ∙ a
  | inr more ↦ elim more [
    | inl one ↦
        let k = one_kid slots i n one.0 h f (sym one.1) in
        ap (is_node labels) k.is ∙ (and_parts (is_step k.s) (are_nodes labels (tree_at slots one.0)) (sym (ap (are_nodes labels) k.tree) ∙ a)).0
    | inr two ↦ let k = two_kids slots i n two.0 two.1.0 h f (sym two.1.1) in ap (is_node labels) k.is
  ]
]

all-front : (P : ℕ → Type 0) (xs ys : List ℕ) → All P (xs ++ ys) → All P xs
all-front P [] ys h = All-nil P
all-front P (x ∷ xs) ys h = All-cons P x xs (All-head P x (xs ++ ys) h) (all-front P xs ys (All-tail P x (xs ++ ys) h))

all-back : (P : ℕ → Type 0) (xs ys : List ℕ) → All P (xs ++ ys) → All P ys
all-back P [] ys h = h
all-back P (x ∷ xs) ys h = all-back P xs ys (All-tail P x (xs ++ ys) h)

taken-room : (slots : Slots) (room n : ℕ) (ls : List SsuLabel) (k : ℕ) → All (λ (l : SsuLabel). length l.params.items ≤ room) ls → takes_as_many n (slice_get (map (label_of slots) ls) k) ≡ true → n ≤ room
taken-room slots room n [] k h t = absurd (false≢true t)
taken-room slots room n (l ∷ ls) zero h t =
    let a = All-head (λ (l : SsuLabel). length l.params.items ≤ room) l ls h in
    let e : length l.params.items ≡ n = same-number (length l.params.items) n t in
    omega (arith, a, e)
taken-room slots room n (l ∷ ls) (suc k) h t = taken-room slots room n ls k (All-tail (λ (l : SsuLabel). length l.params.items ≤ room) l ls h) t

last-fits : (s : Ssu) (room : ℕ) (l : Last) → All (λ (l : SsuLabel). length l.params.items ≤ room) s.labels.items → is_last (labels_view s) l ≡ true → LastFits room l
last-fits s room (Jump k xs) h t =
    let p = and_parts (nat_le 1 k) (takes_as_many (length xs) (slice_get (labels_view s) k)) t in
    taken-room s.nodes.slots room (length xs) s.labels.items k h (ap (λ ls. takes_as_many (length xs) (slice_get ls k)) (sym (labels-viewed s)) ∙ p.1)
last-fits s room (Halt e xs) h t = grind (arith, nat_tests)

node-fits : (s : Ssu) (places room : ℕ) (h : Node) → All (λ x. x < places) (node_defs h) → All (λ (l : SsuLabel). length l.params.items ≤ room) s.labels.items → is_node (labels_view s) h ≡ true → Fits places room h
node-fits s places room (Does t) d h k = (k, all-front (λ x. x < places) (step_values t) (step_clones t) d, all-back (λ x. x < places) (step_values t) (step_clones t) d)
node-fits s places room (Forks c x y) d h k = tt
node-fits s places room (Ends l) d h k = last-fits s room l h k

pub fits-at : (s : Ssu) (places room i : ℕ) (n : SsuNode) → HasRoom s places room → HasTree s.nodes.slots i → slot s.nodes.slots i ≡ Some n → are_nodes (labels_view s) (tree_at s.nodes.slots i) ≡ true → Fits places room (node_of n)
fits-at s places room i n r h f a = node-fits s places room (node_of n) (r.nodes i n f) r.words (node-kept s.nodes.slots (labels_view s) i n h f a)

-- the same room
pub room-same : (s : Ssu) (places places' room room' : ℕ) → HasRoom s places room → places' ≡ places → room' ≡ room → HasRoom s places' room'
room-same s places places' room room' h e d =
    let P : ℕ → Type 0 = λ n. HasRoom s n room in
    let Q : ℕ → Type 0 = HasRoom s places' in
    subst Q (sym d) (subst P (sym e) h)

-- ---- how often the label has written after a node

pub few-successors : (slots : Slots) (i : ℕ) (n : SsuNode) (start now now' : ℕ) → HasTree slots i → slot slots i ≡ Some n → uses_once (tree_at slots i) ≡ true → Made (tree_at slots i) start now
    → now' ≤ now + length (stored_at (node_of n)) → All (λ y. y < 2 ^ 32) (stored_at (node_of n)) → now' ≤ start + 2 ^ 32
few-successors slots i n start now now' h f u m l w = elim (many n) [
  | inl e ↦
      let k = no_kids slots i n h f (sym e) in
      let stores : now' ≤ now + 0 = subst (λ (x : Node). now' ≤ now + length (stored_at x)) k.is l in
      omega (arith, stores, made-few (tree_at slots i) start now m)
  | inr more ↦ elim more [
    | inl one ↦
        let o = one_kid slots i n one.0 h f (sym one.1) in
        let t = tree_at slots one.0 in
        let Whole : Tree → Type 0 = λ x. Made x start now in
        let Stores : Node → Type 0 = λ x. (now' ≤ now + length (stored_at x)) × All (λ y. y < 2 ^ 32) (stored_at x) in
        let stores : Stores (Does o.s) = subst Stores o.is (l, w) in
        let q = and_parts (are_new (step_names o.s) (names t)) (uses_once t) (sym (ap uses_once o.tree) ∙ u) in
        made-few t start now' (made-do o.s t start now now' (subst Whole o.tree m) q.0 stores.0 stores.1)
    | inr two ↦
        let k = two_kids slots i n two.0 two.1.0 h f (sym two.1.1) in
        let stores : now' ≤ now + 0 = subst (λ (x : Node). now' ≤ now + length (stored_at x)) k.is l in
        omega (arith, stores, made-few (tree_at slots i) start now m)
  ]
]
