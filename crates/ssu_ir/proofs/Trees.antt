-- How trees lie in slots.
use Rattle.std.proofs.Common.{◌≡◌, ◌≢◌, ℕ, zero, suc, ◌+◌, ◌≤◌, Bool, true, false, ◌&&◌, cond, List, [], ◌∷◌, ◌++◌, length, Option, Some, None, is_some, refl, sym, ap, ◌∙◌, subst, inl, inr, arith}
use Rattle.ssu_ir.specs.declared.node.SsuNode.TheVariants.{Lit, Una, Clone, Read, Write, Bin, If, Jump, Halt}
use Rattle.std.proofs.lemmas.Bool.Decides.{eqb_tells}
use Rattle.ssu_ir.specs.declared.node.SsuNode.{SsuNode}
use Rattle.ssu_ir.specs.Tree.{Node, Does, Forks, Ends}
use Rattle.ssu_ir.specs.Slots.{node_of, successors_of, over, Placed, root, roots_of, bare, bare_all, here, times, times_all, weight, weight_all, Slots, slot, occupied, filled, Stands, AllStand, place, place_slot, placed_at, placed_all, placed_in, each_number, is_slot, is_there, Formed, DoAt, IfAt, EndAt}
use Rattle.ssu_ir.specs.Build.{Rooted, ids, trees_of, rooted, rooted_all, Forest}

-- ---- nodes

abbrev pub arity : Node → ℕ
arity (Does s) = 1
arity (Forks c x y) = 2
arity (Ends l) = 0

pub arity_of : (n : SsuNode) → length (successors_of n) ≡ arity (node_of n)
arity_of (Lit x v k) = refl
arity_of (Bin x o y z k) = refl
arity_of (Una x o y k) = refl
arity_of (Clone xs y k) = refl
arity_of (Read m xs y k) = refl
arity_of (Write m y xs k) = refl
arity_of (If c x y k m) = refl
arity_of (Jump l xs) = refl
arity_of (Halt e xs) = refl

pub and_first : (a b : Bool) → (a && b) ≡ true → a ≡ true
and_first true b h = refl
and_first false b h = h

pub and_second : (a b : Bool) → (a && b) ≡ true → b ≡ true
and_second true b h = h
and_second false b h = absurd (cc)

-- ---- a tree that stands is read again

pub place_slot_is : (i : ℕ) (below : ℕ → Placed) (o : Option SsuNode) (n : SsuNode) (h : Node) (ks : List ℕ) → o ≡ Some n → node_of n ≡ h → successors_of n ≡ ks → place_slot i below o ≡ place i below h ks
place_slot_is i below o n h ks e d k = ap (place_slot i below) e ∙ ap (λ x. place i below x (successors_of n)) d ∙ ap (place i below h) k

pub is_slot_is : (test : ℕ → Bool) (o : Option SsuNode) (n : SsuNode) (ks : List ℕ) → o ≡ Some n → successors_of n ≡ ks → is_slot test o ≡ each_number test ks
is_slot_is test o n ks e k = ap (is_slot test) e ∙ ap (each_number test) k

-- what is read under the root of a tree
pub record Again (f : ℕ) (slots : Slots) (p : Placed) : Type 0 where
  pub same : placed_at f slots (root p) ≡ p
  pub there : is_there f slots (root p) ≡ true

pub again : (slots : Slots) (f : ℕ) (p : Placed) → Stands slots p → weight p ≤ f → Again f slots p
again slots zero (DoAt i s p) h w = absurd (omega arith)
again slots zero (IfAt i c x y p q) h w = absurd (omega arith)
again slots zero (EndAt i l) h w = absurd (omega arith)
again slots (suc f) (DoAt i s p) h w =
    let n = h.0 in
    let e = again slots f p h.1 (omega arith) in record {
      same = place_slot_is i (placed_at f slots) (slot slots i) n.node (Does s) _ n.found n.is n.children ∙ ap (DoAt i s) e.same;
      there = is_slot_is (is_there f slots) (slot slots i) n.node _ n.found n.children ∙ ap (λ b. b && true) e.there;
    }
again slots (suc f) (IfAt i c x y p q) h w =
    let n = h.0 in
    let e = again slots f p h.1 (omega arith) in
    let d = again slots f q h.2 (omega arith) in record {
      same = place_slot_is i (placed_at f slots) (slot slots i) n.node (Forks c x y) _ n.found n.is n.children ∙ ap (λ r. IfAt i c x y r (placed_at f slots (root q))) e.same ∙ ap (IfAt i c x y p) d.same;
      there = is_slot_is (is_there f slots) (slot slots i) n.node _ n.found n.children ∙ ap (λ b. b && (is_there f slots (root q) && true)) e.there ∙ ap (λ b. b && true) d.there;
    }
again slots (suc f) (EndAt i l) h w = record {
  same = place_slot_is i (placed_at f slots) (slot slots i) h.node (Ends l) _ h.found h.is h.children;
  there = is_slot_is (is_there f slots) (slot slots i) h.node _ h.found h.children;
}

record AllAgain (f : ℕ) (slots : Slots) (ps : List Placed) : Type 0 where
  same : placed_all f slots (ids (rooted_all ps)) ≡ ps
  there : each_number (is_there f slots) (ids (rooted_all ps)) ≡ true

all_again : (slots : Slots) (f : ℕ) (ps : List Placed) → AllStand slots ps → weight_all ps ≤ f → AllAgain f slots ps
all_again slots f [] h w = record { same = refl; there = refl }
all_again slots f (p ∷ ps) h w =
    let e = again slots f p h.0 (omega arith) in
    let d = all_again slots f ps h.1 (omega arith) in record {
      same = ap (λ q. q ∷ placed_all f slots (ids (rooted_all ps))) e.same ∙ ap (λ qs. p ∷ qs) d.same;
      there = ap (λ b. b && each_number (is_there f slots) (ids (rooted_all ps))) e.there ∙ d.there;
    }

bare-rooted : (ps : List Placed) → bare_all ps ≡ trees_of (rooted_all ps)
bare-rooted [] = refl
bare-rooted (p ∷ ps) = ap (λ ts. bare p ∷ ts) (bare-rooted ps)

pub roots-rooted : (ps : List Placed) → roots_of ps ≡ ids (rooted_all ps)
roots-rooted [] = refl
roots-rooted (p ∷ ps) = ap (λ ts. root p ∷ ts) (roots-rooted ps)

-- what is read under the roots of a forest is the forest
pub placed_again : (slots : Slots) (roots : List Rooted) (is : List ℕ) → (f : Forest slots roots) → ids roots ≡ is → placed_in slots is ≡ f.placed
placed_again slots roots is f e =
    ap (placed_in slots) (sym e ∙ ap ids (sym f.as_said)) ∙ (all_again slots (filled slots) f.placed f.stand (omega (arith, f.many))).same

pub formed_from : (slots : Slots) (roots : List Rooted) (is : List ℕ) → Forest slots roots → ids roots ≡ is → Formed slots is
formed_from slots roots is f e =
    let s = placed_again slots roots is f e in record {
      there = ap (each_number (is_there (filled slots) slots)) (sym e ∙ ap ids (sym f.as_said)) ∙ (all_again slots (filled slots) f.placed f.stand (omega (arith, f.many))).there;
      once = λ i. ap (times_all i) s ∙ f.once i;
      many = ap weight_all s ∙ f.many;
    }

pub trees_from : (slots : Slots) (roots : List Rooted) (is : List ℕ) → Forest slots roots → ids roots ≡ is → bare_all (placed_in slots is) ≡ trees_of roots
trees_from slots roots is f e = ap bare_all (placed_again slots roots is f e) ∙ bare-rooted f.placed ∙ ap trees_of f.as_said

-- ---- one more node

-- what stood stands where all slots that had nodes keep them
pub stands_more : (slots new : Slots) → ((i : ℕ) (n : SsuNode) → slot slots i ≡ Some n → slot new i ≡ Some n) → (p : Placed) → Stands slots p → Stands new p
stands_more slots new k (DoAt i s p) h = (record { node = h.0.node; found = k i h.0.node h.0.found; is = h.0.is; children = h.0.children }, stands_more slots new k p h.1)
stands_more slots new k (IfAt i c x y p q) h = (record { node = h.0.node; found = k i h.0.node h.0.found; is = h.0.is; children = h.0.children }, stands_more slots new k p h.1, stands_more slots new k q h.2)
stands_more slots new k (EndAt i l) h = record { node = h.node; found = k i h.node h.found; is = h.is; children = h.children }

all_stand_more : (slots new : Slots) → ((i : ℕ) (n : SsuNode) → slot slots i ≡ Some n → slot new i ≡ Some n) → (ps : List Placed) → AllStand slots ps → AllStand new ps
all_stand_more slots new k [] h = tt
all_stand_more slots new k (p ∷ ps) h = (stands_more slots new k p h.0, all_stand_more slots new k ps h.1)

pub record Split (ps : List Placed) (a b : List Rooted) : Type 0 where
  pub front : List Placed
  pub back : List Placed
  pub is_front : rooted_all front ≡ a
  pub is_back : rooted_all back ≡ b
  pub whole : ps ≡ front ++ back

pub split : (ps : List Placed) (a b : List Rooted) → rooted_all ps ≡ a ++ b → Split ps a b
split ps [] b e = record { front = []; back = ps; is_front = refl; is_back = e; whole = refl }
split [] (x ∷ a) b e = absurd (cc)
split (p ∷ ps) (x ∷ a) b e =
    let d = split ps a b (cc) in
    let h : rooted p ≡ x = cc in record {
      front = p ∷ d.front;
      back = d.back;
      is_front = ap (λ r. r ∷ rooted_all d.front) h ∙ ap (λ rs. x ∷ rs) d.is_front;
      is_back = d.is_back;
      whole = ap (λ qs. p ∷ qs) d.whole;
    }

-- a tree over trees
record Over (key : ℕ) (n : SsuNode) (qs : List Placed) : Type 0 where
  tree : Placed
  at_key : root tree ≡ key
  is_over : bare tree ≡ over (node_of n) (bare_all qs)
  stands : (slots : Slots) → slot slots key ≡ Some n → AllStand slots qs → Stands slots tree
  counts : (i : ℕ) → times i tree ≡ here i key + times_all i qs
  weighs : weight tree ≡ 1 + weight_all qs

over_head : (key : ℕ) (n : SsuNode) (h : Node) (qs : List Placed) → node_of n ≡ h → successors_of n ≡ roots_of qs → length (roots_of qs) ≡ arity h → Over key n qs
over_head key n (Does s) [] e k a = absurd (omega arith)
over_head key n (Does s) (p ∷ []) e k a = record {
  tree = DoAt key s p;
  at_key = refl;
  is_over = ap (λ h. over h (bare p ∷ [])) (sym e);
  stands = λ slots f h. (record { node = n; found = f; is = e; children = k }, h.0);
  counts = λ i. omega arith;
  weighs = omega arith;
}
over_head key n (Does s) (p ∷ q ∷ qs) e k a = absurd (omega arith)
over_head key n (Forks c x y) [] e k a = absurd (omega arith)
over_head key n (Forks c x y) (p ∷ []) e k a = absurd (omega arith)
over_head key n (Forks c x y) (p ∷ q ∷ []) e k a = record {
  tree = IfAt key c x y p q;
  at_key = refl;
  is_over = ap (λ h. over h (bare p ∷ bare q ∷ [])) (sym e);
  stands = λ slots f h. (record { node = n; found = f; is = e; children = k }, h.0, h.1.0);
  counts = λ i. omega arith;
  weighs = omega arith;
}
over_head key n (Forks c x y) (p ∷ q ∷ r ∷ qs) e k a = absurd (omega arith)
over_head key n (Ends l) [] e k a = record {
  tree = EndAt key l;
  at_key = refl;
  is_over = ap (λ h. over h []) (sym e);
  stands = λ slots f h. record { node = n; found = f; is = e; children = k };
  counts = λ i. omega arith;
  weighs = omega arith;
}
over_head key n (Ends l) (p ∷ qs) e k a = absurd (omega arith)

over_node : (key : ℕ) (n : SsuNode) (qs : List Placed) → ids (rooted_all qs) ≡ successors_of n → Over key n qs
over_node key n qs e =
    let k : successors_of n ≡ roots_of qs = sym e ∙ sym (roots-rooted qs) in
    over_head key n (node_of n) qs refl k (ap length (sym k) ∙ arity_of n)

pub times_all-append : (i : ℕ) (a b : List Placed) → times_all i (a ++ b) ≡ times_all i a + times_all i b
times_all-append i [] b = omega arith
times_all-append i (p ∷ a) b = omega (arith, times_all-append i a b)

pub weight_all-append : (a b : List Placed) → weight_all (a ++ b) ≡ weight_all a + weight_all b
weight_all-append [] b = omega arith
weight_all-append (p ∷ a) b = omega (arith, weight_all-append a b)

pub all_stand_front : (slots : Slots) (a b : List Placed) → AllStand slots (a ++ b) → AllStand slots a
all_stand_front slots [] b h = tt
all_stand_front slots (p ∷ a) b h = (h.0, all_stand_front slots a b h.1)

pub all_stand_back : (slots : Slots) (a b : List Placed) → AllStand slots (a ++ b) → AllStand slots b
all_stand_back slots [] b h = h
all_stand_back slots (p ∷ a) b h = all_stand_back slots a b h.1

-- the new slots have the node at the key, where nothing was, and else what they had
pub record Added (slots new : Slots) (key : ℕ) (n : SsuNode) : Type 0 where
  pub was : slot slots key ≡ None
  pub is : slot new key ≡ Some n
  pub others : (i : ℕ) → i ≢ key → slot new i ≡ slot slots i
  pub more : filled new ≡ filled slots + 1

occupied_more : (slots new : Slots) (key : ℕ) (n : SsuNode) → Added slots new key n → (i : ℕ) → occupied new i ≡ here i key + occupied slots i
occupied_more slots new key n a i =
    elim (eqb_tells i key) [
      | inl h ↦
          let was : slot slots i ≡ None = ap (slot slots) h.1 ∙ a.was in
          let is : slot new i ≡ Some n = ap (slot new) h.1 ∙ a.is in
          ap (λ o. cond (is_some o) 1 0) is ∙ sym (ap (λ b. cond b 1 0 + occupied slots i) h.0 ∙ ap (λ o. 1 + cond (is_some o) 1 0) was)
      | inr h ↦
          let same = a.others i h.1 in
          let zero_here : here i key ≡ 0 = ap (λ b. cond b 1 0) h.0 in
          let one_occupied : occupied new i ≡ occupied slots i = ap (λ o. cond (is_some o) 1 0) same in
          omega arith
    ]

kept_node : (slots new : Slots) (key : ℕ) (n : SsuNode) → Added slots new key n → (i : ℕ) (m : SsuNode) → slot slots i ≡ Some m → slot new i ≡ Some m
kept_node slots new key n a i m h =
    a.others i (λ e. let was : slot slots i ≡ None = ap (slot slots) e ∙ a.was in cc) ∙ h

pub grown : (slots new : Slots) (key : ℕ) (n : SsuNode) → Added slots new key n → (taken rest : List Rooted) → ids taken ≡ successors_of n → Forest slots (taken ++ rest) → Forest new ((key, over (node_of n) (trees_of taken)) ∷ rest)
grown slots new key n a taken rest e f =
    let s = split f.placed taken rest f.as_said in
    let o = over_node key n s.front (ap ids s.is_front ∙ e) in
    let stand : AllStand slots (s.front ++ s.back) = let P : List Placed → Type 0 = AllStand slots in subst P s.whole f.stand in
    let keeps = kept_node slots new key n a in
    let tree : bare o.tree ≡ over (node_of n) (trees_of taken) = o.is_over ∙ ap (over (node_of n)) (bare-rooted s.front ∙ ap trees_of s.is_front) in
    record {
      placed = o.tree ∷ s.back;
      as_said = ap (λ k. (k, bare o.tree) ∷ rooted_all s.back) o.at_key ∙ ap (λ t. (key, t) ∷ rooted_all s.back) tree ∙ ap (λ rs. (key, over (node_of n) (trees_of taken)) ∷ rs) s.is_back;
      stand = (
        o.stands new a.is (all_stand_more slots new keeps s.front (all_stand_front slots s.front s.back stand)),
        all_stand_more slots new keeps s.back (all_stand_back slots s.front s.back stand),
      );
      once = λ i.
          let all : times_all i (s.front ++ s.back) ≡ occupied slots i = ap (times_all i) (sym s.whole) ∙ f.once i in
          omega (arith, o.counts i, times_all-append i s.front s.back, occupied_more slots new key n a i, all);
      many =
          let all : weight_all (s.front ++ s.back) ≡ filled slots = ap weight_all (sym s.whole) ∙ f.many in
          omega (arith, o.weighs, weight_all-append s.front s.back, a.more, all);
    }
