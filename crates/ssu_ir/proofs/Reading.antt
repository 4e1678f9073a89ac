-- Walks over trees that lie in slots.
use Rattle.std.proofs.Common.{◌≡◌, ℕ, zero, suc, ◌+◌, Bool, true, List, [], ◌∷◌, ◌++◌, length, Option, Some, None, refl, sym, ap, ◌∙◌, subst, arith}
use Rattle.std.proofs.lemmas.List.{append-nil}
use Rattle.ssu_ir.specs.declared.node.SsuNode.{SsuNode}
use Rattle.ssu_ir.specs.Tree.{Node, Does, Forks, Ends}
use Rattle.ssu_ir.specs.Slots.{node_of, successors_of, over, Placed, root, roots_of, successor_list, bare, bare_all, weight, weight_all, preorder, preorder_all, Slots, slot, filled, Stands, AllStand, place, place_slot, placed_at, placed_all, placed_in, each_number, is_slot, is_there, Formed, DoAt, IfAt, EndAt}
use Rattle.ssu_ir.proofs.Trees.{arity, arity_of, and_first, and_second, place_slot_is, is_slot_is}

-- ---- what is read stands

record Read (slots : Slots) (i : ℕ) (p : Placed) : Type 0 where
  stands : Stands slots p
  at_number : root p ≡ i

read_head : (slots : Slots) (i : ℕ) (n : SsuNode) (h : Node) (ks : List ℕ) (below : ℕ → Placed) (test : ℕ → Bool) → slot slots i ≡ Some n → node_of n ≡ h → successors_of n ≡ ks → length ks ≡ arity h → each_number test ks ≡ true → ((k : ℕ) → test k ≡ true → Read slots k (below k)) → Read slots i (place i below h ks)
read_head slots i n (Does s) [] below test f e k a t r = absurd (omega arith)
read_head slots i n (Does s) (j ∷ []) below test f e k a t r =
    let d = r j (and_first _ _ t) in record {
      stands = (record { node = n; found = f; is = e; children = k ∙ ap (λ x. x ∷ []) (sym d.at_number) }, d.stands);
      at_number = refl;
    }
read_head slots i n (Does s) (j ∷ m ∷ ks) below test f e k a t r = absurd (omega arith)
read_head slots i n (Forks c x y) [] below test f e k a t r = absurd (omega arith)
read_head slots i n (Forks c x y) (j ∷ []) below test f e k a t r = absurd (omega arith)
read_head slots i n (Forks c x y) (j ∷ m ∷ []) below test f e k a t r =
    let d = r j (and_first _ _ t) in
    let b = r m (and_first _ _ (and_second _ _ t)) in record {
      stands = (
        record { node = n; found = f; is = e; children = k ∙ ap (λ x. x ∷ m ∷ []) (sym d.at_number) ∙ ap (λ x. root (below j) ∷ x ∷ []) (sym b.at_number) },
        d.stands,
        b.stands,
      );
      at_number = refl;
    }
read_head slots i n (Forks c x y) (j ∷ m ∷ l ∷ ks) below test f e k a t r = absurd (omega arith)
read_head slots i n (Ends l) [] below test f e k a t r = record {
  stands = record { node = n; found = f; is = e; children = k };
  at_number = refl;
}
read_head slots i n (Ends l) (j ∷ ks) below test f e k a t r = absurd (omega arith)

slot_node : (test : ℕ → Bool) (o : Option SsuNode) → is_slot test o ≡ true → (n : SsuNode) × (o ≡ Some n)
slot_node test None h = absurd (cc)
slot_node test (Some n) h = (n, refl)

read : (slots : Slots) (f i : ℕ) → is_there f slots i ≡ true → Read slots i (placed_at f slots i)
read slots zero i h = absurd (cc)
read slots (suc f) i h =
    let n = slot_node (is_there f slots) (slot slots i) h in
    let there : each_number (is_there f slots) (successors_of n.0) ≡ true = sym (is_slot_is (is_there f slots) (slot slots i) n.0 _ n.1 refl) ∙ h in
    let same : place_slot i (placed_at f slots) (slot slots i) ≡ place i (placed_at f slots) (node_of n.0) (successors_of n.0) = place_slot_is i (placed_at f slots) (slot slots i) n.0 _ _ n.1 refl refl in
    let P : Placed → Type 0 = Read slots i in
    subst P (sym same) (read_head slots i n.0 (node_of n.0) (successors_of n.0) (placed_at f slots) (is_there f slots) n.1 refl refl (arity_of n.0) there (λ k. read slots f k))

pub record ReadAll (slots : Slots) (is : List ℕ) (ps : List Placed) : Type 0 where
  pub stand : AllStand slots ps
  pub at_numbers : roots_of ps ≡ is

read_all : (slots : Slots) (f : ℕ) (is : List ℕ) → each_number (is_there f slots) is ≡ true → ReadAll slots is (placed_all f slots is)
read_all slots f [] h = record { stand = tt; at_numbers = refl }
read_all slots f (i ∷ is) h =
    let e = read slots f i (and_first _ _ h) in
    let d = read_all slots f is (and_second _ _ h) in record {
      stand = (e.stands, d.stand);
      at_numbers = ap (λ x. x ∷ roots_of (placed_all f slots is)) e.at_number ∙ ap (λ xs. i ∷ xs) d.at_numbers;
    }

pub read_in : (slots : Slots) (is : List ℕ) → Formed slots is → ReadAll slots is (placed_in slots is)
read_in slots is f = read_all slots (filled slots) is f.there

-- ---- one node of a tree that stands

pub record Below (slots : Slots) (p : Placed) (n : SsuNode) : Type 0 where
  pub numbers : successors_of n ≡ roots_of (successor_list p)
  pub stand : AllStand slots (successor_list p)
  pub tree : bare p ≡ over (node_of n) (bare_all (successor_list p))
  pub weighs : weight p ≡ 1 + weight_all (successor_list p)
  pub many : length (successor_list p) ≡ arity (node_of n)
  pub order : preorder p ≡ root p ∷ preorder_all (successor_list p)

pub there_is : (slots : Slots) (p : Placed) → Stands slots p → (n : SsuNode) × (slot slots (root p) ≡ Some n)
there_is slots (DoAt i s p) h = (h.0.node, h.0.found)
there_is slots (IfAt i c x y p q) h = (h.0.node, h.0.found)
there_is slots (EndAt i l) h = (h.node, h.found)

pub below : (slots : Slots) (p : Placed) (n : SsuNode) → Stands slots p → slot slots (root p) ≡ Some n → Below slots p n
below slots (DoAt i s p) n h e =
    let same : h.0.node ≡ n = let w = h.0.found in cc in
    let head : node_of n ≡ Does s = ap node_of (sym same) ∙ h.0.is in record {
      numbers = ap successors_of (sym same) ∙ h.0.children;
      stand = (h.1, tt);
      tree = ap (λ d. over d (bare p ∷ [])) (sym head);
      weighs = omega arith;
      many = ap arity (sym head);
      order = ap (λ l. i ∷ l) (sym (append-nil (preorder p)));
    }
below slots (IfAt i c x y p q) n h e =
    let same : h.0.node ≡ n = let w = h.0.found in cc in
    let head : node_of n ≡ Forks c x y = ap node_of (sym same) ∙ h.0.is in record {
      numbers = ap successors_of (sym same) ∙ h.0.children;
      stand = (h.1, (h.2, tt));
      tree = ap (λ d. over d (bare p ∷ bare q ∷ [])) (sym head);
      weighs = omega arith;
      many = ap arity (sym head);
      order = ap (λ l. i ∷ (preorder p ++ l)) (sym (append-nil (preorder q)));
    }
below slots (EndAt i l) n h e =
    let same : h.node ≡ n = let w = h.found in cc in
    let head : node_of n ≡ Ends l = ap node_of (sym same) ∙ h.is in record {
      numbers = ap successors_of (sym same) ∙ h.children;
      stand = tt;
      tree = ap (λ d. over d []) (sym head);
      weighs = omega arith;
      many = ap arity (sym head);
      order = refl;
    }
