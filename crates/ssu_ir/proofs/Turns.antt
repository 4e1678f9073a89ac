-- Building from the last node of the order back to the first.
use Rattle.std.proofs.Common.{◌≡◌, ℕ, List, [], ◌∷◌, ◌++◌, length, Some, refl, sym, ap, ◌∙◌, subst, arith, append_assoc}
use Rattle.std.specs.Prelude.{reverse, IsSome}
use Rattle.std.proofs.lemmas.List.{append-nil, reverse-append, length-reverse}
use Rattle.ssu_ir.specs.declared.node.SsuNode.{SsuNode}
use Rattle.ssu_ir.specs.declared.node.SsuLabel.{SsuLabel}
use Rattle.ssu_ir.specs.declared.node.NodeId.{NodeId}
use Rattle.ssu_ir.specs.Tree.{Tree}
use Rattle.ssu_ir.specs.Slots.{Placed, root, roots_of, successor_list, preorder, preorder_all, Slots, slot, Stands, AllStand, bodies, DoAt, IfAt, EndAt}
use Rattle.ssu_ir.specs.Work.{nums, tops}
use Rattle.ssu_ir.specs.Build.{Rooted, ids, trees_of}
use Rattle.ssu_ir.proofs.Reading.{Below, there_is, below}
use Rattle.ssu_ir.proofs.Walks.{tops_pop, nums-append, is_some_from}

-- ---- what the rest of an order, the next first, makes of trees that are made

pub record Made (slots : Slots) (i : ℕ) (ps : List Placed) (Later : Placed → List Placed → Type 0) : Type 0 where
  pub top : Placed
  pub rest : List Placed
  pub at_number : root top ≡ i
  pub uses : ps ≡ successor_list top ++ rest
  pub stands : Stands slots top
  pub later : Later top rest

abbrev pub Completes : Slots → List ℕ → List Placed → List Placed → Type 0
Completes slots [] ps goal = ps ≡ goal
Completes slots (i ∷ is) ps goal = Made slots i ps (λ top rest. Completes slots is (top ∷ rest) goal)

-- the order from its end
abbrev post : Placed → List ℕ
post (DoAt i s p) = post p ++ i ∷ []
post (IfAt i c x y p q) = post q ++ (post p ++ i ∷ [])
post (EndAt i l) = i ∷ []

abbrev post_all : List Placed → List ℕ
post_all [] = []
post_all (p ∷ ps) = post_all ps ++ post p

reverse-cons : (i : ℕ) (l : List ℕ) → reverse (i ∷ l) ≡ reverse l ++ i ∷ []
reverse-cons i l = reverse-append (i ∷ []) l

reverse-pre : (p : Placed) → reverse (preorder p) ≡ post p
reverse-pre (DoAt i s p) = reverse-cons i (preorder p) ∙ ap (λ l. l ++ i ∷ []) (reverse-pre p)
reverse-pre (IfAt i c x y p q) =
    reverse-cons i (preorder p ++ preorder q)
    ∙ ap (λ l. l ++ i ∷ []) (reverse-append (preorder p) (preorder q) ∙ ap (λ l. l ++ reverse (preorder p)) (reverse-pre q) ∙ ap (λ l. post q ++ l) (reverse-pre p))
    ∙ append_assoc (post q) (post p) (i ∷ [])
reverse-pre (EndAt i l) = refl

reverse-pre_all : (ps : List Placed) → reverse (preorder_all ps) ≡ post_all ps
reverse-pre_all [] = refl
reverse-pre_all (p ∷ ps) = reverse-append (preorder p) (preorder_all ps) ∙ ap (λ l. l ++ reverse (preorder p)) (reverse-pre_all ps) ∙ ap (λ l. post_all ps ++ l) (reverse-pre p)

completes_post : (slots : Slots) (p : Placed) (is : List ℕ) (ps goal : List Placed) → Stands slots p → Completes slots is (p ∷ ps) goal → Completes slots (post p ++ is) ps goal
completes_post slots (DoAt i s p) is ps goal h c =
    let P : List ℕ → Type 0 = λ l. Completes slots l ps goal in
    subst P (sym (append_assoc (post p) (i ∷ []) is))
    (completes_post slots p (i ∷ is) ps goal h.1 (record { top = DoAt i s p; rest = ps; at_number = refl; uses = refl; stands = h; later = c }))
completes_post slots (IfAt i d x y p q) is ps goal h c =
    let P : List ℕ → Type 0 = λ l. Completes slots l ps goal in
    subst P (sym (append_assoc (post q) (post p ++ i ∷ []) is ∙ ap (λ l. post q ++ l) (append_assoc (post p) (i ∷ []) is)))
    (completes_post slots q (post p ++ (i ∷ is)) ps goal h.2
    (completes_post slots p (i ∷ is) (q ∷ ps) goal h.1 (record { top = IfAt i d x y p q; rest = ps; at_number = refl; uses = refl; stands = h; later = c })))
completes_post slots (EndAt i l) is ps goal h c = record { top = EndAt i l; rest = ps; at_number = refl; uses = refl; stands = h; later = c }

completes_all : (slots : Slots) (gs : List Placed) (is : List ℕ) (ps goal : List Placed) → AllStand slots gs → Completes slots is (gs ++ ps) goal → Completes slots (post_all gs ++ is) ps goal
completes_all slots [] is ps goal h c = c
completes_all slots (g ∷ gs) is ps goal h c =
    let P : List ℕ → Type 0 = λ l. Completes slots l ps goal in
    subst P (sym (append_assoc (post_all gs) (post g) is))
    (completes_all slots gs (post g ++ is) ps goal h.1 (completes_post slots g is (gs ++ ps) goal h.0 c))

tops-reverse : (xs : List NodeId) → tops xs ≡ reverse (nums xs)
tops-reverse [] = refl
tops-reverse (x ∷ xs) =
    ap nums (reverse-append (x ∷ []) xs) ∙ nums-append (reverse xs) (x ∷ []) ∙ ap (λ l. l ++ x.0 ∷ []) (tops-reverse xs) ∙ sym (reverse-cons x.0 (nums xs))

-- the whole order makes the whole of nothing
pub completes_start : (slots : Slots) (goal : List Placed) (order : List NodeId) → AllStand slots goal → nums order ≡ preorder_all goal → Completes slots (tops order) [] goal
completes_start slots goal order h e =
    let P : List ℕ → Type 0 = λ l. Completes slots l [] goal in
    let c : Completes slots [] (goal ++ []) goal = append-nil goal in
    subst P (append-nil (post_all goal) ∙ sym (reverse-pre_all goal) ∙ ap reverse (sym e) ∙ sym (tops-reverse order)) (completes_all slots goal [] [] goal h c)

-- the next node, where the rest of the order is popped
pub made_of : (slots : Slots) (old mid : List NodeId) (x : NodeId) (ps goal : List Placed) → tops old ≡ x.0 ∷ tops mid → Completes slots (tops old) ps goal → Made slots x.0 ps (λ top rest. Completes slots (tops mid) (top ∷ rest) goal)
made_of slots old mid x ps goal e c = let P : List ℕ → Type 0 = λ l. Completes slots l ps goal in subst P e c

pub completes_end : (slots : Slots) (old : List NodeId) (ps goal : List Placed) → old ≡ [] → Completes slots (tops old) ps goal → ps ≡ goal
completes_end slots old ps goal e c = let P : List NodeId → Type 0 = λ l. Completes slots (tops l) ps goal in subst P e c

-- ---- the roots that are made

pub length-roots_of : (ps : List Placed) → length (roots_of ps) ≡ length ps
length-roots_of [] = refl
length-roots_of (p ∷ ps) = omega (arith, length-roots_of ps)

pub length-ids : (rs : List Rooted) → length (ids rs) ≡ length rs
length-ids [] = refl
length-ids (r ∷ rs) = omega (arith, length-ids rs)

pub length-trees_of : (rs : List Rooted) → length (trees_of rs) ≡ length rs
length-trees_of [] = refl
length-trees_of (r ∷ rs) = omega (arith, length-trees_of rs)

length-nums : (xs : List NodeId) → length (nums xs) ≡ length xs
length-nums [] = refl
length-nums (x ∷ xs) = omega (arith, length-nums xs)

pub length-tops : (xs : List NodeId) → length (tops xs) ≡ length xs
length-tops xs = length-nums (reverse xs) ∙ length-reverse xs

pub trees_of-append : (a b : List Rooted) → trees_of (a ++ b) ≡ trees_of a ++ trees_of b
trees_of-append [] b = refl
trees_of-append (r ∷ a) b = ap (λ l. r.1 ∷ l) (trees_of-append a b)

-- roots whose numbers are in two parts
pub record Parts (rs : List Rooted) (a b : List ℕ) : Type 0 where
  pub front : List Rooted
  pub back : List Rooted
  pub whole : rs ≡ front ++ back
  pub at_front : ids front ≡ a
  pub at_back : ids back ≡ b

pub parts : (rs : List Rooted) (a b : List ℕ) → ids rs ≡ a ++ b → Parts rs a b
parts rs [] b e = record { front = []; back = rs; whole = refl; at_front = refl; at_back = e }
parts [] (i ∷ a) b e = absurd (cc)
parts (r ∷ rs) (i ∷ a) b e =
    let d = parts rs a b (cc) in
    let h : r.0 ≡ i = cc in record {
      front = r ∷ d.front;
      back = d.back;
      whole = ap (λ l. r ∷ l) d.whole;
      at_front = ap (λ j. j ∷ ids d.front) h ∙ ap (λ l. i ∷ l) d.at_front;
      at_back = d.at_back;
    }

-- lists of trees in two parts, the first as long as one another
pub same_front : (a b c d : List Tree) → a ++ b ≡ c ++ d → length a ≡ length c → (a ≡ c) × (b ≡ d)
same_front [] b [] d e l = (refl, e)
same_front [] b (x ∷ c) d e l = absurd (omega arith)
same_front (y ∷ a) b [] d e l = absurd (omega arith)
same_front (y ∷ a) b (x ∷ c) d e l =
    let w = same_front a b c d (cc) (omega arith) in
    let h : y ≡ x = cc in (ap (λ z. z ∷ a) h ∙ ap (λ t. x ∷ t) w.0, w.1)

-- ---- what the proofs of functions cite

pub step_of : (slots : Slots) (old mid : List NodeId) (x : NodeId) (ps goal : List Placed) → old ≡ mid ++ x ∷ [] → Completes slots (tops old) ps goal → Made slots x.0 ps (λ top rest. Completes slots (tops mid) (top ∷ rest) goal)
step_of slots old mid x ps goal e c = made_of slots old mid x ps goal (tops_pop old mid x e) c

pub below_made : (slots : Slots) (i : ℕ) (top : Placed) (n : SsuNode) → root top ≡ i → Stands slots top → slot slots i ≡ Some n → Below slots top n
below_made slots i top n r h e = below slots top n h (ap (slot slots) r ∙ e)

pub length-bodies : (ls : List SsuLabel) → length (bodies ls) ≡ length ls
length-bodies [] = refl
length-bodies (l ∷ ls) = omega (arith, length-bodies ls)

pub present_made : (slots : Slots) (i : ℕ) (top : Placed) → root top ≡ i → Stands slots top → IsSome (slot slots i)
present_made slots i top r h = let w = there_is slots top h in is_some_from (slot slots i) w.0 (ap (slot slots) (sym r) ∙ w.1)

-- a label behind others, over the next number
pub bodies-append : (a b : List SsuLabel) → bodies (a ++ b) ≡ bodies a ++ bodies b
bodies-append [] b = refl
bodies-append (l ∷ a) b = ap (λ is. l.body.0 ∷ is) (bodies-append a b)

pub labels_step : (v w : List SsuLabel) (l : SsuLabel) (old new goal : List ℕ) → w ≡ v ++ l ∷ [] → old ≡ l.body.0 ∷ new → bodies v ++ old ≡ goal → bodies w ++ new ≡ goal
labels_step v w l old new goal e o g =
    ap (λ ls. bodies ls ++ new) e ∙ ap (λ is. is ++ new) (bodies-append v (l ∷ []))
    ∙ append_assoc (bodies v) (l.body.0 ∷ []) new ∙ ap (λ is. bodies v ++ is) (sym o) ∙ g
