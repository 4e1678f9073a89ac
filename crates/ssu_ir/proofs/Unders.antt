-- The tree under a number, by the node that is there.
use Rattle.std.proofs.Common.{◌≡◌, ℕ, ◌<◌, ◌≤◌, List, [], ◌∷◌, Some, refl, sym, ap, ◌∙◌, subst, inl, inr, ◌⊎◌, arith, map}
use Rattle.std.specs.Prelude.{IsSome}
use Rattle.nv_base.specs.declared.term.Cmp.{Cmp}
use Rattle.ssu_ir.specs.declared.node.SsuNode.{SsuNode}
use Rattle.ssu_ir.specs.declared.node.SsuLabel.{SsuLabel}
use Rattle.ssu_ir.specs.declared.ssu.Ssu.{Ssu}
use Rattle.ssu_ir.specs.Tree.{Step, Last, Do, If, End, Does, Forks, Ends}
use Rattle.ssu_ir.specs.Slots.{node_of, successors_of, Placed, root, roots_of, bare, bare_all, weight, weight_all, Slots, slot, filled, Stands, AllStand, placed_at, placed_all, placed_in, Formed, bodies, DoAt, IfAt, EndAt}
use Rattle.ssu_ir.specs.View.{with_bodies, labels_view}
use Rattle.ssu_ir.specs.inner.Under.{tree_at, weight_at, HasTree, AllHave, label_of}
use Rattle.ssu_ir.proofs.Trees.{again}
use Rattle.ssu_ir.proofs.Reading.{read_in, there_is}
use Rattle.ssu_ir.proofs.Walks.{is_some_from}

pub present_tree : (slots : Slots) (i : ℕ) → HasTree slots i → IsSome (slot slots i)
present_tree slots i h = let w = there_is slots h.placed h.stands in is_some_from (slot slots i) w.0 (ap (slot slots) (sym h.at_number) ∙ w.1)

-- what is read under the root of a tree that stands
read_root : (slots : Slots) (p : Placed) → Stands slots p → weight p ≤ filled slots → placed_at (filled slots) slots (root p) ≡ p
read_root slots p h w = (again slots (filled slots) p h w).same

-- ---- the trees after a node

pub record Kid (slots : Slots) (i k : ℕ) : Type 0 where
  pub has : HasTree slots k
  pub lighter : weight_at slots k < weight_at slots i

kid_of : (slots : Slots) (p q : Placed) (k : ℕ) → Stands slots p → weight p ≤ filled slots → Stands slots q → weight q < weight p → root q ≡ k → Kid slots (root p) k
kid_of slots p q k hp w hq l e =
    let within : weight q ≤ filled slots = omega arith in
    let P : ℕ → Type 0 = Kid slots (root p) in
    let a : weight_at slots (root q) ≡ weight q = ap weight (read_root slots q hq within) in
    let b : weight_at slots (root p) ≡ weight p = ap weight (read_root slots p hp w) in
    subst P e (record { has = record { placed = q; at_number = refl; stands = hq; within = within }; lighter = omega arith })

pub record NoKids (slots : Slots) (i : ℕ) (n : SsuNode) : Type 0 where
  pub l : Last
  pub is : node_of n ≡ Ends l
  pub tree : tree_at slots i ≡ End l

pub record OneKid (slots : Slots) (i : ℕ) (n : SsuNode) (k : ℕ) : Type 0 where
  pub s : Step
  pub is : node_of n ≡ Does s
  pub tree : tree_at slots i ≡ Do s (tree_at slots k)
  pub kid : Kid slots i k

pub record TwoKids (slots : Slots) (i : ℕ) (n : SsuNode) (j k : ℕ) : Type 0 where
  pub c : Cmp
  pub x : ℕ
  pub y : ℕ
  pub is : node_of n ≡ Forks c x y
  pub tree : tree_at slots i ≡ If c x y (tree_at slots j) (tree_at slots k)
  pub first : Kid slots i j
  pub second : Kid slots i k

bare_root : (slots : Slots) (p : Placed) → Stands slots p → weight p ≤ filled slots → tree_at slots (root p) ≡ bare p
bare_root slots p h w = ap bare (read_root slots p h w)

none_of : (slots : Slots) (p : Placed) (n : SsuNode) → Stands slots p → weight p ≤ filled slots → slot slots (root p) ≡ Some n → successors_of n ≡ [] → NoKids slots (root p) n
none_of slots (DoAt i s q) n h w f e =
    let same : h.0.node ≡ n = let g = h.0.found in cc in
    let two : successors_of n ≡ root q ∷ [] = ap successors_of (sym same) ∙ h.0.children in
    absurd (cc)
none_of slots (IfAt i c x y q r) n h w f e =
    let same : h.0.node ≡ n = let g = h.0.found in cc in
    let two : successors_of n ≡ root q ∷ root r ∷ [] = ap successors_of (sym same) ∙ h.0.children in
    absurd (cc)
none_of slots (EndAt i l) n h w f e =
    let same : h.node ≡ n = let g = h.found in cc in
    record { l = l; is = ap node_of (sym same) ∙ h.is; tree = bare_root slots (EndAt i l) h w }

one_of : (slots : Slots) (p : Placed) (n : SsuNode) (k : ℕ) → Stands slots p → weight p ≤ filled slots → slot slots (root p) ≡ Some n → successors_of n ≡ k ∷ [] → OneKid slots (root p) n k
one_of slots (DoAt i s q) n k h w f e =
    let same : h.0.node ≡ n = let g = h.0.found in cc in
    let successor_list : successors_of n ≡ root q ∷ [] = ap successors_of (sym same) ∙ h.0.children in
    let at : root q ≡ k = cc in
    let within : weight q ≤ filled slots = omega arith in
    record {
      s = s;
      is = ap node_of (sym same) ∙ h.0.is;
      tree = bare_root slots (DoAt i s q) h w ∙ ap (Do s) (sym (bare_root slots q h.1 within)) ∙ ap (λ j. Do s (tree_at slots j)) at;
      kid = kid_of slots (DoAt i s q) q k h w h.1 (omega arith) at;
    }
one_of slots (IfAt i c x y q r) n k h w f e =
    let same : h.0.node ≡ n = let g = h.0.found in cc in
    let two : successors_of n ≡ root q ∷ root r ∷ [] = ap successors_of (sym same) ∙ h.0.children in
    absurd (cc)
one_of slots (EndAt i l) n k h w f e =
    let same : h.node ≡ n = let g = h.found in cc in
    let none : successors_of n ≡ [] = ap successors_of (sym same) ∙ h.children in
    absurd (cc)

two_of : (slots : Slots) (p : Placed) (n : SsuNode) (j k : ℕ) → Stands slots p → weight p ≤ filled slots → slot slots (root p) ≡ Some n → successors_of n ≡ j ∷ k ∷ [] → TwoKids slots (root p) n j k
two_of slots (DoAt i s q) n j k h w f e =
    let same : h.0.node ≡ n = let g = h.0.found in cc in
    let successor_list : successors_of n ≡ root q ∷ [] = ap successors_of (sym same) ∙ h.0.children in
    absurd (cc)
two_of slots (IfAt i c x y q r) n j k h w f e =
    let same : h.0.node ≡ n = let g = h.0.found in cc in
    let two : successors_of n ≡ root q ∷ root r ∷ [] = ap successors_of (sym same) ∙ h.0.children in
    let at : root q ≡ j = cc in
    let to : root r ≡ k = cc in
    let within : weight q ≤ filled slots = omega arith in
    let within' : weight r ≤ filled slots = omega arith in
    record {
      c = c;
      x = x;
      y = y;
      is = ap node_of (sym same) ∙ h.0.is;
      tree =
          bare_root slots (IfAt i c x y q r) h w
          ∙ ap (λ t. If c x y t (bare r)) (sym (bare_root slots q h.1 within) ∙ ap (tree_at slots) at)
          ∙ ap (If c x y (tree_at slots j)) (sym (bare_root slots r h.2 within') ∙ ap (tree_at slots) to);
      first = kid_of slots (IfAt i c x y q r) q j h w h.1 (omega arith) at;
      second = kid_of slots (IfAt i c x y q r) r k h w h.2 (omega arith) to;
    }
two_of slots (EndAt i l) n j k h w f e =
    let same : h.node ≡ n = let g = h.found in cc in
    let none : successors_of n ≡ [] = ap successors_of (sym same) ∙ h.children in
    absurd (cc)

pub no_kids : (slots : Slots) (i : ℕ) (n : SsuNode) → HasTree slots i → slot slots i ≡ Some n → [] ≡ successors_of n → NoKids slots i n
no_kids slots i n h f e =
    let P : ℕ → Type 0 = λ j. NoKids slots j n in
    subst P h.at_number (none_of slots h.placed n h.stands h.within (ap (slot slots) h.at_number ∙ f) (sym e))

pub one_kid : (slots : Slots) (i : ℕ) (n : SsuNode) (k : ℕ) → HasTree slots i → slot slots i ≡ Some n → k ∷ [] ≡ successors_of n → OneKid slots i n k
one_kid slots i n k h f e =
    let P : ℕ → Type 0 = λ j. OneKid slots j n k in
    subst P h.at_number (one_of slots h.placed n k h.stands h.within (ap (slot slots) h.at_number ∙ f) (sym e))

pub two_kids : (slots : Slots) (i : ℕ) (n : SsuNode) (j k : ℕ) → HasTree slots i → slot slots i ≡ Some n → j ∷ k ∷ [] ≡ successors_of n → TwoKids slots i n j k
two_kids slots i n j k h f e =
    let P : ℕ → Type 0 = λ r. TwoKids slots r n j k in
    subst P h.at_number (two_of slots h.placed n j k h.stands h.within (ap (slot slots) h.at_number ∙ f) (sym e))

-- what is after the node of a number
abbrev pub Shape : Slots → ℕ → SsuNode → Type 0
Shape slots i n = NoKids slots i n ⊎ (((k : ℕ) × OneKid slots i n k) ⊎ ((j : ℕ) × ((k : ℕ) × TwoKids slots i n j k)))

shape_of : (slots : Slots) (p : Placed) (n : SsuNode) → Stands slots p → weight p ≤ filled slots → slot slots (root p) ≡ Some n → Shape slots (root p) n
shape_of slots (DoAt i s q) n h w f =
    let same : h.0.node ≡ n = let g = h.0.found in cc in
    inr (inl (root q, one_of slots (DoAt i s q) n (root q) h w f (ap successors_of (sym same) ∙ h.0.children)))
shape_of slots (IfAt i c x y q r) n h w f =
    let same : h.0.node ≡ n = let g = h.0.found in cc in
    inr (inr (root q, (root r, two_of slots (IfAt i c x y q r) n (root q) (root r) h w f (ap successors_of (sym same) ∙ h.0.children))))
shape_of slots (EndAt i l) n h w f =
    let same : h.node ≡ n = let g = h.found in cc in
    inl (none_of slots (EndAt i l) n h w f (ap successors_of (sym same) ∙ h.children))

pub shape : (slots : Slots) (i : ℕ) (n : SsuNode) → HasTree slots i → slot slots i ≡ Some n → Shape slots i n
shape slots i n h f =
    let P : ℕ → Type 0 = λ j. Shape slots j n in
    subst P h.at_number (shape_of slots h.placed n h.stands h.within (ap (slot slots) h.at_number ∙ f))

-- ---- all bodies

has_all : (slots : Slots) (ps : List Placed) → AllStand slots ps → weight_all ps ≤ filled slots → AllHave slots (roots_of ps)
has_all slots [] h w = tt
has_all slots (p ∷ ps) h w = (record { placed = p; at_number = refl; stands = h.0; within = omega arith }, has_all slots ps h.1 (omega arith))

pub bodies_have : (slots : Slots) (is : List ℕ) → Formed slots is → AllHave slots is
bodies_have slots is f =
    let r = read_in slots is f in
    let P : List ℕ → Type 0 = AllHave slots in
    subst P r.at_numbers (has_all slots (placed_in slots is) r.stand (omega (arith, f.many)))

viewed : (slots : Slots) (f : ℕ) (ls : List SsuLabel) → with_bodies ls (bare_all (placed_all f slots (bodies ls))) ≡ map (λ l. record { params = l.params.items; body = bare (placed_at f slots l.body.0) }) ls
viewed slots f [] = refl
viewed slots f (l ∷ ls) = ap (λ v. record { params = l.params.items; body = bare (placed_at f slots l.body.0) } ∷ v) (viewed slots f ls)

pub labels-viewed : (s : Ssu) → labels_view s ≡ map (label_of s.nodes.slots) s.labels.items
labels-viewed s = viewed s.nodes.slots (filled s.nodes.slots) s.labels.items
