-- Rows and clones, step by step.
use Rattle.std.proofs.Common.{◌≡◌, ℕ, zero, suc, ◌+◌, ◌<◌, ◌≤◌, Bool, true, false, not, nat_eq, if◌then◌else◌, ◌||◌, Option, Some, None, Result, Ok, Err, OnOk, List, [], ◌∷◌, ◌++◌, length, map, get_or, drop, refl, sym, ap, ◌∙◌, append_assoc, arith}
use Rattle.std.specs.Prelude.{IsSome}
use Rattle.std.proofs.lemmas.List.{drop_more, drop_all, append-nil, reverse-append}
use Rattle.nv_base.specs.Sets.{is_in, without}
use Rattle.ssu_ir.specs.declared.node.NodeId.{NodeId}
use Rattle.ssu_ir.specs.declared.node.SsuNode.{SsuNode}
use Rattle.ssu_ir.specs.Work.{nums}
use Rattle.ssu_ir.proofs.Walks.{is_some_from}
use Rattle.ssu_ir.specs.Slots.{Placed, DoAt, IfAt, EndAt, bare, bare_all, preorder, preorder_all, Slots, slot, Stands, AllStand, node_of}
use Rattle.ssu_liveness.specs.inner.Live.{first_of, node_source, step_source, source_in, source_among, slot_source, sources_at, add_all, on_stack, Takes}
use Rattle.ssu_liveness.specs.LiveRows.{Kept, items_of}
use Rattle.ssu_liveness.proofs.Scoped.{first_of-none}

pub first_of-assoc : (a b c : Option ℕ) → first_of (first_of a b) c ≡ first_of a (first_of b c)
first_of-assoc (Some x) b c = refl
first_of-assoc None b c = refl

either-source : (b c : Bool) (y : ℕ) → first_of (if b then Some y else None) (if c then Some y else None) ≡ (if (b || c) then Some y else None)
either-source true c y = refl
either-source false c y = refl

-- one clone more is noted
pub noted-more : (a o o' : Option ℕ) (xs : List ℕ) (i x y z : ℕ) → i < length xs → x ≡ get_or xs i 0 → o' ≡ first_of o (if nat_eq z x then Some y else None)
    → first_of o (if is_in z (drop i xs) then Some y else None) ≡ a → first_of o' (if is_in z (drop (i + 1) xs) then Some y else None) ≡ a
noted-more a o o' xs i x y z l e f h =
    ap (λ p. first_of p (if is_in z (drop (i + 1) xs) then Some y else None)) f
    ∙ first_of-assoc o (if nat_eq z x then Some y else None) (if is_in z (drop (i + 1) xs) then Some y else None)
    ∙ ap (λ p. first_of o p) (either-source (nat_eq z x) (is_in z (drop (i + 1) xs)) y)
    ∙ ap (λ w. first_of o (if (nat_eq z w || is_in z (drop (i + 1) xs)) then Some y else None)) e
    ∙ ap (λ l. first_of o (if is_in z l then Some y else None)) (sym (drop_more xs i 0 l))
    ∙ h

pub noted-all : (a o : Option ℕ) (xs : List ℕ) (i y z : ℕ) → length xs ≤ i → first_of o (if is_in z (drop i xs) then Some y else None) ≡ a → o ≡ a
noted-all a o xs i y z l h = sym (first_of-none o) ∙ ap (λ m. first_of o (if is_in z m then Some y else None)) (sym (drop_all i xs l)) ∙ h

-- ---- rows

pub added-more : (xs row row' goal : List ℕ) (i x : ℕ) → i < length xs → x ≡ get_or xs i 0 → row' ≡ (if is_in x row then row else row ++ x ∷ []) → add_all (drop i xs) row ≡ goal → add_all (drop (i + 1) xs) row' ≡ goal
added-more xs row row' goal i x l e f h =
    ap (λ r. add_all (drop (i + 1) xs) r) f ∙ ap (λ w. add_all (drop (i + 1) xs) (if is_in w row then row else row ++ w ∷ [])) e
    ∙ ap (λ m. add_all m row) (sym (drop_more xs i 0 l)) ∙ h

pub added-all : (xs row goal : List ℕ) (i : ℕ) → length xs ≤ i → add_all (drop i xs) row ≡ goal → row ≡ goal
added-all xs row goal i l h = ap (λ m. add_all m row) (sym (drop_all i xs l)) ∙ h

pub added-mapped : (of : ℕ → ℕ) (xs row row' goal : List ℕ) (i x : ℕ) → i < length xs → x ≡ get_or xs i 0 → row' ≡ (if is_in (of x) row then row else row ++ of x ∷ []) → add_all (map of (drop i xs)) row ≡ goal → add_all (map of (drop (i + 1) xs)) row' ≡ goal
added-mapped of xs row row' goal i x l e f h =
    ap (λ r. add_all (map of (drop (i + 1) xs)) r) f ∙ ap (λ w. add_all (map of (drop (i + 1) xs)) (if is_in (of w) row then row else row ++ of w ∷ [])) e
    ∙ ap (λ m. add_all (map of m) row) (sym (drop_more xs i 0 l)) ∙ h

pub mapped-all : (of : ℕ → ℕ) (xs row goal : List ℕ) (i : ℕ) → length xs ≤ i → add_all (map of (drop i xs)) row ≡ goal → row ≡ goal
mapped-all of xs row goal i l h = ap (λ m. add_all (map of m) row) (sym (drop_all i xs l)) ∙ h

-- ---- what is taken out

kept-if : (b : Bool) (x : ℕ) (kept rest : List ℕ) → (if not b then kept ++ x ∷ [] else kept) ++ rest ≡ kept ++ (if b then rest else x ∷ rest)
kept-if true x kept rest = refl
kept-if false x kept rest = append_assoc kept (x ∷ []) rest

pub kept-more : (row gone kept kept' goal : List ℕ) (i x : ℕ) → i < length row → x ≡ get_or row i 0 → kept' ≡ (if not (is_in x gone) then kept ++ x ∷ [] else kept) → kept ++ without (drop i row) gone ≡ goal → kept' ++ without (drop (i + 1) row) gone ≡ goal
kept-more row gone kept kept' goal i x l e f h =
    ap (λ k. k ++ without (drop (i + 1) row) gone) f
    ∙ kept-if (is_in x gone) x kept (without (drop (i + 1) row) gone)
    ∙ ap (λ w. kept ++ (if is_in w gone then without (drop (i + 1) row) gone else w ∷ without (drop (i + 1) row) gone)) e
    ∙ ap (λ m. kept ++ without m gone) (sym (drop_more row i 0 l)) ∙ h

pub kept-all : (row gone kept goal : List ℕ) (i : ℕ) → length row ≤ i → kept ++ without (drop i row) gone ≡ goal → kept ≡ goal
kept-all row gone kept goal i l h = sym (append-nil kept) ∙ ap (λ m. kept ++ without m gone) (sym (drop_all i row l)) ∙ h

pub without-nothing : (row : List ℕ) → without row [] ≡ row
without-nothing [] = refl
without-nothing (x ∷ row) = ap (λ r. x ∷ r) (without-nothing row)

-- ---- clones of trees, by the numbers of their nodes

sources-append : (slots : Slots) (a b : List ℕ) (z : ℕ) → sources_at slots (a ++ b) z ≡ first_of (sources_at slots a z) (sources_at slots b z)
sources-append slots [] b z = refl
sources-append slots (i ∷ a) b z = ap (λ o. first_of (slot_source (slot slots i) z) o) (sources-append slots a b z) ∙ sym (first_of-assoc (slot_source (slot slots i) z) (sources_at slots a z) (sources_at slots b z))

source-at : (slots : Slots) (p : Placed) (z : ℕ) → Stands slots p → source_in (bare p) z ≡ sources_at slots (preorder p) z
source-at slots (DoAt i s p) z h =
    let here : slot_source (slot slots i) z ≡ step_source s z = ap (λ o. slot_source o z) h.0.found ∙ ap (λ n. node_source n z) h.0.is in
    ap (λ o. first_of (step_source s z) o) (source-at slots p z h.1) ∙ ap (λ o. first_of o (sources_at slots (preorder p) z)) (sym here)
source-at slots (IfAt i c x y p q) z h =
    let here : slot_source (slot slots i) z ≡ None = ap (λ o. slot_source o z) h.0.found ∙ ap (λ n. node_source n z) h.0.is in
    ap (λ o. first_of o (source_in (bare q) z)) (source-at slots p z h.1)
    ∙ ap (λ o. first_of (sources_at slots (preorder p) z) o) (source-at slots q z h.2)
    ∙ sym (sources-append slots (preorder p) (preorder q) z)
    ∙ ap (λ o. first_of o (sources_at slots (preorder p ++ preorder q) z)) (sym here)
source-at slots (EndAt i l) z h =
    let here : slot_source (slot slots i) z ≡ None = ap (λ o. slot_source o z) h.found ∙ ap (λ n. node_source n z) h.is in
    ap (λ o. first_of o None) (sym here)

pub sources-at : (slots : Slots) (ps : List Placed) (z : ℕ) → AllStand slots ps → source_among (bare_all ps) z ≡ sources_at slots (preorder_all ps) z
sources-at slots [] z h = refl
sources-at slots (p ∷ ps) z h =
    ap (λ o. first_of o (source_among (bare_all ps) z)) (source-at slots p z h.0)
    ∙ ap (λ o. first_of (sources_at slots (preorder p) z) o) (sources-at slots ps z h.1)
    ∙ sym (sources-append slots (preorder p) (preorder_all ps) z)

-- every number names a node
abbrev pub AllThere : Slots → List ℕ → Type 0
AllThere slots [] = Unit {0}
AllThere slots (i ∷ is) = IsSome (slot slots i) × AllThere slots is

there-append : (slots : Slots) (a b : List ℕ) → AllThere slots a → AllThere slots b → AllThere slots (a ++ b)
there-append slots [] b h g = g
there-append slots (i ∷ a) b h g = (h.0, there-append slots a b h.1 g)

there-in : (slots : Slots) (p : Placed) → Stands slots p → AllThere slots (preorder p)
there-in slots (DoAt i s p) h = (is_some_from (slot slots i) h.0.node h.0.found, there-in slots p h.1)
there-in slots (IfAt i c x y p q) h = (is_some_from (slot slots i) h.0.node h.0.found, there-append slots (preorder p) (preorder q) (there-in slots p h.1) (there-in slots q h.2))
there-in slots (EndAt i l) h = (is_some_from (slot slots i) h.node h.found, tt)

pub there-all : (slots : Slots) (ps : List Placed) → AllStand slots ps → AllThere slots (preorder_all ps)
there-all slots [] h = tt
there-all slots (p ∷ ps) h = there-append slots (preorder p) (preorder_all ps) (there-in slots p h.0) (there-all slots ps h.1)

pub there-at : (slots : Slots) (xs : List NodeId) (k : ℕ) (d : NodeId) → AllThere slots (nums xs) → k < length xs → IsSome (slot slots (get_or xs k d).0)
there-at slots [] k d h l = absurd (omega arith)
there-at slots (x ∷ xs) zero d h l = h.0
there-at slots (x ∷ xs) (suc k) d h l = there-at slots xs k d h.1 (omega arith)

-- the clones of one node more are noted
pub sourced-more : (slots : Slots) (xs : List NodeId) (i : ℕ) (x : NodeId) (n : SsuNode) (o o' a : Option ℕ) (z : ℕ) → i < length xs → get_or xs i x ≡ x → slot slots x.0 ≡ Some n → o' ≡ first_of o (node_source (node_of n) z)
    → first_of o (sources_at slots (nums (drop i xs)) z) ≡ a → first_of o' (sources_at slots (nums (drop (i + 1) xs)) z) ≡ a
sourced-more slots xs i x n o o' a z l e f g h =
    ap (λ p. first_of p (sources_at slots (nums (drop (i + 1) xs)) z)) g
    ∙ first_of-assoc o (node_source (node_of n) z) (sources_at slots (nums (drop (i + 1) xs)) z)
    ∙ ap (λ p. first_of o (first_of p (sources_at slots (nums (drop (i + 1) xs)) z))) (sym (ap (λ w. slot_source w z) f))
    ∙ ap (λ (w : NodeId). first_of o (sources_at slots (nums (w ∷ drop (i + 1) xs)) z)) (sym e)
    ∙ ap (λ m. first_of o (sources_at slots (nums m) z)) (sym (drop_more xs i x l))
    ∙ h

pub sourced-all : (slots : Slots) (xs : List NodeId) (i : ℕ) (o a : Option ℕ) (z : ℕ) → length xs ≤ i → first_of o (sources_at slots (nums (drop i xs)) z) ≡ a → o ≡ a
sourced-all slots xs i o a z l h = sym (first_of-none o) ∙ ap (λ m. first_of o (sources_at slots (nums m) z)) (sym (drop_all i xs l)) ∙ h

-- ---- stacks of rows

pub on-stack-push : (vs : List Kept) (v : Kept) → on_stack (vs ++ v ∷ []) ≡ v.items ∷ on_stack vs
on-stack-push vs v = ap items_of (reverse-append vs (v ∷ []))

one-taken : (a : List ℕ) (b rs rest : List (List ℕ)) → a ∷ b ≡ rs ++ rest → length rs ≡ 1 → (rs ≡ a ∷ []) × (b ≡ rest)
one-taken a b [] rest e l = absurd (omega arith)
one-taken a b (r ∷ []) rest e l = let f : a ≡ r = cc in let g : b ≡ rest = cc in (ap (λ w. w ∷ []) (sym f), g)
one-taken a b (r ∷ s ∷ rs) rest e l = absurd (omega arith)

pub takes-one : (old new : List Kept) (v : Kept) → old ≡ new ++ v ∷ [] → Takes old new (λ rs. rs ≡ v.items ∷ []) 1
takes-one old new v e = record { taken = λ rs rest f l. one-taken v.items (on_stack new) rs rest (sym (on-stack-push new v) ∙ ap on_stack (sym e) ∙ f) l }

two-parts : (rs : List (List ℕ)) → length rs ≡ 2 → (a : List ℕ) × (b : List ℕ) × (rs ≡ a ∷ b ∷ [])
two-parts [] l = absurd (omega arith)
two-parts (a ∷ []) l = absurd (omega arith)
two-parts (a ∷ b ∷ []) l = (a, b, refl)
two-parts (a ∷ b ∷ c ∷ rs) l = absurd (omega arith)

pub takes-two : (old mid new : List Kept) (a b : List ℕ) → Takes old mid (λ rs. rs ≡ a ∷ []) 1 → Takes mid new (λ rs. rs ≡ b ∷ []) 1 → Takes old new (λ rs. rs ≡ a ∷ b ∷ []) 2
takes-two old mid new a b t u = record {
  taken = λ rs rest f l.
      let w = two-parts rs l in
      let first = t.taken (w.0 ∷ []) (w.1 ∷ rest) (f ∙ ap (λ r. r ++ rest) w.2) refl in
      let second = u.taken (w.1 ∷ []) rest first.1 refl in
      let p : w.0 ≡ a = let e = first.0 in cc in
      let q : w.1 ≡ b = let e = second.0 in cc in
      (w.2 ∙ ap (λ r. r ∷ w.1 ∷ []) p ∙ ap (λ r. a ∷ r ∷ []) q, second.1);
}

pub takes-as : (old new : List Kept) (P Q : List (List ℕ) → Type 0) (n m : ℕ) → n ≡ m → ((rs : List (List ℕ)) → P rs → Q rs) → Takes old new P n → Takes old new Q m
takes-as old new P Q n m e h t = record { taken = λ rs rest f l. let w = t.taken rs rest f (l ∙ sym e) in (h rs w.0, w.1) }

pub on-ok : {E : Type 0} (r : Result (Unit {0}) E) (P Q : Type 0) → (P → Q) → OnOk r P → OnOk r Q
on-ok (Ok u) P Q h p = h p
on-ok (Err e) P Q h p = tt
