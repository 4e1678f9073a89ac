-- Where each parameter has a rank, each is wanted.
use Rattle.std.proofs.Common.{◌≡◌, ◌↔◌, ℕ, zero, suc, ◌+◌, ◌<◌, ◌≤◌, nat_le, Bool, true, false, ◌&&◌, List, [], ◌∷◌, ◌++◌, Option, Some, None, map, refl, sym, ap, subst, ◌∙◌, length, slice_get, slice_index_or, get_or, arith, ⊎_elim}
use Rattle.std.specs.List.{list_all}
use Rattle.std.specs.declared.vec.Vec.{Vec}
use Rattle.std.specs.declared.alloc.Global.{Global}
use Rattle.std.proofs.lemmas.Bool.{and_parts, false≢true, eqb-true}
use Rattle.std.proofs.lemmas.Bool.Decides.{nat_tests}
use Rattle.std.proofs.lemmas.Option.{none-some, same_Some, slice_get_within, slice_get-get_or}
use Rattle.nv_base.specs.declared.term.Atom.TheVariants.{Var}
use Rattle.nv_base.specs.Sets.{all_different}
use Rattle.nv_base.specs.Access.{is_known, all_known, is_primitive, can_move, is_address}
use Rattle.flow_ir.specs.Tree.{Tree, Let, Read, Write, If, Jump, Halt, Label}
use Rattle.flow_ir.specs.Formed.{defined, is_formed, is_label, is_entry, is_flow, takes_as_many}
use Rattle.flow_ir.specs.View.{label_view}
use Rattle.flow_ir.specs.declared.flow.Label.{Label as FlowLabel}
use Rattle.flow_merge.specs.Wanted.{HandsOn, IsWanted, used_there, handed_on, AllWanted}
use Rattle.flow_merge.specs.inner.Pruned.{row_of}
use Rattle.flow_merge.specs.inner.Ranked.{rank_at, IsFound, IsRanked, AreRanked}

-- ---- where words are handed on to

pub record Target (labels : List Label) (k j : ℕ) : Type 0 where
  pub first : 1 ≤ k
  pub label : Label
  pub at : slice_get labels k ≡ Some label
  pub param : ℕ
  pub named : slice_get label.params j ≡ Some param

there : (xs : List ℕ) (j : ℕ) → j < length xs → (y : ℕ) × (slice_get xs j ≡ Some y)
there [] j lt = absurd (omega arith)
there (x ∷ xs) zero lt = (x, refl)
there (x ∷ xs) (suc j) lt = there xs j (omega arith)

target_of : (labels : List Label) (l j n : ℕ) (o : Option Label) → slice_get labels l ≡ o → takes_as_many n o ≡ true → j < n → 1 ≤ l → Target labels l j
target_of labels l j n (Some m) at takes lt one =
    let many = eqb-true (length m.params) n takes in
    let p = there m.params j (omega (arith, many, lt)) in
    record { first = one; label = m; at = at; param = p.0; named = p.1 }
target_of labels l j n None at takes lt one = absurd (false≢true takes)

hands_target : (labels : List Label) (known : List ℕ) (x k j : ℕ) (t : Tree) → is_formed labels known t ≡ true → HandsOn x k j t → Target labels k j
hands_target labels known x k j (Let y p t) e h = hands_target labels (y ∷ known) x k j t (and_parts (is_primitive known p) (is_formed labels (y ∷ known) t) e).1 h
hands_target labels known x k j (Read m ys a t) e h =
    let p1 = and_parts (is_known known a) (can_move m (length ys) && (is_address m a (length ys) && is_formed labels (ys ++ known) t)) e in
    let p2 = and_parts (can_move m (length ys)) (is_address m a (length ys) && is_formed labels (ys ++ known) t) p1.1 in
    hands_target labels (ys ++ known) x k j t (and_parts (is_address m a (length ys)) (is_formed labels (ys ++ known) t) p2.1).1 h
hands_target labels known x k j (Write m a bs t) e h =
    let p1 = and_parts (is_known known a) (all_known known bs && (can_move m (length bs) && (is_address m a (length bs) && is_formed labels known t))) e in
    let p2 = and_parts (all_known known bs) (can_move m (length bs) && (is_address m a (length bs) && is_formed labels known t)) p1.1 in
    let p3 = and_parts (can_move m (length bs)) (is_address m a (length bs) && is_formed labels known t) p2.1 in
    hands_target labels known x k j t (and_parts (is_address m a (length bs)) (is_formed labels known t) p3.1).1 h
hands_target labels known x k j (If c a b t u) e h =
    let p1 = and_parts (is_known known a) (is_known known b && (is_formed labels known t && is_formed labels known u)) e in
    let p2 = and_parts (is_known known b) (is_formed labels known t && is_formed labels known u) p1.1 in
    let p3 = and_parts (is_formed labels known t) (is_formed labels known u) p2.1 in
    ⊎_elim (λ i. hands_target labels known x k j t p3.0 i) (λ i. hands_target labels known x k j u p3.1 i) h
hands_target labels known x k j (Jump l bs) e h =
    let p1 = and_parts (all_known known bs) (nat_le 1 l && takes_as_many (length bs) (slice_get labels l)) e in
    let p2 = and_parts (nat_le 1 l) (takes_as_many (length bs) (slice_get labels l)) p1.1 in
    subst (λ z. Target labels z j) h.0 (target_of labels l j (length bs) (slice_get labels l) refl p2.1 (slice_get_within bs j (Var x) h.1) (one_or_more l p2.0))
  where
    one_or_more : (l : ℕ) → nat_le 1 l ≡ true → 1 ≤ l
    one_or_more l e = grind (arith, nat_tests)
hands_target labels known x k j (Halt n bs) e h = absurd h

-- ---- ranks

label_formed : (labels ls : List Label) (i : ℕ) (m : Label) → list_all (is_label labels) ls ≡ true → slice_get ls i ≡ Some m → is_formed labels m.params m.body ≡ true
label_formed labels [] i m e at = absurd (none-some m at)
label_formed labels (l ∷ ls) zero m e at =
    let l_is = subst (λ k. is_label labels k ≡ true) (same_Some l m at) (and_parts (is_label labels l) (list_all (is_label labels) ls) e).0 in (and_parts (is_formed labels m.params m.body) (all_different (m.params ++ defined m.body)) l_is).0
label_formed labels (l ∷ ls) (suc i) m e at = label_formed labels ls i m (and_parts (is_label labels l) (list_all (is_label labels) ls) e).1 at

module _ (ranks : List (Vec ℕ Global)) (labels : List Label) (formed : is_flow labels ≡ true) (ranked : AreRanked ranks labels) where
  wanted_below : (b l j x : ℕ) (m : Label) → rank_at ranks l j < b → 1 ≤ l → slice_get labels l ≡ Some m → slice_get m.params j ≡ Some x → IsWanted labels l x
  wanted_below zero l j x m lt one at named = absurd (omega arith)
  wanted_below (suc b) l j x m lt one at named =
      ⊎_elim (λ i. used_there l x m at i)
      (λ h.
      let t = hands_target labels m.params x h.0 h.1 m.body (label_formed labels labels l m (and_parts (list_all (is_label labels) labels) (is_entry (slice_get labels 0)) formed).0 at) h.2 in
      let less = h.3 in
      handed_on l x h.0 h.1 t.param m t.label at h.2 t.at t.named (wanted_below b h.0 h.1 t.param t.label (omega arith) t.first t.at t.named))
      (ranked l m one at j x named)

  pub all_wanted : AllWanted labels
  all_wanted = λ l j x m one at named. let lt : rank_at ranks l j < suc (rank_at ranks l j) = omega arith in wanted_below (suc (rank_at ranks l j)) l j x m lt one at named

pub wanted_at : (ranks : List (Vec ℕ Global)) (xs : List FlowLabel) (ls : List Label) → is_flow ls ≡ true → AreRanked ranks (map label_view xs) → map label_view xs ≡ ls → AllWanted ls
wanted_at ranks xs ls formed ranked e = all_wanted ranks ls formed (subst (AreRanked ranks) e ranked)

-- ---- loops

pub rank_none : (ranks : List (Vec ℕ Global)) (l j : ℕ) → slice_get ranks l ≡ None → 0 ≡ rank_at ranks l j
rank_none ranks l j e = sym (ap (λ o. slice_index_or (row_of o) j 0) e)

-- the parameters in front of one
abbrev pub RankedTo : List (Vec ℕ Global) → ℕ → FlowLabel → ℕ → Type 0
RankedTo ranks l m i = (j x : ℕ) → j < i → slice_get m.params.items j ≡ Some x → IsFound ranks (rank_at ranks l j) x (label_view m).body

earlier_or_last : {C : Type 0} (j i : ℕ) → j < i + 1 → (j < i → C) → (j ≡ i → C) → C
earlier_or_last zero zero lt f g = g refl
earlier_or_last zero (suc i) lt f g = f (omega arith)
earlier_or_last (suc j) zero lt f g = absurd (omega arith)
earlier_or_last (suc j) (suc i) lt f g = earlier_or_last j i (omega arith) (λ less. f (omega arith)) (λ e. g (ap suc e))

same_item : {X : Type 0} (xs : List X) (i : ℕ) (x y d : X) → slice_get xs i ≡ Some x → y ≡ get_or xs i d → x ≡ y
same_item [] i x y d at is = absurd (none-some x at)
same_item (z ∷ xs) zero x y d at is = sym (same_Some z x at) ∙ sym is
same_item (z ∷ xs) (suc i) x y d at is = same_item xs i x y d at is

pub ranked_more : (ranks : List (Vec ℕ Global)) (l : ℕ) (m : FlowLabel) (i y d r : ℕ) (b : Bool) → y ≡ get_or m.params.items i d → r ≡ rank_at ranks l i → b ≡ true ↔ IsFound ranks r y (label_view m).body → b ≡ true → RankedTo ranks l m i → RankedTo ranks l m (i + 1)
ranked_more ranks l m i y d r b is er found holds h =
    λ j x lt at.
    earlier_or_last j i lt (λ less. h j x less at)
    (λ e.
    let item : slice_get m.params.items i ≡ Some x = sym (ap (slice_get m.params.items) e) ∙ at in
    subst (λ z. IsFound ranks (rank_at ranks l z) x (label_view m).body) (sym e) (subst (λ z. IsFound ranks z x (label_view m).body) er (subst (λ z. IsFound ranks r z (label_view m).body) (sym (same_item m.params.items i x y d item is)) (found.0 holds))))

-- a parameter for which nothing is found
pub not_ranked : (ranks : List (Vec ℕ Global)) (l : ℕ) (m : FlowLabel) (i y d r : ℕ) (b : Bool) → 1 ≤ l → i < length m.params.items → y ≡ get_or m.params.items i d → r ≡ rank_at ranks l i → b ≡ true ↔ IsFound ranks r y (label_view m).body → b ≡ false → false ≡ true ↔ (1 ≤ l → IsRanked ranks l (label_view m))
not_ranked ranks l m i y d r b one lt is er found fails = (
  λ e. absurd (false≢true e),
  λ h. absurd (false≢true (sym fails ∙ found.1 (subst (λ z. IsFound ranks z y (label_view m).body) (sym er) (h one i y (slice_get-get_or m.params.items i d lt ∙ ap Some (sym is)))))),
)

pub all_params_ranked : (ranks : List (Vec ℕ Global)) (l i : ℕ) (m : FlowLabel) → length m.params.items ≤ i → RankedTo ranks l m i → true ≡ true ↔ (1 ≤ l → IsRanked ranks l (label_view m))
all_params_ranked ranks l i m le h = (λ e one j x at. let less = slice_get_within m.params.items j x at in h j x (omega arith) at, λ k. refl)

pub first_ranked : (ranks : List (Vec ℕ Global)) (l : ℕ) (m : FlowLabel) → l ≡ 0 → true ≡ true ↔ (1 ≤ l → IsRanked ranks l (label_view m))
first_ranked ranks l m e = (λ t one. absurd (omega arith), λ k. refl)

-- the labels in front of one
abbrev pub AllRankedTo : List (Vec ℕ Global) → List FlowLabel → ℕ → Type 0
AllRankedTo ranks labels i = (l : ℕ) (m : FlowLabel) → l < i → 1 ≤ l → slice_get labels l ≡ Some m → IsRanked ranks l (label_view m)

pub labels_more : (ranks : List (Vec ℕ Global)) (labels : List FlowLabel) (i : ℕ) (y d : FlowLabel) → y ≡ get_or labels i d → (1 ≤ i → IsRanked ranks i (label_view y)) → AllRankedTo ranks labels i → AllRankedTo ranks labels (i + 1)
labels_more ranks labels i y d is found h =
    λ l m lt one at.
    earlier_or_last l i lt (λ less. h l m less one at)
    (λ e.
    let item : slice_get labels i ≡ Some m = sym (ap (slice_get labels) e) ∙ at in
    subst (λ z. IsRanked ranks z (label_view m)) (sym e) (subst (λ z. IsRanked ranks i (label_view z)) (sym (same_item labels i m y d item is)) (found (subst (λ z. 1 ≤ z) e one))))

viewed_back : (ls : List FlowLabel) (i : ℕ) (m : Label) → slice_get (map label_view ls) i ≡ Some m → (l : FlowLabel) × (slice_get ls i ≡ Some l) × (m ≡ label_view l)
viewed_back [] i m at = absurd (none-some m at)
viewed_back (l ∷ ls) zero m at = (l, refl, sym (same_Some (label_view l) m at))
viewed_back (l ∷ ls) (suc i) m at = viewed_back ls i m at

pub labels_ranked : (ranks : List (Vec ℕ Global)) (labels : List FlowLabel) (i : ℕ) → length labels ≤ i → AllRankedTo ranks labels i → AreRanked ranks (map label_view labels)
labels_ranked ranks labels i le h =
    λ l m one at.
    let v = viewed_back labels l m at in
    let lt : l < i = let less = slice_get_within labels l v.0 v.1 in omega arith in
    subst (IsRanked ranks l) (sym v.2) (h l v.0 lt one v.1)

viewed : (ls : List FlowLabel) (i : ℕ) (l : FlowLabel) → slice_get ls i ≡ Some l → slice_get (map label_view ls) i ≡ Some (label_view l)
viewed [] i l at = absurd (none-some l at)
viewed (k ∷ ls) zero l at = ap (λ z. Some (label_view z)) (same_Some k l at)
viewed (k ∷ ls) (suc i) l at = viewed ls i l at

pub all_labels_ranked : (ranks : List (Vec ℕ Global)) (labels : List FlowLabel) (i : ℕ) → length labels ≤ i → AllRankedTo ranks labels i → true ≡ true ↔ AreRanked ranks (map label_view labels)
all_labels_ranked ranks labels i le h = (λ e. labels_ranked ranks labels i le h, λ k. refl)

-- a label that isn't ranked
pub not_all_ranked : (ranks : List (Vec ℕ Global)) (labels : List FlowLabel) (i : ℕ) (y d : FlowLabel) (b : Bool) → i < length labels → y ≡ get_or labels i d → b ≡ true ↔ (1 ≤ i → IsRanked ranks i (label_view y)) → b ≡ false → false ≡ true ↔ AreRanked ranks (map label_view labels)
not_all_ranked ranks labels i y d b lt is found fails = (
  λ e. absurd (false≢true e),
  λ h. absurd (false≢true (sym fails ∙ found.1 (λ one. h i (label_view y) one (viewed labels i y (slice_get-get_or labels i d lt ∙ ap Some (sym is)))))),
)
