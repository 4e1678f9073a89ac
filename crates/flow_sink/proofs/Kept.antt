-- A flow whose values are shared is well formed, and computes none again.
use Rattle.std.proofs.Common.{◌≡◌, ℕ, zero, suc, ◌-◌, Bool, true, false, not, nat_eq, ◌==◌, ◌&&◌, ◌||◌, nat_le, refl, sym, ap, subst, ◌∙◌, List, [], ◌∷◌, ◌++◌, ◌⊎◌, inl, inr, map, length, drop, Option, Some, None, slice_get, if◌then◌else◌, All, ◌+◌, ◌<◌, take, get_or}
use Rattle.std.specs.List.{list_all, list_any}
use Rattle.std.proofs.lemmas.Bool.{and_parts, and_from, or_from, false≢true}
use Rattle.std.proofs.lemmas.List.Elements.{All-nil, All-cons, All-push, All-drop, All-weaker}
use Rattle.nv_base.specs.declared.term.Primitive.{Primitive}
use Rattle.nv_base.specs.declared.term.Primitive.TheVariants.{Same, Una as UnaOf, Bin as BinOf}
use Rattle.nv_base.specs.Access.{is_known, all_known, is_primitive, can_move, is_address}
use Rattle.nv_base.specs.Sets.{is_in, all_different}
use Rattle.flow_ir.specs.Formed.{defined, takes_as_many, is_formed, is_label, is_entry, is_flow}
use Rattle.flow_ir.specs.Meaning.{flow_params}
use Rattle.flow_ir.specs.Tree.{Tree, Let, Read, Write, If, Jump, Halt, Label}
use Rattle.flow_ir.proofs.Members.{in-first, in-rest, in-right}
use Rattle.flow_sink.specs.inner.Above.{Entry, first, chosen, answer, shared, label_shared}
use Rattle.flow_sink.specs.Values.{same, near, is_operand, NoneAgain}
use Rattle.flow_ir.specs.View.{label_view}
use Rattle.flow_ir.specs.declared.flow.Label.{Label as FlowLabel}
use Rattle.std.proofs.lemmas.List.{map_more, map_push}
use Rattle.flow_sink.proofs.Prims.{found}

-- ---- formed

pub same_defined : (above : List Entry) (t : Tree) → defined (shared above t) ≡ defined t
same_defined above (Let x p t) = ap (λ l. x ∷ l) (same_defined (above ++ (p, x) ∷ []) t)
same_defined above (Read m xs a t) = ap (λ l. xs ++ l) (same_defined above t)
same_defined above (Write m a bs t) = same_defined above t
same_defined above (If c a b t u) = ap (λ l. l ++ defined (shared above u)) (same_defined above t) ∙ ap (λ l. defined t ++ l) (same_defined above u)
same_defined above (Jump l bs) = refl
same_defined above (Halt e bs) = refl

abbrev AreIn : List ℕ → List Entry → Type 0
AreIn known above = All (λ e. is_in e.1 known ≡ true) above

in_more : (known more : List ℕ) → ((y : ℕ) → is_in y known ≡ true → is_in y more ≡ true) → (above : List Entry) → AreIn known above → AreIn more above
in_more known more h above a = All-weaker (λ e. is_in e.1 known ≡ true) (λ e. is_in e.1 more ≡ true) (λ e i. h e.1 i) above a

answer_known : (known : List ℕ) (above : List Entry) (p : Primitive) → AreIn known above → is_primitive known p ≡ true → is_primitive known (answer above p) ≡ true
answer_known known above p a e = at (first (near above) p) refl
  where
    at : (o : Option ℕ) → first (near above) p ≡ o → is_primitive known (chosen o p) ≡ true
    at (Some y) f =
        let k = found (λ e. is_in e.1 known ≡ true) (near above) p y f (All-drop (λ e. is_in e.1 known ≡ true) (length above - 256) above a) in
        subst (λ z. is_in z known ≡ true) k.variable k.holds
    at None f = e

module _ (labels labels' : List Label) (heads : (n i : ℕ) → takes_as_many n (slice_get labels' i) ≡ takes_as_many n (slice_get labels i)) where
  formed : (t : Tree) (above : List Entry) (known : List ℕ) → AreIn known above → is_formed labels known t ≡ true → is_formed labels' known (shared above t) ≡ true
  formed (Let x p t) above known a e =
      let parts = and_parts (is_primitive known p) (is_formed labels (x ∷ known) t) e in
      and_from (is_primitive known (answer above p)) (is_formed labels' (x ∷ known) (shared (above ++ (p, x) ∷ []) t)) (answer_known known above p a parts.0)
      (formed t (above ++ (p, x) ∷ []) (x ∷ known) (All-push (λ e. is_in e.1 (x ∷ known) ≡ true) above (p, x) (in_more known (x ∷ known) (λ y i. in-rest y x known i) above a) (in-first x known)) parts.1)
  formed (Read m xs q t) above known a e =
      let one = and_parts (is_known known q) (can_move m (length xs) && (is_address m q (length xs) && is_formed labels (xs ++ known) t)) e in
      let two = and_parts (can_move m (length xs)) (is_address m q (length xs) && is_formed labels (xs ++ known) t) one.1 in
      let three = and_parts (is_address m q (length xs)) (is_formed labels (xs ++ known) t) two.1 in
      let rest = formed t above (xs ++ known) (in_more known (xs ++ known) (λ y i. in-right y xs known i) above a) three.1 in
      and_from (is_known known q) _ one.0 (and_from (can_move m (length xs)) _ two.0 (and_from (is_address m q (length xs)) _ three.0 rest))
  formed (Write m q bs t) above known a e =
      let one = and_parts (is_known known q) (all_known known bs && (can_move m (length bs) && (is_address m q (length bs) && is_formed labels known t))) e in
      let two = and_parts (all_known known bs) (can_move m (length bs) && (is_address m q (length bs) && is_formed labels known t)) one.1 in
      let three = and_parts (can_move m (length bs)) (is_address m q (length bs) && is_formed labels known t) two.1 in
      let four = and_parts (is_address m q (length bs)) (is_formed labels known t) three.1 in
      let rest = formed t above known a four.1 in
      and_from (is_known known q) _ one.0 (and_from (all_known known bs) _ two.0 (and_from (can_move m (length bs)) _ three.0 (and_from (is_address m q (length bs)) _ four.0 rest)))
  formed (If c p q t u) above known a e =
      let one = and_parts (is_known known p) (is_known known q && (is_formed labels known t && is_formed labels known u)) e in
      let two = and_parts (is_known known q) (is_formed labels known t && is_formed labels known u) one.1 in
      let three = and_parts (is_formed labels known t) (is_formed labels known u) two.1 in
      and_from (is_known known p) _ one.0 (and_from (is_known known q) _ two.0 (and_from (is_formed labels' known (shared above t)) _ (formed t above known a three.0) (formed u above known a three.1)))
  formed (Jump l bs) above known a e =
      let one = and_parts (all_known known bs) (nat_le 1 l && takes_as_many (length bs) (slice_get labels l)) e in
      let two = and_parts (nat_le 1 l) (takes_as_many (length bs) (slice_get labels l)) one.1 in
      and_from (all_known known bs) _ one.0 (and_from (nat_le 1 l) _ two.0 (heads (length bs) l ∙ two.1))
  formed (Halt n bs) above known a e = e

  labels_formed : (ls : List Label) → list_all (is_label labels) ls ≡ true → list_all (is_label labels') (map label_shared ls) ≡ true
  labels_formed [] e = refl
  labels_formed (l ∷ ls) e =
      let parts = and_parts (is_label labels l) (list_all (is_label labels) ls) e in
      let one = and_parts (is_formed labels l.params l.body) (all_different (l.params ++ defined l.body)) parts.0 in
      and_from (is_label labels' (label_shared l)) (list_all (is_label labels') (map label_shared ls))
      (and_from (is_formed labels' l.params (shared [] l.body)) (all_different (l.params ++ defined (shared [] l.body))) (formed l.body [] l.params (All-nil (λ e. is_in e.1 l.params ≡ true)) one.0)
      (ap (λ d. all_different (l.params ++ d)) (same_defined [] l.body) ∙ one.1))
      (labels_formed ls parts.1)

same_heads : (ls : List Label) (n i : ℕ) → takes_as_many n (slice_get (map label_shared ls) i) ≡ takes_as_many n (slice_get ls i)
same_heads [] n i = refl
same_heads (l ∷ ls) n zero = refl
same_heads (l ∷ ls) n (suc i) = same_heads ls n i

same_entry : (ls : List Label) → is_entry (slice_get (map label_shared ls) 0) ≡ is_entry (slice_get ls 0)
same_entry [] = refl
same_entry (l ∷ ls) = refl

pub flow_formed : (ls : List Label) → is_flow ls ≡ true → is_flow (map label_shared ls) ≡ true
flow_formed ls e =
    let parts = and_parts (list_all (is_label ls) ls) (is_entry (slice_get ls 0)) e in
    and_from (list_all (is_label (map label_shared ls)) (map label_shared ls)) (is_entry (slice_get (map label_shared ls) 0)) (labels_formed ls (map label_shared ls) (same_heads ls) ls parts.0) (same_entry ls ∙ parts.1)

pub same_params : (ls : List Label) → flow_params (map label_shared ls) ≡ flow_params ls
same_params [] = refl
same_params (l ∷ ls) = refl

-- ---- none is computed again

-- what stands in the place of each entry: its primitive, or just an operand
abbrev pub Stand : List Primitive → List Entry → Type 0
Stand [] [] = Unit {0}
Stand [] (e ∷ es) = ⊥
Stand (q ∷ qs) [] = ⊥
Stand (q ∷ qs) (e ∷ es) = ((is_operand q ≡ true) ⊎ (q ≡ e.0)) × Stand qs es

stand_push : (qs : List Primitive) (es : List Entry) (q : Primitive) (e : Entry) → Stand qs es → (is_operand q ≡ true) ⊎ (q ≡ e.0) → Stand (qs ++ q ∷ []) (es ++ e ∷ [])
stand_push [] [] q e h s = (s, tt)
stand_push [] (k ∷ es) q e h s = absurd h
stand_push (r ∷ qs) [] q e h s = absurd h
stand_push (r ∷ qs) (k ∷ es) q e h s = (h.0, stand_push qs es q e h.1 s)

stand_drop : (n : ℕ) (qs : List Primitive) (es : List Entry) → Stand qs es → Stand (drop n qs) (drop n es)
stand_drop zero qs es h = h
stand_drop (suc n) [] [] h = h
stand_drop (suc n) [] (e ∷ es) h = absurd h
stand_drop (suc n) (q ∷ qs) [] h = absurd h
stand_drop (suc n) (q ∷ qs) (e ∷ es) h = stand_drop n qs es h.1

stand_length : (qs : List Primitive) (es : List Entry) → Stand qs es → length qs ≡ length es
stand_length [] [] h = refl
stand_length [] (e ∷ es) h = absurd h
stand_length (q ∷ qs) [] h = absurd h
stand_length (q ∷ qs) (e ∷ es) h = ap suc (stand_length qs es h.1)

other_kind : (q p : Primitive) → is_operand q ≡ true → is_operand p ≡ false → same q p ≡ false
other_kind (Same a) (Same b) e f = absurd (false≢true (sym f))
other_kind (Same a) (UnaOf op b) e f = refl
other_kind (Same a) (BinOf op b c) e f = refl
other_kind (UnaOf op a) p e f = absurd (false≢true e)
other_kind (BinOf op a b) p e f = absurd (false≢true e)

none_same : (qs : List Primitive) (es : List Entry) (p : Primitive) → Stand qs es → is_operand p ≡ false → first es p ≡ None → list_any (λ q. same q p) qs ≡ false
none_same [] [] p h f e = refl
none_same [] (k ∷ es) p h f e = absurd h
none_same (q ∷ qs) [] p h f e = absurd h
none_same (q ∷ qs) (k ∷ es) p h f e = at (same k.0 p) refl e (λ g. none_same qs es p h.1 f g)
  where
    at : (b : Bool) → same k.0 p ≡ b → (if b then Some k.1 else first es p) ≡ None → (first es p ≡ None → list_any (λ r. same r p) qs ≡ false) → list_any (λ r. same r p) (q ∷ qs) ≡ false
    at true s g rest = absurd (false≢true (sym (ap (λ (o : Option ℕ). elim o [ Some n ↦ true | None ↦ false ]) g)))
    at false s g rest = or_from (same q p) (list_any (λ r. same r p) qs) (elim h.0 [ inl i ↦ other_kind q p i f | inr i ↦ ap (λ r. same r p) i ∙ s ]) (rest g)

kind : {C : Type 0} (p : Primitive) → (is_operand p ≡ true → C) → (is_operand p ≡ false → C) → C
kind (Same a) f g = f refl
kind (UnaOf op a) f g = g refl
kind (BinOf op a b) f g = g refl

pub none_again : (t : Tree) (qs : List Primitive) (es : List Entry) → Stand qs es → NoneAgain qs (shared es t)
none_again (Let x p t) qs es h =
    (at (first (near es) p) refl, none_again t (qs ++ answer es p ∷ []) (es ++ (p, x) ∷ []) (stand_push qs es (answer es p) (p, x) h (is (first (near es) p))))
  where
    is : (o : Option ℕ) → (is_operand (chosen o p) ≡ true) ⊎ (chosen o p ≡ p)
    is (Some y) = inl refl
    is None = inr refl

    at : (o : Option ℕ) → first (near es) p ≡ o → (is_operand (chosen o p) ≡ true) ⊎ (list_any (λ q. same q (chosen o p)) (near qs) ≡ false)
    at (Some y) e = inl refl
    at None e =
        kind p (λ i. inl i)
        (λ i. inr (ap (λ n. list_any (λ q. same q p) (drop (n - 256) qs)) (stand_length qs es h) ∙ none_same (drop (length es - 256) qs) (near es) p (stand_drop (length es - 256) qs es h) i e))
none_again (Read m xs a t) qs es h = none_again t qs es h
none_again (Write m a bs t) qs es h = none_again t qs es h
none_again (If c a b t u) qs es h = (none_again t qs es h, none_again u qs es h)
none_again (Jump l bs) qs es h = tt
none_again (Halt e bs) qs es h = tt

pub all_none_again : (ls : List Label) → All (λ l. NoneAgain [] l.body) (map label_shared ls)
all_none_again [] = All-nil (λ l. NoneAgain [] l.body)
all_none_again (l ∷ ls) = All-cons (λ m. NoneAgain [] m.body) (label_shared l) (map label_shared ls) (none_again l.body [] [] tt) (all_none_again ls)

-- ---- labels

pub labels_at : (xs ys zs : List FlowLabel) → map label_view zs ≡ map label_shared (map label_view xs) → xs ≡ ys → map label_view zs ≡ map label_shared (map label_view ys)
labels_at xs ys zs h e = h ∙ ap (λ l. map label_shared (map label_view l)) e

pub shared_next : (labels : List FlowLabel) (i : ℕ) (d l m : FlowLabel) (ms ms' : List FlowLabel) → i < length labels → l ≡ get_or labels i d → map label_view ms ≡ map label_shared (map label_view (take i labels)) → label_view m ≡ label_shared (label_view l) → ms' ≡ ms ++ m ∷ []
    → map label_view ms' ≡ map label_shared (map label_view (take (i + 1) labels))
shared_next labels i d l m ms ms' lt e h one push =
    let front : map label_view (take (i + 1) labels) ≡ map label_view (take i labels) ++ label_view l ∷ [] = map_more label_view labels i d lt ∙ ap (λ v. map label_view (take i labels) ++ label_view v ∷ []) (sym e) in
    ap (map label_view) push ∙ map_push label_view ms m ∙ ap (λ v. v ++ label_view m ∷ []) h ∙ ap (λ v. map label_shared (map label_view (take i labels)) ++ v ∷ []) one
    ∙ sym (ap (map label_shared) front ∙ map_push label_shared (map label_view (take i labels)) (label_view l))
