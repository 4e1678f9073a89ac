-- A flow whose decided choices are made is well formed, and has none that is decided.
use Rattle.std.proofs.Common.{◌≡◌, ℕ, zero, suc, Bool, true, false, nat_le, ◌&&◌, refl, sym, ap, ◌∙◌, List, [], ◌∷◌, ◌++◌, map, length, Option, Some, None, slice_get, All, ◌+◌, ◌<◌, take, get_or}
use Rattle.std.specs.List.{list_all}
use Rattle.std.proofs.lemmas.Bool.{and_parts, and_from, false≢true}
use Rattle.std.proofs.lemmas.List.{map_more, map_push}
use Rattle.std.proofs.lemmas.List.Elements.{All-nil, All-cons}
use Rattle.nv_base.specs.declared.term.Atom.{Atom}
use Rattle.nv_base.specs.declared.term.Cmp.{Cmp}
use Rattle.nv_base.specs.Access.{is_known, all_known, is_primitive, can_move, is_address}
use Rattle.nv_base.specs.Sets.{is_in, all_different, Within}
use Rattle.nv_base.specs.Words.{negated}
use Rattle.flow_ir.specs.Formed.{defined as of_tree, takes_as_many, is_formed, is_label, is_entry, is_flow}
use Rattle.flow_ir.specs.Meaning.{flow_params}
use Rattle.flow_ir.specs.Tree.{Tree, Let, Read, Write, If, Jump, Halt, Label}
use Rattle.flow_ir.specs.View.{label_view}
use Rattle.flow_ir.specs.declared.flow.Label.{Label as FlowLabel}
use Rattle.flow_ir.proofs.Members.{in-left, in-right, either, different-parts, different-join}
use Rattle.flow_paths.specs.declared.facts.Fact.{Fact}
use Rattle.flow_paths.specs.Decided.{decided, told, accessed, defined, NoneDecided}
use Rattle.flow_paths.specs.inner.Walked.{chosen, walked, label_walked}

-- ---- formed

-- what is defined was so, and each once
pub record Fewer (xs ys : List ℕ) : Type 0 where
  pub within : Within xs ys
  pub different : all_different xs ≡ true

same_fewer : (xs : List ℕ) → all_different xs ≡ true → Fewer xs xs
same_fewer xs e = record { within = λ y i. i; different = e }

-- others stand before them
fewer_behind : (zs xs ys : List ℕ) → all_different (zs ++ ys) ≡ true → (all_different ys ≡ true → Fewer xs ys) → Fewer (zs ++ xs) (zs ++ ys)
fewer_behind zs xs ys e h =
    let parts = different-parts zs ys e in
    let f = h parts.1 in
    record {
      within = λ y i. either y zs xs i (λ p. in-left y zs ys p) (λ p. in-right y zs ys (f.within y p));
      different = different-join zs xs parts.0 f.different (λ y i. out_of y (parts.2 y i) f.within);
    }
  where
    out_of : (y : ℕ) → is_in y ys ≡ false → Within xs ys → is_in y xs ≡ false
    out_of y o w = at (is_in y xs) refl
      where
        at : (b : Bool) → is_in y xs ≡ b → is_in y xs ≡ false
        at false i = i
        at true i = absurd (false≢true (sym o ∙ w y i))

fewer_trans : (xs ys zs : List ℕ) → Fewer xs ys → Within ys zs → Fewer xs zs
fewer_trans xs ys zs f w = record { within = λ y i. w y (f.within y i); different = f.different }

fewer_both : (xs ys xs' ys' : List ℕ) → all_different (xs ++ ys) ≡ true → Fewer xs' xs → Fewer ys' ys → Fewer (xs' ++ ys') (xs ++ ys)
fewer_both xs ys xs' ys' e f g =
    let parts = different-parts xs ys e in
    record {
      within = λ y i. either y xs' ys' i (λ p. in-left y xs ys (f.within y p)) (λ p. in-right y xs ys (g.within y p));
      different = different-join xs' ys' f.different g.different (λ y i. out_of y (parts.2 y (f.within y i)) g.within);
    }
  where
    out_of : (y : ℕ) → is_in y ys ≡ false → Within ys' ys → is_in y ys' ≡ false
    out_of y o w = at (is_in y ys') refl
      where
        at : (b : Bool) → is_in y ys' ≡ b → is_in y ys' ≡ false
        at false i = i
        at true i = absurd (false≢true (sym o ∙ w y i))

fewer_arms : (o : Option Bool) (c : Cmp) (a b : Atom) (t u t' u' t'' u'' : Tree) → all_different (of_tree t ++ of_tree u) ≡ true → Fewer (of_tree t') (of_tree t) → Fewer (of_tree u') (of_tree u) → Fewer (of_tree t'') (of_tree t) → Fewer (of_tree u'') (of_tree u)
    → Fewer (of_tree (chosen o t' u' (If c a b t'' u''))) (of_tree t ++ of_tree u)
fewer_arms (Some true) c a b t u t' u' t'' u'' e f g h k = fewer_trans (of_tree t') (of_tree t) (of_tree t ++ of_tree u) f (λ y i. in-left y (of_tree t) (of_tree u) i)
fewer_arms (Some false) c a b t u t' u' t'' u'' e f g h k = fewer_trans (of_tree u') (of_tree u) (of_tree t ++ of_tree u) g (λ y i. in-right y (of_tree t) (of_tree u) i)
fewer_arms None c a b t u t' u' t'' u'' e f g h k = fewer_both (of_tree t) (of_tree u) (of_tree t'') (of_tree u'') e h k

fewer : (above : List Fact) (t : Tree) → all_different (of_tree t) ≡ true → Fewer (of_tree (walked above t)) (of_tree t)
fewer above (Let x p t) e = fewer_behind (x ∷ []) (of_tree (walked (above ++ defined above x p) t)) (of_tree t) e (fewer (above ++ defined above x p) t)
fewer above (Read m xs a t) e = fewer_behind xs (of_tree (walked (above ++ accessed a) t)) (of_tree t) e (fewer (above ++ accessed a) t)
fewer above (Write m a bs t) e = fewer (above ++ accessed a) t e
fewer above (If c a b t u) e =
    let parts = different-parts (of_tree t) (of_tree u) e in
    let first = above ++ told above c a b in
    let second = above ++ told above (negated c) a b in
    fewer_arms (decided above c a b) c a b t u (walked above t) (walked above u) (walked first t) (walked second u) e (fewer above t parts.0) (fewer above u parts.1) (fewer first t parts.0) (fewer second u parts.1)
fewer above (Jump l bs) e = same_fewer [] refl
fewer above (Halt n bs) e = same_fewer [] refl

module _ (labels labels' : List Label) (heads : (n i : ℕ) → takes_as_many n (slice_get labels' i) ≡ takes_as_many n (slice_get labels i)) where
  formed_arms : (o : Option Bool) (c : Cmp) (p q : Atom) (t' u' t'' u'' : Tree) (known : List ℕ) → is_known known p ≡ true → is_known known q ≡ true → is_formed labels' known t' ≡ true → is_formed labels' known u' ≡ true → is_formed labels' known t'' ≡ true → is_formed labels' known u'' ≡ true
      → is_formed labels' known (chosen o t' u' (If c p q t'' u'')) ≡ true
  formed_arms (Some true) c p q t' u' t'' u'' known f g h k l m = h
  formed_arms (Some false) c p q t' u' t'' u'' known f g h k l m = k
  formed_arms None c p q t' u' t'' u'' known f g h k l m = and_from (is_known known p) _ f (and_from (is_known known q) _ g (and_from (is_formed labels' known t'') (is_formed labels' known u'') l m))

  formed : (t : Tree) (above : List Fact) (known : List ℕ) → is_formed labels known t ≡ true → is_formed labels' known (walked above t) ≡ true
  formed (Let x p t) above known e =
      let parts = and_parts (is_primitive known p) (is_formed labels (x ∷ known) t) e in
      and_from (is_primitive known p) (is_formed labels' (x ∷ known) (walked (above ++ defined above x p) t)) parts.0 (formed t (above ++ defined above x p) (x ∷ known) parts.1)
  formed (Read m xs q t) above known e =
      let one = and_parts (is_known known q) (can_move m (length xs) && (is_address m q (length xs) && is_formed labels (xs ++ known) t)) e in
      let two = and_parts (can_move m (length xs)) (is_address m q (length xs) && is_formed labels (xs ++ known) t) one.1 in
      let three = and_parts (is_address m q (length xs)) (is_formed labels (xs ++ known) t) two.1 in
      let rest = formed t (above ++ accessed q) (xs ++ known) three.1 in
      and_from (is_known known q) _ one.0 (and_from (can_move m (length xs)) _ two.0 (and_from (is_address m q (length xs)) _ three.0 rest))
  formed (Write m q bs t) above known e =
      let one = and_parts (is_known known q) (all_known known bs && (can_move m (length bs) && (is_address m q (length bs) && is_formed labels known t))) e in
      let two = and_parts (all_known known bs) (can_move m (length bs) && (is_address m q (length bs) && is_formed labels known t)) one.1 in
      let three = and_parts (can_move m (length bs)) (is_address m q (length bs) && is_formed labels known t) two.1 in
      let four = and_parts (is_address m q (length bs)) (is_formed labels known t) three.1 in
      let rest = formed t (above ++ accessed q) known four.1 in
      and_from (is_known known q) _ one.0 (and_from (all_known known bs) _ two.0 (and_from (can_move m (length bs)) _ three.0 (and_from (is_address m q (length bs)) _ four.0 rest)))
  formed (If c p q t u) above known e =
      let one = and_parts (is_known known p) (is_known known q && (is_formed labels known t && is_formed labels known u)) e in
      let two = and_parts (is_known known q) (is_formed labels known t && is_formed labels known u) one.1 in
      let three = and_parts (is_formed labels known t) (is_formed labels known u) two.1 in
      let first = above ++ told above c p q in
      let second = above ++ told above (negated c) p q in
      formed_arms (decided above c p q) c p q (walked above t) (walked above u) (walked first t) (walked second u) known one.0 two.0 (formed t above known three.0) (formed u above known three.1) (formed t first known three.0) (formed u second known three.1)
  formed (Jump l bs) above known e =
      let one = and_parts (all_known known bs) (nat_le 1 l && takes_as_many (length bs) (slice_get labels l)) e in
      let two = and_parts (nat_le 1 l) (takes_as_many (length bs) (slice_get labels l)) one.1 in
      and_from (all_known known bs) _ one.0 (and_from (nat_le 1 l) _ two.0 (heads (length bs) l ∙ two.1))
  formed (Halt n bs) above known e = e

  labels_formed : (ls : List Label) → list_all (is_label labels) ls ≡ true → list_all (is_label labels') (map label_walked ls) ≡ true
  labels_formed [] e = refl
  labels_formed (l ∷ ls) e =
      let parts = and_parts (is_label labels l) (list_all (is_label labels) ls) e in
      let one = and_parts (is_formed labels l.params l.body) (all_different (l.params ++ of_tree l.body)) parts.0 in
      let once = fewer_behind l.params (of_tree (walked [] l.body)) (of_tree l.body) one.1 (fewer [] l.body) in
      and_from (is_label labels' (label_walked l)) (list_all (is_label labels') (map label_walked ls))
      (and_from (is_formed labels' l.params (walked [] l.body)) (all_different (l.params ++ of_tree (walked [] l.body))) (formed l.body [] l.params one.0) once.different) (labels_formed ls parts.1)

same_heads : (ls : List Label) (n i : ℕ) → takes_as_many n (slice_get (map label_walked ls) i) ≡ takes_as_many n (slice_get ls i)
same_heads [] n i = refl
same_heads (l ∷ ls) n zero = refl
same_heads (l ∷ ls) n (suc i) = same_heads ls n i

same_entry : (ls : List Label) → is_entry (slice_get (map label_walked ls) 0) ≡ is_entry (slice_get ls 0)
same_entry [] = refl
same_entry (l ∷ ls) = refl

pub flow_formed : (ls : List Label) → is_flow ls ≡ true → is_flow (map label_walked ls) ≡ true
flow_formed ls e =
    let parts = and_parts (list_all (is_label ls) ls) (is_entry (slice_get ls 0)) e in
    and_from (list_all (is_label (map label_walked ls)) (map label_walked ls)) (is_entry (slice_get (map label_walked ls) 0)) (labels_formed ls (map label_walked ls) (same_heads ls) ls parts.0) (same_entry ls ∙ parts.1)

pub same_params : (ls : List Label) → flow_params (map label_walked ls) ≡ flow_params ls
same_params [] = refl
same_params (l ∷ ls) = refl

-- ---- none is decided

none_arms : (o : Option Bool) (above : List Fact) (c : Cmp) (a b : Atom) → decided above c a b ≡ o → (t' u' t'' u'' : Tree) → NoneDecided above t' → NoneDecided above u' → NoneDecided (above ++ told above c a b) t'' → NoneDecided (above ++ told above (negated c) a b) u''
    → NoneDecided above (chosen o t' u' (If c a b t'' u''))
none_arms (Some true) above c a b e t' u' t'' u'' p q r s = p
none_arms (Some false) above c a b e t' u' t'' u'' p q r s = q
none_arms None above c a b e t' u' t'' u'' p q r s = (e, r, s)

none_decided : (t : Tree) (above : List Fact) → NoneDecided above (walked above t)
none_decided (Let x p t) above = none_decided t (above ++ defined above x p)
none_decided (Read m xs a t) above = none_decided t (above ++ accessed a)
none_decided (Write m a bs t) above = none_decided t (above ++ accessed a)
none_decided (If c a b t u) above =
    let first = above ++ told above c a b in
    let second = above ++ told above (negated c) a b in
    none_arms (decided above c a b) above c a b refl (walked above t) (walked above u) (walked first t) (walked second u) (none_decided t above) (none_decided u above) (none_decided t first) (none_decided u second)
none_decided (Jump l bs) above = tt
none_decided (Halt e bs) above = tt

pub all_none_decided : (ls : List Label) → All (λ l. NoneDecided [] l.body) (map label_walked ls)
all_none_decided [] = All-nil (λ l. NoneDecided [] l.body)
all_none_decided (l ∷ ls) = All-cons (λ m. NoneDecided [] m.body) (label_walked l) (map label_walked ls) (none_decided l.body []) (all_none_decided ls)

-- ---- labels

pub labels_at : (xs ys zs : List FlowLabel) → map label_view zs ≡ map label_walked (map label_view xs) → xs ≡ ys → map label_view zs ≡ map label_walked (map label_view ys)
labels_at xs ys zs h e = h ∙ ap (λ l. map label_walked (map label_view l)) e

pub walked_next : (labels : List FlowLabel) (i : ℕ) (d l m : FlowLabel) (ms ms' : List FlowLabel) → i < length labels → l ≡ get_or labels i d → map label_view ms ≡ map label_walked (map label_view (take i labels)) → label_view m ≡ label_walked (label_view l) → ms' ≡ ms ++ m ∷ []
    → map label_view ms' ≡ map label_walked (map label_view (take (i + 1) labels))
walked_next labels i d l m ms ms' lt e h one push =
    let front : map label_view (take (i + 1) labels) ≡ map label_view (take i labels) ++ label_view l ∷ [] = map_more label_view labels i d lt ∙ ap (λ v. map label_view (take i labels) ++ label_view v ∷ []) (sym e) in
    ap (map label_view) push ∙ map_push label_view ms m ∙ ap (λ v. v ++ label_view m ∷ []) h ∙ ap (λ v. map label_walked (map label_view (take i labels)) ++ v ∷ []) one
    ∙ sym (ap (map label_walked) front ∙ map_push label_walked (map label_view (take i labels)) (label_view l))
