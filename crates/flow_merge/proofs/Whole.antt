-- Copied labels make a flow that is as the first one.
use Rattle.std.proofs.Common.{◌≡◌, ℕ, zero, suc, ◌+◌, ◌<◌, ◌≤◌, ◌==◌, nat_le, true, false, ◌&&◌, List, [], ◌∷◌, ◌++◌, Option, Some, None, map, refl, sym, ap, subst, ◌∙◌, length, slice_get, get_or, take, arith, append-nil}
use Rattle.std.specs.List.{list_all, range_with_len}
use Rattle.std.proofs.lemmas.Bool.{and_parts, and_from, false≢true}
use Rattle.std.proofs.lemmas.Bool.Decides.{nat_tests}
use Rattle.std.proofs.lemmas.List.{map_more, length-map, length-take-le, map_push}
use Rattle.std.proofs.lemmas.List.FromFn.{length-range_with_len}
use Rattle.std.proofs.lemmas.Option.{none-some, same_Some}
use Rattle.nv_base.specs.Meanings.{KeepsOutcomes, AreEqual}
use Rattle.nv_base.specs.Measures.{entry_wide}
use Rattle.nv_base.specs.Sets.{all_different}
use Rattle.nv_base.specs.Access.{is_known}
use Rattle.nv_base.specs.Words.{assigned_all}
use Rattle.nv_base.specs.World.{World, begun}
use Rattle.nv_base.proofs.Same.{lands_at, same_lands, same-sym, keeps-trans, keeps-equal}
use Rattle.flow_ir.proofs.Growth.{meaning-grows}
use Rattle.flow_ir.specs.Formed.{defined, is_formed, is_label, is_entry, is_flow, takes_as_many}
use Rattle.flow_ir.specs.Meaning.{Next, does, blank, enter, run, flow_meaning, flow_params, params_of}
use Rattle.flow_ir.specs.Tree.{Label}
use Rattle.flow_ir.specs.View.{label_view}
use Rattle.flow_ir.specs.Wide.{tree_wide, label_wide, wide}
use Rattle.flow_ir.specs.declared.flow.Label.{Label as FlowLabel}
use Rattle.flow_ir.specs.Reachable.{AreReachable}
use Rattle.flow_ir.proofs.Members.{in-left, different-parts}
use Rattle.flow_ir.proofs.Scopes.{label_fits}
use Rattle.flow_ir.proofs.Renaming.{Agrees}
use Rattle.flow_ir.specs.inner.Scoped.{IsScopedLabel}
use Rattle.flow_merge.specs.inner.Copied.{numbered, Numbering, IsCopied, AreCopied, none, stays, goes}
use Rattle.flow_merge.proofs.Naming.{range_append, range_different}
use Rattle.flow_merge.proofs.Landing.{Below, below_numbered, agrees_numbered, AllInScope, Comes, does_comes, comes_jump}
use Rattle.flow_merge.proofs.Formed.{AreKnown, known_numbered, AllFormed, copy_formed, copy_defines}
use Rattle.flow_merge.proofs.Narrow.{copy_wide}

-- ---- a label of a flow

label_at : (labels ls : List Label) (i : ℕ) (m : Label) → list_all (is_label labels) ls ≡ true → slice_get ls i ≡ Some m → is_label labels m ≡ true
label_at labels [] i m e at = absurd (none-some m at)
label_at labels (l ∷ ls) zero m e at = subst (λ k. is_label labels k ≡ true) (same_Some l m at) (and_parts (is_label labels l) (list_all (is_label labels) ls) e).0
label_at labels (l ∷ ls) (suc i) m e at = label_at labels ls i m (and_parts (is_label labels l) (list_all (is_label labels) ls) e).1 at

wide_at : (ls : List Label) (i : ℕ) (m : Label) → slice_get ls i ≡ Some m → label_wide m ≤ wide ls
wide_at [] i m at = absurd (none-some m at)
wide_at (l ∷ ls) zero m at = let e : label_wide l ≡ label_wide m = ap label_wide (same_Some l m at) in omega arith
wide_at (l ∷ ls) (suc i) m at = let le = wide_at ls i m at in omega arith

module _ (labels : List Label) (s : Numbering) (formed : is_flow labels ≡ true) where
  all_labels : list_all (is_label labels) labels ≡ true
  all_labels = (and_parts (list_all (is_label labels) labels) (is_entry (slice_get labels 0)) formed).0

  is_one : (l : ℕ) (m : Label) → slice_get labels l ≡ Some m → is_label labels m ≡ true
  is_one l m at = label_at labels labels l m all_labels at

  in_scope : AllInScope labels
  in_scope l m at = label_fits labels m (is_one l m at)

  all_formed : AllFormed labels
  all_formed l m at = (and_parts (is_formed labels m.params m.body) (all_different (m.params ++ defined m.body)) (is_one l m at)).0

  all_once : (l : ℕ) (m : Label) → slice_get labels l ≡ Some m → all_different (defined m.body) ≡ true
  all_once l m at = (different-parts m.params (defined m.body) (and_parts (is_formed labels m.params m.body) (all_different (m.params ++ defined m.body)) (is_one l m at)).1).1

  all_narrow : (l : ℕ) (m : Label) → slice_get labels l ≡ Some m → tree_wide m.body ≤ wide labels
  all_narrow l m at = let le = wide_at labels l m at in omega arith

  -- ---- one label

  abbrev Heads : List Label → Type 0
  Heads news = (n l : ℕ) → s.stays l ≡ true → nat_le 1 l ≡ true → takes_as_many n (slice_get labels l) ≡ true → (nat_le 1 (s.to l) ≡ true) × (takes_as_many n (slice_get news (s.to l)) ≡ true)

  abbrev Jumps : ℕ → Next → Type 0
  Jumps n g = (l : ℕ) (m : Label) → slice_get labels l ≡ Some m → s.stays l ≡ true → (ws : List ℕ) (w : World) → Comes n (g (s.to l) ws w) (λ i. run labels i l ws w)

  label_formed : (news : List Label) → Heads news → (l m : Label) → is_label labels l ≡ true → IsCopied labels s l m → is_label news m ≡ true
  label_formed news heads l m e c =
      let parts = and_parts (is_formed labels l.params l.body) (all_different (l.params ++ defined l.body)) e in
      let n = length l.params in
      let none : AreKnown [] c.base [] = λ y i. absurd (false≢true i) in
      let known : AreKnown l.params (numbered c.base 0 l.params) (range_with_len 0 n) =
      λ y i. subst (λ k. is_known k (numbered c.base 0 l.params y) ≡ true) (append-nil (range_with_len 0 n)) (known_numbered l.params [] [] c.base 0 none y (in-left y l.params [] i)) in
      let first : is_formed news (range_with_len 0 n) m.body ≡ true = copy_formed labels news s all_formed heads l.params (range_with_len 0 n) (numbered c.base 0 l.params) (0 + n) c.next l.body m.body c.body parts.0 known in
      let row = copy_defines (numbered c.base 0 l.params) (0 + n) c.next l.body m.body c.body in
      let once : all_different (range_with_len 0 n ++ defined m.body) ≡ true = ap (λ ys. all_different (range_with_len 0 n ++ ys)) row.2 ∙ ap all_different (sym (range_append n row.0 0)) ∙ range_different (n + row.0) 0 in
      subst (λ xs. (is_formed news xs m.body && all_different (xs ++ defined m.body)) ≡ true) (sym c.params) (and_from (is_formed news (range_with_len 0 n) m.body) (all_different (range_with_len 0 n ++ defined m.body)) first once)

  label_narrow : (l m : Label) (i : ℕ) → slice_get labels i ≡ Some l → IsCopied labels s l m → label_wide m ≤ wide labels
  label_narrow l m i at c =
      let n = length l.params in
      let same : length m.params ≡ n = ap length c.params ∙ length-range_with_len 0 n in
      let own = wide_at labels i l at in
      let body = copy_wide labels s in_scope (wide labels) all_narrow all_once l.params (numbered c.base 0 l.params) (0 + n) c.next l.body m.body c.body (in_scope i l at) (all_once i l at) (all_narrow i l at) in
      let head : entry_wide [] (length m.params) ≡ entry_wide [] n = ap (entry_wide []) same in
      omega (arith, own, body, head)

  label_comes : (n : ℕ) (g : Next) → Jumps n g → (l m : Label) → IsScopedLabel l → IsCopied labels s l m → (ws : List ℕ) (w : World) → Comes n (enter g (Some m) ws w) (λ i. enter (run labels i) (Some l) ws w)
  label_comes n g jumps l m fits c ws w =
      let k = length l.params in
      let σ = numbered c.base 0 l.params in
      let none : Agrees [] c.base blank blank = record { at = λ y i. absurd (false≢true i) } in
      let below : Below l.params σ (0 + k) = λ y i. below_numbered l.params [] c.base 0 (λ z j. absurd (false≢true j)) y (in-left y l.params [] i) in
      let agrees : Agrees l.params σ (assigned_all blank l.params ws) (assigned_all blank (range_with_len 0 k) ws) =
      record { at = λ y i. (agrees_numbered l.params ws [] c.base blank blank 0 (λ z j. absurd (false≢true j)) none).at y (in-left y l.params [] i) } in
      subst (λ xs. Comes n (does g m.body (assigned_all blank xs ws) w) (λ i. enter (run labels i) (Some l) ws w)) (sym c.params)
      (does_comes labels s in_scope n g jumps l.params σ (0 + k) c.next l.body m.body (assigned_all blank l.params ws) (assigned_all blank (range_with_len 0 k) ws) w c.body fits below agrees)

  -- ---- where the copy of a label stands

  found : (i k : ℕ) (ls ms : List Label) (j h : ℕ) (l : Label) → AreCopied labels s i k ls ms → slice_get ls j ≡ Some l → h ≡ i + j → s.stays h ≡ true → (n : ℕ) × (m : Label) × (s.to h ≡ k + n) × (slice_get ms n ≡ Some m) × IsCopied labels s l m
  found i k ls ms j h l (none i' k') at e st = absurd (none-some l at)
  found i k ls ms zero h l (stays i' k' l' m' ls' ms' t c rest) at e st =
      let here : h ≡ i = omega arith in
      let last : k ≡ k + 0 = omega arith in
      (0, m', ap s.to here ∙ t ∙ last, refl, subst (λ z. IsCopied labels s z m') (same_Some l' l at) c)
  found i k ls ms (suc j) h l (stays i' k' l' m' ls' ms' t c rest) at e st =
      let r = found (suc i) (suc k) ls' ms' j h l rest at (omega arith) st in
      let more : suc k + r.0 ≡ k + suc r.0 = omega arith in
      (suc r.0, r.1, r.2 ∙ more, r.3, r.4)
  found i k ls ms zero h l (goes i' k' l' ls' ms' f rest) at e st = let here : i ≡ h = omega arith in absurd (false≢true (sym f ∙ ap s.stays here ∙ st))
  found i k ls ms (suc j) h l (goes i' k' l' ls' ms' f rest) at e st = found (suc i) k ls' ms' j h l rest at (omega arith) st

  -- label 0 is the first one
  entry_copied : (ls ms : List Label) (l : Label) → AreCopied labels s 0 0 ls ms → s.stays 0 ≡ true → slice_get ls 0 ≡ Some l → (m : Label) × (slice_get ms 0 ≡ Some m) × IsCopied labels s l m
  entry_copied ls ms l (none i' k') st at = absurd (none-some l at)
  entry_copied ls ms l (stays i' k' l' m' ls' ms' t c rest) st at = (m', refl, subst (λ z. IsCopied labels s z m') (same_Some l' l at) c)
  entry_copied ls ms l (goes i' k' l' ls' ms' f rest) st at = absurd (false≢true (sym f ∙ st))

  behind_first : (ls ms : List Label) (l : ℕ) (m : Label) → AreCopied labels s 0 0 ls ms → s.stays 0 ≡ true → slice_get ls l ≡ Some m → 1 ≤ l → s.stays l ≡ true → 1 ≤ s.to l
  behind_first ls ms l m (none i' k') st at le sl = absurd (none-some m at)
  behind_first ls ms zero m (stays i' k' l' m' ls' ms' t c rest) st at le sl = absurd (omega arith)
  behind_first ls ms (suc l) m (stays i' k' l' m' ls' ms' t c rest) st at le sl = let r = found 1 1 ls' ms' l (suc l) m rest at (omega arith) sl in let e = r.2 in omega (arith, e)
  behind_first ls ms l m (goes i' k' l' ls' ms' f rest) st at le sl = absurd (false≢true (sym f ∙ st))

  there_at : (o : Option Label) (n : ℕ) → takes_as_many n o ≡ true → (x : Label) × (o ≡ Some x)
  there_at (Some x) n e = (x, refl)
  there_at None n e = absurd (false≢true e)

  entry_at : (o : Option Label) → is_entry o ≡ true → (x : Label) × (o ≡ Some x)
  entry_at (Some x) e = (x, refl)
  entry_at None e = absurd (false≢true e)

  entry : (x : Label) × (slice_get labels 0 ≡ Some x)
  entry = entry_at (slice_get labels 0) (and_parts (list_all (is_label labels) labels) (is_entry (slice_get labels 0)) formed).1

  module _ (news : List Label) (copied : AreCopied labels s 0 0 labels news) (first_stays : s.stays 0 ≡ true) where
    new_at : (l : ℕ) (m : Label) → slice_get labels l ≡ Some m → s.stays l ≡ true → (k : Label) × (slice_get news (s.to l) ≡ Some k) × IsCopied labels s m k
    new_at l m at st =
        let r = found 0 0 labels news l l m copied at (omega arith) st in
        let none : 0 + r.0 ≡ r.0 = omega arith in
        (r.1, ap (slice_get news) (r.2 ∙ none) ∙ r.3, r.4)

    new_entry : (m : Label) × (slice_get news 0 ≡ Some m) × IsCopied labels s entry.0 m
    new_entry = entry_copied labels news entry.0 copied first_stays entry.1

    many_params : (l m : Label) (n : ℕ) → IsCopied labels s l m → (length l.params == n) ≡ true → (length m.params == n) ≡ true
    many_params l m n c e = ap (λ xs. length xs == n) c.params ∙ ap (λ k. k == n) (length-range_with_len 0 (length l.params)) ∙ e

    heads : Heads news
    heads n l st le takes =
        let old = there_at (slice_get labels l) n takes in
        let new = new_at l old.0 old.1 st in
        let one : 1 ≤ l = grind (arith, nat_tests) in
        let after_it : 1 ≤ s.to l = behind_first labels news l old.0 copied first_stays old.1 one st in
        (at_least (s.to l) after_it, ap (takes_as_many n) new.1 ∙ many_params old.0 new.0 n new.2 (sym (ap (takes_as_many n) old.1) ∙ takes))
      where
        at_least : (n : ℕ) → 1 ≤ n → nat_le 1 n ≡ true
        at_least n le = grind (arith, nat_tests)

    labels_formed : (i k : ℕ) (ls ms : List Label) → AreCopied labels s i k ls ms → list_all (is_label labels) ls ≡ true → list_all (is_label news) ms ≡ true
    labels_formed i k ls ms (none i' k') e = refl
    labels_formed i k ls ms (stays i' k' l m ls' ms' t c rest) e =
        let parts = and_parts (is_label labels l) (list_all (is_label labels) ls') e in
        and_from (is_label news m) (list_all (is_label news) ms') (label_formed news heads l m parts.0 c) (labels_formed (suc i) (suc k) ls' ms' rest parts.1)
    labels_formed i k ls ms (goes i' k' l ls' ms' f rest) e = labels_formed (suc i) k ls' ms rest (and_parts (is_label labels l) (list_all (is_label labels) ls') e).1

    copied_entry : is_entry (slice_get news 0) ≡ true
    copied_entry =
        let long = ap length new_entry.2.params ∙ length-range_with_len 0 (length entry.0.params) in
        ap is_entry new_entry.1 ∙ ap (λ k. nat_le k 8) long ∙ sym (ap is_entry entry.1) ∙ (and_parts (list_all (is_label labels) labels) (is_entry (slice_get labels 0)) formed).1

    pub copied_formed : is_flow news ≡ true
    copied_formed = and_from (list_all (is_label news) news) (is_entry (slice_get news 0)) (labels_formed 0 0 labels news copied all_labels) copied_entry

    pub copied_params : flow_params news ≡ flow_params labels
    copied_params = ap params_of new_entry.1 ∙ ap length new_entry.2.params ∙ length-range_with_len 0 (length entry.0.params) ∙ sym (ap params_of entry.1)

    narrow_from : (i k : ℕ) (ls ms : List Label) → ((j : ℕ) (l : Label) → slice_get ls j ≡ Some l → (h : ℕ) × (slice_get labels h ≡ Some l)) → AreCopied labels s i k ls ms → wide ms ≤ wide labels
    narrow_from i k ls ms at (none i' k') = omega arith
    narrow_from i k ls ms at (stays i' k' l m ls' ms' t c rest) =
        let here = at 0 l refl in
        let one = label_narrow l m here.0 here.1 c in
        let others = narrow_from (suc i) (suc k) ls' ms' (λ j x e. at (suc j) x e) rest in
        omega arith
    narrow_from i k ls ms at (goes i' k' l ls' ms' f rest) = narrow_from (suc i) k ls' ms (λ j x e. at (suc j) x e) rest

    pub copied_narrow : wide news ≤ wide labels
    copied_narrow = narrow_from 0 0 labels news (λ i l e. (i, e)) copied

    enter_comes : (n : ℕ) (g : Next) → Jumps n g → (l : ℕ) (m : Label) → slice_get labels l ≡ Some m → (k : Label) (o : Option Label) → o ≡ Some k → IsCopied labels s m k → (ws : List ℕ) (w : World) → Comes n (enter g o ws w) (λ i. enter (run labels i) (slice_get labels l) ws w)
    enter_comes n g jumps l m at k o e c ws w =
        subst (λ q. Comes n (enter g q ws w) (λ i. enter (run labels i) (slice_get labels l) ws w)) (sym e)
        (subst (λ q. Comes n (enter g (Some k) ws w) (λ i. enter (run labels i) q ws w)) (sym at) (label_comes n g jumps m k (in_scope l m at) c ws w))

    run_comes : (n : ℕ) → Jumps n (run news n)
    run_comes zero l m at st ws w = (0, λ i. omega arith, refl)
    run_comes (suc n) l m at st ws w =
        let new = new_at l m at st in
        comes_jump labels n l (slice_get labels l) ws w (enter (run news n) (slice_get news (s.to l)) ws w) refl (enter_comes n (run news n) (run_comes n) l m at new.0 (slice_get news (s.to l)) new.1 new.2 ws w)

    pub copied_kept : KeepsOutcomes (flow_params labels) (flow_params news) (flow_meaning labels) (flow_meaning news)
    copied_kept = record {
      arguments = sym copied_params;
      same = λ args p a h.
          same-sym (flow_meaning news args p) (flow_meaning labels args p)
          (same_lands (flow_meaning news args p) (flow_meaning labels args p)
          (lands_at (flow_meaning news args p) (flow_meaning labels args p) (λ n. enter_comes n (run news n) (run_comes n) 0 entry.0 entry.1 new_entry.0 (slice_get news 0) new_entry.1 new_entry.2 args (begun p)))
          (meaning-grows labels args p));
    }

pub copied_at : (xs ys : List FlowLabel) (s : Numbering) (ms : List Label) → AreCopied (map label_view xs) s 0 0 (map label_view xs) ms → xs ≡ ys → AreCopied (map label_view ys) s 0 0 (map label_view ys) ms
copied_at xs ys s ms h e = subst (λ l. AreCopied (map label_view l) s 0 0 (map label_view l) ms) e h

-- ---- rounds

pub record Rounds (f g : List Label) : Type 0 where
  pub kept : KeepsOutcomes (flow_params f) (flow_params g) (flow_meaning f) (flow_meaning g)
  pub led : AreReachable g
  pub wide : wide g ≤ wide f

-- the second flow without labels that nothing leads to
pub then_equal : (f g h : List Label) → KeepsOutcomes (flow_params f) (flow_params g) (flow_meaning f) (flow_meaning g) → flow_params h ≡ flow_params g → AreEqual (flow_params g) (flow_meaning g) (flow_meaning h) → KeepsOutcomes (flow_params f) (flow_params h) (flow_meaning f) (flow_meaning h)
then_equal f g h kept same equal =
    keeps-trans (flow_params f) (flow_params g) (flow_params h) (flow_meaning f) (flow_meaning g) (flow_meaning h) kept
    (subst (λ k. KeepsOutcomes (flow_params g) k (flow_meaning g) (flow_meaning h)) (sym same) (keeps-equal (flow_params g) (flow_meaning g) (flow_meaning h) equal))

pub one_more : (f g h : List Label) → Rounds f g → KeepsOutcomes (flow_params g) (flow_params h) (flow_meaning g) (flow_meaning h) → AreReachable h → wide h ≤ wide g → Rounds f h
one_more f g h p kept led le = record { led = led; kept = keeps-trans (flow_params f) (flow_params g) (flow_params h) (flow_meaning f) (flow_meaning g) (flow_meaning h) p.kept kept; wide = let more = p.wide in omega arith }

-- ---- one label more

push_stays : (labels : List Label) (s : Numbering) (i k j : ℕ) (ls ms : List Label) (l m : Label) → AreCopied labels s i k ls ms → j ≡ i + length ls → s.to j ≡ k + length ms → IsCopied labels s l m → AreCopied labels s i k (ls ++ l ∷ []) (ms ++ m ∷ [])
push_stays labels s i k j ls ms l m (none i' k') e t c = let here : i ≡ j = omega arith in let last : k + 0 ≡ k = omega arith in stays i k l m [] [] (ap s.to here ∙ t ∙ last) c (none (suc i) (suc k))
push_stays labels s i k j ls ms l m (stays i' k' l' m' ls' ms' t' c' rest) e t c =
    let more : k + suc (length ms') ≡ suc k + length ms' = omega arith in
    stays i k l' m' (ls' ++ l ∷ []) (ms' ++ m ∷ []) t' c' (push_stays labels s (suc i) (suc k) j ls' ms' l m rest (omega arith) (t ∙ more) c)
push_stays labels s i k j ls ms l m (goes i' k' l' ls' ms' f rest) e t c = goes i k l' (ls' ++ l ∷ []) (ms ++ m ∷ []) f (push_stays labels s (suc i) k j ls' ms l m rest (omega arith) t c)

push_goes : (labels : List Label) (s : Numbering) (i k j : ℕ) (ls ms : List Label) (l : Label) → AreCopied labels s i k ls ms → j ≡ i + length ls → s.stays j ≡ false → AreCopied labels s i k (ls ++ l ∷ []) ms
push_goes labels s i k j ls ms l (none i' k') e f = let here : i ≡ j = omega arith in goes i k l [] [] (ap s.stays here ∙ f) (none (suc i) k)
push_goes labels s i k j ls ms l (stays i' k' l' m' ls' ms' t' c' rest) e f = stays i k l' m' (ls' ++ l ∷ []) ms' t' c' (push_goes labels s (suc i) (suc k) j ls' ms' l rest (omega arith) f)
push_goes labels s i k j ls ms l (goes i' k' l' ls' ms' g rest) e f = goes i k l' (ls' ++ l ∷ []) ms g (push_goes labels s (suc i) k j ls' ms l rest (omega arith) f)

taken : (labels : List FlowLabel) (i : ℕ) → i < length labels → length (map label_view (take i labels)) ≡ i
taken labels i lt = length-map (take i labels) label_view ∙ length-take-le i labels (omega arith)

taken_next : (labels : List FlowLabel) (i : ℕ) (d l : FlowLabel) → i < length labels → l ≡ get_or labels i d → map label_view (take (i + 1) labels) ≡ map label_view (take i labels) ++ label_view l ∷ []
taken_next labels i d l lt e = map_more label_view labels i d lt ∙ ap (λ v. map label_view (take i labels) ++ label_view v ∷ []) (sym e)

pub next_stays : (whole : List Label) (s : Numbering) (labels : List FlowLabel) (i : ℕ) (d l m : FlowLabel) (ms ms' : List FlowLabel) → i < length labels → l ≡ get_or labels i d → AreCopied whole s 0 0 (map label_view (take i labels)) (map label_view ms) → s.to i ≡ length ms → IsCopied whole s (label_view l) (label_view m) → ms' ≡ ms ++ m ∷ []
    → AreCopied whole s 0 0 (map label_view (take (i + 1) labels)) (map label_view ms')
next_stays whole s labels i d l m ms ms' lt e h t c push =
    let back : map label_view ms' ≡ map label_view ms ++ label_view m ∷ [] = ap (map label_view) push ∙ map_push label_view ms m in
    let len = taken labels i lt in
    let many = length-map ms label_view in
    let number : s.to i ≡ 0 + length (map label_view ms) = omega (arith, t, many) in
    subst (λ v. AreCopied whole s 0 0 v (map label_view ms')) (sym (taken_next labels i d l lt e))
    (subst (AreCopied whole s 0 0 (map label_view (take i labels) ++ label_view l ∷ [])) (sym back) (push_stays whole s 0 0 i (map label_view (take i labels)) (map label_view ms) (label_view l) (label_view m) h (omega (arith, len)) number c))

pub next_goes : (whole : List Label) (s : Numbering) (labels : List FlowLabel) (i : ℕ) (d l : FlowLabel) (ms : List FlowLabel) → i < length labels → l ≡ get_or labels i d → AreCopied whole s 0 0 (map label_view (take i labels)) (map label_view ms) → s.stays i ≡ false → AreCopied whole s 0 0 (map label_view (take (i + 1) labels)) (map label_view ms)
next_goes whole s labels i d l ms lt e h f =
    let len = taken labels i lt in
    subst (λ v. AreCopied whole s 0 0 v (map label_view ms)) (sym (taken_next labels i d l lt e)) (push_goes whole s 0 0 i (map label_view (take i labels)) (map label_view ms) (label_view l) h (omega (arith, len)) f)
