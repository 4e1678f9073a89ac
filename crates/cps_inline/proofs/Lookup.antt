-- Which labels the copies have.
use Rattle.std.proofs.Common.{◌≡◌, ℕ, zero, suc, ◌+◌, ◌≤◌, ◌<◌, nat_eq, Bool, true, false, List, [], ◌∷◌, length, Option, Some, None, slice_get, if◌then◌else◌, refl, sym, ap, subst, ◌∙◌, arith}
use Rattle.std.proofs.lemmas.Bool.{eq-eqb, false≢true, ne_eqb}
use Rattle.std.proofs.lemmas.Option.{none-some, same_Some}
use Rattle.cps_ir.specs.Meaning.{Body, label_in}
use Rattle.cps_ir.specs.Term.{Term, Labels, none, label, Fun}
use Rattle.cps_inline.specs.inner.Inlined.{Counts, Entering, InlineContext, moved, span, labels_span, copy_count, term_count, is_copied, copied, copied_labels, copies}

-- labels are from here up to there
abbrev pub Lie : Labels → ℕ → ℕ → Type 0
Lie ls from to = (l : ℕ) → ((l < from → label_in l ls ≡ None) × (to ≤ l → label_in l ls ≡ None))

pub skipped : (l k : ℕ) (b : Body) (o : Option Body) → (k ≡ l → ⊥) → o ≡ None → (if nat_eq k l then Some b else o) ≡ None
skipped l k b o ne e = ap (λ t. if t then Some b else o) (ne_eqb k l ne) ∙ e

pub lie-moved : (funs : List Fun) (enter : Entering) (w : Counts) (p : InlineContext) (b s : ℕ) (ls : Labels) (n : ℕ) → labels_span ls ≤ s → Lie (copied_labels funs enter w p b ls n) b (b + s)
lie-moved funs enter w p b s none n le = λ l. ((λ lt. refl), (λ far. refl))
lie-moved funs enter w p b s (label k xs t ls) n le = λ l.
    let rest = lie-moved funs enter w p b s ls (n + term_count funs w t) (omega arith) l in
    ((λ (lt : l < b). skipped l (b + k) _ _ (λ (e : b + k ≡ l). omega arith) (rest.0 lt)), (λ (far : b + s ≤ l). skipped l (b + k) _ _ (λ (e : b + k ≡ l). omega arith) (rest.1 far)))

lie-either : (c : Bool) (ls ks : Labels) (from to : ℕ) → Lie ls from to → Lie ks from to → Lie (if c then ls else ks) from to
lie-either true ls ks from to h g = h
lie-either false ls ks from to h g = g

pub lie-copies : (funs : List Fun) (enter : Entering) (w : Counts) (f : Fun) (p : InlineContext) (j : ℕ) (gs : List Fun) (n to : ℕ) → p.first + j + length gs ≤ to → Lie (copies funs enter w f p j gs n) p.first to
lie-copies funs enter w f p j [] n to le = λ l. ((λ lt. refl), (λ far. refl))
lie-copies funs enter w f p j (g ∷ gs) n to le =
    lie-either (is_copied f g) _ _ p.first to
    (λ l.
    let rest = lie-copies funs enter w f p (suc j) gs (n + copy_count funs w g) to (omega arith) l in
    ((λ (lt : l < p.first). skipped l (p.first + j) _ _ (λ (e : p.first + j ≡ l). omega arith) (rest.0 lt)), (λ (far : to ≤ l). skipped l (p.first + j) _ _ (λ (e : p.first + j ≡ l). omega arith) (rest.1 far))))
    (lie-copies funs enter w f p (suc j) gs n to (omega arith))

-- the label of a copied function
pub record IsCopy (funs : List Fun) (enter : Entering) (w : Counts) (p : InlineContext) (g : Fun) (from : ℕ) (o : Option Body) : Type 0 where
  pub base : ℕ
  pub least : from ≤ base
  pub body : o ≡ Some (record { params = moved base g.params; term = copied funs enter w p base g.body (base + span g) })

copy-first : (funs : List Fun) (enter : Entering) (w : Counts) (p : InlineContext) (g : Fun) (l n : ℕ) (o : Option Body) → IsCopy funs enter w p g n (if nat_eq l l then Some (record { params = moved n g.params; term = copied funs enter w p n g.body (n + span g) }) else o)
copy-first funs enter w p g l n o = record { base = n; least = omega arith; body = ap (λ t. if t then Some (record { params = moved n g.params; term = copied funs enter w p n g.body (n + span g) }) else o) (eq-eqb l l refl) }

copy-more : (funs : List Fun) (enter : Entering) (w : Counts) (p : InlineContext) (g : Fun) (m n : ℕ) (o o' : Option Body) → n ≤ m → o' ≡ o → IsCopy funs enter w p g m o → IsCopy funs enter w p g n o'
copy-more funs enter w p g m n o o' le e h = record { base = h.base; least = let x = h.least in omega arith; body = e ∙ h.body }

copy-head : (funs : List Fun) (enter : Entering) (w : Counts) (p : InlineContext) (g : Fun) (c : Bool) → c ≡ true → (l l' n : ℕ) → l ≡ l' → (rest ks : Labels)
    → IsCopy funs enter w p g n (label_in l' (if c then label l (moved n g.params) (copied funs enter w p n g.body (n + span g)) rest else ks))
copy-head funs enter w p g true e l l' n same rest ks =
    subst (λ x. IsCopy funs enter w p g n (label_in x (label l (moved n g.params) (copied funs enter w p n g.body (n + span g)) rest))) same (copy-first funs enter w p g l n (label_in l rest))
copy-head funs enter w p g false e l l' n same rest ks = absurd (false≢true e)

copy-tail : (funs : List Fun) (enter : Entering) (w : Counts) (p : InlineContext) (g : Fun) (c : Bool) (l l' n m : ℕ) (xs : List ℕ) (t : Term) (rest ks : Labels) → (l ≡ l' → ⊥) → n ≤ m → IsCopy funs enter w p g m (label_in l' rest) → IsCopy funs enter w p g n (label_in l' ks)
    → IsCopy funs enter w p g n (label_in l' (if c then label l xs t rest else ks))
copy-tail funs enter w p g true l l' n m xs t rest ks ne le h k =
    copy-more funs enter w p g m n (label_in l' rest) (label_in l' (label l xs t rest)) le (ap (λ c. if c then Some (record { params = xs; term = t }) else label_in l' rest) (ne_eqb l l' ne)) h
copy-tail funs enter w p g false l l' n m xs t rest ks ne le h k = k

-- among the functions from j on, that of number i after them
pub copy-at : (funs : List Fun) (enter : Entering) (w : Counts) (f : Fun) (p : InlineContext) (j : ℕ) (gs : List Fun) (n i l : ℕ) (g : Fun) → l ≡ p.first + (j + i) → slice_get gs i ≡ Some g → is_copied f g ≡ true → IsCopy funs enter w p g n (label_in l (copies funs enter w f p j gs n))
copy-at funs enter w f p j [] n i l g el e c = absurd (none-some g e)
copy-at funs enter w f p j (h ∷ gs) n zero l g el e c =
    let same : h ≡ g = same_Some h g e in
    subst (λ x. IsCopy funs enter w p g n (label_in l (if is_copied f x then label (p.first + j) (moved n x.params) (copied funs enter w p n x.body (n + span x)) (copies funs enter w f p (suc j) gs (n + copy_count funs w x)) else copies funs enter w f p (suc j) gs n))) (sym same)
    (copy-head funs enter w p g (is_copied f g) c (p.first + j) l n (omega arith) (copies funs enter w f p (suc j) gs (n + copy_count funs w g)) (copies funs enter w f p (suc j) gs n))
copy-at funs enter w f p j (h ∷ gs) n (suc i) l g el e c =
    copy-tail funs enter w p g (is_copied f h) (p.first + j) l n (n + copy_count funs w h) _ _ _ _ (λ (s : p.first + j ≡ l). omega arith) (omega arith)
    (copy-at funs enter w f p (suc j) gs (n + copy_count funs w h) i l g (omega arith) e c)
    (copy-at funs enter w f p (suc j) gs n i l g (omega arith) e c)
