-- The spine of a term, step by step.
use Rattle.std.proofs.Common.{◌≡◌, ℕ, zero, suc, ◌+◌, ◌≤◌, ◌<◌, ◌==◌, max, Bool, true, false, List, [], ◌∷◌, ◌++◌, map, Option, Some, slice_get, get_or, drop, length, if◌then◌else◌, refl, sym, ap, ◌∙◌, arith}
use Rattle.std.proofs.lemmas.Bool.{eqb-true}
use Rattle.std.proofs.lemmas.Option.{none-some, same_Some, slice_get_read}
use Rattle.nv_base.specs.declared.term.Atom.{Atom}
use Rattle.nv_base.specs.declared.term.Cmp.{Cmp}
use Rattle.cps_ir.specs.declared.term.Term.{Term}
use Rattle.cps_ir.specs.declared.term.Cont.{Cont}
use Rattle.cps_ir.specs.declared.spine.Step.{Step}
use Rattle.cps_ir.specs.Term.{Handler, Let, Read, Write, If, Fix, Call, Labels, none, label, Fun}
use Rattle.cps_ir.specs.Term as pure
use Rattle.cps_ir.specs.declared.program.CpsFun.{CpsFun}
use Rattle.cps_ir.specs.View.{Seen, labels_of, term_view, label_view, labels_view, fun_view}
use Rattle.cps_ir.specs.Spine.{put_all}
use Rattle.cps_ir.proofs.Views.{view-Cont}
use Rattle.std.proofs.lemmas.List.{drop_more, length-map}
use Rattle.cps_inline.specs.declared.copying.InlineContext as declared
use Rattle.cps_inline.specs.inner.Inlined.{Adds, Counts, Entering, InlineContext, moved, moved_atom, moved_atoms, is_one, is_copied, span, term_span, term_count, labels_count, copy_count, copies_count, group_count, copied, copied_labels, copies, entered, entering, counts, weight, labels_weight, weights, behind, labels_span, call_count, entered_call, moved_handlers, context_of_call_in, context_view, copies_at, copy_at}
use Rattle.cps_inline.proofs.Simulates.{group-less}

-- the steps and the copy of cur, with m as the next number, are the old steps and the copy of t with n
pub record On (funs : List Fun) (enter : Entering) (w : Counts) (p : InlineContext) (b : ℕ) (t : Term) (n : ℕ) (old ss : List Step) (cur : Term) (m : ℕ) : Type 0 where
  pub term : put_all ss (copied funs enter w p b (term_view cur) m) ≡ put_all old (copied funs enter w p b (term_view t) n)
  pub count : m + term_count funs w (term_view cur) ≡ n + term_count funs w (term_view t)
  pub size : weight (term_view cur) ≤ weight (term_view t)

on_step : {funs : List Fun} {enter : Entering} {w : Counts} {p : InlineContext} {b : ℕ} {t cur : Term} {n m : ℕ} {old ss : List Step} (node : pure.Term → pure.Term) (ss' : List Step) (rest : Term) (m' : ℕ) → On funs enter w p b t n old ss cur m → Adds ss ss' node → copied funs enter w p b (term_view cur) m ≡ node (copied funs enter w p b (term_view rest) m')
    → m + term_count funs w (term_view cur) ≡ m' + term_count funs w (term_view rest) → weight (term_view rest) ≤ weight (term_view cur) → On funs enter w p b t n old ss' rest m'
on_step {funs = funs} {enter = enter} {w = w} {p = p} {b = b} {ss = ss} node ss' rest m' on adds term count size = record {
  term = adds (copied funs enter w p b (term_view rest) m') ∙ ap (put_all ss) (sym term) ∙ on.term;
  count = sym count ∙ on.count;
  size = let le = on.size in omega arith;
}

pub on_if : {funs : List Fun} {enter : Entering} {w : Counts} {p : InlineContext} {b : ℕ} {t cur : Term} {n m : ℕ} {old ss : List Step} (c : Cmp) (a d : Atom) (part rest : Term) (m' : ℕ) (ss' : List Step) → On funs enter w p b t n old ss cur m → term_view cur ≡ If c a d (term_view part) (term_view rest) → Adds ss ss' (If c (moved_atom b a) (moved_atom b d) (copied funs enter w p b (term_view part) m))
    → m' ≡ m + term_count funs w (term_view part) → On funs enter w p b t n old ss' rest m'
on_if {funs = funs} {enter = enter} {w = w} {p = p} {b = b} {cur = cur} {m = m} c a d part rest m' ss' on view adds em =
    let counted : term_count funs w (term_view cur) ≡ term_count funs w (term_view part) + term_count funs w (term_view rest) = ap (term_count funs w) view in
    on_step (If c (moved_atom b a) (moved_atom b d) (copied funs enter w p b (term_view part) m)) ss' rest m' on adds
    (ap (λ v. copied funs enter w p b v m) view ∙ ap (λ k. If c (moved_atom b a) (moved_atom b d) (copied funs enter w p b (term_view part) m) (copied funs enter w p b (term_view rest) k)) (sym em)) (omega arith) (let light = ap weight view in omega arith)

pub on_one : {funs : List Fun} {enter : Entering} {w : Counts} {p : InlineContext} {b : ℕ} {t cur : Term} {n m : ℕ} {old ss : List Step} (l : ℕ) (xs : List ℕ) (part rest : Term) (m' : ℕ) (ss' : List Step) → On funs enter w p b t n old ss cur m → term_view cur ≡ Fix (label l xs (term_view rest) none) (term_view part) → Adds ss ss' (λ v. Fix (label (b + l) (moved b xs) v none) (copied funs enter w p b (term_view part) m))
    → m' ≡ m + term_count funs w (term_view part) → On funs enter w p b t n old ss' rest m'
on_one {funs = funs} {enter = enter} {w = w} {p = p} {b = b} {cur = cur} {m = m} l xs part rest m' ss' on view adds em =
    let counted : term_count funs w (term_view cur) ≡ term_count funs w (term_view part) + (term_count funs w (term_view rest) + 0) = ap (term_count funs w) view in
    on_step (λ v. Fix (label (b + l) (moved b xs) v none) (copied funs enter w p b (term_view part) m)) ss' rest m' on adds
    (ap (λ v. copied funs enter w p b v m) view ∙ ap (λ k. Fix (label (b + l) (moved b xs) (copied funs enter w p b (term_view rest) k) none) (copied funs enter w p b (term_view part) m)) (sym em)) (omega arith) (let light = ap weight view in omega arith)

several-copied : (funs : List Fun) (enter : Entering) (w : Counts) (p : InlineContext) (b m : ℕ) (c : Bool) → c ≡ false → (ls : Labels) (t : pure.Term)
    → Fix (copied_labels funs enter w p b ls (if c then m + term_count funs w t else m)) (copied funs enter w p b t (if c then m else m + labels_count funs w ls)) ≡ Fix (copied_labels funs enter w p b ls m) (copied funs enter w p b t (m + labels_count funs w ls))
several-copied funs enter w p b m false e ls t = refl
several-copied funs enter w p b m true e ls t = cc

pub on_several : {funs : List Fun} {enter : Entering} {w : Counts} {p : InlineContext} {b : ℕ} {t cur : Term} {n m : ℕ} {old ss : List Step} (ls : Labels) (rest : Term) (m' : ℕ) (ss' : List Step) → On funs enter w p b t n old ss cur m → term_view cur ≡ Fix ls (term_view rest) → is_one ls ≡ false → Adds ss ss' (Fix (copied_labels funs enter w p b ls m))
    → m' ≡ m + labels_count funs w ls → On funs enter w p b t n old ss' rest m'
on_several {funs = funs} {enter = enter} {w = w} {p = p} {b = b} {cur = cur} {m = m} ls rest m' ss' on view many adds em =
    let counted : term_count funs w (term_view cur) ≡ term_count funs w (term_view rest) + labels_count funs w ls = ap (term_count funs w) view in
    on_step (Fix (copied_labels funs enter w p b ls m)) ss' rest m' on adds
    (ap (λ x. copied funs enter w p b x m) view ∙ several-copied funs enter w p b m (is_one ls) many ls (term_view rest) ∙ ap (λ k. Fix (copied_labels funs enter w p b ls m) (copied funs enter w p b (term_view rest) k)) (sym em)) (omega arith) (let light = ap weight view in omega arith)

pub on_end : {funs : List Fun} {enter : Entering} {w : Counts} {p : InlineContext} {b : ℕ} {t cur : Term} {n m : ℕ} {old ss : List Step} (x : pure.Term) (u : Term) → On funs enter w p b t n old ss cur m → term_view cur ≡ x → term_view u ≡ copied funs enter w p b x m → put_all ss (term_view u) ≡ put_all old (copied funs enter w p b (term_view t) n)
on_end {funs = funs} {enter = enter} {w = w} {p = p} {b = b} {m = m} {ss = ss} x u on is e = ap (put_all ss) (e ∙ ap (λ v. copied funs enter w p b v m) (sym is)) ∙ on.term

-- ---- places

-- a place whose words go to a label
abbrev pub place_to : ℕ → ℕ → List Handler → InlineContext
place_to first l hs = record { first = first; to = Some l; handlers = hs }

pub same_place : (first l k : ℕ) (hs gs : List Handler) → l ≡ k → hs ≡ gs → place_to first l hs ≡ place_to first k gs
same_place first l k hs gs e f = ap (λ i. place_to first i hs) e ∙ ap (place_to first k) f

-- ---- spans

-- after all that is seen, and cur, is after all of t
pub record Spans (t : Term) (least : ℕ) (cur : Term) (next : ℕ) : Type 0 where
  pub span : max next (term_span (term_view cur)) ≡ max least (term_span (term_view t))
  pub size : weight (term_view cur) ≤ weight (term_view t)

-- ---- what is left of a list

pub item_next : {A : Type 0} (xs : List A) (i : ℕ) (x : A) → i < length xs → x ≡ get_or xs i x → drop i xs ≡ x ∷ drop (i + 1) xs
item_next xs i x lt e = drop_more xs i x lt ∙ ap (λ y. y ∷ drop (i + 1) xs) (sym e)

label-first : (c : Cont) (cs : List Cont) → labels_view (c ∷ cs) ≡ label c.label c.params.items (term_view c.body) (labels_view cs)
label-first c cs = ap (λ s. label s.label s.params s.body (labels_view cs)) (view-Cont c)

pub span_next : (conts : List Cont) (i : ℕ) (c : Cont) (least next next' : ℕ) → i < length conts → c ≡ get_or conts i c → max next (labels_span (labels_view (drop i conts))) ≡ max least (labels_span (labels_view conts))
    → next' ≡ max next (max (max (c.label + 1) (behind c.params.items)) (term_span (term_view c.body))) → max next' (labels_span (labels_view (drop (i + 1) conts))) ≡ max least (labels_span (labels_view conts))
span_next conts i c least next next' lt e inv step =
    let view : labels_span (labels_view (drop i conts)) ≡ max (max (c.label + 1) (behind c.params.items)) (max (term_span (term_view c.body)) (labels_span (labels_view (drop (i + 1) conts)))) =
    ap (λ l. labels_span (labels_view l)) (item_next conts i c lt e) ∙ ap labels_span (label-first c (drop (i + 1) conts)) in
    omega arith

-- ---- labels

-- labels in front of others
abbrev pub before : List Seen → Labels → Labels
before [] ls = ls
before (s ∷ ss) ls = label s.label s.params s.body (before ss ls)

before-last : (ss : List Seen) (s : Seen) (ls : Labels) → before (ss ++ s ∷ []) ls ≡ before ss (label s.label s.params s.body ls)
before-last [] s ls = refl
before-last (r ∷ ss) s ls = ap (label r.label r.params r.body) (before-last ss s ls)

before-none : (ss : List Seen) → before ss none ≡ labels_of ss
before-none [] = refl
before-none (s ∷ ss) = ap (label s.label s.params s.body) (before-none ss)

map-last : (xs : List Cont) (x : Cont) → map label_view (xs ++ x ∷ []) ≡ map label_view xs ++ label_view x ∷ []
map-last [] x = refl
map-last (y ∷ xs) x = ap (λ l. label_view y ∷ l) (map-last xs x)

-- the labels so far, and the copies of the rest, with m as the next number, are the copies of all with n
pub record InLabels (funs : List Fun) (enter : Entering) (w : Counts) (p : InlineContext) (b : ℕ) (all : List Cont) (n : ℕ) (done : List Cont) (rest : List Cont) (m : ℕ) : Type 0 where
  pub labels : before (map label_view done) (copied_labels funs enter w p b (labels_view rest) m) ≡ copied_labels funs enter w p b (labels_view all) n
  pub count : m + labels_count funs w (labels_view rest) ≡ n + labels_count funs w (labels_view all)

pub in_next : {funs : List Fun} {enter : Entering} {w : Counts} {p : InlineContext} {b n m : ℕ} {all done rest : List Cont} (c d : Cont) (rest' done' : List Cont) (m' : ℕ) → InLabels funs enter w p b all n done rest m → rest ≡ c ∷ rest' → done' ≡ done ++ d ∷ []
    → m' ≡ m + term_count funs w (label_view c).body → (label_view d).label ≡ b + (label_view c).label → (label_view d).params ≡ moved b (label_view c).params → (label_view d).body ≡ copied funs enter w p b (label_view c).body m → InLabels funs enter w p b all n done' rest' m'
in_next {funs = funs} {enter = enter} {w = w} {p = p} {b = b} {m = m} {done = done} {rest = rest} c d rest' done' m' h e push em el ep eb =
    let view : copied_labels funs enter w p b (labels_view rest) m ≡ label (b + (label_view c).label) (moved b (label_view c).params) (copied funs enter w p b (label_view c).body m) (copied_labels funs enter w p b (labels_view rest') (m + term_count funs w (label_view c).body)) =
    ap (λ r. copied_labels funs enter w p b (labels_view r) m) e in
    let counted : labels_count funs w (labels_view rest) ≡ term_count funs w (label_view c).body + labels_count funs w (labels_view rest') = ap (λ r. labels_count funs w (labels_view r)) e in
    let same : label (label_view d).label (label_view d).params (label_view d).body (copied_labels funs enter w p b (labels_view rest') m') ≡ copied_labels funs enter w p b (labels_view rest) m = cc in
    record {
      labels = ap (λ r. before (map label_view r) (copied_labels funs enter w p b (labels_view rest') m')) push ∙ ap (λ r. before r (copied_labels funs enter w p b (labels_view rest') m')) (map-last done d)
          ∙ before-last (map label_view done) (label_view d) (copied_labels funs enter w p b (labels_view rest') m') ∙ ap (before (map label_view done)) same ∙ h.labels;
      count = let k = h.count in omega arith;
    }

pub in_end : {funs : List Fun} {enter : Entering} {w : Counts} {p : InlineContext} {b n m : ℕ} {all done rest : List Cont} → InLabels funs enter w p b all n done rest m → rest ≡ [] → labels_view done ≡ copied_labels funs enter w p b (labels_view all) n
in_end {funs = funs} {enter = enter} {w = w} {p = p} {b = b} {m = m} {done = done} h e =
    sym (before-none (map label_view done)) ∙ sym (ap (λ r. before (map label_view done) (copied_labels funs enter w p b (labels_view r) m)) e) ∙ h.labels

-- ---- groups

-- the labels so far, and the copies of the functions from j on, are the copies of all
pub record InCopies (funs : List Fun) (enter : Entering) (w : Counts) (p : InlineContext) (f : Fun) (all : List CpsFun) (n : ℕ) (done : List Cont) (j : ℕ) (rest : List CpsFun) (m : ℕ) : Type 0 where
  pub labels : before (map label_view done) (copies funs enter w f p j (map fun_view rest) m) ≡ copies funs enter w f p 0 (map fun_view all) n
  pub count : m + copies_count funs w f (map fun_view rest) ≡ n + copies_count funs w f (map fun_view all)

copies-first : (funs : List Fun) (enter : Entering) (w : Counts) (f : Fun) (p : InlineContext) (j m : ℕ) (g : Fun) (gs : List Fun) → is_copied f g ≡ true
    → copies funs enter w f p j (g ∷ gs) m ≡ label (p.first + j) (moved m g.params) (copied funs enter w p m g.body (m + span g)) (copies funs enter w f p (suc j) gs (m + copy_count funs w g))
copies-first funs enter w f p j m g gs e =
    ap (λ c. if c then label (p.first + j) (moved m g.params) (copied funs enter w p m g.body (m + span g)) (copies funs enter w f p (suc j) gs (m + copy_count funs w g)) else copies funs enter w f p (suc j) gs m) e

copies-skip : (funs : List Fun) (enter : Entering) (w : Counts) (f : Fun) (p : InlineContext) (j m : ℕ) (g : Fun) (gs : List Fun) → is_copied f g ≡ false → copies funs enter w f p j (g ∷ gs) m ≡ copies funs enter w f p (suc j) gs m
copies-skip funs enter w f p j m g gs e =
    ap (λ c. if c then label (p.first + j) (moved m g.params) (copied funs enter w p m g.body (m + span g)) (copies funs enter w f p (suc j) gs (m + copy_count funs w g)) else copies funs enter w f p (suc j) gs m) e

pub copies_take : {funs : List Fun} {enter : Entering} {w : Counts} {p : InlineContext} {f : Fun} {all rest : List CpsFun} {n j m : ℕ} {done : List Cont} (g : CpsFun) (d : Cont) (rest' : List CpsFun) (done' : List Cont) (j' m' : ℕ) → InCopies funs enter w p f all n done j rest m → rest ≡ g ∷ rest' → is_copied f (fun_view g) ≡ true → j' ≡ j + 1 → done' ≡ done ++ d ∷ []
    → m' ≡ m + copy_count funs w (fun_view g) → (label_view d).label ≡ p.first + j → (label_view d).params ≡ moved m g.params.items → (label_view d).body ≡ copied funs enter w p m (term_view g.body) (m + span (fun_view g)) → InCopies funs enter w p f all n done' j' rest' m'
copies_take {funs = funs} {enter = enter} {w = w} {p = p} {f = f} {rest = rest} {j = j} {m = m} {done = done} g d rest' done' j' m' h e c ej push em el ep eb =
    let view : copies funs enter w f p j (map fun_view rest) m ≡ label (p.first + j) (moved m g.params.items) (copied funs enter w p m (term_view g.body) (m + span (fun_view g))) (copies funs enter w f p (suc j) (map fun_view rest') (m + copy_count funs w (fun_view g))) =
    ap (λ r. copies funs enter w f p j (map fun_view r) m) e ∙ copies-first funs enter w f p j m (fun_view g) (map fun_view rest') c in
    let counted : copies_count funs w f (map fun_view rest) ≡ copy_count funs w (fun_view g) + copies_count funs w f (map fun_view rest') =
    ap (λ r. copies_count funs w f (map fun_view r)) e ∙ ap (λ t. (if t then copy_count funs w (fun_view g) else 0) + copies_count funs w f (map fun_view rest')) c in
    let next : j' ≡ suc j = omega arith in
    let same : label (label_view d).label (label_view d).params (label_view d).body (copies funs enter w f p j' (map fun_view rest') m') ≡ copies funs enter w f p j (map fun_view rest) m = cc in
    record {
      labels = ap (λ r. before (map label_view r) (copies funs enter w f p j' (map fun_view rest') m')) push ∙ ap (λ r. before r (copies funs enter w f p j' (map fun_view rest') m')) (map-last done d)
          ∙ before-last (map label_view done) (label_view d) (copies funs enter w f p j' (map fun_view rest') m') ∙ ap (before (map label_view done)) same ∙ h.labels;
      count = let k = h.count in omega arith;
    }

pub copies_pass : {funs : List Fun} {enter : Entering} {w : Counts} {p : InlineContext} {f : Fun} {all rest : List CpsFun} {n j m : ℕ} {done : List Cont} (g : CpsFun) (rest' : List CpsFun) (done' : List Cont) (j' m' : ℕ) → InCopies funs enter w p f all n done j rest m → rest ≡ g ∷ rest' → is_copied f (fun_view g) ≡ false → j' ≡ j + 1 → done' ≡ done → m' ≡ m → InCopies funs enter w p f all n done' j' rest' m'
copies_pass {funs = funs} {enter = enter} {w = w} {p = p} {f = f} {rest = rest} {j = j} {m = m} {done = done} g rest' done' j' m' h e c ej ed em =
    let next : j' ≡ suc j = omega arith in
    let view : copies funs enter w f p j (map fun_view rest) m ≡ copies funs enter w f p j' (map fun_view rest') m =
    ap (λ r. copies funs enter w f p j (map fun_view r) m) e ∙ copies-skip funs enter w f p j m (fun_view g) (map fun_view rest') c ∙ ap (λ i. copies funs enter w f p i (map fun_view rest') m) (sym next) in
    let counted : copies_count funs w f (map fun_view rest) ≡ 0 + copies_count funs w f (map fun_view rest') =
    ap (λ r. copies_count funs w f (map fun_view r)) e ∙ ap (λ t. (if t then copy_count funs w (fun_view g) else 0) + copies_count funs w f (map fun_view rest')) c in
    record {
      labels = ap (λ r. before (map label_view r) (copies funs enter w f p j' (map fun_view rest') m')) ed ∙ ap (λ k. before (map label_view done) (copies funs enter w f p j' (map fun_view rest') k)) em
          ∙ ap (before (map label_view done)) (sym view) ∙ h.labels;
      count = let k = h.count in omega arith;
    }

pub copies_end : {funs : List Fun} {enter : Entering} {w : Counts} {p : InlineContext} {f : Fun} {all rest : List CpsFun} {n j m : ℕ} {done : List Cont} → InCopies funs enter w p f all n done j rest m → rest ≡ [] → labels_view done ≡ copies funs enter w f p 0 (map fun_view all) n
copies_end {funs = funs} {enter = enter} {w = w} {p = p} {f = f} {j = j} {m = m} {done = done} h e =
    sym (before-none (map label_view done)) ∙ sym (ap (λ r. before (map label_view done) (copies funs enter w f p j (map fun_view r) m)) e) ∙ h.labels

-- ---- calls

earlier-or : {A : Type 0} (c : Bool) (x y z : A) → (c ≡ true → x ≡ z) → (c ≡ false → y ≡ z) → (if c then x else y) ≡ z
earlier-or true x y z h g = h refl
earlier-or false x y z h g = g refl

-- an earlier callee is entered by copies made at its own group
pub entering-at : (funs : List Fun) (own i : ℕ) (f : Fun) (bs : List Atom) (to : Option ℕ) (hs : List Handler) (n : ℕ) → f.group < own → entering funs own i f bs to hs n ≡ entered funs (entering funs f.group) (counts funs f.group) i f bs to hs n
entering-at funs zero i f bs to hs n lt = absurd (omega arith)
entering-at funs (suc own) i f bs to hs n lt =
    earlier-or (f.group == own) (entered funs (entering funs own) (counts funs own) i f bs to hs n) (entering funs own i f bs to hs n) (entered funs (entering funs f.group) (counts funs f.group) i f bs to hs n)
    (λ e. ap (λ k. entered funs (entering funs k) (counts funs k) i f bs to hs n) (sym (eqb-true f.group own e))) (λ e. entering-at funs own i f bs to hs n (group-less f.group own lt e))

pub counts-at : (funs : List Fun) (own : ℕ) (f : Fun) → f.group < own → counts funs own f ≡ group_count funs (counts funs f.group) f
counts-at funs zero f lt = absurd (omega arith)
counts-at funs (suc own) f lt =
    earlier-or (f.group == own) (group_count funs (counts funs own) f) (counts funs own f) (group_count funs (counts funs f.group) f)
    (λ e. ap (λ k. group_count funs (counts funs k) f) (sym (eqb-true f.group own e))) (λ e. counts-at funs own f (group-less f.group own lt e))

pub slice-view : (funs : List CpsFun) (i : ℕ) (f : CpsFun) → slice_get funs i ≡ Some f → slice_get (map fun_view funs) i ≡ Some (fun_view f)
slice-view [] i f e = absurd (none-some f e)
slice-view (g ∷ funs) zero f e = ap (λ h. Some (fun_view h)) (same_Some g f e)
slice-view (g ∷ funs) (suc i) f e = slice-view funs i f e

-- how many numbers a call of an earlier group takes
pub call-counted : (funs : List CpsFun) (own i k : ℕ) (f : CpsFun) (bs : List Atom) (to : Option ℕ) (hs : List Handler) → slice_get funs i ≡ Some f → to ≡ Some k → f.group < own
    → term_count (map fun_view funs) (counts (map fun_view funs) own) (Call i bs to hs) ≡ group_count (map fun_view funs) (counts (map fun_view funs) f.group) (fun_view f)
call-counted funs own i k f bs to hs there is lt =
    ap (λ o. term_count (map fun_view funs) (counts (map fun_view funs) own) (Call i bs o hs)) is ∙ ap (call_count (counts (map fun_view funs) own)) (slice-view funs i f there) ∙ counts-at (map fun_view funs) own (fun_view f) lt

-- what is made of it
pub call-entered : (funs : List CpsFun) (place inner : declared.InlineContext) (b i k : ℕ) (f : CpsFun) (bs : List Atom) (to : Option ℕ) (hs : List Handler) (words : List Atom) (n : ℕ) → slice_get funs i ≡ Some f → to ≡ Some k → f.group < place.group → inner.group ≡ f.group → context_view inner ≡ context_of_call_in (context_view place) b k hs n → words ≡ moved_atoms b bs
    → Fix (copies_at funs inner (fun_view f) 0 (map fun_view funs) (n + length funs)) (pure.Jump (n + i) words) ≡ copy_at funs place b (Call i bs to hs) n
call-entered funs place inner b i k f bs to hs words n there is lt group-is view words-is =
    ap (λ g. Fix (copies (map fun_view funs) (entering (map fun_view funs) g) (counts (map fun_view funs) g) (fun_view f) (context_view inner) 0 (map fun_view funs) (n + length funs)) (pure.Jump (n + i) words)) group-is
    ∙ ap (λ p. Fix (copies (map fun_view funs) (entering (map fun_view funs) f.group) (counts (map fun_view funs) f.group) (fun_view f) p 0 (map fun_view funs) (n + length funs)) (pure.Jump (n + i) words)) view
    ∙ ap (λ l. Fix (copies (map fun_view funs) (entering (map fun_view funs) f.group) (counts (map fun_view funs) f.group) (fun_view f) (context_of_call_in (context_view place) b k hs n) 0 (map fun_view funs) (n + l)) (pure.Jump (n + i) words)) (sym (length-map funs fun_view))
    ∙ ap (λ ws. Fix (copies (map fun_view funs) (entering (map fun_view funs) f.group) (counts (map fun_view funs) f.group) (fun_view f) (context_of_call_in (context_view place) b k hs n) 0 (map fun_view funs) (n + length (map fun_view funs))) (pure.Jump (n + i) ws)) words-is
    ∙ sym (entering-at (map fun_view funs) place.group i (fun_view f) (moved_atoms b bs) (Some (b + k)) (moved_handlers b hs ++ place.handlers.items) n lt)
    ∙ sym (ap (λ o. entered_call (entering (map fun_view funs) place.group) i o (moved_atoms b bs) (Some (b + k)) (moved_handlers b hs ++ place.handlers.items) n) (slice-view funs i f there))
    ∙ sym (ap (λ o. copy_at funs place b (Call i bs o hs) n) is)

-- a function's body under the next numbers
pub body-at : (funs : List CpsFun) (place : declared.InlineContext) (g : CpsFun) (body : Term) (n base m s : ℕ) → term_view body ≡ copy_at funs place base (term_view g.body) m → base ≡ n → m ≡ n + s → s ≡ span (fun_view g) → term_view body ≡ copy_at funs place n (term_view g.body) (n + span (fun_view g))
body-at funs place g body n base m s h e em es =
    h ∙ ap (λ k. copy_at funs place k (term_view g.body) m) e ∙ ap (copy_at funs place n (term_view g.body)) em ∙ ap (λ k. copy_at funs place n (term_view g.body) (n + k)) es

-- ---- the measure

function-at : (funs : List CpsFun) (i : ℕ) (g : CpsFun) → slice_get funs i ≡ Some g → weight (term_view g.body) ≤ weights (map fun_view funs)
function-at [] i g e = absurd (none-some g e)
function-at (f ∷ funs) zero g e = let same : weight (term_view f.body) ≡ weight (term_view g.body) = ap (λ h. weight (term_view h.body)) (same_Some f g e) in omega arith
function-at (f ∷ funs) (suc i) g e = let le : weight (term_view g.body) ≤ weights (map fun_view funs) = function-at funs i g e in omega arith

-- a function is no heavier than all
pub function-within : (funs : List CpsFun) (i : ℕ) (g : CpsFun) → i < length funs → g ≡ get_or funs i g → weight (term_view g.body) ≤ weights (map fun_view funs)
function-within funs i g lt e = function-at funs i g (slice_get_read funs (length funs) i g refl lt e)

label-at : (conts : List Cont) (i : ℕ) (c : Cont) → slice_get conts i ≡ Some c → weight (label_view c).body < labels_weight (labels_view conts)
label-at [] i c e = absurd (none-some c e)
label-at (d ∷ conts) zero c e = let same : weight (label_view d).body ≡ weight (label_view c).body = ap (λ h. weight (label_view h).body) (same_Some d c e) in omega arith
label-at (d ∷ conts) (suc i) c e = let lt : weight (label_view c).body < labels_weight (labels_view conts) = label-at conts i c e in omega arith

-- a label is lighter than all labels
pub label-within : (conts : List Cont) (i : ℕ) (c : Cont) → i < length conts → c ≡ get_or conts i c → weight (label_view c).body < labels_weight (labels_view conts)
label-within conts i c lt e = label-at conts i c (slice_get_read conts (length conts) i c refl lt e)
