-- What the loops of the code do, one step at a time.
use Rattle.std.proofs.Common.{◌≡◌, ℕ, zero, suc, ◌+◌, ◌<◌, ◌≤◌, Bool, true, false, nat_eq, ◌==◌, ◌&&◌, List, [], ◌∷◌, ◌++◌, Option, Some, None, refl, sym, ap, subst, ◌∙◌, ⊎_elim, if◌then◌else◌, length, length-append, slice_get, slice_set, append_assoc, append-nil, arith}
use Rattle.std.proofs.lemmas.Bool.{and_parts, cases_lt, eqb-true}
use Rattle.std.proofs.lemmas.Option.{same_Some, slice_get_within}
use Rattle.nv_base.specs.declared.term.Atom.{Atom}
use Rattle.nv_base.specs.Words.{atom_vars, prim_vars}
use Rattle.nv_base.specs.Sets.{is_in, all_vars}
use Rattle.cps_ir.specs.Term as cps
use Rattle.cps_ir.specs.View.{Seen}
use Rattle.cps_close.specs.inner.Closed.{Table, index_of, or_here, or_nothing, needed_there, needed, with_wanted, closed_labels, used, bound, noted_all, grown, with_list, step, step_there, none_wanted, after, IsReached, IsStill}
use Rattle.cps_close.proofs.Reached.{noted-longer}

-- ---- one more at the end

pub vars-last : (as' : List Atom) (a : Atom) → all_vars (as' ++ a ∷ []) ≡ all_vars as' ++ atom_vars a
vars-last [] a = append-nil (atom_vars a)
vars-last (b ∷ as') a = ap (λ v. atom_vars b ++ v) (vars-last as' a) ∙ sym (append_assoc (atom_vars b) (all_vars as') (atom_vars a))

pub none-last : (cs : List Seen) (c : Seen) → none_wanted (cs ++ c ∷ []) ≡ none_wanted cs ++ [] ∷ []
none-last [] c = refl
none-last (d ∷ cs) c = ap (λ l. [] ∷ l) (none-last cs c)

or-last : (b d : Bool) (o : Option ℕ) (j k : ℕ) → or_here (if b then Some j else o) d k ≡ (if b then Some j else or_here o d k)
or-last true d o j k = refl
or-last false d o j k = refl

here : (b : Bool) (k n : ℕ) → k ≡ n → or_here None b k ≡ (if b then Some n else None)
here true k n e = ap (λ m. Some m) e
here false k n e = refl

pub index-last : (k : ℕ) (cs : List Seen) (c : Seen) (l : ℕ) → index_of k (cs ++ c ∷ []) l ≡ (if nat_eq c.label l then Some (k + length cs) else index_of k cs l)
index-last k [] c l = here (nat_eq c.label l) k (k + 0) (let same : k ≡ k + 0 = omega arith in same)
index-last k (d ∷ cs) c l =
    ap (λ o. or_here o (nat_eq d.label l) k) (index-last (suc k) cs c l) ∙ or-last (nat_eq c.label l) (nat_eq d.label l) (index_of (suc k) cs l) (suc k + length cs) k
    ∙ ap (λ n. if nat_eq c.label l then Some n else index_of k (d ∷ cs) l) (let next : suc k + length cs ≡ k + suc (length cs) = omega arith in next)

pub closed-last : (tab : Table) (cs : List Seen) (c : Seen) (ws : List (List ℕ)) → closed_labels tab (cs ++ c ∷ []) ws ≡ closed_labels tab cs ws ++ with_wanted tab c (or_nothing (slice_get ws (length cs))) ∷ []
closed-last tab [] c [] = refl
closed-last tab [] c (w ∷ ws) = refl
closed-last tab (d ∷ cs) c [] = ap (λ l. with_wanted tab d [] ∷ l) (closed-last tab cs c [])
closed-last tab (d ∷ cs) c (w ∷ ws) = ap (λ l. with_wanted tab d w ∷ l) (closed-last tab cs c ws)

-- ---- tables

-- terms use the same where labels want the same
pub used-same : (a b : Table) → ((l : ℕ) → needed a l ≡ needed b l) → (t : cps.Term) → used a t ≡ used b t
used-same a b h (cps.Let x p t) = ap (λ l. prim_vars p ++ l) (used-same a b h t)
used-same a b h (cps.Read m xs c t) = ap (λ l. atom_vars c ++ l) (used-same a b h t)
used-same a b h (cps.Write m c bs t) = ap (λ l. all_vars (c ∷ bs) ++ l) (used-same a b h t)
used-same a b h (cps.If o c d t u) = ap (λ l. all_vars (c ∷ d ∷ []) ++ (l ++ used a u)) (used-same a b h t) ∙ ap (λ l. all_vars (c ∷ d ∷ []) ++ (used b t ++ l)) (used-same a b h u)
used-same a b h (cps.Fix ls t) = used-same a b h t
used-same a b h (cps.Call f bs k hs) = refl
used-same a b h (cps.Return bs) = refl
used-same a b h (cps.Throw e bs) = refl
used-same a b h (cps.Jump l bs) = ap (λ v. all_vars bs ++ v) (h l)
used-same a b h (cps.Halt e bs) = refl

needed-same : (cs : List Seen) (a b : Table) → a.lists ≡ b.lists → ((l : ℕ) → a.index l ≡ b.index l) → (l : ℕ) → needed a l ≡ needed b l
needed-same cs a b e h l = ap (λ ws. needed_there ws (a.index l)) e ∙ ap (needed_there b.lists) (h l)

index-there : (tab : Table) (o : Option Seen) (i l : ℕ) → (step_there tab o i).index l ≡ tab.index l
index-there tab (Some c) i l = refl
index-there tab None i l = refl

index-after : (cs : List Seen) (is : List ℕ) (l : ℕ) → (after cs is).index l ≡ index_of 0 cs l
index-after cs [] l = refl
index-after cs (i ∷ is) l = index-there (after cs is) (slice_get cs i) i l ∙ index-after cs is l

-- one step more
pub reached-step : (cs : List Seen) (tab next : Table) (c : Seen) (i : ℕ) → slice_get cs i ≡ Some c → next ≡ step tab c i → IsReached cs tab → IsReached cs next
reached-step cs tab next c i at is r =
    let last = after cs r.steps in
    let same = needed-same cs tab (after cs r.steps) r.lists (λ l. r.index l ∙ sym (index-after cs r.steps l)) in
    let grows : grown tab c i ≡ grown (after cs r.steps) c i =
    ap (λ ws. noted_all (bound c) (needed_there ws (Some i)) (used tab c.body)) r.lists ∙ ap (λ us. noted_all (bound c) (needed_there (after cs r.steps).lists (Some i)) us) (used-same tab (after cs r.steps) same c.body) in
    let here : (after cs (i ∷ r.steps)).lists ≡ slice_set (after cs r.steps).lists i (grown (after cs r.steps) c i) = ap (λ o. (step_there (after cs r.steps) o i).lists) at in
    record {
      steps = i ∷ r.steps;
      lists = ap (λ (t : Table). t.lists) is ∙ ap (λ ws. slice_set ws i (grown tab c i)) r.lists ∙ ap (λ v. slice_set (after cs r.steps).lists i v) grows ∙ sym here;
      index = λ l. ap (λ (t : Table). t.index l) is ∙ r.index l;
    }

-- a list to which nothing was added is the same
same-list : (b : Bool) (gone us ws : List ℕ) (x : ℕ) → (length (noted_all gone ws us) ≡ length ws → noted_all gone ws us ≡ ws) → length (noted_all gone (if b then ws else ws ++ x ∷ []) us) ≡ length ws → noted_all gone (if b then ws else ws ++ x ∷ []) us ≡ ws
same-list true gone us ws x h e = h e
same-list false gone us ws x h e = absurd (omega (arith, noted-longer gone us (ws ++ x ∷ []), length-append ws (x ∷ [])))

pub noted-same : (gone us ws : List ℕ) → length (noted_all gone ws us) ≡ length ws → noted_all gone ws us ≡ ws
noted-same gone [] ws e = refl
noted-same gone (x ∷ us) ws e = same-list (is_in x (gone ++ ws)) gone us ws x (noted-same gone us ws) e

set-back : (ws : List (List ℕ)) (i : ℕ) → slice_set ws i (or_nothing (slice_get ws i)) ≡ ws
set-back [] i = refl
set-back (w ∷ ws) zero = refl
set-back (w ∷ ws) (suc i) = ap (λ l. w ∷ l) (set-back ws i)

abbrev pub relisted : Table → List (List ℕ) → Table
relisted tab ws = record { index = tab.index; lists = ws }

pub step-still : (tab : Table) (c : Seen) (i : ℕ) → length (grown tab c i) ≡ length (needed_there tab.lists (Some i)) → step tab c i ≡ tab
step-still tab c i e =
    ap (λ v. with_list tab i v) (noted-same (bound c) (used tab c.body) (needed_there tab.lists (Some i)) e) ∙ ap (relisted tab) (set-back tab.lists i)

-- a sweep up to an index: if all was the same, each label up to there is still
pub record Swept (cs : List Seen) (tab : Table) (same : Bool) (i : ℕ) : Type 0 where
  pub reached : IsReached cs tab
  pub still : same ≡ true → (k : ℕ) → k < i → IsStill cs tab k

still-at : (cs : List Seen) (tab : Table) (c : Seen) (i j : ℕ) → slice_get cs i ≡ Some c → length (grown tab c i) ≡ length (needed_there tab.lists (Some i)) → j < i + 1 → ((k : ℕ) → k < i → IsStill cs tab k) → IsStill cs tab j
still-at cs tab c i j at n lt before =
    ⊎_elim (λ (h : j < i). before j h)
    (λ (h : i ≤ j).
    let same : i ≡ j = omega arith in
    subst (λ k. IsStill cs tab k) same
    (λ d there.
    let one : Some c ≡ Some d = sym at ∙ there in
    let is : c ≡ d = same_Some c d one in
    subst (λ z. length (grown tab z i) ≡ length (needed_there tab.lists (Some i))) is n))
    (cases_lt j i)

pub swept-step : (cs : List Seen) (tab next : Table) (same kept : Bool) (c : Seen) (i : ℕ) → slice_get cs i ≡ Some c → next ≡ step tab c i → kept ≡ (length (grown tab c i) == length (needed_there tab.lists (Some i))) → Swept cs tab same i → Swept cs next (same && kept) (i + 1)
swept-step cs tab next same kept c i at is k s = record {
  reached = reached-step cs tab next c i at is s.reached;
  still = λ e.
      let parts = and_parts same kept e in
      let n : length (grown tab c i) ≡ length (needed_there tab.lists (Some i)) = eqb-true (length (grown tab c i)) (length (needed_there tab.lists (Some i))) (sym k ∙ parts.1) in
      let back : tab ≡ next = sym (is ∙ step-still tab c i n) in
      λ j lt. subst (λ t. IsStill cs t j) back (still-at cs tab c i j at n lt (s.still parts.0));
}

pub swept-all : (cs : List Seen) (tab : Table) (same : Bool) → Swept cs tab same (length cs) → same ≡ true → (i : ℕ) → IsStill cs tab i
swept-all cs tab same s e i c at = s.still e i (slice_get_within cs i c at) c at
