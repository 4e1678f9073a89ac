-- A table that is reached by steps and still at each label: its labels are settled, and want no more than their `Fix` does.
use Rattle.std.proofs.Common.{◌≡◌, ℕ, zero, suc, ◌+◌, ◌≤◌, ◌≢◌, Bool, true, false, nat_eq, nat_le, ◌&&◌, List, [], ◌∷◌, ◌++◌, Option, Some, None, refl, sym, ap, subst, ◌∙◌, ⊎_elim, if◌then◌else◌, length, length-append, slice_get, slice_set, arith}
use Rattle.std.proofs.lemmas.Bool.{and_parts, or_left, or_from, cases_eq, false≢true, false_from_ne_true, le-leb}
use Rattle.std.proofs.lemmas.Option.{none-some, same_Some}
use Rattle.nv_base.specs.Sets.{is_in, all_different, Within}
use Rattle.nv_base.proofs.Sets.{same-number}
use Rattle.cps_ir.specs.Term.{Term, Let, Read, Write, If, Fix, Call, Return, Throw, Jump, Halt, Labels, none, label, Fun}
use Rattle.cps_ir.specs.View.{Seen}
use Rattle.cps_ir.specs.Formed.{is_formed, is_function, defined, made}
use Rattle.cps_ir.specs.Wide.{Wants, with_wants, labels_want, inside, nowhere}
use Rattle.cps_ir.specs.Callless.{only_jumps}
use Rattle.cps_close.specs.inner.Closed.{Table, labels_in, labels_of_all, index_of, or_nothing, needed_there, needed, number_there, with_wanted, closed, used, bound, noted, noted_all, grown, step, step_there, none_wanted, start, after, IsReached, IsTable}
use Rattle.flow_ir.proofs.Members.{either, first-or-rest, in-rest, out-both, in-not-out, in-or-out, different-parts, different-join}
use Rattle.flow_ir.specs.inner.Scoped.{Apart}
use Rattle.cps_close.proofs.Places.{Everywhere, AllPlaces, Least, Uses, Among, Sub, sub-left, sub-right, Setting, Place}
use Rattle.cps_close.proofs.Settles.{uses-in, AllSettled}
use Rattle.cps_close.proofs.Tables.{names, names-different, present, closed-at, set-other, set-past}

-- ---- variables that join a list

in-one : (y x : ℕ) (us : List ℕ) → nat_eq y x ≡ true → is_in y (x ∷ us) ≡ true
in-one y x us e = or_left (nat_eq y x) (is_in y us) e

out-one : (y x : ℕ) → (nat_eq y x ≡ true → ⊥) → is_in y (x ∷ []) ≡ false
out-one y x h = or_from (nat_eq y x) false (false_from_ne_true (nat_eq y x) h) refl

joins : (b : Bool) (ws : List ℕ) (x y : ℕ) (gone : List ℕ) → is_in x (gone ++ ws) ≡ b → is_in y (if b then ws else ws ++ x ∷ []) ≡ true → (is_in y ws ≡ true → ⊥) → (nat_eq y x ≡ true) × (is_in x gone ≡ false)
joins true ws x y gone i e h = absurd (h e)
joins false ws x y gone i e h = either y ws (x ∷ []) e (λ q. absurd (h q)) (λ q. first-or-rest y x [] q (λ r. (r, (out-both x gone ws i).0)) (λ r. absurd (false≢true r)))

-- what is in the list afterwards was there, or is one of those that joined
pub noted-from : (gone us ws : List ℕ) (y : ℕ) (P : Type 0) → is_in y (noted_all gone ws us) ≡ true → (is_in y ws ≡ true → P) → (is_in y us ≡ true → is_in y gone ≡ false → P) → P
noted-from gone [] ws y P e f g = f e
noted-from gone (x ∷ us) ws y P e f g =
    noted-from gone us (noted gone ws x) y P e
    (λ q. in-or-out y ws f (λ o.
    let h = joins (is_in x (gone ++ ws)) ws x y gone refl q (λ r. in-not-out y ws r o) in
    g (in-one y x us h.0) (subst (λ z. is_in z gone ≡ false) (sym (same-number y x h.0)) h.1)))
    (λ q o. g (in-rest y x us q) o)

longer-at : (b : Bool) (ws : List ℕ) (x : ℕ) → length ws ≤ length (if b then ws else ws ++ x ∷ [])
longer-at true ws x = omega arith
longer-at false ws x = omega (arith, length-append ws (x ∷ []))

pub noted-longer : (gone us ws : List ℕ) → length ws ≤ length (noted_all gone ws us)
noted-longer gone [] ws = omega arith
noted-longer gone (x ∷ us) ws = omega (arith, longer-at (is_in x (gone ++ ws)) ws x, noted-longer gone us (noted gone ws x))

-- where none joined, all were there
same-at : (b : Bool) (gone us ws : List ℕ) (x : ℕ) → is_in x (gone ++ ws) ≡ b → length (noted_all gone (if b then ws else ws ++ x ∷ []) us) ≡ length ws → (is_in x (gone ++ ws) ≡ true) × (length (noted_all gone ws us) ≡ length ws)
same-at true gone us ws x i e = (i, e)
same-at false gone us ws x i e = absurd (omega (arith, noted-longer gone us (ws ++ x ∷ []), length-append ws (x ∷ [])))

pub noted-still : (gone us ws : List ℕ) (y : ℕ) → length (noted_all gone ws us) ≡ length ws → is_in y us ≡ true → is_in y (gone ++ ws) ≡ true
noted-still gone [] ws y e i = absurd (false≢true i)
noted-still gone (x ∷ us) ws y e i =
    let h = same-at (is_in x (gone ++ ws)) gone us ws x refl e in
    first-or-rest y x us i (λ (q : nat_eq y x ≡ true). subst (λ z. is_in z (gone ++ ws) ≡ true) (sym (same-number y x q)) h.0) (λ q. noted-still gone us ws y h.1 q)

-- each is in the list once, and none is bound
pub record Neat (gone ws : List ℕ) : Type 0 where
  pub single : all_different ws ≡ true
  pub apart : Apart ws gone

neat-at : (b : Bool) (gone ws : List ℕ) (x : ℕ) → is_in x (gone ++ ws) ≡ b → Neat gone ws → Neat gone (if b then ws else ws ++ x ∷ [])
neat-at true gone ws x i h = h
neat-at false gone ws x i h =
    let out = out-both x gone ws i in
    record {
      single = different-join ws (x ∷ []) h.single refl
          (λ y e. out-one y x (λ (q : nat_eq y x ≡ true). in-not-out x ws (subst (λ z. is_in z ws ≡ true) (same-number y x q) e) out.1));
      apart = λ y e. either y ws (x ∷ []) e (λ q. h.apart y q) (λ q. first-or-rest y x [] q (λ (r : nat_eq y x ≡ true). subst (λ z. is_in z gone ≡ false) (sym (same-number y x r)) out.0) (λ r. absurd (false≢true r)));
    }

pub noted-neat : (gone us ws : List ℕ) → Neat gone ws → Neat gone (noted_all gone ws us)
noted-neat gone [] ws h = h
noted-neat gone (x ∷ us) ws h = noted-neat gone us (noted gone ws x) (neat-at (is_in x (gone ++ ws)) gone ws x refl h)

-- ---- what holds of each label

mutual
  everywhere-join : (P Q R : List ℕ → Seen → Type 0) (cs : List Seen) → ((held : List ℕ) (c : Seen) → Among cs c → P held c → Q held c → R held c) → (t : Term) (phi : Wants) → Sub (labels_in t) cs → Everywhere P phi t → Everywhere Q phi t → Everywhere R phi t
  everywhere-join P Q R cs h (Let x a t) phi s p q = everywhere-join P Q R cs h t phi s p q
  everywhere-join P Q R cs h (Read m xs a t) phi s p q = everywhere-join P Q R cs h t phi s p q
  everywhere-join P Q R cs h (Write m a bs t) phi s p q = everywhere-join P Q R cs h t phi s p q
  everywhere-join P Q R cs h (If c a b t u) phi s p q =
      (everywhere-join P Q R cs h t phi (sub-left (labels_in t) (labels_in u) cs s) p.0 q.0, everywhere-join P Q R cs h u phi (sub-right (labels_in t) (labels_in u) cs s) p.1 q.1)
  everywhere-join P Q R cs h (Fix ls t) phi s p q =
      (all-join P Q R cs h ls (inside phi ls) (labels_want (with_wants phi ls []) ls) (sub-left (labels_of_all ls) (labels_in t) cs s) p.0 q.0, everywhere-join P Q R cs h t (inside phi ls) (sub-right (labels_of_all ls) (labels_in t) cs s) p.1 q.1)
  everywhere-join P Q R cs h (Call f bs k hs) phi s p q = refl
  everywhere-join P Q R cs h (Return bs) phi s p q = refl
  everywhere-join P Q R cs h (Throw e bs) phi s p q = refl
  everywhere-join P Q R cs h (Jump l bs) phi s p q = refl
  everywhere-join P Q R cs h (Halt e bs) phi s p q = refl

  all-join : (P Q R : List ℕ → Seen → Type 0) (cs : List Seen) → ((held : List ℕ) (c : Seen) → Among cs c → P held c → Q held c → R held c) → (ls : Labels) (phi : Wants) (held : List ℕ) → Sub (labels_of_all ls) cs → AllPlaces P phi held ls → AllPlaces Q phi held ls
      → AllPlaces R phi held ls
  all-join P Q R cs h none phi held s p q = refl
  all-join P Q R cs h (label l xs t ls) phi held s p q =
      let c : Seen = record { label = l; params = xs; body = t } in
      let rest = sub-right (labels_in t) (record { label = l; params = xs; body = t } ∷ labels_of_all ls) cs s in (
        h held (record { label = l; params = xs; body = t }) (rest (record { label = l; params = xs; body = t }) 0 refl) p.0 q.0,
        everywhere-join P Q R cs h t phi (sub-left (labels_in t) (record { label = l; params = xs; body = t } ∷ labels_of_all ls) cs s) p.1 q.1,
        all-join P Q R cs h ls phi held (sub-right (record { label = l; params = xs; body = t } ∷ []) (labels_of_all ls) cs rest) p.2 q.2,
      )

mutual
  everywhere-all : (P : List ℕ → Seen → Type 0) → ((held : List ℕ) (c : Seen) → P held c) → (t : Term) (phi : Wants) → Everywhere P phi t
  everywhere-all P h (Let x a t) phi = everywhere-all P h t phi
  everywhere-all P h (Read m xs a t) phi = everywhere-all P h t phi
  everywhere-all P h (Write m a bs t) phi = everywhere-all P h t phi
  everywhere-all P h (If c a b t u) phi = (everywhere-all P h t phi, everywhere-all P h u phi)
  everywhere-all P h (Fix ls t) phi = (all-all P h ls (inside phi ls) (labels_want (with_wants phi ls []) ls), everywhere-all P h t (inside phi ls))
  everywhere-all P h (Call f bs k hs) phi = refl
  everywhere-all P h (Return bs) phi = refl
  everywhere-all P h (Throw e bs) phi = refl
  everywhere-all P h (Jump l bs) phi = refl
  everywhere-all P h (Halt e bs) phi = refl

  all-all : (P : List ℕ → Seen → Type 0) → ((held : List ℕ) (c : Seen) → P held c) → (ls : Labels) (phi : Wants) (held : List ℕ) → AllPlaces P phi held ls
  all-all P h none phi held = refl
  all-all P h (label l xs t ls) phi held = (h held (record { label = l; params = xs; body = t }), everywhere-all P h t phi, all-all P h ls phi held)

-- ---- a function

abbrev pub setting : List Fun → Fun → Table → Setting
setting funs f tab = record { funs = funs; own = f.group; results = f.results; tab = tab; cs = labels_in f.body }

pub place-of : (funs : List Fun) (f : Fun) (tab : Table) → is_function funs f ≡ true → only_jumps f.body ≡ true → Everywhere (Least tab) nowhere f.body → Place (setting funs f tab) [] nowhere f.params f.body
place-of funs f tab e j least =
    let parts = and_parts (is_formed funs f.group f.results [] f.params f.body) (all_different (f.params ++ defined f.body) && all_different (made f.body)) e in
    let rest = and_parts (all_different (f.params ++ defined f.body)) (all_different (made f.body)) parts.1 in
    let split = different-parts f.params (defined f.body) rest.0 in
    record {
      formed = parts.0;
      jumps = j;
      different = split.1;
      apart = split.2;
      covers = λ l n k. absurd (false≢true k);
      within = λ l n k. absurd (false≢true k);
      least = least;
      sub = λ c i k. (i, k);
    }

pub labels-differ : (funs : List Fun) (f : Fun) → is_function funs f ≡ true → all_different (names (labels_in f.body)) ≡ true
labels-differ funs f e =
    let parts = and_parts (is_formed funs f.group f.results [] f.params f.body) (all_different (f.params ++ defined f.body) && all_different (made f.body)) e in
    names-different f.body (and_parts (all_different (f.params ++ defined f.body)) (all_different (made f.body)) parts.1).1

-- ---- tables after steps

-- what is kept by steps
pub record Kept (f : Fun) (tab : Table) : Type 0 where
  pub index : (l : ℕ) → tab.index l ≡ index_of 0 (labels_in f.body) l
  pub neat : (i : ℕ) (c : Seen) → slice_get (labels_in f.body) i ≡ Some c → Neat (bound c) (or_nothing (slice_get tab.lists i))
  pub least : Everywhere (Least tab) nowhere f.body

none-there : (cs : List Seen) (i : ℕ) → or_nothing (slice_get (none_wanted cs) i) ≡ []
none-there [] i = refl
none-there (c ∷ cs) zero = refl
none-there (c ∷ cs) (suc i) = none-there cs i

none-at : (cs : List Seen) (o : Option ℕ) → needed_there (none_wanted cs) o ≡ []
none-at cs (Some i) = none-there cs i
none-at cs None = refl

neat-none : (gone : List ℕ) → Neat gone []
neat-none gone = record { single = refl; apart = λ x e. absurd (false≢true e) }

kept-start : (f : Fun) → Kept f (start (labels_in f.body))
kept-start f = record {
  index = λ l. refl;
  neat = λ i c e. subst (λ ws. Neat (bound c) ws) (sym (none-there (labels_in f.body) i)) (neat-none (bound c));
  least = everywhere-all (Least (start (labels_in f.body))) (λ held c x e. absurd (false≢true (sym (ap (λ ws. is_in x ws) (none-at (labels_in f.body) (index_of 0 (labels_in f.body) c.label))) ∙ e))) f.body nowhere;
}

-- after a place is set, each list is the old one or the new one
set-there : (ws : List (List ℕ)) (i : ℕ) (v w : List ℕ) → slice_get ws i ≡ Some w → slice_get (slice_set ws i v) i ≡ Some v
set-there [] i v w e = absurd (none-some w e)
set-there (u ∷ ws) zero v w e = refl
set-there (u ∷ ws) (suc i) v w e = set-there ws i v w e

set-at : (P : List ℕ → Type 0) (ws : List (List ℕ)) (i : ℕ) (v : List ℕ) (o : Option (List ℕ)) → slice_get ws i ≡ o → P (or_nothing (slice_get ws i)) → P v → P (or_nothing (slice_get (slice_set ws i v) i))
set-at P ws i v (Some w) e old new = subst (λ p. P (or_nothing p)) (sym (set-there ws i v w e)) new
set-at P ws i v None e old new = subst (λ us. P (or_nothing (slice_get us i))) (sym (set-past ws i v e)) old

set-any : (P : List ℕ → Type 0) (ws : List (List ℕ)) (i j : ℕ) (v : List ℕ) → P (or_nothing (slice_get ws j)) → (i ≡ j → P v) → P (or_nothing (slice_get (slice_set ws i v) j))
set-any P ws i j v old new =
    ⊎_elim (λ (e : i ≡ j). subst (λ k. P (or_nothing (slice_get (slice_set ws i v) k))) e (set-at P ws i v (slice_get ws i) refl (subst (λ k. P (or_nothing (slice_get ws k))) (sym e) old) (new e)))
    (λ (n : i ≢ j). subst (λ p. P (or_nothing p)) (sym (set-other ws i j v n)) old) (cases_eq i j)

pub needed-of : (f : Fun) (tab : Table) → ((l : ℕ) → tab.index l ≡ index_of 0 (labels_in f.body) l) → (i : ℕ) (c : Seen) → all_different (names (labels_in f.body)) ≡ true → slice_get (labels_in f.body) i ≡ Some c → needed tab c.label ≡ or_nothing (slice_get tab.lists i)
needed-of f tab h i c d e = ap (needed_there tab.lists) (h c.label ∙ present 0 (labels_in f.body) i c d e) ∙ (let zero' : 0 + i ≡ i = omega arith in ap (λ n. or_nothing (slice_get tab.lists n)) zero')

kept-step : (funs : List Fun) (f : Fun) (tab : Table) (i : ℕ) (c : Seen) → is_function funs f ≡ true → only_jumps f.body ≡ true → slice_get (labels_in f.body) i ≡ Some c → Kept f tab → Kept f (step tab c i)
kept-step funs f tab i c e j at k =
    let cs = labels_in f.body in
    let d = labels-differ funs f e in
    let v = grown tab c i in
    record {
      index = k.index;
      neat = λ n b there.
          set-any (λ ws. Neat (bound b) ws) tab.lists i n v (k.neat n b there)
          (λ (q : i ≡ n).
          let same : c ≡ b = same_Some c b (sym at ∙ ap (slice_get cs) q ∙ there) in
          subst (λ (z : Seen). Neat (bound z) v) same (noted-neat (bound c) (used tab c.body) (or_nothing (slice_get tab.lists i)) (k.neat i c at)));
      least =
          everywhere-join (Least tab) (Uses tab) (Least (step tab c i)) cs
          (λ held b there old uses.
          let was : Within (or_nothing (slice_get tab.lists there.0)) held = subst (λ ws. Within ws held) (needed-of f tab k.index there.0 b d there.1) old in
          let now : Within (or_nothing (slice_get (slice_set tab.lists i v) there.0)) held =
          set-any (λ ws. Within ws held) tab.lists i there.0 v was
          (λ (q : i ≡ there.0).
          let same : b ≡ c = same_Some b c (sym there.1 ∙ ap (slice_get cs) (sym q) ∙ at) in
          λ x m.
          noted-from (bound c) (used tab c.body) (or_nothing (slice_get tab.lists i)) x (is_in x held ≡ true) m
          (λ r. was x (subst (λ n. is_in x (or_nothing (slice_get tab.lists n)) ≡ true) q r))
          (λ r o. subst (λ (z : Seen). Uses tab held z) same uses x r o)) in
          subst (λ ws. Within ws held) (sym (needed-of f (step tab c i) k.index there.0 b d there.1)) now)
          f.body nowhere (λ b n q. (n, q)) k.least (uses-in (setting funs f tab) f.body [] nowhere f.params (place-of funs f tab e j k.least));
    }

kept-there : (funs : List Fun) (f : Fun) (tab : Table) (i : ℕ) (o : Option Seen) → is_function funs f ≡ true → only_jumps f.body ≡ true → slice_get (labels_in f.body) i ≡ o → Kept f tab → Kept f (step_there tab o i)
kept-there funs f tab i (Some c) e j at k = kept-step funs f tab i c e j at k
kept-there funs f tab i None e j at k = k

kept-after : (funs : List Fun) (f : Fun) (is : List ℕ) → is_function funs f ≡ true → only_jumps f.body ≡ true → Kept f (after (labels_in f.body) is)
kept-after funs f [] e j = kept-start f
kept-after funs f (i ∷ is) e j = kept-there funs f (after (labels_in f.body) is) i (slice_get (labels_in f.body) i) e j refl (kept-after funs f is e j)

pub kept-reached : (funs : List Fun) (f : Fun) (tab : Table) → is_function funs f ≡ true → only_jumps f.body ≡ true → IsReached (labels_in f.body) tab → Kept f tab
kept-reached funs f tab e j r =
    let cs = labels_in f.body in
    let last = after cs r.steps in
    let k = kept-after funs f r.steps e j in
    let same : (l : ℕ) → needed last l ≡ needed tab l = λ l. ap (needed_there last.lists) (k.index l ∙ sym (r.index l)) ∙ ap (λ ws. needed_there ws (tab.index l)) (sym r.lists) in
    record {
      index = r.index;
      neat = λ i c at. subst (λ ws. Neat (bound c) (or_nothing (slice_get ws i))) (sym r.lists) (k.neat i c at);
      least = everywhere-join (Least last) (Least last) (Least tab) cs (λ held b there p q. subst (λ ws. Within ws held) (same b.label) p) f.body nowhere (λ b n q. (n, q)) k.least k.least;
    }

-- ---- settled

pub all-settled : (funs : List Fun) (f : Fun) (tab : Table) → is_function funs f ≡ true → only_jumps f.body ≡ true → IsTable (labels_in f.body) tab → AllSettled (closed tab f) (setting funs f tab)
all-settled funs f tab e j t c i at =
    let cs = labels_in f.body in
    let d = labels-differ funs f e in
    let k = kept-reached funs f tab e j t.reached in
    let ws = or_nothing (slice_get tab.lists i) in
    let is : needed tab c.label ≡ or_nothing (slice_get tab.lists i) = needed-of f tab k.index i c d at in
    let neat = k.neat i c at in
    let index : tab.index c.label ≡ Some i = k.index c.label ∙ present 0 cs i c d at ∙ (let zero' : 0 + i ≡ i = omega arith in ap (λ n. Some n) zero') in
    record {
      whole = λ x u o.
          either x (bound c) (or_nothing (slice_get tab.lists i)) (noted-still (bound c) (used tab c.body) (or_nothing (slice_get tab.lists i)) x (t.still i c at) u) (λ q. in-not-out x (bound c) q o)
          (λ q. subst (λ v. is_in x v ≡ true) (sym is) q);
      apart = λ x q. neat.apart x (subst (λ v. is_in x v ≡ true) is q);
      single = ap all_different is ∙ neat.single;
      found = ap (λ o. slice_get (closed tab f) (number_there o)) index ∙ closed-at tab cs tab.lists i c at ∙ ap (λ v. Some (with_wanted tab c v)) (sym is);
      counted = ap (λ o. nat_le 1 (number_there o)) index ∙ le-leb 1 (suc i) (omega arith);
    }
