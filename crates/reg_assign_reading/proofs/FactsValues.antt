-- What the lines say of a value.
use Rattle.std.proofs.Common.{◌≡◌, ℕ, ◌+◌, ◌≤◌, nat_eq, Bool, true, false, not, ◌||◌, ◌&&◌, if◌then◌else◌, List, [], ◌∷◌, ◌++◌, map, refl, sym, ap, subst, inl, ⊎_elim, ◌∙◌, arith}
use Rattle.std.specs.List.{flat_map}
use Rattle.std.proofs.lemmas.Bool.{false≢true, false_from_ne_true, and_from, or_left, or_right}
use Rattle.nv_base.specs.Sets.{is_in, all_different}
use Rattle.nv_base.specs.declared.term.Mem.{Mem}
use Rattle.ssu_ir.specs.Tree.{Label}
use Rattle.ssu_ir.specs.Points.{points}
use Rattle.place_plan.specs.Uses.{ValueOrigin, Value, values, place_values, Role, Operand, Address, Written, Argument, Ending, Use, uses, uses_of, is_used}
use Rattle.place_plan.specs.Fits.{is_result, same_use}
use Rattle.ssu_liveness.proofs.Scoped.{in-itself}
use Rattle.place_plan.proofs.Sound.{Each}
use Rattle.place_plan.proofs.Spilled.{Apart, each-left, each-right}
use Rattle.bank_prog_form.specs.declared.column.Bank.{Bank}
use Rattle.bank_prog_form.specs.declared.column.Bank.TheVariants.{A, B, M}
use Rattle.bank_prog_form.specs.declared.column.Column.{Column}
use Rattle.bank_prog_form.specs.declared.column.Column.TheVariants.{Def, Fill, Stay, EarlyWrite, First, WriteVia}
use Rattle.bank_prog_form.specs.Columns.{origin_in, is_fetched, eight, may_begin, beginnings, role_beginnings, origin_beginnings, place_words, point_uses}
use Rattle.zo_model.specs.Program.{cost_where}
use Rattle.nv_base.proofs.Sets.{same-number}
use Rattle.bank_prog_form.specs.Rows as rows
use Rattle.bank_prog_form.specs.Rows.{Line, def, dir, ear, home, homes, fill, covers, at_most, exactly_one, is_parameter, is_written, parameter_choice, result_choice, copy_cover, copy_lines, word_from_register, stay_begins, word_begins, begins_at, adjacency, value_written, slot_written}
use Rattle.bank_prog.specs.Meaning.{Chosen, Holds}
use Rattle.reg_assign_reading.specs.inner.Facts.{OnlyThere, count, some_on, in_register, ValueFacts}
use Rattle.reg_assign_reading.proofs.Counts.{In, in-contained, in-kept, map-in, each-in, each-flat, each-map, each-points, if-there, at-most, covered, exactly-one, count-append, some-counted, counted-any}
use Rattle.reg_assign_reading.proofs.FactsThere.{there}

-- ---- a few columns

pub one-on : (on : Chosen) (c : Column) (cs : List Column) → on c ≡ true → 1 ≤ count on (c ∷ cs)
one-on on c cs e = some-counted on c (c ∷ cs) (inl refl) e

pub on-one : (on : Chosen) (c : Column) → 1 ≤ count on (c ∷ []) → on c ≡ true
on-one on c h = by (on c) h
  where
    by : (b : Bool) → 1 ≤ cost_where b 1 + 0 → b ≡ true
    by true l = refl
    by false l = absurd (omega (arith, l))

pub one-covers : (on : Chosen) (c d : Column) → Holds on (covers (c ∷ []) (d ∷ [])) → on d ≡ true → on c ≡ true
one-covers on c d h e =
    let l = covered on (c ∷ []) (d ∷ []) h in
    let m = one-on on d [] e in
    on-one on c (omega (arith, l, m))

pub two-on : (on : Chosen) (c d : Column) → count on (c ∷ d ∷ []) ≤ 1 → on c ≡ true → on d ≡ true → ⊥
two-on on c d h e f = by (on c) (on d) e f h
  where
    by : (a b : Bool) → a ≡ true → b ≡ true → cost_where a 1 + (cost_where b 1 + 0) ≤ 1 → ⊥
    by true true e f l = absurd (omega (arith, l))
    by true false e f l = absurd (false≢true f)
    by false b e f l = absurd (false≢true e)

pub two-or : (on : Chosen) (c d : Column) → 1 ≤ count on (c ∷ d ∷ []) → (on c || on d) ≡ true
two-or on c d h = by (on c) (on d) h
  where
    by : (a b : Bool) → 1 ≤ cost_where a 1 + (cost_where b 1 + 0) → (a || b) ≡ true
    by true b l = refl
    by false true l = refl
    by false false l = absurd (omega (arith, l))

-- ---- values and uses are told apart

in-vars : (v : Value) (vs : List Value) → In v vs → is_in v.var (map (λ w. w.var) vs) ≡ true
in-vars v [] i = absurd i
in-vars v (w ∷ vs) i = ⊎_elim
    (λ (e : w ≡ v). or_left (nat_eq v.var w.var) (is_in v.var (map (λ w. w.var) vs)) (subst (λ (z : Value). nat_eq v.var z.var ≡ true) (sym e) (in-itself v.var)))
    (λ (j : In v vs). or_right (nat_eq v.var w.var) (is_in v.var (map (λ w. w.var) vs)) (in-vars v vs j))
    i

not-among : (v w : Value) (vs : List Value) → (not (is_in v.var (map (λ w. w.var) vs)) && all_different (map (λ w. w.var) vs)) ≡ true → In w vs → w.var ≡ v.var → ⊥
not-among v w vs d i e = by (is_in v.var (map (λ w. w.var) vs)) (all_different (map (λ w. w.var) vs)) d (subst (λ x. is_in x (map (λ w. w.var) vs) ≡ true) e (in-vars w vs i))
  where
    by : (a b : Bool) → (not a && b) ≡ true → a ≡ true → ⊥
    by true b d e = absurd (false≢true d)
    by false b d e = absurd (false≢true e)

others-different : (v : Value) (vs : List Value) → all_different (map (λ w. w.var) (v ∷ vs)) ≡ true → all_different (map (λ w. w.var) vs) ≡ true
others-different v vs d = by (is_in v.var (map (λ w. w.var) vs)) (all_different (map (λ w. w.var) vs)) d
  where
    by : (a b : Bool) → (not a && b) ≡ true → b ≡ true
    by true b d = absurd (false≢true d)
    by false b d = d

pub same-value : (vs : List Value) (v w : Value) → all_different (map (λ w. w.var) vs) ≡ true → In v vs → In w vs → w.var ≡ v.var → w ≡ v
same-value [] v w d i j e = absurd i
same-value (u ∷ vs) v w d i j e = ⊎_elim
    (λ (a : u ≡ v). ⊎_elim
    (λ (b : u ≡ w). sym b ∙ a)
    (λ (b : In w vs). absurd (not-among u w vs d b (e ∙ ap (λ (z : Value). z.var) (sym a))))
    j)
    (λ (a : In v vs). ⊎_elim
    (λ (b : u ≡ w). absurd (not-among u v vs d a (sym e ∙ ap (λ (z : Value). z.var) (sym b))))
    (λ (b : In w vs). same-value vs v w (others-different u vs d) a b e)
    j)
    i

pub origin-found : (vs : List Value) (v : Value) → all_different (map (λ w. w.var) vs) ≡ true → In v vs → origin_in vs v.var ≡ v.origin
origin-found [] v d i = absurd i
origin-found (u ∷ vs) v d i = ⊎_elim
    (λ (a : u ≡ v). here (nat_eq u.var v.var) (subst (λ (z : Value). nat_eq z.var v.var ≡ true) (sym a) (in-itself v.var)) u.origin (origin_in vs v.var) v.origin (ap (λ (z : Value). z.origin) a))
    (λ (a : In v vs). past (nat_eq u.var v.var) u.origin (origin_in vs v.var) v.origin (λ e. not-among u v vs d a (sym (same-number u.var v.var e))) (origin-found vs v (others-different u vs d) a))
    i
  where
    here : (b : Bool) → b ≡ true → (s t r : ValueOrigin) → s ≡ r → (if b then s else t) ≡ r
    here true e s t r f = f
    here false e s t r f = absurd (false≢true e)

    past : (b : Bool) (s t r : ValueOrigin) → (b ≡ true → ⊥) → t ≡ r → (if b then s else t) ≡ r
    past true s t r n f = absurd (n refl)
    past false s t r n f = f

pub same-use : (us : List Use) (u w : Use) → Apart us → In u us → In w us → w.point ≡ u.point → w.operand ≡ u.operand → w ≡ u
same-use [] u w d i j e f = absurd i
same-use (z ∷ us) u w d i j e f = ⊎_elim
    (λ (a : z ≡ u). ⊎_elim
    (λ (b : z ≡ w). sym b ∙ a)
    (λ (b : In w us). absurd (false≢true (sym (each-in (λ v. same_use z v ≡ false) w us d.0 b) ∙ both z w (ap (λ (v : Use). v.point) a ∙ sym e) (ap (λ (v : Use). v.operand) a ∙ sym f))))
    j)
    (λ (a : In u us). ⊎_elim
    (λ (b : z ≡ w). absurd (false≢true (sym (each-in (λ v. same_use z v ≡ false) u us d.0 a) ∙ both z u (ap (λ (v : Use). v.point) b ∙ e) (ap (λ (v : Use). v.operand) b ∙ f))))
    (λ (b : In w us). same-use us u w d.1 a b e f)
    j)
    i
  where
    both : (a b : Use) → a.point ≡ b.point → a.operand ≡ b.operand → same_use a b ≡ true
    both a b p o = and_from (nat_eq a.point b.point) (nat_eq a.operand b.operand)
        (subst (λ n. nat_eq a.point n ≡ true) p (in-itself a.point)) (subst (λ n. nat_eq a.operand n ≡ true) o (in-itself a.operand))

-- ---- where a run begins

pub in-eight : (m : Mem) (n f : ℕ) → In f (beginnings m n) → In f eight
in-eight m n f i = let w = in-kept (may_begin m n) f eight i in w.0

pub role-eight : (n f : ℕ) (r : Role) → In f (role_beginnings n r) → In f eight
role-eight n f Operand i = absurd i
role-eight n f Address i = absurd i
role-eight n f (Written m j) i = in-eight m n f i
role-eight n f (Argument l j) i = absurd i
role-eight n f (Ending j) i = absurd i

pub role-written : (n f : ℕ) (r : Role) → In f (role_beginnings n r) → is_written r ≡ true
role-written n f Operand i = absurd i
role-written n f Address i = absurd i
role-written n f (Written m j) i = refl
role-written n f (Argument l j) i = absurd i
role-written n f (Ending j) i = absurd i

pub used-value : (u : Use) (us : List Use) (x : ℕ) → In u us → nat_eq u.value x ≡ true → is_in x (map (λ u. u.value) us) ≡ true
used-value u [] x i e = absurd i
used-value u (w ∷ us) x i e = ⊎_elim
    (λ (a : w ≡ u).
    let s : u.value ≡ x = same-number u.value x e in
    or_left (nat_eq x w.value) (is_in x (map (λ u. u.value) us)) (subst (λ n. nat_eq x n ≡ true) (sym s ∙ ap (λ (z : Use). z.value) (sym a)) (in-itself x)))
    (λ (j : In u us). or_right (nat_eq x w.value) (is_in x (map (λ u. u.value) us)) (used-value u us x j e))
    i

pub used-of : (labels : List Label) (u : Use) (x : ℕ) → In u (uses_of labels x) → In u (uses labels) × (u.value ≡ x) × (is_used labels x ≡ true)
used-of labels u x i =
    let w = in-kept (λ (u : Use). nat_eq u.value x) u (uses labels) i in
    (w.0, same-number u.value x w.1, used-value u (uses labels) x w.0 w.1)

-- ---- what the lines say of a value

-- the lines in which a value stands
pub record ValueLines (labels : List Label) (on : Chosen) (v : Value) : Type 0 where
  pub parameter : Each (Holds on) (parameter_choice v)
  pub result : Each (Holds on) (result_choice labels v)
  pub copy : Each (Holds on) (copy_cover labels v)
  pub written : Each (Holds on) (value_written labels v)

pub record Known (labels : List Label) (on : Chosen) : Type 0 where
  pub only : OnlyThere labels on
  pub different : all_different (map (λ w. w.var) (values labels)) ≡ true
  pub apart : Apart (uses labels)
  pub begins : Each (Holds on) (adjacency labels)

abbrev later-copies : List Label → ℕ → List Line
later-copies labels x = map (λ h. covers (rows.in_register x) (fill x h)) homes ++ flat_map (word_from_register x) (uses_of labels x)

abbrev to-slots : Value → List Line
to-slots v = slot_written v.point (Fill v.var M) ∷ (if is_result v.origin then slot_written v.point (Def v.var M) ∷ [] else [])

copied : (labels : List Label) (on : Chosen) (v : Value) → ValueLines labels on v → is_used labels v.var ≡ true → is_fetched v.origin ≡ false → Each (Holds on) (copy_lines labels v.var)
copied labels on v h used unread =
    if-there (Holds on) (is_used labels v.var && not (is_fetched v.origin)) (copy_lines labels v.var) h.copy
    (and_from (is_used labels v.var) (not (is_fetched v.origin)) used (ap not unread))

stay-begins : (labels : List Label) (on : Chosen) (v : Value) (f : ℕ) → Known labels on → In v (values labels) → on (Stay v.var f) ≡ true → on (First v.point f) ≡ true
stay-begins labels on v f g i e =
    let t = there labels on (Stay v.var f) g.only e in
    let at = t.0 in
    let w = at.value in
    let same : w ≡ v = same-value (values labels) v w g.different i at.there at.var in
    let n = place_words at.place.place in
    let here = each-points (Holds on) (begins_at labels) 0 at.point at.point (points labels) at.place (omega arith) at.at g.begins in
    let values = each-flat (Holds on) (stay_begins labels n) (place_values at.point at.place.place) (each-left (Holds on) (flat_map (stay_begins labels n) (place_values at.point at.place.place)) (flat_map (word_begins n) (point_uses at.point at.place)) here) in
    let mine = each-in (λ z. Each (Holds on) (stay_begins labels n z)) w (place_values at.point at.place.place) values at.here in
    let used : is_used labels w.var ≡ true = subst (λ x. is_used labels x ≡ true) (sym at.var) t.1 in
    let row = each-map (Holds on) (λ f. covers (First w.point f ∷ []) (Stay w.var f ∷ [])) (origin_beginnings n w.origin) (if-there (Holds on) (is_used labels w.var) _ mine used) in
    let line = each-in (λ f. Holds on (covers (First w.point f ∷ []) (Stay w.var f ∷ []))) f (origin_beginnings n w.origin) row t.2 in
    subst (λ (z : Value). on (First z.point f) ≡ true) same
    (one-covers on (First w.point f) (Stay w.var f) line (subst (λ x. on (Stay x f) ≡ true) (sym at.var) e))

fill-register : (labels : List Label) (on : Chosen) (v : Value) (h : Bank) → ValueLines labels on v → Known labels on → is_fetched v.origin ≡ false → on (Fill v.var h) ≡ true → in_register on v.var ≡ true
fill-register labels on v h l g unread e =
    let t = there labels on (Fill v.var h) g.only e in
    let ls = copied labels on v l t.0 unread in
    let x = v.var in
    let second = each-left (Holds on) (map (λ h. covers (rows.in_register x) (fill x h)) homes) (flat_map (word_from_register x) (uses_of labels x))
    (each-right (Holds on) (map (λ h. at_most 1 (home x h)) homes) (later-copies labels x) ls) in
    let line = each-in (λ h. Holds on (covers (rows.in_register x) (fill x h))) h homes (each-map (Holds on) (λ h. covers (rows.in_register x) (fill x h)) homes second) t.1 in
    let a = covered on (rows.in_register x) (fill x h) line in
    let b = one-on on (Fill x h) [] e in
    two-or on (Def x A) (Def x B) (omega (arith, a, b))

fill-once : (labels : List Label) (on : Chosen) (v : Value) (h : Bank) → ValueLines labels on v → Known labels on → In v (values labels) → on (Def v.var h) ≡ true → on (Fill v.var h) ≡ true → ⊥
fill-once labels on v h l g i e f =
    let t = there labels on (Fill v.var h) g.only f in
    let d = there labels on (Def v.var h) g.only e in
    let same : d.0 ≡ v = same-value (values labels) v d.0 g.different i d.1 d.2 in
    let unread : is_fetched v.origin ≡ false = subst (λ (z : Value). is_fetched z.origin ≡ false) same d.3 in
    let ls = copied labels on v l t.0 unread in
    let x = v.var in
    let first = each-left (Holds on) (map (λ h. at_most 1 (home x h)) homes) (later-copies labels x) ls in
    let line = each-in (λ h. Holds on (at_most 1 (home x h))) h homes (each-map (Holds on) (λ h. at_most 1 (home x h)) homes first) t.1 in
    two-on on (Def x h) (Fill x h) (at-most on 1 (home x h) line) e f

ear-register : (labels : List Label) (on : Chosen) (v : Value) (u : Use) (f : ℕ) → ValueLines labels on v → Known labels on → is_fetched v.origin ≡ false → In u (uses_of labels v.var) → on (EarlyWrite u.point u.operand f) ≡ true → in_register on v.var ≡ true
ear-register labels on v u f l g unread i e =
    let x = v.var in
    let w = used-of labels u x i in
    let t = there labels on (EarlyWrite u.point u.operand f) g.only e in
    let at = t.0 in
    let same : at.use_ ≡ u = same-use (uses labels) u at.use_ g.apart w.0 at.there at.point at.operand in
    let b : In f (role_beginnings (place_words at.place.place) u.role) = subst (λ (z : Use). In f (role_beginnings (place_words at.place.place) z.role)) same t.1 in
    let ls = copied labels on v l w.2 unread in
    let third = each-right (Holds on) (map (λ h. covers (rows.in_register x) (fill x h)) homes) (flat_map (word_from_register x) (uses_of labels x))
    (each-right (Holds on) (map (λ h. at_most 1 (home x h)) homes) (later-copies labels x) ls) in
    let mine = each-in (λ z. Each (Holds on) (word_from_register x z)) u (uses_of labels x) (each-flat (Holds on) (word_from_register x) (uses_of labels x) third) i in
    let line = if-there (Holds on) (is_written u.role) (covers (rows.in_register x) (ear u) ∷ []) mine (role-written (place_words at.place.place) f u.role b) in
    let a = covered on (rows.in_register x) (ear u) line.0 in
    let c = some-counted on (EarlyWrite u.point u.operand f) (ear u) (map-in (EarlyWrite u.point u.operand) f eight (role-eight (place_words at.place.place) f u.role b)) e in
    two-or on (Def x A) (Def x B) (omega (arith, a, c))

to-slot : (on : Chosen) (k : ℕ) (c : Column) → Holds on (slot_written k c) → on c ≡ true → some_on on (WriteVia k) ≡ true
to-slot on k c h e =
    let a = covered on (map (WriteVia k) eight) (c ∷ []) h in
    let b = one-on on c [] e in
    counted-any on (WriteVia k) eight (omega (arith, a, b))

pub value-facts : (labels : List Label) (on : Chosen) (v : Value) → ValueLines labels on v → Known labels on → In v (values labels) → ValueFacts labels on v
value-facts labels on v l g i = record {
  origin = origin-found (values labels) v g.different i;
  parameter = λ e. exactly-one on (def v.var) (if-there (Holds on) (is_parameter v.origin) (exactly_one (def v.var)) l.parameter e);
  result = λ e. sym (count-append on (def v.var) (flat_map dir (uses_of labels v.var)))
      ∙ exactly-one on (def v.var ++ flat_map dir (uses_of labels v.var)) (if-there (Holds on) (is_result v.origin) (exactly_one (def v.var ++ flat_map dir (uses_of labels v.var))) l.result e);
  read = λ e h. false_from_ne_true (on (Def v.var h)) (λ f.
      let d = there labels on (Def v.var h) g.only f in
      let same : d.0 ≡ v = same-value (values labels) v d.0 g.different i d.1 d.2 in
      false≢true (sym (subst (λ (z : Value). is_fetched z.origin ≡ false) same d.3) ∙ e));
  once = λ h e. false_from_ne_true (on (Fill v.var h)) (λ f. fill-once labels on v h l g i e f);
  filled = λ unread h e. fill-register labels on v h l g unread e;
  eared = λ unread u j f e. ear-register labels on v u f l g unread (in-contained u (uses_of labels v.var) j) e;
  unused = λ unread h. false_from_ne_true (on (Fill v.var h)) (λ f. let t = there labels on (Fill v.var h) g.only f in false≢true (sym unread ∙ t.0));
  stays = λ f e. stay-begins labels on v f g i e;
  slot_copied = λ e.
      let t = there labels on (Fill v.var M) g.only e in
      let ls = if-there (Holds on) (is_used labels v.var) (to-slots v) l.written t.0 in
      to-slot on v.point (Fill v.var M) ls.0 e;
  slot_defined = λ used result e.
      let ls = if-there (Holds on) (is_used labels v.var) (to-slots v) l.written used in
      let m = if-there (Holds on) (is_result v.origin) (slot_written v.point (Def v.var M) ∷ []) ls.1 result in
      to-slot on v.point (Def v.var M) m.0 e;
}
