-- What a placement that fits says of the values and uses whose columns are chosen by it.
use Rattle.std.proofs.Common.{◌≡◌, ℕ, ◌+◌, nat_eq, Bool, true, false, not, ◌&&◌, if◌then◌else◌, inl, ⊎_elim, Some, List, [], ◌∷◌, ◌++◌, map, refl, sym, ap, subst, ◌∙◌}
use Rattle.std.specs.Prelude.{slice_get}
use Rattle.std.proofs.lemmas.List.Elements.{All-contains}
use Rattle.std.proofs.lemmas.Bool.{false≢true, and_parts, and_from, or_cases, or_left, or_right}
use Rattle.nv_base.specs.Sets.{is_in, all_different}
use Rattle.nv_base.proofs.Sets.{same-number}
use Rattle.nv_base.specs.declared.term.Mem.{Mem}
use Rattle.nv_base.specs.declared.term.Mem.TheVariants.{Sram, Sdram, Scratch}
use Rattle.ssu_ir.specs.Tree.{Label}
use Rattle.ssu_ir.specs.Points.{Point, points, IsLive}
use Rattle.ssu_ir.specs.Single.{single}
use Rattle.ssu_ir.proofs.Liveness.{points_held}
use Rattle.place_plan.specs.declared.place.Place.{Place}
use Rattle.place_plan.specs.Plan.{Home, Plan, home, first}
use Rattle.place_plan.specs.Places.{same_place}
use Rattle.place_plan.specs.Uses.{ValueOrigin, Parameter, Result, Fetched, Value, values, Role, Operand, Address, Written, Argument, Ending, Use, uses, uses_of, is_used}
use Rattle.place_plan.specs.Fits.{read_place, write_place, IsGeneral, is_write_register, same_bank, has_place, none_shared, served, role_register, word_register, is_early, early_uses, AreCopies, IsPutEarly, IsHome, IsHoused, IsServedAt, IsServed, Fits}
use Rattle.place_plan.proofs.Fitting.{apart-from, values-are, entries-in}
use Rattle.ssu_liveness.proofs.Scoped.{in-itself}
use Rattle.place_plan.proofs.Sound.{Each, each-append, Sound, sound-points, uses_among}
use Rattle.place_plan.proofs.Spilled.{Apart, all-each, each-at, sort_param, param_vars}
use Rattle.place_plan.proofs.Joined.{values-different}
use Rattle.ssu_liveness.specs.inner.Numbers.{values_among}
use Rattle.bank_prog_form.specs.declared.column.Column.{Column}
use Rattle.bank_prog_form.specs.Columns.{is_fetched}
use Rattle.bank_prog.specs.Meaning.{Chosen}
use Rattle.reg_assign_reading.specs.inner.Chosen.{use_in, use_at, value_in, value_at, chosen, IsChosen}
use Rattle.reg_assign_reading.proofs.Counts.{In, contained-in, in-map, in-kept, each-from}
use Rattle.reg_assign_reading.proofs.CostValues.{vars-in}
use Rattle.reg_assign_reading.proofs.FactsValues.{same-value, same-use, used-of}

-- a choice of columns by a placement that fits
pub record Placed (labels : List Label) (p : Plan) (on : Chosen) : Type 0 where
  pub form : single labels ≡ true
  pub fits : Fits labels p
  pub is : IsChosen labels p on

pub chosen-on : (labels : List Label) (p : Plan) (on : Chosen) → Placed labels p on → (c : Column) → on c ≡ true → chosen labels p c ≡ true
chosen-on labels p on h c e = sym (h.is.same c (h.is.only c e)) ∙ e

-- ---- a value is found by its variable, and a use by its point and operand

value-found : (vs : List Value) (v : Value) → all_different (map (λ w. w.var) vs) ≡ true → In v vs → value_in vs v.var ≡ v
value-found [] v d i = absurd i
value-found (u ∷ vs) v d i = by (nat_eq u.var v.var) refl (λ j. value-found vs v (and_parts (not (is_in u.var (map (λ w. w.var) vs))) (all_different (map (λ w. w.var) vs)) d).1 j)
  where
    by : (b : Bool) → nat_eq u.var v.var ≡ b → (In v vs → value_in vs v.var ≡ v) → (if b then u else value_in vs v.var) ≡ v
    by true e f = same-value (u ∷ vs) v u d i (inl refl) (same-number u.var v.var e)
    by false e f = ⊎_elim
        (λ (a : u ≡ v). absurd (false≢true (sym e ∙ subst (λ (z : Value). nat_eq z.var v.var ≡ true) (sym a) (in-itself v.var))))
        (λ (j : In v vs). f j)
        i

both-itself : (k i : ℕ) → (nat_eq k k && nat_eq i i) ≡ true
both-itself k i = and_from (nat_eq k k) (nat_eq i i) (in-itself k) (in-itself i)

use-found : (us : List Use) (u : Use) → Apart us → In u us → use_in us u.point u.operand ≡ u
use-found [] u d i = absurd i
use-found (w ∷ us) u d i = by (nat_eq w.point u.point && nat_eq w.operand u.operand) refl (λ j. use-found us u d.1 j)
  where
    by : (b : Bool) → (nat_eq w.point u.point && nat_eq w.operand u.operand) ≡ b → (In u us → use_in us u.point u.operand ≡ u) → (if b then w else use_in us u.point u.operand) ≡ u
    by true e f =
        let s = and_parts (nat_eq w.point u.point) (nat_eq w.operand u.operand) e in
        same-use (w ∷ us) u w d i (inl refl) (same-number w.point u.point s.0) (same-number w.operand u.operand s.1)
    by false e f = ⊎_elim
        (λ (a : w ≡ u). absurd (false≢true (sym e ∙ subst (λ (z : Use). (nat_eq z.point u.point && nat_eq z.operand u.operand) ≡ true) (sym a) (both-itself u.point u.operand))))
        (λ (j : In u us). f j)
        i

pub value-there : (labels : List Label) (v : Value) → single labels ≡ true → In v (values labels) → value_at labels v.var ≡ v
value-there labels v s i = value-found (values labels) v (values-different labels s) i

pub use-there : (labels : List Label) (u : Use) → In u (uses labels) → use_at labels u.point u.operand ≡ u
use-there labels u i = use-found (uses labels) u (apart-from 0 (points labels)) i

-- ---- live values

params-in : (vs : List Value) (x : ℕ) → is_in x (param_vars vs) ≡ true → is_in x (map (λ v. v.var) vs) ≡ true
params-in [] x e = absurd (false≢true e)
params-in (v ∷ vs) x e = by v.origin e (λ f. params-in vs x f)
  where
    by : (s : ValueOrigin) → is_in x (sort_param s v.var ++ param_vars vs) ≡ true → (is_in x (param_vars vs) ≡ true → is_in x (map (λ v. v.var) vs) ≡ true) → is_in x (map (λ v. v.var) (v ∷ vs)) ≡ true
    by (Parameter l i) f g = ⊎_elim
        (λ (a : nat_eq x v.var ≡ true). or_left (nat_eq x v.var) (is_in x (map (λ v. v.var) vs)) a)
        (λ (b : is_in x (param_vars vs) ≡ true). or_right (nat_eq x v.var) (is_in x (map (λ v. v.var) vs)) (g b))
        (or_cases (nat_eq x v.var) (is_in x (param_vars vs)) f)
    by Result f g = or_right (nat_eq x v.var) (is_in x (map (λ v. v.var) vs)) (g f)
    by (Fetched m i) f g = or_right (nat_eq x v.var) (is_in x (map (λ v. v.var) vs)) (g f)

pub held-value : (labels : List Label) (k : ℕ) (q : Point) (x : ℕ) → single labels ≡ true → slice_get (points labels) k ≡ Some q → is_in x q.before ≡ true → (v : Value) × In v (values labels) × (v.var ≡ x)
held-value labels k q x s at b =
    let ps = points labels in
    let vs = values_among (map (λ (q : Point). q.place) ps) in
    let us = uses_among ps in
    let sound = each-at (Sound labels vs us) ps k q (sound-points labels s) at in
    vars-in x (values labels) (⊎_elim
    (λ h. params-in (values labels) x (each-at _ ps k q (entries-in 0 ps) at x h))
    (λ (h : (is_in x vs ≡ true) × (is_in x us ≡ true)). ap (λ l. is_in x l) (values-are 0 ps) ∙ h.0)
    (sound.from x b))

pub point-held : (labels : List Label) (k : ℕ) (q : Point) → single labels ≡ true → slice_get (points labels) k ≡ Some q → IsLive q
point-held labels k q s at = each-at IsLive (points labels) k q (all-each IsLive (points labels) (points_held labels s)) at

-- ---- words that are put early

home-not-write : (b c : Bool) → (not b && c) ≡ true → b ≡ true → ⊥
home-not-write true c e f = false≢true e
home-not-write false c e f = false≢true f

early-by : (labels : List Label) (p : Plan) (u : Use) (role : Role) → u.role ≡ role → IsServedAt labels p u (served p u) role → is_early p u ≡ true → (m : Mem) × (i : ℕ) × (u.role ≡ Written m i)
early-by labels p u Operand f s e = absurd (home-not-write (is_write_register (served p u).from) _ s.0 e)
early-by labels p u Address f s e = absurd (home-not-write (is_write_register (served p u).from) _ s.0 e)
early-by labels p u (Written m i) f s e = (m, i, f)
early-by labels p u (Argument l i) f s e = absurd (home-not-write (is_write_register (served p u).from) _ s.0 e)
early-by labels p u (Ending i) f s e = absurd (home-not-write (is_write_register (served p u).from) _ s.0 e)

pub use-served : (labels : List Label) (p : Plan) (u : Use) → Fits labels p → In u (uses labels) → IsServed labels p u
use-served labels p u f i = All-contains (IsServed labels p) (uses labels) u f.uses (contained-in u (uses labels) i)

pub early-written : (labels : List Label) (p : Plan) (u : Use) → Fits labels p → In u (uses labels) → is_early p u ≡ true → (m : Mem) × (i : ℕ) × (u.role ≡ Written m i)
early-written labels p u f i e = early-by labels p u u.role refl (use-served labels p u f i) e

pub write-is : (m : Mem) (n : ℕ) → is_write_register (write_place m n) ≡ true
write-is Sram n = refl
write-is Sdram n = refl
write-is Scratch n = refl

pub word-is : (p : Plan) (u : Use) (m : Mem) (i : ℕ) → u.role ≡ Written m i → word_register p u ≡ write_place m (first p u.point + i)
word-is p u m i e = ap (role_register p u.point) e

pub word-writes : (labels : List Label) (p : Plan) (u : Use) → Fits labels p → In u (uses labels) → is_early p u ≡ true → is_write_register (word_register p u) ≡ true
word-writes labels p u f i e = let w = early-written labels p u f i e in ap is_write_register (word-is p u w.0 w.1 w.2) ∙ write-is w.0 (first p u.point + w.1)

early-use : (labels : List Label) (p : Plan) (x : ℕ) (u : Use) → In u (early_uses labels p x) → In u (uses labels) × (u.value ≡ x) × (is_early p u ≡ true) × (is_used labels x ≡ true)
early-use labels p x u i =
    let k = in-kept (is_early p) u (uses_of labels x) i in
    let w = used-of labels u x k.0 in
    (w.0, w.1, k.1, w.2)

pub words-write : (labels : List Label) (p : Plan) (x : ℕ) → Fits labels p → Each (λ q. is_write_register q ≡ true) (map (word_register p) (early_uses labels p x))
words-write labels p x f = each-from (λ q. is_write_register q ≡ true) (map (word_register p) (early_uses labels p x)) (λ q i.
    let m = in-map q (word_register p) (early_uses labels p x) i in
    let w = early-use labels p x m.0 m.1 in
    ap is_write_register (sym m.2) ∙ word-writes labels p m.0 f w.0 w.2)

-- ---- homes

-- a value is put into a general register or a slot, or it is read, or it is put right into the write register of its use
pub data Housing (labels : List Label) (p : Plan) (v : Value) : Type 0 where
  put_general : is_fetched v.origin ≡ false → IsGeneral p (home p v.var).defined → AreCopies labels p v.var (home p v.var) → Housing labels p v
  put_read : (m : Mem) (i : ℕ) → v.origin ≡ Fetched m i → (home p v.var).defined ≡ read_place m (first p v.point + i) → AreCopies labels p v.var (home p v.var) → Housing labels p v
  put_early : v.origin ≡ Result → IsPutEarly labels p v.var (home p v.var) → Housing labels p v

pub housing : (labels : List Label) (p : Plan) (v : Value) → Fits labels p → In v (values labels) → (is_fetched v.origin ≡ true → is_used labels v.var ≡ true) → Housing labels p v
housing labels p v f j u = by v.origin refl (All-contains (IsHoused labels p) (values labels) v f.values (contained-in v (values labels) j)) u
  where
    by : (s : ValueOrigin) → v.origin ≡ s → IsHome labels p v (home p v.var) s → (is_fetched s ≡ true → is_used labels v.var ≡ true) → Housing labels p v
    by (Parameter l i) e g u = put_general (ap is_fetched e) g.0 g.1
    by Result e g u = ⊎_elim
        (λ (a : IsGeneral p (home p v.var).defined × AreCopies labels p v.var (home p v.var)). put_general (ap is_fetched e) a.0 a.1)
        (λ (b : IsPutEarly labels p v.var (home p v.var)). put_early e b)
        g
    by (Fetched m i) e g u = let w = g (u refl) in put_read m i e w.0 w.1

pub put-writes : (labels : List Label) (p : Plan) (x : ℕ) (h : Home) → Fits labels p → IsPutEarly labels p x h → is_write_register h.defined ≡ true
put-writes labels p x h f e =
    let i : In e.use_ (uses_of labels x) = subst (λ us. In e.use_ us) (sym e.one) (inl refl) in
    let w = used-of labels e.use_ x i in
    ap is_write_register e.at ∙ word-writes labels p e.use_ f w.0 e.early

-- a copy is a general register or a slot, of another bank than the first place, or a write register
pub data IsCopy (p : Plan) (defined q : Place) : Type 0 where
  copy_general : IsGeneral p q → same_bank q defined ≡ false → IsCopy p defined q
  copy_word : is_write_register q ≡ true → IsCopy p defined q

fill-copies : (p : Plan) (defined : Place) (qs : List Place) → Each (IsGeneral p) qs → Each (λ q. same_bank q defined ≡ false) qs → Each (IsCopy p defined) qs
fill-copies p defined [] g e = tt
fill-copies p defined (q ∷ qs) g e = (copy_general g.0 e.0, fill-copies p defined qs g.1 e.1)

word-copies : (p : Plan) (defined : Place) (qs : List Place) → Each (λ q. is_write_register q ≡ true) qs → Each (IsCopy p defined) qs
word-copies p defined [] g = tt
word-copies p defined (q ∷ qs) g = (copy_word g.0, word-copies p defined qs g.1)

pub copies-are : (labels : List Label) (p : Plan) (x : ℕ) (h : Home) → Fits labels p → AreCopies labels p x h → Each (IsCopy p h.defined) h.copied
copies-are labels p x h f c =
    subst (Each (IsCopy p h.defined)) (sym c.copied) (each-append (IsCopy p h.defined) c.fills (map (word_register p) (early_uses labels p x))
    (fill-copies p h.defined c.fills (all-each (IsGeneral p) c.fills c.are.general) (all-each (λ q. same_bank q h.defined ≡ false) c.fills c.are.elsewhere))
    (word-copies p h.defined (map (word_register p) (early_uses labels p x)) (words-write labels p x f)))

-- ---- places that are apart

-- none of these places is one of those
pub shared : (qs rs : List Place) (q r : Place) → none_shared qs rs ≡ true → In q qs → In r rs → same_place q r ≡ true → ⊥
shared [] rs q r n i j e = absurd i
shared (s ∷ qs) rs q r n i j e =
    let w = and_parts (not (has_place s rs)) (none_shared qs rs) n in
    ⊎_elim
    (λ (a : s ≡ q). not-there (has_place s rs) w.0 (subst (λ z. has_place z rs ≡ true) (sym a) (has rs j)))
    (λ (k : In q qs). shared qs rs q r w.1 k j e)
    i
  where
    not-there : (b : Bool) → not b ≡ true → b ≡ true → ⊥
    not-there true n e = false≢true n
    not-there false n e = false≢true e

    has : (rs : List Place) → In r rs → has_place q rs ≡ true
    has [] j = absurd j
    has (t ∷ ts) j = ⊎_elim
        (λ (a : t ≡ r). or_left (same_place q t) (has_place q ts) (subst (λ z. same_place q z ≡ true) (sym a) e))
        (λ (k : In r ts). or_right (same_place q t) (has_place q ts) (has ts k))
        j
