-- The columns that the paired choice has on, one by one and in counts.
use Rattle.std.proofs.Common.{◌≡◌, ℕ, suc, ◌+◌, ◌≤◌, nat_eq, Bool, true, false, not, ◌&&◌, inl, inr, Option, Some, None, List, [], ◌∷◌, map, refl, sym, ap, subst, ◌∙◌, arith}
use Rattle.std.specs.Prelude.{slice_get, Contains, is_some}
use Rattle.std.proofs.lemmas.Bool.{and_parts, false≢true, false_from_ne_true}
use Rattle.ssu_ir.specs.Points.{Point, points}
use Rattle.ssu_ir.specs.Single.{single}
use Rattle.ssu_ir.specs.Tree.{Label}
use Rattle.place_plan.specs.Uses.{Value, values, Role, Operand, Address, Written, Argument, Ending, Use, uses, place_roles, is_used}
use Rattle.ssu_liveness.specs.inner.Numbers.{values_among}
use Rattle.place_plan.proofs.Fitting.{apart-from}
use Rattle.place_plan.proofs.Sound.{Each, Sound, sound-points, uses_among}
use Rattle.place_plan.proofs.Spilled.{each-at}
use Rattle.zo_model.specs.Program.{vector, cost_where}
use Rattle.bank_prog_form.specs.declared.column.Bank.{Bank}
use Rattle.bank_prog_form.specs.declared.column.Bank.TheVariants.{A, B, M, L, W}
use Rattle.bank_prog_form.specs.declared.column.Column.{Column}
use Rattle.bank_prog_form.specs.declared.column.Column.TheVariants.{Def, Fill, Serve}
use Rattle.bank_prog_form.specs.declared.column.Service.{Service}
use Rattle.bank_prog_form.specs.Columns.{columns, services, point_uses, is_fetched}
use Rattle.bank_prog.specs.Meaning.{Chosen, number_on}
use Rattle.bank_prog_form.specs.Program.{same_bank, number_of}
use Rattle.bank_prog_form.specs.Rows.{is_written}
use Rattle.bank_prog.proofs.LawsColumns.{on-there, chosen-on}
use Rattle.bank_prog_rows.proofs.Present.{use-place, def-there, fill-there, home-a, home-b}
use Rattle.nova_back.specs.inner.Paired.{is_there, is_second, paired}
use Rattle.reg_assign_reading.specs.inner.Facts.{count}
use Rattle.reg_assign_reading.proofs.ChosenForm.{held-value}
use Rattle.reg_assign_reading.proofs.ChosenHolds.{in-test}
use Rattle.reg_assign_reading.proofs.Counts.{In, in-contained, contained-in, map-in, each-in, some-counted}
use Rattle.reg_assign_reading.proofs.FactsThere.{there, IsService}
use Rattle.reg_assign_reading.proofs.FactsValues.{same-use}
use Rattle.reg_assign_reading.proofs.LabelPoints.{used-here}

-- these columns are on: those of the paired choice that are there
pub record IsPaired (labels : List Label) (on : Chosen) : Type 0 where
  pub form : single labels ≡ true
  pub only : (c : Column) → on c ≡ true → Contains (columns labels) c
  pub same : (c : Column) → Contains (columns labels) c → on c ≡ paired (number_of labels) c

pub on-paired : (labels : List Label) (on : Chosen) → IsPaired labels on → (c : Column) → on c ≡ true → paired (number_of labels) c ≡ true
on-paired labels on h c e = sym (h.same c (h.only c e)) ∙ e

pub off : (labels : List Label) (on : Chosen) → IsPaired labels on → (c : Column) → paired (number_of labels) c ≡ false → on c ≡ false
off labels on h c e = false_from_ne_true (on c) (λ f. false≢true (sym e ∙ on-paired labels on h c f))

pub put : (labels : List Label) (on : Chosen) → IsPaired labels on → (c : Column) → Contains (columns labels) c → paired (number_of labels) c ≡ true → on c ≡ true
put labels on h c m e = h.same c m ∙ e

-- ---- a column has a number where it is there

numbered-on : (o : Option ℕ) → is_some o ≡ true → number_on (λ j. true) o ≡ true
numbered-on (Some j) e = refl
numbered-on None e = absurd (false≢true e)

pub there-contained : (labels : List Label) (c : Column) → is_there (number_of labels) c ≡ true → Contains (columns labels) c
there-contained labels c e = on-there labels (λ j. true) c (numbered-on (number_of labels c) e)

on-some : (x : ℕ → Bool) (o : Option ℕ) → number_on x o ≡ true → is_some o ≡ true
on-some x (Some j) e = refl
on-some x None e = absurd (false≢true e)

pub contained-there : (labels : List Label) (c : Column) → Contains (columns labels) c → is_there (number_of labels) c ≡ true
contained-there labels c m = on-some (vector (map (λ d. true) (columns labels))) (number_of labels c) (chosen-on labels (λ d. true) c m)

-- ---- what a service says of a role

-- a use is served in one of the ways of its role
pub record Way (u : Use) (h p : Bank) : Type 0 where
  pub service : Service
  pub among : In service (services u.role)
  pub from : service.from ≡ h
  pub at : service.at ≡ p

way-of : (labels : List Label) (u : Use) (h p : Bank) → In u (uses labels) → IsService labels u.point u.operand h p → Way u h p
way-of labels u h p i t =
    let same : t.use_ ≡ u = same-use (uses labels) u t.use_ (apart-from 0 (points labels)) i t.there t.point t.operand in
    record { service = t.service; among = subst (λ (z : Use). In t.service (services z.role)) same t.among; from = t.from; at = t.at }

pub way : (labels : List Label) (on : Chosen) (u : Use) (h p : Bank) → IsPaired labels on → In u (uses labels) → on (Serve u.point u.operand h p) ≡ true → Way u h p
way labels on u h p g i e = way-of labels u h p i (there labels on (Serve u.point u.operand h p) g.only e)

ways-write : (r : Role) → Each (λ (s : Service). same_bank s.at W ≡ is_written r) (services r)
ways-write Operand = (refl, (refl, (refl, (refl, (refl, (refl, (refl, tt)))))))
ways-write Address = (refl, (refl, (refl, (refl, tt))))
ways-write (Written m i) = (refl, (refl, (refl, (refl, tt))))
ways-write (Argument l i) = (refl, (refl, (refl, (refl, (refl, (refl, (refl, (refl, (refl, (refl, (refl, (refl, tt))))))))))))
ways-write (Ending i) = (refl, (refl, (refl, (refl, tt))))

way-write : (u : Use) (h p : Bank) → Way u h p → same_bank p W ≡ is_written u.role
way-write u h p w = ap (λ b. same_bank b W) (sym w.at) ∙ each-in (λ (s : Service). same_bank s.at W ≡ is_written u.role) w.service (services u.role) (ways-write u.role) w.among

abbrev pub is_operand : Role → Bool
is_operand Operand = true
is_operand Address = false
is_operand (Written m i) = false
is_operand (Argument l i) = false
is_operand (Ending i) = false

ways-through : (r : Role) → is_operand r ≡ false → Each (λ (s : Service). (same_bank s.from M && same_bank s.at L) ≡ false) (services r)
ways-through Operand e = absurd (false≢true (sym e))
ways-through Address e = (refl, (refl, (refl, (refl, tt))))
ways-through (Written m i) e = (refl, (refl, (refl, (refl, tt))))
ways-through (Argument l i) e = (refl, (refl, (refl, (refl, (refl, (refl, (refl, (refl, (refl, (refl, (refl, (refl, tt))))))))))))
ways-through (Ending i) e = (refl, (refl, (refl, (refl, tt))))

way-through : (u : Use) → Way u M L → is_operand u.role ≡ false → true ≡ false
way-through u w e =
    ap (λ b. same_bank M M && same_bank b L) (sym w.at) ∙ ap (λ b. same_bank b M && same_bank w.service.at L) (sym w.from)
    ∙ each-in (λ (s : Service). (same_bank s.from M && same_bank s.at L) ≡ false) w.service (services u.role) (ways-through u.role e) w.among

-- only an operand is a second operand
pub first-use : (labels : List Label) (u : Use) → In u (uses labels) → is_operand u.role ≡ false → is_second (number_of labels) u.point u.operand ≡ false
first-use labels u i e = false_from_ne_true (is_second (number_of labels) u.point u.operand) (λ f.
    let c = Serve u.point u.operand M L in
    let t = (and_parts (nat_eq u.operand 1) (is_there (number_of labels) c) f).1 in
    let all : Chosen = is_there (number_of labels) in
    false≢true (sym (way-through u (way-of labels u M L i (there labels all c (λ d. there-contained labels d) t)) e)))

-- a word that is written is served at its write register only, another use never
pub not-both : (labels : List Label) (on : Chosen) (u : Use) → IsPaired labels on → In u (uses labels) → on (Serve u.point u.operand A A) ≡ true → on (Serve u.point u.operand A W) ≡ true → ⊥
not-both labels on u g i e f =
    let a = way-write u A A (way labels on u A A g i e) in
    let b = way-write u A W (way labels on u A W g i f) in
    false≢true (a ∙ sym b)

-- ---- counts

pub count-off : (on : Chosen) (c : Column) (cs : List Column) → on c ≡ false → count on (c ∷ cs) ≡ count on cs
count-off on c cs e = ap (λ b. cost_where b 1 + count on cs) e ∙ (let z : 0 + count on cs ≡ count on cs = omega arith in z)

pub count-on : (on : Chosen) (c : Column) (cs : List Column) → on c ≡ true → count on (c ∷ cs) ≡ suc (count on cs)
count-on on c cs e = ap (λ b. cost_where b 1 + count on cs) e ∙ (let z : 1 + count on cs ≡ suc (count on cs) = omega arith in z)

pub count-more : (on : Chosen) (c : Column) (cs : List Column) → count on (c ∷ cs) ≤ suc (count on cs)
count-more on c cs = by (on c)
  where
    by : (b : Bool) → cost_where b 1 + count on cs ≤ suc (count on cs)
    by true = omega arith
    by false = omega arith

pub count-none : (on : Chosen) (cs : List Column) → Each (λ c. on c ≡ false) cs → count on cs ≡ 0
count-none on [] h = refl
count-none on (c ∷ cs) h = count-off on c cs h.0 ∙ count-none on cs h.1

-- the first may be on, the others are off
pub first-most : (on : Chosen) (c : Column) (cs : List Column) → Each (λ d. on d ≡ false) cs → count on (c ∷ cs) ≤ 1
first-most on c cs h = let a = count-more on c cs in let b = count-none on cs h in omega (arith, a, b)

pub first-one : (on : Chosen) (c : Column) (cs : List Column) → on c ≡ true → Each (λ d. on d ≡ false) cs → count on (c ∷ cs) ≡ 1
first-one on c cs e h = count-on on c cs e ∙ ap suc (count-none on cs h)

-- ---- uses and their values

-- the point of a use
pub use-at : (labels : List Label) (u : Use) → In u (uses labels) → (q : Point) × (slice_get (points labels) u.point ≡ Some q) × In u (point_uses u.point q)
use-at labels u i = let w = use-place labels u (contained-in u (uses labels) i) in (w.0, w.1, in-contained u (point_uses u.point w.0) w.2)

pub point-sound : (labels : List Label) (k : ℕ) (q : Point) → single labels ≡ true → slice_get (points labels) k ≡ Some q → Sound labels (values_among (map (λ p. p.place) (points labels))) (uses_among (points labels)) q
point-sound labels k q s at =
    let vs = values_among (map (λ (p : Point). p.place) (points labels)) in
    let us = uses_among (points labels) in
    each-at (Sound labels vs us) (points labels) k q (sound-points labels s) at

-- a value that is used, with its use
pub used-value : (labels : List Label) (u : Use) → single labels ≡ true → In u (uses labels) → (v : Value) × In v (values labels) × (v.var ≡ u.value)
used-value labels u s i =
    let w = use-at labels u i in
    let sound = point-sound labels u.point w.0 s w.1 in
    held-value labels u.point w.0 u.value s w.1 (sound.uses_held u.value (used-here u u.point 0 w.0.uses (place_roles w.0.place) w.2))

pub is-used : (labels : List Label) (u : Use) → In u (uses labels) → is_used labels u.value ≡ true
is-used labels u i = in-test u.value (map (λ (w : Use). w.value) (uses labels)) (map-in (λ (w : Use). w.value) u (uses labels) i)

-- ---- homes

-- a value is put into A, or else it is copied there
pub home-most : (labels : List Label) (on : Chosen) (x : ℕ) → IsPaired labels on → count on (Def x A ∷ Fill x A ∷ []) ≤ 1
home-most labels on x g = by (is_there (number_of labels) (Def x A)) refl
  where
    by : (b : Bool) → is_there (number_of labels) (Def x A) ≡ b → count on (Def x A ∷ Fill x A ∷ []) ≤ 1
    by true e = first-most on (Def x A) (Fill x A ∷ []) (off labels on g (Fill x A) (ap not e), tt)
    by false e =
        let none : on (Def x A) ≡ false = false_from_ne_true (on (Def x A)) (λ f. false≢true (sym e ∙ contained-there labels (Def x A) (g.only (Def x A) f))) in
        let a = count-off on (Def x A) (Fill x A ∷ []) none in
        let b = count-more on (Fill x A) [] in
        omega (arith, a, b)

pub home-a-some : (labels : List Label) (on : Chosen) (v : Value) → IsPaired labels on → In v (values labels) → is_used labels v.var ≡ true → 1 ≤ count on (Def v.var A ∷ Fill v.var A ∷ [])
home-a-some labels on v g i u = by (is_there (number_of labels) (Def v.var A)) refl
  where
    by : (b : Bool) → is_there (number_of labels) (Def v.var A) ≡ b → 1 ≤ count on (Def v.var A ∷ Fill v.var A ∷ [])
    by true e = some-counted on (Def v.var A) (Def v.var A ∷ Fill v.var A ∷ []) (inl refl) (put labels on g (Def v.var A) (there-contained labels (Def v.var A) e) refl)
    by false e =
        some-counted on (Fill v.var A) (Def v.var A ∷ Fill v.var A ∷ []) (inr (inl refl))
        (put labels on g (Fill v.var A) (fill-there labels v A (contained-in v (values labels) i) u home-a) (ap not e))

pub home-b-most : (labels : List Label) (on : Chosen) (x : ℕ) → IsPaired labels on → count on (Def x B ∷ Fill x B ∷ []) ≤ 1
home-b-most labels on x g =
    let a = count-off on (Def x B) (Fill x B ∷ []) (off labels on g (Def x B) refl) in
    let b = count-more on (Fill x B) [] in
    omega (arith, a, b)

pub home-b-some : (labels : List Label) (on : Chosen) (v : Value) → IsPaired labels on → In v (values labels) → is_used labels v.var ≡ true → 1 ≤ count on (Def v.var B ∷ Fill v.var B ∷ [])
home-b-some labels on v g i u =
    some-counted on (Fill v.var B) (Def v.var B ∷ Fill v.var B ∷ []) (inr (inl refl)) (put labels on g (Fill v.var B) (fill-there labels v B (contained-in v (values labels) i) u home-b) refl)

pub home-m-none : (labels : List Label) (on : Chosen) (x : ℕ) → IsPaired labels on → count on (Def x M ∷ Fill x M ∷ []) ≡ 0
home-m-none labels on x g = count-none on (Def x M ∷ Fill x M ∷ []) (off labels on g (Def x M) refl, (off labels on g (Fill x M) refl, tt))

-- a value that isn't read is put into A
pub put-a : (labels : List Label) (on : Chosen) (v : Value) → IsPaired labels on → In v (values labels) → is_fetched v.origin ≡ false → on (Def v.var A) ≡ true
put-a labels on v g i n = put labels on g (Def v.var A) (def-there labels v A (contained-in v (values labels) i) n home-a) refl
