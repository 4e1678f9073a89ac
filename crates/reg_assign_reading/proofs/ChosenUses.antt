-- The lines of a use hold for a placement that fits: it is served from a home, and brought to where it is wanted.
use Rattle.std.proofs.Common.{◌≡◌, ℕ, ◌+◌, ◌≤◌, nat_eq, Bool, true, false, ◌&&◌, inl, ⊎_elim, List, [], ◌∷◌, ◌++◌, map, filter, refl, sym, ap, subst, ◌∙◌, arith}
use Rattle.std.specs.List.{list_any}
use Rattle.std.proofs.lemmas.List.Elements.{All-contains}
use Rattle.std.proofs.lemmas.Bool.{false≢true, and_parts, and_from, or_left, or_right, false_from_ne_true}
use Rattle.nv_base.specs.declared.term.Mem.{Mem}
use Rattle.ssu_ir.specs.Tree.{Label}
use Rattle.zo_model.specs.Program.{cost_where}
use Rattle.place_plan.specs.declared.place.Place.{Place}
use Rattle.place_plan.specs.declared.place.Place.TheVariants as place
use Rattle.place_plan.specs.Plan.{Plan, home, first, pass}
use Rattle.place_plan.specs.Uses.{Access, accesses, ValueOrigin, Parameter, Result, Fetched, Value, values, Role, Operand, Address, Written, Argument, Ending, Use, uses, uses_of, is_used}
use Rattle.place_plan.specs.Fits.{is_slot, is_read_register, served, is_early, IsFirst, parameter, IsServedAt, stays, Fits}
use Rattle.ssu_liveness.proofs.Scoped.{in-itself}
use Rattle.place_plan.proofs.Sound.{Each, each-append}
use Rattle.bank_prog_form.specs.declared.column.Bank.{Bank}
use Rattle.bank_prog_form.specs.declared.column.Bank.TheVariants.{A, B, M, T, L, A15, W}
use Rattle.bank_prog_form.specs.declared.column.Column.{Column}
use Rattle.bank_prog_form.specs.declared.column.Column.TheVariants.{Def, DirectWrite, Stay, EarlyWrite, First, Serve, ReadVia}
use Rattle.bank_prog_form.specs.declared.column.Service.{Service}
use Rattle.bank_prog_form.specs.Columns.{origin_of, is_fetched, eight, place_words, beginnings, role_beginnings, origin_beginnings, services, point_uses}
use Rattle.bank_prog_form.specs.Program.{same_bank}
use Rattle.bank_prog_form.specs.Rows.{Line, covers, homes, banks, home as home_columns, stay, srv, early, srv_from, srv_at, use_choice, served_home, served_stay, use_stay, use_cover, at_home, argument_lines, argument_cover, word_begins, is_slot as is_slot_bank, slot_read}
use Rattle.bank_prog.specs.Meaning.{Chosen, Holds}
use Rattle.bank_prog_rows.proofs.PlainLines.{mapped-each}
use Rattle.bank_prog_form.proofs.Keys.{bank-true}
use Rattle.reg_assign_reading.specs.inner.Facts.{count}
use Rattle.reg_assign_reading.specs.inner.Chosen.{bank_of, preferred_bank}
use Rattle.reg_assign_reading.proofs.Counts.{In, contained-in, in-kept, in-map, map-in, some-counted, counted-some, each-from}
use Rattle.reg_assign_reading.proofs.FactsPoints.{below-eight}
use Rattle.reg_assign_reading.proofs.ChosenHolds.{one-holds, if-each}
use Rattle.reg_assign_reading.proofs.ChosenForm.{Placed, chosen-on, value-there, use-there, use-served}
use Rattle.reg_assign_reading.proofs.ChosenThere.{UsePoint, use-point, value-point, value-access, word-access, access-words, first-begins, place_access, def-there, stay-there, first-there, pas-l-there}
use Rattle.reg_assign_reading.proofs.ChosenSource.{no-write-home, write-bank, UseValue, use-value, of-value, origin-is, IsSource, source-on, argument-value}
use Rattle.reg_assign_reading.proofs.ChosenServes.{from_bank, at_bank, use-source, use-once, dir-at, ear-at, dir-goes, ear-on}
use Rattle.reg_assign_reading.proofs.ChosenValues.{small-covers, covers-column, two-most, named-register, in-bank, unfetched, slot-bank as slot-place}
use Rattle.reg_assign_reading.proofs.FactsValues.{in-eight}

pub choice-lines : (labels : List Label) (p : Plan) (on : Chosen) (u : Use) → Placed labels p on → In u (uses labels) → Each (Holds on) (use_choice u)
choice-lines labels p on u g i = one-holds on (srv u ++ early u) (use-once labels p on u g i)

-- ---- at most one of the columns of the banks

abbrev alike : Bank → List Bank → ℕ
alike h [] = 0
alike h (b ∷ bs) = cost_where (same_bank b h) 1 + alike h bs

alike-banks : (h : Bank) → alike h banks ≡ 1
alike-banks A = refl
alike-banks B = refl
alike-banks M = refl
alike-banks T = refl
alike-banks L = refl
alike-banks A15 = refl
alike-banks W = refl

banks-below : (on : Chosen) (c : Bank → Column) (h : Bank) (bs : List Bank) → ((b : Bank) → on (c b) ≡ true → same_bank b h ≡ true) → count on (map c bs) ≤ alike h bs
banks-below on c h [] f = omega arith
banks-below on c h (b ∷ bs) f = by (on (c b)) refl (banks-below on c h bs f)
  where
    by : (a : Bool) → on (c b) ≡ a → count on (map c bs) ≤ alike h bs → cost_where a 1 + count on (map c bs) ≤ cost_where (same_bank b h) 1 + alike h bs
    by true e l = let s = ap (λ z. cost_where z 1) (f b e) in omega (arith, l, s)
    by false e l = omega (arith, l)

pub banks-most : (on : Chosen) (c : Bank → Column) (h : Bank) → ((b : Bank) → on (c b) ≡ true → same_bank b h ≡ true) → count on (map c banks) ≤ 1
banks-most on c h f = let l = banks-below on c h banks f in let a = alike-banks h in omega (arith, l, a)

-- what a way to serve a use says of its serve
pub way-said : (labels : List Label) (p : Plan) (on : Chosen) (u : Use) (h q : Bank) → Placed labels p on → In u (uses labels) → on (Serve u.point u.operand h q) ≡ true → (same_bank h (from_bank p u) ≡ true) × (same_bank q (at_bank p u) ≡ true)
way-said labels p on u h q g i e =
    and_parts (same_bank h (from_bank p u)) (same_bank q (at_bank p u))
    (sym (ap (λ (w : Use). same_bank h (from_bank p u) && same_bank q (preferred_bank w.role (from_bank p u) (served p u).at)) (use-there labels u i))
    ∙ chosen-on labels p on g (Serve u.point u.operand h q) e)

from-most : (labels : List Label) (p : Plan) (on : Chosen) (u : Use) (h : Bank) → Placed labels p on → In u (uses labels) → count on (srv_from u.point u.operand h) ≤ 1
from-most labels p on u h g i = banks-most on (Serve u.point u.operand h) (at_bank p u) (λ q e. (way-said labels p on u h q g i e).1)

at-most-one : (labels : List Label) (p : Plan) (on : Chosen) (u : Use) (q : Bank) → Placed labels p on → In u (uses labels) → count on (srv_at u.point u.operand q) ≤ 1
at-most-one labels p on u q g i = banks-most on (λ h. Serve u.point u.operand h q) (from_bank p u) (λ h e. (way-said labels p on u h q g i e).0)

some-bank : (on : Chosen) (c : Bank → Column) → 1 ≤ count on (map c banks) → (b : Bank) × (on (c b) ≡ true)
some-bank on c h =
    let w = counted-some on (map c banks) h in
    let m = in-map w.0 c banks w.1 in
    (m.0, ap on m.2 ∙ w.2)

-- ---- homes cover uses

-- a use that is served from a bank isn't put early
not-early : (p : Plan) (u : Use) (h : Bank) → from_bank p u ≡ h → (W ≡ h → ⊥) → is_early p u ≡ false
not-early p u h e n = false_from_ne_true (is_early p u) (λ w. n (sym (write-bank (served p u).from w) ∙ e))

value-source : (labels : List Label) (p : Plan) (u : Use) (v : UseValue labels u) → Fits labels p → In u (uses labels) → is_early p u ≡ false → IsSource p v.value.var (served p u).from
value-source labels p u v f i e = subst (λ x. IsSource p x (served p u).from) (sym v.var) (use-source labels p u f i e)

home-covers : (labels : List Label) (p : Plan) (on : Chosen) (u : Use) (h : Bank) → Placed labels p on → In u (uses labels) → In h homes → Holds on (served_home u h)
home-covers labels p on u h g i j = small-covers on (home_columns u.value h) (srv_from u.point u.operand h) (from-most labels p on u h g i) (λ l.
    let w = some-bank on (Serve u.point u.operand h) l in
    let b : from_bank p u ≡ h = sym (bank-true h (from_bank p u) (way-said labels p on u h w.0 g i w.1).0) in
    let v = use-value labels u g.form i in
    let e = not-early p u h b (λ z. no-write-home (subst (λ x. In x homes) (sym z) j)) in
    subst (λ x. 1 ≤ count on (home_columns x h)) v.var (source-on labels p on v.value (served p u).from h g v.there v.used (value-source labels p u v g.fits i e) b j))

read-register : (q : Place) → bank_of q ≡ T → is_read_register q ≡ true
read-register (place.L k) e = refl
read-register (place.LD k) e = refl
read-register _ e = absurd (cc)

any-use : (f : Use → Bool) (u : Use) (us : List Use) → In u us → f u ≡ true → list_any f us ≡ true
any-use f u [] i e = absurd i
any-use f u (z ∷ us) i e = ⊎_elim
    (λ (a : z ≡ u). or_left (f z) (list_any f us) (subst (λ y. f y ≡ true) (sym a) e))
    (λ (j : In u us). or_right (f z) (list_any f us) (any-use f u us j e))
    i

fetched-origin : (s : ValueOrigin) → is_fetched s ≡ true → (m : Mem) × (i : ℕ) × (s ≡ Fetched m i)
fetched-origin (Parameter l i) e = absurd (false≢true e)
fetched-origin Result e = absurd (false≢true e)
fetched-origin (Fetched m i) e = (m, i, refl)

-- where a use of a read value is served from its read register, it stays there
stay-counted : (labels : List Label) (p : Plan) (on : Chosen) (v : Value) → Placed labels p on → In v (values labels) → is_used labels v.var ≡ true → is_fetched v.origin ≡ true → stays labels p v.var ≡ true → 1 ≤ count on (stay v.var)
stay-counted labels p on v g i u e s =
    let w = value-point labels v i in
    let r = fetched-origin v.origin e in
    let n = place_words w.point.place in
    let f = first p v.point in
    let a = place_access v.point r.0 w.point.place in
    let j = value-access labels v r.0 r.1 w r.2 in
    let b = first-begins r.0 n f (access-words labels a g.form j) (All-contains (λ (a : Access). IsFirst a.mem a.words (first p a.point)) (accesses labels) a g.fits.registers (contained-in a (accesses labels) j)) in
    let t : In f (origin_beginnings n v.origin) = subst (λ z. In f (origin_beginnings n z)) (sym r.2) b in
    some-counted on (Stay v.var f) (stay v.var) (map-in (Stay v.var) f eight (in-eight r.0 n f b))
    (g.is.same (Stay v.var f) (stay-there labels v f w u t)
    ∙ ap (λ (z : Value). nat_eq (first p z.point) f && stays labels p v.var) (value-there labels v g.form i)
    ∙ and_from (nat_eq f f) (stays labels p v.var) (in-itself f) s)

stay-covers : (labels : List Label) (p : Plan) (on : Chosen) (u : Use) → Placed labels p on → In u (uses labels) → is_fetched (origin_of labels u.value) ≡ true → Holds on (served_stay u)
stay-covers labels p on u g i e = small-covers on (stay u.value) (srv_from u.point u.operand T) (from-most labels p on u T g i) (λ l.
    let w = some-bank on (Serve u.point u.operand T) l in
    let b : from_bank p u ≡ T = sym (bank-true T (from_bank p u) (way-said labels p on u T w.0 g i w.1).0) in
    let v = use-value labels u g.form i in
    let s : stays labels p u.value ≡ true = any-use (λ u. is_read_register (served p u).from) u (uses_of labels u.value) (of-value labels u i) (read-register (served p u).from b) in
    let t : is_fetched v.value.origin ≡ true = ap is_fetched (sym (origin-is labels v.value g.form v.there)) ∙ ap (λ x. is_fetched (origin_of labels x)) v.var ∙ e in
    subst (λ x. 1 ≤ count on (stay x)) v.var (stay-counted labels p on v.value g v.there v.used t (subst (λ x. stays labels p x ≡ true) (sym v.var) s)))

pub cover-lines : (labels : List Label) (p : Plan) (on : Chosen) (u : Use) → Placed labels p on → In u (uses labels) → Each (Holds on) (use_cover labels u)
cover-lines labels p on u g i =
    each-append (Holds on) (map (served_home u) homes) (use_stay labels u)
    (mapped-each (Holds on) (served_home u) homes (each-from _ homes (λ h j. home-covers labels p on u h g i j)))
    (if-each (Holds on) (is_fetched (origin_of labels u.value)) (served_stay u ∷ []) (λ e. (stay-covers labels p on u g i e, tt)))

-- ---- an argument is brought to where its parameter is first put

argument-at : (labels : List Label) (p : Plan) (u : Use) (l i : ℕ) (r : Role) → u.role ≡ r → r ≡ Argument l i → IsServedAt labels p u (served p u) r → (served p u).at ≡ (home p (parameter labels l i)).defined
argument-at labels p u l i Operand e f h = absurd (cc)
argument-at labels p u l i Address e f h = absurd (cc)
argument-at labels p u l i (Written m j) e f h = absurd (cc)
argument-at labels p u l i (Argument m j) e f h = h.1 ∙ ap (λ z. (home p z).defined) (same-parameter m j l i f)
  where
    same-parameter : (m j l i : ℕ) → Argument m j ≡ Argument l i → parameter labels m j ≡ parameter labels l i
    same-parameter m j l i e = let a : m ≡ l = cc in let b : j ≡ i = cc in ap (λ z. parameter labels z j) a ∙ ap (λ z. parameter labels l z) b
argument-at labels p u l i (Ending j) e f h = absurd (cc)

argument-covers : (labels : List Label) (p : Plan) (on : Chosen) (u : Use) (l i : ℕ) (q : Bank) → Placed labels p on → In u (uses labels) → u.role ≡ Argument l i → In q homes → Holds on (covers (at_home (parameter labels l i) q) (srv_at u.point u.operand q))
argument-covers labels p on u l i q g j r k = small-covers on (at_home (parameter labels l i) q) (srv_at u.point u.operand q) (at-most-one labels p on u q g j) (λ c.
    let w = some-bank on (λ h. Serve u.point u.operand h q) c in
    let v = argument-value labels u l i g.form j r in
    let at = argument-at labels p u l i u.role refl r (use-served labels p u g.fits j) in
    let bank : at_bank p u ≡ bank_of (home p v.0.var).defined = ap (λ z. preferred_bank z (from_bank p u) (served p u).at) r ∙ ap bank_of at ∙ ap (λ x. bank_of (home p x).defined) (sym v.2) in
    let b : bank_of (home p v.0.var).defined ≡ q = sym (bank-true q (at_bank p u) (way-said labels p on u w.0 q g j w.1).1 ∙ bank) in
    let d : on (Def v.0.var q) ≡ true = g.is.same (Def v.0.var q) (def-there labels v.0 q v.1 (unfetched v.0.origin v.3) k) ∙ in-bank q (home p v.0.var).defined b in
    some-counted on (Def (parameter labels l i) q) (at_home (parameter labels l i) q) (inl refl) (subst (λ x. on (Def x q) ≡ true) v.2 d))

pub argument-cover-holds : (labels : List Label) (p : Plan) (on : Chosen) (u : Use) → Placed labels p on → In u (uses labels) → Each (Holds on) (argument_cover labels u)
argument-cover-holds labels p on u g i = by u.role refl
  where
    by : (r : Role) → u.role ≡ r → Each (Holds on) (argument_lines labels u.point u.operand r)
    by Operand e = tt
    by Address e = tt
    by (Written m j) e = tt
    by (Argument l j) e = mapped-each (Holds on) (λ q. covers (at_home (parameter labels l j) q) (srv_at u.point u.operand q)) homes (each-from _ homes (λ q k. argument-covers labels p on u l j q g i e k))
    by (Ending j) e = tt

-- ---- a run begins where a word that is put early asks for it

role-begin : (n f : ℕ) (r : Role) → In f (role_beginnings n r) → (m : Mem) × (i : ℕ) × (r ≡ Written m i) × In f (beginnings m n)
role-begin n f Operand i = absurd i
role-begin n f Address i = absurd i
role-begin n f (Written m j) i = (m, j, refl, i)
role-begin n f (Argument l j) i = absurd i
role-begin n f (Ending j) i = absurd i

first-on : (labels : List Label) (p : Plan) (on : Chosen) (u : Use) (f : ℕ) (w : UsePoint labels u) → Placed labels p on → In f (role_beginnings (place_words w.point.place) u.role) → f ≡ first p u.point → on (First u.point f) ≡ true
first-on labels p on u f w g b e =
    let s = role-begin (place_words w.point.place) f u.role b in
    let a = place_access u.point s.0 w.point.place in
    g.is.same (First u.point f) (first-there labels a f (word-access labels u s.0 s.1 w s.2) s.3)
    ∙ subst (λ k. nat_eq (first p u.point) k ≡ true) (sym e) (in-itself (first p u.point))

not-both : (labels : List Label) (p : Plan) (on : Chosen) (u : Use) (f : ℕ) → Placed labels p on → In u (uses labels) → on (DirectWrite u.point u.operand f) ≡ true → on (EarlyWrite u.point u.operand f) ≡ true → ⊥
not-both labels p on u f g i d e = false≢true (sym (ear-on labels p on u g i f e).1 ∙ dir-goes labels p on u g i f d)

word-begin-holds : (labels : List Label) (p : Plan) (on : Chosen) (u : Use) (f : ℕ) (w : UsePoint labels u) → Placed labels p on → In u (uses labels) → In f (role_beginnings (place_words w.point.place) u.role)
    → Holds on (covers (First u.point f ∷ []) (DirectWrite u.point u.operand f ∷ EarlyWrite u.point u.operand f ∷ []))
word-begin-holds labels p on u f w g i b =
    let early = DirectWrite u.point u.operand f ∷ EarlyWrite u.point u.operand f ∷ [] in
    small-covers on (First u.point f ∷ []) early (two-most on (DirectWrite u.point u.operand f) (EarlyWrite u.point u.operand f) (not-both labels p on u f g i)) (λ h.
    let c = counted-some on early h in
    let at : f ≡ first p u.point = ⊎_elim
    (λ (d : DirectWrite u.point u.operand f ≡ c.0). dir-at labels p on u g i f (ap on d ∙ c.2))
    (λ (r : In c.0 (EarlyWrite u.point u.operand f ∷ [])). ⊎_elim
    (λ (d : EarlyWrite u.point u.operand f ≡ c.0). ear-at labels p on u g i f (ap on d ∙ c.2))
    (λ z. absurd z)
    r)
    c.1 in
    some-counted on (First u.point f) (First u.point f ∷ []) (inl refl) (first-on labels p on u f w g b at))

pub begin-lines : (labels : List Label) (p : Plan) (on : Chosen) (u : Use) (w : UsePoint labels u) → Placed labels p on → In u (uses labels) → Each (Holds on) (word_begins (place_words w.point.place) u)
begin-lines labels p on u w g i =
    let n = place_words w.point.place in
    mapped-each (Holds on) (λ f. covers (First u.point f ∷ []) (DirectWrite u.point u.operand f ∷ EarlyWrite u.point u.operand f ∷ [])) (role_beginnings n u.role)
    (each-from _ (role_beginnings n u.role) (λ f b. word-begin-holds labels p on u f w g i b))

-- ---- slots that are read

slot-bank : (h : Bank) → is_slot_bank h ≡ true → h ≡ M
slot-bank M e = refl
slot-bank _ e = absurd (false≢true e)

read-counted : (labels : List Label) (p : Plan) (on : Chosen) (u : Use) → Placed labels p on → In u (uses labels) → is_slot (served p u).from ≡ true → 1 ≤ count on (map (ReadVia u.point) eight)
read-counted labels p on u g i e =
    let w = use-point labels u i in
    let at = g.fits.points u.point w.point w.at in
    let some = at.passes.reads (any-use (λ u. is_slot (served p u).from) u (point_uses u.point w.point) w.here e) in
    let r = named-register (pass p u.point).l at.passes.read some in
    some-counted on (ReadVia u.point r.0) (map (ReadVia u.point) eight) (map-in (ReadVia u.point) r.0 eight (below-eight r.0 r.1))
    (g.is.same (ReadVia u.point r.0) (pas-l-there labels u.point w.point r.0 w.at (at.passes.reads_only some) r.1) ∙ r.2)

pub read-lines : (labels : List Label) (p : Plan) (on : Chosen) (u : Use) → Placed labels p on → In u (uses labels) → Each (Holds on) (slot_read u)
read-lines labels p on u g i =
    let f : Service → Line = λ (s : Service). covers (map (ReadVia u.point) eight) (Serve u.point u.operand s.from s.at ∷ []) in
    let ss = filter (λ (s : Service). is_slot_bank s.from) (services u.role) in
    mapped-each (Holds on) f ss (each-from _ ss (λ s j.
    covers-column on (map (ReadVia u.point) eight) (Serve u.point u.operand s.from s.at) (λ e.
    let m = slot-bank s.from (in-kept (λ (s : Service). is_slot_bank s.from) s (services u.role) j).1 in
    let b : from_bank p u ≡ M = sym (bank-true s.from (from_bank p u) (way-said labels p on u s.from s.at g i e).0) ∙ m in
    read-counted labels p on u g i (slot-place (served p u).from b))))
