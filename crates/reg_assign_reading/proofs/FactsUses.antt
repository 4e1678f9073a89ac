-- What the lines say of an access and of a use.
use Rattle.std.proofs.Common.{◌≡◌, ℕ, suc, ◌≤◌, true, ◌||◌, Some, List, [], ◌∷◌, ◌++◌, map, filter, refl, sym, ap, subst, inl, inr, ⊎_elim, ◌∙◌, arith}
use Rattle.std.specs.Prelude.{slice_get, Contains}
use Rattle.std.specs.List.{flat_map}
use Rattle.std.proofs.lemmas.Bool.{or_cases}
use Rattle.ssu_ir.specs.Tree.{Label, Lit, Una, Bin, Clone, Read, Write, Does, Forks, Ends}
use Rattle.ssu_ir.specs.Points.{PointKind, Entry, At, Point, points}
use Rattle.place_plan.specs.Uses.{Access, accesses_from, accesses, place_accesses, place_values, Argument, Use, uses}
use Rattle.place_plan.specs.Fits.{is_result, parameter}
use Rattle.place_plan.proofs.Sound.{Each}
use Rattle.place_plan.proofs.Spilled.{each-left, each-right}
use Rattle.bank_prog_form.specs.declared.column.Bank.{Bank}
use Rattle.bank_prog_form.specs.declared.column.Bank.TheVariants.{A, B, M, T, L, A15, W}
use Rattle.bank_prog_form.specs.declared.column.Column.{Column}
use Rattle.bank_prog_form.specs.declared.column.Column.TheVariants.{Def, DirectWrite, Fill, Stay, EarlyWrite, First, Serve, ReadVia}
use Rattle.bank_prog_form.specs.declared.column.Service.{Service}
use Rattle.bank_prog_form.specs.Columns.{origin_of, is_fetched, eight, may_begin, role_beginnings, place_words, point_uses, services, has_bank}
use Rattle.bank_prog_form.specs.Rows.{homes, banks, home, stay, srv, srv_from, srv_at, early, covers, is_slot, access_choice, use_choice, served_home, served_stay, use_stay, use_cover, at_home, argument_lines, argument_cover, stay_begins, word_begins, begins_at, slot_read}
use Rattle.bank_prog.specs.Meaning.{Chosen, Holds}
use Rattle.reg_assign_reading.specs.inner.Facts.{count, some_on, in_bank, early_in, IsIn, AccessFacts, UseFacts}
use Rattle.reg_assign_reading.proofs.Counts.{In, contained-in, in-either, in-kept, kept-in, map-in, each-in, each-flat, each-map, each-points, if-there, covered, exactly-one, count-append, some-counted, counted-any}
use Rattle.reg_assign_reading.proofs.FactsThere.{there, UseAt}
use Rattle.reg_assign_reading.proofs.FactsValues.{Known, one-on, on-one, two-or, same-use, role-written}

-- ---- accesses

pub place-point : (a : Access) (k : ℕ) (q : PointKind) → In a (place_accesses k q) → a.point ≡ k
place-point a k (Entry l ps) i = absurd i
place-point a k (At (Does (Lit x v))) i = absurd i
place-point a k (At (Does (Una x op y))) i = absurd i
place-point a k (At (Does (Bin x op y z))) i = absurd i
place-point a k (At (Does (Clone xs y))) i = absurd i
place-point a k (At (Does (Read m xs y))) i = ⊎_elim (λ e. ap (λ (b : Access). b.point) (sym e)) (λ j. absurd j) i
place-point a k (At (Does (Write m y xs))) i = ⊎_elim (λ e. ap (λ (b : Access). b.point) (sym e)) (λ j. absurd j) i
place-point a k (At (Forks c x y)) i = absurd i
place-point a k (At (Ends l)) i = absurd i

place-one : (a b : Access) (k : ℕ) (q : PointKind) → In a (place_accesses k q) → In b (place_accesses k q) → b ≡ a
place-one a b k (Entry l ps) i j = absurd i
place-one a b k (At (Does (Lit x v))) i j = absurd i
place-one a b k (At (Does (Una x op y))) i j = absurd i
place-one a b k (At (Does (Bin x op y z))) i j = absurd i
place-one a b k (At (Does (Clone xs y))) i j = absurd i
place-one a b k (At (Does (Read m xs y))) i j = ⊎_elim (λ e. ⊎_elim (λ f. sym f ∙ e) (λ z. absurd z) j) (λ z. absurd z) i
place-one a b k (At (Does (Write m y xs))) i j = ⊎_elim (λ e. ⊎_elim (λ f. sym f ∙ e) (λ z. absurd z) j) (λ z. absurd z) i
place-one a b k (At (Forks c x y)) i j = absurd i
place-one a b k (At (Ends l)) i j = absurd i

point-from : (a : Access) (k : ℕ) (ps : List Point) → In a (accesses_from k ps) → k ≤ a.point
point-from a k [] i = absurd i
point-from a k (q ∷ ps) i = ⊎_elim
    (λ (l : In a (place_accesses k q.place)). let e = place-point a k q.place l in omega (arith, e))
    (λ (r : In a (accesses_from (suc k) ps)). let e = point-from a (suc k) ps r in omega (arith, e))
    (in-either a (place_accesses k q.place) (accesses_from (suc k) ps) i)

pub same-access : (a b : Access) (k : ℕ) (ps : List Point) → In a (accesses_from k ps) → In b (accesses_from k ps) → b.point ≡ a.point → b ≡ a
same-access a b k [] i j e = absurd i
same-access a b k (q ∷ ps) i j e = ⊎_elim
    (λ (l : In a (place_accesses k q.place)). ⊎_elim
    (λ (m : In b (place_accesses k q.place)). place-one a b k q.place l m)
    (λ (r : In b (accesses_from (suc k) ps)). let f = place-point a k q.place l in let g = point-from b (suc k) ps r in absurd (omega (arith, e, f, g)))
    (in-either b (place_accesses k q.place) (accesses_from (suc k) ps) j))
    (λ (r : In a (accesses_from (suc k) ps)). ⊎_elim
    (λ (m : In b (place_accesses k q.place)). let f = place-point b k q.place m in let g = point-from a (suc k) ps r in absurd (omega (arith, e, f, g)))
    (λ (s : In b (accesses_from (suc k) ps)). same-access a b (suc k) ps r s e)
    (in-either b (place_accesses k q.place) (accesses_from (suc k) ps) j))
    (in-either a (place_accesses k q.place) (accesses_from (suc k) ps) i)

pub access-facts : (labels : List Label) (on : Chosen) (a : Access) → Each (Holds on) (access_choice a) → Known labels on → In a (accesses labels) → AccessFacts on a
access-facts labels on a l g i = record {
  once = exactly-one on (map (First a.point) eight) l;
  begins = λ f e.
      let t = there labels on (First a.point f) g.only e in
      let same : t.access ≡ a = same-access a t.access 0 (points labels) i t.there t.point in
      let w = in-kept (may_begin t.access.mem t.access.words) f eight t.begins in
      subst (λ (z : Access). may_begin z.mem z.words f ≡ true) same w.1;
}

-- ---- uses

pub in-banks : (p : Bank) → In p banks
in-banks A = inl refl
in-banks B = inr (inl refl)
in-banks M = inr (inr (inl refl))
in-banks T = inr (inr (inr (inl refl)))
in-banks L = inr (inr (inr (inr (inl refl))))
in-banks A15 = inr (inr (inr (inr (inr (inl refl)))))
in-banks W = inr (inr (inr (inr (inr (inr (inl refl))))))

from-counted : (on : Chosen) (k i : ℕ) (h p : Bank) → on (Serve k i h p) ≡ true → 1 ≤ count on (srv_from k i h)
from-counted on k i h p e = some-counted on (Serve k i h p) (srv_from k i h) (map-in (Serve k i h) p banks (in-banks p)) e

at-counted : (on : Chosen) (k i : ℕ) (h p : Bank) → on (Serve k i h p) ≡ true → 1 ≤ count on (srv_at k i p)
at-counted on k i h p e = some-counted on (Serve k i h p) (srv_at k i p) (map-in (λ h. Serve k i h p) h banks (in-banks h)) e

from-home : (on : Chosen) (u : Use) (h p : Bank) → Each (Holds on) (map (served_home u) homes) → In h homes → on (Serve u.point u.operand h p) ≡ true → in_bank on h u.value ≡ true
from-home on u h p l i e =
    let line = each-in (λ h. Holds on (served_home u h)) h homes (each-map (Holds on) (served_home u) homes l) i in
    let a = covered on (home u.value h) (srv_from u.point u.operand h) line in
    let b = from-counted on u.point u.operand h p e in
    two-or on (Def u.value h) (Fill u.value h) (omega (arith, a, b))

from-stay : (labels : List Label) (on : Chosen) (u : Use) (p : Bank) → Each (Holds on) (use_stay labels u) → is_fetched (origin_of labels u.value) ≡ true → on (Serve u.point u.operand T p) ≡ true → some_on on (Stay u.value) ≡ true
from-stay labels on u p l read e =
    let line = if-there (Holds on) (is_fetched (origin_of labels u.value)) (served_stay u ∷ []) l read in
    let a = covered on (stay u.value) (srv_from u.point u.operand T) line.0 in
    let b = from-counted on u.point u.operand T p e in
    counted-any on (Stay u.value) eight (omega (arith, a, b))

is-in : (labels : List Label) (on : Chosen) (u : Use) (h p : Bank) → Each (Holds on) (use_cover labels u) → has_bank (is_fetched (origin_of labels u.value)) h ≡ true → on (Serve u.point u.operand h p) ≡ true → IsIn labels on u.value h
is-in labels on u A p l b e = from-home on u A p (each-left (Holds on) (map (served_home u) homes) (use_stay labels u) l) (inl refl) e
is-in labels on u B p l b e = from-home on u B p (each-left (Holds on) (map (served_home u) homes) (use_stay labels u) l) (inr (inl refl)) e
is-in labels on u M p l b e = from-home on u M p (each-left (Holds on) (map (served_home u) homes) (use_stay labels u) l) (inr (inr (inl refl))) e
is-in labels on u T p l b e = (b, from-stay labels on u p (each-right (Holds on) (map (served_home u) homes) (use_stay labels u) l) b e)
is-in labels on u L p l b e = tt
is-in labels on u A15 p l b e = tt
is-in labels on u W p l b e = tt

-- the service that a column names
pub record Served (labels : List Label) (u : Use) (h p : Bank) : Type 0 where
  pub service : Service
  pub among : In service (services u.role)
  pub bank : has_bank (is_fetched (origin_of labels u.value)) h ≡ true
  pub from : service.from ≡ h
  pub at : service.at ≡ p

pub served-by : (labels : List Label) (on : Chosen) (u : Use) (h p : Bank) → Known labels on → In u (uses labels) → on (Serve u.point u.operand h p) ≡ true → Served labels u h p
served-by labels on u h p g i e =
    let t = there labels on (Serve u.point u.operand h p) g.only e in
    let same : t.use_ ≡ u = same-use (uses labels) u t.use_ g.apart i t.there t.point t.operand in
    record {
      service = t.service;
      among = subst (λ (z : Use). In t.service (services z.role)) same t.among;
      bank = subst (λ b. has_bank (is_fetched (origin_of labels u.value)) b ≡ true) t.from (subst (λ (z : Use). has_bank (is_fetched (origin_of labels z.value)) t.service.from ≡ true) same t.bank);
      from = t.from;
      at = t.at;
    }

named-service : (s : Service) (h p : Bank) (ss : List Service) → In s ss → s.from ≡ h → s.at ≡ p → (c : ℕ) × Contains ss (record { from = h; at = p; cost = c })
named-service s h p ss i e f = (
  s.cost,
  contained-in (record { from = h; at = p; cost = s.cost }) ss (
      subst (λ (q : Bank). In {X = Service} (record { from = h; at = q; cost = s.cost }) ss) f (
      subst (λ (b : Bank). In {X = Service} (record { from = b; at = s.at; cost = s.cost }) ss) e i)),
)

argument-home : (l i : ℕ) → Each (λ (s : Service). In s.at homes) (services (Argument l i))
argument-home l i =
    let a : In A homes = inl refl in
    let b : In B homes = inr (inl refl) in
    let m : In M homes = inr (inr (inl refl)) in
    (a, (b, (m, (a, (b, (m, (a, (b, (m, (a, (b, (m, tt))))))))))))

to-parameter : (labels : List Label) (on : Chosen) (u : Use) (l i : ℕ) (h p : Bank) → Each (Holds on) (argument_cover labels u) → Served labels u h p → u.role ≡ Argument l i → on (Serve u.point u.operand h p) ≡ true → on (Def (parameter labels l i) p) ≡ true
to-parameter labels on u l i h p ls s r e =
    let among : In s.service (services (Argument l i)) = subst (λ z. In s.service (services z)) r s.among in
    let at : In p homes = subst (λ b. In b homes) s.at (each-in (λ (s : Service). In s.at homes) s.service (services (Argument l i)) (argument-home l i) among) in
    let mine : Each (Holds on) (argument_lines labels u.point u.operand (Argument l i)) = subst (λ z. Each (Holds on) (argument_lines labels u.point u.operand z)) r ls in
    let line = each-in (λ p. Holds on (covers (at_home (parameter labels l i) p) (srv_at u.point u.operand p))) p homes
    (each-map (Holds on) (λ p. covers (at_home (parameter labels l i) p) (srv_at u.point u.operand p)) homes mine) at in
    let a = covered on (at_home (parameter labels l i) p) (srv_at u.point u.operand p) line in
    let b = at-counted on u.point u.operand h p e in
    on-one on (Def (parameter labels l i) p) (omega (arith, a, b))

through-pass : (labels : List Label) (on : Chosen) (u : Use) (p : Bank) → Each (Holds on) (slot_read u) → Served labels u M p → on (Serve u.point u.operand M p) ≡ true → some_on on (ReadVia u.point) ≡ true
through-pass labels on u p ls s e =
    let test : is_slot s.service.from ≡ true = ap is_slot s.from in
    let kept = kept-in (λ (s : Service). is_slot s.from) s.service (services u.role) s.among test in
    let line = each-in (λ (s : Service). Holds on (covers (map (ReadVia u.point) eight) (Serve u.point u.operand s.from s.at ∷ []))) s.service (filter (λ (s : Service). is_slot s.from) (services u.role))
    (each-map (Holds on) (λ (s : Service). covers (map (ReadVia u.point) eight) (Serve u.point u.operand s.from s.at ∷ [])) (filter (λ (s : Service). is_slot s.from) (services u.role)) ls) kept in
    let a = covered on (map (ReadVia u.point) eight) (Serve u.point u.operand s.service.from s.service.at ∷ []) line in
    let mine : on (Serve u.point u.operand s.service.from s.service.at) ≡ true = subst (λ b. on (Serve u.point u.operand b s.service.at) ≡ true) (sym s.from) (subst (λ q. on (Serve u.point u.operand M q) ≡ true) (sym s.at) e) in
    let b = one-on on (Serve u.point u.operand s.service.from s.service.at) [] mine in
    counted-any on (ReadVia u.point) eight (omega (arith, a, b))

-- where a word that is put early stands, and where its write may begin
pub record Early (labels : List Label) (u : Use) (f : ℕ) : Type 0 where
  pub place : Point
  pub at : slice_get (points labels) u.point ≡ Some place
  pub here : In u (point_uses u.point place)
  pub begins : In f (role_beginnings (place_words place.place) u.role)

early-at : (labels : List Label) (on : Chosen) (u : Use) (f : ℕ) → Known labels on → In u (uses labels) → (w : UseAt labels u.point u.operand) → In f (role_beginnings (place_words w.place.place) w.use_.role) → Early labels u f
early-at labels on u f g i w b =
    let same : w.use_ ≡ u = same-use (uses labels) u w.use_ g.apart i w.there w.point w.operand in
    record {
      place = w.place;
      at = w.at;
      here = subst (λ (z : Use). In z (point_uses u.point w.place)) same w.here;
      begins = subst (λ (z : Use). In f (role_beginnings (place_words w.place.place) z.role)) same b;
    }

pub early-there : (labels : List Label) (on : Chosen) (u : Use) (f : ℕ) → Known labels on → In u (uses labels) → early_in on u f ≡ true → Early labels u f
early-there labels on u f g i e = ⊎_elim
    (λ (d : on (DirectWrite u.point u.operand f) ≡ true). let t = there labels on (DirectWrite u.point u.operand f) g.only d in early-at labels on u f g i t.0 t.2)
    (λ (d : on (EarlyWrite u.point u.operand f) ≡ true). let t = there labels on (EarlyWrite u.point u.operand f) g.only d in early-at labels on u f g i t.0 t.1)
    (or_cases (on (DirectWrite u.point u.operand f)) (on (EarlyWrite u.point u.operand f)) e)

pub either-counted : (on : Chosen) (c d : Column) → (on c || on d) ≡ true → 1 ≤ count on (c ∷ d ∷ [])
either-counted on c d e = ⊎_elim
    (λ (f : on c ≡ true). some-counted on c (c ∷ d ∷ []) (inl refl) f)
    (λ (f : on d ≡ true). some-counted on d (c ∷ d ∷ []) (inr (inl refl)) f)
    (or_cases (on c) (on d) e)

word-begins : (labels : List Label) (on : Chosen) (u : Use) (f : ℕ) → Known labels on → In u (uses labels) → early_in on u f ≡ true → on (First u.point f) ≡ true
word-begins labels on u f g i e =
    let t = early-there labels on u f g i e in
    let k = u.point in
    let n = place_words t.place.place in
    let here = each-points (Holds on) (begins_at labels) 0 k k (points labels) t.place (omega arith) t.at g.begins in
    let words = each-flat (Holds on) (word_begins n) (point_uses k t.place) (each-right (Holds on) (flat_map (stay_begins labels n) (place_values k t.place.place)) (flat_map (word_begins n) (point_uses k t.place)) here) in
    let mine = each-in (λ z. Each (Holds on) (word_begins n z)) u (point_uses k t.place) words t.here in
    let row = each-map (Holds on) (λ f. covers (First k f ∷ []) (DirectWrite k u.operand f ∷ EarlyWrite k u.operand f ∷ [])) (role_beginnings n u.role) mine in
    let line = each-in (λ f. Holds on (covers (First k f ∷ []) (DirectWrite k u.operand f ∷ EarlyWrite k u.operand f ∷ []))) f (role_beginnings n u.role) row t.begins in
    let a = covered on (First k f ∷ []) (DirectWrite k u.operand f ∷ EarlyWrite k u.operand f ∷ []) line in
    let b = either-counted on (DirectWrite k u.operand f) (EarlyWrite k u.operand f) e in
    on-one on (First k f) (omega (arith, a, b))

-- the lines in which a use stands
pub record UseLines (labels : List Label) (on : Chosen) (u : Use) : Type 0 where
  pub choice : Each (Holds on) (use_choice u)
  pub cover : Each (Holds on) (use_cover labels u)
  pub argument : Each (Holds on) (argument_cover labels u)
  pub slot : Each (Holds on) (slot_read u)

pub use-facts : (labels : List Label) (on : Chosen) (u : Use) → UseLines labels on u → Known labels on → In u (uses labels) → UseFacts labels on u
use-facts labels on u l g i = record {
  once = sym (count-append on (srv u) (early u)) ∙ exactly-one on (srv u ++ early u) l.choice;
  served = λ h p e. let s = served-by labels on u h p g i e in is-in labels on u h p l.cover s.bank e;
  services = λ h p e. let s = served-by labels on u h p g i e in named-service s.service h p (services u.role) s.among s.from s.at;
  argument = λ m j r h p e. to-parameter labels on u m j h p l.argument (served-by labels on u h p g i e) r e;
  from_slot = λ p e. through-pass labels on u p l.slot (served-by labels on u M p g i e) e;
  written = λ f e. let t = early-there labels on u f g i e in role-written (place_words t.place.place) f u.role t.begins;
  begins = λ f e. word-begins labels on u f g i e;
  of_result = λ f e.
      let t = there labels on (DirectWrite u.point u.operand f) g.only e in
      let same : t.0.use_ ≡ u = same-use (uses labels) u t.0.use_ g.apart i t.0.there t.0.point t.0.operand in
      subst (λ (z : Use). is_result (origin_of labels z.value) ≡ true) same t.1;
}
