-- What the plan that a choice of columns stands for says of accesses, uses, points and values.
use Rattle.std.proofs.Common.{◌≡◌, ℕ, zero, suc, ◌+◌, ◌<◌, ◌≤◌, Bool, true, false, nat_eq, if◌then◌else◌, ◌&&◌, ⊎_elim, Option, Some, None, List, [], ◌∷◌, ◌++◌, length, map, unwrap_or, refl, sym, ap, subst, ◌∙◌, arith}
use Rattle.std.specs.Prelude.{slice_get, is_some}
use Rattle.std.specs.List.{list_any}
use Rattle.std.proofs.lemmas.Bool.{and_from, or_cases, or_parts, false≢true, false_from_ne_true}
use Rattle.nv_base.specs.Sets.{is_in}
use Rattle.nv_base.proofs.Sets.{same-number, other-number}
use Rattle.ssu_ir.specs.Tree.{Label}
use Rattle.ssu_ir.specs.Points.{Point}
use Rattle.place_plan.specs.declared.place.Serve.{Serve}
use Rattle.place_plan.specs.declared.place.Pass.{Pass}
use Rattle.place_plan.specs.Plan.{Home, first_in, first, serve_in, pass_in}
use Rattle.place_plan.specs.Uses.{Access, accesses, Use}
use Rattle.place_plan.proofs.Ordered.{RisesFrom, rises-cons, rises-later}
use Rattle.place_plan.specs.Fits.{same_use, IsEighth, at_operand, use_operand}
use Rattle.zo_model.specs.Program.{cost_where}
use Rattle.bank_prog_form.specs.declared.column.Column.{Column}
use Rattle.bank_prog_form.specs.declared.column.Column.TheVariants.{First}
use Rattle.bank_prog_form.specs.declared.column.Service.{Service}
use Rattle.bank_prog_form.specs.Columns.{eight, services}
use Rattle.bank_prog.specs.Meaning.{Chosen}
use Rattle.ssu_liveness.proofs.Scoped.{in-itself}
use Rattle.place_plan.proofs.Sound.{Each}
use Rattle.place_plan.proofs.Spilled.{each-weaker, each-apply, Apart, skip, take-first}
use Rattle.reg_assign_reading.specs.inner.Facts.{count, AccessFacts}
use Rattle.reg_assign_reading.specs.ReadOff.{Numbers, first_on, begins, pass_l, pass_s, service_on, serve_by, use_serve, access_first, pass_by, passes_from, read_off}

-- ---- counts

pub on-one : (b : Bool) → b ≡ true → cost_where b 1 ≡ 1
on-one true e = refl
on-one false e = absurd (false≢true e)

pub on-none : (b : Bool) → cost_where b 1 ≡ 0 → b ≡ false
on-none true e = absurd (omega arith)
on-none false e = refl

-- the sum of a column that is on and of others is at least 1
pub count-some : (on : Chosen) (c : ℕ → Column) (rs : List ℕ) (r : ℕ) → is_in r rs ≡ true → on (c r) ≡ true → 1 ≤ count on (map c rs)
count-some on c [] r i h = absurd (false≢true i)
count-some on c (s ∷ rs) r i h = ⊎_elim
    (λ (a : nat_eq r s ≡ true). let e = on-one (on (c s)) (ap (λ n. on (c n)) (sym (same-number r s a)) ∙ h) in omega arith)
    (λ (b : is_in r rs ≡ true). let l = count-some on c rs r b h in omega arith)
    (or_cases (nat_eq r s) (is_in r rs) i)

pub any-count : (on : Chosen) (cs : List Column) → list_any on cs ≡ true → 1 ≤ count on cs
any-count on [] e = absurd (false≢true e)
any-count on (c ∷ cs) e = ⊎_elim
    (λ (a : on c ≡ true). let f = on-one (on c) a in omega arith)
    (λ (b : list_any on cs ≡ true). let l = any-count on cs b in omega arith)
    (or_cases (on c) (list_any on cs) e)

pub none-count : (on : Chosen) (cs : List Column) → list_any on cs ≡ false → count on cs ≡ 0
none-count on [] e = refl
none-count on (c ∷ cs) e =
    let p = or_parts (on c) (list_any on cs) e in
    let f : cost_where (on c) 1 ≡ 0 = ap (λ b. cost_where b 1) p.0 in
    let g = none-count on cs p.1 in
    omega arith

pub count-none : (on : Chosen) (cs : List Column) → count on cs ≡ 0 → list_any on cs ≡ false
count-none on cs e = false_from_ne_true (list_any on cs) (λ a. let l = any-count on cs a in omega arith)

pub count-any : (on : Chosen) (cs : List Column) → 1 ≤ count on cs → list_any on cs ≡ true
count-any on cs l = pick (list_any on cs) refl
  where
    pick : (b : Bool) → list_any on cs ≡ b → b ≡ true
    pick true e = refl
    pick false e = let z = none-count on cs e in absurd (omega arith)

-- ---- the first number at which a column is on

pub first-on-each : (f : ℕ → Bool) (P : ℕ → Type 0) (rs : List ℕ) (r : ℕ) → Each P rs → first_on f rs ≡ Some r → P r × (f r ≡ true)
first-on-each f P [] r h e = absurd (cc)
first-on-each f P (s ∷ rs) r h e = pick (f s) refl (λ k. first-on-each f P rs r h.1 k) e
  where
    pick : (b : Bool) → f s ≡ b → (first_on f rs ≡ Some r → P r × (f r ≡ true)) → (if b then Some s else first_on f rs) ≡ Some r → P r × (f r ≡ true)
    pick true g rest k = let same : s ≡ r = cc in (subst P same h.0, ap f (sym same) ∙ g)
    pick false g rest k = rest k

pub first-on-any : (f : ℕ → Bool) (rs : List ℕ) → list_any f rs ≡ true → is_some (first_on f rs) ≡ true
first-on-any f [] e = absurd (false≢true e)
first-on-any f (s ∷ rs) e = pick (f s) refl (λ k. first-on-any f rs k)
  where
    pick : (b : Bool) → f s ≡ b → (list_any f rs ≡ true → is_some (first_on f rs) ≡ true) → is_some (if b then Some s else first_on f rs) ≡ true
    pick true g rest = refl
    pick false g rest = rest (⊎_elim (λ (a : f s ≡ true). absurd (false≢true (sym g ∙ a))) (λ (b : list_any f rs ≡ true). b) (or_cases (f s) (list_any f rs) e))

pub some-first-on : (f : ℕ → Bool) (rs : List ℕ) → is_some (first_on f rs) ≡ true → (r : ℕ) × (f r ≡ true)
some-first-on f [] e = absurd (false≢true e)
some-first-on f (s ∷ rs) e = pick (f s) refl (λ k. some-first-on f rs k) e
  where
    pick : (b : Bool) → f s ≡ b → (is_some (first_on f rs) ≡ true → (r : ℕ) × (f r ≡ true)) → is_some (if b then Some s else first_on f rs) ≡ true → (r : ℕ) × (f r ≡ true)
    pick true g rest k = (s, g)
    pick false g rest k = rest k

pub first-on-none : (f : ℕ → Bool) (rs : List ℕ) → ((r : ℕ) → f r ≡ false) → first_on f rs ≡ None
first-on-none f [] h = refl
first-on-none f (s ∷ rs) h = pick (f s) (h s) (first-on-none f rs h)
  where
    pick : (b : Bool) → b ≡ false → first_on f rs ≡ None → (if b then Some s else first_on f rs) ≡ None
    pick true g rest = absurd (false≢true (sym g))
    pick false g rest = rest

pub only-first : (on : Chosen) (c : ℕ → Column) (rs : List ℕ) (f : ℕ) → count on (map c rs) ≤ 1 → is_in f rs ≡ true → on (c f) ≡ true → first_on (λ r. on (c r)) rs ≡ Some f
only-first on c [] f n i h = absurd (false≢true i)
only-first on c (s ∷ rs) f n i h = pick (on (c s)) refl (λ m j. only-first on c rs f m j h)
  where
    pick : (b : Bool) → on (c s) ≡ b → (count on (map c rs) ≤ 1 → is_in f rs ≡ true → first_on (λ r. on (c r)) rs ≡ Some f) → (if b then Some s else first_on (λ r. on (c r)) rs) ≡ Some f
    pick true g rest = ⊎_elim
        (λ (a : nat_eq f s ≡ true). ap (λ m. Some m) (sym (same-number f s a)))
        (λ (b : is_in f rs ≡ true). let l = count-some on c rs f b h in let o = on-one (on (c s)) g in absurd (omega arith))
        (or_cases (nat_eq f s) (is_in f rs) i)
    pick false g rest = rest (let z = ap (λ b. cost_where b 1) g in omega arith)
        (⊎_elim (λ (a : nat_eq f s ≡ true). absurd (false≢true (sym g ∙ ap (λ m. on (c m)) (sym (same-number f s a)) ∙ h))) (λ (b : is_in f rs ≡ true). b) (or_cases (nat_eq f s) (is_in f rs) i))

pub in-eight : (f : ℕ) → f < 8 → is_in f eight ≡ true
in-eight zero l = refl
in-eight (suc zero) l = refl
in-eight (suc (suc zero)) l = refl
in-eight (suc (suc (suc zero))) l = refl
in-eight (suc (suc (suc (suc zero)))) l = refl
in-eight (suc (suc (suc (suc (suc zero))))) l = refl
in-eight (suc (suc (suc (suc (suc (suc zero)))))) l = refl
in-eight (suc (suc (suc (suc (suc (suc (suc zero))))))) l = refl
in-eight (suc (suc (suc (suc (suc (suc (suc (suc f)))))))) l = absurd (omega arith)

pub eight-low : Each (λ r. r < 8) eight
eight-low = (omega arith, (omega arith, (omega arith, (omega arith, (omega arith, (omega arith, (omega arith, (omega arith, tt))))))))

pub is-eighth : (f : ℕ → Bool) → IsEighth (first_on f eight)
is-eighth f = pick (first_on f eight) refl
  where
    pick : (o : Option ℕ) → first_on f eight ≡ o → IsEighth o
    pick (Some r) e = (first-on-each f (λ r. r < 8) eight r eight-low e).0
    pick None e = tt

-- ---- accesses

-- an access begins only at one of the eight registers, and only at a point that has an access
abbrev pub FirstsThere : List Label → Chosen → Type 0
FirstsThere labels on = (k f : ℕ) → on (First k f) ≡ true → (f < 8) × (is_in k (map (λ a. a.point) (accesses labels)) ≡ true)

first-found : (on : Chosen) (as' : List Access) (k : ℕ) → is_in k (map (λ a. a.point) as') ≡ true → first_in (map (access_first on) as') k ≡ begins on k
first-found on [] k e = absurd (false≢true e)
first-found on (a ∷ as') k e = pick (nat_eq a.point k) refl (λ m. first-found on as' k m)
  where
    pick : (b : Bool) → nat_eq a.point k ≡ b → (is_in k (map (λ (w : Access). w.point) as') ≡ true → first_in (map (access_first on) as') k ≡ begins on k) → (if b then begins on a.point else first_in (map (access_first on) as') k) ≡ begins on k
    pick true f rest = ap (begins on) (same-number a.point k f)
    pick false f rest = rest (⊎_elim
        (λ (g : nat_eq k a.point ≡ true). absurd (false≢true (sym f ∙ ap (λ y. nat_eq y k) (sym (same-number k a.point g)) ∙ in-itself k)))
        (λ (g : is_in k (map (λ (w : Access). w.point) as') ≡ true). g)
        (or_cases (nat_eq k a.point) (is_in k (map (λ (w : Access). w.point) as')) e))

first-missing : (on : Chosen) (as' : List Access) (k : ℕ) → is_in k (map (λ a. a.point) as') ≡ false → first_in (map (access_first on) as') k ≡ 0
first-missing on [] k e = refl
first-missing on (a ∷ as') k e =
    let p = or_parts (nat_eq k a.point) (is_in k (map (λ (w : Access). w.point) as')) e in
    miss (nat_eq a.point k) (other-number k a.point p.0) ∙ first-missing on as' k p.1
  where
    miss : (b : Bool) → b ≡ false → (if b then begins on a.point else first_in (map (access_first on) as') k) ≡ first_in (map (access_first on) as') k
    miss true f = absurd (false≢true (sym f))
    miss false f = refl

pub first-read : (labels : List Label) (slots : ℕ) (on : Chosen) (numbers : Numbers) (hs : List Home) → FirstsThere labels on → (k : ℕ) → first (read_off labels slots on numbers hs) k ≡ begins on k
first-read labels slots on numbers hs h k = pick (is_in k (map (λ (a : Access). a.point) (accesses labels))) refl
  where
    pick : (b : Bool) → is_in k (map (λ a. a.point) (accesses labels)) ≡ b → first_in (map (access_first on) (accesses labels)) k ≡ begins on k
    pick true e = first-found on (accesses labels) k e
    pick false e =
        first-missing on (accesses labels) k e
        ∙ sym (ap (λ o. unwrap_or o 0) (first-on-none (λ f. on (First k f)) eight (λ f. false_from_ne_true (on (First k f)) (λ g. false≢true (sym e ∙ (h k f g).1)))))

-- the point of an access has that access's facts
access-at : (on : Chosen) (as' : List Access) (k : ℕ) → Each (AccessFacts on) as' → is_in k (map (λ a. a.point) as') ≡ true → count on (map (First k) eight) ≡ 1
access-at on [] k h e = absurd (false≢true e)
access-at on (a ∷ as') k h e = ⊎_elim
    (λ (g : nat_eq k a.point ≡ true). ap (λ n. count on (map (First n) eight)) (same-number k a.point g) ∙ h.0.once)
    (λ (g : is_in k (map (λ (w : Access). w.point) as') ≡ true). access-at on as' k h.1 g)
    (or_cases (nat_eq k a.point) (is_in k (map (λ (w : Access). w.point) as')) e)

pub begins-at : (labels : List Label) (on : Chosen) → FirstsThere labels on → Each (AccessFacts on) (accesses labels) → (k f : ℕ) → on (First k f) ≡ true → begins on k ≡ f
begins-at labels on h as' k f e =
    let p = h k f e in
    let one = access-at on (accesses labels) k as' p.1 in
    ap (λ o. unwrap_or o 0) (only-first on (First k) eight f (omega arith) (in-eight f p.0) e)

pub begins-on : (on : Chosen) (k : ℕ) → count on (map (First k) eight) ≡ 1 → on (First k (begins on k)) ≡ true
begins-on on k e = pick (first_on (λ f. on (First k f)) eight) refl
  where
    some : list_any on (map (First k) eight) ≡ true
    some = count-any on (map (First k) eight) (omega arith)

    pick : (o : Option ℕ) → first_on (λ f. on (First k f)) eight ≡ o → on (First k (unwrap_or o 0)) ≡ true
    pick (Some f) g = (first-on-each (λ f. on (First k f)) (λ r. r < 8) eight f eight-low g).1
    pick None g = absurd (false≢true (ap is_some (sym g) ∙ first-on-any (λ f. on (First k f)) eight some))

pub firsts-points : (on : Chosen) (as' : List Access) → map (λ f. f.point) (map (access_first on) as') ≡ map (λ a. a.point) as'
firsts-points on [] = refl
firsts-points on (a ∷ as') = ap (λ l. a.point ∷ l) (firsts-points on as')

-- ---- serves

by-operand : (labels : List Label) (on : Chosen) (numbers : Numbers) (u : Use) → at_operand (use_serve labels on numbers u) ≡ use_operand u
by-operand labels on numbers u = pick (service_on on u (services u.role))
  where
    pick : (o : Option Service) → at_operand (serve_by labels on numbers u o) ≡ use_operand u
    pick (Some s) = refl
    pick None = refl

pub serves-operands : (labels : List Label) (on : Chosen) (numbers : Numbers) (us : List Use) → map at_operand (map (use_serve labels on numbers) us) ≡ map use_operand us
serves-operands labels on numbers [] = refl
serves-operands labels on numbers (u ∷ us) = cons-both (at_operand (use_serve labels on numbers u)) (use_operand u) (by-operand labels on numbers u) (serves-operands labels on numbers us)
  where
    cons-both : (a b : ℕ × ℕ) → a ≡ b → map at_operand (map (use_serve labels on numbers) us) ≡ map use_operand us → (a ∷ map at_operand (map (use_serve labels on numbers) us)) ≡ (b ∷ map use_operand us)
    cons-both a b e f = ap (λ w. w ∷ map at_operand (map (use_serve labels on numbers) us)) e ∙ ap (λ l. b ∷ l) f

abbrev pub IsFound : List Label → Chosen → Numbers → List Use → Use → Type 0
IsFound labels on numbers us u = serve_in (map (use_serve labels on numbers) us) u.point u.operand ≡ use_serve labels on numbers u

same-keys : (labels : List Label) (on : Chosen) (numbers : Numbers) (u : Use) (k i : ℕ) → (nat_eq (use_serve labels on numbers u).point k && nat_eq (use_serve labels on numbers u).operand i) ≡ (nat_eq u.point k && nat_eq u.operand i)
same-keys labels on numbers u k i = ap (λ (w : ℕ × ℕ). nat_eq w.0 k && nat_eq w.1 i) (by-operand labels on numbers u)

pub serves-found : (labels : List Label) (on : Chosen) (numbers : Numbers) (us : List Use) → Apart us → Each (IsFound labels on numbers us) us
serves-found labels on numbers [] h = tt
serves-found labels on numbers (u ∷ us) h =
    let s = use_serve labels on numbers u in
    let rest : List Serve = map (use_serve labels on numbers) us in (
      take-first (nat_eq s.point u.point && nat_eq s.operand u.operand) s (serve_in rest u.point u.operand)
          (same-keys labels on numbers u u.point u.operand ∙ and_from (nat_eq u.point u.point) (nat_eq u.operand u.operand) (in-itself u.point) (in-itself u.operand)),
      each-apply (λ (v : Use). same_use u v ≡ false) (IsFound labels on numbers (u ∷ us)) us
          (each-weaker (IsFound labels on numbers us) (λ (v : Use). same_use u v ≡ false → IsFound labels on numbers (u ∷ us) v) us
          (λ v f e. skip (nat_eq s.point v.point && nat_eq s.operand v.operand) s (serve_in rest v.point v.operand) (use_serve labels on numbers v) (same-keys labels on numbers u v.point v.operand ∙ e) f)
          (serves-found labels on numbers us h.1))
          h.0,
    )

-- ---- passes

pass-skipped : (on : Chosen) (ps : List Point) (j k : ℕ) → k < j → pass_in (passes_from on j ps) k ≡ record { point = k; l = None; s = None }
pass-skipped on [] j k l = refl
pass-skipped on (p ∷ ps) j k l = pick (pass-skipped on ps (suc j) k (omega arith)) (pass_l on j) (pass_s on j)
  where
    miss : (a : Pass) → nat_eq a.point k ≡ false → pass_in (passes_from on (suc j) ps) k ≡ record { point = k; l = None; s = None } → pass_in (a ∷ passes_from on (suc j) ps) k ≡ record { point = k; l = None; s = None }
    miss a e rest = ap (λ b. if b then a else pass_in (passes_from on (suc j) ps) k) e ∙ rest

    apart : nat_eq j k ≡ false
    apart = false_from_ne_true (nat_eq j k) (λ g. let same = same-number j k g in omega arith)

    pick : pass_in (passes_from on (suc j) ps) k ≡ record { point = k; l = None; s = None } → (l s : Option ℕ) → pass_in (pass_by j l s ++ passes_from on (suc j) ps) k ≡ record { point = k; l = None; s = None }
    pick rest (Some a) s = miss (record { point = j; l = Some a; s = s }) apart rest
    pick rest None (Some b) = miss (record { point = j; l = None; s = Some b }) apart rest
    pick rest None None = rest

pub pass-at : (on : Chosen) (ps : List Point) (j i k : ℕ) (q : Point) → k ≡ j + i → slice_get ps i ≡ Some q → pass_in (passes_from on j ps) k ≡ record { point = k; l = pass_l on k; s = pass_s on k }
pass-at on [] j i k q e f = absurd (cc)
pass-at on (p ∷ ps) j zero k q e f = let here : j ≡ k = omega arith in subst (λ n. pass_in (passes_from on j (p ∷ ps)) n ≡ record { point = n; l = pass_l on n; s = pass_s on n }) here (pick (pass_l on j) (pass_s on j))
  where
    hit : (a : Pass) → nat_eq a.point j ≡ true → pass_in (a ∷ passes_from on (suc j) ps) j ≡ a
    hit a g = ap (λ b. if b then a else pass_in (passes_from on (suc j) ps) j) g

    pick : (l s : Option ℕ) → pass_in (pass_by j l s ++ passes_from on (suc j) ps) j ≡ record { point = j; l = l; s = s }
    pick (Some a) s = hit (record { point = j; l = Some a; s = s }) (in-itself j)
    pick None (Some b) = hit (record { point = j; l = None; s = Some b }) (in-itself j)
    pick None None = pass-skipped on ps (suc j) j (omega arith)
pass-at on (p ∷ ps) j (suc i) k q e f = pick (pass-at on ps (suc j) i k q (omega arith) f) (pass_l on j) (pass_s on j)
  where
    apart : nat_eq j k ≡ false
    apart = false_from_ne_true (nat_eq j k) (λ g. let same = same-number j k g in omega arith)

    miss : (a : Pass) → nat_eq a.point k ≡ false → pass_in (passes_from on (suc j) ps) k ≡ record { point = k; l = pass_l on k; s = pass_s on k } → pass_in (a ∷ passes_from on (suc j) ps) k ≡ record { point = k; l = pass_l on k; s = pass_s on k }
    miss a g rest = ap (λ b. if b then a else pass_in (passes_from on (suc j) ps) k) g ∙ rest

    pick : pass_in (passes_from on (suc j) ps) k ≡ record { point = k; l = pass_l on k; s = pass_s on k } → (l s : Option ℕ) → pass_in (pass_by j l s ++ passes_from on (suc j) ps) k ≡ record { point = k; l = pass_l on k; s = pass_s on k }
    pick rest (Some a) s = miss (record { point = j; l = Some a; s = s }) apart rest
    pick rest None (Some b) = miss (record { point = j; l = None; s = Some b }) apart rest
    pick rest None None = rest

pub passes-rise : (on : Chosen) (k : ℕ) (ps : List Point) → RisesFrom k (map (λ q. q.point) (passes_from on k ps))
passes-rise on k [] = record { rise = tt; low = tt }
passes-rise on k (p ∷ ps) = pick (passes-rise on (suc k) ps) (pass_l on k) (pass_s on k)
  where
    pick : RisesFrom (suc k) (map (λ q. q.point) (passes_from on (suc k) ps)) → (l s : Option ℕ) → RisesFrom k (map (λ q. q.point) (pass_by k l s ++ passes_from on (suc k) ps))
    pick rest (Some a) s = rises-cons k (map (λ (q : Pass). q.point) (passes_from on (suc k) ps)) rest
    pick rest None (Some b) = rises-cons k (map (λ (q : Pass). q.point) (passes_from on (suc k) ps)) rest
    pick rest None None = rises-later k (map (λ (q : Pass). q.point) (passes_from on (suc k) ps)) rest

pub passes-below : (on : Chosen) (k n : ℕ) (ps : List Point) → k + length ps ≤ n → Each (λ q. q.point < n) (passes_from on k ps)
passes-below on k n [] h = tt
passes-below on k n (p ∷ ps) h = pick (passes-below on (suc k) n ps (omega arith)) (pass_l on k) (pass_s on k)
  where
    pick : Each (λ q. q.point < n) (passes_from on (suc k) ps) → (l s : Option ℕ) → Each (λ q. q.point < n) (pass_by k l s ++ passes_from on (suc k) ps)
    pick rest (Some a) s = (omega arith, rest)
    pick rest None (Some b) = (omega arith, rest)
    pick rest None None = rest
