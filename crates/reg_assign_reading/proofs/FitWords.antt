-- Which words a choice of columns puts early: those that its plan serves from their write registers.
use Rattle.std.proofs.Common.{◌≡◌, ℕ, ◌+◌, ◌≤◌, Bool, true, false, nat_eq, if◌then◌else◌, Option, Some, None, List, [], ◌∷◌, ◌++◌, map, filter, refl, sym, ap, subst, ◌∙◌, arith}
use Rattle.std.specs.List.{list_any}
use Rattle.std.proofs.lemmas.Bool.{false≢true}
use Rattle.nv_base.specs.declared.term.Mem.TheVariants.{Sram, Sdram, Scratch}
use Rattle.ssu_ir.specs.Tree.{Label}
use Rattle.place_plan.specs.declared.place.Serve.{Serve}
use Rattle.place_plan.specs.Plan.{Home}
use Rattle.place_plan.specs.Uses.{ValueOrigin, Parameter, Result, Fetched, Value, values, Role, Operand, Address, Written, Argument, Ending, Use, uses, uses_of}
use Rattle.place_plan.specs.Fits.{write_place, is_write_register, role_register, word_register, is_early, early_uses}
use Rattle.zo_model.specs.Program.{cost_where}
use Rattle.bank_prog_form.specs.declared.column.Column.{Column}
use Rattle.bank_prog_form.specs.declared.column.Column.TheVariants.{Serve as ServeColumn}
use Rattle.bank_prog_form.specs.declared.column.Service.{Service}
use Rattle.bank_prog_form.specs.Columns.{services}
use Rattle.bank_prog_form.specs.Rows.{dir, ear, srv, early, is_written}
use Rattle.bank_prog.specs.Meaning.{Chosen}
use Rattle.bank_prog_rows.proofs.PlainLines.{each-kept}
use Rattle.place_plan.proofs.Sound.{Each}
use Rattle.reg_assign_reading.specs.inner.Facts.{count, UseFacts}
use Rattle.reg_assign_reading.specs.ReadOff.{Numbers, goes_early, service_on, origin_place, place_in, role_place, word_place, words_of, bank_place, serve_by, use_serve, read_off}
use Rattle.reg_assign_reading.proofs.ReadParts.{on-one, count-any, count-none, FirstsThere, first-read, IsFound}

-- ---- lists

pub each-both : {X : Type 0} (P Q R : X → Type 0) (xs : List X) → ((x : X) → P x → Q x → R x) → Each P xs → Each Q xs → Each R xs
each-both P Q R [] f h g = tt
each-both P Q R (x ∷ xs) f h g = (f x h.0 g.0, each-both P Q R xs f h.1 g.1)

pub filter-same : {X : Type 0} (f g : X → Bool) (xs : List X) → Each (λ x. f x ≡ g x) xs → filter f xs ≡ filter g xs
filter-same f g [] h = refl
filter-same {X} f g (x ∷ xs) h = ap (λ b. if b then x ∷ filter f xs else filter f xs) h.0 ∙ ap (λ l. if g x then x ∷ l else l) (filter-same f g xs h.1)

pub map-same : {X Y : Type 0} (f g : X → Y) (xs : List X) → ((x : X) → f x ≡ g x) → map f xs ≡ map g xs
map-same f g [] h = refl
map-same f g (x ∷ xs) h = ap (λ y. y ∷ map f xs) (h x) ∙ ap (λ l. g x ∷ l) (map-same f g xs h)

-- ---- services

abbrev pub service_columns : Use → List Service → List Column
service_columns u ss = map (λ s. ServeColumn u.point u.operand s.from s.at) ss

pub service-each : (on : Chosen) (u : Use) (P : Service → Type 0) (ss : List Service) (s : Service) → Each P ss → service_on on u ss ≡ Some s → P s × (on (ServeColumn u.point u.operand s.from s.at) ≡ true)
service-each on u P [] s h e = absurd (cc)
service-each on u P (r ∷ ss) s h e = pick (on (ServeColumn u.point u.operand r.from r.at)) refl (λ k. service-each on u P ss s h.1 k) e
  where
    pick : (b : Bool) → on (ServeColumn u.point u.operand r.from r.at) ≡ b → (service_on on u ss ≡ Some s → P s × (on (ServeColumn u.point u.operand s.from s.at) ≡ true)) → (if b then Some r else service_on on u ss) ≡ Some s → P s × (on (ServeColumn u.point u.operand s.from s.at) ≡ true)
    pick true g rest k = let same : r ≡ s = cc in (subst P same h.0, ap (λ (t : Service). on (ServeColumn u.point u.operand t.from t.at)) (sym same) ∙ g)
    pick false g rest k = rest k

pub service-some : (on : Chosen) (u : Use) (ss : List Service) (s : Service) → service_on on u ss ≡ Some s → 1 ≤ count on (service_columns u ss)
service-some on u [] s e = absurd (cc)
service-some on u (r ∷ ss) s e = pick (on (ServeColumn u.point u.operand r.from r.at)) refl (λ k. service-some on u ss s k) e
  where
    pick : (b : Bool) → on (ServeColumn u.point u.operand r.from r.at) ≡ b → (service_on on u ss ≡ Some s → 1 ≤ count on (service_columns u ss)) → (if b then Some r else service_on on u ss) ≡ Some s → 1 ≤ count on (service_columns u (r ∷ ss))
    pick true g rest k = let o = on-one (on (ServeColumn u.point u.operand r.from r.at)) g in omega arith
    pick false g rest k = let l = rest k in omega arith

pub service-none : (on : Chosen) (u : Use) (ss : List Service) → service_on on u ss ≡ None → count on (service_columns u ss) ≡ 0
service-none on u [] e = refl
service-none on u (r ∷ ss) e = pick (on (ServeColumn u.point u.operand r.from r.at)) refl (λ k. service-none on u ss k) e
  where
    pick : (b : Bool) → on (ServeColumn u.point u.operand r.from r.at) ≡ b → (service_on on u ss ≡ None → count on (service_columns u ss) ≡ 0) → (if b then Some r else service_on on u ss) ≡ None → count on (service_columns u (r ∷ ss)) ≡ 0
    pick true g rest k = absurd (cc)
    pick false g rest k = let z : cost_where (on (ServeColumn u.point u.operand r.from r.at)) 1 ≡ 0 = ap (λ b. cost_where b 1) g in let l = rest k in omega arith

-- ---- which words are put early

origin-no-write : (on : Chosen) (k : ℕ) (origin : ValueOrigin) → is_write_register (origin_place on k origin) ≡ false
origin-no-write on k (Parameter l i) = refl
origin-no-write on k Result = refl
origin-no-write on k (Fetched Sram i) = refl
origin-no-write on k (Fetched Sdram i) = refl
origin-no-write on k (Fetched Scratch i) = refl

pub read-no-write : (on : Chosen) (vs : List Value) (x : ℕ) → is_write_register (place_in on vs x) ≡ false
read-no-write on [] x = refl
read-no-write on (v ∷ vs) x = pick (nat_eq v.var x) (origin-no-write on v.point v.origin) (read-no-write on vs x)
  where
    pick : (b : Bool) → is_write_register (origin_place on v.point v.origin) ≡ false → is_write_register (place_in on vs x) ≡ false → is_write_register (if b then origin_place on v.point v.origin else place_in on vs x) ≡ false
    pick true g r = g
    pick false g r = r

-- a use is served from no write register
pub sources : (labels : List Label) (on : Chosen) (numbers : Numbers) (u : Use) (role : Role) → Each (λ s. is_write_register (bank_place labels on numbers u s.from) ≡ false) (services role)
sources labels on numbers u Operand = let t = read-no-write on (values labels) u.value in (refl, (refl, (t, (refl, (refl, (refl, (t, tt)))))))
sources labels on numbers u Address = let t = read-no-write on (values labels) u.value in (refl, (refl, (t, (refl, tt))))
sources labels on numbers u (Written m i) = let t = read-no-write on (values labels) u.value in (refl, (refl, (t, (refl, tt))))
sources labels on numbers u (Argument l i) = let t = read-no-write on (values labels) u.value in (refl, (refl, (refl, (refl, (refl, (refl, (t, (t, (t, (refl, (refl, (refl, tt))))))))))))
sources labels on numbers u (Ending i) = let t = read-no-write on (values labels) u.value in (refl, (refl, (t, (refl, tt))))

word-writes : (on : Chosen) (k : ℕ) (role : Role) → is_written role ≡ true → is_write_register (role_place on k role) ≡ true
word-writes on k Operand e = absurd (false≢true e)
word-writes on k Address e = absurd (false≢true e)
word-writes on k (Written Sram i) e = refl
word-writes on k (Written Sdram i) e = refl
word-writes on k (Written Scratch i) e = refl
word-writes on k (Argument l i) e = absurd (false≢true e)
word-writes on k (Ending i) e = absurd (false≢true e)

pub early-written : (on : Chosen) (u : Use) → goes_early on u ≡ true → is_written u.role ≡ true
early-written on u e = pick (is_written u.role) e
  where
    pick : (b : Bool) → list_any on (if b then dir u ++ ear u else []) ≡ true → b ≡ true
    pick true f = refl
    pick false f = absurd (false≢true f)

pub early-by : (labels : List Label) (on : Chosen) (numbers : Numbers) (u : Use) → UseFacts labels on u → is_write_register (use_serve labels on numbers u).from ≡ goes_early on u
early-by labels on numbers u h = pick (service_on on u (services u.role)) refl
  where
    pick : (o : Option Service) → service_on on u (services u.role) ≡ o → is_write_register (serve_by labels on numbers u o).from ≡ goes_early on u
    pick (Some s) e =
        let one = h.once in
        let l : 1 ≤ count on (srv u) = service-some on u (services u.role) s e in
        (service-each on u (λ (r : Service). is_write_register (bank_place labels on numbers u r.from) ≡ false) (services u.role) s (sources labels on numbers u u.role) e).0
        ∙ sym (count-none on (early u) (omega arith))
    pick None e =
        let one = h.once in
        let z : count on (srv u) ≡ 0 = service-none on u (services u.role) e in
        let g : goes_early on u ≡ true = count-any on (early u) (omega arith) in
        word-writes on u.point u.role (early-written on u g) ∙ sym g

abbrev pub IsEarlySame : List Label → ℕ → Chosen → Numbers → List Home → Use → Type 0
IsEarlySame labels slots on numbers hs u = is_early (read_off labels slots on numbers hs) u ≡ goes_early on u

pub early-same : (labels : List Label) (slots : ℕ) (on : Chosen) (numbers : Numbers) (hs : List Home) → Each (UseFacts labels on) (uses labels) → Each (IsFound labels on numbers (uses labels)) (uses labels) → Each (IsEarlySame labels slots on numbers hs) (uses labels)
early-same labels slots on numbers hs h f =
    each-both (UseFacts labels on) (IsFound labels on numbers (uses labels)) (IsEarlySame labels slots on numbers hs) (uses labels)
    (λ u a b. ap (λ (s : Serve). is_write_register s.from) b ∙ early-by labels on numbers u a) h f

role-same : (labels : List Label) (slots : ℕ) (on : Chosen) (numbers : Numbers) (hs : List Home) → FirstsThere labels on → (u : Use) (role : Role) → role_register (read_off labels slots on numbers hs) u.point role ≡ role_place on u.point role
role-same labels slots on numbers hs h u Operand = refl
role-same labels slots on numbers hs h u Address = refl
role-same labels slots on numbers hs h u (Written m i) = ap (λ n. write_place m (n + i)) (first-read labels slots on numbers hs h u.point)
role-same labels slots on numbers hs h u (Argument l i) = refl
role-same labels slots on numbers hs h u (Ending i) = refl

pub word-same : (labels : List Label) (slots : ℕ) (on : Chosen) (numbers : Numbers) (hs : List Home) → FirstsThere labels on → (u : Use) → word_register (read_off labels slots on numbers hs) u ≡ word_place on u
word-same labels slots on numbers hs h u = role-same labels slots on numbers hs h u u.role

pub words-same : (labels : List Label) (slots : ℕ) (on : Chosen) (numbers : Numbers) (hs : List Home) → FirstsThere labels on → Each (IsEarlySame labels slots on numbers hs) (uses labels) → (x : ℕ)
    → map (word_register (read_off labels slots on numbers hs)) (early_uses labels (read_off labels slots on numbers hs) x) ≡ words_of labels on x
words-same labels slots on numbers hs f h x =
    let p = read_off labels slots on numbers hs in
    let us = uses_of labels x in
    ap (map (word_register p)) (filter-same (is_early p) (goes_early on) us (each-kept (IsEarlySame labels slots on numbers hs) (λ (u : Use). nat_eq u.value x) (uses labels) h))
    ∙ map-same (word_register p) (word_place on) (filter (goes_early on) us) (word-same labels slots on numbers hs f)
