-- Each use is served from a home of its value, to where it is wanted.
use Rattle.std.proofs.Common.{◌≡◌, ℕ, ◌≤◌, Bool, true, false, not, if◌then◌else◌, ◌||◌, ◌&&◌, inl, inr, ⊎_elim, Option, Some, None, List, [], ◌∷◌, ◌++◌, unwrap_or, refl, sym, ap, subst, ◌∙◌, arith}
use Rattle.std.specs.List.{list_any}
use Rattle.std.proofs.lemmas.Bool.{and_from, or_cases, or_left, or_right, not_from_false, false≢true}
use Rattle.nv_base.specs.declared.term.Mem.{Mem}
use Rattle.nv_base.specs.declared.term.Mem.TheVariants.{Sram, Sdram, Scratch}
use Rattle.ssu_ir.specs.Tree.{Label}
use Rattle.place_plan.specs.declared.place.Place.{Place}
use Rattle.place_plan.specs.declared.place.Place.TheVariants as place
use Rattle.place_plan.specs.declared.place.Serve.{Serve}
use Rattle.place_plan.specs.Places.{same_place}
use Rattle.place_plan.specs.Plan.{Home, home, pass}
use Rattle.place_plan.specs.Uses.{ValueOrigin, Parameter, Result, Fetched, Value, values, Role, Operand, Address, Written, Argument, Ending, Use, uses}
use Rattle.place_plan.specs.Fits.{read_place, is_write_register, is_home, IsOperandAt, IsAddressAt, parameter, word_register, IsServedAt, IsServed, is_result}
use Rattle.bank_prog_form.specs.declared.column.Bank.{Bank}
use Rattle.bank_prog_form.specs.declared.column.Bank.TheVariants.{A, B, M, T, L, A15, W}
use Rattle.bank_prog_form.specs.declared.column.Column.TheVariants.{Def, Fill, Serve as ServeColumn}
use Rattle.bank_prog_form.specs.declared.column.Service.{Service}
use Rattle.bank_prog_form.specs.Columns.{services, is_fetched}
use Rattle.bank_prog_form.specs.Rows.{def, srv, early, is_written, is_parameter}
use Rattle.bank_prog.specs.Meaning.{Chosen}
use Rattle.ssu_liveness.proofs.Scoped.{in-itself}
use Rattle.place_plan.proofs.Sound.{Each}
use Rattle.reg_assign_reading.specs.inner.Facts.{count, in_bank, ValueFacts, UseFacts}
use Rattle.reg_assign_reading.specs.ReadOff.{Numbers, pass_l, def_bank, service_on, home_place, place_in, word_place, fill_at, fills_of, words_of, copies_of, put_home, origin_home, bank_place, target, serve_by, read_off}
use Rattle.reg_assign_reading.proofs.ReadParts.{count-any, IsFound}
use Rattle.reg_assign_reading.proofs.FitWords.{service-each, service-none, early-written}
use Rattle.reg_assign_reading.proofs.FitHomes.{is_home_bank, def-bank-is, def-bank-none, no-bank}

-- ---- homes of a value

place-itself : (numbers : Numbers) (h : Bank) (x : ℕ) → same_place (home_place numbers h x) (home_place numbers h x) ≡ true
place-itself numbers A x = in-itself (numbers A x)
place-itself numbers B x = in-itself (numbers B x)
place-itself numbers M x = in-itself (numbers M x)
place-itself numbers T x = refl
place-itself numbers L x = refl
place-itself numbers A15 x = refl
place-itself numbers W x = refl

place-no-write : (numbers : Numbers) (h : Bank) (x : ℕ) → is_write_register (home_place numbers h x) ≡ false
place-no-write numbers A x = refl
place-no-write numbers B x = refl
place-no-write numbers M x = refl
place-no-write numbers T x = refl
place-no-write numbers L x = refl
place-no-write numbers A15 x = refl
place-no-write numbers W x = refl

any-left : (f : Place → Bool) (a b : List Place) → list_any f a ≡ true → list_any f (a ++ b) ≡ true
any-left f [] b e = absurd (false≢true e)
any-left f (q ∷ a) b e = ⊎_elim (λ (h : f q ≡ true). or_left (f q) (list_any f (a ++ b)) h) (λ (h : list_any f a ≡ true). or_right (f q) (list_any f (a ++ b)) (any-left f a b h)) (or_cases (f q) (list_any f a) e)

any-right : (f : Place → Bool) (a b : List Place) → list_any f b ≡ true → list_any f (a ++ b) ≡ true
any-right f [] b e = e
any-right f (q ∷ a) b e = or_right (f q) (list_any f (a ++ b)) (any-right f a b e)

in-fill : (on : Chosen) (numbers : Numbers) (x : ℕ) (h : Bank) → on (Fill x h) ≡ true → list_any (same_place (home_place numbers h x)) (fill_at on numbers x h) ≡ true
in-fill on numbers x h e =
    ap (λ b. list_any (same_place (home_place numbers h x)) (if b then home_place numbers h x ∷ [] else [])) e
    ∙ or_left (same_place (home_place numbers h x) (home_place numbers h x)) false (place-itself numbers h x)

in-fills : (on : Chosen) (numbers : Numbers) (x : ℕ) (h : Bank) → is_home_bank h ≡ true → on (Fill x h) ≡ true → list_any (same_place (home_place numbers h x)) (fills_of on numbers x) ≡ true
in-fills on numbers x A i e = any-left (same_place (home_place numbers A x)) (fill_at on numbers x A) (fill_at on numbers x B ++ fill_at on numbers x M) (in-fill on numbers x A e)
in-fills on numbers x B i e =
    any-right (same_place (home_place numbers B x)) (fill_at on numbers x A) (fill_at on numbers x B ++ fill_at on numbers x M)
    (any-left (same_place (home_place numbers B x)) (fill_at on numbers x B) (fill_at on numbers x M) (in-fill on numbers x B e))
in-fills on numbers x M i e =
    any-right (same_place (home_place numbers M x)) (fill_at on numbers x A) (fill_at on numbers x B ++ fill_at on numbers x M)
    (any-right (same_place (home_place numbers M x)) (fill_at on numbers x B) (fill_at on numbers x M) (in-fill on numbers x M e))
in-fills on numbers x T i e = absurd (false≢true i)
in-fills on numbers x L i e = absurd (false≢true i)
in-fills on numbers x A15 i e = absurd (false≢true i)
in-fills on numbers x W i e = absurd (false≢true i)

abbrev pub home_offers : Home → Place → Bool
home_offers w q = not (is_write_register q) && (same_place q w.defined || list_any (same_place q) w.copied)

offers-defined : (numbers : Numbers) (h : Bank) (x : ℕ) (c : List Place) → home_offers (record { var = x; defined = home_place numbers h x; copied = c }) (home_place numbers h x) ≡ true
offers-defined numbers h x c =
    and_from (not (is_write_register (home_place numbers h x))) (same_place (home_place numbers h x) (home_place numbers h x) || list_any (same_place (home_place numbers h x)) c)
    (not_from_false (is_write_register (home_place numbers h x)) (place-no-write numbers h x))
    (or_left (same_place (home_place numbers h x) (home_place numbers h x)) (list_any (same_place (home_place numbers h x)) c) (place-itself numbers h x))

offers-copied : (labels : List Label) (on : Chosen) (numbers : Numbers) (h : Bank) (x : ℕ) (d : Place) → is_home_bank h ≡ true → on (Fill x h) ≡ true → home_offers (record { var = x; defined = d; copied = copies_of labels on numbers x }) (home_place numbers h x) ≡ true
offers-copied labels on numbers h x d i e =
    and_from (not (is_write_register (home_place numbers h x))) (same_place (home_place numbers h x) d || list_any (same_place (home_place numbers h x)) (copies_of labels on numbers x))
    (not_from_false (is_write_register (home_place numbers h x)) (place-no-write numbers h x))
    (or_right (same_place (home_place numbers h x) d) (list_any (same_place (home_place numbers h x)) (copies_of labels on numbers x))
    (any-left (same_place (home_place numbers h x)) (fills_of on numbers x) (words_of labels on x) (in-fills on numbers x h i e)))

-- a value that isn't read offers each bank that it is in
put-offers : (labels : List Label) (on : Chosen) (numbers : Numbers) (v : Value) → ValueFacts labels on v → is_fetched v.origin ≡ false → count on (def v.var) ≤ 1 → (h : Bank) → is_home_bank h ≡ true → in_bank on h v.var ≡ true → home_offers (put_home labels on numbers v.var (def_bank on v.var)) (home_place numbers h v.var) ≡ true
put-offers labels on numbers v f n c h i e = ⊎_elim
    (λ (d : on (Def v.var h) ≡ true).
    subst (λ o. home_offers (put_home labels on numbers v.var o) (home_place numbers h v.var) ≡ true) (sym (def-bank-is on v.var h i c d)) (offers-defined numbers h v.var (copies_of labels on numbers v.var)))
    (λ (g : on (Fill v.var h) ≡ true). pick (def_bank on v.var) refl g)
    (or_cases (on (Def v.var h)) (on (Fill v.var h)) e)
  where
    pick : (o : Option Bank) → def_bank on v.var ≡ o → on (Fill v.var h) ≡ true → home_offers (put_home labels on numbers v.var o) (home_place numbers h v.var) ≡ true
    pick (Some b) d g = offers-copied labels on numbers h v.var (home_place numbers b v.var) i g
    pick None d g = absurd (false≢true (sym (no-bank (on (Def v.var A)) (on (Def v.var B)) (on (Def v.var M)) (def-bank-none on v.var d)) ∙ f.filled n h g))

pub offers : (labels : List Label) (on : Chosen) (numbers : Numbers) (v : Value) → ValueFacts labels on v → (origin : ValueOrigin) → v.origin ≡ origin → (h : Bank) → is_home_bank h ≡ true → in_bank on h v.var ≡ true → home_offers (origin_home labels on numbers v.point v.var origin) (home_place numbers h v.var) ≡ true
offers labels on numbers v f (Parameter l i) e h j b = let one = f.parameter (ap is_parameter e) in put-offers labels on numbers v f (ap is_fetched e) (omega arith) h j b
offers labels on numbers v f Result e h j b = let one = f.result (ap is_result e) in put-offers labels on numbers v f (ap is_fetched e) (omega arith) h j b
offers labels on numbers v f (Fetched m i) e h j b = ⊎_elim
    (λ (d : on (Def v.var h) ≡ true). absurd (false≢true (sym (f.read (ap is_fetched e) h) ∙ d)))
    (λ (g : on (Fill v.var h) ≡ true). offers-copied labels on numbers h v.var (origin_home labels on numbers v.point v.var (Fetched m i)).defined j g)
    (or_cases (on (Def v.var h)) (on (Fill v.var h)) b)

-- ---- uses

-- a place is a read register
pub record IsReadPlace (q : Place) : Type 0 where
  pub mem : Mem
  pub number : ℕ
  pub is : q ≡ read_place mem number

operand-read : (l : Option ℕ) (m : Mem) (n : ℕ) → IsOperandAt l (read_place m n) (read_place m n)
operand-read l Sram n = IsOperandAt.in_l
operand-read l Sdram n = IsOperandAt.in_ld
operand-read l Scratch n = IsOperandAt.in_l

operand-own : (l : Option ℕ) (m : Mem) (n : ℕ) → IsOperandAt l (read_place m n) (place.A 15)
operand-own l Sram n = IsOperandAt.from_l
operand-own l Sdram n = IsOperandAt.from_ld
operand-own l Scratch n = IsOperandAt.from_l

address-own : (m : Mem) (n : ℕ) → IsAddressAt (read_place m n) (place.A 15)
address-own Sram n = IsAddressAt.from_l
address-own Sdram n = IsAddressAt.from_ld
address-own Scratch n = IsAddressAt.from_l

-- what is known of a use of this role
pub record Wanted (labels : List Label) (slots : ℕ) (on : Chosen) (numbers : Numbers) (hs : List Home) (u : Use) (role : Role) : Type 0 where
  pub offered : (h p : Bank) → on (ServeColumn u.point u.operand h p) ≡ true → is_home (read_off labels slots on numbers hs) u.value (bank_place labels on numbers u h) ≡ true
  pub read : (p : Bank) → on (ServeColumn u.point u.operand T p) ≡ true → IsReadPlace (place_in on (values labels) u.value)
  pub passed : (p : Bank) → on (ServeColumn u.point u.operand M p) ≡ true → (pass (read_off labels slots on numbers hs) u.point).l ≡ Some (unwrap_or (pass_l on u.point) 0)
  pub word : word_register (read_off labels slots on numbers hs) u ≡ word_place on u
  pub argument : (l i : ℕ) → role ≡ Argument l i → (h p : Bank) → is_home_bank p ≡ true → on (ServeColumn u.point u.operand h p) ≡ true → (home (read_off labels slots on numbers hs) (parameter labels l i)).defined ≡ home_place numbers p (parameter labels l i)

abbrev pub IsWellServed : List Label → ℕ → Chosen → Numbers → List Home → Use → Role → Service → Type 0
IsWellServed labels slots on numbers hs u role s =
    on (ServeColumn u.point u.operand s.from s.at) ≡ true
    → IsServedAt labels (read_off labels slots on numbers hs) u (record { point = u.point; operand = u.operand; from = bank_place labels on numbers u s.from; at = target labels on numbers u s.at role }) role

pub well-served : (labels : List Label) (slots : ℕ) (on : Chosen) (numbers : Numbers) (hs : List Home) (u : Use) (role : Role) → Wanted labels slots on numbers hs u role → Each (IsWellServed labels slots on numbers hs u role) (services role)
well-served labels slots on numbers hs u Operand w =
    let l = (pass (read_off labels slots on numbers hs) u.point).l in (
      λ e. (w.offered A A e, IsOperandAt.in_a),
      (
        λ e. (w.offered B B e, IsOperandAt.in_b),
        (
          λ e. let r = w.read T e in (w.offered T T e, subst (λ q. IsOperandAt l q q) (sym r.is) (operand-read l r.mem r.number)),
          (
            λ e. (w.offered M L e, IsOperandAt.read_slot (w.passed L e)),
            (
              λ e. (w.offered M A15 e, IsOperandAt.from_slot),
              (
                λ e. (w.offered B A15 e, IsOperandAt.from_b),
                (
                  λ e. let r = w.read A15 e in (w.offered T A15 e, subst (λ q. IsOperandAt l q (place.A 15)) (sym r.is) (operand-own l r.mem r.number)),
                  tt,
                ),
              ),
            ),
          ),
        ),
      ),
    )
well-served labels slots on numbers hs u Address w = (
  λ e. (w.offered A A e, IsAddressAt.in_a),
  (
    λ e. (w.offered B B e, IsAddressAt.in_b),
    (
      λ e. let r = w.read A15 e in (w.offered T A15 e, subst (λ q. IsAddressAt q (place.A 15)) (sym r.is) (address-own r.mem r.number)),
      (
        λ e. (w.offered M A15 e, IsAddressAt.from_slot),
        tt,
      ),
    ),
  ),
)
well-served labels slots on numbers hs u (Written m i) w = (
  λ e. (sym w.word, inl (w.offered A W e)),
  (
    λ e. (sym w.word, inl (w.offered B W e)),
    (
      λ e. (sym w.word, inl (w.offered T W e)),
      (
        λ e. (sym w.word, inl (w.offered M W e)),
        tt,
      ),
    ),
  ),
)
well-served labels slots on numbers hs u (Argument l i) w = (
  λ e. (w.offered A A e, sym (w.argument l i refl A A refl e)),
  (
    λ e. (w.offered A B e, sym (w.argument l i refl A B refl e)),
    (
      λ e. (w.offered A M e, sym (w.argument l i refl A M refl e)),
      (
        λ e. (w.offered B A e, sym (w.argument l i refl B A refl e)),
        (
          λ e. (w.offered B B e, sym (w.argument l i refl B B refl e)),
          (
            λ e. (w.offered B M e, sym (w.argument l i refl B M refl e)),
            (
              λ e. (w.offered T A e, sym (w.argument l i refl T A refl e)),
              (
                λ e. (w.offered T B e, sym (w.argument l i refl T B refl e)),
                (
                  λ e. (w.offered T M e, sym (w.argument l i refl T M refl e)),
                  (
                    λ e. (w.offered M A e, sym (w.argument l i refl M A refl e)),
                    (
                      λ e. (w.offered M B e, sym (w.argument l i refl M B refl e)),
                      (
                        λ e. (w.offered M M e, sym (w.argument l i refl M M refl e)),
                        tt,
                      ),
                    ),
                  ),
                ),
              ),
            ),
          ),
        ),
      ),
    ),
  ),
)
well-served labels slots on numbers hs u (Ending i) w = (
  λ e. (w.offered A A e, refl),
  (
    λ e. (w.offered B A e, refl),
    (
      λ e. (w.offered T A e, refl),
      (
        λ e. (w.offered M A e, refl),
        tt,
      ),
    ),
  ),
)

early-served : (labels : List Label) (slots : ℕ) (on : Chosen) (numbers : Numbers) (hs : List Home) (u : Use) (role : Role) → is_written role ≡ true → word_register (read_off labels slots on numbers hs) u ≡ word_place on u
    → IsServedAt labels (read_off labels slots on numbers hs) u (record { point = u.point; operand = u.operand; from = word_place on u; at = word_place on u }) role
early-served labels slots on numbers hs u Operand e w = absurd (false≢true e)
early-served labels slots on numbers hs u Address e w = absurd (false≢true e)
early-served labels slots on numbers hs u (Written m i) e w = (sym w, inr refl)
early-served labels slots on numbers hs u (Argument l i) e w = absurd (false≢true e)
early-served labels slots on numbers hs u (Ending i) e w = absurd (false≢true e)

pub is-served : (labels : List Label) (slots : ℕ) (on : Chosen) (numbers : Numbers) (hs : List Home) (u : Use) → UseFacts labels on u → IsFound labels on numbers (uses labels) u → Wanted labels slots on numbers hs u u.role → IsServed labels (read_off labels slots on numbers hs) u
is-served labels slots on numbers hs u f found w = subst (λ (s : Serve). IsServedAt labels (read_off labels slots on numbers hs) u s u.role) (sym found) (pick (service_on on u (services u.role)) refl)
  where
    pick : (o : Option Service) → service_on on u (services u.role) ≡ o → IsServedAt labels (read_off labels slots on numbers hs) u (serve_by labels on numbers u o) u.role
    pick (Some s) e = let h = service-each on u (IsWellServed labels slots on numbers hs u u.role) (services u.role) s (well-served labels slots on numbers hs u u.role w) e in h.0 h.1
    pick None e =
        let one = f.once in
        let z : count on (srv u) ≡ 0 = service-none on u (services u.role) e in
        early-served labels slots on numbers hs u u.role (early-written on u (count-any on (early u) (omega arith))) w.word
