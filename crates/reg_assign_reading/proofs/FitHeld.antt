-- Values that are live at a point share no register and no slot.
use Rattle.std.proofs.Common.{◌≡◌, ◌≢◌, ℕ, ◌+◌, ◌<◌, Bool, true, false, not, nat_eq, if◌then◌else◌, ◌||◌, Option, Some, None, List, [], ◌∷◌, map, filter, refl, sym, ap, subst, ◌∙◌}
use Rattle.std.proofs.lemmas.Bool.{and_from, or_from, not_from_false, false≢true, false_from_ne_true}
use Rattle.nv_base.specs.Sets.{is_in}
use Rattle.nv_base.proofs.Sets.{same-number}
use Rattle.nv_base.specs.declared.term.Mem.{Mem}
use Rattle.nv_base.specs.declared.term.Mem.TheVariants.{Sram, Sdram, Scratch}
use Rattle.ssu_ir.specs.Tree.{Label}
use Rattle.ssu_ir.specs.Points.{Point}
use Rattle.place_plan.specs.declared.place.Place.{Place}
use Rattle.place_plan.specs.declared.place.Place.TheVariants as place
use Rattle.place_plan.specs.Places.{same_place}
use Rattle.place_plan.specs.Plan.{Home, Plan, home, pass}
use Rattle.place_plan.specs.Uses.{ValueOrigin, Parameter, Result, Fetched, Role, Operand, Address, Written, Argument, Ending, Use, uses_of}
use Rattle.place_plan.specs.Fits.{read_place, is_general, stays, general_places, kept_register, has_place, none_shared, maybe, KeepsHeld}
use Rattle.bank_prog_form.specs.declared.column.Bank.{Bank}
use Rattle.bank_prog_form.specs.declared.column.Bank.TheVariants.{A, B, M, T, L, A15, W}
use Rattle.bank_prog_form.specs.declared.column.Column.TheVariants.{Def, Fill, ReadVia}
use Rattle.bank_prog_form.specs.Columns.{eight, is_fetched}
use Rattle.bank_prog_form.specs.Rows.{is_written, is_sdram}
use Rattle.bank_prog.specs.Meaning.{Chosen}
use Rattle.place_plan.proofs.Sound.{Each, each-append}
use Rattle.place_plan.proofs.Spilled.{none-with-nothing}
use Rattle.std.proofs.lemmas.Bool.{or_left, or_right}
use Rattle.reg_assign_reading.specs.inner.Facts.{in_bank, StaysIn, PointFacts}
use Rattle.reg_assign_reading.specs.ReadOff.{Numbers, begins, goes_early, pass_l, def_bank, home_place, role_place, word_place, first_word, fills_of, words_of, copies_of, put_home, origin_home, read_off}
use Rattle.reg_assign_reading.proofs.ReadParts.{first-on-each, eight-low}
use Rattle.reg_assign_reading.proofs.FitWords.{early-written}
use Rattle.reg_assign_reading.proofs.FitHomes.{is_home_bank, def-bank-some, fills-each}

-- a place is that of a home
pub record IsHomePlace (on : Chosen) (numbers : Numbers) (x : ℕ) (q : Place) : Type 0 where
  pub bank : Bank
  pub is_bank : is_home_bank bank ≡ true
  pub inside : in_bank on bank x ≡ true
  pub is : q ≡ home_place numbers bank x

abbrev pub IsPlaced : Chosen → Numbers → ℕ → Place → Type 0
IsPlaced on numbers x q = is_general q ≡ true → IsHomePlace on numbers x q

filter-placed : (on : Chosen) (numbers : Numbers) (x : ℕ) (qs : List Place) → Each (IsPlaced on numbers x) qs → Each (IsHomePlace on numbers x) (filter is_general qs)
filter-placed on numbers x [] h = tt
filter-placed on numbers x (q ∷ qs) h = pick (is_general q) refl (filter-placed on numbers x qs h.1)
  where
    pick : (b : Bool) → is_general q ≡ b → Each (IsHomePlace on numbers x) (filter is_general qs) → Each (IsHomePlace on numbers x) (if b then q ∷ filter is_general qs else filter is_general qs)
    pick true e r = (h.0 e, r)
    pick false e r = r

role-not-general : (on : Chosen) (k : ℕ) (role : Role) → is_written role ≡ true → is_general (role_place on k role) ≡ false
role-not-general on k Operand e = absurd (false≢true e)
role-not-general on k Address e = absurd (false≢true e)
role-not-general on k (Written Sram i) e = refl
role-not-general on k (Written Sdram i) e = refl
role-not-general on k (Written Scratch i) e = refl
role-not-general on k (Argument l i) e = absurd (false≢true e)
role-not-general on k (Ending i) e = absurd (false≢true e)

pub word-not-general : (on : Chosen) (u : Use) → goes_early on u ≡ true → is_general (word_place on u) ≡ false
word-not-general on u g = role-not-general on u.point u.role (early-written on u g)

words-placed : (on : Chosen) (numbers : Numbers) (x : ℕ) (us : List Use) → Each (IsPlaced on numbers x) (map (word_place on) (filter (goes_early on) us))
words-placed on numbers x [] = tt
words-placed on numbers x (u ∷ us) = pick (goes_early on u) refl (words-placed on numbers x us)
  where
    pick : (b : Bool) → goes_early on u ≡ b → Each (IsPlaced on numbers x) (map (word_place on) (filter (goes_early on) us)) → Each (IsPlaced on numbers x) (map (word_place on) (if b then u ∷ filter (goes_early on) us else filter (goes_early on) us))
    pick true e r = (λ g. absurd (false≢true (sym (word-not-general on u e) ∙ g)), r)
    pick false e r = r

copies-placed : (labels : List Label) (on : Chosen) (numbers : Numbers) (x : ℕ) → Each (IsPlaced on numbers x) (copies_of labels on numbers x)
copies-placed labels on numbers x =
    each-append (IsPlaced on numbers x) (fills_of on numbers x) (words_of labels on x)
    (fills-each (IsPlaced on numbers x) on numbers x (λ h i f g. record { bank = h; is_bank = i; inside = or_right (on (Def x h)) (on (Fill x h)) f; is = refl }))
    (words-placed on numbers x (uses_of labels x))

read-not-general : (m : Mem) (i : ℕ) → is_general (read_place m i) ≡ false
read-not-general Sram i = refl
read-not-general Sdram i = refl
read-not-general Scratch i = refl

put-placed : (labels : List Label) (on : Chosen) (numbers : Numbers) (x : ℕ) → (def_bank on x ≡ None → is_general (first_word on (uses_of labels x)) ≡ false) → (o : Option Bank) → def_bank on x ≡ o → Each (IsPlaced on numbers x) ((put_home labels on numbers x o).defined ∷ (put_home labels on numbers x o).copied)
put-placed labels on numbers x early (Some h) e =
    let w = def-bank-some on x h e in
    (λ g. record { bank = h; is_bank = w.1; inside = or_left (on (Def x h)) (on (Fill x h)) w.0; is = refl }, copies-placed labels on numbers x)
put-placed labels on numbers x early None e = (λ g. absurd (false≢true (sym (early e) ∙ g)), tt)

-- the general places of a home are those of the banks in which its value is
pub origin-placed : (labels : List Label) (on : Chosen) (numbers : Numbers) (k x : ℕ) (origin : ValueOrigin) → (is_fetched origin ≡ false → def_bank on x ≡ None → is_general (first_word on (uses_of labels x)) ≡ false)
    → Each (IsHomePlace on numbers x) (filter is_general ((origin_home labels on numbers k x origin).defined ∷ (origin_home labels on numbers k x origin).copied))
origin-placed labels on numbers k x (Parameter l i) early =
    let w = put_home labels on numbers x (def_bank on x) in filter-placed on numbers x (w.defined ∷ w.copied) (put-placed labels on numbers x (early refl) (def_bank on x) refl)
origin-placed labels on numbers k x Result early =
    let w = put_home labels on numbers x (def_bank on x) in filter-placed on numbers x (w.defined ∷ w.copied) (put-placed labels on numbers x (early refl) (def_bank on x) refl)
origin-placed labels on numbers k x (Fetched m i) early =
    filter-placed on numbers x (read_place m (begins on k + i) ∷ copies_of labels on numbers x)
    (λ g. absurd (false≢true (sym (read-not-general m (begins on k + i)) ∙ g)), copies-placed labels on numbers x)

banks-apart : (numbers : Numbers) (x y : ℕ) (h g : Bank) → is_home_bank h ≡ true → is_home_bank g ≡ true → (h ≡ g → numbers h x ≢ numbers h y) → same_place (home_place numbers h x) (home_place numbers g y) ≡ false
banks-apart numbers x y A A i j n = false_from_ne_true (nat_eq (numbers A x) (numbers A y)) (λ e. n refl (same-number (numbers A x) (numbers A y) e))
banks-apart numbers x y A B i j n = refl
banks-apart numbers x y A M i j n = refl
banks-apart numbers x y A T i j n = absurd (false≢true j)
banks-apart numbers x y A L i j n = absurd (false≢true j)
banks-apart numbers x y A A15 i j n = absurd (false≢true j)
banks-apart numbers x y A W i j n = absurd (false≢true j)
banks-apart numbers x y B A i j n = refl
banks-apart numbers x y B B i j n = false_from_ne_true (nat_eq (numbers B x) (numbers B y)) (λ e. n refl (same-number (numbers B x) (numbers B y) e))
banks-apart numbers x y B M i j n = refl
banks-apart numbers x y B T i j n = absurd (false≢true j)
banks-apart numbers x y B L i j n = absurd (false≢true j)
banks-apart numbers x y B A15 i j n = absurd (false≢true j)
banks-apart numbers x y B W i j n = absurd (false≢true j)
banks-apart numbers x y M A i j n = refl
banks-apart numbers x y M B i j n = refl
banks-apart numbers x y M M i j n = false_from_ne_true (nat_eq (numbers M x) (numbers M y)) (λ e. n refl (same-number (numbers M x) (numbers M y) e))
banks-apart numbers x y M T i j n = absurd (false≢true j)
banks-apart numbers x y M L i j n = absurd (false≢true j)
banks-apart numbers x y M A15 i j n = absurd (false≢true j)
banks-apart numbers x y M W i j n = absurd (false≢true j)
banks-apart numbers x y T g i j n = absurd (false≢true i)
banks-apart numbers x y L g i j n = absurd (false≢true i)
banks-apart numbers x y A15 g i j n = absurd (false≢true i)
banks-apart numbers x y W g i j n = absurd (false≢true i)

-- two values have different numbers in each bank that has both
abbrev pub NumbersApart : Chosen → Numbers → ℕ → ℕ → Type 0
NumbersApart on numbers x y = (h : Bank) → is_home_bank h ≡ true → in_bank on h x ≡ true → in_bank on h y ≡ true → numbers h x ≢ numbers h y

places-apart : (on : Chosen) (numbers : Numbers) (x y : ℕ) → NumbersApart on numbers x y → (q r : Place) → IsHomePlace on numbers x q → IsHomePlace on numbers y r → same_place q r ≡ false
places-apart on numbers x y n q r a b =
    ap (λ w. same_place w r) a.is ∙ ap (λ w. same_place (home_place numbers a.bank x) w) b.is
    ∙ banks-apart numbers x y a.bank b.bank a.is_bank b.is_bank (λ e. n a.bank a.is_bank a.inside (ap (λ h. in_bank on h y) e ∙ b.inside))

none-there : (on : Chosen) (numbers : Numbers) (x y : ℕ) → NumbersApart on numbers x y → (q : Place) → IsHomePlace on numbers x q → (rs : List Place) → Each (IsHomePlace on numbers y) rs → has_place q rs ≡ false
none-there on numbers x y n q a [] h = refl
none-there on numbers x y n q a (r ∷ rs) h = or_from (same_place q r) (has_place q rs) (places-apart on numbers x y n q r a h.0) (none-there on numbers x y n q a rs h.1)

pub homes-apart : (on : Chosen) (numbers : Numbers) (x y : ℕ) → NumbersApart on numbers x y → (qs rs : List Place) → Each (IsHomePlace on numbers x) qs → Each (IsHomePlace on numbers y) rs → none_shared qs rs ≡ true
homes-apart on numbers x y n [] rs a b = refl
homes-apart on numbers x y n (q ∷ qs) rs a b =
    and_from (not (has_place q rs)) (none_shared qs rs) (not_from_false (has_place q rs) (none-there on numbers x y n q a.0 rs b)) (homes-apart on numbers x y n qs rs a.1 b)

-- ---- read registers

-- a value stays in its read register
pub record Staying (labels : List Label) (p : Plan) (on : Chosen) (x : ℕ) : Type 0 where
  pub mem : Mem
  pub number : ℕ
  pub place_is : (home p x).defined ≡ read_place mem number
  pub stays_in : StaysIn labels on x (is_sdram mem) number

pub record SameRead (m n : Mem) (i j : ℕ) : Type 0 where
  pub side : is_sdram m ≡ is_sdram n
  pub number : i ≡ j

pub same-read : (m n : Mem) (i j : ℕ) → same_place (read_place m i) (read_place n j) ≡ true → SameRead m n i j
same-read Sram Sram i j e = record { side = refl; number = same-number i j e }
same-read Sram Sdram i j e = absurd (false≢true e)
same-read Sram Scratch i j e = record { side = refl; number = same-number i j e }
same-read Sdram Sram i j e = absurd (false≢true e)
same-read Sdram Sdram i j e = record { side = refl; number = same-number i j e }
same-read Sdram Scratch i j e = absurd (false≢true e)
same-read Scratch Sram i j e = record { side = refl; number = same-number i j e }
same-read Scratch Sdram i j e = absurd (false≢true e)
same-read Scratch Scratch i j e = record { side = refl; number = same-number i j e }

one-apart : (q r : Place) → same_place q r ≡ false → none_shared (q ∷ []) (r ∷ []) ≡ true
one-apart q r e = and_from (not (same_place q r || false)) true (not_from_false (same_place q r || false) (or_from (same_place q r) false e refl)) refl

pub keeps-held : (labels : List Label) (slots : ℕ) (on : Chosen) (numbers : Numbers) (hs : List Home) (k : ℕ) (q : Point) → PointFacts labels slots on k q → (pass (read_off labels slots on numbers hs) k).l ≡ pass_l on k
    → ((x : ℕ) → is_in x q.before ≡ true → Each (IsHomePlace on numbers x) (general_places (read_off labels slots on numbers hs) x))
    → ((x : ℕ) → is_in x q.before ≡ true → stays labels (read_off labels slots on numbers hs) x ≡ true → Staying labels (read_off labels slots on numbers hs) on x)
    → ((x y : ℕ) → is_in x q.before ≡ true → is_in y q.before ≡ true → x ≢ y → NumbersApart on numbers x y) → KeepsHeld labels (read_off labels slots on numbers hs) k q
keeps-held labels slots on numbers hs k q at pass-is placed staying apart =
    let p = read_off labels slots on numbers hs in record {
      general = λ x y i j n. homes-apart on numbers x y (apart x y i j n) (general_places p x) (general_places p y) (placed x i) (placed y j);
      read = λ x y i j n. both x y i j n (stays labels p x) (stays labels p y) refl refl;
      read_through = λ x i. one x i (stays labels p x) (pass_l on k) refl pass-is refl;
    }
  where
    both : (x y : ℕ) → is_in x q.before ≡ true → is_in y q.before ≡ true → x ≢ y → (a b : Bool) → stays labels (read_off labels slots on numbers hs) x ≡ a → stays labels (read_off labels slots on numbers hs) y ≡ b
        → none_shared (kept_register labels (read_off labels slots on numbers hs) x a) (kept_register labels (read_off labels slots on numbers hs) y b) ≡ true
    both x y i j n false b e f = refl
    both x y i j n true false e f = refl
    both x y i j n true true e f =
        let p = read_off labels slots on numbers hs in
        let a = staying x i e in
        let b = staying y j f in
        one-apart (home p x).defined (home p y).defined (false_from_ne_true (same_place (home p x).defined (home p y).defined) (λ g.
        let s = same-read a.mem b.mem a.number b.number (ap (λ w. same_place w (read_place b.mem b.number)) (sym a.place_is) ∙ ap (λ w. same_place (home p x).defined w) (sym b.place_is) ∙ g) in
        at.stay_apart x y i j n (is_sdram b.mem) b.number
        (subst (λ m. StaysIn labels on x (is_sdram b.mem) m) s.number (subst (λ d. StaysIn labels on x d a.number) s.side a.stays_in)) b.stays_in))

    one : (x : ℕ) → is_in x q.before ≡ true → (b : Bool) (o : Option ℕ) → stays labels (read_off labels slots on numbers hs) x ≡ b → (pass (read_off labels slots on numbers hs) k).l ≡ o → pass_l on k ≡ o
        → none_shared (maybe place.L (pass (read_off labels slots on numbers hs) k).l) (kept_register labels (read_off labels slots on numbers hs) x b) ≡ true
    one x i false o e f g = none-with-nothing (maybe place.L (pass (read_off labels slots on numbers hs) k).l)
    one x i true None e f g = ap (λ w. none_shared (maybe place.L w) ((home (read_off labels slots on numbers hs) x).defined ∷ [])) f
    one x i true (Some r) e f g =
        let p = read_off labels slots on numbers hs in
        let a = staying x i e in
        ap (λ w. none_shared (maybe place.L w) ((home p x).defined ∷ [])) f
        ∙ one-apart (place.L r) (home p x).defined (false_from_ne_true (same_place (place.L r) (home p x).defined) (λ h.
        let s = same-read Sram a.mem r a.number (ap (λ w. same_place (place.L r) w) (sym a.place_is) ∙ h) in
        let off = at.stay_through x i a.number (subst (λ d. StaysIn labels on x d a.number) (sym s.side) a.stays_in) in
        let is-on = (first-on-each (λ n. on (ReadVia k n)) (λ n. n < 8) eight r eight-low g).1 in
        false≢true (sym off ∙ ap (λ n. on (ReadVia k n)) (sym s.number) ∙ is-on)))
