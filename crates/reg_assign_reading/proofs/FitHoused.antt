-- Each value has the home that a choice of columns gives it.
use Rattle.std.proofs.Common.{◌≡◌, ℕ, ◌+◌, ◌<◌, ◌≤◌, Bool, true, false, if◌then◌else◌, ◌⊎◌, inl, inr, ⊎_elim, Option, Some, None, List, [], ◌++◌, refl, sym, ap, subst, ◌∙◌, arith}
use Rattle.std.specs.List.{list_any, flat_map}
use Rattle.std.proofs.lemmas.Bool.{or_from, or_left, or_right, false≢true, false_from_ne_true}
use Rattle.nv_base.specs.declared.term.Mem.{Mem}
use Rattle.nv_base.specs.declared.term.Mem.TheVariants.{Sram, Sdram, Scratch}
use Rattle.ssu_ir.specs.Tree.{Label}
use Rattle.place_plan.specs.declared.place.Place.{Place}
use Rattle.place_plan.specs.Plan.{Home, home_in, first}
use Rattle.place_plan.specs.Uses.{ValueOrigin, Parameter, Result, Fetched, Value, Role, Operand, Address, Written, Argument, Ending, Use, uses, uses_of, is_used}
use Rattle.place_plan.specs.Fits.{read_place, IsGeneral, is_slot, same_bank, is_early, AreCopies, IsPutEarly, IsHome, is_result, is_sort_homed}
use Rattle.bank_prog_form.specs.declared.column.Bank.{Bank}
use Rattle.bank_prog_form.specs.declared.column.Bank.TheVariants.{A, B, M, T, L, A15, W}
use Rattle.bank_prog_form.specs.declared.column.Column.TheVariants.{Def, DirectWrite, Fill, EarlyWrite}
use Rattle.bank_prog_form.specs.declared.column.Service.{Service}
use Rattle.bank_prog_form.specs.Columns.{eight, services, origin_of, is_fetched}
use Rattle.bank_prog_form.specs.Rows.{def, dir, ear, srv, early, is_written, is_parameter}
use Rattle.bank_prog.specs.Meaning.{Chosen}
use Rattle.place_plan.proofs.Sound.{Each}
use Rattle.place_plan.proofs.Slotted.{read-no-slot}
use Rattle.reg_assign_reading.specs.inner.Facts.{count, in_bank, in_register, IsIn, ValueFacts, UseFacts}
use Rattle.reg_assign_reading.specs.ReadOff.{Numbers, begins, goes_early, def_bank, service_on, home_place, first_word, fills_of, copies_of, put_home, origin_home, room, read_off}
use Rattle.reg_assign_reading.proofs.ReadParts.{any-count, count-any, on-none, FirstsThere, first-read}
use Rattle.reg_assign_reading.proofs.FitWords.{each-both, service-each, service-none, IsEarlySame, word-same, words-same}
use Rattle.reg_assign_reading.proofs.FitWaiting.{each-contained, any-of-map, any-either}
use Rattle.reg_assign_reading.proofs.FitHomes.{is_home_bank, def-bank-some, def-bank-none, bank-count, no-register, no-bank, fills-are, copies-none, uses-none, uses-value, not-early, dirs-off, dirs-count, one-use}

-- what is known of a value
pub record Known (labels : List Label) (slots : ℕ) (on : Chosen) (numbers : Numbers) (hs : List Home) (v : Value) : Type 0 where
  pub facts : ValueFacts labels on v
  pub below : (h : Bank) → is_home_bank h ≡ true → in_bank on h v.var ≡ true → numbers h v.var < room slots h
  pub uses_known : Each (UseFacts labels on) (uses_of labels v.var)
  pub early_same : Each (IsEarlySame labels slots on numbers hs) (uses labels)
  pub early_here : Each (IsEarlySame labels slots on numbers hs) (uses_of labels v.var)
  pub there : FirstsThere labels on

other-home : (numbers : Numbers) (x : ℕ) (h g : Bank) → is_home_bank h ≡ true → is_home_bank g ≡ true → (h ≡ g → ⊥) → same_bank (home_place numbers h x) (home_place numbers g x) ≡ false
other-home numbers x A A i j n = absurd (n refl)
other-home numbers x A B i j n = refl
other-home numbers x A M i j n = refl
other-home numbers x A T i j n = absurd (false≢true j)
other-home numbers x A L i j n = absurd (false≢true j)
other-home numbers x A A15 i j n = absurd (false≢true j)
other-home numbers x A W i j n = absurd (false≢true j)
other-home numbers x B A i j n = refl
other-home numbers x B B i j n = absurd (n refl)
other-home numbers x B M i j n = refl
other-home numbers x B T i j n = absurd (false≢true j)
other-home numbers x B L i j n = absurd (false≢true j)
other-home numbers x B A15 i j n = absurd (false≢true j)
other-home numbers x B W i j n = absurd (false≢true j)
other-home numbers x M A i j n = refl
other-home numbers x M B i j n = refl
other-home numbers x M M i j n = absurd (n refl)
other-home numbers x M T i j n = absurd (false≢true j)
other-home numbers x M L i j n = absurd (false≢true j)
other-home numbers x M A15 i j n = absurd (false≢true j)
other-home numbers x M W i j n = absurd (false≢true j)
other-home numbers x T g i j n = absurd (false≢true i)
other-home numbers x L g i j n = absurd (false≢true i)
other-home numbers x A15 g i j n = absurd (false≢true i)
other-home numbers x W g i j n = absurd (false≢true i)

other-read : (numbers : Numbers) (x : ℕ) (h : Bank) (m : Mem) (i : ℕ) → same_bank (home_place numbers h x) (read_place m i) ≡ false
other-read numbers x A Sram i = refl
other-read numbers x A Sdram i = refl
other-read numbers x A Scratch i = refl
other-read numbers x B Sram i = refl
other-read numbers x B Sdram i = refl
other-read numbers x B Scratch i = refl
other-read numbers x M Sram i = refl
other-read numbers x M Sdram i = refl
other-read numbers x M Scratch i = refl
other-read numbers x T Sram i = refl
other-read numbers x T Sdram i = refl
other-read numbers x T Scratch i = refl
other-read numbers x L Sram i = refl
other-read numbers x L Sdram i = refl
other-read numbers x L Scratch i = refl
other-read numbers x A15 Sram i = refl
other-read numbers x A15 Sdram i = refl
other-read numbers x A15 Scratch i = refl
other-read numbers x W Sram i = refl
other-read numbers x W Sdram i = refl
other-read numbers x W Scratch i = refl

is-general : (labels : List Label) (slots : ℕ) (on : Chosen) (numbers : Numbers) (hs : List Home) (x : ℕ) (h : Bank) → is_home_bank h ≡ true → numbers h x < room slots h → IsGeneral (read_off labels slots on numbers hs) (home_place numbers h x)
is-general labels slots on numbers hs x A i l = l
is-general labels slots on numbers hs x B i l = l
is-general labels slots on numbers hs x M i l = l
is-general labels slots on numbers hs x T i l = absurd (false≢true i)
is-general labels slots on numbers hs x L i l = absurd (false≢true i)
is-general labels slots on numbers hs x A15 i l = absurd (false≢true i)
is-general labels slots on numbers hs x W i l = absurd (false≢true i)

copies-are : (labels : List Label) (slots : ℕ) (on : Chosen) (numbers : Numbers) (hs : List Home) (v : Value) → Known labels slots on numbers hs v → (defined : Place) → ((h : Bank) → is_home_bank h ≡ true → on (Fill v.var h) ≡ true → same_bank (home_place numbers h v.var) defined ≡ false)
    → (is_slot defined ≡ true → copies_of labels on numbers v.var ≡ []) → AreCopies labels (read_off labels slots on numbers hs) v.var (record { var = v.var; defined = defined; copied = copies_of labels on numbers v.var })
copies-are labels slots on numbers hs v k defined e s =
    let p = read_off labels slots on numbers hs in record {
      fills = fills_of on numbers v.var;
      are = fills-are p on numbers v.var defined
          (λ h i f. is-general labels slots on numbers hs v.var h i (k.below h i (or_right (on (Def v.var h)) (on (Fill v.var h)) f)))
          e;
      copied = ap (λ l. fills_of on numbers v.var ++ l) (sym (words-same labels slots on numbers hs k.there k.early_same v.var));
      unused = λ u. copies-none labels on numbers v.var (k.facts.unused u) (subst (λ us. Each (λ (w : Use). goes_early on w ≡ false) us) (sym (uses-none v.var (uses labels) u)) tt);
      from_slot = s;
    }

-- a value that is put into a slot has no copies
slot-copies : (labels : List Label) (on : Chosen) (numbers : Numbers) (v : Value) → ValueFacts labels on v → is_fetched v.origin ≡ false → count on (def v.var) ≤ 1 → Each (λ u. list_any on (dir u) ≡ false) (uses_of labels v.var) → (h : Bank) → on (Def v.var h) ≡ true → is_home_bank h ≡ true
    → is_slot (home_place numbers h v.var) ≡ true → copies_of labels on numbers v.var ≡ []
slot-copies labels on numbers v f n c d A e i s = absurd (false≢true s)
slot-copies labels on numbers v f n c d B e i s = absurd (false≢true s)
slot-copies labels on numbers v f n c d M e i s =
    let off : in_register on v.var ≡ false = no-register (on (Def v.var A)) (on (Def v.var B)) (on (Def v.var M)) c e in
    copies-none labels on numbers v.var
    (λ h. false_from_ne_true (on (Fill v.var h)) (λ g. false≢true (sym off ∙ f.filled n h g)))
    (each-both (λ (u : Use). list_any on (dir u) ≡ false) (λ (u : Use). list_any on (ear u) ≡ false) (λ (u : Use). goes_early on u ≡ false) (uses_of labels v.var)
    (λ u a b. not-early on u a b) d
    (each-contained (λ (u : Use). list_any on (ear u) ≡ false) (uses_of labels v.var) (λ u at. false_from_ne_true (list_any on (ear u)) (λ g.
    let w = any-of-map on (EarlyWrite u.point u.operand) eight g in
    false≢true (sym off ∙ f.eared n u at w.0 w.1)))))
slot-copies labels on numbers v f n c d T e i s = absurd (false≢true i)
slot-copies labels on numbers v f n c d L e i s = absurd (false≢true i)
slot-copies labels on numbers v f n c d A15 e i s = absurd (false≢true i)
slot-copies labels on numbers v f n c d W e i s = absurd (false≢true i)

put-some : (labels : List Label) (slots : ℕ) (on : Chosen) (numbers : Numbers) (hs : List Home) (v : Value) → Known labels slots on numbers hs v → is_fetched v.origin ≡ false → count on (def v.var) ≤ 1 → Each (λ u. list_any on (dir u) ≡ false) (uses_of labels v.var)
    → (h : Bank) → def_bank on v.var ≡ Some h → IsGeneral (read_off labels slots on numbers hs) (home_place numbers h v.var) × AreCopies labels (read_off labels slots on numbers hs) v.var (put_home labels on numbers v.var (Some h))
put-some labels slots on numbers hs v k n c d h e =
    let w = def-bank-some on v.var h e in (
      is-general labels slots on numbers hs v.var h w.1 (k.below h w.1 (or_left (on (Def v.var h)) (on (Fill v.var h)) w.0)),
      copies-are labels slots on numbers hs v k (home_place numbers h v.var)
          (λ g i f. other-home numbers v.var g h i w.1 (λ same. false≢true (sym (k.facts.once h w.0) ∙ ap (λ b. on (Fill v.var b)) (sym same) ∙ f)))
          (slot-copies labels on numbers v k.facts n c d h w.0 w.1),
    )

-- ---- a result that is put early

abbrev pub is_source : Bank → Bool
is_source A = true
is_source B = true
is_source M = true
is_source T = true
is_source L = false
is_source A15 = false
is_source W = false

pub all-sources : (role : Role) → Each (λ s. is_source s.from ≡ true) (services role)
all-sources Operand = (refl, (refl, (refl, (refl, (refl, (refl, (refl, tt)))))))
all-sources Address = (refl, (refl, (refl, (refl, tt))))
all-sources (Written m i) = (refl, (refl, (refl, (refl, tt))))
all-sources (Argument l i) = (refl, (refl, (refl, (refl, (refl, (refl, (refl, (refl, (refl, (refl, (refl, (refl, tt))))))))))))
all-sources (Ending i) = (refl, (refl, (refl, (refl, tt))))

never-in : (labels : List Label) (on : Chosen) (x : ℕ) (h : Bank) → ((g : Bank) → in_bank on g x ≡ false) → is_fetched (origin_of labels x) ≡ false → is_source h ≡ true → IsIn labels on x h → ⊥
never-in labels on x A n f s i = false≢true (sym (n A) ∙ i)
never-in labels on x B n f s i = false≢true (sym (n B) ∙ i)
never-in labels on x M n f s i = false≢true (sym (n M) ∙ i)
never-in labels on x T n f s i = false≢true (sym f ∙ i.0)
never-in labels on x L n f s i = absurd (false≢true s)
never-in labels on x A15 n f s i = absurd (false≢true s)
never-in labels on x W n f s i = absurd (false≢true s)

-- a use of a value that has no home is early
homeless-early : (labels : List Label) (on : Chosen) (u : Use) → UseFacts labels on u → ((g : Bank) → in_bank on g u.value ≡ false) → is_fetched (origin_of labels u.value) ≡ false → goes_early on u ≡ true
homeless-early labels on u h n f = pick (service_on on u (services u.role)) refl
  where
    pick : (o : Option Service) → service_on on u (services u.role) ≡ o → goes_early on u ≡ true
    pick (Some s) e =
        let w = service-each on u (λ (r : Service). is_source r.from ≡ true) (services u.role) s (all-sources u.role) e in
        absurd (never-in labels on u.value s.from n f w.0 (h.served s.from s.at w.1))
    pick None e = let one = h.once in let z : count on (srv u) ≡ 0 = service-none on u (services u.role) e in count-any on (early u) (omega arith)

goes-direct : (on : Chosen) (u : Use) → list_any on (ear u) ≡ false → goes_early on u ≡ true → 1 ≤ count on (dir u)
goes-direct on u e g = pick (is_written u.role) g
  where
    pick : (b : Bool) → list_any on (if b then dir u ++ ear u else []) ≡ true → 1 ≤ count on (dir u)
    pick false h = absurd (false≢true h)
    pick true h = ⊎_elim (λ (k : list_any on (dir u) ≡ true). any-count on (dir u) k) (λ (k : list_any on (ear u) ≡ true). absurd (false≢true (sym e ∙ k))) (any-either on (dir u) (ear u) h)

pub put-early : (labels : List Label) (slots : ℕ) (on : Chosen) (numbers : Numbers) (hs : List Home) (v : Value) → Known labels slots on numbers hs v → is_fetched v.origin ≡ false → count on (def v.var) ≡ 0 → count on (flat_map dir (uses_of labels v.var)) ≡ 1 → ((g : Bank) → on (Def v.var g) ≡ false)
    → IsPutEarly labels (read_off labels slots on numbers hs) v.var (put_home labels on numbers v.var None)
put-early labels slots on numbers hs v k n c d none =
    let p = read_off labels slots on numbers hs in
    let us = uses_of labels v.var in
    let off : in_register on v.var ≡ false = no-bank (on (Def v.var A)) (on (Def v.var B)) (on (Def v.var M)) c in
    let homeless : (g : Bank) → in_bank on g v.var ≡ false = λ g. or_from (on (Def v.var g)) (on (Fill v.var g)) (none g) (false_from_ne_true (on (Fill v.var g)) (λ f. false≢true (sym off ∙ k.facts.filled n g f))) in
    let early-all : Each (λ (u : Use). goes_early on u ≡ true) us =
    each-both (UseFacts labels on) (λ (u : Use). u.value ≡ v.var) (λ (u : Use). goes_early on u ≡ true) us
    (λ u h e. homeless-early labels on u h (λ g. ap (λ x. in_bank on g x) e ∙ homeless g) (ap (λ x. is_fetched (origin_of labels x)) e ∙ ap is_fetched k.facts.origin ∙ n))
    k.uses_known (uses-value v.var (uses labels)) in
    let ears : Each (λ (u : Use). list_any on (ear u) ≡ false) us = each-contained (λ (u : Use). list_any on (ear u) ≡ false) us (λ u at. false_from_ne_true (list_any on (ear u)) (λ g.
    let w = any-of-map on (EarlyWrite u.point u.operand) eight g in
    false≢true (sym off ∙ k.facts.eared n u at w.0 w.1))) in
    let l = dirs-count on us (each-both (λ (u : Use). list_any on (ear u) ≡ false) (λ (u : Use). goes_early on u ≡ true) (λ (u : Use). 1 ≤ count on (dir u)) us (λ u a b. goes-direct on u a b) ears early-all) in
    let one = one-use on us (omega arith) (omega arith) in
    let u = one.0 in
    let is-early : is_early p u ≡ true =
    (subst (λ ws. Each (IsEarlySame labels slots on numbers hs) ws) one.1 k.early_here).0 ∙ (subst (λ ws. Each (λ (w : Use). goes_early on w ≡ true) ws) one.1 early-all).0 in
    record {
      use_ = u;
      one = one.1;
      early = is-early;
      at = ap (first_word on) one.1 ∙ sym (word-same labels slots on numbers hs k.there u);
      copied = refl;
    }

-- ---- the whole

param-dirs : (labels : List Label) (slots : ℕ) (on : Chosen) (numbers : Numbers) (hs : List Home) (v : Value) → Known labels slots on numbers hs v → is_result v.origin ≡ false → Each (λ u. list_any on (dir u) ≡ false) (uses_of labels v.var)
param-dirs labels slots on numbers hs v k n =
    each-both (UseFacts labels on) (λ (u : Use). u.value ≡ v.var) (λ (u : Use). list_any on (dir u) ≡ false) (uses_of labels v.var)
    (λ u h e. false_from_ne_true (list_any on (dir u)) (λ g.
    let w = any-of-map on (DirectWrite u.point u.operand) eight g in
    false≢true (sym n ∙ ap is_result (sym k.facts.origin) ∙ ap (λ x. is_result (origin_of labels x)) (sym e) ∙ h.of_result w.0 w.1)))
    k.uses_known (uses-value v.var (uses labels))

pub housed-by : (labels : List Label) (slots : ℕ) (on : Chosen) (numbers : Numbers) (hs : List Home) (v : Value) → Known labels slots on numbers hs v → ((h : Bank) → is_home_bank h ≡ false → on (Def v.var h) ≡ false) → (origin : ValueOrigin) → v.origin ≡ origin
    → (is_sort_homed (is_used labels v.var) origin ≡ true → home_in hs v.var ≡ origin_home labels on numbers v.point v.var origin) → IsHome labels (read_off labels slots on numbers hs) v (home_in hs v.var) origin
housed-by labels slots on numbers hs v k o (Parameter l i) e h =
    let p = read_off labels slots on numbers hs in
    let one : count on (def v.var) ≡ 1 = k.facts.parameter (ap is_parameter e) in
    subst (λ (w : Home). IsGeneral p w.defined × AreCopies labels p v.var w) (sym (h refl)) (pick (def_bank on v.var) refl one (param-dirs labels slots on numbers hs v k (ap is_result e)))
  where
    pick : (o : Option Bank) → def_bank on v.var ≡ o → count on (def v.var) ≡ 1 → Each (λ u. list_any on (dir u) ≡ false) (uses_of labels v.var)
        → IsGeneral (read_off labels slots on numbers hs) (put_home labels on numbers v.var o).defined × AreCopies labels (read_off labels slots on numbers hs) v.var (put_home labels on numbers v.var o)
    pick (Some g) f one d = put-some labels slots on numbers hs v k (ap is_fetched e) (omega arith) d g f
    pick None f one d = let z = def-bank-none on v.var f in absurd (omega arith)
housed-by labels slots on numbers hs v k o Result e h =
    let p = read_off labels slots on numbers hs in
    let one = k.facts.result (ap is_result e) in
    subst (λ (w : Home). (IsGeneral p w.defined × AreCopies labels p v.var w) ⊎ IsPutEarly labels p v.var w) (sym (h refl)) (pick (def_bank on v.var) refl one)
  where
    off : count on (def v.var) ≡ 0 → (g : Bank) → on (Def v.var g) ≡ false
    off z A = let l = z in on-none (on (Def v.var A)) (omega arith)
    off z B = let l = z in on-none (on (Def v.var B)) (omega arith)
    off z M = let l = z in on-none (on (Def v.var M)) (omega arith)
    off z T = o T refl
    off z L = o L refl
    off z A15 = o A15 refl
    off z W = o W refl

    pick : (b : Option Bank) → def_bank on v.var ≡ b → count on (def v.var) + count on (flat_map dir (uses_of labels v.var)) ≡ 1
        → (IsGeneral (read_off labels slots on numbers hs) (put_home labels on numbers v.var b).defined × AreCopies labels (read_off labels slots on numbers hs) v.var (put_home labels on numbers v.var b)) ⊎ IsPutEarly labels (read_off labels slots on numbers hs) v.var (put_home labels on numbers v.var b)
    pick (Some g) f one =
        let l : 1 ≤ count on (def v.var) = bank-count (on (Def v.var A)) (on (Def v.var B)) (on (Def v.var M)) g f in
        inl (put-some labels slots on numbers hs v k (ap is_fetched e) (omega arith) (dirs-off on (uses_of labels v.var) (omega arith)) g f)
    pick None f one =
        let z : count on (def v.var) ≡ 0 = def-bank-none on v.var f in
        inr (put-early labels slots on numbers hs v k (ap is_fetched e) z (omega arith) (off z))
housed-by labels slots on numbers hs v k o (Fetched m i) e h = λ u.
    let p = read_off labels slots on numbers hs in
    subst (λ (w : Home). (w.defined ≡ read_place m (first p v.point + i)) × AreCopies labels p v.var w) (sym (h u)) (
      ap (λ n. read_place m (n + i)) (sym (first-read labels slots on numbers hs k.there v.point)),
      copies-are labels slots on numbers hs v k (read_place m (begins on v.point + i)) (λ g j f. other-read numbers v.var g m (begins on v.point + i)) (λ s. absurd (false≢true (sym (read-no-slot m (begins on v.point + i)) ∙ s))),
    )
