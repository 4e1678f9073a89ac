-- The paired choice: each value, access and use is given one choice, and what covers what.
use Rattle.std.proofs.Common.{◌≡◌, ℕ, suc, ◌+◌, ◌≤◌, nat_eq, nat_le, Bool, true, false, not, ◌&&◌, inl, List, [], ◌∷◌, ◌++◌, map, refl, sym, ap, subst, ◌∙◌, arith}
use Rattle.std.specs.Prelude.{Contains, ◌%◌}
use Rattle.std.specs.List.{flat_map}
use Rattle.std.proofs.lemmas.Bool.{and_parts, and_from, not-true, le-leb}
use Rattle.nv_base.specs.Access.{can_move}
use Rattle.nv_base.specs.declared.term.Mem.{Mem}
use Rattle.nv_base.specs.declared.term.Mem.TheVariants.{Sram, Sdram, Scratch}
use Rattle.ssu_ir.specs.Points.{PointKind, Entry, At, Point, points}
use Rattle.ssu_ir.specs.Tree.{Label, Lit, Una, Bin, Clone, Read, Write, Does, Forks, Ends}
use Rattle.place_plan.specs.Fits.{is_result, parameter}
use Rattle.place_plan.specs.Uses.{Access, place_accesses, accesses_from, accesses, Value, values, Role, Operand, Address, Written, Argument, Ending, Use, uses_of, uses, is_used}
use Rattle.ssu_liveness.specs.inner.Numbers.{values_among}
use Rattle.place_plan.proofs.Slotted.{first-fits, each-any}
use Rattle.place_plan.proofs.Sound.{Each, each-append, Sound, sound-points, place_ok, uses_among}
use Rattle.bank_prog_form.specs.declared.column.Bank.{Bank}
use Rattle.bank_prog_form.specs.declared.column.Bank.TheVariants.{A, B, M, T, L, A15, W}
use Rattle.bank_prog_form.specs.declared.column.Column.{Column}
use Rattle.bank_prog_form.specs.declared.column.Column.TheVariants.{Def, DirectWrite, Fill, EarlyWrite, First, Serve}
use Rattle.bank_prog_form.specs.declared.column.Service.{Service}
use Rattle.bank_prog_form.specs.Columns.{origin_of, is_fetched, eight, may_begin, services, has_bank}
use Rattle.bank_prog.specs.Meaning.{Chosen, Holds}
use Rattle.bank_prog_form.specs.Program.{number_of}
use Rattle.bank_prog_form.specs.Rows.{at_most, covers, exactly_one, homes, banks, def, home, stay, srv, srv_from, srv_at, dir, ear, early, is_parameter, is_written, parameter_choice, result_choice, access_choice, use_choice, served_home, use_stay, use_cover, in_register, fill, word_from_register, copy_lines, copy_cover, at_home, argument_lines, argument_cover}
use Rattle.bank_prog_rows.proofs.Present.{contains-beginning, first-there, srv-there}
use Rattle.bank_prog_rows.proofs.PlainLines.{mapped-each}
use Rattle.nova_back.specs.inner.Paired.{is_second, serves_a, serves_b, serves, paired}
use Rattle.nova_back.proofs.PairedOn.{IsPaired, off, put, is_operand, first-use, not-both, count-off, count-none, first-most, first-one, used-value, is-used, home-most, home-a-some, home-b-most, home-b-some, home-m-none, put-a}
use Rattle.reg_assign_reading.specs.inner.Facts.{count}
use Rattle.reg_assign_reading.proofs.ChosenHolds.{most-holds, covers-hold, one-holds, flat-each, if-each}
use Rattle.reg_assign_reading.proofs.ChosenSource.{argument-value}
use Rattle.reg_assign_reading.proofs.Counts.{In, contained-in, each-in, count-append, some-counted}
use Rattle.reg_assign_reading.proofs.ChosenValues.{unfetched, result-unfetched}

-- ---- lines of columns that are off

abbrev pub AreOff : Chosen → List Column → Type 0
AreOff on cs = Each (λ c. on c ≡ false) cs

pub zero-most : (on : Chosen) (n : ℕ) (cs : List Column) → AreOff on cs → Holds on (at_most n cs)
zero-most on n cs h = most-holds on n cs (let z = count-none on cs h in omega (arith, z))

pub zero-covers : (on : Chosen) (cs ds : List Column) → AreOff on ds → Holds on (covers cs ds)
zero-covers on cs ds h = covers-hold on cs ds (let z = count-none on ds h in omega (arith, z))

pub numbered-off : (labels : List Label) (on : Chosen) (c : ℕ → Column) (rs : List ℕ) → IsPaired labels on → ((r : ℕ) → paired (number_of labels) (c r) ≡ false) → AreOff on (map c rs)
numbered-off labels on c rs g h = mapped-each (λ d. on d ≡ false) c rs (each-any (λ r. on (c r) ≡ false) rs (λ r. off labels on g (c r) (h r)))

pub dirs-off : (labels : List Label) (on : Chosen) (u : Use) → IsPaired labels on → AreOff on (dir u)
dirs-off labels on u g = numbered-off labels on (DirectWrite u.point u.operand) eight g (λ f. refl)

pub ears-off : (labels : List Label) (on : Chosen) (u : Use) → IsPaired labels on → AreOff on (ear u)
ears-off labels on u g = numbered-off labels on (EarlyWrite u.point u.operand) eight g (λ f. refl)

early-off : (labels : List Label) (on : Chosen) (u : Use) → IsPaired labels on → AreOff on (early u)
early-off labels on u g =
    if-each (λ c. on c ≡ false) (is_written u.role) (dir u ++ ear u) (λ e. each-append (λ c. on c ≡ false) (dir u) (ear u) (dirs-off labels on u g) (ears-off labels on u g))

-- ---- each parameter and each result is put into A

put-once : (labels : List Label) (on : Chosen) (v : Value) → IsPaired labels on → In v (values labels) → is_fetched v.origin ≡ false → count on (def v.var) ≡ 1
put-once labels on v g i n =
    first-one on (Def v.var A) (Def v.var B ∷ Def v.var M ∷ []) (put-a labels on v g i n) (off labels on g (Def v.var B) refl, (off labels on g (Def v.var M) refl, tt))

pub parameter-lines : (labels : List Label) (on : Chosen) (v : Value) → IsPaired labels on → In v (values labels) → Each (Holds on) (parameter_choice v)
parameter-lines labels on v g i = if-each (Holds on) (is_parameter v.origin) (exactly_one (def v.var)) (λ e. one-holds on (def v.var) (put-once labels on v g i (unfetched v.origin e)))

pub result-lines : (labels : List Label) (on : Chosen) (v : Value) → IsPaired labels on → In v (values labels) → Each (Holds on) (result_choice labels v)
result-lines labels on v g i =
    let us = uses_of labels v.var in
    if-each (Holds on) (is_result v.origin) (exactly_one (def v.var ++ flat_map dir us)) (λ e.
    let a = put-once labels on v g i (result-unfetched v.origin e) in
    let z = count-none on (flat_map dir us) (flat-each (λ c. on c ≡ false) dir us (each-any (λ u. AreOff on (dir u)) us (λ u. dirs-off labels on u g))) in
    let s = count-append on (def v.var) (flat_map dir us) in
    one-holds on (def v.var ++ flat_map dir us) (omega (arith, a, z, s)))

-- ---- each access begins at the first register

may-first : (m : Mem) (n : ℕ) → can_move m n ≡ true → may_begin m n 0 ≡ true
may-first Sram n e = le-leb (0 + n) 8 (first-fits Sram n 0 refl e)
may-first Sdram n e = and_from (nat_le (0 + n) 8) (nat_eq (0 % 2) 0) (le-leb (0 + n) 8 (first-fits Sdram n 0 refl e).0) refl
may-first Scratch n e = le-leb (0 + n) 8 (first-fits Scratch n 0 refl e)

abbrev CanMove : Access → Type 0
CanMove a = can_move a.mem a.words ≡ true

place-moves : (labels : List Label) (k : ℕ) (q : PointKind) → place_ok labels q ≡ true → Each CanMove (place_accesses k q)
place-moves labels k (Entry l ps) e = tt
place-moves labels k (At (Does (Lit x v))) e = tt
place-moves labels k (At (Does (Una x op y))) e = tt
place-moves labels k (At (Does (Bin x op y z))) e = tt
place-moves labels k (At (Does (Clone xs y))) e = tt
place-moves labels k (At (Does (Read m xs y))) e = (e, tt)
place-moves labels k (At (Does (Write m y xs))) e = (e, tt)
place-moves labels k (At (Forks c x y)) e = tt
place-moves labels k (At (Ends l)) e = tt

points-move : (labels : List Label) (vs us : List ℕ) (k : ℕ) (ps : List Point) → Each (Sound labels vs us) ps → Each CanMove (accesses_from k ps)
points-move labels vs us k [] h = tt
points-move labels vs us k (q ∷ ps) h = each-append CanMove (place_accesses k q.place) (accesses_from (suc k) ps) (place-moves labels k q.place h.0.node) (points-move labels vs us (suc k) ps h.1)

pub access-lines : (labels : List Label) (on : Chosen) (a : Access) → IsPaired labels on → In a (accesses labels) → Each (Holds on) (access_choice a)
access-lines labels on a g i =
    let k = a.point in
    let ps = points labels in
    let moves = each-in CanMove a (accesses labels) (points-move labels (values_among (map (λ (q : Point). q.place) ps)) (uses_among ps) 0 ps (sound-points labels g.form)) i in
    let first = put labels on g (First k 0) (first-there labels a 0 (contained-in a (accesses labels) i) (contains-beginning a.mem a.words 0 (omega arith) (may-first a.mem a.words moves))) refl in
    one-holds on (map (First k) eight)
    (first-one on (First k 0) (map (First k) (1 ∷ 2 ∷ 3 ∷ 4 ∷ 5 ∷ 6 ∷ 7 ∷ [])) first
    (off labels on g (First k 1) refl, (off labels on g (First k 2) refl, (off labels on g (First k 3) refl, (off labels on g (First k 4) refl, (off labels on g (First k 5) refl, (off labels on g (First k 6) refl, (off labels on g (First k 7) refl, tt))))))))

-- ---- each use is served in one way

way-on : (labels : List Label) (on : Chosen) (u : Use) (r : Role) (s : Service) → IsPaired labels on → In u (uses labels) → u.role ≡ r → Contains (services r) s → has_bank (is_fetched (origin_of labels u.value)) s.from ≡ true → paired (number_of labels) (Serve u.point u.operand s.from s.at) ≡ true
    → on (Serve u.point u.operand s.from s.at) ≡ true
way-on labels on u r s g i e m t p = put labels on g (Serve u.point u.operand s.from s.at) (srv-there labels u s (contained-in u (uses labels) i) (subst (λ z. Contains (services z) s) (sym e) m) t) p

-- the column of a use that is served from one bank in another
abbrev S : Use → Bank → Bank → Column
S u h p = Serve u.point u.operand h p

abbrev served_by : Use → Role → List Column
served_by u r = map (λ s. S u s.from s.at) (services r)

ways-one : (labels : List Label) (on : Chosen) (u : Use) (r : Role) → IsPaired labels on → In u (uses labels) → u.role ≡ r → count on (served_by u r) ≡ 1
ways-one labels on u Operand g i e = by (is_second (number_of labels) u.point u.operand) refl
  where
    by : (b : Bool) → is_second (number_of labels) u.point u.operand ≡ b → count on (served_by u Operand) ≡ 1
    by true f =
        count-off on (S u A A) (S u B B ∷ S u T T ∷ S u M L ∷ S u M A15 ∷ S u B A15 ∷ S u T A15 ∷ []) (off labels on g (S u A A) (ap not f))
        ∙ first-one on (S u B B) (S u T T ∷ S u M L ∷ S u M A15 ∷ S u B A15 ∷ S u T A15 ∷ []) (way-on labels on u Operand (record { from = B; at = B; cost = 0 }) g i e (1, omega arith, refl) refl f)
        (off labels on g (S u T T) refl, (off labels on g (S u M L) refl, (off labels on g (S u M A15) refl, (off labels on g (S u B A15) refl, (off labels on g (S u T A15) refl, tt)))))
    by false f =
        first-one on (S u A A) (S u B B ∷ S u T T ∷ S u M L ∷ S u M A15 ∷ S u B A15 ∷ S u T A15 ∷ []) (way-on labels on u Operand (record { from = A; at = A; cost = 0 }) g i e (0, omega arith, refl) refl (ap not f))
        (off labels on g (S u B B) f, (off labels on g (S u T T) refl, (off labels on g (S u M L) refl, (off labels on g (S u M A15) refl, (off labels on g (S u B A15) refl, (off labels on g (S u T A15) refl, tt))))))
ways-one labels on u Address g i e =
    let f : is_second (number_of labels) u.point u.operand ≡ false = first-use labels u i (ap is_operand e) in
    first-one on (S u A A) (S u B B ∷ S u T A15 ∷ S u M A15 ∷ []) (way-on labels on u Address (record { from = A; at = A; cost = 0 }) g i e (0, omega arith, refl) refl (ap not f))
    (off labels on g (S u B B) f, (off labels on g (S u T A15) refl, (off labels on g (S u M A15) refl, tt)))
ways-one labels on u (Written m j) g i e =
    first-one on (S u A W) (S u B W ∷ S u T W ∷ S u M W ∷ []) (way-on labels on u (Written m j) (record { from = A; at = W; cost = 1 }) g i e (0, omega arith, refl) refl refl)
    (off labels on g (S u B W) refl, (off labels on g (S u T W) refl, (off labels on g (S u M W) refl, tt)))
ways-one labels on u (Argument l j) g i e =
    let f : is_second (number_of labels) u.point u.operand ≡ false = first-use labels u i (ap is_operand e) in
    first-one on (S u A A) (S u A B ∷ S u A M ∷ S u B A ∷ S u B B ∷ S u B M ∷ S u T A ∷ S u T B ∷ S u T M ∷ S u M A ∷ S u M B ∷ S u M M ∷ []) (way-on labels on u (Argument l j) (record { from = A; at = A; cost = 0 }) g i e (0, omega arith, refl) refl (ap not f))
    (off labels on g (S u A B) refl, (off labels on g (S u A M) refl, (off labels on g (S u B A) refl, (off labels on g (S u B B) f, (off labels on g (S u B M) refl, (off labels on g (S u T A) refl, (off labels on g (S u T B) refl, (off labels on g (S u T M) refl, (off labels on g (S u M A) refl, (off labels on g (S u M B) refl, (off labels on g (S u M M) refl, tt)))))))))))
ways-one labels on u (Ending j) g i e =
    let f : is_second (number_of labels) u.point u.operand ≡ false = first-use labels u i (ap is_operand e) in
    first-one on (S u A A) (S u B A ∷ S u T A ∷ S u M A ∷ []) (way-on labels on u (Ending j) (record { from = A; at = A; cost = 0 }) g i e (0, omega arith, refl) refl (ap not f))
    (off labels on g (S u B A) refl, (off labels on g (S u T A) refl, (off labels on g (S u M A) refl, tt)))

pub use-lines : (labels : List Label) (on : Chosen) (u : Use) → IsPaired labels on → In u (uses labels) → Each (Holds on) (use_choice u)
use-lines labels on u g i =
    let a = ways-one labels on u u.role g i refl in
    let z = count-none on (early u) (early-off labels on u g) in
    let s = count-append on (srv u) (early u) in
    one-holds on (srv u ++ early u) (omega (arith, a, z, s))

-- ---- each use is served from where its value is

from-a : (labels : List Label) (on : Chosen) (u : Use) → IsPaired labels on → In u (uses labels) → count on (srv_from u.point u.operand A) ≤ 1
from-a labels on u g i = by (on (S u A A)) refl (on (S u A W)) refl
  where
    by : (b : Bool) → on (S u A A) ≡ b → (c : Bool) → on (S u A W) ≡ c → count on (srv_from u.point u.operand A) ≤ 1
    by true e true f = absurd (not-both labels on u g i e f)
    by true e false f =
        first-most on (S u A A) (S u A B ∷ S u A M ∷ S u A T ∷ S u A L ∷ S u A A15 ∷ S u A W ∷ [])
        (off labels on g (S u A B) refl, (off labels on g (S u A M) refl, (off labels on g (S u A T) refl, (off labels on g (S u A L) refl, (off labels on g (S u A A15) refl, (f, tt))))))
    by false e c f =
        let c0 = count-off on (S u A A) (S u A B ∷ S u A M ∷ S u A T ∷ S u A L ∷ S u A A15 ∷ S u A W ∷ []) e in
        let c1 = count-off on (S u A B) (S u A M ∷ S u A T ∷ S u A L ∷ S u A A15 ∷ S u A W ∷ []) (off labels on g (S u A B) refl) in
        let c2 = count-off on (S u A M) (S u A T ∷ S u A L ∷ S u A A15 ∷ S u A W ∷ []) (off labels on g (S u A M) refl) in
        let c3 = count-off on (S u A T) (S u A L ∷ S u A A15 ∷ S u A W ∷ []) (off labels on g (S u A T) refl) in
        let c4 = count-off on (S u A L) (S u A A15 ∷ S u A W ∷ []) (off labels on g (S u A L) refl) in
        let c5 = count-off on (S u A A15) (S u A W ∷ []) (off labels on g (S u A A15) refl) in
        subst (λ n. n ≤ 1) (sym (c0 ∙ c1 ∙ c2 ∙ c3 ∙ c4 ∙ c5)) (first-most on (S u A W) [] tt)

from-b : (labels : List Label) (on : Chosen) (k i : ℕ) → IsPaired labels on → count on (srv_from k i B) ≤ 1
from-b labels on k i g =
    let c0 = count-off on (Serve k i B A) (map (Serve k i B) (B ∷ M ∷ T ∷ L ∷ A15 ∷ W ∷ [])) (off labels on g (Serve k i B A) refl) in
    subst (λ n. n ≤ 1) (sym c0)
    (first-most on (Serve k i B B) (map (Serve k i B) (M ∷ T ∷ L ∷ A15 ∷ W ∷ []))
    (off labels on g (Serve k i B M) refl, (off labels on g (Serve k i B T) refl, (off labels on g (Serve k i B L) refl, (off labels on g (Serve k i B A15) refl, (off labels on g (Serve k i B W) refl, tt))))))

from-off : (labels : List Label) (on : Chosen) (k i : ℕ) (h : Bank) → IsPaired labels on → ((p : Bank) → paired (number_of labels) (Serve k i h p) ≡ false) → AreOff on (srv_from k i h)
from-off labels on k i h g e = mapped-each (λ c. on c ≡ false) (Serve k i h) banks (each-any (λ p. on (Serve k i h p) ≡ false) banks (λ p. off labels on g (Serve k i h p) (e p)))

pub cover-lines : (labels : List Label) (on : Chosen) (u : Use) → IsPaired labels on → In u (uses labels) → Each (Holds on) (use_cover labels u)
cover-lines labels on u g i =
    let w = used-value labels u g.form i in
    let used : is_used labels w.0.var ≡ true = ap (is_used labels) w.2 ∙ is-used labels u i in
    let a = subst (λ x. 1 ≤ count on (home x A)) w.2 (home-a-some labels on w.0 g w.1 used) in
    let a' = from-a labels on u g i in
    let b = subst (λ x. 1 ≤ count on (home x B)) w.2 (home-b-some labels on w.0 g w.1 used) in
    let b' = from-b labels on u.point u.operand g in
    each-append (Holds on) (map (served_home u) homes) (use_stay labels u) (
      covers-hold on (home u.value A) (srv_from u.point u.operand A) (omega (arith, a, a')),
      (
        covers-hold on (home u.value B) (srv_from u.point u.operand B) (omega (arith, b, b')),
        (zero-covers on (home u.value M) (srv_from u.point u.operand M) (from-off labels on u.point u.operand M g (λ p. refl)), tt),
      ),
    )
    (if-each (Holds on) (is_fetched (origin_of labels u.value)) _ (λ e. (zero-covers on (stay u.value) (srv_from u.point u.operand T) (from-off labels on u.point u.operand T g (λ p. refl)), tt)))

-- ---- copies

first-covers : (on : Chosen) (c d : Column) (cs : List Column) → on c ≡ true → Holds on (covers (c ∷ cs) (d ∷ []))
first-covers on c d cs e =
    let a = some-counted on c (c ∷ cs) (inl refl) e in
    let b = first-most on d [] tt in
    covers-hold on (c ∷ cs) (d ∷ []) (omega (arith, a, b))

pub copies-lines : (labels : List Label) (on : Chosen) (v : Value) → IsPaired labels on → In v (values labels) → Each (Holds on) (copy_cover labels v)
copies-lines labels on v g i =
    let x = v.var in
    let us = uses_of labels x in
    if-each (Holds on) (is_used labels x && not (is_fetched v.origin)) (copy_lines labels x) (λ e.
    let n : is_fetched v.origin ≡ false = not-true (is_fetched v.origin) (and_parts (is_used labels x) (not (is_fetched v.origin)) e).1 in
    let a = put-a labels on v g i n in
    let z = home-m-none labels on x g in
    each-append (Holds on) (map (λ h. at_most 1 (home x h)) homes) (map (λ h. covers (in_register x) (fill x h)) homes ++ flat_map (word_from_register x) us)
    (most-holds on 1 (home x A) (home-most labels on x g), (most-holds on 1 (home x B) (home-b-most labels on x g), (most-holds on 1 (home x M) (omega (arith, z)), tt)))
    (each-append (Holds on) (map (λ h. covers (in_register x) (fill x h)) homes) (flat_map (word_from_register x) us)
    (first-covers on (Def x A) (Fill x A) (Def x B ∷ []) a, (first-covers on (Def x A) (Fill x B) (Def x B ∷ []) a, (first-covers on (Def x A) (Fill x M) (Def x B ∷ []) a, tt)))
    (flat-each (Holds on) (word_from_register x) us (each-any (λ u. Each (Holds on) (word_from_register x u)) us (λ u.
    if-each (Holds on) (is_written u.role) (covers (in_register x) (ear u) ∷ []) (λ f. (zero-covers on (in_register x) (ear u) (ears-off labels on u g), tt)))))))

-- ---- arguments

pub at-a : (labels : List Label) (on : Chosen) (k i : ℕ) → IsPaired labels on → count on (srv_at k i A) ≤ 1
at-a labels on k i g =
    first-most on (Serve k i A A) (map (λ h. Serve k i h A) (B ∷ M ∷ T ∷ L ∷ A15 ∷ W ∷ []))
    (off labels on g (Serve k i B A) refl, (off labels on g (Serve k i M A) refl, (off labels on g (Serve k i T A) refl, (off labels on g (Serve k i L A) refl, (off labels on g (Serve k i A15 A) refl, (off labels on g (Serve k i W A) refl, tt))))))

pub at-off : (labels : List Label) (on : Chosen) (k i : ℕ) (p : Bank) → IsPaired labels on → ((h : Bank) → paired (number_of labels) (Serve k i h p) ≡ false) → AreOff on (srv_at k i p)
at-off labels on k i p g e = mapped-each (λ c. on c ≡ false) (λ h. Serve k i h p) banks (each-any (λ h. on (Serve k i h p) ≡ false) banks (λ h. off labels on g (Serve k i h p) (e h)))

pub serves-none : (second : Bool) (p : Bank) → serves_a second p ≡ false → serves_b second p ≡ false → (h : Bank) → serves second h p ≡ false
serves-none second p a b A = a
serves-none second p a b B = b
serves-none second p a b M = refl
serves-none second p a b T = refl
serves-none second p a b L = refl
serves-none second p a b A15 = refl
serves-none second p a b W = refl

arguments-of : (labels : List Label) (on : Chosen) (u : Use) (r : Role) → IsPaired labels on → In u (uses labels) → u.role ≡ r → Each (Holds on) (argument_lines labels u.point u.operand r)
arguments-of labels on u Operand g i e = tt
arguments-of labels on u Address g i e = tt
arguments-of labels on u (Written m j) g i e = tt
arguments-of labels on u (Argument l j) g i e =
    let y = parameter labels l j in
    let k = u.point in
    let o = u.operand in
    let w = argument-value labels u l j g.form i e in
    let here : on (Def y A) ≡ true = subst (λ z. on (Def z A) ≡ true) w.2 (put-a labels on w.0 g w.1 (unfetched w.0.origin w.3)) in
    let a = some-counted on (Def y A) (at_home y A) (inl refl) here in
    let b = at-a labels on k o g in
    let f = first-use labels u i (ap is_operand e) in (
      covers-hold on (at_home y A) (srv_at k o A) (omega (arith, a, b)),
      (
        zero-covers on (at_home y B) (srv_at k o B) (at-off labels on k o B g (serves-none (is_second (number_of labels) k o) B refl f)),
        (zero-covers on (at_home y M) (srv_at k o M) (at-off labels on k o M g (serves-none (is_second (number_of labels) k o) M refl refl)), tt),
      ),
    )
arguments-of labels on u (Ending j) g i e = tt

pub arguments-lines : (labels : List Label) (on : Chosen) (u : Use) → IsPaired labels on → In u (uses labels) → Each (Holds on) (argument_cover labels u)
arguments-lines labels on u g i = arguments-of labels on u u.role g i refl
