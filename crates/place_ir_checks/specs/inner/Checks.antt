-- The rules of placements in the form in which they are tested: each value, access, use and point by itself, over the uses that the
-- serves are for.
use Rattle.std.specs.Prelude.{ℕ, zero, suc, ◌+◌, ◌-◌, ◌%◌, ◌==◌, nat_eq, nat_lt, nat_le, Bool, true, false, not, ◌&&◌, ◌||◌, List, [], ◌∷◌, Option, Some, None, map, length, take, drop, count_by, if◌then◌else◌}
use Rattle.std.specs.List.{list_any, list_all}
use Rattle.nv_base.specs.declared.term.Mem.{Mem}
use Rattle.nv_base.specs.declared.term.Mem.TheVariants.{Sram, Sdram, Scratch}
use Rattle.nv_base.specs.Sets.{is_in}
use Rattle.ssu_ir.specs.Tree.{Step, Lit, Una, Bin, Clone, Read, Write, Label, Node, Does, Forks, Ends, node_uses}
use Rattle.ssu_ir.specs.Points.{Point, points, place_values}
use Rattle.place_plan.specs.declared.place.Place.{Place}
use Rattle.place_plan.specs.declared.place.Place.TheVariants.{A, B, L, LD, S, SD, Slot}
use Rattle.place_plan.specs.declared.place.Pass.{Pass}
use Rattle.place_plan.specs.declared.place.Serve.{Serve}
use Rattle.place_ir_checks.specs.declared.registers.Word.{Word}
use Rattle.place_ir_checks.specs.declared.registers.Word.TheVariants as kept
use Rattle.place_plan.specs.Places.{same_place}
use Rattle.place_plan.specs.Plan.{Plan, home, first, serve, pass}
use Rattle.place_plan.specs.Uses.{ValueOrigin, Parameter, Result, Fetched, Value, Role, Operand, Address, Written, Argument, Ending, Use}
use Rattle.place_plan.specs.Uses as all_uses
use Rattle.place_plan.specs.Fits.{read_place, has_place, is_general, is_slot, is_read_register, same_bank, different_groups, maybe, served, word_register, is_early, is_home, parameter}
use Rattle.place_ir_checks.specs.inner.NodeLookups.{point_at, place_at, below_at, place_node, found_use}

-- ---- quantifiers over numbers

abbrev pub all_below : (ℕ → Bool) → ℕ → Bool
all_below f zero = true
all_below f (suc n) = all_below f n && f n

abbrev pub any_below : (ℕ → Bool) → ℕ → Bool
any_below f zero = false
any_below f (suc n) = any_below f n || f n

-- ---- places

-- the register of a word
abbrev pub word_place : Word → Place
word_place (kept.S k) = S k
word_place (kept.SD k) = SD k
word_place kept.Other = Slot 0

-- a general register or a slot in which a value can be at home
abbrev pub can_be_home : ℕ → Place → Bool
can_be_home slots (A k) = nat_lt k 15
can_be_home slots (B k) = nat_lt k 15
can_be_home slots (Slot k) = nat_lt k slots
can_be_home slots _ = false

abbrev pub rank : Place → ℕ
rank (A k) = 1
rank (B k) = 2
rank (Slot k) = 3
rank _ = 0

-- a number is one of so many from the first on
abbrev pub is_within : ℕ → ℕ → ℕ → Bool
is_within j first words = nat_le first j && nat_lt (j - first) words

-- a place is among the registers of N words of a read, or of a write
abbrev pub in_read_run : Mem → Place → ℕ → ℕ → Bool
in_read_run Sram (L j) first words = is_within j first words
in_read_run Sdram (LD j) first words = is_within j first words
in_read_run Scratch (L j) first words = is_within j first words
in_read_run _ _ first words = false

abbrev pub in_write_run : Mem → Place → ℕ → ℕ → Bool
in_write_run Sram (S j) first words = is_within j first words
in_write_run Sdram (SD j) first words = is_within j first words
in_write_run Scratch (S j) first words = is_within j first words
in_write_run _ _ first words = false

abbrev pub is_read_through : Option ℕ → Place → Bool
is_read_through None at = false
is_read_through (Some r) at = same_place at (L r)

abbrev pub is_operand_at : Option ℕ → Place → Place → Bool
is_operand_at l (A k) at = same_place (A k) at
is_operand_at l (B k) at = same_place (B k) at || same_place at (A 15)
is_operand_at l (L k) at = same_place (L k) at || same_place at (A 15)
is_operand_at l (LD k) at = same_place (LD k) at || same_place at (A 15)
is_operand_at l (S k) at = false
is_operand_at l (SD k) at = false
is_operand_at l (Slot k) at = same_place at (A 15) || is_read_through l at

abbrev pub is_address_at : Place → Place → Bool
is_address_at (A k) at = same_place (A k) at
is_address_at (B k) at = same_place (B k) at
is_address_at (L k) at = same_place at (A 15)
is_address_at (LD k) at = same_place at (A 15)
is_address_at (S k) at = false
is_address_at (SD k) at = false
is_address_at (Slot k) at = same_place at (A 15)

abbrev pub is_first : Mem → ℕ → ℕ → Bool
is_first Sram n f = nat_le (f + n) 8
is_first Sdram n f = nat_le (f + n) 8 && ((f % 2) == 0)
is_first Scratch n f = nat_le (f + n) 8

-- ---- uses

-- the uses that the serves are for
abbrev pub found : List Label → Plan → List Use
found labels p = map (found_use labels) p.serves

abbrev pub is_of : ℕ → Use → Bool
is_of x u = nat_eq u.value x

abbrev pub used : List Use → ℕ → Bool
used us x = list_any (is_of x) us

-- a use of a value that is served from a read register
abbrev pub is_kept : Plan → ℕ → Use → Bool
is_kept p x u = nat_eq u.value x && is_read_register (served p u).from

abbrev pub stays : List Use → Plan → ℕ → Bool
stays us p x = list_any (is_kept p x) us

abbrev pub is_early_of : Plan → ℕ → Use → Bool
is_early_of p x u = nat_eq u.value x && is_early p u

abbrev pub is_word_at : Plan → ℕ → Place → Use → Bool
is_word_at p x q u = is_early_of p x u && same_place q (word_register p u)

-- the place next in a list is this word's, and then the others'
abbrev pub next_fits : Place → List Place → (List Place → Bool) → Bool
next_fits w [] others = false
next_fits w (q ∷ qs) others = same_place q w && others qs

-- places are the registers of the early uses of a value among these, in order
abbrev pub words_fit : Plan → ℕ → List Place → List Use → Bool
words_fit p x qs [] = length qs == 0
words_fit p x qs (u ∷ us) = if is_early_of p x u then next_fits (word_register p u) qs (λ rest. words_fit p x rest us) else words_fit p x qs us

abbrev pub role_fits : List Label → Plan → Use → Serve → Role → Bool
role_fits labels p u s Operand = is_home p u.value s.from && is_operand_at (pass p u.point).l s.from s.at
role_fits labels p u s Address = is_home p u.value s.from && is_address_at s.from s.at
role_fits labels p u s (Written m i) = same_place s.at (word_register p u) && (is_home p u.value s.from || same_place s.from s.at)
role_fits labels p u s (Argument l i) = is_home p u.value s.from && same_place s.at (home p (parameter labels l i)).defined
role_fits labels p u s (Ending i) = is_home p u.value s.from && same_place s.at (A i)

abbrev pub use_fits : List Label → Plan → Use → Bool
use_fits labels p u = role_fits labels p u (served p u) u.role

-- a use of a value that lies below a point, or, where that is asked, at it
abbrev pub is_of_below : List Label → ℕ → Bool → ℕ → Use → Bool
is_of_below labels k here x u = nat_eq u.value x && ((here && nat_eq u.point k) || (nat_lt k u.point && nat_le u.point (k + below_at labels k)))

-- ---- homes of values

abbrev pub fill_fits : ℕ → Place → ℕ → Place → Bool
fill_fits slots defined last q = nat_lt last (rank q) && (can_be_home slots q && not (same_bank q defined))

abbrev pub fills_fit : ℕ → Place → ℕ → List Place → Bool
fills_fit slots defined last [] = true
fills_fit slots defined last (q ∷ qs) = fill_fits slots defined last q && fills_fit slots defined (rank q) qs

abbrev pub copies_match : List Use → Plan → ℕ → List Place → Bool
copies_match us p x copied =
    nat_le (count_by (is_early_of p x) us) (length copied)
    && (fills_fit p.slots (home p x).defined 0 (take (length copied - count_by (is_early_of p x) us) copied)
    && words_fit p x (drop (length copied - count_by (is_early_of p x) us) copied) us)

abbrev pub copies_fit : List Use → Plan → ℕ → Bool
copies_fit us p x = ((length (home p x).copied == 0) || (used us x && not (is_slot (home p x).defined))) && copies_match us p x (home p x).copied

abbrev pub is_put_early : List Use → Plan → ℕ → Bool
is_put_early us p x = (length (home p x).copied == 0) && ((count_by (is_of x) us == 1) && list_any (is_word_at p x (home p x).defined) us)

abbrev pub is_general_home : List Use → Plan → ℕ → Bool
is_general_home us p x = can_be_home p.slots (home p x).defined && copies_fit us p x

abbrev pub has_home : Plan → ℕ → Bool
has_home p x = is_in x (map (λ h. h.var) p.homes)

abbrev pub param_fits : List Use → Plan → ℕ → Bool
param_fits us p x = has_home p x && is_general_home us p x

abbrev pub result_fits : List Use → Plan → ℕ → Bool
result_fits us p x = has_home p x && (is_general_home us p x || is_put_early us p x)

abbrev pub fetched_fits : List Use → Plan → Mem → ℕ → ℕ → ℕ → Bool
fetched_fits us p m f i x = not (used us x) || (has_home p x && (same_place (home p x).defined (read_place m (f + i)) && copies_fit us p x))

abbrev pub fetched_fit : List Use → Plan → Mem → ℕ → ℕ → List ℕ → Bool
fetched_fit us p m f i [] = true
fetched_fit us p m f i (x ∷ xs) = fetched_fits us p m f i x && fetched_fit us p m f (suc i) xs

abbrev pub origin_fits : List Use → Plan → ℕ → ℕ → ValueOrigin → Bool
origin_fits us p k x (Parameter l i) = param_fits us p x
origin_fits us p k x Result = result_fits us p x
origin_fits us p k x (Fetched m i) = fetched_fits us p m (first p k) i x

abbrev pub value_fits : List Use → Plan → Value → Bool
value_fits us p v = origin_fits us p v.point v.var v.origin

-- ---- live values

abbrev pub is_above : List Label → ℕ → ℕ → Bool
is_above labels k x = is_in x (point_at labels k).above

abbrev pub is_known : List Label → ℕ → ℕ → Bool
is_known labels k x = is_above labels k x || is_in x (place_values (place_at labels k))

abbrev pub is_before_node : List Label → Plan → ℕ → ℕ → Option Node → Bool
is_before_node labels p k x None = is_in x (place_values (place_at labels k))
is_before_node labels p k x (Some n) = is_above labels k x && list_any (is_of_below labels k true x) (found labels p)

abbrev pub is_before : List Label → Plan → ℕ → ℕ → Bool
is_before labels p k x = is_before_node labels p k x (place_node (place_at labels k))

abbrev pub is_after : List Label → Plan → ℕ → ℕ → Bool
is_after labels p k x = is_known labels k x && list_any (is_of_below labels k false x) (found labels p)

abbrev pub is_shared : Plan → ℕ → Place → Bool
is_shared p y q = is_general q && (same_place q (home p y).defined || has_place q (home p y).copied)

abbrev pub general_apart : Plan → ℕ → ℕ → Bool
general_apart p x y = not (is_shared p y (home p x).defined) && list_all (λ q. not (is_shared p y q)) (home p x).copied

abbrev pub values_apart : List Label → Plan → ℕ → ℕ → Bool
values_apart labels p x y = general_apart p x y && not (same_place (home p x).defined (home p y).defined && (stays (found labels p) p x && stays (found labels p) p y))

abbrev pub may_meet : List Label → Plan → ℕ → ℕ → ℕ → Bool
may_meet labels p k x y = nat_eq x y || (values_apart labels p x y || not (is_before labels p k y))

abbrev pub goes_through : List Use → Plan → ℕ → Option ℕ → Bool
goes_through us p x None = false
goes_through us p x (Some r) = same_place (L r) (home p x).defined && stays us p x

abbrev pub passes_by : List Label → Plan → ℕ → ℕ → Bool
passes_by labels p k x = not (goes_through (found labels p) p x (pass p k).l)

abbrev pub live_fits : List Label → Plan → ℕ → ℕ → Bool
live_fits labels p k x = not (is_before labels p k x) || (passes_by labels p k x && list_all (λ h. may_meet labels p k x h.var) p.homes)

-- ---- accesses

abbrev pub step_fits : Plan → ℕ → Step → Bool
step_fits p k (Lit x v) = true
step_fits p k (Una x op y) = true
step_fits p k (Bin x op y z) = true
step_fits p k (Clone xs y) = true
step_fits p k (Read m xs y) = is_first m (length xs) (first p k)
step_fits p k (Write m y xs) = is_first m (length xs) (first p k)

abbrev pub access_fits : Plan → ℕ → Option Node → Bool
access_fits p k (Some (Does s)) = step_fits p k s
access_fits p k _ = true

abbrev pub spares : List Label → Plan → ℕ → Mem → List ℕ → ℕ → Bool
spares labels p k m xs x =
    is_in x xs
    || (not (in_read_run m (home p x).defined (first p k) (length xs)) || not (stays (found labels p) p x && is_after labels p k x))

abbrev pub step_spares : List Label → Plan → ℕ → Step → Bool
step_spares labels p k (Lit x v) = true
step_spares labels p k (Una x op y) = true
step_spares labels p k (Bin x op y z) = true
step_spares labels p k (Clone xs y) = true
step_spares labels p k (Read m xs y) = list_all (λ h. spares labels p k m xs h.var) p.homes
step_spares labels p k (Write m y xs) = true

abbrev pub keeps_read : List Label → Plan → ℕ → Option Node → Bool
keeps_read labels p k (Some (Does s)) = step_spares labels p k s
keeps_read labels p k _ = true

-- ---- words that wait

abbrev pub waits : List Label → Plan → ℕ → Use → Bool
waits labels p k u = is_early p u && ((nat_lt k u.point && nat_le u.point (k + below_at labels k)) && is_known labels k u.value)

abbrev pub step_writes : Plan → ℕ → Place → Step → Bool
step_writes p k w (Lit x v) = false
step_writes p k w (Una x op y) = false
step_writes p k w (Bin x op y z) = false
step_writes p k w (Clone xs y) = false
step_writes p k w (Read m xs y) = false
step_writes p k w (Write m y xs) = in_write_run m w (first p k) (length xs)

abbrev pub is_written : Plan → ℕ → Option Node → Place → Bool
is_written p k (Some (Does s)) w = step_writes p k w s
is_written p k _ w = false

abbrev pub is_free : Plan → ℕ → Option Node → Place → Bool
is_free p k n w = not (has_place w (maybe S (pass p k).s)) && not (is_written p k n w)

abbrev pub is_other : List Label → Plan → ℕ → Use → Use → Bool
is_other labels p k u v = (nat_eq u.point v.point && nat_eq u.operand v.operand) || (not (same_place (word_register p u) (word_register p v)) || not (waits labels p k v))

abbrev pub word_fits : List Label → Plan → ℕ → Use → Bool
word_fits labels p k u = not (waits labels p k u) || (is_free p k (place_node (place_at labels k)) (word_register p u) && list_all (is_other labels p k u) (found labels p))

-- ---- operands and slots

abbrev pub are_different : Plan → ℕ → Bool
are_different p k = different_groups (serve p k 0).at (serve p k 1).at

abbrev pub step_operands : Plan → ℕ → Step → Bool
step_operands p k (Bin x op y z) = are_different p k
step_operands p k _ = true

abbrev pub operands_fit : Plan → ℕ → Option Node → Bool
operands_fit p k None = true
operands_fit p k (Some (Does s)) = step_operands p k s
operands_fit p k (Some (Forks c x y)) = are_different p k
operands_fit p k (Some (Ends l)) = true

-- how many uses a point has
abbrev pub uses_at : Option Node → ℕ
uses_at None = 0
uses_at (Some n) = length (node_uses n)

abbrev pub has_use : Option Node → Bool
has_use n = nat_lt 0 (uses_at n)

abbrev pub any_from_slot : Plan → ℕ → ℕ → Bool
any_from_slot p k n = any_below (λ i. is_slot (serve p k i).from) n

abbrev pub reads_slot : Plan → ℕ → Option Node → Bool
reads_slot p k n = any_from_slot p k (uses_at n)

abbrev pub reads_fit : List Label → Plan → ℕ → Option ℕ → Bool
reads_fit labels p k (Some r) = nat_lt r 8 && has_use (place_node (place_at labels k))
reads_fit labels p k None = not (reads_slot p k (place_node (place_at labels k)))

abbrev pub is_step_result : Step → Bool
is_step_result (Lit x v) = true
is_step_result (Una x op y) = true
is_step_result (Bin x op y z) = true
is_step_result _ = false

abbrev pub is_result : Option Node → Bool
is_result (Some (Does s)) = is_step_result s
is_result _ = false

abbrev pub to_slot : List Label → Plan → Bool → ℕ → Bool
to_slot labels p r x = (list_any is_slot (home p x).copied || (r && is_slot (home p x).defined)) && used (found labels p) x

abbrev pub writes_fit : List Label → Plan → ℕ → Option ℕ → Bool
writes_fit labels p k (Some r) = nat_lt r 8 && list_any (used (found labels p)) (place_values (place_at labels k))
writes_fit labels p k None = not (list_any (to_slot labels p (is_result (place_node (place_at labels k)))) (place_values (place_at labels k)))

abbrev pub passes_fit : List Label → Plan → ℕ → Bool
passes_fit labels p k = reads_fit labels p k (pass p k).l && writes_fit labels p k (pass p k).s

-- ---- a point

abbrev pub point_fits : List Label → Plan → ℕ → Bool
point_fits labels p k =
    list_all (value_fits (found labels p) p) (all_uses.place_values k (place_at labels k))
    && (access_fits p k (place_node (place_at labels k))
    && (list_all (λ h. live_fits labels p k h.var) p.homes
    && (keeps_read labels p k (place_node (place_at labels k))
    && (list_all (word_fits labels p k) (found labels p)
    && (operands_fit p k (place_node (place_at labels k))
    && passes_fit labels p k)))))

-- ---- lists

abbrev pub follows : Option ℕ → ℕ → Bool
follows None x = true
follows (Some y) x = nat_lt y x

-- numbers rise from the last one on
abbrev pub rise : Option ℕ → List ℕ → Bool
rise last [] = true
rise last (x ∷ xs) = follows last x && rise (Some x) xs

abbrev pub is_step_read : Step → Bool
is_step_read (Read m xs y) = true
is_step_read _ = false

abbrev pub is_read : Option Node → Bool
is_read (Some (Does s)) = is_step_read s
is_read _ = false

-- a value that is defined at a point wants a home
abbrev pub wants_at : List Label → Plan → ℕ → ℕ → Bool
wants_at labels p x k = is_in x (place_values (place_at labels k)) && (not (is_read (place_node (place_at labels k))) || used (found labels p) x)

abbrev pub is_wanted : List Label → Plan → ℕ → Bool
is_wanted labels p x = any_below (wants_at labels p x) (length (points labels))

abbrev pub homes_fit : List Label → Plan → Bool
homes_fit labels p = rise None (map (λ h. h.var) p.homes) && list_all (λ h. is_wanted labels p h.var) p.homes

abbrev pub is_step_access : Step → Bool
is_step_access (Read m xs y) = true
is_step_access (Write m y xs) = true
is_step_access _ = false

abbrev pub is_access : Option Node → Bool
is_access (Some (Does s)) = is_step_access s
is_access _ = false

abbrev pub next_is : ℕ → List ℕ → (List ℕ → Bool) → Bool
next_is k [] others = false
next_is k (f ∷ fs) others = nat_eq f k && others fs

-- numbers are those of the points with an access, in order
abbrev pub firsts_fit : List ℕ → ℕ → List Point → Bool
firsts_fit fs k [] = length fs == 0
firsts_fit fs k (q ∷ qs) = if is_access (place_node q.place) then next_is k fs (λ rest. firsts_fit rest (suc k) qs) else firsts_fit fs (suc k) qs

abbrev pub is_for : ℕ → ℕ → Serve → Bool
is_for k i s = nat_eq s.point k && nat_eq s.operand i

-- these are for operands of a point, from operand i on
abbrev pub are_for : ℕ → ℕ → List Serve → Bool
are_for k i [] = true
are_for k i (s ∷ ss) = is_for k i s && are_for k (suc i) ss

-- so many serves come first, one for each operand of a point
abbrev pub begins : ℕ → ℕ → List Serve → Bool
begins k n ss = nat_le n (length ss) && are_for k 0 (take n ss)

-- serves are those of the operands of points, in order
abbrev pub serves_fit : List Serve → ℕ → List Point → Bool
serves_fit ss k [] = length ss == 0
serves_fit ss k (q ∷ qs) = begins k (uses_at (place_node q.place)) ss && serves_fit (drop (uses_at (place_node q.place)) ss) (suc k) qs

abbrev pub is_there : List Label → Pass → Bool
is_there labels q = nat_lt q.point (length (points labels))

abbrev pub lists_fit : List Label → Plan → Bool
lists_fit labels p =
    nat_le p.slots 128
    && (homes_fit labels p
    && (firsts_fit (map (λ f. f.point) p.firsts) 0 (points labels)
    && (serves_fit p.serves 0 (points labels)
    && (rise None (map (λ q. q.point) p.passes) && list_all (is_there labels) p.passes))))

-- ---- the whole

abbrev pub does_fit : List Label → Plan → Bool
does_fit labels p = lists_fit labels p && (list_all (use_fits labels p) (found labels p) && all_below (point_fits labels p) (length (points labels)))
