-- The rows of the bank program, over columns by name: seven families, and in a family sentence by sentence.
use Rattle.std.specs.Prelude.{ℕ, ◌+◌, ◌-◌, nat_lt, nat_le, Bool, true, false, not, ◌&&◌, List, [], ◌∷◌, ◌++◌, map, filter, ℤ, pos, neg_ℤ, if◌then◌else◌}
use Rattle.std.specs.List.{flat_map}
use Rattle.nv_base.specs.declared.term.Mem.{Mem}
use Rattle.nv_base.specs.declared.term.Mem.TheVariants.{Sram, Sdram, Scratch}
use Rattle.nv_base.specs.Sets.{is_in, without}
use Rattle.ssu_ir.specs.Tree.{Label}
use Rattle.ssu_ir.specs.Points.{Point, points}
use Rattle.place_plan.specs.Uses.{Access, accesses, reads_at, writes_at, ValueOrigin, Parameter, Result, Fetched, Value, values, place_values, Role, Operand, Written, Argument, Use, uses, place_roles, uses_of, is_used}
use Rattle.place_plan.specs.Fits.{is_result, parameter, point_values}
use Rattle.bank_prog_form.specs.declared.column.Bank.{Bank}
use Rattle.bank_prog_form.specs.declared.column.Bank.TheVariants.{A, B, M, T, L, A15, W}
use Rattle.bank_prog_form.specs.declared.column.Column.{Column}
use Rattle.bank_prog_form.specs.declared.column.Column.TheVariants.{Def, DirectWrite, Fill, Stay, EarlyWrite, First, Serve, ReadVia, WriteVia}
use Rattle.bank_prog_form.specs.Columns.{each_point, origin_of, is_fetched, eight, point_uses, place_words, role_beginnings, origin_beginnings, services}

-- ---- rows by names

-- a sum of columns by name, each with its coefficient, and how much it is at least. A column that isn't there counts for nothing
pub record Line : Type 0 where
  pub terms : List (Column × ℤ)
  pub least : ℤ

abbrev pub plus : Column → Column × ℤ
plus c = (c, pos 1)

abbrev pub minus : Column → Column × ℤ
minus c = (c, neg_ℤ (pos 1))

abbrev pub at_least : ℕ → List Column → Line
at_least n cs = record { terms = map plus cs; least = pos n }

abbrev pub at_most : ℕ → List Column → Line
at_most n cs = record { terms = map minus cs; least = neg_ℤ (pos n) }

-- the first sum is at least the second
abbrev pub covers : List Column → List Column → Line
covers cs ds = record { terms = map plus cs ++ map minus ds; least = pos 0 }

abbrev pub exactly_one : List Column → List Line
exactly_one cs = at_least 1 cs ∷ at_most 1 cs ∷ []

-- ---- sums

abbrev pub homes : List Bank
homes = A ∷ B ∷ M ∷ []

abbrev pub banks : List Bank
banks = A ∷ B ∷ M ∷ T ∷ L ∷ A15 ∷ W ∷ []

-- of a value: where it is first put; that it is in a bank; that it stays in its read register
abbrev pub def : ℕ → List Column
def x = map (Def x) homes

abbrev pub home : ℕ → Bank → List Column
home x h = Def x h ∷ Fill x h ∷ []

abbrev pub stay : ℕ → List Column
stay x = map (Stay x) eight

-- of a use: all ways to serve it; those from a bank; those at one; its word is put early
abbrev pub srv : Use → List Column
srv u = map (λ s. Serve u.point u.operand s.from s.at) (services u.role)

abbrev pub srv_from : ℕ → ℕ → Bank → List Column
srv_from k i h = map (Serve k i h) banks

abbrev pub srv_at : ℕ → ℕ → Bank → List Column
srv_at k i p = map (λ h. Serve k i h p) banks

abbrev pub dir : Use → List Column
dir u = map (DirectWrite u.point u.operand) eight

abbrev pub ear : Use → List Column
ear u = map (EarlyWrite u.point u.operand) eight

-- ---- 1. one choice

abbrev pub is_parameter : ValueOrigin → Bool
is_parameter (Parameter l i) = true
is_parameter Result = false
is_parameter (Fetched m i) = false

abbrev pub is_written : Role → Bool
is_written (Written m i) = true
is_written _ = false

-- each parameter is first put somewhere
abbrev pub parameter_choice : Value → List Line
parameter_choice v = if is_parameter v.origin then exactly_one (def v.var) else []

-- each result, where it can also be put into the write register of a use
abbrev pub result_choice : List Label → Value → List Line
result_choice labels v = if is_result v.origin then exactly_one (def v.var ++ flat_map dir (uses_of labels v.var)) else []

-- each access begins somewhere
abbrev pub access_choice : Access → List Line
access_choice a = exactly_one (map (First a.point) eight)

-- each use is served, or its word is put early
abbrev pub early : Use → List Column
early u = if is_written u.role then dir u ++ ear u else []

abbrev pub use_choice : Use → List Line
use_choice u = exactly_one (srv u ++ early u)

abbrev pub one_choice : List Label → List Line
one_choice labels =
    flat_map parameter_choice (values labels)
    ++ (flat_map (result_choice labels) (values labels)
    ++ (flat_map access_choice (accesses labels)
    ++ flat_map use_choice (uses labels)))

-- ---- 2. homes cover uses

-- a use is served from where its value is
abbrev pub served_home : Use → Bank → Line
served_home u h = covers (home u.value h) (srv_from u.point u.operand h)

abbrev pub served_stay : Use → Line
served_stay u = covers (stay u.value) (srv_from u.point u.operand T)

abbrev pub use_stay : List Label → Use → List Line
use_stay labels u = if is_fetched (origin_of labels u.value) then served_stay u ∷ [] else []

abbrev pub use_cover : List Label → Use → List Line
use_cover labels u = map (served_home u) homes ++ use_stay labels u

-- a used value that isn't read: at most one copy in a bank, and copies only where it is first put into a register
abbrev pub in_register : ℕ → List Column
in_register x = Def x A ∷ Def x B ∷ []

abbrev pub fill : ℕ → Bank → List Column
fill x h = Fill x h ∷ []

abbrev pub word_from_register : ℕ → Use → List Line
word_from_register x u = if is_written u.role then covers (in_register x) (ear u) ∷ [] else []

abbrev pub copy_lines : List Label → ℕ → List Line
copy_lines labels x =
    map (λ h. at_most 1 (home x h)) homes
    ++ (map (λ h. covers (in_register x) (fill x h)) homes
    ++ flat_map (word_from_register x) (uses_of labels x))

abbrev pub copy_cover : List Label → Value → List Line
copy_cover labels v = if is_used labels v.var && not (is_fetched v.origin) then copy_lines labels v.var else []

-- an argument is brought to where its parameter is first put
abbrev pub at_home : ℕ → Bank → List Column
at_home x h = Def x h ∷ []

abbrev pub argument_lines : List Label → ℕ → ℕ → Role → List Line
argument_lines labels k i (Argument l j) = map (λ p. covers (at_home (parameter labels l j) p) (srv_at k i p)) homes
argument_lines labels k i _ = []

abbrev pub argument_cover : List Label → Use → List Line
argument_cover labels u = argument_lines labels u.point u.operand u.role

abbrev pub homes_cover : List Label → List Line
homes_cover labels =
    flat_map (use_cover labels) (uses labels)
    ++ (flat_map (copy_cover labels) (values labels)
    ++ flat_map (argument_cover labels) (uses labels))

-- ---- 3. operand banks: the two operands of an instruction come from different groups of registers

abbrev pub two_operands : List Role → Bool
two_operands (Operand ∷ Operand ∷ rs) = true
two_operands _ = false

abbrev pub both_at : ℕ → List Bank → List Column
both_at k ps = flat_map (srv_at k 0) ps ++ flat_map (srv_at k 1) ps

abbrev pub pair_lines : ℕ → List Line
pair_lines k = at_most 1 (both_at k (A ∷ A15 ∷ [])) ∷ at_most 1 (both_at k (B ∷ [])) ∷ at_most 1 (both_at k (L ∷ T ∷ [])) ∷ []

abbrev pub operand_lines : ℕ → Point → List Line
operand_lines k q = if two_operands (place_roles q.place) then pair_lines k else []

abbrev pub operand_banks : List Label → List Line
operand_banks labels = each_point operand_lines 0 (points labels)

-- ---- 4. capacity

abbrev pub live_in : List ℕ → Bank → List Column
live_in xs h = flat_map (λ x. home x h) xs

abbrev pub room_lines : ℕ → List ℕ → List Line
room_lines slots xs = at_most 15 (live_in xs A) ∷ at_most 15 (live_in xs B) ∷ at_most slots (live_in xs M) ∷ []

abbrev pub capacity : List Label → ℕ → List Line
capacity labels slots = each_point (λ k q. room_lines slots q.before) 0 (points labels)

-- ---- 5. owners: each transfer register belongs to one

-- SDRAM has registers of its own: LD and SD. L and S serve both other memories
abbrev pub is_sdram : Mem → Bool
is_sdram Sram = false
is_sdram Sdram = true
is_sdram Scratch = false

abbrev pub same_side : Bool → Bool → Bool
same_side true d = d
same_side false d = not d

-- where a run begins whose word i has register r
abbrev pub run_at : ℕ → ℕ → List ℕ
run_at r i = if nat_le i r then (r - i) ∷ [] else []

-- values that stay in read register r
abbrev pub origin_stays : Bool → ℕ → ℕ → ValueOrigin → List Column
origin_stays sdram r x (Fetched m i) = if same_side sdram (is_sdram m) then map (Stay x) (run_at r i) else []
origin_stays sdram r x _ = []

abbrev pub stays_at : List Label → Bool → ℕ → List ℕ → List Column
stays_at labels sdram r xs = flat_map (λ x. origin_stays sdram r x (origin_of labels x)) xs

-- words that are put early into write register r
abbrev pub role_early : Bool → ℕ → ℕ → ℕ → Role → List Column
role_early sdram r k i (Written m j) = if same_side sdram (is_sdram m) then map (DirectWrite k i) (run_at r j) ++ map (EarlyWrite k i) (run_at r j) else []
role_early sdram r k i _ = []

abbrev pub early_at : Bool → ℕ → List Use → List Column
early_at sdram r us = flat_map (λ u. role_early sdram r u.point u.operand u.role) us

-- the run of an access covers r
abbrev pub covering : ℕ → Access → List Column
covering r a = map (First a.point) (filter (λ f. nat_le f r && nat_lt r (f + a.words)) eight)

abbrev pub side_covering : Bool → ℕ → Access → List Column
side_covering sdram r a = if same_side sdram (is_sdram a.mem) then covering r a else []

-- the uses whose words wait at a point: of values that are defined at it or above, below it
abbrev pub waiting : List Label → ℕ → Point → List Use
waiting labels k q = filter (λ u. is_in u.value (q.above ++ point_values k q) && (nat_lt k u.point && nat_le u.point (k + q.below))) (uses labels)

-- a read register belongs to a value that stays there, or to a slot that comes through
abbrev pub read_owners : List Label → ℕ → Point → List Line
read_owners labels k q =
    map (λ r. at_most 1 (stays_at labels false r q.before ++ ReadVia k r ∷ [])) eight
    ++ map (λ r. at_most 1 (stays_at labels true r q.before)) eight

-- a read fills no register in which another value stays
abbrev pub access_owners : List Label → List ℕ → Access → List Line
access_owners labels xs a = map (λ r. at_most 1 (stays_at labels (is_sdram a.mem) r xs ++ covering r a)) eight

abbrev pub fill_owners : List Label → ℕ → Point → List Line
fill_owners labels k q = flat_map (access_owners labels (without q.after (point_values k q))) (reads_at k q.place)

-- a write register belongs to a word that waits, to a slot that is written through it, or to the write here
abbrev pub side_owners : List Label → ℕ → Point → Bool → (ℕ → List Column) → List Line
side_owners labels k q sdram pass = map (λ r. at_most 1 (early_at sdram r (waiting labels k q) ++ (pass r ++ flat_map (side_covering sdram r) (writes_at k q.place)))) eight

abbrev pub write_owners : List Label → ℕ → Point → List Line
write_owners labels k q = side_owners labels k q false (λ r. WriteVia k r ∷ []) ++ side_owners labels k q true (λ r. [])

abbrev pub owners : List Label → List Line
owners labels =
    each_point (read_owners labels) 0 (points labels)
    ++ (each_point (fill_owners labels) 0 (points labels)
    ++ each_point (write_owners labels) 0 (points labels))

-- ---- 6. adjacency: a run begins where its words ask for it

abbrev pub stay_begins : List Label → ℕ → Value → List Line
stay_begins labels n v = if is_used labels v.var then map (λ f. covers (First v.point f ∷ []) (Stay v.var f ∷ [])) (origin_beginnings n v.origin) else []

abbrev pub word_begins : ℕ → Use → List Line
word_begins n u = map (λ f. covers (First u.point f ∷ []) (DirectWrite u.point u.operand f ∷ EarlyWrite u.point u.operand f ∷ [])) (role_beginnings n u.role)

abbrev pub begins_at : List Label → ℕ → Point → List Line
begins_at labels k q = flat_map (stay_begins labels (place_words q.place)) (place_values k q.place) ++ flat_map (word_begins (place_words q.place)) (point_uses k q)

abbrev pub adjacency : List Label → List Line
adjacency labels = each_point (begins_at labels) 0 (points labels)

-- ---- 7. passes: where a slot is read or written, some register is named

abbrev pub is_slot : Bank → Bool
is_slot M = true
is_slot _ = false

abbrev pub slot_read : Use → List Line
slot_read u = map (λ s. covers (map (ReadVia u.point) eight) (Serve u.point u.operand s.from s.at ∷ [])) (filter (λ s. is_slot s.from) (services u.role))

abbrev pub slot_written : ℕ → Column → Line
slot_written k c = covers (map (WriteVia k) eight) (c ∷ [])

abbrev pub result_written : Value → List Line
result_written v = if is_result v.origin then slot_written v.point (Def v.var M) ∷ [] else []

abbrev pub value_written : List Label → Value → List Line
value_written labels v = if is_used labels v.var then slot_written v.point (Fill v.var M) ∷ result_written v else []

abbrev pub passes : List Label → List Line
passes labels = flat_map slot_read (uses labels) ++ flat_map (value_written labels) (values labels)

-- ---- all

abbrev pub lines : List Label → ℕ → List Line
lines labels slots =
    one_choice labels
    ++ (homes_cover labels
    ++ (operand_banks labels
    ++ (capacity labels slots
    ++ (owners labels
    ++ (adjacency labels
    ++ passes labels)))))
