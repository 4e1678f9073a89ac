-- What the lines of the bank program say of the columns that are on, in counts and truth values.
use Rattle.std.specs.Prelude.{◌≡◌, ◌≢◌, ℕ, ◌+◌, ◌≤◌, ◌<◌, nat_lt, nat_le, Bool, true, false, ◌&&◌, ◌||◌, List, [], ◌∷◌, ◌++◌, map, filter, length, Some, Contains, All, ⊤, slice_get}
use Rattle.std.specs.List.{flat_map, list_any}
use Rattle.nv_base.specs.declared.term.Mem.{Mem}
use Rattle.nv_base.specs.Sets.{is_in}
use Rattle.ssu_ir.specs.Tree.{Label}
use Rattle.ssu_ir.specs.Points.{Point, points}
use Rattle.place_plan.specs.Uses.{Access, accesses, reads_at, writes_at, Fetched, Value, values, place_values, Written, Argument, Use, uses, place_roles, uses_of, is_used}
use Rattle.place_plan.specs.Fits.{is_result, parameter, point_values, same_use}
use Rattle.zo_model.specs.Program.{cost_where}
use Rattle.bank_prog_form.specs.declared.column.Bank.{Bank}
use Rattle.bank_prog_form.specs.declared.column.Bank.TheVariants.{A, B, M, T, L, A15, W}
use Rattle.bank_prog_form.specs.declared.column.Column.{Column}
use Rattle.bank_prog_form.specs.declared.column.Column.TheVariants.{Def, DirectWrite, Fill, Stay, EarlyWrite, First, Serve, ReadVia, WriteVia}
use Rattle.bank_prog_form.specs.Columns.{columns, origin_of, is_fetched, eight, may_begin, services}
use Rattle.bank_prog_form.specs.Rows.{def, dir, srv, early, is_parameter, is_written, is_sdram, two_operands}
use Rattle.bank_prog.specs.Meaning.{Chosen}

-- a column that isn't there is off
abbrev pub OnlyThere : List Label → Chosen → Type 0
OnlyThere labels on = (c : Column) → on c ≡ true → Contains (columns labels) c

-- how many of these columns are on
abbrev pub count : Chosen → List Column → ℕ
count on [] = 0
count on (c ∷ cs) = cost_where (on c) 1 + count on cs

-- one of the eight columns is on
abbrev pub some_on : Chosen → (ℕ → Column) → Bool
some_on on column = list_any (λ r. on (column r)) eight

-- ---- values

-- a value has a home in a bank: it is first put there, or copied
abbrev pub in_bank : Chosen → Bank → ℕ → Bool
in_bank on h x = on (Def x h) || on (Fill x h)

-- it is first put into a register
abbrev pub in_register : Chosen → ℕ → Bool
in_register on x = on (Def x A) || on (Def x B)

pub record ValueFacts (labels : List Label) (on : Chosen) (v : Value) : Type 0 where
  pub origin : origin_of labels v.var ≡ v.origin
  -- where it is first put
  pub parameter : is_parameter v.origin ≡ true → count on (def v.var) ≡ 1
  pub result : is_result v.origin ≡ true → count on (def v.var) + count on (flat_map dir (uses_of labels v.var)) ≡ 1
  pub read : is_fetched v.origin ≡ true → (h : Bank) → on (Def v.var h) ≡ false
  -- its copies, and the words of it that are copied early
  pub once : (h : Bank) → on (Def v.var h) ≡ true → on (Fill v.var h) ≡ false
  pub filled : is_fetched v.origin ≡ false → (h : Bank) → on (Fill v.var h) ≡ true → in_register on v.var ≡ true
  pub eared : is_fetched v.origin ≡ false → (u : Use) → Contains (uses_of labels v.var) u → (f : ℕ) → on (EarlyWrite u.point u.operand f) ≡ true → in_register on v.var ≡ true
  pub unused : is_used labels v.var ≡ false → (h : Bank) → on (Fill v.var h) ≡ false
  -- it stays in its read register where its read begins there
  pub stays : (f : ℕ) → on (Stay v.var f) ≡ true → on (First v.point f) ≡ true
  -- where it comes to a slot, some register is named
  pub slot_copied : on (Fill v.var M) ≡ true → some_on on (WriteVia v.point) ≡ true
  pub slot_defined : is_used labels v.var ≡ true → is_result v.origin ≡ true → on (Def v.var M) ≡ true → some_on on (WriteVia v.point) ≡ true

-- ---- accesses

pub record AccessFacts (on : Chosen) (a : Access) : Type 0 where
  pub once : count on (map (First a.point) eight) ≡ 1
  pub begins : (f : ℕ) → on (First a.point f) ≡ true → may_begin a.mem a.words f ≡ true

-- ---- uses

-- its word is put early, where the write begins at f
abbrev pub early_in : Chosen → Use → ℕ → Bool
early_in on u f = on (DirectWrite u.point u.operand f) || on (EarlyWrite u.point u.operand f)

-- the value is in the bank from which it is served
abbrev pub IsIn : List Label → Chosen → ℕ → Bank → Type 0
IsIn labels on x A = in_bank on A x ≡ true
IsIn labels on x B = in_bank on B x ≡ true
IsIn labels on x M = in_bank on M x ≡ true
IsIn labels on x T = (is_fetched (origin_of labels x) ≡ true) × (some_on on (Stay x) ≡ true)
IsIn labels on x L = ⊤
IsIn labels on x A15 = ⊤
IsIn labels on x W = ⊤

pub record UseFacts (labels : List Label) (on : Chosen) (u : Use) : Type 0 where
  -- one way to serve it is chosen, or its word is put early
  pub once : count on (srv u) + count on (early u) ≡ 1
  pub served : (h p : Bank) → on (Serve u.point u.operand h p) ≡ true → IsIn labels on u.value h
  pub services : (h p : Bank) → on (Serve u.point u.operand h p) ≡ true → (c : ℕ) × Contains (services u.role) (record { from = h; at = p; cost = c })
  pub argument : (l i : ℕ) → u.role ≡ Argument l i → (h p : Bank) → on (Serve u.point u.operand h p) ≡ true → on (Def (parameter labels l i) p) ≡ true
  pub from_slot : (p : Bank) → on (Serve u.point u.operand M p) ≡ true → some_on on (ReadVia u.point) ≡ true
  pub written : (f : ℕ) → early_in on u f ≡ true → is_written u.role ≡ true
  pub begins : (f : ℕ) → early_in on u f ≡ true → on (First u.point f) ≡ true
  pub of_result : (f : ℕ) → on (DirectWrite u.point u.operand f) ≡ true → is_result (origin_of labels u.value) ≡ true

-- ---- points

-- a value stays in read register r, of SDRAM or of the other memories
pub record StaysIn (labels : List Label) (on : Chosen) (x : ℕ) (sdram : Bool) (r : ℕ) : Type 0 where
  pub mem : Mem
  pub word : ℕ
  pub first : ℕ
  pub origin : origin_of labels x ≡ Fetched mem word
  pub side : is_sdram mem ≡ sdram
  pub chosen : on (Stay x first) ≡ true
  pub register : r ≡ first + word

-- a word is put early into write register r
pub record WaitsIn (on : Chosen) (u : Use) (sdram : Bool) (r : ℕ) : Type 0 where
  pub mem : Mem
  pub word : ℕ
  pub first : ℕ
  pub role : u.role ≡ Written mem word
  pub side : is_sdram mem ≡ sdram
  pub chosen : early_in on u first ≡ true
  pub register : r ≡ first + word

-- the run of an access covers register r
pub record Covers (on : Chosen) (a : Access) (r : ℕ) : Type 0 where
  pub first : ℕ
  pub chosen : on (First a.point first) ≡ true
  pub low : first ≤ r
  pub high : r < first + a.words

-- a word that is put early waits at a point: its value is defined at it or above, and it is written below
abbrev pub waits_at : ℕ → Point → Use → Bool
waits_at k q u = is_in u.value (q.above ++ point_values k q) && (nat_lt k u.point && nat_le u.point (k + q.below))

-- the groups of registers from which the two operands of an instruction come
abbrev pub same_group : Bank → Bank → Bool
same_group A A = true
same_group A A15 = true
same_group A15 A = true
same_group A15 A15 = true
same_group B B = true
same_group L L = true
same_group L T = true
same_group T L = true
same_group T T = true
same_group _ _ = false

pub record PointFacts (labels : List Label) (slots : ℕ) (on : Chosen) (k : ℕ) (q : Point) : Type 0 where
  -- how many live values have a home in a bank
  pub room_a : length (filter (in_bank on A) q.before) ≤ 15
  pub room_b : length (filter (in_bank on B) q.before) ≤ 15
  pub room_m : length (filter (in_bank on M) q.before) ≤ slots
  pub operands : two_operands (place_roles q.place) ≡ true → (h p i j : Bank) → on (Serve k 0 h p) ≡ true → on (Serve k 1 i j) ≡ true → same_group p j ≡ false
  -- read registers
  pub stay_apart : (x y : ℕ) → is_in x q.before ≡ true → is_in y q.before ≡ true → x ≢ y → (sdram : Bool) (r : ℕ) → StaysIn labels on x sdram r → StaysIn labels on y sdram r → ⊥
  pub stay_through : (x : ℕ) → is_in x q.before ≡ true → (r : ℕ) → StaysIn labels on x false r → on (ReadVia k r) ≡ false
  pub stay_filled : (a : Access) → Contains (reads_at k q.place) a → (x : ℕ) → is_in x q.after ≡ true → is_in x (point_values k q) ≡ false → (r : ℕ) → StaysIn labels on x (is_sdram a.mem) r → Covers on a r → ⊥
  -- write registers
  pub wait_apart : (u v : Use) → Contains (uses labels) u → Contains (uses labels) v → waits_at k q u ≡ true → waits_at k q v ≡ true → same_use u v ≡ false → (sdram : Bool) (r : ℕ) → WaitsIn on u sdram r → WaitsIn on v sdram r → ⊥
  pub wait_through : (u : Use) → Contains (uses labels) u → waits_at k q u ≡ true → (r : ℕ) → WaitsIn on u false r → on (WriteVia k r) ≡ false
  pub wait_written : (a : Access) → Contains (writes_at k q.place) a → (u : Use) → Contains (uses labels) u → waits_at k q u ≡ true → (r : ℕ) → WaitsIn on u (is_sdram a.mem) r → Covers on a r → ⊥
  -- registers are named for slots only where there is a use, or a used value
  pub read_pass : (r : ℕ) → on (ReadVia k r) ≡ true → 1 ≤ length q.uses
  pub write_pass : (r : ℕ) → on (WriteVia k r) ≡ true → list_any (λ v. is_used labels v.var) (place_values k q.place) ≡ true

-- ---- all

pub record Facts (labels : List Label) (slots : ℕ) (on : Chosen) : Type 0 where
  pub values : All (ValueFacts labels on) (values labels)
  pub accesses : All (AccessFacts on) (accesses labels)
  pub uses : All (UseFacts labels on) (uses labels)
  pub points : (k : ℕ) (q : Point) → slice_get (points labels) k ≡ Some q → PointFacts labels slots on k q
