-- When a placement fits a form: each value has a home, each access its registers, each use is served from a home of its value, and no
-- register or slot is wanted twice at a point.
use Rattle.std.specs.Prelude.{◌≡◌, ◌≢◌, ℕ, zero, suc, ◌+◌, ◌*◌, ◌≤◌, ◌<◌, ◌⊎◌, nat_eq, nat_lt, nat_le, Bool, true, false, not, is_some, ◌&&◌, ◌||◌, List, [], ◌∷◌, ◌++◌, map, filter, length, Option, Some, None, All, ⊤, slice_get}
use Rattle.std.specs.List.{list_any}
use Rattle.nv_base.specs.declared.term.Mem.{Mem}
use Rattle.nv_base.specs.declared.term.Mem.TheVariants.{Sram, Sdram, Scratch}
use Rattle.nv_base.specs.Sets.{is_in, Within}
use Rattle.ssu_ir.specs.Tree.{Label}
use Rattle.ssu_ir.specs.Points.{Point, points}
use Rattle.place_plan.specs.declared.place.Place.{Place}
use Rattle.place_plan.specs.declared.place.Place.TheVariants.{A, B, L, LD, S, SD, Slot}
use Rattle.place_plan.specs.declared.place.Serve.{Serve}
use Rattle.place_plan.specs.Places.{same_place}
use Rattle.place_plan.specs.Plan.{Home, Plan, home, first, serve, pass}
use Rattle.place_plan.specs.Uses.{Access, accesses, ValueOrigin, Parameter, Result, Fetched, Value, values, place_values, reads_at, writes_at, Role, Operand, Address, Written, Argument, Ending, Use, uses, uses_at, place_roles, uses_of, is_used}

-- ---- places

-- the register into which word i of a read comes, and from which word i of a write goes, where the run of words begins at f
abbrev pub read_place : Mem → ℕ → Place
read_place Sram k = L k
read_place Sdram k = LD k
read_place Scratch k = L k

abbrev pub write_place : Mem → ℕ → Place
write_place Sram k = S k
write_place Sdram k = SD k
write_place Scratch k = S k

-- a general register that can be a home, or a slot
abbrev pub IsGeneral : Plan → Place → Type 0
IsGeneral p (A k) = k < 15
IsGeneral p (B k) = k < 15
IsGeneral p (Slot k) = k < p.slots
IsGeneral p (L k) = ⊥
IsGeneral p (LD k) = ⊥
IsGeneral p (S k) = ⊥
IsGeneral p (SD k) = ⊥

abbrev pub is_general : Place → Bool
is_general (A k) = true
is_general (B k) = true
is_general (Slot k) = true
is_general _ = false

abbrev pub is_slot : Place → Bool
is_slot (Slot k) = true
is_slot _ = false

abbrev pub is_write_register : Place → Bool
is_write_register (S k) = true
is_write_register (SD k) = true
is_write_register _ = false

abbrev pub is_read_register : Place → Bool
is_read_register (L k) = true
is_read_register (LD k) = true
is_read_register _ = false

abbrev pub same_bank : Place → Place → Bool
same_bank (A i) (A j) = true
same_bank (B i) (B j) = true
same_bank (Slot i) (Slot j) = true
same_bank _ _ = false

-- ---- accesses

-- the words of an access have registers of their bank, for SDRAM from an even one on
abbrev pub IsFirst : Mem → ℕ → ℕ → Type 0
IsFirst Sram n f = f + n ≤ 8
IsFirst Sdram n f = (f + n ≤ 8) × ((half : ℕ) × (f ≡ 2 * half))
IsFirst Scratch n f = f + n ≤ 8

-- ---- words that are put early, right after the definition of their value, into their write registers

abbrev pub served : Plan → Use → Serve
served p u = serve p u.point u.operand

abbrev pub role_register : Plan → ℕ → Role → Place
role_register p k (Written m i) = write_place m (first p k + i)
role_register p k Operand = Slot 0
role_register p k Address = Slot 0
role_register p k (Argument l i) = Slot 0
role_register p k (Ending i) = Slot 0

-- the write register of a written word
abbrev pub word_register : Plan → Use → Place
word_register p u = role_register p u.point u.role

abbrev pub is_early : Plan → Use → Bool
is_early p u = is_write_register (served p u).from

abbrev pub early_uses : List Label → Plan → ℕ → List Use
early_uses labels p x = filter (is_early p) (uses_of labels x)

-- ---- homes of values

abbrev pub maybe : (ℕ → Place) → Option ℕ → List Place
maybe place (Some k) = place k ∷ []
maybe place None = []

-- copies into general registers and slots: at most one of each bank, and none of the bank that has the value already
pub record AreFills (p : Plan) (defined : Place) (fills : List Place) : Type 0 where
  pub a : Option ℕ
  pub b : Option ℕ
  pub slot : Option ℕ
  pub in_order : fills ≡ maybe A a ++ (maybe B b ++ maybe Slot slot)
  pub general : All (IsGeneral p) fills
  pub elsewhere : All (λ q. same_bank q defined ≡ false) fills

-- after its definition a value is copied to its further homes, and then into the write registers of its early words
pub record AreCopies (labels : List Label) (p : Plan) (x : ℕ) (h : Home) : Type 0 where
  pub fills : List Place
  pub are : AreFills p h.defined fills
  pub copied : h.copied ≡ fills ++ map (word_register p) (early_uses labels p x)
  pub unused : is_used labels x ≡ false → h.copied ≡ []
  pub from_slot : is_slot h.defined ≡ true → h.copied ≡ []

-- a result is put into a general register or a slot, or, where its one use is a written word, into that word's write register
pub record IsPutEarly (labels : List Label) (p : Plan) (x : ℕ) (h : Home) : Type 0 where
  pub use_ : Use
  pub one : uses_of labels x ≡ use_ ∷ []
  pub early : is_early p use_ ≡ true
  pub at : h.defined ≡ word_register p use_
  pub copied : h.copied ≡ []

abbrev pub IsHome : List Label → Plan → Value → Home → ValueOrigin → Type 0
IsHome labels p v h (Parameter l i) = IsGeneral p h.defined × AreCopies labels p v.var h
IsHome labels p v h Result = (IsGeneral p h.defined × AreCopies labels p v.var h) ⊎ IsPutEarly labels p v.var h
IsHome labels p v h (Fetched m i) = is_used labels v.var ≡ true → (h.defined ≡ read_place m (first p v.point + i)) × AreCopies labels p v.var h

abbrev pub IsHoused : List Label → Plan → Value → Type 0
IsHoused labels p v = IsHome labels p v (home p v.var) v.origin

-- every value has a home but a read one without a use
abbrev pub is_sort_homed : Bool → ValueOrigin → Bool
is_sort_homed used (Parameter l i) = true
is_sort_homed used Result = true
is_sort_homed used (Fetched m i) = used

abbrev pub wants_home : List Label → Value → Bool
wants_home labels v = is_sort_homed (is_used labels v.var) v.origin

abbrev pub Rises : List ℕ → Type 0
Rises [] = ⊤
Rises (x ∷ []) = ⊤
Rises (x ∷ y ∷ ys) = (x < y) × Rises (y ∷ ys)

-- the homes are those of the values that want one, by rising variable
pub record AreHomes (labels : List Label) (p : Plan) : Type 0 where
  pub rise : Rises (map (λ h. h.var) p.homes)
  pub each : Within (map (λ v. v.var) (filter (wants_home labels) (values labels))) (map (λ h. h.var) p.homes)
  pub only : Within (map (λ h. h.var) p.homes) (map (λ v. v.var) (filter (wants_home labels) (values labels)))

-- ---- uses

-- a home of a value that lasts: where it is defined or copied to, but no write register
abbrev pub is_home : Plan → ℕ → Place → Bool
is_home p x q = not (is_write_register q) && (same_place q (home p x).defined || list_any (same_place q) (home p x).copied)

-- where an operand of an instruction is fetched: in place in a register, a slot by way of a read register or of the compiler's own
-- register, and any register but of the first bank by way of that too
pub data IsOperandAt (l : Option ℕ) : Place → Place → Type 0 where
  in_a : {k : ℕ} → IsOperandAt l (A k) (A k)
  in_b : {k : ℕ} → IsOperandAt l (B k) (B k)
  in_l : {k : ℕ} → IsOperandAt l (L k) (L k)
  in_ld : {k : ℕ} → IsOperandAt l (LD k) (LD k)
  read_slot : {k r : ℕ} → l ≡ Some r → IsOperandAt l (Slot k) (L r)
  from_slot : {k : ℕ} → IsOperandAt l (Slot k) (A 15)
  from_b : {k : ℕ} → IsOperandAt l (B k) (A 15)
  from_l : {k : ℕ} → IsOperandAt l (L k) (A 15)
  from_ld : {k : ℕ} → IsOperandAt l (LD k) (A 15)

pub data IsAddressAt : Place → Place → Type 0 where
  in_a : {k : ℕ} → IsAddressAt (A k) (A k)
  in_b : {k : ℕ} → IsAddressAt (B k) (B k)
  from_l : {k : ℕ} → IsAddressAt (L k) (A 15)
  from_ld : {k : ℕ} → IsAddressAt (LD k) (A 15)
  from_slot : {k : ℕ} → IsAddressAt (Slot k) (A 15)

-- the parameter of this number of a label
abbrev pub param_at : Option ℕ → ℕ
param_at (Some x) = x
param_at None = 0

abbrev pub label_param : Option Label → ℕ → ℕ
label_param (Some l) i = param_at (slice_get l.params i)
label_param None i = 0

abbrev pub parameter : List Label → ℕ → ℕ → ℕ
parameter labels l i = label_param (slice_get labels l) i

-- where a use wants its word
abbrev pub IsServedAt : List Label → Plan → Use → Serve → Role → Type 0
IsServedAt labels p u s Operand = (is_home p u.value s.from ≡ true) × IsOperandAt (pass p u.point).l s.from s.at
IsServedAt labels p u s Address = (is_home p u.value s.from ≡ true) × IsAddressAt s.from s.at
IsServedAt labels p u s (Written m i) = (s.at ≡ word_register p u) × ((is_home p u.value s.from ≡ true) ⊎ (s.from ≡ s.at))
IsServedAt labels p u s (Argument l i) = (is_home p u.value s.from ≡ true) × (s.at ≡ (home p (parameter labels l i)).defined)
IsServedAt labels p u s (Ending i) = (is_home p u.value s.from ≡ true) × (s.at ≡ A i)

abbrev pub IsServed : List Label → Plan → Use → Type 0
IsServed labels p u = IsServedAt labels p u (served p u) u.role

-- a read value stays in its read register where a use of it is served from there
abbrev pub stays : List Label → Plan → ℕ → Bool
stays labels p x = list_any (λ u. is_read_register (served p u).from) (uses_of labels x)

-- ---- what no two may have

-- the general registers and slots of a value's home
abbrev pub general_places : Plan → ℕ → List Place
general_places p x = filter is_general ((home p x).defined ∷ (home p x).copied)

-- the read register in which a value stays
abbrev pub kept_register : List Label → Plan → ℕ → Bool → List Place
kept_register labels p x true = (home p x).defined ∷ []
kept_register labels p x false = []

abbrev pub read_places : List Label → Plan → ℕ → List Place
read_places labels p x = kept_register labels p x (stays labels p x)

abbrev pub has_place : Place → List Place → Bool
has_place q qs = list_any (same_place q) qs

abbrev pub none_shared : List Place → List Place → Bool
none_shared [] rs = true
none_shared (q ∷ qs) rs = not (has_place q rs) && none_shared qs rs

-- the words that wait in their write registers after a point of this number, which has so many points below: those of values that are
-- defined at it or above, put early, and written below
abbrev pub is_waiting : List ℕ → ℕ → ℕ → Plan → Use → Bool
is_waiting defined k below p u = is_early p u && (is_in u.value defined && (nat_lt k u.point && nat_le u.point (k + below)))

abbrev pub same_use : Use → Use → Bool
same_use u v = nat_eq u.point v.point && nat_eq u.operand v.operand

-- the registers of an access at a point
abbrev pub run_of : (ℕ → Place) → ℕ → ℕ → List Place
run_of place f zero = []
run_of place f (suc n) = place f ∷ run_of place (suc f) n

-- two operands of one instruction come from different groups of registers: those of the first bank, of the second, and those read into
abbrev pub different_groups : Place → Place → Bool
different_groups (A i) (A j) = false
different_groups (B i) (B j) = false
different_groups q r = not (is_read_register q && is_read_register r)

-- a register of the machine's eight, where one is named
abbrev pub IsEighth : Option ℕ → Type 0
IsEighth (Some r) = r < 8
IsEighth None = ⊤

-- no two live values at a point share a general register, a slot or a read register in which they stay, nor does a slot come
-- through such a read register
pub record KeepsHeld (labels : List Label) (p : Plan) (k : ℕ) (q : Point) : Type 0 where
  pub general : (x y : ℕ) → is_in x q.before ≡ true → is_in y q.before ≡ true → x ≢ y → none_shared (general_places p x) (general_places p y) ≡ true
  pub read : (x y : ℕ) → is_in x q.before ≡ true → is_in y q.before ≡ true → x ≢ y → none_shared (read_places labels p x) (read_places labels p y) ≡ true
  pub read_through : (x : ℕ) → is_in x q.before ≡ true → none_shared (maybe L (pass p k).l) (read_places labels p x) ≡ true

-- the values that are defined at a point
abbrev pub point_values : ℕ → Point → List ℕ
point_values k q = map (λ v. v.var) (place_values k q.place)

-- a read fills no register in which another value stays that is held after it
abbrev pub KeepsRead : List Label → Plan → Point → Access → Type 0
KeepsRead labels p q a =
    (x : ℕ) → is_in x q.after ≡ true → is_in x (point_values a.point q) ≡ false
    → none_shared (run_of (read_place a.mem) (first p a.point) a.words) (read_places labels p x) ≡ true

-- a use whose word waits after a point
pub record Waits (labels : List Label) (p : Plan) (k : ℕ) (q : Point) (u : Use) : Type 0 where
  pub there : (i : ℕ) × (slice_get (uses labels) i ≡ Some u)
  pub waiting : is_waiting (q.above ++ point_values k q) k q.below p u ≡ true

-- the words that wait have different registers, which neither a slot goes through nor a write here uses
pub record KeepsWaiting (labels : List Label) (p : Plan) (k : ℕ) (q : Point) : Type 0 where
  pub apart : (u v : Use) → Waits labels p k q u → Waits labels p k q v → same_use u v ≡ false → word_register p u ≢ word_register p v
  pub read_through : (u : Use) → Waits labels p k q u → has_place (word_register p u) (maybe S (pass p k).s) ≡ false
  pub written : (u : Use) → Waits labels p k q u → All (λ a. has_place (word_register p u) (run_of (write_place a.mem) (first p k) a.words) ≡ false) (writes_at k q.place)

-- the two operands of an instruction are fetched from different groups
abbrev pub AreApart : List Role → Plan → ℕ → Type 0
AreApart (Operand ∷ Operand ∷ rs) p k = different_groups (serve p k 0).at (serve p k 1).at ≡ true
AreApart _ p k = ⊤

abbrev pub is_result : ValueOrigin → Bool
is_result (Parameter l i) = false
is_result Result = true
is_result (Fetched m i) = false

-- a register for slots that are read is named where a slot is read, and only where there is a use; one for slots that are written where
-- a value that is defined here is copied to a slot, or a result comes into one, and only where a value that is defined here is used
abbrev pub comes_to_slot : List Label → Plan → Value → Bool
comes_to_slot labels p v = is_used labels v.var && (list_any is_slot (home p v.var).copied || (is_result v.origin && is_slot (home p v.var).defined))

pub record PassesSlots (labels : List Label) (p : Plan) (k : ℕ) (q : Point) : Type 0 where
  pub read : IsEighth (pass p k).l
  pub written : IsEighth (pass p k).s
  pub reads : list_any (λ u. is_slot (served p u).from) (uses_at k 0 q.uses (place_roles q.place)) ≡ true → is_some (pass p k).l ≡ true
  pub reads_only : is_some (pass p k).l ≡ true → 1 ≤ length q.uses
  pub writes : list_any (comes_to_slot labels p) (place_values k q.place) ≡ true → is_some (pass p k).s ≡ true
  pub writes_only : is_some (pass p k).s ≡ true → list_any (λ v. is_used labels v.var) (place_values k q.place) ≡ true

-- what is asked at one point
pub record FitsAt (labels : List Label) (p : Plan) (k : ℕ) (q : Point) : Type 0 where
  pub held : KeepsHeld labels p k q
  pub reads : All (KeepsRead labels p q) (reads_at k q.place)
  pub waiting : KeepsWaiting labels p k q
  pub operands : AreApart (place_roles q.place) p k
  pub passes : PassesSlots labels p k q

-- the passes are at points of the form, by rising point
pub record ArePasses (labels : List Label) (p : Plan) : Type 0 where
  pub rise : Rises (map (λ q. q.point) p.passes)
  pub there : All (λ q. q.point < length (points labels)) p.passes

-- the point and the number of an operand
abbrev pub at_operand : Serve → ℕ × ℕ
at_operand s = (s.point, s.operand)

abbrev pub use_operand : Use → ℕ × ℕ
use_operand u = (u.point, u.operand)

pub record Fits (labels : List Label) (p : Plan) : Type 0 where
  pub slots : p.slots ≤ 128
  pub homes : AreHomes labels p
  pub firsts : map (λ f. f.point) p.firsts ≡ map (λ a. a.point) (accesses labels)
  pub serves : map at_operand p.serves ≡ map use_operand (uses labels)
  pub passes : ArePasses labels p
  pub registers : All (λ a. IsFirst a.mem a.words (first p a.point)) (accesses labels)
  pub values : All (IsHoused labels p) (values labels)
  pub uses : All (IsServed labels p) (uses labels)
  pub points : (k : ℕ) (q : Point) → slice_get (points labels) k ≡ Some q → FitsAt labels p k q
