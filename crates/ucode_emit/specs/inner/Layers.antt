-- The two layers on which the proof of the code stands: what instructions do to words in places, and that what has to stand where does so
-- from each point to the next. Each is a record of what its part proves.
use Rattle.std.specs.Prelude.{◌≡◌, ℕ, suc, ◌+◌, ◌<◌, ◌≤◌, true, false, List, [], ◌∷◌, ◌++◌, length, Some, None, All, ⊤, slice_get}
use Rattle.nv_base.specs.declared.term.Mem.{Mem}
use Rattle.nv_base.specs.declared.term.Una.{Una as Unary}
use Rattle.nv_base.specs.declared.term.Bin.{Bin as Binary}
use Rattle.nv_base.specs.declared.term.Bin.TheVariants.{Sub}
use Rattle.nv_base.specs.declared.term.Cmp.{Cmp}
use Rattle.nv_base.specs.declared.outcome.Outcome.TheVariants as outcome
use Rattle.nv_base.specs.Memories.{Memories, HasSizes, IsSourceStretch, fetched, stored}
use Rattle.nv_base.specs.Words.{Env, HasCount, una_word, bin_word, compares, shifted_left, assigned, assigned_all}
use Rattle.nv_base.specs.World.{World, begun, over, ended, wrote}
use Rattle.uc_isa.specs.declared.instruction.Instr.{Instr}
use Rattle.uc_isa.specs.declared.instruction.Instr.TheVariants as instr
use Rattle.uc_isa.specs.declared.instruction.Dst.TheVariants as dst
use Rattle.uc_isa.specs.declared.instruction.Cond.TheVariants.{Always}
use Rattle.uc_isa.specs.Registers.{failing}
use Rattle.uc_isa.specs.Straight.{Stands as InCode}
use Rattle.uc_isa.specs.Agrees.{IsStart}
use Rattle.uc_isa.specs.Pieces.{Moment}
use Rattle.uc_isa.specs.declared.engine.Engine.{Engine}
use Rattle.uc_isa.specs.Entry.{IsEntry}
use Rattle.ssu_ir.specs.Tree.{Lit, Una, Bin, Clone, Read, Write, Jump, Halt, Tree, Do, If, End, Label, Ends}
use Rattle.ssu_ir.specs.Points.{Names, own, names_after, Point, points, tree_points, nodes, point}
use Rattle.ssu_ir.specs.Single.{single}
use Rattle.place_plan.specs.declared.place.Place.{Place}
use Rattle.place_plan.specs.declared.place.Place.TheVariants.{A, B}
use Rattle.place_plan.specs.Plan.{Plan, first, pass}
use Rattle.place_plan.specs.Fits.{Fits, write_place}
use Rattle.ucode_emit.specs.Moves.{Move, Words, put, one_by_one, HaveOwnTargets, SpareTemporary}
use Rattle.ucode_emit.specs.Pieces.{operands, operand_at, words, result_place, to_slot, copies, all_copies, single_moves, un_op, source, target, address_of, entry_point, served_moves, entry_moves, parallel_moves}
use Rattle.ucode_emit.specs.Emits.{IsSequence}
use Rattle.ucode_emit.specs.inner.Ready.{Ready, Entered, Begun}
use Rattle.ucode_emit.specs.inner.Machine.{IsReadable, IsWritable, AreDirect, Stands, move_instrs, filled, Led, Over, word_at}

-- ---- the machine

-- a general register, but the spill base
abbrev pub IsAddress : Place → Type 0
IsAddress (A k) = k < 16
IsAddress (B k) = k < 15
IsAddress _ = ⊥

-- where a run begins
abbrev pub at_start : Engine → Memories → Moment
at_start e p = record { engine = e; packet = p; writes = [] }

pub record MachineLayer : Type 0 where
  pub moves : (code : List Instr) (base at slots : ℕ) (ms : List Move) (e : Words) (w : World) (m : Moment)
      → slots ≤ 128 → AreDirect slots ms → InCode code at (move_instrs ms) → Stands base at e w m → Led code base (length ms) m (at + length ms) (one_by_one ms e) w
  pub literal : (code : List Instr) (base at v s : ℕ) (d : Place) (e : Words) (w : World) (m : Moment)
      → IsWritable d → InCode code at (instr.Immed (target d) v s ∷ []) → Stands base at e w m → Led code base 1 m (at + 1) (put e d (shifted_left s v)) w
  pub unary : (code : List Instr) (base at : ℕ) (op : Unary) (d x : Place) (e : Words) (w : World) (m : Moment)
      → HasCount op → IsWritable d → IsReadable x → InCode code at (instr.Un (target d) (un_op op) (source x) ∷ []) → Stands base at e w m
      → Led code base 1 m (at + 1) (put e d (una_word op (e x))) w
  pub binary : (code : List Instr) (base at : ℕ) (op : Binary) (d x y : Place) (e : Words) (w : World) (m : Moment)
      → IsWritable d → IsReadable x → IsReadable y → InCode code at (instr.Alu (target d) op (source x) (source y) ∷ []) → Stands base at e w m
      → Led code base 1 m (at + 1) (put e d (bin_word op (e x) (e y))) w
  pub read : (code : List Instr) (base at : ℕ) (mem : Mem) (f n : ℕ) (x : Place) (ws : List ℕ) (e : Words) (w : World) (m : Moment)
      → IsAddress x → f + n ≤ 8 → IsSourceStretch mem (e x) n → InCode code at (instr.Read mem f n (address_of x) 0 ∷ []) → Stands base at e w m
      → HasSizes w.packet → fetched mem (e x) n w.packet ≡ Some ws → Led code base 1 m (at + 1) (filled e mem f ws) w
  pub read_fault : (code : List Instr) (base at : ℕ) (mem : Mem) (f n : ℕ) (x : Place) (e : Words) (w : World) (m : Moment)
      → IsAddress x → f + n ≤ 8 → IsSourceStretch mem (e x) n → InCode code at (instr.Read mem f n (address_of x) 0 ∷ []) → Stands base at e w m
      → HasSizes w.packet → fetched mem (e x) n w.packet ≡ None → Over code base 1 m (over (outcome.Fault mem (e x)) w)
  pub write : (code : List Instr) (base at : ℕ) (mem : Mem) (f : ℕ) (x : Place) (ws : List ℕ) (q : Memories) (e : Words) (w : World) (m : Moment)
      → IsAddress x → f + length ws ≤ 8 → IsSourceStretch mem (e x) (length ws) → InCode code at (instr.Write mem f (length ws) (address_of x) 0 ∷ []) → Stands base at e w m
      → ((i v : ℕ) → slice_get ws i ≡ Some v → e (write_place mem (f + i)) ≡ v)
      → HasSizes w.packet → stored mem (e x) ws w.packet ≡ Some q → Led code base 1 m (at + 1) e (wrote mem (e x) ws q w)
  pub write_fault : (code : List Instr) (base at : ℕ) (mem : Mem) (f : ℕ) (x : Place) (ws : List ℕ) (e : Words) (w : World) (m : Moment)
      → IsAddress x → f + length ws ≤ 8 → IsSourceStretch mem (e x) (length ws) → InCode code at (instr.Write mem f (length ws) (address_of x) 0 ∷ []) → Stands base at e w m
      → ((i v : ℕ) → slice_get ws i ≡ Some v → e (write_place mem (f + i)) ≡ v)
      → HasSizes w.packet → stored mem (e x) ws w.packet ≡ None → Over code base 1 m (over (outcome.Fault mem (e x)) w)
  pub holds : (code : List Instr) (base at to : ℕ) (c : Cmp) (x y : Place) (e : Words) (w : World) (m : Moment)
      → IsReadable x → IsReadable y → InCode code at (instr.Alu dst.Nowhere Sub (source x) (source y) ∷ instr.Br (failing c) to ∷ []) → Stands base at e w m
      → compares c (e x) (e y) ≡ true → Led code base 2 m (at + 2) e w
  pub fails : (code : List Instr) (base at to : ℕ) (c : Cmp) (x y : Place) (e : Words) (w : World) (m : Moment)
      → IsReadable x → IsReadable y → InCode code at (instr.Alu dst.Nowhere Sub (source x) (source y) ∷ instr.Br (failing c) to ∷ []) → Stands base at e w m
      → compares c (e x) (e y) ≡ false → Led code base 2 m to e w
  pub jump : (code : List Instr) (base at to : ℕ) (e : Words) (w : World) (m : Moment)
      → InCode code at (instr.Br Always to ∷ []) → Stands base at e w m → Led code base 1 m to e w
  pub halt : (code : List Instr) (base at k : ℕ) (ws : List ℕ) (e : Words) (w : World) (m : Moment)
      → length ws ≤ 8 → InCode code at (instr.Halt k (length ws) ∷ []) → Stands base at e w m
      → ((i v : ℕ) → slice_get ws i ≡ Some v → e (A i) ≡ v) → Over code base 1 m (over (ended k ws) w)
  pub starts : (params base : ℕ) (args : List ℕ) (p : Memories) (e : Engine) → params ≤ 8 → IsStart params args p base → IsEntry args base e
      → Stands base 0 (word_at base (at_start e p)) (begun p) (at_start e p) × Begun args (word_at base (at_start e p))

-- ---- what has to stand where

-- a form, and a placement that fits it
pub record Placed (labels : List Label) (p : Plan) : Type 0 where
  pub single : single labels ≡ true
  pub fits : Fits labels p

abbrev pub first_of : List Point → Point
first_of (q ∷ qs) = q
first_of [] = point own (Ends (Halt 0 [])) [] [] 0 [] []

-- the first point of a tree
abbrev pub root_point : Names → List ℕ → Tree → Point
root_point of above t = first_of (tree_points of above t)

-- the points of a tree are those of the form from a number on
pub record PointsAt (labels : List Label) (k : ℕ) (of : Names) (above : List ℕ) (t : Tree) : Type 0 where
  pub each : (i : ℕ) (q : Point) → slice_get (tree_points of above t) i ≡ Some q → slice_get (points labels) (k + i) ≡ Some q

-- the values of a point's operands
abbrev pub OperandsAre : Plan → ℕ → ℕ → List ℕ → Env → Words → Type 0
OperandsAre p k i [] env e = ⊤
OperandsAre p k i (x ∷ xs) env e = (e (operand_at p k i) ≡ env x) × OperandsAre p k (suc i) xs env e

-- the moves of a piece are single instructions, and after them this holds
abbrev pub HoldsAfterMoves : ℕ → List Move → Words → (Words → Type 0) → Type 0
HoldsAfterMoves slots ms e holds = AreDirect slots ms × holds (one_by_one ms e)

pub record OperandsReady (labels : List Label) (p : Plan) (k : ℕ) (q : Point) (xs : List ℕ) (env : Env) (e : Words) : Type 0 where
  pub values : OperandsAre p k 0 xs env e
  pub ready : Ready labels p k q env e

-- what is asked of the steps from one point to the next. `env` gives each value its word, `of` the value of each name
pub record ReadyLayer (labels : List Label) (p : Plan) : Type 0 where
  pub one_operand : (k : ℕ) (of : Names) (above : List ℕ) (x y : ℕ) (op : Unary) (t : Tree) (env : Env) (e : Words) → PointsAt labels k of above (Do (Una x op y) t)
      → let q = root_point of above (Do (Una x op y) t) in Ready labels p k q env e → HoldsAfterMoves p.slots (operands p k 1) e (λ e'. OperandsReady labels p k q (of y ∷ []) env e') × IsReadable (operand_at p k 0)
  pub two_operands : (k : ℕ) (of : Names) (above : List ℕ) (x y z : ℕ) (op : Binary) (t : Tree) (env : Env) (e : Words) → PointsAt labels k of above (Do (Bin x op y z) t)
      → let q = root_point of above (Do (Bin x op y z) t) in Ready labels p k q env e
      → HoldsAfterMoves p.slots (operands p k 2) e (λ e'. OperandsReady labels p k q (of y ∷ of z ∷ []) env e') × IsReadable (operand_at p k 0) × IsReadable (operand_at p k 1)
  pub compared : (k : ℕ) (of : Names) (above : List ℕ) (c : Cmp) (y z : ℕ) (t u : Tree) (env : Env) (e : Words) → PointsAt labels k of above (If c y z t u)
      → let q = root_point of above (If c y z t u) in Ready labels p k q env e
      → HoldsAfterMoves p.slots (operands p k 2) e (λ e'. OperandsReady labels p k q (of y ∷ of z ∷ []) env e') × IsReadable (operand_at p k 0) × IsReadable (operand_at p k 1)
  pub read_address : (k : ℕ) (of : Names) (above : List ℕ) (m : Mem) (xs : List ℕ) (y : ℕ) (t : Tree) (env : Env) (e : Words) → PointsAt labels k of above (Do (Read m xs y) t)
      → let q = root_point of above (Do (Read m xs y) t) in Ready labels p k q env e
      → HoldsAfterMoves p.slots (operands p k 1) e (λ e'. OperandsReady labels p k q (of y ∷ []) env e') × IsAddress (operand_at p k 0) × (first p k + length xs ≤ 8)
  pub written : (k : ℕ) (of : Names) (above : List ℕ) (m : Mem) (xs : List ℕ) (y : ℕ) (t : Tree) (env : Env) (e : Words) → PointsAt labels k of above (Do (Write m y xs) t)
      → let q = root_point of above (Do (Write m y xs) t) in Ready labels p k q env e
      → HoldsAfterMoves p.slots (operands p k 1 ++ words p k 1 (length xs)) e (λ e'. OperandsReady labels p k q (of y ∷ []) env e'
      × ((i x : ℕ) → slice_get xs i ≡ Some x → e' (write_place m (first p k + i)) ≡ env (of x))) × IsAddress (operand_at p k 0) × (first p k + length xs ≤ 8)
  -- a step that defines one value
  pub literal : (k : ℕ) (of : Names) (above : List ℕ) (x v w : ℕ) (t : Tree) (env : Env) (e : Words) → PointsAt labels k of above (Do (Lit x v) t)
      → Ready labels p k (root_point of above (Do (Lit x v) t)) env e
      → IsWritable (result_place p k x) × HoldsAfterMoves p.slots (to_slot p k x ++ copies p k x) (put e (result_place p k x) w) (Ready labels p (suc k) (root_point of (above ++ x ∷ []) t) (assigned env x w))
  pub unary : (k : ℕ) (of : Names) (above : List ℕ) (x y w : ℕ) (op : Unary) (t : Tree) (env : Env) (e : Words) → PointsAt labels k of above (Do (Una x op y) t)
      → Ready labels p k (root_point of above (Do (Una x op y) t)) env e
      → IsWritable (result_place p k x) × HoldsAfterMoves p.slots (to_slot p k x ++ copies p k x) (put e (result_place p k x) w) (Ready labels p (suc k) (root_point of (above ++ x ∷ []) t) (assigned env x w))
  pub binary : (k : ℕ) (of : Names) (above : List ℕ) (x y z w : ℕ) (op : Binary) (t : Tree) (env : Env) (e : Words) → PointsAt labels k of above (Do (Bin x op y z) t)
      → Ready labels p k (root_point of above (Do (Bin x op y z) t)) env e
      → IsWritable (result_place p k x) × HoldsAfterMoves p.slots (to_slot p k x ++ copies p k x) (put e (result_place p k x) w) (Ready labels p (suc k) (root_point of (above ++ x ∷ []) t) (assigned env x w))
  pub read : (k : ℕ) (of : Names) (above : List ℕ) (m : Mem) (xs ws : List ℕ) (y : ℕ) (t : Tree) (env : Env) (e : Words) → PointsAt labels k of above (Do (Read m xs y) t) → length ws ≡ length xs
      → Ready labels p k (root_point of above (Do (Read m xs y) t)) env e
      → HoldsAfterMoves p.slots (all_copies p k xs) (filled e m (first p k) ws) (Ready labels p (suc k) (root_point of (above ++ xs) t) (assigned_all env xs ws))
  pub write : (k : ℕ) (of : Names) (above : List ℕ) (m : Mem) (xs : List ℕ) (y : ℕ) (t : Tree) (env : Env) (e : Words) → PointsAt labels k of above (Do (Write m y xs) t)
      → Ready labels p k (root_point of above (Do (Write m y xs) t)) env e → Ready labels p (suc k) (root_point of (above ++ []) t) env e
  pub clone : (k : ℕ) (of : Names) (above : List ℕ) (xs : List ℕ) (y : ℕ) (t : Tree) (env : Env) (e : Words) → PointsAt labels k of above (Do (Clone xs y) t)
      → Ready labels p k (root_point of above (Do (Clone xs y) t)) env e → Ready labels p (suc k) (root_point (names_after of (Clone xs y)) (above ++ []) t) env e
  pub first_arm : (k : ℕ) (of : Names) (above : List ℕ) (c : Cmp) (y z : ℕ) (t u : Tree) (env : Env) (e : Words) → PointsAt labels k of above (If c y z t u)
      → Ready labels p k (root_point of above (If c y z t u)) env e → Ready labels p (suc k) (root_point of above t) env e
  pub second_arm : (k : ℕ) (of : Names) (above : List ℕ) (c : Cmp) (y z : ℕ) (t u : Tree) (env : Env) (e : Words) → PointsAt labels k of above (If c y z t u)
      → Ready labels p k (root_point of above (If c y z t u)) env e → Ready labels p (suc k + nodes t) (root_point of above u) env e
  -- a jump brings each word to its parameter, whose words `new` has
  pub jump : (k : ℕ) (of : Names) (above : List ℕ) (l : ℕ) (xs : List ℕ) (to : Label) (ms : List Move) (env new : Env) (e : Words) → PointsAt labels k of above (End (Jump l xs)) → slice_get labels l ≡ Some to
      → ((i x y : ℕ) → slice_get xs i ≡ Some x → slice_get to.params i ≡ Some y → new y ≡ env (of x))
      → IsSequence (served_moves p k 0 (length xs)) ms → Ready labels p k (root_point of above (End (Jump l xs))) env e
      → HoldsAfterMoves p.slots (single_moves (pass p k).l ms) e (Entered p to.params new)
  pub halt : (k : ℕ) (of : Names) (above : List ℕ) (c : ℕ) (xs : List ℕ) (ms : List Move) (env : Env) (e : Words) → PointsAt labels k of above (End (Halt c xs))
      → IsSequence (served_moves p k 0 (length xs)) ms → Ready labels p k (root_point of above (End (Halt c xs))) env e
      → HoldsAfterMoves p.slots (single_moves (pass p k).l ms) e (λ e'. (i x : ℕ) → slice_get xs i ≡ Some x → e' (A i) ≡ env (of x))
  -- where a label begins
  pub entry : (l : ℕ) (it : Label) (env : Env) (e : Words) → slice_get labels l ≡ Some it → PointsAt labels (suc (entry_point labels l)) own it.params it.body
      → Entered p it.params env e → HoldsAfterMoves p.slots (all_copies p (entry_point labels l) it.params) e (Ready labels p (suc (entry_point labels l)) (root_point own it.params it.body) env)
  -- before the run
  pub begins : (it : Label) (ms : List Move) (args : List ℕ) (env : Env) (e : Words) → slice_get labels 0 ≡ Some it → length args ≡ length it.params
      → ((i x w : ℕ) → slice_get it.params i ≡ Some x → slice_get args i ≡ Some w → env x ≡ w)
      → IsSequence (entry_moves p 0 it.params) ms → Begun args e → HoldsAfterMoves p.slots (single_moves None ms) e (Entered p it.params env)
  -- the parallel moves can be put in sequence
  pub sequenced : All (λ moves. HaveOwnTargets moves × SpareTemporary moves) (parallel_moves p labels)
