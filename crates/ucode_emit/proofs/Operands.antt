-- The operands of operations, comparisons and reads.
use Rattle.std.proofs.Common.{◌≡◌, ℕ, ◌+◌, ◌≤◌, nat_eq, true, List, [], ◌∷◌, length}
use Rattle.std.proofs.lemmas.Bool.{or_right}
use Rattle.nv_base.specs.declared.term.Mem.{Mem}
use Rattle.nv_base.specs.declared.term.Una.{Una as Unary}
use Rattle.nv_base.specs.declared.term.Bin.{Bin as Binary}
use Rattle.nv_base.specs.declared.term.Cmp.{Cmp}
use Rattle.nv_base.specs.Words.{Env}
use Rattle.nv_base.specs.Sets.{is_in}
use Rattle.ssu_ir.specs.Tree.{Una, Bin, Read, Tree, Do, If, Label}
use Rattle.ssu_ir.specs.Points.{Names}
use Rattle.ssu_ir.proofs.Lists.{in-itself}
use Rattle.place_plan.specs.Plan.{Plan, first}
use Rattle.ucode_emit.specs.Moves.{Words}
use Rattle.ucode_emit.specs.Pieces.{operands, operand_at}
use Rattle.ucode_emit.specs.inner.Ready.{Ready}
use Rattle.ucode_emit.specs.inner.Machine.{IsReadable}
use Rattle.ucode_emit.specs.inner.Layers.{Placed, PointsAt, root_point, HoldsAfterMoves, OperandsReady, IsAddress}
use Rattle.ucode_emit.proofs.DefinitionsDirect.{access_at, first_bound}
use Rattle.ucode_emit.proofs.OperandsHomes.{here_at, uses_here}
use Rattle.ucode_emit.proofs.OperandsFetch.{fetch_operand, fetch_address, one_fetched, two_fetched}

second_in : (x y : ℕ) → is_in y (x ∷ y ∷ []) ≡ true
second_in x y = or_right (nat_eq y x) (is_in y (y ∷ [])) (in-itself y [])

pub one_operand : (labels : List Label) (p : Plan) → Placed labels p → (k : ℕ) (of : Names) (above : List ℕ) (x y : ℕ) (op : Unary) (t : Tree) (env : Env) (e : Words) → PointsAt labels k of above (Do (Una x op y) t)
    → let q = root_point of above (Do (Una x op y) t) in Ready labels p k q env e → HoldsAfterMoves p.slots (operands p k 1) e (λ e'. OperandsReady labels p k q (of y ∷ []) env e') × IsReadable (operand_at p k 0)
one_operand labels p h k of above x y op t env e a d =
    let q = root_point of above (Do (Una x op y) t) in
    let s = here_at labels p k of above (Do (Una x op y) t) h a in
    let u = uses_here labels p k q h s.at in
    one_fetched labels p k q (of y) env e h s (fetch_operand labels p k q (of y) 0 h s u.0 (in-itself (of y) [])) d

pub two_operands : (labels : List Label) (p : Plan) → Placed labels p → (k : ℕ) (of : Names) (above : List ℕ) (x y z : ℕ) (op : Binary) (t : Tree) (env : Env) (e : Words) → PointsAt labels k of above (Do (Bin x op y z) t)
    → let q = root_point of above (Do (Bin x op y z) t) in Ready labels p k q env e
    → HoldsAfterMoves p.slots (operands p k 2) e (λ e'. OperandsReady labels p k q (of y ∷ of z ∷ []) env e') × IsReadable (operand_at p k 0) × IsReadable (operand_at p k 1)
two_operands labels p h k of above x y z op t env e a d =
    let q = root_point of above (Do (Bin x op y z) t) in
    let s = here_at labels p k of above (Do (Bin x op y z) t) h a in
    let u = uses_here labels p k q h s.at in
    two_fetched labels p k q (of y) (of z) env e h s (fetch_operand labels p k q (of y) 0 h s u.0 (in-itself (of y) (of z ∷ []))) (fetch_operand labels p k q (of z) 1 h s u.1.0 (second_in (of y) (of z)))
    (h.fits.points k q s.at).operands d

pub compared : (labels : List Label) (p : Plan) → Placed labels p → (k : ℕ) (of : Names) (above : List ℕ) (c : Cmp) (y z : ℕ) (t u : Tree) (env : Env) (e : Words) → PointsAt labels k of above (If c y z t u)
    → let q = root_point of above (If c y z t u) in Ready labels p k q env e
    → HoldsAfterMoves p.slots (operands p k 2) e (λ e'. OperandsReady labels p k q (of y ∷ of z ∷ []) env e') × IsReadable (operand_at p k 0) × IsReadable (operand_at p k 1)
compared labels p h k of above c y z t u env e a d =
    let q = root_point of above (If c y z t u) in
    let s = here_at labels p k of above (If c y z t u) h a in
    let v = uses_here labels p k q h s.at in
    two_fetched labels p k q (of y) (of z) env e h s (fetch_operand labels p k q (of y) 0 h s v.0 (in-itself (of y) (of z ∷ []))) (fetch_operand labels p k q (of z) 1 h s v.1.0 (second_in (of y) (of z)))
    (h.fits.points k q s.at).operands d

pub read_address : (labels : List Label) (p : Plan) → Placed labels p → (k : ℕ) (of : Names) (above : List ℕ) (m : Mem) (xs : List ℕ) (y : ℕ) (t : Tree) (env : Env) (e : Words) → PointsAt labels k of above (Do (Read m xs y) t)
    → let q = root_point of above (Do (Read m xs y) t) in Ready labels p k q env e
    → HoldsAfterMoves p.slots (operands p k 1) e (λ e'. OperandsReady labels p k q (of y ∷ []) env e') × IsAddress (operand_at p k 0) × (first p k + length xs ≤ 8)
read_address labels p h k of above m xs y t env e a d =
    let q = root_point of above (Do (Read m xs y) t) in
    let s = here_at labels p k of above (Do (Read m xs y) t) h a in
    let u = uses_here labels p k q h s.at in
    let f = fetch_address labels p k q (of y) h s u.0 (in-itself (of y) []) in
    ((one_fetched labels p k q (of y) env e h s f.fetch d).0, f.address, first_bound m (length xs) (first p k) (access_at labels p k q h s.at).0)
