use Rattle.std.proofs.Common.{◌≡◌, ℕ, ◌≤◌, ◌<◌, ◌+◌, ◌*◌, sym, subst, arith}
use Rattle.nv_ast.specs.Sizes.{expanded_size}
use Rattle.nv_ast.specs.TypedView.{typed_program}
use Rattle.nv_ast.proofs.RoomInSize.{room_bounded}
use Rattle.nv_ast.proofs.typed.Typed.room.Goals as goal

not_still : (n e : ℕ) → n ≡ e → n ≤ 4096 → e < 4294967295
not_still n e is small = omega (arith, is, small)

pub returns-clause-bounded : goal.returns-clause-bounded
returns-clause-bounded c =
    let t = c.args.self.now in
    let p = typed_program t in
    subst (λ n. n ≤ 5 * expanded_size p + 8) (sym t.roomy) (room_bounded p t.typed (not_still t.expanded (expanded_size p) t.sized t.small))
