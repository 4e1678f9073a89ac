use Rattle.std.proofs.Common.{◌≡◌, ◌≤◌, ℕ, List, Some, take, map}
use Rattle.nv_ast.specs.Tests.{value_at}
use Rattle.nv_ast.specs.Outline.{outline, PartsOutline, no_named_outlines}
use Rattle.nv_ast.specs.Tree.{NamedLayout}
use Rattle.nv_meaning_values.specs.inner.Tables.{place_from}
use Rattle.nv_meaning_values.specs.inner.TableView.{declared_in}
use Rattle.nv_meaning_values.proofs.table.Table.layout.Given as goal

-- the layout that is looked for is the first of some name among those before
abbrev pub invariant-loop-place : goal.invariant-loop-place
invariant-loop-place l =
    (y : List ℕ) × (place_from 0 y (map (λ k. k.0.now) l.self.layouts.items) ≡ Some l.place)
    × (outline (take l.fn.limit (declared_in l.self).layouts) (NamedLayout l.fn.x) ≡ value_at (PartsOutline no_named_outlines) y (take l.before (declared_in l.self).layouts))
    × (l.before ≤ l.fn.limit)

abbrev pub decreases-loop-place : goal.decreases-loop-place
decreases-loop-place l = l.before
