use Rattle.std.proofs.Common.{◌≡◌, ◌++◌, ℕ, map, drop, nat_eq}
use Rattle.std.specs.HashMap.{get}
use Rattle.std.specs.List.{flat_map}
use Rattle.bank_prog_form.specs.inner.Form.{known_uses, used_by}
use Rattle.bank_prog_form.proofs.tables.all_users.Given as goal
use Rattle.place_plan.specs.inner.UseViews.{use_view}

abbrev pub invariant-loop-u : goal.invariant-loop-u
invariant-loop-u l = (x : ℕ) → known_uses (get nat_eq l.users x) ++ flat_map (used_by x) (map use_view (drop l.u-index l.uses)) ≡ flat_map (used_by x) (map use_view l.uses)
