use Rattle.std.proofs.Common.{◌≡◌, ◌∙◌, [], sym}
use Rattle.std.proofs.lemmas.List.{nil_from_length}
use Rattle.nv_types_table.proofs.Growing.{Extends-trans}
use Rattle.nv_types_table.proofs.RowMaking.{hung_step, hung_end}
use Rattle.nv_types_table.proofs.table.Table.hung.Goals as goal

pub loop-before-preserved : goal.loop-before-preserved
loop-before-preserved c =
    let a = c.args.self.now in
    let s = c.loop-before.self in
    let b = c.both.new.self in
    record {
      grows = Extends-trans a s b c.loop-before.invariant.grows c.in_ok-row.ensures.grows;
      comes = hung_step a s b c.args.rows.items c.loop-before.rows.items c.pop.new.self.items c.args.last c.loop-before.row c.in-Some.before c.in_ok-row.row c.in-Some.ensures.items c.in_ok-row.ensures.grows c.in_ok-row.ensures.made c.loop-before.invariant.comes;
    }

pub returns-clause-hung : goal.returns-clause-hung
returns-clause-hung c =
    let none : c.loop-before.rows.items ≡ [] = nil_from_length c.loop-before.rows.items (sym c.loop-before.rows.ok.0 ∙ c.in_default.ensures.cases.0) in
    hung_end c.args.self.now c.loop-before.self c.args.rows.items c.loop-before.rows.items c.args.last c.loop-before.row none c.loop-before.invariant.comes
