use Rattle.std.proofs.Common.{◌≡◌, ◌+◌, [], get_or, drop, arith}
use Rattle.std.proofs.lemmas.List.{drop_more, drop_all}
use Rattle.nv_types_table.proofs.Growing.{Extends-trans, grows_after}
use Rattle.nv_types_table.proofs.RowMaking.{grown_step, grown_end}
use Rattle.nv_types_table.proofs.table.Table.extended.Goals as goal

pub loop-next-preserved : goal.loop-next-preserved
loop-next-preserved c =
    let a = c.args.self.now in
    let s = c.loop-next.self in
    let b = c.carry.new.self in
    let xs = c.args.behind.now in
    let i = c.loop-next.next-index in
    record {
      grows = Extends-trans a s b c.loop-next.invariant.grows c.in_ok-carry.ensures.grows;
      grown = grown_step a s b c.args.rows.items xs c.loop-next.rows.items c.carry.new.rows.items (drop i xs) (drop (i + 1) xs) c.args.last c.loop-next.last (get_or xs i 0)
          (drop_more xs i 0 (omega (arith, c.loop-next-test.true))) c.in_ok-carry.ensures.grows c.in_ok-carry.ensures.carried c.loop-next.invariant.grown;
    }

pub returns-clause-extended : goal.returns-clause-extended
returns-clause-extended c =
    let xs = c.args.behind.now in
    let i = c.loop-next.next-index in
    let none : drop i xs ≡ [] = drop_all i xs (omega (arith, c.loop-next-test.false)) in
    grown_end c.args.self.now c.loop-next.self c.hung.new.self c.args.rows.items xs c.loop-next.rows.items (drop i xs) c.args.last c.loop-next.last c.hung.result none c.hung.ensures.hung c.loop-next.invariant.grown

pub returns-clause-grows : goal.returns-clause-grows
returns-clause-grows c = grows_after c.args.self.now c.loop-next.self c.hung.new.self c.hung.result c.loop-next.invariant.grows c.hung.ensures.grows
