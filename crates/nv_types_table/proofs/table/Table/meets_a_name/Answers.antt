use Rattle.std.proofs.Common.{◌≡◌, sym, subst, false}
use Rattle.std.specs.Result.{IfOk}
use Rattle.nv_ast.specs.Tests.{has_twice}
use Rattle.nv_types_table.specs.inner.Store.{AreSeen}
use Rattle.nv_types_table.proofs.FieldWalks.{names_end, names_row}
use Rattle.nv_types_table.proofs.table.Table.meets_a_name.Goals as goal

pub returns-then-is_empty-clause-meets : goal.returns-then-is_empty-clause-meets
returns-then-is_empty-clause-meets c = λ xs names before h.
    subst (λ l. false ≡ has_twice l) (names_end c.args.self.now c.args.fields c.is_empty.result c.is_empty.ensures.cells c.if-is_empty.true xs names h) (sym before.once)

pub returns-then-is_empty-clause-seen : goal.returns-then-is_empty-clause-seen
returns-then-is_empty-clause-seen c = λ xs names before h e.
    subst (AreSeen c.args.self.now c.args.seen.now.keys) (names_end c.args.self.now c.args.fields c.is_empty.result c.is_empty.ensures.cells c.if-is_empty.true xs names h) before

pub returns-clause-meets : goal.returns-clause-meets
returns-clause-meets c =
    names_row c.args.self.now c.args.fields c.is_empty.result c.is_empty.ensures.cells c.if-is_empty.false c.args.seen.now.keys
    (λ l. IfOk c.meets_in.result (λ b. b ≡ has_twice l)) c.meets_in.ensures.meets

pub returns-clause-seen : goal.returns-clause-seen
returns-clause-seen c =
    names_row c.args.self.now c.args.fields c.is_empty.result c.is_empty.ensures.cells c.if-is_empty.false c.args.seen.now.keys
    (λ l. IfOk c.meets_in.result (λ b. b ≡ false → AreSeen c.args.self.now c.meets_in.new.seen.keys l)) c.meets_in.ensures.seen
