use Rattle.std.proofs.Common.{◌≡◌, ◌+◌, ◌-◌, ◌++◌, suc, sym, refl, subst, length, arith, IfOk, OnOk}
use Rattle.nv_ast.specs.Types.{total_words}
use Rattle.nv_flatten_values.specs.inner.Symbols.{all_fresh, numbers_from}
use Rattle.nv_flatten_values.specs.inner.View.{list_symbols}
use Rattle.nv_flatten_values.specs.inner.WholeView.{whole_in}
use Rattle.nv_flatten_values.proofs.Sources.{raised-at}
use Rattle.nv_flatten_values.proofs.source.Source.raised_values.Goals as goal

pub returns-clause-values : goal.returns-clause-values
returns-clause-values c =
    let k : c.args.number ≡ suc (c.args.number - 1) = omega arith in
    let n : c.len.result ≡ length c.args.self.now.raised.items = omega (arith, c.len.ensures, c.args.self.now.raised.ok.0) in
    let e = raised-at (whole_in c.args.self.now) c.args.self.now.raised.items c.args.number (c.args.number - 1) c.index.result.now c.deref.result.now refl k (omega arith) c.index.ensures c.deref.ensures.value in
    subst (λ us. IfOk c.of_types.result (λ ss. list_symbols ss.items ≡ all_fresh c.args.next.now us)) (sym e) c.of_types.ensures.symbols

pub returns-clause-next : goal.returns-clause-next
returns-clause-next c =
    let k : c.args.number ≡ suc (c.args.number - 1) = omega arith in
    let n : c.len.result ≡ length c.args.self.now.raised.items = omega (arith, c.len.ensures, c.args.self.now.raised.ok.0) in
    let e = raised-at (whole_in c.args.self.now) c.args.self.now.raised.items c.args.number (c.args.number - 1) c.index.result.now c.deref.result.now refl k (omega arith) c.index.ensures c.deref.ensures.value in
    subst (λ us. OnOk c.of_types.result (c.of_types.new.next ≡ c.args.next.now + total_words us)) (sym e) c.of_types.ensures.next

pub returns-clause-made : goal.returns-clause-made
returns-clause-made c =
    let k : c.args.number ≡ suc (c.args.number - 1) = omega arith in
    let n : c.len.result ≡ length c.args.self.now.raised.items = omega (arith, c.len.ensures, c.args.self.now.raised.ok.0) in
    let e = raised-at (whole_in c.args.self.now) c.args.self.now.raised.items c.args.number (c.args.number - 1) c.index.result.now c.deref.result.now refl k (omega arith) c.index.ensures c.deref.ensures.value in
    subst (λ us. OnOk c.of_types.result (c.of_types.new.made.items ≡ c.args.made.now.items ++ numbers_from c.args.next.now (total_words us))) (sym e) c.of_types.ensures.made
