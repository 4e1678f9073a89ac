use Rattle.std.proofs.Common.{◌≡◌, ◌+◌, ◌-◌, suc, ap, arith}
use Rattle.nv_base.specs.declared.term.Atom.TheVariants.{Var}
use Rattle.nv_ast.specs.Types.{WordTy, word_parts}
use Rattle.nv_flatten_values.specs.inner.Symbols.{Word}
use Rattle.nv_flatten_values.proofs.Listing.{numbers-turn, numbers-done, symbols-turn, symbols-done}
use Rattle.nv_flatten_values.proofs.forms.tuple_of_words.Goals as goal

pub loop-preserved : goal.loop-preserved
loop-preserved c =
    let left : c.args.n - c.loop.counter ≡ suc (c.args.n - (c.loop.counter + 1)) = omega arith in
    let more : c.args.n - c.loop.counter ≡ 1 + (c.args.n - (c.loop.counter + 1)) = omega arith in
    record {
      symbols = symbols-turn c.loop.next c.add_variable.new.next WordTy (word_parts (c.args.n - (c.loop.counter + 1))) (word_parts (c.args.n - c.loop.counter)) c.loop.symbols.items c.push.new.self.items _ _ (ap word_parts left) (ap (λ x. Word (Var x)) c.in-Ok.ensures.number) c.in-Ok.ensures.next c.in-Ok-push.ensures.items c.loop.invariant.symbols;
      next = omega (arith, c.in-Ok.ensures.next, c.loop.invariant.next);
      made = numbers-turn c.loop.made.items c.add_variable.new.made.items _ c.loop.next c.add_variable.new.next 1 (c.args.n - (c.loop.counter + 1)) (c.args.n - c.loop.counter) c.in-Ok.ensures.made c.in-Ok.ensures.next more c.loop.invariant.made;
    }

pub returns-clause-symbols : goal.returns-clause-symbols
returns-clause-symbols c =
    let none : c.args.n - c.loop.counter ≡ 0 = omega arith in
    symbols-done c.loop.next (word_parts (c.args.n - c.loop.counter)) c.loop.symbols.items _ (ap word_parts none) c.loop.invariant.symbols

pub returns-clause-made : goal.returns-clause-made
returns-clause-made c =
    let none : c.args.n - c.loop.counter ≡ 0 = omega arith in
    numbers-done c.loop.made.items _ c.loop.next (c.args.n - c.loop.counter) none c.loop.invariant.made
