use Rattle.std.proofs.Common.{◌≡◌, ◌+◌, ◌/◌, ◌++◌, subst, arith, IfOk, OnOk}
use Rattle.nv_ast.specs.Tree.{NamedLayout}
use Rattle.nv_ast.specs.Outline.{outline, size}
use Rattle.nv_ast.specs.Types.{words, words_ty}
use Rattle.nv_meaning_values.specs.inner.TableView.{declared_in}
use Rattle.nv_flatten_values.specs.inner.Symbols.{fresh, numbers_from}
use Rattle.nv_flatten_values.specs.inner.View.{view}
use Rattle.nv_flatten_values.proofs.forms.of_packed.Goals as goal

pub returns-clause-symbol : goal.returns-clause-symbol
returns-clause-symbol c =
    let k : (c.size_of-bits.result + 31) / 32 ≡ (size (outline (declared_in c.args.t.now).layouts (NamedLayout c.args.x.now)) + 31) / 32 = omega (arith, c.size_of-bits.ensures) in
    subst (λ m. IfOk c.of_words.result (λ s. view s ≡ fresh c.args.next.now (words_ty m))) k c.of_words.ensures.symbol

pub returns-clause-next : goal.returns-clause-next
returns-clause-next c =
    let k : (c.size_of-bits.result + 31) / 32 ≡ (size (outline (declared_in c.args.t.now).layouts (NamedLayout c.args.x.now)) + 31) / 32 = omega (arith, c.size_of-bits.ensures) in
    subst (λ m. OnOk c.of_words.result (c.of_words.new.next ≡ c.args.next.now + words (words_ty m))) k c.of_words.ensures.next

pub returns-clause-made : goal.returns-clause-made
returns-clause-made c =
    let k : (c.size_of-bits.result + 31) / 32 ≡ (size (outline (declared_in c.args.t.now).layouts (NamedLayout c.args.x.now)) + 31) / 32 = omega (arith, c.size_of-bits.ensures) in
    subst (λ m. OnOk c.of_words.result (c.of_words.new.made.items ≡ c.args.made.now.items ++ numbers_from c.args.next.now (words (words_ty m)))) k c.of_words.ensures.made
