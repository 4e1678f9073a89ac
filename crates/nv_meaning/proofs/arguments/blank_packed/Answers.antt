use Rattle.std.proofs.Common.{◌≡◌, ◌+◌, ◌/◌, subst, arith, IfOk}
use Rattle.nv_ast.specs.Tree.{NamedLayout}
use Rattle.nv_ast.specs.Outline.{outline, size}
use Rattle.nv_ast.specs.Types.{words_ty}
use Rattle.nv_meaning.specs.inner.Blanks.{blank}
use Rattle.nv_meaning_values.specs.inner.TableView.{declared_in}
use Rattle.nv_meaning_values.specs.inner.View.{view}
use Rattle.nv_meaning.proofs.arguments.blank_packed.Goals as goal

pub returns : goal.returns
returns c =
    let o = outline (declared_in c.args.t.now).layouts (NamedLayout c.args.x.now) in
    let k : (c.size_of-bits.result + 31) / 32 ≡ (size o + 31) / 32 = omega (arith, c.size_of-bits.ensures) in
    subst (λ m. IfOk c.blank_words.result (λ u. view u ≡ blank (words_ty m))) k c.blank_words.ensures
