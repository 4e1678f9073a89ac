use Rattle.std.proofs.Common.{◌∙◌, ap, sym, Some}
use Rattle.std.specs.Prelude.{option_map}
use Rattle.nv_ast.specs.Types.{type_of}
use Rattle.nv_ast.specs.TypeView.{type_tree}
use Rattle.nv_flatten_values.specs.inner.Symbols.{form}
use Rattle.nv_flatten_values.specs.inner.WholeView.{whole_in}
use Rattle.nv_flatten_values.proofs.Fresh.{fresh-form}
use Rattle.nv_flatten_values.proofs.source.Source.result_form.Goals as goal

pub returns-in_ok-symbol-in-Some : goal.returns-in_ok-symbol-in-Some
returns-in_ok-symbol-in-Some c =
    ap (λ t. Some t) (ap form c.in_ok-symbol-in-Some.ensures.symbol ∙ fresh-form 0 (type_of (whole_in c.args.self.now).declared.layouts (type_tree c.in-Some.g.now.result)))
    ∙ sym (ap (option_map (λ g. type_of (whole_in c.args.self.now).declared.layouts g.result)) c.in-Some.ensures)
