use Rattle.std.proofs.Common.{◌∙◌, sym, ap, option_map}
use Rattle.nv_flatten_values.specs.inner.Code.{form_or_unit}
use Rattle.nv_flatten_values.specs.inner.Symbols.{Tuple, fresh}
use Rattle.nv_flatten_values.specs.inner.View.{view, list_symbols}
use Rattle.nv_flatten_values.proofs.Rows.{tuple_view}
use Rattle.nv_flatten.proofs.made_values.renewed_form.Goals as goal

pub returns-in-None-clause-symbol : goal.returns-in-None-clause-symbol
returns-in-None-clause-symbol c = tuple_view c.new.result ∙ ap (λ l. Tuple (list_symbols l)) c.new.ensures.items ∙ ap (λ o. fresh c.args.next.now (form_or_unit (option_map view o))) (sym c.in-None.is)
