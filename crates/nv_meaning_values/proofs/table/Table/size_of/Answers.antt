use Rattle.std.proofs.Common.{◌∙◌, bytes_eq}
use Rattle.std.specs.HashMap.{get_by}
use Rattle.nv_meaning_values.proofs.Sizing.{all-sizes}
use Rattle.nv_meaning_values.proofs.table.Table.size_of.Goals as goal

pub returns : goal.returns
returns c =
    let t = c.args.self.now in
    c.name_size.ensures ∙ all-sizes t.layouts.items (λ x. get_by (λ key. bytes_eq x key.now) t.layout_places) t.layouts_found c.deref.result.now (c.deref.ensures.value ∙ t.sizes_known) c.args.x.now
