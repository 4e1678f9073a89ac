use Rattle.std.proofs.Common.{◌∙◌, ap}
use Rattle.nv_ast.specs.Tests.{look_up}
use Rattle.nv_types_table.proofs.Entries.{look_up-named}
use Rattle.nv_types_scopes.proofs.declared.Declared.get.Goals as goal

pub returns : goal.returns
returns g c =
    c.copied.ensures ∙ c.get.ensures.value ∙ look_up-named c.args.name.now c.self.inside.entries.entries ∙ ap (look_up c.args.name.now) c.self.view_is
