use Rattle.std.proofs.Common.{◌≡◌, ◌∙◌, ◌++◌, ◌∷◌, [], ap, None, bytes_eq}
use Rattle.std.specs.Map.{lookup}
use Rattle.indexmap.specs.IndexMap.{insert_entry}
use Rattle.indexmap.proofs.CallerLemmas.{insert_entry-new}
use Rattle.nv_ast.specs.Tests.{look_up}
use Rattle.nv_types_table.specs.inner.Named.{named}
use Rattle.nv_types_table.proofs.Entries.{look_up-named, named-append}
use Rattle.nv_types_scopes.proofs.Entered.{named-insert}
use Rattle.nv_types_scopes.proofs.declared.Declared.add.Goals as goal

pub returns-clause-new_name : goal.returns-clause-new_name
returns-clause-new_name g c = λ new.
    let es = c.self.inside.entries.entries in
    let absent : lookup (λ k. bytes_eq c.args.name.now k.now) c.self.inside.entries.entries ≡ None = look_up-named c.args.name.now es ∙ ap (look_up c.args.name.now) c.self.view_is ∙ new in
    ap named (c.in_ok-insert.ensures.entries ∙ insert_entry-new _ c.self.inside.entries c.args.name c.args.value absent)
    ∙ named-append es ((c.args.name, c.args.value) ∷ [])
    ∙ ap (λ l. l ++ (c.args.name.now, c.args.value) ∷ []) c.self.view_is

pub returns-clause-entries : goal.returns-clause-entries
returns-clause-entries g c =
    ap named c.in_ok-insert.ensures.entries
    ∙ named-insert c.self.inside.entries.entries c.args.name c.args.value
    ∙ ap (λ l. insert_entry bytes_eq l c.args.name.now c.args.value) c.self.view_is
