use Rattle.std.proofs.Common.{◌≡◌, ◌∙◌, ◌≤◌, List, ℕ, ap, sym, subst, length, arith}
use Rattle.std.proofs.lemmas.List.{take_all}
use Rattle.std.specs.Borrow.{Bor}
use Rattle.nv_ast.specs.Types.{forms_of}
use Rattle.nv_types_table.specs.inner.Named.{named}
use Rattle.nv_types_table.specs.inner.Store.{AreForms}
use Rattle.nv_types_scopes.proofs.Holding.{table_keeps}
use Rattle.nv_types_scopes.proofs.Shaping.{form_entries, form_entries_more, entries_forms}
use Rattle.nv_types_scopes.proofs.functions.Checker.forms_of.Goals as goal

pub loop-m-preserved : goal.loop-m-preserved
loop-m-preserved c = form_entries_more c.args.members.now c.loop-m.m-index c.m-item.result c.loop-m.forms.items _ c.loop-m-test.true c.m-item.is c.loop-m.invariant c.in_ok-push.ensures.items

pub returns-clause-made : goal.returns-clause-made
returns-clause-made c = λ os h.
    let past : length c.args.members.now ≤ c.loop-m.m-index = omega arith in
    let list : c.deref.result.now ≡ form_entries c.args.members.now = c.deref.ensures.value ∙ c.loop-m.invariant ∙ ap form_entries (take_all c.loop-m.m-index c.args.members.now past) in
    c.fields_of.ensures.forms (forms_of os) (subst (λ (l : List (Bor (List ℕ) × ℕ)). AreForms c.args.self.now.table (named l) (forms_of os)) (sym list) (entries_forms c.args.self.now.table c.args.members.now os h))

pub returns-clause-keeps : goal.returns-clause-keeps
returns-clause-keeps c = table_keeps c.args.self.now c.fields_of.new.self c.fields_of.result c.fields_of.ensures.grows
