use Rattle.std.proofs.Common.{◌∙◌, ◌+◌, [], ◌∷◌, ap, sym, subst, map, if◌then◌else◌}
use Rattle.std.proofs.lemmas.List.{length-map}
use Rattle.std.proofs.lemmas.Bool.{not-true}
use Rattle.nv_flatten_values.specs.inner.Well.{AreCalled}
use Rattle.nv_flatten_values.proofs.WellNames.{number-called, none-first}
use Rattle.std.specs.Prelude.{slice_get}
use Rattle.nv_flatten_values.proofs.Naming.{Added, name-at, names-added, added-extends}
use Rattle.nv_flatten_values.proofs.names.Names.number.Goals as goal

pub returns-in_err-number-clause-extends : goal.returns-in_err-number-clause-extends
returns-in_err-number-clause-extends c =
    added-extends c.args.self.now (map (λ y. y.now) c.insert_full.new.self.keys) c.args.x.now (subst (λ old. Added old (map (λ y. y.now) c.insert_full.new.self.keys) c.args.x.now) c.self.view_is (names-added _ c.self.inside.entries.keys c.insert_full.new.self.keys c.args.x c.in_ok-added.ensures.keys))

pub returns-clause-number : goal.returns-clause-number
returns-clause-number c =
    let s = c.in_ok-added.ensures.stored in
    ap (slice_get (map (λ y. y.now) c.insert_full.new.self.keys)) c.in_ok-number.ensures ∙ name-at c.insert_full.new.self.keys c.in_ok-added.added.0 s.0 c.args.x.now s.1 s.2

pub returns-clause-extends : goal.returns-clause-extends
returns-clause-extends c =
    added-extends c.args.self.now (map (λ y. y.now) c.insert_full.new.self.keys) c.args.x.now (subst (λ old. Added old (map (λ y. y.now) c.insert_full.new.self.keys) c.args.x.now) c.self.view_is (names-added _ c.self.inside.entries.keys c.insert_full.new.self.keys c.args.x c.in_ok-added.ensures.keys))

pub returns-clause-called : goal.returns-clause-called
returns-clause-called c =
    subst (λ old. AreCalled old (map (λ y. y.now) c.insert_full.new.self.keys) (c.in_ok-number.number ∷ [])) c.self.view_is
    (number-called (map (λ y. y.now) c.self.inside.entries.keys) (map (λ y. y.now) c.insert_full.new.self.keys) c.in_ok-number.number c.in_ok-added.added.1
    (length-map c.insert_full.new.self.keys _ ∙ c.in_ok-added.ensures.len ∙ ap (λ n. n + (if c.in_ok-added.added.1 then 1 else 0)) (sym (length-map c.self.inside.entries.keys _)))
    (λ e. c.in_ok-number.ensures ∙ c.in_ok-added.ensures.index ∙ none-first _ c.self.inside.entries.keys (not-true _ (sym c.in_ok-added.ensures.added ∙ e)) ∙ sym (length-map c.self.inside.entries.keys _)))
