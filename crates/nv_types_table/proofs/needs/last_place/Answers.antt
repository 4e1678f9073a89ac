use Rattle.std.proofs.Common.{◌≡◌, ◌∙◌, ℕ, List, ◌++◌, ap, subst}
use Rattle.nv_ast.specs.PatternView.{pattern_tree}
use Rattle.nv_ast.specs.Scope.{names_in}
use Rattle.std.specs.Borrow.{Bor}
use Rattle.nv_types_table.specs.inner.Named.{plain_names}
use Rattle.nv_types_table.specs.inner.Needs.{IsEnd}
use Rattle.nv_types_table.proofs.needs.last_place.Goals as goal

pub returns : goal.returns
returns c = λ xs first is.
    let names = names_in (pattern_tree c.args.p.now) in
    let all : plain_names c.deref.result.now ≡ names =
    ap plain_names c.deref.ensures.value ∙ c.in_ok-add_names.ensures ∙ ap (λ (l : List (Bor (List ℕ))). plain_names l ++ names) c.new-names.ensures.items
    in
    subst (λ (l : List (List ℕ)). IsEnd first xs l c.latest.result) all (c.latest.ensures xs first is)
