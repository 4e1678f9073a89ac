use Rattle.std.proofs.Common.{◌∙◌, nat_lt}
use Rattle.std.proofs.lemmas.Bool.{lt-ltb, le-ltb}
use Rattle.nv_ast.specs.Scope.{plain_tys}
use Rattle.nv_types_scopes.proofs.Signing.{wide_known, wide_here, wide_next, wide_last, not_wide}
use Rattle.nv_types_scopes.proofs.functions.Checker.is_wide_main.Goals as goal
use Rattle.nv_types_scopes.proofs.functions.Checker.is_wide_main.Goals.{then-facts-gt8, else-facts-gt8}

pub returns-then-facts : goal.returns-then-facts
returns-then-facts c = λ g params result.
    let a = nat_lt 8 c.known-facts.result.words in
    let b = c.known-facts.result.has_bool in
    let d = nat_lt 8 c.known-wide.result.words in
    let known = wide_known g c.known-facts.result c.known-wide.result (c.known-facts.ensures.of_parts (plain_tys g.params) params) (c.known-wide.ensures.of_type g.result result) in
    elim c.if-facts-gt8.branch [
      | then-facts-gt8 w ↦ wide_here a b d c.if-facts-gt8.value (lt-ltb 8 c.known-facts.result.words w.if-facts-gt8.true) c.if-facts.true ∙ known
      | else-facts-gt8 w ↦ wide_next a b d c.if-facts-gt8.value c.if-facts.true w.value-is ∙ known
    ]

pub returns-else-facts : goal.returns-else-facts
returns-else-facts c = λ g params result.
    let a = nat_lt 8 c.known-facts.result.words in
    let b = c.known-facts.result.has_bool in
    let d = nat_lt 8 c.known-wide.result.words in
    let known = wide_known g c.known-facts.result c.known-wide.result (c.known-facts.ensures.of_parts (plain_tys g.params) params) (c.known-wide.ensures.of_type g.result result) in
    elim c.if-facts-gt8.branch [
      | then-facts-gt8 w ↦ not_wide c.if-facts-gt8.value c.if-facts.false (w.value-is ∙ lt-ltb 8 c.known-facts.result.words w.if-facts-gt8.true)
      | else-facts-gt8 w ↦ wide_last a b d c.if-facts-gt8.value c.if-facts.false (le-ltb 8 c.known-facts.result.words w.if-facts-gt8.false) w.value-is ∙ known
    ]
