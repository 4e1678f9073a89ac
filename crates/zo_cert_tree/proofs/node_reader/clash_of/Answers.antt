use Rattle.std.proofs.Common.{◌≡◌, ◌∷◌, ◌∙◌, sym, map, codes}
use Rattle.nv_lines.specs.Line.{parts}
use Rattle.zo_cert_tree.specs.Node.{multiplier_text}
use Rattle.zo_cert_tree.proofs.ReadMultipliers.{line_of_parts}
use Rattle.zo_cert_tree.proofs.NodeLineLemmas.{clash_parts, no_clash}
use Rattle.zo_cert_tree.proofs.node_reader.clash_of.Goals as goal

pub returns-in-Some-clause-some : goal.returns-in-Some-clause-some
returns-in-Some-clause-some c =
    let s = rw c.in-Some.is at c.in_ok-multipliers.ensures.some in
    let texts = s.spelled in
    let all : parts c.args.line.now ≡ codes "k" ∷ map multiplier_text c.in-Some.multipliers.items = cc (c.of-parts.ensures, c.if-not-next_is.ensures, texts) in
    ((s.multipliers, s.small), line_of_parts c.args.line.now _ all)

pub returns-then-not-next_is-clause-none : goal.returns-then-not-next_is-clause-none
returns-then-not-next_is-clause-none c = λ k. c.if-not-next_is.ensures (map multiplier_text k.rows) (c.of-parts.ensures ∙ clash_parts _ k)

pub returns-in-None-clause-none : goal.returns-in-None-clause-none
returns-in-None-clause-none c = no_clash _ _ (sym c.of-parts.ensures ∙ c.if-not-next_is.ensures) (rw c.in-None.is at c.in_ok-multipliers.ensures.none)
