use Rattle.std.proofs.Common.{◌≡◌, ◌++◌, ◌∷◌, [], length, map, sym, ap, ◌∙◌, subst, arith}
use Rattle.std.proofs.lemmas.List.{length-map, map-append, length-append}
use Rattle.std.proofs.lemmas.Result.{err_from_is_err_and}
use Rattle.zo_model.specs.inner.LineFault.{cut}
use Rattle.zo_model.proofs.LineLemmas.{no_line_other}
use Rattle.zo_cert_tree.specs.Node.{node_contents}
use Rattle.zo_cert.proofs.NodePieces.{HasNodes, one_node_more}
use Rattle.zo_cert.proofs.report_reader.read_nodes.Goals as goal

pub returns-in_err-line-clause-err : goal.returns-in_err-line-clause-err
returns-in_err-line-clause-err c =
    let p = err_from_is_err_and c.from_residual.result c.from_residual.ensures.1 in
    let counted = length-map c.loop.nodes.items node_contents in
    rw (p.1, p.2, c.in_err-line.ensures.none.0) (
      map node_contents c.loop.nodes.items,
      omega (arith, c.loop.invariant.1.counted),
      record { rest = c.loop.reader.lines; fewer = omega (arith, c.loop.invariant.0, counted); fit = c.loop.invariant.1.fit; spelled = c.loop.invariant.1.spelled; no_line = cut c.in_err-line.ensures.none.1 },
    )

pub returns-in_default-clause-err : goal.returns-in_default-clause-err
returns-in_default-clause-err c =
    let counted = length-map c.loop.nodes.items node_contents in
    let none = rw c.in_default.is at c.in_ok-node.ensures.none in (
      map node_contents c.loop.nodes.items,
      omega (arith, c.in_ok-line.ensures.number, c.loop.invariant.1.counted),
      record { rest = c.loop.reader.lines; fewer = omega (arith, c.loop.invariant.0, counted); fit = c.loop.invariant.1.fit; spelled = c.loop.invariant.1.spelled; no_line = no_line_other _ _ _ _ c.in_ok-line.ensures.line c.in_ok-line.ensures.one none },
    )

pub loop-preserved : goal.loop-preserved
loop-preserved c =
    let some = rw c.in-Some.is at c.in_ok-node.ensures.some in
    let items : map node_contents c.push.new.self.items ≡ map node_contents c.loop.nodes.items ++ node_contents c.in-Some.node ∷ [] =
    ap (map node_contents) c.in_ok-push.ensures.items ∙ map-append node_contents c.loop.nodes.items (c.in-Some.node ∷ []) in
    let more = one_node_more _ _ _ (map node_contents c.loop.nodes.items) _ _ _ (node_contents c.in-Some.node) c.loop.invariant.1 c.in_ok-line.ensures.line some.1 some.0 in (
      omega (arith, c.loop.invariant.0, ap length c.in_ok-push.ensures.items, length-append c.loop.nodes.items (c.in-Some.node ∷ [])),
      subst (λ ns. HasNodes c.args.reader.now.lines c.next_line.new.self.lines ns c.args.reader.now.number c.next_line.new.self.number) (sym items)
          (subst (λ k. HasNodes c.args.reader.now.lines c.next_line.new.self.lines (map node_contents c.loop.nodes.items ++ node_contents c.in-Some.node ∷ []) c.args.reader.now.number k) (sym c.in_ok-line.ensures.number) more),
    )
