use Rattle.std.proofs.Common.{◌≡◌, ◌++◌, ◌∷◌, length, map, sym, ap, ◌∙◌, codes, arith, refl}
use Rattle.std.proofs.lemmas.Result.{err_from_is_err_and}
use Rattle.nv_lines.proofs.SplitLaws.{Lacks-test}
use Rattle.zo_model.proofs.Pieces.{length-map'}
use Rattle.zo_model.specs.declared.error.ZoError.TheVariants.{Bad}
use Rattle.zo_cert_tree.specs.Node.{node_contents, node_line}
use Rattle.zo_cert.specs.ReportText.{counted_line}
use Rattle.zo_cert.proofs.ReportLines.{tree_lines}
use Rattle.zo_cert.proofs.StopLemmas.{head_stop, head_weaker, IsTreeHead, zero_line, no_head, nodes_stop}
use Rattle.zo_cert.proofs.report_reader.read_tree.Goals as goal

pub returns-in_err-count-clause-err : goal.returns-in_err-count-clause-err
returns-in_err-count-clause-err c =
    let p = err_from_is_err_and c.from_residual.result c.from_residual.ensures.1 in
    rw (p.1, p.2) (head_stop _ _ _ (head_weaker _ _ _ c.in_err-count.ensures.err))

pub returns-then-count-eq0-clause-err : goal.returns-then-count-eq0-clause-err
returns-then-count-eq0-clause-err c =
    head_stop _ _ (Bad c.read_counted.new.reader.number) (c.in_ok-count.ensures.number, zero_line IsTreeHead (codes "tree") c.args.reader.now.lines c.read_counted.new.reader.lines c.in_ok-count.count (Lacks-test 10 (codes "tree") refl) c.if-count-eq0.true c.in_ok-count.ensures.ok.1 no_head)

pub returns-in_err-nodes-clause-err : goal.returns-in_err-nodes-clause-err
returns-in_err-nodes-clause-err c =
    let p = err_from_is_err_and c.from_residual-in_err-nodes.result c.from_residual-in_err-nodes.ensures.1 in
    rw (p.1, p.2) (nodes_stop _ _ _ _ c.in_ok-count.count _ (omega (arith, c.if-count-eq0.false)) (omega (arith, c.in_ok-count.ensures.ok.0)) c.in_ok-count.ensures.ok.1 c.in_ok-count.ensures.number c.in_err-nodes.ensures.err)

pub returns-clause-lines : goal.returns-clause-lines
returns-clause-lines c =
    let counted : c.in_ok-count.count ≡ length (map node_contents c.in_ok-nodes.nodes.items) = sym c.in_ok-nodes.ensures.count ∙ length-map' node_contents c.in_ok-nodes.nodes.items in
    tree_lines _ _ _ (counted_line (codes "tree") (length (map node_contents c.in_ok-nodes.nodes.items))) (map node_line (map node_contents c.in_ok-nodes.nodes.items))
    (c.in_ok-count.ensures.ok.1 ∙ ap (λ n. counted_line (codes "tree") n ++ 10 ∷ c.read_counted.new.reader.lines) counted) c.in_ok-nodes.ensures.lines
