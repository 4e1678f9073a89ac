use Rattle.std.proofs.Common.{◌≡◌, ◌++◌, ◌∷◌, [], length, map, ap, ◌∙◌, codes, arith}
use Rattle.nv_lines.specs.Line.{text_of}
use Rattle.zo_model.specs.Contents.{contents}
use Rattle.zo_model.specs.ProgramText.{program_lines, program_text}
use Rattle.zo_model.proofs.Pieces.{length-map'}
use Rattle.zo_cert_tree.specs.Node.{node_contents, node_line}
use Rattle.zo_cert.specs.ReportText.{report_text, counted_line, verdict_lines}
use Rattle.zo_cert.proofs.ReportPieces.{report_pieces}
use Rattle.zo_cert.proofs.report_text.report_bytes.Goals as goal

pub returns : goal.returns
unfolding report_text program_text
returns c =
    let r = c.args.r.now in
    let nodes : c.len.result ≡ length (map node_contents r.tree.nodes.items) = omega (arith, c.len.ensures, r.tree.nodes.ok.0, length-map' node_contents r.tree.nodes.items) in
    report_pieces (codes "novareport 1") (counted_line (codes "slots") r.slots) (counted_line (codes "budget") r.budget) (program_lines (contents r.z)) (verdict_lines r.verdict r.z.costs.items r.x.on.items)
    (counted_line (codes "tree") (length (map node_contents r.tree.nodes.items))) (map node_line (map node_contents r.tree.nodes.items))
    c.extend_from_slice.new.self.items c.push_counted.new.out.items c.push_counted-2.new.out.items c.push_program.new.out.items c.push_verdict.new.out.items c.push_counted-3.new.out.items c.push_nodes.new.out.items
    (c.in_ok-extend_from_slice.ensures.items ∙ ap (λ t. t ++ (codes "novareport 1" ++ 10 ∷ [])) c.new-out.ensures.items)
    (c.in_ok-push_counted.ensures ∙ ap (λ n. c.extend_from_slice.new.self.items ++ (counted_line (codes "slots") n ++ 10 ∷ [])) c.from.ensures)
    (c.in_ok-push_counted-2.ensures ∙ ap (λ n. c.push_counted.new.out.items ++ (counted_line (codes "budget") n ++ 10 ∷ [])) c.from-2.ensures)
    c.in_ok-push_program.ensures
    c.in_ok-push_verdict.ensures
    (c.in_ok-push_counted-3.ensures ∙ ap (λ n. c.push_verdict.new.out.items ++ (counted_line (codes "tree") n ++ 10 ∷ [])) nodes)
    (c.in_ok-push_nodes.ensures ∙ ap (λ t. c.push_counted-3.new.out.items ++ text_of (map node_line (map node_contents t))) c.deref.ensures.value)
