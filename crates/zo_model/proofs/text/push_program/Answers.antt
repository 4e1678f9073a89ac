use Rattle.std.proofs.Common.{◌≡◌, ◌++◌, ◌∷◌, [], length, map, ap, ◌∙◌, arith}
use Rattle.nv_lines.specs.Line.{text_of}
use Rattle.zo_model.specs.Contents.{row_contents}
use Rattle.zo_model.specs.ProgramText.{program_text, columns_line, rows_line, cost_line, row_line}
use Rattle.zo_model.proofs.Pieces.{join4, program_pieces, length-map'}
use Rattle.zo_model.proofs.text.push_program.Goals as goal

pub returns : goal.returns
unfolding program_text
returns c =
    let costs : c.len.result ≡ length c.args.z.now.costs.items = omega (arith, c.len.ensures, c.args.z.now.costs.ok.0) in
    let rows : c.len-2.result ≡ length c.args.z.now.rows.items = omega (arith, c.len-2.ensures, c.args.z.now.rows.ok.0) in
    join4 c.args.out.now.items c.push_counted.new.out.items c.push_counted-2.new.out.items c.push_costs.new.out.items c.push_rows.new.out.items
    (columns_line (length c.args.z.now.costs.items) ++ 10 ∷ []) (rows_line (length (map row_contents c.args.z.now.rows.items)) ++ 10 ∷ []) (text_of (map cost_line c.args.z.now.costs.items)) (text_of (map row_line (map row_contents c.args.z.now.rows.items)))
    (c.in_ok-push_counted.ensures ∙ ap (λ n. c.args.out.now.items ++ (columns_line n ++ 10 ∷ [])) costs)
    (c.in_ok-push_counted-2.ensures ∙ ap (λ n. c.push_counted.new.out.items ++ (rows_line n ++ 10 ∷ [])) (rows ∙ length-map' row_contents c.args.z.now.rows.items))
    (c.in_ok-push_costs.ensures ∙ ap (λ t. c.push_counted-2.new.out.items ++ text_of (map cost_line t)) c.deref.ensures.value)
    (c.in_ok-push_rows.ensures ∙ ap (λ t. c.push_costs.new.out.items ++ text_of (map row_line (map row_contents t))) c.deref-2.ensures.value)
    ∙ ap (λ t. c.args.out.now.items ++ t) (program_pieces (columns_line (length c.args.z.now.costs.items)) (rows_line (length (map row_contents c.args.z.now.rows.items))) (map cost_line c.args.z.now.costs.items) (map row_line (map row_contents c.args.z.now.rows.items)))
