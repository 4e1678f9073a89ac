use Rattle.nv_generate.proofs.Pieces.{line_pieces}
use Rattle.nv_generate.proofs.text.push_line.Goals as goal

pub returns : goal.returns
returns c =
    line_pieces c.args.i c.args.line c.args.out.now.items c.extend_from_slice.new.self.items c.push_name.new.out.items c.extend_from_slice-2.new.self.items c.push_name-2.new.out.items c.extend_from_slice-3.new.self.items c.push_name-3.new.out.items c.extend_from_slice-4.new.self.items
    c.in_ok-extend_from_slice.ensures.items c.in_ok-push_name.ensures c.in_ok-extend_from_slice-2.ensures.items c.in_ok-push_name-2.ensures c.in_ok-extend_from_slice-3.ensures.items c.in_ok-push_name-3.ensures c.in_ok-extend_from_slice-4.ensures.items
