use Rattle.std.proofs.Common.{◌++◌, ◌∷◌, ap, ◌∙◌, w32, rules}
use Rattle.std.proofs.lemmas.Int.{to_z-of_z}
use mir.Val.{SFits}
use Rattle.std.specs.List.{flat_map}
use Rattle.zo_model.specs.ProgramText.{term_text}
use Rattle.zo_model.specs.Contents.{row_contents}
use Rattle.zo_model.proofs.Pieces.{join4, row_pieces}
use Rattle.zo_model.proofs.text.push_row.Goals as goal

pub returns : goal.returns
returns c =
    let fits : SFits w32 c.args.row.now.least = search rules in
    let signed = simp to_z-of_z at c.in_ok-push_signed.ensures.ok in
    join4 c.args.out.now.items c.extend_from_slice.new.self.items c.push_signed.new.out.items c.push_terms.new.out.items c.push.new.self.items _ _ _ _
    c.in_ok-extend_from_slice.ensures.items signed (c.in_ok-push_terms.ensures ∙ ap (λ ts. c.push_signed.new.out.items ++ flat_map (λ t. 32 ∷ term_text t) ts) c.deref.ensures.value) c.in_ok-push.ensures.items
    ∙ ap (λ t. c.args.out.now.items ++ t) (row_pieces (row_contents c.args.row.now))
