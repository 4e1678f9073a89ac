use Rattle.std.proofs.Common.{◌∙◌, sym, ap, refl, map, pos, neg_ℤ}
use Rattle.std.specs.HashMap.{get}
use Rattle.bank_prog_form.specs.Program.{same_column}
use Rattle.bank_prog_form.specs.Rows as lines
use Rattle.bank_prog_form.specs.inner.Adds as adds
use Rattle.bank_prog_form.proofs.RowTerms.{terms-alone, terms-each}
use Rattle.bank_prog_form.proofs.Loops.{pushed}
use Rattle.bank_prog_form.proofs.lines.push_covers.Goals as goal

pub returns : goal.returns
returns c =
    let number = get same_column c.args.numbers.now in
    let first = c.in_ok-add_each.ensures.terms ∙ ap (λ ts. adds.add_each number (neg_ℤ (pos 1)) c.args.ds.now ts) c.new-terms.ensures.items ∙ sym (terms-alone number (neg_ℤ (pos 1)) c.args.ds.now) in
    let both = c.in_ok-add_each-2.ensures.terms ∙ ap (λ ts. adds.add_each number (pos 1) c.args.cs.now ts) first ∙ sym (terms-each number (pos 1) c.args.cs.now (map lines.minus c.args.ds.now)) in
    pushed number c.args.rows.now.items c.push.new.self.items _ (lines.covers c.args.cs.now c.args.ds.now) c.in_ok-push.ensures.items both refl
