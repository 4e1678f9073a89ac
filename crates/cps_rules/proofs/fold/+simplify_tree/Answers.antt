use Rattle.std.proofs.Common.{◌∙◌}
use Rattle.cps_rules.proofs.Along.{along_let, along_read, along_write, along_if, jump_done, halt_done, adds_at}
use Rattle.cps_rules.proofs.Down.{last_firsts}
use Rattle.cps_rules.proofs.fold.+simplify_tree.Goals as goal
use Rattle.flow_ir.proofs.Results.{if_ok_both}
use Rattle.flow_ir.proofs.Renaming.{renamed_at, all_at, named_at}

pub spine-preserved-in-Let : goal.spine-preserved-in-Let
spine-preserved-in-Let g t c =
    along_let c.in-Let.x c.in-Let.p _ _ _ _ _ (λ p q a. g.met.R.Rewrite.sound c.args.r.now p q c.requires.ready a.0 a.1) c.spine.invariant c.in-Let.is c.deref-cur.ensures c.in_ok-fold_let-in-Let.ensures

pub spine-preserved-in-Read : goal.spine-preserved-in-Read
spine-preserved-in-Read g t c =
    along_read c.in-Read.m c.in-Read.xs c.in_ok-short_numbers-in-Read.field-0 c.in-Read.a c.renamed.result _ _ _ _ _ c.spine.invariant c.in-Read.is c.deref-cur-in-Read.ensures
    (c.in_ok-short_numbers-in-Read.ensures ∙ c.deref.ensures) (renamed_at c.in-Read.a c.renamed.ensures c.deref-in-Read.ensures.value) c.in_ok-push-in-Read.ensures.items (named_at c.in_ok-name_all-in-Read.ensures c.deref-in-Read-2.ensures)

pub spine-preserved-in-Write : goal.spine-preserved-in-Write
spine-preserved-in-Write g t c =
    along_write c.in-Write.m c.in-Write.a c.renamed-in-Write.result c.in-Write.bs c.in_ok-words-in-Write.words _ _ _ _ c.spine.invariant c.in-Write.is c.deref-cur-in-Write.ensures
    (renamed_at c.in-Write.a c.renamed-in-Write.ensures c.deref-in-Write-3.ensures.value) (all_at c.in_ok-words-in-Write.ensures c.deref-in-Write.ensures.value c.deref-in-Write-2.ensures) c.in_ok-push-in-Write.ensures.items

pub spine-preserved : goal.spine-preserved
spine-preserved g t c =
    along_if c.in-If.c c.in-If.a c.in-If.b c.renamed-x.result c.renamed-y.result _ _ _ _ c.deref-in-If-3.result.now _ c.in_ok-u-in-If.u _ _ _ (λ p q a. g.met.R.Rewrite.sound c.args.r.now p q c.requires.ready a.0 a.1) c.spine.invariant c.in-If.is c.deref-in-If-3.ensures c.deref-cur-in-If.ensures
    (renamed_at c.in-If.a c.renamed-x.ensures c.deref-in-If.ensures.value) (renamed_at c.in-If.b c.renamed-y.ensures c.deref-in-If-2.ensures.value) c.in_ok-u-in-If.ensures c.in_ok-push-in-If.ensures.items

pub joined-requires-clause-firsts : goal.joined-requires-clause-firsts
joined-requires-clause-firsts g t c = last_firsts c.spine.steps.items c.spine.invariant.on.firsts c.in_ok-add_all-in-Jump.ensures

pub returns-in-Jump : goal.returns-in-Jump
returns-in-Jump g t c =
    if_ok_both c.joined.result _ _ _
    (λ u tree marked. jump_done c.in-Jump.l c.in-Jump.bs c.in_ok-words-in-Jump.words.items u c.spine.invariant c.in-Jump.is (all_at c.in_ok-words-in-Jump.ensures c.deref-in-Jump.ensures.value c.deref-in-Jump-2.ensures.value) (adds_at c.in_ok-add_all-in-Jump.ensures c.deref-in-Jump-3.ensures.value) tree marked)
    c.joined.ensures.tree c.joined.ensures.marks

pub joined-requires-in-Halt-clause-firsts : goal.joined-requires-in-Halt-clause-firsts
joined-requires-in-Halt-clause-firsts g t c = last_firsts c.spine.steps.items c.spine.invariant.on.firsts c.in_ok-add_all-in-Halt.ensures

pub returns-in-Halt : goal.returns-in-Halt
returns-in-Halt g t c =
    if_ok_both c.joined-in-Halt.result _ _ _
    (λ u tree marked. halt_done c.in-Halt.e c.in-Halt.bs c.in_ok-words-in-Halt.words.items u c.spine.invariant c.in-Halt.is (all_at c.in_ok-words-in-Halt.ensures c.deref-in-Halt.ensures.value c.deref-in-Halt-2.ensures) (adds_at c.in_ok-add_all-in-Halt.ensures c.deref-in-Halt-3.ensures) tree marked)
    c.joined-in-Halt.ensures.tree c.joined-in-Halt.ensures.marks
