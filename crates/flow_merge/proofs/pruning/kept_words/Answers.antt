use Rattle.std.proofs.Common.{◌+◌, ◌++◌, drop, refl, sym, ap, ◌∙◌, get_or, arith}
use Rattle.std.specs.declared.vec.Vec.{Vec}
use Rattle.std.specs.declared.alloc.Global.{Global}
use Rattle.std.proofs.lemmas.Bool.{false≢true}
use Rattle.nv_base.specs.declared.term.Atom.{Atom}
use Rattle.nv_base.specs.declared.term.Atom.TheVariants.{Lit}
use Rattle.flow_merge.specs.inner.Pruned as inner
use Rattle.flow_merge.proofs.Cutting.{words_more, words_end}
use Rattle.flow_merge.proofs.pruning.kept_words.Goals.{then-i-words+then-not-is_gone+in_ok-push, else-i-words, else-i-words-via-then-i-words+else-not-is_gone, else-i-words-via-else-i-words}
use Rattle.flow_merge.proofs.pruning.kept_words.Goals as goal

pub loop-i-preserved : goal.loop-i-preserved
loop-i-preserved c =
    elim c.if-i-words.branch [
      | then-i-words+then-not-is_gone+in_ok-push w ↦ words_more c.args.gone.now c.args.params.now c.args.words.now c.loop-i.v.items c.if-i-words.v.items (inner.kept_words c.args.gone.now c.args.params.now c.args.words.now) c.loop-i.i 0 (get_or c.args.params.now c.loop-i.i 0) _ _ c.loop-i-test.true refl w.if-i-words.true refl (λ i. absurd (false≢true (sym (sym w.is_gone.ensures ∙ w.if-not-is_gone.true) ∙ i))) (λ o. ap (λ (x : Vec Atom Global). x.items) w.v-is ∙ w.in_ok-push.ensures.items) c.loop-i.invariant
      | else-i-words w ↦ elim w.else-i-words.branch [
        | else-i-words-via-then-i-words+else-not-is_gone k ↦ words_more c.args.gone.now c.args.params.now c.args.words.now c.loop-i.v.items c.if-i-words.v.items (inner.kept_words c.args.gone.now c.args.params.now c.args.words.now) c.loop-i.i 0 (get_or c.args.params.now c.loop-i.i 0) (get_or c.args.words.now c.loop-i.i (Lit 0)) (Lit 0) c.loop-i-test.true refl k.if-i-words.true refl (λ i. ap (λ (x : Vec Atom Global). x.items) w.v-is) (λ o. absurd (false≢true (sym o ∙ sym k.is_gone.ensures ∙ k.if-not-is_gone.false))) c.loop-i.invariant
        | else-i-words-via-else-i-words k ↦ ap (λ (x : Vec Atom Global). x.items ++ inner.kept_words c.args.gone.now (drop (c.loop-i.i + 1) c.args.params.now) (drop (c.loop-i.i + 1) c.args.words.now)) w.v-is ∙ words_end c.args.gone.now c.args.params.now c.args.words.now c.loop-i.v.items (inner.kept_words c.args.gone.now c.args.params.now c.args.words.now) c.loop-i.i 0 c.loop-i-test.true (omega (arith, k.if-i-words.false)) c.loop-i.invariant
      ]
    ]
