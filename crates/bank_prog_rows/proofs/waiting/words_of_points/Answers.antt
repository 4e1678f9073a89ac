use Rattle.std.proofs.Common.{◌∙◌, ◌++◌, ◌∷◌, [], ℕ, nat_eq, ap, map, arith}
use Rattle.std.proofs.lemmas.List.{map-append}
use Rattle.std.specs.HashMap.{get}
use Rattle.std.specs.List.{flat_map}
use Rattle.std.specs.declared.vec.Vec.{Vec}
use Rattle.std.specs.declared.alloc.Global.{Global}
use Rattle.place_plan.specs.declared.uses.Use.{Use}
use Rattle.place_plan.specs.inner.UseViews.{use_view}
use Rattle.bank_prog_rows.specs.inner.Waiting.{each_waiting, lists_of, kept_waiting}
use Rattle.bank_prog_rows.proofs.Waits.{each-more, each-all}
use Rattle.bank_prog_rows.proofs.waiting.words_of_points.Goals as goal

pub loop-k-preserved : goal.loop-k-preserved
loop-k-preserved c =
    let point = get nat_eq c.args.defined.now in
    let us = map use_view c.args.uses.now in
    each-more c.args.below.now point us c.args.summaries.now c.loop-k.k (lists_of c.loop-k.words.items) (lists_of c.push.new.self.items) (each_waiting c.args.below.now point us 0 c.args.summaries.now) (omega arith)
    (ap lists_of c.in_ok-push.ensures.items ∙ map-append (λ (v : Vec Use Global). map use_view v.items) c.loop-k.words.items (_ ∷ [])
    ∙ ap (λ ws. lists_of c.loop-k.words.items ++ ws ∷ []) (c.in_ok-words_of_point.ensures ∙ ap (λ (z : ℕ). flat_map (kept_waiting c.args.below.now point z) us) c.in_ok-short.ensures))
    c.loop-k.invariant

pub returns : goal.returns
returns c =
    let point = get nat_eq c.args.defined.now in
    let us = map use_view c.args.uses.now in
    each-all c.args.below.now point us c.args.summaries.now c.loop-k.k (lists_of c.loop-k.words.items) (each_waiting c.args.below.now point us 0 c.args.summaries.now) (omega arith) c.loop-k.invariant
