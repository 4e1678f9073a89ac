use Rattle.std.proofs.Common.{[], ◌∷◌, refl, sym, ap, ◌∙◌}
use Rattle.nv_base.specs.declared.term.Bin.TheVariants.{Add}
use Rattle.ssu_ir.specs.Tree.{Tree, Do, End, Bin, Halt}
use Rattle.ssu_ir.specs.Slots.{bodies}
use Rattle.ssu_ir.specs.View.{with_bodies}
use Rattle.test_libraries.proofs.sum.sum.Goals as goal

pub add-requires : goal.add-requires
add-requires c = record { taken = []; rest = []; children = refl; holds = c.new-b.ensures }

pub add-requires-2 : goal.add-requires-2
add-requires-2 c = record {
  taken = (c.in_ok-end.end.0, End (Halt 0 c.in_ok-words.words.items)) ∷ [];
  rest = [];
  children = refl;
  holds = c.in_ok-end.ensures.grown [] [] refl c.new-b.ensures;
}

pub finish-requires : goal.finish-requires
finish-requires c = record {
  roots = (c.in_ok-body.body.0, Do (Bin 2 Add 0 1) (End (Halt 0 c.in_ok-words.words.items))) ∷ [];
  holds = c.in_ok-body.ensures.grown ((c.in_ok-end.end.0, End (Halt 0 c.in_ok-words.words.items)) ∷ []) [] refl (c.in_ok-end.ensures.grown [] [] refl c.new-b.ensures);
  at_bodies = sym (ap bodies c.in_ok-labels.ensures.items);
}

pub returns : goal.returns
returns c =
    let t : Tree = Do (Bin 2 Add 0 1) (End (Halt 0 c.in_ok-words.words.items)) in
    c.finish.ensures.trees
    ((c.in_ok-body.body.0, t) ∷ [])
    (c.in_ok-body.ensures.grown ((c.in_ok-end.end.0, End (Halt 0 c.in_ok-words.words.items)) ∷ []) [] refl (c.in_ok-end.ensures.grown [] [] refl c.new-b.ensures))
    (sym (ap bodies c.in_ok-labels.ensures.items))
    ∙ ap (λ ls. with_bodies ls (t ∷ [])) c.in_ok-labels.ensures.items
    ∙ ap (λ ps. record { params = ps; body = t } ∷ []) c.in_ok-params.ensures.items
    ∙ ap (λ ws. record { params = 0 ∷ 1 ∷ []; body = Do (Bin 2 Add 0 1) (End (Halt 0 ws)) } ∷ []) c.in_ok-words.ensures.ok
