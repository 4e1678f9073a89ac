use Rattle.std.proofs.Common.{◌<◌, sym, subst, take, get_or}
use Rattle.std.proofs.lemmas.List.{take_more}
use Rattle.std.proofs.lemmas.List.Elements.{All-get_or}
use Rattle.uc_object.specs.Object.{IsNumber}
use Rattle.uc_object.specs.inner.Parts.{Adds}
use Rattle.uc_object.proofs.Together.{adds-none, adds-more}
use Rattle.uc_object.proofs.encoder.push_starts.Goals as goal

pub loop-start-init : goal.loop-start-init
loop-start-init c = λ count all. adds-none (IsNumber count) c.args.out.now.items

pub loop-start-preserved : goal.loop-start-preserved
loop-start-preserved c = λ count all.
    let list = c.args.list.now in
    let i = c.loop-start.start-index in
    let start = get_or list i 0 in
    let less : start < count = All-get_or (λ s. s < count) list i 0 c.loop-start-test.true all in
    subst (λ is. Adds (IsNumber count) is c.args.out.now.items c.extend_from_slice.new.self.items) (sym (take_more list i 0 c.loop-start-test.true))
    (adds-more (IsNumber count) (take i list) start c.args.out.now.items c.loop-start.out.items c.extend_from_slice.new.self.items c.to_le_bytes.result (c.loop-start.invariant count all) c.in_ok-extend_from_slice.ensures.items (less, c.to_le_bytes.ensures))
