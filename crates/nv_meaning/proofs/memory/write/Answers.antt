use Rattle.std.proofs.Common.{◌≡◌, ap, sym, subst, Some, Err}
use Rattle.std.proofs.lemmas.Result.{err_from_is_err_and}
use Rattle.nv_base.specs.Memories.{stored}
use Rattle.nv_meaning_values.specs.Running.{store}
use Rattle.nv_meaning_values.specs.declared.stop.Interruption.TheVariants.{NoMemory}
use Rattle.nv_meaning.specs.inner.Ran.{at, RanScope}
use Rattle.nv_meaning.proofs.Access.{store-short, store-written}
use Rattle.nv_meaning.proofs.memory.write.Goals as goal

pub returns-in_err-store : goal.returns-in_err-store
returns-in_err-store c =
    let p = err_from_is_err_and c.from_residual.result c.from_residual.ensures.1 in
    let same = c.in_err-store.ensures.short in
    rw (p.1, p.2) (λ d left scope.
    subst (λ n. RanScope d (at left c.args.p.now c.args.log.now) (at left c.store.new.p n) (Err NoMemory) scope (λ call now. store c.args.span scope c.args.m c.args.at c.args.words.now now)) (sym same.0)
    (subst (λ q. RanScope d (at left c.args.p.now c.args.log.now) (at left q c.args.log.now) (Err NoMemory) scope (λ call now. store c.args.span scope c.args.m c.args.at c.args.words.now now)) (sym same.1)
    (store-short d (at left c.args.p.now c.args.log.now) c.args.span scope c.args.m c.args.at c.args.words.now)))

pub returns-in-Done : goal.returns-in-Done
returns-in-Done c = λ d left scope.
    let done = c.in_ok-store.ensures.done c.in-Done.is in
    store-written d (at left c.args.p.now c.args.log.now) c.args.span scope c.args.m c.args.at c.args.words.now c.store.new.p c.store.new.self
    (record { mem = c.args.m; at = c.args.at; words = c.of.result })
    (ap (λ ws. record { mem = c.args.m; at = c.args.at; words = ws }) c.of.ensures)
    c.requires
    (subst (λ ws. stored c.args.m c.args.at ws c.args.p.now ≡ Some c.store.new.p) c.of.ensures done.0)
    done.1
