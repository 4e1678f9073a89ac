use Rattle.std.proofs.Common.{◌≡◌, ◌+◌, length, get_or, map, sym, ap, ◌∙◌, subst, arith}
use Rattle.uc_peep.proofs.Peeps.{kept-code, targets-counted}
use Rattle.uc_peep.proofs.peephole.without_gone.Goals as goal

pub compact-requires-clause-targets : goal.compact-requires-clause-targets
compact-requires-clause-targets c =
    let d = c.requires.draft in
    let table : length c.deref.result.now ≡ length c.args.gone.now + 1 = ap length c.deref.ensures.value ∙ c.in_ok-places.ensures.size in
    targets-counted c.args.draft.now (length c.deref.result.now) d.lawful (let a = d.size in let b = d.size_gone in omega arith)

pub returns-clause-kept : goal.returns-clause-kept
returns-clause-kept c =
    (kept-code c.args.code.now c.args.starts.now c.args.draft.now c.args.gone.now (λ x. get_or c.deref.result.now x 0) c.in_ok-next.next.items c.in_ok-moved.moved.items c.requires.starts c.requires.draft
    (λ x le. ap (λ l. get_or l x 0) c.deref.ensures.value ∙ c.in_ok-places.ensures.counts x le)
    c.in_ok-next.ensures
    (subst (λ l. c.in_ok-moved.moved.items ≡ map (λ s. get_or l s 0) c.args.starts.now) (c.deref-2.ensures.value ∙ sym c.deref.ensures.value) c.in_ok-moved.ensures)).0

pub returns-clause-code : goal.returns-clause-code
returns-clause-code c =
    (kept-code c.args.code.now c.args.starts.now c.args.draft.now c.args.gone.now (λ x. get_or c.deref.result.now x 0) c.in_ok-next.next.items c.in_ok-moved.moved.items c.requires.starts c.requires.draft
    (λ x le. ap (λ l. get_or l x 0) c.deref.ensures.value ∙ c.in_ok-places.ensures.counts x le)
    c.in_ok-next.ensures
    (subst (λ l. c.in_ok-moved.moved.items ≡ map (λ s. get_or l s 0) c.args.starts.now) (c.deref-2.ensures.value ∙ sym c.deref.ensures.value) c.in_ok-moved.ensures)).1

pub returns-clause-starts : goal.returns-clause-starts
returns-clause-starts c =
    (kept-code c.args.code.now c.args.starts.now c.args.draft.now c.args.gone.now (λ x. get_or c.deref.result.now x 0) c.in_ok-next.next.items c.in_ok-moved.moved.items c.requires.starts c.requires.draft
    (λ x le. ap (λ l. get_or l x 0) c.deref.ensures.value ∙ c.in_ok-places.ensures.counts x le)
    c.in_ok-next.ensures
    (subst (λ l. c.in_ok-moved.moved.items ≡ map (λ s. get_or l s 0) c.args.starts.now) (c.deref-2.ensures.value ∙ sym c.deref.ensures.value) c.in_ok-moved.ensures)).2
