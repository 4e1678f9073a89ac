use Rattle.std.proofs.Common.{◌∙◌, ◌<◌, ◌∷◌, [], ap, sym, subst, map, get_or}
use Rattle.std.proofs.lemmas.List.{map-append, length-map}
use Rattle.nv_meaning_values.specs.Chains.{made_in, trail_of}
use Rattle.nv_meaning_values.proofs.Trails.{chains-more}
use Rattle.nv_meaning_values.proofs.trace.Trace.next_chain.Goals as goal

pub returns-clause-same : goal.returns-clause-same
returns-clause-same c =
    let t = c.self.inside in
    let kept = t.first.items in
    let chains = map (λ l. l.items) t.chains.items in
    ap (λ k. record { keep = t.room; kept = k; count = t.all })
    (ap (λ l. map (made_in (map (λ x. x.items) l)) kept) c.in_ok-push.ensures.items
    ∙ ap (λ l. map (made_in l) kept) (map-append (λ x. x.items) t.chains.items (c.in_ok-names.names ∷ []))
    ∙ chains-more chains c.in_ok-names.names.items kept (λ i d h. subst (λ n. (get_or kept i d).chain < n) (sym (length-map t.chains.items (λ x. x.items))) (c.self.invariant.3 i d h)))
    ∙ ap trail_of c.self.view_is
