use Rattle.std.proofs.Common.{◌≡◌, ◌∙◌, ◌∷◌, [], ap, sym, subst, map}
use Rattle.nv_base.specs.Log.{noted_all}
use Rattle.nv_base.specs.Memories.{stored}
use Rattle.nv_base.specs.Meanings.{source_writes}
use Rattle.nv_meaning_values.specs.Running.{Chain}
use Rattle.nv_meaning_values.specs.Notes.{Knows, HasRoom, traced_all, source_made, made_of_write}
use Rattle.nv_meaning_values.specs.Chains.{trail_of}
use Rattle.nv_meaning_values.specs.Callers.{calls_of}
use Rattle.nv_meaning_values.proofs.Trails.{note-trail, room-before}
use Rattle.nv_meaning_values.proofs.notes.Notes.store.Goals as goal

pub returns-then-eq-clause-done : goal.returns-then-eq-clause-done
returns-then-eq-clause-done c = λ is.
    let n = c.self.inside in
    let w = c.args.w in
    let s = c.args.span in
    let t = c.next_chain.new.self in
    let trail : (k : Chain) → Knows c.args.self.now k → trail_of c.note_source-then-eq.new.self ≡ traced_all c.args.self.now.trail (source_made (made_of_write s k w ∷ [])) =
    λ k knows.
    ap trail_of c.note_source-then-eq.ensures
    ∙ note-trail t (record { write = w; span = s; chain = c.in_ok-chain.chain }) (map (λ f. f.0) k.calls)
    (λ room.
    let before : HasRoom (trail_of n.trace) = subst HasRoom c.in_ok-chain.ensures.same room in
    c.in_ok-chain.ensures.names before
    ∙ ap (λ l. map (λ f. f.0) (calls_of l)) c.deref.ensures.value
    ∙ ap (λ x. map (λ f. f.0) x.chain.calls) c.self.view_is
    ∙ ap (λ x. map (λ f. f.0) x.calls) (knows (subst (λ x. HasRoom x.trail) c.self.view_is before)))
    ∙ ap (λ x. traced_all x (source_made (made_of_write s k w ∷ []))) (c.in_ok-chain.ensures.same ∙ ap (λ x. x.trail) c.self.view_is) in (
      ap (λ l. stored w.mem w.at l c.args.p.now) (sym c.list.ensures.words) ∙ c.write-access.ensures.done is,
      record {
        log = c.note_source.ensures ∙ ap (λ x. noted_all x.log (source_writes (w ∷ []))) c.self.view_is;
        trail = trail;
        knows = λ k knows room. ap (λ x. x.chain) c.self.view_is ∙ knows (room-before (source_made (made_of_write s k w ∷ [])) c.args.self.now.trail (subst HasRoom (trail k knows) room));
      },
    )
