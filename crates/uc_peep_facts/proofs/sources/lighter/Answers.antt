use Rattle.std.proofs.Common.{◌∙◌, ◌≤◌, length, ap, sym, subst}
use Rattle.uc_isa.specs.Moves.{moves}
use Rattle.uc_peep_facts.proofs.sources.lighter.Goals as goal

pub is_paid-requires-clause-size : goal.is_paid-requires-clause-size
is_paid-requires-clause-size c = ap length c.list-in-loop-n.ensures.list ∙ c.in_ok-q.ensures.in_place.size ∙ sym (ap length c.list.ensures.list)

pub returns-then-is_paid : goal.returns-then-is_paid
returns-then-is_paid c = λ starts marked. (
  c.in_ok-q.ensures.params,
  c.in_ok-q.ensures.in_place,
  c.in_ok-q.ensures.settled,
  λ ws. subst (λ l. moves c.in_ok-q.q.list starts ws ≤ moves l starts ws) c.list.ensures.list (subst (λ l. moves l starts ws ≤ moves c.list.result.now starts ws) c.list-in-loop-n.ensures.list (c.is_paid.ensures c.if-is_paid.true starts marked ws)),
)
