use Rattle.std.proofs.Common.{inl, inr}
use Rattle.std.proofs.lemmas.Result.{IfOk-weaker}
use Rattle.uc_contexts.proofs.Disjoint.{disjoint-unshared, first-common}
use Rattle.novac_machine.proofs.footprints.shared_text.Goals as goal

pub returns-in-None : goal.returns-in-None
returns-in-None k = λ c p runs h.
    IfOk-weaker k.disjoint.result _ _ (λ line is. inl (disjoint-unshared c p runs k.args.footprints.now h k.in-None.ensures.none, is)) k.disjoint.ensures

pub returns-in-Some : goal.returns-in-Some
returns-in-Some k = λ c p runs h.
    IfOk-weaker k.shared_at.result _ _ (λ line is. inr (k.in-Some.mem, k.in-Some.at, first-common c p runs k.args.footprints.now k.in-Some.mem k.in-Some.at h k.in-Some.ensures.first, is)) k.shared_at.ensures
