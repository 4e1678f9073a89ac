-- What holds through all passes.
use Rattle.std.proofs.Common.{◌≡◌, ℕ, ◌≤◌, List, sym, subst, Result, Ok, Err, IfOk, le_trans}
use Rattle.nv_base.specs.Memories.{Memories}
use Rattle.nv_base.specs.Meanings.{Meaning, KeepsOutcomes, AreEqual}
use Rattle.nv_base.specs.Measures.{IsAtMost}
use Rattle.nv_base.proofs.Same.{keeps-trans, keeps-equal}
use Rattle.nv_base.proofs.Measures.{most-trans}
use Rattle.flow_ir.specs.Bulk.{bulk}
use Rattle.flow_ir.specs.Meaning.{flow_meaning, flow_params}
use Rattle.flow_ir.specs.Tree.{Label}
use Rattle.flow_ir.specs.Wide.{wide}
use Rattle.flow_ir.specs.Reachable.{AreReachable}
use Rattle.flow_merge.specs.Contracted.{AreMerged}
use Rattle.flow_merge.specs.Wanted.{AllWanted}

pub equal_kept : (a b : ℕ) (m n : List ℕ → Memories → Meaning) → b ≡ a → AreEqual a m n → KeepsOutcomes a b m n
equal_kept a b m n e h = subst (λ k. KeepsOutcomes a k m n) (sym e) (keeps-equal a m n h)

-- two passes that keep outcomes, and one whose outcomes are equal
pub first_kept : (a b c d : ℕ) (m n k l : List ℕ → Memories → Meaning) → KeepsOutcomes a b m n → KeepsOutcomes b c n k → d ≡ c → AreEqual c k l → KeepsOutcomes a d m l
first_kept a b c d m n k l first second p third = keeps-trans a b d m n l first (keeps-trans b c d n k l second (equal_kept c d k l p third))

pub if_ok : {T E : Type 0} (r : Result T E) (P Q : T → Type 0) → ((v : T) → P v → Q v) → IfOk r P → IfOk r Q
if_ok (Ok v) P Q f h = f v h
if_ok (Err e) P Q f h = tt

-- ---- rounds of contraction and simplification

pub record Reduced (f g : List Label) : Type 0 where
  pub kept : KeepsOutcomes (flow_params f) (flow_params g) (flow_meaning f) (flow_meaning g)
  pub contracted : AreMerged g
  pub led : AreReachable g
  pub wanted : AllWanted g
  pub wide : wide g ≤ wide f
  pub bulk : IsAtMost (bulk g) (bulk f)

-- g is simplified to h, which is reduced to k
pub again : (f g h k : List Label) → Reduced f g → flow_params h ≡ flow_params g → AreEqual (flow_params g) (flow_meaning g) (flow_meaning h) → wide h ≤ wide g → IsAtMost (bulk h) (bulk g) → Reduced h k → Reduced f k
again f g h k p params equal narrow small q = record {
  kept =
      keeps-trans (flow_params f) (flow_params g) (flow_params k) (flow_meaning f) (flow_meaning g) (flow_meaning k) p.kept
      (keeps-trans (flow_params g) (flow_params h) (flow_params k) (flow_meaning g) (flow_meaning h) (flow_meaning k) (equal_kept (flow_params g) (flow_params h) (flow_meaning g) (flow_meaning h) params equal) q.kept);
  contracted = q.contracted;
  led = q.led;
  wanted = q.wanted;
  wide = le_trans q.wide (le_trans narrow p.wide);
  bulk = most-trans (bulk k) (bulk h) (bulk f) q.bulk (most-trans (bulk h) (bulk g) (bulk f) small p.bulk);
}
