-- What holds through passes that improve a flow, and of the flow that is chosen in the end.
use Rattle.std.proofs.Common.{◌≡◌, ℕ, ◌≤◌, ◌⊎◌, inl, inr, List, map, refl, sym, subst, ◌∙◌, Result, Ok, Err, All, IfOk, le_trans}
use Rattle.nv_base.specs.declared.error.NoMemory.{NoMemory}
use Rattle.nv_base.specs.Memories.{Memories}
use Rattle.nv_base.specs.Meanings.{Meaning, KeepsOutcomes, AreEqual}
use Rattle.nv_base.specs.Measures.{Bulk, IsAtMost}
use Rattle.nv_base.proofs.Same.{keeps-trans, keeps-equal}
use Rattle.cps_rules.specs.Simplified.{AreTidy}
use Rattle.flow_ir.specs.Meaning.{flow_meaning, flow_params}
use Rattle.flow_ir.specs.Reachable.{AreReachable}
use Rattle.flow_ir.specs.Tree.{Label}
use Rattle.flow_ir.specs.View.{label_view}
use Rattle.flow_ir.specs.declared.flow.Flow.{Flow}
use Rattle.flow_merge.specs.Contracted.{AreMerged}
use Rattle.flow_merge.specs.Wanted.{AllWanted}
use Rattle.ssu_make.specs.Bounds.{size_bound, length_bound}
use Rattle.nova_middle.specs.Reduced.{AreReduced}
use Rattle.nova_middle.specs.Rules.{IsAtRest}
use Rattle.nova_middle.proofs.Single.{more_size, more_length}
use Rattle.nova_middle.proofs.Whole.{equal_kept}

-- ---- flows that take as many words and do the same within each number of jumps

pub record Equal (f g : List Label) : Type 0 where
  pub params : flow_params g ≡ flow_params f
  pub equal : AreEqual (flow_params f) (flow_meaning f) (flow_meaning g)

pub equal_trans : (f g h : List Label) → Equal f g → Equal g h → Equal f h
equal_trans f g h p q = record {
  params = q.params ∙ p.params;
  equal = λ args w arguments sizes n. p.equal args w arguments sizes n ∙ subst (λ k. AreEqual k (flow_meaning g) (flow_meaning h)) p.params q.equal args w arguments sizes n;
}

pub equal_then : (f g h : List Label) → Equal f g → KeepsOutcomes (flow_params g) (flow_params h) (flow_meaning g) (flow_meaning h) → KeepsOutcomes (flow_params f) (flow_params h) (flow_meaning f) (flow_meaning h)
equal_then f g h p q =
    keeps-trans (flow_params f) (flow_params g) (flow_params h) (flow_meaning f) (flow_meaning g) (flow_meaning h) (equal_kept (flow_params f) (flow_params g) (flow_meaning f) (flow_meaning g) p.params p.equal) q

-- a pass more whose outcomes are equal
pub if_equal : (f g : List Label) (r : Result Flow NoMemory) → Equal f g → IfOk r (λ h. flow_params (map label_view h.labels.items) ≡ flow_params g) → IfOk r (λ h. AreEqual (flow_params g) (flow_meaning g) (flow_meaning (map label_view h.labels.items)))
    → IfOk r (λ h. AreEqual (flow_params f) (flow_meaning f) (flow_meaning (map label_view h.labels.items)))
if_equal f g (Ok h) e params equal = (equal_trans f g (map label_view h.labels.items) e (record { params = params; equal = equal })).equal
if_equal f g (Err e') e params equal = tt

pub if_kept : (f g : List Label) (r : Result Flow NoMemory) → KeepsOutcomes (flow_params f) (flow_params g) (flow_meaning f) (flow_meaning g) → IfOk r (λ h. flow_params (map label_view h.labels.items) ≡ flow_params g)
    → IfOk r (λ h. AreEqual (flow_params g) (flow_meaning g) (flow_meaning (map label_view h.labels.items))) → IfOk r (λ h. KeepsOutcomes (flow_params f) (flow_params (map label_view h.labels.items)) (flow_meaning f) (flow_meaning (map label_view h.labels.items)))
if_kept f g (Ok h) kept params equal =
    keeps-trans (flow_params f) (flow_params g) (flow_params (map label_view h.labels.items)) (flow_meaning f) (flow_meaning g) (flow_meaning (map label_view h.labels.items)) kept
    (equal_kept (flow_params g) (flow_params (map label_view h.labels.items)) (flow_meaning g) (flow_meaning (map label_view h.labels.items)) params equal)
if_kept f g (Err e) kept params equal = tt

-- ---- reduced flows

pub if_reduced : (r : Result Flow NoMemory) → IfOk r (λ g. AreMerged (map label_view g.labels.items)) → IfOk r (λ g. AreReachable (map label_view g.labels.items)) → IfOk r (λ g. AllWanted (map label_view g.labels.items)) → IfOk r (λ g. All IsAtRest (map label_view g.labels.items)) → IfOk r (λ g. AreTidy (map label_view g.labels.items))
    → IfOk r (λ g. AreReduced (map label_view g.labels.items))
if_reduced (Ok g) contracted led wanted rules tidy = record { contracted = contracted; led = led; wanted = wanted; rules = rules; tidy = tidy }
if_reduced (Err e) contracted led wanted rules tidy = tt

-- ---- the one of two that is chosen

pub kept_either : (a : ℕ) (m : List ℕ → Memories → Meaning) (f g h : List Label) → KeepsOutcomes a (flow_params f) m (flow_meaning f) → KeepsOutcomes (flow_params f) (flow_params g) (flow_meaning f) (flow_meaning g) → (h ≡ f) ⊎ (h ≡ g) → KeepsOutcomes a (flow_params h) m (flow_meaning h)
kept_either a m f g h p q (inl e) = subst (λ k. KeepsOutcomes a (flow_params k) m (flow_meaning k)) (sym e) p
kept_either a m f g h p q (inr e) = subst (λ k. KeepsOutcomes a (flow_params k) m (flow_meaning k)) (sym e) (keeps-trans a (flow_params f) (flow_params g) m (flow_meaning f) (flow_meaning g) p q)

-- a flow that is another one keeps what that keeps
pub kept_as : (a : ℕ) (m : List ℕ → Memories → Meaning) (f h : List Label) → KeepsOutcomes a (flow_params f) m (flow_meaning f) → h ≡ f → KeepsOutcomes a (flow_params h) m (flow_meaning h)
kept_as a m f h p e = subst (λ k. KeepsOutcomes a (flow_params k) m (flow_meaning k)) (sym e) p

pub kept_self : (f : List Label) → KeepsOutcomes (flow_params f) (flow_params f) (flow_meaning f) (flow_meaning f)
kept_self f = keeps-equal (flow_params f) (flow_meaning f) (flow_meaning f) (λ args p arguments sizes n. refl)

-- ---- bounds

pub below_width : (a b c : ℕ) → b ≡ c → a ≤ c → a ≤ b
below_width a b c e le = subst (λ n. a ≤ n) (sym e) le

pub size_below : (n v w : ℕ) (a b : Bulk) → n ≡ size_bound w b → v ≤ w → IsAtMost a b → size_bound v a ≤ n
size_below n v w a b e le most = below_width (size_bound v a) n (size_bound w b) e (more_size v w a b le most)

pub length_below : (n v w : ℕ) (a b : Bulk) → n ≡ length_bound w b → v ≤ w → IsAtMost a b → length_bound v a ≤ n
length_below n v w a b e le most = below_width (length_bound v a) n (length_bound w b) e (more_length v w a b le most)

pub above_width : (k a w v : ℕ) → a ≡ w → w ≤ v → k ≤ a → k ≤ v
above_width k a w v e le h = le_trans (subst (λ n. k ≤ n) e h) le

pub size_above : (k n v w : ℕ) (a b : Bulk) → n ≡ size_bound v a → v ≤ w → IsAtMost a b → k ≤ n → k ≤ size_bound w b
size_above k n v w a b e le most h = le_trans (subst (λ m. k ≤ m) e h) (more_size v w a b le most)

pub length_above : (k n v w : ℕ) (a b : Bulk) → n ≡ length_bound v a → v ≤ w → IsAtMost a b → k ≤ n → k ≤ length_bound w b
length_above k n v w a b e le most h = le_trans (subst (λ m. k ≤ m) e h) (more_length v w a b le most)
