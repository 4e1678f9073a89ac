-- one node more keeps what a searched tree keeps
use Rattle.std.proofs.Common.{◌≡◌, ◌≢◌, ℕ, ◌-◌, ◌<◌, ◌≤◌, ◌^◌, List, [], ◌∷◌, Bool, Option, Some, None, slice_get, refl, ◌∙◌, ap, arith}
use Rattle.std.specs.Borrow.{Bor}
use Rattle.zo_model.specs.Program.{cost_of}
use Rattle.zo_model.specs.declared.program.ZeroOne.{ZeroOne}
use Rattle.zo_cert_tree.specs.Certificate.{ClosesLeaf, IsLeaf}
use Rattle.zo_cert_tree.specs.Fixing.{ones}
use Rattle.zo_cert_tree.specs.inner.Path.{Pending, current}
use Rattle.zo_cert_tree.specs.Node.{IsNode}
use Rattle.zo_cert_tree.specs.Searched.{IsMet, IsNoBetter, IsOpen}
use Rattle.zo_cert_tree.specs.inner.Walk.{MayCome}
use Rattle.zo_cert_tree.specs.declared.cert.CertNode.{CertNode}
use Rattle.zo_cert_tree.specs.declared.cert.CertNode.TheVariants.{Branch, Bound, Clash, Left}
use Rattle.zo_cert_tree.specs.declared.cert.Claim.{Claim}
use Rattle.zo_cert_tree.specs.declared.cert.Claim.TheVariants.{Least, Nothing}
use Rattle.zo_cert_tree.specs.declared.path.Fixed.{Fixed}
use Rattle.zo_solve_dive.specs.Pick.{Answers}
use Rattle.zo_solve_dive.specs.inner.Better.{CostsAsMuch, IsAtMostStart}
use Rattle.zo_solve_branch.specs.Nodes.{CostsLess}
use Rattle.zo_solve_branch.specs.inner.Node.{IsGood, Leaves, Puts, Steps}

pub may_leaf : (P : List (Option Bool) → CertNode → Type 0) (fs : List (List (Option Bool))) (n : CertNode) → fs ≢ [] → IsLeaf n → P (current fs) n → MayCome P fs n
may_leaf P [] n some l h = absurd (some refl)
may_leaf P (f ∷ fs) (Branch j) some l h = absurd l
may_leaf P (f ∷ fs) (Bound d ms) some l h = h
may_leaf P (f ∷ fs) (Clash ms) some l h = h
may_leaf P (f ∷ fs) Left some l h = h

pub may_branch : (P : List (Option Bool) → CertNode → Type 0) (fs : List (List (Option Bool))) (j : ℕ) → fs ≢ [] → slice_get (current fs) j ≡ Some None → P (current fs) (Branch j) → MayCome P fs (Branch j)
may_branch P [] j some free h = absurd (some refl)
may_branch P (f ∷ fs) j some free h = (free, h)

pub no_better_open : (z : ZeroOne) (claim : Claim) (fixed : List (Option Bool)) (n : CertNode) → (IsMet z fixed → ⊥) → IsNoBetter z claim fixed n
no_better_open z (Least t) fixed n h = λ met. absurd (h met)
no_better_open z Nothing fixed n h = h

pub no_better_met : (z : ZeroOne) (claim : Claim) (fixed : List (Option Bool)) (n : CertNode) → CostsAsMuch claim (cost_of z (ones fixed)) → IsNoBetter z claim fixed n
no_better_met z (Least t) fixed n h = λ met. h
no_better_met z Nothing fixed n h = absurd h

pub costs_less : (z : ZeroOne) (start : Option ℕ) (claim : Claim) (fixed : List (Option Bool)) → IsAtMostStart start claim → (CostsAsMuch claim (cost_of z (ones fixed)) → ⊥) → CostsLess z start fixed
costs_less z None claim fixed a h = tt
costs_less z (Some s) (Least t) fixed a h = omega arith
costs_less z (Some s) Nothing fixed a h = absurd a

good_leaf : (z : ZeroOne) (start : Option ℕ) (answers : List (Option Bool) → ℕ → Type 0) (claim : Claim) (fixed : List (Option Bool)) (n : CertNode) → ClosesLeaf z claim fixed n → IsNode n → IsNoBetter z claim fixed n → IsGood z start answers claim fixed n
good_leaf z start answers claim fixed (Branch j) c w b = absurd c
good_leaf z start answers claim fixed (Bound d ms) c w b = record { open_is_open = tt; no_better = b; closed = c; within = w; picked = tt; below = tt }
good_leaf z start answers claim fixed (Clash ms) c w b = record { open_is_open = tt; no_better = b; closed = c; within = w; picked = tt; below = tt }
good_leaf z start answers claim fixed Left c w b = absurd c

leaf_of : (z : ZeroOne) (claim : Claim) (fixed : List (Option Bool)) (n : CertNode) → ClosesLeaf z claim fixed n → IsLeaf n
leaf_of z claim fixed (Branch j) c = absurd c
leaf_of z claim fixed (Bound d ms) c = tt
leaf_of z claim fixed (Clash ms) c = tt
leaf_of z claim fixed Left c = tt

closed_leaves_left : (z : ZeroOne) (claim : Claim) (fixed : List (Option Bool)) (n : CertNode) (left : ℕ) → ClosesLeaf z claim fixed n → Leaves n left left
closed_leaves_left z claim fixed (Branch j) left c = absurd c
closed_leaves_left z claim fixed (Bound d ms) left c = refl
closed_leaves_left z claim fixed (Clash ms) left c = refl
closed_leaves_left z claim fixed Left left c = absurd c

pub closed_steps : (z : ZeroOne) (start : Option ℕ) (answers : List (Option Bool) → ℕ → Type 0) (claim : Claim) (n : CertNode) (old new : Pending) (ns ns' : List CertNode) (left : ℕ) → Puts n old new ns ns' → old.fixings ≢ [] → ClosesLeaf z claim (current old.fixings) n → IsNode n → IsNoBetter z claim (current old.fixings) n → Steps (IsGood z start answers claim) old.fixings new.fixings ns ns' left left
closed_steps z start answers claim n old new ns ns' left puts some c w b = record {
  node = n;
  longer = puts.longer;
  may = may_leaf (IsGood z start answers claim) old.fixings n some (leaf_of z claim (current old.fixings) n c) (good_leaf z start answers claim (current old.fixings) n c w b);
  next = ap (λ (p : Pending). p.fixings) puts.next;
  leaves = closed_leaves_left z claim (current old.fixings) n left c;
}

pub left_steps : (z : ZeroOne) (start : Option ℕ) (answers : List (Option Bool) → ℕ → Type 0) (claim : Claim) (old new : Pending) (ns ns' : List CertNode) (left : ℕ) → Puts Left old new ns ns' → old.fixings ≢ [] → IsOpen z (current old.fixings) → CostsLess z start (current old.fixings) → left ≡ 0 → Steps (IsGood z start answers claim) old.fixings new.fixings ns ns' left 0
left_steps z start answers claim old new ns ns' left puts some o less e = record {
  node = Left;
  longer = puts.longer;
  may = may_leaf (IsGood z start answers claim) old.fixings Left some tt (record { open_is_open = o; no_better = no_better_open z claim (current old.fixings) Left o.not_met; closed = tt; within = tt; picked = tt; below = less });
  next = ap (λ (p : Pending). p.fixings) puts.next;
  leaves = (e, refl);
}

pub branch_steps : (z : ZeroOne) (start : Option ℕ) (answers : List (Option Bool) → ℕ → Type 0) (claim : Claim) (j : ℕ) (old new : Pending) (ns ns' : List CertNode) (left : ℕ) → Puts (Branch j) old new ns ns' → old.fixings ≢ [] → slice_get (current old.fixings) j ≡ Some None → IsOpen z (current old.fixings) → CostsLess z start (current old.fixings) → answers (current old.fixings) j → j < 2 ^ 26 → 1 ≤ left → Steps (IsGood z start answers claim) old.fixings new.fixings ns ns' left (left - 1)
branch_steps z start answers claim j old new ns ns' left puts some free o less a small more = record {
  node = Branch j;
  longer = puts.longer;
  may = may_branch (IsGood z start answers claim) old.fixings j some free (record { open_is_open = o; no_better = no_better_open z claim (current old.fixings) (Branch j) o.not_met; closed = tt; within = small; picked = a; below = less });
  next = ap (λ (p : Pending). p.fixings) puts.next;
  leaves = omega arith;
}

-- the same answer, at equal fixings
pub answers_at : {a : Bor ZeroOne → Bor Fixed → ℕ → Type 0} (z : ZeroOne) (f f' : List (Option Bool)) (j : ℕ) → f ≡ f' → Answers a z f j → Answers a z f' j
answers_at z f f' j e h = record { program = h.program; shown = h.shown; program_is = h.program_is; shown_is = h.shown_is ∙ e; says = h.says }
