-- what is closed for a claim is closed for a weaker one, and what walks the rest still ends a walk of the whole
use Rattle.std.proofs.Common.{◌≡◌, ℕ, ◌+◌, List, [], ◌∷◌, ◌++◌, Bool, Option, pos, ◌-ℤ◌, ◌≤ℤ◌, sym, subst, arith}
use Rattle.std.proofs.lemmas.Int.{ints}
use Rattle.zo_model.specs.declared.program.ZeroOne.{ZeroOne}
use Rattle.zo_model.proofs.Scale.{scale-le}
use Rattle.zo_cert_tree.specs.Certificate.{ClosesLeaf, branches, HasLeft, unfixed}
use Rattle.zo_cert_tree.specs.Searched.{IsClosed, IsNoBetter}
use Rattle.zo_cert_tree.specs.inner.Walk.{MayCome, Walks}
use Rattle.zo_cert_tree.specs.declared.cert.CertNode.{CertNode}
use Rattle.zo_cert_tree.specs.declared.cert.CertNode.TheVariants.{Branch, Bound, Clash, Left}
use Rattle.zo_cert_tree.specs.declared.cert.Claim.{Claim}
use Rattle.zo_cert_tree.specs.declared.cert.Claim.TheVariants.{Least, Nothing}
use Rattle.zo_solve_dive.specs.declared.best.Best.{Best}
use Rattle.zo_solve_dive.specs.inner.Better.{IsBest, IsWeaker}
use Rattle.zo_solve_branch.specs.inner.Node.{IsGood, Steps}
use Rattle.zo_solve.specs.inner.Search.{IsFound, LeftsLast}
use Rattle.zo_solve.proofs.Grow.{Begun, begun_done, begun_more, may_weaker}

-- ---- what is closed for a claim is closed for a weaker one

pub weaker_same : (c : Claim) → IsWeaker c c
weaker_same (Least t) = omega arith
weaker_same Nothing = tt

pub weaker_trans : (c d e : Claim) → IsWeaker c d → IsWeaker d e → IsWeaker c e
weaker_trans Nothing d e h k = tt
weaker_trans (Least t) (Least u) (Least v) h k = omega arith
weaker_trans (Least t) (Least u) Nothing h k = absurd k
weaker_trans (Least t) Nothing e h k = absurd h

pub closes_weaker : (z : ZeroOne) (c d : Claim) (f : List (Option Bool)) (n : CertNode) → IsWeaker c d → ClosesLeaf z c f n → ClosesLeaf z d f n
closes_weaker z c d f (Branch j) w h = absurd h
closes_weaker z c d f Left w h = absurd h
closes_weaker z c d f (Clash ms) w h = h
closes_weaker z (Least t) (Least u) f (Bound k ms) w h =
    let low : (pos u -ℤ pos 1) ≤ℤ (pos t -ℤ pos 1) = omega (arith, ints) in
    let s = scale-le k (pos u -ℤ pos 1) (pos t -ℤ pos 1) low in
    (h.0, omega (arith, ints, h.1))
closes_weaker z (Least t) Nothing f (Bound k ms) w h = absurd w
closes_weaker z Nothing d f (Bound k ms) w h = absurd h

closed_weaker : (z : ZeroOne) (c d : Claim) (f : List (Option Bool)) (n : CertNode) → IsWeaker c d → IsClosed z c f n → IsClosed z d f n
closed_weaker z c d f (Branch j) w h = tt
closed_weaker z c d f Left w h = tt
closed_weaker z c d f (Clash ms) w h = closes_weaker z c d f (Clash ms) w h
closed_weaker z c d f (Bound k ms) w h = closes_weaker z c d f (Bound k ms) w h

no_better_weaker : (z : ZeroOne) (c d : Claim) (f : List (Option Bool)) (n : CertNode) → IsWeaker c d → IsNoBetter z c f n → IsNoBetter z d f n
no_better_weaker z (Least t) (Least u) f n w h = λ met. let k = h met in omega arith
no_better_weaker z (Least t) Nothing f n w h = absurd w
no_better_weaker z Nothing (Least u) f n w h = λ met. absurd (h met)
no_better_weaker z Nothing Nothing f n w h = h

pub good_weaker : (z : ZeroOne) (start : Option ℕ) (answers : List (Option Bool) → ℕ → Type 0) (c d : Claim) → IsWeaker c d → (f : List (Option Bool)) (n : CertNode) → IsGood z start answers c f n → IsGood z start answers d f n
good_weaker z start answers c d w f n h = record {
  open_is_open = h.open_is_open;
  no_better = no_better_weaker z c d f n w h.no_better;
  closed = closed_weaker z c d f n w h.closed;
  within = h.within;
  picked = h.picked;
  below = h.below;
}

-- ---- what walks the rest still ends a walk of the whole

-- for the claim and each weaker one
abbrev pub BegunFor : ZeroOne → Option ℕ → (List (Option Bool) → ℕ → Type 0) → Claim → List (List (Option Bool)) → List CertNode → Type 0
BegunFor z start answers c fs ns = (d : Claim) → IsWeaker c d → Begun (IsGood z start answers d) (unfixed z) fs ns

pub begun_first : (z : ZeroOne) (start : Option ℕ) (answers : List (Option Bool) → ℕ → Type 0) (c : Claim) (fs : List (List (Option Bool))) (ns : List CertNode) → fs ≡ unfixed z ∷ [] → ns ≡ [] → BegunFor z start answers c fs ns
begun_first z start answers c fs ns e none d w ms walks =
    subst (λ l. Walks (IsGood z start answers d) (unfixed z ∷ []) (l ++ ms)) (sym none) (subst (λ gs. Walks (IsGood z start answers d) gs ms) e walks)

pub begun_step : (z : ZeroOne) (start start' : Option ℕ) (answers : List (Option Bool) → ℕ → Type 0) (c c' : Claim) (fs fs' : List (List (Option Bool))) (ns ns' : List CertNode) (left rest : ℕ) → start' ≡ start → BegunFor z start answers c fs ns → IsWeaker c c' → Steps (IsGood z start' answers c') fs fs' ns ns' left rest → BegunFor z start answers c' fs' ns'
begun_step z start start' answers c c' fs fs' ns ns' left rest e h w s d v =
    let m : MayCome (IsGood z start answers c') fs s.node = subst (λ st. MayCome (IsGood z st answers c') fs s.node) e s.may in
    begun_more (IsGood z start answers d) (unfixed z) fs fs' ns ns' s.node (h d (weaker_trans c c' d w v)) s.longer (may_weaker (IsGood z start answers c') (IsGood z start answers d) (good_weaker z start answers c' d v) fs s.node m) s.next

pub found : (z : ZeroOne) (start : Option ℕ) (answers : List (Option Bool) → ℕ → Type 0) (budget left : ℕ) (b : Best) (fs : List (List (Option Bool))) (ns : List CertNode) → BegunFor z start answers b.claim fs ns → fs ≡ [] → IsBest z b → b.start ≡ start → LeftsLast ns → branches ns + left ≡ budget → (HasLeft ns → left ≡ 0) → IsFound z start answers budget b ns
found z start answers budget left b fs ns h done best same last counts spent =
    let t = begun_done (IsGood z start answers b.claim) (unfixed z) ns (subst (λ gs. Begun (IsGood z start answers b.claim) (unfixed z) gs ns) done (h b.claim (weaker_same b.claim))) in
    record {
      best = best;
      same_start = same;
      tree = t.0;
      whole = t.1;
      good = t.2;
      lefts_last = last;
      within_budget = omega arith;
      cut_off = λ k. let z = spent k in omega arith;
    }
