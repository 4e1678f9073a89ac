use Rattle.std.proofs.Common.{◌≡◌, ◌≢◌, [], refl, sym, ◌∙◌, ap, subst, arith, rules}
use Rattle.zo_cert_tree.specs.Certificate.{branches, HasLeft}
use Rattle.zo_cert_tree.specs.inner.Path.{Pending}
use Rattle.zo_solve.specs.inner.Search.{LeftsLast}
use Rattle.zo_solve.proofs.Grow.{left_falls, left_spent, lefts_last_more, measure_falls}
use Rattle.zo_solve.proofs.Weaker.{begun_first, begun_step, found}
use Rattle.zo_solve.proofs.search.walk.Goals as goal

pub nodes-init : goal.nodes-init
nodes-init g c =
    record {
      program = c.requires.program;
      places = c.requires.places;
      same_costs = ap (λ (p : Pending). p.costs) c.requires.path;
      clear = c.requires.clear;
      is_best = c.requires.best;
      same_start = refl;
      begun = begun_first c.args.z.now c.args.best.now.start _ c.args.best.now.claim c.args.path.now.fixings c.args.nodes.now.items (ap (λ (p : Pending). p.fixings) c.requires.path) c.requires.none;
      counts = omega (arith, ap branches c.requires.none);
      lefts_last = subst LeftsLast (sym c.requires.none) tt;
      spent = λ h. absurd (subst HasLeft c.requires.none h);
    }

pub nodes-preserved : goal.nodes-preserved
nodes-preserved g c =
    let i = c.nodes.invariant in
    let s = c.in_ok-left.ensures in
    let start : c.step.new.best.start ≡ c.args.best.now.start = s.start ∙ i.same_start in
    record {
      program = s.program;
      places = s.places;
      same_costs = s.costs ∙ i.same_costs;
      clear = s.clear;
      is_best = s.best;
      same_start = start;
      begun = begun_step c.args.z.now c.args.best.now.start c.step.new.best.start _ c.nodes.best.claim c.step.new.best.claim c.nodes.path.fixings c.step.new.path.fixings c.nodes.nodes.items c.step.new.nodes.items c.nodes.left c.in_ok-left.left start i.begun s.weaker s.steps;
      counts = left_falls c.nodes.nodes.items c.step.new.nodes.items s.steps.node c.nodes.left c.in_ok-left.left s.steps.longer s.steps.leaves ∙ i.counts;
      lefts_last = lefts_last_more c.nodes.nodes.items c.step.new.nodes.items s.steps.node c.nodes.left c.in_ok-left.left s.steps.longer s.steps.leaves i.spent i.lefts_last;
      spent = left_spent c.nodes.nodes.items c.step.new.nodes.items s.steps.node c.nodes.left c.in_ok-left.left s.steps.longer s.steps.leaves i.spent;
    }

pub nodes-smaller : goal.nodes-smaller
nodes-smaller g c =
    let s = c.in_ok-left.ensures in
    let some : c.nodes.path.fixings ≢ [] = search rules in
    measure_falls c.nodes.path.fixings c.step.new.path.fixings s.steps.node c.nodes.left c.in_ok-left.left some s.steps.next s.steps.leaves

pub returns : goal.returns
returns g c =
    let i = c.nodes.invariant in
    let done : c.nodes.path.fixings ≡ [] = search rules in
    found c.args.z.now c.args.best.now.start _ c.args.budget c.nodes.left c.nodes.best c.nodes.path.fixings c.nodes.nodes.items i.begun done i.is_best i.same_start i.lefts_last i.counts i.spent
