use Rattle.zo_solve_dive.specs.Vector.{start_cost}
use Rattle.zo_solve.proofs.Endings.{ended, ended_below, ended_cut_off, ended_decided, ended_few, ended_limits, ended_no_dearer, ended_no_start, ended_picked, ended_proved, ended_searched, ended_shaped, ended_vector, ended_within}
use Rattle.zo_solve.proofs.search.solve_by.Goals as goal

pub returns : goal.returns
returns g c =
    let e = ended c.args.z.now c.in_ok-best.best.start (start_cost c.args.z.now c.args.start) c.args.budget c.search.new.best c.in_ok-nodes.nodes.items c.answer.result c.in_ok-best.ensures.start c.in_ok-nodes.ensures c.answer.ensures in
    record {
      vector = ended_vector c.args.z.now (start_cost c.args.z.now c.args.start) _ c.args.budget c.search.new.best c.in_ok-nodes.nodes.items c.answer.result e;
      proved = ended_proved c.args.z.now (start_cost c.args.z.now c.args.start) _ c.args.budget c.search.new.best c.in_ok-nodes.nodes.items c.answer.result e;
      cut_off = ended_cut_off c.args.z.now (start_cost c.args.z.now c.args.start) _ c.args.budget c.search.new.best c.in_ok-nodes.nodes.items c.answer.result e;
      no_start = ended_no_start c.args.z.now c.args.start _ c.args.budget c.search.new.best c.in_ok-nodes.nodes.items c.answer.result e;
      no_dearer = ended_no_dearer c.args.z.now (start_cost c.args.z.now c.args.start) _ c.args.budget c.search.new.best c.in_ok-nodes.nodes.items c.answer.result e;
      decided = λ le. ended_decided c.args.z.now (start_cost c.args.z.now c.args.start) _ c.args.budget c.search.new.best c.in_ok-nodes.nodes.items c.answer.result e le;
      shaped = ended_shaped c.args.z.now (start_cost c.args.z.now c.args.start) _ c.args.budget c.search.new.best c.in_ok-nodes.nodes.items c.answer.result e;
      searched = ended_searched c.args.z.now (start_cost c.args.z.now c.args.start) _ c.args.budget c.search.new.best c.in_ok-nodes.nodes.items c.answer.result e;
      within_budget = ended_within c.args.z.now (start_cost c.args.z.now c.args.start) _ c.args.budget c.search.new.best c.in_ok-nodes.nodes.items c.answer.result e;
      few_nodes = ended_few c.args.z.now (start_cost c.args.z.now c.args.start) _ c.args.budget c.search.new.best c.in_ok-nodes.nodes.items c.answer.result e;
      within_limits = ended_limits c.args.z.now (start_cost c.args.z.now c.args.start) _ c.args.budget c.search.new.best c.in_ok-nodes.nodes.items c.answer.result e;
      picked = ended_picked c.args.z.now (start_cost c.args.z.now c.args.start) _ c.args.budget c.search.new.best c.in_ok-nodes.nodes.items c.answer.result e;
      below_start = ended_below c.args.z.now (start_cost c.args.z.now c.args.start) _ c.args.budget c.search.new.best c.in_ok-nodes.nodes.items c.answer.result e;
    }
