use Rattle.std.proofs.Common.{◌∙◌, ◌++◌, ◌≤◌, ◌+◌, ap, sym, subst, map, take, drop, length, arith, refl, append-nil}
use Rattle.nv_ast.specs.ProgramView.{fun_tree}
use Rattle.nv_types_scopes.specs.inner.Declarations.{costing}
use Rattle.nv_types_scopes.proofs.Images.{image_before, image_behind, image_all}
use Rattle.nv_types_scopes.proofs.Groups.{Costed, costed_more}
use Rattle.nv_types_scopes.proofs.functions.Checker.add_costs.Goals as goal

pub loop-f-init : goal.loop-f-init
loop-f-init c = record {
  so = λ fresh. record { added = sym (append-nil c.args.self.now.costs); new_names = fresh };
  same_table = refl;
  same_layouts = refl;
  same_exceptions = refl;
  same_functions = refl;
  same_scope = refl;
}

pub loop-f-preserved : goal.loop-f-preserved
loop-f-preserved c =
    let i = c.loop-f.f-index in
    let fs = c.args.fs.now in
    let f = c.f-item.result in
    let last = c.loop-f.invariant in
    record {
      so = λ fresh.
          subst (λ done. Costed c.args.self.now (record c.loop-f.self { costs = c.add.new.self }) c.args.whole done (map fun_tree (drop (i + 1) fs))) (sym (image_before fun_tree fs i f c.loop-f-test.true c.f-item.is))
          (costed_more c.args.self.now c.loop-f.self (record c.loop-f.self { costs = c.add.new.self }) c.args.whole (map fun_tree (take i fs)) (map fun_tree (drop (i + 1) fs)) (fun_tree f)
          (subst (λ rest. Costed c.args.self.now c.loop-f.self c.args.whole (map fun_tree (take i fs)) rest) (image_behind fun_tree fs i f c.loop-f-test.true c.f-item.is) (last.so fresh)) c.in_ok-add.ensures.new_name);
      same_table = last.same_table;
      same_layouts = last.same_layouts;
      same_exceptions = last.same_exceptions;
      same_functions = last.same_functions;
      same_scope = last.same_scope;
    }

pub returns : goal.returns
returns c =
    let i = c.loop-f.f-index in
    let fs = c.args.fs.now in
    let last = c.loop-f.invariant in
    let past : length c.args.fs.now ≤ c.loop-f.f-index = omega arith in
    record {
      added = λ fresh. (last.so fresh).added ∙ ap (λ done. c.args.self.now.costs ++ costing c.args.whole done) (image_all fun_tree fs i past);
      same_table = last.same_table;
      same_layouts = last.same_layouts;
      same_exceptions = last.same_exceptions;
      same_functions = last.same_functions;
      same_scope = last.same_scope;
    }
