use Rattle.std.proofs.Common.{◌≡◌, ◌∙◌, ◌++◌, ap, refl, List, map}
use Rattle.std.specs.List.{flat_map}
use Rattle.ssu_ir.specs.Points.{points}
use Rattle.ssu_ir.specs.View.{labels_view}
use Rattle.place_plan.specs.Uses as pure
use Rattle.place_plan.specs.inner.UseViews.{use_view}
use Rattle.bank_prog_form.specs.Columns as columns
use Rattle.bank_prog_form.specs.inner.Form as form
use Rattle.bank_prog_form.proofs.Loops.{spend, spend-last, each-parts}
use Rattle.bank_prog.proofs.columns.columns_of.Goals as goal

pub returns : goal.returns
returns c =
    let labels = labels_view c.args.f.now.ssu.now in
    let right = c.args.f.now.right in
    let x1 : List columns.Priced = flat_map columns.def_columns (pure.values labels) in
    let e1 : flat_map (columns.def_columns) (map form.value_view c.deref.result.now) ≡ x1 = ap (λ xs. flat_map (columns.def_columns) (map form.value_view xs)) c.deref.ensures.value ∙ ap (flat_map (columns.def_columns)) right.values in
    let x2 : List columns.Priced = columns.all_dirs labels in
    let e2 : flat_map (form.part_dirs labels) (map form.summary_view c.deref-2.result.now) ≡ x2 = ap (λ xs. flat_map (form.part_dirs labels) (map form.summary_view xs)) c.deref-2.ensures.value ∙ ap (flat_map (form.part_dirs labels)) right.summaries ∙ each-parts (form.part_dirs labels) (columns.point_dirs labels) (λ k q. refl) 0 (points labels) in
    let x3 : List columns.Priced = flat_map (columns.fill_columns labels) (pure.values labels) in
    let e3 : flat_map (columns.fill_columns labels) (map form.value_view c.deref-3.result.now) ≡ x3 = ap (λ xs. flat_map (columns.fill_columns labels) (map form.value_view xs)) c.deref-3.ensures.value ∙ ap (flat_map (columns.fill_columns labels)) right.values in
    let x4 : List columns.Priced = columns.all_stays labels in
    let e4 : flat_map (form.part_stays labels) (map form.summary_view c.deref-4.result.now) ≡ x4 = ap (λ xs. flat_map (form.part_stays labels) (map form.summary_view xs)) c.deref-4.ensures.value ∙ ap (flat_map (form.part_stays labels)) right.summaries ∙ each-parts (form.part_stays labels) (columns.point_stays labels) (λ k q. refl) 0 (points labels) in
    let x5 : List columns.Priced = columns.all_ears labels in
    let e5 : flat_map (form.part_ears) (map form.summary_view c.deref-5.result.now) ≡ x5 = ap (λ xs. flat_map (form.part_ears) (map form.summary_view xs)) c.deref-5.ensures.value ∙ ap (flat_map (form.part_ears)) right.summaries ∙ each-parts (form.part_ears) (columns.point_ears) (λ k q. refl) 0 (points labels) in
    let x6 : List columns.Priced = flat_map columns.first_columns (pure.accesses labels) in
    let e6 : flat_map (columns.first_columns) (map form.access_view c.deref-6.result.now) ≡ x6 = ap (λ xs. flat_map (columns.first_columns) (map form.access_view xs)) c.deref-6.ensures.value ∙ ap (flat_map (columns.first_columns)) right.accesses in
    let x7 : List columns.Priced = flat_map (columns.srv_columns labels) (pure.uses labels) in
    let e7 : flat_map (columns.srv_columns labels) (map use_view c.deref-7.result.now) ≡ x7 = ap (λ xs. flat_map (columns.srv_columns labels) (map use_view xs)) c.deref-7.ensures.value ∙ ap (flat_map (columns.srv_columns labels)) right.uses in
    let x8 : List columns.Priced = columns.all_pas_l labels in
    let e8 : flat_map (form.part_pas_l) (map form.summary_view c.deref-8.result.now) ≡ x8 = ap (λ xs. flat_map (form.part_pas_l) (map form.summary_view xs)) c.deref-8.ensures.value ∙ ap (flat_map (form.part_pas_l)) right.summaries ∙ each-parts (form.part_pas_l) (columns.pas_l_columns) (λ k q. refl) 0 (points labels) in
    let x9 : List columns.Priced = columns.all_pas_s labels in
    let e9 : flat_map (form.part_pas_s labels) (map form.summary_view c.deref-9.result.now) ≡ x9 = ap (λ xs. flat_map (form.part_pas_s labels) (map form.summary_view xs)) c.deref-9.ensures.value ∙ ap (flat_map (form.part_pas_s labels)) right.summaries ∙ each-parts (form.part_pas_s labels) (columns.pas_s_columns labels) (λ k q. refl) 0 (points labels) in
    let g1 : c.push_defs.new.out.items ++ (x2 ++ (x3 ++ (x4 ++ (x5 ++ (x6 ++ (x7 ++ (x8 ++ (x9)))))))) ≡ columns.priced labels = spend (c.new-out.result.items) (c.push_defs.new.out.items) _ x1 (x2 ++ (x3 ++ (x4 ++ (x5 ++ (x6 ++ (x7 ++ (x8 ++ (x9)))))))) (columns.priced labels) c.in_ok-push_defs.ensures e1 (ap (λ o. o ++ (x1 ++ (x2 ++ (x3 ++ (x4 ++ (x5 ++ (x6 ++ (x7 ++ (x8 ++ (x9)))))))))) c.new-out.ensures.items) in
    let g2 : c.push_dirs.new.out.items ++ (x3 ++ (x4 ++ (x5 ++ (x6 ++ (x7 ++ (x8 ++ (x9))))))) ≡ columns.priced labels = spend (c.push_defs.new.out.items) (c.push_dirs.new.out.items) _ x2 (x3 ++ (x4 ++ (x5 ++ (x6 ++ (x7 ++ (x8 ++ (x9))))))) (columns.priced labels) c.in_ok-push_dirs.ensures e2 (g1) in
    let g3 : c.push_fills.new.out.items ++ (x4 ++ (x5 ++ (x6 ++ (x7 ++ (x8 ++ (x9)))))) ≡ columns.priced labels = spend (c.push_dirs.new.out.items) (c.push_fills.new.out.items) _ x3 (x4 ++ (x5 ++ (x6 ++ (x7 ++ (x8 ++ (x9)))))) (columns.priced labels) c.in_ok-push_fills.ensures e3 (g2) in
    let g4 : c.push_stays.new.out.items ++ (x5 ++ (x6 ++ (x7 ++ (x8 ++ (x9))))) ≡ columns.priced labels = spend (c.push_fills.new.out.items) (c.push_stays.new.out.items) _ x4 (x5 ++ (x6 ++ (x7 ++ (x8 ++ (x9))))) (columns.priced labels) c.in_ok-push_stays.ensures e4 (g3) in
    let g5 : c.push_ears.new.out.items ++ (x6 ++ (x7 ++ (x8 ++ (x9)))) ≡ columns.priced labels = spend (c.push_stays.new.out.items) (c.push_ears.new.out.items) _ x5 (x6 ++ (x7 ++ (x8 ++ (x9)))) (columns.priced labels) c.in_ok-push_ears.ensures e5 (g4) in
    let g6 : c.push_firsts.new.out.items ++ (x7 ++ (x8 ++ (x9))) ≡ columns.priced labels = spend (c.push_ears.new.out.items) (c.push_firsts.new.out.items) _ x6 (x7 ++ (x8 ++ (x9))) (columns.priced labels) c.in_ok-push_firsts.ensures e6 (g5) in
    let g7 : c.push_srvs.new.out.items ++ (x8 ++ (x9)) ≡ columns.priced labels = spend (c.push_firsts.new.out.items) (c.push_srvs.new.out.items) _ x7 (x8 ++ (x9)) (columns.priced labels) c.in_ok-push_srvs.ensures e7 (g6) in
    let g8 : c.push_pas_ls.new.out.items ++ (x9) ≡ columns.priced labels = spend (c.push_srvs.new.out.items) (c.push_pas_ls.new.out.items) _ x8 (x9) (columns.priced labels) c.in_ok-push_pas_ls.ensures e8 (g7) in
    spend-last (c.push_pas_ls.new.out.items) (c.push_pas_ss.new.out.items) _ x9 (columns.priced labels) c.in_ok-push_pas_ss.ensures e9 g8
