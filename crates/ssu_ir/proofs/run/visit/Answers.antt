use Rattle.std.proofs.Common.{◌<◌, List, ℕ, All, length, sym, ap, ◌∙◌, subst, arith}
use Rattle.std.specs.Prelude.{vec_capacity}
use Rattle.nv_base.specs.Words.{assigned_all}
use Rattle.ssu_ir.specs.Entered.{Exit}
use Rattle.ssu_ir.specs.inner.Running.{LeftBy, env_of}
use Rattle.ssu_ir.proofs.Visits.{label-inside, visited, visited-exit}
use Rattle.ssu_ir.proofs.run.visit.Goals as goal

pub index-l-requires : goal.index-l-requires
index-l-requires c = let h = label-inside c.args.s.now (length c.args.words.now.items) c.args.label c.requires.fits in omega (arith, h, c.args.s.now.labels.ok.0)

pub assign_all-requires-clause-many : goal.assign_all-requires-clause-many
assign_all-requires-clause-many c =
    let v = visited c.args.s.now c.index-l.result.now c.args.label c.args.words.now.items (length c.args.values.now) (vec_capacity c.args.words.now) c.args.s.now.formed c.requires.single c.requires.fits c.requires.room c.index-l.ensures in
    ap length c.deref.ensures.value ∙ v.many ∙ sym (ap length c.deref-2.ensures.value)

pub assign_all-requires-clause-places : goal.assign_all-requires-clause-places
assign_all-requires-clause-places c =
    let v = visited c.args.s.now c.index-l.result.now c.args.label c.args.words.now.items (length c.args.values.now) (vec_capacity c.args.words.now) c.args.s.now.formed c.requires.single c.requires.fits c.requires.room c.index-l.ensures in
    let P : List ℕ → Type 0 = λ xs. All (λ x. x < length c.args.values.now) xs in
    subst P (sym c.deref.ensures.value) v.params

pub leave-requires-clause-tree : goal.leave-requires-clause-tree
leave-requires-clause-tree c =
    let v = visited c.args.s.now c.index-l.result.now c.args.label c.args.words.now.items (length c.args.values.now) (vec_capacity c.args.words.now) c.args.s.now.formed c.requires.single c.requires.fits c.requires.room c.index-l.ensures in
    v.has

pub leave-requires-clause-nodes : goal.leave-requires-clause-nodes
leave-requires-clause-nodes c =
    let v = visited c.args.s.now c.index-l.result.now c.args.label c.args.words.now.items (length c.args.values.now) (vec_capacity c.args.words.now) c.args.s.now.formed c.requires.single c.requires.fits c.requires.room c.index-l.ensures in
    v.nodes

pub leave-requires-clause-once : goal.leave-requires-clause-once
leave-requires-clause-once c =
    let v = visited c.args.s.now c.index-l.result.now c.args.label c.args.words.now.items (length c.args.values.now) (vec_capacity c.args.words.now) c.args.s.now.formed c.requires.single c.requires.fits c.requires.room c.index-l.ensures in
    v.once

pub returns-clause-left : goal.returns-clause-left
returns-clause-left c =
    λ log0 w a.
    let env = env_of c.args.values.now in
    let ws = c.args.words.now.items in
    let l = c.index-l.result.now in
    let v = visited c.args.s.now l c.args.label ws (length c.args.values.now) (vec_capacity c.args.words.now) c.args.s.now.formed c.requires.single c.requires.fits c.requires.room c.index-l.ensures in
    let P : Exit → Type 0 = λ e. LeftBy e log0 c.leave.result c.leave.new.words.items c.leave.new.p c.leave.new.log in
    subst P
    (visited-exit c.args.s.now l c.args.label ws (length c.args.values.now) env (env_of c.assign_all.new.values) w v
    (c.assign_all.ensures.env ∙ ap (λ xs. assigned_all env xs c.deref-2.result.now) c.deref.ensures.value ∙ ap (λ vs. assigned_all env l.params.items vs) c.deref-2.ensures.value))
    (c.leave.ensures.left log0 w a)
