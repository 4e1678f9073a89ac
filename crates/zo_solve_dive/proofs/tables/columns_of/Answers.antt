use Rattle.std.proofs.Common.{◌≡◌, ◌+◌, ◌++◌, length, take, drop, sym, ◌∙◌, ap, subst, arith, rules}
use Rattle.zo_model.specs.Program.{AreSmallTerms, columns}
use Rattle.zo_cert_tree.proofs.Paths.{whole_back}
use Rattle.zo_solve_dive.specs.inner.Keeping.{IsSpread}
use Rattle.zo_solve_dive.proofs.Spread.{IsSoFar, row_at, so_far_more, so_far_none, so_far_whole}
use Rattle.zo_solve_dive.proofs.tables.columns_of.Goals as goal

pub loop-i-init : goal.loop-i-init
loop-i-init c = so_far_none c.args.z.now c.in_ok-columns.columns.items (c.in_ok-columns.ensures.many ∙ c.len.ensures ∙ search rules) c.in_ok-columns.ensures.empty

pub spread-requires : goal.spread-requires
spread-requires c =
    let row = row_at c.args.z.now c.loop-i.i c.index.result.now c.requires.valid (omega arith) c.index.ensures in
    let many : columns c.args.z.now ≡ length c.deref_mut.result.now = sym (ap length c.deref_mut.ensures.value ∙ c.loop-i.invariant.one_a_column) in
    record { terms = subst (λ ts. AreSmallTerms (length c.deref_mut.result.now) ts) (sym c.deref.ensures.value) (subst (λ n. AreSmallTerms n c.index.result.now.terms.items) many row.1) }

pub loop-i-preserved : goal.loop-i-preserved
loop-i-preserved c =
    let row = row_at c.args.z.now c.loop-i.i c.index.result.now c.requires.valid (omega arith) c.index.ensures in
    let s : IsSpread c.loop-i.i c.index.result.now.terms.items c.loop-i.columns.items c.spread.new.columns = subst (λ cs. IsSpread c.loop-i.i c.index.result.now.terms.items cs c.spread.new.columns) c.deref_mut.ensures.value (subst (λ ts. IsSpread c.loop-i.i ts c.deref_mut.result.now c.spread.new.columns) c.deref.ensures.value c.in_ok-spread.ensures) in
    let whole : take c.loop-i.columns.len (c.spread.new.columns ++ drop (length c.spread.new.columns) c.loop-i.columns.items) ≡ c.spread.new.columns = whole_back c.loop-i.columns.len c.spread.new.columns c.loop-i.columns.items s.as_many (search rules) in
    subst (IsSoFar c.args.z.now (c.loop-i.i + 1)) (sym whole) (so_far_more c.args.z.now c.loop-i.i c.loop-i.columns.items c.spread.new.columns c.index.result.now (omega arith) row.0 s c.loop-i.invariant)

pub returns : goal.returns
returns c = so_far_whole c.args.z.now c.loop-i.i c.loop-i.columns.items (omega arith) c.loop-i.invariant
