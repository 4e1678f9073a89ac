use Rattle.std.proofs.Common.{refl, sym, subst, add-one}
use Rattle.nv_ast.specs.Types.{WordTy, word_parts}
use Rattle.nv_types_table.specs.inner.Store.{IsParts}
use Rattle.nv_types_table.proofs.Growing.{Extends-trans}
use Rattle.nv_types_table.proofs.table.Table.word_list.Goals as goal

pub loop-i-preserved : goal.loop-i-preserved
loop-i-preserved c = record {
  grows = Extends-trans c.args.self.now c.loop-i.self c.part.new.self c.loop-i.invariant.grows c.in_ok-list.ensures.grows;
  made = subst (λ n. IsParts c.part.new.self c.in_ok-list.list (word_parts n)) (sym (add-one c.loop-i.i)) (c.in_ok-list.ensures.made WordTy (word_parts c.loop-i.i) refl c.loop-i.invariant.made);
}
