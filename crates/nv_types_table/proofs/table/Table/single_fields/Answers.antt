use Rattle.std.proofs.Common.{◌+◌, ◌++◌, ◌∷◌, [], List, ℕ, sym, subst, take, arith}
use Rattle.nv_types_table.specs.inner.Lists.{ArePut}
use Rattle.nv_types_table.specs.inner.Named.{named}
use Rattle.nv_types_table.proofs.Growing.{Extends-trans}
use Rattle.nv_types_table.proofs.RowMaking.{put_one, put_more, named_more}
use Rattle.nv_types_table.proofs.table.Table.single_fields.Goals as goal

pub loop-entry-preserved : goal.loop-entry-preserved
loop-entry-preserved c =
    let xs = c.args.types.now in
    let i = c.loop-entry.entry-index in
    let p = c.entry-item.result in
    let a = c.args.self.now in
    let s = c.loop-entry.self in
    let b = c.number.new.self in
    let grows = Extends-trans s c.name_number.new.self b c.in_ok-name.ensures.grows c.in_ok-number.ensures.grows in
    let one = put_one a s c.name_number.new.self b (p.0.now, p.1) c.in_ok-name.name _ c.in_ok-number.field-0 c.part_number-t.ensures.store c.loop-entry.invariant.grows c.in_ok-name.ensures.grows c.in_ok-number.ensures.grows
    c.in_ok-name.ensures.there c.part_number-t.ensures.same c.in_ok-number.ensures.there in
    record {
      grows = Extends-trans a s b c.loop-entry.invariant.grows grows;
      put = subst (λ (l : List ℕ). ArePut a b (named (take (i + 1) xs)) l) (sym c.in_ok-push.ensures.items)
          (subst (λ (l : List (List ℕ × ℕ)). ArePut a b l (c.loop-entry.lists.items ++ c.in_ok-number.field-0 ∷ [])) (sym (named_more xs i p (omega (arith, c.loop-entry-test.true)) c.entry-item.is))
          (put_more a s b grows (named (take i xs)) c.loop-entry.lists.items (p.0.now, p.1) c.in_ok-number.field-0 c.loop-entry.invariant.put one));
    }
