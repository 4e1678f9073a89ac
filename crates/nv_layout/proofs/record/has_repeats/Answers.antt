use Rattle.std.proofs.Common.{rules, ◌≡◌, ◌∙◌, ◌+◌, Bool, true, false, cond, not, ◌||◌, ◌<◌, length, take, drop, bytes_eq, ap, sym, arith}
use Rattle.std.specs.HashSet.{contains}
use Rattle.nv_ast.specs.Tests.{is_among, has_twice}
use Rattle.nv_ast.proofs.Items.{take_item, split_item}
use Rattle.nv_ast.proofs.Twice.{twice_more, twice_here, among_more}
use Rattle.nv_layout.proofs.record.has_repeats.Goals as goal

turned_back : (b r : Bool) → r ≡ not b → b ≡ not r
turned_back true r e = ap not (sym e)
turned_back false r e = ap not (sym e)

pub returns-then-not-branch : goal.returns-then-not-branch
returns-then-not-branch c =
    let i = c.loop-name.name-index in
    let x = c.name-item.result in
    let names = c.args.names.now in
    let h : c.loop-name.name-index < length c.args.names.now = omega arith in
    let cloned : c.in_ok-clone.field-0 ≡ c.name-item.result = c.in_ok-clone.ensures.cases in
    let old : c.in_ok-insert.field-0 ≡ false = search rules in
    let has : contains bytes_eq c.loop-name.seen c.in_ok-clone.field-0 ≡ true = turned_back _ _ c.in_ok-insert.ensures.added ∙ ap not old in
    let among : is_among x (take i names) ≡ true = sym (c.loop-name.invariant.holds x) ∙ ap (contains bytes_eq c.loop-name.seen) (sym cloned) ∙ has in
    sym (ap has_twice (split_item names i x h c.name-item.is) ∙ twice_here (take i names) (drop (i + 1) names) x among)

pub loop-name-preserved : goal.loop-name-preserved
loop-name-preserved c =
    let i = c.loop-name.name-index in
    let x = c.name-item.result in
    let names = c.args.names.now in
    let h : c.loop-name.name-index < length c.args.names.now = omega arith in
    let cloned : c.in_ok-clone.field-0 ≡ c.name-item.result = c.in_ok-clone.ensures.cases in
    let new : c.in_ok-insert.field-0 ≡ true = search rules in
    let absent : contains bytes_eq c.loop-name.seen c.in_ok-clone.field-0 ≡ false = turned_back _ _ c.in_ok-insert.ensures.added ∙ ap not new in
    let among : is_among x (take i names) ≡ false = sym (c.loop-name.invariant.holds x) ∙ ap (contains bytes_eq c.loop-name.seen) (sym cloned) ∙ absent in
    record {
      holds = λ q.
          c.in_ok-insert.ensures.updates.0 q
          ∙ ap (λ k. cond (bytes_eq k q) true (contains bytes_eq c.loop-name.seen q)) cloned
          ∙ ap (λ b. cond (bytes_eq x q) true b) (c.loop-name.invariant.holds q)
          ∙ among_more q x (take i names)
          ∙ ap (is_among q) (sym (take_item names i x h c.name-item.is));
      once = ap has_twice (take_item names i x h c.name-item.is) ∙ twice_more (take i names) x ∙ ap (λ b. b || has_twice (take i names)) among ∙ c.loop-name.invariant.once;
    }
