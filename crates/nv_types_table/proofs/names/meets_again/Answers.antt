use Rattle.std.proofs.Common.{rules, ◌≡◌, ◌∙◌, ◌+◌, ◌++◌, ◌∷◌, [], List, ℕ, true, false, cond, not, ◌||◌, ◌<◌, length, take, drop, bytes_eq, ap, sym, arith}
use Rattle.std.specs.Borrow.{Bor}
use Rattle.std.specs.List.{list_any}
use Rattle.std.proofs.lemmas.List.Folds.{list_any-append}
use Rattle.nv_ast.specs.Tests.{is_among, has_twice}
use Rattle.nv_ast.proofs.Items.{take_item, split_item}
use Rattle.nv_types_table.specs.inner.Named.{plain_names}
use Rattle.nv_types_table.proofs.Found.{plain-append, turned_back}
use Rattle.nv_ast.proofs.Twice.{twice_more, twice_here}
use Rattle.nv_types_table.proofs.names.meets_again.Goals as goal

pub returns-then-not-branch : goal.returns-then-not-branch
returns-then-not-branch c =
    let i = c.loop-name.name-index in
    let x = c.name-item.result in
    let names = c.args.names.now in
    let h : c.loop-name.name-index < length c.args.names.now = omega arith in
    let old : c.in_ok-insert.field-0 ≡ false = search rules in
    let has : list_any (λ k. bytes_eq c.name-item.result.now k.now) c.loop-name.seen.keys ≡ true = turned_back _ _ c.in_ok-insert.ensures.added ∙ ap not old in
    let among : is_among x.now (plain_names (take i names)) ≡ true = sym (c.loop-name.invariant.holds x.now) ∙ has in
    sym (ap (λ l. has_twice (plain_names l)) (split_item names i x h c.name-item.is) ∙ ap has_twice (plain-append (take i names) (x ∷ drop (i + 1) names)) ∙ twice_here (plain_names (take i names)) (plain_names (drop (i + 1) names)) x.now among)

pub loop-name-preserved : goal.loop-name-preserved
loop-name-preserved c =
    let i = c.loop-name.name-index in
    let x = c.name-item.result in
    let names = c.args.names.now in
    let h : c.loop-name.name-index < length c.args.names.now = omega arith in
    let new : c.in_ok-insert.field-0 ≡ true = search rules in
    let absent : list_any (λ k. bytes_eq c.name-item.result.now k.now) c.loop-name.seen.keys ≡ false = turned_back _ _ c.in_ok-insert.ensures.added ∙ ap not new in
    let among : is_among x.now (plain_names (take i names)) ≡ false = sym (c.loop-name.invariant.holds x.now) ∙ absent in
    let next : plain_names (take (i + 1) names) ≡ plain_names (take i names) ++ x.now ∷ [] = ap plain_names (take_item names i x h c.name-item.is) ∙ plain-append (take i names) (x ∷ []) in
    let keys = c.in_ok-insert.ensures.keys ∙ ap (λ b. cond b c.loop-name.seen.keys (c.loop-name.seen.keys ++ c.name-item.result ∷ [])) absent in
    record {
      holds = λ q.
          ap (list_any (λ (k : Bor (List ℕ)). bytes_eq q k.now)) keys
          ∙ list_any-append (λ (k : Bor (List ℕ)). bytes_eq q k.now) c.loop-name.seen.keys (x ∷ [])
          ∙ ap (λ b. b || (bytes_eq q x.now || false)) (c.loop-name.invariant.holds q)
          ∙ sym (ap (is_among q) next ∙ list_any-append (bytes_eq q) (plain_names (take i names)) (x.now ∷ []));
      once = ap has_twice next ∙ twice_more (plain_names (take i names)) x.now ∙ ap (λ b. b || has_twice (plain_names (take i names))) among ∙ c.loop-name.invariant.once;
    }
