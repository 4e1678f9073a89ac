use Rattle.std.proofs.Common.{◌≤◌, ◌<◌, ◌∙◌, ◌+◌, ap, sym, subst, arith, ℕ, List, length, take, drop, cond, Some, bytes_eq}
use Rattle.std.specs.Borrow.{Bor}
use Rattle.nv_types_table.specs.inner.Named.{named, plain_names}
use Rattle.nv_types_table.specs.inner.Needs.{IsEnds}
use Rattle.nv_types_table.proofs.Entries.{look_up-named}
use Rattle.nv_types_table.proofs.BlockEnds.{ends_none, ends_more, ends_all, name_there, as_many_plain}
use Rattle.nv_types_scopes.proofs.functions.Checker.add_places.Goals as goal

pub loop-i-init : goal.loop-i-init
loop-i-init c =
    let first = c.args.first in
    let w = plain_names c.args.self.now.written.items in
    subst (λ (es : List (Bor (List ℕ) × ℕ)). IsEnds first (drop first (take first w)) (named es)) (sym c.requires.none) (ends_none first w)

pub loop-i-preserved : goal.loop-i-preserved
loop-i-preserved c =
    let items = c.args.self.now.written.items in
    let i = c.loop-i.i in
    let x = c.index.result.now in
    let old = c.loop-i.ends.entries in
    let new = c.insert.new.self.entries in
    let lt : c.loop-i.i < length c.args.self.now.written.items = omega (arith, c.loop-i-test.true, c.len-i-end.ensures, c.args.self.now.written.ok.0) in
    ends_more (plain_names items) c.args.first i x.now (named old) (named new) c.loop-i.auto.i (omega (arith, lt, as_many_plain items)) (name_there items i x lt c.index.ensures) c.loop-i.invariant
    (λ y. sym (look_up-named y new) ∙ c.in_ok-insert.ensures.updates.0 (record x { now = y }) ∙ ap (cond (bytes_eq x.now y) (Some (i + 1))) (look_up-named y old))

pub returns : goal.returns
returns c =
    let items = c.args.self.now.written.items in
    let past : length (plain_names c.args.self.now.written.items) ≤ c.loop-i.i = omega (arith, c.loop-i-test.false, c.len-i-end.ensures, c.args.self.now.written.ok.0, as_many_plain items) in
    ends_all (plain_names items) c.args.first c.loop-i.i (named c.loop-i.ends.entries) past c.loop-i.invariant
