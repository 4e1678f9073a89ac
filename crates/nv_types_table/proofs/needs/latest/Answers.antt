use Rattle.std.proofs.Common.{◌≡◌, ◌∙◌, ℕ, List, take, ◌++◌, ◌∷◌, sym, subst, arith, max, []}
use Rattle.std.proofs.lemmas.List.{take_all}
use Rattle.std.specs.Borrow.{Bor}
use Rattle.nv_types_table.specs.inner.Named.{named, plain_names}
use Rattle.nv_types_table.specs.inner.Needs.{IsEnd}
use Rattle.nv_types_table.proofs.Entries.{look_up-named}
use Rattle.nv_types_table.proofs.BlockEnds.{end_none, end_some, end_absent, names_then}
use Rattle.nv_types_table.proofs.needs.latest.Goals as goal
use Rattle.nv_types_table.proofs.needs.latest.Goals.{in-Some, in_default}

pub loop-name-init : goal.loop-name-init
loop-name-init c = λ xs first is. end_none first xs

pub loop-name-preserved : goal.loop-name-preserved
loop-name-preserved c = λ xs first is.
    let ns = c.args.names.now in
    let i = c.loop-name.name-index in
    let x = c.name-item.result in
    let es = c.args.ends.now.entries in
    let whole = names_then ns i x c.loop-name-test.true c.name-item.is in
    let was = c.loop-name.invariant xs first is in
    subst (λ (l : List (List ℕ)). IsEnd first xs l c.match-get.until) (sym whole)
    (elim c.match-get.branch [
      | in-Some w ↦
          let fresh : c.match-get.until ≡ max c.loop-name.until w.in-Some.end.now = omega (arith, w.until-is, w.max-until.ensures) in
          end_some first xs (plain_names (take i ns)) x.now (named es) c.loop-name.until w.in-Some.end.now c.match-get.until is was (sym (look_up-named x.now es) ∙ sym w.in-Some.ensures.value) fresh
      | in_default w ↦
          subst (λ (n : ℕ). IsEnd first xs (plain_names (take i ns) ++ x.now ∷ []) n) (sym w.until-is)
          (end_absent first xs (plain_names (take i ns)) x.now (named es) c.loop-name.until is was (sym (look_up-named x.now es) ∙ sym w.in_default.ensures.value))
    ])

pub returns : goal.returns
returns c = λ xs first is.
    subst (λ (l : List (Bor (List ℕ))). IsEnd first xs (plain_names l) c.loop-name.until) (take_all c.loop-name.name-index c.args.names.now c.loop-name-test.false) (c.loop-name.invariant xs first is)
