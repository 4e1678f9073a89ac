use Rattle.std.proofs.Common.{◌≡◌, ◌∙◌, ◌≤◌, ℕ, [], ◌∷◌, ap, sym, subst, take, length, Some, None}
use Rattle.std.proofs.lemmas.List.{length-take-le}
use Rattle.nv_base.proofs.Operands.{is_access}
use Rattle.nv_base.specs.Memories.{IsAccess, fetched}
use Rattle.nv_meaning_values.specs.Running.{Gives}
use Rattle.nv_meaning_values.proofs.Access.{fetch-done, fetch-bad, at_most_eight}
use Rattle.nv_meaning_values.proofs.memory.fetched.Goals as goal

-- as many words as were asked for
taken : (n : ℕ) → n ≤ 8 → length {A = ℕ} (take n (0 ∷ 0 ∷ 0 ∷ 0 ∷ 0 ∷ 0 ∷ 0 ∷ 0 ∷ [])) ≡ n
taken n h = length-take-le n (0 ∷ 0 ∷ 0 ∷ 0 ∷ 0 ∷ 0 ∷ 0 ∷ 0 ∷ []) h

pub read-requires : goal.read-requires
read-requires c =
    let h = sym c.can_move.ensures ∙ c.if-not-can_move.false in
    subst (λ k. IsAccess c.args.m k) (sym (taken c.args.n (at_most_eight c.args.m c.args.n h))) (is_access c.args.m c.args.n h)

pub returns-in_ok-value_of_words-in-Done : goal.returns-in_ok-value_of_words-in-Done
returns-in_ok-value_of_words-in-Done c = λ now same.
    let h = sym c.can_move.ensures ∙ c.if-not-can_move.false in
    fetch-done c.args.m c.args.n c.args.at c.read.new.into c.args.p.now now h same
    (subst (λ k. fetched c.args.m c.args.at k c.args.p.now ≡ Some c.read.new.into) (taken c.args.n (at_most_eight c.args.m c.args.n h)) (c.read.ensures.done c.in-Done.is))
    ∙ ap (λ v. Gives v now) (sym c.in_ok-value_of_words-in-Done.ensures)

pub returns-in-Bad : goal.returns-in-Bad
returns-in-Bad c = λ now same.
    let h = sym c.can_move.ensures ∙ c.if-not-can_move.false in
    fetch-bad c.args.m c.args.n c.args.at c.args.p.now now h same
    (subst (λ k. fetched c.args.m c.args.at k c.args.p.now ≡ None) (taken c.args.n (at_most_eight c.args.m c.args.n h)) (c.read.ensures.bad c.in-Bad.is))
