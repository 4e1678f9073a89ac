use Rattle.std.proofs.Common.{◌≡◌, ◌≤◌, ◌<◌, ◌≢◌, ℕ, ℤ, length, ◌∙◌, sym, ap, subst, refl, arith, get_or, set, pos, ◌+ℤ◌, SFits, to_z, of_z, w32, rules}
use Rattle.std.proofs.Math.Facts.{to_z-of_z}
use Rattle.std.specs.List.{insert}
use Rattle.std.proofs.lemmas.List.{get_or_default}
use Rattle.bank_prog_form.specs.Program.{Terms}
use Rattle.bank_prog_form.proofs.RowTerms.{add-between, add-there}
use Rattle.bank_prog_form.proofs.terms.add_term.Goals as goal

pub returns-in-Some : goal.returns-in-Some
returns-in-Some c =
    let ts : Terms = c.args.terms.now.items in
    let p : ℕ = c.place-i.result in
    let there = c.stands_at.ensures.there c.if-stands_at.true in
    let lt : p < length ts = subst (λ (us : Terms). p < length us) c.deref-2.ensures.value there.0 in
    let at : (get_or ts p (0, pos 0)).0 ≡ c.args.j = subst (λ (us : Terms). (get_or us p (0, pos 0)).0 ≡ c.args.j) c.deref-2.ensures.value there.1 in
    let below : (i : ℕ) → i < p → (get_or ts i (0, pos 0)).0 < c.args.j = λ i m. subst (λ (us : Terms). (get_or us i (0, pos 0)).0 < c.args.j) c.deref.ensures.value (c.place-i.ensures.below i m) in
    let s = c.in-Some.ensures c.in-Some.b refl in
    let x : c.index.result.now ≡ get_or ts p (0, pos 0) = c.index.ensures ∙ get_or_default ts p c.index.result.now (0, pos 0) lt in
    let fits : SFits w32 (c.index.result.now.1) = search rules in
    let sum : c.in-Some.b ≡ c.args.a +ℤ (get_or ts p (0, pos 0)).1 =
    s.1 ∙ ap (λ z. z +ℤ to_z w32 (of_z w32 c.index.result.now.1)) (to_z-of_z {w = w32} {z = c.args.a} c.ranges.a)
    ∙ ap (λ z. c.args.a +ℤ z) (to_z-of_z {w = w32} {z = c.index.result.now.1} fits ∙ ap (λ (t : ℕ × ℤ). t.1) x) in
    ap (λ z. set ts p (c.args.j, z)) (to_z-of_z {w = w32} {z = c.in-Some.b} s.0 ∙ sum) ∙ sym (add-there ts p c.args.j c.args.a lt below at)

pub returns-in_ok-insert : goal.returns-in_ok-insert
returns-in_ok-insert c =
    let ts : Terms = c.args.terms.now.items in
    let p : ℕ = c.place-i.result in
    let below : (i : ℕ) → i < p → (get_or ts i (0, pos 0)).0 < c.args.j = λ i m. subst (λ (us : Terms). (get_or us i (0, pos 0)).0 < c.args.j) c.deref.ensures.value (c.place-i.ensures.below i m) in
    let within : p ≤ length ts = subst (λ (us : Terms). p ≤ length us) c.deref.ensures.value c.place-i.ensures.within in
    let above : (i : ℕ) → p ≤ i → i < length ts → c.args.j ≤ (get_or ts i (0, pos 0)).0 =
    subst (λ (us : Terms). (i : ℕ) → p ≤ i → i < length us → c.args.j ≤ (get_or us i (0, pos 0)).0) c.deref.ensures.value c.place-i.ensures.above in
    let other : p < length ts → (get_or ts p (0, pos 0)).0 ≢ c.args.j =
    subst (λ (us : Terms). p < length us → (get_or us p (0, pos 0)).0 ≢ c.args.j) c.deref-2.ensures.value (c.stands_at.ensures.other c.if-stands_at.false) in
    let next : p < length ts → c.args.j < (get_or ts p (0, pos 0)).0 = λ m. let a = above p (omega arith) m in let o = other m in omega (arith, a, o) in
    c.in_ok-insert.ensures.items ∙ ap (λ z. insert ts p (c.args.j, z)) (to_z-of_z {w = w32} {z = c.args.a} c.ranges.a) ∙ sym (add-between ts p c.args.j c.args.a within below next)
