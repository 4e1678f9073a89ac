use Rattle.std.proofs.Common.{◌≡◌, ℕ, ◌<◌, ◌^◌, subst, [], ◌∷◌, ◌++◌, length, get_or, Some, slice_get, ℤ, pos, to_z, of_z, refl, sym, ◌∙◌, ap, arith}
use Rattle.std.specs.Global.{Vec}
use Rattle.std.specs.Int.{w32}
use Rattle.std.specs.List.{All}
use Rattle.std.proofs.lemmas.Int.{ints}
use Rattle.std.proofs.lemmas.List.{length-set}
use Rattle.std.proofs.lemmas.List.Elements.{All-get_or, All-set}
use Rattle.std.proofs.lemmas.Option.{slice_get_read}
use Rattle.zo_model.specs.Program.{AtMost}
use Rattle.zo_solve_dive.specs.inner.Keeping.{AreEntries, entries_of, along}
use Rattle.zo_solve_dive.proofs.Spread.{entries_more, spread_none, spread_step}
use Rattle.zo_solve_dive.proofs.tables.spread.Goals as goal

pub loop-j-init : goal.loop-j-init
loop-j-init c = record {
  as_many = refl;
  still = λ n lt h. h;
  longer = λ i j g there. spread_none (along i g (entries_of (slice_get c.args.columns.now j))) c.args.row i j g;
}

pub loop-j-preserved : goal.loop-j-preserved
loop-j-preserved c =
    let term : ℕ × ℤ = get_or c.args.terms.now c.loop-j.j-index (0, pos 0) in
    let fit : AtMost (2 ^ 15) term.1 = All-get_or (λ t. AtMost (2 ^ 15) t.1) c.args.terms.now c.loop-j.j-index (0, pos 0) (omega arith) c.requires.terms.coefficients_fit in
    let within : term.0 < length c.args.columns.now = All-get_or (λ t. t.0 < length c.args.columns.now) c.args.terms.now c.loop-j.j-index (0, pos 0) (omega arith) c.requires.terms.within in
    let inside : term.0 < length c.loop-j.columns = omega (arith, within, c.loop-j.invariant.as_many) in
    let at : slice_get c.loop-j.columns term.0 ≡ Some c.index-columns-j.result = slice_get_read c.loop-j.columns (length c.loop-j.columns) term.0 c.index-columns-j.result refl inside c.index-columns-j.is in
    let items : c.push.new.self.items ≡ c.index-columns-j.result.items ++ (c.args.row, term.1) ∷ [] = c.in_ok-push.ensures.items ∙ ap (λ (v : Vec (ℕ × ℤ)). v.items ++ (c.args.row, to_z w32 (of_z w32 term.1)) ∷ []) (sym c.index-columns-j.is) ∙ ap (λ (a : ℤ). c.index-columns-j.result.items ++ (c.args.row, a) ∷ []) (omega (arith, ints, fit.low, fit.high)) in
    record {
      as_many = length-set c.loop-j.columns term.0 c.push.new.self ∙ c.loop-j.invariant.as_many;
      still = λ n lt h.
          let all : All (λ v. AreEntries n v.items) c.loop-j.columns = c.loop-j.invariant.still n lt h in
          All-set (λ v. AreEntries n v.items) c.loop-j.columns term.0 c.push.new.self (entries_more n c.args.row term.1 c.index-columns-j.result.items c.push.new.self.items lt fit items (subst (λ v. AreEntries n v.items) (sym c.index-columns-j.is) (All-get_or (λ v. AreEntries n v.items) c.loop-j.columns term.0 c.index-columns-j.result inside all))) all;
      longer = spread_step c.args.columns.now c.loop-j.columns c.index-columns-j.result c.push.new.self c.args.terms.now c.args.row c.loop-j.j-index term.0 term.1 (omega arith) refl refl inside at items c.loop-j.invariant.longer;
    }
