use Rattle.std.proofs.Common.{ℤ, ◌∙◌, sym, ap, subst, take, get_or, arith, to_z, of_z, w32}
use Rattle.std.specs.HashMap.{get}
use Rattle.std.proofs.Math.Facts.{to_z-of_z}
use Rattle.std.proofs.lemmas.List.{take_more, take_all}
use Rattle.bank_prog_form.specs.Program.{same_column, add_named}
use Rattle.bank_prog_form.specs.inner.Adds as adds
use Rattle.bank_prog_form.specs.declared.column.Column.TheVariants.{Def}
use Rattle.bank_prog_form.specs.declared.column.Bank.TheVariants.{A}
use Rattle.bank_prog_form.proofs.RowTerms.{each-last, rising-named}
use Rattle.bank_prog_form.proofs.terms.add_each.Goals as goal

pub loop-c-preserved : goal.loop-c-preserved
loop-c-preserved c =
    let number = get same_column c.args.numbers.now in
    let a : ℤ = to_z w32 (of_z w32 c.args.a) in
    let cs = c.args.cs.now in
    let i = c.loop-c.c-index in
    let x = get_or cs i (Def 0 A) in
    let start = c.args.terms.now.items in
    let e = c.in_ok-add_named.ensures in
    record {
      terms =
          e ∙ ap (add_named (number x) a) c.loop-c.invariant.terms ∙ sym (each-last number a (take i cs) x start)
          ∙ ap (λ xs. adds.add_each number a xs start) (sym (take_more cs i (Def 0 A) (omega arith)));
      rising = subst (adds.Rising 0) (sym e) (rising-named (number x) a c.loop-c.terms.items c.loop-c.invariant.rising);
    }

pub returns-clause-terms : goal.returns-clause-terms
returns-clause-terms c =
    c.loop-c.invariant.terms
    ∙ ap (λ a. adds.add_each (get same_column c.args.numbers.now) a (take c.loop-c.c-index c.args.cs.now) c.args.terms.now.items) (to_z-of_z {w = w32} {z = c.args.a} c.ranges.a)
    ∙ ap (λ xs. adds.add_each (get same_column c.args.numbers.now) c.args.a xs c.args.terms.now.items) (take_all c.loop-c.c-index c.args.cs.now (omega arith))
