use Rattle.std.proofs.Common.{◌≡◌, length, replicate, pos, refl, sym, ◌∙◌, ap, subst, rules}
use Rattle.std.specs.List.{All}
use Rattle.std.proofs.lemmas.List.{length-replicate}
use Rattle.std.proofs.lemmas.List.Elements.{All-replicate}
use Rattle.zo_model.specs.Program.{columns}
use Rattle.zo_solve.proofs.search.search.Goals as goal

pub walk-requires-clause-clear : goal.walk-requires-clause-clear
walk-requires-clause-clear g c =
    let v : c.in_ok-weights.weights.items ≡ replicate (columns c.args.z.now) (pos 0) = search rules in
    let w : c.deref_mut.result.now ≡ replicate (columns c.args.z.now) (pos 0) = c.deref_mut.ensures.value ∙ v in
    record {
      one_a_column = ap length w ∙ length-replicate (columns c.args.z.now) (pos 0);
      zero = subst (λ l. All (λ v. v ≡ pos 0) l) (sym w) (All-replicate (λ v. v ≡ pos 0) (columns c.args.z.now) (pos 0) refl);
    }
