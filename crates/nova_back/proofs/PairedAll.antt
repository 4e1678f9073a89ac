-- The vector of the paired choice: it meets all lines, and costs little.
use Rattle.std.proofs.Common.{◌≡◌, ℕ, ◌≤◌, nat_eq, Bool, true, not, ◌&&◌, List, ◌++◌, map, refl, sym, ap, subst, ◌∙◌}
use Rattle.std.specs.Prelude.{All, is_some}
use Rattle.std.specs.List.{flat_map}
use Rattle.ssu_ir.specs.Measures.{peak}
use Rattle.ssu_ir.specs.Single.{single}
use Rattle.ssu_ir.specs.Tree.{Label}
use Rattle.place_plan.specs.Uses.{accesses, values, uses}
use Rattle.std.proofs.Math.Nat.{le_trans, mul-le-mul_right}
use Rattle.place_plan.proofs.Sound.{Each, each-append}
use Rattle.place_plan.proofs.Spilled.{each-all}
use Rattle.zo_model.specs.Program.{vector, costs_of}
use Rattle.bank_prog_form.specs.declared.column.Bank.{Bank}
use Rattle.bank_prog_form.specs.declared.column.Bank.TheVariants.{A, B, M, T, L, A15, W}
use Rattle.bank_prog_form.specs.declared.column.Column.{Column}
use Rattle.bank_prog_form.specs.declared.column.Column.TheVariants.{Def, DirectWrite, Fill, Stay, EarlyWrite, First, Serve, ReadVia, WriteVia}
use Rattle.bank_prog_form.specs.Columns.{columns, costs, priced}
use Rattle.bank_prog.specs.Weighted.{weighted_costs}
use Rattle.bank_prog.specs.Meaning.{Chosen, on, named_cost, Holds}
use Rattle.bank_prog_form.specs.Program.{Numbers, number_of}
use Rattle.bank_prog_form.specs.Rows.{Line, lines, parameter_choice, result_choice, access_choice, use_choice, one_choice, use_cover, copy_cover, argument_cover, homes_cover, operand_banks, capacity, owners, adjacency, passes}
use Rattle.bank_prog.proofs.LawsColumns.{on-there, chosen-on}
use Rattle.bank_prog.proofs.LawsCost.{costs-by-name}
use Rattle.nova_back.specs.Causes.{IsCheapFor, copies_cost}
use Rattle.nova_back.proofs.ColumnLabels.{weighted-cost}
use Rattle.nova_back.specs.inner.Paired.{fills, serves, paired}
use Rattle.nova_back.proofs.PairedCost.{paired-cost}
use Rattle.nova_back.proofs.PairedOn.{IsPaired}
use Rattle.nova_back.proofs.PairedPoints.{operands-lines, capacity-lines, owners-lines, adjacency-lines, passes-lines}
use Rattle.nova_back.proofs.PairedRows.{parameter-lines, result-lines, access-lines, use-lines, cover-lines, copies-lines, arguments-lines}
use Rattle.reg_assign_reading.proofs.ChosenHolds.{flat-each}
use Rattle.reg_assign_reading.proofs.Counts.{In, each-from}

-- ---- all lines

made : {X : Type 0} (on : Chosen) (f : X → List Line) (xs : List X) → ((x : X) → In x xs → Each (Holds on) (f x)) → Each (Holds on) (flat_map f xs)
made on f xs h = flat-each (Holds on) f xs (each-from (λ x. Each (Holds on) (f x)) xs h)

one-choices : (labels : List Label) (on : Chosen) → IsPaired labels on → Each (Holds on) (one_choice labels)
one-choices labels on g =
    let vs = values labels in
    let c3 = flat_map access_choice (accesses labels) in
    let c4 = flat_map use_choice (uses labels) in
    each-append (Holds on) (flat_map parameter_choice vs) (flat_map (result_choice labels) vs ++ (c3 ++ c4)) (made on parameter_choice vs (λ v i. parameter-lines labels on v g i))
    (each-append (Holds on) (flat_map (result_choice labels) vs) (c3 ++ c4) (made on (result_choice labels) vs (λ v i. result-lines labels on v g i))
    (each-append (Holds on) c3 c4 (made on access_choice (accesses labels) (λ a i. access-lines labels on a g i)) (made on use_choice (uses labels) (λ u i. use-lines labels on u g i))))

homes-cover : (labels : List Label) (on : Chosen) → IsPaired labels on → Each (Holds on) (homes_cover labels)
homes-cover labels on g =
    let us = uses labels in
    let vs = values labels in
    each-append (Holds on) (flat_map (use_cover labels) us) (flat_map (copy_cover labels) vs ++ flat_map (argument_cover labels) us) (made on (use_cover labels) us (λ u i. cover-lines labels on u g i))
    (each-append (Holds on) (flat_map (copy_cover labels) vs) (flat_map (argument_cover labels) us)
    (made on (copy_cover labels) vs (λ v i. copies-lines labels on v g i)) (made on (argument_cover labels) us (λ u i. arguments-lines labels on u g i)))

pub paired-lines : (labels : List Label) (on : Chosen) (slots : ℕ) → IsPaired labels on → peak labels ≤ 15 → All (Holds on) (lines labels slots)
paired-lines labels on slots g l =
    let r6 = adjacency labels ++ passes labels in
    let r5 = owners labels ++ r6 in
    let r4 = capacity labels slots ++ r5 in
    let r3 = operand_banks labels ++ r4 in
    let r2 = homes_cover labels ++ r3 in
    each-all (Holds on) (lines labels slots)
    (each-append (Holds on) (one_choice labels) r2 (one-choices labels on g)
    (each-append (Holds on) (homes_cover labels) r3 (homes-cover labels on g)
    (each-append (Holds on) (operand_banks labels) r4 (operands-lines labels on g)
    (each-append (Holds on) (capacity labels slots) r5 (capacity-lines labels on slots g l)
    (each-append (Holds on) (owners labels) r6 (owners-lines labels on g)
    (each-append (Holds on) (adjacency labels) (passes labels) (adjacency-lines labels on g) (passes-lines labels on g)))))))

-- ---- the vector

fills-same : (n m : Numbers) (x : ℕ) (h : Bank) → ((c : Column) → n c ≡ m c) → fills n x h ≡ fills m x h
fills-same n m x A e = ap (λ o. not (is_some o)) (e (Def x A))
fills-same n m x B e = refl
fills-same n m x M e = refl
fills-same n m x T e = refl
fills-same n m x L e = refl
fills-same n m x A15 e = refl
fills-same n m x W e = refl

paired-same : (n m : Numbers) (c : Column) → ((c : Column) → n c ≡ m c) → paired n c ≡ paired m c
paired-same n m (Def x h) e = refl
paired-same n m (DirectWrite k i f) e = refl
paired-same n m (Fill x h) e = fills-same n m x h e
paired-same n m (Stay x f) e = refl
paired-same n m (EarlyWrite k i f) e = refl
paired-same n m (First k f) e = refl
paired-same n m (Serve k i h p) e = ap (λ o. serves (nat_eq i 1 && is_some o) h p) (e (Serve k i M L))
paired-same n m (ReadVia k r) e = refl
paired-same n m (WriteVia k r) e = refl

pub vector-paired : (labels : List Label) (number : Numbers) (items : List Bool) → single labels ≡ true → ((c : Column) → number c ≡ number_of labels c) → items ≡ map (paired number) (columns labels) → IsPaired labels (on labels (vector items))
vector-paired labels number items form h e = record {
  form = form;
  only = on-there labels (vector items);
  same = λ c m. ap (λ l. on labels (vector l) c) e ∙ chosen-on labels (paired number) c m ∙ paired-same number (number_of labels) c h;
}

pub paired-costs : (labels : List Label) (ws : List ℕ) (x : ℕ → Bool) → IsPaired labels (on labels x) → IsCheapFor labels ws (costs_of (weighted_costs labels ws) x)
paired-costs labels ws x g = λ most all.
    let a : costs_of (costs labels) x ≡ named_cost (on labels x) (priced labels) = costs-by-name labels x g.form in
    let b : named_cost (on labels x) (priced labels) ≤ copies_cost labels = paired-cost labels (on labels x) g in
    le_trans (weighted-cost labels ws most x all) (mul-le-mul_right most (subst (λ n. n ≤ copies_cost labels) (sym a) b))
