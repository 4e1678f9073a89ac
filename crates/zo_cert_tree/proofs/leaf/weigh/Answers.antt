use Rattle.std.proofs.Common.{◌≡◌, ℕ, ◌+◌, ◌*◌, ◌^◌, length, pos, subst, sym, ◌∙◌, arith}
use Rattle.std.proofs.lemmas.List.Elements.{All-get_or, All-weaker}
use Rattle.zo_model.specs.Program.{AtMost, AreSmallTerms, columns}
use Rattle.zo_model.proofs.Scale.{AtMost-wider}
use Rattle.zo_model.proofs.Rows.{rise_at, terms_small}
use Rattle.zo_cert_tree.proofs.Leaves.{named, few, weight-none, weight-more, All-zero}
use Rattle.zo_cert_tree.proofs.leaf.weigh.Goals as goal

pub loop-i-init : goal.loop-i-init
loop-i-init c = record {
  kept = c.requires.clear.one_a_column;
  value = λ j h. All-get_or (λ w. w ≡ pos 0) c.args.weights.now j (pos 0) (omega (arith, c.requires.clear.one_a_column)) c.requires.clear.zero ∙ sym (weight-none c.args.z.now j);
  bounded = All-zero 0 c.args.weights.now c.requires.clear.zero;
}

pub index-requires : goal.index-requires
index-requires c = let r = rise_at c.args.multipliers.now 0 (length c.args.z.now.rows.items) c.loop-i.i-index (0, 0) c.requires.rows (omega arith) in omega (arith, r)

pub add_row-requires : goal.add_row-requires
add_row-requires c =
    let n = named c.args.z.now c.args.multipliers.now c.loop-i.i-index c.index.result.now c.requires.valid c.requires.rows (omega arith) c.index.ensures in
    let k = few c.args.z.now c.args.multipliers.now c.requires.valid c.requires.rows in
    record {
      terms = subst (λ (n : ℕ). AreSmallTerms n c.deref.result.now) (sym c.loop-i.invariant.kept) (subst (AreSmallTerms (columns c.args.z.now)) (sym c.deref.ensures.value) (terms_small (columns c.args.z.now) c.index.result.now.terms.items n.1.terms_fit));
      room = All-weaker (AtMost (2 ^ 73 * c.loop-i.i-index)) (AtMost (2 ^ 100)) (λ v h. AtMost-wider (2 ^ 73 * c.loop-i.i-index) (2 ^ 100) v (omega arith) h) c.loop-i.weights c.loop-i.invariant.bounded;
    }

pub loop-i-preserved : goal.loop-i-preserved
loop-i-preserved c =
    let n = named c.args.z.now c.args.multipliers.now c.loop-i.i-index c.index.result.now c.requires.valid c.requires.rows (omega arith) c.index.ensures in
    record {
      kept = omega arith;
      value = λ j h.
          let added = c.add_row.ensures.added j (omega (arith, c.loop-i.invariant.kept)) in
          let was = c.loop-i.invariant.value j h in
          let more = weight-more c.args.z.now c.args.multipliers.now j c.loop-i.i-index c.index.result.now (omega arith) n.0 in
          let d = c.deref.ensures.value in
          cc;
      bounded = All-weaker (AtMost (2 ^ 73 * c.loop-i.i-index + 2 ^ 73)) (AtMost (2 ^ 73 * (c.loop-i.i-index + 1))) (λ v h. AtMost-wider (2 ^ 73 * c.loop-i.i-index + 2 ^ 73) (2 ^ 73 * (c.loop-i.i-index + 1)) v (omega arith) h) c.add_row.new.weights (c.add_row.ensures.bounded (2 ^ 73 * c.loop-i.i-index) c.loop-i.invariant.bounded);
    }

pub returns-clause-bounded : goal.returns-clause-bounded
returns-clause-bounded c =
    let k = few c.args.z.now c.args.multipliers.now c.requires.valid c.requires.rows in
    All-weaker (AtMost (2 ^ 73 * c.loop-i.i-index)) (AtMost (2 ^ 99)) (λ v h. AtMost-wider (2 ^ 73 * c.loop-i.i-index) (2 ^ 99) v (omega arith) h) c.loop-i.weights c.loop-i.invariant.bounded
