use Rattle.std.proofs.Common.{refl, sym, ◌∙◌, arith}
use Rattle.std.proofs.lemmas.Result.{IfOk-weaker}
use Rattle.ssu_ir.specs.Build.{Grown}
use Rattle.nv_base.specs.declared.term.Atom.TheVariants as atom
use Rattle.ssu_ir.specs.declared.node.SsuNode.TheVariants.{Lit}
use Rattle.ssu_make.specs.inner.Making.{Becomes}
use Rattle.ssu_make.specs.Made as made
use Rattle.ssu_make.proofs.Turns.{can-take-one}
use Rattle.ssu_make.proofs.NodeForms.{narrow-becomes}
use Rattle.ssu_make.proofs.nodes.literal.Goals as goal

pub add-requires : goal.add-requires
add-requires c = can-take-one _ _ c.args.root.0 c.requires.root refl

pub returns-then-is_literal : goal.returns-then-is_literal
returns-then-is_literal c =
    let n = c.args.n in
    let v = c.args.v in
    IfOk-weaker c.add.result (λ id. Grown c.args.build.now c.add.new.self (Lit n v c.args.root) id.0) (λ id. Becomes c.args.build.now c.add.new.self c.args.root.0 id.0 (made.atom_literal n (atom.Lit v)))
    (λ id g. narrow-becomes c.args.build.now c.add.new.self (Lit n v c.args.root) c.args.root.0 id.0 n v (sym c.is_literal.ensures ∙ c.if-is_literal.true) (omega arith) g refl refl) c.add.ensures.grown
