use Rattle.std.proofs.Common.{◌≡◌, ◌∷◌, length, drop, refl, ap, subst, ◌∙◌, arith}
use Rattle.std.proofs.lemmas.List.{get_or_read}
use Rattle.ssu_ir.specs.declared.node.SsuNode.TheVariants.{Write}
use Rattle.ssu_ir.specs.Tree as ssu
use Rattle.ssu_make.specs.inner.Making.{counted, Becomes}
use Rattle.ssu_make.specs.Made.{names, literals}
use Rattle.ssu_make.proofs.Along.{words-rest}
use Rattle.ssu_make.proofs.Turns.{can-take-one, becomes-node, becomes-root}
use Rattle.ssu_make.proofs.NodeForms.{write-made}
use Rattle.ssu_make.proofs.tree.make_write.Goals as goal

pub add-requires : goal.add-requires
add-requires c = can-take-one _ _ c.args.part.root.0 c.requires refl

pub literals-requires : goal.literals-requires
literals-requires c =
    let words = c.in_ok-from_slice.field-0 in
    let y = c.index.result.now in
    becomes-root _ _ _ _ _ (becomes-node c.args.build.now c.add.new.self (Write c.args.m y words c.args.part.root) c.args.part.root.0 c.in_ok-write.write.0 (ssu.Write c.args.m y words.items) c.in_ok-write.ensures.grown refl refl) c.requires

pub returns-clause-tree : goal.returns-clause-tree
returns-clause-tree c =
    let words = c.in_ok-from_slice.field-0 in
    let ys = c.in_ok-ys.ys.items in
    let y = c.index.result.now in
    let base = counted c.args.bases.now in
    let r = counted c.args.part.counts in
    let n = c.args.fresh.now in
    let list = c.in_ok-list.list.items in
    let named : ys ≡ names base r n list = c.in_ok-ys.ensures.names ∙ ap (names base r n) c.deref.ensures.value in
    let whole : ys ≡ names base r n (c.args.a ∷ c.args.bs.now) = named ∙ ap (names base r n) c.in_ok-list.ensures in
    let many = ap length whole in
    let rest = c.in_ok-from_slice.ensures.ok ∙ words-rest c.deref-2.result.now ∙ ap (drop 1) c.deref-2.ensures.value in
    let after = subst (λ l. Becomes c.add.new.self c.literals.new.build c.in_ok-write.write.0 c.in_ok-root.root.0 (literals n l)) c.deref-3.ensures.value c.in_ok-root.ensures in
    write-made c.args.build.now c.add.new.self c.literals.new.build (Write c.args.m y words c.args.part.root) c.args.part.root.0 c.in_ok-write.write.0 c.in_ok-root.root.0 base r n c.args.m c.args.a c.args.bs.now list ys words.items y
    c.in_ok-list.ensures named (get_or_read ys 0 y (omega (arith, many)) c.index.ensures 0) rest c.in_ok-write.ensures.grown refl refl after
