-- The view of a term, node by node.
use Rattle.std.proofs.Common.{◌≡◌, ℕ, rules, Vec, Box}
use Rattle.std.specs.declared.alloc.Global.{Global}
use Rattle.nv_base.specs.declared.term.Atom.{Atom}
use Rattle.nv_base.specs.declared.term.Cmp.{Cmp}
use Rattle.nv_base.specs.declared.term.Mem.{Mem}
use Rattle.nv_base.specs.declared.term.Primitive.{Primitive}
use Rattle.cps_ir.specs.declared.term.Term.{Term, Let, Read, Write, If, Fix, the_lemmas}
use Rattle.cps_ir.specs.declared.term.Cont.{Cont}
use Rattle.cps_ir.specs.View.{term_view, label_view, labels_view}
use Rattle.cps_ir.specs.Term as pure

pub view-Let : (x : ℕ) (a : Primitive) (t : Box Term Global) → term_view (Let x a t) ≡ pure.Let x a (term_view t.value)
view-Let x a t = search (rules, the_lemmas)

pub view-Read : (m : Mem) (xs : _) (a : Atom) (t : Box Term Global) → term_view (Read m xs a t) ≡ pure.Read m xs.items a (term_view t.value)
view-Read m xs a t = search (rules, the_lemmas)

pub view-Write : (m : Mem) (a : Atom) (bs : _) (t : Box Term Global) → term_view (Write m a bs t) ≡ pure.Write m a bs.items (term_view t.value)
view-Write m a bs t = search (rules, the_lemmas)

pub view-If : (c : Cmp) (a b : Atom) (t u : Box Term Global) → term_view (If c a b t u) ≡ pure.If c a b (term_view t.value) (term_view u.value)
view-If c a b t u = search (rules, the_lemmas)

pub view-Fix : (ls : Vec Cont Global) (t : Box Term Global) → term_view (Fix ls t) ≡ pure.Fix (labels_view ls.items) (term_view t.value)
view-Fix ls t = search (rules, the_lemmas)

pub view-Cont : (c : Cont) → label_view c ≡ record { label = c.label; params = c.params.items; body = term_view c.body }
view-Cont c = search (rules, the_lemmas)
