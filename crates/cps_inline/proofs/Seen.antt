-- What a loop along a term comes to see.
use Rattle.std.proofs.Common.{◌≡◌, ℕ, false, rules, List, [], ◌∷◌, length, refl, sym, ap, ◌∙◌, Vec, Box}
use Rattle.std.specs.declared.alloc.Global.{Global}
use Rattle.nv_base.specs.declared.term.Atom.{Atom}
use Rattle.nv_base.specs.declared.term.Cmp.{Cmp}
use Rattle.cps_ir.specs.declared.term.Term.{Term, If, Fix, Throw, the_lemmas}
use Rattle.cps_ir.specs.declared.term.Cont.{Cont}
use Rattle.cps_ir.specs.View.{term_view, labels_view}
use Rattle.cps_ir.proofs.Views.{view-If, view-Fix, view-Cont}
use Rattle.cps_inline.specs.inner.Inlined.{is_one}
use Rattle.cps_ir.specs.Term as pure

-- a single label
pub view-one : (c : Cont) → labels_view (c ∷ []) ≡ pure.label c.label c.params.items (term_view c.body) pure.none
view-one c = ap (λ s. pure.label s.label s.params s.body pure.none) (view-Cont c)

pub seen-If : (cur : Term) (c : Cmp) (a b : Atom) (q r : Box Term Global) (part rest : Term) → cur ≡ If c a b q r → part ≡ q.value → rest ≡ r.value → term_view cur ≡ pure.If c a b (term_view part) (term_view rest)
seen-If cur c a b q r part rest is e f = ap term_view is ∙ view-If c a b q r ∙ ap (λ v. pure.If c a b (term_view v) (term_view r.value)) (sym e) ∙ ap (λ v. pure.If c a b (term_view part) (term_view v)) (sym f)

pub view-Throw : (e : ℕ) (bs : _) → term_view (Throw e bs) ≡ pure.Throw e bs.items
view-Throw e bs = search (rules, the_lemmas)

-- some labels
pub seen-Fix : (cur : Term) (conts : Vec Cont Global) (q : Box Term Global) (cs : List Cont) (part : Term) → cur ≡ Fix conts q → cs ≡ conts.items → part ≡ q.value → term_view cur ≡ pure.Fix (labels_view cs) (term_view part)
seen-Fix cur conts q cs part is e f = ap term_view is ∙ view-Fix conts q ∙ ap (λ l. pure.Fix (labels_view l) (term_view q.value)) (sym e) ∙ ap (λ v. pure.Fix (labels_view cs) (term_view v)) (sym f)

-- a single label
pub seen-one : (cur : Term) (conts : Vec Cont Global) (q : Box Term Global) (cs : List Cont) (c : Cont) (part : Term) → cur ≡ Fix conts q → cs ≡ conts.items → part ≡ q.value → cs ≡ c ∷ []
    → term_view cur ≡ pure.Fix (pure.label c.label c.params.items (term_view c.body) pure.none) (term_view part)
seen-one cur conts q cs c part is e f one =
    seen-Fix cur conts q cs part is e f ∙ ap (λ l. pure.Fix (labels_view l) (term_view part)) one ∙ ap (λ l. pure.Fix l (term_view part)) (view-one c)

-- several labels, or none
pub many-labels : (cs : List Cont) → (length cs ≡ 1 → ⊥) → is_one (labels_view cs) ≡ false
many-labels [] ne = refl
many-labels (c ∷ []) ne = absurd (ne refl)
many-labels (c ∷ d ∷ cs) ne = refl
