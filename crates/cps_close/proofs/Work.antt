-- The work that is left on a term: which labels it has, and how much it is.
use Rattle.std.proofs.Common.{◌≡◌, ℕ, suc, ◌+◌, List, [], ◌∷◌, ◌++◌, reverse, refl, sym, ap, ◌∙◌, append_assoc, append-nil, arith}
use Rattle.std.proofs.lemmas.List.{reverse-append}
use Rattle.cps_ir.specs.Term.{Term, Let, Read, Write, If, Fix, Call, Return, Throw, Jump, Halt, Labels, none, label}
use Rattle.cps_ir.specs.View.{Seen}
use Rattle.cps_close.specs.inner.Closed.{labels_in, labels_of_all}
use Rattle.cps_close.specs.inner.Pending.{Part, InTerm, AtLabel, parts_of, seen_all, opened, labels_at, labels_pending}

pub pending-append : (a b : List Part) → labels_pending (a ++ b) ≡ labels_pending b ++ labels_pending a
pending-append [] b = sym (append-nil (labels_pending b))
pending-append (p ∷ a) b = ap (λ l. l ++ labels_at p) (pending-append a b) ∙ append_assoc (labels_pending b) (labels_pending a) (labels_at p)

pub parts-append : (a b : List Seen) → parts_of (a ++ b) ≡ parts_of a ++ parts_of b
parts-append [] b = refl
parts-append (c ∷ a) b = ap (λ l. AtLabel c ∷ InTerm c.body ∷ l) (parts-append a b)

-- labels from the last on come as they stand
parts-labels : (ls : Labels) → labels_pending (parts_of (reverse (seen_all ls))) ≡ labels_of_all ls
parts-labels none = refl
parts-labels (label l xs t ls) =
    let c : Seen = record { label = l; params = xs; body = t } in
    ap (λ cs. labels_pending (parts_of cs)) (reverse-append (record { label = l; params = xs; body = t } ∷ []) (seen_all ls))
    ∙ ap labels_pending (parts-append (reverse (seen_all ls)) (record { label = l; params = xs; body = t } ∷ []))
    ∙ pending-append (parts_of (reverse (seen_all ls))) (AtLabel (record { label = l; params = xs; body = t }) ∷ InTerm t ∷ [])
    ∙ append_assoc (labels_in t) (record { label = l; params = xs; body = t } ∷ []) (labels_pending (parts_of (reverse (seen_all ls))))
    ∙ ap (λ r. labels_in t ++ record { label = l; params = xs; body = t } ∷ r) (parts-labels ls)

-- the labels of a term are those of its parts
pub opened-labels : (t : Term) → labels_pending (opened t) ≡ labels_in t
opened-labels (Let x a t) = refl
opened-labels (Read m xs a t) = refl
opened-labels (Write m a bs t) = refl
opened-labels (If c a b t u) = refl
opened-labels (Fix ls t) = ap (λ r. r ++ labels_in t) (parts-labels ls)
opened-labels (Call f bs k hs) = refl
opened-labels (Return bs) = refl
opened-labels (Throw e bs) = refl
opened-labels (Jump l bs) = refl
opened-labels (Halt e bs) = refl

-- ---- how much it is

abbrev mutual
  pub weight : Term → ℕ
  weight (Let x a t) = suc (weight t)
  weight (Read m xs a t) = suc (weight t)
  weight (Write m a bs t) = suc (weight t)
  weight (If c a b t u) = suc (weight t + weight u)
  weight (Fix ls t) = suc (weight t + weight_all ls)
  weight (Call f bs k hs) = 1
  weight (Return bs) = 1
  weight (Throw e bs) = 1
  weight (Jump l bs) = 1
  weight (Halt e bs) = 1

  pub weight_all : Labels → ℕ
  weight_all none = 0
  weight_all (label l xs t ls) = suc (weight t + weight_all ls)

abbrev pub part_weight : Part → ℕ
part_weight (InTerm t) = weight t
part_weight (AtLabel c) = 1

abbrev pub work : List Part → ℕ
work [] = 0
work (p ∷ ps) = part_weight p + work ps

pub work-append : (a b : List Part) → work (a ++ b) ≡ work a + work b
work-append [] b = omega arith
work-append (p ∷ a) b = omega (arith, work-append a b)

parts-work : (ls : Labels) → work (parts_of (reverse (seen_all ls))) ≡ weight_all ls
parts-work none = refl
parts-work (label l xs t ls) =
    let split = ap (λ cs. work (parts_of cs)) (reverse-append (record { label = l; params = xs; body = t } ∷ []) (seen_all ls)) ∙ ap work (parts-append (reverse (seen_all ls)) (record { label = l; params = xs; body = t } ∷ [])) in
    let joined = work-append (parts_of (reverse (seen_all ls))) (AtLabel (record { label = l; params = xs; body = t }) ∷ InTerm t ∷ []) in
    split ∙ joined ∙ (let rest : work (parts_of (reverse (seen_all ls))) + (1 + (weight t + 0)) ≡ suc (weight t + weight_all ls) = omega (arith, parts-work ls) in rest)

-- the parts of a term are less by one
pub opened-work : (t : Term) → work (opened t) + 1 ≡ weight t
opened-work (Let x a t) = omega arith
opened-work (Read m xs a t) = omega arith
opened-work (Write m a bs t) = omega arith
opened-work (If c a b t u) = omega arith
opened-work (Fix ls t) = omega (arith, parts-work ls)
opened-work (Call f bs k hs) = refl
opened-work (Return bs) = refl
opened-work (Throw e bs) = refl
opened-work (Jump l bs) = refl
opened-work (Halt e bs) = refl
