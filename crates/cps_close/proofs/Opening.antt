-- Parts that are pushed for labels and terms, and popped again.
use Rattle.std.proofs.Common.{◌≡◌, ◌+◌, ◌<◌, List, [], ◌∷◌, ◌++◌, map, reverse, refl, sym, ap, ◌∙◌, append_assoc, arith, Bor}
use Rattle.std.proofs.lemmas.List.{map-append, reverse-append}
use Rattle.cps_ir.specs.declared.term.Term.{Term}
use Rattle.cps_ir.specs.declared.term.Cont.{Cont}
use Rattle.cps_ir.specs.Term as pure
use Rattle.cps_ir.specs.View.{Seen, labels_of, labels_view, term_view, label_view}
use Rattle.cps_close.specs.declared.collect.Part as declared
use Rattle.cps_close.specs.inner.Pending.{Part, InTerm, AtLabel, part_view, parts_of, seen_all, opened, labels_pending}
use Rattle.cps_close.proofs.Work.{weight, work, work-append, parts-append, pending-append, opened-labels, opened-work}

-- one more part is pushed
pub pushed : (old now : List declared.Part) (p : declared.Part) → now ≡ old ++ p ∷ [] → map part_view now ≡ map part_view old ++ part_view p ∷ []
pushed old now p e = ap (map part_view) e ∙ map-append part_view old (p ∷ [])

-- a label and its body are pushed behind those of others
pub pushed-label : (before : List Part) (seen : List Seen) (old one two : List declared.Part) (p q : declared.Part) (c : Seen) → map part_view old ≡ before ++ parts_of seen → one ≡ old ++ p ∷ [] → two ≡ one ++ q ∷ [] → part_view p ≡ AtLabel c → part_view q ≡ InTerm c.body
    → map part_view two ≡ before ++ parts_of (seen ++ c ∷ [])
pushed-label before seen old one two p q c all first second isp isq =
    pushed one two q second ∙ ap (λ l. l ++ part_view q ∷ []) (pushed old one p first ∙ ap (λ l. l ++ part_view p ∷ []) all) ∙ append_assoc (before ++ parts_of seen) (part_view p ∷ []) (part_view q ∷ [])
    ∙ append_assoc before (parts_of seen) (part_view p ∷ part_view q ∷ []) ∙ ap (λ z. before ++ (parts_of seen ++ z ∷ part_view q ∷ [])) isp ∙ ap (λ z. before ++ (parts_of seen ++ AtLabel c ∷ z ∷ [])) isq
    ∙ ap (λ l. before ++ l) (sym (parts-append seen (c ∷ [])))

view-now : (cs : List (Bor Cont)) → map (λ c. label_view c.now) cs ≡ map label_view (map (λ c. c.now) cs)
view-now [] = refl
view-now (c ∷ cs) = ap (λ l. label_view c.now ∷ l) (view-now cs)

view-reverse : (cs : List Cont) → map label_view (reverse cs) ≡ reverse (map label_view cs)
view-reverse [] = refl
view-reverse (c ∷ cs) =
    ap (map label_view) (reverse-append (c ∷ []) cs) ∙ map-append label_view (reverse cs) (c ∷ []) ∙ ap (λ l. l ++ label_view c ∷ []) (view-reverse cs) ∙ sym (reverse-append (label_view c ∷ []) (map label_view cs))

-- an iterator from the last label on has given all
pub yielded-all : (cs : List (Bor Cont)) (all : List Cont) → map (λ c. c.now) cs ≡ reverse all → map (λ c. label_view c.now) cs ≡ reverse (map label_view all)
yielded-all cs all e = view-now cs ∙ ap (map label_view) e ∙ view-reverse all

seen-labels : (cs : List Seen) → seen_all (labels_of cs) ≡ cs
seen-labels [] = refl
seen-labels (c ∷ cs) = ap (λ l. c ∷ l) (seen-labels cs)

-- the parts of a `Fix`
pub opened-fix : (t rest : Term) (conts : List Cont) (old one two : List declared.Part) (p : declared.Part) → term_view t ≡ pure.Fix (labels_view conts) (term_view rest) → one ≡ old ++ p ∷ [] → part_view p ≡ InTerm (term_view rest)
    → map part_view two ≡ map part_view one ++ parts_of (reverse (map label_view conts)) → map part_view two ≡ map part_view old ++ opened (term_view t)
opened-fix t rest conts old one two p view first isp all =
    all ∙ ap (λ l. l ++ parts_of (reverse (map label_view conts))) (pushed old one p first) ∙ append_assoc (map part_view old) (part_view p ∷ []) (parts_of (reverse (map label_view conts)))
    ∙ ap (λ z. map part_view old ++ z ∷ parts_of (reverse (map label_view conts))) isp ∙ ap (λ l. map part_view old ++ InTerm (term_view rest) ∷ parts_of (reverse l)) (sym (seen-labels (map label_view conts)))
    ∙ ap (λ u. map part_view old ++ opened u) (sym view)

-- ---- a part is popped

pub pending-term : (before rest after : List Part) (t : pure.Term) → before ≡ rest ++ InTerm t ∷ [] → after ≡ rest ++ opened t → labels_pending after ≡ labels_pending before
pending-term before rest after t was is =
    ap labels_pending is ∙ pending-append rest (opened t) ∙ ap (λ l. l ++ labels_pending rest) (opened-labels t) ∙ sym (ap labels_pending was ∙ pending-append rest (InTerm t ∷ []))

pub pending-label : (before rest : List Part) (c : Seen) → before ≡ rest ++ AtLabel c ∷ [] → labels_pending before ≡ c ∷ labels_pending rest
pending-label before rest c was = ap labels_pending was ∙ pending-append rest (AtLabel c ∷ [])

pub less-term : (before rest after : List Part) (t : pure.Term) → before ≡ rest ++ InTerm t ∷ [] → after ≡ rest ++ opened t → work after < work before
less-term before rest after t was is =
    let had : work before ≡ work rest + (weight t + 0) = ap work was ∙ work-append rest (InTerm t ∷ []) in
    let has : work after ≡ work rest + work (opened t) = ap work is ∙ work-append rest (opened t) in
    let one : work (opened t) + 1 ≡ weight t = opened-work t in omega arith

pub less-label : (before rest : List Part) (c : Seen) → before ≡ rest ++ AtLabel c ∷ [] → work rest < work before
less-label before rest c was = let had : work before ≡ work rest + (1 + 0) = ap work was ∙ work-append rest (AtLabel c ∷ []) in omega arith

pub found-label : (found now : List (Bor Cont)) (c : Bor Cont) (before rest : List Part) → now ≡ found ++ c ∷ [] → before ≡ rest ++ AtLabel (label_view c.now) ∷ []
    → map (λ d. label_view d.now) now ++ labels_pending rest ≡ map (λ d. label_view d.now) found ++ labels_pending before
found-label found now c before rest push was =
    ap (λ l. map (λ d. label_view d.now) l ++ labels_pending rest) push ∙ ap (λ l. l ++ labels_pending rest) (map-append (λ d. label_view d.now) found (c ∷ []))
    ∙ append_assoc (map (λ d. label_view d.now) found) (label_view c.now ∷ []) (labels_pending rest) ∙ ap (λ l. map (λ d. label_view d.now) found ++ l) (sym (pending-label before rest (label_view c.now) was))
