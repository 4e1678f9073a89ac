-- One turn of a loop over labels.
use Rattle.std.proofs.Common.{◌≡◌, ℕ, ◌+◌, ◌<◌, nat_eq, List, [], ◌∷◌, ◌++◌, map, Option, Some, take, get_or, length, if◌then◌else◌, sym, ap, ◌∙◌, append_assoc, arith, Bor, Vec, Global}
use Rattle.std.proofs.lemmas.List.{take_more, map-append, length-map, length-take-le}
use Rattle.nv_base.specs.declared.term.Atom.{Atom}
use Rattle.nv_base.specs.Words.{atom_vars}
use Rattle.nv_base.specs.Sets.{all_vars}
use Rattle.cps_ir.specs.declared.term.Cont.{Cont}
use Rattle.cps_ir.specs.View.{Seen, label_view}
use Rattle.cps_ir.proofs.Views.{view-Cont}
use Rattle.flow_ir.specs.declared.flow.Label.{Label as DeclaredLabel}
use Rattle.flow_ir.specs.Tree.{Label}
use Rattle.flow_ir.specs.View.{label_view as flow_label}
use Rattle.cps_close.specs.inner.Closed.{Table, index_of, needed_there, with_wanted, closed_labels, none_wanted}
use Rattle.cps_close.proofs.Steps.{vars-last, index-last, none-last, closed-last}

pub taken : {X : Type 0} (xs : List X) (i : ℕ) (x : X) → i < length xs → x ≡ get_or xs i x → take (i + 1) xs ≡ take i xs ++ x ∷ []
taken xs i x lt at = take_more xs i x lt ∙ ap (λ y. take i xs ++ y ∷ []) (sym at)

-- the labels seen so far
abbrev pub seen_before : List (Bor Cont) → ℕ → List Seen
seen_before cs i = map (λ c. label_view c.now) (take i cs)

pub seen-more : (cs : List (Bor Cont)) (i : ℕ) (c : Bor Cont) → i < length cs → c ≡ get_or cs i c → seen_before cs (i + 1) ≡ seen_before cs i ++ label_view c.now ∷ []
seen-more cs i c lt at = ap (map (λ d. label_view d.now)) (taken cs i c lt at) ∙ map-append (λ d. label_view d.now) (take i cs) (c ∷ [])

length-seen : (cs : List (Bor Cont)) (i : ℕ) → i < length cs → length (seen_before cs i) ≡ i
length-seen cs i lt = length-map (take i cs) (λ d. label_view d.now) ∙ length-take-le i cs (omega arith)

pub vars-turn : (xs : List Atom) (i : ℕ) (d : Atom) (old before now : List ℕ) → i < length xs → now ≡ before ++ atom_vars (get_or xs i d) → before ≡ old ++ all_vars (take i xs) → now ≡ old ++ all_vars (take (i + 1) xs)
vars-turn xs i d old before now lt push was =
    push ∙ ap (λ l. l ++ atom_vars (get_or xs i d)) was ∙ append_assoc old (all_vars (take i xs)) (atom_vars (get_or xs i d)) ∙ ap (λ l. old ++ l) (sym (ap all_vars (take_more xs i d lt) ∙ vars-last (take i xs) (get_or xs i d)))

pub index-turn : (cs : List (Bor Cont)) (i : ℕ) (c : Bor Cont) (k n : ℕ) (old : Option ℕ) (q : ℕ) → i < length cs → c ≡ get_or cs i c → k ≡ c.now.label → n ≡ i → old ≡ index_of 0 (seen_before cs i) q → (if nat_eq k q then Some n else old) ≡ index_of 0 (seen_before cs (i + 1)) q
index-turn cs i c k n old q lt at is same was =
    let before = seen_before cs i in
    let place : n ≡ 0 + length (seen_before cs i) = omega (arith, same, length-seen cs i lt) in
    let name : k ≡ (label_view c.now).label = is ∙ sym (ap (λ (s : Seen). s.label) (view-Cont c.now)) in
    ap (λ o. if nat_eq k q then Some n else o) was ∙ ap (λ m. if nat_eq k q then Some m else index_of 0 (seen_before cs i) q) place
    ∙ ap (λ l. if nat_eq l q then Some (0 + length (seen_before cs i)) else index_of 0 (seen_before cs i) q) name ∙ sym (index-last 0 (seen_before cs i) (label_view c.now) q)
    ∙ ap (λ s. index_of 0 s q) (sym (seen-more cs i c lt at))

pub closed-turn : (tab : Table) (cs : List (Bor Cont)) (i : ℕ) (c : Bor Cont) (first : Label) (old now : List DeclaredLabel) (l : DeclaredLabel) → i < length cs → c ≡ get_or cs i c → now ≡ old ++ l ∷ [] → map flow_label old ≡ first ∷ closed_labels tab (seen_before cs i) tab.lists
    → flow_label l ≡ with_wanted tab (label_view c.now) (needed_there tab.lists (Some i)) → map flow_label now ≡ first ∷ closed_labels tab (seen_before cs (i + 1)) tab.lists
closed-turn tab cs i c first old now l lt at push was is =
    let place : needed_there tab.lists (Some i) ≡ needed_there tab.lists (Some (length (seen_before cs i))) = ap (λ k. needed_there tab.lists (Some k)) (sym (length-seen cs i lt)) in
    ap (map flow_label) push ∙ map-append flow_label old (l ∷ []) ∙ ap (λ ls. ls ++ flow_label l ∷ []) was
    ∙ ap (λ z. first ∷ (closed_labels tab (seen_before cs i) tab.lists ++ z ∷ [])) (is ∙ ap (with_wanted tab (label_view c.now)) place)
    ∙ ap (λ ls. first ∷ ls) (sym (closed-last tab (seen_before cs i) (label_view c.now) tab.lists)) ∙ ap (λ s. first ∷ closed_labels tab s tab.lists) (sym (seen-more cs i c lt at))

pub none-turn : (cs : List (Bor Cont)) (i : ℕ) (c : Bor Cont) (old now : List (Vec ℕ Global)) (w : Vec ℕ Global) → i < length cs → c ≡ get_or cs i c → now ≡ old ++ w ∷ [] → w.items ≡ [] → map (λ v. v.items) old ≡ none_wanted (seen_before cs i)
    → map (λ v. v.items) now ≡ none_wanted (seen_before cs (i + 1))
none-turn cs i c old now w lt at push new was =
    ap (map (λ (v : Vec ℕ Global). v.items)) push ∙ map-append (λ (v : Vec ℕ Global). v.items) old (w ∷ []) ∙ ap (λ l. l ++ w.items ∷ []) was ∙ ap (λ l. none_wanted (seen_before cs i) ++ l ∷ []) new
    ∙ sym (none-last (seen_before cs i) (label_view c.now)) ∙ ap none_wanted (sym (seen-more cs i c lt at))
