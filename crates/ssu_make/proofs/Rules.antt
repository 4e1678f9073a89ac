-- The labels that are made of a flow are in single-use form.
use Rattle.std.proofs.Common.{◌≡◌, ℕ, zero, suc, true, nat_le, ◌==◌, List, [], ◌∷◌, map, refl, sym, ap, ◌∙◌, length, slice_get, arith}
use Rattle.std.specs.List.{list_all}
use Rattle.std.proofs.lemmas.Bool.{and_parts, and_from}
use Rattle.std.proofs.lemmas.List.{length-map}
use Rattle.nv_base.specs.Sets.{all_different}
use Rattle.nv_base.proofs.Sets.{within-right}
use Rattle.flow_ir.specs.Tree.{Label}
use Rattle.flow_ir.specs.Formed.{is_formed, is_label, is_flow, is_entry, takes_as_many, defined}
use Rattle.flow_ir.specs.Meaning.{flow_params}
use Rattle.ssu_ir.specs.Tree as ssu
use Rattle.ssu_ir.specs.Meaning.{ssu_params}
use Rattle.ssu_ir.specs.Single.{are_nodes, uses_once, is_scoped, clones_early, results_used, are_addressed, unknown, is_single, single, all_defined}
use Rattle.ssu_ir.proofs.Lists.{image_from}
use Rattle.ssu_ir.specs.Single as rules
use Rattle.ssu_make.specs.Used.{lets_used, all_lets_used}
use Rattle.ssu_make.specs.Uses.{uses, all_uses}
use Rattle.ssu_make.specs.Made.{value, clones, made, variables, IsMade, AllMade}
use Rattle.ssu_make.proofs.Shape.{AsMany, made-nodes, clones-nodes, made-early, clones-are-early, AddressedAnyway, made-addressed, clones-addressed}
use Rattle.ssu_make.proofs.Once.{body-once, all-different}
use Rattle.ssu_make.proofs.Scoped.{body-scoped}
use Rattle.ssu_make.proofs.Results.{made-results, clones-results, different-behind}

-- ---- as many parameters

many-at : (c : ℕ) (ls : List Label) (ss : List ssu.Label) → AllMade c ls ss → (n l : ℕ) → takes_as_many n (slice_get ls l) ≡ true → rules.takes_as_many n (slice_get ss l) ≡ true
many-at c [] [] m n l h = h
many-at c [] (s ∷ ss) m n l h = absurd m
many-at c (k ∷ ls) [] m n l h = absurd m
many-at c (k ∷ ls) (s ∷ ss) m n zero h =
    let is = m.1 in
    let e : length s.params ≡ length k.params = ap (λ (z : ssu.Label). length z.params) is.is ∙ length-map k.params (value is.base (uses k.body)) in
    ap (λ p. p == n) e ∙ h
many-at c (k ∷ ls) (s ∷ ss) m n (suc l) h = many-at m.0 ls ss m.2 n l h

pub as-many : (c : ℕ) (ls : List Label) (ss : List ssu.Label) → AllMade c ls ss → AsMany ls ss
unfolding AsMany
as-many c ls ss m = many-at c ls ss m

pub same-params : (c : ℕ) (ls : List Label) (ss : List ssu.Label) → AllMade c ls ss → flow_params ls ≡ ssu_params ss
same-params c [] [] m = refl
same-params c [] (s ∷ ss) m = absurd m
same-params c (k ∷ ls) [] m = absurd m
same-params c (k ∷ ls) (s ∷ ss) m = sym (ap (λ (z : ssu.Label). length z.params) m.1.is ∙ length-map k.params (value m.1.base (uses k.body)))

same-entry : (c : ℕ) (ls : List Label) (ss : List ssu.Label) → AllMade c ls ss → is_entry (slice_get ls 0) ≡ true → rules.is_entry (slice_get ss 0) ≡ true
same-entry c [] [] m h = h
same-entry c [] (s ∷ ss) m h = absurd m
same-entry c (k ∷ ls) [] m h = absurd m
same-entry c (k ∷ ls) (s ∷ ss) m h = ap (λ n. nat_le n 8) (ap (λ (z : ssu.Label). length z.params) m.1.is ∙ length-map k.params (value m.1.base (uses k.body))) ∙ h

-- ---- labels

label-single : (labels : List Label) (ss : List ssu.Label) (c d : ℕ) (l : Label) (s : ssu.Label) → AsMany labels ss → is_label labels l ≡ true → lets_used l.body ≡ true → IsMade c d l s → is_single ss s ≡ true
unfolding AddressedAnyway
label-single labels ss c d l s many f lean is =
    let parts = and_parts (is_formed labels l.params l.body) (all_different (variables l)) f in
    let base = is.base in
    let n = is.first in
    let r = uses l.body in
    let vs = map (value base r) l.params in
    let T = made base n l.body in
    let B = clones base r l.params T in
    let nodes : are_nodes ss B ≡ true = clones-nodes ss base r l.params T (made-nodes labels ss many base l.body l.params n parts.0) in
    let once : uses_once s.body ≡ true = body-once labels c d l s f is in
    let once' : uses_once B ≡ true = sym (ap (λ (z : ssu.Label). uses_once z.body) is.is) ∙ once in
    let scoped : is_scoped vs B ≡ true = body-scoped labels base n l parts.0 in
    let early : clones_early vs B ≡ true = clones-are-early base r vs l.params T (λ y i. image_from (value base r) l.params y i) (made-early base l.body n) in
    let results : results_used B ≡ true =
    clones-results base r l.params T (made-results base (all_uses l.body) c n (variables l) is.laid l.body n (within-right l.params (defined l.body)) (λ y. omega arith) (different-behind l.params (defined l.body) parts.1) lean) in
    let addressed : are_addressed unknown B ≡ true = clones-addressed base r l.params T (made-addressed labels base l.body l.params n parts.0) unknown in
    ap (is_single ss) is.is
    ∙ and_from (are_nodes ss B) _ nodes (and_from (uses_once B) _ once' (and_from (is_scoped vs B) _ scoped (and_from (clones_early vs B) _ early (and_from (results_used B) (are_addressed unknown B) results addressed))))

all-single : (labels : List Label) (all : List ssu.Label) (c : ℕ) (ls : List Label) (ss : List ssu.Label) → AsMany labels all → list_all (is_label labels) ls ≡ true → all_lets_used ls ≡ true → AllMade c ls ss → list_all (is_single all) ss ≡ true
all-single labels all c [] [] many f lean m = refl
all-single labels all c [] (s ∷ ss) many f lean m = absurd m
all-single labels all c (k ∷ ls) [] many f lean m = absurd m
all-single labels all c (k ∷ ls) (s ∷ ss) many f lean m =
    let parts = and_parts (is_label labels k) (list_all (is_label labels) ls) f in
    let used = and_parts (lets_used k.body) (all_lets_used ls) lean in
    and_from (is_single all s) (list_all (is_single all) ss) (label-single labels all c m.0 k s many parts.0 used.0 m.1) (all-single labels all m.0 ls ss many parts.1 used.1 m.2)

pub single-made : (c : ℕ) (ls : List Label) (ss : List ssu.Label) → is_flow ls ≡ true → all_lets_used ls ≡ true → AllMade c ls ss → single ss ≡ true
single-made c ls ss f lean m =
    let parts = and_parts (list_all (is_label ls) ls) (is_entry (slice_get ls 0)) f in
    and_from (rules.is_entry (slice_get ss 0)) _ (same-entry c ls ss m parts.1)
    (and_from (all_different (all_defined ss)) (list_all (is_single ss) ss) (all-different ls c ls ss parts.0 m) (all-single ls ss c ls ss (as-many c ls ss m) parts.0 lean m))
