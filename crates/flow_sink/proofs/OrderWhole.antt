-- A label whose definitions are put in order is as it was.
use Rattle.std.proofs.Common.{◌≡◌, ℕ, suc, ◌≤◌, nat_le, true, false, ◌&&◌, List, [], ◌∷◌, ◌++◌, map, refl, sym, ap, subst, ◌∙◌}
use Rattle.std.specs.Prelude.{slice_get}
use Rattle.std.specs.List.{list_all}
use Rattle.std.proofs.lemmas.Bool.{and_parts, and_from, false≢true, le-leb}
use Rattle.std.proofs.lemmas.List.{append_assoc, map_push}
use Rattle.nv_base.specs.Sets.{all_different}
use Rattle.nv_base.specs.Words.{assigned_all}
use Rattle.cps_rules.specs.Simplified.{EachLet}
use Rattle.flow_ir.specs.Formed.{defined, is_formed, is_label, is_entry, is_flow}
use Rattle.flow_ir.specs.Meaning.{blank}
use Rattle.flow_ir.specs.Tree.{Tree, Label}
use Rattle.flow_ir.specs.View.{label_view}
use Rattle.flow_ir.specs.declared.flow.Label.{Label as FlowLabel}
use Rattle.flow_ir.proofs.Members.{different-parts, different-join}
use Rattle.flow_ir.proofs.Scopes.{label_fits}
use Rattle.flow_sink.specs.Sunk.{nodes}
use Rattle.flow_sink.proofs.Lowering.{at_if}
use Rattle.flow_sink.proofs.Likeness.{IsLike, AllLike}
use Rattle.flow_sink.specs.Ordered.{tested, handed, waits, IsOrdered, AreOrdered}
use Rattle.flow_sink.specs.inner.Ordering.{in_order, label_ordered, labels_ordered}
use Rattle.flow_sink.proofs.Lateness.{same_tested, same_handed, apart_ordered, different_ordered, all_ordered}
use Rattle.flow_sink.proofs.OrderMeans.{formed_ordered, ordered_means}

-- a label whose definitions are put in order, whatever its length
abbrev all_of : ℕ → Label → Label
all_of own l = record { params = l.params; body = in_order own l.body }

all_formed : (own : ℕ) (labels : List Label) (l : Label) → is_label labels l ≡ true → is_label labels (all_of own l) ≡ true
all_formed own labels l e =
    let ts = tested l.body in
    let hs = handed own l.body in
    let u = in_order own l.body in
    let parts = and_parts (is_formed labels l.params l.body) (all_different (l.params ++ defined l.body)) e in
    let once = different-parts l.params (defined l.body) parts.1 in
    and_from (is_formed labels l.params u) (all_different (l.params ++ defined u)) (formed_ordered ts hs labels l.body l.params parts.0)
    (different-join l.params (defined u) once.0 (different_ordered ts hs l.body once.1) (apart_ordered ts hs l.params l.body once.2))

label_like : (own : ℕ) (labels : List Label) (l : Label) → is_label labels l ≡ true → IsLike labels l (label_ordered own l)
label_like own labels l e =
    at_if (λ m. IsLike labels l m) (nat_le (nodes l.body) 1024) (all_of own l) l
    (λ short. record { params = refl; formed = all_formed own labels l e; means = λ f ws w. ordered_means (tested l.body) (handed own l.body) f l.body l.params (assigned_all blank l.params ws) w (label_fits labels l e) })
    (λ long. record { params = refl; formed = e; means = λ f ws w. refl })

labels_like : (own : ℕ) (labels ls : List Label) → list_all (is_label labels) ls ≡ true → AllLike labels ls (labels_ordered own ls)
labels_like own labels [] e = tt
labels_like own labels (l ∷ ls) e = let parts = and_parts (is_label labels l) (list_all (is_label labels) ls) e in (label_like own labels l parts.0, labels_like (suc own) labels ls parts.1)

pub all_like : (ls ms : List Label) → ms ≡ labels_ordered 0 ls → is_flow ls ≡ true → AllLike ls ls ms
all_like ls ms e h = subst (AllLike ls ls) (sym e) (labels_like 0 ls ls (and_parts (list_all (is_label ls) ls) (is_entry (slice_get ls 0)) h).0)

-- ---- what stands in labels

tree_ordered : (own : ℕ) (t : Tree) → IsOrdered own (in_order own t)
tree_ordered own t =
    let ts = tested t in
    let hs = handed own t in
    let u = in_order own t in
    subst (λ l. EachLet (λ x p rest. waits l (handed own u) x rest ≡ false) u) (sym (same_tested ts hs t)) (subst (λ l. EachLet (λ x p rest. waits ts l x rest ≡ false) u) (sym (same_handed ts hs own t)) (all_ordered ts hs t))

body_ordered : (own : ℕ) (l : Label) → nodes (label_ordered own l).body ≤ 1024 → IsOrdered own (label_ordered own l).body
body_ordered own l =
    at_if (λ m. nodes m.body ≤ 1024 → IsOrdered own m.body) (nat_le (nodes l.body) 1024) (all_of own l) l (λ short few. tree_ordered own l.body) (λ long few. absurd (false≢true (sym long ∙ le-leb (nodes l.body) 1024 few)))

labels_in_order : (own : ℕ) (ls : List Label) → AreOrdered own (labels_ordered own ls)
labels_in_order own [] = tt
labels_in_order own (l ∷ ls) = (body_ordered own l, labels_in_order (suc own) ls)

pub ordered_call : (ls ms : List Label) → ms ≡ labels_ordered 0 ls → AreOrdered 0 ms
ordered_call ls ms e = subst (AreOrdered 0) (sym e) (labels_in_order 0 ls)

-- ---- one label more

pub moved_label : (own next : ℕ) (vs vs' rest rest' : List FlowLabel) (l m : FlowLabel) (whole : List Label) → next ≡ suc own → rest ≡ l ∷ rest' → vs' ≡ vs ++ m ∷ [] → label_view m ≡ label_ordered own (label_view l) → map label_view vs ++ labels_ordered own (map label_view rest) ≡ whole
    → map label_view vs' ++ labels_ordered next (map label_view rest') ≡ whole
moved_label own next vs vs' rest rest' l m whole after step push made h =
    let news = map label_view vs in
    let others = labels_ordered (suc own) (map label_view rest') in
    ap (λ n. map label_view vs' ++ labels_ordered n (map label_view rest')) after ∙ ap (λ z. map label_view z ++ others) push ∙ ap (λ z. z ++ others) (map_push label_view vs m) ∙ append_assoc news (label_view m ∷ []) others ∙ ap (λ z. news ++ z ∷ others) made
    ∙ sym (ap (λ z. news ++ labels_ordered own (map label_view z)) step) ∙ h
