-- A label whose definitions sink is as it was.
use Rattle.std.proofs.Common.{◌≡◌, ◌≤◌, nat_le, true, List, [], ◌∷◌, ◌++◌, map, refl, sym, subst, ◌∙◌}
use Rattle.std.specs.Prelude.{slice_get}
use Rattle.std.specs.List.{list_all}
use Rattle.std.proofs.lemmas.Bool.{and_parts, and_from, false≢true, le-leb}
use Rattle.std.proofs.lemmas.List.Elements.{All-nil, All-cons}
use Rattle.nv_base.specs.Sets.{all_different}
use Rattle.nv_base.specs.Words.{assigned_all}
use Rattle.flow_ir.specs.Formed.{defined, is_formed, is_label, is_entry, is_flow}
use Rattle.flow_ir.specs.Meaning.{blank}
use Rattle.flow_ir.specs.Tree.{Label}
use Rattle.flow_ir.proofs.Members.{different-parts, different-join}
use Rattle.flow_ir.proofs.Scopes.{label_fits}
use Rattle.flow_sink.specs.Sunk.{nodes, IsSunk, AreSunk}
use Rattle.flow_sink.specs.inner.Sinking.{sunk, label_sunk}
use Rattle.flow_sink.proofs.Lowering.{at_if, apart_sunk, different_sunk}
use Rattle.flow_sink.proofs.Formed.{formed_sunk}
use Rattle.flow_sink.proofs.Likeness.{IsLike, AllLike}
use Rattle.flow_sink.proofs.Means.{sunk_means}
use Rattle.flow_sink.proofs.Sank.{all_sank}

-- a label whose definitions sink, whatever its length
abbrev deep : Label → Label
deep l = record { params = l.params; body = sunk l.body }

deep_formed : (labels : List Label) (l : Label) → is_label labels l ≡ true → is_label labels (deep l) ≡ true
deep_formed labels l e =
    let parts = and_parts (is_formed labels l.params l.body) (all_different (l.params ++ defined l.body)) e in
    let once = different-parts l.params (defined l.body) parts.1 in
    and_from (is_formed labels l.params (sunk l.body)) (all_different (l.params ++ defined (sunk l.body))) (formed_sunk labels l.body l.params parts.0)
    (different-join l.params (defined (sunk l.body)) once.0 (different_sunk l.body once.1) (apart_sunk l.params l.body once.2))

pub label_like : (labels : List Label) (l : Label) → is_label labels l ≡ true → IsLike labels l (label_sunk l)
label_like labels l e =
    at_if (λ m. IsLike labels l m) (nat_le (nodes l.body) 1024) (deep l) l
    (λ short. record { params = refl; formed = deep_formed labels l e; means = λ f ws w. sunk_means f l.body l.params (assigned_all blank l.params ws) w (label_fits labels l e) }) (λ long. record { params = refl; formed = e; means = λ f ws w. refl })

labels_like : (labels ls : List Label) → list_all (is_label labels) ls ≡ true → AllLike labels ls (map label_sunk ls)
labels_like labels [] e = tt
labels_like labels (l ∷ ls) e = let parts = and_parts (is_label labels l) (list_all (is_label labels) ls) e in (label_like labels l parts.0, labels_like labels ls parts.1)

pub all_like : (ls ms : List Label) → ms ≡ map label_sunk ls → is_flow ls ≡ true → AllLike ls ls ms
all_like ls ms e h = subst (AllLike ls ls) (sym e) (labels_like ls ls (and_parts (list_all (is_label ls) ls) (is_entry (slice_get ls 0)) h).0)

-- ---- what stands in labels

label_sank : (labels : List Label) (l : Label) → is_label labels l ≡ true → nodes (label_sunk l).body ≤ 1024 → IsSunk (label_sunk l).body
label_sank labels l e =
    at_if (λ m. nodes m.body ≤ 1024 → IsSunk m.body) (nat_le (nodes l.body) 1024) (deep l) l (λ short few. all_sank l.body l.params (label_fits labels l e)) (λ long few. absurd (false≢true (sym long ∙ le-leb (nodes l.body) 1024 few)))

labels_sank : (labels ls : List Label) → list_all (is_label labels) ls ≡ true → AreSunk (map label_sunk ls)
labels_sank labels [] e = All-nil (λ l. nodes l.body ≤ 1024 → IsSunk l.body)
labels_sank labels (l ∷ ls) e =
    let parts = and_parts (is_label labels l) (list_all (is_label labels) ls) e in All-cons (λ l. nodes l.body ≤ 1024 → IsSunk l.body) (label_sunk l) (map label_sunk ls) (label_sank labels l parts.0) (labels_sank labels ls parts.1)

pub sank_call : (ls ms : List Label) → ms ≡ map label_sunk ls → is_flow ls ≡ true → AreSunk ms
sank_call ls ms e h = subst AreSunk (sym e) (labels_sank ls ls (and_parts (list_all (is_label ls) ls) (is_entry (slice_get ls 0)) h).0)
