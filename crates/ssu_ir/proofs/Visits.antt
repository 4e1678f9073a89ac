-- A run through a label, from its parameters on.
use Rattle.std.proofs.Common.{◌≡◌, ℕ, zero, suc, ◌<◌, Bool, true, ◌&&◌, List, [], ◌∷◌, ◌++◌, All, length, map, get_or, Option, Some, None, option_map, refl, sym, ap, ◌∙◌, subst, arith}
use Rattle.std.specs.Prelude.{slice_get}
use Rattle.std.specs.List.{list_all}
use Rattle.std.proofs.lemmas.Bool.{and_parts, false≢true, eq-eqb}
use Rattle.std.proofs.lemmas.List.{length-map}
use Rattle.std.proofs.lemmas.Option.{slice_get-map, slice_get-get_or}
use Rattle.std.proofs.lemmas.List.Elements.{All-get_or}
use Rattle.nv_base.specs.Meanings.{FullOutcome, IsOver}
use Rattle.nv_base.specs.Words.{Env, assigned_all}
use Rattle.nv_base.specs.World.{World}
use Rattle.nv_base.proofs.Sets.{same-number, within-left, agree-within, agree-all}
use Rattle.ssu_ir.specs.declared.node.SsuLabel.{SsuLabel}
use Rattle.ssu_ir.specs.declared.ssu.Ssu.{Ssu}
use Rattle.ssu_ir.specs.Tree.{Label}
use Rattle.ssu_ir.specs.Slots.{Slots, Formed, bodies}
use Rattle.ssu_ir.specs.View.{labels_view}
use Rattle.ssu_ir.specs.Meaning.{blank, params_of, ssu_params}
use Rattle.ssu_ir.specs.Single.{all_defined, single, is_entry, is_single, takes_as_many, are_nodes, uses_once, is_scoped, clones_early, results_used, are_addressed, unknown}
use Rattle.ssu_ir.specs.Entered.{JumpsTo, EndsWith, tree_exit, label_exit}
use Rattle.ssu_ir.specs.inner.Under.{tree_at, HasTree, label_of}
use Rattle.ssu_ir.specs.inner.Running.{HasRoom}
use Rattle.nv_base.specs.Sets.{all_different}
use Rattle.ssu_ir.proofs.Unders.{bodies_have, labels-viewed}
use Rattle.ssu_ir.proofs.Keeps.{have_item}
use Rattle.ssu_ir.proofs.Runs.{scoped-exit, jump-fits, end-over}

-- ---- a label that takes words is there

taken-inside : (slots : Slots) (n : ℕ) (ls : List SsuLabel) (k : ℕ) → takes_as_many n (slice_get (map (label_of slots) ls) k) ≡ true → k < length ls
taken-inside slots n [] k t = absurd (false≢true t)
taken-inside slots n (l ∷ ls) zero t = omega arith
taken-inside slots n (l ∷ ls) (suc k) t = omega (arith, taken-inside slots n ls k t)

pub label-inside : (s : Ssu) (n k : ℕ) → takes_as_many n (slice_get (labels_view s) k) ≡ true → k < length s.labels.items
label-inside s n k t = taken-inside s.nodes.slots n s.labels.items k (ap (λ ls. takes_as_many n (slice_get ls k)) (sym (labels-viewed s)) ∙ t)

-- ---- what a label keeps

none-there : {X : Type 0} (p : X → Bool) (x : X) → None ≡ Some x → p x ≡ true
none-there p x e = absurd (cc)

same-there : {X : Type 0} (p : X → Bool) (x y : X) → Some y ≡ Some x → p y ≡ true → p x ≡ true
same-there p x y e h = let s : y ≡ x = cc in ap p (sym s) ∙ h

at-place : (p : Label → Bool) (xs : List Label) (k : ℕ) (x : Label) → list_all p xs ≡ true → slice_get xs k ≡ Some x → p x ≡ true
at-place p [] k x h e = none-there p x e
at-place p (y ∷ ys) zero x h e = same-there p x y e (and_parts (p y) (list_all p ys) h).0
at-place p (y ∷ ys) (suc k) x h e = at-place p ys k x (and_parts (p y) (list_all p ys) h).1 e

record Alone (labels : List Label) (l : Label) : Type 0 where
  nodes : are_nodes labels l.body ≡ true
  once : uses_once l.body ≡ true
  scoped : is_scoped l.params l.body ≡ true

alone : (labels : List Label) (k : ℕ) (l : Label) → single labels ≡ true → slice_get labels k ≡ Some l → Alone labels l
alone labels k l h e =
    let a = and_parts (is_entry (slice_get labels 0)) (all_different (all_defined labels) && list_all (is_single labels) labels) h in
    let b = and_parts (all_different (all_defined labels)) (list_all (is_single labels) labels) a.1 in
    let c : is_single labels l ≡ true = at-place (is_single labels) labels k l b.1 e in
    let rest = results_used l.body && are_addressed unknown l.body in
    let d = and_parts (are_nodes labels l.body) (uses_once l.body && (is_scoped l.params l.body && (clones_early l.params l.body && rest))) c in
    let f = and_parts (uses_once l.body) (is_scoped l.params l.body && (clones_early l.params l.body && rest)) d.1 in
    let g = and_parts (is_scoped l.params l.body) (clones_early l.params l.body && rest) f.1 in
    record { nodes = d.0; once = f.0; scoped = g.0 }

-- a label that is entered with these words
pub record Visited (s : Ssu) (l : SsuLabel) (k : ℕ) (ws : List ℕ) (places : ℕ) : Type 0 where
  pub view : slice_get (labels_view s) k ≡ Some (label_of s.nodes.slots l)
  pub many : length l.params.items ≡ length ws
  pub params : All (λ x. x < places) l.params.items
  pub has : HasTree s.nodes.slots l.body.0
  pub nodes : are_nodes (labels_view s) (tree_at s.nodes.slots l.body.0) ≡ true
  pub once : uses_once (tree_at s.nodes.slots l.body.0) ≡ true
  pub scoped : is_scoped l.params.items (tree_at s.nodes.slots l.body.0) ≡ true

pub visited : (s : Ssu) (l : SsuLabel) (k : ℕ) (ws : List ℕ) (places room : ℕ) → Formed s.nodes.slots (bodies s.labels.items) → single (labels_view s) ≡ true → takes_as_many (length ws) (slice_get (labels_view s) k) ≡ true
    → HasRoom s places room → l ≡ get_or s.labels.items k l → Visited s l k ws places
visited s l k ws places room f h t r is =
    let inside = label-inside s (length ws) k t in
    let view : slice_get (labels_view s) k ≡ Some (label_of s.nodes.slots l) =
    ap (λ v. slice_get v k) (labels-viewed s)
    ∙ slice_get-map (label_of s.nodes.slots) s.labels.items k
    ∙ ap (option_map (label_of s.nodes.slots)) (slice_get-get_or s.labels.items k l inside ∙ ap Some (sym is)) in
    let a = alone (labels_view s) k (label_of s.nodes.slots l) h view in
    let many : takes_as_many (length ws) (Some (label_of s.nodes.slots l)) ≡ true = ap (takes_as_many (length ws)) (sym view) ∙ t in
    let Below : SsuLabel → Type 0 = λ m. All (λ x. x < places) m.params.items in
    record {
      view = view;
      many = same-number (length l.params.items) (length ws) many;
      params = subst Below (sym is) (All-get_or Below s.labels.items k l inside r.params);
      has = have_item s.nodes.slots s.labels.items s.labels.items k l (bodies_have s.nodes.slots (bodies s.labels.items) f) refl inside is;
      nodes = a.nodes;
      once = a.once;
      scoped = a.scoped;
    }

-- the run leaves the label as it leaves the tree, whatever the other variables have
pub visited-exit : (s : Ssu) (l : SsuLabel) (k : ℕ) (ws : List ℕ) (places : ℕ) (env env' : Env) (w : World) → Visited s l k ws places → env' ≡ assigned_all env l.params.items ws
    → tree_exit (tree_at s.nodes.slots l.body.0) env' w ≡ label_exit (slice_get (labels_view s) k) ws w
visited-exit s l k ws places env env' w v e =
    let t = tree_at s.nodes.slots l.body.0 in
    let xs = l.params.items in
    ap (λ x. tree_exit t x w) e
    ∙ scoped-exit xs t v.scoped (assigned_all env xs ws) (assigned_all blank xs ws) w
    (agree-within xs (xs ++ []) (assigned_all env xs ws) (assigned_all blank xs ws) (within-left xs []) (agree-all xs ws [] env blank (λ x n. absurd (false≢true n))))
    ∙ sym (ap (λ o. label_exit o ws w) v.view)

-- ---- the words of a jump fit its label

exit-fits : (labels : List Label) (k : ℕ) (o : Option Label) (ws vs : List ℕ) (w v : World) (l : ℕ) → single labels ≡ true → slice_get labels k ≡ o → label_exit o ws w ≡ JumpsTo l vs v → takes_as_many (length vs) (slice_get labels l) ≡ true
exit-fits labels k (Some m) ws vs w v l h e d = jump-fits labels m.body (assigned_all blank m.params ws) w v l vs (alone labels k m h e).nodes d
exit-fits labels k None ws vs w v l h e d = absurd (cc)

pub label-fits : (labels : List Label) (k : ℕ) (ws vs : List ℕ) (w v : World) (l : ℕ) → single labels ≡ true → label_exit (slice_get labels k) ws w ≡ JumpsTo l vs v → takes_as_many (length vs) (slice_get labels l) ≡ true
label-fits labels k ws vs w v l h d = exit-fits labels k (slice_get labels k) ws vs w v l h refl d

-- ---- a label that takes words ends no run as going on

exit-over : (labels : List Label) (k : ℕ) (o : Option Label) (n : ℕ) (ws : List ℕ) (w : World) (f : FullOutcome) → single labels ≡ true → slice_get labels k ≡ o → takes_as_many n o ≡ true → label_exit o ws w ≡ EndsWith f → IsOver f.outcome
exit-over labels k (Some m) n ws w f h e t d = end-over labels m.body (assigned_all blank m.params ws) w f (alone labels k m h e).nodes d
exit-over labels k None n ws w f h e t d = absurd (false≢true t)

pub label-over : (labels : List Label) (k n : ℕ) (ws : List ℕ) (w : World) (f : FullOutcome) → single labels ≡ true → takes_as_many n (slice_get labels k) ≡ true → label_exit (slice_get labels k) ws w ≡ EndsWith f → IsOver f.outcome
label-over labels k n ws w f h t d = exit-over labels k (slice_get labels k) n ws w f h refl t d

-- ---- the start

entry-takes : (o : Option Label) (n : ℕ) → is_entry o ≡ true → n ≡ params_of o → takes_as_many n o ≡ true
entry-takes (Some l) n h e = eq-eqb (length l.params) n (sym e)
entry-takes None n h e = absurd (false≢true h)

pub arguments-fit : (labels : List Label) (n : ℕ) → single labels ≡ true → n ≡ ssu_params labels → takes_as_many n (slice_get labels 0) ≡ true
arguments-fit labels n h e = entry-takes (slice_get labels 0) n (and_parts (is_entry (slice_get labels 0)) (all_different (all_defined labels) && list_all (is_single labels) labels) h).0 e

pub view-length : (s : Ssu) → length (labels_view s) ≡ length s.labels.items
view-length s = ap length (labels-viewed s) ∙ length-map s.labels.items (label_of s.nodes.slots)
