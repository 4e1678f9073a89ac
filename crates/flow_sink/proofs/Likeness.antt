-- Labels that each do as one of a flow make a flow that is as that one.
use Rattle.std.proofs.Common.{◌≡◌, ℕ, zero, suc, ◌==◌, nat_le, true, List, [], ◌∷◌, ◌++◌, map, Some, refl, sym, ap, subst, ◌∙◌, length}
use Rattle.std.specs.Prelude.{slice_get, ⊤}
use Rattle.std.specs.List.{list_all}
use Rattle.std.proofs.Math.Path.{fun_ext}
use Rattle.std.proofs.lemmas.Bool.{and_parts, and_from}
use Rattle.std.proofs.lemmas.List.{append_assoc, map_push}
use Rattle.nv_base.specs.Meanings.{AreEqual}
use Rattle.nv_base.specs.Sets.{all_different}
use Rattle.nv_base.specs.World.{World, begun}
use Rattle.flow_ir.specs.Formed.{defined, is_formed, is_label, is_entry, is_flow, takes_as_many}
use Rattle.flow_ir.specs.Meaning.{Next, enter, run, flow_meaning, flow_params}
use Rattle.flow_ir.specs.Tree.{Label}
use Rattle.flow_ir.specs.View.{label_view}
use Rattle.flow_ir.specs.declared.flow.Label.{Label as FlowLabel}
use Rattle.flow_sink.proofs.Formed.{formed_at}

-- the second label is one of the same flow too, and does what the first does
pub record IsLike (labels : List Label) (l m : Label) : Type 0 where
  pub params : m.params ≡ l.params
  pub formed : is_label labels m ≡ true
  pub means : (f : Next) (ws : List ℕ) (w : World) → enter f (Some m) ws w ≡ enter f (Some l) ws w

-- so is each of the second ones to the first one at its place
abbrev pub AllLike : List Label → List Label → List Label → Type 0
AllLike labels [] [] = ⊤
AllLike labels (l ∷ ls) (m ∷ ms) = IsLike labels l m × AllLike labels ls ms
AllLike labels [] (m ∷ ms) = ⊥
AllLike labels (l ∷ ls) [] = ⊥

-- ---- parameters

heads : (labels ls ms : List Label) → AllLike labels ls ms → (n i : ℕ) → takes_as_many n (slice_get ms i) ≡ takes_as_many n (slice_get ls i)
heads labels [] [] h n i = refl
heads labels [] (m ∷ ms) h n i = absurd h
heads labels (l ∷ ls) [] h n i = absurd h
heads labels (l ∷ ls) (m ∷ ms) h n zero = ap (λ xs. length xs == n) h.0.params
heads labels (l ∷ ls) (m ∷ ms) h n (suc i) = heads labels ls ms h.1 n i

pub same_params : (labels ls ms : List Label) → AllLike labels ls ms → flow_params ms ≡ flow_params ls
same_params labels [] [] h = refl
same_params labels [] (m ∷ ms) h = absurd h
same_params labels (l ∷ ls) [] h = absurd h
same_params labels (l ∷ ls) (m ∷ ms) h = ap length h.0.params

same_entry : (labels ls ms : List Label) → AllLike labels ls ms → is_entry (slice_get ms 0) ≡ is_entry (slice_get ls 0)
same_entry labels [] [] h = refl
same_entry labels [] (m ∷ ms) h = absurd h
same_entry labels (l ∷ ls) [] h = absurd h
same_entry labels (l ∷ ls) (m ∷ ms) h = ap (λ xs. nat_le (length xs) 8) h.0.params

-- ---- formed

label_formed : (labels news : List Label) → ((n l : ℕ) → takes_as_many n (slice_get labels l) ≡ true → takes_as_many n (slice_get news l) ≡ true) → (m : Label) → is_label labels m ≡ true → is_label news m ≡ true
label_formed labels news same m e =
    let parts = and_parts (is_formed labels m.params m.body) (all_different (m.params ++ defined m.body)) e in
    and_from (is_formed news m.params m.body) (all_different (m.params ++ defined m.body)) (formed_at labels news same m.body m.params m.params parts.0 (λ y i k. k)) parts.1

labels_formed : (labels news : List Label) → ((n l : ℕ) → takes_as_many n (slice_get labels l) ≡ true → takes_as_many n (slice_get news l) ≡ true) → (ls ms : List Label) → AllLike labels ls ms → list_all (is_label news) ms ≡ true
labels_formed labels news same [] [] h = refl
labels_formed labels news same [] (m ∷ ms) h = absurd h
labels_formed labels news same (l ∷ ls) [] h = absurd h
labels_formed labels news same (l ∷ ls) (m ∷ ms) h = and_from (is_label news m) (list_all (is_label news) ms) (label_formed labels news same m h.0.formed) (labels_formed labels news same ls ms h.1)

pub flow_formed : (ls ms : List Label) → AllLike ls ls ms → is_flow ls ≡ true → is_flow ms ≡ true
flow_formed ls ms h e =
    let parts = and_parts (list_all (is_label ls) ls) (is_entry (slice_get ls 0)) e in
    and_from (list_all (is_label ms) ms) (is_entry (slice_get ms 0)) (labels_formed ls ms (λ n l k. heads ls ls ms h n l ∙ k) ls ms h) (same_entry ls ls ms h ∙ parts.1)

-- ---- meaning

enter_means : (labels : List Label) (f : Next) (ls ms : List Label) → AllLike labels ls ms → (i : ℕ) (ws : List ℕ) (w : World) → enter f (slice_get ms i) ws w ≡ enter f (slice_get ls i) ws w
enter_means labels f [] [] h i ws w = refl
enter_means labels f [] (m ∷ ms) h i ws w = absurd h
enter_means labels f (l ∷ ls) [] h i ws w = absurd h
enter_means labels f (l ∷ ls) (m ∷ ms) h zero ws w = h.0.means f ws w
enter_means labels f (l ∷ ls) (m ∷ ms) h (suc i) ws w = enter_means labels f ls ms h.1 i ws w

run_means : (ls ms : List Label) → AllLike ls ls ms → (n l : ℕ) (ws : List ℕ) (w : World) → run ms n l ws w ≡ run ls n l ws w
run_means ls ms h zero l ws w = refl
run_means ls ms h (suc n) l ws w = ap (λ f. enter f (slice_get ms l) ws w) (fun_ext (λ k. fun_ext (λ vs. fun_ext (λ v. run_means ls ms h n k vs v)))) ∙ enter_means ls (run ls n) ls ms h l ws w

pub flow_means : (ls ms : List Label) → AllLike ls ls ms → AreEqual (flow_params ls) (flow_meaning ls) (flow_meaning ms)
flow_means ls ms h = λ args p arguments sizes n. sym (ap (λ f. enter f (slice_get ms 0) args (begun p)) (fun_ext (λ k. fun_ext (λ vs. fun_ext (λ v. run_means ls ms h n k vs v)))) ∙ enter_means ls (run ls n) ls ms h 0 args (begun p))

-- ---- one label more

pub moved_label : (g : Label → Label) (vs vs' rest rest' : List FlowLabel) (l m : FlowLabel) (whole : List Label) → rest ≡ l ∷ rest' → vs' ≡ vs ++ m ∷ [] → label_view m ≡ g (label_view l) → map label_view vs ++ map g (map label_view rest) ≡ whole → map label_view vs' ++ map g (map label_view rest') ≡ whole
moved_label g vs vs' rest rest' l m whole step push made h =
    let news = map label_view vs in
    let others = map g (map label_view rest') in
    ap (λ z. map label_view z ++ others) push ∙ ap (λ z. z ++ others) (map_push label_view vs m) ∙ append_assoc news (label_view m ∷ []) others ∙ ap (λ z. news ++ z ∷ others) made ∙ sym (ap (λ z. news ++ map g (map label_view z)) step) ∙ h
