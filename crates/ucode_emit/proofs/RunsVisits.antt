-- The engine stands where a label begins as often as the form's run has entered the label.
use Rattle.std.proofs.Common.{◌≡◌, ◌≢◌, ℕ, zero, suc, ◌+◌, ◌-◌, ◌<◌, ◌≤◌, List, length, refl, sym, ap, subst, ◌∙◌, ⊎_elim, arith, slice_get, slice_index_or}
use Rattle.std.proofs.lemmas.Bool.{cases_lt}
use Rattle.std.proofs.lemmas.Option.{get_or_from_slice_get}
use Rattle.std.specs.Prelude.{slice_index}
use Rattle.nv_base.specs.Memories.{Memories}
use Rattle.nv_base.specs.World.{World, begun}
use Rattle.uc_isa.specs.Agrees.{IsStart}
use Rattle.uc_isa.specs.Engine.{start}
use Rattle.uc_isa.specs.Pieces.{Moment}
use Rattle.uc_isa.specs.Entries.{VisitedAsEntered, IsVisited}
use Rattle.uc_isa.specs.Visits.{here, stood}
use Rattle.uc_isa.proofs.Counting.{here-at, here-not}
use Rattle.ssu_ir.specs.Tree.{Label}
use Rattle.ssu_ir.specs.Meaning.{ssu_params}
use Rattle.ssu_ir.specs.Entered.{Exit, JumpsTo, EndsWith, label_exit, is_entered, entered_behind, entered}
use Rattle.place_plan.specs.Plan.{Plan}
use Rattle.ucode_emit.specs.Pieces.{entry_point, Sequences, parallel_moves}
use Rattle.ucode_emit.specs.Emits.{AreSequences, label_starts}
use Rattle.ucode_emit.specs.inner.Layers.{Placed, at_start}
use Rattle.ucode_emit.proofs.LabelPlaces.{start_at, code_starts}
use Rattle.ucode_emit.proofs.Layer.{ready_layer}
use Rattle.ucode_emit.proofs.MachineLayers.{machine}
use Rattle.ucode_emit.proofs.MachineOperations.{got_index, start_entry}
use Rattle.ucode_emit.proofs.Placing.{code_of}
use Rattle.ucode_emit.proofs.RunsResults.{Setting, code_in, places_in, starts_in, Jumps, Leaves}
use Rattle.ucode_emit.proofs.RunsWhole.{jumped_runs, start_runs, starts_first, label_first, few_there}
use Rattle.ucode_emit.proofs.Visiting.{stood_within, stood_behind, stood_over}

-- ---- at a start

rising : (g : Setting) (j k : ℕ) → j < k → k < length (starts_in g) → slice_index (starts_in g) j < slice_index (starts_in g) k
rising g j k lt le = (code_starts g.labels g.plan g.mss g.placed g.layer g.sequences).shape.rises j k lt le

-- two labels don't begin at one place
start_is : (g : Setting) (j k t : ℕ) → j < length (starts_in g) → k < length (starts_in g) → t ≡ slice_index (starts_in g) j → here (slice_index (starts_in g) k) t ≡ is_entered j k
start_is g j k t n m e =
    let starts = starts_in g in
    let other : j ≢ k → t ≢ slice_index starts k → here (slice_index starts k) t ≡ is_entered j k = λ a b. here-not (slice_index starts k) t b ∙ sym (here-not k j a) in
    ⊎_elim
    (λ (less : j < k). let r = rising g j k less m in other (λ same. absurd (omega (arith, same, less))) (λ same. absurd (omega (arith, same, e, r))))
    (λ (more : k ≤ j).
    ⊎_elim
    (λ (less : k < j). let r = rising g k j less n in other (λ same. absurd (omega (arith, same, less))) (λ same. absurd (omega (arith, same, e, r))))
    (λ (not : j ≤ k).
    let same : j ≡ k = omega (arith, more, not) in
    here-at (slice_index starts k) t (e ∙ ap (slice_index starts) same) ∙ sym (here-at k j same))
    (cases_lt k j))
    (cases_lt j k)

-- ---- visits and entries

-- in m steps the engine stands at each start as often as n jumps enter the label, where the run leaves a label so
abbrev VisitedAs : Setting → (m n : ℕ) → Moment → Exit → Type 0
VisitedAs g m n a o =
    (k : ℕ) → k < length (starts_in g) → stood (code_in g) (slice_index (starts_in g) k) m a.engine a.packet ≡ here (slice_index (starts_in g) k) a.engine.place + entered_behind g.labels n o k

-- the steps to a jump, the jump, and m more
jump_visited : (g : Setting) (base m n : ℕ) (a : Moment) (l : ℕ) (ws : List ℕ) (w : World) (r : Jumps g base a l ws w) → VisitedAs g m n r.later (label_exit (slice_get g.labels (suc l)) ws w) → VisitedAs g (r.steps + suc m) (suc n) a (JumpsTo (suc l) ws w)
jump_visited g base m n a l ws w r rest k lt =
    let there = got_index (starts_in g) (suc l) (slice_index_or (places_in g) (entry_point g.labels (suc l)) 0) (start_at g.labels g.plan g.mss (suc l) r.to r.there) in
    let behind = stood_behind (starts_in g) (code_in g) base r.steps m k a r.last r.later r.leads r.off r.jump lt in
    let more = rest k lt in
    let entry : here (slice_index (starts_in g) k) r.later.engine.place ≡ is_entered (suc l) k = start_is g (suc l) k r.later.engine.place there.0 lt (r.stands.place ∙ sym there.1) in
    omega (arith, behind, more, entry)

-- ---- for each number of steps

abbrev Visits : Setting → ℕ → Moment → Exit → Type 0
Visits g m a o = (n : ℕ) × VisitedAs g m n a o

none_more : (g : Setting) (m : ℕ) (a : Moment) (o : Exit) → ((k : ℕ) → k < length (starts_in g) → stood (code_in g) (slice_index (starts_in g) k) m a.engine a.packet ≡ here (slice_index (starts_in g) k) a.engine.place) → Visits g m a o
none_more g m a o h = (0, λ k lt. let e = h k lt in omega (arith, e))

jump_visits : (g : Setting) (base m : ℕ) (a : Moment) (l : ℕ) (ws : List ℕ) (w : World) → Jumps g base a l ws w → ((j : ℕ) (b : Moment) (o : Exit) → j < m → Leaves g base b o → Visits g j b o) → Visits g m a (JumpsTo (suc l) ws w)
jump_visits g base m a l ws w r rest =
    ⊎_elim
    (λ (high : r.steps < m).
    let j : ℕ = m - suc r.steps in
    let all : r.steps + suc j ≡ m = omega (arith, high) in
    let v : Visits g j r.later (label_exit (slice_get g.labels (suc l)) ws w) = rest j r.later (label_exit (slice_get g.labels (suc l)) ws w) (omega (arith, high)) (jumped_runs g base a l ws w r) in
    (suc v.0, subst (λ i. VisitedAs g i (suc v.0) a (JumpsTo (suc l) ws w)) all (jump_visited g base j v.0 a l ws w r v.1)))
    (λ (low : m ≤ r.steps). none_more g m a (JumpsTo (suc l) ws w) (λ k lt. stood_within (starts_in g) (code_in g) base r.steps m k a r.last r.leads r.off lt low))
    (cases_lt r.steps m)

visits_by : (g : Setting) (base m : ℕ) (a : Moment) (o : Exit) → ((j : ℕ) (b : Moment) (o : Exit) → j < m → Leaves g base b o → Visits g j b o) → Leaves g base a o → Visits g m a o
visits_by g base m a (JumpsTo zero ws w) rest h = absurd h
visits_by g base m a (JumpsTo (suc l) ws w) rest h = jump_visits g base m a l ws w h rest
visits_by g base m a (EndsWith f) rest h = none_more g m a (EndsWith f) (λ k lt. stood_over (starts_in g) (code_in g) base h.steps m k a h.last f h.leads h.off h.over h.is_over lt)

visits : (g : Setting) (base most m : ℕ) (a : Moment) (o : Exit) → m ≤ most → Leaves g base a o → Visits g m a o
visits g base zero m a o le h = visits_by g base m a o (λ j b o' lt _. absurd (omega (arith, le, lt))) h
visits g base (suc most) m a o le h = visits_by g base m a o (λ j b o' lt h'. visits g base most j b o' (omega (arith, le, lt)) h') h

-- ---- for each number of jumps

not_entered : (g : Setting) (n : ℕ) (a : Moment) (o : Exit) → ((k : ℕ) → entered_behind g.labels n o k ≡ 0) → VisitedAs g 0 n a o
not_entered g n a o none k lt = let e = none k in omega (arith, e)

entries : (g : Setting) (base n : ℕ) (a : Moment) (o : Exit) → Leaves g base a o → (m : ℕ) × VisitedAs g m n a o
entries g base zero a o h = (0, not_entered g 0 a o (λ k. refl))
entries g base (suc n) a (EndsWith f) h = (0, not_entered g (suc n) a (EndsWith f) (λ k. refl))
entries g base (suc n) a (JumpsTo zero ws w) h = absurd h
entries g base (suc n) a (JumpsTo (suc l) ws w) h =
    let v = entries g base n h.later (label_exit (slice_get g.labels (suc l)) ws w) (jumped_runs g base a l ws w h) in
    (h.steps + suc v.0, jump_visited g base v.0 n a l ws w h v.1)

-- ---- the whole

-- the start is an entry of label 0
start_visited : (g : Setting) (args : List ℕ) (p : Memories) (base m n : ℕ) → VisitedAs g m n (at_start (start args base) p) (label_exit (slice_get g.labels 0) args (begun p)) → VisitedAsEntered (entered g.labels) (code_in g) (starts_in g) args p base m n
start_visited g args p base m n h k lt =
    let label = label_first g in
    let place = slice_index_or (places_in g) (entry_point g.labels 0) 0 in
    let none : place ≡ 0 = get_or_from_slice_get (places_in g) (entry_point g.labels 0) 0 0 (starts_first g.labels g.plan g.mss g.labels label.it label.there) in
    let there = got_index (starts_in g) 0 place (start_at g.labels g.plan g.mss 0 label.it label.there) in
    h k lt ∙ ap (λ c. c + entered_behind g.labels n (label_exit (slice_get g.labels 0) args (begun p)) k) (start_is g 0 k 0 there.0 lt (sym (there.1 ∙ none)))

first_leaves : (g : Setting) (args : List ℕ) (p : Memories) (base : ℕ) → IsStart (ssu_params g.labels) args p base → Leaves g base (at_start (start args base) p) (label_exit (slice_get g.labels 0) args (begun p))
first_leaves g args p base s =
    let label = label_first g in
    start_runs g base args p (start args base) label.it label.there s (start_entry (ssu_params g.labels) base args p (few_there g label.it label.there) s)

setting_visited : (g : Setting) → IsVisited (ssu_params g.labels) (entered g.labels) (code_in g) (starts_in g)
setting_visited g = record {
  visits = λ args p base s m.
      let v = visits g base m m (at_start (start args base) p) (label_exit (slice_get g.labels 0) args (begun p)) (omega arith) (first_leaves g args p base s) in
      (v.0, start_visited g args p base m v.0 v.1);
  visits_only = λ args p base s n.
      let v = entries g base n (at_start (start args base) p) (label_exit (slice_get g.labels 0) args (begun p)) (first_leaves g args p base s) in
      (v.0, start_visited g args p base v.0 n v.1);
}

pub code_visited : (labels : List Label) (p : Plan) (mss : Sequences) → Placed labels p → AreSequences (parallel_moves p labels) mss → IsVisited (ssu_params labels) (entered labels) (code_of labels p mss) (label_starts labels p mss)
code_visited labels p mss placed sequences =
    setting_visited (record { labels = labels; plan = p; mss = mss; machine = machine; layer = ready_layer labels p placed; placed = placed; sequences = sequences })
