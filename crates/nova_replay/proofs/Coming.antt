-- What came of a packet, by how its run ended.
use Rattle.std.proofs.Common.{◌≡◌, ℕ, zero, suc, ◌*◌, ◌-◌, ◌≤◌, ◌<◌, List, [], ◌∷◌, Bool, true, false, None, length, take, drop, refl, sym, ap, ◌∙◌, arith, nat_le, if◌then◌else◌}
use Rattle.std.specs.Prelude.{min}
use Rattle.std.proofs.lemmas.Bool.{le-leb, lt-leb}
use Rattle.std.proofs.lemmas.List.{length-drop}
use Rattle.nv_base.specs.Memories.{Memories, stored}
use Rattle.nv_base.specs.declared.term.Mem.TheVariants.{Sdram}
use Rattle.nv_base.specs.declared.outcome.Outcome.{Outcome}
use Rattle.nv_base.specs.declared.outcome.Outcome.TheVariants as outcomes
use Rattle.uc_isa.specs.Engine.{engine}
use Rattle.nova_replay.specs.declared.plan.Plan.{Plan}
use Rattle.nova_replay.specs.declared.packet.Fate.TheVariants.{Ended, Trouble}
use Rattle.nova_replay.specs.declared.counts.Cause.TheVariants as causes
use Rattle.nova_replay.proofs.Fronts.{drop_least}
use Rattle.nova_replay.specs.Frames.{quadwords, bytes_of}
use Rattle.nova_replay.specs.Fates.{Came, IsRun, args_with, came, came_by, came_of, length_by, spill_base, taken}

which : (at count : ℕ) (words : List ℕ) (m : Memories) → Bool → Came
which at count words m b =
    if b
    then record { memory = m; fate = Ended count words; out = take count (bytes_of (drop (2 * at) m.sdram)) }
    else record { memory = m; fate = Trouble (causes.LongOut count); out = [] }

-- so many bytes are there, or not
pub taken_some : (at count : ℕ) (words : List ℕ) (m : Memories) (rest : List ℕ) → rest ≡ drop (min (2 * at) (length m.sdram)) m.sdram → count ≤ 4 * length rest
    → ((taken at count words m).fate ≡ Ended count words) × ((taken at count words m).out ≡ take count (bytes_of rest))
unfolding which
taken_some at count words m rest is enough =
    let same : rest ≡ drop (2 * at) m.sdram = is ∙ drop_least (2 * at) m.sdram in
    let long : length rest ≡ length m.sdram - 2 * at = ap length same ∙ length-drop (2 * at) m.sdram in
    let there : nat_le count (4 * (length m.sdram - 2 * at)) ≡ true = le-leb count (4 * (length m.sdram - 2 * at)) (omega (arith, long, enough)) in (
      ap (λ b. (which at count words m b).fate) there,
      ap (λ b. (which at count words m b).out) there ∙ ap (λ xs. take count (bytes_of xs)) (sym same),
    )

pub taken_none : (at count : ℕ) (words : List ℕ) (m : Memories) (rest : List ℕ) → rest ≡ drop (min (2 * at) (length m.sdram)) m.sdram → 4 * length rest < count
    → ((taken at count words m).fate ≡ Trouble (causes.LongOut count)) × ((taken at count words m).out ≡ [])
unfolding which
taken_none at count words m rest is few =
    let same : rest ≡ drop (2 * at) m.sdram = is ∙ drop_least (2 * at) m.sdram in
    let long : length rest ≡ length m.sdram - 2 * at = ap length same ∙ length-drop (2 * at) m.sdram in
    let there : nat_le count (4 * (length m.sdram - 2 * at)) ≡ false = lt-leb count (4 * (length m.sdram - 2 * at)) (omega (arith, long, few)) in (
      ap (λ b. (which at count words m b).fate) there,
      ap (λ b. (which at count words m b).out) there,
    )

which_memory : (at count : ℕ) (words : List ℕ) (m : Memories) (b : Bool) → (which at count words m b).memory ≡ m
unfolding which
which_memory at count words m true = refl
which_memory at count words m false = refl

-- how a run ended changes no memory
pub memory_by : (plan : Plan) (len : ℕ) (m : Memories) (outcome : Outcome) → (came_by plan len m outcome).memory ≡ m
unfolding which
memory_by plan len m (outcomes.Ended words) =
    which_memory plan.at (length_by plan.length words len) words m (nat_le (length_by plan.length words len) (4 * (length m.sdram - 2 * plan.at)))
memory_by plan len m (outcomes.Raised number words) = refl
memory_by plan len m (outcomes.Fault mem at) = refl
memory_by plan len m outcomes.Going = refl

-- a packet that can't be put
pub came_long : (plan : Plan) (m : Memories) (packet words : List ℕ) → words ≡ quadwords packet → stored Sdram plan.at words m ≡ None → came plan m packet ≡ came_of plan (length packet) m None
came_long plan m packet words is none = ap (λ ws. came_of plan (length packet) m (stored Sdram plan.at ws m)) (sym is) ∙ ap (came_of plan (length packet) m) none

-- a packet that ran
pub came_ran : (plan : Plan) (m new : Memories) (packet words args : List ℕ) (outcome : Outcome) → words ≡ quadwords packet → args ≡ args_with plan.length plan.args (length packet)
    → IsRun plan.code.now args plan.steps (stored Sdram plan.at words m) new outcome → came plan m packet ≡ came_by plan (length packet) new outcome
came_ran plan m new packet words args outcome is given r =
    let run = engine plan.code.now args spill_base r.begun plan.steps in
    ap (λ ws. came_of plan (length packet) m (stored Sdram plan.at ws m)) (sym is)
    ∙ ap (came_of plan (length packet) m) r.fits
    ∙ ap (λ a. came_by plan (length packet) (engine plan.code.now a spill_base r.begun plan.steps).packet (engine plan.code.now a spill_base r.begun plan.steps).outcome) (sym given)
    ∙ ap (λ x. came_by plan (length packet) x run.outcome) (sym r.leaves)
    ∙ ap (came_by plan (length packet) new) (sym r.ends)
