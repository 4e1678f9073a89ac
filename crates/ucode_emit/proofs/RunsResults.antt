-- How a run leaves the code of a label, and the pieces of which that is made.
use Rattle.std.proofs.Common.{◌≡◌, ℕ, zero, suc, ◌+◌, ◌<◌, ◌≤◌, List, [], ◌∷◌, ◌++◌, map, length, Some, All, refl, sym, ap, subst, arith, slice_get, slice_index_or}
use Rattle.std.specs.List.{AllByRecursion}
use Rattle.std.proofs.lemmas.List.{length-append}
use Rattle.std.proofs.lemmas.List.Elements.{All-from_recursion, recursion_from_All}
use Rattle.nv_base.specs.Meanings.{FullOutcome, IsOver}
use Rattle.nv_base.specs.Memories.{HasSizes}
use Rattle.nv_base.specs.Words.{IsWord, assigned_all}
use Rattle.nv_base.specs.World.{World}
use Rattle.uc_isa.specs.declared.instruction.Instr.{Instr}
use Rattle.uc_isa.specs.Engine.{after}
use Rattle.uc_isa.specs.Step.{Next}
use Rattle.uc_isa.specs.Straight.{Stands as InCode}
use Rattle.uc_isa.specs.Pieces.{Moment, Leads}
use Rattle.uc_isa.proofs.Leading.{leads-none, leads-then}
use Rattle.uc_isa.proofs.Listing.{stands-left, stands-right}
use Rattle.ssu_ir.specs.Tree.{Label, Tree}
use Rattle.ssu_ir.specs.Points.{Names}
use Rattle.ssu_ir.specs.Meaning.{blank}
use Rattle.ssu_ir.specs.Entered.{Exit, JumpsTo, EndsWith}
use Rattle.place_plan.specs.Plan.{Plan}
use Rattle.ucode_emit.specs.Moves.{Move, Words, one_by_one}
use Rattle.ucode_emit.specs.Pieces.{Item, moved, move_instr, instr_of, tree_items, entry_point, Sequences, starts, parallel_moves}
use Rattle.ucode_emit.specs.Emits.{label_starts, AreSequences}
use Rattle.ucode_emit.specs.inner.Ready.{Entered}
use Rattle.ucode_emit.specs.inner.Machine.{IsDirect, AreDirect, Stands, move_instrs, Led, Over}
use Rattle.ucode_emit.specs.inner.Layers.{MachineLayer, ReadyLayer, Placed}
use Rattle.ucode_emit.proofs.Placing.{items_long, moves_as_items, ItemsIn, items_left, items_right, TreeAt, code_of}
use Rattle.ucode_emit.proofs.Visiting.{IsOff, StaysOff, off_none, off_one, off_both}

-- a form under a placement that fits it, with its parallel moves in sequence, over what is known of machine and placement
pub record Setting : Type 0 where
  pub labels : List Label
  pub plan : Plan
  pub mss : Sequences
  pub machine : MachineLayer
  pub layer : ReadyLayer labels plan
  pub placed : Placed labels plan
  pub sequences : AreSequences (parallel_moves plan labels) mss

abbrev pub code_in : Setting → List Instr
code_in g = code_of g.labels g.plan g.mss

abbrev pub places_in : Setting → List ℕ
places_in g = starts g.labels g.plan g.mss

-- where each label begins
abbrev pub starts_in : Setting → List ℕ
starts_in g = label_starts g.labels g.plan g.mss

-- no label begins between two places
abbrev pub Clear : Setting → (at end : ℕ) → Type 0
Clear g at end = (x : ℕ) → at < x → x < end → IsOff (starts_in g) x

pub clear_part : (g : Setting) (at end from to : ℕ) → Clear g at end → at ≤ from → to ≤ end → Clear g from to
clear_part g at end from to h a b x lt le = h x (omega (arith, a, lt)) (omega (arith, b, le))

-- the place after a tree
abbrev pub tree_end : Setting → (k at : ℕ) → Tree → ℕ
tree_end g k at t = at + length (tree_items g.labels g.plan g.mss k t)

-- a tree stands in the code, and no label begins inside it
pub record AtTree (g : Setting) (k at : ℕ) (of : Names) (above : List ℕ) (t : Tree) : Type 0 where
  pub tree : TreeAt g.labels g.plan g.mss (code_in g) (places_in g) k at of above t
  pub clear : Clear g at (tree_end g k at t)

-- none of n steps leads to where a label begins
abbrev pub Off : Setting → ℕ → Moment → Type 0
Off g n m = StaysOff (starts_in g) (code_in g) n m

-- ---- how a run leaves a label

-- the run ends inside the label, seen as this outcome
pub record Finishes (g : Setting) (base : ℕ) (m : Moment) (f : FullOutcome) : Type 0 where
  pub steps : ℕ
  pub last : Moment
  pub leads : Leads (code_in g) base steps m last
  pub off : Off g steps m
  pub over : Over (code_in g) base 1 last f
  pub is_over : IsOver f.outcome

-- the run comes by a jump to where a label begins, whose parameters have these words
pub record Jumps (g : Setting) (base : ℕ) (m : Moment) (l : ℕ) (ws : List ℕ) (w : World) : Type 0 where
  pub steps : ℕ
  pub last : Moment
  pub later : Moment
  pub leads : Leads (code_in g) base steps m last
  pub off : Off g steps m
  pub jump : Leads (code_in g) base 1 last later
  pub to : Label
  pub words : Words
  pub there : slice_get g.labels (suc l) ≡ Some to
  pub fits : All IsWord ws
  pub sizes : HasSizes w.packet
  pub entered : Entered g.plan to.params (assigned_all blank to.params ws) words
  pub stands : Stands base (slice_index_or (places_in g) (entry_point g.labels (suc l)) 0) words w later

abbrev pub Leaves : Setting → ℕ → Moment → Exit → Type 0
Leaves g base m (JumpsTo zero ws w) = ⊥
Leaves g base m (JumpsTo (suc l) ws w) = Jumps g base m l ws w
Leaves g base m (EndsWith f) = Finishes g base m f

pub after_steps : (g : Setting) (base i : ℕ) (a b : Moment) (o : Exit) → Leads (code_in g) base i a b → Off g i a → Leaves g base b o → Leaves g base a o
after_steps g base i a b (JumpsTo zero ws w) l off h = h
after_steps g base i a b (JumpsTo (suc n) ws w) l off h = record {
  steps = i + h.steps;
  last = h.last;
  later = h.later;
  leads = leads-then (code_in g) base i h.steps a b h.last l h.leads;
  off = off_both (starts_in g) (code_in g) base i h.steps a b l off h.off;
  jump = h.jump;
  to = h.to;
  words = h.words;
  there = h.there;
  fits = h.fits;
  sizes = h.sizes;
  entered = h.entered;
  stands = h.stands;
}
after_steps g base i a b (EndsWith f) l off h = record {
  steps = i + h.steps;
  last = h.last;
  leads = leads-then (code_in g) base i h.steps a b h.last l h.leads;
  off = off_both (starts_in g) (code_in g) base i h.steps a b l off h.off;
  over = h.over;
  is_over = h.is_over;
}

-- ---- moves go straight on

moves_lead : (g : Setting) (base at : ℕ) (ms : List Move) (e : Words) (w : World) (m : Moment) (j : ℕ) → AllByRecursion (λ q. IsDirect g.plan.slots q.0 q.1) ms → InCode (code_in g) at (move_instrs ms) → Stands base at e w m → j ≤ length ms
    → (after (code_in g) j m.engine m.packet).engine.place ≡ at + j
moves_lead g base at ms e w m zero d h s le = let emit_context : m.engine.place ≡ at = s.place in omega (arith, emit_context)
moves_lead g base at [] e w m (suc j) d h s le = absurd (omega (arith, le))
moves_lead g base at (x ∷ ms) e w m (suc j) d h s le =
    let i : Instr = move_instr x.0 x.1 in
    let l = g.machine.moves (code_in g) base at g.plan.slots (x ∷ []) e w m g.placed.fits.slots (All-from_recursion (λ q. IsDirect g.plan.slots q.0 q.1) (x ∷ []) (d.0, tt)) (stands-left (code_in g) at (i ∷ []) (move_instrs ms) h) s in
    let next : (after (code_in g) j l.later.engine l.later.packet).engine.place ≡ at + 1 + j =
    moves_lead g base (at + 1) ms (one_by_one (x ∷ []) e) w l.later j d.1 (stands-right (code_in g) at (i ∷ []) (move_instrs ms) h) l.stands (omega (arith, le)) in
    let same : (after (code_in g) (suc j) m.engine m.packet).engine.place ≡ (after (code_in g) j l.later.engine l.later.packet).engine.place =
    ap (λ (t : Next). (after (code_in g) j t.engine t.packet).engine.place) l.leads.state in
    omega (arith, next, same)

moves_off : (g : Setting) (base at end : ℕ) (ms : List Move) (e : Words) (w : World) (m : Moment) → AreDirect g.plan.slots ms → InCode (code_in g) at (move_instrs ms) → Stands base at e w m → Clear g at end → at + length ms < end
    → Off g (length ms) m
moves_off g base at end ms e w m d h s clear within j lt =
    let there = moves_lead g base at ms e w m (suc j) (recursion_from_All (λ q. IsDirect g.plan.slots q.0 q.1) ms d) h s (omega (arith, lt)) in
    subst (IsOff (starts_in g)) (sym there) (clear (at + suc j) (omega arith) (omega (arith, lt, within)))

-- one step to a place where no label begins
step_off : (g : Setting) (base at end to : ℕ) (e : Words) (w : World) (m : Moment) (l : Led (code_in g) base 1 m to e w) → Clear g at end → at < to → to < end → Off g 1 m
step_off g base at end to e w m l clear lt within = off_one (starts_in g) (code_in g) base m l.later l.leads (subst (IsOff (starts_in g)) (sym l.stands.place) (clear to lt within))

-- ---- pieces

-- moves, and then other items
pub run_front : (g : Setting) (base at end : ℕ) (ms : List Move) (is : List Item) (e : Words) (w : World) (m : Moment) (o : Exit)
    → ItemsIn (code_in g) (places_in g) at (moved ms ++ is) → AreDirect g.plan.slots ms → Stands base at e w m → Clear g at end → at + length ms < end
    → ((b : Moment) → ItemsIn (code_in g) (places_in g) (at + length ms) is → Stands base (at + length ms) (one_by_one ms e) w b → Leaves g base b o)
    → Leaves g base m o
run_front g base at end ms is e w m o h d s clear within k =
    let front = subst (λ l. InCode (code_in g) at l) (moves_as_items (places_in g) ms) (items_left (code_in g) (places_in g) at (moved ms) is h) in
    let rest = items_right (code_in g) (places_in g) at (at + length ms) (moved ms) is (ap (λ j. at + j) (sym (items_long ms))) h in
    let l = g.machine.moves (code_in g) base at g.plan.slots ms e w m g.placed.fits.slots d front s in
    after_steps g base (length ms) m l.later o l.leads (moves_off g base at end ms e w m d front s clear within) (k l.later rest l.stands)

-- moves at the end of a piece
pub run_back : (g : Setting) (base at end : ℕ) (ms : List Move) (e : Words) (w : World) (m : Moment) (o : Exit)
    → ItemsIn (code_in g) (places_in g) at (moved ms) → AreDirect g.plan.slots ms → Stands base at e w m → Clear g at end → at + length ms < end
    → ((b : Moment) → Stands base (at + length (moved ms)) (one_by_one ms e) w b → Leaves g base b o)
    → Leaves g base m o
run_back g base at end ms e w m o h d s clear within k =
    let front = subst (λ l. InCode (code_in g) at l) (moves_as_items (places_in g) ms) h in
    let l = g.machine.moves (code_in g) base at g.plan.slots ms e w m g.placed.fits.slots d front s in
    after_steps g base (length ms) m l.later o l.leads (moves_off g base at end ms e w m d front s clear within)
    (k l.later (subst (λ j. Stands base (at + j) (one_by_one ms e) w l.later) (sym (items_long ms)) l.stands))

piece_sum : (at l j whole r : ℕ) → whole ≡ j + suc r → j ≡ l → at + l + 1 + r ≡ at + whole
piece_sum at l j whole r e f = omega (arith, e, f)

piece_end : (at : ℕ) (ms : List Move) (i : Item) (rest : List Item) → at + length ms + 1 + length rest ≡ at + length (moved ms ++ i ∷ rest)
piece_end at ms i rest = piece_sum at (length ms) (length (moved ms)) (length (moved ms ++ i ∷ rest)) (length rest) (length-append (moved ms) (i ∷ rest)) (items_long ms)

-- moves, one instruction, and moves
pub run_piece : (g : Setting) (base at end : ℕ) (ms back : List Move) (i : Item) (e e1 : Words) (w w1 : World) (m : Moment) (o : Exit)
    → ItemsIn (code_in g) (places_in g) at (moved ms ++ i ∷ moved back) → AreDirect g.plan.slots ms → AreDirect g.plan.slots back → Stands base at e w m
    → Clear g at end → at + length (moved ms ++ i ∷ moved back) < end
    → ((to : ℕ) (b : Moment) → InCode (code_in g) to (instr_of (places_in g) i ∷ []) → Stands base to (one_by_one ms e) w b → Led (code_in g) base 1 b (to + 1) e1 w1)
    → ((b : Moment) → Stands base (at + length (moved ms ++ i ∷ moved back)) (one_by_one back e1) w1 b → Leaves g base b o)
    → Leaves g base m o
run_piece g base at end ms back i e e1 w w1 m o h d d1 s clear within act k =
    let whole = piece_end at ms i (moved back) in
    let long = items_long back in
    run_front g base at end ms (i ∷ moved back) e w m o h d s clear (omega (arith, within, whole))
    (λ b rest there.
    let one = stands-left (code_in g) (at + length ms) (instr_of (places_in g) i ∷ []) (map (instr_of (places_in g)) (moved back)) rest in
    let behind = items_right (code_in g) (places_in g) (at + length ms) (at + length ms + 1) (i ∷ []) (moved back) refl rest in
    let l = act (at + length ms) b one there in
    after_steps g base 1 b l.later o l.leads (step_off g base at end (at + length ms + 1) e1 w1 b l clear (omega arith) (omega (arith, within, whole)))
    (run_back g base (at + length ms + 1) end back e1 w1 l.later o behind d1 l.stands (clear_part g at end (at + length ms + 1) end clear (omega arith) (omega arith)) (omega (arith, within, whole, long))
    (λ c last. k c (subst (λ j. Stands base j (one_by_one back e1) w1 c) whole last))))

-- moves, and one instruction with which the run ends
pub run_end : (g : Setting) (base at end : ℕ) (ms : List Move) (i : Item) (is : List Item) (e : Words) (w : World) (m : Moment) (f : FullOutcome)
    → ItemsIn (code_in g) (places_in g) at (moved ms ++ i ∷ is) → AreDirect g.plan.slots ms → Stands base at e w m → Clear g at end → at + length (moved ms ++ i ∷ is) ≤ end → IsOver f.outcome
    → ((to : ℕ) (b : Moment) → InCode (code_in g) to (instr_of (places_in g) i ∷ []) → Stands base to (one_by_one ms e) w b → Over (code_in g) base 1 b f)
    → Leaves g base m (EndsWith f)
run_end g base at end ms i is e w m f h d s clear within is_over act =
    let whole = piece_end at ms i is in
    run_front g base at end ms (i ∷ is) e w m (EndsWith f) h d s clear (omega (arith, within, whole))
    (λ b rest there.
    let one = stands-left (code_in g) (at + length ms) (instr_of (places_in g) i ∷ []) (map (instr_of (places_in g)) is) rest in
    record { steps = 0; last = b; leads = leads-none (code_in g) base b; off = off_none (starts_in g) (code_in g) b; over = act (at + length ms) b one there; is_over = is_over })
