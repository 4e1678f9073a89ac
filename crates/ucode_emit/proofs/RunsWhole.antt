-- The run of the whole code: labels, jumps, the start, and that the code agrees with its form.
use Rattle.std.proofs.Common.{◌≡◌, ℕ, zero, suc, ◌+◌, ◌<◌, ◌≤◌, ◌⊎◌, ⊎_elim, List, [], ◌∷◌, ◌++◌, map, length, Option, Some, None, All, true, ◌&&◌, refl, sym, ap, ◌∙◌, subst, inl, inr, arith, slice_get, slice_index_or}
use Rattle.std.specs.List.{list_all}
use Rattle.std.proofs.lemmas.Bool.{and_parts, false≢true}
use Rattle.std.proofs.lemmas.Option.{none-some, same_Some, get_or_from_slice_get}
use Rattle.std.proofs.lemmas.List.{length-append}
use Rattle.std.proofs.lemmas.List.Elements.{All-append}
use Rattle.nv_base.specs.declared.outcome.Outcome.TheVariants as outcome
use Rattle.nv_base.specs.declared.outcome.Write.{Write as WriteEvent}
use Rattle.nv_base.specs.Meanings.{FullOutcome, seen, source_memories, source_writes}
use Rattle.nv_base.specs.Memories.{Memories, HasSizes}
use Rattle.nv_base.specs.Sets.{all_different}
use Rattle.nv_base.specs.Words.{IsWord, assigned_all}
use Rattle.nv_base.specs.World.{World, begun, over}
use Rattle.nv_base.proofs.Sets.{within-left}
use Rattle.nv_base.proofs.Same.{same_lands}
use Rattle.nv_base.proofs.MemoryLemmas.{seen_follows}
use Rattle.nv_base.proofs.Environments.{blank-env, assigned-all-env}
use Rattle.uc_isa.specs.declared.instruction.Instr.{Instr}
use Rattle.uc_isa.specs.declared.engine.Engine.{Engine}
use Rattle.uc_isa.specs.Agrees.{Agrees, IsStart}
use Rattle.uc_isa.specs.Code.{CodeView}
use Rattle.uc_isa.specs.Engine.{engine, start}
use Rattle.uc_isa.specs.Pieces.{Moment, Leads, EndsIn, IsCovered, run_from}
use Rattle.uc_isa.specs.Straight.{going}
use Rattle.uc_isa.proofs.Agreement.{agrees-where_same}
use Rattle.uc_isa.proofs.Leading.{leads-then, leads-end, leads-reached, covered-keeps}
use Rattle.uc_isa.proofs.Steps.{engine-grows}
use Rattle.uc_isa.specs.Entry.{IsEntry}
use Rattle.ssu_ir.specs.Tree.{Label}
use Rattle.ssu_ir.specs.Points.{own}
use Rattle.ssu_ir.specs.Meaning.{run, blank, ssu_meaning, params_of, ssu_params}
use Rattle.ssu_ir.specs.Entered.{Exit, JumpsTo, EndsWith, outcome_of, tree_exit, label_exit}
use Rattle.ssu_ir.specs.Single.{unknown, defined, all_defined, is_entry, is_single}
use Rattle.ssu_ir.proofs.Exits.{enter_by_exit, meaning_by_exit}
use Rattle.ssu_ir.proofs.Growth.{meaning-follows}
use Rattle.ssu_ir.proofs.Rules.{single_label_parts}
use Rattle.place_plan.specs.Plan.{Plan}
use Rattle.ucode_emit.specs.Moves.{Move, Words, one_by_one, StandFor, none, once, around, at_rest}
use Rattle.ucode_emit.specs.Pieces.{Sequences, moved, instr_of, items, starts, starts_from, single_moves, all_copies, entry_point, entry_moves, sequence_at, tree_items, label_items, tree_moves, label_moves, moves_from, parallel_moves}
use Rattle.ucode_emit.specs.Emits.{IsSequence, AreSequences}
use Rattle.ucode_emit.specs.inner.Ready.{Ready, Entered}
use Rattle.ucode_emit.specs.inner.Machine.{IsDirect, AreDirect, Stands, Over, word_at}
use Rattle.ucode_emit.specs.inner.Layers.{MachineLayer, ReadyLayer, Placed, root_point, at_start}
use Rattle.ucode_emit.proofs.Copies.{one_append}
use Rattle.ucode_emit.proofs.PointsTree.{different_left, different_right, different_apart}
use Rattle.ucode_emit.proofs.Entries.{params_differ, few_params}
use Rattle.ucode_emit.proofs.LabelPlaces.{starts_apart, start_at}
use Rattle.ucode_emit.proofs.LawfulCode.{tree_long}
use Rattle.ucode_emit.proofs.MachineOperations.{start_entry}
use Rattle.ucode_emit.proofs.Placing.{items_long, there_by_length, Part, part_head, LabelAt, label_at, entry_later}
use Rattle.ucode_emit.proofs.RunsWords.{each_its_word}
use Rattle.ucode_emit.proofs.RunsResults.{Setting, code_in, places_in, starts_in, Clear, clear_part, tree_end, Jumps, Leaves, run_back}
use Rattle.ucode_emit.proofs.RunsSteps.{Rules}
use Rattle.ucode_emit.proofs.RunsTrees.{tree_runs}

abbrev AtLabel : Setting → ℕ → Label → Type 0
AtLabel g k l = LabelAt g.labels g.plan g.mss (code_in g) (places_in g) k l

-- ---- what a label keeps

rules_of : (labels : List Label) (x : Label) (rest : List ℕ) → all_different (x.params ++ (defined x.body ++ rest)) ≡ true → is_single labels x ≡ true → Rules labels own x.params x.params unknown x.body
rules_of labels x rest d h =
    let s = single_label_parts labels x h in
    record {
      scope = record {
        scoped = s.scoped;
        named = λ z e. e;
        own_name = λ z e. refl;
        apart = λ z i j. different_apart x.params (defined x.body ++ rest) d z i (within-left (defined x.body) rest z j);
        different = different_left (defined x.body) rest (different_right x.params (defined x.body ++ rest) d);
      };
      within = λ z i. i;
      fit = s.fit;
      addressed = s.addresses;
    }

label_rules : (labels ls : List Label) (l : ℕ) (to : Label) → all_different (all_defined ls) ≡ true → list_all (is_single labels) ls ≡ true → slice_get ls l ≡ Some to → Rules labels own to.params to.params unknown to.body
label_rules labels [] l to d h e = absurd (none-some to e)
label_rules labels (x ∷ ls) zero to d h e =
    subst (λ (y : Label). Rules labels own y.params y.params unknown y.body) (same_Some x to e) (rules_of labels x (all_defined ls) d (and_parts (is_single labels x) (list_all (is_single labels) ls) h).0)
label_rules labels (x ∷ ls) (suc l) to d h e =
    label_rules labels ls l to (different_right (defined x.body) (all_defined ls) (different_right x.params (defined x.body ++ all_defined ls) d)) (and_parts (is_single labels x) (list_all (is_single labels) ls) h).1 e

rules_there : (g : Setting) (l : ℕ) (to : Label) → slice_get g.labels l ≡ Some to → Rules g.labels own to.params to.params unknown to.body
rules_there g l to e =
    let a = and_parts (is_entry (slice_get g.labels 0)) (all_different (all_defined g.labels) && list_all (is_single g.labels) g.labels) g.placed.single in
    let b = and_parts (all_different (all_defined g.labels)) (list_all (is_single g.labels) g.labels) a.1 in
    label_rules g.labels g.labels l to b.0 b.1 e

-- ---- how a run leaves a label

abbrev front_of : Setting → ℕ → Label → List Move → List Move
front_of g k to ms = single_moves None ms ++ all_copies g.plan k to.params

-- no other label begins inside the code of a label
label_clear : (g : Setting) (l : ℕ) (to : Label) → slice_get g.labels l ≡ Some to → (emit_context : AtLabel g (entry_point g.labels l) to)
    → Clear g emit_context.at (emit_context.at + length (label_items g.labels g.plan g.mss (entry_point g.labels l) to))
label_clear g l to found emit_context x lt le k within same =
    let begins : slice_get (starts_in g) l ≡ Some emit_context.at = start_at g.labels g.plan g.mss l to found ∙ ap (λ n. Some n) (get_or_from_slice_get (places_in g) (entry_point g.labels l) emit_context.at 0 emit_context.begins) in
    ⊎_elim
    (λ low. absurd (omega (arith, low, lt, same)))
    (λ high. absurd (omega (arith, high, le, same)))
    (starts_apart g.labels g.plan g.mss l to emit_context.at k found begins within)

body_runs : (g : Setting) (base l : ℕ) (to : Label) (ws : List ℕ) (e : Words) (w : World) (m : Moment) → slice_get g.labels l ≡ Some to → All IsWord ws → HasSizes w.packet
    → (emit_context : AtLabel g (entry_point g.labels l) to)
    → AreDirect g.plan.slots (front_of g (entry_point g.labels l) to (sequence_at g.mss (entry_point g.labels l)))
    → Ready g.labels g.plan (suc (entry_point g.labels l)) (root_point own to.params to.body) (assigned_all blank to.params ws) (one_by_one (front_of g (entry_point g.labels l) to (sequence_at g.mss (entry_point g.labels l))) e)
    → Stands base emit_context.at e w m → Leaves g base m (tree_exit to.body (assigned_all blank to.params ws) w)
body_runs g base l to ws e w m found fit sizes emit_context direct ready s =
    let k = entry_point g.labels l in
    let env = assigned_all blank to.params ws in
    let front = front_of g k to (sequence_at g.mss k) in
    let body = tree_items g.labels g.plan g.mss (suc k) to.body in
    let end = emit_context.at + length (label_items g.labels g.plan g.mss k to) in
    let clear = label_clear g l to found emit_context in
    let whole = length-append (moved front) body in
    let many = items_long front in
    let some = tree_long g.labels g.plan g.mss (suc k) to.body in
    let to_body = emit_context.at + length (moved front) in
    run_back g base emit_context.at end front e w m (tree_exit to.body env w) emit_context.in_code direct s clear (omega (arith, whole, many, some))
    (λ b there.
    tree_runs g base to.body (suc k) to_body own to.params to.params unknown env env (one_by_one front e) w b
    (record { tree = emit_context.body; clear = clear_part g emit_context.at end to_body (tree_end g (suc k) to_body to.body) clear (omega arith) (omega (arith, whole)) })
    (rules_there g l to found)
    (record {
      fits = assigned-all-env blank to.params ws blank-env fit;
      copied = record { each = λ y i. refl };
      numbers = record { each = λ y v h. absurd (none-some v h) };
      sizes = sizes;
      ready = ready;
    })
    there)

-- nothing is moved before a label that isn't the first
silent : {moves ms : List Move} → StandFor moves ms → moves ≡ [] → ms ≡ []
silent none e = refl
silent (once a b n h) e = cc
silent (around a b c n h) e = cc
silent (at_rest h) e = cc

label_silent : (p : Plan) (k : ℕ) (l : Label) (all : List (List Move)) → 0 < k → Part k (label_moves p k l) all → slice_get all k ≡ Some []
label_silent p zero l all lt h = absurd (omega arith)
label_silent p (suc k) l all lt h = part_head (suc k) [] (tree_moves p (suc (suc k)) l.body) all h

no_moves : (g : Setting) (l : ℕ) (to : Label) → slice_get g.labels (suc l) ≡ Some to → AtLabel g (entry_point g.labels (suc l)) to → sequence_at g.mss (entry_point g.labels (suc l)) ≡ []
no_moves g l to found emit_context =
    let k = entry_point g.labels (suc l) in
    let there = label_silent g.plan k to (parallel_moves g.plan g.labels) (entry_later g.labels l to found) emit_context.moves in
    silent (g.sequences.each k [] (sequence_at g.mss k) there (there_by_length (parallel_moves g.plan g.labels) g.mss k [] [] g.sequences.as_many there)).kinds refl

label_runs : (g : Setting) (base l : ℕ) (to : Label) (ws : List ℕ) (e : Words) (w : World) (m : Moment) → slice_get g.labels (suc l) ≡ Some to → All IsWord ws → HasSizes w.packet
    → Entered g.plan to.params (assigned_all blank to.params ws) e → Stands base (slice_index_or (places_in g) (entry_point g.labels (suc l)) 0) e w m
    → Leaves g base m (tree_exit to.body (assigned_all blank to.params ws) w)
label_runs g base l to ws e w m found fit sizes entered s =
    let k = entry_point g.labels (suc l) in
    let env = assigned_all blank to.params ws in
    let emit_context = label_at g.labels g.plan g.mss (suc l) to found in
    let still : [] ≡ sequence_at g.mss k = sym (no_moves g l to found emit_context) in
    let r = g.layer.entry (suc l) to env e found emit_context.body.points_ entered in
    body_runs g base (suc l) to ws e w m found fit sizes emit_context
    (subst (λ z. AreDirect g.plan.slots (front_of g k to z)) still r.0)
    (subst (λ z. Ready g.labels g.plan (suc k) (root_point own to.params to.body) env (one_by_one (front_of g k to z) e)) still r.1)
    (subst (λ j. Stands base j e w m) (get_or_from_slice_get (places_in g) k emit_context.at 0 emit_context.begins) s)

-- after a jump
pub jumped_runs : (g : Setting) (base : ℕ) (a : Moment) (l : ℕ) (ws : List ℕ) (w : World) → (r : Jumps g base a l ws w) → Leaves g base r.later (label_exit (slice_get g.labels (suc l)) ws w)
jumped_runs g base a l ws w r =
    subst (λ o. Leaves g base r.later (label_exit o ws w)) (sym r.there) (label_runs g base l r.to ws r.words w r.later r.there r.fits r.sizes r.entered r.stands)

-- ---- the start

pub starts_first : (labels : List Label) (p : Plan) (mss : Sequences) (ls : List Label) (it : Label) → slice_get ls 0 ≡ Some it → slice_get (starts_from labels p mss 0 0 ls) (entry_point ls 0) ≡ Some 0
starts_first labels p mss [] it e = absurd (none-some it e)
starts_first labels p mss (x ∷ ls) it e = refl

moves_first : (p : Plan) (ls : List Label) (it : Label) → slice_get ls 0 ≡ Some it → slice_get (moves_from p 0 ls) (entry_point ls 0) ≡ Some (entry_moves p 0 it.params)
moves_first p [] it e = absurd (none-some it e)
moves_first p (x ∷ ls) it e = ap (λ (y : Label). Some (entry_moves p 0 y.params)) (same_Some x it e)

pub few_there : (g : Setting) (it : Label) → slice_get g.labels 0 ≡ Some it → ssu_params g.labels ≤ 8
few_there g it found = subst (λ n. n ≤ 8) (sym (ap params_of found)) (few_params g.labels g.plan it g.placed found)

pub start_runs : (g : Setting) (base : ℕ) (args : List ℕ) (p : Memories) (first_state : Engine) (it : Label) → slice_get g.labels 0 ≡ Some it → IsStart (ssu_params g.labels) args p base → IsEntry args base first_state
    → Leaves g base (at_start first_state p) (label_exit (slice_get g.labels 0) args (begun p))
start_runs g base args p first_state it found given entry =
    let k = entry_point g.labels 0 in
    let m = at_start first_state p in
    let e = word_at base m in
    let env = assigned_all blank it.params args in
    let ms = sequence_at g.mss k in
    let first = single_moves None ms in
    let behind = all_copies g.plan k it.params in
    let many : length args ≡ length it.params = given.words.0 ∙ ap params_of found in
    let s = g.machine.starts (length it.params) base args p first_state (few_params g.labels g.plan it g.placed found) (record { words = (many, given.words.1); memories = given.memories; spills = given.spills }) entry in
    let emit_context = label_at g.labels g.plan g.mss 0 it found in
    let there = moves_first g.plan g.labels it found in
    let sequence : IsSequence (entry_moves g.plan 0 it.params) ms = g.sequences.each k (entry_moves g.plan 0 it.params) ms there
    (there_by_length (parallel_moves g.plan g.labels) g.mss k (entry_moves g.plan 0 it.params) [] g.sequences.as_many there) in
    let b = g.layer.begins it ms args env e found many (λ i x w a c. each_its_word blank it.params args i x w (params_differ g.labels g.plan 0 it g.placed found) a c) sequence s.1 in
    let r = g.layer.entry 0 it env (one_by_one first e) found emit_context.body.points_ b.1 in
    let at : emit_context.at ≡ 0 = same_Some emit_context.at 0 (sym emit_context.begins ∙ starts_first g.labels g.plan g.mss g.labels it found) in
    subst (λ o. Leaves g base m (label_exit o args (begun p))) (sym found)
    (body_runs g base 0 it args e (begun p) m found given.words.1 given.memories emit_context
    (All-append (λ q. IsDirect g.plan.slots q.0 q.1) first behind b.0 r.0)
    (subst (λ x. Ready g.labels g.plan (suc k) (root_point own it.params it.body) env x) (sym (one_append first behind e)) r.1)
    (subst (λ j. Stands base j e (begun p) m) (sym at) s.0))

-- ---- runs with so many jumps

-- the run ends, seen as this outcome
pub record Finished (code : List Instr) (base : ℕ) (m : Moment) (f : FullOutcome) : Type 0 where
  pub steps : ℕ
  pub over : Over code base steps m f

-- n steps or more lead to a moment that is seen as this outcome
pub record Reached (code : List Instr) (base n : ℕ) (m : Moment) (f : FullOutcome) : Type 0 where
  pub steps : ℕ
  pub later : Moment
  pub leads : Leads code base steps m later
  pub far : n ≤ steps
  pub alike : seen (going later.packet later.writes) ≡ seen f

abbrev pub Result : List Instr → ℕ → ℕ → Moment → FullOutcome → Type 0
Result code base n m f = Finished code base m f ⊎ Reached code base n m f

-- a jump counts
after_jump : (code : List Instr) (base i n : ℕ) (a b c : Moment) (f : FullOutcome) → Leads code base i a b → Leads code base 1 b c → Result code base n c f → Result code base (suc n) a f
after_jump code base i n a b c f l one (inl h) = inl (record {
  steps = i + 1 + h.steps;
  over = record { last = h.over.last; ends = leads-end code base (i + 1) h.steps a c h.over.last (leads-then code base i 1 a b c l one) h.over.ends; alike = h.over.alike };
})
after_jump code base i n a b c f l one (inr r) = inr (record {
  steps = i + 1 + r.steps;
  later = r.later;
  leads = leads-then code base (i + 1) r.steps a c r.later (leads-then code base i 1 a b c l one) r.leads;
  far = let d : n ≤ r.steps = r.far in omega (arith, d);
  alike = r.alike;
})

abbrev going_with : Memories → List WriteEvent → FullOutcome
going_with p ws = record { outcome = outcome.Going; packet = p; writes = ws }

seen_going : (base at : ℕ) (e : Words) (w : World) (b : Moment) → Stands base at e w b → seen (going b.packet b.writes) ≡ seen (over outcome.Going w)
seen_going base at e w b s = ap (λ p. going_with p (source_writes b.writes)) s.packet ∙ ap (λ ws. going_with (source_memories w.packet) ws) s.writes

run_results : (g : Setting) (base n : ℕ) (a : Moment) (o : Exit) → Leaves g base a o → Result (code_in g) base n a (outcome_of (run g.labels n) o)
run_results g base n a (EndsWith f) h = inl (record {
  steps = h.steps + 1;
  over = record { last = h.over.last; ends = leads-end (code_in g) base h.steps 1 a h.last h.over.last h.leads h.over.ends; alike = h.over.alike };
})
run_results g base n a (JumpsTo zero ws w) h = absurd h
run_results g base zero a (JumpsTo (suc l) ws w) h = inr (record {
  steps = h.steps + 1;
  later = h.later;
  leads = leads-then (code_in g) base h.steps 1 a h.last h.later h.leads h.jump;
  far = omega arith;
  alike = seen_going base (slice_index_or (places_in g) (entry_point g.labels (suc l)) 0) h.words w h.later h.stands;
})
run_results g base (suc n) a (JumpsTo (suc l) ws w) h =
    let next = label_exit (slice_get g.labels (suc l)) ws w in
    subst (Result (code_in g) base (suc n) a) (sym (enter_by_exit (run g.labels n) (slice_get g.labels (suc l)) ws w))
    (after_jump (code_in g) base h.steps n a h.last h.later (outcome_of (run g.labels n) next) h.leads h.jump (run_results g base n h.later next (jumped_runs g base a l ws w h)))

pub meaning_runs : (g : Setting) (base : ℕ) (args : List ℕ) (p : Memories) (first_state : Engine) (it : Label) → slice_get g.labels 0 ≡ Some it → IsStart (ssu_params g.labels) args p base → IsEntry args base first_state
    → (n : ℕ) → Result (code_in g) base n (at_start first_state p) (ssu_meaning g.labels args p n)
meaning_runs g base args p first_state it found given entry n =
    subst (Result (code_in g) base n (at_start first_state p)) (sym (meaning_by_exit g.labels args p n))
    (run_results g base n (at_start first_state p) (label_exit (slice_get g.labels 0) args (begun p)) (start_runs g base args p first_state it found given entry))

-- ---- agreement

abbrev view_in : Setting → CodeView
view_in g = record { params = ssu_params g.labels; list = code_in g }

pub lands_at : (g : Setting) (base i : ℕ) (first_state : Engine) (p : Memories) (f : FullOutcome) → Result (code_in g) base i (at_start first_state p) f
    → (j : ℕ) × (f.outcome ≡ outcome.Going → i ≤ j) × (seen (run_from (code_in g) j (at_start first_state p)) ≡ seen f)
lands_at g base i first_state p f (inl h) = (h.steps + i, λ e. omega arith, ap seen (h.over.ends.since i) ∙ h.over.alike)
lands_at g base i first_state p f (inr r) = (r.steps, λ e. r.far, ap seen (leads-reached (code_in g) base r.steps (at_start first_state p) r.later r.leads) ∙ r.alike)

pub covered_at : (code : List Instr) (base m : ℕ) (a : Moment) (f : FullOutcome) → Result code base (suc m) a f → IsCovered code base a m ⊎ ((n : ℕ) × (f : FullOutcome) × EndsIn code base n a f)
covered_at code base m a f (inl h) = inr (h.steps, h.over.last, h.over.ends)
covered_at code base m a f (inr r) = inl (record { steps = r.steps; later = r.later; inside = let d : suc m ≤ r.steps = r.far in omega (arith, d); leads = r.leads })

pub record First (o : Option Label) : Type 0 where
  pub it : Label
  pub there : o ≡ Some it

first_label : (o : Option Label) → is_entry o ≡ true → First o
first_label (Some l) h = record { it = l; there = refl }
first_label None h = absurd (false≢true h)

-- the first label is there
pub label_first : (g : Setting) → First (slice_get g.labels 0)
label_first g = first_label (slice_get g.labels 0) (and_parts (is_entry (slice_get g.labels 0)) (all_different (all_defined g.labels) && list_all (is_single g.labels) g.labels) g.placed.single).0

setting_agrees : (g : Setting) → Agrees (ssu_params g.labels) (ssu_meaning g.labels) (view_in g)
setting_agrees g =
    let label = label_first g in
    let few = few_there g label.it label.there in
    agrees-where_same (ssu_params g.labels) (ssu_meaning g.labels) (view_in g) refl
    (λ args p base s.
    same_lands (ssu_meaning g.labels args p) (engine (view_in g) args base p)
    (λ i. lands_at g base i (start args base) p (ssu_meaning g.labels args p i) (meaning_runs g base args p (start args base) label.it label.there s (start_entry (ssu_params g.labels) base args p few s) i))
    (engine-grows (view_in g) args base p))
    (λ args p base s. seen_follows p (ssu_meaning g.labels args p) (meaning-follows g.labels args p))
    (λ args p base s m.
    (covered-keeps (code_in g) base (at_start (start args base) p) m
    (covered_at (code_in g) base m (at_start (start args base) p) (ssu_meaning g.labels args p (suc m)) (meaning_runs g base args p (start args base) label.it label.there s (start_entry (ssu_params g.labels) base args p few s) (suc m)))).0)

-- the code of a form under a placement that fits it does what the form says
pub emitted_agrees : (labels : List Label) (p : Plan) (mss : Sequences) → MachineLayer → ReadyLayer labels p → Placed labels p → AreSequences (parallel_moves p labels) mss
    → Agrees (ssu_params labels) (ssu_meaning labels) (record { params = ssu_params labels; list = map (instr_of (starts labels p mss)) (items labels p mss) })
emitted_agrees labels p mss machine layer placed sequences =
    setting_agrees (record { labels = labels; plan = p; mss = mss; machine = machine; layer = layer; placed = placed; sequences = sequences })
