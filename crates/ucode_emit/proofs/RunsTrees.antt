-- The run of a tree: down its steps, through its forks, to a jump or an end.
use Rattle.std.proofs.Common.{◌≡◌, ℕ, zero, suc, ◌+◌, ◌≤◌, nat_eq, nat_le, Bool, true, false, ◌&&◌, List, [], ◌∷◌, ◌++◌, map, length, Option, Some, None, if◌then◌else◌, refl, sym, ap, ◌∙◌, subst, arith, slice_get, slice_index_or}
use Rattle.std.proofs.lemmas.Bool.{and_parts, or_right, false≢true, leb-true}
use Rattle.std.proofs.lemmas.List.{length-map, length-append}
use Rattle.std.proofs.lemmas.Option.{get_or_from_slice_get}
use Rattle.nv_base.specs.declared.term.Cmp.{Cmp}
use Rattle.nv_base.specs.declared.term.Bin.TheVariants.{Sub}
use Rattle.nv_base.specs.Meanings.{IsOver}
use Rattle.nv_base.specs.Sets.{is_in}
use Rattle.nv_base.specs.Words.{Env, compares, assigned_all}
use Rattle.nv_base.specs.World.{World, over, ended}
use Rattle.nv_base.proofs.Sets.{within-left, within-right}
use Rattle.uc_isa.specs.declared.instruction.Instr.TheVariants as instr
use Rattle.uc_isa.specs.declared.instruction.Dst.TheVariants as dst
use Rattle.uc_isa.specs.declared.instruction.Cond.TheVariants.{Always}
use Rattle.uc_isa.specs.Registers.{failing}
use Rattle.uc_isa.specs.Straight.{Stands as InCode}
use Rattle.uc_isa.specs.Pieces.{Moment}
use Rattle.uc_isa.specs.Step.{Next}
use Rattle.uc_isa.proofs.Leading.{leads-none}
use Rattle.ssu_ir.specs.Tree.{Step, Last, Jump, Halt, Tree, Do, If, End, Label, step_values, step_clones}
use Rattle.ssu_ir.specs.Points.{Names, names_after, nodes}
use Rattle.ssu_ir.specs.Meaning.{blank}
use Rattle.ssu_ir.specs.Entered.{Exit, JumpsTo, last_exit, tree_exit}
use Rattle.ssu_ir.specs.Single.{Numbers, numbers_after, all_known, is_scoped, are_nodes, takes_as_many, are_addressed, defined}
use Rattle.ssu_ir.proofs.Lists.{in-itself}
use Rattle.place_plan.specs.declared.place.Place.{Place}
use Rattle.place_plan.specs.declared.place.Place.TheVariants.{A}
use Rattle.place_plan.specs.Plan.{Plan, pass}
use Rattle.ssu_liveness.proofs.Scoped.{all-in}
use Rattle.ucode_emit.specs.Moves.{Words, one_by_one}
use Rattle.ucode_emit.specs.Pieces.{Plain, Branch, moved, operands, operand_at, source, single_moves, last_moves, step_items, fork_items, tree_items, entry_point, sequence_at, parallel_moves}
use Rattle.ucode_emit.specs.Emits.{IsSequence}
use Rattle.ucode_emit.specs.inner.Ready.{Ready}
use Rattle.ucode_emit.specs.inner.Machine.{IsReadable, Stands, Led}
use Rattle.ucode_emit.specs.inner.Layers.{root_point}
use Rattle.ucode_emit.proofs.PointsTree.{different_left, different_right}
use Rattle.ucode_emit.proofs.PointsUses.{at_in}
use Rattle.ucode_emit.proofs.Entries.{params_differ}
use Rattle.ucode_emit.proofs.LawfulCode.{tree_long}
use Rattle.ucode_emit.proofs.MachineOperations.{first_leads, subtracted}
use Rattle.ucode_emit.proofs.Placing.{items_long, items_left, there_by_length, part_head, root_begins, forks_long, tree_rest, tree_first, tree_second}
use Rattle.ucode_emit.proofs.RunsWords.{each_its_word, mapped_there, each_mapped, words_mapped}
use Rattle.ucode_emit.proofs.RunsResults.{Setting, code_in, places_in, starts_in, clear_part, AtTree, tree_end, Off, Leaves, after_steps, run_front, run_end}
use Rattle.ucode_emit.proofs.Visiting.{IsOff, off_none}
use Rattle.ucode_emit.proofs.RunsSteps.{Rules, State, rules_rest, step_runs}

le_self : (n : ℕ) → n ≤ n
le_self n = omega arith

-- ---- forks

fork_sum : (at l j whole r : ℕ) → whole ≡ j + r → r ≡ 2 → j ≡ l → at + l + 2 ≡ at + whole
fork_sum at l j whole r e f i = omega (arith, e, f, i)

fork_end : (p : Plan) (k at : ℕ) (c : Cmp) → at + length (operands p k 2) + 2 ≡ at + length (fork_items p k (failing c) 0)
fork_end p k at c =
    let test = Plain (instr.Alu dst.Nowhere Sub (source (operand_at p k 0)) (source (operand_at p k 1))) in
    let two = test ∷ Branch (failing c) 0 ∷ [] in
    fork_sum at (length (operands p k 2)) (length (moved (operands p k 2))) (length (moved (operands p k 2) ++ two)) (length two) (length-append (moved (operands p k 2)) two) refl (items_long (operands p k 2))

-- a tree that forks: its operands, its two instructions, and its arms
fork_long : (g : Setting) (k at : ℕ) (c : Cmp) (x y : ℕ) (t u : Tree)
    → tree_end g k at (If c x y t u) ≡ at + length (fork_items g.plan k (failing c) 0) + length (tree_items g.labels g.plan g.mss (suc k) t) + length (tree_items g.labels g.plan g.mss (suc k + nodes t) u)
fork_long g k at c x y t u =
    let fork = fork_items g.plan k (failing c) (suc k + nodes t) in
    let ts = tree_items g.labels g.plan g.mss (suc k) t in
    let us = tree_items g.labels g.plan g.mss (suc k + nodes t) u in
    let a = length-append fork (ts ++ us) in
    let b = length-append ts us in
    let d = forks_long g.plan k (failing c) 0 (suc k + nodes t) in
    omega (arith, a, b, d)

at_rest : (g : Setting) (k at : ℕ) (of : Names) (above : List ℕ) (s : Step) (t : Tree) → AtTree g k at of above (Do s t) → AtTree g (suc k) (at + length (step_items g.plan k s)) (names_after of s) (above ++ step_values s) t
at_rest g k at of above s t h =
    let a = length-append (step_items g.plan k s) (tree_items g.labels g.plan g.mss (suc k) t) in
    let to = at + length (step_items g.plan k s) in
    record {
      tree = tree_rest g.labels g.plan g.mss (code_in g) (places_in g) k at of above s t h.tree;
      clear = clear_part g at (tree_end g k at (Do s t)) to (tree_end g (suc k) to t) h.clear (omega arith) (omega (arith, a));
    }

at_first : (g : Setting) (k at : ℕ) (of : Names) (above : List ℕ) (c : Cmp) (x y : ℕ) (t u : Tree) → AtTree g k at of above (If c x y t u) → AtTree g (suc k) (at + length (fork_items g.plan k (failing c) 0)) of above t
at_first g k at of above c x y t u h =
    let a = fork_long g k at c x y t u in
    let to = at + length (fork_items g.plan k (failing c) 0) in
    record {
      tree = tree_first g.labels g.plan g.mss (code_in g) (places_in g) k at of above c x y t u h.tree;
      clear = clear_part g at (tree_end g k at (If c x y t u)) to (tree_end g (suc k) to t) h.clear (omega arith) (omega (arith, a));
    }

-- where the second arm begins
abbrev second_at : Setting → (k at : ℕ) → Cmp → Tree → ℕ
second_at g k at c t = at + length (fork_items g.plan k (failing c) 0) + length (tree_items g.labels g.plan g.mss (suc k) t)

at_second : (g : Setting) (k at : ℕ) (of : Names) (above : List ℕ) (c : Cmp) (x y : ℕ) (t u : Tree) → AtTree g k at of above (If c x y t u) → AtTree g (suc k + nodes t) (second_at g k at c t) of above u
at_second g k at of above c x y t u h =
    let a = fork_long g k at c x y t u in
    record {
      tree = tree_second g.labels g.plan g.mss (code_in g) (places_in g) k at of above c x y t u h.tree;
      clear = clear_part g at (tree_end g k at (If c x y t u)) (second_at g k at c t) (tree_end g (suc k + nodes t) (second_at g k at c t) u) h.clear (omega arith) (omega (arith, a));
    }

second_place : (g : Setting) (k at : ℕ) (of : Names) (above : List ℕ) (c : Cmp) (x y : ℕ) (t u : Tree) → AtTree g k at of above (If c x y t u) → slice_index_or (places_in g) (suc k + nodes t) 0 ≡ second_at g k at c t
second_place g k at of above c x y t u h =
    let arm = at_second g k at of above c x y t u h in
    get_or_from_slice_get (places_in g) (suc k + nodes t) (second_at g k at c t) 0 (root_begins g.labels g.plan g.mss (places_in g) (second_at g k at c t) (suc k + nodes t) (suc k + nodes t) u arm.tree.begins)

-- neither of a fork's two steps leads to where a label begins
fork_off : (g : Setting) (base at to goal : ℕ) (c : Cmp) (x y : Place) (e : Words) (w : World) (m : Moment)
    → InCode (code_in g) at (instr.Alu dst.Nowhere Sub (source x) (source y) ∷ instr.Br (failing c) to ∷ []) → Stands base at e w m → (l : Led (code_in g) base 2 m goal e w)
    → IsOff (starts_in g) (at + 1) → IsOff (starts_in g) goal → Off g 2 m
fork_off g base at to goal c x y e w m code s l first second zero lt =
    let one = first_leads (code_in g) base at to c x y e w m code s in
    let there : (subtracted x y m).engine.place ≡ at + 1 = ap (λ n. n + 1) s.place in
    subst (λ (t : Next). IsOff (starts_in g) t.engine.place) (sym one.state) (subst (IsOff (starts_in g)) (sym there) first)
fork_off g base at to goal c x y e w m code s l first second (suc zero) lt =
    subst (λ (t : Next). IsOff (starts_in g) t.engine.place) (sym l.leads.state) (subst (IsOff (starts_in g)) (sym l.stands.place) second)
fork_off g base at to goal c x y e w m code s l first second (suc (suc j)) lt = absurd (omega arith)

abbrev GoesInto : Setting → (base k to : ℕ) → Names → (known above : List ℕ) → Numbers → Tree → Env → Env → World → Exit → Type 0
GoesInto g base k to of known above number t env vals w o =
    (e : Words) (b : Moment) → State g.labels g.plan k of known above number t env vals e w → Stands base to e w b → Leaves g base b o

-- the prefix of a fork: its operands are fetched, and its two instructions follow
fork_front : (g : Setting) (base k at : ℕ) (of : Names) (known above : List ℕ) (number : Numbers) (c : Cmp) (x y : ℕ) (t u : Tree) (env vals : Env) (e : Words) (w : World) (m : Moment) (f : Exit)
    → AtTree g k at of above (If c x y t u) → Rules g.labels of known above number (If c x y t u)
    → State g.labels g.plan k of known above number (If c x y t u) env vals e w → Stands base at e w m
    → ((e1 : Words) (b : Moment) → IsReadable (operand_at g.plan k 0) → IsReadable (operand_at g.plan k 1)
    → InCode (code_in g) (at + length (operands g.plan k 2))
    (instr.Alu dst.Nowhere Sub (source (operand_at g.plan k 0)) (source (operand_at g.plan k 1)) ∷ instr.Br (failing c) (slice_index_or (places_in g) (suc k + nodes t) 0) ∷ [])
    → Stands base (at + length (operands g.plan k 2)) e1 w b → compares c (e1 (operand_at g.plan k 0)) (e1 (operand_at g.plan k 1)) ≡ compares c (env x) (env y)
    → Ready g.labels g.plan k (root_point of above (If c x y t u)) vals e1 → Leaves g base b f)
    → Leaves g base m f
fork_front g base k at of known above number c x y t u env vals e w m f tree rules st s next =
    let left = operand_at g.plan k 0 in
    let right = operand_at g.plan k 1 in
    let a = g.layer.compared k of above c x y t u vals e tree.tree.points_ st.ready in
    let e1 = one_by_one (operands g.plan k 2) e in
    let names = (and_parts (all_known known (x ∷ y ∷ [])) (is_scoped known t && is_scoped known u) rules.scope.scoped).0 in
    let same : e1 left ≡ env x = a.0.1.values.0 ∙ sym (st.copied.each x (all-in known (x ∷ y ∷ []) x names (in-itself x (y ∷ [])))) in
    let other : e1 right ≡ env y = a.0.1.values.1.0 ∙ sym (st.copied.each y (all-in known (x ∷ y ∷ []) y names (or_right (nat_eq y x) (is_in y (y ∷ [])) (in-itself y [])))) in
    let two = Plain (instr.Alu dst.Nowhere Sub (source left) (source right)) ∷ Branch (failing c) (suc k + nodes t) ∷ [] in
    let long = fork_long g k at c x y t u in
    let behind = fork_end g.plan k at c in
    run_front g base at (tree_end g k at (If c x y t u)) (operands g.plan k 2) two e w m f
    (items_left (code_in g) (places_in g) at (fork_items g.plan k (failing c) (suc k + nodes t)) (tree_items g.labels g.plan g.mss (suc k) t ++ tree_items g.labels g.plan g.mss (suc k + nodes t) u) tree.tree.in_code)
    a.0.0 s tree.clear (omega (arith, long, behind))
    (λ b rest there. next e1 b a.1 a.2 rest there (ap (λ i. compares c i (e1 right)) same ∙ ap (compares c (env x)) other) a.0.1.ready)

fork_runs : (g : Setting) (base k at : ℕ) (of : Names) (known above : List ℕ) (number : Numbers) (c : Cmp) (x y : ℕ) (t u : Tree) (env vals : Env) (e : Words) (w : World) (m : Moment) (f h : Exit) (b : Bool)
    → compares c (env x) (env y) ≡ b → AtTree g k at of above (If c x y t u) → Rules g.labels of known above number (If c x y t u)
    → State g.labels g.plan k of known above number (If c x y t u) env vals e w → Stands base at e w m
    → GoesInto g base (suc k) (at + length (fork_items g.plan k (failing c) 0)) of known above number t env vals w f
    → GoesInto g base (suc k + nodes t) (slice_index_or (places_in g) (suc k + nodes t) 0) of known above number u env vals w h
    → Leaves g base m (if b then f else h)
fork_runs g base k at of known above number c x y t u env vals e w m f h true test tree rules st s first second =
    fork_front g base k at of known above number c x y t u env vals e w m f tree rules st s
    (λ e1 b left right rest there same ready.
    let to = slice_index_or (places_in g) (suc k + nodes t) 0 in
    let l = g.machine.holds (code_in g) base (at + length (operands g.plan k 2)) to c (operand_at g.plan k 0) (operand_at g.plan k 1) e1 w b left right rest there (same ∙ test) in
    let long = fork_long g k at c x y t u in
    let some = tree_long g.labels g.plan g.mss (suc k) t in
    let behind = fork_end g.plan k at c in
    let front = at + length (operands g.plan k 2) in
    after_steps g base 2 b l.later f l.leads
    (fork_off g base front to (front + 2) c (operand_at g.plan k 0) (operand_at g.plan k 1) e1 w b rest there l (tree.clear (front + 1) (omega arith) (omega (arith, long, behind))) (tree.clear (front + 2) (omega arith) (omega (arith, long, behind, some))))
    (first e1 l.later
    (record { fits = st.fits; copied = st.copied; numbers = st.numbers; sizes = st.sizes; ready = g.layer.first_arm k of above c x y t u vals e1 tree.tree.points_ ready })
    (subst (λ j. Stands base j e1 w l.later) (fork_end g.plan k at c) l.stands)))
fork_runs g base k at of known above number c x y t u env vals e w m f h false test tree rules st s first second =
    fork_front g base k at of known above number c x y t u env vals e w m h tree rules st s
    (λ e1 b left right rest there same ready.
    let to = slice_index_or (places_in g) (suc k + nodes t) 0 in
    let l = g.machine.fails (code_in g) base (at + length (operands g.plan k 2)) to c (operand_at g.plan k 0) (operand_at g.plan k 1) e1 w b left right rest there (same ∙ test) in
    let long = fork_long g k at c x y t u in
    let some = tree_long g.labels g.plan g.mss (suc k + nodes t) u in
    let behind = fork_end g.plan k at c in
    let front = at + length (operands g.plan k 2) in
    let arm = second_place g k at of above c x y t u tree in
    after_steps g base 2 b l.later h l.leads
    (fork_off g base front to to c (operand_at g.plan k 0) (operand_at g.plan k 1) e1 w b rest there l (tree.clear (front + 1) (omega arith) (omega (arith, long, behind))) (tree.clear to (omega (arith, arm, behind)) (omega (arith, long, arm, some))))
    (second e1 l.later
    (record { fits = st.fits; copied = st.copied; numbers = st.numbers; sizes = st.sizes; ready = g.layer.second_arm k of above c x y t u vals e1 tree.tree.points_ ready })
    l.stands))

rules_first : (labels : List Label) (of : Names) (known above : List ℕ) (number : Numbers) (c : Cmp) (x y : ℕ) (t u : Tree) → Rules labels of known above number (If c x y t u) → Rules labels of known above number t
rules_first labels of known above number c x y t u h =
    let q = and_parts (is_scoped known t) (is_scoped known u) (and_parts (all_known known (x ∷ y ∷ [])) (is_scoped known t && is_scoped known u) h.scope.scoped).1 in
    record {
      scope = record {
        scoped = q.0;
        named = h.scope.named;
        own_name = h.scope.own_name;
        apart = λ z i j. h.scope.apart z i (within-left (defined t) (defined u) z j);
        different = different_left (defined t) (defined u) h.scope.different;
      };
      within = h.within;
      fit = (and_parts (are_nodes labels t) (are_nodes labels u) h.fit).0;
      addressed = (and_parts (are_addressed number t) (are_addressed number u) h.addressed).0;
    }

rules_second : (labels : List Label) (of : Names) (known above : List ℕ) (number : Numbers) (c : Cmp) (x y : ℕ) (t u : Tree) → Rules labels of known above number (If c x y t u) → Rules labels of known above number u
rules_second labels of known above number c x y t u h =
    let q = and_parts (is_scoped known t) (is_scoped known u) (and_parts (all_known known (x ∷ y ∷ [])) (is_scoped known t && is_scoped known u) h.scope.scoped).1 in
    record {
      scope = record {
        scoped = q.1;
        named = h.scope.named;
        own_name = h.scope.own_name;
        apart = λ z i j. h.scope.apart z i (within-right (defined t) (defined u) z j);
        different = different_right (defined t) (defined u) h.scope.different;
      };
      within = h.within;
      fit = (and_parts (are_nodes labels t) (are_nodes labels u) h.fit).1;
      addressed = (and_parts (are_addressed number t) (are_addressed number u) h.addressed).1;
    }

-- ---- jumps and ends

-- the label that a jump names
record Target (n : ℕ) (o : Option Label) : Type 0 where
  to : Label
  there : o ≡ Some to

target_of : (n : ℕ) (o : Option Label) → takes_as_many n o ≡ true → Target n o
target_of n (Some l) h = record { to = l; there = refl }
target_of n None h = absurd (false≢true h)

-- the parallel move of a jump or an end, in sequence
last_sequence : (g : Setting) (k at : ℕ) (of : Names) (above : List ℕ) (l : Last) → AtTree g k at of above (End l) → IsSequence (last_moves g.plan k l) (sequence_at g.mss k)
last_sequence g k at of above l tree =
    let there = part_head k (last_moves g.plan k l) [] (parallel_moves g.plan g.labels) tree.tree.moves in
    g.sequences.each k (last_moves g.plan k l) (sequence_at g.mss k) there
    (there_by_length (parallel_moves g.plan g.labels) g.mss k (last_moves g.plan k l) [] g.sequences.as_many there)

ended_over : (c : ℕ) (ws : List ℕ) → IsOver (ended c ws)
ended_over zero ws = tt
ended_over (suc c) ws = tt

last_runs : (g : Setting) (base : ℕ) (l : Last) (k at : ℕ) (of : Names) (known above : List ℕ) (number : Numbers) (env vals : Env) (e : Words) (w : World) (m : Moment)
    → AtTree g k at of above (End l) → Rules g.labels of known above number (End l) → State g.labels g.plan k of known above number (End l) env vals e w → Stands base at e w m
    → Leaves g base m (last_exit l env w)
last_runs g base (Jump zero xs) k at of known above number env vals e w m tree rules st s = absurd (false≢true (and_parts false (takes_as_many (length xs) (slice_get g.labels 0)) rules.fit).0)
last_runs g base (Jump (suc l) xs) k at of known above number env vals e w m tree rules st s =
    let ms = sequence_at g.mss k in
    let front = single_moves (pass g.plan k).l ms in
    let target = target_of (length xs) (slice_get g.labels (suc l)) (and_parts (nat_le 1 (suc l)) (takes_as_many (length xs) (slice_get g.labels (suc l))) rules.fit).1 in
    let to = target.to in
    let ws = map env xs in
    let new = assigned_all blank to.params ws in
    let have : (i x y : ℕ) → slice_get xs i ≡ Some x → slice_get to.params i ≡ Some y → new y ≡ vals (of x) =
    λ i x y a b. each_its_word blank to.params ws i y (env x) (params_differ g.labels g.plan (suc l) to g.placed target.there) b (mapped_there env xs i x a)
    ∙ st.copied.each x (all-in known xs x rules.scope.scoped (at_in x xs i a)) in
    let r = g.layer.jump k of above (suc l) xs to ms vals new e tree.tree.points_ target.there have (last_sequence g k at of above (Jump (suc l) xs) tree) st.ready in
    let e1 = one_by_one front e in
    let one = Branch Always (entry_point g.labels (suc l)) ∷ [] in
    let long = length-append (moved front) one in
    let many = items_long front in
    run_front g base at (tree_end g k at (End (Jump (suc l) xs))) front one e w m (JumpsTo (suc l) ws w) tree.tree.in_code r.0 s tree.clear (omega (arith, long, many))
    (λ b rest there.
    let j = g.machine.jump (code_in g) base (at + length front) (slice_index_or (places_in g) (entry_point g.labels (suc l)) 0) e1 w b rest there in
    record {
      steps = 0;
      last = b;
      later = j.later;
      leads = leads-none (code_in g) base b;
      off = off_none (starts_in g) (code_in g) b;
      jump = j.leads;
      to = to;
      words = e1;
      there = target.there;
      fits = words_mapped env xs st.fits;
      sizes = st.sizes;
      entered = r.1;
      stands = j.stands;
    })
last_runs g base (Halt c xs) k at of known above number env vals e w m tree rules st s =
    let ms = sequence_at g.mss k in
    let front = single_moves (pass g.plan k).l ms in
    let ws = map env xs in
    let e1 = one_by_one front e in
    let long : length xs ≡ length ws = sym (length-map xs env) in
    let few : length xs ≤ 8 = leb-true (length xs) 8 rules.fit in
    let r = g.layer.halt k of above c xs ms vals e tree.tree.points_ (last_sequence g k at of above (Halt c xs) tree) st.ready in
    let have : (i v : ℕ) → slice_get ws i ≡ Some v → e1 (A i) ≡ v = each_mapped (λ i. e1 (A i)) env xs (λ i x h. r.1 i x h ∙ sym (st.copied.each x (all-in known xs x rules.scope.scoped (at_in x xs i h)))) in
    run_end g base at (tree_end g k at (End (Halt c xs))) front (Plain (instr.Halt c (length xs))) [] e w m (over (ended c ws) w) tree.tree.in_code r.0 s tree.clear (le_self (tree_end g k at (End (Halt c xs)))) (ended_over c ws)
    (λ to b one there.
    g.machine.halt (code_in g) base to c ws e1 w b (subst (λ j. j ≤ 8) long few) (subst (λ j. InCode (code_in g) to (instr.Halt c j ∷ [])) long one) there have)

-- ---- trees

pub tree_runs : (g : Setting) (base : ℕ) (t : Tree) (k at : ℕ) (of : Names) (known above : List ℕ) (number : Numbers) (env vals : Env) (e : Words) (w : World) (m : Moment)
    → AtTree g k at of above t → Rules g.labels of known above number t → State g.labels g.plan k of known above number t env vals e w → Stands base at e w m
    → Leaves g base m (tree_exit t env w)
tree_runs g base (Do s t) k at of known above number env vals e w m tree rules st there =
    step_runs g base k at of known above number s t (tree_exit t) env vals e w m tree rules st there
    (λ env1 vals1 e1 w1 b st1 there1.
    tree_runs g base t (suc k) (at + length (step_items g.plan k s)) (names_after of s) (known ++ (step_values s ++ step_clones s)) (above ++ step_values s) (numbers_after number s) env1 vals1 e1 w1 b
    (at_rest g k at of above s t tree) (rules_rest g.labels of known above number s t rules) st1 there1)
tree_runs g base (If c x y t u) k at of known above number env vals e w m tree rules st there =
    fork_runs g base k at of known above number c x y t u env vals e w m (tree_exit t env w) (tree_exit u env w) (compares c (env x) (env y)) refl tree rules st there
    (λ e1 b st1 there1.
    tree_runs g base t (suc k) (at + length (fork_items g.plan k (failing c) 0)) of known above number env vals e1 w b (at_first g k at of above c x y t u tree)
    (rules_first g.labels of known above number c x y t u rules) st1 there1)
    (λ e1 b st1 there1.
    tree_runs g base u (suc k + nodes t) (second_at g k at c t) of known above number env vals e1 w b (at_second g k at of above c x y t u tree) (rules_second g.labels of known above number c x y t u rules) st1
    (subst (λ j. Stands base j e1 w b) (second_place g k at of above c x y t u tree) there1))
tree_runs g base (End l) k at of known above number env vals e w m tree rules st there = last_runs g base l k at of known above number env vals e w m tree rules st there
