-- The run of each kind of step: it ends, or goes on after the step with all that has to stand there.
use Rattle.std.proofs.Common.{◌≡◌, ℕ, suc, ◌+◌, ◌/◌, ◌^◌, ◌<◌, ◌≤◌, nat_eq, true, false, List, [], ◌∷◌, ◌++◌, map, length, Option, Some, None, refl, sym, ◌∙◌, subst, ⊎_elim, arith, slice_get}
use Rattle.std.proofs.lemmas.Bool.{and_parts, or_right, false_from_ne_true}
use Rattle.std.proofs.lemmas.List.Elements.{All-nil}
use Rattle.std.proofs.lemmas.List.{length-map, length-append}
use Rattle.nv_base.specs.declared.term.Mem.{Mem}
use Rattle.nv_base.specs.declared.term.Una.{Una as Unary}
use Rattle.nv_base.specs.declared.term.Bin.{Bin as Binary}
use Rattle.nv_base.specs.declared.outcome.Outcome.TheVariants as outcome
use Rattle.nv_base.specs.Memories.{Memories, HasSizes, IsSourceStretch, fetched, stored}
use Rattle.nv_base.specs.Sets.{is_in, Within}
use Rattle.nv_base.specs.Words.{Env, IsEnv, word, una_word, bin_word, assigned, assigned_all}
use Rattle.nv_base.specs.World.{World, over, wrote}
use Rattle.nv_base.proofs.Sets.{within-left, within-right}
use Rattle.nv_base.proofs.WordLemmas.{word-fits, una-fits, bin-fits}
use Rattle.nv_base.proofs.Environments.{assigned-env, assigned-all-env}
use Rattle.nv_base.proofs.MemoryLemmas.{stored-sizes, fetched-words}
use Rattle.nv_base.proofs.Operands.{has_its_count}
use Rattle.uc_isa.specs.declared.instruction.Instr.TheVariants as instr
use Rattle.uc_isa.specs.Straight.{Stands as InCode}
use Rattle.uc_isa.specs.Pieces.{Moment}
use Rattle.ssu_ir.specs.Tree.{Step, Lit, Una, Bin, Clone, Read, Write, Tree, Do, Label, step_values, step_clones}
use Rattle.ssu_ir.specs.Points.{Names, names_after, Point}
use Rattle.ssu_ir.specs.Meaning.{assigned_each}
use Rattle.ssu_ir.specs.Entered.{Exit, step_exit, exit_after_read, exit_after_write}
use Rattle.ssu_ir.specs.Single.{Numbers, numbers_after, step_names, all_known, is_scoped, is_step, are_nodes, is_addressed, is_address, are_addressed, is_narrow, defined}
use Rattle.ssu_ir.proofs.Lists.{in-itself}
use Rattle.place_plan.specs.Plan.{Plan, first}
use Rattle.place_plan.specs.Fits.{write_place}
use Rattle.ssu_liveness.proofs.Scoped.{all-in, in-either}
use Rattle.ucode_emit.specs.Moves.{Move, Words, put, one_by_one}
use Rattle.ucode_emit.specs.Pieces.{Plain, moved, operands, operand_at, words, result_place, to_slot, copies, all_copies, un_op, source, target, address_of, shift_of, step_items, tree_items}
use Rattle.ucode_emit.specs.inner.Ready.{Ready}
use Rattle.ucode_emit.specs.inner.Machine.{IsDirect, AreDirect, Stands, Led, Over, filled}
use Rattle.ucode_emit.specs.inner.Layers.{IsAddress, root_point}
use Rattle.ucode_emit.proofs.PointsLabels.{Scope, rest_scope}
use Rattle.ucode_emit.proofs.PointsUses.{at_in}
use Rattle.ucode_emit.proofs.Placing.{items_left}
use Rattle.ucode_emit.proofs.RunsWords.{HaveWords, AreNumbered, words_defined, words_cloned, words_kept, numbered_values, numbered_literal, numbered_clones, stretch, literal_word, each_mapped, words_mapped, each_words}
use Rattle.ucode_emit.proofs.LawfulCode.{tree_long}
use Rattle.ucode_emit.proofs.RunsResults.{Setting, code_in, places_in, AtTree, tree_end, Leaves, run_piece, run_end}

-- what a tree keeps by its form
pub record Rules (labels : List Label) (of : Names) (known above : List ℕ) (number : Numbers) (t : Tree) : Type 0 where
  pub scope : Scope of known above t
  pub within : Within above known
  pub fit : are_nodes labels t ≡ true
  pub addressed : are_addressed number t ≡ true

-- before a tree: `env` has the words of variables, `vals` those of values
pub record State (labels : List Label) (p : Plan) (k : ℕ) (of : Names) (known above : List ℕ) (number : Numbers) (t : Tree) (env vals : Env) (e : Words) (w : World) : Type 0 where
  pub fits : IsEnv env
  pub copied : HaveWords of known env vals
  pub numbers : AreNumbered number env
  pub sizes : HasSizes w.packet
  pub ready : Ready labels p k (root_point of above t) vals e

-- what comes after a step
abbrev pub GoesOn : Setting → (base k at : ℕ) → Names → (known above : List ℕ) → Numbers → Step → Tree → (Env → World → Exit) → Type 0
GoesOn g base k at of known above number s t go =
    (env vals : Env) (e : Words) (w : World) (b : Moment)
    → State g.labels g.plan (suc k) (names_after of s) (known ++ (step_values s ++ step_clones s)) (above ++ step_values s) (numbers_after number s) t env vals e w
    → Stands base (at + length (step_items g.plan k s)) e w b → Leaves g base b (go env w)

-- after a step there is more of the tree
step_within : (g : Setting) (k at : ℕ) (s : Step) (t : Tree) → at + length (step_items g.plan k s) < tree_end g k at (Do s t)
step_within g k at s t =
    let a = length-append (step_items g.plan k s) (tree_items g.labels g.plan g.mss (suc k) t) in
    let b = tree_long g.labels g.plan g.mss (suc k) t in
    omega (arith, a, b)

step_to : (g : Setting) (k at : ℕ) (s : Step) (t : Tree) → at + length (step_items g.plan k s) ≤ tree_end g k at (Do s t)
step_to g k at s t = let a = step_within g k at s t in omega (arith, a)

values_within : (known above vs cs : List ℕ) → Within above known → Within (above ++ vs) (known ++ (vs ++ cs))
values_within known above vs cs h z i =
    ⊎_elim (λ (a : is_in z above ≡ true). within-left known (vs ++ cs) z (h z a)) (λ (a : is_in z vs ≡ true). within-right known (vs ++ cs) z (within-left vs cs z a)) (in-either z above vs i)

pub rules_rest : (labels : List Label) (of : Names) (known above : List ℕ) (number : Numbers) (s : Step) (t : Tree) → Rules labels of known above number (Do s t)
    → Rules labels (names_after of s) (known ++ (step_values s ++ step_clones s)) (above ++ step_values s) (numbers_after number s) t
rules_rest labels of known above number s t h = record {
  scope = rest_scope of known above s t h.scope;
  within = values_within known above (step_values s) (step_clones s) h.within;
  fit = (and_parts (is_step s) (are_nodes labels t) h.fit).1;
  addressed = (and_parts (is_addressed number s) (are_addressed (numbers_after number s) t) h.addressed).1;
}

new_values : (of : Names) (known above : List ℕ) (s : Step) (t : Tree) → Scope of known above (Do s t) → (z : ℕ) → is_in z known ≡ true → is_in z (step_values s) ≡ false
new_values of known above s t h z k = false_from_ne_true (is_in z (step_values s)) (λ i. h.apart z k (within-left (step_values s) (step_clones s ++ defined t) z i))

names_known : (of : Names) (known above : List ℕ) (s : Step) (t : Tree) → Scope of known above (Do s t) → (y : ℕ) → is_in y (step_names s) ≡ true → is_in y known ≡ true
names_known of known above s t h y i =
    all-in known (step_names s) y (and_parts (all_known known (step_names s)) (is_scoped (known ++ (step_values s ++ step_clones s)) t) h.scoped).0 i

lit_runs : (g : Setting) (base k at : ℕ) (of : Names) (known above : List ℕ) (number : Numbers) (x v : ℕ) (t : Tree) (go : Env → World → Exit) (env vals : Env) (e : Words) (w : World) (m : Moment)
    → AtTree g k at of above (Do (Lit x v) t) → Rules g.labels of known above number (Do (Lit x v) t) → State g.labels g.plan k of known above number (Do (Lit x v) t) env vals e w → Stands base at e w m
    → GoesOn g base k at of known above number (Lit x v) t go → Leaves g base m (step_exit (Lit x v) go env w)
lit_runs g base k at of known above number x v t go env vals e w m tree rules st s next =
    let d = result_place g.plan k x in
    let back = to_slot g.plan k x ++ copies g.plan k x in
    let narrow : is_narrow v ≡ true = (and_parts (is_step (Lit x v)) (are_nodes g.labels t) rules.fit).0 in
    let r = g.layer.literal k of above x v (word v) t vals e tree.tree.points_ st.ready in
    run_piece g base at (tree_end g k at (Do (Lit x v) t)) [] back (Plain (instr.Immed (target d) (v / 2 ^ shift_of v) (shift_of v))) e (put e d (word v)) w w m (go (assigned env x (word v)) w)
    (items_left (code_in g) (places_in g) at (step_items g.plan k (Lit x v)) (tree_items g.labels g.plan g.mss (suc k) t) tree.tree.in_code)
    (All-nil (λ q. IsDirect g.plan.slots q.0 q.1)) r.1.0 s tree.clear (step_within g k at (Lit x v) t)
    (λ to b one there.
    subst (λ z. Led (code_in g) base 1 b (to + 1) (put e d z) w) (literal_word v narrow)
    (g.machine.literal (code_in g) base to (v / 2 ^ shift_of v) (shift_of v) d e w b r.0 one there))
    (λ b there. next (assigned env x (word v)) (assigned vals x (word v)) (one_by_one back (put e d (word v))) w b
    (record {
      fits = assigned-env env x (word v) st.fits (word-fits v);
      copied = words_defined of known above (x ∷ []) (word v ∷ []) env vals rules.within rules.scope.named rules.scope.own_name (new_values of known above (Lit x v) t rules.scope) st.copied;
      numbers = numbered_literal number env x v st.numbers;
      sizes = st.sizes;
      ready = r.1.1;
    })
    there)

una_runs : (g : Setting) (base k at : ℕ) (of : Names) (known above : List ℕ) (number : Numbers) (x y : ℕ) (op : Unary) (t : Tree) (go : Env → World → Exit) (env vals : Env) (e : Words) (w : World) (m : Moment)
    → AtTree g k at of above (Do (Una x op y) t) → Rules g.labels of known above number (Do (Una x op y) t) → State g.labels g.plan k of known above number (Do (Una x op y) t) env vals e w → Stands base at e w m
    → GoesOn g base k at of known above number (Una x op y) t go → Leaves g base m (step_exit (Una x op y) go env w)
una_runs g base k at of known above number x y op t go env vals e w m tree rules st s next =
    let d = result_place g.plan k x in
    let from = operand_at g.plan k 0 in
    let back = to_slot g.plan k x ++ copies g.plan k x in
    let count = has_its_count op (and_parts (is_step (Una x op y)) (are_nodes g.labels t) rules.fit).0 in
    let a = g.layer.one_operand k of above x y op t vals e tree.tree.points_ st.ready in
    let e1 = one_by_one (operands g.plan k 1) e in
    let u = una_word op (env y) in
    let same : e1 from ≡ env y = a.0.1.values.0 ∙ sym (st.copied.each y (names_known of known above (Una x op y) t rules.scope y (in-itself y []))) in
    let r = g.layer.unary k of above x y u op t vals e1 tree.tree.points_ a.0.1.ready in
    run_piece g base at (tree_end g k at (Do (Una x op y) t)) (operands g.plan k 1) back (Plain (instr.Un (target d) (un_op op) (source from))) e (put e1 d u) w w m (go (assigned env x u) w)
    (items_left (code_in g) (places_in g) at (step_items g.plan k (Una x op y)) (tree_items g.labels g.plan g.mss (suc k) t) tree.tree.in_code)
    a.0.0 r.1.0 s tree.clear (step_within g k at (Una x op y) t)
    (λ to b one there.
    subst (λ z. Led (code_in g) base 1 b (to + 1) (put e1 d (una_word op z)) w) same (g.machine.unary (code_in g) base to op d from e1 w b count r.0 a.1 one there))
    (λ b there. next (assigned env x u) (assigned vals x u) (one_by_one back (put e1 d u)) w b
    (record {
      fits = assigned-env env x u st.fits (una-fits op (env y) count (st.fits y));
      copied = words_defined of known above (x ∷ []) (u ∷ []) env vals rules.within rules.scope.named rules.scope.own_name (new_values of known above (Una x op y) t rules.scope) st.copied;
      numbers = numbered_values number env (x ∷ []) (u ∷ []) st.numbers;
      sizes = st.sizes;
      ready = r.1.1;
    })
    there)

bin_runs : (g : Setting) (base k at : ℕ) (of : Names) (known above : List ℕ) (number : Numbers) (x y z : ℕ) (op : Binary) (t : Tree) (go : Env → World → Exit) (env vals : Env) (e : Words) (w : World) (m : Moment)
    → AtTree g k at of above (Do (Bin x op y z) t) → Rules g.labels of known above number (Do (Bin x op y z) t) → State g.labels g.plan k of known above number (Do (Bin x op y z) t) env vals e w → Stands base at e w m
    → GoesOn g base k at of known above number (Bin x op y z) t go → Leaves g base m (step_exit (Bin x op y z) go env w)
bin_runs g base k at of known above number x y z op t go env vals e w m tree rules st s next =
    let d = result_place g.plan k x in
    let left = operand_at g.plan k 0 in
    let right = operand_at g.plan k 1 in
    let back = to_slot g.plan k x ++ copies g.plan k x in
    let a = g.layer.two_operands k of above x y z op t vals e tree.tree.points_ st.ready in
    let e1 = one_by_one (operands g.plan k 2) e in
    let u = bin_word op (env y) (env z) in
    let same : e1 left ≡ env y = a.0.1.values.0 ∙ sym (st.copied.each y (names_known of known above (Bin x op y z) t rules.scope y (in-itself y (z ∷ [])))) in
    let other : e1 right ≡ env z = a.0.1.values.1.0 ∙ sym (st.copied.each z (names_known of known above (Bin x op y z) t rules.scope z (or_right (nat_eq z y) (is_in z (z ∷ [])) (in-itself z [])))) in
    let r = g.layer.binary k of above x y z u op t vals e1 tree.tree.points_ a.0.1.ready in
    run_piece g base at (tree_end g k at (Do (Bin x op y z) t)) (operands g.plan k 2) back (Plain (instr.Alu (target d) op (source left) (source right))) e (put e1 d u) w w m (go (assigned env x u) w)
    (items_left (code_in g) (places_in g) at (step_items g.plan k (Bin x op y z)) (tree_items g.labels g.plan g.mss (suc k) t) tree.tree.in_code)
    a.0.0 r.1.0 s tree.clear (step_within g k at (Bin x op y z) t)
    (λ to b one there.
    subst (λ i. Led (code_in g) base 1 b (to + 1) (put e1 d (bin_word op (env y) i)) w) other
    (subst (λ i. Led (code_in g) base 1 b (to + 1) (put e1 d (bin_word op i (e1 right))) w) same
    (g.machine.binary (code_in g) base to op d left right e1 w b r.0 a.1 a.2 one there)))
    (λ b there. next (assigned env x u) (assigned vals x u) (one_by_one back (put e1 d u)) w b
    (record {
      fits = assigned-env env x u st.fits (bin-fits op (env y) (env z) (st.fits y) (st.fits z));
      copied = words_defined of known above (x ∷ []) (u ∷ []) env vals rules.within rules.scope.named rules.scope.own_name (new_values of known above (Bin x op y z) t rules.scope) st.copied;
      numbers = numbered_values number env (x ∷ []) (u ∷ []) st.numbers;
      sizes = st.sizes;
      ready = r.1.1;
    })
    there)

clone_runs : (g : Setting) (base k at : ℕ) (of : Names) (known above : List ℕ) (number : Numbers) (xs : List ℕ) (y : ℕ) (t : Tree) (go : Env → World → Exit) (env vals : Env) (e : Words) (w : World) (m : Moment)
    → AtTree g k at of above (Do (Clone xs y) t) → Rules g.labels of known above number (Do (Clone xs y) t) → State g.labels g.plan k of known above number (Do (Clone xs y) t) env vals e w → Stands base at e w m
    → GoesOn g base k at of known above number (Clone xs y) t go → Leaves g base m (step_exit (Clone xs y) go env w)
clone_runs g base k at of known above number xs y t go env vals e w m tree rules st s next =
    let emit_context : at ≡ at + 0 = omega arith in
    next (assigned_each env xs (env y)) vals e w m
    (record {
      fits = each_words env xs (env y) st.fits (st.fits y);
      copied = words_cloned of known xs y env vals (names_known of known above (Clone xs y) t rules.scope y (in-itself y [])) st.copied;
      numbers = numbered_clones number env xs y st.numbers;
      sizes = st.sizes;
      ready = g.layer.clone k of above xs y t vals e tree.tree.points_ st.ready;
    })
    (subst (λ j. Stands base j e w m) emit_context s)

-- before an access: its address is in its register, with the word that the form says, and that is one that a source can use
record AccessReady (g : Setting) (k n : ℕ) (c : Mem) (front : List Move) (at_word : ℕ) (r : Point) (vals : Env) (e : Words) : Type 0 where
  direct : AreDirect g.plan.slots front
  same : one_by_one front e (operand_at g.plan k 0) ≡ at_word
  lies : IsSourceStretch c (one_by_one front e (operand_at g.plan k 0)) n
  address : IsAddress (operand_at g.plan k 0)
  room : first g.plan k + n ≤ 8
  ready : Ready g.labels g.plan k r vals (one_by_one front e)

address_fits : (labels : List Label) (of : Names) (known above : List ℕ) (number : Numbers) (s : Step) (t : Tree) → Rules labels of known above number (Do s t) → is_addressed number s ≡ true
address_fits labels of known above number s t rules = (and_parts (is_addressed number s) (are_addressed (numbers_after number s) t) rules.addressed).0

lies_there : (number : Numbers) (env : Env) (c : Mem) (y n w : ℕ) → AreNumbered number env → is_address c (number y) n ≡ true → w ≡ env y → IsSourceStretch c w n
lies_there number env c y n w numbers fits same = subst (λ z. IsSourceStretch c z n) (sym same) (stretch number env c y n numbers fits)

read_ready : (g : Setting) (k at : ℕ) (of : Names) (known above : List ℕ) (number : Numbers) (c : Mem) (xs : List ℕ) (y : ℕ) (t : Tree) (env vals : Env) (e : Words) (w : World)
    → AtTree g k at of above (Do (Read c xs y) t) → Rules g.labels of known above number (Do (Read c xs y) t) → State g.labels g.plan k of known above number (Do (Read c xs y) t) env vals e w
    → AccessReady g k (length xs) c (operands g.plan k 1) (env y) (root_point of above (Do (Read c xs y) t)) vals e
read_ready g k at of known above number c xs y t env vals e w tree rules st =
    let a = g.layer.read_address k of above c xs y t vals e tree.tree.points_ st.ready in
    let from : one_by_one (operands g.plan k 1) e (operand_at g.plan k 0) ≡ env y = a.0.1.values.0 ∙ sym (st.copied.each y (names_known of known above (Read c xs y) t rules.scope y (in-itself y []))) in
    record {
      direct = a.0.0;
      same = from;
      lies = lies_there number env c y (length xs) (one_by_one (operands g.plan k 1) e (operand_at g.plan k 0)) st.numbers (address_fits g.labels of known above number (Read c xs y) t rules) from;
      address = a.1;
      room = a.2;
      ready = a.0.1.ready;
    }

read_runs : (g : Setting) (base k at : ℕ) (of : Names) (known above : List ℕ) (number : Numbers) (c : Mem) (xs : List ℕ) (y : ℕ) (t : Tree) (go : Env → World → Exit) (env vals : Env) (e : Words) (w : World) (m : Moment) (o : Option (List ℕ))
    → fetched c (env y) (length xs) w.packet ≡ o
    → AtTree g k at of above (Do (Read c xs y) t) → Rules g.labels of known above number (Do (Read c xs y) t) → State g.labels g.plan k of known above number (Do (Read c xs y) t) env vals e w → Stands base at e w m
    → GoesOn g base k at of known above number (Read c xs y) t go → Leaves g base m (exit_after_read o (over (outcome.Fault c (env y)) w) (λ ws. go (assigned_all env xs ws) w))
read_runs g base k at of known above number c xs y t go env vals e w m (Some ws) got tree rules st s next =
    let f = first g.plan k in
    let from = operand_at g.plan k 0 in
    let back = all_copies g.plan k xs in
    let e1 = one_by_one (operands g.plan k 1) e in
    let a = read_ready g k at of known above number c xs y t env vals e w tree rules st in
    let have = fetched-words c (env y) (length xs) w.packet ws st.sizes got in
    let r = g.layer.read k of above c xs ws y t vals e1 tree.tree.points_ have.0 a.ready in
    run_piece g base at (tree_end g k at (Do (Read c xs y) t)) (operands g.plan k 1) back (Plain (instr.Read c f (length xs) (address_of from) 0)) e (filled e1 c f ws) w w m (go (assigned_all env xs ws) w)
    (items_left (code_in g) (places_in g) at (step_items g.plan k (Read c xs y)) (tree_items g.labels g.plan g.mss (suc k) t) tree.tree.in_code)
    a.direct r.0 s tree.clear (step_within g k at (Read c xs y) t)
    (λ to b one there.
    g.machine.read (code_in g) base to c f (length xs) from ws e1 w b a.address a.room a.lies one there st.sizes
    (subst (λ z. fetched c z (length xs) w.packet ≡ Some ws) (sym a.same) got))
    (λ b there. next (assigned_all env xs ws) (assigned_all vals xs ws) (one_by_one back (filled e1 c f ws)) w b
    (record {
      fits = assigned-all-env env xs ws st.fits have.1;
      copied = words_defined of known above xs ws env vals rules.within rules.scope.named rules.scope.own_name (new_values of known above (Read c xs y) t rules.scope) st.copied;
      numbers = numbered_values number env xs ws st.numbers;
      sizes = st.sizes;
      ready = r.1;
    })
    there)
read_runs g base k at of known above number c xs y t go env vals e w m None got tree rules st s next =
    let f = first g.plan k in
    let from = operand_at g.plan k 0 in
    let e1 = one_by_one (operands g.plan k 1) e in
    let a = read_ready g k at of known above number c xs y t env vals e w tree rules st in
    run_end g base at (tree_end g k at (Do (Read c xs y) t)) (operands g.plan k 1) (Plain (instr.Read c f (length xs) (address_of from) 0)) (moved (all_copies g.plan k xs)) e w m (over (outcome.Fault c (env y)) w)
    (items_left (code_in g) (places_in g) at (step_items g.plan k (Read c xs y)) (tree_items g.labels g.plan g.mss (suc k) t) tree.tree.in_code)
    a.direct s tree.clear (step_to g k at (Read c xs y) t) tt
    (λ to b one there.
    subst (λ z. Over (code_in g) base 1 b (over (outcome.Fault c z) w)) a.same
    (g.machine.read_fault (code_in g) base to c f (length xs) from e1 w b a.address a.room a.lies one there st.sizes
    (subst (λ z. fetched c z (length xs) w.packet ≡ None) (sym a.same) got)))

-- the moves before a write: the address is fetched, and the words are brought into their registers
abbrev written_front : Plan → ℕ → ℕ → List Move
written_front p k n = operands p k 1 ++ words p k 1 n

-- before a write its words are in their registers too
record WriteReady (g : Setting) (k : ℕ) (c : Mem) (xs : List ℕ) (at_word : ℕ) (r : Point) (env vals : Env) (e : Words) : Type 0 where
  access : AccessReady g k (length (map env xs)) c (written_front g.plan k (length xs)) at_word r vals e
  held : (i v : ℕ) → slice_get (map env xs) i ≡ Some v → one_by_one (written_front g.plan k (length xs)) e (write_place c (first g.plan k + i)) ≡ v

write_ready : (g : Setting) (k at : ℕ) (of : Names) (known above : List ℕ) (number : Numbers) (c : Mem) (xs : List ℕ) (y : ℕ) (t : Tree) (env vals : Env) (e : Words) (w : World)
    → AtTree g k at of above (Do (Write c y xs) t) → Rules g.labels of known above number (Do (Write c y xs) t) → State g.labels g.plan k of known above number (Do (Write c y xs) t) env vals e w
    → WriteReady g k c xs (env y) (root_point of above (Do (Write c y xs) t)) env vals e
write_ready g k at of known above number c xs y t env vals e w tree rules st =
    let f = first g.plan k in
    let e1 = one_by_one (written_front g.plan k (length xs)) e in
    let a = g.layer.written k of above c xs y t vals e tree.tree.points_ st.ready in
    let from : e1 (operand_at g.plan k 0) ≡ env y = a.0.1.0.values.0 ∙ sym (st.copied.each y (names_known of known above (Write c y xs) t rules.scope y (in-itself y xs))) in
    let long : length xs ≡ length (map env xs) = sym (length-map xs env) in
    record {
      access = record {
        direct = a.0.0;
        same = from;
        lies = subst (λ j. IsSourceStretch c (e1 (operand_at g.plan k 0)) j) long
            (lies_there number env c y (length xs) (e1 (operand_at g.plan k 0)) st.numbers (address_fits g.labels of known above number (Write c y xs) t rules) from);
        address = a.1;
        room = subst (λ j. f + j ≤ 8) long a.2;
        ready = a.0.1.0.ready;
      };
      held = each_mapped (λ i. e1 (write_place c (f + i))) env xs
          (λ i x h. a.0.1.1 i x h ∙ sym (st.copied.each x (names_known of known above (Write c y xs) t rules.scope x (or_right (nat_eq x y) (is_in x xs) (at_in x xs i h)))));
    }

write_runs : (g : Setting) (base k at : ℕ) (of : Names) (known above : List ℕ) (number : Numbers) (c : Mem) (xs : List ℕ) (y : ℕ) (t : Tree) (go : Env → World → Exit) (env vals : Env) (e : Words) (w : World) (m : Moment) (o : Option Memories)
    → stored c (env y) (map env xs) w.packet ≡ o
    → AtTree g k at of above (Do (Write c y xs) t) → Rules g.labels of known above number (Do (Write c y xs) t) → State g.labels g.plan k of known above number (Do (Write c y xs) t) env vals e w → Stands base at e w m
    → GoesOn g base k at of known above number (Write c y xs) t go → Leaves g base m (exit_after_write o (over (outcome.Fault c (env y)) w) (λ q. go env (wrote c (env y) (map env xs) q w)))
write_runs g base k at of known above number c xs y t go env vals e w m (Some q) left tree rules st s next =
    let f = first g.plan k in
    let from = operand_at g.plan k 0 in
    let ws = map env xs in
    let front = written_front g.plan k (length xs) in
    let e1 = one_by_one front e in
    let r = write_ready g k at of known above number c xs y t env vals e w tree rules st in
    let a = r.access in
    run_piece g base at (tree_end g k at (Do (Write c y xs) t)) front [] (Plain (instr.Write c f (length xs) (address_of from) 0)) e e1 w (wrote c (env y) ws q w) m (go env (wrote c (env y) ws q w))
    (items_left (code_in g) (places_in g) at (step_items g.plan k (Write c y xs)) (tree_items g.labels g.plan g.mss (suc k) t) tree.tree.in_code)
    a.direct (All-nil (λ q. IsDirect g.plan.slots q.0 q.1)) s tree.clear (step_within g k at (Write c y xs) t)
    (λ to b one there.
    subst (λ z. Led (code_in g) base 1 b (to + 1) e1 (wrote c z ws q w)) a.same
    (g.machine.write (code_in g) base to c f from ws q e1 w b a.address a.room a.lies
    (subst (λ j. InCode (code_in g) to (instr.Write c f j (address_of from) 0 ∷ [])) (sym (length-map xs env)) one) there r.held st.sizes
    (subst (λ z. stored c z ws w.packet ≡ Some q) (sym a.same) left)))
    (λ b there. next env vals e1 (wrote c (env y) ws q w) b
    (record {
      fits = st.fits;
      copied = words_kept of known env vals st.copied;
      numbers = st.numbers;
      sizes = stored-sizes c (env y) ws w.packet q st.sizes (words_mapped env xs st.fits) left;
      ready = g.layer.write k of above c xs y t vals e1 tree.tree.points_ a.ready;
    })
    there)
write_runs g base k at of known above number c xs y t go env vals e w m None left tree rules st s next =
    let f = first g.plan k in
    let from = operand_at g.plan k 0 in
    let ws = map env xs in
    let front = written_front g.plan k (length xs) in
    let e1 = one_by_one front e in
    let r = write_ready g k at of known above number c xs y t env vals e w tree rules st in
    let a = r.access in
    run_end g base at (tree_end g k at (Do (Write c y xs) t)) front (Plain (instr.Write c f (length xs) (address_of from) 0)) [] e w m (over (outcome.Fault c (env y)) w)
    (items_left (code_in g) (places_in g) at (step_items g.plan k (Write c y xs)) (tree_items g.labels g.plan g.mss (suc k) t) tree.tree.in_code)
    a.direct s tree.clear (step_to g k at (Write c y xs) t) tt
    (λ to b one there.
    subst (λ z. Over (code_in g) base 1 b (over (outcome.Fault c z) w)) a.same
    (g.machine.write_fault (code_in g) base to c f from ws e1 w b a.address a.room a.lies
    (subst (λ j. InCode (code_in g) to (instr.Write c f j (address_of from) 0 ∷ [])) (sym (length-map xs env)) one) there r.held st.sizes
    (subst (λ z. stored c z ws w.packet ≡ None) (sym a.same) left)))

-- any step
pub step_runs : (g : Setting) (base k at : ℕ) (of : Names) (known above : List ℕ) (number : Numbers) (s : Step) (t : Tree) (go : Env → World → Exit) (env vals : Env) (e : Words) (w : World) (m : Moment)
    → AtTree g k at of above (Do s t) → Rules g.labels of known above number (Do s t) → State g.labels g.plan k of known above number (Do s t) env vals e w → Stands base at e w m
    → GoesOn g base k at of known above number s t go → Leaves g base m (step_exit s go env w)
step_runs g base k at of known above number (Lit x v) t go env vals e w m tree rules st s next = lit_runs g base k at of known above number x v t go env vals e w m tree rules st s next
step_runs g base k at of known above number (Una x op y) t go env vals e w m tree rules st s next = una_runs g base k at of known above number x y op t go env vals e w m tree rules st s next
step_runs g base k at of known above number (Bin x op y z) t go env vals e w m tree rules st s next = bin_runs g base k at of known above number x y z op t go env vals e w m tree rules st s next
step_runs g base k at of known above number (Clone xs y) t go env vals e w m tree rules st s next = clone_runs g base k at of known above number xs y t go env vals e w m tree rules st s next
step_runs g base k at of known above number (Read c xs y) t go env vals e w m tree rules st s next =
    read_runs g base k at of known above number c xs y t go env vals e w m (fetched c (env y) (length xs) w.packet) refl tree rules st s next
step_runs g base k at of known above number (Write c y xs) t go env vals e w m tree rules st s next =
    write_runs g base k at of known above number c xs y t go env vals e w m (stored c (env y) (map env xs) w.packet) refl tree rules st s next
