-- What steps, put before code, add to each recursion on code.
use Rattle.std.proofs.Common.{◌≡◌, ℕ, max, Bool, true, false, ◌&&◌, List, [], ◌∷◌, ◌++◌, refl, sym, ap, ◌∙◌, append_assoc, length}
use Rattle.flat_ir.specs.declared.flat.Flat.{Flat}
use Rattle.flat_ir.specs.declared.flat.FlatFun.{FlatFun}
use Rattle.flat_ir.specs.declared.spine.Step.{Step}
use Rattle.flat_ir.specs.declared.spine.Step.TheVariants.{Let, Fetch, Store, Bind}
use Rattle.flat_ir.specs.Spine.{IsNode, AreNodes}
use Rattle.nv_base.specs.Access.{is_known, all_known, can_move, is_address}
use Rattle.flat_ir.specs.Formed.{is_formed, defined, raised}
use Rattle.flat_ir.specs.Wide.{live, Widths, code_wide}
use Rattle.nv_base.specs.Measures.{both}
use Rattle.flat_ir.specs.Bulk.{Bulks, code_bulk}
use Rattle.flat_ir.specs.Pieces.{new_vars, known_behind, step_formed, steps_formed, step_defined, steps_defined, step_raised, steps_raised, step_live, steps_live, step_wide, steps_wide, step_bulk, steps_bulk}

pub and-two : (a b c : Bool) → (a && (b && c)) ≡ ((a && b) && c)
and-two true b c = refl
and-two false b c = refl

and-three : (a b c d : Bool) → (a && (b && (c && d))) ≡ ((a && (b && c)) && d)
and-three true b c d = and-two b c d
and-three false b c d = refl

and-four : (a b c d e : Bool) → (a && (b && (c && (d && e)))) ≡ ((a && (b && (c && d))) && e)
and-four true b c d e = and-three b c d e
and-four false b c d e = refl

-- ---- one step

node-formed : (funs : List FlatFun) (own : ℕ) (tail : Bool) (n : ℕ) (known : List ℕ) (s : Step) (t u : Flat) → IsNode s t u
    → is_formed funs own tail n known u ≡ (step_formed funs own known s && is_formed funs own tail n (new_vars s ++ known) t)
node-formed funs own tail n known (Let x a) t u h = ap (is_formed funs own tail n known) h.1
node-formed funs own tail n known (Fetch m xs a) t u h =
    ap (is_formed funs own tail n known) h.1 ∙ and-three (is_known known a) (can_move m (length xs.items)) (is_address m a (length xs.items)) (is_formed funs own tail n (xs.items ++ known) t)
node-formed funs own tail n known (Store m a bs) t u h =
    ap (is_formed funs own tail n known) h.1 ∙ and-four (is_known known a) (all_known known bs.items) (can_move m (length bs.items)) (is_address m a (length bs.items)) (is_formed funs own tail n known t)
node-formed funs own tail n known (Bind xs first) t u h = ap (is_formed funs own tail n known) h.2

node-defined : (s : Step) (t u : Flat) → IsNode s t u → defined u ≡ step_defined s ++ defined t
node-defined (Let x a) t u h = ap defined h.1
node-defined (Fetch m xs a) t u h = ap defined h.1
node-defined (Store m a bs) t u h = ap defined h.1
node-defined (Bind xs first) t u h = ap defined h.2 ∙ sym (append_assoc (defined first) xs.items (defined t))

node-raised : (s : Step) (t u : Flat) → IsNode s t u → raised u ≡ step_raised s ++ raised t
node-raised (Let x a) t u h = ap raised h.1
node-raised (Fetch m xs a) t u h = ap raised h.1
node-raised (Store m a bs) t u h = ap raised h.1
node-raised (Bind xs first) t u h = ap raised h.2

node-live : (s : Step) (t u : Flat) → IsNode s t u → live u ≡ step_live s (live t)
node-live (Let x a) t u h = ap live h.1
node-live (Fetch m xs a) t u h = ap live h.1
node-live (Store m a bs) t u h = ap live h.1
node-live (Bind xs first) t u h = ap live h.2

node-wide : (funs : List FlatFun) (w : Widths) (own : ℕ) (outside : List ℕ) (s : Step) (t u : Flat) → IsNode s t u
    → code_wide funs w own outside u ≡ max (step_wide funs w own outside s (live t)) (code_wide funs w own outside t)
node-wide funs w own outside (Let x a) t u h = ap (code_wide funs w own outside) h.1
node-wide funs w own outside (Fetch m xs a) t u h = ap (code_wide funs w own outside) h.1
node-wide funs w own outside (Store m a bs) t u h = ap (code_wide funs w own outside) h.1
node-wide funs w own outside (Bind xs first) t u h = ap (code_wide funs w own outside) h.2

node-bulk : (funs : List FlatFun) (w : Bulks) (own : ℕ) (last : Bool) (s : Step) (t u : Flat) → IsNode s t u
    → code_bulk funs w own last u ≡ both (step_bulk funs w own s) (code_bulk funs w own last t)
node-bulk funs w own last (Let x a) t u h = ap (code_bulk funs w own last) h.1
node-bulk funs w own last (Fetch m xs a) t u h = ap (code_bulk funs w own last) h.1
node-bulk funs w own last (Store m a bs) t u h = ap (code_bulk funs w own last) h.1
node-bulk funs w own last (Bind xs first) t u h = ap (code_bulk funs w own last) h.2

-- ---- all steps

pub nodes-formed : (funs : List FlatFun) (own : ℕ) (tail : Bool) (n : ℕ) (known : List ℕ) (ss : List Step) (end' t : Flat) → AreNodes ss end' t
    → is_formed funs own tail n known t ≡ (steps_formed funs own known ss && is_formed funs own tail n (known_behind known ss) end')
nodes-formed funs own tail n known [] end' t h = ap (is_formed funs own tail n known) h
nodes-formed funs own tail n known (s ∷ ss) end' t h =
    node-formed funs own tail n known s h.0 t h.2
    ∙ ap (λ b. step_formed funs own known s && b) (nodes-formed funs own tail n (new_vars s ++ known) ss end' h.0 h.1)
    ∙ and-two (step_formed funs own known s) (steps_formed funs own (new_vars s ++ known) ss) (is_formed funs own tail n (known_behind (new_vars s ++ known) ss) end')

pub nodes-defined : (ss : List Step) (end' t : Flat) → AreNodes ss end' t → defined t ≡ steps_defined ss ++ defined end'
nodes-defined [] end' t h = ap defined h
nodes-defined (s ∷ ss) end' t h = node-defined s h.0 t h.2 ∙ ap (λ l. step_defined s ++ l) (nodes-defined ss end' h.0 h.1) ∙ sym (append_assoc (step_defined s) (steps_defined ss) (defined end'))

pub nodes-raised : (ss : List Step) (end' t : Flat) → AreNodes ss end' t → raised t ≡ steps_raised ss ++ raised end'
nodes-raised [] end' t h = ap raised h
nodes-raised (s ∷ ss) end' t h = node-raised s h.0 t h.2 ∙ ap (λ l. step_raised s ++ l) (nodes-raised ss end' h.0 h.1) ∙ sym (append_assoc (step_raised s) (steps_raised ss) (raised end'))

pub nodes-live : (ss : List Step) (end' t : Flat) → AreNodes ss end' t → live t ≡ steps_live ss (live end')
nodes-live [] end' t h = ap live h
nodes-live (s ∷ ss) end' t h = node-live s h.0 t h.2 ∙ ap (step_live s) (nodes-live ss end' h.0 h.1)

pub nodes-wide : (funs : List FlatFun) (w : Widths) (own : ℕ) (outside : List ℕ) (ss : List Step) (end' t : Flat) → AreNodes ss end' t
    → code_wide funs w own outside t ≡ steps_wide funs w own outside ss (live end') (code_wide funs w own outside end')
nodes-wide funs w own outside [] end' t h = ap (code_wide funs w own outside) h
nodes-wide funs w own outside (s ∷ ss) end' t h =
    node-wide funs w own outside s h.0 t h.2
    ∙ ap (λ l. max (step_wide funs w own outside s l) (code_wide funs w own outside h.0)) (nodes-live ss end' h.0 h.1)
    ∙ ap (λ n. max (step_wide funs w own outside s (steps_live ss (live end'))) n) (nodes-wide funs w own outside ss end' h.0 h.1)

pub nodes-bulk : (funs : List FlatFun) (w : Bulks) (own : ℕ) (last : Bool) (ss : List Step) (end' t : Flat) → AreNodes ss end' t
    → code_bulk funs w own last t ≡ steps_bulk funs w own ss (code_bulk funs w own last end')
nodes-bulk funs w own last [] end' t h = ap (code_bulk funs w own last) h
nodes-bulk funs w own last (s ∷ ss) end' t h = node-bulk funs w own last s h.0 t h.2 ∙ ap (both (step_bulk funs w own s)) (nodes-bulk funs w own last ss end' h.0 h.1)
