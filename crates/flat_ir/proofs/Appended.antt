-- Steps behind steps, in each recursion on steps.
use Rattle.std.proofs.Common.{◌≡◌, ℕ, max, ◌&&◌, List, [], ◌∷◌, ◌++◌, refl, sym, ap, ◌∙◌, append_assoc}
use Rattle.flat_ir.specs.declared.flat.FlatFun.{FlatFun}
use Rattle.flat_ir.specs.declared.spine.Step.{Step}
use Rattle.flat_ir.specs.Wide.{Widths}
use Rattle.nv_base.specs.Measures.{Bulk, both}
use Rattle.flat_ir.specs.Bulk.{Bulks}
use Rattle.flat_ir.specs.Pieces.{new_vars, known_behind, step_formed, steps_formed, step_defined, steps_defined, step_raised, steps_raised, step_live, steps_live, step_wide, steps_wide, step_bulk, steps_bulk}
use Rattle.flat_ir.proofs.Parts.{and-two}

pub known-append : (known : List ℕ) (a b : List Step) → known_behind known (a ++ b) ≡ known_behind (known_behind known a) b
known-append known [] b = refl
known-append known (s ∷ a) b = known-append (new_vars s ++ known) a b

pub formed-append : (funs : List FlatFun) (own : ℕ) (known : List ℕ) (a b : List Step) → steps_formed funs own known (a ++ b) ≡ (steps_formed funs own known a && steps_formed funs own (known_behind known a) b)
formed-append funs own known [] b = refl
formed-append funs own known (s ∷ a) b =
    ap (λ x. step_formed funs own known s && x) (formed-append funs own (new_vars s ++ known) a b)
    ∙ and-two (step_formed funs own known s) (steps_formed funs own (new_vars s ++ known) a) (steps_formed funs own (known_behind (new_vars s ++ known) a) b)

pub defined-append : (a b : List Step) → steps_defined (a ++ b) ≡ steps_defined a ++ steps_defined b
defined-append [] b = refl
defined-append (s ∷ a) b = ap (λ l. step_defined s ++ l) (defined-append a b) ∙ sym (append_assoc (step_defined s) (steps_defined a) (steps_defined b))

pub raised-append : (a b : List Step) → steps_raised (a ++ b) ≡ steps_raised a ++ steps_raised b
raised-append [] b = refl
raised-append (s ∷ a) b = ap (λ l. step_raised s ++ l) (raised-append a b) ∙ sym (append_assoc (step_raised s) (steps_raised a) (steps_raised b))

pub live-append : (a b : List Step) (behind : List ℕ) → steps_live (a ++ b) behind ≡ steps_live a (steps_live b behind)
live-append [] b behind = refl
live-append (s ∷ a) b behind = ap (step_live s) (live-append a b behind)

pub wide-append : (funs : List FlatFun) (w : Widths) (own : ℕ) (outside : List ℕ) (a b : List Step) (behind : List ℕ) (n : ℕ)
    → steps_wide funs w own outside (a ++ b) behind n ≡ steps_wide funs w own outside a (steps_live b behind) (steps_wide funs w own outside b behind n)
wide-append funs w own outside [] b behind n = refl
wide-append funs w own outside (s ∷ a) b behind n =
    ap (λ l. max (step_wide funs w own outside s l) (steps_wide funs w own outside (a ++ b) behind n)) (live-append a b behind)
    ∙ ap (λ k. max (step_wide funs w own outside s (steps_live a (steps_live b behind))) k) (wide-append funs w own outside a b behind n)

pub bulk-append : (funs : List FlatFun) (w : Bulks) (own : ℕ) (a b : List Step) (k : Bulk) → steps_bulk funs w own (a ++ b) k ≡ steps_bulk funs w own a (steps_bulk funs w own b k)
bulk-append funs w own [] b k = refl
bulk-append funs w own (s ∷ a) b k = ap (both (step_bulk funs w own s)) (bulk-append funs w own a b k)
