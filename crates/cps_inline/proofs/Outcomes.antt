-- The one function has the outcomes of the program: it takes one jump more, to main's copy.
use Rattle.std.proofs.Common.{◌≡◌, ℕ, zero, suc, nat_eq, Bool, true, false, ◌&&◌, not, List, [], ◌∷◌, ◌++◌, length, Some, None, slice_get, if◌then◌else◌, refl, sym, ap, subst, ◌∙◌, arith}
use Rattle.std.specs.List.{list_all}
use Rattle.std.proofs.lemmas.Bool.{and_parts, eq-eqb, not-true, or_parts}
use Rattle.std.proofs.lemmas.Option.{none-some, same_Some}
use Rattle.nv_base.specs.Memories.{Memories}
use Rattle.nv_base.specs.Meanings.{KeepsOutcomes}
use Rattle.nv_base.specs.Sets.{is_in, all_different}
use Rattle.nv_base.specs.Words.{Env, assigned, assigned_all, atom_words}
use Rattle.nv_base.specs.World.{begun}
use Rattle.nv_base.proofs.Same.{same_lands, lands_at}
use Rattle.cps_ir.specs.Formed.{defined, made, is_formed, is_function, is_main, all_raised, agree, is_program}
use Rattle.cps_ir.specs.Meaning.{Top, Bottom, blank, run, enter_fun, cps_meaning, params_of, params_in}
use Rattle.cps_ir.specs.Term.{Fun}
use Rattle.cps_ir.proofs.Growth.{meaning-grows}
use Rattle.cps_inline.specs.inner.Inlined.{behind, operands, entering, counts, inlined_main}
use Rattle.cps_inline.proofs.Moved.{Zeros, all-zeros}
use Rattle.cps_inline.proofs.Simulates.{AreFormed, Lands, misses-top, entering-alike, group-enters}
use Rattle.cps_inline.proofs.Names.{differ-first}

-- ---- what a well formed program tells of its functions

pub all-at : (p : Fun → Bool) (fs : List Fun) (i : ℕ) (g : Fun) → list_all p fs ≡ true → slice_get fs i ≡ Some g → p g ≡ true
all-at p [] i g h e = absurd (none-some g e)
all-at p (f ∷ fs) zero g h e = ap p (sym (same_Some f g e)) ∙ (and_parts (p f) (list_all p fs) h).0
all-at p (f ∷ fs) (suc i) g h e = all-at p fs i g (and_parts (p f) (list_all p fs) h).1 e

pub function-at : (funs : List Fun) (main i : ℕ) (g : Fun) → is_program funs main ≡ true → slice_get funs i ≡ Some g → is_function funs g ≡ true
function-at funs main i g program there = all-at (is_function funs) funs i g (and_parts (list_all (is_function funs) funs) (agree (all_raised funs) && is_main funs (slice_get funs main)) program).0 there

pub are-formed : (funs : List Fun) (main : ℕ) → is_program funs main ≡ true → AreFormed funs
are-formed funs main program i g there =
    (and_parts (is_formed funs g.group g.results [] g.params g.body) (all_different (g.params ++ defined g.body) && all_different (made g.body)) (function-at funs main i g program there)).0

pub vars-differ : (funs : List Fun) (main i : ℕ) (g : Fun) → is_program funs main ≡ true → slice_get funs i ≡ Some g → all_different (g.params ++ defined g.body) ≡ true
vars-differ funs main i g program there =
    (and_parts (all_different (g.params ++ defined g.body)) (all_different (made g.body)) (and_parts (is_formed funs g.group g.results [] g.params g.body) (all_different (g.params ++ defined g.body) && all_different (made g.body)) (function-at funs main i g program there)).1).0

-- ---- parameters have their words

others-keep : (x : ℕ) (xs ws : List ℕ) (env : Env) → is_in x xs ≡ false → assigned_all env xs ws x ≡ env x
others-keep x [] ws env e = refl
others-keep x (y ∷ xs) [] env e =
    let parts = or_parts (nat_eq x y) (is_in x xs) e in others-keep x xs [] (assigned env y 0) parts.1 ∙ ap (λ t. if t then 0 else env x) parts.0
others-keep x (y ∷ xs) (w ∷ ws) env e =
    let parts = or_parts (nat_eq x y) (is_in x xs) e in others-keep x xs ws (assigned env y w) parts.1 ∙ ap (λ t. if t then w else env x) parts.0

given-words : (xs ws : List ℕ) (env : Env) → all_different xs ≡ true → length ws ≡ length xs → atom_words (assigned_all env xs ws) (operands xs) ≡ ws
given-words [] [] env d e = refl
given-words [] (w ∷ ws) env d e = cc
given-words (x ∷ xs) [] env d e = cc
given-words (x ∷ xs) (w ∷ ws) env d e =
    let parts = and_parts (not (is_in x xs)) (all_different xs) d in
    let here : assigned_all (assigned env x w) xs ws x ≡ w = others-keep x xs ws (assigned env x w) (not-true (is_in x xs) parts.0) ∙ ap (λ t. if t then w else env x) (eq-eqb x x refl) in
    ap (λ v. v ∷ atom_words (assigned_all (assigned env x w) xs ws) (operands xs)) here ∙ ap (λ vs. w ∷ vs) (given-words xs ws (assigned env x w) parts.1 (omega arith))

-- ---- the program

bottom-return_term : (funs top : List Fun) (N : ℕ) → Lands funs top N Bottom None [] Top
bottom-return_term funs top N = record { words = λ m le ws w. refl; exceptions = λ m le e ws w. refl }

blank-zeros : (n : ℕ) → Zeros blank n
blank-zeros n = λ x le. refl

pub program-runs : (funs : List Fun) (main : ℕ) (f : Fun) → is_program funs main ≡ true → slice_get funs main ≡ Some f → (args : List ℕ) (p : Memories) → length args ≡ length f.params → (N : ℕ) → cps_meaning (inlined_main funs main f ∷ []) 0 args p (suc N) ≡ cps_meaning funs main args p N
program-runs funs main f program there args p long N =
    let top = inlined_main funs main f ∷ [] in
    let env = assigned_all blank f.params args in
    let words : atom_words env (operands f.params) ≡ args = given-words f.params args blank (differ-first f.params (defined f.body) (vars-differ funs main main f program there)) long in
    sym (group-enters funs top (are-formed funs main program) (entering funs f.group) (counts funs f.group) f (entering-alike funs top (are-formed funs main program) f.group) (suc N) (behind f.params) None [] Bottom env Top
    (bottom-return_term funs top (suc N)) tt (λ e. tt) (misses-top top (behind f.params)) (all-zeros f.params args blank (behind f.params) (omega arith) (blank-zeros (behind f.params))) main there (operands f.params) (begun p))
    ∙ ap (λ ws. enter_fun (run funs N) (slice_get funs main) ws Bottom (begun p)) words

pub outcomes-kept : (funs : List Fun) (main : ℕ) (f : Fun) → is_program funs main ≡ true → slice_get funs main ≡ Some f → (top : List Fun) → top ≡ inlined_main funs main f ∷ [] → KeepsOutcomes (params_in funs main) (params_in top 0) (cps_meaning funs main) (cps_meaning top 0)
outcomes-kept funs main f program there top is =
    subst (λ t. KeepsOutcomes (params_in funs main) (params_in t 0) (cps_meaning funs main) (cps_meaning t 0)) (sym is)
    (record {
      arguments = ap params_of there;
      same = λ args p a h.
          same_lands (cps_meaning funs main args p) (cps_meaning (inlined_main funs main f ∷ []) 0 args p)
          (lands_at (cps_meaning funs main args p) (cps_meaning (inlined_main funs main f ∷ []) 0 args p) (λ i. (suc i, (λ going. omega arith), program-runs funs main f program there args p (a.0 ∙ ap params_of there) i)))
          (meaning-grows (inlined_main funs main f ∷ []) 0 args p);
    })
