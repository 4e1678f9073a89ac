-- Code that ends with an expression's words, with names for the words: the expression's value.
use Rattle.std.proofs.Common.{◌≡◌, ◌∙◌, refl, ap, sym, subst, ℕ, ◌+◌, ◌≤◌, List, [], ◌∷◌, Option, Some, None, option_map, Vec, Global}
use Rattle.nv_base.specs.Words.{Env, assigned_all}
use Rattle.nv_base.specs.Memories.{HasSizes}
use Rattle.nv_ast.specs.Tree.{Tree}
use Rattle.nv_ast.specs.Types.{Ty, words}
use Rattle.nv_ast.specs.Typing.{type_at}
use Rattle.nv_meaning.specs.Values.{Value, words_of}
use Rattle.nv_meaning.specs.Running.{Running, Result, Gives, Raises, Halts}
use Rattle.nv_meaning.specs.Meaning.{eval}
use Rattle.flat_ir.specs.Running as flat
use Rattle.flat_ir.specs.Spine.{Act}
use Rattle.flat_ir.specs.declared.flat.Flat.{Flat}
use Rattle.flat_ir.specs.declared.spine.Step.TheVariants.{Bind}
use Rattle.nv_flatten_values.specs.inner.Code.{form_or_unit}
use Rattle.nv_flatten_values.specs.inner.Symbols.{Symbol, SymbolScope, form, value_in, scope_in, Fits, fresh, numbers_from}
use Rattle.nv_flatten_values.specs.inner.Runs.{flat_run, onward, ended}
use Rattle.nv_flatten_values.specs.inner.Soundness.{ComesTo, AreWords, value_ty}
use Rattle.nv_flatten_values.specs.inner.Whole.{Whole}
use Rattle.nv_flatten_values.specs.inner.Simulation.{Names, Done, IsValue, IsEnd}
use Rattle.nv_flatten_values.proofs.Keeping.{keeps-earlier, types-of-scope, scope-words}
use Rattle.nv_flatten_values.proofs.Fresh.{fresh-form, fresh-older, numbers-keep, fresh-value, fresh-fits}
use Rattle.nv_flatten_values.proofs.Sound.{typed-eval}

-- what follows the words of a result of some type
named-run : (w : Whole) (t : Option Ty) (r : Result) → ComesTo w t r → (k : List ℕ → flat.Running → flat.Result) (next : Value → Running → flat.Result)
    → ((v : Value) (last : Running) → t ≡ Some (value_ty v) → AreWords (words_of v) → HasSizes last.packet → k (words_of v) (flat_run last) ≡ next v last)
    → flat.and_then (ended r) k ≡ onward r next
named-run w t (Gives v now) c k next h = h v now c.0 c.1 c.2
named-run w t (Raises j vs now) c k next h = refl
named-run w t (Halts how now) c k next h = refl

-- new variables with a value's words stand for it
named-step : (low mid : ℕ) (env : Env) (rest : Act) (next : Value → Running → flat.Result) (v : Value) (last : Running) → low ≤ mid → AreWords (words_of v) → HasSizes last.packet
    → (t : Ty) → value_ty v ≡ t
    → ((new : Env) (end : Running) → Done low env new (Fits new (fresh mid t)) end → rest new (flat_run end) ≡ next (value_in new (fresh mid t)) end)
    → rest (assigned_all env (numbers_from mid (words t)) (words_of v)) (flat_run last) ≡ next v last
named-step low mid env rest next v last le fit sizes t e =
    subst (λ x. ((new : Env) (end : Running) → Done low env new (Fits new (fresh mid x)) end → rest new (flat_run end) ≡ next (value_in new (fresh mid x)) end)
    → rest (assigned_all env (numbers_from mid (words x)) (words_of v)) (flat_run last) ≡ next v last) e
    (λ same. same (assigned_all env (numbers_from mid (words (value_ty v))) (words_of v)) last
    (record { sizes = sizes; keeps = keeps-earlier low mid env (assigned_all env (numbers_from mid (words (value_ty v))) (words_of v)) le (numbers-keep mid (words (value_ty v)) env (words_of v)); fits = fresh-fits mid env v fit })
    ∙ ap (λ x. next x last) (fresh-value mid env v))

typed-form : (o : Option Symbol) (t : Ty) → option_map form o ≡ Some t → form_or_unit o ≡ t
typed-form None t e = cc
typed-form (Some s) t e = cc

fresh-named : (w : Whole) (names : Names) (low mid : ℕ) (scope : SymbolScope) (e : Tree) (t : Flat) (o : Option Symbol) (xs : Vec ℕ Global) → IsEnd w names low mid scope e t o → low ≤ mid
    → xs.items ≡ numbers_from mid (words (form_or_unit o)) → IsValue w names low (mid + words (form_or_unit o)) scope e (Bind xs t ∷ []) (fresh mid (form_or_unit o))
fresh-named w names low mid scope e t o xs end le is = record {
  simulates = record {
    by = λ own p wanted stands none older c env now begins rest next same.
        ap (λ q. flat.and_then q (λ ws last. rest (assigned_all env xs.items ws) last)) (end.simulates own p wanted stands none older c env now begins)
        ∙ ap (λ l. flat.and_then (ended (eval w.declared c.call e (scope_in env scope) now)) (λ ws last. rest (assigned_all env l ws) last)) is
        ∙ named-run w (type_at p.known p.vars e) (eval w.declared c.call e (scope_in env scope) now)
        (typed-eval w own c.call p wanted e (scope_in env scope) now stands.part c.typed (stands.vars ∙ sym (types-of-scope env scope)) (scope-words env scope begins.fits) begins.sizes none)
        (λ ws last. rest (assigned_all env (numbers_from mid (words (form_or_unit o))) ws) last) next
        (λ v last ty fit sizes. named-step low mid env rest next v last le fit sizes (form_or_unit o) (sym (typed-form o (value_ty v) (sym (end.formed own p wanted stands none) ∙ ty))) same);
  };
  formed = record { by = λ own p wanted stands none u ty. fresh-form mid (form_or_unit o) ∙ typed-form o u (sym (end.formed own p wanted stands none) ∙ ty) };
  older = λ before. fresh-older mid (form_or_unit o);
}

pub named-value : (w : Whole) (names : Names) (low mid high : ℕ) (scope : SymbolScope) (e : Tree) (t : Flat) (o : Option Symbol) (xs : Vec ℕ Global) (s : Symbol) → IsEnd w names low mid scope e t o → low ≤ mid
    → xs.items ≡ numbers_from mid (words (form_or_unit o)) → s ≡ fresh mid (form_or_unit o) → high ≡ mid + words (form_or_unit o) → IsValue w names low high scope e (Bind xs t ∷ []) s
named-value w names low mid high scope e t o xs s end le is symbol after =
    subst (λ x. IsValue w names low high scope e (Bind xs t ∷ []) x) (sym symbol)
    (subst (λ n. IsValue w names low n scope e (Bind xs t ∷ []) (fresh mid (form_or_unit o))) (sym after) (fresh-named w names low mid scope e t o xs end le is))
