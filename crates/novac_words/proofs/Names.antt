-- What the words of `compile` name: files with different names, and options.
use Rattle.std.proofs.Common.{◌≡◌, ℕ, ◌<◌, Bool, true, false, ◌&&◌, List, [], ◌∷◌, length, Option, Some, None, codes, refl, ap, sym, ◌∙◌, arith}
use Rattle.std.specs.Prelude.{String, not, option_map, if◌then◌else◌}
use Rattle.std.specs.declared.alloc.Global.{Global}
use Rattle.std.specs.Str.{bytes_eq}
use Rattle.std.proofs.lemmas.Slice.Eq.{bytes_eq-Decides}
use Rattle.novac_words.specs.Command.{Command, Run, Exec, Asm, Dis, Lint, Check, Contexts, Peep, Counts, Compile, Options, IfCompile, is_name, are_names, are_three_names, is_another, number_in, steps_of, gen_with, gen_of, command_of_two, command_of_three, command_of_four, command_of_more, trace_calls, trace_line, trace_with, trace_of, compile_with, compile_of, counts_of, options_of, options_with, taken, weights_of, command_of, texts}
use Rattle.novac_words.specs.Limits.{slots_limit, budget_default, budget_limit, store_default, store_limit}

abbrev pub AreApart : Option Command → Type 0
AreApart o = IfCompile o (λ source object report slots budget store weights. object ≡ report → ⊥)

either : (b : Bool) (x y : Option Command) → (b ≡ true → AreApart x) → AreApart y → AreApart (if b then x else y)
either true x y h k = h refl
either false x y h k = k

-- of two words, and of three
two-apart : (verb name : List ℕ) → AreApart (command_of_two verb name)
two-apart verb name =
    either (bytes_eq verb (codes "dis") && is_name name) (Some (Dis name)) _ (λ e. tt)
    (either (bytes_eq verb (codes "lint") && is_name name) (Some (Lint name)) _ (λ e. tt) (either (bytes_eq verb (codes "check") && is_name name) (Some (Check name)) None (λ e. tt) tt))

gen-apart : (seed size : Option ℕ) → AreApart (gen_with seed size)
gen-apart (Some seed) (Some size) = tt
gen-apart (Some seed) None = tt
gen-apart None size = tt

three-apart : (verb a b : List ℕ) → AreApart (command_of_three verb a b)
three-apart verb a b =
    either (bytes_eq verb (codes "gen")) (gen_of a b) _ (λ e. gen-apart (number_in 0 4294967295 a) (number_in 1 500 b))
    (either (bytes_eq verb (codes "asm") && are_names a b) (Some (Asm a b)) _ (λ e. tt) (either (bytes_eq verb (codes "peep") && are_names a b) (Some (Peep a b)) None (λ e. tt) tt))

-- of four words
run-apart : (a b : List ℕ) (steps : Option ℕ) → AreApart (option_map (Run a b) steps)
run-apart a b (Some n) = tt
run-apart a b None = tt

exec-apart : (a b : List ℕ) (steps : Option ℕ) → AreApart (option_map (Exec a b) steps)
exec-apart a b (Some n) = tt
exec-apart a b None = tt

four-apart : (verb a b c : List ℕ) (words : List (List ℕ)) → AreApart (command_of_four verb a b c words)
four-apart verb a b c (word ∷ words) = tt
four-apart verb a b c [] =
    either (bytes_eq verb (codes "run") && are_names a b) (option_map (Run a b) (steps_of c)) _ (λ e. run-apart a b (steps_of c))
    (either (bytes_eq verb (codes "exec") && are_names a b) (option_map (Exec a b) (steps_of c)) _ (λ e. exec-apart a b (steps_of c))
    (either (bytes_eq verb (codes "contexts") && are_three_names a b c) (Some (Contexts a b c)) None (λ e. tt) tt))

-- of `counts`
counted-apart : (a b c : List ℕ) (steps : Option ℕ) → AreApart (option_map (Counts a b c) steps)
counted-apart a b c (Some n) = tt
counted-apart a b c None = tt

counts-apart : (a b c : List ℕ) (words : List (List ℕ)) → AreApart (counts_of a b c words)
counts-apart a b c [] = tt
counts-apart a b c (word ∷ []) = either (are_three_names a b c) (option_map (Counts a b c) (steps_of word)) None (λ e. counted-apart a b c (steps_of word)) tt
counts-apart a b c (word ∷ other ∷ words) = tt

-- of `compile`
second-true : (x y : Bool) → (x && y) ≡ true → y ≡ true
second-true true y h = h
second-true false y h = absurd cc

not-both : (b : Bool) → b ≡ true → not b ≡ true → ⊥
not-both b e f = cc

differ : (a b : List ℕ) → are_names a b ≡ true → a ≡ b → ⊥
differ a b e same = not-both (bytes_eq a b) ((bytes_eq-Decides a b).1 same) (second-true (is_name a && is_name b) (not (bytes_eq a b)) e)

with-apart : (source object report : List ℕ) (options : Option Options) → (object ≡ report → ⊥) → AreApart (compile_with source object report options)
with-apart source object report None h = tt
with-apart source object report (Some o) h =
    either (is_another source object report o.weights) (Some (Compile source object report o.slots o.budget o.store o.weights)) None (λ e. h) tt

compile-apart : (source object report : List ℕ) (words : List (List ℕ)) → AreApart (compile_of source object report words)
compile-apart source object report words =
    either (are_three_names source object report) (compile_with source object report (options_of words)) None
    (λ e. with-apart source object report (options_of words) (differ object report (second-true (are_names source object && are_names source report) (are_names object report) e))) tt

-- of `trace`
trace-with-apart : (source object memory : List ℕ) (steps calls : Option ℕ) (line : Option (Option ℕ)) → AreApart (trace_with source object memory steps calls line)
trace-with-apart source object memory (Some steps) (Some calls) (Some line) = tt
trace-with-apart source object memory (Some steps) (Some calls) None = tt
trace-with-apart source object memory (Some steps) None line = tt
trace-with-apart source object memory None calls line = tt

trace-apart : (source object memory : List ℕ) (words : List (List ℕ)) → AreApart (trace_of source object memory words)
trace-apart source object memory [] = tt
trace-apart source object memory (steps ∷ []) = tt
trace-apart source object memory (steps ∷ calls ∷ words) =
    either (are_three_names source object memory) (trace_with source object memory (steps_of steps) (trace_calls calls) (trace_line words)) None
    (λ e. trace-with-apart source object memory (steps_of steps) (trace_calls calls) (trace_line words)) tt

-- fewer than two words are no `trace`
pub trace-short : (source object memory : List ℕ) (words : List (String Global)) → length words < 2 → trace_of source object memory (texts words) ≡ None
trace-short source object memory [] few = refl
trace-short source object memory (steps ∷ []) few = refl
trace-short source object memory (steps ∷ calls ∷ words) few = absurd (omega arith)

more-apart : (verb a b c : List ℕ) (words : List (List ℕ)) → AreApart (command_of_more verb a b c words)
more-apart verb a b c words =
    either (bytes_eq verb (codes "compile")) (compile_of a b c words) _ (λ e. compile-apart a b c words)
    (either (bytes_eq verb (codes "counts")) (counts_of a b c words) _ (λ e. counts-apart a b c words)
    (either (bytes_eq verb (codes "trace")) (trace_of a b c words) (command_of_four verb a b c words) (λ e. trace-apart a b c words) (four-apart verb a b c words)))

pub words-apart : (words : List (List ℕ)) → AreApart (command_of words)
words-apart [] = tt
words-apart (verb ∷ []) = tt
words-apart (verb ∷ a ∷ []) = two-apart verb a
words-apart (verb ∷ a ∷ b ∷ []) = three-apart verb a b
words-apart (verb ∷ a ∷ b ∷ c ∷ words) = more-apart verb a b c words

-- ---- the options, by what is taken of the words

abbrev slots-in : List (List ℕ) → ℕ × List (List ℕ)
slots-in words = taken (codes "slots=") 0 slots_limit slots_limit words

abbrev budget-in : List (List ℕ) → ℕ × List (List ℕ)
budget-in words = taken (codes "budget=") 1 budget_limit budget_default words

abbrev store-in : List (List ℕ) → ℕ × List (List ℕ)
store-in words = taken (codes "store=") 1 store_limit store_default words

abbrev with-store : ℕ → ℕ → List (List ℕ) → Option Options
with-store a b words = options_with a b (store-in words).0 (store-in words).1

abbrev with-budget : ℕ → List (List ℕ) → Option Options
with-budget a words = with-store a (budget-in words).0 (budget-in words).1

pub options-given : (words slots budget store : List (List ℕ)) (a b c : ℕ) (w : Option (Option (List ℕ))) → a ≡ (taken (codes "slots=") 0 slots_limit slots_limit words).0 → slots ≡ (taken (codes "slots=") 0 slots_limit slots_limit words).1
    → b ≡ (taken (codes "budget=") 1 budget_limit budget_default slots).0 → budget ≡ (taken (codes "budget=") 1 budget_limit budget_default slots).1
    → c ≡ (taken (codes "store=") 1 store_limit store_default budget).0 → store ≡ (taken (codes "store=") 1 store_limit store_default budget).1 → weights_of store ≡ w
    → options_of words ≡ option_map (λ weights. record { slots = a; budget = b; store = c; weights = weights }) w
options-given words slots budget store a b c w a-is slots-is b-is budget-is c-is store-is is =
    ap (λ (x : ℕ). with-budget x (slots-in words).1) (sym a-is)
    ∙ ap (λ (x : List (List ℕ)). with-budget a x) (sym slots-is)
    ∙ ap (λ (x : ℕ). with-store a x (budget-in slots).1) (sym b-is)
    ∙ ap (λ (x : List (List ℕ)). with-store a b x) (sym budget-is)
    ∙ ap (λ (x : ℕ). options_with a b x (store-in budget).1) (sym c-is)
    ∙ ap (λ (x : List (List ℕ)). options_with a b c x) (sym store-is)
    ∙ ap (λ (x : Option (Option (List ℕ))). option_map (λ weights. record { slots = a; budget = b; store = c; weights = weights }) x) is
