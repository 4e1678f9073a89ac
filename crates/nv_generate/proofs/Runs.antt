-- A made source ends with one word.
use Rattle.std.proofs.Common.{◌≡◌, ℕ, zero, suc, Bool, true, false, List, [], ◌∷◌, refl}
use Rattle.std.specs.Prelude.{if◌then◌else◌, bytes_eq, codes}
use Rattle.nv_base.specs.declared.outcome.Outcome.TheVariants.{Ended}
use Rattle.nv_base.specs.declared.term.Bin.TheVariants as bin
use Rattle.nv_base.specs.Memories.{Memories}
use Rattle.nv_base.specs.Words.{bin_word}
use Rattle.nv_meaning.specs.Meaning.{combined, binary, Declared, Calls, declared, groups_from, in_main, calls_within, run_all, source}
use Rattle.nv_meaning.specs.Running.{Running, Gives, GoesOn}
use Rattle.nv_meaning.specs.Values.{Value, Word, Scope, variable_in, word_of}
use Rattle.nv_generate.specs.Made.{name_of}
use Rattle.nv_generate.specs.inner.Program.{operator_of, next_place, statements_of, program_of}
use Rattle.nv_generate.specs.declared.draws.Line.{Line}

-- ---- scopes of words
record IsWordValue (v : Value) : Type 0 where
  word : ℕ
  is : v ≡ Word word

abbrev AllWordValues : Scope → Type 0
AllWordValues [] = Unit {0}
AllWordValues ((x, v) ∷ scope) = IsWordValue v × AllWordValues scope

a-word : (w : ℕ) → IsWordValue (Word w)
a-word w = record { word = w; is = refl }

either : (t : Bool) (v u : Value) → IsWordValue v → IsWordValue u → IsWordValue (if t then v else u)
either true v u h g = h
either false v u h g = g

variable-word : (scope : Scope) (x : List ℕ) → AllWordValues scope → IsWordValue (variable_in scope x)
variable-word [] x h = a-word 0
variable-word ((y, v) ∷ scope) x h = either (bytes_eq x y) v (variable_in scope x) h.0 (variable-word scope x h.1)

combined-word : (o x y : ℕ) → IsWordValue (combined (operator_of o) x y)
combined-word zero x y = a-word (bin_word bin.Add x y)
combined-word (suc zero) x y = a-word (bin_word bin.Sub x y)
combined-word (suc (suc zero)) x y = a-word (bin_word bin.And x y)
combined-word (suc (suc (suc zero))) x y = a-word (bin_word bin.Or x y)
combined-word (suc (suc (suc (suc o)))) x y = a-word (bin_word bin.Xor x y)

-- ---- lines
binary-gives : (o : ℕ) (v w : Value) (now : Running) → binary (operator_of o) (Gives v now) (λ next. Gives w next) ≡ Gives (combined (operator_of o) (word_of v) (word_of w)) now
binary-gives zero v w now = refl
binary-gives (suc zero) v w now = refl
binary-gives (suc (suc zero)) v w now = refl
binary-gives (suc (suc (suc zero))) v w now = refl
binary-gives (suc (suc (suc (suc o)))) v w now = refl

-- the value of a line
abbrev value_of : Line → Scope → Value
value_of line scope = combined (operator_of line.operator) (word_of (variable_in scope (name_of line.left))) (word_of (variable_in scope (name_of line.right)))

abbrev scope_behind : ℕ → List Line → Scope → Scope
scope_behind i [] scope = scope
scope_behind i (line ∷ lines) scope = scope_behind (suc i) lines ((name_of (suc (suc i)), value_of line scope) ∷ scope)

words-behind : (i : ℕ) (lines : List Line) (scope : Scope) → AllWordValues scope → AllWordValues (scope_behind i lines scope)
words-behind i [] scope h = h
words-behind i (line ∷ lines) scope h =
    let v = combined-word line.operator (word_of (variable_in scope (name_of line.left))) (word_of (variable_in scope (name_of line.right))) in
    words-behind (suc i) lines ((name_of (suc (suc i)), value_of line scope) ∷ scope) (v, h)

lines-run : (d : Declared) (call : Calls) (i p : ℕ) (lines : List Line) (scope : Scope) (now : Running) → run_all d call (statements_of i p lines) scope now ≡ GoesOn (scope_behind i lines scope) now
lines-run d call i p [] scope now = refl
lines-run d call i p (line ∷ lines) scope now =
    let e = binary-gives line.operator (variable_in scope (name_of line.left)) (variable_in scope (name_of line.right)) now in
    rw e (lines-run d call (suc i) (next_place i p line) lines ((name_of (suc (suc i)), value_of line scope) ∷ scope) now)

-- ---- the whole program, on two arguments
abbrev first_scope : ℕ → ℕ → Scope
first_scope a b = (codes "b", Word b) ∷ (codes "a", Word a) ∷ []

pub record EndsWithWord (lines : List Line) (name bytes a b : ℕ) : Type 0 where
  pub word : ℕ
  pub ends : (p : Memories) (n : ℕ) → source (program_of lines name bytes) (a ∷ b ∷ []) p n ≡ record { outcome = Ended (word ∷ []); packet = p; writes = [] }

pub one-word : (lines : List Line) (name bytes a b : ℕ) → EndsWithWord lines name bytes a b
one-word lines name bytes a b =
    let scope = scope_behind 0 lines (first_scope a b) in
    let last = variable-word scope (name_of name) (words-behind 0 lines (first_scope a b) (a-word b, (a-word a, tt))) in
    record { word = last.word; ends = ends last.word last.is }
  where
    ends : (w : ℕ) → variable_in (scope_behind 0 lines (first_scope a b)) (name_of name) ≡ Word w → (p : Memories) (n : ℕ) → source (program_of lines name bytes) (a ∷ b ∷ []) p n ≡ record { outcome = Ended (w ∷ []); packet = p; writes = [] }
    ends w is p n =
        let d = declared (program_of lines name bytes) in
        let now : Running = record { calls = n; packet = p; writes = []; chain = in_main d (groups_from 0 (program_of lines name bytes).decls) } in
        let run = lines-run d (calls_within n d) 0 35 lines (first_scope a b) now in
        rw (run, is) refl
