-- The variables that names stand for after a pattern, and how many more they are.
use Rattle.std.proofs.Common.{◌≡◌, ℕ, ◌+◌, Bool, true, false, ◌||◌, if◌then◌else◌, List, [], ◌∷◌, ◌++◌, refl, sym, ap, subst, ◌∙◌, length, bytes_eq, arith}
use Rattle.std.specs.List.{list_any}
use Rattle.std.proofs.lemmas.Bool.{or_parts, or_from}
use Rattle.std.proofs.lemmas.List.Folds.{list_any-append}
use Rattle.std.specs.Cmp.Lexicographic.{nat_list_eq_equiv}
use Rattle.nv_ast.specs.Tree.{PatternTree, NamePattern, AnyPattern, TuplePattern, PatternTrees, no_patterns, pattern_and}
use Rattle.nv_ast.specs.Tests.{is_among}
use Rattle.nv_ast.specs.Scope.{names_in, names_in_all}
use Rattle.nv_ast.specs.Sizes.{Lets, pending}
use Rattle.nv_base.specs.Sets.{all_vars}
use Rattle.nv_flatten_values.specs.inner.Symbols.{Symbol, Symbols, Word, Truth, Tuple, Record, no_symbols, symbol_and, SymbolScope, operands, all_operands, symbol_in, bound, all_bound}
use Rattle.nv_flatten_values.specs.inner.Narrow.{IsWithin, AddsAtMost, written, Pends}
use Rattle.nv_flatten_values.proofs.Within.{itself, of-none, one, both, unions, into-left, into-right, through, behind-same, both-same, grows-by, grows-not, grows-further, all-vars-append, vars-length}

-- the variables of one name
abbrev at_name : SymbolScope → List ℕ → List ℕ
at_name scope x = all_vars (operands (symbol_in scope x))

-- ---- after a pattern a name stands for variables of its value, or for what it did

pub choice-of : (b : Bool) (s t : Symbol) → IsWithin (all_vars (operands (if b then s else t))) (all_vars (operands s) ++ all_vars (operands t))
choice-of true s t = into-left (all_vars (operands s)) (all_vars (operands s)) (all_vars (operands t)) itself
choice-of false s t = into-right (all_vars (operands t)) (all_vars (operands s)) (all_vars (operands t)) itself

mutual
  name-bound : (q : PatternTree) (s : Symbol) (scope : SymbolScope) (x : List ℕ) → IsWithin (at_name (bound q s scope) x) (all_vars (operands s) ++ at_name scope x)
  name-bound (NamePattern y) s scope x = choice-of (bytes_eq x y) s (symbol_in scope x)
  name-bound AnyPattern s scope x = into-right (at_name scope x) (all_vars (operands s)) (at_name scope x) itself
  name-bound (TuplePattern ps) (Tuple ss) scope x = name-all-bound ps ss scope x
  name-bound (TuplePattern ps) (Word a) scope x = into-right (at_name scope x) (all_vars (operands (Word a))) (at_name scope x) itself
  name-bound (TuplePattern ps) (Truth a) scope x = into-right (at_name scope x) (all_vars (operands (Truth a))) (at_name scope x) itself
  name-bound (TuplePattern ps) (Record fs) scope x = into-right (at_name scope x) (all_vars (operands (Record fs))) (at_name scope x) itself

  name-all-bound : (ps : PatternTrees) (ss : Symbols) (scope : SymbolScope) (x : List ℕ) → IsWithin (at_name (all_bound ps ss scope) x) (all_vars (all_operands ss) ++ at_name scope x)
  name-all-bound no_patterns no_symbols scope x = into-right (at_name scope x) [] (at_name scope x) itself
  name-all-bound no_patterns (symbol_and s ss) scope x = into-right (at_name scope x) (all_vars (all_operands (symbol_and s ss))) (at_name scope x) itself
  name-all-bound (pattern_and q ps) no_symbols scope x = into-right (at_name scope x) [] (at_name scope x) itself
  name-all-bound (pattern_and q ps) (symbol_and s ss) scope x =
      let a = all_vars (operands s) in
      let b = all_vars (all_operands ss) in
      let c = at_name scope x in
      subst (λ l. IsWithin (at_name (all_bound ps ss (bound q s scope)) x) (l ++ c)) (sym (all-vars-append (operands s) (all_operands ss)))
      (through (name-all-bound ps ss (bound q s scope) x)
      (through (behind-same b (at_name (bound q s scope) x) (a ++ c) (name-bound q s scope x)) (unions (a ∷ b ∷ c ∷ []) (both (one 1) (both (one 0) (one 2))) (both (both (one 0) (one 1)) (one 2)) refl)))

pub written-all-bound : (ps : PatternTrees) (ss : Symbols) (scope : SymbolScope) (names : List (List ℕ)) → IsWithin (written (all_bound ps ss scope) names) (all_vars (all_operands ss) ++ written scope names)
written-all-bound ps ss scope [] = of-none (all_vars (all_operands ss) ++ [])
written-all-bound ps ss scope (x ∷ names) =
    let a = all_vars (all_operands ss) in
    let b = at_name scope x in
    let c = written scope names in
    through (both-same (at_name (all_bound ps ss scope) x) (a ++ b) (written (all_bound ps ss scope) names) (a ++ c) (name-all-bound ps ss scope x) (written-all-bound ps ss scope names))
    (unions (a ∷ b ∷ c ∷ []) (both (both (one 0) (one 1)) (both (one 0) (one 2))) (both (one 0) (both (one 1) (one 2))) refl)

pub written-bound : (q : PatternTree) (s : Symbol) (scope : SymbolScope) (names : List (List ℕ)) → IsWithin (written (bound q s scope) names) (all_vars (operands s) ++ written scope names)
written-bound q s scope [] = of-none (all_vars (operands s) ++ [])
written-bound q s scope (x ∷ names) =
    let a = all_vars (operands s) in
    let b = at_name scope x in
    let c = written scope names in
    through (both-same (at_name (bound q s scope) x) (a ++ b) (written (bound q s scope) names) (a ++ c) (name-bound q s scope x) (written-bound q s scope names))
    (unions (a ∷ b ∷ c ∷ []) (both (both (one 0) (one 1)) (both (one 0) (one 2))) (both (one 0) (both (one 1) (one 2))) refl)

-- ---- a name that the pattern doesn't have stands for what it did

mutual
  name-kept : (q : PatternTree) (s : Symbol) (scope : SymbolScope) (x : List ℕ) → list_any (λ y. bytes_eq y x) (names_in q) ≡ false → symbol_in (bound q s scope) x ≡ symbol_in scope x
  name-kept (NamePattern y) s scope x e = ap (λ b. if b then s else symbol_in scope x) (nat_list_eq_equiv.symm x y ∙ (or_parts (bytes_eq y x) false e).0)
  name-kept AnyPattern s scope x e = refl
  name-kept (TuplePattern ps) (Tuple ss) scope x e = name-all-kept ps ss scope x e
  name-kept (TuplePattern ps) (Word a) scope x e = refl
  name-kept (TuplePattern ps) (Truth a) scope x e = refl
  name-kept (TuplePattern ps) (Record fs) scope x e = refl

  name-all-kept : (ps : PatternTrees) (ss : Symbols) (scope : SymbolScope) (x : List ℕ) → list_any (λ y. bytes_eq y x) (names_in_all ps) ≡ false → symbol_in (all_bound ps ss scope) x ≡ symbol_in scope x
  name-all-kept no_patterns no_symbols scope x e = refl
  name-all-kept no_patterns (symbol_and s ss) scope x e = refl
  name-all-kept (pattern_and q ps) no_symbols scope x e = refl
  name-all-kept (pattern_and q ps) (symbol_and s ss) scope x e =
      let parts = or_parts (list_any (λ y. bytes_eq y x) (names_in q)) (list_any (λ y. bytes_eq y x) (names_in_all ps)) (sym (list_any-append (λ y. bytes_eq y x) (names_in q) (names_in_all ps)) ∙ e) in
      name-all-kept ps ss (bound q s scope) x parts.1 ∙ name-kept q s scope x parts.0

-- where no element passes either of two tests
no-first : (f g : List ℕ → Bool) (xs : List (List ℕ)) → list_any (λ y. f y || g y) xs ≡ false → list_any f xs ≡ false
no-first f g [] e = refl
no-first f g (x ∷ xs) e =
    let parts = or_parts (f x || g x) (list_any (λ y. f y || g y) xs) e in
    or_from (f x) (list_any f xs) (or_parts (f x) (g x) parts.0).0 (no-first f g xs parts.1)

no-second : (f g : List ℕ → Bool) (xs : List (List ℕ)) → list_any (λ y. f y || g y) xs ≡ false → list_any g xs ≡ false
no-second f g [] e = refl
no-second f g (x ∷ xs) e =
    let parts = or_parts (f x || g x) (list_any (λ y. f y || g y) xs) e in
    or_from (g x) (list_any g xs) (or_parts (f x) (g x) parts.0).1 (no-second f g xs parts.1)

written-kept : (q : PatternTree) (s : Symbol) (scope : SymbolScope) (names : List (List ℕ)) → list_any (λ y. is_among y names) (names_in q) ≡ false → written (bound q s scope) names ≡ written scope names
written-kept q s scope [] e = refl
written-kept q s scope (x ∷ names) e =
    ap (λ t. all_vars (operands t) ++ written (bound q s scope) names) (name-kept q s scope x (no-first (λ y. bytes_eq y x) (λ y. is_among y names) (names_in q) e))
    ∙ ap (λ l. at_name scope x ++ l) (written-kept q s scope names (no-second (λ y. bytes_eq y x) (λ y. is_among y names) (names_in q) e))

-- ---- lets
bound-grows : (b : Bool) (q : PatternTree) (s : Symbol) (scope : SymbolScope) (n : ℕ) (names : List (List ℕ)) → length (operands s) ≡ n → list_any (λ y. is_among y names) (names_in q) ≡ b
    → AddsAtMost (written scope names) (written (bound q s scope) names) ((if b then n else 0) + 0)
bound-grows true q s scope n names e h =
    grows-by (all_vars (operands s)) (written scope names) (written (bound q s scope) names) (n + 0) (written-bound q s scope names) (omega (arith, vars-length (operands s)))
bound-grows false q s scope n names e h =
    grows-not (written scope names) (written (bound q s scope) names) (subst (λ l. IsWithin l (written scope names)) (sym (written-kept q s scope names h)) itself)

pub bound-pends : (q : PatternTree) (s : Symbol) (scope : SymbolScope) (n : ℕ) → length (operands s) ≡ n → Pends scope (bound q s scope) ((names_in q, n) ∷ [])
bound-pends q s scope n e = record { by = λ names. bound-grows (list_any (λ y. is_among y names) (names_in q)) q s scope n names e refl }

pub same-pends : (scope : SymbolScope) → Pends scope scope []
same-pends scope = record { by = λ names. grows-not (written scope names) (written scope names) itself }

pending-append : (l m : Lets) (names : List (List ℕ)) → pending (l ++ m) names ≡ pending l names + pending m names
pending-append [] m names = omega arith
pending-append ((ns, n) ∷ l) m names = let here = if list_any (λ x. is_among x names) ns then n else 0 in plus-first here (pending (l ++ m) names) (pending l names) (pending m names) (pending-append l m names)
  where
    plus-first : (h a b c : ℕ) → a ≡ b + c → h + a ≡ (h + b) + c
    plus-first h a b c e = omega arith

pub pends-further : (outer scope inner : SymbolScope) (l m : Lets) → Pends outer scope l → Pends scope inner m → Pends outer inner (l ++ m)
pends-further outer scope inner l m p q = record {
  by = λ names.
      subst (AddsAtMost (written outer names) (written inner names)) (sym (pending-append l m names))
      (grows-further (written outer names) (written scope names) (written inner names) (pending l names) (pending m names) (p.by names) (q.by names));
}
