-- Expressions one after another: arguments, and the parts of tuples and records.
use Rattle.std.proofs.Common.{◌≡◌, ◌∙◌, refl, ap, sym, subst, ℕ, suc, ◌+◌, ◌<◌, ◌≤◌, max, false, List, [], ◌∷◌, ◌++◌, drop, length, get_or, append_assoc, append-nil, add-one, Option, None, Some, Ok, Err, slice_get, arith}
use Rattle.std.proofs.Math.Seq.{drop-cons}
use Rattle.std.proofs.Math.ListN.{drop_of_length-le}
use Rattle.nv_ast.specs.declared.tree.Expr.{Expr}
use Rattle.nv_ast.specs.ExprView.{tree_of, list_trees, list_named_trees}
use Rattle.nv_ast.specs.Tree.{Tree, Trees, no_trees, tree_and, NamedTrees, no_named_trees, named_tree_and}
use Rattle.nv_ast.specs.Scope.{Known, Vars, Context}
use Rattle.nv_ast.specs.Faults.{Expected as ExpectedTree, a_value, of_type, faults, list_faults, named_faults, all_wanted}
use Rattle.nv_ast.specs.Sizes.{GroupNumbers, words_at, expanded, need, variables, words_all, expanded_all, need_all, variables_all, words_named, expanded_named, need_named, variables_named}
use Rattle.nv_types_table.specs.declared.error.TypeError.{TypeError}
use Rattle.nv_types_scopes.specs.declared.expected.Expected.{Expected}
use Rattle.nv_types_scopes.specs.declared.expected.Expected.TheVariants.{Value, Typed}
use Rattle.nv_types_table.specs.declared.cost.Cost.{Cost}
use Rattle.nv_types_scopes.specs.declared.functions.Checker.{Checker}
use Rattle.nv_types_scopes.specs.declared.functions.TypedExpr.{TypedExpr}
use Rattle.nv_types_table.specs.inner.Faulty.{IsFirstOf}
use Rattle.nv_types_table.specs.inner.Store.{Store, IsStore, part_of}
use Rattle.nv_types_table.specs.inner.Cells.{still}
use Rattle.nv_types_table.specs.inner.Costs.{IsCost, two_costs}
use Rattle.nv_types_scopes.specs.inner.Judging.{AreExpected}
use Rattle.nv_types_scopes.specs.inner.Standing.{Holds, Sees, Counts, Keeps, place, written_in}
use Rattle.nv_types_scopes.specs.inner.Walk.{Checks, ChecksAll, ExpectsNext}
use Rattle.nv_types_table.proofs.Firsts.{first_append}
use Rattle.nv_types_scopes.proofs.Walked.{part_none, part_some}
use Rattle.nv_types_scopes.proofs.Holding.{Keeps-refl, Keeps-trans, holds_stays, sees_stay, counts_stay, all_wanted_stay}
use Rattle.nv_types_scopes.proofs.WalkCosts.{no_cost, two_parts}
use Rattle.nv_types_scopes.proofs.WalkNodes.{Parts}

-- what is counted so far, and what is left of some expressions
abbrev pub CountedSo : Cost → Known → Vars → GroupNumbers → GroupNumbers → Trees → Trees → Type 0
CountedSo cost k vars sizes needs all rest =
    (w : ℕ) × (s : ℕ) × (n : ℕ) × IsCost cost w s n × (words_all k vars all ≡ w + words_all k vars rest) × (expanded_all sizes k vars all ≡ s + expanded_all sizes k vars rest) × (need_all needs k vars all ≡ max n (need_all needs k vars rest))

-- expressions of which some are behind
pub record AllSo (c new : Checker) (types left : Option ℕ) (all rest : Trees) (cost : Cost) : Type 0 where
  pub keeps : Keeps c new
  pub writes : (xs : List (List ℕ)) × (written_in new ≡ written_in c ++ xs) × (variables_all all ≡ xs ++ variables_all rest)
  pub clean : (k : Known) (vars : Vars) (ws : List ExpectedTree) → Holds c k → Sees c vars → AreExpected c.table types ws
      → (vs : List ExpectedTree) × AreExpected new.table left vs × (list_faults (place k vars false) ws all ≡ list_faults (place k vars false) vs rest)
  pub counted : (k : Known) (vars : Vars) (sizes needs : GroupNumbers) → Holds c k → Sees c vars → Counts c sizes needs → CountedSo cost k vars sizes needs all rest

pub all_start : (c : Checker) (types : Option ℕ) (all : Trees) → AllSo c c types types all all (record { words = 0; size = 0; need = 0 })
all_start c types all = record {
  keeps = Keeps-refl c;
  writes = ([], sym (append-nil (written_in c)), refl);
  clean = λ k vars ws holds sees are. (ws, are, refl);
  counted = λ k vars sizes needs holds sees counts. (0, 0, 0, no_cost, omega arith, omega arith, omega arith);
}

pub next_value : (s : Store) → ExpectsNext s None Value None
next_value s vs are = (a_value, [], refl, refl, λ p e es. ap (λ (l : List ExpectedTree). list_faults p l (tree_and e es)) are)

pub next_none : (s : Store) (i : ℕ) → part_of (slice_get s.cells i) ≡ None → ExpectsNext s (Some i) Value None
next_none s i none vs are = (a_value, [], refl, refl, λ p e es. ap (λ (l : List ExpectedTree). list_faults p l (tree_and e es)) (are.2 ∙ ap all_wanted (part_none s i are.0 are.1 none)))

pub next_some : (s : Store) → IsStore s → (i t more : ℕ) → part_of (slice_get s.cells i) ≡ Some (t, more) → ExpectsNext s (Some i) (Typed t) (Some more)
next_some s is i t more some vs are =
    let p = part_some s is i t more are.0 are.1 some in
    (of_type p.0, all_wanted p.1, (p.0, p.3, refl), (p.1, p.4, refl), λ q e es. ap (λ (l : List ExpectedTree). list_faults q l (tree_and e es)) (are.2 ∙ ap all_wanted p.2))

counted_more : (cost more : Cost) (w s n v t m wa sa na wr sr nr : ℕ) → IsCost cost w s n → IsCost more v t m → wa ≡ w + (v + wr) → sa ≡ s + (t + sr) → na ≡ max n (max m nr)
    → IsCost (two_costs cost more) (w + v) (s + t) (max n m) × (wa ≡ (w + v) + wr) × (sa ≡ (s + t) + sr) × (na ≡ max (max n m) nr)
counted_more cost more w s n v t m wa sa na wr sr nr h k e f g = (two_parts cost more w v s t n m h k, omega (arith, e), omega (arith, f), omega (arith, g))

pub all_more : (c b new : Checker) (types left more : Option ℕ) (expected : Expected) (all rest : Trees) (e : Tree) (cost sum : Cost) (found : TypedExpr)
    → AllSo c b types left all (tree_and e rest) cost → ExpectsNext b.table left expected more → Checks b new false expected e (Ok found) → sum ≡ two_costs cost found.cost → AllSo c new types more all rest sum
all_more c b new types left more expected all rest e cost sum found so next checks adds = record {
  keeps = Keeps-trans c b new so.keeps checks.keeps;
  writes =
      let x = so.writes in (
        x.0 ++ variables e,
        checks.writes ∙ ap (λ l. l ++ variables e) x.1 ∙ append_assoc (written_in c) x.0 (variables e),
        x.2 ∙ sym (append_assoc x.0 (variables e) (variables_all rest)),
      );
  clean = λ k vars ws holds sees are.
      let q = so.clean k vars ws holds sees are in
      let n = next q.0 q.1 in (
        n.1,
        all_wanted_stay b.table new.table checks.keeps.declared.grows more n.1 n.3,
        q.2 ∙ n.4 (place k vars false) e rest
            ∙ ap (λ l. l ++ list_faults (place k vars false) n.1 rest) (checks.judged k vars n.0 (holds_stays c b k so.keeps.declared holds) (sees_stay c b vars so.keeps sees) n.2),
      );
  counted = λ k vars sizes needs holds sees counts.
      let q = so.counted k vars sizes needs holds sees counts in
      let here = checks.counted k vars sizes needs (holds_stays c b k so.keeps.declared holds) (sees_stay c b vars so.keeps sees) (counts_stay c b sizes needs so.keeps.declared counts) in
      let m = counted_more cost found.cost q.0 q.1 q.2 (words_at k vars e) (expanded sizes k vars e) (need needs k vars e) _ _ _ (words_all k vars rest) (expanded_all sizes k vars rest) (need_all needs k vars rest) q.3 here q.4 q.5 q.6 in (
        q.0 + words_at k vars e,
        q.1 + expanded sizes k vars e,
        max q.2 (need needs k vars e),
        subst (λ (a : Cost). IsCost a (q.0 + words_at k vars e) (q.1 + expanded sizes k vars e) (max q.2 (need needs k vars e))) (sym adds) m.0,
        m.1,
        m.2,
        m.3,
      );
}

-- one of them has the first fault of all
pub all_first : (c b d : Checker) (types left more : Option ℕ) (expected : Expected) (all rest : Trees) (e : Tree) (cost : Cost) (error : TypeError)
    → AllSo c b types left all (tree_and e rest) cost → ExpectsNext b.table left expected more → Checks b d false expected e (Err error)
    → (k : Known) (vars : Vars) (ws : List ExpectedTree) → Holds c k → Sees c vars → AreExpected c.table types ws → IsFirstOf (list_faults (place k vars false) ws all) error
all_first c b d types left more expected all rest e cost error so next checks k vars ws holds sees are =
    let q = so.clean k vars ws holds sees are in
    let n = next q.0 q.1 in
    subst (λ l. IsFirstOf l error) (sym (q.2 ∙ n.4 (place k vars false) e rest))
    (first_append (faults (place k vars false) n.0 e) (list_faults (place k vars false) n.1 rest) error (checks.judged k vars n.0 (holds_stays c b k so.keeps.declared holds) (sees_stay c b vars so.keeps sees) n.2))

pub all_failed : (c b d new : Checker) (types left more : Option ℕ) (expected : Expected) (all rest : Trees) (e : Tree) (cost : Cost) (error : TypeError)
    → AllSo c b types left all (tree_and e rest) cost → ExpectsNext b.table left expected more → Checks b d false expected e (Err error) → ChecksAll c new types all (Err error)
all_failed c b d new types left more expected all rest e cost error so next checks = record {
  judged = all_first c b d types left more expected all rest e cost error so next checks;
  counted = λ k vars sizes needs holds sees counts. tt;
  keeps = tt;
  writes = tt;
}

none_of_none : (p : Context) (ws : List ExpectedTree) → list_faults p ws no_trees ≡ []
none_of_none p [] = refl
none_of_none p (w ∷ ws) = refl

counted_end : (cost : Cost) (w s n wa sa na : ℕ) → IsCost cost w s n → wa ≡ w + 0 → sa ≡ s + 0 → na ≡ max n 0 → IsCost cost wa sa na
counted_end cost w s n wa sa na h e f g = record { of_words = h.of_words ∙ ap still (omega (arith, e)); of_size = h.of_size ∙ ap still (omega (arith, f)); of_need = h.of_need ∙ ap still (omega (arith, g)) }

pub all_end : (c new : Checker) (types left : Option ℕ) (all : Trees) (cost : Cost) → AllSo c new types left all no_trees cost → ChecksAll c new types all (Ok cost)
all_end c new types left all cost so = record {
  judged = λ k vars ws holds sees are. let q = so.clean k vars ws holds sees are in q.2 ∙ none_of_none (place k vars false) q.0;
  counted = λ k vars sizes needs holds sees counts. let q = so.counted k vars sizes needs holds sees counts in counted_end cost q.0 q.1 q.2 _ _ _ q.3 q.4 q.5 q.6;
  keeps = so.keeps;
  writes = so.writes.1 ∙ ap (λ l. written_in c ++ l) (sym (append-nil so.writes.0) ∙ sym so.writes.2);
}

-- arguments that were walked without a fault
pub all_parts : (c new : Checker) (types : Option ℕ) (es : Trees) (cost : Cost) (ws : Known → Vars → List ExpectedTree) → ((k : Known) (vars : Vars) → Holds c k → Sees c vars → AreExpected c.table types (ws k vars)) → ChecksAll c new types es (Ok cost)
    → Parts c new cost (λ k vars. list_faults (place k vars false) (ws k vars) es) (λ k vars. words_all k vars es) (λ sizes k vars. expanded_all sizes k vars es) (λ needs k vars. need_all needs k vars es) (variables_all es)
all_parts c new types es cost ws wants checks = record {
  clean = λ k vars holds sees. checks.judged k vars (ws k vars) holds sees (wants k vars holds sees);
  counted = checks.counted;
  keeps = checks.keeps;
  writes = checks.writes;
}

-- ---- the expressions that are left in a list
pub exprs_at : (xs : List Expr) (i : ℕ) (e : Expr) → i < length xs → e ≡ get_or xs i e → list_trees (drop i xs) ≡ tree_and (tree_of e) (list_trees (drop (i + 1) xs))
exprs_at xs i e h is = ap list_trees (drop-cons xs i e h ∙ ap (λ (q : Expr). q ∷ drop (suc i) xs) (sym is) ∙ ap (λ k. e ∷ drop k xs) (sym (add-one i)))

pub exprs_end : (xs : List Expr) (i : ℕ) → length xs ≤ i → list_trees (drop i xs) ≡ no_trees
exprs_end xs i h = ap list_trees (drop_of_length-le xs h)

-- ---- the expressions of a record without their names
abbrev pub unnamed : NamedTrees → Trees
unnamed no_named_trees = no_trees
unnamed (named_tree_and x e es) = tree_and e (unnamed es)

pub named_at : (xs : List (List ℕ × Expr)) (i : ℕ) (e : List ℕ × Expr) → i < length xs → e ≡ get_or xs i e → list_named_trees (drop i xs) ≡ named_tree_and e.0 (tree_of e.1) (list_named_trees (drop (i + 1) xs))
named_at xs i e h is = ap list_named_trees (drop-cons xs i e h ∙ ap (λ (q : List ℕ × Expr). q ∷ drop (suc i) xs) (sym is) ∙ ap (λ k. e ∷ drop k xs) (sym (add-one i)))

pub named_end : (xs : List (List ℕ × Expr)) (i : ℕ) → length xs ≤ i → list_named_trees (drop i xs) ≡ no_named_trees
named_end xs i h = ap list_named_trees (drop_of_length-le xs h)

pub unnamed_faults : (p : Context) (es : NamedTrees) → named_faults p es ≡ list_faults p [] (unnamed es)
unnamed_faults p no_named_trees = refl
unnamed_faults p (named_tree_and x e es) = ap (λ l. faults p a_value e ++ l) (unnamed_faults p es)

pub unnamed_words : (k : Known) (vars : Vars) (es : NamedTrees) → words_named k vars es ≡ words_all k vars (unnamed es)
unnamed_words k vars no_named_trees = refl
unnamed_words k vars (named_tree_and x e es) = ap (λ n. words_at k vars e + n) (unnamed_words k vars es)

pub unnamed_expanded : (sizes : GroupNumbers) (k : Known) (vars : Vars) (es : NamedTrees) → expanded_named sizes k vars es ≡ expanded_all sizes k vars (unnamed es)
unnamed_expanded sizes k vars no_named_trees = refl
unnamed_expanded sizes k vars (named_tree_and x e es) = ap (λ n. expanded sizes k vars e + n) (unnamed_expanded sizes k vars es)

pub unnamed_need : (needs : GroupNumbers) (k : Known) (vars : Vars) (es : NamedTrees) → need_named needs k vars es ≡ need_all needs k vars (unnamed es)
unnamed_need needs k vars no_named_trees = refl
unnamed_need needs k vars (named_tree_and x e es) = ap (λ n. max (need needs k vars e) n) (unnamed_need needs k vars es)

pub unnamed_variables : (es : NamedTrees) → variables_named es ≡ variables_all (unnamed es)
unnamed_variables no_named_trees = refl
unnamed_variables (named_tree_and x e es) = ap (λ l. variables e ++ l) (unnamed_variables es)
