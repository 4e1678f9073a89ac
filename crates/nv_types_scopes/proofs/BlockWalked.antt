-- The statements of a block, one after another.
use Rattle.std.proofs.Common.{◌≡◌, zero, suc, ◌<◌, get_or, ◌≤◌, ◌∙◌, refl, ap, sym, subst, ℕ, ◌+◌, min, take, false, List, ◌∷◌, ◌++◌, length, Ok, arith, append_assoc, append-nil, length-append, []}
use Rattle.std.proofs.lemmas.List.{take_all}
use Rattle.nv_ast.specs.declared.tree.Stmt.{Stmt}
use Rattle.nv_ast.specs.ExprView.{statement_tree, list_statements}
use Rattle.nv_ast.specs.Height.{statement_height, highest_statement}
use Rattle.nv_ast.specs.Scope.{Known, Vars}
use Rattle.nv_ast.specs.Typing.{vars_after, vars_behind}
use Rattle.nv_ast.specs.Faults.{statement_faults, statements_faults}
use Rattle.nv_ast.specs.Sizes.{GroupNumbers, expanded_statement, expanded_statements, variables_statement, variables_statements}
use Rattle.nv_ast.proofs.Items.{take_item}
use Rattle.nv_types_table.specs.declared.needs.Step.{Step}
use Rattle.nv_types_scopes.specs.declared.functions.Checker.{Checker}
use Rattle.nv_types_table.specs.inner.Cells.{most, still}
use Rattle.nv_types_scopes.specs.inner.Blocks.{ChecksStatement}
use Rattle.nv_types_scopes.specs.inner.Standing.{Holds, Sees, Counts, KeepsDeclared, place, written_in}
use Rattle.nv_types_scopes.proofs.Holding.{holds_stays, counts_stay, declared_refl, declared_trans}
use Rattle.nv_types_scopes.proofs.BlockStanding.{writes_trans}
use Rattle.nv_types_scopes.proofs.BlockRoom.{StepAt, AreSteps}

variables-append : (xs : List Stmt) (st : Stmt) → variables_statements (list_statements (xs ++ st ∷ [])) ≡ variables_statements (list_statements xs) ++ variables_statement (statement_tree st)
variables-append [] st = append-nil (variables_statement (statement_tree st))
variables-append (x ∷ xs) st =
    ap (λ l. variables_statement (statement_tree x) ++ l) (variables-append xs st) ∙ sym (append_assoc (variables_statement (statement_tree x)) (variables_statements (list_statements xs)) (variables_statement (statement_tree st)))

vars-append : (k : Known) (vars : Vars) (xs : List Stmt) (st : Stmt) → vars_behind k vars (list_statements (xs ++ st ∷ [])) ≡ vars_after k (vars_behind k vars (list_statements xs)) (statement_tree st)
vars-append k vars [] st = refl
vars-append k vars (x ∷ xs) st = vars-append k (vars_after k vars (statement_tree x)) xs st

pub faults-append : (k : Known) (vars : Vars) (xs ys : List Stmt)
    → statements_faults (place k vars false) (list_statements (xs ++ ys)) ≡ statements_faults (place k vars false) (list_statements xs) ++ statements_faults (place k (vars_behind k vars (list_statements xs)) false) (list_statements ys)
faults-append k vars [] ys = refl
faults-append k vars (x ∷ xs) ys =
    let st = statement_tree x in
    ap (λ l. statement_faults (place k vars false) st ++ l) (faults-append k (vars_after k vars st) xs ys)
    ∙ sym (append_assoc (statement_faults (place k vars false) st) (statements_faults (place k (vars_after k vars st) false) (list_statements xs)) (statements_faults (place k (vars_behind k (vars_after k vars st) (list_statements xs)) false) (list_statements ys)))

expanded-append : (sizes : GroupNumbers) (k : Known) (vars : Vars) (xs : List Stmt) (st : Stmt)
    → expanded_statements sizes k vars (list_statements (xs ++ st ∷ [])) ≡ expanded_statements sizes k vars (list_statements xs) + expanded_statement sizes k (vars_behind k vars (list_statements xs)) (statement_tree st)
expanded-append sizes k vars [] st = omega arith
expanded-append sizes k vars (x ∷ xs) st =
    ap (λ n. expanded_statement sizes k vars (statement_tree x) + n) (expanded-append sizes k (vars_after k vars (statement_tree x)) xs st)
    ∙ grouped (expanded_statement sizes k vars (statement_tree x)) _ _
  where
    grouped : (a b c : ℕ) → a + (b + c) ≡ (a + b) + c
    grouped a b c = omega arith

steps-push : (k : Known) (needs : GroupNumbers) (at : ℕ) (vars : Vars) (steps : List Step) (xs : List Stmt) (step : Step) (st : Stmt)
    → AreSteps k needs at vars steps (list_statements xs) → StepAt k needs (at + length (variables_statements (list_statements xs))) (vars_behind k vars (list_statements xs)) step (statement_tree st)
    → AreSteps k needs at vars (steps ++ step ∷ []) (list_statements (xs ++ st ∷ []))
steps-push k needs at vars [] [] step st h g = (moved at step st (omega arith) g, tt)
  where
    moved : (n : ℕ) (x : Step) (y : Stmt) → n + 0 ≡ n → StepAt k needs (n + 0) vars x (statement_tree y) → StepAt k needs n vars x (statement_tree y)
    moved n x y e f = subst (λ m. StepAt k needs m vars x (statement_tree y)) e f
steps-push k needs at vars (s ∷ steps) (x ∷ xs) step st h g =
    let size = length (variables_statement (statement_tree x)) in
    let e : at + length (variables_statement (statement_tree x) ++ variables_statements (list_statements xs)) ≡ (at + size) + length (variables_statements (list_statements xs)) =
    omega (arith, length-append (variables_statement (statement_tree x)) (variables_statements (list_statements xs)))
    in (
      h.0,
      steps-push k needs (at + size) (vars_after k vars (statement_tree x)) steps xs step st h.1
          (subst (λ m. StepAt k needs m (vars_behind k (vars_after k vars (statement_tree x)) (list_statements xs)) step (statement_tree st)) e g),
    )
steps-push k needs at vars [] (x ∷ xs) step st h g = absurd h
steps-push k needs at vars (s ∷ steps) [] step st h g = absurd h

-- a walk that has come after some statements
pub record Behind (c now : Checker) (xs : List Stmt) (steps : List Step) (size : ℕ) : Type 0 where
  pub declared : KeepsDeclared c now
  pub newer : List (List ℕ × ℕ)
  pub behind : now.scope ≡ newer ++ c.scope
  pub writes : written_in now ≡ written_in c ++ variables_statements (list_statements xs)
  pub judged : (k : Known) (vars : Vars) → Holds c k → Sees c vars → statements_faults (place k vars false) (list_statements xs) ≡ []
  pub sees : (k : Known) (vars : Vars) → Holds c k → Sees c vars → Sees now (vars_behind k vars (list_statements xs))
  pub counted : (k : Known) (vars : Vars) (sizes needs : GroupNumbers) → Holds c k → Sees c vars → Counts c sizes needs → size ≡ still (expanded_statements sizes k vars (list_statements xs))
  pub stepped : (k : Known) (vars : Vars) (sizes needs : GroupNumbers) → Holds c k → Sees c vars → Counts c sizes needs → AreSteps k needs (length (written_in c)) vars steps (list_statements xs)

pub behind_none : (c : Checker) → Behind c c [] [] 0
behind_none c = record {
  declared = declared_refl c;
  newer = [];
  behind = refl;
  writes = sym (append-nil (written_in c));
  judged = λ k vars holds sees. refl;
  sees = λ k vars holds sees. sees;
  counted = λ k vars sizes needs holds sees counts. refl;
  stepped = λ k vars sizes needs holds sees counts. tt;
}

sum_is : (a b x y : ℕ) → a ≡ still x → b ≡ still y → min (a + b) most ≡ still (x + y)
sum_is a b x y h g = omega (arith, h, g)

pub behind_more : (c now next : Checker) (xs : List Stmt) (steps : List Step) (size : ℕ) (st : Stmt) (step : Step) (cost new : ℕ)
    → Behind c now xs steps size → ChecksStatement now next (statement_tree st) (Ok (step, cost)) → new ≡ min (size + cost) most
    → Behind c next (xs ++ st ∷ []) (steps ++ step ∷ []) new
behind_more c now next xs steps size st step cost new was one fresh = record {
  declared = declared_trans c now next was.declared one.declared;
  newer = one.behind.0 ++ was.newer;
  behind = one.behind.1 ∙ ap (λ (l : List (List ℕ × ℕ)). one.behind.0 ++ l) was.behind ∙ sym (append_assoc one.behind.0 was.newer c.scope);
  writes =
      writes_trans (written_in c) (written_in now) (written_in next) (variables_statements (list_statements xs)) (variables_statement (statement_tree st)) was.writes one.writes
      ∙ ap (λ (l : List (List ℕ)). written_in c ++ l) (sym (variables-append xs st));
  judged = λ k vars holds sees.
      let here = one.judged k (vars_behind k vars (list_statements xs)) (holds_stays c now k was.declared holds) (was.sees k vars holds sees) in
      faults-append k vars xs (st ∷ [])
      ∙ ap (λ l. l ++ statements_faults (place k (vars_behind k vars (list_statements xs)) false) (list_statements (st ∷ []))) (was.judged k vars holds sees)
      ∙ ap (λ l. l ++ []) here;
  sees = λ k vars holds sees.
      subst (Sees next) (sym (vars-append k vars xs st))
      (one.sees k (vars_behind k vars (list_statements xs)) (holds_stays c now k was.declared holds) (was.sees k vars holds sees));
  counted = λ k vars sizes needs holds sees counts.
      let here = one.counted k (vars_behind k vars (list_statements xs)) sizes needs (holds_stays c now k was.declared holds) (was.sees k vars holds sees) (counts_stay c now sizes needs was.declared counts) in
      fresh ∙ sum_is size cost _ _ (was.counted k vars sizes needs holds sees counts) here.1 ∙ ap still (sym (expanded-append sizes k vars xs st));
  stepped = λ k vars sizes needs holds sees counts.
      let here = one.counted k (vars_behind k vars (list_statements xs)) sizes needs (holds_stays c now k was.declared holds) (was.sees k vars holds sees) (counts_stay c now sizes needs was.declared counts) in
      steps-push k needs (length (written_in c)) vars steps xs step st (was.stepped k vars sizes needs holds sees counts) (record {
        of_place = here.0.of_place ∙ ap length was.writes ∙ length-append (written_in c) (variables_statements (list_statements xs));
        of_need = here.0.of_need;
        of_let = here.0.of_let;
      });
}

-- all statements
pub behind_all : (c now : Checker) (xs : List Stmt) (i : ℕ) (steps : List Step) (size : ℕ) → length xs ≤ i → Behind c now (take i xs) steps size → Behind c now xs steps size
behind_all c now xs i steps size past was = subst (λ (l : List Stmt). Behind c now l steps size) (take_all i xs past) was

-- what was written before stays
pub behind_inside : (c now next : Checker) (xs : List Stmt) (steps : List Step) (size first : ℕ) (y : List (List ℕ)) → Behind c now xs steps size → written_in next ≡ written_in now ++ y → first ≡ length (written_in c) → first ≤ length (written_in next)
behind_inside c now next xs steps size first y was e from =
    omega (arith, from, ap length e, ap length was.writes, length-append (written_in now) y, length-append (written_in c) (variables_statements (list_statements xs)))

-- no statement is higher than the highest
pub statement_within : (xs : List Stmt) (i : ℕ) (st : Stmt) → i < length xs → st ≡ get_or xs i st → statement_height (statement_tree st) ≤ highest_statement (list_statements xs)
statement_within [] i st h e = absurd (omega (arith, h))
statement_within (x ∷ xs) zero st h e = omega (arith, ap (λ (y : Stmt). statement_height (statement_tree y)) e)
statement_within (x ∷ xs) (suc i) st h e = omega (arith, statement_within xs i st (omega (arith, h)) e)

-- one more item of the list
pub behind_next : (c now next : Checker) (sts : List Stmt) (i : ℕ) (st : Stmt) (steps grown : List Step) (size : ℕ) (step : Step) (cost new : ℕ)
    → i < length sts → st ≡ get_or sts i st → Behind c now (take i sts) steps size → ChecksStatement now next (statement_tree st) (Ok (step, cost)) → grown ≡ steps ++ step ∷ [] → new ≡ min (size + cost) most
    → Behind c next (take (i + 1) sts) grown new
behind_next c now next sts i st steps grown size step cost new lt e was one pushed fresh =
    subst (λ (l : List Stmt). Behind c next l grown new) (sym (take_item sts i st lt e))
    (subst (λ (l : List Step). Behind c next (take i sts ++ st ∷ []) l new) (sym pushed) (behind_more c now next (take i sts) steps size st step cost new was one fresh))
