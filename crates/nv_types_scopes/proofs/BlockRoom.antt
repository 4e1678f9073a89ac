-- The needs of a block's steps are those of its statements.
use Rattle.std.proofs.Common.{◌≡◌, ◌∙◌, refl, ap, sym, subst, ℕ, ◌+◌, ◌-◌, ◌≤◌, max, Bool, true, false, cond, List, ◌∷◌, ◌++◌, drop, length, Option, None, Some, arith, append_assoc, append-nil, length-append, []}
use Rattle.std.specs.Prelude.{option_map}
use Rattle.std.specs.Borrow.{Bor}
use Rattle.std.specs.List.{list_any}
use Rattle.std.proofs.lemmas.List.{drop_at, drop-drop}
use Rattle.nv_types_scopes.proofs.BlockCosts.{still_max}
use Rattle.nv_ast.specs.declared.tree.Pat.{Pat}
use Rattle.nv_ast.specs.Tree.{StatementTree, StatementTrees, no_statements, statement_and}
use Rattle.nv_ast.specs.Tests.{is_among}
use Rattle.nv_ast.specs.Scope.{Known, Vars}
use Rattle.nv_ast.specs.Typing.{vars_after}
use Rattle.nv_ast.specs.Sizes.{GroupNumbers, Lets, pending, let_of, lets_behind, need_statement, need_statements, variables_statement, variables_statements}
use Rattle.nv_types_table.specs.declared.needs.Step.{Step}
use Rattle.nv_types_table.specs.inner.Cells.{still}
use Rattle.nv_types_scopes.specs.inner.Blocks.{IsLet}
use Rattle.nv_types_table.specs.inner.Needs.{pattern_lets, step_lets, held_at, block_needs}

-- the steps of some statements, the first of which begins at a place
pub record StepAt (k : Known) (needs : GroupNumbers) (at : ℕ) (vars : Vars) (step : Step) (st : StatementTree) : Type 0 where
  pub of_place : step.before ≡ at
  pub of_need : step.need ≡ still (need_statement needs k vars st)
  pub of_let : IsLet (option_map (λ (p : Bor Pat). p.now) step.pattern) step.words (let_of k vars st)

abbrev pub AreSteps : Known → GroupNumbers → ℕ → Vars → List Step → StatementTrees → Type 0
AreSteps k needs at vars [] no_statements = Unit {0}
AreSteps k needs at vars (step ∷ steps) (statement_and st sts) = StepAt k needs at vars step st × AreSteps k needs (at + length (variables_statement st)) (vars_after k vars st) steps sts
AreSteps k needs at vars _ _ = ⊥

-- lets of the same names, whose words stand still
abbrev pub SameLets : Lets → Lets → Type 0
SameLets [] [] = Unit {0}
SameLets (a ∷ as_) (b ∷ bs) = (a.0 ≡ b.0) × (a.1 ≡ still b.1) × SameLets as_ bs
SameLets _ _ = ⊥

same-append : (as_ bs cs ds : Lets) → SameLets as_ bs → SameLets cs ds → SameLets (as_ ++ cs) (bs ++ ds)
same-append [] [] cs ds h g = g
same-append (a ∷ as_) (b ∷ bs) cs ds h g = (h.0, h.1, same-append as_ bs cs ds h.2 g)
same-append [] (b ∷ bs) cs ds h g = absurd h
same-append (a ∷ as_) [] cs ds h g = absurd h

same_let : (p : Option Pat) (n : ℕ) (lets : Lets) → IsLet p n lets → SameLets (pattern_lets p n) lets
same_let None n lets h = subst (SameLets []) (sym h) tt
same_let (Some p) n lets h = subst (SameLets (pattern_lets (Some p) n)) (sym h.2) (refl, h.1, tt)

still_part : (b : Bool) (x y a c : ℕ) → x ≡ still y → still a ≡ still c → still (cond b x 0 + a) ≡ still (cond b y 0 + c)
still_part true x y a c h g = omega (arith, h, g)
still_part false x y a c h g = omega (arith, g)

same_pending : (as_ bs : Lets) (w : List (List ℕ)) → SameLets as_ bs → still (pending as_ w) ≡ still (pending bs w)
same_pending [] [] w h = refl
same_pending ((names, n) ∷ as_) ((others, m) ∷ bs) w h =
    ap (λ (l : List (List ℕ)). still (cond (list_any (λ x. is_among x w) l) n 0 + pending as_ w)) h.0
    ∙ still_part (list_any (λ x. is_among x w) others) n m (pending as_ w) (pending bs w) h.1 (same_pending as_ bs w h.2)
same_pending [] (b ∷ bs) w h = absurd h
same_pending (a ∷ as_) [] w h = absurd h

still_need : (p q h m n : ℕ) → p ≡ q → still q ≡ still h → m ≡ still n → still (still p + m) ≡ still (h + n)
still_need p q h m n e f g = omega (arith, e, f, g)

max_group : (a b c : ℕ) → max a (max b c) ≡ max (max a b) c
max_group a b c = omega arith

max_none : (n : ℕ) → max 0 n ≡ n
max_none n = omega arith

pub needs_are : (k : Known) (needs : GroupNumbers) (xs : List (List ℕ)) (first at : ℕ) (vars : Vars) (steps : List Step) (sts : StatementTrees) (lets plain : Lets) (written : List (List ℕ)) (last tail_need n : ℕ)
    → first ≤ at → drop (at - first) xs ≡ variables_statements sts ++ written → AreSteps k needs at vars steps sts → SameLets lets plain → last ≡ at + length (variables_statements sts) → tail_need ≡ still n
    → block_needs xs first lets steps last tail_need ≡ still (max (need_statements needs k vars plain sts written) (pending (plain ++ lets_behind k vars sts) written + n))
needs_are k needs xs first at vars [] no_statements lets plain written last tail_need n le left steps same place tail =
    let here : drop (last - first) xs ≡ written = ap (λ m. drop (m - first) xs) (omega (arith, place)) ∙ left in
    let all : pending (plain ++ []) written ≡ pending plain written = ap (λ l. pending l written) (append-nil plain) in
    still_need (pending lets (drop (last - first) xs)) (pending lets written) (pending plain written) tail_need n (ap (pending lets) here) (same_pending lets plain written same) tail
    ∙ ap (λ m. still (m + n)) (sym all)
    ∙ ap still (sym (max_none (pending (plain ++ []) written + n)))
needs_are k needs xs first at vars (step ∷ steps) (statement_and st sts) lets plain written last tail_need n le left is same place tail =
    let size = length (variables_statement st) in
    let all = variables_statement st ++ (variables_statements sts ++ written) in
    let here : drop (step.before - first) xs ≡ all =
    ap (λ m. drop (m - first) xs) is.0.of_place ∙ left ∙ append_assoc (variables_statement st) (variables_statements sts) written
    in
    let one : still (held_at first xs lets step.before + step.need) ≡ still (pending plain all + need_statement needs k vars st) =
    still_need (pending lets (drop (step.before - first) xs)) (pending lets all) (pending plain all) step.need (need_statement needs k vars st) (ap (pending lets) here) (same_pending lets plain all same) is.0.of_need
    in
    let behind : drop ((at + size) - first) xs ≡ variables_statements sts ++ written =
    ap (λ m. drop m xs) (omega (arith, le)) ∙ sym (drop-drop size (at - first) xs) ∙ ap (drop size) (left ∙ append_assoc (variables_statement st) (variables_statements sts) written) ∙ drop_at (variables_statement st) (variables_statements sts ++ written) size refl
    in
    let stop : last ≡ (at + size) + length (variables_statements sts) = omega (arith, place, length-append (variables_statement st) (variables_statements sts)) in
    let rest = needs_are k needs xs first (at + size) (vars_after k vars st) steps sts (lets ++ step_lets step) (plain ++ let_of k vars st) written last tail_need n (omega (arith, le)) behind is.1
    (same-append lets plain (step_lets step) (let_of k vars st) same (same_let (option_map (λ (p : Bor Pat). p.now) step.pattern) step.words (let_of k vars st) is.0.of_let)) stop tail
    in
    let moved : pending ((plain ++ let_of k vars st) ++ lets_behind k (vars_after k vars st) sts) written ≡ pending (plain ++ (let_of k vars st ++ lets_behind k (vars_after k vars st) sts)) written =
    ap (λ l. pending l written) (append_assoc plain (let_of k vars st) (lets_behind k (vars_after k vars st) sts))
    in
    still_max _ _ _ _ one rest
    ∙ ap (λ m. still m) (max_group (pending plain all + need_statement needs k vars st) (need_statements needs k (vars_after k vars st) (plain ++ let_of k vars st) sts written) _)
    ∙ ap (λ m. still (max (max (pending plain all + need_statement needs k vars st) (need_statements needs k (vars_after k vars st) (plain ++ let_of k vars st) sts written)) (m + n))) moved
needs_are k needs xs first at vars [] (statement_and st sts) lets plain written last tail_need n le left is same place tail = absurd is
needs_are k needs xs first at vars (step ∷ steps) no_statements lets plain written last tail_need n le left is same place tail = absurd is
