-- One lemma for each way out of a function of the interpreter's cycle, over plain variables.
use Rattle.std.proofs.Common.{◌≡◌, ℕ, List, [], ◌∷◌, ◌++◌, refl, sym, ap, ◌∙◌, subst, Result as Answer, Ok, Err, Vec, Global, Bor}
use Rattle.nv_base.specs.declared.term.Mem.{Mem}
use Rattle.nv_ast.specs.declared.token.Span.{Span}
use Rattle.nv_ast.specs.declared.tree.Expr.{Expr}
use Rattle.nv_ast.specs.declared.tree.Stmt.{Stmt}
use Rattle.nv_ast.specs.ExprView.{tree_of, list_trees, list_named_trees, list_statements, statement_tree}
use Rattle.nv_ast.specs.Tree.{Tree, Trees, NamedTrees, PatternTree}
use Rattle.nv_meaning_values.specs.Values.{Value, Tuple, Record, Values, Scope, word_of, words_of, matched}
use Rattle.nv_meaning_values.specs.Running.{Running, Result, Gives, Raises, Stated, GoesOn, and_then, and_all, and_named, and_further, then_more, then_named, then_stated, before_rest, before_named, store}
use Rattle.nv_meaning.specs.Meaning.{Declared, Calls, eval, eval_all, eval_named, run_one, run_all}
use Rattle.nv_meaning_values.specs.declared.value.Value as code
use Rattle.nv_meaning.specs.declared.step.Step.{Step}
use Rattle.nv_meaning.specs.declared.step.Step.TheVariants.{Done, Again}
use Rattle.nv_meaning_values.specs.declared.stop.Interruption.{Interruption}
use Rattle.nv_meaning_values.specs.declared.stop.Interruption.TheVariants.{NoMemory, Raised}
use Rattle.nv_meaning_values.specs.inner.View.{Named, view, list_values, scope_of}
use Rattle.nv_meaning.specs.inner.Ran.{At, Ran, Interrupted, Grown, IsStep, IsValue, AreValues, AreFields, IsScope, all_result, named_result, stated_result, RanStep, RanValue, RanValues, RanFields, RanScope}
use Rattle.nv_meaning_values.proofs.Rows.{tuple_view, record_view}
use Rattle.nv_meaning.proofs.Grows.{Growing, grown-here, grown-before, grown-before_named, grown-store, grown-statement, eval-grows, all-grows, named-grows, statements-grow}
use Rattle.nv_meaning.proofs.Moments.{ran-here, ran-as, ran-then}
use Rattle.nv_meaning.proofs.Stops.{stop-then, stop-all, stop-named, stop-further, stop-more, stop-more_named, stop-statement, ahead, ahead-more, ahead-all, stop-ahead, ahead_named, ahead_named-more, ahead_named-all, stop-ahead_named}

-- ---- equal results
pub step-as : (call : Calls) (answer : Answer Step Interruption) (now : Running) (r r' : Result) → r' ≡ r → IsStep call answer now r → IsStep call answer now r'
step-as call answer now r r' e h = subst (λ x. IsStep call answer now x) (sym e) h

pub value-as : (answer : Answer code.Value Interruption) (now : Running) (r r' : Result) → r' ≡ r → IsValue answer now r → IsValue answer now r'
value-as answer now r r' e h = subst (λ x. IsValue answer now x) (sym e) h

pub scope-as : (answer : Answer (Unit {0}) Interruption) (s : Scope) (now : Running) (r r' : Stated) → r' ≡ r → IsScope answer s now r → IsScope answer s now r'
scope-as answer s now r r' e h = subst (λ x. IsScope answer s now x) (sym e) h

-- the same of an expression in an equal scope
pub in-scope : (d : Declared) (a b : At) (answer : Answer Step Interruption) (t : Tree) (xs ys : List Named) → xs ≡ ys → RanStep d a b answer (λ call now. eval d call t (scope_of xs []) now) → RanStep d a b answer (λ call now. eval d call t (scope_of ys []) now)
in-scope d a b answer t xs ys e h = subst (λ l. RanStep d a b answer (λ call now. eval d call t (scope_of l []) now)) e h

pub in-scope_value : (d : Declared) (a b : At) (answer : Answer code.Value Interruption) (t : Tree) (xs ys : List Named) → xs ≡ ys → RanValue d a b answer (λ call now. eval d call t (scope_of xs []) now) → RanValue d a b answer (λ call now. eval d call t (scope_of ys []) now)
in-scope_value d a b answer t xs ys e h = subst (λ l. RanValue d a b answer (λ call now. eval d call t (scope_of l []) now)) e h

-- the same of an equal expression
pub of-tree : (d : Declared) (a b : At) (answer : Answer Step Interruption) (s : Scope) (t t' : Tree) → t ≡ t' → RanStep d a b answer (λ call now. eval d call t' s now) → RanStep d a b answer (λ call now. eval d call t s now)
of-tree d a b answer s t t' e h = subst (λ x. RanStep d a b answer (λ call now. eval d call x s now)) (sym e) h

-- the same answer
pub of-step : (d : Declared) (a b : At) (step step' : Step) (r : Calls → Running → Result) → step ≡ step' → RanStep d a b (Ok step) r → RanStep d a b (Ok step') r
of-step d a b step step' r e h = subst (λ x. RanStep d a b (Ok x) r) e h

pub of-stop : (d : Declared) (a b : At) (stop stop' : Interruption) (r : Calls → Running → Result) → stop ≡ stop' → RanValue d a b (Err stop) r → RanValue d a b (Err stop') r
of-stop d a b stop stop' r e h = subst (λ x. RanValue d a b (Err x) r) e h

-- ---- what follows a value
module _ (d : Declared) (a b : At) (m : Calls → Running → Result) (k : Calls → Value → Running → Result) where
  pub then-stop : (stop : Interruption) → ((call : Calls) → Growing call → (v : Value) (now : Running) → Grown now (k call v now)) → RanValue d a b (Err stop) m → RanStep d a b (Err stop) (λ call now. and_then (m call now) (k call))
  then-stop stop g h = ran-as d a b (λ call now last. IsValue (Err stop) last (m call now)) (λ call now last. IsStep call (Err stop) last (and_then (m call now) (k call))) (λ call grows x y same p. stop-then stop y (m call x) (k call) (g call grows) p) h

  pub then-step : (e : At) (v : code.Value) (answer : Answer Step Interruption) → RanValue d a b (Ok v) m → RanStep d b e answer (λ call now. k call (view v) now) → RanStep d a e answer (λ call now. and_then (m call now) (k call))
  then-step e v answer h n = ran-then d a b e (λ call now last. IsValue (Ok v) last (m call now)) (λ call now last. IsStep call answer last (k call (view v) now)) (λ call now last. IsStep call answer last (and_then (m call now) (k call))) (λ call grows x y z p q. step-as call answer z (k call (view v) y) (and_then (m call x) (k call)) (ap (λ r. and_then r (k call)) p) q) h n

  pub then-here : (v : code.Value) (answer : Answer Step Interruption) → RanValue d a b (Ok v) m → ((call : Calls) → Growing call → (now : Running) → now.packet ≡ b.packet → IsStep call answer now (k call (view v) now)) → RanStep d a b answer (λ call now. and_then (m call now) (k call))
  then-here v answer h n = ran-as d a b (λ call now last. IsValue (Ok v) last (m call now)) (λ call now last. IsStep call answer last (and_then (m call now) (k call))) (λ call grows x y same p. step-as call answer y (k call (view v) y) (and_then (m call x) (k call)) (ap (λ r. and_then r (k call)) p) (n call grows y same)) h

-- ---- an expression with the calls in its place made
pub settled-again : (d : Declared) (a b e : At) (r : Calls → Running → Result) (f : Bor (List ℕ)) (vs : Vec code.Value Global) (answer : Answer code.Value Interruption) → RanStep d a b (Ok (Again f vs)) r → RanValue d b e answer (λ call now. call f.now (list_values vs.items) now) → RanValue d a e answer r
settled-again d a b e r f vs answer h n = ran-then d a b e (λ call now last. IsStep call (Ok (Again f vs)) last (r call now)) (λ call now last. IsValue answer last (call f.now (list_values vs.items) now)) (λ call now last. IsValue answer last (r call now)) (λ call grows x y z p q. value-as answer z (call f.now (list_values vs.items) y) (r call x) p q) h n

-- ---- expressions one after another
module _ (d : Declared) (s : Scope) (es : List Expr) where
  -- what came to the values so far, and what is left
  abbrev pub Front : At → At → List code.Value → List Expr → Type 0
  Front a b vs rest = Ran d a b (λ call x y. eval_all d call (list_trees es) s x ≡ ahead vs (eval_all d call (list_trees rest) s y))

  pub front-none : (a : At) → Front a a [] es
  front-none a = ran-here d a (λ call x y. eval_all d call (list_trees es) s x ≡ ahead [] (eval_all d call (list_trees es) s y)) (λ call grows x same. refl)

  pub front-more : (a b e : At) (vs : List code.Value) (rest rest' : List Expr) (t : Expr) (v : code.Value) → rest ≡ t ∷ rest' → Front a b vs rest → RanValue d b e (Ok v) (λ call now. eval d call (tree_of t) s now) → Front a e (vs ++ v ∷ []) rest'
  front-more a b e vs rest rest' t v is h n = ran-then d a b e (λ call x y. eval_all d call (list_trees es) s x ≡ ahead vs (eval_all d call (list_trees rest) s y)) (λ call now last. IsValue (Ok v) last (eval d call (tree_of t) s now)) (λ call x z. eval_all d call (list_trees es) s x ≡ ahead (vs ++ v ∷ []) (eval_all d call (list_trees rest') s z))
      (λ call grows x y z p q. p
      ∙ ap (λ l. ahead vs (eval_all d call (list_trees l) s y)) is
      ∙ ap (λ r. ahead vs (then_more r (λ w next. before_rest w (eval_all d call (list_trees rest') s next)))) q
      ∙ sym (ahead-more vs v (eval_all d call (list_trees rest') s z)))
      h n

  pub front-all : (a b : At) (vs : Vec code.Value Global) (rest : List Expr) → rest ≡ [] → Front a b vs.items rest → RanValues d a b (Ok vs) (λ call now. eval_all d call (list_trees es) s now)
  front-all a b vs rest is h = ran-as d a b (λ call x y. eval_all d call (list_trees es) s x ≡ ahead vs.items (eval_all d call (list_trees rest) s y)) (λ call x y. AreValues (Ok vs) y (eval_all d call (list_trees es) s x))
      (λ call grows x y same p. p ∙ ap (λ l. ahead vs.items (eval_all d call (list_trees l) s y)) is ∙ ahead-all vs.items y) h

  pub front-stop : (a b e : At) (vs : List code.Value) (rest rest' : List Expr) (t : Expr) (stop : Interruption) → rest ≡ t ∷ rest' → Front a b vs rest → RanValue d b e (Err stop) (λ call now. eval d call (tree_of t) s now) → RanValues d a e (Err stop) (λ call now. eval_all d call (list_trees es) s now)
  front-stop a b e vs rest rest' t stop is h n = ran-then d a b e (λ call x y. eval_all d call (list_trees es) s x ≡ ahead vs (eval_all d call (list_trees rest) s y)) (λ call now last. IsValue (Err stop) last (eval d call (tree_of t) s now)) (λ call x z. AreValues (Err stop) z (eval_all d call (list_trees es) s x))
      (λ call grows x y z p q. subst (λ r. Interrupted stop z (all_result r)) (sym (p ∙ ap (λ l. ahead vs (eval_all d call (list_trees l) s y)) is))
      (stop-ahead stop z vs (then_more (eval d call (tree_of t) s y) (λ w next. before_rest w (eval_all d call (list_trees rest') s next))) (stop-more stop z (eval d call (tree_of t) s y) (λ w next. before_rest w (eval_all d call (list_trees rest') s next)) (λ w next. grown-before next w (eval_all d call (list_trees rest') s next) (all-grows d call grows (list_trees rest') s next)) q)))
      h n

  pub front-short : (a b : At) (vs : List code.Value) (rest : List Expr) → Front a b vs rest → RanValues d a b (Err NoMemory) (λ call now. eval_all d call (list_trees es) s now)
  front-short a b vs rest h = ran-as d a b (λ call x y. eval_all d call (list_trees es) s x ≡ ahead vs (eval_all d call (list_trees rest) s y)) (λ call x y. AreValues (Err NoMemory) y (eval_all d call (list_trees es) s x))
      (λ call grows x y same p. subst (λ r. Interrupted NoMemory y (all_result r)) (sym p) (stop-ahead NoMemory y vs (eval_all d call (list_trees rest) s y) (all-grows d call grows (list_trees rest) s y))) h

-- ---- expressions with names
module _ (d : Declared) (s : Scope) (es : List (List ℕ × Expr)) where
  abbrev pub FrontNamed : At → At → List Named → List (List ℕ × Expr) → Type 0
  FrontNamed a b fs rest = Ran d a b (λ call x y. eval_named d call (list_named_trees es) s x ≡ ahead_named fs (eval_named d call (list_named_trees rest) s y))

  pub named-none : (a : At) → FrontNamed a a [] es
  named-none a = ran-here d a (λ call x y. eval_named d call (list_named_trees es) s x ≡ ahead_named [] (eval_named d call (list_named_trees es) s y)) (λ call grows x same. refl)

  pub named-more : (a b e : At) (fs : List Named) (rest rest' : List (List ℕ × Expr)) (t : List ℕ × Expr) (f : Named) → f.0.now ≡ t.0 → rest ≡ t ∷ rest' → FrontNamed a b fs rest → RanValue d b e (Ok f.1) (λ call now. eval d call (tree_of t.1) s now) → FrontNamed a e (fs ++ f ∷ []) rest'
  named-more a b e fs rest rest' t f name is h n = ran-then d a b e (λ call x y. eval_named d call (list_named_trees es) s x ≡ ahead_named fs (eval_named d call (list_named_trees rest) s y)) (λ call now last. IsValue (Ok f.1) last (eval d call (tree_of t.1) s now)) (λ call x z. eval_named d call (list_named_trees es) s x ≡ ahead_named (fs ++ f ∷ []) (eval_named d call (list_named_trees rest') s z))
      (λ call grows x y z p q. p
      ∙ ap (λ l. ahead_named fs (eval_named d call (list_named_trees l) s y)) is
      ∙ ap (λ r. ahead_named fs (then_named r (λ w next. before_named t.0 w (eval_named d call (list_named_trees rest') s next)))) q
      ∙ ap (λ l. ahead_named fs (before_named l (view f.1) (eval_named d call (list_named_trees rest') s z))) (sym name)
      ∙ sym (ahead_named-more fs f (eval_named d call (list_named_trees rest') s z)))
      h n

  pub named-all : (a b : At) (fs : Vec Named Global) (rest : List (List ℕ × Expr)) → rest ≡ [] → FrontNamed a b fs.items rest → RanFields d a b (Ok fs) (λ call now. eval_named d call (list_named_trees es) s now)
  named-all a b fs rest is h = ran-as d a b (λ call x y. eval_named d call (list_named_trees es) s x ≡ ahead_named fs.items (eval_named d call (list_named_trees rest) s y)) (λ call x y. AreFields (Ok fs) y (eval_named d call (list_named_trees es) s x))
      (λ call grows x y same p. p ∙ ap (λ l. ahead_named fs.items (eval_named d call (list_named_trees l) s y)) is ∙ ahead_named-all fs.items y) h

  pub named-stop : (a b e : At) (fs : List Named) (rest rest' : List (List ℕ × Expr)) (t : List ℕ × Expr) (stop : Interruption) → rest ≡ t ∷ rest' → FrontNamed a b fs rest → RanValue d b e (Err stop) (λ call now. eval d call (tree_of t.1) s now) → RanFields d a e (Err stop) (λ call now. eval_named d call (list_named_trees es) s now)
  named-stop a b e fs rest rest' t stop is h n = ran-then d a b e (λ call x y. eval_named d call (list_named_trees es) s x ≡ ahead_named fs (eval_named d call (list_named_trees rest) s y)) (λ call now last. IsValue (Err stop) last (eval d call (tree_of t.1) s now)) (λ call x z. AreFields (Err stop) z (eval_named d call (list_named_trees es) s x))
      (λ call grows x y z p q. subst (λ r. Interrupted stop z (named_result r)) (sym (p ∙ ap (λ l. ahead_named fs (eval_named d call (list_named_trees l) s y)) is))
      (stop-ahead_named stop z fs (then_named (eval d call (tree_of t.1) s y) (λ w next. before_named t.0 w (eval_named d call (list_named_trees rest') s next))) (stop-more_named stop z (eval d call (tree_of t.1) s y) (λ w next. before_named t.0 w (eval_named d call (list_named_trees rest') s next)) (λ w next. grown-before_named next t.0 w (eval_named d call (list_named_trees rest') s next) (named-grows d call grows (list_named_trees rest') s next)) q)))
      h n

  pub named-short : (a b : At) (fs : List Named) (rest : List (List ℕ × Expr)) → FrontNamed a b fs rest → RanFields d a b (Err NoMemory) (λ call now. eval_named d call (list_named_trees es) s now)
  named-short a b fs rest h = ran-as d a b (λ call x y. eval_named d call (list_named_trees es) s x ≡ ahead_named fs (eval_named d call (list_named_trees rest) s y)) (λ call x y. AreFields (Err NoMemory) y (eval_named d call (list_named_trees es) s x))
      (λ call grows x y same p. subst (λ r. Interrupted NoMemory y (named_result r)) (sym p) (stop-ahead_named NoMemory y fs (eval_named d call (list_named_trees rest) s y) (named-grows d call grows (list_named_trees rest) s y))) h

-- ---- statements
module _ (d : Declared) (s : Scope) (sts : List Stmt) where
  -- the statements so far led to this scope
  abbrev pub Led : At → At → Scope → List Stmt → Type 0
  Led a b now_s rest = Ran d a b (λ call x y. run_all d call (list_statements sts) s x ≡ run_all d call (list_statements rest) now_s y)

  pub led-none : (a : At) → Led a a s sts
  led-none a = ran-here d a (λ call x y. run_all d call (list_statements sts) s x ≡ run_all d call (list_statements sts) s y) (λ call grows x same. refl)

  pub led-more : (a b e : At) (s1 s2 : Scope) (rest rest' : List Stmt) (st : Stmt) → rest ≡ st ∷ rest' → Led a b s1 rest → RanScope d b e (Ok tt) s2 (λ call now. run_one d call (statement_tree st) s1 now) → Led a e s2 rest'
  led-more a b e s1 s2 rest rest' st is h n = ran-then d a b e (λ call x y. run_all d call (list_statements sts) s x ≡ run_all d call (list_statements rest) s1 y) (λ call now last. IsScope (Ok tt) s2 last (run_one d call (statement_tree st) s1 now)) (λ call x z. run_all d call (list_statements sts) s x ≡ run_all d call (list_statements rest') s2 z)
      (λ call grows x y z p q. p ∙ ap (λ l. run_all d call (list_statements l) s1 y) is ∙ ap (λ r. and_further r (λ inner next. run_all d call (list_statements rest') inner next)) q) h n

  pub led-all : (a b : At) (s1 : Scope) (rest : List Stmt) → rest ≡ [] → Led a b s1 rest → RanScope d a b (Ok tt) s1 (λ call now. run_all d call (list_statements sts) s now)
  led-all a b s1 rest is h = ran-as d a b (λ call x y. run_all d call (list_statements sts) s x ≡ run_all d call (list_statements rest) s1 y) (λ call x y. IsScope (Ok tt) s1 y (run_all d call (list_statements sts) s x)) (λ call grows x y same p. p ∙ ap (λ l. run_all d call (list_statements l) s1 y) is) h

  pub led-stop : (a b e : At) (s1 s2 : Scope) (rest rest' : List Stmt) (st : Stmt) (stop : Interruption) → rest ≡ st ∷ rest' → Led a b s1 rest → RanScope d b e (Err stop) s2 (λ call now. run_one d call (statement_tree st) s1 now) → RanScope d a e (Err stop) s2 (λ call now. run_all d call (list_statements sts) s now)
  led-stop a b e s1 s2 rest rest' st stop is h n = ran-then d a b e (λ call x y. run_all d call (list_statements sts) s x ≡ run_all d call (list_statements rest) s1 y) (λ call now last. IsScope (Err stop) s2 last (run_one d call (statement_tree st) s1 now)) (λ call x z. IsScope (Err stop) s2 z (run_all d call (list_statements sts) s x))
      (λ call grows x y z p q. subst (λ r. Interrupted stop z (stated_result r)) (sym (p ∙ ap (λ l. run_all d call (list_statements l) s1 y) is))
      (stop-further stop z (run_one d call (statement_tree st) s1 y) (λ inner next. run_all d call (list_statements rest') inner next) (λ inner next. statements-grow d call grows (list_statements rest') inner next) q))
      h n

-- ---- one statement
module _ (d : Declared) (a b : At) (m : Calls → Running → Result) (k : Calls → Value → Running → Stated) where
  pub stated-stop : (s : Scope) (stop : Interruption) → ((call : Calls) → Growing call → (v : Value) (now : Running) → Grown now (stated_result (k call v now))) → RanValue d a b (Err stop) m → RanScope d a b (Err stop) s (λ call now. then_stated (m call now) (k call))
  stated-stop s stop g h = ran-as d a b (λ call now last. IsValue (Err stop) last (m call now)) (λ call now last. IsScope (Err stop) s last (then_stated (m call now) (k call))) (λ call grows x y same p. stop-statement stop y (m call x) (k call) (g call grows) p) h

  pub stated-next : (e : At) (s : Scope) (v : code.Value) (answer : Answer (Unit {0}) Interruption) → RanValue d a b (Ok v) m → RanScope d b e answer s (λ call now. k call (view v) now) → RanScope d a e answer s (λ call now. then_stated (m call now) (k call))
  stated-next e s v answer h n = ran-then d a b e (λ call now last. IsValue (Ok v) last (m call now)) (λ call now last. IsScope answer s last (k call (view v) now)) (λ call now last. IsScope answer s last (then_stated (m call now) (k call))) (λ call grows x y z p q. scope-as answer s z (k call (view v) y) (then_stated (m call x) (k call)) (ap (λ r. then_stated r (k call)) p) q) h n

  pub stated-here : (s : Scope) (v : code.Value) (answer : Answer (Unit {0}) Interruption) → RanValue d a b (Ok v) m → ((call : Calls) → Growing call → (now : Running) → IsScope answer s now (k call (view v) now)) → RanScope d a b answer s (λ call now. then_stated (m call now) (k call))
  stated-here s v answer h n = ran-as d a b (λ call now last. IsValue (Ok v) last (m call now)) (λ call now last. IsScope answer s last (then_stated (m call now) (k call))) (λ call grows x y same p. scope-as answer s y (k call (view v) y) (then_stated (m call x) (k call)) (ap (λ r. then_stated r (k call)) p) (n call grows y)) h

-- a let, whose value gets its names
module _ (d : Declared) (a b : At) (p : PatternTree) (t : Tree) (s : Scope) where
  abbrev letting : Calls → Value → Running → Stated
  letting call v next = GoesOn (matched p v s) next

  pub let-stop : (s' : Scope) (stop : Interruption) → RanValue d a b (Err stop) (λ call now. eval d call t s now) → RanScope d a b (Err stop) s' (λ call now. then_stated (eval d call t s now) (λ v next. GoesOn (matched p v s) next))
  let-stop s' stop h = stated-stop d a b (λ call now. eval d call t s now) letting s' stop (λ call grows v now. grown-here now _ refl) h

  pub let-short : (s' : Scope) (v : code.Value) → RanValue d a b (Ok v) (λ call now. eval d call t s now) → RanScope d a b (Err NoMemory) s' (λ call now. then_stated (eval d call t s now) (λ v next. GoesOn (matched p v s) next))
  let-short s' v h = stated-here d a b (λ call now. eval d call t s now) letting s' v (Err NoMemory) h (λ call grows now. grown-here now _ refl)

  pub let-done : (s' : Scope) (v : code.Value) → s' ≡ matched p (view v) s → RanValue d a b (Ok v) (λ call now. eval d call t s now) → RanScope d a b (Ok tt) s' (λ call now. then_stated (eval d call t s now) (λ v next. GoesOn (matched p v s) next))
  let-done s' v e h = stated-here d a b (λ call now. eval d call t s now) letting s' v (Ok tt) h (λ call grows now. ap (λ z. GoesOn z now) (sym e))

-- a store: the address, the value, the write
module _ (d : Declared) (a b : At) (text : Span) (m : Mem) (t u : Tree) (s : Scope) where
  abbrev storing : Calls → Value → Running → Stated
  storing call v next = then_stated (eval d call u s next) (λ w last. store text s m (word_of v) (words_of w) last)

  pub store-stop : (s' : Scope) (stop : Interruption) → RanValue d a b (Err stop) (λ call now. eval d call t s now) → RanScope d a b (Err stop) s' (λ call now. then_stated (eval d call t s now) (λ v next. then_stated (eval d call u s next) (λ w last. store text s m (word_of v) (words_of w) last)))
  store-stop s' stop h = stated-stop d a b (λ call now. eval d call t s now) storing s' stop (λ call grows v now. grown-statement now (eval d call u s now) (λ w last. store text s m (word_of v) (words_of w) last) (eval-grows d call grows u s now) (λ w last. grown-store text s m (word_of v) (words_of w) last)) h

  pub store-stop_value : (e : At) (s' : Scope) (v : code.Value) (stop : Interruption) → RanValue d a b (Ok v) (λ call now. eval d call t s now) → RanValue d b e (Err stop) (λ call now. eval d call u s now) → RanScope d a e (Err stop) s' (λ call now. then_stated (eval d call t s now) (λ v next. then_stated (eval d call u s next) (λ w last. store text s m (word_of v) (words_of w) last)))
  store-stop_value e s' v stop h n = stated-next d a b (λ call now. eval d call t s now) storing e s' v (Err stop) h (stated-stop d b e (λ call now. eval d call u s now) (λ call w last. store text s m (word_of (view v)) (words_of w) last) s' stop (λ call grows w now. grown-store text s m (word_of (view v)) (words_of w) now) n)

  pub store-done : (e f : At) (s' : Scope) (v w : code.Value) (place : ℕ) (answer : Answer (Unit {0}) Interruption) → place ≡ word_of (view v) → RanValue d a b (Ok v) (λ call now. eval d call t s now) → RanValue d b e (Ok w) (λ call now. eval d call u s now) → RanScope d e f answer s' (λ call now. store text s m place (words_of (view w)) now) → RanScope d a f answer s' (λ call now. then_stated (eval d call t s now) (λ v next. then_stated (eval d call u s next) (λ w last. store text s m (word_of v) (words_of w) last)))
  store-done e f s' v w place answer is h n o = stated-next d a b (λ call now. eval d call t s now) storing f s' v answer h (stated-next d b e (λ call now. eval d call u s now) (λ call w last. store text s m (word_of (view v)) (words_of w) last) f s' w answer n (subst (λ k. RanScope d e f answer s' (λ call now. store text s m k (words_of (view w)) now)) is o))

-- ---- what follows the values of a list
module _ (d : Declared) (a b : At) (es : Trees) (s : Scope) where
  pub all-stop : (k : Calls → Values → Running → Result) (stop : Interruption) → ((call : Calls) → Growing call → (vs : Values) (now : Running) → Grown now (k call vs now)) → RanValues d a b (Err stop) (λ call now. eval_all d call es s now) → RanStep d a b (Err stop) (λ call now. and_all (eval_all d call es s now) (k call))
  all-stop k stop g h = ran-as d a b (λ call now last. AreValues (Err stop) last (eval_all d call es s now)) (λ call now last. IsStep call (Err stop) last (and_all (eval_all d call es s now) (k call))) (λ call grows x y same p. stop-all stop y (eval_all d call es s x) (k call) (g call grows) p) h

  pub all-done : (k : Calls → Values → Running → Result) (vs : Vec code.Value Global) (answer : Answer Step Interruption) → ((call : Calls) (now : Running) → IsStep call answer now (k call (list_values vs.items) now)) → RanValues d a b (Ok vs) (λ call now. eval_all d call es s now) → RanStep d a b answer (λ call now. and_all (eval_all d call es s now) (k call))
  all-done k vs answer n h = ran-as d a b (λ call now last. AreValues (Ok vs) last (eval_all d call es s now)) (λ call now last. IsStep call answer last (and_all (eval_all d call es s now) (k call))) (λ call grows x y same p. step-as call answer y (k call (list_values vs.items) y) (and_all (eval_all d call es s x) (k call)) (ap (λ r. and_all r (k call)) p) (n call y)) h

  pub tuple-stop : (stop : Interruption) → RanValues d a b (Err stop) (λ call now. eval_all d call es s now) → RanStep d a b (Err stop) (λ call now. and_all (eval_all d call es s now) (λ vs last. Gives (Tuple vs) last))
  tuple-stop stop h = all-stop (λ call vs last. Gives (Tuple vs) last) stop (λ call grows vs now. grown-here now _ refl) h

  pub tuple-done : (vs : Vec code.Value Global) → RanValues d a b (Ok vs) (λ call now. eval_all d call es s now) → RanStep d a b (Ok (Done (code.Tuple vs))) (λ call now. and_all (eval_all d call es s now) (λ vs last. Gives (Tuple vs) last))
  tuple-done vs h = all-done (λ call vs last. Gives (Tuple vs) last) vs (Ok (Done (code.Tuple vs))) (λ call now. ap (λ v. Gives v now) (sym (tuple_view vs))) h

  pub again-stop : (f : List ℕ) (stop : Interruption) → RanValues d a b (Err stop) (λ call now. eval_all d call es s now) → RanStep d a b (Err stop) (λ call now. and_all (eval_all d call es s now) (λ vs next. call f vs next))
  again-stop f stop h = all-stop (λ call vs last. call f vs last) stop (λ call grows vs now. grows f vs now) h

  pub again-done : (f : Bor (List ℕ)) (vs : Vec code.Value Global) → RanValues d a b (Ok vs) (λ call now. eval_all d call es s now) → RanStep d a b (Ok (Again f vs)) (λ call now. and_all (eval_all d call es s now) (λ vs next. call f.now vs next))
  again-done f vs h = all-done (λ call us last. call f.now us last) vs (Ok (Again f vs)) (λ call now. refl) h

  pub raise-stop : (k : ℕ) (stop : Interruption) → RanValues d a b (Err stop) (λ call now. eval_all d call es s now) → RanStep d a b (Err stop) (λ call now. and_all (eval_all d call es s now) (λ vs last. Raises k vs last))
  raise-stop k stop h = all-stop (λ call vs last. Raises k vs last) stop (λ call grows vs now. grown-here now _ refl) h

  pub raise-done : (k j : ℕ) (vs : Vec code.Value Global) → j ≡ k → RanValues d a b (Ok vs) (λ call now. eval_all d call es s now) → RanStep d a b (Err (Raised j vs)) (λ call now. and_all (eval_all d call es s now) (λ vs last. Raises k vs last))
  raise-done k j vs e h = all-done (λ call us last. Raises k us last) vs (Err (Raised j vs)) (λ call now. ap (λ i. Raises i (list_values vs.items) now) (sym e)) h

-- a record
module _ (d : Declared) (a b : At) (es : NamedTrees) (s : Scope) where
  pub record-stop : (stop : Interruption) → RanFields d a b (Err stop) (λ call now. eval_named d call es s now) → RanStep d a b (Err stop) (λ call now. and_named (eval_named d call es s now) (λ vs last. Gives (Record vs) last))
  record-stop stop h = ran-as d a b (λ call now last. AreFields (Err stop) last (eval_named d call es s now)) (λ call now last. IsStep call (Err stop) last (and_named (eval_named d call es s now) (λ vs last. Gives (Record vs) last))) (λ call grows x y same p. stop-named stop y (eval_named d call es s x) (λ vs last. Gives (Record vs) last) (λ vs now. grown-here now _ refl) p) h

  pub record-done : (fs : Vec Named Global) → RanFields d a b (Ok fs) (λ call now. eval_named d call es s now) → RanStep d a b (Ok (Done (code.Record fs))) (λ call now. and_named (eval_named d call es s now) (λ vs last. Gives (Record vs) last))
  record-done fs h = ran-as d a b (λ call now last. AreFields (Ok fs) last (eval_named d call es s now)) (λ call now last. IsStep call (Ok (Done (code.Record fs))) last (and_named (eval_named d call es s now) (λ vs last. Gives (Record vs) last))) (λ call grows x y same p. ap (λ r. and_named r (λ vs last. Gives (Record vs) last)) p ∙ ap (λ v. Gives v y) (sym (record_view fs))) h
