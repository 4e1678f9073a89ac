-- The ways out of the functions for operators, conditions, handlers, blocks and calls, over plain variables.
use Rattle.std.proofs.Common.{◌≡◌, ℕ, Bool, true, false, List, [], refl, sym, ap, ◌∙◌, subst, take, length, if◌then◌else◌, Option, Some, None, Result as Answer, Ok, Err, Vec, Global, eq-eqb, ne_eqb}
use Rattle.std.proofs.Math.Seq.{take-append_seam}
use Rattle.nv_base.specs.declared.term.Mem.{Mem}
use Rattle.nv_ast.specs.declared.tree.Op.{Op}
use Rattle.nv_ast.specs.declared.tree.Op.TheVariants.{Add, Sub, And, Or, Xor, Eq, Ne, Lt, Le, Gt, Ge, Both, Either}
use Rattle.nv_ast.specs.Tree.{Tree, NumberTree, TruthTree, VarTree, ParenTree, TupleTree, FieldsTree, DotTree, InvertTree, NegateTree, BinaryTree, ShiftTree, CallTree, UnpackTree, PackTree, RaiseTree, IfTree, TryTree, FetchTree, BlockTree, StatementTrees, PatternTrees, FunTree}
use Rattle.nv_meaning_values.specs.Values.{Value, Truth, Values, Scope, variable_in, word_of, truth_of, all_matched}
use Rattle.nv_meaning_values.specs.Running.{Running, Result, Gives, Raises, Halts, Stated, and_then, and_stated, handled}
use Rattle.nv_meaning.specs.Meaning.{Declared, Calls, binary, eval, run_all, enter, entered, function_in}
use Rattle.nv_meaning.specs.inner.Operand.{decided_by, joined_by, made_of}
use Rattle.nv_meaning_values.specs.declared.value.Value as code
use Rattle.nv_meaning.specs.declared.step.Step.{Step}
use Rattle.nv_meaning.specs.declared.step.Step.TheVariants.{Done}
use Rattle.nv_meaning_values.specs.declared.stop.Interruption.{Interruption}
use Rattle.nv_meaning_values.specs.declared.stop.Interruption.TheVariants.{NoMemory, Raised, Fault, Going}
use Rattle.nv_meaning_values.specs.inner.View.{Named, view, list_values, scope_of, Extends}
use Rattle.nv_meaning.specs.inner.Ran.{At, Grown, IsStep, IsValue, IsScope, RanStep, RanValue, RanScope}
use Rattle.nv_meaning.proofs.Grows.{grown-here, grown-fetch, grown-if, grown-then, grown-handled, eval-grows}
use Rattle.nv_meaning.proofs.Moments.{ran-here, ran-as, ran-then}
use Rattle.nv_meaning.proofs.Stops.{stop-stated}
use Rattle.nv_meaning.proofs.Arms.{step-as, then-stop, then-step, then-here}

-- ---- operators of two operands

-- what follows the left operand's value
abbrev pub after_left : Op → Value → (Running → Result) → Option Bool → Running → Result
after_left op v right (Some b) now = Gives (Truth b) now
after_left op v right None now = and_then (right now) (λ w last. Gives (joined_by op v w) last)

and_then-gives : (q : Result) → and_then q (λ w last. Gives w last) ≡ q
and_then-gives (Gives v now) = refl
and_then-gives (Raises k vs now) = refl
and_then-gives (Halts how now) = refl

both-left : (v : Value) (right : Running → Result) (b : Bool) (now : Running) → (if b then right now else Gives (Truth false) now) ≡ after_left Both v right (if b then None else Some false) now
both-left v right true now = sym (and_then-gives (right now))
both-left v right false now = refl

either-left : (v : Value) (right : Running → Result) (b : Bool) (now : Running) → (if b then Gives (Truth true) now else right now) ≡ after_left Either v right (if b then Some true else None) now
either-left v right true now = refl
either-left v right false now = sym (and_then-gives (right now))

then-same : (q : Result) (f g : Value → Running → Result) → ((v : Value) (now : Running) → f v now ≡ g v now) → and_then q f ≡ and_then q g
then-same (Gives v now) f g h = h v now
then-same (Raises k vs now) f g h = refl
then-same (Halts how now) f g h = refl

binary-as : (op : Op) (q : Result) (right : Running → Result) → binary op q right ≡ and_then q (λ v now. after_left op v right (decided_by op (truth_of v)) now)
binary-as Both q right = then-same q (λ v now. if truth_of v then right now else Gives (Truth false) now) (λ v now. after_left Both v right (decided_by Both (truth_of v)) now) (λ v now. both-left v right (truth_of v) now)
binary-as Either q right = then-same q (λ v now. if truth_of v then Gives (Truth true) now else right now) (λ v now. after_left Either v right (decided_by Either (truth_of v)) now) (λ v now. either-left v right (truth_of v) now)
binary-as Add q right = refl
binary-as Sub q right = refl
binary-as And q right = refl
binary-as Or q right = refl
binary-as Xor q right = refl
binary-as Eq q right = refl
binary-as Ne q right = refl
binary-as Lt q right = refl
binary-as Le q right = refl
binary-as Gt q right = refl
binary-as Ge q right = refl

after_left-grows : (op : Op) (v : Value) (right : Running → Result) (known : Option Bool) (now : Running) → ((last : Running) → Grown last (right last)) → Grown now (after_left op v right known now)
after_left-grows op v right (Some b) now h = grown-here now _ refl
after_left-grows op v right None now h = grown-then now (right now) (λ w last. Gives (joined_by op v w) last) (h now) (λ w last. grown-here last _ refl)

module _ (d : Declared) (a b : At) (op : Op) (t u : Tree) (s : Scope) where
  abbrev left_of : Calls → Running → Result
  left_of call now = eval d call t s now

  abbrev right_of : Calls → Value → Running → Result
  right_of call v now = after_left op v (λ next. eval d call u s next) (decided_by op (truth_of v)) now

  binary-is : (e : At) (answer : Answer Step Interruption) → RanStep d a e answer (λ call now. and_then (left_of call now) (right_of call)) → RanStep d a e answer (λ call now. binary op (eval d call t s now) (λ next. eval d call u s next))
  binary-is e answer h = ran-as d a e (λ call now last. IsStep call answer last (and_then (left_of call now) (right_of call))) (λ call now last. IsStep call answer last (binary op (eval d call t s now) (λ next. eval d call u s next))) (λ call grows x y same p. step-as call answer y (and_then (left_of call x) (right_of call)) (binary op (eval d call t s x) (λ next. eval d call u s next)) (binary-as op (eval d call t s x) (λ next. eval d call u s next)) p) h

  pub binary-stop : (stop : Interruption) → RanValue d a b (Err stop) (λ call now. eval d call t s now) → RanStep d a b (Err stop) (λ call now. binary op (eval d call t s now) (λ next. eval d call u s next))
  binary-stop stop h = binary-is b (Err stop) (then-stop d a b left_of right_of stop (λ call grows v now. after_left-grows op v (λ next. eval d call u s next) (decided_by op (truth_of v)) now (λ last. eval-grows d call grows u s last)) h)

  pub binary-decided : (v : code.Value) (known : Bool) → decided_by op (truth_of (view v)) ≡ Some known → RanValue d a b (Ok v) (λ call now. eval d call t s now) → RanStep d a b (Ok (Done (code.Truth known))) (λ call now. binary op (eval d call t s now) (λ next. eval d call u s next))
  binary-decided v known is h = binary-is b (Ok (Done (code.Truth known))) (then-here d a b left_of right_of v (Ok (Done (code.Truth known))) h (λ call grows now same. ap (λ o. after_left op (view v) (λ next. eval d call u s next) o now) is))

  pub binary-stop_right : (e : At) (v : code.Value) (stop : Interruption) → decided_by op (truth_of (view v)) ≡ None → RanValue d a b (Ok v) (λ call now. eval d call t s now) → RanValue d b e (Err stop) (λ call now. eval d call u s now) → RanStep d a e (Err stop) (λ call now. binary op (eval d call t s now) (λ next. eval d call u s next))
  binary-stop_right e v stop is h n = binary-is e (Err stop) (then-step d a b left_of right_of e v (Err stop) h
      (ran-as d b e (λ call now last. IsStep call (Err stop) last (and_then (eval d call u s now) (λ w last. Gives (joined_by op (view v) w) last))) (λ call now last. IsStep call (Err stop) last (right_of call (view v) now)) (λ call grows x y same p. step-as call (Err stop) y (and_then (eval d call u s x) (λ w last. Gives (joined_by op (view v) w) last)) (right_of call (view v) x) (ap (λ o. after_left op (view v) (λ next. eval d call u s next) o x) is) p)
      (then-stop d b e (λ call now. eval d call u s now) (λ call w last. Gives (joined_by op (view v) w) last) stop (λ call grows w now. grown-here now _ refl) n)))

  pub binary-done : (e : At) (v w r : code.Value) → decided_by op (truth_of (view v)) ≡ None → view r ≡ joined_by op (view v) (view w) → RanValue d a b (Ok v) (λ call now. eval d call t s now) → RanValue d b e (Ok w) (λ call now. eval d call u s now) → RanStep d a e (Ok (Done r)) (λ call now. binary op (eval d call t s now) (λ next. eval d call u s next))
  binary-done e v w r is joined h n = binary-is e (Ok (Done r)) (then-step d a b left_of right_of e v (Ok (Done r)) h
      (ran-as d b e (λ call now last. IsStep call (Ok (Done r)) last (and_then (eval d call u s now) (λ w last. Gives (joined_by op (view v) w) last))) (λ call now last. IsStep call (Ok (Done r)) last (right_of call (view v) now)) (λ call grows x y same p. step-as call (Ok (Done r)) y (and_then (eval d call u s x) (λ w last. Gives (joined_by op (view v) w) last)) (right_of call (view v) x) (ap (λ o. after_left op (view v) (λ next. eval d call u s next) o x) is) p)
      (then-here d b e (λ call now. eval d call u s now) (λ call u' last. Gives (joined_by op (view v) u') last) w (Ok (Done r)) n (λ call grows now same. ap (λ z. Gives z now) (sym joined)))))

-- ---- conditions
module _ (d : Declared) (a b : At) (t yes' no' : Tree) (s : Scope) where
  abbrev condition : Calls → Running → Result
  condition call now = eval d call t s now

  abbrev chosen : Calls → Value → Running → Result
  chosen call v next = if truth_of v then eval d call yes' s next else eval d call no' s next

  pub choose-stop : (stop : Interruption) → RanValue d a b (Err stop) (λ call now. eval d call t s now) → RanStep d a b (Err stop) (λ call now. and_then (eval d call t s now) (λ v next. if truth_of v then eval d call yes' s next else eval d call no' s next))
  choose-stop stop h = then-stop d a b condition chosen stop (λ call grows v now. grown-if (truth_of v) now (eval d call yes' s now) (eval d call no' s now) (eval-grows d call grows yes' s now) (eval-grows d call grows no' s now)) h

  pub choose-yes : (e : At) (v : code.Value) (answer : Answer Step Interruption) → truth_of (view v) ≡ true → RanValue d a b (Ok v) (λ call now. eval d call t s now) → RanStep d b e answer (λ call now. eval d call yes' s now) → RanStep d a e answer (λ call now. and_then (eval d call t s now) (λ v next. if truth_of v then eval d call yes' s next else eval d call no' s next))
  choose-yes e v answer is h n = then-step d a b condition chosen e v answer h
      (ran-as d b e (λ call now last. IsStep call answer last (eval d call yes' s now)) (λ call now last. IsStep call answer last (chosen call (view v) now)) (λ call grows x y same p. step-as call answer y (eval d call yes' s x) (chosen call (view v) x) (ap (λ c. if c then eval d call yes' s x else eval d call no' s x) is) p) n)

  pub choose-no : (e : At) (v : code.Value) (answer : Answer Step Interruption) → truth_of (view v) ≡ false → RanValue d a b (Ok v) (λ call now. eval d call t s now) → RanStep d b e answer (λ call now. eval d call no' s now) → RanStep d a e answer (λ call now. and_then (eval d call t s now) (λ v next. if truth_of v then eval d call yes' s next else eval d call no' s next))
  choose-no e v answer is h n = then-step d a b condition chosen e v answer h
      (ran-as d b e (λ call now last. IsStep call answer last (eval d call no' s now)) (λ call now last. IsStep call answer last (chosen call (view v) now)) (λ call grows x y same p. step-as call answer y (eval d call no' s x) (chosen call (view v) x) (ap (λ c. if c then eval d call yes' s x else eval d call no' s x) is) p) n)

-- ---- handlers
module _ (d : Declared) (a b : At) (t h : Tree) (k : ℕ) (ps : PatternTrees) (s : Scope) where
  abbrev handler_of : Calls → Values → Running → Result
  handler_of call vs next = eval d call h (all_matched ps vs s) next

  pub try-done : (v : code.Value) → RanValue d a b (Ok v) (λ call now. eval d call t s now) → RanStep d a b (Ok (Done v)) (λ call now. handled k (λ vs next. eval d call h (all_matched ps vs s) next) (eval d call t s now))
  try-done v r = ran-as d a b (λ call now last. IsValue (Ok v) last (eval d call t s now)) (λ call now last. IsStep call (Ok (Done v)) last (handled k (handler_of call) (eval d call t s now))) (λ call grows x y same p. ap (handled k (handler_of call)) p) r

  pub try-short : RanValue d a b (Err NoMemory) (λ call now. eval d call t s now) → RanStep d a b (Err NoMemory) (λ call now. handled k (λ vs next. eval d call h (all_matched ps vs s) next) (eval d call t s now))
  try-short r = ran-as d a b (λ call now last. IsValue (Err NoMemory) last (eval d call t s now)) (λ call now last. IsStep call (Err NoMemory) last (handled k (handler_of call) (eval d call t s now))) (λ call grows x y same p. grown-handled k y (handler_of call) (eval d call t s x) p (λ vs last. eval-grows d call grows h (all_matched ps vs s) last)) r

  pub try-fault : (m : Mem) (place : ℕ) → RanValue d a b (Err (Fault m place)) (λ call now. eval d call t s now) → RanStep d a b (Err (Fault m place)) (λ call now. handled k (λ vs next. eval d call h (all_matched ps vs s) next) (eval d call t s now))
  try-fault m place r = ran-as d a b (λ call now last. IsValue (Err (Fault m place)) last (eval d call t s now)) (λ call now last. IsStep call (Err (Fault m place)) last (handled k (handler_of call) (eval d call t s now))) (λ call grows x y same p. ap (handled k (handler_of call)) p) r

  pub try-going : RanValue d a b (Err Going) (λ call now. eval d call t s now) → RanStep d a b (Err Going) (λ call now. handled k (λ vs next. eval d call h (all_matched ps vs s) next) (eval d call t s now))
  try-going r = ran-as d a b (λ call now last. IsValue (Err Going) last (eval d call t s now)) (λ call now last. IsStep call (Err Going) last (handled k (handler_of call) (eval d call t s now))) (λ call grows x y same p. ap (handled k (handler_of call)) p) r

  pub try-other : (j : ℕ) (vs : Vec code.Value Global) → (j ≡ k → ⊥) → RanValue d a b (Err (Raised j vs)) (λ call now. eval d call t s now) → RanStep d a b (Err (Raised j vs)) (λ call now. handled k (λ vs next. eval d call h (all_matched ps vs s) next) (eval d call t s now))
  try-other j vs other r = ran-as d a b (λ call now last. IsValue (Err (Raised j vs)) last (eval d call t s now)) (λ call now last. IsStep call (Err (Raised j vs)) last (handled k (handler_of call) (eval d call t s now)))
      (λ call grows x y same p. ap (handled k (handler_of call)) p ∙ ap (λ c. if c then handler_of call (list_values vs.items) y else Raises j (list_values vs.items) y) (ne_eqb j k other)) r

  pub try-handled : (e : At) (j : ℕ) (vs : Vec code.Value Global) (answer : Answer Step Interruption) → j ≡ k → RanValue d a b (Err (Raised j vs)) (λ call now. eval d call t s now) → RanStep d b e answer (λ call now. eval d call h (all_matched ps (list_values vs.items) s) now) → RanStep d a e answer (λ call now. handled k (λ vs next. eval d call h (all_matched ps vs s) next) (eval d call t s now))
  try-handled e j vs answer is r n = ran-then d a b e (λ call now last. IsValue (Err (Raised j vs)) last (eval d call t s now)) (λ call now last. IsStep call answer last (eval d call h (all_matched ps (list_values vs.items) s) now)) (λ call now last. IsStep call answer last (handled k (handler_of call) (eval d call t s now)))
      (λ call grows x y z p q. step-as call answer z (eval d call h (all_matched ps (list_values vs.items) s) y) (handled k (handler_of call) (eval d call t s x)) (ap (handled k (handler_of call)) p ∙ ap (λ c. if c then handler_of call (list_values vs.items) y else Raises j (list_values vs.items) y) (eq-eqb j k is)) q) r n

-- memory exhaustion before an expression
pub short-before : (d : Declared) (a : At) (t : Tree) (s : Scope) → RanStep d a a (Err NoMemory) (λ call now. eval d call t s now)
short-before d a t s = ran-here d a (λ call now last. IsStep call (Err NoMemory) last (eval d call t s now)) (λ call grows x same. eval-grows d call grows t s x)

-- an expression in the scope that patterns made
pub in-matched : (d : Declared) (a b : At) (answer : Answer Step Interruption) (t : Tree) (s s' : Scope) → s' ≡ s → RanStep d a b answer (λ call now. eval d call t s' now) → RanStep d a b answer (λ call now. eval d call t s now)
in-matched d a b answer t s s' e h = subst (λ z. RanStep d a b answer (λ call now. eval d call t z now)) e h

-- ---- blocks
module _ (d : Declared) (a b : At) (sts : StatementTrees) (t : Tree) (s : Scope) where
  pub block-stop : (s' : Scope) (stop : Interruption) → RanScope d a b (Err stop) s' (λ call now. run_all d call sts s now) → RanStep d a b (Err stop) (λ call now. and_stated (run_all d call sts s now) (λ inner next. eval d call t inner next))
  block-stop s' stop h = ran-as d a b (λ call now last. IsScope (Err stop) s' last (run_all d call sts s now)) (λ call now last. IsStep call (Err stop) last (and_stated (run_all d call sts s now) (λ inner next. eval d call t inner next))) (λ call grows x y same p. stop-stated stop y (run_all d call sts s x) (λ inner next. eval d call t inner next) (λ inner last. eval-grows d call grows t inner last) p) h

  pub block-tail : (e : At) (s' : Scope) (answer : Answer Step Interruption) → RanScope d a b (Ok tt) s' (λ call now. run_all d call sts s now) → RanStep d b e answer (λ call now. eval d call t s' now) → RanStep d a e answer (λ call now. and_stated (run_all d call sts s now) (λ inner next. eval d call t inner next))
  block-tail e s' answer h n = ran-then d a b e (λ call now last. IsScope (Ok tt) s' last (run_all d call sts s now)) (λ call now last. IsStep call answer last (eval d call t s' now)) (λ call now last. IsStep call answer last (and_stated (run_all d call sts s now) (λ inner next. eval d call t inner next))) (λ call grows x y z p q. step-as call answer z (eval d call t s' y) (and_stated (run_all d call sts s x) (λ inner next. eval d call t inner next)) (ap (λ r. and_stated r (λ inner next. eval d call t inner next)) p) q) h n

-- ---- expressions of one operand
pub made-grows : (d : Declared) (e : Tree) (v : Value) (now : Running) → Grown now (made_of d e v now)
made-grows d (NumberTree s n) v now = grown-here now _ refl
made-grows d (TruthTree s b) v now = grown-here now _ refl
made-grows d (VarTree s x) v now = grown-here now _ refl
made-grows d (ParenTree s e) v now = grown-here now _ refl
made-grows d (TupleTree s es) v now = grown-here now _ refl
made-grows d (FieldsTree s es) v now = grown-here now _ refl
made-grows d (DotTree s e x) v now = grown-here now _ refl
made-grows d (InvertTree s e) v now = grown-here now _ refl
made-grows d (NegateTree s e) v now = grown-here now _ refl
made-grows d (BinaryTree s op a b) v now = grown-here now _ refl
made-grows d (ShiftTree s op e n) v now = grown-here now _ refl
made-grows d (CallTree s f es) v now = grown-here now _ refl
made-grows d (UnpackTree s l e) v now = grown-here now _ refl
made-grows d (PackTree s l e) v now = grown-here now _ refl
made-grows d (RaiseTree s x es) v now = grown-here now _ refl
made-grows d (IfTree s c a b) v now = grown-here now _ refl
made-grows d (TryTree s a x ps h) v now = grown-here now _ refl
made-grows d (FetchTree s m n e) v now = grown-fetch m n (word_of v) now
made-grows d (BlockTree s sts e) v now = grown-here now _ refl

module _ (d : Declared) (a b : At) (t e : Tree) (s : Scope) where
  pub operand-stop : (stop : Interruption) → RanValue d a b (Err stop) (λ call now. eval d call t s now) → RanStep d a b (Err stop) (λ call now. and_then (eval d call t s now) (λ v last. made_of d e v last))
  operand-stop stop h = then-stop d a b (λ call now. eval d call t s now) (λ call v last. made_of d e v last) stop (λ call grows v now. made-grows d e v now) h

  pub operand-made : (v : code.Value) (answer : Answer Step Interruption) → RanValue d a b (Ok v) (λ call now. eval d call t s now) → ((call : Calls) (now : Running) → now.packet ≡ b.packet → IsStep call answer now (made_of d e (view v) now)) → RanStep d a b answer (λ call now. and_then (eval d call t s now) (λ v last. made_of d e v last))
  operand-made v answer h n = then-here d a b (λ call now. eval d call t s now) (λ call v last. made_of d e v last) v answer h (λ call grows now same. n call now same)

-- the body of the function that is called
pub entered-as : (d : Declared) (a b : At) (answer : Answer Step Interruption) (g : List ℕ) (ws : Values) (fun : FunTree) (s : Scope) → function_in d.functions g ≡ Some fun → s ≡ entered fun.params ws [] → RanStep d a b answer (λ call now. eval d call fun.body s now) → RanStep d a b answer (λ call now. enter d call (function_in d.functions g) ws now)
entered-as d a b answer g ws fun s is in_scope h = ran-as d a b (λ call now last. IsStep call answer last (eval d call fun.body s now)) (λ call now last. IsStep call answer last (enter d call (function_in d.functions g) ws now))
    (λ call grows x y same p. step-as call answer y (eval d call fun.body s x) (enter d call (function_in d.functions g) ws x) (ap (λ o. enter d call o ws x) is ∙ ap (λ z. eval d call fun.body z x) (sym in_scope)) p) h

-- a variable
pub looked-up : (d : Declared) (a : At) (answer : Answer Step Interruption) (x : List ℕ) (xs ys : List Named) → xs ≡ ys → ((call : Calls) (now : Running) → IsStep call answer now (Gives (variable_in (scope_of xs []) x) now)) → RanStep d a a answer (λ call now. Gives (variable_in (scope_of ys []) x) now)
looked-up d a answer x xs ys e h = ran-here d a (λ call now last. IsStep call answer last (Gives (variable_in (scope_of ys []) x) now)) (λ call grows now same. step-as call answer now (Gives (variable_in (scope_of xs []) x) now) (Gives (variable_in (scope_of ys []) x) now) (ap (λ l. Gives (variable_in (scope_of l []) x) now) (sym e)) (h call now))

-- a list is what it was once what was added is cut off
pub restored : (xs ys zs : List Named) (n : ℕ) → zs ≡ take n ys → n ≡ length xs → Extends xs ys → zs ≡ xs
restored xs ys zs n e l added = e ∙ ap (λ k. take k ys) l ∙ ap (take (length xs)) added.1 ∙ take-append_seam xs added.0

-- the same of a store, in an equal scope
pub store-scope : (d : Declared) (a b : At) (answer : Answer (Unit {0}) Interruption) (r : Calls → Running → Stated) (xs ys : List Named) → xs ≡ ys → RanScope d a b answer (scope_of ys []) r → RanScope d a b answer (scope_of xs []) r
store-scope d a b answer r xs ys e h = subst (λ l. RanScope d a b answer (scope_of l []) r) (sym e) h
