-- Writes are only added: those before a part of the text is evaluated are the first ones of those after it, and memories change by
-- the further ones alone.
use Rattle.std.proofs.Common.{◌≡◌, ℕ, zero, suc, ◌==◌, Bool, true, false, List, [], ◌∷◌, ◌++◌, refl, sym, ap, ◌∙◌, append_assoc, append-nil, if◌then◌else◌, Option, Some, None, unwrap_or, length}
use Rattle.std.proofs.lemmas.List.{map-append}
use Rattle.nv_base.specs.declared.term.Mem.{Mem}
use Rattle.nv_base.specs.Memories.{Memories, fetched, stored}
use Rattle.nv_base.specs.Meanings.{left_by}
use Rattle.nv_base.proofs.MemoryLemmas.{left-append}
use Rattle.nv_ast.specs.declared.tree.Op.{Op}
use Rattle.nv_ast.specs.declared.tree.Op.TheVariants.{Add, Sub, And, Or, Xor, Eq, Ne, Lt, Le, Gt, Ge, Both, Either}
use Rattle.nv_ast.specs.Faults.{can_move}
use Rattle.nv_ast.specs.declared.token.Span.{Span}
use Rattle.nv_ast.specs.Tree.{Tree, NumberTree, TruthTree, VarTree, ParenTree, TupleTree, FieldsTree, DotTree, InvertTree, NegateTree, BinaryTree, ShiftTree, CallTree, UnpackTree, PackTree, RaiseTree, IfTree, TryTree, FetchTree, BlockTree, Trees, no_trees, tree_and, NamedTrees, no_named_trees, named_tree_and, StatementTree, LetStatement, StoreStatement, StatementTrees, no_statements, statement_and, FunTree}
use Rattle.nv_meaning_values.specs.Values.{Value, Tuple, Record, Values, NamedValues, Scope, word_of, truth_of, words_of, all_matched}
use Rattle.nv_meaning_values.specs.Running.{Chain, Made, plain, made_by, Running, Result, Gives, Raises, Halts, Results, GiveAll, Breaks, NamedResults, GiveNamed, BreaksNamed, Stated, GoesOn, StopsAt, and_then, and_all, and_named, and_stated, and_further, then_more, then_named, then_stated, before_rest, before_named, handled, exception_number, fetch, after_fetch, store, after_store, taken, calling, back_to}
use Rattle.nv_meaning.specs.Meaning.{Declared, Calls, combined, binary, eval, eval_all, eval_named, run_one, run_all, enter, entered, function_in, group_in, calls_within}
use Rattle.nv_meaning.specs.inner.Ran.{Grown, now_of, all_result, named_result, stated_result}

-- a call only adds writes
abbrev pub Growing : Calls → Type 0
Growing call = (f : List ℕ) (vs : Values) (now : Running) → Grown now (call f vs now)

pub plain-append : (xs ys : List Made) → plain (xs ++ ys) ≡ plain xs ++ plain ys
plain-append xs ys = map-append (λ m. m.write) xs ys

pub grown-here : (now : Running) (r : Result) → now_of r ≡ now → Grown now r
grown-here now r e = record { rest = []; writes = ap (λ x. x.writes) e ∙ sym (append-nil now.writes); packet = ap (λ x. x.packet) e }

grown-further : (a b : Running) (ws : List Made) (r : Result) → b.writes ≡ a.writes ++ ws → b.packet ≡ left_by (plain ws) a.packet → Grown b r → Grown a r
grown-further a b ws r e p g = record {
  rest = ws ++ g.rest;
  writes = g.writes ∙ ap (λ l. l ++ g.rest) e ∙ append_assoc a.writes ws g.rest;
  packet = g.packet ∙ ap (left_by (plain g.rest)) p ∙ sym (left-append (plain ws) (plain g.rest) a.packet) ∙ ap (λ l. left_by l a.packet) (sym (plain-append ws g.rest));
}

pub grown-then : (now : Running) (q : Result) (next : Value → Running → Result) → Grown now q → ((v : Value) (last : Running) → Grown last (next v last)) → Grown now (and_then q next)
grown-then now (Gives v last) next g h = grown-further now last g.rest (next v last) g.writes g.packet (h v last)
grown-then now (Raises k vs last) next g h = g
grown-then now (Halts how last) next g h = g

pub grown-all : (now : Running) (q : Results) (next : Values → Running → Result) → Grown now (all_result q) → ((vs : Values) (last : Running) → Grown last (next vs last)) → Grown now (and_all q next)
grown-all now (GiveAll vs last) next g h = grown-further now last g.rest (next vs last) g.writes g.packet (h vs last)
grown-all now (Breaks how) next g h = g

pub grown-named : (now : Running) (q : NamedResults) (next : NamedValues → Running → Result) → Grown now (named_result q) → ((vs : NamedValues) (last : Running) → Grown last (next vs last)) → Grown now (and_named q next)
grown-named now (GiveNamed vs last) next g h = grown-further now last g.rest (next vs last) g.writes g.packet (h vs last)
grown-named now (BreaksNamed how) next g h = g

pub grown-stated : (now : Running) (q : Stated) (next : Scope → Running → Result) → Grown now (stated_result q) → ((s : Scope) (last : Running) → Grown last (next s last)) → Grown now (and_stated q next)
grown-stated now (GoesOn s last) next g h = grown-further now last g.rest (next s last) g.writes g.packet (h s last)
grown-stated now (StopsAt how) next g h = g

pub grown-further_on : (now : Running) (q : Stated) (next : Scope → Running → Stated) → Grown now (stated_result q) → ((s : Scope) (last : Running) → Grown last (stated_result (next s last))) → Grown now (stated_result (and_further q next))
grown-further_on now (GoesOn s last) next g h = grown-further now last g.rest (stated_result (next s last)) g.writes g.packet (h s last)
grown-further_on now (StopsAt how) next g h = g

pub grown-more : (now : Running) (q : Result) (next : Value → Running → Results) → Grown now q → ((v : Value) (last : Running) → Grown last (all_result (next v last))) → Grown now (all_result (then_more q next))
grown-more now (Gives v last) next g h = grown-further now last g.rest (all_result (next v last)) g.writes g.packet (h v last)
grown-more now (Raises k vs last) next g h = g
grown-more now (Halts how last) next g h = g

pub grown-more_named : (now : Running) (q : Result) (next : Value → Running → NamedResults) → Grown now q → ((v : Value) (last : Running) → Grown last (named_result (next v last))) → Grown now (named_result (then_named q next))
grown-more_named now (Gives v last) next g h = grown-further now last g.rest (named_result (next v last)) g.writes g.packet (h v last)
grown-more_named now (Raises k vs last) next g h = g
grown-more_named now (Halts how last) next g h = g

pub grown-statement : (now : Running) (q : Result) (next : Value → Running → Stated) → Grown now q → ((v : Value) (last : Running) → Grown last (stated_result (next v last))) → Grown now (stated_result (then_stated q next))
grown-statement now (Gives v last) next g h = grown-further now last g.rest (stated_result (next v last)) g.writes g.packet (h v last)
grown-statement now (Raises k vs last) next g h = g
grown-statement now (Halts how last) next g h = g

pub grown-before : (now : Running) (v : Value) (q : Results) → Grown now (all_result q) → Grown now (all_result (before_rest v q))
grown-before now v (GiveAll vs last) g = record { rest = g.rest; writes = g.writes; packet = g.packet }
grown-before now v (Breaks how) g = g

pub grown-before_named : (now : Running) (x : List ℕ) (v : Value) (q : NamedResults) → Grown now (named_result q) → Grown now (named_result (before_named x v q))
grown-before_named now x v (GiveNamed vs last) g = record { rest = g.rest; writes = g.writes; packet = g.packet }
grown-before_named now x v (BreaksNamed how) g = g

pub grown-if : (b : Bool) (now : Running) (q r : Result) → Grown now q → Grown now r → Grown now (if b then q else r)
grown-if true now q r g h = g
grown-if false now q r g h = h

pub grown-handled : (k : ℕ) (now : Running) (handler : Values → Running → Result) (q : Result) → Grown now q → ((vs : Values) (last : Running) → Grown last (handler vs last)) → Grown now (handled k handler q)
grown-handled k now handler (Gives v last) g h = g
grown-handled k now handler (Raises j vs last) g h = grown-if (j == k) now (handler vs last) (Raises j vs last) (grown-further now last g.rest (handler vs last) g.writes g.packet (h vs last)) g
grown-handled k now handler (Halts how last) g h = g

-- ---- accesses
fetch-rests : (m : Mem) (at : ℕ) (found : Option (List ℕ)) (now : Running) → now_of (after_fetch m at found now) ≡ now
fetch-rests m at (Some ws) now = refl
fetch-rests m at None now = refl

pub grown-fetch : (m : Mem) (n at : ℕ) (now : Running) → Grown now (fetch m n at now)
grown-fetch m n at now = grown-if (can_move m n) now _ _ (grown-here now _ (fetch-rests m at (fetched m at n now.packet) now)) (grown-here now _ refl)

stored-grows : (at_text : Span) (s : Scope) (m : Mem) (at : ℕ) (ws : List ℕ) (found : Option Memories) (now : Running) → stored m at ws now.packet ≡ found → Grown now (stated_result (after_store at_text s m at ws found now))
stored-grows at_text s m at ws (Some p) now e = record { rest = made_by at_text now.chain m at ws ∷ []; writes = refl; packet = sym (ap (λ o. unwrap_or o now.packet) e) }
stored-grows at_text s m at ws None now e = grown-here now _ refl

store-if : (b : Bool) (now : Running) (q r : Stated) → Grown now (stated_result q) → Grown now (stated_result r) → Grown now (stated_result (if b then q else r))
store-if true now q r g h = g
store-if false now q r g h = h

pub grown-store : (at_text : Span) (s : Scope) (m : Mem) (at : ℕ) (ws : List ℕ) (now : Running) → Grown now (stated_result (store at_text s m at ws now))
grown-store at_text s m at ws now = store-if (can_move m (length ws)) now _ _ (stored-grows at_text s m at ws (stored m at ws now.packet) now refl) (grown-here now _ refl)

-- ---- operators
grown-strict : (op : Op) (now : Running) (q : Result) (right : Running → Result) → Grown now q → ((last : Running) → Grown last (right last)) → Grown now (and_then q (λ v last. and_then (right last) (λ w end'. Gives (combined op (word_of v) (word_of w)) end')))
grown-strict op now q right g h = grown-then now q _ g (λ v last. grown-then last (right last) _ (h last) (λ w end'. grown-here end' _ refl))

pub grown-binary : (op : Op) (now : Running) (q : Result) (right : Running → Result) → Grown now q → ((last : Running) → Grown last (right last)) → Grown now (binary op q right)
grown-binary Both now q right g h = grown-then now q _ g (λ v last. grown-if (truth_of v) last _ _ (h last) (grown-here last _ refl))
grown-binary Either now q right g h = grown-then now q _ g (λ v last. grown-if (truth_of v) last _ _ (grown-here last _ refl) (h last))
grown-binary Add now q right g h = grown-strict Add now q right g h
grown-binary Sub now q right g h = grown-strict Sub now q right g h
grown-binary And now q right g h = grown-strict And now q right g h
grown-binary Or now q right g h = grown-strict Or now q right g h
grown-binary Xor now q right g h = grown-strict Xor now q right g h
grown-binary Eq now q right g h = grown-strict Eq now q right g h
grown-binary Ne now q right g h = grown-strict Ne now q right g h
grown-binary Lt now q right g h = grown-strict Lt now q right g h
grown-binary Le now q right g h = grown-strict Le now q right g h
grown-binary Gt now q right g h = grown-strict Gt now q right g h
grown-binary Ge now q right g h = grown-strict Ge now q right g h

-- ---- the whole text
mutual
  pub eval-grows : (d : Declared) (call : Calls) → Growing call → (t : Tree) (s : Scope) (now : Running) → Grown now (eval d call t s now)
  eval-grows d call g (NumberTree s' n) s now = grown-here now _ refl
  eval-grows d call g (TruthTree s' b) s now = grown-here now _ refl
  eval-grows d call g (VarTree s' x) s now = grown-here now _ refl
  eval-grows d call g (ParenTree s' e) s now = eval-grows d call g e s now
  eval-grows d call g (TupleTree s' es) s now = grown-all now (eval_all d call es s now) (λ vs last. Gives (Tuple vs) last) (all-grows d call g es s now) (λ vs last. grown-here last _ refl)
  eval-grows d call g (FieldsTree s' es) s now = grown-named now (eval_named d call es s now) (λ vs last. Gives (Record vs) last) (named-grows d call g es s now) (λ vs last. grown-here last _ refl)
  eval-grows d call g (DotTree s' e x) s now = grown-then now _ _ (eval-grows d call g e s now) (λ v last. grown-here last _ refl)
  eval-grows d call g (InvertTree s' e) s now = grown-then now _ _ (eval-grows d call g e s now) (λ v last. grown-here last _ refl)
  eval-grows d call g (NegateTree s' e) s now = grown-then now _ _ (eval-grows d call g e s now) (λ v last. grown-here last _ refl)
  eval-grows d call g (BinaryTree s' op a b) s now = grown-binary op now _ _ (eval-grows d call g a s now) (λ last. eval-grows d call g b s last)
  eval-grows d call g (ShiftTree s' op e n) s now = grown-then now _ _ (eval-grows d call g e s now) (λ v last. grown-here last _ refl)
  eval-grows d call g (CallTree s' f es) s now = grown-all now (eval_all d call es s now) (λ vs last. call f vs last) (all-grows d call g es s now) (λ vs last. g f vs last)
  eval-grows d call g (UnpackTree s' l e) s now = grown-then now _ _ (eval-grows d call g e s now) (λ v last. grown-here last _ refl)
  eval-grows d call g (PackTree s' l e) s now = grown-then now _ _ (eval-grows d call g e s now) (λ v last. grown-here last _ refl)
  eval-grows d call g (RaiseTree s' x es) s now = grown-all now (eval_all d call es s now) (λ vs last. Raises (exception_number d.exceptions x) vs last) (all-grows d call g es s now) (λ vs last. grown-here last _ refl)
  eval-grows d call g (IfTree s' c a b) s now = grown-then now _ _ (eval-grows d call g c s now) (λ v last. grown-if (truth_of v) last _ _ (eval-grows d call g a s last) (eval-grows d call g b s last))
  eval-grows d call g (TryTree s' a x ps h) s now = grown-handled (exception_number d.exceptions x) now _ _ (eval-grows d call g a s now) (λ vs last. eval-grows d call g h (all_matched ps vs s) last)
  eval-grows d call g (FetchTree s' m n e) s now = grown-then now _ _ (eval-grows d call g e s now) (λ v last. grown-fetch m n (word_of v) last)
  eval-grows d call g (BlockTree s' sts e) s now = grown-stated now (run_all d call sts s now) (λ inner last. eval d call e inner last) (statements-grow d call g sts s now) (λ inner last. eval-grows d call g e inner last)

  pub all-grows : (d : Declared) (call : Calls) → Growing call → (es : Trees) (s : Scope) (now : Running) → Grown now (all_result (eval_all d call es s now))
  all-grows d call g no_trees s now = grown-here now _ refl
  all-grows d call g (tree_and e es) s now = grown-more now _ _ (eval-grows d call g e s now) (λ v last. grown-before last v (eval_all d call es s last) (all-grows d call g es s last))

  pub named-grows : (d : Declared) (call : Calls) → Growing call → (es : NamedTrees) (s : Scope) (now : Running) → Grown now (named_result (eval_named d call es s now))
  named-grows d call g no_named_trees s now = grown-here now _ refl
  named-grows d call g (named_tree_and x e es) s now = grown-more_named now _ _ (eval-grows d call g e s now) (λ v last. grown-before_named last x v (eval_named d call es s last) (named-grows d call g es s last))

  pub statement-grows : (d : Declared) (call : Calls) → Growing call → (st : StatementTree) (s : Scope) (now : Running) → Grown now (stated_result (run_one d call st s now))
  statement-grows d call g (LetStatement s' p e) s now = grown-statement now _ _ (eval-grows d call g e s now) (λ v last. grown-here last _ refl)
  statement-grows d call g (StoreStatement s' m a e) s now = grown-statement now _ _ (eval-grows d call g a s now) (λ v last. grown-statement last _ _ (eval-grows d call g e s last) (λ w end'. grown-store s' s m (word_of v) (words_of w) end'))

  pub statements-grow : (d : Declared) (call : Calls) → Growing call → (sts : StatementTrees) (s : Scope) (now : Running) → Grown now (stated_result (run_all d call sts s now))
  statements-grow d call g no_statements s now = grown-here now _ refl
  statements-grow d call g (statement_and st sts) s now = grown-further_on now (run_one d call st s now) (λ inner last. run_all d call sts inner last) (statement-grows d call g st s now) (λ inner last. statements-grow d call g sts inner last)

-- ---- calls
pub enter-grows : (d : Declared) (call : Calls) → Growing call → (f : Option FunTree) (vs : Values) (now : Running) → Grown now (enter d call f vs now)
enter-grows d call g (Some f) vs now = eval-grows d call g f.body (entered f.params vs []) now
enter-grows d call g None vs now = grown-here now _ refl

taken-grows : (left : ℕ) (now : Running) (next : Running → Result) → ((last : Running) → Grown last (next last)) → Grown now (taken left now next)
taken-grows zero now next h = grown-here now _ refl
taken-grows (suc left) now next h =
    let g = h (record { calls = left; packet = now.packet; writes = now.writes; chain = now.chain }) in record { rest = g.rest; writes = g.writes; packet = g.packet }

-- with other calls in progress
pub back-grows : (c : Chain) (now : Running) (r : Result) → Grown now r → Grown now (back_to c r)
back-grows c now (Gives v last) g = record { rest = g.rest; writes = g.writes; packet = g.packet }
back-grows c now (Raises k vs last) g = record { rest = g.rest; writes = g.writes; packet = g.packet }
back-grows c now (Halts how last) g = record { rest = g.rest; writes = g.writes; packet = g.packet }

entered-grows : (d : Declared) (call : Calls) → Growing call → (f : List ℕ) (vs : Values) (now : Running) → Grown now (enter d call (function_in d.functions f) vs (calling (f, group_in d.functions now.chain.groups f) now))
entered-grows d call g f vs now = let e = enter-grows d call g (function_in d.functions f) vs (calling (f, group_in d.functions now.chain.groups f) now) in record { rest = e.rest; writes = e.writes; packet = e.packet }

pub calls-grow : (depth : ℕ) (d : Declared) → Growing (calls_within depth d)
calls-grow zero d f vs now = grown-here now _ refl
calls-grow (suc depth) d f vs now = back-grows now.chain now _ (taken-grows now.calls now _ (λ last. entered-grows d (calls_within depth d) (calls-grow depth d) f vs last))
