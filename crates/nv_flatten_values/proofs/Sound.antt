-- A typed expression comes to a value of its type, or raises an exception with values of the exception's types.
use Rattle.std.proofs.Common.{◌≡◌, ℕ, ◌≤◌, true, false, not, if◌then◌else◌, List, [], ◌∷◌, Option, Some, None, is_none, option_map, refl, sym, ap, ◌∙◌, subst}
use Rattle.std.specs.Prelude.{nat_lt}
use Rattle.std.proofs.lemmas.Bool.{ltb-false}
use Rattle.std.proofs.lemmas.Option.{same_Some}
use Rattle.nv_base.specs.Memories.{HasSizes}
use Rattle.nv_base.specs.Words.{word, word_not}
use Rattle.nv_base.proofs.WordLemmas.{word-fits as sum-fits}
use Rattle.nv_ast.specs.declared.token.Span.{Span}
use Rattle.nv_ast.specs.Outline.{outline}
use Rattle.nv_ast.specs.Tree.{NamedLayout, PatternTrees, Tree, NumberTree, TruthTree, VarTree, ParenTree, TupleTree, FieldsTree, DotTree, InvertTree, NegateTree, BinaryTree, ShiftTree, CallTree, UnpackTree, PackTree, RaiseTree, IfTree, TryTree, FetchTree, BlockTree, Trees, no_trees, tree_and, NamedTrees, no_named_trees, named_tree_and, StatementTree, LetStatement, StoreStatement, StatementTrees, no_statements, statement_and}
use Rattle.nv_ast.specs.Tests.{is_among, names_of, look_up}
use Rattle.nv_ast.specs.Types.{Ty, words_ty, named_types_of, WordTy, BoolTy, TupleTy, RecordTy, Tys, type_of, unpacked_ty, packed_ty}
use Rattle.nv_ast.specs.Scope.{Context, Signature, inside, with_vars, plain_tys, callable, bind, bind_value, bind_raised, bind_all}
use Rattle.nv_ast.specs.Typing.{type_at, types_at, named_types_at, field_ty, or_ty, operand_ty, vars_after, vars_behind}
use Rattle.nv_ast.specs.Faults.{Expected, anything, a_value, of_type, same_as, at_span, not_in_tail, unknown_function, wrong_number, expected_arguments, expected_packed, expected_unpacked, expected_stored, params_of, raised_kinds, wrong_number_of_patterns, not_all_fitting, unknown_exception, no_field, wrong_access, can_move, faults, list_faults, named_faults, statement_faults, statements_faults}
use Rattle.nv_meaning.specs.Values.{Values, all_words, Word, Truth, Tuple, Record, word_of, truth_of, words_of, fields_of, field_named, Scope, matched, all_matched}
use Rattle.nv_meaning.specs.Packing.{unpacked_value, packed_value}
use Rattle.nv_meaning.specs.Running.{Running, Result, Gives, Raises, GoesOn, before_rest, before_named, store, then_stated, exception_number, fetch}
use Rattle.nv_meaning.specs.Meaning.{Calls, eval, eval_all, eval_named, run_one, run_all, shifted}
use Rattle.nv_flatten_values.specs.inner.Whole.{Whole, IsPart, raised_tys}
use Rattle.nv_flatten_values.specs.inner.Soundness.{value_ty, value_tys, ComesTo, CallsTyped, scope_tys, AreWords, ScopeWords}
use Rattle.nv_flatten_values.proofs.NoFaults.{given, clean, among-known}
use Rattle.nv_flatten_values.proofs.SoundWords.{no-words, word-fits, variable-type, variable-words, field-type, field-words, matched-types, matched-words, all-matched-types, all-matched-words, unpacked-type, unpacked-words, packed-type, packed-value-words}
use Rattle.nv_flatten_values.proofs.SoundArms.{AllComeTo, NamedComeTo, StatedComesTo, as-type, gives-word, gives-truth, then-typed, all-typed, named-typed, stated-typed, further-typed, more-typed, more-named-typed, then-stated-typed, before-typed, before-named-typed, first-typed, second-typed, choice-typed, binary-typed, handled-typed, fetch-typed, store-typed, shifted-fits, not-fits}
use Rattle.nv_ast.proofs.Faultless.{no_front, no_rest, no_kinds, not_where}
-- expressions without faults have types
pub use Rattle.nv_flatten_values.proofs.NoFaults.{value-has-type, wanted-type, given-has-type, values-have-types, arguments-are-values, fields-have-types, arguments-typed}
use Rattle.nv_layout.proofs.Sound.{where_not}

-- a place of a body, with values of its variables
pub record Inside (w : Whole) (own : ℕ) (p : Context) (scope : Scope) : Type 0 where
  pub part : IsPart w own p.known
  pub vars : p.vars ≡ scope_tys scope
  pub words : ScopeWords scope

-- a part that isn't in tail position
inner : {w : Whole} {own : ℕ} (p : Context) (scope : Scope) → Inside w own p scope → Inside w own (inside p) scope
inner p scope i = record { part = i.part; vars = i.vars; words = i.words }

-- the field of a dot
field-there : (x : List ℕ) (o : Option Ty) (t : Ty) → no_field x o ≡ [] → o ≡ Some t → is_none (field_ty x (Some t)) ≡ false
field-there x o t h e = not_where (is_none (field_ty x (Some t))) 15 (subst (λ a. no_field x a ≡ []) e h)

-- where a type is wanted, it is this one
wanted-typed : (w : Whole) (p : Context) (t : Ty) (e : Tree) (r : Result) → faults p (of_type t) e ≡ [] → ComesTo w (type_at p.known p.vars e) r → ComesTo w (Some t) r
wanted-typed w p t e r h c = as-type w (type_at p.known p.vars e) (Some t) r (wanted-type p t e h) c

-- the exception of a name that is known
raised-there : (w : Whole) (own : ℕ) (p : Context) (x : List ℕ) → IsPart w own p.known → unknown_exception p.known x ≡ []
    → (ts : Tys) × (look_up x p.known.exceptions ≡ Some ts) × (raised_tys w (exception_number w.declared.exceptions x) ≡ Some ts)
raised-there w own p x part h =
    let ts = given (look_up x p.known.exceptions) (not_where (is_none (look_up x p.known.exceptions)) 17 h) in
    (ts.0, ts.1, part.exceptions x ts.0 ts.1)

-- the exception of a try whose patterns are right
handled-there : (w : Whole) (own : ℕ) (p : Context) (x : List ℕ) (ps : PatternTrees) (s : Span) → IsPart w own p.known → at_span s (raised_kinds p.known x ps) ≡ []
    → (ts : Tys) × (look_up x p.known.exceptions ≡ Some ts) × (raised_tys w (exception_number w.declared.exceptions x) ≡ Some ts)
handled-there w own p x ps s part h =
    let kinds = no_kinds s (raised_kinds p.known x ps) h in
    raised-there w own p x part (no_rest (not_all_fitting ps (look_up x p.known.exceptions)) _ (no_rest (wrong_number_of_patterns (look_up x p.known.exceptions) ps) _ (no_rest _ _ kinds)))

-- arguments of known types
arguments-there : (p : Context) (o : Option Tys) (ts us : Tys) (es : Trees) → o ≡ Some ts → list_faults (inside p) (expected_arguments o es) es ≡ [] → wrong_number o es ≡ [] → types_at p.known p.vars es ≡ Some us → us ≡ ts
arguments-there p o ts us es is h n typed =
    let there : types_at p.known p.vars es ≡ Some ts = arguments-typed (inside p) ts es (subst (λ a. list_faults (inside p) (expected_arguments a es) es ≡ []) is h) (subst (λ a. wrong_number a es ≡ []) is n) in
    same_Some us ts (sym typed ∙ there)

-- a call of a known function with values of its parameters' types
call-typed : (w : Whole) (own : ℕ) (call : Calls) (p : Context) (f : List ℕ) (g : Signature) (vs : Values) (now : Running) → CallsTyped w call → IsPart w own p.known → look_up f (callable p.known) ≡ Some g
    → value_tys vs ≡ plain_tys g.params → AreWords (all_words vs) → HasSizes now.packet → ComesTo w (option_map (λ s. s.result) (look_up f (callable p.known))) (call f vs now)
call-typed w own call p f g vs now typed part is e h s =
    let there = part.functions f g is in
    let params : plain_tys g.params ≡ plain_tys (named_types_of w.declared.layouts there.fun.params) = ap (λ (z : Signature). plain_tys z.params) (sym there.signed) in
    let result : Some (type_of w.declared.layouts there.fun.result) ≡ option_map (λ (z : Signature). z.result) (look_up f (callable p.known)) = ap (λ (z : Signature). Some z.result) there.signed ∙ sym (ap (option_map (λ (z : Signature). z.result)) is) in
    as-type w (Some (type_of w.declared.layouts there.fun.result)) (option_map (λ (z : Signature). z.result) (look_up f (callable p.known))) (call f vs now) result (typed.typed f there.fun vs now there.found (e ∙ params) h s)

module _ (w : Whole) (own : ℕ) (call : Calls) (typed : CallsTyped w call) where
  mutual
    pub eval-typed : (e : Tree) (p : Context) (wanted : Expected) (scope : Scope) (now : Running) → Inside w own p scope → HasSizes now.packet → faults p wanted e ≡ [] → ComesTo w (type_at p.known p.vars e) (eval w.declared call e scope now)
    eval-typed (NumberTree s n) p t scope now i z h = gives-word w (word n) now (sum-fits n) z
    eval-typed (TruthTree s b) p t scope now i z h = gives-truth w b now z
    eval-typed (VarTree s x) p t scope now i z h =
        let there : is_none (look_up x p.vars) ≡ false = not_where (is_none (look_up x p.vars)) 10 (clean p t (VarTree s x) h).low in
        (ap (look_up x) i.vars ∙ variable-type scope x (sym (ap (λ vars. is_none (look_up x vars)) i.vars) ∙ there), variable-words scope x i.words, z)
    eval-typed (ParenTree s e) p t scope now i z h = eval-typed e p a_value scope now i z (no_front (faults p a_value e) _ h)
    eval-typed (TupleTree s es) p t scope now i z h =
        all-typed w (types_at p.known p.vars es) (option_map TupleTy (types_at p.known p.vars es)) (eval_all w.declared call es scope now) (λ vs last. Gives (Tuple vs) last)
        (all-eval-typed es (inside p) [] scope now (inner p scope i) z (no_front (list_faults (inside p) [] es) _ h))
        (λ vs last e g sizes. (ap (option_map TupleTy) e, g, sizes))
    eval-typed (FieldsTree s es) p t scope now i z h =
        named-typed w (named_types_at p.known p.vars es) (option_map RecordTy (named_types_at p.known p.vars es)) (eval_named w.declared call es scope now) (λ vs last. Gives (Record vs) last)
        (named-eval-typed es (inside p) scope now (inner p scope i) z (no_front (named_faults (inside p) es) _ h))
        (λ vs last e g sizes. (ap (option_map RecordTy) e, g, sizes))
    eval-typed (DotTree s e x) p t scope now i z h =
        let there = (clean p t (DotTree s e x) h).middle in
        then-typed w (type_at p.known p.vars e) (field_ty x (type_at p.known p.vars e)) (eval w.declared call e scope now) (λ v last. Gives (field_named x (fields_of v)) last)
        (eval-typed e (inside p) a_value scope now (inner p scope i) z (no_front (faults (inside p) a_value e) _ h))
        (λ v last tv g sizes. (ap (field_ty x) tv ∙ field-type v x (field-there x (type_at p.known p.vars e) (value_ty v) there tv), field-words v x g, sizes))
    eval-typed (InvertTree s e) p t scope now i z h =
        then-typed w (Some WordTy) (Some WordTy) (eval w.declared call e scope now) (λ v last. Gives (Word (word_not (word_of v))) last)
        (wanted-typed w (inside p) WordTy e (eval w.declared call e scope now) (no_front (faults (inside p) (of_type WordTy) e) _ h) (eval-typed e (inside p) (of_type WordTy) scope now (inner p scope i) z (no_front (faults (inside p) (of_type WordTy) e) _ h)))
        (λ v last tv g sizes. gives-word w (word_not (word_of v)) last (not-fits (word_of v) (word-fits v tv g)) sizes)
    eval-typed (NegateTree s e) p t scope now i z h =
        then-typed w (Some BoolTy) (Some BoolTy) (eval w.declared call e scope now) (λ v last. Gives (Truth (not (truth_of v))) last)
        (wanted-typed w (inside p) BoolTy e (eval w.declared call e scope now) (no_front (faults (inside p) (of_type BoolTy) e) _ h) (eval-typed e (inside p) (of_type BoolTy) scope now (inner p scope i) z (no_front (faults (inside p) (of_type BoolTy) e) _ h)))
        (λ v last tv g sizes. gives-truth w (not (truth_of v)) last sizes)
    eval-typed (BinaryTree s op a b) p t scope now i z h =
        let rest = no_rest (faults (inside p) (of_type (operand_ty op)) a) _ h in
        binary-typed w op (eval w.declared call a scope now) (λ next. eval w.declared call b scope next)
        (wanted-typed w (inside p) (operand_ty op) a (eval w.declared call a scope now) (no_front (faults (inside p) (of_type (operand_ty op)) a) _ h) (eval-typed a (inside p) (of_type (operand_ty op)) scope now (inner p scope i) z (no_front (faults (inside p) (of_type (operand_ty op)) a) _ h)))
        (λ next sizes. wanted-typed w (inside p) (operand_ty op) b (eval w.declared call b scope next) (no_front (faults (inside p) (of_type (operand_ty op)) b) _ rest) (eval-typed b (inside p) (of_type (operand_ty op)) scope next (inner p scope i) sizes (no_front (faults (inside p) (of_type (operand_ty op)) b) _ rest)))
    eval-typed (ShiftTree s op e n) p t scope now i z h =
        let few : n ≤ 31 = ltb-false 31 n (not_where (nat_lt 31 n) 21 (clean p t (ShiftTree s op e n) h).middle) in
        then-typed w (Some WordTy) (Some WordTy) (eval w.declared call e scope now) (λ v last. Gives (Word (shifted op n (word_of v))) last)
        (wanted-typed w (inside p) WordTy e (eval w.declared call e scope now) (no_front (faults (inside p) (of_type WordTy) e) _ h) (eval-typed e (inside p) (of_type WordTy) scope now (inner p scope i) z (no_front (faults (inside p) (of_type WordTy) e) _ h)))
        (λ v last tv g sizes. gives-word w (shifted op n (word_of v)) last (shifted-fits op n (word_of v) few (word-fits v tv g)) sizes)
    eval-typed (CallTree s g es) p t scope now i z h =
        let low = (clean p t (CallTree s g es) h).low in
        let known = given (look_up g (callable p.known)) (not_where (is_none (look_up g (callable p.known))) 11 (no_front (unknown_function p.known g) _ low)) in
        let many : wrong_number (params_of p.known g) es ≡ [] = no_rest (not_in_tail p g) _ (no_rest (unknown_function p.known g) _ low) in
        let arguments = no_front (list_faults (inside p) (expected_arguments (params_of p.known g) es) es) _ h in
        all-typed w (types_at p.known p.vars es) (option_map (λ (q : Signature). q.result) (look_up g (callable p.known))) (eval_all w.declared call es scope now) (λ vs next. call g vs next)
        (all-eval-typed es (inside p) (expected_arguments (params_of p.known g) es) scope now (inner p scope i) z arguments)
        (λ vs next e words sizes. call-typed w own call p g known.0 vs next typed i.part known.1 (arguments-there p (params_of p.known g) (plain_tys known.0.params) (value_tys vs) es (ap (option_map (λ (q : Signature). plain_tys q.params)) known.1) arguments many e) words sizes)
    eval-typed (UnpackTree s l e) p t scope now i z h =
        let o = among-known l p.known.layouts (where_not (is_among l (names_of p.known.layouts)) 3 (clean p t (UnpackTree s l e) h).low) in
        let is : outline w.declared.layouts (NamedLayout l) ≡ o.0 = (i.part.layouts l o.0 o.1).0 in
        then-typed w (type_at p.known p.vars e) (option_map unpacked_ty (look_up l p.known.layouts)) (eval w.declared call e scope now) (λ v last. Gives (unpacked_value (outline w.declared.layouts (NamedLayout l)) v) last)
        (eval-typed e (inside p) (expected_packed (look_up l p.known.layouts)) scope now (inner p scope i) z (no_front (faults (inside p) (expected_packed (look_up l p.known.layouts)) e) _ h))
        (λ v last tv g sizes. (ap (option_map unpacked_ty) o.1 ∙ ap (λ a. Some (unpacked_ty a)) (sym is) ∙ ap (λ a. Some a) (sym (unpacked-type (outline w.declared.layouts (NamedLayout l)) v)), unpacked-words (outline w.declared.layouts (NamedLayout l)) v, sizes))
    eval-typed (PackTree s l e) p t scope now i z h =
        let o = among-known l p.known.layouts (where_not (is_among l (names_of p.known.layouts)) 3 (clean p t (PackTree s l e) h).low) in
        let is : outline w.declared.layouts (NamedLayout l) ≡ o.0 = (i.part.layouts l o.0 o.1).0 in
        then-typed w (type_at p.known p.vars e) (option_map packed_ty (look_up l p.known.layouts)) (eval w.declared call e scope now) (λ v last. Gives (packed_value (outline w.declared.layouts (NamedLayout l)) v) last)
        (eval-typed e (inside p) (expected_unpacked (look_up l p.known.layouts)) scope now (inner p scope i) z (no_front (faults (inside p) (expected_unpacked (look_up l p.known.layouts)) e) _ h))
        (λ v last tv g sizes. (ap (option_map packed_ty) o.1 ∙ ap (λ a. Some (packed_ty a)) (sym is) ∙ ap (λ a. Some a) (sym (packed-type (outline w.declared.layouts (NamedLayout l)) v)), packed-value-words (outline w.declared.layouts (NamedLayout l)) v, sizes))
    eval-typed (RaiseTree s x es) p t scope now i z h =
        let is = clean p t (RaiseTree s x es) h in
        let known = raised-there w own p x i.part is.middle in
        let arguments = no_front (list_faults (inside p) (expected_arguments (look_up x p.known.exceptions) es) es) _ h in
        all-typed w (types_at p.known p.vars es) None (eval_all w.declared call es scope now) (λ vs last. Raises (exception_number w.declared.exceptions x) vs last)
        (all-eval-typed es (inside p) (expected_arguments (look_up x p.known.exceptions) es) scope now (inner p scope i) z arguments)
        (λ vs last e words sizes. (known.2 ∙ ap (λ a. Some a) (sym (arguments-there p (look_up x p.known.exceptions) known.0 (value_tys vs) es known.1 arguments is.low e)), words, sizes))
    eval-typed (IfTree s c a b) p t scope now i z h =
        let first = type_at p.known p.vars a in
        let second = type_at p.known p.vars b in
        let rest = no_rest (faults (inside p) (of_type BoolTy) c) _ h in
        let left = no_front (faults p anything a) _ rest in
        let right = no_front (faults p (same_as first) b) _ (no_rest (faults p anything a) _ rest) in
        then-typed w (Some BoolTy) (or_ty first second) (eval w.declared call c scope now) (λ v next. if truth_of v then eval w.declared call a scope next else eval w.declared call b scope next)
        (wanted-typed w (inside p) BoolTy c (eval w.declared call c scope now) (no_front (faults (inside p) (of_type BoolTy) c) _ h) (eval-typed c (inside p) (of_type BoolTy) scope now (inner p scope i) z (no_front (faults (inside p) (of_type BoolTy) c) _ h)))
        (λ v next tv g sizes. choice-typed w (or_ty first second) (truth_of v) (eval w.declared call a scope next) (eval w.declared call b scope next)
        (first-typed w first second (eval w.declared call a scope next) (eval-typed a p anything scope next i sizes left))
        (second-typed w first second (eval w.declared call b scope next) (clean p (same_as first) b right).other (eval-typed b p (same_as first) scope next i sizes right)))
    eval-typed (TryTree s a x ps e) p t scope now i z h =
        let vars = bind_raised ps (look_up x p.known.exceptions) p.vars in
        let first = type_at p.known p.vars a in
        let second = type_at p.known vars e in
        let rest = no_rest (faults (inside p) anything a) _ h in
        let known = handled-there w own p x ps s i.part (no_front (at_span s (raised_kinds p.known x ps)) _ rest) in
        let handler = no_front (faults (with_vars vars p) (same_as first) e) _ (no_rest (at_span s (raised_kinds p.known x ps)) _ rest) in
        handled-typed w (exception_number w.declared.exceptions x) first second known.0 (λ vs next. eval w.declared call e (all_matched ps vs scope) next) (eval w.declared call a scope now) known.2 (clean (with_vars vars p) (same_as first) e handler).other
        (eval-typed a (inside p) anything scope now (inner p scope i) z (no_front (faults (inside p) anything a) _ h))
        (λ vs next same words sizes. eval-typed e (with_vars vars p) (same_as first) (all_matched ps vs scope) next (record {
          part = i.part;
          vars = ap (λ o. bind_raised ps o p.vars) known.1 ∙ ap (bind_all ps known.0) i.vars ∙ ap (λ ts. bind_all ps ts (scope_tys scope)) same ∙ sym (all-matched-types ps vs scope);
          words = all-matched-words ps vs scope words i.words;
        }) sizes handler)
    eval-typed (FetchTree s m n a) p t scope now i z h =
        let can : can_move m n ≡ true = where_not (can_move m n) 19 (no_front (wrong_access m n) _ (clean p t (FetchTree s m n a) h).middle) in
        then-typed w (Some WordTy) (Some (words_ty n)) (eval w.declared call a scope now) (λ v next. fetch m n (word_of v) next)
        (wanted-typed w (inside p) WordTy a (eval w.declared call a scope now) (no_front (faults (inside p) (of_type WordTy) a) _ h) (eval-typed a (inside p) (of_type WordTy) scope now (inner p scope i) z (no_front (faults (inside p) (of_type WordTy) a) _ h)))
        (λ v next tv g sizes. fetch-typed w m n (word_of v) next can sizes)
    eval-typed (BlockTree s sts e) p t scope now i z h =
        let vars = vars_behind p.known p.vars sts in
        stated-typed w vars (type_at p.known vars e) (run_all w.declared call sts scope now) (λ new next. eval w.declared call e new next)
        (run-all-typed sts (inside p) scope now (inner p scope i) z (no_front (statements_faults (inside p) sts) _ h))
        (λ new next is words sizes. eval-typed e (with_vars vars p) anything new next (record { part = i.part; vars = is; words = words }) sizes (no_front (faults (with_vars vars p) anything e) _ (no_rest (statements_faults (inside p) sts) _ h)))

    pub all-eval-typed : (es : Trees) (p : Context) (ws : List Expected) (scope : Scope) (now : Running) → Inside w own p scope → HasSizes now.packet → list_faults p ws es ≡ [] → AllComeTo w (types_at p.known p.vars es) (eval_all w.declared call es scope now)
    all-eval-typed no_trees p ws scope now i z h = (refl, no-words, z)
    all-eval-typed (tree_and e es) p [] scope now i z h =
        more-typed w (type_at p.known p.vars e) (types_at p.known p.vars (tree_and e es)) (eval w.declared call e scope now) (λ v next. before_rest v (eval_all w.declared call es scope next))
        (eval-typed e p a_value scope now i z (no_front (faults p a_value e) (list_faults p [] es) h))
        (λ v next tv g sizes. before-typed w (type_at p.known p.vars e) (types_at p.known p.vars es) v (eval_all w.declared call es scope next) tv g (all-eval-typed es p [] scope next i sizes (no_rest (faults p a_value e) (list_faults p [] es) h)))
    all-eval-typed (tree_and e es) p (t ∷ ws) scope now i z h =
        more-typed w (type_at p.known p.vars e) (types_at p.known p.vars (tree_and e es)) (eval w.declared call e scope now) (λ v next. before_rest v (eval_all w.declared call es scope next))
        (eval-typed e p t scope now i z (no_front (faults p t e) (list_faults p ws es) h))
        (λ v next tv g sizes. before-typed w (type_at p.known p.vars e) (types_at p.known p.vars es) v (eval_all w.declared call es scope next) tv g (all-eval-typed es p ws scope next i sizes (no_rest (faults p t e) (list_faults p ws es) h)))

    pub named-eval-typed : (es : NamedTrees) (p : Context) (scope : Scope) (now : Running) → Inside w own p scope → HasSizes now.packet → named_faults p es ≡ [] → NamedComeTo w (named_types_at p.known p.vars es) (eval_named w.declared call es scope now)
    named-eval-typed no_named_trees p scope now i z h = (refl, no-words, z)
    named-eval-typed (named_tree_and x e es) p scope now i z h =
        more-named-typed w (type_at p.known p.vars e) (named_types_at p.known p.vars (named_tree_and x e es)) (eval w.declared call e scope now) (λ v next. before_named x v (eval_named w.declared call es scope next))
        (eval-typed e p a_value scope now i z (no_front (faults p a_value e) (named_faults p es) h))
        (λ v next tv g sizes. before-named-typed w x (type_at p.known p.vars e) (named_types_at p.known p.vars es) v (eval_named w.declared call es scope next) tv g (named-eval-typed es p scope next i sizes (no_rest (faults p a_value e) (named_faults p es) h)))

    pub run-one-typed : (st : StatementTree) (p : Context) (scope : Scope) (now : Running) → Inside w own p scope → HasSizes now.packet → statement_faults p st ≡ [] → StatedComesTo w (vars_after p.known p.vars st) (run_one w.declared call st scope now)
    run-one-typed (LetStatement s q e) p scope now i z h =
        let t = type_at p.known p.vars e in
        then-stated-typed w t (bind_value q t p.vars) (eval w.declared call e scope now) (λ v next. GoesOn (matched q v scope) next)
        (eval-typed e p a_value scope now i z (no_front (faults p a_value e) _ h))
        (λ v next tv g sizes. (ap (λ o. bind_value q o p.vars) tv ∙ ap (bind q (value_ty v)) i.vars ∙ sym (matched-types q v scope), matched-words q v scope g i.words, sizes))
    run-one-typed (StoreStatement s m a e) p scope now i z h =
        let rest = no_rest (faults p (of_type WordTy) a) _ h in
        then-stated-typed w (type_at p.known p.vars a) p.vars (eval w.declared call a scope now) (λ v next. then_stated (eval w.declared call e scope next) (λ u last. store s scope m (word_of v) (words_of u) last))
        (eval-typed a p (of_type WordTy) scope now i z (no_front (faults p (of_type WordTy) a) _ h))
        (λ v next tv g sizes. then-stated-typed w (type_at p.known p.vars e) p.vars (eval w.declared call e scope next) (λ u last. store s scope m (word_of v) (words_of u) last)
        (eval-typed e p expected_stored scope next i sizes (no_front (faults p expected_stored e) _ rest))
        (λ u last tu words last-sizes. store-typed w s p.vars scope m (word_of v) (words_of u) last i.vars i.words words last-sizes))

    pub run-all-typed : (sts : StatementTrees) (p : Context) (scope : Scope) (now : Running) → Inside w own p scope → HasSizes now.packet → statements_faults p sts ≡ [] → StatedComesTo w (vars_behind p.known p.vars sts) (run_all w.declared call sts scope now)
    run-all-typed no_statements p scope now i z h = (i.vars, i.words, z)
    run-all-typed (statement_and st sts) p scope now i z h =
        let vars = vars_after p.known p.vars st in
        further-typed w vars (vars_behind p.known vars sts) (run_one w.declared call st scope now) (λ new next. run_all w.declared call sts new next)
        (run-one-typed st p scope now i z (no_front (statement_faults p st) (statements_faults (with_vars vars p) sts) h))
        (λ new next is words sizes. run-all-typed sts (with_vars vars p) new next (record { part = i.part; vars = is; words = words }) sizes (no_rest (statement_faults p st) (statements_faults (with_vars vars p) sts) h))

pub typed-eval : (w : Whole) (own : ℕ) (call : Calls) (p : Context) (wanted : Expected) (e : Tree) (scope : Scope) (now : Running) → IsPart w own p.known → CallsTyped w call → p.vars ≡ scope_tys scope → ScopeWords scope → HasSizes now.packet → faults p wanted e ≡ [] → ComesTo w (type_at p.known p.vars e) (eval w.declared call e scope now)
typed-eval w own call p wanted e scope now part typed vars words sizes none = eval-typed w own call typed e p wanted scope now (record { part = part; vars = vars; words = words }) sizes none
