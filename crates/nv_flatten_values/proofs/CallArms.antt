-- Calls, exceptions and blocks at the end of code.
use Rattle.std.proofs.Common.{◌≡◌, ◌∙◌, refl, ap, sym, subst, ℕ, zero, suc, is_none, List, [], ◌∷◌, ◌++◌, Option, Some, None, option_map, Vec, Global, slice_get, take, length}
use Rattle.std.proofs.Math.Seq.{take-append_seam}
use Rattle.nv_base.specs.declared.term.Atom.{Atom}
use Rattle.nv_base.specs.Words.{Env, atom_words}
use Rattle.nv_ast.specs.declared.token.Span.{Span}
use Rattle.nv_ast.specs.Tree.{Tree, CallTree, RaiseTree, BlockTree, Trees, StatementTrees, FunTree}
use Rattle.nv_ast.specs.Types.{type_of, named_types_of}
use Rattle.nv_ast.specs.Tests.{look_up}
use Rattle.nv_ast.specs.Scope.{Signature, Context, inside, with_vars, plain_tys, callable, signature}
use Rattle.nv_ast.specs.Typing.{types_at, vars_behind}
use Rattle.nv_ast.specs.Faults.{Expected, anything, faults, list_faults, statements_faults, node_faults, expected_arguments, params_of, wrong_number, unknown_function, not_in_tail}
use Rattle.nv_meaning.specs.Values.{words_of, all_words}
use Rattle.nv_meaning.specs.Running.{Raises, exception_number}
use Rattle.nv_meaning.specs.Meaning.{eval, eval_all, run_all, function_in}
use Rattle.flat_ir.specs.Running as flat
use Rattle.flat_ir.specs.Meaning as code
use Rattle.flat_ir.specs.Spine.{IsJoined}
use Rattle.flat_ir.specs.declared.flat.Flat.{Flat}
use Rattle.flat_ir.specs.declared.flat.Flat.TheVariants.{Call}
use Rattle.flat_ir.specs.declared.spine.Step.{Step}
use Rattle.nv_flatten_values.specs.inner.Symbols.{Symbol, Symbols, SymbolScope, all_operands, form, values_in, scope_in}
use Rattle.nv_flatten_values.specs.inner.Runs.{flat_run, ended}
use Rattle.nv_flatten_values.specs.inner.Soundness.{value_tys}
use Rattle.nv_flatten_values.specs.inner.Whole.{Whole, Stands, result_of}
use Rattle.nv_flatten_values.specs.inner.Simulation.{Names, Extends, IsEnd, AreValues, IsStated}
use Rattle.nv_flatten_values.proofs.Keeping.{all-words-fit, all-are-words, forms-of-values}
use Rattle.nv_flatten_values.proofs.NoFaults.{given, clean, arguments-typed}
use Rattle.nv_flatten_values.proofs.Following.{onward-all, onward-stated, stands-inside, values-more, stated-more}
use Rattle.nv_ast.proofs.Faultless.{no_front, no_rest, not_where}

-- ---- an exception
pub raise-end : (w : Whole) (names : Names) (low high : ℕ) (scope : SymbolScope) (sp : Span) (x : List ℕ) (es : Trees) (steps : List Step) (ss : Symbols) (k : ℕ) (last t : Flat)
    → AreValues w names low high scope es steps ss → k ≡ exception_number w.declared.exceptions x
    → ((call : code.Calls) (env : Env) (now : flat.Running) → code.does call last env now ≡ flat.Raises k (atom_words env (all_operands ss)) now) → IsJoined steps last t
    → IsEnd w names low high scope (RaiseTree sp x es) t None
raise-end w names low high scope sp x es steps ss k last t v number raises joined = record {
  simulates = λ own p wanted stands none older s env now begins.
      ap (λ act. act env (flat_run now)) (joined.by s.fcall)
      ∙ v.simulate own (inside p) (expected_arguments (look_up x p.known.exceptions) es) (stands-inside w own scope p stands)
      (no_front (list_faults (inside p) (expected_arguments (look_up x p.known.exceptions) es) es) (node_faults p wanted (RaiseTree sp x es)) none) older s env now begins (code.does s.fcall last)
      (λ vs now. flat.Raises (exception_number w.declared.exceptions x) (all_words vs) (flat_run now)) (λ a now. flat.Gives (words_of a) (flat_run now))
      (λ new behind done.
      raises s.fcall new (flat_run behind)
      ∙ ap (λ n. flat.Raises n (atom_words new (all_operands ss)) (flat_run behind)) number
      ∙ ap (λ l. flat.Raises (exception_number w.declared.exceptions x) l (flat_run behind)) (sym (all-words-fit new ss done.fits)))
      ∙ sym (onward-all (eval_all w.declared s.call es (scope_in env scope) now) (λ vs last. Raises (exception_number w.declared.exceptions x) vs last) (λ a last. flat.Gives (words_of a) (flat_run last)));
  formed = λ own p wanted stands none. refl;
}

-- ---- a block
pub block-end : (w : Whole) (names later : Names) (low mid high : ℕ) (scope inner : SymbolScope) (sp : Span) (sts : StatementTrees) (e : Tree) (steps : List Step) (last t : Flat) (o : Option Symbol)
    → IsStated w names low mid scope sts steps inner → IsEnd w later mid high inner e last o → Extends names later → IsJoined steps last t
    → IsEnd w later low high scope (BlockTree sp sts e) t o
block-end w names later low mid high scope inner sp sts e steps last t o v end more joined =
    let v' = stated-more w names later more low mid scope sts steps inner v in
    record {
      simulates = λ own p wanted stands none older s env now begins.
          ap (λ act. act env (flat_run now)) (joined.by s.fcall)
          ∙ v'.simulate own (inside p) (stands-inside w own scope p stands) (none-statements p wanted none) older s env now begins (code.does s.fcall last)
          (λ sc next. ended (eval w.declared s.call e sc next)) (λ a next. flat.Gives (words_of a) (flat_run next))
          (λ new next done. end.simulates own (with_vars (vars_behind p.known p.vars sts) p) anything (stands-behind own p wanted stands none) (none-last p wanted none) (v.older older) s new next (record { sizes = done.sizes; fits = done.fits }))
          ∙ sym (onward-stated (run_all w.declared s.call sts (scope_in env scope) now) (λ sc next. eval w.declared s.call e sc next) (λ a next. flat.Gives (words_of a) (flat_run next)));
      formed = λ own p wanted stands none. end.formed own (with_vars (vars_behind p.known p.vars sts) p) anything (stands-behind own p wanted stands none) (none-last p wanted none);
    }
  where
    none-statements : (p : Context) (wanted : Expected) → faults p wanted (BlockTree sp sts e) ≡ [] → statements_faults (inside p) sts ≡ []
    none-statements p wanted none = no_front (statements_faults (inside p) sts) (faults (with_vars (vars_behind p.known p.vars sts) p) anything e ++ node_faults p wanted (BlockTree sp sts e)) none

    none-last : (p : Context) (wanted : Expected) → faults p wanted (BlockTree sp sts e) ≡ [] → faults (with_vars (vars_behind p.known p.vars sts) p) anything e ≡ []
    none-last p wanted none = no_front (faults (with_vars (vars_behind p.known p.vars sts) p) anything e) (node_faults p wanted (BlockTree sp sts e)) (no_rest (statements_faults (inside p) sts) (faults (with_vars (vars_behind p.known p.vars sts) p) anything e ++ node_faults p wanted (BlockTree sp sts e)) none)

    stands-behind : (own : ℕ) (p : Context) (wanted : Expected) → Stands w own scope p → faults p wanted (BlockTree sp sts e) ≡ [] → Stands w own inner (with_vars (vars_behind p.known p.vars sts) p)
    stands-behind own p wanted stands none = record { part = stands.part; vars = v.formed own (inside p) (stands-inside w own scope p stands) (none-statements p wanted none) }

-- ---- a call
pub get-append : {A : Type 0} (xs ys : List A) (i : ℕ) (x : A) → slice_get xs i ≡ Some x → slice_get (xs ++ ys) i ≡ Some x
get-append [] ys i x h = cc
get-append (y ∷ xs) ys zero x h = h
get-append (y ∷ xs) ys (suc i) x h = get-append xs ys i x h

-- a function that is known, called with arguments of its parameters' types
record IsKnown (w : Whole) (own : ℕ) (p : Context) (f : List ℕ) (es : Trees) : Type 0 where
  pub signed : Signature
  pub found : look_up f (callable p.known) ≡ Some signed
  pub fun : FunTree
  pub inside_whole : function_in w.declared.functions f ≡ Some fun
  pub same : signature w.declared.layouts fun ≡ signed
  pub arguments : types_at p.known p.vars es ≡ Some (plain_tys signed.params)

known-call : (w : Whole) (own : ℕ) (scope : SymbolScope) (p : Context) (wanted : Expected) (sp : Span) (f : List ℕ) (es : Trees) → Stands w own scope p → faults p wanted (CallTree sp f es) ≡ [] → IsKnown w own p f es
known-call w own scope p wanted sp f es stands none =
    let low = (clean p wanted (CallTree sp f es) none).low in
    let g = given (look_up f (callable p.known)) (not_where (is_none (look_up f (callable p.known))) 11 (no_front (unknown_function p.known f) (not_in_tail p f ++ wrong_number (params_of p.known f) es) low)) in
    let params = ap (λ o. option_map (λ (s : Signature). plain_tys s.params) o) g.1 in
    let number = no_rest (not_in_tail p f) (wrong_number (params_of p.known f) es) (no_rest (unknown_function p.known f) (not_in_tail p f ++ wrong_number (params_of p.known f) es) low) in
    let list = no_front (list_faults (inside p) (expected_arguments (params_of p.known f) es) es) (node_faults p wanted (CallTree sp f es)) none in
    let callable' = stands.part.functions f g.0 g.1 in
    record {
      signed = g.0;
      found = g.1;
      fun = callable'.fun;
      inside_whole = callable'.found;
      same = callable'.signed;
      arguments = arguments-typed (inside p) (plain_tys g.0.params) es (subst (λ o. list_faults (inside p) (expected_arguments o es) es ≡ []) params list) (subst (λ o. wrong_number o es ≡ []) params number);
    }

pub call-end : (w : Whole) (names later : Names) (low high : ℕ) (scope : SymbolScope) (sp : Span) (f : List ℕ) (es : Trees) (steps : List Step) (ss : Symbols) (i : ℕ) (ws : Vec Atom Global) (t : Flat) (o : Option Symbol)
    → AreValues w names low high scope es steps ss → Extends names later → slice_get later i ≡ Some f → ws.items ≡ all_operands ss → IsJoined steps (Call i ws) t
    → option_map form o ≡ result_of w f → IsEnd w later low high scope (CallTree sp f es) t o
call-end w names later low high scope sp f es steps ss i ws t o v more named is joined result =
    let v' = values-more w names later more low high scope es steps ss v in
    record {
      simulates = λ own p wanted stands none older s env now begins.
          let k = known-call w own scope p wanted sp f es stands none in
          ap (λ act. act env (flat_run now)) (joined.by s.fcall)
          ∙ v'.simulate own (inside p) (expected_arguments (params_of p.known f) es) (stands-inside w own scope p stands) (none-list p wanted none) older s env now begins (code.does s.fcall (Call i ws))
          (λ vs last. ended (s.call f vs last)) (λ a last. flat.Gives (words_of a) (flat_run last))
          (λ new last done.
          ap (λ l. s.fcall i (atom_words new l) (flat_run last)) is
          ∙ ap (λ l. s.fcall i l (flat_run last)) (sym (all-words-fit new ss done.fits))
          ∙ s.same.agree i f k.fun (values_in new ss) last (still-named s.all s.more) k.inside_whole (typed-values own p wanted stands none new k) (all-are-words new ss done.fits) done.sizes)
          ∙ sym (onward-all (eval_all w.declared s.call es (scope_in env scope) now) (λ vs last. s.call f vs last) (λ a last. flat.Gives (words_of a) (flat_run last)));
      formed = λ own p wanted stands none.
          let k = known-call w own scope p wanted sp f es stands none in
          ap (λ q. option_map (λ g. g.result) q) k.found
          ∙ ap (λ g. Some g.result) (sym k.same)
          ∙ ap (λ q. option_map (λ g. type_of w.declared.layouts g.result) q) (sym k.inside_whole)
          ∙ sym result;
    }
  where
    none-list : (p : Context) (wanted : Expected) → faults p wanted (CallTree sp f es) ≡ [] → list_faults (inside p) (expected_arguments (params_of p.known f) es) es ≡ []
    none-list p wanted none = no_front (list_faults (inside p) (expected_arguments (params_of p.known f) es) es) (node_faults p wanted (CallTree sp f es)) none

    still-named : (all : Names) → Extends later all → slice_get all i ≡ Some f
    still-named all h = ap (λ l. slice_get l i) h.1 ∙ get-append later h.0 i f named

    typed-values : (own : ℕ) (p : Context) (wanted : Expected) → Stands w own scope p → faults p wanted (CallTree sp f es) ≡ [] → (new : _) (k : IsKnown w own p f es) → value_tys (values_in new ss) ≡ plain_tys (named_types_of w.declared.layouts k.fun.params)
    typed-values own p wanted stands none new k =
        forms-of-values new ss
        ∙ v.formed own (inside p) (expected_arguments (params_of p.known f) es) (stands-inside w own scope p stands) (none-list p wanted none) (plain_tys k.signed.params) k.arguments
        ∙ ap (λ g. plain_tys g.params) (sym k.same)

-- ---- a scope cut back to what it was
pub restored : {A : Type 0} (xs ys zs : List A) (n : ℕ) → zs ≡ take n ys → n ≡ length xs → Extends xs ys → zs ≡ xs
restored xs ys zs n e l added = e ∙ ap (λ k. take k ys) l ∙ ap (take (length xs)) added.1 ∙ take-append_seam xs added.0
