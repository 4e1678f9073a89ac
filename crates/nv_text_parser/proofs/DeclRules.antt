-- Declarations made of their parts.
use Rattle.std.proofs.Common.{◌≡◌, refl, ◌∙◌, ap, subst, ℕ, ◌+◌, ◌≤◌, List, [], ◌∷◌, ◌++◌, arith}
use Rattle.std.specs.Prelude.{map}
use Rattle.nv_ast.specs.declared.token.Span.{Span}
use Rattle.nv_ast.specs.declared.token.Token.{Token}
use Rattle.nv_ast.specs.declared.tree.Fun.{Fun}
use Rattle.nv_ast.specs.declared.tree.Decl.{Decl}
use Rattle.nv_ast.specs.declared.tree.Decl.TheVariants.{Layout, Exception, Group}
use Rattle.nv_ast.specs.Tokens.{to, a_name, key_layout, key_exception, key_fun, key_and, sign_is, sign_colon, sign_semicolon, sign_open_brace, sign_close_brace, sign_open_bracket, sign_close_bracket}
use Rattle.nv_ast.specs.Tree.{Tree, TypeTree, TypeTrees, NamedTypes, LayoutTree, FunTree, DeclTree, LayoutDecl, ExceptionDecl, GroupDecl}
use Rattle.nv_ast.specs.Height.{fun_height, highest_fun, decl_height, highest_decl}
use Rattle.nv_ast.specs.ProgramView.{fun_tree, decl_tree}
use Rattle.nv_ast.specs.Exceptions.{exceptions}
use Rattle.nv_ast.specs.Grammar.{IsParams, IsType, IsTypes, IsExpr, IsLayout, IsFun, function, IsMoreFuns, no_fun, next_fun, IsDecl, layout_decl, exception_decl, group, IsDecls, no_decl, next_decl}
use Rattle.nv_text_parser.specs.inner.Lists.{FunsAfter}

pub function_of : {x : List ℕ} {ps : NamedTypes} {r : TypeTree} {e : Tree} (s t u v w y : Span) {t0 t1 t2 t3 t4 t5 t6 t7 t8 k : List Token} → t0 ≡ a_name s x ∷ t1 → t1 ≡ sign_open_bracket t ∷ t2 → IsParams ps t2 t3 → t3 ≡ sign_close_bracket u ∷ t4 → t4 ≡ sign_colon v ∷ t5 → IsType r t5 t6 → t6 ≡ sign_open_brace w ∷ t7 → IsExpr e t7 t8 → t8 ≡ sign_close_brace y ∷ k → IsFun (record { name = x; params = ps; result = r; body = e; span = to s y }) t0 k
function_of {ps = ps} {r = rr} {e = body} s t u v w y {t2 = t2} {t5 = t5} {t7 = t7} e0 e1 p e3 e4 r e6 b e8 =
    rw (e0, e1) (function (subst (λ z. IsParams ps t2 z) (e3 ∙ ap (λ z. sign_close_bracket u ∷ z) e4) p) (subst (λ z. IsType rr t5 z) e6 r) (subst (λ z. IsExpr body t7 z) e8 b))

map_push : (xs : List Fun) (y : Fun) → map fun_tree (xs ++ y ∷ []) ≡ map fun_tree xs ++ fun_tree y ∷ []
map_push [] y = refl
map_push (x ∷ xs) y = ap (λ z. fun_tree x ∷ z) (map_push xs y)

highest_fun_snoc : (fs : List FunTree) (f : FunTree) → highest_fun fs ≤ 100 → fun_height f ≤ 100 → highest_fun (fs ++ f ∷ []) ≤ 100
highest_fun_snoc [] f h g = omega arith
highest_fun_snoc (x ∷ fs) f h g = let i = highest_fun_snoc fs f (omega arith) g in omega arith

pub highest_fun_one : (all : List Fun) (f : Fun) → all ≡ f ∷ [] → fun_height (fun_tree f) ≤ 100 → highest_fun (map fun_tree all) ≤ 100
highest_fun_one all f e h = rw e (omega arith)

pub highest_fun_push : (items all : List Fun) (f : Fun) → all ≡ items ++ f ∷ [] → highest_fun (map fun_tree items) ≤ 100 → fun_height (fun_tree f) ≤ 100 → highest_fun (map fun_tree all) ≤ 100
highest_fun_push items all f e h g = rw (e, map_push items f) (highest_fun_snoc (map fun_tree items) (fun_tree f) h g)

funs_on : {fs : List FunTree} {f : FunTree} {s : Span} {ts us vs k : List Token} → IsMoreFuns fs ts us → us ≡ key_and s ∷ vs → IsFun f vs k → IsMoreFuns (fs ++ f ∷ []) ts k
funs_on no_fun e d = rw e (next_fun d no_fun)
funs_on (next_fun b c) e d = next_fun b (funs_on c e d)

pub funs_start : (all : List Fun) (f : Fun) (ts : List Token) → all ≡ f ∷ [] → FunsAfter (fun_tree f) (map fun_tree all) ts ts
funs_start all f ts e = record { new = []; list = no_fun; whole = ap (map fun_tree) e }

pub funs_step : (items all : List Fun) (f : Fun) (first : FunTree) (s : Span) (ts us vs k : List Token) → FunsAfter first (map fun_tree items) ts us → us ≡ key_and s ∷ vs → IsFun (fun_tree f) vs k → all ≡ items ++ f ∷ [] → FunsAfter first (map fun_tree all) ts k
funs_step items all f first s ts us vs k b g d e = record {
  new = b.new ++ fun_tree f ∷ [];
  list = funs_on b.list g d;
  whole = ap (map fun_tree) e ∙ (map_push items f ∙ ap (λ z. z ++ fun_tree f ∷ []) b.whole);
}

pub group_of : {f : FunTree} {all : List FunTree} (s : Span) {us vs k : List Token} → IsFun f us vs → FunsAfter f all vs k → IsDecl (GroupDecl all) (key_fun s ∷ us) k
group_of s d b = rw b.whole (group d b.list)

pub layout_decl_of : {x : List ℕ} {l : LayoutTree} (s t u v : Span) {t0 t1 t2 t3 k : List Token} → t0 ≡ a_name t x ∷ t1 → t1 ≡ sign_is u ∷ t2 → IsLayout l t2 t3 → t3 ≡ sign_semicolon v ∷ k → IsDecl (LayoutDecl x l (to s v)) (key_layout s ∷ t0) k
layout_decl_of {l = l} s t u v {t2 = t2} e f d g = rw (e, f) (layout_decl (subst (λ z. IsLayout l t2 z) g d))

pub exception_decl_of : {x : List ℕ} {bs : TypeTrees} (s t u v w : Span) {t0 t1 t2 t3 t4 k : List Token} → t0 ≡ a_name t x ∷ t1 → t1 ≡ sign_open_bracket u ∷ t2 → IsTypes bs t2 t3 → t3 ≡ sign_close_bracket v ∷ t4 → t4 ≡ sign_semicolon w ∷ k → IsDecl (ExceptionDecl x bs (to s w)) (key_exception s ∷ t0) k
exception_decl_of {bs = bs} s t u v w {t2 = t2} e f d g h = rw (e, f) (exception_decl (subst (λ z. IsTypes bs t2 z) (g ∙ ap (λ z. sign_close_bracket v ∷ z) h) d))

map_decls_push : (xs : List Decl) (y : Decl) → map decl_tree (xs ++ y ∷ []) ≡ map decl_tree xs ++ decl_tree y ∷ []
map_decls_push [] y = refl
map_decls_push (x ∷ xs) y = ap (λ z. decl_tree x ∷ z) (map_decls_push xs y)

decls_on : {ds : List DeclTree} {d : DeclTree} {ts us k : List Token} → IsDecls ds ts us → IsDecl d us k → IsDecls (ds ++ d ∷ []) ts k
decls_on no_decl d = next_decl d no_decl
decls_on (next_decl b c) d = next_decl b (decls_on c d)

pub decls_step : (items all : List Decl) (d : Decl) (ts us k : List Token) → IsDecls (map decl_tree items) ts us → IsDecl (decl_tree d) us k → all ≡ items ++ d ∷ [] → IsDecls (map decl_tree all) ts k
decls_step items all d ts us k b c e = rw (e, map_decls_push items d) (decls_on b c)

highest_decl_snoc : (ds : List DeclTree) (d : DeclTree) → highest_decl ds ≤ 100 → decl_height d ≤ 100 → highest_decl (ds ++ d ∷ []) ≤ 100
highest_decl_snoc [] d h g = omega arith
highest_decl_snoc (x ∷ ds) d h g = let i = highest_decl_snoc ds d (omega arith) g in omega arith

pub highest_decl_push : (items all : List Decl) (d : Decl) → all ≡ items ++ d ∷ [] → highest_decl (map decl_tree items) ≤ 100 → decl_height (decl_tree d) ≤ 100 → highest_decl (map decl_tree all) ≤ 100
highest_decl_push items all d e h g = rw (e, map_decls_push items d) (highest_decl_snoc (map decl_tree items) (decl_tree d) h g)

exceptions_snoc : (ds : List Decl) (d : Decl) → exceptions (ds ++ d ∷ []) ≡ exceptions ds + exceptions (d ∷ [])
exceptions_snoc [] d = omega arith
exceptions_snoc (Layout n l s ∷ ds) d = exceptions_snoc ds d
exceptions_snoc (Exception n l s ∷ ds) d = let h = exceptions_snoc ds d in omega arith
exceptions_snoc (Group fs ∷ ds) d = exceptions_snoc ds d

pub exceptions_push : (items all : List Decl) (d : Decl) → all ≡ items ++ d ∷ [] → exceptions all ≡ exceptions items + exceptions (d ∷ [])
exceptions_push items all d e = ap exceptions e ∙ exceptions_snoc items d
