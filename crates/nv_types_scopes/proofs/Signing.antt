-- The text of a function, and its signature.
use Rattle.std.proofs.Common.{◌≡◌, ◌∙◌, refl, ap, sym, subst, ℕ, Bool, true, false, cond, ◌||◌, ◌&&◌, List, [], ◌∷◌, ◌++◌, None, is_some, is_none, Result, Ok, Err, bytes_eq, append_assoc, Vec, Global, nat_lt, not, true≢false}
use Rattle.std.specs.Borrow.{Bor}
use Rattle.std.specs.Cmp.Lexicographic.{bytes_decides}
use Rattle.std.proofs.lemmas.List.Folds.{list_any-append}
use Rattle.nv_ast.specs.Tree.{FunTree}
use Rattle.nv_ast.specs.Tests.{is_among, names_of, look_up, where_true}
use Rattle.nv_ast.specs.Types.{Tys, type_of, named_types_of, words, total_named_words, some_named_bool}
use Rattle.nv_ast.specs.Scope.{Signature, Known, callable, plain_tys, signature}
use Rattle.nv_ast.specs.Faults.{main_name, at_span, named_types_faults, type_faults, type_names, variable_twice, wide_main, signature_faults}
use Rattle.nv_ast.proofs.TypeWords.{plain_bool, plain_words}
use Rattle.nv_types_table.specs.declared.error.TypeError.{TypeError}
use Rattle.nv_types_table.specs.declared.error.TypeError.TheVariants.{NoMemory as WantOfMemory}
use Rattle.nv_types_table.specs.declared.table.Facts.{Facts}
use Rattle.nv_types_scopes.specs.declared.functions.Function.{Function}
use Rattle.nv_types_scopes.specs.declared.functions.Checker.{Checker}
use Rattle.nv_types_table.specs.inner.Cells.{still}
use Rattle.nv_types_table.specs.inner.Faulty.{IsFirstOf, Judges}
use Rattle.nv_types_table.specs.inner.Named.{named, bound_types}
use Rattle.nv_types_table.specs.inner.Knowing.{IsKnown, AreKnown}
use Rattle.nv_types_table.specs.inner.Store.{Store, Extends, IsType, IsParts, AreTypes, AreFields}
use Rattle.nv_types_scopes.specs.inner.Standing.{Alike, IsFunction, Holds, KeepsDeclared, Keeps}
use Rattle.nv_types_scopes.specs.inner.Texts.{TypesText, TypesNamed}
use Rattle.nv_types_scopes.specs.inner.Declarations.{is_wide, SignsFunction}
use Rattle.nv_types_table.proofs.Staying.{type_stays, named_stay}
use Rattle.nv_types_scopes.proofs.Alikes.{alike_append, among_look_up, names_of-append}
use Rattle.nv_types_scopes.proofs.Holding.{holds_stays, Keeps-trans}
use Rattle.nv_types_scopes.proofs.Params.{fields_names, fields_types, names_in_text}
use Rattle.nv_types_scopes.proofs.Declaring.{text_params, text_result, text_twice, text_main, over_eight}

-- ---- main's width
pub wide_known : (g : Signature) (f r : Facts) → AreKnown f (plain_tys g.params) → IsKnown r g.result → (nat_lt 8 f.words || (f.has_bool || nat_lt 8 r.words)) ≡ is_wide g
wide_known g f r params result =
    ap (λ n. nat_lt 8 n || (f.has_bool || nat_lt 8 r.words)) (params.of_words ∙ ap still (plain_words g.params))
    ∙ ap (λ b. b || (f.has_bool || nat_lt 8 r.words)) (over_eight (total_named_words g.params))
    ∙ ap (λ b. nat_lt 8 (total_named_words g.params) || (b || nat_lt 8 r.words)) (params.of_bool ∙ plain_bool g.params)
    ∙ ap (λ n. nat_lt 8 (total_named_words g.params) || (some_named_bool g.params || nat_lt 8 n)) result.of_words
    ∙ ap (λ b. nat_lt 8 (total_named_words g.params) || (some_named_bool g.params || b)) (over_eight (words g.result))

pub main_fits : {T : Type 0} (span : _) (name : List ℕ) (g : Signature) (r : Result T TypeError) → bytes_eq name main_name ≡ true → Judges (at_span span (where_true (is_wide g) 23)) r
    → Judges (at_span span (cond (bytes_eq name main_name) (wide_main g) [])) r
main_fits span name g r e h = subst (λ b. Judges (at_span span (cond b (wide_main g) [])) r) (sym e) h

pub not_main : (span : _) (name : List ℕ) (g : Signature) → bytes_eq name main_name ≡ false → at_span span (cond (bytes_eq name main_name) (wide_main g) []) ≡ []
not_main span name g e = ap (λ b. at_span span (cond b (wide_main g) [])) e

-- ---- the texts of a function
pub sign_err : {T : Type 0} (c new : Checker) (f : FunTree) (e : TypeError) → ((k : Known) → Holds c k → IsFirstOf (signature_faults k.layouts f) e) → SignsFunction {T = T} c new f (Err e)
sign_err c new f e h = record { judged = h; signed = λ k holds absent uncounted. tt; same_costs = tt; same_scope = tt }

pub sign_params_err : {T : Type 0} (c mid new : Checker) (f : FunTree) (e : TypeError) → TypesNamed c mid f.span f.params (Err e) → SignsFunction {T = T} c new f (Err e)
sign_params_err {T = T} c mid new f e h = sign_err {T = T} c new f e (λ k holds. text_params k.layouts f e (h.judged k holds))

pub sign_result_err : {T : Type 0} (c mid mid2 new : Checker) (f : FunTree) (v : Vec (Bor (List ℕ) × ℕ) Global) (e : TypeError) → TypesNamed c mid f.span f.params (Ok v) → TypesText mid mid2 f.span f.result (Err e) → SignsFunction {T = T} c new f (Err e)
sign_result_err {T = T} c mid mid2 new f v e params h =
    sign_err {T = T} c new f e (λ k holds. text_result k.layouts f e (params.judged k holds) (h.judged k (holds_stays c mid k params.keeps.declared holds)))

-- what the texts of a function are
pub record Read (c now : Checker) (f : FunTree) (params : List (List ℕ × ℕ)) (result : ℕ) : Type 0 where
  pub of_params : (k : Known) → Holds c k → at_span f.span (named_types_faults k.layouts f.params) ≡ []
  pub of_result : (k : Known) → Holds c k → at_span f.span (type_faults k.layouts f.result) ≡ []
  pub fields : (k : Known) → Holds c k → AreFields now.table params (named_types_of k.layouts f.params)
  pub typed : (k : Known) → Holds c k → IsType now.table result (type_of k.layouts f.result)
  pub keeps : Keeps c now

pub texts_read : (c mid now : Checker) (f : FunTree) (v : Vec (Bor (List ℕ) × ℕ) Global) (result : ℕ) → TypesNamed c mid f.span f.params (Ok v) → TypesText mid now f.span f.result (Ok result) → Read c now f (named v.items) result
texts_read c mid now f v result params h = record {
  of_params = params.judged;
  of_result = λ k holds. h.judged k (holds_stays c mid k params.keeps.declared holds);
  fields = λ k holds. named_stay mid.table now.table h.keeps.declared.grows (named v.items) (named_types_of k.layouts f.params) (params.typed k holds);
  typed = λ k holds. h.typed k (holds_stays c mid k params.keeps.declared holds);
  keeps = Keeps-trans c mid now params.keeps h.keeps;
}

param_names : (c now : Checker) (f : FunTree) (params : List (List ℕ × ℕ)) (result : ℕ) → Read c now f params result → (k : Known) → Holds c k → names_of params ≡ type_names f.params
param_names c now f params result read k holds = fields_names now.table params (named_types_of k.layouts f.params) (read.fields k holds) ∙ names_in_text k.layouts f.params

pub sign_twice_err : {T : Type 0} (c now new : Checker) (f : FunTree) (params : List (List ℕ × ℕ)) (result : ℕ) (e : TypeError) → Read c now f params result → IsFirstOf (at_span f.span (variable_twice (names_of params))) e → SignsFunction {T = T} c new f (Err e)
sign_twice_err {T = T} c now new f params result e read h =
    sign_err {T = T} c new f e
    (λ k holds. text_twice k.layouts f e (read.of_params k holds) (read.of_result k holds) (subst (λ names. IsFirstOf (at_span f.span (variable_twice names)) e) (param_names c now f params result read k holds) h))

once : (c now : Checker) (f : FunTree) (params : List (List ℕ × ℕ)) (result : ℕ) → Read c now f params result → at_span f.span (variable_twice (names_of params)) ≡ [] → (k : Known) → Holds c k → at_span f.span (variable_twice (type_names f.params)) ≡ []
once c now f params result read h k holds = subst (λ names. at_span f.span (variable_twice names) ≡ []) (param_names c now f params result read k holds) h

-- the list of the parameters' types in a table that grew
pub record Listed (old new : Store) (params : List (List ℕ × ℕ)) (list : ℕ) : Type 0 where
  pub grows : Extends old new
  pub made : (ts : Tys) → AreTypes old (bound_types params) ts → IsParts new list ts

list_known : (c now : Checker) (f : FunTree) (params : List (List ℕ × ℕ)) (result : ℕ) (table : Store) (list : ℕ) → Read c now f params result → Listed now.table table params list → (k : Known) → Holds c k → IsFunction table (record { params = list; result = result }) (signature k.layouts f)
list_known c now f params result table list read listed k holds = record {
  of_params = listed.made (plain_tys (named_types_of k.layouts f.params)) (fields_types now.table params (named_types_of k.layouts f.params) (read.fields k holds));
  of_result = type_stays now.table table listed.grows result (type_of k.layouts f.result) (read.typed k holds);
}

abbrev pub FitsMain : {T : Type 0} → Store → FunTree → ℕ → ℕ → Result T TypeError → Type 0
FitsMain table f list result r = (g : Signature) → IsParts table list (plain_tys g.params) → IsType table result g.result → Judges (at_span f.span (cond (bytes_eq f.name main_name) (wide_main g) [])) r

sign_judged : {T : Type 0} (c now : Checker) (f : FunTree) (params : List (List ℕ × ℕ)) (result : ℕ) (table : Store) (list : ℕ) (r : Result T TypeError) → Read c now f params result → at_span f.span (variable_twice (names_of params)) ≡ [] → Listed now.table table params list
    → FitsMain {T = T} table f list result r → (k : Known) → Holds c k → Judges (signature_faults k.layouts f) r
sign_judged {T = T} c now f params result table list r read twice listed main k holds =
    let is = list_known c now f params result table list read listed k holds in
    text_main {T = T} k.layouts f r (read.of_params k holds) (read.of_result k holds) (once c now f params result read twice k holds) (main (signature k.layouts f) is.of_params is.of_result)

pub sign_main_err : {T : Type 0} (U : Type 0) (c now new : Checker) (f : FunTree) (params : List (List ℕ × ℕ)) (result : ℕ) (table : Store) (list : ℕ) (e : TypeError) → Read c now f params result → at_span f.span (variable_twice (names_of params)) ≡ [] → Listed now.table table params list
    → FitsMain {T = U} table f list result (Err e) → SignsFunction {T = T} c new f (Err e)
sign_main_err {T = T} U c now new f params result table list e read twice listed main =
    sign_err {T = T} c new f e (λ k holds. sign_judged {T = U} c now f params result table list (Err e) read twice listed main k holds)

own_bool : (a n b : Bool) → (b ≡ true → n ≡ true) → ((a && n) || (b || false)) ≡ ((a || (b || false)) && n)
own_bool true n true h = by n (h refl)
  where
    by : (m : Bool) → m ≡ true → (m || true) ≡ m
    by true e = refl
    by false e = sym e
own_bool true true false h = refl
own_bool true false false h = refl
own_bool false n true h = sym (h refl)
own_bool false n false h = refl

none_there : {A : Type 0} (x y : List ℕ) (es : List (List ℕ × A)) → look_up y es ≡ None → bytes_eq x y ≡ true → is_none (look_up x es) ≡ true
none_there x y es e same = ap (λ z. is_none (look_up z es)) ((bytes_decides x y).0 same) ∙ ap is_none e

pub sign_ok : {T : Type 0} (U : Type 0) (c now : Checker) (f : FunTree) (params : List (List ℕ × ℕ)) (result : ℕ) (table : Store) (list : ℕ) (fs : List (List ℕ × Function)) (u : U) (r : T) → Read c now f params result → at_span f.span (variable_twice (names_of params)) ≡ []
    → Listed now.table table params list → FitsMain {T = U} table f list result (Ok u) → (look_up f.name now.functions ≡ None → fs ≡ now.functions ++ (f.name, record { params = list; result = result }) ∷ [])
    → SignsFunction {T = T} c (record now { table = table; functions = fs }) f (Ok r)
sign_ok {T = T} U c now f params result table list fs u r read twice listed main add = record {
  judged = λ k holds. sign_judged {T = U} c now f params result table list (Ok u) read twice listed main k holds;
  signed = λ k holds absent uncounted.
      let wider : KeepsDeclared now (record now { table = table }) = record { grows = listed.grows; same_layouts = refl; same_exceptions = refl; same_functions = refl; same_costs = refl } in
      let held = holds_stays now (record now { table = table }) k wider (holds_stays c now k read.keeps.declared holds) in
      let e = add (ap (look_up f.name) read.keeps.declared.same_functions ∙ absent) in
      let g = signature k.layouts f in
      let is = list_known c now f params result table list read listed k holds in
      let one : List (List ℕ × Function) = (f.name, record { params = list; result = result }) ∷ [] in
      record {
        of_layouts = held.of_layouts;
        of_exceptions = held.of_exceptions;
        of_functions = subst (λ l. Alike (IsFunction table) l (k.functions ++ (k.own ++ (f.name, g) ∷ []))) (sym e)
            (subst (λ l. Alike (IsFunction table) (now.functions ++ one) l) (append_assoc k.functions k.own ((f.name, g) ∷ []))
            (alike_append (IsFunction table) now.functions one (callable k) ((f.name, g) ∷ []) held.of_functions (refl, is, tt)));
        of_own = λ x.
            ap (is_among x) (names_of-append k.own ((f.name, g) ∷ []))
            ∙ list_any-append (bytes_eq x) (names_of k.own) (f.name ∷ [])
            ∙ ap (λ b. b || (bytes_eq x f.name || false)) (held.of_own x)
            ∙ own_bool (is_some (look_up x now.functions)) (is_none (look_up x now.costs)) (bytes_eq x f.name) (λ same. none_there x f.name now.costs (ap (look_up f.name) read.keeps.declared.same_costs ∙ uncounted) same)
            ∙ ap (λ b. (b || (bytes_eq x f.name || false)) && is_none (look_up x now.costs)) (among_look_up x now.functions)
            ∙ ap (λ b. b && is_none (look_up x now.costs)) (sym (among_look_up x fs ∙ ap (λ l. is_among x (names_of l)) e ∙ ap (is_among x) (names_of-append now.functions one) ∙ list_any-append (bytes_eq x) (names_of now.functions) (f.name ∷ [])));
      };
  same_costs = read.keeps.declared.same_costs;
  same_scope = read.keeps.same_scope;
}

pub sign_no_memory : {T : Type 0} (c new : Checker) (f : FunTree) → SignsFunction {T = T} c new f (Err WantOfMemory)
sign_no_memory {T = T} c new f = sign_err {T = T} c new f WantOfMemory (λ k holds. tt)

-- whether main is too wide, by one test after another
pub wide_here : (a b d v : Bool) → a ≡ true → v ≡ true → v ≡ (a || (b || d))
wide_here true b d v e f = f
wide_here false b d v e f = absurd (true≢false (sym e))

pub wide_next : (a b d v : Bool) → v ≡ true → v ≡ b → v ≡ (a || (b || d))
wide_next true b d v e f = e
wide_next false true d v e f = f
wide_next false false d v e f = absurd (true≢false (sym e ∙ f))

pub wide_last : (a b d v : Bool) → v ≡ false → a ≡ false → v ≡ b → d ≡ (a || (b || d))
wide_last true b d v e f g = absurd (true≢false f)
wide_last false true d v e f g = absurd (true≢false (sym g ∙ e))
wide_last false false d v e f g = refl

pub not_wide : (v : Bool) {P : Type 0} → v ≡ false → v ≡ true → P
not_wide true e f = absurd (true≢false e)
not_wide false e f = absurd (true≢false (sym f))

pub is_not : (b r : Bool) → r ≡ not b → r ≡ true → b ≡ false
is_not true r e f = absurd (true≢false (sym f ∙ e))
is_not false r e f = refl

pub is_so : (b r : Bool) → r ≡ not b → r ≡ false → b ≡ true
is_so true r e f = refl
is_so false r e f = absurd (true≢false (sym e ∙ f))
