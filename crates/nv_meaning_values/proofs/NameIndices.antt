-- What a table of declarations finds.
use Rattle.std.proofs.Common.{◌≡◌, ℕ, zero, suc, ◌+◌, ◌<◌, ◌≤◌, Bool, true, false, not, List, [], ◌∷◌, ◌++◌, refl, sym, ap, ◌∙◌, subst, length, take, drop, get_or, map, add-one, Option, Some, None, bytes_eq, if◌then◌else◌, append_assoc, append-nil, length-append, arith, Bor, cond}
use Rattle.std.proofs.Math.Seq.{take-append_seam}
use Rattle.std.proofs.lemmas.List.{take_all, length-map, map-append, drop_all}
use Rattle.std.proofs.lemmas.Bool.{cond-true, cond-false}
use Rattle.std.proofs.lemmas.Slice.Eq.{bytes_eq-Decides}
use Rattle.std.specs.Cmp.Lexicographic.{nat_list_eq_equiv}
use Rattle.std.specs.Map.{update}
use Rattle.std.specs.Option.{is_some, is_none, option_copied}
use Rattle.std.proofs.lemmas.Option.{same_Some}
use Rattle.nv_ast.specs.declared.tree.Fun.{Fun}
use Rattle.nv_ast.specs.declared.tree.Decl.{Decl}
use Rattle.nv_ast.specs.declared.tree.LayoutText.{LayoutText}
use Rattle.nv_ast.specs.Exceptions.{exceptions}
use Rattle.nv_ast.specs.ProgramView.{fun_tree, decl_tree}
use Rattle.nv_ast.specs.LayoutView.{layout_tree}
use Rattle.nv_ast.specs.Tests.{value_at}
use Rattle.nv_ast.specs.Outline.{OutlineTree, Layouts, outline, PartsOutline, no_named_outlines}
use Rattle.nv_ast.specs.Tree.{LayoutTree, FunTree, DeclTree, LayoutDecl, ExceptionDecl, GroupDecl, ProgramTree}
use Rattle.nv_meaning_values.specs.Declarations.{Declared, with_decl, with_decls, declared, function_in}
use Rattle.nv_meaning_values.specs.inner.Tables.{place_from, or_else, laid, layout_pairs, functions_in, layouts_in, exceptions_in}
use Rattle.nv_ast.proofs.Items.{take_item, next_item}
use Rattle.nv_ast.proofs.ExceptionCounts.{exceptions_append}

-- ---- places
pub or_else-none : (a : Option ℕ) → or_else a None ≡ a
or_else-none None = refl
or_else-none (Some i) = refl

-- one name more
pub place-step : (a : Option ℕ) (i : ℕ) (x y : List ℕ) (ys : List (List ℕ)) → or_else (or_else a (if bytes_eq x y then Some i else None)) (place_from (suc i) x ys) ≡ or_else a (place_from i x (y ∷ ys))
place-step (Some j) i x y ys = refl
place-step None i x y ys = by (bytes_eq x y)
  where
    by : (b : Bool) → or_else (if b then Some i else None) (place_from (suc i) x ys) ≡ (if b then Some i else place_from (suc i) x ys)
    by true = refl
    by false = refl

-- a name that had no place has one now
pub place-new : (f g : List ℕ → Option ℕ) (name : List ℕ) (place : ℕ) → f name ≡ None → ((x : List ℕ) → g x ≡ update bytes_eq f name (Some place) x) → (x : List ℕ) → g x ≡ or_else (f x) (if bytes_eq x name then Some place else None)
place-new f g name place none h x = h x ∙ by (bytes_eq x name) refl
  where
    by : (b : Bool) → bytes_eq x name ≡ b → cond (bytes_eq name x) (Some place) (f x) ≡ or_else (f x) (if bytes_eq x name then Some place else None)
    by true e =
        cond-true (bytes_eq name x) (Some place) (f x) (nat_list_eq_equiv.symm name x ∙ e)
        ∙ sym (ap (λ b. or_else (f x) (if b then Some place else None)) e ∙ ap (λ o. or_else o (Some place)) (ap f ((bytes_eq-Decides x name).0 e) ∙ none))
    by false e =
        cond-false (bytes_eq name x) (Some place) (f x) (nat_list_eq_equiv.symm name x ∙ e)
        ∙ sym (ap (λ b. or_else (f x) (if b then Some place else None)) e ∙ or_else-none (f x))

-- what a look-up answers
pub none-copied : (o : Option (Bor ℕ)) (b : Bool) (p : Option ℕ) → option_copied o ≡ p → is_some o ≡ not b → b ≡ true → p ≡ None
none-copied None b p e f g = sym e
none-copied (Some x) b p e f g = let k : true ≡ false = f ∙ ap not g in cc

some_there : (o : Option ℕ) → is_none o ≡ false → (j : ℕ) × (o ≡ Some j)
some_there None h = cc
some_there (Some j) h = (j, refl)

-- a name that has a place keeps it
pub place-kept : (f : List ℕ → Option ℕ) (name : List ℕ) (place : ℕ) → is_none (f name) ≡ false → (x : List ℕ) → f x ≡ or_else (f x) (if bytes_eq x name then Some place else None)
place-kept f name place some x = by (bytes_eq x name) refl
  where
    by : (b : Bool) → bytes_eq x name ≡ b → f x ≡ or_else (f x) (if bytes_eq x name then Some place else None)
    by true e =
        let j = some_there (f name) some in
        let here : f x ≡ Some j.0 = ap f ((bytes_eq-Decides x name).0 e) ∙ j.1 in
        here ∙ sym (ap (λ o. or_else o (if bytes_eq x name then Some place else None)) here)
    by false e = sym (ap (λ b. or_else (f x) (if b then Some place else None)) e ∙ or_else-none (f x))

-- a turn over named things
pub place-turn : {A : Type 0} (name_of : A → List ℕ) (f g : List ℕ → Option ℕ) (xs : List A) (i : ℕ) (a : A) → i < length xs → a ≡ get_or xs i a
    → ((x : List ℕ) → g x ≡ or_else (f x) (if bytes_eq x (name_of a) then Some i else None))
    → ((x : List ℕ) → or_else (f x) (place_from i x (map name_of (drop i xs))) ≡ place_from 0 x (map name_of xs))
    → (x : List ℕ) → or_else (g x) (place_from (i + 1) x (map name_of (drop (i + 1) xs))) ≡ place_from 0 x (map name_of xs)
place-turn name_of f g xs i a h is step before x =
    ap (λ o. or_else o (place_from (i + 1) x (map name_of (drop (i + 1) xs)))) (step x)
    ∙ ap (λ k. or_else (or_else (f x) (if bytes_eq x (name_of a) then Some i else None)) (place_from k x (map name_of (drop (i + 1) xs)))) (add-one i)
    ∙ place-step (f x) i x (name_of a) (map name_of (drop (i + 1) xs))
    ∙ ap (λ l. or_else (f x) (place_from i x (map name_of l))) (sym (next_item xs i a h is))
    ∙ before x

pub place-done : {A : Type 0} (name_of : A → List ℕ) (f : List ℕ → Option ℕ) (xs : List A) (i : ℕ) → length xs ≤ i
    → ((x : List ℕ) → or_else (f x) (place_from i x (map name_of (drop i xs))) ≡ place_from 0 x (map name_of xs))
    → (x : List ℕ) → f x ≡ place_from 0 x (map name_of xs)
place-done name_of f xs i h before x = sym (or_else-none (f x)) ∙ ap (λ l. or_else (f x) (place_from i x (map name_of l))) (sym (drop_all i xs h)) ∙ before x

pub place-first : {A : Type 0} (name_of : A → List ℕ) (f : List ℕ → Option ℕ) (xs : List A) → ((x : List ℕ) → f x ≡ None) → (x : List ℕ) → or_else (f x) (place_from 0 x (map name_of (drop 0 xs))) ≡ place_from 0 x (map name_of xs)
place-first name_of f xs none x = ap (λ o. or_else o (place_from 0 x (map name_of (drop 0 xs)))) (none x)

-- what stands at the place of a name
pub record Stands (i j n : ℕ) : Type 0 where
  pub from : i ≤ j
  pub below : j < i + n

pub place-stands : (i j : ℕ) (x : List ℕ) (ys : List (List ℕ)) → place_from i x ys ≡ Some j → Stands i j (length ys)
place-stands i j x [] h = cc
place-stands i j x (y ∷ ys) h = by (bytes_eq x y) refl (λ k. place-stands (suc i) j x ys k)
  where
    by : (b : Bool) → bytes_eq x y ≡ b → (place_from (suc i) x ys ≡ Some j → Stands (suc i) j (length ys)) → Stands i j (length (y ∷ ys))
    by true e next = let k : i ≡ j = same_Some _ _ (sym (ap (λ b. if b then Some i else place_from (suc i) x ys) e) ∙ h) in record { from = omega arith; below = omega arith }
    by false e next = let r = next (sym (ap (λ b. if b then Some i else place_from (suc i) x ys) e) ∙ h) in record { from = (let k : suc i ≤ j = r.from in omega arith); below = (let k : j < suc i + length ys = r.below in omega arith) }

pub place-below : {A : Type 0} (name_of : A → List ℕ) (xs : List A) (x : List ℕ) (j : ℕ) → place_from 0 x (map name_of xs) ≡ Some j → j < length xs
place-below name_of xs x j h =
    let r = place-stands 0 j x (map name_of xs) h in
    let s : j < 0 + length (map name_of xs) = r.below in
    let e : length (map name_of xs) ≡ length xs = length-map xs name_of in
    omega arith

-- ---- functions
abbrev pub names_of : List (Bor Fun) → List (List ℕ)
names_of fs = map (λ f. f.now.name) fs

abbrev pub trees_of : List (Bor Fun) → List FunTree
trees_of fs = map (λ f. fun_tree f.now) fs

pub function-none : (i : ℕ) (x : List ℕ) (fs : List (Bor Fun)) → place_from i x (names_of fs) ≡ None → function_in (trees_of fs) x ≡ None
function-none i x [] h = refl
function-none i x (f ∷ fs) h = by (bytes_eq x f.now.name) refl (λ k. function-none (suc i) x fs k)
  where
    by : (b : Bool) → bytes_eq x f.now.name ≡ b → (place_from (suc i) x (names_of fs) ≡ None → function_in (trees_of fs) x ≡ None) → function_in (trees_of (f ∷ fs)) x ≡ None
    by true e next = let k : Some i ≡ None = sym (ap (λ b. if b then Some i else place_from (suc i) x (names_of fs)) e) ∙ h in cc
    by false e next = ap (λ b. if b then Some (fun_tree f.now) else function_in (trees_of fs) x) e ∙ next (sym (ap (λ b. if b then Some i else place_from (suc i) x (names_of fs)) e) ∙ h)

pub function-found : (i k : ℕ) (x : List ℕ) (fs : List (Bor Fun)) (d : Bor Fun) → place_from i x (names_of fs) ≡ Some (i + k) → function_in (trees_of fs) x ≡ Some (fun_tree (get_or fs k d).now)
function-found i k x [] d h = cc
function-found i k x (f ∷ fs) d h = by (bytes_eq x f.now.name) refl (λ k h. function-found (suc i) k x fs d h) k h
  where
    by : (b : Bool) → bytes_eq x f.now.name ≡ b → ((k : ℕ) → place_from (suc i) x (names_of fs) ≡ Some (suc i + k) → function_in (trees_of fs) x ≡ Some (fun_tree (get_or fs k d).now)) → (k : ℕ) → place_from i x (names_of (f ∷ fs)) ≡ Some (i + k) → function_in (trees_of (f ∷ fs)) x ≡ Some (fun_tree (get_or (f ∷ fs) k d).now)
    by true e next zero h = ap (λ b. if b then Some (fun_tree f.now) else function_in (trees_of fs) x) e
    by true e next (suc k) h = let s : i ≡ i + suc k = same_Some _ _ (sym (ap (λ b. if b then Some i else place_from (suc i) x (names_of fs)) e) ∙ h) in absurd (omega arith)
    by false e next zero h = let r = place-stands (suc i) (i + 0) x (names_of fs) (sym (ap (λ b. if b then Some i else place_from (suc i) x (names_of fs)) e) ∙ h) in let s : suc i ≤ i + 0 = r.from in absurd (omega arith)
    by false e next (suc k) h =
        let s : i + suc k ≡ suc i + k = omega arith in
        ap (λ b. if b then Some (fun_tree f.now) else function_in (trees_of fs) x) e
        ∙ next k (sym (ap (λ b. if b then Some i else place_from (suc i) x (names_of fs)) e) ∙ h ∙ ap (λ j. Some j) s)

-- ---- what a program declares
pub declared-functions : (d : Declared) (ds : List DeclTree) → (with_decls d ds).functions ≡ d.functions ++ functions_in ds
declared-functions d [] = sym (append-nil d.functions)
declared-functions d (LayoutDecl x l s ∷ ds) = declared-functions (with_decl d (LayoutDecl x l s)) ds
declared-functions d (ExceptionDecl x ts s ∷ ds) = declared-functions (with_decl d (ExceptionDecl x ts s)) ds
declared-functions d (GroupDecl fs ∷ ds) = declared-functions (with_decl d (GroupDecl fs)) ds ∙ append_assoc d.functions fs (functions_in ds)

pub declared-exceptions : (d : Declared) (ds : List DeclTree) → (with_decls d ds).exceptions ≡ d.exceptions ++ exceptions_in ds
declared-exceptions d [] = sym (append-nil d.exceptions)
declared-exceptions d (LayoutDecl x l s ∷ ds) = declared-exceptions (with_decl d (LayoutDecl x l s)) ds
declared-exceptions d (ExceptionDecl x ts s ∷ ds) = declared-exceptions (with_decl d (ExceptionDecl x ts s)) ds ∙ append_assoc d.exceptions (x ∷ []) (exceptions_in ds)
declared-exceptions d (GroupDecl fs ∷ ds) = declared-exceptions (with_decl d (GroupDecl fs)) ds

pub declared-layouts : (d : Declared) (ds : List DeclTree) → (with_decls d ds).layouts ≡ laid d.layouts (layouts_in ds)
declared-layouts d [] = refl
declared-layouts d (LayoutDecl x l s ∷ ds) = declared-layouts (with_decl d (LayoutDecl x l s)) ds
declared-layouts d (ExceptionDecl x ts s ∷ ds) = declared-layouts (with_decl d (ExceptionDecl x ts s)) ds
declared-layouts d (GroupDecl fs ∷ ds) = declared-layouts (with_decl d (GroupDecl fs)) ds

-- ---- layouts
-- those that are known stay in front
pub laid-front : (known : Layouts) (ls : List (List ℕ × LayoutTree)) → (more' : Layouts) × (laid known ls ≡ known ++ more')
laid-front known [] = ([], sym (append-nil known))
laid-front known (l ∷ ls) = let r = laid-front (known ++ (l.0, outline known l.1) ∷ []) ls in ((l.0, outline known l.1) ∷ r.0, r.1 ∙ append_assoc known ((l.0, outline known l.1) ∷ []) r.0)

pub laid-append : (known : Layouts) (ls ms : List (List ℕ × LayoutTree)) → laid known (ls ++ ms) ≡ laid (laid known ls) ms
laid-append known [] ms = refl
laid-append known (l ∷ ls) ms = laid-append (known ++ (l.0, outline known l.1) ∷ []) ls ms

-- ---- declarations one after another
functions-append : (xs ys : List DeclTree) → functions_in (xs ++ ys) ≡ functions_in xs ++ functions_in ys
functions-append [] ys = refl
functions-append (LayoutDecl x l s ∷ xs) ys = functions-append xs ys
functions-append (ExceptionDecl x ts s ∷ xs) ys = functions-append xs ys
functions-append (GroupDecl fs ∷ xs) ys = ap (λ l. fs ++ l) (functions-append xs ys) ∙ sym (append_assoc fs (functions_in xs) (functions_in ys))

layouts-append : (xs ys : List DeclTree) → layouts_in (xs ++ ys) ≡ layouts_in xs ++ layouts_in ys
layouts-append [] ys = refl
layouts-append (LayoutDecl x l s ∷ xs) ys = ap (λ r. (x, l) ∷ r) (layouts-append xs ys)
layouts-append (ExceptionDecl x ts s ∷ xs) ys = layouts-append xs ys
layouts-append (GroupDecl fs ∷ xs) ys = layouts-append xs ys

exceptions-append : (xs ys : List DeclTree) → exceptions_in (xs ++ ys) ≡ exceptions_in xs ++ exceptions_in ys
exceptions-append [] ys = refl
exceptions-append (LayoutDecl x l s ∷ xs) ys = exceptions-append xs ys
exceptions-append (ExceptionDecl x ts s ∷ xs) ys = ap (λ r. x ∷ r) (exceptions-append xs ys)
exceptions-append (GroupDecl fs ∷ xs) ys = exceptions-append xs ys

-- a turn over the declarations
module _ (ds : List Decl) (i : ℕ) (d : Decl) (h : i < length ds) (is : d ≡ get_or ds i d) where
  turn : map decl_tree (take (i + 1) ds) ≡ map decl_tree (take i ds) ++ decl_tree d ∷ []
  turn = ap (λ l. map decl_tree l) (take_item ds i d h is) ∙ map-append decl_tree (take i ds) (d ∷ [])

  pub functions-turn : (old new b : List FunTree) → old ≡ functions_in (map decl_tree (take i ds)) → functions_in (decl_tree d ∷ []) ≡ b → new ≡ old ++ b → new ≡ functions_in (map decl_tree (take (i + 1) ds))
  functions-turn old new b before these n =
      n ∙ ap (λ l. l ++ b) before ∙ ap (λ l. functions_in (map decl_tree (take i ds)) ++ l) (sym these)
      ∙ sym (ap functions_in turn ∙ functions-append (map decl_tree (take i ds)) (decl_tree d ∷ []))

  pub layouts-turn : (old new b : List (List ℕ × LayoutTree)) → old ≡ layouts_in (map decl_tree (take i ds)) → layouts_in (decl_tree d ∷ []) ≡ b → new ≡ old ++ b → new ≡ layouts_in (map decl_tree (take (i + 1) ds))
  layouts-turn old new b before these n =
      n ∙ ap (λ l. l ++ b) before ∙ ap (λ l. layouts_in (map decl_tree (take i ds)) ++ l) (sym these)
      ∙ sym (ap layouts_in turn ∙ layouts-append (map decl_tree (take i ds)) (decl_tree d ∷ []))

  pub exceptions-turn : (old new b : List (List ℕ)) → old ≡ exceptions_in (map decl_tree (take i ds)) → exceptions_in (decl_tree d ∷ []) ≡ b → new ≡ old ++ b → new ≡ exceptions_in (map decl_tree (take (i + 1) ds))
  exceptions-turn old new b before these n =
      n ∙ ap (λ l. l ++ b) before ∙ ap (λ l. exceptions_in (map decl_tree (take i ds)) ++ l) (sym these)
      ∙ sym (ap exceptions_in turn ∙ exceptions-append (map decl_tree (take i ds)) (decl_tree d ∷ []))

  pub counts-turn : exceptions (take (i + 1) ds) ≡ exceptions (take i ds) + exceptions (d ∷ [])
  counts-turn = ap exceptions (take_item ds i d h is) ∙ exceptions_append (take i ds) (d ∷ [])

-- nothing of this kind
pub added-none : {A : Type 0} (xs : List A) → xs ≡ xs ++ []
added-none xs = sym (append-nil xs)

pub pairs-push : (xs ys : List (Bor (List ℕ) × Bor LayoutText)) → layout_pairs (xs ++ ys) ≡ layout_pairs xs ++ layout_pairs ys
pairs-push xs ys = map-append (λ l. (l.0.now, layout_tree l.1.now)) xs ys

pub names-push : (xs ys : List (Bor (List ℕ))) → map (λ x. x.now) (xs ++ ys) ≡ map (λ x. x.now) xs ++ map (λ x. x.now) ys
names-push xs ys = map-append (λ x. x.now) xs ys

-- a turn over the functions of a group
pub group-turn : (old now new : List (Bor Fun)) (group : List Fun) (i : ℕ) (f : Fun) (b : Bor Fun) → i < length group → f ≡ get_or group i f → trees_of now ≡ trees_of old ++ map fun_tree (take i group) → new ≡ now ++ b ∷ [] → b.now ≡ f → trees_of new ≡ trees_of old ++ map fun_tree (take (i + 1) group)
group-turn old now new group i f b h is before n same =
    ap trees_of n ∙ map-append (λ g. fun_tree g.now) now (b ∷ []) ∙ ap (λ l. l ++ fun_tree b.now ∷ []) before
    ∙ ap (λ g. (trees_of old ++ map fun_tree (take i group)) ++ fun_tree g ∷ []) same
    ∙ append_assoc (trees_of old) (map fun_tree (take i group)) (fun_tree f ∷ [])
    ∙ ap (λ l. trees_of old ++ l) (sym (ap (λ l. map fun_tree l) (take_item group i f h is) ∙ map-append fun_tree (take i group) (f ∷ [])))

-- what the table declares is what the program does
pub declared-is : (t : ProgramTree) (ls : List (List ℕ × LayoutTree)) (xs : List (List ℕ)) (fs : List FunTree) → ls ≡ layouts_in t.decls → xs ≡ exceptions_in t.decls → fs ≡ functions_in t.decls → record { layouts = laid [] ls; exceptions = xs; functions = fs } ≡ declared t
declared-is t ls xs fs l x f =
    ap (λ k. record { layouts = laid [] k; exceptions = xs; functions = fs }) l
    ∙ ap (λ k. record { layouts = laid [] (layouts_in t.decls); exceptions = k; functions = fs }) x
    ∙ ap (λ k. record { layouts = laid [] (layouts_in t.decls); exceptions = exceptions_in t.decls; functions = k }) f
    ∙ sym (ap (λ k. record { layouts = k; exceptions = (declared t).exceptions; functions = (declared t).functions }) (declared-layouts (record { layouts = []; exceptions = []; functions = [] }) t.decls)
    ∙ ap (λ k. record { layouts = laid [] (layouts_in t.decls); exceptions = k; functions = (declared t).functions }) (declared-exceptions (record { layouts = []; exceptions = []; functions = [] }) t.decls)
    ∙ ap (λ k. record { layouts = laid [] (layouts_in t.decls); exceptions = exceptions_in t.decls; functions = k }) (declared-functions (record { layouts = []; exceptions = []; functions = [] }) t.decls))

-- ---- looking a layout up
abbrev pub firsts : {A : Type 0} → List (List ℕ × A) → List (List ℕ)
firsts xs = map (λ l. l.0) xs

pub value-found : (i j n : ℕ) (y : List ℕ) (none : OutlineTree) (known : Layouts) (d : List ℕ × OutlineTree) → place_from i y (firsts known) ≡ Some (i + j) → j < n → value_at none y (take n known) ≡ (get_or known j d).1
value-found i j n y none [] d h inside = cc
value-found i j zero y none ((x, a) ∷ known) d h inside = absurd (omega arith)
value-found i j (suc n) y none ((x, a) ∷ known) d h inside = by (bytes_eq y x) refl (λ k g l. value-found (suc i) k n y none known d g l) j h inside
  where
    by : (b : Bool) → bytes_eq y x ≡ b → ((k : ℕ) → place_from (suc i) y (firsts known) ≡ Some (suc i + k) → k < n → value_at none y (take n known) ≡ (get_or known k d).1)
        → (k : ℕ) → place_from i y (firsts ((x, a) ∷ known)) ≡ Some (i + k) → k < suc n → value_at none y (take (suc n) ((x, a) ∷ known)) ≡ (get_or ((x, a) ∷ known) k d).1
    by true e next zero h l = ap (λ b. if b then a else value_at none y (take n known)) e
    by true e next (suc k) h l = let s : i ≡ i + suc k = same_Some _ _ (sym (ap (λ b. if b then Some i else place_from (suc i) y (firsts known)) e) ∙ h) in absurd (omega arith)
    by false e next zero h l = let r = place-stands (suc i) (i + 0) y (firsts known) (sym (ap (λ b. if b then Some i else place_from (suc i) y (firsts known)) e) ∙ h) in let s : suc i ≤ i + 0 = r.from in absurd (omega arith)
    by false e next (suc k) h l =
        let s : i + suc k ≡ suc i + k = omega arith in
        ap (λ b. if b then a else value_at none y (take n known)) e
        ∙ next k (sym (ap (λ b. if b then Some i else place_from (suc i) y (firsts known)) e) ∙ h ∙ ap (λ m. Some m) s) (omega arith)

pub value-beyond : (i j n : ℕ) (y : List ℕ) (none : OutlineTree) (known : Layouts) → place_from i y (firsts known) ≡ Some (i + j) → n ≤ j → value_at none y (take n known) ≡ none
value-beyond i j n y none [] h past = cc
value-beyond i j zero y none ((x, a) ∷ known) h past = refl
value-beyond i zero (suc n) y none ((x, a) ∷ known) h past = absurd (omega arith)
value-beyond i (suc j) (suc n) y none ((x, a) ∷ known) h past = by (bytes_eq y x) refl (λ g. value-beyond (suc i) j n y none known g (omega arith))
  where
    by : (b : Bool) → bytes_eq y x ≡ b → (place_from (suc i) y (firsts known) ≡ Some (suc i + j) → value_at none y (take n known) ≡ none) → value_at none y (take (suc n) ((x, a) ∷ known)) ≡ none
    by true e next = let s : i ≡ i + suc j = same_Some _ _ (sym (ap (λ b. if b then Some i else place_from (suc i) y (firsts known)) e) ∙ h) in absurd (omega arith)
    by false e next =
        let s : i + suc j ≡ suc i + j = omega arith in
        ap (λ b. if b then a else value_at none y (take n known)) e ∙ next (sym (ap (λ b. if b then Some i else place_from (suc i) y (firsts known)) e) ∙ h ∙ ap (λ m. Some m) s)

pub value-none : (i n : ℕ) (y : List ℕ) (none : OutlineTree) (known : Layouts) → place_from i y (firsts known) ≡ None → value_at none y (take n known) ≡ none
value-none i zero y none known h = refl
value-none i (suc n) y none [] h = refl
value-none i (suc n) y none ((x, a) ∷ known) h = by (bytes_eq y x) refl (λ g. value-none (suc i) n y none known g)
  where
    by : (b : Bool) → bytes_eq y x ≡ b → (place_from (suc i) y (firsts known) ≡ None → value_at none y (take n known) ≡ none) → value_at none y (take (suc n) ((x, a) ∷ known)) ≡ none
    by true e next = let k : Some i ≡ None = sym (ap (λ b. if b then Some i else place_from (suc i) y (firsts known)) e) ∙ h in cc
    by false e next = ap (λ b. if b then a else value_at none y (take n known)) e ∙ next (sym (ap (λ b. if b then Some i else place_from (suc i) y (firsts known)) e) ∙ h)

-- each layout stands at its place, made of those before it
abbrev LaidAt : Layouts → ℕ → List ℕ × LayoutTree → List ℕ × OutlineTree → Type 0
LaidAt known i l d = get_or known i d ≡ (l.0, outline (take i known) l.1)

read-seam : {A : Type 0} (xs ys : List A) (y d : A) → get_or (xs ++ y ∷ ys) (length xs) d ≡ y
read-seam [] ys y d = refl
read-seam (x ∷ xs) ys y d = read-seam xs ys y d

laid-at : (known : Layouts) (ls : List (List ℕ × LayoutTree)) (i : ℕ) (dl : List ℕ × LayoutTree) (d : List ℕ × OutlineTree) → i < length ls → LaidAt (laid known ls) (length known + i) (get_or ls i dl) d
laid-at known [] i dl d h = absurd (omega arith)
laid-at known (l ∷ ls) zero dl d h =
    let e : List ℕ × OutlineTree = (l.0, outline known l.1) in
    let r = laid-front (known ++ e ∷ []) ls in
    let whole : laid known (l ∷ ls) ≡ known ++ e ∷ r.0 = r.1 ∙ append_assoc known (e ∷ []) r.0 in
    let k : length known + 0 ≡ length known = omega arith in
    let here : LaidAt (known ++ e ∷ r.0) (length known) l d = read-seam known r.0 e d ∙ ap (λ m. (l.0, outline m l.1)) (sym (take-append_seam known (e ∷ r.0))) in
    subst (λ m. LaidAt m (length known + 0) l d) (sym whole) (subst (λ m. LaidAt (known ++ e ∷ r.0) m l d) (sym k) here)
laid-at known (l ∷ ls) (suc i) dl d h =
    let further : Layouts = known ++ (l.0, outline known l.1) ∷ [] in
    let k : length further + i ≡ length known + suc i = omega (arith, length-append known ((l.0, outline known l.1) ∷ [])) in
    subst (λ m. LaidAt (laid further ls) m (get_or ls i dl) d) k (laid-at further ls i dl d (omega arith))

laid-length : (known : Layouts) (ls : List (List ℕ × LayoutTree)) → length (laid known ls) ≡ length known + length ls
laid-length known [] = omega arith
laid-length known (l ∷ ls) = laid-length (known ++ (l.0, outline known l.1) ∷ []) ls ∙ omega (arith, length-append known ((l.0, outline known l.1) ∷ []))

laid-firsts : (known : Layouts) (ls : List (List ℕ × LayoutTree)) → firsts (laid known ls) ≡ firsts known ++ firsts ls
laid-firsts known [] = sym (append-nil (firsts known))
laid-firsts known (l ∷ ls) =
    laid-firsts (known ++ (l.0, outline known l.1) ∷ []) ls
    ∙ ap (λ k. k ++ firsts ls) (map-append (λ m. m.0) known ((l.0, outline known l.1) ∷ []))
    ∙ append_assoc (firsts known) (l.0 ∷ []) (firsts ls)

abbrev pub Item : Type 0
Item = Bor (List ℕ) × Bor LayoutText

pairs-firsts : (xs : List Item) → firsts (layout_pairs xs) ≡ map (λ l. l.0.now) xs
pairs-firsts [] = refl
pairs-firsts (x ∷ xs) = ap (λ k. x.0.now ∷ k) (pairs-firsts xs)

pair-at : (xs : List Item) (j : ℕ) (d : Item) → get_or (layout_pairs xs) j (d.0.now, layout_tree d.1.now) ≡ ((get_or xs j d).0.now, layout_tree (get_or xs j d).1.now)
pair-at [] j d = refl
pair-at (x ∷ xs) zero d = refl
pair-at (x ∷ xs) (suc j) d = pair-at xs j d

module _ (xs : List Item) (y : List ℕ) where
  abbrev laid_all : Layouts
  laid_all = laid [] (layout_pairs xs)

  abbrev nothing : OutlineTree
  nothing = PartsOutline no_named_outlines

  pub all-firsts : firsts laid_all ≡ map (λ l. l.0.now) xs
  all-firsts = laid-firsts [] (layout_pairs xs) ∙ pairs-firsts xs

  pub layout-none : (n : ℕ) → place_from 0 y (map (λ l. l.0.now) xs) ≡ None → value_at nothing y (take n laid_all) ≡ nothing
  layout-none n h = value-none 0 n y nothing laid_all (ap (λ k. place_from 0 y k) all-firsts ∙ h)

  pub layout-beyond : (j n : ℕ) → place_from 0 y (map (λ l. l.0.now) xs) ≡ Some j → n ≤ j → value_at nothing y (take n laid_all) ≡ nothing
  layout-beyond j n h past = let s : j ≡ 0 + j = omega arith in value-beyond 0 j n y nothing laid_all (ap (λ k. place_from 0 y k) all-firsts ∙ h ∙ ap (λ k. Some k) s) past

  pub layout-found : (j n : ℕ) (item : Item) → place_from 0 y (map (λ l. l.0.now) xs) ≡ Some j → j < n → item ≡ get_or xs j item → value_at nothing y (take n laid_all) ≡ outline (take j laid_all) (layout_tree item.1.now)
  layout-found j n item h inside is =
      let s : j ≡ 0 + j = omega arith in
      let d : List ℕ × OutlineTree = (item.0.now, nothing) in
      let e : List ℕ × LayoutTree = (item.0.now, layout_tree item.1.now) in
      let some : j < length xs = place-below (λ l. l.0.now) xs y j h in
      let long : length (layout_pairs xs) ≡ length xs = length-map xs (λ l. (l.0.now, layout_tree l.1.now)) in
      let below : j < length (layout_pairs xs) = omega arith in
      value-found 0 j n y nothing laid_all d (ap (λ k. place_from 0 y k) all-firsts ∙ h ∙ ap (λ k. Some k) s) inside
      ∙ ap (λ p. p.1) (subst (λ k. LaidAt laid_all k (get_or (layout_pairs xs) j e) d) (sym s) (laid-at [] (layout_pairs xs) j e d below))
      ∙ ap (λ p. outline (take j laid_all) p.1) (pair-at xs j item)
      ∙ ap (λ p. outline (take j laid_all) (layout_tree p.1.now)) (sym is)

-- all of them
pub all-laid : (xs : List Item) (n : ℕ) → n ≡ length xs → take n (laid [] (layout_pairs xs)) ≡ laid [] (layout_pairs xs)
all-laid xs n e =
    let long : length (layout_pairs xs) ≡ length xs = length-map xs (λ l. (l.0.now, layout_tree l.1.now)) in
    let whole : length (laid [] (layout_pairs xs)) ≡ 0 + length (layout_pairs xs) = laid-length [] (layout_pairs xs) in
    take_all n (laid [] (layout_pairs xs)) (omega arith)
