-- What is declared, in lists: what is said of a list as far as a loop has come.
use Rattle.std.proofs.Common.{◌≡◌, ◌∙◌, refl, sym, ap, ℕ, zero, suc, ◌+◌, ◌<◌, ◌≤◌, List, [], ◌∷◌, ◌++◌, map, length, drop, get_or, Some, append_assoc, append-nil, arith, Bor, Vec, Global}
use Rattle.std.specs.Prelude.{slice_get, replicate, unwrap_or}
use Rattle.nv_ast.specs.declared.token.Span.{Span}
use Rattle.nv_ast.specs.declared.tree.Decl.{Decl}
use Rattle.nv_ast.specs.declared.tree.Decl.TheVariants as decls
use Rattle.nv_ast.specs.declared.tree.Fun.{Fun}
use Rattle.nv_ast.specs.declared.tree.TyText.{TyText}
use Rattle.nv_ast.specs.ProgramView.{decl_tree, fun_tree}
use Rattle.nv_ast.specs.TypeView.{list_types}
use Rattle.nv_ast.specs.Tree.{DeclTree, LayoutDecl, ExceptionDecl, GroupDecl, ProgramTree, TypeTrees}
use Rattle.nv_ast.specs.Outline.{Layouts}
use Rattle.nv_ast.specs.Types.{no_tys, types_of}
use Rattle.nv_meaning.specs.Meaning.{Declared, declared}
use Rattle.nv_meaning_values.specs.inner.Tables.{place_from, functions_in}
use Rattle.nv_meaning_values.proofs.NameIndices.{declared-functions}
use Rattle.nv_flatten_values.specs.inner.Whole.{Whole, whole_of, groups_from, raised_in, raised_or_none, group_at, group_of}
use Rattle.std.proofs.lemmas.List.{map-append, length-append, length-replicate, length-map, drop_all}
use Rattle.nv_ast.proofs.Items.{next_item}

-- a declaration further
pub raised-turn : (decls : List Decl) (i : ℕ) (d : Decl) (now new whole : List TypeTrees) → i < length decls → d ≡ get_or decls i d
    → ((ds : List DeclTree) → new ++ raised_in ds ≡ now ++ raised_in (decl_tree d ∷ ds))
    → now ++ raised_in (map decl_tree (drop i decls)) ≡ whole → new ++ raised_in (map decl_tree (drop (i + 1) decls)) ≡ whole
raised-turn decls i d now new whole h is step before = step (map decl_tree (drop (i + 1) decls)) ∙ ap (λ l. now ++ raised_in (map decl_tree l)) (sym (next_item decls i d h is)) ∙ before

pub raised-done : (decls : List Decl) (i : ℕ) (now whole : List TypeTrees) → length decls ≤ i → now ++ raised_in (map decl_tree (drop i decls)) ≡ whole → now ≡ whole
raised-done decls i now whole h before = sym (append-nil now) ∙ ap (λ l. now ++ raised_in (map decl_tree l)) (sym (drop_all i decls h)) ∙ before

pub as-many : (n : ℕ) (ds : List DeclTree) → length (groups_from n ds) ≡ length (functions_in ds)
as-many n [] = refl
as-many n (LayoutDecl x l s ∷ ds) = as-many n ds
as-many n (ExceptionDecl x ts s ∷ ds) = as-many n ds
as-many n (GroupDecl fs ∷ ds) =
    let a : length (replicate (length fs) n ++ groups_from (suc n) ds) ≡ length (replicate (length fs) n) + length (groups_from (suc n) ds) = length-append (replicate (length fs) n) (groups_from (suc n) ds) in
    let b : length (replicate (length fs) n) ≡ length fs = length-replicate (length fs) n in
    let c : length (fs ++ functions_in ds) ≡ length fs + length (functions_in ds) = length-append fs (functions_in ds) in
    let d : length (groups_from (suc n) ds) ≡ length (functions_in ds) = as-many (suc n) ds in
    omega arith

pub raised-added : (decl : Decl) (x : List ℕ) (tys : Vec TyText Global) (s : Span) (t : Bor (Vec TyText Global)) (old new : List (Bor (Vec TyText Global))) → decl ≡ decls.Exception x tys s → t.now ≡ tys → new ≡ old ++ t ∷ []
    → (ds : List DeclTree) → map (λ t. list_types t.now.items) new ++ raised_in ds ≡ map (λ t. list_types t.now.items) old ++ raised_in (decl_tree decl ∷ ds)
raised-added decl x tys s t old new is same e ds =
    ap (λ l. map (λ t. list_types t.now.items) l ++ raised_in ds) e
    ∙ ap (λ l. l ++ raised_in ds) (map-append (λ t. list_types t.now.items) old (t ∷ []))
    ∙ append_assoc (map (λ t. list_types t.now.items) old) (list_types t.now.items ∷ []) (raised_in ds)
    ∙ ap (λ v. map (λ t. list_types t.now.items) old ++ (list_types v.items ∷ raised_in ds)) same
    ∙ sym (ap (λ d. map (λ t. list_types t.now.items) old ++ raised_in (decl_tree d ∷ ds)) is)

-- ---- what a program declares
types-mapped : (k : Layouts) (ts : List (Bor (Vec TyText Global))) → map (λ t. types_of k (list_types t.now.items)) ts ≡ map (λ us. types_of k us) (map (λ t. list_types t.now.items) ts)
types-mapped k [] = refl
types-mapped k (t ∷ ts) = ap (λ l. types_of k (list_types t.now.items) ∷ l) (types-mapped k ts)

pub source-is : (t : ProgramTree) (d : Declared) (raised : List (Bor (Vec TyText Global))) (groups : List ℕ) → d ≡ declared t → map (λ ts. list_types ts.now.items) raised ≡ raised_in t.decls → groups ≡ groups_from 0 t.decls
    → record { declared = d; raised = map (λ ts. types_of d.layouts (list_types ts.now.items)) raised; groups = groups } ≡ whole_of t
source-is t d raised groups e f g =
    ap (λ r. record { declared = d; raised = r; groups = groups }) (types-mapped d.layouts raised ∙ ap (λ l. map (λ us. types_of d.layouts us) l) f)
    ∙ ap (λ k. record { declared = d; raised = map (λ us. types_of d.layouts us) (raised_in t.decls); groups = k }) g
    ∙ ap (λ k. record { declared = k; raised = map (λ us. types_of k.layouts us) (raised_in t.decls); groups = groups_from 0 t.decls }) e

pub as-many-groups : (t : ProgramTree) (d : Declared) (functions : List (Bor Fun)) (groups : List ℕ) → d ≡ declared t → d.functions ≡ map (λ f. fun_tree f.now) functions → groups ≡ groups_from 0 t.decls → length groups ≡ length functions
as-many-groups t d functions groups e f g =
    ap length g ∙ as-many 0 t.decls
    ∙ sym (ap length (declared-functions (record { layouts = []; exceptions = []; functions = [] }) t.decls))
    ∙ sym (ap (λ k. length k.functions) e)
    ∙ ap length f ∙ length-map functions (λ f. fun_tree f.now)

-- ---- functions and their groups
names-mapped : (fs : List (Bor Fun)) → map (λ g. g.name) (map (λ f. fun_tree f.now) fs) ≡ map (λ f. f.now.name) fs
names-mapped [] = refl
names-mapped (f ∷ fs) = ap (λ l. f.now.name ∷ l) (names-mapped fs)

pub group-found : (w : Whole) (fs : List (Bor Fun)) (x : List ℕ) (i n : ℕ) → w.declared.functions ≡ map (λ f. fun_tree f.now) fs → place_from 0 x (map (λ f. f.now.name) fs) ≡ Some i → slice_get w.groups i ≡ Some n → group_of w x ≡ Some n
group-found w fs x i n e f g = ap (λ l. group_at w (place_from 0 x (map (λ h. h.name) l))) e ∙ ap (λ l. group_at w (place_from 0 x l)) (names-mapped fs) ∙ ap (group_at w) f ∙ g

-- ---- the types of an exception's values
pub raised-at : (w : Whole) (ts : List (Bor (Vec TyText Global))) (k i : ℕ) (t : Bor (Vec TyText Global)) (items : List TyText) → w.raised ≡ map (λ t. types_of w.declared.layouts (list_types t.now.items)) ts → k ≡ suc i → i < length ts → t ≡ get_or ts i t → items ≡ t.now.items
    → raised_or_none w k ≡ types_of w.declared.layouts (list_types items)
raised-at w ts k i t items e f h is same =
    ap (raised_or_none w) f
    ∙ ap (λ l. unwrap_or (slice_get l i) no_tys) e
    ∙ ap (λ o. unwrap_or o no_tys) (at ts i h is)
    ∙ ap (λ l. types_of w.declared.layouts (list_types l)) (sym same)
  where
    at : (ts : List (Bor (Vec TyText Global))) (i : ℕ) → i < length ts → t ≡ get_or ts i t → slice_get (map (λ t. types_of w.declared.layouts (list_types t.now.items)) ts) i ≡ Some (types_of w.declared.layouts (list_types t.now.items))
    at [] i h is = absurd (omega arith)
    at (u ∷ ts) zero h is = ap (λ v. Some (types_of w.declared.layouts (list_types v.now.items))) (sym is)
    at (u ∷ ts) (suc i) h is = at ts i (omega arith) is
