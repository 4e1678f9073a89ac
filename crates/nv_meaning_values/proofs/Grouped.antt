-- The groups of functions, as far as a loop over the declarations has come.
use Rattle.std.proofs.Common.{◌≡◌, ◌∙◌, sym, ap, ℕ, zero, suc, ◌+◌, ◌<◌, ◌≤◌, List, [], ◌∷◌, ◌++◌, map, length, drop, get_or, Some, subst, append_assoc, append-nil, add-one, arith, bytes_eq, Bool, true, false, if◌then◌else◌, refl, Bor, Vec, Global}
use Rattle.std.specs.Prelude.{replicate}
use Rattle.std.proofs.lemmas.List.{length-map, replicate_more, drop_all}
use Rattle.std.proofs.lemmas.Option.{same_Some}
use Rattle.nv_ast.specs.declared.tree.Decl.{Decl}
use Rattle.nv_ast.specs.declared.tree.Decl.TheVariants as decls
use Rattle.nv_ast.specs.declared.tree.Fun.{Fun}
use Rattle.nv_ast.specs.ProgramView.{decl_tree, fun_tree}
use Rattle.nv_ast.specs.Tree.{DeclTree, FunTree}
use Rattle.nv_ast.proofs.Items.{next_item}
use Rattle.nv_meaning_values.specs.Declarations.{groups_from, group_in, function_in}
use Rattle.nv_meaning_values.specs.inner.Tables.{place_from}
use Rattle.nv_meaning_values.proofs.NameIndices.{names_of, trees_of, place-stands}

pub numbers-more : (old now new : List ℕ) (i n : ℕ) → now ≡ old ++ replicate i n → new ≡ now ++ n ∷ [] → new ≡ old ++ replicate (i + 1) n
numbers-more old now new i n e f = f ∙ ap (λ l. l ++ n ∷ []) e ∙ append_assoc old (replicate i n) (n ∷ []) ∙ ap (λ l. old ++ l) (replicate_more i n)

pub groups-turn : (decls : List Decl) (i : ℕ) (d : Decl) (now new whole : List ℕ) (n m : ℕ) → i < length decls → d ≡ get_or decls i d
    → ((ds : List DeclTree) → new ++ groups_from m ds ≡ now ++ groups_from n (decl_tree d ∷ ds))
    → now ++ groups_from n (map decl_tree (drop i decls)) ≡ whole → new ++ groups_from m (map decl_tree (drop (i + 1) decls)) ≡ whole
groups-turn decls i d now new whole n m h is step before = step (map decl_tree (drop (i + 1) decls)) ∙ ap (λ l. now ++ groups_from n (map decl_tree l)) (sym (next_item decls i d h is)) ∙ before

pub groups-done : (decls : List Decl) (i : ℕ) (now whole : List ℕ) (n : ℕ) → length decls ≤ i → now ++ groups_from n (map decl_tree (drop i decls)) ≡ whole → now ≡ whole
groups-done decls i now whole n h before = sym (append-nil now) ∙ ap (λ l. now ++ groups_from n (map decl_tree l)) (sym (drop_all i decls h)) ∙ before

pub group-added : (decl : Decl) (fs : Vec Fun Global) (old new : List ℕ) (count n : ℕ) → decl ≡ decls.Group fs → count ≡ length fs.items → new ≡ old ++ replicate count n → (ds : List DeclTree) → new ++ groups_from (n + 1) ds ≡ old ++ groups_from n (decl_tree decl ∷ ds)
group-added decl fs old new count n is many e ds =
    let long : count ≡ length (map fun_tree fs.items) = many ∙ sym (length-map fs.items fun_tree) in
    ap (λ l. l ++ groups_from (n + 1) ds) e
    ∙ append_assoc old (replicate count n) (groups_from (n + 1) ds)
    ∙ ap (λ k. old ++ (replicate k n ++ groups_from (n + 1) ds)) long
    ∙ ap (λ k. old ++ (replicate (length (map fun_tree fs.items)) n ++ groups_from k ds)) (add-one n)
    ∙ sym (ap (λ d. old ++ groups_from n (decl_tree d ∷ ds)) is)

-- the group of the function at a place
pub group-found : (i k : ℕ) (x : List ℕ) (fs : List (Bor Fun)) (groups : List ℕ) → place_from i x (names_of fs) ≡ Some (i + k) → group_in (trees_of fs) groups x ≡ get_or groups k 0
group-found i k x [] groups h = cc
group-found i k x (f ∷ fs) [] h = refl
group-found i k x (f ∷ fs) (n ∷ ns) h = by (bytes_eq x f.now.name) refl (λ k h. group-found (suc i) k x fs ns h) k h
  where
    by : (b : Bool) → bytes_eq x f.now.name ≡ b → ((k : ℕ) → place_from (suc i) x (names_of fs) ≡ Some (suc i + k) → group_in (trees_of fs) ns x ≡ get_or ns k 0) → (k : ℕ) → place_from i x (names_of (f ∷ fs)) ≡ Some (i + k) → group_in (trees_of (f ∷ fs)) (n ∷ ns) x ≡ get_or (n ∷ ns) k 0
    by true e next zero h = ap (λ b. if b then n else group_in (trees_of fs) ns x) e
    by true e next (suc k) h = let s : i ≡ i + suc k = same_Some _ _ (sym (ap (λ b. if b then Some i else place_from (suc i) x (names_of fs)) e) ∙ h) in absurd (omega arith)
    by false e next zero h = let r = place-stands (suc i) (i + 0) x (names_of fs) (sym (ap (λ b. if b then Some i else place_from (suc i) x (names_of fs)) e) ∙ h) in let s : suc i ≤ i + 0 = r.from in absurd (omega arith)
    by false e next (suc k) h =
        let s : i + suc k ≡ suc i + k = omega arith in
        ap (λ b. if b then n else group_in (trees_of fs) ns x) e
        ∙ next k (sym (ap (λ b. if b then Some i else place_from (suc i) x (names_of fs)) e) ∙ h ∙ ap (λ j. Some j) s)

-- a function has the name under which it is found
pub function-named : (fs : List FunTree) (f : List ℕ) (g : FunTree) → function_in fs f ≡ Some g → bytes_eq f g.name ≡ true
function-named [] f g h = cc
function-named (h' ∷ fs) f g h = by (bytes_eq f h'.name) refl (λ e. function-named fs f g e)
  where
    by : (b : Bool) → bytes_eq f h'.name ≡ b → (function_in fs f ≡ Some g → bytes_eq f g.name ≡ true) → bytes_eq f g.name ≡ true
    by true e next = subst (λ k. bytes_eq f k.name ≡ true) (same_Some _ _ (sym (ap (λ b. if b then Some h' else function_in fs f) e) ∙ h)) e
    by false e next = next (sym (ap (λ b. if b then Some h' else function_in fs f) e) ∙ h)
