-- What a tree says of a name, by its first node.
use Rattle.std.proofs.Common.{◌≡◌, ℕ, ◌+◌, Bool, true, false, not, nat_eq, ◌&&◌, ◌||◌, List, [], ◌∷◌, ◌++◌, Option, Some, refl, sym, ap, ◌∙◌, ⊎_elim, ◌⊎◌, arith, if◌then◌else◌, min}
use Rattle.std.specs.List.{list_all, list_any}
use Rattle.std.proofs.lemmas.Bool.{or_left, and_left, false≢true}
use Rattle.std.proofs.lemmas.List.Folds.{list_all-append, list_any-append}
use Rattle.nv_base.specs.declared.term.Cmp.{Cmp}
use Rattle.nv_base.specs.Sets.{is_in}
use Rattle.nv_base.proofs.Sets.{in-append}
use Rattle.ssu_ir.specs.declared.node.SsuNode.{SsuNode}
use Rattle.ssu_ir.specs.Tree.{Step, Last, Tree, Node, step_values, step_clones, step_uses, node_values, node_uses, Do, If, End, Does, Forks, Ends}
use Rattle.ssu_ir.specs.Slots.{node_of, successors_of, Slots, slot}
use Rattle.ssu_ir.specs.Single.{defined, step_names, names}
use Rattle.ssu_ir.specs.inner.Checks.{node_names, step_defs, node_defs, times_in, is_free, clones_from, copy_used, access_fits, addressed, node_clones, node_clones_from, node_fits}
use Rattle.ssu_ir.specs.inner.Under.{tree_at, HasTree}
use Rattle.ssu_ir.proofs.Unders.{NoKids, OneKid, TwoKids, no_kids, one_kid, two_kids, shape}

pub or-false : (b : Bool) → b ≡ (b || false)
or-false true = refl
or-false false = refl

and-true : (b : Bool) → b ≡ (b && true)
and-true true = refl
and-true false = refl

-- ---- the names that a tree uses

name-end : (x : ℕ) (h : Node) (l : Last) (T : Tree) → h ≡ Ends l → T ≡ End l → is_in x (names T) ≡ is_in x (node_names h)
name-end x h l T e d = ap (λ u. is_in x (names u)) d ∙ sym (ap (λ m. is_in x (node_names m)) e)

name-do : (x : ℕ) (h : Node) (s : Step) (t T : Tree) → h ≡ Does s → T ≡ Do s t → is_in x (names T) ≡ (is_in x (node_names h) || is_in x (names t))
name-do x h s t T e d = ap (λ u. is_in x (names u)) d ∙ in-append x (step_names s) (names t) ∙ ap (λ m. is_in x (node_names m) || is_in x (names t)) (sym e)

name-if : (x : ℕ) (h : Node) (c : Cmp) (a b : ℕ) (t u T : Tree) → h ≡ Forks c a b → T ≡ If c a b t u → is_in x (names T) ≡ (is_in x (node_names h) || (is_in x (names t) || is_in x (names u)))
name-if x h c a b t u T e d =
    ap (λ v. is_in x (names v)) d
    ∙ in-append x (a ∷ b ∷ []) (names t ++ names u)
    ∙ ap (λ r. is_in x (a ∷ b ∷ []) || r) (in-append x (names t) (names u))
    ∙ ap (λ m. is_in x (node_names m) || (is_in x (names t) || is_in x (names u))) (sym e)

pub mention_here : (x : ℕ) (slots : Slots) (i : ℕ) (n : SsuNode) → HasTree slots i → slot slots i ≡ Some n → is_in x (node_names (node_of n)) ≡ true → true ≡ is_in x (names (tree_at slots i))
mention_here x slots i n h f z =
    ⊎_elim
    (λ (o : NoKids slots i n). sym (name-end x (node_of n) o.l (tree_at slots i) o.is o.tree ∙ z))
    (λ (r : ((k : ℕ) × OneKid slots i n k) ⊎ ((j : ℕ) × ((k : ℕ) × TwoKids slots i n j k))).
    ⊎_elim
    (λ (p : (k : ℕ) × OneKid slots i n k). let o = p.1 in sym (name-do x (node_of n) o.s (tree_at slots p.0) (tree_at slots i) o.is o.tree ∙ or_left (is_in x (node_names (node_of n))) (is_in x (names (tree_at slots p.0))) z))
    (λ (p : (j : ℕ) × ((k : ℕ) × TwoKids slots i n j k)).
    let o = p.1.1 in
    sym
    (name-if x (node_of n) o.c o.x o.y (tree_at slots p.0) (tree_at slots p.1.0) (tree_at slots i) o.is o.tree
    ∙ or_left (is_in x (node_names (node_of n))) (is_in x (names (tree_at slots p.0)) || is_in x (names (tree_at slots p.1.0))) z))
    r)
    (shape slots i n h f)

pub mention_none : (x : ℕ) (slots : Slots) (i : ℕ) (n : SsuNode) → HasTree slots i → slot slots i ≡ Some n → [] ≡ successors_of n → is_in x (node_names (node_of n)) ≡ false → false ≡ is_in x (names (tree_at slots i))
mention_none x slots i n h f e z = let o = no_kids slots i n h f e in sym (name-end x (node_of n) o.l (tree_at slots i) o.is o.tree ∙ z)

pub mention_one : (x : ℕ) (slots : Slots) (i : ℕ) (n : SsuNode) (k : ℕ) → HasTree slots i → slot slots i ≡ Some n → k ∷ [] ≡ successors_of n → is_in x (node_names (node_of n)) ≡ false → is_in x (names (tree_at slots k)) ≡ is_in x (names (tree_at slots i))
mention_one x slots i n k h f e z =
    let o = one_kid slots i n k h f e in
    sym (name-do x (node_of n) o.s (tree_at slots k) (tree_at slots i) o.is o.tree ∙ ap (λ b. b || is_in x (names (tree_at slots k))) z)

pub mention_two : (x : ℕ) (slots : Slots) (i : ℕ) (n : SsuNode) (j k : ℕ) → HasTree slots i → slot slots i ≡ Some n → j ∷ k ∷ [] ≡ successors_of n → is_in x (node_names (node_of n)) ≡ false
    → (is_in x (names (tree_at slots j)) || is_in x (names (tree_at slots k))) ≡ is_in x (names (tree_at slots i))
mention_two x slots i n j k h f e z =
    let o = two_kids slots i n j k h f e in
    sym
    (name-if x (node_of n) o.c o.x o.y (tree_at slots j) (tree_at slots k) (tree_at slots i) o.is o.tree
    ∙ ap (λ b. b || (is_in x (names (tree_at slots j)) || is_in x (names (tree_at slots k)))) z)

-- ---- names that are free

free-end : (x : ℕ) (h : Node) (l : Last) (T : Tree) → h ≡ Ends l → T ≡ End l → is_free x T ≡ is_in x (node_names h)
free-end x h l T e d = ap (is_free x) d ∙ sym (ap (λ m. is_in x (node_names m)) e)

free-do : (x : ℕ) (h : Node) (s : Step) (t T : Tree) → h ≡ Does s → T ≡ Do s t → is_free x T ≡ (is_in x (node_names h) || (not (is_in x (node_defs h)) && is_free x t))
free-do x h s t T e d = ap (is_free x) d ∙ ap (λ m. is_in x (node_names m) || (not (is_in x (node_defs m)) && is_free x t)) (sym e)

free-if : (x : ℕ) (h : Node) (c : Cmp) (a b : ℕ) (t u T : Tree) → h ≡ Forks c a b → T ≡ If c a b t u → is_free x T ≡ (is_in x (node_names h) || (is_free x t || is_free x u))
free-if x h c a b t u T e d = ap (is_free x) d ∙ ap (λ m. is_in x (node_names m) || (is_free x t || is_free x u)) (sym e)

pub free_here : (x : ℕ) (slots : Slots) (i : ℕ) (n : SsuNode) → HasTree slots i → slot slots i ≡ Some n → is_in x (node_names (node_of n)) ≡ true → true ≡ is_free x (tree_at slots i)
free_here x slots i n h f z =
    ⊎_elim
    (λ (o : NoKids slots i n). sym (free-end x (node_of n) o.l (tree_at slots i) o.is o.tree ∙ z))
    (λ (r : ((k : ℕ) × OneKid slots i n k) ⊎ ((j : ℕ) × ((k : ℕ) × TwoKids slots i n j k))).
    ⊎_elim
    (λ (p : (k : ℕ) × OneKid slots i n k).
    let o = p.1 in
    sym
    (free-do x (node_of n) o.s (tree_at slots p.0) (tree_at slots i) o.is o.tree
    ∙ or_left (is_in x (node_names (node_of n))) (not (is_in x (node_defs (node_of n))) && is_free x (tree_at slots p.0)) z))
    (λ (p : (j : ℕ) × ((k : ℕ) × TwoKids slots i n j k)).
    let o = p.1.1 in
    sym
    (free-if x (node_of n) o.c o.x o.y (tree_at slots p.0) (tree_at slots p.1.0) (tree_at slots i) o.is o.tree
    ∙ or_left (is_in x (node_names (node_of n))) (is_free x (tree_at slots p.0) || is_free x (tree_at slots p.1.0)) z))
    r)
    (shape slots i n h f)

pub free_none : (x : ℕ) (slots : Slots) (i : ℕ) (n : SsuNode) → HasTree slots i → slot slots i ≡ Some n → [] ≡ successors_of n → is_in x (node_names (node_of n)) ≡ false → false ≡ is_free x (tree_at slots i)
free_none x slots i n h f e z = let o = no_kids slots i n h f e in sym (free-end x (node_of n) o.l (tree_at slots i) o.is o.tree ∙ z)

pub free_one : (x : ℕ) (slots : Slots) (i : ℕ) (n : SsuNode) (k : ℕ) → HasTree slots i → slot slots i ≡ Some n → k ∷ [] ≡ successors_of n → is_in x (node_names (node_of n)) ≡ false
    → (not (is_in x (node_defs (node_of n))) && is_free x (tree_at slots k)) ≡ is_free x (tree_at slots i)
free_one x slots i n k h f e z =
    let o = one_kid slots i n k h f e in
    sym (free-do x (node_of n) o.s (tree_at slots k) (tree_at slots i) o.is o.tree ∙ ap (λ b. b || (not (is_in x (node_defs (node_of n))) && is_free x (tree_at slots k))) z)

pub free_two : (x : ℕ) (slots : Slots) (i : ℕ) (n : SsuNode) (j k : ℕ) → HasTree slots i → slot slots i ≡ Some n → j ∷ k ∷ [] ≡ successors_of n → is_in x (node_names (node_of n)) ≡ false
    → (is_free x (tree_at slots j) || is_free x (tree_at slots k)) ≡ is_free x (tree_at slots i)
free_two x slots i n j k h f e z =
    let o = two_kids slots i n j k h f e in
    sym (free-if x (node_of n) o.c o.x o.y (tree_at slots j) (tree_at slots k) (tree_at slots i) o.is o.tree ∙ ap (λ b. b || (is_free x (tree_at slots j) || is_free x (tree_at slots k))) z)

-- ---- copies that are used

any-kept : (p : ℕ → Bool) (g : Bool) (x : ℕ) → list_any p (if g then [] else x ∷ []) ≡ (not g && p x)
any-kept p true x = refl
any-kept p false x = sym (or-false (p x))

copy-end : (x : ℕ) (h : Node) (l : Last) (T : Tree) → h ≡ Ends l → T ≡ End l → copy_used x T ≡ is_in x (node_uses h)
copy-end x h l T e d = ap (copy_used x) d ∙ sym (ap (λ m. is_in x (node_uses m)) e)

copy-do : (x : ℕ) (h : Node) (s : Step) (t T : Tree) → h ≡ Does s → T ≡ Do s t
    → copy_used x T ≡ (is_in x (node_uses h) || (list_any (λ z. copy_used z t) (node_clones_from h x) || (not (is_in x (node_clones h)) && copy_used x t)))
copy-do x h s t T e d =
    ap (copy_used x) d
    ∙ ap (λ r. is_in x (step_uses s) || r)
    (list_any-append (λ z. copy_used z t) (clones_from s x) (if is_in x (step_clones s) then [] else x ∷ [])
    ∙ ap (λ r. list_any (λ z. copy_used z t) (clones_from s x) || r) (any-kept (λ z. copy_used z t) (is_in x (step_clones s)) x))
    ∙ ap (λ m. is_in x (node_uses m) || (list_any (λ z. copy_used z t) (node_clones_from m x) || (not (is_in x (node_clones m)) && copy_used x t))) (sym e)

copy-if : (x : ℕ) (h : Node) (c : Cmp) (a b : ℕ) (t u T : Tree) → h ≡ Forks c a b → T ≡ If c a b t u → copy_used x T ≡ (is_in x (node_uses h) || (copy_used x t || copy_used x u))
copy-if x h c a b t u T e d = ap (copy_used x) d ∙ ap (λ m. is_in x (node_uses m) || (copy_used x t || copy_used x u)) (sym e)

pub copy_here : (x : ℕ) (slots : Slots) (i : ℕ) (n : SsuNode) → HasTree slots i → slot slots i ≡ Some n → is_in x (node_uses (node_of n)) ≡ true → true ≡ copy_used x (tree_at slots i)
copy_here x slots i n h f z =
    ⊎_elim
    (λ (o : NoKids slots i n). sym (copy-end x (node_of n) o.l (tree_at slots i) o.is o.tree ∙ z))
    (λ (r : ((k : ℕ) × OneKid slots i n k) ⊎ ((j : ℕ) × ((k : ℕ) × TwoKids slots i n j k))).
    ⊎_elim
    (λ (p : (k : ℕ) × OneKid slots i n k).
    let o = p.1 in
    sym (copy-do x (node_of n) o.s (tree_at slots p.0) (tree_at slots i) o.is o.tree ∙ or_left (is_in x (node_uses (node_of n))) _ z))
    (λ (p : (j : ℕ) × ((k : ℕ) × TwoKids slots i n j k)).
    let o = p.1.1 in
    sym (copy-if x (node_of n) o.c o.x o.y (tree_at slots p.0) (tree_at slots p.1.0) (tree_at slots i) o.is o.tree ∙ or_left (is_in x (node_uses (node_of n))) _ z))
    r)
    (shape slots i n h f)

pub copy_none : (x : ℕ) (slots : Slots) (i : ℕ) (n : SsuNode) → HasTree slots i → slot slots i ≡ Some n → [] ≡ successors_of n → is_in x (node_uses (node_of n)) ≡ false → false ≡ copy_used x (tree_at slots i)
copy_none x slots i n h f e z = let o = no_kids slots i n h f e in sym (copy-end x (node_of n) o.l (tree_at slots i) o.is o.tree ∙ z)

pub copy_one : (x : ℕ) (slots : Slots) (i : ℕ) (n : SsuNode) (k : ℕ) → HasTree slots i → slot slots i ≡ Some n → k ∷ [] ≡ successors_of n → is_in x (node_uses (node_of n)) ≡ false
    → (list_any (λ z. copy_used z (tree_at slots k)) (node_clones_from (node_of n) x) || (not (is_in x (node_clones (node_of n))) && copy_used x (tree_at slots k))) ≡ copy_used x (tree_at slots i)
copy_one x slots i n k h f e z =
    let o = one_kid slots i n k h f e in
    sym
    (copy-do x (node_of n) o.s (tree_at slots k) (tree_at slots i) o.is o.tree
    ∙ ap (λ b. b || (list_any (λ w. copy_used w (tree_at slots k)) (node_clones_from (node_of n) x) || (not (is_in x (node_clones (node_of n))) && copy_used x (tree_at slots k)))) z)

pub copy_two : (x : ℕ) (slots : Slots) (i : ℕ) (n : SsuNode) (j k : ℕ) → HasTree slots i → slot slots i ≡ Some n → j ∷ k ∷ [] ≡ successors_of n → is_in x (node_uses (node_of n)) ≡ false
    → (copy_used x (tree_at slots j) || copy_used x (tree_at slots k)) ≡ copy_used x (tree_at slots i)
copy_two x slots i n j k h f e z =
    let o = two_kids slots i n j k h f e in
    sym (copy-if x (node_of n) o.c o.x o.y (tree_at slots j) (tree_at slots k) (tree_at slots i) o.is o.tree ∙ ap (λ b. b || (copy_used x (tree_at slots j) || copy_used x (tree_at slots k))) z)

-- ---- accesses

all-kept : (p : ℕ → Bool) (g : Bool) (x : ℕ) → list_all p (if g then [] else x ∷ []) ≡ (g || p x)
all-kept p true x = refl
all-kept p false x = sym (and-true (p x))

address-end : (o : Option ℕ) (x : ℕ) (h : Node) (l : Last) (T : Tree) → h ≡ Ends l → T ≡ End l → addressed o x T ≡ node_fits h x o
address-end o x h l T e d = ap (addressed o x) d ∙ sym (ap (λ m. node_fits m x o) e)

address-do : (o : Option ℕ) (x : ℕ) (h : Node) (s : Step) (t T : Tree) → h ≡ Does s → T ≡ Do s t
    → addressed o x T ≡ (node_fits h x o && (list_all (λ z. addressed o z t) (node_clones_from h x) && (is_in x (node_defs h) || addressed o x t)))
address-do o x h s t T e d =
    ap (addressed o x) d
    ∙ ap (λ r. access_fits s x o && r)
    (list_all-append (λ z. addressed o z t) (clones_from s x) (if is_in x (step_defs s) then [] else x ∷ [])
    ∙ ap (λ r. list_all (λ z. addressed o z t) (clones_from s x) && r) (all-kept (λ z. addressed o z t) (is_in x (step_defs s)) x))
    ∙ ap (λ m. node_fits m x o && (list_all (λ z. addressed o z t) (node_clones_from m x) && (is_in x (node_defs m) || addressed o x t))) (sym e)

address-if : (o : Option ℕ) (x : ℕ) (h : Node) (c : Cmp) (a b : ℕ) (t u T : Tree) → h ≡ Forks c a b → T ≡ If c a b t u → addressed o x T ≡ (node_fits h x o && (addressed o x t && addressed o x u))
address-if o x h c a b t u T e d = ap (addressed o x) d ∙ ap (λ m. node_fits m x o && (addressed o x t && addressed o x u)) (sym e)

pub address_here : (o : Option ℕ) (x : ℕ) (slots : Slots) (i : ℕ) (n : SsuNode) → HasTree slots i → slot slots i ≡ Some n → node_fits (node_of n) x o ≡ false → false ≡ addressed o x (tree_at slots i)
address_here o x slots i n h f z =
    ⊎_elim
    (λ (a : NoKids slots i n). sym (address-end o x (node_of n) a.l (tree_at slots i) a.is a.tree ∙ z))
    (λ (r : ((k : ℕ) × OneKid slots i n k) ⊎ ((j : ℕ) × ((k : ℕ) × TwoKids slots i n j k))).
    ⊎_elim
    (λ (p : (k : ℕ) × OneKid slots i n k).
    let a = p.1 in
    sym (address-do o x (node_of n) a.s (tree_at slots p.0) (tree_at slots i) a.is a.tree ∙ and_left (node_fits (node_of n) x o) _ z))
    (λ (p : (j : ℕ) × ((k : ℕ) × TwoKids slots i n j k)).
    let a = p.1.1 in
    sym (address-if o x (node_of n) a.c a.x a.y (tree_at slots p.0) (tree_at slots p.1.0) (tree_at slots i) a.is a.tree ∙ and_left (node_fits (node_of n) x o) _ z))
    r)
    (shape slots i n h f)

pub address_none : (o : Option ℕ) (x : ℕ) (slots : Slots) (i : ℕ) (n : SsuNode) → HasTree slots i → slot slots i ≡ Some n → [] ≡ successors_of n → node_fits (node_of n) x o ≡ true → true ≡ addressed o x (tree_at slots i)
address_none o x slots i n h f e z = let a = no_kids slots i n h f e in sym (address-end o x (node_of n) a.l (tree_at slots i) a.is a.tree ∙ z)

pub address_one : (o : Option ℕ) (x : ℕ) (slots : Slots) (i : ℕ) (n : SsuNode) (k : ℕ) → HasTree slots i → slot slots i ≡ Some n → k ∷ [] ≡ successors_of n → node_fits (node_of n) x o ≡ true
    → (list_all (λ z. addressed o z (tree_at slots k)) (node_clones_from (node_of n) x) && (is_in x (node_defs (node_of n)) || addressed o x (tree_at slots k))) ≡ addressed o x (tree_at slots i)
address_one o x slots i n k h f e z =
    let a = one_kid slots i n k h f e in
    sym
    (address-do o x (node_of n) a.s (tree_at slots k) (tree_at slots i) a.is a.tree
    ∙ ap (λ b. b && (list_all (λ w. addressed o w (tree_at slots k)) (node_clones_from (node_of n) x) && (is_in x (node_defs (node_of n)) || addressed o x (tree_at slots k)))) z)

pub address_two : (o : Option ℕ) (x : ℕ) (slots : Slots) (i : ℕ) (n : SsuNode) (j k : ℕ) → HasTree slots i → slot slots i ≡ Some n → j ∷ k ∷ [] ≡ successors_of n → node_fits (node_of n) x o ≡ true
    → (addressed o x (tree_at slots j) && addressed o x (tree_at slots k)) ≡ addressed o x (tree_at slots i)
address_two o x slots i n j k h f e z =
    let a = two_kids slots i n j k h f e in
    sym (address-if o x (node_of n) a.c a.x a.y (tree_at slots j) (tree_at slots k) (tree_at slots i) a.is a.tree ∙ ap (λ b. b && (addressed o x (tree_at slots j) && addressed o x (tree_at slots k))) z)

-- ---- how often a name is defined

pub times-append : (x : ℕ) (a b : List ℕ) → times_in x (a ++ b) ≡ times_in x a + times_in x b
times-append x [] b = omega arith
times-append x (y ∷ a) b = omega (arith, times-append x a b)

times-end : (x : ℕ) (h : Node) (l : Last) (T : Tree) → h ≡ Ends l → T ≡ End l → times_in x (defined T) ≡ times_in x (node_values h) + times_in x (node_clones h)
times-end x h l T e d = ap (λ u. times_in x (defined u)) d ∙ ap (λ m. times_in x (node_values m) + times_in x (node_clones m)) (sym e)

times-do : (x : ℕ) (h : Node) (s : Step) (t T : Tree) → h ≡ Does s → T ≡ Do s t → times_in x (defined T) ≡ times_in x (node_values h) + times_in x (node_clones h) + times_in x (defined t)
times-do x h s t T e d =
    let a : times_in x (defined T) ≡ times_in x (step_values s) + times_in x (step_clones s ++ defined t) = ap (λ u. times_in x (defined u)) d ∙ times-append x (step_values s) (step_clones s ++ defined t) in
    let b : times_in x (node_values h) ≡ times_in x (step_values s) = ap (λ m. times_in x (node_values m)) e in
    let g : times_in x (node_clones h) ≡ times_in x (step_clones s) = ap (λ m. times_in x (node_clones m)) e in
    omega (arith, times-append x (step_clones s) (defined t))

times-if : (x : ℕ) (h : Node) (c : Cmp) (a b : ℕ) (t u T : Tree) → h ≡ Forks c a b → T ≡ If c a b t u
    → times_in x (defined T) ≡ times_in x (node_values h) + times_in x (node_clones h) + (times_in x (defined t) + times_in x (defined u))
times-if x h c a b t u T e d =
    let k : times_in x (defined T) ≡ times_in x (defined t) + times_in x (defined u) = ap (λ v. times_in x (defined v)) d ∙ times-append x (defined t) (defined u) in
    let l : times_in x (node_values h) ≡ 0 = ap (λ m. times_in x (node_values m)) e in
    let m : times_in x (node_clones h) ≡ 0 = ap (λ q. times_in x (node_clones q)) e in
    omega arith

pub times_none : (x : ℕ) (slots : Slots) (i : ℕ) (n : SsuNode) → HasTree slots i → slot slots i ≡ Some n → [] ≡ successors_of n → times_in x (defined (tree_at slots i)) ≡ times_in x (node_values (node_of n)) + times_in x (node_clones (node_of n))
times_none x slots i n h f e = let o = no_kids slots i n h f e in times-end x (node_of n) o.l (tree_at slots i) o.is o.tree

pub times_one : (x : ℕ) (slots : Slots) (i : ℕ) (n : SsuNode) (k : ℕ) → HasTree slots i → slot slots i ≡ Some n → k ∷ [] ≡ successors_of n
    → times_in x (defined (tree_at slots i)) ≡ times_in x (node_values (node_of n)) + times_in x (node_clones (node_of n)) + times_in x (defined (tree_at slots k))
times_one x slots i n k h f e = let o = one_kid slots i n k h f e in times-do x (node_of n) o.s (tree_at slots k) (tree_at slots i) o.is o.tree

pub times_two : (x : ℕ) (slots : Slots) (i : ℕ) (n : SsuNode) (j k : ℕ) → HasTree slots i → slot slots i ≡ Some n → j ∷ k ∷ [] ≡ successors_of n
    → times_in x (defined (tree_at slots i)) ≡ times_in x (node_values (node_of n)) + times_in x (node_clones (node_of n)) + (times_in x (defined (tree_at slots j)) + times_in x (defined (tree_at slots k)))
times_two x slots i n j k h f e = let o = two_kids slots i n j k h f e in times-if x (node_of n) o.c o.x o.y (tree_at slots j) (tree_at slots k) (tree_at slots i) o.is o.tree

-- ---- answers of two parts

pub by_first : (a b g : Bool) → a ≡ true → (a || b) ≡ g → true ≡ g
by_first true b g e h = h
by_first false b g e h = absurd (false≢true e)

pub by_second : (a b g r : Bool) → a ≡ false → r ≡ b → (a || b) ≡ g → r ≡ g
by_second true b g r e k h = absurd (false≢true (sym e))
by_second false b g r e k h = k ∙ h

pub by_failing : (a b g : Bool) → a ≡ false → (a && b) ≡ g → false ≡ g
by_failing true b g e h = absurd (false≢true (sym e))
by_failing false b g e h = h

pub by_passing : (a b g r : Bool) → a ≡ true → r ≡ b → (a && b) ≡ g → r ≡ g
by_passing true b g r e k h = k ∙ h
by_passing false b g r e k h = absurd (false≢true e)

-- where what is carried is a list and then perhaps the name itself
pub gone_name : (a g b h : Bool) → a ≡ false → g ≡ true → (a || (not g && b)) ≡ h → false ≡ h
gone_name true g b h d e f = absurd (false≢true (sym d))
gone_name false true b h d e f = f
gone_name false false b h d e f = absurd (false≢true e)

pub left_name : (a g b h r : Bool) → a ≡ false → g ≡ false → r ≡ b → (a || (not g && b)) ≡ h → r ≡ h
left_name true g b h r d e k f = absurd (false≢true (sym d))
left_name false true b h r d e k f = absurd (false≢true (sym e))
left_name false false b h r d e k f = k ∙ f

pub done_name : (a g b h : Bool) → a ≡ true → g ≡ true → (a && (g || b)) ≡ h → true ≡ h
done_name true true b h d e f = f
done_name true false b h d e f = absurd (false≢true e)
done_name false g b h d e f = absurd (false≢true d)

pub next_name : (a g b h r : Bool) → a ≡ true → g ≡ false → r ≡ b → (a && (g || b)) ≡ h → r ≡ h
next_name true true b h r d e k f = absurd (false≢true (sym e))
next_name true false b h r d e k f = k ∙ f
next_name false g b h r d e k f = absurd (false≢true d)

-- ---- sums that stay at 255

pub added : (a b m n k : ℕ) → a ≡ min 255 m → b ≡ min 255 n → k ≡ min (a + b) 255 → k ≡ min 255 (m + n)
added a b m n k e f g = omega arith

pub one_more : (x y : ℕ) (xs ys : List ℕ) (n one k : ℕ) → ys ≡ xs ++ y ∷ [] → n ≡ min 255 (times_in x xs) → one ≡ (if nat_eq x y then 1 else 0) → k ≡ min (n + one) 255 → k ≡ min 255 (times_in x ys)
one_more x y xs ys n one k f g e h =
    let a : times_in x ys ≡ times_in x xs + times_in x (y ∷ []) = ap (times_in x) f ∙ times-append x xs (y ∷ []) in
    let d : times_in x (y ∷ []) ≡ one + 0 = ap (λ w. w + 0) (sym e) in
    omega (arith, a, d)
