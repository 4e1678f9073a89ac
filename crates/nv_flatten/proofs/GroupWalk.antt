-- Where each function of a program stands: in a group, with a number for each group before it, such as its size.
use Rattle.std.proofs.Common.{◌≡◌, ◌∙◌, refl, sym, ap, subst, ℕ, suc, ◌+◌, ◌<◌, ◌≤◌, Bool, true, false, List, [], ◌∷◌, ◌++◌, map, length, get_or, Option, Some, None, bytes_eq, arith, if◌then◌else◌}
use Rattle.std.specs.Prelude.{slice_get, replicate}
use Rattle.std.proofs.lemmas.Option.{same_Some}
use Rattle.nv_ast.specs.Tests.{value_at, names_of}
use Rattle.nv_ast.specs.Tree.{FunTree, DeclTree, LayoutDecl, ExceptionDecl, GroupDecl, ProgramTree}
use Rattle.nv_ast.specs.Types.{named_types_of}
use Rattle.nv_ast.specs.Sizes.{GroupNumbers, numbered}
use Rattle.nv_ast.specs.Scope.{Known, nothing_known, in_group, known_after}
use Rattle.nv_ast.specs.Faults.{signature_faults, signatures_faults, bodies_faults, body_faults, name_faults, decl_faults, decls_faults, program_faults}
use Rattle.nv_meaning.specs.Meaning.{function_in}
use Rattle.nv_meaning_values.specs.inner.Tables.{place_from}
use Rattle.nv_flatten_values.specs.inner.Whole.{Whole, whole_of, groups_from, group_of, group_at, IsPart}
use Rattle.nv_flatten.proofs.Knowing.{params-stay, function-front, function-behind, with-functions}
use Rattle.nv_flatten.proofs.Bodies.{SoFar, so_far, numbers, at-first, layouts-front, functions-front, layout-step, exception-step, group-step, part-of, body-found, signed-found, group-exact}
use Rattle.nv_ast.proofs.Faultless.{no_front, no_rest}

-- a group: the numbers of the groups before, what is known in its bodies, and its functions
pub record Group : Type 0 where
  pub before : GroupNumbers
  pub known : Known
  pub funs : List FunTree

abbrev pub no_group : Group
no_group = record { before = []; known = nothing_known; funs = [] }

abbrev pub this_group : GroupNumbers → Known → List FunTree → Group
this_group nums k fs = record { before = nums; known = in_group k fs; funs = fs }

-- how the number of a group is counted
abbrev pub Count : Type 0
Count = GroupNumbers → Known → List FunTree → ℕ

abbrev pub number_of : Count → Group → ℕ
number_of count d = count d.before d.known d.funs

abbrev pub with_group : Count → GroupNumbers → Known → List FunTree → GroupNumbers
with_group count nums k fs = nums ++ numbered (count nums (in_group k fs) fs) fs

-- the groups in order
abbrev pub groups_in : Count → GroupNumbers → Known → List DeclTree → List Group
groups_in count nums k [] = []
groups_in count nums k (LayoutDecl x l s ∷ ds) = groups_in count nums (known_after k (LayoutDecl x l s)) ds
groups_in count nums k (ExceptionDecl x ts s ∷ ds) = groups_in count nums (known_after k (ExceptionDecl x ts s)) ds
groups_in count nums k (GroupDecl fs ∷ ds) = this_group nums k fs ∷ groups_in count (with_group count nums k fs) (known_after k (GroupDecl fs)) ds

-- the numbers of all groups
abbrev pub numbers_behind : Count → GroupNumbers → Known → List DeclTree → GroupNumbers
numbers_behind count nums k [] = nums
numbers_behind count nums k (LayoutDecl x l s ∷ ds) = numbers_behind count nums (known_after k (LayoutDecl x l s)) ds
numbers_behind count nums k (ExceptionDecl x ts s ∷ ds) = numbers_behind count nums (known_after k (ExceptionDecl x ts s)) ds
numbers_behind count nums k (GroupDecl fs ∷ ds) = numbers_behind count (with_group count nums k fs) (known_after k (GroupDecl fs)) ds

-- ---- functions with the numbers of their groups
abbrev tagged : (ℕ → ℕ) → List FunTree → List ℕ → GroupNumbers
tagged v [] gs = []
tagged v (f ∷ fs) [] = []
tagged v (f ∷ fs) (m ∷ gs) = (f.name, v m) ∷ tagged v fs gs

tagged-append : (v : ℕ → ℕ) (fs more : List FunTree) (gs rest : List ℕ) → length gs ≡ length fs → tagged v (fs ++ more) (gs ++ rest) ≡ tagged v fs gs ++ tagged v more rest
tagged-append v [] more [] rest e = refl
tagged-append v [] more (m ∷ gs) rest e = absurd (omega arith)
tagged-append v (f ∷ fs) more [] rest e = absurd (omega arith)
tagged-append v (f ∷ fs) more (m ∷ gs) rest e = ap (λ l. (f.name, v m) ∷ l) (tagged-append v fs more gs rest (omega arith))

tagged-numbered : (v : ℕ → ℕ) (n : ℕ) (fs : List FunTree) → tagged v fs (replicate (length fs) n) ≡ numbered (v n) fs
tagged-numbered v n [] = refl
tagged-numbered v n (f ∷ fs) = ap (λ l. (f.name, v n) ∷ l) (tagged-numbered v n fs)

-- where a function stands, its group, and the number under its name
record IsTagged (v : ℕ → ℕ) (j : ℕ) (f : List ℕ) (names : List (List ℕ)) (groups : List ℕ) (tags : GroupNumbers) : Type 0 where
  pub place : ℕ
  pub group : ℕ
  pub stands : place_from j f names ≡ Some (j + place)
  pub grouped : slice_get groups place ≡ Some group
  pub tag : value_at 0 f tags ≡ v group

tagged-at : (v : ℕ → ℕ) (j : ℕ) (fs more : List FunTree) (gs rest : List ℕ) (f : List ℕ) (g : FunTree) → length gs ≡ length fs → function_in fs f ≡ Some g → IsTagged v j f (map (λ h. h.name) (fs ++ more)) (gs ++ rest) (tagged v fs gs)
tagged-at v j [] more gs rest f g e h = absurd (cc)
tagged-at v j (d ∷ fs) more [] rest f g e h = absurd (omega arith)
tagged-at v j (d ∷ fs) more (m ∷ gs) rest f g e h = by (bytes_eq f d.name) refl (λ k. tagged-at v (suc j) fs more gs rest f g (omega arith) k)
  where
    by : (b : Bool) → bytes_eq f d.name ≡ b → (function_in fs f ≡ Some g → IsTagged v (suc j) f (map (λ h. h.name) (fs ++ more)) (gs ++ rest) (tagged v fs gs))
        → IsTagged v j f (map (λ h. h.name) ((d ∷ fs) ++ more)) ((m ∷ gs) ++ rest) (tagged v (d ∷ fs) (m ∷ gs))
    by true q next = record {
      place = 0;
      group = m;
      stands = (let z : j ≡ j + 0 = omega arith in ap (λ b. if b then Some j else place_from (suc j) f (map (λ h. h.name) (fs ++ more))) q ∙ ap (λ i. Some i) z);
      grouped = refl;
      tag = ap (λ b. if b then v m else value_at 0 f (tagged v fs gs)) q;
    }
    by false q next =
        let r = next (sym (ap (λ b. if b then Some d else function_in fs f) q) ∙ h) in
        let z : suc j + r.place ≡ j + suc r.place = omega arith in
        record {
          place = suc r.place;
          group = r.group;
          stands = ap (λ b. if b then Some j else place_from (suc j) f (map (λ h. h.name) (fs ++ more))) q ∙ r.stands ∙ ap (λ i. Some i) z;
          grouped = r.grouped;
          tag = ap (λ b. if b then v m else value_at 0 f (tagged v fs gs)) q ∙ r.tag;
        }

-- a function so far has its group's number under its name
tag-of : (w : Whole) (v : ℕ → ℕ) (k : Known) (funs : List FunTree) (gs : List ℕ) (n : ℕ) (ds : List DeclTree) → SoFar w k funs gs n ds → (f : List ℕ) (g : FunTree) → function_in funs f ≡ Some g → (m : ℕ) → group_of w f ≡ Some m → value_at 0 f (tagged v funs gs) ≡ v m
tag-of w v k funs gs n ds so f g found m grouped =
    let front = with-functions (so_far k funs) ds in
    let functions : w.declared.functions ≡ funs ++ front.0 = sym (ap (λ d. d.functions) so.declared) ∙ front.1 in
    let r = tagged-at v 0 funs front.0 gs (groups_from n ds) f g so.as_many found in
    let z : 0 + r.place ≡ r.place = omega arith in
    let there : group_of w f ≡ Some r.group =
    ap (λ l. group_at w (place_from 0 f (map (λ h. h.name) l))) functions ∙ (ap (group_at w) r.stands ∙ (ap (slice_get w.groups) z ∙ (ap (λ l. slice_get l r.place) so.groups ∙ r.grouped))) in
    r.tag ∙ ap v (same_Some _ _ (sym there ∙ grouped))

-- a function that isn't there so far is in a later group
later-group : (w : Whole) (k : Known) (funs : List FunTree) (gs : List ℕ) (n : ℕ) (ds : List DeclTree) → SoFar w k funs gs n ds → decls_faults k ds ≡ [] → (f : List ℕ) (g : FunTree) → function_in funs f ≡ None → function_in w.declared.functions f ≡ Some g
    → (m : ℕ) × (group_of w f ≡ Some m) × (n ≤ m)
later-group w k funs gs n [] so h f g none found = let e : None ≡ Some g = sym none ∙ (ap (λ d. function_in d.functions f) so.declared ∙ found) in cc
later-group w k funs gs n (LayoutDecl x l s ∷ ds) so h f g none found =
    later-group w (known_after k (LayoutDecl x l s)) funs gs n ds (layout-step w k funs gs n x l s ds so (no_front (decl_faults k (LayoutDecl x l s)) _ h)) (no_rest (decl_faults k (LayoutDecl x l s)) _ h) f g none found
later-group w k funs gs n (ExceptionDecl x ts s ∷ ds) so h f g none found =
    later-group w (known_after k (ExceptionDecl x ts s)) funs gs n ds (exception-step w k funs gs n x ts s ds so (no_front (decl_faults k (ExceptionDecl x ts s)) _ h)) (no_rest (decl_faults k (ExceptionDecl x ts s)) _ h) f g none found
later-group w k funs gs n (GroupDecl fs ∷ ds) so h f g none found =
    by (function_in fs f) refl (λ missing. later-group w (known_after k (GroupDecl fs)) (funs ++ fs) (numbers gs n fs) (suc n) ds (group-step w k funs gs n fs ds so signs) (no_rest (decl_faults k (GroupDecl fs)) _ h) f g missing found)
  where
    signs : signatures_faults k.layouts fs ≡ []
    signs = no_front (signatures_faults k.layouts fs) _ (no_rest (name_faults (names_of k.functions) fs) _ (no_front (decl_faults k (GroupDecl fs)) _ h))

    by : (o : Option FunTree) → function_in fs f ≡ o → (function_in (funs ++ fs) f ≡ None → (m : ℕ) × (group_of w f ≡ Some m) × (suc n ≤ m)) → (m : ℕ) × (group_of w f ≡ Some m) × (n ≤ m)
    by (Some d) q next = (n, group-exact w k funs gs n fs ds so f d none q, omega arith)
    by None q next = let r = next (function-behind funs fs f none ∙ q) in (r.0, r.1, omega arith)

-- ---- a function in its group, and the numbers of the groups before
pub record IsIn (w : Whole) (count : Count) (at : ℕ → Group) (f : List ℕ) (g : FunTree) : Type 0 where
  pub own : ℕ
  pub part : IsPart w own (at own).known
  pub grouped : group_of w f ≡ Some own
  pub found : function_in (at own).funs f ≡ Some g
  pub none : body_faults (at own).known g ≡ []
  pub params : named_types_of (at own).known.layouts g.params ≡ named_types_of w.declared.layouts g.params
  pub earlier : (h : List ℕ) (d : FunTree) (m : ℕ) → function_in w.declared.functions h ≡ Some d → group_of w h ≡ Some m → m < own → value_at 0 h (at own).before ≡ number_of count (at m)

-- the numbers so far are those of the functions so far, and the further groups come in order
record GroupsSoFar (count : Count) (at : ℕ → Group) (nums : GroupNumbers) (k : Known) (funs : List FunTree) (gs : List ℕ) (n : ℕ) (ds : List DeclTree) : Type 0 where
  pub tags : nums ≡ tagged (λ i. number_of count (at i)) funs gs
  pub ahead : (i : ℕ) → get_or (groups_in count nums k ds) i no_group ≡ at (n + i)

this-one : (count : Count) (at : ℕ → Group) (nums : GroupNumbers) (k : Known) (funs : List FunTree) (gs : List ℕ) (n : ℕ) (fs : List FunTree) (ds : List DeclTree) → GroupsSoFar count at nums k funs gs n (GroupDecl fs ∷ ds) → this_group nums k fs ≡ at n
this-one count at nums k funs gs n fs ds groups = let z : n + 0 ≡ n = omega arith in groups.ahead 0 ∙ ap at z

next-group : (count : Count) (at : ℕ → Group) (nums : GroupNumbers) (k : Known) (funs : List FunTree) (gs : List ℕ) (n : ℕ) (fs : List FunTree) (ds : List DeclTree) → length gs ≡ length funs → GroupsSoFar count at nums k funs gs n (GroupDecl fs ∷ ds)
    → GroupsSoFar count at (with_group count nums k fs) (known_after k (GroupDecl fs)) (funs ++ fs) (numbers gs n fs) (suc n) ds
next-group count at nums k funs gs n fs ds many groups =
    let v : ℕ → ℕ = λ i. number_of count (at i) in
    let here : count nums (in_group k fs) fs ≡ v n = ap (number_of count) (this-one count at nums k funs gs n fs ds groups) in
    record {
      tags = ap (λ l. l ++ numbered (count nums (in_group k fs) fs) fs) groups.tags
          ∙ (ap (λ a. tagged v funs gs ++ numbered a fs) here
          ∙ (ap (λ l. tagged v funs gs ++ l) (sym (tagged-numbered v n fs)) ∙ sym (tagged-append v funs fs gs (replicate (length fs) n) many)));
      ahead = λ i. let y : n + suc i ≡ suc n + i = omega arith in groups.ahead (suc i) ∙ ap at y;
    }

in-this : (w : Whole) (count : Count) (at : ℕ → Group) (nums : GroupNumbers) (k : Known) (funs : List FunTree) (gs : List ℕ) (n : ℕ) (fs : List FunTree) (ds : List DeclTree) → SoFar w k funs gs n (GroupDecl fs ∷ ds) → GroupsSoFar count at nums k funs gs n (GroupDecl fs ∷ ds)
    → decls_faults k (GroupDecl fs ∷ ds) ≡ [] → (f : List ℕ) (g : FunTree) → function_in funs f ≡ None → function_in fs f ≡ Some g → IsIn w count at f g
in-this w count at nums k funs gs n fs ds so groups all f g none found =
    let h = no_front (decl_faults k (GroupDecl fs)) (decls_faults (known_after k (GroupDecl fs)) ds) all in
    let rest : signatures_faults k.layouts fs ++ bodies_faults (in_group k fs) fs ≡ [] = no_rest (name_faults (names_of k.functions) fs) _ h in
    let signs : signatures_faults k.layouts fs ≡ [] = no_front (signatures_faults k.layouts fs) _ rest in
    let front = layouts-front w k funs gs n (GroupDecl fs ∷ ds) so in
    let sign : signature_faults k.layouts g ≡ [] = signed-found k.layouts fs f g signs found in
    let here : this_group nums k fs ≡ at n = this-one count at nums k funs gs n fs ds groups in
    record {
      own = n;
      part = subst (λ (d : Group). IsPart w n d.known) here (part-of w k funs gs n fs ds so signs);
      grouped = group-exact w k funs gs n fs ds so f g none found;
      found = subst (λ (d : Group). function_in d.funs f ≡ Some g) here found;
      none = subst (λ (d : Group). body_faults d.known g ≡ []) here (body-found (in_group k fs) fs f g (no_rest (signatures_faults k.layouts fs) _ rest) found);
      params = subst (λ (d : Group). named_types_of d.known.layouts g.params ≡ named_types_of w.declared.layouts g.params) here (sym (ap (λ l. named_types_of l g.params) front.1 ∙ params-stay k.layouts front.0 g sign));
      earlier = λ x d m there grouped before. subst (λ (e : Group). value_at 0 x e.before ≡ number_of count (at m)) here (earlier x d m there grouped before (function_in funs x) refl);
    }
  where
    earlier : (x : List ℕ) (d : FunTree) (m : ℕ) → function_in w.declared.functions x ≡ Some d → group_of w x ≡ Some m → m < n → (o : Option FunTree) → function_in funs x ≡ o → value_at 0 x nums ≡ number_of count (at m)
    earlier x d m there grouped before (Some c) q = ap (value_at 0 x) groups.tags ∙ tag-of w (λ i. number_of count (at i)) k funs gs n (GroupDecl fs ∷ ds) so x c q m grouped
    earlier x d m there grouped before None q =
        let r = later-group w k funs gs n (GroupDecl fs ∷ ds) so all x d q there in
        let same : r.0 ≡ m = same_Some _ _ (sym r.1 ∙ grouped) in
        let le : n ≤ r.0 = r.2 in
        absurd (omega arith)

in-from : (w : Whole) (count : Count) (at : ℕ → Group) (nums : GroupNumbers) (k : Known) (funs : List FunTree) (gs : List ℕ) (n : ℕ) (ds : List DeclTree) → SoFar w k funs gs n ds → GroupsSoFar count at nums k funs gs n ds → decls_faults k ds ≡ []
    → (f : List ℕ) (g : FunTree) → function_in funs f ≡ None → function_in w.declared.functions f ≡ Some g → IsIn w count at f g
in-from w count at nums k funs gs n [] so groups h f g none found = let e : None ≡ Some g = sym none ∙ (ap (λ d. function_in d.functions f) so.declared ∙ found) in absurd (cc)
in-from w count at nums k funs gs n (LayoutDecl x l s ∷ ds) so groups h f g none found =
    in-from w count at nums (known_after k (LayoutDecl x l s)) funs gs n ds (layout-step w k funs gs n x l s ds so (no_front (decl_faults k (LayoutDecl x l s)) _ h)) (record { tags = groups.tags; ahead = groups.ahead }) (no_rest (decl_faults k (LayoutDecl x l s)) _ h) f g none found
in-from w count at nums k funs gs n (ExceptionDecl x ts s ∷ ds) so groups h f g none found =
    in-from w count at nums (known_after k (ExceptionDecl x ts s)) funs gs n ds (exception-step w k funs gs n x ts s ds so (no_front (decl_faults k (ExceptionDecl x ts s)) _ h)) (record { tags = groups.tags; ahead = groups.ahead })
    (no_rest (decl_faults k (ExceptionDecl x ts s)) _ h) f g none found
in-from w count at nums k funs gs n (GroupDecl fs ∷ ds) so groups h f g none found =
    by (function_in fs f) refl
    (λ missing. in-from w count at (with_group count nums k fs) (known_after k (GroupDecl fs)) (funs ++ fs) (numbers gs n fs) (suc n) ds (group-step w k funs gs n fs ds so signs) (next-group count at nums k funs gs n fs ds so.as_many groups)
    (no_rest (decl_faults k (GroupDecl fs)) _ h) f g missing found)
  where
    signs : signatures_faults k.layouts fs ≡ []
    signs = no_front (signatures_faults k.layouts fs) _ (no_rest (name_faults (names_of k.functions) fs) _ (no_front (decl_faults k (GroupDecl fs)) _ h))

    by : (o : Option FunTree) → function_in fs f ≡ o → (function_in (funs ++ fs) f ≡ None → IsIn w count at f g) → IsIn w count at f g
    by (Some d) q next =
        let front = functions-front w k funs gs n fs ds so in
        let there : function_in w.declared.functions f ≡ Some d = ap (λ l. function_in l f) front.1 ∙ function-front (funs ++ fs) front.0 f d (function-behind funs fs f none ∙ q) in
        subst (IsIn w count at f) (same_Some _ _ (sym there ∙ found)) (in-this w count at nums k funs gs n fs ds so groups h f d none q)
    by None q next = next (function-behind funs fs f none ∙ q)

-- ---- all numbers together
last-number : (w : Whole) (count : Count) (at : ℕ → Group) (nums : GroupNumbers) (k : Known) (funs : List FunTree) (gs : List ℕ) (n : ℕ) (ds : List DeclTree) → SoFar w k funs gs n ds → GroupsSoFar count at nums k funs gs n ds → decls_faults k ds ≡ []
    → (f : List ℕ) (g : FunTree) → function_in w.declared.functions f ≡ Some g → (m : ℕ) → group_of w f ≡ Some m → value_at 0 f (numbers_behind count nums k ds) ≡ number_of count (at m)
last-number w count at nums k funs gs n [] so groups h f g found m grouped =
    ap (value_at 0 f) groups.tags ∙ tag-of w (λ i. number_of count (at i)) k funs gs n [] so f g (ap (λ d. function_in d.functions f) so.declared ∙ found) m grouped
last-number w count at nums k funs gs n (LayoutDecl x l s ∷ ds) so groups h f g found m grouped =
    last-number w count at nums (known_after k (LayoutDecl x l s)) funs gs n ds (layout-step w k funs gs n x l s ds so (no_front (decl_faults k (LayoutDecl x l s)) _ h)) (record { tags = groups.tags; ahead = groups.ahead })
    (no_rest (decl_faults k (LayoutDecl x l s)) _ h) f g found m grouped
last-number w count at nums k funs gs n (ExceptionDecl x ts s ∷ ds) so groups h f g found m grouped =
    last-number w count at nums (known_after k (ExceptionDecl x ts s)) funs gs n ds (exception-step w k funs gs n x ts s ds so (no_front (decl_faults k (ExceptionDecl x ts s)) _ h)) (record { tags = groups.tags; ahead = groups.ahead })
    (no_rest (decl_faults k (ExceptionDecl x ts s)) _ h) f g found m grouped
last-number w count at nums k funs gs n (GroupDecl fs ∷ ds) so groups h f g found m grouped =
    last-number w count at (with_group count nums k fs) (known_after k (GroupDecl fs)) (funs ++ fs) (numbers gs n fs) (suc n) ds
    (group-step w k funs gs n fs ds so (no_front (signatures_faults k.layouts fs) _ (no_rest (name_faults (names_of k.functions) fs) _ (no_front (decl_faults k (GroupDecl fs)) _ h))))
    (next-group count at nums k funs gs n fs ds so.as_many groups) (no_rest (decl_faults k (GroupDecl fs)) _ h) f g found m grouped

-- ---- of a whole program
abbrev pub group_in : Count → ProgramTree → ℕ → Group
group_in count t i = get_or (groups_in count [] nothing_known t.decls) i no_group

groups-first : (count : Count) (t : ProgramTree) → GroupsSoFar count (group_in count t) [] nothing_known [] [] 0 t.decls
groups-first count t = record { tags = refl; ahead = λ i. let z : i ≡ 0 + i = omega arith in ap (group_in count t) z }

pub stands-in : (count : Count) (t : ProgramTree) → program_faults t ≡ [] → (f : List ℕ) (g : FunTree) → function_in (whole_of t).declared.functions f ≡ Some g → IsIn (whole_of t) count (group_in count t) f g
stands-in count t h f g found = in-from (whole_of t) count (group_in count t) [] nothing_known [] [] 0 t.decls (at-first t) (groups-first count t) (no_front (decls_faults nothing_known t.decls) _ h) f g refl found

-- the number of a function among all numbers is that of its group
pub number-in : (count : Count) (t : ProgramTree) → program_faults t ≡ [] → (f : List ℕ) (g : FunTree) → function_in (whole_of t).declared.functions f ≡ Some g → (m : ℕ) → group_of (whole_of t) f ≡ Some m
    → value_at 0 f (numbers_behind count [] nothing_known t.decls) ≡ number_of count (group_in count t m)
number-in count t h f g found m grouped =
    last-number (whole_of t) count (group_in count t) [] nothing_known [] [] 0 t.decls (at-first t) (groups-first count t) (no_front (decls_faults nothing_known t.decls) _ h) f g found m grouped
