-- The functions of a group: their names, their signatures and their costs.
use Rattle.std.proofs.Common.{◌≡◌, ◌∙◌, refl, ap, sym, subst, ℕ, ◌+◌, max, Bool, true, false, ◌||◌, List, [], ◌∷◌, ◌++◌, None, append-nil, append_assoc, bytes_eq, arith}
use Rattle.std.proofs.lemmas.List.Folds.{list_any-append}
use Rattle.std.proofs.lemmas.Bool.{or_parts}
use Rattle.nv_ast.specs.Tree.{FunTree, GroupDecl}
use Rattle.nv_ast.specs.Tests.{is_among, names_of, look_up}
use Rattle.nv_ast.specs.Outline.{Layouts}
use Rattle.nv_ast.specs.Scope.{Signature, Known, callable, signature, signatures, in_group, known_after}
use Rattle.nv_ast.specs.Faults.{at_span, declared_before, name_faults, signature_faults, signatures_faults, body_faults, bodies_faults}
use Rattle.nv_ast.specs.Sizes.{GroupNumbers, numbered, param_words, body_vars, expanded, need, group_size, group_need}
use Rattle.nv_types_scopes.specs.declared.functions.Checker.{Checker}
use Rattle.nv_types_table.specs.declared.cost.Cost.{Cost}
use Rattle.nv_types_table.specs.inner.Cells.{still}
use Rattle.nv_types_table.specs.inner.Costs.{IsCost, two_costs}
use Rattle.nv_types_table.specs.inner.Layouts.{IsDeclared}
use Rattle.nv_types_table.specs.inner.Store.{IsParts}
use Rattle.nv_types_scopes.specs.inner.Standing.{Alike, IsFunction, Holds, Counts}
use Rattle.nv_types_scopes.specs.inner.Declarations.{Between, AreNew, with_own, AreSigned, costing}
use Rattle.nv_types_scopes.proofs.Alikes.{alike_names, alike_append, absent, names_of-append, look_up-append, look_up-here, none_waits}
use Rattle.nv_ast.proofs.Faultless.{no_front, no_rest, no_kinds, not_where}

-- ---- new names
last_or_first : (p q : Bool) → (p || q) ≡ (q || (p || false))
last_or_first true true = refl
last_or_first true false = refl
last_or_first false true = refl
last_or_first false false = refl

new_so : (a b : List (List ℕ)) → ((x : List ℕ) → is_among x a ≡ is_among x b) → (fs : List FunTree) → name_faults a fs ≡ [] → AreNew b fs
new_so a b same [] e = tt
new_so a b same (f ∷ fs) e =
    let here = not_where (is_among f.name a) 2 (no_kinds f.span (declared_before f.name a) (no_front (at_span f.span (declared_before f.name a)) (name_faults (f.name ∷ a) fs) e)) in (
      sym (same f.name) ∙ here,
      new_so (f.name ∷ a) (b ++ f.name ∷ []) (λ x. ap (λ t. bytes_eq x f.name || t) (same x) ∙ last_or_first (bytes_eq x f.name) (is_among x b) ∙ sym (list_any-append (bytes_eq x) b (f.name ∷ []))) fs
          (no_rest (at_span f.span (declared_before f.name a)) (name_faults (f.name ∷ a) fs) e),
    )

pub are_new : (names : List (List ℕ)) (fs : List FunTree) → name_faults names fs ≡ [] → AreNew names fs
are_new names fs e = new_so names names (λ x. refl) fs e

-- ---- signatures
signatures-append : (layouts : Layouts) (as_ bs : List FunTree) → signatures layouts (as_ ++ bs) ≡ signatures layouts as_ ++ signatures layouts bs
signatures-append layouts [] bs = refl
signatures-append layouts (a ∷ as_) bs = ap (λ l. (a.name, signature layouts a) ∷ l) (signatures-append layouts as_ bs)

pub with_own_more : (c : Checker) (k : Known) (done : List FunTree) (f : FunTree) → Holds c (with_own (in_group k done) f) → Holds c (in_group k (done ++ f ∷ []))
with_own_more c k done f h =
    subst (λ own. Holds c (record { layouts = k.layouts; exceptions = k.exceptions; functions = k.functions; own = own })) (sym (signatures-append k.layouts done (f ∷ []))) h

signed_in : (k : Known) (base : List (List ℕ × Signature)) (fs : List FunTree) → AreNew (names_of base) fs → callable k ≡ base ++ signatures k.layouts fs → AreSigned k fs
signed_in k base [] new e = tt
signed_in k base (f ∷ fs) new e =
    let g = signature k.layouts f in (
      ap (look_up f.name) e ∙ look_up-append f.name base ((f.name, g) ∷ signatures k.layouts fs) (absent f.name base new.0) ∙ look_up-here f.name g (signatures k.layouts fs),
      signed_in k (base ++ (f.name, g) ∷ []) fs (subst (λ names. AreNew names fs) (sym (names_of-append base ((f.name, g) ∷ []))) new.1) (e ∙ sym (append_assoc base ((f.name, g) ∷ []) (signatures k.layouts fs))),
    )

-- the functions of earlier groups, where none is of the own one
pub own_none : (k : Known) → k.own ≡ [] → callable k ≡ k.functions
own_none k e = ap (λ own. k.functions ++ own) e ∙ append-nil k.functions

pub known_names : (c : Checker) (k : Known) → Between c k → names_of c.functions ≡ names_of k.functions
known_names c k is = alike_names (IsFunction c.table) c.functions (callable k) is.holds.of_functions ∙ ap names_of (own_none k is.no_own)

pub all_signed : (c : Checker) (k : Known) → Between c k → (fs : List FunTree) → AreNew (names_of c.functions) fs → AreSigned (in_group k fs) fs
all_signed c k is fs new = signed_in (in_group k fs) k.functions fs (subst (λ names. AreNew names fs) (known_names c k is) new) refl

-- at the start of a group
pub group_start : (c : Checker) (k : Known) → Between c k → Holds c (in_group k [])
group_start c k is = subst (λ own. Holds c (record { layouts = k.layouts; exceptions = k.exceptions; functions = k.functions; own = own })) is.no_own is.holds

-- ---- the walk over signatures
pub record Signed (c now : Checker) (k : Known) (all done rest : List FunTree) : Type 0 where
  pub holds : Holds now (in_group k done)
  pub left : signatures_faults k.layouts all ≡ signatures_faults k.layouts rest
  pub new_names : AreNew (names_of now.functions) rest

abbrev pub SignedSo : Checker → Checker → List FunTree → List FunTree → List FunTree → Type 0
SignedSo c now all done rest = (k : Known) → Between c k → AreNew (names_of c.functions) all → Signed c now k all done rest

pub signed_start : (c : Checker) (all : List FunTree) → SignedSo c c all [] all
signed_start c all = λ k is new. record { holds = group_start c k is; left = refl; new_names = new }

front_absent : (x : List ℕ) (as_ bs : List (List ℕ)) → is_among x (as_ ++ bs) ≡ false → is_among x as_ ≡ false
front_absent x as_ bs e = (or_parts (is_among x as_) (is_among x bs) (sym (list_any-append (bytes_eq x) as_ bs) ∙ e)).0

own_names : (c : Checker) (k : Known) (fs : List FunTree) → Holds c (in_group k fs) → names_of c.functions ≡ names_of k.functions ++ names_of (signatures k.layouts fs)
own_names c k fs h = alike_names (IsFunction c.table) c.functions (k.functions ++ signatures k.layouts fs) h.of_functions ∙ names_of-append k.functions (signatures k.layouts fs)

-- a function of the group is new
pub unknown : (c now : Checker) (k : Known) (all done rest : List FunTree) (f : FunTree) → Signed c now k all done (f ∷ rest) → look_up f.name now.functions ≡ None
unknown c now k all done rest f s = absent f.name now.functions s.new_names.0

pub uncounted : (c now : Checker) (k : Known) (all done rest : List FunTree) (f : FunTree) → Between c k → now.costs ≡ c.costs → Signed c now k all done (f ∷ rest) → look_up f.name now.costs ≡ None
uncounted c now k all done rest f is same s =
    absent f.name now.costs
    (ap (λ l. is_among f.name (names_of l)) same
    ∙ ap (is_among f.name) (is.all_counted ∙ known_names c k is)
    ∙ front_absent f.name (names_of k.functions) (names_of (signatures k.layouts done)) (sym (ap (is_among f.name) (own_names now k done s.holds)) ∙ s.new_names.0))

pub signed_more : (c now new : Checker) (k : Known) (all done rest : List FunTree) (f : FunTree) → Signed c now k all done (f ∷ rest)
    → signature_faults k.layouts f ≡ [] → Holds new (with_own (in_group k done) f) → Signed c new k all (done ++ f ∷ []) rest
signed_more c now new k all done rest f s none holds =
    let held = with_own_more new k done f holds in
    record {
      holds = held;
      left = s.left ∙ ap (λ l. l ++ signatures_faults k.layouts rest) none;
      new_names = subst (λ names. AreNew names rest)
          (ap (λ l. l ++ f.name ∷ []) (own_names now k done s.holds)
          ∙ append_assoc (names_of k.functions) (names_of (signatures k.layouts done)) (f.name ∷ [])
          ∙ ap (λ l. names_of k.functions ++ l) (sym (names_of-append (signatures k.layouts done) (signatures k.layouts (f ∷ []))) ∙ ap names_of (sym (signatures-append k.layouts done (f ∷ []))))
          ∙ sym (own_names new k (done ++ f ∷ []) held))
          s.new_names.1;
    }

-- ---- costs
costing-append : (whole : Cost) (as_ bs : List FunTree) → costing whole (as_ ++ bs) ≡ costing whole as_ ++ costing whole bs
costing-append whole [] bs = refl
costing-append whole (a ∷ as_) bs = ap (λ l. (a.name, whole) ∷ l) (costing-append whole as_ bs)

pub record Costed (c now : Checker) (whole : Cost) (done rest : List FunTree) : Type 0 where
  pub added : now.costs ≡ c.costs ++ costing whole done
  pub new_names : AreNew (names_of now.costs) rest

pub costed_more : (c now new : Checker) (whole : Cost) (done rest : List FunTree) (f : FunTree) → Costed c now whole done (f ∷ rest)
    → (look_up f.name now.costs ≡ None → new.costs ≡ now.costs ++ (f.name, whole) ∷ []) → Costed c new whole (done ++ f ∷ []) rest
costed_more c now new whole done rest f s add =
    let e = add (absent f.name now.costs s.new_names.0) in
    record {
      added = e ∙ ap (λ l. l ++ (f.name, whole) ∷ []) s.added ∙ append_assoc c.costs (costing whole done) ((f.name, whole) ∷ []) ∙ ap (λ l. c.costs ++ l) (sym (costing-append whole done (f ∷ [])));
      new_names = subst (λ names. AreNew names rest) (sym (ap names_of e ∙ names_of-append now.costs ((f.name, whole) ∷ []))) s.new_names.1;
    }

costing_names : (layouts : Layouts) (whole : Cost) (fs : List FunTree) → names_of (costing whole fs) ≡ names_of (signatures layouts fs)
costing_names layouts whole [] = refl
costing_names layouts whole (f ∷ fs) = ap (λ l. f.name ∷ l) (costing_names layouts whole fs)

sizes_numbered : (whole : Cost) (n : ℕ) → whole.size ≡ still n → (fs : List FunTree) → Alike (λ (cost : Cost) m. cost.size ≡ still m) (costing whole fs) (numbered n fs)
sizes_numbered whole n e [] = tt
sizes_numbered whole n e (f ∷ fs) = (refl, e, sizes_numbered whole n e fs)

needs_numbered : (whole : Cost) (n : ℕ) → whole.need ≡ still n → (fs : List FunTree) → Alike (λ (cost : Cost) m. cost.need ≡ still m) (costing whole fs) (numbered n fs)
needs_numbered whole n e [] = tt
needs_numbered whole n e (f ∷ fs) = (refl, e, needs_numbered whole n e fs)

pub counts_group : (c new : Checker) (sizes needs : GroupNumbers) (whole : Cost) (n m : ℕ) (fs : List FunTree) → Counts c sizes needs → IsCost whole 0 n m → new.costs ≡ c.costs ++ costing whole fs
    → Counts new (sizes ++ numbered n fs) (needs ++ numbered m fs)
counts_group c new sizes needs whole n m fs h is e = record {
  of_sizes = subst (λ l. Alike (λ (cost : Cost) z. cost.size ≡ still z) l (sizes ++ numbered n fs)) (sym e)
      (alike_append (λ (cost : Cost) z. cost.size ≡ still z) c.costs (costing whole fs) sizes (numbered n fs) h.of_sizes (sizes_numbered whole n is.of_size fs));
  of_needs = subst (λ l. Alike (λ (cost : Cost) z. cost.need ≡ still z) l (needs ++ numbered m fs)) (sym e)
      (alike_append (λ (cost : Cost) z. cost.need ≡ still z) c.costs (costing whole fs) needs (numbered m fs) h.of_needs (needs_numbered whole m is.of_need fs));
}

-- after a group
pub between_group : (c mid new : Checker) (k : Known) (fs : List FunTree) (whole : Cost) → Between c k → Holds mid (in_group k fs)
    → new.table ≡ mid.table → new.layouts ≡ mid.layouts → new.exceptions ≡ mid.exceptions → new.functions ≡ mid.functions → new.costs ≡ c.costs ++ costing whole fs → new.scope ≡ []
    → Between new (known_after k (GroupDecl fs))
between_group c mid new k fs whole is h table layouts exceptions functions costs scope =
    let names : names_of new.functions ≡ names_of k.functions ++ names_of (signatures k.layouts fs) = ap names_of functions ∙ own_names mid k fs h in
    let counted : names_of new.costs ≡ names_of new.functions =
    ap names_of costs ∙ names_of-append c.costs (costing whole fs) ∙ ap (λ l. l ++ names_of (costing whole fs)) (is.all_counted ∙ known_names c k is)
    ∙ ap (λ l. names_of k.functions ++ l) (costing_names k.layouts whole fs) ∙ sym names in
    let own : (k.functions ++ signatures k.layouts fs) ++ k.own ≡ k.functions ++ signatures k.layouts fs = ap (λ own. (k.functions ++ signatures k.layouts fs) ++ own) is.no_own ∙ append-nil (k.functions ++ signatures k.layouts fs) in
    record {
      holds = record {
        of_layouts = subst (λ t. Alike (IsDeclared t) new.layouts k.layouts) (sym table) (subst (λ l. Alike (IsDeclared mid.table) l k.layouts) (sym layouts) h.of_layouts);
        of_exceptions = subst (λ t. Alike (IsParts t) new.exceptions k.exceptions) (sym table) (subst (λ l. Alike (IsParts mid.table) l k.exceptions) (sym exceptions) h.of_exceptions);
        of_functions = subst (λ t. Alike (IsFunction t) new.functions ((k.functions ++ signatures k.layouts fs) ++ k.own)) (sym table)
            (subst (λ l. Alike (IsFunction mid.table) new.functions l) (sym own) (subst (λ l. Alike (IsFunction mid.table) l (k.functions ++ signatures k.layouts fs)) (sym functions) h.of_functions));
        of_own = λ f. ap (λ l. is_among f (names_of l)) is.no_own ∙ sym (none_waits f new.functions new.costs (sym counted));
      };
      no_own = is.no_own;
      all_counted = counted;
      no_variables = scope;
    }

-- ---- the walk over bodies
still_sum : (a b : ℕ) → still (still a + still b) ≡ still (a + b)
still_sum a b = omega arith

still_max : (a b : ℕ) → max (still a) (still b) ≡ still (max a b)
still_max a b = omega arith

abbrev pub fun_size : GroupNumbers → Known → FunTree → ℕ
fun_size sizes k f = 1 + (param_words k f + expanded sizes k (body_vars k f) f.body)

abbrev pub fun_need : GroupNumbers → Known → FunTree → ℕ
fun_need needs k f = param_words k f + need needs k (body_vars k f) f.body

size_more : (sizes : GroupNumbers) (k : Known) (done : List FunTree) (f : FunTree) → group_size sizes k (done ++ f ∷ []) ≡ group_size sizes k done + fun_size sizes k f
size_more sizes k [] f = omega arith
size_more sizes k (d ∷ done) f = omega (arith, size_more sizes k done f)

need_more : (needs : GroupNumbers) (k : Known) (done : List FunTree) (f : FunTree) → group_need needs k (done ++ f ∷ []) ≡ max (group_need needs k done) (fun_need needs k f)
need_more needs k [] f = omega arith
need_more needs k (d ∷ done) f = omega (arith, need_more needs k done f)

pub cost_more : (sizes needs : GroupNumbers) (k : Known) (done : List FunTree) (f : FunTree) (whole cost : Cost)
    → IsCost whole 0 (group_size sizes k done) (group_need needs k done) → IsCost cost 0 (fun_size sizes k f) (fun_need needs k f)
    → IsCost (two_costs whole cost) 0 (group_size sizes k (done ++ f ∷ [])) (group_need needs k (done ++ f ∷ []))
cost_more sizes needs k done f whole cost a b = record {
  of_words = omega (arith, a.of_words, b.of_words);
  of_size = ap (λ n. still (n + cost.size)) a.of_size ∙ ap (λ n. still (still (group_size sizes k done) + n)) b.of_size ∙ still_sum (group_size sizes k done) (fun_size sizes k f) ∙ ap still (sym (size_more sizes k done f));
  of_need = ap (λ n. max n cost.need) a.of_need ∙ ap (λ n. max (still (group_need needs k done)) n) b.of_need ∙ still_max (group_need needs k done) (fun_need needs k f) ∙ ap still (sym (need_more needs k done f));
}

pub record Bodied (k : Known) (all rest : List FunTree) : Type 0 where
  pub left : bodies_faults k all ≡ bodies_faults k rest
  pub signed : AreSigned k rest

abbrev pub BodiedSo : Checker → List FunTree → List FunTree → Type 0
BodiedSo c all rest = (k : Known) → Holds c k → c.scope ≡ [] → AreSigned k all → Bodied k all rest

abbrev pub CountedSo : Checker → Cost → List FunTree → List FunTree → Type 0
CountedSo c whole all done = (k : Known) (sizes needs : GroupNumbers) → Holds c k → c.scope ≡ [] → AreSigned k all → Counts c sizes needs → IsCost whole 0 (group_size sizes k done) (group_need needs k done)

pub bodied_more : (k : Known) (all rest : List FunTree) (f : FunTree) → Bodied k all (f ∷ rest) → body_faults k f ≡ [] → Bodied k all rest
bodied_more k all rest f s none = record { left = s.left ∙ ap (λ l. l ++ bodies_faults k rest) none; signed = s.signed.1 }
