-- The tests name by name decide single use.
use Rattle.std.proofs.Common.{◌≡◌, ℕ, Bool, true, false, not, ◌&&◌, ◌||◌, List, [], ◌∷◌, ◌++◌, None, refl, sym, ap, ◌∙◌, slice_get}
use Rattle.std.specs.List.{list_all}
use Rattle.std.proofs.lemmas.Bool.{and_parts, and_from, or_left, or_right, not-true, false≢true, eqb-true, eq-eqb}
use Rattle.std.proofs.lemmas.List.Folds.{list_all-append}
use Rattle.nv_base.specs.Sets.{is_in, all_different}
use Rattle.ssu_ir.specs.Tree.{Tree, Label, step_values, step_clones, last_uses, Do, If, End, Does, Forks}
use Rattle.ssu_ir.specs.Points.{own, used}
use Rattle.ssu_ir.specs.Single.{defined, all_defined, is_step, is_last, are_nodes, step_names, names, are_new, uses_once, is_scoped, fresh_after, clones_fresh, clones_early, step_results, results_used, unknown, are_addressed, is_entry, is_single, single}
use Rattle.ssu_ir.specs.inner.Checks.{step_defs, times_in, is_free, copy_used, addressed, number_of, is_bound, is_once, node_kept, step_kept, is_kept, label_kept, all_kept}
use Rattle.ssu_ir.proofs.Lists.{same_tests, all_at, all_from, different-times, times-different}
use Rattle.ssu_ir.proofs.Scopes.{free_known, scoped_from, free_named, used-own}
use Rattle.ssu_ir.proofs.Addresses.{own_addressed, named_addressed, values_addressed, addressed_from, unused_addressed}

-- ---- lists in parts

both_parts : (p : ℕ → Bool) (a b : List ℕ) → list_all p (a ++ b) ≡ true → (list_all p a ≡ true) × (list_all p b ≡ true)
both_parts p a b h = and_parts (list_all p a) (list_all p b) (sym (list_all-append p a b) ∙ h)

both_from : (p : ℕ → Bool) (a b : List ℕ) → list_all p a ≡ true → list_all p b ≡ true → list_all p (a ++ b) ≡ true
both_from p a b f g = list_all-append p a b ∙ and_from (list_all p a) (list_all p b) f g

pub none-new : (xs : List ℕ) → list_all (λ x. not (is_in x [])) xs ≡ true
none-new [] = refl
none-new (x ∷ xs) = none-new xs

-- ---- a tree

-- what the tests of a tree say, rule by rule
pub record Kept (labels : List Label) (known : ℕ → Bool) (fresh : List ℕ) (t : Tree) : Type 0 where
  pub fit : are_nodes labels t ≡ true
  pub once : uses_once t ≡ true
  pub bound : list_all known (names t) ≡ true
  pub defined_once : list_all (is_once labels) (defined t) ≡ true
  pub early : clones_early fresh t ≡ true
  pub results : results_used t ≡ true
  pub addresses : own_addressed t ≡ true

results-same : (t : Tree) (xs : List ℕ) → list_all (λ x. is_in x (used own t)) xs ≡ list_all (λ x. copy_used x t) xs
results-same t [] = refl
results-same t (x ∷ xs) = ap (λ b. b && list_all (λ y. is_in y (used own t)) xs) (used-own x t) ∙ ap (λ b. copy_used x t && b) (results-same t xs)

pub kept_parts : (labels : List Label) (known : ℕ → Bool) (fresh : List ℕ) (t : Tree) → is_kept labels known fresh t ≡ true → Kept labels known fresh t
kept_parts labels known fresh (Do s t) h =
    let p = and_parts (node_kept labels known (Does s) (names t)) (step_kept labels fresh s t && is_kept labels known (fresh_after fresh s) t) h in
    let q = and_parts (step_kept labels fresh s t) (is_kept labels known (fresh_after fresh s) t) p.1 in
    let n = and_parts (is_step s) (are_new (step_names s) (names t) && list_all known (step_names s)) p.0 in
    let m = and_parts (are_new (step_names s) (names t)) (list_all known (step_names s)) n.1 in
    let a = and_parts (list_all (is_once labels) (step_defs s)) (clones_fresh fresh s && (list_all (λ x. copy_used x t) (step_results s) && list_all (λ x. addressed (number_of s) x t) (step_values s))) q.0 in
    let b = and_parts (clones_fresh fresh s) (list_all (λ x. copy_used x t) (step_results s) && list_all (λ x. addressed (number_of s) x t) (step_values s)) a.1 in
    let c = and_parts (list_all (λ x. copy_used x t) (step_results s)) (list_all (λ x. addressed (number_of s) x t) (step_values s)) b.1 in
    let d = both_parts (is_once labels) (step_values s) (step_clones s) a.0 in
    let r = kept_parts labels known (fresh_after fresh s) t q.1 in record {
      fit = and_from (is_step s) (are_nodes labels t) n.0 r.fit;
      once = and_from (are_new (step_names s) (names t)) (uses_once t) m.0 r.once;
      bound = both_from known (step_names s) (names t) m.1 r.bound;
      defined_once = both_from (is_once labels) (step_values s) (step_clones s ++ defined t) d.0 (both_from (is_once labels) (step_clones s) (defined t) d.1 r.defined_once);
      early = and_from (clones_fresh fresh s) (clones_early (fresh_after fresh s) t) b.0 r.early;
      results = and_from (list_all (λ x. is_in x (used own t)) (step_results s)) (results_used t) (results-same t (step_results s) ∙ c.0) r.results;
      addresses = and_from (list_all (λ x. addressed (number_of s) x t) (step_values s)) (own_addressed t) c.1 r.addresses;
    }
kept_parts labels known fresh (If c x y t u) h =
    let p = and_parts (node_kept labels known (Forks c x y) (names t ++ names u)) (is_kept labels known [] t && is_kept labels known [] u) h in
    let q = and_parts (is_kept labels known [] t) (is_kept labels known [] u) p.1 in
    let m = and_parts (are_new (x ∷ y ∷ []) (names t ++ names u)) (list_all known (x ∷ y ∷ [])) p.0 in
    let r = kept_parts labels known [] t q.0 in
    let k = kept_parts labels known [] u q.1 in record {
      fit = and_from (are_nodes labels t) (are_nodes labels u) r.fit k.fit;
      once = and_from (are_new (x ∷ y ∷ []) (names t ++ names u)) (uses_once t && uses_once u) m.0 (and_from (uses_once t) (uses_once u) r.once k.once);
      bound = both_from known (x ∷ y ∷ []) (names t ++ names u) m.1 (both_from known (names t) (names u) r.bound k.bound);
      defined_once = both_from (is_once labels) (defined t) (defined u) r.defined_once k.defined_once;
      early = and_from (clones_early [] t) (clones_early [] u) r.early k.early;
      results = and_from (results_used t) (results_used u) r.results k.results;
      addresses = and_from (own_addressed t) (own_addressed u) r.addresses k.addresses;
    }
kept_parts labels known fresh (End l) h =
    let p = and_parts (is_last labels l) (are_new (last_uses l) [] && list_all known (last_uses l)) h in
    let m = and_parts (are_new (last_uses l) []) (list_all known (last_uses l)) p.1 in record {
      fit = p.0;
      once = (and_parts (all_different (last_uses l)) (list_all (λ x. not (is_in x [])) (last_uses l)) m.0).0;
      bound = m.1;
      defined_once = refl;
      early = refl;
      results = refl;
      addresses = refl;
    }

pub kept_from : (labels : List Label) (known : ℕ → Bool) (fresh : List ℕ) (t : Tree) → Kept labels known fresh t → is_kept labels known fresh t ≡ true
kept_from labels known fresh (Do s t) k =
    let n = and_parts (is_step s) (are_nodes labels t) k.fit in
    let m = and_parts (are_new (step_names s) (names t)) (uses_once t) k.once in
    let b = both_parts known (step_names s) (names t) k.bound in
    let d = both_parts (is_once labels) (step_values s) (step_clones s ++ defined t) k.defined_once in
    let e = both_parts (is_once labels) (step_clones s) (defined t) d.1 in
    let f = and_parts (clones_fresh fresh s) (clones_early (fresh_after fresh s) t) k.early in
    let r = and_parts (list_all (λ x. is_in x (used own t)) (step_results s)) (results_used t) k.results in
    let a = and_parts (list_all (λ x. addressed (number_of s) x t) (step_values s)) (own_addressed t) k.addresses in
    and_from (node_kept labels known (Does s) (names t)) (step_kept labels fresh s t && is_kept labels known (fresh_after fresh s) t)
    (and_from (is_step s) (are_new (step_names s) (names t) && list_all known (step_names s)) n.0
    (and_from (are_new (step_names s) (names t)) (list_all known (step_names s)) m.0 b.0))
    (and_from (step_kept labels fresh s t) (is_kept labels known (fresh_after fresh s) t)
    (and_from (list_all (is_once labels) (step_defs s)) (clones_fresh fresh s && (list_all (λ x. copy_used x t) (step_results s) && list_all (λ x. addressed (number_of s) x t) (step_values s)))
    (both_from (is_once labels) (step_values s) (step_clones s) d.0 e.0)
    (and_from (clones_fresh fresh s) (list_all (λ x. copy_used x t) (step_results s) && list_all (λ x. addressed (number_of s) x t) (step_values s)) f.0
    (and_from (list_all (λ x. copy_used x t) (step_results s)) (list_all (λ x. addressed (number_of s) x t) (step_values s)) (sym (results-same t (step_results s)) ∙ r.0) a.0)))
    (kept_from labels known (fresh_after fresh s) t
    (record { fit = n.1; once = m.1; bound = b.1; defined_once = e.1; early = f.1; results = r.1; addresses = a.1 })))
kept_from labels known fresh (If c x y t u) k =
    let n = and_parts (are_nodes labels t) (are_nodes labels u) k.fit in
    let m = and_parts (are_new (x ∷ y ∷ []) (names t ++ names u)) (uses_once t && uses_once u) k.once in
    let o = and_parts (uses_once t) (uses_once u) m.1 in
    let b = both_parts known (x ∷ y ∷ []) (names t ++ names u) k.bound in
    let e = both_parts known (names t) (names u) b.1 in
    let d = both_parts (is_once labels) (defined t) (defined u) k.defined_once in
    let f = and_parts (clones_early [] t) (clones_early [] u) k.early in
    let r = and_parts (results_used t) (results_used u) k.results in
    let a = and_parts (own_addressed t) (own_addressed u) k.addresses in
    and_from (node_kept labels known (Forks c x y) (names t ++ names u)) (is_kept labels known [] t && is_kept labels known [] u)
    (and_from (are_new (x ∷ y ∷ []) (names t ++ names u)) (list_all known (x ∷ y ∷ [])) m.0 b.0)
    (and_from (is_kept labels known [] t) (is_kept labels known [] u)
    (kept_from labels known [] t (record { fit = n.0; once = o.0; bound = e.0; defined_once = d.0; early = f.0; results = r.0; addresses = a.0 }))
    (kept_from labels known [] u (record { fit = n.1; once = o.1; bound = e.1; defined_once = d.1; early = f.1; results = r.1; addresses = a.1 })))
kept_from labels known fresh (End l) k =
    and_from (is_last labels l) (are_new (last_uses l) [] && list_all known (last_uses l)) k.fit
    (and_from (are_new (last_uses l) []) (list_all known (last_uses l))
    (and_from (all_different (last_uses l)) (list_all (λ x. not (is_in x [])) (last_uses l)) k.once (none-new (last_uses l)))
    k.bound)

-- ---- a label

-- the rules of a label one by one
pub record SingleLabel (labels : List Label) (l : Label) : Type 0 where
  pub fit : are_nodes labels l.body ≡ true
  pub once : uses_once l.body ≡ true
  pub scoped : is_scoped l.params l.body ≡ true
  pub early : clones_early l.params l.body ≡ true
  pub results : results_used l.body ≡ true
  pub addresses : are_addressed unknown l.body ≡ true

pub single_label_parts : (labels : List Label) (l : Label) → is_single labels l ≡ true → SingleLabel labels l
single_label_parts labels l h =
    let a = and_parts (are_nodes labels l.body) (uses_once l.body && (is_scoped l.params l.body && (clones_early l.params l.body && (results_used l.body && are_addressed unknown l.body)))) h in
    let b = and_parts (uses_once l.body) (is_scoped l.params l.body && (clones_early l.params l.body && (results_used l.body && are_addressed unknown l.body))) a.1 in
    let c = and_parts (is_scoped l.params l.body) (clones_early l.params l.body && (results_used l.body && are_addressed unknown l.body)) b.1 in
    let d = and_parts (clones_early l.params l.body) (results_used l.body && are_addressed unknown l.body) c.1 in
    let e = and_parts (results_used l.body) (are_addressed unknown l.body) d.1 in
    record { fit = a.0; once = b.0; scoped = c.0; early = d.0; results = e.0; addresses = e.1 }

pub single_label_from : (labels : List Label) (l : Label) → SingleLabel labels l → is_single labels l ≡ true
single_label_from labels l s =
    and_from (are_nodes labels l.body) (uses_once l.body && (is_scoped l.params l.body && (clones_early l.params l.body && (results_used l.body && are_addressed unknown l.body)))) s.fit
    (and_from (uses_once l.body) (is_scoped l.params l.body && (clones_early l.params l.body && (results_used l.body && are_addressed unknown l.body))) s.once
    (and_from (is_scoped l.params l.body) (clones_early l.params l.body && (results_used l.body && are_addressed unknown l.body)) s.scoped
    (and_from (clones_early l.params l.body) (results_used l.body && are_addressed unknown l.body) s.early
    (and_from (results_used l.body) (are_addressed unknown l.body) s.results s.addresses))))

scoped-test : (f k : Bool) → (f ≡ true → k ≡ true) → (k || not f) ≡ true
scoped-test true k h = or_left k false (h refl)
scoped-test false k h = or_right k true refl

test-scoped : (f k : Bool) → (k || not f) ≡ true → f ≡ true → k ≡ true
test-scoped f true h e = refl
test-scoped f false h e = absurd (false≢true (sym (not-true f h) ∙ e))

bound_from : (params : List ℕ) (body : Tree) → is_scoped params body ≡ true → are_addressed unknown body ≡ true → list_all (is_bound params body) (names body) ≡ true
bound_from params body s a =
    all_from (is_bound params body) (names body)
    (λ x i.
    and_from (is_in x params || not (is_free x body)) (addressed None x body)
    (scoped-test (is_free x body) (is_in x params) (free_known params body s x))
    (named_addressed unknown body a x))

bound_parts : (params : List ℕ) (body : Tree) → list_all (is_bound params body) (names body) ≡ true → (x : ℕ) → is_in x (names body) ≡ true → ((is_in x params || not (is_free x body)) ≡ true) × (addressed None x body ≡ true)
bound_parts params body h x i = and_parts (is_in x params || not (is_free x body)) (addressed None x body) (all_at (is_bound params body) (names body) x h i)

named-or-not : (b : Bool) (x : ℕ) (body : Tree) → is_in x (names body) ≡ b → (b ≡ true → addressed None x body ≡ true) → addressed None x body ≡ true
named-or-not true x body e h = h refl
named-or-not false x body e h = unused_addressed None x body e

scoped_of : (params : List ℕ) (body : Tree) → list_all (is_bound params body) (names body) ≡ true → is_scoped params body ≡ true
scoped_of params body h = scoped_from params body (λ x f. test-scoped (is_free x body) (is_in x params) ((bound_parts params body h x (free_named x body f)).0) f)

addressed_of : (params : List ℕ) (body : Tree) → list_all (is_bound params body) (names body) ≡ true → own_addressed body ≡ true → are_addressed unknown body ≡ true
addressed_of params body h o =
    addressed_from unknown body
    (λ x. named-or-not (is_in x (names body)) x body refl (λ e. (bound_parts params body h x e).1))
    o

-- ---- all labels

pub label_kept_from : (labels : List Label) (l : Label) → list_all (is_once labels) l.params ≡ true → list_all (is_once labels) (defined l.body) ≡ true → is_single labels l ≡ true → label_kept labels l ≡ true
label_kept_from labels l p d h =
    let s = single_label_parts labels l h in
    and_from (list_all (is_once labels) l.params) (is_kept labels (is_bound l.params l.body) l.params l.body) p
    (kept_from labels (is_bound l.params l.body) l.params l.body
    (record {
      fit = s.fit;
      once = s.once;
      bound = bound_from l.params l.body s.scoped s.addresses;
      defined_once = d;
      early = s.early;
      results = s.results;
      addresses = values_addressed unknown l.body s.addresses;
    }))

pub label_single_from : (labels : List Label) (l : Label) → label_kept labels l ≡ true → is_single labels l ≡ true
label_single_from labels l h =
    let p = and_parts (list_all (is_once labels) l.params) (is_kept labels (is_bound l.params l.body) l.params l.body) h in
    let k = kept_parts labels (is_bound l.params l.body) l.params l.body p.1 in
    single_label_from labels l
    (record {
      fit = k.fit;
      once = k.once;
      scoped = scoped_of l.params l.body k.bound;
      early = k.early;
      results = k.results;
      addresses = addressed_of l.params l.body k.bound k.addresses;
    })

all_kept_from : (labels ls : List Label) → list_all (is_once labels) (all_defined ls) ≡ true → list_all (is_single labels) ls ≡ true → list_all (label_kept labels) ls ≡ true
all_kept_from labels [] d h = refl
all_kept_from labels (l ∷ ls) d h =
    let p = both_parts (is_once labels) l.params (defined l.body ++ all_defined ls) d in
    let q = both_parts (is_once labels) (defined l.body) (all_defined ls) p.1 in
    let r = and_parts (is_single labels l) (list_all (is_single labels) ls) h in
    and_from (label_kept labels l) (list_all (label_kept labels) ls) (label_kept_from labels l p.0 q.0 r.0) (all_kept_from labels ls q.1 r.1)

all_single_from : (labels ls : List Label) → list_all (label_kept labels) ls ≡ true → list_all (is_single labels) ls ≡ true
all_single_from labels [] h = refl
all_single_from labels (l ∷ ls) h =
    let r = and_parts (label_kept labels l) (list_all (label_kept labels) ls) h in
    and_from (is_single labels l) (list_all (is_single labels) ls) (label_single_from labels l r.0) (all_single_from labels ls r.1)

all_once_from : (labels ls : List Label) → list_all (label_kept labels) ls ≡ true → list_all (is_once labels) (all_defined ls) ≡ true
all_once_from labels [] h = refl
all_once_from labels (l ∷ ls) h =
    let r = and_parts (label_kept labels l) (list_all (label_kept labels) ls) h in
    let p = and_parts (list_all (is_once labels) l.params) (is_kept labels (is_bound l.params l.body) l.params l.body) r.0 in
    let k = kept_parts labels (is_bound l.params l.body) l.params l.body p.1 in
    both_from (is_once labels) l.params (defined l.body ++ all_defined ls) p.0
    (both_from (is_once labels) (defined l.body) (all_defined ls) k.defined_once (all_once_from labels ls r.1))

once_from_different : (labels : List Label) → all_different (all_defined labels) ≡ true → list_all (is_once labels) (all_defined labels) ≡ true
once_from_different labels d = all_from (is_once labels) (all_defined labels) (λ x i. eq-eqb (times_in x (all_defined labels)) 1 (different-times (all_defined labels) d x i))

different_from_once : (labels : List Label) → list_all (is_once labels) (all_defined labels) ≡ true → all_different (all_defined labels) ≡ true
different_from_once labels h =
    times-different (all_defined labels) (λ x i. eqb-true (times_in x (all_defined labels)) 1 (all_at (is_once labels) (all_defined labels) x h i))

pub single-tests : (labels : List Label) → single labels ≡ all_kept labels
single-tests labels =
    same_tests (single labels) (all_kept labels)
    (λ h.
    let p = and_parts (is_entry (slice_get labels 0)) (all_different (all_defined labels) && list_all (is_single labels) labels) h in
    let q = and_parts (all_different (all_defined labels)) (list_all (is_single labels) labels) p.1 in
    and_from (is_entry (slice_get labels 0)) (list_all (label_kept labels) labels) p.0 (all_kept_from labels labels (once_from_different labels q.0) q.1))
    (λ h.
    let p = and_parts (is_entry (slice_get labels 0)) (list_all (label_kept labels) labels) h in
    and_from (is_entry (slice_get labels 0)) (all_different (all_defined labels) && list_all (is_single labels) labels) p.0
    (and_from (all_different (all_defined labels)) (list_all (is_single labels) labels) (different_from_once labels (all_once_from labels labels p.1)) (all_single_from labels labels p.1)))
