-- The way down, step by step.
use Rattle.std.proofs.Common.{◌≡◌, ℕ, Bool, true, false, nat_eq, ◌||◌, List, [], ◌∷◌, ◌++◌, ◌⊎◌, inl, inr, ⊎_elim, refl, sym, ap, subst, ◌∙◌, if◌then◌else◌}
use Rattle.std.proofs.lemmas.Bool.{or_left, or_right, or_parts, or_cases, or_from, false≢true, eq-eqb, false_from_ne_true}
use Rattle.smallvec.specs.SmallVec.{SmallVec}
use Rattle.nv_base.specs.declared.term.Atom.{Atom}
use Rattle.nv_base.specs.declared.term.Atom.TheVariants.{Var}
use Rattle.nv_base.specs.declared.term.Cmp.{Cmp}
use Rattle.nv_base.specs.declared.term.Mem.{Mem}
use Rattle.nv_base.specs.declared.term.Primitive.{Primitive}
use Rattle.nv_base.specs.declared.term.Primitive.TheVariants.{Same}
use Rattle.nv_base.specs.Words.{atom_vars, prim_vars}
use Rattle.nv_base.specs.Sets.{is_in, all_vars, Within}
use Rattle.nv_base.proofs.Sets.{within-right}
use Rattle.flow_ir.specs.Tree.{Tree, Let, Read, Write, If, Jump, Halt}
use Rattle.flow_ir.specs.Formed.{defined}
use Rattle.flow_ir.specs.View.{tree_view}
use Rattle.flow_ir.specs.Wide.{live, uses}
use Rattle.flow_ir.specs.declared.spine.Step.{Step}
use Rattle.flow_ir.specs.declared.spine.Step.TheVariants as step
use Rattle.flow_ir.specs.declared.flow.Tree.{Tree as FlowTree}
use Rattle.cps_rules.specs.Rules.{Answers, IsAnswered}
use Rattle.cps_rules.specs.Simplified.{is_same}
use Rattle.flow_ir.specs.Substitution.{Names, renamed, all_renamed, prim_renamed, IsNamed, AreNamed}
use Rattle.cps_rules.specs.inner.Marks.{Set, Adds}
use Rattle.cps_rules.specs.inner.Way.{Simplified, same, kept, dropped, read, write, choice, jump, halt, used_in, kept_all, first_uses, Covers, AreFirsts, IsScoped, AreUsed, IsDone}
use Rattle.cps_rules.proofs.Back.{kept_one, kept_last, firsts_push, firsts_more, step_more, all_more}
use Rattle.cps_rules.proofs.Means.{AreOwn, own_more, own_var, own_list}
use Rattle.flow_ir.proofs.Members.{either, in-left, in-right, in-first, in-rest, in-not-out, out-both}
use Rattle.flow_ir.proofs.Scopes.{not_same, fits_apart, fits_uses, uses_live, fits_live}
use Rattle.flow_ir.proofs.Renaming.{image_known, prim_image, atom_alike, all_alike, prim_alike}
use Rattle.flow_ir.specs.inner.Scoped.{Fits}
use Rattle.cps_rules.proofs.Way.{alike, fewer_defined, live_image, not_in}
use Rattle.cps_rules.proofs.Answered.{AllSound, answered_uses}

-- ρ says of all that a tree doesn't define what τ says
abbrev pub Outside : Tree → Names → Names → Type 0
Outside t τ ρ = (y : ℕ) → is_in y (defined t) ≡ false → ρ y ≡ τ y

-- the steps lead from the whole tree to cur, where σ0 and M0 have become σ and M
pub record On (A : Answers) (whole : Tree) (σ0 : Names) (M0 : Set) (cur : Tree) (σ : Names) (M : Set) (ss : List Step) : Type 0 where
  pub scoped : IsScoped σ M cur
  pub within : Within (defined cur) (defined whole)
  pub named : Outside whole σ0 σ
  pub down : (ρ : Names) → Outside cur σ ρ → (S : Set) (v : Tree) → Simplified A ρ cur v → Simplified A ρ whole (kept_all S ss v)
  pub firsts : AreFirsts M ss
  pub marks : (y : ℕ) → M0 y ≡ true → M y ≡ true
  pub grown : (S : Set) (v : Tree) (y : ℕ) → M y ≡ true → (is_in y (uses (kept_all S ss v)) ≡ true) ⊎ (M0 y ≡ true)
  pub used : (S : Set) (v : Tree) → ((y : ℕ) → S y ≡ true → (M y ≡ true) ⊎ (is_in y (uses v) ≡ true)) → AreUsed v → AreUsed (kept_all S ss v)

-- a step leads from cur to the rest
pub record Goes (A : Answers) (cur rest : Tree) (σ τ : Names) (M N : Set) (s : Step) : Type 0 where
  pub scoped : IsScoped τ N rest
  pub within : Within (defined rest) (defined cur)
  pub named : Outside cur σ τ
  pub one : (ρ : Names) → Outside rest τ ρ → (S : Set) (v : Tree) → Simplified A ρ rest v → Simplified A ρ cur (kept_one S s v)
  pub first : Covers N (first_uses s)
  pub marks : (y : ℕ) → M y ≡ true → N y ≡ true
  pub grown : (S : Set) (v : Tree) (y : ℕ) → N y ≡ true → (is_in y (uses (kept_one S s v)) ≡ true) ⊎ (M y ≡ true)
  pub used : (S : Set) (v : Tree) → ((y : ℕ) → S y ≡ true → (N y ≡ true) ⊎ (is_in y (uses v) ≡ true)) → AreUsed v → AreUsed (kept_one S s v)

pub on_start : (A : Answers) (t : Tree) (σ : Names) (M : Set) → IsScoped σ M t → On A t σ M t σ M []
on_start A t σ M scoped = record {
  scoped = scoped;
  within = λ y e. e;
  named = λ y e. refl;
  down = λ ρ o S v h. h;
  firsts = tt;
  marks = λ y e. e;
  grown = λ S v y e. inr e;
  used = λ S v h k. k;
}

pub on_push : {A : Answers} {whole : Tree} {σ0 : Names} {M0 : Set} {cur : Tree} {σ : Names} {M : Set} {ss : List Step} (rest : Tree) (τ : Names) (N : Set) (s : Step) (ss' : List Step) → On A whole σ0 M0 cur σ M ss → Goes A cur rest σ τ M N s → ss' ≡ ss ++ s ∷ [] → On A whole σ0 M0 rest τ N ss'
on_push {A} {whole} {σ0} {M0} {cur} {σ} {M} {ss} rest τ N s ss' on goes e = record {
  scoped = goes.scoped;
  within = λ y i. on.within y (goes.within y i);
  named = λ y i. goes.named y (not_in y (defined cur) (defined whole) on.within i) ∙ on.named y i;
  down =
      λ ρ o S v h.
      subst (Simplified A ρ whole) (sym (kept_last S ss ss' s v e))
      (on.down ρ (λ y i. o y (not_in y (defined rest) (defined cur) goes.within i) ∙ goes.named y i) S (kept_one S s v) (goes.one ρ o S v h));
  firsts = subst (AreFirsts N) (sym e) (firsts_push N ss s (firsts_more M N ss goes.marks on.firsts) goes.first);
  marks = λ y i. goes.marks y (on.marks y i);
  grown =
      λ S v y i.
      let last = kept_last S ss ss' s v e in
      ⊎_elim (λ j. inl (subst (λ t. is_in y (uses t) ≡ true) (sym last) (all_more S ss (kept_one S s v) y j)))
      (λ j. ⊎_elim (λ k. inl (subst (λ t. is_in y (uses t) ≡ true) (sym last) k)) (λ k. inr k) (on.grown S (kept_one S s v) y j)) (goes.grown S v y i);
  used =
      λ S v h k.
      subst AreUsed (sym (kept_last S ss ss' s v e))
      (on.used S (kept_one S s v) (λ y i. ⊎_elim (λ j. ⊎_elim (λ l. inr l) (λ l. inl l) (goes.grown S v y j)) (λ j. inr (step_more (used_in S v) s v y j)) (h y i)) (goes.used S v h k));
}

-- ---- a `Let`

named_here : {σ τ : Names} {x : ℕ} {a : Atom} → IsNamed σ x a τ → τ x ≡ a
named_here {σ} {τ} {x} {a} h = h.at x ∙ ap (λ g. if g then a else σ x) (eq-eqb x x refl)

named_other : {σ τ : Names} {x : ℕ} {a : Atom} → IsNamed σ x a τ → (y : ℕ) → nat_eq y x ≡ false → τ y ≡ σ y
named_other {σ} {τ} {x} {a} h y e = h.at y ∙ ap (λ g. if g then a else σ y) e

let_scoped : {σ τ : Names} {M : Set} {x : ℕ} {p : Primitive} {rest : Tree} (a : Atom) (scoped : IsScoped σ M (Let x p rest)) → IsNamed σ x a τ → Within (atom_vars a) (x ∷ scoped.known) → IsScoped τ M rest
let_scoped {σ} {τ} {M} {x} {p} {rest} a scoped named vars = record {
  known = x ∷ scoped.known;
  fits = scoped.fits.3;
  own =
      own_more scoped.known τ x a
      (λ y i z j. scoped.own y i z (subst (λ b. is_in z (atom_vars b) ≡ true) (named_other named y (not_same x y scoped.known scoped.fits.2 i)) j))
      (named_here named) vars;
  unmarked = λ y i. scoped.unmarked y (in-rest y x (defined rest) i);
}

-- what a tree after a `Let` doesn't change
let_alike : {σ τ : Names} {M : Set} {x : ℕ} {p : Primitive} {rest : Tree} (a : Atom) (scoped : IsScoped σ M (Let x p rest)) → IsNamed σ x a τ → (ρ : Names) → Outside rest τ ρ → prim_renamed σ p ≡ prim_renamed ρ p
let_alike {σ} {τ} {M} {x} {p} {rest} a scoped named ρ o =
    sym (prim_alike σ ρ p
    (λ y i.
    let known = scoped.fits.0 y i in
    o y (fits_apart (x ∷ scoped.known) rest scoped.fits.3 y (in-rest y x scoped.known known)) ∙ named_other named y (not_same x y scoped.known scoped.fits.2 known)))

let_here : {σ τ : Names} {M : Set} {x : ℕ} {p : Primitive} {rest : Tree} (a : Atom) (scoped : IsScoped σ M (Let x p rest)) → IsNamed σ x a τ → (ρ : Names) → Outside rest τ ρ → ρ x ≡ a
let_here {x = x} {rest = rest} a scoped named ρ o = o x (fits_apart (x ∷ scoped.known) rest scoped.fits.3 x (in-first x scoped.known)) ∙ named_here named

pub on_same : {A : Answers} {whole : Tree} {σ0 : Names} {M0 : Set} {x : ℕ} {p : Primitive} {rest : Tree} {σ : Names} {M : Set} {ss : List Step} → AllSound A → (τ : Names) (a : Atom) (ss' : List Step) → On A whole σ0 M0 (Let x p rest) σ M ss → IsAnswered A (prim_renamed σ p) (Same a) → IsNamed σ x a τ → ss' ≡ ss → On A whole σ0 M0 rest τ M ss'
on_same {A} {whole} {σ0} {M0} {x} {p} {rest} {σ} {M} {ss} sound τ a ss' on answered named e =
    subst (On A whole σ0 M0 rest τ M) (sym e)
    (record {
      scoped =
          let_scoped a on.scoped named
          (λ y i. in-rest y x on.scoped.known (image_known σ (prim_vars p) on.scoped.known on.scoped.fits.0 on.scoped.own y (prim_image σ p y (answered_uses A sound (prim_renamed σ p) (Same a) answered y i))));
      within = λ y i. on.within y (in-rest y x (defined rest) i);
      named = λ y i. named_other named y (or_parts (nat_eq y x) (is_in y (defined rest)) (not_in y (x ∷ defined rest) (defined whole) on.within i)).0 ∙ on.named y i;
      down =
          λ ρ o S v h.
          on.down ρ (λ y i. let parts = or_parts (nat_eq y x) (is_in y (defined rest)) i in o y parts.1 ∙ named_other named y parts.0) S v
          (same x p a rest v (subst (λ r. IsAnswered A r (Same a)) (let_alike a on.scoped named ρ o) answered) (let_here a on.scoped named ρ o) h);
      firsts = on.firsts;
      marks = on.marks;
      grown = on.grown;
      used = on.used;
    })

let_one : (A : Answers) (ρ : Names) (x : ℕ) (p q : Primitive) (rest v : Tree) (in_tree in_set : Bool) → is_in x (uses v) ≡ in_tree → IsAnswered A (prim_renamed ρ p) q → is_same q ≡ false → ρ x ≡ Var x → Simplified A ρ rest v → Simplified A ρ (Let x p rest) (if (in_tree || in_set) then Let x q v else v)
let_one A ρ x p q rest v true in_set e answered other at h = kept x p q rest v answered other at h
let_one A ρ x p q rest v false true e answered other at h = kept x p q rest v answered other at h
let_one A ρ x p q rest v false false e answered other at h = dropped x p q rest v answered at e h

let_used : (M S : Set) (x : ℕ) (q : Primitive) (v : Tree) (in_tree in_set : Bool) → is_in x (uses v) ≡ in_tree → S x ≡ in_set → M x ≡ false → is_same q ≡ false → (S x ≡ true → (M x ≡ true) ⊎ (is_in x (uses v) ≡ true)) → AreUsed v → AreUsed (if (in_tree || in_set) then Let x q v else v)
let_used M S x q v true in_set e f unmarked other h k = ((e, other), k)
let_used M S x q v false true e f unmarked other h k = ((⊎_elim (λ (i : M x ≡ true). absurd (false≢true (sym unmarked ∙ i))) (λ (i : is_in x (uses v) ≡ true). i) (h f), other), k)
let_used M S x q v false false e f unmarked other h k = k

pub goes_let : {A : Answers} {x : ℕ} {p : Primitive} {rest : Tree} {σ τ : Names} {M : Set} (q : Primitive) → IsScoped σ M (Let x p rest) → IsAnswered A (prim_renamed σ p) q → is_same q ≡ false → IsNamed σ x (Var x) τ → Goes A (Let x p rest) rest σ τ M M (step.Let x q)
goes_let {A} {x} {p} {rest} {σ} {τ} {M} q scoped answered other named = record {
  scoped = let_scoped (Var x) scoped named (own_var x scoped.known);
  within = λ y i. in-rest y x (defined rest) i;
  named = λ y i. named_other named y (or_parts (nat_eq y x) (is_in y (defined rest)) i).0;
  one =
      λ ρ o S v h.
      let_one A ρ x p q rest v (is_in x (uses v)) (S x) refl (subst (λ r. IsAnswered A r q) (let_alike (Var x) scoped named ρ o) answered) other (let_here (Var x) scoped named ρ o) h;
  first = record { at = λ y i. absurd (false≢true i) };
  marks = λ y i. i;
  grown = λ S v y i. inr i;
  used = λ S v h k. let_used M S x q v (is_in x (uses v)) (S x) refl refl (scoped.unmarked x (in-first x (defined rest))) other (h x) k;
}

-- ---- accesses

pub goes_read : {A : Answers} {m : Mem} {xs : List ℕ} {a : Atom} {rest : Tree} {σ τ : Names} {M : Set} (ys : SmallVec ℕ) (b : Atom) → IsScoped σ M (Read m xs a rest) → AreNamed σ xs τ → ys.items ≡ xs → b ≡ renamed σ a → Goes A (Read m xs a rest) rest σ τ M M (step.Read m ys b)
goes_read {A} {m} {xs} {a} {rest} {σ} {τ} {M} ys b scoped named ey eb = record {
  scoped = record {
    known = xs ++ scoped.known;
    fits = scoped.fits.2;
    own = own_list scoped.known τ xs (λ y i z j. scoped.own y i z (subst (λ b. is_in z (atom_vars b) ≡ true) (other y (apart y i)) j)) itself;
    unmarked = λ y i. scoped.unmarked y (in-right y xs (defined rest) i);
  };
  within = within-right xs (defined rest);
  named = λ y i. other y (out-both y xs (defined rest) i).0;
  one =
      λ ρ o S v h.
      let names : renamed ρ a ≡ b =
      atom_alike σ ρ a (λ y i. let known = scoped.fits.0 y i in o y (fits_apart (xs ++ scoped.known) rest scoped.fits.2 y (in-right y xs scoped.known known)) ∙ other y (apart y known)) ∙ sym eb in
      subst (λ l. Simplified A ρ (Read m xs a rest) (Read m l b v)) (sym ey)
      (subst (λ c. Simplified A ρ (Read m xs a rest) (Read m xs c v)) names
      (read m xs a rest v (λ y i. o y (fits_apart (xs ++ scoped.known) rest scoped.fits.2 y (in-left y xs scoped.known i)) ∙ itself y i) h));
  first = record { at = λ y i. absurd (false≢true i) };
  marks = λ y i. i;
  grown = λ S v y i. inr i;
  used = λ S v h k. k;
}
  where
    other : (y : ℕ) → is_in y xs ≡ false → τ y ≡ σ y
    other y i = named.at y ∙ ap (λ g. if g then Var y else σ y) i

    itself : (y : ℕ) → is_in y xs ≡ true → τ y ≡ Var y
    itself y i = named.at y ∙ ap (λ g. if g then Var y else σ y) i

    apart : (y : ℕ) → is_in y scoped.known ≡ true → is_in y xs ≡ false
    apart y i = false_from_ne_true (is_in y xs) (λ j. in-not-out y scoped.known i (scoped.fits.1 y j))

pub goes_write : {A : Answers} {m : Mem} {a : Atom} {bs : List Atom} {rest : Tree} {σ : Names} {M : Set} (b : Atom) (cs : SmallVec Atom) → IsScoped σ M (Write m a bs rest) → b ≡ renamed σ a → cs.items ≡ all_renamed σ bs → Goes A (Write m a bs rest) rest σ σ M M (step.Write m b cs)
goes_write {A} {m} {a} {bs} {rest} {σ} {M} b cs scoped eb ec = record {
  scoped = record { known = scoped.known; fits = scoped.fits.1; own = scoped.own; unmarked = scoped.unmarked };
  within = λ y i. i;
  named = λ y i. refl;
  one =
      λ ρ o S v h.
      let out = λ (y : ℕ) (i : is_in y scoped.known ≡ true). o y (fits_apart scoped.known rest scoped.fits.1 y i) in
      let first : renamed ρ a ≡ b = atom_alike σ ρ a (λ y i. out y (scoped.fits.0 y (in-left y (atom_vars a) (all_vars bs) i))) ∙ sym eb in
      let others : all_renamed ρ bs ≡ cs.items = all_alike σ ρ bs (λ y i. out y (scoped.fits.0 y (in-right y (atom_vars a) (all_vars bs) i))) ∙ sym ec in
      subst (λ l. Simplified A ρ (Write m a bs rest) (Write m b l v)) others
      (subst (λ c. Simplified A ρ (Write m a bs rest) (Write m c (all_renamed ρ bs) v)) first (write m a bs rest v h));
  first = record { at = λ y i. absurd (false≢true i) };
  marks = λ y i. i;
  grown = λ S v y i. inr i;
  used = λ S v h k. k;
}

-- ---- an `If`

-- what a simplified tree uses is known or was defined in it
done_uses : {A : Answers} (known : List ℕ) (τ : Names) (t u : Tree) → AllSound A → Fits known t → AreOwn known τ → Simplified A τ t u → Within (uses u) (known ++ defined t)
done_uses {A} known τ t u sound fits own h =
    λ y i. either y (live u) (defined u) (uses_live u y i)
    (λ j. in-left y known (defined t) (image_known τ (live t) known (fits_live known t fits) own y (live_image A sound τ t u h y j)))
    (λ j. in-right y known (defined t) (fewer_defined A τ t u h y j))

pub goes_if : {A : Answers} {c : Cmp} {a b : Atom} {first rest : Tree} {σ τ : Names} {M N : Set} (x y : Atom) (u : FlowTree) → AllSound A → IsScoped σ M (If c a b first rest) → x ≡ renamed σ a → y ≡ renamed σ b → IsDone A first σ τ M N (tree_view u) → Goes A (If c a b first rest) rest σ τ M N (step.If c x y u)
goes_if {A} {c} {a} {b} {first} {rest} {σ} {τ} {M} {N} x y u sound scoped ex ey done = record {
  scoped = record {
    known = scoped.known;
    fits = scoped.fits.2;
    own = own;
    unmarked =
        λ z i.
        done.marked.at z ∙ or_from (is_in z (uses (tree_view u))) (M z)
        (false_from_ne_true (is_in z (uses (tree_view u)))
        (λ j. either z scoped.known (defined first) (done_uses scoped.known τ first (tree_view u) sound scoped.fits.1 own done.simplified z j)
        (λ k. in-not-out z (defined rest) i (fits_apart scoped.known rest scoped.fits.2 z k)) (λ k. in-not-out z (defined rest) i (scoped.fits.3 z k))))
        (scoped.unmarked z (in-right z (defined first) (defined rest) i));
  };
  within = within-right (defined first) (defined rest);
  named = λ z i. done.named z (out-both z (defined first) (defined rest) i).0;
  one =
      λ ρ o S v h.
      let out = λ (z : ℕ) (i : is_in z scoped.known ≡ true). o z (fits_apart scoped.known rest scoped.fits.2 z i) ∙ kept_name z i in
      let one : renamed ρ a ≡ x = atom_alike σ ρ a (λ z i. out z (scoped.fits.0 z (in-left z (atom_vars a) (all_vars (b ∷ [])) i))) ∙ sym ex in
      let two : renamed ρ b ≡ y = atom_alike σ ρ b (λ z i. out z (scoped.fits.0 z (in-right z (atom_vars a) (all_vars (b ∷ [])) (in-left z (atom_vars b) [] i)))) ∙ sym ey in
      let part : Simplified A ρ first (tree_view u) =
      alike A τ ρ first (tree_view u) done.simplified
      (λ z i. o z (either z (uses first) (defined first) i
      (λ j. either z scoped.known (defined first) (fits_uses scoped.known first scoped.fits.1 z j) (λ k. fits_apart scoped.known rest scoped.fits.2 z k) (λ k. scoped.fits.3 z k))
      (λ j. scoped.fits.3 z j))) in
      subst (λ w. Simplified A ρ (If c a b first rest) (If c x w (tree_view u) v)) two
      (subst (λ w. Simplified A ρ (If c a b first rest) (If c w (renamed ρ b) (tree_view u) v)) one (choice c a b first rest (tree_view u) v part h));
  first = record { at = λ z i. done.marked.at z ∙ or_left (is_in z (uses (tree_view u))) (M z) i };
  marks = λ z i. done.marked.at z ∙ or_right (is_in z (uses (tree_view u))) (M z) i;
  grown =
      λ S v z i.
      ⊎_elim (λ j. inl (in-right z (all_vars (x ∷ y ∷ [])) (uses (tree_view u) ++ uses v) (in-left z (uses (tree_view u)) (uses v) j))) (λ j. inr j)
      (or_cases (is_in z (uses (tree_view u))) (M z) (sym (done.marked.at z) ∙ i));
  used = λ S v h k. (done.used, k);
}
  where
    kept_name : (z : ℕ) → is_in z scoped.known ≡ true → τ z ≡ σ z
    kept_name z i = done.named z (fits_apart scoped.known first scoped.fits.1 z i)

    own : AreOwn scoped.known τ
    own z i w j = scoped.own z i w (subst (λ b. is_in w (atom_vars b) ≡ true) (kept_name z i) j)

-- ---- the last node

same_or : (u m n : Bool) → (m ≡ true → (u ≡ true) ⊎ (n ≡ true)) → (n ≡ true → m ≡ true) → (u || m) ≡ (u || n)
same_or true m n f g = refl
same_or false true true f g = refl
same_or false true false f g = absurd (⊎_elim false≢true false≢true (f refl))
same_or false false true f g = absurd (false≢true (g refl))
same_or false false false f g = refl

pub done_last : {A : Answers} {whole : Tree} {σ0 : Names} {M0 : Set} {cur : Tree} {σ : Names} {M : Set} {ss : List Step} (last u : Tree) (N O : Set) → On A whole σ0 M0 cur σ M ss → Simplified A σ cur last → AreUsed last → Adds (uses last) M N → u ≡ kept_all N ss last → Adds (uses u) N O → IsDone A whole σ0 σ M0 O u
done_last {A} {whole} {σ0} {M0} {cur} {σ} {M} {ss} last u N O on h k added e marked = record {
  simplified = subst (Simplified A σ whole) (sym e) (on.down σ (λ y i. refl) N last h);
  named = on.named;
  marked = record {
    at =
        λ y.
        marked.at y
        ∙ same_or (is_in y (uses u)) (N y) (M0 y)
        (λ i. ⊎_elim (λ j. inl (subst (λ t. is_in y (uses t) ≡ true) (sym e) (all_more N ss last y j)))
        (λ j. ⊎_elim (λ l. inl (subst (λ t. is_in y (uses t) ≡ true) (sym e) l)) (λ l. inr l) (on.grown N last y j)) (or_cases (is_in y (uses last)) (M y) (sym (added.at y) ∙ i)))
        (λ i. added.at y ∙ or_right (is_in y (uses last)) (M y) (on.marks y i));
  };
  used =
      subst AreUsed (sym e)
      (on.used N last (λ y i. ⊎_elim (λ j. inr j) (λ j. inl j) (or_cases (is_in y (uses last)) (M y) (sym (added.at y) ∙ i))) k);
}

pub last_firsts : {M N : Set} {xs : List ℕ} (ss : List Step) → AreFirsts M ss → Adds xs M N → AreFirsts N ss
last_firsts {M} {N} {xs} ss h added = firsts_more M N ss (λ y i. added.at y ∙ or_right (is_in y xs) (M y) i) h

pub last_covers : {M N : Set} {xs : List ℕ} → Adds xs M N → Covers N xs
last_covers {M} {N} {xs} added = record { at = λ y i. added.at y ∙ or_left (is_in y xs) (M y) i }

pub last_jump : {A : Answers} {σ : Names} {l : ℕ} {bs : List Atom} (cs : List Atom) → cs ≡ all_renamed σ bs → Simplified A σ (Jump l bs) (Jump l cs)
last_jump {A} {σ} {l} {bs} cs e = subst (λ v. Simplified A σ (Jump l bs) (Jump l v)) (sym e) (jump l bs)

pub last_halt : {A : Answers} {σ : Names} {n : ℕ} {bs : List Atom} (cs : List Atom) → cs ≡ all_renamed σ bs → Simplified A σ (Halt n bs) (Halt n cs)
last_halt {A} {σ} {n} {bs} cs e = subst (λ v. Simplified A σ (Halt n bs) (Halt n v)) (sym e) (halt n bs)
