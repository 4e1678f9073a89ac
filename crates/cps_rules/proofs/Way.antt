-- What a simplified tree uses and defines, and where it is formed.
use Rattle.std.proofs.Common.{◌≡◌, ℕ, Bool, true, false, not, nat_eq, List, [], ◌∷◌, ◌++◌, refl, sym, subst, ◌∙◌}
use Rattle.std.proofs.lemmas.Bool.{and_parts, and_from, or_left, or_from, not-true, not_from_false, false≢true, false_from_ne_true}
use Rattle.nv_base.specs.declared.term.Atom.TheVariants.{Var}
use Rattle.nv_base.specs.declared.term.Primitive.{Primitive}
use Rattle.nv_base.specs.declared.term.Primitive.TheVariants.{Same}
use Rattle.nv_base.specs.Words.{atom_vars, prim_vars}
use Rattle.nv_base.specs.Sets.{is_in, all_different, all_vars, without, Within}
use Rattle.nv_base.proofs.Sets.{same-number, within-both, within-left}
use Rattle.flow_ir.specs.Tree.{Tree, Read, Write, If, Jump, Halt}
use Rattle.flow_ir.specs.Formed.{defined}
use Rattle.flow_ir.specs.Wide.{live, uses}
use Rattle.cps_rules.specs.Rules.{Answers, IsAnswered}
use Rattle.flow_ir.specs.Substitution.{Names, renamed, all_renamed, prim_renamed}
use Rattle.cps_rules.specs.inner.Way.{Simplified, same, kept, dropped, read, write, choice, jump, halt}
use Rattle.cps_rules.proofs.Answered.{AllSound, answered_uses}
use Rattle.flow_ir.proofs.Members.{either, first-or-rest, in-left, in-right, in-first, in-rest, in-not-out, stays, stayed, different-parts, different-join}
use Rattle.flow_ir.proofs.Scopes.{live_uses}
use Rattle.flow_ir.proofs.Renaming.{image, image_from, image_of, image_within, image_both, atom_image, all_image, prim_image, AreAlike, atom_alike, all_alike, prim_alike}

-- ---- names that say the same

subst_answered : (A : Answers) (p p' q : Primitive) → p ≡ p' → IsAnswered A p q → IsAnswered A p' q
subst_answered A p p' q e h = subst (λ r. IsAnswered A r q) e h

deeper : (y : ℕ) (k a l b : List ℕ) → is_in y (a ++ b) ≡ true → is_in y ((k ++ a) ++ (l ++ b)) ≡ true
deeper y k a l b e = either y a b e (λ i. in-left y (k ++ a) (l ++ b) (in-right y k a i)) (λ i. in-right y (k ++ a) (l ++ b) (in-right y l b i))

pub alike : (A : Answers) (σ τ : Names) (t u : Tree) → Simplified A σ t u → AreAlike (uses t ++ defined t) σ τ → Simplified A τ t u
alike A σ τ t u (same x p a t' u' answered at rest) h =
    same x p a t' u' (subst_answered A _ _ (Same a) (sym (prim_alike σ τ p (λ y e. h y (in-left y (prim_vars p ++ uses t') (x ∷ defined t') (in-left y (prim_vars p) (uses t') e))))) answered)
    (h x (in-right x (prim_vars p ++ uses t') (x ∷ defined t') (in-first x (defined t'))) ∙ at)
    (alike A σ τ t' u' rest (λ y e. h y (deeper y (prim_vars p) (uses t') (x ∷ []) (defined t') e)))
alike A σ τ t u (kept x p q t' u' answered other at rest) h =
    kept x p q t' u' (subst_answered A _ _ q (sym (prim_alike σ τ p (λ y e. h y (in-left y (prim_vars p ++ uses t') (x ∷ defined t') (in-left y (prim_vars p) (uses t') e))))) answered) other
    (h x (in-right x (prim_vars p ++ uses t') (x ∷ defined t') (in-first x (defined t'))) ∙ at)
    (alike A σ τ t' u' rest (λ y e. h y (deeper y (prim_vars p) (uses t') (x ∷ []) (defined t') e)))
alike A σ τ t u (dropped x p q t' u' answered at unused rest) h =
    dropped x p q t' u' (subst_answered A _ _ q (sym (prim_alike σ τ p (λ y e. h y (in-left y (prim_vars p ++ uses t') (x ∷ defined t') (in-left y (prim_vars p) (uses t') e))))) answered)
    (h x (in-right x (prim_vars p ++ uses t') (x ∷ defined t') (in-first x (defined t'))) ∙ at) unused
    (alike A σ τ t' u' rest (λ y e. h y (deeper y (prim_vars p) (uses t') (x ∷ []) (defined t') e)))
alike A σ τ t u (read m xs a t' u' own rest) h =
    subst (λ b. Simplified A τ (Read m xs a t') (Read m xs b u')) (atom_alike σ τ a (λ y e. h y (in-left y (atom_vars a ++ uses t') (xs ++ defined t') (in-left y (atom_vars a) (uses t') e))))
    (read m xs a t' u' (λ y e. h y (in-right y (atom_vars a ++ uses t') (xs ++ defined t') (in-left y xs (defined t') e)) ∙ own y e)
    (alike A σ τ t' u' rest (λ y e. h y (deeper y (atom_vars a) (uses t') xs (defined t') e))))
alike A σ τ t u (write m a bs t' u' rest) h =
    let first = atom_alike σ τ a (λ y e. h y (in-left y (all_vars (a ∷ bs) ++ uses t') (defined t') (in-left y (all_vars (a ∷ bs)) (uses t') (in-left y (atom_vars a) (all_vars bs) e)))) in
    let others = all_alike σ τ bs (λ y e. h y (in-left y (all_vars (a ∷ bs) ++ uses t') (defined t') (in-left y (all_vars (a ∷ bs)) (uses t') (in-right y (atom_vars a) (all_vars bs) e)))) in
    subst (λ b. Simplified A τ (Write m a bs t') (Write m b (all_renamed σ bs) u')) first
    (subst (λ cs. Simplified A τ (Write m a bs t') (Write m (renamed τ a) cs u')) others
    (write m a bs t' u' (alike A σ τ t' u' rest (λ y e. h y (either y (uses t') (defined t') e (λ i. in-left y (all_vars (a ∷ bs) ++ uses t') (defined t') (in-right y (all_vars (a ∷ bs)) (uses t') i)) (λ i. in-right y (all_vars (a ∷ bs) ++ uses t') (defined t') i))))))
alike A σ τ t u (choice c a b t1 t2 u1 u2 left right) h =
    let os = all_vars (a ∷ b ∷ []) in
    let all = os ++ (uses t1 ++ uses t2) in
    let ds = defined t1 ++ defined t2 in
    let first = atom_alike σ τ a (λ y e. h y (in-left y all ds (in-left y os (uses t1 ++ uses t2) (in-left y (atom_vars a) (all_vars (b ∷ [])) e)))) in
    let second = atom_alike σ τ b (λ y e. h y (in-left y all ds (in-left y os (uses t1 ++ uses t2) (in-right y (atom_vars a) (all_vars (b ∷ [])) (in-left y (atom_vars b) [] e))))) in
    subst (λ v. Simplified A τ (If c a b t1 t2) (If c v (renamed σ b) u1 u2)) first
    (subst (λ v. Simplified A τ (If c a b t1 t2) (If c (renamed τ a) v u1 u2)) second
    (choice c a b t1 t2 u1 u2
    (alike A σ τ t1 u1 left (λ y e. h y (either y (uses t1) (defined t1) e (λ i. in-left y all ds (in-right y os (uses t1 ++ uses t2) (in-left y (uses t1) (uses t2) i))) (λ i. in-right y all ds (in-left y (defined t1) (defined t2) i)))))
    (alike A σ τ t2 u2 right (λ y e. h y (either y (uses t2) (defined t2) e (λ i. in-left y all ds (in-right y os (uses t1 ++ uses t2) (in-right y (uses t1) (uses t2) i))) (λ i. in-right y all ds (in-right y (defined t1) (defined t2) i)))))))
alike A σ τ t u (jump l bs) h = subst (λ cs. Simplified A τ (Jump l bs) (Jump l cs)) (all_alike σ τ bs (λ y e. h y (in-left y (all_vars bs) [] e))) (jump l bs)
alike A σ τ t u (halt n bs) h = subst (λ cs. Simplified A τ (Halt n bs) (Halt n cs)) (all_alike σ τ bs (λ y e. h y (in-left y (all_vars bs) [] e))) (halt n bs)

-- ---- what is defined

pub fewer_defined : (A : Answers) (σ : Names) (t u : Tree) → Simplified A σ t u → Within (defined u) (defined t)
fewer_defined A σ t u (same x p a t' u' answered at rest) = λ y e. in-rest y x (defined t') (fewer_defined A σ t' u' rest y e)
fewer_defined A σ t u (kept x p q t' u' answered other at rest) =
    λ y e. first-or-rest y x (defined u') e (λ i. or_left (nat_eq y x) (is_in y (defined t')) i) (λ i. in-rest y x (defined t') (fewer_defined A σ t' u' rest y i))
fewer_defined A σ t u (dropped x p q t' u' answered at unused rest) = λ y e. in-rest y x (defined t') (fewer_defined A σ t' u' rest y e)
fewer_defined A σ t u (read m xs a t' u' own rest) = λ y e. either y xs (defined u') e (λ i. in-left y xs (defined t') i) (λ i. in-right y xs (defined t') (fewer_defined A σ t' u' rest y i))
fewer_defined A σ t u (write m a bs t' u' rest) = fewer_defined A σ t' u' rest
fewer_defined A σ t u (choice c a b t1 t2 u1 u2 left right) =
    λ y e. either y (defined u1) (defined u2) e (λ i. in-left y (defined t1) (defined t2) (fewer_defined A σ t1 u1 left y i)) (λ i. in-right y (defined t1) (defined t2) (fewer_defined A σ t2 u2 right y i))
fewer_defined A σ t u (jump l bs) = λ y e. e
fewer_defined A σ t u (halt n bs) = λ y e. e

pub not_in : (x : ℕ) (a b : List ℕ) → Within a b → is_in x b ≡ false → is_in x a ≡ false
not_in x a b h e = false_from_ne_true (is_in x a) (λ i. in-not-out x b (h x i) e)

pub still_different : (A : Answers) (σ : Names) (t u : Tree) → Simplified A σ t u → all_different (defined t) ≡ true → all_different (defined u) ≡ true
still_different A σ t u (same x p a t' u' answered at rest) d = still_different A σ t' u' rest (and_parts (not (is_in x (defined t'))) (all_different (defined t')) d).1
still_different A σ t u (kept x p q t' u' answered other at rest) d =
    let parts = and_parts (not (is_in x (defined t'))) (all_different (defined t')) d in
    and_from (not (is_in x (defined u'))) (all_different (defined u')) (not_from_false (is_in x (defined u')) (not_in x (defined u') (defined t') (fewer_defined A σ t' u' rest) (not-true (is_in x (defined t')) parts.0)))
    (still_different A σ t' u' rest parts.1)
still_different A σ t u (dropped x p q t' u' answered at unused rest) d = still_different A σ t' u' rest (and_parts (not (is_in x (defined t'))) (all_different (defined t')) d).1
still_different A σ t u (read m xs a t' u' own rest) d =
    let parts = different-parts xs (defined t') d in
    different-join xs (defined u') parts.0 (still_different A σ t' u' rest parts.1) (λ y e. not_in y (defined u') (defined t') (fewer_defined A σ t' u' rest) (parts.2 y e))
still_different A σ t u (write m a bs t' u' rest) d = still_different A σ t' u' rest d
still_different A σ t u (choice c a b t1 t2 u1 u2 left right) d =
    let parts = different-parts (defined t1) (defined t2) d in
    different-join (defined u1) (defined u2) (still_different A σ t1 u1 left parts.0) (still_different A σ t2 u2 right parts.1)
    (λ y e. not_in y (defined u2) (defined t2) (fewer_defined A σ t2 u2 right) (parts.2 y (fewer_defined A σ t1 u1 left y e)))
still_different A σ t u (jump l bs) d = refl
still_different A σ t u (halt n bs) d = refl

-- ---- what is live

-- a variable after a definition comes from another one, if it isn't the defined one
pub behind_let : (σ : Names) (x : ℕ) (a b : List ℕ) → (known : List ℕ) → Within a (image σ b) → (is_in x a ≡ true → ⊥) → (Within (atom_vars (σ x)) (x ∷ [])) → Within a (image σ (known ++ without b (x ∷ [])))
behind_let σ x a b known h unused own =
    λ y e.
    let f = image_from σ b y (h y e) in
    image_of σ (known ++ without b (x ∷ [])) y f.source
    (in-right f.source known (without b (x ∷ []))
    (stays f.source b (x ∷ []) f.among
    (false_from_ne_true (is_in f.source (x ∷ []))
    (λ i. first-or-rest f.source x [] i
    (λ q. first-or-rest y x [] (own y (subst (λ z. is_in y (atom_vars (σ z)) ≡ true) (same-number f.source x q) f.var)) (λ r. unused (subst (λ z. is_in z a ≡ true) (same-number y x r) e)) (λ r. false≢true r))
    (λ q. false≢true q)))))
    f.var

own_within : (σ : Names) (x : ℕ) → σ x ≡ Var x → Within (atom_vars (σ x)) (x ∷ [])
own_within σ x e = λ y i. subst (λ a. is_in y (atom_vars a) ≡ true) e i

pub behind_read : (σ : Names) (xs a b : List ℕ) → ((y : ℕ) → is_in y xs ≡ true → σ y ≡ Var y) → Within a (image σ b) → Within (without a xs) (image σ (without b xs))
behind_read σ xs a b own h =
    λ y e.
    let parts = stayed y a xs e in
    let f = image_from σ b y (h y parts.0) in
    image_of σ (without b xs) y f.source
    (stays f.source b xs f.among
    (false_from_ne_true (is_in f.source xs)
    (λ i. first-or-rest y f.source [] (own_within σ f.source (own f.source i) y f.var) (λ q. in-not-out y xs (subst (λ z. is_in z xs ≡ true) (sym (same-number y f.source q)) i) parts.1) (λ q. false≢true q))))
    f.var

pub live_image : (A : Answers) → AllSound A → (σ : Names) (t u : Tree) → Simplified A σ t u → Within (live u) (image σ (live t))
live_image A sound σ t u (same x p a t' u' answered at rest) =
    same_live (prim_vars p) (live u') (live t') (live_image A sound σ t' u' rest) (λ y e. prim_image σ p y (answered_uses A sound (prim_renamed σ p) (Same a) answered y (subst (λ v. is_in y (atom_vars v) ≡ true) at e)))
  where
    same_at : (os b : List ℕ) (y z : ℕ) (g : Bool) → nat_eq z x ≡ g → ((v : ℕ) → is_in v (atom_vars (σ x)) ≡ true → is_in v (image σ os) ≡ true) → is_in z b ≡ true → is_in y (atom_vars (σ z)) ≡ true → is_in y (image σ (os ++ without b (x ∷ []))) ≡ true
    same_at os b y z true e used among var = image_within σ os (os ++ without b (x ∷ [])) (within-left os (without b (x ∷ []))) y (used y (subst (λ v. is_in y (atom_vars (σ v)) ≡ true) (same-number z x e) var))
    same_at os b y z false e used among var = image_of σ (os ++ without b (x ∷ [])) y z (in-right z os (without b (x ∷ [])) (stays z b (x ∷ []) among (or_from (nat_eq z x) false e refl))) var

    same_live : (os a b : List ℕ) → Within a (image σ b) → ((v : ℕ) → is_in v (atom_vars (σ x)) ≡ true → is_in v (image σ os) ≡ true) → Within a (image σ (os ++ without b (x ∷ [])))
    same_live os a b h used = λ y e. let f = image_from σ b y (h y e) in same_at os b y f.source (nat_eq f.source x) refl used f.among f.var
live_image A sound σ t u (kept x p q t' u' answered other at rest) =
    within-both (prim_vars q) (without (live u') (x ∷ [])) (image σ (prim_vars p ++ without (live t') (x ∷ [])))
    (λ y e. image_within σ (prim_vars p) (prim_vars p ++ without (live t') (x ∷ [])) (within-left (prim_vars p) (without (live t') (x ∷ []))) y (prim_image σ p y (answered_uses A sound (prim_renamed σ p) q answered y e)))
    (behind_let σ x (without (live u') (x ∷ [])) (live t') (prim_vars p) (λ y e. live_image A sound σ t' u' rest y (stayed y (live u') (x ∷ []) e).0)
    (λ i. in-not-out x (x ∷ []) (in-first x []) (stayed x (live u') (x ∷ []) i).1) (own_within σ x at))
live_image A sound σ t u (dropped x p q t' u' answered at unused rest) =
    behind_let σ x (live u') (live t') (prim_vars p) (live_image A sound σ t' u' rest) (λ i. in-not-out x (uses u') (live_uses u' x i) unused) (own_within σ x at)
live_image A sound σ t u (read m xs a t' u' own rest) =
    image_both σ (atom_vars (renamed σ a)) (without (live u') xs) (atom_vars a) (without (live t') xs) (atom_image σ a)
    (behind_read σ xs (live u') (live t') own (live_image A sound σ t' u' rest))
live_image A sound σ t u (write m a bs t' u' rest) =
    image_both σ (all_vars (all_renamed σ (a ∷ bs))) (live u') (all_vars (a ∷ bs)) (live t') (all_image σ (a ∷ bs)) (live_image A sound σ t' u' rest)
live_image A sound σ t u (choice c a b t1 t2 u1 u2 left right) =
    image_both σ (all_vars (all_renamed σ (a ∷ b ∷ []))) (live u1 ++ live u2) (all_vars (a ∷ b ∷ [])) (live t1 ++ live t2) (all_image σ (a ∷ b ∷ []))
    (image_both σ (live u1) (live u2) (live t1) (live t2) (live_image A sound σ t1 u1 left) (live_image A sound σ t2 u2 right))
live_image A sound σ t u (jump l bs) = all_image σ bs
live_image A sound σ t u (halt n bs) = all_image σ bs
