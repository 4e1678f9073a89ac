-- A simplified tree is formed, and what stands in it.
use Rattle.std.proofs.Common.{◌≡◌, ℕ, true, not, ◌&&◌, List, [], ◌∷◌, ◌++◌, inl, inr, refl, ap, ◌∙◌, length}
use Rattle.std.specs.Prelude.{nat_le, slice_get}
use Rattle.std.proofs.lemmas.Bool.{and_parts, and_from, not-true}
use Rattle.nv_base.specs.declared.term.Primitive.{Primitive}
use Rattle.nv_base.specs.Words.{atom_vars, prim_vars}
use Rattle.nv_base.specs.Sets.{is_in, all_different, all_vars, without, Within}
use Rattle.nv_base.specs.Access.{is_known, all_known, is_primitive, can_move, is_address}
use Rattle.nv_base.proofs.Operands.{count_of_known}
use Rattle.flow_ir.specs.Tree.{Tree, Let, Read, Write, If, Jump, Halt, Label}
use Rattle.flow_ir.specs.Formed.{defined, is_formed, takes_as_many}
use Rattle.flow_ir.specs.Wide.{live}
use Rattle.cps_rules.specs.Rules.{Answers, IsAnswered}
use Rattle.cps_rules.specs.Simplified.{reads, writes, accesses, EachLet, Defines, IsTidy}
use Rattle.flow_ir.specs.Substitution.{Names, renamed, all_renamed, prim_renamed}
use Rattle.cps_rules.specs.inner.Way.{AreUsed, Simplified, same, kept, dropped, read, write, choice, jump, halt}
use Rattle.cps_rules.proofs.Answered.{AllSound, answered_count}
use Rattle.flow_ir.proofs.Members.{either, in-left, in-right, in-or-out, in-not-out, stays, different-parts}
use Rattle.flow_ir.proofs.Scopes.{uses_live}
use Rattle.flow_ir.proofs.Renaming.{all_length, count_renamed, atom_known, atoms_known, prim_known, address_renamed}

-- ---- formed

behind_known : (gone a known : List ℕ) → Within (without a gone) known → Within a (gone ++ known)
behind_known gone a known h = λ y e. in-or-out y gone (λ p. in-left y gone known p) (λ p. in-right y gone known (h y (stays y a gone e p)))

module _ (A : Answers) (sound : AllSound A) (σ : Names) (labels labels' : List Label) (heads : (n l : ℕ) → takes_as_many n (slice_get labels l) ≡ true → takes_as_many n (slice_get labels' l) ≡ true) where
  pub still_formed : (t u : Tree) (known known' : List ℕ) → Simplified A σ t u → is_formed labels known t ≡ true → Within (live u) known' → is_formed labels' known' u ≡ true
  still_formed t u known known' (same x p a t' u' answered at rest) e h = still_formed t' u' (x ∷ known) known' rest (and_parts (is_primitive known p) (is_formed labels (x ∷ known) t') e).1 h
  still_formed t u known known' (kept x p q t' u' answered other at rest) e h =
      let parts = and_parts (is_primitive known p) (is_formed labels (x ∷ known) t') e in
      and_from (is_primitive known' q) (is_formed labels' (x ∷ known') u')
      (prim_known known' q (answered_count A sound (prim_renamed σ p) q answered (count_renamed σ p (count_of_known known p parts.0))) (λ y i. h y (in-left y (prim_vars q) (without (live u') (x ∷ [])) i)))
      (still_formed t' u' (x ∷ known) (x ∷ known') rest parts.1 (behind_known (x ∷ []) (live u') known' (λ y i. h y (in-right y (prim_vars q) (without (live u') (x ∷ [])) i))))
  still_formed t u known known' (dropped x p q t' u' answered at unused rest) e h = still_formed t' u' (x ∷ known) known' rest (and_parts (is_primitive known p) (is_formed labels (x ∷ known) t') e).1 h
  still_formed t u known known' (read m xs a t' u' own rest) e h =
      let p1 = and_parts (is_known known a) (can_move m (length xs) && (is_address m a (length xs) && is_formed labels (xs ++ known) t')) e in
      let p2 = and_parts (can_move m (length xs)) (is_address m a (length xs) && is_formed labels (xs ++ known) t') p1.1 in
      let p3 = and_parts (is_address m a (length xs)) (is_formed labels (xs ++ known) t') p2.1 in
      let last = still_formed t' u' (xs ++ known) (xs ++ known') rest p3.1 (behind_known xs (live u') known' (λ y i. h y (in-right y (atom_vars (renamed σ a)) (without (live u') xs) i))) in
      and_from (is_known known' (renamed σ a)) (can_move m (length xs) && (is_address m (renamed σ a) (length xs) && is_formed labels' (xs ++ known') u')) (atom_known known' (renamed σ a) (λ y i. h y (in-left y (atom_vars (renamed σ a)) (without (live u') xs) i)))
      (and_from (can_move m (length xs)) (is_address m (renamed σ a) (length xs) && is_formed labels' (xs ++ known') u') p2.0
      (and_from (is_address m (renamed σ a) (length xs)) (is_formed labels' (xs ++ known') u') (address_renamed σ m a (length xs) p3.0) last))
  still_formed t u known known' (write m a bs t' u' rest) e h =
      let n = length bs in
      let p1 = and_parts (is_known known a) (all_known known bs && (can_move m n && (is_address m a n && is_formed labels known t'))) e in
      let p2 = and_parts (all_known known bs) (can_move m n && (is_address m a n && is_formed labels known t')) p1.1 in
      let p3 = and_parts (can_move m n) (is_address m a n && is_formed labels known t') p2.1 in
      let p4 = and_parts (is_address m a n) (is_formed labels known t') p3.1 in
      let vs = atom_vars (renamed σ a) in
      let ws = all_vars (all_renamed σ bs) in
      let last = still_formed t' u' known known' rest p4.1 (λ y i. h y (in-right y (vs ++ ws) (live u') i)) in
      let moved : (can_move m n && (is_address m (renamed σ a) n && is_formed labels' known' u')) ≡ true =
      and_from (can_move m n) (is_address m (renamed σ a) n && is_formed labels' known' u') p3.0
      (and_from (is_address m (renamed σ a) n) (is_formed labels' known' u') (address_renamed σ m a n p4.0) last) in
      let k = length (all_renamed σ bs) in
      and_from (is_known known' (renamed σ a)) (all_known known' (all_renamed σ bs) && (can_move m k && (is_address m (renamed σ a) k && is_formed labels' known' u')))
      (atom_known known' (renamed σ a) (λ y i. h y (in-left y (vs ++ ws) (live u') (in-left y vs ws i))))
      (and_from (all_known known' (all_renamed σ bs)) (can_move m k && (is_address m (renamed σ a) k && is_formed labels' known' u')) (atoms_known known' (all_renamed σ bs) (λ y i. h y (in-left y (vs ++ ws) (live u') (in-right y vs ws i))))
      (ap (λ j. can_move m j && (is_address m (renamed σ a) j && is_formed labels' known' u')) (all_length σ bs) ∙ moved))
  still_formed t u known known' (choice c a b t1 t2 u1 u2 left right) e h =
      let p1 = and_parts (is_known known a) (is_known known b && (is_formed labels known t1 && is_formed labels known t2)) e in
      let p2 = and_parts (is_known known b) (is_formed labels known t1 && is_formed labels known t2) p1.1 in
      let p3 = and_parts (is_formed labels known t1) (is_formed labels known t2) p2.1 in
      let va = atom_vars (renamed σ a) in
      let vb = atom_vars (renamed σ b) ++ [] in
      and_from (is_known known' (renamed σ a)) (is_known known' (renamed σ b) && (is_formed labels' known' u1 && is_formed labels' known' u2))
      (atom_known known' (renamed σ a) (λ y i. h y (in-left y (va ++ vb) (live u1 ++ live u2) (in-left y va vb i))))
      (and_from (is_known known' (renamed σ b)) (is_formed labels' known' u1 && is_formed labels' known' u2)
      (atom_known known' (renamed σ b) (λ y i. h y (in-left y (va ++ vb) (live u1 ++ live u2) (in-right y va vb (in-left y (atom_vars (renamed σ b)) [] i)))))
      (and_from (is_formed labels' known' u1) (is_formed labels' known' u2)
      (still_formed t1 u1 known known' left p3.0 (λ y i. h y (in-right y (va ++ vb) (live u1 ++ live u2) (in-left y (live u1) (live u2) i))))
      (still_formed t2 u2 known known' right p3.1 (λ y i. h y (in-right y (va ++ vb) (live u1 ++ live u2) (in-right y (live u1) (live u2) i))))))
  still_formed t u known known' (jump l bs) e h =
      let p1 = and_parts (all_known known bs) (nat_le 1 l && takes_as_many (length bs) (slice_get labels l)) e in
      let p2 = and_parts (nat_le 1 l) (takes_as_many (length bs) (slice_get labels l)) p1.1 in
      let k = length (all_renamed σ bs) in
      and_from (all_known known' (all_renamed σ bs)) (nat_le 1 l && takes_as_many k (slice_get labels' l)) (atoms_known known' (all_renamed σ bs) h)
      (and_from (nat_le 1 l) (takes_as_many k (slice_get labels' l)) p2.0 (ap (λ j. takes_as_many j (slice_get labels' l)) (all_length σ bs) ∙ heads (length bs) l p2.1))
  still_formed t u known known' (halt n bs) e h =
      let p1 = and_parts (all_known known bs) (nat_le (length bs) 8) e in
      and_from (all_known known' (all_renamed σ bs)) (nat_le (length (all_renamed σ bs)) 8) (atoms_known known' (all_renamed σ bs) h) (ap (λ j. nat_le j 8) (all_length σ bs) ∙ p1.1)

-- ---- accesses

pub same_accesses : (A : Answers) (σ : Names) (t u : Tree) → Simplified A σ t u → accesses u ≡ accesses t
same_accesses A σ t u (same x p a t' u' answered at rest) = same_accesses A σ t' u' rest
same_accesses A σ t u (kept x p q t' u' answered other at rest) = same_accesses A σ t' u' rest
same_accesses A σ t u (dropped x p q t' u' answered at unused rest) = same_accesses A σ t' u' rest
same_accesses A σ t u (read m xs a t' u' own rest) = ap (λ l. reads m xs ∷ l) (same_accesses A σ t' u' rest)
same_accesses A σ t u (write m a bs t' u' rest) = ap (λ n. writes m n ∷ accesses u') (all_length σ bs) ∙ ap (λ l. writes m (length bs) ∷ l) (same_accesses A σ t' u' rest)
same_accesses A σ t u (choice c a b t1 t2 u1 u2 left right) = ap (λ l. l ++ accesses u2) (same_accesses A σ t1 u1 left) ∙ ap (λ l. accesses t1 ++ l) (same_accesses A σ t2 u2 right)
same_accesses A σ t u (jump l bs) = refl
same_accesses A σ t u (halt n bs) = refl

-- ---- definitions

-- q is an answer for what a tree defines x by
abbrev pub Holds : Answers → Names → Tree → ℕ → Primitive → Tree → Type 0
Holds A σ whole x q rest = (p : Primitive) × Defines x p whole × IsAnswered A (prim_renamed σ p) q

pub lets_answered : (A : Answers) (σ : Names) (whole t u : Tree) → Simplified A σ t u → ((x : ℕ) (p : Primitive) → Defines x p t → Defines x p whole) → EachLet (Holds A σ whole) u
lets_answered A σ whole t u (same x p a t' u' answered at rest) h = lets_answered A σ whole t' u' rest (λ y k d. h y k (inr d))
lets_answered A σ whole t u (kept x p q t' u' answered other at rest) h = ((p, h x p (inl (refl, refl)), answered), lets_answered A σ whole t' u' rest (λ y k d. h y k (inr d)))
lets_answered A σ whole t u (dropped x p q t' u' answered at unused rest) h = lets_answered A σ whole t' u' rest (λ y k d. h y k (inr d))
lets_answered A σ whole t u (read m xs a t' u' own rest) h = lets_answered A σ whole t' u' rest h
lets_answered A σ whole t u (write m a bs t' u' rest) h = lets_answered A σ whole t' u' rest h
lets_answered A σ whole t u (choice c a b t1 t2 u1 u2 left right) h = (lets_answered A σ whole t1 u1 left (λ y k d. h y k (inl d)), lets_answered A σ whole t2 u2 right (λ y k d. h y k (inr d)))
lets_answered A σ whole t u (jump l bs) h = tt
lets_answered A σ whole t u (halt n bs) h = tt

pub tidy_used : (t : Tree) → all_different (defined t) ≡ true → AreUsed t → IsTidy t
tidy_used (Let x a t) d h =
    let parts = and_parts (not (is_in x (defined t))) (all_different (defined t)) d in
    ((either x (live t) (defined t) (uses_live t x h.0.0) (λ i. i) (λ i. in-not-out x (defined t) i (not-true (is_in x (defined t)) parts.0)), h.0.1), tidy_used t parts.1 h.1)
tidy_used (Read m xs a t) d h = tidy_used t (different-parts xs (defined t) d).1 h
tidy_used (Write m a bs t) d h = tidy_used t d h
tidy_used (If c a b t u) d h = let parts = different-parts (defined t) (defined u) d in (tidy_used t parts.0 h.0, tidy_used u parts.1 h.1)
tidy_used (Jump l bs) d h = tt
tidy_used (Halt n bs) d h = tt
