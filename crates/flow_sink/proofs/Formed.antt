-- A tree whose definitions sink is formed.
use Rattle.std.proofs.Common.{◌≡◌, ℕ, Bool, true, false, not, nat_eq, ◌&&◌, List, [], ◌∷◌, ◌++◌, refl, sym, ◌∙◌, length}
use Rattle.std.specs.Prelude.{nat_le, slice_get}
use Rattle.std.proofs.lemmas.Bool.{and_parts, and_from, or_left, or_right, not-true, false≢true}
use Rattle.nv_base.specs.declared.term.Primitive.{Primitive}
use Rattle.nv_base.specs.Words.{atom_vars, prim_vars}
use Rattle.nv_base.specs.Sets.{is_in, all_vars, Within}
use Rattle.nv_base.specs.Access.{is_known, all_known, is_primitive, can_move, is_address}
use Rattle.nv_base.proofs.Operands.{atom-known, atoms-known, prim-known, prim-more, count_of_known}
use Rattle.flow_ir.specs.Tree.{Tree, Let, Read, Write, If, Jump, Halt, Label}
use Rattle.flow_ir.specs.Formed.{is_formed, takes_as_many}
use Rattle.flow_ir.specs.Wide.{uses}
use Rattle.flow_ir.proofs.Members.{either, first-or-rest, in-left, in-right, in-rest, out-both}
use Rattle.flow_ir.proofs.Scopes.{not_same}
use Rattle.flow_ir.proofs.Renaming.{atom_known, atoms_known, prim_known}
use Rattle.flow_sink.specs.Sunk.{differ, sinks}
use Rattle.flow_sink.specs.inner.Sinking.{placed, lowered, sunk}
use Rattle.flow_sink.proofs.Lowering.{at_if, placed_at, differ_first}

-- ---- where others are known

-- what is used and known is known
abbrev pub Stays : List ℕ → List ℕ → List ℕ → Type 0
Stays us known known' = (y : ℕ) → is_in y us ≡ true → is_in y known ≡ true → is_in y known' ≡ true

stays_left : (a b known known' : List ℕ) → Stays (a ++ b) known known' → Stays a known known'
stays_left a b known known' s = λ y i k. s y (in-left y a b i) k

stays_right : (a b known known' : List ℕ) → Stays (a ++ b) known known' → Stays b known known'
stays_right a b known known' s = λ y i k. s y (in-right y a b i) k

stays_behind : (xs us known known' : List ℕ) → Stays us known known' → Stays us (xs ++ known) (xs ++ known')
stays_behind xs us known known' s = λ y i k. either y xs known k (λ q. in-left y xs known' q) (λ q. in-right y xs known' (s y i q))

still_within : (vs known known' : List ℕ) → Stays vs known known' → Within vs known → Within vs known'
still_within vs known known' s w = λ y i. s y i (w y i)

module _ (labels news : List Label) (heads : (n l : ℕ) → takes_as_many n (slice_get labels l) ≡ true → takes_as_many n (slice_get news l) ≡ true) where
  pub formed_at : (t : Tree) (known known' : List ℕ) → is_formed labels known t ≡ true → Stays (uses t) known known' → is_formed news known' t ≡ true
  formed_at (Let x p t) known known' e s =
      let parts = and_parts (is_primitive known p) (is_formed labels (x ∷ known) t) e in
      and_from (is_primitive known' p) (is_formed news (x ∷ known') t)
      (prim_known known' p (count_of_known known p parts.0) (still_within (prim_vars p) known known' (stays_left (prim_vars p) (uses t) known known' s) (prim-known known p parts.0)))
      (formed_at t (x ∷ known) (x ∷ known') parts.1 (stays_behind (x ∷ []) (uses t) known known' (stays_right (prim_vars p) (uses t) known known' s)))
  formed_at (Read m xs a t) known known' e s =
      let n = length xs in
      let p1 = and_parts (is_known known a) (can_move m n && (is_address m a n && is_formed labels (xs ++ known) t)) e in
      let p2 = and_parts (can_move m n) (is_address m a n && is_formed labels (xs ++ known) t) p1.1 in
      let p3 = and_parts (is_address m a n) (is_formed labels (xs ++ known) t) p2.1 in
      and_from (is_known known' a) (can_move m n && (is_address m a n && is_formed news (xs ++ known') t))
      (atom_known known' a (still_within (atom_vars a) known known' (stays_left (atom_vars a) (uses t) known known' s) (atom-known known a p1.0)))
      (and_from (can_move m n) (is_address m a n && is_formed news (xs ++ known') t) p2.0
      (and_from (is_address m a n) (is_formed news (xs ++ known') t) p3.0
      (formed_at t (xs ++ known) (xs ++ known') p3.1 (stays_behind xs (uses t) known known' (stays_right (atom_vars a) (uses t) known known' s)))))
  formed_at (Write m a bs t) known known' e s =
      let n = length bs in
      let p1 = and_parts (is_known known a) (all_known known bs && (can_move m n && (is_address m a n && is_formed labels known t))) e in
      let p2 = and_parts (all_known known bs) (can_move m n && (is_address m a n && is_formed labels known t)) p1.1 in
      let p3 = and_parts (can_move m n) (is_address m a n && is_formed labels known t) p2.1 in
      let p4 = and_parts (is_address m a n) (is_formed labels known t) p3.1 in
      let here = stays_left (all_vars (a ∷ bs)) (uses t) known known' s in
      and_from (is_known known' a) (all_known known' bs && (can_move m n && (is_address m a n && is_formed news known' t)))
      (atom_known known' a (still_within (atom_vars a) known known' (stays_left (atom_vars a) (all_vars bs) known known' here) (atom-known known a p1.0)))
      (and_from (all_known known' bs) (can_move m n && (is_address m a n && is_formed news known' t))
      (atoms_known known' bs (still_within (all_vars bs) known known' (stays_right (atom_vars a) (all_vars bs) known known' here) (atoms-known known bs p2.0)))
      (and_from (can_move m n) (is_address m a n && is_formed news known' t) p3.0
      (and_from (is_address m a n) (is_formed news known' t) p4.0 (formed_at t known known' p4.1 (stays_right (all_vars (a ∷ bs)) (uses t) known known' s)))))
  formed_at (If c a b t u) known known' e s =
      let p1 = and_parts (is_known known a) (is_known known b && (is_formed labels known t && is_formed labels known u)) e in
      let p2 = and_parts (is_known known b) (is_formed labels known t && is_formed labels known u) p1.1 in
      let p3 = and_parts (is_formed labels known t) (is_formed labels known u) p2.1 in
      let os = all_vars (a ∷ b ∷ []) in
      let here = stays_left os (uses t ++ uses u) known known' s in
      let arms = stays_right os (uses t ++ uses u) known known' s in
      and_from (is_known known' a) (is_known known' b && (is_formed news known' t && is_formed news known' u))
      (atom_known known' a (still_within (atom_vars a) known known' (stays_left (atom_vars a) (atom_vars b ++ []) known known' here) (atom-known known a p1.0)))
      (and_from (is_known known' b) (is_formed news known' t && is_formed news known' u)
      (atom_known known' b (still_within (atom_vars b) known known' (stays_left (atom_vars b) [] known known' (stays_right (atom_vars a) (atom_vars b ++ []) known known' here)) (atom-known known b p2.0)))
      (and_from (is_formed news known' t) (is_formed news known' u) (formed_at t known known' p3.0 (stays_left (uses t) (uses u) known known' arms)) (formed_at u known known' p3.1 (stays_right (uses t) (uses u) known known' arms))))
  formed_at (Jump l bs) known known' e s =
      let n = length bs in
      let p1 = and_parts (all_known known bs) (nat_le 1 l && takes_as_many n (slice_get labels l)) e in
      let p2 = and_parts (nat_le 1 l) (takes_as_many n (slice_get labels l)) p1.1 in
      and_from (all_known known' bs) (nat_le 1 l && takes_as_many n (slice_get news l)) (atoms_known known' bs (still_within (all_vars bs) known known' s (atoms-known known bs p1.0)))
      (and_from (nat_le 1 l) (takes_as_many n (slice_get news l)) p2.0 (heads n l p2.1))
  formed_at (Halt n bs) known known' e s =
      let p1 = and_parts (all_known known bs) (nat_le (length bs) 8) e in
      and_from (all_known known' bs) (nat_le (length bs) 8) (atoms_known known' bs (still_within (all_vars bs) known known' s (atoms-known known bs p1.0))) p1.1

-- ---- a definition further down

-- what is known is known, but x
abbrev pub Others : ℕ → List ℕ → List ℕ → Type 0
Others x known known' = (y : ℕ) → is_in y known ≡ true → nat_eq y x ≡ false → is_in y known' ≡ true

pub others_behind : (x : ℕ) (xs known known' : List ℕ) → Others x known known' → Others x (xs ++ known) (xs ++ known')
others_behind x xs known known' o = λ y i n. either y xs known i (λ q. in-left y xs known' q) (λ q. in-right y xs known' (o y q n))

-- where x isn't used
others_stay : (x : ℕ) (us known known' : List ℕ) → Others x known known' → is_in x us ≡ false → Stays us known known'
others_stay x us known known' o none = λ y i k. o y k (not_same x y us none i)

pub others_within : (x : ℕ) (vs known known' : List ℕ) → Others x known known' → is_in x vs ≡ false → Within vs known → Within vs known'
others_within x vs known known' o none w = still_within vs known known' (others_stay x vs known known' o none) w

-- where x is known too
others_and : (b : Bool) (x y : ℕ) (known known' : List ℕ) → nat_eq y x ≡ b → Others x known known' → is_in y known ≡ true → is_in y (x ∷ known') ≡ true
others_and true x y known known' e o i = or_left (nat_eq y x) (is_in y known') e
others_and false x y known known' e o i = or_right (nat_eq y x) (is_in y known') (o y i e)

module _ (labels : List Label) where
  -- the definition before the tree
  pub formed_here : (x : ℕ) (p : Primitive) (t : Tree) (known known' : List ℕ) → is_formed labels known t ≡ true → is_primitive known' p ≡ true → Others x known known' → is_formed labels known' (Let x p t) ≡ true
  formed_here x p t known known' e h o =
      and_from (is_primitive known' p) (is_formed labels (x ∷ known') t) h (formed_at labels labels (λ n l q. q) t known (x ∷ known') e (λ y i q. others_and (nat_eq y x) x y known known' refl o q))

  formed_placed : (x : ℕ) (p : Primitive) (t u : Tree) (known known' : List ℕ) → is_formed labels known t ≡ true → is_primitive known' p ≡ true → Others x known known' → (sinks x t ≡ true → is_formed labels known' u ≡ true) → is_formed labels known' (placed x p t u) ≡ true
  formed_placed x p t u known known' e h o f = placed_at (λ r. is_formed labels known' r ≡ true) x p t u f (λ k. formed_here x p t known known' e h o)

  pub formed_lowered : (x : ℕ) (p : Primitive) (t : Tree) (known known' : List ℕ) → is_formed labels known t ≡ true → sinks x t ≡ true → is_primitive known' p ≡ true → Others x known known' → is_formed labels known' (lowered x p t) ≡ true
  formed_lowered x p (Let z q t) known known' e k h o =
      let u = lowered x p t in
      let parts = and_parts (is_primitive known q) (is_formed labels (z ∷ known) t) e in
      let on = and_parts (not (is_in x (prim_vars q))) (sinks x t) k in
      and_from (is_primitive known' q) (is_formed labels (z ∷ known') u)
      (prim_known known' q (count_of_known known q parts.0) (others_within x (prim_vars q) known known' o (not-true (is_in x (prim_vars q)) on.0) (prim-known known q parts.0)))
      (formed_lowered x p t (z ∷ known) (z ∷ known') parts.1 on.1 (prim-more known' (z ∷ known') p (λ y i. in-rest y z known' i) h) (others_behind x (z ∷ []) known known' o))
  formed_lowered x p (Read m xs a t) known known' e k h o =
      let n = length xs in
      let u = lowered x p t in
      let p1 = and_parts (is_known known a) (can_move m n && (is_address m a n && is_formed labels (xs ++ known) t)) e in
      let p2 = and_parts (can_move m n) (is_address m a n && is_formed labels (xs ++ known) t) p1.1 in
      let p3 = and_parts (is_address m a n) (is_formed labels (xs ++ known) t) p2.1 in
      let on = and_parts (not (is_in x (atom_vars a))) (sinks x t) k in
      and_from (is_known known' a) (can_move m n && (is_address m a n && is_formed labels (xs ++ known') u))
      (atom_known known' a (others_within x (atom_vars a) known known' o (not-true (is_in x (atom_vars a)) on.0) (atom-known known a p1.0)))
      (and_from (can_move m n) (is_address m a n && is_formed labels (xs ++ known') u) p2.0
      (and_from (is_address m a n) (is_formed labels (xs ++ known') u) p3.0
      (formed_lowered x p t (xs ++ known) (xs ++ known') p3.1 on.1 (prim-more known' (xs ++ known') p (λ y i. in-right y xs known' i) h) (others_behind x xs known known' o))))
  formed_lowered x p (Write m a bs t) known known' e k h o =
      let n = length bs in
      let u = lowered x p t in
      let p1 = and_parts (is_known known a) (all_known known bs && (can_move m n && (is_address m a n && is_formed labels known t))) e in
      let p2 = and_parts (all_known known bs) (can_move m n && (is_address m a n && is_formed labels known t)) p1.1 in
      let p3 = and_parts (can_move m n) (is_address m a n && is_formed labels known t) p2.1 in
      let p4 = and_parts (is_address m a n) (is_formed labels known t) p3.1 in
      let on = and_parts (not (is_in x (all_vars (a ∷ bs)))) (sinks x t) k in
      let none = out-both x (atom_vars a) (all_vars bs) (not-true (is_in x (all_vars (a ∷ bs))) on.0) in
      and_from (is_known known' a) (all_known known' bs && (can_move m n && (is_address m a n && is_formed labels known' u)))
      (atom_known known' a (others_within x (atom_vars a) known known' o none.0 (atom-known known a p1.0)))
      (and_from (all_known known' bs) (can_move m n && (is_address m a n && is_formed labels known' u)) (atoms_known known' bs (others_within x (all_vars bs) known known' o none.1 (atoms-known known bs p2.0)))
      (and_from (can_move m n) (is_address m a n && is_formed labels known' u) p3.0 (and_from (is_address m a n) (is_formed labels known' u) p4.0 (formed_lowered x p t known known' p4.1 on.1 h o))))
  formed_lowered x p (If c a b t u) known known' e k h o =
      let t' = placed x p t (lowered x p t) in
      let u' = placed x p u (lowered x p u) in
      let p1 = and_parts (is_known known a) (is_known known b && (is_formed labels known t && is_formed labels known u)) e in
      let p2 = and_parts (is_known known b) (is_formed labels known t && is_formed labels known u) p1.1 in
      let p3 = and_parts (is_formed labels known t) (is_formed labels known u) p2.1 in
      let on = and_parts (not (is_in x (all_vars (a ∷ b ∷ [])))) (differ (is_in x (uses t)) (is_in x (uses u))) k in
      let none = out-both x (atom_vars a) (atom_vars b ++ []) (not-true (is_in x (all_vars (a ∷ b ∷ []))) on.0) in
      let last = out-both x (atom_vars b) [] none.1 in
      let whole : (f g : Tree) → is_formed labels known' f ≡ true → is_formed labels known' g ≡ true → is_formed labels known' (If c a b f g) ≡ true =
      λ f g ef eg.
      and_from (is_known known' a) (is_known known' b && (is_formed labels known' f && is_formed labels known' g)) (atom_known known' a (others_within x (atom_vars a) known known' o none.0 (atom-known known a p1.0)))
      (and_from (is_known known' b) (is_formed labels known' f && is_formed labels known' g) (atom_known known' b (others_within x (atom_vars b) known known' o last.0 (atom-known known b p2.0)))
      (and_from (is_formed labels known' f) (is_formed labels known' g) ef eg)) in
      at_if (λ r. is_formed labels known' r ≡ true) (is_in x (uses t)) (If c a b t' u) (If c a b t u')
      (λ i. whole t' u (formed_placed x p t (lowered x p t) known known' p3.0 h o (λ s. formed_lowered x p t known known' p3.0 s h o))
      (formed_at labels labels (λ n l q. q) u known known' p3.1 (others_stay x (uses u) known known' o (differ_first (is_in x (uses t)) (is_in x (uses u)) on.1 i))))
      (λ i. whole t u' (formed_at labels labels (λ n l q. q) t known known' p3.0 (others_stay x (uses t) known known' o i))
      (formed_placed x p u (lowered x p u) known known' p3.1 h o (λ s. formed_lowered x p u known known' p3.1 s h o)))
  formed_lowered x p (Jump l bs) known known' e k h o = absurd (false≢true k)
  formed_lowered x p (Halt n bs) known known' e k h o = absurd (false≢true k)

  pub but_first : (x : ℕ) (known : List ℕ) → Others x (x ∷ known) known
  but_first x known = λ y i n. first-or-rest y x known i (λ q. absurd (false≢true (sym n ∙ q))) (λ q. q)

  pub formed_sunk : (t : Tree) (known : List ℕ) → is_formed labels known t ≡ true → is_formed labels known (sunk t) ≡ true
  formed_sunk (Let x p t) known e =
      let u = sunk t in
      let parts = and_parts (is_primitive known p) (is_formed labels (x ∷ known) t) e in
      let below = formed_sunk t (x ∷ known) parts.1 in
      formed_placed x p u (lowered x p u) (x ∷ known) known below parts.0 (but_first x known) (λ s. formed_lowered x p u (x ∷ known) known below s parts.0 (but_first x known))
  formed_sunk (Read m xs a t) known e =
      let n = length xs in
      let u = sunk t in
      let p1 = and_parts (is_known known a) (can_move m n && (is_address m a n && is_formed labels (xs ++ known) t)) e in
      let p2 = and_parts (can_move m n) (is_address m a n && is_formed labels (xs ++ known) t) p1.1 in
      let p3 = and_parts (is_address m a n) (is_formed labels (xs ++ known) t) p2.1 in
      and_from (is_known known a) (can_move m n && (is_address m a n && is_formed labels (xs ++ known) u)) p1.0
      (and_from (can_move m n) (is_address m a n && is_formed labels (xs ++ known) u) p2.0 (and_from (is_address m a n) (is_formed labels (xs ++ known) u) p3.0 (formed_sunk t (xs ++ known) p3.1)))
  formed_sunk (Write m a bs t) known e =
      let n = length bs in
      let u = sunk t in
      let p1 = and_parts (is_known known a) (all_known known bs && (can_move m n && (is_address m a n && is_formed labels known t))) e in
      let p2 = and_parts (all_known known bs) (can_move m n && (is_address m a n && is_formed labels known t)) p1.1 in
      let p3 = and_parts (can_move m n) (is_address m a n && is_formed labels known t) p2.1 in
      let p4 = and_parts (is_address m a n) (is_formed labels known t) p3.1 in
      and_from (is_known known a) (all_known known bs && (can_move m n && (is_address m a n && is_formed labels known u))) p1.0
      (and_from (all_known known bs) (can_move m n && (is_address m a n && is_formed labels known u)) p2.0
      (and_from (can_move m n) (is_address m a n && is_formed labels known u) p3.0 (and_from (is_address m a n) (is_formed labels known u) p4.0 (formed_sunk t known p4.1))))
  formed_sunk (If c a b t u) known e =
      let p1 = and_parts (is_known known a) (is_known known b && (is_formed labels known t && is_formed labels known u)) e in
      let p2 = and_parts (is_known known b) (is_formed labels known t && is_formed labels known u) p1.1 in
      let p3 = and_parts (is_formed labels known t) (is_formed labels known u) p2.1 in
      and_from (is_known known a) (is_known known b && (is_formed labels known (sunk t) && is_formed labels known (sunk u))) p1.0
      (and_from (is_known known b) (is_formed labels known (sunk t) && is_formed labels known (sunk u)) p2.0 (and_from (is_formed labels known (sunk t)) (is_formed labels known (sunk u)) (formed_sunk t known p3.0) (formed_sunk u known p3.1)))
  formed_sunk (Jump l bs) known e = e
  formed_sunk (Halt n bs) known e = e
