-- A copy is no wider.
use Rattle.std.proofs.Common.{◌≡◌, ℕ, ◌+◌, ◌≤◌, Bool, true, false, nat_eq, List, [], ◌∷◌, ◌++◌, Some, refl, sym, ap, subst, ◌∙◌, not, ◌||◌, length, slice_get, arith}
use Rattle.std.specs.List.{range_with_len}
use Rattle.std.proofs.lemmas.Bool.{and_parts, not-true, false≢true, false_from_ne_true}
use Rattle.nv_base.specs.declared.term.Atom.TheVariants.{Var}
use Rattle.nv_base.specs.Words.{atom_vars, prim_vars}
use Rattle.nv_base.specs.Sets.{is_in, all_different, all_vars, without, Within}
use Rattle.nv_base.proofs.Sets.{same-number, within-both}
use Rattle.flow_ir.specs.Tree.{Tree, If, Label}
use Rattle.flow_ir.specs.Formed.{defined}
use Rattle.flow_ir.specs.Wide.{live, tree_wide}
use Rattle.flow_ir.specs.Substitution.{Names, renamed, all_renamed, prim_renamed}
use Rattle.flow_ir.proofs.Members.{first-or-rest, in-first, in-rest, in-left, in-right, in-not-out, stays, stayed, different-parts}
use Rattle.flow_ir.proofs.Scopes.{fits_live}
use Rattle.flow_ir.proofs.Renaming.{fewer, operands_image, let_image, image, image_from, image_of, image_within, image_both, atom_image, all_image, prim_image}
use Rattle.flow_ir.specs.inner.Scoped.{Fits}
use Rattle.flow_merge.specs.inner.Copied.{named, all_named, numbered, Numbering, Copied, kept, read, write, choice, swapped, first, second, jump, halt, inside}
use Rattle.flow_merge.proofs.Naming.{named_case, named_here, named_else, numbered_in, numbered_out, operands_in}
use Rattle.flow_merge.proofs.Landing.{AllInScope}

-- ---- after new numbers

after_kept : (σ : Names) (n x : ℕ) (us ts : List ℕ) → Within us (image (named σ x (Var n)) ts) → Within (without us (n ∷ [])) (image σ (without ts (x ∷ [])))
after_kept σ n x us ts h =
    λ y e.
    let parts = stayed y us (n ∷ []) e in
    let f = image_from (named σ x (Var n)) ts y (h y parts.0) in
    named_case f.source x
    (λ same. in-not-out y (n ∷ []) (subst (λ a. is_in y (atom_vars a) ≡ true) (named_here σ x f.source (Var n) same) f.var) parts.1)
    (λ other. image_of σ (without ts (x ∷ [])) y f.source (stays f.source ts (x ∷ []) f.among (or_none (nat_eq f.source x) other)) (subst (λ a. is_in y (atom_vars a) ≡ true) (named_else σ x f.source (Var n) other) f.var))
  where
    or_none : (b : Bool) → b ≡ false → (b || false) ≡ false
    or_none true e = e
    or_none false e = refl

after_read : (σ : Names) (n : ℕ) (xs us ts : List ℕ) → Within us (image (numbered σ n xs) ts) → Within (without us (range_with_len n (length xs))) (image σ (without ts xs))
after_read σ n xs us ts h =
    λ y e.
    let ys = range_with_len n (length xs) in
    let parts = stayed y us ys e in
    let f = image_from (numbered σ n xs) ts y (h y parts.0) in
    let out : is_in f.source xs ≡ false = false_from_ne_true (is_in f.source xs) (λ i. in-not-out y ys (numbered_in xs σ n f.source i y f.var) parts.1) in
    image_of σ (without ts xs) y f.source (stays f.source ts xs f.among out) (subst (λ a. is_in y (atom_vars a) ≡ true) (numbered_out xs σ n f.source out) f.var)

-- each new number stands for one of them
all_stand : (xs : List ℕ) (σ : Names) (n : ℕ) → all_different xs ≡ true → Within (range_with_len n (length xs)) (image (numbered σ n xs) xs)
all_stand [] σ n d = λ y e. absurd (false≢true e)
all_stand (x ∷ xs) σ n d =
    let parts = and_parts (not (is_in x xs)) (all_different xs) d in
    let τ = named σ x (Var n) in
    let here : numbered τ (n + 1) xs x ≡ Var n = numbered_out xs τ (n + 1) x (not-true (is_in x xs) parts.0) ∙ named_itself in
    λ y e.
    first-or-rest y n (range_with_len (n + 1) (length xs)) e
    (λ p. image_of (numbered τ (n + 1) xs) (x ∷ xs) y x (in-first x xs) (subst (λ a. is_in y (atom_vars a) ≡ true) (sym here) (subst (λ z. is_in y (z ∷ []) ≡ true) (same-number y n p) (in-first y []))))
    (λ p. let f = image_from (numbered τ (n + 1) xs) xs y (all_stand xs τ (n + 1) parts.1 y p) in image_of (numbered τ (n + 1) xs) (x ∷ xs) y f.source (in-rest f.source x xs f.among) f.var)
  where
    named_itself : named σ x (Var n) x ≡ Var n
    named_itself = named_case x x (λ e. named_here σ x x (Var n) e) (λ e. in-not-out x (x ∷ []) (in-first x []) (ap (λ b. b || false) e))

-- ---- copies

turned_within : (σ : Names) (u1 u2 t1 t2 : List ℕ) → Within u1 (image σ t1) → Within u2 (image σ t2) → Within (u2 ++ u1) (image σ (t1 ++ t2))
turned_within σ u1 u2 t1 t2 p q = within-both u2 u1 (image σ (t1 ++ t2)) (λ y e. image_within σ t2 (t1 ++ t2) (λ z i. in-right z t1 t2 i) y (q y e)) (λ y e. image_within σ t1 (t1 ++ t2) (λ z i. in-left z t1 t2 i) y (p y e))

module _ (labels : List Label) (s : Numbering) (scoped : AllInScope labels) where
  pub copy_live : (known : List ℕ) (σ : Names) (n k : ℕ) (t u : Tree) → Copied labels s σ n t u k → Fits known t → Within (live u) (image σ (live t))
  copy_live known σ n k t u (kept σ' n' k' x p t' u' rest) fits =
      image_both σ (prim_vars (prim_renamed σ p)) (without (live u') (n ∷ [])) (prim_vars p) (without (live t') (x ∷ [])) (prim_image σ p)
      (after_kept σ n x (live u') (live t') (copy_live (x ∷ known) (named σ x (Var n)) (n + 1) k t' u' rest fits.3))
  copy_live known σ n k t u (read σ' n' k' m xs a t' u' rest) fits =
      image_both σ (atom_vars (renamed σ a)) (without (live u') (range_with_len n (length xs))) (atom_vars a) (without (live t') xs) (atom_image σ a)
      (after_read σ n xs (live u') (live t') (copy_live (xs ++ known) (numbered σ n xs) (n + length xs) k t' u' rest fits.2))
  copy_live known σ n k t u (write σ' n' k' m a bs t' u' rest) fits =
      image_both σ (all_vars (all_renamed σ (a ∷ bs))) (live u') (all_vars (a ∷ bs)) (live t') (all_image σ (a ∷ bs)) (copy_live known σ n k t' u' rest fits.1)
  copy_live known σ n k t u (choice σ' n' j k' c a b t1 t2 u1 u2 left right) fits =
      image_both σ (all_vars (all_renamed σ (a ∷ b ∷ []))) (live u1 ++ live u2) (all_vars (a ∷ b ∷ [])) (live t1 ++ live t2) (all_image σ (a ∷ b ∷ []))
      (image_both σ (live u1) (live u2) (live t1) (live t2) (copy_live known σ n j t1 u1 left fits.1) (copy_live known σ j k t2 u2 right fits.2))
  copy_live known σ n k t u (swapped σ' n' j k' c a b t1 t2 u1 u2 left right) fits =
      image_both σ (all_vars (all_renamed σ (a ∷ b ∷ []))) (live u2 ++ live u1) (all_vars (a ∷ b ∷ [])) (live t1 ++ live t2) (all_image σ (a ∷ b ∷ []))
      (turned_within σ (live u1) (live u2) (live t1) (live t2) (copy_live known σ j k t1 u1 right fits.1) (copy_live known σ n j t2 u2 left fits.2))
  copy_live known σ n k t u (first σ' n' k' c a b t1 t2 v e rest) fits =
      λ y i. image_within σ (live t1) (live (If c a b t1 t2)) (λ z h. in-right z (all_vars (a ∷ b ∷ [])) (live t1 ++ live t2) (in-left z (live t1) (live t2) h)) y (copy_live known σ n k t1 v rest fits.1 y i)
  copy_live known σ n k t u (second σ' n' k' c a b t1 t2 v e rest) fits =
      λ y i. image_within σ (live t2) (live (If c a b t1 t2)) (λ z h. in-right z (all_vars (a ∷ b ∷ [])) (live t1 ++ live t2) (in-right z (live t1) (live t2) h)) y (copy_live known σ n k t2 v rest fits.2 y i)
  copy_live known σ n k t u (jump σ' n' l bs lt stays) fits = all_image σ bs
  copy_live known σ n k t u (halt σ' n' e bs) fits = all_image σ bs
  copy_live known σ n k t u (inside σ' n' k' l bs m v e rest) fits =
      let os = all_renamed σ bs in
      let τ = all_named σ m.params os in
      λ y i.
      let f = image_from τ m.params y (image_within τ (live m.body) m.params (fits_live m.params m.body (scoped l m e)) y (copy_live m.params τ n k m.body v rest (scoped l m e) y i)) in
      all_image σ bs y (operands_in m.params os σ f.source f.among y f.var)

  -- no place of any label is wider, and the variables that a label defines are different
  pub copy_wide : (most : ℕ) → ((l : ℕ) (m : Label) → slice_get labels l ≡ Some m → tree_wide m.body ≤ most) → ((l : ℕ) (m : Label) → slice_get labels l ≡ Some m → all_different (defined m.body) ≡ true) → (known : List ℕ) (σ : Names) (n k : ℕ) (t u : Tree) → Copied labels s σ n t u k → Fits known t → all_different (defined t) ≡ true → tree_wide t ≤ most → tree_wide u ≤ most
  copy_wide most all once known σ n k t u (kept σ' n' k' x p t' u' rest) fits d le =
      let here = let_image σ (prim_vars (prim_renamed σ p) ++ without (live u') (n ∷ [])) (prim_vars p ++ without (live t') (x ∷ [])) (copy_live known σ n k t u (kept σ n k x p t' u' rest) fits) in
      let after_it = copy_wide most all once (x ∷ known) (named σ x (Var n)) (n + 1) k t' u' rest fits.3 (and_parts (not (is_in x (defined t'))) (all_different (defined t')) d).1 (omega (arith, le)) in
      omega (arith, here, after_it, le)
  copy_wide most all once known σ n k t u (read σ' n' k' m xs a t' u' rest) fits d le =
      let ys = range_with_len n (length xs) in
      let τ = numbered σ n xs in
      let parts = different-parts xs (defined t') d in
      let lives = copy_live (xs ++ known) τ (n + length xs) k t' u' rest fits.2 in
      let after_it = copy_wide most all once (xs ++ known) τ (n + length xs) k t' u' rest fits.2 parts.1 (omega (arith, le)) in
      let here = operands_image σ (without (live u') ys) (without (live t') xs) (a ∷ []) (after_read σ n xs (live u') (live t') lives) in
      let after = fewer τ (ys ++ live u') (xs ++ live t') (image_both τ ys (live u') xs (live t') (all_stand xs σ n parts.0) lives) in
      omega (arith, here, after_it, after, le)
  copy_wide most all once known σ n k t u (write σ' n' k' m a bs t' u' rest) fits d le =
      let here = operands_image σ (live u') (live t') (a ∷ bs) (copy_live known σ n k t' u' rest fits.1) in
      let after_it = copy_wide most all once known σ n k t' u' rest fits.1 d (omega (arith, le)) in
      omega (arith, here, after_it, le)
  copy_wide most all once known σ n k t u (choice σ' n' j k' c a b t1 t2 u1 u2 left right) fits d le =
      let parts = different-parts (defined t1) (defined t2) d in
      let here = operands_image σ (live u1 ++ live u2) (live t1 ++ live t2) (a ∷ b ∷ []) (image_both σ (live u1) (live u2) (live t1) (live t2) (copy_live known σ n j t1 u1 left fits.1) (copy_live known σ j k t2 u2 right fits.2)) in
      let one = copy_wide most all once known σ n j t1 u1 left fits.1 parts.0 (omega (arith, le)) in
      let two = copy_wide most all once known σ j k t2 u2 right fits.2 parts.1 (omega (arith, le)) in
      omega (arith, here, one, two, le)
  copy_wide most all once known σ n k t u (swapped σ' n' j k' c a b t1 t2 u1 u2 left right) fits d le =
      let parts = different-parts (defined t1) (defined t2) d in
      let here = operands_image σ (live u2 ++ live u1) (live t1 ++ live t2) (a ∷ b ∷ []) (turned_within σ (live u1) (live u2) (live t1) (live t2) (copy_live known σ j k t1 u1 right fits.1) (copy_live known σ n j t2 u2 left fits.2)) in
      let one = copy_wide most all once known σ j k t1 u1 right fits.1 parts.0 (omega (arith, le)) in
      let two = copy_wide most all once known σ n j t2 u2 left fits.2 parts.1 (omega (arith, le)) in
      omega (arith, here, one, two, le)
  copy_wide most all once known σ n k t u (first σ' n' k' c a b t1 t2 v e rest) fits d le = copy_wide most all once known σ n k t1 v rest fits.1 (different-parts (defined t1) (defined t2) d).0 (omega (arith, le))
  copy_wide most all once known σ n k t u (second σ' n' k' c a b t1 t2 v e rest) fits d le = copy_wide most all once known σ n k t2 v rest fits.2 (different-parts (defined t1) (defined t2) d).1 (omega (arith, le))
  copy_wide most all once known σ n k t u (jump σ' n' l bs lt stays) fits d le = let here = operands_image σ [] [] bs (λ y e. absurd (false≢true e)) in omega (arith, here, le)
  copy_wide most all once known σ n k t u (halt σ' n' e bs) fits d le = let here = operands_image σ [] [] bs (λ y i. absurd (false≢true i)) in omega (arith, here, le)
  copy_wide most all once known σ n k t u (inside σ' n' k' l bs m v e rest) fits d le =
      copy_wide most all once m.params (all_named σ m.params (all_renamed σ bs)) n k m.body v rest (scoped l m e) (once l m e) (all l m e)
