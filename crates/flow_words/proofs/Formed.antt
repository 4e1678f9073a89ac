-- A reduced tree is formed, and defines each variable once.
use Rattle.std.proofs.Common.{◌≡◌, ℕ, ◌+◌, ◌<◌, ◌≤◌, true, not, nat_eq, nat_le, ◌&&◌, List, [], ◌∷◌, ◌++◌, refl, sym, ap, ◌∙◌, ⊎_elim, inl, inr, ◌⊎◌, length, slice_get, arith}
use Rattle.std.proofs.lemmas.Bool.{and_parts, and_from, or_left, not_from_false, not-true, false≢true, false_from_ne_true}
use Rattle.nv_base.specs.declared.term.Primitive.{Primitive}
use Rattle.nv_base.specs.Sets.{is_in, all_different, Within}
use Rattle.nv_base.specs.Access.{is_known, all_known, is_primitive, can_move, is_address}
use Rattle.nv_base.proofs.Operands.{atom-more, atoms-more}
use Rattle.nv_base.proofs.Sets.{same-number}
use Rattle.flow_ir.specs.Tree.{Tree, Label}
use Rattle.flow_ir.specs.Formed.{defined, is_formed, takes_as_many}
use Rattle.flow_ir.proofs.Members.{either, first-or-rest, in-left, in-right, in-first, in-rest}
use Rattle.flow_ir.proofs.Renaming.{prim_known}
use Rattle.flow_words.specs.declared.state.Known.{Known}
use Rattle.flow_words.specs.Tables.{Table, itself, with_known, with_all}
use Rattle.flow_words.specs.Definitions.{of_prim}
use Rattle.flow_words.specs.inner.Reduced.{AreNew, Reduced, extra, kept, read, write, choice, jump, halt}
use Rattle.flow_words.proofs.Closing.{same_case, with_else, settled_live, settled_count}

-- ---- what is in scope is known

abbrev pub InScope : Table → List ℕ → Type 0
InScope T known = (y : ℕ) → (T y).live ≡ true → is_in y known ≡ true

pub scope_more : (T : Table) (x : ℕ) (k : Known) (known : List ℕ) → InScope T known → InScope (with_known T x k) (x ∷ known)
scope_more T x k known h =
    λ y live. same_case y x (λ e. or_left (nat_eq y x) (is_in y known) e) (λ e. in-rest y x known (h y (sym (ap (λ (j : Known). j.live) (with_else T x y k e)) ∙ live)))

pub scope_all : (T : Table) (xs known : List ℕ) → InScope T known → InScope (with_all T xs) (xs ++ known)
scope_all T [] known h = h
scope_all T (x ∷ xs) known h =
    λ y live.
    let i : is_in y (xs ++ (x ∷ known)) ≡ true = scope_all (with_known T x (itself x)) xs (x ∷ known) (scope_more T x (itself x) known h) y live in
    either y xs (x ∷ known) i (λ p. in-rest y x (xs ++ known) (in-left y xs known p))
    (λ p. first-or-rest y x known p (λ q. or_left (nat_eq y x) (is_in y (xs ++ known)) q) (λ q. in-rest y x (xs ++ known) (in-right y xs known q)))

within_first : (x : ℕ) (known more : List ℕ) → Within known more → Within (x ∷ known) (x ∷ more)
within_first x known more h = λ y i. first-or-rest y x known i (λ p. or_left (nat_eq y x) (is_in y more) p) (λ p. in-rest y x more (h y p))

within_behind : (xs known more : List ℕ) → Within known more → Within (xs ++ known) (xs ++ more)
within_behind xs known more h = λ y i. either y xs known i (λ p. in-left y xs more p) (λ p. in-right y xs more (h y p))

module _ (P : Table → Primitive → Type 0) (base : ℕ) (labels news : List Label) (heads : (n l : ℕ) → takes_as_many n (slice_get news l) ≡ takes_as_many n (slice_get labels l)) where
  pub reduced_formed : (T : Table) (n k : ℕ) (t u : Tree) → Reduced P base T n t u k → (known more : List ℕ) → is_formed labels known t ≡ true → Within known more → InScope T more → is_formed news more u ≡ true
  reduced_formed T n k t u (extra T' n' k' q t' u' le dead settled p rest) known more e within scope =
      and_from (is_primitive more q) (is_formed news (n ∷ more) u') (prim_known more q (settled_count T q settled) (λ z i. scope z (settled_live T q settled z i)))
      (reduced_formed (with_known T n (of_prim T q)) (n + 1) k t u' rest known (n ∷ more) e (λ y i. in-rest y n more (within y i)) (scope_more T n (of_prim T q) more scope))
  reduced_formed T n k t u (kept T' n' k' x p q t' u' lt dead settled fine old same rest) known more e within scope =
      let parts = and_parts (is_primitive known p) (is_formed labels (x ∷ known) t') e in
      and_from (is_primitive more q) (is_formed news (x ∷ more) u') (prim_known more q (settled_count T q settled) (λ z i. scope z (settled_live T q settled z i)))
      (reduced_formed (with_known T x (of_prim T q)) n k t' u' rest (x ∷ known) (x ∷ more) parts.1 (within_first x known more within) (scope_more T x (of_prim T q) more scope))
  reduced_formed T n k t u (read T' n' k' m xs a t' u' old fresh rest) known more e within scope =
      let i = length xs in
      let p1 = and_parts (is_known known a) (can_move m i && (is_address m a i && is_formed labels (xs ++ known) t')) e in
      let p2 = and_parts (can_move m i) (is_address m a i && is_formed labels (xs ++ known) t') p1.1 in
      let p3 = and_parts (is_address m a i) (is_formed labels (xs ++ known) t') p2.1 in
      and_from (is_known more a) (can_move m i && (is_address m a i && is_formed news (xs ++ more) u')) (atom-more known more a within p1.0)
      (and_from (can_move m i) (is_address m a i && is_formed news (xs ++ more) u') p2.0
      (and_from (is_address m a i) (is_formed news (xs ++ more) u') p3.0 (reduced_formed (with_all T xs) n k t' u' rest (xs ++ known) (xs ++ more) p3.1 (within_behind xs known more within) (scope_all T xs more scope))))
  reduced_formed T n k t u (write T' n' k' m a bs t' u' old olds rest) known more e within scope =
      let i = length bs in
      let p1 = and_parts (is_known known a) (all_known known bs && (can_move m i && (is_address m a i && is_formed labels known t'))) e in
      let p2 = and_parts (all_known known bs) (can_move m i && (is_address m a i && is_formed labels known t')) p1.1 in
      let p3 = and_parts (can_move m i) (is_address m a i && is_formed labels known t') p2.1 in
      let p4 = and_parts (is_address m a i) (is_formed labels known t') p3.1 in
      and_from (is_known more a) (all_known more bs && (can_move m i && (is_address m a i && is_formed news more u'))) (atom-more known more a within p1.0)
      (and_from (all_known more bs) (can_move m i && (is_address m a i && is_formed news more u')) (atoms-more known more bs within p2.0)
      (and_from (can_move m i) (is_address m a i && is_formed news more u') p3.0 (and_from (is_address m a i) (is_formed news more u') p4.0 (reduced_formed T n k t' u' rest known more p4.1 within scope))))
  reduced_formed T n k t u (choice T' n' j k' c a b t1 t2 u1 u2 olda oldb left right) known more e within scope =
      let p1 = and_parts (is_known known a) (is_known known b && (is_formed labels known t1 && is_formed labels known t2)) e in
      let p2 = and_parts (is_known known b) (is_formed labels known t1 && is_formed labels known t2) p1.1 in
      let p3 = and_parts (is_formed labels known t1) (is_formed labels known t2) p2.1 in
      and_from (is_known more a) (is_known more b && (is_formed news more u1 && is_formed news more u2)) (atom-more known more a within p1.0)
      (and_from (is_known more b) (is_formed news more u1 && is_formed news more u2) (atom-more known more b within p2.0)
      (and_from (is_formed news more u1) (is_formed news more u2) (reduced_formed T n j t1 u1 left known more p3.0 within scope) (reduced_formed T j k t2 u2 right known more p3.1 within scope)))
  reduced_formed T n k t u (jump T' n' l bs olds) known more e within scope =
      let i = length bs in
      let p1 = and_parts (all_known known bs) (nat_le 1 l && takes_as_many i (slice_get labels l)) e in
      let p2 = and_parts (nat_le 1 l) (takes_as_many i (slice_get labels l)) p1.1 in
      and_from (all_known more bs) (nat_le 1 l && takes_as_many i (slice_get news l)) (atoms-more known more bs within p1.0) (and_from (nat_le 1 l) (takes_as_many i (slice_get news l)) p2.0 (heads i l ∙ p2.1))
  reduced_formed T n k t u (halt T' n' x bs olds) known more e within scope =
      let p1 = and_parts (all_known known bs) (nat_le (length bs) 8) e in
      and_from (all_known more bs) (nat_le (length bs) 8) (atoms-more known more bs within p1.0) p1.1

-- ---- what is defined

-- the second list is the first with the numbers from n to k in it, in order
pub data Mixed : ℕ → ℕ → List ℕ → List ℕ → Type 0 where
  none : (n : ℕ) → Mixed n n [] []
  own : (n k x : ℕ) (xs ys : List ℕ) → Mixed n k xs ys → Mixed n k (x ∷ xs) (x ∷ ys)
  more : (n k : ℕ) (xs ys : List ℕ) → Mixed (n + 1) k xs ys → Mixed n k xs (n ∷ ys)

mixed_both : (n j k : ℕ) (as' bs cs ds : List ℕ) → Mixed n j as' bs → Mixed j k cs ds → Mixed n k (as' ++ cs) (bs ++ ds)
mixed_both n j k as' bs cs ds (none i) q = q
mixed_both n j k as' bs cs ds (own i l x xs ys p) q = own n k x (xs ++ cs) (ys ++ ds) (mixed_both n j k xs ys cs ds p q)
mixed_both n j k as' bs cs ds (more i l xs ys p) q = more n k (xs ++ cs) (ys ++ ds) (mixed_both (n + 1) j k xs ys cs ds p q)

pub mixed_front : (n k : ℕ) (xs as' bs : List ℕ) → Mixed n k as' bs → Mixed n k (xs ++ as') (xs ++ bs)
mixed_front n k [] as' bs p = p
mixed_front n k (x ∷ xs) as' bs p = own n k x (xs ++ as') (xs ++ bs) (mixed_front n k xs as' bs p)

pub defines : {P : Table → Primitive → Type 0} {base : ℕ} (T : Table) (n k : ℕ) (t u : Tree) → Reduced P base T n t u k → Mixed n k (defined t) (defined u)
defines T n k t u (extra T' n' k' q t' u' le dead settled p rest) = more n k (defined t) (defined u') (defines (with_known T n (of_prim T q)) (n + 1) k t u' rest)
defines T n k t u (kept T' n' k' x p q t' u' lt dead settled fine old same rest) = own n k x (defined t') (defined u') (defines (with_known T x (of_prim T q)) n k t' u' rest)
defines T n k t u (read T' n' k' m xs a t' u' old fresh rest) = mixed_front n k xs (defined t') (defined u') (defines (with_all T xs) n k t' u' rest)
defines T n k t u (write T' n' k' m a bs t' u' old olds rest) = defines T n k t' u' rest
defines T n k t u (choice T' n' j k' c a b t1 t2 u1 u2 olda oldb left right) = mixed_both n j k (defined t1) (defined u1) (defined t2) (defined u2) (defines T n j t1 u1 left) (defines T j k t2 u2 right)
defines T n k t u (jump T' n' l bs olds) = none n
defines T n k t u (halt T' n' e bs olds) = none n

-- all are below base
abbrev pub AllBelow : ℕ → List ℕ → Type 0
AllBelow base xs = (y : ℕ) → is_in y xs ≡ true → y < base

pub new_below : (base : ℕ) (T : Table) (xs : List ℕ) → AreNew base T xs → AllBelow base xs
new_below base T [] h = λ y i. absurd (false≢true i)
new_below base T (x ∷ xs) h =
    λ y i. first-or-rest y x xs i (λ e. let same : y ≡ x = same-number y x e in let lt = h.0 in omega (arith, same, lt)) (λ p. new_below base (with_known T x (itself x)) xs h.2 y p)

pub below_both : (base : ℕ) (xs ys : List ℕ) → AllBelow base xs → AllBelow base ys → AllBelow base (xs ++ ys)
below_both base xs ys h k = λ y i. either y xs ys i (λ p. h y p) (λ p. k y p)

pub defined_below : {P : Table → Primitive → Type 0} {base : ℕ} (T : Table) (n k : ℕ) (t u : Tree) → Reduced P base T n t u k → AllBelow base (defined t)
defined_below T n k t u (extra T' n' k' q t' u' le dead settled p rest) = defined_below (with_known T n (of_prim T q)) (n + 1) k t u' rest
defined_below T n k t u (kept T' n' k' x p q t' u' lt dead settled fine old same rest) =
    λ y i. first-or-rest y x (defined t') i (λ e. let same : y ≡ x = same-number y x e in omega (arith, same, lt)) (λ p. defined_below (with_known T x (of_prim T q)) n k t' u' rest y p)
defined_below {base = base} T n k t u (read T' n' k' m xs a t' u' old fresh rest) = below_both base xs (defined t') (new_below base T xs fresh) (defined_below (with_all T xs) n k t' u' rest)
defined_below T n k t u (write T' n' k' m a bs t' u' old olds rest) = defined_below T n k t' u' rest
defined_below {base = base} T n k t u (choice T' n' j k' c a b t1 t2 u1 u2 olda oldb left right) = below_both base (defined t1) (defined t2) (defined_below T n j t1 u1 left) (defined_below T j k t2 u2 right)
defined_below T n k t u (jump T' n' l bs olds) = λ y i. absurd (false≢true i)
defined_below T n k t u (halt T' n' e bs olds) = λ y i. absurd (false≢true i)

-- what is in the second list is in the first, or a number from n on
mixed_in : (n k : ℕ) (xs ys : List ℕ) → Mixed n k xs ys → (z : ℕ) → is_in z ys ≡ true → (is_in z xs ≡ true) ⊎ (n ≤ z)
mixed_in n k xs ys (none i) z e = inl e
mixed_in n k xs ys (own i l x as' bs p) z e = first-or-rest z x bs e (λ q. inl (or_left (nat_eq z x) (is_in z as') q)) (λ q. ⊎_elim (λ r. inl (in-rest z x as' r)) (λ r. inr r) (mixed_in n k as' bs p z q))
mixed_in n k xs ys (more i l as' bs p) z e =
    first-or-rest z n bs e (λ q. let same : z ≡ n = same-number z n q in inr (omega (arith, same)))
    (λ q. ⊎_elim (λ r. inl r) (λ (le : n + 1 ≤ z). inr (omega arith)) (mixed_in (n + 1) k xs bs p z q))

pub mixed_different : (n k : ℕ) (xs ys : List ℕ) → Mixed n k xs ys → AllBelow n xs → all_different xs ≡ true → all_different ys ≡ true
mixed_different n k xs ys (none i) below d = refl
mixed_different n k xs ys (own i l x as' bs p) below d =
    let parts = and_parts (not (is_in x as')) (all_different as') d in
    and_from (not (is_in x bs)) (all_different bs)
    (not_from_false (is_in x bs)
    (false_from_ne_true (is_in x bs)
    (λ e. ⊎_elim (λ r. false≢true (sym (not-true (is_in x as') parts.0) ∙ r)) (λ (le : n ≤ x). let lt = below x (in-first x as') in absurd (omega (arith, lt, le))) (mixed_in n k as' bs p x e))))
    (mixed_different n k as' bs p (λ y i. below y (in-rest y x as' i)) parts.1)
mixed_different n k xs ys (more i l as' bs p) below d =
    and_from (not (is_in n bs)) (all_different bs)
    (not_from_false (is_in n bs)
    (false_from_ne_true (is_in n bs)
    (λ e. ⊎_elim (λ r. let lt = below n r in absurd (omega (arith, lt))) (λ (le : n + 1 ≤ n). absurd (omega (arith, le))) (mixed_in (n + 1) k xs bs p n e))))
    (mixed_different (n + 1) k xs bs p (λ y i. let lt = below y i in omega (arith, lt)) d)
