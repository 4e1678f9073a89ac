-- A tree whose definitions are put in order is formed, and does the same.
use Rattle.std.proofs.Common.{◌≡◌, ℕ, true, false, not, nat_eq, nat_lt, ◌&&◌, List, [], ◌∷◌, ◌++◌, refl, ap, ◌∙◌, length}
use Rattle.std.proofs.lemmas.Bool.{and_parts, and_from, or_parts, not-true}
use Rattle.nv_base.specs.declared.term.Primitive.{Primitive}
use Rattle.nv_base.specs.Sets.{is_in}
use Rattle.nv_base.specs.Access.{is_known, all_known, is_primitive, can_move, is_address}
use Rattle.nv_base.specs.Words.{Env, assigned, assigned_all, atom_word, atom_words, prim_word, prim_vars, compares}
use Rattle.nv_base.specs.World.{World, wrote}
use Rattle.nv_base.proofs.Operands.{prim-known, prim-more, prim-same, count_of_known}
use Rattle.cps_rules.proofs.Means.{read_alike, write_alike}
use Rattle.flow_ir.specs.Formed.{defined, is_formed}
use Rattle.flow_ir.specs.Meaning.{Next, does}
use Rattle.flow_ir.specs.Tree.{Tree, Let, Read, Write, If, Jump, Halt, Label}
use Rattle.flow_ir.specs.inner.Scoped.{Apart, Fits}
use Rattle.flow_ir.proofs.Members.{in-first, in-rest}
use Rattle.flow_ir.proofs.Renaming.{prim_known}
use Rattle.flow_ir.proofs.Scopes.{fits_apart}
use Rattle.flow_sink.proofs.Lowering.{at_if}
use Rattle.flow_sink.proofs.Formed.{Others, others_behind, others_within, formed_here, but_first}
use Rattle.flow_sink.proofs.Means.{other, swap, prim_other, arms_alike}
use Rattle.flow_sink.specs.Ordered.{rank, waits}
use Rattle.flow_sink.specs.inner.Ordering.{late, ordered}
use Rattle.flow_sink.proofs.Lateness.{apart_ordered}

module _ (ts hs : List ℕ) where
  -- ---- formed

  module _ (labels : List Label) where
    formed_late : (x : ℕ) (p : Primitive) (t : Tree) (known known' : List ℕ) → is_formed labels known t ≡ true → is_primitive known' p ≡ true → Others x known known' → is_formed labels known' (late ts hs x p t) ≡ true
    formed_late x p (Let z q t) known known' e h o =
        let u = late ts hs x p t in
        let parts = and_parts (is_primitive known q) (is_formed labels (z ∷ known) t) e in
        at_if (λ r. is_formed labels known' r ≡ true) (waits ts hs x (Let z q t)) (Let z q u) (Let x p (Let z q t))
        (λ k.
        let on = and_parts (nat_lt (rank ts hs z) (rank ts hs x)) (not (is_in x (prim_vars q))) k in
        and_from (is_primitive known' q) (is_formed labels (z ∷ known') u)
        (prim_known known' q (count_of_known known q parts.0) (others_within x (prim_vars q) known known' o (not-true (is_in x (prim_vars q)) on.1) (prim-known known q parts.0)))
        (formed_late x p t (z ∷ known) (z ∷ known') parts.1 (prim-more known' (z ∷ known') p (λ y i. in-rest y z known' i) h) (others_behind x (z ∷ []) known known' o)))
        (λ k. formed_here labels x p (Let z q t) known known' e h o)
    formed_late x p (Read m xs a t) known known' e h o = formed_here labels x p (Read m xs a t) known known' e h o
    formed_late x p (Write m a bs t) known known' e h o = formed_here labels x p (Write m a bs t) known known' e h o
    formed_late x p (If c a b t u) known known' e h o = formed_here labels x p (If c a b t u) known known' e h o
    formed_late x p (Jump l bs) known known' e h o = formed_here labels x p (Jump l bs) known known' e h o
    formed_late x p (Halt n bs) known known' e h o = formed_here labels x p (Halt n bs) known known' e h o

    pub formed_ordered : (t : Tree) (known : List ℕ) → is_formed labels known t ≡ true → is_formed labels known (ordered ts hs t) ≡ true
    formed_ordered (Let x p t) known e =
        let parts = and_parts (is_primitive known p) (is_formed labels (x ∷ known) t) e in formed_late x p (ordered ts hs t) (x ∷ known) known (formed_ordered t (x ∷ known) parts.1) parts.0 (but_first labels x known)
    formed_ordered (Read m xs a t) known e =
        let n = length xs in
        let u = ordered ts hs t in
        let p1 = and_parts (is_known known a) (can_move m n && (is_address m a n && is_formed labels (xs ++ known) t)) e in
        let p2 = and_parts (can_move m n) (is_address m a n && is_formed labels (xs ++ known) t) p1.1 in
        let p3 = and_parts (is_address m a n) (is_formed labels (xs ++ known) t) p2.1 in
        and_from (is_known known a) (can_move m n && (is_address m a n && is_formed labels (xs ++ known) u)) p1.0
        (and_from (can_move m n) (is_address m a n && is_formed labels (xs ++ known) u) p2.0 (and_from (is_address m a n) (is_formed labels (xs ++ known) u) p3.0 (formed_ordered t (xs ++ known) p3.1)))
    formed_ordered (Write m a bs t) known e =
        let n = length bs in
        let u = ordered ts hs t in
        let p1 = and_parts (is_known known a) (all_known known bs && (can_move m n && (is_address m a n && is_formed labels known t))) e in
        let p2 = and_parts (all_known known bs) (can_move m n && (is_address m a n && is_formed labels known t)) p1.1 in
        let p3 = and_parts (can_move m n) (is_address m a n && is_formed labels known t) p2.1 in
        let p4 = and_parts (is_address m a n) (is_formed labels known t) p3.1 in
        and_from (is_known known a) (all_known known bs && (can_move m n && (is_address m a n && is_formed labels known u))) p1.0
        (and_from (all_known known bs) (can_move m n && (is_address m a n && is_formed labels known u)) p2.0
        (and_from (can_move m n) (is_address m a n && is_formed labels known u) p3.0 (and_from (is_address m a n) (is_formed labels known u) p4.0 (formed_ordered t known p4.1))))
    formed_ordered (If c a b t u) known e =
        let t' = ordered ts hs t in
        let u' = ordered ts hs u in
        let p1 = and_parts (is_known known a) (is_known known b && (is_formed labels known t && is_formed labels known u)) e in
        let p2 = and_parts (is_known known b) (is_formed labels known t && is_formed labels known u) p1.1 in
        let p3 = and_parts (is_formed labels known t) (is_formed labels known u) p2.1 in
        and_from (is_known known a) (is_known known b && (is_formed labels known t' && is_formed labels known u')) p1.0
        (and_from (is_known known b) (is_formed labels known t' && is_formed labels known u') p2.0 (and_from (is_formed labels known t') (is_formed labels known u') (formed_ordered t known p3.0) (formed_ordered u known p3.1)))
    formed_ordered (Jump l bs) known e = e
    formed_ordered (Halt n bs) known e = e

  -- ---- meaning

  module _ (f : Next) where
    late_means : (x : ℕ) (p : Primitive) (t : Tree) (env : Env) (w : World) → is_in x (defined t) ≡ false → Apart (prim_vars p) (defined t) → does f (late ts hs x p t) env w ≡ does f t (assigned env x (prim_word env p)) w
    late_means x p (Let z q t) env w n o =
        let v = prim_word env p in
        let out = or_parts (nat_eq x z) (is_in x (defined t)) n in
        let far : (y : ℕ) → is_in y (prim_vars p) ≡ true → (nat_eq y z ≡ false) × (is_in y (defined t) ≡ false) = λ y i. or_parts (nat_eq y z) (is_in y (defined t)) (o y i) in
        let here = assigned env z (prim_word env q) in
        at_if (λ r. does f r env w ≡ does f (Let z q t) (assigned env x v) w) (waits ts hs x (Let z q t)) (Let z q (late ts hs x p t)) (Let x p (Let z q t))
        (λ k.
        let on = and_parts (nat_lt (rank ts hs z) (rank ts hs x)) (not (is_in x (prim_vars q))) k in
        late_means x p t here w out.1 (λ y i. (far y i).1)
        ∙ ap (λ u. does f t (assigned here x u) w) (prim-same here env p (λ y i. other env z (prim_word env q) y (far y i).0))
        ∙ ap (λ e. does f t e w) (swap env x z v (prim_word env q) out.0)
        ∙ ap (λ u. does f t (assigned (assigned env x v) z u) w) (prim_other env x v q (not-true (is_in x (prim_vars q)) on.1)))
        (λ k. refl)
    late_means x p (Read m xs a t) env w n o = refl
    late_means x p (Write m a bs t) env w n o = refl
    late_means x p (If c a b t u) env w n o = refl
    late_means x p (Jump l bs) env w n o = refl
    late_means x p (Halt e bs) env w n o = refl

    pub ordered_means : (t : Tree) (known : List ℕ) (env : Env) (w : World) → Fits known t → does f (ordered ts hs t) env w ≡ does f t env w
    ordered_means (Let x p t) known env w fits =
        let out = apart_ordered ts hs (x ∷ known) t (fits_apart (x ∷ known) t fits.3) in
        late_means x p (ordered ts hs t) env w (out x (in-first x known)) (λ y i. out y (in-rest y x known (fits.0 y i))) ∙ ordered_means t (x ∷ known) (assigned env x (prim_word env p)) w fits.3
    ordered_means (Read m xs a t) known env w fits =
        read_alike m (atom_word env a) (length xs) w (λ ws. does f t (assigned_all env xs ws) w) (λ ws. does f (ordered ts hs t) (assigned_all env xs ws) w) (λ ws found. ordered_means t (xs ++ known) (assigned_all env xs ws) w fits.2)
    ordered_means (Write m a bs t) known env w fits =
        write_alike m (atom_word env a) (atom_words env bs) w (λ v. does f t env v) (λ v. does f (ordered ts hs t) env v) (λ q found. ordered_means t known env (wrote m (atom_word env a) (atom_words env bs) q w) fits.1)
    ordered_means (If c a b t u) known env w fits =
        arms_alike (compares c (atom_word env a) (atom_word env b)) (does f t env w) (does f u env w) (does f (ordered ts hs t) env w) (does f (ordered ts hs u) env w) (ordered_means t known env w fits.1) (ordered_means u known env w fits.2)
    ordered_means (Jump l bs) known env w fits = refl
    ordered_means (Halt e bs) known env w fits = refl
