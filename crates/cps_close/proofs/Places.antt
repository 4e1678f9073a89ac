-- Where terms and labels stand in a function, and what is known of them there.
use Rattle.std.proofs.Common.{◌≡◌, ℕ, zero, suc, Bool, true, false, not, nat_eq, ◌&&◌, List, [], ◌∷◌, ◌++◌, Option, Some, refl, sym, subst, if◌then◌else◌, length, slice_get}
use Rattle.std.proofs.lemmas.Bool.{and_parts, or_parts, not-true, false≢true}
use Rattle.std.proofs.lemmas.Option.{none-some}
use Rattle.nv_base.specs.Sets.{is_in, without, all_different, Within}
use Rattle.nv_base.specs.Access.{is_known, all_known, is_primitive, can_move, is_address}
use Rattle.nv_base.proofs.Sets.{same-number}
use Rattle.cps_ir.specs.Term.{Term, Let, Read, Write, If, Fix, Call, Return, Throw, Jump, Halt, Labels, none, label, Fun}
use Rattle.cps_ir.specs.View.{Seen}
use Rattle.cps_ir.specs.Callless.{only_jumps, labels_only_jump}
use Rattle.cps_ir.specs.Formed.{Scoped, scoped, arity, takes, takes_as_many, is_formed, are_formed, defined, labels_defined}
use Rattle.cps_ir.specs.Wide.{Wants, with_wants, wants, labels_want, inside}
use Rattle.cps_close.specs.inner.Closed.{Table, needed, used, bound, labels_in, labels_of_all}
use Rattle.flow_ir.proofs.Members.{either, first-or-rest, out-both, in-right, different-parts}
use Rattle.flow_ir.specs.inner.Scoped.{Apart}
use Rattle.cps_close.proofs.Wants.{inside-more, WantsKnown, known-fix, known-wider, labels-want-known}

-- ---- something holds of each label and what the labels of its `Fix` want

abbrev mutual
  pub Everywhere : (List ℕ → Seen → Type 0) → Wants → Term → Type 0
  Everywhere P phi (Let x a t) = Everywhere P phi t
  Everywhere P phi (Read m xs a t) = Everywhere P phi t
  Everywhere P phi (Write m a bs t) = Everywhere P phi t
  Everywhere P phi (If c a b t u) = Everywhere P phi t × Everywhere P phi u
  Everywhere P phi (Fix ls t) = AllPlaces P (inside phi ls) (labels_want (with_wants phi ls []) ls) ls × Everywhere P (inside phi ls) t
  Everywhere P phi (Call f bs k hs) = true ≡ true
  Everywhere P phi (Return bs) = true ≡ true
  Everywhere P phi (Throw e bs) = true ≡ true
  Everywhere P phi (Jump l bs) = true ≡ true
  Everywhere P phi (Halt e bs) = true ≡ true

  pub AllPlaces : (List ℕ → Seen → Type 0) → Wants → List ℕ → Labels → Type 0
  AllPlaces P phi held none = true ≡ true
  AllPlaces P phi held (label l xs t ls) = P held (record { label = l; params = xs; body = t }) × Everywhere P phi t × AllPlaces P phi held ls

-- it wants no more
abbrev pub Least : Table → List ℕ → Seen → Type 0
Least tab held c = Within (needed tab c.label) held

-- it uses no more
abbrev pub Uses : Table → List ℕ → Seen → Type 0
Uses tab held c = (x : ℕ) → is_in x (used tab c.body) ≡ true → is_in x (bound c) ≡ false → is_in x held ≡ true

-- ---- labels among labels

abbrev pub Among : List Seen → Seen → Type 0
Among cs c = (i : ℕ) × (slice_get cs i ≡ Some c)

pub among-left : (a b : List Seen) (c : Seen) (i : ℕ) → slice_get a i ≡ Some c → slice_get (a ++ b) i ≡ Some c
among-left [] b c i e = absurd (none-some c e)
among-left (d ∷ a) b c zero e = e
among-left (d ∷ a) b c (suc i) e = among-left a b c i e

pub among-right : (a b : List Seen) (c : Seen) (i : ℕ) → slice_get b i ≡ Some c → Among (a ++ b) c
among-right [] b c i e = (i, e)
among-right (d ∷ a) b c i e = let rest = among-right a b c i e in (suc rest.0, rest.1)

abbrev pub Sub : List Seen → List Seen → Type 0
Sub a b = (c : Seen) (i : ℕ) → slice_get a i ≡ Some c → Among b c

pub sub-left : (a b cs : List Seen) → Sub (a ++ b) cs → Sub a cs
sub-left a b cs h c i e = h c i (among-left a b c i e)

pub sub-right : (a b cs : List Seen) → Sub (a ++ b) cs → Sub b cs
sub-right a b cs h c i e = let there = among-right a b c i e in h c there.0 there.1

-- ---- places

pub record Setting : Type 0 where
  pub funs : List Fun
  pub own : ℕ
  pub results : ℕ
  pub tab : Table
  pub cs : List Seen

-- labels in scope want at least what they have
abbrev pub Covers : Table → Scoped → Wants → Type 0
Covers tab ss phi = (l n : ℕ) → takes ss l n ≡ true → Within (needed tab l) (phi l)

pub record Place (s : Setting) (ss : Scoped) (phi : Wants) (known : List ℕ) (t : Term) : Type 0 where
  pub formed : is_formed s.funs s.own s.results ss known t ≡ true
  pub jumps : only_jumps t ≡ true
  pub different : all_different (defined t) ≡ true
  pub apart : Apart known (defined t)
  pub covers : Covers s.tab ss phi
  pub within : WantsKnown ss phi known
  pub least : Everywhere (Least s.tab) phi t
  pub sub : Sub (labels_in t) s.cs

-- labels that want these variables together, and others where they want nothing of one another
pub record Places (s : Setting) (ss : Scoped) (phi alone : Wants) (held known : List ℕ) (ls : Labels) : Type 0 where
  pub formed : are_formed s.funs s.own s.results ss known ls ≡ true
  pub jumps : labels_only_jump ls ≡ true
  pub different : all_different (labels_defined ls) ≡ true
  pub apart : Apart known (labels_defined ls)
  pub covers : Covers s.tab ss phi
  pub within : WantsKnown ss phi known
  pub least : AllPlaces (Least s.tab) phi held ls
  pub sub : Sub (labels_of_all ls) s.cs
  pub limit : Within held known
  pub extra : (m : ℕ) → Within (phi m) (alone m ++ held)
  pub part : Within (labels_want alone ls) held

pub let-place : (s : Setting) (ss : Scoped) (phi : Wants) (known : List ℕ) (x : ℕ) (a : _) (t : Term) → Place s ss phi known (Let x a t) → Place s ss phi (x ∷ known) t
let-place s ss phi known x a t p =
    let parts = and_parts (not (is_in x (defined t))) (all_different (defined t)) p.different in
    record {
      formed = (and_parts (is_primitive known a) (is_formed s.funs s.own s.results ss (x ∷ known) t) p.formed).1;
      jumps = p.jumps;
      different = parts.1;
      apart = λ y i. first-or-rest y x known i (λ (q : nat_eq y x ≡ true). subst (λ z. is_in z (defined t) ≡ false) (sym (same-number y x q)) (not-true (is_in x (defined t)) parts.0)) (λ q. (or_parts (nat_eq y x) (is_in y (defined t)) (p.apart y q)).1);
      covers = p.covers;
      within = known-wider ss phi known (x ∷ []) p.within;
      least = p.least;
      sub = p.sub;
    }

pub read-place : (s : Setting) (ss : Scoped) (phi : Wants) (known : List ℕ) (m : _) (xs : List ℕ) (a : _) (t : Term) → Place s ss phi known (Read m xs a t) → Place s ss phi (xs ++ known) t
read-place s ss phi known m xs a t p =
    let parts = and_parts (is_known known a) (can_move m (length xs) && (is_address m a (length xs) && is_formed s.funs s.own s.results ss (xs ++ known) t)) p.formed in
    let rest = and_parts (can_move m (length xs)) (is_address m a (length xs) && is_formed s.funs s.own s.results ss (xs ++ known) t) parts.1 in
    let last = and_parts (is_address m a (length xs)) (is_formed s.funs s.own s.results ss (xs ++ known) t) rest.1 in
    let split = different-parts xs (defined t) p.different in
    record {
      formed = last.1;
      jumps = p.jumps;
      different = split.1;
      apart = λ y i. either y xs known i (λ q. split.2 y q) (λ q. (out-both y xs (defined t) (p.apart y q)).1);
      covers = p.covers;
      within = known-wider ss phi known xs p.within;
      least = p.least;
      sub = p.sub;
    }

pub write-place : (s : Setting) (ss : Scoped) (phi : Wants) (known : List ℕ) (m : _) (a : _) (bs : _) (t : Term) → Place s ss phi known (Write m a bs t) → Place s ss phi known t
write-place s ss phi known m a bs t p =
    let parts = and_parts (is_known known a) (all_known known bs && (can_move m (length bs) && (is_address m a (length bs) && is_formed s.funs s.own s.results ss known t))) p.formed in
    let rest = and_parts (all_known known bs) (can_move m (length bs) && (is_address m a (length bs) && is_formed s.funs s.own s.results ss known t)) parts.1 in
    let extra = and_parts (can_move m (length bs)) (is_address m a (length bs) && is_formed s.funs s.own s.results ss known t) rest.1 in
    let last = and_parts (is_address m a (length bs)) (is_formed s.funs s.own s.results ss known t) extra.1 in
    record { formed = last.1; jumps = p.jumps; different = p.different; apart = p.apart; covers = p.covers; within = p.within; least = p.least; sub = p.sub }

if-formed : (s : Setting) (ss : Scoped) (known : List ℕ) (c : _) (a b : _) (t u : Term) → is_formed s.funs s.own s.results ss known (If c a b t u) ≡ true
    → (is_formed s.funs s.own s.results ss known t ≡ true) × (is_formed s.funs s.own s.results ss known u ≡ true)
if-formed s ss known c a b t u e =
    let parts = and_parts (is_known known a) (is_known known b && (is_formed s.funs s.own s.results ss known t && is_formed s.funs s.own s.results ss known u)) e in
    let rest = and_parts (is_known known b) (is_formed s.funs s.own s.results ss known t && is_formed s.funs s.own s.results ss known u) parts.1 in
    and_parts (is_formed s.funs s.own s.results ss known t) (is_formed s.funs s.own s.results ss known u) rest.1

pub first-place : (s : Setting) (ss : Scoped) (phi : Wants) (known : List ℕ) (c : _) (a b : _) (t u : Term) → Place s ss phi known (If c a b t u) → Place s ss phi known t
first-place s ss phi known c a b t u p = record {
  formed = (if-formed s ss known c a b t u p.formed).0;
  jumps = (and_parts (only_jumps t) (only_jumps u) p.jumps).0;
  different = (different-parts (defined t) (defined u) p.different).0;
  apart = λ y i. (out-both y (defined t) (defined u) (p.apart y i)).0;
  covers = p.covers;
  within = p.within;
  least = p.least.0;
  sub = sub-left (labels_in t) (labels_in u) s.cs p.sub;
}

pub second-place : (s : Setting) (ss : Scoped) (phi : Wants) (known : List ℕ) (c : _) (a b : _) (t u : Term) → Place s ss phi known (If c a b t u) → Place s ss phi known u
second-place s ss phi known c a b t u p = record {
  formed = (if-formed s ss known c a b t u p.formed).1;
  jumps = (and_parts (only_jumps t) (only_jumps u) p.jumps).1;
  different = (different-parts (defined t) (defined u) p.different).1;
  apart = λ y i. (out-both y (defined t) (defined u) (p.apart y i)).1;
  covers = p.covers;
  within = p.within;
  least = p.least.1;
  sub = sub-right (labels_in t) (labels_in u) s.cs p.sub;
}

-- ---- labels

covers-at : (b : Bool) (tab : Table) (l k n m : ℕ) (o : Option ℕ) (u vs : List ℕ) → nat_eq k l ≡ b → Within (needed tab k) vs → (takes_as_many n o ≡ true → Within (needed tab l) u) → takes_as_many n (if b then Some m else o) ≡ true
    → Within (needed tab l) (if b then vs else u)
covers-at true tab l k n m o u vs same h g e = subst (λ z. Within (needed tab z) vs) (same-number k l same) h
covers-at false tab l k n m o u vs same h g e = g e

covers-fix : (tab : Table) (ls : Labels) (ss : Scoped) (phi psi : Wants) (held : List ℕ) → Covers tab ss phi → AllPlaces (Least tab) psi held ls → Covers tab (scoped ls ++ ss) (with_wants phi ls held)
covers-fix tab none ss phi psi held h g l n e = h l n e
covers-fix tab (label k xs t ls) ss phi psi held h g l n e =
    covers-at (nat_eq k l) tab l k n (length xs) (arity l (scoped ls ++ ss)) (with_wants phi ls held l) held refl g.0 (covers-fix tab ls ss phi psi held h g.2 l n) e

pub fix-held : (s : Setting) (ss : Scoped) (phi : Wants) (known : List ℕ) (ls : Labels) (t : Term) → Place s ss phi known (Fix ls t) → Within (labels_want (with_wants phi ls []) ls) known
fix-held s ss phi known ls t p =
    labels-want-known s.funs s.own s.results ls (scoped ls ++ ss) (with_wants phi ls []) known (and_parts (are_formed s.funs s.own s.results (scoped ls ++ ss) known ls) (is_formed s.funs s.own s.results (scoped ls ++ ss) known t) p.formed).0
    (and_parts (labels_only_jump ls) (only_jumps t) p.jumps).0 (known-fix ls ss phi [] known p.within (λ x i. absurd (false≢true i)))

pub rest-place : (s : Setting) (ss : Scoped) (phi : Wants) (known : List ℕ) (ls : Labels) (t : Term) → Place s ss phi known (Fix ls t) → Place s (scoped ls ++ ss) (inside phi ls) known t
rest-place s ss phi known ls t p = record {
  formed = (and_parts (are_formed s.funs s.own s.results (scoped ls ++ ss) known ls) (is_formed s.funs s.own s.results (scoped ls ++ ss) known t) p.formed).1;
  jumps = (and_parts (labels_only_jump ls) (only_jumps t) p.jumps).1;
  different = (different-parts (defined t) (labels_defined ls) p.different).0;
  apart = λ y i. (out-both y (defined t) (labels_defined ls) (p.apart y i)).0;
  covers = covers-fix s.tab ls ss phi (inside phi ls) (labels_want (with_wants phi ls []) ls) p.covers p.least.0;
  within = known-fix ls ss phi (labels_want (with_wants phi ls []) ls) known p.within (fix-held s ss phi known ls t p);
  least = p.least.1;
  sub = sub-right (labels_of_all ls) (labels_in t) s.cs p.sub;
}

pub label-places : (s : Setting) (ss : Scoped) (phi : Wants) (known : List ℕ) (ls : Labels) (t : Term) → Place s ss phi known (Fix ls t)
    → Places s (scoped ls ++ ss) (inside phi ls) (with_wants phi ls []) (labels_want (with_wants phi ls []) ls) known ls
label-places s ss phi known ls t p = record {
  formed = (and_parts (are_formed s.funs s.own s.results (scoped ls ++ ss) known ls) (is_formed s.funs s.own s.results (scoped ls ++ ss) known t) p.formed).0;
  jumps = (and_parts (labels_only_jump ls) (only_jumps t) p.jumps).0;
  different = (different-parts (defined t) (labels_defined ls) p.different).1;
  apart = λ y i. (out-both y (defined t) (labels_defined ls) (p.apart y i)).1;
  covers = covers-fix s.tab ls ss phi (inside phi ls) (labels_want (with_wants phi ls []) ls) p.covers p.least.0;
  within = known-fix ls ss phi (labels_want (with_wants phi ls []) ls) known p.within (fix-held s ss phi known ls t p);
  least = p.least.0;
  sub = sub-left (labels_of_all ls) (labels_in t) s.cs p.sub;
  limit = fix-held s ss phi known ls t p;
  extra = inside-more phi ls (labels_want (with_wants phi ls []) ls);
  part = λ x e. e;
}

pub body-place : (s : Setting) (ss : Scoped) (phi alone : Wants) (held known : List ℕ) (l : ℕ) (xs : List ℕ) (t : Term) (ls : Labels) → Places s ss phi alone held known (label l xs t ls) → Place s ss phi (xs ++ known) t
body-place s ss phi alone held known l xs t ls p =
    let outer = different-parts (xs ++ defined t) (labels_defined ls) p.different in
    let split = different-parts xs (defined t) outer.0 in
    record {
      formed = (and_parts (is_formed s.funs s.own s.results ss (xs ++ known) t) (are_formed s.funs s.own s.results ss known ls) p.formed).0;
      jumps = (and_parts (only_jumps t) (labels_only_jump ls) p.jumps).0;
      different = split.1;
      apart = λ y i. either y xs known i (λ q. split.2 y q) (λ q. (out-both y xs (defined t) (out-both y (xs ++ defined t) (labels_defined ls) (p.apart y q)).0).1);
      covers = p.covers;
      within = known-wider ss phi known xs p.within;
      least = p.least.1;
      sub = sub-left (labels_in t) (record { label = l; params = xs; body = t } ∷ labels_of_all ls) s.cs p.sub;
    }

pub other-places : (s : Setting) (ss : Scoped) (phi alone : Wants) (held known : List ℕ) (l : ℕ) (xs : List ℕ) (t : Term) (ls : Labels) → Places s ss phi alone held known (label l xs t ls) → Places s ss phi alone held known ls
other-places s ss phi alone held known l xs t ls p = record {
  formed = (and_parts (is_formed s.funs s.own s.results ss (xs ++ known) t) (are_formed s.funs s.own s.results ss known ls) p.formed).1;
  jumps = (and_parts (only_jumps t) (labels_only_jump ls) p.jumps).1;
  different = (different-parts (xs ++ defined t) (labels_defined ls) p.different).1;
  apart = λ y i. (out-both y (xs ++ defined t) (labels_defined ls) (p.apart y i)).1;
  covers = p.covers;
  within = p.within;
  least = p.least.2;
  sub = sub-right (record { label = l; params = xs; body = t } ∷ []) (labels_of_all ls) s.cs (sub-right (labels_in t) (record { label = l; params = xs; body = t } ∷ labels_of_all ls) s.cs p.sub);
  limit = p.limit;
  extra = p.extra;
  part = λ x e. p.part x (in-right x (without (wants alone t) xs) (labels_want alone ls) e);
}

pub label-here : (s : Setting) (ss : Scoped) (phi alone : Wants) (held known : List ℕ) (l : ℕ) (xs : List ℕ) (t : Term) (ls : Labels) → Places s ss phi alone held known (label l xs t ls) → Among s.cs (record { label = l; params = xs; body = t })
label-here s ss phi alone held known l xs t ls p =
    sub-right (labels_in t) (record { label = l; params = xs; body = t } ∷ labels_of_all ls) s.cs p.sub (record { label = l; params = xs; body = t }) 0 refl
