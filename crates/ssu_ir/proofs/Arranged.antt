-- The roots of a forest in another order: different roots may come first.
use Rattle.std.proofs.Common.{◌≡◌, ℕ, true, false, not, nat_eq, ◌&&◌, ◌||◌, ⊎_elim, List, [], ◌∷◌, ◌++◌, refl, sym, ap, ◌∙◌, subst, arith, append_assoc}
use Rattle.std.specs.List.{list_all}
use Rattle.std.proofs.lemmas.Bool.{and_parts, or_cases, or_parts, not-true}
use Rattle.nv_base.specs.Sets.{is_in, all_different}
use Rattle.nv_base.proofs.Sets.{same-number, other-number}
use Rattle.ssu_ir.specs.Slots.{Placed, times_all, weight_all, Slots, occupied, filled, AllStand}
use Rattle.ssu_ir.specs.Build.{Rooted, ids, rooted, rooted_all, Forest, AreDifferentRoots}
use Rattle.ssu_ir.proofs.Trees.{split, times_all-append, weight_all-append, all_stand_front, all_stand_back}

pub all_stand-append : (slots : Slots) (a b : List Placed) → AllStand slots a → AllStand slots b → AllStand slots (a ++ b)
all_stand-append slots [] b h g = g
all_stand-append slots (p ∷ a) b h g = (h.0, all_stand-append slots a b h.1 g)

rooted_all-append : (a b : List Placed) → rooted_all (a ++ b) ≡ rooted_all a ++ rooted_all b
rooted_all-append [] b = refl
rooted_all-append (p ∷ a) b = ap (λ l. rooted p ∷ l) (rooted_all-append a b)

-- roots in three runs: the second may come first
pub brought : (slots : Slots) (a b c : List Rooted) → Forest slots (a ++ (b ++ c)) → Forest slots (b ++ (a ++ c))
brought slots a b c f =
    let s = split f.placed a (b ++ c) f.as_said in
    let t = split s.back b c s.is_back in
    let whole : f.placed ≡ s.front ++ (t.front ++ t.back) = s.whole ∙ ap (λ l. s.front ++ l) t.whole in
    let P : List Placed → Type 0 = AllStand slots in
    let stand : AllStand slots (s.front ++ (t.front ++ t.back)) = subst P whole f.stand in
    let later : AllStand slots (t.front ++ t.back) = all_stand_back slots s.front (t.front ++ t.back) stand in
    record {
      placed = t.front ++ (s.front ++ t.back);
      as_said =
          rooted_all-append t.front (s.front ++ t.back) ∙ ap (λ l. rooted_all t.front ++ l) (rooted_all-append s.front t.back)
          ∙ ap (λ l. l ++ (rooted_all s.front ++ rooted_all t.back)) t.is_front
          ∙ ap (λ l. b ++ (l ++ rooted_all t.back)) s.is_front
          ∙ ap (λ l. b ++ (a ++ l)) t.is_back;
      stand =
          all_stand-append slots t.front (s.front ++ t.back) (all_stand_front slots t.front t.back later)
          (all_stand-append slots s.front t.back (all_stand_front slots s.front (t.front ++ t.back) stand) (all_stand_back slots t.front t.back later));
      once = λ i.
          let all : times_all i (s.front ++ (t.front ++ t.back)) ≡ occupied slots i = ap (times_all i) (sym whole) ∙ f.once i in
          omega (arith, all, times_all-append i s.front (t.front ++ t.back), times_all-append i t.front t.back, times_all-append i t.front (s.front ++ t.back), times_all-append i s.front t.back);
      many =
          let all : weight_all (s.front ++ (t.front ++ t.back)) ≡ filled slots = ap weight_all (sym whole) ∙ f.many in
          omega (arith, all, weight_all-append s.front (t.front ++ t.back), weight_all-append t.front t.back, weight_all-append t.front (s.front ++ t.back), weight_all-append s.front t.back);
    }

one_out : (slots : Slots) (front a : List Rooted) (it : Rooted) (b : List Rooted) → Forest slots (front ++ (a ++ it ∷ b)) → Forest slots (it ∷ (front ++ (a ++ b)))
one_out slots front a it b f =
    let P : List Rooted → Type 0 = Forest slots in
    let g : Forest slots ((front ++ a) ++ (it ∷ [] ++ b)) = subst P (sym (append_assoc front a (it ∷ b))) f in
    let h : Forest slots (it ∷ ((front ++ a) ++ b)) = brought slots (front ++ a) (it ∷ []) b g in
    subst P (ap (λ l. it ∷ l) (append_assoc front a b)) h

-- ---- different roots, by their numbers

record Found (rs : List Rooted) (k : ℕ) : Type 0 where
  before : List Rooted
  it : Rooted
  after : List Rooted
  whole : rs ≡ before ++ it ∷ after
  number : it.0 ≡ k

found : (rs : List Rooted) (k : ℕ) → is_in k (ids rs) ≡ true → Found rs k
found [] k h = absurd (cc)
found (r ∷ rs) k h =
    ⊎_elim
    (λ (e : nat_eq k r.0 ≡ true). record { before = []; it = r; after = rs; whole = refl; number = sym (same-number k r.0 e) })
    (λ (e : is_in k (ids rs) ≡ true). let d = found rs k e in record { before = r ∷ d.before; it = d.it; after = d.after; whole = ap (λ l. r ∷ l) d.whole; number = d.number })
    (or_cases (nat_eq k r.0) (is_in k (ids rs)) h)

-- what was there and is another number is in what is left
left_in : (a b : List Rooted) (it : Rooted) (k : ℕ) → nat_eq k it.0 ≡ false → is_in k (ids (a ++ it ∷ b)) ≡ is_in k (ids (a ++ b))
left_in [] b it k n = ap (λ e. e || is_in k (ids b)) n
left_in (r ∷ a) b it k n = ap (λ e. nat_eq k r.0 || e) (left_in a b it k n)

all_left_in : (a b : List Rooted) (it : Rooted) (ks : List ℕ) → is_in it.0 ks ≡ false → list_all (λ k. is_in k (ids (a ++ it ∷ b))) ks ≡ list_all (λ k. is_in k (ids (a ++ b))) ks
all_left_in a b it [] n = refl
all_left_in a b it (k ∷ ks) n =
    let p = or_parts (nat_eq it.0 k) (is_in it.0 ks) n in
    ap (λ e. e && list_all (λ k. is_in k (ids (a ++ it ∷ b))) ks) (left_in a b it k (other-number it.0 k p.0))
    ∙ ap (λ e. is_in k (ids (a ++ b)) && e) (all_left_in a b it ks p.1)

pub record Arranged (slots : Slots) (front : List Rooted) (ks : List ℕ) : Type 0 where
  pub taken : List Rooted
  pub rest : List Rooted
  pub are : ids taken ≡ ks
  pub forest : Forest slots (taken ++ (front ++ rest))

-- different roots may come first, in any order
arranged_behind : (slots : Slots) (front rs : List Rooted) (ks : List ℕ) → all_different ks ≡ true → list_all (λ k. is_in k (ids rs)) ks ≡ true → Forest slots (front ++ rs) → Arranged slots front ks
arranged_behind slots front rs [] d h f = record { taken = []; rest = rs; are = refl; forest = f }
arranged_behind slots front rs (k ∷ ks) d h f =
    let different = and_parts (not (is_in k ks)) (all_different ks) d in
    let there = and_parts (is_in k (ids rs)) (list_all (λ j. is_in j (ids rs)) ks) h in
    let w = found rs k there.0 in
    let P : List Rooted → Type 0 = λ l. Forest slots (front ++ l) in
    let H : List Rooted → Type 0 = λ l. list_all (λ j. is_in j (ids l)) ks ≡ true in
    let L : ℕ → Type 0 = λ j. is_in j ks ≡ false in
    let lacks : is_in w.it.0 ks ≡ false = subst L (sym w.number) (not-true (is_in k ks) different.0) in
    let moved : Forest slots ((w.it ∷ front) ++ (w.before ++ w.after)) = one_out slots front w.before w.it w.after (subst P w.whole f) in
    let left : list_all (λ j. is_in j (ids (w.before ++ w.after))) ks ≡ true = sym (all_left_in w.before w.after w.it ks lacks) ∙ subst H w.whole there.1 in
    let t = arranged_behind slots (w.it ∷ front) (w.before ++ w.after) ks different.1 left moved in
    record {
      taken = w.it ∷ t.taken;
      rest = t.rest;
      are = ap (λ j. j ∷ ids t.taken) w.number ∙ ap (λ l. k ∷ l) t.are;
      forest = brought slots t.taken (w.it ∷ []) (front ++ t.rest) t.forest;
    }

pub arranged : (slots : Slots) (rs : List Rooted) (ks : List ℕ) → AreDifferentRoots rs ks → Forest slots rs → Arranged slots [] ks
arranged slots rs ks d f = arranged_behind slots [] rs ks d.different d.roots_all f
