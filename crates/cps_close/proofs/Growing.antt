-- A set beside a list of variables, which says what is in the list or gone.
use Rattle.std.proofs.Common.{◌≡◌, ℕ, ◌+◌, ◌<◌, nat_eq, Bool, true, false, not, ◌||◌, List, [], ◌∷◌, ◌++◌, drop, get_or, length, if◌then◌else◌, refl, sym, ap, subst, ◌∙◌}
use Rattle.std.proofs.lemmas.Bool.{not-true, not-false}
use Rattle.std.proofs.lemmas.List.{at_drop_more}
use Rattle.nv_base.specs.Sets.{is_in}
use Rattle.nv_base.proofs.Sets.{same-number, other-number, in-append}
use Rattle.cps_close.specs.inner.Closed.{noted, noted_all}

turned : (p q : Bool) → (p || (q || false)) ≡ (q || p)
turned true true = refl
turned true false = refl
turned false true = refl
turned false false = refl

-- the set that has what is gone, and then what is wanted
pub members-start : (gone needed now : List ℕ) (q : ℕ) (b0 b1 b2 : Bool) → b0 ≡ false → b1 ≡ (is_in q gone || b0) → b2 ≡ (is_in q needed || b1) → now ≡ needed → b2 ≡ is_in q (gone ++ now)
members-start gone needed now q b0 b1 b2 e0 e1 e2 e =
    e2 ∙ ap (λ b. is_in q needed || b) (e1 ∙ ap (λ b. is_in q gone || b) e0) ∙ turned (is_in q needed) (is_in q gone) ∙ sym (in-append q gone needed) ∙ ap (λ l. is_in q (gone ++ l)) (sym e)

-- the list with one more, if it isn't there
abbrev pub added : Bool → List ℕ → ℕ → List ℕ
added b v x = if b then v ++ x ∷ [] else v

swapped : (g p e : Bool) → (if e then true else (g || p)) ≡ (g || (p || (e || false)))
swapped true p true = refl
swapped true p false = refl
swapped false true true = refl
swapped false true false = refl
swapped false false true = refl
swapped false false false = refl

turned-number : (x q : ℕ) (b : Bool) → nat_eq x q ≡ b → nat_eq x q ≡ nat_eq q x
turned-number x q true e = ap (λ z. nat_eq x z) (sym (same-number x q e)) ∙ ap (λ z. nat_eq z x) (same-number x q e)
turned-number x q false e = e ∙ sym (other-number x q e)

member-added : (gone v : List ℕ) (x q : ℕ) → (if nat_eq x q then true else is_in q (gone ++ v)) ≡ is_in q (gone ++ (v ++ x ∷ []))
member-added gone v x q =
    ap (λ b. if b then true else is_in q (gone ++ v)) (turned-number x q (nat_eq x q) refl) ∙ ap (λ b. if nat_eq q x then true else b) (in-append q gone v) ∙ swapped (is_in q gone) (is_in q v) (nat_eq q x)
    ∙ ap (λ b. is_in q gone || b) (sym (in-append q v (x ∷ []))) ∙ sym (in-append q gone (v ++ x ∷ []))

member-there : (all : List ℕ) (x q : ℕ) (b : Bool) → is_in x all ≡ true → nat_eq x q ≡ b → (if b then true else is_in q all) ≡ is_in q all
member-there all x q true i e = sym (subst (λ z. is_in z all ≡ true) (same-number x q e) i)
member-there all x q false i e = refl

members-at : (b : Bool) (gone v : List ℕ) (x q : ℕ) → b ≡ not (is_in x (gone ++ v)) → (if nat_eq x q then true else is_in q (gone ++ v)) ≡ is_in q (gone ++ added b v x)
members-at true gone v x q e = member-added gone v x q
members-at false gone v x q e = member-there (gone ++ v) x q (nat_eq x q) (not-false (is_in x (gone ++ v)) (sym e)) refl

pub members-turn : (has : ℕ → Bool) (gone v now : List ℕ) (b after : Bool) (x q : ℕ) → ((z : ℕ) → has z ≡ is_in z (gone ++ v)) → b ≡ not (has x) → now ≡ added b v x → after ≡ (if nat_eq x q then true else has q) → after ≡ is_in q (gone ++ now)
members-turn has gone v now b after x q h new is e =
    e ∙ ap (λ c. if nat_eq x q then true else c) (h q) ∙ members-at b gone v x q (new ∙ ap not (h x)) ∙ ap (λ l. is_in q (gone ++ l)) (sym is)

noted-at : (b : Bool) (gone v : List ℕ) (x : ℕ) → b ≡ not (is_in x (gone ++ v)) → added b v x ≡ noted gone v x
noted-at true gone v x e = ap (λ c. if c then v else v ++ x ∷ []) (sym (not-true (is_in x (gone ++ v)) (sym e)))
noted-at false gone v x e = ap (λ c. if c then v else v ++ x ∷ []) (sym (not-false (is_in x (gone ++ v)) (sym e)))

pub list-turn : (has : ℕ → Bool) (gone v now used : List ℕ) (b : Bool) (i d : ℕ) → ((z : ℕ) → has z ≡ is_in z (gone ++ v)) → b ≡ not (has (get_or used i d)) → now ≡ added b v (get_or used i d) → i < length used → noted_all gone now (drop (i + 1) used) ≡ noted_all gone v (drop i used)
list-turn has gone v now used b i d h new is lt =
    let x = get_or used i d in
    ap (λ l. noted_all gone l (drop (i + 1) used)) (is ∙ noted-at b gone v (get_or used i d) (new ∙ ap not (h (get_or used i d)))) ∙ sym (at_drop_more (noted_all gone v) used i d lt)
