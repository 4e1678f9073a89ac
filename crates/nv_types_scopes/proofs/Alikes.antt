-- Things of the same names in the same order.
use Rattle.std.proofs.Common.{◌≡◌, ◌∙◌, refl, ap, sym, subst, ℕ, Bool, true, false, cond, ◌||◌, ◌&&◌, List, [], ◌∷◌, ◌++◌, bytes_eq, Option, None, Some, is_some, is_none, true≢false}
use Rattle.std.specs.Cmp.Lexicographic.{bytes_decides}
use Rattle.std.proofs.lemmas.Option.{none-some, same_Some}
use Rattle.nv_ast.specs.Tests.{is_among, names_of, look_up}
use Rattle.nv_types_scopes.specs.inner.Standing.{Alike}

pub alike_names : {A B : Type 0} (R : A → B → Type 0) (as_ : List (List ℕ × A)) (bs : List (List ℕ × B)) → Alike R as_ bs → names_of as_ ≡ names_of bs
alike_names R [] [] h = refl
alike_names R [] (b ∷ bs) h = absurd h
alike_names R (a ∷ as_) [] h = absurd h
alike_names R ((x, a) ∷ as_) ((y, b) ∷ bs) h = ap (λ z. z ∷ names_of as_) h.0 ∙ ap (λ l. y ∷ l) (alike_names R as_ bs h.2)

pub alike_append : {A B : Type 0} (R : A → B → Type 0) (as_ cs : List (List ℕ × A)) (bs ds : List (List ℕ × B)) → Alike R as_ bs → Alike R cs ds → Alike R (as_ ++ cs) (bs ++ ds)
alike_append R [] cs [] ds h g = g
alike_append R [] cs (b ∷ bs) ds h g = absurd h
alike_append R (a ∷ as_) cs [] ds h g = absurd h
alike_append R (a ∷ as_) cs (b ∷ bs) ds h g = (h.0, h.1, alike_append R as_ cs bs ds h.2 g)

pub alike_map : {A B : Type 0} (R S : A → B → Type 0) → ((a : A) (b : B) → R a b → S a b) → (as_ : List (List ℕ × A)) (bs : List (List ℕ × B)) → Alike R as_ bs → Alike S as_ bs
alike_map R S f [] [] h = tt
alike_map R S f [] (b ∷ bs) h = absurd h
alike_map R S f (a ∷ as_) [] h = absurd h
alike_map R S f (a ∷ as_) (b ∷ bs) h = (h.0, f a.1 b.1 h.1, alike_map R S f as_ bs h.2)

pub alike_nothing : {A B : Type 0} (R : A → B → Type 0) (as_ : List (List ℕ × A)) → Alike R as_ [] → as_ ≡ []
alike_nothing R [] h = refl
alike_nothing R (a ∷ as_) h = absurd h

-- of two that may be there
abbrev pub Both : {A B : Type 0} → (A → B → Type 0) → Option A → Option B → Type 0
Both R None None = Unit {0}
Both R (Some a) (Some b) = R a b
Both R _ _ = ⊥

pub alike_at : {A B : Type 0} (R : A → B → Type 0) (as_ : List (List ℕ × A)) (bs : List (List ℕ × B)) → Alike R as_ bs → (x : List ℕ) → Both R (look_up x as_) (look_up x bs)
alike_at R [] [] h x = tt
alike_at R [] (b ∷ bs) h x = absurd h
alike_at R (a ∷ as_) [] h x = absurd h
alike_at {A = A} {B = B} R ((y, a) ∷ as_) ((z, b) ∷ bs) h x = subst (λ w. Both R (look_up x ((y, a) ∷ as_)) (look_up x ((w, b) ∷ bs))) h.0 (by (bytes_eq x y) (alike_at R as_ bs h.2 x))
  where
    by : (t : Bool) → Both R (look_up x as_) (look_up x bs) → Both R (cond t (Some a) (look_up x as_)) (cond t (Some b) (look_up x bs))
    by true rest = h.1
    by false rest = rest

pub both_none : {A B : Type 0} (R : A → B → Type 0) (a : Option A) (b : Option B) → Both R a b → a ≡ None → b ≡ None
both_none R None None h e = refl
both_none R (Some a) (Some b) h e = absurd (none-some a (sym e))
both_none R None (Some b) h e = absurd h
both_none R (Some a) None h e = absurd h

pub both_some : {A B : Type 0} (R : A → B → Type 0) (a : Option A) (b : Option B) (x : A) (y : B) → Both R a b → a ≡ Some x → b ≡ Some y → R x y
both_some {A = A} {B = B} R a b x y h e f = subst (λ (o : Option B). Both R (Some x) o) f (subst (λ (o : Option A). Both R o b) e h)

pub both_found : {A B : Type 0} (R : A → B → Type 0) (a : Option A) (b : Option B) (x : A) → Both R a b → a ≡ Some x → (y : B) × (b ≡ Some y) × R x y
both_found R (Some z) (Some y) x h e = (y, refl, subst (λ w. R w y) (same_Some z x e) h)
both_found R None None x h e = absurd (none-some x e)
both_found R None (Some y) x h e = absurd h
both_found R (Some z) None x h e = absurd h

-- ---- names
pub among_look_up : {A : Type 0} (x : List ℕ) (es : List (List ℕ × A)) → is_some (look_up x es) ≡ is_among x (names_of es)
among_look_up x [] = refl
among_look_up {A = A} x ((y, a) ∷ es) = by (bytes_eq x y) (among_look_up x es)
  where
    by : (t : Bool) → is_some (look_up x es) ≡ is_among x (names_of es) → is_some (cond t (Some a) (look_up x es)) ≡ (t || is_among x (names_of es))
    by true rest = refl
    by false rest = rest

none_of : {A : Type 0} (o : Option A) → is_some o ≡ false → o ≡ None
none_of None e = refl
none_of (Some x) e = absurd (true≢false e)

pub absent : {A : Type 0} (x : List ℕ) (es : List (List ℕ × A)) → is_among x (names_of es) ≡ false → look_up x es ≡ None
absent x es e = none_of (look_up x es) (among_look_up x es ∙ e)

pub names_of-append : {A : Type 0} (as_ bs : List (List ℕ × A)) → names_of (as_ ++ bs) ≡ names_of as_ ++ names_of bs
names_of-append [] bs = refl
names_of-append ((x, a) ∷ as_) bs = ap (λ l. x ∷ l) (names_of-append as_ bs)

pub look_up-append : {A : Type 0} (x : List ℕ) (as_ bs : List (List ℕ × A)) → look_up x as_ ≡ None → look_up x (as_ ++ bs) ≡ look_up x bs
look_up-append x [] bs e = refl
look_up-append {A = A} x ((y, a) ∷ as_) bs e = by (bytes_eq x y) (λ q. look_up-append x as_ bs q) e
  where
    by : (t : Bool) → (look_up x as_ ≡ None → look_up x (as_ ++ bs) ≡ look_up x bs) → cond t (Some a) (look_up x as_) ≡ None → cond t (Some a) (look_up x (as_ ++ bs)) ≡ look_up x bs
    by true rest q = absurd (none-some a (sym q))
    by false rest q = rest q

pub look_up-here : {A : Type 0} (x : List ℕ) (a : A) (es : List (List ℕ × A)) → look_up x ((x, a) ∷ es) ≡ Some a
look_up-here x a es = ap (λ t. cond t (Some a) (look_up x es)) ((bytes_decides x x).1 refl)

-- things of the same names: what is there of some is there of the others
pub same_there : {A B : Type 0} (x : List ℕ) (as_ : List (List ℕ × A)) (bs : List (List ℕ × B)) → names_of as_ ≡ names_of bs → is_some (look_up x as_) ≡ is_some (look_up x bs)
same_there x as_ bs e = among_look_up x as_ ∙ ap (is_among x) e ∙ sym (among_look_up x bs)

some_or_none : {A B : Type 0} (a : Option A) (b : Option B) → is_some a ≡ is_some b → (is_some a && is_none b) ≡ false
some_or_none None b e = refl
some_or_none (Some x) (Some y) e = refl
some_or_none (Some x) None e = e

pub none_waits : {A B : Type 0} (x : List ℕ) (as_ : List (List ℕ × A)) (bs : List (List ℕ × B)) → names_of as_ ≡ names_of bs → (is_some (look_up x as_) && is_none (look_up x bs)) ≡ false
none_waits x as_ bs e = some_or_none (look_up x as_) (look_up x bs) (same_there x as_ bs e)
